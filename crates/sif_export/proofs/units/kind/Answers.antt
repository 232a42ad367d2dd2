use Rattle.std.proofs.Common.{◌∙◌, ap, sym, ◌∷◌, [], codes, List, ℕ}
use Rattle.std.proofs.lemmas.Result.{err_from_is_err_and}
use Rattle.sif_export.specs.ExportText.{kind_texts, string_text, pair_text, class_text, comment_text, body_text, method_text}
use Rattle.sif_export.proofs.PieceLemmas.{gains_one, first_fails, gains_two}
use Rattle.sif_export.proofs.units.kind.Goals as goal

pub returns-in-Version-clause-text : goal.returns-in-Version-clause-text
returns-in-Version-clause-text g c =
    gains_one _ _ _ (string_text (codes "Smalltalk") (codes "interchangeVersion:") c.as_bytes.result.now) _ c.string_element.ensures.text (ap kind_texts c.in-Version.is ∙ ap (λ (t : List ℕ). string_text (codes "Smalltalk") (codes "interchangeVersion:") t ∷ []) (sym c.as_bytes.ensures))

pub returns-in-Class-clause-text : goal.returns-in-Class-clause-text
returns-in-Class-clause-text g c =
    gains_one _ _ _ (class_text c.in-Class.class) _ c.class_element.ensures.text (ap kind_texts c.in-Class.is)

pub returns-in-GlobalVariable-clause-text : goal.returns-in-GlobalVariable-clause-text
returns-in-GlobalVariable-clause-text g c =
    gains_one _ _ _ (string_text (codes "Global") (codes "variable:") c.as_bytes-in-GlobalVariable.result.now) _ c.string_element-in-GlobalVariable.ensures.text (ap kind_texts c.in-GlobalVariable.is ∙ ap (λ (t : List ℕ). string_text (codes "Global") (codes "variable:") t ∷ []) (sym c.as_bytes-in-GlobalVariable.ensures))

pub returns-in-GlobalConstant-clause-text : goal.returns-in-GlobalConstant-clause-text
returns-in-GlobalConstant-clause-text g c =
    gains_one _ _ _ (string_text (codes "Global") (codes "constant:") c.as_bytes-in-GlobalConstant.result.now) _ c.string_element-in-GlobalConstant.ensures.text (ap kind_texts c.in-GlobalConstant.is ∙ ap (λ (t : List ℕ). string_text (codes "Global") (codes "constant:") t ∷ []) (sym c.as_bytes-in-GlobalConstant.ensures))

pub returns-in-Pool-clause-text : goal.returns-in-Pool-clause-text
returns-in-Pool-clause-text g c =
    gains_one _ _ _ (string_text (codes "Pool") (codes "named:") c.as_bytes-in-Pool.result.now) _ c.string_element-in-Pool.ensures.text (ap kind_texts c.in-Pool.is ∙ ap (λ (t : List ℕ). string_text (codes "Pool") (codes "named:") t ∷ []) (sym c.as_bytes-in-Pool.ensures))

pub returns-in-PoolVariable-clause-text : goal.returns-in-PoolVariable-clause-text
returns-in-PoolVariable-clause-text g c =
    gains_one _ _ _ (string_text c.as_bytes-in-PoolVariable.result.now (codes "variable:") c.as_bytes-in-PoolVariable-2.result.now) _ c.string_element-in-PoolVariable.ensures.text (ap kind_texts c.in-PoolVariable.is ∙ ap (λ (t : List ℕ). string_text t (codes "variable:") c.in-PoolVariable.name ∷ []) (sym c.as_bytes-in-PoolVariable.ensures) ∙ ap (λ (t : List ℕ). string_text c.as_bytes-in-PoolVariable.result.now (codes "variable:") t ∷ []) (sym c.as_bytes-in-PoolVariable-2.ensures))

pub returns-in-PoolConstant-clause-text : goal.returns-in-PoolConstant-clause-text
returns-in-PoolConstant-clause-text g c =
    gains_one _ _ _ (string_text c.as_bytes-in-PoolConstant.result.now (codes "constant:") c.as_bytes-in-PoolConstant-2.result.now) _ c.string_element-in-PoolConstant.ensures.text (ap kind_texts c.in-PoolConstant.is ∙ ap (λ (t : List ℕ). string_text t (codes "constant:") c.in-PoolConstant.name ∷ []) (sym c.as_bytes-in-PoolConstant.ensures) ∙ ap (λ (t : List ℕ). string_text c.as_bytes-in-PoolConstant.result.now (codes "constant:") t ∷ []) (sym c.as_bytes-in-PoolConstant-2.ensures))

pub returns-in-Comment-clause-text : goal.returns-in-Comment-clause-text
returns-in-Comment-clause-text g c =
    gains_one _ _ _ (comment_text c.in-Comment.comments) _ c.comment_element.ensures.text (ap kind_texts c.in-Comment.is)

pub returns-in_err-pair_element-in-Initializer-clause-text : goal.returns-in_err-pair_element-in-Initializer-clause-text
returns-in_err-pair_element-in-Initializer-clause-text g c =
    let p = err_from_is_err_and c.from_residual.result c.from_residual.ensures.1 in
    rw p.1 (first_fails _ _ (pair_text c.as_bytes-in-Initializer.result.now (codes "initializer")) (body_text c.in-Initializer.body) _ c.in_err-pair_element-in-Initializer.ensures.text (ap kind_texts c.in-Initializer.is ∙ ap (λ (t : List ℕ). pair_text t (codes "initializer") ∷ body_text c.in-Initializer.body ∷ []) (sym c.as_bytes-in-Initializer.ensures)))

pub returns-in_ok-pair_element-in-Initializer-clause-text : goal.returns-in_ok-pair_element-in-Initializer-clause-text
returns-in_ok-pair_element-in-Initializer-clause-text g c =
    gains_two _ _ _ _ (pair_text c.as_bytes-in-Initializer.result.now (codes "initializer")) (body_text c.in-Initializer.body) _ c.in_ok-pair_element-in-Initializer.ensures.text c.body_element.ensures.text (ap kind_texts c.in-Initializer.is ∙ ap (λ (t : List ℕ). pair_text t (codes "initializer") ∷ body_text c.in-Initializer.body ∷ []) (sym c.as_bytes-in-Initializer.ensures))

pub returns-in_err-string_element-in-PoolInitializer-clause-text : goal.returns-in_err-string_element-in-PoolInitializer-clause-text
returns-in_err-string_element-in-PoolInitializer-clause-text g c =
    let p = err_from_is_err_and c.from_residual-in_err-string_element-in-PoolInitializer.result c.from_residual-in_err-string_element-in-PoolInitializer.ensures.1 in
    rw p.1 (first_fails _ _ (string_text c.as_bytes-in-PoolInitializer.result.now (codes "initializerFor:") c.as_bytes-in-PoolInitializer-2.result.now) (body_text c.in-PoolInitializer.body) _ c.in_err-string_element-in-PoolInitializer.ensures.text (ap kind_texts c.in-PoolInitializer.is ∙ ap (λ (t : List ℕ). string_text t (codes "initializerFor:") c.in-PoolInitializer.name ∷ body_text c.in-PoolInitializer.body ∷ []) (sym c.as_bytes-in-PoolInitializer.ensures) ∙ ap (λ (t : List ℕ). string_text c.as_bytes-in-PoolInitializer.result.now (codes "initializerFor:") t ∷ body_text c.in-PoolInitializer.body ∷ []) (sym c.as_bytes-in-PoolInitializer-2.ensures)))

pub returns-in_ok-string_element-in-PoolInitializer-clause-text : goal.returns-in_ok-string_element-in-PoolInitializer-clause-text
returns-in_ok-string_element-in-PoolInitializer-clause-text g c =
    gains_two _ _ _ _ (string_text c.as_bytes-in-PoolInitializer.result.now (codes "initializerFor:") c.as_bytes-in-PoolInitializer-2.result.now) (body_text c.in-PoolInitializer.body) _ c.in_ok-string_element-in-PoolInitializer.ensures.text c.body_element-in-PoolInitializer.ensures.text (ap kind_texts c.in-PoolInitializer.is ∙ ap (λ (t : List ℕ). string_text t (codes "initializerFor:") c.in-PoolInitializer.name ∷ body_text c.in-PoolInitializer.body ∷ []) (sym c.as_bytes-in-PoolInitializer.ensures) ∙ ap (λ (t : List ℕ). string_text c.as_bytes-in-PoolInitializer.result.now (codes "initializerFor:") t ∷ body_text c.in-PoolInitializer.body ∷ []) (sym c.as_bytes-in-PoolInitializer-2.ensures))

pub returns-in_err-pair_element-in-ProgramInitializer-clause-text : goal.returns-in_err-pair_element-in-ProgramInitializer-clause-text
returns-in_err-pair_element-in-ProgramInitializer-clause-text g c =
    let p = err_from_is_err_and c.from_residual-in_err-pair_element-in-ProgramInitializer.result c.from_residual-in_err-pair_element-in-ProgramInitializer.ensures.1 in
    rw p.1 (first_fails _ _ (pair_text (codes "Global") (codes "initializer")) (body_text c.in-ProgramInitializer.body) _ c.in_err-pair_element-in-ProgramInitializer.ensures.text (ap kind_texts c.in-ProgramInitializer.is))

pub returns-in_ok-pair_element-in-ProgramInitializer-clause-text : goal.returns-in_ok-pair_element-in-ProgramInitializer-clause-text
returns-in_ok-pair_element-in-ProgramInitializer-clause-text g c =
    gains_two _ _ _ _ (pair_text (codes "Global") (codes "initializer")) (body_text c.in-ProgramInitializer.body) _ c.in_ok-pair_element-in-ProgramInitializer.ensures.text c.body_element-in-ProgramInitializer.ensures.text (ap kind_texts c.in-ProgramInitializer.is)

pub returns-in_err-pair_element-in-Method-clause-text : goal.returns-in_err-pair_element-in-Method-clause-text
returns-in_err-pair_element-in-Method-clause-text g c =
    let p = err_from_is_err_and c.from_residual-in_err-pair_element-in-Method.result c.from_residual-in_err-pair_element-in-Method.ensures.1 in
    rw p.1 (first_fails _ _ (pair_text c.as_bytes-in-Method.result.now (codes "method")) (method_text c.in-Method.method) _ c.in_err-pair_element-in-Method.ensures.text (ap kind_texts c.in-Method.is ∙ ap (λ (t : List ℕ). pair_text t (codes "method") ∷ method_text c.in-Method.method ∷ []) (sym c.as_bytes-in-Method.ensures)))

pub returns-in_ok-pair_element-in-Method-clause-text : goal.returns-in_ok-pair_element-in-Method-clause-text
returns-in_ok-pair_element-in-Method-clause-text g c =
    gains_two _ _ _ _ (pair_text c.as_bytes-in-Method.result.now (codes "method")) (method_text c.in-Method.method) _ c.in_ok-pair_element-in-Method.ensures.text c.method_element.ensures.text (ap kind_texts c.in-Method.is ∙ ap (λ (t : List ℕ). pair_text t (codes "method") ∷ method_text c.in-Method.method ∷ []) (sym c.as_bytes-in-Method.ensures))

pub returns-in_err-pair_element-in-ClassMethod-clause-text : goal.returns-in_err-pair_element-in-ClassMethod-clause-text
returns-in_err-pair_element-in-ClassMethod-clause-text g c =
    let p = err_from_is_err_and c.from_residual-in_err-pair_element-in-ClassMethod.result c.from_residual-in_err-pair_element-in-ClassMethod.ensures.1 in
    rw p.1 (first_fails _ _ (pair_text c.as_bytes-in-ClassMethod.result.now (codes "classMethod")) (method_text c.in-ClassMethod.method) _ c.in_err-pair_element-in-ClassMethod.ensures.text (ap kind_texts c.in-ClassMethod.is ∙ ap (λ (t : List ℕ). pair_text t (codes "classMethod") ∷ method_text c.in-ClassMethod.method ∷ []) (sym c.as_bytes-in-ClassMethod.ensures)))

pub returns-in_ok-pair_element-in-ClassMethod-clause-text : goal.returns-in_ok-pair_element-in-ClassMethod-clause-text
returns-in_ok-pair_element-in-ClassMethod-clause-text g c =
    gains_two _ _ _ _ (pair_text c.as_bytes-in-ClassMethod.result.now (codes "classMethod")) (method_text c.in-ClassMethod.method) _ c.in_ok-pair_element-in-ClassMethod.ensures.text c.method_element-in-ClassMethod.ensures.text (ap kind_texts c.in-ClassMethod.is ∙ ap (λ (t : List ℕ). pair_text t (codes "classMethod") ∷ method_text c.in-ClassMethod.method ∷ []) (sym c.as_bytes-in-ClassMethod.ensures))
