use Rattle.std.proofs.Common.{[], ◌∷◌, ◌++◌, codes, refl}
use Rattle.std.proofs.lemmas.List.{append_assoc}
use Rattle.std.proofs.lemmas.Result.{err_from_is_err_and}
use Rattle.st_collections.specs.Kinds.{exception_text}
use Rattle.st_transcript.proofs.Gaining.{Wrote, wrote_first, wrote_more, wrote_part, wrote_end}
use Rattle.st_transcript.proofs.written.put_warning.Goals as goal

pub returns-in_err-put-clause-text : goal.returns-in_err-put-clause-text
returns-in_err-put-clause-text g c =
    let p = err_from_is_err_and c.from_residual.result c.from_residual.ensures.1 in
    let text = exception_text (g.P.ProgramFacts.meaning c.args.program.now) (g.H.Heap.meaning c.args.heap.now).store c.args.exception in
    rw p.1 (wrote_part _ (codes "Warning: ") (text ++ 10 ∷ []) _ _ _ (wrote_first _ _ _ (append_assoc (codes "Warning: ") text (10 ∷ []))) c.in_err-put.ensures.text)

pub returns-in_err-put_exception-clause-text : goal.returns-in_err-put_exception-clause-text
returns-in_err-put_exception-clause-text g c =
    let p = err_from_is_err_and c.from_residual-in_err-put_exception.result c.from_residual-in_err-put_exception.ensures.1 in
    let text = exception_text (g.P.ProgramFacts.meaning c.args.program.now) (g.H.Heap.meaning c.args.heap.now).store c.args.exception in
    let first = wrote_more ((codes "Warning: " ++ text) ++ 10 ∷ []) (codes "Warning: ") (text ++ 10 ∷ []) _ _ _ (wrote_first _ _ _ (append_assoc (codes "Warning: ") text (10 ∷ []))) c.in_ok-put.ensures.text in
    rw p.1 (wrote_part _ text (10 ∷ []) _ _ _ first c.in_err-put_exception.ensures.text)

pub returns-clause-text : goal.returns-clause-text
returns-clause-text g c =
    let text = exception_text (g.P.ProgramFacts.meaning c.args.program.now) (g.H.Heap.meaning c.args.heap.now).store c.args.exception in
    let first = wrote_more ((codes "Warning: " ++ text) ++ 10 ∷ []) (codes "Warning: ") (text ++ 10 ∷ []) _ _ _ (wrote_first _ _ _ (append_assoc (codes "Warning: ") text (10 ∷ []))) c.in_ok-put.ensures.text in
    wrote_end _ (10 ∷ []) _ _ _ c.put-2.result (wrote_more ((codes "Warning: " ++ text) ++ 10 ∷ []) text (10 ∷ []) _ _ _ first c.in_ok-put_exception.ensures.text) c.put-2.ensures.text
