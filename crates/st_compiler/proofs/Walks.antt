-- The parts of a walk, one behind the other.
use Rattle.std.proofs.Common.{◌≡◌, ℕ, ◌+◌, ◌-◌, ◌<◌, ◌≤◌, Bool, false, not, ◌&&◌, List, [], ◌∷◌, ◌++◌, map, drop, length, get_or, Option, Some, Result, IfOk, OnOk, refl, ap, sym, ◌∙◌, subst, arith}
use Rattle.std.specs.Prelude.{◌==◌}
use Rattle.std.proofs.lemmas.List.{drop_all, length-map}
use Rattle.std.proofs.Common.{length-drop}
use Rattle.std.proofs.lemmas.Bool.Decides.{nat_tests}
use Rattle.st_tree.specs.declared.tree.Name.{Name}
use Rattle.st_tree.specs.declared.tree.Message.{Message, out-Message}
use Rattle.st_tree.specs.declared.tree.Operand.{Operand, out-Operand}
use Rattle.st_tree.specs.declared.tree.Expr.{Expr, out-Expr}
use Rattle.st_tree.specs.declared.tree.Statement.{Statement}
use Rattle.st_tree.specs.declared.tree.Body.{Body, out-Body}
use Rattle.st_tree.specs.declared.tree.Block.{Block, out-Block}
use Rattle.st_code.specs.Texts.{Text}
use Rattle.st_code.specs.Code.{Instr}
use Rattle.st_code.specs.declared.instruction.CodeKind.{CodeKind}
use Rattle.st_code.specs.declared.instruction.CodeKind.TheVariants as code_kind
use Rattle.st_code.specs.Named.{NamedExpr, NamedBody}
use Rattle.st_code.specs.Written.{name_text, NamedStatement, named_primary, named_statement, named_block, named_body, named_expr, named_message, named_operand, named_messages, named_operands, named_statements}
use Rattle.st_code.proofs.Written.{message-out, operand-out, expr-out, body-out, block-out}
use Rattle.st_code.specs.Resolved.{Context, inside, without, number_or_last, is_one_sent}
use Rattle.st_compiler.specs.declared.draft.Draft.{Draft}
use Rattle.st_compiler.specs.declared.draft.Frame.{Frame}
use Rattle.st_compiler.specs.declared.draft.Header.{Header}
use Rattle.st_compiler.specs.declared.draft.Status.{Status}
use Rattle.st_compiler.specs.declared.draft.Status.TheVariants as status
use Rattle.st_compiler.specs.Around.{variables_of}
use Rattle.st_compiler.specs.Walked.{with_step, with_steps, with_names, send_of, dup_if, pop_if, chain_ended, is_super, is_direct, stores, end_of, aside_of, separated, status_after, statement_ended, header_of, body_begun, body_ended, block_made, primary_walked, chain_walked, cascade_walked, operands_walked, operand_walked, expr_walked, statements_walked, message_walked, statement_walked, block_walked, body_walked, body_made_of, body_names}
use Rattle.st_compiler.proofs.Finding.{drop-here}
use Rattle.st_compiler.proofs.Chains.{operands-count}

pub then-is : {R E A : Type 0} (r : Result R E) (a b c : A) → OnOk r (a ≡ b) → b ≡ c → OnOk r (a ≡ c)
then-is r a b c holds is = subst (λ d. OnOk r (a ≡ d)) is holds

-- ---- messages

last-here : (rest : List Message) (n : ℕ) → n ≡ length rest → is_one_sent (named_messages rest) ≡ (n == 0)
last-here [] n is = grind (arith, nat_tests)
last-here (m ∷ rest) n is = grind (arith, nat_tests)

left-behind : (chain : List Message) (i left now : ℕ) → i < length chain → left + i ≡ length chain → now ≡ left - 1 → now ≡ length (drop (i + 1) chain)
left-behind chain i left now low count less = omega (arith, length-drop (i + 1) chain)

pub chain-next : (x : Context) (direct kept b : Bool) (chain : List Message) (i left now : ℕ) (m : Message) (d e whole : Draft) → m ≡ get_or chain i m → i < length chain → left + i ≡ length chain → now ≡ left - 1 → b ≡ (kept && (now == 0))
    → chain_walked x direct kept (named_messages (drop i chain)) d ≡ whole → e ≡ message_walked x direct b (named_message m) d → chain_walked x false kept (named_messages (drop (i + 1) chain)) e ≡ whole
chain-next x direct kept b chain i left now m d e whole there low count less last sofar is =
    let rest : List Message = drop (i + 1) chain in
    let same : b ≡ (kept && is_one_sent (named_messages rest)) = last ∙ ap (λ c. kept && c) (sym (last-here rest now (left-behind chain i left now low count less))) in
    ap (λ f. chain_walked x false kept (named_messages rest) f) (is ∙ ap (λ c. message_walked x direct c (named_message m) d) same)
    ∙ ap (λ ms. chain_walked x direct kept (named_messages ms) d) (sym (drop-here chain i m there low))
    ∙ sofar

pub cascade-next : (x : Context) (direct b : Bool) (cascade : List Message) (i left now : ℕ) (m : Message) (d e whole : Draft) → m ≡ get_or cascade i m → i < length cascade → left + i ≡ length cascade → now ≡ left - 1 → b ≡ not (now == 0)
    → cascade_walked x direct (named_messages (drop i cascade)) d ≡ whole → e ≡ message_walked x direct b (named_message m) d → cascade_walked x direct (named_messages (drop (i + 1) cascade)) e ≡ whole
cascade-next x direct b cascade i left now m d e whole there low count less last sofar is =
    let rest : List Message = drop (i + 1) cascade in
    let same : b ≡ not (is_one_sent (named_messages rest)) = last ∙ ap not (sym (last-here rest now (left-behind cascade i left now low count less))) in
    ap (λ f. cascade_walked x direct (named_messages rest) f) (is ∙ ap (λ c. message_walked x direct c (named_message m) d) same)
    ∙ ap (λ ms. cascade_walked x direct (named_messages ms) d) (sym (drop-here cascade i m there low))
    ∙ sofar

pub chain-end : (x : Context) (direct kept : Bool) (chain : List Message) (i : ℕ) (d whole : Draft) → length chain ≤ i → chain_walked x direct kept (named_messages (drop i chain)) d ≡ whole → d ≡ whole
chain-end x direct kept chain i d whole past is = ap (λ ms. chain_walked x direct kept (named_messages ms) d) (sym (drop_all i chain past)) ∙ is

pub cascade-end : (x : Context) (direct : Bool) (cascade : List Message) (i : ℕ) (d whole : Draft) → length cascade ≤ i → cascade_walked x direct (named_messages (drop i cascade)) d ≡ whole → d ≡ whole
cascade-end x direct cascade i d whole past is = ap (λ ms. cascade_walked x direct (named_messages ms) d) (sym (drop_all i cascade past)) ∙ is

pub operands-next : (x : Context) (os : List Operand) (i : ℕ) (o : Operand) (d e whole : Draft) → o ≡ get_or os i o → i < length os
    → operands_walked x (named_operands (drop i os)) d ≡ whole → e ≡ operand_walked x false (named_operand o) d → operands_walked x (named_operands (drop (i + 1) os)) e ≡ whole
operands-next x os i o d e whole there low sofar is =
    ap (λ f. operands_walked x (named_operands (drop (i + 1) os)) f) is
    ∙ ap (λ l. operands_walked x (named_operands l) d) (sym (drop-here os i o there low))
    ∙ sofar

pub message-whole : {R E : Type 0} (r : Result R E) (x : Context) (to_super kept : Bool) (m : Message) (args : List Operand) (d d1 d2 d3 d4 : Draft) (i n count : ℕ) (s : Instr)
    → args ≡ (out-Message m).arguments → n ≡ number_or_last x.names.names (out-Message m).selector → count ≡ length (out-Message m).arguments → length args ≤ i
    → d1 ≡ dup_if kept d → operands_walked x (named_operands (drop i args)) d2 ≡ operands_walked x (named_operands args) d1 → s ≡ send_of to_super n count → d3 ≡ with_step d2 s → OnOk r (d4 ≡ pop_if kept d3)
    → OnOk r (d4 ≡ message_walked x to_super kept (named_message m) d)
message-whole r x to_super kept m args d d1 d2 d3 d4 i n count s are number counted past first given sending third last =
    let all : List Operand = (out-Message m).arguments in
    let second : d2 ≡ operands_walked x (named_operands all) (dup_if kept d) =
    ap (λ l. operands_walked x (named_operands l) d2) (sym (drop_all i args past)) ∙ given ∙ ap (λ l. operands_walked x (named_operands l) d1) are ∙ ap (λ f. operands_walked x (named_operands all) f) first in
    let send : s ≡ send_of to_super (number_or_last x.names.names (out-Message m).selector) (length all) = sending ∙ ap (λ k. send_of to_super k count) number ∙ ap (send_of to_super (number_or_last x.names.names (out-Message m).selector)) counted in
    then-is r d4 (pop_if kept d3) (message_walked x to_super kept (named_message m) d) last
    (ap (pop_if kept) (third ∙ ap (λ e. with_step e s) second ∙ ap (with_step (operands_walked x (named_operands all) (dup_if kept d))) (send ∙ ap (send_of to_super (number_or_last x.names.names (out-Message m).selector)) (sym (operands-count all))))
    ∙ ap (λ n. message_walked x to_super kept n d) (sym (message-out m)))

-- ---- operands and expressions

pub operand-whole : {R E : Type 0} (r : Result R E) (x : Context) (kept b : Bool) (o : Operand) (chain more : List Message) (d d1 d2 d3 : Draft)
    → b ≡ is_super (named_primary (out-Operand o).primary) → chain ≡ (out-Operand o).chain → more ≡ (out-Operand o).chain → d1 ≡ primary_walked x (named_primary (out-Operand o).primary) d → d2 ≡ chain_walked x b kept (named_messages chain) d1
    → OnOk r (d3 ≡ chain_ended b kept (named_messages more) d2) → OnOk r (d3 ≡ operand_walked x kept (named_operand o) d)
operand-whole r x kept b o chain more d d1 d2 d3 direct are too first second last =
    let p = named_primary (out-Operand o).primary in
    let ms = named_messages (out-Operand o).chain in
    let walked : d2 ≡ chain_walked x (is_super p) kept ms (primary_walked x p d) =
    second ∙ ap (λ l. chain_walked x b kept (named_messages l) d1) are ∙ ap (λ c. chain_walked x c kept ms d1) direct ∙ ap (λ e. chain_walked x (is_super p) kept ms e) first in
    then-is r d3 (chain_ended b kept (named_messages more) d2) (operand_walked x kept (named_operand o) d) last
    (ap (λ l. chain_ended b kept (named_messages l) d2) too ∙ ap (λ c. chain_ended c kept ms d2) direct ∙ ap (λ e. chain_ended (is_super p) kept ms e) walked ∙ ap (λ n. operand_walked x kept n d) (sym (operand-out o)))

pub expr-whole : {R E : Type 0} (r : Result R E) (x : Context) (e : Expr) (targets again : List Name) (cascade more : List Message) (kept direct : Bool) (d d1 d2 d3 d4 : Draft)
    → targets ≡ (out-Expr e).targets → again ≡ (out-Expr e).targets → cascade ≡ (out-Expr e).cascade → more ≡ (out-Expr e).cascade → kept ≡ not (is_one_sent (named_messages cascade)) → direct ≡ is_direct (named_operand (out-Expr e).operand)
    → d1 ≡ with_names d (map name_text targets) → d2 ≡ operand_walked x kept (named_operand (out-Expr e).operand) d1 → d3 ≡ cascade_walked x direct (named_messages more) d2 → OnOk r (d4 ≡ with_steps d3 (stores x (map name_text again)))
    → OnOk r (d4 ≡ expr_walked x (named_expr e) d)
expr-whole r x e targets again cascade more kept direct d d1 d2 d3 d4 are too behind these keeps directly first second third last =
    let o = named_operand (out-Expr e).operand in
    let ms = named_messages (out-Expr e).cascade in
    let ts = map name_text (out-Expr e).targets in
    let keeping : kept ≡ not (is_one_sent ms) = keeps ∙ ap (λ l. not (is_one_sent (named_messages l))) behind in
    let one : d1 ≡ with_names d ts = first ∙ ap (λ l. with_names d (map name_text l)) are in
    let two : d2 ≡ operand_walked x (not (is_one_sent ms)) o (with_names d ts) = second ∙ ap (λ k. operand_walked x k o d1) keeping ∙ ap (λ f. operand_walked x (not (is_one_sent ms)) o f) one in
    let three : d3 ≡ cascade_walked x (is_direct o) ms (operand_walked x (not (is_one_sent ms)) o (with_names d ts)) =
    third ∙ ap (λ l. cascade_walked x direct (named_messages l) d2) these ∙ ap (λ b. cascade_walked x b ms d2) directly ∙ ap (λ f. cascade_walked x (is_direct o) ms f) two in
    then-is r d4 (with_steps d3 (stores x (map name_text again))) (expr_walked x (named_expr e) d) last
    (ap (λ l. with_steps d3 (stores x (map name_text l))) too ∙ ap (λ f. with_steps f (stores x ts)) three ∙ ap (λ n. expr_walked x n d) (sym (expr-out e)))

-- ---- statements

pub statement-whole : {R E : Type 0} (r : Result R E) (x : Context) (kind : CodeKind) (s : Status) (returns : Bool) (e : NamedExpr) (t : NamedStatement) (aside : List Instr) (d d1 d2 d3 : Draft)
    → t ≡ record { returns = returns; expr = e } → aside ≡ aside_of s d → d1 ≡ separated s d → d2 ≡ expr_walked x e d1 → OnOk r (d3 ≡ statement_ended kind s returns aside d2) → OnOk r (d3 ≡ statement_walked x kind s t d)
statement-whole r x kind s returns e t aside d d1 d2 d3 is put first second last =
    then-is r d3 (statement_ended kind s returns aside d2) (statement_walked x kind s t d) last
    (ap (λ a. statement_ended kind s returns a d2) put ∙ ap (λ f. statement_ended kind s returns (aside_of s d) f) (second ∙ ap (λ f. expr_walked x e f) first) ∙ ap (λ u. statement_walked x kind s u d) (sym is))

pub statements-next : (x : Context) (kind : CodeKind) (s now : Status) (b : Bool) (ss : List Statement) (i : ℕ) (t : Statement) (d e whole : Draft) → t ≡ get_or ss i t → i < length ss → b ≡ (named_statement t).returns → now ≡ status_after s b
    → statements_walked x kind s (named_statements (drop i ss)) d ≡ whole → e ≡ statement_walked x kind s (named_statement t) d → statements_walked x kind now (named_statements (drop (i + 1) ss)) e ≡ whole
statements-next x kind s now b ss i t d e whole there low returns after sofar is =
    ap (λ f. statements_walked x kind now (named_statements (drop (i + 1) ss)) f) is
    ∙ ap (λ n. statements_walked x kind n (named_statements (drop (i + 1) ss)) (statement_walked x kind s (named_statement t) d)) (after ∙ ap (status_after s) returns)
    ∙ ap (λ l. statements_walked x kind s (named_statements l) d) (sym (drop-here ss i t there low))
    ∙ sofar

pub statements-whole : {R E : Type 0} (r : Result R E) (x : Context) (kind : CodeKind) (s : Status) (ss : List Statement) (i : ℕ) (d e whole : Draft) → length ss ≤ i
    → statements_walked x kind s (named_statements (drop i ss)) d ≡ whole → OnOk r (e ≡ with_steps d (end_of s kind)) → OnOk r (e ≡ whole)
statements-whole r x kind s ss i d e whole past is last =
    then-is r e (with_steps d (end_of s kind)) whole last (ap (λ l. statements_walked x kind s (named_statements l) d) (sym (drop_all i ss past)) ∙ is)

-- ---- bodies and blocks

pub body-start : (kind : CodeKind) (x within : Context) (outer : Option ℕ) (parameters temporaries : List Name) (statements : List Statement) (b : Body) (code : ℕ) (header : Header) (d d1 d2 : Draft)
    → temporaries ≡ (out-Body b).temporaries → statements ≡ (out-Body b).statements → code ≡ length d.bodies → within ≡ inside x code (variables_of parameters temporaries) → header ≡ header_of kind x outer (length parameters)
    → d1 ≡ body_begun header d → d2 ≡ statements_walked within kind status.Empty (named_statements statements) d1
    → d2 ≡ body_walked kind x outer (map name_text parameters) (named_body b).temporaries (named_body b).statements d
body-start kind x within outer parameters temporaries statements b code header d d1 d2 are too number place head first second =
    let ps = map name_text parameters in
    let ts = map name_text (out-Body b).temporaries in
    let row = named_statements (out-Body b).statements in
    let inner : within ≡ inside x (length d.bodies) (ps ++ ts) = place ∙ ap (λ l. inside x code (variables_of parameters l)) are ∙ ap (λ n. inside x n (ps ++ ts)) number in
    let begun : d1 ≡ body_begun (header_of kind x outer (length ps)) d = first ∙ ap (λ h. body_begun h d) (head ∙ ap (header_of kind x outer) (sym (length-map parameters name_text))) in
    second
    ∙ ap (λ l. statements_walked within kind status.Empty (named_statements l) d1) too
    ∙ ap (λ y. statements_walked y kind status.Empty row d1) inner
    ∙ ap (λ f. statements_walked (inside x (length d.bodies) (ps ++ ts)) kind status.Empty row f) begun
    ∙ ap (λ (n : NamedBody). body_walked kind x outer ps n.temporaries n.statements d) (sym (body-out b))

pub body-names : (kind : CodeKind) (x : Context) (outer : Option ℕ) (parameters temporaries : List Name) (b : Body) (d d2 : Draft) (names : List Text)
    → temporaries ≡ (out-Body b).temporaries → d2 ≡ body_walked kind x outer (map name_text parameters) (named_body b).temporaries (named_body b).statements d
    → names ≡ without d2.frame.all (variables_of parameters temporaries) → names ≡ body_names kind x outer (map name_text parameters) (named_body b).temporaries (named_body b).statements d
body-names kind x outer parameters temporaries b d d2 names are walked is =
    is ∙ ap (λ l. without d2.frame.all (variables_of parameters l)) are
    ∙ ap (λ (n : NamedBody). without d2.frame.all (map name_text parameters ++ n.temporaries)) (sym (body-out b))
    ∙ ap (λ (e : Draft). without e.frame.all (map name_text parameters ++ (named_body b).temporaries)) walked

pub body-end : (kind : CodeKind) (x : Context) (outer : Option ℕ) (parameters temporaries : List Name) (b : Body) (code : ℕ) (header : Header) (around : Frame) (d d2 d3 : Draft)
    → temporaries ≡ (out-Body b).temporaries → code ≡ length d.bodies → header ≡ header_of kind x outer (length parameters) → around ≡ d.frame → d2 ≡ body_walked kind x outer (map name_text parameters) (named_body b).temporaries (named_body b).statements d
    → d3 ≡ body_ended code header (variables_of parameters temporaries) around d2 → d3 ≡ body_made_of kind x outer (map name_text parameters) (named_body b).temporaries (named_body b).statements d
body-end kind x outer parameters temporaries b code header around d d2 d3 are number head frame walked is =
    let ps = map name_text parameters in
    is ∙ ap (λ n. body_ended n header (variables_of parameters temporaries) around d2) number
    ∙ ap (λ h. body_ended (length d.bodies) h (variables_of parameters temporaries) around d2) (head ∙ ap (header_of kind x outer) (sym (length-map parameters name_text)))
    ∙ ap (λ l. body_ended (length d.bodies) (header_of kind x outer (length ps)) (variables_of parameters l) around d2) are
    ∙ ap (λ (n : NamedBody). body_ended (length d.bodies) (header_of kind x outer (length ps)) (ps ++ n.temporaries) around d2) (sym (body-out b))
    ∙ ap (λ f. body_ended (length d.bodies) (header_of kind x outer (length ps)) (ps ++ (named_body b).temporaries) f d2) frame
    ∙ ap (λ e. body_ended (length d.bodies) (header_of kind x outer (length ps)) (ps ++ (named_body b).temporaries) d.frame e) walked

-- a body from its begin to its end, where the walk of its statements is known

pub within-named : {E : Type 0} (r : Result (List Text) E) (scope : List Text) (d2 whole : Draft) → d2 ≡ whole → IfOk r (λ m. m ≡ without d2.frame.all scope) → IfOk r (λ m. m ≡ without whole.frame.all scope)
within-named r scope d2 whole is holds = subst (λ (e : Draft). IfOk r (λ m. m ≡ without e.frame.all scope)) is holds

pub within-made : {R E : Type 0} (r : Result R E) (n code : ℕ) (header : Header) (variables : List Text) (frame around : Frame) (d2 whole d3 : Draft) → n ≡ code → frame ≡ around → d2 ≡ whole
    → OnOk r (d3 ≡ body_ended n header variables frame d2) → OnOk r (d3 ≡ body_ended code header variables around whole)
within-made r n code header variables frame around d2 whole d3 number kept is holds =
    then-is r d3 (body_ended n header variables frame d2) (body_ended code header variables around whole) holds
    (ap (λ m. body_ended m header variables frame d2) number ∙ ap (λ f. body_ended code header variables f d2) kept ∙ ap (body_ended code header variables around) is)

pub body-named : {E : Type 0} (r : Result (List Text) E) (kind : CodeKind) (x within : Context) (outer : Option ℕ) (parameters temporaries : List Name) (statements : List Statement) (b : Body) (code : ℕ) (header : Header) (scope : List Text) (d : Draft)
    → temporaries ≡ (out-Body b).temporaries → statements ≡ (out-Body b).statements → code ≡ length d.bodies → within ≡ inside x code (variables_of parameters temporaries) → header ≡ header_of kind x outer (length parameters)
    → scope ≡ variables_of parameters temporaries → IfOk r (λ m. m ≡ without (statements_walked within kind status.Empty (named_statements statements) (body_begun header d)).frame.all scope)
    → IfOk r (λ m. m ≡ body_names kind x outer (map name_text parameters) (named_body b).temporaries (named_body b).statements d)
body-named r kind x within outer parameters temporaries statements b code header scope d are too number place head scoped holds =
    let walked : Draft = statements_walked within kind status.Empty (named_statements statements) (body_begun header d) in
    let is = body-start kind x within outer parameters temporaries statements b code header d (body_begun header d) walked are too number place head refl refl in
    let same = body-names kind x outer parameters temporaries b d walked (without walked.frame.all scope) are is (ap (without walked.frame.all) scoped) in
    subst (λ (ts : List Text). IfOk r (λ m. m ≡ ts)) same holds

pub body-made : {R E : Type 0} (r : Result R E) (kind : CodeKind) (x within : Context) (outer : Option ℕ) (parameters temporaries : List Name) (statements : List Statement) (b : Body) (code : ℕ) (header : Header) (d d3 : Draft)
    → temporaries ≡ (out-Body b).temporaries → statements ≡ (out-Body b).statements → code ≡ length d.bodies → within ≡ inside x code (variables_of parameters temporaries) → header ≡ header_of kind x outer (length parameters)
    → OnOk r (d3 ≡ body_ended within.code header (variables_of parameters temporaries) d.frame (statements_walked within kind status.Empty (named_statements statements) (body_begun header d)))
    → OnOk r (d3 ≡ body_made_of kind x outer (map name_text parameters) (named_body b).temporaries (named_body b).statements d)
body-made r kind x within outer parameters temporaries statements b code header d d3 are too number place head holds =
    let walked : Draft = statements_walked within kind status.Empty (named_statements statements) (body_begun header d) in
    let is = body-start kind x within outer parameters temporaries statements b code header d (body_begun header d) walked are too number place head refl refl in
    let ended : Draft = body_ended within.code header (variables_of parameters temporaries) d.frame walked in
    let whole = body-end kind x outer parameters temporaries b within.code header d.frame d walked ended are (ap (λ (y : Context). y.code) place ∙ number) head refl is refl in
    then-is r d3 ended (body_made_of kind x outer (map name_text parameters) (named_body b).temporaries (named_body b).statements d) holds whole

pub block-whole : {R E : Type 0} (r : Result R E) (x : Context) (b : Block) (parameters : List Name) (outer : ℕ) (code : ℕ) (names : List Text) (d d1 d2 : Draft)
    → parameters ≡ (out-Block b).parameters → outer ≡ x.code → code ≡ length d.bodies
    → names ≡ body_names code_kind.Block x (Some outer) (map name_text parameters) (named_body (out-Block b).body).temporaries (named_body (out-Block b).body).statements d
    → d1 ≡ body_made_of code_kind.Block x (Some outer) (map name_text parameters) (named_body (out-Block b).body).temporaries (named_body (out-Block b).body).statements d
    → OnOk r (d2 ≡ block_made code names d1) → OnOk r (d2 ≡ block_walked x (named_block b) d)
block-whole r x b parameters outer code names d d1 d2 are around number left made last =
    let n : NamedBody = named_body (out-Block b).body in
    let ps = map name_text (out-Block b).parameters in
    let named : names ≡ body_names code_kind.Block x (Some x.code) ps n.temporaries n.statements d =
    left ∙ ap (λ l. body_names code_kind.Block x (Some outer) (map name_text l) n.temporaries n.statements d) are ∙ ap (λ k. body_names code_kind.Block x (Some k) ps n.temporaries n.statements d) around in
    let body : d1 ≡ body_made_of code_kind.Block x (Some x.code) ps n.temporaries n.statements d =
    made ∙ ap (λ l. body_made_of code_kind.Block x (Some outer) (map name_text l) n.temporaries n.statements d) are ∙ ap (λ k. body_made_of code_kind.Block x (Some k) ps n.temporaries n.statements d) around in
    then-is r d2 (block_made code names d1) (block_walked x (named_block b) d) last
    (ap (λ k. block_made k names d1) number ∙ ap (λ ts. block_made (length d.bodies) ts d1) named ∙ ap (block_made (length d.bodies) (body_names code_kind.Block x (Some x.code) ps n.temporaries n.statements d)) body ∙ ap (λ m. block_walked x m d) (sym (block-out b)))
