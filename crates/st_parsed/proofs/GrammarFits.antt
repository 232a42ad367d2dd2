-- The trees that symbols derive send with as many arguments as selectors take.
use Rattle.std.proofs.Common.{◌≡◌, ℕ, suc, List, [], ◌∷◌, ◌++◌, map, Bool, true, false, refl, ap, sym, subst, ◌∙◌, codes, if◌then◌else◌}
use Rattle.st_base.specs.TokenBytes.{is_operator_byte}
use Rattle.st_base.specs.Lexes.{is_identifier, is_run}
use Rattle.std.specs.Str.{bytes_eq}
use Rattle.st_tree.specs.declared.tree.Name.{Name}
use Rattle.st_tree.specs.declared.tree.Literal.{Literal}
use Rattle.st_tree.specs.declared.tree.Literal.TheVariants as literal
use Rattle.st_tree.specs.declared.tree.Primary.{Primary}
use Rattle.st_tree.specs.declared.tree.Primary.TheVariants as primary
use Rattle.st_tree.specs.declared.tree.Statement.{Statement}
use Rattle.st_tree.specs.declared.tree.Block.{roll-Block}
use Rattle.st_tree.specs.declared.tree.Expr.{Expr}
use Rattle.st_tree.specs.declared.tree.Message.{Message}
use Rattle.st_tree.specs.declared.tree.Operand.{Operand}
use Rattle.st_tree.specs.Symbols.{Sym, Id, Key, Op, Role, IsName, IsValue, IsSuper, role, IsOp, op, minus, bar, two_bars, three_bars}
use Rattle.st_tree.specs.Trees.{name, variable, constant, message, operand, expr, body, paren, block, stated}
use Rattle.st_tree.specs.Grammar as g
use Rattle.st_code.specs.Texts.{Text, arity}
use Rattle.st_code.specs.Named.{ExprOf, more_statements, then_sent}
use Rattle.st_code.specs.Written.{name_text, named_primary, named_operand, named_operands, named_messages, named_statements, named_expr, named_body}
use Rattle.st_code.proofs.Written.{message-roll, operand-roll, expr-roll, body-roll, block-roll, statement-value, statement-return, primary-variable, primary-self, primary-super, primary-literal, primary-block, primary-paren}
use Rattle.st_sends.specs.Fitting.{operand_count, StandsBehind, PrimaryFits, OperandFits, OperandsFit, MessagesFit, ExprFits, StatementsFit}
use Rattle.st_parsed.proofs.SelectorForms.{Row, no_row, more_row, row_arity, IsKeyword, word_arity, operator_arity}

-- the bytes of a symbol have its form
abbrev pub SymFits : Sym → Type 0
SymFits (Id t at) = is_identifier t ≡ true
SymFits (Key t at) = IsKeyword t
SymFits (Op t at) = is_run is_operator_byte t ≡ true
SymFits s = Unit {0}

abbrev pub SymsFit : List Sym → Type 0
SymsFit [] = Unit {0}
SymsFit (s ∷ a) = SymFits s × SymsFit a

op_arity : {s : Sym} {t : Text} {at : ℕ} → IsOp s t at → SymFits s → 1 ≡ arity t
op_arity (op {t = t}) h = operator_arity t h
op_arity minus h = operator_arity (45 ∷ []) refl
op_arity bar h = operator_arity (124 ∷ []) refl
op_arity two_bars h = operator_arity (124 ∷ 124 ∷ []) refl
op_arity three_bars h = operator_arity (124 ∷ 124 ∷ 124 ∷ []) refl

-- ---- one level of a tree

message_on : (t : Text) (at : ℕ) (os : List Operand) (ms : List Message) → operand_count (named_operands os) ≡ arity t → OperandsFit (named_operands os) → MessagesFit (named_messages ms) → MessagesFit (named_messages (message t at os ∷ ms))
unfolding message
message_on t at os ms e f h = subst (λ n. MessagesFit (then_sent n.selector n.arguments (named_messages ms))) (sym (message-roll t at os)) (e, f, h)

operand_fits : (p : Primary) (ms : List Message) → PrimaryFits (named_primary p) → MessagesFit (named_messages ms) → OperandFits (named_operand (operand p ms))
unfolding operand
operand_fits p ms f h = subst OperandFits (sym (operand-roll p ms)) (f, h)

messages_behind : (ms ns : List Message) → MessagesFit (named_messages ms) → MessagesFit (named_messages ns) → MessagesFit (named_messages (ms ++ ns))
messages_behind [] ns f h = h
messages_behind (m ∷ ms) ns (e, f, rest) h = (e, f, messages_behind ms ns rest h)

-- an expression, whatever its targets
abbrev Expressed : Operand → List Message → Type 0
Expressed o cs = (targets : List Text) → ExprFits (ExprOf targets (named_operand o) (named_messages cs))

behind_stands : (ms cs : List Message) → g.Receives ms cs → StandsBehind (named_messages ms) (named_messages cs)
behind_stands [] [] h = tt
behind_stands [] (c ∷ cs) h = absurd h
behind_stands (m ∷ ms) cs h = tt

expressed : (p : Primary) (ms cs : List Message) → PrimaryFits (named_primary p) → MessagesFit (named_messages ms) → MessagesFit (named_messages cs) → g.Receives ms cs → Expressed (operand p ms) cs
unfolding operand
expressed p ms cs f m c h targets = subst (λ o. ExprFits (ExprOf targets o (named_messages cs))) (sym (operand-roll p ms)) (f, m, c, behind_stands ms cs h)

expr_fits_named : (ns : List Name) (o : Operand) (cs : List Message) → Expressed o cs → ExprFits (named_expr (expr ns o cs))
unfolding expr
expr_fits_named ns o cs h = subst ExprFits (sym (expr-roll ns o cs)) (h (map name_text ns))

statement_on : (r : Bool) (e : Expr) (ss : List Statement) → ExprFits (named_expr e) → StatementsFit (named_statements ss) → StatementsFit (named_statements (stated r e ∷ ss))
statement_on true e ss f h = subst (λ n. StatementsFit (more_statements n.returns n.expr (named_statements ss))) (sym (statement-return e)) (f, h)
statement_on false e ss f h = subst (λ n. StatementsFit (more_statements n.returns n.expr (named_statements ss))) (sym (statement-value e)) (f, h)

variable_fits : (n : Name) → PrimaryFits (named_primary (variable n))
variable_fits n = subst PrimaryFits (sym (primary-variable n)) tt

constant_fits : (l : Literal) → PrimaryFits (named_primary (constant l))
constant_fits l = subst PrimaryFits (sym (primary-literal l)) tt

paren_fits : (e : Expr) → ExprFits (named_expr e) → PrimaryFits (named_primary (paren e))
unfolding paren
paren_fits e h = subst PrimaryFits (sym (primary-paren e)) h

pub body_fits : (ts : List Name) (ss : List Statement) → StatementsFit (named_statements ss) → StatementsFit (named_body (body ts ss)).statements
unfolding body
body_fits ts ss h = subst (λ n. StatementsFit n.statements) (sym (body-roll ts ss)) h

block_fits : (at : ℕ) (ns ts : List Name) (ss : List Statement) → StatementsFit (named_statements ss) → PrimaryFits (named_primary (block at ns ts ss))
unfolding block
block_fits at ns ts ss h =
    subst PrimaryFits (sym (primary-block (roll-Block (record { at = at; parameters = ns; body = body ts ss }))))
    (subst (λ n. StatementsFit n.body.statements) (sym (block-roll at ns (body ts ss))) (body_fits ts ss h))

-- a word that is a value
abbrev RoleFits : Role → Type 0
RoleFits (IsValue p) = PrimaryFits (named_primary p)
RoleFits r = Unit {0}

role_chosen : (a b c d e : Bool) → RoleFits (if a then IsValue (primary.Literal literal.Nil) else (if b then IsValue (primary.Literal literal.True) else (if c then IsValue (primary.Literal literal.False) else (if d then IsValue primary.SelfValue else (if e then IsSuper else IsName)))))
role_chosen true b c d e = constant_fits literal.Nil
role_chosen false true c d e = constant_fits literal.True
role_chosen false false true d e = constant_fits literal.False
role_chosen false false false true e = subst PrimaryFits (sym primary-self) tt
role_chosen false false false false true = tt
role_chosen false false false false false = tt

value_fits : (t : Text) (p : Primary) → role t ≡ IsValue p → PrimaryFits (named_primary p)
unfolding role
value_fits t p e = subst RoleFits e (role_chosen (bytes_eq t (codes "nil")) (bytes_eq t (codes "true")) (bytes_eq t (codes "false")) (bytes_eq t (codes "self")) (bytes_eq t (codes "super")))

-- ---- what has no messages

keys_fit : {end : ℕ} {a b : List Sym} {t : Text} → g.Keys end a b t → SymsFit a → SymsFit b
keys_fit (g.no_more n) h = h
keys_fit (g.one_more e k) h = keys_fit k h.1

mutual
  item_fits : {a b : List Sym} {l : Literal} → g.Item a b l → SymsFit a → SymsFit b
  item_fits (g.number_item n) h = h.1
  item_fits (g.negative_item e n) h = h.1.1
  item_fits g.literal_item h = h.1
  item_fits g.word_of_item h = h.1
  item_fits (g.keywords_item k) h = keys_fit k h.1
  item_fits g.operator_item h = h.1
  item_fits g.bar_item h = h.1
  item_fits g.two_bars_item h = h.1
  item_fits g.three_bars_item h = h.1
  item_fits (g.minus_item n) h = h.1
  item_fits (g.array_item i) h = (items_fit i h.1).1
  item_fits (g.inner_item i) h = (items_fit i h.1).1

  items_fit : {a b : List Sym} {ls : List Literal} → g.Items a b ls → SymsFit a → SymsFit b
  items_fit g.no_items h = h
  items_fit (g.more_items i is) h = items_fit is (item_fits i h)

parameters_fit : {a b : List Sym} {ns : List Name} → g.Parameters a b ns → SymsFit a → SymsFit b
parameters_fit (g.one e) h = h.1.1
parameters_fit (g.more e n) h = parameters_fit n h.1.1

names_fit : {a b : List Sym} {ns : List Name} → g.Names a b ns → SymsFit a → SymsFit b
names_fit g.none h = h
names_fit (g.more e n) h = names_fit n h.1

pub temps_fit : {a b : List Sym} {ns : List Name} → g.Temps a b ns → SymsFit a → SymsFit b
temps_fit g.none h = h
temps_fit (g.some n) h = (names_fit n h.1).1
temps_fit g.empty h = h.1

keyword_pattern_fits : {a b : List Sym} {t : Text} {ns : List Name} → g.KeywordPattern a b t ns → SymsFit a → SymsFit b
keyword_pattern_fits (g.last e) h = h.1.1
keyword_pattern_fits (g.more e n) h = keyword_pattern_fits n h.1.1

pub pattern_fits : {a b : List Sym} {t : Text} {ns : List Name} → g.Pattern a b t ns → SymsFit a → SymsFit b
pattern_fits g.unary h = h.1
pattern_fits (g.binary o e) h = h.1.1
pattern_fits (g.keywords k) h = keyword_pattern_fits k h

-- ---- messages, and what has some

unaries_fit : {a b : List Sym} {ms : List Message} → g.Unaries a b ms → SymsFit a → MessagesFit (named_messages ms) × SymsFit b
unaries_fit g.none h = (tt, h)
unaries_fit (g.more {t = t} {at = at} {ms = ms} u) h =
    let r = unaries_fit u h.1 in
    (message_on t at [] ms (word_arity t h.0) tt r.0, r.1)

-- operands behind the keywords of a selector, which has one keyword less
record Given (selector : Text) (os : List Operand) : Type 0 where
  pub further : ℕ
  pub count : operand_count (named_operands os) ≡ suc further
  pub row : Row selector further
  pub fit : OperandsFit (named_operands os)

keywords_on : (t selector : Text) (at : ℕ) (os : List Operand) (ms : List Message) → IsKeyword t → Given selector os → MessagesFit (named_messages ms) → MessagesFit (named_messages (message (t ++ selector) at os ∷ ms))
keywords_on t selector at os ms k given h =
    message_on (t ++ selector) at os ms (given.count ∙ row_arity (t ++ selector) given.further (more_row t selector given.further k given.row)) given.fit h

mutual
  primary_fits : {a b : List Sym} {p : Primary} {v : Bool} → g.IsPrimary a b p v → SymsFit a → PrimaryFits (named_primary p) × SymsFit b
  primary_fits (g.named {t = t} {at = at} e) h = (variable_fits (name t at), h.1)
  primary_fits (g.value {t = t} {p = p} e) h = (value_fits t p e, h.1)
  primary_fits (g.super e) h = (subst PrimaryFits (sym primary-super) tt, h.1)
  primary_fits (g.number n) h = (constant_fits _, h.1)
  primary_fits (g.negative_number e n) h = (constant_fits _, h.1.1)
  primary_fits g.one_token h = (constant_fits _, h.1)
  primary_fits (g.in_array i) h = (constant_fits _, (items_fit i h.1).1)
  primary_fits (g.in_parens {targets = targets} {o = o} {cs = cs} x) h =
      let r = expr_fits x h.1 in
      (paren_fits (expr targets o cs) (expr_fits_named targets o cs r.0), r.1.1)
  primary_fits (g.plain_block {at = at} {ts = ts} {ss = ss} t s) h =
      let r = statements_fit s (temps_fit t h.1) in
      (block_fits at [] ts ss r.0, r.1.1)
  primary_fits (g.with_bar {at = at} {ns = ns} {ts = ts} {ss = ss} n t s) h =
      let r = statements_fit s (temps_fit t (parameters_fit n h.1).1) in
      (block_fits at ns ts ss r.0, r.1.1)
  primary_fits (g.with_two_bars {at = at} {ns = ns} {ts = ts} {ss = ss} n t s) h =
      let r = statements_fit s (names_fit t (parameters_fit n h.1).1).1 in
      (block_fits at ns ts ss r.0, r.1.1)
  primary_fits (g.with_three_bars {at = at} {ns = ns} {ss = ss} n s) h =
      let r = statements_fit s (parameters_fit n h.1).1 in
      (block_fits at ns [] ss r.0, r.1.1)
  primary_fits (g.only_parameters {at = at} {ns = ns} n) h = (block_fits at ns [] [] tt, (parameters_fit n h.1).1)

  binaries_fit : {a b : List Sym} {ms : List Message} → g.Binaries a b ms → SymsFit a → MessagesFit (named_messages ms) × SymsFit b
  binaries_fit g.no_binaries h = (tt, h)
  binaries_fit (g.more_binaries {t = t} {at = at} {p = p} {us = us} {ms = ms} o x u f m) h =
      let q = primary_fits x h.1 in
      let w = unaries_fit u q.1 in
      let r = binaries_fit m w.1 in
      (message_on t at (operand p us ∷ []) ms (op_arity o h.0) (operand_fits p us q.0 w.0, tt) r.0, r.1)

  arguments_fit : {a b : List Sym} {selector : Text} {os : List Operand} → g.Arguments a b selector os → SymsFit a → Given selector os × SymsFit b
  arguments_fit (g.last_argument {p = p} {us = us} {bs = bs} x u m f) h =
      let q = primary_fits x h in
      let w = unaries_fit u q.1 in
      let r = binaries_fit m w.1 in
      (record { further = 0; count = refl; row = no_row; fit = (operand_fits p (us ++ bs) q.0 (messages_behind us bs w.0 r.0), tt) }, r.1)
  arguments_fit (g.more_arguments {t = t} {p = p} {us = us} {bs = bs} {selector = selector} x u m f more) h =
      let q = primary_fits x h in
      let w = unaries_fit u q.1 in
      let r = binaries_fit m w.1 in
      let d = arguments_fit more r.1.1 in (
        record {
          further = suc d.0.further;
          count = ap suc d.0.count;
          row = more_row t selector d.0.further r.1.0 d.0.row;
          fit = (operand_fits p (us ++ bs) q.0 (messages_behind us bs w.0 r.0), d.0.fit);
        },
        d.1,
      )

  messages_fit : {a b : List Sym} {ms : List Message} → g.Messages a b ms → SymsFit a → MessagesFit (named_messages ms) × SymsFit b
  messages_fit (g.short {us = us} {bs = bs} u m) h =
      let w = unaries_fit u h in
      let r = binaries_fit m w.1 in
      (messages_behind us bs w.0 r.0, r.1)
  messages_fit (g.long {t = t} {at = at} {us = us} {bs = bs} {selector = selector} {os = os} u m more) h =
      let w = unaries_fit u h in
      let r = binaries_fit m w.1 in
      let d = arguments_fit more r.1.1 in
      (messages_behind (us ++ bs) (message (t ++ selector) at os ∷ []) (messages_behind us bs w.0 r.0) (keywords_on t selector at os [] r.1.0 d.0 tt), d.1)

  cascade_fits : {a b : List Sym} {ms : List Message} → g.Cascade a b ms → SymsFit a → MessagesFit (named_messages ms) × SymsFit b
  cascade_fits g.no_cascade h = (tt, h)
  cascade_fits (g.unary_again {t = t} {at = at} {ms = ms} c) h =
      let r = cascade_fits c h.1.1 in
      (message_on t at [] ms (word_arity t h.1.0) tt r.0, r.1)
  cascade_fits (g.binary_again {t = t} {at = at} {p = p} {us = us} {ms = ms} o x u f c) h =
      let q = primary_fits x h.1.1 in
      let w = unaries_fit u q.1 in
      let r = cascade_fits c w.1 in
      (message_on t at (operand p us ∷ []) ms (op_arity o h.1.0) (operand_fits p us q.0 w.0, tt) r.0, r.1)
  cascade_fits (g.keywords_again {t = t} {at = at} {selector = selector} {os = os} {ms = ms} more c) h =
      let d = arguments_fit more h.1.1 in
      let r = cascade_fits c d.1 in
      (keywords_on t selector at os ms h.1.0 d.0 r.0, r.1)

  expr_fits : {a b : List Sym} {ns : List Name} {o : Operand} {cs : List Message} → g.IsExpr a b ns o cs → SymsFit a → Expressed o cs × SymsFit b
  expr_fits (g.assigned e x) h = expr_fits x h.1.1
  expr_fits (g.sent {p = p} {ms = ms} {cs = cs} x m f c e) h =
      let q = primary_fits x h in
      let w = messages_fit m q.1 in
      let r = cascade_fits c w.1 in
      (expressed p ms cs q.0 w.0 r.0 e, r.1)

  pub statements_fit : {a b : List Sym} {ss : List Statement} → g.Statements a b ss → SymsFit a → StatementsFit (named_statements ss) × SymsFit b
  statements_fit g.no_statements h = (tt, h)
  statements_fit (g.returned {ns = ns} {o = o} {cs = cs} x) h =
      let r = expr_fits x h.1 in
      (statement_on true (expr ns o cs) [] (expr_fits_named ns o cs r.0) tt, r.1)
  statements_fit (g.returned_dot {ns = ns} {o = o} {cs = cs} x) h =
      let r = expr_fits x h.1 in
      (statement_on true (expr ns o cs) [] (expr_fits_named ns o cs r.0) tt, r.1.1)
  statements_fit (g.last_statement {ns = ns} {o = o} {cs = cs} x) h =
      let r = expr_fits x h in
      (statement_on false (expr ns o cs) [] (expr_fits_named ns o cs r.0) tt, r.1)
  statements_fit (g.more_statements {ns = ns} {o = o} {cs = cs} {ss = ss} x s) h =
      let r = expr_fits x h in
      let w = statements_fit s r.1.1 in
      (statement_on false (expr ns o cs) ss (expr_fits_named ns o cs r.0) w.0, w.1)
