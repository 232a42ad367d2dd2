-- What a tree weighs is at most what its symbols pay, one after another.
use Rattle.std.proofs.Common.{◌≡◌, ℕ, ◌+◌, ◌≤◌, List, [], ◌∷◌, ◌++◌, Bool, true, false, arith}
use Rattle.std.specs.List.{sum_by}
use Rattle.std.proofs.lemmas.List.Sums.{sum_by-cons, sum_by-append}
use Rattle.st_tree.specs.declared.tree.Name.{Name}
use Rattle.st_tree.specs.declared.tree.Literal.{Literal}
use Rattle.st_tree.specs.declared.tree.Primary.{Primary}
use Rattle.st_tree.specs.declared.tree.Statement.{Statement}
use Rattle.st_tree.specs.declared.tree.Message.{Message}
use Rattle.st_tree.specs.declared.tree.Operand.{Operand}
use Rattle.st_tree.specs.Symbols.{Sym, Id, Key, Num, Lit, ArrayOpen, ParenClose, BlockOpen, BlockClose, Caret, Period, IsOp, role, IsValue}
use Rattle.st_tree.specs.Trees.{name, integer, negative, array, message, operand, expr, stated}
use Rattle.st_tree.specs.Grammar as g
use Rattle.st_tree.specs.Small.{Weights, names_weight}
use Rattle.sif_elements.proofs.Weighing.{primary_in, statement_in, message_in, operand_in, message_weighs, operand_weighs, expr_weighs, stated_weighs, variable_weighs, super_weighs, constant_weighs, paren_weighs, block_weighs}

-- what symbols pay
abbrev pub paid : (Sym → ℕ) → List Sym → ℕ
paid pay [] = 0
paid pay (s ∷ a) = pay s + paid pay a

-- each symbol pays for what it brings; a `.` and a `^` for a statement, a pair of brackets for a block and a statement
pub record Pays (w : Weights) (pay : Sym → ℕ) : Type 0 where
  pub empty : w.text [] ≡ 0
  pub joined : (t u : List ℕ) → w.text (t ++ u) ≤ w.text t + w.text u
  pub variables : (t : List ℕ) (at : ℕ) → w.variable + w.text t ≤ pay (Id t at)
  pub targets : (t : List ℕ) (at : ℕ) → w.target + w.text t ≤ pay (Id t at)
  pub names : (t : List ℕ) (at : ℕ) → w.declared_name + w.text t ≤ pay (Id t at)
  pub unaries : (t : List ℕ) (at : ℕ) → w.message + w.text t ≤ pay (Id t at)
  pub values : (t : List ℕ) (at : ℕ) (p : Primary) → role t ≡ IsValue p → primary_in w p ≤ pay (Id t at)
  pub supers : (t : List ℕ) (at : ℕ) → w.reserved ≤ pay (Id t at)
  pub operators : {s : Sym} {t : List ℕ} {at : ℕ} → IsOp s t at → w.message + w.text t ≤ pay s
  pub keywords : (t : List ℕ) (at : ℕ) → w.message + w.text t ≤ pay (Key t at)
  pub numbers : (n at : ℕ) → w.literal (integer n) ≤ pay (Num n at)
  pub negatives : (n at : ℕ) → w.literal (negative n) ≤ pay (Num n at)
  pub literals : (l : Literal) → w.literal l ≤ pay (Lit l)
  pub arrays : {a b : List Sym} {ls : List Literal} → g.Items a (ParenClose ∷ b) ls → w.literal (array ls) + paid pay b ≤ pay ArrayOpen + paid pay a
  pub blocks : (at : ℕ) → w.block + w.statement ≤ pay (BlockOpen at) + pay BlockClose
  pub carets : w.statement ≤ pay Caret
  pub periods : w.statement ≤ pay Period

abbrev pub messages_in : Weights → List Message → ℕ
messages_in w ms = sum_by (message_in w) ms

abbrev pub operands_in : Weights → List Operand → ℕ
operands_in w os = sum_by (operand_in w) os

abbrev pub statements_in : Weights → List Statement → ℕ
statements_in w ss = sum_by (statement_in w) ss

abbrev pub targets_in : Weights → List Name → ℕ
targets_in w ns = sum_by (λ n. w.target + w.text n.text) ns

unary_in : (w : Weights) (t : List ℕ) (at : ℕ) → message_in w (message t at []) ≡ w.message + w.text t
unary_in w t at = omega (arith, message_weighs w t at [])

binary_in : (w : Weights) (t : List ℕ) (at : ℕ) (p : Primary) (us : List Message) → message_in w (message t at (operand p us ∷ [])) ≡ w.message + w.text t + (primary_in w p + messages_in w us)
binary_in w t at p us = omega (arith, message_weighs w t at (operand p us ∷ []), operand_weighs w p us)

module _ {w : Weights} {pay : Sym → ℕ} (pays : Pays w pay) where
  pub unaries : {a b : List Sym} {ms : List Message} → g.Unaries a b ms → messages_in w ms + paid pay b ≤ paid pay a
  unaries g.none = omega arith
  unaries (g.more {t = t} {at = at} {ms = ms} u) = omega (arith, sum_by-cons (message_in w) (message t at []) ms, unary_in w t at, pays.unaries t at, unaries u)

  pub parameters : {a b : List Sym} {ns : List Name} → g.Parameters a b ns → names_weight w ns + paid pay b ≤ paid pay a
  parameters (g.one {t = t} {at = at} e) = omega (arith, pays.names t at)
  parameters (g.more {t = t} {at = at} {ns = ns} e k) = omega (arith, sum_by-cons (λ (n : Name). w.declared_name + w.text n.text) (name t at) ns, pays.names t at, parameters k)

  pub names : {a b : List Sym} {ns : List Name} → g.Names a b ns → names_weight w ns + paid pay b ≤ paid pay a
  names g.none = omega arith
  names (g.more {t = t} {at = at} {ns = ns} e k) = omega (arith, sum_by-cons (λ (n : Name). w.declared_name + w.text n.text) (name t at) ns, pays.names t at, names k)

  pub temps : {a b : List Sym} {ns : List Name} → g.Temps a b ns → names_weight w ns + paid pay b ≤ paid pay a
  temps g.none = omega arith
  temps (g.some k) = omega (arith, names k)
  temps g.empty = omega arith

  mutual
    pub primaries : {a b : List Sym} {p : Primary} {v : Bool} → g.IsPrimary a b p v → primary_in w p + paid pay b ≤ paid pay a
    primaries (g.named {t = t} {at = at} e) = omega (arith, variable_weighs w (name t at), pays.variables t at)
    primaries (g.value {t = t} {at = at} {p = p} e) = omega (arith, pays.values t at p e)
    primaries (g.super {t = t} {at = at} e) = omega (arith, super_weighs w, pays.supers t at)
    primaries (g.number {n = n} {at = at} h) = omega (arith, constant_weighs w (integer n), pays.numbers n at)
    primaries (g.negative_number {n = n} {n_at = n_at} e h) = omega (arith, constant_weighs w (negative n), pays.negatives n n_at)
    primaries (g.one_token {l = l}) = omega (arith, constant_weighs w l, pays.literals l)
    primaries (g.in_array {ls = ls} items) = omega (arith, constant_weighs w (array ls), pays.arrays items)
    primaries (g.in_parens {targets = ns} {o = o} {cs = cs} x) = omega (arith, paren_weighs w (expr ns o cs), expr_weighs w ns o cs, exprs x)
    primaries (g.plain_block {at = at} {ts = ts} {ss = ss} t k) = omega (arith, block_weighs w at [] ts ss, temps t, statements k, pays.blocks at)
    primaries (g.with_bar {at = at} {ns = ns} {ts = ts} {ss = ss} n t k) = omega (arith, block_weighs w at ns ts ss, parameters n, temps t, statements k, pays.blocks at)
    primaries (g.with_two_bars {at = at} {ns = ns} {ts = ts} {ss = ss} n t k) = omega (arith, block_weighs w at ns ts ss, parameters n, names t, statements k, pays.blocks at)
    primaries (g.with_three_bars {at = at} {ns = ns} {ss = ss} n k) = omega (arith, block_weighs w at ns [] ss, parameters n, statements k, pays.blocks at)
    primaries (g.only_parameters {at = at} {ns = ns} n) = omega (arith, block_weighs w at ns [] [], parameters n, pays.blocks at)

    pub binaries : {a b : List Sym} {ms : List Message} → g.Binaries a b ms → messages_in w ms + paid pay b ≤ paid pay a
    binaries g.no_binaries = omega arith
    binaries (g.more_binaries {t = t} {at = at} {p = p} {us = us} {ms = ms} o x u f k) = omega (arith, sum_by-cons (message_in w) (message t at (operand p us ∷ [])) ms, binary_in w t at p us, pays.operators o, primaries x, unaries u, binaries k)

    pub arguments : {a b : List Sym} {selector : List ℕ} {os : List Operand} → g.Arguments a b selector os → w.text selector + operands_in w os + paid pay b ≤ paid pay a
    arguments (g.last_argument {p = p} {us = us} {bs = bs} x u m f) = omega (arith, pays.empty, operand_weighs w p (us ++ bs), sum_by-append (message_in w) us bs, primaries x, unaries u, binaries m)
    arguments (g.more_arguments {t = t} {at = at} {p = p} {us = us} {bs = bs} {selector = selector} {os = os} x u m f k) = omega (arith, pays.joined t selector, pays.keywords t at, sum_by-cons (operand_in w) (operand p (us ++ bs)) os, operand_weighs w p (us ++ bs), sum_by-append (message_in w) us bs, primaries x, unaries u, binaries m, arguments k)

    pub messages : {a b : List Sym} {ms : List Message} → g.Messages a b ms → messages_in w ms + paid pay b ≤ paid pay a
    messages (g.short {us = us} {bs = bs} u m) = omega (arith, sum_by-append (message_in w) us bs, unaries u, binaries m)
    messages (g.long {t = t} {at = at} {us = us} {bs = bs} {selector = selector} {os = os} u m k) = omega (arith, sum_by-append (message_in w) (us ++ bs) (message (t ++ selector) at os ∷ []), sum_by-append (message_in w) us bs, message_weighs w (t ++ selector) at os, pays.joined t selector, pays.keywords t at, unaries u, binaries m, arguments k)

    pub cascades : {a b : List Sym} {ms : List Message} → g.Cascade a b ms → messages_in w ms + paid pay b ≤ paid pay a
    cascades g.no_cascade = omega arith
    cascades (g.unary_again {t = t} {at = at} {ms = ms} k) = omega (arith, sum_by-cons (message_in w) (message t at []) ms, unary_in w t at, pays.unaries t at, cascades k)
    cascades (g.binary_again {t = t} {at = at} {p = p} {us = us} {ms = ms} o x u f k) = omega (arith, sum_by-cons (message_in w) (message t at (operand p us ∷ [])) ms, binary_in w t at p us, pays.operators o, primaries x, unaries u, cascades k)
    cascades (g.keywords_again {t = t} {at = at} {selector = selector} {os = os} {ms = ms} m k) = omega (arith, sum_by-cons (message_in w) (message (t ++ selector) at os) ms, message_weighs w (t ++ selector) at os, pays.joined t selector, pays.keywords t at, arguments m, cascades k)

    pub exprs : {a b : List Sym} {ns : List Name} {o : Operand} {cs : List Message} → g.IsExpr a b ns o cs → targets_in w ns + operand_in w o + messages_in w cs + paid pay b ≤ paid pay a
    exprs (g.assigned {t = t} {at = at} {ns = ns} e k) = omega (arith, sum_by-cons (λ (n : Name). w.target + w.text n.text) (name t at) ns, pays.targets t at, exprs k)
    exprs (g.sent {p = p} {ms = ms} x m f c r) = omega (arith, operand_weighs w p ms, primaries x, messages m, cascades c)

    pub statements : {a b : List Sym} {ss : List Statement} → g.Statements a b ss → statements_in w ss + paid pay b ≤ paid pay a + w.statement
    statements g.no_statements = omega arith
    statements (g.returned {ns = ns} {o = o} {cs = cs} x) = omega (arith, stated_weighs w true (expr ns o cs), expr_weighs w ns o cs, exprs x, pays.carets)
    statements (g.returned_dot {ns = ns} {o = o} {cs = cs} x) = omega (arith, stated_weighs w true (expr ns o cs), expr_weighs w ns o cs, exprs x, pays.carets)
    statements (g.last_statement {ns = ns} {o = o} {cs = cs} x) = omega (arith, stated_weighs w false (expr ns o cs), expr_weighs w ns o cs, exprs x)
    statements (g.more_statements {ns = ns} {o = o} {cs = cs} {ss = ss} x k) = omega (arith, sum_by-cons (statement_in w) (stated false (expr ns o cs)) ss, stated_weighs w false (expr ns o cs), expr_weighs w ns o cs, exprs x, statements k, pays.periods)
