-- Trees that are the same have the same words: these hold no places.
use Rattle.std.proofs.Common.{◌≡◌, ℕ, Bool, true, false, ◌&&◌, List, [], ◌∷◌, ◌++◌, map, refl, ap, ap₂, sym, ◌∙◌, if◌then◌else◌}
use Rattle.std.proofs.lemmas.List.{map-append}
use Rattle.st_tree.specs.declared.tree.Name.{Name}
use Rattle.st_tree.specs.declared.tree.Primary.{Primary}
use Rattle.st_tree.specs.declared.tree.Statement.{Statement}
use Rattle.st_tree.specs.declared.tree.Message.{Message}
use Rattle.st_tree.specs.declared.tree.Operand.{Operand}
use Rattle.st_tree.specs.Same.{bare_name, bare, bare_method}
use Rattle.st_tree.specs.Symbols.{Sym}
use Rattle.st_tree.specs.Trees.{name, integer, negative, array, message, operand, expr, body, block, stated}
use Rattle.st_tree.specs.Grammar as g
use Rattle.st_tree.specs.Grammar.{Production, Tree, MethodTree, BodyTree, Derives, is_body, is_method}
use Rattle.sif_export.specs.Words.{Mark, Sign, Named, Parameter, Joined, Line, laid}
use Rattle.sif_export.specs.declared.sign.Sign.TheVariants as sign
use Rattle.sif_export.specs.TreeWords.{Words, joined, each_behind, parted, message_words, target_words, named_words, temporary_words, colon_words, parameter_words, primary_words, statement_words, expr_words, each_message, operand_words, name_words, top_words}
use Rattle.sif_export.specs.ExportText.{lacks, is_empty_body, body_text, method_text}
use Rattle.sif_export.proofs.Steps.{variable_in}
use Rattle.sif_export.proofs.Built.{words-message, words-operand, words-expr, words-paren, words-block, words-value, words-return, bare_p, bare_m, bare_o, bare_e, bare_s, bare-variable, bare-literal, bare-self, bare-super, bare-paren, bare-message, bare-operand, bare-expr, bare-value, bare-return, bare-block, bare-body}
use Rattle.sif_export.proofs.ExprExports.{IsConstant, is_nil, is_true, is_false, is_self, constant_of}
use Rattle.sif_export.proofs.TextExports.{words-top, words-pattern, empty-body}
use Rattle.st_tree.specs.declared.tree.Literal.TheVariants as literal

-- ---- names

named_same : (ns : List Name) → named_words (map bare_name ns) ≡ named_words ns
named_same [] = refl
named_same (n ∷ ns) = ap (λ (ws : Words). Named n.text ∷ ws) (named_same ns)

targets_same : (ns : List Name) → target_words (map bare_name ns) ≡ target_words ns
targets_same [] = refl
targets_same (n ∷ ns) = ap (λ (ws : Words). Named n.text ∷ Mark sign.Assign ∷ ws) (targets_same ns)

temporaries_same : (bar : Sign) (ns : List Name) → temporary_words bar (map bare_name ns) ≡ temporary_words bar ns
temporaries_same bar [] = refl
temporaries_same bar (n ∷ ns) = ap (λ (ws : Words). Mark sign.Bar ∷ (Named n.text ∷ ws) ++ Mark bar ∷ []) (named_same ns)

colons_same : (ns : List Name) → colon_words (map bare_name ns) ≡ colon_words ns
colons_same [] = refl
colons_same (n ∷ ns) = ap (λ (ws : Words). Parameter n.text ∷ ws) (colons_same ns)

parameters_same : (ns : List Name) → parameter_words (map bare_name ns) ≡ parameter_words ns
parameters_same [] = refl
parameters_same (n ∷ ns) = ap (λ (ws : Words). (Parameter n.text ∷ ws) ++ Mark sign.Bar ∷ []) (colons_same ns)

names_same : (ns : List Name) → map name_words (map bare_name ns) ≡ map name_words ns
names_same [] = refl
names_same (n ∷ ns) = ap (λ xs. name_words n ∷ xs) (names_same ns)

-- ---- expressions

-- messages have the same words, one by one
abbrev SameMessages : List Message → Type 0
SameMessages ms = map each_message (map bare_m ms) ≡ map each_message ms

abbrev SameOperands : List Operand → Type 0
SameOperands os = map operand_words (map bare_o os) ≡ map operand_words os

abbrev SameStatements : List Statement → Type 0
SameStatements ss = map statement_words (map bare_s ss) ≡ map statement_words ss

one_same : (t : List ℕ) (at : ℕ) (os : List Operand) → SameOperands os → each_message (bare_m (message t at os)) ≡ each_message (message t at os)
one_same t at os e = ap each_message (bare-message t at os) ∙ words-message t 0 (map bare_o os) ∙ ap (message_words t) e ∙ sym (words-message t at os)

next_same : (t : List ℕ) (at : ℕ) (os : List Operand) (ms : List Message) → SameOperands os → SameMessages ms → SameMessages (message t at os ∷ ms)
next_same t at os ms e f = ap₂ (λ x xs. x ∷ xs) (one_same t at os e) f

append_same : (us bs : List Message) → SameMessages us → SameMessages bs → SameMessages (us ++ bs)
append_same us bs e f = ap (map each_message) (map-append bare_m us bs) ∙ map-append each_message (map bare_m us) (map bare_m bs) ∙ ap₂ (λ xs ys. xs ++ ys) e f ∙ sym (map-append each_message us bs)

operand_same : (p : Primary) (ms : List Message) → primary_words (bare_p p) ≡ primary_words p → SameMessages ms → operand_words (bare_o (operand p ms)) ≡ operand_words (operand p ms)
operand_same p ms e f = ap operand_words (bare-operand p ms) ∙ words-operand (bare_p p) (map bare_m ms) ∙ ap₂ (λ (xs : Words) ys. xs ++ joined ys) e f ∙ sym (words-operand p ms)

operands_same : (p : Primary) (ms : List Message) (os : List Operand) → primary_words (bare_p p) ≡ primary_words p → SameMessages ms → SameOperands os → SameOperands (operand p ms ∷ os)
operands_same p ms os e f h = ap₂ (λ x xs. x ∷ xs) (operand_same p ms e f) h

unaries_same : {a b : List Sym} {ms : List Message} → g.Unaries a b ms → SameMessages ms
unaries_same g.none = refl
unaries_same (g.more {t = t} {at = at} {ms = ms} u) = next_same t at [] ms refl (unaries_same u)

constant_same : {p : Primary} → IsConstant p → primary_words (bare_p p) ≡ primary_words p
constant_same is_nil = ap primary_words (bare-literal literal.Nil)
constant_same is_true = ap primary_words (bare-literal literal.True)
constant_same is_false = ap primary_words (bare-literal literal.False)
constant_same is_self = ap primary_words bare-self

block_same : (at : ℕ) (ns ts : List Name) (ss : List Statement) → SameStatements ss → primary_words (bare_p (block at ns ts ss)) ≡ primary_words (block at ns ts ss)
block_same at ns ts ss e =
    ap primary_words (bare-block at ns ts ss) ∙ words-block 0 (map bare_name ns) (map bare_name ts) (map bare_s ss)
    ∙ ap (λ (ws : Words). Mark sign.BlockOpen ∷ (ws ++ (temporary_words sign.Bar (map bare_name ts) ++ (parted (Mark sign.Period) (map statement_words (map bare_s ss)) ++ Mark sign.BlockClose ∷ [])))) (parameters_same ns)
    ∙ ap (λ (ws : Words). Mark sign.BlockOpen ∷ (parameter_words ns ++ (ws ++ (parted (Mark sign.Period) (map statement_words (map bare_s ss)) ++ Mark sign.BlockClose ∷ [])))) (temporaries_same sign.Bar ts)
    ∙ ap (λ xs. Mark sign.BlockOpen ∷ (parameter_words ns ++ (temporary_words sign.Bar ts ++ (parted (Mark sign.Period) xs ++ Mark sign.BlockClose ∷ [])))) e ∙ sym (words-block at ns ts ss)

expression_same : (ns : List Name) (o : Operand) (cs : List Message) → operand_words (bare_o o) ≡ operand_words o → SameMessages cs → expr_words (bare_e (expr ns o cs)) ≡ expr_words (expr ns o cs)
expression_same ns o cs e f =
    ap expr_words (bare-expr ns o cs) ∙ words-expr (map bare_name ns) (bare_o o) (map bare_m cs)
    ∙ ap (λ (ws : Words). ws ++ (operand_words (bare_o o) ++ each_behind (Mark sign.Semicolon) (map each_message (map bare_m cs)))) (targets_same ns)
    ∙ ap₂ (λ (ws : Words) xs. target_words ns ++ (ws ++ each_behind (Mark sign.Semicolon) xs)) e f ∙ sym (words-expr ns o cs)

-- an expression's operand and cascade have the same words
record SameExpr (o : Operand) (cs : List Message) : Type 0 where
  receiver : operand_words (bare_o o) ≡ operand_words o
  cascade : SameMessages cs

whole_same : (ns : List Name) (o : Operand) (cs : List Message) → SameExpr o cs → expr_words (bare_e (expr ns o cs)) ≡ expr_words (expr ns o cs)
whole_same ns o cs h = expression_same ns o cs h.receiver h.cascade

value_same : (ns : List Name) (o : Operand) (cs : List Message) → SameExpr o cs → statement_words (bare_s (stated false (expr ns o cs))) ≡ statement_words (stated false (expr ns o cs))
value_same ns o cs h = ap statement_words (bare-value (expr ns o cs)) ∙ words-value (bare_e (expr ns o cs)) ∙ whole_same ns o cs h ∙ sym (words-value (expr ns o cs))

return_same : (ns : List Name) (o : Operand) (cs : List Message) → SameExpr o cs → statement_words (bare_s (stated true (expr ns o cs))) ≡ statement_words (stated true (expr ns o cs))
return_same ns o cs h = ap statement_words (bare-return (expr ns o cs)) ∙ words-return (bare_e (expr ns o cs)) ∙ ap (λ (ws : Words). Mark sign.Caret ∷ ws) (whole_same ns o cs h) ∙ sym (words-return (expr ns o cs))

mutual
  primary_same : {a b : List Sym} {p : Primary} {v : Bool} → g.IsPrimary a b p v → primary_words (bare_p p) ≡ primary_words p
  primary_same (g.named {t = t} {at = at} e) = ap primary_words (bare-variable (name t at)) ∙ variable_in (name t 0) ∙ sym (variable_in (name t at))
  primary_same (g.value {t = t} {p = p} e) = constant_same (constant_of t p e)
  primary_same (g.super e) = ap primary_words bare-super
  primary_same (g.number {n = n} low) = ap primary_words (bare-literal (integer n))
  primary_same (g.negative_number {n = n} next low) = ap primary_words (bare-literal (negative n))
  primary_same (g.one_token {l = l}) = ap primary_words (bare-literal l)
  primary_same (g.in_array {ls = ls} items) = ap primary_words (bare-literal (array ls))
  primary_same (g.in_parens {targets = ns} {o = o} {cs = cs} e) =
      ap primary_words (bare-paren (expr ns o cs)) ∙ words-paren (bare_e (expr ns o cs)) ∙ ap (λ (ws : Words). Mark sign.ParenOpen ∷ ws ++ Mark sign.ParenClose ∷ []) (whole_same ns o cs (expr_same e)) ∙ sym (words-paren (expr ns o cs))
  primary_same (g.plain_block {at = at} {ts = ts} {ss = ss} t s) = block_same at [] ts ss (statements_same s)
  primary_same (g.with_bar {at = at} {ns = ns} {ts = ts} {ss = ss} n t s) = block_same at ns ts ss (statements_same s)
  primary_same (g.with_two_bars {at = at} {ns = ns} {ts = ts} {ss = ss} n t s) = block_same at ns ts ss (statements_same s)
  primary_same (g.with_three_bars {at = at} {ns = ns} {ss = ss} n s) = block_same at ns [] ss (statements_same s)
  primary_same (g.only_parameters {at = at} {ns = ns} n) = block_same at ns [] [] refl

  binaries_same : {a b : List Sym} {ms : List Message} → g.Binaries a b ms → SameMessages ms
  binaries_same g.no_binaries = refl
  binaries_same (g.more_binaries {t = t} {at = at} {p = p} {us = us} {ms = ms} o x u fine m) = next_same t at (operand p us ∷ []) ms (operands_same p us [] (primary_same x) (unaries_same u) refl) (binaries_same m)

  arguments_same : {a b : List Sym} {selector : List ℕ} {os : List Operand} → g.Arguments a b selector os → SameOperands os
  arguments_same (g.last_argument {p = p} {us = us} {bs = bs} x u b fine) = operands_same p (us ++ bs) [] (primary_same x) (append_same us bs (unaries_same u) (binaries_same b)) refl
  arguments_same (g.more_arguments {p = p} {us = us} {bs = bs} {os = os} x u b fine m) = operands_same p (us ++ bs) os (primary_same x) (append_same us bs (unaries_same u) (binaries_same b)) (arguments_same m)

  messages_same : {a b : List Sym} {ms : List Message} → g.Messages a b ms → SameMessages ms
  messages_same (g.short {us = us} {bs = bs} u b) = append_same us bs (unaries_same u) (binaries_same b)
  messages_same (g.long {t = t} {at = at} {us = us} {bs = bs} {selector = selector} {os = os} u b m) =
      append_same (us ++ bs) (message (t ++ selector) at os ∷ []) (append_same us bs (unaries_same u) (binaries_same b)) (next_same (t ++ selector) at os [] (arguments_same m) refl)

  cascade_same : {a b : List Sym} {ms : List Message} → g.Cascade a b ms → SameMessages ms
  cascade_same g.no_cascade = refl
  cascade_same (g.unary_again {t = t} {at = at} {ms = ms} m) = next_same t at [] ms refl (cascade_same m)
  cascade_same (g.binary_again {t = t} {at = at} {p = p} {us = us} {ms = ms} o x u fine m) = next_same t at (operand p us ∷ []) ms (operands_same p us [] (primary_same x) (unaries_same u) refl) (cascade_same m)
  cascade_same (g.keywords_again {t = t} {at = at} {selector = selector} {os = os} {ms = ms} x m) = next_same (t ++ selector) at os ms (arguments_same x) (cascade_same m)

  expr_same : {a b : List Sym} {ns : List Name} {o : Operand} {cs : List Message} → g.IsExpr a b ns o cs → SameExpr o cs
  expr_same (g.assigned e x) = expr_same x
  expr_same (g.sent {p = p} {ms = ms} x m fine c receives) = record { receiver = operand_same p ms (primary_same x) (messages_same m); cascade = cascade_same c }

  statements_same : {a b : List Sym} {ss : List Statement} → g.Statements a b ss → SameStatements ss
  statements_same g.no_statements = refl
  statements_same (g.returned {ns = ns} {o = o} {cs = cs} x) = ap (λ w. w ∷ []) (return_same ns o cs (expr_same x))
  statements_same (g.returned_dot {ns = ns} {o = o} {cs = cs} x) = ap (λ w. w ∷ []) (return_same ns o cs (expr_same x))
  statements_same (g.last_statement {ns = ns} {o = o} {cs = cs} x) = ap (λ w. w ∷ []) (value_same ns o cs (expr_same x))
  statements_same (g.more_statements {ns = ns} {o = o} {cs = cs} x s) = ap₂ (λ w ws. w ∷ ws) (value_same ns o cs (expr_same x)) (statements_same s)

-- ---- texts

top_same : (ts : List Name) (ss : List Statement) → SameStatements ss → top_words (bare (body ts ss)) ≡ top_words (body ts ss)
top_same ts ss e =
    ap top_words (bare-body ts ss) ∙ words-top (map bare_name ts) (map bare_s ss) ∙ ap₂ (λ (ws : Words) xs. ws ++ parted (Mark sign.PeriodLine) xs) (temporaries_same sign.BarLine ts) e ∙ sym (words-top ts ss)

lacks_map : {A B : Type 0} (f : A → B) (xs : List A) → lacks (map f xs) ≡ lacks xs
lacks_map f [] = refl
lacks_map f (x ∷ xs) = refl

empty_same : (ts : List Name) (ss : List Statement) → is_empty_body (bare (body ts ss)) ≡ is_empty_body (body ts ss)
empty_same ts ss = ap is_empty_body (bare-body ts ss) ∙ empty-body (map bare_name ts) (map bare_s ss) ∙ ap₂ (λ x y. x && y) (lacks_map bare_name ts) (lacks_map bare_s ss) ∙ sym (empty-body ts ss)

body_same : (ts : List Name) (ss : List Statement) → SameStatements ss → body_text (bare (body ts ss)) ≡ body_text (body ts ss)
unfolding body_text
body_same ts ss e = ap₂ (λ x (ws : Words). if x then 34 ∷ 34 ∷ 32 ∷ [] else laid Joined ws) (empty_same ts ss) (top_same ts ss e)

method_same : (selector : List ℕ) (ns ts : List Name) (ss : List Statement) → SameStatements ss → method_text (bare_method (record { selector = selector; parameters = ns; body = body ts ss })) ≡ method_text (record { selector = selector; parameters = ns; body = body ts ss })
unfolding method_text
method_same selector ns ts ss e =
    ap₂ (λ (xs ys : Words). laid Joined xs ++ laid Line ys)
    (words-pattern selector (map bare_name ns) (bare (body ts ss)) ∙ ap (message_words selector) (names_same ns) ∙ sym (words-pattern selector ns (body ts ss)))
    (top_same ts ss e)

-- the text of a tree that was read is that of the tree without places
abbrev pub SameText : Tree → Type 0
SameText (BodyTree b) = body_text (bare b) ≡ body_text b
SameText (MethodTree m) = method_text (bare_method m) ≡ method_text m

pub derived_same : {p : Production} {a : List Sym} {tree : Tree} → Derives p a tree → SameText tree
derived_same (is_body {ts = ts} {ss = ss} t s) = body_same ts ss (statements_same s)
derived_same (is_method {selector = selector} {ns = ns} {ts = ts} {ss = ss} n t s) = method_same selector ns ts ss (statements_same s)
