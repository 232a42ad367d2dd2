-- The words of trees that the grammar builds, and these trees without places.
use Rattle.std.proofs.Common.{◌≡◌, ℕ, List, [], ◌∷◌, ◌++◌, true, false, map, ap, sym, ◌∙◌, append_assoc}
use Rattle.st_tree.specs.declared.tree.Name.{Name}
use Rattle.st_tree.specs.declared.tree.Literal.{Literal}
use Rattle.st_tree.specs.declared.tree.Primary.{Primary, roll-Primary}
use Rattle.st_tree.specs.declared.tree.Statement.{Statement}
use Rattle.st_tree.specs.declared.tree.Block.{Block, roll-Block}
use Rattle.st_tree.specs.declared.tree.Body.{Body, roll-Body}
use Rattle.st_tree.specs.declared.tree.Expr.{Expr}
use Rattle.st_tree.specs.declared.tree.Message.{Message}
use Rattle.st_tree.specs.declared.tree.Operand.{Operand}
use Rattle.st_tree.specs.declared.tree.Primary.TheOpen.{Primary-F, Statement-F}
use Rattle.st_tree.specs.declared.tree.Primary.TheFolds.{fold-Primary, fold-Statement, fold-Expr, fold-Message, fold-Operand, fold-roll-Primary, fold-roll-Statement, fold-roll-Block, fold-roll-Body, fold-roll-Expr, fold-roll-Message, fold-roll-Operand}
use Rattle.st_tree.specs.declared.tree.Primary.TheViews.{out-roll-Body, rolls-Value, rolls-Return}
use Rattle.st_tree.specs.declared.tree.Primary.TheVariants as primary
use Rattle.st_tree.specs.declared.tree.Primary.TheVariants.{rolls-Variable, rolls-SelfValue, rolls-SuperValue, rolls-Literal, rolls-Block, rolls-Paren}
use Rattle.st_tree.specs.Same.{bare_name, bare_primary, bare_statement, bare_block, bare_body, bare_expr, bare_message, bare_operand, bare}
use Rattle.st_tree.specs.Trees.{variable, message, operand, expr, body, paren, block, stated}
use Rattle.sif_export.specs.Words.{Mark, Sign}
use Rattle.sif_export.specs.declared.sign.Sign.TheVariants as sign
use Rattle.sif_export.specs.TreeWords.{Words, joined, each_behind, parted, message_words, target_words, temporary_words, parameter_words, body_words, body_parts, inner_words, at_primary, at_statement, at_block, at_body, at_expr, at_message, at_operand, primary_words, statement_words, block_words, expr_words, each_message, operand_words}
use Rattle.sif_export.proofs.Steps.{paren_in, value_in, return_in}

-- ---- words

pub words-message : (t : List ℕ) (at : ℕ) (os : List Operand) → each_message (message t at os) ≡ message_words t (map operand_words os)
unfolding each_message operand_words message
words-message t at os = fold-roll-Message Words Words Words Words Words Words Words at_primary at_statement at_block at_body at_expr at_message at_operand (record { selector = t; at = at; arguments = os })

pub words-operand : (p : Primary) (ms : List Message) → operand_words (operand p ms) ≡ primary_words p ++ joined (map each_message ms)
unfolding operand_words primary_words each_message operand
words-operand p ms = fold-roll-Operand Words Words Words Words Words Words Words at_primary at_statement at_block at_body at_expr at_message at_operand (record { primary = p; chain = ms })

pub words-expr : (ns : List Name) (o : Operand) (cs : List Message) → expr_words (expr ns o cs) ≡ target_words ns ++ (operand_words o ++ each_behind (Mark sign.Semicolon) (map each_message cs))
unfolding expr_words operand_words each_message expr
words-expr ns o cs = fold-roll-Expr Words Words Words Words Words Words Words at_primary at_statement at_block at_body at_expr at_message at_operand (record { targets = ns; operand = o; cascade = cs }) ∙ append_assoc (target_words ns) (operand_words o) (each_behind (Mark sign.Semicolon) (map each_message cs))

pub words-paren : (e : Expr) → primary_words (paren e) ≡ Mark sign.ParenOpen ∷ expr_words e ++ Mark sign.ParenClose ∷ []
unfolding paren
words-paren e = paren_in e

pub words-body : (stop bar : Sign) (ts : List Name) (ss : List Statement) → body_parts stop bar (body ts ss) ≡ temporary_words bar ts ++ parted (Mark stop) (map statement_words ss)
unfolding body_parts body
words-body stop bar ts ss = ap (λ r. body_words stop bar r.temporaries (map statement_words r.statements)) (out-roll-Body (record { temporaries = ts; statements = ss }))

pub words-block : (at : ℕ) (ns ts : List Name) (ss : List Statement) → primary_words (block at ns ts ss) ≡ Mark sign.BlockOpen ∷ (parameter_words ns ++ (temporary_words sign.Bar ts ++ (parted (Mark sign.Period) (map statement_words ss) ++ Mark sign.BlockClose ∷ [])))
unfolding block body primary_words block_words statement_words inner_words
words-block at ns ts ss =
    ap (fold-Primary Words Words Words Words Words Words Words at_primary at_statement at_block at_body at_expr at_message at_operand) (sym (rolls-Block (roll-Block (record { at = at; parameters = ns; body = body ts ss }))))
    ∙ fold-roll-Primary Words Words Words Words Words Words Words at_primary at_statement at_block at_body at_expr at_message at_operand (Primary-F.Block (roll-Block (record { at = at; parameters = ns; body = body ts ss })))
    ∙ fold-roll-Block Words Words Words Words Words Words Words at_primary at_statement at_block at_body at_expr at_message at_operand (record { at = at; parameters = ns; body = body ts ss })
    ∙ ap (λ (ws : Words). Mark sign.BlockOpen ∷ parameter_words ns ++ ws ++ Mark sign.BlockClose ∷ []) (fold-roll-Body Words Words Words Words Words Words Words at_primary at_statement at_block at_body at_expr at_message at_operand (record { temporaries = ts; statements = ss }))
    ∙ ap (λ (ws : Words). Mark sign.BlockOpen ∷ ws) (assoc (parameter_words ns) (temporary_words sign.Bar ts) (parted (Mark sign.Period) (map statement_words ss)) (Mark sign.BlockClose ∷ []))
  where
    assoc : (a b c d : Words) → a ++ (b ++ c) ++ d ≡ a ++ (b ++ (c ++ d))
    assoc a b c d = append_assoc a (b ++ c) d ∙ ap (λ (ws : Words). a ++ ws) (append_assoc b c d)

pub words-value : (e : Expr) → statement_words (stated false e) ≡ expr_words e
words-value e = value_in e

pub words-return : (e : Expr) → statement_words (stated true e) ≡ Mark sign.Caret ∷ expr_words e
words-return e = return_in e

-- ---- trees without places

unfoldable pub bare_p : Primary → Primary
bare_p = fold-Primary Primary Statement Block Body Expr Message Operand bare_primary bare_statement bare_block bare_body bare_expr bare_message bare_operand

unfoldable pub bare_m : Message → Message
bare_m = fold-Message Primary Statement Block Body Expr Message Operand bare_primary bare_statement bare_block bare_body bare_expr bare_message bare_operand

unfoldable pub bare_o : Operand → Operand
bare_o = fold-Operand Primary Statement Block Body Expr Message Operand bare_primary bare_statement bare_block bare_body bare_expr bare_message bare_operand

unfoldable pub bare_e : Expr → Expr
bare_e = fold-Expr Primary Statement Block Body Expr Message Operand bare_primary bare_statement bare_block bare_body bare_expr bare_message bare_operand

unfoldable pub bare_s : Statement → Statement
bare_s = fold-Statement Primary Statement Block Body Expr Message Operand bare_primary bare_statement bare_block bare_body bare_expr bare_message bare_operand

pub bare-variable : (n : Name) → bare_p (variable n) ≡ variable (bare_name n)
unfolding bare_p
bare-variable n = ap (fold-Primary Primary Statement Block Body Expr Message Operand bare_primary bare_statement bare_block bare_body bare_expr bare_message bare_operand) (sym (rolls-Variable n)) ∙ fold-roll-Primary Primary Statement Block Body Expr Message Operand bare_primary bare_statement bare_block bare_body bare_expr bare_message bare_operand (Primary-F.Variable n) ∙ rolls-Variable (bare_name n)

pub bare-literal : (l : Literal) → bare_p (primary.Literal l) ≡ primary.Literal l
unfolding bare_p
bare-literal l = ap (fold-Primary Primary Statement Block Body Expr Message Operand bare_primary bare_statement bare_block bare_body bare_expr bare_message bare_operand) (sym (rolls-Literal l)) ∙ fold-roll-Primary Primary Statement Block Body Expr Message Operand bare_primary bare_statement bare_block bare_body bare_expr bare_message bare_operand (Primary-F.Literal l) ∙ rolls-Literal l

pub bare-self : bare_p (primary.SelfValue) ≡ primary.SelfValue
unfolding bare_p
bare-self = ap (fold-Primary Primary Statement Block Body Expr Message Operand bare_primary bare_statement bare_block bare_body bare_expr bare_message bare_operand) (sym (rolls-SelfValue)) ∙ fold-roll-Primary Primary Statement Block Body Expr Message Operand bare_primary bare_statement bare_block bare_body bare_expr bare_message bare_operand (Primary-F.SelfValue) ∙ rolls-SelfValue

pub bare-super : bare_p (primary.SuperValue) ≡ primary.SuperValue
unfolding bare_p
bare-super = ap (fold-Primary Primary Statement Block Body Expr Message Operand bare_primary bare_statement bare_block bare_body bare_expr bare_message bare_operand) (sym (rolls-SuperValue)) ∙ fold-roll-Primary Primary Statement Block Body Expr Message Operand bare_primary bare_statement bare_block bare_body bare_expr bare_message bare_operand (Primary-F.SuperValue) ∙ rolls-SuperValue

pub bare-paren : (e : Expr) → bare_p (paren e) ≡ paren (bare_e e)
unfolding bare_p bare_e paren
bare-paren e = ap (fold-Primary Primary Statement Block Body Expr Message Operand bare_primary bare_statement bare_block bare_body bare_expr bare_message bare_operand) (sym (rolls-Paren e)) ∙ fold-roll-Primary Primary Statement Block Body Expr Message Operand bare_primary bare_statement bare_block bare_body bare_expr bare_message bare_operand (Primary-F.Paren e) ∙ rolls-Paren (bare_e e)

pub bare-message : (t : List ℕ) (at : ℕ) (os : List Operand) → bare_m (message t at os) ≡ message t 0 (map bare_o os)
unfolding bare_m bare_o message
bare-message t at os = fold-roll-Message Primary Statement Block Body Expr Message Operand bare_primary bare_statement bare_block bare_body bare_expr bare_message bare_operand (record { selector = t; at = at; arguments = os })

pub bare-operand : (p : Primary) (ms : List Message) → bare_o (operand p ms) ≡ operand (bare_p p) (map bare_m ms)
unfolding bare_o bare_p bare_m operand
bare-operand p ms = fold-roll-Operand Primary Statement Block Body Expr Message Operand bare_primary bare_statement bare_block bare_body bare_expr bare_message bare_operand (record { primary = p; chain = ms })

pub bare-expr : (ns : List Name) (o : Operand) (cs : List Message) → bare_e (expr ns o cs) ≡ expr (map bare_name ns) (bare_o o) (map bare_m cs)
unfolding bare_e bare_o bare_m expr
bare-expr ns o cs = fold-roll-Expr Primary Statement Block Body Expr Message Operand bare_primary bare_statement bare_block bare_body bare_expr bare_message bare_operand (record { targets = ns; operand = o; cascade = cs })

pub bare-value : (e : Expr) → bare_s (stated false e) ≡ stated false (bare_e e)
unfolding bare_s bare_e
bare-value e = ap (fold-Statement Primary Statement Block Body Expr Message Operand bare_primary bare_statement bare_block bare_body bare_expr bare_message bare_operand) (sym (rolls-Value e)) ∙ fold-roll-Statement Primary Statement Block Body Expr Message Operand bare_primary bare_statement bare_block bare_body bare_expr bare_message bare_operand (Statement-F.Value e) ∙ rolls-Value (bare_e e)

pub bare-return : (e : Expr) → bare_s (stated true e) ≡ stated true (bare_e e)
unfolding bare_s bare_e
bare-return e = ap (fold-Statement Primary Statement Block Body Expr Message Operand bare_primary bare_statement bare_block bare_body bare_expr bare_message bare_operand) (sym (rolls-Return e)) ∙ fold-roll-Statement Primary Statement Block Body Expr Message Operand bare_primary bare_statement bare_block bare_body bare_expr bare_message bare_operand (Statement-F.Return e) ∙ rolls-Return (bare_e e)

pub bare-body : (ts : List Name) (ss : List Statement) → bare (body ts ss) ≡ body (map bare_name ts) (map bare_s ss)
unfolding bare bare_s body
bare-body ts ss = fold-roll-Body Primary Statement Block Body Expr Message Operand bare_primary bare_statement bare_block bare_body bare_expr bare_message bare_operand (record { temporaries = ts; statements = ss })

pub bare-block : (at : ℕ) (ns ts : List Name) (ss : List Statement) → bare_p (block at ns ts ss) ≡ block 0 (map bare_name ns) (map bare_name ts) (map bare_s ss)
unfolding bare_p bare_s block body
bare-block at ns ts ss =
    ap (fold-Primary Primary Statement Block Body Expr Message Operand bare_primary bare_statement bare_block bare_body bare_expr bare_message bare_operand) (sym (rolls-Block (roll-Block (record { at = at; parameters = ns; body = body ts ss }))))
    ∙ fold-roll-Primary Primary Statement Block Body Expr Message Operand bare_primary bare_statement bare_block bare_body bare_expr bare_message bare_operand (Primary-F.Block (roll-Block (record { at = at; parameters = ns; body = body ts ss })))
    ∙ ap (λ b. roll-Primary (Primary-F.Block b)) (fold-roll-Block Primary Statement Block Body Expr Message Operand bare_primary bare_statement bare_block bare_body bare_expr bare_message bare_operand (record { at = at; parameters = ns; body = body ts ss }) ∙ ap (λ b. roll-Block (record { at = 0; parameters = map bare_name ns; body = b })) (fold-roll-Body Primary Statement Block Body Expr Message Operand bare_primary bare_statement bare_block bare_body bare_expr bare_message bare_operand (record { temporaries = ts; statements = ss }))) ∙ rolls-Block (roll-Block (record { at = 0; parameters = map bare_name ns; body = roll-Body (record { temporaries = map bare_name ts; statements = map bare_s ss }) }))
