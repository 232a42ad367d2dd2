-- Targets, messages, statements and primaries of trees with names, and of the trees that they are written as.
use Rattle.std.proofs.Common.{◌≡◌, ℕ, suc, ◌+◌, ◌≤◌, List, [], ◌∷◌, map, length, refl, ap, subst, arith}
use Rattle.std.specs.Prelude.{sum}
use Rattle.std.specs.List.{sum_by}
use Rattle.std.proofs.lemmas.List.Sums.{sum_by-cons}
use Rattle.st_tree.specs.declared.tree.Name.{Name}
use Rattle.st_tree.specs.declared.tree.Primary.{Primary, roll-Primary}
use Rattle.st_tree.specs.declared.tree.Primary.TheOpen.{Primary-F, Statement-F, Block-F, Body-F, Expr-F, Message-F, Operand-F}
use Rattle.st_tree.specs.declared.tree.Primary.TheFolds.{fold-Primary, fold-Statement, fold-Block, fold-Expr, fold-Message, fold-Operand, fold-roll-Primary, fold-roll-Statement, fold-roll-Block, fold-roll-Body, fold-roll-Expr, fold-roll-Message, fold-roll-Operand, ind-Body}
use Rattle.st_tree.specs.declared.tree.Statement.{Statement, roll-Statement}
use Rattle.st_tree.specs.declared.tree.Block.{Block, roll-Block}
use Rattle.st_tree.specs.declared.tree.Body.{Body, roll-Body}
use Rattle.st_tree.specs.declared.tree.Expr.{Expr, roll-Expr}
use Rattle.st_tree.specs.declared.tree.Message.{Message, roll-Message}
use Rattle.st_tree.specs.declared.tree.Operand.{Operand, roll-Operand}
use Rattle.st_tree.specs.Small.{moves, primary_weight, statement_weight, block_weight, layer_weight, expr_weight, message_weight, operand_weight, body_weight}
use Rattle.st_code.specs.Texts.{Text}
use Rattle.st_code.specs.Named.{NamedPrimary, NameOf, SelfName, SuperName, LiteralOf, BlockOf, ParenOf, NamedOperand, OperandOf, NamedOperands, no_operands, more_operands, NamedMessages, none_sent, then_sent, NamedExpr, ExprOf, NamedStatements, no_statements, more_statements, NamedBody}
use Rattle.st_code.specs.Written.{name_text, NamedStatement, NamedBlock, NamedMessage, primary_step, statement_step, block_step, body_step, expr_step, message_step, operand_step, named_primary, named_statement, named_block, named_body, named_expr, named_message, named_operand, message_row, operand_row, statement_row}
use Rattle.st_code.proofs.Written.{message-roll, operand-roll, expr-roll, body-roll, block-roll}

abbrev mutual
  pub primary_moves : NamedPrimary → ℕ
  primary_moves (NameOf t) = 1
  primary_moves SelfName = 1
  primary_moves SuperName = 1
  primary_moves (LiteralOf l) = 1
  primary_moves (BlockOf parameters temporaries row) = suc (statements_moves row)
  primary_moves (ParenOf e) = expr_moves e

  pub operand_moves : NamedOperand → ℕ
  operand_moves (OperandOf primary chain) = primary_moves primary + messages_moves chain

  pub operands_moves : NamedOperands → ℕ
  operands_moves no_operands = 0
  operands_moves (more_operands o row) = operand_moves o + operands_moves row

  pub messages_moves : NamedMessages → ℕ
  messages_moves none_sent = 0
  messages_moves (then_sent selector args row) = suc (operands_moves args + messages_moves row)

  pub expr_moves : NamedExpr → ℕ
  expr_moves (ExprOf targets (OperandOf primary chain) cascade) = length targets + (primary_moves primary + messages_moves chain) + messages_moves cascade

  pub statements_moves : NamedStatements → ℕ
  statements_moves no_statements = 0
  statements_moves (more_statements returns e row) = suc (expr_moves e + statements_moves row)

-- ---- trees as they are written

unfoldable primary_in : Primary → ℕ
primary_in = fold-Primary ℕ ℕ ℕ ℕ ℕ ℕ ℕ (primary_weight moves) (statement_weight moves) (block_weight moves) (layer_weight moves) (expr_weight moves) (message_weight moves) operand_weight

unfoldable statement_in : Statement → ℕ
statement_in = fold-Statement ℕ ℕ ℕ ℕ ℕ ℕ ℕ (primary_weight moves) (statement_weight moves) (block_weight moves) (layer_weight moves) (expr_weight moves) (message_weight moves) operand_weight

unfoldable block_in : Block → ℕ
block_in = fold-Block ℕ ℕ ℕ ℕ ℕ ℕ ℕ (primary_weight moves) (statement_weight moves) (block_weight moves) (layer_weight moves) (expr_weight moves) (message_weight moves) operand_weight

unfoldable expr_in : Expr → ℕ
expr_in = fold-Expr ℕ ℕ ℕ ℕ ℕ ℕ ℕ (primary_weight moves) (statement_weight moves) (block_weight moves) (layer_weight moves) (expr_weight moves) (message_weight moves) operand_weight

unfoldable message_in : Message → ℕ
message_in = fold-Message ℕ ℕ ℕ ℕ ℕ ℕ ℕ (primary_weight moves) (statement_weight moves) (block_weight moves) (layer_weight moves) (expr_weight moves) (message_weight moves) operand_weight

unfoldable operand_in : Operand → ℕ
operand_in = fold-Operand ℕ ℕ ℕ ℕ ℕ ℕ ℕ (primary_weight moves) (statement_weight moves) (block_weight moves) (layer_weight moves) (expr_weight moves) (message_weight moves) operand_weight

-- ---- what is shown of each kind of tree: no more with names than as it is written

abbrev PrimaryLess : Primary → Type 0
PrimaryLess x = primary_moves (named_primary x) ≤ primary_in x

abbrev StatementLess : Statement → Type 0
StatementLess x = suc (expr_moves (named_statement x).expr) ≤ statement_in x

abbrev BlockLess : Block → Type 0
BlockLess x = suc (statements_moves (named_block x).body.statements) ≤ block_in x

abbrev BodyLess : Body → Type 0
BodyLess x = statements_moves (named_body x).statements ≤ body_weight moves x

abbrev ExprLess : Expr → Type 0
ExprLess x = expr_moves (named_expr x) ≤ expr_in x

abbrev MessageLess : Message → Type 0
MessageLess x = suc (operands_moves (named_message x).arguments) ≤ message_in x

abbrev OperandLess : Operand → Type 0
OperandLess x = operand_moves (named_operand x) ≤ operand_in x

-- ---- rows

statements_less : (es : List ((x : Statement) × StatementLess x)) → statements_moves (statement_row (map named_statement (map (λ e. e.0) es))) ≤ sum (map statement_in (map (λ e. e.0) es))
statements_less [] = omega arith
statements_less (e ∷ es) =
    let s = sum_by-cons (λ (n : ℕ). n) (statement_in e.0) (map statement_in (map (λ d. d.0) es)) in
    let g = e.1 in let h = statements_less es in omega (arith, s, g, h)

messages_less : (es : List ((x : Message) × MessageLess x)) → messages_moves (message_row (map named_message (map (λ e. e.0) es))) ≤ sum (map message_in (map (λ e. e.0) es))
messages_less [] = omega arith
messages_less (e ∷ es) =
    let s = sum_by-cons (λ (n : ℕ). n) (message_in e.0) (map message_in (map (λ d. d.0) es)) in
    let g = e.1 in let h = messages_less es in omega (arith, s, g, h)

operands_less : (es : List ((x : Operand) × OperandLess x)) → operands_moves (operand_row (map named_operand (map (λ e. e.0) es))) ≤ sum (map operand_in (map (λ e. e.0) es))
operands_less [] = omega arith
operands_less (e ∷ es) =
    let s = sum_by-cons (λ (n : ℕ). n) (operand_in e.0) (map operand_in (map (λ d. d.0) es)) in
    let g = e.1 in let h = operands_less es in omega (arith, s, g, h)

targets_less : (ts : List Name) → length (map name_text ts) ≤ sum_by (λ n. moves.target + moves.text n.text) ts
targets_less [] = omega arith
targets_less (t ∷ ts) = let s = sum_by-cons (λ (n : Name). moves.target + moves.text n.text) t ts in let h = targets_less ts in omega (arith, s, h)

-- ---- one level of each

abbrev PF : Type 0
PF = Primary-F ((x : Primary) × PrimaryLess x) ((x : Statement) × StatementLess x) ((x : Block) × BlockLess x) ((x : Body) × BodyLess x) ((x : Expr) × ExprLess x) ((x : Message) × MessageLess x) ((x : Operand) × OperandLess x)

abbrev SF : Type 0
SF = Statement-F ((x : Primary) × PrimaryLess x) ((x : Statement) × StatementLess x) ((x : Block) × BlockLess x) ((x : Body) × BodyLess x) ((x : Expr) × ExprLess x) ((x : Message) × MessageLess x) ((x : Operand) × OperandLess x)

abbrev BlF : Type 0
BlF = Block-F ((x : Primary) × PrimaryLess x) ((x : Statement) × StatementLess x) ((x : Block) × BlockLess x) ((x : Body) × BodyLess x) ((x : Expr) × ExprLess x) ((x : Message) × MessageLess x) ((x : Operand) × OperandLess x)

abbrev BoF : Type 0
BoF = Body-F ((x : Primary) × PrimaryLess x) ((x : Statement) × StatementLess x) ((x : Block) × BlockLess x) ((x : Body) × BodyLess x) ((x : Expr) × ExprLess x) ((x : Message) × MessageLess x) ((x : Operand) × OperandLess x)

abbrev EF : Type 0
EF = Expr-F ((x : Primary) × PrimaryLess x) ((x : Statement) × StatementLess x) ((x : Block) × BlockLess x) ((x : Body) × BodyLess x) ((x : Expr) × ExprLess x) ((x : Message) × MessageLess x) ((x : Operand) × OperandLess x)

abbrev MF : Type 0
MF = Message-F ((x : Primary) × PrimaryLess x) ((x : Statement) × StatementLess x) ((x : Block) × BlockLess x) ((x : Body) × BodyLess x) ((x : Expr) × ExprLess x) ((x : Message) × MessageLess x) ((x : Operand) × OperandLess x)

abbrev OF : Type 0
OF = Operand-F ((x : Primary) × PrimaryLess x) ((x : Statement) × StatementLess x) ((x : Block) × BlockLess x) ((x : Body) × BodyLess x) ((x : Expr) × ExprLess x) ((x : Message) × MessageLess x) ((x : Operand) × OperandLess x)

abbrev lower_primary : PF → Primary-F Primary Statement Block Body Expr Message Operand
lower_primary (Primary-F.Variable name) = Primary-F.Variable name
lower_primary Primary-F.SelfValue = Primary-F.SelfValue
lower_primary Primary-F.SuperValue = Primary-F.SuperValue
lower_primary (Primary-F.Literal literal) = Primary-F.Literal literal
lower_primary (Primary-F.Block b) = Primary-F.Block b.0
lower_primary (Primary-F.Paren e) = Primary-F.Paren e.0

primary_level : (y : PF) → PrimaryLess (roll-Primary (lower_primary y))
unfolding named_primary named_block named_expr primary_in block_in expr_in
primary_level (Primary-F.Variable name) =
    let e = ap primary_moves (fold-roll-Primary NamedPrimary NamedStatement NamedBlock NamedBody NamedExpr NamedMessage NamedOperand primary_step statement_step block_step body_step expr_step message_step operand_step (Primary-F.Variable name)) in
    let f = fold-roll-Primary ℕ ℕ ℕ ℕ ℕ ℕ ℕ (primary_weight moves) (statement_weight moves) (block_weight moves) (layer_weight moves) (expr_weight moves) (message_weight moves) operand_weight (Primary-F.Variable name) in omega (arith, e, f)
primary_level Primary-F.SelfValue =
    let e = ap primary_moves (fold-roll-Primary NamedPrimary NamedStatement NamedBlock NamedBody NamedExpr NamedMessage NamedOperand primary_step statement_step block_step body_step expr_step message_step operand_step Primary-F.SelfValue) in
    let f = fold-roll-Primary ℕ ℕ ℕ ℕ ℕ ℕ ℕ (primary_weight moves) (statement_weight moves) (block_weight moves) (layer_weight moves) (expr_weight moves) (message_weight moves) operand_weight Primary-F.SelfValue in omega (arith, e, f)
primary_level Primary-F.SuperValue =
    let e = ap primary_moves (fold-roll-Primary NamedPrimary NamedStatement NamedBlock NamedBody NamedExpr NamedMessage NamedOperand primary_step statement_step block_step body_step expr_step message_step operand_step Primary-F.SuperValue) in
    let f = fold-roll-Primary ℕ ℕ ℕ ℕ ℕ ℕ ℕ (primary_weight moves) (statement_weight moves) (block_weight moves) (layer_weight moves) (expr_weight moves) (message_weight moves) operand_weight Primary-F.SuperValue in omega (arith, e, f)
primary_level (Primary-F.Literal literal) =
    let e = ap primary_moves (fold-roll-Primary NamedPrimary NamedStatement NamedBlock NamedBody NamedExpr NamedMessage NamedOperand primary_step statement_step block_step body_step expr_step message_step operand_step (Primary-F.Literal literal)) in
    let f = fold-roll-Primary ℕ ℕ ℕ ℕ ℕ ℕ ℕ (primary_weight moves) (statement_weight moves) (block_weight moves) (layer_weight moves) (expr_weight moves) (message_weight moves) operand_weight (Primary-F.Literal literal) in omega (arith, e, f)
primary_level (Primary-F.Block b) =
    let e = ap primary_moves (fold-roll-Primary NamedPrimary NamedStatement NamedBlock NamedBody NamedExpr NamedMessage NamedOperand primary_step statement_step block_step body_step expr_step message_step operand_step (Primary-F.Block b.0)) in
    let f = fold-roll-Primary ℕ ℕ ℕ ℕ ℕ ℕ ℕ (primary_weight moves) (statement_weight moves) (block_weight moves) (layer_weight moves) (expr_weight moves) (message_weight moves) operand_weight (Primary-F.Block b.0) in
    let g = b.1 in omega (arith, e, f, g)
primary_level (Primary-F.Paren e) =
    let n = ap primary_moves (fold-roll-Primary NamedPrimary NamedStatement NamedBlock NamedBody NamedExpr NamedMessage NamedOperand primary_step statement_step block_step body_step expr_step message_step operand_step (Primary-F.Paren e.0)) in
    let f = fold-roll-Primary ℕ ℕ ℕ ℕ ℕ ℕ ℕ (primary_weight moves) (statement_weight moves) (block_weight moves) (layer_weight moves) (expr_weight moves) (message_weight moves) operand_weight (Primary-F.Paren e.0) in
    let g = e.1 in omega (arith, n, f, g)

abbrev lower_statement : SF → Statement-F Primary Statement Block Body Expr Message Operand
lower_statement (Statement-F.Value e) = Statement-F.Value e.0
lower_statement (Statement-F.Return e) = Statement-F.Return e.0

statement_level : (y : SF) → StatementLess (roll-Statement (lower_statement y))
unfolding named_statement named_expr statement_in expr_in
statement_level (Statement-F.Value e) =
    let n = ap (λ (s : NamedStatement). expr_moves s.expr) (fold-roll-Statement NamedPrimary NamedStatement NamedBlock NamedBody NamedExpr NamedMessage NamedOperand primary_step statement_step block_step body_step expr_step message_step operand_step (Statement-F.Value e.0)) in
    let f = fold-roll-Statement ℕ ℕ ℕ ℕ ℕ ℕ ℕ (primary_weight moves) (statement_weight moves) (block_weight moves) (layer_weight moves) (expr_weight moves) (message_weight moves) operand_weight (Statement-F.Value e.0) in
    let g = e.1 in omega (arith, n, f, g)
statement_level (Statement-F.Return e) =
    let n = ap (λ (s : NamedStatement). expr_moves s.expr) (fold-roll-Statement NamedPrimary NamedStatement NamedBlock NamedBody NamedExpr NamedMessage NamedOperand primary_step statement_step block_step body_step expr_step message_step operand_step (Statement-F.Return e.0)) in
    let f = fold-roll-Statement ℕ ℕ ℕ ℕ ℕ ℕ ℕ (primary_weight moves) (statement_weight moves) (block_weight moves) (layer_weight moves) (expr_weight moves) (message_weight moves) operand_weight (Statement-F.Return e.0) in
    let g = e.1 in omega (arith, n, f, g)

abbrev lower_block : BlF → Block-F Primary Statement Block Body Expr Message Operand
lower_block y = record { at = y.at; parameters = y.parameters; body = y.body.0 }

block_level : (y : BlF) → BlockLess (roll-Block (lower_block y))
unfolding block_in body_weight
block_level y =
    let n = ap (λ (b : NamedBlock). statements_moves b.body.statements) (block-roll y.at y.parameters y.body.0) in
    let f = fold-roll-Block ℕ ℕ ℕ ℕ ℕ ℕ ℕ (primary_weight moves) (statement_weight moves) (block_weight moves) (layer_weight moves) (expr_weight moves) (message_weight moves) operand_weight (lower_block y) in
    let g = y.body.1 in omega (arith, n, f, g)

abbrev lower_body : BoF → Body-F Primary Statement Block Body Expr Message Operand
lower_body y = record { temporaries = y.temporaries; statements = map (λ e. e.0) y.statements }

body_level : (y : BoF) → BodyLess (roll-Body (lower_body y))
unfolding body_weight statement_in
body_level y =
    let n = ap (λ (b : NamedBody). statements_moves b.statements) (body-roll y.temporaries (map (λ e. e.0) y.statements)) in
    let f = fold-roll-Body ℕ ℕ ℕ ℕ ℕ ℕ ℕ (primary_weight moves) (statement_weight moves) (block_weight moves) (layer_weight moves) (expr_weight moves) (message_weight moves) operand_weight (lower_body y) in
    let g = statements_less y.statements in omega (arith, n, f, g)

abbrev lower_expr : EF → Expr-F Primary Statement Block Body Expr Message Operand
lower_expr y = record { targets = y.targets; operand = y.operand.0; cascade = map (λ e. e.0) y.cascade }

-- an expression counts its operand
expr_counts : (targets : List Text) (o : NamedOperand) (cascade : NamedMessages) → expr_moves (ExprOf targets o cascade) ≡ length targets + operand_moves o + messages_moves cascade
expr_counts targets (OperandOf primary chain) cascade = refl

expr_level : (y : EF) → ExprLess (roll-Expr (lower_expr y))
unfolding expr_in operand_in message_in
expr_level y =
    let n = ap expr_moves (expr-roll y.targets y.operand.0 (map (λ e. e.0) y.cascade)) in
    let c = expr_counts (map name_text y.targets) (named_operand y.operand.0) (message_row (map named_message (map (λ e. e.0) y.cascade))) in
    let f = fold-roll-Expr ℕ ℕ ℕ ℕ ℕ ℕ ℕ (primary_weight moves) (statement_weight moves) (block_weight moves) (layer_weight moves) (expr_weight moves) (message_weight moves) operand_weight (lower_expr y) in
    let t = targets_less y.targets in
    let g = y.operand.1 in
    let h = messages_less y.cascade in omega (arith, n, c, f, t, g, h)

abbrev lower_message : MF → Message-F Primary Statement Block Body Expr Message Operand
lower_message y = record { selector = y.selector; at = y.at; arguments = map (λ e. e.0) y.arguments }

message_level : (y : MF) → MessageLess (roll-Message (lower_message y))
unfolding message_in operand_in
message_level y =
    let n = ap (λ (m : NamedMessage). operands_moves m.arguments) (message-roll y.selector y.at (map (λ e. e.0) y.arguments)) in
    let f = fold-roll-Message ℕ ℕ ℕ ℕ ℕ ℕ ℕ (primary_weight moves) (statement_weight moves) (block_weight moves) (layer_weight moves) (expr_weight moves) (message_weight moves) operand_weight (lower_message y) in
    let g = operands_less y.arguments in omega (arith, n, f, g)

abbrev lower_operand : OF → Operand-F Primary Statement Block Body Expr Message Operand
lower_operand y = record { primary = y.primary.0; chain = map (λ e. e.0) y.chain }

operand_level : (y : OF) → OperandLess (roll-Operand (lower_operand y))
unfolding operand_in primary_in message_in
operand_level y =
    let n = ap operand_moves (operand-roll y.primary.0 (map (λ e. e.0) y.chain)) in
    let f = fold-roll-Operand ℕ ℕ ℕ ℕ ℕ ℕ ℕ (primary_weight moves) (statement_weight moves) (block_weight moves) (layer_weight moves) (expr_weight moves) (message_weight moves) operand_weight (lower_operand y) in
    let g = y.primary.1 in
    let h = messages_less y.chain in omega (arith, n, f, g, h)

pub body_less : (b : Body) → statements_moves (named_body b).statements ≤ body_weight moves b
body_less =
    ind-Body PrimaryLess StatementLess BlockLess BodyLess ExprLess MessageLess OperandLess (λ x y is. subst (λ z. PrimaryLess (roll-Primary z)) is (primary_level y)) (λ x y is. subst (λ z. StatementLess (roll-Statement z)) is (statement_level y)) (λ x y is. subst (λ z. BlockLess (roll-Block z)) is (block_level y)) (λ x y is. subst (λ z. BodyLess (roll-Body z)) is (body_level y)) (λ x y is. subst (λ z. ExprLess (roll-Expr z)) is (expr_level y)) (λ x y is. subst (λ z. MessageLess (roll-Message z)) is (message_level y)) (λ x y is. subst (λ z. OperandLess (roll-Operand z)) is (operand_level y))
