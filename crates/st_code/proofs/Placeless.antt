-- Trees that differ only in their places write the same program.
use Rattle.std.proofs.Common.{◌≡◌, List, [], ◌∷◌, map, true, false, Some, refl, ap, sym, ◌∙◌, subst}
use Rattle.st_tree.specs.declared.tree.Name.{Name}
use Rattle.st_tree.specs.declared.tree.Primary.{Primary, roll-Primary}
use Rattle.st_tree.specs.declared.tree.Primary.TheOpen.{Primary-F, Statement-F, Block-F, Body-F, Expr-F, Message-F, Operand-F}
use Rattle.st_tree.specs.declared.tree.Primary.TheFolds.{fold-Primary, fold-Statement, fold-Block, fold-Body, fold-Expr, fold-Message, fold-Operand, fold-roll-Primary, fold-roll-Statement, fold-roll-Block, fold-roll-Body, fold-roll-Expr, fold-roll-Message, fold-roll-Operand, ind-Body}
use Rattle.st_tree.specs.declared.tree.Statement.{Statement, roll-Statement}
use Rattle.st_tree.specs.declared.tree.Block.{Block, roll-Block}
use Rattle.st_tree.specs.declared.tree.Body.{Body, roll-Body}
use Rattle.st_tree.specs.declared.tree.Expr.{Expr, roll-Expr}
use Rattle.st_tree.specs.declared.tree.Message.{Message, roll-Message}
use Rattle.st_tree.specs.declared.tree.Operand.{Operand, roll-Operand}
use Rattle.st_tree.specs.declared.tree.Method.{Method}
use Rattle.st_tree.specs.declared.units.UnitKind.{UnitKind}
use Rattle.st_tree.specs.declared.units.UnitKind.TheVariants as kind
use Rattle.st_tree.specs.declared.units.Unit.{Unit}
use Rattle.st_tree.specs.declared.units.Definition.{Definition}
use Rattle.st_tree.specs.Same.{bare_name, bare_primary, bare_statement, bare_block, bare_body, bare_expr, bare_message, bare_operand, bare, bare_method, bare_kind, bare_unit, SameDefinition}
use Rattle.st_code.specs.Texts.{Text}
use Rattle.st_code.specs.Named.{NamedPrimary, BlockOf, ParenOf, NamedOperand, OperandOf, NamedExpr, ExprOf, NamedBody, NamedMethod, InitializerUnit, PoolInitializerUnit, ProgramUnit, MethodUnit, ClassMethodUnit}
use Rattle.st_code.specs.Written.{name_text, NamedStatement, NamedBlock, NamedMessage, primary_step, statement_step, block_step, body_step, expr_step, message_step, operand_step, named_primary, named_statement, named_block, named_body, named_expr, named_message, named_operand, named_method, named_kind, named_unit, named_units, with_named, named_messages, named_statements, message_row, operand_row, statement_row}
use Rattle.st_code.proofs.Written.{a_message, a_statement, a_body, a_block, message-roll, operand-roll, expr-roll, body-roll, block-roll}

abbrev primary_bare : Primary → Primary
primary_bare = fold-Primary Primary Statement Block Body Expr Message Operand bare_primary bare_statement bare_block bare_body bare_expr bare_message bare_operand

abbrev PrimarySame : Primary → Type 0
PrimarySame x = named_primary (primary_bare x) ≡ named_primary x

abbrev statement_bare : Statement → Statement
statement_bare = fold-Statement Primary Statement Block Body Expr Message Operand bare_primary bare_statement bare_block bare_body bare_expr bare_message bare_operand

abbrev StatementSame : Statement → Type 0
StatementSame x = named_statement (statement_bare x) ≡ named_statement x

abbrev block_bare : Block → Block
block_bare = fold-Block Primary Statement Block Body Expr Message Operand bare_primary bare_statement bare_block bare_body bare_expr bare_message bare_operand

abbrev BlockSame : Block → Type 0
BlockSame x = named_block (block_bare x) ≡ named_block x

abbrev body_bare : Body → Body
body_bare = fold-Body Primary Statement Block Body Expr Message Operand bare_primary bare_statement bare_block bare_body bare_expr bare_message bare_operand

abbrev BodySame : Body → Type 0
BodySame x = named_body (body_bare x) ≡ named_body x

abbrev expr_bare : Expr → Expr
expr_bare = fold-Expr Primary Statement Block Body Expr Message Operand bare_primary bare_statement bare_block bare_body bare_expr bare_message bare_operand

abbrev ExprSame : Expr → Type 0
ExprSame x = named_expr (expr_bare x) ≡ named_expr x

abbrev message_bare : Message → Message
message_bare = fold-Message Primary Statement Block Body Expr Message Operand bare_primary bare_statement bare_block bare_body bare_expr bare_message bare_operand

abbrev MessageSame : Message → Type 0
MessageSame x = named_message (message_bare x) ≡ named_message x

abbrev operand_bare : Operand → Operand
operand_bare = fold-Operand Primary Statement Block Body Expr Message Operand bare_primary bare_statement bare_block bare_body bare_expr bare_message bare_operand

abbrev OperandSame : Operand → Type 0
OperandSame x = named_operand (operand_bare x) ≡ named_operand x

abbrev method_named : Text → List Text → NamedBody → NamedMethod
method_named selector parameters b = record { selector = selector; parameters = parameters; body = b }

-- ---- lists

texts-same : (names : List Name) → map name_text (map bare_name names) ≡ map name_text names
texts-same [] = refl
texts-same (n ∷ names) = ap (λ ts. n.text ∷ ts) (texts-same names)

module _ {X Y : Type 0} (f : X → Y) (b : X → X) where
  rows-same : (xs : List ((x : X) × (f (b x) ≡ f x))) → map f (map b (map (λ e. e.0) xs)) ≡ map f (map (λ e. e.0) xs)
  rows-same [] = refl
  rows-same (e ∷ xs) = ap (λ y. y ∷ map f (map b (map (λ d. d.0) xs))) e.1 ∙ ap (λ ys. f e.0 ∷ ys) (rows-same xs)

-- ---- one level of each, whose parts are the same

abbrev lowered-primary : Primary-F ((x : Primary) × PrimarySame x) ((x : Statement) × StatementSame x) ((x : Block) × BlockSame x) ((x : Body) × BodySame x) ((x : Expr) × ExprSame x) ((x : Message) × MessageSame x) ((x : Operand) × OperandSame x) → Primary-F Primary Statement Block Body Expr Message Operand
lowered-primary (Primary-F.Variable name) = Primary-F.Variable name
lowered-primary Primary-F.SelfValue = Primary-F.SelfValue
lowered-primary Primary-F.SuperValue = Primary-F.SuperValue
lowered-primary (Primary-F.Literal literal) = Primary-F.Literal literal
lowered-primary (Primary-F.Block b) = Primary-F.Block b.0
lowered-primary (Primary-F.Paren e) = Primary-F.Paren e.0

primary-level : (y : Primary-F ((x : Primary) × PrimarySame x) ((x : Statement) × StatementSame x) ((x : Block) × BlockSame x) ((x : Body) × BodySame x) ((x : Expr) × ExprSame x) ((x : Message) × MessageSame x) ((x : Operand) × OperandSame x)) → PrimarySame (roll-Primary (lowered-primary y))
unfolding named_primary named_block named_expr
primary-level (Primary-F.Variable name) =
    ap named_primary (fold-roll-Primary Primary Statement Block Body Expr Message Operand bare_primary bare_statement bare_block bare_body bare_expr bare_message bare_operand (Primary-F.Variable name)) ∙ fold-roll-Primary NamedPrimary NamedStatement NamedBlock NamedBody NamedExpr NamedMessage NamedOperand primary_step statement_step block_step body_step expr_step message_step operand_step (Primary-F.Variable (bare_name name)) ∙ sym (fold-roll-Primary NamedPrimary NamedStatement NamedBlock NamedBody NamedExpr NamedMessage NamedOperand primary_step statement_step block_step body_step expr_step message_step operand_step (Primary-F.Variable name))
primary-level Primary-F.SelfValue =
    ap named_primary (fold-roll-Primary Primary Statement Block Body Expr Message Operand bare_primary bare_statement bare_block bare_body bare_expr bare_message bare_operand Primary-F.SelfValue) ∙ fold-roll-Primary NamedPrimary NamedStatement NamedBlock NamedBody NamedExpr NamedMessage NamedOperand primary_step statement_step block_step body_step expr_step message_step operand_step Primary-F.SelfValue ∙ sym (fold-roll-Primary NamedPrimary NamedStatement NamedBlock NamedBody NamedExpr NamedMessage NamedOperand primary_step statement_step block_step body_step expr_step message_step operand_step Primary-F.SelfValue)
primary-level Primary-F.SuperValue =
    ap named_primary (fold-roll-Primary Primary Statement Block Body Expr Message Operand bare_primary bare_statement bare_block bare_body bare_expr bare_message bare_operand Primary-F.SuperValue) ∙ fold-roll-Primary NamedPrimary NamedStatement NamedBlock NamedBody NamedExpr NamedMessage NamedOperand primary_step statement_step block_step body_step expr_step message_step operand_step Primary-F.SuperValue ∙ sym (fold-roll-Primary NamedPrimary NamedStatement NamedBlock NamedBody NamedExpr NamedMessage NamedOperand primary_step statement_step block_step body_step expr_step message_step operand_step Primary-F.SuperValue)
primary-level (Primary-F.Literal literal) =
    ap named_primary (fold-roll-Primary Primary Statement Block Body Expr Message Operand bare_primary bare_statement bare_block bare_body bare_expr bare_message bare_operand (Primary-F.Literal literal)) ∙ fold-roll-Primary NamedPrimary NamedStatement NamedBlock NamedBody NamedExpr NamedMessage NamedOperand primary_step statement_step block_step body_step expr_step message_step operand_step (Primary-F.Literal literal) ∙ sym (fold-roll-Primary NamedPrimary NamedStatement NamedBlock NamedBody NamedExpr NamedMessage NamedOperand primary_step statement_step block_step body_step expr_step message_step operand_step (Primary-F.Literal literal))
primary-level (Primary-F.Block b) =
    ap named_primary (fold-roll-Primary Primary Statement Block Body Expr Message Operand bare_primary bare_statement bare_block bare_body bare_expr bare_message bare_operand (Primary-F.Block b.0)) ∙ fold-roll-Primary NamedPrimary NamedStatement NamedBlock NamedBody NamedExpr NamedMessage NamedOperand primary_step statement_step block_step body_step expr_step message_step operand_step (Primary-F.Block (block_bare b.0)) ∙ ap (λ (n : NamedBlock). BlockOf n.parameters n.body.temporaries n.body.statements) b.1 ∙ sym (fold-roll-Primary NamedPrimary NamedStatement NamedBlock NamedBody NamedExpr NamedMessage NamedOperand primary_step statement_step block_step body_step expr_step message_step operand_step (Primary-F.Block b.0))
primary-level (Primary-F.Paren e) =
    ap named_primary (fold-roll-Primary Primary Statement Block Body Expr Message Operand bare_primary bare_statement bare_block bare_body bare_expr bare_message bare_operand (Primary-F.Paren e.0)) ∙ fold-roll-Primary NamedPrimary NamedStatement NamedBlock NamedBody NamedExpr NamedMessage NamedOperand primary_step statement_step block_step body_step expr_step message_step operand_step (Primary-F.Paren (expr_bare e.0)) ∙ ap ParenOf e.1 ∙ sym (fold-roll-Primary NamedPrimary NamedStatement NamedBlock NamedBody NamedExpr NamedMessage NamedOperand primary_step statement_step block_step body_step expr_step message_step operand_step (Primary-F.Paren e.0))

abbrev lowered-statement : Statement-F ((x : Primary) × PrimarySame x) ((x : Statement) × StatementSame x) ((x : Block) × BlockSame x) ((x : Body) × BodySame x) ((x : Expr) × ExprSame x) ((x : Message) × MessageSame x) ((x : Operand) × OperandSame x) → Statement-F Primary Statement Block Body Expr Message Operand
lowered-statement (Statement-F.Value e) = Statement-F.Value e.0
lowered-statement (Statement-F.Return e) = Statement-F.Return e.0

statement-level : (y : Statement-F ((x : Primary) × PrimarySame x) ((x : Statement) × StatementSame x) ((x : Block) × BlockSame x) ((x : Body) × BodySame x) ((x : Expr) × ExprSame x) ((x : Message) × MessageSame x) ((x : Operand) × OperandSame x)) → StatementSame (roll-Statement (lowered-statement y))
unfolding named_expr named_statement
statement-level (Statement-F.Value e) =
    ap named_statement (fold-roll-Statement Primary Statement Block Body Expr Message Operand bare_primary bare_statement bare_block bare_body bare_expr bare_message bare_operand (Statement-F.Value e.0)) ∙ fold-roll-Statement NamedPrimary NamedStatement NamedBlock NamedBody NamedExpr NamedMessage NamedOperand primary_step statement_step block_step body_step expr_step message_step operand_step (Statement-F.Value (expr_bare e.0)) ∙ ap (λ (n : NamedExpr). a_statement false n) e.1 ∙ sym (fold-roll-Statement NamedPrimary NamedStatement NamedBlock NamedBody NamedExpr NamedMessage NamedOperand primary_step statement_step block_step body_step expr_step message_step operand_step (Statement-F.Value e.0))
statement-level (Statement-F.Return e) =
    ap named_statement (fold-roll-Statement Primary Statement Block Body Expr Message Operand bare_primary bare_statement bare_block bare_body bare_expr bare_message bare_operand (Statement-F.Return e.0)) ∙ fold-roll-Statement NamedPrimary NamedStatement NamedBlock NamedBody NamedExpr NamedMessage NamedOperand primary_step statement_step block_step body_step expr_step message_step operand_step (Statement-F.Return (expr_bare e.0)) ∙ ap (λ (n : NamedExpr). a_statement true n) e.1 ∙ sym (fold-roll-Statement NamedPrimary NamedStatement NamedBlock NamedBody NamedExpr NamedMessage NamedOperand primary_step statement_step block_step body_step expr_step message_step operand_step (Statement-F.Return e.0))

abbrev lowered-block : Block-F ((x : Primary) × PrimarySame x) ((x : Statement) × StatementSame x) ((x : Block) × BlockSame x) ((x : Body) × BodySame x) ((x : Expr) × ExprSame x) ((x : Message) × MessageSame x) ((x : Operand) × OperandSame x) → Block-F Primary Statement Block Body Expr Message Operand
lowered-block y = record { at = y.at; parameters = y.parameters; body = y.body.0 }

block-level : (y : Block-F ((x : Primary) × PrimarySame x) ((x : Statement) × StatementSame x) ((x : Block) × BlockSame x) ((x : Body) × BodySame x) ((x : Expr) × ExprSame x) ((x : Message) × MessageSame x) ((x : Operand) × OperandSame x)) → BlockSame (roll-Block (lowered-block y))
block-level y =
    ap named_block (fold-roll-Block Primary Statement Block Body Expr Message Operand bare_primary bare_statement bare_block bare_body bare_expr bare_message bare_operand (lowered-block y)) ∙ (block-roll 0 (map bare_name y.parameters) (body_bare y.body.0)) ∙ ap (λ ts. a_block ts (named_body (body_bare y.body.0))) (texts-same y.parameters) ∙ ap (λ n. a_block (map name_text y.parameters) n) y.body.1 ∙ sym (block-roll y.at y.parameters y.body.0)

abbrev lowered-body : Body-F ((x : Primary) × PrimarySame x) ((x : Statement) × StatementSame x) ((x : Block) × BlockSame x) ((x : Body) × BodySame x) ((x : Expr) × ExprSame x) ((x : Message) × MessageSame x) ((x : Operand) × OperandSame x) → Body-F Primary Statement Block Body Expr Message Operand
lowered-body y = record { temporaries = y.temporaries; statements = map (λ e. e.0) y.statements }

body-level : (y : Body-F ((x : Primary) × PrimarySame x) ((x : Statement) × StatementSame x) ((x : Block) × BlockSame x) ((x : Body) × BodySame x) ((x : Expr) × ExprSame x) ((x : Message) × MessageSame x) ((x : Operand) × OperandSame x)) → BodySame (roll-Body (lowered-body y))
body-level y =
    ap named_body (fold-roll-Body Primary Statement Block Body Expr Message Operand bare_primary bare_statement bare_block bare_body bare_expr bare_message bare_operand (lowered-body y)) ∙ (body-roll (map bare_name y.temporaries) (map statement_bare (map (λ e. e.0) y.statements))) ∙ ap (λ ts. a_body ts (named_statements (map statement_bare (map (λ e. e.0) y.statements)))) (texts-same y.temporaries) ∙ ap (λ ss. a_body (map name_text y.temporaries) (statement_row ss)) (rows-same named_statement statement_bare y.statements) ∙ sym (body-roll y.temporaries (map (λ e. e.0) y.statements))

abbrev lowered-expr : Expr-F ((x : Primary) × PrimarySame x) ((x : Statement) × StatementSame x) ((x : Block) × BlockSame x) ((x : Body) × BodySame x) ((x : Expr) × ExprSame x) ((x : Message) × MessageSame x) ((x : Operand) × OperandSame x) → Expr-F Primary Statement Block Body Expr Message Operand
lowered-expr y = record { targets = y.targets; operand = y.operand.0; cascade = map (λ e. e.0) y.cascade }

expr-level : (y : Expr-F ((x : Primary) × PrimarySame x) ((x : Statement) × StatementSame x) ((x : Block) × BlockSame x) ((x : Body) × BodySame x) ((x : Expr) × ExprSame x) ((x : Message) × MessageSame x) ((x : Operand) × OperandSame x)) → ExprSame (roll-Expr (lowered-expr y))
expr-level y =
    ap named_expr (fold-roll-Expr Primary Statement Block Body Expr Message Operand bare_primary bare_statement bare_block bare_body bare_expr bare_message bare_operand (lowered-expr y)) ∙ (expr-roll (map bare_name y.targets) (operand_bare y.operand.0) (map message_bare (map (λ e. e.0) y.cascade))) ∙ ap (λ ts. ExprOf ts (named_operand (operand_bare y.operand.0)) (named_messages (map message_bare (map (λ e. e.0) y.cascade)))) (texts-same y.targets) ∙ ap (λ o. ExprOf (map name_text y.targets) o (named_messages (map message_bare (map (λ e. e.0) y.cascade)))) y.operand.1 ∙ ap (λ ms. ExprOf (map name_text y.targets) (named_operand y.operand.0) (message_row ms)) (rows-same named_message message_bare y.cascade) ∙ sym (expr-roll y.targets y.operand.0 (map (λ e. e.0) y.cascade))

abbrev lowered-message : Message-F ((x : Primary) × PrimarySame x) ((x : Statement) × StatementSame x) ((x : Block) × BlockSame x) ((x : Body) × BodySame x) ((x : Expr) × ExprSame x) ((x : Message) × MessageSame x) ((x : Operand) × OperandSame x) → Message-F Primary Statement Block Body Expr Message Operand
lowered-message y = record { selector = y.selector; at = y.at; arguments = map (λ e. e.0) y.arguments }

message-level : (y : Message-F ((x : Primary) × PrimarySame x) ((x : Statement) × StatementSame x) ((x : Block) × BlockSame x) ((x : Body) × BodySame x) ((x : Expr) × ExprSame x) ((x : Message) × MessageSame x) ((x : Operand) × OperandSame x)) → MessageSame (roll-Message (lowered-message y))
message-level y =
    ap named_message (fold-roll-Message Primary Statement Block Body Expr Message Operand bare_primary bare_statement bare_block bare_body bare_expr bare_message bare_operand (lowered-message y)) ∙ (message-roll y.selector 0 (map operand_bare (map (λ e. e.0) y.arguments))) ∙ ap (λ os. a_message y.selector (operand_row os)) (rows-same named_operand operand_bare y.arguments) ∙ sym (message-roll y.selector y.at (map (λ e. e.0) y.arguments))

abbrev lowered-operand : Operand-F ((x : Primary) × PrimarySame x) ((x : Statement) × StatementSame x) ((x : Block) × BlockSame x) ((x : Body) × BodySame x) ((x : Expr) × ExprSame x) ((x : Message) × MessageSame x) ((x : Operand) × OperandSame x) → Operand-F Primary Statement Block Body Expr Message Operand
lowered-operand y = record { primary = y.primary.0; chain = map (λ e. e.0) y.chain }

operand-level : (y : Operand-F ((x : Primary) × PrimarySame x) ((x : Statement) × StatementSame x) ((x : Block) × BlockSame x) ((x : Body) × BodySame x) ((x : Expr) × ExprSame x) ((x : Message) × MessageSame x) ((x : Operand) × OperandSame x)) → OperandSame (roll-Operand (lowered-operand y))
operand-level y =
    ap named_operand (fold-roll-Operand Primary Statement Block Body Expr Message Operand bare_primary bare_statement bare_block bare_body bare_expr bare_message bare_operand (lowered-operand y)) ∙ (operand-roll (primary_bare y.primary.0) (map message_bare (map (λ e. e.0) y.chain))) ∙ ap (λ q. OperandOf q (named_messages (map message_bare (map (λ e. e.0) y.chain)))) y.primary.1 ∙ ap (λ ms. OperandOf (named_primary y.primary.0) (message_row ms)) (rows-same named_message message_bare y.chain) ∙ sym (operand-roll y.primary.0 (map (λ e. e.0) y.chain))

pub body-same : (b : Body) → named_body (bare b) ≡ named_body b
unfolding bare
body-same = ind-Body PrimarySame StatementSame BlockSame BodySame ExprSame MessageSame OperandSame (λ x y is. subst (λ z. PrimarySame (roll-Primary z)) is (primary-level y)) (λ x y is. subst (λ z. StatementSame (roll-Statement z)) is (statement-level y)) (λ x y is. subst (λ z. BlockSame (roll-Block z)) is (block-level y)) (λ x y is. subst (λ z. BodySame (roll-Body z)) is (body-level y)) (λ x y is. subst (λ z. ExprSame (roll-Expr z)) is (expr-level y)) (λ x y is. subst (λ z. MessageSame (roll-Message z)) is (message-level y)) (λ x y is. subst (λ z. OperandSame (roll-Operand z)) is (operand-level y))

-- ---- methods, units and programs

method-same : (m : Method) → named_method (bare_method m) ≡ named_method m
method-same m =
    ap (λ ts. method_named m.selector ts (named_body (bare m.body))) (texts-same m.parameters) ∙ ap (λ b. method_named m.selector (map name_text m.parameters) b) (body-same m.body)

kind-same : (k : UnitKind) → named_kind (bare_kind k) ≡ named_kind k
kind-same (kind.Version text) = refl
kind-same (kind.Class c) = refl
kind-same (kind.GlobalVariable name) = refl
kind-same (kind.GlobalConstant name) = refl
kind-same (kind.Pool name) = refl
kind-same (kind.PoolVariable pool name) = refl
kind-same (kind.PoolConstant pool name) = refl
kind-same (kind.Initializer target body) = ap (λ b. Some (InitializerUnit target b)) (body-same body)
kind-same (kind.PoolInitializer pool name body) = ap (λ b. Some (PoolInitializerUnit pool name b)) (body-same body)
kind-same (kind.ProgramInitializer body) = ap (λ b. Some (ProgramUnit b)) (body-same body)
kind-same (kind.Method class method) = ap (λ m. Some (MethodUnit class m)) (method-same method)
kind-same (kind.ClassMethod class method) = ap (λ m. Some (ClassMethodUnit class m)) (method-same method)
kind-same (kind.Comment texts) = refl

pub units-same : (units : List Unit) → named_units (map bare_unit units) ≡ named_units units
unfolding named_units
units-same [] = refl
units-same (u ∷ units) = ap (λ o. with_named o (named_units (map bare_unit units))) (kind-same u.kind) ∙ ap (λ us. with_named (named_unit u) us) (units-same units)

-- the same programs write the same units
pub same-written : (a b : Definition) → SameDefinition a b → named_units a.units ≡ named_units b.units
unfolding SameDefinition
same-written a b same = sym (units-same a.units) ∙ ap (λ (d : Definition). named_units d.units) same ∙ units-same b.units
