-- What each constructor of a tree writes, and a method computed.
use Rattle.std.proofs.Common.{◌≡◌, ℕ, List, [], ◌∷◌, map, Bool, true, false, ap, sym, ◌∙◌, pos, codes}
use Rattle.st_tree.specs.declared.tree.Name.{Name}
use Rattle.st_tree.specs.declared.tree.Literal.{Literal}
use Rattle.st_tree.specs.declared.tree.Literal.TheVariants as literal
use Rattle.st_tree.specs.declared.tree.Literal.TheOpen.{Literal-F}
use Rattle.st_tree.specs.declared.tree.Literal.TheFolds.{fold-roll-Literal}
use Rattle.st_tree.specs.declared.tree.Primary.TheOpen.{Primary-F, Statement-F}
use Rattle.st_tree.specs.declared.tree.Primary.TheFolds.{fold-roll-Primary, fold-roll-Statement, fold-roll-Block, fold-roll-Body, fold-roll-Expr, fold-roll-Message, fold-roll-Operand, fold_out-Block, fold_out-Body, fold_out-Expr, fold_out-Message, fold_out-Operand}
use Rattle.st_tree.specs.declared.tree.Primary.{Primary}
use Rattle.st_tree.specs.declared.tree.Primary.TheVariants as primary
use Rattle.st_tree.specs.declared.tree.Statement.{Statement}
use Rattle.st_tree.specs.declared.tree.Statement.TheVariants as statement
use Rattle.st_tree.specs.declared.tree.Block.{Block, roll-Block, out-Block}
use Rattle.st_tree.specs.declared.tree.Body.{Body, roll-Body, out-Body}
use Rattle.st_tree.specs.declared.tree.Expr.{Expr, roll-Expr, out-Expr}
use Rattle.st_tree.specs.declared.tree.Message.{Message, roll-Message, out-Message}
use Rattle.st_tree.specs.declared.tree.Operand.{Operand, roll-Operand, out-Operand}
use Rattle.st_tree.specs.declared.units.UnitKind.TheVariants as kind
use Rattle.st_tree.specs.Trees as tree
use Rattle.st_tree.specs.Numbers.{unit}
use Rattle.st_code.specs.Texts.{Text}
use Rattle.st_code.specs.Named.{Literal as NamedLiteral, NilLiteral, TrueLiteral, FalseLiteral, IntegerLiteral, CharacterLiteral, StringLiteral, SymbolLiteral, ArrayLiteral, NamedPrimary, NameOf, SelfName, SuperName, LiteralOf, BlockOf, ParenOf, NamedOperand, OperandOf, no_operands, more_operands, NamedOperands, none_sent, then_sent, NamedExpr, ExprOf, NamedStatements, no_statements, more_statements, NamedBody, MethodUnit}
use Rattle.st_code.specs.Written.{name_text, literal_row, named_literal, NamedStatement, NamedBlock, NamedMessage, literal_step, primary_step, statement_step, block_step, body_step, expr_step, message_step, operand_step, named_primary, named_statement, named_block, named_body, named_expr, named_message, named_operand, named_messages, named_operands, named_statements, named_units}

abbrev pub a_message : Text → NamedOperands → NamedMessage
a_message selector arguments = record { selector = selector; arguments = arguments }

abbrev pub a_statement : Bool → NamedExpr → NamedStatement
a_statement returns e = record { returns = returns; expr = e }

abbrev pub a_body : List Text → NamedStatements → NamedBody
a_body temporaries statements = record { temporaries = temporaries; statements = statements }

abbrev pub a_block : List Text → NamedBody → NamedBlock
a_block parameters body = record { parameters = parameters; body = body }

-- ---- literals

pub literal-nil : named_literal literal.Nil ≡ NilLiteral
unfolding named_literal
literal-nil = ap named_literal (sym literal.rolls-Nil) ∙ fold-roll-Literal NamedLiteral literal_step Literal-F.Nil

pub literal-true : named_literal literal.True ≡ TrueLiteral
unfolding named_literal
literal-true = ap named_literal (sym literal.rolls-True) ∙ fold-roll-Literal NamedLiteral literal_step Literal-F.True

pub literal-false : named_literal literal.False ≡ FalseLiteral
unfolding named_literal
literal-false = ap named_literal (sym literal.rolls-False) ∙ fold-roll-Literal NamedLiteral literal_step Literal-F.False

pub literal-integer : (n : _) → named_literal (literal.Integer n) ≡ IntegerLiteral n
unfolding named_literal
literal-integer n = ap named_literal (sym (literal.rolls-Integer n)) ∙ fold-roll-Literal NamedLiteral literal_step (Literal-F.Integer n)

pub literal-character : (byte : ℕ) → named_literal (literal.Character byte) ≡ CharacterLiteral byte
unfolding named_literal
literal-character byte = ap named_literal (sym (literal.rolls-Character byte)) ∙ fold-roll-Literal NamedLiteral literal_step (Literal-F.Character byte)

pub literal-string : (text : Text) → named_literal (literal.Str text) ≡ StringLiteral text
unfolding named_literal
literal-string text = ap named_literal (sym (literal.rolls-Str text)) ∙ fold-roll-Literal NamedLiteral literal_step (Literal-F.Str text)

pub literal-symbol : (text : Text) → named_literal (literal.Symbol text) ≡ SymbolLiteral text
unfolding named_literal
literal-symbol text = ap named_literal (sym (literal.rolls-Symbol text)) ∙ fold-roll-Literal NamedLiteral literal_step (Literal-F.Symbol text)

pub literal-array : (items : List Literal) → named_literal (literal.Array items) ≡ ArrayLiteral (literal_row (map named_literal items))
unfolding named_literal
literal-array items = ap named_literal (sym (literal.rolls-Array items)) ∙ fold-roll-Literal NamedLiteral literal_step (Literal-F.Array items)

-- ---- primaries

pub primary-variable : (n : Name) → named_primary (primary.Variable n) ≡ NameOf n.text
unfolding named_primary
primary-variable n = ap named_primary (sym (primary.rolls-Variable n)) ∙ fold-roll-Primary NamedPrimary NamedStatement NamedBlock NamedBody NamedExpr NamedMessage NamedOperand primary_step statement_step block_step body_step expr_step message_step operand_step (Primary-F.Variable n)

pub primary-self : named_primary primary.SelfValue ≡ SelfName
unfolding named_primary
primary-self = ap named_primary (sym primary.rolls-SelfValue) ∙ fold-roll-Primary NamedPrimary NamedStatement NamedBlock NamedBody NamedExpr NamedMessage NamedOperand primary_step statement_step block_step body_step expr_step message_step operand_step Primary-F.SelfValue

pub primary-super : named_primary primary.SuperValue ≡ SuperName
unfolding named_primary
primary-super = ap named_primary (sym primary.rolls-SuperValue) ∙ fold-roll-Primary NamedPrimary NamedStatement NamedBlock NamedBody NamedExpr NamedMessage NamedOperand primary_step statement_step block_step body_step expr_step message_step operand_step Primary-F.SuperValue

pub primary-literal : (l : Literal) → named_primary (primary.Literal l) ≡ LiteralOf (named_literal l)
unfolding named_primary
primary-literal l = ap named_primary (sym (primary.rolls-Literal l)) ∙ fold-roll-Primary NamedPrimary NamedStatement NamedBlock NamedBody NamedExpr NamedMessage NamedOperand primary_step statement_step block_step body_step expr_step message_step operand_step (Primary-F.Literal l)

pub primary-block : (b : Block) → named_primary (primary.Block b) ≡ BlockOf (named_block b).parameters (named_block b).body.temporaries (named_block b).body.statements
unfolding named_primary named_block
primary-block b = ap named_primary (sym (primary.rolls-Block b)) ∙ fold-roll-Primary NamedPrimary NamedStatement NamedBlock NamedBody NamedExpr NamedMessage NamedOperand primary_step statement_step block_step body_step expr_step message_step operand_step (Primary-F.Block b)

pub primary-paren : (e : Expr) → named_primary (primary.Paren e) ≡ ParenOf (named_expr e)
unfolding named_primary named_expr
primary-paren e = ap named_primary (sym (primary.rolls-Paren e)) ∙ fold-roll-Primary NamedPrimary NamedStatement NamedBlock NamedBody NamedExpr NamedMessage NamedOperand primary_step statement_step block_step body_step expr_step message_step operand_step (Primary-F.Paren e)

-- ---- from a message to a body

pub message-roll : (selector : Text) (at : ℕ) (arguments : List Operand)
    → named_message (roll-Message (record { selector = selector; at = at; arguments = arguments })) ≡ a_message selector (named_operands arguments)
unfolding named_message named_operand
message-roll selector at arguments = fold-roll-Message NamedPrimary NamedStatement NamedBlock NamedBody NamedExpr NamedMessage NamedOperand primary_step statement_step block_step body_step expr_step message_step operand_step (record { selector = selector; at = at; arguments = arguments })

pub operand-roll : (p : Primary) (chain : List Message) → named_operand (roll-Operand (record { primary = p; chain = chain })) ≡ OperandOf (named_primary p) (named_messages chain)
unfolding named_operand named_primary named_message
operand-roll p chain = fold-roll-Operand NamedPrimary NamedStatement NamedBlock NamedBody NamedExpr NamedMessage NamedOperand primary_step statement_step block_step body_step expr_step message_step operand_step (record { primary = p; chain = chain })

pub expr-roll : (targets : List Name) (o : Operand) (cascade : List Message)
    → named_expr (roll-Expr (record { targets = targets; operand = o; cascade = cascade })) ≡ ExprOf (map name_text targets) (named_operand o) (named_messages cascade)
unfolding named_expr named_operand named_message
expr-roll targets o cascade = fold-roll-Expr NamedPrimary NamedStatement NamedBlock NamedBody NamedExpr NamedMessage NamedOperand primary_step statement_step block_step body_step expr_step message_step operand_step (record { targets = targets; operand = o; cascade = cascade })

pub statement-value : (e : Expr) → named_statement (statement.Value e) ≡ a_statement false (named_expr e)
unfolding named_statement named_expr
statement-value e = ap named_statement (sym (statement.rolls-Value e)) ∙ fold-roll-Statement NamedPrimary NamedStatement NamedBlock NamedBody NamedExpr NamedMessage NamedOperand primary_step statement_step block_step body_step expr_step message_step operand_step (Statement-F.Value e)

pub statement-return : (e : Expr) → named_statement (statement.Return e) ≡ a_statement true (named_expr e)
unfolding named_statement named_expr
statement-return e = ap named_statement (sym (statement.rolls-Return e)) ∙ fold-roll-Statement NamedPrimary NamedStatement NamedBlock NamedBody NamedExpr NamedMessage NamedOperand primary_step statement_step block_step body_step expr_step message_step operand_step (Statement-F.Return e)

pub body-roll : (temporaries : List Name) (statements : List Statement)
    → named_body (roll-Body (record { temporaries = temporaries; statements = statements })) ≡ a_body (map name_text temporaries) (named_statements statements)
unfolding named_body named_statement
body-roll temporaries statements = fold-roll-Body NamedPrimary NamedStatement NamedBlock NamedBody NamedExpr NamedMessage NamedOperand primary_step statement_step block_step body_step expr_step message_step operand_step (record { temporaries = temporaries; statements = statements })

pub block-roll : (at : ℕ) (parameters : List Name) (b : Body)
    → named_block (roll-Block (record { at = at; parameters = parameters; body = b })) ≡ a_block (map name_text parameters) (named_body b)
unfolding named_block named_body
block-roll at parameters b = fold-roll-Block NamedPrimary NamedStatement NamedBlock NamedBody NamedExpr NamedMessage NamedOperand primary_step statement_step block_step body_step expr_step message_step operand_step (record { at = at; parameters = parameters; body = b })

-- ---- the same of trees that are opened

pub message-out : (m : Message) → named_message m ≡ a_message (out-Message m).selector (named_operands (out-Message m).arguments)
unfolding named_message named_operand
message-out m = fold_out-Message NamedPrimary NamedStatement NamedBlock NamedBody NamedExpr NamedMessage NamedOperand primary_step statement_step block_step body_step expr_step message_step operand_step m

pub operand-out : (o : Operand) → named_operand o ≡ OperandOf (named_primary (out-Operand o).primary) (named_messages (out-Operand o).chain)
unfolding named_operand named_primary named_message
operand-out o = fold_out-Operand NamedPrimary NamedStatement NamedBlock NamedBody NamedExpr NamedMessage NamedOperand primary_step statement_step block_step body_step expr_step message_step operand_step o

pub expr-out : (e : Expr) → named_expr e ≡ ExprOf (map name_text (out-Expr e).targets) (named_operand (out-Expr e).operand) (named_messages (out-Expr e).cascade)
unfolding named_expr named_operand named_message
expr-out e = fold_out-Expr NamedPrimary NamedStatement NamedBlock NamedBody NamedExpr NamedMessage NamedOperand primary_step statement_step block_step body_step expr_step message_step operand_step e

pub body-out : (b : Body) → named_body b ≡ a_body (map name_text (out-Body b).temporaries) (named_statements (out-Body b).statements)
unfolding named_body named_statement
body-out b = fold_out-Body NamedPrimary NamedStatement NamedBlock NamedBody NamedExpr NamedMessage NamedOperand primary_step statement_step block_step body_step expr_step message_step operand_step b

pub block-out : (b : Block) → named_block b ≡ a_block (map name_text (out-Block b).parameters) (named_body (out-Block b).body)
unfolding named_block named_body
block-out b = fold_out-Block NamedPrimary NamedStatement NamedBlock NamedBody NamedExpr NamedMessage NamedOperand primary_step statement_step block_step body_step expr_step message_step operand_step b

-- ---- a comment, and `Account method! balance: n ^total := n + 1!`

abbrev name : Text → ℕ → Name
name text at = record { text = text; at = at }

pub one-method :
    named_units (
    unit (kind.Comment (codes "its balance" ∷ [])) [] ∷
    unit (kind.Method (codes "Account") (record {
      selector = codes "balance:";
      parameters = name (codes "n") 9 ∷ [];
      body = tree.body [] (statement.Return (tree.expr (name (codes "total") 12 ∷ []) (tree.operand (primary.Variable (name (codes "n") 21)) (tree.message (codes "+") 23 (tree.operand (primary.Literal (tree.integer 1)) [] ∷ []) ∷ [])) []) ∷ []);
    })) [] ∷ [])
    ≡ MethodUnit (codes "Account") (record {
      selector = codes "balance:";
      parameters = codes "n" ∷ [];
      body = record {
        temporaries = [];
        statements = more_statements true (ExprOf (codes "total" ∷ []) (OperandOf (NameOf (codes "n")) (then_sent (codes "+") (more_operands (OperandOf (LiteralOf (IntegerLiteral (pos 1))) none_sent) no_operands) none_sent)) none_sent) no_statements;
      };
    }) ∷ []
unfolding named_units named_body named_literal tree.body tree.expr tree.operand tree.message
one-method = simp (body-roll, statement-return, expr-roll, operand-roll, primary-variable, primary-literal, message-roll, literal-integer)
