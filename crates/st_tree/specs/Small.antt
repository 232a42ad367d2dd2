-- When a program is small: readable, with few parts in all and not many in one body.
use Rattle.std.specs.Prelude.{ℕ, ◌+◌, ◌^◌, ◌<◌, ◌≤◌, List, length, sum, All}
use Rattle.std.specs.List.{sum_by}
use Rattle.st_tree.specs.declared.tree.Name.{Name}
use Rattle.st_tree.specs.declared.tree.Literal.{Literal}
use Rattle.st_tree.specs.declared.tree.Literal.TheOpen.{Literal-F}
use Rattle.st_tree.specs.declared.tree.Literal.TheFolds.{fold-Literal}
use Rattle.st_tree.specs.declared.tree.Primary.TheOpen.{Primary-F, Statement-F, Block-F, Body-F, Expr-F, Message-F, Operand-F}
use Rattle.st_tree.specs.declared.tree.Primary.TheFolds.{fold-Body}
use Rattle.st_tree.specs.declared.tree.Body.{Body}
use Rattle.st_tree.specs.declared.tree.Method.{Method}
use Rattle.st_tree.specs.declared.units.UnitKind.{UnitKind}
use Rattle.st_tree.specs.declared.units.UnitKind.TheVariants as kind
use Rattle.st_tree.specs.declared.units.ClassUnit.{ClassUnit}
use Rattle.st_tree.specs.declared.units.Annotation.{Annotation}
use Rattle.st_tree.specs.declared.units.Unit as unit
use Rattle.st_tree.specs.Units.{IsReadable}

-- how much each part of a body counts
pub record Weights : Type 0 where
  pub text : List ℕ → ℕ
  pub target : ℕ
  -- a parameter or a temporary
  pub declared_name : ℕ
  pub variable : ℕ
  -- `self` or `super`
  pub reserved : ℕ
  pub literal : Literal → ℕ
  pub block : ℕ
  pub message : ℕ
  pub statement : ℕ

-- a name or another text: one, and one for each of its bytes
abbrev pub text_size : List ℕ → ℕ
text_size text = length text + 1

-- each literal one, and its bytes; the items of an array too
abbrev pub literal_layer : Literal-F ℕ → ℕ
literal_layer (Literal-F.Str text) = text_size text
literal_layer (Literal-F.Symbol text) = text_size text
literal_layer (Literal-F.Array items) = sum items + 1
literal_layer Literal-F.Nil = 1
literal_layer Literal-F.True = 1
literal_layer Literal-F.False = 1
literal_layer (Literal-F.Integer n) = 1
literal_layer (Literal-F.Character b) = 1

unfoldable pub literal_size : Literal → ℕ
literal_size = fold-Literal ℕ literal_layer

-- names, bytes of texts, literals, blocks, messages and statements
abbrev pub parts : Weights
parts = record { text = length; target = 1; declared_name = 1; variable = 1; reserved = 0; literal = literal_size; block = 1; message = 1; statement = 1 }

-- targets, messages, statements, and primaries other than parentheses
abbrev pub moves : Weights
moves = record { text = λ t. 0; target = 1; declared_name = 0; variable = 1; reserved = 1; literal = λ l. 1; block = 1; message = 1; statement = 1 }

-- one layer of each, by what its parts weigh
abbrev pub primary_weight : Weights → Primary-F ℕ ℕ ℕ ℕ ℕ ℕ ℕ → ℕ
primary_weight w (Primary-F.Variable name) = w.variable + w.text name.text
primary_weight w Primary-F.SelfValue = w.reserved
primary_weight w Primary-F.SuperValue = w.reserved
primary_weight w (Primary-F.Literal literal) = w.literal literal
primary_weight w (Primary-F.Block block) = block
primary_weight w (Primary-F.Paren expr) = expr

abbrev pub statement_weight : Weights → Statement-F ℕ ℕ ℕ ℕ ℕ ℕ ℕ → ℕ
statement_weight w (Statement-F.Value expr) = w.statement + expr
statement_weight w (Statement-F.Return expr) = w.statement + expr

abbrev pub names_weight : Weights → List Name → ℕ
names_weight w names = sum_by (λ n. w.declared_name + w.text n.text) names

abbrev pub block_weight : Weights → Block-F ℕ ℕ ℕ ℕ ℕ ℕ ℕ → ℕ
block_weight w b = w.block + names_weight w b.parameters + b.body

abbrev pub layer_weight : Weights → Body-F ℕ ℕ ℕ ℕ ℕ ℕ ℕ → ℕ
layer_weight w b = names_weight w b.temporaries + sum b.statements

abbrev pub expr_weight : Weights → Expr-F ℕ ℕ ℕ ℕ ℕ ℕ ℕ → ℕ
expr_weight w e = sum_by (λ n. w.target + w.text n.text) e.targets + e.operand + sum e.cascade

abbrev pub message_weight : Weights → Message-F ℕ ℕ ℕ ℕ ℕ ℕ ℕ → ℕ
message_weight w m = w.message + w.text m.selector + sum m.arguments

abbrev pub operand_weight : Operand-F ℕ ℕ ℕ ℕ ℕ ℕ ℕ → ℕ
operand_weight o = o.primary + sum o.chain

-- a body, down to its innermost parts
unfoldable pub body_weight : Weights → Body → ℕ
body_weight w = fold-Body ℕ ℕ ℕ ℕ ℕ ℕ ℕ (primary_weight w) (statement_weight w) (block_weight w) (layer_weight w) (expr_weight w) (message_weight w) operand_weight

abbrev pub method_size : Method → ℕ
method_size m = text_size m.selector + names_weight parts m.parameters + body_weight parts m.body

abbrev pub class_size : ClassUnit → ℕ
class_size c = text_size c.name + text_size c.superclass + sum_by text_size c.instance_names + sum_by text_size c.class_names + sum_by text_size c.pools + sum_by text_size c.class_instance_names

abbrev pub kind_size : UnitKind → ℕ
kind_size (kind.Version text) = text_size text
kind_size (kind.Class c) = class_size c
kind_size (kind.GlobalVariable name) = text_size name
kind_size (kind.GlobalConstant name) = text_size name
kind_size (kind.Pool name) = text_size name
kind_size (kind.PoolVariable pool name) = text_size pool + text_size name
kind_size (kind.PoolConstant pool name) = text_size pool + text_size name
kind_size (kind.Initializer target body) = text_size target + body_weight parts body
kind_size (kind.PoolInitializer pool name body) = text_size pool + text_size name + body_weight parts body
kind_size (kind.ProgramInitializer body) = body_weight parts body
kind_size (kind.Method class method) = text_size class + method_size method
kind_size (kind.ClassMethod class method) = text_size class + method_size method
kind_size (kind.Comment texts) = sum_by text_size texts

abbrev pub annotation_size : Annotation → ℕ
annotation_size a = text_size a.key + text_size a.value

-- a unit counts one
abbrev pub unit_size : unit.Unit → ℕ
unit_size u = kind_size u.kind + sum_by annotation_size u.annotations + 1

-- the moves of a unit's body, where it has one
abbrev pub moves_of : UnitKind → ℕ
moves_of (kind.Initializer target body) = body_weight moves body
moves_of (kind.PoolInitializer pool name body) = body_weight moves body
moves_of (kind.ProgramInitializer body) = body_weight moves body
moves_of (kind.Method class method) = body_weight moves method.body
moves_of (kind.ClassMethod class method) = body_weight moves method.body
moves_of k = 0

-- a small program
pub record IsSmall (units : List unit.Unit) : Type 0 where
  pub readable : IsReadable units
  pub few_parts : sum_by unit_size units < 2 ^ 28
  pub short_bodies : All (λ u. moves_of u.kind ≤ 2 ^ 20 + 1) units
