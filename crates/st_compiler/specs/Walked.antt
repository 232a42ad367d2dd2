-- A walk over a body: what it adds to the instructions, bodies and names so far. Each expression, and each part of one, adds its own behind the others.
use Rattle.std.specs.Prelude.{ℕ, suc, ◌+◌, Bool, true, false, not, ◌&&◌, List, [], ◌∷◌, ◌++◌, map, length, Option, Some}
use Rattle.std.specs.List.{slice_set}
use Rattle.st_code.specs.Texts.{Text}
use Rattle.st_code.specs.Program.{Kind, InMethod, InBlock, InInitializer}
use Rattle.st_code.specs.Code.{Instr, PushConstant, PushSelf, Pop, Dup, PushVariable, Store, SendMessage, SendSuper, MakeBlock, return_of, end_code, empty_code}
use Rattle.st_code.specs.declared.instruction.CodeKind.{CodeKind}
use Rattle.st_code.specs.declared.instruction.CodeKind.TheVariants as code_kind
use Rattle.st_code.specs.Named.{Literal as NamedLiteral, NilLiteral, TrueLiteral, FalseLiteral, IntegerLiteral, CharacterLiteral, StringLiteral, SymbolLiteral, ArrayLiteral, Literals, no_literals, more_literals, NamedPrimary, NameOf, SelfName, SuperName, LiteralOf, BlockOf, ParenOf, NamedOperand, OperandOf, NamedOperands, no_operands, more_operands, NamedMessages, none_sent, then_sent, NamedExpr, ExprOf, NamedStatements, no_statements, more_statements}
use Rattle.st_code.specs.Resolved.{Meant, At, Value', Context, inside, named, place_of, has_text, without, number_or_last, literal_made, is_one_sent, class_of_context}
use Rattle.st_code.specs.Written.{NamedMessage, NamedStatement, NamedBlock}
use Rattle.st_compiler.specs.Befores.{befores, count_captured}
use Rattle.st_compiler.specs.declared.draft.Header.{Header}
use Rattle.st_compiler.specs.declared.draft.DraftBody.{DraftBody}
use Rattle.st_compiler.specs.declared.draft.Frame.{Frame}
use Rattle.st_compiler.specs.declared.draft.Draft.{Draft}
use Rattle.st_compiler.specs.declared.draft.Status.{Status}
use Rattle.st_compiler.specs.declared.draft.Status.TheVariants as status

-- ---- additions

abbrev pub with_steps : Draft → List Instr → Draft
with_steps d is = record d { frame = record d.frame { steps = d.frame.steps ++ is } }

abbrev pub with_step : Draft → Instr → Draft
with_step d i = with_steps d (i ∷ [])

-- names that stand in the body itself
abbrev pub with_names : Draft → List Text → Draft
with_names d ts = record d { frame = record d.frame { all = d.frame.all ++ ts } }

-- names that stand in blocks of the body
abbrev pub with_inner : Draft → List Text → Draft
with_inner d ts = record d { frame = record d.frame { all = d.frame.all ++ ts; inner = d.frame.inner ++ ts } }

-- ---- a name, a literal

abbrev pub push_of : Meant → Instr
push_of (At place) = PushVariable place
push_of (Value' v) = PushConstant v

abbrev pub name_walked : Context → Text → Draft → Draft
name_walked x t d = with_step (with_names d (t ∷ [])) (push_of (named x t))

-- how many objects a literal is
abbrev mutual
  pub objects_in : NamedLiteral → ℕ
  objects_in NilLiteral = 0
  objects_in TrueLiteral = 0
  objects_in FalseLiteral = 0
  objects_in (IntegerLiteral i) = 0
  objects_in (CharacterLiteral byte) = 0
  objects_in (StringLiteral t) = 1
  objects_in (SymbolLiteral t) = 0
  objects_in (ArrayLiteral row) = 1 + objects_in_row row

  pub objects_in_row : Literals → ℕ
  objects_in_row no_literals = 0
  objects_in_row (more_literals l row) = objects_in l + objects_in_row row

abbrev pub with_objects : Draft → ℕ → Draft
with_objects d n = record d { objects = d.objects + n }

abbrev pub literal_walked : List Text → NamedLiteral → Draft → Draft
literal_walked names l d = with_objects (with_step d (PushConstant (literal_made names d.objects l).item)) (objects_in l)

-- ---- messages

abbrev pub send_of : (to_super : Bool) → (selector count : ℕ) → Instr
send_of true selector count = SendSuper selector count
send_of false selector count = SendMessage selector count

abbrev pub operand_count : NamedOperands → ℕ
operand_count no_operands = 0
operand_count (more_operands o row) = suc (operand_count row)

-- the receiver of a cascade is kept for the messages that follow
abbrev pub dup_if : Bool → Draft → Draft
dup_if true d = with_step d Dup
dup_if false d = d

abbrev pub pop_if : Bool → Draft → Draft
pop_if true d = with_step d Pop
pop_if false d = d

abbrev pub sent_behind : Context → (to_super kept : Bool) → Text → NamedOperands → Draft → Draft
sent_behind x to_super kept selector args d = pop_if kept (with_step d (send_of to_super (number_or_last x.names.names selector) (operand_count args)))

-- a cascade behind an operand without messages
abbrev pub chain_ended : (to_super kept : Bool) → NamedMessages → Draft → Draft
chain_ended to_super true none_sent d = with_steps d (Dup ∷ send_of to_super 0 0 ∷ Pop ∷ [])
chain_ended to_super true (then_sent selector args row) d = d
chain_ended to_super false row d = d

abbrev pub is_super : NamedPrimary → Bool
is_super SuperName = true
is_super primary = false

abbrev pub is_short : NamedMessages → Bool
is_short none_sent = true
is_short (then_sent selector args row) = is_one_sent row

-- the messages of a cascade behind it go to `super`
abbrev pub is_direct : NamedOperand → Bool
is_direct (OperandOf primary chain) = is_super primary && is_short chain

-- ---- assignments

abbrev pub stores : Context → List Text → List Instr
stores x [] = []
stores x (t ∷ ts) = stores x ts ++ Store (place_of (named x t)) ∷ []

-- ---- statements

abbrev pub of_kind : CodeKind → Kind
of_kind code_kind.Method = InMethod
of_kind code_kind.Block = InBlock
of_kind code_kind.Initializer = InInitializer

-- where no statement came yet, where the last had no `^`, and behind a `^`
abbrev pub end_of : Status → CodeKind → List Instr
end_of status.Empty kind = empty_code (of_kind kind)
end_of status.Open kind = end_code (of_kind kind)
end_of status.Closed kind = []

abbrev pub without_steps : Draft → Draft
without_steps d = record d { frame = record d.frame { steps = [] } }

-- what is put aside while nothing more runs
abbrev pub aside_of : Status → Draft → List Instr
aside_of status.Empty d = []
aside_of status.Open d = []
aside_of status.Closed d = d.frame.steps

abbrev pub separated : Status → Draft → Draft
separated status.Empty d = d
separated status.Open d = with_step d Pop
separated status.Closed d = without_steps d

abbrev pub status_after : Status → Bool → Status
status_after status.Closed returns = status.Closed
status_after s true = status.Closed
status_after s false = status.Open

abbrev pub returned : CodeKind → Bool → Draft → Draft
returned kind true d = with_step d (return_of (of_kind kind))
returned kind false d = d

abbrev pub statement_ended : CodeKind → Status → Bool → (aside : List Instr) → Draft → Draft
statement_ended kind status.Closed returns aside d = record d { frame = record d.frame { steps = aside } }
statement_ended kind s returns aside d = returned kind returns d

-- ---- bodies

abbrev pub no_frame : Frame
no_frame = record { steps = []; all = []; inner = [] }

abbrev pub header_of : CodeKind → Context → Option ℕ → (parameters : ℕ) → Header
header_of kind x outer parameters = record { kind = kind; class = class_of_context x; parameters = parameters; outer = outer }

-- a body with its own number, before those of its blocks
abbrev pub body_draft : Header → List Bool → List Instr → DraftBody
body_draft header captured steps = record { header = header; captured = captured; before = befores 0 captured; captures = count_captured captured; steps = steps }

abbrev pub body_begun : Header → Draft → Draft
body_begun header d = record d { bodies = d.bodies ++ body_draft header [] [] ∷ []; frame = no_frame }

abbrev pub body_ended : (code : ℕ) → Header → (variables : List Text) → (around : Frame) → Draft → Draft
body_ended code header variables around d =
    record d { bodies = slice_set d.bodies code (body_draft header (map (has_text d.frame.inner) variables) d.frame.steps); frame = around }

-- a block of this code, which names these
abbrev pub block_made : (code : ℕ) → List Text → Draft → Draft
block_made code ts d = with_step (with_inner d ts) (MakeBlock code)

abbrev mutual
  pub primary_walked : Context → NamedPrimary → Draft → Draft
  primary_walked x (NameOf t) d = name_walked x t d
  primary_walked x SelfName d = with_step d PushSelf
  primary_walked x SuperName d = with_step d PushSelf
  primary_walked x (LiteralOf l) d = literal_walked x.names.names l d
  primary_walked x (BlockOf parameters temporaries row) d =
      let variables = parameters ++ temporaries in
      let header = header_of code_kind.Block x (Some x.code) (length parameters) in
      let d1 = statements_walked (inside x (length d.bodies) variables) code_kind.Block status.Empty row (body_begun header d) in
      block_made (length d.bodies) (without d1.frame.all variables) (body_ended (length d.bodies) header variables d.frame d1)
  primary_walked x (ParenOf e) d = expr_walked x e d

  -- a message to the first receiver, and further ones; with the flag a cascade follows the last
  pub chain_walked : Context → (to_super kept : Bool) → NamedMessages → Draft → Draft
  chain_walked x to_super kept none_sent d = d
  chain_walked x to_super kept (then_sent selector args row) d =
      let last = kept && is_one_sent row in
      chain_walked x false kept row (sent_behind x to_super last selector args (operands_walked x args (dup_if last d)))

  pub cascade_walked : Context → (to_super : Bool) → NamedMessages → Draft → Draft
  cascade_walked x to_super none_sent d = d
  cascade_walked x to_super (then_sent selector args row) d =
      let more = not (is_one_sent row) in
      cascade_walked x to_super row (sent_behind x to_super more selector args (operands_walked x args (dup_if more d)))

  pub operands_walked : Context → NamedOperands → Draft → Draft
  operands_walked x no_operands d = d
  operands_walked x (more_operands o row) d = operands_walked x row (operand_walked x false o d)

  pub operand_walked : Context → (kept : Bool) → NamedOperand → Draft → Draft
  operand_walked x kept (OperandOf primary chain) d = chain_ended (is_super primary) kept chain (chain_walked x (is_super primary) kept chain (primary_walked x primary d))

  pub expr_walked : Context → NamedExpr → Draft → Draft
  expr_walked x (ExprOf targets o cascade) d =
      with_steps (cascade_walked x (is_direct o) cascade (operand_walked x (not (is_one_sent cascade)) o (with_names d targets))) (stores x targets)

  pub statements_walked : Context → CodeKind → Status → NamedStatements → Draft → Draft
  statements_walked x kind s no_statements d = with_steps d (end_of s kind)
  statements_walked x kind s (more_statements returns e row) d = statements_walked x kind (status_after s returns) row (statement_ended kind s returns (aside_of s d) (expr_walked x e (separated s d)))

abbrev pub message_walked : Context → (to_super kept : Bool) → NamedMessage → Draft → Draft
message_walked x to_super kept m d = sent_behind x to_super kept m.selector m.arguments (operands_walked x m.arguments (dup_if kept d))

abbrev pub statement_walked : Context → CodeKind → Status → NamedStatement → Draft → Draft
statement_walked x kind s t d = statement_ended kind s t.returns (aside_of s d) (expr_walked x t.expr (separated s d))

-- the statements of a body that begins
abbrev pub body_walked : CodeKind → Context → Option ℕ → (parameters temporaries : List Text) → NamedStatements → Draft → Draft
body_walked kind x outer parameters temporaries row d =
    statements_walked (inside x (length d.bodies) (parameters ++ temporaries)) kind status.Empty row (body_begun (header_of kind x outer (length parameters)) d)

-- a whole body
abbrev pub body_made_of : CodeKind → Context → Option ℕ → (parameters temporaries : List Text) → NamedStatements → Draft → Draft
body_made_of kind x outer parameters temporaries row d =
    body_ended (length d.bodies) (header_of kind x outer (length parameters)) (parameters ++ temporaries) d.frame (body_walked kind x outer parameters temporaries row d)

-- the names that it leaves to the body around it
abbrev pub body_names : CodeKind → Context → Option ℕ → (parameters temporaries : List Text) → NamedStatements → Draft → List Text
body_names kind x outer parameters temporaries row d = without (body_walked kind x outer parameters temporaries row d).frame.all (parameters ++ temporaries)

-- a block: its body, and what makes it
abbrev pub block_walked : Context → NamedBlock → Draft → Draft
block_walked x b d = primary_walked x (BlockOf b.parameters b.body.temporaries b.body.statements) d
