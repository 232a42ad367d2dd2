-- What a program is compiled to: the code of each body, with each variable where the machine keeps it. This form is the profile's own.
use Rattle.std.specs.Prelude.{ℕ, zero, suc, ◌+◌, ◌-◌, max, Bool, true, false, List, [], ◌∷◌, map, get_or, Option, Some, None}
use Rattle.object_heap.specs.declared.value.Value.{Value}
use Rattle.object_heap.specs.declared.value.Value.TheVariants as value
use Rattle.st_code.specs.declared.instruction.Constant.{Constant}
use Rattle.st_code.specs.declared.instruction.Constant.TheVariants as constant
use Rattle.st_code.specs.declared.instruction.Variable.{Variable}
use Rattle.st_code.specs.declared.instruction.Variable.TheVariants as variable
use Rattle.st_code.specs.declared.instruction.Instruction.{Instruction}
use Rattle.st_code.specs.declared.instruction.Instruction.TheVariants as instruction
use Rattle.st_code.specs.declared.instruction.CodeKind.{CodeKind}
use Rattle.st_code.specs.declared.instruction.CodeKind.TheVariants as code_kind
use Rattle.st_code.specs.declared.instruction.Code.{Code}
use Rattle.st_code.specs.Program.{Place, Scoped, Slot, ClassSlot, Shared, Kind, InMethod, InBlock, InInitializer, Body, Program, body_at}
use Rattle.st_code.specs.Code.{Instr, PushConstant, PushSelf, Pop, Dup, PushVariable, Store, SendMessage, SendSuper, MakeBlock, MethodReturn, HomeReturn, BlockEnd, code_body}

-- the value that a constant is
abbrev pub constant_value : Constant → Value
constant_value constant.Nil = value.Nil
constant_value constant.True = value.True
constant_value constant.False = value.False
constant_value constant.Transcript = value.Transcript
constant_value (constant.Integer n) = value.Integer n
constant_value (constant.Character byte) = value.Character byte
constant_value (constant.Symbol name) = value.Symbol name
constant_value (constant.Class class) = value.Class class
constant_value (constant.Object object) = value.Object object

-- the constant of a value; a program names no metaclass
abbrev pub constant_of : Value → Constant
constant_of value.Nil = constant.Nil
constant_of value.True = constant.True
constant_of value.False = constant.False
constant_of value.Transcript = constant.Transcript
constant_of (value.Integer n) = constant.Integer n
constant_of (value.Character byte) = constant.Character byte
constant_of (value.Symbol name) = constant.Symbol name
constant_of (value.Class class) = constant.Class class
constant_of (value.Meta class) = constant.Class class
constant_of (value.Object object) = constant.Object object

-- how many of the first so many variables are captured
abbrev pub captured_before : ℕ → List Bool → ℕ
captured_before zero captured = 0
captured_before (suc n) [] = 0
captured_before (suc n) (true ∷ captured) = suc (captured_before n captured)
captured_before (suc n) (false ∷ captured) = captured_before n captured

abbrev pub is_captured : List Bool → ℕ → Bool
is_captured captured index = get_or captured index false

abbrev pub any_captured : List Bool → Bool
any_captured [] = false
any_captured (true ∷ captured) = true
any_captured (false ∷ captured) = any_captured captured

abbrev pub placed : Bool → ℕ → List Bool → ℕ → Variable
placed true scopes captured index = variable.Scope scopes (captured_before index captured)
placed false scopes captured index = variable.Own (index - captured_before index captured)

abbrev pub outwards : ℕ → Bool → ℕ
outwards scopes true = suc scopes
outwards scopes false = scopes

-- a variable so many bodies outwards from this one, behind so many scopes: only a body that captures has a scope
abbrev pub scoped_at : Program → ℕ → ℕ → Option ℕ → ℕ → Variable
scoped_at p scopes up None index = variable.Own 0
scoped_at p scopes zero (Some n) index = placed (is_captured (body_at p n).captured index) scopes (body_at p n).captured index
scoped_at p scopes (suc up) (Some n) index = scoped_at p (outwards scopes (any_captured (body_at p n).captured)) up (body_at p n).outer index

-- where a body's code finds a variable
unfoldable pub variable_at : Program → (code : ℕ) → Place → Variable
variable_at p code (Scoped up index) = scoped_at p 0 up (Some code) index
variable_at p code (Slot index) = variable.Instance index
variable_at p code (ClassSlot index) = variable.ClassInstance index
variable_at p code (Shared index) = variable.Shared index

abbrev pub instruction_of : Program → (code : ℕ) → Instr → Instruction
instruction_of p code (PushConstant v) = instruction.PushConstant (constant_of v)
instruction_of p code PushSelf = instruction.PushSelf
instruction_of p code Pop = instruction.Pop
instruction_of p code Dup = instruction.Dup
instruction_of p code (PushVariable place) = instruction.PushVariable (variable_at p code place)
instruction_of p code (Store place) = instruction.Store (variable_at p code place)
instruction_of p code (SendMessage selector count) = instruction.Send selector count
instruction_of p code (SendSuper selector count) = instruction.SuperSend selector count
instruction_of p code (MakeBlock n) = instruction.MakeBlock n
instruction_of p code MethodReturn = instruction.MethodReturn
instruction_of p code HomeReturn = instruction.HomeReturn
instruction_of p code BlockEnd = instruction.BlockEnd

-- the operands that stand behind an instruction, by those before it
abbrev pub stand_after : Instruction → ℕ → ℕ
stand_after (instruction.PushConstant c) n = suc n
stand_after instruction.PushSelf n = suc n
stand_after (instruction.PushVariable v) n = suc n
stand_after (instruction.Store v) n = n
stand_after instruction.Pop n = n - 1
stand_after instruction.Dup n = suc n
stand_after (instruction.Send selector count) n = n - count
stand_after (instruction.SuperSend selector count) n = n - count
stand_after (instruction.MakeBlock code) n = suc n
stand_after instruction.MethodReturn n = n - 1
stand_after instruction.HomeReturn n = n - 1
stand_after instruction.BlockEnd n = n - 1

-- the greatest number of operands that stand at once in this code, from so many on
abbrev pub most_standing : List Instruction → ℕ → ℕ
most_standing [] n = n
most_standing (i ∷ is) n = max n (most_standing is (stand_after i n))

abbrev pub count_uncaptured : List Bool → ℕ
count_uncaptured [] = 0
count_uncaptured (true ∷ captured) = count_uncaptured captured
count_uncaptured (false ∷ captured) = suc (count_uncaptured captured)

abbrev pub kind_of : Kind → CodeKind
kind_of InMethod = code_kind.Method
kind_of InBlock = code_kind.Block
kind_of InInitializer = code_kind.Initializer

-- the code of a body, as it is seen
pub record Compiled : Type 0 where
  pub kind : CodeKind
  pub class : Value
  pub parameters : ℕ
  pub captured : List Bool
  pub instructions : List Instruction
  pub width : ℕ

abbrev pub compiled_with : Body → List Instruction → Compiled
compiled_with body is =
    record {
      kind = kind_of body.kind;
      class = body.class;
      parameters = body.parameters;
      captured = body.captured;
      instructions = is;
      width = count_uncaptured body.captured + most_standing is 0;
    }

-- the code of the body with this number
unfoldable pub compiled_body : Program → (code : ℕ) → Body → Compiled
compiled_body p code body = compiled_with body (map (instruction_of p code) (code_body body.kind body.statements))

abbrev pub compiled_from : Program → ℕ → List Body → List Compiled
compiled_from p code [] = []
compiled_from p code (body ∷ bodies) = compiled_body p code body ∷ compiled_from p (suc code) bodies

-- the codes of a program, by number
unfoldable pub compile_of : Program → List Compiled
compile_of p = compiled_from p 0 p.bodies

-- what a code is seen as
abbrev pub seen_code : Code → Compiled
seen_code c = record { kind = c.kind; class = c.class; parameters = c.parameters; captured = c.captured.items; instructions = c.instructions.items; width = c.width }
