-- The code of bodies that are drafts: where the machine keeps each variable.
use Rattle.std.specs.Prelude.{ℕ, zero, suc, ◌+◌, ◌-◌, Bool, true, false, List, [], ◌∷◌, map, get_or, nat_lt, Option, Some, None}
use Rattle.object_heap.specs.declared.value.Value.TheVariants as value
use Rattle.st_code.specs.declared.instruction.CodeKind.TheVariants as code_kind
use Rattle.st_code.specs.declared.instruction.Variable.{Variable}
use Rattle.st_code.specs.declared.instruction.Variable.TheVariants as variable
use Rattle.st_code.specs.declared.instruction.Instruction.{Instruction}
use Rattle.st_code.specs.declared.instruction.Instruction.TheVariants as instruction
use Rattle.st_code.specs.Program.{Place, Scoped, Slot, ClassSlot, Shared}
use Rattle.st_code.specs.Code.{Instr, PushConstant, PushSelf, Pop, Dup, PushVariable, Store, SendMessage, SendSuper, MakeBlock, MethodReturn, HomeReturn, BlockEnd}
use Rattle.st_code.specs.Compiled.{constant_of, is_captured, outwards, most_standing, count_uncaptured, Compiled}
use Rattle.st_compiler.specs.declared.draft.DraftBody.{DraftBody}

abbrev pub no_draft : DraftBody
no_draft = record { header = record { kind = code_kind.Block; class = value.Nil; parameters = 0; outer = None }; captured = []; before = []; captures = 0; steps = [] }

abbrev pub captured_at : List DraftBody → ℕ → List Bool
captured_at bodies code = (get_or bodies code no_draft).captured

abbrev pub outer_at : List DraftBody → ℕ → Option ℕ
outer_at bodies code = (get_or bodies code no_draft).header.outer

-- how many variables before this one are captured
abbrev pub before_at : List DraftBody → ℕ → ℕ → ℕ
before_at bodies code index = get_or (get_or bodies code no_draft).before index (get_or bodies code no_draft).captures

abbrev pub captures_at : List DraftBody → ℕ → Bool
captures_at bodies code = nat_lt 0 (get_or bodies code no_draft).captures

abbrev pub placed_behind : Bool → ℕ → ℕ → ℕ → Variable
placed_behind true scopes before index = variable.Scope scopes before
placed_behind false scopes before index = variable.Own (index - before)

-- a variable so many bodies outwards, behind so many scopes
abbrev pub scoped_in : List DraftBody → ℕ → ℕ → Option ℕ → ℕ → Variable
scoped_in bodies scopes up None index = variable.Own 0
scoped_in bodies scopes zero (Some n) index = placed_behind (is_captured (captured_at bodies n) index) scopes (before_at bodies n index) index
scoped_in bodies scopes (suc up) (Some n) index = scoped_in bodies (outwards scopes (captures_at bodies n)) up (outer_at bodies n) index

abbrev pub variable_in : List DraftBody → (code : ℕ) → Place → Variable
variable_in bodies code (Scoped up index) = scoped_in bodies 0 up (Some code) index
variable_in bodies code (Slot index) = variable.Instance index
variable_in bodies code (ClassSlot index) = variable.ClassInstance index
variable_in bodies code (Shared index) = variable.Shared index

abbrev pub instruction_in : List DraftBody → (code : ℕ) → Instr → Instruction
instruction_in bodies code (PushConstant v) = instruction.PushConstant (constant_of v)
instruction_in bodies code PushSelf = instruction.PushSelf
instruction_in bodies code Pop = instruction.Pop
instruction_in bodies code Dup = instruction.Dup
instruction_in bodies code (PushVariable place) = instruction.PushVariable (variable_in bodies code place)
instruction_in bodies code (Store place) = instruction.Store (variable_in bodies code place)
instruction_in bodies code (SendMessage selector count) = instruction.Send selector count
instruction_in bodies code (SendSuper selector count) = instruction.SuperSend selector count
instruction_in bodies code (MakeBlock n) = instruction.MakeBlock n
instruction_in bodies code MethodReturn = instruction.MethodReturn
instruction_in bodies code HomeReturn = instruction.HomeReturn
instruction_in bodies code BlockEnd = instruction.BlockEnd

-- the code of a draft with its number
abbrev pub compiled_draft : List DraftBody → (code : ℕ) → DraftBody → Compiled
compiled_draft bodies code b =
    record {
      kind = b.header.kind;
      class = b.header.class;
      parameters = b.header.parameters;
      captured = b.captured;
      instructions = map (instruction_in bodies code) b.steps;
      width = count_uncaptured b.captured + most_standing (map (instruction_in bodies code) b.steps) 0;
    }

abbrev pub compiled_drafts : List DraftBody → ℕ → List DraftBody → List Compiled
compiled_drafts bodies code [] = []
compiled_drafts bodies code (b ∷ rest) = compiled_draft bodies code b ∷ compiled_drafts bodies (suc code) rest
