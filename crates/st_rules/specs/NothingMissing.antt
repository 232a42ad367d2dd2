-- What is claimed of compiled code: the flat machine takes no default, since what an instruction names and takes is there.
use Rattle.std.specs.Prelude.{◌≡◌, ℕ, suc, ◌+◌, ◌<◌, ◌≤◌, ◌∷◌, length, Some}
use Rattle.object_heap.specs.Store.{scope_at}
use Rattle.st_code.specs.declared.instruction.Variable.{Variable}
use Rattle.st_code.specs.declared.instruction.Variable.TheVariants.{Own, Scope, Instance, ClassInstance, Shared}
use Rattle.st_code.specs.declared.instruction.Instruction.{Instruction}
use Rattle.st_code.specs.declared.instruction.Instruction.TheVariants.{PushConstant, PushSelf, PushVariable, Store, Pop, Dup, Send, SuperSend, MakeBlock, MethodReturn, HomeReturn, BlockEnd}
use Rattle.st_code.specs.declared.instruction.CodeKind.{CodeKind}
use Rattle.st_code.specs.declared.instruction.CodeKind.TheVariants as code_kind
use Rattle.st_code.specs.Program.{Program}
use Rattle.st_code.specs.Compiled.{Compiled, compile_of, count_uncaptured}
use Rattle.st_rules.specs.State.{State, Answer, scope_up}
use Rattle.st_rules.specs.Rules.{Activate, Enter}
use Rattle.st_rules.specs.Machine.{BodyAct, Run, Settle, Begin}
use Rattle.st_rules.specs.Flat.{FlatBody, code_at, instruction_at, greatest_width}
use Rattle.st_rules.specs.Turns.{Top, On, opened_run, top_iter}
use Rattle.st_rules.specs.Compilable.{Compilable}
use Rattle.st_rules.specs.Flattened.{flat_of}

module _ (p : Program) where
  -- ---- operands

  -- the code of a body
  abbrev pub code_of : FlatBody → Compiled
  code_of x = code_at (compile_of p) x.code

  -- how many of its operands are variables of its own
  abbrev pub own_count : FlatBody → ℕ
  own_count x = count_uncaptured (code_of x).captured

  -- so many operands stand above these
  abbrev pub HasOperands : ℕ → FlatBody → Type 0
  HasOperands n x = own_count x + n ≤ length x.operands

  -- there's room for one more
  abbrev pub HasRoom : FlatBody → Type 0
  HasRoom x = length x.operands < greatest_width (compile_of p)

  -- what an instruction takes is there, and there's room for what it pushes
  abbrev pub Ready : Instruction → FlatBody → Type 0
  Ready (PushConstant c) x = HasRoom x
  Ready PushSelf x = HasRoom x
  Ready (PushVariable v) x = HasRoom x
  Ready (Store v) x = HasOperands 1 x
  Ready Pop x = HasOperands 1 x
  Ready Dup x = HasOperands 1 x × HasRoom x
  Ready (Send selector count) x = HasOperands (suc count) x
  Ready (SuperSend selector count) x = HasOperands (suc count) x
  Ready (MakeBlock code) x = HasRoom x
  Ready MethodReturn x = HasOperands 1 x
  Ready HomeReturn x = HasOperands 1 x
  Ready BlockEnd x = HasOperands 1 x

  -- the body's position names an instruction, which is ready
  abbrev pub AtInstruction : FlatBody → Type 0
  AtInstruction x = (i : Instruction) × (instruction_at (compile_of p) x ≡ Some i) × Ready i x

  -- ---- variables

  -- a variable of the body's own is one of its operands, and one of a scope stands in that scope
  abbrev pub Stands : Variable → FlatBody → State → Type 0
  Stands (Own index) x st = index < own_count x
  Stands (Scope up index) x st = (n : ℕ) × (scope_up st.store up x.scope ≡ Some n) × (n < length st.store.scopes) × (index < length (scope_at n st.store).variables)
  Stands (Instance index) x st = Unit {0}
  Stands (ClassInstance index) x st = Unit {0}
  Stands (Shared index) x st = Unit {0}

  abbrev pub VariableStands : Instruction → FlatBody → State → Type 0
  VariableStands (PushVariable v) x st = Stands v x st
  VariableStands (Store v) x st = Stands v x st
  VariableStands i x st = Unit {0}

  -- ---- codes

  -- a code of the program, of this kind
  abbrev pub IsCode : ℕ → CodeKind → Type 0
  IsCode code kind = (code < length (compile_of p)) × ((code_at (compile_of p) code).kind ≡ kind)

  abbrev pub NamesCode : Instruction → Type 0
  NamesCode (MakeBlock code) = IsCode code code_kind.Block
  NamesCode i = Unit {0}

  -- ---- at a moment

  -- where an instruction comes next: all that it names and takes
  abbrev pub InstructionHas : Top FlatBody → Type 0
  InstructionHas (On target xs (Run x acts st)) =
      (x.code < length (compile_of p)) × (i : Instruction) × (instruction_at (compile_of p) x ≡ Some i) × Ready i x × VariableStands i x st × NamesCode i
  InstructionHas t = Unit {0}

  -- where a value reaches a body that waits: room for it
  abbrev pub ValueHas : Top FlatBody → Type 0
  ValueHas (On target xs (Settle (Answer v) (BodyAct x ∷ acts) st)) = (x.code < length (compile_of p)) × HasRoom x
  ValueHas t = Unit {0}

  -- where a block or a method is about to be activated: its code, and a block's scope
  abbrev pub ActivationHas : Top FlatBody → Type 0
  ActivationHas (On target xs (Begin (Activate c args env) acts st)) = IsCode c.code code_kind.Block × ((n : ℕ) → c.scope ≡ Some n → n < length st.store.scopes)
  ActivationHas (On target xs (Begin (Enter code r args env) acts st)) = IsCode code code_kind.Method
  ActivationHas t = Unit {0}

  -- after any number of small steps of the flat machine
  abbrev pub Always : (Top FlatBody → Type 0) → Type 0
  Always P = (n : ℕ) → P (top_iter (flat_of p) p n (opened_run (flat_of p) p))

-- the position names an instruction, its operands are there, with room for what it pushes, and so are the scopes and variables of the body's own and of scopes that it names, and the code of a block that it makes
abbrev pub InstructionsHave : Type 0
InstructionsHave = (p : Program) → Compilable p → Always p (InstructionHas p)

-- a value finds room
abbrev pub ValuesHave : Type 0
ValuesHave = (p : Program) → Compilable p → Always p (ValueHas p)

-- and codes and scopes that are activated are there
abbrev pub ActivationsHave : Type 0
ActivationsHave = (p : Program) → Compilable p → Always p (ActivationHas p)
