-- What is claimed of variables: each that an instruction names stands where it looks, and each object of a class of the file has the slots that its class names.
use Rattle.std.specs.Prelude.{◌≡◌, ℕ, ◌+◌, ◌<◌, length, Some}
use Rattle.object_heap.specs.declared.value.Value.TheVariants.{Class}
use Rattle.object_heap.specs.Store.{scope_at}
use Rattle.st_code.specs.declared.instruction.Variable.{Variable}
use Rattle.st_code.specs.declared.instruction.Variable.TheVariants.{Own, Scope, Instance, ClassInstance, Shared}
use Rattle.st_code.specs.declared.instruction.Instruction.{Instruction}
use Rattle.st_code.specs.declared.instruction.Instruction.TheVariants.{PushVariable, Store}
use Rattle.st_code.specs.Program.{Program, class_at}
use Rattle.st_code.specs.Compiled.{compile_of}
use Rattle.st_collections.specs.Kinds.{slots_of}
use Rattle.st_rules.specs.State.{State, scope_up}
use Rattle.st_rules.specs.Machine.{Run, Settle, Begin, Over, Stuck}
use Rattle.st_rules.specs.Flat.{FlatBody, instruction_at}
use Rattle.st_rules.specs.Turns.{Top, On, Ended}
use Rattle.st_rules.specs.Compilable.{Compilable}
use Rattle.st_rules.specs.NothingMissing.{own_count, Always}
use Rattle.st_rules.specs.Objects.{KnowsLiterals}
use Rattle.st_rules.specs.Selves.{KnowsClasses}
use Rattle.st_variables.specs.Known.{AllFull, KnowsVariables}

module _ (p : Program) where
  -- a variable of the body's own is one of its operands, one of a scope stands in that scope, a slot is one of self's, a class instance variable one of the program's, where self is a class, and so is a variable of the program
  abbrev pub Stands : Variable → FlatBody → State → Type 0
  Stands (Own index) x st = index < own_count p x
  Stands (Scope up index) x st = (n : ℕ) × (scope_up st.store up x.scope ≡ Some n) × (n < length st.store.scopes) × (index < length (scope_at n st.store).variables)
  Stands (Instance index) x st = index < length (slots_of st.store x.self)
  Stands (ClassInstance index) x st = (c : ℕ) × (x.self ≡ Class c) × ((class_at p c).class_slots + index < length st.variables)
  Stands (Shared index) x st = index < length st.variables

  abbrev pub VariableStands : Instruction → FlatBody → State → Type 0
  VariableStands (PushVariable v) x st = Stands v x st
  VariableStands (Store v) x st = Stands v x st
  VariableStands i x st = Unit {0}

  -- where an instruction comes next, the variable that it reads or writes stands
  abbrev pub VariableHas : Top FlatBody → Type 0
  VariableHas (On target xs (Run x acts st)) = (i : Instruction) → instruction_at (compile_of p) x ≡ Some i → VariableStands i x st
  VariableHas t = Unit {0}

  -- each object has its slots
  abbrev pub SlotsHave : Top FlatBody → Type 0
  SlotsHave (On target xs (Run x acts st)) = AllFull p st.store.objects
  SlotsHave (On target xs (Settle o acts st)) = AllFull p st.store.objects
  SlotsHave (On target xs (Begin u acts st)) = AllFull p st.store.objects
  SlotsHave (On target xs (Over o st)) = AllFull p st.store.objects
  SlotsHave (On target xs (Stuck st)) = AllFull p st.store.objects
  SlotsHave (Ended e st) = AllFull p st.store.objects

-- at each small step of the flat machine's run of a compiled program
abbrev pub EachVariableStands : Type 0
EachVariableStands = (p : Program) → Compilable p → KnowsLiterals p → KnowsClasses p → KnowsVariables p → Always p (VariableHas p)

abbrev pub EachObjectIsFull : Type 0
EachObjectIsFull = (p : Program) → Compilable p → KnowsLiterals p → KnowsClasses p → KnowsVariables p → Always p (SlotsHave p)
