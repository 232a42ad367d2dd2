-- Each variable that an instruction names stands: self is of the class that its code is written in, and has what that class names.
use Rattle.std.proofs.Common.{◌≡◌, ℕ, ◌+◌, ◌<◌, ◌⊎◌, inl, inr, length, List, [], ◌∷◌, map, Option, Some, refl, sym, ap, ◌∙◌, subst, arith}
use Rattle.object_heap.specs.declared.value.Value.{Value}
use Rattle.object_heap.specs.declared.value.Value.TheVariants.{Nil, True, False, Integer, Character, Symbol, Class, Meta, Transcript, Object}
use Rattle.object_heap.specs.Store.{Store, object_at}
use Rattle.st_code.specs.declared.instruction.Variable.{Variable}
use Rattle.st_code.specs.declared.instruction.Variable.TheVariants.{Own, Scope, Instance, ClassInstance, Shared}
use Rattle.st_code.specs.declared.instruction.Instruction.{Instruction}
use Rattle.st_code.specs.declared.instruction.Instruction.TheVariants as instruction
use Rattle.st_code.specs.Program.{Program, Side, OfInstance, OfClass, OfMeta, body_at, class_at}
use Rattle.st_code.specs.BuiltIns.{undefined_object_class, true_class, false_class, integer_class, character_class, symbol_class, class_class, metaclass_class, transcript_writer_class, object_class}
use Rattle.st_code.specs.Compiled.{compile_of}
use Rattle.st_code.specs.Lookup.{Level, level, level_of, superclasses, walk, class_level}
use Rattle.st_collections.specs.Kinds.{slots_of}
use Rattle.st_rules.specs.State.{State}
use Rattle.st_rules.specs.Machine.{Run, Settle, Begin, Over, Stuck}
use Rattle.st_rules.specs.Flat.{FlatBody}
use Rattle.st_rules.specs.Turns.{Top, On, Ended, top_iter, opened_run}
use Rattle.st_rules.specs.Flattened.{flat_of}
use Rattle.st_rules.specs.Compilable.{Compilable}
use Rattle.st_rules.specs.NothingMissing.{Stands as HasPlace, VariableStands as HasVariable, InstructionHas}
use Rattle.st_rules.specs.Objects.{KnowsLiterals, NamesShared}
use Rattle.st_rules.specs.Selves.{OnWalk, IsOf, KnowsClasses}
use Rattle.st_rules.proofs.Writing.{TopTold}
use Rattle.st_rules.proofs.SharedStands.{fetched_is, AsMany, many}
use Rattle.st_rules.proofs.NothingMissing.{instructions_at}
use Rattle.st_rules.proofs.SelvesRun.{TopFits, both}
use Rattle.st_variables.specs.Known.{Under, InFile, AllFull, OwnKnown, Knows, KnowsVariables}
use Rattle.st_variables.specs.VariablesStand.{Stands, VariableStands, VariableHas, SlotsHave, EachVariableStands, EachObjectIsFull}
use Rattle.st_variables.proofs.Wholes.{not_of_file, full_at}
use Rattle.st_variables.proofs.SendsKeep.{in_map, on_either}
use Rattle.st_variables.proofs.KeepsMachine.{BodyIs}
use Rattle.st_variables.proofs.KeepsRun.{fetched, TopWhole, whole}

-- ---- levels

same_class : (s t : Side) (c d : ℕ) → level s c ≡ level t d → c ≡ d
same_class s t c d e = ap (λ (l : Level). l.class) e

same_side' : (s t : Side) (c d : ℕ) → level s c ≡ level t d → s ≡ t
same_side' s t c d e = ap (λ (l : Level). l.side) e

no_instance : (c d : ℕ) → level OfClass c ≡ level OfInstance d → ⊥
no_instance c d e = let f = same_side' OfClass OfInstance c d e in grind (arith, f)

no_class : (c d : ℕ) → level OfInstance c ≡ level OfClass d → ⊥
no_class c d e = let f = same_side' OfInstance OfClass c d e in grind (arith, f)

module _ (p : Program) where
  abbrev tail : ℕ → List Level
  tail top = level OfInstance top ∷ level OfInstance object_class ∷ []

  -- a walk from an instance's class
  from_instance : (k c : ℕ) → OnWalk (walk p (level OfInstance k)) (level OfInstance c) → Under p k c
  unfolding walk
  from_instance k c w = let h = in_map p OfInstance (superclasses p k) (level OfInstance c) w in subst (λ d. Under p k d) (same_class OfInstance OfInstance h.0 c h.1) h.2

  never_class : (k c : ℕ) → OnWalk (walk p (level OfInstance k)) (level OfClass c) → ⊥
  unfolding walk
  never_class k c w = let h = in_map p OfInstance (superclasses p k) (level OfClass c) w in no_class h.0 c h.1

  tail_instance : (top c : ℕ) → OnWalk (tail top) (level OfInstance c) → (top ≡ c) ⊎ (object_class ≡ c)
  tail_instance top c (inl e) = inl (same_class OfInstance OfInstance top c e)
  tail_instance top c (inr (inl e)) = inr (same_class OfInstance OfInstance object_class c e)
  tail_instance top c (inr (inr none)) = absurd none

  tail_class : (top c : ℕ) → OnWalk (tail top) (level OfClass c) → ⊥
  tail_class top c (inl e) = no_class top c e
  tail_class top c (inr (inl e)) = no_class object_class c e
  tail_class top c (inr (inr none)) = none

  -- a walk from a class
  from_class : (k c : ℕ) → OnWalk (walk p (level OfClass k)) (level OfClass c) → Under p k c
  unfolding walk
  from_class k c w = elim (on_either p (map (level OfClass) (superclasses p k)) (tail class_class) (level OfClass c) w) [
    | inl a ↦ mapped a
    | inr b ↦ absurd (tail_class class_class c b)
  ]
    where
      mapped : OnWalk (map (level OfClass) (superclasses p k)) (level OfClass c) → Under p k c
      mapped a = let h = in_map p OfClass (superclasses p k) (level OfClass c) a in subst (λ d. Under p k d) (same_class OfClass OfClass h.0 c h.1) h.2

  class_instance : (k c : ℕ) → OnWalk (walk p (level OfClass k)) (level OfInstance c) → (class_class ≡ c) ⊎ (object_class ≡ c)
  unfolding walk
  class_instance k c w = elim (on_either p (map (level OfClass) (superclasses p k)) (tail class_class) (level OfInstance c) w) [
    | inl a ↦ absurd (never a)
    | inr b ↦ tail_instance class_class c b
  ]
    where
      never : OnWalk (map (level OfClass) (superclasses p k)) (level OfInstance c) → ⊥
      never a = let h = in_map p OfClass (superclasses p k) (level OfInstance c) a in no_instance h.0 c h.1

  itself : (c : ℕ) → Under p c c
  unfolding superclasses
  itself c = inl refl

module _ (p : Program) (known : KnowsVariables p) where
  -- ---- a named slot of self

  module _ (c index : ℕ) (g : (k : ℕ) → Under p k c → InFile p k × (index < (class_at p k).slots)) where
    built_never : (k : ℕ) → k < 30 → OnWalk (walk p (level OfInstance k)) (level OfInstance c) → ⊥
    built_never k l w = not_of_file p known k (omega (arith, l)) (g k (from_instance p k c w)).0

    one_never : (k : ℕ) → k < 30 → k ≡ c → ⊥
    one_never k l e = not_of_file p known k (omega (arith, l)) (subst (λ d. InFile p d) (sym e) (g c (itself p c)).0)

    either_never : (a b : ℕ) → a < 30 → b < 30 → (a ≡ c) ⊎ (b ≡ c) → ⊥
    either_never a b l m (inl e) = one_never a l e
    either_never a b l m (inr e) = one_never b m e

    meta_never : (n : ℕ) → OnWalk (walk p (level OfMeta n)) (level OfInstance c) → ⊥
    unfolding walk
    meta_never n w = either_never metaclass_class object_class (omega arith) (omega arith) (tail_instance p metaclass_class c w)

    slot_there : (s : Store) (self : Value) → AllFull p s.objects → OnWalk (walk p (level_of s self)) (level OfInstance c) → index < length (slots_of s self)
    unfolding level_of slots_of
    slot_there s (Object n) full w =
        let y = g (object_at n s).class (from_instance p (object_at n s).class c w) in
        let f = full_at p known s.objects n full y.0 in
        omega (arith, y.1, f.1)
    slot_there s Nil full w = absurd (built_never undefined_object_class (omega arith) w)
    slot_there s True full w = absurd (built_never true_class (omega arith) w)
    slot_there s False full w = absurd (built_never false_class (omega arith) w)
    slot_there s (Integer i) full w = absurd (built_never integer_class (omega arith) w)
    slot_there s (Character b) full w = absurd (built_never character_class (omega arith) w)
    slot_there s (Symbol i) full w = absurd (built_never symbol_class (omega arith) w)
    slot_there s (Class i) full w = absurd (either_never class_class object_class (omega arith) (omega arith) (class_instance p i c w))
    slot_there s (Meta i) full w = absurd (meta_never i w)
    slot_there s Transcript full w = absurd (built_never transcript_writer_class (omega arith) w)

  -- ---- a class instance variable of self

  module _ (c index : ℕ) (g : (k : ℕ) → Under p k c → (class_at p k).class_slots + index < p.variables) where
    abbrev Held : Value → Type 0
    Held self = (k : ℕ) × (self ≡ Class k) × ((class_at p k).class_slots + index < p.variables)

    meta_class : (i : ℕ) → OnWalk (walk p (level OfMeta i)) (level OfClass c) → ⊥
    unfolding walk
    meta_class i w = tail_class p metaclass_class c w

    class_slot_there : (s : Store) (self : Value) → OnWalk (walk p (level_of s self)) (level OfClass c) → Held self
    unfolding level_of
    class_slot_there s (Class i) w = (i, refl, g i (from_class p i c w))
    class_slot_there s (Object n) w = absurd (never_class p (object_at n s).class c w)
    class_slot_there s Nil w = absurd (never_class p undefined_object_class c w)
    class_slot_there s True w = absurd (never_class p true_class c w)
    class_slot_there s False w = absurd (never_class p false_class c w)
    class_slot_there s (Integer i) w = absurd (never_class p integer_class c w)
    class_slot_there s (Character b) w = absurd (never_class p character_class c w)
    class_slot_there s (Symbol i) w = absurd (never_class p symbol_class c w)
    class_slot_there s (Meta i) w = absurd (meta_class i w)
    class_slot_there s Transcript w = absurd (never_class p transcript_writer_class c w)

  -- ---- where an instruction comes next

  module _ (x : FlatBody) (st : State) (is : BodyIs p x) (of : IsOf p st.store x.self x.class) (full : AllFull p st.store.objects) (size : length st.variables ≡ p.variables) where
    on_level : (class : Value) → (body_at p x.code).class ≡ class → OnWalk (walk p (level_of st.store x.self)) (class_level class)
    on_level class e = subst (λ v. OnWalk (walk p (level_of st.store x.self)) (class_level v)) (is ∙ e) of

    stands : (v : Variable) → HasPlace p v x st → OwnKnown p (body_at p x.code).class v → NamesShared (length st.variables) (instruction.PushVariable v) → Stands p v x st
    stands (Own index) h k s = h
    stands (Scope up index) h k s = h
    stands (Instance index) h k s = slot_there k.0 index k.2 st.store x.self full (on_level (Class k.0) k.1)
    stands (ClassInstance index) h k s =
        let y = class_slot_there k.0 index k.2 st.store x.self (on_level (Meta k.0) k.1) in
        (y.0, y.1, subst (λ n. (class_at p y.0).class_slots + index < n) (sym size) y.2)
    stands (Shared index) h k s = s

    names_either : (n : ℕ) (v : Variable) → NamesShared n (instruction.Store v) → NamesShared n (instruction.PushVariable v)
    names_either n (Own index) h = tt
    names_either n (Scope up index) h = tt
    names_either n (Instance index) h = tt
    names_either n (ClassInstance index) h = tt
    names_either n (Shared index) h = h

    variable_stands : (i : Instruction) → HasVariable p i x st → Knows p (body_at p x.code).class i → NamesShared (length st.variables) i → VariableStands p i x st
    variable_stands (instruction.PushVariable v) h k s = stands v h k s
    variable_stands (instruction.Store v) h k s = stands v h k (names_either (length st.variables) v s)
    variable_stands (instruction.PushConstant c) h k s = tt
    variable_stands instruction.PushSelf h k s = tt
    variable_stands instruction.Pop h k s = tt
    variable_stands instruction.Dup h k s = tt
    variable_stands (instruction.Send selector count) h k s = tt
    variable_stands (instruction.SuperSend selector count) h k s = tt
    variable_stands (instruction.MakeBlock code) h k s = tt
    variable_stands instruction.MethodReturn h k s = tt
    variable_stands instruction.HomeReturn h k s = tt
    variable_stands instruction.BlockEnd h k s = tt

-- ---- at each moment

module _ (p : Program) (ok : Compilable p) (literals : KnowsLiterals p) (knows : KnowsClasses p) (known : KnowsVariables p) where
  abbrev at : ℕ → Top FlatBody
  at n = top_iter (flat_of p) p n (opened_run (flat_of p) p)

  same_instruction : (i j : Instruction) → ◌≡◌ {A = Option Instruction} (Some i) (Some j) → i ≡ j
  same_instruction i j e = cc

  has_now : (t : Top FlatBody) → InstructionHas p t → TopFits p literals knows t → TopWhole p known literals knows t → TopTold (AsMany p known.shared) t → VariableHas p t
  has_now (On target xs (Run x acts st)) i f w m = λ j e.
      let same : i.1 ≡ j = same_instruction i.1 j (sym i.2 ∙ e) in
      let shared = fetched_is (NamesShared p.variables) (compile_of p) x j known.shared e in
      variable_stands p known x st w.1 f.0.1.0 w.0.0 m j (subst (λ k. HasVariable p k x st) same i.4) (fetched p known literals knows x j e) (subst (λ n. NamesShared n j) (sym m) shared)
  has_now (On target xs (Settle o acts st)) i f w m = tt
  has_now (On target xs (Begin u acts st)) i f w m = tt
  has_now (On target xs (Over o st)) i f w m = tt
  has_now (On target xs (Stuck st)) i f w m = tt
  has_now (Ended e st) i f w m = tt

  pub variable_at : (n : ℕ) → VariableHas p (at n)
  variable_at n = has_now (at n) (instructions_at p ok n) (both p literals knows ok n).1 (whole p known literals knows ok n) (many p known.shared n)

  slots_now : (t : Top FlatBody) → TopWhole p known literals knows t → SlotsHave p t
  slots_now (On target xs (Run x acts st)) w = w.0.0
  slots_now (On target xs (Settle o acts st)) w = w.0
  slots_now (On target xs (Begin u acts st)) w = w.0.0
  slots_now (On target xs (Over o st)) w = w.0
  slots_now (On target xs (Stuck st)) w = w
  slots_now (Ended e st) w = w

  pub slots_at : (n : ℕ) → SlotsHave p (at n)
  slots_at n = slots_now (at n) (whole p known literals knows ok n)

pub each_variable_stands : EachVariableStands
each_variable_stands p ok literals knows known n = variable_at p ok literals knows known n

pub each_object_is_full : EachObjectIsFull
each_object_is_full p ok literals knows known n = slots_at p ok literals knows known n
