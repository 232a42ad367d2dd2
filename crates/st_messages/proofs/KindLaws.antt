-- Of which classes a receiver is, by the walk of its lookup.
use Rattle.std.proofs.Common.{◌≡◌, ℕ, Bool, true, false, ◌&&◌, ◌||◌, List, [], ◌∷◌, ◌++◌, map, nat_eq, refl, ap, ◌∙◌}
use Rattle.object_heap.specs.declared.value.Value.{Value}
use Rattle.object_heap.specs.declared.value.Value.TheVariants.{Nil, True, False, Integer, Character, Symbol, Class, Meta, Transcript, Object}
use Rattle.object_heap.specs.Store.{Store}
use Rattle.st_code.specs.BuiltIns.{class_class, metaclass_class, object_class}
use Rattle.st_code.specs.Lookup.{Level, level, level_of, holds, inherits, superclasses, walk}
use Rattle.st_code.specs.Messages.{ObjectMessage}
use Rattle.st_code.specs.Program.{Program, Side, OfInstance, OfClass, OfMeta, same_side}
use Rattle.st_collections.specs.Actions.{Gives, boolean, first}
use Rattle.st_collections.specs.ObjectRows.{object_action}
use Rattle.st_messages.specs.Levels.{kind_at}

abbrev on_level : Side → ℕ → List Level → Bool
on_level side class [] = false
on_level side class (l ∷ levels) = elim (nat_eq l.class class && same_side l.side side) [ true ↦ true | false ↦ on_level side class levels ]

abbrev of_kind : List Level → Value → Bool
of_kind levels (Class class) = on_level OfInstance class levels
of_kind levels (Meta class) = on_level OfClass class levels
of_kind levels v = false

same_step : (b u v : Bool) → u ≡ v → ◌≡◌ {A = Bool} (elim (b && true) [ true ↦ true | false ↦ u ]) (elim b [ true ↦ true | false ↦ v ])
same_step true u v h = refl
same_step false u v h = h

other_step : (b u v : Bool) → u ≡ v → ◌≡◌ {A = Bool} (elim (b && false) [ true ↦ true | false ↦ u ]) v
other_step true u v h = h
other_step false u v h = h

instances : (xs : List ℕ) (c : ℕ) → on_level OfInstance c (map (level OfInstance) xs) ≡ holds xs c
instances [] c = refl
instances (x ∷ xs) c = same_step (nat_eq x c) (on_level OfInstance c (map (level OfInstance) xs)) (holds xs c) (instances xs c)

no_classes : (xs : List ℕ) (c : ℕ) → on_level OfClass c (map (level OfInstance) xs) ≡ false
no_classes [] c = refl
no_classes (x ∷ xs) c = other_step (nat_eq x c) (on_level OfClass c (map (level OfInstance) xs)) false (no_classes xs c)

classes_behind : (xs : List ℕ) (c : ℕ) (rest : List Level) → on_level OfClass c rest ≡ false → on_level OfClass c (map (level OfClass) xs ++ rest) ≡ holds xs c
classes_behind [] c rest h = h
classes_behind (x ∷ xs) c rest h = same_step (nat_eq x c) (on_level OfClass c (map (level OfClass) xs ++ rest)) (holds xs c) (classes_behind xs c rest h)

instances_behind : (xs : List ℕ) (c : ℕ) (rest : List Level) → on_level OfInstance c (map (level OfClass) xs ++ rest) ≡ on_level OfInstance c rest
instances_behind [] c rest = refl
instances_behind (x ∷ xs) c rest = other_step (nat_eq x c) (on_level OfInstance c (map (level OfClass) xs ++ rest)) (on_level OfInstance c rest) (instances_behind xs c rest)

two_step : (a b : Bool) → ◌≡◌ {A = Bool} (elim (a && true) [ true ↦ true | false ↦ elim (b && true) [ true ↦ true | false ↦ false ] ]) (a || b)
two_step true b = refl
two_step false true = refl
two_step false false = refl

none_step : (a b : Bool) → ◌≡◌ {A = Bool} (elim (a && false) [ true ↦ true | false ↦ elim (b && false) [ true ↦ true | false ↦ false ] ]) false
none_step true true = refl
none_step true false = refl
none_step false true = refl
none_step false false = refl

two_levels : (a b c : ℕ) → on_level OfInstance c (level OfInstance a ∷ level OfInstance b ∷ []) ≡ (nat_eq a c || nat_eq b c)
two_levels a b c = two_step (nat_eq a c) (nat_eq b c)

no_levels : (a b c : ℕ) → on_level OfClass c (level OfInstance a ∷ level OfInstance b ∷ []) ≡ false
no_levels a b c = none_step (nat_eq a c) (nat_eq b c)

by_side : (p : Program) (side : Side) (n : ℕ) (v : Value) → of_kind (walk p (level side n)) v ≡ kind_at p (level side n) v
unfolding walk inherits
by_side p OfInstance n (Class c) = instances (superclasses p n) c
by_side p OfClass n (Class c) = instances_behind (superclasses p n) c (level OfInstance class_class ∷ level OfInstance object_class ∷ []) ∙ two_levels class_class object_class c
by_side p OfMeta n (Class c) = two_levels metaclass_class object_class c
by_side p OfInstance n (Meta c) = no_classes (superclasses p n) c
by_side p OfClass n (Meta c) = classes_behind (superclasses p n) c (level OfInstance class_class ∷ level OfInstance object_class ∷ []) (no_levels class_class object_class c)
by_side p OfMeta n (Meta c) = no_levels metaclass_class object_class c
by_side p side n Nil = refl
by_side p side n True = refl
by_side p side n False = refl
by_side p side n (Integer i) = refl
by_side p side n (Character b) = refl
by_side p side n (Symbol i) = refl
by_side p side n Transcript = refl
by_side p side n (Object i) = refl

pub kind_of-is : (p : Program) (s : Store) (r : Value) (args : List Value) → object_action p s ObjectMessage.IsKindOf r args ≡ Gives (boolean (kind_at p (level_of s r) (first args)))
unfolding object_action
kind_of-is p s r args = ap (λ (b : Bool). Gives (boolean b)) (by_side p (level_of s r).side (level_of s r).class (first args))
