-- The static rules one by one: when a unit breaks one, where, and which break is the first (ANSI NCITS 319, 3.3, 3.4, 4.1).
use Rattle.std.specs.Prelude.{◌≡◌, ℕ, ◌+◌, ◌<◌, ◌≤◌, ◌⊎◌, List, [], ◌++◌, Option, None, Some, take, slice_get, IsTrue}
use Rattle.std.specs.List.{Contains}
use Rattle.std.specs.Option.{option_map}
use Rattle.st_base.specs.declared.faults.Place.{Place}
use Rattle.st_base.specs.declared.faults.Reason.{Reason}
use Rattle.st_base.specs.declared.faults.Reason.TheVariants as reasons
use Rattle.st_tree.specs.Numbers.{element_of}
use Rattle.st_tree.specs.declared.units.UnitKind.{UnitKind}
use Rattle.st_tree.specs.declared.units.Unit.{Unit}
use Rattle.st_checks.specs.Bodies.{Scope, Mention}
use Rattle.st_checks.specs.Meanings.{Undeclared, Fixed, Written, written, meaning}
use Rattle.st_checks.specs.StaticRules.{Break, place_at, naming, repeated_from, duplicates_class, duplicates_name, lacks_superclass, clashes, duplicates_variable, lacks_pool, lacks_class, replaces_built_in, duplicates_method, lacks_target, initializes_again}

-- the n-th unit of the file, counted from 0, is of this kind
abbrev pub IsKind : List Unit → ℕ → UnitKind → Type 0
IsKind units n kind = option_map (λ u. u.kind) (slice_get units n) ≡ Some kind

-- the n-th unit has this body
abbrev pub HasBody : List Unit → ℕ → Written → Type 0
HasBody units n w = (kind : UnitKind) × IsKind units n kind × (written units kind ≡ Some w)

-- the unit's first element
abbrev pub start : List Unit → ℕ → Place
start units n = place_at (element_of units n) 0

-- a byte of the unit's second element, which is its body
abbrev pub body_byte : List Unit → ℕ → ℕ → Place
body_byte units n byte = place_at (element_of units n + 1) byte

-- The n-th unit breaks the rule of this name at this place.
pub data Breaks : List Unit → ℕ → Reason → Place → Type 0 where
  duplicate_class : {units : List Unit} {n : ℕ} {kind : UnitKind} → IsKind units n kind → IsTrue (duplicates_class (take n units) kind) → Breaks units n reasons.DuplicateClass (start units n)
  duplicate_name : {units : List Unit} {n : ℕ} {kind : UnitKind} → IsKind units n kind → IsTrue (duplicates_name (take n units) kind) → Breaks units n reasons.DuplicateName (start units n)
  unknown_superclass : {units : List Unit} {n : ℕ} {kind : UnitKind} → IsKind units n kind → IsTrue (lacks_superclass (take n units) kind) → Breaks units n reasons.UnknownSuperclass (start units n)
  indexed_clash : {units : List Unit} {n : ℕ} {kind : UnitKind} → IsKind units n kind → IsTrue (clashes units kind) → Breaks units n reasons.IndexedClash (start units n)
  duplicate_variable : {units : List Unit} {n : ℕ} {kind : UnitKind} → IsKind units n kind → IsTrue (duplicates_variable units kind) → Breaks units n reasons.DuplicateVariable (start units n)
  repeated_name : {units : List Unit} {n byte : ℕ} {w : Written} {scope : Scope} → HasBody units n w → Contains (naming w).scopes scope → Contains (repeated_from [] (scope.parameters ++ scope.temporaries)) byte → Breaks units n reasons.DuplicateVariable (body_byte units n byte)
  unknown_pool : {units : List Unit} {n : ℕ} {kind : UnitKind} → IsKind units n kind → IsTrue (lacks_pool units kind) → Breaks units n reasons.UnknownPool (start units n)
  unknown_class : {units : List Unit} {n : ℕ} {kind : UnitKind} → IsKind units n kind → IsTrue (lacks_class units kind) → Breaks units n reasons.UnknownClass (start units n)
  replaced_built_in : {units : List Unit} {n : ℕ} {kind : UnitKind} → IsKind units n kind → IsTrue (replaces_built_in kind) → Breaks units n reasons.ReplacesBuiltin (start units n)
  duplicate_method : {units : List Unit} {n : ℕ} {kind : UnitKind} → IsKind units n kind → IsTrue (duplicates_method (take n units) kind) → Breaks units n reasons.DuplicateMethod (start units n)
  unknown_target : {units : List Unit} {n : ℕ} {kind : UnitKind} → IsKind units n kind → IsTrue (lacks_target units kind) → Breaks units n reasons.UnknownTarget (start units n)
  second_initializer : {units : List Unit} {n : ℕ} {kind : UnitKind} → IsKind units n kind → IsTrue (initializes_again (take n units) kind) → Breaks units n reasons.SecondInitializer (start units n)
  undeclared_name : {units : List Unit} {n : ℕ} {w : Written} {m : Mention} → HasBody units n w → Contains (naming w).mentions m → meaning units w m ≡ Undeclared → Breaks units n reasons.UndeclaredName (body_byte units n m.name.at)
  not_assignable : {units : List Unit} {n : ℕ} {w : Written} {m : Mention} → HasBody units n w → Contains (naming w).mentions m → IsTrue m.assigned → meaning units w m ≡ Fixed → Breaks units n reasons.NotAssignable (body_byte units n m.name.at)

-- the place of a rule in the order in which they are tried; other reasons are of no static rule
abbrev pub rank : Reason → ℕ
rank reasons.DuplicateClass = 1
rank reasons.DuplicateName = 2
rank reasons.UnknownSuperclass = 3
rank reasons.IndexedClash = 4
rank reasons.DuplicateVariable = 5
rank reasons.UnknownPool = 6
rank reasons.UnknownClass = 7
rank reasons.ReplacesBuiltin = 8
rank reasons.DuplicateMethod = 9
rank reasons.UnknownTarget = 10
rank reasons.SecondInitializer = 11
rank reasons.UndeclaredName = 12
rank reasons.NotAssignable = 13
rank _ = 0

-- one break of a unit is no later than another of a unit: by the units, then by the rules, then by the bytes
abbrev pub Precedes : ℕ → Break → ℕ → Break → Type 0
Precedes m a n b =
    (m < n) ⊎ ((m ≡ n) × ((rank a.reason < rank b.reason) ⊎ ((rank a.reason ≡ rank b.reason) × (a.place.byte ≤ b.place.byte))))

-- the answer is the first of all breaks of these units, or there is none
pub data IsFirst : List Unit → Option Break → Type 0 where
  no_break : {units : List Unit} → ((n : ℕ) (b : Break) → Breaks units n b.reason b.place → ⊥) → IsFirst units None
  first : {units : List Unit} {first : Break} → (n : ℕ) → Breaks units n first.reason first.place → ((m : ℕ) (b : Break) → Breaks units m b.reason b.place → Precedes n first m b) → IsFirst units (Some first)
