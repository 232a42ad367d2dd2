-- Whether a selector answers `handles:` by a built-in message, and whether it fits.
use Rattle.std.proofs.Common.{◌≡◌, ℕ, ◌+◌, ◌≤◌, Bool, true, false, List, [], ◌∷◌, length, drop, get_or, codes, Option, Some, None, refl, ap, sym, ◌∙◌, subst, ◌<◌, if◌then◌else◌}
use Rattle.std.proofs.lemmas.List.{drop_all, drop_more}
use Rattle.std.specs.Option.{option_map}
use Rattle.object_heap.specs.declared.value.Value.{Value}
use Rattle.object_heap.specs.declared.value.Value.TheVariants.{Nil, True, False, Integer, Character, Symbol, Class, Meta, Transcript, Object}
use Rattle.object_heap.specs.Store.{Store, object_at}
use Rattle.st_code.specs.Program.{Program, number_of}
use Rattle.st_code.specs.Lookup.{lookup, level_of, is_plain, inherits, fits}
use Rattle.signal_env.specs.Searches.{class_fits, some_fits}
use Rattle.program_image.specs.declared.table.Found.{Found}
use Rattle.program_image.specs.declared.table.Found.TheVariants as found
use Rattle.program_image.specs.Images.{as_row}

module _ (p : Program) (s : Store) (v : Value) (handles : ℕ) (is : handles ≡ number_of p (codes "handles:")) where
  found_as : (o : Option Found) → option_map as_row o ≡ lookup p (level_of s v) handles → lookup p (level_of s v) (number_of p (codes "handles:")) ≡ option_map as_row o
  found_as o e = sym (ap (λ n. lookup p (level_of s v) n) is) ∙ sym e

  pub built_in_is_plain : (n : ℕ) → option_map as_row (Some (found.BuiltIn n)) ≡ lookup p (level_of s v) handles → true ≡ is_plain p s v
  unfolding is_plain
  built_in_is_plain n e = rw (found_as (Some (found.BuiltIn n)) e) refl

  pub method_is_not : (place : ℕ) → option_map as_row (Some (found.User place)) ≡ lookup p (level_of s v) handles → false ≡ is_plain p s v
  unfolding is_plain
  method_is_not place e = rw (found_as (Some (found.User place)) e) refl

  pub nothing_is_not : option_map as_row None ≡ lookup p (level_of s v) handles → false ≡ is_plain p s v
  unfolding is_plain
  nothing_is_not e = rw (found_as None e) refl

-- ---- what fits

-- a store of one object with these slots
abbrev store_of : List Value → Store
store_of vs = record { objects = record { class = 0; slots = vs; bytes = []; capacity = 0; read_only = false; closure = None } ∷ []; closures = []; scopes = [] }

if-either : (b c d : Bool) → c ≡ d → (if b then true else c) ≡ elim b [ true ↦ true | false ↦ d ]
if-either true c d is = refl
if-either false c d is = is

some-same : (p : Program) (class : ℕ) (vs : List Value) → some_fits p class vs ≡ fits p (store_of vs) (Object 0) class
unfolding fits some_fits
some-same p class [] = refl
some-same p class (Class ancestor ∷ vs) = if-either (inherits p class ancestor) (some_fits p class vs) (fits p (store_of vs) (Object 0) class) (some-same p class vs)
some-same p class (Nil ∷ vs) = some-same p class vs
some-same p class (True ∷ vs) = some-same p class vs
some-same p class (False ∷ vs) = some-same p class vs
some-same p class (Integer n ∷ vs) = some-same p class vs
some-same p class (Character byte ∷ vs) = some-same p class vs
some-same p class (Symbol name ∷ vs) = some-same p class vs
some-same p class (Meta c ∷ vs) = some-same p class vs
some-same p class (Transcript ∷ vs) = some-same p class vs
some-same p class (Object n ∷ vs) = some-same p class vs

pub set-fits : (p : Program) (s : Store) (set class : ℕ) → some_fits p class (object_at set s).slots ≡ fits p s (Object set) class
unfolding fits
set-fits p s set class = some-same p class (object_at set s).slots

fits-first : (p : Program) (class : ℕ) (v : Value) (vs : List Value) → some_fits p class (v ∷ vs) ≡ (if class_fits p class v then true else some_fits p class vs)
unfolding some_fits
fits-first p class v vs = refl

fits-rest : (p : Program) (class i : ℕ) (vs : List Value) → i < length vs → some_fits p class (drop i vs) ≡ (if class_fits p class (get_or vs i Nil) then true else some_fits p class (drop (i + 1) vs))
fits-rest p class i vs l = ap (some_fits p class) (drop_more vs i Nil l) ∙ fits-first p class (get_or vs i Nil) (drop (i + 1) vs)

pub fit-found : (p : Program) (class i : ℕ) (vs : List Value) → i < length vs → some_fits p class (drop i vs) ≡ some_fits p class vs → true ≡ class_fits p class (get_or vs i Nil) → true ≡ some_fits p class vs
fit-found p class i vs l sofar here = ap (λ b. if b then true else some_fits p class (drop (i + 1) vs)) here ∙ sym (fits-rest p class i vs l) ∙ sofar

pub fit-passed : (p : Program) (class i : ℕ) (vs : List Value) → i < length vs → some_fits p class (drop i vs) ≡ some_fits p class vs → false ≡ class_fits p class (get_or vs i Nil) → some_fits p class (drop (i + 1) vs) ≡ some_fits p class vs
fit-passed p class i vs l sofar here = ap (λ b. if b then true else some_fits p class (drop (i + 1) vs)) here ∙ sym (fits-rest p class i vs l) ∙ sofar

pub fit-none : (p : Program) (class i : ℕ) (vs : List Value) → length vs ≤ i → some_fits p class (drop i vs) ≡ some_fits p class vs → false ≡ some_fits p class vs
unfolding some_fits
fit-none p class i vs past sofar = let P : List Value → Type 0 = λ l. some_fits p class l ≡ some_fits p class vs in subst P (drop_all i vs past) sofar
