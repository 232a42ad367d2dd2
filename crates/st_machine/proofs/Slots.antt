-- The slots of a new exception.
use Rattle.std.proofs.Common.{◌≡◌, ℕ, suc, zero, ◌+◌, ◌-◌, ◌<◌, ◌≤◌, List, [], ◌∷◌, ◌++◌, length, get_or, drop, take, replicate, slice_set, false, None, refl, ap, sym, ◌∙◌, arith}
use Rattle.std.proofs.lemmas.List.{append_assoc, length-append}
use Rattle.object_heap.specs.declared.value.Value.{Value}
use Rattle.object_heap.specs.declared.value.Value.TheVariants.{Nil}
use Rattle.object_heap.specs.declared.value.Closure.{Closure}
use Rattle.object_heap.specs.Store.{Store, Scope, Object, no_object, with_slot, object_added, blank_object}
use Rattle.object_heap.specs.Charges.{Memory, with_store}
use Rattle.st_collections.specs.Actions.{first, with_new}
use Rattle.st_code.specs.Program.{Program, class_at}
use Rattle.st_rules.specs.Rules.{exception_slots, with_exception}
use Rattle.st_machine.specs.Operands.{but_first}
use Rattle.st_machine.specs.Signals.{slots_put}
use Rattle.st_machine.proofs.Loops.{first_at, rest_at}

-- ---- the loop

pub slots_step : (count i : ℕ) (vs : List Value) (object : ℕ) (m m' : Memory) (v : Value) → i < count → v ≡ get_or vs i Nil → m' ≡ with_store (with_slot object i v m.store) m
    → with_store (slots_put (count - (i + 1)) (drop (i + 1) vs) object (i + 1) m'.store) m' ≡ with_store (slots_put (count - i) (drop i vs) object i m.store) m
unfolding slots_put
slots_step count i vs object m m' v l is e =
    let left : count - i ≡ suc (count - (i + 1)) = omega (arith, l) in
    let more : i + 1 ≡ suc i = omega arith in
    rw (left, e, is, first_at vs i, rest_at vs i, more) refl

pub slots_end : (count i : ℕ) (vs : List Value) (object : ℕ) (m : Memory) → count ≤ i → with_store (slots_put (count - i) vs object i m.store) m ≡ m
unfolding slots_put
slots_end count i vs object m l =
    let none : count - i ≡ 0 = omega (arith, l) in
    rw none refl

-- ---- what it makes

last_object : (os : List Object) (x : Object) → get_or (os ++ x ∷ []) (length os) no_object ≡ x
last_object [] x = refl
last_object (o ∷ os) x = last_object os x

last_set : {A : Type 0} (xs : List A) (x y : A) (zs : List A) → slice_set (xs ++ x ∷ zs) (length xs) y ≡ xs ++ y ∷ zs
last_set [] x y zs = refl
last_set (z ∷ xs) x y zs = ap (λ r. z ∷ r) (last_set xs x y zs)

abbrev object_of : ℕ → ℕ → List Value → Object
object_of class capacity vs = record { class = class; slots = vs; bytes = []; capacity = capacity; read_only = false; closure = None }

abbrev with_last : List Object → List Closure → List Scope → Object → Store
with_last os cs ss x = record { objects = os ++ x ∷ []; closures = cs; scopes = ss }

-- so many of these values, and nil behind them
unfoldable padded : ℕ → List Value → List Value
padded zero vs = []
padded (suc n) vs = first vs ∷ padded n (but_first vs)

written : (class capacity : ℕ) (os : List Object) (closures : List Closure) (ss : List Scope) (pre : List Value) (old new : Value) (rest : List Value)
    → with_slot (length os) (length pre) new (with_last os closures ss (object_of class capacity (pre ++ old ∷ rest))) ≡ with_last os closures ss (object_of class capacity (pre ++ new ∷ rest))
written class capacity os closures ss pre old new rest = rw (last_object os (object_of class capacity (pre ++ old ∷ rest)), last_set pre old new rest, last_set os (object_of class capacity (pre ++ old ∷ rest)) (object_of class capacity (pre ++ new ∷ rest)) []) refl

more_length : (pre : List Value) (v : Value) → suc (length pre) ≡ length (pre ++ v ∷ [])
more_length pre v = omega (arith, length-append pre (v ∷ []))

put_values : (n : ℕ) (vs : List Value) (class capacity : ℕ) (os : List Object) (closures : List Closure) (ss : List Scope) (pre : List Value)
    → slots_put n vs (length os) (length pre) (with_last os closures ss (object_of class capacity (pre ++ replicate n Nil))) ≡ with_last os closures ss (object_of class capacity (pre ++ padded n vs))
unfolding slots_put padded
put_values zero vs class capacity os closures ss pre = refl
put_values (suc n) vs class capacity os closures ss pre =
    rw (written class capacity os closures ss pre Nil (first vs) (replicate n Nil), more_length pre (first vs), ← append_assoc pre (first vs ∷ []) (replicate n Nil), ← append_assoc pre (first vs ∷ []) (padded n (but_first vs)))
    (put_values n (but_first vs) class capacity os closures ss (pre ++ first vs ∷ []))

padded_none : (n : ℕ) → padded n [] ≡ take n (replicate n Nil)
unfolding padded
padded_none zero = refl
padded_none (suc n) = ap (λ r. Nil ∷ r) (padded_none n)

padded_is : (n : ℕ) (vs : List Value) → padded n vs ≡ take n (vs ++ replicate (n - length vs) Nil)
unfolding padded
padded_is n [] =
    let same : n ≡ n - 0 = omega arith in
    padded_none n ∙ ap (λ k. take n (replicate k Nil)) same
padded_is zero (v ∷ vs) = refl
padded_is (suc n) (v ∷ vs) =
    let less : suc n - suc (length vs) ≡ n - length vs = omega arith in
    rw less (ap (λ r. v ∷ r) (padded_is n vs))

padded_length : (n : ℕ) (vs : List Value) → length (padded n vs) ≡ n
unfolding padded
padded_length zero vs = refl
padded_length (suc n) vs = ap suc (padded_length n (but_first vs))

pub exception_store : (p : Program) (class : ℕ) (vs : List Value) (s : Store)
    → slots_put (class_at p class).slots vs (length s.objects) 0 (object_added (blank_object class (class_at p class).slots 0) s) ≡ with_exception p class vs s
unfolding with_exception with_new exception_slots
exception_store p class vs s =
    put_values (class_at p class).slots vs class (class_at p class).slots s.objects s.closures s.scopes []
    ∙ ap (λ n. with_last s.objects s.closures s.scopes (object_of class n (padded (class_at p class).slots vs))) (sym (padded_length (class_at p class).slots vs))
    ∙ ap (λ ws. with_last s.objects s.closures s.scopes (object_of class (length ws) ws)) (padded_is (class_at p class).slots vs)

padded_all : (vs : List Value) → padded (length vs) vs ≡ vs
unfolding padded
padded_all [] = refl
padded_all (v ∷ vs) = ap (λ r. v ∷ r) (padded_all vs)

-- an object whose slots these values are
pub filled_object : (class : ℕ) (vs : List Value) (s : Store) → slots_put (length vs) vs (length s.objects) 0 (object_added (blank_object class (length vs) 0) s) ≡ with_new class vs [] s
unfolding with_new
filled_object class vs s =
    put_values (length vs) vs class (length vs) s.objects s.closures s.scopes []
    ∙ ap (λ ws. with_last s.objects s.closures s.scopes (object_of class (length vs) ws)) (padded_all vs)
