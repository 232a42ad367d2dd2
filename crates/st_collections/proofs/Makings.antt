-- What makers make, by the places of their items.
use Rattle.std.proofs.Common.{◌≡◌, ℕ, zero, suc, ◌+◌, ◌-◌, ◌*◌, ◌/◌, ◌<◌, true, List, [], ◌∷◌, length, get_or, replicate, inl, inr, refl, ap, sym, ◌∙◌, arith, pos}
use Rattle.std.specs.List.{range_with_len}
use Rattle.std.proofs.lemmas.Bool.{cases_lt}
use Rattle.std.proofs.lemmas.List.{get_or_past, get_or-replicate, length-replicate}
use Rattle.std.proofs.lemmas.List.FromFn.{fill_by_all}
use Rattle.object_heap.specs.declared.value.Value.{Value}
use Rattle.object_heap.specs.declared.value.Value.TheVariants.{Nil, True, False, Integer, Character, Symbol, Class, Meta, Transcript, Object}
use Rattle.object_heap.specs.Store.{Store, no_object, object_at}
use Rattle.st_code.specs.Program.{Program}
use Rattle.st_code.specs.BuiltIns.{array_class, byte_array_class}
use Rattle.st_collections.specs.declared.items.Items.{Items}
use Rattle.st_collections.specs.Actions.{makes_bytes, makes_slots}
use Rattle.st_collections.specs.AtOnce.{with_all}
use Rattle.st_collections.specs.Items.{IsKnown, item_at, items_of}
use Rattle.st_collections.specs.Kinds.{is_collection, key, size_of, slot_of, slots_of}
use Rattle.st_collections.specs.SequenceRows.{byte_in, firsts, makes_sequence, seconds}
use Rattle.st_collections.proofs.ElementLists.{array_is, slots_array}
use Rattle.st_collections.proofs.TextItems.{map-map}

repeated_items : (p : Program) (s : Store) (v : Value) (n : ℕ) → replicate n v ≡ items_of p s (Items.Repeated v) n
repeated_items p s v n = fill_by_all (λ k. v) (replicate n v) n Nil (length-replicate n v) (λ k h. get_or-replicate n k v Nil h)

pub nils_is : (p : Program) (s : Store) (n : ℕ) → makes_slots array_class (replicate n Nil) s ≡ makes_sequence array_class (items_of p s (Items.Repeated Nil) n) s
nils_is p s n = slots_array (replicate n Nil) s ∙ ap (λ (xs : List Value). makes_sequence array_class xs s) (repeated_items p s Nil n)

pub zeros_is : (p : Program) (s : Store) (n : ℕ) → makes_bytes byte_array_class (replicate n 0) s ≡ makes_sequence byte_array_class (items_of p s (Items.Repeated (Integer (pos 0))) n) s
unfolding makes_sequence
zeros_is p s n =
    ap (λ (bytes : List ℕ). makes_bytes byte_array_class bytes s)
    (fill_by_all (λ k. 0) (replicate n 0) n 0 (length-replicate n 0) (λ k h. get_or-replicate n k 0 0 h) ∙ sym (map-map byte_in (λ k. Integer (pos 0)) (range_with_len 0 n)))

pub all_is : (p : Program) (s : Store) (v : Value) (n : ℕ) → is_collection s v ≡ true → n ≡ size_of p s v → with_all p s v ≡ makes_sequence array_class (items_of p s (Items.From v 1) n) s
all_is p s v n is e = rw is (array_is p s v n e)

-- ---- every second slot

mutual
  length-firsts : (xs : List Value) → length (firsts xs) ≡ (length xs + 1) / 2
  length-firsts [] = refl
  length-firsts (x ∷ xs) = let e : suc (length (seconds xs)) ≡ (suc (length xs) + 1) / 2 = omega (arith, length-seconds xs) in e

  length-seconds : (xs : List Value) → length (seconds xs) ≡ length xs / 2
  length-seconds [] = refl
  length-seconds (x ∷ xs) = let e : length (firsts xs) ≡ suc (length xs) / 2 = omega (arith, length-firsts xs) in e

mutual
  get_or-firsts : (xs : List Value) (k : ℕ) → k < (length xs + 1) / 2 → get_or (firsts xs) k Nil ≡ get_or xs (2 * k) Nil
  get_or-firsts [] k h = absurd (omega arith)
  get_or-firsts (x ∷ xs) zero h = refl
  get_or-firsts (x ∷ xs) (suc k) h = let e : 2 * suc k ≡ suc (2 * k + 1) = omega arith in rw e (get_or-seconds xs k (omega arith))

  get_or-seconds : (xs : List Value) (k : ℕ) → k < length xs / 2 → get_or (seconds xs) k Nil ≡ get_or xs (2 * k + 1) Nil
  get_or-seconds [] k h = absurd (omega arith)
  get_or-seconds (x ∷ xs) k h = let e : 2 * k + 1 ≡ suc (2 * k) = omega arith in rw e (get_or-firsts xs k (omega arith))

pub keys_is : (p : Program) (s : Store) (v : Value) (n : ℕ) → n ≡ (length (slots_of s v) + 1) / 2 → makes_slots array_class (firsts (slots_of s v)) s ≡ makes_sequence array_class (items_of p s (Items.Keys v) n) s
unfolding key slot_of
keys_is p s v n e =
    slots_array (firsts (slots_of s v)) s
    ∙ ap (λ (xs : List Value). makes_sequence array_class xs s)
    (fill_by_all (item_at p s (Items.Keys v)) (firsts (slots_of s v)) n Nil (length-firsts (slots_of s v) ∙ sym e)
    (λ k h. let at : 2 * (k + 1) - 2 ≡ 2 * k = omega arith in rw at (get_or-firsts (slots_of s v) k (rw (← e) h))))

pub values_is : (p : Program) (s : Store) (v : Value) (n : ℕ) → n ≡ length (slots_of s v) / 2 → makes_slots array_class (seconds (slots_of s v)) s ≡ makes_sequence array_class (items_of p s (Items.Values v) n) s
unfolding slot_of
values_is p s v n e =
    slots_array (seconds (slots_of s v)) s
    ∙ ap (λ (xs : List Value). makes_sequence array_class xs s)
    (fill_by_all (item_at p s (Items.Values v)) (seconds (slots_of s v)) n Nil (length-seconds (slots_of s v) ∙ sym e)
    (λ k h. get_or-seconds (slots_of s v) k (rw (← e) h)))

-- what has slots stands
pub known_of_slots : (s : Store) (v : Value) → 0 < length (slots_of s v) → IsKnown s v
unfolding slots_of
known_of_slots s (Object n) h = elim (cases_lt n (length s.objects)) [
  | inl low ↦ low
  | inr past ↦
      let none : object_at n s ≡ no_object = get_or_past s.objects n no_object past in
      let empty : length (object_at n s).slots ≡ 0 = rw none refl in
      absurd (omega arith)
]
known_of_slots s (Symbol n) h = tt
known_of_slots s Nil h = tt
known_of_slots s True h = tt
known_of_slots s False h = tt
known_of_slots s (Integer n) h = tt
known_of_slots s (Character n) h = tt
known_of_slots s (Class n) h = tt
known_of_slots s (Meta n) h = tt
known_of_slots s Transcript h = tt
