-- Elements, sequences and collections under a renaming.
use Rattle.std.proofs.Common.{◌≡◌, ℕ, zero, suc, ◌+◌, ◌-◌, ◌*◌, ◌/◌, ◌≤◌, ℤ, pos, ◌+ℤ◌, ◌*ℤ◌, int_lt, List, [], ◌∷◌, ◌++◌, map, take, drop, reverse, length, get_or, replicate, insert, remove, Option, Some, None, Bool, true, false, not, ◌&&◌, nat_eq, refl, sym, ap, ◌∙◌, if◌then◌else◌}
use Rattle.std.proofs.lemmas.List.{length-map, map-append, reverse-append}
use Rattle.object_heap.specs.declared.value.Value.{Value}
use Rattle.object_heap.specs.declared.value.Value.TheVariants.{Nil, Integer, Character, Symbol, Class, Object}
use Rattle.object_heap.specs.declared.trouble.Trouble.{Trouble}
use Rattle.object_heap.specs.declared.trouble.Trouble.TheVariants as trouble
use Rattle.object_heap.specs.Store.{Store, Object as HeapObject, object_at, object_set}
use Rattle.st_code.specs.Program.{Program}
use Rattle.st_code.specs.Messages.{SequenceMessage, CollectionMessage}
use Rattle.st_code.specs.BuiltIns.{string_class, byte_array_class, array_class, ordered_collection_class, set_class, dictionary_class, interval_class, association_class}
use Rattle.st_collections.specs.Actions.{Action, Gives, Changes, Makes, Fails, first, second, makes_slots, makes_bytes}
use Rattle.st_collections.specs.Kinds.{integer_of, natural_of, size_at, size_of, element_at, element, elements_from, some_elements, elements, key, is_sequence_class, is_sequence, is_collection, species}
use Rattle.st_collections.specs.ObjectRows.{indexed, sized}
use Rattle.st_collections.specs.TextRows.{byte_of}
use Rattle.st_collections.specs.SequenceRows.{byte_in, makes_sequence, written, at_put, unless_empty, is_byte, is_character, all_values, element_trouble, join, is_index, copy_between, copy_from_to, sequence_action, grown_to, per_element, with_room, Grown, with_elements, adds, without_element, firsts, seconds, class_number, ordered_at, changed, collection_action}
use Rattle.law_shake.specs.Renaming.{Renaming, taken, object, ren, rens, ren_object, ren_store, ren_action, IsRenamed}
use Rattle.law_shake.proofs.Spreading.{map_read}
use Rattle.law_shake.proofs.Lookups.{object_read, is_a_ren, slot_ren, integer_ren}
use Rattle.law_shake.proofs.Rows.{first_ren, second_ren, nils_ren, answers, set_ren, slots_made, bytes_made, indexed_by, if_by, byte_put_ren, byte_set_ren, slot_put_row}
use Rattle.law_shake.proofs.PlainRows.{sized_by, character_by}

module _ (x : Renaming) where
  -- ---- lists of values

  pub bytes_of_ren : (vs : List Value) → map byte_of (rens x vs) ≡ map byte_of vs
  bytes_of_ren [] = refl
  bytes_of_ren (Character b ∷ vs) = ap (λ bs. b ∷ bs) (bytes_of_ren vs)
  bytes_of_ren (v ∷ vs) = ap (λ bs. 0 ∷ bs) (bytes_of_ren vs)

  bytes_in_ren : (vs : List Value) → map byte_in (rens x vs) ≡ map byte_in vs
  bytes_in_ren [] = refl
  bytes_in_ren (v ∷ vs) = ap (λ i. natural_of i ∷ map byte_in (rens x vs)) (integer_ren x v) ∙ ap (λ bs. byte_in v ∷ bs) (bytes_in_ren vs)

  reverse_ren : (vs : List Value) → reverse (rens x vs) ≡ rens x (reverse vs)
  reverse_ren [] = refl
  reverse_ren (v ∷ vs) =
      reverse-append (ren x v ∷ []) (rens x vs) ∙ ap (λ ws. ws ++ ren x v ∷ []) (reverse_ren vs) ∙ sym (map-append (ren x) (reverse vs) (v ∷ [])) ∙ ap (rens x) (sym (reverse-append (v ∷ []) vs))

  take_ren : (n : ℕ) (vs : List Value) → take n (rens x vs) ≡ rens x (take n vs)
  take_ren zero vs = refl
  take_ren (suc n) [] = refl
  take_ren (suc n) (v ∷ vs) = ap (λ ws. ren x v ∷ ws) (take_ren n vs)

  drop_ren : (n : ℕ) (vs : List Value) → drop n (rens x vs) ≡ rens x (drop n vs)
  drop_ren zero vs = refl
  drop_ren (suc n) [] = refl
  drop_ren (suc n) (v ∷ vs) = drop_ren n vs

  remove_ren : (vs : List Value) (i : ℕ) → remove (rens x vs) i ≡ rens x (remove vs i)
  remove_ren vs i =
      ap (λ ws. ws ++ drop (suc i) (rens x vs)) (take_ren i vs) ∙ ap (λ ws. rens x (take i vs) ++ ws) (drop_ren (suc i) vs) ∙ sym (map-append (ren x) (take i vs) (drop (suc i) vs))

  insert_ren : (vs : List Value) (i : ℕ) (v : Value) → insert (rens x vs) i (ren x v) ≡ rens x (insert vs i v)
  insert_ren vs i v =
      ap (λ ws. ws ++ ren x v ∷ drop i (rens x vs)) (take_ren i vs) ∙ ap (λ ws. rens x (take i vs) ++ ren x v ∷ ws) (drop_ren i vs) ∙ sym (map-append (ren x) (take i vs) (v ∷ drop i vs))

  mutual
    firsts_ren : (vs : List Value) → firsts (rens x vs) ≡ rens x (firsts vs)
    firsts_ren [] = refl
    firsts_ren (v ∷ vs) = ap (λ ws. ren x v ∷ ws) (seconds_ren vs)

    seconds_ren : (vs : List Value) → seconds (rens x vs) ≡ rens x (seconds vs)
    seconds_ren [] = refl
    seconds_ren (v ∷ vs) = firsts_ren vs

  is_character_ren : (v : Value) → is_character (ren x v) ≡ is_character v
  is_character_ren (Character b) = refl
  is_character_ren v = refl

  is_byte_ren : (v : Value) → is_byte (ren x v) ≡ is_byte v
  is_byte_ren (Integer (pos n)) = refl
  is_byte_ren v = refl

  all_ren : (test : Value → Bool) → ((v : Value) → test (ren x v) ≡ test v) → (vs : List Value) → all_values test (rens x vs) ≡ all_values test vs
  all_ren test h [] = refl
  all_ren test h (v ∷ vs) = ap (λ b. elim b [ true ↦ all_values test (rens x vs) | false ↦ false ]) (h v) ∙ ap (λ b. elim (test v) [ true ↦ b | false ↦ false ]) (all_ren test h vs)

  trouble_ren : (class : ℕ) (vs : List Value) → element_trouble class (rens x vs) ≡ element_trouble class vs
  trouble_ren class vs = simp (all_ren is_character is_character_ren vs, all_ren is_byte is_byte_ren vs)

  -- ---- size and elements

  size_at_ren : (class : ℕ) (slots : List Value) (bytes : List ℕ) → size_at class (rens x slots) bytes ≡ size_at class slots bytes
  size_at_ren class slots bytes =
      simp (length-map slots (ren x), map_read (ren x) slots 0 Nil, map_read (ren x) slots 1 Nil, map_read (ren x) slots 2 Nil, integer_ren x (get_or slots 0 Nil), integer_ren x (get_or slots 1 Nil), integer_ren x (get_or slots 2 Nil))

  element_by : (a b c d : Bool) (byte : ℕ) (i : ℤ) (j j' : ℤ) (v v' w w' : Value) → v' ≡ ren x v → w' ≡ ren x w → j' ≡ j → (if a then Character byte else (if b then Integer i else (if c then v' else (if d then Integer j' else w')))) ≡ ren x (if a then Character byte else (if b then Integer i else (if c then v else (if d then Integer j else w))))
  element_by true b c d byte i j j' v v' w w' e f g = refl
  element_by false true c d byte i j j' v v' w w' e f g = refl
  element_by false false true d byte i j j' v v' w w' e f g = e
  element_by false false false true byte i j j' v v' w w' e f g = ap Integer g
  element_by false false false false byte i j j' v v' w w' e f g = f

  element_at_ren : (class : ℕ) (slots : List Value) (bytes : List ℕ) (i : ℕ) → element_at class (rens x slots) bytes i ≡ ren x (element_at class slots bytes i)
  element_at_ren class slots bytes i =
      element_by (nat_eq class string_class) (nat_eq class byte_array_class) (nat_eq class dictionary_class) (nat_eq class interval_class) (get_or bytes i 0) (pos (get_or bytes i 0)) _ _ _ _ _ _
      (map_read (ren x) slots (2 * i + 1) Nil) (map_read (ren x) slots i Nil)
      (ap (λ v. integer_of v +ℤ pos i *ℤ integer_of (get_or (rens x slots) 2 Nil)) (map_read (ren x) slots 0 Nil)
      ∙ ap (λ k. k +ℤ pos i *ℤ integer_of (get_or (rens x slots) 2 Nil)) (integer_ren x (get_or slots 0 Nil))
      ∙ ap (λ v. integer_of (get_or slots 0 Nil) +ℤ pos i *ℤ integer_of v) (map_read (ren x) slots 2 Nil)
      ∙ ap (λ k. integer_of (get_or slots 0 Nil) +ℤ pos i *ℤ k) (integer_ren x (get_or slots 2 Nil)))

module _ (x : Renaming) (q p : Program) (is : IsRenamed x q p) (s : Store) where
  abbrev s' : Store
  s' = ren_store x s

  pub size_ren : (v : Value) → size_of p s' (ren x v) ≡ size_of q s v
  unfolding size_of
  size_ren (Symbol n) = ap length (is.names n)
  size_ren (Object n) = ap (λ (o : HeapObject). size_at o.class o.slots o.bytes) (object_read x s n) ∙ size_at_ren x (object_at n s).class (object_at n s).slots (object_at n s).bytes
  size_ren v = refl

  pub element_ren : (v : Value) (i : ℕ) → element p s' (ren x v) i ≡ ren x (element q s v i)
  unfolding element
  element_ren (Symbol n) i = ap (λ t. Character (get_or t (i - 1) 0)) (is.names n)
  element_ren (Object n) i = ap (λ (o : HeapObject). element_at o.class o.slots o.bytes (i - 1)) (object_read x s n) ∙ element_at_ren x (object_at n s).class (object_at n s).slots (object_at n s).bytes (i - 1)
  element_ren v i = refl

  from_ren : (v : Value) (i n : ℕ) → elements_from p s' (ren x v) i n ≡ rens x (elements_from q s v i n)
  from_ren v i zero = refl
  from_ren v i (suc n) = ap (λ w. w ∷ elements_from p s' (ren x v) (i + 1) n) (element_ren v i) ∙ ap (λ ws. ren x (element q s v i) ∷ ws) (from_ren v (i + 1) n)

  pub some_ren : (v : Value) (i n : ℕ) → some_elements p s' (ren x v) i n ≡ rens x (some_elements q s v i n)
  unfolding some_elements
  some_ren v i n = from_ren v i n

  pub elements_ren : (v : Value) → elements p s' (ren x v) ≡ rens x (elements q s v)
  unfolding elements
  elements_ren v = ap (λ n. some_elements p s' (ren x v) 1 n) (size_ren v) ∙ some_ren v 1 (size_of q s v)

  pub sequence_kind : (v : Value) → is_sequence s' (ren x v) ≡ is_sequence s v
  unfolding is_sequence
  sequence_kind (Object n) = ap (λ (o : HeapObject). is_sequence_class o.class) (object_read x s n)
  sequence_kind v = refl

  pub collection_kind : (v : Value) → is_collection s' (ren x v) ≡ is_collection s v
  unfolding is_collection
  collection_kind v = rw (sequence_kind v, is_a_ren x s set_class v, is_a_ren x s dictionary_class v) refl

  pub species_ren : (v : Value) → species s' (ren x v) ≡ species s v
  unfolding species
  species_ren (Object n) = ap (λ (o : HeapObject). if nat_eq o.class interval_class then array_class else o.class) (object_read x s n)
  species_ren v = refl

  pub key_ren : (v : Value) (i : ℕ) → key s' (ren x v) i ≡ ren x (key s v i)
  unfolding key
  key_ren v i = slot_ren x s v (2 * i - 2)

module _ (x : Renaming) (q p : Program) (is : IsRenamed x q p) (s : Store) (room : taken x.objects ≤ length s.objects) where
  abbrev R : Action → Action
  R a = ren_action x a

  abbrev t : Store
  t = ren_store x s

  pub sequence_made : (class : ℕ) (items : List Value) → makes_sequence class (rens x items) t ≡ R (makes_sequence class items s)
  unfolding makes_sequence
  sequence_made class items =
      if_by x q p is s room (nat_eq class string_class) _ _ _ _ (ap (λ bs. makes_bytes string_class bs t) (bytes_of_ren x items) ∙ bytes_made x s room string_class (map byte_of items))
      (if_by x q p is s room (nat_eq class byte_array_class) _ _ _ _ (ap (λ bs. makes_bytes byte_array_class bs t) (bytes_in_ren x items) ∙ bytes_made x s room byte_array_class (map byte_in items)) (slots_made x s room class items))

  -- ---- elements by index

  written_ren : (n class i : ℕ) (v : Value) → written t (object x n) class i (ren x v) ≡ R (written s n class i v)
  written_ren n class i v =
      if_by x q p is s room (nat_eq class string_class) _ _ _ _ (character_by x q p is s room v _ _ (λ b. ap (λ u. Changes u (ren x v)) (byte_set_ren x s n i b)))
      (if_by x q p is s room (nat_eq class byte_array_class) _ _ _ _ (byte_put_ren x q p is s room n i v) (slot_put_row x q p is s room n i v))

  at_put_ren : (r at v : Value) → at_put p t (ren x r) (ren x at) (ren x v) ≡ R (at_put q s r at v)
  at_put_ren (Object n) at v =
      ap (λ (o : HeapObject). if o.read_only then Fails trouble.LiteralIsReadOnly else indexed (ren x at) (size_of p t (Object (object x n))) (λ i. written t (object x n) o.class i (ren x v))) (object_read x s n)
      ∙ ap (λ k. if (object_at n s).read_only then Fails trouble.LiteralIsReadOnly else indexed (ren x at) k (λ i. written t (object x n) (object_at n s).class i (ren x v))) (size_ren x q p is s (Object n))
      ∙ if_by x q p is s room (object_at n s).read_only _ _ _ _ refl (indexed_by x q p is s room at (size_of q s (Object n)) _ _ (λ i. written_ren n (object_at n s).class i v))
  at_put_ren r at v = refl

  pub unless_ren : (r : Value) (a a' : Action) → a ≡ R a' → unless_empty p t (ren x r) a ≡ R (unless_empty q s r a')
  unless_ren r a a' e = ap (λ k. if nat_eq k 0 then Fails trouble.CollectionIsEmpty else a) (size_ren x q p is s r) ∙ if_by x q p is s room (nat_eq (size_of q s r) 0) _ _ _ _ refl e

  join_by : (o : Option Trouble) (class : ℕ) (vs : List Value) → elim o [ Some u ↦ Fails u | None ↦ makes_sequence class (rens x vs) t ] ≡ R (elim o [ Some u ↦ Fails u | None ↦ makes_sequence class vs s ])
  join_by None class vs = sequence_made class vs
  join_by (Some u) class vs = refl

  abbrev joined : Store → ℕ → List Value → List Value → Action
  joined u class mine other = elim (element_trouble class other) [ Some u ↦ Fails u | None ↦ makes_sequence class (mine ++ other) u ]

  join_ren : (r v : Value) → join p t (ren x r) (ren x v) ≡ R (join q s r v)
  join_ren r v =
      ap (λ b. if b then joined t (species t (ren x r)) (elements p t (ren x r)) (elements p t (ren x v)) else Fails trouble.CollectionExpected) (sequence_kind x q p is s v)
      ∙ if_by x q p is s room (is_sequence s v) _ _ _ _
      (ap (λ c. joined t c (elements p t (ren x r)) (elements p t (ren x v))) (species_ren x q p is s r)
      ∙ ap (λ vs. joined t (species s r) vs (elements p t (ren x v))) (elements_ren x q p is s r)
      ∙ ap (λ vs. joined t (species s r) (rens x (elements q s r)) vs) (elements_ren x q p is s v)
      ∙ ap (λ o. elim o [ Some u ↦ Fails u | None ↦ makes_sequence (species s r) (rens x (elements q s r) ++ rens x (elements q s v)) t ]) (trouble_ren x (species s r) (elements q s v))
      ∙ ap (λ vs. elim (element_trouble (species s r) (elements q s v)) [ Some u ↦ Fails u | None ↦ makes_sequence (species s r) vs t ]) (sym (map-append (ren x) (elements q s r) (elements q s v)))
      ∙ join_by (element_trouble (species s r) (elements q s v)) (species s r) (elements q s r ++ elements q s v))
      refl

  between_ren : (r : Value) (i j : ℤ) → copy_between p t (ren x r) i j ≡ R (copy_between q s r i j)
  between_ren r i j =
      ap (λ c. if int_lt j i then makes_sequence c [] t else (if is_index (size_of p t (ren x r)) i && is_index (size_of p t (ren x r)) j then makes_sequence c (some_elements p t (ren x r) (natural_of i) (natural_of j + 1 - natural_of i)) t else Fails trouble.IndexOutOfRange)) (species_ren x q p is s r)
      ∙ ap (λ k. if int_lt j i then makes_sequence (species s r) [] t else (if is_index k i && is_index k j then makes_sequence (species s r) (some_elements p t (ren x r) (natural_of i) (natural_of j + 1 - natural_of i)) t else Fails trouble.IndexOutOfRange)) (size_ren x q p is s r)
      ∙ if_by x q p is s room (int_lt j i) _ _ _ _ (sequence_made (species s r) [])
      (if_by x q p is s room (is_index (size_of q s r) i && is_index (size_of q s r) j) _ _ _ _
      (ap (λ vs. makes_sequence (species s r) vs t) (some_ren x q p is s r (natural_of i) (natural_of j + 1 - natural_of i)) ∙ sequence_made (species s r) (some_elements q s r (natural_of i) (natural_of j + 1 - natural_of i)))
      refl)

  from_to_ren : (r v w : Value) → copy_from_to p t (ren x r) (ren x v) (ren x w) ≡ R (copy_from_to q s r v w)
  from_to_ren r (Integer i) (Integer j) = between_ren r i j
  from_to_ren r (Integer i) w = refl
  from_to_ren r v w = refl

  pub sequence_ren : (m : SequenceMessage) (r : Value) (args : List Value) → sequence_action p t m (ren x r) (rens x args) ≡ R (sequence_action q s m r args)
  unfolding sequence_action
  sequence_ren SequenceMessage.At r args =
      ap (λ v. indexed v (size_of p t (ren x r)) (λ i. Gives (element p t (ren x r) (i + 1)))) (first_ren x args)
      ∙ ap (λ k. indexed (ren x (first args)) k (λ i. Gives (element p t (ren x r) (i + 1)))) (size_ren x q p is s r)
      ∙ indexed_by x q p is s room (first args) (size_of q s r) _ _ (λ i. ap Gives (element_ren x q p is s r (i + 1)))
  sequence_ren SequenceMessage.Size r args = ap (λ k. Gives (Integer (pos k))) (size_ren x q p is s r)
  sequence_ren SequenceMessage.IsEmpty r args = answers x _ _ (ap (λ k. nat_eq k 0) (size_ren x q p is s r))
  sequence_ren SequenceMessage.NotEmpty r args = answers x _ _ (ap (λ k. not (nat_eq k 0)) (size_ren x q p is s r))
  sequence_ren SequenceMessage.First r args = unless_ren r _ _ (ap Gives (element_ren x q p is s r 1))
  sequence_ren SequenceMessage.Last r args = unless_ren r _ _ (ap (λ k. Gives (element p t (ren x r) k)) (size_ren x q p is s r) ∙ ap Gives (element_ren x q p is s r (size_of q s r)))
  sequence_ren SequenceMessage.Join r args = ap (λ v. join p t (ren x r) v) (first_ren x args) ∙ join_ren r (first args)
  sequence_ren SequenceMessage.CopyFromTo r args =
      ap (λ v. copy_from_to p t (ren x r) v (second (rens x args))) (first_ren x args) ∙ ap (λ v. copy_from_to p t (ren x r) (ren x (first args)) v) (second_ren x args) ∙ from_to_ren r (first args) (second args)
  sequence_ren SequenceMessage.Reverse r args =
      ap (λ c. makes_sequence c (reverse (elements p t (ren x r))) t) (species_ren x q p is s r)
      ∙ ap (λ vs. makes_sequence (species s r) (reverse vs) t) (elements_ren x q p is s r)
      ∙ ap (λ vs. makes_sequence (species s r) vs t) (reverse_ren x (elements q s r))
      ∙ sequence_made (species s r) (reverse (elements q s r))
  sequence_ren SequenceMessage.AsArray r args = ap (λ vs. makes_slots array_class vs t) (elements_ren x q p is s r) ∙ slots_made x s room array_class (elements q s r)
  sequence_ren SequenceMessage.AsOrderedCollection r args = ap (λ vs. makes_slots ordered_collection_class vs t) (elements_ren x q p is s r) ∙ slots_made x s room ordered_collection_class (elements q s r)
  sequence_ren SequenceMessage.AtPut r args =
      ap (λ v. at_put p t (ren x r) v (second (rens x args))) (first_ren x args) ∙ ap (λ v. at_put p t (ren x r) (ren x (first args)) v) (second_ren x args) ∙ at_put_ren r (first args) (second args)

  -- ---- collections that grow

  abbrev grown_by : Store → ℕ → HeapObject → List Value → ℕ → Grown
  grown_by u n o slots k = record { cells = per_element o.class * (grown_to (k / per_element o.class) (o.capacity / per_element o.class)).cells; store = object_set n (with_room o slots (per_element o.class * (grown_to (k / per_element o.class) (o.capacity / per_element o.class)).elements)) u }

  pub elements_added : (n : ℕ) (slots : List Value) → with_elements t (object x n) (rens x slots) ≡ record { cells = (with_elements s n slots).cells; store = ren_store x (with_elements s n slots).store }
  unfolding with_elements
  elements_added n slots =
      ap (λ (o : HeapObject). grown_by t (object x n) o (rens x slots) (length (rens x slots))) (object_read x s n)
      ∙ ap (λ k. grown_by t (object x n) (ren_object x (object_at n s)) (rens x slots) k) (length-map slots (ren x))
      ∙ ap (λ u. record { cells = (grown_by s n (object_at n s) slots (length slots)).cells; store = u }) (set_ren x s n (with_room (object_at n s) slots (per_element (object_at n s).class * (grown_to (length slots / per_element (object_at n s).class) ((object_at n s).capacity / per_element (object_at n s).class)).elements)))

  adds_ren : (n : ℕ) (slots : List Value) (v : Value) → adds t (object x n) (rens x slots) (ren x v) ≡ R (adds s n slots v)
  adds_ren n slots v = ap (λ (g : Grown). Makes g.cells g.store (ren x v)) (elements_added n slots)

  pub element_gone : (n i : ℕ) → without_element t (object x n) i ≡ ren_store x (without_element s n i)
  unfolding without_element
  element_gone n i =
      ap (λ (o : HeapObject). object_set (object x n) (with_room o (remove o.slots i) o.capacity) t) (object_read x s n)
      ∙ ap (λ vs. object_set (object x n) (with_room (ren_object x (object_at n s)) vs (object_at n s).capacity) t) (remove_ren x (object_at n s).slots i)
      ∙ set_ren x s n (with_room (object_at n s) (remove (object_at n s).slots i) (object_at n s).capacity)

  slots_here : (n : ℕ) → (object_at (object x n) t).slots ≡ rens x (object_at n s).slots
  slots_here n = ap (λ (o : HeapObject). o.slots) (object_read x s n)

  class_number_ren : (v : Value) → class_number (ren x v) ≡ class_number v
  class_number_ren (Class c) = refl
  class_number_ren v = refl

  gone_ren : (n i : ℕ) → Changes (without_element t (object x n) i) (get_or (object_at (object x n) t).slots i Nil) ≡ R (Changes (without_element s n i) (get_or (object_at n s).slots i Nil))
  gone_ren n i =
      ap (λ u. Changes u (get_or (object_at (object x n) t).slots i Nil)) (element_gone n i)
      ∙ ap (λ vs. Changes (ren_store x (without_element s n i)) (get_or vs i Nil)) (slots_here n)
      ∙ ap (λ v. Changes (ren_store x (without_element s n i)) v) (map_read (ren x) (object_at n s).slots i Nil)

  ordered_ren : (m : CollectionMessage) (n : ℕ) (args : List Value) → ordered_at p t m (object x n) (rens x args) ≡ R (ordered_at q s m n args)
  ordered_ren CollectionMessage.Add n args =
      ap (λ v. adds t (object x n) ((object_at (object x n) t).slots ++ v ∷ []) v) (first_ren x args)
      ∙ ap (λ vs. adds t (object x n) (vs ++ ren x (first args) ∷ []) (ren x (first args))) (slots_here n)
      ∙ ap (λ vs. adds t (object x n) vs (ren x (first args))) (sym (map-append (ren x) (object_at n s).slots (first args ∷ [])))
      ∙ adds_ren n ((object_at n s).slots ++ first args ∷ []) (first args)
  ordered_ren CollectionMessage.AddFirst n args =
      ap (λ v. adds t (object x n) (v ∷ (object_at (object x n) t).slots) v) (first_ren x args)
      ∙ ap (λ vs. adds t (object x n) (ren x (first args) ∷ vs) (ren x (first args))) (slots_here n)
      ∙ adds_ren n (first args ∷ (object_at n s).slots) (first args)
  ordered_ren CollectionMessage.AddAll n args =
      ap (λ v. if is_collection t v then adds t (object x n) ((object_at (object x n) t).slots ++ elements p t v) v else Fails trouble.CollectionExpected) (first_ren x args)
      ∙ ap (λ b. if b then adds t (object x n) ((object_at (object x n) t).slots ++ elements p t (ren x (first args))) (ren x (first args)) else Fails trouble.CollectionExpected) (collection_kind x q p is s (first args))
      ∙ if_by x q p is s room (is_collection s (first args)) _ _ _ _
      (ap (λ vs. adds t (object x n) (vs ++ elements p t (ren x (first args))) (ren x (first args))) (slots_here n)
      ∙ ap (λ vs. adds t (object x n) (rens x (object_at n s).slots ++ vs) (ren x (first args))) (elements_ren x q p is s (first args))
      ∙ ap (λ vs. adds t (object x n) vs (ren x (first args))) (sym (map-append (ren x) (object_at n s).slots (elements q s (first args))))
      ∙ adds_ren n ((object_at n s).slots ++ elements q s (first args)) (first args))
      refl
  ordered_ren CollectionMessage.RemoveFirst n args = unless_ren (Object n) _ _ (gone_ren n 0)
  ordered_ren CollectionMessage.RemoveLast n args =
      unless_ren (Object n) _ _
      (ap (λ vs. Changes (without_element t (object x n) (length vs - 1)) (get_or (object_at (object x n) t).slots (length vs - 1) Nil)) (slots_here n)
      ∙ ap (λ k. Changes (without_element t (object x n) (k - 1)) (get_or (object_at (object x n) t).slots (k - 1) Nil)) (length-map (object_at n s).slots (ren x))
      ∙ gone_ren n (length (object_at n s).slots - 1))
  ordered_ren CollectionMessage.AddBeforeIndex n args =
      ap (λ v. indexed v (length (object_at (object x n) t).slots + 1) (λ i. adds t (object x n) (insert (object_at (object x n) t).slots i (first (rens x args))) (first (rens x args)))) (second_ren x args)
      ∙ ap (λ v. indexed (ren x (second args)) (length (object_at (object x n) t).slots + 1) (λ i. adds t (object x n) (insert (object_at (object x n) t).slots i v) v)) (first_ren x args)
      ∙ ap (λ vs. indexed (ren x (second args)) (length vs + 1) (λ i. adds t (object x n) (insert vs i (ren x (first args))) (ren x (first args)))) (slots_here n)
      ∙ ap (λ k. indexed (ren x (second args)) (k + 1) (λ i. adds t (object x n) (insert (rens x (object_at n s).slots) i (ren x (first args))) (ren x (first args)))) (length-map (object_at n s).slots (ren x))
      ∙ indexed_by x q p is s room (second args) (length (object_at n s).slots + 1) _ _ (λ i. ap (λ vs. adds t (object x n) vs (ren x (first args))) (insert_ren x (object_at n s).slots i (first args)) ∙ adds_ren n (insert (object_at n s).slots i (first args)) (first args))
  ordered_ren CollectionMessage.RemoveAtIndex n args =
      ap (λ v. indexed v (length (object_at (object x n) t).slots) (λ i. Changes (without_element t (object x n) i) (get_or (object_at (object x n) t).slots i Nil))) (first_ren x args)
      ∙ ap (λ k. indexed (ren x (first args)) k (λ i. Changes (without_element t (object x n) i) (get_or (object_at (object x n) t).slots i Nil))) (ap length (slots_here n) ∙ length-map (object_at n s).slots (ren x))
      ∙ indexed_by x q p is s room (first args) (length (object_at n s).slots) _ _ (λ i. gone_ren n i)
  ordered_ren CollectionMessage.Keys n args = ap (λ vs. makes_slots array_class (firsts vs) t) (slots_here n) ∙ ap (λ vs. makes_slots array_class vs t) (firsts_ren x (object_at n s).slots) ∙ slots_made x s room array_class (firsts (object_at n s).slots)
  ordered_ren CollectionMessage.Values n args = ap (λ vs. makes_slots array_class (seconds vs) t) (slots_here n) ∙ ap (λ vs. makes_slots array_class vs t) (seconds_ren x (object_at n s).slots) ∙ slots_made x s room array_class (seconds (object_at n s).slots)
  ordered_ren m n args = refl

  changed_ren : (m : CollectionMessage) (r : Value) (args : List Value) → changed p t m (ren x r) (rens x args) ≡ R (changed q s m r args)
  changed_ren m (Object n) args = ordered_ren m n args
  changed_ren m r args = refl

  pub collection_ren : (m : CollectionMessage) (r : Value) (args : List Value) → collection_action p t m (ren x r) (rens x args) ≡ R (collection_action q s m r args)
  unfolding collection_action
  collection_ren CollectionMessage.NewArray r args =
      ap (λ v. sized v (λ n. makes_slots array_class (replicate n Nil) t)) (first_ren x args)
      ∙ sized_by x q p is s room (first args) _ _ (λ n. ap (λ vs. makes_slots array_class vs t) (sym (nils_ren x n)) ∙ slots_made x s room array_class (replicate n Nil))
  collection_ren CollectionMessage.NewByteArray r args =
      ap (λ v. sized v (λ n. makes_bytes byte_array_class (replicate n 0) t)) (first_ren x args) ∙ sized_by x q p is s room (first args) _ _ (λ n. bytes_made x s room byte_array_class (replicate n 0))
  collection_ren CollectionMessage.With r args = slots_made x s room array_class args
  collection_ren CollectionMessage.WithAll r args =
      ap (λ v. if is_collection t v then makes_slots array_class (elements p t v) t else Fails trouble.CollectionExpected) (first_ren x args)
      ∙ ap (λ b. if b then makes_slots array_class (elements p t (ren x (first args))) t else Fails trouble.CollectionExpected) (collection_kind x q p is s (first args))
      ∙ if_by x q p is s room (is_collection s (first args)) _ _ _ _ (ap (λ vs. makes_slots array_class vs t) (elements_ren x q p is s (first args)) ∙ slots_made x s room array_class (elements q s (first args))) refl
  collection_ren CollectionMessage.NewEmpty r args = ap (λ c. makes_slots c [] t) (class_number_ren r) ∙ slots_made x s room (class_number r) []
  collection_ren CollectionMessage.KeyValue r args =
      ap (λ v. makes_slots association_class (v ∷ second (rens x args) ∷ []) t) (first_ren x args) ∙ ap (λ v. makes_slots association_class (ren x (first args) ∷ v ∷ []) t) (second_ren x args) ∙ slots_made x s room association_class (first args ∷ second args ∷ [])
  collection_ren CollectionMessage.Add r args = changed_ren CollectionMessage.Add r args
  collection_ren m r args = changed_ren m r args
