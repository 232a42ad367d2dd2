-- Loops under a renaming: their beginnings and visits.
use Rattle.std.proofs.Common.{◌≡◌, ℕ, ◌+◌, ◌-◌, ◌*◌, ◌≤◌, min, pos, ◌+ℤ◌, int_le, List, [], ◌∷◌, ◌++◌, map, length, get_or, Bool, true, false, not, ◌&&◌, nat_eq, nat_le, refl, sym, ap, ◌∙◌, subst, arith, if◌then◌else◌}
use Rattle.std.proofs.lemmas.List.{length-map, map-append, length-append}
use Rattle.object_heap.specs.declared.value.Value.{Value}
use Rattle.object_heap.specs.declared.value.Value.TheVariants.{Nil, True, False, Integer, Object}
use Rattle.object_heap.specs.Store.{Store, Object as HeapObject, object_at, with_slot}
use Rattle.object_heap.specs.Charges.{object_charge}
use Rattle.st_code.specs.Program.{Program}
use Rattle.st_code.specs.Messages.{LoopMessage}
use Rattle.st_code.specs.BuiltIns.{string_class, array_class, ordered_collection_class, set_class, dictionary_class}
use Rattle.st_collections.specs.Actions.{Action, Iterates, LoopState, Visit, Applies, Compares, Finishes, Charges, boolean, first, second, third, new_object, next_object, with_new}
use Rattle.st_collections.specs.Kinds.{same_value, is_true, is_a, slots_of, key, integer_of, natural_of, species}
use Rattle.st_collections.specs.TextRows.{byte_of}
use Rattle.st_collections.specs.SequenceRows.{Grown, with_elements, without_element}
use Rattle.st_collections.specs.Loops.{place, at_index, made_to, further, beside, past_all, visiting, is_within, here, within, step_of, block_of, is_past, count_visit, separated_visit, appended, added, turned_into, keeps_made, collected, selected, with_pair, value_at, set_value, without, key_or_index, compared, visit_at, visit, while_argument, while_given, answered, matched, removed, pair_removed, downwards, given_at, next_visit, begun, with_made, first_of_message, first_visit, with_stop, with_step, loop_action}
use Rattle.st_rules.proofs.ValuesHave.{set_size}
use Rattle.law_shake.specs.Renaming.{Renaming, taken, ren, rens, ren_store, ren_action, ren_loop, ren_visit, IsRenamed}
use Rattle.law_shake.proofs.Spreading.{map_read}
use Rattle.law_shake.proofs.Lookups.{object_read, is_a_ren, slots_ren, integer_ren}
use Rattle.law_shake.proofs.Rows.{first_ren, second_ren, slot_set_ren, with_new_ren, next_ren}
use Rattle.law_shake.proofs.ElementRows.{size_ren, element_ren, species_ren, key_ren, bytes_of_ren, elements_added, element_gone}

module _ (x : Renaming) (q p : Program) (is : IsRenamed x q p) where
  abbrev V : Visit → Visit
  V v = ren_visit x v

  abbrev L : LoopState → LoopState
  L l = ren_loop x l

  abbrev t : Store → Store
  t s = ren_store x s

  abbrev Room : Store → Type 0
  Room s = taken x.objects ≤ length s.objects

  third_ren : (vs : List Value) → third (rens x vs) ≡ ren x (third vs)
  third_ren [] = refl
  third_ren (v ∷ vs) = second_ren x vs

  visit_if : (b : Bool) (a c a' c' : Visit) → a ≡ V a' → c ≡ V c' → (if b then a else c) ≡ V (if b then a' else c')
  visit_if true a c a' c' e f = e
  visit_if false a c a' c' e f = f

  within_same : (s : Store) (l : LoopState) → is_within p (t s) (L l) ≡ is_within q s l
  unfolding is_within
  within_same s l = ap (λ k. nat_le 1 (place l) && nat_le (place l) k) (size_ren x q p is s l.receiver)

  within_ren : (s : Store) (l : LoopState) (a c a' c' : Visit) → a ≡ V a' → c ≡ V c' → within p (t s) (L l) a c ≡ V (within q s l a' c')
  within_ren s l a c a' c' e f = ap (λ b. if b then a else c) (within_same s l) ∙ visit_if (is_within q s l) a c a' c' e f

  here_ren : (s : Store) (l : LoopState) → here p (t s) (L l) ≡ ren x (here q s l)
  here_ren s l = element_ren x q p is s l.receiver (place l)

  -- an application of an argument to what is here
  one_ren : (s : Store) (l m : LoopState) → Applies (L m) (first (L l).arguments) (here p (t s) (L l) ∷ []) ≡ V (Applies m (first l.arguments) (here q s l ∷ []))
  one_ren s l m = ap (λ v. Applies (L m) v (here p (t s) (L l) ∷ [])) (first_ren x l.arguments) ∙ ap (λ v. Applies (L m) (ren x (first l.arguments)) (v ∷ [])) (here_ren s l)

  none_ren : (l m : LoopState) → Applies (L m) (second (L l).arguments) [] ≡ V (Applies m (second l.arguments) [])
  none_ren l m = ap (λ v. Applies (L m) v []) (second_ren x l.arguments)

  compares_ren : (s : Store) (l : LoopState) → Compares (L l) (first (L l).arguments) (here p (t s) (L l)) ≡ V (Compares l (first l.arguments) (here q s l))
  compares_ren s l = ap (λ v. Compares (L l) v (here p (t s) (L l))) (first_ren x l.arguments) ∙ ap (λ v. Compares (L l) (ren x (first l.arguments)) v) (here_ren s l)

  keys_ren : (s : Store) (l : LoopState) → Compares (L l) (first (L l).arguments) (key (t s) (L l).receiver (place l)) ≡ V (Compares l (first l.arguments) (key s l.receiver (place l)))
  keys_ren s l = ap (λ v. Compares (L l) v (key (t s) (L l).receiver (place l))) (first_ren x l.arguments) ∙ ap (λ v. Compares (L l) (ren x (first l.arguments)) v) (key_ren x q p is s l.receiver (place l))

  key_or_ren : (s : Store) (l : LoopState) → key_or_index (t s) (L l) ≡ ren x (key_or_index s l)
  key_or_ren s l =
      ap (λ b. if b then key (t s) (L l).receiver (place l) else Integer l.index) (is_a_ren x s dictionary_class l.receiver)
      ∙ ap (λ v. if is_a s dictionary_class l.receiver then v else Integer l.index) (key_ren x q p is s l.receiver (place l))
      ∙ by (is_a s dictionary_class l.receiver)
    where
      by : (b : Bool) → (if b then ren x (key s l.receiver (place l)) else Integer l.index) ≡ ren x (if b then key s l.receiver (place l) else Integer l.index)
      by true = refl
      by false = refl

  -- ---- `to:do:` and `do:separatedBy:`

  step_ren : (m : LoopMessage) (args : List Value) → step_of m (rens x args) ≡ step_of m args
  step_ren LoopMessage.ToByDo args = ap integer_of (second_ren x args) ∙ integer_ren x (second args)
  step_ren m args = refl

  block_ren : (m : LoopMessage) (args : List Value) → block_of m (rens x args) ≡ ren x (block_of m args)
  block_ren LoopMessage.ToByDo args = third_ren args
  block_ren m args = second_ren x args

  count_ren : (l : LoopState) → count_visit (L l) ≡ V (count_visit l)
  count_ren l =
      ap (λ k. if is_past k l.index (integer_of (first (L l).arguments)) then Finishes (ren x l.receiver) else Applies (L l) (block_of l.message (L l).arguments) (Integer l.index ∷ [])) (step_ren l.message l.arguments)
      ∙ ap (λ k. if is_past (step_of l.message l.arguments) l.index k then Finishes (ren x l.receiver) else Applies (L l) (block_of l.message (L l).arguments) (Integer l.index ∷ [])) (ap integer_of (first_ren x l.arguments) ∙ integer_ren x (first l.arguments))
      ∙ visit_if (is_past (step_of l.message l.arguments) l.index (integer_of (first l.arguments))) _ _ _ _ refl (ap (λ v. Applies (L l) v (Integer l.index ∷ [])) (block_ren l.message l.arguments))

  separated_ren : (s : Store) (l : LoopState) → separated_visit p (t s) (L l) ≡ V (separated_visit q s l)
  separated_ren s l = visit_if (nat_le 2 (place l) && not l.aside) _ _ _ _ (none_ren l (beside l)) (one_ren s l (record l { aside = false }))

  -- ---- collections made by a loop

  room_added : (s : Store) (n : ℕ) (slots : List Value) → Room s → Room (with_elements s n slots).store
  unfolding with_elements
  room_added s n slots room = let e = set_size s.objects n _ in subst (λ k. taken x.objects ≤ k) (sym e) room

  appended_ren : (s : Store) (v : Value) (slots : List Value) (rest' rest : Store → Visit) → ((u : Store) → Room u → rest' (t u) ≡ V (rest u)) → Room s → appended (t s) (ren x v) (rens x slots) rest' ≡ V (appended s v slots rest)
  appended_ren s (Object n) slots rest' rest h room =
      ap (λ (g : Grown). Charges g.cells g.store (rest' g.store)) (elements_added x q p is s room n slots)
      ∙ ap (λ v. Charges (with_elements s n slots).cells (t (with_elements s n slots).store) v) (h (with_elements s n slots).store (room_added s n slots room))
  appended_ren s v slots rest' rest h room = h s room

  added_ren : (s : Store) (l : LoopState) (v : Value) (rest' rest : Store → Visit) → ((u : Store) → Room u → rest' (t u) ≡ V (rest u)) → Room s → added (t s) (L l) (ren x v) rest' ≡ V (added s l v rest)
  added_ren s l v rest' rest h room =
      ap (λ vs. appended (t s) (ren x l.made) (vs ++ ren x v ∷ []) rest') (slots_ren x s l.made)
      ∙ ap (λ vs. appended (t s) (ren x l.made) vs rest') (sym (map-append (ren x) (slots_of s l.made) (v ∷ [])))
      ∙ appended_ren s l.made (slots_of s l.made ++ v ∷ []) rest' rest h room

  turned_ren : (class : ℕ) (s : Store) (l : LoopState) → Room s → turned_into class (t s) (L l) ≡ V (turned_into class s l)
  turned_ren class s l room =
      let items = slots_of s l.made in
      ap (λ vs. if nat_eq class string_class then Charges (object_charge 0 (length vs)) (with_new string_class [] (map byte_of vs) (t s)) (Finishes (next_object (t s))) else Charges (1 + length vs) (with_new class vs [] (t s)) (Finishes (next_object (t s)))) (slots_ren x s l.made)
      ∙ visit_if (nat_eq class string_class) _ _ _ _
      (ap (λ k. Charges (object_charge 0 k) (with_new string_class [] (map byte_of (rens x items)) (t s)) (Finishes (next_object (t s)))) (length-map items (ren x))
      ∙ ap (λ bs. Charges (object_charge 0 (length items)) (with_new string_class [] bs (t s)) (Finishes (next_object (t s)))) (bytes_of_ren x items)
      ∙ ap (λ u. Charges (object_charge 0 (length items)) u (Finishes (next_object (t s)))) (with_new_ren x s room string_class [] (map byte_of items))
      ∙ ap (λ v. Charges (object_charge 0 (length items)) (t (with_new string_class [] (map byte_of items) s)) (Finishes v)) (next_ren x s room))
      (ap (λ k. Charges (1 + k) (with_new class (rens x items) [] (t s)) (Finishes (next_object (t s)))) (length-map items (ren x))
      ∙ ap (λ u. Charges (1 + length items) u (Finishes (next_object (t s)))) (with_new_ren x s room class items [])
      ∙ ap (λ v. Charges (1 + length items) (t (with_new class items [] s)) (Finishes v)) (next_ren x s room))

  keeps_ren : (s : Store) (r : Value) → keeps_made (t s) (ren x r) ≡ keeps_made s r
  keeps_ren s r = rw (is_a_ren x s ordered_collection_class r, is_a_ren x s set_class r, is_a_ren x s dictionary_class r) refl

  collected_ren : (s : Store) (l : LoopState) → Room s → collected (t s) (L l) ≡ V (collected s l)
  collected_ren s l room = ap (λ b. if b then Finishes (ren x l.made) else turned_into array_class (t s) (L l)) (keeps_ren s l.receiver) ∙ visit_if (keeps_made s l.receiver) _ _ _ _ refl (turned_ren array_class s l room)

  selected_ren : (s : Store) (l : LoopState) → Room s → selected (t s) (L l) ≡ V (selected s l)
  selected_ren s l room =
      ap (λ c. if nat_eq c string_class then turned_into string_class (t s) (L l) else (if is_a (t s) set_class (ren x l.receiver) then turned_into set_class (t s) (L l) else (if keeps_made (t s) (ren x l.receiver) then Finishes (ren x l.made) else turned_into array_class (t s) (L l)))) (species_ren x q p is s l.receiver)
      ∙ visit_if (nat_eq (species s l.receiver) string_class) _ _ _ _ (turned_ren string_class s l room)
      (ap (λ b. if b then turned_into set_class (t s) (L l) else (if keeps_made (t s) (ren x l.receiver) then Finishes (ren x l.made) else turned_into array_class (t s) (L l))) (is_a_ren x s set_class l.receiver)
      ∙ visit_if (is_a s set_class l.receiver) _ _ _ _ (turned_ren set_class s l room) (collected_ren s l room))

  pair_ren : (s : Store) (r k v answer : Value) → Room s → with_pair (t s) (ren x r) (ren x k) (ren x v) (ren x answer) ≡ V (with_pair s r k v answer)
  pair_ren s r k v answer room =
      ap (λ vs. appended (t s) (ren x r) (vs ++ ren x k ∷ ren x v ∷ []) (λ u. Finishes (ren x answer))) (slots_ren x s r)
      ∙ ap (λ vs. appended (t s) (ren x r) vs (λ u. Finishes (ren x answer))) (sym (map-append (ren x) (slots_of s r) (k ∷ v ∷ [])))
      ∙ appended_ren s r (slots_of s r ++ k ∷ v ∷ []) (λ u. Finishes (ren x answer)) (λ u. Finishes answer) (λ u h. refl) room

  value_at_ren : (s : Store) (l : LoopState) → value_at (t s) (L l) ≡ ren x (value_at s l)
  value_at_ren s l = ap (λ vs. get_or vs (2 * place l - 1) Nil) (slots_ren x s l.receiver) ∙ map_read (ren x) (slots_of s l.receiver) (2 * place l - 1) Nil

  abbrev set_at : Store → Value → ℕ → Value → Store
  set_at s r i v = elim r [ Object n ↦ with_slot n i v s | _ ↦ s ]

  set_by : (s : Store) (r : Value) (i : ℕ) (v : Value) → set_at (t s) (ren x r) i (ren x v) ≡ t (set_at s r i v)
  set_by s (Object n) i v = slot_set_ren x s n i v
  set_by s r i v = refl

  set_value_ren : (s : Store) (l : LoopState) (v : Value) → set_value (t s) (L l) (ren x v) ≡ t (set_value s l v)
  set_value_ren s l v = set_by s l.receiver (2 * place l - 1) v

  without_ren : (s : Store) (v : Value) (i : ℕ) → Room s → without (t s) (ren x v) i ≡ t (without s v i)
  without_ren s (Object n) i room = element_gone x q p is s room n i
  without_ren s v i room = refl

  room_without : (s : Store) (v : Value) (i : ℕ) → Room s → Room (without s v i)
  unfolding without_element
  room_without s (Object n) i room = let e = set_size s.objects n _ in subst (λ k. taken x.objects ≤ k) (sym e) room
  room_without s v i room = room

  abbrev compared_by : List Value → List Value → ℕ → LoopState → Visit
  compared_by other mine k l = if nat_le k (length other) then Compares l (get_or mine (k - 1) Nil) (get_or other (k - 1) Nil) else Finishes False

  compared_ren : (s : Store) (l : LoopState) → compared (t s) (L l) ≡ V (compared s l)
  compared_ren s l =
      let mine = slots_of s l.receiver in
      let other = slots_of s (first l.arguments) in
      ap (λ v. compared_by (slots_of (t s) v) (slots_of (t s) (ren x l.receiver)) (place l) (L l)) (first_ren x l.arguments)
      ∙ ap (λ vs. compared_by vs (slots_of (t s) (ren x l.receiver)) (place l) (L l)) (slots_ren x s (first l.arguments))
      ∙ ap (λ vs. compared_by (rens x other) vs (place l) (L l)) (slots_ren x s l.receiver)
      ∙ ap (λ k. if nat_le (place l) k then Compares (L l) (get_or (rens x mine) (place l - 1) Nil) (get_or (rens x other) (place l - 1) Nil) else Finishes False) (length-map other (ren x))
      ∙ visit_if (nat_le (place l) (length other)) _ _ _ _
      (ap (λ v. Compares (L l) v (get_or (rens x other) (place l - 1) Nil)) (map_read (ren x) mine (place l - 1) Nil)
      ∙ ap (λ v. Compares (L l) (ren x (get_or mine (place l - 1) Nil)) v) (map_read (ren x) other (place l - 1) Nil))
      refl

  -- ---- a visit

  visit_at_ren : (s : Store) → Room s → (m : LoopMessage) (l : LoopState) → visit_at p (t s) m (L l) ≡ V (visit_at q s m l)
  unfolding visit_at
  visit_at_ren s room LoopMessage.WhileTrue l = refl
  visit_at_ren s room LoopMessage.WhileFalse l = refl
  visit_at_ren s room LoopMessage.TimesRepeat l =
      ap (λ k. if int_le l.index k then Applies (L l) (first (L l).arguments) [] else Finishes (ren x l.receiver)) (integer_ren x l.receiver)
      ∙ visit_if (int_le l.index (integer_of l.receiver)) _ _ _ _ (ap (λ v. Applies (L l) v []) (first_ren x l.arguments)) refl
  visit_at_ren s room LoopMessage.ToDo l = count_ren l
  visit_at_ren s room LoopMessage.ToByDo l = count_ren l
  visit_at_ren s room LoopMessage.Do l = within_ren s l _ _ _ _ (one_ren s l l) refl
  visit_at_ren s room LoopMessage.DoSeparatedBy l = within_ren s l _ _ _ _ (separated_ren s l) refl
  visit_at_ren s room LoopMessage.ReverseDo l = within_ren s l _ _ _ _ (one_ren s l l) refl
  visit_at_ren s room LoopMessage.KeysAndValuesDo l =
      within_ren s l _ _ _ _
      (ap (λ v. Applies (L l) v (key_or_index (t s) (L l) ∷ here p (t s) (L l) ∷ [])) (first_ren x l.arguments)
      ∙ ap (λ v. Applies (L l) (ren x (first l.arguments)) (v ∷ here p (t s) (L l) ∷ [])) (key_or_ren s l)
      ∙ ap (λ v. Applies (L l) (ren x (first l.arguments)) (ren x (key_or_index s l) ∷ v ∷ [])) (here_ren s l)) refl
  visit_at_ren s room LoopMessage.KeysDo l =
      within_ren s l _ _ _ _ (ap (λ v. Applies (L l) v (key_or_index (t s) (L l) ∷ [])) (first_ren x l.arguments) ∙ ap (λ v. Applies (L l) (ren x (first l.arguments)) (v ∷ [])) (key_or_ren s l)) refl
  visit_at_ren s room LoopMessage.InjectInto l =
      within_ren s l _ _ _ _ (ap (λ v. Applies (L l) v (ren x l.made ∷ here p (t s) (L l) ∷ [])) (second_ren x l.arguments) ∙ ap (λ v. Applies (L l) (ren x (second l.arguments)) (ren x l.made ∷ v ∷ [])) (here_ren s l)) refl
  visit_at_ren s room LoopMessage.Detect l = within_ren s l _ _ _ _ (ap (λ v. Applies (visiting v (L l)) (first (L l).arguments) (here p (t s) (L l) ∷ [])) (here_ren s l) ∙ one_ren s l (visiting (here q s l) l)) refl
  visit_at_ren s room LoopMessage.DetectIfNone l = within_ren s l _ _ _ _ (ap (λ v. Applies (visiting v (L l)) (first (L l).arguments) (here p (t s) (L l) ∷ [])) (here_ren s l) ∙ one_ren s l (visiting (here q s l) l)) (none_ren l (past_all l))
  visit_at_ren s room LoopMessage.AnySatisfy l = within_ren s l _ _ _ _ (one_ren s l l) refl
  visit_at_ren s room LoopMessage.AllSatisfy l = within_ren s l _ _ _ _ (one_ren s l l) refl
  visit_at_ren s room LoopMessage.Collect l = within_ren s l _ _ _ _ (one_ren s l l) (collected_ren s l room)
  visit_at_ren s room LoopMessage.Select l = within_ren s l _ _ _ _ (ap (λ v. Applies (visiting v (L l)) (first (L l).arguments) (here p (t s) (L l) ∷ [])) (here_ren s l) ∙ one_ren s l (visiting (here q s l) l)) (selected_ren s l room)
  visit_at_ren s room LoopMessage.Reject l = within_ren s l _ _ _ _ (ap (λ v. Applies (visiting v (L l)) (first (L l).arguments) (here p (t s) (L l) ∷ [])) (here_ren s l) ∙ one_ren s l (visiting (here q s l) l)) (selected_ren s l room)
  visit_at_ren s room LoopMessage.Includes l = within_ren s l _ _ _ _ (compares_ren s l) refl
  visit_at_ren s room LoopMessage.OccurrencesOf l = within_ren s l _ _ _ _ (compares_ren s l) refl
  visit_at_ren s room LoopMessage.IndexOf l = within_ren s l _ _ _ _ (compares_ren s l) refl
  visit_at_ren s room LoopMessage.AddToSet l =
      within_ren s l _ _ _ _ (compares_ren s l)
      (ap (λ v. appended (t s) (ren x l.receiver) (slots_of (t s) (ren x l.receiver) ++ v ∷ []) (λ u. Finishes v)) (first_ren x l.arguments)
      ∙ ap (λ vs. appended (t s) (ren x l.receiver) (vs ++ ren x (first l.arguments) ∷ []) (λ u. Finishes (ren x (first l.arguments)))) (slots_ren x s l.receiver)
      ∙ ap (λ vs. appended (t s) (ren x l.receiver) vs (λ u. Finishes (ren x (first l.arguments)))) (sym (map-append (ren x) (slots_of s l.receiver) (first l.arguments ∷ [])))
      ∙ appended_ren s l.receiver (slots_of s l.receiver ++ first l.arguments ∷ []) (λ u. Finishes (ren x (first l.arguments))) (λ u. Finishes (first l.arguments)) (λ u h. refl) room)
  visit_at_ren s room LoopMessage.Remove l = within_ren s l _ _ _ _ (compares_ren s l) refl
  visit_at_ren s room LoopMessage.RemoveIfAbsent l = within_ren s l _ _ _ _ (compares_ren s l) (none_ren l (past_all l))
  visit_at_ren s room LoopMessage.At l = within_ren s l _ _ _ _ (keys_ren s l) refl
  visit_at_ren s room LoopMessage.AtIfAbsent l = within_ren s l _ _ _ _ (keys_ren s l) (none_ren l (past_all l))
  visit_at_ren s room LoopMessage.AtPut l =
      within_ren s l _ _ _ _ (keys_ren s l)
      (ap (λ v. with_pair (t s) (ren x l.receiver) v (second (L l).arguments) (second (L l).arguments)) (first_ren x l.arguments)
      ∙ ap (λ v. with_pair (t s) (ren x l.receiver) (ren x (first l.arguments)) v v) (second_ren x l.arguments)
      ∙ pair_ren s l.receiver (first l.arguments) (second l.arguments) (second l.arguments) room)
  visit_at_ren s room LoopMessage.AtIfAbsentPut l = within_ren s l _ _ _ _ (keys_ren s l) (none_ren l (past_all l))
  visit_at_ren s room LoopMessage.IncludesKey l = within_ren s l _ _ _ _ (keys_ren s l) refl
  visit_at_ren s room LoopMessage.RemoveKey l = within_ren s l _ _ _ _ (keys_ren s l) refl
  visit_at_ren s room LoopMessage.RemoveKeyIfAbsent l = within_ren s l _ _ _ _ (keys_ren s l) (none_ren l (past_all l))
  visit_at_ren s room LoopMessage.EqualElements l = within_ren s l _ _ _ _ (compared_ren s l) refl
  visit_at_ren s room LoopMessage.NotEqual l = ap (λ v. Compares (L l) (ren x l.receiver) v) (first_ren x l.arguments)

  visit_ren : (s : Store) → Room s → (l : LoopState) → visit p (t s) (L l) ≡ V (visit q s l)
  visit_ren s room l = visit_at_ren s room l.message l

  -- ---- what a value brings

  is_true_ren : (v : Value) → is_true (ren x v) ≡ is_true v
  is_true_ren True = refl
  is_true_ren v = refl

  same_true : (v : Value) → same_value (ren x v) True ≡ same_value v True
  unfolding same_value
  same_true True = refl
  same_true v = refl

  same_false : (v : Value) → same_value (ren x v) False ≡ same_value v False
  unfolding same_value
  same_false False = refl
  same_false v = refl

  truth_if : (v : Value) (a c a' c' : Visit) → a ≡ V a' → c ≡ V c' → (if is_true (ren x v) then a else c) ≡ V (if is_true v then a' else c')
  truth_if v a c a' c' e f = ap (λ b. if b then a else c) (is_true_ren v) ∙ visit_if (is_true v) a c a' c' e f

  while_argument_ren : (l : LoopState) (args : List Value) → while_argument (L l) (rens x args) ≡ V (while_argument l args)
  while_argument_ren l [] = refl
  while_argument_ren l (v ∷ args) = refl

  while_ren : (l : LoopState) (b : Bool) → while_given (L l) b ≡ V (while_given l b)
  while_ren l b = visit_if l.aside _ _ _ _ refl (visit_if b _ _ _ _ (while_argument_ren l l.arguments) refl)

  answered_ren : (l : LoopState) (v : Value) (a a' : Visit) → a ≡ V a' → answered (L l) (ren x v) a ≡ V (answered l v a')
  answered_ren l v a a' e = visit_if l.aside _ _ _ _ refl e

  matched_ren : (s : Store) → Room s → (l : LoopState) (v : Value) (a a' : Visit) → a ≡ V a' → matched p (t s) (L l) (ren x v) a ≡ V (matched q s l v a')
  matched_ren s room l v a a' e =
      ap (λ b. if b && is_within p (t s) (L l) then a else visit p (t s) (further (L l))) (is_true_ren v)
      ∙ ap (λ b. if is_true v && b then a else visit p (t s) (further (L l))) (within_same s l)
      ∙ visit_if (is_true v && is_within q s l) _ _ _ _ e (visit_ren s room (further l))

  removed_ren : (s : Store) → Room s → (l : LoopState) → removed p (t s) (L l) ≡ V (removed q s l)
  removed_ren s room l = ap (λ u. Charges 0 u (Finishes (here p (t s) (L l)))) (without_ren s l.receiver (place l - 1) room) ∙ ap (λ v. Charges 0 (t (without s l.receiver (place l - 1))) (Finishes v)) (here_ren s l)

  pair_removed_ren : (s : Store) → Room s → (l : LoopState) → pair_removed (t s) (L l) ≡ V (pair_removed s l)
  pair_removed_ren s room l =
      ap (λ u. Charges 0 (without u (ren x l.receiver) (2 * place l - 2)) (Finishes (value_at (t s) (L l)))) (without_ren s l.receiver (2 * place l - 1) room)
      ∙ ap (λ u. Charges 0 u (Finishes (value_at (t s) (L l)))) (without_ren (without s l.receiver (2 * place l - 1)) l.receiver (2 * place l - 2) (room_without s l.receiver (2 * place l - 1) room))
      ∙ ap (λ v. Charges 0 (t (without (without s l.receiver (2 * place l - 1)) l.receiver (2 * place l - 2))) (Finishes v)) (value_at_ren s l)

  found_ren : (s : Store) → Room s → (l : LoopState) (v : Value) → answered (L l) (ren x v) (if is_true (ren x v) then Finishes (ren x l.visited) else visit p (t s) (further (L l))) ≡ V (answered l v (if is_true v then Finishes l.visited else visit q s (further l)))
  found_ren s room l v = answered_ren l v _ _ (truth_if v _ _ _ _ refl (visit_ren s room (further l)))

  value_found : (s : Store) → Room s → (l : LoopState) (v : Value) → matched p (t s) (L l) (ren x v) (Finishes (value_at (t s) (L l))) ≡ V (matched q s l v (Finishes (value_at s l)))
  value_found s room l v = matched_ren s room l v _ _ (ap Finishes (value_at_ren s l))

  count_given : (s : Store) (l : LoopState) → count_visit (at_index (l.index +ℤ step_of l.message (L l).arguments) (L l)) ≡ V (count_visit (at_index (l.index +ℤ step_of l.message l.arguments) l))
  count_given s l = ap (λ k. count_visit (at_index (l.index +ℤ k) (L l))) (step_ren l.message l.arguments) ∙ count_ren (at_index (l.index +ℤ step_of l.message l.arguments) l)

  negated : (b : Bool) → Finishes (boolean b) ≡ V (Finishes (boolean b))
  negated true = refl
  negated false = refl

  given_at_ren : (s : Store) → Room s → (m : LoopMessage) (l : LoopState) (v : Value) → given_at p (t s) m (L l) (ren x v) ≡ V (given_at q s m l v)
  unfolding given_at
  given_at_ren s room LoopMessage.WhileTrue l v = ap (while_given (L l)) (same_true v) ∙ while_ren l (same_value v True)
  given_at_ren s room LoopMessage.WhileFalse l v = ap (while_given (L l)) (same_false v) ∙ while_ren l (same_value v False)
  given_at_ren s room LoopMessage.ToDo l v = count_given s l
  given_at_ren s room LoopMessage.ToByDo l v = count_given s l
  given_at_ren s room LoopMessage.DoSeparatedBy l v = visit_if l.aside _ _ _ _ (visit_ren s room l) (visit_ren s room (further l))
  given_at_ren s room LoopMessage.ReverseDo l v = ap (λ k. visit p (t s) (at_index (pos (min (place l - 1) k)) (L l))) (size_ren x q p is s l.receiver) ∙ visit_ren s room (downwards q s l)
  given_at_ren s room LoopMessage.InjectInto l v = visit_ren s room (made_to v (further l))
  given_at_ren s room LoopMessage.Detect l v = found_ren s room l v
  given_at_ren s room LoopMessage.DetectIfNone l v = found_ren s room l v
  given_at_ren s room LoopMessage.AnySatisfy l v = truth_if v _ _ _ _ refl (visit_ren s room (further l))
  given_at_ren s room LoopMessage.AllSatisfy l v = truth_if v _ _ _ _ (visit_ren s room (further l)) refl
  given_at_ren s room LoopMessage.Collect l v = added_ren s l v (λ u. visit p u (further (L l))) (λ u. visit q u (further l)) (λ u h. visit_ren u h (further l)) room
  given_at_ren s room LoopMessage.Select l v = truth_if v _ _ _ _ (added_ren s l l.visited (λ u. visit p u (further (L l))) (λ u. visit q u (further l)) (λ u h. visit_ren u h (further l)) room) (visit_ren s room (further l))
  given_at_ren s room LoopMessage.Reject l v = truth_if v _ _ _ _ (visit_ren s room (further l)) (added_ren s l l.visited (λ u. visit p u (further (L l))) (λ u. visit q u (further l)) (λ u h. visit_ren u h (further l)) room)
  given_at_ren s room LoopMessage.Includes l v = matched_ren s room l v _ _ refl
  given_at_ren s room LoopMessage.OccurrencesOf l v =
      matched_ren s room l v _ _ (ap (λ k. visit p (t s) (made_to (Integer (k +ℤ pos 1)) (further (L l)))) (integer_ren x l.made) ∙ visit_ren s room (made_to (Integer (integer_of l.made +ℤ pos 1)) (further l)))
  given_at_ren s room LoopMessage.IndexOf l v = matched_ren s room l v _ _ refl
  given_at_ren s room LoopMessage.AddToSet l v = matched_ren s room l v _ _ (ap Finishes (first_ren x l.arguments))
  given_at_ren s room LoopMessage.Remove l v = answered_ren l v _ _ (matched_ren s room l v _ _ (removed_ren s room l))
  given_at_ren s room LoopMessage.RemoveIfAbsent l v = answered_ren l v _ _ (matched_ren s room l v _ _ (removed_ren s room l))
  given_at_ren s room LoopMessage.At l v = answered_ren l v _ _ (value_found s room l v)
  given_at_ren s room LoopMessage.AtIfAbsent l v = answered_ren l v _ _ (value_found s room l v)
  given_at_ren s room LoopMessage.AtPut l v =
      matched_ren s room l v _ _
      (ap (λ w. Charges 0 (set_value (t s) (L l) w) (Finishes w)) (second_ren x l.arguments) ∙ ap (λ u. Charges 0 u (Finishes (ren x (second l.arguments)))) (set_value_ren s l (second l.arguments)))
  given_at_ren s room LoopMessage.AtIfAbsentPut l v =
      visit_if l.aside _ _ _ _
      (visit_if l.aside _ _ _ _ (ap (λ w. with_pair (t s) (ren x l.receiver) w (ren x v) (ren x v)) (first_ren x l.arguments) ∙ pair_ren s l.receiver (first l.arguments) v v room) refl)
      (value_found s room l v)
  given_at_ren s room LoopMessage.IncludesKey l v = matched_ren s room l v _ _ refl
  given_at_ren s room LoopMessage.RemoveKey l v = answered_ren l v _ _ (matched_ren s room l v _ _ (pair_removed_ren s room l))
  given_at_ren s room LoopMessage.RemoveKeyIfAbsent l v = answered_ren l v _ _ (matched_ren s room l v _ _ (pair_removed_ren s room l))
  given_at_ren s room LoopMessage.EqualElements l v = truth_if v _ _ _ _ (visit_ren s room (further l)) refl
  given_at_ren s room LoopMessage.NotEqual l v = ap (λ b. Finishes (boolean (not b))) (is_true_ren v) ∙ negated (not (is_true v))
  given_at_ren s room m l v = visit_ren s room (further l)

  pub next_visit_ren : (s : Store) → Room s → (l : LoopState) (v : Value) → next_visit p (t s) (L l) (ren x v) ≡ V (next_visit q s l v)
  unfolding next_visit
  next_visit_ren s room l v = given_at_ren s room l.message l v

  -- ---- the beginning

  room_new : (s : Store) (class : ℕ) → Room s → Room (with_new class [] [] s)
  unfolding with_new
  room_new s class room = let e = length-append s.objects (new_object class [] [] ∷ []) in omega arith

  made_ren : (s : Store) → Room s → (l : LoopState) → with_made p (t s) (L l) ≡ V (with_made q s l)
  made_ren s room l =
      let u = with_new ordered_collection_class [] [] s in
      ap (λ w. Charges 1 w (visit p w (made_to (next_object (t s)) (L l)))) (with_new_ren x s room ordered_collection_class [] [])
      ∙ ap (λ v. Charges 1 (t u) (visit p (t u) (made_to v (L l)))) (next_ren x s room)
      ∙ ap (λ v. Charges 1 (t u) v) (visit_ren u (room_new s ordered_collection_class room) (made_to (next_object s) l))

  abbrev kind_by : Store → Value → Value → Bool
  kind_by s r v = elim r [
    | Object n ↦ is_a s (object_at n s).class v && nat_eq (length (object_at n s).slots) (length (slots_of s v))
    | _ ↦ false
  ]

  same_kind_by : (s : Store) (r v : Value) → kind_by (t s) (ren x r) (ren x v) ≡ kind_by s r v
  same_kind_by s (Object n) v =
      ap (λ (o : HeapObject). is_a (t s) o.class (ren x v) && nat_eq (length o.slots) (length (slots_of (t s) (ren x v)))) (object_read x s n)
      ∙ ap (λ b. b && nat_eq (length (rens x (object_at n s).slots)) (length (slots_of (t s) (ren x v)))) (is_a_ren x s (object_at n s).class v)
      ∙ ap (λ k. is_a s (object_at n s).class v && nat_eq k (length (slots_of (t s) (ren x v)))) (length-map (object_at n s).slots (ren x))
      ∙ ap (λ k. is_a s (object_at n s).class v && nat_eq (length (object_at n s).slots) k) (ap length (slots_ren x s v) ∙ length-map (slots_of s v) (ren x))
  same_kind_by s r v = refl

  first_of_ren : (s : Store) → Room s → (m : LoopMessage) (l : LoopState) → first_of_message p (t s) m (L l) ≡ V (first_of_message q s m l)
  unfolding first_of_message
  first_of_ren s room LoopMessage.Collect l = made_ren s room l
  first_of_ren s room LoopMessage.Select l = made_ren s room l
  first_of_ren s room LoopMessage.Reject l = made_ren s room l
  first_of_ren s room LoopMessage.EqualElements l =
      ap (λ v. if kind_by (t s) (ren x l.receiver) v then visit p (t s) (L l) else Finishes False) (first_ren x l.arguments)
      ∙ ap (λ b. if b then visit p (t s) (L l) else Finishes False) (same_kind_by s l.receiver (first l.arguments))
      ∙ visit_if (kind_by s l.receiver (first l.arguments)) _ _ _ _ (visit_ren s room l) refl
  first_of_ren s room m l = visit_ren s room l

  pub first_visit_ren : (s : Store) → Room s → (l : LoopState) → first_visit p (t s) (L l) ≡ V (first_visit q s l)
  unfolding first_visit
  first_visit_ren s room l = first_of_ren s room l.message l

  stop_by : (v : Value) (a a' : Action) → a ≡ ren_action x a' → with_stop (ren x v) a ≡ ren_action x (with_stop v a')
  stop_by (Integer n) a a' e = e
  stop_by v a a' e = refl

  action_if : (b : Bool) (a c a' c' : Action) → a ≡ ren_action x a' → c ≡ ren_action x c' → (if b then a else c) ≡ ren_action x (if b then a' else c')
  action_if true a c a' c' e f = e
  action_if false a c a' c' e f = f

  step_by : (v : Value) (a a' : Action) → a ≡ ren_action x a' → with_step (ren x v) a ≡ ren_action x (with_step v a')
  step_by (Integer n) a a' e = action_if (nat_eq (natural_of n) 0 && int_le (pos 0) n) _ _ _ _ refl e
  step_by v a a' e = refl

  pub loop_ren : (s : Store) → Room s → (m : LoopMessage) (r : Value) (args : List Value) → loop_action p (t s) m (ren x r) (rens x args) ≡ ren_action x (loop_action q s m r args)
  unfolding loop_action
  loop_ren s room LoopMessage.WhileTrue r args = refl
  loop_ren s room LoopMessage.WhileFalse r args = refl
  loop_ren s room LoopMessage.ToDo r args =
      ap (λ v. with_stop v (Iterates (begun LoopMessage.ToDo (ren x r) (rens x args) (integer_of (ren x r)) Nil))) (first_ren x args)
      ∙ stop_by (first args) _ _ (ap (λ k. Iterates (begun LoopMessage.ToDo (ren x r) (rens x args) k Nil)) (integer_ren x r))
  loop_ren s room LoopMessage.ToByDo r args =
      ap (λ v. with_stop v (with_step (second (rens x args)) (Iterates (begun LoopMessage.ToByDo (ren x r) (rens x args) (integer_of (ren x r)) Nil)))) (first_ren x args)
      ∙ stop_by (first args) _ _
      (ap (λ v. with_step v (Iterates (begun LoopMessage.ToByDo (ren x r) (rens x args) (integer_of (ren x r)) Nil))) (second_ren x args)
      ∙ step_by (second args) _ _ (ap (λ k. Iterates (begun LoopMessage.ToByDo (ren x r) (rens x args) k Nil)) (integer_ren x r)))
  loop_ren s room LoopMessage.ReverseDo r args = ap (λ k. Iterates (begun LoopMessage.ReverseDo (ren x r) (rens x args) (pos k) Nil)) (size_ren x q p is s r)
  loop_ren s room LoopMessage.InjectInto r args = ap (λ v. Iterates (begun LoopMessage.InjectInto (ren x r) (rens x args) (pos 1) v)) (first_ren x args)
  loop_ren s room LoopMessage.OccurrencesOf r args = refl
  loop_ren s room LoopMessage.NotEqual r args = refl
  loop_ren s room m r args = refl
