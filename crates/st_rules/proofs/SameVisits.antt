-- The loops read neither scopes nor closures, and leave them as they are.
use Rattle.std.proofs.Common.{◌≡◌, ℕ, List, [], Bool, true, false, refl, ap, arith, if◌then◌else◌}
use Rattle.object_heap.specs.declared.value.Value.{Value}
use Rattle.object_heap.specs.declared.value.Value.TheVariants.{Object}
use Rattle.st_code.specs.BuiltIns.{ordered_collection_class}
use Rattle.object_heap.specs.declared.value.Closure.{Closure}
use Rattle.object_heap.specs.Store.{Store, Scope}
use Rattle.st_code.specs.Program.{Program}
use Rattle.st_code.specs.Messages.{LoopMessage}
use Rattle.st_collections.specs.Actions.{LoopState, Visit, Charges, next_object, with_new}
use Rattle.st_collections.specs.Kinds.{is_true, is_a, slots_of, slot_of, size_of, element, key, species}
use Rattle.st_collections.specs.SequenceRows.{with_elements, without_element}
use Rattle.st_collections.specs.Loops.{is_within, visit_at, given_at, next_visit, first_of_message, first_visit}
use Rattle.st_rules.proofs.SameRows.{with_rest}

abbrev pub relabeled_visit : List Closure → List Scope → Visit → Visit
relabeled_visit cl sc (Charges n s v) = Charges n (with_rest cl sc s) (relabeled_visit cl sc v)
relabeled_visit cl sc v = v

module _ (p : Program) (s : Store) (cl : List Closure) (sc : List Scope) where
  abbrev other : Store
  other = with_rest cl sc s

  is_within_free : (l : LoopState) → is_within p other l ≡ is_within p s l
  unfolding is_within size_of
  is_within_free l = refl

  size_free : (v : Value) → size_of p other v ≡ size_of p s v
  unfolding size_of
  size_free v = refl

  element_free : (v : Value) (i : ℕ) → element p other v i ≡ element p s v i
  unfolding element
  element_free v i = refl

  slots_free : (v : Value) → slots_of other v ≡ slots_of s v
  unfolding slots_of
  slots_free v = refl

  key_free : (v : Value) (i : ℕ) → key other v i ≡ key s v i
  unfolding key slot_of slots_of
  key_free v i = refl

  species_free : (v : Value) → species other v ≡ species s v
  unfolding species
  species_free v = refl

  is_a_free : (class : ℕ) (v : Value) → is_a other class v ≡ is_a s class v
  unfolding is_a
  is_a_free class v = refl

  visits_while_true : (l : LoopState) → visit_at p other LoopMessage.WhileTrue l ≡ relabeled_visit cl sc (visit_at p s LoopMessage.WhileTrue l)
  unfolding visit_at with_new with_elements
  visits_while_true l = grind (arith, is_within_free, size_free, element_free, slots_free, key_free, species_free, is_a_free)

  visits_while_false : (l : LoopState) → visit_at p other LoopMessage.WhileFalse l ≡ relabeled_visit cl sc (visit_at p s LoopMessage.WhileFalse l)
  unfolding visit_at with_new with_elements
  visits_while_false l = grind (arith, is_within_free, size_free, element_free, slots_free, key_free, species_free, is_a_free)

  visits_times_repeat : (l : LoopState) → visit_at p other LoopMessage.TimesRepeat l ≡ relabeled_visit cl sc (visit_at p s LoopMessage.TimesRepeat l)
  unfolding visit_at with_new with_elements
  visits_times_repeat l = grind (arith, is_within_free, size_free, element_free, slots_free, key_free, species_free, is_a_free)

  visits_to_do : (l : LoopState) → visit_at p other LoopMessage.ToDo l ≡ relabeled_visit cl sc (visit_at p s LoopMessage.ToDo l)
  unfolding visit_at with_new with_elements
  visits_to_do l = grind (arith, is_within_free, size_free, element_free, slots_free, key_free, species_free, is_a_free)

  visits_to_by_do : (l : LoopState) → visit_at p other LoopMessage.ToByDo l ≡ relabeled_visit cl sc (visit_at p s LoopMessage.ToByDo l)
  unfolding visit_at with_new with_elements
  visits_to_by_do l = grind (arith, is_within_free, size_free, element_free, slots_free, key_free, species_free, is_a_free)

  visits_do : (l : LoopState) → visit_at p other LoopMessage.Do l ≡ relabeled_visit cl sc (visit_at p s LoopMessage.Do l)
  unfolding visit_at with_new with_elements
  visits_do l = grind (arith, is_within_free, size_free, element_free, slots_free, key_free, species_free, is_a_free)

  visits_do_separated_by : (l : LoopState) → visit_at p other LoopMessage.DoSeparatedBy l ≡ relabeled_visit cl sc (visit_at p s LoopMessage.DoSeparatedBy l)
  unfolding visit_at with_new with_elements
  visits_do_separated_by l = grind (arith, is_within_free, size_free, element_free, slots_free, key_free, species_free, is_a_free)

  visits_reverse_do : (l : LoopState) → visit_at p other LoopMessage.ReverseDo l ≡ relabeled_visit cl sc (visit_at p s LoopMessage.ReverseDo l)
  unfolding visit_at with_new with_elements
  visits_reverse_do l = grind (arith, is_within_free, size_free, element_free, slots_free, key_free, species_free, is_a_free)

  visits_keys_and_values_do : (l : LoopState) → visit_at p other LoopMessage.KeysAndValuesDo l ≡ relabeled_visit cl sc (visit_at p s LoopMessage.KeysAndValuesDo l)
  unfolding visit_at with_new with_elements
  visits_keys_and_values_do l = grind (arith, is_within_free, size_free, element_free, slots_free, key_free, species_free, is_a_free)

  visits_keys_do : (l : LoopState) → visit_at p other LoopMessage.KeysDo l ≡ relabeled_visit cl sc (visit_at p s LoopMessage.KeysDo l)
  unfolding visit_at with_new with_elements
  visits_keys_do l = grind (arith, is_within_free, size_free, element_free, slots_free, key_free, species_free, is_a_free)

  visits_inject_into : (l : LoopState) → visit_at p other LoopMessage.InjectInto l ≡ relabeled_visit cl sc (visit_at p s LoopMessage.InjectInto l)
  unfolding visit_at with_new with_elements
  visits_inject_into l = grind (arith, is_within_free, size_free, element_free, slots_free, key_free, species_free, is_a_free)

  visits_detect : (l : LoopState) → visit_at p other LoopMessage.Detect l ≡ relabeled_visit cl sc (visit_at p s LoopMessage.Detect l)
  unfolding visit_at with_new with_elements
  visits_detect l = grind (arith, is_within_free, size_free, element_free, slots_free, key_free, species_free, is_a_free)

  visits_detect_if_none : (l : LoopState) → visit_at p other LoopMessage.DetectIfNone l ≡ relabeled_visit cl sc (visit_at p s LoopMessage.DetectIfNone l)
  unfolding visit_at with_new with_elements
  visits_detect_if_none l = grind (arith, is_within_free, size_free, element_free, slots_free, key_free, species_free, is_a_free)

  visits_any_satisfy : (l : LoopState) → visit_at p other LoopMessage.AnySatisfy l ≡ relabeled_visit cl sc (visit_at p s LoopMessage.AnySatisfy l)
  unfolding visit_at with_new with_elements
  visits_any_satisfy l = grind (arith, is_within_free, size_free, element_free, slots_free, key_free, species_free, is_a_free)

  visits_all_satisfy : (l : LoopState) → visit_at p other LoopMessage.AllSatisfy l ≡ relabeled_visit cl sc (visit_at p s LoopMessage.AllSatisfy l)
  unfolding visit_at with_new with_elements
  visits_all_satisfy l = grind (arith, is_within_free, size_free, element_free, slots_free, key_free, species_free, is_a_free)

  visits_collect : (l : LoopState) → visit_at p other LoopMessage.Collect l ≡ relabeled_visit cl sc (visit_at p s LoopMessage.Collect l)
  unfolding visit_at with_new with_elements
  visits_collect l = grind (arith, is_within_free, size_free, element_free, slots_free, key_free, species_free, is_a_free)

  visits_select : (l : LoopState) → visit_at p other LoopMessage.Select l ≡ relabeled_visit cl sc (visit_at p s LoopMessage.Select l)
  unfolding visit_at with_new with_elements
  visits_select l = grind (arith, is_within_free, size_free, element_free, slots_free, key_free, species_free, is_a_free)

  visits_reject : (l : LoopState) → visit_at p other LoopMessage.Reject l ≡ relabeled_visit cl sc (visit_at p s LoopMessage.Reject l)
  unfolding visit_at with_new with_elements
  visits_reject l = grind (arith, is_within_free, size_free, element_free, slots_free, key_free, species_free, is_a_free)

  visits_includes : (l : LoopState) → visit_at p other LoopMessage.Includes l ≡ relabeled_visit cl sc (visit_at p s LoopMessage.Includes l)
  unfolding visit_at with_new with_elements
  visits_includes l = grind (arith, is_within_free, size_free, element_free, slots_free, key_free, species_free, is_a_free)

  visits_occurrences_of : (l : LoopState) → visit_at p other LoopMessage.OccurrencesOf l ≡ relabeled_visit cl sc (visit_at p s LoopMessage.OccurrencesOf l)
  unfolding visit_at with_new with_elements
  visits_occurrences_of l = grind (arith, is_within_free, size_free, element_free, slots_free, key_free, species_free, is_a_free)

  visits_index_of : (l : LoopState) → visit_at p other LoopMessage.IndexOf l ≡ relabeled_visit cl sc (visit_at p s LoopMessage.IndexOf l)
  unfolding visit_at with_new with_elements
  visits_index_of l = grind (arith, is_within_free, size_free, element_free, slots_free, key_free, species_free, is_a_free)

  visits_add_to_set : (l : LoopState) → visit_at p other LoopMessage.AddToSet l ≡ relabeled_visit cl sc (visit_at p s LoopMessage.AddToSet l)
  unfolding visit_at with_new with_elements
  visits_add_to_set l = grind (arith, is_within_free, size_free, element_free, slots_free, key_free, species_free, is_a_free)

  visits_remove : (l : LoopState) → visit_at p other LoopMessage.Remove l ≡ relabeled_visit cl sc (visit_at p s LoopMessage.Remove l)
  unfolding visit_at with_new with_elements
  visits_remove l = grind (arith, is_within_free, size_free, element_free, slots_free, key_free, species_free, is_a_free)

  visits_remove_if_absent : (l : LoopState) → visit_at p other LoopMessage.RemoveIfAbsent l ≡ relabeled_visit cl sc (visit_at p s LoopMessage.RemoveIfAbsent l)
  unfolding visit_at with_new with_elements
  visits_remove_if_absent l = grind (arith, is_within_free, size_free, element_free, slots_free, key_free, species_free, is_a_free)

  visits_at : (l : LoopState) → visit_at p other LoopMessage.At l ≡ relabeled_visit cl sc (visit_at p s LoopMessage.At l)
  unfolding visit_at with_new with_elements
  visits_at l = grind (arith, is_within_free, size_free, element_free, slots_free, key_free, species_free, is_a_free)

  visits_at_if_absent : (l : LoopState) → visit_at p other LoopMessage.AtIfAbsent l ≡ relabeled_visit cl sc (visit_at p s LoopMessage.AtIfAbsent l)
  unfolding visit_at with_new with_elements
  visits_at_if_absent l = grind (arith, is_within_free, size_free, element_free, slots_free, key_free, species_free, is_a_free)

  visits_at_put : (l : LoopState) → visit_at p other LoopMessage.AtPut l ≡ relabeled_visit cl sc (visit_at p s LoopMessage.AtPut l)
  unfolding visit_at with_new with_elements
  visits_at_put l = grind (arith, is_within_free, size_free, element_free, slots_free, key_free, species_free, is_a_free)

  visits_at_if_absent_put : (l : LoopState) → visit_at p other LoopMessage.AtIfAbsentPut l ≡ relabeled_visit cl sc (visit_at p s LoopMessage.AtIfAbsentPut l)
  unfolding visit_at with_new with_elements
  visits_at_if_absent_put l = grind (arith, is_within_free, size_free, element_free, slots_free, key_free, species_free, is_a_free)

  visits_includes_key : (l : LoopState) → visit_at p other LoopMessage.IncludesKey l ≡ relabeled_visit cl sc (visit_at p s LoopMessage.IncludesKey l)
  unfolding visit_at with_new with_elements
  visits_includes_key l = grind (arith, is_within_free, size_free, element_free, slots_free, key_free, species_free, is_a_free)

  visits_remove_key : (l : LoopState) → visit_at p other LoopMessage.RemoveKey l ≡ relabeled_visit cl sc (visit_at p s LoopMessage.RemoveKey l)
  unfolding visit_at with_new with_elements
  visits_remove_key l = grind (arith, is_within_free, size_free, element_free, slots_free, key_free, species_free, is_a_free)

  visits_remove_key_if_absent : (l : LoopState) → visit_at p other LoopMessage.RemoveKeyIfAbsent l ≡ relabeled_visit cl sc (visit_at p s LoopMessage.RemoveKeyIfAbsent l)
  unfolding visit_at with_new with_elements
  visits_remove_key_if_absent l = grind (arith, is_within_free, size_free, element_free, slots_free, key_free, species_free, is_a_free)

  visits_equal_elements : (l : LoopState) → visit_at p other LoopMessage.EqualElements l ≡ relabeled_visit cl sc (visit_at p s LoopMessage.EqualElements l)
  unfolding visit_at with_new with_elements
  visits_equal_elements l = grind (arith, is_within_free, size_free, element_free, slots_free, key_free, species_free, is_a_free)

  visits_not_equal : (l : LoopState) → visit_at p other LoopMessage.NotEqual l ≡ relabeled_visit cl sc (visit_at p s LoopMessage.NotEqual l)
  unfolding visit_at with_new with_elements
  visits_not_equal l = grind (arith, is_within_free, size_free, element_free, slots_free, key_free, species_free, is_a_free)

  visit_at_free : (m : LoopMessage) (l : LoopState) → visit_at p other m l ≡ relabeled_visit cl sc (visit_at p s m l)
  visit_at_free LoopMessage.WhileTrue l = visits_while_true l
  visit_at_free LoopMessage.WhileFalse l = visits_while_false l
  visit_at_free LoopMessage.TimesRepeat l = visits_times_repeat l
  visit_at_free LoopMessage.ToDo l = visits_to_do l
  visit_at_free LoopMessage.ToByDo l = visits_to_by_do l
  visit_at_free LoopMessage.Do l = visits_do l
  visit_at_free LoopMessage.DoSeparatedBy l = visits_do_separated_by l
  visit_at_free LoopMessage.ReverseDo l = visits_reverse_do l
  visit_at_free LoopMessage.KeysAndValuesDo l = visits_keys_and_values_do l
  visit_at_free LoopMessage.KeysDo l = visits_keys_do l
  visit_at_free LoopMessage.InjectInto l = visits_inject_into l
  visit_at_free LoopMessage.Detect l = visits_detect l
  visit_at_free LoopMessage.DetectIfNone l = visits_detect_if_none l
  visit_at_free LoopMessage.AnySatisfy l = visits_any_satisfy l
  visit_at_free LoopMessage.AllSatisfy l = visits_all_satisfy l
  visit_at_free LoopMessage.Collect l = visits_collect l
  visit_at_free LoopMessage.Select l = visits_select l
  visit_at_free LoopMessage.Reject l = visits_reject l
  visit_at_free LoopMessage.Includes l = visits_includes l
  visit_at_free LoopMessage.OccurrencesOf l = visits_occurrences_of l
  visit_at_free LoopMessage.IndexOf l = visits_index_of l
  visit_at_free LoopMessage.AddToSet l = visits_add_to_set l
  visit_at_free LoopMessage.Remove l = visits_remove l
  visit_at_free LoopMessage.RemoveIfAbsent l = visits_remove_if_absent l
  visit_at_free LoopMessage.At l = visits_at l
  visit_at_free LoopMessage.AtIfAbsent l = visits_at_if_absent l
  visit_at_free LoopMessage.AtPut l = visits_at_put l
  visit_at_free LoopMessage.AtIfAbsentPut l = visits_at_if_absent_put l
  visit_at_free LoopMessage.IncludesKey l = visits_includes_key l
  visit_at_free LoopMessage.RemoveKey l = visits_remove_key l
  visit_at_free LoopMessage.RemoveKeyIfAbsent l = visits_remove_key_if_absent l
  visit_at_free LoopMessage.EqualElements l = visits_equal_elements l
  visit_at_free LoopMessage.NotEqual l = visits_not_equal l

module _ (p : Program) (s : Store) (cl : List Closure) (sc : List Scope) where
  abbrev other_store : Store
  other_store = with_rest cl sc s

  -- an element at the end of the collection made, as the loops have it
  abbrev append_given : Store → Value → List Value → (Store → Visit) → Visit
  append_given s1 (Object number) slots rest = let g = with_elements s1 number slots in Charges g.cells g.store (rest g.store)
  append_given s1 made slots rest = rest s1

  append_by : (made : Value) (slots : List Value) (f g : Store → Visit) → ((s1 : Store) → f (with_rest cl sc s1) ≡ relabeled_visit cl sc (g s1)) → append_given other_store made slots f ≡ relabeled_visit cl sc (append_given s made slots g)
  unfolding with_elements
  append_by (Object number) slots f g h = ap (λ v. Charges (with_elements s number slots).cells (with_rest cl sc (with_elements s number slots).store) v) (h (with_elements s number slots).store)
  append_by made slots f g h = h s

  if_by : (t : Bool) (a b a' b' : Visit) → a ≡ relabeled_visit cl sc a' → b ≡ relabeled_visit cl sc b' → (if t then a else b) ≡ relabeled_visit cl sc (if t then a' else b')
  if_by true a b a' b' h i = h
  if_by false a b a' b' h i = i

  given_while_true : (l : LoopState) (v : Value) → given_at p other_store LoopMessage.WhileTrue l v ≡ relabeled_visit cl sc (given_at p s LoopMessage.WhileTrue l v)
  unfolding given_at with_elements without_element
  given_while_true l v = grind (arith, visit_at_free p s cl sc, is_within_free p s cl sc, size_free p s cl sc, element_free p s cl sc, slots_free p s cl sc, key_free p s cl sc, species_free p s cl sc, is_a_free p s cl sc)

  given_while_false : (l : LoopState) (v : Value) → given_at p other_store LoopMessage.WhileFalse l v ≡ relabeled_visit cl sc (given_at p s LoopMessage.WhileFalse l v)
  unfolding given_at with_elements without_element
  given_while_false l v = grind (arith, visit_at_free p s cl sc, is_within_free p s cl sc, size_free p s cl sc, element_free p s cl sc, slots_free p s cl sc, key_free p s cl sc, species_free p s cl sc, is_a_free p s cl sc)

  given_times_repeat : (l : LoopState) (v : Value) → given_at p other_store LoopMessage.TimesRepeat l v ≡ relabeled_visit cl sc (given_at p s LoopMessage.TimesRepeat l v)
  unfolding given_at with_elements without_element
  given_times_repeat l v = grind (arith, visit_at_free p s cl sc, is_within_free p s cl sc, size_free p s cl sc, element_free p s cl sc, slots_free p s cl sc, key_free p s cl sc, species_free p s cl sc, is_a_free p s cl sc)

  given_to_do : (l : LoopState) (v : Value) → given_at p other_store LoopMessage.ToDo l v ≡ relabeled_visit cl sc (given_at p s LoopMessage.ToDo l v)
  unfolding given_at with_elements without_element
  given_to_do l v = grind (arith, visit_at_free p s cl sc, is_within_free p s cl sc, size_free p s cl sc, element_free p s cl sc, slots_free p s cl sc, key_free p s cl sc, species_free p s cl sc, is_a_free p s cl sc)

  given_to_by_do : (l : LoopState) (v : Value) → given_at p other_store LoopMessage.ToByDo l v ≡ relabeled_visit cl sc (given_at p s LoopMessage.ToByDo l v)
  unfolding given_at with_elements without_element
  given_to_by_do l v = grind (arith, visit_at_free p s cl sc, is_within_free p s cl sc, size_free p s cl sc, element_free p s cl sc, slots_free p s cl sc, key_free p s cl sc, species_free p s cl sc, is_a_free p s cl sc)

  given_do : (l : LoopState) (v : Value) → given_at p other_store LoopMessage.Do l v ≡ relabeled_visit cl sc (given_at p s LoopMessage.Do l v)
  unfolding given_at with_elements without_element
  given_do l v = grind (arith, visit_at_free p s cl sc, is_within_free p s cl sc, size_free p s cl sc, element_free p s cl sc, slots_free p s cl sc, key_free p s cl sc, species_free p s cl sc, is_a_free p s cl sc)

  given_do_separated_by : (l : LoopState) (v : Value) → given_at p other_store LoopMessage.DoSeparatedBy l v ≡ relabeled_visit cl sc (given_at p s LoopMessage.DoSeparatedBy l v)
  unfolding given_at with_elements without_element
  given_do_separated_by l v = grind (arith, visit_at_free p s cl sc, is_within_free p s cl sc, size_free p s cl sc, element_free p s cl sc, slots_free p s cl sc, key_free p s cl sc, species_free p s cl sc, is_a_free p s cl sc)

  given_reverse_do : (l : LoopState) (v : Value) → given_at p other_store LoopMessage.ReverseDo l v ≡ relabeled_visit cl sc (given_at p s LoopMessage.ReverseDo l v)
  unfolding given_at with_elements without_element
  given_reverse_do l v = grind (arith, visit_at_free p s cl sc, is_within_free p s cl sc, size_free p s cl sc, element_free p s cl sc, slots_free p s cl sc, key_free p s cl sc, species_free p s cl sc, is_a_free p s cl sc)

  given_keys_and_values_do : (l : LoopState) (v : Value) → given_at p other_store LoopMessage.KeysAndValuesDo l v ≡ relabeled_visit cl sc (given_at p s LoopMessage.KeysAndValuesDo l v)
  unfolding given_at with_elements without_element
  given_keys_and_values_do l v = grind (arith, visit_at_free p s cl sc, is_within_free p s cl sc, size_free p s cl sc, element_free p s cl sc, slots_free p s cl sc, key_free p s cl sc, species_free p s cl sc, is_a_free p s cl sc)

  given_keys_do : (l : LoopState) (v : Value) → given_at p other_store LoopMessage.KeysDo l v ≡ relabeled_visit cl sc (given_at p s LoopMessage.KeysDo l v)
  unfolding given_at with_elements without_element
  given_keys_do l v = grind (arith, visit_at_free p s cl sc, is_within_free p s cl sc, size_free p s cl sc, element_free p s cl sc, slots_free p s cl sc, key_free p s cl sc, species_free p s cl sc, is_a_free p s cl sc)

  given_inject_into : (l : LoopState) (v : Value) → given_at p other_store LoopMessage.InjectInto l v ≡ relabeled_visit cl sc (given_at p s LoopMessage.InjectInto l v)
  unfolding given_at with_elements without_element
  given_inject_into l v = grind (arith, visit_at_free p s cl sc, is_within_free p s cl sc, size_free p s cl sc, element_free p s cl sc, slots_free p s cl sc, key_free p s cl sc, species_free p s cl sc, is_a_free p s cl sc)

  given_detect : (l : LoopState) (v : Value) → given_at p other_store LoopMessage.Detect l v ≡ relabeled_visit cl sc (given_at p s LoopMessage.Detect l v)
  unfolding given_at with_elements without_element
  given_detect l v = grind (arith, visit_at_free p s cl sc, is_within_free p s cl sc, size_free p s cl sc, element_free p s cl sc, slots_free p s cl sc, key_free p s cl sc, species_free p s cl sc, is_a_free p s cl sc)

  given_detect_if_none : (l : LoopState) (v : Value) → given_at p other_store LoopMessage.DetectIfNone l v ≡ relabeled_visit cl sc (given_at p s LoopMessage.DetectIfNone l v)
  unfolding given_at with_elements without_element
  given_detect_if_none l v = grind (arith, visit_at_free p s cl sc, is_within_free p s cl sc, size_free p s cl sc, element_free p s cl sc, slots_free p s cl sc, key_free p s cl sc, species_free p s cl sc, is_a_free p s cl sc)

  given_any_satisfy : (l : LoopState) (v : Value) → given_at p other_store LoopMessage.AnySatisfy l v ≡ relabeled_visit cl sc (given_at p s LoopMessage.AnySatisfy l v)
  unfolding given_at with_elements without_element
  given_any_satisfy l v = grind (arith, visit_at_free p s cl sc, is_within_free p s cl sc, size_free p s cl sc, element_free p s cl sc, slots_free p s cl sc, key_free p s cl sc, species_free p s cl sc, is_a_free p s cl sc)

  given_all_satisfy : (l : LoopState) (v : Value) → given_at p other_store LoopMessage.AllSatisfy l v ≡ relabeled_visit cl sc (given_at p s LoopMessage.AllSatisfy l v)
  unfolding given_at with_elements without_element
  given_all_satisfy l v = grind (arith, visit_at_free p s cl sc, is_within_free p s cl sc, size_free p s cl sc, element_free p s cl sc, slots_free p s cl sc, key_free p s cl sc, species_free p s cl sc, is_a_free p s cl sc)

  given_collect : (l : LoopState) (v : Value) → given_at p other_store LoopMessage.Collect l v ≡ relabeled_visit cl sc (given_at p s LoopMessage.Collect l v)
  unfolding given_at slots_of
  given_collect l v = append_by l.made _ _ _ (λ s1. visit_at_free p s1 cl sc l.message _)

  given_select : (l : LoopState) (v : Value) → given_at p other_store LoopMessage.Select l v ≡ relabeled_visit cl sc (given_at p s LoopMessage.Select l v)
  unfolding given_at slots_of
  given_select l v = if_by (is_true v) _ _ _ _ (append_by l.made _ _ _ (λ s1. visit_at_free p s1 cl sc l.message _)) (visit_at_free p s cl sc l.message _)

  given_reject : (l : LoopState) (v : Value) → given_at p other_store LoopMessage.Reject l v ≡ relabeled_visit cl sc (given_at p s LoopMessage.Reject l v)
  unfolding given_at slots_of
  given_reject l v = if_by (is_true v) _ _ _ _ (visit_at_free p s cl sc l.message _) (append_by l.made _ _ _ (λ s1. visit_at_free p s1 cl sc l.message _))

  given_includes : (l : LoopState) (v : Value) → given_at p other_store LoopMessage.Includes l v ≡ relabeled_visit cl sc (given_at p s LoopMessage.Includes l v)
  unfolding given_at with_elements without_element
  given_includes l v = grind (arith, visit_at_free p s cl sc, is_within_free p s cl sc, size_free p s cl sc, element_free p s cl sc, slots_free p s cl sc, key_free p s cl sc, species_free p s cl sc, is_a_free p s cl sc)

  given_occurrences_of : (l : LoopState) (v : Value) → given_at p other_store LoopMessage.OccurrencesOf l v ≡ relabeled_visit cl sc (given_at p s LoopMessage.OccurrencesOf l v)
  unfolding given_at with_elements without_element
  given_occurrences_of l v = grind (arith, visit_at_free p s cl sc, is_within_free p s cl sc, size_free p s cl sc, element_free p s cl sc, slots_free p s cl sc, key_free p s cl sc, species_free p s cl sc, is_a_free p s cl sc)

  given_index_of : (l : LoopState) (v : Value) → given_at p other_store LoopMessage.IndexOf l v ≡ relabeled_visit cl sc (given_at p s LoopMessage.IndexOf l v)
  unfolding given_at with_elements without_element
  given_index_of l v = grind (arith, visit_at_free p s cl sc, is_within_free p s cl sc, size_free p s cl sc, element_free p s cl sc, slots_free p s cl sc, key_free p s cl sc, species_free p s cl sc, is_a_free p s cl sc)

  given_add_to_set : (l : LoopState) (v : Value) → given_at p other_store LoopMessage.AddToSet l v ≡ relabeled_visit cl sc (given_at p s LoopMessage.AddToSet l v)
  unfolding given_at with_elements without_element
  given_add_to_set l v = grind (arith, visit_at_free p s cl sc, is_within_free p s cl sc, size_free p s cl sc, element_free p s cl sc, slots_free p s cl sc, key_free p s cl sc, species_free p s cl sc, is_a_free p s cl sc)

  given_remove : (l : LoopState) (v : Value) → given_at p other_store LoopMessage.Remove l v ≡ relabeled_visit cl sc (given_at p s LoopMessage.Remove l v)
  unfolding given_at with_elements without_element
  given_remove l v = grind (arith, visit_at_free p s cl sc, is_within_free p s cl sc, size_free p s cl sc, element_free p s cl sc, slots_free p s cl sc, key_free p s cl sc, species_free p s cl sc, is_a_free p s cl sc)

  given_remove_if_absent : (l : LoopState) (v : Value) → given_at p other_store LoopMessage.RemoveIfAbsent l v ≡ relabeled_visit cl sc (given_at p s LoopMessage.RemoveIfAbsent l v)
  unfolding given_at with_elements without_element
  given_remove_if_absent l v = grind (arith, visit_at_free p s cl sc, is_within_free p s cl sc, size_free p s cl sc, element_free p s cl sc, slots_free p s cl sc, key_free p s cl sc, species_free p s cl sc, is_a_free p s cl sc)

  given_read_at : (l : LoopState) (v : Value) → given_at p other_store LoopMessage.At l v ≡ relabeled_visit cl sc (given_at p s LoopMessage.At l v)
  unfolding given_at with_elements without_element
  given_read_at l v = grind (arith, visit_at_free p s cl sc, is_within_free p s cl sc, size_free p s cl sc, element_free p s cl sc, slots_free p s cl sc, key_free p s cl sc, species_free p s cl sc, is_a_free p s cl sc)

  given_at_if_absent : (l : LoopState) (v : Value) → given_at p other_store LoopMessage.AtIfAbsent l v ≡ relabeled_visit cl sc (given_at p s LoopMessage.AtIfAbsent l v)
  unfolding given_at with_elements without_element
  given_at_if_absent l v = grind (arith, visit_at_free p s cl sc, is_within_free p s cl sc, size_free p s cl sc, element_free p s cl sc, slots_free p s cl sc, key_free p s cl sc, species_free p s cl sc, is_a_free p s cl sc)

  given_at_put : (l : LoopState) (v : Value) → given_at p other_store LoopMessage.AtPut l v ≡ relabeled_visit cl sc (given_at p s LoopMessage.AtPut l v)
  unfolding given_at with_elements without_element
  given_at_put l v = grind (arith, visit_at_free p s cl sc, is_within_free p s cl sc, size_free p s cl sc, element_free p s cl sc, slots_free p s cl sc, key_free p s cl sc, species_free p s cl sc, is_a_free p s cl sc)

  given_at_if_absent_put : (l : LoopState) (v : Value) → given_at p other_store LoopMessage.AtIfAbsentPut l v ≡ relabeled_visit cl sc (given_at p s LoopMessage.AtIfAbsentPut l v)
  unfolding given_at with_elements without_element
  given_at_if_absent_put l v = grind (arith, visit_at_free p s cl sc, is_within_free p s cl sc, size_free p s cl sc, element_free p s cl sc, slots_free p s cl sc, key_free p s cl sc, species_free p s cl sc, is_a_free p s cl sc)

  given_includes_key : (l : LoopState) (v : Value) → given_at p other_store LoopMessage.IncludesKey l v ≡ relabeled_visit cl sc (given_at p s LoopMessage.IncludesKey l v)
  unfolding given_at with_elements without_element
  given_includes_key l v = grind (arith, visit_at_free p s cl sc, is_within_free p s cl sc, size_free p s cl sc, element_free p s cl sc, slots_free p s cl sc, key_free p s cl sc, species_free p s cl sc, is_a_free p s cl sc)

  given_remove_key : (l : LoopState) (v : Value) → given_at p other_store LoopMessage.RemoveKey l v ≡ relabeled_visit cl sc (given_at p s LoopMessage.RemoveKey l v)
  unfolding given_at with_elements without_element
  given_remove_key l v = grind (arith, visit_at_free p s cl sc, is_within_free p s cl sc, size_free p s cl sc, element_free p s cl sc, slots_free p s cl sc, key_free p s cl sc, species_free p s cl sc, is_a_free p s cl sc)

  given_remove_key_if_absent : (l : LoopState) (v : Value) → given_at p other_store LoopMessage.RemoveKeyIfAbsent l v ≡ relabeled_visit cl sc (given_at p s LoopMessage.RemoveKeyIfAbsent l v)
  unfolding given_at with_elements without_element
  given_remove_key_if_absent l v = grind (arith, visit_at_free p s cl sc, is_within_free p s cl sc, size_free p s cl sc, element_free p s cl sc, slots_free p s cl sc, key_free p s cl sc, species_free p s cl sc, is_a_free p s cl sc)

  given_equal_elements : (l : LoopState) (v : Value) → given_at p other_store LoopMessage.EqualElements l v ≡ relabeled_visit cl sc (given_at p s LoopMessage.EqualElements l v)
  unfolding given_at with_elements without_element
  given_equal_elements l v = grind (arith, visit_at_free p s cl sc, is_within_free p s cl sc, size_free p s cl sc, element_free p s cl sc, slots_free p s cl sc, key_free p s cl sc, species_free p s cl sc, is_a_free p s cl sc)

  given_not_equal : (l : LoopState) (v : Value) → given_at p other_store LoopMessage.NotEqual l v ≡ relabeled_visit cl sc (given_at p s LoopMessage.NotEqual l v)
  unfolding given_at with_elements without_element
  given_not_equal l v = grind (arith, visit_at_free p s cl sc, is_within_free p s cl sc, size_free p s cl sc, element_free p s cl sc, slots_free p s cl sc, key_free p s cl sc, species_free p s cl sc, is_a_free p s cl sc)

  given_at_free : (m : LoopMessage) (l : LoopState) (v : Value) → given_at p other_store m l v ≡ relabeled_visit cl sc (given_at p s m l v)
  given_at_free LoopMessage.WhileTrue l v = given_while_true l v
  given_at_free LoopMessage.WhileFalse l v = given_while_false l v
  given_at_free LoopMessage.TimesRepeat l v = given_times_repeat l v
  given_at_free LoopMessage.ToDo l v = given_to_do l v
  given_at_free LoopMessage.ToByDo l v = given_to_by_do l v
  given_at_free LoopMessage.Do l v = given_do l v
  given_at_free LoopMessage.DoSeparatedBy l v = given_do_separated_by l v
  given_at_free LoopMessage.ReverseDo l v = given_reverse_do l v
  given_at_free LoopMessage.KeysAndValuesDo l v = given_keys_and_values_do l v
  given_at_free LoopMessage.KeysDo l v = given_keys_do l v
  given_at_free LoopMessage.InjectInto l v = given_inject_into l v
  given_at_free LoopMessage.Detect l v = given_detect l v
  given_at_free LoopMessage.DetectIfNone l v = given_detect_if_none l v
  given_at_free LoopMessage.AnySatisfy l v = given_any_satisfy l v
  given_at_free LoopMessage.AllSatisfy l v = given_all_satisfy l v
  given_at_free LoopMessage.Collect l v = given_collect l v
  given_at_free LoopMessage.Select l v = given_select l v
  given_at_free LoopMessage.Reject l v = given_reject l v
  given_at_free LoopMessage.Includes l v = given_includes l v
  given_at_free LoopMessage.OccurrencesOf l v = given_occurrences_of l v
  given_at_free LoopMessage.IndexOf l v = given_index_of l v
  given_at_free LoopMessage.AddToSet l v = given_add_to_set l v
  given_at_free LoopMessage.Remove l v = given_remove l v
  given_at_free LoopMessage.RemoveIfAbsent l v = given_remove_if_absent l v
  given_at_free LoopMessage.At l v = given_read_at l v
  given_at_free LoopMessage.AtIfAbsent l v = given_at_if_absent l v
  given_at_free LoopMessage.AtPut l v = given_at_put l v
  given_at_free LoopMessage.AtIfAbsentPut l v = given_at_if_absent_put l v
  given_at_free LoopMessage.IncludesKey l v = given_includes_key l v
  given_at_free LoopMessage.RemoveKey l v = given_remove_key l v
  given_at_free LoopMessage.RemoveKeyIfAbsent l v = given_remove_key_if_absent l v
  given_at_free LoopMessage.EqualElements l v = given_equal_elements l v
  given_at_free LoopMessage.NotEqual l v = given_not_equal l v

  pub next_visit_free : (l : LoopState) (v : Value) → next_visit p other_store l v ≡ relabeled_visit cl sc (next_visit p s l v)
  unfolding next_visit
  next_visit_free l v = given_at_free l.message l v

  begun_free : (l : LoopState) → Charges 1 (with_rest cl sc (with_new ordered_collection_class [] [] s)) (visit_at p (with_rest cl sc (with_new ordered_collection_class [] [] s)) l.message (record l { made = next_object s })) ≡ relabeled_visit cl sc (Charges 1 (with_new ordered_collection_class [] [] s) (visit_at p (with_new ordered_collection_class [] [] s) l.message (record l { made = next_object s })))
  begun_free l =
      let begun = with_new ordered_collection_class [] [] s in
      ap (λ v. Charges 1 (with_rest cl sc begun) v) (visit_at_free p begun cl sc l.message (record l { made = next_object s }))

  first_free : (m : LoopMessage) (l : LoopState) → first_of_message p other_store m l ≡ relabeled_visit cl sc (first_of_message p s m l)
  unfolding first_of_message with_new is_a slots_of
  first_free LoopMessage.Collect l = begun_free l
  first_free LoopMessage.Select l = begun_free l
  first_free LoopMessage.Reject l = begun_free l
  first_free LoopMessage.EqualElements l = if_by _ _ _ _ _ (visit_at_free p s cl sc l.message l) refl
  first_free m l = visit_at_free p s cl sc l.message l

  pub first_visit_free : (l : LoopState) → first_visit p other_store l ≡ relabeled_visit cl sc (first_visit p s l)
  unfolding first_visit
  first_visit_free l = first_free l.message l
