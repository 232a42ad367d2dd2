-- The visits of a loop have values that are there, where the loop's are.
use Rattle.std.proofs.Common.{◌≡◌, ℕ, ◌+◌, ◌-◌, ◌*◌, ℤ, pos, ◌+ℤ◌, nat_eq, nat_le, int_le, length, get_or, map, List, [], ◌∷◌, ◌++◌, Bool, true, false, not, ◌&&◌, ◌||◌, refl, if◌then◌else◌, ◌<◌}
use Rattle.object_heap.specs.declared.value.Value.{Value}
use Rattle.object_heap.specs.declared.value.Value.TheVariants.{Nil, True, False, Integer, Character, Symbol, Class, Meta, Transcript, Object}
use Rattle.object_heap.specs.Store.{Store, with_slot}
use Rattle.object_heap.specs.Charges.{object_charge}
use Rattle.st_code.specs.Program.{Program}
use Rattle.st_code.specs.BuiltIns.{string_class, array_class, set_class, dictionary_class, ordered_collection_class}
use Rattle.st_code.specs.Messages.{LoopMessage}
use Rattle.st_collections.specs.Actions.{LoopState, Visit, Applies, Compares, Finishes, Lacks, Charges, first, second, third, boolean, next_object, with_new}
use Rattle.st_collections.specs.Kinds.{same_value, is_true, is_a, slots_of, element, key, integer_of, natural_of, species}
use Rattle.st_collections.specs.TextRows.{byte_of}
use Rattle.st_collections.specs.SequenceRows.{with_elements, without_element}
use Rattle.st_collections.specs.Loops.{is_within, visit_at, given_at, next_visit, first_of_message, first_visit}
use Rattle.law_values.specs.KnownNumbers.{Has, AllHave, ObjectsHave, LoopHas, VisitHas, Grown}
use Rattle.law_values.proofs.ValuesThere.{has_later, loop_later, boolean_has, first_has, second_has, third_has, get_has, append_has, grown_itself, grown_on, grown_new, next_new, grown_slot}
use Rattle.law_values.proofs.RowsThere.{slots_have, slot_has, element_has}
use Rattle.law_values.proofs.MoreRowsThere.{elements_grown, element_removed}

module _ (C : ℕ) (low : 29 < C) where
  -- what a visit has is there
  pub record Visits (s : Store) (v : Visit) : Type 0 where
    pub gets : VisitHas C s v

  module _ (p : Program) (s : Store) (h : ObjectsHave C (length s.objects) s.objects) where
    abbrev k : ℕ
    k = length s.objects

    finishes : (v : Value) → Has C k v → Visits s (Finishes v)
    finishes v g = record { gets = g }

    applies : (l : LoopState) (v : Value) (args : List Value) → LoopHas C k l → Has C k v → AllHave C k args → Visits s (Applies l v args)
    applies l v args g i j = record { gets = (g, i, j) }

    compares : (l : LoopState) (r v : Value) → LoopHas C k l → Has C k r → Has C k v → Visits s (Compares l r v)
    compares l r v g i j = record { gets = (g, i, j) }

    lacks : (l : LoopState) → LoopHas C k l → Visits s (Lacks l)
    lacks l g = record { gets = g }

    pub if_visits : (b : Bool) (v w : Visit) → Visits s v → Visits s w → Visits s (if b then v else w)
    if_visits true v w g i = g
    if_visits false v w g i = i

    key_has : (v : Value) (i : ℕ) → Has C k (key s v i)
    unfolding key
    key_has v i = slot_has C low p s h v (2 * i - 2)

    value_either : (b : Bool) (v w : Value) → Has C k v → Has C k w → Has C k (if b then v else w)
    value_either true v w g i = g
    value_either false v w g i = i

    -- ---- parts of a loop

    module _ (l : LoopState) (has : LoopHas C k l) where
      abbrev place : ℕ
      place = natural_of l.index

      abbrev here : Value
      here = element p s l.receiver place

      here_has : Has C k here
      here_has = element_has C low p s h l.receiver place

      abbrev past_all : LoopState
      past_all = record l { index = pos 0; aside = true; visited = Nil }

      abbrev visiting : LoopState
      visiting = record l { visited = here }

      within : (v w : Visit) → Visits s v → Visits s w → Visits s (if is_within p s l then v else w)
      within v w g i = if_visits (is_within p s l) v w g i

      -- the block applied to the element, to the element that is kept, or `=`
      each : (v : Visit) → Visits s v → Visits s (if is_within p s l then Applies l (first l.arguments) (here ∷ []) else v)
      each v g = within (Applies l (first l.arguments) (here ∷ [])) v (applies l (first l.arguments) (here ∷ []) has (first_has C low k l.arguments has.1) (here_has, tt)) g

      each_kept : (v : Visit) → Visits s v → Visits s (if is_within p s l then Applies visiting (first l.arguments) (here ∷ []) else v)
      each_kept v g = within (Applies visiting (first l.arguments) (here ∷ [])) v (applies visiting (first l.arguments) (here ∷ []) (has.0, has.1, has.2, here_has) (first_has C low k l.arguments has.1) (here_has, tt)) g

      each_equal : (v : Visit) → Visits s v → Visits s (if is_within p s l then Compares l (first l.arguments) here else v)
      each_equal v g = within (Compares l (first l.arguments) here) v (compares l (first l.arguments) here has (first_has C low k l.arguments has.1) here_has) g

      each_key : (v : Visit) → Visits s v → Visits s (if is_within p s l then Compares l (first l.arguments) (key s l.receiver place) else v)
      each_key v g = within (Compares l (first l.arguments) (key s l.receiver place)) v (compares l (first l.arguments) (key s l.receiver place) has (first_has C low k l.arguments has.1) (key_has l.receiver place)) g

      none_block : Visits s (Applies past_all (second l.arguments) [])
      none_block = applies past_all (second l.arguments) [] (has.0, has.1, has.2, tt) (second_has C low k l.arguments has.1) tt

      none_found : Visits s (Lacks past_all)
      none_found = lacks past_all (has.0, has.1, has.2, tt)

      receiver_ends : Visits s (Finishes l.receiver)
      receiver_ends = finishes l.receiver has.0

      made_ends : Visits s (Finishes l.made)
      made_ends = finishes l.made has.2

      false_ends : Visits s (Finishes False)
      false_ends = finishes False tt

      true_ends : Visits s (Finishes True)
      true_ends = finishes True tt

      -- the items of the collection made as a new object
      abbrev turned_into : ℕ → Visit
      turned_into class =
          if nat_eq class string_class
          then Charges (object_charge 0 (length (slots_of s l.made))) (with_new string_class [] (map byte_of (slots_of s l.made)) s) (Finishes (next_object s))
          else Charges (1 + length (slots_of s l.made)) (with_new class (slots_of s l.made) [] s) (Finishes (next_object s))

      turned_has : (class : ℕ) → Visits s (turned_into class)
      turned_has class =
          if_visits (nat_eq class string_class) (Charges (object_charge 0 (length (slots_of s l.made))) (with_new string_class [] (map byte_of (slots_of s l.made)) s) (Finishes (next_object s))) (Charges (1 + length (slots_of s l.made)) (with_new class (slots_of s l.made) [] s) (Finishes (next_object s)))
          record { gets = (grown_new C low s h string_class [] (map byte_of (slots_of s l.made)) tt, next_new C low s h string_class [] (map byte_of (slots_of s l.made))) }
          record { gets = (grown_new C low s h class (slots_of s l.made) [] (slots_have C low p s h l.made), next_new C low s h class (slots_of s l.made) []) }

      abbrev keeps_made : Bool
      keeps_made = is_a s ordered_collection_class l.receiver || is_a s set_class l.receiver || is_a s dictionary_class l.receiver

      abbrev kept_or_array : Visit
      kept_or_array = if keeps_made then Finishes l.made else turned_into array_class

      kept_has : Visits s kept_or_array
      kept_has = if_visits keeps_made (Finishes l.made) (turned_into array_class) made_ends (turned_has array_class)

      abbrev set_or_kept : Visit
      set_or_kept = if is_a s set_class l.receiver then turned_into set_class else kept_or_array

      selected_has : Visits s (if nat_eq (species s l.receiver) string_class then turned_into string_class else set_or_kept)
      selected_has =
          if_visits (nat_eq (species s l.receiver) string_class) (turned_into string_class) set_or_kept (turned_has string_class)
          (if_visits (is_a s set_class l.receiver) (turned_into set_class) kept_or_array (turned_has set_class) kept_has)

      -- a value at the end of a collection, and then the rest
      abbrev appended : Value → List Value → (Store → Visit) → Visit
      appended (Object number) slots rest = Charges (with_elements s number slots).cells (with_elements s number slots).store (rest (with_elements s number slots).store)
      appended made slots rest = rest s

      appended_has : (v : Value) (slots : List Value) (rest : Store → Visit) → AllHave C k slots → ((t : Store) → Grown C s t → Visits t (rest t)) → Visits s (appended v slots rest)
      appended_has (Object number) slots rest g on = let e = elements_grown C low p s h number slots g in record { gets = (e, (on (with_elements s number slots).store e).gets) }
      appended_has Nil slots rest g on = on s (grown_itself C low s h)
      appended_has True slots rest g on = on s (grown_itself C low s h)
      appended_has False slots rest g on = on s (grown_itself C low s h)
      appended_has (Integer n) slots rest g on = on s (grown_itself C low s h)
      appended_has (Character c) slots rest g on = on s (grown_itself C low s h)
      appended_has (Symbol n) slots rest g on = on s (grown_itself C low s h)
      appended_has (Class c) slots rest g on = on s (grown_itself C low s h)
      appended_has (Meta c) slots rest g on = on s (grown_itself C low s h)
      appended_has Transcript slots rest g on = on s (grown_itself C low s h)

      ends_later : (v : Value) → Has C k v → (t : Store) → Grown C s t → Visits t (Finishes v)
      ends_later v g t e = record { gets = has_later C low k (length t.objects) e.more v g }

      pair_has : (a b v : Value) → Has C k a → Has C k b → Has C k v → Visits s (appended l.receiver (slots_of s l.receiver ++ a ∷ b ∷ []) (λ t. Finishes v))
      pair_has a b v g i j = appended_has l.receiver (slots_of s l.receiver ++ a ∷ b ∷ []) (λ t. Finishes v) (append_has C low k (slots_of s l.receiver) (a ∷ b ∷ []) (slots_have C low p s h l.receiver) (g, (i, tt))) (ends_later v j)

      abbrev key_or_index : Value
      key_or_index = if is_a s dictionary_class l.receiver then key s l.receiver place else Integer l.index

      key_or_index_has : Has C k key_or_index
      key_or_index_has = value_either (is_a s dictionary_class l.receiver) (key s l.receiver place) (Integer l.index) (key_has l.receiver place) tt

      -- ---- the visit at the loop's index, or the end

      abbrev block_of : LoopMessage → List Value → Value
      block_of LoopMessage.ToByDo args = third args
      block_of m args = second args

      block_of_has : (m : LoopMessage) (args : List Value) → AllHave C k args → Has C k (block_of m args)
      block_of_has LoopMessage.ToByDo args g = third_has C low k args g
      block_of_has m args g = second_has C low k args g

      counts : (b : Bool) → Visits s (if b then Finishes l.receiver else Applies l (block_of l.message l.arguments) (Integer l.index ∷ []))
      counts b = if_visits b (Finishes l.receiver) (Applies l (block_of l.message l.arguments) (Integer l.index ∷ [])) receiver_ends (applies l (block_of l.message l.arguments) (Integer l.index ∷ []) has (block_of_has l.message l.arguments has.1) (tt, tt))

      separates : Visits s (if nat_le 2 place && not l.aside then Applies (record l { aside = true }) (second l.arguments) [] else Applies (record l { aside = false }) (first l.arguments) (here ∷ []))
      separates =
          if_visits (nat_le 2 place && not l.aside) (Applies (record l { aside = true }) (second l.arguments) []) (Applies (record l { aside = false }) (first l.arguments) (here ∷ []))
          (applies (record l { aside = true }) (second l.arguments) [] (has.0, has.1, has.2, has.3) (second_has C low k l.arguments has.1) tt)
          (applies (record l { aside = false }) (first l.arguments) (here ∷ []) (has.0, has.1, has.2, has.3) (first_has C low k l.arguments has.1) (here_has, tt))

      abbrev left : Value
      left = get_or (slots_of s l.receiver) (place - 1) Nil

      abbrev right : Value
      right = get_or (slots_of s (first l.arguments)) (place - 1) Nil

      compares_elements : Visits s (if nat_le place (length (slots_of s (first l.arguments))) then Compares l left right else Finishes False)
      compares_elements =
          if_visits (nat_le place (length (slots_of s (first l.arguments)))) (Compares l left right) (Finishes False)
          (compares l left right has (get_has C low k (slots_of s l.receiver) (place - 1) (slots_have C low p s h l.receiver)) (get_has C low k (slots_of s (first l.arguments)) (place - 1) (slots_have C low p s h (first l.arguments)))) false_ends

      pub visit_has : (m : LoopMessage) → Visits s (visit_at p s m l)
      unfolding visit_at
      visit_has LoopMessage.WhileTrue = applies l l.receiver [] has has.0 tt
      visit_has LoopMessage.WhileFalse = applies l l.receiver [] has has.0 tt
      visit_has LoopMessage.TimesRepeat = if_visits (int_le l.index (integer_of l.receiver)) (Applies l (first l.arguments) []) (Finishes l.receiver) (applies l (first l.arguments) [] has (first_has C low k l.arguments has.1) tt) receiver_ends
      visit_has LoopMessage.ToDo = counts _
      visit_has LoopMessage.ToByDo = counts _
      visit_has LoopMessage.Do = each (Finishes l.receiver) receiver_ends
      visit_has LoopMessage.DoSeparatedBy = within _ (Finishes l.receiver) separates receiver_ends
      visit_has LoopMessage.ReverseDo = each (Finishes l.receiver) receiver_ends
      visit_has LoopMessage.KeysAndValuesDo = within (Applies l (first l.arguments) (key_or_index ∷ here ∷ [])) (Finishes l.receiver) (applies l (first l.arguments) (key_or_index ∷ here ∷ []) has (first_has C low k l.arguments has.1) (key_or_index_has, (here_has, tt))) receiver_ends
      visit_has LoopMessage.KeysDo = within (Applies l (first l.arguments) (key_or_index ∷ [])) (Finishes l.receiver) (applies l (first l.arguments) (key_or_index ∷ []) has (first_has C low k l.arguments has.1) (key_or_index_has, tt)) receiver_ends
      visit_has LoopMessage.InjectInto = within (Applies l (second l.arguments) (l.made ∷ here ∷ [])) (Finishes l.made) (applies l (second l.arguments) (l.made ∷ here ∷ []) has (second_has C low k l.arguments has.1) (has.2, (here_has, tt))) made_ends
      visit_has LoopMessage.Detect = each_kept (Lacks past_all) none_found
      visit_has LoopMessage.DetectIfNone = each_kept (Applies past_all (second l.arguments) []) none_block
      visit_has LoopMessage.AnySatisfy = each (Finishes False) false_ends
      visit_has LoopMessage.AllSatisfy = each (Finishes True) true_ends
      visit_has LoopMessage.Collect = each kept_or_array kept_has
      visit_has LoopMessage.Select = each_kept (if nat_eq (species s l.receiver) string_class then turned_into string_class else set_or_kept) selected_has
      visit_has LoopMessage.Reject = each_kept (if nat_eq (species s l.receiver) string_class then turned_into string_class else set_or_kept) selected_has
      visit_has LoopMessage.Includes = each_equal (Finishes False) false_ends
      visit_has LoopMessage.OccurrencesOf = each_equal (Finishes l.made) made_ends
      visit_has LoopMessage.IndexOf = each_equal (Finishes (Integer (pos 0))) (finishes (Integer (pos 0)) tt)
      visit_has LoopMessage.AddToSet =
          each_equal (appended l.receiver (slots_of s l.receiver ++ first l.arguments ∷ []) (λ t. Finishes (first l.arguments)))
          (appended_has l.receiver (slots_of s l.receiver ++ first l.arguments ∷ []) (λ t. Finishes (first l.arguments)) (append_has C low k (slots_of s l.receiver) (first l.arguments ∷ []) (slots_have C low p s h l.receiver) (first_has C low k l.arguments has.1, tt)) (ends_later (first l.arguments) (first_has C low k l.arguments has.1)))
      visit_has LoopMessage.Remove = each_equal (Lacks past_all) none_found
      visit_has LoopMessage.RemoveIfAbsent = each_equal (Applies past_all (second l.arguments) []) none_block
      visit_has LoopMessage.At = each_key (Lacks past_all) none_found
      visit_has LoopMessage.AtIfAbsent = each_key (Applies past_all (second l.arguments) []) none_block
      visit_has LoopMessage.AtPut = each_key (appended l.receiver (slots_of s l.receiver ++ first l.arguments ∷ second l.arguments ∷ []) (λ t. Finishes (second l.arguments))) (pair_has (first l.arguments) (second l.arguments) (second l.arguments) (first_has C low k l.arguments has.1) (second_has C low k l.arguments has.1) (second_has C low k l.arguments has.1))
      visit_has LoopMessage.AtIfAbsentPut = each_key (Applies past_all (second l.arguments) []) none_block
      visit_has LoopMessage.IncludesKey = each_key (Finishes False) false_ends
      visit_has LoopMessage.RemoveKey = each_key (Lacks past_all) none_found
      visit_has LoopMessage.RemoveKeyIfAbsent = each_key (Applies past_all (second l.arguments) []) none_block
      visit_has LoopMessage.EqualElements = within _ (Finishes True) compares_elements true_ends
      visit_has LoopMessage.NotEqual = compares l l.receiver (first l.arguments) has has.0 (first_has C low k l.arguments has.1)

  -- ---- what a value brings

  module _ (p : Program) (s : Store) (h : ObjectsHave C (length s.objects) s.objects) (l : LoopState) (has : LoopHas C (length s.objects) l) (v : Value) (given : Has C (length s.objects) v) where
    abbrev n : ℕ
    n = length s.objects

    abbrev index : ℕ
    index = natural_of l.index

    abbrev further : LoopState
    further = record l { index = l.index +ℤ pos 1; aside = false; visited = Nil }

    -- the next visit, in this store or in one that grew
    next : Visits s (visit_at p s l.message further)
    next = visit_has p s h further (has.0, has.1, has.2, tt) l.message

    next_in : (m : LoopMessage) (t : Store) → Grown C s t → Visits t (visit_at p t m further)
    next_in m t e = let x = loop_later C low n (length t.objects) e.more l has in visit_has p t e.objects further (x.0, x.1, x.2, tt) m

    -- a loop that goes on at another index, or with another value made
    elsewhere : (i : ℤ) → Visits s (visit_at p s l.message (record l { index = i; aside = false; visited = Nil }))
    elsewhere i = visit_has p s h (record l { index = i; aside = false; visited = Nil }) (has.0, has.1, has.2, tt) l.message

    made_next : (w : Value) → Has C n w → Visits s (visit_at p s l.message (record further { made = w }))
    made_next w g = visit_has p s h (record further { made = w }) (has.0, has.1, g, tt) l.message

    abbrev while_argument : List Value → Visit
    while_argument [] = Applies l l.receiver []
    while_argument (block ∷ args) = Applies (record l { aside = true }) block []

    argument_has : (args : List Value) → AllHave C n args → Visits s (while_argument args)
    argument_has [] g = record { gets = (has, has.0, tt) }
    argument_has (block ∷ args) g = record { gets = (has, g.0, tt) }

    while_has : (b : Bool) → Visits s (if l.aside then Applies (record l { aside = false }) l.receiver [] else (if b then while_argument l.arguments else Finishes Nil))
    while_has b =
        if_visits p s h l.aside (Applies (record l { aside = false }) l.receiver []) (if b then while_argument l.arguments else Finishes Nil) record { gets = (has, has.0, tt) }
        (if_visits p s h b (while_argument l.arguments) (Finishes Nil) (argument_has l.arguments has.1) record { gets = tt })

    ends : (w : Value) → Has C n w → Visits s (Finishes w)
    ends w g = record { gets = g }

    answered : (w : Visit) → Visits s w → Visits s (if l.aside then Finishes v else w)
    answered w g = if_visits p s h l.aside (Finishes v) w (ends v given) g

    abbrev match_or_next : Visit → Visit
    match_or_next found = if is_true v && is_within p s l then found else visit_at p s l.message further

    matched : (found : Visit) → Visits s found → Visits s (match_or_next found)
    matched found g = if_visits p s h (is_true v && is_within p s l) found (visit_at p s l.message further) g next

    found_or_next : (u : Value) → Has C n u → Visits s (if is_true v then Finishes u else visit_at p s l.message further)
    found_or_next u g = if_visits p s h (is_true v) (Finishes u) (visit_at p s l.message further) (ends u g) next

    abbrev value_at : Value
    value_at = get_or (slots_of s l.receiver) (2 * index - 1) Nil

    value_at_has : Has C n value_at
    value_at_has = get_has C low n (slots_of s l.receiver) (2 * index - 1) (slots_have C low p s h l.receiver)

    -- the element, and then the next visit in the grown store
    abbrev added : Value → Visit
    added w = appended p s h l has l.made (slots_of s l.made ++ w ∷ []) (λ t. visit_at p t l.message further)

    added_has : (w : Value) → Has C n w → Visits s (added w)
    added_has w g = appended_has p s h l has l.made (slots_of s l.made ++ w ∷ []) (λ t. visit_at p t l.message further) (append_has C low n (slots_of s l.made) (w ∷ []) (slots_have C low p s h l.made) (g, tt)) (λ t e. next_in l.message t e)

    -- an element, and a pair, is taken out
    abbrev without : Store → Value → ℕ → Store
    without t (Object m) i = without_element t m i
    without t u i = t

    without_has : (t : Store) (o : ObjectsHave C (length t.objects) t.objects) (u : Value) (i : ℕ) → Grown C t (without t u i)
    without_has t o (Object m) i = element_removed C low p t o m i
    without_has t o Nil i = grown_itself C low t o
    without_has t o True i = grown_itself C low t o
    without_has t o False i = grown_itself C low t o
    without_has t o (Integer m) i = grown_itself C low t o
    without_has t o (Character c) i = grown_itself C low t o
    without_has t o (Symbol m) i = grown_itself C low t o
    without_has t o (Class c) i = grown_itself C low t o
    without_has t o (Meta c) i = grown_itself C low t o
    without_has t o Transcript i = grown_itself C low t o

    abbrev removed : Visit
    removed = Charges 0 (without s l.receiver (index - 1)) (Finishes (element p s l.receiver index))

    removed_has : Visits s removed
    removed_has = let e = without_has s h l.receiver (index - 1) in record { gets = (e, has_later C low n (length (without s l.receiver (index - 1)).objects) e.more (element p s l.receiver index) (element_has C low p s h l.receiver index)) }

    abbrev one_out : Store
    one_out = without s l.receiver (2 * index - 1)

    abbrev pair_removed : Visit
    pair_removed = Charges 0 (without one_out l.receiver (2 * index - 2)) (Finishes value_at)

    pair_removed_has : Visits s pair_removed
    pair_removed_has =
        let a = without_has s h l.receiver (2 * index - 1) in
        let b = without_has one_out a.objects l.receiver (2 * index - 2) in
        let e = grown_on C low s one_out (without one_out l.receiver (2 * index - 2)) a b in
        record { gets = (e, has_later C low n (length (without one_out l.receiver (2 * index - 2)).objects) e.more value_at value_at_has) }

    abbrev value_set : Value → Value → Store
    value_set w (Object m) = with_slot m (2 * index - 1) w s
    value_set w u = s

    value_set_has : (w u : Value) → Has C n w → Grown C s (value_set w u)
    value_set_has w (Object m) g = grown_slot C low s h m (2 * index - 1) w g
    value_set_has w Nil g = grown_itself C low s h
    value_set_has w True g = grown_itself C low s h
    value_set_has w False g = grown_itself C low s h
    value_set_has w (Integer m) g = grown_itself C low s h
    value_set_has w (Character c) g = grown_itself C low s h
    value_set_has w (Symbol m) g = grown_itself C low s h
    value_set_has w (Class c) g = grown_itself C low s h
    value_set_has w (Meta c) g = grown_itself C low s h
    value_set_has w Transcript g = grown_itself C low s h

    put_has : (w : Value) → Has C n w → Visits s (Charges 0 (value_set w l.receiver) (Finishes w))
    put_has w g = let e = value_set_has w l.receiver g in record { gets = (e, has_later C low n (length (value_set w l.receiver).objects) e.more w g) }

    abbrev pair_put : Visit
    pair_put = appended p s h l has l.receiver (slots_of s l.receiver ++ first l.arguments ∷ v ∷ []) (λ t. Finishes v)

    pub given_has : (m : LoopMessage) → l.message ≡ m → Visits s (given_at p s m l v)
    unfolding given_at
    given_has LoopMessage.WhileTrue e = while_has (same_value v True)
    given_has LoopMessage.WhileFalse e = while_has (same_value v False)
    given_has LoopMessage.ToDo e = counts p s h (record l { index = _; aside = false; visited = Nil }) (has.0, has.1, has.2, tt) _
    given_has LoopMessage.ToByDo e = counts p s h (record l { index = _; aside = false; visited = Nil }) (has.0, has.1, has.2, tt) _
    given_has LoopMessage.DoSeparatedBy e = if_visits p s h l.aside (visit_at p s l.message l) (visit_at p s l.message further) (visit_has p s h l has l.message) next
    given_has LoopMessage.ReverseDo e = elsewhere _
    given_has LoopMessage.InjectInto e = made_next v given
    given_has LoopMessage.Detect e = answered (if is_true v then Finishes l.visited else visit_at p s l.message further) (found_or_next l.visited has.3)
    given_has LoopMessage.DetectIfNone e = answered (if is_true v then Finishes l.visited else visit_at p s l.message further) (found_or_next l.visited has.3)
    given_has LoopMessage.AnySatisfy e = found_or_next True tt
    given_has LoopMessage.AllSatisfy e = if_visits p s h (is_true v) (visit_at p s l.message further) (Finishes False) next (ends False tt)
    given_has LoopMessage.Collect e = added_has v given
    given_has LoopMessage.Select e = if_visits p s h (is_true v) (added l.visited) (visit_at p s l.message further) (added_has l.visited has.3) next
    given_has LoopMessage.Reject e = if_visits p s h (is_true v) (visit_at p s l.message further) (added l.visited) next (added_has l.visited has.3)
    given_has LoopMessage.Includes e = matched (Finishes True) (ends True tt)
    given_has LoopMessage.OccurrencesOf e = matched (visit_at p s l.message (record further { made = Integer (integer_of l.made +ℤ pos 1) })) (made_next (Integer (integer_of l.made +ℤ pos 1)) tt)
    given_has LoopMessage.IndexOf e = matched (Finishes (Integer l.index)) (ends (Integer l.index) tt)
    given_has LoopMessage.AddToSet e = matched (Finishes (first l.arguments)) (ends (first l.arguments) (first_has C low n l.arguments has.1))
    given_has LoopMessage.Remove e = answered (match_or_next removed) (matched removed removed_has)
    given_has LoopMessage.RemoveIfAbsent e = answered (match_or_next removed) (matched removed removed_has)
    given_has LoopMessage.At e = answered (match_or_next (Finishes value_at)) (matched (Finishes value_at) (ends value_at value_at_has))
    given_has LoopMessage.AtIfAbsent e = answered (match_or_next (Finishes value_at)) (matched (Finishes value_at) (ends value_at value_at_has))
    given_has LoopMessage.AtPut e =
        let put = Charges 0 (value_set (second l.arguments) l.receiver) (Finishes (second l.arguments)) in
        matched put (put_has (second l.arguments) (second_has C low n l.arguments has.1))
    given_has LoopMessage.AtIfAbsentPut e =
        if_visits p s h l.aside (if l.aside then pair_put else Finishes v) (match_or_next (Finishes value_at))
        (if_visits p s h l.aside pair_put (Finishes v) (pair_has p s h l has (first l.arguments) v v (first_has C low n l.arguments has.1) given given) (ends v given))
        (matched (Finishes value_at) (ends value_at value_at_has))
    given_has LoopMessage.IncludesKey e = matched (Finishes True) (ends True tt)
    given_has LoopMessage.RemoveKey e = answered (match_or_next pair_removed) (matched pair_removed pair_removed_has)
    given_has LoopMessage.RemoveKeyIfAbsent e = answered (match_or_next pair_removed) (matched pair_removed pair_removed_has)
    given_has LoopMessage.EqualElements e = if_visits p s h (is_true v) (visit_at p s l.message further) (Finishes False) next (ends False tt)
    given_has LoopMessage.NotEqual e = ends (boolean (not (is_true v))) (boolean_has C low n (not (is_true v)))
    given_has m e = next

    pub next_visit_has : Visits s (next_visit p s l v)
    unfolding next_visit
    next_visit_has = given_has l.message refl

  -- ---- the first visit

  module _ (p : Program) (s : Store) (h : ObjectsHave C (length s.objects) s.objects) (l : LoopState) (has : LoopHas C (length s.objects) l) where
    abbrev made_store : Store
    made_store = with_new ordered_collection_class [] [] s

    with_made_has : Visits s (Charges 1 made_store (visit_at p made_store l.message (record l { made = next_object s })))
    with_made_has =
        let e = grown_new C low s h ordered_collection_class [] [] tt in
        let x = loop_later C low (length s.objects) (length made_store.objects) e.more l has in
        record { gets = (e, (visit_has p made_store e.objects (record l { made = next_object s }) (x.0, x.1, next_new C low s h ordered_collection_class [] [], x.3) l.message).gets) }

    first_of_has : (m : LoopMessage) → Visits s (first_of_message p s m l)
    unfolding first_of_message
    first_of_has LoopMessage.Collect = with_made_has
    first_of_has LoopMessage.Select = with_made_has
    first_of_has LoopMessage.Reject = with_made_has
    first_of_has LoopMessage.EqualElements = if_visits p s h _ (visit_at p s l.message l) (Finishes False) (visit_has p s h l has l.message) record { gets = tt }
    first_of_has m = visit_has p s h l has l.message

    pub first_visit_has : Visits s (first_visit p s l)
    unfolding first_visit
    first_visit_has = first_of_has l.message
