-- The visits of a loop leave each object its slots: only loops that take elements out make one shorter.
use Rattle.std.proofs.Common.{◌≡◌, ℕ, ◌+◌, ◌-◌, ◌*◌, ◌≤◌, ℤ, pos, ◌+ℤ◌, nat_eq, nat_le, int_le, length, get_or, map, List, [], ◌∷◌, ◌++◌, Bool, true, false, not, ◌&&◌, ◌||◌, refl, sym, subst, arith, if◌then◌else◌}
use Rattle.std.proofs.lemmas.List.{length-append}
use Rattle.object_heap.specs.declared.value.Value.{Value}
use Rattle.object_heap.specs.declared.value.Value.TheVariants.{Nil, True, False, Integer, Object}
use Rattle.object_heap.specs.Store.{Store, object_at, with_slot}
use Rattle.object_heap.specs.Charges.{object_charge}
use Rattle.st_code.specs.Program.{Program}
use Rattle.st_code.specs.BuiltIns.{string_class, array_class, set_class, dictionary_class, ordered_collection_class, exception_set_class}
use Rattle.st_code.specs.Messages.{LoopMessage}
use Rattle.st_collections.specs.Actions.{LoopState, Visit, Applies, Compares, Finishes, Lacks, Charges, first, second, third, boolean, next_object, with_new}
use Rattle.st_collections.specs.Kinds.{same_value, is_true, is_a, slots_of, element, key, integer_of, natural_of, species}
use Rattle.st_collections.specs.TextRows.{byte_of}
use Rattle.st_collections.specs.SequenceRows.{with_elements, without_element}
use Rattle.st_collections.specs.Loops.{is_within, visit_at, given_at, next_visit, first_of_message, first_visit}
use Rattle.st_rules.proofs.ValuesHave.{set_class as class_kept}
use Rattle.st_variables.specs.Known.{InFile, AllFull, KnowsVariables}
use Rattle.st_variables.proofs.Wholes.{NoObject, MessageKeeps, LoopKeeps, VisitKeeps, built_full, slot_full, elements_full, removed_full}

pub record Visits (p : Program) (s : Store) (v : Visit) : Type 0 where
  pub keeps : VisitKeeps p s v

longer : (vs ws : List Value) → length vs ≤ length (vs ++ ws)
longer vs ws = let e = length-append vs ws in omega (arith, e)

module _ (p : Program) (known : KnowsVariables p) (s : Store) (h : AllFull p s.objects) where
  finishes : (v : Value) → Visits p s (Finishes v)
  finishes v = record { keeps = tt }

  if_visits : (b : Bool) (v w : Visit) → Visits p s v → Visits p s w → Visits p s (if b then v else w)
  if_visits true v w g i = g
  if_visits false v w g i = i

  -- ---- parts of a loop

  module _ (l : LoopState) (has : LoopKeeps p s l) where
    abbrev place : ℕ
    place = natural_of l.index

    abbrev here : Value
    here = element p s l.receiver place

    abbrev past_all : LoopState
    past_all = record l { index = pos 0; aside = true; visited = Nil }

    abbrev visiting : LoopState
    visiting = record l { visited = here }

    within : (v w : Visit) → Visits p s v → Visits p s w → Visits p s (if is_within p s l then v else w)
    within v w g i = if_visits (is_within p s l) v w g i

    -- the block applied to the element, to the element that is kept, or `=`
    each : (v : Visit) → Visits p s v → Visits p s (if is_within p s l then Applies l (first l.arguments) (here ∷ []) else v)
    each v g = within (Applies l (first l.arguments) (here ∷ [])) v record { keeps = has } g

    each_kept : (v : Visit) → Visits p s v → Visits p s (if is_within p s l then Applies visiting (first l.arguments) (here ∷ []) else v)
    each_kept v g = within (Applies visiting (first l.arguments) (here ∷ [])) v record { keeps = has } g

    each_equal : (v : Visit) → Visits p s v → Visits p s (if is_within p s l then Compares l (first l.arguments) here else v)
    each_equal v g = within (Compares l (first l.arguments) here) v record { keeps = has } g

    each_key : (v : Visit) → Visits p s v → Visits p s (if is_within p s l then Compares l (first l.arguments) (key s l.receiver place) else v)
    each_key v g = within (Compares l (first l.arguments) (key s l.receiver place)) v record { keeps = has } g

    none_block : Visits p s (Applies past_all (second l.arguments) [])
    none_block = record { keeps = has }

    none_found : Visits p s (Lacks past_all)
    none_found = record { keeps = has }

    -- the items of the collection made as a new object
    abbrev turned_into : ℕ → Visit
    turned_into class =
        if nat_eq class string_class
        then Charges (object_charge 0 (length (slots_of s l.made))) (with_new string_class [] (map byte_of (slots_of s l.made)) s) (Finishes (next_object s))
        else Charges (1 + length (slots_of s l.made)) (with_new class (slots_of s l.made) [] s) (Finishes (next_object s))

    turned_keeps : (class : ℕ) → class ≤ exception_set_class → Visits p s (turned_into class)
    turned_keeps class b =
        if_visits (nat_eq class string_class) (Charges (object_charge 0 (length (slots_of s l.made))) (with_new string_class [] (map byte_of (slots_of s l.made)) s) (Finishes (next_object s))) (Charges (1 + length (slots_of s l.made)) (with_new class (slots_of s l.made) [] s) (Finishes (next_object s)))
        record { keeps = (built_full p known string_class [] (map byte_of (slots_of s l.made)) s h (omega arith), tt) }
        record { keeps = (built_full p known class (slots_of s l.made) [] s h b, tt) }

    abbrev keeps_made : Bool
    keeps_made = is_a s ordered_collection_class l.receiver || is_a s set_class l.receiver || is_a s dictionary_class l.receiver

    abbrev kept_or_array : Visit
    kept_or_array = if keeps_made then Finishes l.made else turned_into array_class

    kept_keeps : Visits p s kept_or_array
    kept_keeps = if_visits keeps_made (Finishes l.made) (turned_into array_class) (finishes l.made) (turned_keeps array_class (omega arith))

    abbrev set_or_kept : Visit
    set_or_kept = if is_a s set_class l.receiver then turned_into set_class else kept_or_array

    selected_keeps : Visits p s (if nat_eq (species s l.receiver) string_class then turned_into string_class else set_or_kept)
    selected_keeps =
        if_visits (nat_eq (species s l.receiver) string_class) (turned_into string_class) set_or_kept (turned_keeps string_class (omega arith))
        (if_visits (is_a s set_class l.receiver) (turned_into set_class) kept_or_array (turned_keeps set_class (omega arith)) kept_keeps)

    -- a value at the end of a collection, and then the rest
    abbrev appended : Value → List Value → (Store → Visit) → Visit
    appended (Object number) slots rest = Charges (with_elements s number slots).cells (with_elements s number slots).store (rest (with_elements s number slots).store)
    appended made slots rest = rest s

    appended_keeps : (v : Value) (more : List Value) (rest : Store → Visit) → ((t : Store) → AllFull p t.objects → Visits p t (rest t)) → Visits p s (appended v (slots_of s v ++ more) rest)
    unfolding slots_of
    appended_keeps (Object number) more rest on =
        let f = elements_full p known number ((object_at number s).slots ++ more) s h (longer (object_at number s).slots more) in
        record { keeps = (f, (on (with_elements s number ((object_at number s).slots ++ more)).store f).keeps) }
    appended_keeps v more rest on = on s h

    ends_later : (v : Value) (t : Store) → AllFull p t.objects → Visits p t (Finishes v)
    ends_later v t f = record { keeps = tt }

    pair_keeps : (a b v : Value) → Visits p s (appended l.receiver (slots_of s l.receiver ++ a ∷ b ∷ []) (λ t. Finishes v))
    pair_keeps a b v = appended_keeps l.receiver (a ∷ b ∷ []) (λ t. Finishes v) (ends_later v)

    abbrev key_or_index : Value
    key_or_index = if is_a s dictionary_class l.receiver then key s l.receiver place else Integer l.index

    -- ---- the visit at the loop's index, or the end

    abbrev block_of : LoopMessage → List Value → Value
    block_of LoopMessage.ToByDo args = third args
    block_of m args = second args

    counts : (b : Bool) → Visits p s (if b then Finishes l.receiver else Applies l (block_of l.message l.arguments) (Integer l.index ∷ []))
    counts b = if_visits b (Finishes l.receiver) (Applies l (block_of l.message l.arguments) (Integer l.index ∷ [])) (finishes l.receiver) record { keeps = has }

    separates : Visits p s (if nat_le 2 place && not l.aside then Applies (record l { aside = true }) (second l.arguments) [] else Applies (record l { aside = false }) (first l.arguments) (here ∷ []))
    separates = if_visits (nat_le 2 place && not l.aside) (Applies (record l { aside = true }) (second l.arguments) []) (Applies (record l { aside = false }) (first l.arguments) (here ∷ [])) record { keeps = has } record { keeps = has }

    abbrev left : Value
    left = get_or (slots_of s l.receiver) (place - 1) Nil

    abbrev right : Value
    right = get_or (slots_of s (first l.arguments)) (place - 1) Nil

    compares_elements : Visits p s (if nat_le place (length (slots_of s (first l.arguments))) then Compares l left right else Finishes False)
    compares_elements = if_visits (nat_le place (length (slots_of s (first l.arguments)))) (Compares l left right) (Finishes False) record { keeps = has } (finishes False)

    visit_keeps : (m : LoopMessage) → Visits p s (visit_at p s m l)
    unfolding visit_at
    visit_keeps LoopMessage.WhileTrue = record { keeps = has }
    visit_keeps LoopMessage.WhileFalse = record { keeps = has }
    visit_keeps LoopMessage.TimesRepeat = if_visits (int_le l.index (integer_of l.receiver)) (Applies l (first l.arguments) []) (Finishes l.receiver) record { keeps = has } (finishes l.receiver)
    visit_keeps LoopMessage.ToDo = counts _
    visit_keeps LoopMessage.ToByDo = counts _
    visit_keeps LoopMessage.Do = each (Finishes l.receiver) (finishes l.receiver)
    visit_keeps LoopMessage.DoSeparatedBy = within _ (Finishes l.receiver) separates (finishes l.receiver)
    visit_keeps LoopMessage.ReverseDo = each (Finishes l.receiver) (finishes l.receiver)
    visit_keeps LoopMessage.KeysAndValuesDo = within (Applies l (first l.arguments) (key_or_index ∷ here ∷ [])) (Finishes l.receiver) record { keeps = has } (finishes l.receiver)
    visit_keeps LoopMessage.KeysDo = within (Applies l (first l.arguments) (key_or_index ∷ [])) (Finishes l.receiver) record { keeps = has } (finishes l.receiver)
    visit_keeps LoopMessage.InjectInto = within (Applies l (second l.arguments) (l.made ∷ here ∷ [])) (Finishes l.made) record { keeps = has } (finishes l.made)
    visit_keeps LoopMessage.Detect = each_kept (Lacks past_all) none_found
    visit_keeps LoopMessage.DetectIfNone = each_kept (Applies past_all (second l.arguments) []) none_block
    visit_keeps LoopMessage.AnySatisfy = each (Finishes False) (finishes False)
    visit_keeps LoopMessage.AllSatisfy = each (Finishes True) (finishes True)
    visit_keeps LoopMessage.Collect = each kept_or_array kept_keeps
    visit_keeps LoopMessage.Select = each_kept (if nat_eq (species s l.receiver) string_class then turned_into string_class else set_or_kept) selected_keeps
    visit_keeps LoopMessage.Reject = each_kept (if nat_eq (species s l.receiver) string_class then turned_into string_class else set_or_kept) selected_keeps
    visit_keeps LoopMessage.Includes = each_equal (Finishes False) (finishes False)
    visit_keeps LoopMessage.OccurrencesOf = each_equal (Finishes l.made) (finishes l.made)
    visit_keeps LoopMessage.IndexOf = each_equal (Finishes (Integer (pos 0))) (finishes (Integer (pos 0)))
    visit_keeps LoopMessage.AddToSet =
        each_equal (appended l.receiver (slots_of s l.receiver ++ first l.arguments ∷ []) (λ t. Finishes (first l.arguments)))
        (appended_keeps l.receiver (first l.arguments ∷ []) (λ t. Finishes (first l.arguments)) (ends_later (first l.arguments)))
    visit_keeps LoopMessage.Remove = each_equal (Lacks past_all) none_found
    visit_keeps LoopMessage.RemoveIfAbsent = each_equal (Applies past_all (second l.arguments) []) none_block
    visit_keeps LoopMessage.At = each_key (Lacks past_all) none_found
    visit_keeps LoopMessage.AtIfAbsent = each_key (Applies past_all (second l.arguments) []) none_block
    visit_keeps LoopMessage.AtPut = each_key (appended l.receiver (slots_of s l.receiver ++ first l.arguments ∷ second l.arguments ∷ []) (λ t. Finishes (second l.arguments))) (pair_keeps (first l.arguments) (second l.arguments) (second l.arguments))
    visit_keeps LoopMessage.AtIfAbsentPut = each_key (Applies past_all (second l.arguments) []) none_block
    visit_keeps LoopMessage.IncludesKey = each_key (Finishes False) (finishes False)
    visit_keeps LoopMessage.RemoveKey = each_key (Lacks past_all) none_found
    visit_keeps LoopMessage.RemoveKeyIfAbsent = each_key (Applies past_all (second l.arguments) []) none_block
    visit_keeps LoopMessage.EqualElements = within _ (Finishes True) compares_elements (finishes True)
    visit_keeps LoopMessage.NotEqual = record { keeps = has }

-- ---- what a value brings

module _ (p : Program) (known : KnowsVariables p) (s : Store) (h : AllFull p s.objects) (l : LoopState) (has : LoopKeeps p s l) (v : Value) where
  abbrev index : ℕ
  index = natural_of l.index

  abbrev further : LoopState
  further = record l { index = l.index +ℤ pos 1; aside = false; visited = Nil }

  next : Visits p s (visit_at p s l.message further)
  next = visit_keeps p known s h further has l.message

  -- a loop that goes on at another index, or with another value made
  elsewhere : (i : ℤ) → Visits p s (visit_at p s l.message (record l { index = i; aside = false; visited = Nil }))
  elsewhere i = visit_keeps p known s h (record l { index = i; aside = false; visited = Nil }) has l.message

  made_next : (w : Value) → Visits p s (visit_at p s l.message (record further { made = w }))
  made_next w = visit_keeps p known s h (record further { made = w }) has l.message

  abbrev while_argument : List Value → Visit
  while_argument [] = Applies l l.receiver []
  while_argument (block ∷ args) = Applies (record l { aside = true }) block []

  argument_keeps : (args : List Value) → Visits p s (while_argument args)
  argument_keeps [] = record { keeps = has }
  argument_keeps (block ∷ args) = record { keeps = has }

  while_keeps : (b : Bool) → Visits p s (if l.aside then Applies (record l { aside = false }) l.receiver [] else (if b then while_argument l.arguments else Finishes Nil))
  while_keeps b =
      if_visits p known s h l.aside (Applies (record l { aside = false }) l.receiver []) (if b then while_argument l.arguments else Finishes Nil) record { keeps = has }
      (if_visits p known s h b (while_argument l.arguments) (Finishes Nil) (argument_keeps l.arguments) record { keeps = tt })

  ends : (w : Value) → Visits p s (Finishes w)
  ends w = record { keeps = tt }

  answered : (w : Visit) → Visits p s w → Visits p s (if l.aside then Finishes v else w)
  answered w g = if_visits p known s h l.aside (Finishes v) w (ends v) g

  abbrev match_or_next : Visit → Visit
  match_or_next found = if is_true v && is_within p s l then found else visit_at p s l.message further

  matched : (found : Visit) → Visits p s found → Visits p s (match_or_next found)
  matched found g = if_visits p known s h (is_true v && is_within p s l) found (visit_at p s l.message further) g next

  found_or_next : (u : Value) → Visits p s (if is_true v then Finishes u else visit_at p s l.message further)
  found_or_next u = if_visits p known s h (is_true v) (Finishes u) (visit_at p s l.message further) (ends u) next

  abbrev value_at : Value
  value_at = get_or (slots_of s l.receiver) (2 * index - 1) Nil

  -- the element, and then the next visit of a loop that takes nothing out
  abbrev added : Value → Visit
  added w = appended p known s h l has l.made (slots_of s l.made ++ w ∷ []) (λ t. visit_at p t l.message further)

  added_keeps : (w : Value) → ((t : Store) → LoopKeeps p t l) → Visits p s (added w)
  added_keeps w none = appended_keeps p known s h l has l.made (w ∷ []) (λ t. visit_at p t l.message further) (λ t f. visit_keeps p known t f further (none t) l.message)

  -- an element, and a pair, is taken out
  abbrev without : Store → Value → ℕ → Store
  without t (Object m) i = without_element t m i
  without t u i = t

  without_full : (t : Store) (u : Value) (i : ℕ) → AllFull p t.objects → NoObject p t u → AllFull p (without t u i).objects
  without_full t (Object m) i f none = removed_full p known m i t f (none m refl)
  without_full t u i f none = f

  same_classes : (t : Store) (n i m : ℕ) → (object_at m (without_element t n i)).class ≡ (object_at m t).class
  unfolding without_element
  same_classes t n i m = class_kept t.objects n m _ refl

  without_none : (t : Store) (u w : Value) (i : ℕ) → NoObject p t w → NoObject p (without t u i) w
  without_none t (Object m) w i none = λ n e f. none n e (subst (λ c. InFile p c) (same_classes t m i n) f)
  without_none t u w i none = none

  abbrev removed : Visit
  removed = Charges 0 (without s l.receiver (index - 1)) (Finishes (element p s l.receiver index))

  removed_keeps : NoObject p s l.receiver → Visits p s removed
  removed_keeps none = record { keeps = (without_full s l.receiver (index - 1) h none, tt) }

  abbrev one_out : Store
  one_out = without s l.receiver (2 * index - 1)

  abbrev pair_removed : Visit
  pair_removed = Charges 0 (without one_out l.receiver (2 * index - 2)) (Finishes value_at)

  pair_removed_keeps : NoObject p s l.receiver → Visits p s pair_removed
  pair_removed_keeps none = record { keeps = (without_full one_out l.receiver (2 * index - 2) (without_full s l.receiver (2 * index - 1) h none) (without_none s l.receiver l.receiver (2 * index - 1) none), tt) }

  abbrev value_set : Value → Value → Store
  value_set w (Object m) = with_slot m (2 * index - 1) w s
  value_set w u = s

  value_full : (w u : Value) → AllFull p (value_set w u).objects
  value_full w (Object m) = slot_full p known m (2 * index - 1) w s h
  value_full w u = h

  put_keeps : (w : Value) → Visits p s (Charges 0 (value_set w l.receiver) (Finishes w))
  put_keeps w = record { keeps = (value_full w l.receiver, tt) }

  abbrev pair_put : Visit
  pair_put = appended p known s h l has l.receiver (slots_of s l.receiver ++ first l.arguments ∷ v ∷ []) (λ t. Finishes v)

  -- what a message asks of the loop's receiver
  asked : (m : LoopMessage) → l.message ≡ m → MessageKeeps p s m l.receiver
  asked m e = subst (λ n. MessageKeeps p s n l.receiver) e has

  told : (m : LoopMessage) → l.message ≡ m → ((t : Store) → MessageKeeps p t m l.receiver) → (t : Store) → LoopKeeps p t l
  told m e g t = subst (λ n. MessageKeeps p t n l.receiver) (sym e) (g t)

  given_keeps : (m : LoopMessage) → l.message ≡ m → Visits p s (given_at p s m l v)
  unfolding given_at
  given_keeps LoopMessage.WhileTrue e = while_keeps (same_value v True)
  given_keeps LoopMessage.WhileFalse e = while_keeps (same_value v False)
  given_keeps LoopMessage.ToDo e = counts p known s h (record l { index = _; aside = false; visited = Nil }) has _
  given_keeps LoopMessage.ToByDo e = counts p known s h (record l { index = _; aside = false; visited = Nil }) has _
  given_keeps LoopMessage.DoSeparatedBy e = if_visits p known s h l.aside (visit_at p s l.message l) (visit_at p s l.message further) (visit_keeps p known s h l has l.message) next
  given_keeps LoopMessage.ReverseDo e = elsewhere _
  given_keeps LoopMessage.InjectInto e = made_next v
  given_keeps LoopMessage.Detect e = answered (if is_true v then Finishes l.visited else visit_at p s l.message further) (found_or_next l.visited)
  given_keeps LoopMessage.DetectIfNone e = answered (if is_true v then Finishes l.visited else visit_at p s l.message further) (found_or_next l.visited)
  given_keeps LoopMessage.AnySatisfy e = found_or_next True
  given_keeps LoopMessage.AllSatisfy e = if_visits p known s h (is_true v) (visit_at p s l.message further) (Finishes False) next (ends False)
  given_keeps LoopMessage.Collect e = added_keeps v (told LoopMessage.Collect e (λ t. tt))
  given_keeps LoopMessage.Select e = if_visits p known s h (is_true v) (added l.visited) (visit_at p s l.message further) (added_keeps l.visited (told LoopMessage.Select e (λ t. tt))) next
  given_keeps LoopMessage.Reject e = if_visits p known s h (is_true v) (visit_at p s l.message further) (added l.visited) next (added_keeps l.visited (told LoopMessage.Reject e (λ t. tt)))
  given_keeps LoopMessage.Includes e = matched (Finishes True) (ends True)
  given_keeps LoopMessage.OccurrencesOf e = matched (visit_at p s l.message (record further { made = Integer (integer_of l.made +ℤ pos 1) })) (made_next (Integer (integer_of l.made +ℤ pos 1)))
  given_keeps LoopMessage.IndexOf e = matched (Finishes (Integer l.index)) (ends (Integer l.index))
  given_keeps LoopMessage.AddToSet e = matched (Finishes (first l.arguments)) (ends (first l.arguments))
  given_keeps LoopMessage.Remove e = answered (match_or_next removed) (matched removed (removed_keeps (asked LoopMessage.Remove e)))
  given_keeps LoopMessage.RemoveIfAbsent e = answered (match_or_next removed) (matched removed (removed_keeps (asked LoopMessage.RemoveIfAbsent e)))
  given_keeps LoopMessage.At e = answered (match_or_next (Finishes value_at)) (matched (Finishes value_at) (ends value_at))
  given_keeps LoopMessage.AtIfAbsent e = answered (match_or_next (Finishes value_at)) (matched (Finishes value_at) (ends value_at))
  given_keeps LoopMessage.AtPut e =
      let put = Charges 0 (value_set (second l.arguments) l.receiver) (Finishes (second l.arguments)) in
      matched put (put_keeps (second l.arguments))
  given_keeps LoopMessage.AtIfAbsentPut e =
      if_visits p known s h l.aside (if l.aside then pair_put else Finishes v) (match_or_next (Finishes value_at))
      (if_visits p known s h l.aside pair_put (Finishes v) (pair_keeps p known s h l has (first l.arguments) v v) (ends v))
      (matched (Finishes value_at) (ends value_at))
  given_keeps LoopMessage.IncludesKey e = matched (Finishes True) (ends True)
  given_keeps LoopMessage.RemoveKey e = answered (match_or_next pair_removed) (matched pair_removed (pair_removed_keeps (asked LoopMessage.RemoveKey e)))
  given_keeps LoopMessage.RemoveKeyIfAbsent e = answered (match_or_next pair_removed) (matched pair_removed (pair_removed_keeps (asked LoopMessage.RemoveKeyIfAbsent e)))
  given_keeps LoopMessage.EqualElements e = if_visits p known s h (is_true v) (visit_at p s l.message further) (Finishes False) next (ends False)
  given_keeps LoopMessage.NotEqual e = ends (boolean (not (is_true v)))
  given_keeps m e = next

  pub next_visit_keeps : Visits p s (next_visit p s l v)
  unfolding next_visit
  next_visit_keeps = given_keeps l.message refl

-- ---- the first visit

module _ (p : Program) (known : KnowsVariables p) (s : Store) (h : AllFull p s.objects) (l : LoopState) (has : LoopKeeps p s l) where
  abbrev made_store : Store
  made_store = with_new ordered_collection_class [] [] s

  with_made_keeps : ((t : Store) → LoopKeeps p t l) → Visits p s (Charges 1 made_store (visit_at p made_store l.message (record l { made = next_object s })))
  with_made_keeps none =
      let f = built_full p known ordered_collection_class [] [] s h (omega arith) in
      record { keeps = (f, (visit_keeps p known made_store f (record l { made = next_object s }) (none made_store) l.message).keeps) }

  first_of_keeps : (m : LoopMessage) → l.message ≡ m → Visits p s (first_of_message p s m l)
  unfolding first_of_message
  first_of_keeps LoopMessage.Collect e = with_made_keeps (told p known s h l has Nil LoopMessage.Collect e (λ t. tt))
  first_of_keeps LoopMessage.Select e = with_made_keeps (told p known s h l has Nil LoopMessage.Select e (λ t. tt))
  first_of_keeps LoopMessage.Reject e = with_made_keeps (told p known s h l has Nil LoopMessage.Reject e (λ t. tt))
  first_of_keeps LoopMessage.EqualElements e = if_visits p known s h _ (visit_at p s l.message l) (Finishes False) (visit_keeps p known s h l has l.message) record { keeps = tt }
  first_of_keeps m e = visit_keeps p known s h l has l.message

  pub first_visit_keeps : Visits p s (first_visit p s l)
  unfolding first_visit
  first_visit_keeps = first_of_keeps l.message refl
