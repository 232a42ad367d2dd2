-- The visits of a loop leave objects built.
use Rattle.std.proofs.Common.{◌≡◌, ℕ, ◌+◌, ◌-◌, ◌*◌, ℤ, pos, ◌+ℤ◌, ◌<◌, nat_eq, nat_le, int_le, length, get_or, map, List, [], ◌∷◌, ◌++◌, Bool, true, false, not, ◌&&◌, ◌||◌, true≢false, eqb-true, refl, sym, ap, ◌∙◌, subst, arith, if◌then◌else◌}
use Rattle.std.proofs.lemmas.List.{length-append}
use Rattle.object_heap.specs.declared.value.Value.{Value}
use Rattle.object_heap.specs.declared.value.Value.TheVariants.{Nil, True, False, Integer, Character, Symbol, Class, Meta, Transcript, Object}
use Rattle.object_heap.specs.Store.{Store, Object as HeapObject, no_object, object_at, with_slot}
use Rattle.object_heap.specs.Charges.{object_charge}
use Rattle.st_code.specs.Program.{Program}
use Rattle.st_code.specs.BuiltIns.{string_class, array_class, set_class, dictionary_class, ordered_collection_class}
use Rattle.st_code.specs.Lookup.{level_of}
use Rattle.st_code.specs.Messages.{LoopMessage}
use Rattle.st_collections.specs.Actions.{LoopState, Visit, Applies, Compares, Finishes, Lacks, Charges, first, second, boolean, next_object, with_new, new_object}
use Rattle.st_collections.specs.Kinds.{same_value, is_true, is_a, slots_of, key, integer_of, species}
use Rattle.st_collections.specs.TextRows.{byte_of}
use Rattle.st_collections.specs.SequenceRows.{with_elements}
use Rattle.st_collections.specs.Loops.{at_index, further, beside, past_all, visiting, made_to, is_within, here, place, count_visit, separated_visit, turned_into, keeps_made, collected, selected, with_pair, appended, added, value_at, set_value, without, compared, visit_at, visit, while_argument, while_given, answered, matched, removed, pair_removed, pair_or_answer, downwards, given_at, next_visit, with_made, same_kind, first_of_message, first_visit, step_of, block_of, is_past}
use Rattle.st_loops.specs.Requests.{HasGathered, IsKept}
use Rattle.st_sound.specs.Receivers.{is_listed, takes_loop}
use Rattle.st_sound.specs.SoundActions.{LoopStands}
use Rattle.st_sound.proofs.Later.{Later, new_later, elements_later, takes_later}
use Rattle.law_values.specs.BuiltObjects.{BuiltStore}
use Rattle.law_values.specs.KnownBuilt.{KnowsBuilt}
use Rattle.law_values.proofs.BuiltActions.{VisitBuilt}
use Rattle.law_values.proofs.BuiltObjects.{is_fixed, unbound, free_object, built_new, built_slot, built_grown, built_removed, built_pair_removed}

-- ---- loops

-- the collection that a loop makes
abbrev Gathers : Store → Value → Type 0
Gathers s (Object n) = (n < length s.objects) × ((object_at n s).class ≡ ordered_collection_class)
Gathers s v = Unit {0}

abbrev Keeps : Store → LoopMessage → LoopState → Type 0
Keeps s LoopMessage.Collect l = Gathers s l.made
Keeps s LoopMessage.Select l = Gathers s l.made
Keeps s LoopMessage.Reject l = Gathers s l.made
Keeps s m l = Unit {0}

gathers : (s : Store) (v : Value) → HasGathered s v → Gathers s v
gathers s (Object n) g = (g.roomy.stands, g.ordered)
gathers s v g = tt

keeps : (s : Store) (m : LoopMessage) (l : LoopState) → IsKept s m l → Keeps s m l
keeps s LoopMessage.Collect l k = gathers s l.made k
keeps s LoopMessage.Select l k = gathers s l.made k
keeps s LoopMessage.Reject l k = gathers s l.made k
keeps s m l k = tt

gathers_later : (s t : Store) → Later s t → (v : Value) → Gathers s v → Gathers t v
gathers_later s t e (Object n) g = let l = g.0 in let m = e.more in (omega (arith, l, m), e.classes n l ∙ g.1)
gathers_later s t e v g = tt

keeps_later : (s t : Store) → Later s t → (m : LoopMessage) (l : LoopState) → Keeps s m l → Keeps t m l
keeps_later s t e LoopMessage.Collect l k = gathers_later s t e l.made k
keeps_later s t e LoopMessage.Select l k = gathers_later s t e l.made k
keeps_later s t e LoopMessage.Reject l k = gathers_later s t e l.made k
keeps_later s t e m l k = tt

pub record Visits (p : Program) (v : Visit) : Type 0 where
  pub built : VisitBuilt p v

-- a loop of this message
abbrev Takes : Store → LoopMessage → LoopState → Type 0
Takes s m l = takes_loop m (level_of s l.receiver).class ≡ true

pub record Loop (s : Store) (m : LoopMessage) (l : LoopState) : Type 0 where
  pub message : l.message ≡ m
  pub receiver : Takes s m l
  pub kept : Keeps s m l

pub loop_is : (s : Store) (l : LoopState) → LoopStands s l → Loop s l.message l
loop_is s l g = record { message = refl; receiver = g.receiver; kept = keeps s l.message l g.kept }

later_loop : (s t : Store) (m : LoopMessage) (l : LoopState) → Later s t → Loop s m l → Loop t m l
later_loop s t m l e g = record { message = g.message; receiver = takes_later s t e m l.receiver g.receiver; kept = keeps_later s t e m l g.kept }

moved : (s : Store) (m : LoopMessage) (l l' : LoopState) → l'.message ≡ l.message → l'.receiver ≡ l.receiver → Loop s m l → Keeps s m l' → Loop s m l'
moved s m l l' e f g k = record { message = e ∙ g.message; receiver = subst (λ r. takes_loop m (level_of s r).class ≡ true) (sym f) g.receiver; kept = k }

module _ (p : Program) (known : KnowsBuilt p) (s : Store) (h : BuiltStore p s) where
  finishes : (v : Value) → Visits p (Finishes v)
  finishes v = record { built = tt }

  pub if_visits : (b : Bool) (v w : Visit) → Visits p v → Visits p w → Visits p (if b then v else w)
  if_visits true v w g i = g
  if_visits false v w g i = i

  -- the items of the collection made as a new object
  turned : (class : ℕ) (l : LoopState) → is_fixed class ≡ false → class < length p.classes → Visits p (turned_into class s l)
  turned class l f k =
      let items = slots_of s l.made in
      if_visits (nat_eq class string_class) (Charges (object_charge 0 (length items)) (with_new string_class [] (map byte_of items) s) (Finishes (next_object s))) (Charges (1 + length items) (with_new class items [] s) (Finishes (next_object s)))
      record { built = (built_new p s string_class [] (map byte_of items) h (free_object p s _ refl refl (omega (arith, known.classes))), tt) }
      record { built = (built_new p s class items [] h (free_object p s _ f refl k), tt) }

  gives_collected : (l : LoopState) → Visits p (collected s l)
  gives_collected l = if_visits (keeps_made s l.receiver) (Finishes l.made) (turned_into array_class s l) (finishes l.made) (turned array_class l refl (omega (arith, known.classes)))

  gives_selected : (l : LoopState) → Visits p (selected s l)
  gives_selected l =
      if_visits (nat_eq (species s l.receiver) string_class) (turned_into string_class s l) (if is_a s set_class l.receiver then turned_into set_class s l else collected s l) (turned string_class l refl (omega (arith, known.classes)))
      (if_visits (is_a s set_class l.receiver) (turned_into set_class s l) (collected s l) (turned set_class l refl (omega (arith, known.classes))) (gives_collected l))

  -- elements at the end of a collection, and then the rest
  appended_built : (r : Value) (slots : List Value) (rest : Store → Visit) → ((n : ℕ) → r ≡ Object n → BuiltStore p (with_elements s n slots).store) → ((t : Store) → Later s t → BuiltStore p t → Visits p (rest t)) → Later s s → Visits p (appended s r slots rest)
  appended_built (Object n) slots rest g on i = let t = (with_elements s n slots).store in let x = g n refl in record { built = (x, (on t (elements_later s n slots) x).built) }
  appended_built Nil slots rest g on i = on s i h
  appended_built True slots rest g on i = on s i h
  appended_built False slots rest g on i = on s i h
  appended_built (Integer n) slots rest g on i = on s i h
  appended_built (Character c) slots rest g on i = on s i h
  appended_built (Symbol n) slots rest g on i = on s i h
  appended_built (Class c) slots rest g on i = on s i h
  appended_built (Meta c) slots rest g on i = on s i h
  appended_built Transcript slots rest g on i = on s i h

  itself : Later s s
  itself = record { more = omega arith; classes = λ n l. refl }

  class_is : (r : Value) (n class : ℕ) → r ≡ Object n → nat_eq (level_of s r).class class ≡ true → (object_at n s).class ≡ class
  unfolding level_of
  class_is r n class e f = eqb-true (object_at n s).class class (subst (λ x. nat_eq (level_of s x).class class ≡ true) e f)

  free_grown : (n class : ℕ) (slots : List Value) → (object_at n s).class ≡ class → is_fixed class ≡ false → BuiltStore p (with_elements s n slots).store
  free_grown n class slots e f = built_grown p s n slots h (ap (λ c. is_fixed c) e ∙ f)

  set_added : (r v : Value) → nat_eq (level_of s r).class set_class ≡ true → Visits p (appended s r (slots_of s r ++ v ∷ []) (λ s'. Finishes v))
  set_added r v f = appended_built r (slots_of s r ++ v ∷ []) (λ s'. Finishes v) (λ n e. free_grown n set_class (slots_of s r ++ v ∷ []) (class_is r n set_class e f) refl) (λ t i g. record { built = tt }) itself

  pair_added : (r k v w : Value) → nat_eq (level_of s r).class dictionary_class ≡ true → Visits p (with_pair s r k v w)
  pair_added r k v w f =
      appended_built r (slots_of s r ++ k ∷ v ∷ []) (λ s'. Finishes w)
      (λ n e. free_grown n dictionary_class (slots_of s r ++ k ∷ v ∷ []) (class_is r n dictionary_class e f) refl)
      (λ t i g. record { built = tt }) itself

  -- ---- visits

  module _ (m : LoopMessage) (l : LoopState) (g : Loop s m l) where
    within : (v w : Visit) → Visits p v → Visits p w → Visits p (if is_within p s l then v else w)
    within v w a b = if_visits (is_within p s l) v w a b

    -- the loop with its index, flag and element visited set anew waits for an application, or for `=`
    applies : (l' : LoopState) (v : Value) (args : List Value) → l'.message ≡ l.message → l'.receiver ≡ l.receiver → Keeps s m l' → Visits p (Applies l' v args)
    applies l' v args e f k = record { built = tt }

    compares : (r v : Value) → Visits p (Compares l r v)
    compares r v = record { built = tt }

    lacks : Keeps s m (past_all l) → Visits p (Lacks (past_all l))
    lacks k = record { built = tt }

    each : (args : List Value) (w : Visit) → Visits p w → Visits p (if is_within p s l then Applies l (first l.arguments) args else w)
    each args w b = within (Applies l (first l.arguments) args) w (applies l (first l.arguments) args refl refl g.kept) b

    each_equal : (v w : Value) (x : Visit) → Visits p x → Visits p (if is_within p s l then Compares l v w else x)
    each_equal v w x b = within (Compares l v w) x (compares v w) b

  visits : (m : LoopMessage) (l : LoopState) → Loop s m l → Visits p (visit_at p s m l)
  unfolding visit_at
  visits LoopMessage.WhileTrue l g = applies LoopMessage.WhileTrue l g l l.receiver [] refl refl tt
  visits LoopMessage.WhileFalse l g = applies LoopMessage.WhileFalse l g l l.receiver [] refl refl tt
  visits LoopMessage.TimesRepeat l g = if_visits (int_le l.index (integer_of l.receiver)) (Applies l (first l.arguments) []) (Finishes l.receiver) (applies LoopMessage.TimesRepeat l g l (first l.arguments) [] refl refl tt) (finishes l.receiver)
  visits LoopMessage.ToDo l g = if_visits (is_past (step_of l.message l.arguments) l.index (integer_of (first l.arguments))) (Finishes l.receiver) (Applies l (block_of l.message l.arguments) (Integer l.index ∷ [])) (finishes l.receiver) (applies LoopMessage.ToDo l g l (block_of l.message l.arguments) (Integer l.index ∷ []) refl refl tt)
  visits LoopMessage.ToByDo l g = if_visits (is_past (step_of l.message l.arguments) l.index (integer_of (first l.arguments))) (Finishes l.receiver) (Applies l (block_of l.message l.arguments) (Integer l.index ∷ [])) (finishes l.receiver) (applies LoopMessage.ToByDo l g l (block_of l.message l.arguments) (Integer l.index ∷ []) refl refl tt)
  visits LoopMessage.Do l g = each LoopMessage.Do l g (here p s l ∷ []) (Finishes l.receiver) (finishes l.receiver)
  visits LoopMessage.DoSeparatedBy l g =
      let m = LoopMessage.DoSeparatedBy in
      let on = record l { aside = false } in
      within m l g (separated_visit p s l) (Finishes l.receiver)
      (if_visits (nat_le 2 (place l) && not l.aside) (Applies (beside l) (second l.arguments) []) (Applies on (first l.arguments) (here p s l ∷ [])) (applies m l g (beside l) (second l.arguments) [] refl refl tt) (applies m l g on (first l.arguments) (here p s l ∷ []) refl refl tt))
      (finishes l.receiver)
  visits LoopMessage.ReverseDo l g = each LoopMessage.ReverseDo l g (here p s l ∷ []) (Finishes l.receiver) (finishes l.receiver)
  visits LoopMessage.KeysAndValuesDo l g = each LoopMessage.KeysAndValuesDo l g _ (Finishes l.receiver) (finishes l.receiver)
  visits LoopMessage.KeysDo l g = each LoopMessage.KeysDo l g _ (Finishes l.receiver) (finishes l.receiver)
  visits LoopMessage.InjectInto l g = within LoopMessage.InjectInto l g (Applies l (second l.arguments) (l.made ∷ here p s l ∷ [])) (Finishes l.made) (applies LoopMessage.InjectInto l g l (second l.arguments) (l.made ∷ here p s l ∷ []) refl refl tt) (finishes l.made)
  visits LoopMessage.Detect l g =
      let m = LoopMessage.Detect in
      within m l g (Applies (visiting (here p s l) l) (first l.arguments) (here p s l ∷ [])) (Lacks (past_all l)) (applies m l g (visiting (here p s l) l) (first l.arguments) (here p s l ∷ []) refl refl tt) (lacks m l g tt)
  visits LoopMessage.DetectIfNone l g =
      let m = LoopMessage.DetectIfNone in
      within m l g (Applies (visiting (here p s l) l) (first l.arguments) (here p s l ∷ [])) (Applies (past_all l) (second l.arguments) []) (applies m l g (visiting (here p s l) l) (first l.arguments) (here p s l ∷ []) refl refl tt) (applies m l g (past_all l) (second l.arguments) [] refl refl tt)
  visits LoopMessage.AnySatisfy l g = each LoopMessage.AnySatisfy l g (here p s l ∷ []) (Finishes False) (finishes False)
  visits LoopMessage.AllSatisfy l g = each LoopMessage.AllSatisfy l g (here p s l ∷ []) (Finishes True) (finishes True)
  visits LoopMessage.Collect l g = each LoopMessage.Collect l g (here p s l ∷ []) (collected s l) (gives_collected l)
  visits LoopMessage.Select l g =
      let m = LoopMessage.Select in
      within m l g (Applies (visiting (here p s l) l) (first l.arguments) (here p s l ∷ [])) (selected s l) (applies m l g (visiting (here p s l) l) (first l.arguments) (here p s l ∷ []) refl refl g.kept) (gives_selected l)
  visits LoopMessage.Reject l g =
      let m = LoopMessage.Reject in
      within m l g (Applies (visiting (here p s l) l) (first l.arguments) (here p s l ∷ [])) (selected s l) (applies m l g (visiting (here p s l) l) (first l.arguments) (here p s l ∷ []) refl refl g.kept) (gives_selected l)
  visits LoopMessage.Includes l g = each_equal LoopMessage.Includes l g (first l.arguments) (here p s l) (Finishes False) (finishes False)
  visits LoopMessage.OccurrencesOf l g = each_equal LoopMessage.OccurrencesOf l g (first l.arguments) (here p s l) (Finishes l.made) (finishes l.made)
  visits LoopMessage.IndexOf l g = each_equal LoopMessage.IndexOf l g (first l.arguments) (here p s l) (Finishes (Integer (pos 0))) (finishes (Integer (pos 0)))
  visits LoopMessage.AddToSet l g = each_equal LoopMessage.AddToSet l g (first l.arguments) (here p s l) (appended s l.receiver (slots_of s l.receiver ++ first l.arguments ∷ []) (λ s'. Finishes (first l.arguments))) (set_added l.receiver (first l.arguments) g.receiver)
  visits LoopMessage.Remove l g = each_equal LoopMessage.Remove l g (first l.arguments) (here p s l) (Lacks (past_all l)) (lacks LoopMessage.Remove l g tt)
  visits LoopMessage.RemoveIfAbsent l g = each_equal LoopMessage.RemoveIfAbsent l g (first l.arguments) (here p s l) (Applies (past_all l) (second l.arguments) []) (applies LoopMessage.RemoveIfAbsent l g (past_all l) (second l.arguments) [] refl refl tt)
  visits LoopMessage.At l g = each_equal LoopMessage.At l g (first l.arguments) (key s l.receiver (place l)) (Lacks (past_all l)) (lacks LoopMessage.At l g tt)
  visits LoopMessage.AtIfAbsent l g = each_equal LoopMessage.AtIfAbsent l g (first l.arguments) (key s l.receiver (place l)) (Applies (past_all l) (second l.arguments) []) (applies LoopMessage.AtIfAbsent l g (past_all l) (second l.arguments) [] refl refl tt)
  visits LoopMessage.AtPut l g = each_equal LoopMessage.AtPut l g (first l.arguments) (key s l.receiver (place l)) (with_pair s l.receiver (first l.arguments) (second l.arguments) (second l.arguments)) (pair_added l.receiver (first l.arguments) (second l.arguments) (second l.arguments) g.receiver)
  visits LoopMessage.AtIfAbsentPut l g = each_equal LoopMessage.AtIfAbsentPut l g (first l.arguments) (key s l.receiver (place l)) (Applies (past_all l) (second l.arguments) []) (applies LoopMessage.AtIfAbsentPut l g (past_all l) (second l.arguments) [] refl refl tt)
  visits LoopMessage.IncludesKey l g = each_equal LoopMessage.IncludesKey l g (first l.arguments) (key s l.receiver (place l)) (Finishes False) (finishes False)
  visits LoopMessage.RemoveKey l g = each_equal LoopMessage.RemoveKey l g (first l.arguments) (key s l.receiver (place l)) (Lacks (past_all l)) (lacks LoopMessage.RemoveKey l g tt)
  visits LoopMessage.RemoveKeyIfAbsent l g = each_equal LoopMessage.RemoveKeyIfAbsent l g (first l.arguments) (key s l.receiver (place l)) (Applies (past_all l) (second l.arguments) []) (applies LoopMessage.RemoveKeyIfAbsent l g (past_all l) (second l.arguments) [] refl refl tt)
  visits LoopMessage.EqualElements l g =
      let a = get_or (slots_of s l.receiver) (place l - 1) Nil in
      let b = get_or (slots_of s (first l.arguments)) (place l - 1) Nil in
      within LoopMessage.EqualElements l g (compared s l) (Finishes True)
      (if_visits (nat_le (place l) (length (slots_of s (first l.arguments)))) (Compares l a b) (Finishes False) (compares LoopMessage.EqualElements l g a b) (finishes False)) (finishes True)
  visits LoopMessage.NotEqual l g = compares LoopMessage.NotEqual l g l.receiver (first l.arguments)

  -- the visit of a loop where it is
  pub visits_here : (m : LoopMessage) (l : LoopState) → Loop s m l → Visits p (visit p s l)
  visits_here m l g = subst (λ x. Visits p (visit_at p s x l)) (sym g.message) (visits m l g)

module _ (p : Program) (known : KnowsBuilt p) (s : Store) (h : BuiltStore p s) where
  -- ---- what a value brings

  -- at another place of the same loop
  goes_on : (m : LoopMessage) (l l' : LoopState) → l'.message ≡ l.message → l'.receiver ≡ l.receiver → Loop s m l → Keeps s m l' → Visits p (visit p s l')
  goes_on m l l' e f g k = visits_here p known s h m l' (moved s m l l' e f g k)

  counted : (m : LoopMessage) (l : LoopState) (i : ℤ) → Loop s m l → Keeps s m (at_index i l) → Visits p (count_visit (at_index i l))
  counted m l i g k =
      let l' = at_index i l in
      if_visits p known s h (is_past (step_of l.message l.arguments) i (integer_of (first l.arguments))) (Finishes l.receiver) (Applies l' (block_of l.message l.arguments) (Integer i ∷ [])) (finishes p known s h l.receiver) (applies p known s h m l g l' (block_of l.message l.arguments) (Integer i ∷ []) refl refl k)

  goes_while : (m : LoopMessage) (l : LoopState) (args : List Value) → Loop s m l → Keeps s m l → Keeps s m (beside l) → Visits p (while_argument l args)
  goes_while m l [] g k j = applies p known s h m l g l l.receiver [] refl refl k
  goes_while m l (block ∷ args) g k j = applies p known s h m l g (beside l) block [] refl refl j

  while_by : (m : LoopMessage) (l : LoopState) (goes : Bool) → Loop s m l → Keeps s m l → Keeps s m (beside l) → Keeps s m (record l { aside = false }) → Visits p (while_given l goes)
  while_by m l goes g k j i =
      if_visits p known s h l.aside (Applies (record l { aside = false }) l.receiver []) (if goes then while_argument l l.arguments else Finishes Nil) (applies p known s h m l g (record l { aside = false }) l.receiver [] refl refl i)
      (if_visits p known s h goes (while_argument l l.arguments) (Finishes Nil) (goes_while m l l.arguments g k j) (finishes p known s h Nil))

  -- the next index, where nothing is kept that speaks of it
  module _ (m : LoopMessage) (l : LoopState) (g : Loop s m l) (k : Keeps s m (further l)) where
    next : Visits p (visit p s (further l))
    next = goes_on m l (further l) refl refl g k

    either : (b : Bool) (v : Visit) → Visits p v → Visits p (if b then v else visit p s (further l))
    either b v a = if_visits p known s h b v (visit p s (further l)) a next

    or_next : (b : Bool) (v : Visit) → Visits p v → Visits p (if b then visit p s (further l) else v)
    or_next b v a = if_visits p known s h b (visit p s (further l)) v next a

    found : (v : Value) (w : Visit) → Visits p w → Visits p (matched p s l v w)
    found v w a = either (is_true v && is_within p s l) w a

  answer : (l : LoopState) (v : Value) (w : Visit) → Visits p w → Visits p (answered l v w)
  answer l v w a = if_visits p known s h l.aside (Finishes v) w (finishes p known s h v) a

  -- ---- elements taken out, and values put

  list_free : (a b : Bool) (class : ℕ) → nat_eq class ordered_collection_class ≡ a → nat_eq class set_class ≡ b → (a || b) ≡ true → is_fixed class ≡ false
  list_free true b class e f g = ap (λ c. is_fixed c) (eqb-true class ordered_collection_class e)
  list_free false true class e f g = ap (λ c. is_fixed c) (eqb-true class set_class f)
  list_free false false class e f g = absurd (true≢false (sym g))

  listed_free : (class : ℕ) → is_listed class ≡ true → is_fixed class ≡ false
  listed_free class e = list_free (nat_eq class ordered_collection_class) (nat_eq class set_class) class refl refl e

  dictionary_free : (class : ℕ) → nat_eq class dictionary_class ≡ true → is_fixed class ≡ false
  dictionary_free class e = ap (λ c. is_fixed c) (eqb-true class dictionary_class e)

  one_without : (r : Value) (i : ℕ) → is_listed (level_of s r).class ≡ true → BuiltStore p (without s r i)
  unfolding level_of
  one_without (Object n) i e = built_removed p s n i h (listed_free (object_at n s).class e)
  one_without Nil i e = h
  one_without True i e = h
  one_without False i e = h
  one_without (Integer n) i e = h
  one_without (Character c) i e = h
  one_without (Symbol n) i e = h
  one_without (Class c) i e = h
  one_without (Meta c) i e = h
  one_without Transcript i e = h

  takes_out : (l : LoopState) → is_listed (level_of s l.receiver).class ≡ true → Visits p (removed p s l)
  takes_out l e = record { built = (one_without l.receiver (place l - 1) e, tt) }

  two_without : (r : Value) (i : ℕ) → nat_eq (level_of s r).class dictionary_class ≡ true → BuiltStore p (without (without s r (2 * i - 1)) r (2 * i - 2))
  unfolding level_of
  two_without (Object n) i e = built_pair_removed p s n (2 * i - 1) (2 * i - 2) h (dictionary_free (object_at n s).class e)
  two_without Nil i e = h
  two_without True i e = h
  two_without False i e = h
  two_without (Integer n) i e = h
  two_without (Character c) i e = h
  two_without (Symbol n) i e = h
  two_without (Class c) i e = h
  two_without (Meta c) i e = h
  two_without Transcript i e = h

  takes_pair : (l : LoopState) → nat_eq (level_of s l.receiver).class dictionary_class ≡ true → Visits p (pair_removed s l)
  takes_pair l e = record { built = (two_without l.receiver (place l) e, tt) }

  value_set : (r : Value) (i : ℕ) (v : Value) → nat_eq (level_of s r).class dictionary_class ≡ true → BuiltStore p (elim r [ Object n ↦ with_slot n i v s | _ ↦ s ])
  unfolding level_of
  value_set (Object n) i v e = built_slot p s n i v h (unbound (object_at n s).class (dictionary_free (object_at n s).class e))
  value_set Nil i v e = h
  value_set True i v e = h
  value_set False i v e = h
  value_set (Integer n) i v e = h
  value_set (Character c) i v e = h
  value_set (Symbol n) i v e = h
  value_set (Class c) i v e = h
  value_set (Meta c) i v e = h
  value_set Transcript i v e = h

  puts : (l : LoopState) (v : Value) → nat_eq (level_of s l.receiver).class dictionary_class ≡ true → Visits p (Charges 0 (set_value s l v) (Finishes v))
  puts l v e = record { built = (value_set l.receiver (2 * place l - 1) v e, tt) }

  puts_or_answers : (l : LoopState) (v : Value) → nat_eq (level_of s l.receiver).class dictionary_class ≡ true → Visits p (pair_or_answer s l v)
  puts_or_answers l v e = if_visits p known s h l.aside (with_pair s l.receiver (first l.arguments) v v) (Finishes v) (pair_added p known s h l.receiver (first l.arguments) v v e) (finishes p known s h v)

  -- ---- the collection that a loop makes

  made_free : (made : Value) → Gathers s made → (n : ℕ) (slots : List Value) → made ≡ Object n → BuiltStore p (with_elements s n slots).store
  made_free made g n slots e =
      let k : Gathers s (Object n) = subst (λ x. Gathers s x) e g in
      free_grown p known s h n ordered_collection_class slots k.1 refl

  more_made : (m : LoopMessage) (l : LoopState) (v : Value) → Loop s m l → Gathers s l.made → ((t : Store) → Later s t → Keeps t m (further l)) → Visits p (added s l v (λ s'. visit p s' (further l)))
  more_made m l v g k j =
      appended_built p known s h l.made (slots_of s l.made ++ v ∷ []) (λ s'. visit p s' (further l)) (λ n e. made_free l.made k n (slots_of s l.made ++ v ∷ []) e)
      (λ t i x. let y = later_loop s t m l i g in visits_here p known t x m (further l) (moved t m l (further l) refl refl y (j t i))) (itself p known s h)

  gives : (m : LoopMessage) (l : LoopState) (v : Value) → Loop s m l → Visits p (given_at p s m l v)
  unfolding given_at
  gives LoopMessage.WhileTrue l v g = while_by LoopMessage.WhileTrue l (same_value v True) g tt tt tt
  gives LoopMessage.WhileFalse l v g = while_by LoopMessage.WhileFalse l (same_value v False) g tt tt tt
  gives LoopMessage.ToDo l v g = counted LoopMessage.ToDo l (l.index +ℤ step_of l.message l.arguments) g tt
  gives LoopMessage.ToByDo l v g = counted LoopMessage.ToByDo l (l.index +ℤ step_of l.message l.arguments) g tt
  gives LoopMessage.DoSeparatedBy l v g = either LoopMessage.DoSeparatedBy l g tt l.aside (visit p s l) (goes_on LoopMessage.DoSeparatedBy l l refl refl g tt)
  gives LoopMessage.ReverseDo l v g = goes_on LoopMessage.ReverseDo l (downwards p s l) refl refl g tt
  gives LoopMessage.InjectInto l v g = goes_on LoopMessage.InjectInto l (made_to v (further l)) refl refl g tt
  gives LoopMessage.Detect l v g = answer l v _ (either LoopMessage.Detect l g tt (is_true v) (Finishes l.visited) (finishes p known s h l.visited))
  gives LoopMessage.DetectIfNone l v g = answer l v _ (either LoopMessage.DetectIfNone l g tt (is_true v) (Finishes l.visited) (finishes p known s h l.visited))
  gives LoopMessage.AnySatisfy l v g = either LoopMessage.AnySatisfy l g tt (is_true v) (Finishes True) (finishes p known s h True)
  gives LoopMessage.AllSatisfy l v g = or_next LoopMessage.AllSatisfy l g tt (is_true v) (Finishes False) (finishes p known s h False)
  gives LoopMessage.Collect l v g = more_made LoopMessage.Collect l v g g.kept (λ t i. keeps_later s t i LoopMessage.Collect l g.kept)
  gives LoopMessage.Select l v g = either LoopMessage.Select l g g.kept (is_true v) (added s l l.visited (λ s'. visit p s' (further l))) (more_made LoopMessage.Select l l.visited g g.kept (λ t i. keeps_later s t i LoopMessage.Select l g.kept))
  gives LoopMessage.Reject l v g = or_next LoopMessage.Reject l g g.kept (is_true v) (added s l l.visited (λ s'. visit p s' (further l))) (more_made LoopMessage.Reject l l.visited g g.kept (λ t i. keeps_later s t i LoopMessage.Reject l g.kept))
  gives LoopMessage.Includes l v g = found LoopMessage.Includes l g tt v (Finishes True) (finishes p known s h True)
  gives LoopMessage.OccurrencesOf l v g =
      let one = made_to (Integer (integer_of l.made +ℤ pos 1)) (further l) in
      found LoopMessage.OccurrencesOf l g tt v (visit p s one) (goes_on LoopMessage.OccurrencesOf l one refl refl g tt)
  gives LoopMessage.IndexOf l v g = found LoopMessage.IndexOf l g tt v (Finishes (Integer l.index)) (finishes p known s h (Integer l.index))
  gives LoopMessage.AddToSet l v g = found LoopMessage.AddToSet l g tt v (Finishes (first l.arguments)) (finishes p known s h (first l.arguments))
  gives LoopMessage.Remove l v g = answer l v _ (found LoopMessage.Remove l g tt v (removed p s l) (takes_out l g.receiver))
  gives LoopMessage.RemoveIfAbsent l v g = answer l v _ (found LoopMessage.RemoveIfAbsent l g tt v (removed p s l) (takes_out l g.receiver))
  gives LoopMessage.At l v g = answer l v _ (found LoopMessage.At l g tt v (Finishes (value_at s l)) (finishes p known s h (value_at s l)))
  gives LoopMessage.AtIfAbsent l v g = answer l v _ (found LoopMessage.AtIfAbsent l g tt v (Finishes (value_at s l)) (finishes p known s h (value_at s l)))
  gives LoopMessage.AtPut l v g = found LoopMessage.AtPut l g tt v (Charges 0 (set_value s l (second l.arguments)) (Finishes (second l.arguments))) (puts l (second l.arguments) g.receiver)
  gives LoopMessage.AtIfAbsentPut l v g =
      if_visits p known s h l.aside (pair_or_answer s l v) (matched p s l v (Finishes (value_at s l))) (puts_or_answers l v g.receiver) (found LoopMessage.AtIfAbsentPut l g tt v (Finishes (value_at s l)) (finishes p known s h (value_at s l)))
  gives LoopMessage.IncludesKey l v g = found LoopMessage.IncludesKey l g tt v (Finishes True) (finishes p known s h True)
  gives LoopMessage.RemoveKey l v g = answer l v _ (found LoopMessage.RemoveKey l g tt v (pair_removed s l) (takes_pair l g.receiver))
  gives LoopMessage.RemoveKeyIfAbsent l v g = answer l v _ (found LoopMessage.RemoveKeyIfAbsent l g tt v (pair_removed s l) (takes_pair l g.receiver))
  gives LoopMessage.EqualElements l v g = or_next LoopMessage.EqualElements l g tt (is_true v) (Finishes False) (finishes p known s h False)
  gives LoopMessage.NotEqual l v g = finishes p known s h (boolean (not (is_true v)))
  gives m l v g = next _ l g tt

  pub next_visit_built : (l : LoopState) (v : Value) → LoopStands s l → Visits p (next_visit p s l v)
  unfolding next_visit
  next_visit_built l v g = gives l.message l v (loop_is s l g)

  -- ---- the beginning of a loop

  made_stands : Gathers (with_new ordered_collection_class [] [] s) (next_object s)
  unfolding with_new
  made_stands =
      let e = length-append s.objects (new_object ordered_collection_class [] [] ∷ []) in
      (omega (arith, e), ap (λ (o : HeapObject). o.class) (last_read s.objects (new_object ordered_collection_class [] [])))
    where
      last_read : (os : List HeapObject) (o : HeapObject) → get_or (os ++ o ∷ []) (length os) no_object ≡ o
      last_read [] o = refl
      last_read (q ∷ os) o = last_read os o

  makes : (m : LoopMessage) (l : LoopState) → Loop s m l → (Gathers (with_new ordered_collection_class [] [] s) (next_object s) → Keeps (with_new ordered_collection_class [] [] s) m (made_to (next_object s) l)) → Visits p (with_made p s l)
  makes m l g k =
      let t = with_new ordered_collection_class [] [] s in
      let x = built_new p s ordered_collection_class [] [] h (free_object p s _ refl refl (omega (arith, known.classes))) in
      let l' = made_to (next_object s) l in
      let loop : Loop t m l' = record { message = g.message; receiver = takes_later s t (new_later s ordered_collection_class [] []) m l.receiver g.receiver; kept = k made_stands } in
      record { built = (x, (visits_here p known t x m l' loop).built) }

  firsts : (m : LoopMessage) (l : LoopState) → Loop s m l → Visits p (first_of_message p s m l)
  unfolding first_of_message
  firsts LoopMessage.Collect l g = makes LoopMessage.Collect l g (λ k. k)
  firsts LoopMessage.Select l g = makes LoopMessage.Select l g (λ k. k)
  firsts LoopMessage.Reject l g = makes LoopMessage.Reject l g (λ k. k)
  firsts LoopMessage.EqualElements l g = if_visits p known s h (same_kind s l) (visit p s l) (Finishes False) (visits_here p known s h LoopMessage.EqualElements l g) (finishes p known s h False)
  firsts m l g = visits_here p known s h m l g

  pub first_visit_built : (l : LoopState) → LoopStands s l → Visits p (first_visit p s l)
  unfolding first_visit
  first_visit_built l g = firsts l.message l (loop_is s l g)
