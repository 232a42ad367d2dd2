-- The loops, visit by visit: each is at an index, asks for the size as it is now, and goes on with the value of the visit before (ANSI 5.4.3, 5.7).
use Rattle.std.specs.Prelude.{ℕ, ◌+◌, ◌-◌, ◌*◌, min, ℤ, pos, negsuc, ◌+ℤ◌, int_lt, int_le, Bool, true, false, not, ◌&&◌, ◌||◌, List, [], ◌∷◌, ◌++◌, map, length, get_or, nat_eq, nat_le, if◌then◌else◌}
use Rattle.object_heap.specs.declared.value.Value.{Value}
use Rattle.object_heap.specs.declared.value.Value.TheVariants.{Nil, True, False, Integer, Object}
use Rattle.object_heap.specs.declared.trouble.Trouble.TheVariants.{NumberExpected, StepIsZero}
use Rattle.object_heap.specs.Store.{Store, object_at, with_slot}
use Rattle.object_heap.specs.Charges.{object_charge}
use Rattle.st_code.specs.Program.{Program}
use Rattle.st_code.specs.BuiltIns.{string_class, array_class, ordered_collection_class, set_class, dictionary_class}
use Rattle.st_code.specs.Messages.{LoopMessage}
use Rattle.st_collections.specs.Actions.{Action, Fails, Iterates, LoopState, Visit, Applies, Compares, Finishes, Lacks, Charges, boolean, first, second, third, next_object, with_new}
use Rattle.st_collections.specs.Kinds.{same_value, is_true, is_a, slots_of, size_of, element, key, integer_of, natural_of, species}
use Rattle.st_collections.specs.TextRows.{byte_of}
use Rattle.st_collections.specs.SequenceRows.{with_elements, without_element}

-- ---- where a loop is, and what it has

abbrev pub place : LoopState → ℕ
place l = natural_of l.index

abbrev pub at_index : ℤ → LoopState → LoopState
at_index i l = record l { index = i; aside = false; visited = Nil }

abbrev pub made_to : Value → LoopState → LoopState
made_to v l = record l { made = v }

-- the loop at its next index
abbrev pub further : LoopState → LoopState
further l = at_index (l.index +ℤ pos 1) l

-- the loop while it waits for something else than a visit, and where none matched
abbrev pub beside : LoopState → LoopState
beside l = record l { aside = true }

abbrev pub past_all : LoopState → LoopState
past_all l = record l { index = pos 0; aside = true; visited = Nil }

-- the loop with the element that it visits
abbrev pub visiting : Value → LoopState → LoopState
visiting v l = record l { visited = v }

-- an element stands at the loop's index
unfoldable pub is_within : Program → Store → LoopState → Bool
is_within p s l = nat_le 1 (place l) && nat_le (place l) (size_of p s l.receiver)

abbrev pub here : Program → Store → LoopState → Value
here p s l = element p s l.receiver (place l)

-- the visit where an element stands at the index, else the end
abbrev pub within : Program → Store → LoopState → Visit → Visit → Visit
within p s l visit last = if is_within p s l then visit else last

-- ---- `to:do:`

-- the step, the stop and the block
abbrev pub step_of : LoopMessage → List Value → ℤ
step_of LoopMessage.ToByDo args = integer_of (second args)
step_of m args = pos 1

abbrev pub block_of : LoopMessage → List Value → Value
block_of LoopMessage.ToByDo args = third args
block_of m args = second args

abbrev pub is_past : ℤ → ℤ → ℤ → Bool
is_past (pos by) value stop = int_lt stop value
is_past (negsuc by) value stop = int_lt value stop

abbrev pub count_visit : LoopState → Visit
count_visit l =
    if is_past (step_of l.message l.arguments) l.index (integer_of (first l.arguments)) then Finishes l.receiver
    else Applies l (block_of l.message l.arguments) (Integer l.index ∷ [])

-- ---- `do:separatedBy:`

abbrev pub separated_visit : Program → Store → LoopState → Visit
separated_visit p s l =
    if nat_le 2 (place l) && not l.aside then Applies (beside l) (second l.arguments) []
    else Applies (record l { aside = false }) (first l.arguments) (here p s l ∷ [])

-- ---- collections made by a loop

-- an element at the end of the collection made, with the cells of its growth, then the rest
abbrev pub appended : Store → Value → List Value → (Store → Visit) → Visit
appended s (Object number) slots rest = let g = with_elements s number slots in Charges g.cells g.store (rest g.store)
appended s made slots rest = rest s

abbrev pub added : Store → LoopState → Value → (Store → Visit) → Visit
added s l v rest = appended s l.made (slots_of s l.made ++ v ∷ []) rest

-- the items of the collection made as a new object of this class
abbrev pub turned_into : ℕ → Store → LoopState → Visit
turned_into class s l =
    let items = slots_of s l.made in
    if nat_eq class string_class
    then Charges (object_charge 0 (length items)) (with_new string_class [] (map byte_of items) s) (Finishes (next_object s))
    else Charges (1 + length items) (with_new class items [] s) (Finishes (next_object s))

abbrev pub keeps_made : Store → Value → Bool
keeps_made s r = is_a s ordered_collection_class r || is_a s set_class r || is_a s dictionary_class r

abbrev pub collected : Store → LoopState → Visit
collected s l = if keeps_made s l.receiver then Finishes l.made else turned_into array_class s l

-- what `select:` and `reject:` answer: a String, a Set, the collection made, or an Array
abbrev pub selected : Store → LoopState → Visit
selected s l =
    if nat_eq (species s l.receiver) string_class then turned_into string_class s l else
    (if is_a s set_class l.receiver then turned_into set_class s l else
    (if keeps_made s l.receiver then Finishes l.made else turned_into array_class s l))

-- ---- Dictionaries: keys and values in turn

abbrev pub with_pair : Store → Value → Value → Value → Value → Visit
with_pair s r k v answer = appended s r (slots_of s r ++ k ∷ v ∷ []) (λ s'. Finishes answer)

abbrev pub value_at : Store → LoopState → Value
value_at s l = get_or (slots_of s l.receiver) (2 * place l - 1) Nil

abbrev pub set_value : Store → LoopState → Value → Store
set_value s l v = elim l.receiver [ Object n ↦ with_slot n (2 * place l - 1) v s | _ ↦ s ]

abbrev pub without : Store → Value → ℕ → Store
without s (Object n) i = without_element s n i
without s v i = s

-- ---- the visit at the loop's index, or the end

abbrev pub key_or_index : Store → LoopState → Value
key_or_index s l = if is_a s dictionary_class l.receiver then key s l.receiver (place l) else Integer l.index

-- `=` of Arrays and OrderedCollections: the argument no longer has the element
abbrev pub compared : Store → LoopState → Visit
compared s l =
    if nat_le (place l) (length (slots_of s (first l.arguments)))
    then Compares l (get_or (slots_of s l.receiver) (place l - 1) Nil) (get_or (slots_of s (first l.arguments)) (place l - 1) Nil)
    else Finishes False

unfoldable pub visit_at : Program → Store → LoopMessage → LoopState → Visit
visit_at p s LoopMessage.WhileTrue l = Applies l l.receiver []
visit_at p s LoopMessage.WhileFalse l = Applies l l.receiver []
visit_at p s LoopMessage.TimesRepeat l = if int_le l.index (integer_of l.receiver) then Applies l (first l.arguments) [] else Finishes l.receiver
visit_at p s LoopMessage.ToDo l = count_visit l
visit_at p s LoopMessage.ToByDo l = count_visit l
visit_at p s LoopMessage.Do l = within p s l (Applies l (first l.arguments) (here p s l ∷ [])) (Finishes l.receiver)
visit_at p s LoopMessage.DoSeparatedBy l = within p s l (separated_visit p s l) (Finishes l.receiver)
visit_at p s LoopMessage.ReverseDo l = within p s l (Applies l (first l.arguments) (here p s l ∷ [])) (Finishes l.receiver)
visit_at p s LoopMessage.KeysAndValuesDo l = within p s l (Applies l (first l.arguments) (key_or_index s l ∷ here p s l ∷ [])) (Finishes l.receiver)
visit_at p s LoopMessage.KeysDo l = within p s l (Applies l (first l.arguments) (key_or_index s l ∷ [])) (Finishes l.receiver)
visit_at p s LoopMessage.InjectInto l = within p s l (Applies l (second l.arguments) (l.made ∷ here p s l ∷ [])) (Finishes l.made)
visit_at p s LoopMessage.Detect l = within p s l (Applies (visiting (here p s l) l) (first l.arguments) (here p s l ∷ [])) (Lacks (past_all l))
visit_at p s LoopMessage.DetectIfNone l = within p s l (Applies (visiting (here p s l) l) (first l.arguments) (here p s l ∷ [])) (Applies (past_all l) (second l.arguments) [])
visit_at p s LoopMessage.AnySatisfy l = within p s l (Applies l (first l.arguments) (here p s l ∷ [])) (Finishes False)
visit_at p s LoopMessage.AllSatisfy l = within p s l (Applies l (first l.arguments) (here p s l ∷ [])) (Finishes True)
visit_at p s LoopMessage.Collect l = within p s l (Applies l (first l.arguments) (here p s l ∷ [])) (collected s l)
visit_at p s LoopMessage.Select l = within p s l (Applies (visiting (here p s l) l) (first l.arguments) (here p s l ∷ [])) (selected s l)
visit_at p s LoopMessage.Reject l = within p s l (Applies (visiting (here p s l) l) (first l.arguments) (here p s l ∷ [])) (selected s l)
visit_at p s LoopMessage.Includes l = within p s l (Compares l (first l.arguments) (here p s l)) (Finishes False)
visit_at p s LoopMessage.OccurrencesOf l = within p s l (Compares l (first l.arguments) (here p s l)) (Finishes l.made)
visit_at p s LoopMessage.IndexOf l = within p s l (Compares l (first l.arguments) (here p s l)) (Finishes (Integer (pos 0)))
visit_at p s LoopMessage.AddToSet l = within p s l (Compares l (first l.arguments) (here p s l)) (appended s l.receiver (slots_of s l.receiver ++ first l.arguments ∷ []) (λ s'. Finishes (first l.arguments)))
visit_at p s LoopMessage.Remove l = within p s l (Compares l (first l.arguments) (here p s l)) (Lacks (past_all l))
visit_at p s LoopMessage.RemoveIfAbsent l = within p s l (Compares l (first l.arguments) (here p s l)) (Applies (past_all l) (second l.arguments) [])
visit_at p s LoopMessage.At l = within p s l (Compares l (first l.arguments) (key s l.receiver (place l))) (Lacks (past_all l))
visit_at p s LoopMessage.AtIfAbsent l = within p s l (Compares l (first l.arguments) (key s l.receiver (place l))) (Applies (past_all l) (second l.arguments) [])
visit_at p s LoopMessage.AtPut l = within p s l (Compares l (first l.arguments) (key s l.receiver (place l))) (with_pair s l.receiver (first l.arguments) (second l.arguments) (second l.arguments))
visit_at p s LoopMessage.AtIfAbsentPut l = within p s l (Compares l (first l.arguments) (key s l.receiver (place l))) (Applies (past_all l) (second l.arguments) [])
visit_at p s LoopMessage.IncludesKey l = within p s l (Compares l (first l.arguments) (key s l.receiver (place l))) (Finishes False)
visit_at p s LoopMessage.RemoveKey l = within p s l (Compares l (first l.arguments) (key s l.receiver (place l))) (Lacks (past_all l))
visit_at p s LoopMessage.RemoveKeyIfAbsent l = within p s l (Compares l (first l.arguments) (key s l.receiver (place l))) (Applies (past_all l) (second l.arguments) [])
visit_at p s LoopMessage.EqualElements l = within p s l (compared s l) (Finishes True)
visit_at p s LoopMessage.NotEqual l = Compares l l.receiver (first l.arguments)

-- the visit of a loop where it is
abbrev pub visit : Program → Store → LoopState → Visit
visit p s l = visit_at p s l.message l

-- ---- what a value brings

-- the argument of a while loop, if there is one, else the receiver again
abbrev pub while_argument : LoopState → List Value → Visit
while_argument l [] = Applies l l.receiver []
while_argument l (block ∷ args) = Applies (beside l) block []

abbrev pub while_given : LoopState → Bool → Visit
while_given l goes_on = if l.aside then Applies (record l { aside = false }) l.receiver [] else (if goes_on then while_argument l l.arguments else Finishes Nil)

-- where none matched, the value of the block or of the signal is the loop's
abbrev pub answered : LoopState → Value → Visit → Visit
answered l v visit = if l.aside then Finishes v else visit

-- a match of `=` counts where an element still stands at the index
abbrev pub matched : Program → Store → LoopState → Value → Visit → Visit
matched p s l v found = if is_true v && is_within p s l then found else visit p s (further l)

abbrev pub removed : Program → Store → LoopState → Visit
removed p s l = Charges 0 (without s l.receiver (place l - 1)) (Finishes (here p s l))

abbrev pub pair_removed : Store → LoopState → Visit
pair_removed s l = Charges 0 (without (without s l.receiver (2 * place l - 1)) l.receiver (2 * place l - 2)) (Finishes (value_at s l))

abbrev pub pair_or_answer : Store → LoopState → Value → Visit
pair_or_answer s l v = if l.aside then with_pair s l.receiver (first l.arguments) v v else Finishes v

-- the lesser of the index below and the size now
abbrev pub downwards : Program → Store → LoopState → LoopState
downwards p s l = at_index (pos (min (place l - 1) (size_of p s l.receiver))) l

unfoldable pub given_at : Program → Store → LoopMessage → LoopState → Value → Visit
given_at p s LoopMessage.WhileTrue l v = while_given l (same_value v True)
given_at p s LoopMessage.WhileFalse l v = while_given l (same_value v False)
given_at p s LoopMessage.ToDo l v = count_visit (at_index (l.index +ℤ step_of l.message l.arguments) l)
given_at p s LoopMessage.ToByDo l v = count_visit (at_index (l.index +ℤ step_of l.message l.arguments) l)
given_at p s LoopMessage.DoSeparatedBy l v = if l.aside then visit p s l else visit p s (further l)
given_at p s LoopMessage.ReverseDo l v = visit p s (downwards p s l)
given_at p s LoopMessage.InjectInto l v = visit p s (made_to v (further l))
given_at p s LoopMessage.Detect l v = answered l v (if is_true v then Finishes l.visited else visit p s (further l))
given_at p s LoopMessage.DetectIfNone l v = answered l v (if is_true v then Finishes l.visited else visit p s (further l))
given_at p s LoopMessage.AnySatisfy l v = if is_true v then Finishes True else visit p s (further l)
given_at p s LoopMessage.AllSatisfy l v = if is_true v then visit p s (further l) else Finishes False
given_at p s LoopMessage.Collect l v = added s l v (λ s'. visit p s' (further l))
given_at p s LoopMessage.Select l v = if is_true v then added s l l.visited (λ s'. visit p s' (further l)) else visit p s (further l)
given_at p s LoopMessage.Reject l v = if is_true v then visit p s (further l) else added s l l.visited (λ s'. visit p s' (further l))
given_at p s LoopMessage.Includes l v = matched p s l v (Finishes True)
given_at p s LoopMessage.OccurrencesOf l v = matched p s l v (visit p s (made_to (Integer (integer_of l.made +ℤ pos 1)) (further l)))
given_at p s LoopMessage.IndexOf l v = matched p s l v (Finishes (Integer l.index))
given_at p s LoopMessage.AddToSet l v = matched p s l v (Finishes (first l.arguments))
given_at p s LoopMessage.Remove l v = answered l v (matched p s l v (removed p s l))
given_at p s LoopMessage.RemoveIfAbsent l v = answered l v (matched p s l v (removed p s l))
given_at p s LoopMessage.At l v = answered l v (matched p s l v (Finishes (value_at s l)))
given_at p s LoopMessage.AtIfAbsent l v = answered l v (matched p s l v (Finishes (value_at s l)))
given_at p s LoopMessage.AtPut l v = matched p s l v (Charges 0 (set_value s l (second l.arguments)) (Finishes (second l.arguments)))
given_at p s LoopMessage.AtIfAbsentPut l v = if l.aside then pair_or_answer s l v else matched p s l v (Finishes (value_at s l))
given_at p s LoopMessage.IncludesKey l v = matched p s l v (Finishes True)
given_at p s LoopMessage.RemoveKey l v = answered l v (matched p s l v (pair_removed s l))
given_at p s LoopMessage.RemoveKeyIfAbsent l v = answered l v (matched p s l v (pair_removed s l))
given_at p s LoopMessage.EqualElements l v = if is_true v then visit p s (further l) else Finishes False
given_at p s LoopMessage.NotEqual l v = Finishes (boolean (not (is_true v)))
given_at p s m l v = visit p s (further l)

-- the next visit, after this value
unfoldable pub next_visit : Program → Store → LoopState → Value → Visit
next_visit p s l v = given_at p s l.message l v

-- ---- the beginning of a loop

abbrev pub begun : LoopMessage → Value → List Value → ℤ → Value → LoopState
begun m r args index made = record { message = m; receiver = r; arguments = args; index = index; made = made; visited = Nil; aside = false }

-- a loop that makes a collection is charged for it once it stands
abbrev pub with_made : Program → Store → LoopState → Visit
with_made p s l = let s' = with_new ordered_collection_class [] [] s in Charges 1 s' (visit p s' (made_to (next_object s) l))

abbrev pub same_kind : Store → LoopState → Bool
same_kind s l = elim l.receiver [
  | Object n ↦ is_a s (object_at n s).class (first l.arguments) && nat_eq (length (object_at n s).slots) (length (slots_of s (first l.arguments)))
  | _ ↦ false
]

unfoldable pub first_of_message : Program → Store → LoopMessage → LoopState → Visit
first_of_message p s LoopMessage.Collect l = with_made p s l
first_of_message p s LoopMessage.Select l = with_made p s l
first_of_message p s LoopMessage.Reject l = with_made p s l
first_of_message p s LoopMessage.EqualElements l = if same_kind s l then visit p s l else Finishes False
first_of_message p s m l = visit p s l

-- the first visit of a loop that stands
unfoldable pub first_visit : Program → Store → LoopState → Visit
first_visit p s l = first_of_message p s l.message l

abbrev pub with_stop : Value → Action → Action
with_stop (Integer n) act = act
with_stop v act = Fails NumberExpected

abbrev pub with_step : Value → Action → Action
with_step (Integer n) act = if nat_eq (natural_of n) 0 && int_le (pos 0) n then Fails StepIsZero else act
with_step v act = Fails NumberExpected

-- a loop message, judged before its activation is made
unfoldable pub loop_action : Program → Store → LoopMessage → Value → List Value → Action
loop_action p s LoopMessage.WhileTrue r args = Iterates (begun LoopMessage.WhileTrue r args (pos 0) Nil)
loop_action p s LoopMessage.WhileFalse r args = Iterates (begun LoopMessage.WhileFalse r args (pos 0) Nil)
loop_action p s LoopMessage.ToDo r args = with_stop (first args) (Iterates (begun LoopMessage.ToDo r args (integer_of r) Nil))
loop_action p s LoopMessage.ToByDo r args = with_stop (first args) (with_step (second args) (Iterates (begun LoopMessage.ToByDo r args (integer_of r) Nil)))
loop_action p s LoopMessage.ReverseDo r args = Iterates (begun LoopMessage.ReverseDo r args (pos (size_of p s r)) Nil)
loop_action p s LoopMessage.InjectInto r args = Iterates (begun LoopMessage.InjectInto r args (pos 1) (first args))
loop_action p s LoopMessage.OccurrencesOf r args = Iterates (begun LoopMessage.OccurrencesOf r args (pos 1) (Integer (pos 0)))
loop_action p s LoopMessage.NotEqual r args = Iterates (begun LoopMessage.NotEqual r args (pos 0) Nil)
loop_action p s m r args = Iterates (begun m r args (pos 1) Nil)
