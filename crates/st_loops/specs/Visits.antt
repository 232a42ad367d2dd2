-- What a loop over elements does where an element stands at its index, and where none does.
use Rattle.std.specs.Prelude.{ℕ, ◌-◌, ◌+◌, ℤ, pos, Bool, true, false, not, ◌&&◌, ◌||◌, List, [], ◌∷◌, ◌++◌, map, length, get_or, nat_eq, nat_le, if◌then◌else◌}
use Rattle.object_heap.specs.declared.value.Value.{Value}
use Rattle.object_heap.specs.declared.value.Value.TheVariants.{Nil, True, False, Integer, Object}
use Rattle.object_heap.specs.Store.{Store}
use Rattle.object_heap.specs.Charges.{object_charge}
use Rattle.st_code.specs.BuiltIns.{string_class, array_class, ordered_collection_class, set_class, dictionary_class}
use Rattle.st_code.specs.Program.{Program}
use Rattle.st_code.specs.Messages.{LoopMessage}
use Rattle.st_collections.specs.Actions.{LoopState as State, Visit, Applies, Compares, Finishes, Lacks, Charges, first, second, next_object, with_new}
use Rattle.st_collections.specs.Kinds.{is_a, key, natural_of, size_of, slots_of, species}
use Rattle.st_collections.specs.SequenceRows.{with_elements}
use Rattle.st_collections.specs.TextRows.{byte_of}
use Rattle.st_loops.specs.States.{beside, past_all, visiting}

-- whether a loop goes over the elements of its receiver
abbrev pub has_elements : LoopMessage → Bool
has_elements LoopMessage.WhileTrue = false
has_elements LoopMessage.WhileFalse = false
has_elements LoopMessage.TimesRepeat = false
has_elements LoopMessage.ToDo = false
has_elements LoopMessage.ToByDo = false
has_elements LoopMessage.NotEqual = false
has_elements m = true

abbrev pub is_place : Program → Store → Value → ℤ → Bool
is_place p s r i = nat_le 1 (natural_of i) && nat_le (natural_of i) (size_of p s r)

-- ---- where an element stands

abbrev pub separated : State → Value → Visit
separated l v =
    if nat_le 2 (natural_of l.index) && not l.aside then Applies (beside l) (second l.arguments) []
    else Applies (record l { aside = false }) (first l.arguments) (v ∷ [])

abbrev pub key_or_index : Store → State → Value
key_or_index s l = if is_a s dictionary_class l.receiver then key s l.receiver (natural_of l.index) else Integer l.index

abbrev pub compared : Store → State → Visit
compared s l =
    if nat_le (natural_of l.index) (length (slots_of s (first l.arguments)))
    then Compares l (get_or (slots_of s l.receiver) (natural_of l.index - 1) Nil) (get_or (slots_of s (first l.arguments)) (natural_of l.index - 1) Nil)
    else Finishes False

-- the visit of this element
abbrev pub visited_at : Store → LoopMessage → State → Value → Visit
visited_at s LoopMessage.Do l v = Applies l (first l.arguments) (v ∷ [])
visited_at s LoopMessage.DoSeparatedBy l v = separated l v
visited_at s LoopMessage.ReverseDo l v = Applies l (first l.arguments) (v ∷ [])
visited_at s LoopMessage.KeysAndValuesDo l v = Applies l (first l.arguments) (key_or_index s l ∷ v ∷ [])
visited_at s LoopMessage.KeysDo l v = Applies l (first l.arguments) (key_or_index s l ∷ [])
visited_at s LoopMessage.InjectInto l v = Applies l (second l.arguments) (l.made ∷ v ∷ [])
visited_at s LoopMessage.Detect l v = Applies (visiting v l) (first l.arguments) (v ∷ [])
visited_at s LoopMessage.DetectIfNone l v = Applies (visiting v l) (first l.arguments) (v ∷ [])
visited_at s LoopMessage.AnySatisfy l v = Applies l (first l.arguments) (v ∷ [])
visited_at s LoopMessage.AllSatisfy l v = Applies l (first l.arguments) (v ∷ [])
visited_at s LoopMessage.Collect l v = Applies l (first l.arguments) (v ∷ [])
visited_at s LoopMessage.Select l v = Applies (visiting v l) (first l.arguments) (v ∷ [])
visited_at s LoopMessage.Reject l v = Applies (visiting v l) (first l.arguments) (v ∷ [])
visited_at s LoopMessage.Includes l v = Compares l (first l.arguments) v
visited_at s LoopMessage.OccurrencesOf l v = Compares l (first l.arguments) v
visited_at s LoopMessage.IndexOf l v = Compares l (first l.arguments) v
visited_at s LoopMessage.AddToSet l v = Compares l (first l.arguments) v
visited_at s LoopMessage.Remove l v = Compares l (first l.arguments) v
visited_at s LoopMessage.RemoveIfAbsent l v = Compares l (first l.arguments) v
visited_at s LoopMessage.EqualElements l v = compared s l
visited_at s LoopMessage.WhileTrue l v = Finishes Nil
visited_at s LoopMessage.WhileFalse l v = Finishes Nil
visited_at s LoopMessage.TimesRepeat l v = Finishes Nil
visited_at s LoopMessage.ToDo l v = Finishes Nil
visited_at s LoopMessage.ToByDo l v = Finishes Nil
visited_at s LoopMessage.NotEqual l v = Finishes Nil
visited_at s m l v = Compares l (first l.arguments) (key s l.receiver (natural_of l.index))

-- ---- where none does

-- an element at the end of a collection, with the cells of its growth, then the rest
abbrev pub appended : Store → Value → List Value → (Store → Visit) → Visit
appended s (Object number) slots rest = let g = with_elements s number slots in Charges g.cells g.store (rest g.store)
appended s v slots rest = rest s

abbrev pub with_pair : Store → Value → Value → Value → Visit
with_pair s r k v = appended s r (slots_of s r ++ k ∷ v ∷ []) (λ s'. Finishes v)

-- the items of the collection made as a new object of this class
abbrev pub turned_into : ℕ → Store → State → Visit
turned_into class s l =
    let items = slots_of s l.made in
    if nat_eq class string_class
    then Charges (object_charge 0 (length items)) (with_new string_class [] (map byte_of items) s) (Finishes (next_object s))
    else Charges (1 + length items) (with_new class items [] s) (Finishes (next_object s))

abbrev pub keeps_made : Store → Value → Bool
keeps_made s r = is_a s ordered_collection_class r || is_a s set_class r || is_a s dictionary_class r

abbrev pub collected : Store → State → Visit
collected s l = if keeps_made s l.receiver then Finishes l.made else turned_into array_class s l

abbrev pub selected : Store → State → Visit
selected s l =
    if nat_eq (species s l.receiver) string_class then turned_into string_class s l else
    (if is_a s set_class l.receiver then turned_into set_class s l else
    (if keeps_made s l.receiver then Finishes l.made else turned_into array_class s l))

-- the end of the loop
abbrev pub ended_at : Store → LoopMessage → State → Visit
ended_at s LoopMessage.InjectInto l = Finishes l.made
ended_at s LoopMessage.Detect l = Lacks (past_all l)
ended_at s LoopMessage.DetectIfNone l = Applies (past_all l) (second l.arguments) []
ended_at s LoopMessage.AnySatisfy l = Finishes False
ended_at s LoopMessage.AllSatisfy l = Finishes True
ended_at s LoopMessage.Collect l = collected s l
ended_at s LoopMessage.Select l = selected s l
ended_at s LoopMessage.Reject l = selected s l
ended_at s LoopMessage.Includes l = Finishes False
ended_at s LoopMessage.OccurrencesOf l = Finishes l.made
ended_at s LoopMessage.IndexOf l = Finishes (Integer (pos 0))
ended_at s LoopMessage.AddToSet l = appended s l.receiver (slots_of s l.receiver ++ first l.arguments ∷ []) (λ s'. Finishes (first l.arguments))
ended_at s LoopMessage.Remove l = Lacks (past_all l)
ended_at s LoopMessage.RemoveIfAbsent l = Applies (past_all l) (second l.arguments) []
ended_at s LoopMessage.At l = Lacks (past_all l)
ended_at s LoopMessage.AtIfAbsent l = Applies (past_all l) (second l.arguments) []
ended_at s LoopMessage.AtPut l = with_pair s l.receiver (first l.arguments) (second l.arguments)
ended_at s LoopMessage.AtIfAbsentPut l = Applies (past_all l) (second l.arguments) []
ended_at s LoopMessage.IncludesKey l = Finishes False
ended_at s LoopMessage.RemoveKey l = Lacks (past_all l)
ended_at s LoopMessage.RemoveKeyIfAbsent l = Applies (past_all l) (second l.arguments) []
ended_at s LoopMessage.EqualElements l = Finishes True
ended_at s m l = Finishes l.receiver
