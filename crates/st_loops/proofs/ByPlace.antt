-- A loop's visit, by whether an element stands at its index.
use Rattle.std.proofs.Common.{◌≡◌, ℕ, ◌<◌, ℤ, pos, ◌&&◌, nat_le, Bool, true, false, if◌then◌else◌, refl, sym, ap, ◌∙◌}
use Rattle.std.proofs.lemmas.Bool.{lt-leb}
use Rattle.object_heap.specs.declared.value.Value.{Value}
use Rattle.object_heap.specs.Charges.{Memory}
use Rattle.object_heap.specs.Store.{Store}
use Rattle.st_code.specs.Program.{Program}
use Rattle.st_code.specs.Messages.{LoopMessage}
use Rattle.st_collections.specs.Actions.{LoopState as State, Visit, Applies, Compares, Finishes, Lacks}
use Rattle.st_collections.specs.Kinds.{element, natural_of, size_of}
use Rattle.st_collections.specs.Loops.{visit_at, is_within}
use Rattle.st_loops.specs.declared.places.Place.{Place}
use Rattle.st_loops.specs.declared.step.LoopStep.{LoopStep}
use Rattle.st_loops.specs.Places.{place_at}
use Rattle.st_loops.specs.States.{at_index, state_of, values_of}
use Rattle.st_loops.specs.Steps.{Next, Out, is_out, memory_after, seen, told_of, unless_out}
use Rattle.st_loops.specs.Visits.{ended_at, has_elements, is_place, visited_at}

-- an element stands at the index, or the loop is at its end
pub visit-by_place : (p : Program) (s : Store) (m : LoopMessage) (l : State) → has_elements m ≡ true → visit_at p s m l ≡ (if is_place p s l.receiver l.index then visited_at s m l (element p s l.receiver (natural_of l.index)) else ended_at s m l)
unfolding visit_at is_within
visit-by_place p s LoopMessage.WhileTrue l e = cc
visit-by_place p s LoopMessage.WhileFalse l e = cc
visit-by_place p s LoopMessage.TimesRepeat l e = cc
visit-by_place p s LoopMessage.ToDo l e = cc
visit-by_place p s LoopMessage.ToByDo l e = cc
visit-by_place p s LoopMessage.Do l e = refl
visit-by_place p s LoopMessage.DoSeparatedBy l e = refl
visit-by_place p s LoopMessage.ReverseDo l e = refl
visit-by_place p s LoopMessage.KeysAndValuesDo l e = refl
visit-by_place p s LoopMessage.KeysDo l e = refl
visit-by_place p s LoopMessage.InjectInto l e = refl
visit-by_place p s LoopMessage.Detect l e = refl
visit-by_place p s LoopMessage.DetectIfNone l e = refl
visit-by_place p s LoopMessage.AnySatisfy l e = refl
visit-by_place p s LoopMessage.AllSatisfy l e = refl
visit-by_place p s LoopMessage.Collect l e = refl
visit-by_place p s LoopMessage.Select l e = refl
visit-by_place p s LoopMessage.Reject l e = refl
visit-by_place p s LoopMessage.Includes l e = refl
visit-by_place p s LoopMessage.OccurrencesOf l e = refl
visit-by_place p s LoopMessage.IndexOf l e = refl
visit-by_place p s LoopMessage.AddToSet l e = refl
visit-by_place p s LoopMessage.Remove l e = refl
visit-by_place p s LoopMessage.RemoveIfAbsent l e = refl
visit-by_place p s LoopMessage.At l e = refl
visit-by_place p s LoopMessage.AtIfAbsent l e = refl
visit-by_place p s LoopMessage.AtPut l e = refl
visit-by_place p s LoopMessage.AtIfAbsentPut l e = refl
visit-by_place p s LoopMessage.IncludesKey l e = refl
visit-by_place p s LoopMessage.RemoveKey l e = refl
visit-by_place p s LoopMessage.RemoveKeyIfAbsent l e = refl
visit-by_place p s LoopMessage.EqualElements l e = refl
visit-by_place p s LoopMessage.NotEqual l e = cc

-- ---- by the place that was read

found_case : (b : Bool) (v w : Value) (x y : Visit) → Place.Element v ≡ (if b then Place.Element w else Place.Past) → (if b then x else y) ≡ x
found_case true v w x y e = refl
found_case false v w x y e = cc

found_value : (b : Bool) (v w : Value) → Place.Element v ≡ (if b then Place.Element w else Place.Past) → w ≡ v
found_value true v w e = cc
found_value false v w e = cc

pub visit-found : (p : Program) (s : Store) (m : LoopMessage) (l : State) (v : Value) → has_elements m ≡ true → Place.Element v ≡ place_at p s l.receiver l.index → visit_at p s m l ≡ visited_at s m l v
visit-found p s m l v h e =
    let b = is_place p s l.receiver l.index in
    let w = element p s l.receiver (natural_of l.index) in
    visit-by_place p s m l h ∙ found_case b v w (visited_at s m l w) (ended_at s m l) e ∙ ap (λ (x : Value). visited_at s m l x) (found_value b v w e)

past_case : (b : Bool) (w : Value) (x y : Visit) → Place.Past ≡ (if b then Place.Element w else Place.Past) → (if b then x else y) ≡ y
past_case true w x y e = cc
past_case false w x y e = refl

pub visit-past : (p : Program) (s : Store) (m : LoopMessage) (l : State) → has_elements m ≡ true → Place.Past ≡ place_at p s l.receiver l.index → visit_at p s m l ≡ ended_at s m l
visit-past p s m l h e =
    let w = element p s l.receiver (natural_of l.index) in
    visit-by_place p s m l h ∙ past_case (is_place p s l.receiver l.index) w (visited_at s m l w) (ended_at s m l) e

-- ---- a step that tells a visit charges nothing

free_told : (r : LoopStep) (v : Visit) (m : Memory) → seen r ≡ Next v → told_of v m ≡ Next v
free_told (LoopStep.Apply l b a) v m e = let is : v ≡ Applies (state_of l) b (values_of a) = cc in rw is refl
free_told (LoopStep.Equal l x y) v m e = let is : v ≡ Compares (state_of l) x y = cc in rw is refl
free_told (LoopStep.Answer x) v m e = let is : v ≡ Finishes x = cc in rw is refl
free_told (LoopStep.Lacking l) v m e = let is : v ≡ Lacks (state_of l) = cc in rw is refl
free_told (LoopStep.Cells u c) v m e = cc
free_told LoopStep.OutOfMemory v m e = cc

free_memory : (r : LoopStep) (v : Visit) (m : Memory) → seen r ≡ Next v → memory_after v m ≡ m
free_memory (LoopStep.Apply l b a) v m e = let is : v ≡ Applies (state_of l) b (values_of a) = cc in rw is refl
free_memory (LoopStep.Equal l x y) v m e = let is : v ≡ Compares (state_of l) x y = cc in rw is refl
free_memory (LoopStep.Answer x) v m e = let is : v ≡ Finishes x = cc in rw is refl
free_memory (LoopStep.Lacking l) v m e = let is : v ≡ Lacks (state_of l) = cc in rw is refl
free_memory (LoopStep.Cells u c) v m e = cc
free_memory LoopStep.OutOfMemory v m e = cc

pub told-free : (r : LoopStep) (v : Visit) (m : Memory) → seen r ≡ Next v → seen r ≡ unless_out (seen r) Out (told_of v m)
told-free r v m e = rw e (sym (free_told r v m e))

pub memory-free : (r : LoopStep) (v : Visit) (m m' : Memory) → seen r ≡ Next v → m' ≡ m → m' ≡ unless_out (seen r) m (memory_after v m)
memory-free r v m m' e same = rw e (same ∙ sym (free_memory r v m e))

pub not_out : (r : LoopStep) (v : Visit) → seen r ≡ Next v → is_out (seen r) ≡ false
not_out r v e = rw e refl

-- ---- an index that no element has

pub ended-index : (s : Store) (m : LoopMessage) (l : State) (i : ℤ) → ended_at s m (at_index i l) ≡ ended_at s m l
ended-index s LoopMessage.WhileTrue l i = refl
ended-index s LoopMessage.WhileFalse l i = refl
ended-index s LoopMessage.TimesRepeat l i = refl
ended-index s LoopMessage.ToDo l i = refl
ended-index s LoopMessage.ToByDo l i = refl
ended-index s LoopMessage.Do l i = refl
ended-index s LoopMessage.DoSeparatedBy l i = refl
ended-index s LoopMessage.ReverseDo l i = refl
ended-index s LoopMessage.KeysAndValuesDo l i = refl
ended-index s LoopMessage.KeysDo l i = refl
ended-index s LoopMessage.InjectInto l i = refl
ended-index s LoopMessage.Detect l i = refl
ended-index s LoopMessage.DetectIfNone l i = refl
ended-index s LoopMessage.AnySatisfy l i = refl
ended-index s LoopMessage.AllSatisfy l i = refl
ended-index s LoopMessage.Collect l i = refl
ended-index s LoopMessage.Select l i = refl
ended-index s LoopMessage.Reject l i = refl
ended-index s LoopMessage.Includes l i = refl
ended-index s LoopMessage.OccurrencesOf l i = refl
ended-index s LoopMessage.IndexOf l i = refl
ended-index s LoopMessage.AddToSet l i = refl
ended-index s LoopMessage.Remove l i = refl
ended-index s LoopMessage.RemoveIfAbsent l i = refl
ended-index s LoopMessage.At l i = refl
ended-index s LoopMessage.AtIfAbsent l i = refl
ended-index s LoopMessage.AtPut l i = refl
ended-index s LoopMessage.AtIfAbsentPut l i = refl
ended-index s LoopMessage.IncludesKey l i = refl
ended-index s LoopMessage.RemoveKey l i = refl
ended-index s LoopMessage.RemoveKeyIfAbsent l i = refl
ended-index s LoopMessage.EqualElements l i = refl
ended-index s LoopMessage.NotEqual l i = refl

behind_case : (a b : Bool) (x y : Visit) → b ≡ false → (if a && b then x else y) ≡ y
behind_case true b x y e = rw e refl
behind_case false b x y e = refl

-- an index past the size
pub visit-behind : (p : Program) (s : Store) (m : LoopMessage) (l : State) (i : ℕ) → has_elements m ≡ true → size_of p s l.receiver < i → visit_at p s m (at_index (pos i) l) ≡ ended_at s m l
visit-behind p s m l i h past =
    let size = size_of p s l.receiver in
    let high : nat_le i size ≡ false = lt-leb i size past in
    visit-by_place p s m (at_index (pos i) l) h ∙ behind_case (nat_le 1 i) (nat_le i size) (visited_at s m (at_index (pos i) l) (element p s l.receiver i)) (ended_at s m (at_index (pos i) l)) high ∙ ended-index s m l (pos i)
