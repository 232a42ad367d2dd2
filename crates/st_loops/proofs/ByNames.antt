-- Of a program, the loops ask for its names alone.
use Rattle.std.proofs.Common.{◌≡◌, true, List, refl, sym, ap, ◌∙◌}
use Rattle.object_heap.specs.declared.value.Value.{Value}
use Rattle.object_heap.specs.Store.{Store}
use Rattle.st_code.specs.Texts.{Text}
use Rattle.st_code.specs.Program.{Program}
use Rattle.st_code.specs.Messages.{LoopMessage}
use Rattle.st_collections.specs.Actions.{LoopState as State}
use Rattle.st_collections.specs.Answers.{program_of}
use Rattle.st_collections.specs.Kinds.{natural_of}
use Rattle.st_collections.specs.Loops.{given_at, is_within, next_visit, visit_at}
use Rattle.st_collections.proofs.ByNames.{same_element, same_size}
use Rattle.st_loops.specs.Visits.{has_elements}
use Rattle.st_loops.proofs.ByPlace.{visit-by_place}

by_place-names : (p : Program) (s : Store) (m : LoopMessage) (l : State) → has_elements m ≡ true → visit_at p s m l ≡ visit_at (program_of p.names) s m l
by_place-names p s m l h =
    visit-by_place p s m l h
    ∙ (rw (same_size p s l.receiver, same_element p s l.receiver (natural_of l.index)) (sym (visit-by_place (program_of p.names) s m l h)))

pub visit-names : (p : Program) (s : Store) (m : LoopMessage) (l : State) → visit_at p s m l ≡ visit_at (program_of p.names) s m l
unfolding visit_at
visit-names p s LoopMessage.WhileTrue l = refl
visit-names p s LoopMessage.WhileFalse l = refl
visit-names p s LoopMessage.TimesRepeat l = refl
visit-names p s LoopMessage.ToDo l = refl
visit-names p s LoopMessage.ToByDo l = refl
visit-names p s LoopMessage.Do l = by_place-names p s LoopMessage.Do l refl
visit-names p s LoopMessage.DoSeparatedBy l = by_place-names p s LoopMessage.DoSeparatedBy l refl
visit-names p s LoopMessage.ReverseDo l = by_place-names p s LoopMessage.ReverseDo l refl
visit-names p s LoopMessage.KeysAndValuesDo l = by_place-names p s LoopMessage.KeysAndValuesDo l refl
visit-names p s LoopMessage.KeysDo l = by_place-names p s LoopMessage.KeysDo l refl
visit-names p s LoopMessage.InjectInto l = by_place-names p s LoopMessage.InjectInto l refl
visit-names p s LoopMessage.Detect l = by_place-names p s LoopMessage.Detect l refl
visit-names p s LoopMessage.DetectIfNone l = by_place-names p s LoopMessage.DetectIfNone l refl
visit-names p s LoopMessage.AnySatisfy l = by_place-names p s LoopMessage.AnySatisfy l refl
visit-names p s LoopMessage.AllSatisfy l = by_place-names p s LoopMessage.AllSatisfy l refl
visit-names p s LoopMessage.Collect l = by_place-names p s LoopMessage.Collect l refl
visit-names p s LoopMessage.Select l = by_place-names p s LoopMessage.Select l refl
visit-names p s LoopMessage.Reject l = by_place-names p s LoopMessage.Reject l refl
visit-names p s LoopMessage.Includes l = by_place-names p s LoopMessage.Includes l refl
visit-names p s LoopMessage.OccurrencesOf l = by_place-names p s LoopMessage.OccurrencesOf l refl
visit-names p s LoopMessage.IndexOf l = by_place-names p s LoopMessage.IndexOf l refl
visit-names p s LoopMessage.AddToSet l = by_place-names p s LoopMessage.AddToSet l refl
visit-names p s LoopMessage.Remove l = by_place-names p s LoopMessage.Remove l refl
visit-names p s LoopMessage.RemoveIfAbsent l = by_place-names p s LoopMessage.RemoveIfAbsent l refl
visit-names p s LoopMessage.At l = by_place-names p s LoopMessage.At l refl
visit-names p s LoopMessage.AtIfAbsent l = by_place-names p s LoopMessage.AtIfAbsent l refl
visit-names p s LoopMessage.AtPut l = by_place-names p s LoopMessage.AtPut l refl
visit-names p s LoopMessage.AtIfAbsentPut l = by_place-names p s LoopMessage.AtIfAbsentPut l refl
visit-names p s LoopMessage.IncludesKey l = by_place-names p s LoopMessage.IncludesKey l refl
visit-names p s LoopMessage.RemoveKey l = by_place-names p s LoopMessage.RemoveKey l refl
visit-names p s LoopMessage.RemoveKeyIfAbsent l = by_place-names p s LoopMessage.RemoveKeyIfAbsent l refl
visit-names p s LoopMessage.EqualElements l = by_place-names p s LoopMessage.EqualElements l refl
visit-names p s LoopMessage.NotEqual l = refl

pub given-names : (p : Program) (s : Store) (m : LoopMessage) (l : State) (v : Value) → given_at p s m l v ≡ given_at (program_of p.names) s m l v
unfolding given_at is_within
given-names p s LoopMessage.WhileTrue l v = refl
given-names p s LoopMessage.WhileFalse l v = refl
given-names p s LoopMessage.TimesRepeat l v = simp (visit-names p)
given-names p s LoopMessage.ToDo l v = refl
given-names p s LoopMessage.ToByDo l v = refl
given-names p s LoopMessage.Do l v = simp (visit-names p)
given-names p s LoopMessage.DoSeparatedBy l v = simp (visit-names p)
given-names p s LoopMessage.ReverseDo l v = simp (visit-names p, same_size p)
given-names p s LoopMessage.KeysAndValuesDo l v = simp (visit-names p)
given-names p s LoopMessage.KeysDo l v = simp (visit-names p)
given-names p s LoopMessage.InjectInto l v = simp (visit-names p)
given-names p s LoopMessage.Detect l v = simp (visit-names p)
given-names p s LoopMessage.DetectIfNone l v = simp (visit-names p)
given-names p s LoopMessage.AnySatisfy l v = simp (visit-names p)
given-names p s LoopMessage.AllSatisfy l v = simp (visit-names p)
given-names p s LoopMessage.Collect l v = simp (visit-names p)
given-names p s LoopMessage.Select l v = simp (visit-names p)
given-names p s LoopMessage.Reject l v = simp (visit-names p)
given-names p s LoopMessage.Includes l v = simp (visit-names p, same_size p)
given-names p s LoopMessage.OccurrencesOf l v = simp (visit-names p, same_size p)
given-names p s LoopMessage.IndexOf l v = simp (visit-names p, same_size p)
given-names p s LoopMessage.AddToSet l v = simp (visit-names p, same_size p)
given-names p s LoopMessage.Remove l v = simp (visit-names p, same_size p, same_element p)
given-names p s LoopMessage.RemoveIfAbsent l v = simp (visit-names p, same_size p, same_element p)
given-names p s LoopMessage.At l v = simp (visit-names p, same_size p)
given-names p s LoopMessage.AtIfAbsent l v = simp (visit-names p, same_size p)
given-names p s LoopMessage.AtPut l v = simp (visit-names p, same_size p)
given-names p s LoopMessage.AtIfAbsentPut l v = simp (visit-names p, same_size p)
given-names p s LoopMessage.IncludesKey l v = simp (visit-names p, same_size p)
given-names p s LoopMessage.RemoveKey l v = simp (visit-names p, same_size p)
given-names p s LoopMessage.RemoveKeyIfAbsent l v = simp (visit-names p, same_size p)
given-names p s LoopMessage.EqualElements l v = simp (visit-names p)
given-names p s LoopMessage.NotEqual l v = refl

pub next_visit-names : (p : Program) (names : List Text) (s : Store) (l : State) (v : Value) → p.names ≡ names → next_visit p s l v ≡ given_at (program_of names) s l.message l v
unfolding next_visit
next_visit-names p names s l v e = given-names p s l.message l v ∙ ap (λ (ns : List Text). given_at (program_of ns) s l.message l v) e
