-- The visit of a loop over elements, where the element at its index was read in place.
use Rattle.std.proofs.Common.{◌≡◌, ℤ, true, false, refl}
use Rattle.object_heap.specs.declared.value.Value.{Value}
use Rattle.object_heap.specs.Store.{Store}
use Rattle.st_code.specs.Messages.{LoopMessage}
use Rattle.st_code.specs.Program.{Program}
use Rattle.st_collections.specs.Actions.{LoopState as State, first, second}
use Rattle.st_collections.specs.Kinds.{element, natural_of, size_of}
use Rattle.st_collections.specs.Loops.{at_index, is_within, made_to, visit_at}
use Rattle.st_sprint.specs.declared.moves.Move.{Move}
use Rattle.st_sprint.specs.declared.places.Place.{Place}
use Rattle.st_sprint.specs.Moves.{visit_by}
use Rattle.st_sprint.specs.Places.{IsPlace, is_index}

module _ (p : Program) (s : Store) (i : ℤ) (l : State) (place : Place) (h : IsPlace p s l.receiver i place) where
  pub visits_element : (block w v : Value) → place ≡ Place.Element w → block ≡ first l.arguments → visit_by (Move.Visit i block w) l v ≡ visit_at p s LoopMessage.Do (at_index i l)
  unfolding visit_at is_within
  visits_element block w v e eb =
      let there : (is_index i (size_of p s l.receiver) ≡ true) × (element p s l.receiver (natural_of i) ≡ w) = rw e at h in
      rw (eb, there.0, there.1) refl

  pub visits_no_more : (v : Value) → place ≡ Place.Past → visit_by (Move.Finish l.receiver) l v ≡ visit_at p s LoopMessage.Do (at_index i l)
  unfolding visit_at is_within
  visits_no_more v e =
      let past : is_index i (size_of p s l.receiver) ≡ false = rw e at h in
      rw past refl

  pub injects_element : (block w v : Value) → place ≡ Place.Element w → block ≡ second l.arguments → visit_by (Move.Inject i block w) l v ≡ visit_at p s LoopMessage.InjectInto (made_to v (at_index i l))
  unfolding visit_at is_within
  injects_element block w v e eb =
      let there : (is_index i (size_of p s l.receiver) ≡ true) × (element p s l.receiver (natural_of i) ≡ w) = rw e at h in
      rw (eb, there.0, there.1) refl

  pub injects_no_more : (v : Value) → place ≡ Place.Past → visit_by (Move.Finish v) l v ≡ visit_at p s LoopMessage.InjectInto (made_to v (at_index i l))
  unfolding visit_at is_within
  injects_no_more v e =
      let past : is_index i (size_of p s l.receiver) ≡ false = rw e at h in
      rw past refl
