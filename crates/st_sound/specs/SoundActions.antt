-- What messages and loops do at once leaves stores sound: what is asked of an action and of a visit.
use Rattle.std.specs.Prelude.{◌≡◌, true}
use Rattle.object_heap.specs.declared.value.Closure.{Closure}
use Rattle.object_heap.specs.Store.{Store}
use Rattle.st_code.specs.Lookup.{level_of}
use Rattle.st_code.specs.Program.{Program, body_at}
use Rattle.st_collections.specs.Actions.{Action, Changes, Makes, Activates, Iterates, Raises, RaisesNew, LoopState, Visit, Applies, Compares, Finishes, Lacks, Charges}
use Rattle.st_loops.specs.Requests.{IsKept}
use Rattle.st_sound.specs.Receivers.{takes_loop}
use Rattle.st_sound.specs.SoundStore.{SoundStore, is_free}

-- a loop: its receiver is of a class that has its message, and what it made is a collection as it stands
pub record LoopStands (s : Store) (l : LoopState) : Type 0 where
  pub receiver : takes_loop l.message (level_of s l.receiver).class ≡ true
  pub kept : IsKept s l.message l

-- a visit: the loop that waits for it, and the stores that come of it
abbrev pub VisitSound : Store → Visit → Type 0
VisitSound s (Applies l v args) = LoopStands s l
VisitSound s (Compares l r v) = LoopStands s l
VisitSound s (Finishes v) = Unit {0}
VisitSound s (Lacks l) = LoopStands s l
VisitSound s (Charges cells s' v) = SoundStore s' × VisitSound s' v

-- a closure is of the class that its code is written in
abbrev pub ClosureWritten : Program → Closure → Type 0
ClosureWritten p c = c.class ≡ (body_at p c.code).class

-- what a message does at once: the store that it leaves, the closure that it activates, the loop that it begins, and an exception that it makes
abbrev pub ActionSound : Program → Store → Action → Type 0
ActionSound p s (Changes s' v) = SoundStore s'
ActionSound p s (Makes cells s' v) = SoundStore s'
ActionSound p s (Activates c args) = ClosureWritten p c
ActionSound p s (Iterates l) = LoopStands s l
ActionSound p s (Raises s' e) = SoundStore s'
ActionSound p s (RaisesNew class slots) = is_free class ≡ true
ActionSound p s a = Unit {0}
