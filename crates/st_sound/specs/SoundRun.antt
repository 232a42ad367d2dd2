-- What is claimed of a run: at each small step of the flat machine the store is sound, and each loop that stands has a receiver and a collection made as it left them.
use Rattle.std.specs.Prelude.{◌≡◌, ℕ, List, [], ◌∷◌, true}
use Rattle.object_heap.specs.declared.value.Closure.{Closure}
use Rattle.object_heap.specs.Store.{Store}
use Rattle.st_code.specs.Program.{Program, body_at}
use Rattle.st_rules.specs.Compilable.{Compilable}
use Rattle.st_rules.specs.Flat.{FlatBody}
use Rattle.st_rules.specs.Flattened.{flat_of}
use Rattle.st_rules.specs.Machine.{Act, BodyAct, Leaving, LoopAct, Mach, Run, Settle, Begin, Over, Stuck}
use Rattle.st_rules.specs.Objects.{KnowsLiterals}
use Rattle.st_rules.specs.Rules.{Use, Activate, Perform, RaiseNew, VisitBy}
use Rattle.st_rules.specs.Selves.{KnowsClasses}
use Rattle.st_rules.specs.State.{State}
use Rattle.st_rules.specs.Turns.{Top, On, Ended, opened_run, top_iter}
use Rattle.st_sound.specs.KnownCollections.{KnowsCollections}
use Rattle.st_sound.specs.SoundActions.{LoopStands, VisitSound, ClosureWritten, ActionSound}
use Rattle.st_sound.specs.SoundStore.{SoundStore, is_free}

module _ (p : Program) where
  -- a body is of the class that their code is written in
  abbrev pub BodyWritten : FlatBody → Type 0
  BodyWritten x = x.class ≡ (body_at p x.code).class

  abbrev pub ClosuresWritten : List Closure → Type 0
  ClosuresWritten [] = Unit {0}
  ClosuresWritten (c ∷ closures) = ClosureWritten p c × ClosuresWritten closures

  abbrev pub UseSound : Store → Use → Type 0
  UseSound s (Activate c args env) = ClosureWritten p c
  UseSound s (Perform a env) = ActionSound p s a
  UseSound s (RaiseNew class slots env) = is_free class ≡ true
  UseSound s (VisitBy n v env) = VisitSound s v
  UseSound s u = Unit {0}

  abbrev pub ActSound : Store → Act FlatBody → Type 0
  ActSound s (BodyAct x) = BodyWritten x
  ActSound s (Leaving x) = BodyWritten x
  ActSound s (LoopAct n l env) = LoopStands s l
  ActSound s a = Unit {0}

  -- all that stands
  abbrev pub ActsSound : Store → List (Act FlatBody) → Type 0
  ActsSound s [] = Unit {0}
  ActsSound s (a ∷ acts) = ActSound s a × ActsSound s acts

  abbrev pub StateSound : State → Type 0
  StateSound st = SoundStore st.store × ClosuresWritten st.store.closures

  abbrev pub MachSound : Mach FlatBody → Type 0
  MachSound (Run x acts st) = StateSound st × BodyWritten x × ActsSound st.store acts
  MachSound (Settle o acts st) = StateSound st × ActsSound st.store acts
  MachSound (Begin u acts st) = StateSound st × UseSound st.store u × ActsSound st.store acts
  MachSound (Over o st) = StateSound st
  MachSound (Stuck st) = StateSound st

  abbrev pub TopSound : Top FlatBody → Type 0
  TopSound (On target xs m) = MachSound m
  TopSound (Ended e st) = StateSound st

-- each store that a run comes to is sound
abbrev pub StoresAreSound : Type 0
StoresAreSound = (p : Program) → Compilable p → KnowsLiterals p → KnowsClasses p → KnowsCollections p → (n : ℕ) → TopSound p (top_iter (flat_of p) p n (opened_run (flat_of p) p))
