-- What is claimed of the numbers of objects and classes: each that a run of the flat machine has in hand names one. The definitions are those of st_rules for objects alone, with classes beside.
use Rattle.std.specs.Prelude.{◌≡◌, ◌⊎◌, ℕ, ◌+◌, ◌<◌, ◌≤◌, List, [], ◌∷◌, ◌++◌, length, slice_get, Option, Some, None}
use Rattle.object_heap.specs.declared.value.Value.{Value}
use Rattle.object_heap.specs.declared.value.Value.TheVariants.{Class, Meta, Object}
use Rattle.object_heap.specs.declared.value.Closure.{Closure}
use Rattle.object_heap.specs.declared.trouble.Trouble.{Trouble}
use Rattle.object_heap.specs.Troubles.{place_of}
use Rattle.object_heap.specs.Store.{Store, Scope, Object as HeapObject, object_at}
use Rattle.st_code.specs.declared.instruction.Instruction.{Instruction}
use Rattle.st_code.specs.declared.instruction.Instruction.TheVariants.{PushConstant}
use Rattle.st_code.specs.Texts.{Text}
use Rattle.st_code.specs.Named.{NamedUnit}
use Rattle.st_code.specs.Definitions.{RunLimits, program_of}
use Rattle.st_code.specs.Program.{Program, Initializer, body_at, class_at}
use Rattle.st_code.specs.Compiled.{compile_of, constant_value}
use Rattle.st_collections.specs.Actions.{Action, Gives, Changes, Makes, Writes, Fails, DividesByZero, PassesIntegers, Begins, Activates, Sends, Misses, Enters, Guards, Ensures, Curtails, Iterates, Raises, RaisesNew, Controls, Terminates, LoopState, Visit, Applies, Compares, Finishes, Lacks, Charges}
use Rattle.st_rules.specs.State.{State, Entry, Env, Target, Resignal, Outcome, Answer, Go, Stop, Turn}
use Rattle.st_rules.specs.Ends.{Search, Purpose, ForSignal, ForPass, ForOuter, ForNested, Wait, ToResume, ToOuter}
use Rattle.st_rules.specs.Rules.{Use, Apply, Activate, Enter, SendTo, SuperTo, Perform, Raise, RaiseNew, SignalPoint, Resignaled, SearchIn, TurnBy, Ask, Protect, Finish, VisitBy, RunBody}
use Rattle.st_rules.specs.Machine.{Act, BodyAct, Leaving, ProtectAct, EnsureOn, CurtailOn, ActionOff, SignalAct, HandlerRun, OuterAct, ResumeWait, HandlesWait, LoopAct, Mach, Run, Settle, Begin, Over, Stuck}
use Rattle.st_rules.specs.Flat.{FlatBody}
use Rattle.st_rules.specs.Turns.{Top, On, Ended, opened_run, top_iter}
use Rattle.st_rules.specs.Flattened.{flat_of}
use Rattle.st_rules.specs.Compilable.{Compilable}
use Rattle.st_rules.specs.Objects.{AllCodes, KnowsLiterals}
use Rattle.st_rules.specs.Selves.{KnowsClasses}
use Rattle.st_sound.specs.KnownCollections.{Extends, KnowsCollections}
use Rattle.law_values.specs.KnownBuilt.{KnowsBuilt}

-- for so many classes
module _ (C : ℕ) where
  -- ---- values: an object is one of the first so many, and a class one of so many

  abbrev pub Has : ℕ → Value → Type 0
  Has k (Object n) = n < k
  Has k (Class n) = n < C
  Has k (Meta n) = n < C
  Has k v = Unit {0}

  abbrev pub AllHave : ℕ → List Value → Type 0
  AllHave k [] = Unit {0}
  AllHave k (v ∷ vs) = Has k v × AllHave k vs

  -- ---- objects, scopes and closures

  abbrev pub ObjectsHave : ℕ → List HeapObject → Type 0
  ObjectsHave k [] = Unit {0}
  ObjectsHave k (o ∷ objects) = AllHave k o.slots × ObjectsHave k objects

  abbrev pub ScopesHave : ℕ → List Scope → Type 0
  ScopesHave k [] = Unit {0}
  ScopesHave k (s ∷ scopes) = AllHave k s.variables × ScopesHave k scopes

  abbrev pub ClosureHas : ℕ → Closure → Type 0
  ClosureHas k c = Has k c.receiver × Has k c.class

  abbrev pub ClosuresHave : ℕ → List Closure → Type 0
  ClosuresHave k [] = Unit {0}
  ClosuresHave k (c ∷ closures) = ClosureHas k c × ClosuresHave k closures

  -- ---- environments, turns and outcomes

  abbrev pub EntryHas : ℕ → Entry → Type 0
  EntryHas k e = Has k e.selector × Has k e.handler

  abbrev pub EnvHas : ℕ → Env → Type 0
  EnvHas k [] = Unit {0}
  EnvHas k (e ∷ env) = EntryHas k e × EnvHas k env

  abbrev pub EntryOrNone : ℕ → Option Entry → Type 0
  EntryOrNone k None = Unit {0}
  EntryOrNone k (Some e) = EntryHas k e

  abbrev pub TurnHas : ℕ → Turn → Type 0
  TurnHas k t = (t.exception < k) × EntryOrNone k t.entry × EnvHas k t.outside

  abbrev pub TargetHas : ℕ → Target → Type 0
  TargetHas k (Resignal n f) = f < k
  TargetHas k t = Unit {0}

  abbrev pub OutcomeHas : ℕ → Outcome → Type 0
  OutcomeHas k (Answer v) = Has k v
  OutcomeHas k (Go t v) = TargetHas k t × Has k v
  OutcomeHas k (Stop l) = Unit {0}

  abbrev pub PurposeHas : ℕ → Purpose → Type 0
  PurposeHas k ForSignal = Unit {0}
  PurposeHas k (ForPass t) = TurnHas k t
  PurposeHas k (ForOuter t point) = TurnHas k t
  PurposeHas k ForNested = Unit {0}

  abbrev pub SearchHas : ℕ → Search → Type 0
  SearchHas k x = (x.exception < k) × EnvHas k x.whole × PurposeHas k x.purpose

  abbrev pub WaitHas : ℕ → Wait → Type 0
  WaitHas k (ToResume v) = Has k v
  WaitHas k ToOuter = Unit {0}

  abbrev pub LoopHas : ℕ → LoopState → Type 0
  LoopHas k l = Has k l.receiver × AllHave k l.arguments × Has k l.made × Has k l.visited

  -- ---- what messages do at once

  -- a store with the closures and scopes of another, no fewer objects, each of its class, and values that are there
  pub record Grown (s s' : Store) : Type 0 where
    pub closures : s'.closures ≡ s.closures
    pub scopes : s'.scopes ≡ s.scopes
    pub more : length s.objects ≤ length s'.objects
    pub classes : (n : ℕ) → n < length s.objects → (object_at n s').class ≡ (object_at n s).class
    pub objects : ObjectsHave (length s'.objects) s'.objects

  -- the store with other closures
  abbrev pub with_closures : List Closure → Store → Store
  with_closures cs s = record { objects = s.objects; closures = cs; scopes = s.scopes }

  -- these closures, and one of them once more
  pub record OneAgain (cs cs' : List Closure) : Type 0 where
    pub place : ℕ
    pub closure : Closure
    pub is : slice_get cs place ≡ Some closure
    pub added : cs' ≡ cs ++ closure ∷ []

  abbrev pub SameOrOneAgain : List Closure → List Closure → Type 0
  SameOrOneAgain cs cs' = (cs' ≡ cs) ⊎ OneAgain cs cs'

  -- the same as grown, but for the closure of a block that was copied
  pub record Made (s s' : Store) : Type 0 where
    pub grown : Grown s (with_closures s.closures s')
    pub closures : SameOrOneAgain s.closures s'.closures

  abbrev pub VisitHas : Store → Visit → Type 0
  VisitHas s (Applies l v args) = LoopHas (length s.objects) l × Has (length s.objects) v × AllHave (length s.objects) args
  VisitHas s (Compares l r v) = LoopHas (length s.objects) l × Has (length s.objects) r × Has (length s.objects) v
  VisitHas s (Finishes v) = Has (length s.objects) v
  VisitHas s (Lacks l) = LoopHas (length s.objects) l
  VisitHas s (Charges cells s' v) = Grown s s' × VisitHas s' v

  abbrev pub ActionHas : Store → Action → Type 0
  ActionHas s (Gives v) = Has (length s.objects) v
  ActionHas s (Changes s' v) = Grown s s' × Has (length s'.objects) v
  ActionHas s (Makes cells s' v) = Made s s' × Has (length s'.objects) v
  ActionHas s (Writes text v) = Has (length s.objects) v
  ActionHas s (Fails trouble) = Unit {0}
  ActionHas s (DividesByZero v) = Has (length s.objects) v
  ActionHas s PassesIntegers = Unit {0}
  ActionHas s (Begins v args) = Has (length s.objects) v × AllHave (length s.objects) args
  ActionHas s (Activates c args) = ClosureHas (length s.objects) c × AllHave (length s.objects) args
  ActionHas s (Sends selector r args) = Has (length s.objects) r × AllHave (length s.objects) args
  ActionHas s (Misses selector r args) = Has (length s.objects) r × AllHave (length s.objects) args
  ActionHas s (Enters code r args) = Has (length s.objects) r × AllHave (length s.objects) args
  ActionHas s (Guards receiver selector handler) = Has (length s.objects) receiver × Has (length s.objects) selector × Has (length s.objects) handler
  ActionHas s (Ensures receiver block) = Has (length s.objects) receiver × Has (length s.objects) block
  ActionHas s (Curtails receiver block) = Has (length s.objects) receiver × Has (length s.objects) block
  ActionHas s (Iterates l) = LoopHas (length s.objects) l
  ActionHas s (Raises s' e) = Grown s s' × (e < length s'.objects)
  ActionHas s (RaisesNew class slots) = AllHave (length s.objects) slots
  ActionHas s (Controls c e v) = (e < length s.objects) × Has (length s.objects) v
  ActionHas s (Terminates v) = Has (length s.objects) v

  abbrev pub UseHas : Store → Use → Type 0
  UseHas s (Apply v args env) = Has (length s.objects) v × AllHave (length s.objects) args × EnvHas (length s.objects) env
  UseHas s (Activate c args env) = ClosureHas (length s.objects) c × AllHave (length s.objects) args × EnvHas (length s.objects) env
  UseHas s (Enter code r args env) = Has (length s.objects) r × AllHave (length s.objects) args × EnvHas (length s.objects) env
  UseHas s (SendTo selector r args env) = Has (length s.objects) r × AllHave (length s.objects) args × EnvHas (length s.objects) env
  UseHas s (SuperTo class selector r args env) = Has (length s.objects) r × AllHave (length s.objects) args × EnvHas (length s.objects) env
  UseHas s (Perform a env) = ActionHas s a × EnvHas (length s.objects) env
  UseHas s (Raise e env) = (e < length s.objects) × EnvHas (length s.objects) env
  UseHas s (RaiseNew class slots env) = AllHave (length s.objects) slots × EnvHas (length s.objects) env
  UseHas s (SignalPoint n e env) = (e < length s.objects) × EnvHas (length s.objects) env
  UseHas s (Resignaled n e f env) = (e < length s.objects) × (f < length s.objects) × EnvHas (length s.objects) env
  UseHas s (SearchIn x rest) = SearchHas (length s.objects) x × EnvHas (length s.objects) rest
  UseHas s (TurnBy x entry outside) = SearchHas (length s.objects) x × EntryOrNone (length s.objects) entry × EnvHas (length s.objects) outside
  UseHas s (Ask w k t env) = WaitHas (length s.objects) w × TurnHas (length s.objects) t × EnvHas (length s.objects) env
  UseHas s (Protect receiver entry env) = Has (length s.objects) receiver × EntryHas (length s.objects) entry × EnvHas (length s.objects) env
  UseHas s (Finish n block held env) = Has (length s.objects) block × OutcomeHas (length s.objects) held × EnvHas (length s.objects) env
  UseHas s (VisitBy n v env) = VisitHas s v × EnvHas (length s.objects) env
  UseHas s (RunBody f env) = Unit {0}

  -- ---- bodies, what stands, and the machine

  abbrev pub BodyHas : ℕ → FlatBody → Type 0
  BodyHas k x = Has k x.self × Has k x.class × AllHave k x.operands × EnvHas k x.env

  abbrev pub ActHas : ℕ → Act FlatBody → Type 0
  ActHas k (BodyAct x) = BodyHas k x
  ActHas k (Leaving x) = BodyHas k x
  ActHas k (ProtectAct receiver entry env) = Has k receiver × EntryHas k entry × EnvHas k env
  ActHas k (EnsureOn n block env) = Has k block × EnvHas k env
  ActHas k (CurtailOn n block env) = Has k block × EnvHas k env
  ActHas k (ActionOff n held) = OutcomeHas k held
  ActHas k (SignalAct n e env) = (e < k) × EnvHas k env
  ActHas k (HandlerRun n t) = TurnHas k t
  ActHas k (OuterAct n) = Unit {0}
  ActHas k (ResumeWait n w turn t env) = WaitHas k w × TurnHas k t × EnvHas k env
  ActHas k (HandlesWait n x entry rest) = SearchHas k x × EntryHas k entry × EnvHas k rest
  ActHas k (LoopAct n l env) = LoopHas k l × EnvHas k env

  abbrev pub ActsHave : ℕ → List (Act FlatBody) → Type 0
  ActsHave k [] = Unit {0}
  ActsHave k (a ∷ acts) = ActHas k a × ActsHave k acts

  -- the program's literals are there, and each value in the store and in a variable
  abbrev pub StateHas : Program → State → Type 0
  StateHas p st =
      (length p.literals ≤ length st.store.objects)
      × ObjectsHave (length st.store.objects) st.store.objects
      × ScopesHave (length st.store.objects) st.store.scopes
      × ClosuresHave (length st.store.objects) st.store.closures
      × AllHave (length st.store.objects) st.variables

  abbrev pub MachHas : Program → Mach FlatBody → Type 0
  MachHas p (Run x acts st) = StateHas p st × BodyHas (length st.store.objects) x × ActsHave (length st.store.objects) acts
  MachHas p (Settle o acts st) = StateHas p st × OutcomeHas (length st.store.objects) o × ActsHave (length st.store.objects) acts
  MachHas p (Begin u acts st) = StateHas p st × UseHas st.store u × ActsHave (length st.store.objects) acts
  MachHas p (Over o st) = StateHas p st × OutcomeHas (length st.store.objects) o
  MachHas p (Stuck st) = StateHas p st

  abbrev pub TopHas : Program → Top FlatBody → Type 0
  TopHas p (On target xs m) = MachHas p m
  TopHas p (Ended e st) = StateHas p st

  -- ---- what a program has

  -- a constant is no object, or one of so many literals
  abbrev pub NamesLiteral : ℕ → Instruction → Type 0
  NamesLiteral k (PushConstant c) = Has k (constant_value c)
  NamesLiteral k i = Unit {0}

  abbrev pub SelvesHave : ℕ → List Initializer → Type 0
  SelvesHave k [] = Unit {0}
  SelvesHave k (x ∷ xs) = Has k x.self × SelvesHave k xs

  -- the program has each literal and each class that it names, and the texts of troubles
  pub record KnowsNumbers (p : Program) : Type 0 where
    pub constants : AllCodes (NamesLiteral (length p.literals)) (compile_of p)
    pub literals : ObjectsHave (length p.literals) p.literals
    pub troubles : (t : Trouble) → p.trouble_place + place_of t < length p.literals
    pub selves : SelvesHave (length p.literals) p.initializers
    pub above : (class above : ℕ) → (class_at p class).superclass ≡ Some above → above < C
    pub classes : (code : ℕ) → Has (length p.literals) (body_at p code).class

-- at each small step of such a program's run, each number of an object and of a class in hand names one
abbrev pub NumbersAreNamed : Type 0
NumbersAreNamed =
    (p : Program) → Compilable p → KnowsLiterals p → KnowsClasses p → KnowsCollections p → KnowsBuilt p → KnowsNumbers (length p.classes) p →
    (n : ℕ) → TopHas (length p.classes) p (top_iter (flat_of p) p n (opened_run (flat_of p) p))

abbrev pub ProgramsKnowNumbers : Type 0
ProgramsKnowNumbers = (names : List Text) (units : List NamedUnit) (limits : RunLimits) → Extends units → KnowsNumbers (length (program_of names units limits).classes) (program_of names units limits)
