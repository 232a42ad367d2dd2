-- The events of a whole run are accepted, and so is its stop: the laws of Steps.antt over a run of the scoped machine, which is the rules' run.
use Rattle.std.proofs.Common.{◌≡◌, ℕ, zero, suc, List, [], ◌∷◌, Option, Some, None, Bool, true, false, refl, ap, ◌∙◌, subst, arith}
use Rattle.object_heap.specs.declared.value.Value.{Value}
use Rattle.st_code.specs.Program.{Program, Place, Scoped, Slot, ClassSlot, Shared, Initializer}
use Rattle.st_code.specs.Code.{Instr, PushConstant, PushSelf, Pop, Dup, PushVariable, Store as StoreVariable, SendMessage, SendSuper, MakeBlock, MethodReturn, HomeReturn, BlockEnd}
use Rattle.st_rules.specs.State.{State, Env, Target, Home, Protected, Retry, RetryWith, Resume, Resignal, Terminate, Limit, StepLimit, DepthLimit, CellLimit, IntegerLimit, Answer, Go, Stop, BodyMark, Frame, stands}
use Rattle.st_rules.specs.Ends.{write_place, initializer_opening}
use Rattle.st_rules.specs.Runs.{Ending, first_state, kept_value, end_of, ending_of}
use Rattle.st_rules.specs.Machine.{Act, Run, Settle, Begin, Over, Stuck, Bodies, marks}
use Rattle.st_rules.specs.Scoped.{ScopedBody, scoped_number, scoped, Taken, TooFew, Takes, taken, sent, super_sent, leaves, instr, next_instr}
use Rattle.st_rules.specs.Turns.{Top, On, Ended, open_next, top_step, top_iter, opened_run}
use Rattle.st_rules.proofs.FollowedRun.{follows_the_rules}
use Rattle.st_trace.specs.declared.line.StopWord.{StopWord}
use Rattle.st_trace.specs.declared.line.StopWord.TheVariants.{Done, Unhandled, Steps, Depth, Cells, Integer}
use Rattle.st_trace.specs.Automaton.{Calm, Item, Auditor, auditor, auditor_after, stops_by, may_stop}
use Rattle.st_trace.specs.Told.{word_of}
use Rattle.law_discipline.specs.Disciplines.{RunsAreAccepted}
use Rattle.law_discipline.proofs.Telling.{Accepted}
use Rattle.law_discipline.proofs.Shown.{TellsAt, Here, MachTells}
use Rattle.law_discipline.proofs.Steps.{stops, used_tells, open_tells, settle_tells, begins_tells}

module _ (p : Program) where
  abbrev S : Bodies ScopedBody
  S = scoped p

  -- ---- instructions

  module _ (f : Frame) (env : Env) (acts : List (Act ScopedBody)) where
    abbrev At : State → Type 0
    At st = Here acts st env

    ends_here : (st : State) → At st → Accepted st.events
    ends_here st h = stops st h.0 Calm h.1

    written : (st : State) (place : Place) (v : Value) → At st → At (write_place p f st place v)
    unfolding write_place
    written st (Scoped up index) v h = h
    written st (Slot index) v h = h
    written st (ClassSlot index) v h = h
    written st (Shared index) v h = h

    sent_tells : (selector : ℕ) (x : Taken) (rest : List Instr) (st : State) → At st → MachTells (sent p selector x f env rest acts st)
    sent_tells selector TooFew rest st h = ends_here st h
    sent_tells selector (Takes args []) rest st h = ends_here st h
    sent_tells selector (Takes args (r ∷ ops)) rest st h = (h.0, h.1, (h.3, h.2), h.3)

    super_tells : (selector : ℕ) (x : Taken) (rest : List Instr) (st : State) → At st → MachTells (super_sent p selector x f env rest acts st)
    super_tells selector TooFew rest st h = ends_here st h
    super_tells selector (Takes args []) rest st h = ends_here st h
    super_tells selector (Takes args (r ∷ ops)) rest st h = (h.0, h.1, (h.3, h.2), h.3)

    leaves_tells : (b : Bool) (v : Value) (ops : List Value) (rest : List Instr) (st : State) → At st → MachTells (leaves p b v f env ops rest acts st)
    leaves_tells true v ops rest st h = (h.0, h.1, (h.3, h.2))
    leaves_tells false v ops rest st h = h

    instr_tells : (i : Instr) (ops : List Value) (rest : List Instr) (st : State) → At st → MachTells (instr p i f env ops rest acts st)
    instr_tells (PushConstant v) ops rest st h = h
    instr_tells PushSelf ops rest st h = h
    instr_tells (PushVariable place) ops rest st h = h
    instr_tells (StoreVariable place) (v ∷ ops) rest st h = written st place v h
    instr_tells (StoreVariable place) [] rest st h = ends_here st h
    instr_tells Pop (v ∷ ops) rest st h = h
    instr_tells Pop [] rest st h = ends_here st h
    instr_tells Dup (v ∷ ops) rest st h = h
    instr_tells Dup [] rest st h = ends_here st h
    instr_tells (MakeBlock code) ops rest st h = used_tells p 2 st _ _ (ends_here st h) (λ c. h)
    instr_tells (SendMessage selector count) ops rest st h = sent_tells selector (taken count ops []) rest st h
    instr_tells (SendSuper selector count) ops rest st h = super_tells selector (taken count ops []) rest st h
    instr_tells MethodReturn (v ∷ ops) rest st h = (h.0, h.1, h.2)
    instr_tells MethodReturn [] rest st h = ends_here st h
    instr_tells HomeReturn (v ∷ ops) rest st h = leaves_tells (stands f.home (BodyMark f.own ∷ marks scoped_number acts)) v ops rest st h
    instr_tells HomeReturn [] rest st h = ends_here st h
    instr_tells BlockEnd (v ∷ ops) rest st h = (h.0, h.1, h.2)
    instr_tells BlockEnd [] rest st h = ends_here st h

    next_tells : (rest : List Instr) (ops : List Value) (st : State) → At st → MachTells (next_instr p f env ops rest acts st)
    next_tells [] ops st h = ends_here st h
    next_tells (i ∷ rest) ops st h = instr_tells i ops rest st h

  -- ---- a run

  abbrev Stopped : Ending → State → Type 0
  Stopped e st = stops_by (word_of e) (auditor_after st.events) ≡ true

  abbrev TopTells : Top ScopedBody → Type 0
  TopTells (On target xs m) = MachTells m
  TopTells (Ended e st) = Stopped e st

  stop_with : (w : StopWord) (a : Auditor) (st : State) → auditor_after st.events ≡ Some a → may_stop w a ≡ true → stops_by w (auditor_after st.events) ≡ true
  stop_with w a st e m = ap (stops_by w) e ∙ m

  at_limit : (l : Limit) (st : State) → Accepted st.events → Stopped (end_of (Stop l)) st
  at_limit StepLimit st h = stop_with Steps h.0 st h.1 refl
  at_limit DepthLimit st h = stop_with Depth h.0 st h.1 refl
  at_limit CellLimit st h = stop_with Cells h.0 st h.1 refl
  at_limit IntegerLimit st h = stop_with Integer h.0 st h.1 refl

  -- nothing stands, so nothing is open
  closed : (st : State) (is : List Item) → TellsAt st is Calm → is ≡ [] → (b : ℕ) × (auditor_after st.events ≡ Some (auditor [] Calm b))
  closed st is t e = (t.bound, subst (λ x. auditor_after st.events ≡ Some (auditor x Calm t.bound)) e t.runs)

  unwound : (g : Target) (v : Value) (st : State) (b : ℕ) → auditor_after st.events ≡ Some (auditor [] Calm b) → Stopped (ending_of g v) st
  unwound (Home n) v st b e = stop_with Integer _ st e refl
  unwound (Protected n) v st b e = stop_with Integer _ st e refl
  unwound (Retry n) v st b e = stop_with Integer _ st e refl
  unwound (RetryWith n) v st b e = stop_with Integer _ st e refl
  unwound (Resume n) v st b e = stop_with Integer _ st e refl
  unwound (Resignal n f) v st b e = stop_with Integer _ st e refl
  unwound Terminate v st b e = stop_with Unhandled _ st e refl

  opened_tells : (xs : List Initializer) (st : State) (b : ℕ) → TellsAt st [] Calm → TopTells (open_next S p xs st)
  opened_tells [] st b t = stop_with Done _ st t.runs refl
  opened_tells (x ∷ xs) st b t = open_tells p (initializer_opening p x st.next) [] st ([], t, refl, refl)

  kept_tells : (target : Option ℕ) (v : Value) (st : State) → TellsAt st [] Calm → TellsAt (kept_value target v st) [] Calm
  kept_tells None v st t = t
  kept_tells (Some place) v st t = t

  top_tells : (t : Top ScopedBody) → TopTells t → TopTells (top_step S p t)
  top_tells (On target xs (Run x acts st)) h = next_tells x.frame x.env acts x.rest x.operands st h
  top_tells (On target xs (Settle o acts st)) h = settle_tells p o acts st h
  top_tells (On target xs (Begin u acts st)) h = begins_tells p u acts st h
  top_tells (On target xs (Over (Answer v) st)) h = opened_tells xs (kept_value target v st) 0 (kept_tells target v st (subst (λ is. TellsAt st is Calm) h.2 h.1))
  top_tells (On target xs (Over (Go g v) st)) h = let c = closed st h.0 h.1 h.2 in unwound g v st c.0 c.1
  top_tells (On target xs (Over (Stop l) st)) h = at_limit l st h
  top_tells (On target xs (Stuck st)) h = stop_with Integer h.0 st h.1 refl
  top_tells (Ended e st) h = h

  iter_tells : (n : ℕ) (t : Top ScopedBody) → TopTells t → TopTells (top_iter S p n t)
  iter_tells zero t h = h
  iter_tells (suc n) t h = iter_tells n (top_step S p t) (top_tells t h)

  first_tells : TellsAt (first_state p) [] Calm
  unfolding first_state auditor_after
  first_tells = record { bound = 0; runs = refl; under = omega arith; ordered = tt }

  pub run_tells : (n : ℕ) → TopTells (top_iter S p n (opened_run S p))
  run_tells n = iter_tells n (opened_run S p) (opened_tells p.initializers (first_state p) 0 first_tells)

pub runs_are_accepted : RunsAreAccepted
runs_are_accepted p e st r =
    let m = follows_the_rules p e st r in
    subst (TopTells p) m.1 (run_tells p m.0)
