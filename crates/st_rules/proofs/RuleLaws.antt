-- The scoped machine follows the rules: a law for each rule, from the same of what is used at the smaller index.
use Rattle.std.proofs.Common.{◌≡◌, ℕ, zero, suc, ◌+◌, List, [], ◌∷◌, ◌++◌, length, Option, Some, None, Bool, true, false, refl, sym, ap, ◌∙◌, subst, arith}
use Rattle.object_heap.specs.declared.value.Value.{Value}
use Rattle.object_heap.specs.declared.value.Value.TheVariants.{Nil, Object}
use Rattle.object_heap.specs.declared.value.Closure.{Closure}
use Rattle.object_heap.specs.Store.{object_at}
use Rattle.st_code.specs.Program.{Tree, Constant, Self, Variable, Assign, Block, Send, SuperSend, Cascade, SuperCascade, Trees, no_trees, more_trees, Messages, no_messages, more_messages, Statement, Plain, Return, Kind, InMethod, InBlock, InInitializer, Program, body_at}
use Rattle.st_code.specs.Code.{Instr, Pop, Store as StoreVariable, SendMessage, SendSuper, return_of, count_of, pop_for, code, code_args, code_messages, end_code, code_on, code_body}
use Rattle.st_rules.specs.State.{State, Entry, Env, StepLimit, DepthLimit, CellLimit, Outcome, Answer, Go, Stop, Turn, Mark, BodyMark, Frame, step_made, stood, used, scope_cells, stands, is_live, FoundTurn, NoTurn, TurnAt, turn_of}
use Rattle.st_code.specs.Messages.{Control}
use Rattle.st_code.specs.Lookup.{is_plain, fits, is_exception}
use Rattle.st_collections.specs.Actions.{Action, Gives, Changes, Makes, Writes, Fails, DividesByZero, PassesIntegers, Begins, Activates, Sends, Misses, Enters, Guards, Ensures, Curtails, Iterates, Raises, RaisesNew, Controls, Terminates, LoopState, Visit, Applies, Compares, Finishes, Lacks, Charges}
use Rattle.st_collections.specs.Kinds.{is_true}
use Rattle.st_collections.specs.Loops.{next_visit}
use Rattle.st_rules.specs.Ends.{Result, Opening, block_opening, method_opening, SignalVerdict, Ends, Signals, signal_end, Verdict, Leaves, Again, protect_end, Search, turn_for, asks_nested, Wait, ToResume, ToOuter, onto}
use Rattle.st_rules.specs.Rules.{Use, Apply, Activate, Enter, SendTo, SuperTo, Perform, Raise, RaiseNew, SignalPoint, Resignaled, SearchIn, TurnBy, Ask, Protect, Finish, VisitBy, RunBody, Next, apply_by, handler_by, closure_for, exception_cells, opened, signal_by, raise, raise_new, tried, handles_after, judged, search, turn_by, asked, wait_after, resignal, resignal_as, control_by, control_without, control_in, control, protect_by, ensure_after, curtail_after, visit_after, visit, perform, leave, eval_args, eval_messages, eval, eval_body, rule, at_index}
use Rattle.st_rules.specs.Machine.{Leaving, ProtectAct, EnsureOn, CurtailOn, ActionOff, SignalAct, HandlerRun, OuterAct, ResumeWait, HandlesWait, LoopAct, Settle, Begin, marks, open_act, raise_act, raise_new_act, tried_act, judged_act, search_act, turn_act, asked_act, resignal_act, resignal_as_act, control_by_act, control_without_act, control_in_act, control_act, visit_act, perform_act, protect_verdict, signal_verdict}
use Rattle.st_rules.specs.Scoped.{scoped_body, scoped_number, scoped, Takes, taken, sent, super_sent, leaves}
use Rattle.st_rules.proofs.Meets.{Acts, Machine, body, running, meets_itself, steps_to, alike, Follows, step_first, charge_law, handle_law, value_law, turn_end_law, outer_end_law, action_end_law, own_home, left_end_law, body_end_law, empty_law, stands_law, taken_lem}

-- where the machine begins a use
abbrev pub start : Program → Use → Acts → State → Machine
start p (RunBody f env) acts st = running f env [] (code_body f.kind (body_at p f.code).statements) acts st
start p u acts st = Begin u acts st

abbrev pub standing_of : Acts → List Mark
standing_of acts = marks scoped_number acts

pub record Sim (p : Program) (next : Next) : Type 0 where
  pub use' : (u : Use) (acts : Acts) (st : State) → Follows p (start p u acts st) (next.use' u (standing_of acts) st) acts
  pub tree : (t : Tree) (f : Frame) (env : Env) (ops : List Value) (rest : List Instr) (acts : Acts) (st : State) → Follows p (running f env ops (code t rest) acts st) (next.tree t f env (BodyMark f.own ∷ standing_of acts) st) (body f env ops rest ∷ acts)

module _ (p : Program) (next : Next) (sim : Sim p next) where
  pub opened_law : (x : Opening) (acts : Acts) (st : State) → Follows p (open_act (scoped p) p x acts st) (opened p next x (standing_of acts) st) acts
  opened_law x acts st =
      charge_law p (stood p (standing_of acts) st) DepthLimit acts st _ _ (λ st1.
      charge_law p (used p (scope_cells (body_at p x.code)) st1) CellLimit acts st1 _ _ (λ st2. sim.use' (RunBody _ x.env) acts _))

  apply_by_law : (o : Option Closure) (v : Value) (args : List Value) (env : Env) (acts : Acts) (st : State) → Follows p (Begin (apply_by p o v args env) acts st) (next.use' (apply_by p o v args env) (standing_of acts) st) acts
  apply_by_law (Some c) v args env acts st = sim.use' (Activate c args env) acts st
  apply_by_law None v args env acts st = sim.use' (SendTo _ v args env) acts st

  handler_law : (o : Option Closure) (h : Value) (e : ℕ) (env : Env) (acts : Acts) (st : State) → Follows p (Begin (handler_by o h e env) acts st) (next.use' (handler_by o h e env) (standing_of acts) st) acts
  handler_law (Some c) h e env acts st = sim.use' (Activate c [] env) acts st
  handler_law None h e env acts st = sim.use' (Apply h _ env) acts st

  -- ---- signals

  signal_by_law : (n e : ℕ) (d : SignalVerdict) (env : Env) (acts : Acts) (st : State) → Follows p (signal_verdict (scoped p) p n e d env acts st) (signal_by p next n e d env (standing_of acts) st) acts
  signal_by_law n e (Ends o) env acts st = meets_itself p _
  signal_by_law n e (Signals f) env acts st = sim.use' (Resignaled n e f env) acts st

  signal_end_law : (n e : ℕ) (o : Outcome) (env : Env) (acts : Acts) (st : State) → Follows p (Settle o (SignalAct n e env ∷ acts) st) (signal_by p next n e (signal_end n o) env (standing_of acts) st) acts
  signal_end_law n e (Answer v) env acts st = steps_to p _ (meets_itself p _)
  signal_end_law n e (Go g v) env acts st = step_first p _ _ acts (signal_by_law n e (signal_end n (Go g v)) env acts st)
  signal_end_law n e (Stop l) env acts st = alike p _ _ refl

  raise_law : (live : Bool) (e : ℕ) (env : Env) (acts : Acts) (st : State) → Follows p (raise_act (scoped p) p live e env acts st) (raise p next live e env (standing_of acts) st) acts
  raise_law true e env acts st = sim.use' (RaiseNew _ _ env) acts st
  raise_law false e env acts st = charge_law p (stood p (standing_of acts) st) DepthLimit acts st _ _ (λ st1. sim.use' (SignalPoint st.next e env) acts _)

  raise_new_law : (c : ℕ) (slots : List Value) (env : Env) (acts : Acts) (st : State) → Follows p (raise_new_act (scoped p) p c slots env acts st) (raise_new p next c slots env (standing_of acts) st) acts
  raise_new_law c slots env acts st =
      charge_law p (stood p (standing_of acts) st) DepthLimit acts st _ _ (λ st1.
      charge_law p (used p (exception_cells p c) _) CellLimit acts _ _ _ (λ st3. sim.use' (SignalPoint st.next _ env) acts _))

  -- ---- searches and turns

  tried_law : (a : Bool) (x : Search) (entry : Entry) (rest : Env) (acts : Acts) (st : State) → Follows p (tried_act (scoped p) p a x entry rest acts st) (tried p next a x entry rest (standing_of acts) st) acts
  tried_law true x entry rest acts st = sim.use' (TurnBy x (Some entry) rest) acts _
  tried_law false x entry rest acts st = sim.use' (SearchIn x rest) acts _

  handles_law : (n : ℕ) (x : Search) (entry : Entry) (rest : Env) (acts : Acts) (o : Outcome) (st : State) → Follows p (Settle o (HandlesWait n x entry rest ∷ acts) st) (handles_after p next n x entry rest (standing_of acts) o st) acts
  handles_law n x entry rest acts (Answer v) st = step_first p _ _ acts (tried_law (is_true v) x entry rest acts _)
  handles_law n x entry rest acts (Go t v) st = steps_to p _ (meets_itself p _)
  handles_law n x entry rest acts (Stop l) st = alike p _ _ refl

  judged_law : (a : Bool) (x : Search) (entry : Entry) (rest : Env) (acts : Acts) (st : State) → Follows p (judged_act (scoped p) p a x entry rest acts st) (judged p next a x entry rest (standing_of acts) st) acts
  judged_law true x entry rest acts st = tried_law (fits p st.store entry.selector (object_at x.exception st.store).class) x entry rest acts st
  judged_law false x entry rest acts st =
      charge_law p (stood p (standing_of acts) st) DepthLimit acts st _ _ (λ st1.
      handle_law p _ _ (HandlesWait st.next x entry rest ∷ acts) acts _ (sim.use' (SendTo _ entry.selector _ rest) (HandlesWait st.next x entry rest ∷ acts) _) (λ o st'. handles_law st.next x entry rest acts o st'))

  search_law : (x : Search) (rest : Env) (acts : Acts) (st : State) → Follows p (search_act (scoped p) p x rest acts st) (search p next x rest (standing_of acts) st) acts
  search_law x [] acts st = sim.use' (TurnBy x None x.whole) acts st
  search_law x (entry ∷ rest) acts st = judged_law (is_plain p st.store entry.selector) x entry rest acts st

  turn_law : (a : Bool) (x : Search) (entry : Option Entry) (outside : Env) (acts : Acts) (st : State) → Follows p (turn_act (scoped p) p a x entry outside acts st) (turn_by p next a x entry outside (standing_of acts) st) acts
  turn_law true x None outside acts st = meets_itself p _
  turn_law true x (Some entry) outside acts st = meets_itself p _
  turn_law false x None outside acts st =
      charge_law p (stood p (standing_of acts) st) DepthLimit acts st _ _ (λ st1.
      handle_law p _ _ (HandlerRun st.next (turn_for x None outside) ∷ acts) acts _ (sim.use' (SendTo _ (Object x.exception) [] outside) (HandlerRun st.next (turn_for x None outside) ∷ acts) _) (λ o st'. turn_end_law p st.next (turn_for x None outside) o acts st'))
  turn_law false x (Some entry) outside acts st =
      charge_law p (stood p (standing_of acts) st) DepthLimit acts st _ _ (λ st1.
      handle_law p _ _ (HandlerRun st.next (turn_for x (Some entry) outside) ∷ acts) acts _ (handler_law (closure_for p st.store entry.handler 0) entry.handler x.exception outside (HandlerRun st.next (turn_for x (Some entry) outside) ∷ acts) _) (λ o st'. turn_end_law p st.next (turn_for x (Some entry) outside) o acts st'))

  -- ---- exception actions

  asked_law : (a : Bool) (w : Wait) (k : ℕ) (t : Turn) (env : Env) (acts : Acts) (st : State) → Follows p (asked_act (scoped p) p a w k t env acts st) (asked p next a w k t env (standing_of acts) st) acts
  asked_law true (ToResume v) k t env acts st = meets_itself p _
  asked_law false (ToResume v) k t env acts st = sim.use' (RaiseNew _ _ env) acts st
  asked_law true ToOuter k t env acts st =
      charge_law p (stood p (standing_of acts) st) DepthLimit acts st _ _ (λ st1.
      handle_law p _ _ (OuterAct st.next ∷ acts) acts _ (sim.use' (SearchIn _ t.outside) (OuterAct st.next ∷ acts) _) (λ o st'. outer_end_law p st.next o acts st'))
  asked_law false ToOuter k t env acts st = sim.use' (SearchIn _ t.outside) acts _

  wait_law : (n : ℕ) (w : Wait) (k : ℕ) (t : Turn) (env : Env) (acts : Acts) (o : Outcome) (st : State) → Follows p (Settle o (ResumeWait n w k t env ∷ acts) st) (wait_after p next w k t env (standing_of acts) o st) acts
  wait_law n w k t env acts (Answer v) st = step_first p _ _ acts (asked_law (is_true v) w k t env acts st)
  wait_law n w k t env acts (Go g v) st = steps_to p _ (meets_itself p _)
  wait_law n w k t env acts (Stop l) st = alike p _ _ refl

  resignal_law : (a live : Bool) (t : Turn) (f : ℕ) (v : Value) (env : Env) (acts : Acts) (st : State) → Follows p (resignal_act (scoped p) p a live t f v env acts st) (resignal p next a live t f v env (standing_of acts) st) acts
  resignal_law false live t f v env acts st = sim.use' (RaiseNew _ _ env) acts st
  resignal_law true true t f v env acts st = sim.use' (RaiseNew _ _ env) acts st
  resignal_law true false t f v env acts st = meets_itself p _

  resignal_as_law : (t : Turn) (v : Value) (env : Env) (acts : Acts) (st : State) → Follows p (resignal_as_act (scoped p) p t v env acts st) (resignal_as p next t v env (standing_of acts) st) acts
  resignal_as_law t (Object f) env acts st = resignal_law (is_exception p st.store (Object f)) (is_live f (standing_of acts)) t f (Object f) env acts st
  resignal_as_law t v env acts st = sim.use' (RaiseNew _ _ env) acts st

  control_by_law : (c : Control) (v : Value) (k : ℕ) (t : Turn) (entry : Entry) (env : Env) (acts : Acts) (st : State) → Follows p (control_by_act (scoped p) p c v k t entry env acts st) (control_by p next c v k t entry env (standing_of acts) st) acts
  control_by_law Control.Return v k t entry env acts st = meets_itself p _
  control_by_law Control.Retry v k t entry env acts st = meets_itself p _
  control_by_law Control.RetryUsing v k t entry env acts st = meets_itself p _
  control_by_law Control.Resume v k t entry env acts st = sim.use' (Ask (ToResume v) k t env) acts st
  control_by_law Control.Pass v k t entry env acts st = sim.use' (SearchIn _ t.outside) acts _
  control_by_law Control.Outer v k t entry env acts st = sim.use' (Ask ToOuter k t env) acts st
  control_by_law Control.ResignalAs v k t entry env acts st = resignal_as_law t v env acts st
  control_by_law Control.IsNested v k t entry env acts st = sim.use' (SearchIn _ t.outside) acts _

  control_without_law : (c : Control) (v : Value) (k : ℕ) (t : Turn) (env : Env) (acts : Acts) (st : State) → Follows p (control_without_act (scoped p) p c v k t env acts st) (control_without p next c v k t env (standing_of acts) st) acts
  control_without_law Control.Resume v k t env acts st = sim.use' (Ask (ToResume v) k t env) acts st
  control_without_law c v k t env acts st = sim.use' (RaiseNew _ _ env) acts st

  control_in_law : (entry : Option Entry) (c : Control) (v : Value) (k : ℕ) (t : Turn) (env : Env) (acts : Acts) (st : State) → Follows p (control_in_act (scoped p) p entry c v k t env acts st) (control_in p next entry c v k t env (standing_of acts) st) acts
  control_in_law (Some entry) c v k t env acts st = control_by_law c v k t entry env acts st
  control_in_law None c v k t env acts st = control_without_law c v k t env acts st

  control_law : (f : FoundTurn) (c : Control) (v : Value) (env : Env) (acts : Acts) (st : State) → Follows p (control_act (scoped p) p f c v env acts st) (control p next f c v env (standing_of acts) st) acts
  control_law NoTurn c v env acts st = sim.use' (RaiseNew _ _ env) acts st
  control_law (TurnAt k t) c v env acts st = control_in_law t.entry c v k t env acts st

  -- ---- protection

  protect_by_law : (d : Verdict) (entry : Entry) (env : Env) (acts : Acts) (st : State) → Follows p (protect_verdict (scoped p) p d entry env acts st) (protect_by p next d entry env (standing_of acts) st) acts
  protect_by_law (Leaves o) entry env acts st = meets_itself p _
  protect_by_law (Again receiver) entry env acts st = sim.use' (Protect receiver entry env) acts _

  protect_end_law : (o : Outcome) (receiver : Value) (entry : Entry) (env : Env) (acts : Acts) (st : State) → Follows p (Settle o (ProtectAct receiver entry env ∷ acts) st) (protect_by p next (protect_end entry.number receiver o) entry env (standing_of acts) st) acts
  protect_end_law (Answer v) receiver entry env acts st = steps_to p _ (meets_itself p _)
  protect_end_law (Go g v) receiver entry env acts st = step_first p _ _ acts (protect_by_law (protect_end entry.number receiver (Go g v)) entry env acts st)
  protect_end_law (Stop l) receiver entry env acts st = alike p _ _ refl

  ensure_law : (n : ℕ) (block : Value) (env : Env) (acts : Acts) (o : Outcome) (st : State) → Follows p (Settle o (EnsureOn n block env ∷ acts) st) (ensure_after p next n block env (standing_of acts) o st) acts
  ensure_law n block env acts (Answer v) st = step_first p _ _ acts (sim.use' (Finish n block (Answer v) env) acts _)
  ensure_law n block env acts (Go g v) st = step_first p _ _ acts (sim.use' (Finish n block (Go g v) env) acts _)
  ensure_law n block env acts (Stop l) st = alike p _ _ refl

  curtail_law : (n : ℕ) (block : Value) (env : Env) (acts : Acts) (o : Outcome) (st : State) → Follows p (Settle o (CurtailOn n block env ∷ acts) st) (curtail_after p next n block env (standing_of acts) o st) acts
  curtail_law n block env acts (Answer v) st = steps_to p _ (meets_itself p _)
  curtail_law n block env acts (Go g v) st = step_first p _ _ acts (sim.use' (Finish n block (Go g v) env) acts _)
  curtail_law n block env acts (Stop l) st = alike p _ _ refl

  -- ---- loops

  visit_after_law : (n : ℕ) (l : LoopState) (env : Env) (acts : Acts) (o : Outcome) (st : State) → Follows p (Settle o (LoopAct n l env ∷ acts) st) (visit_after p next n l env (standing_of acts) o st) acts
  visit_after_law n l env acts (Answer v) st = step_first p _ _ acts (sim.use' (VisitBy n (next_visit p st.store l v) env) acts st)
  visit_after_law n l env acts (Go g v) st = steps_to p _ (meets_itself p _)
  visit_after_law n l env acts (Stop x) st = alike p _ _ refl

  visit_law : (n : ℕ) (v : Visit) (env : Env) (acts : Acts) (st : State) → Follows p (visit_act (scoped p) p n v env acts st) (visit p next n v env (standing_of acts) st) acts
  visit_law n (Applies l v args) env acts st = handle_law p _ _ (LoopAct n l env ∷ acts) acts _ (sim.use' (Apply v args env) (LoopAct n l env ∷ acts) st) (λ o st'. visit_after_law n l env acts o st')
  visit_law n (Compares l r v) env acts st = handle_law p _ _ (LoopAct n l env ∷ acts) acts _ (sim.use' (SendTo _ r _ env) (LoopAct n l env ∷ acts) st) (λ o st'. visit_after_law n l env acts o st')
  visit_law n (Finishes v) env acts st = meets_itself p _
  visit_law n (Lacks l) env acts st = handle_law p _ _ (LoopAct n l env ∷ acts) acts _ (sim.use' (RaiseNew _ _ env) (LoopAct n l env ∷ acts) st) (λ o st'. visit_after_law n l env acts o st')
  visit_law n (Charges cells s v) env acts st = charge_law p (used p cells st) CellLimit acts st _ _ (λ st1. visit_law n v env acts _)

  -- ---- what a message does at once

  perform_law : (a : Action) (env : Env) (acts : Acts) (st : State) → Follows p (perform_act (scoped p) p a env acts st) (perform p next a env (standing_of acts) st) acts
  perform_law (Gives v) env acts st = meets_itself p _
  perform_law (Changes s v) env acts st = meets_itself p _
  perform_law (Makes cells s v) env acts st = charge_law p (used p cells st) CellLimit acts st _ _ (λ st1. meets_itself p _)
  perform_law (Writes text v) env acts st = meets_itself p _
  perform_law (Fails trouble) env acts st = sim.use' (RaiseNew _ _ env) acts st
  perform_law (DividesByZero dividend) env acts st = sim.use' (RaiseNew _ _ env) acts st
  perform_law PassesIntegers env acts st = meets_itself p _
  perform_law (Begins v args) env acts st = sim.use' (Apply v args env) acts st
  perform_law (Activates c args) env acts st = sim.use' (Activate c args env) acts st
  perform_law (Sends selector r args) env acts st = sim.use' (SendTo selector r args env) acts st
  perform_law (Misses selector r args) env acts st =
      charge_law p (used p (1 + length args) st) CellLimit acts st _ _ (λ st1.
      charge_law p (used p 3 _) CellLimit acts _ _ _ (λ st3. sim.use' (SendTo _ r _ env) acts _))
  perform_law (Enters code r args) env acts st = sim.use' (Enter code r args env) acts st
  perform_law (Guards receiver selector handler) env acts st = charge_law p (stood p (standing_of acts) st) DepthLimit acts st _ _ (λ st1. sim.use' (Protect receiver _ env) acts _)
  perform_law (Ensures receiver block) env acts st =
      charge_law p (stood p (standing_of acts) st) DepthLimit acts st _ _ (λ st1.
      handle_law p _ _ (EnsureOn st.next block env ∷ acts) acts _ (sim.use' (Apply receiver [] env) (EnsureOn st.next block env ∷ acts) _) (λ o st'. ensure_law st.next block env acts o st'))
  perform_law (Curtails receiver block) env acts st =
      charge_law p (stood p (standing_of acts) st) DepthLimit acts st _ _ (λ st1.
      handle_law p _ _ (CurtailOn st.next block env ∷ acts) acts _ (sim.use' (Apply receiver [] env) (CurtailOn st.next block env ∷ acts) _) (λ o st'. curtail_law st.next block env acts o st'))
  perform_law (Iterates l) env acts st = charge_law p (stood p (standing_of acts) st) DepthLimit acts st _ _ (λ st1. sim.use' (VisitBy st.next _ env) acts st1)
  perform_law (Raises s e) env acts st = sim.use' (Raise e env) acts _
  perform_law (RaisesNew c slots) env acts st = sim.use' (RaiseNew c slots env) acts st
  perform_law (Controls c e v) env acts st = control_law (turn_of e (standing_of acts)) c v env acts st
  perform_law (Terminates v) env acts st = meets_itself p _

  -- ---- expressions, by their code before more code

  module _ (f : Frame) (env : Env) (acts : Acts) where
    abbrev here : List Mark
    here = BodyMark f.own ∷ standing_of acts

    gone_law : (b : Bool) (v : Value) (ops ops' : List Value) (rest rest' : List Instr) (st : State) → Follows p (leaves p b v f env ops rest acts st) (leave p next f env here InBlock b v st) (body f env ops' rest' ∷ acts)
    gone_law true v ops ops' rest rest' st = alike p _ _ refl
    gone_law false v ops ops' rest rest' st =
        handle_law p _ _ (Leaving (scoped_body f env ops rest) ∷ acts) _ _ (sim.use' (RaiseNew _ _ env) (Leaving (scoped_body f env ops rest) ∷ acts) st) (λ o st'. left_end_law p f env ops ops' rest rest' acts o st')

    leave_law : (m : Kind) (v : Value) (ops ops' : List Value) (rest rest' : List Instr) (st : State) → Follows p (running f env (v ∷ ops) (return_of m ∷ rest) acts st) (leave p next f env here m (stands f.home here) v st) (body f env ops' rest' ∷ acts)
    leave_law InMethod v ops ops' rest rest' st = steps_to p _ (own_home p f env ops' rest' v acts st)
    leave_law InInitializer v ops ops' rest rest' st = steps_to p _ (own_home p f env ops' rest' v acts st)
    leave_law InBlock v ops ops' rest rest' st = step_first p _ _ _ (gone_law (stands f.home here) v ops ops' rest rest' st)

    -- a send of the operands that stand above its receiver, of either kind
    abbrev SendLaw : (ℕ → ℕ → Instr) → (ℕ → Value → List Value → Use) → Type 0
    SendLaw send to =
        (selector : ℕ) (r : Value) (ws ops : List Value) (rest : List Instr) (n : ℕ) (st : State) → length ws ≡ n →
        Follows p (running f env (ws ++ r ∷ ops) (send selector n ∷ rest) acts st) (next.use' (to selector r (onto ws [])) here st) (body f env ops rest ∷ acts)

    taken_is : (ws ops : List Value) (n : ℕ) → length ws ≡ n → taken n (ws ++ ops) [] ≡ Takes (onto ws []) ops
    taken_is ws ops n e = ap (λ j. taken j (ws ++ ops) []) (sym e) ∙ taken_lem ws ops []

    send_law : SendLaw SendMessage (λ selector r args. SendTo selector r args env)
    send_law selector r ws ops rest n st e =
        step_first p _ _ _ (subst (λ x. Follows p (sent p selector x f env rest acts st) (next.use' (SendTo selector r (onto ws []) env) here st) (body f env ops rest ∷ acts)) (sym (taken_is ws (r ∷ ops) n e)) (sim.use' (SendTo selector r (onto ws []) env) (body f env ops rest ∷ acts) st))

    super_law : SendLaw SendSuper (λ selector r args. SuperTo f.class selector r args env)
    super_law selector r ws ops rest n st e =
        step_first p _ _ _ (subst (λ x. Follows p (super_sent p selector x f env rest acts st) (next.use' (SuperTo f.class selector r (onto ws []) env) here st) (body f env ops rest ∷ acts)) (sym (taken_is ws (r ∷ ops) n e)) (sim.use' (SuperTo f.class selector r (onto ws []) env) (body f env ops rest ∷ acts) st))

    args_law : (row : Trees) (vs ops : List Value) (rest : List Instr) (ops' : List Value) (rest' : List Instr) (k : List Value → State → Result) (st : State) → ((ws : List Value) (st1 : State) → length ws ≡ length vs + count_of row → Follows p (running f env (ws ++ ops) rest acts st1) (k ws st1) (body f env ops' rest' ∷ acts)) → Follows p (running f env (vs ++ ops) (code_args row rest) acts st) (eval_args p next f env here row vs k st) (body f env ops' rest' ∷ acts)
    args_law no_trees vs ops rest ops' rest' k st h = h vs st (omega arith)
    args_law (more_trees t row) vs ops rest ops' rest' k st h =
        value_law p _ _ f env (vs ++ ops) ops' _ rest' acts _ (sim.tree t f env (vs ++ ops) (code_args row rest) acts st) (λ v st1.
        args_law row (v ∷ vs) ops rest ops' rest' k st1 (λ ws st2 e. h ws st2 (omega arith)))

    -- the operands below a cascade's next message, with the value before it
    abbrev kept : Messages → Value → Value → List Value → List Value
    kept no_messages r v ops = v ∷ ops
    kept (more_messages selector args row) r v ops = r ∷ ops

    kept_lem : (row : Messages) (v : Value) (ops : List Value) → kept row v v ops ≡ v ∷ ops
    kept_lem no_messages v ops = refl
    kept_lem (more_messages selector args row) v ops = refl

    messages_law : (send : ℕ → ℕ → Instr) (to : ℕ → Value → List Value → Use) → SendLaw send to → (row : Messages) (r v : Value) (ops : List Value) (rest : List Instr) (st : State) → Follows p (running f env (kept row r v ops) (code_messages send row rest) acts st) (eval_messages p next f env here to row r v st) (body f env ops rest ∷ acts)
    messages_law send to law no_messages r v ops rest st = stands_law p f env v ops rest acts st
    messages_law send to law (more_messages selector args no_messages) r v ops rest st =
        args_law args [] (r ∷ ops) (send selector (count_of args) ∷ rest) ops rest _ st (λ ws st1 e.
        value_law p _ _ f env ops ops _ rest acts _ (law selector r ws ops rest (count_of args) st1 (omega arith)) (λ w st2.
        messages_law send to law no_messages r w ops rest st2))
    messages_law send to law (more_messages selector args (more_messages selector' args' row)) r v ops rest st =
        let row' = more_messages selector' args' row in
        step_first p _ _ _ (args_law args [] (r ∷ r ∷ ops) (send selector (count_of args) ∷ pop_for row' (code_messages send row' rest)) ops rest _ st (λ ws st1 e.
        value_law p _ _ f env (r ∷ ops) ops _ rest acts _ (law selector r ws (r ∷ ops) (pop_for row' (code_messages send row' rest)) (count_of args) st1 (omega arith)) (λ w st2.
        step_first p _ _ _ (messages_law send to law (more_messages selector' args' row) r w ops rest st2))))

    kept_law : (send : ℕ → ℕ → Instr) (to : ℕ → Value → List Value → Use) → SendLaw send to → (row : Messages) (r : Value) (ops : List Value) (rest : List Instr) (st : State) → Follows p (running f env (r ∷ ops) (code_messages send row rest) acts st) (eval_messages p next f env here to row r r st) (body f env ops rest ∷ acts)
    kept_law send to law row r ops rest st =
        subst (λ vs. Follows p (running f env vs (code_messages send row rest) acts st) (eval_messages p next f env here to row r r st) (body f env ops rest ∷ acts)) (kept_lem row r ops) (messages_law send to law row r r ops rest st)

    eval_law : (t : Tree) (ops : List Value) (rest : List Instr) (st : State) → Follows p (running f env ops (code t rest) acts st) (eval p next f env here t st) (body f env ops rest ∷ acts)
    eval_law (Constant v) ops rest st = alike p _ _ refl
    eval_law Self ops rest st = alike p _ _ refl
    eval_law (Variable place) ops rest st = alike p _ _ refl
    eval_law (Assign place t) ops rest st =
        value_law p _ _ f env ops ops (StoreVariable place ∷ rest) rest acts _ (sim.tree t f env ops (StoreVariable place ∷ rest) acts st) (λ v st1. alike p _ _ refl)
    eval_law (Block n) ops rest st =
        step_first p _ _ _ (charge_law p (used p 2 st) CellLimit (body f env ops rest ∷ acts) st _ _ (λ st1. stands_law p f env _ ops rest acts _))
    eval_law (Send selector t args) ops rest st =
        value_law p _ _ f env ops ops _ rest acts _ (sim.tree t f env ops (code_args args (SendMessage selector (count_of args) ∷ rest)) acts st) (λ r st1.
        args_law args [] (r ∷ ops) (SendMessage selector (count_of args) ∷ rest) ops rest _ st1 (λ ws st2 e. send_law selector r ws ops rest (count_of args) st2 (omega arith)))
    eval_law (SuperSend selector args) ops rest st =
        step_first p _ _ _ (args_law args [] (f.self ∷ ops) (SendSuper selector (count_of args) ∷ rest) ops rest _ st (λ ws st1 e. super_law selector f.self ws ops rest (count_of args) st1 (omega arith)))
    eval_law (Cascade t messages) ops rest st =
        value_law p _ _ f env ops ops _ rest acts _ (sim.tree t f env ops (code_messages SendMessage messages rest) acts st) (λ r st1.
        kept_law SendMessage (λ selector r' args. SendTo selector r' args env) send_law messages r ops rest st1)
    eval_law (SuperCascade messages) ops rest st =
        step_first p _ _ _ (kept_law SendSuper (λ selector r args. SuperTo f.class selector r args env) super_law messages f.self ops rest st)

    on_law : (s : Statement) (row : List Statement) (v : Value) (st : State) → Follows p (running f env [] (code_on f.kind s row) acts st) (eval_body p next f env here (s ∷ row) v st) (body f env [] (end_code f.kind) ∷ acts)
    on_law (Return t) row v st =
        value_law p _ _ f env [] [] (return_of f.kind ∷ []) (end_code f.kind) acts _ (sim.tree t f env [] (return_of f.kind ∷ []) acts st) (λ w st1.
        leave_law f.kind w [] [] [] (end_code f.kind) st1)
    on_law (Plain t) [] v st =
        value_law p _ _ f env [] [] (end_code f.kind) (end_code f.kind) acts _ (sim.tree t f env [] (end_code f.kind) acts st) (λ w st1. stands_law p f env w [] (end_code f.kind) acts st1)
    on_law (Plain t) (u ∷ row) v st =
        value_law p _ _ f env [] [] _ (end_code f.kind) acts _ (sim.tree t f env [] (Pop ∷ code_on f.kind u row) acts st) (λ w st1. step_first p _ _ _ (on_law u row w st1))

    body_law : (row : List Statement) (st : State) → Follows p (running f env [] (code_body f.kind row) acts st) (eval_body p next f env here row Nil st) (body f env [] (end_code f.kind) ∷ acts)
    body_law [] st = empty_law p f.kind f env acts st
    body_law (s ∷ row) st = on_law s row Nil st

  -- ---- the rules

  rule_law : (u : Use) (acts : Acts) (st : State) → Follows p (start p u acts st) (rule p next u (standing_of acts) st) acts
  rule_law (Apply v args env) acts st = step_first p _ _ _ (apply_by_law (closure_for p st.store v (length args)) v args env acts st)
  rule_law (Activate c args env) acts st = step_first p _ _ _ (charge_law p (step_made p st) StepLimit acts st _ _ (λ st1. opened_law (block_opening c args env st1.next) acts st1))
  rule_law (Enter code r args env) acts st = step_first p _ _ _ (opened_law (method_opening p code r args env st.next) acts st)
  rule_law (SendTo selector r args env) acts st = step_first p _ _ _ (charge_law p (step_made p st) StepLimit acts st _ _ (λ st1. sim.use' (Perform _ env) acts st1))
  rule_law (SuperTo c selector r args env) acts st = step_first p _ _ _ (charge_law p (step_made p st) StepLimit acts st _ _ (λ st1. sim.use' (Perform _ env) acts st1))
  rule_law (Perform a env) acts st = step_first p _ _ _ (perform_law a env acts st)
  rule_law (Raise e env) acts st = step_first p _ _ _ (raise_law (is_live e (standing_of acts)) e env acts st)
  rule_law (RaiseNew c slots env) acts st = step_first p _ _ _ (raise_new_law c slots env acts st)
  rule_law (SignalPoint n e env) acts st =
      step_first p _ _ _ (handle_law p _ _ (SignalAct n e env ∷ acts) acts _ (sim.use' (SearchIn _ env) (SignalAct n e env ∷ acts) _) (λ o st'. signal_end_law n e o env acts st'))
  rule_law (Resignaled n e f env) acts st =
      step_first p _ _ _ (handle_law p _ _ (SignalAct n e env ∷ acts) acts _ (sim.use' (Raise f env) (SignalAct n e env ∷ acts) st) (λ o st'. signal_end_law n e o env acts st'))
  rule_law (SearchIn x rest) acts st = step_first p _ _ _ (search_law x rest acts st)
  rule_law (TurnBy x entry outside) acts st = step_first p _ _ _ (turn_law (asks_nested x) x entry outside acts st)
  rule_law (Ask w k t env) acts st =
      step_first p _ _ _ (charge_law p (stood p (standing_of acts) st) DepthLimit acts st _ _ (λ st1.
      handle_law p _ _ (ResumeWait st.next w k t env ∷ acts) acts _ (sim.use' (SendTo _ (Object t.exception) [] env) (ResumeWait st.next w k t env ∷ acts) st1) (λ o st'. wait_law st.next w k t env acts o st')))
  rule_law (Protect receiver entry env) acts st =
      step_first p _ _ _ (handle_law p _ _ (ProtectAct receiver entry env ∷ acts) acts _ (sim.use' (Apply receiver [] (entry ∷ env)) (ProtectAct receiver entry env ∷ acts) st) (λ o st'. protect_end_law o receiver entry env acts st'))
  rule_law (Finish n block held env) acts st =
      step_first p _ _ _ (handle_law p _ _ (ActionOff n held ∷ acts) acts _ (sim.use' (Apply block [] env) (ActionOff n held ∷ acts) st) (λ o st'. action_end_law p n held o acts st'))
  rule_law (VisitBy n v env) acts st = step_first p _ _ _ (visit_law n v env acts st)
  rule_law (RunBody f env) acts st =
      handle_law p _ _ (body f env [] (end_code f.kind) ∷ acts) acts _ (body_law f env acts (body_at p f.code).statements st) (λ o st'. body_end_law p o f env acts st')

-- the machine follows the rules at every index
pub simulated : (p : Program) (n : ℕ) → Sim p (at_index p n)
unfolding at_index
simulated p zero = record { use' = λ u acts st. tt; tree = λ t f env ops rest acts st. tt }
simulated p (suc n) =
    record {
      use' = λ u acts st. rule_law p (at_index p n) (simulated p n) u acts st;
      tree = λ t f env ops rest acts st. eval_law p (at_index p n) (simulated p n) f env acts t ops rest st;
    }
