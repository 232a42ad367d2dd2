-- A send, and the next visit of a loop, are some small steps of the flat machine.
use Rattle.std.proofs.Common.{◌≡◌, ℕ, suc, ◌+◌, ◌-◌, ◌<◌, ◌≤◌, ◌^◌, List, [], ◌∷◌, ◌++◌, length, nat_lt, Bool, true, false, refl, ap, sym, ◌∙◌, arith}
use Rattle.std.proofs.lemmas.List.{append-nil}
use Rattle.object_heap.specs.declared.value.Value.{Value}
use Rattle.object_heap.specs.Charges.{Memory}
use Rattle.st_code.specs.Texts.{Text}
use Rattle.st_code.specs.Program.{Program}
use Rattle.st_collections.specs.Actions.{Action, Gives, Changes, Makes, Fails, PassesIntegers, DividesByZero, Writes, Begins, Activates, Sends, Misses, Enters, Guards, Ensures, Curtails, Iterates, Raises, RaisesNew, Controls, Terminates}
use Rattle.st_collections.specs.Loops.{next_visit}
use Rattle.st_contexts.specs.declared.activation.Activation.{Activation}
use Rattle.st_contexts.specs.declared.activation.Env.{Env}
use Rattle.st_contexts.specs.Stack.{Standing}
use Rattle.st_loops.specs.declared.state.LoopState.{LoopState}
use Rattle.st_loops.specs.States.{state_of as kept_state}
use Rattle.st_rules.specs.Events.{Event}
use Rattle.st_rules.specs.State.{step_made}
use Rattle.st_rules.specs.Turns.{Top, On, top_iter}
use Rattle.st_rules.specs.Machine.{perform_act}
use Rattle.st_rules.specs.Flat.{FlatBody, flat}
use Rattle.st_machine.specs.declared.work.Mode.TheVariants as mode
use Rattle.st_machine.specs.declared.work.Work.{Work}
use Rattle.st_machine.specs.declared.work.Work.TheVariants as work
use Rattle.st_machine.specs.Seen.{Plan, Passed, Seen}
use Rattle.st_machine.specs.Plans.{program_in}
use Rattle.st_machine.specs.Sending.{send_is_sound, send_of, super_send_is_sound, super_send_of, value_in}
use Rattle.st_machine.specs.Sound.{is_fit, IsSent, IsKept}
use Rattle.st_machine.specs.Works.{begun, begun_told, begun_written}
use Rattle.st_machine.specs.Meaning.{top_of, events_of, loop_of, acts_of, env_of, state_of, target_in, behind}
use Rattle.st_machine.specs.Performing.{performed, performed_told, performed_written}
use Rattle.st_machine.specs.Followed.{Falling}
use Rattle.st_machine.proofs.FollowsSettling.{Moved, Comes}
use Rattle.st_machine.proofs.FollowsPerforming.{performs}
use Rattle.st_machine.proofs.FollowsLoops.{visits}
use Rattle.st_machine.proofs.LoopStates.{values_few}
use Rattle.st_machine.proofs.SmallVisits.{Small, next_visit_small, small_fits}

none : {n : ℕ} → n ≡ 0 → 0 + (0 + n) ≡ 0
none e = omega (arith, e)

-- the step that a send costs changes nothing of what an action asks
fit_behind : (a : Action) (s : Seen) (steps : ℕ) → is_fit a (record s { steps = steps }) ≡ is_fit a s
fit_behind (Gives v) s steps = refl
fit_behind (Changes t v) s steps = refl
fit_behind (Makes cells t v) s steps = refl
fit_behind (Fails trouble) s steps = refl
fit_behind PassesIntegers s steps = refl
fit_behind (Raises t x) s steps = refl
fit_behind (Writes text v) s steps = refl
fit_behind (DividesByZero dividend) s steps = refl
fit_behind (Begins v args) s steps = refl
fit_behind (Activates c args) s steps = refl
fit_behind (Sends selector r args) s steps = refl
fit_behind (Misses selector r args) s steps = refl
fit_behind (Enters code r args) s steps = refl
fit_behind (Guards receiver selector handler) s steps = refl
fit_behind (Ensures receiver block) s steps = refl
fit_behind (Curtails receiver block) s steps = refl
fit_behind (Iterates l) s steps = refl
fit_behind (RaisesNew class slots) s steps = refl
fit_behind (Controls c x v) s steps = refl
fit_behind (Terminates v) s steps = refl

module _ (plan : Plan) (next depth width : ℕ) (vars : List Value) (passed : Passed) (steps deepest inits instrs : ℕ) (tr : Text) (ev : List Event) (acts : List Standing) (mem : Memory) where
  abbrev p : Program
  p = program_in plan

  abbrev here : Work → Seen
  here w = record { plan = plan; stack = record { acts = acts; next = next; depth = depth; width = width }; memory = mem; variables = vars; passed = passed; mode = mode.Begin w; steps = steps; deepest = deepest; initializers = inits; instructions = instrs }

  -- the step is counted
  abbrev behind_step : Work → Seen
  behind_step w = record { plan = plan; stack = record { acts = acts; next = next; depth = depth; width = width }; memory = mem; variables = vars; passed = passed; mode = mode.Begin w; steps = steps + 1; deepest = deepest; initializers = inits; instructions = instrs }

  abbrev Law : Work → Type 0
  Law w = Moved plan width (top_of tr ev (here w)) (top_of (tr ++ begun_written w (here w)) (ev ++ events_of (begun_told w (here w))) (begun w (here w)))

  module _ (same_depth : depth ≡ p.depth_limit) (numbers : next < 2 ^ 64 - 1) (cells : mem.limit ≡ p.cell_limit) (troubles : plan.troubles ≡ p.trouble_place) (falling : Falling next acts) (room : 2 ≤ passed.room) where
    -- ---- a send

    sends_on : (selector : ℕ) (r : Value) (env : Env) → nat_lt steps p.step_limit ≡ true → send_is_sound selector r (here (work.SendTo selector r env)) ≡ true
        → Comes plan width (On (target_in p inits) (behind p inits) (perform_act (flat p plan.codes width) p (send_of selector r (here (work.SendTo selector r env))) (env_of acts env) (acts_of acts) (state_of tr ev (behind_step (work.SendTo selector r env)))))
        (top_of (tr ++ performed_written (send_of selector r (here (work.SendTo selector r env))) (behind_step (work.SendTo selector r env))) (ev ++ events_of (performed_told (send_of selector r (here (work.SendTo selector r env))) (behind_step (work.SendTo selector r env)))) (performed (send_of selector r (here (work.SendTo selector r env))) env (behind_step (work.SendTo selector r env)))) → Law (work.SendTo selector r env)
    unfolding step_made
    sends_on selector r env e done c = record { more = suc c.count; counted = rw e (none c.counted); comes = rw (e, done) c.comes }

    sends_by : (selector : ℕ) (r : Value) (env : Env) (b : Bool) → env.0 < next → IsSent (send_is_sound selector r (here (work.SendTo selector r env))) (send_of selector r (here (work.SendTo selector r env))) (here (work.SendTo selector r env)) → nat_lt steps p.step_limit ≡ b → Law (work.SendTo selector r env)
    unfolding step_made
    sends_by selector r env false below sound e = record { more = 0; counted = refl; comes = rw (e, append-nil tr, append-nil ev) refl }
    sends_by selector r env true below sound e =
        sends_on selector r env e sound.done
        (performs plan next depth width vars passed (steps + 1) deepest inits instrs tr ev acts (mode.Begin (work.SendTo selector r env)) env same_depth numbers below room (send_of selector r (here (work.SendTo selector r env))) mem cells troubles falling (fit_behind (send_of selector r (here (work.SendTo selector r env))) (here (work.SendTo selector r env)) (steps + 1) ∙ sound.fit))

    pub sends : (selector : ℕ) (r : Value) (env : Env) → env.0 < next → IsSent (send_is_sound selector r (here (work.SendTo selector r env))) (send_of selector r (here (work.SendTo selector r env))) (here (work.SendTo selector r env)) → Law (work.SendTo selector r env)
    sends selector r env below sound = sends_by selector r env (nat_lt steps p.step_limit) below sound refl

    value_sends_on : (r : Value) (env : Env) → nat_lt steps p.step_limit ≡ true → send_is_sound (value_in (here (work.SendValue r env))) r (here (work.SendValue r env)) ≡ true
        → Comes plan width (On (target_in p inits) (behind p inits) (perform_act (flat p plan.codes width) p (send_of (value_in (here (work.SendValue r env))) r (here (work.SendValue r env))) (env_of acts env) (acts_of acts) (state_of tr ev (behind_step (work.SendValue r env)))))
        (top_of (tr ++ performed_written (send_of (value_in (here (work.SendValue r env))) r (here (work.SendValue r env))) (behind_step (work.SendValue r env))) (ev ++ events_of (performed_told (send_of (value_in (here (work.SendValue r env))) r (here (work.SendValue r env))) (behind_step (work.SendValue r env)))) (performed (send_of (value_in (here (work.SendValue r env))) r (here (work.SendValue r env))) env (behind_step (work.SendValue r env)))) → Law (work.SendValue r env)
    unfolding step_made
    value_sends_on r env e done c = record { more = suc c.count; counted = rw e (none c.counted); comes = rw (e, done) c.comes }

    value_sends_by : (r : Value) (env : Env) (b : Bool) → env.0 < next → IsSent (send_is_sound (value_in (here (work.SendValue r env))) r (here (work.SendValue r env))) (send_of (value_in (here (work.SendValue r env))) r (here (work.SendValue r env))) (here (work.SendValue r env)) → nat_lt steps p.step_limit ≡ b → Law (work.SendValue r env)
    unfolding step_made
    value_sends_by r env false below sound e = record { more = 0; counted = refl; comes = rw (e, append-nil tr, append-nil ev) refl }
    value_sends_by r env true below sound e =
        let s = here (work.SendValue r env) in
        value_sends_on r env e sound.done
        (performs plan next depth width vars passed (steps + 1) deepest inits instrs tr ev acts (mode.Begin (work.SendValue r env)) env same_depth numbers below room (send_of (value_in s) r s) mem cells troubles falling (fit_behind (send_of (value_in s) r s) s (steps + 1) ∙ sound.fit))

    pub value_sends : (r : Value) (env : Env) → env.0 < next → IsSent (send_is_sound (value_in (here (work.SendValue r env))) r (here (work.SendValue r env))) (send_of (value_in (here (work.SendValue r env))) r (here (work.SendValue r env))) (here (work.SendValue r env)) → Law (work.SendValue r env)
    value_sends r env below sound = value_sends_by r env (nat_lt steps p.step_limit) below sound refl

    super_sends_on : (class : Value) (selector : ℕ) (r : Value) (env : Env) → nat_lt steps p.step_limit ≡ true → super_send_is_sound class selector r (here (work.SuperTo class selector r env)) ≡ true
        → Comes plan width (On (target_in p inits) (behind p inits) (perform_act (flat p plan.codes width) p (super_send_of class selector r (here (work.SuperTo class selector r env))) (env_of acts env) (acts_of acts) (state_of tr ev (behind_step (work.SuperTo class selector r env)))))
        (top_of (tr ++ performed_written (super_send_of class selector r (here (work.SuperTo class selector r env))) (behind_step (work.SuperTo class selector r env))) (ev ++ events_of (performed_told (super_send_of class selector r (here (work.SuperTo class selector r env))) (behind_step (work.SuperTo class selector r env)))) (performed (super_send_of class selector r (here (work.SuperTo class selector r env))) env (behind_step (work.SuperTo class selector r env)))) → Law (work.SuperTo class selector r env)
    unfolding step_made
    super_sends_on class selector r env e done c = record { more = suc c.count; counted = rw e (none c.counted); comes = rw (e, done) c.comes }

    super_sends_by : (class : Value) (selector : ℕ) (r : Value) (env : Env) (b : Bool) → env.0 < next → IsSent (super_send_is_sound class selector r (here (work.SuperTo class selector r env))) (super_send_of class selector r (here (work.SuperTo class selector r env))) (here (work.SuperTo class selector r env)) → nat_lt steps p.step_limit ≡ b → Law (work.SuperTo class selector r env)
    unfolding step_made
    super_sends_by class selector r env false below sound e = record { more = 0; counted = refl; comes = rw (e, append-nil tr, append-nil ev) refl }
    super_sends_by class selector r env true below sound e =
        let s = here (work.SuperTo class selector r env) in
        super_sends_on class selector r env e sound.done
        (performs plan next depth width vars passed (steps + 1) deepest inits instrs tr ev acts (mode.Begin (work.SuperTo class selector r env)) env same_depth numbers below room (super_send_of class selector r s) mem cells troubles falling (fit_behind (super_send_of class selector r s) s (steps + 1) ∙ sound.fit))

    pub super_sends : (class : Value) (selector : ℕ) (r : Value) (env : Env) → env.0 < next → IsSent (super_send_is_sound class selector r (here (work.SuperTo class selector r env))) (super_send_of class selector r (here (work.SuperTo class selector r env))) (here (work.SuperTo class selector r env)) → Law (work.SuperTo class selector r env)
    super_sends class selector r env below sound = super_sends_by class selector r env (nat_lt steps p.step_limit) below sound refl

-- ---- a loop that gets a value

module _ (plan : Plan) (next depth width : ℕ) (vars : List Value) (passed : Passed) (steps deepest inits instrs : ℕ) (tr : Text) (ev : List Event) (acts : List Standing) (mem : Memory) (n : ℕ) (k : Activation) (env : Env) (ops : List Value) where
  abbrev loop_here : Work → Seen
  loop_here w = record { plan = plan; stack = record { acts = record { number = n; kept = k; env = env; operands = ops } ∷ acts; next = next; depth = depth; width = width }; memory = mem; variables = vars; passed = passed; mode = mode.Begin w; steps = steps; deepest = deepest; initializers = inits; instructions = instrs }

  abbrev VisitLaw : LoopState → Value → Type 0
  VisitLaw l v =
      Moved plan width (top_of tr ev (loop_here (work.Visit n l v env))) (top_of (tr ++ []) (ev ++ []) (begun (work.Visit n l v env) (loop_here (work.Visit n l v env))))

  pub visits_on : (l : LoopState) (v : Value) → env.0 < n → mem.limit ≡ (program_in plan).cell_limit → 2 ≤ passed.room → IsKept (kept_state l) (loop_here (work.Visit n l v env)) → VisitLaw l v
  unfolding loop_of
  visits_on l v below cells room sound =
      record { more = 0; counted = refl; comes = rw (sound.kept, append-nil tr, append-nil ev) (visits plan next depth width vars passed steps deepest inits instrs tr ev acts n env ops (mode.Begin (work.Visit n l v env)) below (next_visit (program_in plan) mem.store (kept_state l) v) k mem cells (small_fits (next_visit (program_in plan) mem.store (kept_state l) v) mem passed (next_visit_small (program_in plan) mem.store (kept_state l) v (values_few l.arguments)).small room)) }
