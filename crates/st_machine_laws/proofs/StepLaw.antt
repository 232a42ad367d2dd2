-- Each step of a machine is some small steps of the flat machine, or ends it where a send isn't done at once.
use Rattle.std.proofs.Common.{◌≡◌, ℕ, suc, ◌<◌, ◌⊎◌, inl, inr, List, [], ◌++◌, Bool, true, false, nat_lt, refl, ap, sym, ◌∙◌, arith}
use Rattle.std.proofs.lemmas.List.{append-nil}
use Rattle.object_heap.specs.declared.value.Value.{Value}
use Rattle.st_code.specs.Texts.{Text}
use Rattle.st_contexts.specs.declared.activation.Env.{Env}
use Rattle.st_loops.specs.declared.state.LoopState.{LoopState}
use Rattle.st_loops.specs.States.{state_of}
use Rattle.st_rules.specs.Events.{Event}
use Rattle.st_rules.specs.State.{step_made}
use Rattle.st_rules.specs.Flat.{FlatBody, flat, greatest_width}
use Rattle.st_rules.specs.Turns.{Top, top_iter, instructions}
use Rattle.st_machine.specs.declared.work.Mode.{Mode}
use Rattle.st_machine.specs.declared.work.Mode.TheVariants as mode
use Rattle.st_machine.specs.declared.work.Work.{Work}
use Rattle.st_machine.specs.declared.work.Work.TheVariants as work
use Rattle.st_machine.specs.Seen.{Plan, Seen}
use Rattle.st_machine.specs.Plans.{program_in}
use Rattle.st_machine.specs.Steps.{advanced, advance_told, advance_written}
use Rattle.st_machine.specs.Loops.{loop_goes_on}
use Rattle.st_machine.specs.Sending.{send_of, super_send_of, value_in, send_is_sound, super_send_is_sound}
use Rattle.st_machine.specs.Sound.{is_fit, IsSent, IsKept}
use Rattle.st_machine.specs.Meaning.{events_of, top_of}
use Rattle.st_machine.specs.Followed.{Moves, IsSound, Ready, Leads, FollowsTheFlat}
use Rattle.st_machine_laws.specs.Holding.{Holds}
use Rattle.st_machine_laws.proofs.Settling.{with}
use Rattle.st_machine_laws.proofs.Steps.{ready}
use Rattle.st_machine_laws.proofs.Stopping.{Stops, sends_or_stops, gives_or_stops}
use Rattle.st_machine_laws.proofs.Moments.{P, B, at, Moving, Strands, StepsOn, Reached, StepLaw}

moving : (m : Mode) (n : ℕ) → Moves m n → Moving m n
moving mode.Run n h = h
moving (mode.Settle o) n h = h
moving (mode.Begin w) n h = h
moving mode.Next n h = tt
moving (mode.Ended e) n h = tt

strands_so : (s : Seen) → Stops (advanced s) (advance_written s) → Strands s
strands_so s x = record { mode = x.mode; written = x.written }

module _ (plan : Plan) (law : FollowsTheFlat) where
  same_steps : (q : Plan) (w n : ℕ) (t : Top FlatBody) → q ≡ plan → w ≡ greatest_width plan.codes → top_iter (flat (program_in q) q.codes w) (program_in q) n t ≡ top_iter (B plan) (P plan) n t
  same_steps q w n t e l = ap (λ w. top_iter (flat (program_in q) q.codes w) (program_in q) n t) l ∙ ap (λ (q : Plan). top_iter (flat (program_in q) q.codes (greatest_width plan.codes)) (program_in q) n t) e

  same_counts : (q : Plan) (w n : ℕ) (t : Top FlatBody) → q ≡ plan → w ≡ greatest_width plan.codes → instructions (flat (program_in q) q.codes w) (program_in q) n t ≡ instructions (B plan) (P plan) n t
  same_counts q w n t e l = ap (λ w. instructions (flat (program_in q) q.codes w) (program_in q) n t) l ∙ ap (λ (q : Plan). instructions (flat (program_in q) q.codes (greatest_width plan.codes)) (program_in q) n t) e

  module _ (i : ℕ) (tr : Text) (ev : List Event) where
    abbrev Goes : Seen → Type 0
    Goes s = StepsOn plan s tr ev ⊎ Strands s

    leads_on : (s : Seen) → Holds (at plan i) s → Leads s (top_of tr ev s) (top_of (tr ++ advance_written s) (ev ++ events_of (advance_told s)) (advanced s)) → StepsOn plan s tr ev
    leads_on s h c =
        record {
          count = c.count;
          moves = moving s.mode c.count c.moves;
          counted = sym (same_counts s.plan s.stack.width c.count (top_of tr ev s) h.firm.same h.firm.wide) ∙ c.counted;
          leads = sym (same_steps s.plan s.stack.width c.count (top_of tr ev s) h.firm.same h.firm.wide) ∙ c.leads;
        }

    soundly : (s : Seen) → Holds (at plan i) s → IsSound s.mode s → Goes s
    soundly s h sound = inl (leads_on s h (law s tr ev (ready (at plan i) s h sound)))

    -- ---- sends

    abbrev begins : Work → Seen → Seen
    begins w s = with s s.stack.acts (mode.Begin w)

    send_by : (selector : ℕ) (receiver : Value) (env : Env) (s : Seen) (b : Bool) → nat_lt s.steps (program_in s.plan).step_limit ≡ b → Holds (at plan i) (begins (work.SendTo selector receiver env) s) → Goes (begins (work.SendTo selector receiver env) s)
    unfolding step_made
    send_by selector receiver env s false e h =
        inl (leads_on (begins (work.SendTo selector receiver env) s) h (record { count = 1; moves = omega arith; counted = refl; leads = rw (e, append-nil ev, append-nil tr) refl }))
    send_by selector receiver env s true e h =
        let t : Seen = begins (work.SendTo selector receiver env) s in
        decide (sends_or_stops (send_is_sound selector receiver t) (is_fit (send_of selector receiver t) t) (send_of selector receiver t) env t refl h.firm e)
      where
        decide : IsSent (send_is_sound selector receiver (begins (work.SendTo selector receiver env) s)) (send_of selector receiver (begins (work.SendTo selector receiver env) s)) (begins (work.SendTo selector receiver env) s)
            ⊎ Stops (advanced (begins (work.SendTo selector receiver env) s)) (advance_written (begins (work.SendTo selector receiver env) s)) → Goes (begins (work.SendTo selector receiver env) s)
        decide (inl sound) = soundly (begins (work.SendTo selector receiver env) s) h sound
        decide (inr x) = inr (strands_so (begins (work.SendTo selector receiver env) s) x)

    super_by : (class : Value) (selector : ℕ) (receiver : Value) (env : Env) (s : Seen) (b : Bool) → nat_lt s.steps (program_in s.plan).step_limit ≡ b → Holds (at plan i) (begins (work.SuperTo class selector receiver env) s) → Goes (begins (work.SuperTo class selector receiver env) s)
    unfolding step_made
    super_by class selector receiver env s false e h =
        inl (leads_on (begins (work.SuperTo class selector receiver env) s) h (record { count = 1; moves = omega arith; counted = refl; leads = rw (e, append-nil ev, append-nil tr) refl }))
    super_by class selector receiver env s true e h =
        let t : Seen = begins (work.SuperTo class selector receiver env) s in
        decide (sends_or_stops (super_send_is_sound class selector receiver t) (is_fit (super_send_of class selector receiver t) t) (super_send_of class selector receiver t) env t refl h.firm e)
      where
        decide : IsSent (super_send_is_sound class selector receiver (begins (work.SuperTo class selector receiver env) s)) (super_send_of class selector receiver (begins (work.SuperTo class selector receiver env) s)) (begins (work.SuperTo class selector receiver env) s)
            ⊎ Stops (advanced (begins (work.SuperTo class selector receiver env) s)) (advance_written (begins (work.SuperTo class selector receiver env) s)) → Goes (begins (work.SuperTo class selector receiver env) s)
        decide (inl sound) = soundly (begins (work.SuperTo class selector receiver env) s) h sound
        decide (inr x) = inr (strands_so (begins (work.SuperTo class selector receiver env) s) x)

    value_by : (receiver : Value) (env : Env) (s : Seen) (b : Bool) → nat_lt s.steps (program_in s.plan).step_limit ≡ b → Holds (at plan i) (begins (work.SendValue receiver env) s) → Goes (begins (work.SendValue receiver env) s)
    unfolding step_made
    value_by receiver env s false e h =
        inl (leads_on (begins (work.SendValue receiver env) s) h (record { count = 1; moves = omega arith; counted = refl; leads = rw (e, append-nil ev, append-nil tr) refl }))
    value_by receiver env s true e h =
        let t : Seen = begins (work.SendValue receiver env) s in
        decide (sends_or_stops (send_is_sound (value_in t) receiver t) (is_fit (send_of (value_in t) receiver t) t) (send_of (value_in t) receiver t) env t refl h.firm e)
      where
        decide : IsSent (send_is_sound (value_in (begins (work.SendValue receiver env) s)) receiver (begins (work.SendValue receiver env) s)) (send_of (value_in (begins (work.SendValue receiver env) s)) receiver (begins (work.SendValue receiver env) s)) (begins (work.SendValue receiver env) s)
            ⊎ Stops (advanced (begins (work.SendValue receiver env) s)) (advance_written (begins (work.SendValue receiver env) s)) → Goes (begins (work.SendValue receiver env) s)
        decide (inl sound) = soundly (begins (work.SendValue receiver env) s) h sound
        decide (inr x) = inr (strands_so (begins (work.SendValue receiver env) s) x)

    -- ---- a loop

    gives_by : (n : ℕ) (l : LoopState) (v : Value) (env : Env) (s : Seen) → Holds (at plan i) (begins (work.Visit n l v env) s)
        → IsKept (state_of l) (begins (work.Visit n l v env) s) ⊎ Stops (advanced (begins (work.Visit n l v env) s)) [] → Goes (begins (work.Visit n l v env) s)
    gives_by n l v env s h (inl sound) = soundly (begins (work.Visit n l v env) s) h sound
    gives_by n l v env s h (inr x) = inr (strands_so (begins (work.Visit n l v env) s) x)

    -- ---- any step

    works : (w : Work) (s : Seen) → Holds (at plan i) (begins w s) → Goes (begins w s)
    works (work.SendValue receiver env) s h = value_by receiver env s (nat_lt s.steps (program_in s.plan).step_limit) refl h
    works (work.SendTo selector receiver env) s h = send_by selector receiver env s (nat_lt s.steps (program_in s.plan).step_limit) refl h
    works (work.SuperTo class selector receiver env) s h = super_by class selector receiver env s (nat_lt s.steps (program_in s.plan).step_limit) refl h
    works (work.Visit n l v env) s h =
        let t : Seen = begins (work.Visit n l v env) s in
        gives_by n l v env s h (gives_or_stops (loop_goes_on t.memory.store (state_of l)) l v env t refl)
    works (work.Apply receiver env) s h = soundly (begins (work.Apply receiver env) s) h tt
    works (work.Activate c env) s h = soundly (begins (work.Activate c env) s) h tt
    works (work.Enter code receiver env) s h = soundly (begins (work.Enter code receiver env) s) h tt
    works (work.Fail trouble env) s h = soundly (begins (work.Fail trouble env) s) h tt
    works (work.Raise e env) s h = soundly (begins (work.Raise e env) s) h tt
    works (work.RaiseNew class env) s h = soundly (begins (work.RaiseNew class env) s) h tt
    works (work.Search x rest) s h = soundly (begins (work.Search x rest) s) h tt
    works (work.TurnBy x entry outside) s h = soundly (begins (work.TurnBy x entry outside) s) h tt
    works (work.Ask v k t env) s h = soundly (begins (work.Ask v k t env) s) h tt

    by_mode : (m : Mode) (s : Seen) → Holds (at plan i) (with s s.stack.acts m) → Goes (with s s.stack.acts m)
    by_mode mode.Run s h = soundly (with s s.stack.acts mode.Run) h tt
    by_mode (mode.Settle o) s h = soundly (with s s.stack.acts (mode.Settle o)) h tt
    by_mode (mode.Begin w) s h = works w s h
    by_mode mode.Next s h = soundly (with s s.stack.acts mode.Next) h tt
    by_mode (mode.Ended e) s h = soundly (with s s.stack.acts (mode.Ended e)) h tt

  pub step_law : StepLaw plan
  step_law i s tr ev h r = by_mode i tr ev s.mode s h
