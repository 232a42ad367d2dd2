-- A step of a machine that is ready is some small steps of the flat machine.
use Rattle.std.proofs.Common.{◌≡◌, ℕ, suc, ◌+◌, ◌-◌, ◌^◌, min, List, [], ◌∷◌, ◌++◌, slice_get, true, nat_lt, ◌<◌, ◌≤◌, lt-ltb, refl, ap, sym, subst, ◌∙◌, arith}
use Rattle.std.proofs.lemmas.List.{append-nil}
use Rattle.object_heap.specs.declared.value.Value.{Value}
use Rattle.st_code.specs.Texts.{Text}
use Rattle.st_contexts.specs.declared.activation.Activation.{Activation}
use Rattle.st_contexts.specs.declared.activation.Activation.TheVariants as act
use Rattle.st_contexts.specs.declared.activation.Env.{Env}
use Rattle.st_contexts.specs.declared.activation.Frame.{Frame}
use Rattle.st_contexts.specs.declared.outcome.Outcome.TheVariants as outcome
use Rattle.st_contexts.specs.declared.outcome.Target.{Target}
use Rattle.st_contexts.specs.declared.outcome.Target.TheVariants as target
use Rattle.st_contexts.specs.declared.outcome.Limit.{Limit}
use Rattle.st_contexts.specs.declared.outcome.Limit.TheVariants as limit
use Rattle.st_contexts.specs.Stack.{Standing}
use Rattle.st_loops.specs.declared.state.LoopState.{LoopState}
use Rattle.st_rules.specs.Events.{Event}
use Rattle.st_rules.specs.Flat.{code_at, instruction_at}
use Rattle.st_machine.specs.declared.work.Mode.{Mode}
use Rattle.st_machine.specs.declared.work.Mode.TheVariants as mode
use Rattle.st_machine.specs.declared.work.Work.{Work}
use Rattle.st_machine.specs.declared.work.Work.TheVariants as work
use Rattle.st_machine.specs.Seen.{Seen}
use Rattle.st_machine.specs.Steps.{advanced, advance_told, advance_written}
use Rattle.st_machine.specs.Meaning.{top_of, events_of}
use Rattle.st_machine.specs.Followed.{Ready, Moves, runs_in, Leads}
use Rattle.st_machine.proofs.FollowsInstructions.{next_by}
use Rattle.st_machine.proofs.FollowsWorks.{applies, activates, enters}
use Rattle.st_machine.proofs.FollowsInitializers.{keeps, next_opens}
use Rattle.st_machine.proofs.FollowsSettling.{value_law, unwinding_law}
use Rattle.st_machine.proofs.FollowsSignals.{raises, raises_new, fails}
use Rattle.st_machine.proofs.FollowsSending.{sends, super_sends, value_sends, visits_on}
use Rattle.st_machine.proofs.FollowsSearches.{searches, turns, asks}

enough : (room width : ℕ) → width ≤ room → 8 ≤ width → 2 ≤ room
enough room width e l = omega (arith, e, l)

room_there : (room width : ℕ) → width ≤ room → 8 ≤ width → nat_lt 0 room ≡ true
room_there room width e l = lt-ltb 0 room (omega (arith, e, l))

some : (n : ℕ) → 0 < suc n
some n = omega arith

none : {n : ℕ} → n ≡ 0 → 0 + n ≡ 0
none e = omega (arith, e)

-- the machine with these activations and this mode
abbrev with : Seen → List Standing → Mode → Seen
with s acts m = record { plan = s.plan; stack = record { acts = acts; next = s.stack.next; depth = s.stack.depth; width = s.stack.width }; memory = s.memory; variables = s.variables; passed = s.passed; mode = m; steps = s.steps; deepest = s.deepest; initializers = s.initializers; instructions = s.instructions }

module _ (tr : Text) (ev : List Event) where
  abbrev Follows : Seen → Type 0
  Follows s = Ready s → Leads s (top_of tr ev s) (top_of tr (ev ++ events_of (advance_told s)) (advanced s))

  abbrev Writes : Seen → Type 0
  Writes s = Ready s → Leads s (top_of tr ev s) (top_of (tr ++ advance_written s) (ev ++ events_of (advance_told s)) (advanced s))

  -- a step that writes nothing
  quiet : (s : Seen) → advance_written s ≡ [] → Leads s (top_of tr ev s) (top_of tr (ev ++ events_of (advance_told s)) (advanced s)) → Leads s (top_of tr ev s) (top_of (tr ++ advance_written s) (ev ++ events_of (advance_told s)) (advanced s))
  quiet s e l =
      record {
        count = l.count;
        moves = l.moves;
        counted = l.counted;
        leads = l.leads ∙ ap (λ (t : Text). top_of t (ev ++ events_of (advance_told s)) (advanced s)) (sym (ap (λ (t : Text). tr ++ t) e ∙ append-nil tr));
      }

  -- nothing more was told
  untold : (s : Seen) → top_of tr ev s ≡ top_of tr (ev ++ []) s
  untold s = ap (λ e. top_of tr e s) (sym (append-nil ev))

  abbrev stays : (s : Seen) → Moves s.mode 0 → 0 ≡ runs_in s.mode → Leads s (top_of tr ev s) (top_of tr (ev ++ []) s)
  stays s moves counted = record { count = 0; moves = moves; counted = counted; leads = untold s }

  -- ---- an instruction

  runs_body : (s : Seen) (f : Frame) (n : ℕ) (env : Env) (ops : List Value) (acts : List Standing) → Follows (with s (record { number = n; kept = act.Body f; env = env; operands = ops } ∷ acts) mode.Run)
  unfolding instruction_at
  runs_body s f n env ops acts r =
      let moves : min (f.position + 1) (2 ^ 32 - 1) ≡ f.position + 1 = omega (arith, r.falling.0.kept) in
      record {
        count = 1;
        moves = some 0;
        counted = refl;
        leads =
            next_by s.plan s.stack.next s.stack.depth s.stack.width s.memory s.variables s.passed s.steps s.deepest s.initializers (min (s.instructions + 1) (2 ^ 64 - 1)) tr ev f n env ops acts moves r.falling.0.env r.cells r.passes (slice_get (code_at s.plan.codes f.code).instructions f.position) (r.roomy.counts f.code f.position)
            ∙ untold (advanced (with s (record { number = n; kept = act.Body f; env = env; operands = ops } ∷ acts) mode.Run));
      }

  runs_top : (s : Seen) (k : Activation) (n : ℕ) (env : Env) (ops : List Value) (acts : List Standing) → Follows (with s (record { number = n; kept = k; env = env; operands = ops } ∷ acts) mode.Run)
  runs_top s (act.Body f) n env ops acts r = runs_body s f n env ops acts r
  runs_top s (act.Leaving f) n env ops acts r = absurd r.next
  runs_top s (act.Protect a b c) n env ops acts r = absurd r.next
  runs_top s (act.EnsureOn b) n env ops acts r = absurd r.next
  runs_top s (act.CurtailOn b) n env ops acts r = absurd r.next
  runs_top s (act.ActionOff o) n env ops acts r = absurd r.next
  runs_top s (act.Signal e) n env ops acts r = absurd r.next
  runs_top s (act.HandlerRun t) n env ops acts r = absurd r.next
  runs_top s act.Outer n env ops acts r = absurd r.next
  runs_top s (act.ResumeWait w m t) n env ops acts r = absurd r.next
  runs_top s (act.HandlesWait x e) n env ops acts r = absurd r.next
  runs_top s (act.Loop l) n env ops acts r = absurd r.next

  runs : (s : Seen) (acts : List Standing) → Follows (with s acts mode.Run)
  runs s [] r = absurd r.next
  runs s (a ∷ acts) r = runs_top s a.kept a.number a.env a.operands acts r

  -- ---- an outcome

  answers : (s : Seen) (v : Value) (acts : List Standing) → Follows (with s acts (mode.Settle (outcome.Answer v)))
  answers s v [] r =
      record { count = 2; moves = some 1; counted = refl; leads = keeps s.plan s.stack.next s.stack.depth s.stack.width s.variables s.passed s.steps s.deepest s.initializers s.instructions tr ev s.memory r.initializers v ∙ untold (advanced (with s [] (mode.Settle (outcome.Answer v)))) }
  answers s v (a ∷ acts) r =
      let c = value_law s.plan s.stack.next s.stack.depth s.stack.width s.variables s.passed s.steps s.deepest s.initializers s.instructions tr ev s.memory (mode.Settle (outcome.Answer v)) a.number a.env a.operands acts r.falling.0.env v a.kept r.falling.0.kept r.falling.0.number r.numbers r.depth in
      record { count = suc c.count; moves = some c.count; counted = none c.counted; leads = c.comes }

  leaves_all : (s : Seen) (t : Target) (v : Value) → Follows (with s [] (mode.Settle (outcome.Go t v)))
  leaves_all s (target.Home n) v r = record { count = 2; moves = some 1; counted = refl; leads = untold (advanced (with s [] (mode.Settle (outcome.Go (target.Home n) v)))) }
  leaves_all s (target.Protected n) v r = record { count = 2; moves = some 1; counted = refl; leads = untold (advanced (with s [] (mode.Settle (outcome.Go (target.Protected n) v)))) }
  leaves_all s (target.Retry n) v r = record { count = 2; moves = some 1; counted = refl; leads = untold (advanced (with s [] (mode.Settle (outcome.Go (target.Retry n) v)))) }
  leaves_all s (target.RetryWith n) v r = record { count = 2; moves = some 1; counted = refl; leads = untold (advanced (with s [] (mode.Settle (outcome.Go (target.RetryWith n) v)))) }
  leaves_all s (target.Resume n) v r = record { count = 2; moves = some 1; counted = refl; leads = untold (advanced (with s [] (mode.Settle (outcome.Go (target.Resume n) v)))) }
  leaves_all s (target.Resignal n e) v r = record { count = 2; moves = some 1; counted = refl; leads = untold (advanced (with s [] (mode.Settle (outcome.Go (target.Resignal n e) v)))) }
  leaves_all s target.Terminate v r = record { count = 2; moves = some 1; counted = refl; leads = untold (advanced (with s [] (mode.Settle (outcome.Go target.Terminate v)))) }

  unwinds : (s : Seen) (t : Target) (v : Value) (acts : List Standing) → Follows (with s acts (mode.Settle (outcome.Go t v)))
  unwinds s t v [] r = leaves_all s t v r
  unwinds s t v (a ∷ acts) r =
      let c = unwinding_law s.plan s.stack.next s.stack.depth s.stack.width s.variables s.passed s.steps s.deepest s.initializers s.instructions tr ev s.memory (mode.Settle (outcome.Go t v)) a.number a.env a.operands acts r.falling.0.env v t a.kept in
      record { count = suc c.count; moves = some c.count; counted = none c.counted; leads = c.comes }

  stops : (s : Seen) (l : Limit) → Follows (with s s.stack.acts (mode.Settle (outcome.Stop l)))
  stops s limit.Steps r = record { count = 2; moves = some 1; counted = refl; leads = untold (advanced (with s s.stack.acts (mode.Settle (outcome.Stop limit.Steps)))) }
  stops s limit.Depth r = record { count = 2; moves = some 1; counted = refl; leads = untold (advanced (with s s.stack.acts (mode.Settle (outcome.Stop limit.Depth)))) }
  stops s limit.Cells r = record { count = 2; moves = some 1; counted = refl; leads = untold (advanced (with s s.stack.acts (mode.Settle (outcome.Stop limit.Cells)))) }
  stops s limit.Integer r = record { count = 2; moves = some 1; counted = refl; leads = untold (advanced (with s s.stack.acts (mode.Settle (outcome.Stop limit.Integer)))) }

  -- ---- a work

  abbrev beginning : Seen → Work → Seen
  beginning s w = with s s.stack.acts (mode.Begin w)

  -- a loop that stands gets a value
  loop_goes_at : (s : Seen) (l : LoopState) (v : Value) (a : Standing) (acts : List Standing) → Writes (with s (a ∷ acts) (mode.Begin (work.Visit a.number l v a.env)))
  loop_goes_at s l v a acts r =
      let c = visits_on s.plan s.stack.next s.stack.depth s.stack.width s.variables s.passed s.steps s.deepest s.initializers s.instructions tr ev acts s.memory a.number a.kept a.env a.operands l v r.falling.0.env r.cells (enough s.passed.room s.stack.width r.passes r.space) r.sound in
      record { count = suc c.more; moves = some c.more; counted = c.counted; leads = c.comes }

  loop_goes : (s : Seen) (n : ℕ) (l : LoopState) (v : Value) (env : Env) (acts : List Standing) → Writes (with s acts (mode.Begin (work.Visit n l v env)))
  loop_goes s n l v env [] r = absurd r.next.1
  loop_goes s n l v env (a ∷ acts) r =
      let At : ℕ → Env → Type 0 = λ n e. Writes (with s (a ∷ acts) (mode.Begin (work.Visit n l v e))) in
      let at_env : At a.number env = subst (At a.number) r.next.1.1 (loop_goes_at s l v a acts) in
      let at_number : At n env = subst (λ k. At k env) r.next.1.0 at_env in
      at_number r

  begins : (s : Seen) (w : Work) → Writes (beginning s w)
  begins s (work.Apply v env) r = quiet (beginning s (work.Apply v env)) refl (record { count = 1; moves = some 0; counted = refl; leads = applies s.plan s.stack.next s.stack.depth s.stack.width s.variables s.passed s.steps s.deepest s.initializers s.instructions tr ev s.stack.acts s.memory r.compiled r.depth r.numbers r.cells r.within r.roomy.variables v env ∙ untold (advanced (beginning s (work.Apply v env))) })
  begins s (work.Activate c env) r = quiet (beginning s (work.Activate c env)) refl (record { count = 1; moves = some 0; counted = refl; leads = activates s.plan s.stack.next s.stack.depth s.stack.width s.variables s.passed s.steps s.deepest s.initializers s.instructions tr ev s.stack.acts s.memory r.compiled r.depth r.numbers r.cells r.within r.roomy.variables c env ∙ untold (advanced (beginning s (work.Activate c env))) })
  begins s (work.Enter code v env) r = quiet (beginning s (work.Enter code v env)) refl (record { count = 1; moves = some 0; counted = refl; leads = enters s.plan s.stack.next s.stack.depth s.stack.width s.variables s.passed s.steps s.deepest s.initializers s.instructions tr ev s.stack.acts s.memory r.compiled r.depth r.numbers r.cells r.within r.roomy.variables code v env ∙ untold (advanced (beginning s (work.Enter code v env))) })
  begins s (work.SendValue v env) r =
      let c = value_sends s.plan s.stack.next s.stack.depth s.stack.width s.variables s.passed s.steps s.deepest s.initializers s.instructions tr ev s.stack.acts s.memory r.depth r.numbers r.cells r.troubles r.falling (enough s.passed.room s.stack.width r.passes r.space) v env r.next.0 r.sound in
      record { count = suc c.more; moves = some c.more; counted = c.counted; leads = c.comes }
  begins s (work.SendTo selector v env) r =
      let c = sends s.plan s.stack.next s.stack.depth s.stack.width s.variables s.passed s.steps s.deepest s.initializers s.instructions tr ev s.stack.acts s.memory r.depth r.numbers r.cells r.troubles r.falling (enough s.passed.room s.stack.width r.passes r.space) selector v env r.next.0 r.sound in
      record { count = suc c.more; moves = some c.more; counted = c.counted; leads = c.comes }
  begins s (work.SuperTo class selector v env) r =
      let c = super_sends s.plan s.stack.next s.stack.depth s.stack.width s.variables s.passed s.steps s.deepest s.initializers s.instructions tr ev s.stack.acts s.memory r.depth r.numbers r.cells r.troubles r.falling (enough s.passed.room s.stack.width r.passes r.space) class selector v env r.next.0 r.sound in
      record { count = suc c.more; moves = some c.more; counted = c.counted; leads = c.comes }
  begins s (work.Fail trouble env) r =
      let c = fails s.plan s.stack.next s.stack.depth s.stack.width s.variables s.passed s.steps s.deepest s.initializers s.instructions tr ev s.stack.acts s.memory r.depth r.numbers r.cells trouble env r.next.0 r.troubles in
      quiet (beginning s (work.Fail trouble env)) refl (record { count = suc c.more; moves = some c.more; counted = c.counted; leads = c.comes })
  begins s (work.Raise e env) r =
      let c = raises s.plan s.stack.next s.stack.depth s.stack.width s.variables s.passed s.steps s.deepest s.initializers s.instructions tr ev s.stack.acts s.memory r.depth r.numbers r.cells e env r.next.0 in
      quiet (beginning s (work.Raise e env)) refl (record { count = suc c.more; moves = some c.more; counted = c.counted; leads = c.comes })
  begins s (work.RaiseNew class env) r =
      let c = raises_new s.plan s.stack.next s.stack.depth s.stack.width s.variables s.passed s.steps s.deepest s.initializers s.instructions tr ev s.stack.acts s.memory r.depth r.numbers r.cells class env r.next.0 in
      quiet (beginning s (work.RaiseNew class env)) refl (record { count = suc c.more; moves = some c.more; counted = c.counted; leads = c.comes })
  begins s (work.Search x rest) r =
      let c = searches s.plan s.stack.next s.stack.depth s.stack.width s.variables s.passed s.steps s.deepest s.initializers s.instructions tr ev s.stack.acts s.memory r.depth r.numbers x rest (room_there s.passed.room s.stack.width r.passes r.space) r.falling in
      quiet (beginning s (work.Search x rest)) refl (record { count = suc c.more; moves = some c.more; counted = c.counted; leads = c.comes })
  begins s (work.TurnBy x entry outside) r =
      let c = turns s.plan s.stack.next s.stack.depth s.stack.width s.variables s.passed s.steps s.deepest s.initializers s.instructions tr ev s.stack.acts s.memory r.depth r.numbers x outside r.next.0.1 entry r.compiled (room_there s.passed.room s.stack.width r.passes r.space) in
      quiet (beginning s (work.TurnBy x entry outside)) refl (record { count = suc c.more; moves = some c.more; counted = c.counted; leads = c.comes })
  begins s (work.Ask w n t env) r =
      let c = asks s.plan s.stack.next s.stack.depth s.stack.width s.variables s.passed s.steps s.deepest s.initializers s.instructions tr ev s.stack.acts s.memory r.depth r.numbers w n t env r.next.0.1 in
      quiet (beginning s (work.Ask w n t env)) refl (record { count = suc c.more; moves = some c.more; counted = c.counted; leads = c.comes })
  begins s (work.Visit n l v env) r = loop_goes s n l v env s.stack.acts r

  -- ---- the next initializer

  begins_next : (s : Seen) (acts : List Standing) → Follows (with s acts mode.Next)
  begins_next s [] r = record { count = 0; moves = tt; counted = refl; leads = next_opens s.plan s.stack.next s.stack.depth s.stack.width s.variables s.passed s.steps s.deepest s.initializers s.instructions tr ev s.memory r.initializers r.compiled r.depth r.numbers r.cells r.within r.roomy.variables ∙ untold (advanced (with s [] mode.Next)) }
  begins_next s (a ∷ acts) r = let none : ⊥ = grind (arith, r.next) in absurd none

  by_mode : (s : Seen) (m : Mode) → Writes (with s s.stack.acts m)
  by_mode s mode.Run r = quiet (with s s.stack.acts mode.Run) refl (runs s s.stack.acts r)
  by_mode s (mode.Settle (outcome.Answer v)) r = quiet (with s s.stack.acts (mode.Settle (outcome.Answer v))) refl (answers s v s.stack.acts r)
  by_mode s (mode.Settle (outcome.Go t v)) r = quiet (with s s.stack.acts (mode.Settle (outcome.Go t v))) refl (unwinds s t v s.stack.acts r)
  by_mode s (mode.Settle (outcome.Stop l)) r = quiet (with s s.stack.acts (mode.Settle (outcome.Stop l))) refl (stops s l r)
  by_mode s (mode.Begin w) r = begins s w r
  by_mode s mode.Next r = quiet (with s s.stack.acts mode.Next) refl (begins_next s s.stack.acts r)
  by_mode s (mode.Ended e) r = quiet (with s s.stack.acts (mode.Ended e)) refl (stays (with s s.stack.acts (mode.Ended e)) tt refl)

pub follows : (s : Seen) (tr : Text) (ev : List Event) → Ready s → Leads s (top_of tr ev s) (top_of (tr ++ advance_written s) (ev ++ events_of (advance_told s)) (advanced s))
follows s tr ev r = by_mode tr ev s s.mode r
