-- What a turn's exception is told is what the flat machine makes of it.
use Rattle.std.proofs.Common.{◌≡◌, ℕ, ◌<◌, List, [], ◌∷◌, ◌++◌, Bool, true, false, nat_eq, Option, Some, None, refl, ap, sym, ◌∙◌}
use Rattle.std.specs.Option.{option_map}
use Rattle.std.proofs.lemmas.List.{append-nil}
use Rattle.object_heap.specs.declared.value.Value.{Value}
use Rattle.object_heap.specs.declared.value.Value.TheVariants as value
use Rattle.object_heap.specs.Charges.{Memory}
use Rattle.st_code.specs.Texts.{Text}
use Rattle.st_code.specs.Lookup.{is_exception}
use Rattle.st_code.specs.Program.{Program}
use Rattle.st_contexts.specs.declared.activation.Activation.{Activation}
use Rattle.st_contexts.specs.declared.activation.Activation.TheVariants as act
use Rattle.st_contexts.specs.declared.activation.Env.{Env}
use Rattle.st_contexts.specs.declared.activation.Turn as linked
use Rattle.st_contexts.specs.Stack.{Standing}
use Rattle.signal_env.specs.declared.turns.FoundTurn as found
use Rattle.signal_env.specs.Turns.{turn_in, live_in}
use Rattle.st_rules.specs.Events.{Event}
use Rattle.st_rules.specs.State.{State, FoundTurn, NoTurn, TurnAt, turn_of as innermost}
use Rattle.st_rules.specs.Machine.{Mach, marks, resignal_as_act, control_by_act, control_without_act, control_in_act, control_act}
use Rattle.st_rules.specs.Flat.{FlatBody, flat, flat_number}
use Rattle.st_rules.specs.Turns.{Top, On}
use Rattle.st_code.specs.Messages.{Control}
use Rattle.st_machine.specs.declared.work.Mode.{Mode}
use Rattle.st_machine.specs.Seen.{Plan, Passed, Seen}
use Rattle.st_machine.specs.Plans.{program_in}
use Rattle.st_machine.specs.Controls.{resignaled_as, controlled_by, control_told_by, controlled_without, controlled_in, control_told_in, controlled_at, control_told_at, controlled, control_told}
use Rattle.st_machine.specs.Meaning.{top_of, state_of, acts_of, env_of, entry_named, turn_of, events_of, target_in, behind}
use Rattle.st_machine.specs.Followed.{Falling, TurnBelow, KeptBelow}
use Rattle.st_machine.proofs.Links.{same_eq, turn_skip}
use Rattle.st_machine.proofs.FollowsSettling.{turn_further}
use Rattle.st_machine.proofs.FollowsSignals.{live_same}

-- ---- the innermost turn

abbrev found_of : List Standing → Option found.FoundTurn → FoundTurn
found_of acts None = NoTurn
found_of acts (Some f) = TurnAt f.number (turn_of acts f.turn)

abbrev FoundBelow : ℕ → Option found.FoundTurn → Type 0
FoundBelow bound None = Unit {0}
FoundBelow bound (Some f) = TurnBelow bound f.turn

pub record Innermost (e bound : ℕ) (acts : List Standing) : Type 0 where
  pub same : innermost e (marks flat_number (acts_of acts)) ≡ found_of acts (turn_in e acts)
  pub below : FoundBelow bound (turn_in e acts)

found_skip : (a : Standing) (acts : List Standing) (o : Option found.FoundTurn) → FoundBelow a.number o → found_of acts o ≡ found_of (a ∷ acts) o
found_skip a acts None below = refl
found_skip a acts (Some f) below = ap (λ t. TurnAt f.number t) (sym (turn_skip a acts f.turn below))

found_further : (n bound : ℕ) (o : Option found.FoundTurn) → n < bound → FoundBelow n o → FoundBelow bound o
found_further n bound None l below = tt
found_further n bound (Some f) l below = turn_further n bound f.turn l below

turn_here : (n : ℕ) (t : linked.Turn) (env : Env) (ops : List Value) (e bound : ℕ) (acts : List Standing) (b : Bool) → nat_eq t.exception e ≡ b → TurnBelow n t → Innermost e n acts → n < bound
    → Innermost e bound (record { number = n; kept = act.HandlerRun t; env = env; operands = ops } ∷ acts)
unfolding innermost turn_in
turn_here n t env ops e bound acts true is below rest l =
    record {
      same = rw (same_eq e t.exception, is) (ap (λ x. TurnAt n x) (sym (turn_skip (record { number = n; kept = act.HandlerRun t; env = env; operands = ops }) acts t below)));
      below = rw is (turn_further n bound t l below);
    }
turn_here n t env ops e bound acts false is below rest l =
    record {
      same = rw (same_eq e t.exception, is) (rest.same ∙ found_skip (record { number = n; kept = act.HandlerRun t; env = env; operands = ops }) acts (turn_in e acts) rest.below);
      below = rw is (found_further n bound (turn_in e acts) l rest.below);
    }

passed_over : (k : Activation) (n : ℕ) (env : Env) (ops : List Value) (e bound : ℕ) (acts : List Standing) → KeptBelow n k → Innermost e n acts → n < bound → Innermost e bound (record { number = n; kept = k; env = env; operands = ops } ∷ acts)
unfolding innermost turn_in
passed_over (act.HandlerRun t) n env ops e bound acts below rest l = turn_here n t env ops e bound acts (nat_eq t.exception e) refl below rest l
passed_over (act.Body f) n env ops e bound acts below rest l = record { same = rest.same ∙ found_skip (record { number = n; kept = act.Body f; env = env; operands = ops }) acts (turn_in e acts) rest.below; below = found_further n bound (turn_in e acts) l rest.below }
passed_over (act.Leaving f) n env ops e bound acts below rest l = record { same = rest.same ∙ found_skip (record { number = n; kept = act.Leaving f; env = env; operands = ops }) acts (turn_in e acts) rest.below; below = found_further n bound (turn_in e acts) l rest.below }
passed_over (act.Protect r s h) n env ops e bound acts below rest l = record { same = rest.same ∙ found_skip (record { number = n; kept = act.Protect r s h; env = env; operands = ops }) acts (turn_in e acts) rest.below; below = found_further n bound (turn_in e acts) l rest.below }
passed_over (act.EnsureOn b) n env ops e bound acts below rest l = record { same = rest.same ∙ found_skip (record { number = n; kept = act.EnsureOn b; env = env; operands = ops }) acts (turn_in e acts) rest.below; below = found_further n bound (turn_in e acts) l rest.below }
passed_over (act.CurtailOn b) n env ops e bound acts below rest l = record { same = rest.same ∙ found_skip (record { number = n; kept = act.CurtailOn b; env = env; operands = ops }) acts (turn_in e acts) rest.below; below = found_further n bound (turn_in e acts) l rest.below }
passed_over (act.ActionOff o) n env ops e bound acts below rest l = record { same = rest.same ∙ found_skip (record { number = n; kept = act.ActionOff o; env = env; operands = ops }) acts (turn_in e acts) rest.below; below = found_further n bound (turn_in e acts) l rest.below }
passed_over (act.Signal x) n env ops e bound acts below rest l = record { same = rest.same ∙ found_skip (record { number = n; kept = act.Signal x; env = env; operands = ops }) acts (turn_in e acts) rest.below; below = found_further n bound (turn_in e acts) l rest.below }
passed_over act.Outer n env ops e bound acts below rest l = record { same = rest.same ∙ found_skip (record { number = n; kept = act.Outer; env = env; operands = ops }) acts (turn_in e acts) rest.below; below = found_further n bound (turn_in e acts) l rest.below }
passed_over (act.ResumeWait w k t) n env ops e bound acts below rest l = record { same = rest.same ∙ found_skip (record { number = n; kept = act.ResumeWait w k t; env = env; operands = ops }) acts (turn_in e acts) rest.below; below = found_further n bound (turn_in e acts) l rest.below }
passed_over (act.HandlesWait x y) n env ops e bound acts below rest l = record { same = rest.same ∙ found_skip (record { number = n; kept = act.HandlesWait x y; env = env; operands = ops }) acts (turn_in e acts) rest.below; below = found_further n bound (turn_in e acts) l rest.below }
passed_over (act.Loop x) n env ops e bound acts below rest l = record { same = rest.same ∙ found_skip (record { number = n; kept = act.Loop x; env = env; operands = ops }) acts (turn_in e acts) rest.below; below = found_further n bound (turn_in e acts) l rest.below }

pub innermost_turn : (e bound : ℕ) (acts : List Standing) → Falling bound acts → Innermost e bound acts
unfolding innermost turn_in
innermost_turn e bound [] falling = record { same = refl; below = tt }
innermost_turn e bound (a ∷ acts) falling = passed_over a.kept a.number a.env a.operands e bound acts falling.0.kept (innermost_turn e a.number acts falling.1) falling.0.number

-- ---- what it is told

module _ (plan : Plan) (next depth width : ℕ) (vars : List Value) (passed : Passed) (steps deepest inits instrs : ℕ) (tr : Text) (ev : List Event) (acts : List Standing) (mem : Memory) (m : Mode) where
  abbrev p : Program
  p = program_in plan

  abbrev here : Seen
  here = record { plan = plan; stack = record { acts = acts; next = next; depth = depth; width = width }; memory = mem; variables = vars; passed = passed; mode = m; steps = steps; deepest = deepest; initializers = inits; instructions = instrs }

  abbrev state : State
  state = state_of tr ev here

  abbrev goes : Mach FlatBody → Top FlatBody
  goes x = On (target_in p inits) (behind p inits) x

  module _ (v : Value) (env : Env) where
    untold : (s : Seen) → top_of tr ev s ≡ top_of tr (ev ++ []) s
    untold s = ap (λ es. top_of tr es s) (sym (append-nil ev))

    object_resignals : (t : linked.Turn) (f : ℕ) (is live : Bool) → is_exception p mem.store (value.Object f) ≡ is → live_in f acts ≡ live
        → goes (resignal_as_act (flat p plan.codes width) p (turn_of acts t) (value.Object f) (env_of acts env) (acts_of acts) state) ≡ top_of tr (ev ++ []) (resignaled_as t (value.Object f) env here)
    object_resignals t f false live e l = rw (e, append-nil ev) refl
    object_resignals t f true true e l = rw (e, live_same f acts, l, append-nil ev) refl
    object_resignals t f true false e l = rw (e, live_same f acts, l, append-nil ev) refl

    resignals : (t : linked.Turn) (x : Value) → goes (resignal_as_act (flat p plan.codes width) p (turn_of acts t) x (env_of acts env) (acts_of acts) state) ≡ top_of tr (ev ++ []) (resignaled_as t x env here)
    resignals t (value.Object f) = object_resignals t f (is_exception p mem.store (value.Object f)) (live_in f acts) refl refl
    resignals t value.Nil = untold (resignaled_as t value.Nil env here)
    resignals t value.True = untold (resignaled_as t value.True env here)
    resignals t value.False = untold (resignaled_as t value.False env here)
    resignals t (value.Integer n) = untold (resignaled_as t (value.Integer n) env here)
    resignals t (value.Character n) = untold (resignaled_as t (value.Character n) env here)
    resignals t (value.Symbol n) = untold (resignaled_as t (value.Symbol n) env here)
    resignals t (value.Class n) = untold (resignaled_as t (value.Class n) env here)
    resignals t (value.Meta n) = untold (resignaled_as t (value.Meta n) env here)
    resignals t value.Transcript = untold (resignaled_as t value.Transcript env here)

    controls_by : (c : Control) (k : ℕ) (t : linked.Turn) (entry : ℕ) → goes (control_by_act (flat p plan.codes width) p c v k (turn_of acts t) (entry_named acts entry) (env_of acts env) (acts_of acts) state) ≡ top_of tr (ev ++ events_of (control_told_by c k)) (controlled_by c v k t entry env here)
    unfolding entry_named
    controls_by Control.Return k t entry = untold (controlled_by Control.Return v k t entry env here)
    controls_by Control.Retry k t entry = untold (controlled_by Control.Retry v k t entry env here)
    controls_by Control.RetryUsing k t entry = untold (controlled_by Control.RetryUsing v k t entry env here)
    controls_by Control.Resume k t entry = untold (controlled_by Control.Resume v k t entry env here)
    controls_by Control.Pass k t entry = refl
    controls_by Control.Outer k t entry = untold (controlled_by Control.Outer v k t entry env here)
    controls_by Control.ResignalAs k t entry = resignals t v
    controls_by Control.IsNested k t entry = refl

    controls_without : (c : Control) (k : ℕ) (t : linked.Turn) → goes (control_without_act (flat p plan.codes width) p c v k (turn_of acts t) (env_of acts env) (acts_of acts) state) ≡ top_of tr (ev ++ []) (controlled_without c v k t env here)
    controls_without Control.Return k t = untold (controlled_without Control.Return v k t env here)
    controls_without Control.Retry k t = untold (controlled_without Control.Retry v k t env here)
    controls_without Control.RetryUsing k t = untold (controlled_without Control.RetryUsing v k t env here)
    controls_without Control.Resume k t = untold (controlled_without Control.Resume v k t env here)
    controls_without Control.Pass k t = untold (controlled_without Control.Pass v k t env here)
    controls_without Control.Outer k t = untold (controlled_without Control.Outer v k t env here)
    controls_without Control.ResignalAs k t = untold (controlled_without Control.ResignalAs v k t env here)
    controls_without Control.IsNested k t = untold (controlled_without Control.IsNested v k t env here)

    controls_in : (entry : Option ℕ) (c : Control) (k : ℕ) (t : linked.Turn) → goes (control_in_act (flat p plan.codes width) p (option_map (entry_named acts) entry) c v k (turn_of acts t) (env_of acts env) (acts_of acts) state) ≡ top_of tr (ev ++ events_of (control_told_in entry c k)) (controlled_in entry c v k t env here)
    controls_in (Some entry) c k t = controls_by c k t entry
    controls_in None c k t = controls_without c k t

    controls_at : (o : Option found.FoundTurn) (c : Control) → goes (control_act (flat p plan.codes width) p (found_of acts o) c v (env_of acts env) (acts_of acts) state) ≡ top_of tr (ev ++ events_of (control_told_at o c)) (controlled_at o c v env here)
    controls_at None c = untold (controlled_at None c v env here)
    controls_at (Some f) c = controls_in f.turn.entry c f.number f.turn

    pub controls : (c : Control) (e : ℕ) → Falling next acts → goes (control_act (flat p plan.codes width) p (innermost e (marks flat_number (acts_of acts))) c v (env_of acts env) (acts_of acts) state) ≡ top_of tr (ev ++ events_of (control_told c e here)) (controlled c e v env here)
    controls c e falling = rw (innermost_turn e next acts falling).same (controls_at (turn_in e acts) c)
