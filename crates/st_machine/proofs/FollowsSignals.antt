-- A signal is one or two small steps of the flat machine.
use Rattle.std.proofs.Common.{◌≡◌, ℕ, suc, ◌+◌, ◌-◌, ◌<◌, ◌^◌, max, List, [], ◌∷◌, ◌++◌, length, Bool, true, false, nat_le, if◌then◌else◌, refl, ap, sym, ◌∙◌, arith}
use Rattle.std.proofs.lemmas.List.{append-nil, append_assoc}
use Rattle.object_heap.specs.declared.value.Value.{Value}
use Rattle.object_heap.specs.declared.value.Value.TheVariants.{Object}
use Rattle.object_heap.specs.declared.trouble.Trouble.{Trouble}
use Rattle.object_heap.specs.Troubles.{place_of}
use Rattle.object_heap.specs.Store.{Store}
use Rattle.object_heap.specs.Charges.{Memory, object_charge}
use Rattle.st_code.specs.Texts.{Text}
use Rattle.st_code.specs.BuiltIns.{error_class}
use Rattle.st_code.specs.Program.{Program}
use Rattle.st_contexts.specs.declared.activation.Activation.{Activation}
use Rattle.st_contexts.specs.declared.activation.Activation.TheVariants as act
use Rattle.st_contexts.specs.declared.activation.Env.{Env}
use Rattle.st_contexts.specs.Stack.{Standing}
use Rattle.signal_env.specs.Turns.{signals, live_in}
use Rattle.st_rules.specs.Events.{Event}
use Rattle.st_rules.specs.State.{State, Mark, stood, used, is_live}
use Rattle.st_rules.specs.Rules.{RaiseNew, SearchIn, with_exception, exception_cells}
use Rattle.st_rules.specs.Ends.{signal_search, trouble_text}
use Rattle.st_rules.specs.Machine.{Mach, Begin, SignalAct, mark_of, marks}
use Rattle.st_rules.specs.Flat.{FlatBody, flat, flat_number}
use Rattle.st_rules.specs.Turns.{Top, On, top_iter, instructions}
use Rattle.st_machine.specs.declared.work.Mode.TheVariants as mode
use Rattle.st_machine.specs.declared.work.Work.{Work}
use Rattle.st_machine.specs.declared.work.Work.TheVariants as work
use Rattle.st_machine.specs.Seen.{Plan, Passed, Seen}
use Rattle.st_machine.specs.Plans.{program_in}
use Rattle.st_machine.specs.Signals.{new_signal, new_signal_told, slots_in, text_in}
use Rattle.st_machine.specs.Works.{begun, begun_told}
use Rattle.st_machine.specs.Meaning.{top_of, state_of, acts_of, act_by, env_of, events_of, target_in, behind}
use Rattle.st_machine.proofs.Links.{other_number, same_eq, env_skip}
use Rattle.st_machine.proofs.FollowsOpening.{marks_length}
use Rattle.st_machine.proofs.FollowsSettling.{Moved}
use Rattle.st_machine.proofs.Slots.{exception_store}

-- ---- signals that stand

live_here : (k : Activation) (n : ℕ) (env : Env) (ops : List Value) (acts : List Standing) (e : ℕ) (ms : List Mark) → is_live e (mark_of flat_number (act_by k n env ops acts) ∷ ms) ≡ (if signals e k then true else is_live e ms)
unfolding is_live
live_here (act.Body f) n env ops acts e ms = refl
live_here (act.Leaving f) n env ops acts e ms = refl
live_here (act.Protect r s h) n env ops acts e ms = refl
live_here (act.EnsureOn b) n env ops acts e ms = refl
live_here (act.CurtailOn b) n env ops acts e ms = refl
live_here (act.ActionOff o) n env ops acts e ms = refl
live_here (act.Signal x) n env ops acts e ms = rw (same_eq e x) refl
live_here (act.HandlerRun t) n env ops acts e ms = refl
live_here act.Outer n env ops acts e ms = refl
live_here (act.ResumeWait w k t) n env ops acts e ms = refl
live_here (act.HandlesWait x entry) n env ops acts e ms = refl
live_here (act.Loop l) n env ops acts e ms = refl

pub live_same : (e : ℕ) (acts : List Standing) → is_live e (marks flat_number (acts_of acts)) ≡ live_in e acts
unfolding is_live live_in
live_same e [] = refl
live_same e (a ∷ acts) = live_here a.kept a.number a.env a.operands acts e (marks flat_number (acts_of acts)) ∙ ap (λ b. if signals e a.kept then true else b) (live_same e acts)

pub two : (ev : List Event) (d e : Event) → (ev ++ d ∷ []) ++ e ∷ [] ≡ ev ++ d ∷ e ∷ []
two ev d e = append_assoc ev (d ∷ []) (e ∷ [])

pub charge_same : (n : ℕ) → object_charge n 0 ≡ 1 + n
charge_same n = omega arith

module _ (plan : Plan) (next depth width : ℕ) (vars : List Value) (passed : Passed) (steps deepest inits instrs : ℕ) (tr : Text) (ev : List Event) (acts : List Standing) (mem : Memory) where
  abbrev p : Program
  p = program_in plan

  abbrev here : Work → Seen
  here w = record { plan = plan; stack = record { acts = acts; next = next; depth = depth; width = width }; memory = mem; variables = vars; passed = passed; mode = mode.Begin w; steps = steps; deepest = deepest; initializers = inits; instructions = instrs }

  abbrev Law : Work → Type 0
  Law w = Moved plan width (top_of tr ev (here w)) (top_of tr (ev ++ events_of (begun_told w (here w))) (begun w (here w)))

  abbrev goes : Mach FlatBody → Top FlatBody
  goes m = On (target_in p inits) (behind p inits) m

  module _ (same_depth : depth ≡ p.depth_limit) (numbers : next < 2 ^ 64 - 1) (cells : mem.limit ≡ p.cell_limit) where
    place_same : (b : Bool) → nat_le (length acts + 1) depth ≡ b → nat_le (length acts + 1) p.depth_limit ≡ b
    place_same b e = ap (λ d. nat_le (length acts + 1) d) (sym same_depth) ∙ e

    -- ---- an exception that is there

    module _ (e : ℕ) (env : Env) (below : env.0 < next) where
      live_raises : live_in e acts ≡ true → Law (work.Raise e env)
      live_raises is = record { more = 0; counted = refl; comes = rw (live_same e acts, is, append-nil ev) refl }

      abbrev signal : Standing
      signal = record { number = next; kept = act.Signal e; env = env; operands = [] }

      place_raises : (b : Bool) → live_in e acts ≡ false → nat_le (length acts + 1) depth ≡ b → nat_le (length acts + 1) p.depth_limit ≡ b → Law (work.Raise e env)
      unfolding stood
      place_raises false is d d' = record { more = 0; counted = refl; comes = rw (live_same e acts, is, other_number next 18446744073709551615 numbers, marks_length acts, d, d', append-nil ev) refl }
      place_raises true is d d' = record { more = 1; counted = rw (live_same e acts, is, marks_length acts, d') refl; comes = rw (live_same e acts, is, other_number next 18446744073709551615 numbers, marks_length acts, d, d', env_skip signal acts env below, ← two ev (Event.Signal next) (Event.Search next)) refl }

      raises_by : (b : Bool) → live_in e acts ≡ b → Law (work.Raise e env)
      raises_by true is = live_raises is
      raises_by false is = place_raises (nat_le (length acts + 1) depth) is refl (place_same (nat_le (length acts + 1) depth) refl)

      pub raises : Law (work.Raise e env)
      raises = raises_by (live_in e acts) refl

    -- ---- a new one

    module _ (w : Work) (class : ℕ) (slots : List Value) (env : Env) (below : env.0 < next) where
      abbrev count : ℕ
      count = slots_in plan class

      abbrev state : State
      state = state_of tr ev (here w)

      abbrev begins : Top FlatBody
      begins = goes (Begin (RaiseNew class slots (env_of acts env)) (acts_of acts) state)

      abbrev ends : Top FlatBody
      ends = top_of tr (ev ++ events_of (new_signal_told count (here w))) (new_signal class count slots env (here w))

      no_place : nat_le (length acts + 1) depth ≡ false → nat_le (length acts + 1) p.depth_limit ≡ false → Moved plan width begins ends
      unfolding stood
      no_place d d' = record { more = 0; counted = refl; comes = rw (other_number next 18446744073709551615 numbers, marks_length acts, d, d', append-nil ev) refl }

      no_room : nat_le (length acts + 1) depth ≡ true → nat_le (length acts + 1) p.depth_limit ≡ true → nat_le (mem.used + object_charge count 0) mem.limit ≡ false → nat_le (mem.used + exception_cells p class) p.cell_limit ≡ false → Moved plan width begins ends
      unfolding stood used
      no_room d d' c c' = record { more = 0; counted = refl; comes = rw (other_number next 18446744073709551615 numbers, marks_length acts, d, d', c, c') refl }

      abbrev signal_of : Standing
      signal_of = record { number = next; kept = act.Signal (length mem.store.objects); env = env; operands = [] }

      abbrev searches : ℕ → Store → List Event → Top FlatBody
      searches cells' store events = goes (Begin (SearchIn (signal_search next (length mem.store.objects) (env_of acts env)) (env_of acts env)) (SignalAct next (length mem.store.objects) (env_of acts env) ∷ acts_of acts) (record { store = store; variables = vars; transcript = tr; events = events; steps = steps; depth = max deepest (length acts + 1); cells = cells'; next = next + 1 }))

      made_left : nat_le (length acts + 1) p.depth_limit ≡ true → nat_le (mem.used + exception_cells p class) p.cell_limit ≡ true → top_iter (flat p plan.codes width) p 2 begins ≡ searches (mem.used + exception_cells p class) (with_exception p class slots mem.store) ((ev ++ Event.Signal next ∷ []) ++ Event.Search next ∷ [])
      unfolding stood used
      made_left d' c' = rw (marks_length acts, d', c') refl

      made_counted : nat_le (length acts + 1) p.depth_limit ≡ true → nat_le (mem.used + exception_cells p class) p.cell_limit ≡ true → instructions (flat p plan.codes width) p 2 begins ≡ 0
      unfolding stood used
      made_counted d' c' = rw (marks_length acts, d', c') refl

      made_right : (cells' : ℕ) (store : Store) (events : List Event) → nat_le (length acts + 1) depth ≡ true → nat_le (mem.used + object_charge count 0) mem.limit ≡ true → cells' ≡ mem.used + object_charge count 0 → store ≡ with_exception p class slots mem.store → events ≡ ev ++ Event.Signal next ∷ Event.Search next ∷ [] → searches cells' store events ≡ ends
      made_right cells' store events d c is made told = rw (is, made, told, ← exception_store p class slots mem.store, other_number next 18446744073709551615 numbers, d, c, env_skip signal_of acts env below) refl

      by_room : (b : Bool) → nat_le (length acts + 1) depth ≡ true → nat_le (mem.used + object_charge count 0) mem.limit ≡ b → Moved plan width begins ends
      by_room b d c = by b c (ap (λ n. nat_le (mem.used + n) p.cell_limit) (sym (charge_same count)) ∙ ap (λ l. nat_le (mem.used + object_charge count 0) l) (sym cells) ∙ c)
        where
          by : (b : Bool) → nat_le (mem.used + object_charge count 0) mem.limit ≡ b → nat_le (mem.used + exception_cells p class) p.cell_limit ≡ b → Moved plan width begins ends
          by false c c' = no_room d (place_same true d) c c'
          by true c c' = record { more = 1; counted = made_counted (place_same true d) c'; comes = made_left (place_same true d) c' ∙ made_right (mem.used + exception_cells p class) (with_exception p class slots mem.store) ((ev ++ Event.Signal next ∷ []) ++ Event.Search next ∷ []) d c (ap (λ n. mem.used + n) (sym (charge_same count))) refl (two ev (Event.Signal next) (Event.Search next)) }

      by_place : (b : Bool) → nat_le (length acts + 1) depth ≡ b → Moved plan width begins ends
      by_place false d = no_place d (place_same false d)
      by_place true d = by_room (nat_le (mem.used + object_charge count 0) mem.limit) d refl

      pub news : Moved plan width begins ends
      news = by_place (nat_le (length acts + 1) depth) refl

    pub raises_new : (class : ℕ) (env : Env) → env.0 < next → Law (work.RaiseNew class env)
    raises_new class env below = news (work.RaiseNew class env) class passed.values env below

    pub fails : (trouble : Trouble) (env : Env) → env.0 < next → plan.troubles ≡ p.trouble_place → Law (work.Fail trouble env)
    fails trouble env below same =
        let c = news (work.Fail trouble env) error_class (text_in plan trouble ∷ []) env below in
        let text : text_in plan trouble ≡ trouble_text p trouble = ap (λ n. Object (n + place_of trouble)) same in
        record {
          more = c.more;
          counted = ap (λ v. instructions (flat p plan.codes width) p (suc c.more) (goes (Begin (RaiseNew error_class (v ∷ []) (env_of acts env)) (acts_of acts) (state_of tr ev (here (work.Fail trouble env)))))) (sym text) ∙ c.counted;
          comes = ap (λ v. top_iter (flat p plan.codes width) p (suc c.more) (goes (Begin (RaiseNew error_class (v ∷ []) (env_of acts env)) (acts_of acts) (state_of tr ev (here (work.Fail trouble env)))))) (sym text) ∙ c.comes;
        }
