-- What a search makes of the next entry, and the turn that it begins, are small steps of the flat machine.
use Rattle.std.proofs.Common.{◌≡◌, ℕ, ◌+◌, ◌-◌, ◌<◌, ◌^◌, max, List, [], ◌∷◌, ◌++◌, length, Bool, true, false, nat_eq, nat_lt, nat_le, Option, Some, None, refl, ap, sym, ◌∙◌, arith}
use Rattle.std.specs.Option.{option_map}
use Rattle.std.proofs.lemmas.List.{append-nil}
use Rattle.object_heap.specs.declared.value.Value.{Value}
use Rattle.object_heap.specs.declared.value.Value.TheVariants as value
use Rattle.object_heap.specs.declared.value.Closure.{Closure}
use Rattle.object_heap.specs.Store.{object_at, closure_at}
use Rattle.object_heap.specs.Charges.{Memory}
use Rattle.st_code.specs.Texts.{Text}
use Rattle.st_code.specs.Program.{Program, body_at}
use Rattle.st_code.specs.Compiled.{compile_of}
use Rattle.st_code.specs.Lookup.{is_plain, fits}
use Rattle.st_contexts.specs.declared.activation.Activation.TheVariants as act
use Rattle.st_contexts.specs.declared.activation.Entry as standing
use Rattle.st_contexts.specs.declared.activation.Env.{Env}
use Rattle.st_contexts.specs.declared.activation.Turn as linked
use Rattle.st_contexts.specs.declared.activation.Wait as waiting
use Rattle.st_contexts.specs.declared.activation.SearchState.{SearchState}
use Rattle.st_contexts.specs.declared.activation.Purpose.{Purpose}
use Rattle.st_contexts.specs.declared.activation.Purpose.TheVariants as purpose
use Rattle.st_contexts.specs.Stack.{Standing, entry_in}
use Rattle.st_rules.specs.Events.{Event}
use Rattle.st_rules.specs.State.{stood}
use Rattle.st_rules.specs.ExceptionRows.{closure_of}
use Rattle.st_rules.specs.Rules.{closure_for, handler_by}
use Rattle.st_rules.specs.Ends as rules
use Rattle.st_rules.specs.Machine.{Begin, HandlerRun}
use Rattle.st_rules.specs.Flat.{FlatBody, flat, code_at}
use Rattle.st_rules.specs.Turns.{Top, On, top_iter}
use Rattle.st_machine.specs.declared.work.Mode.TheVariants as mode
use Rattle.st_machine.specs.declared.work.Work.{Work}
use Rattle.st_machine.specs.declared.work.Work.TheVariants as work
use Rattle.st_machine.specs.Seen.{Plan, Passed, Seen, passing}
use Rattle.st_machine.specs.Plans.{program_in}
use Rattle.st_machine.specs.Opening.{closure_in, fitting}
use Rattle.st_machine.specs.Searches.{turn_for, asks_nested, handler_of, handler_begun}
use Rattle.st_machine.specs.Works.{begun, begun_told}
use Rattle.st_machine.specs.Meaning.{top_of, acts_of, target_in, behind, env_of, entry_named, search_of, turn_of, events_of}
use Rattle.st_machine.specs.Followed.{Falling}
use Rattle.st_machine.proofs.Links.{other_number, env_skip}
use Rattle.st_machine.proofs.Furnishing.{same_parameters}
use Rattle.st_machine.proofs.Entries.{Names, names, no_entry}
use Rattle.st_machine.proofs.FollowsOpening.{marks_length}
use Rattle.st_machine.proofs.FollowsSettling.{Moved}

-- ---- turns

nested_by : (acts : List Standing) (e who : ℕ) (whole : Env) (pu : Purpose) → rules.asks_nested (search_of acts (record { exception = e; who = who; whole = whole; purpose = pu })) ≡ asks_nested pu
nested_by acts e who whole purpose.Signal = refl
nested_by acts e who whole (purpose.Pass t) = refl
nested_by acts e who whole (purpose.Outer t point) = refl
nested_by acts e who whole purpose.IsNested = refl

nested_same : (acts : List Standing) (x : SearchState) → rules.asks_nested (search_of acts x) ≡ asks_nested x.purpose
nested_same acts x = nested_by acts x.exception x.who x.whole x.purpose

turn_by : (acts : List Standing) (e who : ℕ) (whole : Env) (pu : Purpose) (entry : Option ℕ) (outside : Env)
    → rules.turn_for (search_of acts (record { exception = e; who = who; whole = whole; purpose = pu })) (option_map (entry_named acts) entry) (env_of acts outside) ≡ turn_of acts (turn_for (record { exception = e; who = who; whole = whole; purpose = pu }) entry outside)
turn_by acts e who whole purpose.Signal entry outside = refl
turn_by acts e who whole (purpose.Pass t) entry outside = refl
turn_by acts e who whole (purpose.Outer t point) entry outside = refl
turn_by acts e who whole purpose.IsNested entry outside = refl

turn_same : (acts : List Standing) (x : SearchState) (entry : Option ℕ) (outside : Env) → rules.turn_for (search_of acts x) (option_map (entry_named acts) entry) (env_of acts outside) ≡ turn_of acts (turn_for x entry outside)
turn_same acts x entry outside = turn_by acts x.exception x.who x.whole x.purpose entry outside

number_same : (acts : List Standing) (entry : ℕ) → (entry_named acts entry).number ≡ entry
unfolding entry_named
number_same acts entry = refl

handler_same : (acts : List Standing) (entry : ℕ) → (entry_named acts entry).handler ≡ handler_of entry acts
unfolding entry_named
handler_same acts entry = by (entry_in entry acts) refl
  where
    by : (o : Option standing.Entry) → entry_in entry acts ≡ o → (entry_named acts entry).handler ≡ handler_of entry acts
    by None is = rw is refl
    by (Some e) is = rw is refl

module _ (plan : Plan) (next depth width : ℕ) (vars : List Value) (passed : Passed) (steps deepest inits instrs : ℕ) (tr : Text) (ev : List Event) (acts : List Standing) (mem : Memory) where
  abbrev p : Program
  p = program_in plan

  abbrev here : Work → Seen
  here w = record { plan = plan; stack = record { acts = acts; next = next; depth = depth; width = width }; memory = mem; variables = vars; passed = passed; mode = mode.Begin w; steps = steps; deepest = deepest; initializers = inits; instructions = instrs }

  abbrev Law : Work → Type 0
  Law w = Moved plan width (top_of tr ev (here w)) (top_of tr (ev ++ events_of (begun_told w (here w))) (begun w (here w)))

  module _ (same_depth : depth ≡ p.depth_limit) (numbers : next < 2 ^ 64 - 1) where
    place_same : (b : Bool) → nat_le (length acts + 1) depth ≡ b → nat_le (length acts + 1) p.depth_limit ≡ b
    place_same b e = ap (λ d. nat_le (length acts + 1) d) (sym same_depth) ∙ e

    -- ---- a search

    module _ (x : SearchState) (rest : Env) where
      nobody : entry_in rest.0 acts ≡ None → Law (work.Search x rest)
      nobody is = record { more = 0; counted = refl; comes = rw (no_entry acts rest is, is, append-nil ev) refl }

      module _ (entry : standing.Entry) (is : entry_in rest.0 acts ≡ Some entry) (h : Names next acts rest.0 entry) where
        fitted : (b : Bool) → is_plain p mem.store entry.selector ≡ true → fits p mem.store entry.selector (object_at x.exception mem.store).class ≡ b → Law (work.Search x rest)
        fitted true plain e = record { more = 0; counted = refl; comes = rw (h.env, is, plain, e, h.named) refl }
        fitted false plain e = record { more = 0; counted = refl; comes = rw (h.env, is, plain, e) refl }

        abbrev wait : Standing
        wait = record { number = next; kept = act.HandlesWait x entry.protect; env = entry.outside; operands = [] }

        asked_by : (b : Bool) → nat_lt 0 passed.room ≡ true → is_plain p mem.store entry.selector ≡ false → nat_le (length acts + 1) depth ≡ b → nat_le (length acts + 1) p.depth_limit ≡ b → Law (work.Search x rest)
        unfolding stood
        asked_by false room plain d d' = record { more = 0; counted = refl; comes = rw (h.env, is, plain, other_number next 18446744073709551615 numbers, marks_length acts, d, d', append-nil ev) refl }
        asked_by true room plain d d' =
            record { more = 0; counted = refl; comes = rw (h.env, is, plain, other_number next 18446744073709551615 numbers, marks_length acts, d, d', room, h.named, env_skip wait acts entry.outside (let small : entry.outside.0 < next = omega (arith, h.within, h.outside) in small)) refl }

        entry_by : (b : Bool) → nat_lt 0 passed.room ≡ true → is_plain p mem.store entry.selector ≡ b → Law (work.Search x rest)
        entry_by true room plain = fitted (fits p mem.store entry.selector (object_at x.exception mem.store).class) plain refl
        entry_by false room plain = asked_by (nat_le (length acts + 1) depth) room plain refl (place_same (nat_le (length acts + 1) depth) refl)

      searches_by : (o : Option standing.Entry) → entry_in rest.0 acts ≡ o → nat_lt 0 passed.room ≡ true → Falling next acts → Law (work.Search x rest)
      searches_by None is room falling = nobody is
      searches_by (Some entry) is room falling = entry_by entry is (names next acts falling rest.0 entry is) (is_plain p mem.store entry.selector) room refl

      pub searches : nat_lt 0 passed.room ≡ true → Falling next acts → Law (work.Search x rest)
      searches room falling = searches_by (entry_in rest.0 acts) refl room falling

    -- ---- a turn

    module _ (x : SearchState) (outside : Env) (below : outside.0 < next) where
      known : (entry : Option ℕ) → asks_nested x.purpose ≡ true → Law (work.TurnBy x entry outside)
      known None is = record { more = 0; counted = refl; comes = rw (nested_same acts x, is) refl }
      known (Some entry) is = record { more = 0; counted = refl; comes = rw (nested_same acts x, is) refl }

      abbrev turn : Option ℕ → Standing
      turn entry = record { number = next; kept = act.HandlerRun (turn_for x entry outside); env = outside; operands = [] }

      defaults : (b : Bool) → asks_nested x.purpose ≡ false → nat_le (length acts + 1) depth ≡ b → nat_le (length acts + 1) p.depth_limit ≡ b → Law (work.TurnBy x None outside)
      unfolding stood
      defaults false is d d' = record { more = 0; counted = refl; comes = rw (nested_same acts x, is, other_number next 18446744073709551615 numbers, marks_length acts, d, d', append-nil ev) refl }
      defaults true is d d' = record { more = 0; counted = refl; comes = rw (nested_same acts x, is, other_number next 18446744073709551615 numbers, marks_length acts, d, d', turn_same acts x None outside, env_skip (turn None) acts outside below) refl }

      module _ (entry : ℕ) (compiled : plan.codes ≡ compile_of p) where
        abbrev w : Work
        w = work.TurnBy x (Some entry) outside

        -- the turn stands, and nothing is passed on
        abbrev emptied : Seen
        emptied = record { plan = plan; stack = record { acts = turn (Some entry) ∷ acts; next = next + 1; depth = depth; width = width }; memory = mem; variables = vars; passed = passing [] passed; mode = mode.Begin w; steps = steps; deepest = max deepest (length acts + 1); initializers = inits; instructions = instrs }

        abbrev chosen : Closure → Bool → Option Closure
        chosen c b = elim b [ true ↦ Some c | false ↦ None ]

        fit_by : (n : ℕ) (c : Closure) (b : Bool) → closure_at n mem.store ≡ Some c → nat_eq (code_at plan.codes c.code).parameters 0 ≡ b → nat_eq (body_at p c.code).parameters 0 ≡ b → closure_for p mem.store (value.Object n) 0 ≡ fitting (Some c) emptied
        unfolding closure_for closure_of
        fit_by n c true is e e' = rw (is, e) (ap (chosen c) e')
        fit_by n c false is e e' = rw (is, e) (ap (chosen c) e')

        fit_same : (n : ℕ) (o : Option Closure) → closure_at n mem.store ≡ o → closure_for p mem.store (value.Object n) 0 ≡ fitting o emptied
        unfolding closure_for closure_of
        fit_same n None is = rw is refl
        fit_same n (Some c) is = fit_by n c (nat_eq (code_at plan.codes c.code).parameters 0) is refl (ap (λ k. nat_eq k 0) (sym (same_parameters p plan.codes c.code compiled)))

        closure_same : (v : Value) → closure_for p mem.store v 0 ≡ fitting (closure_in v emptied) emptied
        unfolding closure_for closure_of
        closure_same value.Nil = refl
        closure_same value.True = refl
        closure_same value.False = refl
        closure_same (value.Integer n) = refl
        closure_same (value.Character n) = refl
        closure_same (value.Symbol n) = refl
        closure_same (value.Class n) = refl
        closure_same (value.Meta n) = refl
        closure_same value.Transcript = refl
        closure_same (value.Object n) = fit_same n (closure_at n mem.store) refl

        abbrev handler : Value
        handler = handler_of entry acts

        abbrev applied : Option Closure → Top FlatBody
        applied o = On (target_in p inits) (behind p inits) (Begin (handler_by o handler x.exception (env_of acts outside)) (HandlerRun next (turn_of acts (turn_for x (Some entry) outside)) ∷ acts_of acts) (record { store = mem.store; variables = vars; transcript = tr; events = ev ++ Event.Handle next entry ∷ []; steps = steps; depth = max deepest (length acts + 1); cells = mem.used; next = next + 1 }))

        applies_left : (o : Option Closure) → asks_nested x.purpose ≡ false → nat_le (length acts + 1) p.depth_limit ≡ true → closure_for p mem.store handler 0 ≡ o → top_iter (flat p plan.codes width) p 1 (top_of tr ev (here w)) ≡ applied o
        unfolding stood target_in behind env_of entry_named
        applies_left o is d' c = rw (nested_same acts x, is, marks_length acts, d', handler_same acts entry, c, number_same acts entry, turn_same acts x (Some entry) outside) refl

        applies_right : (o : Option Closure) → nat_lt 0 passed.room ≡ true → applied o ≡ top_of tr (ev ++ Event.Handle next entry ∷ []) (handler_begun o handler x.exception outside emptied)
        applies_right None room = rw (room, env_skip (turn (Some entry)) acts outside below) refl
        applies_right (Some k) room = rw (env_skip (turn (Some entry)) acts outside below) refl

        ends_so : asks_nested x.purpose ≡ false → nat_le (length acts + 1) depth ≡ true → top_of tr (ev ++ Event.Handle next entry ∷ []) (handler_begun (fitting (closure_in handler emptied) emptied) handler x.exception outside emptied) ≡ top_of tr (ev ++ events_of (begun_told w (here w))) (begun w (here w))
        ends_so is d = rw (is, other_number next 18446744073709551615 numbers, d) refl

        handles_at : (b : Bool) → nat_lt 0 passed.room ≡ true → asks_nested x.purpose ≡ false → nat_le (length acts + 1) depth ≡ b → nat_le (length acts + 1) p.depth_limit ≡ b → Law w
        unfolding stood
        handles_at false room is d d' = record { more = 0; counted = refl; comes = rw (nested_same acts x, is, other_number next 18446744073709551615 numbers, marks_length acts, d, d', append-nil ev) refl }
        handles_at true room is d d' = record { more = 0; counted = refl; comes = applies_left (fitting (closure_in handler emptied) emptied) is d' (closure_same handler) ∙ applies_right (fitting (closure_in handler emptied) emptied) room ∙ ends_so is d }

      turns_at : (entry : Option ℕ) → plan.codes ≡ compile_of p → nat_lt 0 passed.room ≡ true → asks_nested x.purpose ≡ false → Law (work.TurnBy x entry outside)
      turns_at None compiled room is = defaults (nat_le (length acts + 1) depth) is refl (place_same (nat_le (length acts + 1) depth) refl)
      turns_at (Some entry) compiled room is = handles_at entry compiled (nat_le (length acts + 1) depth) room is refl (place_same (nat_le (length acts + 1) depth) refl)

      turns_by : (b : Bool) (entry : Option ℕ) → plan.codes ≡ compile_of p → nat_lt 0 passed.room ≡ true → asks_nested x.purpose ≡ b → Law (work.TurnBy x entry outside)
      turns_by true entry compiled room is = known entry is
      turns_by false entry compiled room is = turns_at entry compiled room is

      pub turns : (entry : Option ℕ) → plan.codes ≡ compile_of p → nat_lt 0 passed.room ≡ true → Law (work.TurnBy x entry outside)
      turns entry compiled room = turns_by (asks_nested x.purpose) entry compiled room refl

    -- ---- `isResumable`

    module _ (w : waiting.Wait) (k : ℕ) (t : linked.Turn) (env : Env) (below : env.0 < next) where
      abbrev waiter : Standing
      waiter = record { number = next; kept = act.ResumeWait w k t; env = env; operands = [] }

      asks_at : (b : Bool) → nat_le (length acts + 1) depth ≡ b → nat_le (length acts + 1) p.depth_limit ≡ b → Law (work.Ask w k t env)
      unfolding stood
      asks_at false d d' = record { more = 0; counted = refl; comes = rw (other_number next 18446744073709551615 numbers, marks_length acts, d, d', append-nil ev) refl }
      asks_at true d d' = record { more = 0; counted = refl; comes = rw (other_number next 18446744073709551615 numbers, marks_length acts, d, d', env_skip waiter acts env below, append-nil ev) refl }

      pub asks : Law (work.Ask w k t env)
      asks = asks_at (nat_le (length acts + 1) depth) refl (place_same (nat_le (length acts + 1) depth) refl)
