-- What a message does at once is what the flat machine makes of its action.
use Rattle.std.proofs.Common.{◌≡◌, ℕ, suc, zero, ◌+◌, ◌-◌, ◌<◌, ◌≤◌, ◌^◌, max, List, [], ◌∷◌, ◌++◌, length, nat_le, Bool, true, false, if◌then◌else◌, Option, Some, None, le-leb, leb-true, refl, ap, sym, ◌∙◌, arith}
use Rattle.std.proofs.lemmas.List.{append-nil}
use Rattle.object_heap.specs.declared.value.Value.{Value}
use Rattle.object_heap.specs.declared.value.Value.TheVariants.{Object}
use Rattle.object_heap.specs.declared.trouble.Trouble.TheVariants.{ZeroDivide}
use Rattle.object_heap.specs.Troubles.{place_of}
use Rattle.object_heap.specs.Charges.{Memory, object_charge}
use Rattle.object_heap.specs.Store.{Store}
use Rattle.st_code.specs.Texts.{Text}
use Rattle.st_code.specs.BuiltIns.{array_class, message_class, zero_divide_class}
use Rattle.st_code.specs.Program.{Program}
use Rattle.st_collections.specs.Actions.{Action, Gives, Changes, Makes, Fails, PassesIntegers, DividesByZero, Writes, Begins, Activates, Sends, Misses, Enters, Guards, Ensures, Curtails, Iterates, Raises, RaisesNew, Controls, Terminates, LoopState, next_object, with_new}
use Rattle.st_collections.specs.Loops.{first_visit}
use Rattle.st_contexts.specs.declared.activation.Activation.{Activation}
use Rattle.st_contexts.specs.declared.activation.Activation.TheVariants as act
use Rattle.st_contexts.specs.declared.activation.Env.{Env}
use Rattle.st_contexts.specs.Stack.{Standing}
use Rattle.st_loops.specs.Tests.{may_begin}
use Rattle.st_rules.specs.Events.{Event}
use Rattle.st_rules.specs.State.{State, CellLimit, stood, used, with_store}
use Rattle.st_rules.specs.Ends.{charged, trouble_text, with_arguments, with_message}
use Rattle.st_rules.specs.Rules.{SendTo, RaiseNew, sends_not_understood}
use Rattle.st_rules.specs.Machine.{Mach, Begin, stopped, perform_act}
use Rattle.st_rules.specs.Flat.{FlatBody, flat}
use Rattle.st_rules.specs.Turns.{Top, On}
use Rattle.st_machine.specs.declared.work.Mode.{Mode}
use Rattle.st_machine.specs.Seen.{Plan, Passed, Seen, with_memory}
use Rattle.st_machine.specs.Plans.{program_in}
use Rattle.st_machine.specs.Signals.{text_in, if_object, exception_made, slots_put}
use Rattle.st_machine.specs.Loops.{loop_begins, no_loop}
use Rattle.st_machine.specs.Performing.{message_slots, message_sent, performed, performed_told, performed_written}
use Rattle.st_machine.specs.Sound.{is_fit}
use Rattle.st_machine.specs.Meaning.{top_of, state_of, acts_of, env_of, events_of, target_in, behind}
use Rattle.st_machine.specs.Followed.{Falling}
use Rattle.st_machine.proofs.Links.{other_number, env_skip, env_here}
use Rattle.st_machine.proofs.SmallVisits.{Small, first_visit_small, small_fits}
use Rattle.st_machine.proofs.LoopStates.{both}
use Rattle.st_machine.proofs.Slots.{filled_object}
use Rattle.st_machine.proofs.FollowsOpening.{marks_length}
use Rattle.st_machine.proofs.FollowsSettling.{Comes}
use Rattle.st_machine.proofs.FollowsSignals.{charge_same}
use Rattle.st_machine.proofs.FollowsControls.{controls}
use Rattle.st_machine.proofs.FollowsLoops.{visits}

-- ---- new objects with these slots

abbrev with_object : ℕ → List Value → Memory → Memory
with_object class slots m = record { store = with_new class slots [] m.store; used = m.used + (1 + length slots); limit = m.limit }

object_memory : (class : ℕ) (slots : List Value) (m : Memory) → nat_le (m.used + object_charge (length slots) 0) m.limit ≡ true → exception_made class (length slots) slots m ≡ with_object class slots m
object_memory class slots m c =
    rw c (ap (λ (s : Store). record { store = s; used = m.used + object_charge (length slots) 0; limit = m.limit }) (filled_object class slots m.store) ∙ ap (λ n. record { store = with_new class slots [] m.store; used = m.used + n; limit = m.limit }) (charge_same (length slots)))

no_object_memory : (class : ℕ) (slots : List Value) (m : Memory) → nat_le (m.used + object_charge (length slots) 0) m.limit ≡ false → exception_made class (length slots) slots m ≡ m
no_object_memory class slots m c = rw c refl

module _ (plan : Plan) (next depth width : ℕ) (vars : List Value) (passed : Passed) (steps deepest inits instrs : ℕ) (tr : Text) (ev : List Event) (acts : List Standing) (m : Mode) (env : Env) where
  abbrev p : Program
  p = program_in plan

  abbrev here : Memory → Seen
  here mem = record { plan = plan; stack = record { acts = acts; next = next; depth = depth; width = width }; memory = mem; variables = vars; passed = passed; mode = m; steps = steps; deepest = deepest; initializers = inits; instructions = instrs }

  abbrev state : Memory → State
  state mem = record { store = mem.store; variables = vars; transcript = tr; events = ev; steps = steps; depth = deepest; cells = mem.used; next = next }

  abbrev goes : Mach FlatBody → Top FlatBody
  goes x = On (target_in p inits) (behind p inits) x

  abbrev Performs : Action → Memory → Type 0
  Performs a mem = Comes plan width (goes (perform_act (flat p plan.codes width) p a (env_of acts env) (acts_of acts) (state mem))) (top_of (tr ++ performed_written a (here mem)) (ev ++ events_of (performed_told a (here mem))) (performed a env (here mem)))

  module _ (same_depth : depth ≡ p.depth_limit) (numbers : next < 2 ^ 64 - 1) (below : env.0 < next) (room : 2 ≤ passed.room) where
    place_same : (b : Bool) → nat_le (length acts + 1) depth ≡ b → nat_le (length acts + 1) p.depth_limit ≡ b
    place_same b e = ap (λ d. nat_le (length acts + 1) d) (sym same_depth) ∙ e

    cells_same : (mem : Memory) (n : ℕ) (b : Bool) → mem.limit ≡ p.cell_limit → nat_le (mem.used + n) mem.limit ≡ b → nat_le (mem.used + n) p.cell_limit ≡ b
    cells_same mem n b e c = ap (λ limit. nat_le (mem.used + n) limit) (sym e) ∙ c

    -- ---- a charge

    makes_by : (n : ℕ) (t : Store) (v : Value) (mem : Memory) (b : Bool) → nat_le (mem.used + n) mem.limit ≡ b → nat_le (mem.used + n) p.cell_limit ≡ b → Performs (Makes n t v) mem
    unfolding used
    makes_by n t v mem true c c' = record { count = 0; counted = refl; comes = rw (c, c', append-nil tr, append-nil ev) refl }
    makes_by n t v mem false c c' = record { count = 0; counted = refl; comes = rw (c, c', append-nil tr, append-nil ev) refl }

    -- ---- a message that nothing answers

    message_by : (selector : ℕ) (r : Value) (array : ℕ) (mem : Memory) (b : Bool) → nat_le 1 passed.room ≡ true → nat_le (mem.used + 3) mem.limit ≡ b → nat_le (mem.used + 3) p.cell_limit ≡ b
        → goes (charged (used p 3 (state mem)) (stopped CellLimit (acts_of acts) (state mem)) (λ st. Begin (SendTo (sends_not_understood p) r (next_object st.store ∷ []) (env_of acts env)) (acts_of acts) (with_store st (with_message selector (Object array) st.store))))
        ≡ top_of tr ev (message_sent (if_object 2 mem) r env (with_memory (here mem) (exception_made message_class 2 (message_slots selector array) mem)))
    unfolding used with_message
    message_by selector r array mem true one c c' =
        let made : exception_made message_class 2 (message_slots selector array) mem ≡ with_object message_class (message_slots selector array) mem = object_memory message_class (message_slots selector array) mem c in
        rw (made, c, c', one) refl
    message_by selector r array mem false one c c' =
        let made : exception_made message_class 2 (message_slots selector array) mem ≡ mem = no_object_memory message_class (message_slots selector array) mem c in
        rw (made, c, c') refl

    misses_by : (selector : ℕ) (r : Value) (args : List Value) (mem : Memory) (b : Bool) → mem.limit ≡ p.cell_limit → nat_le 1 passed.room ≡ true → nat_le (mem.used + object_charge (length args) 0) mem.limit ≡ b → nat_le (mem.used + (1 + length args)) p.cell_limit ≡ b → Performs (Misses selector r args) mem
    unfolding used with_arguments
    misses_by selector r args mem true e one c c' =
        let made : exception_made array_class (length args) args mem ≡ with_object array_class args mem = object_memory array_class args mem c in
        let after = with_object array_class args mem in
        record { count = 0; counted = refl; comes = rw (made, c, c', append-nil tr, append-nil ev) (message_by selector r (length mem.store.objects) after (nat_le (after.used + 3) after.limit) one refl (cells_same after 3 (nat_le (after.used + 3) after.limit) e refl)) }
    misses_by selector r args mem false e one c c' =
        let made : exception_made array_class (length args) args mem ≡ mem = no_object_memory array_class args mem c in
        record { count = 0; counted = refl; comes = rw (made, c, c', append-nil tr, append-nil ev) refl }

    misses : (selector : ℕ) (r : Value) (args : List Value) (mem : Memory) → mem.limit ≡ p.cell_limit → nat_le 1 passed.room ≡ true → Performs (Misses selector r args) mem
    misses selector r args mem e one =
        misses_by selector r args mem (nat_le (mem.used + object_charge (length args) 0) mem.limit) e one refl
        (ap (λ n. nat_le (mem.used + n) p.cell_limit) (sym (charge_same (length args))) ∙ cells_same mem (object_charge (length args) 0) (nat_le (mem.used + object_charge (length args) 0) mem.limit) e refl)

    -- ---- activations that stand

    abbrev stand : Activation → Standing
    stand k = record { number = next; kept = k; env = env; operands = [] }

    guards_by : (r sel h : Value) (mem : Memory) (b : Bool) → nat_le (length acts + 1) depth ≡ b → nat_le (length acts + 1) p.depth_limit ≡ b → Performs (Guards r sel h) mem
    unfolding stood
    guards_by r sel h mem true d d' = record { count = 1; counted = rw (marks_length acts, d') refl; comes = rw (other_number next 18446744073709551615 numbers, marks_length acts, d, d', env_here next r sel h env [] acts below, append-nil tr) refl }
    guards_by r sel h mem false d d' = record { count = 0; counted = refl; comes = rw (other_number next 18446744073709551615 numbers, marks_length acts, d, d', append-nil tr, append-nil ev) refl }

    ensures_by : (r block : Value) (mem : Memory) (b : Bool) → nat_le (length acts + 1) depth ≡ b → nat_le (length acts + 1) p.depth_limit ≡ b → Performs (Ensures r block) mem
    unfolding stood
    ensures_by r block mem true d d' = record { count = 0; counted = refl; comes = rw (other_number next 18446744073709551615 numbers, marks_length acts, d, d', env_skip (stand (act.EnsureOn block)) acts env below, append-nil tr) refl }
    ensures_by r block mem false d d' = record { count = 0; counted = refl; comes = rw (other_number next 18446744073709551615 numbers, marks_length acts, d, d', append-nil tr, append-nil ev) refl }

    curtails_by : (r block : Value) (mem : Memory) (b : Bool) → nat_le (length acts + 1) depth ≡ b → nat_le (length acts + 1) p.depth_limit ≡ b → Performs (Curtails r block) mem
    unfolding stood
    curtails_by r block mem true d d' = record { count = 0; counted = refl; comes = rw (other_number next 18446744073709551615 numbers, marks_length acts, d, d', env_skip (stand (act.CurtailOn block)) acts env below, append-nil tr) refl }
    curtails_by r block mem false d d' = record { count = 0; counted = refl; comes = rw (other_number next 18446744073709551615 numbers, marks_length acts, d, d', append-nil tr, append-nil ev) refl }

    short : (l : LoopState) (mem : Memory) → loop_begins mem.store l ≡ true → length l.arguments ≤ 3
    short l mem begins = let few : nat_le (length l.arguments) 3 ≡ true = (both (nat_le (length l.arguments) 3) (may_begin mem.store l.message l.receiver) begins).0 in leb-true (length l.arguments) 3 few

    iterates_by : (l : LoopState) (mem : Memory) (b : Bool) → mem.limit ≡ p.cell_limit → loop_begins mem.store l ≡ true → nat_le (length acts + 1) depth ≡ b → nat_le (length acts + 1) p.depth_limit ≡ b → Performs (Iterates l) mem
    unfolding stood
    iterates_by l mem true e begins d d' =
        record { count = 1; counted = rw (marks_length acts, d') refl; comes = rw (begins, other_number next 18446744073709551615 numbers, marks_length acts, d, d', append-nil tr, append-nil ev) (visits plan (next + 1) depth width vars passed steps (max deepest (length acts + 1)) inits instrs tr ev acts next env [] m below (first_visit p mem.store l) (act.Loop no_loop) mem e (small_fits (first_visit p mem.store l) mem passed (first_visit_small p mem.store l (short l mem begins)).small room)) }
    iterates_by l mem false e begins d d' = record { count = 0; counted = refl; comes = rw (begins, other_number next 18446744073709551615 numbers, marks_length acts, d, d', append-nil tr, append-nil ev) refl }

    iterates : (l : LoopState) (mem : Memory) → mem.limit ≡ p.cell_limit → loop_begins mem.store l ≡ true → Performs (Iterates l) mem
    iterates l mem e begins = iterates_by l mem (nat_le (length acts + 1) depth) e begins refl (place_same (nat_le (length acts + 1) depth) refl)

    divides : (dividend : Value) (mem : Memory) → plan.troubles ≡ p.trouble_place → Performs (DividesByZero dividend) mem
    divides dividend mem same =
        let text : trouble_text p ZeroDivide ≡ text_in plan ZeroDivide = ap (λ n. Object (n + place_of ZeroDivide)) (sym same) in
        record { count = 0; counted = refl; comes = rw (le-leb 2 passed.room room, append-nil tr, append-nil ev) (ap (λ v. goes (Begin (RaiseNew zero_divide_class (v ∷ dividend ∷ []) (env_of acts env)) (acts_of acts) (state mem))) text) }

    pub performs : (a : Action) (mem : Memory) → mem.limit ≡ p.cell_limit → plan.troubles ≡ p.trouble_place → Falling next acts → is_fit a (here mem) ≡ true → Performs a mem
    performs (Gives v) mem e same falling fit = record { count = 0; counted = refl; comes = rw (append-nil tr, append-nil ev) refl }
    performs (Changes t v) mem e same falling fit = record { count = 0; counted = refl; comes = rw (append-nil tr, append-nil ev) refl }
    performs (Makes n t v) mem e same falling fit = makes_by n t v mem (nat_le (mem.used + n) mem.limit) refl (cells_same mem n (nat_le (mem.used + n) mem.limit) e refl)
    performs (Fails t) mem e same falling fit = record { count = 0; counted = refl; comes = rw (append-nil tr, append-nil ev) refl }
    performs PassesIntegers mem e same falling fit = record { count = 0; counted = refl; comes = rw (append-nil tr, append-nil ev) refl }
    performs (DividesByZero dividend) mem e same falling fit = divides dividend mem same
    performs (Writes text v) mem e same falling fit = record { count = 0; counted = refl; comes = rw (append-nil ev) refl }
    performs (Begins v args) mem e same falling fit = record { count = 0; counted = refl; comes = rw (fit, append-nil tr, append-nil ev) refl }
    performs (Activates c args) mem e same falling fit = record { count = 0; counted = refl; comes = rw (fit, append-nil tr, append-nil ev) refl }
    performs (Sends selector r args) mem e same falling fit = record { count = 0; counted = refl; comes = rw (fit, append-nil tr, append-nil ev) refl }
    performs (Misses selector r args) mem e same falling fit = misses selector r args mem e (le-leb 1 passed.room (omega (arith, room)))
    performs (Enters code r args) mem e same falling fit = record { count = 0; counted = refl; comes = rw (fit, append-nil tr, append-nil ev) refl }
    performs (Guards r sel h) mem e same falling fit = guards_by r sel h mem (nat_le (length acts + 1) depth) refl (place_same (nat_le (length acts + 1) depth) refl)
    performs (Ensures r block) mem e same falling fit = ensures_by r block mem (nat_le (length acts + 1) depth) refl (place_same (nat_le (length acts + 1) depth) refl)
    performs (Curtails r block) mem e same falling fit = curtails_by r block mem (nat_le (length acts + 1) depth) refl (place_same (nat_le (length acts + 1) depth) refl)
    performs (Iterates l) mem e same falling fit = iterates l mem e fit
    performs (Raises t x) mem e same falling fit = record { count = 0; counted = refl; comes = rw (append-nil tr, append-nil ev) refl }
    performs (RaisesNew class slots) mem e same falling fit = record { count = 0; counted = refl; comes = rw (fit, append-nil tr, append-nil ev) refl }
    performs (Controls c x v) mem e same falling fit =
        record { count = 0; counted = refl; comes = rw (append-nil tr) (controls plan next depth width vars passed steps deepest inits instrs tr ev acts mem m v env c x falling) }
    performs (Terminates v) mem e same falling fit = record { count = 0; counted = refl; comes = rw (append-nil tr, append-nil ev) refl }
