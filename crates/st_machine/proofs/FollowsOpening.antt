-- An application and the activation of a block or a method are small steps of the flat machine.
use Rattle.std.proofs.Common.{◌≡◌, ℕ, suc, zero, ◌+◌, ◌-◌, ◌<◌, ◌≤◌, ◌^◌, List, [], ◌∷◌, length, reverse, Bool, true, false, nat_eq, nat_le, max, refl, ap, sym, ◌∙◌, arith}
use Rattle.std.proofs.lemmas.List.{append-nil}
use Rattle.std.proofs.lemmas.Bool.Decides.{nat_tests}
use Rattle.object_heap.specs.declared.value.Value.{Value}
use Rattle.object_heap.specs.Store.{scope_added, blank_scope}
use Rattle.object_heap.specs.Charges.{Memory}
use Rattle.st_code.specs.Texts.{Text}
use Rattle.st_code.specs.Program.{Program, Kind, body_at}
use Rattle.st_code.specs.Compiled.{compile_of, any_captured, count_uncaptured}
use Rattle.st_contexts.specs.declared.activation.Activation.TheVariants as act
use Rattle.st_contexts.specs.declared.activation.Frame.{Frame}
use Rattle.st_contexts.specs.Stack.{Standing}
use Rattle.st_rules.specs.Events.{Event}
use Rattle.st_rules.specs.State.{State, CellLimit, stood, used, count_true, scope_cells, first_variables}
use Rattle.st_rules.specs.Ends.{Opening}
use Rattle.st_rules.specs.Machine.{Mach, Run, stopped, open_act, marks}
use Rattle.st_rules.specs.Flat.{FlatBody, flat, flat_number, code_at, own_variables, captured_variables}
use Rattle.st_rules.specs.Turns.{Top, On}
use Rattle.st_machine.specs.declared.work.Mode.{Mode}
use Rattle.st_machine.specs.declared.opening.Opening as new
use Rattle.st_machine.specs.Seen.{Plan, Passed, Seen}
use Rattle.st_machine.specs.Plans.{program_in}
use Rattle.st_machine.specs.Operands.{own_pushed}
use Rattle.st_machine.specs.Scopes.{captured_put}
use Rattle.st_machine.specs.Opening.{opened, frame_for, home_or, in_scope}
use Rattle.st_machine.specs.Meaning.{top_of, state_of, body_of, acts_of, target_in, behind, env_of}
use Rattle.st_machine.proofs.Links.{other_number}
use Rattle.st_machine.proofs.Furnishing.{same_captured, none_captured, some_captured, own_operands, captured_values}

pub marks_length : (acts : List Standing) → length (marks flat_number (acts_of acts)) ≡ length acts
marks_length [] = refl
marks_length (a ∷ acts) = ap suc (marks_length acts)

not_zero : (k : ℕ) → nat_eq (suc k) 0 ≡ false
not_zero k = grind (arith, nat_tests)

within_more : (n m : ℕ) → n ≤ m → nat_le (n + 0) m ≡ true
within_more n m l = grind (arith, nat_tests)

module _ (plan : Plan) (next depth width : ℕ) (vars : List Value) (passed : Passed) (steps deepest inits instrs : ℕ) (tr : Text) (ev : List Event) where
  abbrev pub seen : List Standing → Memory → ℕ → ℕ → ℕ → Mode → Seen
  seen acts mem next' steps' deepest' m = record { plan = plan; stack = record { acts = acts; next = next'; depth = depth; width = width }; memory = mem; variables = vars; passed = passed; mode = m; steps = steps'; deepest = deepest'; initializers = inits; instructions = instrs }

  abbrev p : Program
  p = program_in plan

  abbrev goes : Mach FlatBody → Top FlatBody
  goes m = On (target_in p inits) (behind p inits) m

  module _ (compiled : plan.codes ≡ compile_of p) (same_depth : depth ≡ p.depth_limit) (numbers : next < 2 ^ 64 - 1) (acts : List Standing) (mem : Memory) (cells : mem.limit ≡ p.cell_limit) (within : mem.used ≤ mem.limit) (x : new.Opening) (kind : Kind) (m : Mode) (fits : count_uncaptured (code_at plan.codes x.code).captured ≤ width) where
    abbrev flat_opening : Opening
    flat_opening = record { code = x.code; kind = kind; self = x.receiver; class = x.class; own = next; home = home_or next x.home; outer = x.outer; arguments = passed.values; env = env_of acts x.env }

    abbrev here : Seen
    here = seen acts mem next steps deepest m

    -- the activation stands
    abbrev standing : Standing
    standing = record { number = next; kept = act.Body (frame_for x next); env = x.env; operands = [] }

    abbrev over : Seen
    over = seen (standing ∷ acts) mem (next + 1) steps (max deepest (length acts + 1)) m

    abbrev cap : List Bool
    cap = (code_at plan.codes x.code).captured

    abbrev Law : Type 0
    Law = goes (open_act (flat p plan.codes width) p flat_opening (acts_of acts) (state_of tr ev here)) ≡ top_of tr ev (opened x here)

    own_stack : own_pushed cap passed.values over.stack ≡ record { acts = record { number = next; kept = act.Body (frame_for x next); env = x.env; operands = reverse (own_variables cap (first_variables cap passed.values)) } ∷ acts; next = next + 1; depth = depth; width = width }
    own_stack = own_operands cap passed.values standing acts (next + 1) depth width [] (omega (arith, fits)) ∙ ap (λ ops. record { acts = record { number = next; kept = act.Body (frame_for x next); env = x.env; operands = ops } ∷ acts; next = next + 1; depth = depth; width = width }) (append-nil (reverse (own_variables cap (first_variables cap passed.values))))

    abbrev scope_frame : Frame
    scope_frame = in_scope (length mem.store.scopes) (frame_for x next)

    scope_stack : own_pushed cap passed.values (record { acts = record { number = next; kept = act.Body scope_frame; env = x.env; operands = [] } ∷ acts; next = next + 1; depth = depth; width = width }) ≡ record { acts = record { number = next; kept = act.Body scope_frame; env = x.env; operands = reverse (own_variables cap (first_variables cap passed.values)) } ∷ acts; next = next + 1; depth = depth; width = width }
    scope_stack = own_operands cap passed.values (record { number = next; kept = act.Body scope_frame; env = x.env; operands = [] }) acts (next + 1) depth width [] (omega (arith, fits)) ∙ ap (λ ops. record { acts = record { number = next; kept = act.Body scope_frame; env = x.env; operands = ops } ∷ acts; next = next + 1; depth = depth; width = width }) (append-nil (reverse (own_variables cap (first_variables cap passed.values))))

    scope_store : (k : ℕ) → count_true cap ≡ suc k → captured_put cap passed.values (length mem.store.scopes) 0 (scope_added (blank_scope x.code (suc k) x.outer) mem.store) ≡ scope_added (record { code = x.code; outer = x.outer; variables = captured_variables cap (first_variables cap passed.values) }) mem.store
    scope_store k counted = rw counted at (captured_values cap passed.values x.code x.outer mem.store.objects mem.store.closures mem.store.scopes [])

    -- no place
    stops : nat_le (length acts + 1) depth ≡ false → nat_le (length acts + 1) p.depth_limit ≡ false → Law
    unfolding stood
    stops e e' = rw (other_number next 18446744073709551615 numbers, marks_length acts, e, e') refl

    -- no variable is captured
    owns : nat_le (length acts + 1) depth ≡ true → nat_le (length acts + 1) p.depth_limit ≡ true → count_true cap ≡ 0 → count_true (body_at p x.code).captured ≡ 0 → nat_le (mem.used + 0) p.cell_limit ≡ true → Law
    unfolding stood used scope_cells
    owns e e' counted counted' room =
        let same : mem.used + 0 ≡ mem.used = omega arith in
        rw (other_number next 18446744073709551615 numbers, marks_length acts, e, e', counted, counted', room, none_captured cap counted, same, own_stack) refl

    -- a variable is captured
    abbrev after : Memory → ℕ → State
    after m cells' = record { store = m.store; variables = vars; transcript = tr; events = ev; steps = steps; depth = max deepest (length acts + 1); cells = cells'; next = next + 1 }

    no_cells_left : (k : ℕ) → nat_le (length acts + 1) p.depth_limit ≡ true → count_true (body_at p x.code).captured ≡ suc k → nat_le (mem.used + suc (suc k)) p.cell_limit ≡ false → goes (open_act (flat p plan.codes width) p flat_opening (acts_of acts) (state_of tr ev here)) ≡ goes (stopped CellLimit (acts_of acts) (after mem mem.used))
    unfolding stood used scope_cells
    no_cells_left k e' counted' room' = rw (marks_length acts, e', counted', room') refl

    no_cells_right : (k : ℕ) → nat_le (length acts + 1) depth ≡ true → count_true cap ≡ suc k → nat_le (mem.used + (1 + suc k)) mem.limit ≡ false → goes (stopped CellLimit (acts_of acts) (after mem mem.used)) ≡ top_of tr ev (opened x here)
    no_cells_right k e counted room = rw (other_number next 18446744073709551615 numbers, e, counted, not_zero k, room) refl

    scoped_left : (k : ℕ) → nat_le (length acts + 1) p.depth_limit ≡ true → count_true (body_at p x.code).captured ≡ suc k → nat_le (mem.used + suc (suc k)) p.cell_limit ≡ true → any_captured cap ≡ true
        → goes (open_act (flat p plan.codes width) p flat_opening (acts_of acts) (state_of tr ev here))
        ≡ goes (Run (body_of acts scope_frame next x.env (reverse (own_variables cap (first_variables cap passed.values)))) (acts_of acts) (record { store = scope_added (record { code = x.code; outer = x.outer; variables = captured_variables cap (first_variables cap passed.values) }) mem.store; variables = vars; transcript = tr; events = ev; steps = steps; depth = max deepest (length acts + 1); cells = mem.used + suc (suc k); next = next + 1 }))
    unfolding stood used scope_cells
    scoped_left k e' counted' room' some = rw (marks_length acts, e', counted', room', some) refl

    scoped_right : (k : ℕ) → nat_le (length acts + 1) depth ≡ true → count_true cap ≡ suc k → nat_le (mem.used + (1 + suc k)) mem.limit ≡ true
        → goes (Run (body_of acts scope_frame next x.env (reverse (own_variables cap (first_variables cap passed.values)))) (acts_of acts) (record { store = scope_added (record { code = x.code; outer = x.outer; variables = captured_variables cap (first_variables cap passed.values) }) mem.store; variables = vars; transcript = tr; events = ev; steps = steps; depth = max deepest (length acts + 1); cells = mem.used + (1 + suc k); next = next + 1 }))
        ≡ top_of tr ev (opened x here)
    scoped_right k e counted room = rw (other_number next 18446744073709551615 numbers, e, counted, not_zero k, room, scope_store k counted, scope_stack) refl

    by_room : (k : ℕ) (b : Bool) → nat_le (length acts + 1) depth ≡ true → count_true cap ≡ suc k → nat_le (mem.used + (1 + suc k)) mem.limit ≡ b → Law
    by_room k true e counted room =
        let more : 1 + suc k ≡ suc (suc k) = omega arith in
        scoped_left k (ap (λ d. nat_le (length acts + 1) d) (sym same_depth) ∙ e) (ap count_true (sym (same_captured p plan.codes x.code compiled)) ∙ counted) (ap (λ n. nat_le (mem.used + n) p.cell_limit) (sym more) ∙ ap (λ l. nat_le (mem.used + (1 + suc k)) l) (sym cells) ∙ room) (some_captured cap k counted)
        ∙ rw (← more) (scoped_right k e counted room)
    by_room k false e counted room =
        let more : 1 + suc k ≡ suc (suc k) = omega arith in
        no_cells_left k (ap (λ d. nat_le (length acts + 1) d) (sym same_depth) ∙ e) (ap count_true (sym (same_captured p plan.codes x.code compiled)) ∙ counted) (ap (λ n. nat_le (mem.used + n) p.cell_limit) (sym more) ∙ ap (λ l. nat_le (mem.used + (1 + suc k)) l) (sym cells) ∙ room)
        ∙ no_cells_right k e counted room

    by_count : (n : ℕ) → nat_le (length acts + 1) depth ≡ true → count_true cap ≡ n → Law
    by_count zero e counted = owns e (ap (λ d. nat_le (length acts + 1) d) (sym same_depth) ∙ e) counted (ap count_true (sym (same_captured p plan.codes x.code compiled)) ∙ counted) (ap (λ l. nat_le (mem.used + 0) l) (sym cells) ∙ within_more mem.used mem.limit within)
    by_count (suc k) e counted = by_room k (nat_le (mem.used + (1 + suc k)) mem.limit) e counted refl

    by_place : (b : Bool) → nat_le (length acts + 1) depth ≡ b → Law
    by_place true e = by_count (count_true cap) e refl
    by_place false e = stops e (ap (λ d. nat_le (length acts + 1) d) (sym same_depth) ∙ e)

    pub opens : Law
    opens = by_place (nat_le (length acts + 1) depth) refl
