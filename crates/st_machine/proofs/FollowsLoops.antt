-- What the visits of a loop ask for is what the flat machine makes of them.
use Rattle.std.proofs.Common.{◌≡◌, ℕ, ◌+◌, ◌<◌, List, [], ◌∷◌, length, nat_le, Bool, true, false, refl, ap, sym, ◌∙◌}
use Rattle.object_heap.specs.declared.value.Value.{Value}
use Rattle.object_heap.specs.Charges.{Memory}
use Rattle.object_heap.specs.Store.{Store}
use Rattle.st_code.specs.Texts.{Text}
use Rattle.st_code.specs.Program.{Program}
use Rattle.st_collections.specs.Actions.{LoopState, Visit, Applies, Compares, Finishes, Lacks, Charges}
use Rattle.st_contexts.specs.declared.activation.Activation.{Activation}
use Rattle.st_contexts.specs.declared.activation.Activation.TheVariants as act
use Rattle.st_contexts.specs.declared.activation.Env.{Env}
use Rattle.st_contexts.specs.Stack.{Standing}
use Rattle.st_loops.specs.Steps.{told_of, memory_after, paid}
use Rattle.st_rules.specs.Events.{Event}
use Rattle.st_rules.specs.State.{State, used}
use Rattle.st_rules.specs.Machine.{Mach, visit_act}
use Rattle.st_rules.specs.Flat.{FlatBody, flat}
use Rattle.st_rules.specs.Turns.{Top, On}
use Rattle.st_machine.specs.declared.work.Mode.{Mode}
use Rattle.st_machine.specs.Seen.{Plan, Passed, Seen}
use Rattle.st_machine.specs.Plans.{program_in}
use Rattle.st_machine.specs.Passing.{fits_in}
use Rattle.st_machine.specs.Loops.{loop_kept, visit_made, loop_stepped}
use Rattle.st_machine.specs.Meaning.{top_of, state_of, acts_of, env_of, target_in, behind}
use Rattle.st_machine.proofs.Links.{env_skip}
use Rattle.st_machine.proofs.SmallVisits.{is_short, step_fits}
use Rattle.st_machine.proofs.LoopStates.{both, loop_back}

module _ (plan : Plan) (next depth width : ℕ) (vars : List Value) (passed : Passed) (steps deepest inits instrs : ℕ) (tr : Text) (ev : List Event) (acts : List Standing) (n : ℕ) (env : Env) (ops : List Value) (m : Mode) (below : env.0 < n) where
  abbrev p : Program
  p = program_in plan

  abbrev loop : LoopState → Standing
  loop l = record { number = n; kept = act.Loop (loop_kept l); env = env; operands = ops }

  abbrev over : Activation → Memory → Seen
  over k mem = record { plan = plan; stack = record { acts = record { number = n; kept = k; env = env; operands = ops } ∷ acts; next = next; depth = depth; width = width }; memory = mem; variables = vars; passed = passed; mode = m; steps = steps; deepest = deepest; initializers = inits; instructions = instrs }

  abbrev state : Memory → State
  state mem = record { store = mem.store; variables = vars; transcript = tr; events = ev; steps = steps; depth = deepest; cells = mem.used; next = next }

  abbrev goes : Mach FlatBody → Top FlatBody
  goes x = On (target_in p inits) (behind p inits) x

  abbrev Visits : Visit → Activation → Memory → Type 0
  Visits v k mem = goes (visit_act (flat p plan.codes width) p n v (env_of acts env) (acts_of acts) (state mem)) ≡ top_of tr ev (loop_stepped (told_of v mem) env (over k (memory_after v mem)))

  applies : (l : LoopState) (block : Value) (args : List Value) (k : Activation) (mem : Memory) → fits_in args passed ≡ true → is_short l ≡ true → Visits (Applies l block args) k mem
  applies l block args k mem fits short = rw (fits, env_skip (loop l) acts env below, loop_back l short) refl

  compares : (l : LoopState) (r v : Value) (k : Activation) (mem : Memory) → nat_le 1 passed.room ≡ true → is_short l ≡ true → Visits (Compares l r v) k mem
  compares l r v k mem fits short = rw (fits, env_skip (loop l) acts env below, loop_back l short) refl

  lacks : (l : LoopState) (k : Activation) (mem : Memory) → is_short l ≡ true → Visits (Lacks l) k mem
  lacks l k mem short = rw (env_skip (loop l) acts env below, loop_back l short) refl

  charge_same : (cells : ℕ) (mem : Memory) (b : Bool) → mem.limit ≡ p.cell_limit → nat_le (mem.used + cells) mem.limit ≡ b → nat_le (mem.used + cells) p.cell_limit ≡ b
  charge_same cells mem b e c = ap (λ limit. nat_le (mem.used + cells) limit) (sym e) ∙ c

  charges : (cells : ℕ) (t : Store) (v : Visit) (k : Activation) (mem : Memory) (b : Bool) → nat_le (mem.used + cells) mem.limit ≡ b → nat_le (mem.used + cells) p.cell_limit ≡ b → (b ≡ true → Visits v k (paid cells t mem)) → Visits (Charges cells t v) k mem
  unfolding used
  charges cells t v k mem true c c' rest = rw (c, c') (rest refl)
  charges cells t v k mem false c c' rest = rw (c, c') refl

  pub visits : (v : Visit) (k : Activation) (mem : Memory) → mem.limit ≡ p.cell_limit → step_fits (told_of v mem) passed ≡ true → Visits v k mem
  visits (Applies l block args) k mem e fits = let parts = both (fits_in args passed) (is_short l) fits in applies l block args k mem parts.0 parts.1
  visits (Compares l r v) k mem e fits = let parts = both (nat_le 1 passed.room) (is_short l) fits in compares l r v k mem parts.0 parts.1
  visits (Finishes v) k mem e fits = refl
  visits (Lacks l) k mem e fits = lacks l k mem fits
  visits (Charges cells t v) k mem e fits =
      charges cells t v k mem (nat_le (mem.used + cells) mem.limit) refl (charge_same cells mem (nat_le (mem.used + cells) mem.limit) e refl) (λ c. visits v k (paid cells t mem) e (rw c at fits))
