-- The beginning of an application or an activation is one small step of the flat machine.
use Rattle.std.proofs.Common.{◌≡◌, ℕ, ◌+◌, ◌-◌, ◌<◌, ◌≤◌, ◌^◌, List, length, Bool, true, false, nat_eq, nat_lt, Option, Some, None, refl, ap, sym, ◌∙◌}
use Rattle.object_heap.specs.declared.value.Value.{Value}
use Rattle.object_heap.specs.declared.value.Value.TheVariants as value
use Rattle.object_heap.specs.declared.value.Closure.{Closure}
use Rattle.object_heap.specs.Store.{closure_at}
use Rattle.object_heap.specs.Charges.{Memory}
use Rattle.st_code.specs.Texts.{Text}
use Rattle.st_code.specs.Program.{Program, InBlock, InMethod, body_at}
use Rattle.st_code.specs.Compiled.{compile_of, count_uncaptured}
use Rattle.st_contexts.specs.declared.activation.Env.{Env}
use Rattle.st_contexts.specs.Stack.{Standing}
use Rattle.st_rules.specs.Events.{Event}
use Rattle.st_rules.specs.State.{step_made}
use Rattle.st_rules.specs.ExceptionRows.{closure_of}
use Rattle.st_rules.specs.Rules.{closure_for, apply_by}
use Rattle.st_rules.specs.Machine.{open_act, Begin}
use Rattle.st_rules.specs.Flat.{FlatBody, flat, code_at}
use Rattle.st_rules.specs.Turns.{Top, On, top_step}
use Rattle.st_machine.specs.declared.work.Mode.TheVariants as mode
use Rattle.st_machine.specs.declared.work.Work.{Work}
use Rattle.st_machine.specs.declared.work.Work.TheVariants as work
use Rattle.st_machine.specs.Seen.{Plan, Passed, Seen}
use Rattle.st_machine.specs.Plans.{program_in}
use Rattle.st_machine.specs.Opening.{block_opening}
use Rattle.st_machine.specs.Works.{begun}
use Rattle.st_machine.specs.Meaning.{top_of, state_of, acts_of, env_of, target_in, behind}
use Rattle.st_machine.proofs.Furnishing.{same_class, same_parameters}
use Rattle.st_machine.proofs.FollowsOpening.{seen, opens}

module _ (plan : Plan) (next depth width : ℕ) (vars : List Value) (passed : Passed) (steps deepest inits instrs : ℕ) (tr : Text) (ev : List Event) (acts : List Standing) (mem : Memory) where
  abbrev p : Program
  p = program_in plan

  abbrev here : Work → Seen
  here w = seen plan next depth width vars passed steps deepest inits instrs tr ev acts mem next steps deepest (mode.Begin w)

  abbrev Law : Work → Type 0
  Law w = top_step (flat p plan.codes width) p (top_of tr ev (here w)) ≡ top_of tr ev (begun w (here w))

  module _ (compiled : plan.codes ≡ compile_of p) (same_depth : depth ≡ p.depth_limit) (numbers : next < 2 ^ 64 - 1) (cells : mem.limit ≡ p.cell_limit) (within : mem.used ≤ mem.limit) (fits : (code : ℕ) → count_uncaptured (code_at plan.codes code).captured ≤ width) where
    activates_by : (c : Closure) (env : Env) (b : Bool) → nat_lt steps p.step_limit ≡ b → Law (work.Activate c env)
    unfolding step_made
    activates_by c env false e = rw e refl
    activates_by c env true e = rw e (opens plan next depth width vars passed (steps + 1) deepest inits instrs tr ev compiled same_depth numbers acts mem cells within (block_opening c env) InBlock (mode.Begin (work.Activate c env)) (fits c.code))

    pub activates : (c : Closure) (env : Env) → Law (work.Activate c env)
    activates c env = activates_by c env (nat_lt steps p.step_limit) refl

    pub enters : (code : ℕ) (r : Value) (env : Env) → Law (work.Enter code r env)
    enters code r env =
        ap (λ class. On (target_in p inits) (behind p inits) (open_act (flat p plan.codes width) p (record { code = code; kind = InMethod; self = r; class = class; own = next; home = next; outer = None; arguments = passed.values; env = env_of acts env }) (acts_of acts) (state_of tr ev (here (work.Enter code r env))))) (sym (same_class p plan.codes code compiled))
        ∙ opens plan next depth width vars passed steps deepest inits instrs tr ev compiled same_depth numbers acts mem cells within (record { code = code; receiver = r; class = (code_at plan.codes code).class; home = None; outer = None; env = env }) InMethod (mode.Begin (work.Enter code r env)) (fits code)

    abbrev applying : ℕ → Env → Option Closure → Top FlatBody
    applying n env o = On (target_in p inits) (behind p inits) (Begin (apply_by p o (value.Object n) passed.values (env_of acts env)) (acts_of acts) (state_of tr ev (here (work.Apply (value.Object n) env))))

    fits_by : (n : ℕ) (env : Env) (c : Closure) (b : Bool) → closure_at n mem.store ≡ Some c → nat_eq (code_at plan.codes c.code).parameters (length passed.values) ≡ b → nat_eq (body_at p c.code).parameters (length passed.values) ≡ b → Law (work.Apply (value.Object n) env)
    unfolding closure_for closure_of
    fits_by n env c true is e e' = rw (is, e) (ap (λ b. applying n env (elim b [ true ↦ Some c | false ↦ None ])) e')
    fits_by n env c false is e e' = rw (is, e) (ap (λ b. applying n env (elim b [ true ↦ Some c | false ↦ None ])) e')

    applies_by : (n : ℕ) (env : Env) (o : Option Closure) → closure_at n mem.store ≡ o → Law (work.Apply (value.Object n) env)
    unfolding closure_for closure_of
    applies_by n env None is = rw is refl
    applies_by n env (Some c) is = fits_by n env c (nat_eq (code_at plan.codes c.code).parameters (length passed.values)) is refl (ap (λ k. nat_eq k (length passed.values)) (sym (same_parameters p plan.codes c.code compiled)))

    pub applies : (v : Value) (env : Env) → Law (work.Apply v env)
    unfolding closure_for closure_of
    applies value.Nil env = refl
    applies value.True env = refl
    applies value.False env = refl
    applies (value.Integer n) env = refl
    applies (value.Character n) env = refl
    applies (value.Symbol n) env = refl
    applies (value.Class n) env = refl
    applies (value.Meta n) env = refl
    applies value.Transcript env = refl
    applies (value.Object n) env = applies_by n env (closure_at n mem.store) refl
