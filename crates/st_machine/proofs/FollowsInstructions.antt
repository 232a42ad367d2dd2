-- Each instruction is one small step of the flat machine.
use Rattle.std.proofs.Common.{◌≡◌, ℕ, suc, zero, ◌+◌, ◌-◌, ◌<◌, ◌≤◌, ◌^◌, min, List, [], ◌∷◌, Bool, true, false, nat_le, Option, Some, None, refl, ap, sym, arith}
use Rattle.object_heap.specs.declared.value.Value.{Value}
use Rattle.object_heap.specs.declared.value.Value.TheVariants.{Nil}
use Rattle.st_code.specs.declared.instruction.Constant.{Constant}
use Rattle.object_heap.specs.Charges.{Memory}
use Rattle.st_code.specs.Texts.{Text}
use Rattle.st_code.specs.declared.instruction.Variable.{Variable}
use Rattle.st_code.specs.declared.instruction.Variable.TheVariants as variable
use Rattle.st_code.specs.declared.instruction.Instruction.{Instruction}
use Rattle.st_code.specs.declared.instruction.Instruction.TheVariants as instruction
use Rattle.st_contexts.specs.declared.activation.Activation.TheVariants as act
use Rattle.st_contexts.specs.declared.activation.Frame.{Frame}
use Rattle.st_contexts.specs.declared.activation.Env.{Env}
use Rattle.st_contexts.specs.Stack.{Standing, stands_in}
use Rattle.st_rules.specs.Events.{Event}
use Rattle.st_rules.specs.State.{BodyMark, used, stands}
use Rattle.st_rules.specs.Machine.{marks}
use Rattle.st_rules.specs.Flat.{flat_number, flat_instruction, flat_next, operand_at, with_operand, with_flat_block, operands_taken, but_last}
use Rattle.st_rules.specs.Turns.{On}
use Rattle.st_machine.specs.declared.work.Mode.TheVariants as mode
use Rattle.st_machine.specs.Seen.{Plan, Passed, Seen}
use Rattle.st_machine.specs.Plans.{program_in}
use Rattle.st_machine.specs.Operands.{taken}
use Rattle.st_machine.specs.Instructions.{performed, next_performed}
use Rattle.st_machine.specs.Meaning.{top_of, state_of, body_of, acts_of, target_in, behind, env_of}
use Rattle.st_machine.specs.Followed.{CountFits}
use Rattle.st_machine.proofs.Links.{env_skip, stands_same}

-- ---- operands that are taken

with_ops : List Value → Standing → Standing
with_ops ops a = record { number = a.number; kept = a.kept; env = a.env; operands = ops }

pub taken_top : (n : ℕ) (a : Standing) (acts : List Standing) (next depth width : ℕ) (ops vs : List Value)
    → taken n (record { acts = record { number = a.number; kept = a.kept; env = a.env; operands = ops } ∷ acts; next = next; depth = depth; width = width }) vs
    ≡ record { stack = record { acts = record { number = a.number; kept = a.kept; env = a.env; operands = (operands_taken n ops vs).below } ∷ acts; next = next; depth = depth; width = width }; values = (operands_taken n ops vs).args }
unfolding taken
taken_top zero a acts next depth width ops vs = refl
taken_top (suc n) a acts next depth width [] vs = taken_top n a acts next depth width [] (Nil ∷ vs)
taken_top (suc n) a acts next depth width (v ∷ ops) vs = taken_top n a acts next depth width ops (v ∷ vs)

module _ (plan : Plan) (next depth width : ℕ) (mem : Memory) (vars : List Value) (passed : Passed) (steps deepest inits instrs : ℕ) (tr : Text) (ev : List Event) where
  abbrev seen : List Standing → Seen
  seen acts = record { plan = plan; stack = record { acts = acts; next = next; depth = depth; width = width }; memory = mem; variables = vars; passed = passed; mode = mode.Run; steps = steps; deepest = deepest; initializers = inits; instructions = instrs }

  module _ (f : Frame) (n : ℕ) (env : Env) (ops : List Value) (acts : List Standing) where
    abbrev here : Seen
    here = seen (record { number = n; kept = act.Body f; env = env; operands = ops } ∷ acts)

    abbrev Law : Instruction → Type 0
    Law i = On (target_in (program_in plan) inits) (behind (program_in plan) inits) (flat_instruction (program_in plan) plan.codes width i (body_of acts f n env ops) (acts_of acts) (state_of tr ev here)) ≡ top_of tr ev (performed i f here)

    module _ (moves : min (f.position + 1) (2 ^ 32 - 1) ≡ f.position + 1) (below : env.0 < n) (cells : mem.limit ≡ (program_in plan).cell_limit) (passes : width ≤ passed.room) where
      constant : (c : Constant) → Law (instruction.PushConstant c)
      constant c = rw moves refl

      own_self : Law instruction.PushSelf
      own_self = rw moves refl

      pop : Law instruction.Pop
      pop = rw moves refl

      dup : Law instruction.Dup
      dup = rw moves refl

      ends : Law instruction.MethodReturn
      ends = refl

      block_ends : Law instruction.BlockEnd
      block_ends = refl

      read : (v : Variable) → Law (instruction.PushVariable v)
      unfolding operand_at
      read (variable.Own k) = rw moves refl
      read (variable.Scope up k) = rw moves refl
      read (variable.Instance k) = rw moves refl
      read (variable.ClassInstance k) = rw moves refl
      read (variable.Shared k) = rw moves refl

      write : (v : Variable) → Law (instruction.Store v)
      unfolding with_operand
      write (variable.Own k) = rw moves refl
      write (variable.Scope up k) = rw moves refl
      write (variable.Instance k) = rw moves refl
      write (variable.ClassInstance k) = rw moves refl
      write (variable.Shared k) = rw moves refl

      fits : (count : ℕ) → count ≤ width → min count passed.room ≡ count
      fits count l = omega (arith, l, passes)

      send : (selector count : ℕ) → count ≤ width → Law (instruction.Send selector count)
      send selector count l = rw (fits count l, taken_top count (record { number = n; kept = act.Body f; env = env; operands = ops }) acts next depth width ops []) (rw env_skip' refl)
        where
          env_skip' : env_of (record { number = n; kept = act.Body f; env = env; operands = but_last (operands_taken count ops []).below } ∷ acts) env ≡ env_of acts env
          env_skip' = env_skip (record { number = n; kept = act.Body f; env = env; operands = but_last (operands_taken count ops []).below }) acts env below

      super_send : (selector count : ℕ) → count ≤ width → Law (instruction.SuperSend selector count)
      super_send selector count l = rw (fits count l, taken_top count (record { number = n; kept = act.Body f; env = env; operands = ops }) acts next depth width ops []) (rw env_skip' refl)
        where
          env_skip' : env_of (record { number = n; kept = act.Body f; env = env; operands = but_last (operands_taken count ops []).below } ∷ acts) env ≡ env_of acts env
          env_skip' = env_skip (record { number = n; kept = act.Body f; env = env; operands = but_last (operands_taken count ops []).below }) acts env below

      make_by : (code : ℕ) (b : Bool) → nat_le (mem.used + 2) mem.limit ≡ b → nat_le (mem.used + 2) (program_in plan).cell_limit ≡ b → Law (instruction.MakeBlock code)
      unfolding used with_flat_block
      make_by code true e e' = rw (e, e', moves) refl
      make_by code false e e' = rw (e, e') refl

      make : (code : ℕ) → Law (instruction.MakeBlock code)
      make code = make_by code (nat_le (mem.used + 2) mem.limit) refl (ap (λ l. nat_le (mem.used + 2) l) (sym cells))

      abbrev left : Standing
      left = record { number = n; kept = act.Body f; env = env; operands = but_last ops }

      leave_by : (b : Bool) → stands f.home (BodyMark n ∷ marks flat_number (acts_of acts)) ≡ b → stands_in f.home (left ∷ acts) ≡ b → Law instruction.HomeReturn
      leave_by true e e' = rw (e, e') refl
      leave_by false e e' = rw (e, e', env_skip (record { number = n; kept = act.Leaving f; env = env; operands = but_last ops }) acts env below) refl

      leave : Law instruction.HomeReturn
      leave = leave_by (stands_in f.home (left ∷ acts)) (stands_same f.home (left ∷ acts)) refl

      pub instruct : (i : Instruction) → CountFits width (Some i) → Law i
      instruct (instruction.PushConstant c) h = constant c
      instruct instruction.PushSelf h = own_self
      instruct (instruction.PushVariable v) h = read v
      instruct (instruction.Store v) h = write v
      instruct instruction.Pop h = pop
      instruct instruction.Dup h = dup
      instruct (instruction.Send selector count) h = send selector count h
      instruct (instruction.SuperSend selector count) h = super_send selector count h
      instruct (instruction.MakeBlock code) h = make code
      instruct instruction.MethodReturn h = ends
      instruct instruction.HomeReturn h = leave
      instruct instruction.BlockEnd h = block_ends

      at_end : On (target_in (program_in plan) inits) (behind (program_in plan) inits) (flat_next (program_in plan) plan.codes width None (body_of acts f n env ops) (acts_of acts) (state_of tr ev here)) ≡ top_of tr ev (next_performed None f here)
      at_end = refl

      pub next_by : (i : Option Instruction) → CountFits width i → On (target_in (program_in plan) inits) (behind (program_in plan) inits) (flat_next (program_in plan) plan.codes width i (body_of acts f n env ops) (acts_of acts) (state_of tr ev here)) ≡ top_of tr ev (next_performed i f here)
      next_by None h = at_end
      next_by (Some i) h = instruct i h
