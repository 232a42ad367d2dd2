-- An instruction passes on no more values than there is room for, and begins no visit.
use Rattle.std.proofs.Common.{◌≡◌, ℕ, zero, suc, ◌+◌, ◌≤◌, min, List, [], ◌∷◌, length, Bool, true, false, Option, Some, None, slice_get, arith}
use Rattle.object_heap.specs.declared.value.Value.{Value}
use Rattle.object_heap.specs.Charges.{closure_made}
use Rattle.st_code.specs.declared.instruction.Variable.{Variable}
use Rattle.st_code.specs.declared.instruction.Variable.TheVariants as variable
use Rattle.st_code.specs.declared.instruction.Instruction.{Instruction}
use Rattle.st_code.specs.declared.instruction.Instruction.TheVariants as instruction
use Rattle.st_code.specs.BuiltIns.{block_class}
use Rattle.st_contexts.specs.declared.activation.Activation.{Activation}
use Rattle.st_contexts.specs.declared.activation.Activation.TheVariants as act
use Rattle.st_contexts.specs.declared.activation.Frame.{Frame}
use Rattle.st_contexts.specs.Stack.{Stack, top_kept, top_value, value_popped, stands_in}
use Rattle.st_rules.specs.Flat.{code_at}
use Rattle.st_machine.specs.Instructions.{variable_written, closure_of, block_delivered, operand_dropped, leaves_home, performed, counted, next_performed, instructed_at, instructed}
use Rattle.st_machine.specs.Operands.{taken}
use Rattle.st_machine.specs.Scopes.{if_room}
use Rattle.st_machine.specs.Seen.{Seen, with_memory}
use Rattle.st_steady.proofs.Plain.{Plain}

-- so many values are taken
taken_size : (n : ℕ) (s : Stack) (vs : List Value) → length (taken n s vs).values ≡ n + length vs
unfolding taken
taken_size zero s vs = omega arith
taken_size (suc n) s vs = let e = taken_size n (value_popped s) (top_value s ∷ vs) in omega (arith, e)

few_taken : (count : ℕ) (s : Seen) → length (taken (min count s.passed.room) s.stack []).values ≤ s.passed.room
few_taken count s = let e = taken_size (min count s.passed.room) s.stack [] in omega (arith, e)

writes : (place : Variable) (v : Value) (f : Frame) (s : Seen) → Plain s → Plain (variable_written place v f s)
writes (variable.Own index) v f s h = record { mode = h.mode; few = h.few }
writes (variable.Scope up index) v f s h = record { mode = h.mode; few = h.few }
writes (variable.Instance index) v f s h = record { mode = h.mode; few = h.few }
writes (variable.ClassInstance index) v f s h = record { mode = h.mode; few = h.few }
writes (variable.Shared index) v f s h = record { mode = h.mode; few = h.few }

stores : (place : Variable) (f : Frame) (s : Seen) → Plain s → Plain (performed (instruction.Store place) f s)
stores place f s h = let w : Plain (variable_written place (top_value s.stack) f s) = writes place (top_value s.stack) f s h in record { mode = w.mode; few = w.few }

delivers : (o : Option ℕ) (f : Frame) (s : Seen) → Plain s → Plain (block_delivered o f s)
delivers (Some number) f s h = record { mode = h.mode; few = h.few }
delivers None f s h = record { mode = tt; few = h.few }

homes : (b : Bool) (v : Value) (f : Frame) (s : Seen) → Plain s → Plain (leaves_home b v f s)
homes true v f s h = record { mode = tt; few = h.few }
homes false v f s h = record { mode = tt; few = h.few }

performs : (i : Instruction) (f : Frame) (s : Seen) → Plain s → Plain (performed i f s)
performs (instruction.PushConstant c) f s h = record { mode = h.mode; few = h.few }
performs instruction.PushSelf f s h = record { mode = h.mode; few = h.few }
performs (instruction.PushVariable v) f s h = record { mode = h.mode; few = h.few }
performs (instruction.Store place) f s h = stores place f s h
performs instruction.Pop f s h = record { mode = h.mode; few = h.few }
performs instruction.Dup f s h = record { mode = h.mode; few = h.few }
performs (instruction.Send selector count) f s h = record { mode = tt; few = few_taken count s }
performs (instruction.SuperSend selector count) f s h = record { mode = tt; few = few_taken count s }
performs (instruction.MakeBlock code) f s h =
    delivers (if_room 2 (length s.memory.store.objects) s.memory) f (with_memory s (closure_made block_class (closure_of code f) s.memory)) (record { mode = h.mode; few = h.few })
performs instruction.MethodReturn f s h = record { mode = tt; few = h.few }
performs instruction.HomeReturn f s h = homes (stands_in f.home (value_popped s.stack).acts) (top_value s.stack) f (operand_dropped s) (record { mode = h.mode; few = h.few })
performs instruction.BlockEnd f s h = record { mode = tt; few = h.few }

next_performs : (o : Option Instruction) (f : Frame) (s : Seen) → Plain s → Plain (next_performed o f s)
next_performs (Some i) f s h = performs i f s h
next_performs None f s h = record { mode = tt; few = h.few }

instructs_at : (o : Option Activation) (s : Seen) → Plain s → Plain (instructed_at o s)
instructs_at (Some (act.Body f)) s h = next_performs (slice_get (code_at s.plan.codes f.code).instructions f.position) f (counted s) (record { mode = h.mode; few = h.few })
instructs_at o s h = h

pub instructs : (s : Seen) → Plain s → Plain (instructed s)
instructs s h = instructs_at (top_kept s.stack) s h
