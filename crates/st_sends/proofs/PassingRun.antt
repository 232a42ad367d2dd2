-- Sends fit their selectors: instructions and a whole run of the flat machine.
use Rattle.std.proofs.Common.{◌≡◌, ℕ, zero, suc, ◌+◌, length, slice_get, List, [], ◌∷◌, Option, Some, None, Bool, true, false, refl, sym, ◌∙◌, subst, arith}
use Rattle.object_heap.specs.declared.value.Value.{Value}
use Rattle.st_code.specs.Compiled.{Compiled, compile_of}
use Rattle.st_code.specs.Program.{Program, Initializer}
use Rattle.st_code.specs.declared.instruction.Instruction.{Instruction}
use Rattle.st_code.specs.declared.instruction.Instruction.TheVariants as instruction
use Rattle.st_code.specs.declared.instruction.Variable.{Variable}
use Rattle.st_code.specs.declared.instruction.Variable.TheVariants.{Own, Scope, Instance, ClassInstance, Shared}
use Rattle.st_rules.specs.Ends.{initializer_opening}
use Rattle.st_rules.specs.Flat.{FlatBody, flat_number, code_at, last_operand, but_last, operands_taken, flat_store, flat_leaves, flat_instruction, flat_next, instruction_at, greatest_width}
use Rattle.st_rules.specs.Flattened.{flat_of}
use Rattle.st_rules.specs.Machine.{Act, Run, Settle, Begin, Over, Stuck, Bodies, marks}
use Rattle.st_rules.specs.Objects.{AllIn}
use Rattle.st_rules.specs.Runs.{first_state, kept_value}
use Rattle.st_rules.specs.State.{State, Answer, Go, Stop, BodyMark, stands}
use Rattle.st_rules.specs.Turns.{Top, On, Ended, open_next, top_step, top_iter, opened_run}
use Rattle.st_sends.specs.Arguments.{Takes, SendTakes, KnowsSelectors}
use Rattle.st_sends.specs.SendsFit.{ActsFit, MachFits, TopFits, SendsFit}
use Rattle.st_sends.proofs.PassingMachine.{used_fits, open_fits, begin_fits, settle_fits}

in_list : (P : Instruction → Type 0) (is : List Instruction) (n : ℕ) (i : Instruction) → AllIn P is → slice_get is n ≡ Some i → P i
in_list P [] n i h e = let none : ⊥ = grind (arith, e) in absurd none
in_list P (j ∷ is) zero i h e = subst P (same j i e) h.0
  where
    same : (a b : Instruction) → Some a ≡ Some b → a ≡ b
    same a b e = cc
in_list P (j ∷ is) (suc n) i h e = in_list P is n i h.1 e

-- so many operands are taken
taken_size : (n : ℕ) (ops args : List Value) → length (operands_taken n ops args).args ≡ n + length args
taken_size zero ops args = omega arith
taken_size (suc n) ops args = let e = taken_size n (but_last ops) (last_operand ops ∷ args) in omega (arith, e)

module _ (p : Program) (knows : KnowsSelectors p) where
  abbrev F : Bodies FlatBody
  F = flat_of p

  abbrev codes : List Compiled
  codes = compile_of p

  abbrev room : ℕ
  room = greatest_width (compile_of p)

  module _ (x : FlatBody) (acts : List (Act FlatBody)) (st : State) (r : ActsFit p acts) where
    store_fits : (place : Variable) (v : Value) → MachFits p (flat_store p codes room place v x acts st)
    store_fits (Own index) v = r
    store_fits (Scope up index) v = r
    store_fits (Instance index) v = r
    store_fits (ClassInstance index) v = r
    store_fits (Shared index) v = r

    leaves_fits : (home : Bool) (v : Value) → MachFits p (flat_leaves p codes room home v (record x { operands = but_last x.operands }) acts st)
    leaves_fits true v = (tt, r)
    leaves_fits false v = (tt, (tt, r))

    takes : (selector count : ℕ) → Takes p selector count → Takes p selector (length (operands_taken count x.operands []).args)
    takes selector count t = let e : length (operands_taken count x.operands []).args ≡ count = taken_size count x.operands [] ∙ omega arith in subst (Takes p selector) (sym e) t

    instruction_fits : (i : Instruction) → SendTakes p i → MachFits p (flat_instruction p codes room i x acts st)
    instruction_fits (instruction.PushConstant c) t = r
    instruction_fits instruction.PushSelf t = r
    instruction_fits (instruction.PushVariable v) t = r
    instruction_fits (instruction.Store v) t = store_fits v (last_operand x.operands)
    instruction_fits instruction.Pop t = r
    instruction_fits instruction.Dup t = r
    instruction_fits (instruction.Send selector count) t = (takes selector count t, (tt, r))
    instruction_fits (instruction.SuperSend selector count) t = (takes selector count t, (tt, r))
    instruction_fits (instruction.MakeBlock code) t = used_fits p 2 st _ _ (tt, r) (λ c. r)
    instruction_fits instruction.MethodReturn t = r
    instruction_fits instruction.HomeReturn t = leaves_fits (stands x.home (BodyMark x.own ∷ marks flat_number acts)) (last_operand x.operands)
    instruction_fits instruction.BlockEnd t = r

    next_fits : (o : Option Instruction) → ((i : Instruction) → o ≡ Some i → SendTakes p i) → MachFits p (flat_next p codes room o x acts st)
    next_fits None t = r
    next_fits (Some i) t = instruction_fits i (t i refl)

    sends_at : (i : Instruction) → instruction_at codes x ≡ Some i → SendTakes p i
    unfolding instruction_at
    sends_at i e = in_list (SendTakes p) (code_at codes x.code).instructions x.position i (knows.sends x.code) e

  -- ---- a run

  opened_fits : (xs : List Initializer) (st : State) → TopFits p (open_next F p xs st)
  opened_fits [] st = tt
  opened_fits (x ∷ xs) st = open_fits p (initializer_opening p x st.next) [] st tt

  top_fits : (t : Top FlatBody) → TopFits p t → TopFits p (top_step F p t)
  top_fits (On target xs (Run x acts st)) h = next_fits x acts st h (instruction_at codes x) (sends_at x acts st h)
  top_fits (On target xs (Settle o acts st)) h = settle_fits p o acts st h
  top_fits (On target xs (Begin u acts st)) h = begin_fits p u acts st h.1 h.0
  top_fits (On target xs (Over (Answer w) st)) h = opened_fits xs (kept_value target w st)
  top_fits (On target xs (Over (Go g w) st)) h = tt
  top_fits (On target xs (Over (Stop l) st)) h = tt
  top_fits (On target xs (Stuck st)) h = tt
  top_fits (Ended e st) h = tt

  from_fits : (n : ℕ) (t : Top FlatBody) → TopFits p t → TopFits p (top_iter F p n t)
  from_fits zero t h = h
  from_fits (suc n) t h = from_fits n (top_step F p t) (top_fits t h)

pub sends_fit : SendsFit
sends_fit p knows n = from_fits p knows n (opened_run (flat_of p) p) (opened_fits p knows p.initializers (first_state p))
