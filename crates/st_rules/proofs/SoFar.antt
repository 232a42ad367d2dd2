-- What a machine has written at a moment is where the run's Transcript begins.
use Rattle.std.proofs.Common.{◌≡◌, ℕ, zero, suc, ◌+◌, List, [], ◌∷◌, slice_set, Option, Some, None, Bool, true, false, refl, sym, ap, ◌∙◌, subst, arith}
use Rattle.object_heap.specs.declared.value.Value.{Value}
use Rattle.st_code.specs.declared.instruction.Variable.{Variable}
use Rattle.st_code.specs.declared.instruction.Variable.TheVariants.{Own, Scope, Instance, ClassInstance, Shared as SharedVariable}
use Rattle.st_code.specs.declared.instruction.Instruction.{Instruction}
use Rattle.st_code.specs.declared.instruction.Instruction.TheVariants as instruction
use Rattle.st_code.specs.Texts.{Text}
use Rattle.st_code.specs.Program.{Program, Place, Scoped, Slot, ClassSlot, Shared}
use Rattle.st_code.specs.Code.{Instr, PushConstant, PushSelf, Pop, Dup, PushVariable, Store as StoreVariable, SendMessage, SendSuper, MakeBlock, MethodReturn, HomeReturn, BlockEnd}
use Rattle.st_code.specs.Compiled.{Compiled, compile_of}
use Rattle.st_rules.specs.State.{State, Env, BodyMark, Frame, stands}
use Rattle.st_rules.specs.Ends.{write_place, first_class_slot}
use Rattle.st_rules.specs.Runs.{Ending}
use Rattle.st_rules.specs.Machine.{Act, Bodies, marks}
use Rattle.st_rules.specs.Scoped.{ScopedBody, scoped_number, scoped, Taken, TooFew, Takes, taken, sent, super_sent, leaves, instr, next_instr}
use Rattle.st_rules.specs.Flat.{FlatBody, flat_number, last_operand, flat_store, flat_leaves, flat_instruction, flat_next, instruction_at, but_last, with_operands, greatest_width}
use Rattle.st_rules.specs.Turns.{Top, On, Ended, opened_run, top_step, top_iter}
use Rattle.st_rules.specs.Flattened.{flat_of}
use Rattle.st_rules.specs.StepLimits.{Begins}
use Rattle.st_rules.specs.SoFar.{state_of, written, ScopedSoFar, FlatSoFar}
use Rattle.st_rules.proofs.Transcripts.{begins_itself, begins_more}
use Rattle.st_rules.proofs.FollowedRun.{follows_the_rules}
use Rattle.st_rules.proofs.FlatTop.{flat_follows_the_rules}
use Rattle.st_rules.proofs.Writing.{Of, Told, TopTold, used_told, iter_told}

-- it holds with another value in a variable
module _ (p : Program) (P : Text → List Value → Type 0) (other : (t : Text) (vs : List Value) (i : ℕ) (v : Value) → P t vs → P t (slice_set vs i v)) where
  -- ---- instructions of the scoped machine

  sent_told : (selector : ℕ) (x : Taken) (f : Frame) (env : Env) (rest : List Instr) (acts : List (Act ScopedBody)) (st : State) → Of P st → Told P (sent p selector x f env rest acts st)
  sent_told selector TooFew f env rest acts st h = h
  sent_told selector (Takes args []) f env rest acts st h = h
  sent_told selector (Takes args (r ∷ ops)) f env rest acts st h = h

  super_told : (selector : ℕ) (x : Taken) (f : Frame) (env : Env) (rest : List Instr) (acts : List (Act ScopedBody)) (st : State) → Of P st → Told P (super_sent p selector x f env rest acts st)
  super_told selector TooFew f env rest acts st h = h
  super_told selector (Takes args []) f env rest acts st h = h
  super_told selector (Takes args (r ∷ ops)) f env rest acts st h = h

  leaves_told : (b : Bool) (v : Value) (f : Frame) (env : Env) (ops : List Value) (rest : List Instr) (acts : List (Act ScopedBody)) (st : State) → Of P st → Told P (leaves p b v f env ops rest acts st)
  leaves_told true v f env ops rest acts st h = h
  leaves_told false v f env ops rest acts st h = h

  written_of : (f : Frame) (st : State) (place : Place) (v : Value) → Of P st → Of P (write_place p f st place v)
  unfolding write_place
  written_of f st (Scoped up index) v h = h
  written_of f st (Slot index) v h = h
  written_of f st (ClassSlot index) v h = other st.transcript st.variables (first_class_slot p f.self + index) v h
  written_of f st (Shared index) v h = other st.transcript st.variables index v h

  instr_told : (i : Instr) (f : Frame) (env : Env) (ops : List Value) (rest : List Instr) (acts : List (Act ScopedBody)) (st : State) → Of P st → Told P (instr p i f env ops rest acts st)
  instr_told (PushConstant v) f env ops rest acts st h = h
  instr_told PushSelf f env ops rest acts st h = h
  instr_told (PushVariable place) f env ops rest acts st h = h
  instr_told (StoreVariable place) f env (v ∷ ops) rest acts st h = written_of f st place v h
  instr_told (StoreVariable place) f env [] rest acts st h = h
  instr_told Pop f env (v ∷ ops) rest acts st h = h
  instr_told Pop f env [] rest acts st h = h
  instr_told Dup f env (v ∷ ops) rest acts st h = h
  instr_told Dup f env [] rest acts st h = h
  instr_told (MakeBlock code) f env ops rest acts st h = used_told p P 2 st _ _ h h (λ st1 h1. h1)
  instr_told (SendMessage selector count) f env ops rest acts st h = sent_told selector (taken count ops []) f env rest acts st h
  instr_told (SendSuper selector count) f env ops rest acts st h = super_told selector (taken count ops []) f env rest acts st h
  instr_told MethodReturn f env (v ∷ ops) rest acts st h = h
  instr_told MethodReturn f env [] rest acts st h = h
  instr_told HomeReturn f env (v ∷ ops) rest acts st h = leaves_told (stands f.home (BodyMark f.own ∷ marks scoped_number acts)) v f env ops rest acts st h
  instr_told HomeReturn f env [] rest acts st h = h
  instr_told BlockEnd f env (v ∷ ops) rest acts st h = h
  instr_told BlockEnd f env [] rest acts st h = h

  next_told : (rest : List Instr) (f : Frame) (env : Env) (ops : List Value) (acts : List (Act ScopedBody)) (st : State) → Of P st → Told P (next_instr p f env ops rest acts st)
  next_told [] f env ops acts st h = h
  next_told (i ∷ rest) f env ops acts st h = instr_told i f env ops rest acts st h

  pub scoped_told : (x : ScopedBody) (acts : List (Act ScopedBody)) (st : State) → Of P st → Told P ((scoped p).instruct x acts st)
  scoped_told x acts st h = next_told x.rest x.frame x.env x.operands acts st h

  -- ---- instructions of the flat machine

  abbrev codes : List Compiled
  codes = compile_of p

  abbrev room : ℕ
  room = greatest_width (compile_of p)

  store_told : (place : Variable) (v : Value) (x : FlatBody) (acts : List (Act FlatBody)) (st : State) → Of P st → Told P (flat_store p codes room place v x acts st)
  store_told (Own index) v x acts st h = h
  store_told (Scope up index) v x acts st h = h
  store_told (Instance index) v x acts st h = h
  store_told (ClassInstance index) v x acts st h = other st.transcript st.variables (first_class_slot p x.self + index) v h
  store_told (SharedVariable index) v x acts st h = other st.transcript st.variables index v h

  flat_leaves_told : (b : Bool) (v : Value) (x : FlatBody) (acts : List (Act FlatBody)) (st : State) → Of P st → Told P (flat_leaves p codes room b v x acts st)
  flat_leaves_told true v x acts st h = h
  flat_leaves_told false v x acts st h = h

  instruction_told : (i : Instruction) (x : FlatBody) (acts : List (Act FlatBody)) (st : State) → Of P st → Told P (flat_instruction p codes room i x acts st)
  instruction_told (instruction.PushConstant c) x acts st h = h
  instruction_told instruction.PushSelf x acts st h = h
  instruction_told (instruction.PushVariable v) x acts st h = h
  instruction_told (instruction.Store v) x acts st h = store_told v (last_operand x.operands) x acts st h
  instruction_told instruction.Pop x acts st h = h
  instruction_told instruction.Dup x acts st h = h
  instruction_told (instruction.Send selector count) x acts st h = h
  instruction_told (instruction.SuperSend selector count) x acts st h = h
  instruction_told (instruction.MakeBlock code) x acts st h = used_told p P 2 st _ _ h h (λ st1 h1. h1)
  instruction_told instruction.MethodReturn x acts st h = h
  instruction_told instruction.HomeReturn x acts st h = flat_leaves_told (stands x.home (BodyMark x.own ∷ marks flat_number acts)) (last_operand x.operands) (with_operands (but_last x.operands) x) acts st h
  instruction_told instruction.BlockEnd x acts st h = h

  fetched_told : (o : Option Instruction) (x : FlatBody) (acts : List (Act FlatBody)) (st : State) → Of P st → Told P (flat_next p codes room o x acts st)
  fetched_told None x acts st h = h
  fetched_told (Some i) x acts st h = instruction_told i x acts st h

  pub flat_told : (x : FlatBody) (acts : List (Act FlatBody)) (st : State) → Of P st → Told P ((flat_of p).instruct x acts st)
  flat_told x acts st h = fetched_told (instruction_at codes x) x acts st h

-- ---- so far

module _ {B : Type 0} (b : Bodies B) (p : Program) where
  add : (j k : ℕ) (x : Top B) → top_iter b p (j + k) x ≡ top_iter b p k (top_iter b p j x)
  add zero k x = let e : 0 + k ≡ k = omega arith in ap (λ n. top_iter b p n x) e
  add (suc j) k x = let e : suc j + k ≡ suc (j + k) = omega arith in ap (λ n. top_iter b p n x) e ∙ add j k (top_step b p x)

  stays : (n : ℕ) (e : Ending) (st : State) → top_iter b p n (Ended e st) ≡ Ended e st
  stays zero e st = refl
  stays (suc n) e st = stays n e st

  -- a Transcript that begins with a text
  abbrev Since : Text → Text → List Value → Type 0
  Since t text vs = Begins t text

  told_itself : (x : Top B) → TopTold (Since (written x)) x
  told_itself (On target xs m) = begins_itself (state_of m).transcript
  told_itself (Ended e st) = begins_itself st.transcript

  -- before and behind the end
  so_far : ((t : Text) (x : B) (acts : List (Act B)) (st : State) → Of (Since t) st → Told (Since t) (b.instruct x acts st)) → (n m : ℕ) (x : Top B) (e : Ending) (st : State) → top_iter b p m x ≡ Ended e st → Begins (written (top_iter b p n x)) st.transcript
  so_far told n m x e st h =
      let swap : n + m ≡ m + n = omega arith in
      let there : top_iter b p m (top_iter b p n x) ≡ Ended e st = sym (add n m x) ∙ ap (λ k. top_iter b p k x) swap ∙ add m n x ∙ ap (top_iter b p n) h ∙ stays n e st in
      let t = written (top_iter b p n x) in
      subst (λ y. TopTold (Since t) y) there (iter_told b p (Since t) (λ a c vs i. begins_more t a c i) (λ a vs i v h. h) (told t) m (top_iter b p n x) (told_itself (top_iter b p n x)))

pub scoped_so_far : ScopedSoFar
scoped_so_far p e st r n =
    let m = follows_the_rules p e st r in
    so_far (scoped p) p (λ t. scoped_told p (λ text vs. Begins t text) (λ a vs i v h. h)) n m.0 (opened_run (scoped p) p) e st m.1

pub flat_so_far : FlatSoFar
flat_so_far p ok e st r n =
    let m = flat_follows_the_rules p ok e st r in
    subst (λ (text : List ℕ). Begins (written (top_iter (flat_of p) p n (opened_run (flat_of p) p))) text) (ap (λ (s : State). s.transcript) m.1.alike)
    (so_far (flat_of p) p (λ t. flat_told p (λ text vs. Begins t text) (λ a vs i v h. h)) n m.0 (opened_run (flat_of p) p) e m.1.state m.1.leads)
