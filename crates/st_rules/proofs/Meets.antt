-- Two machine states that come together, and how an outcome of the rules is followed by the machine.
use Rattle.std.proofs.Common.{◌≡◌, ℕ, zero, suc, ◌+◌, List, [], ◌∷◌, ◌++◌, length, Option, Some, None, refl, sym, ap, ◌∙◌, arith, eq-eqb, nat_eq, if◌then◌else◌}
use Rattle.object_heap.specs.declared.value.Value.{Value}
use Rattle.object_heap.specs.declared.value.Value.TheVariants.{Nil}
use Rattle.st_code.specs.Program.{Program, Kind, InMethod, InBlock, InInitializer}
use Rattle.st_code.specs.Code.{Instr, end_code, empty_code}
use Rattle.st_rules.specs.State.{State, Limit, Outcome, Answer, Go, Stop, Home, Turn, Frame, Env}
use Rattle.st_rules.specs.Ends.{Result, Yields, NoIndex, charged, handle, then_value, ended, body_value, body_end, left_end, turn_end, outer_end, action_end, onto}
use Rattle.st_rules.specs.Machine.{Act, BodyAct, Leaving, ActionOff, HandlerRun, OuterAct, Mach, Run, Settle, marks, step, iter}
use Rattle.st_rules.specs.Scoped.{ScopedBody, scoped_body, scoped_number, scoped, Takes, taken}

abbrev pub Acts : Type 0
Acts = List (Act ScopedBody)

abbrev pub Machine : Type 0
Machine = Mach ScopedBody

abbrev pub next_step : Program → Machine → Machine
next_step p m = step (scoped p) p m

abbrev pub steps : Program → ℕ → Machine → Machine
steps p n m = iter (scoped p) p n m

abbrev pub body : Frame → Env → List Value → List Instr → Act ScopedBody
body f env operands rest = BodyAct (scoped_body f env operands rest)

abbrev pub running : Frame → Env → List Value → List Instr → Acts → State → Machine
running f env operands rest acts st = Run (scoped_body f env operands rest) acts st

module _ (p : Program) where
  pub steps_add : (j k : ℕ) (m : Machine) → steps p (j + k) m ≡ steps p k (steps p j m)
  steps_add zero k m = let e : 0 + k ≡ k = omega arith in ap (λ n. steps p n m) e
  steps_add (suc j) k m = let e : suc j + k ≡ suc (j + k) = omega arith in ap (λ n. steps p n m) e ∙ steps_add j k (next_step p m)

  pub steps_swap : (j k : ℕ) (m : Machine) → steps p k (steps p j m) ≡ steps p j (steps p k m)
  steps_swap j k m =
      let e : j + k ≡ k + j = omega arith in
      sym (steps_add j k m) ∙ ap (λ n. steps p n m) e ∙ steps_add k j m

  -- the states come together after some steps of each
  pub record Meets (a b : Machine) : Type 0 where
    pub left : ℕ
    pub right : ℕ
    pub same : steps p left a ≡ steps p right b

  pub meets_itself : (a : Machine) → Meets a a
  meets_itself a = record { left = 0; right = 0; same = refl }

  pub trans : {a b c : Machine} → Meets a b → Meets b c → Meets a c
  trans {a} {b} {c} x y =
      record {
        left = x.left + y.left;
        right = y.right + x.right;
        same =
            steps_add x.left y.left a
            ∙ ap (steps p y.left) x.same
            ∙ steps_swap x.right y.left b
            ∙ ap (steps p x.right) y.same
            ∙ sym (steps_add y.right x.right c);
      }

  -- one step of the first
  pub steps_to : (a : Machine) {b : Machine} → Meets (next_step p a) b → Meets a b
  steps_to a x = record { left = suc x.left; right = x.right; same = x.same }

  -- one step of each gives the same state
  pub alike : (a b : Machine) → next_step p a ≡ next_step p b → Meets a b
  alike a b e = record { left = 1; right = 1; same = e }

  -- the machine at m follows an outcome of the rules to the activations acts
  abbrev pub Follows : Machine → Result → Acts → Type 0
  Follows m (Yields o st) acts = Meets m (Settle o acts st)
  Follows m NoIndex acts = Unit {0}

  pub after : {a b : Machine} → Meets a b → (r : Result) (acts : Acts) → Follows b r acts → Follows a r acts
  after x (Yields o st) acts f = trans x f
  after x NoIndex acts f = tt

  pub step_first : (a : Machine) (r : Result) (acts : Acts) → Follows (next_step p a) r acts → Follows a r acts
  step_first a r acts f = after (steps_to a (meets_itself (next_step p a))) r acts f

  -- a charge
  pub charge_law : (o : Option State) (l : Limit) (acts : Acts) (st : State) (m : State → Machine) (k : State → Result) → ((st1 : State) → Follows (m st1) (k st1) acts) → Follows (charged o (Settle (Stop l) acts st) m) (charged o (Yields (Stop l) st) k) acts
  charge_law None l acts st m k h = meets_itself _
  charge_law (Some st1) l acts st m k h = h st1

  -- what is done with each outcome
  pub handle_law : (m : Machine) (r : Result) (inner outer : Acts) (k : Outcome → State → Result) → Follows m r inner → ((o : Outcome) (st : State) → Follows (Settle o inner st) (k o st) outer) → Follows m (handle r k) outer
  handle_law m (Yields o st) inner outer k f h = after f (k o st) outer (h o st)
  handle_law m NoIndex inner outer k f h = tt

  -- what is done with a value in a body, where any other outcome goes on
  pub value_law : (m : Machine) (r : Result) (f : Frame) (env : Env) (ops ops' : List Value) (rest rest' : List Instr) (acts : Acts) (k : Value → State → Result) → Follows m r (body f env ops rest ∷ acts) → ((v : Value) (st : State) → Follows (running f env (v ∷ ops) rest acts st) (k v st) (body f env ops' rest' ∷ acts)) → Follows m (then_value r k) (body f env ops' rest' ∷ acts)
  value_law m (Yields (Answer v) st) f env ops ops' rest rest' acts k x h = after (trans x (steps_to _ (meets_itself _))) (k v st) _ (h v st)
  value_law m (Yields (Go t v) st) f env ops ops' rest rest' acts k x h = trans x (alike _ _ refl)
  value_law m (Yields (Stop l) st) f env ops ops' rest rest' acts k x h = trans x (alike _ _ refl)
  value_law m NoIndex f env ops ops' rest rest' acts k x h = tt

  -- ---- what activations make of an outcome

  pub turn_end_law : (n : ℕ) (t : Turn) (o : Outcome) (acts : Acts) (st : State) → Meets (Settle o (HandlerRun n t ∷ acts) st) (Settle (turn_end t (marks scoped_number acts) o) acts (ended n (turn_end t (marks scoped_number acts) o) st))
  turn_end_law n t (Answer v) acts st = steps_to _ (meets_itself _)
  turn_end_law n t (Go g v) acts st = steps_to _ (meets_itself _)
  turn_end_law n t (Stop l) acts st = alike _ _ refl

  pub outer_end_law : (n : ℕ) (o : Outcome) (acts : Acts) (st : State) → Meets (Settle o (OuterAct n ∷ acts) st) (Settle (outer_end n o) acts (ended n (outer_end n o) st))
  outer_end_law n (Answer v) acts st = steps_to _ (meets_itself _)
  outer_end_law n (Go g v) acts st = steps_to _ (meets_itself _)
  outer_end_law n (Stop l) acts st = alike _ _ refl

  pub action_end_law : (n : ℕ) (held o : Outcome) (acts : Acts) (st : State) → Meets (Settle o (ActionOff n held ∷ acts) st) (Settle (action_end held o) acts (ended n (action_end held o) st))
  action_end_law n held (Answer v) acts st = steps_to _ (meets_itself _)
  action_end_law n held (Go g v) acts st = steps_to _ (meets_itself _)
  action_end_law n held (Stop l) acts st = alike _ _ refl

  -- an unwinding to the body's own number is its value
  pub own_home : (f : Frame) (env : Env) (ops : List Value) (rest : List Instr) (v : Value) (acts : Acts) (st : State) → Meets (Settle (Answer v) acts st) (Settle (Go (Home f.own) v) (body f env ops rest ∷ acts) st)
  own_home f env ops rest v acts st =
      let e : (Settle (if nat_eq f.own f.own then Answer v else Go (Home f.own) v) acts st) ≡ Settle (Answer v) acts st = ap (λ b. Settle (if b then Answer v else Go (Home f.own) v) acts st) (eq-eqb f.own f.own refl) in
      record { left = 0; right = 1; same = sym e }

  pub left_end_law : (f : Frame) (env : Env) (ops ops' : List Value) (rest rest' : List Instr) (acts : Acts) (o : Outcome) (st : State) → Meets (Settle o (Leaving (scoped_body f env ops rest) ∷ acts) st) (Settle (left_end f o) (body f env ops' rest' ∷ acts) st)
  left_end_law f env ops ops' rest rest' acts (Answer v) st = steps_to _ (own_home f env ops' rest' v acts st)
  left_end_law f env ops ops' rest rest' acts (Go t v) st = alike _ _ refl
  left_end_law f env ops ops' rest rest' acts (Stop l) st = alike _ _ refl

  ended_law : (b : Kind) (f : Frame) (env : Env) (v : Value) (acts : Acts) (st : State) → Meets (running f env (v ∷ []) (end_code b) acts st) (Settle (Answer (body_value b f v)) acts st)
  ended_law InMethod f env v acts st = steps_to _ (steps_to _ (steps_to _ (meets_itself _)))
  ended_law InBlock f env v acts st = steps_to _ (meets_itself _)
  ended_law InInitializer f env v acts st = steps_to _ (meets_itself _)

  pub body_end_law : (o : Outcome) (f : Frame) (env : Env) (acts : Acts) (st : State) → Meets (Settle o (body f env [] (end_code f.kind) ∷ acts) st) (Settle (body_end f o) acts st)
  body_end_law (Answer v) f env acts st = steps_to _ (ended_law f.kind f env v acts st)
  body_end_law (Go t v) f env acts st = steps_to _ (meets_itself _)
  body_end_law (Stop l) f env acts st = alike _ _ refl

  pub empty_law : (b : Kind) (f : Frame) (env : Env) (acts : Acts) (st : State) → Meets (running f env [] (empty_code b) acts st) (Settle (Answer Nil) (body f env [] (end_code b) ∷ acts) st)
  empty_law InMethod f env acts st = record { left = 2; right = 4; same = refl }
  empty_law InBlock f env acts st = record { left = 2; right = 2; same = refl }
  empty_law InInitializer f env acts st = record { left = 2; right = 2; same = refl }

  -- a value that stands is as if it had just been answered
  pub stands_law : (f : Frame) (env : Env) (v : Value) (ops : List Value) (rest : List Instr) (acts : Acts) (st : State) → Meets (running f env (v ∷ ops) rest acts st) (Settle (Answer v) (body f env ops rest ∷ acts) st)
  stands_law f env v ops rest acts st = record { left = 0; right = 1; same = refl }

pub taken_lem : (ws ops vs : List Value) → taken (length ws) (ws ++ ops) vs ≡ Takes (onto ws vs) ops
taken_lem [] ops vs = refl
taken_lem (w ∷ ws) ops vs = taken_lem ws ops (w ∷ vs)
