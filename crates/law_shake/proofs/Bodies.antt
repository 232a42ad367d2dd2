-- Bodies under a renaming: what is opened, variables, code and instructions.
use Rattle.std.proofs.Common.{◌≡◌, ℕ, zero, suc, ◌+◌, ◌≤◌, List, [], ◌∷◌, map, length, get_or, slice_set, Option, Some, None, Bool, true, false, refl, sym, ap, ◌∙◌}
use Rattle.std.proofs.lemmas.List.{length-map, map-append}
use Rattle.object_heap.specs.declared.value.Value.{Value}
use Rattle.object_heap.specs.declared.value.Value.TheVariants.{Nil, Class, Object}
use Rattle.object_heap.specs.declared.value.Closure.{Closure}
use Rattle.object_heap.specs.declared.trouble.Trouble.TheVariants.{HomeHasReturned}
use Rattle.object_heap.specs.Store.{Store, Scope, no_scope, scope_at, variable_at, variable_written, with_variable, scope_added, block_added}
use Rattle.st_code.specs.Program.{Program, Body, ClassRow, Place, Scoped, Slot, ClassSlot, Shared, Tree, Constant, Self, Variable, Assign, Block, Send, SuperSend, Cascade, SuperCascade, Trees, no_trees, more_trees, Messages, no_messages, more_messages, Statement, Plain, Return, Kind, InMethod, InBlock, InInitializer, body_at}
use Rattle.st_code.specs.BuiltIns.{block_class}
use Rattle.st_code.specs.Code.{Instr, PushConstant, PushSelf, Pop, Dup, PushVariable, Store as StoreVariable, SendMessage, SendSuper, MakeBlock, MethodReturn, HomeReturn, BlockEnd, return_of, count_of, code, code_args, code_messages, dup_for, pop_for, end_code, code_on, code_body}
use Rattle.st_collections.specs.Actions.{next_object}
use Rattle.st_rules.specs.State.{State, Env, Frame, BodyMark, CellLimit, with_store, used, stands, scope_up, scoped_variable, with_scoped_variable, first_variables, with_scope, scope_cells}
use Rattle.st_rules.specs.Ends.{charged, Opening, frame_of, with_opened, shared, first_class_slot, read_place, write_place, with_block, with_self_slot}
use Rattle.st_rules.specs.Machine.{Act, Leaving, Mach, Run, marks, stopped, open_act}
use Rattle.st_rules.specs.Scoped.{ScopedBody, scoped_body, scoped_number, scoped_opened, scoped, Taken, TooFew, Takes, taken, sent, super_sent, leaves, instr, next_instr, scoped_instruct}
use Rattle.law_shake.specs.Renaming as r
use Rattle.law_shake.specs.Renaming.{Renaming, object, ren, rens, ren_store, ren_scope, ren_state, ren_closure, ren_env, ren_frame, ren_body, ren_instr, ren_tree, ren_trees, ren_messages, ren_statement, ren_code, ren_act, ren_acts, ren_mach, ren_mark, IsRenamed}
use Rattle.law_shake.proofs.Spreading.{map_read, map_set}
use Rattle.law_shake.proofs.Lookups.{slot_ren, class_same}
use Rattle.law_shake.proofs.Rows.{slot_set_ren, next_ren, block_added_ren}
use Rattle.law_shake.proofs.Standing.{marks_ren, stands_ren, stood_ren, used_ren, first_variables_ren}
use Rattle.law_shake.proofs.Control.{fails}

module _ (x : Renaming) where
  -- ---- code

  abbrev I : List Instr → List Instr
  I is = map (ren_instr x) is

  count_ren : (args : Trees) → count_of (ren_trees x args) ≡ count_of args
  count_ren no_trees = refl
  count_ren (more_trees t row) = ap suc (count_ren row)

  dup_ren : (ms : Messages) (rest : List Instr) → dup_for (ren_messages x ms) (I rest) ≡ I (dup_for ms rest)
  dup_ren no_messages rest = refl
  dup_ren (more_messages selector args row) rest = refl

  pop_ren : (ms : Messages) (rest : List Instr) → pop_for (ren_messages x ms) (I rest) ≡ I (pop_for ms rest)
  pop_ren no_messages rest = refl
  pop_ren (more_messages selector args row) rest = refl

  mutual
    pub code_ren : (t : Tree) (rest : List Instr) → code (ren_tree x t) (I rest) ≡ I (code t rest)
    code_ren (Constant v) rest = refl
    code_ren Self rest = refl
    code_ren (Variable place) rest = refl
    code_ren (Assign place t) rest = code_ren t (StoreVariable place ∷ rest)
    code_ren (Block n) rest = refl
    code_ren (Send selector t args) rest =
        ap (λ n. code (ren_tree x t) (code_args (ren_trees x args) (SendMessage (x.symbol selector) n ∷ I rest))) (count_ren args)
        ∙ ap (code (ren_tree x t)) (args_ren args (SendMessage selector (count_of args) ∷ rest))
        ∙ code_ren t (code_args args (SendMessage selector (count_of args) ∷ rest))
    code_ren (SuperSend selector args) rest =
        ap (λ n. PushSelf ∷ code_args (ren_trees x args) (SendSuper (x.symbol selector) n ∷ I rest)) (count_ren args)
        ∙ ap (λ is. PushSelf ∷ is) (args_ren args (SendSuper selector (count_of args) ∷ rest))
    code_ren (Cascade t ms) rest = ap (code (ren_tree x t)) (messages_ren SendMessage (λ s n. refl) ms rest) ∙ code_ren t (code_messages SendMessage ms rest)
    code_ren (SuperCascade ms) rest = ap (λ is. PushSelf ∷ is) (messages_ren SendSuper (λ s n. refl) ms rest)

    args_ren : (args : Trees) (rest : List Instr) → code_args (ren_trees x args) (I rest) ≡ I (code_args args rest)
    args_ren no_trees rest = refl
    args_ren (more_trees t row) rest = ap (code (ren_tree x t)) (args_ren row rest) ∙ code_ren t (code_args row rest)

    messages_ren : (send : ℕ → ℕ → Instr) → ((s n : ℕ) → send (x.symbol s) n ≡ ren_instr x (send s n)) → (ms : Messages) (rest : List Instr) → code_messages send (ren_messages x ms) (I rest) ≡ I (code_messages send ms rest)
    messages_ren send h no_messages rest = refl
    messages_ren send h (more_messages selector args row) rest =
        ap (λ n. dup_for (ren_messages x row) (code_args (ren_trees x args) (send (x.symbol selector) n ∷ pop_for (ren_messages x row) (code_messages send (ren_messages x row) (I rest))))) (count_ren args)
        ∙ ap (λ i. dup_for (ren_messages x row) (code_args (ren_trees x args) (i ∷ pop_for (ren_messages x row) (code_messages send (ren_messages x row) (I rest))))) (h selector (count_of args))
        ∙ ap (λ is. dup_for (ren_messages x row) (code_args (ren_trees x args) (ren_instr x (send selector (count_of args)) ∷ pop_for (ren_messages x row) is))) (messages_ren send h row rest)
        ∙ ap (λ is. dup_for (ren_messages x row) (code_args (ren_trees x args) (ren_instr x (send selector (count_of args)) ∷ is))) (pop_ren row (code_messages send row rest))
        ∙ ap (dup_for (ren_messages x row)) (args_ren args (send selector (count_of args) ∷ pop_for row (code_messages send row rest)))
        ∙ dup_ren row (code_args args (send selector (count_of args) ∷ pop_for row (code_messages send row rest)))

  return_ren : (kind : Kind) → I (return_of kind ∷ []) ≡ return_of kind ∷ []
  return_ren InMethod = refl
  return_ren InBlock = refl
  return_ren InInitializer = refl

  end_ren : (kind : Kind) → I (end_code kind) ≡ end_code kind
  end_ren InMethod = refl
  end_ren InBlock = refl
  end_ren InInitializer = refl

  on_ren : (kind : Kind) (s : Statement) (row : List Statement) → code_on kind (ren_statement x s) (map (ren_statement x) row) ≡ I (code_on kind s row)
  on_ren kind (Return t) row = ap (code (ren_tree x t)) (sym (return_ren kind)) ∙ code_ren t (return_of kind ∷ [])
  on_ren kind (Plain t) [] = ap (code (ren_tree x t)) (sym (end_ren kind)) ∙ code_ren t (end_code kind)
  on_ren kind (Plain t) (u ∷ row) = ap (λ is. code (ren_tree x t) (Pop ∷ is)) (on_ren kind u row) ∙ code_ren t (Pop ∷ code_on kind u row)

  pub body_code_ren : (kind : Kind) (row : List Statement) → code_body kind (map (ren_statement x) row) ≡ I (code_body kind row)
  body_code_ren InMethod [] = refl
  body_code_ren InBlock [] = refl
  body_code_ren InInitializer [] = refl
  body_code_ren kind (s ∷ row) = on_ren kind s row

  -- ---- scopes

  outer_read : (ss : List Scope) (n : ℕ) → (get_or (map (ren_scope x) ss) n no_scope).outer ≡ (get_or ss n no_scope).outer
  outer_read [] n = refl
  outer_read (c ∷ ss) zero = refl
  outer_read (c ∷ ss) (suc n) = outer_read ss n

  variables_read : (ss : List Scope) (n : ℕ) → (get_or (map (ren_scope x) ss) n no_scope).variables ≡ rens x (get_or ss n no_scope).variables
  variables_read [] n = refl
  variables_read (c ∷ ss) zero = refl
  variables_read (c ∷ ss) (suc n) = variables_read ss n

  scopes_set : (ss : List Scope) (n i : ℕ) (v : Value) → slice_set (map (ren_scope x) ss) n (variable_written i (ren x v) (get_or (map (ren_scope x) ss) n no_scope)) ≡ map (ren_scope x) (slice_set ss n (variable_written i v (get_or ss n no_scope)))
  scopes_set [] n i v = refl
  scopes_set (c ∷ ss) zero i v = ap (λ vs. record { code = x.code c.code; outer = c.outer; variables = vs } ∷ map (ren_scope x) ss) (map_set (ren x) c.variables i v)
  scopes_set (c ∷ ss) (suc n) i v = ap (λ cs. ren_scope x c ∷ cs) (scopes_set ss n i v)

  scope_up_ren : (s : Store) (up : ℕ) (o : Option ℕ) → scope_up (ren_store x s) up o ≡ scope_up s up o
  unfolding scope_up
  scope_up_ren s zero o = refl
  scope_up_ren s (suc up) None = refl
  scope_up_ren s (suc up) (Some n) = ap (λ o. scope_up (ren_store x s) up o) (outer_read s.scopes n) ∙ scope_up_ren s up (scope_at n s).outer

  abbrev variable_of : Option ℕ → ℕ → Store → Value
  variable_of None index s = Nil
  variable_of (Some scope) index s = variable_at scope index s

  variable_ren : (s : Store) (o : Option ℕ) (i : ℕ) → variable_of o i (ren_store x s) ≡ ren x (variable_of o i s)
  variable_ren s None i = refl
  variable_ren s (Some n) i = ap (λ vs. get_or vs i Nil) (variables_read s.scopes n) ∙ map_read (ren x) (scope_at n s).variables i Nil

  scoped_ren : (s : Store) (o : Option ℕ) (up i : ℕ) → scoped_variable (ren_store x s) o up i ≡ ren x (scoped_variable s o up i)
  unfolding scoped_variable
  scoped_ren s o up i = ap (λ c. variable_of c i (ren_store x s)) (scope_up_ren s up o) ∙ variable_ren s (scope_up s up o) i

  abbrev set_variable_of : Option ℕ → ℕ → Value → Store → Store
  set_variable_of None index v s = s
  set_variable_of (Some scope) index v s = with_variable scope index v s

  set_variable_ren : (s : Store) (o : Option ℕ) (i : ℕ) (v : Value) → set_variable_of o i (ren x v) (ren_store x s) ≡ ren_store x (set_variable_of o i v s)
  set_variable_ren s None i v = refl
  set_variable_ren s (Some n) i v = ap (λ cs. record (ren_store x s) { scopes = cs }) (scopes_set s.scopes n i v)

  with_scoped_ren : (s : Store) (o : Option ℕ) (up i : ℕ) (v : Value) → with_scoped_variable (ren_store x s) o up i (ren x v) ≡ ren_store x (with_scoped_variable s o up i v)
  unfolding with_scoped_variable
  with_scoped_ren s o up i v = ap (λ c. set_variable_of c i (ren x v) (ren_store x s)) (scope_up_ren s up o) ∙ set_variable_ren s (scope_up s up o) i v

  self_slot_ren : (s : Store) (self : Value) (i : ℕ) (v : Value) → with_self_slot (ren x self) i (ren x v) (ren_store x s) ≡ ren_store x (with_self_slot self i v s)
  self_slot_ren s (Object n) i v = slot_set_ren x s n i v
  self_slot_ren s self i v = refl

  abbrev ren_taken : Taken → Taken
  ren_taken TooFew = TooFew
  ren_taken (Takes args operands) = Takes (rens x args) (rens x operands)

  taken_ren : (n : ℕ) (operands args : List Value) → taken n (rens x operands) (rens x args) ≡ ren_taken (taken n operands args)
  taken_ren zero operands args = refl
  taken_ren (suc n) [] args = refl
  taken_ren (suc n) (v ∷ operands) args = taken_ren n operands (v ∷ args)

  abbrev pub ren_opening : Opening → Opening
  ren_opening o = record o { code = x.code o.code; self = ren x o.self; class = ren x o.class; arguments = rens x o.arguments; env = ren_env x o.env }

module _ (x : Renaming) (q p : Program) (is : IsRenamed x q p) where
  abbrev M : Mach ScopedBody → Mach ScopedBody
  M m = ren_mach x m

  abbrev A : List (Act ScopedBody) → List (Act ScopedBody)
  A acts = ren_acts x acts

  abbrev T : State → State
  T st = ren_state x st

  -- ---- bodies that are opened

  opened_body_ren : (o : Opening) (s : Store) → scoped_opened p (ren_opening x o) (ren_store x s) ≡ ren_body x (scoped_opened q o s)
  opened_body_ren o s =
      ap (λ n. scoped_body (record (ren_frame x (frame_of o s)) { scope = Some n }) (ren_env x o.env) [] (code_body o.kind (body_at p (x.code o.code)).statements)) (length-map s.scopes (ren_scope x))
      ∙ ap (λ (b : Body). scoped_body (ren_frame x (frame_of o s)) (ren_env x o.env) [] (code_body o.kind b.statements)) (is.bodies o.code)
      ∙ ap (λ rest. scoped_body (ren_frame x (frame_of o s)) (ren_env x o.env) [] rest) (body_code_ren x o.kind (body_at q o.code).statements)

  opened_store_ren : (o : Opening) (s : Store) → with_opened p (ren_opening x o) (ren_store x s) ≡ ren_store x (with_opened q o s)
  unfolding with_opened with_scope
  opened_store_ren o s =
      ap (λ (b : Body). scope_added (record { code = x.code o.code; outer = o.outer; variables = first_variables b.captured (rens x o.arguments) }) (ren_store x s)) (is.bodies o.code)
      ∙ ap (λ vs. scope_added (record { code = x.code o.code; outer = o.outer; variables = vs }) (ren_store x s)) (first_variables_ren x (body_at q o.code).captured o.arguments)
      ∙ ap (λ cs. record (ren_store x s) { scopes = cs }) (sym (map-append (ren_scope x) s.scopes (record { code = o.code; outer = o.outer; variables = first_variables (body_at q o.code).captured o.arguments } ∷ [])))

  pub open_ren : (o : Opening) (acts : List (Act ScopedBody)) (st : State) → open_act (scoped p) p (ren_opening x o) (A acts) (T st) ≡ M (open_act (scoped q) q o acts st)
  unfolding scope_cells
  open_ren o acts st =
      stood_ren x q p is acts st _ _ _ (λ d n.
      let st1 = record st { depth = d; next = n } in
      ap (λ (b : Body). charged (used p (scope_cells b) (T st1)) (stopped CellLimit (A acts) (T st1)) (λ st2. Run (scoped_opened p (ren_opening x o) st2.store) (A acts) (with_store st2 (with_opened p (ren_opening x o) st2.store)))) (is.bodies o.code)
      ∙ used_ren x q p is (scope_cells (body_at q o.code)) st1 _ _ _ (λ c.
      ap (λ b. Run b (A acts) (with_store (T (record st1 { cells = c })) (with_opened p (ren_opening x o) (ren_store x st.store)))) (opened_body_ren o st.store)
      ∙ ap (λ s. Run (ren_body x (scoped_opened q o st.store)) (A acts) (with_store (T (record st1 { cells = c })) s)) (opened_store_ren o st.store)))

  -- ---- variables

  class_slot_ren : (v : Value) → first_class_slot p (ren x v) ≡ first_class_slot q v
  class_slot_ren (Class c) = ap (λ (row : ClassRow). row.class_slots) (class_same x q p is c)
  class_slot_ren v = refl

  shared_ren : (vs : List Value) (i : ℕ) → shared (rens x vs) i ≡ ren x (shared vs i)
  shared_ren vs i = map_read (ren x) vs i Nil

  read_ren : (f : Frame) (st : State) (place : Place) → read_place p (ren_frame x f) (T st) place ≡ ren x (read_place q f st place)
  unfolding read_place
  read_ren f st (Scoped up i) = scoped_ren x st.store f.scope up i
  read_ren f st (Slot i) = slot_ren x st.store f.self i
  read_ren f st (ClassSlot i) = ap (λ k. shared (rens x st.variables) (k + i)) (class_slot_ren f.self) ∙ shared_ren st.variables (first_class_slot q f.self + i)
  read_ren f st (Shared i) = shared_ren st.variables i

  write_ren : (f : Frame) (st : State) (place : Place) (v : Value) → write_place p (ren_frame x f) (T st) place (ren x v) ≡ T (write_place q f st place v)
  unfolding write_place
  write_ren f st (Scoped up i) v = ap (λ s. with_store (T st) s) (with_scoped_ren x st.store f.scope up i v)
  write_ren f st (Slot i) v = ap (λ s. with_store (T st) s) (self_slot_ren x st.store f.self i v)
  write_ren f st (ClassSlot i) v =
      ap (λ k. record (T st) { variables = slice_set (rens x st.variables) (k + i) (ren x v) }) (class_slot_ren f.self)
      ∙ ap (λ vs. record (T st) { variables = vs }) (map_set (ren x) st.variables (first_class_slot q f.self + i) v)
  write_ren f st (Shared i) v = ap (λ vs. record (T st) { variables = vs }) (map_set (ren x) st.variables i v)

  -- ---- instructions

  abbrev E : Env → Env
  E env = ren_env x env

  abbrev F : Frame → Frame
  F f = ren_frame x f

  abbrev Is : List Instr → List Instr
  Is rest = map (ren_instr x) rest

  sent_ren : (selector : ℕ) (t : Taken) (f : Frame) (env : Env) (rest : List Instr) (acts : List (Act ScopedBody)) (st : State) → sent p (x.symbol selector) (ren_taken x t) (F f) (E env) (Is rest) (A acts) (T st) ≡ M (sent q selector t f env rest acts st)
  sent_ren selector TooFew f env rest acts st = refl
  sent_ren selector (Takes args []) f env rest acts st = refl
  sent_ren selector (Takes args (v ∷ operands)) f env rest acts st = refl

  super_sent_ren : (selector : ℕ) (t : Taken) (f : Frame) (env : Env) (rest : List Instr) (acts : List (Act ScopedBody)) (st : State) → super_sent p (x.symbol selector) (ren_taken x t) (F f) (E env) (Is rest) (A acts) (T st) ≡ M (super_sent q selector t f env rest acts st)
  super_sent_ren selector TooFew f env rest acts st = refl
  super_sent_ren selector (Takes args []) f env rest acts st = refl
  super_sent_ren selector (Takes args (v ∷ operands)) f env rest acts st = refl

  leaves_ren : (b : Bool) (v : Value) (f : Frame) (env : Env) (operands : List Value) (rest : List Instr) (acts : List (Act ScopedBody)) (st : State) → leaves p b (ren x v) (F f) (E env) (rens x operands) (Is rest) (A acts) (T st) ≡ M (leaves q b v f env operands rest acts st)
  leaves_ren true v f env operands rest acts st = refl
  leaves_ren false v f env operands rest acts st = fails x q p is HomeHasReturned env (Leaving (scoped_body f env operands rest) ∷ acts) st

  instr_ren : (i : Instr) (f : Frame) (env : Env) (operands : List Value) (rest : List Instr) (acts : List (Act ScopedBody)) (st : State) → r.taken x.objects ≤ length st.store.objects → instr p (ren_instr x i) (F f) (E env) (rens x operands) (Is rest) (A acts) (T st) ≡ M (instr q i f env operands rest acts st)
  unfolding with_block
  instr_ren (PushConstant v) f env operands rest acts st room = refl
  instr_ren PushSelf f env operands rest acts st room = refl
  instr_ren (PushVariable place) f env operands rest acts st room = ap (λ v. Run (scoped_body (F f) (E env) (v ∷ rens x operands) (Is rest)) (A acts) (T st)) (read_ren f st place)
  instr_ren (StoreVariable place) f env [] rest acts st room = refl
  instr_ren (StoreVariable place) f env (v ∷ operands) rest acts st room = ap (λ s. Run (scoped_body (F f) (E env) (ren x v ∷ rens x operands) (Is rest)) (A acts) s) (write_ren f st place v)
  instr_ren Pop f env [] rest acts st room = refl
  instr_ren Pop f env (v ∷ operands) rest acts st room = refl
  instr_ren Dup f env [] rest acts st room = refl
  instr_ren Dup f env (v ∷ operands) rest acts st room = refl
  instr_ren (MakeBlock code) f env operands rest acts st room =
      used_ren x q p is 2 st _ _ _ (λ c.
      let st1 = record st { cells = c } in
      let made : Closure = record { code = code; class = f.class; receiver = f.self; scope = f.scope; home = f.home } in
      ap (λ v. Run (scoped_body (F f) (E env) (v ∷ rens x operands) (Is rest)) (A acts) (with_store (T st1) (block_added block_class (ren_closure x made) (ren_store x st.store)))) (next_ren x st.store room)
      ∙ ap (λ s. Run (scoped_body (F f) (E env) (ren x (next_object st.store) ∷ rens x operands) (Is rest)) (A acts) (with_store (T st1) s)) (block_added_ren x st.store room block_class made))
  instr_ren (SendMessage selector count) f env operands rest acts st room =
      ap (λ t. sent p (x.symbol selector) t (F f) (E env) (Is rest) (A acts) (T st)) (taken_ren x count operands []) ∙ sent_ren selector (taken count operands []) f env rest acts st
  instr_ren (SendSuper selector count) f env operands rest acts st room =
      ap (λ t. super_sent p (x.symbol selector) t (F f) (E env) (Is rest) (A acts) (T st)) (taken_ren x count operands []) ∙ super_sent_ren selector (taken count operands []) f env rest acts st
  instr_ren MethodReturn f env [] rest acts st room = refl
  instr_ren MethodReturn f env (v ∷ operands) rest acts st room = refl
  instr_ren HomeReturn f env [] rest acts st room = refl
  instr_ren HomeReturn f env (v ∷ operands) rest acts st room =
      ap (λ ms. leaves p (stands f.home (BodyMark f.own ∷ ms)) (ren x v) (F f) (E env) (rens x operands) (Is rest) (A acts) (T st)) (marks_ren x acts)
      ∙ ap (λ b. leaves p b (ren x v) (F f) (E env) (rens x operands) (Is rest) (A acts) (T st)) (stands_ren x f.home (BodyMark f.own ∷ marks scoped_number acts))
      ∙ leaves_ren (stands f.home (BodyMark f.own ∷ marks scoped_number acts)) v f env operands rest acts st
  instr_ren BlockEnd f env [] rest acts st room = refl
  instr_ren BlockEnd f env (v ∷ operands) rest acts st room = refl

  next_instr_ren : (f : Frame) (env : Env) (operands : List Value) (rest : List Instr) (acts : List (Act ScopedBody)) (st : State) → r.taken x.objects ≤ length st.store.objects → next_instr p (F f) (E env) (rens x operands) (Is rest) (A acts) (T st) ≡ M (next_instr q f env operands rest acts st)
  next_instr_ren f env operands [] acts st room = refl
  next_instr_ren f env operands (i ∷ rest) acts st room = instr_ren i f env operands rest acts st room

  pub instruct_ren : (b : ScopedBody) (acts : List (Act ScopedBody)) (st : State) → r.taken x.objects ≤ length st.store.objects → scoped_instruct p (ren_body x b) (A acts) (T st) ≡ M (scoped_instruct q b acts st)
  instruct_ren b acts st room = next_instr_ren b.frame b.env b.operands b.rest acts st room
