-- The code that is left falls with each instruction, and only a step brings more: a law for each small step of the scoped machine.
use Rattle.std.proofs.Common.{◌≡◌, ℕ, zero, suc, ◌+◌, ◌-◌, ◌*◌, ◌<◌, ◌≤◌, max, length, map, get_or, List, [], ◌∷◌, Option, Some, None, Bool, true, false, refl, sym, ap, ◌∙◌, subst, arith, nat_lt, nat_le, ltb-true, if◌then◌else◌}
use Rattle.std.proofs.Math.Nat.{suc-mul}
use Rattle.object_heap.specs.declared.value.Value.{Value}
use Rattle.object_heap.specs.declared.value.Value.TheVariants.{Object}
use Rattle.object_heap.specs.declared.value.Closure.{Closure}
use Rattle.object_heap.specs.Store.{Scope, object_at}
use Rattle.st_code.specs.Program.{Program, Place, Scoped, Slot, ClassSlot, Shared, Kind, body_at}
use Rattle.st_code.specs.Code.{Instr, PushConstant, PushSelf, Pop, Dup, PushVariable, Store as StoreVariable, SendMessage, SendSuper, MakeBlock, MethodReturn, HomeReturn, BlockEnd, code_body}
use Rattle.st_code.specs.Compiled.{Compiled, instruction_of, compiled_body, compile_of}
use Rattle.st_code.specs.Messages.{Control}
use Rattle.st_code.specs.Lookup.{is_plain, fits, is_exception}
use Rattle.st_collections.specs.Actions.{Action, Gives, Changes, Makes, Writes, Fails, DividesByZero, PassesIntegers, Begins, Activates, Sends, Misses, Enters, Guards, Ensures, Curtails, Iterates, Raises, RaisesNew, Controls, Terminates, Visit, Applies, Compares, Finishes, Lacks, Charges}
use Rattle.st_collections.specs.Kinds.{is_true}
use Rattle.st_rules.specs.Events.{Event}
use Rattle.st_rules.specs.State.{State, Entry, Env, Target, Outcome, Answer, Go, Stop, Turn, Mark, BodyMark, Frame, FoundTurn, NoTurn, TurnAt, turn_of, told, is_live, step_made, stood, used, scope_cells, stands}
use Rattle.st_rules.specs.Ends.{charged, ended, write_place, Opening, block_opening, method_opening, turn_end, outer_end, SignalVerdict, Ends, Signals, signal_end, Verdict, Leaves, Again, protect_end, Search, asks_nested, Wait, ToResume, ToOuter}
use Rattle.st_rules.specs.Rules.{Use, Apply, Activate, Enter, SendTo, SuperTo, Perform, Raise, RaiseNew, SignalPoint, Resignaled, SearchIn, TurnBy, Ask, Protect, Finish, VisitBy, RunBody, closure_for, apply_by, handler_by, exception_cells}
use Rattle.st_rules.specs.Machine.{Act, BodyAct, Leaving, ProtectAct, EnsureOn, CurtailOn, ActionOff, SignalAct, HandlerRun, OuterAct, ResumeWait, HandlesWait, LoopAct, Mach, Run, Settle, Begin, Over, Stuck, Bodies, marks, open_act, raise_act, raise_new_act, tried_act, judged_act, search_act, turn_act, asked_act, resignal_act, resignal_as_act, control_by_act, control_without_act, control_in_act, control_act, visit_act, perform_act, begin, protect_verdict, signal_verdict, give, unwind, step}
use Rattle.st_rules.specs.Scoped.{ScopedBody, scoped_number, scoped, Taken, TooFew, Takes, taken, sent, super_sent, leaves, instr}
use Rattle.st_rules.specs.Flat.{no_code, code_at}
use Rattle.st_rules.specs.SoFar.{state_of}
use Rattle.st_rules.specs.Instructions.{longest}
use Rattle.st_rules.proofs.Flattening.{whole, UseHolds}
use Rattle.st_rules.proofs.FlatCode.{list_size, code_is}

-- ---- the longest code

longest_fits : (cs : List Compiled) (i : ℕ) → i < length cs → length (get_or cs i no_code).instructions ≤ longest cs
longest_fits [] i l = let none : ⊥ = omega (arith, l) in absurd none
longest_fits (c ∷ cs) zero l = omega arith
longest_fits (c ∷ cs) (suc i) l = let h = longest_fits cs i (omega (arith, l)) in omega (arith, h)

map_size : {A C : Type 0} (f : A → C) (xs : List A) → length (map f xs) ≡ length xs
map_size f [] = refl
map_size f (x ∷ xs) = ap suc (map_size f xs)

pub whole_fits : (p : Program) (code : ℕ) → code < length p.bodies → length (whole p code) ≤ longest (compile_of p)
unfolding code_at compiled_body compile_of
whole_fits p code l =
    let h : length (code_at (compile_of p) code).instructions ≤ longest (compile_of p) = longest_fits (compile_of p) code (omega (arith, l, list_size p 0 p.bodies)) in
    let e : length (code_at (compile_of p) code).instructions ≡ length (whole p code) = ap (λ (c : Compiled). length c.instructions) (code_is p code l) ∙ map_size (instruction_of p code) (whole p code) in
    omega (arith, h, e)

module _ (p : Program) where
  abbrev S : Bodies ScopedBody
  S = scoped p

  abbrev pub top_length : ℕ
  top_length = longest (compile_of p)

  -- what the steps that are left can bring
  abbrev pub credit : ℕ → ℕ
  credit steps = (p.step_limit - steps) * top_length

  -- the code that is left in what stands, in a use, and in all
  abbrev pub acts_code : List (Act ScopedBody) → ℕ
  acts_code [] = 0
  acts_code (BodyAct x ∷ acts) = length x.rest + acts_code acts
  acts_code (a ∷ acts) = acts_code acts

  abbrev pub use_code : Use → List (Act ScopedBody) → ℕ
  use_code (Enter code r args env) acts = top_length + acts_code acts
  use_code (Perform a env) acts = top_length + acts_code acts
  use_code u acts = acts_code acts

  abbrev pub mach_code : Mach ScopedBody → ℕ
  mach_code (Run x acts st) = length x.rest + acts_code acts
  mach_code (Settle o acts st) = acts_code acts
  mach_code (Begin u acts st) = use_code u acts
  mach_code (Over o st) = 0
  mach_code (Stuck st) = 0

  -- no more is left than this
  abbrev pub Within : ℕ → Mach ScopedBody → Type 0
  Within most m = mach_code m + credit (state_of m).steps ≤ most

  -- ---- charges

  stood_within : (standing : List Mark) (st : State) (most : ℕ) (m : Mach ScopedBody) (k : State → Mach ScopedBody) → Within most m → ((d n : ℕ) → Within most (k (record st { depth = d; next = n }))) → Within most (charged (stood p standing st) m k)
  unfolding stood
  stood_within standing st most m k stop on = go (nat_le (length standing + 1) p.depth_limit)
    where
      go : (c : Bool) → Within most (charged (if c then Some (record st { depth = max st.depth (length standing + 1); next = st.next + 1 }) else None) m k)
      go true = on _ _
      go false = stop

  used_within : (cells : ℕ) (st : State) (most : ℕ) (m : Mach ScopedBody) (k : State → Mach ScopedBody) → Within most m → ((c : ℕ) → Within most (k (record st { cells = c }))) → Within most (charged (used p cells st) m k)
  unfolding used
  used_within cells st most m k stop on = go (nat_le (st.cells + cells) p.cell_limit)
    where
      go : (c : Bool) → Within most (charged (if c then Some (record st { cells = st.cells + cells }) else None) m k)
      go true = on _
      go false = stop

  -- a step pays for one more code
  paid : (n : ℕ) → n < p.step_limit → top_length + credit (n + 1) ≡ credit n
  paid n l =
      let e : p.step_limit - n ≡ suc (p.step_limit - (n + 1)) = omega (arith, l) in
      let h : credit n ≡ credit (n + 1) + top_length = ap (λ k. k * top_length) e ∙ suc-mul (p.step_limit - (n + 1)) top_length in
      omega (arith, h)

  step_within : (st : State) (most : ℕ) (m : Mach ScopedBody) (k : State → Mach ScopedBody) → Within most m → (top_length + credit (st.steps + 1) ≡ credit st.steps → Within most (k (record st { steps = st.steps + 1 }))) → Within most (charged (step_made p st) m k)
  unfolding step_made
  step_within st most m k stop on = go (nat_lt st.steps p.step_limit) refl
    where
      go : (c : Bool) → nat_lt st.steps p.step_limit ≡ c → Within most (charged (if c then Some (record st { steps = st.steps + 1 }) else None) m k)
      go true e = on (paid st.steps (ltb-true st.steps p.step_limit e))
      go false e = stop

  -- ---- a body that is opened

  opened_code : (kind : Kind) (code : ℕ) → code < length p.bodies → (body_at p code).kind ≡ kind → length (code_body kind (body_at p code).statements) ≤ top_length
  opened_code kind code l e = subst (λ k. length (code_body k (body_at p code).statements) ≤ top_length) e (whole_fits p code l)

  pub open_within : (x : Opening) (acts : List (Act ScopedBody)) (st : State) (most : ℕ) → x.code < length p.bodies → (body_at p x.code).kind ≡ x.kind → top_length + acts_code acts + credit st.steps ≤ most → Within most (open_act S p x acts st)
  open_within x acts st most l e h =
      let c = opened_code x.kind x.code l e in
      stood_within (marks scoped_number acts) st most _ _ (omega (arith, h)) (λ d n. used_within (scope_cells (body_at p x.code)) _ most _ _ (omega (arith, h)) (λ u. omega (arith, h, c)))

  module _ (acts : List (Act ScopedBody)) (st : State) (most : ℕ) (room : acts_code acts + credit st.steps ≤ most) where
    -- ---- signals, searches and turns

    raise_within : (live : Bool) (e : ℕ) (env : Env) → Within most (raise_act S p live e env acts st)
    raise_within true e env = room
    raise_within false e env = stood_within (marks scoped_number acts) st most _ _ room (λ d n. room)

    raise_new_within : (c : ℕ) (slots : List Value) (env : Env) → Within most (raise_new_act S p c slots env acts st)
    raise_new_within c slots env = stood_within (marks scoped_number acts) st most _ _ room (λ d n. used_within (exception_cells p c) _ most _ _ room (λ u. room))

    tried_within : (a : Bool) (x : Search) (entry : Entry) (rest : Env) → Within most (tried_act S p a x entry rest acts st)
    tried_within true x entry rest = room
    tried_within false x entry rest = room

    judged_within : (a : Bool) (x : Search) (entry : Entry) (rest : Env) → Within most (judged_act S p a x entry rest acts st)
    judged_within true x entry rest = tried_within (fits p st.store entry.selector (object_at x.exception st.store).class) x entry rest
    judged_within false x entry rest = stood_within (marks scoped_number acts) st most _ _ room (λ d n. room)

    search_within : (x : Search) (rest : Env) → Within most (search_act S p x rest acts st)
    search_within x [] = room
    search_within x (entry ∷ rest) = judged_within (is_plain p st.store entry.selector) x entry rest

    handler_within : (o : Option Closure) (handler : Value) (e : ℕ) (env : Env) (n : ℕ) (t : Turn) (st1 : State) → st1.steps ≡ st.steps → Within most (Begin (handler_by o handler e env) (HandlerRun n t ∷ acts) st1)
    handler_within None handler e env n t st1 s = subst (λ k. acts_code acts + credit k ≤ most) (sym s) room
    handler_within (Some c) handler e env n t st1 s = subst (λ k. acts_code acts + credit k ≤ most) (sym s) room

    turn_within : (a : Bool) (x : Search) (entry : Option Entry) (outside : Env) → Within most (turn_act S p a x entry outside acts st)
    turn_within true x None outside = room
    turn_within true x (Some entry) outside = room
    turn_within false x None outside = stood_within (marks scoped_number acts) st most _ _ room (λ d n. room)
    turn_within false x (Some entry) outside = stood_within (marks scoped_number acts) st most _ _ room (λ d n. handler_within (closure_for p st.store entry.handler 0) entry.handler x.exception outside st.next _ (told (Event.Handle st.next entry.number) (record st { depth = d; next = n })) refl)

    -- ---- exception actions

    asked_within : (a : Bool) (w : Wait) (k : ℕ) (t : Turn) (env : Env) → Within most (asked_act S p a w k t env acts st)
    asked_within true (ToResume v) k t env = room
    asked_within false (ToResume v) k t env = room
    asked_within true ToOuter k t env = stood_within (marks scoped_number acts) st most _ _ room (λ d n. room)
    asked_within false ToOuter k t env = room

    resignal_within : (a live : Bool) (t : Turn) (f : ℕ) (v : Value) (env : Env) → Within most (resignal_act S p a live t f v env acts st)
    resignal_within false live t f v env = room
    resignal_within true true t f v env = room
    resignal_within true false t f v env = room

    resignal_as_within : (t : Turn) (v : Value) (env : Env) → Within most (resignal_as_act S p t v env acts st)
    resignal_as_within t (Object f) env = resignal_within (is_exception p st.store (Object f)) (is_live f (marks scoped_number acts)) t f (Object f) env
    resignal_as_within t v env = room

    control_by_within : (c : Control) (v : Value) (k : ℕ) (t : Turn) (entry : Entry) (env : Env) → Within most (control_by_act S p c v k t entry env acts st)
    control_by_within Control.Return v k t entry env = room
    control_by_within Control.Retry v k t entry env = room
    control_by_within Control.RetryUsing v k t entry env = room
    control_by_within Control.Resume v k t entry env = room
    control_by_within Control.Pass v k t entry env = room
    control_by_within Control.Outer v k t entry env = room
    control_by_within Control.ResignalAs v k t entry env = resignal_as_within t v env
    control_by_within Control.IsNested v k t entry env = room

    control_without_within : (c : Control) (v : Value) (k : ℕ) (t : Turn) (env : Env) → Within most (control_without_act S p c v k t env acts st)
    control_without_within Control.Resume v k t env = room
    control_without_within c v k t env = room

    control_in_within : (entry : Option Entry) (c : Control) (v : Value) (k : ℕ) (t : Turn) (env : Env) → Within most (control_in_act S p entry c v k t env acts st)
    control_in_within (Some entry) c v k t env = control_by_within c v k t entry env
    control_in_within None c v k t env = control_without_within c v k t env

    control_within : (f : FoundTurn) (c : Control) (v : Value) (env : Env) → Within most (control_act S p f c v env acts st)
    control_within NoTurn c v env = room
    control_within (TurnAt k t) c v env = control_in_within t.entry c v k t env

    -- ---- outcomes

    ended_within : (n : ℕ) (o : Outcome) → Within most (Settle o acts (ended n o st))
    ended_within n (Answer v) = room
    ended_within n (Go t v) = room
    ended_within n (Stop l) = room

    protect_within : (d : Verdict) (entry : Entry) (env : Env) → Within most (protect_verdict S p d entry env acts st)
    protect_within (Leaves o) entry env = ended_within entry.number o
    protect_within (Again receiver) entry env = room

    signal_within : (n e : ℕ) (d : SignalVerdict) (env : Env) → Within most (signal_verdict S p n e d env acts st)
    signal_within n e (Ends o) env = ended_within n o
    signal_within n e (Signals f) env = room

    apply_within : (o : Option Closure) (v : Value) (args : List Value) (env : Env) → Within most (Begin (apply_by p o v args env) acts st)
    apply_within None v args env = room
    apply_within (Some c) v args env = room

  -- ---- loops, and what a message does at once

  visit_within : (n : ℕ) (v : Visit) (env : Env) (acts : List (Act ScopedBody)) (st : State) (most : ℕ) → acts_code acts + credit st.steps ≤ most → Within most (visit_act S p n v env acts st)
  visit_within n (Applies l v args) env acts st most room = room
  visit_within n (Compares l r v) env acts st most room = room
  visit_within n (Finishes v) env acts st most room = room
  visit_within n (Lacks l) env acts st most room = room
  visit_within n (Charges cells s v) env acts st most room = used_within cells st most _ _ room (λ c. visit_within n v env acts (record st { cells = c; store = s }) most room)

  perform_within : (a : Action) (env : Env) (acts : List (Act ScopedBody)) (st : State) (most : ℕ) → top_length + acts_code acts + credit st.steps ≤ most → Within most (perform_act S p a env acts st)
  perform_within (Gives v) env acts st most h = omega (arith, h)
  perform_within (Changes s v) env acts st most h = omega (arith, h)
  perform_within (Makes cells s v) env acts st most h = used_within cells st most _ _ (omega (arith, h)) (λ c. omega (arith, h))
  perform_within (Writes text v) env acts st most h = omega (arith, h)
  perform_within (Fails trouble) env acts st most h = omega (arith, h)
  perform_within (DividesByZero dividend) env acts st most h = omega (arith, h)
  perform_within PassesIntegers env acts st most h = omega (arith, h)
  perform_within (Begins v args) env acts st most h = omega (arith, h)
  perform_within (Activates c args) env acts st most h = omega (arith, h)
  perform_within (Sends selector r args) env acts st most h = omega (arith, h)
  perform_within (Misses selector r args) env acts st most h = used_within (1 + length args) st most _ _ (omega (arith, h)) (λ c. used_within 3 _ most _ _ (omega (arith, h)) (λ d. omega (arith, h)))
  perform_within (Enters code r args) env acts st most h = omega (arith, h)
  perform_within (Guards receiver selector handler) env acts st most h = stood_within (marks scoped_number acts) st most _ _ (omega (arith, h)) (λ d n. omega (arith, h))
  perform_within (Ensures receiver block) env acts st most h = stood_within (marks scoped_number acts) st most _ _ (omega (arith, h)) (λ d n. omega (arith, h))
  perform_within (Curtails receiver block) env acts st most h = stood_within (marks scoped_number acts) st most _ _ (omega (arith, h)) (λ d n. omega (arith, h))
  perform_within (Iterates l) env acts st most h = stood_within (marks scoped_number acts) st most _ _ (omega (arith, h)) (λ d n. omega (arith, h))
  perform_within (Raises s e) env acts st most h = omega (arith, h)
  perform_within (RaisesNew class slots) env acts st most h = omega (arith, h)
  perform_within (Controls c e v) env acts st most h = control_within acts st most (omega (arith, h)) (turn_of e (marks scoped_number acts)) c v env
  perform_within (Terminates v) env acts st most h = omega (arith, h)

  -- ---- the beginning of a use

  pub begin_within : (u : Use) (acts : List (Act ScopedBody)) (st : State) (most : ℕ) (cs : List Closure) (ss : List Scope) → UseHolds p cs ss u → use_code u acts + credit st.steps ≤ most → Within most (begin S p u acts st)
  begin_within (Apply v args env) acts st most cs ss u h = apply_within acts st most (omega (arith, h)) (closure_for p st.store v (length args)) v args env
  begin_within (Activate c args env) acts st most cs ss u h =
      step_within st most _ _ (omega (arith, h)) (λ e. open_within (block_opening c args env st.next) acts (record st { steps = st.steps + 1 }) most u.body.known u.body.is_kind (omega (arith, h, e)))
  begin_within (Enter code r args env) acts st most cs ss u h = open_within (method_opening p code r args env st.next) acts st most u.known u.is_kind h
  begin_within (SendTo selector r args env) acts st most cs ss u h = step_within st most _ _ (omega (arith, h)) (λ e. omega (arith, h, e))
  begin_within (SuperTo class selector r args env) acts st most cs ss u h = step_within st most _ _ (omega (arith, h)) (λ e. omega (arith, h, e))
  begin_within (Perform a env) acts st most cs ss u h = perform_within a env acts st most h
  begin_within (Raise e env) acts st most cs ss u h = raise_within acts st most (omega (arith, h)) (is_live e (marks scoped_number acts)) e env
  begin_within (RaiseNew class slots env) acts st most cs ss u h = raise_new_within acts st most (omega (arith, h)) class slots env
  begin_within (SignalPoint n e env) acts st most cs ss u h = omega (arith, h)
  begin_within (Resignaled n e f env) acts st most cs ss u h = omega (arith, h)
  begin_within (SearchIn x rest) acts st most cs ss u h = search_within acts st most (omega (arith, h)) x rest
  begin_within (TurnBy x entry outside) acts st most cs ss u h = turn_within acts st most (omega (arith, h)) (asks_nested x) x entry outside
  begin_within (Ask w k t env) acts st most cs ss u h = stood_within (marks scoped_number acts) st most _ _ (omega (arith, h)) (λ d n. omega (arith, h))
  begin_within (Protect receiver entry env) acts st most cs ss u h = omega (arith, h)
  begin_within (Finish n block held env) acts st most cs ss u h = omega (arith, h)
  begin_within (VisitBy n v env) acts st most cs ss u h = visit_within n v env acts st most (omega (arith, h))
  begin_within (RunBody f env) acts st most cs ss u h = omega (arith, h)

  -- ---- an outcome at an activation

  give_within : (v : Value) (a : Act ScopedBody) (acts : List (Act ScopedBody)) (st : State) (most : ℕ) → acts_code (a ∷ acts) + credit st.steps ≤ most → Within most (give S p v a acts st)
  give_within v (BodyAct x) acts st most h = h
  give_within v (Leaving x) acts st most h = h
  give_within v (ProtectAct receiver entry env) acts st most h = protect_within acts st most h (protect_end entry.number receiver (Answer v)) entry env
  give_within v (EnsureOn n block env) acts st most h = h
  give_within v (CurtailOn n block env) acts st most h = h
  give_within v (ActionOff n held) acts st most h = ended_within acts st most h n held
  give_within v (SignalAct n e env) acts st most h = signal_within acts st most h n e (signal_end n (Answer v)) env
  give_within v (HandlerRun n t) acts st most h = ended_within acts st most h n (turn_end t (marks scoped_number acts) (Answer v))
  give_within v (OuterAct n) acts st most h = h
  give_within v (ResumeWait n w k t env) acts st most h = asked_within acts st most h (is_true v) w k t env
  give_within v (HandlesWait n x entry rest) acts st most h = tried_within acts (ended n (Answer v) st) most h (is_true v) x entry rest
  give_within v (LoopAct n l env) acts st most h = h

  unwind_within : (t : Target) (v : Value) (a : Act ScopedBody) (acts : List (Act ScopedBody)) (st : State) (most : ℕ) → acts_code (a ∷ acts) + credit st.steps ≤ most → Within most (unwind S p t v a acts st)
  unwind_within t v (BodyAct x) acts st most h = omega (arith, h)
  unwind_within t v (Leaving x) acts st most h = h
  unwind_within t v (ProtectAct receiver entry env) acts st most h = protect_within acts st most h (protect_end entry.number receiver (Go t v)) entry env
  unwind_within t v (EnsureOn n block env) acts st most h = h
  unwind_within t v (CurtailOn n block env) acts st most h = h
  unwind_within t v (ActionOff n held) acts st most h = h
  unwind_within t v (SignalAct n e env) acts st most h = signal_within acts st most h n e (signal_end n (Go t v)) env
  unwind_within t v (HandlerRun n turn) acts st most h = h
  unwind_within t v (OuterAct n) acts st most h = ended_within acts st most h n (outer_end n (Go t v))
  unwind_within t v (ResumeWait n w k turn env) acts st most h = h
  unwind_within t v (HandlesWait n x entry rest) acts st most h = h
  unwind_within t v (LoopAct n l env) acts st most h = h

  pub settle_within : (o : Outcome) (acts : List (Act ScopedBody)) (st : State) (most : ℕ) → acts_code acts + credit st.steps ≤ most → Within most (step S p (Settle o acts st))
  settle_within (Answer v) [] st most h = h
  settle_within (Answer v) (a ∷ acts) st most h = give_within v a acts st most h
  settle_within (Go t v) [] st most h = h
  settle_within (Go t v) (a ∷ acts) st most h = unwind_within t v a acts st most h
  settle_within (Stop l) acts st most h = omega (arith, h)

  -- ---- instructions

  written_steps : (f : Frame) (st : State) (place : Place) (v : Value) → (write_place p f st place v).steps ≡ st.steps
  unfolding write_place
  written_steps f st (Scoped up index) v = refl
  written_steps f st (Slot index) v = refl
  written_steps f st (ClassSlot index) v = refl
  written_steps f st (Shared index) v = refl

  module _ (f : Frame) (env : Env) (rest : List Instr) (acts : List (Act ScopedBody)) (most : ℕ) where
    abbrev Room : State → Type 0
    Room st = length rest + acts_code acts + credit st.steps ≤ most

    sent_within : (selector : ℕ) (x : Taken) (st : State) → Room st → Within most (sent p selector x f env rest acts st)
    sent_within selector TooFew st h = omega (arith, h)
    sent_within selector (Takes args []) st h = omega (arith, h)
    sent_within selector (Takes args (r ∷ ops)) st h = omega (arith, h)

    super_within : (selector : ℕ) (x : Taken) (st : State) → Room st → Within most (super_sent p selector x f env rest acts st)
    super_within selector TooFew st h = omega (arith, h)
    super_within selector (Takes args []) st h = omega (arith, h)
    super_within selector (Takes args (r ∷ ops)) st h = omega (arith, h)

    leaves_within : (b : Bool) (v : Value) (ops : List Value) (st : State) → Room st → Within most (leaves p b v f env ops rest acts st)
    leaves_within true v ops st h = h
    leaves_within false v ops st h = omega (arith, h)

    pub instr_within : (i : Instr) (ops : List Value) (st : State) → Room st → Within most (instr p i f env ops rest acts st)
    instr_within (PushConstant v) ops st h = h
    instr_within PushSelf ops st h = h
    instr_within (PushVariable place) ops st h = h
    instr_within (StoreVariable place) (v ∷ ops) st h = subst (λ n. length rest + acts_code acts + credit n ≤ most) (sym (written_steps f st place v)) h
    instr_within (StoreVariable place) [] st h = omega (arith, h)
    instr_within Pop (v ∷ ops) st h = h
    instr_within Pop [] st h = omega (arith, h)
    instr_within Dup (v ∷ ops) st h = h
    instr_within Dup [] st h = omega (arith, h)
    instr_within (MakeBlock code) ops st h = used_within 2 st most _ _ h (λ c. h)
    instr_within (SendMessage selector count) ops st h = sent_within selector (taken count ops []) st h
    instr_within (SendSuper selector count) ops st h = super_within selector (taken count ops []) st h
    instr_within MethodReturn (v ∷ ops) st h = omega (arith, h)
    instr_within MethodReturn [] st h = omega (arith, h)
    instr_within HomeReturn (v ∷ ops) st h = leaves_within (stands f.home (BodyMark f.own ∷ marks scoped_number acts)) v ops st h
    instr_within HomeReturn [] st h = omega (arith, h)
    instr_within BlockEnd (v ∷ ops) st h = omega (arith, h)
    instr_within BlockEnd [] st h = omega (arith, h)
