-- What stands beside bodies does the same under a renaming: signals, searches, turns, protection, loops and what messages do at once, a law for each.
use Rattle.std.proofs.Common.{◌≡◌, ℕ, ◌+◌, ◌≤◌, List, [], ◌∷◌, length, Option, Some, None, Bool, true, false, refl, ap, ◌∙◌, arith}
use Rattle.std.specs.Option.{option_map}
use Rattle.std.proofs.lemmas.List.{length-map, length-append}
use Rattle.object_heap.specs.declared.value.Value.{Value}
use Rattle.object_heap.specs.declared.value.Value.TheVariants.{Symbol, Object}
use Rattle.object_heap.specs.declared.value.Closure.{Closure}
use Rattle.object_heap.specs.declared.trouble.Trouble.{Trouble}
use Rattle.object_heap.specs.declared.trouble.Trouble.TheVariants as trouble
use Rattle.object_heap.specs.Store.{Store, Object as HeapObject, object_at}
use Rattle.st_code.specs.Program.{Program}
use Rattle.st_code.specs.BuiltIns.{zero_divide_class, array_class, message_class}
use Rattle.st_code.specs.Messages.{Control}
use Rattle.st_code.specs.Lookup.{is_plain, fits, is_exception}
use Rattle.st_collections.specs.Actions.{Action, Gives, Changes, Makes, Writes, Fails, DividesByZero, PassesIntegers, Begins, Activates, Sends, Misses, Enters, Guards, Ensures, Curtails, Iterates, Raises, RaisesNew, Controls, Terminates, LoopState, Visit, Applies, Compares, Finishes, Lacks, Charges, new_object, next_object, with_new}
use Rattle.st_collections.specs.Loops.{first_visit}
use Rattle.st_rules.specs.Events.{Event}
use Rattle.st_rules.specs.State.{State, Entry, Env, CellLimit, Turn, FoundTurn, NoTurn, TurnAt, turn_of, is_live, told, with_store, used}
use Rattle.st_rules.specs.Ends.{charged, with_arguments, with_message, Search, Purpose, ForSignal, ForPass, ForOuter, ForNested, turn_for, Wait, ToResume, ToOuter}
use Rattle.st_rules.specs.Rules.{SendTo, RaiseNew, SignalPoint, VisitBy, closure_for, fail, handler_by, with_exception, exception_cells, sends_default_action, sends_not_understood}
use Rattle.st_rules.specs.Machine.{Act, HandlerRun, HandlesWait, LoopAct, Mach, Begin, Bodies, marks, stopped, raise_act, raise_new_act, tried_act, judged_act, search_act, turn_act, asked_act, resignal_act, resignal_as_act, control_by_act, control_without_act, control_in_act, control_act, visit_act, perform_act}
use Rattle.st_rules.specs.Scoped.{ScopedBody, scoped_number, scoped}
use Rattle.law_shake.specs.Renaming as r
use Rattle.law_shake.specs.Renaming.{Renaming, placed, taken, object, ren, rens, ren_store, ren_state, ren_closure, ren_action, ren_visit, ren_loop, ren_entry, ren_env, ren_or_none, ren_turn, ren_mark, ren_found_turn, ren_search, ren_purpose, ren_wait, ren_outcome, ren_act, ren_acts, ren_use, ren_mach, IsRenamed, Sent}
use Rattle.law_shake.proofs.Spreading.{spread_length}
use Rattle.law_shake.proofs.Lookups.{object_read, is_exception_ren, is_plain_ren}
use Rattle.law_shake.proofs.Rows.{next_ren, with_new_ren}
use Rattle.law_shake.proofs.Standing.{marks_ren, live_ren, turn_ren, stood_ren, used_ren, fits_ren, closure_for_ren, text_ren, fail_ren, cells_same, with_exception_ren}

module _ (x : Renaming) (q p : Program) (is : IsRenamed x q p) where
  abbrev M : Mach ScopedBody → Mach ScopedBody
  M m = ren_mach x m

  abbrev A : List (Act ScopedBody) → List (Act ScopedBody)
  A acts = ren_acts x acts

  abbrev T : State → State
  T st = ren_state x st

  abbrev E : Env → Env
  E env = ren_env x env

  abbrev S : Bodies ScopedBody
  S = scoped q

  abbrev S' : Bodies ScopedBody
  S' = scoped p

  abbrev Room : State → Type 0
  Room st = taken x.objects ≤ length st.store.objects

  pub fails : (t : Trouble) (env : Env) (acts : List (Act ScopedBody)) (st : State) → Begin (fail p t (E env)) (A acts) (T st) ≡ M (Begin (fail q t env) acts st)
  fails t env acts st = ap (λ u. Begin u (A acts) (T st)) (fail_ren x q p is t env)

  -- ---- signals, searches and turns

  pub raise_ren : (live : Bool) (e : ℕ) (env : Env) (acts : List (Act ScopedBody)) (st : State) → raise_act S' p live (object x e) (E env) (A acts) (T st) ≡ M (raise_act S q live e env acts st)
  raise_ren true e env acts st = fails trouble.AlreadySignaled env acts st
  raise_ren false e env acts st = stood_ren x q p is acts st _ _ _ (λ d n. refl)

  pub raise_new_ren : (c : ℕ) (slots : List Value) (env : Env) (acts : List (Act ScopedBody)) (st : State) → Room st → raise_new_act S' p c (rens x slots) (E env) (A acts) (T st) ≡ M (raise_new_act S q c slots env acts st)
  raise_new_ren c slots env acts st room =
      stood_ren x q p is acts st _ _ _ (λ d n.
      let st2 = told (Event.Signal st.next) (record st { depth = d; next = n }) in
      ap (λ k. charged (used p k (T st2)) (stopped CellLimit (A acts) (T st2)) (λ st3. Begin (SignalPoint st.next (length st3.store.objects) (E env)) (A acts) (with_store st3 (with_exception p c (rens x slots) st3.store)))) (cells_same x q p is c)
      ∙ used_ren x q p is (exception_cells q c) st2 _ _ _ (λ k.
      rw (spread_length (r.ren_object x) x.objects st.store.objects room, with_exception_ren x q p is st.store room c slots) refl))

  pub tried_ren : (a : Bool) (y : Search) (entry : Entry) (rest : Env) (acts : List (Act ScopedBody)) (st : State) → tried_act S' p a (ren_search x y) (ren_entry x entry) (E rest) (A acts) (T st) ≡ M (tried_act S q a y entry rest acts st)
  tried_ren true y entry rest acts st = refl
  tried_ren false y entry rest acts st = refl

  judged_ren : (a : Bool) (y : Search) (entry : Entry) (rest : Env) (acts : List (Act ScopedBody)) (st : State) → judged_act S' p a (ren_search x y) (ren_entry x entry) (E rest) (A acts) (T st) ≡ M (judged_act S q a y entry rest acts st)
  judged_ren true y entry rest acts st =
      ap (λ (o : HeapObject). tried_act S' p (fits p (ren_store x st.store) (ren x entry.selector) o.class) (ren_search x y) (ren_entry x entry) (E rest) (A acts) (T st)) (object_read x st.store y.exception)
      ∙ ap (λ b. tried_act S' p b (ren_search x y) (ren_entry x entry) (E rest) (A acts) (T st)) (fits_ren x q p is st.store entry.selector (object_at y.exception st.store).class)
      ∙ tried_ren (fits q st.store entry.selector (object_at y.exception st.store).class) y entry rest acts st
  judged_ren false y entry rest acts st =
      stood_ren x q p is acts st _ _ _ (λ d n. ap (λ k. Begin (SendTo k (ren x entry.selector) (Object (object x y.exception) ∷ []) (E rest)) (A (HandlesWait st.next y entry rest ∷ acts)) (T (told (Event.Ask st.next entry.number) (record st { depth = d; next = n })))) (is.sent _ r.sends_handles))

  pub search_ren : (y : Search) (rest : Env) (acts : List (Act ScopedBody)) (st : State) → search_act S' p (ren_search x y) (E rest) (A acts) (T st) ≡ M (search_act S q y rest acts st)
  search_ren y [] acts st = refl
  search_ren y (entry ∷ rest) acts st =
      ap (λ b. judged_act S' p b (ren_search x y) (ren_entry x entry) (E rest) (A acts) (T st)) (is_plain_ren x q p is st.store entry.selector)
      ∙ judged_ren (is_plain q st.store entry.selector) y entry rest acts st

  turn_for_ren : (y : Search) (o : Option Entry) (outside : Env) → turn_for (ren_search x y) (ren_or_none x o) (E outside) ≡ ren_turn x (turn_for y o outside)
  turn_for_ren y o outside = go y.purpose
    where
      go : (u : Purpose) → turn_for (ren_search x (record y { purpose = u })) (ren_or_none x o) (E outside) ≡ ren_turn x (turn_for (record y { purpose = u }) o outside)
      go ForSignal = refl
      go (ForPass t) = refl
      go (ForOuter t point) = refl
      go ForNested = refl

  handler_ren : (o : Option Closure) (v : Value) (e : ℕ) (env : Env) → handler_by (option_map (ren_closure x) o) (ren x v) (object x e) (E env) ≡ ren_use x (handler_by o v e env)
  handler_ren None v e env = refl
  handler_ren (Some c) v e env = refl

  pub turn_act_ren : (a : Bool) (y : Search) (entry : Option Entry) (outside : Env) (acts : List (Act ScopedBody)) (st : State) → turn_act S' p a (ren_search x y) (ren_or_none x entry) (E outside) (A acts) (T st) ≡ M (turn_act S q a y entry outside acts st)
  turn_act_ren true y None outside acts st = refl
  turn_act_ren true y (Some entry) outside acts st = refl
  turn_act_ren false y None outside acts st =
      stood_ren x q p is acts st _ _ _ (λ d n.
      let st2 = told (Event.Default st.next) (record st { depth = d; next = n }) in
      ap (λ k. Begin (SendTo k (Object (object x y.exception)) [] (E outside)) (HandlerRun st.next (turn_for (ren_search x y) None (E outside)) ∷ A acts) (T st2)) (is.sent _ r.sends_default)
      ∙ ap (λ t. Begin (SendTo (x.symbol (sends_default_action q)) (Object (object x y.exception)) [] (E outside)) (HandlerRun st.next t ∷ A acts) (T st2)) (turn_for_ren y None outside))
  turn_act_ren false y (Some entry) outside acts st =
      stood_ren x q p is acts st _ _ _ (λ d n.
      let st2 = told (Event.Handle st.next entry.number) (record st { depth = d; next = n }) in
      ap (λ o. Begin (handler_by o (ren x entry.handler) (object x y.exception) (E outside)) (HandlerRun st.next (turn_for (ren_search x y) (Some (ren_entry x entry)) (E outside)) ∷ A acts) (T st2)) (closure_for_ren x q p is st.store entry.handler 0)
      ∙ ap (λ u. Begin u (HandlerRun st.next (turn_for (ren_search x y) (Some (ren_entry x entry)) (E outside)) ∷ A acts) (T st2)) (handler_ren (closure_for q st.store entry.handler 0) entry.handler y.exception outside)
      ∙ ap (λ t. Begin (ren_use x (handler_by (closure_for q st.store entry.handler 0) entry.handler y.exception outside)) (HandlerRun st.next t ∷ A acts) (T st2)) (turn_for_ren y (Some entry) outside))

  -- ---- exception actions

  pub asked_ren : (a : Bool) (w : Wait) (k : ℕ) (t : Turn) (env : Env) (acts : List (Act ScopedBody)) (st : State) → asked_act S' p a (ren_wait x w) k (ren_turn x t) (E env) (A acts) (T st) ≡ M (asked_act S q a w k t env acts st)
  asked_ren true (ToResume v) k t env acts st = refl
  asked_ren false (ToResume v) k t env acts st = fails trouble.NotResumable env acts st
  asked_ren true ToOuter k t env acts st = stood_ren x q p is acts st _ _ _ (λ d n. refl)
  asked_ren false ToOuter k t env acts st = refl

  resignal_ren : (a live : Bool) (t : Turn) (f : ℕ) (env : Env) (acts : List (Act ScopedBody)) (st : State) → resignal_act S' p a live (ren_turn x t) (object x f) (Object (object x f)) (E env) (A acts) (T st) ≡ M (resignal_act S q a live t f (Object f) env acts st)
  resignal_ren false live t f env acts st = fails trouble.ExceptionExpected env acts st
  resignal_ren true true t f env acts st = fails trouble.AlreadySignaled env acts st
  resignal_ren true false t f env acts st = refl

  resignal_as_ren : (t : Turn) (v : Value) (env : Env) (acts : List (Act ScopedBody)) (st : State) → resignal_as_act S' p (ren_turn x t) (ren x v) (E env) (A acts) (T st) ≡ M (resignal_as_act S q t v env acts st)
  resignal_as_ren t (Object f) env acts st =
      ap (λ b. resignal_act S' p b (is_live (object x f) (marks scoped_number (A acts))) (ren_turn x t) (object x f) (Object (object x f)) (E env) (A acts) (T st)) (is_exception_ren x q p is st.store (Object f))
      ∙ ap (λ ms. resignal_act S' p (is_exception q st.store (Object f)) (is_live (object x f) ms) (ren_turn x t) (object x f) (Object (object x f)) (E env) (A acts) (T st)) (marks_ren x acts)
      ∙ ap (λ b. resignal_act S' p (is_exception q st.store (Object f)) b (ren_turn x t) (object x f) (Object (object x f)) (E env) (A acts) (T st)) (live_ren x f (marks scoped_number acts))
      ∙ resignal_ren (is_exception q st.store (Object f)) (is_live f (marks scoped_number acts)) t f env acts st
  resignal_as_ren t v env acts st = fails trouble.ExceptionExpected env acts st

  control_by_ren : (c : Control) (v : Value) (k : ℕ) (t : Turn) (entry : Entry) (env : Env) (acts : List (Act ScopedBody)) (st : State) → control_by_act S' p c (ren x v) k (ren_turn x t) (ren_entry x entry) (E env) (A acts) (T st) ≡ M (control_by_act S q c v k t entry env acts st)
  control_by_ren Control.Return v k t entry env acts st = refl
  control_by_ren Control.Retry v k t entry env acts st = refl
  control_by_ren Control.RetryUsing v k t entry env acts st = refl
  control_by_ren Control.Resume v k t entry env acts st = refl
  control_by_ren Control.Pass v k t entry env acts st = refl
  control_by_ren Control.Outer v k t entry env acts st = refl
  control_by_ren Control.ResignalAs v k t entry env acts st = resignal_as_ren t v env acts st
  control_by_ren Control.IsNested v k t entry env acts st = refl

  control_without_ren : (c : Control) (v : Value) (k : ℕ) (t : Turn) (env : Env) (acts : List (Act ScopedBody)) (st : State) → control_without_act S' p c (ren x v) k (ren_turn x t) (E env) (A acts) (T st) ≡ M (control_without_act S q c v k t env acts st)
  control_without_ren Control.Resume v k t env acts st = refl
  control_without_ren c v k t env acts st = fails trouble.NotActive env acts st

  control_in_ren : (o : Option Entry) (c : Control) (v : Value) (k : ℕ) (t : Turn) (env : Env) (acts : List (Act ScopedBody)) (st : State) → control_in_act S' p (ren_or_none x o) c (ren x v) k (ren_turn x t) (E env) (A acts) (T st) ≡ M (control_in_act S q o c v k t env acts st)
  control_in_ren (Some entry) c v k t env acts st = control_by_ren c v k t entry env acts st
  control_in_ren None c v k t env acts st = control_without_ren c v k t env acts st

  pub control_ren : (f : FoundTurn) (c : Control) (v : Value) (env : Env) (acts : List (Act ScopedBody)) (st : State) → control_act S' p (ren_found_turn x f) c (ren x v) (E env) (A acts) (T st) ≡ M (control_act S q f c v env acts st)
  control_ren NoTurn c v env acts st = fails trouble.NotActive env acts st
  control_ren (TurnAt k t) c v env acts st = control_in_ren t.entry c v k t env acts st

  -- ---- loops

  pub visit_act_ren : (n : ℕ) (v : Visit) (env : Env) (acts : List (Act ScopedBody)) (st : State) → visit_act S' p n (ren_visit x v) (E env) (A acts) (T st) ≡ M (visit_act S q n v env acts st)
  visit_act_ren n (Applies l v args) env acts st = refl
  visit_act_ren n (Compares l r' v) env acts st = ap (λ k. Begin (SendTo k (ren x r') (ren x v ∷ []) (E env)) (A (LoopAct n l env ∷ acts)) (T st)) (is.sent _ r.sends_equal)
  visit_act_ren n (Finishes v) env acts st = refl
  visit_act_ren n (Lacks l) env acts st = fails trouble.NotFound env (LoopAct n l env ∷ acts) st
  visit_act_ren n (Charges cells s v) env acts st = used_ren x q p is cells st _ _ _ (λ k. visit_act_ren n v env acts (record st { cells = k; store = s }))

  more_room : (s : Store) (class : ℕ) (slots : List Value) → taken x.objects ≤ length s.objects → taken x.objects ≤ length (with_new class slots [] s).objects
  unfolding with_new
  more_room s class slots room = let e = length-append s.objects (new_object class slots [] ∷ []) in omega arith

  -- ---- what messages do at once; the first visit of a loop is that of the rows

  module _ (first : (s : Store) → taken x.objects ≤ length s.objects → (l : LoopState) → first_visit p (ren_store x s) (ren_loop x l) ≡ ren_visit x (first_visit q s l)) where
    pub perform_ren : (a : Action) (env : Env) (acts : List (Act ScopedBody)) (st : State) → Room st → perform_act S' p (ren_action x a) (E env) (A acts) (T st) ≡ M (perform_act S q a env acts st)
    unfolding with_arguments with_message
    perform_ren (Gives v) env acts st room = refl
    perform_ren (Changes s v) env acts st room = refl
    perform_ren (Makes cells s v) env acts st room = used_ren x q p is cells st _ _ _ (λ k. refl)
    perform_ren (Writes text v) env acts st room = refl
    perform_ren (Fails t) env acts st room = fails t env acts st
    perform_ren (DividesByZero v) env acts st room = ap (λ w. Begin (RaiseNew zero_divide_class (w ∷ ren x v ∷ []) (E env)) (A acts) (T st)) (text_ren x q p is trouble.ZeroDivide)
    perform_ren PassesIntegers env acts st room = refl
    perform_ren (Begins v args) env acts st room = refl
    perform_ren (Activates c args) env acts st room = refl
    perform_ren (Sends selector v args) env acts st room = refl
    perform_ren (Misses selector v args) env acts st room =
        let s = st.store in
        let s1 = with_new array_class args [] s in
        let room1 : taken x.objects ≤ length s1.objects = more_room s array_class args room in
        ap (λ k. charged (used p (1 + k) (T st)) (stopped CellLimit (A acts) (T st)) (λ st1. charged (used p 3 (with_store st1 (with_arguments (rens x args) st1.store))) (stopped CellLimit (A acts) (with_store st1 (with_arguments (rens x args) st1.store))) (λ st3. Begin (SendTo (sends_not_understood p) (ren x v) (next_object st3.store ∷ []) (E env)) (A acts) (with_store st3 (with_message (x.symbol selector) (next_object st1.store) st3.store))))) (length-map args (ren x))
        ∙ used_ren x q p is (1 + length args) st _ _ _ (λ c.
        let st1 = record st { cells = c } in
        ap (λ t. charged (used p 3 (with_store (T st1) t)) (stopped CellLimit (A acts) (with_store (T st1) t)) (λ st3. Begin (SendTo (sends_not_understood p) (ren x v) (next_object st3.store ∷ []) (E env)) (A acts) (with_store st3 (with_message (x.symbol selector) (next_object (ren_store x s)) st3.store)))) (with_new_ren x s room array_class args [])
        ∙ used_ren x q p is 3 (with_store st1 s1) _ _ _ (λ d.
        let st3 = record st { cells = d; store = s1 } in
        ap (λ k. Begin (SendTo k (ren x v) (next_object (ren_store x s1) ∷ []) (E env)) (A acts) (with_store (T st3) (with_new message_class (Symbol (x.symbol selector) ∷ next_object (ren_store x s) ∷ []) [] (ren_store x s1)))) (is.sent _ r.sends_not_understood)
        ∙ ap (λ w. Begin (SendTo (x.symbol (sends_not_understood q)) (ren x v) (w ∷ []) (E env)) (A acts) (with_store (T st3) (with_new message_class (Symbol (x.symbol selector) ∷ next_object (ren_store x s) ∷ []) [] (ren_store x s1)))) (next_ren x s1 room1)
        ∙ ap (λ w. Begin (SendTo (x.symbol (sends_not_understood q)) (ren x v) (ren x (next_object s1) ∷ []) (E env)) (A acts) (with_store (T st3) (with_new message_class (Symbol (x.symbol selector) ∷ w ∷ []) [] (ren_store x s1)))) (next_ren x s room)
        ∙ ap (λ t. Begin (SendTo (x.symbol (sends_not_understood q)) (ren x v) (ren x (next_object s1) ∷ []) (E env)) (A acts) (with_store (T st3) t)) (with_new_ren x s1 room1 message_class (Symbol selector ∷ next_object s ∷ []) [])))
    perform_ren (Enters code v args) env acts st room = refl
    perform_ren (Guards receiver selector handler) env acts st room = stood_ren x q p is acts st _ _ _ (λ d n. refl)
    perform_ren (Ensures receiver block) env acts st room = stood_ren x q p is acts st _ _ _ (λ d n. refl)
    perform_ren (Curtails receiver block) env acts st room = stood_ren x q p is acts st _ _ _ (λ d n. refl)
    perform_ren (Iterates l) env acts st room = stood_ren x q p is acts st _ _ _ (λ d n. ap (λ v. Begin (VisitBy st.next v (E env)) (A acts) (T (record st { depth = d; next = n }))) (first st.store room l))
    perform_ren (Raises s e) env acts st room = refl
    perform_ren (RaisesNew class slots) env acts st room = refl
    perform_ren (Controls c e v) env acts st room =
        ap (λ ms. control_act S' p (turn_of (object x e) ms) c (ren x v) (E env) (A acts) (T st)) (marks_ren x acts)
        ∙ ap (λ f. control_act S' p f c (ren x v) (E env) (A acts) (T st)) (turn_ren x e (marks scoped_number acts))
        ∙ control_ren (turn_of e (marks scoped_number acts)) c v env acts st
    perform_ren (Terminates v) env acts st room = refl
