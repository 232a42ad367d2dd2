-- What stands beside the bodies is the same on both machines: signals, searches, turns, protection, loops and what messages do at once, a law for each.
use Rattle.std.proofs.Common.{◌≡◌, ℕ, zero, suc, ◌+◌, max, List, [], ◌∷◌, length, Option, Some, None, Bool, true, false, refl, sym, ap, ◌∙◌, subst, arith, nat_le, if◌then◌else◌, slice_get, nat_eq}
use Rattle.std.proofs.lemmas.Option.{slice_get-map}
use Rattle.std.specs.Option.{option_map, option_and_then}
use Rattle.object_heap.specs.declared.value.Value.{Value}
use Rattle.object_heap.specs.declared.value.Value.TheVariants.{Object}
use Rattle.object_heap.specs.declared.value.Closure.{Closure}
use Rattle.object_heap.specs.Store.{Store, Scope, object_at}
use Rattle.st_code.specs.Program.{Program, body_at}
use Rattle.st_code.specs.Messages.{Control}
use Rattle.st_code.specs.Lookup.{level_of, is_plain, fits, is_exception}
use Rattle.st_collections.specs.Actions.{Action, Gives, Changes, Makes, Writes, Fails, DividesByZero, PassesIntegers, Begins, Activates, Sends, Misses, Enters, Guards, Ensures, Curtails, Iterates, Raises, RaisesNew, Controls, Terminates, LoopState, Visit, Applies, Compares, Finishes, Lacks, Charges, with_new}
use Rattle.st_collections.specs.Kinds.{is_true}
use Rattle.st_collections.specs.Loops.{first_visit, next_visit}
use Rattle.st_rules.specs.State.{State, Entry, Env, Target, DepthLimit, CellLimit, Outcome, Answer, Go, Stop, Turn, FoundTurn, NoTurn, TurnAt, turn_of, is_live, stood, used}
use Rattle.st_rules.specs.Ends.{charged, ended, at_home, with_arguments, with_message, turn_end, outer_end, SignalVerdict, Ends, Signals, signal_end, Verdict, Leaves, Again, protect_end, Search, turn_for, Wait, ToResume, ToOuter}
use Rattle.st_rules.specs.Rules.{Use, closure_for, apply_by, handler_by, with_exception, exception_cells}
use Rattle.st_rules.specs.ExceptionRows.{closure_of}
use Rattle.st_rules.specs.Machine.{Act, BodyAct, Leaving, ProtectAct, EnsureOn, CurtailOn, ActionOff, SignalAct, HandlerRun, OuterAct, ResumeWait, HandlesWait, LoopAct, Mach, Settle, Begin, Bodies, marks, stopped, raise_act, raise_new_act, tried_act, judged_act, search_act, turn_act, asked_act, resignal_act, resignal_as_act, control_by_act, control_without_act, control_in_act, control_act, visit_act, perform_act, protect_verdict, signal_verdict, give, unwind}
use Rattle.st_rules.specs.Scoped.{ScopedBody, scoped_number, scoped}
use Rattle.st_rules.specs.Flat.{FlatBody, flat_number}
use Rattle.st_rules.specs.Flattened.{flat_of}
use Rattle.st_rules.proofs.SameRows.{with_rest}
use Rattle.st_rules.proofs.SameVisits.{relabeled_visit, next_visit_free, first_visit_free}
use Rattle.st_rules.proofs.Flattening.{Places, placed, flat_closures, flat_store, flat_state, flat_act, flat_acts, flat_action, StoreHolds, ClosureHolds, ClosuresHold, ActsHold, Keeps, ActionHolds, VisitHolds, SettleHolds, Follows, marks_same, unwound}

-- a visit that has the closures and scopes of the store that it began in
visit_keeps : (p : Program) (cs : List Closure) (ss : List Scope) (v w : Visit) → v ≡ relabeled_visit cs ss w → v ≡ w → VisitHolds p cs ss v
visit_keeps p cs ss (Applies l v args) w e f = tt
visit_keeps p cs ss (Compares l r v) w e f = tt
visit_keeps p cs ss (Finishes v) w e f = tt
visit_keeps p cs ss (Lacks l) w e f = tt
visit_keeps p cs ss (Charges n s v) w e f =
    let same : Charges n s v ≡ Charges n (with_rest cs ss s) (relabeled_visit cs ss v) = e ∙ ap (relabeled_visit cs ss) (sym f) in
    let store : with_rest cs ss s ≡ s = sym (charges_store n s v (with_rest cs ss s) (relabeled_visit cs ss v) same) in
    let rest : v ≡ relabeled_visit cs ss v = charges_rest n s v (with_rest cs ss s) (relabeled_visit cs ss v) same in
    (store, visit_keeps p cs ss v v rest refl)
  where
    charges_store : (n : ℕ) (s : Store) (v : Visit) (s' : Store) (v' : Visit) → Charges n s v ≡ Charges n s' v' → s ≡ s'
    charges_store n s v s' v' e = cc

    charges_rest : (n : ℕ) (s : Store) (v : Visit) (s' : Store) (v' : Visit) → Charges n s v ≡ Charges n s' v' → v ≡ v'
    charges_rest n s v s' v' e = cc

pub visit_held : (p : Program) (cs : List Closure) (ss : List Scope) (v : Visit) → v ≡ relabeled_visit cs ss v → VisitHolds p cs ss v
visit_held p cs ss v e = visit_keeps p cs ss v v e refl

-- all that stands but a body
abbrev pub IsControl : Act ScopedBody → Type 0
IsControl (BodyAct x) = ⊥
IsControl (Leaving x) = Unit {0}
IsControl (ProtectAct receiver entry env) = Unit {0}
IsControl (EnsureOn n block env) = Unit {0}
IsControl (CurtailOn n block env) = Unit {0}
IsControl (ActionOff n held) = Unit {0}
IsControl (SignalAct n e env) = Unit {0}
IsControl (HandlerRun n t) = Unit {0}
IsControl (OuterAct n) = Unit {0}
IsControl (ResumeWait n w k t env) = Unit {0}
IsControl (HandlesWait n x entry rest) = Unit {0}
IsControl (LoopAct n l env) = Unit {0}

module _ (p : Program) (g : Places) where
  abbrev Fs : State → State
  Fs st = flat_state g st

  abbrev Fa : State → List (Act ScopedBody) → List (Act FlatBody)
  Fa st acts = flat_acts p st.store.scopes g.places acts

  abbrev pub Holds : State → List (Act ScopedBody) → Type 0
  Holds st acts = StoreHolds p g st.store.scopes st.store.closures × ActsHold p st.store.scopes (length st.store.scopes) acts

  abbrev F : Bodies FlatBody
  F = flat_of p

  abbrev S : Bodies ScopedBody
  S = scoped p

  -- ---- charges

  pub stood_follows : (acts : List (Act ScopedBody)) (st : State) (k' : State → Mach FlatBody) (k : State → Mach ScopedBody) → ((d n : ℕ) → Follows p g (k' (record (Fs st) { depth = d; next = n })) (k (record st { depth = d; next = n }))) → Follows p g (charged (stood p (marks flat_number (Fa st acts)) (Fs st)) (stopped DepthLimit (Fa st acts) (Fs st)) k') (charged (stood p (marks scoped_number acts) st) (stopped DepthLimit acts st) k)
  unfolding stood
  stood_follows acts st k' k h =
      subst (λ ms. Follows p g (charged (stood p ms (Fs st)) (stopped DepthLimit (Fa st acts) (Fs st)) k') (charged (stood p (marks scoped_number acts) st) (stopped DepthLimit acts st) k))
      (sym (marks_same p st.store.scopes g.places acts))
      (go (nat_le (length (marks scoped_number acts) + 1) p.depth_limit))
    where
      go : (c : Bool) → Follows p g (charged (if c then Some (record (Fs st) { depth = max st.depth (length (marks scoped_number acts) + 1); next = st.next + 1 }) else None) (stopped DepthLimit (Fa st acts) (Fs st)) k') (charged (if c then Some (record st { depth = max st.depth (length (marks scoped_number acts) + 1); next = st.next + 1 }) else None) (stopped DepthLimit acts st) k)
      go true = h _ _
      go false = (refl, tt)

  pub used_follows : (cells : ℕ) (acts : List (Act ScopedBody)) (st : State) (k' : State → Mach FlatBody) (k : State → Mach ScopedBody) → ((c : ℕ) → Follows p g (k' (record (Fs st) { cells = c })) (k (record st { cells = c }))) → Follows p g (charged (used p cells (Fs st)) (stopped CellLimit (Fa st acts) (Fs st)) k') (charged (used p cells st) (stopped CellLimit acts st) k)
  unfolding used
  used_follows cells acts st k' k h = go (nat_le (st.cells + cells) p.cell_limit)
    where
      go : (c : Bool) → Follows p g (charged (if c then Some (record (Fs st) { cells = st.cells + cells }) else None) (stopped CellLimit (Fa st acts) (Fs st)) k') (charged (if c then Some (record st { cells = st.cells + cells }) else None) (stopped CellLimit acts st) k)
      go true = h _
      go false = (refl, tt)

  -- ---- outcomes

  pub settles : (o : Outcome) (acts : List (Act ScopedBody)) (st : State) → Holds st acts → SettleHolds p g o acts st.store
  settles (Answer v) acts st h = h
  settles (Go t v) acts st h = (h.0, unwound p st.store.scopes (length st.store.scopes) acts h.1)
  settles (Stop l) acts st h = tt

  pub settle_follows : (o : Outcome) (acts : List (Act ScopedBody)) (st : State) → Holds st acts → Follows p g (Settle o (Fa st acts) (Fs st)) (Settle o acts st)
  settle_follows o acts st h = (refl, settles o acts st h)

  pub told_follows : (n : ℕ) (o : Outcome) (acts : List (Act ScopedBody)) (st : State) → Holds st acts → Follows p g (Settle o (Fa st acts) (ended n o (Fs st))) (Settle o acts (ended n o st))
  told_follows n (Answer v) acts st h = (refl, h)
  told_follows n (Go t v) acts st h = (refl, (h.0, unwound p st.store.scopes (length st.store.scopes) acts h.1))
  told_follows n (Stop l) acts st h = (refl, tt)

  -- ---- closures

  -- a closure that both find
  abbrev pub Both : List Scope → Option Closure → Option Closure → Type 0
  Both ss None o = o ≡ None
  Both ss (Some c) o = (o ≡ Some (placed g.places c)) × ClosureHolds p ss c

  closure_held : (ss : List Scope) (cs : List Closure) (k : ℕ) (o : Option Closure) → ClosuresHold p ss cs → slice_get cs k ≡ o → Both ss o (option_map (placed g.places) o)
  closure_held ss cs k None h e = refl
  closure_held ss [] k (Some c) h e = let none : ⊥ = grind (arith, e) in absurd none
  closure_held ss (d ∷ cs) zero (Some c) h e = let same : d ≡ c = cc in (refl, subst (λ x. ClosureHolds p ss x) same h.0)
  closure_held ss (d ∷ cs) (suc k) (Some c) h e = closure_held ss cs k (Some c) h.1 e

  both_after : (ss : List Scope) (cs : List Closure) (o : Option ℕ) → ClosuresHold p ss cs → Both ss (option_and_then (λ k. slice_get cs k) o) (option_and_then (λ k. slice_get (flat_closures g cs) k) o)
  both_after ss cs None h = refl
  both_after ss cs (Some k) h = subst (λ o. Both ss (slice_get cs k) o) (sym (slice_get-map (placed g.places) cs k)) (closure_held ss cs k (slice_get cs k) h refl)

  pub both_of : (s : Store) (v : Value) → ClosuresHold p s.scopes s.closures → Both s.scopes (closure_of s v) (closure_of (flat_store g s) v)
  unfolding closure_of
  both_of s (Object n) h = both_after s.scopes s.closures (object_at n s).closure h
  both_of s v h = refl

  abbrev that_takes : Option Closure → ℕ → Option Closure
  that_takes None count = None
  that_takes (Some c) count = elim (nat_eq (body_at p c.code).parameters count) [ true ↦ Some c | false ↦ None ]

  both_take : (ss : List Scope) (o o' : Option Closure) (count : ℕ) → Both ss o o' → Both ss (that_takes o count) (that_takes o' count)
  both_take ss None o' count h = subst (λ x. Both ss None (that_takes x count)) (sym h) refl
  both_take ss (Some c) o' count h = subst (λ x. Both ss (that_takes (Some c) count) (that_takes x count)) (sym h.0) (go (nat_eq (body_at p c.code).parameters count))
    where
      go : (b : Bool) → Both ss (elim b [ true ↦ Some c | false ↦ None ]) (elim b [ true ↦ Some (placed g.places c) | false ↦ None ])
      go true = (refl, h.1)
      go false = refl

  pub both_for : (s : Store) (v : Value) (count : ℕ) → ClosuresHold p s.scopes s.closures → Both s.scopes (closure_for p s v count) (closure_for p (flat_store g s) v count)
  unfolding closure_for
  both_for s v count h = both_take s.scopes (closure_of s v) (closure_of (flat_store g s) v) count (both_of s v h)

  pub apply_follows : (o o' : Option Closure) (v : Value) (args : List Value) (env : Env) (acts : List (Act ScopedBody)) (st : State) → Holds st acts → Both st.store.scopes o o' → Follows p g (Begin (apply_by p o' v args env) (Fa st acts) (Fs st)) (Begin (apply_by p o v args env) acts st)
  apply_follows None o' v args env acts st h b = subst (λ x. Follows p g (Begin (apply_by p x v args env) (Fa st acts) (Fs st)) (Begin (apply_by p None v args env) acts st)) (sym b) (refl, h.0, tt, h.1)
  apply_follows (Some c) o' v args env acts st h b = subst (λ x. Follows p g (Begin (apply_by p x v args env) (Fa st acts) (Fs st)) (Begin (apply_by p (Some c) v args env) acts st)) (sym b.0) (refl, h.0, b.1, h.1)

  handler_follows : (o o' : Option Closure) (handler : Value) (e : ℕ) (env : Env) (acts : List (Act ScopedBody)) (st : State) → Holds st acts → Both st.store.scopes o o' → Follows p g (Begin (handler_by o' handler e env) (Fa st acts) (Fs st)) (Begin (handler_by o handler e env) acts st)
  handler_follows None o' handler e env acts st h b = subst (λ x. Follows p g (Begin (handler_by x handler e env) (Fa st acts) (Fs st)) (Begin (handler_by None handler e env) acts st)) (sym b) (refl, h.0, tt, h.1)
  handler_follows (Some c) o' handler e env acts st h b = subst (λ x. Follows p g (Begin (handler_by x handler e env) (Fa st acts) (Fs st)) (Begin (handler_by (Some c) handler e env) acts st)) (sym b.0) (refl, h.0, b.1, h.1)

  -- ---- signals, searches and turns

  pub raise_follows : (live : Bool) (e : ℕ) (env : Env) (acts : List (Act ScopedBody)) (st : State) → Holds st acts → Follows p g (raise_act F p live e env (Fa st acts) (Fs st)) (raise_act S p live e env acts st)
  raise_follows true e env acts st h = (refl, h.0, tt, h.1)
  raise_follows false e env acts st h = stood_follows acts st _ _ (λ d n. (refl, h.0, tt, h.1))

  pub raise_new_follows : (c : ℕ) (slots : List Value) (env : Env) (acts : List (Act ScopedBody)) (st : State) → Holds st acts → Follows p g (raise_new_act F p c slots env (Fa st acts) (Fs st)) (raise_new_act S p c slots env acts st)
  unfolding with_exception with_new
  raise_new_follows c slots env acts st h = stood_follows acts st _ _ (λ d n. used_follows (exception_cells p c) acts _ _ _ (λ u. (refl, h.0, tt, h.1)))

  tried_follows : (a : Bool) (x : Search) (entry : Entry) (rest : Env) (acts : List (Act ScopedBody)) (st : State) → Holds st acts → Follows p g (tried_act F p a x entry rest (Fa st acts) (Fs st)) (tried_act S p a x entry rest acts st)
  tried_follows true x entry rest acts st h = (refl, h.0, tt, h.1)
  tried_follows false x entry rest acts st h = (refl, h.0, tt, h.1)

  judged_follows : (a : Bool) (x : Search) (entry : Entry) (rest : Env) (acts : List (Act ScopedBody)) (st : State) → Holds st acts → Follows p g (judged_act F p a x entry rest (Fa st acts) (Fs st)) (judged_act S p a x entry rest acts st)
  unfolding fits
  judged_follows true x entry rest acts st h = tried_follows (fits p st.store entry.selector (object_at x.exception st.store).class) x entry rest acts st h
  judged_follows false x entry rest acts st h = stood_follows acts st _ _ (λ d n. (refl, h.0, tt, h.1))

  pub search_follows : (x : Search) (rest : Env) (acts : List (Act ScopedBody)) (st : State) → Holds st acts → Follows p g (search_act F p x rest (Fa st acts) (Fs st)) (search_act S p x rest acts st)
  unfolding is_plain level_of
  search_follows x [] acts st h = (refl, h.0, tt, h.1)
  search_follows x (entry ∷ rest) acts st h = judged_follows (is_plain p st.store entry.selector) x entry rest acts st h

  pub turn_follows : (a : Bool) (x : Search) (entry : Option Entry) (outside : Env) (acts : List (Act ScopedBody)) (st : State) → Holds st acts → Follows p g (turn_act F p a x entry outside (Fa st acts) (Fs st)) (turn_act S p a x entry outside acts st)
  turn_follows true x None outside acts st h = (refl, h)
  turn_follows true x (Some entry) outside acts st h = (refl, h)
  turn_follows false x None outside acts st h = stood_follows acts st _ _ (λ d n. (refl, h.0, tt, h.1))
  turn_follows false x (Some entry) outside acts st h =
      stood_follows acts st _ _ (λ d n. handler_follows (closure_for p st.store entry.handler 0) (closure_for p (flat_store g st.store) entry.handler 0) entry.handler x.exception outside (HandlerRun st.next (turn_for x (Some entry) outside) ∷ acts) _ h (both_for st.store entry.handler 0 h.0.closures))

  -- ---- exception actions

  asked_follows : (a : Bool) (w : Wait) (k : ℕ) (t : Turn) (env : Env) (acts : List (Act ScopedBody)) (st : State) → Holds st acts → Follows p g (asked_act F p a w k t env (Fa st acts) (Fs st)) (asked_act S p a w k t env acts st)
  asked_follows true (ToResume v) k t env acts st h = settle_follows _ acts st h
  asked_follows false (ToResume v) k t env acts st h = (refl, h.0, tt, h.1)
  asked_follows true ToOuter k t env acts st h = stood_follows acts st _ _ (λ d n. (refl, h.0, tt, h.1))
  asked_follows false ToOuter k t env acts st h = (refl, h.0, tt, h.1)

  resignal_follows : (a live : Bool) (t : Turn) (f : ℕ) (v : Value) (env : Env) (acts : List (Act ScopedBody)) (st : State) → Holds st acts → Follows p g (resignal_act F p a live t f v env (Fa st acts) (Fs st)) (resignal_act S p a live t f v env acts st)
  resignal_follows false live t f v env acts st h = (refl, h.0, tt, h.1)
  resignal_follows true true t f v env acts st h = (refl, h.0, tt, h.1)
  resignal_follows true false t f v env acts st h = settle_follows _ acts st h

  resignal_as_follows : (t : Turn) (v : Value) (env : Env) (acts : List (Act ScopedBody)) (st : State) → Holds st acts → Follows p g (resignal_as_act F p t v env (Fa st acts) (Fs st)) (resignal_as_act S p t v env acts st)
  unfolding is_exception
  resignal_as_follows t (Object f) env acts st h =
      subst (λ ms. Follows p g (resignal_act F p (is_exception p st.store (Object f)) (is_live f ms) t f (Object f) env (Fa st acts) (Fs st)) (resignal_as_act S p t (Object f) env acts st))
      (sym (marks_same p st.store.scopes g.places acts))
      (resignal_follows (is_exception p st.store (Object f)) (is_live f (marks scoped_number acts)) t f (Object f) env acts st h)
  resignal_as_follows t v env acts st h = (refl, h.0, tt, h.1)

  control_by_follows : (c : Control) (v : Value) (k : ℕ) (t : Turn) (entry : Entry) (env : Env) (acts : List (Act ScopedBody)) (st : State) → Holds st acts → Follows p g (control_by_act F p c v k t entry env (Fa st acts) (Fs st)) (control_by_act S p c v k t entry env acts st)
  control_by_follows Control.Return v k t entry env acts st h = settle_follows _ acts st h
  control_by_follows Control.Retry v k t entry env acts st h = settle_follows _ acts st h
  control_by_follows Control.RetryUsing v k t entry env acts st h = settle_follows _ acts st h
  control_by_follows Control.Resume v k t entry env acts st h = (refl, h.0, tt, h.1)
  control_by_follows Control.Pass v k t entry env acts st h = (refl, h.0, tt, h.1)
  control_by_follows Control.Outer v k t entry env acts st h = (refl, h.0, tt, h.1)
  control_by_follows Control.ResignalAs v k t entry env acts st h = resignal_as_follows t v env acts st h
  control_by_follows Control.IsNested v k t entry env acts st h = (refl, h.0, tt, h.1)

  control_without_follows : (c : Control) (v : Value) (k : ℕ) (t : Turn) (env : Env) (acts : List (Act ScopedBody)) (st : State) → Holds st acts → Follows p g (control_without_act F p c v k t env (Fa st acts) (Fs st)) (control_without_act S p c v k t env acts st)
  control_without_follows Control.Resume v k t env acts st h = (refl, h.0, tt, h.1)
  control_without_follows c v k t env acts st h = (refl, h.0, tt, h.1)

  control_in_follows : (entry : Option Entry) (c : Control) (v : Value) (k : ℕ) (t : Turn) (env : Env) (acts : List (Act ScopedBody)) (st : State) → Holds st acts → Follows p g (control_in_act F p entry c v k t env (Fa st acts) (Fs st)) (control_in_act S p entry c v k t env acts st)
  control_in_follows (Some entry) c v k t env acts st h = control_by_follows c v k t entry env acts st h
  control_in_follows None c v k t env acts st h = control_without_follows c v k t env acts st h

  control_follows : (f : FoundTurn) (c : Control) (v : Value) (env : Env) (acts : List (Act ScopedBody)) (st : State) → Holds st acts → Follows p g (control_act F p f c v env (Fa st acts) (Fs st)) (control_act S p f c v env acts st)
  control_follows NoTurn c v env acts st h = (refl, h.0, tt, h.1)
  control_follows (TurnAt k t) c v env acts st h = control_in_follows t.entry c v k t env acts st h

  -- ---- loops

  pub visit_follows : (n : ℕ) (v : Visit) (env : Env) (acts : List (Act ScopedBody)) (st : State) → Holds st acts → VisitHolds p st.store.closures st.store.scopes v → Follows p g (visit_act F p n (relabeled_visit (flat_closures g st.store.closures) g.scopes v) env (Fa st acts) (Fs st)) (visit_act S p n v env acts st)
  visit_follows n (Applies l v args) env acts st h i = (refl, h.0, tt, h.1)
  visit_follows n (Compares l r v) env acts st h i = (refl, h.0, tt, h.1)
  visit_follows n (Finishes v) env acts st h i = (refl, h)
  visit_follows n (Lacks l) env acts st h i = (refl, h.0, tt, h.1)
  visit_follows n (Charges cells s v) env acts st h i =
      used_follows cells acts st _ _ (λ c.
      subst (λ z. Follows p g (visit_act F p n (relabeled_visit (flat_closures g st.store.closures) g.scopes v) env (Fa st acts) (record (Fs st) { cells = c; store = with_rest (flat_closures g st.store.closures) g.scopes z })) (visit_act S p n v env acts (record st { cells = c; store = z })))
      i.0
      (visit_follows n v env acts (record st { cells = c; store = with_rest st.store.closures st.store.scopes s }) h i.1))

  -- ---- what a message does at once

  kept_follows : (v : Value) (s : Store) (acts : List (Act ScopedBody)) (st : State) → Holds st acts → Keeps p st.store.closures st.store.scopes s → Follows p g (Settle (Answer v) (Fa st acts) (record (Fs st) { store = with_rest (flat_closures g st.store.closures) g.scopes s })) (Settle (Answer v) acts (record st { store = s }))
  kept_follows v s acts st h e =
      subst (λ z. Follows p g (Settle (Answer v) (Fa st acts) (record (Fs st) { store = with_rest (flat_closures g st.store.closures) g.scopes z })) (Settle (Answer v) acts (record st { store = z }))) e (refl, h)

  -- the same, where a closure may be added
  made_follows : (v : Value) (s : Store) (acts : List (Act ScopedBody)) (st : State) → Holds st acts → s.scopes ≡ st.store.scopes → ClosuresHold p st.store.scopes s.closures → Follows p g (Settle (Answer v) (Fa st acts) (record (Fs st) { store = flat_store g s })) (Settle (Answer v) acts (record st { store = s }))
  made_follows v s acts st h e i =
      subst (λ ss. Follows p g (Settle (Answer v) (Fa st acts) (record (Fs st) { store = flat_store g s })) (Settle (Answer v) acts (record st { store = record { objects = s.objects; closures = s.closures; scopes = ss } }))) (sym e)
      (refl, (record { scopes = h.0.scopes; closures = i }, h.1))

  pub perform_follows : (a : Action) (env : Env) (acts : List (Act ScopedBody)) (st : State) → Holds st acts → ActionHolds p st.store.closures st.store.scopes a → Follows p g (perform_act F p (flat_action p g st.store.closures a) env (Fa st acts) (Fs st)) (perform_act S p a env acts st)
  unfolding with_arguments with_message with_new
  perform_follows (Gives v) env acts st h i = (refl, h)
  perform_follows (Changes s v) env acts st h i = kept_follows v s acts st h i
  perform_follows (Makes cells s v) env acts st h i = used_follows cells acts st _ _ (λ c. made_follows v s acts (record st { cells = c }) h i.0 i.1)
  perform_follows (Writes text v) env acts st h i = (refl, h)
  perform_follows (Fails trouble) env acts st h i = (refl, h.0, tt, h.1)
  perform_follows (DividesByZero dividend) env acts st h i = (refl, h.0, tt, h.1)
  perform_follows PassesIntegers env acts st h i = (refl, tt)
  perform_follows (Begins v args) env acts st h i = (refl, h.0, tt, h.1)
  perform_follows (Activates c args) env acts st h i = (refl, h.0, i, h.1)
  perform_follows (Sends selector r args) env acts st h i = (refl, h.0, tt, h.1)
  perform_follows (Misses selector r args) env acts st h i = used_follows (1 + length args) acts st _ _ (λ c. used_follows 3 acts _ _ _ (λ d. (refl, h.0, tt, h.1)))
  perform_follows (Enters code r args) env acts st h i = (refl, h.0, i, h.1)
  perform_follows (Guards receiver selector handler) env acts st h i = stood_follows acts st _ _ (λ d n. (refl, h.0, tt, h.1))
  perform_follows (Ensures receiver block) env acts st h i = stood_follows acts st _ _ (λ d n. (refl, h.0, tt, h.1))
  perform_follows (Curtails receiver block) env acts st h i = stood_follows acts st _ _ (λ d n. (refl, h.0, tt, h.1))
  perform_follows (Iterates l) env acts st h i =
      stood_follows acts st _ _ (λ d n. (ap (λ v. Begin (Use.VisitBy st.next v env) (Fa st acts) (record (Fs st) { depth = d; next = n })) (first_visit_free p st.store (flat_closures g st.store.closures) g.scopes l), h.0, visit_held p st.store.closures st.store.scopes (first_visit p st.store l) (first_visit_free p st.store st.store.closures st.store.scopes l), h.1))
  perform_follows (Raises s e) env acts st h i =
      subst (λ z. Follows p g (Begin (Use.Raise e env) (Fa st acts) (record (Fs st) { store = with_rest (flat_closures g st.store.closures) g.scopes z })) (Begin (Use.Raise e env) acts (record st { store = z }))) i (refl, h.0, tt, h.1)
  perform_follows (RaisesNew class slots) env acts st h i = (refl, h.0, tt, h.1)
  perform_follows (Controls c e v) env acts st h i =
      subst (λ ms. Follows p g (control_act F p (turn_of e ms) c v env (Fa st acts) (Fs st)) (perform_act S p (Controls c e v) env acts st)) (sym (marks_same p st.store.scopes g.places acts)) (control_follows (turn_of e (marks scoped_number acts)) c v env acts st h)
  perform_follows (Terminates v) env acts st h i = settle_follows _ acts st h

  -- ---- an outcome at an activation

  protect_follows : (d : Verdict) (entry : Entry) (env : Env) (acts : List (Act ScopedBody)) (st : State) → Holds st acts → Follows p g (protect_verdict F p d entry env (Fa st acts) (Fs st)) (protect_verdict S p d entry env acts st)
  protect_follows (Leaves o) entry env acts st h = told_follows entry.number o acts st h
  protect_follows (Again receiver) entry env acts st h = (refl, h.0, tt, h.1)

  signal_follows : (n e : ℕ) (d : SignalVerdict) (env : Env) (acts : List (Act ScopedBody)) (st : State) → Holds st acts → Follows p g (signal_verdict F p n e d env (Fa st acts) (Fs st)) (signal_verdict S p n e d env acts st)
  signal_follows n e (Ends o) env acts st h = told_follows n o acts st h
  signal_follows n e (Signals f) env acts st h = (refl, h.0, tt, h.1)

  turn_end_follows : (n : ℕ) (t : Turn) (o : Outcome) (acts : List (Act ScopedBody)) (st : State) → Holds st acts → Follows p g (Settle (turn_end t (marks flat_number (Fa st acts)) o) (Fa st acts) (ended n (turn_end t (marks flat_number (Fa st acts)) o) (Fs st))) (Settle (turn_end t (marks scoped_number acts) o) acts (ended n (turn_end t (marks scoped_number acts) o) st))
  turn_end_follows n t o acts st h =
      subst (λ ms. Follows p g (Settle (turn_end t ms o) (Fa st acts) (ended n (turn_end t ms o) (Fs st))) (Settle (turn_end t (marks scoped_number acts) o) acts (ended n (turn_end t (marks scoped_number acts) o) st)))
      (sym (marks_same p st.store.scopes g.places acts))
      (told_follows n (turn_end t (marks scoped_number acts) o) acts st h)

  -- a value at a control activation
  pub loop_gives : (n : ℕ) (l : LoopState) (v : Value) (env : Env) (acts : List (Act ScopedBody)) (st : State) → Holds st acts → Follows p g (Begin (Use.VisitBy n (next_visit p (flat_store g st.store) l v) env) (Fa st acts) (Fs st)) (Begin (Use.VisitBy n (next_visit p st.store l v) env) acts st)
  loop_gives n l v env acts st h =
      (ap (λ x. Begin (Use.VisitBy n x env) (Fa st acts) (Fs st)) (next_visit_free p st.store (flat_closures g st.store.closures) g.scopes l v), h.0, visit_held p st.store.closures st.store.scopes (next_visit p st.store l v) (next_visit_free p st.store st.store.closures st.store.scopes l v), h.1)

  pub control_gives : (v : Value) (a : Act ScopedBody) (acts : List (Act ScopedBody)) (st : State) → Holds st acts → IsControl a → Follows p g (give F p v (flat_act p st.store.scopes g.places a) (Fa st acts) (Fs st)) (give S p v a acts st)
  control_gives v (BodyAct x) acts st h c = absurd c
  control_gives v (Leaving x) acts st h c = (refl, h)
  control_gives v (ProtectAct receiver entry env) acts st h c = protect_follows (protect_end entry.number receiver (Answer v)) entry env acts st h
  control_gives v (EnsureOn n block env) acts st h c = (refl, h.0, tt, h.1)
  control_gives v (CurtailOn n block env) acts st h c = (refl, h)
  control_gives v (ActionOff n held) acts st h c = told_follows n held acts st h
  control_gives v (SignalAct n e env) acts st h c = signal_follows n e (signal_end n (Answer v)) env acts st h
  control_gives v (HandlerRun n t) acts st h c = turn_end_follows n t (Answer v) acts st h
  control_gives v (OuterAct n) acts st h c = told_follows n (outer_end n (Answer v)) acts st h
  control_gives v (ResumeWait n w k t env) acts st h c = asked_follows (is_true v) w k t env acts st h
  control_gives v (HandlesWait n x entry rest) acts st h c = tried_follows (is_true v) x entry rest acts _ h
  control_gives v (LoopAct n l env) acts st h c = loop_gives n l v env acts st h

  -- an unwinding at any activation
  pub unwinds : (t : Target) (v : Value) (a : Act ScopedBody) (acts : List (Act ScopedBody)) (st : State) → Holds st acts → Follows p g (unwind F p t v (flat_act p st.store.scopes g.places a) (Fa st acts) (Fs st)) (unwind S p t v a acts st)
  unwinds t v (BodyAct x) acts st h = settle_follows (at_home x.frame.own t v) acts st h
  unwinds t v (Leaving x) acts st h = settle_follows (at_home x.frame.own t v) acts st h
  unwinds t v (ProtectAct receiver entry env) acts st h = protect_follows (protect_end entry.number receiver (Go t v)) entry env acts st h
  unwinds t v (EnsureOn n block env) acts st h = (refl, h.0, tt, h.1)
  unwinds t v (CurtailOn n block env) acts st h = (refl, h.0, tt, h.1)
  unwinds t v (ActionOff n held) acts st h = told_follows n (Go t v) acts st h
  unwinds t v (SignalAct n e env) acts st h = signal_follows n e (signal_end n (Go t v)) env acts st h
  unwinds t v (HandlerRun n turn) acts st h = told_follows n (Go t v) acts st h
  unwinds t v (OuterAct n) acts st h = told_follows n (outer_end n (Go t v)) acts st h
  unwinds t v (ResumeWait n w k turn env) acts st h = settle_follows (Go t v) acts st h
  unwinds t v (HandlesWait n x entry rest) acts st h = told_follows n (Go t v) acts st h
  unwinds t v (LoopAct n l env) acts st h = settle_follows (Go t v) acts st h
