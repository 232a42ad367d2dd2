-- The target of every unwinding stands, on both machines: the laws of AimedMachine.antt over a whole run.
use Rattle.std.proofs.Common.{◌≡◌, ℕ, zero, suc, List, [], ◌∷◌, Option, Some, None, Bool, true, false, refl, sym, ap, ◌∙◌, subst, arith}
use Rattle.object_heap.specs.declared.value.Value.{Value}
use Rattle.object_heap.specs.declared.value.Closure.{Closure}
use Rattle.st_code.specs.Program.{Program, Place, Initializer}
use Rattle.st_code.specs.Code.{Instr, PushConstant, PushSelf, Pop, Dup, PushVariable, Store as StoreVariable, SendMessage, SendSuper, MakeBlock, MethodReturn, HomeReturn, BlockEnd}
use Rattle.st_rules.specs.State.{State, Env, Answer, Go, Stop, Mark, BodyMark, Frame, stands}
use Rattle.st_rules.specs.Ends.{write_place, with_block, initializer_opening}
use Rattle.st_rules.specs.Runs.{Stuck as Stranded, first_state, kept_value}
use Rattle.st_rules.specs.Machine.{Act, BodyAct, Leaving, Mach, Run, Settle, Begin, Over, Stuck, Bodies, marks}
use Rattle.st_rules.specs.Scoped.{ScopedBody, scoped_body, scoped_number, scoped, Taken, TooFew, Takes, taken, sent, super_sent, leaves, instr, next_instr}
use Rattle.st_rules.specs.Flat.{FlatBody, flat_number}
use Rattle.st_rules.specs.Turns.{Top, On, Ended, open_next, top_step, top_iter, opened_run}
use Rattle.st_rules.specs.Compilable.{Compilable}
use Rattle.st_rules.specs.Flattened.{flat_of}
use Rattle.st_rules.specs.Unwindings.{ScopedTargetsStand, FlatTargetsStand}
use Rattle.st_rules.proofs.Targets.{AimedAt, env_more, homes_new, ok_body, home_stands}
use Rattle.st_rules.proofs.Aims.{place_kept}
use Rattle.st_rules.proofs.AimedMachine.{BodyFits, Held, HeldIn, MachFits, used_fits, open_fits, settle_fits, begins_fits}
use Rattle.st_rules.proofs.Flattening.{Goes, marks_same}
use Rattle.st_rules.proofs.NeverStuck.{machine_never_stuck}
use Rattle.st_rules.proofs.FlatTop.{TopFollows, top_law, opened_law}

module _ (p : Program) where
  abbrev S : Bodies ScopedBody
  S = scoped p

  abbrev M : List (Act ScopedBody) → List Mark
  M acts = marks scoped_number acts

  -- ---- instructions

  module _ (f : Frame) (env : Env) (acts : List (Act ScopedBody)) where
    abbrev FitsAt : ℕ → List Closure → Type 0
    FitsAt next cs = Held acts next cs × BodyFits f.own f.home env (M acts) next

    abbrev Fits : State → Type 0
    Fits st = FitsAt st.next st.store.closures

    waits : (ops : List Value) (rest : List Instr) (st : State) → Fits st → HeldIn (BodyAct (scoped_body f env ops rest) ∷ acts) st
    waits ops rest st h = (ok_body f.own (M acts) st.next st.store.closures h.0.0 h.1.own_taken, (h.1, h.0.1))

    leaving : (ops : List Value) (rest : List Instr) (st : State) → Fits st → HeldIn (Leaving (scoped_body f env ops rest) ∷ acts) st
    leaving ops rest st h = (ok_body f.own (M acts) st.next st.store.closures h.0.0 h.1.own_taken, (tt, h.0.1))

    written : (st : State) (place : Place) (v : Value) → Fits st → Fits (write_place p f st place v)
    written st place v h =
        let k = place_kept p f st place v in
        subst (λ n. FitsAt n (write_place p f st place v).store.closures) (sym k.1) (subst (λ cs. FitsAt st.next cs) (sym k.0) h)

    sent_fits : (selector : ℕ) (x : Taken) (rest : List Instr) (st : State) → Fits st → MachFits (sent p selector x f env rest acts st)
    sent_fits selector TooFew rest st h = tt
    sent_fits selector (Takes args []) rest st h = tt
    sent_fits selector (Takes args (r ∷ ops)) rest st h = (waits ops rest st h, env_more env (BodyMark f.own) (M acts) h.1.env_ok)

    super_fits : (selector : ℕ) (x : Taken) (rest : List Instr) (st : State) → Fits st → MachFits (super_sent p selector x f env rest acts st)
    super_fits selector TooFew rest st h = tt
    super_fits selector (Takes args []) rest st h = tt
    super_fits selector (Takes args (r ∷ ops)) rest st h = (waits ops rest st h, env_more env (BodyMark f.own) (M acts) h.1.env_ok)

    leaves_fits : (b : Bool) (v : Value) (ops : List Value) (rest : List Instr) (st : State) → stands f.home (BodyMark f.own ∷ M acts) ≡ b → Fits st → MachFits (leaves p b v f env ops rest acts st)
    leaves_fits true v ops rest st e h = (waits ops rest st h, home_stands f.home (BodyMark f.own ∷ M acts) h.1.home_ok e)
    leaves_fits false v ops rest st e h = (leaving ops rest st h, env_more env (BodyMark f.own) (M acts) h.1.env_ok)

    block_fits : (code : ℕ) (st : State) (c : ℕ) → Fits st → Fits (record st { cells = c; store = with_block f code st.store })
    unfolding with_block
    block_fits code st c h =
        let k : Closure = record { code = code; class = f.class; receiver = f.self; scope = f.scope; home = f.home } in
        ((record { sound = h.0.0.sound; under = h.0.0.under; homes = homes_new (M acts) st.next st.store.closures k h.0.0.homes h.1.home_ok.1 h.1.home_taken }, h.0.1), h.1)

    instr_fits : (i : Instr) (ops : List Value) (rest : List Instr) (st : State) → Fits st → MachFits (instr p i f env ops rest acts st)
    instr_fits (PushConstant v) ops rest st h = h
    instr_fits PushSelf ops rest st h = h
    instr_fits (PushVariable place) ops rest st h = h
    instr_fits (StoreVariable place) (v ∷ ops) rest st h = written st place v h
    instr_fits (StoreVariable place) [] rest st h = tt
    instr_fits Pop (v ∷ ops) rest st h = h
    instr_fits Pop [] rest st h = tt
    instr_fits Dup (v ∷ ops) rest st h = h
    instr_fits Dup [] rest st h = tt
    instr_fits (MakeBlock code) ops rest st h = used_fits p 2 st _ _ (waits ops rest st h, tt) (λ c. block_fits code st c h)
    instr_fits (SendMessage selector count) ops rest st h = sent_fits selector (taken count ops []) rest st h
    instr_fits (SendSuper selector count) ops rest st h = super_fits selector (taken count ops []) rest st h
    instr_fits MethodReturn (v ∷ ops) rest st h = (h.0, tt)
    instr_fits MethodReturn [] rest st h = tt
    instr_fits HomeReturn (v ∷ ops) rest st h = leaves_fits (stands f.home (BodyMark f.own ∷ M acts)) v ops rest st refl h
    instr_fits HomeReturn [] rest st h = tt
    instr_fits BlockEnd (v ∷ ops) rest st h = (h.0, tt)
    instr_fits BlockEnd [] rest st h = tt

    next_fits : (rest : List Instr) (ops : List Value) (st : State) → Fits st → MachFits (next_instr p f env ops rest acts st)
    next_fits [] ops st h = tt
    next_fits (i ∷ rest) ops st h = instr_fits i ops rest st h

  -- ---- a run

  abbrev pub TopFits : Top ScopedBody → Type 0
  TopFits (On target xs m) = MachFits m
  TopFits (Ended e st) = Unit {0}

  kept_fits : (target : Option ℕ) (v : Value) (st : State) → HeldIn [] st → HeldIn [] (kept_value target v st)
  kept_fits None v st h = h
  kept_fits (Some place) v st h = h

  opened_fits : (xs : List Initializer) (st : State) → HeldIn [] st → TopFits (open_next S p xs st)
  opened_fits [] st h = tt
  opened_fits (x ∷ xs) st h = open_fits p (initializer_opening p x st.next) [] st h (record { env_ok = tt; own_taken = omega arith; home_ok = (λ e. sym e, tt); home_taken = omega arith })

  top_fits : (t : Top ScopedBody) → TopFits t → TopFits (top_step S p t)
  top_fits (On target xs (Run x acts st)) h = next_fits x.frame x.env acts x.rest x.operands st h
  top_fits (On target xs (Settle o acts st)) h = settle_fits p o acts st h
  top_fits (On target xs (Begin u acts st)) h = begins_fits p u acts st h
  top_fits (On target xs (Over (Answer v) st)) h = opened_fits xs (kept_value target v st) (kept_fits target v st h)
  top_fits (On target xs (Over (Go g v) st)) h = tt
  top_fits (On target xs (Over (Stop l) st)) h = tt
  top_fits (On target xs (Stuck st)) h = tt
  top_fits (Ended e st) h = tt

  iter_fits : (n : ℕ) (t : Top ScopedBody) → TopFits t → TopFits (top_iter S p n t)
  iter_fits zero t h = h
  iter_fits (suc n) t h = iter_fits n (top_step S p t) (top_fits t h)

  first_fits : HeldIn [] (first_state p)
  unfolding first_state
  first_fits = (record { sound = tt; under = tt; homes = tt }, tt)

  pub run_fits : (n : ℕ) → TopFits (top_iter S p n (opened_run S p))
  run_fits n = iter_fits n (opened_run S p) (opened_fits p.initializers (first_state p) first_fits)

pub scoped_targets_stand : ScopedTargetsStand
scoped_targets_stand p n variable xs t v acts st e = let h = subst (TopFits p) e (run_fits p n) in h.1

-- ---- the flat machine is where the scoped one is

module _ (p : Program) (ok : Compilable p) where
  follows_iter : (n : ℕ) (t' : Top FlatBody) (t : Top ScopedBody) → TopFollows p ok t' t → TopFollows p ok (top_iter (flat_of p) p n t') (top_iter (scoped p) p n t)
  follows_iter zero t' t h = h
  follows_iter (suc n) t' t h = follows_iter n (top_step (flat_of p) p t') (top_step (scoped p) p t) (top_law p ok t' t h)

  pub run_follows : (n : ℕ) → TopFollows p ok (top_iter (flat_of p) p n (opened_run (flat_of p) p)) (top_iter (scoped p) p n (opened_run (scoped p) p))
  run_follows n = follows_iter n (opened_run (flat_of p) p) (opened_run (scoped p) p) (opened_law p ok)

  -- the scoped run is never stuck

  abbrev pub NotStuck : Top ScopedBody → Type 0
  NotStuck (On target xs (Stuck st)) = ⊥
  NotStuck (On target xs m) = Unit {0}
  NotStuck (Ended e st) = e ≡ Stranded → ⊥

  step_last : (n : ℕ) (t : Top ScopedBody) → top_iter (scoped p) p (suc n) t ≡ top_step (scoped p) p (top_iter (scoped p) p n t)
  step_last zero t = refl
  step_last (suc n) t = step_last n (top_step (scoped p) p t)

  never : (n : ℕ) (t : Top ScopedBody) → top_iter (scoped p) p n (opened_run (scoped p) p) ≡ t → NotStuck t
  never n (On target xs (Run x acts st)) e = tt
  never n (On target xs (Settle o acts st)) e = tt
  never n (On target xs (Begin u acts st)) e = tt
  never n (On target xs (Over o st)) e = tt
  never n (On target xs (Stuck st)) e = machine_never_stuck p (suc n) st (step_last n (opened_run (scoped p) p) ∙ ap (top_step (scoped p) p) e)
  never n (Ended d st) e = λ s. machine_never_stuck p n st (e ∙ ap (λ x. Ended x st) s)

  pub run_never : (n : ℕ) → NotStuck (top_iter (scoped p) p n (opened_run (scoped p) p))
  run_never n = never n (top_iter (scoped p) p n (opened_run (scoped p) p)) refl

  -- ---- and its unwindings are the same

  abbrev TopAimed : Top FlatBody → Type 0
  TopAimed (On target xs (Settle o acts st)) = AimedAt o (marks flat_number acts)
  TopAimed (On target xs m) = Unit {0}
  TopAimed (Ended e st) = Unit {0}

  mach_aims : (target : Option ℕ) (xs : List Initializer) (m' : Mach FlatBody) (m : Mach ScopedBody) → Goes p m' m → MachFits m → NotStuck (On target xs m) → TopAimed (On target xs m')
  mach_aims target xs m' (Run x acts st) g h s = subst (λ y. TopAimed (On target xs y)) (sym g.1.0) tt
  mach_aims target xs m' (Settle o acts st) g h s =
      subst (λ y. TopAimed (On target xs y)) (sym g.1.0) (subst (λ ms. AimedAt o ms) (sym (marks_same p st.store.scopes g.0.places acts)) h.1)
  mach_aims target xs m' (Begin u acts st) g h s = subst (λ y. TopAimed (On target xs y)) (sym g.1.0) tt
  mach_aims target xs m' (Over o st) g h s = subst (λ y. TopAimed (On target xs y)) (sym g.1.0) tt
  mach_aims target xs m' (Stuck st) g h s = absurd s

  top_aims : (t' : Top FlatBody) (t : Top ScopedBody) → TopFollows p ok t' t → TopFits p t → NotStuck t → TopAimed t'
  top_aims t' (On target xs m) f h s = subst TopAimed (sym f.1) (mach_aims target xs f.0 m f.2 h s)
  top_aims t' (Ended e st) f h s = let x = f s in subst TopAimed (sym x.1) tt

  flat_aims : (n : ℕ) → TopAimed (top_iter (flat_of p) p n (opened_run (flat_of p) p))
  flat_aims n = top_aims (top_iter (flat_of p) p n (opened_run (flat_of p) p)) (top_iter (scoped p) p n (opened_run (scoped p) p)) (run_follows n) (run_fits p n) (run_never n)

pub flat_targets_stand : FlatTargetsStand
flat_targets_stand p ok n variable xs t v acts st e = subst (TopAimed p ok) e (flat_aims p ok n)
