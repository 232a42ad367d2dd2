-- The environment that a link names is its entry with the environment of the entry's own link, wherever the numbers fall.
use Rattle.std.proofs.Common.{◌≡◌, ℕ, suc, zero, ◌<◌, ◌≤◌, List, [], ◌∷◌, take, drop, nat_lt, nat_eq, Bool, true, false, Option, Some, None, refl, ap, sym, ◌∙◌, arith, if◌then◌else◌}
use Rattle.std.proofs.lemmas.Bool.{ne_eqb, eqb-true, ltb-true, ltb-false}
use Rattle.object_heap.specs.declared.value.Value.{Value}
use Rattle.st_contexts.specs.declared.activation.Activation.{Activation}
use Rattle.st_contexts.specs.declared.activation.Activation.TheVariants.{Body, Leaving, Protect, EnsureOn, CurtailOn, ActionOff, Signal, HandlerRun, Outer, ResumeWait, HandlesWait, Loop}
use Rattle.st_contexts.specs.declared.activation.Env.{Env}
use Rattle.st_contexts.specs.declared.activation.Entry.{Entry}
use Rattle.st_contexts.specs.declared.contexts.Slot.{Slot}
use Rattle.st_contexts.specs.Marks.{entry_of}
use Rattle.st_contexts.specs.Stack.{Standing, standing_in, before, entry_at, entry_in, env_in, with_outside}
use Rattle.st_contexts.specs.Flat.{standing, standings, Falls}

pub no_env_in : (acts : List Standing) → env_in acts 0 ≡ []
unfolding env_in
no_env_in [] = refl
no_env_in (a ∷ acts) = refl

-- a link to a number that doesn't stand names nothing
past_env : (m link : ℕ) (us : List Slot) (vs : List Value) → Falls m us → m ≤ link → env_in (standings us vs) link ≡ []
unfolding env_in
past_env m link [] vs h l = refl
past_env m zero (u ∷ us) vs h l = refl
past_env m (suc link) (u ∷ us) vs h l =
    let other : nat_eq (suc link) u.number ≡ false = ne_eqb (suc link) u.number (λ e. let none : ⊥ = omega (arith, h.0, l, e) in none) in
    rw other (past_env u.number (suc link) us (drop u.count vs) h.1 (omega (arith, h.0, l)))

-- a link to a number further out names the same without the innermost activation
deeper_env : (link : ℕ) (u : Slot) (us : List Slot) (vs : List Value) → link < u.number → env_in (standings (u ∷ us) vs) link ≡ env_in (standings us (drop u.count vs)) link
unfolding env_in
deeper_env zero u us vs l = sym (no_env_in (standings us (drop u.count vs)))
deeper_env (suc link) u us vs l =
    let other : nat_eq (suc link) u.number ≡ false = ne_eqb (suc link) u.number (λ e. let none : ⊥ = omega (arith, l, e) in none) in
    rw other refl

-- an entry has the number and the link of its activation
record Of (n : ℕ) (env : Env) (o : Option Entry) : Type 0 where
  pub numbered : (e : Entry) → o ≡ Some e → e.protect ≡ n
  pub linked : (e : Entry) → o ≡ Some e → e.outside ≡ env

nothing_of : (n : ℕ) (env : Env) → Of n env None
nothing_of n env = record { numbered = λ e h. cc; linked = λ e h. cc }

entry_of_is : (n : ℕ) (kept : Activation) (env : Env) → Of n env (entry_of n kept env)
entry_of_is n (Protect r s h) env =
    record {
      numbered = λ e same. sym (ap (entry_number n) same);
      linked = λ e same. sym (ap (entry_outside env) same);
    }
  where
    entry_number : ℕ → Option Entry → ℕ
    entry_number d None = d
    entry_number d (Some e) = e.protect

    entry_outside : Env → Option Entry → Env
    entry_outside d None = d
    entry_outside d (Some e) = e.outside
entry_of_is n (Body f) env = nothing_of n env
entry_of_is n (Leaving f) env = nothing_of n env
entry_of_is n (EnsureOn b) env = nothing_of n env
entry_of_is n (CurtailOn b) env = nothing_of n env
entry_of_is n (ActionOff o) env = nothing_of n env
entry_of_is n (Signal e) env = nothing_of n env
entry_of_is n (HandlerRun t) env = nothing_of n env
entry_of_is n Outer env = nothing_of n env
entry_of_is n (ResumeWait w k t) env = nothing_of n env
entry_of_is n (HandlesWait s k) env = nothing_of n env
entry_of_is n (Loop l) env = nothing_of n env

-- ---- the entry itself

outside_is : (u : Slot) (us : List Slot) (vs : List Value) (n : ℕ) (env : Env) → Falls u.number us → n ≡ u.number → env ≡ u.env → (b : Bool) → nat_lt u.env.0 u.number ≡ b → env_in (standings us (drop u.count vs)) u.env.0 ≡ (if nat_lt env.0 n then env_in (standings (u ∷ us) vs) env.0 else [])
outside_is u us vs n env h en ee true t = rw (en, ee, t) (sym (deeper_env u.env.0 u us vs (ltb-true u.env.0 u.number t)))
outside_is u us vs n env h en ee false t = rw (en, ee, t) (past_env u.number u.env.0 us (drop u.count vs) h (ltb-false u.env.0 u.number t))

env_here : (u : Slot) (us : List Slot) (vs : List Value) → Falls u.number us → (o : Option Entry) → Of u.number u.env o → before o (env_in (standings us (drop u.count vs)) u.env.0) ≡ with_outside (standings (u ∷ us) vs) o
env_here u us vs h None f = refl
env_here u us vs h (Some e) f = ap (λ rest. e ∷ rest) (outside_is u us vs e.protect e.outside h (f.numbered e refl) (f.linked e refl) (nat_lt u.env.0 u.number) refl)

-- ---- an entry further out

-- what stands with a number has it, and the number is below the bound
record Below (m n : ℕ) (o : Option Standing) : Type 0 where
  pub numbered : (a : Standing) → o ≡ Some a → a.number ≡ n
  pub under : (a : Standing) → o ≡ Some a → n < m

nothing_below : (m n : ℕ) → Below m n None
nothing_below m n = record { numbered = λ a h. cc; under = λ a h. cc }

something_below : (m n : ℕ) (s : Standing) → s.number ≡ n → n < m → Below m n (Some s)
something_below m n s e l = record { numbered = λ a h. let same : s ≡ a = cc in rw (← same) e; under = λ a h. l }

standing_below : (m n : ℕ) (us : List Slot) (vs : List Value) → Falls m us → Below m n (standing_in n (standings us vs))
unfolding standing_in
standing_below m n [] vs h = nothing_below m n
standing_below m n (u ∷ us) vs h = step (nat_eq n u.number) refl (standing_below u.number n us (drop u.count vs) h.1)
  where
    step : (b : Bool) → nat_eq n u.number ≡ b → Below u.number n (standing_in n (standings us (drop u.count vs))) → Below m n (standing_in n (standings (u ∷ us) vs))
    step true t ih =
        let same : n ≡ u.number = eqb-true n u.number t in
        rw t (something_below m n (standing u (take u.count vs)) (sym same) (omega (arith, same, h.0)))
    step false t ih = rw t (record { numbered = ih.numbered; under = λ a e. omega (arith, ih.under a e, h.0) })

entry_below : (m n : ℕ) (o : Option Standing) → Below m n o → (e : Entry) → entry_at o ≡ Some e → e.protect < m
entry_below m n None f e h = cc
entry_below m n (Some a) f e h =
    let number : e.protect ≡ a.number = (entry_of_is a.number a.kept a.env).numbered e h in
    omega (arith, number, f.numbered a refl, f.under a refl)

deeper_outside : (u : Slot) (us : List Slot) (vs : List Value) (o : Option Entry) → ((e : Entry) → o ≡ Some e → e.protect < u.number) → with_outside (standings us (drop u.count vs)) o ≡ with_outside (standings (u ∷ us) vs) o
deeper_outside u us vs None h = refl
deeper_outside u us vs (Some e) h = step (nat_lt e.outside.0 e.protect) refl
  where
    step : (b : Bool) → nat_lt e.outside.0 e.protect ≡ b → with_outside (standings us (drop u.count vs)) (Some e) ≡ with_outside (standings (u ∷ us) vs) (Some e)
    step true t =
        let under : e.outside.0 < u.number = omega (arith, ltb-true e.outside.0 e.protect t, h e refl) in
        rw t (ap (λ rest. e ∷ rest) (sym (deeper_env e.outside.0 u us vs under)))
    step false t = rw t refl

env_link : (m link : ℕ) (us : List Slot) (vs : List Value) → Falls m us → env_in (standings us vs) (suc link) ≡ with_outside (standings us vs) (entry_at (standing_in (suc link) (standings us vs)))
unfolding env_in standing_in
env_link m link [] vs h = refl
env_link m link (u ∷ us) vs h = step (nat_eq (suc link) u.number) refl (env_link u.number link us (drop u.count vs) h.1)
  where
    step : (b : Bool) → nat_eq (suc link) u.number ≡ b → env_in (standings us (drop u.count vs)) (suc link) ≡ with_outside (standings us (drop u.count vs)) (entry_at (standing_in (suc link) (standings us (drop u.count vs)))) → env_in (standings (u ∷ us) vs) (suc link) ≡ with_outside (standings (u ∷ us) vs) (entry_at (standing_in (suc link) (standings (u ∷ us) vs)))
    step true t ih = rw t (env_here u us vs h.1 (entry_of u.number u.kept u.env) (entry_of_is u.number u.kept u.env))
    step false t ih =
        let out : Option Standing = standing_in (suc link) (standings us (drop u.count vs)) in
        rw t (ih ∙ deeper_outside u us vs (entry_at out) (entry_below u.number (suc link) out (standing_below u.number (suc link) us (drop u.count vs) h.1)))

pub code_environment : (m link : ℕ) (us : List Slot) (vs : List Value) (o : Option Entry) → Falls m us → nat_eq link 0 ≡ false → o ≡ entry_in link (standings us vs) → env_in (standings us vs) link ≡ with_outside (standings us vs) o
code_environment m zero us vs o h some e = cc
code_environment m (suc link) us vs o h some e =
    let first : o ≡ entry_at (standing_in (suc link) (standings us vs)) = rw some at e in
    rw first (env_link m link us vs h)
