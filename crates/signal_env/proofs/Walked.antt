-- A walk over what stands, an activation at a time.
use Rattle.std.proofs.Common.{◌≡◌, ℕ, zero, suc, ◌+◌, true, false, List, [], ◌∷◌, drop, Some, None, refl, ap, sym, ◌∙◌, arith, subst, if◌then◌else◌}
use Rattle.st_contexts.specs.declared.activation.Numbered.{Numbered}
use Rattle.st_contexts.specs.Stack.{Standing, numbered, numbered_at}
use Rattle.signal_env.specs.declared.turns.FoundTurn.{FoundTurn}
use Rattle.signal_env.specs.Turns.{turn_at, or_turn, turn_in, signals_at, live_in}

-- the activations from a place on
pub front : (place : ℕ) (acts : List Standing) (n : Numbered) → Some n ≡ numbered_at place acts → (a : Standing) × ((drop place acts ≡ a ∷ drop (suc place) acts) × (numbered a ≡ n))
front zero [] n e = cc
front (suc place) [] n e = cc
front zero (a ∷ acts) n e = let is : numbered a ≡ n = cc in (a, (refl, is))
front (suc place) (a ∷ acts) n e = front place acts n e

pub nothing_left : (place : ℕ) (acts : List Standing) → None ≡ numbered_at place acts → drop place acts ≡ []
nothing_left zero [] e = refl
nothing_left (suc place) [] e = refl
nothing_left zero (a ∷ acts) e = cc
nothing_left (suc place) (a ∷ acts) e = nothing_left place acts e

-- ---- turns

turn_next : (e : ℕ) (a : Standing) (acts rest : List Standing) (n : Numbered) → acts ≡ a ∷ rest → numbered a ≡ n → turn_in e acts ≡ or_turn (turn_at e n) (turn_in e rest)
unfolding turn_in
turn_next e a acts rest n whole is = rw (whole, ← is) refl

turn_rest : (e place : ℕ) (acts : List Standing) (n : Numbered) → Some n ≡ numbered_at place acts → turn_in e (drop place acts) ≡ or_turn (turn_at e n) (turn_in e (drop (suc place) acts))
turn_rest e place acts n at =
    let f : (a : Standing) × ((drop place acts ≡ a ∷ drop (suc place) acts) × (numbered a ≡ n)) = front place acts n at in
    turn_next e f.0 (drop place acts) (drop (suc place) acts) n f.1.0 f.1.1

pub turn_found : (e place : ℕ) (acts : List Standing) (n : Numbered) (t : FoundTurn) → turn_in e (drop place acts) ≡ turn_in e acts → Some n ≡ numbered_at place acts → Some t ≡ turn_at e n → Some t ≡ turn_in e acts
turn_found e place acts n t sofar at here = ap (λ o. or_turn o (turn_in e (drop (suc place) acts))) here ∙ sym (turn_rest e place acts n at) ∙ sofar

pub turn_passed : (e place : ℕ) (acts : List Standing) (n : Numbered) → turn_in e (drop place acts) ≡ turn_in e acts → Some n ≡ numbered_at place acts → None ≡ turn_at e n → turn_in e (drop (place + 1) acts) ≡ turn_in e acts
turn_passed e place acts n sofar at here =
    let next : suc place ≡ place + 1 = omega arith in
    let rest : turn_in e (drop (suc place) acts) ≡ turn_in e acts = ap (λ o. or_turn o (turn_in e (drop (suc place) acts))) here ∙ sym (turn_rest e place acts n at) ∙ sofar in
    rw (← next) rest

pub turn_none : (e place : ℕ) (acts : List Standing) → turn_in e (drop place acts) ≡ turn_in e acts → drop place acts ≡ [] → None ≡ turn_in e acts
unfolding turn_in
turn_none e place acts sofar none = let P : List Standing → Type 0 = λ l. turn_in e l ≡ turn_in e acts in subst P none sofar

-- ---- signals

live_next : (e : ℕ) (a : Standing) (acts rest : List Standing) (n : Numbered) → acts ≡ a ∷ rest → numbered a ≡ n → live_in e acts ≡ (if signals_at e n then true else live_in e rest)
unfolding live_in
live_next e a acts rest n whole is = rw (whole, ← is) refl

live_rest : (e place : ℕ) (acts : List Standing) (n : Numbered) → Some n ≡ numbered_at place acts → live_in e (drop place acts) ≡ (if signals_at e n then true else live_in e (drop (suc place) acts))
live_rest e place acts n at =
    let f : (a : Standing) × ((drop place acts ≡ a ∷ drop (suc place) acts) × (numbered a ≡ n)) = front place acts n at in
    live_next e f.0 (drop place acts) (drop (suc place) acts) n f.1.0 f.1.1

pub live_found : (e place : ℕ) (acts : List Standing) (n : Numbered) → live_in e (drop place acts) ≡ live_in e acts → Some n ≡ numbered_at place acts → true ≡ signals_at e n → true ≡ live_in e acts
live_found e place acts n sofar at here = ap (λ b. if b then true else live_in e (drop (suc place) acts)) here ∙ sym (live_rest e place acts n at) ∙ sofar

pub live_passed : (e place : ℕ) (acts : List Standing) (n : Numbered) → live_in e (drop place acts) ≡ live_in e acts → Some n ≡ numbered_at place acts → false ≡ signals_at e n → live_in e (drop (place + 1) acts) ≡ live_in e acts
live_passed e place acts n sofar at here =
    let next : suc place ≡ place + 1 = omega arith in
    let rest : live_in e (drop (suc place) acts) ≡ live_in e acts = ap (λ b. if b then true else live_in e (drop (suc place) acts)) here ∙ sym (live_rest e place acts n at) ∙ sofar in
    rw (← next) rest

pub live_none : (e place : ℕ) (acts : List Standing) → live_in e (drop place acts) ≡ live_in e acts → drop place acts ≡ [] → false ≡ live_in e acts
unfolding live_in
live_none e place acts sofar none = let P : List Standing → Type 0 = λ l. live_in e l ≡ live_in e acts in subst P none sofar
