-- Variables of both machines: what is read is the same, and where a body further out has them.
use Rattle.std.proofs.Common.{◌≡◌, ℕ, zero, suc, ◌-◌, ◌<◌, ◌⊎◌, inl, inr, List, length, get_or, Option, Some, None, Bool, true, false, refl, sym, ap, ◌∙◌, subst, arith}
use Rattle.object_heap.specs.declared.value.Value.{Value}
use Rattle.object_heap.specs.declared.value.Value.TheVariants.{Nil}
use Rattle.object_heap.specs.Store.{Store, Scope, scope_at, variable_at as value_at}
use Rattle.st_code.specs.declared.instruction.Variable.{Variable}
use Rattle.st_code.specs.declared.instruction.Variable.TheVariants as variable
use Rattle.st_code.specs.Program.{Program, Scoped, body_at}
use Rattle.st_code.specs.Compiled.{any_captured, is_captured, variable_at}
use Rattle.st_rules.specs.State.{scope_up, scoped_variable}
use Rattle.st_rules.specs.Compilable.{Captured, Named}
use Rattle.st_rules.proofs.Variables.{captured_place, captured_read, some_captured}
use Rattle.st_rules.proofs.Flattening.{Places, scope_of, place_of, captured, flat_store, Chained, PlacedAt, ScopesHold}

-- where a body's code finds a variable, as the compiler has it
abbrev pub kind_at : Bool → ℕ → List Bool → ℕ → Variable
kind_at true k c index = variable.Scope k (captured_place index c)
kind_at false k c index = variable.Own (index - captured_place index c)

abbrev outwards_by : ℕ → Bool → ℕ
outwards_by k true = suc k
outwards_by k false = k

abbrev pub found_at : Program → ℕ → ℕ → Option ℕ → ℕ → Variable
found_at p k up None index = variable.Own 0
found_at p k zero (Some n) index = kind_at (is_captured (body_at p n).captured index) k (body_at p n).captured index
found_at p k (suc up) (Some n) index = found_at p (outwards_by k (any_captured (body_at p n).captured)) up (body_at p n).outer index

pub variable_found : (p : Program) (code up index : ℕ) → variable_at p code (Scoped up index) ≡ found_at p 0 up (Some code) index
unfolding variable_at
variable_found p code up index = refl

abbrev variable_of : Option ℕ → ℕ → Store → Value
variable_of None index s = Nil
variable_of (Some scope) index s = value_at scope index s

module _ (p : Program) (g : Places) (s : Store) (held : ScopesHold p s.scopes g.places g.scopes g.owners) where
  abbrev F : Store
  F = flat_store g s

  abbrev ss : List Scope
  ss = s.scopes

  abbrev step_out : Option ℕ → Option ℕ
  step_out None = None
  step_out (Some j) = (scope_of g.scopes j).outer

  up_more : (k : ℕ) (start : Option ℕ) → scope_up F (suc k) start ≡ step_out (scope_up F k start)
  unfolding scope_up
  up_more zero None = refl
  up_more zero (Some j) = refl
  up_more (suc k) None = refl
  up_more (suc k) (Some j) = up_more k (scope_at j F).outer

  -- the scope with the variable on both sides
  pub record Reached (start : Option ℕ) (k up n code index : ℕ) : Type 0 where
    pub scope : ℕ
    pub is_scope : scope_up s up (Some n) ≡ Some scope
    pub there : scope < length ss
    pub is_caught : is_captured (captured p (scope_of ss scope).code) index ≡ true
    pub outwards : ℕ
    pub is_found : found_at p k up (Some code) index ≡ variable.Scope outwards (captured_place index (captured p (scope_of ss scope).code))
    pub is_place : scope_up F outwards start ≡ get_or g.places scope None

  -- one body outwards
  out_of : (c : Bool) (start : Option ℕ) (k n : ℕ) → scope_up F k start ≡ get_or g.places n None → PlacedAt p c g.places g.scopes g.owners n (scope_of ss n) → scope_up F (outwards_by k c) start ≡ place_of g.places (scope_of ss n).outer
  out_of true start k n e h = up_more k start ∙ ap step_out (e ∙ h.1) ∙ ap (λ (x : Scope). x.outer) h.3
  out_of false start k n e h = e ∙ h

  -- what the walk of so many bodies comes to
  abbrev Walks : ℕ → Type 0
  Walks up = (start : Option ℕ) (k n index : ℕ) → n < length ss → scope_up F k start ≡ get_or g.places n None → Captured p up (scope_of ss n).code index → Reached start k up n (scope_of ss n).code index

  abbrev CapturedIn : ℕ → ℕ → Option ℕ → Type 0
  CapturedIn up index None = ⊥
  CapturedIn up index (Some m) = Captured p up m index

  walk_on : (up : ℕ) → Walks up → (o : Option ℕ) (start : Option ℕ) (k n index : ℕ) → n < length ss → scope_up F k start ≡ get_or g.places n None → (body_at p (scope_of ss n).code).outer ≡ o → Chained p ss n o (scope_of ss n).outer → CapturedIn up index o → Reached start k (suc up) n (scope_of ss n).code index
  unfolding scope_up
  walk_on up next None start k n index l e same h c = absurd c
  walk_on up next (Some m) start k n index l e same h c =
      let caught = any_captured (captured p (scope_of ss n).code) in
      let place : scope_up F (outwards_by k caught) start ≡ get_or g.places h.0 None = out_of caught start k n e (held.each n l).at ∙ ap (place_of g.places) h.1 in
      let r = next start (outwards_by k caught) h.0 index (omega (arith, h.2, l)) place (subst (λ x. Captured p up x index) (sym h.3) c) in
      record {
        scope = r.scope;
        is_scope = ap (λ o. scope_up s up o) h.1 ∙ r.is_scope;
        there = r.there;
        is_caught = r.is_caught;
        outwards = r.outwards;
        is_found = ap (λ o. found_at p (outwards_by k caught) up o index) (same ∙ ap (λ x. Some x) (sym h.3)) ∙ r.is_found;
        is_place = r.is_place;
      }

  pub walk : (up : ℕ) → Walks up
  unfolding scope_up
  walk zero start k n index l e c =
      record { scope = n; is_scope = refl; there = l; is_caught = c; outwards = k; is_found = ap (λ b. kind_at b k (captured p (scope_of ss n).code) index) c; is_place = e }
  walk (suc up) start k n index l e c = walk_on up (walk up) (body_at p (scope_of ss n).code).outer start k n index l e refl (held.each n l).chained c

  -- a variable of the body that no block names
  abbrev pub IsOwn : ℕ → ℕ → ℕ → Type 0
  IsOwn up n index = (up ≡ 0) × (is_captured (captured p (scope_of ss n).code) index ≡ false) × (index < length (captured p (scope_of ss n).code))

  -- a variable is an own one of the body, or stands in a scope
  pub resolved : (up n index : ℕ) → n < length ss → Named p (scope_of ss n).code (Scoped up index) → (Reached (get_or g.places n None) 0 up n (scope_of ss n).code index) ⊎ IsOwn up n index
  unfolding scope_up
  resolved (suc up) n index l h = inl (walk (suc up) (get_or g.places n None) 0 n index l refl h)
  resolved zero n index l h = own_or_caught (is_captured (captured p (scope_of ss n).code) index) refl
    where
      own_or_caught : (b : Bool) → is_captured (captured p (scope_of ss n).code) index ≡ b → (Reached (get_or g.places n None) 0 zero n (scope_of ss n).code index) ⊎ IsOwn zero n index
      own_or_caught true e = inl (walk zero (get_or g.places n None) 0 n index l refl e)
      own_or_caught false e = inr (refl, e, h)

  -- where the flat machine has a captured variable
  pub placed_at : (n index : ℕ) → n < length ss → is_captured (captured p (scope_of ss n).code) index ≡ true → PlacedAt p true g.places g.scopes g.owners n (scope_of ss n)
  placed_at n index l e = subst (λ c. PlacedAt p c g.places g.scopes g.owners n (scope_of ss n)) (some_captured (captured p (scope_of ss n).code) index e) (held.each n l).at

  -- ---- reads

  pub caught_read : (start : Option ℕ) (k up n code index : ℕ) (r : Reached start k up n code index) → scoped_variable F start r.outwards (captured_place index (captured p (scope_of ss r.scope).code)) ≡ scoped_variable s (Some n) up index
  unfolding scoped_variable
  caught_read start k up n code index r =
      let h = placed_at r.scope index r.there r.is_caught in
      let place = captured_place index (captured p (scope_of ss r.scope).code) in
      ap (λ o. variable_of o place F) (r.is_place ∙ h.1)
      ∙ ap (λ (x : Scope). get_or x.variables place Nil) h.3
      ∙ captured_read (captured p (scope_of ss r.scope).code) (scope_of ss r.scope).variables index r.is_caught
      ∙ sym (ap (λ o. variable_of o index s) r.is_scope)
