-- Scopes of both machines: what a new one and a written one leave as they are, and how a variable of a body further out is found.
use Rattle.std.proofs.Common.{◌≡◌, ◌≢◌, ℕ, suc, ◌+◌, ◌<◌, ◌≤◌, ◌⊎◌, inl, inr, List, [], ◌∷◌, ◌++◌, map, length, get_or, set, reverse, Option, Some, None, Bool, true, false, refl, sym, ap, ◌∙◌, subst, arith, nat_lt, ltb-true, ltb-false}
use Rattle.std.proofs.lemmas.List.{length-append, get_or_append_left, length-set, get_or-set_same, get_or-set_other}
use Rattle.std.proofs.Math.Seq.{get_or-append_seam}
use Rattle.std.proofs.lemmas.Bool.Decides.{eqb_tells}
use Rattle.object_heap.specs.declared.value.Value.{Value}
use Rattle.object_heap.specs.declared.value.Closure.{Closure}
use Rattle.object_heap.specs.Store.{Scope, no_scope, variable_written}
use Rattle.st_code.specs.Program.{Program, InBlock, body_at}
use Rattle.st_code.specs.Compiled.{any_captured, is_captured}
use Rattle.st_rules.specs.Machine.{Act, BodyAct, Leaving, ProtectAct, EnsureOn, CurtailOn, ActionOff, SignalAct, HandlerRun, OuterAct, ResumeWait, HandlesWait, LoopAct}
use Rattle.st_rules.specs.Scoped.{ScopedBody}
use Rattle.st_rules.specs.Flat.{FlatBody, captured_variables}
use Rattle.st_rules.specs.Compilable.{Body}
use Rattle.st_rules.proofs.Variables.{captured_place, captured_written, captured_unchanged, some_captured}
use Rattle.st_rules.proofs.Flattening.{scope_of, place_of, number_in, placed, captured, own_of, flat_body, flat_act, flat_acts, Chained, flat_scope_of, PlacedAt, ScopeHolds, ScopesHold, ClosuresHold, BodyHolds, ActsHold}

below_or_last : (n k : ℕ) → n < suc k → (n < k) ⊎ (n ≡ k)
below_or_last n k l = go (nat_lt n k) refl
  where
    go : (b : Bool) → nat_lt n k ≡ b → (n < k) ⊎ (n ≡ k)
    go true e = inl (ltb-true n k e)
    go false e = let h = ltb-false n k e in inr (omega arith)

module _ (p : Program) where
  -- ---- bodies and what stands, where the scopes below a bound stay as they are

  abbrev pub Agree : List Scope → List Scope → List (Option ℕ) → List (Option ℕ) → ℕ → Type 0
  Agree ss ss' pl pl' b = (m : ℕ) → m < b → (own_of p ss' m ≡ own_of p ss m) × ((scope_of ss' m).code ≡ (scope_of ss m).code) × (get_or pl' m None ≡ get_or pl m None)

  pub place_agrees : (pl pl' : List (Option ℕ)) (o : Option ℕ) → ((n : ℕ) → o ≡ Some n → get_or pl' n None ≡ get_or pl n None) → place_of pl' o ≡ place_of pl o
  place_agrees pl pl' None h = refl
  place_agrees pl pl' (Some n) h = h n refl

  abbrev body_with : ScopedBody → ℕ → List Value → Option ℕ → FlatBody
  body_with x position own place = record { code = x.frame.code; position = position; operands = x.operands ++ reverse own; self = x.frame.self; class = x.frame.class; own = x.frame.own; home = x.frame.home; scope = place; env = x.env }

  numbered : (o : Option ℕ) (n : ℕ) → o ≡ Some n → number_in o ≡ n
  numbered o n e = ap number_in e

  pub body_agrees : (ss ss' : List Scope) (pl pl' : List (Option ℕ)) (b left : ℕ) (x : ScopedBody) → Agree ss ss' pl pl' b → number_in x.frame.scope < b → flat_body p ss' pl' left x ≡ flat_body p ss pl left x
  body_agrees ss ss' pl pl' b left x agree l =
      let position = (flat_body p ss pl left x).position in
      ap (λ own. body_with x position own (place_of pl' x.frame.scope)) (agree (number_in x.frame.scope) l).0
      ∙ ap (λ place. body_with x position (own_of p ss (number_in x.frame.scope)) place) (place_agrees pl pl' x.frame.scope (λ n e. (agree n (subst (λ k. k < b) (numbered x.frame.scope n e) l)).2))

  pub body_held : (ss ss' : List Scope) (pl pl' : List (Option ℕ)) (b late standing : ℕ) (x : ScopedBody) → Agree ss ss' pl pl' b → b ≤ length ss' → number_in x.frame.scope < b → BodyHolds p ss late standing x → BodyHolds p ss' late standing x
  body_held ss ss' pl pl' b late standing x agree le l h =
      let inside : h.scope < b = subst (λ k. k < b) (numbered x.frame.scope h.scope h.is_scope) l in
      record {
        scope = h.scope;
        is_scope = h.is_scope;
        there = omega (arith, inside, le);
        here = (agree h.scope inside).1 ∙ h.here;
        known = h.known;
        before = h.before;
        left = h.left;
        fits = h.fits;
        sound = h.sound;
        room = h.room;
      }

  -- the same list of activations, and it holds
  abbrev Kept : List Scope → List Scope → List (Option ℕ) → List (Option ℕ) → ℕ → List (Act ScopedBody) → Type 0
  Kept ss ss' pl pl' b acts = (flat_acts p ss' pl' acts ≡ flat_acts p ss pl acts) × ActsHold p ss' b acts

  same_behind : (ss ss' : List Scope) (pl pl' : List (Option ℕ)) (a : Act FlatBody) (acts : List (Act ScopedBody)) → flat_acts p ss' pl' acts ≡ flat_acts p ss pl acts → (a ∷ flat_acts p ss' pl' acts) ≡ (a ∷ flat_acts p ss pl acts)
  same_behind ss ss' pl pl' a acts e = ap (λ rest. a ∷ rest) e

  pub acts_agree : (ss ss' : List Scope) (pl pl' : List (Option ℕ)) (b : ℕ) (acts : List (Act ScopedBody)) → Agree ss ss' pl pl' b → b ≤ length ss' → ActsHold p ss b acts → Kept ss ss' pl pl' b acts
  acts_agree ss ss' pl pl' b [] agree le h = (refl, tt)
  acts_agree ss ss' pl pl' b (BodyAct x ∷ acts) agree le h =
      let rest = acts_agree ss ss' pl pl' (number_in x.frame.scope) acts (λ m l. agree m (omega (arith, l, h.1))) (omega (arith, le, h.1)) h.2 in (
        ap (λ y. BodyAct y ∷ flat_acts p ss' pl' acts) (body_agrees ss ss' pl pl' b (suc (length x.rest)) x agree h.1)
            ∙ same_behind ss ss' pl pl' (flat_act p ss pl (BodyAct x)) acts rest.0,
        (body_held ss ss' pl pl' b 1 (suc (length x.operands)) x agree le h.1 h.0, h.1, rest.1),
      )
  acts_agree ss ss' pl pl' b (Leaving x ∷ acts) agree le h =
      let rest = acts_agree ss ss' pl pl' (number_in x.frame.scope) acts (λ m l. agree m (omega (arith, l, h.0))) (omega (arith, le, h.0)) h.1 in (
        ap (λ y. Leaving y ∷ flat_acts p ss' pl' acts) (body_agrees ss ss' pl pl' b (suc (length x.rest)) x agree h.0)
            ∙ same_behind ss ss' pl pl' (flat_act p ss pl (Leaving x)) acts rest.0,
        (h.0, rest.1),
      )
  acts_agree ss ss' pl pl' b (ProtectAct receiver entry env ∷ acts) agree le h = let rest = acts_agree ss ss' pl pl' b acts agree le h in (same_behind ss ss' pl pl' _ acts rest.0, rest.1)
  acts_agree ss ss' pl pl' b (EnsureOn n block env ∷ acts) agree le h = let rest = acts_agree ss ss' pl pl' b acts agree le h in (same_behind ss ss' pl pl' _ acts rest.0, rest.1)
  acts_agree ss ss' pl pl' b (CurtailOn n block env ∷ acts) agree le h = let rest = acts_agree ss ss' pl pl' b acts agree le h in (same_behind ss ss' pl pl' _ acts rest.0, rest.1)
  acts_agree ss ss' pl pl' b (ActionOff n held ∷ acts) agree le h = let rest = acts_agree ss ss' pl pl' b acts agree le h in (same_behind ss ss' pl pl' _ acts rest.0, rest.1)
  acts_agree ss ss' pl pl' b (SignalAct n e env ∷ acts) agree le h = let rest = acts_agree ss ss' pl pl' b acts agree le h in (same_behind ss ss' pl pl' _ acts rest.0, rest.1)
  acts_agree ss ss' pl pl' b (HandlerRun n t ∷ acts) agree le h = let rest = acts_agree ss ss' pl pl' b acts agree le h in (same_behind ss ss' pl pl' _ acts rest.0, rest.1)
  acts_agree ss ss' pl pl' b (OuterAct n ∷ acts) agree le h = let rest = acts_agree ss ss' pl pl' b acts agree le h in (same_behind ss ss' pl pl' _ acts rest.0, rest.1)
  acts_agree ss ss' pl pl' b (ResumeWait n w k t env ∷ acts) agree le h = let rest = acts_agree ss ss' pl pl' b acts agree le h in (same_behind ss ss' pl pl' _ acts rest.0, rest.1)
  acts_agree ss ss' pl pl' b (HandlesWait n x entry rest' ∷ acts) agree le h = let rest = acts_agree ss ss' pl pl' b acts agree le h in (same_behind ss ss' pl pl' _ acts rest.0, rest.1)
  acts_agree ss ss' pl pl' b (LoopAct n l env ∷ acts) agree le h = let rest = acts_agree ss ss' pl pl' b acts agree le h in (same_behind ss ss' pl pl' _ acts rest.0, rest.1)

  -- ---- closures

  pub closures_agree : (ss ss' : List Scope) (pl pl' : List (Option ℕ)) (cs : List Closure) → length ss ≤ length ss' → ((m : ℕ) → m < length ss → ((scope_of ss' m).code ≡ (scope_of ss m).code) × (get_or pl' m None ≡ get_or pl m None)) → ClosuresHold p ss cs → (map (placed pl') cs ≡ map (placed pl) cs) × ClosuresHold p ss' cs
  closures_agree ss ss' pl pl' [] le agree h = (refl, tt)
  closures_agree ss ss' pl pl' (c ∷ cs) le agree h =
      let rest = closures_agree ss ss' pl pl' cs le agree h.1 in
      let same : place_of pl' c.scope ≡ place_of pl c.scope = ap (place_of pl') h.0.is_scope ∙ (agree h.0.scope h.0.there).1 ∙ sym (ap (place_of pl) h.0.is_scope) in
      let code : (scope_of ss h.0.scope).code ≡ (scope_of ss' h.0.scope).code = sym (agree h.0.scope h.0.there).0 in (
        ap (λ place. record c { scope = place } ∷ map (placed pl') cs) same ∙ ap (λ ds. placed pl c ∷ ds) rest.0,
        (record { scope = h.0.scope; is_scope = h.0.is_scope; there = omega (arith, h.0.there, le); body = subst (λ k. Body p c.code InBlock (Some k)) code h.0.body }, rest.1),
      )

  -- ---- a scope that stays as it is

  chained_kept : (ss ss' : List Scope) (n : ℕ) (o outer : Option ℕ) → ((m : ℕ) → m < n → (scope_of ss' m).code ≡ (scope_of ss m).code) → Chained p ss n o outer → Chained p ss' n o outer
  chained_kept ss ss' n None outer codes h = h
  chained_kept ss ss' n (Some code) outer codes h = (h.0, h.1, h.2, codes h.0 h.2 ∙ h.3)

  chained_place : (ss : List Scope) (pl pl' : List (Option ℕ)) (n : ℕ) (o outer : Option ℕ) → ((m : ℕ) → m < n → get_or pl' m None ≡ get_or pl m None) → Chained p ss n o outer → place_of pl' outer ≡ place_of pl outer
  chained_place ss pl pl' n None outer places h = ap (place_of pl') h ∙ sym (ap (place_of pl) h)
  chained_place ss pl pl' n (Some code) outer places h = ap (place_of pl') h.1 ∙ places h.0 h.2 ∙ sym (ap (place_of pl) h.1)

  -- the same in the flat machine's scopes, for those that the scope n has there
  abbrev SameScopes : List Scope → List Scope → List ℕ → List ℕ → ℕ → Type 0
  SameScopes fs fs' owners owners' n = (k : ℕ) → k < length fs → get_or owners k 0 ≡ n → (k < length fs') × (scope_of fs' k ≡ scope_of fs k) × (get_or owners' k 0 ≡ get_or owners k 0)

  placed_kept : (c : Bool) (pl pl' : List (Option ℕ)) (fs fs' : List Scope) (owners owners' : List ℕ) (n : ℕ) (x : Scope) → get_or pl' n None ≡ get_or pl n None → place_of pl' x.outer ≡ place_of pl x.outer → SameScopes fs fs' owners owners' n → PlacedAt p c pl fs owners n x → PlacedAt p c pl' fs' owners' n x
  placed_kept true pl pl' fs fs' owners owners' n x same outer scopes h =
      let s = scopes h.0 h.2 h.4 in
      (h.0, same ∙ h.1, s.0, s.1 ∙ h.3 ∙ ap (λ place. record { code = x.code; outer = place; variables = captured_variables (captured p x.code) x.variables }) (sym outer), s.2 ∙ h.4)
  placed_kept false pl pl' fs fs' owners owners' n x same outer scopes h = same ∙ h ∙ sym outer

  pub scope_kept : (ss ss' : List Scope) (pl pl' : List (Option ℕ)) (fs fs' : List Scope) (owners owners' : List ℕ) (n : ℕ) → scope_of ss' n ≡ scope_of ss n → ((m : ℕ) → m < n → (scope_of ss' m).code ≡ (scope_of ss m).code) → ((m : ℕ) → m ≤ n → get_or pl' m None ≡ get_or pl m None) → SameScopes fs fs' owners owners' n → ScopeHolds p ss pl fs owners n → ScopeHolds p ss' pl' fs' owners' n
  scope_kept ss ss' pl pl' fs fs' owners owners' n same codes places scopes h =
      let x = scope_of ss n in
      let outer = chained_place ss pl pl' n (body_at p x.code).outer x.outer (λ m l. places m (omega (arith, l))) h.chained in
      record {
        full = subst (λ y. length y.variables ≡ length (captured p y.code)) (sym same) h.full;
        chained = subst (λ y. Chained p ss' n (body_at p y.code).outer y.outer) (sym same) (chained_kept ss ss' n (body_at p x.code).outer x.outer codes h.chained);
        at = subst (λ y. PlacedAt p (any_captured (captured p y.code)) pl' fs' owners' n y) (sym same) (placed_kept (any_captured (captured p x.code)) pl pl' fs fs' owners owners' n x (places n (omega arith)) outer scopes h.at);
      }

  -- ---- a new scope

  module _ (ss : List Scope) (pl : List (Option ℕ)) (fs : List Scope) (owners : List ℕ) (held : ScopesHold p ss pl fs owners) (x : Scope) where
    abbrev pub more : List Scope
    more = ss ++ x ∷ []

    pub more_old : (m : ℕ) → m < length ss → scope_of more m ≡ scope_of ss m
    more_old m l = get_or_append_left ss (x ∷ []) no_scope m l

    pub more_last : scope_of more (length ss) ≡ x
    more_last = get_or-append_seam ss x [] no_scope

    pub place_old : (place : Option ℕ) (m : ℕ) → m < length ss → get_or (pl ++ place ∷ []) m None ≡ get_or pl m None
    place_old place m l = get_or_append_left pl (place ∷ []) None m (omega (arith, l, held.sized))

    pub place_last : (place : Option ℕ) → get_or (pl ++ place ∷ []) (length ss) None ≡ place
    place_last place = ap (λ n. get_or (pl ++ place ∷ []) n None) (sym held.sized) ∙ get_or-append_seam pl place [] None

    pub more_size : length more ≡ length ss + 1
    more_size = length-append ss (x ∷ [])

    -- where the flat machine keeps it
    each_more : (place : Option ℕ) (fs' : List Scope) (owners' : List ℕ) → ((n : ℕ) → SameScopes fs fs' owners owners' n) → length (scope_of more (length ss)).variables ≡ length (captured p x.code) → Chained p ss (length ss) (body_at p x.code).outer x.outer → PlacedAt p (any_captured (captured p x.code)) (pl ++ place ∷ []) fs' owners' (length ss) x → (n : ℕ) → n < length more → ScopeHolds p more (pl ++ place ∷ []) fs' owners' n
    each_more place fs' owners' scopes full chained at n l = elim (below_or_last n (length ss) (omega (arith, l, more_size))) [
      | inl old ↦ scope_kept ss more pl (pl ++ place ∷ []) fs fs' owners owners' n (more_old n old) (λ m k. ap (λ y. y.code) (more_old m (omega (arith, k, old)))) (λ m k. place_old place m (omega (arith, k, old))) (scopes n) (held.each n old)
      | inr last ↦ subst (λ k. ScopeHolds p more (pl ++ place ∷ []) fs' owners' k) (sym last) (record {
        full = full ∙ ap (λ y. length (captured p y.code)) (sym more_last);
        chained = subst (λ y. Chained p more (length ss) (body_at p y.code).outer y.outer) (sym more_last) (chained_kept ss more (length ss) (body_at p x.code).outer x.outer (λ m k. ap (λ y. y.code) (more_old m k)) chained);
        at = subst (λ y. PlacedAt p (any_captured (captured p y.code)) (pl ++ place ∷ []) fs' owners' (length ss) y) (sym more_last) at;
      })
    ]

    sized_more : (place : Option ℕ) → length (pl ++ place ∷ []) ≡ length more
    sized_more place = length-append pl (place ∷ []) ∙ ap (λ n. n + 1) held.sized ∙ sym more_size

    pub new_captured : any_captured (captured p x.code) ≡ true → length x.variables ≡ length (captured p x.code) → Chained p ss (length ss) (body_at p x.code).outer x.outer → ScopesHold p more (pl ++ Some (length fs) ∷ []) (fs ++ flat_scope_of p pl x ∷ []) (owners ++ length ss ∷ [])
    new_captured some full chained =
        let place = Some (length fs) in
        let pl' = pl ++ Some (length fs) ∷ [] in
        let outer = chained_place ss pl pl' (length ss) (body_at p x.code).outer x.outer (λ m l. place_old (Some (length fs)) m l) chained in
        let size : length (fs ++ flat_scope_of p pl x ∷ []) ≡ length fs + 1 = length-append fs (flat_scope_of p pl x ∷ []) in
        let at : PlacedAt p true pl' (fs ++ flat_scope_of p pl x ∷ []) (owners ++ length ss ∷ []) (length ss) x =
        (length fs, place_last (Some (length fs)), omega (arith, size), get_or-append_seam fs (flat_scope_of p pl x) [] no_scope ∙ ap (λ o. record { code = x.code; outer = o; variables = captured_variables (captured p x.code) x.variables }) (sym outer), ap (λ n. get_or (owners ++ length ss ∷ []) n 0) (sym held.owned) ∙ get_or-append_seam owners (length ss) [] 0) in
        record {
          sized = sized_more (Some (length fs));
          owned = length-append owners (length ss ∷ []) ∙ ap (λ n. n + 1) held.owned ∙ sym size;
          each = each_more (Some (length fs)) (fs ++ flat_scope_of p pl x ∷ []) (owners ++ length ss ∷ [])
              (λ n k l o. (omega (arith, l, size), get_or_append_left fs (flat_scope_of p pl x ∷ []) no_scope k l, get_or_append_left owners (length ss ∷ []) 0 k (omega (arith, l, held.owned))))
              (ap (λ y. length y.variables) more_last ∙ full) chained (subst (λ c. PlacedAt p c pl' (fs ++ flat_scope_of p pl x ∷ []) (owners ++ length ss ∷ []) (length ss) x) (sym some) at);
        }

    pub new_uncaptured : any_captured (captured p x.code) ≡ false → length x.variables ≡ length (captured p x.code) → Chained p ss (length ss) (body_at p x.code).outer x.outer → ScopesHold p more (pl ++ place_of pl x.outer ∷ []) fs owners
    new_uncaptured none full chained =
        let pl' = pl ++ place_of pl x.outer ∷ [] in
        let outer = chained_place ss pl pl' (length ss) (body_at p x.code).outer x.outer (λ m l. place_old (place_of pl x.outer) m l) chained in
        let at : PlacedAt p false pl' fs owners (length ss) x = place_last (place_of pl x.outer) ∙ sym outer in
        record {
          sized = sized_more (place_of pl x.outer);
          owned = held.owned;
          each = each_more (place_of pl x.outer) fs owners (λ n k l o. (l, refl, refl)) (ap (λ y. length y.variables) more_last ∙ full) chained (subst (λ c. PlacedAt p c pl' fs owners (length ss) x) (sym none) at);
        }

  -- ---- a written variable

  module _ (ss : List Scope) (pl : List (Option ℕ)) (fs : List Scope) (owners : List ℕ) (held : ScopesHold p ss pl fs owners) (n : ℕ) (there : n < length ss) (index : ℕ) (v : Value) where
    abbrev pub old : Scope
    old = scope_of ss n

    abbrev pub wrote : List Scope
    wrote = set ss n (variable_written index v old)

    pub wrote_here : scope_of wrote n ≡ variable_written index v old
    wrote_here = get_or-set_same ss n (variable_written index v old) no_scope there

    pub wrote_other : (m : ℕ) → m ≢ n → scope_of wrote m ≡ scope_of ss m
    wrote_other m d = get_or-set_other ss n m (variable_written index v old) no_scope d

    pub wrote_code : (m : ℕ) → (scope_of wrote m).code ≡ (scope_of ss m).code
    wrote_code m = elim (eqb_tells m n) [
      | inl is ↦ ap (λ k. (scope_of wrote k).code) is.1 ∙ ap (λ y. y.code) wrote_here ∙ ap (λ k. (scope_of ss k).code) (sym is.1)
      | inr is ↦ ap (λ y. y.code) (wrote_other m is.1)
    ]

    pub wrote_size : length wrote ≡ length ss
    wrote_size = length-set ss n (variable_written index v old)

    each_written : (fs' : List Scope) → ((m : ℕ) → m ≢ n → SameScopes fs fs' owners owners m) → PlacedAt p (any_captured (captured p old.code)) pl fs' owners n (variable_written index v old) → (m : ℕ) → m < length wrote → ScopeHolds p wrote pl fs' owners m
    each_written fs' scopes at m l = elim (eqb_tells m n) [
      | inl is ↦ subst (λ k. ScopeHolds p wrote pl fs' owners k) (sym is.1) (record {
        full = subst (λ y. length y.variables ≡ length (captured p y.code)) (sym wrote_here) (length-set old.variables index v ∙ (held.each n there).full);
        chained = subst (λ y. Chained p wrote n (body_at p y.code).outer y.outer) (sym wrote_here) (chained_kept ss wrote n (body_at p old.code).outer old.outer (λ k j. wrote_code k) (held.each n there).chained);
        at = subst (λ y. PlacedAt p (any_captured (captured p y.code)) pl fs' owners n y) (sym wrote_here) at;
      })
      | inr is ↦ scope_kept ss wrote pl pl fs fs' owners owners m (wrote_other m is.1) (λ k j. wrote_code k) (λ k j. refl) (scopes m is.1) (held.each m (omega (arith, l, wrote_size)))
    ]

    uncaptured_at : (c : Bool) → is_captured (captured p old.code) index ≡ false → PlacedAt p c pl fs owners n old → PlacedAt p c pl fs owners n (variable_written index v old)
    uncaptured_at true e h = (h.0, h.1, h.2, h.3 ∙ ap (λ vs. record { code = old.code; outer = place_of pl old.outer; variables = vs }) (sym (captured_unchanged (captured p old.code) old.variables index v e)), h.4)
    uncaptured_at false e h = h

    pub write_uncaptured : is_captured (captured p old.code) index ≡ false → ScopesHold p wrote pl fs owners
    write_uncaptured e =
        record {
          sized = held.sized ∙ sym wrote_size;
          owned = held.owned;
          each = each_written fs (λ m d k l o. (l, refl, refl)) (uncaptured_at (any_captured (captured p old.code)) e (held.each n there).at);
        }

    -- the flat machine's scope that has it
    pub captured_at : is_captured (captured p old.code) index ≡ true → PlacedAt p true pl fs owners n old
    captured_at e = subst (λ c. PlacedAt p c pl fs owners n old) (some_captured (captured p old.code) index e) (held.each n there).at

    module _ (e : is_captured (captured p old.code) index ≡ true) where
      abbrev pub kept_in : ℕ
      kept_in = (captured_at e).0

      abbrev pub flat_wrote : List Scope
      flat_wrote = set fs kept_in (variable_written (captured_place index (captured p old.code)) v (scope_of fs kept_in))

      wrote_at : PlacedAt p true pl flat_wrote owners n (variable_written index v old)
      wrote_at =
          let h = captured_at e in
          let place = captured_place index (captured p old.code) in (
            h.0,
            h.1,
            omega (arith, h.2, length-set fs h.0 (variable_written place v (scope_of fs h.0))),
            get_or-set_same fs h.0 (variable_written place v (scope_of fs h.0)) no_scope h.2
                ∙ ap (variable_written place v) h.3
                ∙ ap (λ vs. record { code = old.code; outer = place_of pl old.outer; variables = vs }) (sym (captured_written (captured p old.code) old.variables index v e)),
            h.4,
          )

      pub write_captured : ScopesHold p wrote pl flat_wrote owners
      write_captured =
          let h = captured_at e in
          let place = captured_place index (captured p old.code) in
          let size : length flat_wrote ≡ length fs = length-set fs h.0 (variable_written place v (scope_of fs h.0)) in
          record {
            sized = held.sized ∙ sym wrote_size;
            owned = held.owned ∙ sym size;
            each = each_written flat_wrote
                (λ m d k l o. (omega (arith, l, size), get_or-set_other fs h.0 k (variable_written place v (scope_of fs h.0)) no_scope (λ same. d (sym o ∙ ap (λ j. get_or owners j 0) same ∙ h.4)), refl))
                (subst (λ c. PlacedAt p c pl flat_wrote owners n (variable_written index v old)) (sym (some_captured (captured p old.code) index e)) wrote_at);
          }
