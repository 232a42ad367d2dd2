-- The flat machine's state as a function of the scoped one's, and what holds of the scoped one that is compiled: scopes, closures, bodies and what stands.
use Rattle.std.proofs.Common.{◌≡◌, ℕ, suc, ◌+◌, ◌-◌, ◌<◌, ◌≤◌, max, List, [], ◌∷◌, ◌++◌, map, drop, length, get_or, reverse, Option, Some, None, Bool, true, false, refl, ap, ◌∙◌, arith}
use Rattle.object_heap.specs.declared.value.Value.{Value}
use Rattle.object_heap.specs.declared.value.Closure.{Closure}
use Rattle.object_heap.specs.Store.{Store, Scope, no_scope}
use Rattle.st_code.specs.Program.{Program, InMethod, InBlock, body_at}
use Rattle.st_code.specs.Code.{Instr, PushConstant, PushSelf, Pop, Dup, PushVariable, Store as StoreVariable, SendMessage, SendSuper, MakeBlock, MethodReturn, HomeReturn, BlockEnd, code_body}
use Rattle.st_code.specs.Compiled.{any_captured, count_uncaptured, compile_of}
use Rattle.st_collections.specs.Actions.{Action, Changes, Makes, Activates, Enters, Raises, Visit, Charges}
use Rattle.st_rules.specs.State.{State, Outcome, Answer, Go, Stop}
use Rattle.st_rules.specs.Rules.{Use, Activate, Enter, Perform, VisitBy}
use Rattle.st_rules.specs.Machine.{Act, BodyAct, Leaving, ProtectAct, EnsureOn, CurtailOn, ActionOff, SignalAct, HandlerRun, OuterAct, ResumeWait, HandlesWait, LoopAct, Mach, Run, Settle, Begin, Over, Stuck, mark_of, marks}
use Rattle.st_rules.specs.Scoped.{ScopedBody, scoped_number}
use Rattle.st_rules.specs.Flat.{FlatBody, flat_number, own_variables, captured_variables, greatest_width}
use Rattle.st_rules.specs.Compilable.{Body, AllSound}
use Rattle.st_rules.proofs.SameRows.{with_rest}
use Rattle.st_rules.proofs.SameVisits.{relabeled_visit}

abbrev pub scope_of : List Scope → ℕ → Scope
scope_of ss n = get_or ss n no_scope

-- where the flat machine has the variables of each scope: the scope of its own, or that of the one around it where it captures none; its scopes; and whose each is
pub record Places : Type 0 where
  pub places : List (Option ℕ)
  pub scopes : List Scope
  pub owners : List ℕ

abbrev pub place_of : List (Option ℕ) → Option ℕ → Option ℕ
place_of pl None = None
place_of pl (Some n) = get_or pl n None

abbrev pub number_in : Option ℕ → ℕ
number_in None = 0
number_in (Some n) = n

abbrev pub placed : List (Option ℕ) → Closure → Closure
placed pl c = record c { scope = place_of pl c.scope }

abbrev pub flat_closures : Places → List Closure → List Closure
flat_closures g cs = map (placed g.places) cs

abbrev pub flat_store : Places → Store → Store
flat_store g s = with_rest (flat_closures g s.closures) g.scopes s

abbrev pub flat_state : Places → State → State
flat_state g st = record st { store = flat_store g st.store }

-- the operands that stand behind an instruction, and the most that stand at once
abbrev pub standing_after : Instr → ℕ → ℕ
standing_after (PushConstant c) n = suc n
standing_after PushSelf n = suc n
standing_after (PushVariable v) n = suc n
standing_after (StoreVariable v) n = n
standing_after Pop n = n - 1
standing_after Dup n = suc n
standing_after (SendMessage selector count) n = n - count
standing_after (SendSuper selector count) n = n - count
standing_after (MakeBlock code) n = suc n
standing_after MethodReturn n = n - 1
standing_after HomeReturn n = n - 1
standing_after BlockEnd n = n - 1

abbrev pub most : List Instr → ℕ → ℕ
most [] n = n
most (i ∷ is) n = max n (most is (standing_after i n))

module _ (p : Program) where
  abbrev pub captured : ℕ → List Bool
  captured code = (body_at p code).captured

  abbrev pub whole : ℕ → List Instr
  whole code = code_body (body_at p code).kind (body_at p code).statements

  abbrev pub own_of : List Scope → ℕ → List Value
  own_of ss n = own_variables (captured (scope_of ss n).code) (scope_of ss n).variables

  -- a body that has so many instructions left
  abbrev pub flat_body : List Scope → List (Option ℕ) → ℕ → ScopedBody → FlatBody
  flat_body ss pl left x =
      record {
        code = x.frame.code;
        position = length (whole x.frame.code) - left;
        operands = x.operands ++ reverse (own_of ss (number_in x.frame.scope));
        self = x.frame.self;
        class = x.frame.class;
        own = x.frame.own;
        home = x.frame.home;
        scope = place_of pl x.frame.scope;
        env = x.env;
      }

  -- a body that runs, and one that waits at the instruction before
  abbrev pub running_body : List Scope → List (Option ℕ) → ScopedBody → FlatBody
  running_body ss pl x = flat_body ss pl (length x.rest) x

  abbrev pub waiting_body : List Scope → List (Option ℕ) → ScopedBody → FlatBody
  waiting_body ss pl x = flat_body ss pl (suc (length x.rest)) x

  abbrev pub flat_act : List Scope → List (Option ℕ) → Act ScopedBody → Act FlatBody
  flat_act ss pl (BodyAct x) = BodyAct (waiting_body ss pl x)
  flat_act ss pl (Leaving x) = Leaving (waiting_body ss pl x)
  flat_act ss pl (ProtectAct receiver entry env) = ProtectAct receiver entry env
  flat_act ss pl (EnsureOn n block env) = EnsureOn n block env
  flat_act ss pl (CurtailOn n block env) = CurtailOn n block env
  flat_act ss pl (ActionOff n held) = ActionOff n held
  flat_act ss pl (SignalAct n e env) = SignalAct n e env
  flat_act ss pl (HandlerRun n t) = HandlerRun n t
  flat_act ss pl (OuterAct n) = OuterAct n
  flat_act ss pl (ResumeWait n w k t env) = ResumeWait n w k t env
  flat_act ss pl (HandlesWait n x entry rest) = HandlesWait n x entry rest
  flat_act ss pl (LoopAct n l env) = LoopAct n l env

  abbrev pub flat_acts : List Scope → List (Option ℕ) → List (Act ScopedBody) → List (Act FlatBody)
  flat_acts ss pl [] = []
  flat_acts ss pl (a ∷ acts) = flat_act ss pl a ∷ flat_acts ss pl acts

  abbrev pub flat_action : Places → List Closure → Action → Action
  flat_action g cs (Changes s v) = Changes (with_rest (flat_closures g cs) g.scopes s) v
  flat_action g cs (Makes n s v) = Makes n (flat_store g s) v
  flat_action g cs (Raises s e) = Raises (with_rest (flat_closures g cs) g.scopes s) e
  flat_action g cs (Activates c args) = Activates (placed g.places c) args
  flat_action g cs a = a

  abbrev pub flat_use : Places → List Closure → Use → Use
  flat_use g cs (Activate c args env) = Activate (placed g.places c) args env
  flat_use g cs (Perform a env) = Perform (flat_action g cs a) env
  flat_use g cs (VisitBy n v env) = VisitBy n (relabeled_visit (flat_closures g cs) g.scopes v) env
  flat_use g cs u = u

  -- ---- what holds

  -- the scope around a scope is that of the body around its body
  abbrev pub Chained : List Scope → (below : ℕ) → Option ℕ → Option ℕ → Type 0
  Chained ss below None outer = outer ≡ None
  Chained ss below (Some code) outer = (k : ℕ) × (outer ≡ Some k) × (k < below) × ((scope_of ss k).code ≡ code)

  abbrev pub flat_scope_of : List (Option ℕ) → Scope → Scope
  flat_scope_of pl x = record { code = x.code; outer = place_of pl x.outer; variables = captured_variables (captured x.code) x.variables }

  abbrev pub PlacedAt : Bool → List (Option ℕ) → List Scope → List ℕ → ℕ → Scope → Type 0
  PlacedAt true pl fs owners n x = (k : ℕ) × (get_or pl n None ≡ Some k) × (k < length fs) × (scope_of fs k ≡ flat_scope_of pl x) × (get_or owners k 0 ≡ n)
  PlacedAt false pl fs owners n x = get_or pl n None ≡ place_of pl x.outer

  pub record ScopeHolds (ss : List Scope) (pl : List (Option ℕ)) (fs : List Scope) (owners : List ℕ) (n : ℕ) : Type 0 where
    pub full : length (scope_of ss n).variables ≡ length (captured (scope_of ss n).code)
    pub chained : Chained ss n (body_at p (scope_of ss n).code).outer (scope_of ss n).outer
    pub at : PlacedAt (any_captured (captured (scope_of ss n).code)) pl fs owners n (scope_of ss n)

  pub record ScopesHold (ss : List Scope) (pl : List (Option ℕ)) (fs : List Scope) (owners : List ℕ) : Type 0 where
    pub sized : length pl ≡ length ss
    pub owned : length owners ≡ length fs
    pub each : (n : ℕ) → n < length ss → ScopeHolds ss pl fs owners n

  pub record ClosureHolds (ss : List Scope) (c : Closure) : Type 0 where
    pub scope : ℕ
    pub is_scope : c.scope ≡ Some scope
    pub there : scope < length ss
    pub body : Body p c.code InBlock (Some (scope_of ss scope).code)

  abbrev pub ClosuresHold : List Scope → List Closure → Type 0
  ClosuresHold ss [] = Unit {0}
  ClosuresHold ss (c ∷ cs) = ClosureHolds ss c × ClosuresHold ss cs

  pub record StoreHolds (g : Places) (ss : List Scope) (cs : List Closure) : Type 0 where
    pub scopes : ScopesHold ss g.places g.scopes g.owners
    pub closures : ClosuresHold ss cs

  -- a body with so many operands at its next instruction, behind so many that it has come to
  pub record BodyHolds (ss : List Scope) (late standing : ℕ) (x : ScopedBody) : Type 0 where
    pub scope : ℕ
    pub is_scope : x.frame.scope ≡ Some scope
    pub there : scope < length ss
    pub here : (scope_of ss scope).code ≡ x.frame.code
    pub known : x.frame.code < length p.bodies
    pub before : ℕ
    pub left : drop before (whole x.frame.code) ≡ x.rest
    pub fits : late + length x.rest ≤ length (whole x.frame.code)
    pub sound : AllSound p x.frame.code x.rest
    pub room : count_uncaptured (captured x.frame.code) + most x.rest standing ≤ greatest_width (compile_of p)

  -- what stands has scopes that fall outwards, below a bound
  abbrev pub ActsHold : List Scope → ℕ → List (Act ScopedBody) → Type 0
  ActsHold ss b [] = Unit {0}
  ActsHold ss b (BodyAct x ∷ acts) = (BodyHolds ss 1 (suc (length x.operands)) x) × (number_in x.frame.scope < b) × ActsHold ss (number_in x.frame.scope) acts
  ActsHold ss b (Leaving x ∷ acts) = (number_in x.frame.scope < b) × ActsHold ss (number_in x.frame.scope) acts
  ActsHold ss b (ProtectAct receiver entry env ∷ acts) = ActsHold ss b acts
  ActsHold ss b (EnsureOn n block env ∷ acts) = ActsHold ss b acts
  ActsHold ss b (CurtailOn n block env ∷ acts) = ActsHold ss b acts
  ActsHold ss b (ActionOff n held ∷ acts) = ActsHold ss b acts
  ActsHold ss b (SignalAct n e env ∷ acts) = ActsHold ss b acts
  ActsHold ss b (HandlerRun n t ∷ acts) = ActsHold ss b acts
  ActsHold ss b (OuterAct n ∷ acts) = ActsHold ss b acts
  ActsHold ss b (ResumeWait n w k t env ∷ acts) = ActsHold ss b acts
  ActsHold ss b (HandlesWait n x entry rest ∷ acts) = ActsHold ss b acts
  ActsHold ss b (LoopAct n l env ∷ acts) = ActsHold ss b acts

  -- an unwinding drops the innermost body, whatever it has
  abbrev pub UnwoundHold : List Scope → ℕ → List (Act ScopedBody) → Type 0
  UnwoundHold ss b (BodyAct x ∷ acts) = ActsHold ss b acts
  UnwoundHold ss b acts = ActsHold ss b acts

  -- a store that has the closures and scopes of another
  abbrev pub Keeps : List Closure → List Scope → Store → Type 0
  Keeps cs ss s = with_rest cs ss s ≡ s

  abbrev pub ActionHolds : List Closure → List Scope → Action → Type 0
  ActionHolds cs ss (Changes s v) = Keeps cs ss s
  ActionHolds cs ss (Makes n s v) = (s.scopes ≡ ss) × ClosuresHold ss s.closures
  ActionHolds cs ss (Raises s e) = Keeps cs ss s
  ActionHolds cs ss (Activates c args) = ClosureHolds ss c
  ActionHolds cs ss (Enters code r args) = Body p code InMethod None
  ActionHolds cs ss a = Unit {0}

  abbrev pub VisitHolds : List Closure → List Scope → Visit → Type 0
  VisitHolds cs ss (Charges n s v) = Keeps cs ss s × VisitHolds cs ss v
  VisitHolds cs ss v = Unit {0}

  abbrev pub UseHolds : List Closure → List Scope → Use → Type 0
  UseHolds cs ss (Activate c args env) = ClosureHolds ss c
  UseHolds cs ss (Enter code r args env) = Body p code InMethod None
  UseHolds cs ss (Perform a env) = ActionHolds cs ss a
  UseHolds cs ss (VisitBy n v env) = VisitHolds cs ss v
  UseHolds cs ss u = Unit {0}

  abbrev pub SettleHolds : Places → Outcome → List (Act ScopedBody) → Store → Type 0
  SettleHolds g (Answer v) acts s = StoreHolds g s.scopes s.closures × ActsHold s.scopes (length s.scopes) acts
  SettleHolds g (Go t v) acts s = StoreHolds g s.scopes s.closures × UnwoundHold s.scopes (length s.scopes) acts
  SettleHolds g (Stop l) acts s = Unit {0}

  abbrev pub OverHolds : Places → Outcome → Store → Type 0
  OverHolds g (Answer v) s = StoreHolds g s.scopes s.closures
  OverHolds g (Go t v) s = Unit {0}
  OverHolds g (Stop l) s = Unit {0}

  -- the flat machine's state is that of the scoped one, which holds; where the scoped one is stuck nothing is claimed
  abbrev pub Follows : Places → Mach FlatBody → Mach ScopedBody → Type 0
  Follows g m (Run x acts st) =
      (m ≡ Run (running_body st.store.scopes g.places x) (flat_acts st.store.scopes g.places acts) (flat_state g st))
      × StoreHolds g st.store.scopes st.store.closures
      × (BodyHolds st.store.scopes 0 (length x.operands) x)
      × ActsHold st.store.scopes (number_in x.frame.scope) acts
  Follows g m (Settle o acts st) = (m ≡ Settle o (flat_acts st.store.scopes g.places acts) (flat_state g st)) × SettleHolds g o acts st.store
  Follows g m (Begin u acts st) =
      (m ≡ Begin (flat_use g st.store.closures u) (flat_acts st.store.scopes g.places acts) (flat_state g st))
      × StoreHolds g st.store.scopes st.store.closures
      × UseHolds st.store.closures st.store.scopes u
      × ActsHold st.store.scopes (length st.store.scopes) acts
  Follows g m (Over o st) = (m ≡ Over o (flat_state g st)) × OverHolds g o st.store
  Follows g m (Stuck st) = Unit {0}

  -- with some places
  abbrev pub Goes : Mach FlatBody → Mach ScopedBody → Type 0
  Goes m' m = (g : Places) × Follows g m' m

  mark_same : (ss : List Scope) (pl : List (Option ℕ)) (a : Act ScopedBody) → mark_of flat_number (flat_act ss pl a) ≡ mark_of scoped_number a
  mark_same ss pl (BodyAct x) = refl
  mark_same ss pl (Leaving x) = refl
  mark_same ss pl (ProtectAct receiver entry env) = refl
  mark_same ss pl (EnsureOn n block env) = refl
  mark_same ss pl (CurtailOn n block env) = refl
  mark_same ss pl (ActionOff n held) = refl
  mark_same ss pl (SignalAct n e env) = refl
  mark_same ss pl (HandlerRun n t) = refl
  mark_same ss pl (OuterAct n) = refl
  mark_same ss pl (ResumeWait n w k t env) = refl
  mark_same ss pl (HandlesWait n x entry rest) = refl
  mark_same ss pl (LoopAct n l env) = refl

  pub marks_same : (ss : List Scope) (pl : List (Option ℕ)) (acts : List (Act ScopedBody)) → marks flat_number (flat_acts ss pl acts) ≡ marks scoped_number acts
  marks_same ss pl [] = refl
  marks_same ss pl (a ∷ acts) = ap (λ m. m ∷ marks flat_number (flat_acts ss pl acts)) (mark_same ss pl a) ∙ ap (λ ms. mark_of scoped_number a ∷ ms) (marks_same ss pl acts)

  pub acts_below : (ss : List Scope) (b b' : ℕ) (acts : List (Act ScopedBody)) → b ≤ b' → ActsHold ss b acts → ActsHold ss b' acts
  acts_below ss b b' [] le h = tt
  acts_below ss b b' (BodyAct x ∷ acts) le h = (h.0, omega (arith, h.1, le), h.2)
  acts_below ss b b' (Leaving x ∷ acts) le h = (omega (arith, h.0, le), h.1)
  acts_below ss b b' (ProtectAct receiver entry env ∷ acts) le h = acts_below ss b b' acts le h
  acts_below ss b b' (EnsureOn n block env ∷ acts) le h = acts_below ss b b' acts le h
  acts_below ss b b' (CurtailOn n block env ∷ acts) le h = acts_below ss b b' acts le h
  acts_below ss b b' (ActionOff n held ∷ acts) le h = acts_below ss b b' acts le h
  acts_below ss b b' (SignalAct n e env ∷ acts) le h = acts_below ss b b' acts le h
  acts_below ss b b' (HandlerRun n t ∷ acts) le h = acts_below ss b b' acts le h
  acts_below ss b b' (OuterAct n ∷ acts) le h = acts_below ss b b' acts le h
  acts_below ss b b' (ResumeWait n w k t env ∷ acts) le h = acts_below ss b b' acts le h
  acts_below ss b b' (HandlesWait n x entry rest ∷ acts) le h = acts_below ss b b' acts le h
  acts_below ss b b' (LoopAct n l env ∷ acts) le h = acts_below ss b b' acts le h

  pub unwound : (ss : List Scope) (b : ℕ) (acts : List (Act ScopedBody)) → ActsHold ss b acts → UnwoundHold ss b acts
  unwound ss b [] h = h
  unwound ss b (BodyAct x ∷ acts) h = acts_below ss (number_in x.frame.scope) b acts (omega (arith, h.1)) h.2
  unwound ss b (Leaving x ∷ acts) h = h
  unwound ss b (ProtectAct receiver entry env ∷ acts) h = h
  unwound ss b (EnsureOn n block env ∷ acts) h = h
  unwound ss b (CurtailOn n block env ∷ acts) h = h
  unwound ss b (ActionOff n held ∷ acts) h = h
  unwound ss b (SignalAct n e env ∷ acts) h = h
  unwound ss b (HandlerRun n t ∷ acts) h = h
  unwound ss b (OuterAct n ∷ acts) h = h
  unwound ss b (ResumeWait n w k t env ∷ acts) h = h
  unwound ss b (HandlesWait n x entry rest ∷ acts) h = h
  unwound ss b (LoopAct n l env ∷ acts) h = h

  pub behind : (ss : List Scope) (b : ℕ) (a : Act ScopedBody) (acts : List (Act ScopedBody)) → UnwoundHold ss b (a ∷ acts) → ActsHold ss b acts
  behind ss b (BodyAct x) acts h = h
  behind ss b (Leaving x) acts h = acts_below ss (number_in x.frame.scope) b acts (omega (arith, h.0)) h.1
  behind ss b (ProtectAct receiver entry env) acts h = h
  behind ss b (EnsureOn n block env) acts h = h
  behind ss b (CurtailOn n block env) acts h = h
  behind ss b (ActionOff n held) acts h = h
  behind ss b (SignalAct n e env) acts h = h
  behind ss b (HandlerRun n t) acts h = h
  behind ss b (OuterAct n) acts h = h
  behind ss b (ResumeWait n w k t env) acts h = h
  behind ss b (HandlesWait n x entry rest) acts h = h
  behind ss b (LoopAct n l env) acts h = h
