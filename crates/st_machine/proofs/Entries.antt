-- The entry that a link names, and the environment outside it.
use Rattle.std.proofs.Common.{◌≡◌, ℕ, suc, zero, ◌<◌, List, [], ◌∷◌, map, Bool, true, false, nat_eq, Option, Some, None, refl, ap, sym, ◌∙◌, arith}
use Rattle.std.proofs.lemmas.Bool.{eqb-true}
use Rattle.std.proofs.lemmas.Bool.Decides.{nat_tests}
use Rattle.object_heap.specs.declared.value.Value.{Value}
use Rattle.st_contexts.specs.declared.activation.Activation.{Activation}
use Rattle.st_contexts.specs.declared.activation.Activation.TheVariants as act
use Rattle.st_contexts.specs.declared.activation.Entry.{Entry}
use Rattle.st_contexts.specs.declared.activation.Env.{Env}
use Rattle.st_contexts.specs.Marks.{entry_of}
use Rattle.st_contexts.specs.Stack.{Standing, standing_in, entry_in, env_in, before}
use Rattle.st_machine.specs.Followed.{Below, Falling}
use Rattle.st_machine.specs.Meaning.{env_of, entry_named, entry_seen}
use Rattle.st_machine.proofs.Links.{env_skip, entry_skip, env_here}

not_zero : (k : ℕ) → nat_eq (suc k) 0 ≡ false
not_zero k = grind (arith, nat_tests)

-- ---- no entry

before_none : (o : Option Entry) (es : List Entry) → o ≡ None → before o es ≡ []
before_none o es is = rw is refl

none_by : (b : Bool) (a : Standing) (acts : List Standing) (l : ℕ) → nat_eq (suc l) a.number ≡ b → entry_in (suc l) (a ∷ acts) ≡ None → (entry_in (suc l) acts ≡ None → env_in acts (suc l) ≡ []) → env_in (a ∷ acts) (suc l) ≡ []
unfolding env_in standing_in
none_by true a acts l t w ih = let none : entry_of a.number a.kept a.env ≡ None = rw (not_zero l, t) at w in rw t (before_none (entry_of a.number a.kept a.env) (env_in acts a.env.0) none)
none_by false a acts l t w ih = let none : entry_in (suc l) acts ≡ None = rw t at w in rw t (ih none)

none_in : (acts : List Standing) (link : ℕ) → entry_in link acts ≡ None → env_in acts link ≡ []
unfolding env_in
none_in [] link is = refl
none_in (a ∷ acts) zero is = refl
none_in (a ∷ acts) (suc l) is = none_by (nat_eq (suc l) a.number) a acts l refl is (λ none. none_in acts (suc l) none)

pub no_entry : (acts : List Standing) (env : Env) → entry_in env.0 acts ≡ None → env_of acts env ≡ []
unfolding env_of
no_entry acts env is = ap (λ es. map entry_seen es) (none_in acts env.0 is)

-- ---- an entry

pub record Names (bound : ℕ) (acts : List Standing) (link : ℕ) (entry : Entry) : Type 0 where
  pub number : entry.protect ≡ link
  pub within : link < bound
  pub outside : entry.outside.0 < link
  pub env : env_of acts (record { 0 = link }) ≡ entry_seen entry ∷ env_of acts entry.outside
  pub named : entry_named acts entry.protect ≡ entry_seen entry

protect_names : (bound m : ℕ) (r s h : Value) (env : Env) (ops : List Value) (acts : List Standing) → m < bound → env.0 < m → entry_in m (record { number = m; kept = act.Protect r s h; env = env; operands = ops } ∷ acts) ≡ Some (record { protect = m; selector = s; handler = h; outside = env })
    → Names bound (record { number = m; kept = act.Protect r s h; env = env; operands = ops } ∷ acts) m (record { protect = m; selector = s; handler = h; outside = env })
unfolding entry_named
protect_names bound m r s h env ops acts l below is =
    record {
      number = refl;
      within = l;
      outside = below;
      env = env_here m r s h env ops acts below ∙ ap (λ es. record { number = m; selector = s; handler = h } ∷ es) (sym (env_skip (record { number = m; kept = act.Protect r s h; env = env; operands = ops }) acts env below));
      named = rw is refl;
    }

here_names : (k : Activation) (bound m : ℕ) (env : Env) (ops : List Value) (acts : List Standing) (entry : Entry) → m < bound → env.0 < m → entry_of m k env ≡ Some entry → entry_in m (record { number = m; kept = k; env = env; operands = ops } ∷ acts) ≡ Some entry
    → Names bound (record { number = m; kept = k; env = env; operands = ops } ∷ acts) m entry
here_names (act.Protect r s h) bound m env ops acts entry l below is here =
    let same : record { protect = m; selector = s; handler = h; outside = env } ≡ entry = cc in
    let here' : entry_in m (record { number = m; kept = act.Protect r s h; env = env; operands = ops } ∷ acts) ≡ Some (record { protect = m; selector = s; handler = h; outside = env }) = here ∙ sym is in
    rw (← same) (protect_names bound m r s h env ops acts l below here')
here_names (act.Body f) bound m env ops acts entry l below is here = absurd cc
here_names (act.Leaving f) bound m env ops acts entry l below is here = absurd cc
here_names (act.EnsureOn b) bound m env ops acts entry l below is here = absurd cc
here_names (act.CurtailOn b) bound m env ops acts entry l below is here = absurd cc
here_names (act.ActionOff o) bound m env ops acts entry l below is here = absurd cc
here_names (act.Signal x) bound m env ops acts entry l below is here = absurd cc
here_names (act.HandlerRun t) bound m env ops acts entry l below is here = absurd cc
here_names act.Outer bound m env ops acts entry l below is here = absurd cc
here_names (act.ResumeWait w k t) bound m env ops acts entry l below is here = absurd cc
here_names (act.HandlesWait x e) bound m env ops acts entry l below is here = absurd cc
here_names (act.Loop x) bound m env ops acts entry l below is here = absurd cc

deeper_names : (bound : ℕ) (a : Standing) (acts : List Standing) (link : ℕ) (entry : Entry) → a.number < bound → Names a.number acts link entry → Names bound (a ∷ acts) link entry
deeper_names bound a acts link entry l h =
    record {
      number = h.number;
      within = omega (arith, l, h.within);
      outside = h.outside;
      env = env_skip a acts (record { 0 = link }) h.within ∙ h.env ∙ ap (λ es. entry_seen entry ∷ es) (sym (env_skip a acts entry.outside (omega (arith, h.within, h.outside))));
      named = entry_skip a acts entry.protect (let small : entry.protect < a.number = omega (arith, h.number, h.within) in small) ∙ h.named;
    }

names_by : (b : Bool) (bound : ℕ) (a : Standing) (acts : List Standing) (l : ℕ) (entry : Entry) → Below bound a → nat_eq (suc l) a.number ≡ b → entry_in (suc l) (a ∷ acts) ≡ Some entry → (entry_in (suc l) acts ≡ Some entry → Names a.number acts (suc l) entry) → Names bound (a ∷ acts) (suc l) entry
unfolding standing_in
names_by true bound a acts l entry below t w ih =
    let here : entry_of a.number a.kept a.env ≡ Some entry = rw (not_zero l, t) at w in
    let same : suc l ≡ a.number = eqb-true (suc l) a.number t in
    let named : entry_in a.number (a ∷ acts) ≡ Some entry = ap (λ k. entry_in k (a ∷ acts)) (sym same) ∙ w in
    rw same (here_names a.kept bound a.number a.env a.operands acts entry below.number below.env here named)
names_by false bound a acts l entry below t w ih = let there : entry_in (suc l) acts ≡ Some entry = rw t at w in deeper_names bound a acts (suc l) entry below.number (ih there)

pub names : (bound : ℕ) (acts : List Standing) → Falling bound acts → (link : ℕ) (entry : Entry) → entry_in link acts ≡ Some entry → Names bound acts link entry
unfolding standing_in
names bound [] falling zero entry is = absurd cc
names bound [] falling (suc l) entry is = let none : None ≡ Some entry = rw (not_zero l) at is in absurd cc
names bound (a ∷ acts) falling zero entry is = absurd cc
names bound (a ∷ acts) falling (suc l) entry is = names_by (nat_eq (suc l) a.number) bound a acts l entry falling.0 refl is (λ there. names a.number acts falling.1 (suc l) entry there)
