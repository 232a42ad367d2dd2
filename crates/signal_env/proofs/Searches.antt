-- A search along links, an entry at a time.
use Rattle.std.proofs.Common.{◌≡◌, ℕ, ◌<◌, ◌≤◌, Bool, true, false, List, [], ◌∷◌, nat_lt, nat_eq, Option, Some, None, refl, ap, sym, ◌∙◌, if◌then◌else◌}
use Rattle.std.proofs.lemmas.Bool.{eqb-true, lt-ltb, le-ltb}
use Rattle.object_heap.specs.Store.{Store}
use Rattle.st_code.specs.Program.{Program}
use Rattle.st_code.specs.Lookup.{is_plain, fits}
use Rattle.st_contexts.specs.declared.activation.Activation.{Activation}
use Rattle.st_contexts.specs.declared.activation.Activation.TheVariants.{Body, Leaving, Protect, EnsureOn, CurtailOn, ActionOff, Signal, HandlerRun, Outer, ResumeWait, HandlesWait, Loop}
use Rattle.st_contexts.specs.declared.activation.Env.{Env}
use Rattle.st_contexts.specs.declared.activation.Entry.{Entry}
use Rattle.st_contexts.specs.Marks.{entry_of}
use Rattle.st_contexts.specs.Stack.{Standing, standing_in, entry_at, entry_in, env_in, with_outside}
use Rattle.signal_env.specs.declared.handlers.Search.TheVariants.{Found, Nobody, Ask}
use Rattle.signal_env.specs.Searches.{search_in}

-- ---- an entry has the number that names it

protect_of : (n : ℕ) (kept : Activation) (env : Env) (e : Entry) → entry_of n kept env ≡ Some e → e.protect ≡ n
protect_of n (Protect r s h) env e is = sym (ap entry_number is)
  where
    entry_number : Option Entry → ℕ
    entry_number None = n
    entry_number (Some x) = x.protect
protect_of n (Body f) env e is = cc
protect_of n (Leaving f) env e is = cc
protect_of n (EnsureOn b) env e is = cc
protect_of n (CurtailOn b) env e is = cc
protect_of n (ActionOff o) env e is = cc
protect_of n (Signal x) env e is = cc
protect_of n (HandlerRun t) env e is = cc
protect_of n Outer env e is = cc
protect_of n (ResumeWait w k t) env e is = cc
protect_of n (HandlesWait s k) env e is = cc
protect_of n (Loop l) env e is = cc

number_of_standing : (n : ℕ) (acts : List Standing) (a : Standing) → standing_in n acts ≡ Some a → a.number ≡ n
unfolding standing_in
number_of_standing n [] a is = cc
number_of_standing n (b ∷ acts) a is = step (nat_eq n b.number) refl is (λ rest. number_of_standing n acts a rest)
  where
    step : (t : Bool) → nat_eq n b.number ≡ t → standing_in n (b ∷ acts) ≡ Some a → (standing_in n acts ≡ Some a → a.number ≡ n) → a.number ≡ n
    step true t w ih =
        let here : Some b ≡ Some a = rw t at w in
        let same : b ≡ a = cc in
        ap (λ s. s.number) (sym same) ∙ sym (eqb-true n b.number t)
    step false t w ih = let rest : standing_in n acts ≡ Some a = rw t at w in ih rest

number_of_entry : (n : ℕ) (acts : List Standing) (o : Option Standing) (e : Entry) → standing_in n acts ≡ o → entry_at o ≡ Some e → e.protect ≡ n
number_of_entry n acts None e at is = cc
number_of_entry n acts (Some a) e at is = protect_of a.number a.kept a.env e is ∙ number_of_standing n acts a at

pub entry_number : (link : ℕ) (acts : List Standing) (e : Entry) → Some e ≡ entry_in link acts → e.protect ≡ link
entry_number link acts e is = step (nat_eq link 0) refl
  where
    step : (t : Bool) → nat_eq link 0 ≡ t → e.protect ≡ link
    step true t = let none : Some e ≡ None = rw t at is in cc
    step false t = let some : Some e ≡ entry_at (standing_in link acts) = rw t at is in number_of_entry link acts (standing_in link acts) e refl (sym some)

-- ---- one entry

module _ (p : Program) (s : Store) (class : ℕ) where
  asks : (e : Entry) (rest : List Entry) → is_plain p s e.selector ≡ false → search_in p s class (e ∷ rest) ≡ Ask e
  unfolding search_in
  asks e rest plain = ap (λ b. if b then (if fits p s e.selector class then Found e else search_in p s class rest) else Ask e) plain

  finds : (e : Entry) (rest : List Entry) → is_plain p s e.selector ≡ true → fits p s e.selector class ≡ true → search_in p s class (e ∷ rest) ≡ Found e
  unfolding search_in
  finds e rest plain fit =
      ap (λ b. if b then (if fits p s e.selector class then Found e else search_in p s class rest) else Ask e) plain
      ∙ ap (λ b. if b then Found e else search_in p s class rest) fit

  passes : (e : Entry) (rest : List Entry) → is_plain p s e.selector ≡ true → fits p s e.selector class ≡ false → search_in p s class (e ∷ rest) ≡ search_in p s class rest
  unfolding search_in
  passes e rest plain fit =
      ap (λ b. if b then (if fits p s e.selector class then Found e else search_in p s class rest) else Ask e) plain
      ∙ ap (λ b. if b then Found e else search_in p s class rest) fit

  pub nobody : search_in p s class [] ≡ Nobody
  unfolding search_in
  nobody = refl

  module _ (acts : List Standing) (env link : ℕ) (sofar : search_in p s class (env_in acts link) ≡ search_in p s class (env_in acts env)) where
    pub search_ended : env_in acts link ≡ [] → Nobody ≡ search_in p s class (env_in acts env)
    search_ended none = sym nobody ∙ sym (ap (search_in p s class) none) ∙ sofar

    module _ (e : Entry) (whole : env_in acts link ≡ with_outside acts (Some e)) where
      rest : List Entry
      rest = if nat_lt e.outside.0 e.protect then env_in acts e.outside.0 else []

      pub search_asks : false ≡ is_plain p s e.selector → Ask e ≡ search_in p s class (env_in acts env)
      unfolding rest
      search_asks plain = sym (asks e rest (sym plain)) ∙ sym (ap (search_in p s class) whole) ∙ sofar

      pub search_finds : true ≡ is_plain p s e.selector → true ≡ fits p s e.selector class → Found e ≡ search_in p s class (env_in acts env)
      unfolding rest
      search_finds plain fit = sym (finds e rest (sym plain) (sym fit)) ∙ sym (ap (search_in p s class) whole) ∙ sofar

      behind : true ≡ is_plain p s e.selector → false ≡ fits p s e.selector class → search_in p s class rest ≡ search_in p s class (env_in acts env)
      unfolding rest
      behind plain fit = sym (passes e rest (sym plain) (sym fit)) ∙ sym (ap (search_in p s class) whole) ∙ sofar

      pub search_past : true ≡ is_plain p s e.selector → false ≡ fits p s e.selector class → e.protect ≤ e.outside.0 → Nobody ≡ search_in p s class (env_in acts env)
      unfolding rest
      search_past plain fit far =
          let none : rest ≡ [] = ap (λ b. if b then env_in acts e.outside.0 else []) (le-ltb e.outside.0 e.protect far) in
          sym nobody ∙ sym (ap (search_in p s class) none) ∙ behind plain fit

      pub search_next : true ≡ is_plain p s e.selector → false ≡ fits p s e.selector class → e.outside.0 < e.protect → search_in p s class (env_in acts e.outside.0) ≡ search_in p s class (env_in acts env)
      unfolding rest
      search_next plain fit near =
          let next : rest ≡ env_in acts e.outside.0 = ap (λ b. if b then env_in acts e.outside.0 else []) (lt-ltb e.outside.0 e.protect near) in
          sym (ap (search_in p s class) next) ∙ behind plain fit
