-- In a run of the units that are kept no number of a symbol or selector stands that isn't needed: two renamings that differ on those numbers alone rename each reached state alike. And shaking twice is shaking once.
use Rattle.std.proofs.Common.{◌≡◌, inl, inr, ℕ, ◌+◌, ◌<◌, List, [], ◌∷◌, ◌++◌, length, get_or, Bool, true, false, nat_lt, lt-ltb, refl, sym, ap, ◌∙◌, subst, arith}
use Rattle.st_code.specs.Texts.{Text}
use Rattle.st_code.specs.Program.{Program}
use Rattle.st_code.specs.Named.{NamedUnit, ClassUnit, GlobalUnit, PoolVariableUnit, InitializerUnit, PoolInitializerUnit, ProgramUnit, MethodUnit, ClassMethodUnit}
use Rattle.st_code.specs.Resolved.{has_text, number_or_last}
use Rattle.st_code.specs.Definitions.{RunLimits, program_of}
use Rattle.st_rules.specs.Scoped.{scoped}
use Rattle.st_rules.specs.Turns.{opened_run, top_iter}
use Rattle.st_rules.proofs.SoundProgram.{programs_are_compilable}
use Rattle.st_rules.proofs.KnownProgram.{programs_know_literals}
use Rattle.law_shake.specs.Renaming.{Renaming, Sent, ren_top, IsRenamed}
use Rattle.st_shake.specs.Needed.{Method, always_needed, Has, OneOf, IsLeast}
use Rattle.st_shake.specs.Shaken.{is_kept}
use Rattle.law_shake.specs.Kept.{kept_before, kept_units}
use Rattle.st_shake.specs.Needed.{methods_of, first_texts, texts_of, needed}
use Rattle.law_shake.specs.Kept.{shaken_units}
use Rattle.law_shake.specs.Names.{Spells}
use Rattle.st_shake.proofs.Closing.{closure_is_least}
use Rattle.st_shake.proofs.Kept.{both_ways}
use Rattle.st_shake.proofs.Texts.{has_at, has_before, has_behind, has_itself}
use Rattle.program_image.specs.Spelled.{statements_texts, unit_texts, units_texts}
use Rattle.law_shake.proofs.Symbols.{symbol_in, by_place, by_need, number_is}
use Rattle.law_shake.proofs.Programs.{names_are, whole}
use Rattle.law_shake.proofs.AllRows.{rows_alike}
use Rattle.law_shake.proofs.Steps.{run_same}
use Rattle.law_shake.proofs.Whole.{rooms}
use Rattle.law_shake.proofs.Shaken.{AllClosed, x, symbol, renamed, sends_here, closes_here}

-- ---- units that are kept are kept again

module _ (need : List Text) where
  pub kept_again : (us : List NamedUnit) → kept_units need (kept_units need us) ≡ kept_units need us
  kept_again [] = refl
  kept_again (u ∷ us) = by (is_kept need u) refl (kept_again us)
    where
      by : (b : Bool) → is_kept need u ≡ b → kept_units need (kept_units need us) ≡ kept_units need us → kept_units need (kept_before b u (kept_units need us)) ≡ kept_before b u (kept_units need us)
      by true e h = ap (λ c. kept_before c u (kept_units need (kept_units need us))) e ∙ ap (λ vs. u ∷ vs) h
      by false e h = h

  closed_again : (us : List NamedUnit) → AllClosed need us → AllClosed need (kept_units need us)
  closed_again [] c = tt
  closed_again (u ∷ us) c = by (is_kept need u) (closed_again us c.1)
    where
      by : (b : Bool) → AllClosed need (kept_units need us) → AllClosed need (kept_before b u (kept_units need us))
      by true h = (c.0, h)
      by false h = h

  -- what units that are no methods need is kept
  first_kept : (us : List NamedUnit) → texts_of (kept_units need us) ≡ texts_of us
  first_kept [] = refl
  first_kept (MethodUnit class m ∷ us) = by (has_text need m.selector) (first_kept us)
    where
      by : (b : Bool) → texts_of (kept_units need us) ≡ texts_of us → texts_of (kept_before b (MethodUnit class m) (kept_units need us)) ≡ texts_of us
      by true h = h
      by false h = h
  first_kept (ClassMethodUnit class m ∷ us) = by (has_text need m.selector) (first_kept us)
    where
      by : (b : Bool) → texts_of (kept_units need us) ≡ texts_of us → texts_of (kept_before b (ClassMethodUnit class m) (kept_units need us)) ≡ texts_of us
      by true h = h
      by false h = h
  first_kept (ClassUnit c ∷ us) = first_kept us
  first_kept (GlobalUnit name ∷ us) = first_kept us
  first_kept (PoolVariableUnit pool name ∷ us) = first_kept us
  first_kept (InitializerUnit target b ∷ us) = ap (λ ts. first_texts (InitializerUnit target b) ++ ts) (first_kept us)
  first_kept (PoolInitializerUnit pool name b ∷ us) = ap (λ ts. first_texts (PoolInitializerUnit pool name b) ++ ts) (first_kept us)
  first_kept (ProgramUnit b ∷ us) = ap (λ ts. first_texts (ProgramUnit b) ++ ts) (first_kept us)

  -- the methods that are kept are methods, and those of the selectors
  method_was : (us : List NamedUnit) (m : Method) → OneOf m (methods_of (kept_units need us)) → OneOf m (methods_of us)
  method_was [] m one = one
  method_was (u ∷ us) m one = by u (is_kept need u) one (method_was us m)
    where
      by : (u : NamedUnit) (b : Bool) → OneOf m (methods_of (kept_before b u (kept_units need us))) → (OneOf m (methods_of (kept_units need us)) → OneOf m (methods_of us)) → OneOf m (methods_of (u ∷ us))
      by (MethodUnit class k) true (inl e) later = inl e
      by (MethodUnit class k) true (inr o) later = inr (later o)
      by (MethodUnit class k) false o later = inr (later o)
      by (ClassMethodUnit class k) true (inl e) later = inl e
      by (ClassMethodUnit class k) true (inr o) later = inr (later o)
      by (ClassMethodUnit class k) false o later = inr (later o)
      by (ClassUnit c) true o later = later o
      by (ClassUnit c) false o later = later o
      by (GlobalUnit name) true o later = later o
      by (GlobalUnit name) false o later = later o
      by (PoolVariableUnit pool name) true o later = later o
      by (PoolVariableUnit pool name) false o later = later o
      by (InitializerUnit target b) true o later = later o
      by (InitializerUnit target b) false o later = later o
      by (PoolInitializerUnit pool name b) true o later = later o
      by (PoolInitializerUnit pool name b) false o later = later o
      by (ProgramUnit b) true o later = later o
      by (ProgramUnit b) false o later = later o

  method_stays : (us : List NamedUnit) (m : Method) → OneOf m (methods_of us) → Has need m.selector → OneOf m (methods_of (kept_units need us))
  method_stays [] m one h = one
  method_stays (MethodUnit class k ∷ us) m one h = by (has_text need k.selector) refl one (λ o. method_stays us m o h)
    where
      by : (b : Bool) → has_text need k.selector ≡ b → OneOf m (methods_of (MethodUnit class k ∷ us)) → (OneOf m (methods_of us) → OneOf m (methods_of (kept_units need us))) → OneOf m (methods_of (kept_before b (MethodUnit class k) (kept_units need us)))
      by true e (inl same) later = inl same
      by true e (inr o) later = inr (later o)
      by false e (inl same) later = let g = ap (λ (j : Method). has_text need j.selector) same in cc
      by false e (inr o) later = later o
  method_stays (ClassMethodUnit class k ∷ us) m one h = by (has_text need k.selector) refl one (λ o. method_stays us m o h)
    where
      by : (b : Bool) → has_text need k.selector ≡ b → OneOf m (methods_of (ClassMethodUnit class k ∷ us)) → (OneOf m (methods_of us) → OneOf m (methods_of (kept_units need us))) → OneOf m (methods_of (kept_before b (ClassMethodUnit class k) (kept_units need us)))
      by true e (inl same) later = inl same
      by true e (inr o) later = inr (later o)
      by false e (inl same) later = let g = ap (λ (j : Method). has_text need j.selector) same in cc
      by false e (inr o) later = later o
  method_stays (ClassUnit c ∷ us) m one h = method_stays us m one h
  method_stays (GlobalUnit name ∷ us) m one h = method_stays us m one h
  method_stays (PoolVariableUnit pool name ∷ us) m one h = method_stays us m one h
  method_stays (InitializerUnit target b ∷ us) m one h = method_stays us m one h
  method_stays (PoolInitializerUnit pool name b ∷ us) m one h = method_stays us m one h
  method_stays (ProgramUnit b ∷ us) m one h = method_stays us m one h

-- ---- units all of whose texts are in a set

closed_in : (set : List Text) (us : List NamedUnit) → ((t : Text) → Has (units_texts us) t → Has set t) → AllClosed set us
closed_in set [] g = tt
closed_in set (u ∷ us) g = ((λ e t h. g t (has_before (unit_texts u) (units_texts us) t h)), closed_in set us (λ t h. g t (has_behind (unit_texts u) (units_texts us) t h)))

kept_in : (set : List Text) (us : List NamedUnit) → ((t : Text) → Has (units_texts us) t → Has set t) → kept_units set us ≡ us
kept_in set [] g = refl
kept_in set (u ∷ us) g =
    ap (λ b. kept_before b u (kept_units set us)) (at u (λ t h. g t (has_before (unit_texts u) (units_texts us) t h)))
    ∙ ap (λ vs. u ∷ vs) (kept_in set us (λ t h. g t (has_behind (unit_texts u) (units_texts us) t h)))
  where
    at : (u : NamedUnit) → ((t : Text) → Has (unit_texts u) t → Has set t) → is_kept set u ≡ true
    at (ClassUnit k) h = refl
    at (GlobalUnit name) h = refl
    at (PoolVariableUnit pool name) h = refl
    at (InitializerUnit target b) h = refl
    at (PoolInitializerUnit pool name b) h = refl
    at (ProgramUnit b) h = refl
    at (MethodUnit class m) h = h m.selector (has_itself m.selector (statements_texts m.body.statements))
    at (ClassMethodUnit class m) h = h m.selector (has_itself m.selector (statements_texts m.body.statements))

-- ---- shaking twice

pub same_tests : (a b : List Text) → ((t : Text) → has_text a t ≡ has_text b t) → (us : List NamedUnit) → kept_units a us ≡ kept_units b us
same_tests a b h [] = refl
same_tests a b h (u ∷ us) = ap (λ c. kept_before c u (kept_units a us)) (same u) ∙ ap (λ vs. kept_before (is_kept b u) u vs) (same_tests a b h us)
  where
    same : (u : NamedUnit) → is_kept a u ≡ is_kept b u
    same (MethodUnit class m) = h m.selector
    same (ClassMethodUnit class m) = h m.selector
    same (ClassUnit c) = refl
    same (GlobalUnit name) = refl
    same (PoolVariableUnit pool name) = refl
    same (InitializerUnit target k) = refl
    same (PoolInitializerUnit pool name k) = refl
    same (ProgramUnit k) = refl

module _ (units : List NamedUnit) where
  least_of : IsLeast (methods_of units) (always_needed ++ texts_of units) (needed units)
  least_of = closure_is_least (methods_of units) (always_needed ++ texts_of units)

  least_again : IsLeast (methods_of (shaken_units units)) (always_needed ++ texts_of (shaken_units units)) (needed (shaken_units units))
  least_again = closure_is_least (methods_of (shaken_units units)) (always_needed ++ texts_of (shaken_units units))

  same_first : always_needed ++ texts_of (shaken_units units) ≡ always_needed ++ texts_of units
  same_first = ap (λ ts. always_needed ++ ts) (first_kept (needed units) units)

  pub fewer : (t : Text) → Has (needed (shaken_units units)) t → Has (needed units) t
  fewer = least_again.least (needed units) (λ t h. least_of.has_first t (subst (λ ts. Has ts t) same_first h)) (record { by = λ m one. least_of.is_closed.by m (method_was (needed units) units m one) })

  pub more : (t : Text) → Has (needed units) t → Has (needed (shaken_units units)) t
  more =
      least_of.least (needed (shaken_units units)) (λ t h. least_again.has_first t (subst (λ ts. Has ts t) (sym same_first) h))
      (record { by = λ m one h. least_again.is_closed.by m (method_stays (needed units) units m one (fewer m.selector h)) h })

  pub shaken_twice : shaken_units (shaken_units units) ≡ shaken_units units
  shaken_twice = same_tests (needed (shaken_units units)) (needed units) (both_ways (needed (shaken_units units)) (needed units) fewer more) (shaken_units units) ∙ kept_again (needed units) units

-- ---- the two renamings

module _ (base names : List Text) (units : List NamedUnit) (limits : RunLimits) (own : (t : Text) → Sent t → Has base t) (spells : Spells base names (shaken_units units)) where
  abbrev pub need : List Text
  need = needed units

  abbrev pub us : List NamedUnit
  us = shaken_units units

  abbrev pub q : Program
  q = program_of names us limits

  pub again_spells : Spells base names (kept_units need us)
  again_spells = subst (λ vs. Spells base names vs) (sym (kept_again need units)) spells

  pub closes : AllClosed need us
  closes = closed_again need units (closes_here units)

  -- the one sends a number that isn't needed to the second copy, the other leaves all as they are
  abbrev pub one : Renaming
  one = x base names names need us own (sends_here units) closes spells again_spells

  pub sends_all : (t : Text) → Sent t → Has names t
  sends_all t s = spells.base_there t (own t s)

  pub closes_all : AllClosed names us
  closes_all = closed_in names us spells.all

  pub all_stay : kept_units names us ≡ us
  all_stay = kept_in names us spells.all

  pub all_spells : Spells base names (kept_units names us)
  all_spells = subst (λ vs. Spells base names vs) (sym all_stay) spells

  abbrev pub other : Renaming
  other = x base names names names us own sends_all closes_all spells all_spells

  one_is : IsRenamed one q (whole need names names us (symbol base names names need us own (sends_here units) closes spells again_spells) limits)
  one_is =
      subst (λ vs. IsRenamed one (program_of names vs limits) (whole need names names us (symbol base names names need us own (sends_here units) closes spells again_spells) limits)) (kept_again need units)
      (renamed base names names need us own (sends_here units) closes spells again_spells limits)

  other_is : IsRenamed other q (whole names names names us (symbol base names names names us own sends_all closes_all spells all_spells) limits)
  other_is =
      subst (λ vs. IsRenamed other (program_of names vs limits) (whole names names names us (symbol base names names names us own sends_all closes_all spells all_spells) limits)) all_stay
      (renamed base names names names us own sends_all closes_all spells all_spells limits)

  -- each reached state is renamed alike by both
  pub held : (k : ℕ) → ren_top one (top_iter (scoped q) q k (opened_run (scoped q) q)) ≡ ren_top other (top_iter (scoped q) q k (opened_run (scoped q) q))
  held k =
      let ok = programs_are_compilable names us limits in
      let known = programs_know_literals names us limits in
      let w = whole need names names us (λ n. n) limits in
      sym (run_same one q w one_is (rows_alike one q w one_is) (rooms q ok known one w one_is (rows_alike one q w one_is)) k)
      ∙ run_same other q w other_is (rows_alike other q w other_is) (rooms q ok known other w other_is (rows_alike other q w other_is)) k

-- a number that both rename alike is needed, where every text is needed for the other
pub alike_is_needed : (need all names : List Text) (n : ℕ) → n < length names → Has names (get_or names n []) → Has all (get_or names n []) → symbol_in need names names n ≡ symbol_in all names names n → Has need (get_or names n [])
unfolding symbol_in
alike_is_needed need all names n l there h e = by (has_text need (get_or names n [])) refl
  where
    t : Text
    t = get_or names n []

    place : ℕ
    place = number_or_last names t

    low : place < length names
    low = (number_is names t there).below

    at : (b : Bool) → nat_lt n (length names) ≡ b → (c : Bool) → has_text need t ≡ c → symbol_in need names names n ≡ symbol_in all names names n → true ≡ c
    at b f true g e = refl
    at b f false g e =
        let less = lt-ltb n (length names) l in
        let left : by_place need names names (nat_lt n (length names)) n ≡ length names + place = ap (λ b. by_place need names names b n) less ∙ ap (λ c. by_need need names names c t) g in
        let right : by_place all names names (nat_lt n (length names)) n ≡ place = ap (λ b. by_place all names names b n) less ∙ ap (λ c. by_need all names names c t) h in
        absurd (omega (arith, low, left, right, e))

    by : (c : Bool) → has_text need t ≡ c → has_text need t ≡ true
    by true g = g
    by false g = g ∙ sym (at (nat_lt n (length names)) refl false g e)

module _ (base names : List Text) (units : List NamedUnit) (limits : RunLimits) (own : (t : Text) → Sent t → Has base t) (spells : Spells base names (shaken_units units)) where
  pub told_apart : (n : ℕ) → n < length names → (one base names units limits own spells).symbol n ≡ (other base names units limits own spells).symbol n → Has (needed units) (get_or names n [])
  told_apart n l e =
      let us = shaken_units units in
      alike_is_needed (needed units) names names n l (has_at names n l) (has_at names n l)
      (ap (λ ns. symbol_in (needed units) ns names n) (sym (names_are names (kept_units (needed units) us))) ∙ e ∙ ap (λ ns. symbol_in names ns names n) (names_are names (kept_units names us)))
