-- In a run no number of a symbol or selector stands that names nothing: two renamings that differ on those numbers alone rename each reached state alike.
use Rattle.std.proofs.Common.{◌≡◌, ◌⊎◌, inl, inr, ℕ, suc, ◌<◌, ◌≤◌, nat_eq, nat_lt, length, List, [], ◌∷◌, ◌++◌, get_or, Option, Some, None, Bool, true, false, eqb-true, refl, sym, ap, ◌∙◌, subst, arith, codes, if◌then◌else◌}
use Rattle.st_code.specs.Texts.{Text}
use Rattle.st_code.specs.Program.{Program}
use Rattle.st_code.specs.Named.{NamedBody, NamedMethod, NamedUnit, ClassUnit, GlobalUnit, PoolVariableUnit, InitializerUnit, PoolInitializerUnit, ProgramUnit, MethodUnit, ClassMethodUnit}
use Rattle.st_code.specs.Resolved.{Names, has_text, number_or_last, class_in}
use Rattle.st_code.specs.Definitions.{RunLimits, program_of, names_of}
use Rattle.st_rules.proofs.SoundProgram.{programs_are_compilable}
use Rattle.st_rules.proofs.KnownProgram.{programs_know_literals}
use Rattle.law_shake.specs.Renaming.{Renaming, ren, Sent, sends_equal, IsRenamed}
use Rattle.law_shake.specs.Making.{Named}
use Rattle.program_image.specs.Spelled.{statements_texts, unit_texts, units_texts}
use Rattle.st_shake.specs.Shaken.{is_kept}
use Rattle.law_shake.specs.Kept.{kept_before, kept_units}
use Rattle.law_shake.specs.Items.{Shape, initialized_shape, shape_of}
use Rattle.law_shake.specs.Names.{Spells}
use Rattle.st_shake.proofs.Texts.{has_before, has_behind, has_either, has_itself}
use Rattle.law_shake.proofs.Symbols.{symbol_in, NamesFit, texts_same, numbers_apart, needed_number, sent_number, gone_number}
use Rattle.law_shake.proofs.Units.{items_of, ItemsFit, ItemFits}
use Rattle.law_shake.proofs.Programs.{names_are, shaking, SymbolsFit, whole, is_renamed}
use Rattle.std.proofs.lemmas.List.{get_or_past}
use Rattle.std.proofs.lemmas.Bool.{ltb-true, ltb-false, le-ltb, lt-ltb, eq-eqb}
use Rattle.st_code.specs.Program.{number_from}
use Rattle.st_code.specs.Written.{named_units}
use Rattle.program_image.specs.Spelled.{names_in}
use Rattle.st_rules.specs.Scoped.{scoped}
use Rattle.st_rules.specs.Turns.{opened_run, top_iter}
use Rattle.law_shake.specs.Renaming.{ren_top}
use Rattle.law_shake.proofs.AllRows.{rows_alike}
use Rattle.law_shake.proofs.Steps.{run_same}
use Rattle.law_shake.proofs.Whole.{rooms}
use Rattle.law_shake.proofs.Symbols.{from_number, number_is}
use Rattle.law_shake.proofs.Spellings.{base, names_spell, own_names}
use Rattle.law_shake.proofs.Shaken as first
use Rattle.law_shake.proofs.Shaken.{AllClosed}
use Rattle.st_shake.specs.Needed.{Has}
use Rattle.st_shake.proofs.Texts.{has_at}
use Rattle.law_values.specs.NamedSymbols.{HasNamed, SymbolsAreNamed}

-- ---- the numbers that name nothing, moved by one

unfoldable pub past : List Text → ℕ → ℕ
past names n = if nat_lt n (length names) then n else suc n

past_below : (names : List Text) (n : ℕ) → n < length names → past names n ≡ n
unfolding past
past_below names n l = ap (λ b. if b then n else suc n) (lt-ltb n (length names) l)

past_above : (names : List Text) (n : ℕ) → length names ≤ n → past names n ≡ suc n
unfolding past
past_above names n l = ap (λ b. if b then n else suc n) (le-ltb n (length names) l)

split : (names : List Text) (n : ℕ) → (n < length names) ⊎ (length names ≤ n)
split names n = by (nat_lt n (length names)) refl
  where
    by : (b : Bool) → nat_lt n (length names) ≡ b → (n < length names) ⊎ (length names ≤ n)
    by true e = inl (ltb-true n (length names) e)
    by false e = inr (ltb-false n (length names) e)

-- what isn't moved is below
kept_below : (names : List Text) (n : ℕ) → past names n ≡ n → n < length names
kept_below names n e = by (split names n)
  where
    by : (n < length names) ⊎ (length names ≤ n) → n < length names
    by (inl l) = l
    by (inr l) = let f = past_above names n l in absurd (omega (arith, e, f))

past_one : (names : List Text) (m n : ℕ) → past names m ≡ past names n → m ≡ n
past_one names m n e = by (split names m) (split names n)
  where
    by : (m < length names) ⊎ (length names ≤ m) → (n < length names) ⊎ (length names ≤ n) → m ≡ n
    by (inl l) (inl k) = sym (past_below names m l) ∙ e ∙ past_below names n k
    by (inl l) (inr k) = let a = past_below names m l in let b = past_above names n k in absurd (omega (arith, l, k, a, b, e))
    by (inr l) (inl k) = let a = past_above names m l in let b = past_below names n k in absurd (omega (arith, l, k, a, b, e))
    by (inr l) (inr k) = let a = past_above names m l in let b = past_above names n k in omega (arith, a, b, e)

module _ (need names names' : List Text) (fit : NamesFit need names names') where
  abbrev f : ℕ → ℕ
  f n = symbol_in need names names' n

  past_apart : (m n : ℕ) → nat_eq (f (past names m)) (f (past names n)) ≡ nat_eq m n
  past_apart m n = numbers_apart need names names' fit (past names m) (past names n) ∙ by (nat_eq m n) refl (nat_eq (past names m) (past names n)) refl
    where
      by : (b : Bool) → nat_eq m n ≡ b → (c : Bool) → nat_eq (past names m) (past names n) ≡ c → c ≡ b
      by true e true g = refl
      by false e false g = refl
      by true e false g = sym g ∙ eq-eqb _ _ (ap (past names) (eqb-true m n e))
      by false e true g = sym (eq-eqb m n (past_one names m n (eqb-true _ _ g))) ∙ e

  past_texts : (n : ℕ) → get_or (names' ++ names') (f (past names n)) [] ≡ get_or names n []
  past_texts n = texts_same need names names' fit (past names n) ∙ by (split names n)
    where
      by : (n < length names) ⊎ (length names ≤ n) → get_or names (past names n) [] ≡ get_or names n []
      by (inl l) = ap (λ k. get_or names k []) (past_below names n l)
      by (inr l) = let e = past_above names n l in get_or_past names (past names n) [] (omega (arith, e, l)) ∙ sym (get_or_past names n [] l)

  past_sent : (t : Text) → Has names t → Has names' t → Has need t → number_from (names' ++ names') t 0 ≡ f (past names (number_from names t 0))
  past_sent t h h' g =
      let e : past names (number_from names t 0) ≡ number_from names t 0 = past_below names (number_from names t 0) (subst (λ n. n < length names) (sym (from_number names t h)) (number_is names t h).below) in
      sent_number need names names' fit t h h' g ∙ ap f (sym e)

  past_needed : (t : Text) → Has names t → Has need t → f (past names (number_or_last names t)) ≡ number_or_last names' t
  past_needed t h g = ap f (past_below names (number_or_last names t) (number_is names t h).below) ∙ needed_number need names names' fit t h g

  past_gone : (t : Text) → Has names' t → has_text need t ≡ false → (n : ℕ) → nat_eq (number_or_last names' t) (f (past names n)) ≡ false
  past_gone t h g n = gone_number need names names' fit t h g (past names n)

-- ---- units that are kept are among all

kept_texts : (need : List Text) (units : List NamedUnit) (t : Text) → Has (units_texts (kept_units need units)) t → Has (units_texts units) t
kept_texts need [] t h = h
kept_texts need (u ∷ units) t h = by (is_kept need u) h (λ g. kept_texts need units t g)
  where
    by : (b : Bool) → Has (units_texts (kept_before b u (kept_units need units))) t → (Has (units_texts (kept_units need units)) t → Has (units_texts units) t) → Has (unit_texts u ++ units_texts units) t
    by false g later = has_behind (unit_texts u) (units_texts units) t (later g)
    by true g later = at (has_either (unit_texts u) (units_texts (kept_units need units)) t g)
      where
        at : Has (unit_texts u) t ⊎ Has (units_texts (kept_units need units)) t → Has (unit_texts u ++ units_texts units) t
        at (inl k) = has_before (unit_texts u) (units_texts units) t k
        at (inr k) = has_behind (unit_texts u) (units_texts units) t (later k)

-- ---- units all of whose texts are in a set

closed_in : (set : List Text) (us : List NamedUnit) → ((t : Text) → Has (units_texts us) t → Has set t) → AllClosed set us
closed_in set [] g = tt
closed_in set (u ∷ us) g = ((λ e t h. g t (has_before (unit_texts u) (units_texts us) t h)), closed_in set us (λ t h. g t (has_behind (unit_texts u) (units_texts us) t h)))

kept_in : (set : List Text) (us : List NamedUnit) → ((t : Text) → Has (units_texts us) t → Has set t) → kept_units set us ≡ us
kept_in set [] g = refl
kept_in set (u ∷ us) g =
    ap (λ b. kept_before b u (kept_units set us)) (at u (λ t h. g t (has_before (unit_texts u) (units_texts us) t h)))
    ∙ ap (λ vs. u ∷ vs) (kept_in set us (λ t h. g t (has_behind (unit_texts u) (units_texts us) t h)))
  where
    at : (u : NamedUnit) → ((t : Text) → Has (unit_texts u) t → Has set t) → is_kept set u ≡ true
    at (ClassUnit k) h = refl
    at (GlobalUnit name) h = refl
    at (PoolVariableUnit pool name) h = refl
    at (InitializerUnit target b) h = refl
    at (PoolInitializerUnit pool name b) h = refl
    at (ProgramUnit b) h = refl
    at (MethodUnit class m) h = h m.selector (has_itself m.selector (statements_texts m.body.statements))
    at (ClassMethodUnit class m) h = h m.selector (has_itself m.selector (statements_texts m.body.statements))

-- ---- the second renaming

module _ (base names names' need : List Text) (units : List NamedUnit) (own : (t : Text) → Sent t → Has base t) (sends : (t : Text) → Sent t → Has need t) (closes : AllClosed need units) (spells' : Spells base names' units) (spells : Spells base names (kept_units need units)) where
  abbrev y : Names
  y = names_of names (kept_units need units)

  abbrev kept : List NamedUnit
  kept = kept_units need units

  here : Spells base y.names kept
  here = subst (λ ns. Spells base ns kept) (sym (names_are names kept)) spells

  abbrev pub symbol : ℕ → ℕ
  symbol n = symbol_in need y.names names' (past y.names n)

  abbrev pub x : Renaming
  x = shaking need names names' units symbol

  fit : NamesFit need y.names names'
  fit =
      record {
        distinct = here.distinct;
        inside = λ n l. by (get_or y.names n []) (has_either base (units_texts kept) (get_or y.names n []) (here.only n l));
      }
    where
      by : (t : Text) → Has base t ⊎ Has (units_texts kept) t → Has names' t
      by t (inl h) = spells'.base_there t h
      by t (inr h) = spells'.all t (kept_texts need units t h)

  zero_same : symbol 0 ≡ 0
  zero_same = ap symbol (sym here.equal_first) ∙ past_needed need y.names names' fit (codes "=") (here.base_there _ (own _ sends_equal)) (sends _ sends_equal) ∙ spells'.equal_first

  past_fits : SymbolsFit need names names' units symbol
  past_fits =
      record {
        zero_same = zero_same;
        apart = past_apart need y.names names' fit;
        texts = past_texts need y.names names' fit;
        sent = λ t h. past_sent need y.names names' fit t (here.base_there t (own t h)) (spells'.base_there t (own t h)) (sends t h);
      }

  -- ---- units fit

  texts_named : (ts : List Text) → ((t : Text) → Has ts t → Has need t) → ((t : Text) → Has ts t → Has y.names t) → Named x y.names names' ts
  texts_named ts h g = record { symbol = λ t k. past_needed need y.names names' fit t (g t k) (h t k) }

  abbrev Fits : Bool → Option Shape → Type 0
  Fits b o = ItemFits x y names' zero_same b o

  initializer_fits : (o : Option ℕ) (target : Text) (b : NamedBody) → Named x y.names names' (statements_texts b.statements) → Fits true (Some (initialized_shape y o target b))
  initializer_fits None target b h = record { named = h; method = tt; self = refl }
  initializer_fits (Some class) target b h = record { named = h; method = tt; self = refl }

  method_fits : (u : NamedUnit) (m : NamedMethod) (s : Shape) → s.body ≡ m.body → s.method ≡ Some m.selector → ren x s.self ≡ s.self → (b : Bool) → has_text need m.selector ≡ b → (b ≡ true → (t : Text) → Has (m.selector ∷ statements_texts m.body.statements) t → Has need t) → (b ≡ true → (t : Text) → Has (m.selector ∷ statements_texts m.body.statements) t → Has y.names t) → Has names' m.selector → Fits b (Some s)
  method_fits u m s same is self true e closed there all =
      record {
        named = subst (λ (d : NamedBody). Named x y.names names' (statements_texts d.statements)) (sym same) (texts_named (statements_texts m.body.statements) (λ t g. closed refl t (has_behind (m.selector ∷ []) (statements_texts m.body.statements) t g)) (λ t g. there refl t (has_behind (m.selector ∷ []) (statements_texts m.body.statements) t g)));
        method = subst (λ o. elim o as (λ q. Type 0) [ None ↦ Unit {0} | Some t ↦ x.symbol (number_or_last y.names t) ≡ number_or_last names' t ]) (sym is) (past_needed need y.names names' fit m.selector (there refl m.selector (has_itself m.selector (statements_texts m.body.statements))) e);
        self = self;
      }
  method_fits u m s same is self false e closed there all = record { selector = m.selector; is = is; gone = past_gone need y.names names' fit m.selector all e }

  kept_there : (u : NamedUnit) (us : List NamedUnit) (b : Bool) → ((t : Text) → Has (units_texts (kept_before b u (kept_units need us))) t → Has y.names t) → b ≡ true → (t : Text) → Has (unit_texts u) t → Has y.names t
  kept_there u us true there e t h = there t (has_before (unit_texts u) (units_texts (kept_units need us)) t h)
  kept_there u us false there e t h = cc

  kept_later : (u : NamedUnit) (us : List NamedUnit) (b : Bool) → ((t : Text) → Has (units_texts (kept_before b u (kept_units need us))) t → Has y.names t) → (t : Text) → Has (units_texts (kept_units need us)) t → Has y.names t
  kept_later u us true there t h = there t (has_behind (unit_texts u) (units_texts (kept_units need us)) t h)
  kept_later u us false there t h = there t h

  items_fit : (us : List NamedUnit) → AllClosed need us → ((t : Text) → Has (units_texts (kept_units need us)) t → Has y.names t) → ((t : Text) → Has (units_texts us) t → Has names' t) → ItemsFit x y names' zero_same (items_of need y us)
  items_fit [] c there all = tt
  items_fit (u ∷ us) c there all = (at u c.0 there (λ t h. all t (has_before (unit_texts u) (units_texts us) t h)), items_fit us c.1 (kept_later u us (is_kept need u) there) (λ t h. all t (has_behind (unit_texts u) (units_texts us) t h)))
    where
      at : (u : NamedUnit) → (is_kept need u ≡ true → (t : Text) → Has (unit_texts u) t → Has need t) → ((t : Text) → Has (units_texts (kept_before (is_kept need u) u (kept_units need us))) t → Has y.names t) → ((t : Text) → Has (unit_texts u) t → Has names' t) → Fits (is_kept need u) (shape_of y u)
      at (ClassUnit k) c there all = tt
      at (GlobalUnit name) c there all = tt
      at (PoolVariableUnit pool name) c there all = tt
      at (InitializerUnit target b) c there all = initializer_fits (class_in 0 y.classes target) target b (texts_named (statements_texts b.statements) (c refl) (kept_there (InitializerUnit target b) us true there refl))
      at (PoolInitializerUnit pool name b) c there all = record { named = texts_named (statements_texts b.statements) (c refl) (kept_there (PoolInitializerUnit pool name b) us true there refl); method = tt; self = refl }
      at (ProgramUnit b) c there all = record { named = texts_named (statements_texts b.statements) (c refl) (kept_there (ProgramUnit b) us true there refl); method = tt; self = refl }
      at (MethodUnit class m) c there all =
          method_fits (MethodUnit class m) m _ refl refl refl (has_text need m.selector) refl c (kept_there (MethodUnit class m) us (has_text need m.selector) there) (all m.selector (has_itself m.selector (statements_texts m.body.statements)))
      at (ClassMethodUnit class m) c there all =
          method_fits (ClassMethodUnit class m) m _ refl refl refl (has_text need m.selector) refl c (kept_there (ClassMethodUnit class m) us (has_text need m.selector) there) (all m.selector (has_itself m.selector (statements_texts m.body.statements)))

  pub renamed : (limits : RunLimits) → IsRenamed x (program_of names kept limits) (whole need names names' units symbol limits)
  unfolding past_fits zero_same
  renamed limits = is_renamed need names names' units symbol past_fits (items_fit units closes here.all spells'.all) limits

-- ---- the two renamings

module _ (base names : List Text) (units : List NamedUnit) (limits : RunLimits) (own : (t : Text) → Sent t → Has base t) (spells : Spells base names units) where
  abbrev q : Program
  q = program_of names units limits

  sends_all : (t : Text) → Sent t → Has names t
  sends_all t s = spells.base_there t (own t s)

  closes_all : AllClosed names units
  closes_all = closed_in names units spells.all

  all_stay : kept_units names units ≡ units
  all_stay = kept_in names units spells.all

  all_spells : Spells base names (kept_units names units)
  all_spells = subst (λ us. Spells base names us) (sym all_stay) spells

  abbrev one : Renaming
  one = first.x base names names names units own sends_all closes_all spells all_spells

  abbrev other : Renaming
  other = x base names names names units own sends_all closes_all spells all_spells

  abbrev w : Program
  w = whole names names names units (λ n. n) limits

  one_is : IsRenamed one q w
  one_is = subst (λ us. IsRenamed one (program_of names us limits) w) all_stay (first.renamed base names names names units own sends_all closes_all spells all_spells limits)

  other_is : IsRenamed other q w
  other_is = subst (λ us. IsRenamed other (program_of names us limits) w) all_stay (renamed base names names names units own sends_all closes_all spells all_spells limits)

  held : (k : ℕ) → ren_top one (top_iter (scoped q) q k (opened_run (scoped q) q)) ≡ ren_top other (top_iter (scoped q) q k (opened_run (scoped q) q))
  held k =
      let ok = programs_are_compilable names units limits in
      let known = programs_know_literals names units limits in
      sym (run_same one q w one_is (rows_alike one q w one_is) (rooms q ok known one w one_is (rows_alike one q w one_is)) k)
      ∙ run_same other q w other_is (rows_alike other q w other_is) (rooms q ok known other w other_is (rows_alike other q w other_is)) k

  all_fits : (ns : List Text) → ns ≡ names → NamesFit names ns names
  all_fits ns e = subst (λ xs. NamesFit names xs names) (sym e) record { distinct = spells.distinct; inside = λ n l. has_at names n l }

  told_apart : (n : ℕ) → one.symbol n ≡ other.symbol n → n < length names
  told_apart n e =
      let ns = (names_of names (kept_units names units)).names in
      let same : ns ≡ names = names_are names (kept_units names units) in
      let g : nat_eq n (past ns n) ≡ true = sym (numbers_apart names ns names (all_fits ns same) n (past ns n)) ∙ eq-eqb _ _ e in
      subst (λ xs. n < length xs) same (kept_below ns n (sym (eqb-true n (past ns n) g)))

  pub has_named : (k : ℕ) → HasNamed names (top_iter (scoped q) q k (opened_run (scoped q) q))
  has_named k = record { one = one; other = other; same_objects = refl; alike = held k; told_apart = told_apart }

names_same : (names : List Text) (units : List NamedUnit) (limits : RunLimits) → (program_of names units limits).names ≡ names
unfolding program_of
names_same names units limits = names_are names units

pub symbols_are_named : SymbolsAreNamed
symbols_are_named units limits steps =
    let named = named_units units in
    let names = names_in named in
    let p = program_of names named limits in
    subst (λ ns. HasNamed ns (top_iter (scoped p) p steps (opened_run (scoped p) p))) (sym (names_same names named limits)) (has_named base names named limits own_names (names_spell named) steps)
