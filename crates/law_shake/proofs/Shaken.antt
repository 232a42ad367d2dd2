-- A shaken file runs alike.
use Rattle.std.proofs.Common.{◌≡◌, ◌⊎◌, inl, inr, ℕ, List, [], ◌∷◌, ◌++◌, get_or, Option, Some, None, Bool, true, false, refl, sym, ap, ◌∙◌, subst, codes}
use Rattle.st_code.specs.Texts.{Text, same_text}
use Rattle.st_code.specs.Program.{Program}
use Rattle.st_code.specs.Named.{NamedBody, NamedMethod, NamedUnit, ClassUnit, GlobalUnit, PoolVariableUnit, InitializerUnit, PoolInitializerUnit, ProgramUnit, MethodUnit, ClassMethodUnit}
use Rattle.st_code.specs.Resolved.{Names, has_text, number_or_last, class_in}
use Rattle.st_code.specs.Definitions.{RunLimits, program_of, names_of}
use Rattle.st_rules.specs.State.{State}
use Rattle.st_rules.specs.Runs.{Ending, Runs}
use Rattle.st_rules.proofs.SoundProgram.{programs_are_compilable}
use Rattle.st_rules.proofs.KnownProgram.{programs_know_literals}
use Rattle.law_shake.specs.Renaming.{Renaming, ren, Sent, sends_value, sends_value_with, sends_values, sends_equal, sends_default, sends_resumable, sends_handles, sends_not_understood, sends_print, IsRenamed}
use Rattle.law_shake.specs.Making.{Named}
use Rattle.st_shake.specs.Needed.{Method, always_needed, Has, OneOf, IsLeast}
use Rattle.program_image.specs.Spelled.{statements_texts, unit_texts, units_texts}
use Rattle.st_shake.specs.Shaken.{is_kept}
use Rattle.law_shake.specs.Kept.{kept_before, kept_units}
use Rattle.law_shake.specs.Items.{Shape, initialized_shape, shape_of}
use Rattle.st_shake.specs.Needed.{methods_of, first_texts, texts_of, needed}
use Rattle.law_shake.specs.Kept.{shaken_units}
use Rattle.law_shake.specs.Names.{Spells}
use Rattle.law_shake.specs.RunsAlike.{SameRuns}
use Rattle.st_shake.proofs.Closing.{closure_is_least}
use Rattle.st_shake.proofs.Texts.{has_before, has_behind, has_either, has_itself, one_text}
use Rattle.law_shake.proofs.Symbols.{symbol_in, NamesFit, texts_same, numbers_apart, needed_number, sent_number, gone_number}
use Rattle.law_shake.proofs.Units.{items_of, ItemsFit, ItemFits}
use Rattle.law_shake.proofs.Programs.{names_are, shaking, SymbolsFit, whole, is_renamed}
use Rattle.law_shake.proofs.AllRows.{rows_alike}
use Rattle.law_shake.proofs.Whole.{Joined, runs_alike, same_transcript, same_told, same_count, same_steps, same_depth, same_cells}

-- ---- units that are kept are among all

kept_texts : (need : List Text) (units : List NamedUnit) (t : Text) → Has (units_texts (kept_units need units)) t → Has (units_texts units) t
kept_texts need [] t h = h
kept_texts need (u ∷ units) t h = by (is_kept need u) h (λ g. kept_texts need units t g)
  where
    by : (b : Bool) → Has (units_texts (kept_before b u (kept_units need units))) t → (Has (units_texts (kept_units need units)) t → Has (units_texts units) t) → Has (unit_texts u ++ units_texts units) t
    by false g later = has_behind (unit_texts u) (units_texts units) t (later g)
    by true g later = at (has_either (unit_texts u) (units_texts (kept_units need units)) t g)
      where
        at : Has (unit_texts u) t ⊎ Has (units_texts (kept_units need units)) t → Has (unit_texts u ++ units_texts units) t
        at (inl k) = has_before (unit_texts u) (units_texts units) t k
        at (inr k) = has_behind (unit_texts u) (units_texts units) t (later k)

-- what the texts of units that are kept lead to
abbrev pub AllClosed : List Text → List NamedUnit → Type 0
AllClosed need [] = Unit {0}
AllClosed need (u ∷ units) = (is_kept need u ≡ true → (t : Text) → Has (unit_texts u) t → Has need t) × AllClosed need units

-- ---- one renaming

module _ (base names names' need : List Text) (units : List NamedUnit) (own : (t : Text) → Sent t → Has base t) (sends : (t : Text) → Sent t → Has need t) (closes : AllClosed need units) (spells' : Spells base names' units) (spells : Spells base names (kept_units need units)) where
  abbrev y : Names
  y = names_of names (kept_units need units)

  abbrev kept : List NamedUnit
  kept = kept_units need units

  here : Spells base y.names kept
  here = subst (λ ns. Spells base ns kept) (sym (names_are names kept)) spells

  abbrev pub symbol : ℕ → ℕ
  symbol = symbol_in need y.names names'

  abbrev pub x : Renaming
  x = shaking need names names' units symbol

  fit : NamesFit need y.names names'
  fit =
      record {
        distinct = here.distinct;
        inside = λ n l. by (get_or y.names n []) (has_either base (units_texts kept) (get_or y.names n []) (here.only n l));
      }
    where
      by : (t : Text) → Has base t ⊎ Has (units_texts kept) t → Has names' t
      by t (inl h) = spells'.base_there t h
      by t (inr h) = spells'.all t (kept_texts need units t h)

  zero_same : symbol 0 ≡ 0
  zero_same = ap symbol (sym here.equal_first) ∙ needed_number need y.names names' fit (codes "=") (here.base_there _ (own _ sends_equal)) (sends _ sends_equal) ∙ spells'.equal_first

  symbols_fit : SymbolsFit need names names' units symbol
  symbols_fit =
      record {
        zero_same = zero_same;
        apart = numbers_apart need y.names names' fit;
        texts = texts_same need y.names names' fit;
        sent = λ t h. sent_number need y.names names' fit t (here.base_there t (own t h)) (spells'.base_there t (own t h)) (sends t h);
      }

  -- ---- units fit

  texts_named : (ts : List Text) → ((t : Text) → Has ts t → Has need t) → ((t : Text) → Has ts t → Has y.names t) → Named x y.names names' ts
  texts_named ts h g = record { symbol = λ t k. needed_number need y.names names' fit t (g t k) (h t k) }

  abbrev Fits : Bool → Option Shape → Type 0
  Fits b o = ItemFits x y names' zero_same b o

  initializer_fits : (o : Option ℕ) (target : Text) (b : NamedBody) → Named x y.names names' (statements_texts b.statements) → Fits true (Some (initialized_shape y o target b))
  initializer_fits None target b h = record { named = h; method = tt; self = refl }
  initializer_fits (Some class) target b h = record { named = h; method = tt; self = refl }

  method_fits : (u : NamedUnit) (m : NamedMethod) (s : Shape) → s.body ≡ m.body → s.method ≡ Some m.selector → ren x s.self ≡ s.self → (b : Bool) → has_text need m.selector ≡ b → (b ≡ true → (t : Text) → Has (m.selector ∷ statements_texts m.body.statements) t → Has need t) → (b ≡ true → (t : Text) → Has (m.selector ∷ statements_texts m.body.statements) t → Has y.names t) → Has names' m.selector → Fits b (Some s)
  method_fits u m s same is self true e closed there all =
      record {
        named = subst (λ (d : NamedBody). Named x y.names names' (statements_texts d.statements)) (sym same) (texts_named (statements_texts m.body.statements) (λ t g. closed refl t (has_behind (m.selector ∷ []) (statements_texts m.body.statements) t g)) (λ t g. there refl t (has_behind (m.selector ∷ []) (statements_texts m.body.statements) t g)));
        method = subst (λ o. elim o as (λ q. Type 0) [ None ↦ Unit {0} | Some t ↦ x.symbol (number_or_last y.names t) ≡ number_or_last names' t ]) (sym is) (needed_number need y.names names' fit m.selector (there refl m.selector (has_itself m.selector (statements_texts m.body.statements))) e);
        self = self;
      }
  method_fits u m s same is self false e closed there all = record { selector = m.selector; is = is; gone = gone_number need y.names names' fit m.selector all e }

  kept_there : (u : NamedUnit) (us : List NamedUnit) (b : Bool) → ((t : Text) → Has (units_texts (kept_before b u (kept_units need us))) t → Has y.names t) → b ≡ true → (t : Text) → Has (unit_texts u) t → Has y.names t
  kept_there u us true there e t h = there t (has_before (unit_texts u) (units_texts (kept_units need us)) t h)
  kept_there u us false there e t h = cc

  kept_later : (u : NamedUnit) (us : List NamedUnit) (b : Bool) → ((t : Text) → Has (units_texts (kept_before b u (kept_units need us))) t → Has y.names t) → (t : Text) → Has (units_texts (kept_units need us)) t → Has y.names t
  kept_later u us true there t h = there t (has_behind (unit_texts u) (units_texts (kept_units need us)) t h)
  kept_later u us false there t h = there t h

  items_fit : (us : List NamedUnit) → AllClosed need us → ((t : Text) → Has (units_texts (kept_units need us)) t → Has y.names t) → ((t : Text) → Has (units_texts us) t → Has names' t) → ItemsFit x y names' zero_same (items_of need y us)
  items_fit [] c there all = tt
  items_fit (u ∷ us) c there all = (at u c.0 there (λ t h. all t (has_before (unit_texts u) (units_texts us) t h)), items_fit us c.1 (kept_later u us (is_kept need u) there) (λ t h. all t (has_behind (unit_texts u) (units_texts us) t h)))
    where
      at : (u : NamedUnit) → (is_kept need u ≡ true → (t : Text) → Has (unit_texts u) t → Has need t) → ((t : Text) → Has (units_texts (kept_before (is_kept need u) u (kept_units need us))) t → Has y.names t) → ((t : Text) → Has (unit_texts u) t → Has names' t) → Fits (is_kept need u) (shape_of y u)
      at (ClassUnit k) c there all = tt
      at (GlobalUnit name) c there all = tt
      at (PoolVariableUnit pool name) c there all = tt
      at (InitializerUnit target b) c there all = initializer_fits (class_in 0 y.classes target) target b (texts_named (statements_texts b.statements) (c refl) (kept_there (InitializerUnit target b) us true there refl))
      at (PoolInitializerUnit pool name b) c there all = record { named = texts_named (statements_texts b.statements) (c refl) (kept_there (PoolInitializerUnit pool name b) us true there refl); method = tt; self = refl }
      at (ProgramUnit b) c there all = record { named = texts_named (statements_texts b.statements) (c refl) (kept_there (ProgramUnit b) us true there refl); method = tt; self = refl }
      at (MethodUnit class m) c there all =
          method_fits (MethodUnit class m) m _ refl refl refl (has_text need m.selector) refl c (kept_there (MethodUnit class m) us (has_text need m.selector) there) (all m.selector (has_itself m.selector (statements_texts m.body.statements)))
      at (ClassMethodUnit class m) c there all =
          method_fits (ClassMethodUnit class m) m _ refl refl refl (has_text need m.selector) refl c (kept_there (ClassMethodUnit class m) us (has_text need m.selector) there) (all m.selector (has_itself m.selector (statements_texts m.body.statements)))

  pub renamed : (limits : RunLimits) → IsRenamed x (program_of names kept limits) (whole need names names' units symbol limits)
  unfolding symbols_fit zero_same
  renamed limits = is_renamed need names names' units symbol symbols_fit (items_fit units closes here.all spells'.all) limits

-- ---- Needed is closed

sends_needed : (t : Text) → Sent t → Has always_needed t
unfolding always_needed same_text
sends_needed t sends_value = refl
sends_needed t sends_value_with = refl
sends_needed t sends_values = refl
sends_needed t sends_equal = refl
sends_needed t sends_default = refl
sends_needed t sends_resumable = refl
sends_needed t sends_handles = refl
sends_needed t sends_not_understood = refl
sends_needed t sends_print = refl

module _ (units : List NamedUnit) where
  least : IsLeast (methods_of units) (always_needed ++ texts_of units) (needed units)
  least = closure_is_least (methods_of units) (always_needed ++ texts_of units)

  pub sends_here : (t : Text) → Sent t → Has (needed units) t
  sends_here t s = least.has_first t (has_before always_needed (texts_of units) t (sends_needed t s))

  method_closed : (m : NamedMethod) → OneOf (record { selector = m.selector; texts = statements_texts m.body.statements }) (methods_of units) → has_text (needed units) m.selector ≡ true → (t : Text) → Has (m.selector ∷ statements_texts m.body.statements) t → Has (needed units) t
  method_closed m one h t g = by (has_either (m.selector ∷ []) (statements_texts m.body.statements) t g)
    where
      by : Has (m.selector ∷ []) t ⊎ Has (statements_texts m.body.statements) t → Has (needed units) t
      by (inl k) = subst (λ u. Has (needed units) u) (one_text m.selector t k) h
      by (inr k) = least.is_closed.by _ one h t k

  all_closed : (us : List NamedUnit) → ((m : Method) → OneOf m (methods_of us) → OneOf m (methods_of units)) → ((t : Text) → Has (texts_of us) t → Has (texts_of units) t) → AllClosed (needed units) us
  all_closed [] f g = tt
  all_closed (u ∷ us) f g = (at u f (λ t h. g t (has_before (first_texts u) (texts_of us) t h)), all_closed us (λ m one. f m (later u m one)) (λ t h. g t (has_behind (first_texts u) (texts_of us) t h)))
    where
      later : (u : NamedUnit) (m : Method) → OneOf m (methods_of us) → OneOf m (methods_of (u ∷ us))
      later (MethodUnit class k) m one = inr one
      later (ClassMethodUnit class k) m one = inr one
      later u m one = one

      first_there : (t : Text) → Has (texts_of units) t → Has (needed units) t
      first_there t h = least.has_first t (has_behind always_needed (texts_of units) t h)

      at : (u : NamedUnit) → ((m : Method) → OneOf m (methods_of (u ∷ us)) → OneOf m (methods_of units)) → ((t : Text) → Has (first_texts u) t → Has (texts_of units) t) → is_kept (needed units) u ≡ true → (t : Text) → Has (unit_texts u) t → Has (needed units) t
      at (ClassUnit k) f g e t h = cc
      at (GlobalUnit name) f g e t h = cc
      at (PoolVariableUnit pool name) f g e t h = cc
      at (InitializerUnit target b) f g e t h = first_there t (g t h)
      at (PoolInitializerUnit pool name b) f g e t h = first_there t (g t h)
      at (ProgramUnit b) f g e t h = first_there t (g t h)
      at (MethodUnit class m) f g e t h = method_closed m (f _ (inl refl)) e t h
      at (ClassMethodUnit class m) f g e t h = method_closed m (f _ (inl refl)) e t h

  pub closes_here : AllClosed (needed units) units
  closes_here = all_closed units (λ m one. one) (λ t h. h)

  -- ---- where everything is needed

  abbrev pub every : List Text
  every = always_needed ++ units_texts units

  pub every_closed : (us : List NamedUnit) → ((t : Text) → Has (units_texts us) t → Has (units_texts units) t) → AllClosed every us
  every_closed [] g = tt
  every_closed (u ∷ us) g =
      ((λ e t h. has_behind always_needed (units_texts units) t (g t (has_before (unit_texts u) (units_texts us) t h))), every_closed us (λ t h. g t (has_behind (unit_texts u) (units_texts us) t h)))

  kept_all : (us : List NamedUnit) → ((t : Text) → Has (units_texts us) t → Has (units_texts units) t) → kept_units every us ≡ us
  kept_all [] g = refl
  kept_all (u ∷ us) g =
      ap (λ b. kept_before b u (kept_units every us)) (at u (λ t h. has_behind always_needed (units_texts units) t (g t (has_before (unit_texts u) (units_texts us) t h))))
      ∙ ap (λ vs. u ∷ vs) (kept_all us (λ t h. g t (has_behind (unit_texts u) (units_texts us) t h)))
    where
      at : (u : NamedUnit) → ((t : Text) → Has (unit_texts u) t → Has every t) → is_kept every u ≡ true
      at (ClassUnit k) h = refl
      at (GlobalUnit name) h = refl
      at (PoolVariableUnit pool name) h = refl
      at (InitializerUnit target b) h = refl
      at (PoolInitializerUnit pool name b) h = refl
      at (ProgramUnit b) h = refl
      at (MethodUnit class m) h = h m.selector (has_itself m.selector (statements_texts m.body.statements))
      at (ClassMethodUnit class m) h = h m.selector (has_itself m.selector (statements_texts m.body.statements))

  pub sends_every : (t : Text) → Sent t → Has every t
  sends_every t s = has_before always_needed (units_texts units) t (sends_needed t s)

  -- ---- the two programs in one

  module _ (base names names' : List Text) (limits : RunLimits) (own : (t : Text) → Sent t → Has base t) (spells : Spells base names (shaken_units units)) (spells' : Spells base names' units) where
    abbrev q : Program
    q = program_of names (shaken_units units) limits

    abbrev p : Program
    p = program_of names' units limits

    all_kept : kept_units every units ≡ units
    all_kept = kept_all units (λ t h. h)

    pub again : Spells base names' (kept_units every units)
    again = subst (λ us. Spells base names' us) (sym all_kept) spells'

    one_is : IsRenamed (x base names names' (needed units) units own sends_here closes_here spells' spells) q (whole (needed units) names names' units (symbol base names names' (needed units) units own sends_here closes_here spells' spells) limits)
    one_is = renamed base names names' (needed units) units own sends_here closes_here spells' spells limits

    pub other_is : IsRenamed (x base names' names' every units own sends_every (every_closed units (λ t h. h)) spells' again) p (whole every names' names' units (symbol base names' names' every units own sends_every (every_closed units (λ t h. h)) spells' again) limits)
    other_is =
        subst (λ us. IsRenamed (x base names' names' every units own sends_every (every_closed units (λ t h. h)) spells' again) (program_of names' us limits) (whole every names' names' units (symbol base names' names' every units own sends_every (every_closed units (λ t h. h)) spells' again) limits)) all_kept
        (renamed base names' names' every units own sends_every (every_closed units (λ t h. h)) spells' again limits)

    pub both : Joined q p
    both =
        record {
          whole = whole (needed units) names names' units (λ n. n) limits;
          one = _;
          other = _;
          one_is = one_is;
          other_is = other_is;
          one_alike = rows_alike _ _ _ one_is;
          other_alike = rows_alike _ _ _ other_is;
        }

-- whatever the units, the limits, and how selectors and symbols are numbered
abbrev pub UnitsRunAlike : Type 0
UnitsRunAlike =
    (base names names' : List Text) (units : List NamedUnit) (limits : RunLimits) → ((t : Text) → Sent t → Has base t) → Spells base names (shaken_units units) → Spells base names' units → (e e' : Ending) (st st' : State)
    → Runs (program_of names (shaken_units units) limits) e st → Runs (program_of names' units limits) e' st' → SameRuns (program_of names (shaken_units units) limits) (program_of names' units limits) e e' st st'

pub shaken_runs_alike : UnitsRunAlike
shaken_runs_alike base names names' units limits own spells spells' e e' st st' r r' =
    let q = program_of names (shaken_units units) limits in
    let p = program_of names' units limits in
    let ok = programs_are_compilable names (shaken_units units) limits in
    let known = programs_know_literals names (shaken_units units) limits in
    let ok' = programs_are_compilable names' units limits in
    let known' = programs_know_literals names' units limits in
    let j = both units base names names' limits own spells spells' in
    let s = runs_alike q p ok known ok' known' j e e' st st' r r' in
    record {
      transcript = same_transcript q p ok known ok' known' j e e' st st' s;
      ending = same_told q p ok known ok' known' j e e' st st' s;
      instructions = λ d d' u u' n n' m m'. same_count q p ok known ok' known' j e e' d d' st st' u u' n n' r r' m m';
      steps = same_steps q p ok known ok' known' j e e' st st' s;
      depth = same_depth q p ok known ok' known' j e e' st st' s;
      cells = same_cells q p ok known ok' known' j e e' st st' s;
    }
