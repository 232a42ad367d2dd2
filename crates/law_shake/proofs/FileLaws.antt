-- What shaken files say of a run, and that they are readable.
use Rattle.std.proofs.Common.{◌≡◌, ℕ, List, [], ◌∷◌, drop, length, Option, Some, None, Bool, true, false, refl, sym, ap, ◌∙◌, subst, if◌then◌else◌}
use Rattle.st_base.specs.Lexed.{lexed_of}
use Rattle.st_base.specs.declared.tokens.LexFault.{LexFault}
use Rattle.st_base.specs.declared.tokens.Token.{Token}
use Rattle.st_base.specs.declared.faults.Reason.TheVariants as reason
use Rattle.st_tree.specs.declared.headers.Header.{Header}
use Rattle.st_tree.specs.declared.headers.Header.TheVariants.{Whole, Awaits, Annotates}
use Rattle.st_tree.specs.declared.headers.Row.TheVariants as row
use Rattle.st_tree.specs.Headers.{Element, Says, Faulty, Walk, Filled, Stuck, Short, walk, slots_of, string_at, judged, by_row, begins_version, says_first}
use Rattle.st_tree.specs.Numbers.{unit}
use Rattle.st_tree.specs.declared.units.Annotation.{Annotation}
use Rattle.st_tree.specs.declared.units.UnitKind.TheVariants as kinds
use Rattle.st_tree.specs.declared.units.Unit.{Unit as FileUnit}
use Rattle.st_tree.specs.Units.{Annotated, no_more, one_more, Further, no_units, whole, with_text, Units, file, IsReadable}
use Rattle.st_code.specs.Texts.{Text}
use Rattle.st_code.specs.Named.{NamedUnit}
use Rattle.st_code.specs.Written.{named_kind, named_unit, with_named, named_units}
use Rattle.st_shake.specs.Needed.{needed}
use Rattle.st_shake.specs.Shaken.{is_kept, is_kept_kind, stays, before_if, units_that, kept, shaken}
use Rattle.st_shake.proofs.Kept.{both_ways, same_kept}
use Rattle.law_shake.specs.Kept.{kept_before, kept_units, shaken_units}
use Rattle.law_shake.specs.Laws.{ShakenFilesAreReadable, ShakingTwiceIsShakingOnce}
use Rattle.law_shake.proofs.SymbolsHeld.{fewer, more}

-- ---- what the units that are kept say of a run is what is kept of what all units say

module _ (need : List Text) where
  pub kept_written : (units : List FileUnit) → named_units (kept need units) ≡ kept_units need (named_units units)
  unfolding named_units
  kept_written [] = refl
  kept_written (u ∷ units) = by (named_unit u) refl (kept_written units)
    where
      some : (n : NamedUnit) (b : Bool) → named_unit u ≡ Some n → named_units (kept need units) ≡ kept_units need (named_units units) → named_units (before_if b u (kept need units)) ≡ kept_before b n (kept_units need (named_units units))
      some n true e h = ap (λ o. with_named o (named_units (kept need units))) e ∙ ap (λ ns. n ∷ ns) h
      some n false e h = h

      by : (o : Option NamedUnit) → named_unit u ≡ o → named_units (kept need units) ≡ kept_units need (named_units units) → named_units (before_if (is_kept_kind need (named_unit u)) u (kept need units)) ≡ kept_units need (with_named (named_unit u) (named_units units))
      by None e h =
          ap (λ o. named_units (before_if (is_kept_kind need o) u (kept need units))) e
          ∙ ap (λ o. with_named o (named_units (kept need units))) e
          ∙ h
          ∙ ap (λ o. kept_units need (with_named o (named_units units))) (sym e)
      by (Some n) e h =
          ap (λ o. named_units (before_if (is_kept_kind need o) u (kept need units))) e
          ∙ some n (is_kept need n) e h
          ∙ ap (λ o. kept_units need (with_named o (named_units units))) (sym e)

pub shaken_written : (units : List FileUnit) → named_units (shaken units) ≡ shaken_units (named_units units)
shaken_written units = kept_written (needed (named_units units)) units

-- ---- units without some of those behind the first are readable where all are

-- some texts begin with these annotations, up to other texts
record Onto (rest : List (List ℕ)) (notes : List Annotation) : Type 0 where
  texts : List (List ℕ)
  annotated : Annotated texts rest notes

onto : (texts rest : List (List ℕ)) (notes : List Annotation) → Annotated texts rest notes → (other : List (List ℕ)) → Onto other notes
onto texts rest notes no_more other = record { texts = other; annotated = no_more }
onto texts rest notes (one_more {text = t} e a) other = let o = onto _ _ _ a other in record { texts = t ∷ o.texts; annotated = one_more e o.annotated }

record SomeTexts (units : List FileUnit) : Type 0 where
  texts : List (List ℕ)
  further : Further texts units

module _ (keep : FileUnit → Bool) where
  further_kept : (texts : List (List ℕ)) (units : List FileUnit) → Further texts units → SomeTexts (units_that keep units)
  further_kept texts units no_units = record { texts = []; further = no_units }
  further_kept texts units (whole {text = t} {kind = k} {notes = n} {units = us} e a f) = by (keep (unit k n)) (further_kept _ _ f)
    where
      by : (b : Bool) → SomeTexts (units_that keep us) → SomeTexts (before_if b (unit k n) (units_that keep us))
      by false s = s
      by true s = let o = onto _ _ _ a s.texts in record { texts = t ∷ o.texts; further = whole e o.annotated s.further }
  further_kept texts units (with_text {header = h} {text = t} {kind = k} {notes = n} {units = us} e i u a f) = by (keep (unit k n)) (further_kept _ _ f)
    where
      by : (b : Bool) → SomeTexts (units_that keep us) → SomeTexts (before_if b (unit k n) (units_that keep us))
      by false s = s
      by true s = let o = onto _ _ _ a s.texts in record { texts = h ∷ t ∷ o.texts; further = with_text e i u o.annotated s.further }

-- ---- the first unit is the version, which is kept

abbrev HeaderSilent : Header → Type 0
HeaderSilent (Whole k) = named_kind k ≡ None
HeaderSilent (Awaits t) = Unit {0}
HeaderSilent (Annotates a) = Unit {0}

abbrev ElementSilent : Element → Type 0
ElementSilent (Says h) = HeaderSilent h
ElementSilent (Faulty byte why) = Unit {0}

judged_silent : (w : Walk) (version : List ℕ) (lexical : Option LexFault) (len : ℕ) → ElementSilent (judged w (Whole (kinds.Version version)) lexical len)
judged_silent (Stuck byte) version lexical len = tt
judged_silent Filled version None len = refl
judged_silent Filled version (Some fault) len = tt
judged_silent Short version None len = tt
judged_silent Short version (Some fault) len = tt

first_silent : (text : List ℕ) (ts : List Token) (lexical : Option LexFault) → ElementSilent (says_first text ts lexical)
first_silent text ts lexical = by (begins_version text ts)
  where
    by : (b : Bool) → ElementSilent (if b then by_row (Some row.Version) 0 [] text (drop 2 ts) lexical else Faulty 0 reason.MissingVersion)
    by true = judged_silent (walk (slots_of row.Version) text (drop 2 ts)) (string_at text (drop 2 ts) 0) lexical (length text)
    by false = tt

kept_readable : (need : List Text) (texts : List (List ℕ)) (units : List FileUnit) → Units texts units → IsReadable (kept need units)
kept_readable need texts units (file {text = t} {kind = k} {notes = n} {units = us} e a f) =
    let silent : named_kind k ≡ None = subst ElementSilent e (first_silent t (lexed_of t).tokens (lexed_of t).fault) in
    let s = further_kept (stays need) _ _ f in
    let o = onto _ _ _ a s.texts in
    subst (λ b. IsReadable (before_if b (unit k n) (kept need us))) (sym (ap (is_kept_kind need) silent)) (t ∷ o.texts, file e o.annotated s.further)

pub shaken_readable : ShakenFilesAreReadable
shaken_readable units (texts, is) = kept_readable (needed (named_units units)) texts units is

-- ---- shaking twice

that_twice : (test : FileUnit → Bool) (units : List FileUnit) → units_that test (units_that test units) ≡ units_that test units
that_twice test [] = refl
that_twice test (u ∷ units) = by (test u) refl (that_twice test units)
  where
    by : (b : Bool) → test u ≡ b → units_that test (units_that test units) ≡ units_that test units → units_that test (before_if b u (units_that test units)) ≡ before_if b u (units_that test units)
    by true e h = ap (λ c. before_if c u (units_that test (units_that test units))) e ∙ ap (λ us. u ∷ us) h
    by false e h = h

pub shaken_twice : ShakingTwiceIsShakingOnce
shaken_twice units =
    let named = named_units units in
    let need = needed named in
    ap (λ ns. kept (needed ns) (shaken units)) (shaken_written units)
    ∙ same_kept (needed (shaken_units named)) need (both_ways (needed (shaken_units named)) need (fewer named) (more named)) (shaken units)
    ∙ that_twice (stays need) units
