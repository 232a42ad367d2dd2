-- The text of a program is read as a program that is the same, or is too long.
use Rattle.std.proofs.Common.{◌≡◌, ◌≤◌, ℕ, zero, suc, Bool, true, false, true≢false, ◌&&◌, nat_le, List, [], ◌∷◌, ◌++◌, map, take, drop, length, refl, ap, sym, ◌∙◌, subst, arith}
use Rattle.std.specs.List.{list_all}
use Rattle.std.proofs.lemmas.List.{take-append-drop}
use Rattle.sif_chunks.specs.Split.{Split, parts_of}
use Rattle.sif_chunks.specs.Reading.{max_text, max_input}
use Rattle.sif_chunks.specs.Writing.{all_closed}
use Rattle.sif_chunks.proofs.WrittenLaw.{written-Split}
use Rattle.sif_chunks.proofs.SplitLaw.{Split-parts_of}
use Rattle.st_tree.specs.declared.units.Unit as unit
use Rattle.st_tree.specs.declared.units.Definition.{Definition}
use Rattle.st_tree.specs.Same.{bare_unit, SameDefinition}
use Rattle.sif_elements.specs.declared.progress.Progress.TheVariants.{Start, Between}
use Rattle.sif_elements.specs.Reading.{Answers, Read, Refuse, is_whole, parts}
use Rattle.sif_export.specs.ExportText.{element_texts, export_text}
use Rattle.sif_export.specs.RoundTrip.{IsReadable, definition, ReadsAs, on_lines, is_short, is_within, Outcome}
use Rattle.sif_export.proofs.UnitExports.{UnitsRead, units_read}
use Rattle.sif_export.proofs.Paths.{Path, units_path, read_path, long_path, cut_path, cut_front, IsFront, TooLong}

same_units : (us vs : List unit.Unit) → map bare_unit us ≡ map bare_unit vs → SameDefinition (definition us) (definition vs)
unfolding SameDefinition
same_units us vs e = ap (λ xs. definition xs) e

-- the text of a program, its elements on lines of their own, and a line's end
text_split : (us : List unit.Unit) → UnitsRead us → Split (export_text us) (on_lines (element_texts us)) (10 ∷ [])
unfolding export_text
text_split us r = subst (λ ts. Split (all_closed ts) (on_lines ts) (10 ∷ [])) (sym r.are) (written-Split r.first r.others)

pub reads_as : (d : Definition) → IsReadable d.units → ReadsAs (export_text d.units) d
reads_as d h =
    let r = units_read h.1 h.2 in
    record {
      texts = on_lines (element_texts d.units);
      rest = 10 ∷ [];
      split = text_split d.units r;
      elements = r.black;
      white = refl;
      units = r.again;
      read = r.reads;
      same = same_units r.again d.units r.same;
    }

take_all : (n : ℕ) (xs : List ℕ) → length xs ≤ n → take n xs ≡ xs
take_all zero [] h = refl
take_all zero (x ∷ xs) h = absurd (omega (arith, h))
take_all (suc n) [] h = refl
take_all (suc n) (x ∷ xs) h = ap (λ ys. x ∷ ys) (take_all n xs (omega (arith, h)))

low : (n m : ℕ) → nat_le n m ≡ true → n ≤ m
low n m is = grind (arith, is)

short_line : length {A = ℕ} (10 ∷ []) ≤ max_text
short_line = omega arith

-- the parts of a text that isn't too long
parts_whole : (bytes : List ℕ) (texts : List (List ℕ)) (rest : List ℕ) → Split bytes texts rest → nat_le (length bytes) max_input ≡ true → parts true bytes ≡ record { texts = texts; rest = rest }
parts_whole bytes texts rest split is =
    ap (λ b. parts_of b (take max_input bytes)) is ∙ ap (parts_of true) (take_all max_input bytes (low (length bytes) max_input is)) ∙ (Split-parts_of bytes texts rest).0 split

-- the parts of a text that is too long
parts_cut : (bytes : List ℕ) (texts : List (List ℕ)) (rest : List ℕ) → Split bytes texts rest → nat_le (length bytes) max_input ≡ false → IsFront (parts true bytes).texts texts
parts_cut bytes texts rest split is =
    let whole : parts_of true (take max_input bytes ++ drop max_input bytes) ≡ record { texts = texts; rest = rest } = ap (parts_of true) (take-append-drop max_input bytes) ∙ (Split-parts_of bytes texts rest).0 split in
    subst (λ ts. IsFront (parts true bytes).texts ts) (ap (λ p. p.texts) whole) (subst (λ b. IsFront (parts_of b (take max_input bytes)).texts (parts_of true (take max_input bytes ++ drop max_input bytes)).texts) (sym is) (cut_front false (take max_input bytes) (drop max_input bytes)))

refused : (bytes : List ℕ) (ended : Bool) (texts : List (List ℕ)) (rest : List ℕ) → is_whole true bytes ≡ ended → parts true bytes ≡ record { texts = texts; rest = rest } → (d : Definition) → TooLong Start ended 1 texts rest → Outcome false d bytes
refused bytes ended texts rest whole are d t = (
  t.number,
  t.byte,
  t.why,
  record {
    answers = subst (λ p. Answers Start (is_whole true bytes) 1 p.texts p.rest (Refuse t.number t.byte t.why)) (sym are) (subst (λ b. Answers Start b 1 texts rest (Refuse t.number t.byte t.why)) (sym whole) t.answers);
    longer = λ f. absurd (true≢false f);
  },
  t.length,
)

outcome_of : (d : Definition) (bytes : List ℕ) (texts : List (List ℕ)) (us : List unit.Unit) (a b : Bool) → Split bytes texts (10 ∷ []) → Path Start texts (Between us) → SameDefinition (definition us) d
    → nat_le (length bytes) max_input ≡ a → list_all is_short texts ≡ b → Outcome (a && b) d bytes
outcome_of d bytes texts us true true split path same fits all =
    let are = parts_whole bytes texts (10 ∷ []) split fits in
    let read : Answers Start true 1 texts (10 ∷ []) (Read us) = read_path path all 1 (10 ∷ []) short_line refl in
    (us, subst (λ p. Answers Start (is_whole true bytes) 1 p.texts p.rest (Read us)) (sym are) (subst (λ b. Answers Start b 1 texts (10 ∷ []) (Read us)) (sym fits) read), same)
outcome_of d bytes texts us true false split path same fits all = refused bytes true texts (10 ∷ []) fits (parts_whole bytes texts (10 ∷ []) split fits) d (long_path path all true 1 (10 ∷ []))
outcome_of d bytes texts us false b split path same fits all =
    refused bytes false (parts true bytes).texts (parts true bytes).rest fits refl d (cut_path (parts_cut bytes texts (10 ∷ []) split fits) path 1 (parts true bytes).rest)

pub outcome : (d : Definition) → IsReadable d.units → Outcome (is_within d.units) d (export_text d.units)
unfolding is_within
outcome d h =
    let r = units_read h.1 h.2 in
    outcome_of d (export_text d.units) (on_lines (element_texts d.units)) r.again (nat_le (length (export_text d.units)) max_input) (list_all is_short (on_lines (element_texts d.units))) (text_split d.units r) (units_path r.reads r.black) (same_units r.again d.units r.same) refl refl
