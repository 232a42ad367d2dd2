-- What the text of an option reads as.
use Rattle.std.proofs.Common.{◌≡◌, ◌∷◌, [], ◌^◌, ◌<◌, ℕ, Bool, List, Option, Some, None, true, false, refl, if◌then◌else◌}
use Rattle.std.specs.Prelude.{nat_lt, unwrap_or, Result}
use Rattle.std.proofs.lemmas.Bool.{ltb-true, lt-ltb}
use Rattle.std.specs.List.{list_all}
use Rattle.std.specs.Char.{digit_value}
use Rattle.std.specs.Str.Parse.{AllDigits, IsNumeral, ParsesUnsigned, digits_value, without_leading_plus}
use Rattle.clap.specs.Words.{ReadsOne, Text}
use Rattle.clap.proofs.WalkLemmas.{both}
use Rattle.st_words.specs.CommandLine.{is_number, number_or}

digits_from : (ds : List ℕ) → list_all (λ d. nat_lt (digit_value d) 10) ds ≡ true → AllDigits 10 ds
digits_from [] e = tt
digits_from (d ∷ ds) e =
    let parts = both _ _ e in
    (ltb-true _ _ parts.0, digits_from ds parts.1)

digits_back : (ds : List ℕ) → AllDigits 10 ds → list_all (λ d. nat_lt (digit_value d) 10) ds ≡ true
digits_back [] h = refl
digits_back (d ∷ ds) h = rw (lt-ltb (digit_value d) 10 h.0) (digits_back ds h.1)

abbrev IsNumber : ℕ → Text → Type 0
IsNumber bits text = IsNumeral 10 (without_leading_plus text) × (digits_value 10 (without_leading_plus text) < 2 ^ bits)

is_number-from : (bits : ℕ) (text : Text) → is_number bits text ≡ true → IsNumber bits text
is_number-from bits text e =
    let a = both _ _ e in
    let n = both _ _ a.0 in
    ((ltb-true _ _ n.0, digits_from _ n.1), ltb-true _ _ a.1)

is_number-back : (bits : ℕ) (text : Text) → IsNumber bits text → is_number bits text ≡ true
is_number-back bits text h = rw (lt-ltb _ _ h.0.0, digits_back _ h.0.1, lt-ltb _ _ h.1) refl

module _ {E : Type 0} (bits default : ℕ) (G : List ℕ → Result ℕ E → Type 0) (only : (u : List ℕ) (x : Result ℕ E) → G u x → ParsesUnsigned bits 10 u x) where
  reads_text : (text : Text) (r : Option ℕ) → ReadsOne G text r → unwrap_or r default ≡ number_or bits default (Some text)
  reads_text text (Some v) h =
      let p = only _ _ h in
      rw (is_number-back bits text p.0) p.1
  reads_text text None h = go (is_number bits text) refl
    where
      go : (b : Bool) → is_number bits text ≡ b → default ≡ (if b then digits_value 10 (without_leading_plus text) else default)
      go true e = absurd (only _ _ h.1 (is_number-from bits text e))
      go false e = refl

  pub reads_number : (o : Option Text) (r : Option ℕ) → (o ≡ None → r ≡ None) → ((t : List ℕ) → o ≡ Some t → ReadsOne G t r) → unwrap_or r default ≡ number_or bits default o
  reads_number None r none value = rw (none refl) refl
  reads_number (Some text) r none value = reads_text text r (value text refl)
