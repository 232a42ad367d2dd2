-- The selectors of the built-in messages are among the names of every image, and the number of a name is its first place.
use Rattle.std.proofs.Common.{◌≡◌, ℕ, suc, ◌+◌, ◌<◌, Bool, true, false, List, [], ◌∷◌, length, nat_lt, codes, Option, Some, None, refl, ap, sym, ◌∙◌, arith}
use Rattle.std.specs.Str.{bytes_eq}
use Rattle.std.specs.List.{position, position_or_len, list_any}
use Rattle.std.proofs.lemmas.Bool.{lt-ltb, ltb-true}
use Rattle.std.proofs.lemmas.Option.{cond_some}
use Rattle.st_base.specs.BuiltIns.{messages}
use Rattle.st_tree.specs.declared.units.Unit.{Unit}
use Rattle.st_code.specs.Texts.{Text, same_text}
use Rattle.st_code.specs.Program.{Program, number_of}
use Rattle.st_code.specs.Resolved.{text_in, number_or_last}
use Rattle.program_image.specs.Images.{image_names, image_program}
use Rattle.program_image.proofs.Numbers.{named-there}
use Rattle.program_image.proofs.There.{position-low, number-last}
use Rattle.signal_env.specs.Own.{IsSelector}

-- ---- places

pub found-low : (p : Text → Bool) (xs : List Text) (n : ℕ) → Some n ≡ position p xs → n < length xs
found-low p xs n is =
    let both = cond_some (nat_lt (position_or_len p xs) (length xs)) (position_or_len p xs) n (sym is) in
    let low : position_or_len p xs < length xs = ltb-true (position_or_len p xs) (length xs) both.0 in
    omega (arith, low, both.1)

pub found-some : (p : Text → Bool) (xs : List Text) → list_any p xs ≡ true → None ≡ position p xs → ⊥
found-some p xs any is =
    let low : nat_lt (position_or_len p xs) (length xs) ≡ true = lt-ltb (position_or_len p xs) (length xs) (position-low p xs any) in
    let none : None ≡ Some (position_or_len p xs) = rw low at is in
    cc

pub number-there : (units : List Unit) (t : Text) (n : ℕ) → Some n ≡ position (bytes_eq t) (image_names units).names → n ≡ number_of (image_program units) t
unfolding image_program
number-there units t n is = named-there (image_names units).names t n is ∙ sym (number-last (image_program units) t)

pub handles-selector : IsSelector (codes "handles:")
unfolding messages
handles-selector = refl
