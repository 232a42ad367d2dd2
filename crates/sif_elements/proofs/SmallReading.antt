-- The units of a file are small.
use Rattle.std.proofs.Common.{◌≡◌, ℕ, ◌+◌, ◌≤◌, Bool, true, false, List, ◌∷◌, length, take, refl, ap, arith}
use Rattle.std.proofs.lemmas.List.{length-append, length-take}
use Rattle.sif_chunks.specs.Split.{doubled, joined, parts_of}
use Rattle.sif_chunks.specs.Reading.{max_input}
use Rattle.st_tree.specs.declared.units.Unit.{Unit}
use Rattle.sif_elements.specs.declared.progress.Progress.{Progress}
use Rattle.sif_elements.specs.Reading as r
use Rattle.sif_elements.specs.Reading.{Answers, Read, Reads, is_whole}
use Rattle.st_tree.specs.Small.{IsSmall}
use Rattle.sif_elements.proofs.Sized.{IsSized, sized_at_start, sized_more, small_between}
use Rattle.sif_elements.proofs.TextBytes.{doubled-length, parts-joined}

small_behind : {p : Progress} {ended : Bool} {n : ℕ} {texts : List (List ℕ)} {rest : List ℕ} {us : List Unit} → Answers p ended n texts rest (Read us) → (bytes : ℕ) → bytes + length (joined texts rest) ≤ max_input → IsSized p bytes → IsSmall us
small_behind (r.white_text {text = text} {rest = rest} {texts = texts} h w k) bytes short sized = small_behind k bytes (omega (arith, short, length-append (doubled text) (33 ∷ joined texts rest))) sized
small_behind (r.taken {text = text} {rest = rest} {texts = texts} h w t k) bytes short sized =
    small_behind k (bytes + length text + 1) (omega (arith, short, doubled-length text, length-append (doubled text) (33 ∷ joined texts rest))) (sized_more bytes (bytes + length text + 1) h t (omega arith) (omega arith) sized)
small_behind (r.all_read {us = us} h w) bytes short sized = small_between us bytes (omega (arith, short)) sized

ends_read : {p : Progress} {ended : Bool} {n : ℕ} {texts : List (List ℕ)} {rest : List ℕ} {us : List Unit} → Answers p ended n texts rest (Read us) → ended ≡ true
ends_read (r.white_text h w k) = ends_read k
ends_read (r.taken h w t k) = ends_read k
ends_read (r.all_read h w) = refl

joined_short : (whole : Bool) (bytes : List ℕ) → whole ≡ true → length bytes ≤ max_input → 0 + length (joined (parts_of whole bytes).texts (parts_of whole bytes).rest) ≤ max_input
joined_short true bytes e h = omega (arith, h, ap length (parts-joined bytes))
joined_short false bytes e h = absurd (let k : false ≡ true = e in cc)

-- what a file is read as is small
pub read_is_small : (bytes : List ℕ) (us : List Unit) → Reads bytes us → IsSmall us
read_is_small bytes us reads = small_behind reads 0 (joined_short (is_whole true bytes) (take max_input bytes) (ends_read reads) (omega (arith, length-take max_input bytes))) sized_at_start
