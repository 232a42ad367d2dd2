-- The bytes in hand as a slice of the window.
use Rattle.std.proofs.Common.{◌≡◌, ◌+◌, ◌-◌, ◌≤◌, ℕ, List, ◌++◌, take, drop, length, ap, sym, ◌∙◌, arith, append_assoc}
use Rattle.std.proofs.lemmas.List.{drop-take, drop-drop, length-drop, length-take-le, length-take, take-append-le, take-take}
use Rattle.std.proofs.Math.Seq.{take-append-add, take-append_seam}
use borrow.Rule.Slice.PartMut.{put_mid, post_of}
use Rattle.std.specs.List.{copy_within}

slice_length : (xs : List ℕ) (start end : ℕ) → start ≤ end → end ≤ length xs → length (take (end - start) (drop start xs)) ≡ end - start
slice_length xs start end order within = length-take-le (end - start) (drop start xs) (omega (arith, length-drop start xs))

-- the first bytes of a slice are passed
pub slice_passed : (xs : List ℕ) (start end count : ℕ) → start ≤ end → end ≤ length xs → count ≤ length (take (end - start) (drop start xs)) → take (end - (start + count)) (drop (start + count) xs) ≡ drop count (take (end - start) (drop start xs))
slice_passed xs start end count order within low =
    let size : length (take (end - start) (drop start xs)) ≡ end - start = slice_length xs start end order within in
    let two : end - start ≡ count + (end - (start + count)) = omega arith in
    let rest : drop count (drop start xs) ≡ drop (start + count) xs = drop-drop count start xs in
    sym (rw two (drop-take count (end - (start + count)) (drop start xs) ∙ ap (take (end - (start + count))) rest))

front_of : (n : ℕ) (kept rest : List ℕ) → length kept ≡ n → take n (kept ++ rest) ≡ kept
front_of n kept rest size = rw size at (take-append_seam kept rest)

front_and : (n m : ℕ) (kept piece rest : List ℕ) → length kept ≡ n → m ≤ length piece → take (n + m) (kept ++ (piece ++ rest)) ≡ kept ++ take m piece
front_and n m kept piece rest size low =
    rw size at (take-append-add kept (piece ++ rest) m) ∙ ap (λ (xs : List ℕ). kept ++ xs) (take-append-le m piece rest low)

-- what was left of a slice was moved to the front
pub slice_moved : (xs ys : List ℕ) (start end : ℕ) → start ≤ end → end ≤ length xs → ys ≡ copy_within xs start end 0 → take (end - start) ys ≡ take (end - start) (drop start xs)
slice_moved xs ys start end order within moved =
    rw moved (front_of (end - start) (take (end - start) (drop start xs)) (drop (0 + (end - start)) xs) (slice_length xs start end order within))

regrouped : (a b c d : List ℕ) → a ++ (b ++ c) ++ d ≡ a ++ (b ++ (c ++ d))
regrouped a b c d = simp append_assoc

-- bytes were written behind it
pub slice_filled : (xs ys into rest : List ℕ) (start end room count size : ℕ) → start ≤ end → end ≤ length xs → ys ≡ copy_within xs start end 0 → count ≤ length into → end - start + count ≤ size → take (end - start + count - 0) (take size (put_mid (end - start) room ys into ++ rest)) ≡ take (end - start) (drop start xs) ++ take count into
slice_filled xs ys into rest start end room count size order within moved low fits =
    let front : take (end - start) ys ≡ take (end - start) (drop start xs) = slice_moved xs ys start end order within moved in
    let all : end - start + count - 0 ≡ end - start + count = omega arith in
    let whole : take (end - start + count) (take size (put_mid (end - start) room ys into ++ rest)) ≡ take (end - start + count) (put_mid (end - start) room ys into ++ rest) =
    take-take (end - start + count) size (put_mid (end - start) room ys into ++ rest) fits in
    rw all (whole ∙ rw (front, regrouped (take (end - start) (drop start xs)) into (post_of (end - start) room ys) rest)
    (front_and (end - start) count (take (end - start) (drop start xs)) into (post_of (end - start) room ys ++ rest) (slice_length xs start end order within) low))

-- a piece is written within the window
pub piece_fits : (xs into : List ℕ) (kept room count size : ℕ) → count ≤ length into → length into ≡ length (take room (drop kept xs)) → length xs ≡ size → kept ≤ size → kept + count ≤ size
piece_fits xs into kept room count size low same whole within =
    omega (arith, length-take room (drop kept xs), length-drop kept xs)
