-- What a writer wrote is split into the texts that it was given.
use Rattle.std.proofs.Common.{◌≡◌, ℕ, List, [], ◌∷◌, ◌++◌, refl, ap, ◌∙◌, append_assoc, arith}
use Rattle.sif_chunks.specs.Split.{Split, doubled, joined, IsSeparated, BeginsWithNoBang}
use Rattle.sif_chunks.specs.Writing.{closing, all_closed, on_new_lines}

-- a line end, and then elements
behind : (texts : List (List ℕ)) → 10 ∷ all_closed texts ≡ joined (on_new_lines texts) (10 ∷ [])
behind [] = refl
behind (text ∷ texts) =
    ap (λ (xs : List ℕ). 10 ∷ xs) (append_assoc (doubled text) closing (all_closed texts)
    ∙ ap (λ (xs : List ℕ). doubled text ++ 33 ∷ xs) (behind texts))

begins : (texts : List (List ℕ)) → BeginsWithNoBang (joined (on_new_lines texts) (10 ∷ []))
begins [] = λ e. absurd (omega arith)
begins (text ∷ texts) = λ e. absurd (omega arith)

separated : (texts : List (List ℕ)) → IsSeparated (on_new_lines texts) (10 ∷ [])
separated [] = tt
separated (text ∷ texts) = (begins texts, separated texts)

pub written-Split : (text : List ℕ) (texts : List (List ℕ)) → Split (all_closed (text ∷ texts)) (text ∷ on_new_lines texts) (10 ∷ [])
written-Split text texts = record {
  whole = append_assoc (doubled text) closing (all_closed texts) ∙ ap (λ (xs : List ℕ). doubled text ++ 33 ∷ xs) (behind texts);
  separated = (begins texts, separated texts);
}
