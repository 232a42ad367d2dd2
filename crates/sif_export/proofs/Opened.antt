-- Two lists of tokens that open and close the same are as deep.
use Rattle.std.proofs.Common.{◌≡◌, ◌+◌, ◌-◌, ◌≤◌, ℕ, suc, Bool, true, false, List, [], ◌∷◌, ◌++◌, take, drop, length, refl, ap, sym, ◌∙◌, subst, arith, append_assoc, inl, inr, ◌⊎◌}
use Rattle.std.proofs.lemmas.List.{take-append-drop}
use Rattle.st_tree.specs.Symbols.{Sym, Id, Key, Op, Minus, Bar, TwoBars, ThreeBars, Num, Lit, ArrayOpen, ParenOpen, ParenClose, BlockOpen, BlockClose, Colon, Assign, Caret, Period, Semicolon}
use Rattle.st_tree.specs.Faults.{deeper, depth, Shallow}
use Rattle.sif_export.proofs.Exports.{move, moves}

-- what these openings and closings do to a depth
abbrev pub shifted : ℕ → List Bool → ℕ
shifted d [] = d
shifted d (true ∷ ms) = shifted (d + 1) ms
shifted d (false ∷ ms) = shifted (d - 1) ms

shifted-append : (d : ℕ) (a b : List Bool) → shifted d (a ++ b) ≡ shifted (shifted d a) b
shifted-append d [] b = refl
shifted-append d (true ∷ ms) b = shifted-append (d + 1) ms b
shifted-append d (false ∷ ms) b = shifted-append (d - 1) ms b

deeper-shifted : (d : ℕ) (s : Sym) → deeper d s ≡ shifted d (move s)
deeper-shifted d (Id t at) = refl
deeper-shifted d (Key t at) = refl
deeper-shifted d (Op t at) = refl
deeper-shifted d (Minus at) = refl
deeper-shifted d (Bar at) = refl
deeper-shifted d (TwoBars at) = refl
deeper-shifted d (ThreeBars at) = refl
deeper-shifted d (Num n at) = refl
deeper-shifted d (Lit l) = refl
deeper-shifted d ArrayOpen = refl
deeper-shifted d ParenOpen = refl
deeper-shifted d ParenClose = refl
deeper-shifted d (BlockOpen at) = refl
deeper-shifted d BlockClose = refl
deeper-shifted d Colon = refl
deeper-shifted d Assign = refl
deeper-shifted d Caret = refl
deeper-shifted d Period = refl
deeper-shifted d Semicolon = refl

depth-shifted : (d : ℕ) (a : List Sym) → depth d a ≡ shifted d (moves a)
depth-shifted d [] = refl
depth-shifted d (s ∷ a) = ap (λ e. depth e a) (deeper-shifted d s) ∙ depth-shifted (shifted d (move s)) a ∙ sym (shifted-append d (move s) (moves a))

pub moves-append : (a b : List Sym) → moves (a ++ b) ≡ moves a ++ moves b
moves-append [] b = refl
moves-append (s ∷ a) b = ap (λ ms. move s ++ ms) (moves-append a b) ∙ sym (append_assoc (move s) (moves a) (moves b))

one_move : (s : Sym) → (move s ≡ []) ⊎ ((m : Bool) × (move s ≡ m ∷ []))
one_move (Id t at) = inl refl
one_move (Key t at) = inl refl
one_move (Op t at) = inl refl
one_move (Minus at) = inl refl
one_move (Bar at) = inl refl
one_move (TwoBars at) = inl refl
one_move (ThreeBars at) = inl refl
one_move (Num n at) = inl refl
one_move (Lit l) = inl refl
one_move ArrayOpen = inr (true, refl)
one_move ParenOpen = inr (true, refl)
one_move ParenClose = inr (false, refl)
one_move (BlockOpen at) = inr (true, refl)
one_move BlockClose = inr (false, refl)
one_move Colon = inl refl
one_move Assign = inl refl
one_move Caret = inl refl
one_move Period = inl refl
one_move Semicolon = inl refl

-- a front of the tokens that does just these first ones
abbrev Front : List Sym → List Bool → Type 0
Front a xs = (n : ℕ) × (n ≤ length a) × (moves (take n a) ≡ xs)

further : (s : Sym) (a : List Sym) (xs ys : List Bool) → move s ++ xs ≡ ys → Front a xs → Front (s ∷ a) ys
further s a xs ys e f = (suc f.0, omega (arith, f.1), ap (λ ms. move s ++ ms) f.2 ∙ e)

same_head : {x y : Bool} {xs ys : List Bool} → x ∷ xs ≡ y ∷ ys → x ≡ y
same_head e = cc

same_tail : {x y : Bool} {xs ys : List Bool} → x ∷ xs ≡ y ∷ ys → xs ≡ ys
same_tail e = cc

front : (a : List Sym) (xs ys : List Bool) → moves a ≡ xs ++ ys → Front a xs
front a [] ys e = (0, omega arith, refl)
front [] (x ∷ xs) ys e = absurd (let k : [] ≡ x ∷ (xs ++ ys) = e in cc)
front (s ∷ a) (x ∷ xs) ys e = elim (one_move s) [
  | inl none ↦
      let all : moves a ≡ (x ∷ xs) ++ ys = ap (λ ms. ms ++ moves a) (sym none) ∙ e in
      further s a (x ∷ xs) (x ∷ xs) (ap (λ ms. ms ++ x ∷ xs) none) (front a (x ∷ xs) ys all)
  | inr one ↦
      let all : one.0 ∷ moves a ≡ x ∷ (xs ++ ys) = ap (λ ms. ms ++ moves a) (sym one.1) ∙ e in
      further s a xs (x ∷ xs) (ap (λ ms. ms ++ xs) one.1 ∙ ap (λ m. m ∷ xs) (same_head all)) (front a xs ys (same_tail all))
]

pub shallow_moves : (a b : List Sym) → moves a ≡ moves b → Shallow a → Shallow b
shallow_moves a b same h n low =
    let whole : moves a ≡ moves (take n b) ++ moves (drop n b) = same ∙ ap moves (sym (take-append-drop n b)) ∙ moves-append (take n b) (drop n b) in
    let f = front a (moves (take n b)) (moves (drop n b)) whole in
    let as_deep : depth 0 (take f.0 a) ≡ depth 0 (take n b) = depth-shifted 0 (take f.0 a) ∙ ap (shifted 0) f.2 ∙ sym (depth-shifted 0 (take n b)) in
    subst (λ d. d ≤ 200) as_deep (h f.0 f.1)
