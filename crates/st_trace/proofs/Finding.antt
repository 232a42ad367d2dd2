-- What stands before the first byte of a kind, and behind it.
use Rattle.std.proofs.Common.{◌≡◌, ℕ, zero, suc, ◌+◌, ◌-◌, ◌<◌, ◌≤◌, Bool, true, false, List, [], ◌∷◌, ◌++◌, length, take, drop, slice_index, refl, sym, ap, ◌∙◌, arith, nat_eq, if◌then◌else◌, ne_eqb, eq-eqb, eqb-true}
use Rattle.std.proofs.Math.Seq.{take-length}
use Rattle.std.proofs.lemmas.List.{length-drop}
use Rattle.memchr.specs.Find.{Nowhere, NoneBefore, Passes, is_byte}
use Rattle.st_code.specs.Texts.{Text}
use Rattle.st_trace.specs.Bytes.{no_end}
use Rattle.st_trace.specs.Reading.{onto_first, words_of}

pub take_rest : (bs : Text) (k : ℕ) → take (length bs - k) (drop k bs) ≡ drop k bs
take_rest bs k = ap (λ n. take n (drop k bs)) (sym (length-drop k bs)) ∙ take-length (drop k bs)

abbrev Lacks : ℕ → Text → ℕ → Type 0
Lacks c bs k = (m : ℕ) → m < k → slice_index bs m ≡ c → ⊥

lacks : (c : ℕ) (bs : Text) (k : ℕ) → Nowhere (Passes (is_byte c) bs) 0 k → Lacks c bs k
lacks c bs k h m l e = h m (omega arith) l (eq-eqb (slice_index bs m) c e)

words_at : (bs : Text) (k : ℕ) → k < length bs → Lacks 32 bs k → slice_index bs k ≡ 32 → words_of bs ≡ take k bs ∷ words_of (drop (suc k) bs)
words_at [] k l h e = let none : ⊥ = omega (arith, l) in absurd none
words_at (c ∷ cs) zero l h e = ap (λ b. if b then [] ∷ words_of cs else onto_first c (words_of cs)) (eq-eqb c 32 e)
words_at (c ∷ cs) (suc k) l h e =
    ap (λ b. if b then [] ∷ words_of cs else onto_first c (words_of cs)) (ne_eqb c 32 (h 0 (omega arith)))
    ∙ ap (onto_first c) (words_at cs k (omega (arith, l)) (λ m n. h (suc m) (omega (arith, n))) e)

words_alone : (bs : Text) → Lacks 32 bs (length bs) → words_of bs ≡ bs ∷ []
words_alone [] h = refl
words_alone (c ∷ cs) h =
    ap (λ b. if b then [] ∷ words_of cs else onto_first c (words_of cs)) (ne_eqb c 32 (h 0 (omega arith)))
    ∙ ap (onto_first c) (words_alone cs (λ m n. h (suc m) (omega (arith, n))))

pub words_some : (bs : Text) (k : ℕ) → NoneBefore (Passes (is_byte 32) bs) 0 (length bs) k × Passes (is_byte 32) bs k → words_of bs ≡ take k bs ∷ words_of (take (length bs - (k + 1)) (drop (k + 1) bs))
words_some bs k h =
    let q : suc k ≡ k + 1 = omega arith in
    words_at bs k h.0.high (lacks 32 bs k h.0.before) (eqb-true (slice_index bs k) 32 h.1)
    ∙ ap (λ n. take k bs ∷ words_of (drop n bs)) q
    ∙ ap (λ t. take k bs ∷ words_of t) (sym (take_rest bs (k + 1)))

pub words_none : (bs : Text) → Nowhere (Passes (is_byte 32) bs) 0 (length bs) → words_of bs ≡ bs ∷ []
words_none bs h = words_alone bs (lacks 32 bs (length bs) h)

endless_before : (bs : Text) (k : ℕ) → k ≤ length bs → Lacks 10 bs k → no_end (take k bs) ≡ true
endless_before bs zero l h = refl
endless_before [] (suc k) l h = let none : ⊥ = omega (arith, l) in absurd none
endless_before (c ∷ cs) (suc k) l h =
    ap (λ b. if b then false else no_end (take k cs)) (ne_eqb c 10 (h 0 (omega arith)))
    ∙ endless_before cs k (omega (arith, l)) (λ m n. h (suc m) (omega (arith, n)))

take_more : (bs : Text) (k c : ℕ) → k < length bs → slice_index bs k ≡ c → take (suc k) bs ≡ take k bs ++ c ∷ []
take_more [] k c l e = let none : ⊥ = omega (arith, l) in absurd none
take_more (b ∷ bs) zero c l e = ap (λ x. x ∷ []) e
take_more (b ∷ bs) (suc k) c l e = ap (λ t. b ∷ t) (take_more bs k c (omega (arith, l)) e)

-- the bytes up to the first byte 10, and with it
pub line_some : (bs : Text) (k : ℕ) → NoneBefore (Passes (is_byte 10) bs) 0 (length bs) k × Passes (is_byte 10) bs k → (no_end (take k bs) ≡ true) × (take (k + 1) bs ≡ take k bs ++ 10 ∷ [])
line_some bs k h =
    let q : k + 1 ≡ suc k = omega arith in
    (endless_before bs k (omega (arith, h.0.high)) (lacks 10 bs k h.0.before), ap (λ n. take n bs) q ∙ take_more bs k 10 h.0.high (eqb-true (slice_index bs k) 10 h.1))

pub line_none : (bs : Text) → Nowhere (Passes (is_byte 10) bs) 0 (length bs) → no_end bs ≡ true
line_none bs h = ap no_end (sym (take-length bs)) ∙ endless_before bs (length bs) (omega arith) (lacks 10 bs (length bs) h)
