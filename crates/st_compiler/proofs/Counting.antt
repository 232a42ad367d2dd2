-- Captured variables and standing operands, counted in loops.
use Rattle.std.proofs.Common.{◌≡◌, ℕ, suc, ◌+◌, ◌<◌, ◌≤◌, max, Bool, true, false, not, List, [], ◌∷◌, ◌++◌, map, drop, length, get_or, ap, sym, ◌∙◌, append_assoc, append-nil, arith}
use Rattle.std.proofs.Math.Seq.{drop-cons}
use Rattle.std.proofs.lemmas.List.{drop_all, map-append}
use Rattle.st_code.specs.declared.instruction.Instruction.{Instruction}
use Rattle.st_code.specs.declared.instruction.Code.{Code}
use Rattle.st_code.specs.Compiled.{stand_after, most_standing, count_uncaptured, Compiled, seen_code}
use Rattle.st_compiler.specs.declared.draft.DraftBody.{DraftBody}
use Rattle.st_compiler.specs.Befores.{one_if, befores, count_captured}
use Rattle.st_compiler.specs.Placed.{compiled_draft, compiled_drafts}
use Rattle.st_compiler.proofs.Finding.{drop-here}

pub drop-bool : {X : Type 0} (xs : List X) (d : X) (i : ℕ) → i < length xs → drop i xs ≡ get_or xs i d ∷ drop (i + 1) xs
drop-bool xs d i low =
    let next : suc i ≡ i + 1 = omega arith in
    drop-cons xs i d low ∙ ap (λ j. get_or xs i d ∷ drop j xs) next

pub before-next : (captured : List Bool) (i count one : ℕ) (now more whole : List ℕ) → i < length captured → one ≡ one_if (get_or captured i false) → more ≡ now ++ count ∷ []
    → now ++ befores count (drop i captured) ≡ whole → more ++ befores (count + one) (drop (i + 1) captured) ≡ whole
before-next captured i count one now more whole low is added sofar =
    let rest : List ℕ = befores (count + one_if (get_or captured i false)) (drop (i + 1) captured) in
    ap (λ n. more ++ befores (count + n) (drop (i + 1) captured)) is
    ∙ ap (λ l. l ++ rest) added ∙ append_assoc now (count ∷ []) rest
    ∙ ap (λ l. now ++ befores count l) (sym (drop-bool captured false i low)) ∙ sofar

pub before-all : (captured : List Bool) (i count : ℕ) (now whole : List ℕ) → length captured ≤ i → now ++ befores count (drop i captured) ≡ whole → now ≡ whole
before-all captured i count now whole past sofar = sym (append-nil now) ∙ ap (λ l. now ++ befores count l) (sym (drop_all i captured past)) ∙ sofar

pub captured-next : (captured : List Bool) (i count one whole : ℕ) → i < length captured → one ≡ one_if (get_or captured i false) → count + count_captured (drop i captured) ≡ whole → (count + one) + count_captured (drop (i + 1) captured) ≡ whole
captured-next captured i count one whole low is sofar =
    let step : count_captured (drop i captured) ≡ one_if (get_or captured i false) + count_captured (drop (i + 1) captured) = ap count_captured (drop-bool captured false i low) in
    omega (arith, step, sofar, is)

free-one : (b : Bool) (rest : List Bool) → count_uncaptured (b ∷ rest) ≡ one_if (not b) + count_uncaptured rest
free-one true rest = omega arith
free-one false rest = omega arith

pub free-next : (captured : List Bool) (i count one whole : ℕ) → i < length captured → one ≡ one_if (not (get_or captured i false)) → count + count_uncaptured (drop i captured) ≡ whole → (count + one) + count_uncaptured (drop (i + 1) captured) ≡ whole
free-next captured i count one whole low is sofar =
    let step : count_uncaptured (drop i captured) ≡ one_if (not (get_or captured i false)) + count_uncaptured (drop (i + 1) captured) = ap count_uncaptured (drop-bool captured false i low) ∙ free-one (get_or captured i false) (drop (i + 1) captured) in
    omega (arith, step, sofar, is)

pub free-all : (captured : List Bool) (i count whole : ℕ) → length captured ≤ i → count + count_uncaptured (drop i captured) ≡ whole → count ≡ whole
free-all captured i count whole past sofar = let none : count_uncaptured (drop i captured) ≡ 0 = ap count_uncaptured (drop_all i captured past) in omega (arith, none, sofar)

-- ---- operands

pub most-next : (is : List Instruction) (i most standing most' standing' whole : ℕ) (x : Instruction) → drop i is ≡ x ∷ drop (i + 1) is → most' ≡ max most standing → standing' ≡ stand_after x standing
    → max most (most_standing (drop i is) standing) ≡ whole → max most' (most_standing (drop (i + 1) is) standing') ≡ whole
most-next is i most standing most' standing' whole x at more after sofar =
    let step : most_standing (drop i is) standing ≡ max standing (most_standing (drop (i + 1) is) (stand_after x standing)) = ap (λ l. most_standing l standing) at in
    let same : most_standing (drop (i + 1) is) standing' ≡ most_standing (drop (i + 1) is) (stand_after x standing) = ap (most_standing (drop (i + 1) is)) after in
    omega (arith, step, same, more, sofar)

pub most-end : (is : List Instruction) (i most standing whole : ℕ) → length is ≤ i → max most (most_standing (drop i is) standing) ≡ whole → max most standing ≡ whole
most-end is i most standing whole past sofar =
    let none : most_standing (drop i is) standing ≡ standing = ap (λ l. most_standing l standing) (drop_all i is past) in
    omega (arith, none, sofar)

-- ---- codes

pub codes-next : (bodies : List DraftBody) (i code : ℕ) (b : DraftBody) (all more : List Code) (c : Code) (whole : List Compiled) → b ≡ get_or bodies i b → i < length bodies → seen_code c ≡ compiled_draft bodies code b → more ≡ all ++ c ∷ []
    → map seen_code all ++ compiled_drafts bodies code (drop i bodies) ≡ whole → map seen_code more ++ compiled_drafts bodies (code + 1) (drop (i + 1) bodies) ≡ whole
codes-next bodies i code b all more c whole there low is added sofar =
    let next : code + 1 ≡ suc code = omega arith in
    let rest : List Compiled = compiled_drafts bodies (suc code) (drop (i + 1) bodies) in
    ap (λ n. map seen_code more ++ compiled_drafts bodies n (drop (i + 1) bodies)) next
    ∙ ap (λ l. map seen_code l ++ rest) added
    ∙ ap (λ l. l ++ rest) (map-append seen_code all (c ∷ []))
    ∙ append_assoc (map seen_code all) (seen_code c ∷ []) rest
    ∙ ap (λ d. map seen_code all ++ (d ∷ rest)) is
    ∙ ap (λ l. map seen_code all ++ compiled_drafts bodies code l) (sym (drop-here bodies i b there low))
    ∙ sofar

pub codes-end : (bodies : List DraftBody) (i code : ℕ) (all : List Code) (whole : List Compiled) → length bodies ≤ i → map seen_code all ++ compiled_drafts bodies code (drop i bodies) ≡ whole → map seen_code all ≡ whole
codes-end bodies i code all whole past sofar = sym (append-nil (map seen_code all)) ∙ ap (λ l. map seen_code all ++ compiled_drafts bodies code l) (sym (drop_all i bodies past)) ∙ sofar
