-- Answers over what stands behind a text.
use Rattle.std.proofs.Common.{◌≡◌, ◌<◌, ◌≤◌, ℕ, Bool, true, false, List, [], ◌∷◌, ◌++◌, drop, length, refl, ap, sym, ◌∙◌, arith, append_assoc, ltb, inl, inr}
use Rattle.std.proofs.lemmas.List.{append-nil, length-append, take_at}
use Rattle.std.proofs.lemmas.Bool.Decides.{eqb_tells}
use Rattle.sif_chunks.specs.Split.{Parts, onto, with_text, parts_of}
use Rattle.sif_chunks.specs.Step.{GoesOn, IsCut, IsSpent, BeginsText}
use Rattle.sif_chunks.specs.Reading.{answer_in, stopped, ahead, ahead_of, is_white, max_text}
use Rattle.sif_chunks.specs.declared.next.Next.TheVariants.{Element, End, Unfinished, TooLong, InputTooLong}
use Rattle.sif_chunks.proofs.SplitLemmas.{onto-nil, onto-onto, eqb-not}

ltb-not : (m n : ℕ) → n ≤ m → ltb m n ≡ false
ltb-not m n low = grind arith

ltb-is : (m n : ℕ) → m < n → ltb m n ≡ true
ltb-is m n low = grind arith

pub goes_on : (number count : ℕ) (text pending new : List ℕ) (ended : Bool) (more : List ℕ) → GoesOn text pending count new → ahead number text pending ended more ≡ ahead number new (drop count pending) ended more
goes_on number count text pending new ended more goes = ap (answer_in ended number) (goes.same ended more)

answer_in-white : (ended : Bool) (number : ℕ) (text : List ℕ) (parts : Parts) → length text ≤ max_text → is_white text ≡ true → answer_in ended number (with_text text parts) ≡ answer_in ended number parts
answer_in-white ended number text parts short white = rw (ltb-not max_text (length text) short, white) refl

answer_in-element : (ended : Bool) (number : ℕ) (text : List ℕ) (parts : Parts) → length text ≤ max_text → is_white text ≡ false → answer_in ended number (with_text text parts) ≡ record { kind = Element; number = number; text = text; ended = ended; behind = parts }
answer_in-element ended number text parts short white = rw (ltb-not max_text (length text) short, white) refl

pub cut-white : (number count : ℕ) (text pending new : List ℕ) (ended : Bool) (more : List ℕ) → IsCut text pending count new → length new ≤ max_text → is_white new ≡ true → ahead number text pending ended more ≡ ahead number [] (drop count pending) ended more
cut-white number count text pending new ended more cut short white =
    let behind = parts_of ended (drop count pending ++ more) in
    ap (answer_in ended number) (cut.same ended more)
    ∙ answer_in-white ended number new behind short white
    ∙ ap (answer_in ended number) (sym (onto-nil behind))

pub cut-element : (number count : ℕ) (text pending new : List ℕ) (ended : Bool) (more : List ℕ) → IsCut text pending count new → length new ≤ max_text → is_white new ≡ false → ahead number text pending ended more ≡ ahead_of Element number new (drop count pending) ended more
cut-element number count text pending new ended more cut short white =
    ap (answer_in ended number) (cut.same ended more)
    ∙ answer_in-element ended number new (parts_of ended (drop count pending ++ more)) short white

-- a first text or rest that begins with a full text and goes on
answer_for-long : (ended : Bool) (number : ℕ) (text : List ℕ) (b : ℕ) (texts : List (List ℕ)) (rest : List ℕ) → length text ≡ max_text → answer_in ended number (onto (text ++ b ∷ []) (record { texts = texts; rest = rest })) ≡ stopped TooLong number text
answer_for-long ended number text b [] rest full =
    let regrouped : text ++ b ∷ [] ++ rest ≡ text ++ (b ∷ rest) = append_assoc text (b ∷ []) rest in
    let more : max_text < length (text ++ (b ∷ rest)) = omega (arith, length-append text (b ∷ rest)) in
    rw (regrouped, ltb-is max_text (length (text ++ (b ∷ rest))) more, take_at text (b ∷ rest) max_text full) refl
answer_for-long ended number text b (first ∷ texts) rest full =
    let regrouped : text ++ b ∷ [] ++ first ≡ text ++ (b ∷ first) = append_assoc text (b ∷ []) first in
    let more : max_text < length (text ++ (b ∷ first)) = omega (arith, length-append text (b ∷ first)) in
    rw (regrouped, ltb-is max_text (length (text ++ (b ∷ first))) more, take_at text (b ∷ first) max_text full) refl

answer_in-long : (ended : Bool) (number : ℕ) (text : List ℕ) (b : ℕ) (parts : Parts) → length text ≡ max_text → answer_in ended number (onto text (onto (b ∷ []) parts)) ≡ stopped TooLong number text
answer_in-long ended number text b parts full =
    ap (answer_in ended number) (onto-onto text (b ∷ []) parts) ∙ answer_for-long ended number text b parts.texts parts.rest full

begins_long : (ended : Bool) (number : ℕ) (text bytes more : List ℕ) → BeginsText bytes → length text ≡ max_text → ahead number text bytes ended more ≡ stopped TooLong number text
begins_long ended number text [] more begins full = absurd begins
begins_long ended number text (b ∷ []) more begins full =
    rw (eqb-not b 33 begins) (answer_in-long ended number text b (parts_of ended more) full)
begins_long ended number text (b ∷ c ∷ bs) more begins full = elim (eqb_tells b 33) [
  | inl is ↦ rw (is.0, begins is.1) (answer_in-long ended number text 33 (parts_of ended (bs ++ more)) full)
  | inr other ↦ rw other.0 (answer_in-long ended number text b (parts_of ended ((c ∷ bs) ++ more)) full)
]

pub goes_on-too_long : (number count : ℕ) (text pending new : List ℕ) (ended : Bool) (more : List ℕ) → GoesOn text pending count new → length new ≡ max_text → BeginsText (drop count pending) → ahead number text pending ended more ≡ stopped TooLong number new
goes_on-too_long number count text pending new ended more goes full begins =
    goes_on number count text pending new ended more goes ∙ begins_long ended number new (drop count pending) more begins full

-- nothing more comes, and no bang is left
ended-white : (number : ℕ) (text : List ℕ) → length text ≤ max_text → is_white text ≡ true → ahead number text [] true [] ≡ stopped End number []
ended-white number text short white = rw (append-nil text, ltb-not max_text (length text) short, white) refl

pub ended-text : (number : ℕ) (text : List ℕ) → length text ≤ max_text → is_white text ≡ false → ahead number text [] true [] ≡ stopped Unfinished number text
ended-text number text short white = rw (append-nil text, ltb-not max_text (length text) short, white) refl

-- nothing more comes behind a bang
ended-white_bang : (number : ℕ) (text : List ℕ) → length text ≤ max_text → is_white text ≡ true → ahead number text (33 ∷ []) true [] ≡ stopped End number []
ended-white_bang number text short white = rw (append-nil text, ltb-not max_text (length text) short, white) refl

pub ended-element : (number : ℕ) (text : List ℕ) → length text ≤ max_text → is_white text ≡ false → ahead number text (33 ∷ []) true [] ≡ ahead_of Element number text [] true []
ended-element number text short white = rw (append-nil text, ltb-not max_text (length text) short, white) refl

-- the input ends
pub spent-white : (number : ℕ) (text pending : List ℕ) → IsSpent pending → length text ≤ max_text → is_white text ≡ true → ahead number text pending true [] ≡ stopped End number []
spent-white number text [] spent short white = ended-white number text short white
spent-white number text (b ∷ []) spent short white = rw spent (ended-white_bang number text short white)
spent-white number text (b ∷ c ∷ bs) spent short white = absurd spent

-- the input goes on, and what is in hand leaves the answer open
pub spent-open : (number : ℕ) (text pending : List ℕ) → IsSpent pending → length text ≤ max_text → ahead number text pending false [] ≡ stopped InputTooLong number text
spent-open number text [] spent short = rw (append-nil text, ltb-not max_text (length text) short) refl
spent-open number text (b ∷ []) spent short = rw (spent, append-nil text, ltb-not max_text (length text) short) refl
spent-open number text (b ∷ c ∷ bs) spent short = absurd spent

pub spent-bang : (pending : List ℕ) → IsSpent pending → 0 < length pending → pending ≡ 33 ∷ []
spent-bang [] spent some = absurd (omega arith)
spent-bang (b ∷ []) spent some = rw spent refl
spent-bang (b ∷ c ∷ bs) spent some = absurd spent

pub spent-short : (pending : List ℕ) → IsSpent pending → length pending ≤ 1
spent-short [] spent = omega arith
spent-short (b ∷ []) spent = omega arith
spent-short (b ∷ c ∷ bs) spent = absurd spent
