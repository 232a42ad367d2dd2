-- What the first bytes of an input settle, whatever comes behind them.
use Rattle.std.proofs.Common.{◌≡◌, ◌⊎◌, inl, inr, ◌+◌, ◌<◌, ◌≤◌, ℕ, zero, suc, Bool, true, false, List, [], ◌∷◌, ◌++◌, take, drop, length, refl, ap, sym, ◌∙◌, subst, arith, if◌then◌else◌, take-append-drop, append_assoc, Option, None, Some, IfSome}
use Rattle.std.specs.Prelude.{◌==◌, nat_lt}
use Rattle.std.specs.Io.KnownBytes.{append_known}
use Rattle.std.proofs.lemmas.Bool.{ltb-true, lt-ltb, lt-leb}
use Rattle.std.proofs.lemmas.List.{length-append, take-append-le}
use Rattle.std.proofs.Math.Seq.{take-append_seam}
use Rattle.st_base.specs.declared.faults.Reason.{Reason}
use Rattle.st_base.specs.declared.faults.Reason.TheVariants as reason
use Rattle.sif_chunks.specs.Leaving.{Leaves}
use Rattle.sif_chunks.specs.Reading.{max_input, max_text, is_white}
use Rattle.sif_chunks.specs.Split.{Parts, onto, with_text, parts_behind, parts_of}
use Rattle.sif_chunks.proofs.SplitLemmas.{onto-nil, onto-onto}
use Rattle.sif_elements.specs.declared.progress.Progress.{Progress}
use Rattle.sif_elements.specs.declared.progress.Progress.TheVariants.{Start}
use Rattle.sif_elements.specs.Reading.{Answer, Refuse, Answers, Refuses, is_whole, parts}
use Rattle.sif_elements.specs.Steps.{Step, Goes, Spoilt, step_of, behind_step, answer_on}
use Rattle.sif_elements.specs.Answered.{LeavesOpen}
use Rattle.sif_elements.proofs.Only.{answers_made, answers_hold}
use Rattle.sif_elements.proofs.TakenLemmas.{IsOpen, refuse_why}

-- parts behind the rest of others
abbrev pub followed : Parts → Parts → Parts
followed a b = record { texts = a.texts ++ (onto a.rest b).texts; rest = (onto a.rest b).rest }

onto_first-followed : (bytes : List ℕ) (texts : List (List ℕ)) (rest : List ℕ) (b : Parts) → onto bytes (followed (record { texts = texts; rest = rest }) b) ≡ followed (onto bytes (record { texts = texts; rest = rest })) b
onto_first-followed bytes [] rest b = onto-onto bytes rest b
onto_first-followed bytes (text ∷ texts) rest b = refl

onto-followed : (bytes : List ℕ) (whole a b : Parts) → whole ≡ followed a b → onto bytes whole ≡ followed (onto bytes a) b
onto-followed bytes whole a b is = ap (onto bytes) is ∙ onto_first-followed bytes a.texts a.rest b

-- parts that those of the first bytes are followed by
abbrev pub Extends : Parts → Parts → Type 0
Extends first whole = (b : Parts) × (whole ≡ followed first b)

extends_onto : (bytes : List ℕ) (first whole : Parts) → Extends first whole → Extends (onto bytes first) (onto bytes whole)
extends_onto bytes first whole more = (more.0, onto-followed bytes whole first more.0 more.1)

extends_with : (text : List ℕ) (first whole : Parts) → Extends first whole → Extends (with_text text first) (with_text text whole)
extends_with text first whole more = (more.0, ap (with_text text) more.1)

extends_either : (is : Bool) (a b c d : Parts) → Extends a c → Extends b d → Extends (if is then a else b) (if is then c else d)
extends_either true a b c d one two = one
extends_either false a b c d one two = two

-- more bytes add to the rest of the first, and put texts behind it
pub parts_extend : (held ended : Bool) (bytes more : List ℕ) → Extends (parts_behind false held bytes) (parts_behind ended held (bytes ++ more))
parts_extend false ended [] more = (parts_behind ended false more, sym (onto-nil (parts_behind ended false more)))
parts_extend true ended [] more = (parts_behind ended true more, sym (onto-nil (parts_behind ended true more)))
parts_extend false ended (b ∷ bs) more =
    extends_either (b == 33) _ _ _ _ (parts_extend true ended bs more) (extends_onto (b ∷ []) _ _ (parts_extend false ended bs more))
parts_extend true ended (b ∷ bs) more =
    extends_either (b == 33) _ _ _ _ (extends_onto (33 ∷ []) _ _ (parts_extend false ended bs more)) (extends_with [] _ _ (extends_onto (b ∷ []) _ _ (parts_extend false ended bs more)))

-- an answer is open, or the same with more bytes
abbrev pub Stays : Answer → Answer → Type 0
Stays first whole = IsOpen first ⊎ (whole ≡ first)

stays_text : (n : ℕ) (long white : Bool) (step : Step) (first whole too_long : Answer) (later after : Progress → Answer) → Stays first whole → ((q : Progress) → Stays (later q) (after q))
    → Stays (if long then too_long else (if white then first else behind_step n step later)) (if long then too_long else (if white then whole else behind_step n step after))
stays_text n true white step first whole too_long later after here there = inr refl
stays_text n false true step first whole too_long later after here there = here
stays_text n false false (Goes q) first whole too_long later after here there = there q
stays_text n false false (Spoilt byte why) first whole too_long later after here there = inr refl

longer_too : (xs ys : List ℕ) → nat_lt max_text (length xs) ≡ true → nat_lt max_text (length (xs ++ ys)) ≡ true
longer_too xs ys long = lt-ltb _ _ (omega (arith, ltb-true _ _ long, length-append xs ys))

-- a rest that is too long makes the next text too long, or the rest
long_rest_stays : (p : Progress) (ended : Bool) (n : ℕ) (rest : List ℕ) (texts : List (List ℕ)) (last : List ℕ) → nat_lt max_text (length rest) ≡ true
    → answer_on p ended n (onto rest (record { texts = texts; rest = last })).texts (onto rest (record { texts = texts; rest = last })).rest ≡ Refuse n max_text reason.ElementTooLong
long_rest_stays p ended n rest [] last long = rw (longer_too rest last long) refl
long_rest_stays p ended n rest (text ∷ texts) last long = rw (longer_too rest text long) refl

stays_rest : (p : Progress) (ended : Bool) (n : ℕ) (rest : List ℕ) (b : Parts) (long : Bool) → nat_lt max_text (length rest) ≡ long
    → Stays (if long then Refuse n max_text reason.ElementTooLong else Refuse n (length rest) reason.InputTooLong) (answer_on p ended n (onto rest b).texts (onto rest b).rest)
stays_rest p ended n rest b true long = inr (long_rest_stays p ended n rest b.texts b.rest long)
stays_rest p ended n rest b false long = inl (record { number = n; byte = length rest; is = refl })

-- what is answered of the first bytes
pub answer_stays : (p : Progress) (ended : Bool) (n : ℕ) (texts : List (List ℕ)) (rest : List ℕ) (b : Parts) → Stays (answer_on p false n texts rest) (answer_on p ended n (texts ++ (onto rest b).texts) (onto rest b).rest)
answer_stays p ended n [] rest b = stays_rest p ended n rest b (nat_lt max_text (length rest)) refl
answer_stays p ended n (text ∷ texts) rest b =
    stays_text n (nat_lt max_text (length text)) (is_white text) (step_of p text) _ _ _ _ _ (answer_stays p ended n texts rest b) (λ q. answer_stays q ended (n + 1) texts rest b)

answer_extends : (p : Progress) (ended : Bool) (n : ℕ) (first whole : Parts) → Extends first whole → Stays (answer_on p false n first.texts first.rest) (answer_on p ended n whole.texts whole.rest)
answer_extends p ended n first whole more = rw more.1 (answer_stays p ended n first.texts first.rest more.0)

take-more : (n : ℕ) (xs ys : List ℕ) → (more : List ℕ) × (take n (xs ++ ys) ≡ take n xs ++ more)
take-more zero xs ys = ([], refl)
take-more (suc n) [] ys = (take (suc n) ys, refl)
take-more (suc n) (x ∷ xs) ys = let rest = take-more n xs ys in (rest.0, ap (λ (zs : List ℕ). x ∷ zs) rest.1)

first_parts : (ended : Bool) (bytes more : List ℕ) → Extends (parts false bytes) (parts ended (bytes ++ more))
first_parts ended bytes more =
    let front = take-more max_input bytes more in
    subst (λ (xs : List ℕ). Extends (parts false bytes) (parts_of (is_whole ended (bytes ++ more)) xs)) (sym front.1)
    (parts_extend false (is_whole ended (bytes ++ more)) (take max_input bytes) front.0)

-- what is answered of an input, as the relation has it
abbrev pub answer_to : Bool → List ℕ → Answer
answer_to ended bytes = answer_on Start (is_whole ended bytes) 1 (parts ended bytes).texts (parts ended bytes).rest

not_whole : (ended : Bool) (bytes : List ℕ) → max_input < length bytes → is_whole ended bytes ≡ false
not_whole false bytes long = refl
not_whole true bytes long = lt-leb (length bytes) max_input long

-- no byte behind the longest input is judged
long_stays : (ended : Bool) (bytes more : List ℕ) → max_input < length bytes → answer_to ended (bytes ++ more) ≡ answer_to false bytes
long_stays ended bytes more long =
    let whole : is_whole ended (bytes ++ more) ≡ false = not_whole ended (bytes ++ more) (omega (arith, long, length-append bytes more)) in
    let front : take max_input (bytes ++ more) ≡ take max_input bytes = take-append-le max_input bytes more (omega (arith, long)) in
    rw (whole, front) refl

refused_by : (ended : Bool) (bytes more : List ℕ) (number byte : ℕ) (why : Reason) → Refuses bytes false number byte why → Stays (answer_to false bytes) (answer_to ended (bytes ++ more)) → answer_to ended (bytes ++ more) ≡ Refuse number byte why
refused_by ended bytes more number byte why refuses (inr same) = same ∙ answers_made refuses.answers
refused_by ended bytes more number byte why refuses (inl is_open) =
    let long = refuses.longer refl (refuse_why (sym (answers_made refuses.answers) ∙ is_open.is)) in
    long_stays ended bytes more long ∙ answers_made refuses.answers

-- what the first bytes settle is answered of every input that begins with them
pub refusal_stays : (bytes more : List ℕ) (ended : Bool) (number byte : ℕ) (why : Reason) → Refuses bytes false number byte why → Refuses (bytes ++ more) ended number byte why
refusal_stays bytes more ended number byte why refuses =
    let whole : List ℕ = bytes ++ more in
    let is : answer_to ended whole ≡ Refuse number byte why =
    refused_by ended bytes more number byte why refuses (answer_extends Start (is_whole ended whole) 1 (parts false bytes) (parts ended whole) (first_parts ended bytes more)) in
    record {
      answers = subst (Answers Start (is_whole ended whole) 1 (parts ended whole).texts (parts ended whole).rest) is (answers_hold Start (is_whole ended whole) 1 (parts ended whole).texts (parts ended whole).rest);
      longer = λ goes_on too_long. omega (arith, refuses.longer refl too_long, length-append bytes more);
    }

-- the shorter of two beginnings begins the longer
begins : (a b c d : List ℕ) → c ++ d ≡ a ++ b → length a ≤ length c → c ≡ a ++ drop (length a) c
begins a b c d is short =
    let front : take (length a) c ≡ a = sym (take-append-le (length a) c d short) ∙ ap (take (length a)) is ∙ take-append_seam a b in
    sym (take-append-drop (length a) c) ∙ ap (λ (xs : List ℕ). xs ++ drop (length a) c) front

-- what was taken of a source is less than what was taken of it and of the bytes behind it
taken_within : (bytes taken left behind part after got : List ℕ) → bytes ≡ taken ++ left → behind ≡ part ++ after → bytes ++ behind ≡ got ++ (left ++ after) → got ≡ taken ++ drop (length taken) got
taken_within bytes taken left behind part after got front back whole =
    let both : (taken ++ left) ++ (part ++ after) ≡ got ++ (left ++ after) = rw (front, back) at whole in
    begins taken (left ++ (part ++ after)) got (left ++ after) (sym both ∙ append_assoc taken left (part ++ after))
    (omega (arith, ap length both, length-append (taken ++ left) (part ++ after), length-append taken left, length-append part after, length-append got (left ++ after), length-append left after))

some_bytes : {a b : List ℕ} → Some a ≡ Some b → a ≡ b
some_bytes is = cc

-- so it settles no more than that
pub source_open : (left left' : Option (List ℕ)) (behind behind' : List ℕ) → Leaves left left' behind behind' → IfSome (append_known left behind) (λ file. LeavesOpen file (append_known left' behind')) → IfSome left (λ bytes. LeavesOpen bytes left')
source_open None left' behind behind' leaves opens = tt
source_open (Some bytes) None behind behind' leaves opens = absurd (let none : Some bytes ≡ None = leaves.front in cc)
source_open (Some bytes) (Some rest) behind behind' leaves opens =
    let more : List ℕ = drop (length leaves.taken) opens.taken in
    let is : opens.taken ≡ leaves.taken ++ more = taken_within bytes leaves.taken rest behind leaves.part behind' opens.taken (some_bytes leaves.front) leaves.back (some_bytes opens.front) in
    record {
      taken = leaves.taken;
      front = leaves.front;
      unsettled = λ number byte why refuses. opens.unsettled number byte why (rw is (refusal_stays leaves.taken more false number byte why refuses));
    }
