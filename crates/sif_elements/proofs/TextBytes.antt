-- The text of an element has at most as many bytes as were judged for it.
use Rattle.std.proofs.Common.{◌≡◌, inl, inr, ◌+◌, ◌≤◌, ℕ, Bool, true, false, List, [], ◌∷◌, ◌++◌, take, length, not, Option, refl, ap, sym, ◌∙◌, arith, ltb, if◌then◌else◌}
use Rattle.std.specs.Prelude.{◌==◌}
use Rattle.std.proofs.lemmas.List.{length-append}
use Rattle.sif_chunks.specs.Split.{Parts, doubled, joined, onto, onto_first, with_text, parts_of, parts_behind}
use Rattle.sif_chunks.specs.Reading.{Reader, Answer, answer_for, last_answer, outlook_over, told_over, stopped, Settled, Settles, judged, is_white, max_text}
use Rattle.sif_chunks.specs.declared.next.Next.{Next}
use Rattle.sif_chunks.specs.declared.next.Next.TheVariants as next
use Rattle.sif_chunks.proofs.SplitLaw.{Split-parts_of}
use Rattle.sif_elements.proofs.Ahead.{IsBefore}

abbrev element_answer : ℕ → List ℕ → Bool → Parts → Answer
element_answer n text ended behind = record { kind = next.Element; number = n; text = text; ended = ended; behind = behind }

doubled_by : (c : Bool) (b : ℕ) (bs : List ℕ) → length bs ≤ length (doubled bs) → length (b ∷ bs) ≤ length (if c then 33 ∷ 33 ∷ doubled bs else b ∷ doubled bs)
doubled_by true b bs h = omega (arith, h)
doubled_by false b bs h = omega (arith, h)

pub doubled-length : (t : List ℕ) → length t ≤ length (doubled t)
doubled-length [] = omega arith
doubled-length (b ∷ bs) = doubled_by (b == 33) b bs (doubled-length bs)

-- ---- an element, whatever follows it

not_stopped : {k : Next} {n m : ℕ} {t text : List ℕ} {ended : Bool} {b : Parts} {A : Type 0} → (k ≡ next.Element → ⊥) → stopped k n t ≡ element_answer m text ended b → A
not_stopped other is = absurd (other (ap (λ (a : Answer). a.kind) is))

last_by : (ended : Bool) (n m : ℕ) (rest text : List ℕ) (e : Bool) (b : Parts) (long white : Bool) → (if long then stopped next.TooLong n (take max_text rest) else (if not ended then stopped next.InputTooLong n rest else (if white then stopped next.End n [] else stopped next.Unfinished n rest))) ≡ element_answer m text e b → ⊥
last_by ended n m rest text e b true white is = not_stopped (λ k. cc) is
last_by false n m rest text e b false white is = not_stopped (λ k. cc) is
last_by true n m rest text e b false true is = not_stopped (λ k. cc) is
last_by true n m rest text e b false false is = not_stopped (λ k. cc) is

-- no answer is an element where no text is complete
no_last : (ended : Bool) (n m : ℕ) (rest text : List ℕ) (e : Bool) (b : Parts) → last_answer ended n rest ≡ element_answer m text e b → ⊥
no_last ended n m rest text e b is = last_by ended n m rest text e b (ltb max_text (length rest)) (is_white rest) is

joined_by : (ended : Bool) (n m : ℕ) (t : List ℕ) (texts : List (List ℕ)) (rest text : List ℕ) (e : Bool) (b : Parts) (long white : Bool)
    → (if long then stopped next.TooLong n (take max_text t) else (if white then answer_for ended n texts rest else element_answer n t ended (record { texts = texts; rest = rest }))) ≡ element_answer m text e b
    → (answer_for ended n texts rest ≡ element_answer m text e b → length text + 1 + length (joined b.texts b.rest) ≤ length (joined texts rest))
    → length text + 1 + length (joined b.texts b.rest) ≤ length (joined (t ∷ texts) rest)
joined_by ended n m t texts rest text e b true white is further = not_stopped (λ k. cc) is
joined_by ended n m t texts rest text e b false true is further = omega (arith, further is, length-append (doubled t) (33 ∷ joined texts rest))
joined_by ended n m t texts rest text e b false false is further =
    let same : t ≡ text = ap (λ (a : Answer). a.text) is in
    let behind : length (joined texts rest) ≡ length (joined b.texts b.rest) = ap (λ (a : Answer). length (joined a.behind.texts a.behind.rest)) is in
    omega (arith, ap length same, behind, doubled-length t, length-append (doubled t) (33 ∷ joined texts rest))

-- an element's text and what stands behind it are all of the bytes
element_joined : (ended : Bool) (n m : ℕ) (texts : List (List ℕ)) (rest text : List ℕ) (e : Bool) (b : Parts) → answer_for ended n texts rest ≡ element_answer m text e b → length text + 1 + length (joined b.texts b.rest) ≤ length (joined texts rest)
element_joined ended n m [] rest text e b is = absurd (no_last ended n m rest text e b is)
element_joined ended n m (t ∷ texts) rest text e b is =
    joined_by ended n m t texts rest text e b (ltb max_text (length t)) (is_white t) is (element_joined ended n m texts rest text e b)

pub parts-joined : (bytes : List ℕ) → bytes ≡ joined (parts_of true bytes).texts (parts_of true bytes).rest
parts-joined bytes = ((Split-parts_of bytes (parts_of true bytes).texts (parts_of true bytes).rest).1 refl).whole

-- ---- an element at the end of the input

onto-rest : (b : ℕ) (texts : List (List ℕ)) (rest : List ℕ) → length (onto_first (b ∷ []) texts rest).rest ≤ length rest + 1
onto-rest b [] rest = omega arith
onto-rest b (t ∷ texts) rest = omega arith

rest_by : (c : Bool) (x y : Parts) (n : ℕ) → length x.rest ≤ n → length y.rest ≤ n → length (if c then x else y).rest ≤ n
rest_by true x y n here there = here
rest_by false x y n here there = there

rest-length : (pending : Bool) (bytes : List ℕ) → length (parts_behind false pending bytes).rest ≤ length bytes
rest-length false [] = omega arith
rest-length true [] = omega arith
rest-length false (b ∷ bs) = rest_by (b == 33) (parts_behind false true bs) (onto (b ∷ []) (parts_behind false false bs)) (length (b ∷ bs))
    (omega (arith, rest-length true bs)) (omega (arith, rest-length false bs, onto-rest b (parts_behind false false bs).texts (parts_behind false false bs).rest))
rest-length true (b ∷ bs) = rest_by (b == 33) (onto (33 ∷ []) (parts_behind false false bs)) (with_text [] (onto (b ∷ []) (parts_behind false false bs))) (length (b ∷ bs))
    (omega (arith, rest-length false bs, onto-rest 33 (parts_behind false false bs).texts (parts_behind false false bs).rest)) (omega (arith, rest-length false bs, onto-rest b (parts_behind false false bs).texts (parts_behind false false bs).rest))

kind_of : {a b : Answer} → a ≡ b → a.kind ≡ b.kind
kind_of is = ap (λ (a : Answer). a.kind) is

-- an input that is too long leaves the rest
long_last : (n m : ℕ) (rest text : List ℕ) (long : Bool) → (if long then stopped next.TooLong n (take max_text rest) else stopped next.InputTooLong n rest) ≡ stopped next.InputTooLong m text → text ≡ rest
long_last n m rest text true is = absurd (let k : next.TooLong ≡ next.InputTooLong = kind_of is in cc)
long_last n m rest text false is = sym (ap (λ (a : Answer). a.text) is)

long_by : (n m : ℕ) (t : List ℕ) (texts : List (List ℕ)) (rest text : List ℕ) (long white : Bool)
    → (if long then stopped next.TooLong n (take max_text t) else (if white then answer_for false n texts rest else element_answer n t false (record { texts = texts; rest = rest }))) ≡ stopped next.InputTooLong m text
    → (answer_for false n texts rest ≡ stopped next.InputTooLong m text → text ≡ rest) → text ≡ rest
long_by n m t texts rest text true white is further = absurd (let k : next.TooLong ≡ next.InputTooLong = kind_of is in cc)
long_by n m t texts rest text false true is further = further is
long_by n m t texts rest text false false is further = absurd (let k : next.Element ≡ next.InputTooLong = kind_of is in cc)

long_rest : (n m : ℕ) (texts : List (List ℕ)) (rest text : List ℕ) → answer_for false n texts rest ≡ stopped next.InputTooLong m text → text ≡ rest
long_rest n m [] rest text is = long_last n m rest text (ltb max_text (length rest)) is
long_rest n m (t ∷ texts) rest text is = long_by n m t texts rest text (ltb max_text (length t)) (is_white t) is (long_rest n m texts rest text)

-- ---- what the reader took and judged

-- the bytes of a text, and of what stands behind it, are among those that stood behind the text before and those that came
text_taken : (n : ℕ) (old new : Reader) (got : List ℕ) (now : Option (List ℕ)) → IsBefore n old → Settles next.Element (outlook_over old) got (stopped next.InputTooLong new.number new.text) (told_over next.Element new) new.pending now
    → length new.text + length new.pending ≤ length old.pending + length got
unfolding told_over
text_taken n old new got now begun (inl follows) =
    let before : List ℕ = old.pending ++ (got ++ []) in
    let after : List ℕ = new.pending ++ [] in
    let is : answer_for true n (parts_of true before).texts (parts_of true before).rest ≡ element_answer new.number new.text true (parts_of true after) = sym (begun.over true (got ++ [])) ∙ follows true [] in
    omega (arith, element_joined true n new.number (parts_of true before).texts (parts_of true before).rest new.text true (parts_of true after) is, ap length (parts-joined before), ap length (parts-joined after), length-append old.pending (got ++ []), length-append got [], length-append new.pending [])
text_taken n old new got now begun (inr last) =
    let before : List ℕ = old.pending ++ got in
    let is : answer_for false n (parts_of false before).texts (parts_of false before).rest ≡ stopped next.InputTooLong new.number new.text = sym (begun.over false got) ∙ last.unsettled in
    omega (arith, ap length (long_rest n new.number (parts_of false before).texts (parts_of false before).rest new.text is), rest-length false before, ap length last.judged, length-append old.pending got)

-- what a reader has in hand it took
abbrev pub HoldsTaken : Reader → Type 0
HoldsTaken reader = length reader.pending ≤ reader.taken

pub text_judged : (n : ℕ) (old new : Reader) (before now : Option (List ℕ)) → IsBefore n old → Settled next.Element old before new now → HoldsTaken old → HoldsTaken new × (judged old + length new.text ≤ judged new)
text_judged n old new before now begun settled held =
    let all = text_taken n old new settled.0 now begun settled.2 in
    (omega (arith, all, held, settled.1.count), omega (arith, all, held, settled.1.count))
