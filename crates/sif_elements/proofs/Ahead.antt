-- What is answered of a file, from one answer of the reader to the next.
use Rattle.std.proofs.Common.{◌≡◌, ◌≢◌, ◌+◌, ℕ, Bool, true, false, not, List, [], ◌∷◌, ◌++◌, take, length, Option, None, Some, IfSome, refl, ap, sym, ◌∙◌, subst, arith, ltb, if◌then◌else◌}
use borrow.Author.Tests.{ltb-true}
use Rattle.std.specs.Option.{option_map}
use Rattle.std.proofs.lemmas.List.{length-take}
use Rattle.sif_chunks.specs.Split.{Parts, onto, onto_first, parts_of}
use Rattle.sif_chunks.specs.Reading as chunks
use Rattle.sif_chunks.specs.Reading.{Reader, answer_for, answer_in, answer_at, last_answer, outlook, outlook_over, told, tells, parts_ahead, is_ended, is_white, max_text, max_input}
use Rattle.sif_chunks.specs.declared.next.Next.{Next}
use Rattle.sif_chunks.specs.declared.next.Next.TheVariants as next
use Rattle.st_base.specs.declared.faults.Reason.TheVariants as reason
use Rattle.sif_elements.specs.declared.progress.Progress.{Progress}
use Rattle.st_tree.specs.declared.units.Unit.{Unit}
use Rattle.sif_elements.specs.declared.progress.Progress.TheVariants.{Start, Between, Awaiting}
use Rattle.sif_elements.specs.declared.reading.ReadAnswer.{ReadAnswer}
use Rattle.sif_elements.specs.declared.reading.ReadAnswer.TheVariants as outcome
use Rattle.sif_elements.specs.declared.reading.Turned.TheVariants as turned
use Rattle.sif_elements.specs.Reading.{Answer, Read, Refuse}
use Rattle.sif_elements.specs.Steps.{Step, Goes, Spoilt, step_of, at_rest, at_end, behind_step, answer_on, answer_of}
use Rattle.sif_elements.specs.Turns.{Turn, Onward, Ends, Fails, turn_behind, turn_of, made}
use Rattle.sif_elements.specs.Answered.{said, IfRead}
use Rattle.sif_elements.proofs.Counts.{units_of}

-- what is answered behind a turn
abbrev pub behind_turn : Turn → (Progress → Answer) → Answer
behind_turn (Onward q) later = later q
behind_turn (Ends a) later = a
behind_turn Fails later = Refuse 0 0 reason.Syntax

-- what is answered behind an answer of the reader
abbrev pub by_answer : Progress → chunks.Answer → Answer
by_answer p answer = behind_turn (turn_of p answer.kind answer.number answer.text) (λ q. answer_on q answer.ended (answer.number + 1) answer.behind.texts answer.behind.rest)

-- `cond` under a function, by cases
by_answer-cond : (p : Progress) (b : Bool) (x y : chunks.Answer) (v w : Answer) → (b ≡ true → v ≡ by_answer p x) → (b ≡ false → w ≡ by_answer p y) → (if◌then◌else◌ b v w) ≡ by_answer p (if◌then◌else◌ b x y)
by_answer-cond p true x y v w here there = here refl
by_answer-cond p false x y v w here there = there refl

full : (text : List ℕ) → ltb max_text (length text) ≡ true → length (take max_text text) ≡ max_text
full text long = omega (arith, length-take max_text text, ltb-true max_text (length text) long)

rest-answer : (p : Progress) (ended : Bool) (n : ℕ) (rest : List ℕ) → at_rest p ended n rest ≡ by_answer p (last_answer ended n rest)
rest-answer p ended n rest =
    by_answer-cond p (ltb max_text (length rest)) _ _ _ _
    (λ long. ap (λ (m : ℕ). Refuse n m reason.ElementTooLong) (sym (full rest long)))
    (λ short. by_answer-cond p (not ended) _ _ _ _ (λ more. refl) (λ all. by_answer-cond p (is_white rest) _ _ _ _ (λ white. refl) (λ text. refl)))

step-turn : (n : ℕ) (step : Step) (later : Progress → Answer) → behind_step n step later ≡ behind_turn (turn_behind n step) later
step-turn n (Goes q) later = refl
step-turn n (Spoilt byte why) later = refl

pub answer_on-answer : (p : Progress) (ended : Bool) (n : ℕ) (texts : List (List ℕ)) (rest : List ℕ) → answer_on p ended n texts rest ≡ by_answer p (answer_for ended n texts rest)
answer_on-answer p ended n [] rest = rest-answer p ended n rest
answer_on-answer p ended n (text ∷ texts) rest =
    by_answer-cond p (ltb max_text (length text)) _ _ _ _
    (λ long. ap (λ (m : ℕ). Refuse n m reason.ElementTooLong) (sym (full text long)))
    (λ short. by_answer-cond p (is_white text) _ _ _ _ (λ white. answer_on-answer p ended n texts rest) (λ some. step-turn n (step_of p text) (λ q. answer_on q ended (n + 1) texts rest)))

-- what is answered of parts, where the next element has this number
abbrev pub answer_within : Progress → Bool → ℕ → Parts → Answer
answer_within p ended n parts = answer_on p ended n parts.texts parts.rest

-- what is to be answered, by what a source has left
abbrev pub answer_ahead : Progress → ℕ → Reader → List ℕ → Answer
answer_ahead p n reader left = answer_within p (is_ended reader.taken left) n (parts_ahead reader.pending reader.taken left)

onto_first-nil : (texts : List (List ℕ)) (rest : List ℕ) → onto_first [] texts rest ≡ record { texts = texts; rest = rest }
onto_first-nil [] rest = refl
onto_first-nil (text ∷ texts) rest = refl

onto-nil : (parts : Parts) → onto [] parts ≡ parts
onto-nil parts = onto_first-nil parts.texts parts.rest

-- a reader that goes on with this element
pub record IsBefore (n : ℕ) (reader : Reader) : Type 0 where
  pub live : reader.stop ≡ None
  pub next : (left : List ℕ) → outlook reader left ≡ answer_in (is_ended reader.taken left) n (parts_ahead reader.pending reader.taken left)
  pub over : (ended : Bool) (bytes : List ℕ) → outlook_over reader ended bytes ≡ answer_in ended n (parts_of ended (reader.pending ++ bytes))

-- a reader that has taken nothing
abbrev pub new_reader : Reader
new_reader = record { number = 1; text = []; is_given = false; stop = None; pending = []; taken = 0 }

pub IsBefore-new : IsBefore 1 new_reader
unfolding outlook outlook_over answer_at
IsBefore-new = record {
  live = refl;
  next = λ left. ap (answer_in (is_ended 0 left) 1) (onto-nil (parts_ahead [] 0 left));
  over = λ ended bytes. ap (answer_in ended 1) (onto-nil (parts_of ended ([] ++ bytes)));
}

pub IsBefore-given : (reader : Reader) → reader.stop ≡ None → reader.is_given ≡ true → IsBefore (reader.number + 1) reader
unfolding outlook outlook_over answer_at
IsBefore-given reader live given = record {
  live = live;
  next = λ left. rw (live, given) (ap (answer_in (is_ended reader.taken left) (reader.number + 1)) (onto-nil (parts_ahead reader.pending reader.taken left)));
  over = λ ended bytes. rw (live, given) (ap (answer_in ended (reader.number + 1)) (onto-nil (parts_of ended (reader.pending ++ bytes))));
}

option_map-same : (f h : List ℕ → Answer) (left : Option (List ℕ)) → ((bytes : List ℕ) → f bytes ≡ h bytes) → option_map f left ≡ option_map h left
option_map-same f h None same = refl
option_map-same f h (Some bytes) same = ap Some (same bytes)

option_map-option_map : (f : chunks.Answer → Answer) (h : List ℕ → chunks.Answer) (left : Option (List ℕ)) → option_map (λ (bytes : List ℕ). f (h bytes)) left ≡ option_map f (option_map h left)
option_map-option_map f h None = refl
option_map-option_map f h (Some bytes) = refl

-- what is to be answered of the file is this, by what is left
abbrev pub Follows : Option (List ℕ) → (List ℕ → Answer) → Option (List ℕ) → Type 0
Follows first ahead left = option_map (answer_of true) first ≡ option_map ahead left

pub at_start : (left : Option (List ℕ)) → Follows left (answer_ahead Start 1 new_reader) left
unfolding answer_of
at_start left = option_map-same _ _ left (λ bytes. refl)

-- what is to be answered is what stands behind the answer to come
ahead_by_answer : (p : Progress) (n : ℕ) (reader : Reader) (left : List ℕ) → IsBefore n reader → answer_ahead p n reader left ≡ by_answer p (outlook reader left)
ahead_by_answer p n reader left begun =
    let parts : Parts = parts_ahead reader.pending reader.taken left in
    answer_on-answer p (is_ended reader.taken left) n parts.texts parts.rest ∙ ap (by_answer p) (sym (begun.next left))

-- behind an answer of the reader
pub at_answer : (p : Progress) (n : ℕ) (old new : Reader) (answer : Next) (first before after : Option (List ℕ)) → IsBefore n old → Follows first (answer_ahead p n old) before → option_map (outlook old) before ≡ option_map (told answer new) after → Follows first (λ (left : List ℕ). by_answer p (told answer new left)) after
at_answer p n old new answer first before after begun so_far step =
    so_far
    ∙ option_map-same _ (λ (left : List ℕ). by_answer p (outlook old left)) before (λ left. ahead_by_answer p n old left begun)
    ∙ option_map-option_map (by_answer p) (outlook old) before
    ∙ ap (option_map (by_answer p)) step
    ∙ sym (option_map-option_map (by_answer p) (told answer new) after)

onward_behind : (q : Progress) (n : ℕ) (step : Step) → Onward q ≡ turn_behind n step → step ≡ Goes q
onward_behind q n (Goes r) is = let same : r ≡ q = cc in ap Goes same
onward_behind q n (Spoilt byte why) is = absurd (let k : Onward q ≡ Ends (Refuse n byte why) = is in cc)

fails_behind : (n : ℕ) (step : Step) (answer : Next) → Fails ≡ turn_behind n step → answer ≡ next.ReadFault
fails_behind n (Goes q) answer is = absurd (let k : Fails ≡ Onward q = is in cc)
fails_behind n (Spoilt byte why) answer is = absurd (let k : Fails ≡ Ends (Refuse n byte why) = is in cc)

-- a turn that goes on is that of an element
pub turn_goes : (p q : Progress) (answer : Next) (n : ℕ) (text : List ℕ) → Onward q ≡ turn_of p answer n text → answer ≡ next.Element
turn_goes p q next.Element n text is = refl
turn_goes p q next.End n text is = absurd (let k : Onward q ≡ Ends _ = is in cc)
turn_goes p q next.Unfinished n text is = absurd (let k : Onward q ≡ Ends _ = is in cc)
turn_goes p q next.TooLong n text is = absurd (let k : Onward q ≡ Ends _ = is in cc)
turn_goes p q next.InputTooLong n text is = absurd (let k : Onward q ≡ Ends _ = is in cc)
turn_goes p q next.ReadFault n text is = absurd (let k : Onward q ≡ Fails = is in cc)

pub step_goes : (p q : Progress) (answer : Next) (n : ℕ) (text : List ℕ) → Onward q ≡ turn_of p answer n text → step_of p text ≡ Goes q
step_goes p q answer n text is =
    let element : answer ≡ next.Element = turn_goes p q answer n text is in
    let turns : Onward q ≡ turn_of p next.Element n text = rw element at is in
    onward_behind q n (step_of p text) turns

-- behind an element that goes on
pub after_element : (p q : Progress) (new : Reader) (answer : Next) (first left : Option (List ℕ)) → Onward q ≡ turn_of p answer new.number new.text → Follows first (λ (bytes : List ℕ). by_answer p (told answer new bytes)) left → Follows first (answer_ahead q (new.number + 1) new) left
unfolding told tells
after_element p q new answer first left is so_far =
    let element : answer ≡ next.Element = turn_goes p q answer new.number new.text is in
    let turns : Onward q ≡ turn_of p next.Element new.number new.text = rw element at is in
    let here : Follows first (λ (bytes : List ℕ). by_answer p (told next.Element new bytes)) left = rw element at so_far in
    here ∙ option_map-same _ _ left (λ bytes. ap (λ (t : Turn). behind_turn t (λ q. answer_ahead q (new.number + 1) new bytes)) (sym turns))

-- what is answered is known, whatever is left
at_known : (first after : Option (List ℕ)) (f : List ℕ → Answer) (a : Answer) → Follows first f after → ((left : List ℕ) → f left ≡ a) → IfSome first (λ file. answer_of true file ≡ a)
at_known None after f a same known = tt
at_known (Some file) None f a same known = cc
at_known (Some file) (Some left) f a same known = let here : answer_of true file ≡ f left = cc in here ∙ known left

-- where a turn ends the reading, the answer of the reader is about its number and its text
ends_told : (p : Progress) (answer : Next) (new : Reader) (bytes : List ℕ) (a : Answer) → Ends a ≡ turn_of p answer new.number new.text → by_answer p (told answer new bytes) ≡ a
unfolding told tells
ends_told p next.Element new bytes a is = ap (λ (t : Turn). behind_turn t (λ q. answer_ahead q (new.number + 1) new bytes)) (sym is)
ends_told p next.End new bytes a is = ap (λ (t : Turn). behind_turn t (λ q. a)) (sym is)
ends_told p next.Unfinished new bytes a is = ap (λ (t : Turn). behind_turn t (λ q. a)) (sym is)
ends_told p next.TooLong new bytes a is = ap (λ (t : Turn). behind_turn t (λ q. a)) (sym is)
ends_told p next.InputTooLong new bytes a is = ap (λ (t : Turn). behind_turn t (λ q. a)) (sym is)
ends_told p next.ReadFault new bytes a is = absurd (let k : Ends a ≡ Fails = is in cc)

-- the answer that a turn ends with is the file's
after_end : (p : Progress) (answer : Next) (new : Reader) (a : Answer) (first left : Option (List ℕ)) → Ends a ≡ turn_of p answer new.number new.text → Follows first (λ (bytes : List ℕ). by_answer p (told answer new bytes)) left → IfSome first (λ file. answer_of true file ≡ a)
after_end p answer new a first left is so_far = at_known first left _ a so_far (λ bytes. ends_told p answer new bytes a is)

nothing_known : (first : Option (List ℕ)) → IfSome first (λ file. Prim.Unit {0})
nothing_known None = tt
nothing_known (Some file) = tt

pub answered : (p : Progress) (answer : Next) (result : ReadAnswer) (new : Reader) (first left : Option (List ℕ)) → IfSome (made (turned.Ends result)) (λ turn. turn ≡ turn_of p answer new.number new.text) → Follows first (λ (bytes : List ℕ). by_answer p (told answer new bytes)) left → IfSome first (λ file. IfSome (said result) (λ a. answer_of true file ≡ a))
answered p answer (outcome.Read d) new first left is so_far = after_end p answer new (Read d.units) first left is so_far
answered p answer (outcome.Refused place why) new first left is so_far = after_end p answer new (Refuse place.element place.byte why) first left is so_far
answered p answer outcome.ReadFault new first left is so_far = nothing_known first
answered p answer outcome.OutOfMemory new first left is so_far = nothing_known first

-- a read fault is the reader's
fails_by : (p : Progress) (answer : Next) (n : ℕ) (text : List ℕ) → Fails ≡ turn_of p answer n text → answer ≡ next.ReadFault
fails_by p next.Element n text is = fails_behind n (step_of p text) next.Element is
fails_by p next.End n text is = absurd (let k : Fails ≡ Ends _ = is in cc)
fails_by p next.Unfinished n text is = absurd (let k : Fails ≡ Ends _ = is in cc)
fails_by p next.TooLong n text is = absurd (let k : Fails ≡ Ends _ = is in cc)
fails_by p next.InputTooLong n text is = absurd (let k : Fails ≡ Ends _ = is in cc)
fails_by p next.ReadFault n text is = refl

pub fault_fails : (p : Progress) (answer : Next) (result : ReadAnswer) (n : ℕ) (text : List ℕ) → IfSome (made (turned.Ends result)) (λ turn. turn ≡ turn_of p answer n text) → result ≡ outcome.ReadFault → answer ≡ next.ReadFault
fault_fails p answer result n text is fault = fails_by p answer n text (rw fault at is)

-- units were read only at the end of the input, between elements
read_behind : (us : List Unit) (n : ℕ) (step : Step) → Ends (Read us) ≡ turn_behind n step → ⊥
read_behind us n (Goes q) is = let k : Ends (Read us) ≡ Onward q = is in cc
read_behind us n (Spoilt byte why) is = let k : Ends (Read us) ≡ Ends (Refuse n byte why) = is in cc

read_end : (us : List Unit) (p : Progress) (n : ℕ) → Ends (Read us) ≡ Ends (at_end p n) → p ≡ Between us
read_end us Start n is = absurd (let k : Ends (Read us) ≡ Ends (Refuse n 0 reason.MissingVersion) = is in cc)
read_end us (Awaiting vs t) n is = absurd (let k : Ends (Read us) ≡ Ends (Refuse n 0 reason.MissingText) = is in cc)
read_end us (Between vs) n is = let k : Ends (Read us) ≡ Ends (Read vs) = is in let same : vs ≡ us = cc in ap Between same

pub read_at_end : (p : Progress) (answer : Next) (us : List Unit) (n : ℕ) (text : List ℕ) → Ends (Read us) ≡ turn_of p answer n text → (answer ≡ next.End) × (p ≡ Between us)
read_at_end p next.Element us n text is = absurd (read_behind us n (step_of p text) is)
read_at_end p next.End us n text is = (refl, read_end us p n is)
read_at_end p next.Unfinished us n text is = absurd (let k : Ends (Read us) ≡ Ends (Refuse _ _ _) = is in cc)
read_at_end p next.TooLong us n text is = absurd (let k : Ends (Read us) ≡ Ends (Refuse _ _ _) = is in cc)
read_at_end p next.InputTooLong us n text is = absurd (let k : Ends (Read us) ≡ Ends (Refuse _ _ _) = is in cc)
read_at_end p next.ReadFault us n text is = absurd (let k : Ends (Read us) ≡ Fails = is in cc)

-- units are read only between elements
pub if_between : (P : List Unit → Type 0) (p : Progress) (answer : Next) (result : ReadAnswer) (n : ℕ) (text : List ℕ) → IfSome (made (turned.Ends result)) (λ turn. turn ≡ turn_of p answer n text) → ((us : List Unit) → p ≡ Between us → P us) → IfRead result P
if_between P p answer (outcome.Read d) n text is holds = holds d.units (read_at_end p answer d.units n text is).1
if_between P p answer (outcome.Refused place why) n text is holds = tt
if_between P p answer outcome.ReadFault n text is holds = tt
if_between P p answer outcome.OutOfMemory n text is holds = tt

-- what holds of the units so far holds of those that were read
pub if_read : (P : List Unit → Type 0) (p : Progress) (answer : Next) (result : ReadAnswer) (n : ℕ) (text : List ℕ) → IfSome (made (turned.Ends result)) (λ turn. turn ≡ turn_of p answer n text) → P (units_of p) → IfRead result P
if_read P p answer (outcome.Read d) n text is holds = subst (λ (q : Progress). P (units_of q)) (read_at_end p answer d.units n text is).1 holds
if_read P p answer (outcome.Refused place why) n text is holds = tt
if_read P p answer outcome.ReadFault n text is holds = tt
if_read P p answer outcome.OutOfMemory n text is holds = tt

-- what holds at the end of the input holds where units were read
pub if_ended : (A : Type 0) (p : Progress) (answer : Next) (result : ReadAnswer) (n : ℕ) (text : List ℕ) → IfSome (made (turned.Ends result)) (λ turn. turn ≡ turn_of p answer n text) → (answer ≡ next.End → A) → IfRead result (λ units. A)
if_ended A p answer (outcome.Read d) n text is holds = holds (read_at_end p answer d.units n text is).0
if_ended A p answer (outcome.Refused place why) n text is holds = tt
if_ended A p answer outcome.ReadFault n text is holds = tt
if_ended A p answer outcome.OutOfMemory n text is holds = tt

ends_same : {a b : ReadAnswer} → turned.Ends a ≡ turned.Ends b → a ≡ b
ends_same is = cc

-- the reader didn't fail where no read fault is answered
pub no_fault : (answer : Next) (result : ReadAnswer) → (answer ≡ next.ReadFault → turned.Ends result ≡ turned.Ends outcome.ReadFault) → result ≢ outcome.ReadFault → answer ≢ next.ReadFault
no_fault answer result fault other = λ is. other (ends_same (fault is))
