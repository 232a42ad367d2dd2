-- What the bytes that were taken settle, from one answer of the reader to the next.
use Rattle.std.proofs.Common.{◌≡◌, ◌⊎◌, inl, inr, ◌+◌, ◌-◌, ◌≤◌, ℕ, Bool, false, List, [], ◌∷◌, ◌++◌, take, length, Option, None, Some, IfSome, refl, ap, sym, ◌∙◌, subst, arith, append_assoc}
use Rattle.std.specs.Option.{option_map}
use Rattle.std.specs.Io.KnownBytes.{prepend_known}
use Rattle.std.proofs.lemmas.List.{append-nil, length-append, take_all}
use Rattle.std.proofs.Math.Seq.{take-nil}
use Rattle.std.proofs.Math.Dec.{leb-zero}
use Rattle.sif_chunks.specs.Split.{Parts, parts_of}
use Rattle.sif_chunks.specs.Reading as chunks
use Rattle.sif_chunks.specs.Reading.{Takes, Reader, outlook, outlook_over, told, tells, told_over, stopped, Settled, max_input}
use Rattle.sif_chunks.specs.Answers.{is_element}
use Rattle.sif_chunks.specs.declared.next.Next.{Next}
use Rattle.sif_chunks.specs.declared.next.Next.TheVariants as next
use Rattle.st_base.specs.declared.faults.Reason.{Reason}
use Rattle.st_base.specs.declared.faults.Reason.TheVariants.{InputTooLong}
use Rattle.sif_elements.specs.declared.progress.Progress.{Progress}
use Rattle.sif_elements.specs.declared.progress.Progress.TheVariants.{Start}
use Rattle.sif_elements.specs.Reading.{Answer, Refuse, Refuses}
use Rattle.sif_elements.specs.Turns.{Turn, Onward, turn_of}
use Rattle.sif_elements.specs.Answered.{Took, LeavesOpen}
use Rattle.sif_elements.proofs.Only.{answers_made}
use Rattle.sif_elements.proofs.Ahead.{behind_turn, by_answer, answer_within, answer_on-answer, IsBefore, new_reader, turn_goes}

-- what is answered of bytes behind which the input ends, or goes on
abbrev pub answer_over : Bool → List ℕ → Answer
answer_over ended bytes = answer_within Start ended 1 (parts_of ended bytes)

-- an answer that is open: the input is refused for its length alone
pub record IsOpen (a : Answer) : Type 0 where
  pub number : ℕ
  pub byte : ℕ
  pub is : a ≡ Refuse number byte InputTooLong

-- the bytes so far leave the reader here, whatever comes behind them
pub record GoesOn (got : List ℕ) (p : Progress) (n : ℕ) (reader : Reader) : Type 0 where
  pub same : (ended : Bool) (more : List ℕ) → answer_over ended (got ++ more) ≡ answer_within p ended n (parts_of ended (reader.pending ++ more))

-- the bytes so far are all of the input, and leave it open whether a text ends
pub record IsSpent (got : List ℕ) (reader : Reader) (now : Option (List ℕ)) : Type 0 where
  pub ended : IfSome now (λ bytes. bytes ≡ [])
  pub judged : reader.pending ≡ []
  pub unsettled : IsOpen (answer_over false got)

-- the bytes that were taken from the first so far, which the source tells
pub record TakenSoFar (file : List ℕ) (now : Option (List ℕ)) (p : Progress) (n : ℕ) (reader : Reader) : Type 0 where
  pub got : List ℕ
  pub front : Some file ≡ prepend_known got now
  pub count : reader.taken ≡ length got
  pub state : GoesOn got p n reader ⊎ IsSpent got reader now

-- the bytes that were taken from a source so far, and how many
pub record Counted (first now : Option (List ℕ)) (reader : Reader) : Type 0 where
  pub got : List ℕ
  pub front : first ≡ prepend_known got now
  pub count : reader.taken ≡ length got

prepend_known-nil : (known : Option (List ℕ)) → known ≡ prepend_known [] known
prepend_known-nil None = refl
prepend_known-nil (Some bytes) = refl

prepend_known-append : (a b : List ℕ) (known : Option (List ℕ)) → prepend_known a (prepend_known b known) ≡ prepend_known (a ++ b) known
prepend_known-append a b None = refl
prepend_known-append a b (Some bytes) = ap Some (sym (append_assoc a b bytes))

pub counted_at_start : (first : Option (List ℕ)) → Counted first first new_reader
counted_at_start first = record { got = []; front = prepend_known-nil first; count = refl }

pub nothing_taken : (first : Option (List ℕ)) → Took first first
nothing_taken first = record { bytes = []; front = prepend_known-nil first; most = omega arith }

pub counted_on : (answer : Next) (old new : Reader) (first before now : Option (List ℕ)) → Settled answer old before new now → Counted first before old → Counted first now new
counted_on answer old new first before now settled so_far = record {
  got = so_far.got ++ settled.0;
  front = so_far.front ∙ ap (prepend_known so_far.got) settled.1.bytes ∙ prepend_known-append so_far.got settled.0 now;
  count = settled.1.count ∙ rw so_far.count (sym (length-append so_far.got settled.0));
}

pub took : (reader : Reader) (first now : Option (List ℕ)) → reader.taken ≤ max_input + 1 → Counted first now reader → Took first now
took reader first now most so_far = record { bytes = so_far.got; front = so_far.front; most = subst (λ (n : ℕ). n ≤ max_input + 1) so_far.count most }

taken_start : (file : List ℕ) → TakenSoFar file (Some file) Start 1 new_reader
taken_start file = record { got = []; front = refl; count = refl; state = inl (record { same = λ ended more. refl }) }

pub taken_at_start : (first : Option (List ℕ)) → IfSome first (λ file. TakenSoFar file first Start 1 new_reader)
taken_at_start None = tt
taken_at_start (Some file) = taken_start file

-- what is to be answered is what stands behind the answer to come
over_by_answer : (p : Progress) (n : ℕ) (reader : Reader) (ended : Bool) (bytes : List ℕ) → IsBefore n reader → answer_within p ended n (parts_of ended (reader.pending ++ bytes)) ≡ by_answer p (outlook_over reader ended bytes)
over_by_answer p n reader ended bytes begun =
    let parts : Parts = parts_of ended (reader.pending ++ bytes) in
    answer_on-answer p ended n parts.texts parts.rest ∙ ap (by_answer p) (sym (begun.over ended bytes))

-- what is answered of the bytes so far and those that come, by what the reader would answer
by_outlook : (got more : List ℕ) (p : Progress) (n : ℕ) (reader : Reader) (ended : Bool) → GoesOn got p n reader → IsBefore n reader → answer_over ended (got ++ more) ≡ by_answer p (outlook_over reader ended more)
by_outlook got more p n reader ended so_far begun = so_far.same ended more ∙ over_by_answer p n reader ended more begun

open_answer : (p : Progress) (text : List ℕ) (n : ℕ) (a : Answer) → a ≡ by_answer p (stopped next.InputTooLong n text) → IsOpen a
open_answer p text n a is = record { number = n; byte = length text; is = is }

-- where nothing is left and nothing is in hand, no element comes
no_element : (n : ℕ) (old new : Reader) (left : List ℕ) → IsBefore n old → old.pending ≡ [] → outlook old [] ≡ told next.Element new left → ⊥
unfolding told tells
no_element n old new left begun judged is =
    let ended : outlook old [] ≡ stopped next.End n [] = begun.next [] ∙ rw (judged, take-nil {A = ℕ} (max_input - old.taken), leb-zero (max_input - old.taken)) refl in
    let kinds : (stopped next.End n []).kind ≡ next.Element = ap (λ (a : chunks.Answer). a.kind) (sym ended ∙ is) in
    cc

no_element_left : (n : ℕ) (old new : Reader) (file got : List ℕ) (now after : Option (List ℕ)) → IsBefore n old → Some file ≡ prepend_known got now → IsSpent got old now → option_map (outlook old) now ≡ option_map (told next.Element new) after → ⊥
no_element_left n old new file got None after begun front spent is = let none : Some file ≡ None = front in cc
no_element_left n old new file got (Some left) None begun front spent is = let none : Some (outlook old left) ≡ None = is in cc
no_element_left n old new file got (Some left) (Some more) begun front spent is =
    let some : Some (outlook old left) ≡ Some (told next.Element new more) = is in
    let none_left : left ≡ [] = spent.ended in
    let same : outlook old left ≡ told next.Element new more = cc in
    no_element n old new more begun spent.judged (rw none_left at same)

-- what comes after an element that goes on
after_got : (p q : Progress) (n : ℕ) (old new : Reader) (file got : List ℕ) (before now : Option (List ℕ)) → IsBefore n old → Some file ≡ prepend_known got before → GoesOn got p n old ⊎ IsSpent got old before → (more : List ℕ)
    → chunks.Settles next.Element (outlook_over old) more (stopped next.InputTooLong new.number new.text) (told_over next.Element new) new.pending now → option_map (outlook old) before ≡ option_map (told next.Element new) now → Onward q ≡ turn_of p next.Element new.number new.text
    → GoesOn (got ++ more) q (new.number + 1) new ⊎ IsSpent (got ++ more) new now
unfolding told_over
after_got p q n old new file got before now begun front (inl goes_on) more (inl follows) answer turns = inl (record {
  same = λ ended rest.
      ap (answer_over ended) (append_assoc got more rest)
      ∙ by_outlook got (more ++ rest) p n old ended goes_on begun
      ∙ ap (by_answer p) (follows ended rest)
      ∙ ap (λ (t : Turn). behind_turn t (λ q. answer_within q ended (new.number + 1) (parts_of ended (new.pending ++ rest)))) (sym turns);
})
after_got p q n old new file got before now begun front (inl goes_on) more (inr last) answer turns = inr (record {
  ended = last.ended;
  judged = last.judged;
  unsettled = open_answer p new.text new.number _ (by_outlook got more p n old false goes_on begun ∙ ap (by_answer p) last.unsettled);
})
after_got p q n old new file got before now begun front (inr spent) more settles answer turns = absurd (no_element_left n old new file got before now begun front spent answer)

taken_element : (p q : Progress) (n : ℕ) (old new : Reader) (file : List ℕ) (before now : Option (List ℕ)) → IsBefore n old → Settled next.Element old before new now → option_map (outlook old) before ≡ option_map (told next.Element new) now → Onward q ≡ turn_of p next.Element new.number new.text → TakenSoFar file before p n old → TakenSoFar file now q (new.number + 1) new
taken_element p q n old new file before now begun settled answer turns so_far = record {
  got = so_far.got ++ settled.0;
  front = so_far.front ∙ ap (prepend_known so_far.got) settled.1.bytes ∙ prepend_known-append so_far.got settled.0 now;
  count = settled.1.count ∙ rw so_far.count (sym (length-append so_far.got settled.0));
  state = after_got p q n old new file so_far.got before now begun so_far.front so_far.state settled.0 settled.2 answer turns;
}

taken_file : (p q : Progress) (n : ℕ) (old new : Reader) (first before now : Option (List ℕ)) → IsBefore n old → Settled next.Element old before new now → option_map (outlook old) before ≡ option_map (told next.Element new) now → Onward q ≡ turn_of p next.Element new.number new.text → IfSome first (λ file. TakenSoFar file before p n old) → IfSome first (λ file. TakenSoFar file now q (new.number + 1) new)
taken_file p q n old new None before now begun settled answer turns so_far = tt
taken_file p q n old new (Some file) before now begun settled answer turns so_far = taken_element p q n old new file before now begun settled answer turns so_far

not_element : {answer : Next} → is_element answer ≡ false → answer ≡ next.Element → ⊥
not_element none is = let k : is_element next.Element ≡ false = rw is at none in cc

-- what was taken, behind a turn that goes on
pub taken_on : (p q : Progress) (n : ℕ) (old new : Reader) (answer : Next) (first before now : Option (List ℕ)) → IsBefore n old → Settled answer old before new now → option_map (outlook old) before ≡ option_map (told answer new) now → Onward q ≡ turn_of p answer new.number new.text → IfSome first (λ file. TakenSoFar file before p n old) → IfSome first (λ file. TakenSoFar file now q (new.number + 1) new)
taken_on p q n old new next.Element first before now begun settled same turns so_far = taken_file p q n old new first before now begun settled same turns so_far
taken_on p q n old new next.End first before now begun settled same turns so_far = absurd (not_element refl (turn_goes p q next.End new.number new.text turns))
taken_on p q n old new next.Unfinished first before now begun settled same turns so_far = absurd (not_element refl (turn_goes p q next.Unfinished new.number new.text turns))
taken_on p q n old new next.TooLong first before now begun settled same turns so_far = absurd (not_element refl (turn_goes p q next.TooLong new.number new.text turns))
taken_on p q n old new next.InputTooLong first before now begun settled same turns so_far = absurd (not_element refl (turn_goes p q next.InputTooLong new.number new.text turns))
taken_on p q n old new next.ReadFault first before now begun settled same turns so_far = absurd (not_element refl (turn_goes p q next.ReadFault new.number new.text turns))

-- nothing more was taken where nothing was left
nothing_more : (file got more : List ℕ) (before now : Option (List ℕ)) → Some file ≡ prepend_known got before → IfSome before (λ left. left ≡ []) → before ≡ prepend_known more now → more ≡ []
nothing_more file got more None now front ended is = let none : Some file ≡ None = front in cc
nothing_more file got more (Some left) None front ended is = let none : Some left ≡ None = is in cc
nothing_more file got [] (Some left) (Some rest) front ended is = refl
nothing_more file got (b ∷ bs) (Some left) (Some rest) front ended is =
    let same : Some left ≡ Some (b ∷ (bs ++ rest)) = is in
    let none : left ≡ [] = ended in
    cc

still_open : (p : Progress) (n : ℕ) (old new : Reader) (file got : List ℕ) (before now : Option (List ℕ)) → IsBefore n old → Some file ≡ prepend_known got before → GoesOn got p n old ⊎ IsSpent got old before → (more : List ℕ) → before ≡ prepend_known more now
    → chunks.Settles next.ReadFault (outlook_over old) more (stopped next.InputTooLong new.number new.text) (told_over next.ReadFault new) new.pending now → IsOpen (answer_over false (got ++ more))
still_open p n old new file got before now begun front (inl goes_on) more is settles =
    open_answer p new.text new.number _
    (by_outlook got more p n old false goes_on begun
    ∙ ap (by_answer p) (ap (outlook_over old false) (sym (append-nil more)) ∙ settles.follows false [] ∙ settles.unsettled))
still_open p n old new file got before now begun front (inr spent) more is settles =
    rw (nothing_more file got more before now front spent.ended is, append-nil got) spent.unsettled

pub refuse_why : {n m b c : ℕ} {v w : Reason} → Refuse n b v ≡ Refuse m c w → v ≡ w
refuse_why is = cc

-- bytes that leave the input open, no more than the longest has, settle no refusal
unsettled_open : (taken : List ℕ) → length taken ≤ max_input → IsOpen (answer_over false taken) → (number byte : ℕ) (why : Reason) → Refuses taken false number byte why → ⊥
unsettled_open taken short is_open number byte why refuses =
    let all : take max_input taken ≡ taken = take_all max_input taken short in
    let made : answer_over false (take max_input taken) ≡ Refuse number byte why = answers_made refuses.answers in
    let refused : answer_over false taken ≡ Refuse number byte why = rw all at made in
    let long = refuses.longer refl (refuse_why (sym refused ∙ is_open.is)) in
    omega (arith, long, short)

leaves_open : (p : Progress) (n : ℕ) (old new : Reader) (file : List ℕ) (before now : Option (List ℕ)) → IsBefore n old → Settled next.ReadFault old before new now → new.taken ≤ max_input → TakenSoFar file before p n old → LeavesOpen file now
leaves_open p n old new file before now begun settled short so_far =
    let count : new.taken ≡ length (so_far.got ++ settled.0) = settled.1.count ∙ rw so_far.count (sym (length-append so_far.got settled.0)) in
    record {
      taken = so_far.got ++ settled.0;
      front = so_far.front ∙ ap (prepend_known so_far.got) settled.1.bytes ∙ prepend_known-append so_far.got settled.0 now;
      unsettled = unsettled_open (so_far.got ++ settled.0) (omega arith) (still_open p n old new file so_far.got before now begun so_far.front so_far.state settled.0 settled.1.bytes settled.2);
    }

-- a read fault leaves the input open
pub fault_leaves_open : (p : Progress) (n : ℕ) (old new : Reader) (first before now : Option (List ℕ)) → IsBefore n old → Settled next.ReadFault old before new now → new.taken ≤ max_input → IfSome first (λ file. TakenSoFar file before p n old) → IfSome first (λ file. LeavesOpen file now)
fault_leaves_open p n old new None before now begun settled short so_far = tt
fault_leaves_open p n old new (Some file) before now begun settled short so_far = leaves_open p n old new file before now begun settled short so_far

pub counted_takes : (reader : Reader) (first now : Option (List ℕ)) → Counted first now reader → (got : List ℕ) × Takes 0 reader.taken first now got
counted_takes reader first now so_far = (so_far.got, record { bytes = so_far.front; count = omega (arith, so_far.count) })
