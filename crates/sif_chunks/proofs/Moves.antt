-- What a reader does, one move after another, over what the source has left where it tells it.
use Rattle.std.proofs.Common.{◌≡◌, ◌+◌, ◌-◌, ◌≤◌, ℕ, zero, suc, Bool, true, false, List, [], ◌∷◌, ◌++◌, take, length, Option, None, Some, IfSome, refl, ap, ◌∙◌, arith, append_assoc, leb, inl, inr}
use Rattle.std.proofs.Math.Seq.{take-nil}
use Rattle.std.specs.Option.{option_map}
use Rattle.std.specs.Io.KnownBytes.{prepend_known}
use Rattle.std.proofs.lemmas.List.{length-append}
use Rattle.st_base.proofs.Known.{prepend_known-append}
use Rattle.sif_chunks.specs.Reading.{Answer, answer_at, tells, ahead, ahead_of, is_ended, stopped, Takes, Follows, Settles, max_input}
use Rattle.sif_chunks.specs.Turn.{Moves, Gives, Ends}
use Rattle.sif_chunks.specs.Window.{Held}
use Rattle.sif_chunks.proofs.Leaving.{prepend_known-nil}
use Rattle.sif_chunks.specs.declared.next.Next.{Next}
use Rattle.sif_chunks.specs.declared.next.Next.TheVariants.{Element, End, Unfinished, TooLong, InputTooLong, ReadFault}

leb-same : (a b c d : ℕ) → (a ≤ b → c ≤ d) → (c ≤ d → a ≤ b) → leb a b ≡ leb c d
leb-same a b c d there back = grind arith

take-over : (n : ℕ) (got left : List ℕ) → length got ≤ n → take n (got ++ left) ≡ got ++ take (n - length got) left
take-over n [] left low = let same : n - 0 ≡ n = omega arith in rw same refl
take-over zero (b ∷ got) left low = absurd (omega arith)
take-over (suc n) (b ∷ got) left low =
    let same : suc n - suc (length got) ≡ n - length got = omega arith in
    rw same (ap (λ (xs : List ℕ). b ∷ xs) (take-over n got left (omega arith)))

pub takes_none : (count : ℕ) (left : Option (List ℕ)) → Takes count count left left []
takes_none count left = record { bytes = prepend_known-nil left; count = omega arith }

pub takes_takes : (a b c : ℕ) (left mid now : Option (List ℕ)) (first second : List ℕ) → Takes a b left mid first → Takes b c mid now second → Takes a c left now (first ++ second)
takes_takes a b c left mid now first second one two = record {
  bytes = one.bytes ∙ ap (prepend_known first) two.bytes ∙ prepend_known-append now first second;
  count = omega (arith, length-append first second, one.count, two.count);
}

pub follows_follows : (f h k : Bool → List ℕ → Answer) (first second : List ℕ) → Follows f first h → Follows h second k → Follows f (first ++ second) k
follows_follows f h k first second one two =
    λ ended more. ap (f ended) (append_assoc first second more) ∙ one ended (second ++ more) ∙ two ended more

-- what the source has left, cut at the longest input
abbrev pub over_left : (Bool → List ℕ → Answer) → ℕ → List ℕ → Answer
over_left f taken left = f (is_ended taken left) (take (max_input - taken) left)

follows_over : (f h : Bool → List ℕ → Answer) (old : ℕ) (got bytes : List ℕ) → old + length got ≤ max_input → Follows f got h → over_left f old (got ++ bytes) ≡ over_left h (old + length got) bytes
follows_over f h old got bytes within follows =
    let ends : is_ended old (got ++ bytes) ≡ is_ended (old + length got) bytes =
    leb-same (length (got ++ bytes)) (max_input - old) (length bytes) (max_input - (old + length got))
    (λ h. omega (arith, length-append got bytes)) (λ h. omega (arith, length-append got bytes)) in
    let room : max_input - old - length got ≡ max_input - (old + length got) = omega arith in
    let cut : take (max_input - old) (got ++ bytes) ≡ got ++ take (max_input - (old + length got)) bytes =
    rw (← room) (take-over (max_input - old) got bytes (omega arith)) in
    ap (λ (e : Bool). f e (take (max_input - old) (got ++ bytes))) ends
    ∙ ap (f (is_ended (old + length got) bytes)) cut
    ∙ follows (is_ended (old + length got) bytes) (take (max_input - (old + length got)) bytes)

follows_left : (f h : Bool → List ℕ → Answer) (old : ℕ) (got : List ℕ) (now : Option (List ℕ)) → old + length got ≤ max_input → Follows f got h → option_map (over_left f old) (prepend_known got now) ≡ option_map (over_left h (old + length got)) now
follows_left f h old got None within follows = refl
follows_left f h old got (Some bytes) within follows = ap Some (follows_over f h old got bytes within follows)

takes_left : (f h : Bool → List ℕ → Answer) (old new : ℕ) (left now : Option (List ℕ)) (got : List ℕ) → Takes old new left now got → new ≤ max_input → Follows f got h → option_map (over_left f old) left ≡ option_map (over_left h new) now
takes_left f h old new left now got takes within follows =
    rw (takes.bytes, takes.count) (follows_left f h old got now (rw takes.count at within) follows)

-- an answer that the bytes settle, whatever comes behind them
pub gives_at : (answer : Next) (number : ℕ) (text text' : List ℕ) (old new : Held) (left now : Option (List ℕ)) (got : List ℕ) → Takes old.taken new.taken left now got → new.taken ≤ max_input → Follows (ahead number text old.pending) got (ahead_of answer number text' new.pending) → option_map (answer_at number text old.pending old.taken) left ≡ option_map (tells answer number text' new.pending new.taken) now
unfolding answer_at tells
gives_at answer number text text' old new left now got takes within follows =
    takes_left (ahead number text old.pending) (ahead_of answer number text' new.pending) old.taken new.taken left now got takes within follows

pub moves_at : (number : ℕ) (text text' : List ℕ) (old new : Held) (left now : Option (List ℕ)) (got : List ℕ) → Moves text old left text' new now got → option_map (answer_at number text old.pending old.taken) left ≡ option_map (answer_at number text' new.pending new.taken) now
unfolding answer_at
moves_at number text text' old new left now got moves =
    takes_left (ahead number text old.pending) (ahead number text' new.pending) old.taken new.taken left now got moves.takes moves.input (moves.same number)

pub moves_moves : (text text' text'' : List ℕ) (old mid new : Held) (left between now : Option (List ℕ)) (first second : List ℕ) → Moves text old left text' mid between first → Moves text' mid between text'' new now second → Moves text old left text'' new now (first ++ second)
moves_moves text text' text'' old mid new left between now first second one two = record {
  takes = takes_takes old.taken mid.taken new.taken left between now first second one.takes two.takes;
  input = two.input;
  same = λ number. follows_follows (ahead number text old.pending) (ahead number text' mid.pending) (ahead number text'' new.pending) first second (one.same number) (two.same number);
}

settles_after : (answer : Next) (f h k : Bool → List ℕ → Answer) (open_end : Answer) (pending : List ℕ) (now : Option (List ℕ)) (first second : List ℕ) → Follows f first h → Settles answer h second open_end k pending now → Settles answer f (first ++ second) open_end k pending now
settles_after Element f h k open_end pending now first second one (inl two) = inl (follows_follows f h k first second one two)
settles_after Element f h k open_end pending now first second one (inr last) = inr record { ended = last.ended; judged = last.judged; unsettled = one false second ∙ last.unsettled }
settles_after ReadFault f h k open_end pending now first second one two = record { follows = follows_follows f h k first second one two.follows; unsettled = two.unsettled }
settles_after End f h k open_end pending now first second one two = tt
settles_after Unfinished f h k open_end pending now first second one two = tt
settles_after TooLong f h k open_end pending now first second one two = tt
settles_after InputTooLong f h k open_end pending now first second one two = tt

-- an answer behind a move
pub moves_gives : (answer : Next) (text text' text'' : List ℕ) (old mid new : Held) (left between now : Option (List ℕ)) (first : List ℕ) → Moves text old left text' mid between first → Gives answer text' mid between text'' new now → Gives answer text old left text'' new now
moves_gives answer text text' text'' old mid new left between now first one two = record {
  same = λ number. moves_at number text text' old mid left between first one ∙ two.same number;
  settled = (
    first ++ two.settled.0,
    takes_takes old.taken mid.taken new.taken left between now first two.settled.0 one.takes two.settled.1,
    λ number. settles_after answer (ahead number text old.pending) (ahead number text' mid.pending) (ahead_of answer number text'' new.pending) (stopped InputTooLong number text'') new.pending now first two.settled.0 (one.same number) (two.settled.2 number),
  );
}

-- the input ends
ends_now : (taken : ℕ) → is_ended taken [] ≡ true
ends_now taken = grind arith

pub at_end : (number : ℕ) (text pending : List ℕ) (taken : ℕ) → answer_at number text pending taken [] ≡ ahead number text pending true []
unfolding answer_at
at_end number text pending taken = rw (ends_now taken, take-nil {A = ℕ}) refl

pub tells_at_end : (answer : Next) (number : ℕ) (text pending : List ℕ) (taken : ℕ) → tells answer number text pending taken [] ≡ ahead_of answer number text pending true []
unfolding tells
tells_at_end answer number text pending taken = rw (ends_now taken, take-nil {A = ℕ}) refl

option_map-end : (f h : List ℕ → Answer) (left : Option (List ℕ)) → IfSome left (λ bytes. bytes ≡ []) → f [] ≡ h [] → option_map f left ≡ option_map h left
option_map-end f h None none same = refl
option_map-end f h (Some bytes) none same = ap Some (rw none same)

end_settles : (answer : Next) (text text' : List ℕ) (old new : Held) (left : Option (List ℕ)) → IfSome left (λ bytes. bytes ≡ []) → Ends answer text old text' new → (number : ℕ) → Settles answer (ahead number text old.pending) [] (stopped InputTooLong number text') (ahead_of answer number text' new.pending) new.pending left
end_settles Element text text' old new left none ends number = inr record { ended = none; judged = ends.kind.1; unsettled = ends.kind.2 number }
end_settles ReadFault text text' old new left none ends number = absurd ends.kind
end_settles End text text' old new left none ends number = tt
end_settles Unfinished text text' old new left none ends number = tt
end_settles TooLong text text' old new left none ends number = tt
end_settles InputTooLong text text' old new left none ends number = tt

pub end_gives : (answer : Next) (text text' : List ℕ) (old new : Held) (left now : Option (List ℕ)) → now ≡ left → IfSome left (λ bytes. bytes ≡ []) → Ends answer text old text' new → Gives answer text old left text' new now
end_gives answer text text' old new left now same none ends = rw same record {
  same = λ number. option_map-end (answer_at number text old.pending old.taken) (tells answer number text' new.pending new.taken) left none (ends.same number);
  settled = ([], rw ends.taken (takes_none old.taken left), end_settles answer text text' old new left none ends);
}

pub moves_none : (text : List ℕ) (old : Held) (left : Option (List ℕ)) → old.taken ≤ max_input → Moves text old left text old left []
moves_none text old left input = record { takes = takes_none old.taken left; input = input; same = λ number ended more. refl }
