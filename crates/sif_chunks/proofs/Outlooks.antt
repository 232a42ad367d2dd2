-- What a reader answers next, by what it keeps.
use Rattle.std.proofs.Common.{◌≡◌, ◌+◌, ◌++◌, ℕ, Bool, true, false, List, [], Option, None, Some, refl, ap, ◌∙◌, inl, inr}
use Rattle.std.specs.Option.{option_map}
use Rattle.sif_chunks.specs.Answers.{next_of}
use Rattle.sif_chunks.specs.Reading.{Reader, Answer, answer_at, tells, ahead, ahead_of, stopped, outlook, told, outlook_over, told_over, Settles, Settled}
use Rattle.sif_chunks.specs.Turn.{Gives}
use Rattle.sif_chunks.specs.Window.{Held}
use Rattle.sif_chunks.specs.declared.next.Next.{Next}
use Rattle.sif_chunks.specs.declared.next.Next.TheVariants.{Element, End, Unfinished, TooLong, InputTooLong, ReadFault}
use Rattle.sif_chunks.specs.declared.next.Stop.{Stop}
use Rattle.sif_chunks.specs.declared.next.Stop.TheVariants as stops
use Rattle.sif_chunks.proofs.Moves.{takes_none}

-- a function of what is left, where the source tells it
option_map-same : (f h : List ℕ → Answer) (left : Option (List ℕ)) → ((bytes : List ℕ) → f bytes ≡ h bytes) → option_map f left ≡ option_map h left
option_map-same f h None same = refl
option_map-same f h (Some bytes) same = ap Some (same bytes)

stopped-told : (stop : Stop) (reader : Reader) (left : List ℕ) → stopped (next_of stop) reader.number reader.text ≡ told (next_of stop) reader left
unfolding told tells
stopped-told stops.End reader left = refl
stopped-told stops.Unfinished reader left = refl
stopped-told stops.TooLong reader left = refl
stopped-told stops.InputTooLong reader left = refl

outlook-stopped : (reader : Reader) (stop : Stop) (left : List ℕ) → reader.stop ≡ Some stop → outlook reader left ≡ stopped (next_of stop) reader.number reader.text
unfolding outlook
outlook-stopped reader stop left e = rw e refl

-- an answer is repeated
pub repeated : (reader : Reader) (stop : Stop) (answer : Next) (left : Option (List ℕ)) → reader.stop ≡ Some stop → answer ≡ next_of stop → option_map (outlook reader) left ≡ option_map (told answer reader) left
repeated reader stop answer left e is =
    rw is (option_map-same _ _ left (λ bytes. outlook-stopped reader stop bytes e ∙ stopped-told stop reader bytes))

stop_settles : (stop : Stop) (f h : Bool → List ℕ → Answer) (open_end : Answer) (pending : List ℕ) (left : Option (List ℕ)) → Settles (next_of stop) f [] open_end h pending left
stop_settles stops.End f h open_end pending left = tt
stop_settles stops.Unfinished f h open_end pending left = tt
stop_settles stops.TooLong f h open_end pending left = tt
stop_settles stops.InputTooLong f h open_end pending left = tt

pub repeated_settled : (reader : Reader) (stop : Stop) (answer : Next) (left : Option (List ℕ)) → answer ≡ next_of stop → Settled answer reader left reader left
repeated_settled reader stop answer left is =
    rw is ([], takes_none reader.taken left, stop_settles stop (outlook_over reader) (told_over (next_of stop) reader) (stopped InputTooLong reader.number reader.text) reader.pending left)

pub outlook-given : (reader : Reader) → reader.stop ≡ None → reader.is_given ≡ true → (left : List ℕ) → outlook reader left ≡ answer_at (reader.number + 1) [] reader.pending reader.taken left
unfolding outlook
outlook-given reader none given left = rw (none, given) refl

pub outlook-begun : (reader : Reader) → reader.stop ≡ None → reader.is_given ≡ false → (left : List ℕ) → outlook reader left ≡ answer_at reader.number reader.text reader.pending reader.taken left
unfolding outlook
outlook-begun reader none given left = rw (none, given) refl

pub over-given : (reader : Reader) → reader.stop ≡ None → reader.is_given ≡ true → (ended : Bool) (bytes : List ℕ) → outlook_over reader ended bytes ≡ ahead (reader.number + 1) [] reader.pending ended bytes
unfolding outlook_over
over-given reader none given ended bytes = rw (none, given) refl

pub over-begun : (reader : Reader) → reader.stop ≡ None → reader.is_given ≡ false → (ended : Bool) (bytes : List ℕ) → outlook_over reader ended bytes ≡ ahead reader.number reader.text reader.pending ended bytes
unfolding outlook_over
over-begun reader none given ended bytes = rw (none, given) refl

abbrev held_of : Reader → Held
held_of reader = record { pending = reader.pending; taken = reader.taken }

-- the answer that was given
pub answered : (answer : Next) (text : List ℕ) (old new : Reader) (left now : Option (List ℕ)) → ((bytes : List ℕ) → outlook old bytes ≡ answer_at new.number text old.pending old.taken bytes) → Gives answer text (held_of old) left new.text (held_of new) now → option_map (outlook old) left ≡ option_map (told answer new) now
unfolding told
answered answer text old new left now begun gives =
    option_map-same (outlook old) (answer_at new.number text old.pending old.taken) left begun ∙ gives.same new.number

settles_same : (answer : Next) (f h k : Bool → List ℕ → Answer) (open_end : Answer) (pending got : List ℕ) (now : Option (List ℕ)) → ((ended : Bool) (bytes : List ℕ) → f ended bytes ≡ h ended bytes) → Settles answer h got open_end k pending now → Settles answer f got open_end k pending now
settles_same Element f h k open_end pending got now same (inl follows) = inl (λ ended more. same ended (got ++ more) ∙ follows ended more)
settles_same Element f h k open_end pending got now same (inr last) = inr record { ended = last.ended; judged = last.judged; unsettled = same false got ∙ last.unsettled }
settles_same ReadFault f h k open_end pending got now same is_open = record { follows = λ ended more. same ended (got ++ more) ∙ is_open.follows ended more; unsettled = is_open.unsettled }
settles_same End f h k open_end pending got now same settles = tt
settles_same Unfinished f h k open_end pending got now same settles = tt
settles_same TooLong f h k open_end pending got now same settles = tt
settles_same InputTooLong f h k open_end pending got now same settles = tt

pub settled_by : (answer : Next) (text : List ℕ) (old new : Reader) (left now : Option (List ℕ)) → ((ended : Bool) (bytes : List ℕ) → outlook_over old ended bytes ≡ ahead new.number text old.pending ended bytes) → Gives answer text (held_of old) left new.text (held_of new) now → Settled answer old left new now
unfolding told_over
settled_by answer text old new left now begun gives = (
  gives.settled.0,
  gives.settled.1,
  settles_same answer (outlook_over old) (ahead new.number text old.pending) (ahead_of answer new.number new.text new.pending) (stopped InputTooLong new.number new.text) new.pending gives.settled.0 now begun (gives.settled.2 new.number),
)
