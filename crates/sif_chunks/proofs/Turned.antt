-- Each way out of a turn, over plain states.
use Rattle.std.proofs.Common.{◌≡◌, ◌+◌, ◌-◌, ◌<◌, ◌≤◌, ℕ, true, false, List, [], ◌∷◌, ◌++◌, drop, length, Option, None, Some, refl, ap, sym, ◌∙◌, arith, eqb, append_assoc, inl}
use Rattle.std.specs.Option.{option_map}
use Rattle.std.specs.Io.KnownBytes.{prepend_known}
use Rattle.std.proofs.lemmas.List.{length-append, length-drop}
use Rattle.sif_chunks.specs.Step.{Steps, IsSpent}
use Rattle.sif_chunks.specs.declared.step.Step.TheVariants.{Doubled, Separator, TooLong as TooLongStep, More}
use Rattle.sif_chunks.specs.Reading.{answer_at, tells, ahead, is_ended, stopped, is_white, max_text, max_input}
use Rattle.sif_chunks.specs.Turn.{Moves, Gives, Ends, progress}
use Rattle.sif_chunks.specs.Window.{Held, Gains}
use Rattle.sif_chunks.specs.declared.next.Next.TheVariants.{Element, End, Unfinished, TooLong, InputTooLong, ReadFault}
use Rattle.sif_chunks.proofs.Ahead.{goes_on, cut-white, cut-element, goes_on-too_long, ended-text, ended-element, spent-white, spent-open, spent-bang}
use Rattle.sif_chunks.proofs.Moves.{takes_none, gives_at, at_end, tells_at_end}

-- the bytes in hand without the first of them
abbrev pub passed : Held → ℕ → Held
passed held count = record { pending = drop count held.pending; taken = held.taken }

pub after_doubled : (text new : List ℕ) (old : Held) (count : ℕ) (left : Option (List ℕ)) → old.taken ≤ max_input → Steps text old.pending count Doubled new → Moves text old left new (passed old count) left []
after_doubled text new old count left input steps = record {
  takes = takes_none old.taken left;
  input = input;
  same = λ number ended more. goes_on number count text old.pending new ended more steps.cases.0;
}

pub after_white : (text new : List ℕ) (old : Held) (count : ℕ) (left : Option (List ℕ)) → old.taken ≤ max_input → Steps text old.pending count Separator new → is_white new ≡ true → Moves text old left [] (passed old count) left []
after_white text new old count left input steps white = record {
  takes = takes_none old.taken left;
  input = input;
  same = λ number ended more. cut-white number count text old.pending new ended more steps.cases.0 steps.short white;
}

pub after_more : (text new : List ℕ) (old : Held) (count : ℕ) (left : Option (List ℕ)) → old.taken ≤ max_input → Steps text old.pending count More new → Moves text old left new (passed old count) left []
after_more text new old count left input steps = record {
  takes = takes_none old.taken left;
  input = input;
  same = λ number ended more. goes_on number count text old.pending new ended more steps.cases.0;
}

pub after_element : (text new : List ℕ) (old : Held) (count : ℕ) (left : Option (List ℕ)) → old.taken ≤ max_input → Steps text old.pending count Separator new → is_white new ≡ false → Gives Element text old left new (passed old count) left
after_element text new old count left input steps white = record {
  same = λ number. gives_at Element number text new old (passed old count) left left [] (takes_none old.taken left) input (λ ended more. cut-element number count text old.pending new ended more steps.cases.0 steps.short white);
  settled = ([], takes_none old.taken left, λ number. inl (λ ended more. cut-element number count text old.pending new ended more steps.cases.0 steps.short white));
}

pub after_too_long : (text new : List ℕ) (old : Held) (count : ℕ) (left : Option (List ℕ)) → old.taken ≤ max_input → Steps text old.pending count TooLongStep new → Gives TooLong text old left new (passed old count) left
after_too_long text new old count left input steps = record {
  same = λ number. gives_at TooLong number text new old (passed old count) left left [] (takes_none old.taken left) input (λ ended more. goes_on-too_long number count text old.pending new ended more steps.cases.0 steps.cases.1 steps.cases.2);
  settled = ([], takes_none old.taken left, λ number. tt);
}

-- bytes came
pub after_bytes : (text : List ℕ) (old new : Held) (left now : Option (List ℕ)) (got : List ℕ) → new.taken ≤ max_input → Gains old left new now got → Moves text old left text new now got
after_bytes text old new left now got input gains = record {
  takes = record { bytes = gains.bytes; count = gains.taken };
  input = input;
  same = λ number ended more. rw gains.pending (ap (λ (xs : List ℕ). ahead number text [] ended xs) (sym (append_assoc old.pending got more)));
}

-- the longest input was taken, and more came
not_ended : (got bytes : List ℕ) (taken : ℕ) → taken ≡ max_input → 0 < length got → is_ended taken (got ++ bytes) ≡ false
not_ended got bytes taken full some =
    let more : 0 < length (got ++ bytes) = omega (arith, length-append got bytes) in
    grind arith

beyond : (number taken : ℕ) (text pending got bytes : List ℕ) → taken ≡ max_input → 0 < length got → length text ≤ max_text → IsSpent pending → answer_at number text pending taken (got ++ bytes) ≡ stopped InputTooLong number text
unfolding answer_at
beyond number taken text pending got bytes full some short spent =
    let none : max_input - taken ≡ 0 = omega arith in
    rw (not_ended got bytes taken full some, none) (spent-open number text pending spent short)

beyond_left : (number : ℕ) (text pending pending' got : List ℕ) (taken taken' : ℕ) (now : Option (List ℕ)) → taken ≡ max_input → 0 < length got → length text ≤ max_text → IsSpent pending → option_map (answer_at number text pending taken) (prepend_known got now) ≡ option_map (tells InputTooLong number text pending' taken') now
unfolding tells
beyond_left number text pending pending' got taken taken' None full some short spent = refl
beyond_left number text pending pending' got taken taken' (Some bytes) full some short spent = ap Some (beyond number taken text pending got bytes full some short spent)

pub after_beyond : (text : List ℕ) (old new : Held) (left now : Option (List ℕ)) (got : List ℕ) → old.taken ≡ max_input → length text ≤ max_text → IsSpent old.pending → Gains old left new now got → Gives InputTooLong text old left text new now
after_beyond text old new left now got full short spent gains = record {
  same = λ number. rw gains.bytes (beyond_left number text old.pending new.pending got old.taken new.taken now full gains.some short spent);
  settled = (got, record { bytes = gains.bytes; count = gains.taken }, λ number. tt);
}

-- nothing came, and nothing is lost
pub after_fault : (text : List ℕ) (old new : Held) (left now : Option (List ℕ)) → new ≡ old → now ≡ left → length text ≤ max_text → IsSpent old.pending → Gives ReadFault text old left text new now
unfolding answer_at tells
after_fault text old new left now same same_left short spent = rw (same, same_left) record {
  same = λ number. refl;
  settled = ([], takes_none old.taken left, λ number. record { follows = λ ended more. refl; unsettled = spent-open number text old.pending spent short });
}

-- less is left to do
pub further : (old : Held) (count : ℕ) → length old.pending ≤ old.taken → count ≤ length old.pending → 0 < count → progress old < progress (passed old count)
further old count counted within some = omega (arith, length-drop count old.pending)

pub further_bytes : (old new : Held) (left now : Option (List ℕ)) (count : ℕ) (got : List ℕ) → length old.pending ≤ old.taken → count ≤ length old.pending → Gains (passed old count) left new now got → progress old < progress new
further_bytes old new left now count got counted within gains =
    let size : length new.pending ≡ length (drop count old.pending) + length got = rw gains.pending (length-append (drop count old.pending) got) in
    omega (arith, length-drop count old.pending, gains.some, gains.taken)

-- the input ends
pub ends-white : (text : List ℕ) (old : Held) (new : List ℕ) → new ≡ [] → IsSpent old.pending → length text ≤ max_text → is_white text ≡ true → Ends End text old new old
ends-white text old new empty spent short white = rw empty record {
  taken = refl;
  judged = omega arith;
  same = λ number. at_end number text old.pending old.taken ∙ spent-white number text old.pending spent short white ∙ sym (tells_at_end End number [] old.pending old.taken);
  kind = tt;
}

pub ends-unfinished : (text : List ℕ) (old : Held) → old.pending ≡ [] → length text ≤ max_text → is_white text ≡ false → Ends Unfinished text old text old
ends-unfinished text old none short white = record {
  taken = refl;
  judged = omega arith;
  same = λ number. at_end number text old.pending old.taken ∙ rw none (ended-text number text short white) ∙ sym (tells_at_end Unfinished number text old.pending old.taken);
  kind = tt;
}

pub ends-element : (text : List ℕ) (old : Held) → IsSpent old.pending → 0 < length old.pending → length text ≤ max_text → is_white text ≡ false → Ends Element text old text (passed old 1)
ends-element text old spent some short white =
    let bang : old.pending ≡ 33 ∷ [] = spent-bang old.pending spent some in
    record {
      taken = refl;
      judged = omega (arith, length-drop 1 old.pending);
      same = λ number. at_end number text old.pending old.taken ∙ rw bang (ended-element number text short white) ∙ sym (tells_at_end Element number text (drop 1 old.pending) old.taken);
      kind = (some, rw bang refl, λ number. spent-open number text old.pending spent short);
    }

pub none_left : (pending : List ℕ) → eqb (length pending) 0 ≡ true → pending ≡ []
none_left [] is = refl
none_left (b ∷ bs) is = absurd (grind arith)

pub some_left : (pending : List ℕ) → eqb (length pending) 0 ≡ false → 0 < length pending
some_left [] is = absurd (grind arith)
some_left (b ∷ bs) is = omega arith
