-- What was told so far, and what is told when small steps go on, end or break off.
use Rattle.std.proofs.Common.{◌≡◌, ℕ, suc, zero, ◌+◌, ◌-◌, ◌<◌, List, [], ◌∷◌, ◌++◌, length, take, slice_get, true, false, Option, Some, None, Result, Ok, Err, OnOk, OnErr, refl, ap, sym, ◌∙◌, arith}
use Rattle.std.specs.Io.KnownBytes.{append_known}
use Rattle.std.proofs.lemmas.List.{append-nil, append_assoc, take_all}
use Rattle.st_base.specs.Streams.{GainsPrefix, Rose, HasCause}
use Rattle.st_base.specs.declared.streams.Failed.{Failed}
use Rattle.st_transcript.proofs.Gaining.{Wrote, wrote_first, wrote_more, wrote_last, wrote_part}
use Rattle.st_code.specs.Texts.{Text}
use Rattle.st_contexts.specs.declared.watch.Event.{Event}
use Rattle.st_machine.specs.Seen.{Seen}
use Rattle.st_machine.specs.declared.running.Progress.{Progress}
use Rattle.st_machine.specs.declared.running.Progress.TheVariants as progress
use Rattle.st_machine.specs.Steps.{advanced, advance_told, advance_written}
use Rattle.st_machine.specs.Running.{listed, all_seen, BreaksOff, SinkSeen, WatchSeen, watch_seen, AllRan, PartRan, stops_writing, stops_telling, Ran, goes_on, left_after, gone, gone_told, gone_written, OnProgress, OnFault}

-- ---- small steps

pub gone_stops : (n left : ℕ) (s : Seen) → goes_on s.mode left ≡ false → gone n left s ≡ s
unfolding gone
gone_stops zero left s e = refl
gone_stops (suc n) left s e = rw e refl

pub told_stops : (n left : ℕ) (s : Seen) → goes_on s.mode left ≡ false → gone_told n left s ≡ []
unfolding gone_told
told_stops zero left s e = refl
told_stops (suc n) left s e = rw e refl

pub gone_ends : (n left : ℕ) (s : Seen) → n ≡ 0 → gone n left s ≡ s
unfolding gone
gone_ends n left s e = rw e refl

pub told_ends : (n left : ℕ) (s : Seen) → n ≡ 0 → gone_told n left s ≡ []
unfolding gone_told
told_ends n left s e = rw e refl

pub gone_steps : (n left : ℕ) (s : Seen) → 0 < n → goes_on s.mode left ≡ true → gone n left s ≡ gone (n - 1) (left_after s.mode left) (advanced s)
unfolding gone
gone_steps zero left s l e = let none : ⊥ = omega (arith, l) in absurd none
gone_steps (suc n) left s l e = let back : suc n - 1 ≡ n = omega arith in rw (e, back) refl

pub told_steps : (n left : ℕ) (s : Seen) → 0 < n → goes_on s.mode left ≡ true → gone_told n left s ≡ listed (advance_told s) ++ gone_told (n - 1) (left_after s.mode left) (advanced s)
unfolding gone_told
told_steps zero left s l e = let none : ⊥ = omega (arith, l) in absurd none
told_steps (suc n) left s l e = let back : suc n - 1 ≡ n = omega arith in rw (e, back) refl

pub goes_further : (n left : ℕ) (s : Seen) (left' : ℕ) (s' end : Seen) → 0 < n → goes_on s.mode left ≡ true → left' ≡ left_after s.mode left → s' ≡ advanced s → gone n left s ≡ end → gone (n - 1) left' s' ≡ end
goes_further n left s left' s' end l e more next h = rw (more, next) (sym (gone_steps n left s l e) ∙ h)

-- ---- what was told

all_none : (seen : Option (List Event)) → seen ≡ all_seen [] seen
all_none None = refl
all_none (Some events) = ap (λ (es : List Event). Some es) (sym (append-nil events))

all_more : (a b : List Event) (seen : Option (List Event)) → all_seen b (all_seen a seen) ≡ all_seen (a ++ b) seen
all_more a b None = refl
all_more a b (Some events) = ap (λ (es : List Event). Some es) (append_assoc events a b)

-- of all these events those before the rest were told
pub record Going (total rest : List Event) (before seen : Option (List Event)) : Type 0 where
  pub prior : List Event
  pub split : total ≡ prior ++ rest
  pub told : seen ≡ all_seen prior before

pub going_first : (total : List Event) (seen : Option (List Event)) → Going total total seen seen
going_first total seen = record { prior = []; split = refl; told = all_none seen }

pub going_more : (total more rest : List Event) (before seen after : Option (List Event)) → Going total (more ++ rest) before seen → after ≡ all_seen more seen → Going total rest before after
going_more total more rest before seen after g e =
    record {
      prior = g.prior ++ more;
      split = g.split ∙ sym (append_assoc g.prior more rest);
      told = e ∙ ap (all_seen more) g.told ∙ all_more g.prior more before;
    }

pub going_last : (total : List Event) (before seen : Option (List Event)) → Going total [] before seen → seen ≡ all_seen total before
going_last total before seen g = g.told ∙ ap (λ es. all_seen es before) (sym (g.split ∙ append-nil g.prior))

take_first : (xs ys : List Event) (n : ℕ) → n < length xs → take n (xs ++ ys) ≡ take n xs
take_first [] ys n l = let none : ⊥ = omega (arith, l) in absurd none
take_first (x ∷ xs) ys zero l = refl
take_first (x ∷ xs) ys (suc n) l = ap (λ es. x ∷ es) (take_first xs ys n (omega (arith, l)))

get_first : (xs ys : List Event) (n : ℕ) → n < length xs → slice_get (xs ++ ys) n ≡ slice_get xs n
get_first [] ys n l = let none : ⊥ = omega (arith, l) in absurd none
get_first (x ∷ xs) ys zero l = refl
get_first (x ∷ xs) ys (suc n) l = get_first xs ys n (omega (arith, l))

take_behind : (xs ys : List Event) (n : ℕ) → take (length xs + n) (xs ++ ys) ≡ xs ++ take n ys
take_behind [] ys n = let same : zero + n ≡ n = omega arith in rw same refl
take_behind (x ∷ xs) ys n = let same : suc (length xs) + n ≡ suc (length xs + n) = omega arith in rw same (ap (λ es. x ∷ es) (take_behind xs ys n))

get_behind : (xs ys : List Event) (n : ℕ) → slice_get (xs ++ ys) (length xs + n) ≡ slice_get ys n
get_behind [] ys n = let same : zero + n ≡ n = omega arith in rw same refl
get_behind (x ∷ xs) ys n = let same : suc (length xs) + n ≡ suc (length xs + n) = omega arith in rw same (get_behind xs ys n)

within_behind : (xs ys zs : List Event) (n : ℕ) → n < length ys → length xs + n < length (xs ++ (ys ++ zs))
within_behind [] [] zs n l = let none : ⊥ = omega (arith, l) in absurd none
within_behind [] (y ∷ ys) zs zero l = omega arith
within_behind [] (y ∷ ys) zs (suc n) l = let less : zero + n < length ([] ++ (ys ++ zs)) = within_behind [] ys zs n (omega (arith, l)) in omega (arith, less)
within_behind (x ∷ xs) ys zs n l = let less : length xs + n < length (xs ++ (ys ++ zs)) = within_behind xs ys zs n l in omega (arith, less)

pub going_breaks : (total more rest : List Event) (before seen after : Option (List Event)) (broken : Option Event) → Going total (more ++ rest) before seen → BreaksOff more seen after broken → BreaksOff total before after broken
going_breaks total more rest before seen after broken g b =
    record {
      count = length g.prior + b.count;
      within = rw g.split (within_behind g.prior more rest b.count b.within);
      told = b.told ∙ ap (all_seen (take b.count more)) g.told ∙ all_more g.prior (take b.count more) before ∙ rw g.split (ap (λ es. all_seen es before) (sym (take_behind g.prior (more ++ rest) b.count ∙ ap (λ es. g.prior ++ es) (take_first more rest b.count b.within))));
      behind = b.behind ∙ rw g.split (sym (get_behind g.prior (more ++ rest) b.count ∙ get_first more rest b.count b.within));
    }

pub on_err : {T E : Type 0} (result : Result T E) (P : Type 0) → P → OnErr result P
on_err (Ok x) P holds = tt
on_err (Err e) P holds = holds

-- ---- a small step that writes and tells

pub writes_stops : (n left : ℕ) (s : Seen) → goes_on s.mode left ≡ false → gone_written n left s ≡ []
unfolding gone_written
writes_stops zero left s e = refl
writes_stops (suc n) left s e = rw e refl

pub writes_ends : (n left : ℕ) (s : Seen) → n ≡ 0 → gone_written n left s ≡ []
unfolding gone_written
writes_ends n left s e = rw e refl

pub writes_steps : (n left : ℕ) (s : Seen) → 0 < n → goes_on s.mode left ≡ true → gone_written n left s ≡ advance_written s ++ gone_written (n - 1) (left_after s.mode left) (advanced s)
unfolding gone_written
writes_steps zero left s l e = let none : ⊥ = omega (arith, l) in absurd none
writes_steps (suc n) left s l e = let back : suc n - 1 ≡ n = omega arith in rw (e, back) refl

-- what a step writes fails
pub fails_to_write : (text : Text) (events : List Event) (k k' : SinkSeen) (w : WatchSeen) → GainsPrefix k.written k'.written text → Rose k.faults k'.faults → w.broken ≡ None → PartRan text events k k' w w
fails_to_write text events k k' w part rose broken = stops_writing part rose [] events refl (all_none w.seen) broken refl

-- what a step writes is written, and its events are told or not
pub ran_by : (text : Text) (events : List Event) (k k' : SinkSeen) (w w' : WatchSeen) (r : Result (Unit {0}) Failed) → k'.written ≡ append_known k.written text → k'.faults ≡ k.faults
    → OnOk r (w'.seen ≡ all_seen events w.seen) → OnOk r (w'.broken ≡ None) → OnErr r (BreaksOff events w.seen w'.seen w'.broken) → HasCause w.faults w'.faults r → Ran text events k k' w w' r
ran_by text events k k' w w' (Ok x) wrote sound told whole part cause = record { wrote = wrote; sound = sound; told = told; whole = whole; awake = cause.kept }
ran_by text events k k' w w' (Err e) wrote sound told whole part cause = stops_telling (length text, wrote ∙ ap (append_known k.written) (sym (take_all (length text) text (omega arith)))) sound part cause.failed

-- ---- many of them

-- so much was written and told, and nothing failed
pub record Running (text rest : Text) (events left : List Event) (k k' : SinkSeen) (w w' : WatchSeen) : Type 0 where
  pub wrote : Wrote text rest k.written k'.written
  pub going : Going events left w.seen w'.seen
  pub sound : k'.faults ≡ k.faults
  pub whole : w'.broken ≡ None
  pub awake : w'.faults ≡ w.faults

module _ (text : Text) (events : List Event) (k k1 k2 : SinkSeen) (w w1 w2 : WatchSeen) where
  pub runs_on : (more rest : Text) (these left : List Event) → Running text (more ++ rest) events (these ++ left) k k1 w w1 → AllRan more these k1 k2 w1 w2 → Running text rest events left k k2 w w2
  runs_on more rest these left r a =
      record {
        wrote = wrote_more text more rest k.written k1.written k2.written r.wrote a.wrote;
        going = going_more events these left w.seen w1.seen w2.seen r.going a.told;
        sound = a.sound ∙ r.sound;
        whole = a.whole;
        awake = a.awake ∙ r.awake;
      }

  pub part_on : (more rest : Text) (these left : List Event) → Running text (more ++ rest) events (these ++ left) k k1 w w1 → PartRan more these k1 k2 w1 w2 → PartRan text events k k2 w w2
  part_on more rest these left r (stops_writing part rose first behind split told broken awake) =
      stops_writing (wrote_part text more rest k.written k1.written k2.written r.wrote part) (rw r.sound at rose) (r.going.prior ++ first) (behind ++ left)
      (r.going.split ∙ ap (λ (es : List Event). r.going.prior ++ (es ++ left)) split ∙ ap (λ (es : List Event). r.going.prior ++ es) (append_assoc first behind left) ∙ sym (append_assoc r.going.prior first (behind ++ left)))
      (told ∙ ap (all_seen first) r.going.told ∙ all_more r.going.prior first w.seen) broken (awake ∙ r.awake)
  part_on more rest these left r (stops_telling part sound breaks rose) =
      stops_telling (wrote_part text more rest k.written k1.written k2.written r.wrote part) (sound ∙ r.sound) (going_breaks events these left w.seen w1.seen w2.seen w2.broken r.going breaks) (rw r.awake at rose)

pub runs_out : (text : Text) (events : List Event) (k k1 : SinkSeen) (w w1 : WatchSeen) → Running text [] events [] k k1 w w1 → AllRan text events k k1 w w1
runs_out text events k k1 w w1 r = record { wrote = wrote_last text k.written k1.written r.wrote; sound = r.sound; told = going_last events w.seen w1.seen r.going; whole = r.whole; awake = r.awake }

pub runs_first : (text : Text) (events : List Event) (k : SinkSeen) (w : WatchSeen) → w.broken ≡ None → Running text text events events k k w w
runs_first text events k w whole = record { wrote = wrote_first text text k.written refl; going = going_first events w.seen; sound = refl; whole = whole; awake = refl }

-- ---- one small step of a loop that writes and tells

module _ (n left : ℕ) (s : Seen) (text : Text) (events : List Event) (k k1 k2 : SinkSeen) (w w1 w2 : WatchSeen) where
  abbrev So : Type 0
  So = Running text (gone_written n left s) events (gone_told n left s) k k1 w w1

  split_so : 0 < n → goes_on s.mode left ≡ true → So → Running text (advance_written s ++ gone_written (n - 1) (left_after s.mode left) (advanced s)) events (listed (advance_told s) ++ gone_told (n - 1) (left_after s.mode left) (advanced s)) k k1 w w1
  split_so l e r = rw (writes_steps n left s l e, told_steps n left s l e) at r

  pub step_runs : (left' : ℕ) (s' : Seen) → 0 < n → goes_on s.mode left ≡ true → left' ≡ left_after s.mode left → s' ≡ advanced s → So → AllRan (advance_written s) (listed (advance_told s)) k1 k2 w1 w2 → Running text (gone_written (n - 1) left' s') events (gone_told (n - 1) left' s') k k2 w w2
  step_runs left' s' l e more next r a =
      rw (more, next) (runs_on text events k k1 k2 w w1 w2 (advance_written s) (gone_written (n - 1) (left_after s.mode left) (advanced s)) (listed (advance_told s)) (gone_told (n - 1) (left_after s.mode left) (advanced s)) (split_so l e r) a)

  pub step_breaks : 0 < n → goes_on s.mode left ≡ true → So → PartRan (advance_written s) (listed (advance_told s)) k1 k2 w1 w2 → PartRan text events k k2 w w2
  step_breaks l e r a =
      part_on text events k k1 k2 w w1 w2 (advance_written s) (gone_written (n - 1) (left_after s.mode left) (advanced s)) (listed (advance_told s)) (gone_told (n - 1) (left_after s.mode left) (advanced s)) (split_so l e r) a

module _ (n left : ℕ) (s : Seen) (text : Text) (events : List Event) (k k1 : SinkSeen) (w w1 : WatchSeen) where
  pub stops_here : goes_on s.mode left ≡ false → Running text (gone_written n left s) events (gone_told n left s) k k1 w w1 → AllRan text events k k1 w w1
  stops_here e r = runs_out text events k k1 w w1 (rw (writes_stops n left s e, told_stops n left s e) at r)

  pub ends_here : n ≡ 0 → Running text (gone_written n left s) events (gone_told n left s) k k1 w w1 → AllRan text events k k1 w w1
  ends_here e r = runs_out text events k k1 w w1 (rw (writes_ends n left s e, told_ends n left s e) at r)

-- ---- a run of whose events nobody is told

pub on_progress : (r : Progress) (P Q : Type 0) → (P → Q) → OnProgress r P → OnProgress r Q
on_progress progress.Running P Q f h = f h
on_progress (progress.Ended e) P Q f h = f h
on_progress progress.WriteFault P Q f h = tt

pub on_fault : (r : Progress) (P Q : Type 0) → (P → Q) → OnFault r P → OnFault r Q
on_fault progress.Running P Q f h = tt
on_fault (progress.Ended e) P Q f h = tt
on_fault progress.WriteFault P Q f h = f h

pub unwatched_part : (text : Text) (events : List Event) (k k' : SinkSeen) → PartRan text events k k' (watch_seen None None 0) (watch_seen None None 0) → GainsPrefix k.written k'.written text
unwatched_part text events k k' (stops_writing part rose first rest split told broken awake) = part
unwatched_part text events k k' (stops_telling part sound breaks rose) = part

pub unwatched_cause : (text : Text) (events : List Event) (k k' : SinkSeen) → PartRan text events k k' (watch_seen None None 0) (watch_seen None None 0) → Rose k.faults k'.faults
unwatched_cause text events k k' (stops_writing part rose first rest split told broken awake) = rose
unwatched_cause text events k k' (stops_telling part sound breaks rose) = absurd (let none : ⊥ = omega (arith, rose) in none)
