-- Each moment of a machine's run is one of the flat machine's.
use Rattle.std.proofs.Common.{◌≡◌, ℕ, zero, suc, ◌+◌, ◌-◌, ◌*◌, ◌^◌, min, ◌<◌, ◌≤◌, ◌⊎◌, inl, inr, List, [], ◌++◌, refl, ap, sym, ◌∙◌, arith}
use Rattle.std.proofs.lemmas.List.{append-nil, append_assoc}
use Rattle.st_code.specs.Texts.{Text}
use Rattle.st_code.specs.Program.{Program}
use Rattle.st_rules.specs.Events.{Event}
use Rattle.st_rules.specs.State.{State}
use Rattle.st_rules.specs.Runs as rules
use Rattle.st_rules.specs.Machine.{Bodies}
use Rattle.st_rules.specs.Flat.{FlatBody, flat, greatest_width}
use Rattle.st_rules.specs.Turns.{Top, Ended, opened_run, runs_of, top_step, top_iter, instructions}
use Rattle.st_machine.specs.declared.work.Ending.TheVariants as ending
use Rattle.st_machine.specs.declared.work.Mode.{Mode}
use Rattle.st_machine.specs.declared.work.Mode.TheVariants as mode
use Rattle.st_machine.specs.Seen.{Plan, Seen}
use Rattle.st_machine.specs.Plans.{program_in}
use Rattle.st_machine.specs.Steps.{advanced_by, written_by as written_at, advanced, advance_told, advance_written}
use Rattle.st_machine.specs.Initializers.{next_opened}
use Rattle.st_machine.specs.Meaning.{events_of, top_of}
use Rattle.st_machine.specs.Followed.{runs_in}
use Rattle.st_machine_laws.specs.Holding.{Course, Holds, begun_by}
use Rattle.st_machine_laws.specs.Moments.{after, told_by, written_by, runs_by}
use Rattle.st_machine_laws.proofs.Idle.{NotNext, next_goes_on}
use Rattle.st_machine_laws.proofs.Steps.{stays}

-- ---- small steps of the flat machine

module _ (b : Bodies FlatBody) (p : Program) where
  pub steps_add : (j k : ℕ) (t : Top FlatBody) → top_iter b p (j + k) t ≡ top_iter b p k (top_iter b p j t)
  steps_add zero k t =
      let same : 0 + k ≡ k = omega arith in
      ap (λ n. top_iter b p n t) same
  steps_add (suc j) k t =
      let same : suc j + k ≡ suc (j + k) = omega arith in
      ap (λ n. top_iter b p n t) same ∙ steps_add j k (top_step b p t)

  pub counts_add : (j k : ℕ) (t : Top FlatBody) → instructions b p (j + k) t ≡ instructions b p j t + instructions b p k (top_iter b p j t)
  counts_add zero k t =
      let same : 0 + k ≡ k = omega arith in
      let none : instructions b p k t ≡ 0 + instructions b p k t = omega arith in
      ap (λ n. instructions b p n t) same ∙ none
  counts_add (suc j) k t =
      let same : suc j + k ≡ suc (j + k) = omega arith in
      let rest : instructions b p (j + k) (top_step b p t) ≡ instructions b p j (top_step b p t) + instructions b p k (top_iter b p j (top_step b p t)) = counts_add j k (top_step b p t) in
      let all : runs_of b p t + instructions b p (j + k) (top_step b p t) ≡ (runs_of b p t + instructions b p j (top_step b p t)) + instructions b p k (top_iter b p j (top_step b p t)) = omega (arith, rest) in
      ap (λ n. instructions b p n t) same ∙ all

  pub ended_stays : (n : ℕ) (e : rules.Ending) (st : State) → top_iter b p n (Ended e st) ≡ Ended e st
  ended_stays zero e st = refl
  ended_stays (suc n) e st = ended_stays n e st

-- ---- moments

pub after_last : (n : ℕ) (s : Seen) → after n (advanced s) ≡ advanced (after n s)
after_last zero s = refl
after_last (suc n) s = after_last n (advanced s)

-- the run is over
abbrev pub IsOver : Mode → Type 0
IsOver (mode.Ended e) = Unit {0}
IsOver _ = ⊥

-- the opening of an initializer belongs to the small step before it
abbrev pub Moving : Mode → ℕ → Type 0
Moving mode.Next count = Unit {0}
Moving (mode.Ended e) count = Unit {0}
Moving _ count = 0 < count

abbrev pub idle : Mode → ℕ
idle mode.Next = 1
idle _ = 0

-- an ended machine stays as it is
pub over_stays : (n : ℕ) (m : Mode) (s : Seen) → s.mode ≡ m → IsOver m → after n s ≡ s
over_stays zero m s is over = refl
over_stays (suc n) (mode.Ended e) s is over =
    let same : advanced s ≡ s = rw is refl in
    rw same (over_stays n (mode.Ended e) s is over)
over_stays (suc n) mode.Run s is over = absurd over
over_stays (suc n) (mode.Settle o) s is over = absurd over
over_stays (suc n) (mode.Begin w) s is over = absurd over
over_stays (suc n) mode.Next s is over = absurd over

-- and writes nothing
over_writes : (n : ℕ) (m : Mode) (s : Seen) → s.mode ≡ m → IsOver m → written_by n s ≡ []
over_writes zero m s is over = refl
over_writes (suc n) (mode.Ended e) s is over =
    let none : advance_written s ≡ [] = ap (λ m. written_at m s) is in
    let same : advanced s ≡ s = ap (λ m. advanced_by m s) is in
    ap (λ t. t ++ written_by n (advanced s)) none ∙ ap (λ t. written_by n t) same ∙ over_writes n (mode.Ended e) s is over
over_writes (suc n) mode.Run s is over = absurd over
over_writes (suc n) (mode.Settle o) s is over = absurd over
over_writes (suc n) (mode.Begin w) s is over = absurd over
over_writes (suc n) mode.Next s is over = absurd over

-- the machine stops, since the store isn't sound
pub record Strands (s : Seen) : Type 0 where
  pub mode : (advanced s).mode ≡ mode.Ended ending.Stranded
  pub written : advance_written s ≡ []

not_idle : (m : Mode) → NotNext m → idle m ≡ 0
not_idle mode.Run h = refl
not_idle (mode.Settle o) h = refl
not_idle (mode.Begin w) h = refl
not_idle mode.Next h = absurd h
not_idle (mode.Ended e) h = refl

most_idle : (m : Mode) → idle m ≤ 1
most_idle mode.Run = omega arith
most_idle (mode.Settle o) = omega arith
most_idle (mode.Begin w) = omega arith
most_idle mode.Next = omega arith
most_idle (mode.Ended e) = omega arith

module _ (plan : Plan) where
  abbrev pub P : Program
  P = program_in plan

  abbrev pub B : Bodies FlatBody
  B = flat P plan.codes (greatest_width plan.codes)

  abbrev pub at : ℕ → Course
  at i = record { plan = plan; instructions = i }

  -- a state of the flat machine in its run
  pub record Reached (t : Top FlatBody) : Type 0 where
    pub count : ℕ
    pub reached : top_iter B P count (opened_run B P) ≡ t

  -- what a step is
  pub record StepsOn (s : Seen) (tr : Text) (ev : List Event) : Type 0 where
    pub count : ℕ
    pub moves : Moving s.mode count
    pub counted : instructions B P count (top_of tr ev s) ≡ runs_in s.mode
    pub leads : top_iter B P count (top_of tr ev s) ≡ top_of (tr ++ advance_written s) (ev ++ events_of (advance_told s)) (advanced s)

  -- some small steps of the flat machine, or the end where the store isn't sound
  abbrev pub StepLaw : Type 0
  StepLaw = (i : ℕ) (s : Seen) (tr : Text) (ev : List Event) → Holds (at i) s → Reached (top_of tr ev s) → StepsOn s tr ev ⊎ Strands s

  pub record Follows (n i : ℕ) (s : Seen) (tr : Text) (ev : List Event) : Type 0 where
    pub count : ℕ
    pub leads : top_iter B P count (top_of tr ev s) ≡ top_of (tr ++ written_by n s) (ev ++ told_by n s) (after n s)
    pub counted : instructions B P count (top_of tr ev s) ≡ runs_by n s
    pub moving : (IsOver (after n s).mode → ⊥) → n ≤ count + count + idle s.mode
    pub begun : ℕ
    pub holds : Holds (at begun) (after n s)
    pub ran : begun ≡ min (i + runs_by n s) (2 ^ 64 - 1)

  -- a further step
  gains : (m : Mode) (s : Seen) (n c k : ℕ) → s.mode ≡ m → Moving m c → ((IsOver (after n (advanced s)).mode → ⊥) → n ≤ k + k + idle (advanced s).mode) → (IsOver (after (suc n) s).mode → ⊥) → suc n ≤ (c + k) + (c + k) + idle m
  gains mode.Next s n c k is moves more on =
      let goes : idle (advanced s).mode ≡ 0 = ap (λ m. idle (advanced_by m s).mode) is ∙ not_idle (next_opened s).mode (next_goes_on s) in
      let l : n ≤ k + k + idle (advanced s).mode = more on in
      omega (arith, goes, l)
  gains (mode.Ended e) s n c k is moves more on =
      let over : IsOver (after (suc n) s).mode = rw (over_stays (suc n) (mode.Ended e) s is tt, is) tt in
      absurd (on over)
  gains mode.Run s n c k is moves more on =
      let l : n ≤ k + k + idle (advanced s).mode = more on in
      let one : idle (advanced s).mode ≤ 1 = most_idle (advanced s).mode in
      omega (arith, moves, l, one)
  gains (mode.Settle o) s n c k is moves more on =
      let l : n ≤ k + k + idle (advanced s).mode = more on in
      let one : idle (advanced s).mode ≤ 1 = most_idle (advanced s).mode in
      omega (arith, moves, l, one)
  gains (mode.Begin w) s n c k is moves more on =
      let l : n ≤ k + k + idle (advanced s).mode = more on in
      let one : idle (advanced s).mode ≤ 1 = most_idle (advanced s).mode in
      omega (arith, moves, l, one)

  ran_first : (i : ℕ) → i ≤ 2 ^ 64 - 1 → i ≡ min (i + 0) (2 ^ 64 - 1)
  ran_first i l = omega (arith, l)

  ran_more : (m : Mode) (i k j : ℕ) → i ≤ 2 ^ 64 - 1 → j ≡ min (begun_by m i + k) (2 ^ 64 - 1) → j ≡ min (i + (runs_in m + k)) (2 ^ 64 - 1)
  ran_more mode.Run i k j l is = omega (arith, l, is)
  ran_more (mode.Settle o) i k j l is = omega (arith, l, is)
  ran_more (mode.Begin w) i k j l is = omega (arith, l, is)
  ran_more mode.Next i k j l is = omega (arith, l, is)
  ran_more (mode.Ended e) i k j l is = omega (arith, l, is)

  ran_within : (m : Mode) (i : ℕ) → i ≤ 2 ^ 64 - 1 → begun_by m i ≤ 2 ^ 64 - 1
  ran_within mode.Run i l = omega (arith, l)
  ran_within (mode.Settle o) i l = l
  ran_within (mode.Begin w) i l = l
  ran_within mode.Next i l = l
  ran_within (mode.Ended e) i l = l

  -- no step at all
  nowhere : (i : ℕ) (s : Seen) (tr : Text) (ev : List Event) → i ≤ 2 ^ 64 - 1 → Holds (at i) s → Follows zero i s tr ev
  nowhere i s tr ev l h =
      record {
        count = 0;
        leads = ap (λ e. top_of tr e s) (sym (append-nil ev)) ∙ ap (λ t. top_of t (ev ++ []) s) (sym (append-nil tr));
        counted = refl;
        moving = λ on. omega arith;
        begun = i;
        holds = h;
        ran = ran_first i l;
      }

  -- one step, and those behind it
  goes_on : (n i : ℕ) (s : Seen) (tr : Text) (ev : List Event) → i ≤ 2 ^ 64 - 1 → StepsOn s tr ev → Follows n (begun_by s.mode i) (advanced s) (tr ++ advance_written s) (ev ++ events_of (advance_told s)) → Follows (suc n) i s tr ev
  goes_on n i s tr ev l c f =
      let counts : instructions B P c.count (top_of tr ev s) + instructions B P f.count (top_iter B P c.count (top_of tr ev s)) ≡ runs_in s.mode + runs_by n (advanced s) =
      ap (λ k. k + instructions B P f.count (top_iter B P c.count (top_of tr ev s))) c.counted ∙ ap (λ t. runs_in s.mode + instructions B P f.count t) c.leads ∙ ap (λ k. runs_in s.mode + k) f.counted in
      record {
        count = c.count + f.count;
        leads =
            steps_add B P c.count f.count (top_of tr ev s) ∙ ap (λ t. top_iter B P f.count t) c.leads ∙ f.leads
            ∙ ap (λ e. top_of ((tr ++ advance_written s) ++ written_by n (advanced s)) e (after n (advanced s))) (append_assoc ev (events_of (advance_told s)) (told_by n (advanced s)))
            ∙ ap (λ t. top_of t (ev ++ told_by (suc n) s) (after n (advanced s))) (append_assoc tr (advance_written s) (written_by n (advanced s)));
        counted = counts_add B P c.count f.count (top_of tr ev s) ∙ counts;
        moving = gains s.mode s n c.count f.count refl c.moves f.moving;
        begun = f.begun;
        holds = f.holds;
        ran = ran_more s.mode i (runs_by n (advanced s)) f.begun l f.ran;
      }

  -- the machine stopped where the store wasn't sound, behind so many steps that the flat machine makes too
  pub record Lost (n i : ℕ) (s : Seen) (tr : Text) (ev : List Event) : Type 0 where
    pub before : ℕ
    pub goes : Follows before i s tr ev
    pub same : written_by n s ≡ written_by before s
    pub mode : (after n s).mode ≡ mode.Ended ending.Stranded

  strands : (n i : ℕ) (s : Seen) (tr : Text) (ev : List Event) → i ≤ 2 ^ 64 - 1 → Holds (at i) s → Strands s → Lost (suc n) i s tr ev
  strands n i s tr ev l h x =
      record {
        before = 0;
        goes = nowhere i s tr ev l h;
        same = ap (λ t. t ++ written_by n (advanced s)) x.written ∙ over_writes n (mode.Ended ending.Stranded) (advanced s) x.mode tt;
        mode = ap (λ (t : Seen). t.mode) (over_stays n (mode.Ended ending.Stranded) (advanced s) x.mode tt) ∙ x.mode;
      }

  module _ (law : StepLaw) where
    mutual_by : (n i : ℕ) (s : Seen) (tr : Text) (ev : List Event) → i ≤ 2 ^ 64 - 1 → StepsOn s tr ev
        → Follows n (begun_by s.mode i) (advanced s) (tr ++ advance_written s) (ev ++ events_of (advance_told s)) ⊎ Lost n (begun_by s.mode i) (advanced s) (tr ++ advance_written s) (ev ++ events_of (advance_told s))
        → Follows (suc n) i s tr ev ⊎ Lost (suc n) i s tr ev
    mutual_by n i s tr ev l c (inl f) = inl (goes_on n i s tr ev l c f)
    mutual_by n i s tr ev l c (inr x) =
        inr (record { before = suc x.before; goes = goes_on x.before i s tr ev l c x.goes; same = ap (λ t. advance_written s ++ t) x.same; mode = x.mode })

    further_by : (n i : ℕ) (s : Seen) (tr : Text) (ev : List Event) → i ≤ 2 ^ 64 - 1 → Holds (at i) s → Reached (top_of tr ev s)
        → (Reached (top_of (tr ++ advance_written s) (ev ++ events_of (advance_told s)) (advanced s)) → Follows n (begun_by s.mode i) (advanced s) (tr ++ advance_written s) (ev ++ events_of (advance_told s)) ⊎ Lost n (begun_by s.mode i) (advanced s) (tr ++ advance_written s) (ev ++ events_of (advance_told s)))
        → StepsOn s tr ev ⊎ Strands s → Follows (suc n) i s tr ev ⊎ Lost (suc n) i s tr ev
    further_by n i s tr ev l h r ih (inl c) =
        mutual_by n i s tr ev l c (ih (record { count = r.count + c.count; reached = steps_add B P r.count c.count (opened_run B P) ∙ ap (λ t. top_iter B P c.count t) r.reached ∙ c.leads }))
    further_by n i s tr ev l h r ih (inr x) = inr (strands n i s tr ev l h x)

    pub follows : (n i : ℕ) (s : Seen) (tr : Text) (ev : List Event) → i ≤ 2 ^ 64 - 1 → Holds (at i) s → Reached (top_of tr ev s) → Follows n i s tr ev ⊎ Lost n i s tr ev
    follows zero i s tr ev l h r = inl (nowhere i s tr ev l h)
    follows (suc n) i s tr ev l h r =
        further_by n i s tr ev l h r
        (λ r'. follows n (begun_by s.mode i) (advanced s) (tr ++ advance_written s) (ev ++ events_of (advance_told s)) (ran_within s.mode i l) (stays (at i) s h) r') (law i s tr ev h r)
