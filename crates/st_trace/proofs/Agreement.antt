-- The auditor accepts exactly the disciplined lists.
use Rattle.std.proofs.Common.{◌≡◌, ℕ, List, [], ◌∷◌, ◌++◌, Option, Some, None, is_some, true, false, refl, sym, ap, ◌∙◌, arith, le-leb}
use Rattle.st_trace.specs.Lines.{Line, Tells, Stops}
use Rattle.st_trace.specs.declared.line.StopWord.{StopWord}
use Rattle.st_trace.specs.declared.line.StopWord.TheVariants.{Done, Unhandled, Steps, Depth, Cells, Integer}
use Rattle.st_trace.specs.Automaton.{Item, Mode, Calm, Auditor, auditor, first_auditor, by_mode, accepts_by, accepts_all, is_closed, may_stop}
use Rattle.st_trace.specs.Disciplined.{Past, meets, none_open, meets_stop, AllMeet, Disciplined}
use Rattle.st_trace.specs.Auditing.{AuditorAgrees, stands_by, StandsByAuditor}
use Rattle.st_trace.proofs.Agreeing.{lines, Agree}
use Rattle.st_trace.proofs.Verdicts.{verdict}
use Rattle.st_trace.proofs.Keeping.{Keeps, keeps}

never : {A : Type 0} → false ≡ true → A
never e = let none : ⊥ = grind (arith, e) in absurd none

refused_all : (ls : List Line) → accepts_all None ls ≡ false
refused_all [] = refl
refused_all (Tells e ∷ ls) = refused_all ls
refused_all (Stops w ∷ []) = refl
refused_all (Stops w ∷ l ∷ ls) = refl

closed_same : (is : List Item) → none_open (lines is) ≡ is_closed is
closed_same [] = refl
closed_same (i ∷ is) = refl

stop_same : (past : Past) (is : List Item) (mode : Mode) (next : ℕ) → Agree past is mode next → (w : StopWord) → meets_stop past w ≡ may_stop w (auditor is mode next)
stop_same past is mode next h Done = ap none_open h.opened_are ∙ closed_same is
stop_same past is mode next h Unhandled = ap none_open h.opened_are ∙ closed_same is
stop_same past is mode next h Steps = refl
stop_same past is mode next h Depth = refl
stop_same past is mode next h Cells = refl
stop_same past is mode next h Integer = refl

-- ---- both ways

forth : (ls : List Line) (past : Past) (is : List Item) (mode : Mode) (next : ℕ) → Agree past is mode next → AllMeet past ls → accepts_all (Some (auditor is mode next)) ls ≡ true
forth [] past is mode next h m = absurd m
forth (Tells e ∷ ls) past is mode next h m = go (by_mode mode e is next) (sym (verdict past is mode next h e) ∙ m.0) (keeps past is mode next h e) (λ js mode' next' h'. forth ls (e ∷ past) js mode' next' h' m.1)
  where
    go : (o : Option Auditor) → is_some o ≡ true → Keeps (e ∷ past) o → ((js : List Item) (mode' : Mode) (next' : ℕ) → Agree (e ∷ past) js mode' next' → accepts_all (Some (auditor js mode' next')) ls ≡ true) → accepts_all o ls ≡ true
    go None s k on = never s
    go (Some a) s k on = on a.open' a.mode a.next k
forth (Stops w ∷ []) past is mode next h m = sym (stop_same past is mode next h w) ∙ m.0
forth (Stops w ∷ l ∷ ls) past is mode next h m = let none : ⊥ = grind (arith, m.1) in absurd none

back : (ls : List Line) (past : Past) (is : List Item) (mode : Mode) (next : ℕ) → Agree past is mode next → accepts_all (Some (auditor is mode next)) ls ≡ true → AllMeet past ls
back [] past is mode next h a = never a
back (Tells e ∷ ls) past is mode next h a = go (by_mode mode e is next) (verdict past is mode next h e) (keeps past is mode next h e) (λ js mode' next' h' a'. back ls (e ∷ past) js mode' next' h' a') a
  where
    go : (o : Option Auditor) → meets past e ≡ is_some o → Keeps (e ∷ past) o → ((js : List Item) (mode' : Mode) (next' : ℕ) → Agree (e ∷ past) js mode' next' → accepts_all (Some (auditor js mode' next')) ls ≡ true → AllMeet (e ∷ past) ls) → accepts_all o ls ≡ true → (meets past e ≡ true) × AllMeet (e ∷ past) ls
    go None s k on a = never (sym (refused_all ls) ∙ a)
    go (Some b) s k on a = (s, on b.open' b.mode b.next k a)
back (Stops w ∷ []) past is mode next h a = (stop_same past is mode next h w ∙ a, refl)
back (Stops w ∷ l ∷ ls) past is mode next h a = never a

first_agree : Agree [] [] Calm 0
first_agree = record { opened_are = refl; new_is = λ n. sym (le-leb 0 n (omega arith)); ordered = tt; items = tt; mode_is = (refl, refl) }

pub auditor_agrees : AuditorAgrees
unfolding Disciplined
auditor_agrees ls = (λ m. forth ls [] [] Calm 0 first_agree m, λ a. back ls [] [] Calm 0 first_agree a)

-- ---- lines that stand

-- behind any lines that stand, a stop at a limit may come
stands_on : (a : Option Auditor) (ls : List Line) → stands_by a ls ≡ true → (rest : List Line) × (accepts_all a (ls ++ rest) ≡ true)
stands_on None [] h = never h
stands_on (Some a) [] h = (Stops Steps ∷ [], refl)
stands_on a (Tells e ∷ ls) h = stands_on (accepts_by e a) ls h
stands_on a (Stops w ∷ []) h = ([], h)
stands_on a (Stops w ∷ l ∷ ls) h = never h

-- what begins an accepted list stands
begins_one : (a : Option Auditor) (ls rest : List Line) → accepts_all a (ls ++ rest) ≡ true → stands_by a ls ≡ true
begins_one None [] rest h = never (sym (refused_all rest) ∙ h)
begins_one (Some a) [] rest h = refl
begins_one a (Tells e ∷ ls) rest h = begins_one (accepts_by e a) ls rest h
begins_one a (Stops w ∷ []) [] h = h
begins_one a (Stops w ∷ []) (r ∷ rest) h = never h
begins_one a (Stops w ∷ l ∷ ls) rest h = never h

pub stands_by_auditor : StandsByAuditor
stands_by_auditor ls =
    (λ s. begins_one (Some first_auditor) ls s.0 ((auditor_agrees (ls ++ s.0)).0 s.1), λ h. let r = stands_on (Some first_auditor) ls h in (r.0, (auditor_agrees (ls ++ r.0)).1 r.1))
