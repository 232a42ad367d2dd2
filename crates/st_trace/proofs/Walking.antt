-- The audit answers as it is to.
use Rattle.std.proofs.Common.{◌≡◌, ◌⊎◌, inl, inr, ℕ, zero, suc, ◌+◌, ◌-◌, ◌<◌, ◌≤◌, Bool, true, false, List, [], ◌∷◌, ◌++◌, length, take, append_assoc, append-nil, Option, Some, None, is_some, refl, sym, ap, ◌∙◌, subst, arith, nat_eq, if◌then◌else◌, eqb-true, eq-eqb, ne_eqb}
use Rattle.std.proofs.lemmas.List.{length-append}
use Rattle.std.specs.Char.{digit_value}
use Rattle.std.specs.Str.Parse.{AllDigits}
use Rattle.std.proofs.lemmas.Fmt.{decimal_is_IsNumeral}
use Rattle.std.proofs.Common.{◌^◌, decimal}
use Rattle.st_code.specs.Texts.{Text}
use Rattle.st_rules.specs.Events.{Protect, Ensure, Curtail, Signal, Outer, Search, Tried, Handle, Default, Known, Action, Again, Ask, End}
use Rattle.st_trace.specs.Lines.{Line, Tells, Stops}
use Rattle.st_trace.specs.declared.line.StopWord.TheVariants.{Done, Unhandled, Steps, Depth, Cells, Integer}
use Rattle.st_trace.specs.Automaton.{Auditor, first_auditor, accepts, accepts_all, may_stop}
use Rattle.st_trace.specs.Disciplined.{Disciplined}
use Rattle.st_trace.specs.Auditing.{Stands, stands_by}
use Rattle.st_trace.specs.Bytes.{line_body, line_text, text_of, LineFits, AllFit, most_bytes, Behind, NextLine, no_end, EndsWithin, Audits}
use Rattle.st_trace.specs.declared.auditing.AuditAnswer.{AuditAnswer}
use Rattle.st_trace.specs.declared.auditing.AuditAnswer.TheVariants as answer
use Rattle.st_trace.specs.declared.auditing.AuditReason.TheVariants as reason
use Rattle.st_trace.specs.Reading.{read_line}
use Rattle.st_trace.specs.Audit.{Standing, Going, Stopped, going, next_of, at_end, audit_from, audit_of, AuditsEach, AuditsOnce}
use Rattle.st_trace.proofs.Agreement.{auditor_agrees, stands_by_auditor}
use Rattle.st_trace.proofs.Reading.{reads_lines}

-- ---- where lines lead

abbrev onward : Option Standing → (Standing → Option Standing) → Option Standing
onward None k = None
onward (Some s) k = k s

abbrev standing : List Line → Standing → Option Standing
standing [] s = Some s
standing (l ∷ ls) s = onward (next_of s l) (standing ls)

standing_more : (ls : List Line) (s s' : Standing) (l : Line) → standing ls s ≡ Some s' → standing (ls ++ l ∷ []) s ≡ next_of s' l
standing_more [] s s' l e = let same : s ≡ s' = grind (arith, e) in last (next_of s l) ∙ ap (λ x. next_of x l) same
  where
    last : (o : Option Standing) → onward o (standing []) ≡ o
    last None = refl
    last (Some x) = refl
standing_more (k ∷ ls) s s' l e = go (next_of s k) (λ x q. standing_more ls x s' l q) e
  where
    go : (o : Option Standing) → ((x : Standing) → standing ls x ≡ Some s' → standing (ls ++ l ∷ []) x ≡ next_of s' l) → onward o (standing ls) ≡ Some s' → onward o (standing (ls ++ l ∷ [])) ≡ next_of s' l
    go None on e = let none : ⊥ = grind (arith, e) in absurd none
    go (Some x) on e = on x e

refused_stands : (ls : List Line) → stands_by None ls ≡ false
refused_stands [] = refl
refused_stands (Tells e ∷ ls) = refused_stands ls
refused_stands (Stops w ∷ []) = refl
refused_stands (Stops w ∷ l ∷ ls) = refl

refused_all : (ls : List Line) → accepts_all None ls ≡ false
refused_all [] = refl
refused_all (Tells e ∷ ls) = refused_all ls
refused_all (Stops w ∷ []) = refl
refused_all (Stops w ∷ l ∷ ls) = refl

stands_same : (ls : List Line) (a : Auditor) → stands_by (Some a) ls ≡ is_some (standing ls (Going a))
stands_same [] a = refl
stands_same (Tells e ∷ ls) a = go (accepts e a) (λ b. stands_same ls b)
  where
    go : (o : Option Auditor) → ((b : Auditor) → stands_by (Some b) ls ≡ is_some (standing ls (Going b))) → stands_by o ls ≡ is_some (onward (going o) (standing ls))
    go None on = refused_stands ls
    go (Some b) on = on b
stands_same (Stops w ∷ []) a = go (may_stop w a)
  where
    go : (c : Bool) → c ≡ is_some (onward (if c then Some Stopped else None) (standing []))
    go true = refl
    go false = refl
stands_same (Stops w ∷ l ∷ ls) a = go (may_stop w a)
  where
    go : (c : Bool) → false ≡ is_some (onward (if c then Some Stopped else None) (standing (l ∷ ls)))
    go true = refl
    go false = refl

abbrev is_stopped : Option Standing → Bool
is_stopped (Some Stopped) = true
is_stopped (Some (Going a)) = false
is_stopped None = false

accepts_same : (ls : List Line) (a : Auditor) → accepts_all (Some a) ls ≡ is_stopped (standing ls (Going a))
accepts_same [] a = refl
accepts_same (Tells e ∷ ls) a = go (accepts e a) (λ b. accepts_same ls b)
  where
    go : (o : Option Auditor) → ((b : Auditor) → accepts_all (Some b) ls ≡ is_stopped (standing ls (Going b))) → accepts_all o ls ≡ is_stopped (onward (going o) (standing ls))
    go None on = refused_all ls
    go (Some b) on = on b
accepts_same (Stops w ∷ []) a = go (may_stop w a)
  where
    go : (c : Bool) → c ≡ is_stopped (onward (if c then Some Stopped else None) (standing []))
    go true = refl
    go false = refl
accepts_same (Stops w ∷ l ∷ ls) a = go (may_stop w a)
  where
    go : (c : Bool) → false ≡ is_stopped (onward (if c then Some Stopped else None) (standing (l ∷ ls)))
    go true = refl
    go false = refl

-- ---- bytes without byte 10

clash : {A : Type 0} → false ≡ true → A
clash e = let none : ⊥ = grind (arith, e) in absurd none

endless_append : (a b : Text) → no_end a ≡ true → no_end b ≡ true → no_end (a ++ b) ≡ true
endless_append [] b h k = k
endless_append (c ∷ a) b h k = go (nat_eq c 10) (λ e. endless_append a b e k) h
  where
    go : (d : Bool) → (no_end a ≡ true → no_end (a ++ b) ≡ true) → (if d then false else no_end a) ≡ true → (if d then false else no_end (a ++ b)) ≡ true
    go true on h = clash h
    go false on h = on h

end_is_none : digit_value 10 < 10 → ⊥
end_is_none h = omega (arith, h)

digits_endless : (ds : Text) → AllDigits 10 ds → no_end ds ≡ true
digits_endless [] h = refl
digits_endless (c ∷ cs) h = ap (λ d. if d then false else no_end cs) (ne_eqb c 10 (λ q. end_is_none (subst (λ k. digit_value k < 10) q h.0))) ∙ digits_endless cs h.1

decimal_endless : (n : ℕ) → n < 2 ^ 64 → no_end (decimal n) ≡ true
decimal_endless n h = digits_endless (decimal n) (decimal_is_IsNumeral n h).0.1

answer_endless : (f : Bool) → no_end (Rattle.st_trace.specs.Bytes.answer_word f) ≡ true
answer_endless true = refl
answer_endless false = refl

line_endless : (l : Line) → LineFits l → no_end (line_body l) ≡ true
line_endless (Tells (Protect n)) h = decimal_endless n h
line_endless (Tells (Ensure n)) h = decimal_endless n h
line_endless (Tells (Curtail n)) h = decimal_endless n h
line_endless (Tells (Signal n)) h = decimal_endless n h
line_endless (Tells (Outer n)) h = decimal_endless n h
line_endless (Tells (Search n)) h = decimal_endless n h
line_endless (Tells (Tried n f)) h = endless_append (decimal n) (32 ∷ Rattle.st_trace.specs.Bytes.answer_word f) (decimal_endless n h) (answer_endless f)
line_endless (Tells (Handle m n)) h = endless_append (decimal m) (32 ∷ decimal n) (decimal_endless m h.0) (decimal_endless n h.1)
line_endless (Tells (Default n)) h = decimal_endless n h
line_endless (Tells Known) h = refl
line_endless (Tells (Action n)) h = decimal_endless n h
line_endless (Tells (Again n)) h = decimal_endless n h
line_endless (Tells (Ask m n)) h = endless_append (decimal m) (32 ∷ decimal n) (decimal_endless m h.0) (decimal_endless n h.1)
line_endless (Tells (End n true)) h = decimal_endless n h
line_endless (Tells (End n false)) h = decimal_endless n h
line_endless (Stops Done) h = refl
line_endless (Stops Unhandled) h = refl
line_endless (Stops Steps) h = refl
line_endless (Stops Depth) h = refl
line_endless (Stops Cells) h = refl
line_endless (Stops Integer) h = refl

-- what stands before the first byte 10 is one thing
before_end : (a b x y : Text) → no_end a ≡ true → no_end b ≡ true → a ++ (10 ∷ x) ≡ b ++ (10 ∷ y) → a ≡ b
before_end [] [] x y h k e = refl
before_end [] (c ∷ b) x y h k e = let q : 10 ≡ c = grind (arith, e) in clash (sym (ap (λ d. if d then false else no_end b) (eq-eqb c 10 (sym q))) ∙ k)
before_end (c ∷ a) [] x y h k e = let q : c ≡ 10 = grind (arith, e) in clash (sym (ap (λ d. if d then false else no_end a) (eq-eqb c 10 q)) ∙ h)
before_end (c ∷ a) (d ∷ b) x y h k e =
    let q : c ≡ d = grind (arith, e) in
    let r : a ++ (10 ∷ x) ≡ b ++ (10 ∷ y) = grind (arith, e) in
    ap (λ z. z ∷ a) q ∙ ap (λ z. d ∷ z) (before_end a b x y (rest c a h) (rest d b k) r)
  where
    rest : (z : ℕ) (w : Text) → no_end (z ∷ w) ≡ true → no_end w ≡ true
    rest z w m = go (nat_eq z 10) m
      where
        go : (f : Bool) → (if f then false else no_end w) ≡ true → no_end w ≡ true
        go true m = clash m
        go false m = m

-- bytes without byte 10 hold no whole line
no_line_in : (a b x : Text) → no_end a ≡ true → a ≡ b ++ (10 ∷ x) → ⊥
no_line_in [] [] x h e = grind (arith, e)
no_line_in [] (c ∷ b) x h e = grind (arith, e)
no_line_in (c ∷ a) [] x h e = let q : c ≡ 10 = grind (arith, e) in clash (sym (ap (λ d. if d then false else no_end a) (eq-eqb c 10 q)) ∙ h)
no_line_in (c ∷ a) (d ∷ b) x h e = let r : a ≡ b ++ (10 ∷ x) = grind (arith, e) in no_line_in a b x (go (nat_eq c 10) h) r
  where
    go : (f : Bool) → (if f then false else no_end a) ≡ true → no_end a ≡ true
    go true m = clash m
    go false m = m

end_within : (a cs : Text) (k : ℕ) → length a < k → no_end (take k (a ++ (10 ∷ cs))) ≡ false
end_within [] cs zero l = let none : ⊥ = omega (arith, l) in absurd none
end_within [] cs (suc k) l = refl
end_within (c ∷ a) cs zero l = let none : ⊥ = omega (arith, l) in absurd none
end_within (c ∷ a) cs (suc k) l = go (nat_eq c 10) (end_within a cs k (omega (arith, l)))
  where
    go : (d : Bool) → no_end (take k (a ++ (10 ∷ cs))) ≡ false → (if d then false else no_end (take k (a ++ (10 ∷ cs)))) ≡ false
    go true on = refl
    go false on = on

take_front : (a b : Text) (k : ℕ) → k ≡ length a → take k (a ++ b) ≡ a
take_front [] b zero e = refl
take_front [] b (suc k) e = let none : ⊥ = omega (arith, e) in absurd none
take_front (c ∷ a) b zero e = let none : ⊥ = omega (arith, e) in absurd none
take_front (c ∷ a) b (suc k) e = ap (λ z. c ∷ z) (take_front a b k (omega (arith, e)))

-- ---- one more line

text_more : (ls : List Line) (l : Line) → text_of (ls ++ l ∷ []) ≡ text_of ls ++ line_text l
text_more [] l = append-nil (line_text l)
text_more (k ∷ ls) l = ap (λ t. line_text k ++ t) (text_more ls l) ∙ sym (append_assoc (line_text k) (text_of ls) (line_text l))

fit_more : (ls : List Line) (l : Line) → AllFit ls → LineFits l → AllFit (ls ++ l ∷ [])
fit_more [] l h f = (f, tt)
fit_more (k ∷ ls) l h f = (h.0, fit_more ls l h.1 f)

-- ---- the audit

-- where it is in its input: behind these whole lines, which stand, and some bytes of the next
record At (input rest : Text) (s : Standing) (line room : ℕ) (so_far : Text) : Type 0 where
  lines : List Line
  fit : AllFit lines
  whole : input ≡ text_of lines ++ (so_far ++ rest)
  stands : standing lines (Going first_auditor) ≡ Some s
  number : line ≡ length lines + 1
  left : room + length so_far + length (text_of lines) ≡ most_bytes
  endless : no_end so_far ≡ true

stand_of : (ls : List Line) (s : Standing) → standing ls (Going first_auditor) ≡ Some s → Stands ls
stand_of ls s e = (stands_by_auditor ls).1 (stands_same ls first_auditor ∙ ap is_some e)

module _ (input rest : Text) (s : Standing) (line room : ℕ) (so_far : Text) (h : At input rest s line room so_far) where
  short : length (text_of h.lines) ≤ most_bytes
  short = omega (arith, h.left)

  abbrev behind : (others : Text) → so_far ++ rest ≡ others → Behind input others
  behind others e = record { lines = h.lines; fit = h.fit; whole = h.whole ∙ ap (λ t. text_of h.lines ++ t) e; short = short; stand = stand_of h.lines s h.stands }

  size : length input ≡ length (text_of h.lines) + (length so_far + length rest)
  size = ap length h.whole ∙ length-append (text_of h.lines) (so_far ++ rest) ∙ ap (λ n. length (text_of h.lines) + n) (length-append so_far rest)

ends : (input : Text) (s : Standing) (line room : ℕ) (so_far : Text) → At input [] s line room so_far → Audits input (at_end s line so_far)
ends input s line room (c ∷ cs) h =
    let fits : length input ≤ most_bytes = omega (arith, size input [] s line room (c ∷ cs) h, h.left) in
    (c ∷ cs, behind input [] s line room (c ∷ cs) h (c ∷ cs) (append-nil (c ∷ cs)), λ e. grind (arith, e), λ l x. no_line_in (c ∷ cs) (line_body l) x.others h.endless (x.whole ∙ append_assoc (line_body l) (10 ∷ []) x.others), inr fits, h.number)
ends input Stopped line room [] h =
    let fits : length input ≤ most_bytes = omega (arith, size input [] Stopped line room [] h, h.left) in
    let all : Disciplined h.lines = (auditor_agrees h.lines).1 (accepts_same h.lines first_auditor ∙ ap is_stopped h.stands) in
    let n : line - 1 ≡ length h.lines = omega (arith, h.number) in
    (h.lines, h.fit, h.whole ∙ append-nil (text_of h.lines), fits, all, n)
ends input (Going a) line room [] h =
    let fits : length input ≤ most_bytes = omega (arith, size input [] (Going a) line room [] h, h.left) in
    (behind input [] (Going a) line room [] h [] refl, fits, λ d. clash (sym (accepts_same h.lines first_auditor ∙ ap is_stopped h.stands) ∙ (auditor_agrees h.lines).0 d), h.number)

too_long : (input : Text) (c : ℕ) (cs : Text) (s : Standing) (line : ℕ) (so_far : Text) → At input (c ∷ cs) s line 0 so_far → Audits input (answer.Refused line reason.InputTooLong)
too_long input c cs s line so_far h =
    let more : most_bytes < length input = omega (arith, size input (c ∷ cs) s line 0 so_far h, h.left) in
    let room : most_bytes - length (text_of h.lines) ≡ length so_far = omega (arith, h.left) in
    (so_far ++ (c ∷ cs), behind input (c ∷ cs) s line 0 so_far h (so_far ++ (c ∷ cs)) refl, more, λ e. clash (sym e ∙ ap no_end (take_front so_far (c ∷ cs) (most_bytes - length (text_of h.lines)) room) ∙ h.endless), h.number)

-- the line is whole
module _ (input cs : Text) (s : Standing) (line left : ℕ) (so_far : Text) (h : At input (10 ∷ cs) s line (suc left) so_far) where
  no_line : read_line so_far ≡ None → Audits input (answer.Refused line reason.Line)
  no_line e =
      let within : length so_far < most_bytes - length (text_of h.lines) = omega (arith, h.left) in
      let none : (l : Line) → NextLine l (so_far ++ (10 ∷ cs)) → ⊥ = λ l x.
      let same : so_far ≡ line_body l = before_end so_far (line_body l) cs x.others h.endless (line_endless l x.fits) (x.whole ∙ append_assoc (line_body l) (10 ∷ []) x.others) in
      let read : read_line so_far ≡ Some l = (reads_lines so_far l).0 (x.fits, sym same) in
      let both : None ≡ Some l = sym e ∙ read in
      grind (arith, both)
      in
      (so_far ++ (10 ∷ cs), behind input (10 ∷ cs) s line (suc left) so_far h (so_far ++ (10 ∷ cs)) refl, some, none, inl (end_within so_far cs (most_bytes - length (text_of h.lines)) within), h.number)
    where
      some : so_far ++ (10 ∷ cs) ≡ [] → ⊥
      some q = let n : length (so_far ++ (10 ∷ cs)) ≡ 0 = ap length q in omega (arith, n, length-append so_far (10 ∷ cs))

  module _ (l : Line) (e : read_line so_far ≡ Some l) where
    read : LineFits l × (line_body l ≡ so_far)
    read = (reads_lines so_far l).1 e

    text : line_text l ≡ so_far ++ 10 ∷ []
    text = ap (λ t. t ++ 10 ∷ []) read.1

    long : length (line_text l) ≡ length so_far + 1
    long = ap length text ∙ length-append so_far (10 ∷ [])

    next : NextLine l (so_far ++ (10 ∷ cs))
    next = record { fits = read.0; others = cs; whole = sym (ap (λ t. t ++ cs) text ∙ append_assoc so_far (10 ∷ []) cs) }

    out_of_order : next_of s l ≡ None → Audits input (answer.Refused line reason.Order)
    out_of_order q =
        let fits : length (text_of h.lines) + length (line_text l) ≤ most_bytes = omega (arith, h.left, long) in
        let gone : is_some (standing (h.lines ++ l ∷ []) (Going first_auditor)) ≡ false = ap is_some (standing_more h.lines (Going first_auditor) s l h.stands ∙ q) in
        (so_far ++ (10 ∷ cs), behind input (10 ∷ cs) s line (suc left) so_far h (so_far ++ (10 ∷ cs)) refl, l, next, fits, λ d. clash (sym gone ∙ sym (stands_same (h.lines ++ l ∷ []) first_auditor) ∙ (stands_by_auditor (h.lines ++ l ∷ [])).0 d), h.number)

    goes_on : (s' : Standing) → next_of s l ≡ Some s' → At input cs s' (line + 1) left []
    unfolding next
    goes_on s' q =
        let more : text_of (h.lines ++ l ∷ []) ≡ text_of h.lines ++ line_text l = text_more h.lines l in
        record {
          lines = h.lines ++ l ∷ [];
          fit = fit_more h.lines l h.fit read.0;
          whole = h.whole ∙ ap (λ t. text_of h.lines ++ t) next.whole ∙ sym (append_assoc (text_of h.lines) (line_text l) cs) ∙ ap (λ t. t ++ cs) (sym more);
          stands = standing_more h.lines (Going first_auditor) s l h.stands ∙ q;
          number = let n : length (h.lines ++ l ∷ []) ≡ length h.lines + 1 = length-append h.lines (l ∷ []) in omega (arith, n, h.number);
          left = let n : length (text_of (h.lines ++ l ∷ [])) ≡ length (text_of h.lines) + length (line_text l) = ap length more ∙ length-append (text_of h.lines) (line_text l) in omega (arith, n, long, h.left);
          endless = refl;
        }

audits : (rest input : Text) (s : Standing) (line room : ℕ) (so_far : Text) → At input rest s line room so_far → Audits input (audit_from rest s line room so_far)
audits [] input s line room so_far h = ends input s line room so_far h
audits (c ∷ cs) input s line zero so_far h = too_long input c cs s line so_far h
audits (c ∷ cs) input s line (suc left) so_far h = go (nat_eq c 10) refl (λ k. audits cs input s line left (so_far ++ c ∷ []) k) (λ s' k. audits cs input s' (line + 1) left [] k)
  where
    on_line : (o : Option Line) → read_line so_far ≡ o → At input (10 ∷ cs) s line (suc left) so_far → ((s' : Standing) → At input cs s' (line + 1) left [] → Audits input (audit_from cs s' (line + 1) left [])) → Audits input (elim o [ None ↦ answer.Refused line reason.Line | Some l ↦ elim (next_of s l) [ None ↦ answer.Refused line reason.Order | Some s' ↦ audit_from cs s' (line + 1) left [] ] ])
    on_line None e h' on = no_line input cs s line left so_far h' e
    on_line (Some l) e h' on = step (next_of s l) refl
      where
        step : (o : Option Standing) → next_of s l ≡ o → Audits input (elim o [ None ↦ answer.Refused line reason.Order | Some s' ↦ audit_from cs s' (line + 1) left [] ])
        step None q = out_of_order input cs s line left so_far h' l e q
        step (Some s') q = on s' (goes_on input cs s line left so_far h' l e s' q)

    go : (d : Bool) → nat_eq c 10 ≡ d → (At input cs s line left (so_far ++ c ∷ []) → Audits input (audit_from cs s line left (so_far ++ c ∷ []))) → ((s' : Standing) → At input cs s' (line + 1) left [] → Audits input (audit_from cs s' (line + 1) left [])) → Audits input (elim d [ false ↦ audit_from cs s line left (so_far ++ c ∷ []) | true ↦ elim (read_line so_far) [ None ↦ answer.Refused line reason.Line | Some l ↦ elim (next_of s l) [ None ↦ answer.Refused line reason.Order | Some s' ↦ audit_from cs s' (line + 1) left [] ] ] ])
    go true q on_byte on = on_line (read_line so_far) refl (subst (λ k. At input (k ∷ cs) s line (suc left) so_far) (eqb-true c 10 q) h) on
    go false q on_byte on = on_byte (
        record {
          lines = h.lines;
          fit = h.fit;
          whole = h.whole ∙ ap (λ t. text_of h.lines ++ t) (sym (append_assoc so_far (c ∷ []) cs));
          stands = h.stands;
          number = h.number;
          left = let n : length (so_far ++ c ∷ []) ≡ length so_far + 1 = length-append so_far (c ∷ []) in omega (arith, n, h.left);
          endless = endless_append so_far (c ∷ []) h.endless (ap (λ f. if f then false else true) q);
        }
        )

pub audits_each : AuditsEach
unfolding audit_of
audits_each input = audits input input (Going first_auditor) 1 most_bytes [] (record { lines = []; fit = tt; whole = refl; stands = refl; number = omega arith; left = omega arith; endless = refl })

-- ---- no other answer

abbrev pub judged_by : Option Standing → Text → (line left : ℕ) → AuditAnswer
judged_by o cs line left = elim o [ None ↦ answer.Refused line reason.Order | Some s' ↦ audit_from cs s' (line + 1) left [] ]

abbrev pub read_by : Option Line → Text → Standing → (line left : ℕ) → AuditAnswer
read_by o cs s line left = elim o [ None ↦ answer.Refused line reason.Line | Some l ↦ judged_by (next_of s l) cs line left ]

abbrev pub byte_by : Bool → ℕ → Text → Standing → (line left : ℕ) → Text → AuditAnswer
byte_by d c cs s line left so_far = elim d [ false ↦ audit_from cs s line left (so_far ++ c ∷ []) | true ↦ read_by (read_line so_far) cs s line left ]

on_other : (c : ℕ) (cs : Text) (s : Standing) (line left : ℕ) (so_far : Text) → nat_eq c 10 ≡ false → audit_from (c ∷ cs) s line (suc left) so_far ≡ audit_from cs s line left (so_far ++ c ∷ [])
on_other c cs s line left so_far e = ap (λ d. byte_by d c cs s line left so_far) e

endless_first : (c : ℕ) (b : Text) → no_end (c ∷ b) ≡ true → (nat_eq c 10 ≡ false) × (no_end b ≡ true)
endless_first c b h = go (nat_eq c 10) refl h
  where
    go : (d : Bool) → nat_eq c 10 ≡ d → (if d then false else no_end b) ≡ true → (nat_eq c 10 ≡ false) × (no_end b ≡ true)
    go true q m = clash m
    go false q m = (q, m)

pub body_walk : (b rest : Text) (s : Standing) (line room : ℕ) (so_far : Text) → no_end b ≡ true → length b ≤ room → audit_from (b ++ rest) s line room so_far ≡ audit_from rest s line (room - length b) (so_far ++ b)
body_walk [] rest s line room so_far h l =
    let e : room ≡ room - 0 = omega arith in
    ap (λ r. audit_from rest s line r so_far) e ∙ ap (audit_from rest s line (room - 0)) (sym (append-nil so_far))
body_walk (c ∷ b) rest s line zero so_far h l = let none : ⊥ = omega (arith, l) in absurd none
body_walk (c ∷ b) rest s line (suc r) so_far h l =
    let e = endless_first c b h in
    let q : r - length b ≡ suc r - length (c ∷ b) = omega arith in
    on_other c (b ++ rest) s line r so_far e.0
    ∙ body_walk b rest s line r (so_far ++ c ∷ []) e.1 (omega (arith, l))
    ∙ ap (λ k. audit_from rest s line k ((so_far ++ c ∷ []) ++ b)) q
    ∙ ap (audit_from rest s line (suc r - length (c ∷ b))) (append_assoc so_far (c ∷ []) b)

-- a line is read, or isn't one
at_line : (b rest : Text) (s : Standing) (line room : ℕ) → no_end b ≡ true → length b < room → audit_from (b ++ (10 ∷ rest)) s line room [] ≡ read_by (read_line b) rest s line (room - (length b + 1))
at_line b rest s line room h l =
    let e : room - length b ≡ suc (room - (length b + 1)) = omega (arith, l) in
    body_walk b (10 ∷ rest) s line room [] h (omega (arith, l)) ∙ ap (λ r. audit_from (10 ∷ rest) s line r b) e

one_line : (l : Line) (s : Standing) (rest : Text) (line room : ℕ) → LineFits l → length (line_text l) ≤ room → audit_from (line_text l ++ rest) s line room [] ≡ judged_by (next_of s l) rest line (room - length (line_text l))
one_line l s rest line room f le =
    let n : length (line_text l) ≡ length (line_body l) + 1 = length-append (line_body l) (10 ∷ []) in
    let m : room - (length (line_body l) + 1) ≡ room - length (line_text l) = omega (arith, n) in
    ap (λ t. audit_from t s line room []) (append_assoc (line_body l) (10 ∷ []) rest)
    ∙ at_line (line_body l) rest s line room (line_endless l f) (omega (arith, n, le))
    ∙ ap (λ o. read_by o rest s line (room - (length (line_body l) + 1))) ((reads_lines (line_body l) l).0 (f, refl))
    ∙ ap (judged_by (next_of s l) rest line) m

lines_walk : (ls : List Line) (s s' : Standing) (rest : Text) (line room : ℕ) → AllFit ls → standing ls s ≡ Some s' → length (text_of ls) ≤ room → audit_from (text_of ls ++ rest) s line room [] ≡ audit_from rest s' (line + length ls) (room - length (text_of ls)) []
lines_walk [] s s' rest line room f e le =
    let q : s ≡ s' = grind (arith, e) in
    let a : line ≡ line + 0 = omega arith in
    let b : room ≡ room - 0 = omega arith in
    ap (λ x. audit_from rest x line room []) q ∙ ap (λ x. audit_from rest s' x room []) a ∙ ap (λ x. audit_from rest s' (line + 0) x []) b
lines_walk (l ∷ ls) s s' rest line room f e le =
    let n : length (text_of (l ∷ ls)) ≡ length (line_text l) + length (text_of ls) = length-append (line_text l) (text_of ls) in
    ap (λ t. audit_from t s line room []) (append_assoc (line_text l) (text_of ls) rest)
    ∙ one_line l s (text_of ls ++ rest) line room f.0 (omega (arith, n, le))
    ∙ go (next_of s l) (λ x q. lines_walk ls x s' rest (line + 1) (room - length (line_text l)) f.1 q (omega (arith, n, le))) e
  where
    go : (o : Option Standing) → ((x : Standing) → standing ls x ≡ Some s' → audit_from (text_of ls ++ rest) x (line + 1) (room - length (line_text l)) [] ≡ audit_from rest s' (line + 1 + length ls) (room - length (line_text l) - length (text_of ls)) []) → onward o (standing ls) ≡ Some s' → judged_by o (text_of ls ++ rest) line (room - length (line_text l)) ≡ audit_from rest s' (line + length (l ∷ ls)) (room - length (text_of (l ∷ ls))) []
    go None on e = let none : ⊥ = grind (arith, e) in absurd none
    go (Some x) on e =
        let n : length (text_of (l ∷ ls)) ≡ length (line_text l) + length (text_of ls) = length-append (line_text l) (text_of ls) in
        let a : line + 1 + length ls ≡ line + length (l ∷ ls) = omega arith in
        let b : room - length (line_text l) - length (text_of ls) ≡ room - length (text_of (l ∷ ls)) = omega (arith, n) in
        on x e ∙ ap (λ k. audit_from rest s' k (room - length (line_text l) - length (text_of ls)) []) a ∙ ap (λ k. audit_from rest s' (line + length (l ∷ ls)) k []) b

some_of : (o : Option Standing) → is_some o ≡ true → (s : Standing) × (o ≡ Some s)
some_of None e = clash e
some_of (Some s) e = (s, refl)

stopped_of : (o : Option Standing) → is_stopped o ≡ true → o ≡ Some Stopped
stopped_of None e = clash e
stopped_of (Some (Going a)) e = clash e
stopped_of (Some Stopped) e = refl

stands_so : (ls : List Line) → Stands ls → (s : Standing) × (standing ls (Going first_auditor) ≡ Some s)
stands_so ls h = some_of (standing ls (Going first_auditor)) (sym (stands_same ls first_auditor) ∙ (stands_by_auditor ls).0 h)

-- the first byte 10 of so many
first_end : (rest : Text) (k : ℕ) → no_end (take k rest) ≡ false → (w : Text) × (y : Text) × (rest ≡ w ++ (10 ∷ y)) × (no_end w ≡ true) × (length w < k)
first_end [] zero e = clash (sym e)
first_end [] (suc k) e = clash (sym e)
first_end (c ∷ cs) zero e = clash (sym e)
first_end (c ∷ cs) (suc k) e = go (nat_eq c 10) refl (first_end cs k) e
  where
    go : (d : Bool) → nat_eq c 10 ≡ d → (no_end (take k cs) ≡ false → (w : Text) × (y : Text) × (cs ≡ w ++ (10 ∷ y)) × (no_end w ≡ true) × (length w < k)) → (if d then false else no_end (take k cs)) ≡ false → (w : Text) × (y : Text) × (c ∷ cs ≡ w ++ (10 ∷ y)) × (no_end w ≡ true) × (length w < suc k)
    go true q on e = ([], cs, ap (λ z. z ∷ cs) (eqb-true c 10 q), refl, omega arith)
    go false q on e = let r = on e in (c ∷ r.0, r.1, ap (λ z. c ∷ z) r.2, ap (λ d. if d then false else no_end r.0) q ∙ r.3, omega (arith, r.4))

split_at : (rest : Text) (k : ℕ) → k < length rest → (w : Text) × (c : ℕ) × (y : Text) × (rest ≡ w ++ (c ∷ y)) × (length w ≡ k) × (take k rest ≡ w)
split_at [] k l = let none : ⊥ = omega (arith, l) in absurd none
split_at (c ∷ cs) zero l = ([], c, cs, refl, refl, refl)
split_at (c ∷ cs) (suc k) l = let r = split_at cs k (omega (arith, l)) in (c ∷ r.0, r.1, r.2, ap (λ z. c ∷ z) r.3, omega (arith, r.4), ap (λ z. c ∷ z) r.5)

module _ (input rest : Text) (b : Behind input rest) (s : Standing) (at : standing b.lines (Going first_auditor) ≡ Some s) where
  abbrev left_room : ℕ
  left_room = most_bytes - length (text_of b.lines)

  reached : audit_of input ≡ audit_from rest s (1 + length b.lines) left_room []
  unfolding audit_of
  reached = ap (λ t. audit_from t (Going first_auditor) 1 most_bytes []) b.whole ∙ lines_walk b.lines (Going first_auditor) s rest 1 most_bytes b.fit at b.short

  -- a line that ends within the room, and is none
  no_such : (w y : Text) → rest ≡ w ++ (10 ∷ y) → no_end w ≡ true → length w < left_room → ((l : Line) → NextLine l rest → ⊥) → audit_of input ≡ answer.Refused (1 + length b.lines) reason.Line
  no_such w y e h l none =
      reached ∙ ap (λ t. audit_from t s (1 + length b.lines) left_room []) e ∙ at_line w y s (1 + length b.lines) left_room h l ∙ go (read_line w) refl
    where
      go : (o : Option Line) → read_line w ≡ o → read_by o y s (1 + length b.lines) (left_room - (length w + 1)) ≡ answer.Refused (1 + length b.lines) reason.Line
      go None q = refl
      go (Some k) q =
          let r = (reads_lines w k).1 q in
          let x : NextLine k rest = record { fits = r.0; others = y; whole = e ∙ ap (λ t. t ++ (10 ∷ y)) (sym r.1) ∙ sym (append_assoc (line_body k) (10 ∷ []) y) } in
          absurd (none k x)

one_more : (n line : ℕ) (r : Rattle.st_trace.specs.declared.auditing.AuditReason.AuditReason) → line ≡ n + 1 → answer.Refused line r ≡ answer.Refused (1 + n) r
one_more n line r e = let q : line ≡ 1 + n = omega (arith, e) in ap (λ k. answer.Refused k r) q

refused_at : (s : Standing) (line : ℕ) (so_far : Text) → (so_far ≡ [] → ⊥) → at_end s line so_far ≡ answer.Refused line reason.Line
refused_at s line [] h = absurd (h refl)
refused_at s line (c ∷ cs) h = refl

once : (input : Text) (a : AuditAnswer) → Audits input a → a ≡ audit_of input
once input (answer.Disciplined n) h =
    let stopped = stopped_of (standing h.0 (Going first_auditor)) (sym (accepts_same h.0 first_auditor) ∙ (auditor_agrees h.0).0 h.4) in
    let short : length (text_of h.0) ≤ most_bytes = subst (λ t. length t ≤ most_bytes) h.2 h.3 in
    let b : Behind input [] = record { lines = h.0; fit = h.1; whole = h.2 ∙ sym (append-nil (text_of h.0)); short = short; stand = stand_of h.0 Stopped stopped } in
    let q : n ≡ 1 + length h.0 - 1 = omega (arith, h.5) in
    ap (λ k. answer.Disciplined k) q ∙ sym (reached input [] b Stopped stopped)
once input (answer.Refused n reason.Order) h =
    let s = stands_so h.1.lines h.1.stand in
    let l = h.2 in
    let x = h.3 in
    let room : length (line_text l) ≤ most_bytes - length (text_of h.1.lines) = omega (arith, h.4) in
    one_more (length h.1.lines) n reason.Order h.6
    ∙ sym (
    reached input h.0 h.1 s.0 s.1
    ∙ ap (λ t. audit_from t s.0 (1 + length h.1.lines) (most_bytes - length (text_of h.1.lines)) []) x.whole
    ∙ one_line l s.0 x.others (1 + length h.1.lines) (most_bytes - length (text_of h.1.lines)) x.fits room
    ∙ ap (λ o. judged_by o x.others (1 + length h.1.lines) (most_bytes - length (text_of h.1.lines) - length (line_text l))) (gone (next_of s.0 l) (λ s' q. h.5 (stand_of (h.1.lines ++ l ∷ []) s' (standing_more h.1.lines (Going first_auditor) s.0 l s.1 ∙ q)))))
  where
    gone : (o : Option Standing) → ((s' : Standing) → o ≡ Some s' → ⊥) → o ≡ None
    gone None f = refl
    gone (Some s') f = absurd (f s' refl)
once input (answer.Refused n reason.Line) h =
    let s = stands_so h.1.lines h.1.stand in
    one_more (length h.1.lines) n reason.Line h.5 ∙ sym (go s.0 s.1 h.4)
  where
    size : length input ≡ length (text_of h.1.lines) + length h.0
    size = ap length h.1.whole ∙ length-append (text_of h.1.lines) h.0

    shorter : (s : Standing) → standing h.1.lines (Going first_auditor) ≡ Some s → length input ≤ most_bytes → (d : Bool) → no_end h.0 ≡ d → audit_of input ≡ answer.Refused (1 + length h.1.lines) reason.Line
    shorter s e le true q =
        let fits : length h.0 ≤ most_bytes - length (text_of h.1.lines) = omega (arith, size, le) in
        reached input h.0 h.1 s e
        ∙ ap (λ t. audit_from t s (1 + length h.1.lines) (most_bytes - length (text_of h.1.lines)) []) (sym (append-nil h.0))
        ∙ body_walk h.0 [] s (1 + length h.1.lines) (most_bytes - length (text_of h.1.lines)) [] q fits
        ∙ refused_at s (1 + length h.1.lines) h.0 h.2
    shorter s e le false q =
        let all : take (length h.0) h.0 ≡ h.0 = ap (take (length h.0)) (sym (append-nil h.0)) ∙ take_front h.0 [] (length h.0) refl in
        let r = first_end h.0 (length h.0) (ap no_end all ∙ q) in
        no_such input h.0 h.1 s e r.0 r.1 r.2 r.3 (omega (arith, r.4, size, le)) h.3

    go : (s : Standing) → standing h.1.lines (Going first_auditor) ≡ Some s → EndsWithin h.1.lines h.0 ⊎ (length input ≤ most_bytes) → audit_of input ≡ answer.Refused (1 + length h.1.lines) reason.Line
    go s e (inl ends) = let r = first_end h.0 (most_bytes - length (text_of h.1.lines)) ends in no_such input h.0 h.1 s e r.0 r.1 r.2 r.3 r.4 h.3
    go s e (inr le) = shorter s e le (no_end h.0) refl
once input (answer.Refused n reason.Missing) h =
    let s = stands_so h.0.lines h.0.stand in
    one_more (length h.0.lines) n reason.Missing h.3 ∙ sym (reached input [] h.0 s.0 s.1 ∙ go s.0 s.1)
  where
    go : (s : Standing) → standing h.0.lines (Going first_auditor) ≡ Some s → at_end s (1 + length h.0.lines) [] ≡ answer.Refused (1 + length h.0.lines) reason.Missing
    go (Going a) e = refl
    go Stopped e = absurd (h.2 ((auditor_agrees h.0.lines).1 (accepts_same h.0.lines first_auditor ∙ ap is_stopped e)))
once input (answer.Refused n reason.InputTooLong) h =
    let s = stands_so h.1.lines h.1.stand in
    one_more (length h.1.lines) n reason.InputTooLong h.4 ∙ sym (reached input h.0 h.1 s.0 s.1 ∙ go s.0)
  where
    room : ℕ
    room = most_bytes - length (text_of h.1.lines)

    size : length input ≡ length (text_of h.1.lines) + length h.0
    size = ap length h.1.whole ∙ length-append (text_of h.1.lines) h.0

    endless : (d : Bool) → no_end (take (most_bytes - length (text_of h.1.lines)) h.0) ≡ d → no_end (take (most_bytes - length (text_of h.1.lines)) h.0) ≡ true
    endless true q = q
    endless false q = absurd (h.3 q)

    go : (s : Standing) → audit_from h.0 s (1 + length h.1.lines) (most_bytes - length (text_of h.1.lines)) [] ≡ answer.Refused (1 + length h.1.lines) reason.InputTooLong
    go s =
        let r = split_at h.0 (most_bytes - length (text_of h.1.lines)) (omega (arith, size, h.2, h.1.short)) in
        let no : no_end r.0 ≡ true = ap no_end (sym r.5) ∙ endless (no_end (take (most_bytes - length (text_of h.1.lines)) h.0)) refl in
        let full : most_bytes - length (text_of h.1.lines) - length r.0 ≡ 0 = omega (arith, r.4) in
        ap (λ t. audit_from t s (1 + length h.1.lines) (most_bytes - length (text_of h.1.lines)) []) r.3
        ∙ body_walk r.0 (r.1 ∷ r.2) s (1 + length h.1.lines) (most_bytes - length (text_of h.1.lines)) [] no (omega (arith, r.4))
        ∙ ap (λ k. audit_from (r.1 ∷ r.2) s (1 + length h.1.lines) k r.0) full
once input answer.ReadFault h = absurd h
once input answer.OutOfMemory h = absurd h

pub audits_once : AuditsOnce
audits_once = once
