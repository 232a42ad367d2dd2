-- Where an audit stands, and what the bytes that come lead to.
use Rattle.std.proofs.Common.{◌≡◌, min, ℕ, zero, suc, ◌+◌, ◌-◌, ◌^◌, ◌<◌, ◌≤◌, Bool, true, false, List, [], ◌∷◌, ◌++◌, append_assoc, append-nil, length, take, drop, decimal, codes, Option, Some, None, refl, sym, ap, ◌∙◌, subst, arith, nat_eq, nat_lt, ltb-true, if◌then◌else◌, IfSome}
use Rattle.std.proofs.Math.Seq.{take-length}
use Rattle.std.proofs.lemmas.List.{length-append, length-take-le, take-append-drop}
use Rattle.std.proofs.lemmas.Fmt.{length-decimal-le}
use Rattle.st_code.specs.Texts.{Text}
use Rattle.st_rules.specs.Events.{Event, Protect, Ensure, Curtail, Signal, Outer, Search, Tried, Handle, Default, Known, Action, Again, Ask, End}
use Rattle.st_trace.specs.declared.line.StopWord.TheVariants.{Done, Unhandled, Steps, Depth, Cells, Integer}
use Rattle.st_trace.specs.Lines.{Line, Tells, Stops}
use Rattle.st_trace.specs.Bytes.{line_body, LineFits, no_end}
use Rattle.st_trace.specs.Reading.{read_line}
use Rattle.st_trace.specs.Audit.{Standing, next_of, at_end, audit_from}
use Rattle.std.specs.Io.KnownBytes.{prepend_known}
use Rattle.st_base.specs.Streams.{Gave}
use Rattle.st_base.proofs.Known.{prepend_known-append, take-add}
use Rattle.st_trace.specs.Bytes.{Audits}
use Rattle.st_trace.specs.Audit.{Going, Stopped, audit_of}
use Rattle.st_trace.specs.Answering.{Judged, Settles, LeavesAuditOpen, IfDisciplined, IfFault}
use Rattle.st_trace.specs.Opened.{Place, place, first_place, kept, answer_at, Judges, Moves, Answers, Turns, Concludes}
use Rattle.st_trace.specs.declared.auditing.AuditAnswer.{AuditAnswer}
use Rattle.st_trace.specs.declared.auditing.AuditAnswer.TheVariants as answer
use Rattle.st_trace.specs.declared.auditing.AuditReason.{AuditReason}
use Rattle.st_trace.specs.declared.auditing.AuditReason.TheVariants as reason
use Rattle.st_trace.proofs.Reading.{reads_lines}
use Rattle.st_trace.proofs.Walking.{judged_by, read_by, byte_by, body_walk, audits_each, audits_once}
use Rattle.memchr.specs.Find.{Nowhere, NoneBefore, Passes, is_byte}
use Rattle.st_trace.proofs.Finding.{take_rest, line_some, line_none}

-- ---- long lines are none

twenty : (n : ℕ) → n < 2 ^ 64 → length (decimal n) ≤ 20
twenty n h = length-decimal-le 20 n (omega arith) (omega (arith, h)) h

one_long : (w : Text) (n : ℕ) → length w ≤ 7 → n < 2 ^ 64 → length (w ++ (32 ∷ decimal n)) ≤ 48
one_long w n l h =
    let a : length (w ++ (32 ∷ decimal n)) ≡ length w + length (32 ∷ decimal n) = length-append w (32 ∷ decimal n) in
    let b : length (decimal n) ≤ 20 = twenty n h in
    omega (arith, a, b, l)

two_long : (w b : Text) (n : ℕ) → length w ≤ 6 → n < 2 ^ 64 → length b ≤ 20 → length (w ++ (32 ∷ (decimal n ++ (32 ∷ b)))) ≤ 48
two_long w b n l h k =
    let x : length (w ++ (32 ∷ (decimal n ++ (32 ∷ b)))) ≡ length w + length (32 ∷ (decimal n ++ (32 ∷ b))) = length-append w (32 ∷ (decimal n ++ (32 ∷ b))) in
    let y : length (decimal n ++ (32 ∷ b)) ≡ length (decimal n) + length (32 ∷ b) = length-append (decimal n) (32 ∷ b) in
    let z : length (decimal n) ≤ 20 = twenty n h in
    omega (arith, x, y, z, l, k)

line_short : (l : Line) → LineFits l → length (line_body l) ≤ 48
line_short (Tells (Protect n)) h = one_long (codes "protect") n (omega arith) h
line_short (Tells (Ensure n)) h = one_long (codes "ensure") n (omega arith) h
line_short (Tells (Curtail n)) h = one_long (codes "curtail") n (omega arith) h
line_short (Tells (Signal n)) h = one_long (codes "signal") n (omega arith) h
line_short (Tells (Outer n)) h = one_long (codes "outer") n (omega arith) h
line_short (Tells (Search n)) h = one_long (codes "search") n (omega arith) h
line_short (Tells (Tried n true)) h = two_long (codes "tried") (codes "yes") n (omega arith) h (omega arith)
line_short (Tells (Tried n false)) h = two_long (codes "tried") (codes "no") n (omega arith) h (omega arith)
line_short (Tells (Handle m n)) h = two_long (codes "handle") (decimal n) m (omega arith) h.0 (twenty n h.1)
line_short (Tells (Default n)) h = one_long (codes "default") n (omega arith) h
line_short (Tells Known) h = omega arith
line_short (Tells (Action n)) h = one_long (codes "action") n (omega arith) h
line_short (Tells (Again n)) h = one_long (codes "again") n (omega arith) h
line_short (Tells (Ask m n)) h = two_long (codes "ask") (decimal n) m (omega arith) h.0 (twenty n h.1)
line_short (Tells (End n true)) h = one_long (codes "cut") n (omega arith) h
line_short (Tells (End n false)) h = one_long (codes "end") n (omega arith) h
line_short (Stops Done) h = omega arith
line_short (Stops Unhandled) h = omega arith
line_short (Stops Steps) h = omega arith
line_short (Stops Depth) h = omega arith
line_short (Stops Cells) h = omega arith
line_short (Stops Integer) h = omega arith

long_is_none : (bs : Text) → 48 < length bs → read_line bs ≡ None
long_is_none bs l = go (read_line bs) refl
  where
    go : (o : Option Line) → read_line bs ≡ o → o ≡ None
    go None e = refl
    go (Some k) e =
        let r = (reads_lines bs k).1 e in
        let s : length (line_body k) ≤ 48 = line_short k r.0 in
        let t : length (line_body k) ≡ length bs = ap length r.1 in
        let none : ⊥ = omega (arith, s, t, l) in
        absurd none

-- ---- what is kept of a line is enough

take_all : (k : ℕ) (t : Text) → length t ≤ k → take k t ≡ t
take_all zero [] l = refl
take_all zero (c ∷ t) l = let none : ⊥ = omega (arith, l) in absurd none
take_all (suc k) [] l = refl
take_all (suc k) (c ∷ t) l = ap (λ x. c ∷ x) (take_all k t (omega (arith, l)))

take_twice : (k : ℕ) (t u : Text) → take k (take k t ++ u) ≡ take k (t ++ u)
take_twice zero t u = refl
take_twice (suc k) [] u = refl
take_twice (suc k) (c ∷ t) u = ap (λ x. c ∷ x) (take_twice k t u)

kept_reads : (t : Text) → read_line (kept t) ≡ read_line t
kept_reads t = go (nat_lt 48 (length t)) refl
  where
    go : (b : Bool) → nat_lt 48 (length t) ≡ b → read_line (kept t) ≡ read_line t
    go true q =
        let l : 48 < length t = ltb-true 48 (length t) q in
        let n : length (take 49 t) ≡ 49 = length-take-le 49 t (omega (arith, l)) in
        long_is_none (take 49 t) (omega (arith, n)) ∙ sym (long_is_none t l)
    go false q = ap read_line (take_all 49 t (grind (arith, q)))

kept_ends : (s : Standing) (line : ℕ) (t : Text) → at_end s line (kept t) ≡ at_end s line t
kept_ends s line [] = refl
kept_ends s line (c ∷ t) = refl

pub kept_same : (rest : Text) (s : Standing) (line room : ℕ) (t : Text) → audit_from rest s line room (kept t) ≡ audit_from rest s line room t
kept_same [] s line room t = kept_ends s line t
kept_same (c ∷ cs) s line zero t = refl
kept_same (c ∷ cs) s line (suc left) t = go (nat_eq c 10) (λ u. kept_same cs s line left u)
  where
    go : (b : Bool) → ((u : Text) → audit_from cs s line left (kept u) ≡ audit_from cs s line left u) → byte_by b c cs s line left (kept t) ≡ byte_by b c cs s line left t
    go true on = ap (λ o. read_by o cs s line left) (kept_reads t)
    go false on = sym (on (kept t ++ c ∷ [])) ∙ ap (audit_from cs s line left) (take_twice 49 t (c ∷ [])) ∙ on (t ++ c ∷ [])

-- ---- bytes

-- bytes of a line that isn't whole
pub keeps_on : (p : Place) (b : Text) → no_end b ≡ true → length b ≤ p.room → Judges p b None (place p.standing p.line (p.room - length b) (kept (p.so_far ++ b)))
unfolding answer_at
keeps_on p b h l rest = body_walk b rest p.standing p.line p.room p.so_far h l ∙ sym (kept_same rest p.standing p.line (p.room - length b) (p.so_far ++ b))

-- a byte 10
at_ten : (rest : Text) (s : Standing) (line room : ℕ) (so_far : Text) → 0 < room → audit_from (10 ∷ rest) s line room so_far ≡ read_by (read_line so_far) rest s line (room - 1)
at_ten rest s line zero so_far h = let none : ⊥ = omega (arith, h) in absurd none
at_ten rest s line (suc left) so_far h = let e : suc left - 1 ≡ left = omega arith in ap (read_by (read_line so_far) rest s line) (sym e)

module _ (p new : Place) (h : 0 < p.room) where
  pub whole_none : read_line p.so_far ≡ None → Judges p (10 ∷ []) (Some (answer.Refused p.line reason.Line)) new
  unfolding answer_at
  whole_none e rest = at_ten rest p.standing p.line p.room p.so_far h ∙ ap (λ o. read_by o rest p.standing p.line (p.room - 1)) e

  module _ (l : Line) (e : read_line p.so_far ≡ Some l) where
    pub whole_order : next_of p.standing l ≡ None → Judges p (10 ∷ []) (Some (answer.Refused p.line reason.Order)) new
    unfolding answer_at
    whole_order q rest = at_ten rest p.standing p.line p.room p.so_far h ∙ ap (λ o. read_by o rest p.standing p.line (p.room - 1)) e ∙ ap (λ o. judged_by o rest p.line (p.room - 1)) q

    pub whole_on : (s : Standing) → next_of p.standing l ≡ Some s → Judges p (10 ∷ []) None (place s (p.line + 1) (p.room - 1) [])
    unfolding answer_at
    whole_on s q rest = at_ten rest p.standing p.line p.room p.so_far h ∙ ap (λ o. read_by o rest p.standing p.line (p.room - 1)) e ∙ ap (λ o. judged_by o rest p.line (p.room - 1)) q

pub judges_judges : (p q r : Place) (b c : Text) (a : Option AuditAnswer) → Judges p b None q → Judges q c a r → Judges p (b ++ c) a r
judges_judges p q r b c None one two = λ rest. ap (answer_at p) (append_assoc b c rest) ∙ one (c ++ rest) ∙ two rest
judges_judges p q r b c (Some (answer.Disciplined n)) one two = absurd two
judges_judges p q r b c (Some (answer.Refused n why)) one two = λ rest. ap (answer_at p) (append_assoc b c rest) ∙ one (c ++ rest) ∙ two rest
judges_judges p q r b c (Some answer.ReadFault) one two = absurd two
judges_judges p q r b c (Some answer.OutOfMemory) one two = tt

-- a part of the bytes, and the next
pub judges_more : (p q r : Place) (bytes : Text) (at count : ℕ) (a : Option AuditAnswer) → Judges p (take at bytes) None q → Judges q (take count (take (length bytes - at) (drop at bytes))) a r → Judges p (take (at + count) bytes) a r
judges_more p q r bytes at count a one two =
    let e : take (at + count) bytes ≡ take at bytes ++ take count (take (length bytes - at) (drop at bytes)) = take-add at count bytes ∙ ap (λ t. take at bytes ++ take count t) (sym (take_rest bytes at)) in
    subst (λ t. Judges p t a r) (sym e) (judges_judges p q r (take at bytes) (take count (take (length bytes - at) (drop at bytes))) a one two)

pub judges_all : (p r : Place) (bytes : Text) (at : ℕ) (a : Option AuditAnswer) → length bytes ≤ at → Judges p (take at bytes) a r → Judges p bytes a r
judges_all p r bytes at a l h = subst (λ t. Judges p t a r) (take_all at bytes l) h

-- a refusal by the first bytes stands
pub judges_on : (p r : Place) (bytes : Text) (at : ℕ) (a : AuditAnswer) → Judges p (take at bytes) (Some a) r → Judges p bytes (Some a) r
judges_on p r bytes at (answer.Disciplined n) h = absurd h
judges_on p r bytes at (answer.Refused n why) h = λ rest.
    ap (answer_at p) (ap (λ t. t ++ rest) (sym (take-append-drop at bytes)) ∙ append_assoc (take at bytes) (drop at bytes) rest) ∙ h (drop at bytes ++ rest)
judges_on p r bytes at answer.ReadFault h = absurd h
judges_on p r bytes at answer.OutOfMemory h = tt

pub too_long : (p r : Place) (bytes : Text) → 0 < length bytes → p.room ≡ 0 → Judges p bytes (Some (answer.Refused p.line reason.InputTooLong)) r
unfolding answer_at
too_long p r [] h e = let none : ⊥ = omega (arith, h) in absurd none
too_long p r (c ∷ cs) h e = λ rest. ap (λ room. audit_from (c ∷ (cs ++ rest)) p.standing p.line room p.so_far) e

-- ---- sources

pub prepend_nil : (now : Option Text) → prepend_known [] now ≡ now
prepend_nil None = refl
prepend_nil (Some bytes) = refl

-- the source is at its end
at_empty : (p : Place) → answer_at p [] ≡ at_end p.standing p.line p.so_far
unfolding answer_at
at_empty p = refl

if_empty : (p : Place) (left : Option Text) (a : AuditAnswer) → answer_at p [] ≡ a → IfSome left (λ bytes. bytes ≡ []) → IfSome left (λ bytes. answer_at p bytes ≡ a)
if_empty p None a e h = tt
if_empty p (Some bytes) a e h = ap (answer_at p) h ∙ e

pub finishes : (p : Place) (left now : Option Text) (buffer : Text) → Gave left now 0 buffer → Answers p left (at_end p.standing p.line p.so_far) p now
finishes p left now buffer g = go p.standing p.so_far refl
  where
    none : IfSome left (λ bytes. bytes ≡ [])
    none = g.ended refl

    go : (s : Standing) (t : Text) → at_end p.standing p.line p.so_far ≡ at_end s p.line t → Answers p left (at_end s p.line t) p now
    go s (c ∷ t) e = if_empty p left (answer.Refused p.line reason.Line) (at_empty p ∙ e) none
    go Stopped [] e = (if_empty p left (answer.Disciplined (p.line - 1)) (at_empty p ∙ e) none, subst (λ o. IfSome o (λ bytes. bytes ≡ [])) (g.bytes ∙ prepend_nil now) none)
    go (Going a) [] e = if_empty p left (answer.Refused p.line reason.Missing) (at_empty p ∙ e) none

pub turned : (p r : Place) (left now : Option Text) (bytes : Text) (a : Option AuditAnswer) → left ≡ prepend_known bytes now → Judges p bytes a r → (a ≡ None → r.room < p.room) → Turns p left a r now
turned p r left now bytes None e h l = (record { taken = bytes; front = e; same = h }, l refl)
turned p r left now bytes (Some (answer.Disciplined n)) e h l = absurd h
turned p r left None bytes (Some (answer.Refused n why)) e h l = subst (λ o. IfSome o (λ t. answer_at p t ≡ answer.Refused n why)) (sym e) tt
turned p r left (Some rest) bytes (Some (answer.Refused n why)) e h l = subst (λ o. IfSome o (λ t. answer_at p t ≡ answer.Refused n why)) (sym e) (h rest)
turned p r left now bytes (Some answer.ReadFault) e h l = absurd h
turned p r left now bytes (Some answer.OutOfMemory) e h l = tt

pub moves_none : (p : Place) (left now : Option Text) → now ≡ left → Moves p left p now
moves_none p left now e = record { taken = []; front = sym e ∙ sym (prepend_nil now); same = λ rest. refl }

pub moves_moves : (p q r : Place) (left between now : Option Text) → Moves p left q between → Moves q between r now → Moves p left r now
moves_moves p q r left between now one two = record {
  taken = one.taken ++ two.taken;
  front = one.front ∙ ap (prepend_known one.taken) two.front ∙ prepend_known-append now one.taken two.taken;
  same = λ rest. ap (answer_at p) (append_assoc one.taken two.taken rest) ∙ one.same (two.taken ++ rest) ∙ two.same rest;
}

-- what holds of what is left holds of all
moved : (p q : Place) (left between : Option Text) (a : AuditAnswer) → Moves p left q between → IfSome between (λ bytes. answer_at q bytes ≡ a) → IfSome left (λ bytes. answer_at p bytes ≡ a)
moved p q left None a m h = subst (λ o. IfSome o (λ bytes. answer_at p bytes ≡ a)) (sym m.front) tt
moved p q left (Some rest) a m h = subst (λ o. IfSome o (λ bytes. answer_at p bytes ≡ a)) (sym m.front) (m.same rest ∙ h)

pub moves_answers : (p q r : Place) (left between now : Option Text) (a : AuditAnswer) → Moves p left q between → Answers q between a r now → Answers p left a r now
moves_answers p q r left between now (answer.Disciplined n) m h = (moved p q left between (answer.Disciplined n) m h.0, h.1)
moves_answers p q r left between now (answer.Refused n why) m h = moved p q left between (answer.Refused n why) m h
moves_answers p q r left between now answer.ReadFault m h = moves_moves p q r left between now m h
moves_answers p q r left between now answer.OutOfMemory m h = tt

-- ---- conclusions

whole_is : (bytes : Text) → answer_at first_place bytes ≡ audit_of bytes
unfolding answer_at audit_of
whole_is bytes = refl

judges_so : (left : Option Text) (a : AuditAnswer) → IfSome left (λ bytes. answer_at first_place bytes ≡ a) → IfSome left (λ bytes. Audits bytes a)
judges_so None a h = tt
judges_so (Some bytes) a h = subst (Audits bytes) (sym (whole_is bytes) ∙ h) (audits_each bytes)

anything : (left : Option Text) → IfSome left (λ bytes. Unit {0})
anything None = tt
anything (Some bytes) = tt

pub concludes_judged : (left now : Option Text) (a : AuditAnswer) → Concludes left a now → IfSome left (λ bytes. Judged bytes a)
concludes_judged left now (answer.Disciplined n) h = judges_so left (answer.Disciplined n) h.answers.0
concludes_judged left now (answer.Refused n why) h = judges_so left (answer.Refused n why) h.answers
concludes_judged left now answer.ReadFault h = anything left
concludes_judged left now answer.OutOfMemory h = anything left

pub concludes_read : (left now : Option Text) (a : AuditAnswer) → Concludes left a now → IfDisciplined a (IfSome now (λ bytes. bytes ≡ []))
concludes_read left now (answer.Disciplined n) h = h.answers.1
concludes_read left now (answer.Refused n why) h = tt
concludes_read left now answer.ReadFault h = tt
concludes_read left now answer.OutOfMemory h = tt

-- so many bytes that end no line
abbrev spaces : ℕ → Text
spaces zero = []
spaces (suc n) = 32 ∷ spaces n

spaces_long : (n : ℕ) → length (spaces n) ≡ n
spaces_long zero = refl
spaces_long (suc n) = ap suc (spaces_long n)

spaces_endless : (n : ℕ) → no_end (spaces n) ≡ true
spaces_endless zero = refl
spaces_endless (suc n) = spaces_endless n

-- a line that goes on is too long
goes_too_long : (p : Place) → answer_at p (spaces p.room ++ 32 ∷ []) ≡ answer.Refused p.line reason.InputTooLong
unfolding answer_at
goes_too_long p =
    let l : length (spaces p.room) ≤ p.room = omega (arith, spaces_long p.room) in
    let z : p.room - length (spaces p.room) ≡ 0 = omega (arith, spaces_long p.room) in
    body_walk (spaces p.room) (32 ∷ []) p.standing p.line p.room p.so_far (spaces_endless p.room) l
    ∙ ap (λ room. audit_from (32 ∷ []) p.standing p.line room (p.so_far ++ spaces p.room)) z

ends_otherwise : (s : Standing) (line : ℕ) (t : Text) → at_end s line t ≡ answer.Refused line reason.InputTooLong → ⊥
ends_otherwise s line (c ∷ t) e = grind (arith, e)
ends_otherwise Stopped line [] e = grind (arith, e)
ends_otherwise (Going a) line [] e = grind (arith, e)

unsettled : (taken : Text) (p : Place) → ((rest : Text) → answer_at first_place (taken ++ rest) ≡ answer_at p rest) → (line : ℕ) (why : AuditReason) → Settles taken line why → ⊥
unsettled taken p same line why s =
    let at : (rest : Text) → answer.Refused line why ≡ answer_at p rest = λ rest. audits_once (taken ++ rest) (answer.Refused line why) (s rest) ∙ sym (whole_is (taken ++ rest)) ∙ same rest in
    ends_otherwise p.standing p.line p.so_far (sym (at_empty p) ∙ sym (at []) ∙ at (spaces p.room ++ 32 ∷ []) ∙ goes_too_long p)

pub concludes_open : (left now : Option Text) (a : AuditAnswer) → Concludes left a now → IfFault a (IfSome left (λ bytes. LeavesAuditOpen bytes now))
concludes_open left now (answer.Disciplined n) h = tt
concludes_open left now (answer.Refused n why) h = tt
concludes_open None now answer.ReadFault h = tt
concludes_open (Some bytes) now answer.ReadFault h = record { taken = h.answers.taken; front = h.answers.front; unsettled = unsettled h.answers.taken h.place h.answers.same }
concludes_open left now answer.OutOfMemory h = tt

-- ---- for the functions

module _ (p q r : Place) (l : Line) (h : 0 < p.room) (e : read_line p.so_far ≡ Some l) where
  pub line_on : next_of p.standing l ≡ Some q.standing → q.line ≡ p.line → q.room ≡ p.room → r ≡ place q.standing (q.line + 1) (q.room - 1) [] → Judges p (10 ∷ []) None r
  line_on s a b same =
      let there : place q.standing (p.line + 1) (p.room - 1) [] ≡ r = ap (λ n. place q.standing (n + 1) (p.room - 1) []) (sym a) ∙ ap (λ n. place q.standing (q.line + 1) (n - 1) []) (sym b) ∙ sym same in
      subst (λ x. Judges p (10 ∷ []) None x) there (whole_on p r h l e q.standing s)

  pub line_refused : (n : ℕ) → n ≡ p.line → next_of p.standing l ≡ None → Judges p (10 ∷ []) (Some (answer.Refused n reason.Order)) r
  line_refused n a s = subst (λ m. Judges p (10 ∷ []) (Some (answer.Refused m reason.Order)) r) (sym a) (whole_order p r h l e s)

pub whole_refused : (p r : Place) (n : ℕ) → 0 < p.room → n ≡ p.line → read_line p.so_far ≡ None → Judges p (10 ∷ []) (Some (answer.Refused n reason.Line)) r
whole_refused p r n h a e = subst (λ m. Judges p (10 ∷ []) (Some (answer.Refused m reason.Line)) r) (sym a) (whole_none p r h e)

pub some_kept : (p r : Place) (bytes : Text) → Nowhere (Passes (is_byte 10) bytes) 0 (length bytes) → length bytes ≤ p.room → r ≡ place p.standing p.line (p.room - length bytes) (kept (p.so_far ++ bytes)) → Judges p (take (length bytes) bytes) None r
some_kept p r bytes h l e =
    subst (λ t. Judges p t None r) (sym (take-length bytes)) (subst (λ x. Judges p bytes None x) (sym e) (keeps_on p bytes (line_none bytes h) l))

pub some_whole : (p q r : Place) (bytes : Text) (end : ℕ) (a : Option AuditAnswer) → NoneBefore (Passes (is_byte 10) bytes) 0 (length bytes) end × Passes (is_byte 10) bytes end → length bytes ≤ p.room
    → q ≡ place p.standing p.line (p.room - length (take end bytes)) (kept (p.so_far ++ take end bytes)) → Judges q (10 ∷ []) a r → Judges p (take (end + 1) bytes) a r
some_whole p q r bytes end a h l e on =
    let f = line_some bytes end h in
    let n : length (take end bytes) ≡ end = length-take-le end bytes (omega (arith, h.0.high)) in
    let one : Judges p (take end bytes) None q = subst (λ x. Judges p (take end bytes) None x) (sym e) (keeps_on p (take end bytes) f.0 (omega (arith, n, h.0.high, l))) in
    subst (λ t. Judges p t a r) (sym f.1) (judges_judges p q r (take end bytes) (10 ∷ []) a one on)

pub beyond : (p r : Place) (bytes : Text) (n : ℕ) → 0 < length bytes → p.room ≡ 0 → n ≡ p.line → Judges p bytes (Some (answer.Refused n reason.InputTooLong)) r
beyond p r bytes n h e a = subst (λ m. Judges p bytes (Some (answer.Refused m reason.InputTooLong)) r) (sym a) (too_long p r bytes h e)

pub finished : (p : Place) (left now : Option Text) (buffer : Text) (n : ℕ) (a : AuditAnswer) → n ≡ 0 → Gave left now n buffer → a ≡ at_end p.standing p.line p.so_far → Answers p left a p now
finished p left now buffer n a e g same = subst (λ x. Answers p left x p now) (sym same) (finishes p left now buffer (subst (λ m. Gave left now m buffer) e g))

take_min : (t : Text) (k : ℕ) → take (min (length t) k) t ≡ take k t
take_min t k = go (nat_lt k (length t)) refl
  where
    go : (b : Bool) → nat_lt k (length t) ≡ b → take (min (length t) k) t ≡ take k t
    go true q = let l : k < length t = ltb-true k (length t) q in let m : min (length t) k ≡ k = omega (arith, l) in ap (λ n. take n t) m
    go false q =
        let l : length t ≤ k = grind (arith, q) in
        let m : min (length t) k ≡ length t = omega (arith, l) in
        ap (λ n. take n t) m ∙ take-length t ∙ sym (take_all k t l)

take_over : (k : ℕ) (old run : Text) → length old ≤ k → old ++ take (k - length old) run ≡ take k (old ++ run)
take_over k [] run l = let e : k - 0 ≡ k = omega arith in ap (λ n. take n run) e
take_over zero (c ∷ old) run l = let none : ⊥ = omega (arith, l) in absurd none
take_over (suc k) (c ∷ old) run l = let e : suc k - length (c ∷ old) ≡ k - length old = omega arith in ap (λ n. c ∷ (old ++ take n run)) e ∙ ap (λ t. c ∷ t) (take_over k old run (omega (arith, l)))

-- as many are added as there is room for
pub kept_added : (old run new : Text) (room count : ℕ) → length old ≤ 49 → room ≡ 49 - length old → count ≡ min (length run) room → new ≡ old ++ take count run → new ≡ take 49 (old ++ run)
kept_added old run new room count l a b e =
    e ∙ ap (λ n. old ++ take n run) b ∙ ap (λ n. old ++ take (min (length run) n) run) a ∙ ap (λ t. old ++ t) (take_min run (49 - length old)) ∙ take_over 49 old run l
