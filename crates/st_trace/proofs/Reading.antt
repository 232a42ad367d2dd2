-- Lines are read as they are printed.
use Rattle.std.proofs.Common.{◌≡◌, ℕ, zero, suc, ◌+◌, ◌-◌, ◌*◌, ◌/◌, ◌%◌, ◌^◌, ◌<◌, ◌≤◌, ◌&&◌, not, Bool, true, false, List, [], ◌∷◌, ◌++◌, length, Option, Some, None, refl, sym, ap, ◌∙◌, subst, arith, rules, nat_eq, nat_le, nat_lt, codes, decimal, if◌then◌else◌, ne_eqb, eqb-true, lt-ltb, ltb-true}
use Rattle.std.specs.Str.{bytes_eq, all_ascii_digits}
use Rattle.std.specs.Char.{digit_value, is_ascii_digit}
use Rattle.std.specs.Str.Parse.{AllDigits}
use Rattle.std.proofs.lemmas.Fmt.{decimal_is_IsNumeral, decimal-digits_value, digits_decimal, digits_value-decimal, decimal_digit, decimal_by_steps}
use Rattle.std.proofs.lemmas.Str.Parse.{IsNumeralModel, FoldsDigits, tells_all_ascii_digits, numerals_by_fold}
use Rattle.std.proofs.lemmas.Slice.Eq.{bytes_eq-Decides}
use Rattle.st_code.specs.Texts.{Text}
use Rattle.st_rules.specs.Events.{Event, Protect, Ensure, Curtail, Signal, Outer, Search, Tried, Handle, Default, Known, Action, Again, Ask, End}
use Rattle.st_trace.specs.declared.line.StopWord.TheVariants.{Done, Unhandled, Steps, Depth, Cells, Integer}
use Rattle.st_trace.specs.Lines.{Line, Tells, Stops}
use Rattle.st_trace.specs.Bytes.{event_text, line_body, EventFits, LineFits}
use Rattle.st_trace.specs.Reading.{onto_first, words_of, with_digit, value_behind, is_plain, number_in, told_by, stop_in, numbered_in, with_number, judged_in, twice_in, line_in, read_line, ReadsLines}

clash : {A : Type 0} → false ≡ true → A
clash e = let none : ⊥ = grind (arith, e) in absurd none

-- ---- numbers

abbrev read_on : ℕ → List ℕ → ℕ
read_on n [] = n
read_on n (c ∷ cs) = read_on (n * 10 + (c - 48)) cs

folds : FoldsDigits read_on
folds = search rules

own : IsNumeralModel (λ ds. all_ascii_digits ds ≡ true) (read_on 0)
own = numerals_by_fold _ tells_all_ascii_digits read_on folds

read_on_grows : (cs : Text) (n : ℕ) → n ≤ read_on n cs
read_on_grows [] n = omega arith
read_on_grows (c ∷ cs) n = let h : n * 10 + (c - 48) ≤ read_on (n * 10 + (c - 48)) cs = read_on_grows cs (n * 10 + (c - 48)) in omega (arith, h)

value_none : (cs : Text) → value_behind None cs ≡ None
value_none [] = refl
value_none (c ∷ cs) = refl

value_reads : (cs : Text) (n m : ℕ) → n < 2 ^ 64 → value_behind (Some n) cs ≡ Some m → (all_ascii_digits cs ≡ true) × (read_on n cs ≡ m) × (m < 2 ^ 64)
value_reads [] n m h e = let q : n ≡ m = grind (arith, e) in (refl, q, subst (λ k. k < 2 ^ 64) q h)
value_reads (c ∷ cs) n m h e = go (nat_le 48 c && nat_le c 57) (nat_lt (n * 10 + (c - 48)) (2 ^ 64)) refl refl (λ k. value_reads cs (n * 10 + (c - 48)) m k) e
  where
    go : (a b : Bool) → (nat_le 48 c && nat_le c 57) ≡ a → nat_lt (n * 10 + (c - 48)) (2 ^ 64) ≡ b
        → (n * 10 + (c - 48) < 2 ^ 64 → value_behind (Some (n * 10 + (c - 48))) cs ≡ Some m → (all_ascii_digits cs ≡ true) × (read_on (n * 10 + (c - 48)) cs ≡ m) × (m < 2 ^ 64))
        → value_behind (if a then (if b then Some (n * 10 + (c - 48)) else None) else None) cs ≡ Some m
        → (all_ascii_digits (c ∷ cs) ≡ true) × (read_on n (c ∷ cs) ≡ m) × (m < 2 ^ 64)
    go true true p q on e = let r = on (ltb-true (n * 10 + (c - 48)) (2 ^ 64) q) e in (ap (λ d. d && all_ascii_digits cs) p ∙ r.0, r.1, r.2)
    go true false p q on e = let none : None ≡ Some m = sym (value_none cs) ∙ e in grind (arith, none)
    go false b p q on e = let none : None ≡ Some m = sym (value_none cs) ∙ e in grind (arith, none)

value_of_digits : (cs : Text) (n : ℕ) → all_ascii_digits cs ≡ true → read_on n cs < 2 ^ 64 → value_behind (Some n) cs ≡ Some (read_on n cs)
value_of_digits [] n h l = refl
value_of_digits (c ∷ cs) n h l = go (is_ascii_digit c) refl h (λ k. value_of_digits cs (n * 10 + (c - 48)) k l)
  where
    go : (a : Bool) → is_ascii_digit c ≡ a → (a && all_ascii_digits cs) ≡ true → (all_ascii_digits cs ≡ true → value_behind (Some (n * 10 + (c - 48))) cs ≡ Some (read_on (n * 10 + (c - 48)) cs)) → value_behind (with_digit n c) cs ≡ Some (read_on (n * 10 + (c - 48)) cs)
    go true p h on =
        let le : n * 10 + (c - 48) ≤ read_on (n * 10 + (c - 48)) cs = read_on_grows cs (n * 10 + (c - 48)) in
        let small : nat_lt (n * 10 + (c - 48)) (2 ^ 64) ≡ true = lt-ltb (n * 10 + (c - 48)) (2 ^ 64) (omega (arith, le, l)) in
        ap (λ b. value_behind (if b then (if nat_lt (n * 10 + (c - 48)) (2 ^ 64) then Some (n * 10 + (c - 48)) else None) else None) cs) p
        ∙ ap (λ b. value_behind (if b then Some (n * 10 + (c - 48)) else None) cs) small
        ∙ on h
    go false p h on = clash h

abbrev leads : Text → Bool
leads [] = false
leads (c ∷ cs) = not (nat_eq c 48)

leads_more : (ds : Text) (d : ℕ) → leads ds ≡ true → leads (ds ++ d ∷ []) ≡ true
leads_more [] d h = clash h
leads_more (c ∷ cs) d h = h

plain_of : (ds : Text) → leads ds ≡ true → is_plain ds ≡ true
plain_of [] h = clash h
plain_of (c ∷ []) h = refl
plain_of (c ∷ d ∷ cs) h = go (nat_eq c 48) h
  where
    go : (b : Bool) → not b ≡ true → (if b then false else true) ≡ true
    go true h = clash h
    go false h = refl

decimal_leads : (n : ℕ) → n < 2 ^ 64 → 1 ≤ n → leads (decimal n) ≡ true
decimal_leads = decimal_by_steps (λ n ds. 1 ≤ n → leads ds ≡ true) one more
  where
    one : (n : ℕ) → n < 10 → 1 ≤ n → leads ((48 + n) ∷ []) ≡ true
    one n h l = ap not (ne_eqb (48 + n) 48 (λ q. omega (arith, q, l)))

    more : (n : ℕ) (ds : List ℕ) → 10 ≤ n → (1 ≤ n / 10 → leads ds ≡ true) → 1 ≤ n → leads (ds ++ ((48 + n % 10) ∷ [])) ≡ true
    more n ds h on l = leads_more ds (48 + n % 10) (on (omega (arith, h)))

decimal_plain : (n : ℕ) → n < 2 ^ 64 → is_plain (decimal n) ≡ true
decimal_plain zero h = ap is_plain (decimal_digit 0 (omega arith))
decimal_plain (suc n) h = plain_of (decimal (suc n)) (decimal_leads (suc n) h (omega arith))

number_printed : (n : ℕ) → n < 2 ^ 64 → number_in (decimal n) ≡ Some n
number_printed n h =
    let v : read_on 0 (decimal n) ≡ n = digits_value-decimal own n h in
    ap (λ b. if b then value_behind (Some 0) (decimal n) else None) (decimal_plain n h)
    ∙ value_of_digits (decimal n) 0 (digits_decimal own n h) (subst (λ k. k < 2 ^ 64) (sym v) h)
    ∙ ap Some v

number_reads : (cs : Text) (n : ℕ) → number_in cs ≡ Some n → (n < 2 ^ 64) × (decimal n ≡ cs)
number_reads [] n e = let none : ⊥ = grind (arith, e) in absurd none
number_reads (c ∷ []) n e =
    let r = value_reads (c ∷ []) 0 n (omega arith) e in
    (r.2, sym (ap decimal r.1) ∙ decimal-digits_value own (c ∷ []) r.0 (omega arith) (λ q. refl) (subst (λ k. k < 2 ^ 64) (sym r.1) r.2))
number_reads (c ∷ d ∷ cs) n e = go (nat_eq c 48) refl e
  where
    go : (b : Bool) → nat_eq c 48 ≡ b → (if (if b then false else true) then value_behind (Some 0) (c ∷ d ∷ cs) else None) ≡ Some n → (n < 2 ^ 64) × (decimal n ≡ c ∷ d ∷ cs)
    go true q e = let none : ⊥ = grind (arith, e) in absurd none
    go false q e =
        let r = value_reads (c ∷ d ∷ cs) 0 n (omega arith) e in
        (r.2, sym (ap decimal r.1) ∙ decimal-digits_value own (c ∷ d ∷ cs) r.0 (omega arith) (λ z. clash (sym q ∙ ap (λ k. nat_eq k 48) z)) (subst (λ k. k < 2 ^ 64) (sym r.1) r.2))

-- ---- words

abbrev Spaceless : Text → Type 0
Spaceless [] = Unit {0}
Spaceless (c ∷ cs) = (nat_eq c 32 ≡ false) × Spaceless cs

space_is_none : digit_value 32 < 10 → ⊥
space_is_none h = omega (arith, h)

no_space : (c : ℕ) → digit_value c < 10 → nat_eq c 32 ≡ false
no_space c h = ne_eqb c 32 (λ q. space_is_none (subst (λ k. digit_value k < 10) q h))

digits_spaceless : (ds : Text) → AllDigits 10 ds → Spaceless ds
digits_spaceless [] h = tt
digits_spaceless (c ∷ cs) h = (no_space c h.0, digits_spaceless cs h.1)

decimal_spaceless : (n : ℕ) → n < 2 ^ 64 → Spaceless (decimal n)
decimal_spaceless n h = digits_spaceless (decimal n) (decimal_is_IsNumeral n h).0.1

pub words_last : (w : Text) → Spaceless w → words_of w ≡ w ∷ []
words_last [] h = refl
words_last (c ∷ cs) h = ap (λ b. if b then [] ∷ words_of cs else onto_first c (words_of cs)) h.0 ∙ ap (onto_first c) (words_last cs h.1)

pub words_front : (w rest : Text) → Spaceless w → words_of (w ++ (32 ∷ rest)) ≡ w ∷ words_of rest
words_front [] rest h = refl
words_front (c ∷ cs) rest h = ap (λ b. if b then [] ∷ words_of (cs ++ (32 ∷ rest)) else onto_first c (words_of (cs ++ (32 ∷ rest)))) h.0 ∙ ap (onto_first c) (words_front cs rest h.1)

-- words with a space between are the bytes again
abbrev joined : List Text → Text
joined [] = []
joined (w ∷ []) = w
joined (w ∷ v ∷ ws) = w ++ (32 ∷ joined (v ∷ ws))

joined_onto : (c : ℕ) (ws : List Text) → joined (onto_first c ws) ≡ c ∷ joined ws
joined_onto c [] = refl
joined_onto c (w ∷ []) = refl
joined_onto c (w ∷ v ∷ ws) = refl

joined_behind : (ws : List Text) → 1 ≤ length ws → joined ([] ∷ ws) ≡ 32 ∷ joined ws
joined_behind [] h = let none : ⊥ = omega (arith, h) in absurd none
joined_behind (w ∷ ws) h = refl

some_onto : (c : ℕ) (ws : List Text) → 1 ≤ length (onto_first c ws)
some_onto c [] = omega arith
some_onto c (w ∷ ws) = omega arith

some_words : (cs : Text) → 1 ≤ length (words_of cs)
some_words [] = omega arith
some_words (c ∷ cs) = go (nat_eq c 32)
  where
    go : (b : Bool) → 1 ≤ length (if b then [] ∷ words_of cs else onto_first c (words_of cs))
    go true = omega arith
    go false = some_onto c (words_of cs)

joined_words : (cs : Text) → joined (words_of cs) ≡ cs
joined_words [] = refl
joined_words (c ∷ cs) = go (nat_eq c 32) refl (joined_words cs)
  where
    go : (b : Bool) → nat_eq c 32 ≡ b → joined (words_of cs) ≡ cs → joined (if b then [] ∷ words_of cs else onto_first c (words_of cs)) ≡ c ∷ cs
    go true q e = joined_behind (words_of cs) (some_words cs) ∙ ap (λ k. k ∷ joined (words_of cs)) (sym (eqb-true c 32 q)) ∙ ap (λ t. c ∷ t) e
    go false q e = joined_onto c (words_of cs) ∙ ap (λ t. c ∷ t) e

no_line : (w a b : Text) (ws : List Text) → 1 ≤ length ws → None ≡ line_in (w ∷ a ∷ b ∷ ws)
no_line w a b [] h = let none : ⊥ = omega (arith, h) in absurd none
no_line w a b (c ∷ ws) h = refl

-- four words are no line
pub too_many : (w a b rest behind last : Text) → words_of rest ≡ a ∷ words_of behind → words_of behind ≡ b ∷ words_of last → None ≡ line_in (w ∷ words_of rest)
too_many w a b rest behind last e f = no_line w a b (words_of last) (some_words last) ∙ ap (λ ws. line_in (w ∷ ws)) (sym (e ∙ ap (λ ws. a ∷ ws) f))

-- ---- what is printed is read

found_one : (w : Text) (n : ℕ) (e : Event) → n < 2 ^ 64 → Spaceless w → line_in (w ∷ decimal n ∷ []) ≡ told_by (with_number (number_in (decimal n)) (numbered_in w)) → numbered_in w n ≡ Some e → line_in (words_of (w ++ (32 ∷ decimal n))) ≡ Some (Tells e)
found_one w n e h s c q =
    ap line_in (words_front w (decimal n) s ∙ ap (λ ws. w ∷ ws) (words_last (decimal n) (decimal_spaceless n h)))
    ∙ c ∙ ap (λ o. told_by (with_number o (numbered_in w))) (number_printed n h) ∙ ap told_by q

found_two : (w b : Text) (n : ℕ) (e : Event) → n < 2 ^ 64 → Spaceless w → Spaceless b → twice_in w n b ≡ Some e → line_in (words_of (w ++ (32 ∷ (decimal n ++ (32 ∷ b))))) ≡ Some (Tells e)
found_two w b n e h s t q =
    ap line_in (words_front w (decimal n ++ (32 ∷ b)) s ∙ ap (λ ws. w ∷ ws) (words_front (decimal n) b (decimal_spaceless n h)) ∙ ap (λ ws. w ∷ decimal n ∷ ws) (words_last b t))
    ∙ ap (λ o. told_by (with_number o (λ k. twice_in w k b))) (number_printed n h) ∙ ap told_by q

found : (l : Line) → LineFits l → line_in (words_of (line_body l)) ≡ Some l
found (Tells (Protect n)) h = found_one (codes "protect") n _ h (refl, (refl, (refl, (refl, (refl, (refl, (refl, tt))))))) refl refl
found (Tells (Ensure n)) h = found_one (codes "ensure") n _ h (refl, (refl, (refl, (refl, (refl, (refl, tt)))))) refl refl
found (Tells (Curtail n)) h = found_one (codes "curtail") n _ h (refl, (refl, (refl, (refl, (refl, (refl, (refl, tt))))))) refl refl
found (Tells (Signal n)) h = found_one (codes "signal") n _ h (refl, (refl, (refl, (refl, (refl, (refl, tt)))))) refl refl
found (Tells (Outer n)) h = found_one (codes "outer") n _ h (refl, (refl, (refl, (refl, (refl, tt))))) refl refl
found (Tells (Search n)) h = found_one (codes "search") n _ h (refl, (refl, (refl, (refl, (refl, (refl, tt)))))) refl refl
found (Tells (Tried n true)) h = found_two (codes "tried") (codes "yes") n _ h (refl, (refl, (refl, (refl, (refl, tt))))) (refl, (refl, (refl, tt))) refl
found (Tells (Tried n false)) h = found_two (codes "tried") (codes "no") n _ h (refl, (refl, (refl, (refl, (refl, tt))))) (refl, (refl, tt)) refl
found (Tells (Handle m n)) h = found_two (codes "handle") (decimal n) m _ h.0 (refl, (refl, (refl, (refl, (refl, (refl, tt)))))) (decimal_spaceless n h.1) (ap (λ o. with_number o (λ k. Some (Handle m k))) (number_printed n h.1))
found (Tells (Default n)) h = found_one (codes "default") n _ h (refl, (refl, (refl, (refl, (refl, (refl, (refl, tt))))))) refl refl
found (Tells Known) h = refl
found (Tells (Action n)) h = found_one (codes "action") n _ h (refl, (refl, (refl, (refl, (refl, (refl, tt)))))) refl refl
found (Tells (Again n)) h = found_one (codes "again") n _ h (refl, (refl, (refl, (refl, (refl, tt))))) refl refl
found (Tells (Ask m n)) h = found_two (codes "ask") (decimal n) m _ h.0 (refl, (refl, (refl, tt))) (decimal_spaceless n h.1) (ap (λ o. with_number o (λ k. Some (Ask m k))) (number_printed n h.1))
found (Tells (End n true)) h = found_one (codes "cut") n _ h (refl, (refl, (refl, tt))) refl refl
found (Tells (End n false)) h = found_one (codes "end") n _ h (refl, (refl, (refl, tt))) refl refl
found (Stops Done) h = refl
found (Stops Unhandled) h = refl
found (Stops Steps) h = refl
found (Stops Depth) h = refl
found (Stops Cells) h = refl
found (Stops Integer) h = refl

-- ---- what is read was printed so

abbrev Prints : Event → Text → Type 0
Prints e bytes = EventFits e × (event_text e ≡ bytes)

abbrev PrintsLine : Line → Text → Type 0
PrintsLine l bytes = LineFits l × (line_body l ≡ bytes)

-- of a choice by a word, what was chosen
choice : {A B : Type 0} (w k : Text) (x y : Option A) (a : A) → (if bytes_eq w k then x else y) ≡ Some a → (w ≡ k → x ≡ Some a → B) → (y ≡ Some a → B) → B
choice {A = A} {B = B} w k x y a e is on = go (bytes_eq w k) refl e
  where
    go : (b : Bool) → bytes_eq w k ≡ b → (if b then x else y) ≡ Some a → B
    go true q e = is ((bytes_eq-Decides w k).0 q) e
    go false q e = on e

one_is : (d e : Event) (bytes : Text) → Prints d bytes → Some d ≡ Some e → Prints e bytes
one_is d e bytes h q = let same : d ≡ e = grind (arith, q) in subst (λ x. Prints x bytes) same h

line_is : (k l : Line) (bytes : Text) → PrintsLine k bytes → Some k ≡ Some l → PrintsLine l bytes
line_is k l bytes h q = let same : k ≡ l = grind (arith, q) in subst (λ x. PrintsLine x bytes) same h

absent : {A : Type 0} {B : Type 0} (a : A) → None ≡ Some a → B
absent a e = let none : ⊥ = grind (arith, e) in absurd none

module _ (w cs : Text) (n : ℕ) (h : n < 2 ^ 64) (d : decimal n ≡ cs) where
  bytes_with : (k : Text) → w ≡ k → k ++ (32 ∷ decimal n) ≡ w ++ (32 ∷ cs)
  bytes_with k s = ap (λ x. x ++ (32 ∷ decimal n)) (sym s) ∙ ap (λ x. w ++ (32 ∷ x)) d

  numbered_printed : (e : Event) → numbered_in w n ≡ Some e → Prints e (w ++ (32 ∷ cs))
  numbered_printed e q =
      choice w (codes "protect") _ _ e q (λ s r. one_is (Protect n) e _ (h, bytes_with _ s) r) (λ q.
      choice w (codes "ensure") _ _ e q (λ s r. one_is (Ensure n) e _ (h, bytes_with _ s) r) (λ q.
      choice w (codes "curtail") _ _ e q (λ s r. one_is (Curtail n) e _ (h, bytes_with _ s) r) (λ q.
      choice w (codes "signal") _ _ e q (λ s r. one_is (Signal n) e _ (h, bytes_with _ s) r) (λ q.
      choice w (codes "outer") _ _ e q (λ s r. one_is (Outer n) e _ (h, bytes_with _ s) r) (λ q.
      choice w (codes "search") _ _ e q (λ s r. one_is (Search n) e _ (h, bytes_with _ s) r) (λ q.
      choice w (codes "default") _ _ e q (λ s r. one_is (Default n) e _ (h, bytes_with _ s) r) (λ q.
      choice w (codes "action") _ _ e q (λ s r. one_is (Action n) e _ (h, bytes_with _ s) r) (λ q.
      choice w (codes "again") _ _ e q (λ s r. one_is (Again n) e _ (h, bytes_with _ s) r) (λ q.
      choice w (codes "end") _ _ e q (λ s r. one_is (End n false) e _ (h, bytes_with _ s) r) (λ q.
      choice w (codes "cut") _ _ e q (λ s r. one_is (End n true) e _ (h, bytes_with _ s) r) (λ q. absent e q)))))))))))

  bytes_between : (k x b : Text) → w ≡ k → x ≡ b → k ++ (32 ∷ (decimal n ++ (32 ∷ x))) ≡ w ++ (32 ∷ (cs ++ (32 ∷ b)))
  bytes_between k x b s t = ap (λ y. y ++ (32 ∷ (decimal n ++ (32 ∷ x)))) (sym s) ∙ ap (λ y. w ++ (32 ∷ (y ++ (32 ∷ x)))) d ∙ ap (λ y. w ++ (32 ∷ (cs ++ (32 ∷ y)))) t

  judged_printed : (b : Text) (e : Event) → w ≡ codes "tried" → judged_in n b ≡ Some e → Prints e (w ++ (32 ∷ (cs ++ (32 ∷ b))))
  judged_printed b e s q =
      choice b (codes "yes") _ _ e q (λ t r. one_is (Tried n true) e _ (h, bytes_between _ _ b s (sym t)) r) (λ q.
      choice b (codes "no") _ _ e q (λ t r. one_is (Tried n false) e _ (h, bytes_between _ _ b s (sym t)) r) (λ q. absent e q))

  twice_printed : (b : Text) (e : Event) → twice_in w n b ≡ Some e → Prints e (w ++ (32 ∷ (cs ++ (32 ∷ b))))
  twice_printed b e q =
      choice w (codes "tried") _ _ e q (λ s r. judged_printed b e s r) (λ q.
      choice w (codes "handle") _ _ e q (λ s r. handles s (number_in b) refl r) (λ q.
      choice w (codes "ask") _ _ e q (λ s r. asks s (number_in b) refl r) (λ q. absent e q)))
    where
      handles : w ≡ codes "handle" → (o : Option ℕ) → number_in b ≡ o → with_number o (λ k. Some (Handle n k)) ≡ Some e → Prints e (w ++ (32 ∷ (cs ++ (32 ∷ b))))
      handles s None p r = absent e r
      handles s (Some k) p r = let m = number_reads b k p in one_is (Handle n k) e _ ((h, m.0), bytes_between _ _ b s m.1) r

      asks : w ≡ codes "ask" → (o : Option ℕ) → number_in b ≡ o → with_number o (λ k. Some (Ask n k)) ≡ Some e → Prints e (w ++ (32 ∷ (cs ++ (32 ∷ b))))
      asks s None p r = absent e r
      asks s (Some k) p r = let m = number_reads b k p in one_is (Ask n k) e _ ((h, m.0), bytes_between _ _ b s m.1) r

told_printed : (o : Option Event) (l : Line) (bytes : Text) → ((e : Event) → o ≡ Some e → Prints e bytes) → told_by o ≡ Some l → PrintsLine l bytes
told_printed None l bytes on q = absent l q
told_printed (Some e) l bytes on q = line_is (Tells e) l bytes (on e refl) q

with_printed : (o : Option ℕ) (to : ℕ → Option Event) (e : Event) (P : Type 0) → ((n : ℕ) → o ≡ Some n → to n ≡ Some e → P) → with_number o to ≡ Some e → P
with_printed None to e P on q = absent e q
with_printed (Some n) to e P on q = on n refl q

stop_printed : (w a : Text) (l : Line) → w ≡ codes "stop" → stop_in a ≡ Some l → PrintsLine l (w ++ (32 ∷ a))
stop_printed w a l s q =
    choice a (codes "done") _ _ l q (λ t r. line_is (Stops Done) l _ (tt, both _ t) r) (λ q.
    choice a (codes "unhandled") _ _ l q (λ t r. line_is (Stops Unhandled) l _ (tt, both _ t) r) (λ q.
    choice a (codes "steps") _ _ l q (λ t r. line_is (Stops Steps) l _ (tt, both _ t) r) (λ q.
    choice a (codes "depth") _ _ l q (λ t r. line_is (Stops Depth) l _ (tt, both _ t) r) (λ q.
    choice a (codes "cells") _ _ l q (λ t r. line_is (Stops Cells) l _ (tt, both _ t) r) (λ q.
    choice a (codes "integer") _ _ l q (λ t r. line_is (Stops Integer) l _ (tt, both _ t) r) (λ q. absent l q))))))
  where
    both : (k : Text) → a ≡ k → codes "stop" ++ (32 ∷ k) ≡ w ++ (32 ∷ a)
    both k t = ap (λ x. x ++ (32 ∷ k)) (sym s) ∙ ap (λ x. w ++ (32 ∷ x)) (sym t)

line_printed : (ws : List Text) (l : Line) → line_in ws ≡ Some l → PrintsLine l (joined ws)
line_printed [] l q = absent l q
line_printed (w ∷ []) l q = choice w (codes "known") _ _ l q (λ s r. line_is (Tells Known) l w (tt, sym s) r) (λ q. absent l q)
line_printed (w ∷ a ∷ []) l q =
    choice w (codes "stop") _ _ l q (λ s r. stop_printed w a l s r) (λ q.
    told_printed _ l (w ++ (32 ∷ a)) (λ e r. with_printed (number_in a) (numbered_in w) e _ (λ n p t. let m = number_reads a n p in numbered_printed w a n m.0 m.1 e t) r) q)
line_printed (w ∷ a ∷ b ∷ []) l q =
    told_printed _ l (w ++ (32 ∷ (a ++ (32 ∷ b)))) (λ e r. with_printed (number_in a) (λ n. twice_in w n b) e _ (λ n p t. let m = number_reads a n p in twice_printed w a n m.0 m.1 b e t) r) q
line_printed (w ∷ a ∷ b ∷ c ∷ ws) l q = absent l q

-- ---- both ways

printed : (bytes : Text) (l : Line) → LineFits l → line_body l ≡ bytes → read_line bytes ≡ Some l
unfolding read_line
printed bytes l h e = subst (λ bs. line_in (words_of bs) ≡ Some l) e (found l h)

pub reads_lines : ReadsLines
unfolding read_line
reads_lines bytes l =
    (λ h. printed bytes l h.0 h.1, λ e. let r = line_printed (words_of bytes) l e in (r.0, r.1 ∙ joined_words bytes))
