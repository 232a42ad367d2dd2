-- Names among those that are used.
use Rattle.std.proofs.Common.{◌≡◌, ℕ, suc, ◌+◌, ◌<◌, ◌≤◌, ◌||◌, ◌++◌, append_assoc, append-nil, Option, Some, Bool, true, false, List, [], ◌∷◌, map, drop, length, get_or, Result, IfOk, refl, ap, sym, subst, ◌∙◌, arith, if◌then◌else◌}
use Rattle.std.proofs.Math.Seq.{drop-cons}
use Rattle.std.specs.Borrow.{Bor}
use Rattle.std.specs.Option.{is_some}
use Rattle.std.proofs.lemmas.List.{drop_all, map-append}
use Rattle.std.proofs.lemmas.Cmp.{nat_list_eq_equiv}
use Rattle.std.proofs.lemmas.Slice.Eq.{bytes_eq-Decides}
use Rattle.std.specs.List.{list_any}
use Rattle.indexmap.specs.IndexSet.{insert_key}
use Rattle.std.specs.Str.{bytes_eq}
use Rattle.st_code.specs.Texts.{Text, same_text}
use Rattle.st_code.specs.Resolved.{has_text, text_in, without}
use Rattle.program_image.proofs.Places.{same_text-bytes_eq}
use Rattle.st_compiler.specs.Bytes.{bytes_now}

-- the text is in the list as its bytes are
any-one : (b c d e : Bool) → b ≡ c → d ≡ e → elim b [ true ↦ true | false ↦ d ] ≡ (c || e)
any-one true true d e is rest = refl
any-one false false d e is rest = rest
any-one true false d e is rest = absurd (grind (arith, is))
any-one false true d e is rest = absurd (grind (arith, is))

pub has-any : (ts : List Text) (t : Text) → has_text ts t ≡ list_any (bytes_eq t) ts
has-any [] t = refl
has-any (u ∷ ts) t = any-one (same_text u t) (bytes_eq t u) (has_text ts t) (list_any (bytes_eq t) ts) (same_text-bytes_eq u t ∙ nat_list_eq_equiv.symm u t) (has-any ts t)

-- a text has a place exactly where it is there
place-has : (b : Bool) (n : ℕ) (o : Option ℕ) (c : Bool) → is_some o ≡ c → is_some (elim b [ true ↦ Some n | false ↦ o ]) ≡ elim b [ true ↦ true | false ↦ c ]
place-has true n o c is = refl
place-has false n o c is = is

pub placed-has : (ts : List Text) (t : Text) (n : ℕ) → is_some (text_in n ts t) ≡ has_text ts t
placed-has [] t n = refl
placed-has (u ∷ ts) t n = place-has (same_text u t) n (text_in (suc n) ts t) (has_text ts t) (placed-has ts t (suc n))

has-behind : (b c d e : Bool) → c ≡ (d || e) → elim b [ true ↦ true | false ↦ c ] ≡ (elim b [ true ↦ true | false ↦ d ] || e)
has-behind true c d e is = refl
has-behind false c d e is = is

pub has-append : (us vs : List Text) (t : Text) → has_text (us ++ vs) t ≡ (has_text us t || has_text vs t)
has-append [] vs t = refl
has-append (u ∷ us) vs t = has-behind (same_text u t) (has_text (us ++ vs) t) (has_text us t) (has_text vs t) (has-append us vs t)

-- ---- names without those that are declared

pub without-one : (t : Text) (out : List Text) (b : Bool) → has_text out t ≡ b → without (t ∷ []) out ≡ elim b [ true ↦ [] | false ↦ t ∷ [] ]
without-one t out b is = ap (λ c. elim c [ true ↦ without [] out | false ↦ t ∷ without [] out ]) is

one-then : (b : Bool) (t : Text) (ts : List Text) → elim b [ true ↦ ts | false ↦ t ∷ ts ] ≡ elim b [ true ↦ [] | false ↦ t ∷ [] ] ++ ts
one-then true t ts = refl
one-then false t ts = refl

pub without-then : (t : Text) (ts out : List Text) → without (t ∷ ts) out ≡ without (t ∷ []) out ++ without ts out
without-then t ts out = one-then (has_text out t) t (without ts out)

pub without-next : (items : List (Bor Text)) (d : Bor Text) (i : ℕ) (out before after whole : List Text) → i < length items → after ≡ before ++ without ((get_or items i d).now ∷ []) out
    → before ++ without (map bytes_now (drop i items)) out ≡ whole → after ++ without (map bytes_now (drop (i + 1) items)) out ≡ whole
without-next items d i out before after whole low added is =
    let next : suc i ≡ i + 1 = omega arith in
    let t : Text = (get_or items i d).now in
    let rest : List Text = map bytes_now (drop (suc i) items) in
    let at : without (map bytes_now (drop i items)) out ≡ without (t ∷ []) out ++ without rest out = ap (λ l. without (map bytes_now l) out) (drop-cons items i d low) ∙ without-then t rest out in
    ap (λ j. after ++ without (map bytes_now (drop j items)) out) (sym next)
    ∙ ap (λ l. l ++ without rest out) added
    ∙ append_assoc before (without (t ∷ []) out) (without rest out)
    ∙ ap (λ l. before ++ l) (sym at)
    ∙ is

pub without-end : (items : List (Bor Text)) (i : ℕ) (out now whole : List Text) → length items ≤ i → now ++ without (map bytes_now (drop i items)) out ≡ whole → now ≡ whole
without-end items i out now whole past is =
    sym (append-nil now) ∙ ap (λ l. now ++ without (map bytes_now l) out) (sym (drop_all i items past)) ∙ is

-- ---- a set of names

absorbed : (a e : Bool) → (e ≡ true → a ≡ true) → a ≡ (a || e)
absorbed true e h = refl
absorbed false true h = h refl
absorbed false false h = refl

added : (b : Bool) (old : List Text) (n t : Text) → list_any (bytes_eq n) old ≡ b → has_text (if b then old else old ++ n ∷ []) t ≡ (has_text old t || same_text n t)
added true old n t is =
    absorbed (has_text old t) (same_text n t) (λ same. has-any old t ∙ ap (λ (u : Text). list_any (bytes_eq u) old) (sym ((bytes_eq-Decides n t).0 (sym (same_text-bytes_eq n t) ∙ same))) ∙ is)
added false old n t is = has-append old (n ∷ []) t ∙ ap (λ c. has_text old t || c) (one-has (same_text n t))
  where
    one-has : (c : Bool) → elim c [ true ↦ true | false ↦ false ] ≡ c
    one-has true = refl
    one-has false = refl

or-behind : (a e r : Bool) → ((a || e) || r) ≡ (a || elim e [ true ↦ true | false ↦ r ])
or-behind true e r = refl
or-behind false true r = refl
or-behind false false r = refl

-- the set has so many names, and gets the others
pub record Gathering (set : List Text) (items : List (Bor Text)) (i : ℕ) : Type 0 where
  pub each : (t : Text) → (has_text set t || has_text (map bytes_now (drop i items)) t) ≡ has_text (map bytes_now items) t

pub gathering-next : (old new : List Text) (items : List (Bor Text)) (d : Bor Text) (i : ℕ) → i < length items → new ≡ (if list_any (bytes_eq (get_or items i d).now) old then old else old ++ (get_or items i d).now ∷ []) → Gathering old items i → Gathering new items (i + 1)
gathering-next old new items d i low is before = record {
  each = λ t.
      let n : Text = (get_or items i d).now in
      let next : suc i ≡ i + 1 = omega arith in
      let rest : Bool = has_text (map bytes_now (drop (suc i) items)) t in
      ap (λ j. has_text new t || has_text (map bytes_now (drop j items)) t) (sym next)
      ∙ ap (λ (ts : List Text). has_text ts t || rest) is
      ∙ ap (λ b. b || rest) (added (list_any (bytes_eq n) old) old n t refl)
      ∙ or-behind (has_text old t) (same_text n t) rest
      ∙ ap (λ (bs : List (Bor Text)). has_text old t || has_text (map bytes_now bs) t) (sym (drop-cons items i d low))
      ∙ before.each t;
}

or-false : (a : Bool) → a ≡ (a || false)
or-false true = refl
or-false false = refl

pub gathering-end : (set : List Text) (items : List (Bor Text)) (i : ℕ) (t : Text) → length items ≤ i → Gathering set items i → has_text set t ≡ has_text (map bytes_now items) t
gathering-end set items i t past before = or-false (has_text set t) ∙ ap (λ (bs : List (Bor Text)). has_text set t || has_text (map bytes_now bs) t) (sym (drop_all i items past)) ∙ before.each t

pub map-same : {X Y : Type 0} (f g : X → Y) (xs : List X) → ((x : X) → f x ≡ g x) → map f xs ≡ map g xs
map-same f g [] same = refl
map-same f g (x ∷ xs) same = ap (λ y. y ∷ map f xs) (same x) ∙ ap (λ ys. g x ∷ ys) (map-same f g xs same)

pub marked : (set us vs : List Text) (m0 m1 m2 : List Bool) → m0 ≡ [] → m1 ≡ m0 ++ map (has_text set) us → m2 ≡ m1 ++ map (has_text set) vs → m2 ≡ map (has_text set) (us ++ vs)
marked set us vs m0 m1 m2 none first second =
    second
    ∙ ap (λ m. m ++ map (has_text set) vs) (first ∙ ap (λ m. m ++ map (has_text set) us) none)
    ∙ sym (map-append (has_text set) us vs)

pub marked-alike : {E : Type 0} (r : Result (List Bool) E) (set names us : List Text) → ((t : Text) → has_text set t ≡ has_text names t) → IfOk r (λ m. m ≡ map (has_text set) us) → IfOk r (λ m. m ≡ map (has_text names) us)
marked-alike r set names us same holds = subst (λ (ms : List Bool). IfOk r (λ m. m ≡ ms)) (map-same (has_text set) (has_text names) us same) holds

-- ---- sets of references to names

pub list_any-map : {K X : Type 0} (f : K → X) (p : X → Bool) (ks : List K) → list_any p (map f ks) ≡ list_any (λ k. p (f k)) ks
list_any-map f p [] = refl
list_any-map f p (k ∷ ks) = ap (λ b. p (f k) || b) (list_any-map f p ks)

insert-cond : {K : Type 0} (f : K → Text) (b : Bool) (k : K) (ks : List K) → map f (if b then ks else ks ++ k ∷ []) ≡ (if b then map f ks else map f ks ++ f k ∷ [])
insert-cond f true k ks = refl
insert-cond f false k ks = map-append f ks (k ∷ [])

pub insert_key-texts : {K : Type 0} (f : K → Text) (ks : List K) (k : K) → map f (insert_key (λ a b. bytes_eq (f a) (f b)) ks k) ≡ (if list_any (bytes_eq (f k)) (map f ks) then map f ks else map f ks ++ f k ∷ [])
insert_key-texts f ks k =
    insert-cond f (list_any (λ b. bytes_eq (f k) (f b)) ks) k ks ∙ ap (λ (b : Bool). if b then map f ks else map f ks ++ f k ∷ []) (sym (list_any-map f (bytes_eq (f k)) ks))
