-- Maps of the variables of a scope, as names are noted.
use Rattle.std.proofs.Common.{◌≡◌, ℕ, suc, ◌+◌, ◌<◌, ◌≤◌, Bool, true, false, cond, List, [], ◌∷◌, ◌++◌, map, drop, take, length, get_or, Option, Some, None, refl, ap, sym, ◌∙◌, arith}
use Rattle.std.proofs.lemmas.List.{drop_all, length-map, length-take-le, take_more}
use Rattle.std.proofs.lemmas.Slice.Eq.{bytes_eq-Decides}
use Rattle.std.specs.Borrow.{Bor}
use Rattle.std.specs.HashMap.{HashMap, get, get_by}
use Rattle.std.specs.Map.{lookup}
use Rattle.std.specs.Option.{option_or, is_some}
use Rattle.std.specs.Str.{bytes_eq}
use Rattle.st_tree.specs.declared.tree.Name.{Name}
use Rattle.st_code.specs.Texts.{Text, same_text}
use Rattle.st_code.specs.Written.{name_text}
use Rattle.st_code.specs.Resolved.{text_in}
use Rattle.program_image.proofs.Places.{same_text-bytes_eq}
use Rattle.st_compiler.specs.Around.{variables_of}
use Rattle.st_compiler.specs.Bytes.{same_bytes, HasPlaces, GainsPlaces}
use Rattle.st_compiler.proofs.Finding.{drop-at, text_in-first, text_in-second}

abbrev if_found : Bool → ℕ → Option ℕ → Option ℕ
if_found b n o = elim b [ true ↦ Some n | false ↦ o ]

pub none-of : {A : Type 0} (o : Option A) → is_some o ≡ false → o ≡ None
none-of None h = refl
none-of (Some x) h = absurd (cc)

is-some : (o : Option ℕ) → is_some o ≡ true → (b : Bool) (n : ℕ) (p : Option ℕ) → (b ≡ true → p ≡ o) → p ≡ option_or p (if_found b n None)
is-some o some true n None same = absurd (let e : None ≡ o = same refl in grind (arith, e, some))
is-some o some true n (Some x) same = refl
is-some o some false n None same = refl
is-some o some false n (Some x) same = refl

same-name : (t u : Text) → same_text t u ≡ true → t ≡ u
same-name t u is = (bytes_eq-Decides t u).0 (sym (same_text-bytes_eq t u) ∙ is)

inserted : (b : Bool) (n : ℕ) (o p : Option ℕ) → p ≡ cond b (Some n) o → (b ≡ true → o ≡ None) → p ≡ option_or o (if_found b n None)
inserted true n None p is none = is
inserted true n (Some x) p is none = absurd (let e : Some x ≡ None = none refl in grind (arith, e))
inserted false n None p is none = is
inserted false n (Some x) p is none = is

one-more : (b : Bool) (n : ℕ) (o p : Option ℕ) → option_or (option_or o (if_found b n None)) p ≡ option_or o (if_found b n p)
one-more true n None p = refl
one-more true n (Some x) p = refl
one-more false n None p = refl
one-more false n (Some x) p = refl

or-none : (o : Option ℕ) → option_or o None ≡ o
or-none None = refl
or-none (Some x) = refl

both-lists : (o : Option ℕ) (us vs : List Text) (t : Text) (m : ℕ) → o ≡ text_in 0 us t → m ≡ length us → option_or o (text_in m vs t) ≡ text_in 0 (us ++ vs) t
both-lists None us vs t m is count = sym (text_in-second us vs t 0 m (sym is) (omega (arith, count)))
both-lists (Some k) us vs t m is count = text_in-first us vs t 0 k is

module _ {S : Type 0} where
  get-same : (m : HashMap (Bor Text) ℕ S) (k q : Bor Text) → k.now ≡ q.now → get same_bytes m q ≡ get same_bytes m k
  get-same m k q e = ap (λ (t : Text). get_by (λ (x : Bor Text). bytes_eq t x.now) m) (sym e)

  pub noted-present : (m : HashMap (Bor Text) ℕ S) (name : Bor Text) (place : ℕ) → is_some (get same_bytes m name) ≡ true → GainsPlaces m (name.now ∷ []) place m
  noted-present m name place there = record {
    each = λ q. is-some (get same_bytes m name) there (same_text name.now q.now) place (get same_bytes m q) (λ is. get-same m name q (same-name name.now q.now is));
  }

  pub noted-absent : (m m2 : HashMap (Bor Text) ℕ S) (name : Bor Text) (place : ℕ) → get same_bytes m name ≡ None → ((q : Bor Text) → get same_bytes m2 q ≡ cond (same_bytes name q) (Some place) (get same_bytes m q)) → GainsPlaces m (name.now ∷ []) place m2
  noted-absent m m2 name place none update = record {
    each = λ q.
        inserted (same_text name.now q.now) place (get same_bytes m q) (get same_bytes m2 q)
        (update q ∙ ap (λ b. cond b (Some place) (get same_bytes m q)) (sym (same_text-bytes_eq name.now q.now)))
        (λ is. get-same m name q (same-name name.now q.now is) ∙ none);
  }

  -- so many names are noted, and the others will be
  pub record Noting (old now : HashMap (Bor Text) ℕ S) (names : List Name) (first place i : ℕ) : Type 0 where
    pub each : (q : Bor Text) → option_or (get same_bytes now q) (text_in place (map name_text (drop i names)) q.now) ≡ option_or (get same_bytes old q) (text_in first (map name_text names) q.now)

  pub noting-next : (old now new : HashMap (Bor Text) ℕ S) (names : List Name) (first place i : ℕ) (n : Name) (t : Text) → n ≡ get_or names i n → i < length names → t ≡ n.text → Noting old now names first place i → GainsPlaces now (t ∷ []) place new → Noting old new names first (place + 1) (i + 1)
  noting-next old now new names first place i n t there low text before gains = record {
    each = λ q.
        let rest : List Text = map name_text (drop (i + 1) names) in
        let next : place + 1 ≡ suc place = omega arith in
        ap (λ k. option_or (get same_bytes new q) (text_in k rest q.now)) next
        ∙ ap (λ o. option_or o (text_in (suc place) rest q.now)) (gains.each q)
        ∙ ap (λ u. option_or (option_or (get same_bytes now q) (text_in place (u ∷ []) q.now)) (text_in (suc place) rest q.now)) text
        ∙ one-more (same_text n.text q.now) place (get same_bytes now q) (text_in (suc place) rest q.now)
        ∙ ap (λ us. option_or (get same_bytes now q) (text_in place us q.now)) (sym (drop-at name_text names i n there low))
        ∙ before.each q;
  }

  pub noting-end : (old now : HashMap (Bor Text) ℕ S) (names : List Name) (first place i : ℕ) → length names ≤ i → Noting old now names first place i → GainsPlaces old (map name_text names) first now
  noting-end old now names first place i past before = record {
    each = λ q. sym (or-none (get same_bytes now q)) ∙ ap (λ (ns : List Name). option_or (get same_bytes now q) (text_in place (map name_text ns) q.now)) (sym (drop_all i names past)) ∙ before.each q;
  }

  pub has-places : (m0 m1 m2 : HashMap (Bor Text) ℕ S) (ps ts : List Name) (n : ℕ) → m0.entries ≡ [] → n ≡ length ps → GainsPlaces m0 (map name_text ps) 0 m1 → GainsPlaces m1 (map name_text ts) n m2 → HasPlaces (variables_of ps ts) m2
  has-places m0 m1 m2 ps ts n empty count first second = record {
    each = λ q.
        let none : get same_bytes m0 q ≡ None = ap (λ (es : List (Bor Text × ℕ)). lookup (same_bytes q) es) empty in
        second.each q
        ∙ both-lists (get same_bytes m1 q) (map name_text ps) (map name_text ts) q.now n (first.each q ∙ ap (λ o. option_or o (text_in 0 (map name_text ps) q.now)) none) (count ∙ sym (length-map ps name_text));
  }

  -- the places of one name more
  pub names-more : (m0 m1 : HashMap (Bor Text) ℕ S) (texts : List Text) (i place : ℕ) (u v : Text) → u ≡ get_or texts i u → i < length texts → v ≡ u → place ≡ i → HasPlaces (take i texts) m0 → GainsPlaces m0 (v ∷ []) place m1 → HasPlaces (take (i + 1) texts) m1
  names-more m0 m1 texts i place u v is low same number before gains =
      let whole : take i texts ++ u ∷ [] ≡ take (i + 1) texts = rw (take_more texts i u low, ← is) refl in
      let count : place ≡ length (take i texts) = omega (arith, number, length-take-le i texts (omega (arith, low))) in
      record {
        each = λ q.
            gains.each q
            ∙ both-lists (get same_bytes m0 q) (take i texts) (v ∷ []) q.now place (before.each q) count
            ∙ ap (λ us. text_in 0 us q.now) (ap (λ (w : Text). take i texts ++ w ∷ []) same ∙ whole);
      }
