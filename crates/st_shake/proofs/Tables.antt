-- Methods by their selectors: what the table has, as methods are added, and what is spelled of a selector.
use Rattle.std.proofs.Common.{◌≡◌, ◌⊎◌, inl, inr, ℕ, zero, suc, ◌+◌, ◌<◌, ◌≤◌, List, [], ◌∷◌, ◌++◌, length, get_or, slice_get, Option, Some, None, IfSome, cond, Bool, true, false, refl, sym, ap, ◌∙◌, subst, append-nil, slice_index_or, take, arith}
use Rattle.std.proofs.lemmas.Bool.Decides.{eqb_tells}
use Rattle.std.proofs.lemmas.List.{get_or_append_left, length-append, length-map, map_push, take_more}
use Rattle.std.specs.HashMap.{HashMap}
use Rattle.std.specs.Map.{lookup}
use Rattle.std.specs.Str.{bytes_eq}
use Rattle.st_code.specs.Texts.{Text}
use Rattle.program_image.specs.Spelled.{spelled}
use Rattle.program_image.proofs.Spelling.{spelled-append}
use Rattle.st_tree.specs.declared.units.Unit.{Unit}
use Rattle.st_code.specs.Written.{named_unit, named_units}
use Rattle.st_shake.specs.Needed.{Method, Has, OneOf, IsClosed, kind_method, methods_of}
use Rattle.st_shake.proofs.Spelling.{listed, push-methods}
use Rattle.st_shake.specs.Table.{no_method, method_at, last_of, under, from_place, Bytes, same_bytes, entry_method, entry_methods, IsTable, Gains, GainsMethod}
use Rattle.st_shake.specs.declared.methods.Entry.{Entry}
use Rattle.st_shake.proofs.Texts.{bytes_eq-is, bytes_eq-itself, has_before, has_behind, has_either}

-- ---- methods by their places

record IsAt (methods : List Method) (m : Method) : Type 0 where
  place : ℕ
  below : place < length methods
  is : method_at methods place ≡ m

place_of : (methods : List Method) (m : Method) → OneOf m methods → IsAt methods m
place_of [] m one = absurd one
place_of (k ∷ methods) m (inl e) = record { place = 0; below = omega arith; is = sym e }
place_of (k ∷ methods) m (inr o) = let a = place_of methods m o in record { place = suc a.place; below = let l = a.below in omega arith; is = a.is }

one_of : (methods : List Method) (n : ℕ) → n < length methods → OneOf (method_at methods n) methods
one_of [] n l = absurd (omega (arith, l))
one_of (k ∷ methods) zero l = inl refl
one_of (k ∷ methods) (suc n) l = inr (one_of methods n (omega (arith, l)))

pub before_or_at : (k i : ℕ) → k < suc i → (k ≡ i) ⊎ (k < i)
before_or_at k i l = elim (eqb_tells k i) [
  | inl is ↦ inl is.1
  | inr other ↦ inr (let d = other.1 in grind (arith, d, l))
]

-- ---- what is spelled of a selector

under_at : (methods : List Method) (m : Method) (n i : ℕ) → i < n → method_at methods i ≡ m → (t : Text) → Has m.texts t → Has (under methods m.selector n) t
under_at methods m zero i l e t h = absurd (omega (arith, l))
under_at methods m (suc n) i l e t h = by (before_or_at i n l) (bytes_eq (method_at methods n).selector m.selector) refl (λ low. under_at methods m n i low e t h)
  where
    by : (i ≡ n) ⊎ (i < n) → (b : Bool) → bytes_eq (method_at methods n).selector m.selector ≡ b → (i < n → Has (under methods m.selector n) t) → Has (cond b ((method_at methods n).texts ++ under methods m.selector n) (under methods m.selector n)) t
    by (inl same) true f later = has_before (method_at methods n).texts (under methods m.selector n) t (subst (λ (j : Method). Has j.texts t) (sym e ∙ ap (method_at methods) same) h)
    by (inl same) false f later = let g : bytes_eq (method_at methods n).selector m.selector ≡ true = ap (λ (j : Method). bytes_eq j.selector m.selector) (ap (method_at methods) (sym same) ∙ e) ∙ bytes_eq-itself m.selector in cc
    by (inr low) true f later = has_behind (method_at methods n).texts (under methods m.selector n) t (later low)
    by (inr low) false f later = later low

pub under_has : (methods : List Method) (m : Method) → OneOf m methods → (t : Text) → Has m.texts t → Has (under methods m.selector (length methods)) t
under_has methods m one t h = let a = place_of methods m one in under_at methods m (length methods) a.place a.below a.is t h

-- and nothing else
pub under_from : (methods : List Method) (s : Text) (other : List Text) → IsClosed methods other → Has other s → (n : ℕ) → n ≤ length methods → (t : Text) → Has (under methods s n) t → Has other t
under_from methods s other c h zero l t g = cc
under_from methods s other c h (suc n) l t g = by (bytes_eq (method_at methods n).selector s) refl g (λ i. under_from methods s other c h n (omega (arith, l)) t i)
  where
    by : (b : Bool) → bytes_eq (method_at methods n).selector s ≡ b → Has (cond b ((method_at methods n).texts ++ under methods s n) (under methods s n)) t → (Has (under methods s n) t → Has other t) → Has other t
    by false e i later = later i
    by true e i later = at (has_either (method_at methods n).texts (under methods s n) t i)
      where
        at : Has (method_at methods n).texts t ⊎ Has (under methods s n) t → Has other t
        at (inl j) = c.by (method_at methods n) (one_of methods n (omega (arith, l))) (subst (λ u. Has other u) (sym (bytes_eq-is (method_at methods n).selector s e)) h) t j
        at (inr j) = later j

-- ---- from a method to the one before it

pub last-below : (methods : List Method) (s : Text) (n : ℕ) → IfSome (last_of methods s n) (λ k. k < n)
last-below methods s zero = tt
last-below methods s (suc n) = by (bytes_eq (method_at methods n).selector s) (last_of methods s n) (last-below methods s n)
  where
    by : (b : Bool) (o : Option ℕ) → IfSome o (λ k. k < n) → IfSome (cond b (Some n) o) (λ k. k < suc n)
    by true o h = omega arith
    by false None h = tt
    by false (Some k) h = omega (arith, h)

pub from-last : (methods : List Method) (s : Text) (n : ℕ) → from_place methods (last_of methods s n) ≡ under methods s n
from-last methods s zero = refl
from-last methods s (suc n) = by (bytes_eq (method_at methods n).selector s) refl (from-last methods s n)
  where
    by : (b : Bool) → bytes_eq (method_at methods n).selector s ≡ b → from_place methods (last_of methods s n) ≡ under methods s n → from_place methods (cond b (Some n) (last_of methods s n)) ≡ cond b ((method_at methods n).texts ++ under methods s n) (under methods s n)
    by true e later = ap (λ u. (method_at methods n).texts ++ under methods u n) (bytes_eq-is (method_at methods n).selector s e)
    by false e later = later

pub entry-at : (entries : List Entry) (n : ℕ) (e : Entry) → slice_get entries n ≡ Some e → method_at (entry_methods entries) n ≡ entry_method e
entry-at [] n e is = absurd (cc)
entry-at (x ∷ entries) zero e is = let h : x ≡ e = cc in ap entry_method h
entry-at (x ∷ entries) (suc n) e is = entry-at entries n e is

-- the method at a place is spelled, and those before it are next
pub spelled-entry : (methods : List Method) (names new whole : List Text) (place : ℕ) (m : Method) (earlier : Option ℕ) → method_at methods place ≡ m → earlier ≡ last_of methods m.selector place → new ≡ spelled names m.texts → spelled names (from_place methods (Some place)) ≡ whole
    → spelled new (from_place methods earlier) ≡ whole
spelled-entry methods names new whole place m earlier is before gained so_far =
    ap (λ o. spelled new (from_place methods o)) before
    ∙ ap (spelled new) (from-last methods m.selector place)
    ∙ ap (λ ns. spelled ns (under methods m.selector place)) gained
    ∙ sym (spelled-append names m.texts (under methods m.selector place))
    ∙ ap (λ (k : Method). spelled names (k.texts ++ under methods k.selector place)) (sym is)
    ∙ so_far

-- how far a chain may go on from here
abbrev pub reach : Option ℕ → ℕ
reach None = 0
reach (Some n) = suc n

pub reach-smaller : (next now : Option ℕ) (place : ℕ) → now ≡ Some place → IfSome next (λ k. k < place) → reach next < reach now
reach-smaller None now place is h = rw is (omega arith)
reach-smaller (Some k) now place is h = rw is (omega (arith, h))

pub within-list : (next : Option ℕ) (place count : ℕ) → place < count → IfSome next (λ k. k < place) → IfSome next (λ k. k < count)
within-list None place count l h = tt
within-list (Some k) place count l h = omega (arith, l, h)

-- ---- a method more

last-push : (methods more : List Method) (s : Text) (n : ℕ) → n ≤ length methods → last_of (methods ++ more) s n ≡ last_of methods s n
last-push methods more s zero l = refl
last-push methods more s (suc n) l =
    ap (λ (m : Method). cond (bytes_eq m.selector s) (Some n) (last_of (methods ++ more) s n)) (get_or_append_left methods more no_method n (omega (arith, l)))
    ∙ ap (λ (o : Option ℕ). cond (bytes_eq (method_at methods n).selector s) (Some n) o) (last-push methods more s n (omega (arith, l)))

at_end : (methods : List Method) (m : Method) → method_at (methods ++ m ∷ []) (length methods) ≡ m
at_end [] m = refl
at_end (k ∷ methods) m = at_end methods m

entry_before : (entries : List Entry) (more : List Entry) (n : ℕ) (e : Entry) → n < length entries → slice_get (entries ++ more) n ≡ Some e → slice_get entries n ≡ Some e
entry_before [] more n e l is = absurd (omega (arith, l))
entry_before (x ∷ entries) more zero e l is = is
entry_before (x ∷ entries) more (suc n) e l is = entry_before entries more n e (omega (arith, l)) is

entry_end : (entries : List Entry) (x e : Entry) (n : ℕ) → length entries ≤ n → slice_get (entries ++ x ∷ []) n ≡ Some e → (n ≡ length entries) × (e ≡ x)
entry_end [] x e zero l is = (refl, cc)
entry_end [] x e (suc n) l is = absurd (cc)
entry_end (y ∷ entries) x e zero l is = absurd (omega (arith, l))
entry_end (y ∷ entries) x e (suc n) l is = let h = entry_end entries x e n (omega (arith, l)) is in (ap suc h.0, h.1)

order : (n k : ℕ) → (n < k) ⊎ (k ≤ n)
order n zero = inr (omega arith)
order zero (suc k) = inl (omega arith)
order (suc n) (suc k) = elim (order n k) [
  | inl h ↦ inl (omega (arith, h))
  | inr h ↦ inr (omega (arith, h))
]

module _ {S : Type 0} (entries entries' : List Entry) (last last' : HashMap Bytes ℕ S) where
  pub one-more : (m : Method) → IsTable entries last → GainsMethod entries last m entries' last' → IsTable entries' last'
  one-more m table gained =
      let methods = entry_methods entries in
      let all : entry_methods entries' ≡ methods ++ entry_method gained.entry ∷ [] = ap entry_methods gained.added ∙ map_push entry_method entries gained.entry in
      let many : length entries' ≡ suc (length entries) = ap length gained.added ∙ length-append entries (gained.entry ∷ []) ∙ omega arith in
      let size : length methods ≡ length entries = length-map entries entry_method in
      record {
        newest = λ q.
            gained.newest q
            ∙ ap (λ (o : Option ℕ). cond (bytes_eq m.selector q.now) (Some (length entries)) o) (table.newest q ∙ sym (last-push methods (entry_method gained.entry ∷ []) q.now (length entries) (omega (arith, size))))
            ∙ ap (λ (k : Method). cond (bytes_eq k.selector q.now) (Some (length entries)) (last_of (methods ++ entry_method gained.entry ∷ []) q.now (length entries))) (sym (ap (method_at (methods ++ entry_method gained.entry ∷ [])) (sym size) ∙ at_end methods (entry_method gained.entry) ∙ gained.is))
            ∙ ap (λ (ks : List Method). last_of ks q.now (suc (length entries))) (sym all)
            ∙ ap (last_of (entry_methods entries') q.now) (sym many);
        earlier = λ n e is. ap (λ o. o) (by n e (subst (λ es. slice_get es n ≡ Some e) gained.added is) (order n (length entries))) ∙ ap (λ (ks : List Method). last_of ks (entry_method e).selector n) (sym all);
      }
    where
      by : (n : ℕ) (e : Entry) → slice_get (entries ++ gained.entry ∷ []) n ≡ Some e → (n < length entries) ⊎ (length entries ≤ n) → e.earlier ≡ last_of (entry_methods entries ++ entry_method gained.entry ∷ []) (entry_method e).selector n
      by n e is (inl low) = let size : length (entry_methods entries) ≡ length entries = length-map entries entry_method in table.earlier n e (entry_before entries (gained.entry ∷ []) n e low is) ∙ sym (last-push (entry_methods entries) (entry_method gained.entry ∷ []) (entry_method e).selector n (omega (arith, size, low)))
      by n e is (inr high) =
          let size : length (entry_methods entries) ≡ length entries = length-map entries entry_method in
          let h = entry_end entries gained.entry e n high is in
          ap (λ (x : Entry). x.earlier) h.1 ∙ gained.earlier ∙ table.newest gained.key ∙ ap (λ (t : Text). last_of (entry_methods entries) t (length entries)) gained.named
          ∙ sym (last-push (entry_methods entries) (entry_method gained.entry ∷ []) m.selector (length entries) (omega (arith, size)))
          ∙ ap (λ (t : Text). last_of (entry_methods entries ++ entry_method gained.entry ∷ []) t (length entries)) (sym (ap (λ (x : Entry). (entry_method x).selector) h.1 ∙ ap (λ (k : Method). k.selector) gained.is))
          ∙ ap (last_of (entry_methods entries ++ entry_method gained.entry ∷ []) (entry_method e).selector) (sym h.0)

  one-or-none : (o : Option Method) → IsTable entries last → Gains entries last o entries' last' → IsTable entries' last'
  one-or-none None table gained = rw (gained.0, gained.1) table
  one-or-none (Some m) table gained = one-more m table gained

  methods-gained : (o : Option Method) → Gains entries last o entries' last' → entry_methods entries' ≡ entry_methods entries ++ listed o
  methods-gained None gained = ap entry_methods gained.0 ∙ sym (append-nil (entry_methods entries))
  methods-gained (Some m) gained = ap entry_methods gained.added ∙ map_push entry_method entries gained.entry ∙ ap (λ (k : Method). entry_methods entries ++ k ∷ []) gained.is

  pub table-more : (u : Unit) → IsTable entries last → Gains entries last (kind_method (named_unit u)) entries' last' → IsTable entries' last'
  table-more u table gained = one-or-none (kind_method (named_unit u)) table gained

  pub methods-more : (units : List Unit) (i : ℕ) (u : Unit) → i < length units → u ≡ get_or units i u → Gains entries last (kind_method (named_unit u)) entries' last' → entry_methods entries ≡ methods_of (named_units (take i units)) → entry_methods entries' ≡ methods_of (named_units (take (i + 1) units))
  methods-more units i u low is gained so_far =
      let whole : take i units ++ u ∷ [] ≡ take (i + 1) units = rw (take_more units i u low, ← is) refl in
      methods-gained (kind_method (named_unit u)) gained
      ∙ ap (λ (ms : List Method). ms ++ listed (kind_method (named_unit u))) so_far
      ∙ sym (push-methods (take i units) u)
      ∙ ap (λ (us : List Unit). methods_of (named_units us)) whole

pub no-table : {S : Type 0} (entries : List Entry) (last : HashMap Bytes ℕ S) → entries ≡ [] → last.entries ≡ [] → IsTable entries last
no-table entries last none empty =
    record {
      newest = λ q. ap (lookup (same_bytes q)) empty ∙ ap (λ (es : List Entry). last_of (entry_methods es) q.now (length es)) (sym none);
      earlier = λ n e is. absurd (nothing_there n e (subst (λ (es : List Entry). slice_get es n ≡ Some e) none is));
    }
  where
    nothing_there : (n : ℕ) (e : Entry) → slice_get [] n ≡ Some e → ⊥
    nothing_there n e is = cc

-- what an index gives is there
pub entry-there : (entries : List Entry) (n : ℕ) (e : Entry) → n < length entries → e ≡ slice_index_or entries n e → slice_get entries n ≡ Some e
entry-there [] n e low is = absurd (omega (arith, low))
entry-there (x ∷ entries) zero e low is = ap Some (sym is)
entry-there (x ∷ entries) (suc n) e low is = entry-there entries n e (omega (arith, low)) is

-- what an entry of the table is at its place
pub record IsLink (methods : List Method) (place : ℕ) (earlier : Option ℕ) (m : Method) : Type 0 where
  pub low : place < length methods
  pub is : method_at methods place ≡ m
  pub before : earlier ≡ last_of methods m.selector place
  pub smaller : IfSome earlier (λ k. k < place)

pub link-at : {S : Type 0} (entries : List Entry) (last : HashMap Bytes ℕ S) (methods : List Method) (next : Option ℕ) (place : ℕ) (e : Entry) → methods ≡ entry_methods entries → IsTable entries last → IfSome next (λ n. n < length methods) → next ≡ Some place → e ≡ slice_index_or entries place e
    → IsLink methods place e.earlier (entry_method e)
link-at entries last methods next place e same table within now is =
    let low : place < length methods = subst (λ (o : Option ℕ). IfSome o (λ n. n < length methods)) now within in
    let size : length methods ≡ length entries = ap length same ∙ length-map entries entry_method in
    let there = entry-there entries place e (omega (arith, low, size)) is in
    let before : e.earlier ≡ last_of methods (entry_method e).selector place = table.earlier place e there ∙ ap (λ (ms : List Method). last_of ms (entry_method e).selector place) (sym same) in
    record {
      low = low;
      is = ap (λ (ms : List Method). method_at ms place) same ∙ entry-at entries place e there;
      before = before;
      smaller = subst (λ (o : Option ℕ). IfSome o (λ k. k < place)) (sym before) (last-below methods (entry_method e).selector place);
    }
