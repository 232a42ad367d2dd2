-- What a loop over a growing list of selectors comes to: the least set. Each selector is visited once, by its place.
use Rattle.std.proofs.Common.{◌≡◌, ◌⊎◌, inl, inr, ℕ, zero, suc, ◌+◌, ◌<◌, ◌≤◌, List, [], ◌∷◌, ◌++◌, length, get_or, slice_get, Option, Some, sym, ap, ◌∙◌, subst, arith}
use Rattle.std.proofs.lemmas.List.{get_or_append_left, length-append}
use Rattle.st_code.specs.Texts.{Text}
use Rattle.program_image.specs.Spelled.{spelled}
use Rattle.program_image.proofs.Spelling.{spelled-append}
use Rattle.st_shake.specs.Needed.{Method, Has, IsClosed, IsLeast}
use Rattle.st_shake.specs.Table.{from_place, last_of, under}
use Rattle.st_shake.proofs.Spelling.{all_kept, all_there, none_else, spelled_extends}
use Rattle.st_shake.proofs.Tables.{before_or_at, from-last, under_from, under_has}
use Rattle.st_shake.proofs.Texts.{has_at, stands_at}

-- what the methods of a selector spell
abbrev pub all_under : List Method → Text → List Text
all_under methods s = under methods s (length methods)

-- so many selectors are visited
pub record Visited (methods : List Method) (first names : List Text) (i : ℕ) : Type 0 where
  pub within : i ≤ length names
  pub has_first : (t : Text) → Has first t → Has names t
  pub done : (k : ℕ) → k < i → (t : Text) → Has (all_under methods (get_or names k [])) t → Has names t
  pub least : (other : List Text) → ((t : Text) → Has first t → Has other t) → IsClosed methods other → (t : Text) → Has names t → Has other t

pub begins : (methods : List Method) (first : List Text) → Visited methods first first 0
begins methods first =
    record {
      within = omega arith;
      has_first = λ t h. h;
      done = λ k l t h. absurd (omega (arith, l));
      least = λ other f c t h. f t h;
    }

pub visits : (methods : List Method) (first names : List Text) (i : ℕ) → i < length names → Visited methods first names i → Visited methods first (spelled names (all_under methods (get_or names i []))) (i + 1)
visits methods first names i l v =
    let s = get_or names i [] in
    let e = spelled_extends names (all_under methods s) in
    let more = length-append names e.extra in
    let size : length (spelled names (all_under methods s)) ≡ length (names ++ e.extra) = ap length e.is in
    record {
      within = omega (arith, l, more, size);
      has_first = λ t h. all_kept names (all_under methods s) t (v.has_first t h);
      done = λ k b t h. by k t (subst (λ u. Has (all_under methods u) t) (same k b) h) (before_or_at k i (omega (arith, b)));
      least = λ other f c t h. at other f c t (none_else names (all_under methods s) t h);
    }
  where
    same : (k : ℕ) → k < i + 1 → get_or (spelled names (all_under methods (get_or names i []))) k [] ≡ get_or names k []
    same k b = let e = spelled_extends names (all_under methods (get_or names i [])) in ap (λ ns. get_or ns k []) e.is ∙ get_or_append_left names e.extra [] k (omega (arith, b, l))

    by : (k : ℕ) → (t : Text) → Has (all_under methods (get_or names k [])) t → (k ≡ i) ⊎ (k < i) → Has (spelled names (all_under methods (get_or names i []))) t
    by k t h (inr c) = all_kept names (all_under methods (get_or names i [])) t (v.done k c t h)
    by k t h (inl c) = all_there names (all_under methods (get_or names i [])) t (subst (λ j. Has (all_under methods (get_or names j [])) t) c h)

    at : (other : List Text) → ((t : Text) → Has first t → Has other t) → IsClosed methods other → (t : Text) → Has names t ⊎ Has (all_under methods (get_or names i [])) t → Has other t
    at other f c t (inl h) = v.least other f c t h
    at other f c t (inr h) = under_from methods (get_or names i []) other c (v.least other f c (get_or names i []) (has_at names i l)) (length methods) (omega arith) t h

text_at : (names : List Text) (i : ℕ) (t : Text) → slice_get names i ≡ Some t → get_or names i [] ≡ t
text_at [] i t is = absurd (cc)
text_at (u ∷ names) zero t is = cc
text_at (u ∷ names) (suc i) t is = text_at names i t is

-- the next one, by the last method that has it
pub visited-next : (methods : List Method) (first names new : List Text) (i : ℕ) (t : Text) (last : Option ℕ) → i < length names → slice_get names i ≡ Some t → last ≡ last_of methods t (length methods) → new ≡ spelled names (from_place methods last) → Visited methods first names i
    → Visited methods first new (i + 1)
visited-next methods first names new i t last low there is gained v =
    let same : new ≡ spelled names (all_under methods (get_or names i [])) = gained ∙ ap (spelled names) (ap (from_place methods) is ∙ from-last methods t (length methods) ∙ ap (all_under methods) (sym (text_at names i t there))) in
    subst (λ ns. Visited methods first ns (i + 1)) (sym same) (visits methods first names i low v)

-- where all are visited the list is the least set
pub ends : (methods : List Method) (first names : List Text) (i : ℕ) → length names ≤ i → Visited methods first names i → IsLeast methods first names
ends methods first names i past v =
    record {
      has_first = v.has_first;
      is_closed = record { by = λ m one h t g. let s = stands_at names m.selector h in v.done s.place (let low = s.below in omega (arith, past)) t (subst (λ u. Has (all_under methods u) t) (sym s.is) (under_has methods m one t g)) };
      least = v.least;
    }

-- the first texts may be spelled
pub of_spelled : (methods : List Method) (first names : List Text) → IsLeast methods (spelled [] first) names → IsLeast methods first names
of_spelled methods first names h =
    record {
      has_first = λ t g. h.has_first t (all_there [] first t g);
      is_closed = h.is_closed;
      least = λ other f c t g. h.least other (λ u k. by other f u (none_else [] first u k)) c t g;
    }
  where
    by : (other : List Text) → ((t : Text) → Has first t → Has other t) → (u : Text) → Has [] u ⊎ Has first u → Has other u
    by other f u (inl k) = cc
    by other f u (inr k) = f u k

-- some that are always needed, and then others
pub least_of : (methods all : List Method) (always texts none one two names : List Text) → methods ≡ all → none ≡ [] → one ≡ spelled none always → two ≡ spelled one texts → IsLeast methods two names → IsLeast all (always ++ texts) names
least_of methods all always texts none one two names same start first others h =
    let two_is : two ≡ spelled [] (always ++ texts) = others ∙ ap (λ ns. spelled ns texts) (first ∙ ap (λ ns. spelled ns always) start) ∙ sym (spelled-append [] always texts) in
    of_spelled all (always ++ texts) names (subst (λ ts. IsLeast all ts names) two_is (subst (λ ms. IsLeast ms two names) same h))
