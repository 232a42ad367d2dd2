-- The order of keys.
use Rattle.std.proofs.Common.{◌≡◌, ℕ, ◌+◌, ◌<◌, ◌≤◌, true, false, List, length, get_or, refl, ap, sym, ◌∙◌, arith}
use Rattle.std.specs.Cmp.{IsTotalOrder, nat_cmp_total, on_total, then_total}
use Rattle.std.specs.List.Sorted.{IsSortedByKey}
use Rattle.std.specs.Ordering.{nat_cmp, is_lt, ordering_then, ordering_index}
use Rattle.std.specs.declared.cmp.Ordering.{Ordering}
use Rattle.std.specs.declared.cmp.Ordering.TheVariants.{Less, Equal, Greater}
use Rattle.std.proofs.lemmas.List.Sorted.{searchable_from_sorted}
use Rattle.program_image.specs.declared.table.Side.{Side}
use Rattle.program_image.specs.declared.table.Side.TheVariants as side
use Rattle.program_image.specs.declared.table.Key.{Key}
use Rattle.program_image.specs.declared.table.Found.TheVariants as found
use Rattle.program_image.specs.declared.table.Entry.{Entry}
use Rattle.program_image.specs.Tables.{key_cmp, key_of, side_rank, is_before, Searched}
use Rattle.program_image.specs.contracts.table.KeyOrd.TheImpl as key_ord
use Rattle.program_image.specs.contracts.table.SideOrd.TheImpl as side_ord

side_same : (a b : Side) → side_ord.ghosts.cmp a b ≡ nat_cmp (side_rank a) (side_rank b)
side_same side.Instance side.Instance = refl
side_same side.Instance side.Class = refl
side_same side.Instance side.Meta = refl
side_same side.Class side.Instance = refl
side_same side.Class side.Class = refl
side_same side.Class side.Meta = refl
side_same side.Meta side.Instance = refl
side_same side.Meta side.Class = refl
side_same side.Meta side.Meta = refl

pub key_same : (a b : Key) → key_ord.ghosts.cmp a b ≡ key_cmp a b
key_same a b = ap (λ (o : Ordering). ordering_then (nat_cmp a.selector b.selector) (ordering_then o (nat_cmp a.class b.class))) (side_same a.side b.side)

pub key_total : IsTotalOrder key_cmp
key_total = then_total (on_total (λ (k : Key). k.selector) nat_cmp_total) (then_total (on_total (λ (k : Key). side_rank k.side) nat_cmp_total) (on_total (λ (k : Key). k.class) nat_cmp_total))

pub sorted_same : (entries : List Entry) → IsSortedByKey key_of key_ord.ghosts.cmp entries → IsSortedByKey key_of key_cmp entries
sorted_same entries h = λ k d low high. sym (ap is_lt (key_same (get_or entries (k + 1) d).key (get_or entries k d).key)) ∙ h k d low high

-- ---- the search by halves

lt-index : (o : Ordering) → is_lt o ≡ true → ordering_index o ≤ 0
lt-index Less is = omega arith
lt-index Equal is = absurd (grind (arith, is))
lt-index Greater is = absurd (grind (arith, is))

index-lt : (o : Ordering) → ordering_index o ≤ 0 → is_lt o ≡ true
index-lt Less low = refl
index-lt Equal low = absurd (omega (arith, low))
index-lt Greater low = absurd (omega (arith, low))

not-index : (o : Ordering) → is_lt o ≡ false → 1 ≤ ordering_index o
not-index Less is = absurd (grind (arith, is))
not-index Equal is = omega arith
not-index Greater is = omega arith

index-not : (o : Ordering) → 1 ≤ ordering_index o → is_lt o ≡ false
index-not Less low = absurd (omega (arith, low))
index-not Equal low = refl
index-not Greater low = refl

module _ (entries : List Entry) (key : Key) (sorted : IsSortedByKey key_of key_cmp entries) where
  abbrev pub index_at : ℕ → Entry → ℕ
  index_at i d = ordering_index (key_cmp (get_or entries i d).key key)

  pub rises : (i j : ℕ) (d : Entry) → i ≤ j → j < length entries → index_at i d ≤ index_at j d
  rises = searchable_from_sorted key_total key_of entries key sorted

  pub searched-above : (low middle high : ℕ) → Searched entries key low high → middle < high → ((d : Entry) → is_before (get_or entries middle d) key ≡ true) → Searched entries key (middle + 1) high
  searched-above low middle high h under at =
      record {
        ordered = omega (arith, under);
        within = h.within;
        before = λ i d below. index-lt (key_cmp (get_or entries i d).key key)
            (let up = rises i middle d (omega (arith, below)) (omega (arith, under, h.within)) in let zero = lt-index (key_cmp (get_or entries middle d).key key) (at d) in omega (arith, up, zero));
        behind = h.behind;
      }

  pub searched-below : (low middle high : ℕ) → Searched entries key low high → low ≤ middle → middle < high → ((d : Entry) → is_before (get_or entries middle d) key ≡ false) → Searched entries key low middle
  searched-below low middle high h over under at =
      record {
        ordered = over;
        within = omega (arith, under, h.within);
        before = h.before;
        behind = λ i d above low. index-not (key_cmp (get_or entries i d).key key)
            (let up = rises middle i d above low in let one = not-index (key_cmp (get_or entries middle d).key key) (at d) in omega (arith, up, one));
      }

-- what an index out of range would read
abbrev pub blank : Entry
blank = record { key = record { selector = 0; side = side.Instance; class = 0 }; found = found.User 0 }
