-- Entries by their keys: what the first entry with a key has, and tables that are sorted.
use Rattle.std.specs.Prelude.{◌≡◌, ℕ, ◌<◌, ◌≤◌, ◌&&◌, Bool, true, false, List, [], ◌∷◌, length, get_or, Option, Some, None, nat_eq}
use Rattle.std.specs.List.Sorted.{IsSortedByKey}
use Rattle.std.specs.Ordering.{nat_cmp, is_lt, ordering_then}
use Rattle.std.specs.declared.cmp.Ordering.{Ordering}
use Rattle.program_image.specs.declared.table.Side.{Side}
use Rattle.program_image.specs.declared.table.Side.TheVariants as side
use Rattle.program_image.specs.declared.table.Found.{Found}
use Rattle.program_image.specs.declared.table.Key.{Key}
use Rattle.program_image.specs.declared.table.Entry.{Entry}

abbrev pub same_side : Side → Side → Bool
same_side side.Instance side.Instance = true
same_side side.Class side.Class = true
same_side side.Meta side.Meta = true
same_side _ _ = false

abbrev pub same_key : Key → Key → Bool
same_key a b = nat_eq a.selector b.selector && (same_side a.side b.side && nat_eq a.class b.class)

-- what the first entry with this key has
unfoldable pub first_found : List Entry → Key → Option Found
first_found [] key = None
first_found (e ∷ entries) key = elim (same_key e.key key) [ true ↦ Some e.found | false ↦ first_found entries key ]

-- the entries are found in the table as in the list
pub record HasFirsts (entries table : List Entry) : Type 0 where
  pub same : (key : Key) → first_found table key ≡ first_found entries key

-- where a key's side stands
abbrev pub side_rank : Side → ℕ
side_rank side.Instance = 0
side_rank side.Class = 1
side_rank side.Meta = 2

-- by selector, side and class
abbrev pub key_cmp : Key → Key → Ordering
key_cmp a b = ordering_then (nat_cmp a.selector b.selector) (ordering_then (nat_cmp (side_rank a.side) (side_rank b.side)) (nat_cmp a.class b.class))

abbrev pub is_before : Entry → Key → Bool
is_before e key = is_lt (key_cmp e.key key)

-- the entries below the first place come before the key, and those from the second on don't
pub record Searched (entries : List Entry) (key : Key) (low high : ℕ) : Type 0 where
  pub ordered : low ≤ high
  pub within : high ≤ length entries
  pub before : (i : ℕ) (d : Entry) → i < low → is_before (get_or entries i d) key ≡ true
  pub behind : (i : ℕ) (d : Entry) → high ≤ i → i < length entries → is_before (get_or entries i d) key ≡ false

abbrev pub key_of : Entry → Key
key_of e = e.key

pub record IsSortedTable (entries : List Entry) : Type 0 where
  pub sorted : IsSortedByKey key_of key_cmp entries
