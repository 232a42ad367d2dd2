-- Texts in order, byte by byte (ANSI 5.7.10).
use Rattle.std.specs.Prelude.{ℕ, [], ◌∷◌, true, false, map, nat_eq}
use Rattle.std.specs.Ordering.{nat_cmp}
use Rattle.std.specs.declared.cmp.Ordering.{Ordering}
use Rattle.object_heap.specs.declared.value.Value.{Value}
use Rattle.object_heap.specs.Store.{Store}
use Rattle.st_code.specs.Program.{Program}
use Rattle.st_code.specs.Texts.{Text, to_lower}
use Rattle.st_collections.specs.declared.texts.Folding.{Folding}
use Rattle.st_collections.specs.Kinds.{bytes_of}
use Rattle.st_collections.specs.TextRows.{or_empty}

-- the bytes of a String or Symbol, none of any other value
abbrev pub text_of : Program → Store → Value → Text
text_of p s v = or_empty (bytes_of p s v)

abbrev pub text_order : Text → Text → Ordering
text_order [] [] = Ordering.Equal
text_order [] (b ∷ u) = Ordering.Less
text_order (a ∷ t) [] = Ordering.Greater
text_order (a ∷ t) (b ∷ u) = elim (nat_eq a b) [ true ↦ text_order t u | false ↦ nat_cmp a b ]

-- a text as it is compared
abbrev pub folded : Folding → Text → Text
folded Folding.Exact t = t
folded Folding.Small t = map to_lower t

abbrev pub folded_byte : Folding → ℕ → ℕ
folded_byte Folding.Exact b = b
folded_byte Folding.Small b = to_lower b
