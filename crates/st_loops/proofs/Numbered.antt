-- The loops stand behind the other messages of the table.
use Rattle.std.proofs.Common.{◌≡◌, ℕ, zero, suc, ◌-◌, ◌<◌, ◌≤◌, List, [], ◌∷◌, ◌++◌, map, length, get_or, replicate, Option, Some, None, refl, sym, ap, ◌∙◌}
use Rattle.std.specs.List.{slice_get}
use Rattle.std.specs.Option.{option_map}
use Rattle.std.proofs.lemmas.Option.{slice_get_past, slice_get-map, slice_get-get_or}
use Rattle.std.proofs.Math.ListN.{get_or-map}
use Rattle.std.proofs.lemmas.List.{get_or_append_left, get_or-append_right, get_or-replicate}
use Rattle.st_code.specs.Messages.{LoopMessage}
use Rattle.st_code.specs.BuiltIns.{BuiltInMessage, no_message, numbered_messages, numbered_row}
use Rattle.st_loops.specs.Kinds.{loop_of, loops_in}

abbrev loop_at : BuiltInMessage → Option LoopMessage
loop_at m = loop_of m.row

-- the rows before the loops
abbrev others : List (Option LoopMessage)
others = replicate 278 None

other_count : length others ≡ 278
other_count = refl

table : map loop_at numbered_messages ≡ others ++ map Some (loops_in numbered_messages)
unfolding numbered_messages
table = refl

read : (ls : List LoopMessage) (k : ℕ) → get_or (map Some ls) k None ≡ slice_get ls k
read [] k = refl
read (l ∷ ls) zero = refl
read (l ∷ ls) (suc k) = read ls k

by_table : (n : ℕ) → loop_of (numbered_row n) ≡ get_or (others ++ map Some (loops_in numbered_messages)) n None
unfolding numbered_row
by_table n = sym (get_or-map loop_at numbered_messages n no_message) ∙ ap (λ (rows : List (Option LoopMessage)). get_or rows n None) table

pub before : (n : ℕ) → n < 278 → loop_of (numbered_row n) ≡ None
before n h =
    by_table n
    ∙ get_or_append_left others (map Some (loops_in numbered_messages)) None n (rw other_count h)
    ∙ get_or-replicate 278 n None None h

pub behind : (n : ℕ) → 278 ≤ n → loop_of (numbered_row n) ≡ slice_get (loops_in numbered_messages) (n - 278)
behind n h =
    by_table n
    ∙ get_or-append_right others (map Some (loops_in numbered_messages)) 278 n None other_count h
    ∙ read (loops_in numbered_messages) (n - 278)

-- the same, where the loops are kept as what they are named by
pub behind_at : {K : Type 0} → (f : K → LoopMessage) (kinds : List K) (d : K) (n : ℕ) → map f kinds ≡ loops_in numbered_messages → 278 ≤ n → n - 278 < length kinds → Some (f (get_or kinds (n - 278) d)) ≡ loop_of (numbered_row n)
behind_at f kinds d n e h low =
    sym (behind n h ∙ ap (λ (ls : List LoopMessage). slice_get ls (n - 278)) (sym e) ∙ slice_get-map f kinds (n - 278) ∙ ap (option_map f) (slice_get-get_or kinds (n - 278) d low))

pub past : {K : Type 0} → (f : K → LoopMessage) (kinds : List K) (n : ℕ) → map f kinds ≡ loops_in numbered_messages → 278 ≤ n → length kinds ≤ n - 278 → None ≡ loop_of (numbered_row n)
past f kinds n e h high =
    sym (behind n h ∙ ap (λ (ls : List LoopMessage). slice_get ls (n - 278)) (sym e) ∙ slice_get-map f kinds (n - 278) ∙ ap (option_map f) (slice_get_past kinds (n - 278) high))
