-- The entries of the table, and what is first among them.
use Rattle.std.proofs.Common.{◌≡◌, ℕ, suc, ◌+◌, ◌<◌, ◌≤◌, Bool, true, false, ◌&&◌, ◌||◌, List, [], ◌∷◌, ◌++◌, map, drop, length, get_or, Option, Some, None, refl, ap, sym, ◌∙◌, subst, arith, nat_eq, nat_lt}
use Rattle.std.specs.Option.{option_map}
use Rattle.std.proofs.Math.Seq.{drop-cons}
use Rattle.std.specs.Str.{bytes_eq}
use Rattle.std.specs.List.{list_any}
use Rattle.std.proofs.lemmas.Bool.{ne_eqb, ltb-true, ltb-false}
use Rattle.std.proofs.lemmas.List.{drop_all, append_assoc, append-nil, get_or_past}
use Rattle.std.proofs.lemmas.Slice.Eq.{bytes_eq-Decides}
use Rattle.st_base.specs.BuiltIns as base
use Rattle.st_base.specs.declared.builtins.BuiltInMessage.{BuiltInMessage as BaseMessage}
use Rattle.st_tree.specs.declared.units.Unit.{Unit}
use Rattle.st_code.specs.Texts.{Text, same_text}
use Rattle.st_code.specs.Program.{MethodRow, OfInstance, OfClass, OfMeta, Side as OnSide, same_side as same_on, name_at}
use Rattle.st_code.specs.Written.{named_unit, named_units}
use Rattle.st_code.specs.Resolved.{Names, number_or_last}
use Rattle.st_code.specs.BuiltIns.{BuiltInMessage, numbered_messages, is_message, place_of_message, message_number}
use Rattle.st_code.specs.Lookup.{Level, level, is_method, method_at}
use Rattle.st_code.proofs.Tables.{base_message, method_side, messages-base}
use Rattle.program_image.specs.declared.table.Side.{Side}
use Rattle.program_image.specs.declared.table.Side.TheVariants as side
use Rattle.program_image.specs.declared.table.Found.{Found}
use Rattle.program_image.specs.declared.table.Found.TheVariants as found
use Rattle.program_image.specs.declared.table.Key.{Key}
use Rattle.program_image.specs.declared.table.Entry.{Entry}
use Rattle.program_image.specs.Spelled.{selector_of}
use Rattle.program_image.specs.Tables.{same_side, same_key, first_found}
use Rattle.program_image.specs.Images.{image_names, image_methods, image_program, method_here, methods_from, with_method, on_side, off_side, key_at, method_entry, message_side, message_entry, message_entries, entries_with, found_here, image_found_at}
use Rattle.program_image.proofs.Numbers.{IsDistinct, names-distinct, number-is}
use Rattle.program_image.proofs.There.{image-spelled, number-low, selector-there}

-- ---- loops that add entries

append-one : (entries rest : List Entry) (e : Entry) → (entries ++ e ∷ []) ++ rest ≡ entries ++ e ∷ rest
append-one entries rest e = append_assoc entries (e ∷ []) rest

with-some : (o : Option MethodRow) (e : Entry) (rows : List MethodRow) → Some e ≡ option_map method_entry o → map method_entry (with_method o rows) ≡ e ∷ map method_entry rows
with-some None e rows is = absurd (grind (arith, is))
with-some (Some m) e rows is = ap (λ (x : Entry). x ∷ map method_entry rows) (sym (some-inside e (method_entry m) is))
  where
    some-inside : (x y : Entry) → Some x ≡ Some y → x ≡ y
    some-inside x y is = ap (λ o. elim o [ Some z ↦ z | None ↦ x ]) is

with-none : (o : Option MethodRow) (rows : List MethodRow) → None ≡ option_map method_entry o → map method_entry (with_method o rows) ≡ map method_entry rows
with-none None rows is = refl
with-none (Some m) rows is = absurd (grind (arith, is))

-- the methods of the units from one on
methods-at : (x : Names) (place : ℕ) (units : List Unit) (i : ℕ) (u : Unit) → u ≡ get_or units i u → i < length units
    → methods_from x place (drop i units) ≡ with_method (method_here x place (named_unit u)) (methods_from x (place + 1) (drop (i + 1) units))
methods-at x place units i u there low =
    let next : suc i ≡ i + 1 = omega arith in
    let after : suc place ≡ place + 1 = omega arith in
    ap (λ us. methods_from x place us) (drop-cons units i u low ∙ ap (λ v. v ∷ drop (suc i) units) (sym there))
    ∙ ap (λ n. with_method (method_here x place (named_unit u)) (methods_from x n (drop (suc i) units))) after
    ∙ ap (λ j. with_method (method_here x place (named_unit u)) (methods_from x (place + 1) (drop j units))) next

pub methods-some : (x : Names) (place : ℕ) (units : List Unit) (i : ℕ) (u : Unit) (entries new whole : List Entry) (e : Entry) → u ≡ get_or units i u → i < length units
    → Some e ≡ option_map method_entry (method_here x place (named_unit u)) → new ≡ entries ++ e ∷ []
    → entries ++ map method_entry (methods_from x place (drop i units)) ≡ whole → new ++ map method_entry (methods_from x (place + 1) (drop (i + 1) units)) ≡ whole
methods-some x place units i u entries new whole e there low is pushed sofar =
    let rest : List MethodRow = methods_from x (place + 1) (drop (i + 1) units) in
    ap (λ es. es ++ map method_entry rest) pushed ∙ append-one entries (map method_entry rest) e
    ∙ ap (λ es. entries ++ es) (sym (ap (map method_entry) (methods-at x place units i u there low) ∙ with-some (method_here x place (named_unit u)) e rest is)) ∙ sofar

pub methods-none : (x : Names) (place : ℕ) (units : List Unit) (i : ℕ) (u : Unit) (entries whole : List Entry) → u ≡ get_or units i u → i < length units
    → None ≡ option_map method_entry (method_here x place (named_unit u))
    → entries ++ map method_entry (methods_from x place (drop i units)) ≡ whole → entries ++ map method_entry (methods_from x (place + 1) (drop (i + 1) units)) ≡ whole
methods-none x place units i u entries whole there low is sofar =
    let rest : List MethodRow = methods_from x (place + 1) (drop (i + 1) units) in
    ap (λ es. entries ++ es) (sym (ap (map method_entry) (methods-at x place units i u there low) ∙ with-none (method_here x place (named_unit u)) rest is)) ∙ sofar

pub methods-end : (x : Names) (place : ℕ) (units : List Unit) (i : ℕ) (entries whole : List Entry) → length units ≤ i
    → entries ++ map method_entry (methods_from x place (drop i units)) ≡ whole → entries ≡ whole
methods-end x place units i entries whole past sofar =
    sym (ap (λ us. entries ++ map method_entry (methods_from x place us)) (drop_all i units past) ∙ append-nil entries) ∙ sofar

pub messages-next : (names : List Text) (number : ℕ) (items : List BaseMessage) (i : ℕ) (m : BaseMessage) (entries new whole : List Entry) → m ≡ get_or items i m → i < length items
    → new ≡ entries ++ message_entry names number (base.message_row m) ∷ []
    → entries ++ message_entries names number (map base.message_row (drop i items)) ≡ whole → new ++ message_entries names (number + 1) (map base.message_row (drop (i + 1) items)) ≡ whole
messages-next names number items i m entries new whole there low pushed sofar =
    let next : suc i ≡ i + 1 = omega arith in
    let after : suc number ≡ number + 1 = omega arith in
    let at : message_entries names number (map base.message_row (drop i items)) ≡ message_entry names number (base.message_row m) ∷ message_entries names (number + 1) (map base.message_row (drop (i + 1) items)) =
    ap (λ ms. message_entries names number (map base.message_row ms)) (drop-cons items i m low ∙ ap (λ y. y ∷ drop (suc i) items) (sym there))
    ∙ ap (λ n. message_entry names number (base.message_row m) ∷ message_entries names n (map base.message_row (drop (suc i) items))) after
    ∙ ap (λ j. message_entry names number (base.message_row m) ∷ message_entries names (number + 1) (map base.message_row (drop j items))) next in
    ap (λ es. es ++ message_entries names (number + 1) (map base.message_row (drop (i + 1) items))) pushed
    ∙ append-one entries (message_entries names (number + 1) (map base.message_row (drop (i + 1) items))) (message_entry names number (base.message_row m))
    ∙ ap (λ es. entries ++ es) (sym at) ∙ sofar

pub messages-end : (names : List Text) (number : ℕ) (items : List BaseMessage) (i : ℕ) (entries whole : List Entry) → length items ≤ i
    → entries ++ message_entries names number (map base.message_row (drop i items)) ≡ whole → entries ≡ whole
messages-end names number items i entries whole past sofar =
    sym (ap (λ ms. entries ++ message_entries names number (map base.message_row ms)) (drop_all i items past) ∙ append-nil entries) ∙ sofar

pub message-count : length base.messages ≡ 416
unfolding base.messages
message-count = refl

-- ---- what is first among them

abbrev or_found : Option Found → Option Found → Option Found
or_found (Some f) o = Some f
or_found None o = o

append-step : (b : Bool) (f : Found) (o p q : Option Found) → q ≡ or_found o p → elim b [ true ↦ Some f | false ↦ q ] ≡ or_found (elim b [ true ↦ Some f | false ↦ o ]) p
append-step true f o p q is = refl
append-step false f o p q is = is

first-append : (es fs : List Entry) (key : Key) → first_found (es ++ fs) key ≡ or_found (first_found es key) (first_found fs key)
unfolding first_found
first-append [] fs key = refl
first-append (e ∷ es) fs key = append-step (same_key e.key key) e.found (first_found es key) (first_found fs key) (first_found (es ++ fs) key) (first-append es fs key)

and-turn : (a b c : Bool) → (a && (b && c)) ≡ ((a && c) && b)
and-turn true true true = refl
and-turn true true false = refl
and-turn true false true = refl
and-turn true false false = refl
and-turn false b c = refl

sides-agree : (s : OnSide) (on : Side) → same_side (off_side s) on ≡ same_on s (on_side on)
sides-agree OfInstance side.Instance = refl
sides-agree OfInstance side.Class = refl
sides-agree OfInstance side.Meta = refl
sides-agree OfClass side.Instance = refl
sides-agree OfClass side.Class = refl
sides-agree OfClass side.Meta = refl
sides-agree OfMeta side.Instance = refl
sides-agree OfMeta side.Class = refl
sides-agree OfMeta side.Meta = refl

method-key : (m : MethodRow) (selector : ℕ) (on : Side) (class : ℕ) → same_key (method_entry m).key (key_at selector on class) ≡ is_method (level (on_side on) class) selector m
method-key m selector on class =
    ap (λ b. nat_eq m.selector selector && (b && nat_eq m.class class)) (sides-agree m.side on)
    ∙ and-turn (nat_eq m.selector selector) (same_on m.side (on_side on)) (nat_eq m.class class)

method-step : (b c : Bool) (code : ℕ) (o : Option ℕ) (q : Option Found) → b ≡ c → q ≡ option_map found.User o
    → elim b [ true ↦ Some (found.User code) | false ↦ q ] ≡ option_map found.User (elim c [ true ↦ Some code | false ↦ o ])
method-step true true code o q same is = refl
method-step false false code o q same is = is
method-step true false code o q same is = absurd (grind (arith, same))
method-step false true code o q same is = absurd (grind (arith, same))

first-method : (rows : List MethodRow) (selector : ℕ) (on : Side) (class : ℕ)
    → first_found (map method_entry rows) (key_at selector on class) ≡ option_map found.User (method_at rows (level (on_side on) class) selector)
unfolding first_found method_at
first-method [] selector on class = refl
first-method (m ∷ rows) selector on class =
    method-step (same_key (method_entry m).key (key_at selector on class)) (is_method (level (on_side on) class) selector m) m.code (method_at rows (level (on_side on) class) selector) (first_found (map method_entry rows) (key_at selector on class))
    (method-key m selector on class) (first-method rows selector on class)

-- no built-in message stands on the side of metaclasses
abbrev on_two_sides : List BuiltInMessage → Bool
on_two_sides [] = true
on_two_sides (m ∷ messages) = elim m.side [ OfInstance ↦ on_two_sides messages | OfClass ↦ on_two_sides messages | OfMeta ↦ false ]

two-sides : on_two_sides numbered_messages ≡ true
unfolding numbered_messages
two-sides = refl

abbrev Standing : OnSide → Bool → Bool
Standing OfInstance b = b
Standing OfClass b = b
Standing OfMeta b = false

standing-is : (s : OnSide) (b : Bool) → elim s [ OfInstance ↦ b | OfClass ↦ b | OfMeta ↦ false ] ≡ Standing s b
standing-is OfInstance b = refl
standing-is OfClass b = refl
standing-is OfMeta b = refl

message-sides : (s : OnSide) (on : Side) (b : Bool) → Standing s b ≡ true → same_side (message_side (method_side s)) on ≡ same_on s (on_side on)
message-sides OfInstance side.Instance b is = refl
message-sides OfInstance side.Class b is = refl
message-sides OfInstance side.Meta b is = refl
message-sides OfClass side.Instance b is = refl
message-sides OfClass side.Class b is = refl
message-sides OfClass side.Meta b is = refl
message-sides OfMeta on b is = absurd (grind (arith, is))

standing-rest : (s : OnSide) (b : Bool) → Standing s b ≡ true → b ≡ true
standing-rest OfInstance b is = is
standing-rest OfClass b is = is
standing-rest OfMeta b is = absurd (grind (arith, is))

and-last : (a b c : Bool) → (a && (b && c)) ≡ ((c && b) && a)
and-last true true true = refl
and-last true true false = refl
and-last true false true = refl
and-last true false false = refl
and-last false true true = refl
and-last false true false = refl
and-last false false true = refl
and-last false false false = refl

message-step : (b c : Bool) (n : ℕ) (o : Option ℕ) (q : Option Found) → b ≡ c → q ≡ option_map found.BuiltIn o
    → elim b [ true ↦ Some (found.BuiltIn n) | false ↦ q ] ≡ option_map found.BuiltIn (elim c [ true ↦ Some n | false ↦ o ])
message-step true true n o q same is = refl
message-step false false n o q same is = is
message-step true false n o q same is = absurd (grind (arith, same))
message-step false true n o q same is = absurd (grind (arith, same))

module _ (names : List Text) (selector : ℕ) (on : Side) (class : ℕ) (apart : IsDistinct names) (low : selector < length names) where
  message-key : (m : BuiltInMessage) (n : ℕ) (b : Bool) → Standing m.side b ≡ true
      → same_key (message_entry names n (base_message m)).key (key_at selector on class) ≡ is_message class (on_side on) (get_or names selector []) m
  message-key m n b stands =
      ap (λ c. c && (same_side (message_side (method_side m.side)) on && nat_eq m.class class)) (number-is names m.selector selector apart low)
      ∙ ap (λ c. same_text m.selector (get_or names selector []) && (c && nat_eq m.class class)) (message-sides m.side on b stands)
      ∙ and-last (same_text m.selector (get_or names selector [])) (same_on m.side (on_side on)) (nat_eq m.class class)

  first-message : (rows : List BuiltInMessage) (n : ℕ) → on_two_sides rows ≡ true
      → first_found (message_entries names n (map base_message rows)) (key_at selector on class) ≡ option_map found.BuiltIn (place_of_message n rows class (on_side on) (get_or names selector []))
  unfolding first_found
  first-message [] n two = refl
  first-message (m ∷ rows) n two =
      let stands : Standing m.side (on_two_sides rows) ≡ true = sym (standing-is m.side (on_two_sides rows)) ∙ two in
      message-step (same_key (message_entry names n (base_message m)).key (key_at selector on class)) (is_message class (on_side on) (get_or names selector []) m) n
      (place_of_message (suc n) rows class (on_side on) (get_or names selector [])) (first_found (message_entries names (suc n) (map base_message rows)) (key_at selector on class))
      (message-key m n (on_two_sides rows) stands) (first-message rows (suc n) (standing-rest m.side (on_two_sides rows) stands))

here-is : (units : List Unit) (l : Level) (selector : ℕ) (o : Option ℕ) (q : Option Found) → q ≡ option_map found.BuiltIn (message_number l.class l.side (name_at (image_program units) selector))
    → or_found (option_map found.User o) q ≡ found_here units l selector o
here-is units l selector None q is = is
here-is units l selector (Some place) q is = refl

by-number : (units : List Unit) (selector : ℕ) (on : Side) (class : ℕ) → selector < length (image_names units).names
    → first_found (message_entries (image_names units).names 0 base.messages) (key_at selector on class) ≡ option_map found.BuiltIn (message_number class (on_side on) (name_at (image_program units) selector))
unfolding message_number name_at image_program
by-number units selector on class low =
    let apart : IsDistinct (image_names units).names = subst IsDistinct (sym (image-spelled units)) (names-distinct (named_units units)) in
    ap (λ ms. first_found (message_entries (image_names units).names 0 ms) (key_at selector on class)) (sym messages-base)
    ∙ first-message (image_names units).names selector on class apart low numbered_messages 0 two-sides

-- ---- a selector beyond the names has no message

-- each selector is among the names
abbrev AreThere : List Text → List base.MessageRow → Type 0
AreThere names rows = (t : Text) → list_any (bytes_eq t) (map selector_of rows) ≡ true → list_any (bytes_eq t) names ≡ true

true-or : (b c : Bool) → b ≡ true → (b || c) ≡ true
true-or b c is = ap (λ a. a || c) is

or-last-true : (b c : Bool) → c ≡ true → (b || c) ≡ true
or-last-true true c is = refl
or-last-true false c is = is

no-entry : (names : List Text) (selector : ℕ) (on : Side) (class : ℕ) → length names ≤ selector → (rows : List base.MessageRow) (n : ℕ) → AreThere names rows
    → first_found (message_entries names n rows) (key_at selector on class) ≡ None
unfolding first_found
no-entry names selector on class far [] n there = refl
no-entry names selector on class far (m ∷ rows) n there =
    let low : number_or_last names m.selector < length names = number-low names m.selector (there m.selector (true-or (bytes_eq m.selector m.selector) (list_any (bytes_eq m.selector) (map selector_of rows)) ((bytes_eq-Decides m.selector m.selector).1 refl))) in
    let other : nat_eq (number_or_last names m.selector) selector ≡ false = ne_eqb (number_or_last names m.selector) selector (λ e. let none : ⊥ = omega (arith, e, low, far) in none) in
    ap (λ b. elim (b && (same_side (message_side m.side) on && nat_eq m.class class)) [ true ↦ Some (found.BuiltIn n) | false ↦ first_found (message_entries names (suc n) rows) (key_at selector on class) ]) other
    ∙ no-entry names selector on class far rows (suc n) (λ t is. there t (or-last-true (bytes_eq t m.selector) (list_any (bytes_eq t) (map selector_of rows)) is))

abbrev all_spelled : List BuiltInMessage → Bool
all_spelled [] = true
all_spelled (m ∷ messages) = elim (same_text m.selector []) [ true ↦ false | false ↦ all_spelled messages ]

are-spelled : all_spelled numbered_messages ≡ true
unfolding numbered_messages same_text
are-spelled = refl

and-false : (a b : Bool) → b ≡ false → (a && b) ≡ false
and-false true b is = is
and-false false b is = refl

not-spelled : (b c : Bool) → elim b [ true ↦ false | false ↦ c ] ≡ true → (b ≡ false) × (c ≡ true)
not-spelled true c is = absurd (grind (arith, is))
not-spelled false c is = (refl, is)

no-place : (class : ℕ) (on : OnSide) (rows : List BuiltInMessage) (n : ℕ) → all_spelled rows ≡ true → place_of_message n rows class on [] ≡ None
no-place class on [] n is = refl
no-place class on (m ∷ rows) n is =
    let both : (same_text m.selector [] ≡ false) × (all_spelled rows ≡ true) = not-spelled (same_text m.selector []) (all_spelled rows) is in
    ap (λ b. elim b [ true ↦ Some n | false ↦ place_of_message (suc n) rows class on [] ]) (and-false (nat_eq m.class class && same_on m.side on) (same_text m.selector []) both.0)
    ∙ no-place class on rows (suc n) both.1

by-none : (units : List Unit) (selector : ℕ) (on : Side) (class : ℕ) → length (image_names units).names ≤ selector
    → first_found (message_entries (image_names units).names 0 base.messages) (key_at selector on class) ≡ option_map found.BuiltIn (message_number class (on_side on) (name_at (image_program units) selector))
unfolding message_number name_at image_program
by-none units selector on class far =
    no-entry (image_names units).names selector on class far base.messages 0 (selector-there units)
    ∙ sym (ap (λ (t : Text). option_map found.BuiltIn (place_of_message 0 numbered_messages class (on_side on) t)) (get_or_past (image_names units).names selector [] far)
    ∙ ap (option_map found.BuiltIn) (no-place class (on_side on) numbered_messages 0 are-spelled))

by-any : (units : List Unit) (selector : ℕ) (on : Side) (class : ℕ)
    → first_found (message_entries (image_names units).names 0 base.messages) (key_at selector on class) ≡ option_map found.BuiltIn (message_number class (on_side on) (name_at (image_program units) selector))
by-any units selector on class = step (nat_lt selector (length (image_names units).names)) refl
  where
    step : (b : Bool) → nat_lt selector (length (image_names units).names) ≡ b
        → first_found (message_entries (image_names units).names 0 base.messages) (key_at selector on class) ≡ option_map found.BuiltIn (message_number class (on_side on) (name_at (image_program units) selector))
    step true is = by-number units selector on class (ltb-true selector (length (image_names units).names) is)
    step false is = by-none units selector on class (ltb-false selector (length (image_names units).names) is)

-- an entry is found as lookup finds it at one class and side
pub entry-found : (units : List Unit) (selector : ℕ) (on : Side) (class : ℕ)
    → first_found (entries_with (image_names units) units) (key_at selector on class) ≡ image_found_at units (level (on_side on) class) selector
unfolding entries_with image_methods
entry-found units selector on class =
    first-append (map method_entry (methods_from (image_names units) 0 units)) (message_entries (image_names units).names 0 base.messages) (key_at selector on class)
    ∙ ap (λ o. or_found o (first_found (message_entries (image_names units).names 0 base.messages) (key_at selector on class))) (first-method (methods_from (image_names units) 0 units) selector on class)
    ∙ here-is units (level (on_side on) class) selector (method_at (methods_from (image_names units) 0 units) (level (on_side on) class) selector) (first_found (message_entries (image_names units).names 0 base.messages) (key_at selector on class)) (by-any units selector on class)
