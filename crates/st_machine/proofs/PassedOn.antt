-- Values that are pushed one by one, and values that are passed on.
use Rattle.std.proofs.Common.{◌≡◌, ℕ, ◌+◌, ◌<◌, ◌≤◌, List, [], ◌∷◌, ◌++◌, length, take, get_or, nat_le, Bool, true, false, if◌then◌else◌, le-leb, refl, ap, sym, ◌∙◌, arith}
use Rattle.std.proofs.lemmas.List.{append_assoc, take_more, take_all}
use Rattle.object_heap.specs.declared.value.Value.{Value}
use Rattle.object_heap.specs.declared.value.Value.TheVariants.{Nil}
use Rattle.st_messages.specs.Replies.{behind}
use Rattle.st_machine.specs.Seen.{Passed, passing}
use Rattle.st_machine.specs.Passing.{fits_in, put_on}

pub push_next : (first more old new : List Value) (i : ℕ) (x : Value) → i < length more → x ≡ get_or more i Nil → old ≡ first ++ take i more → new ≡ old ++ x ∷ [] → new ≡ first ++ take (i + 1) more
push_next first more old new i x l is e n = n ∙ rw (e, is, take_more more i Nil l) (append_assoc first (take i more) (get_or more i Nil ∷ []))

pub push_end : (first more now : List Value) (i : ℕ) → length more ≤ i → now ≡ first ++ take i more → now ≡ first ++ more
push_end first more now i l e = e ∙ ap (λ (vs : List Value). first ++ vs) (take_all i more l)

pub fits_here : (values : List Value) (p : Passed) → length values ≤ p.room → fits_in values p ≡ true
fits_here values p l = le-leb (length values) p.room l

by_case : (b : Bool) (p : Passed) → (if b then passing p.values p else p) ≡ p
by_case true p = refl
by_case false p = refl

-- what is passed on already
pub put_same : (p : Passed) → put_on p.values p ≡ p
put_same p = by_case (fits_in p.values p) p

pub behind_fits : (values : List Value) (p : Passed) → length values ≤ p.room → fits_in (behind values) p ≡ true
behind_fits [] p l = le-leb 0 p.room (omega arith)
behind_fits (v ∷ values) p l = le-leb (length values) p.room (omega (arith, l))
