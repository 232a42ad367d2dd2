-- A visit of a loop with at most three arguments passes on at most two values, and its loop has as many arguments.
use Rattle.std.proofs.Common.{◌≡◌, ℕ, ◌+◌, ◌*◌, ◌-◌, ◌<◌, ◌≤◌, ℤ, pos, ◌+ℤ◌, min, int_le, List, [], ◌∷◌, ◌++◌, length, get_or, map, nat_eq, nat_le, Bool, true, false, not, ◌&&◌, ◌||◌, if◌then◌else◌, le-leb, refl, arith}
use Rattle.object_heap.specs.declared.value.Value.{Value}
use Rattle.object_heap.specs.declared.value.Value.TheVariants.{Nil, True, False, Integer, Character, Symbol, Class, Meta, Transcript, Object}
use Rattle.object_heap.specs.Store.{Store}
use Rattle.object_heap.specs.Charges.{Memory}
use Rattle.st_code.specs.Program.{Program}
use Rattle.st_code.specs.BuiltIns.{string_class, array_class, set_class}
use Rattle.st_code.specs.Messages.{LoopMessage}
use Rattle.st_collections.specs.Actions.{LoopState, Visit, Applies, Compares, Finishes, Lacks, Charges, first, second, boolean}
use Rattle.st_collections.specs.Kinds.{is_true, is_a, same_value, integer_of, species, slots_of, key, element}
use Rattle.st_collections.specs.Loops.{place, at_index, made_to, further, beside, past_all, visiting, is_within, here, within, step_of, count_visit, is_past, separated_visit, appended, added, turned_into, keeps_made, collected, selected, with_pair, compared, visit_at, visit, while_argument, while_given, answered, matched, removed, pair_removed, pair_or_answer, downwards, given_at, next_visit, with_made, same_kind, first_of_message, first_visit}
use Rattle.st_loops.specs.Steps.{Seen as Step, Next, Full, Out, told_of, paid}
use Rattle.st_machine.specs.Seen.{Passed}
use Rattle.st_machine.specs.Passing.{fits_in}

-- a loop has at most three arguments
abbrev pub is_short : LoopState → Bool
is_short l = nat_le (length l.arguments) 3

-- what a visit passes on has room
abbrev pub visit_fits : Visit → Passed → Bool
visit_fits (Applies l block args) p = fits_in args p && is_short l
visit_fits (Compares l r v) p = nat_le 1 p.room && is_short l
visit_fits (Finishes v) p = true
visit_fits (Lacks l) p = is_short l
visit_fits (Charges cells t v) p = true

abbrev pub step_fits : Step → Passed → Bool
step_fits (Next v) p = visit_fits v p
step_fits (Full used charge) p = true
step_fits Out p = true

abbrev pub Fits : Visit → Type 0
Fits (Applies l block args) = (length args ≤ 2) × (length l.arguments ≤ 3)
Fits (Compares l r v) = length l.arguments ≤ 3
Fits (Finishes v) = Unit {0}
Fits (Lacks l) = length l.arguments ≤ 3
Fits (Charges cells s v) = Fits v

pub record Small (v : Visit) : Type 0 where
  pub small : Fits v

finishes : (v : Value) → Small (Finishes v)
finishes v = record { small = tt }

none : (l : LoopState) (block : Value) → length l.arguments ≤ 3 → Small (Applies l block [])
none l block h = record { small = (omega arith, h) }

one : (l : LoopState) (block v : Value) → length l.arguments ≤ 3 → Small (Applies l block (v ∷ []))
one l block v h = record { small = (omega arith, h) }

two : (l : LoopState) (block v w : Value) → length l.arguments ≤ 3 → Small (Applies l block (v ∷ w ∷ []))
two l block v w h = record { small = (omega arith, h) }

compares : (l : LoopState) (r v : Value) → length l.arguments ≤ 3 → Small (Compares l r v)
compares l r v h = record { small = h }

lacks : (l : LoopState) → length l.arguments ≤ 3 → Small (Lacks l)
lacks l h = record { small = h }

charges : (cells : ℕ) (s : Store) (v : Visit) → Small v → Small (Charges cells s v)
charges cells s v h = record { small = h.small }

either : (b : Bool) (v w : Visit) → Small v → Small w → Small (if b then v else w)
either true v w h i = h
either false v w h i = i

appends : (s : Store) (made : Value) (slots : List Value) (rest : Store → Visit) → ((s' : Store) → Small (rest s')) → Small (appended s made slots rest)
appends s (Object n) slots rest h = record { small = (h _).small }
appends s Nil slots rest h = h s
appends s True slots rest h = h s
appends s False slots rest h = h s
appends s (Integer n) slots rest h = h s
appends s (Character c) slots rest h = h s
appends s (Symbol n) slots rest h = h s
appends s (Class c) slots rest h = h s
appends s (Meta c) slots rest h = h s
appends s Transcript slots rest h = h s

turns : (class : ℕ) (s : Store) (l : LoopState) → Small (turned_into class s l)
turns class s l = either (nat_eq class string_class) _ _ (record { small = tt }) (record { small = tt })

collects : (s : Store) (l : LoopState) → Small (collected s l)
collects s l = either (keeps_made s l.receiver) _ _ (finishes l.made) (turns array_class s l)

selects : (s : Store) (l : LoopState) → Small (selected s l)
selects s l =
    either (nat_eq (species s l.receiver) string_class) _ _ (turns string_class s l)
    (either (is_a s set_class l.receiver) _ _ (turns set_class s l) (either (keeps_made s l.receiver) _ _ (finishes l.made) (turns array_class s l)))

module _ (p : Program) where
  counts : (l : LoopState) → length l.arguments ≤ 3 → Small (count_visit l)
  counts l h = either (is_past (step_of l.message l.arguments) l.index (integer_of (first l.arguments))) _ _ (finishes l.receiver) (one l _ (Integer l.index) h)

  separates : (s : Store) (l : LoopState) → length l.arguments ≤ 3 → Small (separated_visit p s l)
  separates s l h = either (nat_le 2 (place l) && not l.aside) _ _ (none (beside l) (second l.arguments) h) (one (record l { aside = false }) (first l.arguments) (here p s l) h)

  compares_at : (s : Store) (l : LoopState) → length l.arguments ≤ 3 → Small (compared s l)
  compares_at s l h = either (nat_le (place l) (length (slots_of s (first l.arguments)))) _ _ (compares l _ _ h) (finishes False)

  at : (s : Store) (l : LoopState) (v w : Visit) → Small v → Small w → Small (within p s l v w)
  at s l v w h i = either (is_within p s l) v w h i

  visits_at : (s : Store) (m : LoopMessage) (l : LoopState) → length l.arguments ≤ 3 → Small (visit_at p s m l)
  unfolding visit_at
  visits_at s LoopMessage.WhileTrue l h = none l l.receiver h
  visits_at s LoopMessage.WhileFalse l h = none l l.receiver h
  visits_at s LoopMessage.TimesRepeat l h = either (int_le l.index (integer_of l.receiver)) _ _ (none l (first l.arguments) h) (finishes l.receiver)
  visits_at s LoopMessage.ToDo l h = counts l h
  visits_at s LoopMessage.ToByDo l h = counts l h
  visits_at s LoopMessage.Do l h = at s l _ _ (one l (first l.arguments) (here p s l) h) (finishes l.receiver)
  visits_at s LoopMessage.DoSeparatedBy l h = at s l _ _ (separates s l h) (finishes l.receiver)
  visits_at s LoopMessage.ReverseDo l h = at s l _ _ (one l (first l.arguments) (here p s l) h) (finishes l.receiver)
  visits_at s LoopMessage.KeysAndValuesDo l h = at s l _ _ (two l (first l.arguments) _ (here p s l) h) (finishes l.receiver)
  visits_at s LoopMessage.KeysDo l h = at s l _ _ (one l (first l.arguments) _ h) (finishes l.receiver)
  visits_at s LoopMessage.InjectInto l h = at s l _ _ (two l (second l.arguments) l.made (here p s l) h) (finishes l.made)
  visits_at s LoopMessage.Detect l h = at s l _ _ (one (visiting (here p s l) l) (first l.arguments) (here p s l) h) (lacks (past_all l) h)
  visits_at s LoopMessage.DetectIfNone l h = at s l _ _ (one (visiting (here p s l) l) (first l.arguments) (here p s l) h) (none (past_all l) (second l.arguments) h)
  visits_at s LoopMessage.AnySatisfy l h = at s l _ _ (one l (first l.arguments) (here p s l) h) (finishes False)
  visits_at s LoopMessage.AllSatisfy l h = at s l _ _ (one l (first l.arguments) (here p s l) h) (finishes True)
  visits_at s LoopMessage.Collect l h = at s l _ _ (one l (first l.arguments) (here p s l) h) (collects s l)
  visits_at s LoopMessage.Select l h = at s l _ _ (one (visiting (here p s l) l) (first l.arguments) (here p s l) h) (selects s l)
  visits_at s LoopMessage.Reject l h = at s l _ _ (one (visiting (here p s l) l) (first l.arguments) (here p s l) h) (selects s l)
  visits_at s LoopMessage.Includes l h = at s l _ _ (compares l (first l.arguments) (here p s l) h) (finishes False)
  visits_at s LoopMessage.OccurrencesOf l h = at s l _ _ (compares l (first l.arguments) (here p s l) h) (finishes l.made)
  visits_at s LoopMessage.IndexOf l h = at s l _ _ (compares l (first l.arguments) (here p s l) h) (finishes (Integer (pos 0)))
  visits_at s LoopMessage.AddToSet l h = at s l _ _ (compares l (first l.arguments) (here p s l) h) (appends s l.receiver _ _ (λ s'. finishes (first l.arguments)))
  visits_at s LoopMessage.Remove l h = at s l _ _ (compares l (first l.arguments) (here p s l) h) (lacks (past_all l) h)
  visits_at s LoopMessage.RemoveIfAbsent l h = at s l _ _ (compares l (first l.arguments) (here p s l) h) (none (past_all l) (second l.arguments) h)
  visits_at s LoopMessage.At l h = at s l _ _ (compares l (first l.arguments) _ h) (lacks (past_all l) h)
  visits_at s LoopMessage.AtIfAbsent l h = at s l _ _ (compares l (first l.arguments) _ h) (none (past_all l) (second l.arguments) h)
  visits_at s LoopMessage.AtPut l h = at s l _ _ (compares l (first l.arguments) _ h) (appends s l.receiver _ _ (λ s'. finishes (second l.arguments)))
  visits_at s LoopMessage.AtIfAbsentPut l h = at s l _ _ (compares l (first l.arguments) _ h) (none (past_all l) (second l.arguments) h)
  visits_at s LoopMessage.IncludesKey l h = at s l _ _ (compares l (first l.arguments) _ h) (finishes False)
  visits_at s LoopMessage.RemoveKey l h = at s l _ _ (compares l (first l.arguments) _ h) (lacks (past_all l) h)
  visits_at s LoopMessage.RemoveKeyIfAbsent l h = at s l _ _ (compares l (first l.arguments) _ h) (none (past_all l) (second l.arguments) h)
  visits_at s LoopMessage.EqualElements l h = at s l _ _ (compares_at s l h) (finishes True)
  visits_at s LoopMessage.NotEqual l h = compares l l.receiver (first l.arguments) h

  -- ---- what a value brings

  while_rest : (l : LoopState) (args : List Value) → length l.arguments ≤ 3 → Small (while_argument l args)
  while_rest l [] h = none l l.receiver h
  while_rest l (block ∷ args) h = none (beside l) block h

  whiles : (l : LoopState) (goes_on : Bool) → length l.arguments ≤ 3 → Small (while_given l goes_on)
  whiles l goes_on h = either l.aside _ _ (none (record l { aside = false }) l.receiver h) (either goes_on _ _ (while_rest l l.arguments h) (finishes Nil))

  answers : (l : LoopState) (v : Value) (w : Visit) → Small w → Small (answered l v w)
  answers l v w h = either l.aside _ _ (finishes v) h

  on : (s : Store) (l : LoopState) → length l.arguments ≤ 3 → Small (visit p s l)
  on s l h = visits_at s l.message l h

  matches : (s : Store) (l : LoopState) (v : Value) (found : Visit) → length l.arguments ≤ 3 → Small found → Small (matched p s l v found)
  matches s l v found h i = either (is_true v && is_within p s l) _ _ i (on s (further l) h)

  adds : (s : Store) (l : LoopState) (v : Value) → length l.arguments ≤ 3 → Small (added s l v (λ s'. visit p s' (further l)))
  adds s l v h = appends s l.made _ _ (λ s'. on s' (further l) h)

  pairs : (s : Store) (l : LoopState) (v : Value) → Small (pair_or_answer s l v)
  pairs s l v = either l.aside _ _ (appends s l.receiver _ _ (λ s'. finishes v)) (finishes v)

  given_small : (s : Store) (m : LoopMessage) (l : LoopState) (v : Value) → length l.arguments ≤ 3 → Small (given_at p s m l v)
  unfolding given_at
  given_small s LoopMessage.WhileTrue l v h = whiles l (same_value v True) h
  given_small s LoopMessage.WhileFalse l v h = whiles l (same_value v False) h
  given_small s LoopMessage.TimesRepeat l v h = on s (further l) h
  given_small s LoopMessage.ToDo l v h = counts (at_index (l.index +ℤ step_of l.message l.arguments) l) h
  given_small s LoopMessage.ToByDo l v h = counts (at_index (l.index +ℤ step_of l.message l.arguments) l) h
  given_small s LoopMessage.Do l v h = on s (further l) h
  given_small s LoopMessage.DoSeparatedBy l v h = either l.aside _ _ (on s l h) (on s (further l) h)
  given_small s LoopMessage.ReverseDo l v h = on s (downwards p s l) h
  given_small s LoopMessage.KeysAndValuesDo l v h = on s (further l) h
  given_small s LoopMessage.KeysDo l v h = on s (further l) h
  given_small s LoopMessage.InjectInto l v h = on s (made_to v (further l)) h
  given_small s LoopMessage.Detect l v h = answers l v _ (either (is_true v) _ _ (finishes l.visited) (on s (further l) h))
  given_small s LoopMessage.DetectIfNone l v h = answers l v _ (either (is_true v) _ _ (finishes l.visited) (on s (further l) h))
  given_small s LoopMessage.AnySatisfy l v h = either (is_true v) _ _ (finishes True) (on s (further l) h)
  given_small s LoopMessage.AllSatisfy l v h = either (is_true v) _ _ (on s (further l) h) (finishes False)
  given_small s LoopMessage.Collect l v h = adds s l v h
  given_small s LoopMessage.Select l v h = either (is_true v) _ _ (adds s l l.visited h) (on s (further l) h)
  given_small s LoopMessage.Reject l v h = either (is_true v) _ _ (on s (further l) h) (adds s l l.visited h)
  given_small s LoopMessage.Includes l v h = matches s l v _ h (finishes True)
  given_small s LoopMessage.OccurrencesOf l v h = matches s l v _ h (on s (made_to (Integer (integer_of l.made +ℤ pos 1)) (further l)) h)
  given_small s LoopMessage.IndexOf l v h = matches s l v _ h (finishes (Integer l.index))
  given_small s LoopMessage.AddToSet l v h = matches s l v _ h (finishes (first l.arguments))
  given_small s LoopMessage.Remove l v h = answers l v _ (matches s l v _ h (record { small = tt }))
  given_small s LoopMessage.RemoveIfAbsent l v h = answers l v _ (matches s l v _ h (record { small = tt }))
  given_small s LoopMessage.At l v h = answers l v _ (matches s l v _ h (finishes _))
  given_small s LoopMessage.AtIfAbsent l v h = answers l v _ (matches s l v _ h (finishes _))
  given_small s LoopMessage.AtPut l v h = matches s l v _ h (record { small = tt })
  given_small s LoopMessage.AtIfAbsentPut l v h = either l.aside _ _ (pairs s l v) (matches s l v _ h (finishes _))
  given_small s LoopMessage.IncludesKey l v h = matches s l v _ h (finishes True)
  given_small s LoopMessage.RemoveKey l v h = answers l v _ (matches s l v _ h (record { small = tt }))
  given_small s LoopMessage.RemoveKeyIfAbsent l v h = answers l v _ (matches s l v _ h (record { small = tt }))
  given_small s LoopMessage.EqualElements l v h = either (is_true v) _ _ (on s (further l) h) (finishes False)
  given_small s LoopMessage.NotEqual l v h = finishes (boolean (not (is_true v)))

  makes : (s : Store) (l : LoopState) → length l.arguments ≤ 3 → Small (with_made p s l)
  makes s l h = record { small = (on _ _ h).small }

  first_small : (s : Store) (m : LoopMessage) (l : LoopState) → length l.arguments ≤ 3 → Small (first_of_message p s m l)
  unfolding first_of_message
  first_small s LoopMessage.Collect l h = makes s l h
  first_small s LoopMessage.Select l h = makes s l h
  first_small s LoopMessage.Reject l h = makes s l h
  first_small s LoopMessage.EqualElements l h = either (same_kind s l) _ _ (on s l h) (finishes False)
  first_small s _ l h = on s l h

  pub next_visit_small : (s : Store) (l : LoopState) (v : Value) → length l.arguments ≤ 3 → Small (next_visit p s l v)
  unfolding next_visit
  next_visit_small s l v h = given_small s l.message l v h

  pub first_visit_small : (s : Store) (l : LoopState) → length l.arguments ≤ 3 → Small (first_visit p s l)
  unfolding first_visit
  first_visit_small s l h = first_small s l.message l h

-- ---- there is room for what such a visit passes on

both_true : (a b : Bool) → a ≡ true → b ≡ true → (a && b) ≡ true
both_true true true e f = refl
both_true true false e f = f
both_true false b e f = e

fits_by : (cells : ℕ) (s : Store) (v : Visit) (m : Memory) (p : Passed) (b : Bool) → nat_le (m.used + cells) m.limit ≡ b → step_fits (told_of v (paid cells s m)) p ≡ true → step_fits (told_of (Charges cells s v) m) p ≡ true
fits_by cells s v m p true e h = rw e h
fits_by cells s v m p false e h = rw e refl

pub small_fits : (v : Visit) (m : Memory) (p : Passed) → Fits v → 2 ≤ p.room → step_fits (told_of v m) p ≡ true
small_fits (Applies l block args) m p h room = both_true (nat_le (length args) p.room) (nat_le (length l.arguments) 3) (le-leb (length args) p.room (omega (arith, h.0, room))) (le-leb (length l.arguments) 3 h.1)
small_fits (Compares l r v) m p h room = both_true (nat_le 1 p.room) (nat_le (length l.arguments) 3) (le-leb 1 p.room (omega (arith, room))) (le-leb (length l.arguments) 3 h)
small_fits (Finishes v) m p h room = refl
small_fits (Lacks l) m p h room = le-leb (length l.arguments) 3 h
small_fits (Charges cells s v) m p h room = fits_by cells s v m p (nat_le (m.used + cells) m.limit) refl (small_fits v (paid cells s m) p h room)
