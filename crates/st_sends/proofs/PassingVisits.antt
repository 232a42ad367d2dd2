-- What the visits of a loop pass on: at most two values, and the loop with the arguments that it has.
use Rattle.std.proofs.Common.{ℕ, ◌+◌, ◌-◌, ◌≤◌, pos, ◌+ℤ◌, nat_eq, nat_le, int_le, length, get_or, map, List, [], ◌∷◌, ◌++◌, Bool, true, false, not, ◌&&◌, arith, if◌then◌else◌}
use Rattle.object_heap.specs.declared.value.Value.{Value}
use Rattle.object_heap.specs.declared.value.Value.TheVariants.{Nil, True, False, Integer, Character, Symbol, Class, Meta, Transcript, Object}
use Rattle.object_heap.specs.Store.{Store}
use Rattle.object_heap.specs.Charges.{object_charge}
use Rattle.st_code.specs.BuiltIns.{string_class, array_class, set_class, ordered_collection_class}
use Rattle.st_code.specs.Messages.{LoopMessage}
use Rattle.st_code.specs.Program.{Program}
use Rattle.st_collections.specs.Actions.{LoopState, Visit, Applies, Compares, Finishes, Lacks, Charges, first, second, boolean, next_object, with_new}
use Rattle.st_collections.specs.Kinds.{same_value, is_true, is_a, slots_of, key, integer_of, species}
use Rattle.st_collections.specs.Loops.{at_index, further, beside, past_all, visiting, made_to, is_within, here, place, count_visit, separated_visit, turned_into, keeps_made, collected, selected, with_pair, appended, added, value_at, set_value, compared, visit_at, visit, while_argument, while_given, answered, matched, removed, pair_removed, pair_or_answer, downwards, given_at, next_visit, with_made, same_kind, first_of_message, first_visit, step_of, block_of, is_past}
use Rattle.st_collections.specs.SequenceRows.{with_elements}
use Rattle.st_collections.specs.TextRows.{byte_of}
use Rattle.st_sends.specs.Arguments.{IsShort, VisitPasses}

pub record Visits (v : Visit) : Type 0 where
  pub passes : VisitPasses v

finishes : (v : Value) → Visits (Finishes v)
finishes v = record { passes = tt }

if_visits : (b : Bool) (v w : Visit) → Visits v → Visits w → Visits (if b then v else w)
if_visits true v w g i = g
if_visits false v w g i = i

applies : (l : LoopState) (v : Value) (args : List Value) → IsShort l → length args ≤ 2 → Visits (Applies l v args)
applies l v args g i = record { passes = (g, i) }

compares : (l : LoopState) (r v : Value) → IsShort l → Visits (Compares l r v)
compares l r v g = record { passes = g }

lacks : (l : LoopState) → IsShort l → Visits (Lacks l)
lacks l g = record { passes = g }

module _ (p : Program) (s : Store) where
  turned : (class : ℕ) (l : LoopState) → Visits (turned_into class s l)
  turned class l =
      let items = slots_of s l.made in
      if_visits (nat_eq class string_class) (Charges (object_charge 0 (length items)) (with_new string_class [] (map byte_of items) s) (Finishes (next_object s))) (Charges (1 + length items) (with_new class items [] s) (Finishes (next_object s))) record { passes = tt } record { passes = tt }

  gives_collected : (l : LoopState) → Visits (collected s l)
  gives_collected l = if_visits (keeps_made s l.receiver) (Finishes l.made) (turned_into array_class s l) (finishes l.made) (turned array_class l)

  gives_selected : (l : LoopState) → Visits (selected s l)
  gives_selected l =
      if_visits (nat_eq (species s l.receiver) string_class) (turned_into string_class s l) (if is_a s set_class l.receiver then turned_into set_class s l else collected s l) (turned string_class l)
      (if_visits (is_a s set_class l.receiver) (turned_into set_class s l) (collected s l) (turned set_class l) (gives_collected l))

  appended_passes : (r : Value) (slots : List Value) (rest : Store → Visit) → ((t : Store) → Visits (rest t)) → Visits (appended s r slots rest)
  appended_passes (Object n) slots rest on = record { passes = (on (with_elements s n slots).store).passes }
  appended_passes Nil slots rest on = on s
  appended_passes True slots rest on = on s
  appended_passes False slots rest on = on s
  appended_passes (Integer n) slots rest on = on s
  appended_passes (Character c) slots rest on = on s
  appended_passes (Symbol n) slots rest on = on s
  appended_passes (Class c) slots rest on = on s
  appended_passes (Meta c) slots rest on = on s
  appended_passes Transcript slots rest on = on s

  module _ (l : LoopState) (g : IsShort l) where
    each : (v : Value) (args : List Value) (w : Visit) → length args ≤ 2 → Visits w → Visits (if is_within p s l then Applies l v args else w)
    each v args w i b = if_visits (is_within p s l) (Applies l v args) w (applies l v args g i) b

    each_kept : (w : Visit) → Visits w → Visits (if is_within p s l then Applies (visiting (here p s l) l) (first l.arguments) (here p s l ∷ []) else w)
    each_kept w b = if_visits (is_within p s l) (Applies (visiting (here p s l) l) (first l.arguments) (here p s l ∷ [])) w (applies (visiting (here p s l) l) (first l.arguments) (here p s l ∷ []) g (omega arith)) b

    each_equal : (v w : Value) (x : Visit) → Visits x → Visits (if is_within p s l then Compares l v w else x)
    each_equal v w x b = if_visits (is_within p s l) (Compares l v w) x (compares l v w g) b

    none_block : Visits (Applies (past_all l) (second l.arguments) [])
    none_block = applies (past_all l) (second l.arguments) [] g (omega arith)

    counted : Visits (count_visit l)
    counted = if_visits (is_past (step_of l.message l.arguments) l.index (integer_of (first l.arguments))) (Finishes l.receiver) (Applies l (block_of l.message l.arguments) (Integer l.index ∷ [])) (finishes l.receiver) (applies l (block_of l.message l.arguments) (Integer l.index ∷ []) g (omega arith))

  pub visits : (m : LoopMessage) (l : LoopState) → IsShort l → Visits (visit_at p s m l)
  unfolding visit_at
  visits LoopMessage.WhileTrue l g = applies l l.receiver [] g (omega arith)
  visits LoopMessage.WhileFalse l g = applies l l.receiver [] g (omega arith)
  visits LoopMessage.TimesRepeat l g = if_visits (int_le l.index (integer_of l.receiver)) (Applies l (first l.arguments) []) (Finishes l.receiver) (applies l (first l.arguments) [] g (omega arith)) (finishes l.receiver)
  visits LoopMessage.ToDo l g = counted l g
  visits LoopMessage.ToByDo l g = counted l g
  visits LoopMessage.Do l g = each l g (first l.arguments) (here p s l ∷ []) (Finishes l.receiver) (omega arith) (finishes l.receiver)
  visits LoopMessage.DoSeparatedBy l g =
      let on = record l { aside = false } in
      if_visits (is_within p s l) (separated_visit p s l) (Finishes l.receiver)
      (if_visits (nat_le 2 (place l) && not l.aside) (Applies (beside l) (second l.arguments) []) (Applies on (first l.arguments) (here p s l ∷ [])) (applies (beside l) (second l.arguments) [] g (omega arith)) (applies on (first l.arguments) (here p s l ∷ []) g (omega arith)))
      (finishes l.receiver)
  visits LoopMessage.ReverseDo l g = each l g (first l.arguments) (here p s l ∷ []) (Finishes l.receiver) (omega arith) (finishes l.receiver)
  visits LoopMessage.KeysAndValuesDo l g = each l g (first l.arguments) _ (Finishes l.receiver) (omega arith) (finishes l.receiver)
  visits LoopMessage.KeysDo l g = each l g (first l.arguments) _ (Finishes l.receiver) (omega arith) (finishes l.receiver)
  visits LoopMessage.InjectInto l g = each l g (second l.arguments) (l.made ∷ here p s l ∷ []) (Finishes l.made) (omega arith) (finishes l.made)
  visits LoopMessage.Detect l g = each_kept l g (Lacks (past_all l)) (lacks (past_all l) g)
  visits LoopMessage.DetectIfNone l g = each_kept l g (Applies (past_all l) (second l.arguments) []) (none_block l g)
  visits LoopMessage.AnySatisfy l g = each l g (first l.arguments) (here p s l ∷ []) (Finishes False) (omega arith) (finishes False)
  visits LoopMessage.AllSatisfy l g = each l g (first l.arguments) (here p s l ∷ []) (Finishes True) (omega arith) (finishes True)
  visits LoopMessage.Collect l g = each l g (first l.arguments) (here p s l ∷ []) (collected s l) (omega arith) (gives_collected l)
  visits LoopMessage.Select l g = each_kept l g (selected s l) (gives_selected l)
  visits LoopMessage.Reject l g = each_kept l g (selected s l) (gives_selected l)
  visits LoopMessage.Includes l g = each_equal l g (first l.arguments) (here p s l) (Finishes False) (finishes False)
  visits LoopMessage.OccurrencesOf l g = each_equal l g (first l.arguments) (here p s l) (Finishes l.made) (finishes l.made)
  visits LoopMessage.IndexOf l g = each_equal l g (first l.arguments) (here p s l) (Finishes (Integer (pos 0))) (finishes (Integer (pos 0)))
  visits LoopMessage.AddToSet l g = each_equal l g (first l.arguments) (here p s l) (appended s l.receiver (slots_of s l.receiver ++ first l.arguments ∷ []) (λ s'. Finishes (first l.arguments))) (appended_passes l.receiver _ (λ s'. Finishes (first l.arguments)) (λ t. finishes (first l.arguments)))
  visits LoopMessage.Remove l g = each_equal l g (first l.arguments) (here p s l) (Lacks (past_all l)) (lacks (past_all l) g)
  visits LoopMessage.RemoveIfAbsent l g = each_equal l g (first l.arguments) (here p s l) (Applies (past_all l) (second l.arguments) []) (none_block l g)
  visits LoopMessage.At l g = each_equal l g (first l.arguments) (key s l.receiver (place l)) (Lacks (past_all l)) (lacks (past_all l) g)
  visits LoopMessage.AtIfAbsent l g = each_equal l g (first l.arguments) (key s l.receiver (place l)) (Applies (past_all l) (second l.arguments) []) (none_block l g)
  visits LoopMessage.AtPut l g = each_equal l g (first l.arguments) (key s l.receiver (place l)) (with_pair s l.receiver (first l.arguments) (second l.arguments) (second l.arguments)) (appended_passes l.receiver _ (λ s'. Finishes (second l.arguments)) (λ t. finishes (second l.arguments)))
  visits LoopMessage.AtIfAbsentPut l g = each_equal l g (first l.arguments) (key s l.receiver (place l)) (Applies (past_all l) (second l.arguments) []) (none_block l g)
  visits LoopMessage.IncludesKey l g = each_equal l g (first l.arguments) (key s l.receiver (place l)) (Finishes False) (finishes False)
  visits LoopMessage.RemoveKey l g = each_equal l g (first l.arguments) (key s l.receiver (place l)) (Lacks (past_all l)) (lacks (past_all l) g)
  visits LoopMessage.RemoveKeyIfAbsent l g = each_equal l g (first l.arguments) (key s l.receiver (place l)) (Applies (past_all l) (second l.arguments) []) (none_block l g)
  visits LoopMessage.EqualElements l g =
      let a = get_or (slots_of s l.receiver) (place l - 1) Nil in
      let b = get_or (slots_of s (first l.arguments)) (place l - 1) Nil in
      if_visits (is_within p s l) (compared s l) (Finishes True) (if_visits (nat_le (place l) (length (slots_of s (first l.arguments)))) (Compares l a b) (Finishes False) (compares l a b g) (finishes False)) (finishes True)
  visits LoopMessage.NotEqual l g = compares l l.receiver (first l.arguments) g

  -- ---- what a value brings

  goes_while : (l : LoopState) (args : List Value) → IsShort l → Visits (while_argument l args)
  goes_while l [] g = applies l l.receiver [] g (omega arith)
  goes_while l (block ∷ args) g = applies (beside l) block [] g (omega arith)

  while_by : (l : LoopState) (goes : Bool) → IsShort l → Visits (while_given l goes)
  while_by l goes g =
      if_visits l.aside (Applies (record l { aside = false }) l.receiver []) (if goes then while_argument l l.arguments else Finishes Nil) (applies (record l { aside = false }) l.receiver [] g (omega arith))
      (if_visits goes (while_argument l l.arguments) (Finishes Nil) (goes_while l l.arguments g) (finishes Nil))

  module _ (l : LoopState) (g : IsShort l) where
    next : Visits (visit p s (further l))
    next = visits l.message (further l) g

    either : (b : Bool) (v : Visit) → Visits v → Visits (if b then v else visit p s (further l))
    either b v a = if_visits b v (visit p s (further l)) a next

    or_next : (b : Bool) (v : Visit) → Visits v → Visits (if b then visit p s (further l) else v)
    or_next b v a = if_visits b (visit p s (further l)) v next a

    found : (v : Value) (w : Visit) → Visits w → Visits (matched p s l v w)
    found v w a = either (is_true v && is_within p s l) w a

  answer : (l : LoopState) (v : Value) (w : Visit) → Visits w → Visits (answered l v w)
  answer l v w a = if_visits l.aside (Finishes v) w (finishes v) a

  pair_passes : (l : LoopState) (v : Value) → Visits (pair_or_answer s l v)
  pair_passes l v = if_visits l.aside (with_pair s l.receiver (first l.arguments) v v) (Finishes v) (appended_passes l.receiver _ (λ s'. Finishes v) (λ t. finishes v)) (finishes v)

module _ (p : Program) (s : Store) where
  more_made : (l : LoopState) (v : Value) → IsShort l → Visits (added s l v (λ s'. visit p s' (further l)))
  more_made l v g = appended_passes p s l.made (slots_of s l.made ++ v ∷ []) (λ s'. visit p s' (further l)) (λ t. next p t l g)

  gives : (m : LoopMessage) (l : LoopState) (v : Value) → IsShort l → Visits (given_at p s m l v)
  unfolding given_at
  gives LoopMessage.WhileTrue l v g = while_by p s l (same_value v True) g
  gives LoopMessage.WhileFalse l v g = while_by p s l (same_value v False) g
  gives LoopMessage.ToDo l v g = counted p s (at_index (l.index +ℤ step_of l.message l.arguments) l) g
  gives LoopMessage.ToByDo l v g = counted p s (at_index (l.index +ℤ step_of l.message l.arguments) l) g
  gives LoopMessage.DoSeparatedBy l v g = either p s l g l.aside (visit p s l) (visits p s l.message l g)
  gives LoopMessage.ReverseDo l v g = visits p s l.message (downwards p s l) g
  gives LoopMessage.InjectInto l v g = visits p s l.message (made_to v (further l)) g
  gives LoopMessage.Detect l v g = answer p s l v _ (either p s l g (is_true v) (Finishes l.visited) (finishes l.visited))
  gives LoopMessage.DetectIfNone l v g = answer p s l v _ (either p s l g (is_true v) (Finishes l.visited) (finishes l.visited))
  gives LoopMessage.AnySatisfy l v g = either p s l g (is_true v) (Finishes True) (finishes True)
  gives LoopMessage.AllSatisfy l v g = or_next p s l g (is_true v) (Finishes False) (finishes False)
  gives LoopMessage.Collect l v g = more_made l v g
  gives LoopMessage.Select l v g = either p s l g (is_true v) (added s l l.visited (λ s'. visit p s' (further l))) (more_made l l.visited g)
  gives LoopMessage.Reject l v g = or_next p s l g (is_true v) (added s l l.visited (λ s'. visit p s' (further l))) (more_made l l.visited g)
  gives LoopMessage.Includes l v g = found p s l g v (Finishes True) (finishes True)
  gives LoopMessage.OccurrencesOf l v g = let one = made_to (Integer (integer_of l.made +ℤ pos 1)) (further l) in found p s l g v (visit p s one) (visits p s l.message one g)
  gives LoopMessage.IndexOf l v g = found p s l g v (Finishes (Integer l.index)) (finishes (Integer l.index))
  gives LoopMessage.AddToSet l v g = found p s l g v (Finishes (first l.arguments)) (finishes (first l.arguments))
  gives LoopMessage.Remove l v g = answer p s l v _ (found p s l g v (removed p s l) record { passes = tt })
  gives LoopMessage.RemoveIfAbsent l v g = answer p s l v _ (found p s l g v (removed p s l) record { passes = tt })
  gives LoopMessage.At l v g = answer p s l v _ (found p s l g v (Finishes (value_at s l)) (finishes (value_at s l)))
  gives LoopMessage.AtIfAbsent l v g = answer p s l v _ (found p s l g v (Finishes (value_at s l)) (finishes (value_at s l)))
  gives LoopMessage.AtPut l v g = found p s l g v (Charges 0 (set_value s l (second l.arguments)) (Finishes (second l.arguments))) record { passes = tt }
  gives LoopMessage.AtIfAbsentPut l v g = if_visits l.aside (pair_or_answer s l v) (matched p s l v (Finishes (value_at s l))) (pair_passes p s l v) (found p s l g v (Finishes (value_at s l)) (finishes (value_at s l)))
  gives LoopMessage.IncludesKey l v g = found p s l g v (Finishes True) (finishes True)
  gives LoopMessage.RemoveKey l v g = answer p s l v _ (found p s l g v (pair_removed s l) record { passes = tt })
  gives LoopMessage.RemoveKeyIfAbsent l v g = answer p s l v _ (found p s l g v (pair_removed s l) record { passes = tt })
  gives LoopMessage.EqualElements l v g = or_next p s l g (is_true v) (Finishes False) (finishes False)
  gives LoopMessage.NotEqual l v g = finishes (boolean (not (is_true v)))
  gives m l v g = next p s l g

  pub next_visit_passes : (l : LoopState) (v : Value) → IsShort l → Visits (next_visit p s l v)
  unfolding next_visit
  next_visit_passes l v g = gives l.message l v g

  makes : (l : LoopState) → IsShort l → Visits (with_made p s l)
  makes l g = record { passes = (visits p (with_new ordered_collection_class [] [] s) l.message (made_to (next_object s) l) g).passes }

  firsts : (m : LoopMessage) (l : LoopState) → IsShort l → Visits (first_of_message p s m l)
  unfolding first_of_message
  firsts LoopMessage.Collect l g = makes l g
  firsts LoopMessage.Select l g = makes l g
  firsts LoopMessage.Reject l g = makes l g
  firsts LoopMessage.EqualElements l g = if_visits (same_kind s l) (visit p s l) (Finishes False) (visits p s l.message l g) (finishes False)
  firsts m l g = visits p s l.message l g

  pub first_visit_passes : (l : LoopState) → IsShort l → Visits (first_visit p s l)
  unfolding first_visit
  first_visit_passes l g = firsts l.message l g
