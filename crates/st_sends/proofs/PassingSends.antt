-- What a send passes on: a loop has at most three arguments, since no loop's selector takes more.
use Rattle.std.proofs.Common.{◌≡◌, ℕ, ◌≤◌, inl, inr, ℤ, pos, int_le, nat_eq, nat_le, ◌&&◌, length, drop, List, [], ◌∷◌, ◌++◌, Option, Some, None, Bool, true, false, eqb-true, true≢false, refl, sym, ap, ◌∙◌, subst, arith, if◌then◌else◌}
use Rattle.std.proofs.lemmas.Bool.{leb-true}
use Rattle.std.specs.Option.{option_map}
use Rattle.object_heap.specs.declared.value.Value.{Value}
use Rattle.object_heap.specs.declared.value.Value.TheVariants.{Nil, Integer, Class, Object}
use Rattle.object_heap.specs.declared.value.Closure.{Closure}
use Rattle.object_heap.specs.declared.trouble.Trouble.TheVariants as trouble
use Rattle.object_heap.specs.Store.{Store, object_at}
use Rattle.st_code.specs.BuiltIns.{array_class, exception_set_class, Section, built_in_messages, row_in, is_section, or_else, row_in_sections, row_at}
use Rattle.st_code.specs.BuiltInRows.{RowAt}
use Rattle.st_code.specs.Lookup.{Level, level_of, walk, Found, UserMethod, BuiltIn, method_at, found_at, found_in, lookup, class_level, super_lookup, is_plain, is_exception, fits}
use Rattle.st_code.specs.Messages.{Row, Objects, Classes, Booleans, Numbers, Characters, Transcripts, Strings, Sequences, Collections, Blocks, Exceptions, Loops, Slots, BlockMessage, ExceptionMessage, LoopMessage}
use Rattle.st_code.specs.Program.{Program, Side, class_at, body_at, name_at}
use Rattle.st_code.specs.Texts.{Text, arity, same_text, is_keywords, are_keywords, is_operators, all_bytes, holds_byte, count_byte, is_letter, is_upper, is_lower, is_digit}
use Rattle.st_collections.specs.Actions.{Action, Gives, Fails, Activates, Iterates, Enters, Misses, boolean, first, second, makes_slots}
use Rattle.st_collections.specs.Kinds.{is_a, slots_of, slot_of, integer_of, natural_of, exception_text}
use Rattle.st_collections.specs.Loops.{with_stop, with_step, begun, loop_action}
use Rattle.st_rules.specs.ExceptionRows.{closure_of, value_with, block_at, block_action, selectors_of, handles, new_exception, signal_new, kept_or_text, exception_at, to_exception, exception_action}
use Rattle.st_rules.specs.Sends.{row_action, send_action, super_action}
use Rattle.st_rules.proofs.SoundNames.{same_is}
use Rattle.st_sends.specs.Arguments.{Takes, ActionPasses}
use Rattle.st_sends.specs.SendsFit.{SendsPass, SuperSendsPass}
use Rattle.st_sends.proofs.PlainRows.{Passes, fails, if_passes, slots_pass, string_passes, blank_passes, objects_pass, classes_pass, booleans_pass, characters_pass, transcripts_pass, strings_pass, sequences_pass, collections_pass, numbers_pass}

-- ---- selectors of loops

abbrev has_bytes : Text → Bool
has_bytes [] = false
has_bytes (b ∷ t) = true

abbrev is_short : Row → Text → Bool
is_short (Loops m) t = nat_le (arity t) 3 && has_bytes t
is_short row t = true

abbrev rows_short : List RowAt → Bool
rows_short [] = true
rows_short (r ∷ rows) = is_short r.row r.selector && rows_short rows

abbrev sections_short : List Section → Bool
sections_short [] = true
sections_short (s ∷ sections) = rows_short s.rows && sections_short sections

table_short : sections_short built_in_messages ≡ true
unfolding built_in_messages arity is_keywords are_keywords is_operators all_bytes holds_byte count_byte is_letter is_upper is_lower is_digit
table_short = refl

both : (a b : Bool) → (a && b) ≡ true → (a ≡ true) × (b ≡ true)
both true true e = (refl, refl)
both true false e = absurd (true≢false (sym e))
both false b e = absurd (true≢false (sym e))

abbrev RowShort : Text → Option Row → Type 0
RowShort t None = Unit {0}
RowShort t (Some row) = is_short row t ≡ true

row_in_short : (rows : List RowAt) (t : Text) → rows_short rows ≡ true → RowShort t (row_in rows t)
unfolding row_in
row_in_short [] t h = tt
row_in_short (r ∷ rows) t h = let x = both (is_short r.row r.selector) (rows_short rows) h in go (same_text r.selector t) refl x.0 (row_in_short rows t x.1)
  where
    go : (b : Bool) → same_text r.selector t ≡ b → is_short r.row r.selector ≡ true → RowShort t (row_in rows t) → RowShort t (elim b [ true ↦ Some r.row | false ↦ row_in rows t ])
    go true e f g = subst (λ u. is_short r.row u ≡ true) (same_is r.selector t e) f
    go false e f g = g

either_short : (t : Text) (a b : Option Row) → RowShort t a → RowShort t b → RowShort t (or_else a b)
either_short t None b f g = g
either_short t (Some row) b f g = f

in_sections : (sections : List Section) (c : ℕ) (side : Side) (t : Text) → sections_short sections ≡ true → RowShort t (row_in_sections sections c side t)
unfolding row_in_sections
in_sections [] c side t h = tt
in_sections (s ∷ sections) c side t h = let x = both (rows_short s.rows) (sections_short sections) h in go (is_section c side s) (row_in_short s.rows t x.0) (in_sections sections c side t x.1)
  where
    go : (b : Bool) → RowShort t (row_in s.rows t) → RowShort t (row_in_sections sections c side t) → RowShort t (elim b [ true ↦ or_else (row_in s.rows t) (row_in_sections sections c side t) | false ↦ row_in_sections sections c side t ])
    go true f g = either_short t (row_in s.rows t) (row_in_sections sections c side t) f g
    go false f g = g

row_at_short : (c : ℕ) (side : Side) (t : Text) → RowShort t (row_at c side t)
unfolding row_at
row_at_short c side t = in_sections built_in_messages c side t table_short

abbrev FoundShort : Text → Option Found → Type 0
FoundShort t (Some (BuiltIn row)) = is_short row t ≡ true
FoundShort t o = Unit {0}

module _ (p : Program) (selector : ℕ) where
  abbrev name : Text
  name = name_at p selector

  row_short : (o : Option Row) → RowShort name o → FoundShort name (option_map BuiltIn o)
  row_short None f = tt
  row_short (Some row) f = f

  found_here : (l : Level) → FoundShort name (found_at p l selector)
  unfolding found_at
  found_here l = go (method_at p.methods l selector)
    where
      go : (o : Option ℕ) → FoundShort name (elim o [ Some code ↦ Some (UserMethod code) | None ↦ option_map BuiltIn (row_at l.class l.side (name_at p selector)) ])
      go None = row_short (row_at l.class l.side (name_at p selector)) (row_at_short l.class l.side (name_at p selector))
      go (Some code) = tt

  found_short : (levels : List Level) → FoundShort name (found_in p levels selector)
  unfolding found_in
  found_short [] = tt
  found_short (l ∷ levels) = go (found_at p l selector) (found_here l) (found_short levels)
    where
      go : (o : Option Found) → FoundShort name o → FoundShort name (found_in p levels selector) → FoundShort name (elim o [ Some found ↦ Some found | None ↦ found_in p levels selector ])
      go None f g = g
      go (Some (UserMethod code)) f g = tt
      go (Some (BuiltIn row)) f g = f

  few : (count : ℕ) → Takes p selector count → (nat_le (arity name) 3 && has_bytes name) ≡ true → count ≤ 3
  few count (inl e) h = let l = leb-true (arity name) 3 (both (nat_le (arity name) 3) (has_bytes name) h).0 in omega (arith, e, l)
  few count (inr e) h = absurd (true≢false (sym (both (nat_le (arity name) 3) (has_bytes name) h).1 ∙ ap has_bytes e))

-- ---- rows

module _ (p : Program) (s : Store) where
  abbrev P : List Value → Action → Type 0
  P args a = Passes p s (length args) a

  kept_passes : (n k : ℕ) (v : Value) → Passes p s n (kept_or_text p s k v)
  kept_passes n k Nil = string_passes p s n (exception_text p s k)
  kept_passes n k v = record { passes = tt }

  exceptions_at : (m : ExceptionMessage) (k : ℕ) (args : List Value) → P args (exception_at p s m k args)
  exceptions_at ExceptionMessage.MessageText k args = kept_passes (length args) k (slot_of s (Object k) 0)
  exceptions_at ExceptionMessage.Description k args = string_passes p s (length args) _
  exceptions_at m k args = record { passes = tt }

  to_passes : (m : ExceptionMessage) (r : Value) (args : List Value) → P args (to_exception p s m r args)
  to_passes m (Object k) args = exceptions_at m k args
  to_passes m r args = record { passes = tt }

  handles_passes : (n : ℕ) (r v : Value) → Passes p s n (handles p s r v)
  handles_passes n r (Object k) = if_passes p s n (is_exception p s (Object k)) (Gives (boolean (fits p s r (object_at k s).class))) (Fails trouble.ExceptionExpected) record { passes = tt } record { passes = tt }
  handles_passes n r v = record { passes = tt }

  new_passes : (n : ℕ) (r : Value) → Passes p s n (new_exception p s r)
  new_passes n (Class c) = blank_passes p s n c (class_at p c).slots 0
  new_passes n r = record { passes = tt }

  signal_passes : (r : Value) (args : List Value) → P args (signal_new r args)
  signal_passes (Class c) args = record { passes = omega arith }
  signal_passes r args = record { passes = tt }

  exceptions_pass : (m : ExceptionMessage) (r : Value) (args : List Value) → P args (exception_action p s m r args)
  unfolding exception_action
  exceptions_pass ExceptionMessage.New r args = new_passes (length args) r
  exceptions_pass ExceptionMessage.SignalNew r args = signal_passes r args
  exceptions_pass ExceptionMessage.Join r args =
      if_passes p s (length args) (is_plain p s r && is_plain p s (first args)) (makes_slots exception_set_class (selectors_of s r ++ selectors_of s (first args)) s) (Fails trouble.ExceptionSelectorExpected)
      (slots_pass p s (length args) exception_set_class (selectors_of s r ++ selectors_of s (first args))) (fails p s (length args) trouble.ExceptionSelectorExpected)
  exceptions_pass ExceptionMessage.Handles r args = handles_passes (length args) r (first args)
  exceptions_pass m r args = to_passes m r args

  begins : (n : ℕ) (m : LoopMessage) (r : Value) (args : List Value) (index : ℤ) (made : Value) → length args ≤ 3 → Passes p s n (Iterates (begun m r args index made))
  begins n m r args index made l = record { passes = l }

  stop_passes : (n : ℕ) (v : Value) (act : Action) → Passes p s n act → Passes p s n (with_stop v act)
  stop_passes n (Integer i) act g = g
  stop_passes n v act g = record { passes = tt }

  step_passes : (n : ℕ) (v : Value) (act : Action) → Passes p s n act → Passes p s n (with_step v act)
  step_passes n (Integer i) act g = if_passes p s n (nat_eq (natural_of i) 0 && int_le (pos 0) i) (Fails trouble.StepIsZero) act (fails p s n trouble.StepIsZero) g
  step_passes n v act g = record { passes = tt }

  loops_pass : (m : LoopMessage) (r : Value) (args : List Value) → length args ≤ 3 → P args (loop_action p s m r args)
  unfolding loop_action
  loops_pass LoopMessage.ToDo r args l = stop_passes (length args) (first args) (Iterates (begun LoopMessage.ToDo r args (integer_of r) Nil)) (begins (length args) LoopMessage.ToDo r args (integer_of r) Nil l)
  loops_pass LoopMessage.ToByDo r args l =
      stop_passes (length args) (first args) (with_step (second args) (Iterates (begun LoopMessage.ToByDo r args (integer_of r) Nil)))
      (step_passes (length args) (second args) (Iterates (begun LoopMessage.ToByDo r args (integer_of r) Nil)) (begins (length args) LoopMessage.ToByDo r args (integer_of r) Nil l))
  loops_pass m r args l = record { passes = l }

  value_passes : (n : ℕ) (c : Closure) (args : List Value) → Passes p s n (value_with p c args)
  value_passes n c args = go (nat_eq (body_at p c.code).parameters (length args)) refl
    where
      go : (b : Bool) → nat_eq (body_at p c.code).parameters (length args) ≡ b → Passes p s n (if b then Activates c args else Fails trouble.WrongNumberOfArguments)
      go true e = record { passes = sym (eqb-true (body_at p c.code).parameters (length args) e) }
      go false e = record { passes = tt }

  block_passes : (n : ℕ) (m : BlockMessage) (r : Value) (c : Closure) (args : List Value) → Passes p s n (block_at p s m r c args)
  block_passes n BlockMessage.Value r c args = value_passes n c args
  block_passes n BlockMessage.ValueWithArguments r c args = if_passes p s n (is_a s array_class (first args)) (value_with p c (slots_of s (first args))) (Fails trouble.CollectionExpected) (value_passes n c (slots_of s (first args))) record { passes = tt }
  block_passes n BlockMessage.NumArgs r c args = record { passes = tt }
  block_passes n BlockMessage.OnDo r c args = record { passes = tt }
  block_passes n BlockMessage.Ensure r c args = record { passes = tt }
  block_passes n BlockMessage.IfCurtailed r c args = record { passes = tt }

  blocks_by : (n : ℕ) (m : BlockMessage) (r : Value) (o : Option Closure) (args : List Value) → Passes p s n (elim o [ Some c ↦ block_at p s m r c args | None ↦ Gives Nil ])
  blocks_by n m r None args = record { passes = tt }
  blocks_by n m r (Some c) args = block_passes n m r c args

  rows_pass : (selector : ℕ) (row : Row) (r : Value) (args : List Value) → Takes p selector (length args) → is_short row (name_at p selector) ≡ true → P args (row_action p s row r args)
  unfolding row_action block_action
  rows_pass selector (Objects m) r args t f = objects_pass p s (length args) m r args
  rows_pass selector (Classes m) r args t f = classes_pass p s (length args) m r args
  rows_pass selector (Booleans m) r args t f = booleans_pass p s (length args) m r args
  rows_pass selector (Numbers m) r args t f = numbers_pass p s (length args) m r args
  rows_pass selector (Characters m) r args t f = characters_pass p s (length args) m r args
  rows_pass selector (Transcripts m) r args t f = transcripts_pass p s (length args) m r args
  rows_pass selector (Strings m) r args t f = strings_pass p s (length args) m r args
  rows_pass selector (Sequences m) r args t f = sequences_pass p s (length args) m r args
  rows_pass selector (Collections m) r args t f = collections_pass p s (length args) m r args
  rows_pass selector (Blocks m) r args t f = blocks_by (length args) m r (closure_of s r) args
  rows_pass selector (Exceptions m) r args t f = exceptions_pass m r args
  rows_pass selector (Loops m) r args t f = loops_pass m r args (few p selector (length args) t f)
  rows_pass selector (Slots slot) r args t f = record { passes = tt }

  abbrev found_by : Option Found → ℕ → Value → List Value → Action
  found_by (Some (UserMethod code)) selector r args = Enters code r args
  found_by (Some (BuiltIn row)) selector r args = row_action p s row r args
  found_by None selector r args = Misses selector r args

  found_passes : (o : Option Found) (selector : ℕ) (r : Value) (args : List Value) → Takes p selector (length args) → FoundShort (name_at p selector) o → ActionPasses p (length args) (found_by o selector r args)
  found_passes (Some (UserMethod code)) selector r args t f = omega arith
  found_passes (Some (BuiltIn row)) selector r args t f = (rows_pass selector row r args t f).passes
  found_passes None selector r args t f = tt

pub sends_pass : SendsPass
unfolding send_action lookup
sends_pass p s selector r args t = found_passes p s (found_in p (walk p (level_of s r)) selector) selector r args t (found_short p selector (walk p (level_of s r)))

pub super_sends_pass : SuperSendsPass
unfolding super_action super_lookup
super_sends_pass p s class selector r args t = found_passes p s (found_in p (drop 1 (walk p (class_level class))) selector) selector r args t (found_short p selector (drop 1 (walk p (class_level class))))
