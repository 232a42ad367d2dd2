-- Exceptions, their classes and sets under a renaming.
use Rattle.std.proofs.Common.{◌≡◌, ℕ, ◌≤◌, List, [], ◌∷◌, ◌++◌, length, ◌&&◌, refl, sym, ap, ◌∙◌, codes, if◌then◌else◌}
use Rattle.std.proofs.lemmas.List.{map-append}
use Rattle.object_heap.specs.declared.value.Value.{Value}
use Rattle.object_heap.specs.declared.value.Value.TheVariants.{Nil, Class, Object}
use Rattle.object_heap.specs.declared.trouble.Trouble.TheVariants as trouble
use Rattle.object_heap.specs.Store.{Store, Object as HeapObject, object_at, with_slot}
use Rattle.st_code.specs.Program.{Program, ClassRow, class_at}
use Rattle.st_code.specs.Messages.{ExceptionMessage}
use Rattle.st_code.specs.BuiltIns.{exception_set_class}
use Rattle.st_code.specs.Lookup.{is_plain, fits, is_exception}
use Rattle.st_collections.specs.Actions.{Action, Gives, Changes, Writes, Fails, Raises, Controls, boolean, first, makes_slots, makes_string, makes_blank}
use Rattle.st_collections.specs.Kinds.{slot_of, exception_text}
use Rattle.st_rules.specs.ExceptionRows.{selectors_of, join_selectors, handles, new_exception, signal_new, kept_or_text, exception_at, to_exception, exception_action}
use Rattle.law_shake.specs.Renaming.{Renaming, taken, object, ren, rens, ren_store, ren_action, IsRenamed}
use Rattle.law_shake.proofs.Lookups.{object_read, slot_ren, class_same, is_exception_ren, is_plain_ren, exception_text_ren}
use Rattle.law_shake.proofs.Rows.{first_ren, answers, slot_set_ren, slots_made, string_made, blank_made, if_by}
use Rattle.law_shake.proofs.Standing.{fits_ren}

module _ (x : Renaming) (q p : Program) (is : IsRenamed x q p) (s : Store) (room : taken x.objects ≤ length s.objects) where
  abbrev R : Action → Action
  R a = ren_action x a

  abbrev t : Store
  t = ren_store x s

  selectors_ren : (v : Value) → selectors_of t (ren x v) ≡ rens x (selectors_of s v)
  selectors_ren (Object n) = ap (λ (o : HeapObject). o.slots) (object_read x s n)
  selectors_ren v = refl

  join_ren : (r v : Value) → join_selectors p t (ren x r) (ren x v) ≡ R (join_selectors q s r v)
  join_ren r v =
      ap (λ b. if b && is_plain p t (ren x v) then makes_slots exception_set_class (selectors_of t (ren x r) ++ selectors_of t (ren x v)) t else Fails trouble.ExceptionSelectorExpected) (is_plain_ren x q p is s r)
      ∙ ap (λ b. if is_plain q s r && b then makes_slots exception_set_class (selectors_of t (ren x r) ++ selectors_of t (ren x v)) t else Fails trouble.ExceptionSelectorExpected) (is_plain_ren x q p is s v)
      ∙ if_by x q p is s room (is_plain q s r && is_plain q s v) _ _ _ _
      (ap (λ vs. makes_slots exception_set_class (vs ++ selectors_of t (ren x v)) t) (selectors_ren r)
      ∙ ap (λ vs. makes_slots exception_set_class (rens x (selectors_of s r) ++ vs) t) (selectors_ren v)
      ∙ ap (λ vs. makes_slots exception_set_class vs t) (sym (map-append (ren x) (selectors_of s r) (selectors_of s v)))
      ∙ slots_made x s room exception_set_class (selectors_of s r ++ selectors_of s v))
      refl

  handles_ren : (r v : Value) → handles p t (ren x r) (ren x v) ≡ R (handles q s r v)
  handles_ren r (Object n) =
      ap (λ b. if b then Gives (boolean (fits p t (ren x r) (object_at (object x n) t).class)) else Fails trouble.ExceptionExpected) (is_exception_ren x q p is s (Object n))
      ∙ if_by x q p is s room (is_exception q s (Object n)) _ _ _ _
      (answers x _ _ (ap (λ (o : HeapObject). fits p t (ren x r) o.class) (object_read x s n) ∙ fits_ren x q p is s r (object_at n s).class))
      refl
  handles_ren r v = refl

  new_ren : (r : Value) → new_exception p t (ren x r) ≡ R (new_exception q s r)
  new_ren (Class c) = ap (λ (k : ClassRow). makes_blank c k.slots 0 t) (class_same x q p is c) ∙ blank_made x s room c (class_at q c).slots 0
  new_ren r = refl

  signal_ren : (r : Value) (args : List Value) → signal_new (ren x r) (rens x args) ≡ R (signal_new r args)
  signal_ren (Class c) args = refl
  signal_ren r args = refl

  kept_ren : (n : ℕ) (v : Value) → kept_or_text p t (object x n) (ren x v) ≡ R (kept_or_text q s n v)
  kept_ren n Nil = ap (λ u. makes_string u t) (exception_text_ren x q p is s n) ∙ string_made x s room (exception_text q s n)
  kept_ren n v = refl

  at_ren : (m : ExceptionMessage) (n : ℕ) (args : List Value) → exception_at p t m (object x n) (rens x args) ≡ R (exception_at q s m n args)
  at_ren ExceptionMessage.Signal n args = refl
  at_ren ExceptionMessage.SignalText n args = ap (λ v. Raises (with_slot (object x n) 0 v t) (object x n)) (first_ren x args) ∙ ap (λ u. Raises u (object x n)) (slot_set_ren x s n 0 (first args))
  at_ren ExceptionMessage.MessageText n args = ap (kept_or_text p t (object x n)) (slot_ren x s (Object n) 0) ∙ kept_ren n (slot_of s (Object n) 0)
  at_ren ExceptionMessage.SetMessageText n args = ap (λ v. Changes (with_slot (object x n) 0 v t) (Object (object x n))) (first_ren x args) ∙ ap (λ u. Changes u (Object (object x n))) (slot_set_ren x s n 0 (first args))
  at_ren ExceptionMessage.Description n args =
      ap (λ (o : HeapObject). makes_string (class_at p o.class).name t) (object_read x s n)
      ∙ ap (λ (k : ClassRow). makes_string k.name t) (class_same x q p is (object_at n s).class)
      ∙ string_made x s room (class_at q (object_at n s).class).name
  at_ren (ExceptionMessage.Controls control) n args = ap (λ v. Controls control (object x n) v) (first_ren x args)
  at_ren (ExceptionMessage.IsResumable answer) n args = answers x answer answer refl
  at_ren ExceptionMessage.TerminatesProgram n args = refl
  at_ren ExceptionMessage.AnswersNil n args = refl
  at_ren ExceptionMessage.Warns n args = ap (λ u. Writes (codes "Warning: " ++ u ++ 10 ∷ []) Nil) (exception_text_ren x q p is s n)
  at_ren m n args = refl

  to_ren : (m : ExceptionMessage) (r : Value) (args : List Value) → to_exception p t m (ren x r) (rens x args) ≡ R (to_exception q s m r args)
  to_ren m (Object n) args = at_ren m n args
  to_ren m r args = refl

  pub exception_ren : (m : ExceptionMessage) (r : Value) (args : List Value) → exception_action p t m (ren x r) (rens x args) ≡ R (exception_action q s m r args)
  unfolding exception_action
  exception_ren ExceptionMessage.New r args = new_ren r
  exception_ren ExceptionMessage.SignalNew r args = signal_ren r args
  exception_ren ExceptionMessage.Join r args = ap (λ v. join_selectors p t (ren x r) v) (first_ren x args) ∙ join_ren r (first args)
  exception_ren ExceptionMessage.Handles r args = ap (λ v. handles p t (ren x r) v) (first_ren x args) ∙ handles_ren r (first args)
  exception_ren m r args = to_ren m r args
