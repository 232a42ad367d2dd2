-- Of a program, what a message does at once asks for its names alone.
use Rattle.std.proofs.Common.{◌≡◌, ℕ, zero, suc, ◌+◌, List, [], ◌++◌, Option, Some, None, if◌then◌else◌, refl, ap, ◌∙◌}
use Rattle.object_heap.specs.declared.value.Value.{Value}
use Rattle.object_heap.specs.declared.value.Value.TheVariants.{Nil, True, False, Integer, Character, Symbol, Class, Meta, Transcript, Object}
use Rattle.object_heap.specs.declared.trouble.Trouble.TheVariants.{CollectionExpected, StringExpected}
use Rattle.object_heap.specs.Store.{Store}
use Rattle.st_code.specs.Texts.{Text}
use Rattle.st_code.specs.Program.{Program, name_at}
use Rattle.st_code.specs.Messages.{CollectionMessage as CollectionRow, SequenceMessage, StringMessage}
use Rattle.st_collections.specs.declared.message.CollectionMessage.{CollectionMessage}
use Rattle.st_collections.specs.declared.message.OfMaking.{OfMaking}
use Rattle.st_collections.specs.declared.message.OfOrdered.{OfOrdered}
use Rattle.st_collections.specs.declared.message.OfPair.{OfPair}
use Rattle.st_collections.specs.Actions.{Action, Fails, first, second}
use Rattle.st_collections.specs.Answers.{program_of}
use Rattle.st_collections.specs.AtOnce.{action_of, making_action, ordered_action, pair_action, sequence_row, string_row}
use Rattle.st_collections.specs.Kinds.{bytes_of, element, elements, elements_from, is_sequence, size_of, some_elements, species}
use Rattle.st_collections.specs.SequenceRows.{at_put, changed, collection_action, copy_from_to, element_trouble, join, makes_sequence, ordered_at, sequence_action}
use Rattle.st_collections.specs.ObjectRows.{object_action}
use Rattle.st_collections.specs.TextRows.{string_action, with_text}

pub same_bytes : (p : Program) (s : Store) (v : Value) → bytes_of p s v ≡ bytes_of (program_of p.names) s v
unfolding bytes_of name_at
same_bytes p s (Symbol n) = refl
same_bytes p s (Object n) = refl
same_bytes p s Nil = refl
same_bytes p s True = refl
same_bytes p s False = refl
same_bytes p s (Integer n) = refl
same_bytes p s (Character n) = refl
same_bytes p s (Class n) = refl
same_bytes p s (Meta n) = refl
same_bytes p s Transcript = refl

pub same_size : (p : Program) (s : Store) (v : Value) → size_of p s v ≡ size_of (program_of p.names) s v
unfolding size_of name_at
same_size p s (Symbol n) = refl
same_size p s (Object n) = refl
same_size p s Nil = refl
same_size p s True = refl
same_size p s False = refl
same_size p s (Integer n) = refl
same_size p s (Character n) = refl
same_size p s (Class n) = refl
same_size p s (Meta n) = refl
same_size p s Transcript = refl

pub same_element : (p : Program) (s : Store) (v : Value) (i : ℕ) → element p s v i ≡ element (program_of p.names) s v i
unfolding element name_at
same_element p s (Symbol n) i = refl
same_element p s (Object n) i = refl
same_element p s Nil i = refl
same_element p s True i = refl
same_element p s False i = refl
same_element p s (Integer n) i = refl
same_element p s (Character n) i = refl
same_element p s (Class n) i = refl
same_element p s (Meta n) i = refl
same_element p s Transcript i = refl

same_from : (p : Program) (s : Store) (v : Value) (i n : ℕ) → elements_from p s v i n ≡ elements_from (program_of p.names) s v i n
same_from p s v i zero = refl
same_from p s v i (suc n) = rw (same_element p s v i, same_from p s v (i + 1) n) refl

pub same_some : (p : Program) (s : Store) (v : Value) (i n : ℕ) → some_elements p s v i n ≡ some_elements (program_of p.names) s v i n
unfolding some_elements
same_some p s v i n = same_from p s v i n

pub same_elements : (p : Program) (s : Store) (v : Value) → elements p s v ≡ elements (program_of p.names) s v
unfolding elements
same_elements p s v = rw (same_size p s v) (same_some p s v 1 (size_of (program_of p.names) s v))

same_with : (p : Program) (s : Store) (v : Value) (act : Text → Action) → with_text p s v act ≡ with_text (program_of p.names) s v act
same_with p s v act = ap (λ (o : Option Text). elim o [ Some t ↦ act t | None ↦ Fails StringExpected ]) (same_bytes p s v)

pub same_string : (p : Program) (s : Store) (m : StringMessage) (r : Value) (args : List Value) → string_action p s m r args ≡ string_action (program_of p.names) s m r args
unfolding string_action
same_string p s StringMessage.Equal r args = simp (same_bytes p)
same_string p s StringMessage.Less r args = simp (same_bytes p, same_with p)
same_string p s StringMessage.Greater r args = simp (same_bytes p, same_with p)
same_string p s StringMessage.LessOrEqual r args = simp (same_bytes p, same_with p)
same_string p s StringMessage.GreaterOrEqual r args = simp (same_bytes p, same_with p)
same_string p s StringMessage.AsUppercase r args = simp (same_bytes p)
same_string p s StringMessage.AsLowercase r args = simp (same_bytes p)
same_string p s StringMessage.AsString r args = simp (same_bytes p)
same_string p s StringMessage.SameAs r args = simp (same_bytes p, same_with p)
same_string p s StringMessage.NewSize r args = refl

joined_of : Store → Value → Value → List Value → List Value → Action
joined_of s r v xs ys = if is_sequence s v then elim (element_trouble (species s r) ys) [
  | Some trouble ↦ Fails trouble
  | None ↦ makes_sequence (species s r) (xs ++ ys) s
] else Fails CollectionExpected

same_join : (p : Program) (s : Store) (r v : Value) → join p s r v ≡ join (program_of p.names) s r v
unfolding joined_of
same_join p s r v =
    ap (λ (xs : List Value). joined_of s r v xs (elements p s v)) (same_elements p s r)
    ∙ ap (λ (ys : List Value). joined_of s r v (elements (program_of p.names) s r) ys) (same_elements p s v)

same_part : (p : Program) (s : Store) (r v w : Value) → copy_from_to p s r v w ≡ copy_from_to (program_of p.names) s r v w
same_part p s r (Integer i) (Integer j) = simp (same_size p, same_some p)
same_part p s r (Symbol n) w = refl
same_part p s r (Object n) w = refl
same_part p s r Nil w = refl
same_part p s r True w = refl
same_part p s r False w = refl
same_part p s r (Integer i) (Symbol n) = refl
same_part p s r (Integer i) (Object n) = refl
same_part p s r (Integer i) Nil = refl
same_part p s r (Integer i) True = refl
same_part p s r (Integer i) False = refl
same_part p s r (Integer i) (Character n) = refl
same_part p s r (Integer i) (Class n) = refl
same_part p s r (Integer i) (Meta n) = refl
same_part p s r (Integer i) Transcript = refl
same_part p s r (Character n) w = refl
same_part p s r (Class n) w = refl
same_part p s r (Meta n) w = refl
same_part p s r Transcript w = refl

same_put : (p : Program) (s : Store) (r v w : Value) → at_put p s r v w ≡ at_put (program_of p.names) s r v w
same_put p s (Object n) v w = simp (same_size p)
same_put p s (Symbol n) v w = refl
same_put p s Nil v w = refl
same_put p s True v w = refl
same_put p s False v w = refl
same_put p s (Integer n) v w = refl
same_put p s (Character n) v w = refl
same_put p s (Class n) v w = refl
same_put p s (Meta n) v w = refl
same_put p s Transcript v w = refl

pub same_sequence : (p : Program) (s : Store) (m : SequenceMessage) (r : Value) (args : List Value) → sequence_action p s m r args ≡ sequence_action (program_of p.names) s m r args
unfolding sequence_action
same_sequence p s SequenceMessage.At r args = simp (same_size p, same_element p)
same_sequence p s SequenceMessage.Size r args = simp (same_size p)
same_sequence p s SequenceMessage.IsEmpty r args = simp (same_size p)
same_sequence p s SequenceMessage.NotEmpty r args = simp (same_size p)
same_sequence p s SequenceMessage.First r args = simp (same_size p, same_element p)
same_sequence p s SequenceMessage.Last r args = simp (same_size p, same_element p)
same_sequence p s SequenceMessage.Join r args = same_join p s r (first args)
same_sequence p s SequenceMessage.CopyFromTo r args = same_part p s r (first args) (second args)
same_sequence p s SequenceMessage.Reverse r args = simp (same_elements p)
same_sequence p s SequenceMessage.AsArray r args = simp (same_elements p)
same_sequence p s SequenceMessage.AsOrderedCollection r args = simp (same_elements p)
same_sequence p s SequenceMessage.AtPut r args = same_put p s r (first args) (second args)

pub same_making : (p : Program) (s : Store) (m : OfMaking) (r : Value) (args : List Value) → making_action p s m r args ≡ making_action (program_of p.names) s m r args
unfolding collection_action object_action
same_making p s OfMaking.Array r args = refl
same_making p s OfMaking.ByteArray r args = refl
same_making p s OfMaking.With r args = refl
same_making p s OfMaking.WithAll r args = simp (same_elements p)
same_making p s OfMaking.Empty r args = refl
same_making p s OfMaking.KeyValue r args = refl
same_making p s OfMaking.Arrow r args = refl
same_making p s OfMaking.To r args = refl
same_making p s OfMaking.ToBy r args = refl

same_at : (p : Program) (s : Store) (m : CollectionRow) (n : ℕ) (args : List Value) → ordered_at p s m n args ≡ ordered_at (program_of p.names) s m n args
same_at p s CollectionRow.NewArray n args = refl
same_at p s CollectionRow.NewByteArray n args = refl
same_at p s CollectionRow.With n args = refl
same_at p s CollectionRow.WithAll n args = refl
same_at p s CollectionRow.NewEmpty n args = refl
same_at p s CollectionRow.Add n args = refl
same_at p s CollectionRow.AddFirst n args = refl
same_at p s CollectionRow.AddAll n args = simp (same_elements p)
same_at p s CollectionRow.RemoveFirst n args = simp (same_size p)
same_at p s CollectionRow.RemoveLast n args = simp (same_size p)
same_at p s CollectionRow.AddBeforeIndex n args = refl
same_at p s CollectionRow.RemoveAtIndex n args = refl
same_at p s CollectionRow.Keys n args = refl
same_at p s CollectionRow.Values n args = refl
same_at p s CollectionRow.KeyValue n args = refl

same_changed : (p : Program) (s : Store) (m : CollectionRow) (r : Value) (args : List Value) → changed p s m r args ≡ changed (program_of p.names) s m r args
same_changed p s m (Object n) args = same_at p s m n args
same_changed p s m (Symbol n) args = refl
same_changed p s m Nil args = refl
same_changed p s m True args = refl
same_changed p s m False args = refl
same_changed p s m (Integer n) args = refl
same_changed p s m (Character n) args = refl
same_changed p s m (Class n) args = refl
same_changed p s m (Meta n) args = refl
same_changed p s m Transcript args = refl

pub same_ordered : (p : Program) (s : Store) (m : OfOrdered) (r : Value) (args : List Value) → ordered_action p s m r args ≡ ordered_action (program_of p.names) s m r args
unfolding collection_action
same_ordered p s OfOrdered.Add r args = same_changed p s CollectionRow.Add r args
same_ordered p s OfOrdered.AddFirst r args = same_changed p s CollectionRow.AddFirst r args
same_ordered p s OfOrdered.AddAll r args = same_changed p s CollectionRow.AddAll r args
same_ordered p s OfOrdered.RemoveFirst r args = same_changed p s CollectionRow.RemoveFirst r args
same_ordered p s OfOrdered.RemoveLast r args = same_changed p s CollectionRow.RemoveLast r args
same_ordered p s OfOrdered.AddBeforeIndex r args = same_changed p s CollectionRow.AddBeforeIndex r args
same_ordered p s OfOrdered.RemoveAtIndex r args = same_changed p s CollectionRow.RemoveAtIndex r args

pub same_pair : (p : Program) (s : Store) (m : OfPair) (r : Value) → pair_action p s m r ≡ pair_action (program_of p.names) s m r
unfolding collection_action
same_pair p s OfPair.Keys r = same_changed p s CollectionRow.Keys r []
same_pair p s OfPair.Values r = same_changed p s CollectionRow.Values r []
same_pair p s OfPair.Key r = refl
same_pair p s OfPair.Value r = refl

names_decide : (p : Program) (s : Store) (m : CollectionMessage) (r : Value) (args : List Value) → action_of p s m r args ≡ action_of (program_of p.names) s m r args
names_decide p s (CollectionMessage.Character m) r args = refl
names_decide p s (CollectionMessage.String m) r args = same_string p s (string_row m) r args
names_decide p s (CollectionMessage.Sequence m) r args = same_sequence p s (sequence_row m) r args
names_decide p s (CollectionMessage.Making m) r args = same_making p s m r args
names_decide p s (CollectionMessage.Ordered m) r args = same_ordered p s m r args
names_decide p s (CollectionMessage.Pair m) r args = same_pair p s m r

-- a program of these names does the same
pub action_by_names : (p : Program) (names : List Text) (s : Store) (m : CollectionMessage) (r : Value) (args : List Value) → p.names ≡ names → action_of p s m r args ≡ action_of (program_of names) s m r args
action_by_names p names s m r args e = names_decide p s m r args ∙ ap (λ (ns : List Text). action_of (program_of ns) s m r args) e
