-- Classes, Booleans, Characters, Strings, the Transcript, Blocks and the beginnings of loops, under a renaming.
use Rattle.std.proofs.Common.{◌≡◌, ℕ, ◌+◌, ◌≤◌, pos, negsuc, List, [], ◌∷◌, length, replicate, Option, Some, None, Bool, true, false, not, ◌&&◌, ◌||◌, nat_eq, nat_le, nat_lt, refl, ap, ◌∙◌, if◌then◌else◌}
use Rattle.std.specs.Option.{option_map}
use Rattle.std.proofs.lemmas.List.{length-map}
use Rattle.object_heap.specs.declared.value.Value.{Value}
use Rattle.object_heap.specs.declared.value.Value.TheVariants.{Nil, True, False, Integer, Character, Class}
use Rattle.object_heap.specs.declared.value.Closure.{Closure}
use Rattle.object_heap.specs.declared.trouble.Trouble.TheVariants as trouble
use Rattle.object_heap.specs.Store.{Store}
use Rattle.st_code.specs.Texts.{Text, to_lower, to_upper}
use Rattle.st_code.specs.Program.{Program, Body, ClassRow, NoIndexes, ByObject, ByByte, class_at}
use Rattle.st_code.specs.Messages.{ClassMessage, BooleanMessage, CharacterMessage, TranscriptMessage, StringMessage, BlockMessage}
use Rattle.st_code.specs.BuiltIns.{array_class, symbol_class}
use Rattle.st_collections.specs.Actions.{Action, Gives, Writes, Fails, Begins, Activates, Guards, Ensures, Curtails, boolean, first, second, makes_string, makes_blank}
use Rattle.st_collections.specs.Kinds.{is_true, is_a, bytes_of, slots_of}
use Rattle.st_collections.specs.ObjectRows.{sized, class_action, boolean_action}
use Rattle.st_collections.specs.TextRows.{with_character, from_code_point, byte_of, with_text, or_empty, equal_text, new_string, string_at, character_action, string_action, transcript_action}
use Rattle.st_rules.specs.ExceptionRows.{closure_of, parameters_of, value_with, block_at, block_action}
use Rattle.law_shake.specs.Renaming.{Renaming, taken, ren, rens, ren_closure, ren_store, ren_action, IsRenamed}
use Rattle.law_shake.proofs.Lookups.{is_a_ren, slots_ren, class_same, bytes_ren}
use Rattle.law_shake.proofs.Rows.{first_ren, second_ren, answers, string_made, blank_made, kind_by, if_by}
use Rattle.law_shake.proofs.Standing.{closure_of_ren}

module _ (x : Renaming) (q p : Program) (is : IsRenamed x q p) (s : Store) (room : taken x.objects ≤ length s.objects) where
  abbrev R : Action → Action
  R a = ren_action x a

  abbrev s' : Store
  s' = ren_store x s

  is_true_ren : (v : Value) → is_true (ren x v) ≡ is_true v
  is_true_ren True = refl
  is_true_ren v = refl

  -- ---- classes

  above_ren : (o : Option ℕ) → Gives (elim o [ None ↦ Nil | Some c ↦ Class c ]) ≡ R (Gives (elim o [ None ↦ Nil | Some c ↦ Class c ]))
  above_ren None = refl
  above_ren (Some c) = refl

  pub sized_by : (v : Value) (f g : ℕ → Action) → ((n : ℕ) → f n ≡ R (g n)) → sized (ren x v) f ≡ R (sized v g)
  sized_by (Integer (pos n)) f g h = h n
  sized_by (Integer (negsuc n)) f g h = refl
  sized_by v f g h = refl

  abbrev new_by : Store → ℕ → Value → ClassRow → Action
  new_by t class v c = if c.in_file then elim c.indexed [
    | NoIndexes ↦ Fails trouble.NotIndexed
    | ByObject ↦ sized v (λ n. makes_blank class (c.slots + n) 0 t)
    | ByByte ↦ sized v (λ n. makes_blank class c.slots n t)
  ] else Fails trouble.CannotBeInstantiated

  pub class_ren : (m : ClassMessage) (r : Value) (args : List Value) → class_action p s' m (ren x r) (rens x args) ≡ R (class_action q s m r args)
  unfolding class_action
  class_ren ClassMessage.Name (Class c) args = ap (λ (k : ClassRow). makes_string k.name s') (class_same x q p is c) ∙ string_made x s room (class_at q c).name
  class_ren ClassMessage.Superclass (Class c) args = ap (λ (k : ClassRow). Gives (elim k.superclass [ None ↦ Nil | Some c ↦ Class c ])) (class_same x q p is c) ∙ above_ren (class_at q c).superclass
  class_ren ClassMessage.New (Class c) args =
      ap (λ (k : ClassRow). if k.in_file then makes_blank c k.slots 0 s' else Fails trouble.CannotBeInstantiated) (class_same x q p is c)
      ∙ if_by x q p is s room (class_at q c).in_file _ _ _ _ (blank_made x s room c (class_at q c).slots 0) refl
  class_ren ClassMessage.NewSize (Class c) args =
      ap (λ k. new_by s' c (first (rens x args)) k) (class_same x q p is c)
      ∙ ap (λ v. new_by s' c v (class_at q c)) (first_ren x args)
      ∙ if_by x q p is s room (class_at q c).in_file _ _ _ _
      (kind_by x q p is s room (class_at q c).indexed _ _ _ _ _ _ refl
      (sized_by (first args) _ _ (λ n. blank_made x s room c ((class_at q c).slots + n) 0))
      (sized_by (first args) _ _ (λ n. blank_made x s room c (class_at q c).slots n)))
      refl
  class_ren m r args = refl

  -- ---- Booleans

  abbrev with_boolean : Value → (Bool → Action) → Action
  with_boolean True act = act true
  with_boolean False act = act false
  with_boolean v act = Fails trouble.BooleanExpected

  boolean_by : (v : Value) (f g : Bool → Action) → ((b : Bool) → f b ≡ R (g b)) → with_boolean (ren x v) f ≡ R (with_boolean v g)
  boolean_by True f g h = h true
  boolean_by False f g h = h false
  boolean_by v f g h = refl

  begins_ren : (b : Bool) (v w : Value) → Begins (if b then ren x v else ren x w) [] ≡ R (Begins (if b then v else w) [])
  begins_ren true v w = refl
  begins_ren false v w = refl

  either : (r : Value) (a b a' b' : Action) → a ≡ R a' → b ≡ R b' → (if is_true (ren x r) then a else b) ≡ R (if is_true r then a' else b')
  either r a b a' b' e f = ap (λ t. if t then a else b) (is_true_ren r) ∙ if_by x q p is s room (is_true r) a b a' b' e f

  abbrev differ : Bool → Bool → Bool
  differ true b = not b
  differ false b = b

  boolean_same : (r : Value) (f : Bool → Bool) → Gives (boolean (f (is_true (ren x r)))) ≡ R (Gives (boolean (f (is_true r))))
  boolean_same r f = answers x _ _ (ap f (is_true_ren r))

  pub boolean_ren : (m : BooleanMessage) (r : Value) (args : List Value) → boolean_action m (ren x r) (rens x args) ≡ R (boolean_action m r args)
  unfolding boolean_action
  boolean_ren BooleanMessage.And r args = ap (λ v. with_boolean v (λ b. Gives (boolean (is_true (ren x r) && b)))) (first_ren x args) ∙ boolean_by (first args) _ _ (λ b. boolean_same r (λ a. a && b))
  boolean_ren BooleanMessage.Or r args = ap (λ v. with_boolean v (λ b. Gives (boolean (is_true (ren x r) || b)))) (first_ren x args) ∙ boolean_by (first args) _ _ (λ b. boolean_same r (λ a. a || b))
  boolean_ren BooleanMessage.Xor r args = ap (λ v. with_boolean v (λ b. Gives (boolean (differ (is_true (ren x r)) b)))) (first_ren x args) ∙ boolean_by (first args) _ _ (λ b. boolean_same r (λ a. differ a b))
  boolean_ren BooleanMessage.Not r args = boolean_same r not
  boolean_ren BooleanMessage.AndThen r args = either r _ _ _ _ (ap (λ v. Begins v []) (first_ren x args)) refl
  boolean_ren BooleanMessage.OrElse r args = either r _ _ _ _ refl (ap (λ v. Begins v []) (first_ren x args))
  boolean_ren BooleanMessage.IfTrue r args = either r _ _ _ _ (ap (λ v. Begins v []) (first_ren x args)) refl
  boolean_ren BooleanMessage.IfFalse r args = either r _ _ _ _ refl (ap (λ v. Begins v []) (first_ren x args))
  boolean_ren BooleanMessage.IfTrueIfFalse r args =
      ap (λ b. Begins (if b then first (rens x args) else second (rens x args)) []) (is_true_ren r)
      ∙ ap (λ v. Begins (if is_true r then v else second (rens x args)) []) (first_ren x args)
      ∙ ap (λ v. Begins (if is_true r then ren x (first args) else v) []) (second_ren x args)
      ∙ begins_ren (is_true r) (first args) (second args)
  boolean_ren BooleanMessage.IfFalseIfTrue r args =
      ap (λ b. Begins (if b then second (rens x args) else first (rens x args)) []) (is_true_ren r)
      ∙ ap (λ v. Begins (if is_true r then second (rens x args) else v) []) (first_ren x args)
      ∙ ap (λ v. Begins (if is_true r then v else ren x (first args)) []) (second_ren x args)
      ∙ begins_ren (is_true r) (second args) (first args)

  -- ---- Characters and Strings

  pub character_by : (v : Value) (f g : ℕ → Action) → ((b : ℕ) → f b ≡ R (g b)) → with_character (ren x v) f ≡ R (with_character v g)
  character_by (Character b) f g h = h b
  character_by v f g h = refl

  byte_of_ren : (v : Value) → byte_of (ren x v) ≡ byte_of v
  byte_of_ren (Character b) = refl
  byte_of_ren v = refl

  code_point_if : (b : Bool) (n : ℕ) → (if b then Gives (Character n) else Fails trouble.IndexOutOfRange) ≡ R (if b then Gives (Character n) else Fails trouble.IndexOutOfRange)
  code_point_if true n = refl
  code_point_if false n = refl

  code_point_ren : (v : Value) → from_code_point (ren x v) ≡ R (from_code_point v)
  code_point_ren (Integer (pos n)) = code_point_if (nat_le n 255) n
  code_point_ren (Integer (negsuc n)) = refl
  code_point_ren v = refl

  character_first : (args : List Value) (f : ℕ → Action) → ((b : ℕ) → f b ≡ R (f b)) → with_character (first (rens x args)) f ≡ R (with_character (first args) f)
  character_first args f h = ap (λ v. with_character v f) (first_ren x args) ∙ character_by (first args) f f h

  tells : (b : Bool) → Gives (boolean b) ≡ R (Gives (boolean b))
  tells b = answers x b b refl

  pub character_ren : (m : CharacterMessage) (r : Value) (args : List Value) → character_action s' m (ren x r) (rens x args) ≡ R (character_action s m r args)
  unfolding character_action
  character_ren CharacterMessage.FromCodePoint r args = ap from_code_point (first_ren x args) ∙ code_point_ren (first args)
  character_ren (CharacterMessage.Fixed byte) r args = refl
  character_ren CharacterMessage.CodePoint r args = ap (λ n. Gives (Integer (pos n))) (byte_of_ren r)
  character_ren CharacterMessage.AsLowercase r args = ap (λ n. Gives (Character (to_lower n))) (byte_of_ren r)
  character_ren CharacterMessage.AsUppercase r args = ap (λ n. Gives (Character (to_upper n))) (byte_of_ren r)
  character_ren CharacterMessage.AsString r args = ap (λ n. makes_string (n ∷ []) s') (byte_of_ren r) ∙ string_made x s room (byte_of r ∷ [])
  character_ren CharacterMessage.IsLetter r args = answers x _ _ (rw (byte_of_ren r) refl)
  character_ren CharacterMessage.IsDigit r args = answers x _ _ (rw (byte_of_ren r) refl)
  character_ren CharacterMessage.IsAlphaNumeric r args = answers x _ _ (rw (byte_of_ren r) refl)
  character_ren CharacterMessage.IsLowercase r args = answers x _ _ (rw (byte_of_ren r) refl)
  character_ren CharacterMessage.IsUppercase r args = answers x _ _ (rw (byte_of_ren r) refl)
  character_ren CharacterMessage.Less r args = ap (λ n. with_character (first (rens x args)) (λ b. Gives (boolean (nat_lt n b)))) (byte_of_ren r) ∙ character_first args _ (λ b. tells _)
  character_ren CharacterMessage.Greater r args = ap (λ n. with_character (first (rens x args)) (λ b. Gives (boolean (nat_lt b n)))) (byte_of_ren r) ∙ character_first args _ (λ b. tells _)
  character_ren CharacterMessage.LessOrEqual r args = ap (λ n. with_character (first (rens x args)) (λ b. Gives (boolean (nat_le n b)))) (byte_of_ren r) ∙ character_first args _ (λ b. tells _)
  character_ren CharacterMessage.GreaterOrEqual r args = ap (λ n. with_character (first (rens x args)) (λ b. Gives (boolean (nat_le b n)))) (byte_of_ren r) ∙ character_first args _ (λ b. tells _)

  text_by : (o : Option Text) (f g : Text → Action) → ((t : Text) → f t ≡ R (g t)) → elim o [ Some t ↦ f t | None ↦ Fails trouble.StringExpected ] ≡ R (elim o [ Some t ↦ g t | None ↦ Fails trouble.StringExpected ])
  text_by None f g h = refl
  text_by (Some t) f g h = h t

  text_first : (args : List Value) (f g : Text → Action) → ((t : Text) → f t ≡ R (g t)) → with_text p s' (first (rens x args)) f ≡ R (with_text q s (first args) g)
  text_first args f g h =
      ap (λ v. with_text p s' v f) (first_ren x args)
      ∙ ap (λ o. elim o [ Some t ↦ f t | None ↦ Fails trouble.StringExpected ]) (bytes_ren x q p is s (first args))
      ∙ text_by (bytes_of q s (first args)) f g h

  new_string_ren : (r v : Value) → new_string s' (ren x r) (ren x v) ≡ R (new_string s r v)
  new_string_ren (Class c) (Integer (pos n)) = if_by x q p is s room (nat_eq c symbol_class) _ _ _ _ refl (string_made x s room (replicate n 32))
  new_string_ren (Class c) (Integer (negsuc n)) = if_by x q p is s room (nat_eq c symbol_class) _ _ _ _ refl refl
  new_string_ren (Class c) v = if_by x q p is s room (nat_eq c symbol_class) _ _ _ _ refl refl
  new_string_ren r v = refl

  string_at_ren : (m : StringMessage) (r : Value) (t : Text) (args : List Value) → string_at p s' m (ren x r) t (rens x args) ≡ R (string_at q s m r t args)
  string_at_ren StringMessage.Equal r t args = answers x _ _ (ap (λ v. equal_text t (bytes_of p s' v)) (first_ren x args) ∙ ap (equal_text t) (bytes_ren x q p is s (first args)))
  string_at_ren StringMessage.Less r t args = text_first args _ _ (λ u. tells _)
  string_at_ren StringMessage.Greater r t args = text_first args _ _ (λ u. tells _)
  string_at_ren StringMessage.LessOrEqual r t args = text_first args _ _ (λ u. tells _)
  string_at_ren StringMessage.GreaterOrEqual r t args = text_first args _ _ (λ u. tells _)
  string_at_ren StringMessage.AsUppercase r t args = string_made x s room _
  string_at_ren StringMessage.AsLowercase r t args = string_made x s room _
  string_at_ren StringMessage.AsString r t args = string_made x s room t
  string_at_ren StringMessage.SameAs r t args = text_first args _ _ (λ u. tells _)
  string_at_ren StringMessage.NewSize r t args = ap (λ v. new_string s' (ren x r) v) (first_ren x args) ∙ new_string_ren r (first args)

  pub string_ren : (m : StringMessage) (r : Value) (args : List Value) → string_action p s' m (ren x r) (rens x args) ≡ R (string_action q s m r args)
  unfolding string_action
  string_ren m r args = ap (λ o. string_at p s' m (ren x r) (or_empty o) (rens x args)) (bytes_ren x q p is s r) ∙ string_at_ren m r (or_empty (bytes_of q s r)) args

  pub transcript_ren : (m : TranscriptMessage) (r : Value) (args : List Value) → transcript_action p s' m (ren x r) (rens x args) ≡ R (transcript_action q s m r args)
  unfolding transcript_action
  transcript_ren TranscriptMessage.Show r args = text_first args _ _ (λ t. refl)
  transcript_ren TranscriptMessage.NextPut r args = ap (λ v. with_character v (λ b. Writes (b ∷ []) (ren x r))) (first_ren x args) ∙ character_by (first args) _ _ (λ b. refl)
  transcript_ren TranscriptMessage.Flush r args = refl
  transcript_ren (TranscriptMessage.WriteByte byte) r args = refl

  -- ---- Blocks

  value_ren : (c : Closure) (args : List Value) → value_with p (ren_closure x c) (rens x args) ≡ R (value_with q c args)
  value_ren c args =
      ap (λ (b : Body). if nat_eq b.parameters (length (rens x args)) then Activates (ren_closure x c) (rens x args) else Fails trouble.WrongNumberOfArguments) (is.bodies c.code)
      ∙ ap (λ n. if nat_eq (parameters_of q c) n then Activates (ren_closure x c) (rens x args) else Fails trouble.WrongNumberOfArguments) (length-map args (ren x))
      ∙ if_by x q p is s room (nat_eq (parameters_of q c) (length args)) _ _ _ _ refl refl

  block_at_ren : (m : BlockMessage) (r : Value) (c : Closure) (args : List Value) → block_at p s' m (ren x r) (ren_closure x c) (rens x args) ≡ R (block_at q s m r c args)
  block_at_ren BlockMessage.Value r c args = value_ren c args
  block_at_ren BlockMessage.ValueWithArguments r c args =
      ap (λ v. if is_a s' array_class v then value_with p (ren_closure x c) (slots_of s' v) else Fails trouble.CollectionExpected) (first_ren x args)
      ∙ ap (λ b. if b then value_with p (ren_closure x c) (slots_of s' (ren x (first args))) else Fails trouble.CollectionExpected) (is_a_ren x s array_class (first args))
      ∙ ap (λ vs. if is_a s array_class (first args) then value_with p (ren_closure x c) vs else Fails trouble.CollectionExpected) (slots_ren x s (first args))
      ∙ if_by x q p is s room (is_a s array_class (first args)) _ _ _ _ (value_ren c (slots_of s (first args))) refl
  block_at_ren BlockMessage.NumArgs r c args = ap (λ (b : Body). Gives (Integer (pos b.parameters))) (is.bodies c.code)
  block_at_ren BlockMessage.OnDo r c args = ap (λ v. Guards (ren x r) v (second (rens x args))) (first_ren x args) ∙ ap (λ v. Guards (ren x r) (ren x (first args)) v) (second_ren x args)
  block_at_ren BlockMessage.Ensure r c args = ap (λ v. Ensures (ren x r) v) (first_ren x args)
  block_at_ren BlockMessage.IfCurtailed r c args = ap (λ v. Curtails (ren x r) v) (first_ren x args)

  block_by : (m : BlockMessage) (r : Value) (args : List Value) (o : Option Closure) → elim (option_map (ren_closure x) o) [ Some c ↦ block_at p s' m (ren x r) c (rens x args) | None ↦ Gives Nil ] ≡ R (elim o [ Some c ↦ block_at q s m r c args | None ↦ Gives Nil ])
  block_by m r args None = refl
  block_by m r args (Some c) = block_at_ren m r c args

  pub block_ren : (m : BlockMessage) (r : Value) (args : List Value) → block_action p s' m (ren x r) (rens x args) ≡ R (block_action q s m r args)
  unfolding block_action
  block_ren m r args = ap (λ o. elim o [ Some c ↦ block_at p s' m (ren x r) c (rens x args) | None ↦ Gives Nil ]) (closure_of_ren x s r) ∙ block_by m r args (closure_of s r)
