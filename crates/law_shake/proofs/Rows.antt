-- What messages to every object do at once, under a renaming.
use Rattle.std.proofs.Common.{◌≡◌, ℕ, zero, suc, ◌+◌, ◌-◌, ◌≤◌, pos, List, [], ◌∷◌, ◌++◌, map, length, get_or, slice_set, replicate, Option, Some, None, Bool, true, false, not, nat_eq, is_some, refl, sym, ap, ◌∙◌, codes, if◌then◌else◌}
use Rattle.std.specs.Option.{option_map}
use Rattle.std.proofs.lemmas.List.{length-map, map-append}
use Rattle.object_heap.specs.declared.value.Value.{Value}
use Rattle.object_heap.specs.declared.value.Value.TheVariants.{Nil, Integer, Character, Symbol, Class, Meta, Object}
use Rattle.object_heap.specs.declared.value.Closure.{Closure}
use Rattle.object_heap.specs.declared.trouble.Trouble.TheVariants as trouble
use Rattle.object_heap.specs.Store.{Store, Object as HeapObject, object_at, closure_at, with_slot, with_byte, object_set, object_added, block_added, block_object}
use Rattle.object_heap.specs.Charges.{object_charge}
use Rattle.st_code.specs.Texts.{Text, arity}
use Rattle.st_code.specs.Program.{Program, Side, Indexed, NoIndexes, ByObject, ByByte, ClassRow, OfInstance, OfClass, OfMeta, class_at, name_at, number_of}
use Rattle.st_code.specs.Messages.{ObjectMessage}
use Rattle.st_code.specs.BuiltIns.{string_class, array_class, association_class, error_class, message_not_understood_class, metaclass_class}
use Rattle.st_code.specs.Lookup.{Level, level_of, lookup, Found, class_of, class_value}
use Rattle.st_collections.specs.Actions.{Action, Gives, Changes, Makes, Fails, Sends, RaisesNew, boolean, first, second, new_object, next_object, with_new, makes_slots, makes_bytes, makes_string, makes_blank}
use Rattle.st_collections.specs.Kinds.{same_value, is_a, bytes_of, slots_of, print_text}
use Rattle.st_collections.specs.ObjectRows.{copied, indexed, index_in, byte_put, byte_value, object_action}
use Rattle.law_shake.specs.Renaming.{Renaming, spread, taken, object, ren, rens, ren_object, ren_closure, ren_store, ren_action, IsRenamed, sends_print}
use Rattle.law_shake.proofs.Spreading.{map_read, map_set, put, added, spread_length}
use Rattle.law_shake.proofs.Lookups.{object_read, closure_read, level_ren, is_a_ren, slots_ren, ren_found, class_same, walk_same, lookup_ren, bytes_ren, print_ren, same_ren}

-- ---- lists

module _ (x : Renaming) where
  pub first_ren : (vs : List Value) → first (rens x vs) ≡ ren x (first vs)
  first_ren [] = refl
  first_ren (v ∷ vs) = refl

  pub second_ren : (vs : List Value) → second (rens x vs) ≡ ren x (second vs)
  second_ren [] = refl
  second_ren (v ∷ vs) = first_ren vs

  pub boolean_ren : (b : Bool) → ren x (boolean b) ≡ boolean b
  boolean_ren true = refl
  boolean_ren false = refl

  pub answers : (a b : Bool) → a ≡ b → Gives (boolean a) ≡ ren_action x (Gives (boolean b))
  answers a true e = ap (λ c. Gives (boolean c)) e
  answers a false e = ap (λ c. Gives (boolean c)) e

  pub nils_ren : (n : ℕ) → rens x (replicate n Nil) ≡ replicate n Nil
  nils_ren zero = refl
  nils_ren (suc n) = ap (λ vs. Nil ∷ vs) (nils_ren n)

  -- ---- stores that change

  pub set_ren : (s : Store) (n : ℕ) (o : HeapObject) → object_set (object x n) (ren_object x o) (ren_store x s) ≡ ren_store x (object_set n o s)
  set_ren s n o = ap (λ os. record (ren_store x s) { objects = os }) (put (ren_object x) x.objects s.objects n o)

  pub slot_put_ren : (s : Store) (n i : ℕ) (v : Value) → object_set (object x n) (record (ren_object x (object_at n s)) { slots = slice_set (rens x (object_at n s).slots) i (ren x v) }) (ren_store x s) ≡ ren_store x (with_slot n i v s)
  slot_put_ren s n i v =
      ap (λ vs. object_set (object x n) (record (ren_object x (object_at n s)) { slots = vs }) (ren_store x s)) (map_set (ren x) (object_at n s).slots i v)
      ∙ set_ren s n (record (object_at n s) { slots = slice_set (object_at n s).slots i v })

  pub slot_set_ren : (s : Store) (n i : ℕ) (v : Value) → with_slot (object x n) i (ren x v) (ren_store x s) ≡ ren_store x (with_slot n i v s)
  slot_set_ren s n i v =
      ap (λ (o : HeapObject). object_set (object x n) (record { class = o.class; slots = slice_set o.slots i (ren x v); bytes = o.bytes; capacity = o.capacity; read_only = o.read_only; closure = o.closure }) (ren_store x s)) (object_read x s n) ∙ slot_put_ren s n i v

  pub byte_set_ren : (s : Store) (n i b : ℕ) → with_byte (object x n) i b (ren_store x s) ≡ ren_store x (with_byte n i b s)
  byte_set_ren s n i b =
      ap (λ (o : HeapObject). object_set (object x n) (record { class = o.class; slots = o.slots; bytes = slice_set o.bytes i b; capacity = o.capacity; read_only = o.read_only; closure = o.closure }) (ren_store x s)) (object_read x s n)
      ∙ set_ren s n (record (object_at n s) { bytes = slice_set (object_at n s).bytes i b })

  module _ (s : Store) (room : taken x.objects ≤ length s.objects) where
    pub next_ren : next_object (ren_store x s) ≡ ren x (next_object s)
    next_ren = ap Object (spread_length (ren_object x) x.objects s.objects room)

    pub object_added_ren : (o : HeapObject) → object_added (ren_object x o) (ren_store x s) ≡ ren_store x (object_added o s)
    object_added_ren o = ap (λ os. record (ren_store x s) { objects = os }) (sym (added (ren_object x) x.objects s.objects (o ∷ []) room))

    pub block_added_ren : (class : ℕ) (c : Closure) → block_added class (ren_closure x c) (ren_store x s) ≡ ren_store x (block_added class c s)
    block_added_ren class c =
        ap (λ k. record (ren_store x s) { objects = spread (ren_object x) x.objects s.objects ++ block_object class k ∷ []; closures = map (ren_closure x) s.closures ++ ren_closure x c ∷ [] }) (length-map s.closures (ren_closure x))
        ∙ ap (λ os. record (ren_store x s) { objects = os; closures = map (ren_closure x) s.closures ++ ren_closure x c ∷ [] }) (sym (added (ren_object x) x.objects s.objects (block_object class (length s.closures) ∷ []) room))
        ∙ ap (λ cs. record (ren_store x s) { objects = spread (ren_object x) x.objects (s.objects ++ block_object class (length s.closures) ∷ []); closures = cs }) (sym (map-append (ren_closure x) s.closures (c ∷ [])))

    pub with_new_ren : (class : ℕ) (slots : List Value) (bytes : List ℕ) → with_new class (rens x slots) bytes (ren_store x s) ≡ ren_store x (with_new class slots bytes s)
    unfolding with_new
    with_new_ren class slots bytes =
        ap (λ n. object_added (record (new_object class (rens x slots) bytes) { capacity = n }) (ren_store x s)) (length-map slots (ren x))
        ∙ object_added_ren (new_object class slots bytes)

    pub slots_made : (class : ℕ) (slots : List Value) → makes_slots class (rens x slots) (ren_store x s) ≡ ren_action x (makes_slots class slots s)
    unfolding makes_slots
    slots_made class slots = rw (length-map slots (ren x), with_new_ren class slots [], next_ren) refl

    pub bytes_made : (class : ℕ) (bytes : Text) → makes_bytes class bytes (ren_store x s) ≡ ren_action x (makes_bytes class bytes s)
    unfolding makes_bytes
    bytes_made class bytes = rw (with_new_ren class [] bytes, next_ren) refl

    pub string_made : (text : Text) → makes_string text (ren_store x s) ≡ ren_action x (makes_string text s)
    unfolding makes_string
    string_made text = bytes_made string_class text

    pub blank_made : (class slots bytes : ℕ) → makes_blank class slots bytes (ren_store x s) ≡ ren_action x (makes_blank class slots bytes s)
    unfolding makes_blank
    blank_made class slots bytes =
        ap (λ vs. Makes (object_charge slots bytes) (with_new class vs (replicate bytes 0) (ren_store x s)) (next_object (ren_store x s))) (sym (nils_ren slots))
        ∙ rw (with_new_ren class (replicate slots Nil) (replicate bytes 0), next_ren) refl

-- ---- the messages of every object

module _ (x : Renaming) (q p : Program) (is : IsRenamed x q p) (s : Store) (room : taken x.objects ≤ length s.objects) where
  abbrev R : Action → Action
  R a = ren_action x a

  abbrev s' : Store
  s' = ren_store x s

  index_by : (o : Option ℕ) (f g : ℕ → Action) → ((i : ℕ) → f i ≡ R (g i)) → elim o [ Some i ↦ f i | None ↦ Fails trouble.IndexOutOfRange ] ≡ R (elim o [ Some i ↦ g i | None ↦ Fails trouble.IndexOutOfRange ])
  index_by None f g h = refl
  index_by (Some i) f g h = h i

  pub indexed_by : (v : Value) (size : ℕ) (f g : ℕ → Action) → ((i : ℕ) → f i ≡ R (g i)) → indexed (ren x v) size f ≡ R (indexed v size g)
  indexed_by (Integer n) size f g h = index_by (index_in size n) f g h
  indexed_by v size f g h = refl

  pub kind_by : (k : Indexed) (a b c a' b' c' : Action) → a ≡ R a' → b ≡ R b' → c ≡ R c' → elim k [ NoIndexes ↦ a | ByObject ↦ b | ByByte ↦ c ] ≡ R (elim k [ NoIndexes ↦ a' | ByObject ↦ b' | ByByte ↦ c' ])
  kind_by NoIndexes a b c a' b' c' h i j = h
  kind_by ByObject a b c a' b' c' h i j = i
  kind_by ByByte a b c a' b' c' h i j = j

  pub if_by : (t : Bool) (a b a' b' : Action) → a ≡ R a' → b ≡ R b' → (if t then a else b) ≡ R (if t then a' else b')
  if_by true a b a' b' h i = h
  if_by false a b a' b' h i = i

  -- ---- one message each

  abbrev Row : ObjectMessage → Value → List Value → Type 0
  Row m r args = object_action p s' m (ren x r) (rens x args) ≡ R (object_action q s m r args)

  same_row : (r : Value) (args : List Value) → Row ObjectMessage.Same r args
  unfolding object_action
  same_row r args = answers x _ _ (ap (λ v. same_value (ren x r) v) (first_ren x args) ∙ same_ren x is.apart r (first args))

  not_same_row : (r : Value) (args : List Value) → Row ObjectMessage.NotSame r args
  unfolding object_action
  not_same_row r args = answers x _ _ (ap (λ v. not (same_value (ren x r) v)) (first_ren x args) ∙ ap not (same_ren x is.apart r (first args)))

  value_same : (l : Level) → ren x (class_value l) ≡ class_value l
  value_same l = go l.side
    where
      go : (side : Side) → ren x (elim side [ OfInstance ↦ Class l.class | OfClass ↦ Meta l.class | OfMeta ↦ Class metaclass_class ]) ≡ elim side [ OfInstance ↦ Class l.class | OfClass ↦ Meta l.class | OfMeta ↦ Class metaclass_class ]
      go OfInstance = refl
      go OfClass = refl
      go OfMeta = refl

  class_ren : (r : Value) → class_of s' (ren x r) ≡ ren x (class_of s r)
  unfolding class_of
  class_ren r = ap class_value (level_ren x s r) ∙ sym (value_same (level_of s r))

  class_row : (r : Value) (args : List Value) → Row ObjectMessage.ClassOf r args
  unfolding object_action
  class_row r args = ap Gives (class_ren r)

  member_row : (r : Value) (args : List Value) → Row ObjectMessage.IsMemberOf r args
  unfolding object_action
  member_row r args = answers x _ _ (ap (λ v. same_value v (first (rens x args))) (class_ren r) ∙ ap (λ v. same_value (ren x (class_of s r)) v) (first_ren x args) ∙ same_ren x is.apart (class_of s r) (first args))

  nil_row : (r : Value) (args : List Value) → Row ObjectMessage.IsNil r args
  unfolding object_action
  nil_row r args = answers x _ _ (same_ren x is.apart r Nil)

  not_nil_row : (r : Value) (args : List Value) → Row ObjectMessage.NotNil r args
  unfolding object_action
  not_nil_row r args = answers x _ _ (ap not (same_ren x is.apart r Nil))

  string_row : (r : Value) (args : List Value) → Row ObjectMessage.IsString r args
  unfolding object_action
  string_row r args = answers x _ _ (ap is_some (bytes_ren x q p is s r))

  kind_row : (r : Value) (args : List Value) → Row ObjectMessage.IsKindOf r args
  unfolding object_action
  kind_row r [] = refl
  kind_row r (Class c ∷ args) = answers x _ _ (rw (level_ren x s r, walk_same x q p is (level_of s r)) refl)
  kind_row r (Meta c ∷ args) = answers x _ _ (rw (level_ren x s r, walk_same x q p is (level_of s r)) refl)
  kind_row r (v ∷ args) = refl

  some_ren : (o : Option Found) → is_some (option_map (ren_found x) o) ≡ is_some o
  some_ren None = refl
  some_ren (Some f) = refl

  responds_row : (r : Value) (args : List Value) → Row ObjectMessage.RespondsTo r args
  unfolding object_action
  responds_row r [] = refl
  responds_row r (Symbol n ∷ args) = answers x _ _ (ap (λ l. is_some (lookup p l (x.symbol n))) (level_ren x s r) ∙ ap is_some (lookup_ren x q p is (level_of s r) n) ∙ some_ren (lookup q (level_of s r) n))
  responds_row r (v ∷ args) = refl

  copied_ren : (o : HeapObject) (c : Option Closure) → copied s' (ren_object x o) (option_map (ren_closure x) c) ≡ R (copied s o c)
  copied_ren o None =
      rw (length-map o.slots (ren x), next_ren x s room, object_added_ren x s room (record { class = o.class; slots = o.slots; bytes = o.bytes; capacity = length o.slots; read_only = false; closure = None })) refl
  copied_ren o (Some c) = rw (block_added_ren x s room o.class c, next_ren x s room) refl

  copy_row : (r : Value) (args : List Value) → Row ObjectMessage.Copy r args
  unfolding object_action
  copy_row (Object n) args = ap (λ o. copied s' o (closure_at (object x n) s')) (object_read x s n) ∙ ap (λ c. copied s' (ren_object x (object_at n s)) c) (closure_read x s n) ∙ copied_ren (object_at n s) (closure_at n s)
  copy_row r args = refl

  print_row : (r : Value) (args : List Value) → Row ObjectMessage.PrintString r args
  unfolding object_action
  print_row r args = ap (λ t. makes_string t s') (print_ren x q p is s r) ∙ string_made x s room (print_text q s r)

  text_or_sent : (r : Value) (o : Option Text) → elim o [ Some bytes ↦ makes_string bytes s' | None ↦ Sends (number_of p (codes "printString")) (ren x r) [] ] ≡ R (elim o [ Some bytes ↦ makes_string bytes s | None ↦ Sends (number_of q (codes "printString")) r [] ])
  text_or_sent r (Some bytes) = string_made x s room bytes
  text_or_sent r None = ap (λ n. Sends n (ren x r) []) (is.sent _ sends_print)

  display_row : (r : Value) (args : List Value) → Row ObjectMessage.DisplayString r args
  unfolding object_action
  display_row (Character b) args = string_made x s room (b ∷ [])
  display_row r args = ap (λ o. elim o [ Some bytes ↦ makes_string bytes s' | None ↦ Sends (number_of p (codes "printString")) (ren x r) [] ]) (bytes_ren x q p is s r) ∙ text_or_sent r (bytes_of q s r)

  abbrev kind_of : ClassRow → Indexed
  kind_of c = if c.in_file then c.indexed else NoIndexes

  abbrev sized_at : HeapObject → ClassRow → Action
  sized_at o c = elim (kind_of c) [
    | NoIndexes ↦ Fails trouble.NotIndexed
    | ByObject ↦ Gives (Integer (pos (length o.slots - c.slots)))
    | ByByte ↦ Gives (Integer (pos (length o.bytes)))
  ]

  size_row : (r : Value) (args : List Value) → Row ObjectMessage.Size r args
  unfolding object_action
  size_row (Object n) args =
      let o = object_at n s in
      ap (λ (o : HeapObject). sized_at o (class_at p o.class)) (object_read x s n)
      ∙ ap (λ c. sized_at (ren_object x o) c) (class_same x q p is o.class)
      ∙ kind_by (kind_of (class_at q o.class)) _ _ _ _ _ _ refl (ap (λ k. Gives (Integer (pos (k - (class_at q o.class).slots)))) (length-map o.slots (ren x))) refl
  size_row r args = refl

  abbrev read_at : Value → HeapObject → ClassRow → Action
  read_at at o c = elim (kind_of c) [
    | NoIndexes ↦ Fails trouble.NotIndexed
    | ByObject ↦ indexed at (length o.slots - c.slots) (λ i. Gives (get_or o.slots (c.slots + i) Nil))
    | ByByte ↦ indexed at (length o.bytes) (λ i. Gives (Integer (pos (get_or o.bytes i 0))))
  ]

  at_row : (r : Value) (args : List Value) → Row ObjectMessage.At r args
  unfolding object_action
  at_row (Object n) args =
      let o = object_at n s in
      let c = class_at q o.class in
      ap (λ (o : HeapObject). read_at (first (rens x args)) o (class_at p o.class)) (object_read x s n)
      ∙ ap (λ c. read_at (first (rens x args)) (ren_object x o) c) (class_same x q p is o.class)
      ∙ ap (λ v. read_at v (ren_object x o) c) (first_ren x args)
      ∙ kind_by (kind_of c) _ _ _ _ _ _ refl
      (ap (λ k. indexed (ren x (first args)) (k - c.slots) (λ i. Gives (get_or (rens x o.slots) (c.slots + i) Nil))) (length-map o.slots (ren x))
      ∙ indexed_by (first args) (length o.slots - c.slots) _ _ (λ i. ap Gives (map_read (ren x) o.slots (c.slots + i) Nil)))
      (indexed_by (first args) (length o.bytes) _ _ (λ i. refl))
  at_row r args = refl

  pub byte_value_ren : (v : Value) → byte_value (ren x v) ≡ byte_value v
  byte_value_ren (Integer (pos n)) = refl
  byte_value_ren v = refl

  byte_put_by : (n i : ℕ) (v : Value) (o : Option ℕ) → elim o [ Some byte ↦ Changes (with_byte (object x n) i byte s') (ren x v) | None ↦ Fails trouble.ByteExpected ] ≡ R (elim o [ Some byte ↦ Changes (with_byte n i byte s) v | None ↦ Fails trouble.ByteExpected ])
  byte_put_by n i v None = refl
  byte_put_by n i v (Some byte) = ap (λ t. Changes t (ren x v)) (byte_set_ren x s n i byte)

  pub byte_put_ren : (n i : ℕ) (v : Value) → byte_put s' (object x n) i (ren x v) ≡ R (byte_put s n i v)
  byte_put_ren n i v = ap (λ o. elim o [ Some byte ↦ Changes (with_byte (object x n) i byte s') (ren x v) | None ↦ Fails trouble.ByteExpected ]) (byte_value_ren v) ∙ byte_put_by n i v (byte_value v)

  pub slot_put_row : (n i : ℕ) (v : Value) → Changes (with_slot (object x n) i (ren x v) s') (ren x v) ≡ R (Changes (with_slot n i v s) v)
  slot_put_row n i v = ap (λ t. Changes t (ren x v)) (slot_set_ren x s n i v)

  abbrev put_at : ℕ → Store → Value → Value → HeapObject → ClassRow → Action
  put_at n t at v o c = elim (kind_of c) [
    | NoIndexes ↦ Fails trouble.NotIndexed
    | ByObject ↦ indexed at (length o.slots - c.slots) (λ i. Changes (with_slot n (c.slots + i) v t) v)
    | ByByte ↦ indexed at (length o.bytes) (λ i. byte_put t n i v)
  ]

  at_put_row : (r : Value) (args : List Value) → Row ObjectMessage.AtPut r args
  unfolding object_action
  at_put_row (Object n) args =
      let o = object_at n s in
      let c = class_at q o.class in
      let v = second args in
      ap (λ (o : HeapObject). put_at (object x n) s' (first (rens x args)) (second (rens x args)) o (class_at p o.class)) (object_read x s n)
      ∙ ap (λ c. put_at (object x n) s' (first (rens x args)) (second (rens x args)) (ren_object x o) c) (class_same x q p is o.class)
      ∙ ap (λ w. put_at (object x n) s' w (second (rens x args)) (ren_object x o) c) (first_ren x args)
      ∙ ap (λ w. put_at (object x n) s' (ren x (first args)) w (ren_object x o) c) (second_ren x args)
      ∙ kind_by (kind_of c) _ _ _ _ _ _ refl
      (ap (λ k. indexed (ren x (first args)) (k - c.slots) (λ i. Changes (with_slot (object x n) (c.slots + i) (ren x v) s') (ren x v))) (length-map o.slots (ren x))
      ∙ indexed_by (first args) (length o.slots - c.slots) _ _ (λ i. slot_put_row n (c.slots + i) v))
      (indexed_by (first args) (length o.bytes) _ _ (λ i. byte_put_ren n i v))
  at_put_row r args = refl

  perform_ren : (r : Value) (name : ℕ) (vs : List Value) → (if nat_eq (arity (name_at p (x.symbol name))) (length (rens x vs)) then Sends (x.symbol name) (ren x r) (rens x vs) else Fails trouble.WrongNumberOfArguments) ≡ R (if nat_eq (arity (name_at q name)) (length vs) then Sends name r vs else Fails trouble.WrongNumberOfArguments)
  perform_ren r name vs = rw (is.names name, length-map vs (ren x)) (if_by (nat_eq (arity (name_at q name)) (length vs)) _ _ _ _ refl refl)

  perform_row : (r : Value) (args : List Value) → Row ObjectMessage.Perform r args
  unfolding object_action
  perform_row r [] = refl
  perform_row r (Symbol n ∷ args) = perform_ren r n args
  perform_row r (v ∷ args) = refl

  perform_with_row : (r : Value) (args : List Value) → Row ObjectMessage.PerformWithArguments r args
  unfolding object_action
  perform_with_row r [] = refl
  perform_with_row r (Symbol n ∷ args) =
      rw (second_ren x (Symbol n ∷ args), is_a_ren x s array_class (second (Symbol n ∷ args)), slots_ren x s (second (Symbol n ∷ args)))
      (if_by (is_a s array_class (second (Symbol n ∷ args))) _ _ _ _ (perform_ren r n (slots_of s (second (Symbol n ∷ args)))) refl)
  perform_with_row r (v ∷ args) = refl

  pub object_ren : (m : ObjectMessage) (r : Value) (args : List Value) → Row m r args
  unfolding object_action
  object_ren ObjectMessage.Same r args = same_row r args
  object_ren ObjectMessage.NotSame r args = not_same_row r args
  object_ren ObjectMessage.ClassOf r args = class_row r args
  object_ren ObjectMessage.IsNil r args = nil_row r args
  object_ren ObjectMessage.NotNil r args = not_nil_row r args
  object_ren ObjectMessage.IsString r args = string_row r args
  object_ren ObjectMessage.IsSymbol (Symbol n) args = refl
  object_ren ObjectMessage.IsSymbol r args = refl
  object_ren ObjectMessage.IsKindOf r args = kind_row r args
  object_ren ObjectMessage.IsMemberOf r args = member_row r args
  object_ren ObjectMessage.RespondsTo r args = responds_row r args
  object_ren ObjectMessage.Hash r args = refl
  object_ren ObjectMessage.Yourself r args = refl
  object_ren ObjectMessage.Copy r args = copy_row r args
  object_ren ObjectMessage.PrintString r args = print_row r args
  object_ren ObjectMessage.DisplayString r args = display_row r args
  object_ren ObjectMessage.Size r args = size_row r args
  object_ren ObjectMessage.At r args = at_row r args
  object_ren ObjectMessage.AtPut r args = at_put_row r args
  object_ren ObjectMessage.ErrorText r args = ap (λ v. RaisesNew error_class (v ∷ [])) (first_ren x args)
  object_ren ObjectMessage.SubclassResponsibility r args = refl
  object_ren ObjectMessage.NotUnderstood r args = ap (λ v. RaisesNew message_not_understood_class (Nil ∷ v ∷ ren x r ∷ [])) (first_ren x args)
  object_ren ObjectMessage.Perform r args = perform_row r args
  object_ren ObjectMessage.PerformWithArguments r args = perform_with_row r args
  object_ren ObjectMessage.Arrow r args = ap (λ v. makes_slots association_class (ren x r ∷ v ∷ []) s') (first_ren x args) ∙ slots_made x s room association_class (r ∷ first args ∷ [])
