-- What resolution makes of trees is of the class that it is written in, and the objects of its literals are sound.
use Rattle.std.proofs.Common.{◌≡◌, ℕ, suc, ◌+◌, length, List, [], ◌∷◌, ◌++◌, Bool, true, false, true≢false, refl, sym, ap, ◌∙◌, subst, arith, if◌then◌else◌}
use Rattle.std.proofs.lemmas.List.{length-append}
use Rattle.object_heap.specs.declared.value.Value.{Value}
use Rattle.object_heap.specs.Store.{Object as HeapObject}
use Rattle.st_code.specs.Named.{Literal, NilLiteral, TrueLiteral, FalseLiteral, IntegerLiteral, CharacterLiteral, StringLiteral, SymbolLiteral, ArrayLiteral, Literals, no_literals, more_literals, NamedPrimary, NameOf, SelfName, SuperName, LiteralOf, BlockOf, ParenOf, NamedOperand, OperandOf, NamedOperands, no_operands, more_operands, NamedMessages, none_sent, then_sent, NamedExpr, ExprOf, NamedStatements, no_statements, more_statements}
use Rattle.st_code.specs.Program.{Program, Tree, Trees, Messages, no_messages, more_messages, Statement, Plain, Return, Body}
use Rattle.st_code.specs.Resolved.{Meant, At, Value', meant, Made, Counts, behind, Context, read_only, class_of_context, tree_of, place_of, named, assigned, inside, Receiver, ToTree, ToSuper, sent, receiver_tree, cascaded, Chain, one_sent, with_cascade, is_one_sent, literal_made, literals_made, primary_made, chain_made, messages_made, args_made, operand_made, expr_made, statements_made, number_or_last}
use Rattle.st_code.specs.Texts.{Text}
use Rattle.st_rules.proofs.SoundTrees.{Sits, sits_left, sits_right}
use Rattle.st_sound.specs.SoundStore.{SoundObject, grows, is_free}
use Rattle.st_sound.proofs.SoundObjects.{free_interval, free_dictionary}
use Rattle.st_sound.proofs.WrittenTrees.{PlaceWritten, TreeWritten, TreesWritten, MessagesWritten, StatementsWritten, BodiesWritten, bodies_append}

-- ---- literals

pub literal_sound : (class : ℕ) (slots : List Value) (bytes : List ℕ) → is_free class ≡ true → grows class ≡ false → SoundObject (read_only class slots bytes)
literal_sound class slots bytes f g =
    record {
      room = omega arith;
      measured = λ e. absurd (free_interval class f e);
      writable = λ e. absurd (true≢false (sym e ∙ g));
      slots_even = λ e. absurd (free_dictionary class f e);
      room_even = λ e. absurd (free_dictionary class f e);
    }

abbrev pub AllSound : List HeapObject → Type 0
AllSound [] = Unit {0}
AllSound (o ∷ objects) = SoundObject o × AllSound objects

pub sound_append : (xs ys : List HeapObject) → AllSound xs → AllSound ys → AllSound (xs ++ ys)
sound_append [] ys g h = h
sound_append (x ∷ xs) ys g h = (g.0, sound_append xs ys g.1 h)

mutual
  literal_objects : (names : List Text) (n : ℕ) (l : Literal) → AllSound (literal_made names n l).objects
  literal_objects names n NilLiteral = tt
  literal_objects names n TrueLiteral = tt
  literal_objects names n FalseLiteral = tt
  literal_objects names n (IntegerLiteral i) = tt
  literal_objects names n (CharacterLiteral b) = tt
  literal_objects names n (StringLiteral t) = (literal_sound 9 [] t refl refl, tt)
  literal_objects names n (SymbolLiteral t) = tt
  literal_objects names n (ArrayLiteral row) = (literal_sound 11 (literals_made names (suc n) row).item [] refl refl, literals_objects names (suc n) row)

  literals_objects : (names : List Text) (n : ℕ) (row : Literals) → AllSound (literals_made names n row).objects
  literals_objects names n no_literals = tt
  literals_objects names n (more_literals l row) = let a = literal_made names n l in sound_append a.objects _ (literal_objects names n l) (literals_objects names (n + length a.objects) row)

literal_bodies : (p : Program) (names : List Text) (n : ℕ) (l : Literal) → BodiesWritten p (literal_made names n l).bodies
literal_bodies p names n NilLiteral = tt
literal_bodies p names n TrueLiteral = tt
literal_bodies p names n FalseLiteral = tt
literal_bodies p names n (IntegerLiteral i) = tt
literal_bodies p names n (CharacterLiteral b) = tt
literal_bodies p names n (StringLiteral t) = tt
literal_bodies p names n (SymbolLiteral t) = tt
literal_bodies p names n (ArrayLiteral row) = tt

module _ (p : Program) where
  -- what is made: its item, the bodies of its blocks and the objects of its literals
  pub record Good {A : Type 0} (P : A → Type 0) (a : Made A) : Type 0 where
    pub item : P a.item
    pub bodies : BodiesWritten p a.bodies
    pub objects : AllSound a.objects

  -- what is assigned to in a context
  abbrev pub Assigns : Context → Type 0
  Assigns x = (scopes : List (List Text)) (t : Text) → PlaceWritten p (class_of_context x) (place_of (meant x.names x.class x.side scopes t))

  abbrev T : Context → Tree → Type 0
  T x t = TreeWritten p (class_of_context x) t

  tree_written : (x : Context) (m : Meant) → T x (tree_of m)
  tree_written x (At place) = tt
  tree_written x (Value' v) = tt

  assigned_written : (x : Context) (names : List Text) (t : Tree) → Assigns x → T x t → T x (assigned x names t)
  assigned_written x [] t a h = h
  assigned_written x (name ∷ names) t a h = (a x.scopes name, assigned_written x names t a h)

  abbrev ReceiverWritten : Context → Receiver → Type 0
  ReceiverWritten x (ToTree t) = T x t
  ReceiverWritten x ToSuper = Unit {0}

  receiver_written : (x : Context) (r : Receiver) → ReceiverWritten x r → T x (receiver_tree r)
  receiver_written x (ToTree t) h = h
  receiver_written x ToSuper h = tt

  sent_written : (x : Context) (r : Receiver) (selector : ℕ) (args : Trees) → ReceiverWritten x r → TreesWritten p (class_of_context x) args → T x (sent r selector args)
  sent_written x (ToTree t) selector args h i = (h, i)
  sent_written x ToSuper selector args h i = i

  cascaded_written : (x : Context) (r : Receiver) (messages : Messages) → ReceiverWritten x r → MessagesWritten p (class_of_context x) messages → T x (cascaded r messages)
  cascaded_written x (ToTree t) row h i = (h, i)
  cascaded_written x ToSuper row h i = i

  abbrev ChainWritten : Context → Chain → Type 0
  ChainWritten x c = ReceiverWritten x c.whole × ReceiverWritten x c.before × TreesWritten p (class_of_context x) c.args

  cascade_written : (x : Context) (c : Chain) (messages : Messages) → ChainWritten x c → MessagesWritten p (class_of_context x) messages → T x (with_cascade c messages)
  cascade_written x c no_messages h i = receiver_written x c.whole h.0
  cascade_written x c (more_messages selector args row) h i = cascaded_written x c.before (more_messages c.selector c.args (more_messages selector args row)) h.1 (h.2, i)

  pick_written : (x : Context) (b : Bool) (c d : Chain) → ChainWritten x c → ChainWritten x d → ChainWritten x (if b then c else d)
  pick_written x true c d h i = h
  pick_written x false c d h i = i

  statement_written : (x : Context) (b : Bool) (t : Tree) (row : List Statement) → T x t → StatementsWritten p (class_of_context x) row → StatementsWritten p (class_of_context x) ((if b then Return t else Plain t) ∷ row)
  statement_written x true t row h i = (h, i)
  statement_written x false t row h i = (h, i)

  -- ---- what is made

  mutual
    primary_written : (x : Context) (n : Counts) (q : NamedPrimary) → Assigns x → Sits p n.bodies (primary_made x n q).bodies → Good (ReceiverWritten x) (primary_made x n q)
    primary_written x n (NameOf t) a s = record { item = tree_written x (named x t); bodies = tt; objects = tt }
    primary_written x n SelfName a s = record { item = tt; bodies = tt; objects = tt }
    primary_written x n SuperName a s = record { item = tt; bodies = tt; objects = tt }
    primary_written x n (LiteralOf l) a s = record { item = tt; bodies = literal_bodies p x.names.names n.objects l; objects = literal_objects x.names.names n.objects l }
    primary_written x n (BlockOf parameters temporaries row) a s =
        let g = statements_written (inside x n.bodies (parameters ++ temporaries)) (record { bodies = suc n.bodies; objects = n.objects }) row a s.1 in
        record { item = ap (λ (b : Body). b.class) s.0.1; bodies = (g.item, g.bodies); objects = g.objects }
    primary_written x n (ParenOf e) a s = let g = expr_written x n e a s in record { item = g.item; bodies = g.bodies; objects = g.objects }

    chain_written : (x : Context) (n : Counts) (r : Receiver) (row : NamedMessages) → Assigns x → ReceiverWritten x r → Sits p n.bodies (chain_made x n r row).bodies → Good (ChainWritten x) (chain_made x n r row)
    chain_written x n r none_sent a h s = record { item = (h, h, tt); bodies = tt; objects = tt }
    chain_written x n r (then_sent selector args row) a h s =
        let b = args_made x n args in
        let one = one_sent r (number_or_last x.names.names selector) b.item in
        let rest = chain_made x (behind n b) one.whole row in
        let g = args_written x n args a (sits_left p n.bodies b.bodies _ s) in
        let whole = sent_written x r (number_or_last x.names.names selector) b.item h g.item in
        let i = chain_written x (behind n b) one.whole row a whole (sits_right p n.bodies b.bodies _ s) in
        record { item = pick_written x (is_one_sent row) one rest.item (whole, h, g.item) i.item; bodies = bodies_append p b.bodies rest.bodies g.bodies i.bodies; objects = sound_append b.objects rest.objects g.objects i.objects }

    messages_written : (x : Context) (n : Counts) (row : NamedMessages) → Assigns x → Sits p n.bodies (messages_made x n row).bodies → Good (MessagesWritten p (class_of_context x)) (messages_made x n row)
    messages_written x n none_sent a s = record { item = tt; bodies = tt; objects = tt }
    messages_written x n (then_sent selector args row) a s =
        let b = args_made x n args in
        let rest = messages_made x (behind n b) row in
        let g = args_written x n args a (sits_left p n.bodies b.bodies _ s) in
        let i = messages_written x (behind n b) row a (sits_right p n.bodies b.bodies _ s) in
        record { item = (g.item, i.item); bodies = bodies_append p b.bodies rest.bodies g.bodies i.bodies; objects = sound_append b.objects rest.objects g.objects i.objects }

    args_written : (x : Context) (n : Counts) (row : NamedOperands) → Assigns x → Sits p n.bodies (args_made x n row).bodies → Good (TreesWritten p (class_of_context x)) (args_made x n row)
    args_written x n no_operands a s = record { item = tt; bodies = tt; objects = tt }
    args_written x n (more_operands o row) a s =
        let b = operand_made x n o in
        let rest = args_made x (behind n b) row in
        let g = operand_written x n o a (sits_left p n.bodies b.bodies _ s) in
        let i = args_written x (behind n b) row a (sits_right p n.bodies b.bodies _ s) in
        record { item = (g.item, i.item); bodies = bodies_append p b.bodies rest.bodies g.bodies i.bodies; objects = sound_append b.objects rest.objects g.objects i.objects }

    operand_written : (x : Context) (n : Counts) (o : NamedOperand) → Assigns x → Sits p n.bodies (operand_made x n o).bodies → Good (T x) (operand_made x n o)
    operand_written x n (OperandOf primary chain) a s =
        let b = primary_made x n primary in
        let rest = chain_made x (behind n b) b.item chain in
        let g = primary_written x n primary a (sits_left p n.bodies b.bodies _ s) in
        let i = chain_written x (behind n b) b.item chain a g.item (sits_right p n.bodies b.bodies _ s) in
        record { item = receiver_written x rest.item.whole i.item.0; bodies = bodies_append p b.bodies rest.bodies g.bodies i.bodies; objects = sound_append b.objects rest.objects g.objects i.objects }

    expr_written : (x : Context) (n : Counts) (e : NamedExpr) → Assigns x → Sits p n.bodies (expr_made x n e).bodies → Good (T x) (expr_made x n e)
    expr_written x n (ExprOf targets (OperandOf primary chain) cascade) a s =
        let b = primary_made x n primary in
        let c = chain_made x (behind n b) b.item chain in
        let ms = messages_made x (behind (behind n b) c) cascade in
        let two = sits_left p n.bodies (b.bodies ++ c.bodies) ms.bodies s in
        let g = primary_written x n primary a (sits_left p n.bodies b.bodies c.bodies two) in
        let i = chain_written x (behind n b) b.item chain a g.item (sits_right p n.bodies b.bodies c.bodies two) in
        let place : n.bodies + length (b.bodies ++ c.bodies) ≡ n.bodies + length b.bodies + length c.bodies = ap (λ k. n.bodies + k) (length-append b.bodies c.bodies) ∙ omega arith in
        let j = messages_written x (behind (behind n b) c) cascade a (subst (λ k. Sits p k ms.bodies) place (sits_right p n.bodies (b.bodies ++ c.bodies) ms.bodies s)) in
        record {
          item = assigned_written x targets (with_cascade c.item ms.item) a (cascade_written x c.item ms.item i.item j.item);
          bodies = bodies_append p (b.bodies ++ c.bodies) ms.bodies (bodies_append p b.bodies c.bodies g.bodies i.bodies) j.bodies;
          objects = sound_append (b.objects ++ c.objects) ms.objects (sound_append b.objects c.objects g.objects i.objects) j.objects;
        }

    pub statements_written : (x : Context) (n : Counts) (row : NamedStatements) → Assigns x → Sits p n.bodies (statements_made x n row).bodies → Good (StatementsWritten p (class_of_context x)) (statements_made x n row)
    statements_written x n no_statements a s = record { item = tt; bodies = tt; objects = tt }
    statements_written x n (more_statements returns e row) a s =
        let b = expr_made x n e in
        let rest = statements_made x (behind n b) row in
        let g = expr_written x n e a (sits_left p n.bodies b.bodies _ s) in
        let i = statements_written x (behind n b) row a (sits_right p n.bodies b.bodies _ s) in
        record { item = statement_written x returns b.item rest.item g.item i.item; bodies = bodies_append p b.bodies rest.bodies g.bodies i.bodies; objects = sound_append b.objects rest.objects g.objects i.objects }
