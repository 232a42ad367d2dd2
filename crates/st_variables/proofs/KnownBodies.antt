-- The trees that are made of a text know their variables, where each name that is read or assigned to does.
use Rattle.std.proofs.Common.{◌≡◌, ℕ, suc, ◌+◌, ◌≤◌, List, [], ◌∷◌, ◌++◌, length, Bool, true, false, refl, sym, ap, ◌∙◌, subst, arith, if◌then◌else◌}
use Rattle.std.proofs.lemmas.List.{length-append}
use Rattle.object_heap.specs.declared.value.Value.{Value}
use Rattle.object_heap.specs.declared.value.Value.TheVariants.{Nil, Class, Meta}
use Rattle.object_heap.specs.Store.{Object as HeapObject}
use Rattle.st_code.specs.Texts.{Text}
use Rattle.st_code.specs.Program.{Program, Tree, Trees, Messages, no_messages, more_messages, Statement, Plain, Return, Body, Side, OfInstance, OfClass}
use Rattle.st_code.specs.BuiltIns.{exception_set_class}
use Rattle.st_code.specs.Named.{Literal, NilLiteral, TrueLiteral, FalseLiteral, IntegerLiteral, CharacterLiteral, StringLiteral, SymbolLiteral, ArrayLiteral, Literals, no_literals, more_literals, NamedPrimary, NameOf, SelfName, SuperName, LiteralOf, BlockOf, ParenOf, NamedOperand, OperandOf, NamedOperands, no_operands, more_operands, NamedMessages, none_sent, then_sent, NamedExpr, ExprOf, NamedStatements, no_statements, more_statements}
use Rattle.st_code.specs.Resolved.{Names, Meant, At, Value', meant, Made, Counts, behind, Context, tree_of, place_of, assigned, Receiver, ToTree, ToSuper, sent, receiver_tree, cascaded, Chain, one_sent, with_cascade, is_one_sent, number_or_last, literal_made, literals_made, primary_made, chain_made, messages_made, args_made, operand_made, expr_made, statements_made}
use Rattle.st_rules.proofs.SoundTrees.{Sits, sits_left, sits_right}
use Rattle.st_variables.specs.Assigned.{IsPlace, AllPlaces, PrimaryAssigns, OperandAssigns, OperandsAssign, MessagesAssign, ExprAssigns, StatementsAssign}
use Rattle.st_variables.proofs.KnownCode.{PlaceKnown, TreeKnown, TreesKnown, MessagesKnown, StatementsKnown, BodiesKnown}

-- what a name stands for in a body of this class
abbrev pub MeantKnown : Program → Value → Meant → Type 0
MeantKnown p class (At place) = PlaceKnown p class place
MeantKnown p class (Value' v) = Unit {0}

abbrev pub side_value : Side → ℕ → Value
side_value side class = elim side [ OfInstance ↦ Class class | OfClass ↦ Meta class | _ ↦ Nil ]

-- literals are of built-in classes
abbrev pub AllLow : List HeapObject → Type 0
AllLow [] = Unit {0}
AllLow (o ∷ objects) = (o.class ≤ exception_set_class) × AllLow objects

pub low_append : (os qs : List HeapObject) → AllLow os → AllLow qs → AllLow (os ++ qs)
low_append [] qs g h = h
low_append (o ∷ os) qs g h = (g.0, low_append os qs g.1 h)

mutual
  literal_low : (names : List Text) (n : ℕ) (l : Literal) → AllLow (literal_made names n l).objects
  literal_low names n NilLiteral = tt
  literal_low names n TrueLiteral = tt
  literal_low names n FalseLiteral = tt
  literal_low names n (IntegerLiteral i) = tt
  literal_low names n (CharacterLiteral b) = tt
  literal_low names n (StringLiteral t) = (omega arith, tt)
  literal_low names n (SymbolLiteral t) = tt
  literal_low names n (ArrayLiteral row) = (omega arith, literals_low names (suc n) row)

  literals_low : (names : List Text) (n : ℕ) (row : Literals) → AllLow (literals_made names n row).objects
  literals_low names n no_literals = tt
  literals_low names n (more_literals l row) =
      let a = literal_made names n l in
      low_append a.objects (literals_made names (n + length a.objects) row).objects (literal_low names n l) (literals_low names (n + length a.objects) row)

literal_bodies : (names : List Text) (n : ℕ) (l : Literal) → (literal_made names n l).bodies ≡ []
literal_bodies names n NilLiteral = refl
literal_bodies names n TrueLiteral = refl
literal_bodies names n FalseLiteral = refl
literal_bodies names n (IntegerLiteral i) = refl
literal_bodies names n (CharacterLiteral b) = refl
literal_bodies names n (StringLiteral t) = refl
literal_bodies names n (SymbolLiteral t) = refl
literal_bodies names n (ArrayLiteral row) = refl

module _ (p : Program) where
  pub bodies_append : (xs ys : List Body) → BodiesKnown p xs → BodiesKnown p ys → BodiesKnown p (xs ++ ys)
  bodies_append [] ys g h = h
  bodies_append (x ∷ xs) ys g h = (g.0, bodies_append xs ys g.1 h)

  -- what is made knows its variables
  pub record Good {A : Type 0} (P : A → Type 0) (a : Made A) : Type 0 where
    pub item : P a.item
    pub bodies : BodiesKnown p a.bodies
    pub objects : AllLow a.objects

  module _ (X : Names) (class : ℕ) (side : Side) (reads : (scopes : List (List Text)) (t : Text) → MeantKnown p (side_value side class) (meant X class side scopes t)) where
    abbrev D : Value
    D = side_value side class

    abbrev at : ℕ → List (List Text) → Context
    at code scopes = record { names = X; class = class; side = side; code = code; scopes = scopes }

    tree_known : (m : Meant) → MeantKnown p D m → TreeKnown p D (tree_of m)
    tree_known (At place) h = h
    tree_known (Value' v) h = tt

    place_known : (m : Meant) → IsPlace m → MeantKnown p D m → PlaceKnown p D (place_of m)
    place_known (At place) i h = h
    place_known (Value' v) i h = absurd i

    assigned_known : (code : ℕ) (scopes : List (List Text)) (names : List Text) (t : Tree) → AllPlaces X class side scopes names → TreeKnown p D t → TreeKnown p D (assigned (at code scopes) names t)
    assigned_known code scopes [] t i h = h
    assigned_known code scopes (name ∷ names) t i h = (place_known (meant X class side scopes name) i.0 (reads scopes name), assigned_known code scopes names t i.1 h)

    abbrev ReceiverKnown : Receiver → Type 0
    ReceiverKnown (ToTree t) = TreeKnown p D t
    ReceiverKnown ToSuper = Unit {0}

    receiver_known : (r : Receiver) → ReceiverKnown r → TreeKnown p D (receiver_tree r)
    receiver_known (ToTree t) h = h
    receiver_known ToSuper h = tt

    sent_known : (r : Receiver) (selector : ℕ) (args : Trees) → ReceiverKnown r → TreesKnown p D args → TreeKnown p D (sent r selector args)
    sent_known (ToTree t) selector args h i = (h, i)
    sent_known ToSuper selector args h i = i

    cascaded_known : (r : Receiver) (messages : Messages) → ReceiverKnown r → MessagesKnown p D messages → TreeKnown p D (cascaded r messages)
    cascaded_known (ToTree t) row h i = (h, i)
    cascaded_known ToSuper row h i = i

    abbrev ChainKnown : Chain → Type 0
    ChainKnown c = ReceiverKnown c.whole × ReceiverKnown c.before × TreesKnown p D c.args

    cascade_known : (c : Chain) (messages : Messages) → ChainKnown c → MessagesKnown p D messages → TreeKnown p D (with_cascade c messages)
    cascade_known c no_messages h i = receiver_known c.whole h.0
    cascade_known c (more_messages selector args row) h i = cascaded_known c.before (more_messages c.selector c.args (more_messages selector args row)) h.1 (h.2, i)

    pick_known : (b : Bool) (c d : Chain) → ChainKnown c → ChainKnown d → ChainKnown (if b then c else d)
    pick_known true c d h i = h
    pick_known false c d h i = i

    statement_known : (b : Bool) (t : Tree) (row : List Statement) → TreeKnown p D t → StatementsKnown p D row → StatementsKnown p D ((if b then Return t else Plain t) ∷ row)
    statement_known true t row h i = (h, i)
    statement_known false t row h i = (h, i)

    -- ---- what is made

    mutual
      primary_known : (code : ℕ) (scopes : List (List Text)) (n : Counts) (q : NamedPrimary) → PrimaryAssigns X class side scopes q → Sits p n.bodies (primary_made (at code scopes) n q).bodies → Good ReceiverKnown (primary_made (at code scopes) n q)
      primary_known code scopes n (NameOf t) a s = record { item = tree_known (meant X class side scopes t) (reads scopes t); bodies = tt; objects = tt }
      primary_known code scopes n SelfName a s = record { item = tt; bodies = tt; objects = tt }
      primary_known code scopes n SuperName a s = record { item = tt; bodies = tt; objects = tt }
      primary_known code scopes n (LiteralOf l) a s = record { item = tt; bodies = subst (λ bs. BodiesKnown p bs) (sym (literal_bodies X.names n.objects l)) tt; objects = literal_low X.names n.objects l }
      primary_known code scopes n (BlockOf parameters temporaries row) a s =
          let g = statements_known n.bodies ((parameters ++ temporaries) ∷ scopes) (record { bodies = suc n.bodies; objects = n.objects }) row a s.1 in
          record { item = ap (λ (y : Body). y.class) s.0.1; bodies = (g.item, g.bodies); objects = g.objects }
      primary_known code scopes n (ParenOf e) a s = let g = expr_known code scopes n e a s in record { item = g.item; bodies = g.bodies; objects = g.objects }

      chain_known : (code : ℕ) (scopes : List (List Text)) (n : Counts) (r : Receiver) (row : NamedMessages) → ReceiverKnown r → MessagesAssign X class side scopes row → Sits p n.bodies (chain_made (at code scopes) n r row).bodies → Good ChainKnown (chain_made (at code scopes) n r row)
      chain_known code scopes n r none_sent h f s = record { item = (h, h, tt); bodies = tt; objects = tt }
      chain_known code scopes n r (then_sent selector args row) h f s =
          let x = at code scopes in
          let a = args_made x n args in
          let one = one_sent r (number_or_last X.names selector) a.item in
          let rest = chain_made x (behind n a) one.whole row in
          let g = args_known code scopes n args f.0 (sits_left p n.bodies a.bodies rest.bodies s) in
          let whole = sent_known r (number_or_last X.names selector) a.item h g.item in
          let i = chain_known code scopes (behind n a) one.whole row whole f.1 (sits_right p n.bodies a.bodies rest.bodies s) in
          record { item = pick_known (is_one_sent row) one rest.item (whole, h, g.item) i.item; bodies = bodies_append a.bodies rest.bodies g.bodies i.bodies; objects = low_append a.objects rest.objects g.objects i.objects }

      messages_known : (code : ℕ) (scopes : List (List Text)) (n : Counts) (row : NamedMessages) → MessagesAssign X class side scopes row → Sits p n.bodies (messages_made (at code scopes) n row).bodies → Good (MessagesKnown p D) (messages_made (at code scopes) n row)
      messages_known code scopes n none_sent f s = record { item = tt; bodies = tt; objects = tt }
      messages_known code scopes n (then_sent selector args row) f s =
          let x = at code scopes in
          let a = args_made x n args in
          let rest = messages_made x (behind n a) row in
          let g = args_known code scopes n args f.0 (sits_left p n.bodies a.bodies rest.bodies s) in
          let i = messages_known code scopes (behind n a) row f.1 (sits_right p n.bodies a.bodies rest.bodies s) in
          record { item = (g.item, i.item); bodies = bodies_append a.bodies rest.bodies g.bodies i.bodies; objects = low_append a.objects rest.objects g.objects i.objects }

      args_known : (code : ℕ) (scopes : List (List Text)) (n : Counts) (row : NamedOperands) → OperandsAssign X class side scopes row → Sits p n.bodies (args_made (at code scopes) n row).bodies → Good (TreesKnown p D) (args_made (at code scopes) n row)
      args_known code scopes n no_operands f s = record { item = tt; bodies = tt; objects = tt }
      args_known code scopes n (more_operands o row) f s =
          let x = at code scopes in
          let a = operand_made x n o in
          let rest = args_made x (behind n a) row in
          let g = operand_known code scopes n o f.0 (sits_left p n.bodies a.bodies rest.bodies s) in
          let i = args_known code scopes (behind n a) row f.1 (sits_right p n.bodies a.bodies rest.bodies s) in
          record { item = (g.item, i.item); bodies = bodies_append a.bodies rest.bodies g.bodies i.bodies; objects = low_append a.objects rest.objects g.objects i.objects }

      operand_known : (code : ℕ) (scopes : List (List Text)) (n : Counts) (o : NamedOperand) → OperandAssigns X class side scopes o → Sits p n.bodies (operand_made (at code scopes) n o).bodies → Good (TreeKnown p D) (operand_made (at code scopes) n o)
      operand_known code scopes n (OperandOf primary chain) f s =
          let x = at code scopes in
          let a = primary_made x n primary in
          let rest = chain_made x (behind n a) a.item chain in
          let g = primary_known code scopes n primary f.0 (sits_left p n.bodies a.bodies rest.bodies s) in
          let i = chain_known code scopes (behind n a) a.item chain g.item f.1 (sits_right p n.bodies a.bodies rest.bodies s) in
          record { item = receiver_known rest.item.whole i.item.0; bodies = bodies_append a.bodies rest.bodies g.bodies i.bodies; objects = low_append a.objects rest.objects g.objects i.objects }

      expr_known : (code : ℕ) (scopes : List (List Text)) (n : Counts) (e : NamedExpr) → ExprAssigns X class side scopes e → Sits p n.bodies (expr_made (at code scopes) n e).bodies → Good (TreeKnown p D) (expr_made (at code scopes) n e)
      expr_known code scopes n (ExprOf targets (OperandOf primary chain) cascade) f s =
          let x = at code scopes in
          let a = primary_made x n primary in
          let c = chain_made x (behind n a) a.item chain in
          let ms = messages_made x (behind (behind n a) c) cascade in
          let two = sits_left p n.bodies (a.bodies ++ c.bodies) ms.bodies s in
          let g = primary_known code scopes n primary f.1.0 (sits_left p n.bodies a.bodies c.bodies two) in
          let i = chain_known code scopes (behind n a) a.item chain g.item f.1.1 (sits_right p n.bodies a.bodies c.bodies two) in
          let place : n.bodies + length (a.bodies ++ c.bodies) ≡ n.bodies + length a.bodies + length c.bodies = ap (λ k. n.bodies + k) (length-append a.bodies c.bodies) ∙ omega arith in
          let j = messages_known code scopes (behind (behind n a) c) cascade f.2 (subst (λ k. Sits p k ms.bodies) place (sits_right p n.bodies (a.bodies ++ c.bodies) ms.bodies s)) in
          record {
            item = assigned_known code scopes targets (with_cascade c.item ms.item) f.0 (cascade_known c.item ms.item i.item j.item);
            bodies = bodies_append (a.bodies ++ c.bodies) ms.bodies (bodies_append a.bodies c.bodies g.bodies i.bodies) j.bodies;
            objects = low_append (a.objects ++ c.objects) ms.objects (low_append a.objects c.objects g.objects i.objects) j.objects;
          }

      pub statements_known : (code : ℕ) (scopes : List (List Text)) (n : Counts) (row : NamedStatements) → StatementsAssign X class side scopes row → Sits p n.bodies (statements_made (at code scopes) n row).bodies → Good (StatementsKnown p D) (statements_made (at code scopes) n row)
      statements_known code scopes n no_statements f s = record { item = tt; bodies = tt; objects = tt }
      statements_known code scopes n (more_statements returns e row) f s =
          let x = at code scopes in
          let a = expr_made x n e in
          let rest = statements_made x (behind n a) row in
          let g = expr_known code scopes n e f.0 (sits_left p n.bodies a.bodies rest.bodies s) in
          let i = statements_known code scopes (behind n a) row f.1 (sits_right p n.bodies a.bodies rest.bodies s) in
          record { item = statement_known returns a.item rest.item g.item i.item; bodies = bodies_append a.bodies rest.bodies g.bodies i.bodies; objects = low_append a.objects rest.objects g.objects i.objects }
