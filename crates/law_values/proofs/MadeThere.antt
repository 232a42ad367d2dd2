-- The trees and literals that are made of a text have constants and variables that are there.
use Rattle.std.proofs.Common.{ℕ, suc, ◌+◌, ◌≤◌, List, [], ◌∷◌, ◌++◌, length, Bool, true, false, arith, if◌then◌else◌, ◌<◌}
use Rattle.std.proofs.lemmas.List.{length-append}
use Rattle.object_heap.specs.declared.value.Value.TheVariants.{Nil, Class, Meta}
use Rattle.object_heap.specs.Store.{Object as HeapObject}
use Rattle.st_code.specs.Texts.{Text}
use Rattle.st_code.specs.Program.{Place, Tree, Trees, Messages, no_messages, more_messages, Statement, Plain, Return, Body, Side, OfInstance, OfClass, OfMeta}
use Rattle.st_code.specs.Named.{Literal, NilLiteral, TrueLiteral, FalseLiteral, IntegerLiteral, CharacterLiteral, StringLiteral, SymbolLiteral, ArrayLiteral, Literals, no_literals, more_literals, NamedPrimary, NameOf, SelfName, SuperName, LiteralOf, BlockOf, ParenOf, NamedOperand, OperandOf, NamedOperands, no_operands, more_operands, NamedMessages, none_sent, then_sent, NamedExpr, ExprOf, NamedStatements, no_statements, more_statements}
use Rattle.st_code.specs.Resolved.{Names, Meant, At, Value', meant, Made, Counts, behind, Context, tree_of, place_of, assigned, Receiver, ToTree, ToSuper, sent, receiver_tree, cascaded, Chain, one_sent, with_cascade, is_one_sent, literal_made, literals_made, primary_made, chain_made, messages_made, args_made, operand_made, expr_made, statements_made, number_or_last}
use Rattle.law_values.specs.KnownNumbers.{Has, AllHave, ObjectsHave}
use Rattle.law_values.proofs.ValuesThere.{objects_append}
use Rattle.law_values.proofs.TreesThere.{TreeHas, TreesHave, MessagesHave, StatementsHave, BodiesHave}

module _ (C : ℕ) (low : 29 < C) where
  module _ (K : ℕ) (V : Place → Type 0) where
    -- what a name stands for
    abbrev pub MeantHas : Meant → Type 0
    MeantHas (At place) = V place
    MeantHas (Value' v) = Has C K v

    -- what is made is there, where its objects are among so many
    pub record Good {A : Type 0} (P : A → Type 0) (a : Made A) : Type 0 where
      pub item : P a.item
      pub bodies : BodiesHave C low K V a.bodies
      pub objects : ObjectsHave C K a.objects

    pub bodies_append : (xs ys : List Body) → BodiesHave C low K V xs → BodiesHave C low K V ys → BodiesHave C low K V (xs ++ ys)
    bodies_append [] ys g h = h
    bodies_append (x ∷ xs) ys g h = (g.0, bodies_append xs ys g.1 h)

    -- room for one list of objects behind another
    left_fits : (n : ℕ) (xs ys : List HeapObject) → n + length (xs ++ ys) ≤ K → n + length xs ≤ K
    left_fits n xs ys l = let e = length-append xs ys in omega (arith, l, e)

    right_fits : (n : ℕ) (xs ys : List HeapObject) → n + length (xs ++ ys) ≤ K → n + length xs + length ys ≤ K
    right_fits n xs ys l = let e = length-append xs ys in omega (arith, l, e)

    -- ---- literals

    mutual
      literal_has : (names : List Text) (n : ℕ) (l : Literal) → n + length (literal_made names n l).objects ≤ K → Good (Has C K) (literal_made names n l)
      literal_has names n NilLiteral f = record { item = tt; bodies = tt; objects = tt }
      literal_has names n TrueLiteral f = record { item = tt; bodies = tt; objects = tt }
      literal_has names n FalseLiteral f = record { item = tt; bodies = tt; objects = tt }
      literal_has names n (IntegerLiteral i) f = record { item = tt; bodies = tt; objects = tt }
      literal_has names n (CharacterLiteral b) f = record { item = tt; bodies = tt; objects = tt }
      literal_has names n (StringLiteral t) f = record { item = omega (arith, f); bodies = tt; objects = (tt, tt) }
      literal_has names n (SymbolLiteral t) f = record { item = tt; bodies = tt; objects = tt }
      literal_has names n (ArrayLiteral row) f =
          let g = literals_have names (suc n) row (omega (arith, f)) in record { item = omega (arith, f); bodies = tt; objects = (g.item, g.objects) }

      literals_have : (names : List Text) (n : ℕ) (row : Literals) → n + length (literals_made names n row).objects ≤ K → Good (AllHave C K) (literals_made names n row)
      literals_have names n no_literals f = record { item = tt; bodies = tt; objects = tt }
      literals_have names n (more_literals l row) f =
          let a = literal_made names n l in
          let b = literals_made names (n + length a.objects) row in
          let g = literal_has names n l (left_fits n a.objects b.objects f) in
          let h = literals_have names (n + length a.objects) row (right_fits n a.objects b.objects f) in
          record { item = (g.item, h.item); bodies = bodies_append a.bodies b.bodies g.bodies h.bodies; objects = objects_append C low K a.objects b.objects g.objects h.objects }

    -- ---- names

    module _ (X : Names) (known : (class : ℕ) (side : Side) (scopes : List (List Text)) (t : Text) → MeantHas (meant X class side scopes t)) (assigns : (class : ℕ) (side : Side) (scopes : List (List Text)) (t : Text) → V (place_of (meant X class side scopes t))) where
      abbrev at : ℕ → Side → ℕ → List (List Text) → Context
      at class side code scopes = record { names = X; class = class; side = side; code = code; scopes = scopes }

      tree_has : (m : Meant) → MeantHas m → TreeHas C low K V (tree_of m)
      tree_has (At place) h = h
      tree_has (Value' v) h = h

      assigned_has : (class : ℕ) (side : Side) (code : ℕ) (scopes : List (List Text)) (names : List Text) (t : Tree) → TreeHas C low K V t → TreeHas C low K V (assigned (at class side code scopes) names t)
      assigned_has class side code scopes [] t h = h
      assigned_has class side code scopes (name ∷ names) t h = (assigns class side scopes name, assigned_has class side code scopes names t h)

      class_has : (side : Side) (class : ℕ) → class < C → Has C K (elim side [ OfInstance ↦ Class class | OfClass ↦ Meta class | _ ↦ Nil ])
      class_has OfInstance class l = l
      class_has OfClass class l = l
      class_has OfMeta class l = tt

      abbrev ReceiverHas : Receiver → Type 0
      ReceiverHas (ToTree t) = TreeHas C low K V t
      ReceiverHas ToSuper = Unit {0}

      receiver_has : (r : Receiver) → ReceiverHas r → TreeHas C low K V (receiver_tree r)
      receiver_has (ToTree t) h = h
      receiver_has ToSuper h = tt

      sent_has : (r : Receiver) (selector : ℕ) (args : Trees) → ReceiverHas r → TreesHave C low K V args → TreeHas C low K V (sent r selector args)
      sent_has (ToTree t) selector args h i = (h, i)
      sent_has ToSuper selector args h i = i

      cascaded_has : (r : Receiver) (messages : Messages) → ReceiverHas r → MessagesHave C low K V messages → TreeHas C low K V (cascaded r messages)
      cascaded_has (ToTree t) row h i = (h, i)
      cascaded_has ToSuper row h i = i

      abbrev ChainHas : Chain → Type 0
      ChainHas c = ReceiverHas c.whole × ReceiverHas c.before × TreesHave C low K V c.args

      cascade_has : (c : Chain) (messages : Messages) → ChainHas c → MessagesHave C low K V messages → TreeHas C low K V (with_cascade c messages)
      cascade_has c no_messages h i = receiver_has c.whole h.0
      cascade_has c (more_messages selector args row) h i = cascaded_has c.before (more_messages c.selector c.args (more_messages selector args row)) h.1 (h.2, i)

      pick_has : (b : Bool) (c d : Chain) → ChainHas c → ChainHas d → ChainHas (if b then c else d)
      pick_has true c d h i = h
      pick_has false c d h i = i

      statement_has : (b : Bool) (t : Tree) (row : List Statement) → TreeHas C low K V t → StatementsHave C low K V row → StatementsHave C low K V ((if b then Return t else Plain t) ∷ row)
      statement_has true t row h i = (h, i)
      statement_has false t row h i = (h, i)

      -- ---- what is made

      mutual
        primary_has : (class : ℕ) → class < C → (side : Side) (code : ℕ) (scopes : List (List Text)) (n : Counts) (q : NamedPrimary) → n.objects + length (primary_made (at class side code scopes) n q).objects ≤ K → Good ReceiverHas (primary_made (at class side code scopes) n q)
        primary_has class there side code scopes n (NameOf t) f = record { item = tree_has (meant X class side scopes t) (known class side scopes t); bodies = tt; objects = tt }
        primary_has class there side code scopes n SelfName f = record { item = tt; bodies = tt; objects = tt }
        primary_has class there side code scopes n SuperName f = record { item = tt; bodies = tt; objects = tt }
        primary_has class there side code scopes n (LiteralOf l) f = let g = literal_has X.names n.objects l f in record { item = g.item; bodies = g.bodies; objects = g.objects }
        primary_has class there side code scopes n (BlockOf parameters temporaries row) f =
            let g = statements_have class there side n.bodies ((parameters ++ temporaries) ∷ scopes) (record { bodies = suc n.bodies; objects = n.objects }) row f in
            record { item = tt; bodies = ((g.item, class_has side class there), g.bodies); objects = g.objects }
        primary_has class there side code scopes n (ParenOf e) f = let g = expr_has class there side code scopes n e f in record { item = g.item; bodies = g.bodies; objects = g.objects }

        chain_has : (class : ℕ) → class < C → (side : Side) (code : ℕ) (scopes : List (List Text)) (n : Counts) (r : Receiver) (row : NamedMessages) → ReceiverHas r → n.objects + length (chain_made (at class side code scopes) n r row).objects ≤ K → Good ChainHas (chain_made (at class side code scopes) n r row)
        chain_has class there side code scopes n r none_sent h f = record { item = (h, h, tt); bodies = tt; objects = tt }
        chain_has class there side code scopes n r (then_sent selector args row) h f =
            let x = at class side code scopes in
            let a = args_made x n args in
            let one = one_sent r (number_or_last X.names selector) a.item in
            let rest = chain_made x (behind n a) one.whole row in
            let g = args_have class there side code scopes n args (left_fits n.objects a.objects rest.objects f) in
            let whole = sent_has r (number_or_last X.names selector) a.item h g.item in
            let i = chain_has class there side code scopes (behind n a) one.whole row whole (right_fits n.objects a.objects rest.objects f) in
            record { item = pick_has (is_one_sent row) one rest.item (whole, h, g.item) i.item; bodies = bodies_append a.bodies rest.bodies g.bodies i.bodies; objects = objects_append C low K a.objects rest.objects g.objects i.objects }

        messages_have : (class : ℕ) → class < C → (side : Side) (code : ℕ) (scopes : List (List Text)) (n : Counts) (row : NamedMessages) → n.objects + length (messages_made (at class side code scopes) n row).objects ≤ K → Good (MessagesHave C low K V) (messages_made (at class side code scopes) n row)
        messages_have class there side code scopes n none_sent f = record { item = tt; bodies = tt; objects = tt }
        messages_have class there side code scopes n (then_sent selector args row) f =
            let x = at class side code scopes in
            let a = args_made x n args in
            let rest = messages_made x (behind n a) row in
            let g = args_have class there side code scopes n args (left_fits n.objects a.objects rest.objects f) in
            let i = messages_have class there side code scopes (behind n a) row (right_fits n.objects a.objects rest.objects f) in
            record { item = (g.item, i.item); bodies = bodies_append a.bodies rest.bodies g.bodies i.bodies; objects = objects_append C low K a.objects rest.objects g.objects i.objects }

        args_have : (class : ℕ) → class < C → (side : Side) (code : ℕ) (scopes : List (List Text)) (n : Counts) (row : NamedOperands) → n.objects + length (args_made (at class side code scopes) n row).objects ≤ K → Good (TreesHave C low K V) (args_made (at class side code scopes) n row)
        args_have class there side code scopes n no_operands f = record { item = tt; bodies = tt; objects = tt }
        args_have class there side code scopes n (more_operands o row) f =
            let x = at class side code scopes in
            let a = operand_made x n o in
            let rest = args_made x (behind n a) row in
            let g = operand_has class there side code scopes n o (left_fits n.objects a.objects rest.objects f) in
            let i = args_have class there side code scopes (behind n a) row (right_fits n.objects a.objects rest.objects f) in
            record { item = (g.item, i.item); bodies = bodies_append a.bodies rest.bodies g.bodies i.bodies; objects = objects_append C low K a.objects rest.objects g.objects i.objects }

        operand_has : (class : ℕ) → class < C → (side : Side) (code : ℕ) (scopes : List (List Text)) (n : Counts) (o : NamedOperand) → n.objects + length (operand_made (at class side code scopes) n o).objects ≤ K → Good (TreeHas C low K V) (operand_made (at class side code scopes) n o)
        operand_has class there side code scopes n (OperandOf primary chain) f =
            let x = at class side code scopes in
            let a = primary_made x n primary in
            let rest = chain_made x (behind n a) a.item chain in
            let g = primary_has class there side code scopes n primary (left_fits n.objects a.objects rest.objects f) in
            let i = chain_has class there side code scopes (behind n a) a.item chain g.item (right_fits n.objects a.objects rest.objects f) in
            record { item = receiver_has rest.item.whole i.item.0; bodies = bodies_append a.bodies rest.bodies g.bodies i.bodies; objects = objects_append C low K a.objects rest.objects g.objects i.objects }

        expr_has : (class : ℕ) → class < C → (side : Side) (code : ℕ) (scopes : List (List Text)) (n : Counts) (e : NamedExpr) → n.objects + length (expr_made (at class side code scopes) n e).objects ≤ K → Good (TreeHas C low K V) (expr_made (at class side code scopes) n e)
        expr_has class there side code scopes n (ExprOf targets (OperandOf primary chain) cascade) f =
            let x = at class side code scopes in
            let a = primary_made x n primary in
            let c = chain_made x (behind n a) a.item chain in
            let ms = messages_made x (behind (behind n a) c) cascade in
            let two = left_fits n.objects (a.objects ++ c.objects) ms.objects f in
            let last = right_fits n.objects (a.objects ++ c.objects) ms.objects f in
            let g = primary_has class there side code scopes n primary (left_fits n.objects a.objects c.objects two) in
            let i = chain_has class there side code scopes (behind n a) a.item chain g.item (right_fits n.objects a.objects c.objects two) in
            let e = length-append a.objects c.objects in
            let j = messages_have class there side code scopes (behind (behind n a) c) cascade (omega (arith, last, e)) in
            record {
              item = assigned_has class side code scopes targets (with_cascade c.item ms.item) (cascade_has c.item ms.item i.item j.item);
              bodies = bodies_append (a.bodies ++ c.bodies) ms.bodies (bodies_append a.bodies c.bodies g.bodies i.bodies) j.bodies;
              objects = objects_append C low K (a.objects ++ c.objects) ms.objects (objects_append C low K a.objects c.objects g.objects i.objects) j.objects;
            }

        pub statements_have : (class : ℕ) → class < C → (side : Side) (code : ℕ) (scopes : List (List Text)) (n : Counts) (row : NamedStatements) → n.objects + length (statements_made (at class side code scopes) n row).objects ≤ K → Good (StatementsHave C low K V) (statements_made (at class side code scopes) n row)
        statements_have class there side code scopes n no_statements f = record { item = tt; bodies = tt; objects = tt }
        statements_have class there side code scopes n (more_statements returns e row) f =
            let x = at class side code scopes in
            let a = expr_made x n e in
            let rest = statements_made x (behind n a) row in
            let g = expr_has class there side code scopes n e (left_fits n.objects a.objects rest.objects f) in
            let i = statements_have class there side code scopes (behind n a) row (right_fits n.objects a.objects rest.objects f) in
            record { item = statement_has returns a.item rest.item g.item i.item; bodies = bodies_append a.bodies rest.bodies g.bodies i.bodies; objects = objects_append C low K a.objects rest.objects g.objects i.objects }
