-- What resolution makes of a tree has at most three instructions for each of the tree's moves, and so have the bodies of its blocks.
use Rattle.std.proofs.Common.{◌≡◌, ℕ, suc, ◌+◌, ◌*◌, ◌≤◌, length, List, [], ◌∷◌, ◌++◌, Option, Some, None, Bool, true, false, refl, ap, subst, arith, if◌then◌else◌}
use Rattle.st_code.specs.BuiltIns.{undefined_object_class}
use Rattle.st_code.specs.Code.{code_body}
use Rattle.st_code.specs.Definitions.{context, names_of, or_zero, Defined, nothing_defined, with_body, initialized, defined_unit, defined_units, program_of, RunLimits}
use Rattle.st_code.specs.Named.{Literal, NilLiteral, TrueLiteral, FalseLiteral, IntegerLiteral, CharacterLiteral, StringLiteral, SymbolLiteral, ArrayLiteral, NamedPrimary, NameOf, SelfName, SuperName, LiteralOf, BlockOf, ParenOf, NamedOperand, OperandOf, NamedOperands, no_operands, more_operands, NamedMessages, none_sent, then_sent, NamedExpr, ExprOf, NamedStatements, no_statements, more_statements, NamedBody, NamedUnit, ClassUnit, GlobalUnit, PoolVariableUnit, InitializerUnit, PoolInitializerUnit, ProgramUnit, MethodUnit, ClassMethodUnit}
use Rattle.st_code.specs.Program.{Tree, Trees, Messages, no_messages, more_messages, Statement, Plain, Return, Body, Side, OfInstance, OfClass, Kind, InBlock, InMethod, InInitializer}
use Rattle.st_code.specs.Resolved.{Names, Meant, At, Value', Made, Counts, behind, Context, tree_of, named, assigned, inside, Receiver, ToTree, ToSuper, sent, receiver_tree, cascaded, Chain, one_sent, with_cascade, literal_made, primary_made, chain_made, messages_made, args_made, operand_made, expr_made, statements_made, number_or_last, class_in}
use Rattle.st_code.specs.Texts.{Text}
use Rattle.st_sends.specs.Fitting.{StandsBehind, PrimaryFits, OperandFits, OperandsFit, MessagesFit, ExprFits, StatementsFit, UnitFits, UnitsFit}
use Rattle.st_sizes.proofs.CodeLengths.{tree_cost, trees_cost, messages_cost, statements_cost, body_long}
use Rattle.st_sizes.proofs.Moves.{primary_moves, operand_moves, operands_moves, messages_moves, expr_moves, statements_moves}

-- ---- receivers and chains

abbrev receiver_cost : Receiver → ℕ
receiver_cost (ToTree t) = tree_cost t
receiver_cost ToSuper = 1

receiver_is : (r : Receiver) → tree_cost (receiver_tree r) ≡ receiver_cost r
receiver_is (ToTree t) = refl
receiver_is ToSuper = refl

sent_is : (r : Receiver) (selector : ℕ) (args : Trees) → tree_cost (sent r selector args) ≡ receiver_cost r + suc (trees_cost args)
sent_is (ToTree t) selector args = refl
sent_is ToSuper selector args = omega arith

cascaded_is : (r : Receiver) (row : Messages) → tree_cost (cascaded r row) ≡ receiver_cost r + messages_cost row
cascaded_is (ToTree t) row = refl
cascaded_is ToSuper row = omega arith

tree_is : (m : Meant) → tree_cost (tree_of m) ≡ 1
tree_is (At place) = refl
tree_is (Value' v) = refl

assigned_is : (x : Context) (targets : List Text) (t : Tree) → tree_cost (assigned x targets t) ≡ length targets + tree_cost t
assigned_is x [] t = omega arith
assigned_is x (target ∷ targets) t = let h = assigned_is x targets t in omega (arith, h)

-- there is a message
abbrev Some' : Messages → Type 0
Some' no_messages = ⊥
Some' (more_messages selector args row) = Unit {0}

-- what a chain to a receiver of this cost is: as a whole, and, where it has a message, with one more to its last receiver
abbrev pub ChainShort : ℕ → NamedMessages → Chain → Type 0
ChainShort cost none_sent c = receiver_cost c.whole ≤ cost
ChainShort cost (then_sent selector args row) c = (receiver_cost c.whole ≤ cost + 3 * messages_moves (then_sent selector args row)) × (receiver_cost c.before + (3 + trees_cost c.args) ≤ cost + 3 * messages_moves (then_sent selector args row))

whole_short : (cost : ℕ) (chain : NamedMessages) (c : Chain) → ChainShort cost chain c → receiver_cost c.whole ≤ cost + 3 * messages_moves chain
whole_short cost none_sent c h = omega (arith, h)
whole_short cost (then_sent selector args row) c h = h.0

cascade_short : (cost : ℕ) (chain cascade : NamedMessages) (c : Chain) (messages : Messages) → StandsBehind chain cascade → (cascade ≡ none_sent → messages ≡ no_messages) → ChainShort cost chain c → messages_cost messages ≤ 3 * messages_moves cascade → tree_cost (with_cascade c messages) ≤ cost + 3 * messages_moves chain + 3 * messages_moves cascade
cascade_short cost chain cascade c no_messages b e h i = let r = receiver_is c.whole in let w = whole_short cost chain c h in omega (arith, r, w)
cascade_short cost (then_sent s a row) cascade c (more_messages selector args ms) b e h i =
    let r = cascaded_is c.before (more_messages c.selector c.args (more_messages selector args ms)) in
    let w = h.1 in omega (arith, r, w, i)
cascade_short cost none_sent none_sent c (more_messages selector args ms) b e h i = absurd (subst Some' (e refl) tt)
cascade_short cost none_sent (then_sent s a row) c (more_messages selector args ms) b e h i = absurd b

statement_short : (b : Bool) (t : Tree) (row : List Statement) → statements_cost ((if b then Return t else Plain t) ∷ row) ≡ suc (tree_cost t + statements_cost row)
statement_short true t row = refl
statement_short false t row = refl

module _ (most : ℕ) where
  abbrev pub BodiesShort : List Body → Type 0
  BodiesShort [] = Unit {0}
  BodiesShort (b ∷ bodies) = (length (code_body b.kind b.statements) ≤ 3 * most + 2) × BodiesShort bodies

  bodies_append : (xs ys : List Body) → BodiesShort xs → BodiesShort ys → BodiesShort (xs ++ ys)
  bodies_append [] ys g h = h
  bodies_append (x ∷ xs) ys g h = (g.0, bodies_append xs ys g.1 h)

  record Short {A : Type 0} (P : A → Type 0) (a : Made A) : Type 0 where
    pub item : P a.item
    pub bodies : BodiesShort a.bodies

  abbrev ReceiverShort : ℕ → Receiver → Type 0
  ReceiverShort n r = receiver_cost r ≤ 3 * n

  abbrev TreeShort : ℕ → Tree → Type 0
  TreeShort n t = tree_cost t ≤ 3 * n

  abbrev TreesShort : ℕ → Trees → Type 0
  TreesShort n row = trees_cost row ≤ 3 * n

  abbrev MessagesShort : ℕ → Messages → Type 0
  MessagesShort n row = messages_cost row ≤ 3 * n

  abbrev StatementsShort : ℕ → List Statement → Type 0
  StatementsShort n row = statements_cost row ≤ 3 * n

  literal_bodies : (names : List Text) (n : ℕ) (l : Literal) → BodiesShort (literal_made names n l).bodies
  literal_bodies names n NilLiteral = tt
  literal_bodies names n TrueLiteral = tt
  literal_bodies names n FalseLiteral = tt
  literal_bodies names n (IntegerLiteral i) = tt
  literal_bodies names n (CharacterLiteral b) = tt
  literal_bodies names n (StringLiteral t) = tt
  literal_bodies names n (SymbolLiteral t) = tt
  literal_bodies names n (ArrayLiteral row) = tt

  -- a body of so few statements
  body_short : (kind : Kind) (row : List Statement) (n : ℕ) → statements_cost row ≤ 3 * n → n ≤ most → length (code_body kind row) ≤ 3 * most + 2
  body_short kind row n h l = let b = body_long kind row in omega (arith, b, h, l)

  mutual
    primary_short : (x : Context) (n : Counts) (q : NamedPrimary) → PrimaryFits q → primary_moves q ≤ most → Short (ReceiverShort (primary_moves q)) (primary_made x n q)
    primary_short x n (NameOf t) f l = record { item = let e = tree_is (named x t) in omega (arith, e); bodies = tt }
    primary_short x n SelfName f l = record { item = omega arith; bodies = tt }
    primary_short x n SuperName f l = record { item = omega arith; bodies = tt }
    primary_short x n (LiteralOf l) f m = record { item = omega arith; bodies = literal_bodies x.names.names n.objects l }
    primary_short x n (BlockOf parameters temporaries row) f l =
        let a = statements_made (inside x n.bodies (parameters ++ temporaries)) (record { bodies = suc n.bodies; objects = n.objects }) row in
        let g = statements_short (inside x n.bodies (parameters ++ temporaries)) (record { bodies = suc n.bodies; objects = n.objects }) row f (omega (arith, l)) in
        record { item = omega arith; bodies = (body_short InBlock a.item (statements_moves row) g.item (omega (arith, l)), g.bodies) }
    primary_short x n (ParenOf e) f l = let g = expr_short x n e f l in record { item = g.item; bodies = g.bodies }

    chain_short : (x : Context) (n : Counts) (r : Receiver) (row : NamedMessages) → MessagesFit row → messages_moves row ≤ most → Short (ChainShort (receiver_cost r) row) (chain_made x n r row)
    chain_short x n r none_sent f l = record { item = omega arith; bodies = tt }
    chain_short x n r (then_sent selector args none_sent) f l =
        let b = args_made x n args in
        let g = args_short x n args f.1 (omega (arith, l)) in
        let i = g.item in
        let s = sent_is r (number_or_last x.names.names selector) b.item in
        record { item = (omega (arith, i, s), omega (arith, i)); bodies = bodies_append b.bodies [] g.bodies tt }
    chain_short x n r (then_sent selector args (then_sent t a row)) f l =
        let b = args_made x n args in
        let one = one_sent r (number_or_last x.names.names selector) b.item in
        let rest = chain_made x (behind n b) one.whole (then_sent t a row) in
        let g = args_short x n args f.1 (omega (arith, l)) in
        let h = chain_short x (behind n b) one.whole (then_sent t a row) f.2 (omega (arith, l)) in
        let i = g.item in
        let s = sent_is r (number_or_last x.names.names selector) b.item in
        let j = h.item.0 in
        let k = h.item.1 in
        record { item = (omega (arith, i, s, j), omega (arith, i, s, k)); bodies = bodies_append b.bodies rest.bodies g.bodies h.bodies }

    messages_short : (x : Context) (n : Counts) (row : NamedMessages) → MessagesFit row → messages_moves row ≤ most → Short (MessagesShort (messages_moves row)) (messages_made x n row)
    messages_short x n none_sent f l = record { item = omega arith; bodies = tt }
    messages_short x n (then_sent selector args row) f l =
        let b = args_made x n args in
        let rest = messages_made x (behind n b) row in
        let g = args_short x n args f.1 (omega (arith, l)) in
        let h = messages_short x (behind n b) row f.2 (omega (arith, l)) in
        let i = g.item in
        let j = h.item in
        record { item = omega (arith, i, j); bodies = bodies_append b.bodies rest.bodies g.bodies h.bodies }

    args_short : (x : Context) (n : Counts) (row : NamedOperands) → OperandsFit row → operands_moves row ≤ most → Short (TreesShort (operands_moves row)) (args_made x n row)
    args_short x n no_operands f l = record { item = omega arith; bodies = tt }
    args_short x n (more_operands o row) f l =
        let b = operand_made x n o in
        let rest = args_made x (behind n b) row in
        let g = operand_short x n o f.0 (omega (arith, l)) in
        let h = args_short x (behind n b) row f.1 (omega (arith, l)) in
        let i = g.item in
        let j = h.item in
        record { item = omega (arith, i, j); bodies = bodies_append b.bodies rest.bodies g.bodies h.bodies }

    operand_short : (x : Context) (n : Counts) (o : NamedOperand) → OperandFits o → operand_moves o ≤ most → Short (TreeShort (operand_moves o)) (operand_made x n o)
    operand_short x n (OperandOf primary chain) f l =
        let b = primary_made x n primary in
        let rest = chain_made x (behind n b) b.item chain in
        let g = primary_short x n primary f.0 (omega (arith, l)) in
        let h = chain_short x (behind n b) b.item chain f.1 (omega (arith, l)) in
        let i = g.item in
        let w = whole_short (receiver_cost b.item) chain rest.item h.item in
        let r = receiver_is rest.item.whole in
        record { item = omega (arith, i, w, r); bodies = bodies_append b.bodies rest.bodies g.bodies h.bodies }

    expr_short : (x : Context) (n : Counts) (e : NamedExpr) → ExprFits e → expr_moves e ≤ most → Short (TreeShort (expr_moves e)) (expr_made x n e)
    expr_short x n (ExprOf targets (OperandOf primary chain) cascade) f l =
        let b = primary_made x n primary in
        let c = chain_made x (behind n b) b.item chain in
        let ms = messages_made x (behind (behind n b) c) cascade in
        let g = primary_short x n primary f.0 (omega (arith, l)) in
        let h = chain_short x (behind n b) b.item chain f.1 (omega (arith, l)) in
        let j = messages_short x (behind (behind n b) c) cascade f.2 (omega (arith, l)) in
        let i = g.item in
        let w = cascade_short (receiver_cost b.item) chain cascade c.item ms.item f.3 (λ k. ap (λ row. (messages_made x (behind (behind n b) c) row).item) k) h.item j.item in
        let a = assigned_is x targets (with_cascade c.item ms.item) in
        record {
          item = omega (arith, i, w, a);
          bodies = bodies_append (b.bodies ++ c.bodies) ms.bodies (bodies_append b.bodies c.bodies g.bodies h.bodies) j.bodies;
        }

    statements_short : (x : Context) (n : Counts) (row : NamedStatements) → StatementsFit row → statements_moves row ≤ most → Short (StatementsShort (statements_moves row)) (statements_made x n row)
    statements_short x n no_statements f l = record { item = omega arith; bodies = tt }
    statements_short x n (more_statements returns e row) f l =
        let b = expr_made x n e in
        let rest = statements_made x (behind n b) row in
        let g = expr_short x n e f.0 (omega (arith, l)) in
        let h = statements_short x (behind n b) row f.1 (omega (arith, l)) in
        let i = g.item in
        let j = h.item in
        let s = statement_short returns b.item rest.item in
        record { item = omega (arith, i, j, s); bodies = bodies_append b.bodies rest.bodies g.bodies h.bodies }

  -- ---- unit by unit

  abbrev pub UnitShort : NamedUnit → Type 0
  UnitShort (InitializerUnit target b) = statements_moves b.statements ≤ most
  UnitShort (PoolInitializerUnit pool name b) = statements_moves b.statements ≤ most
  UnitShort (ProgramUnit b) = statements_moves b.statements ≤ most
  UnitShort (MethodUnit class m) = statements_moves m.body.statements ≤ most
  UnitShort (ClassMethodUnit class m) = statements_moves m.body.statements ≤ most
  UnitShort u = Unit {0}

  abbrev pub UnitsShort : List NamedUnit → Type 0
  UnitsShort [] = Unit {0}
  UnitsShort (u ∷ units) = UnitShort u × UnitsShort units

  module _ (X : Names) where
    unit_body : (class : ℕ) (side : Side) (kind : Kind) (parameters : List Text) (b : NamedBody) (d : Defined) → StatementsFit b.statements → statements_moves b.statements ≤ most → BodiesShort d.bodies → BodiesShort (with_body X class side kind parameters b d [] []).bodies
    unit_body class side kind parameters b d f l h =
        let k = length d.bodies in
        let x = inside (context X class side k) k (parameters ++ b.temporaries) in
        let g = statements_short x (record { bodies = suc k; objects = length d.objects }) b.statements f l in
        bodies_append d.bodies _ h (body_short kind (statements_made x (record { bodies = suc k; objects = length d.objects }) b.statements).item (statements_moves b.statements) g.item l, g.bodies)

    initialized_short : (o : Option ℕ) (target : Text) (b : NamedBody) (d : Defined) → StatementsFit b.statements → statements_moves b.statements ≤ most → BodiesShort d.bodies → BodiesShort (initialized X o target b d).bodies
    initialized_short (Some class) target b d f l h = unit_body class OfClass InInitializer [] b d f l h
    initialized_short None target b d f l h = unit_body undefined_object_class OfInstance InInitializer [] b d f l h

    unit_short : (u : NamedUnit) (d : Defined) → UnitFits u → UnitShort u → BodiesShort d.bodies → BodiesShort (defined_unit X u d).bodies
    unit_short (InitializerUnit target b) d f l h = initialized_short (class_in 0 X.classes target) target b d f l h
    unit_short (PoolInitializerUnit pool name b) d f l h = unit_body undefined_object_class OfInstance InInitializer [] b d f l h
    unit_short (ProgramUnit b) d f l h = unit_body undefined_object_class OfInstance InInitializer [] b d f l h
    unit_short (MethodUnit class m) d f l h = unit_body (or_zero (class_in 0 X.classes class)) OfInstance InMethod m.parameters m.body d f l h
    unit_short (ClassMethodUnit class m) d f l h = unit_body (or_zero (class_in 0 X.classes class)) OfClass InMethod m.parameters m.body d f l h
    unit_short (ClassUnit c) d f l h = h
    unit_short (GlobalUnit name) d f l h = h
    unit_short (PoolVariableUnit pool name) d f l h = h

    units_short : (units : List NamedUnit) (d : Defined) → UnitsFit units → UnitsShort units → BodiesShort d.bodies → BodiesShort (defined_units X units d).bodies
    units_short [] d f l h = h
    units_short (u ∷ units) d f l h = units_short units (defined_unit X u d) f.1 l.1 (unit_short u d f.0 l.0 h)

  pub program_bodies : (names : List Text) (units : List NamedUnit) (limits : RunLimits) → UnitsFit units → UnitsShort units → BodiesShort (program_of names units limits).bodies
  unfolding program_of
  program_bodies names units limits f l = units_short (names_of names units) units nothing_defined f l tt
