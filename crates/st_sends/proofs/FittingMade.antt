-- What resolution makes of trees sends with as many arguments as selectors take, where the trees do; and so does the program of such units.
use Rattle.std.proofs.Common.{◌≡◌, ℕ, zero, suc, ◌-◌, ◌≤◌, ◌⊎◌, inl, inr, length, get_or, List, [], ◌∷◌, ◌++◌, Option, Some, None, Bool, true, false, refl, sym, ap, ◌∙◌, subst, arith, if◌then◌else◌}
use Rattle.st_code.specs.BuiltIns.{undefined_object_class}
use Rattle.st_code.specs.Code.{count_of}
use Rattle.st_code.specs.Definitions.{context, names_of, or_zero, Defined, nothing_defined, with_body, initialized, defined_unit, defined_units, program_of}
use Rattle.st_code.specs.Named.{Literal, NilLiteral, TrueLiteral, FalseLiteral, IntegerLiteral, CharacterLiteral, StringLiteral, SymbolLiteral, ArrayLiteral, NamedPrimary, NameOf, SelfName, SuperName, LiteralOf, BlockOf, ParenOf, NamedOperand, OperandOf, NamedOperands, no_operands, more_operands, NamedMessages, none_sent, then_sent, NamedExpr, ExprOf, NamedStatements, no_statements, more_statements, NamedBody, NamedUnit, ClassUnit, GlobalUnit, PoolVariableUnit, InitializerUnit, PoolInitializerUnit, ProgramUnit, MethodUnit, ClassMethodUnit}
use Rattle.st_code.specs.Program.{Program, Tree, Trees, Messages, no_messages, more_messages, Statement, Plain, Return, Side, OfInstance, OfClass, Kind, InMethod, InInitializer, name_at}
use Rattle.st_code.specs.Resolved.{Names, Meant, At, Value', Made, Counts, behind, Context, tree_of, named, assigned, inside, text_in, Receiver, ToTree, ToSuper, sent, receiver_tree, cascaded, Chain, one_sent, with_cascade, literal_made, primary_made, chain_made, messages_made, args_made, operand_made, expr_made, statements_made, number_or_last, class_in}
use Rattle.st_code.specs.Texts.{Text, arity, same_text}
use Rattle.st_rules.proofs.SoundNames.{same_is}
use Rattle.st_sends.specs.Arguments.{Takes}
use Rattle.st_sends.specs.Fitting.{operand_count, StandsBehind, PrimaryFits, OperandFits, OperandsFit, MessagesFit, ExprFits, StatementsFit, UnitFits, UnitsFit, ProgramsKnowSelectors}
use Rattle.st_sends.proofs.FittingTrees.{TreeTakes, TreesTake, MessagesTake, StatementsTake, BodiesTake, bodies_append, code_takes_at}

-- ---- the number of a selector

abbrev Numbers : List Text → Text → ℕ → Option ℕ → Type 0
Numbers names t n None = Unit {0}
Numbers names t n (Some k) = (n ≤ k) × (get_or names (k - n) [] ≡ t)

numbered : (names : List Text) (t : Text) (n : ℕ) → Numbers names t n (text_in n names t)
numbered [] t n = tt
numbered (u ∷ names) t n = go (same_text u t) refl (text_in (suc n) names t) (numbered names t (suc n))
  where
    later : (o : Option ℕ) → Numbers names t (suc n) o → Numbers (u ∷ names) t n o
    later None h = tt
    later (Some k) h = let l = h.0 in let z : k - n ≡ suc (k - suc n) = omega (arith, l) in (omega (arith, l), ap (λ i. get_or (u ∷ names) i []) z ∙ h.1)

    go : (b : Bool) → same_text u t ≡ b → (o : Option ℕ) → Numbers names t (suc n) o → Numbers (u ∷ names) t n (elim b [ true ↦ Some n | false ↦ o ])
    go true e o h = (omega arith, let z : n - n ≡ 0 = omega arith in ap (λ k. get_or (u ∷ names) k []) z ∙ same_is u t e)
    go false e o h = later o h

past_names : (names : List Text) (k : ℕ) → length names ≤ k → get_or names k [] ≡ []
past_names [] k l = refl
past_names (t ∷ names) zero l = let none : ⊥ = omega (arith, l) in absurd none
past_names (t ∷ names) (suc k) l = past_names names k (omega (arith, l))

takes_numbered : (p : Program) (names : List Text) (t : Text) (count : ℕ) → names ≡ p.names → count ≡ arity t → Takes p (number_or_last names t) count
unfolding name_at
takes_numbered p names t count e f = subst (λ ns. (count ≡ arity (get_or ns (number_or_last names t) [])) ⊎ (get_or ns (number_or_last names t) [] ≡ [])) e (go (text_in 0 names t) (numbered names t 0))
  where
    go : (o : Option ℕ) → Numbers names t 0 o → (count ≡ arity (get_or names (elim o [ Some n ↦ n | None ↦ length names ]) [])) ⊎ (get_or names (elim o [ Some n ↦ n | None ↦ length names ]) [] ≡ [])
    go None h = inr (past_names names (length names) (omega arith))
    go (Some k) h = let z : k - 0 ≡ k = omega arith in inl (f ∙ ap arity (sym (ap (λ i. get_or names i []) (sym z) ∙ h.1)))

-- there is a message
abbrev Some' : Messages → Type 0
Some' no_messages = ⊥
Some' (more_messages selector args row) = Unit {0}

module _ (p : Program) where
  pub record Good {A : Type 0} (P : A → Type 0) (a : Made A) : Type 0 where
    pub item : P a.item
    pub bodies : BodiesTake p a.bodies

  tree_takes : (m : Meant) → TreeTakes p (tree_of m)
  tree_takes (At place) = tt
  tree_takes (Value' v) = tt

  assigned_takes : (x : Context) (names : List Text) (t : Tree) → TreeTakes p t → TreeTakes p (assigned x names t)
  assigned_takes x [] t h = h
  assigned_takes x (name ∷ names) t h = assigned_takes x names t h

  abbrev ReceiverTakes : Receiver → Type 0
  ReceiverTakes (ToTree t) = TreeTakes p t
  ReceiverTakes ToSuper = Unit {0}

  receiver_takes : (r : Receiver) → ReceiverTakes r → TreeTakes p (receiver_tree r)
  receiver_takes (ToTree t) h = h
  receiver_takes ToSuper h = tt

  sent_takes : (r : Receiver) (selector : ℕ) (args : Trees) → ReceiverTakes r → Takes p selector (count_of args) → TreesTake p args → TreeTakes p (sent r selector args)
  sent_takes (ToTree t) selector args h e i = (e, h, i)
  sent_takes ToSuper selector args h e i = (e, i)

  cascaded_takes : (r : Receiver) (messages : Messages) → ReceiverTakes r → MessagesTake p messages → TreeTakes p (cascaded r messages)
  cascaded_takes (ToTree t) row h i = (h, i)
  cascaded_takes ToSuper row h i = i

  -- the last message of a chain, if it has one
  abbrev LastTakes : NamedMessages → Chain → Type 0
  LastTakes none_sent c = Unit {0}
  LastTakes (then_sent selector args row) c = Takes p c.selector (count_of c.args)

  abbrev ChainTakes : NamedMessages → Chain → Type 0
  ChainTakes chain c = ReceiverTakes c.whole × ReceiverTakes c.before × TreesTake p c.args × LastTakes chain c

  -- the messages of a cascade, if it has one
  cascade_takes : (chain cascade : NamedMessages) (c : Chain) (messages : Messages) → StandsBehind chain cascade → (cascade ≡ none_sent → messages ≡ no_messages) → ChainTakes chain c → MessagesTake p messages → TreeTakes p (with_cascade c messages)
  cascade_takes chain cascade c no_messages b e h i = receiver_takes c.whole h.0
  cascade_takes (then_sent s a row) cascade c (more_messages selector args ms) b e h i = cascaded_takes c.before (more_messages c.selector c.args (more_messages selector args ms)) h.1 (h.3, h.2, i)
  cascade_takes none_sent none_sent c (more_messages selector args ms) b e h i = absurd (subst Some' (e refl) tt)
  cascade_takes none_sent (then_sent s a row) c (more_messages selector args ms) b e h i = absurd b

  pick_takes : (chain : NamedMessages) (b : Bool) (c d : Chain) → ChainTakes chain c → ChainTakes chain d → ChainTakes chain (if b then c else d)
  pick_takes chain true c d h i = h
  pick_takes chain false c d h i = i

  statement_takes : (b : Bool) (t : Tree) (row : List Statement) → TreeTakes p t → StatementsTake p row → StatementsTake p ((if b then Return t else Plain t) ∷ row)
  statement_takes true t row h i = (h, i)
  statement_takes false t row h i = (h, i)

  literal_bodies : (names : List Text) (n : ℕ) (l : Literal) → BodiesTake p (literal_made names n l).bodies
  literal_bodies names n NilLiteral = tt
  literal_bodies names n TrueLiteral = tt
  literal_bodies names n FalseLiteral = tt
  literal_bodies names n (IntegerLiteral i) = tt
  literal_bodies names n (CharacterLiteral b) = tt
  literal_bodies names n (StringLiteral t) = tt
  literal_bodies names n (SymbolLiteral t) = tt
  literal_bodies names n (ArrayLiteral row) = tt

  count_made : (x : Context) (n : Counts) (row : NamedOperands) → count_of (args_made x n row).item ≡ operand_count row
  count_made x n no_operands = refl
  count_made x n (more_operands o row) = ap suc (count_made x (behind n (operand_made x n o)) row)

  -- a selector of the context with its arguments
  selector_takes : (x : Context) (n : Counts) (selector : Text) (args : NamedOperands) → x.names.names ≡ p.names → operand_count args ≡ arity selector → Takes p (number_or_last x.names.names selector) (count_of (args_made x n args).item)
  selector_takes x n selector args e f = takes_numbered p x.names.names selector (count_of (args_made x n args).item) e (count_made x n args ∙ f)

  mutual
    primary_takes : (x : Context) (n : Counts) (q : NamedPrimary) → x.names.names ≡ p.names → PrimaryFits q → Good ReceiverTakes (primary_made x n q)
    primary_takes x n (NameOf t) e f = record { item = tree_takes (named x t); bodies = tt }
    primary_takes x n SelfName e f = record { item = tt; bodies = tt }
    primary_takes x n SuperName e f = record { item = tt; bodies = tt }
    primary_takes x n (LiteralOf l) e f = record { item = tt; bodies = literal_bodies x.names.names n.objects l }
    primary_takes x n (BlockOf parameters temporaries row) e f =
        let g = statements_take (inside x n.bodies (parameters ++ temporaries)) (record { bodies = suc n.bodies; objects = n.objects }) row e f in record { item = tt; bodies = (g.item, g.bodies) }
    primary_takes x n (ParenOf ex) e f = let g = expr_takes x n ex e f in record { item = g.item; bodies = g.bodies }

    chain_takes : (x : Context) (n : Counts) (r : Receiver) (row : NamedMessages) → x.names.names ≡ p.names → ReceiverTakes r → MessagesFit row → Good (ChainTakes row) (chain_made x n r row)
    chain_takes x n r none_sent e h f = record { item = (h, h, tt, tt); bodies = tt }
    chain_takes x n r (then_sent selector args none_sent) e h f =
        let b = args_made x n args in
        let t = selector_takes x n selector args e f.0 in
        let g = args_take x n args e f.1 in
        record { item = (sent_takes r (number_or_last x.names.names selector) b.item h t g.item, h, g.item, t); bodies = bodies_append p b.bodies [] g.bodies tt }
    chain_takes x n r (then_sent selector args (then_sent s a row)) e h f =
        let b = args_made x n args in
        let one = one_sent r (number_or_last x.names.names selector) b.item in
        let rest = chain_made x (behind n b) one.whole (then_sent s a row) in
        let g = args_take x n args e f.1 in
        let whole = sent_takes r (number_or_last x.names.names selector) b.item h (selector_takes x n selector args e f.0) g.item in
        let i = chain_takes x (behind n b) one.whole (then_sent s a row) e whole f.2 in
        record { item = i.item; bodies = bodies_append p b.bodies rest.bodies g.bodies i.bodies }

    messages_take : (x : Context) (n : Counts) (row : NamedMessages) → x.names.names ≡ p.names → MessagesFit row → Good (MessagesTake p) (messages_made x n row)
    messages_take x n none_sent e f = record { item = tt; bodies = tt }
    messages_take x n (then_sent selector args row) e f =
        let b = args_made x n args in
        let rest = messages_made x (behind n b) row in
        let g = args_take x n args e f.1 in
        let i = messages_take x (behind n b) row e f.2 in
        record { item = (selector_takes x n selector args e f.0, g.item, i.item); bodies = bodies_append p b.bodies rest.bodies g.bodies i.bodies }

    args_take : (x : Context) (n : Counts) (row : NamedOperands) → x.names.names ≡ p.names → OperandsFit row → Good (TreesTake p) (args_made x n row)
    args_take x n no_operands e f = record { item = tt; bodies = tt }
    args_take x n (more_operands o row) e f =
        let b = operand_made x n o in
        let rest = args_made x (behind n b) row in
        let g = operand_takes x n o e f.0 in
        let i = args_take x (behind n b) row e f.1 in
        record { item = (g.item, i.item); bodies = bodies_append p b.bodies rest.bodies g.bodies i.bodies }

    operand_takes : (x : Context) (n : Counts) (o : NamedOperand) → x.names.names ≡ p.names → OperandFits o → Good (TreeTakes p) (operand_made x n o)
    operand_takes x n (OperandOf primary chain) e f =
        let b = primary_made x n primary in
        let rest = chain_made x (behind n b) b.item chain in
        let g = primary_takes x n primary e f.0 in
        let i = chain_takes x (behind n b) b.item chain e g.item f.1 in
        record { item = receiver_takes rest.item.whole i.item.0; bodies = bodies_append p b.bodies rest.bodies g.bodies i.bodies }

    expr_takes : (x : Context) (n : Counts) (ex : NamedExpr) → x.names.names ≡ p.names → ExprFits ex → Good (TreeTakes p) (expr_made x n ex)
    expr_takes x n (ExprOf targets (OperandOf primary chain) cascade) e f =
        let b = primary_made x n primary in
        let c = chain_made x (behind n b) b.item chain in
        let ms = messages_made x (behind (behind n b) c) cascade in
        let g = primary_takes x n primary e f.0 in
        let i = chain_takes x (behind n b) b.item chain e g.item f.1 in
        let j = messages_take x (behind (behind n b) c) cascade e f.2 in
        record {
          item = assigned_takes x targets (with_cascade c.item ms.item) (cascade_takes chain cascade c.item ms.item f.3 (λ k. ap (λ row. (messages_made x (behind (behind n b) c) row).item) k) i.item j.item);
          bodies = bodies_append p (b.bodies ++ c.bodies) ms.bodies (bodies_append p b.bodies c.bodies g.bodies i.bodies) j.bodies;
        }

    statements_take : (x : Context) (n : Counts) (row : NamedStatements) → x.names.names ≡ p.names → StatementsFit row → Good (StatementsTake p) (statements_made x n row)
    statements_take x n no_statements e f = record { item = tt; bodies = tt }
    statements_take x n (more_statements returns ex row) e f =
        let b = expr_made x n ex in
        let rest = statements_made x (behind n b) row in
        let g = expr_takes x n ex e f.0 in
        let i = statements_take x (behind n b) row e f.1 in
        record { item = statement_takes returns b.item rest.item g.item i.item; bodies = bodies_append p b.bodies rest.bodies g.bodies i.bodies }

  -- ---- unit by unit

  module _ (X : Names) (e : X.names ≡ p.names) where
    body_takes : (class : ℕ) (side : Side) (kind : Kind) (parameters : List Text) (b : NamedBody) (d : Defined) → StatementsFit b.statements → BodiesTake p d.bodies → BodiesTake p (with_body X class side kind parameters b d [] []).bodies
    body_takes class side kind parameters b d f h =
        let k = length d.bodies in
        let g = statements_take (inside (context X class side k) k (parameters ++ b.temporaries)) (record { bodies = suc k; objects = length d.objects }) b.statements e f in
        bodies_append p d.bodies _ h (g.item, g.bodies)

    initialized_takes : (o : Option ℕ) (target : Text) (b : NamedBody) (d : Defined) → StatementsFit b.statements → BodiesTake p d.bodies → BodiesTake p (initialized X o target b d).bodies
    initialized_takes (Some class) target b d f h = body_takes class OfClass InInitializer [] b d f h
    initialized_takes None target b d f h = body_takes undefined_object_class OfInstance InInitializer [] b d f h

    unit_takes : (u : NamedUnit) (d : Defined) → UnitFits u → BodiesTake p d.bodies → BodiesTake p (defined_unit X u d).bodies
    unit_takes (InitializerUnit target b) d f h = initialized_takes (class_in 0 X.classes target) target b d f h
    unit_takes (PoolInitializerUnit pool name b) d f h = body_takes undefined_object_class OfInstance InInitializer [] b d f h
    unit_takes (ProgramUnit b) d f h = body_takes undefined_object_class OfInstance InInitializer [] b d f h
    unit_takes (MethodUnit class m) d f h = body_takes (or_zero (class_in 0 X.classes class)) OfInstance InMethod m.parameters m.body d f h
    unit_takes (ClassMethodUnit class m) d f h = body_takes (or_zero (class_in 0 X.classes class)) OfClass InMethod m.parameters m.body d f h
    unit_takes (ClassUnit c) d f h = h
    unit_takes (GlobalUnit name) d f h = h
    unit_takes (PoolVariableUnit pool name) d f h = h

    units_take : (units : List NamedUnit) (d : Defined) → UnitsFit units → BodiesTake p d.bodies → BodiesTake p (defined_units X units d).bodies
    units_take [] d f h = h
    units_take (u ∷ units) d f h = units_take units (defined_unit X u d) f.1 (unit_takes u d f.0 h)

pub programs_know_selectors : ProgramsKnowSelectors
unfolding program_of
programs_know_selectors names units limits f =
    let p = program_of names units limits in
    record { sends = code_takes_at p (units_take p (names_of names units) refl units nothing_defined f tt) }
