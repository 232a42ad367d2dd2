-- The objects of a program's literals are of classes whose slots are free.
use Rattle.std.proofs.Common.{◌≡◌, ℕ, ◌<◌, arith, zero, suc, ◌+◌, map, length, get_or, List, [], ◌∷◌, ◌++◌, Option, Some, None, false, refl}
use Rattle.object_heap.specs.Store.{Store, Object as HeapObject, no_object}
use Rattle.st_base.specs.Troubles.{trouble_texts}
use Rattle.st_code.specs.Named.{Literal, NilLiteral, TrueLiteral, FalseLiteral, IntegerLiteral, CharacterLiteral, StringLiteral, SymbolLiteral, ArrayLiteral, Literals, no_literals, more_literals, NamedPrimary, NameOf, SelfName, SuperName, LiteralOf, BlockOf, ParenOf, NamedOperand, OperandOf, NamedOperands, no_operands, more_operands, NamedMessages, none_sent, then_sent, NamedExpr, ExprOf, NamedStatements, no_statements, more_statements}
use Rattle.st_code.specs.Program.{Program}
use Rattle.st_code.specs.Resolved.{Counts, behind, Context, inside, Receiver, one_sent, literal_made, literals_made, primary_made, chain_made, messages_made, args_made, operand_made, expr_made, statements_made, number_or_last}
use Rattle.st_code.specs.Texts.{Text}
use Rattle.st_code.specs.BuiltIns.{undefined_object_class}
use Rattle.st_code.specs.Definitions.{context, Defined, with_body, initialized, defined_unit, defined_units, or_zero}
use Rattle.st_code.specs.Literals.{literal_string, trouble_literals}
use Rattle.st_code.specs.Named.{NamedBody, NamedUnit, ClassUnit, GlobalUnit, PoolVariableUnit, InitializerUnit, PoolInitializerUnit, ProgramUnit, MethodUnit, ClassMethodUnit}
use Rattle.st_code.specs.Program.{Side, OfInstance, OfClass, Kind, InMethod, InInitializer, MethodRow, Initializer}
use Rattle.st_code.specs.Resolved.{Names, class_in}
use Rattle.law_values.specs.BuiltObjects.{BuiltObject}
use Rattle.law_values.proofs.BuiltObjects.{is_fixed, free_object, no_object_built}

-- neither of a class whose slots are bound, nor with a closure
pub record PlainObject (o : HeapObject) : Type 0 where
  pub loose : is_fixed o.class ≡ false
  pub none : o.closure ≡ None
  pub low : o.class < 30

abbrev pub AllPlain : List HeapObject → Type 0
AllPlain [] = Unit {0}
AllPlain (o ∷ objects) = PlainObject o × AllPlain objects

pub plain_append : (xs ys : List HeapObject) → AllPlain xs → AllPlain ys → AllPlain (xs ++ ys)
plain_append [] ys g h = h
plain_append (x ∷ xs) ys g h = (g.0, plain_append xs ys g.1 h)

mutual
  literal_plain : (names : List Text) (n : ℕ) (l : Literal) → AllPlain (literal_made names n l).objects
  literal_plain names n NilLiteral = tt
  literal_plain names n TrueLiteral = tt
  literal_plain names n FalseLiteral = tt
  literal_plain names n (IntegerLiteral i) = tt
  literal_plain names n (CharacterLiteral b) = tt
  literal_plain names n (StringLiteral t) = (record { loose = refl; none = refl; low = omega arith }, tt)
  literal_plain names n (SymbolLiteral t) = tt
  literal_plain names n (ArrayLiteral row) = (record { loose = refl; none = refl; low = omega arith }, literals_plain names (suc n) row)

  literals_plain : (names : List Text) (n : ℕ) (row : Literals) → AllPlain (literals_made names n row).objects
  literals_plain names n no_literals = tt
  literals_plain names n (more_literals l row) = let a = literal_made names n l in plain_append a.objects _ (literal_plain names n l) (literals_plain names (n + length a.objects) row)

mutual
  primary_plain : (x : Context) (n : Counts) (q : NamedPrimary) → AllPlain (primary_made x n q).objects
  primary_plain x n (NameOf t) = tt
  primary_plain x n SelfName = tt
  primary_plain x n SuperName = tt
  primary_plain x n (LiteralOf l) = literal_plain x.names.names n.objects l
  primary_plain x n (BlockOf parameters temporaries row) = statements_plain (inside x n.bodies (parameters ++ temporaries)) (record { bodies = suc n.bodies; objects = n.objects }) row
  primary_plain x n (ParenOf e) = expr_plain x n e

  chain_plain : (x : Context) (n : Counts) (r : Receiver) (row : NamedMessages) → AllPlain (chain_made x n r row).objects
  chain_plain x n r none_sent = tt
  chain_plain x n r (then_sent selector args row) =
      let b = args_made x n args in
      let one = one_sent r (number_or_last x.names.names selector) b.item in
      plain_append b.objects _ (args_plain x n args) (chain_plain x (behind n b) one.whole row)

  messages_plain : (x : Context) (n : Counts) (row : NamedMessages) → AllPlain (messages_made x n row).objects
  messages_plain x n none_sent = tt
  messages_plain x n (then_sent selector args row) = let b = args_made x n args in plain_append b.objects _ (args_plain x n args) (messages_plain x (behind n b) row)

  args_plain : (x : Context) (n : Counts) (row : NamedOperands) → AllPlain (args_made x n row).objects
  args_plain x n no_operands = tt
  args_plain x n (more_operands o row) = let b = operand_made x n o in plain_append b.objects _ (operand_plain x n o) (args_plain x (behind n b) row)

  operand_plain : (x : Context) (n : Counts) (o : NamedOperand) → AllPlain (operand_made x n o).objects
  operand_plain x n (OperandOf primary chain) = let b = primary_made x n primary in plain_append b.objects _ (primary_plain x n primary) (chain_plain x (behind n b) b.item chain)

  expr_plain : (x : Context) (n : Counts) (e : NamedExpr) → AllPlain (expr_made x n e).objects
  expr_plain x n (ExprOf targets (OperandOf primary chain) cascade) =
      let b = primary_made x n primary in
      let c = chain_made x (behind n b) b.item chain in
      plain_append (b.objects ++ c.objects) _ (plain_append b.objects c.objects (primary_plain x n primary) (chain_plain x (behind n b) b.item chain)) (messages_plain x (behind (behind n b) c) cascade)

  pub statements_plain : (x : Context) (n : Counts) (row : NamedStatements) → AllPlain (statements_made x n row).objects
  statements_plain x n no_statements = tt
  statements_plain x n (more_statements returns e row) = let b = expr_made x n e in plain_append b.objects _ (expr_plain x n e) (statements_plain x (behind n b) row)

-- ---- unit by unit

module _ (X : Names) where
  body_plain : (class : ℕ) (side : Side) (kind : Kind) (parameters : List Text) (b : NamedBody) (d : Defined) (methods : List MethodRow) (initializers : List Initializer) → AllPlain d.objects → AllPlain (with_body X class side kind parameters b d methods initializers).objects
  body_plain class side kind parameters b d methods initializers h =
      let k = length d.bodies in
      let variables = parameters ++ b.temporaries in
      plain_append d.objects _ h (statements_plain (inside (context X class side k) k variables) (record { bodies = suc k; objects = length d.objects }) b.statements)

  initialized_plain : (o : Option ℕ) (target : Text) (b : NamedBody) (d : Defined) → AllPlain d.objects → AllPlain (initialized X o target b d).objects
  initialized_plain (Some class) target b d h = body_plain class OfClass InInitializer [] b d [] [] h
  initialized_plain None target b d h = body_plain undefined_object_class OfInstance InInitializer [] b d [] [] h

  unit_plain : (u : NamedUnit) (d : Defined) → AllPlain d.objects → AllPlain (defined_unit X u d).objects
  unit_plain (InitializerUnit target b) d h = initialized_plain (class_in 0 X.classes target) target b d h
  unit_plain (PoolInitializerUnit pool name b) d h = body_plain undefined_object_class OfInstance InInitializer [] b d [] [] h
  unit_plain (ProgramUnit b) d h = body_plain undefined_object_class OfInstance InInitializer [] b d [] [] h
  unit_plain (MethodUnit class m) d h = body_plain (or_zero (class_in 0 X.classes class)) OfInstance InMethod m.parameters m.body d [] [] h
  unit_plain (ClassMethodUnit class m) d h = body_plain (or_zero (class_in 0 X.classes class)) OfClass InMethod m.parameters m.body d [] [] h
  unit_plain (ClassUnit c) d h = h
  unit_plain (GlobalUnit name) d h = h
  unit_plain (PoolVariableUnit pool name) d h = h

  pub units_plain : (units : List NamedUnit) (d : Defined) → AllPlain d.objects → AllPlain (defined_units X units d).objects
  units_plain [] d h = h
  units_plain (u ∷ units) d h = units_plain units (defined_unit X u d) (unit_plain u d h)

texts_plain : (texts : List Text) → AllPlain (map literal_string texts)
texts_plain [] = tt
texts_plain (t ∷ texts) = (record { loose = refl; none = refl; low = omega arith }, texts_plain texts)

pub troubles_plain : AllPlain trouble_literals
unfolding trouble_literals
troubles_plain = texts_plain trouble_texts

-- ---- the store that a run begins with

pub built_of : (p : Program) (s : Store) → 29 < length p.classes → (objects : List HeapObject) → AllPlain objects → (n : ℕ) → BuiltObject p s (get_or objects n no_object)
built_of p s l [] h n = no_object_built p s (omega (arith, l))
built_of p s l (o ∷ objects) h zero = let k = h.0.low in free_object p s o h.0.loose h.0.none (omega (arith, k, l))
built_of p s l (o ∷ objects) h (suc n) = built_of p s l objects h.1 n
