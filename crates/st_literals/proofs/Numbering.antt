-- The objects that a program defines are those of its literals, one behind the other.
use Rattle.std.proofs.Common.{◌≡◌, ℕ, suc, ◌+◌, List, [], ◌∷◌, ◌++◌, length, Option, Some, None, refl, ap, sym, ◌∙◌, arith, length-append}
use Rattle.std.proofs.lemmas.List.{append_assoc, append-nil}
use Rattle.object_heap.specs.Store.{Object}
use Rattle.st_tree.specs.declared.units.Unit.{Unit}
use Rattle.st_code.specs.Texts.{Text}
use Rattle.st_code.specs.Named.{Literal, NamedPrimary, NameOf, SelfName, SuperName, LiteralOf, BlockOf, ParenOf, NamedOperand, OperandOf, NamedOperands, no_operands, more_operands, NamedMessages, none_sent, then_sent, NamedExpr, ExprOf, NamedStatements, no_statements, more_statements, NamedBody, NamedUnit, ClassUnit, GlobalUnit, PoolVariableUnit, InitializerUnit, PoolInitializerUnit, ProgramUnit, MethodUnit, ClassMethodUnit}
use Rattle.st_code.specs.Written.{named_units}
use Rattle.st_code.specs.Resolved.{Names, Context, Counts, Made, Receiver, ToTree, inside, behind, literal_made, sent, number_or_last, primary_made, chain_made, messages_made, args_made, operand_made, expr_made, statements_made, class_in}
use Rattle.st_code.specs.Definitions.{Defined, nothing_defined, initialized, defined_unit, defined_units, RunLimits, program_of}
use Rattle.st_code.specs.Literals.{trouble_literals}
use Rattle.program_image.specs.Images.{image_names}
use Rattle.program_image.specs.Finding.{program_of_image}
use Rattle.st_literals.specs.Gathered.{primary_literals, operand_literals, operands_literals, messages_literals, expr_literals, statements_literals, unit_literals, units_literals}
use Rattle.st_literals.specs.Numbered.{objects_of, objects_from}

module _ (names : List Text) where
  pub from-append : (n : ℕ) (ls ms : List Literal) → objects_from names n (ls ++ ms) ≡ objects_from names n ls ++ objects_from names (n + length (objects_from names n ls)) ms
  from-append n [] ms = let e : n + 0 ≡ n = omega arith in ap (λ k. objects_from names k ms) (sym e)
  from-append n (l ∷ ls) ms =
      let os : List Object = objects_of names n l in
      let rest : List Object = objects_from names (n + length os) ls in
      let e : (n + length os) + length rest ≡ n + length (os ++ rest) = omega (arith, length-append os rest) in
      ap (λ (xs : List Object). os ++ xs) (from-append (n + length os) ls ms)
      ∙ sym (append_assoc os rest (objects_from names ((n + length os) + length rest) ms))
      ∙ ap (λ k. (os ++ rest) ++ objects_from names k ms) e

  -- the objects of one part, and those of the part behind it
  pub both-from : (n : ℕ) (ls ms : List Literal) (a b : List Object) → a ≡ objects_from names n ls → b ≡ objects_from names (n + length a) ms → a ++ b ≡ objects_from names n (ls ++ ms)
  both-from n ls ms a b is next =
      ap (λ (xs : List Object). a ++ xs) next ∙ ap (λ (xs : List Object). xs ++ objects_from names (n + length xs) ms) is ∙ sym (from-append n ls ms)

mutual
  primary-from : (x : Context) (n : Counts) (p : NamedPrimary) → (primary_made x n p).objects ≡ objects_from x.names.names n.objects (primary_literals p)
  primary-from x n (NameOf t) = refl
  primary-from x n SelfName = refl
  primary-from x n SuperName = refl
  primary-from x n (LiteralOf l) = sym (append-nil (literal_made x.names.names n.objects l).objects)
  primary-from x n (BlockOf parameters temporaries row) = statements-from (inside x n.bodies (parameters ++ temporaries)) (record { bodies = suc n.bodies; objects = n.objects }) row
  primary-from x n (ParenOf e) = expr-from x n e

  chain-from : (x : Context) (n : Counts) (r : Receiver) (ms : NamedMessages) → (chain_made x n r ms).objects ≡ objects_from x.names.names n.objects (messages_literals ms)
  chain-from x n r none_sent = refl
  chain-from x n r (then_sent selector args row) =
      both-from x.names.names n.objects (operands_literals args) (messages_literals row) (args_made x n args).objects (chain_made x (behind n (args_made x n args)) (ToTree (sent r (number_or_last x.names.names selector) (args_made x n args).item)) row).objects
      (args-from x n args) (chain-from x (behind n (args_made x n args)) (ToTree (sent r (number_or_last x.names.names selector) (args_made x n args).item)) row)

  messages-from : (x : Context) (n : Counts) (ms : NamedMessages) → (messages_made x n ms).objects ≡ objects_from x.names.names n.objects (messages_literals ms)
  messages-from x n none_sent = refl
  messages-from x n (then_sent selector args row) =
      both-from x.names.names n.objects (operands_literals args) (messages_literals row) (args_made x n args).objects (messages_made x (behind n (args_made x n args)) row).objects
      (args-from x n args) (messages-from x (behind n (args_made x n args)) row)

  args-from : (x : Context) (n : Counts) (os : NamedOperands) → (args_made x n os).objects ≡ objects_from x.names.names n.objects (operands_literals os)
  args-from x n no_operands = refl
  args-from x n (more_operands o row) =
      both-from x.names.names n.objects (operand_literals o) (operands_literals row) (operand_made x n o).objects (args_made x (behind n (operand_made x n o)) row).objects
      (operand-from x n o) (args-from x (behind n (operand_made x n o)) row)

  operand-from : (x : Context) (n : Counts) (o : NamedOperand) → (operand_made x n o).objects ≡ objects_from x.names.names n.objects (operand_literals o)
  operand-from x n (OperandOf primary chain) =
      both-from x.names.names n.objects (primary_literals primary) (messages_literals chain) (primary_made x n primary).objects (chain_made x (behind n (primary_made x n primary)) (primary_made x n primary).item chain).objects
      (primary-from x n primary) (chain-from x (behind n (primary_made x n primary)) (primary_made x n primary).item chain)

  expr-from : (x : Context) (n : Counts) (e : NamedExpr) → (expr_made x n e).objects ≡ objects_from x.names.names n.objects (expr_literals e)
  expr-from x n (ExprOf targets (OperandOf primary chain) cascade) =
      let a : Made Receiver = primary_made x n primary in
      let c : List Object = (chain_made x (behind n a) a.item chain).objects in
      let ms : List Object = (messages_made x (behind (behind n a) (chain_made x (behind n a) a.item chain)) cascade).objects in
      let e : (n.objects + length a.objects) + length c ≡ n.objects + length (a.objects ++ c) = omega (arith, length-append a.objects c) in
      both-from x.names.names n.objects (primary_literals primary ++ messages_literals chain) (messages_literals cascade) (a.objects ++ c) ms
      (both-from x.names.names n.objects (primary_literals primary) (messages_literals chain) a.objects c (primary-from x n primary) (chain-from x (behind n a) a.item chain))
      (messages-from x (behind (behind n a) (chain_made x (behind n a) a.item chain)) cascade ∙ ap (λ k. objects_from x.names.names k (messages_literals cascade)) e)

  statements-from : (x : Context) (n : Counts) (row : NamedStatements) → (statements_made x n row).objects ≡ objects_from x.names.names n.objects (statements_literals row)
  statements-from x n no_statements = refl
  statements-from x n (more_statements returns e row) =
      both-from x.names.names n.objects (expr_literals e) (statements_literals row) (expr_made x n e).objects (statements_made x (behind n (expr_made x n e)) row).objects
      (expr-from x n e) (statements-from x (behind n (expr_made x n e)) row)

-- ---- units

-- what is defined so far, with the objects of a body's literals behind
abbrev Adds : Names → List Literal → Defined → Defined → Type 0
Adds x ls d e = e.objects ≡ d.objects ++ objects_from x.names (length d.objects) ls

initialized-adds : (x : Names) (o : Option ℕ) (target : Text) (b : NamedBody) (d : Defined) → Adds x (statements_literals b.statements) d (initialized x o target b d)
initialized-adds x None target b d = ap (λ (os : List Object). d.objects ++ os) (statements-from _ _ b.statements)
initialized-adds x (Some class) target b d = ap (λ (os : List Object). d.objects ++ os) (statements-from _ _ b.statements)

unit-adds : (x : Names) (u : NamedUnit) (d : Defined) → Adds x (unit_literals u) d (defined_unit x u d)
unit-adds x (ClassUnit c) d = sym (append-nil d.objects)
unit-adds x (GlobalUnit name) d = sym (append-nil d.objects)
unit-adds x (PoolVariableUnit pool name) d = sym (append-nil d.objects)
unit-adds x (InitializerUnit target b) d = initialized-adds x (class_in 0 x.classes target) target b d
unit-adds x (PoolInitializerUnit pool name b) d = ap (λ (os : List Object). d.objects ++ os) (statements-from _ _ b.statements)
unit-adds x (ProgramUnit b) d = ap (λ (os : List Object). d.objects ++ os) (statements-from _ _ b.statements)
unit-adds x (MethodUnit class m) d = ap (λ (os : List Object). d.objects ++ os) (statements-from _ _ m.body.statements)
unit-adds x (ClassMethodUnit class m) d = ap (λ (os : List Object). d.objects ++ os) (statements-from _ _ m.body.statements)

units-add : (x : Names) (units : List NamedUnit) (d : Defined) → Adds x (units_literals units) d (defined_units x units d)
units-add x [] d = sym (append-nil d.objects)
units-add x (u ∷ units) d =
    let here : List Object = objects_from x.names (length d.objects) (unit_literals u) in
    let one : (defined_unit x u d).objects ≡ d.objects ++ here = unit-adds x u d in
    let e : length (d.objects ++ here) ≡ length d.objects + length here = length-append d.objects here in
    units-add x units (defined_unit x u d)
    ∙ ap (λ (os : List Object). os ++ objects_from x.names (length os) (units_literals units)) one
    ∙ append_assoc d.objects here (objects_from x.names (length (d.objects ++ here)) (units_literals units))
    ∙ ap (λ k. d.objects ++ (here ++ objects_from x.names k (units_literals units))) e
    ∙ ap (λ (os : List Object). d.objects ++ os) (sym (from-append x.names (length d.objects) (unit_literals u) (units_literals units)))

-- the literals of a program: those of its units, and the texts of troubles behind them
pub program-literals : (units : List Unit) (limits : RunLimits) → (program_of_image units limits).literals ≡ objects_from (image_names units).names 0 (units_literals (named_units units)) ++ trouble_literals
unfolding program_of_image program_of image_names
program-literals units limits =
    ap (λ (os : List Object). os ++ trouble_literals) (units-add (image_names units) (named_units units) nothing_defined)
