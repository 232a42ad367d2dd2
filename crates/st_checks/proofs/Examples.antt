-- Small files, computed.
use Rattle.std.proofs.Common.{◌≡◌, ℕ, List, [], ◌∷◌, codes, map, refl, ap, ◌∙◌, Some, true, false}
use Rattle.st_base.specs.BuiltIns.{classes, messages}
use Rattle.st_base.specs.declared.faults.Reason.TheVariants as reasons
use Rattle.st_tree.specs.Numbers.{unit}
use Rattle.st_tree.specs.Trees.{name, variable, integer, constant, operand, expr, body}
use Rattle.st_tree.specs.declared.tree.Name.{Name}
use Rattle.st_tree.specs.declared.tree.Primary.TheFolds.{fold-roll-Body, fold-roll-Expr, fold-roll-Operand}
use Rattle.st_tree.specs.declared.tree.Body.{Body}
use Rattle.st_tree.specs.declared.tree.Message.{Message}
use Rattle.st_tree.specs.declared.tree.Operand.{Operand}
use Rattle.st_tree.specs.declared.tree.Method.{Method}
use Rattle.st_tree.specs.declared.tree.Primary.{Primary}
use Rattle.st_tree.specs.declared.tree.Statement.{Statement}
use Rattle.st_tree.specs.declared.tree.Statement.TheVariants as statement
use Rattle.st_tree.specs.declared.units.Indexed.TheVariants as indexes
use Rattle.st_tree.specs.declared.units.UnitKind.{UnitKind}
use Rattle.st_tree.specs.declared.units.UnitKind.TheVariants as kinds
use Rattle.st_tree.specs.declared.units.Unit.{Unit}
use Rattle.st_checks.specs.Declarations.{ancestors, is_built_in, is_built_in_method, built_in_number, superclasses}
use Rattle.st_checks.specs.Bodies.{Scope, Within, OfBody, mention, nothing_named, only_mentions, both, all_within, in_own_scope, in_primary, in_statement, in_block, in_body, in_expr, in_message, in_operand, names_in_primary, names_in_statement, names_in_body, names_in_expr, names_in_message, names_in_operand}
use Rattle.st_checks.specs.Meanings.{meaning_outside}
use Rattle.st_checks.specs.StaticRules.{first_break, unit_fault, repeated_name, undeclared_name, fixed_name, broken, place_at}
use Rattle.st_checks.proofs.Naming.{variable_in, literal_in, return_in}

abbrev version : Unit
version = unit (kinds.Version (codes "1.0")) []

-- a class under Object without variables
abbrev plain : List ℕ → Unit
plain name = unit (kinds.Class (record { name = name; superclass = codes "Object"; indexed = indexes.None; instance_names = []; class_names = []; pools = []; class_instance_names = [] })) []

-- `^` and a primary
abbrev answer : Primary → Statement
answer p = statement.Return (expr [] (operand p []) [])

abbrev unary : List ℕ → Body → Method
unary selector b = record { selector = selector; parameters = []; body = b }

names-body : (temporaries : List Name) (statements : List Statement) (parameters : List Name) (scopes : List Scope) → names_in_body (body temporaries statements) parameters scopes ≡ in_own_scope (record { parameters = parameters; temporaries = temporaries }) (map names_in_statement statements) scopes
unfolding names_in_body names_in_statement body
names-body temporaries statements parameters scopes = ap (λ (f : OfBody). f parameters scopes) (fold-roll-Body Within Within Within OfBody Within Within Within in_primary in_statement in_block in_body in_expr in_message in_operand (record { temporaries = temporaries; statements = statements }))

names-expr : (targets : List Name) (o : Operand) (cascade : List Message) (scopes : List Scope) → names_in_expr (expr targets o cascade) scopes ≡ both (only_mentions (map (mention true scopes) targets)) (both (names_in_operand o scopes) (all_within (map names_in_message cascade) scopes))
unfolding names_in_expr names_in_operand names_in_message expr
names-expr targets o cascade scopes = ap (λ (f : Within). f scopes) (fold-roll-Expr Within Within Within OfBody Within Within Within in_primary in_statement in_block in_body in_expr in_message in_operand (record { targets = targets; operand = o; cascade = cascade }))

names-operand : (p : Primary) (chain : List Message) (scopes : List Scope) → names_in_operand (operand p chain) scopes ≡ both (names_in_primary p scopes) (all_within (map names_in_message chain) scopes)
unfolding names_in_operand names_in_primary names_in_message operand
names-operand p chain scopes = ap (λ (f : Within). f scopes) (fold-roll-Operand Within Within Within OfBody Within Within Within in_primary in_statement in_block in_body in_expr in_message in_operand (record { primary = p; chain = chain }))

abbrev empty : Scope
empty = record { parameters = []; temporaries = [] }

names-answer : (p : Primary) (scopes : List Scope) → names_in_statement (answer p) scopes ≡ both (only_mentions []) (both (both (names_in_primary p scopes) nothing_named) nothing_named)
names-answer p scopes = return_in (expr [] (operand p []) []) scopes ∙ names-expr [] (operand p []) [] scopes ∙ rw (names-operand p [] scopes) refl

-- a method that answers a variable, and one that answers a number
answers-variable : (n : Name) → names_in_body (body [] (answer (variable n) ∷ [])) [] [] ≡ record { scopes = empty ∷ []; mentions = mention false (empty ∷ []) n ∷ [] }
answers-variable n = names-body [] (answer (variable n) ∷ []) [] [] ∙ rw (names-answer (variable n) (empty ∷ []), variable_in n (empty ∷ [])) refl

answers-number : (n : ℕ) → names_in_body (body [] (answer (constant (integer n)) ∷ [])) [] [] ≡ record { scopes = empty ∷ []; mentions = [] }
answers-number n = names-body [] (answer (constant (integer n)) ∷ []) [] [] ∙ rw (names-answer (constant (integer n)) (empty ∷ []), literal_in (integer n) (empty ∷ [])) refl

-- methods of class Q
abbrev method_x : UnitKind
method_x = kinds.Method (codes "Q") (unary (codes "m") (body [] (answer (variable (name (codes "x") 3)) ∷ [])))

abbrev method_1 : UnitKind
method_1 = kinds.Method (codes "Q") (unary (codes "m") (body [] (answer (constant (integer 1)) ∷ [])))

-- `Q method!m ^x!` `Q method!m ^1!`: the earlier unit is refused
pub earlier_unit : first_break (version ∷ plain (codes "Q") ∷ unit method_x [] ∷ unit method_1 [] ∷ []) ≡ Some (broken (place_at 4 3) reasons.UndeclaredName)
unfolding first_break unit_fault repeated_name undeclared_name fixed_name meaning_outside ancestors is_built_in is_built_in_method built_in_number superclasses classes messages
earlier_unit = rw (answers-variable (name (codes "x") 3)) refl

-- `Q method!m ^1!` `Q method!m ^x!`: of two rules that one unit breaks, the lower
pub lower_rule : first_break (version ∷ plain (codes "Q") ∷ unit method_1 [] ∷ unit method_x [] ∷ []) ≡ Some (broken (place_at 5 0) reasons.DuplicateMethod)
unfolding first_break unit_fault repeated_name undeclared_name fixed_name meaning_outside ancestors is_built_in is_built_in_method built_in_number superclasses classes messages
lower_rule = rw (answers-variable (name (codes "x") 3), answers-number 1) refl
