-- The names in bodies: which lists declare them, and where they are read and assigned (ANSI NCITS 319, 3.4).
use Rattle.std.specs.Prelude.{Bool, true, false, List, [], ◌∷◌, ◌++◌, map}
use Rattle.st_tree.specs.declared.tree.Name.{Name}
use Rattle.st_tree.specs.declared.tree.Primary.TheOpen.{Primary-F, Statement-F, Block-F, Body-F, Expr-F, Message-F, Operand-F}
use Rattle.st_tree.specs.declared.tree.Primary.TheFolds.{fold-Primary, fold-Statement, fold-Block, fold-Body, fold-Expr, fold-Message, fold-Operand}
use Rattle.st_tree.specs.declared.tree.Primary.{Primary}
use Rattle.st_tree.specs.declared.tree.Statement.{Statement}
use Rattle.st_tree.specs.declared.tree.Block.{Block}
use Rattle.st_tree.specs.declared.tree.Body.{Body}
use Rattle.st_tree.specs.declared.tree.Expr.{Expr}
use Rattle.st_tree.specs.declared.tree.Message.{Message}
use Rattle.st_tree.specs.declared.tree.Operand.{Operand}

-- the variables of one method, initializer or block
pub record Scope : Type 0 where
  pub parameters : List Name
  pub temporaries : List Name

-- a place where a variable is read or assigned, with the scopes around it from the innermost
pub record Mention : Type 0 where
  pub name : Name
  pub assigned : Bool
  pub scopes : List Scope

-- what a part of a body says of names: the scopes that it opens, and its mentions
pub record Naming : Type 0 where
  pub scopes : List Scope
  pub mentions : List Mention

abbrev pub mention : Bool → List Scope → Name → Mention
mention assigned scopes name = record { name = name; assigned = assigned; scopes = scopes }

abbrev pub nothing_named : Naming
nothing_named = record { scopes = []; mentions = [] }

abbrev pub only_mentions : List Mention → Naming
only_mentions mentions = record { scopes = []; mentions = mentions }

abbrev pub both : Naming → Naming → Naming
both a b = record { scopes = a.scopes ++ b.scopes; mentions = a.mentions ++ b.mentions }

-- what a part of a body says within these scopes
abbrev pub Within : Type 0
Within = List Scope → Naming

abbrev pub all_within : List Within → Within
all_within [] scopes = nothing_named
all_within (w ∷ more) scopes = both (w scopes) (all_within more scopes)

-- ---- one level of each kind of tree, of what its parts say

-- a body opens a scope, with the parameters that stand before it
abbrev pub OfBody : Type 0
OfBody = List Name → Within

abbrev pub in_primary : Primary-F Within Within Within OfBody Within Within Within → Within
in_primary (Primary-F.Variable name) scopes = only_mentions (mention false scopes name ∷ [])
in_primary Primary-F.SelfValue scopes = nothing_named
in_primary Primary-F.SuperValue scopes = nothing_named
in_primary (Primary-F.Literal literal) scopes = nothing_named
in_primary (Primary-F.Block b) scopes = b scopes
in_primary (Primary-F.Paren e) scopes = e scopes

abbrev pub in_statement : Statement-F Within Within Within OfBody Within Within Within → Within
in_statement (Statement-F.Value e) = e
in_statement (Statement-F.Return e) = e

abbrev pub in_block : Block-F Within Within Within OfBody Within Within Within → Within
in_block b = b.body b.parameters

-- the statements of a body, in its own scope
abbrev pub in_own_scope : Scope → List Within → Within
in_own_scope scope statements scopes = both (record { scopes = scope ∷ []; mentions = [] }) (all_within statements (scope ∷ scopes))

abbrev pub in_body : Body-F Within Within Within OfBody Within Within Within → OfBody
in_body b parameters = in_own_scope (record { parameters = parameters; temporaries = b.temporaries }) b.statements

abbrev pub in_expr : Expr-F Within Within Within OfBody Within Within Within → Within
in_expr e scopes = both (only_mentions (map (mention true scopes) e.targets)) (both (e.operand scopes) (all_within e.cascade scopes))

abbrev pub in_message : Message-F Within Within Within OfBody Within Within Within → Within
in_message m = all_within m.arguments

abbrev pub in_operand : Operand-F Within Within Within OfBody Within Within Within → Within
in_operand o scopes = both (o.primary scopes) (all_within o.chain scopes)

-- ---- whole trees

unfoldable pub names_in_primary : Primary → Within
names_in_primary = fold-Primary Within Within Within OfBody Within Within Within in_primary in_statement in_block in_body in_expr in_message in_operand

unfoldable pub names_in_statement : Statement → Within
names_in_statement = fold-Statement Within Within Within OfBody Within Within Within in_primary in_statement in_block in_body in_expr in_message in_operand

unfoldable pub names_in_block : Block → Within
names_in_block = fold-Block Within Within Within OfBody Within Within Within in_primary in_statement in_block in_body in_expr in_message in_operand

-- a body with the parameters that stand before it
unfoldable pub names_in_body : Body → OfBody
names_in_body = fold-Body Within Within Within OfBody Within Within Within in_primary in_statement in_block in_body in_expr in_message in_operand

unfoldable pub names_in_expr : Expr → Within
names_in_expr = fold-Expr Within Within Within OfBody Within Within Within in_primary in_statement in_block in_body in_expr in_message in_operand

unfoldable pub names_in_message : Message → Within
names_in_message = fold-Message Within Within Within OfBody Within Within Within in_primary in_statement in_block in_body in_expr in_message in_operand

unfoldable pub names_in_operand : Operand → Within
names_in_operand = fold-Operand Within Within Within OfBody Within Within Within in_primary in_statement in_block in_body in_expr in_message in_operand
