-- The words of literals, expressions, bodies and methods (ANSI NCITS 319, 3.4).
use Rattle.std.specs.Prelude.{ℕ, List, [], ◌∷◌, ◌++◌, map, if◌then◌else◌, ◌==◌, codes}
use Rattle.st_tree.specs.declared.tree.Name.{Name}
use Rattle.st_tree.specs.declared.tree.Literal.{Literal, fold-Literal}
use Rattle.st_tree.specs.declared.tree.Literal.TheOpen.{Literal-F}
use Rattle.st_tree.specs.declared.tree.Primary.TheOpen.{Primary-F, Statement-F, Block-F, Body-F, Expr-F, Message-F, Operand-F}
use Rattle.st_tree.specs.declared.tree.Primary.TheFolds.{fold-Primary, fold-Statement, fold-Block, fold-Body, fold-Expr, fold-Message, fold-Operand}
use Rattle.st_tree.specs.declared.tree.Primary.{Primary}
use Rattle.st_tree.specs.declared.tree.Statement.{Statement}
use Rattle.st_tree.specs.declared.tree.Block.{Block}
use Rattle.st_tree.specs.declared.tree.Body.{Body, out-Body}
use Rattle.st_tree.specs.declared.tree.Expr.{Expr}
use Rattle.st_tree.specs.declared.tree.Message.{Message}
use Rattle.st_tree.specs.declared.tree.Operand.{Operand}
use Rattle.st_tree.specs.declared.tree.Method.{Method}
use Rattle.st_base.specs.TokenBytes.{is_letter}
use Rattle.sif_export.specs.Words.{Word, Mark, Named, Key, Operator, Parameter, Number, Char, Str, Symbol, Sign}
use Rattle.sif_export.specs.declared.sign.Sign.TheVariants as sign

abbrev pub Words : Type 0
Words = List Word

-- all of them, one after the other
abbrev pub joined : List Words → Words
joined [] = []
joined (ws ∷ more) = ws ++ joined more

-- each with a word before it
abbrev pub each_behind : Word → List Words → Words
each_behind w [] = []
each_behind w (ws ∷ more) = w ∷ ws ++ each_behind w more

-- with a word between two of them
abbrev pub parted : Word → List Words → Words
parted w [] = []
parted w (ws ∷ more) = ws ++ each_behind w more

abbrev pub literal_step : Literal-F Words → Words
literal_step Literal-F.Nil = Named (codes "nil") ∷ []
literal_step Literal-F.True = Named (codes "true") ∷ []
literal_step Literal-F.False = Named (codes "false") ∷ []
literal_step (Literal-F.Integer n) = Number n ∷ []
literal_step (Literal-F.Character c) = Char c ∷ []
literal_step (Literal-F.Str t) = Str t ∷ []
literal_step (Literal-F.Symbol t) = Symbol t ∷ []
literal_step (Literal-F.Array items) = Mark sign.ArrayOpen ∷ joined items ++ Mark sign.ParenClose ∷ []

unfoldable pub literal_words : Literal → Words
literal_words = fold-Literal Words literal_step

-- up to its first colon, and this too
abbrev pub first_part : List ℕ → List ℕ
first_part [] = []
first_part (c ∷ cs) = if c == 58 then 58 ∷ [] else c ∷ first_part cs

-- what is behind that
abbrev pub other_parts : List ℕ → List ℕ
other_parts [] = []
other_parts (c ∷ cs) = if c == 58 then cs else other_parts cs

abbrev pub part_word : List ℕ → Word
part_word [] = Operator []
part_word (c ∷ cs) = if is_letter c then Key (c ∷ cs) else Operator (c ∷ cs)

-- the parts of a selector, an argument behind each
abbrev pub sent_words : List ℕ → List Words → Words
sent_words selector [] = []
sent_words selector (a ∷ as') = part_word (first_part selector) ∷ a ++ sent_words (other_parts selector) as'

abbrev pub message_words : List ℕ → List Words → Words
message_words selector [] = Named selector ∷ []
message_words selector (a ∷ as') = sent_words selector (a ∷ as')

abbrev pub target_words : List Name → Words
target_words [] = []
target_words (n ∷ ns) = Named n.text ∷ Mark sign.Assign ∷ target_words ns

abbrev pub named_words : List Name → Words
named_words [] = []
named_words (n ∷ ns) = Named n.text ∷ named_words ns

abbrev pub temporary_words : Sign → List Name → Words
temporary_words bar [] = []
temporary_words bar (n ∷ ns) = Mark sign.Bar ∷ named_words (n ∷ ns) ++ Mark bar ∷ []

abbrev pub colon_words : List Name → Words
colon_words [] = []
colon_words (n ∷ ns) = Parameter n.text ∷ colon_words ns

abbrev pub parameter_words : List Name → Words
parameter_words [] = []
parameter_words (n ∷ ns) = colon_words (n ∷ ns) ++ Mark sign.Bar ∷ []

abbrev pub body_words : Sign → Sign → List Name → List Words → Words
body_words stop bar temporaries statements = temporary_words bar temporaries ++ parted (Mark stop) statements

-- one level of each, with the words of what it holds in its place
abbrev pub at_primary : Primary-F Words Words Words Words Words Words Words → Words
at_primary (Primary-F.Variable name) = Named name.text ∷ []
at_primary Primary-F.SelfValue = Named (codes "self") ∷ []
at_primary Primary-F.SuperValue = Named (codes "super") ∷ []
at_primary (Primary-F.Literal literal) = literal_words literal
at_primary (Primary-F.Block b) = b
at_primary (Primary-F.Paren e) = Mark sign.ParenOpen ∷ e ++ Mark sign.ParenClose ∷ []

abbrev pub at_statement : Statement-F Words Words Words Words Words Words Words → Words
at_statement (Statement-F.Value e) = e
at_statement (Statement-F.Return e) = Mark sign.Caret ∷ e

abbrev pub at_block : Block-F Words Words Words Words Words Words Words → Words
at_block b = Mark sign.BlockOpen ∷ parameter_words b.parameters ++ b.body ++ Mark sign.BlockClose ∷ []

abbrev pub at_body : Body-F Words Words Words Words Words Words Words → Words
at_body b = body_words sign.Period sign.Bar b.temporaries b.statements

abbrev pub at_expr : Expr-F Words Words Words Words Words Words Words → Words
at_expr e = target_words e.targets ++ e.operand ++ each_behind (Mark sign.Semicolon) e.cascade

abbrev pub at_message : Message-F Words Words Words Words Words Words Words → Words
at_message m = message_words m.selector m.arguments

abbrev pub at_operand : Operand-F Words Words Words Words Words Words Words → Words
at_operand o = o.primary ++ joined o.chain

unfoldable pub primary_words : Primary → Words
primary_words = fold-Primary Words Words Words Words Words Words Words at_primary at_statement at_block at_body at_expr at_message at_operand

unfoldable pub statement_words : Statement → Words
statement_words = fold-Statement Words Words Words Words Words Words Words at_primary at_statement at_block at_body at_expr at_message at_operand

unfoldable pub block_words : Block → Words
block_words = fold-Block Words Words Words Words Words Words Words at_primary at_statement at_block at_body at_expr at_message at_operand

-- a body of a block
unfoldable pub inner_words : Body → Words
inner_words = fold-Body Words Words Words Words Words Words Words at_primary at_statement at_block at_body at_expr at_message at_operand

unfoldable pub expr_words : Expr → Words
expr_words = fold-Expr Words Words Words Words Words Words Words at_primary at_statement at_block at_body at_expr at_message at_operand

unfoldable pub each_message : Message → Words
each_message = fold-Message Words Words Words Words Words Words Words at_primary at_statement at_block at_body at_expr at_message at_operand

unfoldable pub operand_words : Operand → Words
operand_words = fold-Operand Words Words Words Words Words Words Words at_primary at_statement at_block at_body at_expr at_message at_operand

-- a body with these signs between its statements and behind its temporaries
unfoldable pub body_parts : Sign → Sign → Body → Words
body_parts stop bar b = body_words stop bar (out-Body b).temporaries (map statement_words (out-Body b).statements)

-- a body of a method or initializer
unfoldable pub top_words : Body → Words
top_words b = body_parts sign.PeriodLine sign.BarLine b

-- a name alone
abbrev pub name_words : Name → Words
name_words n = Named n.text ∷ []

-- the pattern of a method: its selector's parts, a parameter behind each
unfoldable pub pattern_words : Method → Words
pattern_words m = message_words m.selector (map name_words m.parameters)
