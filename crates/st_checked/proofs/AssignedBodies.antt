-- Each name that a body assigns to is one of its mentions, so where those stand for variables its statements assign to variables.
use Rattle.std.proofs.Common.{◌≡◌, ℕ, List, [], ◌∷◌, ◌++◌, map, true, refl, sym, subst}
use Rattle.st_tree.specs.declared.tree.Name.{Name}
use Rattle.st_tree.specs.declared.tree.Primary.{Primary, roll-Primary}
use Rattle.st_tree.specs.declared.tree.Primary.TheOpen.{Primary-F, Statement-F, Block-F, Body-F, Expr-F, Message-F, Operand-F}
use Rattle.st_tree.specs.declared.tree.Primary.TheFolds.{fold-roll-Primary, fold-roll-Statement, fold-roll-Block, fold-roll-Body, fold-roll-Expr, fold-roll-Message, fold-roll-Operand, ind-Body}
use Rattle.st_tree.specs.declared.tree.Statement.{Statement, roll-Statement}
use Rattle.st_tree.specs.declared.tree.Block.{Block, roll-Block}
use Rattle.st_tree.specs.declared.tree.Body.{Body, roll-Body}
use Rattle.st_tree.specs.declared.tree.Expr.{Expr, roll-Expr}
use Rattle.st_tree.specs.declared.tree.Message.{Message, roll-Message}
use Rattle.st_tree.specs.declared.tree.Operand.{Operand, roll-Operand}
use Rattle.st_code.specs.Texts.{Text}
use Rattle.st_code.specs.Program.{Side}
use Rattle.st_code.specs.Resolved.{Names, meant}
use Rattle.st_code.specs.Named.{NamedPrimary, NamedOperand, NamedExpr, NamedBody}
use Rattle.st_code.specs.Written.{name_text, NamedStatement, NamedBlock, NamedMessage, primary_step, statement_step, block_step, body_step, expr_step, message_step, operand_step, named_primary, named_statement, named_block, named_body, named_expr, named_message, named_operand, message_row, operand_row, statement_row}
use Rattle.st_code.proofs.Written.{message-roll, operand-roll, expr-roll, body-roll, block-roll}
use Rattle.st_checks.specs.Bodies.{Scope, Mention, Within, OfBody, mention, all_within, in_primary, in_statement, in_block, in_body, in_expr, in_message, in_operand, names_in_primary, names_in_statement, names_in_block, names_in_body, names_in_expr, names_in_message, names_in_operand}
use Rattle.st_variables.specs.Assigned.{IsPlace, AllPlaces, PrimaryAssigns, OperandAssigns, OperandsAssign, MessagesAssign, ExprAssigns, StatementsAssign}

abbrev pub scope_texts : Scope → List Text
scope_texts s = map name_text s.parameters ++ map name_text s.temporaries

abbrev pub texts : List Scope → List (List Text)
texts [] = []
texts (s ∷ scopes) = scope_texts s ∷ texts scopes

module _ (X : Names) (class : ℕ) (side : Side) where
  -- each assigned mention stands for a variable
  abbrev pub MentionsFine : List Mention → Type 0
  MentionsFine [] = Unit {0}
  MentionsFine (m ∷ ms) = (m.assigned ≡ true → IsPlace (meant X class side (texts m.scopes) m.name.text)) × MentionsFine ms

  fine_left : (ms ns : List Mention) → MentionsFine (ms ++ ns) → MentionsFine ms
  fine_left [] ns h = tt
  fine_left (m ∷ ms) ns h = (h.0, fine_left ms ns h.1)

  fine_right : (ms ns : List Mention) → MentionsFine (ms ++ ns) → MentionsFine ns
  fine_right [] ns h = h
  fine_right (m ∷ ms) ns h = fine_right ms ns h.1

  -- ---- what is shown of each kind of tree

  abbrev PrimaryFine : Primary → Type 0
  PrimaryFine x = (scopes : List Scope) → MentionsFine (names_in_primary x scopes).mentions → PrimaryAssigns X class side (texts scopes) (named_primary x)

  abbrev StatementFine : Statement → Type 0
  StatementFine x = (scopes : List Scope) → MentionsFine (names_in_statement x scopes).mentions → ExprAssigns X class side (texts scopes) (named_statement x).expr

  abbrev BlockFine : Block → Type 0
  BlockFine x = (scopes : List Scope) → MentionsFine (names_in_block x scopes).mentions → StatementsAssign X class side (((named_block x).parameters ++ (named_block x).body.temporaries) ∷ texts scopes) (named_block x).body.statements

  abbrev BodyFine : Body → Type 0
  BodyFine x = (parameters : List Name) (scopes : List Scope) → MentionsFine (names_in_body x parameters scopes).mentions → StatementsAssign X class side ((map name_text parameters ++ (named_body x).temporaries) ∷ texts scopes) (named_body x).statements

  abbrev ExprFine : Expr → Type 0
  ExprFine x = (scopes : List Scope) → MentionsFine (names_in_expr x scopes).mentions → ExprAssigns X class side (texts scopes) (named_expr x)

  abbrev MessageFine : Message → Type 0
  MessageFine x = (scopes : List Scope) → MentionsFine (names_in_message x scopes).mentions → OperandsAssign X class side (texts scopes) (named_message x).arguments

  abbrev OperandFine : Operand → Type 0
  OperandFine x = (scopes : List Scope) → MentionsFine (names_in_operand x scopes).mentions → OperandAssigns X class side (texts scopes) (named_operand x)

  -- ---- rows

  statements_fine : (es : List ((x : Statement) × StatementFine x)) (scopes : List Scope) → MentionsFine (all_within (map names_in_statement (map (λ e. e.0) es)) scopes).mentions → StatementsAssign X class side (texts scopes) (statement_row (map named_statement (map (λ e. e.0) es)))
  statements_fine [] scopes h = tt
  statements_fine (e ∷ es) scopes h =
      let a = (names_in_statement e.0 scopes).mentions in
      let b = (all_within (map names_in_statement (map (λ d. d.0) es)) scopes).mentions in
      (e.1 scopes (fine_left a b h), statements_fine es scopes (fine_right a b h))

  messages_fine : (es : List ((x : Message) × MessageFine x)) (scopes : List Scope) → MentionsFine (all_within (map names_in_message (map (λ e. e.0) es)) scopes).mentions → MessagesAssign X class side (texts scopes) (message_row (map named_message (map (λ e. e.0) es)))
  messages_fine [] scopes h = tt
  messages_fine (e ∷ es) scopes h =
      let a = (names_in_message e.0 scopes).mentions in
      let b = (all_within (map names_in_message (map (λ d. d.0) es)) scopes).mentions in
      (e.1 scopes (fine_left a b h), messages_fine es scopes (fine_right a b h))

  operands_fine : (es : List ((x : Operand) × OperandFine x)) (scopes : List Scope) → MentionsFine (all_within (map names_in_operand (map (λ e. e.0) es)) scopes).mentions → OperandsAssign X class side (texts scopes) (operand_row (map named_operand (map (λ e. e.0) es)))
  operands_fine [] scopes h = tt
  operands_fine (e ∷ es) scopes h =
      let a = (names_in_operand e.0 scopes).mentions in
      let b = (all_within (map names_in_operand (map (λ d. d.0) es)) scopes).mentions in
      (e.1 scopes (fine_left a b h), operands_fine es scopes (fine_right a b h))

  targets_fine : (ts : List Name) (scopes : List Scope) → MentionsFine (map (mention true scopes) ts) → AllPlaces X class side (texts scopes) (map name_text ts)
  targets_fine [] scopes h = tt
  targets_fine (t ∷ ts) scopes h = (h.0 refl, targets_fine ts scopes h.1)

  -- ---- one level of each

  abbrev PF : Type 0
  PF = Primary-F ((x : Primary) × PrimaryFine x) ((x : Statement) × StatementFine x) ((x : Block) × BlockFine x) ((x : Body) × BodyFine x) ((x : Expr) × ExprFine x) ((x : Message) × MessageFine x) ((x : Operand) × OperandFine x)

  abbrev SF : Type 0
  SF = Statement-F ((x : Primary) × PrimaryFine x) ((x : Statement) × StatementFine x) ((x : Block) × BlockFine x) ((x : Body) × BodyFine x) ((x : Expr) × ExprFine x) ((x : Message) × MessageFine x) ((x : Operand) × OperandFine x)

  abbrev BlF : Type 0
  BlF = Block-F ((x : Primary) × PrimaryFine x) ((x : Statement) × StatementFine x) ((x : Block) × BlockFine x) ((x : Body) × BodyFine x) ((x : Expr) × ExprFine x) ((x : Message) × MessageFine x) ((x : Operand) × OperandFine x)

  abbrev BoF : Type 0
  BoF = Body-F ((x : Primary) × PrimaryFine x) ((x : Statement) × StatementFine x) ((x : Block) × BlockFine x) ((x : Body) × BodyFine x) ((x : Expr) × ExprFine x) ((x : Message) × MessageFine x) ((x : Operand) × OperandFine x)

  abbrev EF : Type 0
  EF = Expr-F ((x : Primary) × PrimaryFine x) ((x : Statement) × StatementFine x) ((x : Block) × BlockFine x) ((x : Body) × BodyFine x) ((x : Expr) × ExprFine x) ((x : Message) × MessageFine x) ((x : Operand) × OperandFine x)

  abbrev MF : Type 0
  MF = Message-F ((x : Primary) × PrimaryFine x) ((x : Statement) × StatementFine x) ((x : Block) × BlockFine x) ((x : Body) × BodyFine x) ((x : Expr) × ExprFine x) ((x : Message) × MessageFine x) ((x : Operand) × OperandFine x)

  abbrev OF : Type 0
  OF = Operand-F ((x : Primary) × PrimaryFine x) ((x : Statement) × StatementFine x) ((x : Block) × BlockFine x) ((x : Body) × BodyFine x) ((x : Expr) × ExprFine x) ((x : Message) × MessageFine x) ((x : Operand) × OperandFine x)

  abbrev lower_primary : PF → Primary-F Primary Statement Block Body Expr Message Operand
  lower_primary (Primary-F.Variable name) = Primary-F.Variable name
  lower_primary Primary-F.SelfValue = Primary-F.SelfValue
  lower_primary Primary-F.SuperValue = Primary-F.SuperValue
  lower_primary (Primary-F.Literal literal) = Primary-F.Literal literal
  lower_primary (Primary-F.Block b) = Primary-F.Block b.0
  lower_primary (Primary-F.Paren e) = Primary-F.Paren e.0

  primary_level : (y : PF) → PrimaryFine (roll-Primary (lower_primary y))
  unfolding named_primary named_block named_expr names_in_primary names_in_block names_in_expr
  primary_level (Primary-F.Variable name) scopes h = subst (λ q. PrimaryAssigns X class side (texts scopes) q) (sym (fold-roll-Primary NamedPrimary NamedStatement NamedBlock NamedBody NamedExpr NamedMessage NamedOperand primary_step statement_step block_step body_step expr_step message_step operand_step (Primary-F.Variable name))) tt
  primary_level Primary-F.SelfValue scopes h = subst (λ q. PrimaryAssigns X class side (texts scopes) q) (sym (fold-roll-Primary NamedPrimary NamedStatement NamedBlock NamedBody NamedExpr NamedMessage NamedOperand primary_step statement_step block_step body_step expr_step message_step operand_step Primary-F.SelfValue)) tt
  primary_level Primary-F.SuperValue scopes h = subst (λ q. PrimaryAssigns X class side (texts scopes) q) (sym (fold-roll-Primary NamedPrimary NamedStatement NamedBlock NamedBody NamedExpr NamedMessage NamedOperand primary_step statement_step block_step body_step expr_step message_step operand_step Primary-F.SuperValue)) tt
  primary_level (Primary-F.Literal literal) scopes h = subst (λ q. PrimaryAssigns X class side (texts scopes) q) (sym (fold-roll-Primary NamedPrimary NamedStatement NamedBlock NamedBody NamedExpr NamedMessage NamedOperand primary_step statement_step block_step body_step expr_step message_step operand_step (Primary-F.Literal literal))) tt
  primary_level (Primary-F.Block b) scopes h =
      subst (λ q. PrimaryAssigns X class side (texts scopes) q) (sym (fold-roll-Primary NamedPrimary NamedStatement NamedBlock NamedBody NamedExpr NamedMessage NamedOperand primary_step statement_step block_step body_step expr_step message_step operand_step (Primary-F.Block b.0)))
      (b.1 scopes (subst (λ (w : Within). MentionsFine (w scopes).mentions) (fold-roll-Primary Within Within Within OfBody Within Within Within in_primary in_statement in_block in_body in_expr in_message in_operand (Primary-F.Block b.0)) h))
  primary_level (Primary-F.Paren e) scopes h =
      subst (λ q. PrimaryAssigns X class side (texts scopes) q) (sym (fold-roll-Primary NamedPrimary NamedStatement NamedBlock NamedBody NamedExpr NamedMessage NamedOperand primary_step statement_step block_step body_step expr_step message_step operand_step (Primary-F.Paren e.0)))
      (e.1 scopes (subst (λ (w : Within). MentionsFine (w scopes).mentions) (fold-roll-Primary Within Within Within OfBody Within Within Within in_primary in_statement in_block in_body in_expr in_message in_operand (Primary-F.Paren e.0)) h))

  abbrev lower_statement : SF → Statement-F Primary Statement Block Body Expr Message Operand
  lower_statement (Statement-F.Value e) = Statement-F.Value e.0
  lower_statement (Statement-F.Return e) = Statement-F.Return e.0

  statement_level : (y : SF) → StatementFine (roll-Statement (lower_statement y))
  unfolding named_statement named_expr names_in_statement names_in_expr
  statement_level (Statement-F.Value e) scopes h =
      subst (λ (s : NamedStatement). ExprAssigns X class side (texts scopes) s.expr) (sym (fold-roll-Statement NamedPrimary NamedStatement NamedBlock NamedBody NamedExpr NamedMessage NamedOperand primary_step statement_step block_step body_step expr_step message_step operand_step (Statement-F.Value e.0)))
      (e.1 scopes (subst (λ (w : Within). MentionsFine (w scopes).mentions) (fold-roll-Statement Within Within Within OfBody Within Within Within in_primary in_statement in_block in_body in_expr in_message in_operand (Statement-F.Value e.0)) h))
  statement_level (Statement-F.Return e) scopes h =
      subst (λ (s : NamedStatement). ExprAssigns X class side (texts scopes) s.expr) (sym (fold-roll-Statement NamedPrimary NamedStatement NamedBlock NamedBody NamedExpr NamedMessage NamedOperand primary_step statement_step block_step body_step expr_step message_step operand_step (Statement-F.Return e.0)))
      (e.1 scopes (subst (λ (w : Within). MentionsFine (w scopes).mentions) (fold-roll-Statement Within Within Within OfBody Within Within Within in_primary in_statement in_block in_body in_expr in_message in_operand (Statement-F.Return e.0)) h))

  abbrev lower_block : BlF → Block-F Primary Statement Block Body Expr Message Operand
  lower_block y = record { at = y.at; parameters = y.parameters; body = y.body.0 }

  block_level : (y : BlF) → BlockFine (roll-Block (lower_block y))
  unfolding names_in_block names_in_body
  block_level y scopes h =
      subst (λ (b : NamedBlock). StatementsAssign X class side ((b.parameters ++ b.body.temporaries) ∷ texts scopes) b.body.statements) (sym (block-roll y.at y.parameters y.body.0))
      (y.body.1 y.parameters scopes (subst (λ (w : Within). MentionsFine (w scopes).mentions) (fold-roll-Block Within Within Within OfBody Within Within Within in_primary in_statement in_block in_body in_expr in_message in_operand (lower_block y)) h))

  abbrev lower_body : BoF → Body-F Primary Statement Block Body Expr Message Operand
  lower_body y = record { temporaries = y.temporaries; statements = map (λ e. e.0) y.statements }

  body_level : (y : BoF) → BodyFine (roll-Body (lower_body y))
  unfolding names_in_body names_in_statement
  body_level y parameters scopes h =
      subst (λ (b : NamedBody). StatementsAssign X class side ((map name_text parameters ++ b.temporaries) ∷ texts scopes) b.statements) (sym (body-roll y.temporaries (map (λ e. e.0) y.statements)))
      (statements_fine y.statements (record { parameters = parameters; temporaries = y.temporaries } ∷ scopes) (subst (λ (w : OfBody). MentionsFine (w parameters scopes).mentions) (fold-roll-Body Within Within Within OfBody Within Within Within in_primary in_statement in_block in_body in_expr in_message in_operand (lower_body y)) h))

  abbrev lower_expr : EF → Expr-F Primary Statement Block Body Expr Message Operand
  lower_expr y = record { targets = y.targets; operand = y.operand.0; cascade = map (λ e. e.0) y.cascade }

  expr_level : (y : EF) → ExprFine (roll-Expr (lower_expr y))
  unfolding names_in_expr names_in_operand names_in_message
  expr_level y scopes h =
      let a = map (mention true scopes) y.targets in
      let b = (names_in_operand y.operand.0 scopes).mentions in
      let c = (all_within (map names_in_message (map (λ d. d.0) y.cascade)) scopes).mentions in
      let g : MentionsFine (a ++ (b ++ c)) = subst (λ (w : Within). MentionsFine (w scopes).mentions) (fold-roll-Expr Within Within Within OfBody Within Within Within in_primary in_statement in_block in_body in_expr in_message in_operand (lower_expr y)) h in
      subst (λ q. ExprAssigns X class side (texts scopes) q) (sym (expr-roll y.targets y.operand.0 (map (λ e. e.0) y.cascade)))
      (targets_fine y.targets scopes (fine_left a (b ++ c) g), y.operand.1 scopes (fine_left b c (fine_right a (b ++ c) g)), messages_fine y.cascade scopes (fine_right b c (fine_right a (b ++ c) g)))

  abbrev lower_message : MF → Message-F Primary Statement Block Body Expr Message Operand
  lower_message y = record { selector = y.selector; at = y.at; arguments = map (λ e. e.0) y.arguments }

  message_level : (y : MF) → MessageFine (roll-Message (lower_message y))
  unfolding names_in_message names_in_operand
  message_level y scopes h =
      subst (λ (m : NamedMessage). OperandsAssign X class side (texts scopes) m.arguments) (sym (message-roll y.selector y.at (map (λ e. e.0) y.arguments)))
      (operands_fine y.arguments scopes (subst (λ (w : Within). MentionsFine (w scopes).mentions) (fold-roll-Message Within Within Within OfBody Within Within Within in_primary in_statement in_block in_body in_expr in_message in_operand (lower_message y)) h))

  abbrev lower_operand : OF → Operand-F Primary Statement Block Body Expr Message Operand
  lower_operand y = record { primary = y.primary.0; chain = map (λ e. e.0) y.chain }

  operand_level : (y : OF) → OperandFine (roll-Operand (lower_operand y))
  unfolding names_in_operand names_in_primary names_in_message
  operand_level y scopes h =
      let a = (names_in_primary y.primary.0 scopes).mentions in
      let b = (all_within (map names_in_message (map (λ d. d.0) y.chain)) scopes).mentions in
      let g : MentionsFine (a ++ b) = subst (λ (w : Within). MentionsFine (w scopes).mentions) (fold-roll-Operand Within Within Within OfBody Within Within Within in_primary in_statement in_block in_body in_expr in_message in_operand (lower_operand y)) h in
      subst (λ q. OperandAssigns X class side (texts scopes) q) (sym (operand-roll y.primary.0 (map (λ e. e.0) y.chain)))
      (y.primary.1 scopes (fine_left a b g), messages_fine y.chain scopes (fine_right a b g))

  pub body_fine : (b : Body) → BodyFine b
  body_fine =
      ind-Body PrimaryFine StatementFine BlockFine BodyFine ExprFine MessageFine OperandFine (λ x y is. subst (λ z. PrimaryFine (roll-Primary z)) is (primary_level y)) (λ x y is. subst (λ z. StatementFine (roll-Statement z)) is (statement_level y)) (λ x y is. subst (λ z. BlockFine (roll-Block z)) is (block_level y)) (λ x y is. subst (λ z. BodyFine (roll-Body z)) is (body_level y)) (λ x y is. subst (λ z. ExprFine (roll-Expr z)) is (expr_level y)) (λ x y is. subst (λ z. MessageFine (roll-Message z)) is (message_level y)) (λ x y is. subst (λ z. OperandFine (roll-Operand z)) is (operand_level y))
