-- What names stand for, and the program that a definition is: each name its place, each block its number, each literal its object (ANSI 3.3, 3.4).
use Rattle.std.specs.Prelude.{ℕ, zero, suc, ◌+◌, Bool, true, false, ◌&&◌, List, [], ◌∷◌, ◌++◌, map, length, get_or, Option, Some, None, nat_eq, if◌then◌else◌}
use Rattle.object_heap.specs.declared.value.Value.{Value}
use Rattle.object_heap.specs.declared.value.Value.TheVariants.{Nil, True, False, Integer, Character, Symbol, Class, Meta, Transcript, Object}
use Rattle.object_heap.specs.Store.{Object as HeapObject}
use Rattle.st_code.specs.Texts.{Text, same_text}
use Rattle.st_code.specs.Program.{Place, Scoped, Slot, ClassSlot, Shared, Tree, Constant, Self, Variable, Assign, Block, Send, SuperSend, Cascade, SuperCascade, Trees, no_trees, more_trees, Messages, no_messages, more_messages, Statement, Plain, Return, Kind, InBlock, Body, Side, OfInstance, OfClass, NoIndexes, ClassRow}
use Rattle.st_code.specs.Named.{Literal, NilLiteral, TrueLiteral, FalseLiteral, IntegerLiteral, CharacterLiteral, StringLiteral, SymbolLiteral, ArrayLiteral, Literals, no_literals, more_literals, NamedPrimary, NameOf, SelfName, SuperName, LiteralOf, BlockOf, ParenOf, NamedOperand, OperandOf, NamedOperands, no_operands, more_operands, NamedMessages, none_sent, then_sent, NamedExpr, ExprOf, NamedStatements, no_statements, more_statements}

-- ---- which variables a block names

abbrev pub has_text : List Text → Text → Bool
has_text [] t = false
has_text (u ∷ us) t = elim (same_text u t) [ true ↦ true | false ↦ has_text us t ]

-- the names of a list that aren't in the other
abbrev pub without : List Text → List Text → List Text
without [] out = []
without (t ∷ ts) out = elim (has_text out t) [ true ↦ without ts out | false ↦ t ∷ without ts out ]

abbrev pub if_inside : Bool → List Text → List Text
if_inside true ts = ts
if_inside false ts = []

-- the names that stand in blocks, where they are declared outside of these; with the flag those outside of blocks too
abbrev mutual
  pub named_primary : Bool → NamedPrimary → List Text
  named_primary inside (NameOf t) = if_inside inside (t ∷ [])
  named_primary inside SelfName = []
  named_primary inside SuperName = []
  named_primary inside (LiteralOf l) = []
  named_primary inside (BlockOf parameters temporaries row) = without (named_statements true row) (parameters ++ temporaries)
  named_primary inside (ParenOf e) = named_expr inside e

  pub named_operand : Bool → NamedOperand → List Text
  named_operand inside (OperandOf primary chain) = named_primary inside primary ++ named_messages inside chain

  pub named_operands : Bool → NamedOperands → List Text
  named_operands inside no_operands = []
  named_operands inside (more_operands o row) = named_operand inside o ++ named_operands inside row

  pub named_messages : Bool → NamedMessages → List Text
  named_messages inside none_sent = []
  named_messages inside (then_sent selector args row) = named_operands inside args ++ named_messages inside row

  pub named_expr : Bool → NamedExpr → List Text
  named_expr inside (ExprOf targets o cascade) = if_inside inside targets ++ named_operand inside o ++ named_messages inside cascade

  pub named_statements : Bool → NamedStatements → List Text
  named_statements inside no_statements = []
  named_statements inside (more_statements returns e row) = named_expr inside e ++ named_statements inside row

-- of each variable of a body, whether a block inside it names it
unfoldable pub captured_of : List Text → NamedStatements → List Bool
captured_of variables row = map (has_text (named_statements false row)) variables

-- ---- where a name is declared outside of scopes

-- a variable of the program: a global, one of a pool, a class variable, a class instance variable
pub data SharedName : Type 0 where
  GlobalName : Text → SharedName
  PoolName : (pool name : Text) → SharedName
  ClassName : (class : ℕ) → (name : Text) → SharedName
  ClassInstanceName : (class : ℕ) → (name : Text) → SharedName

abbrev pub same_shared : SharedName → SharedName → Bool
same_shared (GlobalName t) (GlobalName u) = same_text t u
same_shared (PoolName p t) (PoolName q u) = same_text p q && same_text t u
same_shared (ClassName c t) (ClassName d u) = nat_eq c d && same_text t u
same_shared (ClassInstanceName c t) (ClassInstanceName d u) = nat_eq c d && same_text t u
same_shared _ _ = false

abbrev pub place_in : ℕ → List SharedName → SharedName → Option ℕ
place_in n [] x = None
place_in n (y ∷ ys) x = elim (same_shared y x) [ true ↦ Some n | false ↦ place_in (suc n) ys x ]

abbrev pub text_in : ℕ → List Text → Text → Option ℕ
text_in n [] t = None
text_in n (u ∷ us) t = elim (same_text u t) [ true ↦ Some n | false ↦ text_in (suc n) us t ]

-- a class with its names: the slots that its instances have before those names, its instance variables and class instance variables with the inherited ones first, its own class variables and its pools
pub record ClassNames : Type 0 where
  pub row : ClassRow
  pub base : ℕ
  pub instance_names : List Text
  pub class_instance_names : List Text
  pub class_names : List Text
  pub pools : List Text

-- all that names stand for outside of scopes: selectors and symbols, classes, variables of the program
pub record Names : Type 0 where
  pub names : List Text
  pub classes : List ClassNames
  pub shared : List SharedName

abbrev pub no_names : ClassNames
no_names = record { row = record { name = []; superclass = None; in_file = false; indexed = NoIndexes; slots = 0; class_slots = 0 }; base = 0; instance_names = []; class_instance_names = []; class_names = []; pools = [] }

abbrev pub class_names_at : List ClassNames → ℕ → ClassNames
class_names_at classes class = get_or classes class no_names

-- what a name stands for: a place, or a class or `Transcript`
pub data Meant : Type 0 where
  At : Place → Meant
  Value' : Value → Meant

abbrev pub or_meant : Option Meant → Option Meant → Option Meant
or_meant (Some m) o = Some m
or_meant None o = o

abbrev pub meant_shared : Option ℕ → Option Meant
meant_shared (Some n) = Some (At (Shared n))
meant_shared None = None

abbrev pub in_pools : List SharedName → List Text → Text → Option Meant
in_pools shared [] t = None
in_pools shared (pool ∷ pools) t = or_meant (meant_shared (place_in 0 shared (PoolName pool t))) (in_pools shared pools t)

-- the class variables and then the pools of a class, and then those of the classes above
abbrev pub in_classes : Names → ℕ → ℕ → Text → Option Meant
in_classes x zero class t = None
in_classes x (suc n) class t =
    or_meant (meant_shared (place_in 0 x.shared (ClassName class t)))
    (or_meant (in_pools x.shared (class_names_at x.classes class).pools t)
    (elim (class_names_at x.classes class).row.superclass [ None ↦ None | Some above ↦ in_classes x n above t ]))

abbrev pub class_in : ℕ → List ClassNames → Text → Option ℕ
class_in n [] t = None
class_in n (c ∷ cs) t = elim (same_text c.row.name t) [ true ↦ Some n | false ↦ class_in (suc n) cs t ]

abbrev pub meant_class : Option ℕ → Option Meant
meant_class (Some c) = Some (Value' (Class c))
meant_class None = None

abbrev pub meant_slot : (ℕ → Place) → Option ℕ → Option Meant
meant_slot place (Some n) = Some (At (place n))
meant_slot place None = None

-- the instance variables on the side of instances, the class instance variables on the side of the class
abbrev pub own_names : ClassNames → Side → Text → Option Meant
own_names c OfInstance t = meant_slot (λ n. Slot (c.base + n)) (text_in 0 c.instance_names t)
own_names c side t = meant_slot ClassSlot (text_in 0 c.class_instance_names t)

abbrev pub or_transcript : Option Meant → Meant
or_transcript (Some m) = m
or_transcript None = Value' Transcript

-- a name behind the scopes: in a body of this class and side
unfoldable pub meant_outside : Names → ℕ → Side → Text → Meant
meant_outside x class side t =
    or_transcript (or_meant (own_names (class_names_at x.classes class) side t)
    (or_meant (in_classes x (suc class) class t)
    (or_meant (meant_class (class_in 0 x.classes t))
    (meant_shared (place_in 0 x.shared (GlobalName t))))))

-- the innermost scope that declares a name comes first
abbrev pub meant_from : Names → ℕ → Side → ℕ → List (List Text) → Text → Meant
meant_from x class side up [] t = meant_outside x class side t
meant_from x class side up (scope ∷ scopes) t = elim (text_in 0 scope t) [ Some n ↦ At (Scoped up n) | None ↦ meant_from x class side (suc up) scopes t ]

unfoldable pub meant : Names → ℕ → Side → List (List Text) → Text → Meant
meant x class side scopes t = meant_from x class side 0 scopes t

-- ---- trees: what is made of one, with the bodies of its blocks and the objects of its literals, both numbered on from those before

pub record Made (A : Type 0) : Type 0 where
  pub item : A
  pub bodies : List Body
  pub objects : List HeapObject

abbrev pub plain_made : {A : Type 0} → A → Made A
plain_made a = record { item = a; bodies = []; objects = [] }

-- one behind the other
abbrev pub both : {A B C : Type 0} → (A → B → C) → Made A → Made B → Made C
both f a b = record { item = f a.item b.item; bodies = a.bodies ++ b.bodies; objects = a.objects ++ b.objects }

abbrev pub mapped : {A B : Type 0} → (A → B) → Made A → Made B
mapped f a = record { item = f a.item; bodies = a.bodies; objects = a.objects }

abbrev pub read_only : (class : ℕ) → List Value → List ℕ → HeapObject
read_only class slots bytes = record { class = class; slots = slots; bytes = bytes; capacity = length slots; read_only = true; closure = None }

abbrev pub number_or_last : List Text → Text → ℕ
number_or_last names t = elim (text_in 0 names t) [ Some n ↦ n | None ↦ length names ]

-- an array stands before its items
abbrev pub array_made : ℕ → Made (List Value) → Made Value
array_made n items = record { item = Object n; bodies = []; objects = read_only 11 items.item [] ∷ items.objects }

abbrev mutual
  pub literal_made : List Text → (next : ℕ) → Literal → Made Value
  literal_made names n NilLiteral = plain_made Nil
  literal_made names n TrueLiteral = plain_made True
  literal_made names n FalseLiteral = plain_made False
  literal_made names n (IntegerLiteral i) = plain_made (Integer i)
  literal_made names n (CharacterLiteral byte) = plain_made (Character byte)
  literal_made names n (StringLiteral t) = record { item = Object n; bodies = []; objects = read_only 9 [] t ∷ [] }
  literal_made names n (SymbolLiteral t) = plain_made (Symbol (number_or_last names t))
  literal_made names n (ArrayLiteral row) = array_made n (literals_made names (suc n) row)

  pub literals_made : List Text → (next : ℕ) → Literals → Made (List Value)
  literals_made names n no_literals = plain_made []
  literals_made names n (more_literals l row) =
      let a = literal_made names n l in both (λ v vs. v ∷ vs) a (literals_made names (n + length a.objects) row)

-- where a tree stands: the class and side, the body around it, and the scopes from the innermost on
pub record Context : Type 0 where
  pub names : Names
  pub class : ℕ
  pub side : Side
  pub code : ℕ
  pub scopes : List (List Text)

-- how many bodies and objects there are
pub record Counts : Type 0 where
  pub bodies : ℕ
  pub objects : ℕ

abbrev pub behind : {A : Type 0} → Counts → Made A → Counts
behind n a = record { bodies = n.bodies + length a.bodies; objects = n.objects + length a.objects }

abbrev pub tree_of : Meant → Tree
tree_of (At place) = Variable place
tree_of (Value' v) = Constant v

abbrev pub place_of : Meant → Place
place_of (At place) = place
place_of (Value' v) = Shared 0

abbrev pub named : Context → Text → Meant
named x t = meant x.names x.class x.side x.scopes t

abbrev pub assigned : Context → List Text → Tree → Tree
assigned x [] t = t
assigned x (name ∷ names) t = Assign (place_of (named x name)) (assigned x names t)

abbrev pub class_of_context : Context → Value
class_of_context x = elim x.side [ OfInstance ↦ Class x.class | OfClass ↦ Meta x.class | _ ↦ Nil ]

-- a body with its own number, before those of its blocks
abbrev pub body_made : Kind → Context → Option ℕ → (parameters variables : List Text) → NamedStatements → Made (List Statement) → List Body
body_made kind x outer parameters variables row statements =
    record { kind = kind; class = class_of_context x; parameters = length parameters; captured = captured_of variables row; outer = outer; statements = statements.item } ∷ statements.bodies

abbrev pub inside : Context → ℕ → List Text → Context
inside x code variables = record x { code = code; scopes = variables ∷ x.scopes }

-- the receiver of a chain of messages
pub data Receiver : Type 0 where
  ToTree : Tree → Receiver
  ToSuper : Receiver

abbrev pub sent : Receiver → ℕ → Trees → Tree
sent (ToTree t) selector args = Send selector t args
sent ToSuper selector args = SuperSend selector args

abbrev pub receiver_tree : Receiver → Tree
receiver_tree (ToTree t) = t
receiver_tree ToSuper = Self

abbrev pub cascaded : Receiver → Messages → Tree
cascaded (ToTree t) messages = Cascade t messages
cascaded ToSuper messages = SuperCascade messages

-- a chain of messages that is sent: what it is as a whole, what its last message is sent to, and that message
pub record Chain : Type 0 where
  pub whole : Receiver
  pub before : Receiver
  pub selector : ℕ
  pub args : Trees

abbrev pub no_chain : Receiver → Chain
no_chain r = record { whole = r; before = r; selector = 0; args = no_trees }

abbrev pub one_sent : Receiver → ℕ → Trees → Chain
one_sent r selector args = record { whole = ToTree (sent r selector args); before = r; selector = selector; args = args }

-- the last message of a chain and those of a cascade go to one receiver
abbrev pub with_cascade : Chain → Messages → Tree
with_cascade c no_messages = receiver_tree c.whole
with_cascade c (more_messages selector args row) = cascaded c.before (more_messages c.selector c.args (more_messages selector args row))

abbrev pub is_one_sent : NamedMessages → Bool
is_one_sent none_sent = true
is_one_sent (then_sent selector args row) = false

abbrev mutual
  pub primary_made : Context → Counts → NamedPrimary → Made Receiver
  primary_made x n (NameOf t) = plain_made (ToTree (tree_of (named x t)))
  primary_made x n SelfName = plain_made (ToTree Self)
  primary_made x n SuperName = plain_made ToSuper
  primary_made x n (LiteralOf l) = mapped (λ v. ToTree (Constant v)) (literal_made x.names.names n.objects l)
  primary_made x n (BlockOf parameters temporaries row) =
      let variables = parameters ++ temporaries in
      let statements = statements_made (inside x n.bodies variables) (record { bodies = suc n.bodies; objects = n.objects }) row in
      record { item = ToTree (Block n.bodies); bodies = body_made InBlock x (Some x.code) parameters variables row statements; objects = statements.objects }
  primary_made x n (ParenOf e) = mapped ToTree (expr_made x n e)

  -- all messages of a chain, one behind the other
  pub chain_made : Context → Counts → Receiver → NamedMessages → Made Chain
  chain_made x n r none_sent = plain_made (no_chain r)
  chain_made x n r (then_sent selector args row) =
      let a = args_made x n args in
      let one = one_sent r (number_or_last x.names.names selector) a.item in
      let rest = chain_made x (behind n a) one.whole row in
      record { item = if is_one_sent row then one else rest.item; bodies = a.bodies ++ rest.bodies; objects = a.objects ++ rest.objects }

  pub messages_made : Context → Counts → NamedMessages → Made Messages
  messages_made x n none_sent = plain_made no_messages
  messages_made x n (then_sent selector args row) =
      let a = args_made x n args in both (λ trees ms. more_messages (number_or_last x.names.names selector) trees ms) a (messages_made x (behind n a) row)

  pub args_made : Context → Counts → NamedOperands → Made Trees
  args_made x n no_operands = plain_made no_trees
  args_made x n (more_operands o row) = let a = operand_made x n o in both (λ t ts. more_trees t ts) a (args_made x (behind n a) row)

  pub operand_made : Context → Counts → NamedOperand → Made Tree
  operand_made x n (OperandOf primary chain) =
      let a = primary_made x n primary in
      let rest = chain_made x (behind n a) a.item chain in
      record { item = receiver_tree rest.item.whole; bodies = a.bodies ++ rest.bodies; objects = a.objects ++ rest.objects }

  pub expr_made : Context → Counts → NamedExpr → Made Tree
  expr_made x n (ExprOf targets (OperandOf primary chain) cascade) =
      let a = primary_made x n primary in
      let c = chain_made x (behind n a) a.item chain in
      let ms = messages_made x (behind (behind n a) c) cascade in
      record { item = assigned x targets (with_cascade c.item ms.item); bodies = a.bodies ++ c.bodies ++ ms.bodies; objects = a.objects ++ c.objects ++ ms.objects }

  pub statements_made : Context → Counts → NamedStatements → Made (List Statement)
  statements_made x n no_statements = plain_made []
  statements_made x n (more_statements returns e row) =
      let a = expr_made x n e in both (λ t ss. (if returns then Return t else Plain t) ∷ ss) a (statements_made x (behind n a) row)
