-- A program as the rules read it: names, classes, methods and bodies, in which each variable is the place that its name stands for.
use Rattle.std.specs.Prelude.{ℕ, ◌+◌, Bool, true, false, List, [], ◌∷◌, Option, None, get_or}
use Rattle.object_heap.specs.declared.value.Value.{Value}
use Rattle.object_heap.specs.declared.value.Value.TheVariants.{Nil}
use Rattle.object_heap.specs.Store.{Object}
use Rattle.st_code.specs.Texts.{Text, same_text}

-- a variable: of the scope that is so many steps outwards, parameters first; a named slot of self; a class instance variable of self; or one of the program's
pub data Place : Type 0 where
  Scoped : (up index : ℕ) → Place
  Slot ClassSlot Shared : (index : ℕ) → Place

mutual
  -- an expression: constants, self, variables, assignments, blocks by the number of their body, messages, cascades (ANSI 3.4.5)
  pub data Tree : Type 0 where
    Constant : Value → Tree
    Self : Tree
    Variable : Place → Tree
    Assign : Place → Tree → Tree
    Block : (code : ℕ) → Tree
    Send : (selector : ℕ) → Tree → Trees → Tree
    SuperSend : (selector : ℕ) → Trees → Tree
    Cascade : Tree → Messages → Tree
    SuperCascade : Messages → Tree

  pub data Trees : Type 0 where
    no_trees : Trees
    more_trees : Tree → Trees → Trees

  -- the messages of a cascade
  pub data Messages : Type 0 where
    no_messages : Messages
    more_messages : (selector : ℕ) → Trees → Messages → Messages

pub data Statement : Type 0 where
  Plain Return : Tree → Statement

-- what a body is the body of
pub data Kind : Type 0 where
  InMethod InBlock InInitializer : Kind

-- a body: the class or metaclass that it is written in, how many of its variables are parameters, which of its variables a block inside it names, the body around it, and its statements
pub record Body : Type 0 where
  pub kind : Kind
  pub class : Value
  pub parameters : ℕ
  pub captured : List Bool
  pub outer : Option ℕ
  pub statements : List Statement

-- the sides of a class: its instances, the class, its metaclass
pub data Side : Type 0 where
  OfInstance OfClass OfMeta : Side

abbrev pub same_side : Side → Side → Bool
same_side OfInstance OfInstance = true
same_side OfClass OfClass = true
same_side OfMeta OfMeta = true
same_side _ _ = false

pub data Indexed : Type 0 where
  NoIndexes ByObject ByByte : Indexed

-- a class: its name, its superclass, whether the file declares it, how it is indexed, how many named slots its instances have, and the place of its first class instance variable
pub record ClassRow : Type 0 where
  pub name : Text
  pub superclass : Option ℕ
  pub in_file : Bool
  pub indexed : Indexed
  pub slots : ℕ
  pub class_slots : ℕ

-- a method of the file, by the number of its body
pub record MethodRow : Type 0 where
  pub class : ℕ
  pub side : Side
  pub selector : ℕ
  pub code : ℕ

-- an initializer: its body, its self, and the variable that takes its value
pub record Initializer : Type 0 where
  pub code : ℕ
  pub self : Value
  pub target : Option ℕ

-- a program and the limits of its run: the texts of selectors and symbols, classes, methods, bodies, initializers in file order, literals with the texts of troubles behind them, how many literals the file has, and how many variables of its own
pub record Program : Type 0 where
  pub names : List Text
  pub classes : List ClassRow
  pub methods : List MethodRow
  pub bodies : List Body
  pub initializers : List Initializer
  pub literals : List Object
  pub trouble_place : ℕ
  pub variables : ℕ
  pub step_limit : ℕ
  pub depth_limit : ℕ
  pub cell_limit : ℕ

abbrev no_body : Body
no_body = record { kind = InBlock; class = Nil; parameters = 0; captured = []; outer = None; statements = [] }

abbrev no_class : ClassRow
no_class = record { name = []; superclass = None; in_file = false; indexed = NoIndexes; slots = 0; class_slots = 0 }

unfoldable pub body_at : Program → ℕ → Body
body_at p code = get_or p.bodies code no_body

unfoldable pub class_at : Program → ℕ → ClassRow
class_at p class = get_or p.classes class no_class

-- the text of a selector or symbol
unfoldable pub name_at : Program → ℕ → Text
name_at p number = get_or p.names number []

abbrev pub number_from : List Text → Text → ℕ → ℕ
number_from [] text n = n
number_from (t ∷ names) text n = elim (same_text t text) [ true ↦ n | false ↦ number_from names text (n + 1) ]

-- the number of a name, one past the last where it isn't there
unfoldable pub number_of : Program → Text → ℕ
number_of p text = number_from p.names text 0
