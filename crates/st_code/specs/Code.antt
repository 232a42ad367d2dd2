-- The code of bodies: what the instruction machine runs for each expression and statement. This form is the profile's own.
use Rattle.std.specs.Prelude.{ℕ, suc, List, [], ◌∷◌}
use Rattle.object_heap.specs.declared.value.Value.{Value}
use Rattle.object_heap.specs.declared.value.Value.TheVariants.{Nil}
use Rattle.st_code.specs.Program.{Place, Tree, Constant, Self, Variable, Assign, Block, Send, SuperSend, Cascade, SuperCascade, Trees, no_trees, more_trees, Messages, no_messages, more_messages, Statement, Plain, Return, Kind, InMethod, InBlock, InInitializer}

-- a Push of a constant, self or a variable; a Store, which keeps the value; messages with their count of arguments; a block of this code; the ends of methods and blocks
pub data Instr : Type 0 where
  PushConstant : Value → Instr
  PushSelf Pop Dup : Instr
  PushVariable Store : Place → Instr
  SendMessage SendSuper : (selector count : ℕ) → Instr
  MakeBlock : (code : ℕ) → Instr
  MethodReturn HomeReturn BlockEnd : Instr

abbrev pub return_of : Kind → Instr
return_of InMethod = MethodReturn
return_of InBlock = HomeReturn
return_of InInitializer = BlockEnd

abbrev pub count_of : Trees → ℕ
count_of no_trees = 0
count_of (more_trees t row) = suc (count_of row)

-- a cascade's receiver is kept for the messages that follow
abbrev pub dup_for : Messages → List Instr → List Instr
dup_for no_messages rest = rest
dup_for (more_messages selector args row) rest = Dup ∷ rest

abbrev pub pop_for : Messages → List Instr → List Instr
pop_for no_messages rest = rest
pop_for (more_messages selector args row) rest = Pop ∷ rest

-- the code of an expression, of arguments and of a cascade's messages, before more code
abbrev mutual
  pub code : Tree → List Instr → List Instr
  code (Constant v) rest = PushConstant v ∷ rest
  code Self rest = PushSelf ∷ rest
  code (Variable place) rest = PushVariable place ∷ rest
  code (Assign place t) rest = code t (Store place ∷ rest)
  code (Block n) rest = MakeBlock n ∷ rest
  code (Send selector t args) rest = code t (code_args args (SendMessage selector (count_of args) ∷ rest))
  code (SuperSend selector args) rest = PushSelf ∷ code_args args (SendSuper selector (count_of args) ∷ rest)
  code (Cascade t messages) rest = code t (code_messages SendMessage messages rest)
  code (SuperCascade messages) rest = PushSelf ∷ code_messages SendSuper messages rest

  pub code_args : Trees → List Instr → List Instr
  code_args no_trees rest = rest
  code_args (more_trees t row) rest = code t (code_args row rest)

  pub code_messages : (ℕ → ℕ → Instr) → Messages → List Instr → List Instr
  code_messages send no_messages rest = rest
  code_messages send (more_messages selector args row) rest =
      dup_for row (code_args args (send selector (count_of args) ∷ pop_for row (code_messages send row rest)))

-- behind a last statement without `^`, and for a body without statements
abbrev pub end_code : Kind → List Instr
end_code InMethod = Pop ∷ PushSelf ∷ MethodReturn ∷ []
end_code InBlock = BlockEnd ∷ []
end_code InInitializer = BlockEnd ∷ []

abbrev pub empty_code : Kind → List Instr
empty_code InMethod = PushSelf ∷ MethodReturn ∷ []
empty_code InBlock = PushConstant Nil ∷ BlockEnd ∷ []
empty_code InInitializer = PushConstant Nil ∷ BlockEnd ∷ []

-- a statement and those after it; `^` is the last
abbrev pub code_on : Kind → Statement → List Statement → List Instr
code_on kind (Return t) row = code t (return_of kind ∷ [])
code_on kind (Plain t) [] = code t (end_code kind)
code_on kind (Plain t) (u ∷ row) = code t (Pop ∷ code_on kind u row)

abbrev pub code_body : Kind → List Statement → List Instr
code_body kind [] = empty_code kind
code_body kind (s ∷ row) = code_on kind s row
