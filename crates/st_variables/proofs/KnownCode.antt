-- Code whose variables are known, from trees whose variables are.
use Rattle.std.proofs.Common.{◌≡◌, ℕ, zero, suc, ◌<◌, List, [], ◌∷◌, map, get_or, Option, Some, None, Bool, true, false}
use Rattle.object_heap.specs.declared.value.Value.{Value}
use Rattle.object_heap.specs.declared.value.Value.TheVariants.{Nil}
use Rattle.st_code.specs.declared.instruction.Variable.{Variable}
use Rattle.st_code.specs.declared.instruction.Instruction.TheVariants as instruction
use Rattle.st_code.specs.Program.{Program, Place, Scoped, Slot, ClassSlot, Shared, Tree, Constant, Self, Variable as VariableTree, Assign, Block, Send, SuperSend, Cascade, SuperCascade, Trees, no_trees, more_trees, Messages, no_messages, more_messages, Statement, Plain, Return, Kind, InMethod, InBlock, InInitializer, Body, body_at}
use Rattle.st_code.specs.Code.{Instr, PushConstant, PushSelf, Pop, Dup, PushVariable, Store, SendMessage, SendSuper, MakeBlock, MethodReturn, HomeReturn, BlockEnd, return_of, count_of, dup_for, pop_for, code, code_args, code_messages, end_code, empty_code, code_on, code_body}
use Rattle.st_code.specs.Compiled.{any_captured, is_captured, outwards, scoped_at, placed, instruction_of, variable_at, compiled_body, compiled_from, compile_of}
use Rattle.st_rules.specs.Flat.{code_at, no_code}
use Rattle.st_rules.specs.Objects.{AllIn, AllCodes, NamesShared, KnowsShared}
use Rattle.st_variables.specs.Known.{SlotKnown, ClassSlotKnown, OwnKnown, Knows}

module _ (p : Program) (class : Value) where
  -- a place in a body of this class
  abbrev pub PlaceKnown : Place → Type 0
  PlaceKnown (Scoped up index) = Unit {0}
  PlaceKnown (Slot index) = SlotKnown p class index
  PlaceKnown (ClassSlot index) = ClassSlotKnown p class index
  PlaceKnown (Shared index) = index < p.variables

  abbrev mutual
    pub TreeKnown : Tree → Type 0
    TreeKnown (Constant v) = Unit {0}
    TreeKnown Self = Unit {0}
    TreeKnown (VariableTree place) = PlaceKnown place
    TreeKnown (Assign place t) = PlaceKnown place × TreeKnown t
    TreeKnown (Block n) = (body_at p n).class ≡ class
    TreeKnown (Send selector t args) = TreeKnown t × TreesKnown args
    TreeKnown (SuperSend selector args) = TreesKnown args
    TreeKnown (Cascade t messages) = TreeKnown t × MessagesKnown messages
    TreeKnown (SuperCascade messages) = MessagesKnown messages

    pub TreesKnown : Trees → Type 0
    TreesKnown no_trees = Unit {0}
    TreesKnown (more_trees t row) = TreeKnown t × TreesKnown row

    pub MessagesKnown : Messages → Type 0
    MessagesKnown no_messages = Unit {0}
    MessagesKnown (more_messages selector args row) = TreesKnown args × MessagesKnown row

  abbrev pub StatementsKnown : List Statement → Type 0
  StatementsKnown [] = Unit {0}
  StatementsKnown (Plain t ∷ row) = TreeKnown t × StatementsKnown row
  StatementsKnown (Return t ∷ row) = TreeKnown t × StatementsKnown row

  abbrev InstrKnown : Instr → Type 0
  InstrKnown (PushVariable place) = PlaceKnown place
  InstrKnown (Store place) = PlaceKnown place
  InstrKnown (MakeBlock n) = (body_at p n).class ≡ class
  InstrKnown i = Unit {0}

  abbrev InstrsKnown : List Instr → Type 0
  InstrsKnown [] = Unit {0}
  InstrsKnown (i ∷ is) = InstrKnown i × InstrsKnown is

  dup_known : (messages : Messages) (rest : List Instr) → InstrsKnown rest → InstrsKnown (dup_for messages rest)
  dup_known no_messages rest h = h
  dup_known (more_messages selector args row) rest h = (tt, h)

  pop_known : (messages : Messages) (rest : List Instr) → InstrsKnown rest → InstrsKnown (pop_for messages rest)
  pop_known no_messages rest h = h
  pop_known (more_messages selector args row) rest h = (tt, h)

  mutual
    code_known : (t : Tree) (rest : List Instr) → TreeKnown t → InstrsKnown rest → InstrsKnown (code t rest)
    code_known (Constant v) rest s h = (tt, h)
    code_known Self rest s h = (tt, h)
    code_known (VariableTree place) rest s h = (s, h)
    code_known (Assign place t) rest s h = code_known t (Store place ∷ rest) s.1 (s.0, h)
    code_known (Block n) rest s h = (s, h)
    code_known (Send selector t args) rest s h = code_known t _ s.0 (args_known args _ s.1 (tt, h))
    code_known (SuperSend selector args) rest s h = (tt, args_known args _ s (tt, h))
    code_known (Cascade t messages) rest s h = code_known t _ s.0 (messages_known SendMessage (λ selector count. tt) messages rest s.1 h)
    code_known (SuperCascade messages) rest s h = (tt, messages_known SendSuper (λ selector count. tt) messages rest s h)

    args_known : (row : Trees) (rest : List Instr) → TreesKnown row → InstrsKnown rest → InstrsKnown (code_args row rest)
    args_known no_trees rest s h = h
    args_known (more_trees t row) rest s h = code_known t _ s.0 (args_known row rest s.1 h)

    messages_known : (send : ℕ → ℕ → Instr) → ((selector count : ℕ) → InstrKnown (send selector count)) → (row : Messages) (rest : List Instr) → MessagesKnown row → InstrsKnown rest → InstrsKnown (code_messages send row rest)
    messages_known send sound no_messages rest s h = h
    messages_known send sound (more_messages selector args row) rest s h =
        dup_known row _ (args_known args _ s.0 (sound selector (count_of args), pop_known row _ (messages_known send sound row rest s.1 h)))

  end_known : (kind : Kind) → InstrsKnown (end_code kind)
  end_known InMethod = (tt, (tt, (tt, tt)))
  end_known InBlock = (tt, tt)
  end_known InInitializer = (tt, tt)

  empty_known : (kind : Kind) → InstrsKnown (empty_code kind)
  empty_known InMethod = (tt, (tt, tt))
  empty_known InBlock = (tt, (tt, tt))
  empty_known InInitializer = (tt, (tt, tt))

  return_known : (kind : Kind) → InstrKnown (return_of kind)
  return_known InMethod = tt
  return_known InBlock = tt
  return_known InInitializer = tt

  on_known : (kind : Kind) (s : Statement) (row : List Statement) → StatementsKnown (s ∷ row) → InstrsKnown (code_on kind s row)
  on_known kind (Return t) row h = code_known t _ h.0 (return_known kind, tt)
  on_known kind (Plain t) [] h = code_known t _ h.0 (end_known kind)
  on_known kind (Plain t) (u ∷ row) h = code_known t _ h.0 (tt, on_known kind u row h.1)

  body_known : (kind : Kind) (row : List Statement) → StatementsKnown row → InstrsKnown (code_body kind row)
  body_known kind [] h = empty_known kind
  body_known kind (s ∷ row) h = on_known kind s row h

  -- ---- the code as it is compiled

  abbrev NotOwn : Variable → Type 0
  NotOwn v = OwnKnown p class v × (NamesShared p.variables (instruction.PushVariable v) × NamesShared p.variables (instruction.Store v))

  placed_not : (b : Bool) (n : ℕ) (captured : List Bool) (index : ℕ) → NotOwn (placed b n captured index)
  placed_not true n captured index = (tt, (tt, tt))
  placed_not false n captured index = (tt, (tt, tt))

  scoped_not : (n up : ℕ) (o : Option ℕ) (index : ℕ) → NotOwn (scoped_at p n up o index)
  scoped_not n up None index = (tt, (tt, tt))
  scoped_not n zero (Some m) index = placed_not (is_captured (body_at p m).captured index) n (body_at p m).captured index
  scoped_not n (suc up) (Some m) index = scoped_not (outwards n (any_captured (body_at p m).captured)) up (body_at p m).outer index

  variable_known : (number : ℕ) (place : Place) → PlaceKnown place → NotOwn (variable_at p number place)
  unfolding variable_at
  variable_known number (Scoped up index) h = scoped_not 0 up (Some number) index
  variable_known number (Slot index) h = (h, (tt, tt))
  variable_known number (ClassSlot index) h = (h, (tt, tt))
  variable_known number (Shared index) h = (tt, (h, h))

  instruction_known : (number : ℕ) (i : Instr) → InstrKnown i → Knows p class (instruction_of p number i) × NamesShared p.variables (instruction_of p number i)
  instruction_known number (PushVariable place) h = let k = variable_known number place h in (k.0, k.1.0)
  instruction_known number (Store place) h = let k = variable_known number place h in (k.0, k.1.1)
  instruction_known number (MakeBlock n) h = (h, tt)
  instruction_known number (PushConstant v) h = (tt, tt)
  instruction_known number PushSelf h = (tt, tt)
  instruction_known number Pop h = (tt, tt)
  instruction_known number Dup h = (tt, tt)
  instruction_known number (SendMessage selector count) h = (tt, tt)
  instruction_known number (SendSuper selector count) h = (tt, tt)
  instruction_known number MethodReturn h = (tt, tt)
  instruction_known number HomeReturn h = (tt, tt)
  instruction_known number BlockEnd h = (tt, tt)

  instructions_known : (number : ℕ) (is : List Instr) → InstrsKnown is → AllIn (Knows p class) (map (instruction_of p number) is) × AllIn (NamesShared p.variables) (map (instruction_of p number) is)
  instructions_known number [] h = (tt, tt)
  instructions_known number (i ∷ is) h =
      let a = instruction_known number i h.0 in
      let b = instructions_known number is h.1 in
      ((a.0, b.0), (a.1, b.1))

-- ---- all bodies of a program

module _ (p : Program) where
  abbrev pub BodiesKnown : List Body → Type 0
  BodiesKnown [] = Unit {0}
  BodiesKnown (b ∷ bodies) = StatementsKnown p b.class b.statements × BodiesKnown bodies

  shared_from : (number : ℕ) (bodies : List Body) → BodiesKnown bodies → AllCodes (NamesShared p.variables) (compiled_from p number bodies)
  unfolding compiled_body
  shared_from number [] h = tt
  shared_from number (b ∷ bodies) h =
      ((instructions_known p b.class number (code_body b.kind b.statements) (body_known p b.class b.kind b.statements h.0)).1, shared_from (suc number) bodies h.1)

  abbrev no_body : Body
  no_body = record { kind = InBlock; class = Nil; parameters = 0; captured = []; outer = None; statements = [] }

  own_from : (number i : ℕ) (bodies : List Body) → BodiesKnown bodies → AllIn (Knows p (get_or bodies i no_body).class) (get_or (compiled_from p number bodies) i no_code).instructions
  unfolding compiled_body
  own_from number i [] h = tt
  own_from number zero (b ∷ bodies) h = (instructions_known p b.class number (code_body b.kind b.statements) (body_known p b.class b.kind b.statements h.0)).0
  own_from number (suc i) (b ∷ bodies) h = own_from (suc number) i bodies h.1

  pub shared_known : BodiesKnown p.bodies → KnowsShared p
  unfolding compile_of
  shared_known h = shared_from 0 p.bodies h

  pub own_known : BodiesKnown p.bodies → (number : ℕ) → AllIn (Knows p (body_at p number).class) (code_at (compile_of p) number).instructions
  unfolding compile_of body_at code_at
  own_known h number = own_from 0 number p.bodies h
