-- Trees whose constants and variables are there, and their code.
use Rattle.std.proofs.Common.{ℕ, zero, suc, ◌<◌, List, [], ◌∷◌, map, get_or, Option, Some, None, Bool, true, false}
use Rattle.object_heap.specs.declared.value.Value.{Value}
use Rattle.object_heap.specs.declared.value.Value.TheVariants.{Nil, True, False, Integer, Character, Symbol, Class, Meta, Transcript, Object}
use Rattle.st_code.specs.declared.instruction.Variable.{Variable}
use Rattle.st_code.specs.declared.instruction.Instruction.{Instruction}
use Rattle.st_code.specs.declared.instruction.Instruction.TheVariants as instruction
use Rattle.st_code.specs.Program.{Program, Place, Scoped, Slot, ClassSlot, Shared, Tree, Constant, Self, Variable as VariableTree, Assign, Block, Send, SuperSend, Cascade, SuperCascade, Trees, no_trees, more_trees, Messages, no_messages, more_messages, Statement, Plain, Return, Kind, InMethod, InBlock, InInitializer, Body, body_at}
use Rattle.st_code.specs.Code.{Instr, PushConstant, PushSelf, Pop, Dup, PushVariable, Store, SendMessage, SendSuper, MakeBlock, MethodReturn, HomeReturn, BlockEnd, return_of, count_of, dup_for, pop_for, code, code_args, code_messages, end_code, empty_code, code_on, code_body}
use Rattle.st_code.specs.Compiled.{constant_value, constant_of, any_captured, is_captured, instruction_of, variable_at, compiled_body, compiled_from, compile_of}
use Rattle.law_values.specs.KnownNumbers.{Has, NamesLiteral}
use Rattle.st_rules.specs.Objects.{AllIn, AllCodes, NamesShared}
use Rattle.st_rules.proofs.FlatVariables.{kind_at, found_at}

module _ (C : ℕ) (low : 29 < C) where
  module _ (K : ℕ) (V : Place → Type 0) where
    abbrev mutual
      pub TreeHas : Tree → Type 0
      TreeHas (Constant v) = Has C K v
      TreeHas Self = Unit {0}
      TreeHas (VariableTree place) = V place
      TreeHas (Assign place t) = V place × TreeHas t
      TreeHas (Block n) = Unit {0}
      TreeHas (Send selector t args) = TreeHas t × TreesHave args
      TreeHas (SuperSend selector args) = TreesHave args
      TreeHas (Cascade t messages) = TreeHas t × MessagesHave messages
      TreeHas (SuperCascade messages) = MessagesHave messages

      pub TreesHave : Trees → Type 0
      TreesHave no_trees = Unit {0}
      TreesHave (more_trees t row) = TreeHas t × TreesHave row

      pub MessagesHave : Messages → Type 0
      MessagesHave no_messages = Unit {0}
      MessagesHave (more_messages selector args row) = TreesHave args × MessagesHave row

    abbrev pub StatementsHave : List Statement → Type 0
    StatementsHave [] = Unit {0}
    StatementsHave (Plain t ∷ row) = TreeHas t × StatementsHave row
    StatementsHave (Return t ∷ row) = TreeHas t × StatementsHave row

    abbrev pub InstrHas : Instr → Type 0
    InstrHas (PushConstant v) = Has C K v
    InstrHas (PushVariable place) = V place
    InstrHas (Store place) = V place
    InstrHas i = Unit {0}

    abbrev pub InstrsHave : List Instr → Type 0
    InstrsHave [] = Unit {0}
    InstrsHave (i ∷ is) = InstrHas i × InstrsHave is

    -- the statements of bodies, and the classes that they are written in
    abbrev pub BodiesHave : List Body → Type 0
    BodiesHave [] = Unit {0}
    BodiesHave (b ∷ bodies) = (StatementsHave b.statements × Has C K b.class) × BodiesHave bodies

    dup_has : (messages : Messages) (rest : List Instr) → InstrsHave rest → InstrsHave (dup_for messages rest)
    dup_has no_messages rest h = h
    dup_has (more_messages selector args row) rest h = (tt, h)

    pop_has : (messages : Messages) (rest : List Instr) → InstrsHave rest → InstrsHave (pop_for messages rest)
    pop_has no_messages rest h = h
    pop_has (more_messages selector args row) rest h = (tt, h)

    mutual
      code_has : (t : Tree) (rest : List Instr) → TreeHas t → InstrsHave rest → InstrsHave (code t rest)
      code_has (Constant v) rest s h = (s, h)
      code_has Self rest s h = (tt, h)
      code_has (VariableTree place) rest s h = (s, h)
      code_has (Assign place t) rest s h = code_has t (Store place ∷ rest) s.1 (s.0, h)
      code_has (Block n) rest s h = (tt, h)
      code_has (Send selector t args) rest s h = code_has t _ s.0 (args_have args _ s.1 (tt, h))
      code_has (SuperSend selector args) rest s h = (tt, args_have args _ s (tt, h))
      code_has (Cascade t messages) rest s h = code_has t _ s.0 (messages_have SendMessage (λ selector count. tt) messages rest s.1 h)
      code_has (SuperCascade messages) rest s h = (tt, messages_have SendSuper (λ selector count. tt) messages rest s h)

      args_have : (row : Trees) (rest : List Instr) → TreesHave row → InstrsHave rest → InstrsHave (code_args row rest)
      args_have no_trees rest s h = h
      args_have (more_trees t row) rest s h = code_has t _ s.0 (args_have row rest s.1 h)

      messages_have : (send : ℕ → ℕ → Instr) → ((selector count : ℕ) → InstrHas (send selector count)) → (row : Messages) (rest : List Instr) → MessagesHave row → InstrsHave rest → InstrsHave (code_messages send row rest)
      messages_have send sound no_messages rest s h = h
      messages_have send sound (more_messages selector args row) rest s h =
          dup_has row _ (args_have args _ s.0 (sound selector (count_of args), pop_has row _ (messages_have send sound row rest s.1 h)))

    end_has : (kind : Kind) → InstrsHave (end_code kind)
    end_has InMethod = (tt, (tt, (tt, tt)))
    end_has InBlock = (tt, tt)
    end_has InInitializer = (tt, tt)

    empty_has : (kind : Kind) → InstrsHave (empty_code kind)
    empty_has InMethod = (tt, (tt, tt))
    empty_has InBlock = (tt, (tt, tt))
    empty_has InInitializer = (tt, (tt, tt))

    return_has : (kind : Kind) → InstrHas (return_of kind)
    return_has InMethod = tt
    return_has InBlock = tt
    return_has InInitializer = tt

    on_has : (kind : Kind) (s : Statement) (row : List Statement) → StatementsHave (s ∷ row) → InstrsHave (code_on kind s row)
    on_has kind (Return t) row h = code_has t _ h.0 (return_has kind, tt)
    on_has kind (Plain t) [] h = code_has t _ h.0 (end_has kind)
    on_has kind (Plain t) (u ∷ row) h = code_has t _ h.0 (tt, on_has kind u row h.1)

    body_has : (kind : Kind) (row : List Statement) → StatementsHave row → InstrsHave (code_body kind row)
    body_has kind [] h = empty_has kind
    body_has kind (s ∷ row) h = on_has kind s row h

    -- ---- the code as it is compiled

    module _ (p : Program) (P : Instruction → Type 0) (each : (number : ℕ) (i : Instr) → InstrHas i → P (instruction_of p number i)) where
      instructions_have : (number : ℕ) (is : List Instr) → InstrsHave is → AllIn P (map (instruction_of p number) is)
      instructions_have number [] h = tt
      instructions_have number (i ∷ is) h = (each number i h.0, instructions_have number is h.1)

      codes_from : (number : ℕ) (bodies : List Body) → BodiesHave bodies → AllCodes P (compiled_from p number bodies)
      unfolding compiled_body
      codes_from number [] h = tt
      codes_from number (b ∷ bodies) h = (instructions_have number (code_body b.kind b.statements) (body_has b.kind b.statements h.0.0), codes_from (suc number) bodies h.1)

      pub codes_have : BodiesHave p.bodies → AllCodes P (compile_of p)
      unfolding compile_of
      codes_have h = codes_from 0 p.bodies h

    pub class_has : (p : Program) → BodiesHave p.bodies → (number : ℕ) → Has C K (body_at p number).class
    unfolding body_at
    class_has p h number = go p.bodies number h
      where
        go : (bodies : List Body) (n : ℕ) → BodiesHave bodies → Has C K (get_or bodies n (record { kind = InBlock; class = Nil; parameters = 0; captured = []; outer = None; statements = [] })).class
        go [] n h = tt
        go (b ∷ bodies) zero h = h.0.1
        go (b ∷ bodies) (suc n) h = go bodies n h.1

  -- ---- what a compiled instruction names

  constant_has : (K : ℕ) (v : Value) → Has C K v → Has C K (constant_value (constant_of v))
  constant_has K (Object n) h = h
  constant_has K Nil h = tt
  constant_has K True h = tt
  constant_has K False h = tt
  constant_has K (Integer n) h = tt
  constant_has K (Character c) h = tt
  constant_has K (Symbol n) h = tt
  constant_has K (Class c) h = h
  constant_has K (Meta c) h = h
  constant_has K Transcript h = tt

  pub names_literal : (K : ℕ) (V : Place → Type 0) (p : Program) (number : ℕ) (i : Instr) → InstrHas K V i → NamesLiteral C K (instruction_of p number i)
  names_literal K V p number (PushConstant v) h = constant_has K v h
  names_literal K V p number PushSelf h = tt
  names_literal K V p number Pop h = tt
  names_literal K V p number Dup h = tt
  names_literal K V p number (PushVariable place) h = tt
  names_literal K V p number (Store place) h = tt
  names_literal K V p number (SendMessage selector count) h = tt
  names_literal K V p number (SendSuper selector count) h = tt
  names_literal K V p number (MakeBlock n) h = tt
  names_literal K V p number MethodReturn h = tt
  names_literal K V p number HomeReturn h = tt
  names_literal K V p number BlockEnd h = tt

  -- a variable of the program is one of so many
  abbrev pub SharedPlace : ℕ → Place → Type 0
  SharedPlace n (Shared index) = index < n
  SharedPlace n place = Unit {0}

  abbrev NotShared : Variable → Type 0
  NotShared v = (n : ℕ) → NamesShared n (instruction.PushVariable v) × NamesShared n (instruction.Store v)

  kind_not : (b : Bool) (k : ℕ) (c : List Bool) (index : ℕ) → NotShared (kind_at b k c index)
  kind_not true k c index = λ n. (tt, tt)
  kind_not false k c index = λ n. (tt, tt)

  abbrev outwards_by : ℕ → Bool → ℕ
  outwards_by k true = suc k
  outwards_by k false = k

  found_not : (p : Program) (k up : ℕ) (o : Option ℕ) (index : ℕ) → NotShared (found_at p k up o index)
  found_not p k up None index = λ n. (tt, tt)
  found_not p k zero (Some m) index = kind_not (is_captured (body_at p m).captured index) k (body_at p m).captured index
  found_not p k (suc up) (Some m) index = found_not p (outwards_by k (any_captured (body_at p m).captured)) up (body_at p m).outer index

  place_names : (n : ℕ) (p : Program) (number : ℕ) (place : Place) → SharedPlace n place → NamesShared n (instruction.PushVariable (variable_at p number place)) × NamesShared n (instruction.Store (variable_at p number place))
  unfolding variable_at
  place_names n p number (Scoped up index) h = found_not p 0 up (Some number) index n
  place_names n p number (Slot index) h = (tt, tt)
  place_names n p number (ClassSlot index) h = (tt, tt)
  place_names n p number (Shared index) h = (h, h)

  pub names_shared : (K n : ℕ) (p : Program) (number : ℕ) (i : Instr) → InstrHas K (SharedPlace n) i → NamesShared n (instruction_of p number i)
  names_shared K n p number (PushConstant v) h = tt
  names_shared K n p number PushSelf h = tt
  names_shared K n p number Pop h = tt
  names_shared K n p number Dup h = tt
  names_shared K n p number (PushVariable place) h = (place_names n p number place h).0
  names_shared K n p number (Store place) h = (place_names n p number place h).1
  names_shared K n p number (SendMessage selector count) h = tt
  names_shared K n p number (SendSuper selector count) h = tt
  names_shared K n p number (MakeBlock m) h = tt
  names_shared K n p number MethodReturn h = tt
  names_shared K n p number HomeReturn h = tt
  names_shared K n p number BlockEnd h = tt
