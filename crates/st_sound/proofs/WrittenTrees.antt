-- Trees whose blocks and slots of self are of the class that they are written in, and their code.
use Rattle.std.proofs.Common.{◌≡◌, ℕ, zero, suc, ◌<◌, ◌≤◌, ◌⊎◌, inl, inr, map, length, get_or, List, [], ◌∷◌, ◌++◌, Option, Some, None, Bool, true, false, refl, sym, ap, ◌∙◌, subst, arith}
use Rattle.std.proofs.lemmas.Bool.{cases_lt}
use Rattle.object_heap.specs.declared.value.Value.{Value}
use Rattle.object_heap.specs.declared.value.Value.TheVariants.{Nil}
use Rattle.st_code.specs.Code.{Instr, PushConstant, PushSelf, Pop, Dup, PushVariable, Store, SendMessage, SendSuper, MakeBlock, MethodReturn, HomeReturn, BlockEnd, return_of, count_of, dup_for, pop_for, code, code_args, code_messages, end_code, empty_code, code_on, code_body}
use Rattle.st_code.specs.Compiled.{Compiled, any_captured, is_captured, instruction_of, variable_at, compiled_body, compile_of}
use Rattle.st_code.specs.Program.{Program, Place, Scoped, Slot, ClassSlot, Shared, Tree, Constant, Self, Variable, Assign, Block, Send, SuperSend, Cascade, SuperCascade, Trees, no_trees, more_trees, Messages, no_messages, more_messages, Statement, Plain, Return, Kind, InMethod, InBlock, InInitializer, Body, body_at}
use Rattle.st_code.specs.declared.instruction.Instruction.TheVariants as instruction
use Rattle.st_code.specs.declared.instruction.Variable.{Variable as Placed}
use Rattle.st_rules.specs.Flat.{no_code, code_at}
use Rattle.st_rules.specs.Objects.{AllIn}
use Rattle.st_rules.proofs.FlatCode.{code_is, list_size}
use Rattle.st_rules.proofs.FlatVariables.{kind_at, found_at}
use Rattle.st_sound.specs.KnownCollections.{IsDeclared, Written}

module _ (p : Program) (class : Value) where
  -- a place that is assigned to
  abbrev pub PlaceWritten : Place → Type 0
  PlaceWritten (Slot index) = IsDeclared p class
  PlaceWritten place = Unit {0}

  abbrev mutual
    pub TreeWritten : Tree → Type 0
    TreeWritten (Constant v) = Unit {0}
    TreeWritten Self = Unit {0}
    TreeWritten (Variable place) = Unit {0}
    TreeWritten (Assign place t) = PlaceWritten place × TreeWritten t
    TreeWritten (Block n) = (body_at p n).class ≡ class
    TreeWritten (Send selector t args) = TreeWritten t × TreesWritten args
    TreeWritten (SuperSend selector args) = TreesWritten args
    TreeWritten (Cascade t messages) = TreeWritten t × MessagesWritten messages
    TreeWritten (SuperCascade messages) = MessagesWritten messages

    pub TreesWritten : Trees → Type 0
    TreesWritten no_trees = Unit {0}
    TreesWritten (more_trees t row) = TreeWritten t × TreesWritten row

    pub MessagesWritten : Messages → Type 0
    MessagesWritten no_messages = Unit {0}
    MessagesWritten (more_messages selector args row) = TreesWritten args × MessagesWritten row

  abbrev pub StatementsWritten : List Statement → Type 0
  StatementsWritten [] = Unit {0}
  StatementsWritten (Plain t ∷ row) = TreeWritten t × StatementsWritten row
  StatementsWritten (Return t ∷ row) = TreeWritten t × StatementsWritten row

  -- ---- code

  abbrev InstrWritten : Instr → Type 0
  InstrWritten (Store place) = PlaceWritten place
  InstrWritten (MakeBlock n) = (body_at p n).class ≡ class
  InstrWritten i = Unit {0}

  abbrev InstrsWritten : List Instr → Type 0
  InstrsWritten [] = Unit {0}
  InstrsWritten (i ∷ is) = InstrWritten i × InstrsWritten is

  dup_written : (messages : Messages) (rest : List Instr) → InstrsWritten rest → InstrsWritten (dup_for messages rest)
  dup_written no_messages rest h = h
  dup_written (more_messages selector args row) rest h = (tt, h)

  pop_written : (messages : Messages) (rest : List Instr) → InstrsWritten rest → InstrsWritten (pop_for messages rest)
  pop_written no_messages rest h = h
  pop_written (more_messages selector args row) rest h = (tt, h)

  mutual
    code_written : (t : Tree) (rest : List Instr) → TreeWritten t → InstrsWritten rest → InstrsWritten (code t rest)
    code_written (Constant v) rest s h = (tt, h)
    code_written Self rest s h = (tt, h)
    code_written (Variable place) rest s h = (tt, h)
    code_written (Assign place t) rest s h = code_written t (Store place ∷ rest) s.1 (s.0, h)
    code_written (Block n) rest s h = (s, h)
    code_written (Send selector t args) rest s h = code_written t _ s.0 (args_written args _ s.1 (tt, h))
    code_written (SuperSend selector args) rest s h = (tt, args_written args _ s (tt, h))
    code_written (Cascade t messages) rest s h = code_written t _ s.0 (messages_written SendMessage (λ selector count. tt) messages rest s.1 h)
    code_written (SuperCascade messages) rest s h = (tt, messages_written SendSuper (λ selector count. tt) messages rest s h)

    args_written : (row : Trees) (rest : List Instr) → TreesWritten row → InstrsWritten rest → InstrsWritten (code_args row rest)
    args_written no_trees rest s h = h
    args_written (more_trees t row) rest s h = code_written t _ s.0 (args_written row rest s.1 h)

    messages_written : (send : ℕ → ℕ → Instr) → ((selector count : ℕ) → InstrWritten (send selector count)) → (row : Messages) (rest : List Instr) → MessagesWritten row → InstrsWritten rest → InstrsWritten (code_messages send row rest)
    messages_written send sound no_messages rest s h = h
    messages_written send sound (more_messages selector args row) rest s h =
        dup_written row _ (args_written args _ s.0 (sound selector (count_of args), pop_written row _ (messages_written send sound row rest s.1 h)))

  end_written : (kind : Kind) → InstrsWritten (end_code kind)
  end_written InMethod = (tt, (tt, (tt, tt)))
  end_written InBlock = (tt, tt)
  end_written InInitializer = (tt, tt)

  empty_written : (kind : Kind) → InstrsWritten (empty_code kind)
  empty_written InMethod = (tt, (tt, tt))
  empty_written InBlock = (tt, (tt, tt))
  empty_written InInitializer = (tt, (tt, tt))

  return_written : (kind : Kind) → InstrWritten (return_of kind)
  return_written InMethod = tt
  return_written InBlock = tt
  return_written InInitializer = tt

  on_written : (kind : Kind) (s : Statement) (row : List Statement) → StatementsWritten (s ∷ row) → InstrsWritten (code_on kind s row)
  on_written kind (Return t) row h = code_written t _ h.0 (return_written kind, tt)
  on_written kind (Plain t) [] h = code_written t _ h.0 (end_written kind)
  on_written kind (Plain t) (u ∷ row) h = code_written t _ h.0 (tt, on_written kind u row h.1)

  body_written : (kind : Kind) (row : List Statement) → StatementsWritten row → InstrsWritten (code_body kind row)
  body_written kind [] h = empty_written kind
  body_written kind (s ∷ row) h = on_written kind s row h

-- ---- the code as it is compiled

module _ (p : Program) (number : ℕ) where
  -- no variable of a scope is a slot of self
  abbrev Free : Placed → Type 0
  Free v = Written p number (instruction.Store v)

  kind_free : (b : Bool) (k : ℕ) (c : List Bool) (index : ℕ) → Free (kind_at b k c index)
  kind_free true k c index = tt
  kind_free false k c index = tt

  abbrev outwards_by : ℕ → Bool → ℕ
  outwards_by k true = suc k
  outwards_by k false = k

  found_free : (k up : ℕ) (o : Option ℕ) (index : ℕ) → Free (found_at p k up o index)
  found_free k up None index = tt
  found_free k zero (Some m) index = kind_free (is_captured (body_at p m).captured index) k (body_at p m).captured index
  found_free k (suc up) (Some m) index = found_free (outwards_by k (any_captured (body_at p m).captured)) up (body_at p m).outer index

  place_free : (place : Place) → PlaceWritten p (body_at p number).class place → Free (variable_at p number place)
  unfolding variable_at
  place_free (Scoped up index) h = found_free 0 up (Some number) index
  place_free (Slot index) h = h
  place_free (ClassSlot index) h = tt
  place_free (Shared index) h = tt

  abbrev C : Value
  C = (body_at p number).class

  instruction_written : (i : Instr) → InstrWritten p C i → Written p number (instruction_of p number i)
  instruction_written (PushConstant v) h = tt
  instruction_written PushSelf h = tt
  instruction_written Pop h = tt
  instruction_written Dup h = tt
  instruction_written (PushVariable place) h = tt
  instruction_written (Store place) h = place_free place h
  instruction_written (SendMessage selector count) h = tt
  instruction_written (SendSuper selector count) h = tt
  instruction_written (MakeBlock n) h = h
  instruction_written MethodReturn h = tt
  instruction_written HomeReturn h = tt
  instruction_written BlockEnd h = tt

  instructions_written : (is : List Instr) → InstrsWritten p C is → AllIn (Written p number) (map (instruction_of p number) is)
  instructions_written [] h = tt
  instructions_written (i ∷ is) h = (instruction_written i h.0, instructions_written is h.1)

-- the statements of each body, by the class that it is written in
abbrev pub BodiesWritten : Program → List Body → Type 0
BodiesWritten p [] = Unit {0}
BodiesWritten p (b ∷ bodies) = StatementsWritten p b.class b.statements × BodiesWritten p bodies

pub bodies_append : (p : Program) (xs ys : List Body) → BodiesWritten p xs → BodiesWritten p ys → BodiesWritten p (xs ++ ys)
bodies_append p [] ys g h = h
bodies_append p (x ∷ xs) ys g h = (g.0, bodies_append p xs ys g.1 h)

abbrev no_body : Body
no_body = record { kind = InBlock; class = Nil; parameters = 0; captured = []; outer = None; statements = [] }

body_at_written : (p : Program) → BodiesWritten p p.bodies → (number : ℕ) → StatementsWritten p (body_at p number).class (body_at p number).statements
unfolding body_at
body_at_written p h number = go p.bodies number h
  where
    go : (bodies : List Body) (n : ℕ) → BodiesWritten p bodies → StatementsWritten p (get_or bodies n no_body).class (get_or bodies n no_body).statements
    go [] n h = tt
    go (b ∷ bodies) zero h = h.0
    go (b ∷ bodies) (suc n) h = go bodies n h.1

past_end : {A : Type 0} (xs : List A) (n : ℕ) (d : A) → length xs ≤ n → get_or xs n d ≡ d
past_end [] n d l = refl
past_end (x ∷ xs) zero d l = let none : ⊥ = omega (arith, l) in absurd none
past_end (x ∷ xs) (suc n) d l = past_end xs n d (omega (arith, l))

no_code_past : (p : Program) (number : ℕ) → length p.bodies ≤ number → (code_at (compile_of p) number).instructions ≡ []
unfolding code_at compile_of
no_code_past p number l =
    let size = list_size p 0 p.bodies in
    ap (λ (c : Compiled). c.instructions) (past_end (compile_of p) number no_code (omega (arith, size, l)))

compiled_is : (p : Program) (number : ℕ) (b : Body) → (compiled_body p number b).instructions ≡ map (instruction_of p number) (code_body b.kind b.statements)
unfolding compiled_body
compiled_is p number b = refl

pub code_written_at : (p : Program) → BodiesWritten p p.bodies → (number : ℕ) → AllIn (Written p number) (code_at (compile_of p) number).instructions
code_written_at p h number = go (cases_lt number (length p.bodies))
  where
    go : (number < length p.bodies) ⊎ (length p.bodies ≤ number) → AllIn (Written p number) (code_at (compile_of p) number).instructions
    go (inl l) =
        let b = body_at p number in
        let e : (code_at (compile_of p) number).instructions ≡ map (instruction_of p number) (code_body b.kind b.statements) = ap (λ (c : Compiled). c.instructions) (code_is p number l) ∙ compiled_is p number b in
        subst (AllIn (Written p number)) (sym e) (instructions_written p number (code_body b.kind b.statements) (body_written p b.class b.kind b.statements (body_at_written p h number)))
    go (inr l) = subst (AllIn (Written p number)) (sym (no_code_past p number l)) tt
