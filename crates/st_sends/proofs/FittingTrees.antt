-- Trees whose messages have as many arguments as their selectors take, and their code.
use Rattle.std.proofs.Common.{◌≡◌, ℕ, zero, suc, ◌<◌, ◌≤◌, ◌⊎◌, inl, inr, map, length, get_or, List, [], ◌∷◌, ◌++◌, None, refl, sym, ap, ◌∙◌, subst, arith}
use Rattle.std.proofs.lemmas.Bool.{cases_lt}
use Rattle.object_heap.specs.declared.value.Value.TheVariants.{Nil}
use Rattle.st_code.specs.Code.{Instr, PushConstant, PushSelf, Pop, Dup, PushVariable, Store, SendMessage, SendSuper, MakeBlock, MethodReturn, HomeReturn, BlockEnd, return_of, count_of, dup_for, pop_for, code, code_args, code_messages, end_code, empty_code, code_on, code_body}
use Rattle.st_code.specs.Compiled.{Compiled, instruction_of, compiled_body, compile_of}
use Rattle.st_code.specs.Program.{Program, Tree, Constant, Self, Variable, Assign, Block, Send, SuperSend, Cascade, SuperCascade, Trees, no_trees, more_trees, Messages, no_messages, more_messages, Statement, Plain, Return, Kind, InMethod, InBlock, InInitializer, Body, body_at}
use Rattle.st_rules.specs.Flat.{no_code, code_at}
use Rattle.st_rules.specs.Objects.{AllIn}
use Rattle.st_rules.proofs.FlatCode.{code_is, list_size}
use Rattle.st_sends.specs.Arguments.{Takes, SendTakes}

module _ (p : Program) where
  abbrev mutual
    pub TreeTakes : Tree → Type 0
    TreeTakes (Constant v) = Unit {0}
    TreeTakes Self = Unit {0}
    TreeTakes (Variable place) = Unit {0}
    TreeTakes (Assign place t) = TreeTakes t
    TreeTakes (Block n) = Unit {0}
    TreeTakes (Send selector t args) = Takes p selector (count_of args) × TreeTakes t × TreesTake args
    TreeTakes (SuperSend selector args) = Takes p selector (count_of args) × TreesTake args
    TreeTakes (Cascade t messages) = TreeTakes t × MessagesTake messages
    TreeTakes (SuperCascade messages) = MessagesTake messages

    pub TreesTake : Trees → Type 0
    TreesTake no_trees = Unit {0}
    TreesTake (more_trees t row) = TreeTakes t × TreesTake row

    pub MessagesTake : Messages → Type 0
    MessagesTake no_messages = Unit {0}
    MessagesTake (more_messages selector args row) = Takes p selector (count_of args) × TreesTake args × MessagesTake row

  abbrev pub StatementsTake : List Statement → Type 0
  StatementsTake [] = Unit {0}
  StatementsTake (Plain t ∷ row) = TreeTakes t × StatementsTake row
  StatementsTake (Return t ∷ row) = TreeTakes t × StatementsTake row

  abbrev InstrTakes : Instr → Type 0
  InstrTakes (SendMessage selector count) = Takes p selector count
  InstrTakes (SendSuper selector count) = Takes p selector count
  InstrTakes i = Unit {0}

  abbrev InstrsTake : List Instr → Type 0
  InstrsTake [] = Unit {0}
  InstrsTake (i ∷ is) = InstrTakes i × InstrsTake is

  dup_takes : (messages : Messages) (rest : List Instr) → InstrsTake rest → InstrsTake (dup_for messages rest)
  dup_takes no_messages rest h = h
  dup_takes (more_messages selector args row) rest h = (tt, h)

  pop_takes : (messages : Messages) (rest : List Instr) → InstrsTake rest → InstrsTake (pop_for messages rest)
  pop_takes no_messages rest h = h
  pop_takes (more_messages selector args row) rest h = (tt, h)

  mutual
    code_takes : (t : Tree) (rest : List Instr) → TreeTakes t → InstrsTake rest → InstrsTake (code t rest)
    code_takes (Constant v) rest s h = (tt, h)
    code_takes Self rest s h = (tt, h)
    code_takes (Variable place) rest s h = (tt, h)
    code_takes (Assign place t) rest s h = code_takes t (Store place ∷ rest) s (tt, h)
    code_takes (Block n) rest s h = (tt, h)
    code_takes (Send selector t args) rest s h = code_takes t _ s.1 (args_take args _ s.2 (s.0, h))
    code_takes (SuperSend selector args) rest s h = (tt, args_take args _ s.1 (s.0, h))
    code_takes (Cascade t messages) rest s h = code_takes t _ s.0 (messages_take SendMessage (λ selector count e. e) messages rest s.1 h)
    code_takes (SuperCascade messages) rest s h = (tt, messages_take SendSuper (λ selector count e. e) messages rest s h)

    args_take : (row : Trees) (rest : List Instr) → TreesTake row → InstrsTake rest → InstrsTake (code_args row rest)
    args_take no_trees rest s h = h
    args_take (more_trees t row) rest s h = code_takes t _ s.0 (args_take row rest s.1 h)

    messages_take : (send : ℕ → ℕ → Instr) → ((selector count : ℕ) → Takes p selector count → InstrTakes (send selector count)) → (row : Messages) (rest : List Instr) → MessagesTake row → InstrsTake rest → InstrsTake (code_messages send row rest)
    messages_take send sound no_messages rest s h = h
    messages_take send sound (more_messages selector args row) rest s h =
        dup_takes row _ (args_take args _ s.1 (sound selector (count_of args) s.0, pop_takes row _ (messages_take send sound row rest s.2 h)))

  end_takes : (kind : Kind) → InstrsTake (end_code kind)
  end_takes InMethod = (tt, (tt, (tt, tt)))
  end_takes InBlock = (tt, tt)
  end_takes InInitializer = (tt, tt)

  empty_takes : (kind : Kind) → InstrsTake (empty_code kind)
  empty_takes InMethod = (tt, (tt, tt))
  empty_takes InBlock = (tt, (tt, tt))
  empty_takes InInitializer = (tt, (tt, tt))

  return_takes : (kind : Kind) → InstrTakes (return_of kind)
  return_takes InMethod = tt
  return_takes InBlock = tt
  return_takes InInitializer = tt

  on_takes : (kind : Kind) (s : Statement) (row : List Statement) → StatementsTake (s ∷ row) → InstrsTake (code_on kind s row)
  on_takes kind (Return t) row h = code_takes t _ h.0 (return_takes kind, tt)
  on_takes kind (Plain t) [] h = code_takes t _ h.0 (end_takes kind)
  on_takes kind (Plain t) (u ∷ row) h = code_takes t _ h.0 (tt, on_takes kind u row h.1)

  body_takes : (kind : Kind) (row : List Statement) → StatementsTake row → InstrsTake (code_body kind row)
  body_takes kind [] h = empty_takes kind
  body_takes kind (s ∷ row) h = on_takes kind s row h

  -- ---- the code as it is compiled

  instruction_takes : (number : ℕ) (i : Instr) → InstrTakes i → SendTakes p (instruction_of p number i)
  instruction_takes number (PushConstant v) h = tt
  instruction_takes number PushSelf h = tt
  instruction_takes number Pop h = tt
  instruction_takes number Dup h = tt
  instruction_takes number (PushVariable place) h = tt
  instruction_takes number (Store place) h = tt
  instruction_takes number (SendMessage selector count) h = h
  instruction_takes number (SendSuper selector count) h = h
  instruction_takes number (MakeBlock n) h = tt
  instruction_takes number MethodReturn h = tt
  instruction_takes number HomeReturn h = tt
  instruction_takes number BlockEnd h = tt

  instructions_take : (number : ℕ) (is : List Instr) → InstrsTake is → AllIn (SendTakes p) (map (instruction_of p number) is)
  instructions_take number [] h = tt
  instructions_take number (i ∷ is) h = (instruction_takes number i h.0, instructions_take number is h.1)

  abbrev pub BodiesTake : List Body → Type 0
  BodiesTake [] = Unit {0}
  BodiesTake (b ∷ bodies) = StatementsTake b.statements × BodiesTake bodies

  pub bodies_append : (xs ys : List Body) → BodiesTake xs → BodiesTake ys → BodiesTake (xs ++ ys)
  bodies_append [] ys g h = h
  bodies_append (x ∷ xs) ys g h = (g.0, bodies_append xs ys g.1 h)

abbrev no_body : Body
no_body = record { kind = InBlock; class = Nil; parameters = 0; captured = []; outer = None; statements = [] }

body_at_takes : (p : Program) → BodiesTake p p.bodies → (number : ℕ) → StatementsTake p (body_at p number).statements
unfolding body_at
body_at_takes p h number = go p.bodies number h
  where
    go : (bodies : List Body) (n : ℕ) → BodiesTake p bodies → StatementsTake p (get_or bodies n no_body).statements
    go [] n h = tt
    go (b ∷ bodies) zero h = h.0
    go (b ∷ bodies) (suc n) h = go bodies n h.1

past_end : {A : Type 0} (xs : List A) (n : ℕ) (d : A) → length xs ≤ n → get_or xs n d ≡ d
past_end [] n d l = refl
past_end (x ∷ xs) zero d l = let none : ⊥ = omega (arith, l) in absurd none
past_end (x ∷ xs) (suc n) d l = past_end xs n d (omega (arith, l))

no_code_past : (p : Program) (number : ℕ) → length p.bodies ≤ number → (code_at (compile_of p) number).instructions ≡ []
unfolding code_at compile_of
no_code_past p number l = let size = list_size p 0 p.bodies in ap (λ (c : Compiled). c.instructions) (past_end (compile_of p) number no_code (omega (arith, size, l)))

compiled_is : (p : Program) (number : ℕ) (b : Body) → (compiled_body p number b).instructions ≡ map (instruction_of p number) (code_body b.kind b.statements)
unfolding compiled_body
compiled_is p number b = refl

pub code_takes_at : (p : Program) → BodiesTake p p.bodies → (number : ℕ) → AllIn (SendTakes p) (code_at (compile_of p) number).instructions
code_takes_at p h number = go (cases_lt number (length p.bodies))
  where
    go : (number < length p.bodies) ⊎ (length p.bodies ≤ number) → AllIn (SendTakes p) (code_at (compile_of p) number).instructions
    go (inl l) =
        let b = body_at p number in
        let e : (code_at (compile_of p) number).instructions ≡ map (instruction_of p number) (code_body b.kind b.statements) = ap (λ (c : Compiled). c.instructions) (code_is p number l) ∙ compiled_is p number b in
        subst (AllIn (SendTakes p)) (sym e) (instructions_take p number (code_body b.kind b.statements) (body_takes p b.kind b.statements (body_at_takes p h number)))
    go (inr l) = subst (AllIn (SendTakes p)) (sym (no_code_past p number l)) tt
