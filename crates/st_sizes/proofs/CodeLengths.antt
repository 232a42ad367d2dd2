-- How long the code of a tree is.
use Rattle.std.proofs.Common.{ℕ, suc, ◌+◌, ◌≤◌, List, [], ◌∷◌, length, arith}
use Rattle.st_code.specs.Code.{Instr, Pop, Store, SendMessage, SendSuper, return_of, count_of, dup_for, pop_for, code, code_args, code_messages, end_code, empty_code, code_on, code_body}
use Rattle.st_code.specs.Program.{Tree, Constant, Self, Variable, Assign, Block, Send, SuperSend, Cascade, SuperCascade, Trees, no_trees, more_trees, Messages, no_messages, more_messages, Statement, Plain, Return, Kind, InMethod, InBlock, InInitializer}

-- at most so many instructions: three for a message of a cascade, with Dup and Pop
abbrev mutual
  pub tree_cost : Tree → ℕ
  tree_cost (Constant v) = 1
  tree_cost Self = 1
  tree_cost (Variable place) = 1
  tree_cost (Assign place t) = suc (tree_cost t)
  tree_cost (Block n) = 1
  tree_cost (Send selector t args) = tree_cost t + suc (trees_cost args)
  tree_cost (SuperSend selector args) = suc (suc (trees_cost args))
  tree_cost (Cascade t messages) = tree_cost t + messages_cost messages
  tree_cost (SuperCascade messages) = suc (messages_cost messages)

  pub trees_cost : Trees → ℕ
  trees_cost no_trees = 0
  trees_cost (more_trees t row) = tree_cost t + trees_cost row

  pub messages_cost : Messages → ℕ
  messages_cost no_messages = 0
  messages_cost (more_messages selector args row) = 3 + trees_cost args + messages_cost row

dup_long : (messages : Messages) (rest : List Instr) → length (dup_for messages rest) ≤ suc (length rest)
dup_long no_messages rest = omega arith
dup_long (more_messages selector args row) rest = omega arith

pop_long : (messages : Messages) (rest : List Instr) → length (pop_for messages rest) ≤ suc (length rest)
pop_long no_messages rest = omega arith
pop_long (more_messages selector args row) rest = omega arith

mutual
  code_long : (t : Tree) (rest : List Instr) → length (code t rest) ≤ tree_cost t + length rest
  code_long (Constant v) rest = omega arith
  code_long Self rest = omega arith
  code_long (Variable place) rest = omega arith
  code_long (Assign place t) rest = let h = code_long t (Store place ∷ rest) in omega (arith, h)
  code_long (Block n) rest = omega arith
  code_long (Send selector t args) rest =
      let g = code_long t (code_args args (SendMessage selector (count_of args) ∷ rest)) in
      let h = args_long args (SendMessage selector (count_of args) ∷ rest) in omega (arith, g, h)
  code_long (SuperSend selector args) rest = let h = args_long args (SendSuper selector (count_of args) ∷ rest) in omega (arith, h)
  code_long (Cascade t messages) rest =
      let g = code_long t (code_messages SendMessage messages rest) in
      let h = messages_long SendMessage messages rest in omega (arith, g, h)
  code_long (SuperCascade messages) rest = let h = messages_long SendSuper messages rest in omega (arith, h)

  args_long : (row : Trees) (rest : List Instr) → length (code_args row rest) ≤ trees_cost row + length rest
  args_long no_trees rest = omega arith
  args_long (more_trees t row) rest = let g = code_long t (code_args row rest) in let h = args_long row rest in omega (arith, g, h)

  messages_long : (send : ℕ → ℕ → Instr) (row : Messages) (rest : List Instr) → length (code_messages send row rest) ≤ messages_cost row + length rest
  messages_long send no_messages rest = omega arith
  messages_long send (more_messages selector args row) rest =
      let later = code_messages send row rest in
      let sent = send selector (count_of args) ∷ pop_for row later in
      let a = dup_long row (code_args args sent) in
      let b = args_long args sent in
      let c = pop_long row later in
      let d = messages_long send row rest in omega (arith, a, b, c, d)

-- statements, one instruction behind each
abbrev pub statements_cost : List Statement → ℕ
statements_cost [] = 0
statements_cost (Plain t ∷ row) = suc (tree_cost t + statements_cost row)
statements_cost (Return t ∷ row) = suc (tree_cost t + statements_cost row)

end_long : (kind : Kind) → length (end_code kind) ≤ 3
end_long InMethod = omega arith
end_long InBlock = omega arith
end_long InInitializer = omega arith

empty_long : (kind : Kind) → length (empty_code kind) ≤ 2
empty_long InMethod = omega arith
empty_long InBlock = omega arith
empty_long InInitializer = omega arith

on_long : (kind : Kind) (s : Statement) (row : List Statement) → length (code_on kind s row) ≤ statements_cost (s ∷ row) + 2
on_long kind (Return t) row = let h = code_long t (return_of kind ∷ []) in omega (arith, h)
on_long kind (Plain t) [] = let g = code_long t (end_code kind) in let h = end_long kind in omega (arith, g, h)
on_long kind (Plain t) (u ∷ row) = let g = code_long t (Pop ∷ code_on kind u row) in let h = on_long kind u row in omega (arith, g, h)

pub body_long : (kind : Kind) (row : List Statement) → length (code_body kind row) ≤ statements_cost row + 2
body_long kind [] = empty_long kind
body_long kind (s ∷ row) = on_long kind s row
