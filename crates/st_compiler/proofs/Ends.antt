-- The code of each body ends in a return.
use Rattle.std.proofs.Common.{◌≡◌, ℕ, suc, true, ◌&&◌, List, [], ◌∷◌, ◌++◌, map, refl, ap, ◌∙◌, arith}
use Rattle.std.proofs.lemmas.List.{map-append}
use Rattle.st_code.specs.declared.instruction.Instruction.{Instruction}
use Rattle.st_code.specs.Program.{Program, Body, Statement, Plain, Return, Kind, InMethod, InBlock, InInitializer, Tree}
use Rattle.st_code.specs.Code.{Instr, Pop, return_of, end_code, code, code_on, code_body}
use Rattle.st_code.specs.Compiled.{instruction_of, compiled_body, compiled_from, compile_of}
use Rattle.st_compiler.specs.Ends.{ends, all_end}
use Rattle.st_compiler.proofs.Pieces.{code-append}

ends-behind : (i : Instruction) (is : List Instruction) → ends is ≡ true → ends (i ∷ is) ≡ true
ends-behind i [] end = absurd (grind (arith, end))
ends-behind i (j ∷ is) end = end

ends-append : (is js : List Instruction) → ends js ≡ true → ends (is ++ js) ≡ true
ends-append [] js end = end
ends-append (i ∷ is) js end = ends-behind i (is ++ js) (ends-append is js end)

module _ (p : Program) (n : ℕ) where
  tree-ends : (t : Tree) (rest : List Instr) → ends (map (instruction_of p n) rest) ≡ true → ends (map (instruction_of p n) (code t rest)) ≡ true
  tree-ends t rest end =
      ap (λ is. ends (map (instruction_of p n) is)) (code-append t rest) ∙ ap ends (map-append (instruction_of p n) (code t []) rest)
      ∙ ends-append (map (instruction_of p n) (code t [])) (map (instruction_of p n) rest) end

  return-ends : (k : Kind) → ends (map (instruction_of p n) (return_of k ∷ [])) ≡ true
  return-ends InMethod = refl
  return-ends InBlock = refl
  return-ends InInitializer = refl

  last-ends : (k : Kind) → ends (map (instruction_of p n) (end_code k)) ≡ true
  last-ends InMethod = refl
  last-ends InBlock = refl
  last-ends InInitializer = refl

  statements-end : (k : Kind) (s : Statement) (row : List Statement) → ends (map (instruction_of p n) (code_on k s row)) ≡ true
  statements-end k (Return t) row = tree-ends t (return_of k ∷ []) (return-ends k)
  statements-end k (Plain t) [] = tree-ends t (end_code k) (last-ends k)
  statements-end k (Plain t) (u ∷ row) = tree-ends t (Pop ∷ code_on k u row) (ends-behind (instruction_of p n Pop) (map (instruction_of p n) (code_on k u row)) (statements-end k u row))

  body-ends : (k : Kind) (row : List Statement) → ends (map (instruction_of p n) (code_body k row)) ≡ true
  body-ends InMethod [] = refl
  body-ends InBlock [] = refl
  body-ends InInitializer [] = refl
  body-ends k (s ∷ row) = statements-end k s row

code-ends : (p : Program) (n : ℕ) (b : Body) → ends (compiled_body p n b).instructions ≡ true
unfolding compiled_body
code-ends p n b = body-ends p n b.kind b.statements

from-end : (p : Program) (n : ℕ) (bodies : List Body) → all_end (compiled_from p n bodies) ≡ true
from-end p n [] = refl
from-end p n (b ∷ bodies) = ap (λ c. c && all_end (compiled_from p (suc n) bodies)) (code-ends p n b) ∙ from-end p (suc n) bodies

pub codes_end : (p : Program) → all_end (compile_of p) ≡ true
unfolding compile_of
codes_end p = from-end p 0 p.bodies
