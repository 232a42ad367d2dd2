-- The code of drafts is the code of the program whose bodies they are.
use Rattle.std.proofs.Common.{◌≡◌, ℕ, zero, suc, ◌+◌, Bool, true, false, List, [], ◌∷◌, map, get_or, Option, Some, None, refl, ap, ◌∙◌, arith, nat_lt}
use Rattle.std.proofs.lemmas.Bool.Decides.{nat_tests}
use Rattle.object_heap.specs.declared.value.Value.TheVariants.{Nil}
use Rattle.st_code.specs.declared.instruction.Instruction.TheVariants as instruction
use Rattle.st_code.specs.Program.{Program, Body, body_at, Place, Scoped, Slot, ClassSlot, Shared, InBlock}
use Rattle.st_code.specs.Code.{Instr, PushConstant, PushSelf, Pop, Dup, PushVariable, Store, SendMessage, SendSuper, MakeBlock, MethodReturn, HomeReturn, BlockEnd, code_body}
use Rattle.st_code.specs.Compiled.{is_captured, any_captured, captured_before, placed, outwards, scoped_at, variable_at, instruction_of, compiled_with, compiled_body, compiled_from, compile_of, Compiled}
use Rattle.st_compiler.specs.declared.draft.DraftBody.{DraftBody}
use Rattle.st_compiler.specs.Befores.{befores, count_captured}
use Rattle.st_compiler.specs.Drafted.{drafted}
use Rattle.st_compiler.specs.Placed.{captured_at, outer_at, before_at, captures_at, placed_behind, scoped_in, variable_in, instruction_in, compiled_draft, compiled_drafts}

abbrev no_body : Body
no_body = record { kind = InBlock; class = Nil; parameters = 0; captured = []; outer = None; statements = [] }

captured-in : (bodies : List Body) (n : ℕ) → captured_at (map drafted bodies) n ≡ (get_or bodies n no_body).captured
captured-in [] n = refl
captured-in (b ∷ bodies) zero = refl
captured-in (b ∷ bodies) (suc n) = captured-in bodies n

outer-in : (bodies : List Body) (n : ℕ) → outer_at (map drafted bodies) n ≡ (get_or bodies n no_body).outer
outer-in [] n = refl
outer-in (b ∷ bodies) zero = refl
outer-in (b ∷ bodies) (suc n) = outer-in bodies n

before-is : (captured : List Bool) (count i : ℕ) → get_or (befores count captured) i (count + count_captured captured) ≡ count + captured_before i captured
before-is [] count zero = refl
before-is [] count (suc i) = refl
before-is (true ∷ captured) count zero = omega arith
before-is (true ∷ captured) count (suc i) =
    ap (get_or (befores (count + 1) captured) i) (omega arith) ∙ before-is captured (count + 1) i ∙ omega arith
before-is (false ∷ captured) count zero = omega arith
before-is (false ∷ captured) count (suc i) =
    ap (λ k. get_or (befores k captured) i (count + (0 + count_captured captured))) (omega arith) ∙ ap (get_or (befores count captured) i) (omega arith) ∙ before-is captured count i

before-in : (bodies : List Body) (n i : ℕ) → before_at (map drafted bodies) n i ≡ captured_before i (get_or bodies n no_body).captured
before-in [] n zero = refl
before-in [] n (suc i) = refl
before-in (b ∷ bodies) zero i = ap (get_or (befores 0 b.captured) i) (omega arith) ∙ before-is b.captured 0 i ∙ omega arith
before-in (b ∷ bodies) (suc n) i = before-in bodies n i

captures-is : (captured : List Bool) → nat_lt 0 (count_captured captured) ≡ any_captured captured
captures-is [] = refl
captures-is (true ∷ captured) = grind (arith, nat_tests)
captures-is (false ∷ captured) = ap (nat_lt 0) (omega arith) ∙ captures-is captured

captures-in : (bodies : List Body) (n : ℕ) → captures_at (map drafted bodies) n ≡ any_captured (get_or bodies n no_body).captured
captures-in [] n = refl
captures-in (b ∷ bodies) zero = captures-is b.captured
captures-in (b ∷ bodies) (suc n) = captures-in bodies n

captured-same : (p : Program) (n : ℕ) → captured_at (map drafted p.bodies) n ≡ (body_at p n).captured
unfolding body_at
captured-same p n = captured-in p.bodies n

outer-same : (p : Program) (n : ℕ) → outer_at (map drafted p.bodies) n ≡ (body_at p n).outer
unfolding body_at
outer-same p n = outer-in p.bodies n

before-same : (p : Program) (n i : ℕ) → before_at (map drafted p.bodies) n i ≡ captured_before i (body_at p n).captured
unfolding body_at
before-same p n i = before-in p.bodies n i

captures-same : (p : Program) (n : ℕ) → captures_at (map drafted p.bodies) n ≡ any_captured (body_at p n).captured
unfolding body_at
captures-same p n = captures-in p.bodies n

placed-same : (b : Bool) (scopes index : ℕ) (captured : List Bool) → placed_behind b scopes (captured_before index captured) index ≡ placed b scopes captured index
placed-same true scopes index captured = refl
placed-same false scopes index captured = refl

scoped-same : (p : Program) (scopes up : ℕ) (code : Option ℕ) (index : ℕ) → scoped_in (map drafted p.bodies) scopes up code index ≡ scoped_at p scopes up code index
scoped-same p scopes zero None index = refl
scoped-same p scopes (suc up) None index = refl
scoped-same p scopes zero (Some n) index =
    ap (λ bs. placed_behind (is_captured bs index) scopes (before_at (map drafted p.bodies) n index) index) (captured-same p n)
    ∙ ap (λ k. placed_behind (is_captured (body_at p n).captured index) scopes k index) (before-same p n index)
    ∙ placed-same (is_captured (body_at p n).captured index) scopes index (body_at p n).captured
scoped-same p scopes (suc up) (Some n) index =
    ap (λ c. scoped_in (map drafted p.bodies) (outwards scopes c) up (outer_at (map drafted p.bodies) n) index) (captures-same p n)
    ∙ ap (λ o. scoped_in (map drafted p.bodies) (outwards scopes (any_captured (body_at p n).captured)) up o index) (outer-same p n)
    ∙ scoped-same p (outwards scopes (any_captured (body_at p n).captured)) up (body_at p n).outer index

variable-same : (p : Program) (code : ℕ) (place : Place) → variable_in (map drafted p.bodies) code place ≡ variable_at p code place
unfolding variable_at
variable-same p code (Scoped up index) = scoped-same p 0 up (Some code) index
variable-same p code (Slot index) = refl
variable-same p code (ClassSlot index) = refl
variable-same p code (Shared index) = refl

instruction-same : (p : Program) (code : ℕ) (i : Instr) → instruction_in (map drafted p.bodies) code i ≡ instruction_of p code i
instruction-same p code (PushConstant v) = refl
instruction-same p code PushSelf = refl
instruction-same p code Pop = refl
instruction-same p code Dup = refl
instruction-same p code (PushVariable place) = ap instruction.PushVariable (variable-same p code place)
instruction-same p code (Store place) = ap instruction.Store (variable-same p code place)
instruction-same p code (SendMessage selector count) = refl
instruction-same p code (SendSuper selector count) = refl
instruction-same p code (MakeBlock n) = refl
instruction-same p code MethodReturn = refl
instruction-same p code HomeReturn = refl
instruction-same p code BlockEnd = refl

instructions-same : (p : Program) (code : ℕ) (is : List Instr) → map (instruction_in (map drafted p.bodies) code) is ≡ map (instruction_of p code) is
instructions-same p code [] = refl
instructions-same p code (i ∷ is) = ap (λ j. j ∷ map (instruction_in (map drafted p.bodies) code) is) (instruction-same p code i) ∙ ap (λ js. instruction_of p code i ∷ js) (instructions-same p code is)

body-same : (p : Program) (code : ℕ) (b : Body) → compiled_draft (map drafted p.bodies) code (drafted b) ≡ compiled_body p code b
unfolding compiled_body
body-same p code b = ap (compiled_with b) (instructions-same p code (code_body b.kind b.statements))

bodies-same : (p : Program) (code : ℕ) (bodies : List Body) → compiled_drafts (map drafted p.bodies) code (map drafted bodies) ≡ compiled_from p code bodies
bodies-same p code [] = refl
bodies-same p code (b ∷ bodies) = ap (λ c. c ∷ compiled_drafts (map drafted p.bodies) (suc code) (map drafted bodies)) (body-same p code b) ∙ ap (λ cs. compiled_body p code b ∷ cs) (bodies-same p (suc code) bodies)

pub compiled-same : (p : Program) (drafts : List DraftBody) (codes : List Compiled) → drafts ≡ map drafted p.bodies → codes ≡ compiled_drafts drafts 0 drafts → codes ≡ compile_of p
unfolding compile_of
compiled-same p drafts codes are is = is ∙ ap (λ ds. compiled_drafts ds 0 ds) are ∙ bodies-same p 0 p.bodies
