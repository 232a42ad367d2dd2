-- Compiled codes have room for the arguments of each send and for the variables of each body.
use Rattle.std.proofs.Common.{◌≡◌, ℕ, zero, suc, ◌+◌, ◌-◌, ◌<◌, ◌≤◌, Bool, true, false, List, [], ◌∷◌, map, Some, nat_lt, slice_get, if◌then◌else◌, refl, sym, subst, arith}
use Rattle.std.proofs.lemmas.Bool.{ltb-true, ltb-false}
use Rattle.std.proofs.lemmas.Option.{slice_get_past}
use Rattle.st_code.specs.declared.instruction.Instruction.{Instruction}
use Rattle.st_code.specs.declared.instruction.Instruction.TheVariants as instruction
use Rattle.st_code.specs.Program.{Program, Tree, Constant, Self, Variable, Assign, Block, Send, SuperSend, Cascade, SuperCascade, Trees, no_trees, more_trees, Messages, no_messages, more_messages, Statement, Plain, Return, Kind, InMethod, InBlock, InInitializer, Body}
use Rattle.st_code.specs.Code.{Instr, SendMessage, SendSuper, Store, Pop, count_of, code, code_args, code_messages, return_of, end_code, code_on, code_body}
use Rattle.st_code.specs.Compiled.{Compiled, compile_of, compiled_from, compiled_body, instruction_of, stand_after, most_standing, count_uncaptured}
use Rattle.st_rules.specs.Flat.{code_at, greatest_width}
use Rattle.st_machine.specs.Followed.{CountFits, Roomy}

-- ---- a code whose sends have their arguments, where so many operands stand before it

abbrev HasArguments : ℕ → Instruction → Type 0
HasArguments n (instruction.Send selector count) = count ≤ n
HasArguments n (instruction.SuperSend selector count) = count ≤ n
HasArguments n _ = Unit {0}

abbrev Stands : ℕ → List Instruction → Type 0
Stands n [] = Unit {0}
Stands n (i ∷ is) = HasArguments n i × Stands (stand_after i n) is

fits-here : (n room : ℕ) (i : Instruction) → HasArguments n i → n ≤ room → CountFits room (Some i)
fits-here n room (instruction.Send selector count) h low = omega (arith, h, low)
fits-here n room (instruction.SuperSend selector count) h low = omega (arith, h, low)
fits-here n room (instruction.PushConstant c) h low = tt
fits-here n room instruction.PushSelf h low = tt
fits-here n room (instruction.PushVariable v) h low = tt
fits-here n room (instruction.Store v) h low = tt
fits-here n room instruction.Pop h low = tt
fits-here n room instruction.Dup h low = tt
fits-here n room (instruction.MakeBlock c) h low = tt
fits-here n room instruction.MethodReturn h low = tt
fits-here n room instruction.HomeReturn h low = tt
fits-here n room instruction.BlockEnd h low = tt

-- each count fits where the most operands do
fits-at : (is : List Instruction) (n room k : ℕ) → Stands n is → most_standing is n ≤ room → CountFits room (slice_get is k)
fits-at [] n room k h most = subst (CountFits room) (sym (slice_get_past {X = Instruction} [] k (omega arith))) tt
fits-at (i ∷ is) n room zero h most = fits-here n room i h.0 (omega (arith, most))
fits-at (i ∷ is) n room (suc k) h most = fits-at is (stand_after i n) room k h.1 (omega (arith, most))

module _ (p : Program) (body : ℕ) where
  abbrev made : List Instr → List Instruction
  made is = map (instruction_of p body) is

  -- both ways to send
  data Sends : (ℕ → ℕ → Instr) → Type 0 where
    to_receiver : Sends SendMessage
    to_super : Sends SendSuper

  stands-sent : (send : ℕ → ℕ → Instr) → Sends send → (selector count n m : ℕ) (rest : List Instr) → count ≤ n → m ≡ n - count → Stands m (made rest) → Stands n (made (send selector count ∷ rest))
  stands-sent send to_receiver selector count n m rest low is h = (low, subst (λ k. Stands k (made rest)) is h)
  stands-sent send to_super selector count n m rest low is h = (low, subst (λ k. Stands k (made rest)) is h)

  mutual
    stands-code : (t : Tree) (n : ℕ) (rest : List Instr) → Stands (suc n) (made rest) → Stands n (made (code t rest))
    stands-code (Constant v) n rest h = (tt, h)
    stands-code Self n rest h = (tt, h)
    stands-code (Variable place) n rest h = (tt, h)
    stands-code (Assign place t) n rest h = stands-code t n (Store place ∷ rest) (tt, h)
    stands-code (Block c) n rest h = (tt, h)
    stands-code (Send selector t args) n rest h =
        stands-code t n (code_args args (SendMessage selector (count_of args) ∷ rest))
        (stands-args args (suc n) (SendMessage selector (count_of args) ∷ rest) (stands-sent SendMessage to_receiver selector (count_of args) (suc n + count_of args) (suc n) rest (omega arith) (omega arith) h))
    stands-code (SuperSend selector args) n rest h =
        (tt, stands-args args (suc n) (SendSuper selector (count_of args) ∷ rest) (stands-sent SendSuper to_super selector (count_of args) (suc n + count_of args) (suc n) rest (omega arith) (omega arith) h))
    stands-code (Cascade t messages) n rest h = stands-code t n (code_messages SendMessage messages rest) (stands-messages SendMessage to_receiver messages n rest h)
    stands-code (SuperCascade messages) n rest h = (tt, stands-messages SendSuper to_super messages n rest h)

    stands-args : (args : Trees) (n : ℕ) (rest : List Instr) → Stands (n + count_of args) (made rest) → Stands n (made (code_args args rest))
    stands-args no_trees n rest h = let e : n + 0 ≡ n = omega arith in subst (λ k. Stands k (made rest)) e h
    stands-args (more_trees t row) n rest h =
        let e : n + suc (count_of row) ≡ suc n + count_of row = omega arith in
        stands-code t n (code_args row rest) (stands-args row (suc n) rest (subst (λ k. Stands k (made rest)) e h))

    -- a receiver stands above so many
    stands-messages : (send : ℕ → ℕ → Instr) → Sends send → (ms : Messages) (n : ℕ) (rest : List Instr) → Stands (suc n) (made rest) → Stands (suc n) (made (code_messages send ms rest))
    stands-messages send s no_messages n rest h = h
    stands-messages send s (more_messages selector args no_messages) n rest h =
        stands-args args (suc n) (send selector (count_of args) ∷ rest) (stands-sent send s selector (count_of args) (suc n + count_of args) (suc n) rest (omega arith) (omega arith) h)
    stands-messages send s (more_messages selector args (more_messages next more row)) n rest h =
        let behind : List Instr = code_messages send (more_messages next more row) rest in (
          tt,
          stands-args args (suc (suc n)) (send selector (count_of args) ∷ Pop ∷ behind)
              (stands-sent send s selector (count_of args) (suc (suc n) + count_of args) (suc (suc n)) (Pop ∷ behind) (omega arith) (omega arith)
              (tt, let e : suc n ≡ suc (suc n) - 1 = omega arith in subst (λ k. Stands k (made behind)) e (stands-messages send s (more_messages next more row) n rest h))),
        )

  stands-return : (kind : Kind) (n : ℕ) → Stands n (made (return_of kind ∷ []))
  stands-return InMethod n = (tt, tt)
  stands-return InBlock n = (tt, tt)
  stands-return InInitializer n = (tt, tt)

  stands-end : (kind : Kind) (n : ℕ) → Stands n (made (end_code kind))
  stands-end InMethod n = (tt, (tt, (tt, tt)))
  stands-end InBlock n = (tt, tt)
  stands-end InInitializer n = (tt, tt)

  stands-on : (kind : Kind) (s : Statement) (row : List Statement) (n : ℕ) → Stands n (made (code_on kind s row))
  stands-on kind (Return t) row n = stands-code t n (return_of kind ∷ []) (stands-return kind (suc n))
  stands-on kind (Plain t) [] n = stands-code t n (end_code kind) (stands-end kind (suc n))
  stands-on kind (Plain t) (u ∷ row) n = stands-code t n (Pop ∷ code_on kind u row) (tt, stands-on kind u row (suc n - 1))

  stands-body : (kind : Kind) (row : List Statement) (n : ℕ) → Stands n (made (code_body kind row))
  stands-body InMethod [] n = (tt, (tt, tt))
  stands-body InBlock [] n = (tt, (tt, tt))
  stands-body InInitializer [] n = (tt, (tt, tt))
  stands-body kind (s ∷ row) n = stands-on kind s row n

-- ---- all codes of a program

wider : (b : Bool) (w g : ℕ) → nat_lt g w ≡ b → (w ≤ (if b then w else g)) × (g ≤ (if b then w else g))
wider true w g is = let low : g < w = ltb-true g w is in (omega arith, omega (arith, low))
wider false w g is = let low : w ≤ g = ltb-false g w is in (omega (arith, low), omega arith)

-- a code of the list with its own width
record Holds (c : Compiled) : Type 0 where
  pub stands : Stands 0 c.instructions
  pub width : c.width ≡ count_uncaptured c.captured + most_standing c.instructions 0

holds-compiled : (p : Program) (n : ℕ) (b : Body) → Holds (compiled_body p n b)
unfolding compiled_body
holds-compiled p n b = record { stands = stands-body p n b.kind b.statements 0; width = refl }

abbrev no_compiled : Compiled
no_compiled = code_at [] 0

-- what holds of a code that isn't there, and of each code of the program
codes-fit : (p : Program) (n : ℕ) (bodies : List Body) (c k room : ℕ) → greatest_width (compiled_from p n bodies) ≤ room
    → CountFits room (slice_get (code_at (compiled_from p n bodies) c).instructions k) × (count_uncaptured (code_at (compiled_from p n bodies) c).captured ≤ room)
unfolding code_at
codes-fit p n [] c k room most = (subst (CountFits room) (sym (slice_get_past {X = Instruction} [] k (omega arith))) tt, omega arith)
codes-fit p n (b ∷ bodies) zero k room most =
    let x : Compiled = compiled_body p n b in
    let h : Holds x = holds-compiled p n b in
    let both = wider (nat_lt (greatest_width (compiled_from p (suc n) bodies)) x.width) x.width (greatest_width (compiled_from p (suc n) bodies)) refl in
    (fits-at x.instructions 0 room k h.stands (omega (arith, h.width, both.0, most)), omega (arith, h.width, both.0, most))
codes-fit p n (b ∷ bodies) (suc c) k room most =
    let x : Compiled = compiled_body p n b in
    let both = wider (nat_lt (greatest_width (compiled_from p (suc n) bodies)) x.width) x.width (greatest_width (compiled_from p (suc n) bodies)) refl in
    codes-fit p (suc n) bodies c k room (omega (arith, both.1, most))

pub codes-are-roomy : (p : Program) → Roomy (compile_of p) (greatest_width (compile_of p))
unfolding compile_of
codes-are-roomy p =
    record {
      counts = λ c k. (codes-fit p 0 p.bodies c k (greatest_width (compiled_from p 0 p.bodies)) (omega arith)).0;
      variables = λ c. (codes-fit p 0 p.bodies c 0 (greatest_width (compiled_from p 0 p.bodies)) (omega arith)).1;
    }
