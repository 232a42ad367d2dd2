-- Each send to super in compiled code has self as its receiver.
use Rattle.std.proofs.Common.{◌≡◌, ℕ, zero, suc, List, [], ◌∷◌, ◌++◌, map, length, get_or, append_assoc, Bool, true, false, refl, sym, subst, arith}
use Rattle.std.proofs.lemmas.List.{length-append}
use Rattle.st_code.specs.Program.{Program, Tree, Constant, Self, Variable, Assign, Block, Send, SuperSend, Cascade, SuperCascade, Trees, no_trees, more_trees, Messages, no_messages, more_messages, Statement, Plain, Return, Kind, InMethod, InBlock, InInitializer, Body}
use Rattle.st_code.specs.Code.{Instr, Pop, Store, SendMessage, SendSuper, return_of, count_of, code, code_args, code_messages, end_code, empty_code, code_on, code_body}
use Rattle.st_code.specs.Compiled.{instruction_of, compiled_body, compiled_from, compile_of}
use Rattle.st_rules.specs.Flat.{no_code, code_at}
use Rattle.st_rules.proofs.SuperSends.{flag_at, behind_so_many, SendsToSelf}

-- ---- operands that arguments have pushed

flag_under : (n : ℕ) (bs : List Bool) (b : Bool) (flags : List Bool) → length bs ≡ n → flag_at n (bs ++ b ∷ flags) ≡ b
flag_under zero [] b flags e = refl
flag_under zero (c ∷ bs) b flags e = let none : ⊥ = omega (arith, e) in absurd none
flag_under (suc n) [] b flags e = let none : ⊥ = omega (arith, e) in absurd none
flag_under (suc n) (c ∷ bs) b flags e = flag_under n bs b flags (omega (arith, e))

behind_them : (n : ℕ) (bs : List Bool) (b : Bool) (flags : List Bool) → length bs ≡ n → behind_so_many (suc n) (bs ++ b ∷ flags) ≡ flags
behind_them zero [] b flags e = refl
behind_them zero (c ∷ bs) b flags e = let none : ⊥ = omega (arith, e) in absurd none
behind_them (suc n) [] b flags e = let none : ⊥ = omega (arith, e) in absurd none
behind_them (suc n) (c ∷ bs) b flags e = behind_them n bs b flags (omega (arith, e))

module _ (p : Program) (number : ℕ) where
  -- code that is compiled, behind these operands
  abbrev Good : List Instr → List Bool → Type 0
  Good is flags = SendsToSelf (map (instruction_of p number) is) flags

  sent_good : (selector count : ℕ) (bs : List Bool) (b : Bool) (flags : List Bool) (rest : List Instr) → length bs ≡ count → Good rest (false ∷ flags) → Good (SendMessage selector count ∷ rest) (bs ++ b ∷ flags)
  sent_good selector count bs b flags rest e h = subst (λ fs. Good rest (false ∷ fs)) (sym (behind_them count bs b flags e)) h

  super_good : (selector count : ℕ) (bs : List Bool) (flags : List Bool) (rest : List Instr) → length bs ≡ count → Good rest (false ∷ flags) → Good (SendSuper selector count ∷ rest) (bs ++ true ∷ flags)
  super_good selector count bs flags rest e h = (flag_under count bs true flags e, subst (λ fs. Good rest (false ∷ fs)) (sym (behind_them count bs true flags e)) h)

  -- a message of a cascade, whose receiver has this flag
  abbrev Sends : (ℕ → ℕ → Instr) → Bool → Type 0
  Sends send b = (selector count : ℕ) (bs : List Bool) (flags : List Bool) (rest : List Instr) → length bs ≡ count → Good rest (false ∷ flags) → Good (send selector count ∷ rest) (bs ++ b ∷ flags)

  mutual
    code_good : (t : Tree) (rest : List Instr) (flags : List Bool) → ((b : Bool) → Good rest (b ∷ flags)) → Good (code t rest) flags
    code_good (Constant v) rest flags on = on false
    code_good Self rest flags on = on true
    code_good (Variable place) rest flags on = on false
    code_good (Assign place t) rest flags on = code_good t (Store place ∷ rest) flags on
    code_good (Block n) rest flags on = on false
    code_good (Send selector t args) rest flags on =
        code_good t (code_args args (SendMessage selector (count_of args) ∷ rest)) flags (λ b. args_good args (SendMessage selector (count_of args) ∷ rest) (b ∷ flags) (λ bs e. sent_good selector (count_of args) bs b flags rest e (on false)))
    code_good (SuperSend selector args) rest flags on =
        args_good args (SendSuper selector (count_of args) ∷ rest) (true ∷ flags) (λ bs e. super_good selector (count_of args) bs flags rest e (on false))
    code_good (Cascade t messages) rest flags on =
        code_good t (code_messages SendMessage messages rest) flags (λ b. messages_good SendMessage b (λ selector count bs fs is e h. sent_good selector count bs b fs is e h) messages rest flags on)
    code_good (SuperCascade messages) rest flags on = messages_good SendSuper true (λ selector count bs fs is e h. super_good selector count bs fs is e h) messages rest flags on

    args_good : (row : Trees) (rest : List Instr) (flags : List Bool) → ((bs : List Bool) → length bs ≡ count_of row → Good rest (bs ++ flags)) → Good (code_args row rest) flags
    args_good no_trees rest flags on = on [] refl
    args_good (more_trees t row) rest flags on =
        code_good t (code_args row rest) flags (λ b. args_good row rest (b ∷ flags) (λ bs e.
        let n = length-append bs (b ∷ []) in
        subst (λ fs. Good rest fs) (append_assoc bs (b ∷ []) flags) (on (bs ++ b ∷ []) (omega (arith, n, e)))))

    messages_good : (send : ℕ → ℕ → Instr) (b : Bool) → Sends send b → (row : Messages) (rest : List Instr) (flags : List Bool) → ((c : Bool) → Good rest (c ∷ flags)) → Good (code_messages send row rest) (b ∷ flags)
    messages_good send b sends no_messages rest flags on = on b
    messages_good send b sends (more_messages selector args no_messages) rest flags on =
        args_good args (send selector (count_of args) ∷ rest) (b ∷ flags) (λ bs e. sends selector (count_of args) bs flags rest e (on false))
    messages_good send b sends (more_messages selector args (more_messages other more row)) rest flags on =
        args_good args (send selector (count_of args) ∷ Pop ∷ code_messages send (more_messages other more row) rest) (b ∷ b ∷ flags)
        (λ bs e. sends selector (count_of args) bs (b ∷ flags) (Pop ∷ code_messages send (more_messages other more row) rest) e (messages_good send b sends (more_messages other more row) rest flags on))

  end_good : (kind : Kind) (b : Bool) (flags : List Bool) → Good (end_code kind) (b ∷ flags)
  end_good InMethod b flags = tt
  end_good InBlock b flags = tt
  end_good InInitializer b flags = tt

  empty_good : (kind : Kind) → Good (empty_code kind) []
  empty_good InMethod = tt
  empty_good InBlock = tt
  empty_good InInitializer = tt

  return_good : (kind : Kind) (b : Bool) (flags : List Bool) → Good (return_of kind ∷ []) (b ∷ flags)
  return_good InMethod b flags = tt
  return_good InBlock b flags = tt
  return_good InInitializer b flags = tt

  on_good : (kind : Kind) (s : Statement) (row : List Statement) → Good (code_on kind s row) []
  on_good kind (Return t) row = code_good t (return_of kind ∷ []) [] (λ b. return_good kind b [])
  on_good kind (Plain t) [] = code_good t (end_code kind) [] (λ b. end_good kind b [])
  on_good kind (Plain t) (u ∷ row) = code_good t (Pop ∷ code_on kind u row) [] (λ b. on_good kind u row)

  body_good : (kind : Kind) (row : List Statement) → Good (code_body kind row) []
  body_good kind [] = empty_good kind
  body_good kind (s ∷ row) = on_good kind s row

module _ (p : Program) where
  from_good : (bodies : List Body) (k n : ℕ) → SendsToSelf (get_or (compiled_from p k bodies) n no_code).instructions []
  unfolding compiled_body
  from_good [] k n = tt
  from_good (b ∷ bodies) k zero = body_good p k b.kind b.statements
  from_good (b ∷ bodies) k (suc n) = from_good bodies (suc k) n

  pub supers_known : (number : ℕ) → SendsToSelf (code_at (compile_of p) number).instructions []
  unfolding code_at compile_of
  supers_known number = from_good p.bodies 0 number
