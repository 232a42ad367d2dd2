-- There is room for the values that a message passes on.
use Rattle.std.proofs.Common.{◌≡◌, ℕ, zero, suc, ◌≤◌, List, [], ◌∷◌, length, get_or, Bool, true, None, ◌&&◌, nat_le, refl, sym, subst, arith, le-leb}
use Rattle.object_heap.specs.declared.value.Value.TheVariants.{Nil}
use Rattle.object_heap.specs.Store.{Store}
use Rattle.st_code.specs.Compiled.{compiled_body, compiled_from, compile_of}
use Rattle.st_code.specs.Program.{Program, Body, InBlock, body_at, name_at}
use Rattle.st_code.specs.Texts.{Text, arity, is_keywords, is_operators}
use Rattle.st_collections.specs.Actions.{Action, Gives, Changes, Makes, Fails, PassesIntegers, DividesByZero, Writes, Begins, Activates, Sends, Misses, Enters, Guards, Ensures, Curtails, Iterates, Raises, RaisesNew, Controls, Terminates, LoopState}
use Rattle.st_loops.specs.Tests.{may_begin}
use Rattle.st_machine.specs.Plans.{greatest_arity, greatest_parameters, program_in, room_in}
use Rattle.st_machine.specs.Seen.{Plan, Seen}
use Rattle.st_machine.specs.Sound.{is_fit}
use Rattle.st_sends.specs.Arguments.{ActionPasses}
use Rattle.st_sound.specs.SoundActions.{LoopStands, ActionSound}
use Rattle.st_sound.specs.SoundStore.{SoundStore}
use Rattle.st_steady.proofs.Plain.{Few}
use Rattle.st_steady.specs.Steady.{Steady}

-- ---- parameters and arities

abbrev no_body : Body
no_body = record { kind = InBlock; class = Nil; parameters = 0; captured = []; outer = None; statements = [] }

parameters_from : (p : Program) (n : ℕ) (bodies : List Body) (code : ℕ) → (get_or bodies code no_body).parameters ≤ greatest_parameters (compiled_from p n bodies)
unfolding compiled_body
parameters_from p n [] code = omega arith
parameters_from p n (body ∷ bodies) zero = omega arith
parameters_from p n (body ∷ bodies) (suc code) = let l = parameters_from p (suc n) bodies code in omega (arith, l)

-- no code has more parameters than the greatest number of them
parameters_most : (p : Program) (code : ℕ) → (body_at p code).parameters ≤ greatest_parameters (compile_of p)
unfolding body_at compile_of
parameters_most p code = parameters_from p 0 p.bodies code

none_takes : arity [] ≡ 0
unfolding arity is_keywords is_operators
none_takes = refl

arities_from : (names : List Text) (n : ℕ) → arity (get_or names n []) ≤ greatest_arity names
arities_from [] n = let e = none_takes in omega (arith, e)
arities_from (name ∷ names) zero = omega arith
arities_from (name ∷ names) (suc n) = let l = arities_from names n in omega (arith, l)

-- no selector takes more arguments than the greatest number of them
arities_most : (p : Program) (selector : ℕ) → arity (name_at p selector) ≤ greatest_arity p.names
unfolding name_at
arities_most p selector = arities_from p.names selector

-- ---- a machine's room

-- what there is room for
pub record Roomy (p : Program) (room : ℕ) : Type 0 where
  pub three : 3 ≤ room
  pub parameters : (code : ℕ) → (body_at p code).parameters ≤ room
  pub arities : (selector : ℕ) → arity (name_at p selector) ≤ room

pub roomy : (plan : Plan) (width : ℕ) → Steady plan → plan.codes ≡ compile_of (program_in plan) → 8 ≤ width → width ≤ room_in plan → Roomy (program_in plan) (room_in plan)
roomy plan width steady compiled wide l =
    record {
      three = omega (arith, wide, l);
      parameters =
          λ code.
          let most : (body_at (program_in plan) code).parameters ≤ greatest_parameters plan.codes = subst (λ codes. (body_at (program_in plan) code).parameters ≤ greatest_parameters codes) (sym compiled) (parameters_most (program_in plan) code) in
          omega (arith, most);
      arities =
          λ selector.
          let most : arity (name_at (program_in plan) selector) ≤ greatest_arity (program_in plan).names = arities_most (program_in plan) selector in
          let there : greatest_arity (program_in plan).names ≤ room_in plan = steady.arities in
          omega (arith, most, there);
    }

-- ---- what an action passes on

both_true : (a b : Bool) → a ≡ true → b ≡ true → (a && b) ≡ true
both_true a b e f = rw (e, f) refl

module _ (begin : (s : Store) → SoundStore s → (l : LoopState) → LoopStands s l → may_begin s l.message l.receiver ≡ true) where
  pub fits : (p : Program) (a : Action) (s : Seen) → Roomy p s.passed.room → Few s → SoundStore s.memory.store → ActionPasses p (length s.passed.values) a → ActionSound p s.memory.store a → is_fit a s ≡ true
  fits p (Gives v) s r f sound h x = refl
  fits p (Changes t v) s r f sound h x = refl
  fits p (Makes cells t v) s r f sound h x = refl
  fits p (Fails trouble) s r f sound h x = refl
  fits p PassesIntegers s r f sound h x = refl
  fits p (Raises t e) s r f sound h x = refl
  fits p (Writes text v) s r f sound h x = refl
  fits p (DividesByZero dividend) s r f sound h x = refl
  fits p (Begins v args) s r f sound h x = let three : 3 ≤ s.passed.room = r.three in le-leb (length args) s.passed.room (omega (arith, h, three))
  fits p (Activates c args) s r f sound h x = let most : (body_at p c.code).parameters ≤ s.passed.room = r.parameters c.code in le-leb (length args) s.passed.room (omega (arith, h, most))
  fits p (Sends selector receiver args) s r f sound h x = let most : arity (name_at p selector) ≤ s.passed.room = r.arities selector in le-leb (length args) s.passed.room (omega (arith, h.1, most))
  fits p (Misses selector receiver args) s r f sound h x = refl
  fits p (Enters code receiver args) s r f sound h x = le-leb (length args) s.passed.room (omega (arith, h, f))
  fits p (Guards receiver selector handler) s r f sound h x = refl
  fits p (Ensures receiver block) s r f sound h x = refl
  fits p (Curtails receiver block) s r f sound h x = refl
  fits p (Iterates l) s r f sound h x = both_true (nat_le (length l.arguments) 3) (may_begin s.memory.store l.message l.receiver) (le-leb (length l.arguments) 3 h) (begin s.memory.store sound l x)
  fits p (RaisesNew class slots) s r f sound h x = let three : 3 ≤ s.passed.room = r.three in le-leb (length slots) s.passed.room (omega (arith, h, three, f))
  fits p (Controls c e v) s r f sound h x = refl
  fits p (Terminates v) s r f sound h x = refl
