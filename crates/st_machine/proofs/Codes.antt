-- The code with a number, and the classes of a plan.
use Rattle.std.specs.Borrow.{Bor}
use Rattle.std.specs.Option.{option_map, unwrap_or}
use Rattle.std.proofs.Common.{◌&&◌, ◌^◌, subst, Option, IfSome, ◌≡◌, ℕ, suc, zero, ◌<◌, ◌≤◌, List, [], ◌∷◌, length, get_or, slice_get, drop, map, max, Bool, true, false, nat_lt, if◌then◌else◌, Some, None, refl, sym, ◌∙◌, ap, arith}
use Rattle.std.proofs.lemmas.List.{length-map, drop_all}
use Rattle.std.proofs.lemmas.Bool.Decides.{nat_tests}
use Rattle.std.proofs.lemmas.Option.{slice_get_past, slice_get-get_or, get_or_from_slice_get, unwrap_or-slice_get}
use Rattle.std.proofs.lemmas.Bool.{ltb-true}
use Rattle.object_heap.specs.declared.value.Value.TheVariants.{Nil}
use Rattle.st_tree.specs.declared.units.Unit.{Unit}
use Rattle.st_code.specs.declared.instruction.Code.{Code}
use Rattle.st_code.specs.declared.instruction.Instruction.{Instruction}
use Rattle.st_code.specs.Compiled.{Compiled, seen_code, compile_of, compiled_from, compiled_body}
use Rattle.st_code.specs.Program.{Program, Body, InBlock, body_at, class_at}
use Rattle.st_code.specs.Definitions.{RunLimits, program_of}
use Rattle.program_image.specs.declared.class.SharedVariable.{SharedVariable}
use Rattle.program_image.specs.Classes.{seen_variable}
use Rattle.st_code.specs.Written.{named_units}
use Rattle.program_image.specs.Spelled.{names_in}
use Rattle.program_image.specs.Images.{image_program, image_names}
use Rattle.st_code.specs.Program.{Initializer as Starter}
use Rattle.st_compiler.specs.declared.units.Initializer.{Initializer}
use Rattle.st_compiler.specs.Drafted.{seen_initializer}
use Rattle.st_machine.specs.Plans.{initializer_of, are_short}
use Rattle.st_rules.specs.Flat.{code_at, no_code, greatest_width}

pub code-some : (codes : List Compiled) (n : ℕ) (c : Compiled) → Some c ≡ slice_get codes n → code_at codes n ≡ c
unfolding code_at
code-some codes n c is = get_or_from_slice_get codes n c no_code (sym is)

pub code-none : (codes : List Compiled) (n : ℕ) → None ≡ slice_get codes n → code_at codes n ≡ no_code
unfolding code_at
code-none codes n is = sym (unwrap_or-slice_get codes n no_code) ∙ ap (λ (o : Option Compiled). unwrap_or o no_code) (sym is)

pub instruction-past : (is : List Instruction) (k : ℕ) → length is ≤ k → None ≡ slice_get is k
instruction-past is k past = sym (slice_get_past is k past)

pub instruction-here : (is : List Instruction) (k : ℕ) (i : Instruction) → k < length is → i ≡ get_or is k i → Some i ≡ slice_get is k
instruction-here is k i low there = sym (slice_get-get_or is k i low ∙ ap Some (sym there))

-- ---- codes with few variables

and-left : (a b : Bool) → (a && b) ≡ true → a ≡ true
and-left true b is = refl
and-left false b is = is

and-right : (a b : Bool) → (a && b) ≡ true → b ≡ true
and-right true b is = is
and-right false b is = absurd (grind (arith, is))

pub short-at : (codes : List Compiled) (n : ℕ) (c : Compiled) → are_short codes ≡ true → Some c ≡ slice_get codes n → length c.captured < 2 ^ 32
short-at [] n c short is = absurd (none-here n c is)
  where
    none-here : (n : ℕ) (c : Compiled) → Some c ≡ slice_get [] n → ⊥
    none-here n c is = let past : slice_get {X = Compiled} [] n ≡ None = slice_get_past [] n (omega arith) in let bad : Some c ≡ None = is ∙ past in cc
short-at (x ∷ codes) zero c short is =
    let same : Some c ≡ Some x = is in
    let low : length x.captured < 2 ^ 32 = ltb-true (length x.captured) (2 ^ 32) (and-left (nat_lt (length x.captured) (2 ^ 32)) (are_short codes) short) in
    let e : c ≡ x = cc in
    let P : Compiled → Type 0 = λ d. length d.captured < 2 ^ 32 in
    subst P (sym e) low
short-at (x ∷ codes) (suc n) c short is = short-at codes n c (and-right (nat_lt (length x.captured) (2 ^ 32)) (are_short codes) short) is

pub if-short : (o : Option (Bor Code)) (codes : List Compiled) (n : ℕ) → option_map (λ c. seen_code c.now) o ≡ slice_get codes n → are_short codes ≡ true → IfSome o (λ c. length c.now.captured.items < 2 ^ 32)
if-short None codes n is short = tt
if-short (Some c) codes n is short = short-at codes n (seen_code c.now) short is

pub nothing-at : (k : ℕ) → slice_get no_code.instructions k ≡ None
nothing-at k = slice_get_past {X = Instruction} [] k (omega arith)

-- ---- the initializers

seen-back : (is : List Initializer) → map initializer_of (map seen_initializer is) ≡ is
seen-back [] = refl
seen-back (i ∷ is) = ap (λ (js : List Initializer). i ∷ js) (seen-back is)

pub initializers-are : (is : List Initializer) (starters : List Starter) → map seen_initializer is ≡ starters → is ≡ map initializer_of starters
initializers-are is starters same = sym (seen-back is) ∙ ap (map initializer_of) same

-- the classes of a program are those of its image
pub class_of_plan : (units : List Unit) (limits : RunLimits) (class : ℕ) → (class_at (program_of (names_in (named_units units)) (named_units units) limits) class).class_slots ≡ (class_at (image_program units) class).class_slots
unfolding class_at image_program program_of image_names
class_of_plan units limits class = refl

pub variables_of : (units : List Unit) (limits : RunLimits) (shared : List SharedVariable) → map seen_variable shared ≡ (image_names units).shared → length shared ≡ (program_of (names_in (named_units units)) (named_units units) limits).variables
unfolding program_of image_names
variables_of units limits shared is = sym (length-map shared seen_variable) ∙ ap length is

-- ---- the widest code

wider : (b : Bool) (g w : ℕ) → nat_lt g w ≡ b → 8 ≤ g → 8 ≤ (if b then w else g)
wider true g w e l = grind (arith, nat_tests)
wider false g w e l = l

pub at_least : (cs : List Compiled) → 8 ≤ greatest_width cs
at_least [] = omega arith
at_least (c ∷ cs) = wider (nat_lt (greatest_width cs) c.width) (greatest_width cs) c.width refl (at_least cs)

pub width_end : (codes : List Code) (i g : ℕ) → length codes ≤ i → 8 ≤ g → g ≡ max g (greatest_width (map seen_code (drop i codes)))
width_end codes i g l least = rw (drop_all i codes l) (omega (arith, least))

-- ---- parameters

abbrev no_body : Body
no_body = record { kind = InBlock; class = Nil; parameters = 0; captured = []; outer = None; statements = [] }

from-body : (p : Program) (n : ℕ) (bodies : List Body) (code : ℕ) → (get_or (compiled_from p n bodies) code no_code).parameters ≡ (get_or bodies code no_body).parameters
unfolding compiled_body
from-body p n [] code = refl
from-body p n (b ∷ bodies) zero = refl
from-body p n (b ∷ bodies) (suc code) = from-body p (suc n) bodies code

pub parameters-are : (p : Program) (code : ℕ) → (code_at (compile_of p) code).parameters ≡ (body_at p code).parameters
unfolding code_at body_at compile_of
parameters-are p code = from-body p 0 p.bodies code

pub body-some : (p : Program) (code : ℕ) (c : Compiled) → Some c ≡ slice_get (compile_of p) code → c.parameters ≡ (body_at p code).parameters
body-some p code c is = sym (ap (λ (x : Compiled). x.parameters) (code-some (compile_of p) code c is)) ∙ parameters-are p code

pub body-none : (p : Program) (code : ℕ) → None ≡ slice_get (compile_of p) code → 0 ≡ (body_at p code).parameters
body-none p code is = sym (ap (λ (x : Compiled). x.parameters) (code-none (compile_of p) code is)) ∙ parameters-are p code
