-- What resolution gives a program that is compiled: each variable that a body names is there, and one of a body further out is captured; a block stands directly in the body that makes it; a method and an initializer stand in no body; and no constant is a metaclass. This form is the profile's own.
use Rattle.std.specs.Prelude.{◌≡◌, ℕ, zero, suc, ◌<◌, Bool, true, false, ◌&&◌, List, [], ◌∷◌, length, Option, Some, None, nat_eq, nat_lt}
use Rattle.object_heap.specs.declared.value.Value.{Value}
use Rattle.object_heap.specs.declared.value.Value.TheVariants.{Meta}
use Rattle.st_code.specs.Program.{Program, Place, Scoped, Slot, ClassSlot, Shared, Kind, InMethod, InBlock, InInitializer, MethodRow, Initializer, Body as BodyRow, body_at}
use Rattle.st_code.specs.Texts.{Text}
use Rattle.st_code.specs.Named.{NamedUnit}
use Rattle.st_code.specs.Definitions.{RunLimits, program_of}
use Rattle.st_code.specs.Code.{Instr, PushConstant, PushVariable, Store, MakeBlock, code_body}
use Rattle.st_code.specs.Compiled.{constant_value, constant_of, is_captured}

-- a variable of the body so many bodies outwards is captured
abbrev pub Captured : Program → (up code index : ℕ) → Type 0
Captured p zero code index = is_captured (body_at p code).captured index ≡ true
Captured p (suc up) code index = elim (body_at p code).outer [ None ↦ ⊥ | Some n ↦ Captured p up n index ]

-- the variable that a body's code names is there
abbrev pub Named : Program → (code : ℕ) → Place → Type 0
Named p code (Scoped zero index) = index < length (body_at p code).captured
Named p code (Scoped (suc up) index) = Captured p (suc up) code index
Named p code (Slot index) = Unit {0}
Named p code (ClassSlot index) = Unit {0}
Named p code (Shared index) = Unit {0}

-- a body of the program, of this kind, that stands in this one or in none
pub record Body (p : Program) (code : ℕ) (kind : Kind) (outer : Option ℕ) : Type 0 where
  pub known : code < length p.bodies
  pub is_kind : (body_at p code).kind ≡ kind
  pub stands : (body_at p code).outer ≡ outer

abbrev pub Sound : Program → (code : ℕ) → Instr → Type 0
Sound p code (PushConstant v) = constant_value (constant_of v) ≡ v
Sound p code (PushVariable place) = Named p code place
Sound p code (Store place) = Named p code place
Sound p code (MakeBlock n) = Body p n InBlock (Some code)
Sound p code _ = Unit {0}

abbrev pub AllSound : Program → (code : ℕ) → List Instr → Type 0
AllSound p code [] = Unit {0}
AllSound p code (i ∷ is) = Sound p code i × AllSound p code is

abbrev pub AllMethods : Program → List MethodRow → Type 0
AllMethods p [] = Unit {0}
AllMethods p (m ∷ methods) = Body p m.code InMethod None × AllMethods p methods

abbrev pub AllInitializers : Program → List Initializer → Type 0
AllInitializers p [] = Unit {0}
AllInitializers p (x ∷ xs) = Body p x.code InInitializer None × AllInitializers p xs

pub record Compilable (p : Program) : Type 0 where
  pub bodies : (code : ℕ) → AllSound p code (code_body (body_at p code).kind (body_at p code).statements)
  pub methods : AllMethods p p.methods
  pub initializers : AllInitializers p p.initializers

-- ---- the same, computed

abbrev pub is_captured_outwards : Program → (up code index : ℕ) → Bool
is_captured_outwards p zero code index = is_captured (body_at p code).captured index
is_captured_outwards p (suc up) code index = elim (body_at p code).outer [ None ↦ false | Some n ↦ is_captured_outwards p up n index ]

abbrev pub is_named : Program → (code : ℕ) → Place → Bool
is_named p code (Scoped zero index) = nat_lt index (length (body_at p code).captured)
is_named p code (Scoped (suc up) index) = is_captured_outwards p (suc up) code index
is_named p code place = true

abbrev pub same_kind : Kind → Kind → Bool
same_kind InMethod InMethod = true
same_kind InBlock InBlock = true
same_kind InInitializer InInitializer = true
same_kind _ _ = false

abbrev pub same_outer : Option ℕ → Option ℕ → Bool
same_outer None None = true
same_outer (Some n) (Some m) = nat_eq n m
same_outer _ _ = false

abbrev pub is_body : Program → (code : ℕ) → Kind → Option ℕ → Bool
is_body p code kind outer = nat_lt code (length p.bodies) && same_kind (body_at p code).kind kind && same_outer (body_at p code).outer outer

abbrev pub is_constant : Value → Bool
is_constant (Meta class) = false
is_constant v = true

abbrev pub is_sound : Program → (code : ℕ) → Instr → Bool
is_sound p code (PushConstant v) = is_constant v
is_sound p code (PushVariable place) = is_named p code place
is_sound p code (Store place) = is_named p code place
is_sound p code (MakeBlock n) = is_body p n InBlock (Some code)
is_sound p code i = true

abbrev pub are_sound : Program → (code : ℕ) → List Instr → Bool
are_sound p code [] = true
are_sound p code (i ∷ is) = is_sound p code i && are_sound p code is

abbrev pub bodies_sound : Program → (code : ℕ) → List BodyRow → Bool
bodies_sound p code [] = true
bodies_sound p code (body ∷ bodies) = are_sound p code (code_body body.kind body.statements) && bodies_sound p (suc code) bodies

abbrev pub methods_sound : Program → List MethodRow → Bool
methods_sound p [] = true
methods_sound p (m ∷ methods) = is_body p m.code InMethod None && methods_sound p methods

abbrev pub initializers_sound : Program → List Initializer → Bool
initializers_sound p [] = true
initializers_sound p (x ∷ xs) = is_body p x.code InInitializer None && initializers_sound p xs

unfoldable pub is_compilable : Program → Bool
is_compilable p = bodies_sound p 0 p.bodies && methods_sound p p.methods && initializers_sound p p.initializers

-- what is computed is so
abbrev pub Computed : Type 0
Computed = (p : Program) → is_compilable p ≡ true → Compilable p

-- each program that the units of a file are is so, whatever they are
abbrev pub ProgramsAreCompilable : Type 0
ProgramsAreCompilable = (names : List Text) (units : List NamedUnit) (limits : RunLimits) → Compilable (program_of names units limits)
