-- The codes of programs whose bodies are short.
use Rattle.std.proofs.Common.{ℕ, suc, ◌+◌, ◌*◌, ◌^◌, ◌≤◌, length, List, [], ◌∷◌, arith}
use Rattle.std.specs.Prelude.{All}
use Rattle.std.proofs.lemmas.List.{length-map}
use Rattle.std.proofs.lemmas.List.Elements.{All-nil, All-cons, All-head, All-tail}
use Rattle.st_tree.specs.declared.units.UnitKind.{UnitKind}
use Rattle.st_tree.specs.declared.units.UnitKind.TheVariants as kinds
use Rattle.st_tree.specs.declared.units.Unit.{Unit as FileUnit}
use Rattle.st_tree.specs.Small.{moves_of}
use Rattle.st_code.specs.Code.{code_body}
use Rattle.st_code.specs.Compiled.{Compiled, instruction_of, compiled_body, compiled_from, compile_of}
use Rattle.st_code.specs.Definitions.{program_of}
use Rattle.st_code.specs.Named.{NamedUnit}
use Rattle.st_code.specs.Program.{Program, Body}
use Rattle.st_code.specs.Written.{named_kind, with_named, named_units}
use Rattle.st_parsed.proofs.ReadFits.{read_fits}
use Rattle.st_sizes.specs.ShortCodes.{CodesGrowWithBodies, SmallProgramsHaveShortCodes}
use Rattle.st_sizes.proofs.Moves.{body_less}
use Rattle.st_sizes.proofs.MadeLengths.{BodiesShort, UnitsShort, program_bodies}

-- ---- units as they are written

kind_short : (most : ℕ) (kind : UnitKind) (us : List NamedUnit) → moves_of kind ≤ most → UnitsShort most us → UnitsShort most (with_named (named_kind kind) us)
kind_short most (kinds.Version text) us l h = h
kind_short most (kinds.Class c) us l h = (tt, h)
kind_short most (kinds.GlobalVariable name) us l h = (tt, h)
kind_short most (kinds.GlobalConstant name) us l h = (tt, h)
kind_short most (kinds.Pool name) us l h = h
kind_short most (kinds.PoolVariable pool name) us l h = (tt, h)
kind_short most (kinds.PoolConstant pool name) us l h = (tt, h)
kind_short most (kinds.Initializer target body) us l h = let b = body_less body in (omega (arith, b, l), h)
kind_short most (kinds.PoolInitializer pool name body) us l h = let b = body_less body in (omega (arith, b, l), h)
kind_short most (kinds.ProgramInitializer body) us l h = let b = body_less body in (omega (arith, b, l), h)
kind_short most (kinds.Method class m) us l h = let b = body_less m.body in (omega (arith, b, l), h)
kind_short most (kinds.ClassMethod class m) us l h = let b = body_less m.body in (omega (arith, b, l), h)
kind_short most (kinds.Comment text) us l h = h

all_short : (most : ℕ) (units : List FileUnit) → All (λ u. moves_of u.kind ≤ most) units → UnitsShort most (named_units units)
unfolding named_units
all_short most [] a = tt
all_short most (u ∷ units) a = kind_short most u.kind (named_units units) (All-head (λ v. moves_of v.kind ≤ most) u units a) (all_short most units (All-tail (λ v. moves_of v.kind ≤ most) u units a))

-- ---- codes

abbrev CodeShort : ℕ → Compiled → Type 0
CodeShort most c = length c.instructions ≤ 3 * most + 2

compiled_short : (most : ℕ) (p : Program) (n : ℕ) (b : Body) → length (code_body b.kind b.statements) ≤ 3 * most + 2 → CodeShort most (compiled_body p n b)
unfolding compiled_body
compiled_short most p n b h = let e = length-map (code_body b.kind b.statements) (instruction_of p n) in omega (arith, e, h)

codes_short : (most : ℕ) (p : Program) (n : ℕ) (bodies : List Body) → BodiesShort most bodies → All (CodeShort most) (compiled_from p n bodies)
codes_short most p n [] h = All-nil (CodeShort most)
codes_short most p n (b ∷ bodies) h = All-cons (CodeShort most) (compiled_body p n b) (compiled_from p (suc n) bodies) (compiled_short most p n b h.0) (codes_short most p (suc n) bodies h.1)

pub codes_grow : CodesGrowWithBodies
unfolding compile_of
codes_grow names units limits most readable a =
    let p = program_of names (named_units units) limits in
    codes_short most p 0 p.bodies (program_bodies most names (named_units units) limits (read_fits units readable) (all_short most units a))

pub small_programs : SmallProgramsHaveShortCodes
small_programs names units limits small k d l =
    let h = codes_grow names units limits (2 ^ 20 + 1) small.readable small.short_bodies k d l in omega (arith, h)
