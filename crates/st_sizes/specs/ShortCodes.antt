-- What is claimed of the length of codes. This form is the profile's own.
use Rattle.std.specs.Prelude.{ℕ, ◌+◌, ◌*◌, ◌^◌, ◌<◌, ◌≤◌, List, length, All}
use Rattle.st_tree.specs.declared.units.Unit.{Unit}
use Rattle.st_tree.specs.Units.{IsReadable}
use Rattle.st_tree.specs.Small.{IsSmall, moves_of}
use Rattle.st_code.specs.Texts.{Text}
use Rattle.st_code.specs.Written.{named_units}
use Rattle.st_code.specs.Definitions.{RunLimits, program_of}
use Rattle.st_code.specs.Compiled.{Compiled, compile_of}

-- the codes of the program that the units of a file are, where selectors and symbols have these numbers
abbrev pub codes_of : (names : List Text) → List Unit → RunLimits → List Compiled
codes_of names units limits = compile_of (program_of names (named_units units) limits)

-- where no body has more than so many targets, messages, statements and primaries, those of its blocks among them, no code is longer than this
abbrev pub CodesGrowWithBodies : Type 0
CodesGrowWithBodies = (names : List Text) (units : List Unit) (limits : RunLimits) (most : ℕ) → IsReadable units → All (λ u. moves_of u.kind ≤ most) units → All (λ c. length c.instructions ≤ 3 * most + 2) (codes_of names units limits)

-- each code of a small program is short
abbrev pub SmallProgramsHaveShortCodes : Type 0
SmallProgramsHaveShortCodes = (names : List Text) (units : List Unit) (limits : RunLimits) → IsSmall units → All (λ c. length c.instructions < 2 ^ 22) (codes_of names units limits)
