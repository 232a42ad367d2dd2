-- A machine that is opened is ready.
use Rattle.std.proofs.Common.{◌≡◌, ◌≤◌, List, [], ◌∷◌, map, refl, ap, arith}
use Rattle.st_base.specs.declared.faults.Limits.{Limits}
use Rattle.st_tree.specs.declared.units.Unit.{Unit}
use Rattle.st_code.specs.Program.{Initializer as Starter}
use Rattle.st_code.specs.Compiled.{compile_of}
use Rattle.st_code.specs.Definitions.{program_of}
use Rattle.st_rules.specs.Flat.{greatest_width}
use Rattle.st_rules.specs.Runs.{first_state}
use Rattle.st_machine.specs.Initializers.{seen_initializer}
use Rattle.st_machine.specs.Meaning.{behind}
use Rattle.st_machine.specs.Plans.{program_from, initializer_of}
use Rattle.st_machine.proofs.Codes.{at_least}
use Rattle.st_opening.specs.Opened.{IsOpened}
use Rattle.st_opening.proofs.Rooms.{codes-are-roomy}

seen-again : (is : List Starter) → map seen_initializer (map initializer_of is) ≡ is
seen-again [] = refl
seen-again (i ∷ is) = ap (λ (js : List Starter). i ∷ js) (seen-again is)

cells-are : (units : List Unit) (limits : Limits) → (program_from units limits).cell_limit ≡ limits.cells
unfolding program_of
cells-are units limits = refl

pub is_opened : (units : List Unit) (limits : Limits) → IsOpened units limits
unfolding first_state behind
is_opened units limits =
    let least : 8 ≤ greatest_width (compile_of (program_from units limits)) = at_least (compile_of (program_from units limits)) in
    record {
      ready = record {
        compiled = refl;
        initializers = seen-again (program_from units limits).initializers;
        troubles = refl;
        roomy = codes-are-roomy (program_from units limits);
        space = least;
        passes = omega arith;
        arguments = refl;
        depth = refl;
        cells = refl;
        within = omega arith;
        numbers = omega arith;
        falling = tt;
        next = refl;
        sound = tt;
      };
      begins = refl;
    }
