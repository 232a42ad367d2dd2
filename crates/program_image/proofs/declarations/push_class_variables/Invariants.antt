use Rattle.std.proofs.Common.{◌≡◌, ◌<◌, ◌^◌, ◌++◌, take, map, length}
use Rattle.st_code.specs.Resolved.{ClassName}
use Rattle.program_image.specs.Classes.{seen_variable}
use Rattle.program_image.proofs.declarations.push_class_variables.Given as goal

abbrev pub invariant-loop-name : goal.invariant-loop-name
invariant-loop-name l = record {
  added : map seen_variable l.shared ≡ map seen_variable l.fn.shared ++ map (ClassName l.class) (take l.name-index l.name-items);
  fits : length l.shared < 2 ^ 32;
}
