use Rattle.std.proofs.Common.{◌≡◌, ◌++◌, take, map}
use Rattle.st_code.specs.Written.{name_text}
use Rattle.st_code.specs.Resolved.{has_text}
use Rattle.st_compiler.proofs.names.NameSet.mark_all.Given as goal

abbrev pub invariant-loop-name : goal.invariant-loop-name
invariant-loop-name l = l.marks ≡ l.fn.marks ++ map (has_text l.self) (map name_text (take l.name-index l.names))
