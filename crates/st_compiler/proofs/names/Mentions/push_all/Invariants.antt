use Rattle.std.proofs.Common.{◌≡◌, ◌++◌, take, map}
use Rattle.st_code.specs.Written.{name_text}
use Rattle.st_compiler.proofs.names.Mentions.push_all.Given as goal

abbrev pub invariant-loop-name : goal.invariant-loop-name
invariant-loop-name l = l.self ≡ l.fn.self ++ map name_text (take l.name-index l.names)
