use Rattle.std.proofs.Common.{◌≡◌, ◌++◌, drop, map}
use Rattle.st_code.specs.Resolved.{without}
use Rattle.st_compiler.specs.Bytes.{bytes_now}
use Rattle.st_compiler.proofs.names.Mentions.without.Given as goal

abbrev pub invariant-loop-name : goal.invariant-loop-name
invariant-loop-name l = l.others ++ without (map bytes_now (drop l.name-index l.name-items)) l.scope ≡ without (map bytes_now l.name-items) l.scope
