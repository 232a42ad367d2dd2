use Rattle.std.proofs.Common.{◌≡◌, drop, map}
use Rattle.program_image.specs.Spelled.{spelled}
use Rattle.st_shake.proofs.needed.need_each.Given as goal

abbrev pub invariant-loop-selector : goal.invariant-loop-selector
invariant-loop-selector l = spelled l.names (map (λ s. s.now) (drop l.selector-index l.selectors)) ≡ spelled l.fn.names (map (λ s. s.now) l.selectors)
