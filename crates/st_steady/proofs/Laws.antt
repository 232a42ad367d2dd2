-- The laws of steady machines: those of Never.antt, by what is ready in a sound store and the law of a step.
use Rattle.st_machine.proofs.Follows.{follows}
use Rattle.st_readiness.proofs.ReadyLoops.{loops_may_begin, loops_go_on}
use Rattle.st_readiness.proofs.ReadySends.{found_is_ready, super_found_is_ready, sends_stand, super_sends_stand}
use Rattle.st_steady.specs.Steady.{NeverStrands, EndsSo}
use Rattle.st_steady.proofs.Never.{never_strands, ends_always}

pub never_strands_so : NeverStrands
never_strands_so = never_strands found_is_ready super_found_is_ready sends_stand super_sends_stand loops_may_begin loops_go_on follows

pub ends_so : EndsSo
ends_so = ends_always found_is_ready super_found_is_ready sends_stand super_sends_stand loops_may_begin loops_go_on follows
