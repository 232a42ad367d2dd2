use Rattle.st_machine_laws.proofs.Gone.{left_in}
use Rattle.st_machine_laws.proofs.WholeRun.{bound_of}
use Rattle.st_tracer.proofs.Going.{Tracing}
use Rattle.st_tracer.proofs.tracing.trace_to_end.Given as goal

-- the lines of what was told are written
abbrev pub invariant-loop-ending : goal.invariant-loop-ending
invariant-loop-ending g l = Tracing l.initial.machine l.machine (g.K.Sink.written l.initial.out) (g.K.Sink.written l.out) (g.K.Sink.faults l.initial.out) (g.K.Sink.faults l.out)

-- the small steps that are left
abbrev pub decreases-loop-ending : goal.decreases-loop-ending
decreases-loop-ending g l = left_in (bound_of l.initial.machine.plan) l.machine
