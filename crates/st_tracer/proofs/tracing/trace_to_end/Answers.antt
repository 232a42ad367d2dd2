-- Why a machine that is traced comes to its end: the laws of Going.antt.
use Rattle.st_steady.proofs.Laws.{ends_so}
use Rattle.st_tracer.proofs.Going.{cause_of, falls, finishes_mode, finishes_stops, finishes_traces, goes_on, kept_of, stops_in_step}
use Rattle.st_tracer.proofs.tracing.trace_to_end.Goals as goal

pub returns-in-Some-clause-traces : goal.returns-in-Some-clause-traces
returns-in-Some-clause-traces g c =
    finishes_traces c.args.machine.now c.loop-ending.machine (g.K.Sink.written c.args.out.now) (g.K.Sink.written c.loop-ending.out) (g.K.Sink.faults c.args.out.now) (g.K.Sink.faults c.loop-ending.out) c.requires c.loop-ending.invariant
    ends_so c.in-Some.ending c.in-Some.ensures (g.K.Sink.written c.finish.new.out) c.finish.result c.finish.ensures.same c.finish.ensures.text

pub returns-in-Some-clause-mode : goal.returns-in-Some-clause-mode
returns-in-Some-clause-mode g c =
    finishes_mode c.args.machine.now c.loop-ending.machine (g.K.Sink.written c.args.out.now) (g.K.Sink.written c.loop-ending.out) (g.K.Sink.faults c.args.out.now) (g.K.Sink.faults c.loop-ending.out) c.requires c.loop-ending.invariant
    ends_so c.in-Some.ending c.in-Some.ensures (g.K.Sink.written c.finish.new.out) c.finish.result c.finish.ensures.same

pub returns-in-Some-clause-stops : goal.returns-in-Some-clause-stops
returns-in-Some-clause-stops g c =
    finishes_stops c.args.machine.now c.loop-ending.machine (g.K.Sink.written c.args.out.now) (g.K.Sink.written c.loop-ending.out) (g.K.Sink.faults c.args.out.now) (g.K.Sink.faults c.loop-ending.out) c.requires c.loop-ending.invariant
    ends_so c.in-Some.ending c.in-Some.ensures (g.K.Sink.written c.finish.new.out) c.finish.result c.finish.ensures.text

pub returns-in-Some-clause-kept : goal.returns-in-Some-clause-kept
returns-in-Some-clause-kept g c =
    kept_of c.args.machine.now c.loop-ending.machine (g.K.Sink.written c.args.out.now) (g.K.Sink.written c.loop-ending.out) (g.K.Sink.faults c.args.out.now) (g.K.Sink.faults c.loop-ending.out) c.requires c.loop-ending.invariant c.finish.result (g.K.Sink.faults c.finish.new.out) c.finish.ensures.cause

pub returns-in-Some-clause-cause : goal.returns-in-Some-clause-cause
returns-in-Some-clause-cause g c =
    cause_of c.args.machine.now c.loop-ending.machine (g.K.Sink.written c.args.out.now) (g.K.Sink.written c.loop-ending.out) (g.K.Sink.faults c.args.out.now) (g.K.Sink.faults c.loop-ending.out) c.requires c.loop-ending.invariant c.finish.result (g.K.Sink.faults c.finish.new.out) c.finish.ensures.cause

pub loop-ending-smaller : goal.loop-ending-smaller
loop-ending-smaller g c =
    falls c.args.machine.now c.loop-ending.machine (g.K.Sink.written c.args.out.now) (g.K.Sink.written c.loop-ending.out) (g.K.Sink.faults c.args.out.now) (g.K.Sink.faults c.loop-ending.out) c.requires c.loop-ending.invariant
    c.step.new.machine c.step.ensures.stepped c.in-None.ensures

pub loop-ending-preserved : goal.loop-ending-preserved
loop-ending-preserved g c =
    goes_on c.args.machine.now c.loop-ending.machine (g.K.Sink.written c.args.out.now) (g.K.Sink.written c.loop-ending.out) (g.K.Sink.faults c.args.out.now) (g.K.Sink.faults c.loop-ending.out) c.requires c.loop-ending.invariant
    c.step.new.machine (g.K.Sink.written c.step.new.out) (g.K.Sink.faults c.step.new.out) c.step.ensures.stepped c.in-Ok.ensures.text c.in-Ok.ensures.cause.kept

pub returns-in-Err-clause-stops : goal.returns-in-Err-clause-stops
returns-in-Err-clause-stops g c =
    stops_in_step c.args.machine.now c.loop-ending.machine (g.K.Sink.written c.args.out.now) (g.K.Sink.written c.loop-ending.out) (g.K.Sink.faults c.args.out.now) (g.K.Sink.faults c.loop-ending.out) c.requires c.loop-ending.invariant
    ends_so (g.K.Sink.written c.step.new.out) c.in-Err.ensures.text
