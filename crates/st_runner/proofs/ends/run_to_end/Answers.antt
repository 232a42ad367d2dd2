-- Why a machine that is run on comes to its end: the laws of Going.antt.
use Rattle.st_steady.proofs.Laws.{ends_so}
use Rattle.st_runner.proofs.Going.{cause_of, ended_is, ends_as, falls, goes_on, kept_of, stops_as}
use Rattle.st_runner.proofs.ends.run_to_end.Goals as goal

pub returns-in-Ended-clause-ends : goal.returns-in-Ended-clause-ends
returns-in-Ended-clause-ends g c =
    ends_as c.args.machine.now c.loop-ending.machine (g.K.Sink.written c.args.out.now) (g.K.Sink.written c.loop-ending.out) (g.K.Sink.faults c.args.out.now) (g.K.Sink.faults c.loop-ending.out) c.requires c.loop-ending.invariant
    ends_so c.go.new.machine c.in-Ended.ending (g.K.Sink.written c.go.new.out) c.in-Ended.ensures.gone c.in-Ended.ensures.progress c.in-Ended.ensures.written

pub returns-in-Ended-clause-mode : goal.returns-in-Ended-clause-mode
returns-in-Ended-clause-mode g c = ended_is c.go.new.machine.mode c.in-Ended.ending c.in-Ended.ensures.progress

pub returns-in-Ended-clause-kept : goal.returns-in-Ended-clause-kept
returns-in-Ended-clause-kept g c =
    kept_of c.args.machine.now c.loop-ending.machine (g.K.Sink.written c.args.out.now) (g.K.Sink.written c.loop-ending.out) (g.K.Sink.faults c.args.out.now) (g.K.Sink.faults c.loop-ending.out) c.requires c.loop-ending.invariant
    (g.K.Sink.faults c.go.new.out) c.in-Ended.ensures.kept

pub returns-in-WriteFault-clause-stops : goal.returns-in-WriteFault-clause-stops
returns-in-WriteFault-clause-stops g c =
    stops_as c.args.machine.now c.loop-ending.machine (g.K.Sink.written c.args.out.now) (g.K.Sink.written c.loop-ending.out) (g.K.Sink.faults c.args.out.now) (g.K.Sink.faults c.loop-ending.out) c.requires c.loop-ending.invariant
    (g.K.Sink.written c.go.new.out) c.in-WriteFault.ensures.part

pub returns-in-WriteFault-clause-cause : goal.returns-in-WriteFault-clause-cause
returns-in-WriteFault-clause-cause g c =
    cause_of c.args.machine.now c.loop-ending.machine (g.K.Sink.written c.args.out.now) (g.K.Sink.written c.loop-ending.out) (g.K.Sink.faults c.args.out.now) (g.K.Sink.faults c.loop-ending.out) c.requires c.loop-ending.invariant
    (g.K.Sink.faults c.go.new.out) c.in-WriteFault.ensures.cause

pub loop-ending-smaller : goal.loop-ending-smaller
loop-ending-smaller g c =
    falls c.args.machine.now c.loop-ending.machine (g.K.Sink.written c.args.out.now) (g.K.Sink.written c.loop-ending.out) (g.K.Sink.faults c.args.out.now) (g.K.Sink.faults c.loop-ending.out) c.requires c.loop-ending.invariant
    c.go.new.machine c.in-Running.ensures.gone

pub loop-ending-preserved : goal.loop-ending-preserved
loop-ending-preserved g c =
    goes_on c.args.machine.now c.loop-ending.machine (g.K.Sink.written c.args.out.now) (g.K.Sink.written c.loop-ending.out) (g.K.Sink.faults c.args.out.now) (g.K.Sink.faults c.loop-ending.out) c.requires c.loop-ending.invariant
    c.go.new.machine (g.K.Sink.written c.go.new.out) (g.K.Sink.faults c.go.new.out) c.in-Running.ensures.gone c.in-Running.ensures.progress c.in-Running.ensures.written c.in-Running.ensures.kept
