use Rattle.std.proofs.Common.{refl, pos, ◌+ℤ◌}
use Rattle.st_collections.specs.Loops.{given_at, visit_at}
use Rattle.st_loops.specs.Counts.{times_visit}
use Rattle.st_loops.specs.States.{at_index, state_of}
use Rattle.st_loops.proofs.ByPlace.{memory-free, told-free}
use Rattle.st_loops.proofs.advancing.step_by_names.Goals as goal

pub returns-in-TimesRepeat-clause-memory : goal.returns-in-TimesRepeat-clause-memory
unfolding given_at visit_at
returns-in-TimesRepeat-clause-memory g c =
    let m = g.H.Heap.meaning c.args.heap.now in
    let v = times_visit (at_index (c.args.state.index +ℤ pos 1) (state_of c.args.state)) in
    let h = memory-free c.times_given.result v m m c.times_given.ensures refl in
    rw c.in-TimesRepeat.is (rw c.in-TimesRepeat.is at h)

pub returns-in-TimesRepeat-clause-step : goal.returns-in-TimesRepeat-clause-step
unfolding given_at visit_at
returns-in-TimesRepeat-clause-step g c =
    let m = g.H.Heap.meaning c.args.heap.now in
    let v = times_visit (at_index (c.args.state.index +ℤ pos 1) (state_of c.args.state)) in
    let h = told-free c.times_given.result v m c.times_given.ensures in
    rw c.in-TimesRepeat.is (rw c.in-TimesRepeat.is at h)
