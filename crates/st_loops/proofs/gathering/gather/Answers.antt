use Rattle.std.proofs.Common.{◌≡◌, ◌∙◌, inr, ◌+◌, ◌∷◌, ◌++◌, [], ◌+ℤ◌, pos, true, nat_le}
use Rattle.object_heap.specs.Store.{object_at}
use Rattle.st_collections.specs.Answers.{program_of}
use Rattle.st_collections.specs.Kinds.{slots_of}
use Rattle.st_collections.specs.Loops.{visit_at}
use Rattle.st_collections.specs.SequenceRows.{with_elements}
use Rattle.st_loops.specs.Kinds.{message_of}
use Rattle.st_loops.specs.States.{at_index, state_of}
use Rattle.st_loops.specs.Steps.{paid, seen, stop_seen}
use Rattle.st_loops.proofs.Charged.{any_out, out_stays, full_memory, full_step, paid-is, within_limit}
use Rattle.st_loops.proofs.Gathered.{measured-grown}
use Rattle.st_loops.proofs.gathering.gather.Goals as goal

pub visit_further-requires-in-Ok-clause-measured : goal.visit_further-requires-in-Ok-clause-measured
visit_further-requires-in-Ok-clause-measured g c =
    let m = g.H.Heap.meaning c.args.heap.now in
    let m1 = g.H.Heap.meaning c.append.new.heap in
    let n = c.in-Object.object in
    let slots = (object_at n m.store).slots ++ c.args.value ∷ [] in
    let gr = with_elements m.store n slots in
    let within : nat_le (m.used + gr.cells) m.limit ≡ true = within_limit tt tt gr.cells m c.in-Ok.ensures.answer in
    let is : m1 ≡ paid gr.cells gr.store m = paid-is gr.cells gr.store m m1 c.in-Ok.ensures.made within in
    rw is (measured-grown m.store n slots c.args.state.receiver (rw c.in-Object.is at c.requires.made) c.requires.measured)

pub returns-in-Ok-clause-memory : goal.returns-in-Ok-clause-memory
unfolding slots_of
returns-in-Ok-clause-memory g c =
    let m = g.H.Heap.meaning c.args.heap.now in
    let m1 = g.H.Heap.meaning c.append.new.heap in
    let n = c.in-Object.object in
    let gr = with_elements m.store n ((object_at n m.store).slots ++ c.args.value ∷ []) in
    let v = visit_at (program_of c.args.names.now) gr.store (message_of c.args.state.kind) (at_index (c.args.state.index +ℤ pos 1) (state_of c.args.state)) in
    let within : nat_le (m.used + gr.cells) m.limit ≡ true = within_limit tt tt gr.cells m c.in-Ok.ensures.answer in
    let is : m1 ≡ paid gr.cells gr.store m = paid-is gr.cells gr.store m m1 c.in-Ok.ensures.made within in
    let h = rw is at c.visit_further-in-Ok.ensures.memory in
    rw (c.in-Object.is, within) (any_out (seen c.visit_further-in-Ok.result) _ (g.H.Heap.meaning c.visit_further-in-Ok.new.heap) _ (rw c.in-Object.is at h))

pub returns-in-Ok-clause-step : goal.returns-in-Ok-clause-step
unfolding slots_of
returns-in-Ok-clause-step g c =
    let m = g.H.Heap.meaning c.args.heap.now in
    let m1 = g.H.Heap.meaning c.append.new.heap in
    let n = c.in-Object.object in
    let gr = with_elements m.store n ((object_at n m.store).slots ++ c.args.value ∷ []) in
    let within : nat_le (m.used + gr.cells) m.limit ≡ true = within_limit tt tt gr.cells m c.in-Ok.ensures.answer in
    let is : m1 ≡ paid gr.cells gr.store m = paid-is gr.cells gr.store m m1 c.in-Ok.ensures.made within in
    let h = rw is at c.visit_further-in-Ok.ensures.step in
    rw (c.in-Object.is, within) (rw c.in-Object.is at h)

pub returns-in-Err-clause-memory : goal.returns-in-Err-clause-memory
unfolding slots_of
returns-in-Err-clause-memory g c =
    let m = g.H.Heap.meaning c.args.heap.now in
    let n = c.in-Object.object in
    let gr = with_elements m.store n ((object_at n m.store).slots ++ c.args.value ∷ []) in
    let l = at_index (c.args.state.index +ℤ pos 1) (state_of c.args.state) in
    let v = visit_at (program_of c.args.names.now) gr.store (message_of c.args.state.kind) l in
    let h = full_memory tt c.in-Err.stop m (g.H.Heap.meaning c.append.new.heap) gr.cells gr.store gr.store v c.in-Err.ensures.made c.in-Err.ensures.answer in
    rw (c.step_stop.ensures, c.in-Object.is) (any_out (stop_seen c.in-Err.stop) _ (g.H.Heap.meaning c.append.new.heap) _ (rw c.in-Object.is at h))

pub returns-in-Err-clause-step : goal.returns-in-Err-clause-step
unfolding slots_of
returns-in-Err-clause-step g c =
    let m = g.H.Heap.meaning c.args.heap.now in
    let n = c.in-Object.object in
    let gr = with_elements m.store n ((object_at n m.store).slots ++ c.args.value ∷ []) in
    let l = at_index (c.args.state.index +ℤ pos 1) (state_of c.args.state) in
    let v = visit_at (program_of c.args.names.now) gr.store (message_of c.args.state.kind) l in
    let h = full_step tt c.in-Err.stop m gr.cells gr.store v c.in-Err.ensures.answer in
    rw (c.step_stop.ensures, c.in-Object.is) (rw c.in-Object.is at h)

pub returns-in-Ok-clause-partway : goal.returns-in-Ok-clause-partway
unfolding slots_of
returns-in-Ok-clause-partway g c = λ out.
    let m = g.H.Heap.meaning c.args.heap.now in
    let m1 = g.H.Heap.meaning c.append.new.heap in
    let m2 = g.H.Heap.meaning c.visit_further-in-Ok.new.heap in
    let n = c.in-Object.object in
    let gr = with_elements m.store n ((object_at n m.store).slots ++ c.args.value ∷ []) in
    let within : nat_le (m.used + gr.cells) m.limit ≡ true = within_limit tt tt gr.cells m c.in-Ok.ensures.answer in
    let is : m1 ≡ paid gr.cells gr.store m = paid-is gr.cells gr.store m m1 c.in-Ok.ensures.made within in
    let stays : m2 ≡ m1 = out_stays (seen c.visit_further-in-Ok.result) m1 m2 _ c.visit_further-in-Ok.ensures.memory out in
    rw (c.in-Object.is, within) (inr (stays ∙ is))
