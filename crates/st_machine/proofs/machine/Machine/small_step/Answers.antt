use Rattle.std.proofs.Common.{◌≡◌, ap, ◌∙◌}
use Rattle.std.proofs.lemmas.Result.{err_from_is_err_and}
use Rattle.st_messages.specs.Replies.{written_text}
use Rattle.st_machine.specs.Plans.{program_in}
use Rattle.st_machine.specs.Running.{listed, sink_seen, watch_seen}
use Rattle.st_machine.specs.Seen.{Seen}
use Rattle.st_machine.specs.Steps.{advance_told, advance_written}
use Rattle.st_machine.proofs.Gone.{fails_to_write, ran_by}
use Rattle.st_machine.proofs.machine.Machine.small_step.Goals as goal

pub returns-in_err-put_written-clause-ran : goal.returns-in_err-put_written-clause-ran
returns-in_err-put_written-clause-ran g c =
    let p = err_from_is_err_and c.from_residual.result c.from_residual.ensures.1 in
    let wrote : written_text (program_in c.self.inside.loaded) (g.H.Heap.meaning c.self.inside.heap).store c.advance-telling.result.written ≡ advance_written c.args.self.now =
    ap (λ (s : Seen). written_text (program_in s.plan) s.memory.store c.advance-telling.result.written) c.self.view_is ∙ c.advance-telling.ensures.written in
    let k = sink_seen (g.K.Sink.written c.args.out.now) (g.K.Sink.faults c.args.out.now) in
    let k' = sink_seen (g.K.Sink.written c.put_written.new.out) (g.K.Sink.faults c.put_written.new.out) in
    let w = watch_seen (g.W.Watch.seen c.args.watch.now) (g.W.Watch.broken c.args.watch.now) (g.W.Watch.faults c.args.watch.now) in
    rw p.1 (fails_to_write (advance_written c.args.self.now) (listed (advance_told c.args.self.now)) k k' w (rw wrote at c.in_err-put_written.ensures.text) c.in_err-put_written.ensures.cause.failed c.requires)

pub returns-clause-ran : goal.returns-clause-ran
returns-clause-ran g c =
    let wrote : written_text (program_in c.self.inside.loaded) (g.H.Heap.meaning c.self.inside.heap).store c.advance-telling.result.written ≡ advance_written c.args.self.now =
    ap (λ (s : Seen). written_text (program_in s.plan) s.memory.store c.advance-telling.result.written) c.self.view_is ∙ c.advance-telling.ensures.written in
    let told = c.advance-telling.ensures.told in
    let k = sink_seen (g.K.Sink.written c.args.out.now) (g.K.Sink.faults c.args.out.now) in
    let k' = sink_seen (g.K.Sink.written c.put_written.new.out) (g.K.Sink.faults c.put_written.new.out) in
    let w = watch_seen (g.W.Watch.seen c.args.watch.now) (g.W.Watch.broken c.args.watch.now) (g.W.Watch.faults c.args.watch.now) in
    let w' = watch_seen (g.W.Watch.seen c.tell.new.watch) (g.W.Watch.broken c.tell.new.watch) (g.W.Watch.faults c.tell.new.watch) in
    ran_by (advance_written c.args.self.now) (listed (advance_told c.args.self.now)) k k' w w' c.tell.result (rw wrote at c.in_ok-put_written.ensures.text) c.in_ok-put_written.ensures.cause.kept (rw told at c.tell.ensures.all) c.tell.ensures.whole (rw told at c.tell.ensures.part) c.tell.ensures.cause
