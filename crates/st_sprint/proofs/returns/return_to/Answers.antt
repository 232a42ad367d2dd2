use Rattle.std.proofs.Common.{◌≡◌, true, sym, ◌∙◌, ap}
use Rattle.st_machine.specs.declared.work.Mode.TheVariants.{Run}
use Rattle.st_machine.specs.Seen.{Seen}
use Rattle.st_sprint.specs.Returns.{lets_pass}
use Rattle.st_sprint.proofs.Returning.{passes_so}
use Rattle.st_sprint.proofs.Sprints.{then_run}
use Rattle.st_sprint.proofs.returns.return_to.Goals as goal

pub loop-left-preserved : goal.loop-left-preserved
loop-left-preserved g c =
    let pass : lets_pass c.args.home c.loop-left.machine.stack ≡ true = sym c.lets_pass.ensures ∙ c.if-lets_pass.true in
    let runs : c.drop_innermost.new.machine.mode ≡ Run = ap (λ (s : Seen). s.mode) c.drop_innermost.ensures ∙ c.loop-left.invariant.0 in
    (runs, rw c.after_step-left.ensures (then_run c.loop-left.invariant.1 (passes_so c.loop-left.left.steps c.loop-left.left.turns c.args.home c.args.value c.loop-left.machine c.drop_innermost.new.machine c.loop-left-test.true pass c.drop_innermost.ensures)))
