use Rattle.std.proofs.Common.{[], List, map, ap, ◌∙◌}
use Rattle.st_code.specs.Texts.{Text}
use Rattle.st_code.specs.Resolved.{has_text}
use Rattle.st_compiler.specs.Bytes.{bytes_now}
use Rattle.st_compiler.proofs.Mentioned.{gathering-next, gathering-end}
use Rattle.st_compiler.proofs.names.Mentions.set.Goals as goal

pub loop-name-preserved : goal.loop-name-preserved
loop-name-preserved c = gathering-next c.loop-name.set c.add.new.self c.as_slice-name-items.result.now (record { ref_ptr = (0, 0); now = [] }) c.loop-name.name-index c.loop-name-test.true c.in_ok-add.ensures c.loop-name.invariant

pub returns : goal.returns
returns c t =
    gathering-end c.loop-name.set c.as_slice-name-items.result.now c.loop-name.name-index t c.loop-name-test.false c.loop-name.invariant
    ∙ ap (λ (ts : List Text). has_text ts t) (ap (map bytes_now) c.as_slice-name-items.ensures.value ∙ c.self.view_is)
