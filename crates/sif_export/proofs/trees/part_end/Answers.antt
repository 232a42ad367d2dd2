use Rattle.std.proofs.Common.{◌≡◌, arith, subst, take, drop, suc, ◌+◌}
use Rattle.sif_export.specs.TreeWords.{first_part, other_parts}
use Rattle.sif_export.proofs.Steps.{first_part-take, other_parts-drop, first_part-none, other_parts-none}
use Rattle.sif_export.proofs.trees.part_end.Goals as goal

pub returns-then-run-selector-clause-part : goal.returns-then-run-selector-clause-part
returns-then-run-selector-clause-part c = let e : suc c.run_of-run.result ≡ c.run_of-run.result + 1 = omega arith in subst (λ n. take n c.args.selector.now ≡ first_part c.args.selector.now) e (first_part-take c.run_of-run.result c.args.selector.now c.run_of-run.ensures.plain (omega arith) (c.run_of-run.ensures.found (omega arith)))

pub returns-then-run-selector-clause-others : goal.returns-then-run-selector-clause-others
returns-then-run-selector-clause-others c = let e : suc c.run_of-run.result ≡ c.run_of-run.result + 1 = omega arith in subst (λ n. drop n c.args.selector.now ≡ other_parts c.args.selector.now) e (other_parts-drop c.run_of-run.result c.args.selector.now c.run_of-run.ensures.plain (omega arith) (c.run_of-run.ensures.found (omega arith)))

pub returns-else-run-selector-clause-part : goal.returns-else-run-selector-clause-part
returns-else-run-selector-clause-part c = first_part-none c.run_of-run.result c.args.selector.now c.run_of-run.ensures.plain (omega arith)

pub returns-else-run-selector-clause-others : goal.returns-else-run-selector-clause-others
returns-else-run-selector-clause-others c = other_parts-none c.run_of-run.result c.args.selector.now c.run_of-run.ensures.plain (omega arith)
