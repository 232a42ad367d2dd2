use Rattle.std.proofs.Common.{◌≡◌, ◌+◌, ◌-◌, ◌≤◌}
use Rattle.st_collections.specs.Answers.{program_of}
use Rattle.st_collections.specs.Items.{all_of_kind}
use Rattle.st_collections.specs.Kinds.{elements, some_elements}
use Rattle.st_collections.proofs.kinds.all_are.Given as goal

-- the elements from the index on decide
abbrev pub invariant-loop-index : goal.invariant-loop-index
invariant-loop-index g l = record {
  low : 1 ≤ l.index;
  high : l.index ≤ l.size + 1;
  rest : all_of_kind l.kind (elements (program_of l.names) (g.H.Heap.meaning l.heap).store l.value) ≡ all_of_kind l.kind (some_elements (program_of l.names) (g.H.Heap.meaning l.heap).store l.value l.index (l.size + 1 - l.index));
}

abbrev pub decreases-loop-index : goal.decreases-loop-index
decreases-loop-index g l = l.size + 1 - l.index
