use Rattle.std.proofs.Common.{◌≡◌, ◌≤◌, take, drop, map, length}
use Rattle.sif_export.specs.Words.{Done, Joined}
use Rattle.sif_export.specs.TreeWords.{sent_words, name_words}
use Rattle.sif_export.proofs.Steps.{others}
use Rattle.sif_export.proofs.elements.pattern.Given as goal

-- the parameters so far are written, each behind its part of the selector, and no call failed
abbrev pub invariant-loop-parameter : goal.invariant-loop-parameter
invariant-loop-parameter g l = record {
  text : Done Joined (g.K.Sink.written l.fn.sink) l.gap (g.K.Sink.written l.sink) (sent_words l.selector (map name_words (take l.parameter-index l.parameter-items)));
  within : l.at ≤ length l.selector;
  rest : drop l.at l.selector ≡ others (map name_words (take l.parameter-index l.parameter-items)) l.selector;
  faults : g.K.Sink.faults l.sink ≡ g.K.Sink.faults l.fn.sink;
}
