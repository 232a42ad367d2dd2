use Rattle.std.proofs.Common.{◌∙◌}
use Rattle.std.proofs.lemmas.List.{length-reverse}
use Rattle.st_contexts.proofs.Flatten.{length_standings}
use Rattle.st_contexts.proofs.contexts.Contexts.depth.Goals as goal

pub returns : goal.returns
returns c = rw (← c.self.view_is, length_standings, length-reverse) (c.len.ensures ∙ c.self.inside.slots.ok.0)
