use Rattle.std.proofs.Common.{sym, ◌∙◌}
use Rattle.program_image.specs.Images.{on_side}
use Rattle.program_image.proofs.Lookups.{up-here, up-none, up-above}
use Rattle.program_image.proofs.image.Image.found_up.Goals as goal

pub returns-in-Some : goal.returns-in-Some
returns-in-Some c = sym (c.loop-found.invariant ∙ up-here c.args.self.now c.args.selector (on_side c.args.side) c.loop-found.at c.in-Some.found (sym c.found_at.ensures ∙ c.in-Some.is))

pub loop-found-preserved : goal.loop-found-preserved
loop-found-preserved c =
    c.loop-found.invariant
    ∙ up-above c.args.self.now c.args.selector (on_side c.args.side) c.loop-found.at c.in-Some-superclass.above (sym c.found_at.ensures ∙ c.in_default.is) (sym c.superclass.ensures.value ∙ c.in-Some-superclass.is)

pub returns-in-None : goal.returns-in-None
returns-in-None c =
    sym (c.loop-found.invariant ∙ up-none c.args.self.now c.args.selector (on_side c.args.side) c.loop-found.at (sym c.found_at.ensures ∙ c.in_default.is) (sym c.superclass.ensures.value ∙ c.in-None.is))
