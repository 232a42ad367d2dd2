use Rattle.std.proofs.Common.{sym, ◌∙◌}
use Rattle.program_image.specs.Images.{image_program}
use Rattle.program_image.proofs.Walks.{image-lower, inherits-here, inherits-none, inherits-above, number-same, number-not}
use Rattle.program_image.proofs.image.Image.inherits.Goals as goal

pub returns-then-at-ancestor : goal.returns-then-at-ancestor
returns-then-at-ancestor c = sym (c.loop-at.invariant ∙ inherits-here (image_program c.args.self.now) (image-lower c.args.self.now) c.loop-at.at c.args.ancestor (number-same c.loop-at.at c.args.ancestor c.if-at-ancestor.true))

pub loop-at-preserved : goal.loop-at-preserved
loop-at-preserved c =
    c.loop-at.invariant
    ∙ inherits-above (image_program c.args.self.now) (image-lower c.args.self.now) c.loop-at.at c.args.ancestor c.in-Some.above (number-not c.loop-at.at c.args.ancestor c.if-at-ancestor.false) (sym c.superclass.ensures.value ∙ c.in-Some.is)

pub returns-in-None : goal.returns-in-None
returns-in-None c =
    sym (c.loop-at.invariant ∙ inherits-none (image_program c.args.self.now) (image-lower c.args.self.now) c.loop-at.at c.args.ancestor (number-not c.loop-at.at c.args.ancestor c.if-at-ancestor.false) (sym c.superclass.ensures.value ∙ c.in-None.is))
