use Rattle.std.proofs.Common.{ℕ, Option, ◌∙◌, ap, sym}
use Rattle.st_checks.specs.Keys.{first_unit, has_key, text_key}
use Rattle.st_checks.proofs.Places.{first_place-below, is_below}
use Rattle.st_checks.proofs.table.Table.has_before.Goals as goal

pub returns-in-Some : goal.returns-in-Some
unfolding first_unit
returns-in-Some c = ap (λ (o : Option ℕ). is_below o c.args.n) (sym c.in-Some.is ∙ c.first.ensures) ∙ sym (first_place-below (has_key (text_key c.args.key)) c.args.self.now c.args.n)

pub returns-in-None : goal.returns-in-None
unfolding first_unit
returns-in-None c = ap (λ (o : Option ℕ). is_below o c.args.n) (sym c.in-None.is ∙ c.first.ensures) ∙ sym (first_place-below (has_key (text_key c.args.key)) c.args.self.now c.args.n)
