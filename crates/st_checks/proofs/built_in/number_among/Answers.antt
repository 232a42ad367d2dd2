use Rattle.std.proofs.Common.{arith, sym, ◌∙◌, refl, ap}
use Rattle.std.specs.Str.{bytes_eq}
use Rattle.st_checks.proofs.BuiltIns.{named}
use Rattle.st_checks.proofs.Places.{first_place_at, first_place_none}
use Rattle.st_checks.proofs.built_in.number_among.Goals as goal

pub loop-number-init : goal.loop-number-init
loop-number-init c = refl

pub returns-then-eq : goal.returns-then-eq
returns-then-eq c = sym (first_place_at (named c.args.name.now) c.args.classes.now c.loop-number.number _ (omega arith) c.loop-number.invariant (ap (bytes_eq c.args.name.now) (sym (c.as_bytes.ensures.value ∙ c.name.ensures)) ∙ sym c.eq.ensures ∙ c.if-eq.true))

pub loop-number-preserved : goal.loop-number-preserved
loop-number-preserved c = first_place_none (named c.args.name.now) c.args.classes.now c.loop-number.number _ (omega arith) c.loop-number.invariant (ap (bytes_eq c.args.name.now) (sym (c.as_bytes.ensures.value ∙ c.name.ensures)) ∙ sym c.eq.ensures ∙ c.if-eq.false)
