use Rattle.std.proofs.Common.{◌∙◌, refl, sym, arith, ap}
use Rattle.st_base.specs.Lexed.{value_of}
use Rattle.st_lexer.specs.Seen.{held}
use Rattle.st_lexer.proofs.NumberLemmas.{value_behind-past}
use Rattle.st_lexer.proofs.numbers.value_of.Goals as goal

pub loop-byte-init : goal.loop-byte-init
unfolding value_of
loop-byte-init c = record { same = refl; small = omega arith }

pub returns-in_err-value : goal.returns-in_err-value
returns-in_err-value c =
    c.from_residual.ensures
    ∙ sym (ap held c.loop-byte.invariant.same ∙ value_behind-past c.args.radix c.loop-byte.value c.loop-byte.byte-index c.args.digits.now (omega arith) c.loop-byte-test.true (sym c.in_err-value.was ∙ c.with_digit.ensures))
