use Rattle.std.proofs.Common.{◌≡◌}
use mir.Val.{to_z, of_z}
use mir.Syntax.{w128}
use Rattle.std.proofs.lemmas.Int.{to_z-of_z}
use Rattle.std.proofs.lemmas.List.{take_rest}
use Rattle.st_messages.proofs.numbers.digits_text.Goals as goal

pub returns-clause-answer : goal.returns-clause-answer
returns-clause-answer g c =
    let same : to_z w128 (of_z w128 c.args.number) ≡ c.args.number = to_z-of_z w128 c.args.number c.ranges.number in
    rw (take_rest c.radix_digits-digits.result.bytes c.radix_digits-digits.result.start, c.radix_digits-digits.ensures.text, same) at c.new_bytes.ensures.answer
