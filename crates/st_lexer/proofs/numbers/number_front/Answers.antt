use Rattle.std.proofs.Common.{◌∙◌, sym}
use Rattle.std.proofs.lemmas.List.{take_rest}
use Rattle.st_lexer.proofs.NumberLemmas.{number_radix}
use Rattle.st_lexer.proofs.numbers.number_front.Goals as goal

pub returns-then-begins_with : goal.returns-then-begins_with
returns-then-begins_with c =
    number_radix c.args.bytes.now _ c.digits_len-n.result _ c.digits_len-n.ensures.len (take_rest c.args.bytes.now c.digits_len-n.result) (sym c.begins_with.ensures ∙ c.if-begins_with.true) (c.radix_front.ensures _ c.value_of-value.ensures)
