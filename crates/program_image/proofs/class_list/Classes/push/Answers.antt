use Rattle.std.proofs.Common.{◌∙◌, ◌≡◌, ◌+◌, ◌∷◌, [], ap, length, arith, length-append}
use Rattle.program_image.proofs.ByName.{numbers-push}
use Rattle.program_image.proofs.class_list.Classes.push.Goals as goal

pub invariant_of-self-2 : goal.invariant_of-self-2
invariant_of-self-2 c =
    let count : length c.push.new.self ≡ length c.self.inside.items + 1 = ap length c.in_ok-push.ensures.ok ∙ length-append c.self.inside.items (c.args.class ∷ []) in (
      rw c.in_ok-push.ensures.ok (numbers-push c.self.inside.items c.args.class c.self.inside.numbers c.reserve.new.self c.note.new.numbers c.in_ok-name.name.items c.len-number.result
          c.self.invariant.0 c.in_ok-reserve.ensures.entries (c.in_ok-name.ensures.items ∙ c.as_bytes.ensures) c.len-number.ensures c.note.ensures),
      omega (arith, count, c.if-len.false, c.len.ensures),
    )
