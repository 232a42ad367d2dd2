use Rattle.std.proofs.Common.{rules}
use Rattle.std.proofs.lemmas.List.Sorted.{answers_always}
use Rattle.program_image.specs.Tables.{key_of}
use Rattle.program_image.proofs.Order.{sorted_same}
use Rattle.program_image.proofs.Firsts.{stable-firsts}
use Rattle.program_image.proofs.table.MethodTable.new.Goals as goal

pub invariant_of-result : goal.invariant_of-result
invariant_of-result c = record { sorted = sorted_same c.sort_by_key.new.self.items (c.in_ok-sort_by_key.ensures.sorted key_of (answers_always _ _ _ (λ f a r g h. search rules))) }

pub returns : goal.returns
returns c = stable-firsts c.args.entries.items c.sort_by_key.new.self.items (c.in_ok-sort_by_key.ensures.stable key_of (answers_always _ _ _ (λ f a r g h. search rules)))
