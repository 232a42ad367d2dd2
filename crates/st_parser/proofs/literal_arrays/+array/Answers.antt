use Rattle.std.proofs.Common.{◌≡◌, ◌≤◌, ◌<◌, ◌-◌, length, refl, true, false, arith, []}
use Rattle.st_parser.specs.Reading.{rest, kind_at, next, is_array_end, is_inner_open}
use Rattle.st_parser.proofs.Rest.{less, ahead}
use Rattle.st_parser.proofs.ArraySteps.{array_read, inner_read, no_items, items_more}
use Rattle.st_parser.proofs.literal_arrays.+array.Goals as goal

pub array-returns-clause-read : goal.array-returns-clause-read
array-returns-clause-read t c = rw c.advance.ensures (array_read c.args.source.now c.args.tokens.now c.items.new.at c.in_ok-items.ensures.stops (rw c.new-all.ensures at c.in_ok-items.ensures.read))

pub item-array-requires : goal.item-array-requires
item-array-requires t c = (let b : length c.args.tokens.now - next c.args.tokens.now c.args.at.now < length c.args.tokens.now - c.args.at.now = less c.args.tokens.now c.args.at.now is_inner_open refl (cc) in omega (arith, b, c.advance.ensures, c.decreases), tt)

pub item-returns-in_ok-inside-clause-less : goal.item-returns-in_ok-inside-clause-less
item-returns-in_ok-inside-clause-less t c = λ e. let b : length c.args.tokens.now - next c.args.tokens.now c.args.at.now < length c.args.tokens.now - c.args.at.now = less c.args.tokens.now c.args.at.now is_inner_open refl (cc) in omega (arith, b, c.advance.ensures, c.in_ok-inside.ensures.ahead)

pub item-returns-in_ok-inside-clause-read : goal.item-returns-in_ok-inside-clause-read
item-returns-in_ok-inside-clause-read t c = λ e. inner_read c.args.source.now c.args.tokens.now c.args.at.now (cc) (rw c.advance.ensures at c.in_ok-inside.ensures.read)
