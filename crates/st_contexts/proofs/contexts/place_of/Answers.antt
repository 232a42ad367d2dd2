use Rattle.std.proofs.Common.{◌+◌, ◌-◌, ◌/◌, sym, arith}
use Rattle.st_contexts.proofs.Finding.{searched_up, searched_down, searched_none, code_place_found, code_place_none}
use Rattle.st_contexts.proofs.contexts.place_of.Goals as goal

pub loop-low-init : goal.loop-low-init
loop-low-init c = record {
  order = omega arith;
  within = omega arith;
  below = λ k d l. omega (arith, l);
  above = λ k d l m. omega (arith, l, m);
}

pub returns-then-found-number : goal.returns-then-found-number
returns-then-found-number c = sym (code_place_found c.requires.0 c.args.number c.args.slots.now _ (c.loop-low.low + (c.loop-low.high - c.loop-low.low) / 2) c.requires.1 (omega (arith, c.loop-low.invariant.within, c.loop-low-test.true)) c.if-found-number.true)

pub loop-low-preserved-then-found-number-2 : goal.loop-low-preserved-then-found-number-2
loop-low-preserved-then-found-number-2 c = searched_up c.requires.0 c.args.number c.loop-low.low c.loop-low.high (c.loop-low.low + (c.loop-low.high - c.loop-low.low) / 2) c.args.slots.now _ c.requires.1 c.loop-low.invariant (omega arith) (omega (arith, c.loop-low-test.true)) c.if-found-number-2.true

pub loop-low-preserved : goal.loop-low-preserved
loop-low-preserved c = searched_down c.requires.0 c.args.number c.loop-low.low c.loop-low.high (c.loop-low.low + (c.loop-low.high - c.loop-low.low) / 2) c.args.slots.now _ c.requires.1 c.loop-low.invariant (omega arith) (omega (arith, c.loop-low-test.true)) c.if-found-number-2.false c.if-found-number.false

pub returns : goal.returns
returns c = sym (code_place_none c.args.number c.args.slots.now (λ k d l. searched_none c.args.number c.loop-low.low c.loop-low.high c.args.slots.now c.loop-low.invariant c.loop-low-test.false k d l))
