use Rattle.std.proofs.Common.{◌<◌, length, Option, IfSome, ℕ, arith, subst, sym}
use Rattle.st_shake.proofs.Tables.{last-below}
use Rattle.st_shake.proofs.Visiting.{ends, visited-next}
use Rattle.st_shake.proofs.needed.take_in.Goals as goal

pub spell_from-requires : goal.spell_from-requires
spell_from-requires c = subst (λ (o : Option ℕ). IfSome o (λ n. n < length c.args.methods.now)) (sym c.last-last.ensures) (last-below c.args.methods.now c.text.result.now (length c.args.methods.now))

pub loop-number-preserved : goal.loop-number-preserved
loop-number-preserved c =
    visited-next c.args.methods.now c.args.names.now c.loop-number.names c.spell_from.new.names c.loop-number.number c.text.result.now c.last-last.result (let l = c.loop-number-test.true in let e = c.len.ensures in omega (arith, l, e)) c.text.ensures c.last-last.ensures c.in_ok-spell_from.ensures c.loop-number.invariant

pub returns : goal.returns
returns c = ends c.args.methods.now c.args.names.now c.loop-number.names c.loop-number.number (let l = c.loop-number-test.false in let e = c.len.ensures in omega (arith, l, e)) c.loop-number.invariant
