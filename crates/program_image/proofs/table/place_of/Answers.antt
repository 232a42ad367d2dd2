use Rattle.std.proofs.Common.{◌≡◌, ◌+◌, ◌-◌, ◌/◌, ◌<◌, ◌≤◌, ℕ, get_or, true, false, ap, sym, ◌∙◌, arith}
use Rattle.std.proofs.lemmas.List.{get_or_default}
use Rattle.std.specs.Ordering.{is_lt}
use Rattle.program_image.specs.declared.table.Entry.{Entry}
use Rattle.program_image.specs.Tables.{is_before}
use Rattle.program_image.proofs.Order.{blank, key_same, searched-above, searched-below}
use Rattle.program_image.proofs.table.place_of.Goals as goal

pub loop-low-preserved-then-is_lt : goal.loop-low-preserved-then-is_lt
loop-low-preserved-then-is_lt c =
    let middle : ℕ = c.loop-low.low + (c.loop-low.high - c.loop-low.low) / 2 in
    let under : middle < c.loop-low.high = omega (arith, c.loop-low-test.true) in
    let told : is_before (get_or c.args.entries.now middle blank) c.args.key ≡ true =
    sym (ap is_lt (c.cmp.ensures ∙ key_same (get_or c.args.entries.now middle blank).key c.args.key)) ∙ sym c.is_lt.ensures ∙ c.if-is_lt.true in
    searched-above c.args.entries.now c.args.key c.requires.sorted c.loop-low.low middle c.loop-low.high c.loop-low.invariant under
    (λ d. ap (λ (e : Entry). is_before e c.args.key) (get_or_default c.args.entries.now middle d blank (omega (arith, under, c.loop-low.invariant.within))) ∙ told)

pub loop-low-preserved : goal.loop-low-preserved
loop-low-preserved c =
    let middle : ℕ = c.loop-low.low + (c.loop-low.high - c.loop-low.low) / 2 in
    let over : c.loop-low.low ≤ middle = omega arith in
    let under : middle < c.loop-low.high = omega (arith, c.loop-low-test.true) in
    let told : is_before (get_or c.args.entries.now middle blank) c.args.key ≡ false =
    sym (ap is_lt (c.cmp.ensures ∙ key_same (get_or c.args.entries.now middle blank).key c.args.key)) ∙ sym c.is_lt.ensures ∙ c.if-is_lt.false in
    searched-below c.args.entries.now c.args.key c.requires.sorted c.loop-low.low middle c.loop-low.high c.loop-low.invariant over under
    (λ d. ap (λ (e : Entry). is_before e c.args.key) (get_or_default c.args.entries.now middle d blank (omega (arith, under, c.loop-low.invariant.within))) ∙ told)
