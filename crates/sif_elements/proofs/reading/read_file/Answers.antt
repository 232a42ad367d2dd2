-- The turns of reading, one after another.
use Rattle.std.proofs.Common.{◌≡◌, ◌∙◌, ◌+◌, ◌-◌, ◌^◌, ◌<◌, List, refl, sym, subst, arith}
use Rattle.std.specs.Io.KnownBytes.{append_known}
use Rattle.sif_chunks.specs.Reading.{judged}
use Rattle.sif_chunks.proofs.Leaving.{leaves_all, leaves_leaves}
use Rattle.sif_chunks.specs.declared.next.Next.TheVariants as next
use Rattle.st_tree.specs.Numbers.{elements_in}
use Rattle.st_tree.specs.declared.units.Unit.{Unit}
use Rattle.sif_elements.specs.declared.progress.Progress.{Progress}
use Rattle.st_tree.specs.Small.{IsSmall}
use Rattle.sif_elements.specs.Turns.{Onward, turn_of}
use Rattle.sif_elements.proofs.Only.{takes_of}
use Rattle.sif_elements.proofs.Ahead.{IsBefore-new, IsBefore-given, at_start, at_answer, after_element, answered, turn_goes, step_goes, fault_fails, no_fault, if_read, if_ended, if_between}
use Rattle.sif_elements.proofs.TakenLemmas.{taken_at_start, taken_on, counted_at_start, counted_on, counted_takes, took, fault_leaves_open}
use Rattle.sif_elements.proofs.Settling.{source_open}
use Rattle.sif_elements.proofs.TextBytes.{text_judged}
use Rattle.sif_elements.proofs.Sized.{IsSized, sized_at_start, sized_more, small_between}
use Rattle.sif_elements.proofs.Counts.{few_more}
use Rattle.sif_elements.proofs.reading.read_file.Goals as goal

pub loop-after-init : goal.loop-after-init
loop-after-init g c = rw c.in-Ok.ensures record {
  ahead = (1, IsBefore-new, at_start (append_known (g.S.Source.left c.args.source.now) c.args.appendix.now), taken_at_start (append_known (g.S.Source.left c.args.source.now) c.args.appendix.now));
  counted = counted_at_start (append_known (g.S.Source.left c.args.source.now) c.args.appendix.now);
  leaves = leaves_all (g.S.Source.left c.args.source.now) c.args.appendix.now;
  faults = refl;
  bound = omega arith;
  held = omega arith;
  sized = sized_at_start;
  few = omega arith;
}

pub loop-after-smaller : goal.loop-after-smaller
loop-after-smaller g c =
    let moved = c.next_with-next.ensures.progress c.loop-after.invariant.ahead.1.live (turn_goes c.loop-after.progress c.in-Goes.after c.next_with-next.result c.next_with-next.new.self.number c.next_with-next.new.self.text c.in-Goes.ensures.made) in
    omega (arith, moved, c.next_with-next.ensures.bound)

pub loop-after-preserved : goal.loop-after-preserved
loop-after-preserved g c =
    let first = (append_known (g.S.Source.left c.args.source.now) c.args.appendix.now) in
    let before = (append_known (g.S.Source.left c.loop-after.source) c.loop-after.appendix) in
    let after = (append_known (g.S.Source.left c.next_with-next.new.source) c.next_with-next.new.appendix) in
    let p = c.loop-after.progress in
    let q = c.in-Goes.after in
    let old = c.loop-after.reader in
    let new = c.next_with-next.new.self in
    let n = c.loop-after.invariant.ahead.0 in
    let begun = c.loop-after.invariant.ahead.1 in
    let turns : Onward q ≡ turn_of p c.next_with-next.result new.number new.text = c.in-Goes.ensures.made in
    let element : c.next_with-next.result ≡ next.Element = turn_goes p q c.next_with-next.result new.number new.text turns in
    let takes = takes_of p new.text q (step_goes p q c.next_with-next.result new.number new.text turns) in
    let few = few_more takes in
    let moved = c.next_with-next.ensures.progress begun.live element in
    let bytes = text_judged n old new before after begun (rw element at c.next_with-next.ensures.settled) c.loop-after.invariant.held in
    record {
      ahead = (
        new.number + 1,
        IsBefore-given new (rw element at c.next_with-next.ensures.stop) (rw element at c.next_with-next.ensures.given),
        after_element p q new c.next_with-next.result first after turns (at_answer p n old new c.next_with-next.result first before after begun c.loop-after.invariant.ahead.2 c.next_with-next.ensures.answer),
        taken_on p q n old new c.next_with-next.result first before after begun c.next_with-next.ensures.settled c.next_with-next.ensures.answer turns c.loop-after.invariant.ahead.3,
      );
      counted = counted_on c.next_with-next.result old new first before after c.next_with-next.ensures.settled c.loop-after.invariant.counted;
      leaves = leaves_leaves (g.S.Source.left c.args.source.now) (g.S.Source.left c.loop-after.source) (g.S.Source.left c.next_with-next.new.source) c.args.appendix.now c.loop-after.appendix c.next_with-next.new.appendix c.loop-after.invariant.leaves c.next_with-next.ensures.leaves;
      faults = c.next_with-next.ensures.kept (λ fault. let k : next.Element ≡ next.ReadFault = sym element ∙ fault in cc) ∙ c.loop-after.invariant.faults;
      bound = c.next_with-next.ensures.bound;
      held = bytes.0;
      sized = sized_more (judged old) (judged new) (c.in-Goes.ensures.short element) takes moved bytes.1 c.loop-after.invariant.sized;
      few = omega (arith, few, moved, c.loop-after.invariant.few);
    }

pub returns-in-Ends-clause-told : goal.returns-in-Ends-clause-told
returns-in-Ends-clause-told g c =
    answered c.loop-after.progress c.next_with-next.result c.in-Ends.answer c.next_with-next.new.self (append_known (g.S.Source.left c.args.source.now) c.args.appendix.now) (append_known (g.S.Source.left c.next_with-next.new.source) c.next_with-next.new.appendix) c.in-Ends.ensures.made
    (at_answer c.loop-after.progress c.loop-after.invariant.ahead.0 c.loop-after.reader c.next_with-next.new.self c.next_with-next.result (append_known (g.S.Source.left c.args.source.now) c.args.appendix.now) (append_known (g.S.Source.left c.loop-after.source) c.loop-after.appendix) (append_known (g.S.Source.left c.next_with-next.new.source) c.next_with-next.new.appendix) c.loop-after.invariant.ahead.1 c.loop-after.invariant.ahead.2 c.next_with-next.ensures.answer)

pub returns-in-Ends-clause-ended : goal.returns-in-Ends-clause-ended
returns-in-Ends-clause-ended g c =
    if_ended _ c.loop-after.progress c.next_with-next.result c.in-Ends.answer c.next_with-next.new.self.number c.next_with-next.new.self.text c.in-Ends.ensures.made (c.next_with-next.ensures.ended c.loop-after.invariant.ahead.1.live)

pub returns-in-Ends-clause-few : goal.returns-in-Ends-clause-few
returns-in-Ends-clause-few g c =
    if_read (λ (units : List Unit). elements_in units < 2 ^ 32 - 1) c.loop-after.progress c.next_with-next.result c.in-Ends.answer c.next_with-next.new.self.number c.next_with-next.new.self.text c.in-Ends.ensures.made (omega (arith, c.loop-after.invariant.few, c.loop-after.invariant.bound))

pub returns-in-Ends-clause-took : goal.returns-in-Ends-clause-took
returns-in-Ends-clause-took g c =
    took c.next_with-next.new.self (append_known (g.S.Source.left c.args.source.now) c.args.appendix.now) (append_known (g.S.Source.left c.next_with-next.new.source) c.next_with-next.new.appendix) c.next_with-next.ensures.most
    (counted_on c.next_with-next.result c.loop-after.reader c.next_with-next.new.self (append_known (g.S.Source.left c.args.source.now) c.args.appendix.now) (append_known (g.S.Source.left c.loop-after.source) c.loop-after.appendix) (append_known (g.S.Source.left c.next_with-next.new.source) c.next_with-next.new.appendix) c.next_with-next.ensures.settled c.loop-after.invariant.counted)

pub returns-in-Ends-clause-unsettled : goal.returns-in-Ends-clause-unsettled
returns-in-Ends-clause-unsettled g c = λ fault.
    let fails = fault_fails c.loop-after.progress c.next_with-next.result c.in-Ends.answer c.next_with-next.new.self.number c.next_with-next.new.self.text c.in-Ends.ensures.made fault in
    fault_leaves_open c.loop-after.progress c.loop-after.invariant.ahead.0 c.loop-after.reader c.next_with-next.new.self (append_known (g.S.Source.left c.args.source.now) c.args.appendix.now) (append_known (g.S.Source.left c.loop-after.source) c.loop-after.appendix) (append_known (g.S.Source.left c.next_with-next.new.source) c.next_with-next.new.appendix) c.loop-after.invariant.ahead.1 (rw fails at c.next_with-next.ensures.settled) (c.next_with-next.ensures.input (rw fails at c.next_with-next.ensures.stop)) c.loop-after.invariant.ahead.3

pub returns-in-Ends-clause-leaves : goal.returns-in-Ends-clause-leaves
returns-in-Ends-clause-leaves g c =
    leaves_leaves (g.S.Source.left c.args.source.now) (g.S.Source.left c.loop-after.source) (g.S.Source.left c.next_with-next.new.source) c.args.appendix.now c.loop-after.appendix c.next_with-next.new.appendix c.loop-after.invariant.leaves c.next_with-next.ensures.leaves

pub returns-in-Ends-clause-source_unsettled : goal.returns-in-Ends-clause-source_unsettled
returns-in-Ends-clause-source_unsettled g c = λ fault.
    source_open (g.S.Source.left c.args.source.now) (g.S.Source.left c.next_with-next.new.source) c.args.appendix.now c.next_with-next.new.appendix
    (returns-in-Ends-clause-leaves g c) (returns-in-Ends-clause-unsettled g c fault)

pub returns-in-Err-clause-leaves : goal.returns-in-Err-clause-leaves
returns-in-Err-clause-leaves g c = leaves_all (g.S.Source.left c.args.source.now) c.args.appendix.now

pub returns-in-Ends-clause-kept : goal.returns-in-Ends-clause-kept
returns-in-Ends-clause-kept g c = λ other.
    c.next_with-next.ensures.kept (no_fault c.next_with-next.result c.in-Ends.answer c.in-Ends.ensures.fault other) ∙ c.loop-after.invariant.faults

pub returns-in-Ends-clause-failed : goal.returns-in-Ends-clause-failed
returns-in-Ends-clause-failed g c = λ fault.
    let fails = fault_fails c.loop-after.progress c.next_with-next.result c.in-Ends.answer c.next_with-next.new.self.number c.next_with-next.new.self.text c.in-Ends.ensures.made fault in
    rw (← c.loop-after.invariant.faults) (c.next_with-next.ensures.failed fails)

pub returns-in-Ends-clause-small : goal.returns-in-Ends-clause-small
returns-in-Ends-clause-small g c =
    if_between IsSmall c.loop-after.progress c.next_with-next.result c.in-Ends.answer c.next_with-next.new.self.number c.next_with-next.new.self.text c.in-Ends.ensures.made
    (λ us is. small_between us (judged c.loop-after.reader) c.loop-after.invariant.bound (subst (λ (p : Progress). IsSized p (judged c.loop-after.reader)) is c.loop-after.invariant.sized))

pub returns-in-Ends-clause-counted : goal.returns-in-Ends-clause-counted
returns-in-Ends-clause-counted g c =
    rw c.taken.ensures (counted_takes c.next_with-next.new.self (append_known (g.S.Source.left c.args.source.now) c.args.appendix.now) (append_known (g.S.Source.left c.next_with-next.new.source) c.next_with-next.new.appendix)
    (counted_on c.next_with-next.result c.loop-after.reader c.next_with-next.new.self (append_known (g.S.Source.left c.args.source.now) c.args.appendix.now) (append_known (g.S.Source.left c.loop-after.source) c.loop-after.appendix) (append_known (g.S.Source.left c.next_with-next.new.source) c.next_with-next.new.appendix)
    c.next_with-next.ensures.settled c.loop-after.invariant.counted))
