-- What holds of a machine holds after each small step.
use Rattle.std.proofs.Common.{ℕ, refl, arith}
use Rattle.st_contexts.specs.declared.outcome.Outcome.{Outcome}
use Rattle.st_contexts.specs.Stack.{Standing}
use Rattle.object_heap.specs.Charges.{Memory}
use Rattle.st_machine.specs.declared.work.Mode.{Mode}
use Rattle.st_machine.specs.declared.work.Mode.TheVariants as mode
use Rattle.st_machine.specs.declared.work.Work.{Work}
use Rattle.st_machine.specs.declared.work.Work.TheVariants as work
use Rattle.st_machine.specs.Seen.{Plan, Seen}
use Rattle.st_machine.specs.Steps.{first_seen, advanced}
use Rattle.st_machine.specs.Works.{begun}
use Rattle.st_machine.specs.Followed.{IsSound, Ready}
use Rattle.st_machine_laws.specs.Holding.{Course, Moderate, allowance, Holds, further, course_of}
use Rattle.st_machine_laws.proofs.Blocks.{F, W, numbers}
use Rattle.st_machine_laws.proofs.Signals.{raises, raises_new, fails}
use Rattle.st_machine_laws.proofs.Searches.{searches, turns, asks}
use Rattle.st_machine_laws.proofs.Settling.{with, outcomes}
use Rattle.st_machine_laws.proofs.Opening.{applies, activates, enters, opens_next}
use Rattle.st_machine_laws.proofs.Instructions.{instructs}
use Rattle.st_machine_laws.proofs.Loops.{visits}
use Rattle.st_machine_laws.proofs.Performing.{sends, sends_value, sends_super}

works : {course : Course} → (w : Work) (s : Seen) → Holds course (with s s.stack.acts (mode.Begin w)) → Holds course (begun w (with s s.stack.acts (mode.Begin w)))
works (work.Apply receiver env) s h = applies receiver env (with s s.stack.acts (mode.Begin (work.Apply receiver env))) h.firm h.placed h.numbers h.next.0
works (work.SendValue receiver env) s h = sends_value receiver env (with s s.stack.acts (mode.Begin (work.SendValue receiver env))) h.firm h.placed h.numbers h.next.0
works (work.Activate c env) s h = activates c env (with s s.stack.acts (mode.Begin (work.Activate c env))) h.firm h.placed h.numbers h.next.0
works (work.Enter code receiver env) s h = enters code receiver env (with s s.stack.acts (mode.Begin (work.Enter code receiver env))) h.firm h.placed h.numbers h.next.0
works (work.SendTo selector receiver env) s h = sends selector receiver env (with s s.stack.acts (mode.Begin (work.SendTo selector receiver env))) h.firm h.placed h.numbers h.next.0
works (work.SuperTo class selector receiver env) s h = sends_super class selector receiver env (with s s.stack.acts (mode.Begin (work.SuperTo class selector receiver env))) h.firm h.placed h.numbers h.next.0
works (work.Fail trouble env) s h = fails trouble env (with s s.stack.acts (mode.Begin (work.Fail trouble env))) h.firm h.placed h.numbers h.next.0
works (work.Raise e env) s h = raises e env (with s s.stack.acts (mode.Begin (work.Raise e env))) h.firm h.placed h.numbers h.next.0
works (work.RaiseNew class env) s h = raises_new class env (with s s.stack.acts (mode.Begin (work.RaiseNew class env))) h.firm h.placed h.numbers h.next.0
works (work.Search x rest) s h = searches x rest (with s s.stack.acts (mode.Begin (work.Search x rest))) h.firm h.placed h.numbers h.next.0.0
works (work.TurnBy x entry outside) s h = turns x outside (with s s.stack.acts (mode.Begin (work.TurnBy x entry outside))) h.firm h.placed h.next.0.1 entry h.next.0.0.1 h.numbers
works (work.Ask v k t env) s h = asks v k t env (with s s.stack.acts (mode.Begin (work.Ask v k t env))) h.firm h.placed h.numbers h.next.0.0 h.next.0.1
works (work.Visit n l v env) s h = visits n l v env s s.stack.acts (mode.Begin (work.Visit n l v env)) h.firm h.placed h.numbers h.next.0 h.next.1

by_mode : {course : Course} → (m : Mode) (s : Seen) → Holds course (with s s.stack.acts m) → Holds (further m course) (advanced (with s s.stack.acts m))
by_mode mode.Run s h = instructs s s.stack.acts h.firm h.placed h.numbers h.next
by_mode (mode.Settle o) s h = outcomes o s s.stack.acts (mode.Settle o) h.firm h.placed h.numbers
by_mode (mode.Begin w) s h = works w s h
by_mode mode.Next s h = opens_next (with s s.stack.acts mode.Next) h.firm h.placed h.numbers
by_mode (mode.Ended e) s h = h

pub stays : (course : Course) (s : Seen) → Holds course s → Holds (further s.mode course) (advanced s)
stays course s h = by_mode s.mode s h

-- ---- the beginning

pub first : (plan : Plan) (memory : Memory) → Moderate plan → Ready (first_seen plan memory) → Holds (course_of plan) (first_seen plan memory)
first plan memory small r =
    record {
      firm = record {
        same = refl;
        wide = refl;
        ran = refl;
        moderate = small;
        compiled = r.compiled;
        initializers = r.initializers;
        troubles = r.troubles;
        roomy = r.roomy;
        space = r.space;
        passes = r.passes;
        arguments = r.arguments;
        depth = r.depth;
        cells = r.cells;
        within = r.within;
        positive = omega arith;
        falling = tt;
        limited = omega arith;
        known = omega arith;
      };
      placed = tt;
      numbers = omega arith;
      next = r.next;
    }

-- ---- a machine that is ready

pub ready : (course : Course) (s : Seen) → Holds course s → IsSound s.mode s → Ready s
ready course s h sound =
    record {
      compiled = h.firm.compiled;
      initializers = h.firm.initializers;
      troubles = h.firm.troubles;
      roomy = h.firm.roomy;
      space = h.firm.space;
      passes = h.firm.passes;
      arguments = h.firm.arguments;
      depth = h.firm.depth;
      cells = h.firm.cells;
      within = h.firm.within;
      numbers = numbers (allowance s.mode) s h.firm h.numbers;
      falling = h.firm.falling;
      next = h.next;
      sound = sound;
    }
