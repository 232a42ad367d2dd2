-- The machine at the beginning of a run, and one small step of it.
use Rattle.std.specs.Prelude.{[], replicate}
use Rattle.object_heap.specs.declared.value.Value.TheVariants.{Nil}
use Rattle.object_heap.specs.Charges.{Memory}
use Rattle.st_code.specs.Texts.{Text}
use Rattle.st_contexts.specs.Stack.{new_stack}
use Rattle.st_rules.specs.Flat.{greatest_width}
use Rattle.st_machine.specs.declared.work.Mode.{Mode}
use Rattle.st_machine.specs.declared.work.Mode.TheVariants.{Run, Settle, Begin, Next, Ended}
use Rattle.st_machine.specs.declared.work.Told.{Told}
use Rattle.st_machine.specs.declared.work.Told.TheVariants.{Nothing}
use Rattle.st_machine.specs.Seen.{Plan, Seen}
use Rattle.st_machine.specs.Plans.{program_in, room_in}
use Rattle.st_machine.specs.Instructions.{instructed}
use Rattle.st_machine.specs.Initializers.{next_opened}
use Rattle.st_machine.specs.Settling.{settled, settled_told}
use Rattle.st_machine.specs.Works.{begun, begun_told, begun_written}

-- nothing stands, all variables are nil, and nothing is counted
abbrev pub first_seen : Plan → Memory → Seen
first_seen plan memory =
    record {
      plan = plan;
      stack = new_stack (program_in plan).depth_limit (greatest_width plan.codes);
      memory = memory;
      variables = replicate (program_in plan).variables Nil;
      passed = record { values = []; room = room_in plan };
      mode = Next;
      steps = 0;
      deepest = 0;
      initializers = 0;
      instructions = 0;
    }

abbrev pub advanced_by : Mode → Seen → Seen
advanced_by Run s = instructed s
advanced_by (Settle o) s = settled o s
advanced_by (Begin work) s = begun work s
advanced_by Next s = next_opened s
advanced_by (Ended e) s = s

abbrev pub told_by : Mode → Seen → Told
told_by (Settle o) s = settled_told o s
told_by (Begin work) s = begun_told work s
told_by _ s = Nothing

abbrev pub written_by : Mode → Seen → Text
written_by (Begin work) s = begun_written work s
written_by _ s = []

abbrev pub advanced : Seen → Seen
advanced s = advanced_by s.mode s

abbrev pub advance_told : Seen → Told
advance_told s = told_by s.mode s

-- what a step writes to the Transcript
abbrev pub advance_written : Seen → Text
advance_written s = written_by s.mode s
