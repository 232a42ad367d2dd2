-- Instructions with places, as they are seen.
use Rattle.st_code.specs.Program as program
use Rattle.st_code.specs.Code as code
use Rattle.st_code.specs.Resolved.{Meant, At, Value'}
use Rattle.st_code.specs.Compiled.{constant_value}
use Rattle.object_heap.specs.declared.value.Value.TheVariants as value
use Rattle.st_compiler.specs.declared.step.Place.{Place}
use Rattle.st_compiler.specs.declared.step.Place.TheVariants as place
use Rattle.st_compiler.specs.declared.step.Meaning.{Meaning}
use Rattle.st_compiler.specs.declared.step.Meaning.TheVariants as meaning
use Rattle.st_compiler.specs.declared.step.Step.{Step}
use Rattle.st_compiler.specs.declared.step.Step.TheVariants as step

abbrev pub seen_place : Place → program.Place
seen_place (place.Scoped up index) = program.Scoped up index
seen_place (place.Slot index) = program.Slot index
seen_place (place.ClassSlot index) = program.ClassSlot index
seen_place (place.Shared index) = program.Shared index

abbrev pub seen_meaning : Meaning → Meant
seen_meaning (meaning.At at) = At (seen_place at)
seen_meaning (meaning.Class class) = Value' (value.Class class)
seen_meaning meaning.Transcript = Value' value.Transcript

abbrev pub seen_step : Step → code.Instr
seen_step (step.PushConstant c) = code.PushConstant (constant_value c)
seen_step step.PushSelf = code.PushSelf
seen_step (step.PushVariable at) = code.PushVariable (seen_place at)
seen_step (step.Store at) = code.Store (seen_place at)
seen_step step.Pop = code.Pop
seen_step step.Dup = code.Dup
seen_step (step.Send selector count) = code.SendMessage selector count
seen_step (step.SuperSend selector count) = code.SendSuper selector count
seen_step (step.MakeBlock n) = code.MakeBlock n
seen_step step.MethodReturn = code.MethodReturn
seen_step step.HomeReturn = code.HomeReturn
seen_step step.BlockEnd = code.BlockEnd
