-- What reading a file answers, and what it took of its source.
use Rattle.std.specs.Prelude.{◌≡◌, ℕ, ◌+◌, ◌≤◌, List, length, false, Option, None, Some}
use Rattle.std.specs.Io.KnownBytes.{prepend_known}
use Rattle.st_base.specs.declared.faults.Reason.{Reason}
use Rattle.sif_chunks.specs.Reading.{max_input}
use Rattle.st_tree.specs.declared.units.Unit as unit
use Rattle.sif_elements.specs.declared.reading.ReadAnswer.{ReadAnswer}
use Rattle.sif_elements.specs.declared.reading.ReadAnswer.TheVariants as answer
use Rattle.sif_elements.specs.Reading.{Answer, Read, Refuse, Refuses}

-- what an answer says of the file, unless the source failed or memory was wanted
abbrev pub said : ReadAnswer → Option Answer
said (answer.Read definition) = Some (Read definition.units)
said (answer.Refused place why) = Some (Refuse place.element place.byte why)
said answer.ReadFault = None
said answer.OutOfMemory = None

-- the units that were read have this property
abbrev pub IfRead : ReadAnswer → (List unit.Unit → Type 0) → Type 0
IfRead (answer.Read definition) P = P definition.units
IfRead (answer.Refused place why) P = Unit {0}
IfRead answer.ReadFault P = Unit {0}
IfRead answer.OutOfMemory P = Unit {0}

-- bytes were taken from the front of what was left, of the longest input at most one byte more
pub record Took (left now : Option (List ℕ)) : Type 0 where
  pub bytes : List ℕ
  pub front : left ≡ prepend_known bytes now
  pub most : length bytes ≤ max_input + 1

-- the bytes that were taken are the file's first, and settle no refusal, whatever comes behind them
pub record LeavesOpen (file : List ℕ) (now : Option (List ℕ)) : Type 0 where
  pub taken : List ℕ
  pub front : Some file ≡ prepend_known taken now
  pub unsettled : (number byte : ℕ) (why : Reason) → Refuses taken false number byte why → ⊥
