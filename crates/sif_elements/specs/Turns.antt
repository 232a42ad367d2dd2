-- Where an answer of the reader leads.
use Rattle.std.specs.Prelude.{ℕ, List, length, Option, None, Some}
use Rattle.st_base.specs.declared.faults.Reason.TheVariants as reason
use Rattle.sif_chunks.specs.declared.next.Next.{Next}
use Rattle.sif_chunks.specs.declared.next.Next.TheVariants as next
use Rattle.sif_elements.specs.declared.progress.Progress.{Progress}
use Rattle.sif_elements.specs.declared.reading.ReadAnswer.TheVariants as answer
use Rattle.sif_elements.specs.declared.reading.Turned.{Turned}
use Rattle.sif_elements.specs.declared.reading.Turned.TheVariants as turned
use Rattle.sif_elements.specs.Reading.{Answer, Read, Refuse}
use Rattle.sif_elements.specs.Steps.{Step, Goes, Spoilt, step_of, at_end}

-- further, or to what is answered of the file, or nowhere, as the source failed
pub data Turn : Type 0 where
  Onward : Progress → Turn
  Ends : Answer → Turn
  Fails : Turn

-- behind an element with this number
abbrev pub turn_behind : ℕ → Step → Turn
turn_behind n (Goes q) = Onward q
turn_behind n (Spoilt byte why) = Ends (Refuse n byte why)

-- behind an answer about the element with this number and this text so far
abbrev pub turn_of : Progress → Next → ℕ → List ℕ → Turn
turn_of p next.Element n text = turn_behind n (step_of p text)
turn_of p next.End n text = Ends (at_end p n)
turn_of p next.Unfinished n text = Ends (Refuse n (length text) reason.Unfinished)
turn_of p next.TooLong n text = Ends (Refuse n (length text) reason.ElementTooLong)
turn_of p next.InputTooLong n text = Ends (Refuse n (length text) reason.InputTooLong)
turn_of p next.ReadFault n text = Fails

-- the turn that was made, unless memory was wanted
abbrev pub made : Turned → Option Turn
made (turned.Goes q) = Some (Onward q)
made (turned.Ends (answer.Read definition)) = Some (Ends (Read definition.units))
made (turned.Ends (answer.Refused place why)) = Some (Ends (Refuse place.element place.byte why))
made (turned.Ends answer.ReadFault) = Some Fails
made (turned.Ends answer.OutOfMemory) = None
