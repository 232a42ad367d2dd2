-- The answers that a reader repeats.
use Rattle.std.specs.Prelude.{Bool, true, false, Option, None, Some}
use Rattle.sif_chunks.specs.declared.next.Next.{Next}
use Rattle.sif_chunks.specs.declared.next.Next.TheVariants.{Element, End, Unfinished, TooLong, InputTooLong, ReadFault}
use Rattle.sif_chunks.specs.declared.next.Stop.{Stop}
use Rattle.sif_chunks.specs.declared.next.Stop.TheVariants as stops

-- the answer that is repeated
abbrev pub next_of : Stop → Next
next_of stops.End = End
next_of stops.Unfinished = Unfinished
next_of stops.TooLong = TooLong
next_of stops.InputTooLong = InputTooLong

-- which repeated answer this is, where it is one
abbrev pub stop_of : Next → Option Stop
stop_of End = Some stops.End
stop_of Unfinished = Some stops.Unfinished
stop_of TooLong = Some stops.TooLong
stop_of InputTooLong = Some stops.InputTooLong
stop_of Element = None
stop_of ReadFault = None

abbrev pub is_element : Next → Bool
is_element Element = true
is_element End = false
is_element Unfinished = false
is_element TooLong = false
is_element InputTooLong = false
is_element ReadFault = false
