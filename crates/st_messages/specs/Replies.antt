-- What a reply says, and what is left of the memory after it.
use Rattle.std.specs.Prelude.{ℕ, Bool, false, List, [], ◌∷◌, ◌++◌, codes, nat_eq, if◌then◌else◌}
use Rattle.object_heap.specs.declared.value.Value.{Value}
use Rattle.object_heap.specs.declared.value.Closure.{Closure}
use Rattle.object_heap.specs.declared.trouble.Trouble.TheVariants.{WrongNumberOfArguments}
use Rattle.object_heap.specs.Store.{Store}
use Rattle.object_heap.specs.Charges.{Memory, with_store}
use Rattle.st_code.specs.Texts.{Text}
use Rattle.st_code.specs.Program.{Program}
use Rattle.st_code.specs.Messages as rows
use Rattle.st_collections.specs.declared.answer.Built.{Built}
use Rattle.st_collections.specs.Actions.{Action, Gives, Changes, Makes, Fails, PassesIntegers, DividesByZero, Writes, Begins, Activates, Sends, Misses, Enters, Guards, Ensures, Curtails, Iterates, Raises, RaisesNew, Controls, Terminates}
use Rattle.st_collections.specs.Answers.{charge_told, memory_of, is_out}
use Rattle.st_collections.specs.Kinds.{slots_of, exception_text}
use Rattle.st_collections.specs.Orders.{text_of}
use Rattle.st_loops.specs.Kinds.{message_of}
use Rattle.st_loops.specs.Starts.{started}
use Rattle.st_messages.specs.declared.reply.Reply.{Reply}
use Rattle.st_messages.specs.declared.reply.Passed.{Passed}
use Rattle.st_messages.specs.declared.reply.Written.{Written}
use Rattle.st_messages.specs.declared.reply.Control.{Control}

-- an answer, the signal of an exception in the memory that is left, or an action that goes on
pub data Seen : Type 0 where
  Answered : Built → Seen
  Raised : (exception : ℕ) → Seen
  GoesOn : Action → Seen

abbrev pub behind : List Value → List Value
behind [] = []
behind (v ∷ vs) = vs

-- the values that a reply passes on, where the message had these arguments
abbrev pub passed_on : Store → List Value → Passed → List Value
passed_on s args Passed.None = []
passed_on s args Passed.All = args
passed_on s args Passed.Behind = behind args
passed_on s args (Passed.SlotsOf v) = slots_of s v
passed_on s args (Passed.One v) = v ∷ []
passed_on s args (Passed.Three u v w) = u ∷ v ∷ w ∷ []

-- what goes to the Transcript
abbrev pub written_text : Program → Store → Written → Text
written_text p s Written.Nothing = []
written_text p s (Written.Byte byte) = byte ∷ []
written_text p s (Written.TextOf v) = text_of p s v
written_text p s (Written.Warning exception) = codes "Warning: " ++ exception_text p s exception ++ 10 ∷ []

abbrev pub control_row : Control → rows.Control
control_row Control.Return = rows.Control.Return
control_row Control.Retry = rows.Control.Retry
control_row Control.RetryUsing = rows.Control.RetryUsing
control_row Control.Resume = rows.Control.Resume
control_row Control.Pass = rows.Control.Pass
control_row Control.Outer = rows.Control.Outer
control_row Control.ResignalAs = rows.Control.ResignalAs
control_row Control.IsNested = rows.Control.IsNested

-- what a reply says
abbrev pub seen : Program → Store → List Value → Reply → Seen
seen p s args (Reply.Answer b) = Answered b
seen p s args (Reply.DividesByZero dividend) = GoesOn (DividesByZero dividend)
seen p s args (Reply.Writes w v) = GoesOn (Writes (written_text p s w) v)
seen p s args (Reply.Begins v passed) = GoesOn (Begins v (passed_on s args passed))
seen p s args (Reply.Activates c passed) = GoesOn (Activates c (passed_on s args passed))
seen p s args (Reply.Sends selector v passed) = GoesOn (Sends selector v (passed_on s args passed))
seen p s args (Reply.Misses selector v) = GoesOn (Misses selector v args)
seen p s args (Reply.Enters code v) = GoesOn (Enters code v args)
seen p s args (Reply.Guards r selector handler) = GoesOn (Guards r selector handler)
seen p s args (Reply.Ensures r block) = GoesOn (Ensures r block)
seen p s args (Reply.Curtails r block) = GoesOn (Curtails r block)
seen p s args (Reply.Iterates kind v) = GoesOn (Iterates (started p s (message_of kind) v args))
seen p s args (Reply.Raises exception) = Raised exception
seen p s args (Reply.RaisesNew class passed) = GoesOn (RaisesNew class (passed_on s args passed))
seen p s args (Reply.Controls control exception v) = GoesOn (Controls (control_row control) exception v)
seen p s args (Reply.Terminates v) = GoesOn (Terminates v)

-- what a reply says of an action
abbrev pub told_by : Action → Memory → Seen
told_by (Gives v) m = Answered (Built.Value v)
told_by (Changes s v) m = Answered (Built.Value v)
told_by (Makes charge s v) m = Answered (charge_told charge v m)
told_by (Fails t) m = Answered (Built.Trouble t)
told_by PassesIntegers m = Answered Built.IntegerLimit
told_by (Raises s exception) m = Raised exception
told_by a m = GoesOn a

-- the memory after it
abbrev pub memory_after : Action → Memory → Memory
memory_after (Raises s exception) m = with_store s m
memory_after a m = memory_of a m

-- whether a reply is want of memory
abbrev pub is_lost : Reply → Bool
is_lost (Reply.Answer b) = is_out b
is_lost _ = false

-- the first where a reply is want of memory, else the second
abbrev pub unless_lost : {A : Type 0} → Reply → A → A → A
unless_lost reply lost other = if is_lost reply then lost else other

-- what a block that takes so many values does with so many
abbrev pub block_reply : Closure → ℕ → ℕ → Passed → Reply
block_reply closure parameters count passed =
    if nat_eq parameters count then Reply.Activates closure passed else Reply.Answer (Built.Trouble WrongNumberOfArguments)
