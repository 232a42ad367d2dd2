-- What a call answers for the action of its message, and what it leaves of the memory.
use Rattle.std.specs.Prelude.{ℕ, ◌+◌, ◌-◌, ◌^◌, min, Bool, true, false, List, [], length, Result, Ok, Err, pos, negsuc, nat_le, if◌then◌else◌}
use Rattle.std.specs.Option.{ok_or}
use Rattle.object_heap.specs.declared.value.Value.{Value}
use Rattle.object_heap.specs.declared.value.Value.TheVariants.{Integer}
use Rattle.object_heap.specs.declared.trouble.Trouble.{Trouble}
use Rattle.object_heap.specs.declared.trouble.Trouble.TheVariants.{IndexOutOfRange, NumberExpected}
use Rattle.object_heap.specs.declared.heap.HeapStop.{HeapStop}
use Rattle.object_heap.specs.declared.heap.HeapStop.TheVariants.{Limit, OutOfMemory}
use Rattle.object_heap.specs.Charges.{Memory, with_store, charged}
use Rattle.st_code.specs.Texts.{Text}
use Rattle.st_code.specs.Program.{Program}
use Rattle.st_collections.specs.declared.answer.Built.{Built}
use Rattle.st_collections.specs.Actions.{Action, Gives, Changes, Makes, Fails, PassesIntegers}
use Rattle.st_collections.specs.ObjectRows.{index_in}

-- a program of these names: what a message does at once asks for no more of its program
abbrev pub program_of : List Text → Program
program_of names = record { names = names; classes = []; methods = []; bodies = []; initializers = []; literals = []; trouble_place = 0; variables = 0; step_limit = 0; depth_limit = 0; cell_limit = 0 }

-- a charge as it is told, at most 2^128 - 1
abbrev pub told : ℕ → ℕ
told charge = min charge (2 ^ 128 - 1)

-- the value of a charge, or past the limit the two numbers
abbrev pub charge_told : ℕ → Value → Memory → Built
charge_told charge v m = if nat_le (m.used + charge) m.limit then Built.Value v else Built.Cells m.used (told charge)

-- the answer for an action; the actions that begin something aren't among these messages
abbrev pub answer_of : Action → Memory → Built
answer_of (Gives v) m = Built.Value v
answer_of (Changes s v) m = Built.Value v
answer_of (Makes charge s v) m = charge_told charge v m
answer_of (Fails t) m = Built.Trouble t
answer_of PassesIntegers m = Built.IntegerLimit
answer_of _ m = Built.OutOfMemory

-- the memory after an action
abbrev pub memory_of : Action → Memory → Memory
memory_of (Changes s v) m = with_store s m
memory_of (Makes charge s v) m = charged charge s m
memory_of _ m = m

-- whether a call answered want of memory
abbrev pub is_out : Built → Bool
is_out Built.OutOfMemory = true
is_out _ = false

-- the first where a call answered want of memory, else the second
abbrev pub unless_out : {A : Type 0} → Built → A → A → A
unless_out result out other = if is_out result then out else other

-- the number of a new object, or past the limit the two numbers
abbrev pub allot_answer : ℕ → Memory → Result ℕ HeapStop
allot_answer charge m = if nat_le (m.used + charge) m.limit then Ok (length m.store.objects) else Err (Limit m.used (told charge))

abbrev pub stop_answer : HeapStop → Built
stop_answer (Limit used charge) = Built.Cells used charge
stop_answer OutOfMemory = Built.OutOfMemory

-- the place of an index from 1, or the trouble with it
abbrev pub place_of_index : ℕ → Value → Result ℕ Trouble
place_of_index size (Integer n) = ok_or (index_in size n) IndexOutOfRange
place_of_index size v = Err NumberExpected

-- a size, or the trouble with it
abbrev pub size_result : Value → Result ℕ Trouble
size_result (Integer (pos n)) = Ok n
size_result (Integer (negsuc n)) = Err IndexOutOfRange
size_result v = Err NumberExpected
