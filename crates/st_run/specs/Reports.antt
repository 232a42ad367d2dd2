-- The lines of the report.
use Rattle.std.specs.Prelude.{ℕ, Bool, true, false, List, [], ◌++◌, codes, decimal}
use Rattle.object_heap.specs.Store.{Store}
use Rattle.st_base.specs.declared.faults.Limits.{Limits}
use Rattle.st_base.specs.declared.faults.Place.{Place}
use Rattle.st_base.specs.declared.faults.Reason.{Reason}
use Rattle.st_base.specs.declared.faults.Reason.TheVariants.{MissingVersion, MissingText, Unfinished, ElementTooLong, InputTooLong, BadCharacter, OpenString, OpenComment, BadRadix, IntegerTooLarge, FloatOutside, Syntax, TooDeep, DuplicateClass, DuplicateName, UnknownSuperclass, IndexedClash, DuplicateVariable, UnknownPool, UnknownClass, ReplacesBuiltin, DuplicateMethod, UnknownTarget, SecondInitializer, UndeclaredName, NotAssignable}
use Rattle.st_code.specs.Program.{Program}
use Rattle.st_rules.specs.State.{StepLimit, DepthLimit, CellLimit, IntegerLimit}
use Rattle.st_rules.specs.Runs.{Ending, Done, Unhandled, AtLimit, Stuck}
use Rattle.st_trace.specs.declared.auditing.AuditReason.{AuditReason}
use Rattle.st_trace.specs.declared.auditing.AuditReason.TheVariants as why
use Rattle.st_transcript.specs.Unhandled.{unhandled_text}

-- the word of a reason
abbrev pub reason_word : Reason → List ℕ
reason_word MissingVersion = codes "MissingVersion"
reason_word MissingText = codes "MissingText"
reason_word Unfinished = codes "Unfinished"
reason_word ElementTooLong = codes "ElementTooLong"
reason_word InputTooLong = codes "InputTooLong"
reason_word BadCharacter = codes "BadCharacter"
reason_word OpenString = codes "OpenString"
reason_word OpenComment = codes "OpenComment"
reason_word BadRadix = codes "BadRadix"
reason_word IntegerTooLarge = codes "IntegerTooLarge"
reason_word FloatOutside = codes "FloatOutside"
reason_word Syntax = codes "Syntax"
reason_word TooDeep = codes "TooDeep"
reason_word DuplicateClass = codes "DuplicateClass"
reason_word DuplicateName = codes "DuplicateName"
reason_word UnknownSuperclass = codes "UnknownSuperclass"
reason_word IndexedClash = codes "IndexedClash"
reason_word DuplicateVariable = codes "DuplicateVariable"
reason_word UnknownPool = codes "UnknownPool"
reason_word UnknownClass = codes "UnknownClass"
reason_word ReplacesBuiltin = codes "ReplacesBuiltin"
reason_word DuplicateMethod = codes "DuplicateMethod"
reason_word UnknownTarget = codes "UnknownTarget"
reason_word SecondInitializer = codes "SecondInitializer"
reason_word UndeclaredName = codes "UndeclaredName"
reason_word NotAssignable = codes "NotAssignable"

abbrev pub refused_line : Place → Reason → List ℕ
refused_line place reason =
    codes "stx: refused element " ++ decimal place.element ++ codes " byte " ++ decimal place.byte
    ++ codes " " ++ reason_word reason ++ codes "\n"

abbrev pub usage_line : List ℕ
usage_line = codes "stx: usage: stx [options] run|check|list|export|gen|trace|audit|shake\n"

abbrev pub read_fault_line : List ℕ
read_fault_line = codes "stx: read fault\n"

abbrev pub memory_line : List ℕ
memory_line = codes "stx: out of memory\n"

-- ---- of a trace

abbrev pub audit_word : AuditReason → List ℕ
audit_word why.Line = codes "Line"
audit_word why.Order = codes "Order"
audit_word why.Missing = codes "Missing"
audit_word why.InputTooLong = codes "InputTooLong"

-- the first line that can't stand
abbrev pub audit_line : (line : ℕ) → AuditReason → List ℕ
audit_line line reason = codes "stx: audit event " ++ decimal line ++ codes " " ++ audit_word reason ++ codes "\n"

-- what is written of a trace that is disciplined
abbrev pub disciplined_line : (lines : ℕ) → List ℕ
disciplined_line lines = codes "disciplined " ++ decimal lines ++ codes " events\n"

-- ---- of a run

-- the steps, the greatest depth, the cells and the instructions of a run
unfoldable pub stats_line : (steps depth cells instructions : ℕ) → List ℕ
stats_line steps depth cells instructions =
    codes "stx: steps " ++ decimal steps ++ codes " depth " ++ decimal depth ++ codes " cells " ++ decimal cells
    ++ codes " instructions " ++ decimal instructions ++ codes "\n"

-- only where they are asked for
abbrev pub stats_if : Bool → (steps depth cells instructions : ℕ) → List ℕ
stats_if true steps depth cells instructions = stats_line steps depth cells instructions
stats_if false steps depth cells instructions = []

-- a line with the number of a limit
abbrev pub limit_line : (word : List ℕ) → (limit : ℕ) → List ℕ
limit_line word limit = word ++ decimal limit ++ codes "\n"

-- what is reported of an ending, of a program with this store at its end; `Stuck` comes never
abbrev pub ending_line : Program → Limits → Store → Ending → List ℕ
ending_line p limits store Done = []
ending_line p limits store (Unhandled exception) =
    codes "stx: unhandled " ++ unhandled_text p store exception ++ codes "\n"
ending_line p limits store (AtLimit StepLimit) = limit_line (codes "stx: step limit ") limits.steps
ending_line p limits store (AtLimit DepthLimit) = limit_line (codes "stx: depth limit ") limits.depth
ending_line p limits store (AtLimit CellLimit) = limit_line (codes "stx: cell limit ") limits.cells
ending_line p limits store (AtLimit IntegerLimit) = codes "stx: integer limit\n"
ending_line p limits store Stuck = []
