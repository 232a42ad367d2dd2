-- What the beginning of a work makes of the machine, the events that it tells, and what it writes to the Transcript.
use Rattle.std.specs.Prelude.{[]}
use Rattle.st_code.specs.Texts.{Text}
use Rattle.st_machine.specs.declared.work.Told.{Told}
use Rattle.st_machine.specs.declared.work.Told.TheVariants.{Nothing}
use Rattle.st_machine.specs.declared.work.Work.{Work}
use Rattle.st_machine.specs.declared.work.Work.TheVariants.{Apply, SendValue, Activate, Enter, SendTo, SuperTo, Fail, Raise, RaiseNew, Search, TurnBy, Ask, Visit}
use Rattle.st_machine.specs.Seen.{Seen}
use Rattle.st_machine.specs.Opening.{applied, activated, entered}
use Rattle.st_machine.specs.Signals.{raised, raise_told, raised_new, raise_new_told, failed, fail_told}
use Rattle.st_machine.specs.Searches.{searched, search_told, turned, turn_told, resumability_asked}
use Rattle.st_machine.specs.Loops.{visited}
use Rattle.st_machine.specs.Sending.{value_in, sent, sent_told, sent_written, super_sent, super_sent_told, super_sent_written, value_sent}

abbrev pub begun : Work → Seen → Seen
begun (Apply receiver env) s = applied receiver env s
begun (SendValue receiver env) s = value_sent receiver env s
begun (Activate closure env) s = activated closure env s
begun (Enter code receiver env) s = entered code receiver env s
begun (SendTo selector receiver env) s = sent selector receiver env s
begun (SuperTo class selector receiver env) s = super_sent class selector receiver env s
begun (Fail trouble env) s = failed trouble env s
begun (Raise exception env) s = raised exception env s
begun (RaiseNew class env) s = raised_new class env s
begun (Search x rest) s = searched x rest s
begun (TurnBy x entry outside) s = turned x entry outside s
begun (Ask w k t env) s = resumability_asked w k t env s
begun (Visit n l v env) s = visited l v env s

abbrev pub begun_told : Work → Seen → Told
begun_told (SendValue receiver env) s = sent_told (value_in s) receiver s
begun_told (SendTo selector receiver env) s = sent_told selector receiver s
begun_told (SuperTo class selector receiver env) s = super_sent_told class selector receiver s
begun_told (Fail trouble env) s = fail_told s
begun_told (Raise exception env) s = raise_told exception s
begun_told (RaiseNew class env) s = raise_new_told class s
begun_told (Search x rest) s = search_told x rest s
begun_told (TurnBy x entry outside) s = turn_told x entry s
begun_told _ s = Nothing

-- only a message that is sent writes
abbrev pub begun_written : Work → Seen → Text
begun_written (SendValue receiver env) s = sent_written (value_in s) receiver s
begun_written (SendTo selector receiver env) s = sent_written selector receiver s
begun_written (SuperTo class selector receiver env) s = super_sent_written class selector receiver s
begun_written _ s = []
