-- Sends. Source: ANSI 3.3.
use Rattle.std.specs.Prelude.{ℕ, Bool, true, false, [], length, Option, if◌then◌else◌}
use Rattle.object_heap.specs.declared.value.Value.{Value}
use Rattle.st_code.specs.Texts.{Text}
use Rattle.st_code.specs.Lookup.{Found, level_of, lookup, super_lookup}
use Rattle.st_collections.specs.Actions.{Action}
use Rattle.st_contexts.specs.declared.activation.Env.{Env}
use Rattle.st_contexts.specs.declared.outcome.Limit.TheVariants as limit
use Rattle.st_rules.specs.Rules.{value_selector}
use Rattle.st_rules.specs.Sends.{send_action, super_action}
use Rattle.st_messages.specs.Sent.{is_ready}
use Rattle.st_machine.specs.declared.work.Ending.TheVariants as ending
use Rattle.st_machine.specs.declared.work.Told.{Told}
use Rattle.st_machine.specs.declared.work.Told.TheVariants.{Nothing}
use Rattle.st_machine.specs.Seen.{Seen}
use Rattle.st_machine.specs.Plans.{program_in}
use Rattle.st_machine.specs.Opening.{has_step, stepped, stopped}
use Rattle.st_machine.specs.Settling.{ended}
use Rattle.st_machine.specs.Performing.{performed, performed_told, performed_written}

-- a send costs a step; it is done where the store is sound for it
abbrev pub sent_by : Bool → Action → Env → Seen → Seen
sent_by true a env s = performed a env s
sent_by false a env s = ended ending.Stranded s

abbrev pub acted : Bool → Action → Env → Seen → Seen
acted sound a env s = if has_step s then sent_by sound a env (stepped s) else stopped limit.Steps s

abbrev pub acted_told : Bool → Action → Seen → Told
acted_told sound a s = if has_step s then (if sound then performed_told a (stepped s) else Nothing) else Nothing

abbrev pub acted_written : Bool → Action → Seen → Text
acted_written sound a s = if has_step s then (if sound then performed_written a (stepped s) else []) else []

-- ---- the action of a send

abbrev pub send_of : ℕ → Value → Seen → Action
send_of selector receiver s = send_action (program_in s.plan) s.memory.store selector receiver s.passed.values

abbrev pub super_send_of : Value → ℕ → Value → Seen → Action
super_send_of class selector receiver s = super_action (program_in s.plan) s.memory.store class selector receiver s.passed.values

-- the selector that sends the values that are passed on to anything but a block
abbrev pub value_in : Seen → ℕ
value_in s = value_selector (program_in s.plan) (length s.passed.values)

-- what is found is done for this receiver with the values that are passed on
abbrev pub is_done : Option Found → Value → Seen → Bool
is_done found receiver s = is_ready s.memory.store found receiver s.passed.values

abbrev pub send_is_sound : ℕ → Value → Seen → Bool
send_is_sound selector receiver s = is_done (lookup (program_in s.plan) (level_of s.memory.store receiver) selector) receiver s

abbrev pub super_send_is_sound : Value → ℕ → Value → Seen → Bool
super_send_is_sound class selector receiver s = is_done (super_lookup (program_in s.plan) class selector) receiver s

-- ---- sends

abbrev pub sent : ℕ → Value → Env → Seen → Seen
sent selector receiver env s = acted (send_is_sound selector receiver s) (send_of selector receiver s) env s

abbrev pub sent_told : ℕ → Value → Seen → Told
sent_told selector receiver s = acted_told (send_is_sound selector receiver s) (send_of selector receiver s) s

abbrev pub sent_written : ℕ → Value → Seen → Text
sent_written selector receiver s = acted_written (send_is_sound selector receiver s) (send_of selector receiver s) s

abbrev pub super_sent : Value → ℕ → Value → Env → Seen → Seen
super_sent class selector receiver env s = acted (super_send_is_sound class selector receiver s) (super_send_of class selector receiver s) env s

abbrev pub super_sent_told : Value → ℕ → Value → Seen → Told
super_sent_told class selector receiver s = acted_told (super_send_is_sound class selector receiver s) (super_send_of class selector receiver s) s

abbrev pub super_sent_written : Value → ℕ → Value → Seen → Text
super_sent_written class selector receiver s = acted_written (super_send_is_sound class selector receiver s) (super_send_of class selector receiver s) s

abbrev pub value_sent : Value → Env → Seen → Seen
value_sent receiver env s = sent (value_in s) receiver env s
