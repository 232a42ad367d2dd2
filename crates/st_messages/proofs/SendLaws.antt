-- A send does what is found for it.
use Rattle.std.proofs.Common.{◌≡◌, ℕ, List, refl}
use Rattle.object_heap.specs.declared.value.Value.{Value}
use Rattle.object_heap.specs.Store.{Store}
use Rattle.st_code.specs.Lookup.{level_of, lookup, super_lookup}
use Rattle.st_code.specs.Program.{Program}
use Rattle.st_rules.specs.Sends.{send_action, super_action}
use Rattle.st_messages.specs.Sent.{found_does}

pub send-is : (p : Program) (s : Store) (selector : ℕ) (r : Value) (args : List Value) → send_action p s selector r args ≡ found_does p s (lookup p (level_of s r) selector) selector r args
unfolding send_action
send-is p s selector r args = refl

pub super-is : (p : Program) (s : Store) (class : Value) (selector : ℕ) (r : Value) (args : List Value) → super_action p s class selector r args ≡ found_does p s (super_lookup p class selector) selector r args
unfolding super_action
super-is p s class selector r args = refl
