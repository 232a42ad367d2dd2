-- What a send finds and does in a sound store.
use Rattle.std.proofs.Common.{◌≡◌, true, List, Option, Some, refl}
use Rattle.object_heap.specs.declared.value.Value.{Value}
use Rattle.object_heap.specs.Store.{Store}
use Rattle.st_code.specs.Lookup.{Found, BuiltIn, level_of, lookup, super_lookup}
use Rattle.st_code.specs.Messages.{Collections}
use Rattle.st_collections.specs.Actions.{first}
use Rattle.st_collections.specs.Ordered.{IsOrdered}
use Rattle.st_collections.specs.declared.message.OfOrdered.{OfOrdered}
use Rattle.st_messages.specs.Rows.{ordered_row}
use Rattle.st_messages.specs.Sent.{is_ready}
use Rattle.st_messages.proofs.Sound.{ready_done}
use Rattle.st_sound.specs.Receivers.{changes}
use Rattle.st_sound.specs.SoundStore.{SoundStore}
use Rattle.st_sound.proofs.Meets.{values_measured}
use Rattle.st_sound.proofs.SoundSends.{send_sound, super_sound}
use Rattle.st_sound.proofs.TableRows.{sends_ready, super_sends_ready}
use Rattle.st_readiness.specs.Readiness.{FoundIsReady, SuperFoundIsReady, SendsStand, SuperSendsStand}

ordered_changes : (m : OfOrdered) → changes (ordered_row m) ≡ true
ordered_changes OfOrdered.Add = refl
ordered_changes OfOrdered.AddFirst = refl
ordered_changes OfOrdered.AddAll = refl
ordered_changes OfOrdered.RemoveFirst = refl
ordered_changes OfOrdered.RemoveLast = refl
ordered_changes OfOrdered.AddBeforeIndex = refl
ordered_changes OfOrdered.RemoveAtIndex = refl

ready_where_open : (s : Store) → SoundStore s → (found : Option Found) (r : Value) (args : List Value) → ((m : OfOrdered) → found ≡ Some (BuiltIn (Collections (ordered_row m))) → IsOrdered s r) → is_ready s found r args ≡ true
ready_where_open s h found r args ordered = ready_done s found r args record { receiver = values_measured s h r; argument = values_measured s h (first args); ordered = ordered }

pub found_is_ready : FoundIsReady
found_is_ready p knows s h selector r args =
    ready_where_open s h (lookup p (level_of s r) selector) r args (λ m e. sends_ready p knows s h r selector (Collections (ordered_row m)) e (ordered_changes m))

pub super_found_is_ready : SuperFoundIsReady
super_found_is_ready p classes knows s h class r selector args g =
    ready_where_open s h (super_lookup p class selector) r args (λ m e. super_sends_ready p classes knows s h class r selector (Collections (ordered_row m)) g e (ordered_changes m))

-- ---- what a send does at once

pub sends_stand : SendsStand
sends_stand p knows s h closures selector r args = send_sound p s h closures knows selector r args

pub super_sends_stand : SuperSendsStand
super_sends_stand p classes knows s h closures class r selector args g = super_sound p s h closures knows classes class selector r args g
