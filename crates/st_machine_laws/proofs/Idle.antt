-- The opening of an initializer doesn't come twice.
use Rattle.std.proofs.Common.{◌≡◌, ℕ, Bool, true, false, Option, Some, None, nat_eq, length, slice_get, if◌then◌else◌, refl}
use Rattle.st_contexts.specs.declared.activation.Activation.TheVariants as act
use Rattle.st_contexts.specs.declared.activation.Frame.{Frame}
use Rattle.st_contexts.specs.declared.outcome.Limit.TheVariants as limit
use Rattle.object_heap.specs.Charges.{scope_charge, scope_made}
use Rattle.st_rules.specs.State.{count_true}
use Rattle.st_rules.specs.Flat.{code_at}
use Rattle.st_machine.specs.declared.work.Mode.{Mode}
use Rattle.st_machine.specs.declared.work.Mode.TheVariants as mode
use Rattle.st_machine.specs.declared.opening.Opening.{Opening}
use Rattle.st_compiler.specs.declared.units.Initializer.{Initializer}
use Rattle.st_machine.specs.Seen.{Seen, with_memory}
use Rattle.st_machine.specs.Scopes.{if_room}
use Rattle.st_machine.specs.Opening.{has_place, stood, stopped, frame_for, captured_in, scope_furnished, furnished_with, furnished, opened, entered, own_furnished}
use Rattle.st_machine.specs.Initializers.{opened_by, next_opened, counted}

abbrev pub NotNext : Mode → Type 0
NotNext mode.Next = ⊥
NotNext _ = Unit {0}

abbrev Goes : Seen → Type 0
Goes s = NotNext s.mode

either : (b : Bool) (s s' : Seen) → Goes s → Goes s' → Goes (if b then s else s')
either true s s' h h' = h
either false s s' h h' = h'

has_scope : (o : Option ℕ) (f : Frame) (s : Seen) → Goes (scope_furnished o f s)
has_scope (Some scope) f s = tt
has_scope None f s = tt

furnishes_with : (b : Bool) (n : ℕ) (f : Frame) (s : Seen) → nat_eq n 0 ≡ b → Goes (furnished_with n f s)
furnishes_with true n f s is = rw is tt
furnishes_with false n f s is = rw is (has_scope (if_room (scope_charge n) (length s.memory.store.scopes) s.memory) f (with_memory s (scope_made f.code n f.scope s.memory)))

opens : (x : Opening) (s : Seen) → Goes (opened x s)
opens x s = either (has_place s) (furnished (frame_for x s.stack.next) (stood (act.Body (frame_for x s.stack.next)) x.env s)) (stopped limit.Depth s) (furnishes_with (nat_eq (count_true (captured_in (stood (act.Body (frame_for x s.stack.next)) x.env s) x.code)) 0) (count_true (captured_in (stood (act.Body (frame_for x s.stack.next)) x.env s) x.code)) (frame_for x s.stack.next) (stood (act.Body (frame_for x s.stack.next)) x.env s) refl) tt

opens_by : (o : Option Initializer) (s : Seen) → Goes (opened_by o s)
opens_by None s = tt
opens_by (Some x) s = opens (record { code = x.code; receiver = x.receiver; class = (code_at s.plan.codes x.code).class; home = None; outer = None; env = record { 0 = 0 } }) (counted s)

pub next_goes_on : (s : Seen) → Goes (next_opened s)
next_goes_on s = opens_by (slice_get s.plan.initializers s.initializers) s
