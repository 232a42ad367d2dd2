-- Where a send to super begins, and a method that it finds: one small step that tells and writes nothing.
use Rattle.std.proofs.Common.{◌≡◌, ℕ, ◌-◌, ◌<◌, List, true, Option, Some, None, IfSome, refl, sym, ◌∙◌}
use Rattle.std.specs.Option.{option_map}
use Rattle.object_heap.specs.declared.value.Value.{Value}
use Rattle.object_heap.specs.declared.value.Value.TheVariants.{Class, Meta}
use Rattle.object_heap.specs.Store.{Store}
use Rattle.program_image.specs.declared.table.Found.{Found}
use Rattle.program_image.specs.Images.{as_row, image_program}
use Rattle.st_code.specs.Lookup.{Level, level, UserMethod, lookup, super_lookup}
use Rattle.st_code.specs.Program.{Program, OfInstance, OfClass, class_at}
use Rattle.st_collections.specs.Actions.{Enters}
use Rattle.st_contexts.specs.declared.activation.Env.{Env}
use Rattle.st_messages.specs.Sent.{is_ready}
use Rattle.st_rules.specs.Sends.{super_action}
use Rattle.st_machine.specs.declared.work.Work.TheVariants.{Enter, SuperTo}
use Rattle.st_machine.specs.Opening.{has_step, beginning}
use Rattle.st_machine.specs.Passing.{fits_in}
use Rattle.st_machine.specs.Plans.{program_in}
use Rattle.st_machine.specs.Seen.{Seen}
use Rattle.st_machine.specs.Sending.{super_send_of, super_send_is_sound}
use Rattle.st_machine.proofs.Known.{super-above, class-above}
use Rattle.st_sprint.specs.Dashes.{FindsAbove, StandsAbove}
use Rattle.st_sprint.specs.Sprinting.{SameRun}
use Rattle.st_sprint.proofs.Begun.{begins, acted_so, acted_so_told, acted_so_written, passes_all}
use Rattle.st_sprint.proofs.Sprints.{one_step}

pub stands_above : (from : Level) (class above : ℕ) (v : Value) (s : Seen) → v ≡ Class class → from ≡ level OfInstance above → (class_at (image_program s.plan.units) class).superclass ≡ Some above → StandsAbove from v s
stands_above from class above v s ev ef e = rw (ev, ef) (record { finds = λ selector. super-above s.plan class selector above e })

pub stands_above_class : (class above : ℕ) (v : Value) (s : Seen) → v ≡ Meta class → (class_at (image_program s.plan.units) class).superclass ≡ Some above → StandsAbove (level OfClass above) v s
stands_above_class class above v s ev e = rw ev (record { finds = λ selector. class-above s.plan class selector above e })

pub above_if : (o : Option Found) (from : Level) (class : Value) (selector : ℕ) (s : Seen) → StandsAbove from class s → option_map as_row o ≡ lookup (program_in s.plan) from selector → IfSome o (λ found. FindsAbove (as_row found) class selector s)
above_if None from class selector s a e = tt
above_if (Some found) from class selector s a e = record { is = a.finds selector ∙ sym e }

enters_above : (p : Program) (s : Store) (class : Value) (selector code : ℕ) (r : Value) (args : List Value) → super_lookup p class selector ≡ Some (UserMethod code) → super_action p s class selector r args ≡ Enters code r args
unfolding super_action
enters_above p s class selector code r args e = rw e refl

above_sound : (p : Program) (s : Store) (class : Value) (selector code : ℕ) (r : Value) (args : List Value) → super_lookup p class selector ≡ Some (UserMethod code) → is_ready s (super_lookup p class selector) r args ≡ true
unfolding is_ready
above_sound p s class selector code r args e = rw e refl

pub super_begins : (n left selector code : ℕ) (class r : Value) (env : Env) (s : Seen) → 0 < n → FindsAbove (UserMethod code) class selector s → fits_in s.passed.values s.passed ≡ true → has_step s ≡ true → SameRun n left (beginning (SuperTo class selector r env) s) (n - 1) left (beginning (Enter code r env) (one_step s))
super_begins n left selector code class r env s ln f fits h =
    let sound : super_send_is_sound class selector r s ≡ true = above_sound (program_in s.plan) s.memory.store class selector code r s.passed.values f.is in
    let does : super_send_of class selector r s ≡ Enters code r s.passed.values = enters_above (program_in s.plan) s.memory.store class selector code r s.passed.values f.is in
    let begun : Seen = beginning (SuperTo class selector r env) s in
    begins n left (SuperTo class selector r env) s (beginning (Enter code r env) (one_step s)) ln
    (acted_so_told (super_send_is_sound class selector r s) (super_send_of class selector r s) (Enters code r s.passed.values) begun sound does h)
    (acted_so_written (super_send_is_sound class selector r s) (super_send_of class selector r s) (Enters code r s.passed.values) begun sound does h)
    (sym (acted_so (super_send_is_sound class selector r s) (super_send_of class selector r s) (Enters code r s.passed.values) env begun sound does h ∙ passes_all (λ (x : Seen). beginning (Enter code r env) x) (one_step begun) fits))
