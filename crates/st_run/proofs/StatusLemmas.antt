-- What a status tells.
use Rattle.std.proofs.Common.{◌≡◌, ◌≢◌, ◌⊎◌, inl, inr, refl}
use Rattle.st_run.specs.declared.status.Status.{Status}
use Rattle.st_run.specs.declared.status.Status.TheVariants as final
use Rattle.st_run.specs.Statuses.{IsAnswer, IsEnding}

-- it is that of a write fault or not
pub write_fault_tells : (s : Status) → (s ≡ final.WriteFault) ⊎ (s ≢ final.WriteFault)
write_fault_tells final.Done = inr (λ at. cc)
write_fault_tells final.Refused = inr (λ at. cc)
write_fault_tells final.Usage = inr (λ at. cc)
write_fault_tells final.Unhandled = inr (λ at. cc)
write_fault_tells final.StepLimit = inr (λ at. cc)
write_fault_tells final.DepthLimit = inr (λ at. cc)
write_fault_tells final.CellLimit = inr (λ at. cc)
write_fault_tells final.IntegerLimit = inr (λ at. cc)
write_fault_tells final.ReadFault = inr (λ at. cc)
write_fault_tells final.WriteFault = inl refl
write_fault_tells final.OutOfMemory = inr (λ at. cc)
write_fault_tells final.Undisciplined = inr (λ at. cc)

pub is_answer : (s : Status) → s ≢ final.ReadFault → s ≢ final.WriteFault → s ≢ final.OutOfMemory → IsAnswer s
is_answer final.Done no_read no_write no_want = tt
is_answer final.Refused no_read no_write no_want = tt
is_answer final.Usage no_read no_write no_want = tt
is_answer final.Unhandled no_read no_write no_want = tt
is_answer final.StepLimit no_read no_write no_want = tt
is_answer final.DepthLimit no_read no_write no_want = tt
is_answer final.CellLimit no_read no_write no_want = tt
is_answer final.IntegerLimit no_read no_write no_want = tt
is_answer final.ReadFault no_read no_write no_want = absurd (no_read refl)
is_answer final.WriteFault no_read no_write no_want = absurd (no_write refl)
is_answer final.OutOfMemory no_read no_write no_want = absurd (no_want refl)
is_answer final.Undisciplined no_read no_write no_want = tt

-- each ending is an answer
pub ending_answers : (s : Status) → IsEnding s → IsAnswer s
ending_answers final.Done at = tt
ending_answers final.Refused at = absurd at
ending_answers final.Usage at = absurd at
ending_answers final.Unhandled at = tt
ending_answers final.StepLimit at = tt
ending_answers final.DepthLimit at = tt
ending_answers final.CellLimit at = tt
ending_answers final.IntegerLimit at = tt
ending_answers final.ReadFault at = absurd at
ending_answers final.WriteFault at = absurd at
ending_answers final.OutOfMemory at = absurd at
ending_answers final.Undisciplined at = absurd at
