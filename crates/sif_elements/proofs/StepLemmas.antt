-- Where the text behind a header leads.
use Rattle.std.proofs.Common.{◌≡◌, ℕ, List, IfSome, sym, subst}
use Rattle.st_base.specs.declared.faults.Reason.{Reason}
use Rattle.st_parser.specs.Parsed.{Refuses}
use Rattle.st_tree.specs.Headers.{production_of}
use Rattle.st_tree.specs.declared.headers.Target.{Target}
use Rattle.st_tree.specs.declared.units.Unit.{Unit}
use Rattle.st_tree.specs.declared.units.UnitKind.{UnitKind}
use Rattle.sif_elements.specs.declared.progress.Progress.TheVariants.{Awaiting}
use Rattle.sif_elements.specs.Reading.{text_of_header, no_text}
use Rattle.sif_elements.specs.Steps.{step_of, Goes, Spoilt, with_unit}
use Rattle.sif_elements.specs.declared.progress.Stepped.{Stepped}
use Rattle.sif_elements.specs.Told.{Makes, makes, told}
use Rattle.sif_elements.proofs.Only.{step_takes, step_spoils}

-- it makes a unit
step_made : (us : List Unit) (t : Target) (text : List ℕ) (kind : UnitKind) → Makes t text kind → Goes (with_unit us kind) ≡ step_of (Awaiting us t) text
step_made us t text kind (makes is of) = sym (step_takes {p = Awaiting us t} {q = with_unit us kind} {text = text} (text_of_header is of))

pub told_made : (stepped : Stepped) (us : List Unit) (t : Target) (text : List ℕ) (kind : UnitKind) → Makes t text kind → IfSome (told stepped) (λ step. step ≡ Goes (with_unit us kind)) → IfSome (told stepped) (λ step. step ≡ step_of (Awaiting us t) text)
told_made stepped us t text kind m h = subst (λ x. IfSome (told stepped) (λ step. step ≡ x)) (step_made us t text kind m) h

-- it has its first fault
pub step_refused : (us : List Unit) (t : Target) (text : List ℕ) (byte : ℕ) (why : Reason) → Refuses (production_of t) text byte why → Spoilt byte why ≡ step_of (Awaiting us t) text
step_refused us t text byte why f = sym (step_spoils {p = Awaiting us t} {text = text} {byte = byte} {why = why} (no_text f))
