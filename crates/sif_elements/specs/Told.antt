-- What an element says, what the text behind a header makes of it, and where one step leads, as the code tells them.
use Rattle.std.specs.Prelude.{ℕ, List, Option, None, Some}
use Rattle.st_tree.specs.Grammar.{Tree}
use Rattle.st_tree.specs.Headers as headers
use Rattle.st_tree.specs.Headers.{UnitOf, production_of}
use Rattle.st_tree.specs.Units.{TextIs}
use Rattle.st_tree.specs.declared.headers.Target.{Target}
use Rattle.st_tree.specs.declared.units.UnitKind.{UnitKind}
use Rattle.sif_elements.specs.Steps.{Step, Goes, Spoilt}
use Rattle.sif_elements.specs.declared.elements.Element.{Element}
use Rattle.sif_elements.specs.declared.elements.Element.TheVariants as element
use Rattle.sif_elements.specs.declared.progress.Stepped.{Stepped}
use Rattle.sif_elements.specs.declared.progress.Stepped.TheVariants as stepped

abbrev pub said : Element → headers.Element
said (element.Says header) = headers.Says header
said (element.Faulty byte why) = headers.Faulty byte why

-- the text behind a header makes this unit of it
pub data Makes : Target → List ℕ → UnitKind → Type 0 where
  makes : {target : Target} {text : List ℕ} {tree : Tree} {kind : UnitKind} → TextIs (production_of target) text tree → UnitOf target tree kind → Makes target text kind

-- where an element leads, unless memory was wanted
abbrev pub told : Stepped → Option Step
told (stepped.Goes progress) = Some (Goes progress)
told (stepped.Spoilt byte why) = Some (Spoilt byte why)
told stepped.OutOfMemory = None
