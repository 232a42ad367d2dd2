-- The lists of a class, one after the other.
use Rattle.std.proofs.Common.{◌≡◌, Bool, true, false, List, refl, ◌∙◌}
use Rattle.std.specs.List.{list_any}
use Rattle.st_tree.specs.declared.units.ClassUnit.{ClassUnit}
use Rattle.st_checks.specs.Declarations.{Text, repeats}
use Rattle.st_checks.specs.Lists.{shares, repeats_other}
use Rattle.st_checks.specs.StaticRules.{repeats_variable}

pub other-all : (above : List ClassUnit) (instance_names set : List Text) (c : ClassUnit) (b : Bool) → repeats c.class_names ≡ false → repeats c.pools ≡ false → (repeats c.class_instance_names ≡ false) × (set ≡ c.class_instance_names)
    → b ≡ list_any (shares instance_names set) above → b ≡ repeats_other above instance_names c
other-all above instance_names set c b classes pools own is = is ∙ rw (classes, pools, own.0, own.1) refl

pub other-none : (above : List ClassUnit) (instance_names : List Text) (c : ClassUnit) → repeats c.class_names ≡ false → repeats c.pools ≡ false → repeats c.class_instance_names ≡ true → true ≡ repeats_other above instance_names c
other-none above instance_names c classes pools own = rw (classes, pools, own) refl

pub variable-all : (above : List ClassUnit) (set : List Text) (c : ClassUnit) → (repeats c.instance_names ≡ false) × (set ≡ c.instance_names) → repeats_other above set c ≡ repeats_variable above c
variable-all above set c own = rw (own.0, own.1) refl

pub variable-none : (above : List ClassUnit) (c : ClassUnit) → repeats c.instance_names ≡ true → true ≡ repeats_variable above c
variable-none above c own = rw own refl
