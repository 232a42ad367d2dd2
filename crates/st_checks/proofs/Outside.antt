-- Names behind the scopes, seen from a class.
use Rattle.std.proofs.Common.{◌≡◌, Bool, true, false, List, refl, ◌∙◌}
use Rattle.st_tree.specs.declared.units.ClassUnit.{ClassUnit}
use Rattle.st_checks.specs.Declarations.{Text, ancestors}
use Rattle.st_checks.specs.Meanings.{Meaning, Assignable, or_else, assignable_if, in_instances, in_classes, in_program, meaning_outside}
use Rattle.st_checks.specs.Views.{Viewpoint, outside}

own-first : (b : Bool) (m rest : Meaning) → assignable_if b ≡ m → b ≡ true → Assignable ≡ or_else m rest
own-first b m rest e is = rw (← e, is) refl

own-none : (b : Bool) (m rest : Meaning) → assignable_if b ≡ m → b ≡ false → rest ≡ or_else m rest
own-none b m rest e is = rw (← e, is) refl

-- an instance variable
pub outside-own : (v : Viewpoint) (line : List ClassUnit) (name : Text) (b : Bool) → line ≡ ancestors v.units v.class → assignable_if b ≡ in_instances v.side line name → b ≡ true → Assignable ≡ outside v name
unfolding meaning_outside
outside-own v line name b all e is = rw (← all) (own-first b (in_instances v.side line name) (or_else (in_classes v.units line name) (in_program v.units name)) e is)

-- none
pub outside-shared : (v : Viewpoint) (line : List ClassUnit) (name : Text) (b : Bool) (m : Meaning) → line ≡ ancestors v.units v.class → assignable_if b ≡ in_instances v.side line name → b ≡ false → m ≡ or_else (in_classes v.units line name) (in_program v.units name) → m ≡ outside v name
unfolding meaning_outside
outside-shared v line name b m all e is found = found ∙ rw (← all) (own-none b (in_instances v.side line name) (or_else (in_classes v.units line name) (in_program v.units name)) e is)
