-- From where a body sees names, and the faults of a part of it (ANSI NCITS 319, 3.3, 3.4).
use Rattle.std.specs.Prelude.{ℕ, ◌&&◌, List, Option, None, Some, min, refl}
use Rattle.std.specs.Coded.{Coded, code_by, coded×, coded_list, coded_ℕ}
use Rattle.st_base.specs.contracts.builtins.MethodSide as side
use Rattle.st_tree.specs.contracts.units.Unit as unit
use Rattle.st_base.specs.declared.builtins.MethodSide.{MethodSide}
use Rattle.st_tree.specs.declared.units.Unit.{Unit}
use Rattle.st_checks.specs.Declarations.{Text}
use Rattle.st_checks.specs.Bodies.{Mention, Naming}
use Rattle.st_checks.specs.Meanings.{Meaning, Undeclared, Fixed, Assignable, in_scopes, meaning_outside, or_else}
use Rattle.st_checks.specs.StaticRules.{repeated_in, places, is_undeclared, is_fixed, least}
use Rattle.st_checks.specs.declared.meaning.Meaning.{Meaning as Meant}
use Rattle.st_checks.specs.declared.meaning.Meaning.TheVariants as meants
use Rattle.st_checks.specs.declared.bodies.BodyFaults.{BodyFaults}

-- what an answer of the code stands for
abbrev pub meant : Meant → Meaning
meant meants.Undeclared = Undeclared
meant meants.Fixed = Fixed
meant meants.Assignable = Assignable

-- from where a body sees names that no scope of its own declares
pub record Viewpoint : Type 0 where
  pub units : List Unit
  pub class : Text
  pub side : MethodSide

abbrev pub viewpoint_code : Coded Viewpoint
viewpoint_code = code_by (List Unit × (Text × MethodSide)) (coded× (coded_list unit.the_row.coded) (coded× (coded_list coded_ℕ) side.the_row.coded)) (λ v. (v.units, (v.class, v.side))) (λ p. record { units = p.0; class = p.1.0; side = p.1.1 }) (λ _. refl)

abbrev pub outside : Viewpoint → Text → Meaning
outside v name = meaning_outside v.units v.class v.side name

abbrev pub seen : Viewpoint → Mention → Meaning
seen v m = or_else (in_scopes m.scopes m.name.text) (outside v m.name.text)

-- the lesser of two places, where there are two
abbrev pub lesser_of : Option ℕ → Option ℕ → Option ℕ
lesser_of None b = b
lesser_of (Some m) None = Some m
lesser_of (Some m) (Some n) = Some (min m n)

abbrev pub no_faults : BodyFaults
no_faults = record { repeated = None; undeclared = None; fixed = None }

-- the least places in the two together
abbrev pub joined : BodyFaults → BodyFaults → BodyFaults
joined a b = record {
  repeated = lesser_of a.repeated b.repeated;
  undeclared = lesser_of a.undeclared b.undeclared;
  fixed = lesser_of a.fixed b.fixed;
}

-- the faults of a part of a body
unfoldable pub faults_of : Viewpoint → Naming → BodyFaults
faults_of v n = record {
  repeated = least (repeated_in n.scopes);
  undeclared = least (places (λ m. is_undeclared (seen v m)) n.mentions);
  fixed = least (places (λ m. m.assigned && is_fixed (seen v m)) n.mentions);
}
