-- Units defined one behind the other.
use Rattle.std.proofs.Common.{◌≡◌, ℕ, ◌+◌, ◌<◌, ◌≤◌, List, [], ◌∷◌, ◌++◌, map, drop, length, get_or, Option, Some, None, Result, Ok, Err, IfOk, refl, ap, sym, ◌∙◌, append_assoc, append-nil}
use Rattle.std.proofs.lemmas.List.{drop_all, length-map}
use Rattle.st_tree.specs.declared.units.Unit.{Unit}
use Rattle.st_code.specs.Named.{NamedUnit}
use Rattle.st_code.specs.Written.{named_unit, named_units, with_named}
use Rattle.st_code.specs.Resolved.{Names}
use Rattle.st_code.specs.Definitions.{Defined, nothing_defined, defined_units, RunLimits, program_of}
use Rattle.st_code.specs.Program.{Initializer}
use Rattle.st_code.specs.Compiled.{Compiled, seen_code}
use Rattle.st_base.specs.declared.faults.OutOfMemory.{OutOfMemory}
use Rattle.program_image.specs.Images.{image_names}
use Rattle.program_image.specs.Finding.{defined_kind, codes_from, unit_codes, program_of_image}
use Rattle.st_compiler.specs.declared.draft.DraftBody.{DraftBody}
use Rattle.st_compiler.specs.declared.units.Defining.{Defining}
use Rattle.st_compiler.specs.declared.units.Definitions.{Definitions}
use Rattle.st_compiler.specs.declared.loaded.Parts.{Parts}
use Rattle.st_compiler.specs.Drafted.{drafted, seen_initializer, Holds}
use Rattle.st_compiler.specs.Loading.{defined_file, IsBuilt, IsDefined, IsLoaded, IsParts}
use Rattle.st_compiler.specs.Placed.{compiled_drafts}
use Rattle.st_compiler.proofs.Finding.{drop-here}
use Rattle.st_compiler.proofs.Compiling.{compiled-same}

-- so many units are defined, and the others will be
pub record Underway (units : List Unit) (now : Defining) (given : List ℕ) (i : ℕ) (all : List Unit) : Type 0 where
  pub lookups : now.lookups.now ≡ units
  pub defined : Defined
  pub holds : Holds now defined
  pub rest : defined_file (image_names units) (drop i all) defined ≡ defined_file (image_names units) all nothing_defined
  pub numbers : given ++ codes_from (image_names units) (drop i all) defined ≡ codes_from (image_names units) all nothing_defined

pub underway-first : (units all : List Unit) (now : Defining) → now.lookups.now ≡ units → Holds now nothing_defined → Underway units now [] 0 all
underway-first units all now same holds = record { lookups = same; defined = nothing_defined; holds = holds; rest = refl; numbers = refl }

pub underway-next : (units all : List Unit) (now next : Defining) (numbers more : List ℕ) (i : ℕ) (u : Unit) (code : ℕ) → u ≡ get_or all i u → i < length all → code ≡ length now.draft.bodies → more ≡ numbers ++ code ∷ [] → next.lookups ≡ now.lookups
    → ((d : Defined) → Holds now d → Holds next (defined_kind (image_names now.lookups.now) (named_unit u) d)) → Underway units now numbers i all → Underway units next more (i + 1) all
underway-next units all now next numbers more i u code there low number added lookups holds before =
    let x : Names = image_names units in
    let d : Defined = before.defined in
    let at : drop i all ≡ u ∷ drop (i + 1) all = drop-here all i u there low in
    let e : Defined = defined_kind (image_names now.lookups.now) (named_unit u) d in
    let same : e ≡ defined_kind x (named_unit u) d = ap (λ us. defined_kind (image_names us) (named_unit u) d) before.lookups in
    let count : code ≡ length d.bodies = number ∙ ap length before.holds.bodies ∙ length-map d.bodies drafted in
    record {
      lookups = ap (λ b. b.now) lookups ∙ before.lookups;
      defined = e;
      holds = holds d before.holds;
      rest = ap (λ f. defined_file x (drop (i + 1) all) f) same ∙ ap (λ us. defined_file x us d) (sym at) ∙ before.rest;
      numbers =
          ap (λ ns. ns ++ codes_from x (drop (i + 1) all) e) added
          ∙ ap (λ f. (numbers ++ code ∷ []) ++ codes_from x (drop (i + 1) all) f) same
          ∙ append_assoc numbers (code ∷ []) (codes_from x (drop (i + 1) all) (defined_kind x (named_unit u) d))
          ∙ ap (λ n. numbers ++ (n ∷ codes_from x (drop (i + 1) all) (defined_kind x (named_unit u) d))) count
          ∙ ap (λ us. numbers ++ codes_from x us d) (sym at)
          ∙ before.numbers;
    }

pub holds-end : (units all : List Unit) (now : Defining) (numbers : List ℕ) (i : ℕ) → all ≡ units → length all ≤ i → Underway units now numbers i all → Holds now (defined_file (image_names units) units nothing_defined)
holds-end units all now numbers i are past before =
    let x : Names = image_names units in
    let same : before.defined ≡ defined_file x units nothing_defined = ap (λ us. defined_file x us before.defined) (sym (drop_all i all past)) ∙ before.rest ∙ ap (λ us. defined_file x us nothing_defined) are in
    record {
      bodies = before.holds.bodies ∙ ap (λ (d : Defined). map drafted d.bodies) same;
      objects = before.holds.objects ∙ ap (λ (d : Defined). length d.objects) same;
      initializers = before.holds.initializers ∙ ap (λ (d : Defined). d.initializers) same;
    }

pub numbers-end : (units all : List Unit) (now : Defining) (numbers : List ℕ) (i : ℕ) → all ≡ units → length all ≤ i → Underway units now numbers i all → numbers ≡ codes_from (image_names units) units nothing_defined
numbers-end units all now numbers i are past before =
    let x : Names = image_names units in
    sym (append-nil numbers) ∙ ap (λ us. numbers ++ codes_from x us before.defined) (sym (drop_all i all past)) ∙ before.numbers ∙ ap (λ us. codes_from x us nothing_defined) are

-- ---- the definitions of a file are those of its named units

kind-then : (x : Names) (o : Option NamedUnit) (units : List NamedUnit) (d : Defined) → defined_units x (with_named o units) d ≡ defined_units x units (defined_kind x o d)
kind-then x None units d = refl
kind-then x (Some u) units d = refl

pub file-units : (x : Names) (units : List Unit) (d : Defined) → defined_file x units d ≡ defined_units x (named_units units) d
unfolding named_units
file-units x [] d = refl
file-units x (u ∷ units) d = file-units x units (defined_kind x (named_unit u) d) ∙ sym (kind-then x (named_unit u) (named_units units) d)

pub program-bodies : (units : List Unit) (limits : RunLimits) → (program_of_image units limits).bodies ≡ (defined_file (image_names units) units nothing_defined).bodies
unfolding program_of_image program_of image_names
program-bodies units limits = sym (ap (λ (d : Defined). d.bodies) (file-units (image_names units) units nothing_defined))

pub program-initializers : (units : List Unit) (limits : RunLimits) → (program_of_image units limits).initializers ≡ (defined_file (image_names units) units nothing_defined).initializers
unfolding program_of_image program_of image_names
program-initializers units limits = sym (ap (λ (d : Defined). d.initializers) (file-units (image_names units) units nothing_defined))

pub program-literals : (units : List Unit) (limits : RunLimits) → (program_of_image units limits).trouble_place ≡ length (defined_file (image_names units) units nothing_defined).objects
unfolding program_of_image program_of image_names
program-literals units limits = sym (ap (λ (d : Defined). length d.objects) (file-units (image_names units) units nothing_defined))

pub loaded : (units : List Unit) (drafts : List DraftBody) (codes : List Compiled) (by_unit : List ℕ) (starters : List Initializer) (literals : ℕ) → drafts ≡ map drafted (defined_file (image_names units) units nothing_defined).bodies → codes ≡ compiled_drafts drafts 0 drafts
    → by_unit ≡ codes_from (image_names units) units nothing_defined → starters ≡ (defined_file (image_names units) units nothing_defined).initializers → literals ≡ length (defined_file (image_names units) units nothing_defined).objects → IsLoaded units codes by_unit starters literals
unfolding unit_codes
loaded units drafts codes by_unit starters literals are is numbers begin count =
    record {
      codes = λ limits. compiled-same (program_of_image units limits) drafts codes (are ∙ ap (map drafted) (sym (program-bodies units limits))) is;
      numbers = numbers;
      initializers = λ limits. begin ∙ sym (program-initializers units limits);
      literals = λ limits. count ∙ sym (program-literals units limits);
    }

pub parts-loaded : (units : List Unit) (made : Definitions) (r : Result Parts OutOfMemory) → IsDefined units made → IfOk r (IsBuilt made) → IfOk r (IsParts units)
parts-loaded units made (Ok p) d b =
    loaded units made.defining.draft.bodies (map seen_code p.codes) p.unit_codes (map seen_initializer p.initializers) p.literals d.holds.bodies b.codes (b.numbers ∙ d.numbers) (ap (map seen_initializer) b.initializers ∙ d.holds.initializers) (b.literals ∙ d.holds.objects)
parts-loaded units made (Err e) d b = tt
