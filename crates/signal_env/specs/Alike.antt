-- What a program's search for a handler comes to, and what its image's does: the same.
use Rattle.std.specs.Prelude.{◌≡◌, ℕ, List}
use Rattle.object_heap.specs.declared.value.Value.{Value}
use Rattle.object_heap.specs.Store.{Store}
use Rattle.st_tree.specs.declared.units.Unit.{Unit}
use Rattle.st_code.specs.Definitions.{RunLimits}
use Rattle.st_code.specs.Lookup.{inherits, is_plain, fits}
use Rattle.st_contexts.specs.declared.activation.Entry.{Entry}
use Rattle.program_image.specs.Images.{image_program}
use Rattle.program_image.specs.Finding.{program_of_image}
use Rattle.signal_env.specs.Searches.{search_in}

pub record SearchesAlike (units : List Unit) (limits : RunLimits) : Type 0 where
  pub inheriting : (class ancestor : ℕ) → inherits (program_of_image units limits) class ancestor ≡ inherits (image_program units) class ancestor
  pub plain : (s : Store) (selector : Value) → is_plain (program_of_image units limits) s selector ≡ is_plain (image_program units) s selector
  pub fitting : (s : Store) (selector : Value) (class : ℕ) → fits (program_of_image units limits) s selector class ≡ fits (image_program units) s selector class
  pub searching : (s : Store) (class : ℕ) (entries : List Entry) → search_in (program_of_image units limits) s class entries ≡ search_in (image_program units) s class entries
