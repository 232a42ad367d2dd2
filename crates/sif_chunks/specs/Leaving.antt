-- What is left of a source and of the bytes that stand behind it.
use Rattle.std.specs.Prelude.{◌≡◌, ℕ, List, ◌++◌, Option}
use Rattle.std.specs.Io.KnownBytes.{prepend_known}

-- bytes were taken from the front of what a source had left, and others from the front of those that stand behind it
pub record Leaves (left left' : Option (List ℕ)) (behind behind' : List ℕ) : Type 0 where
  pub taken : List ℕ
  pub front : left ≡ prepend_known taken left'
  pub part : List ℕ
  pub back : behind ≡ part ++ behind'
