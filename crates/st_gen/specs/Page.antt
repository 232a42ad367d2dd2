-- What a sink in memory holds.
use Rattle.std.specs.Prelude.{ℕ, List}

-- the bytes that were written, and how often memory was wanted
pub record Page : Type 0 where
  pub bytes : List ℕ
  pub faults : ℕ
