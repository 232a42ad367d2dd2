-- A source or a sink before a call and after it.
use Rattle.std.specs.Prelude.{◌≡◌, ℕ, List, Option}
use Rattle.std.specs.Io.KnownBytes.{append_known}
use Rattle.st_base.specs.Streams.{Rose, GainsPrefix}

-- the bytes that are left of a source or written to a sink, where it tells them, and the count of its faults
pub record Device : Type 0 where
  pub before : Option (List ℕ)
  pub faults_before : ℕ
  pub after : Option (List ℕ)
  pub faults_after : ℕ

abbrev pub device : (before : Option (List ℕ)) (faults_before : ℕ) (after : Option (List ℕ)) (faults_after : ℕ) → Device
device b m a n = record { before = b; faults_before = m; after = a; faults_after = n }

-- some call of it failed
abbrev pub Fails : Device → Type 0
Fails d = Rose d.faults_before d.faults_after

-- nothing was written to it
abbrev pub Keeps : Device → Type 0
Keeps d = d.after ≡ d.before

-- these bytes were written to it
abbrev pub Gained : Device → List ℕ → Type 0
Gained d bytes = d.after ≡ append_known d.before bytes

-- a prefix of these bytes was
abbrev pub GainedPart : Device → List ℕ → Type 0
GainedPart d bytes = GainsPrefix d.before d.after bytes
