-- What a call that writes did to its sink.
use Rattle.std.specs.Prelude.{◌≡◌, ℕ, List, Option, Result, Ok, Err}
use Rattle.std.specs.Io.KnownBytes.{append_known}
use Rattle.st_base.specs.Streams.{GainsPrefix}

-- all bytes were written, or a prefix of them where the call failed
abbrev pub Gains : {A E : Type 0} → Option (List ℕ) → Option (List ℕ) → Result A E → List ℕ → Type 0
Gains old new (Ok x) bytes = new ≡ append_known old bytes
Gains old new (Err e) bytes = GainsPrefix old new bytes
