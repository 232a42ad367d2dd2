-- A source with nothing behind it.
use Rattle.std.proofs.Common.{◌≡◌, List, [], ℕ, Option, None, Some, refl, ap}
use Rattle.std.proofs.lemmas.List.{append-nil}
use Rattle.std.specs.Io.KnownBytes.{append_known}

alone : (left : Option (List ℕ)) → append_known left [] ≡ left
alone None = refl
alone (Some bytes) = ap Some (append-nil bytes)

-- what holds of a source with an empty appendix holds of the source
pub of_alone : (P : Option (List ℕ) → Option (List ℕ) → Type 0) (left now : Option (List ℕ)) (behind : List ℕ) → behind ≡ [] → P (append_known left []) (append_known now behind) → P left now
of_alone P left now behind none holds = rw (none, alone left, alone now) at holds
