-- What calls leave of a source and of the bytes behind it, one call after another.
use Rattle.std.proofs.Common.{◌≡◌, ◌∙◌, ℕ, List, [], ◌∷◌, ◌++◌, take, Option, None, Some, Result, Ok, Err, refl, ap, sym, append_assoc}
use Rattle.std.specs.Io.KnownBytes.{prepend_known}
use Rattle.st_base.specs.Streams.{Gives}
use Rattle.st_base.proofs.Known.{prepend_known-append}
use Rattle.sif_chunks.specs.Leaving.{Leaves}

pub prepend_known-nil : (known : Option (List ℕ)) → known ≡ prepend_known [] known
prepend_known-nil None = refl
prepend_known-nil (Some xs) = refl

-- nothing was taken
pub leaves_all : (left : Option (List ℕ)) (behind : List ℕ) → Leaves left left behind behind
leaves_all left behind = record { taken = []; front = prepend_known-nil left; part = []; back = refl }

pub leaves_leaves : (left mid now : Option (List ℕ)) (behind between rest : List ℕ) → Leaves left mid behind between → Leaves mid now between rest → Leaves left now behind rest
leaves_leaves left mid now behind between rest one two = record {
  taken = one.taken ++ two.taken;
  front = one.front ∙ ap (prepend_known one.taken) two.front ∙ prepend_known-append now one.taken two.taken;
  part = one.part ++ two.part;
  back = one.back ∙ ap (λ (bytes : List ℕ). one.part ++ bytes) two.back ∙ sym (append_assoc one.part two.part rest);
}

-- what a source gave, the bytes behind it being untouched
pub leaves_behind : {E : Type 0} (left now : Option (List ℕ)) (behind into : List ℕ) (result : Result ℕ E) → Gives left now result into → Leaves left now behind behind
leaves_behind left now behind into (Ok n) gave = record { taken = take n into; front = gave.bytes; part = []; back = refl }
leaves_behind left now behind into (Err e) same = rw same (leaves_all left behind)

nothing_behind : (part rest : List ℕ) → [] ≡ part ++ rest → rest ≡ []
nothing_behind [] rest is = sym is
nothing_behind (b ∷ bs) rest is = absurd (let k : [] ≡ b ∷ (bs ++ rest) = is in cc)

-- where nothing stands behind a source, nothing comes to stand there
pub none_behind : (left now : Option (List ℕ)) (behind rest : List ℕ) → Leaves left now behind rest → behind ≡ [] → rest ≡ []
none_behind left now behind rest leaves none = nothing_behind leaves.part rest (sym none ∙ leaves.back)
