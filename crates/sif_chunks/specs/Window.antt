-- What a window is seen as, and what asking for more bytes does to it and to what the source has left.
use Rattle.std.specs.Prelude.{◌≡◌, ◌≤◌, ◌<◌, ◌+◌, ◌-◌, ℕ, List, [], ◌++◌, length, take, drop, Option, IfSome}
use Rattle.std.specs.Io.KnownBytes.{prepend_known}
use Rattle.sif_chunks.specs.Reading.{max_input}
use Rattle.sif_chunks.specs.declared.window.Fill.{Fill}
use Rattle.sif_chunks.specs.declared.window.Fill.TheVariants.{Some, End, Beyond, Failed}
use Rattle.sif_chunks.specs.declared.window.Window.TheInside.{Inside}

-- the bytes that were taken and not judged, and how many were taken in all
pub record Held : Type 0 where
  pub pending : List ℕ
  pub taken : ℕ

abbrev pub view_of : Inside → Held
view_of w = record { pending = take (w.end - w.start) (drop w.start w.bytes.items); taken = w.taken }

pub record IsSound (w : Inside) : Type 0 where
  pub size : length w.bytes.items ≡ 65537
  pub order : w.start ≤ w.end
  pub within : w.end ≤ length w.bytes.items
  pub counted : w.end - w.start ≤ w.taken
  pub input : w.taken ≤ max_input + 1

-- the window gained what the source lost, at least a byte
pub record Gains (old : Held) (left : Option (List ℕ)) (new : Held) (now : Option (List ℕ)) (got : List ℕ) : Type 0 where
  pub some : 0 < length got
  pub pending : new.pending ≡ old.pending ++ got
  pub taken : new.taken ≡ old.taken + length got
  pub bytes : left ≡ prepend_known got now

abbrev pub Fills : Held → Option (List ℕ) → Fill → Held → Option (List ℕ) → Type 0
Fills old left Some new now = ((got : List ℕ) × Gains old left new now got) × (new.taken ≤ max_input)
Fills old left Beyond new now = ((got : List ℕ) × Gains old left new now got) × (old.taken ≡ max_input) × (new.taken ≡ max_input + 1)
Fills old left End new now = (new ≡ old) × (now ≡ left) × IfSome left (λ bytes. bytes ≡ [])
Fills old left Failed new now = (new ≡ old) × (now ≡ left)
