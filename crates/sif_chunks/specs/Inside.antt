-- A reader as it is kept, and what it is seen as.
use Rattle.std.specs.Prelude.{◌≡◌, false, IfSome, None, ◌+◌, ◌≤◌, if◌then◌else◌}
use Rattle.sif_chunks.specs.Reading.{Reader, max_input}
use Rattle.sif_chunks.specs.Turn.{judged_of}
use Rattle.sif_chunks.specs.declared.reader.ChunkReader.TheInside.{Inside}

abbrev pub view_of : Inside → Reader
view_of r = record { number = r.number; text = r.text; is_given = r.is_given; stop = r.stop; pending = r.window.pending; taken = r.window.taken }

-- each element took a byte at least, and more than the longest input is taken only to find it too long
pub record IsSound (r : Inside) : Type 0 where
  pub stopped : IfSome r.stop (λ _. r.is_given ≡ false)
  pub counted : r.number + (if r.is_given then 1 else 0) ≤ judged_of r.window + 1
  pub input : r.stop ≡ None → r.window.taken ≤ max_input
  pub judged : judged_of r.window ≤ max_input
  pub most : r.window.taken ≤ max_input + 1
