-- Items that are bytes.
use Rattle.std.proofs.Common.{◌≡◌, ℕ, IsTrue, inl, inr, ◌∙◌}
use Rattle.std.proofs.lemmas.Bool.{or_cases}
use Rattle.object_heap.specs.declared.value.Value.{Value}
use Rattle.object_heap.specs.Store.{Store, Object, object_added}
use Rattle.st_code.specs.Program.{Program}
use Rattle.st_collections.specs.declared.items.Items.{Items}
use Rattle.st_collections.specs.Items.{Reads, item_at, from_bytes, is_byte_item}
use Rattle.st_collections.specs.SequenceRows.{is_byte}
use Rattle.st_collections.proofs.Steady.{item_steady, from_bytes_steady}

pub is_byte_read : (p : Program) (s : Store) (o : Object) (items : Items) (k : ℕ) (v : Value) → Reads p s items k → IsTrue (is_byte_item p s items k) → v ≡ item_at p (object_added o s) items k → (IsTrue (from_bytes (object_added o s) items k) → IsTrue (is_byte v)) → IsTrue (is_byte v)
is_byte_read p s o items k v r b e h =
    elim (or_cases (from_bytes s items k) (is_byte (item_at p s items k)) b) [
      | inl x ↦ h (from_bytes_steady p items k o s r ∙ x)
      | inr x ↦ rw (e, item_steady p items k o s r) x
    ]
