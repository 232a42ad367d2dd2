-- What a report says of an exception, in stores that have the same objects.
use Rattle.std.proofs.Common.{◌≡◌, ◌∙◌, ap, sym, refl}
use Rattle.object_heap.specs.declared.value.Value.{Value}
use Rattle.object_heap.specs.Store.{Store}
use Rattle.st_code.specs.Program.{Program}
use Rattle.st_code.specs.Lookup.{class_of}
use Rattle.st_collections.specs.Kinds.{bytes_of, exception_text, is_a, slot_of, slots_of}
use Rattle.st_transcript.specs.Unhandled.{unhandled_text}

-- the second store has the objects of the first
abbrev with-objects-of : Store → Store → Store
with-objects-of s s' = record { objects = s.objects; closures = s'.closures; scopes = s'.scopes }

unhandled-with : (p : Program) (s s' : Store) (v : Value) → unhandled_text p (with-objects-of s s') v ≡ unhandled_text p s v
unfolding exception_text bytes_of slot_of slots_of is_a class_of
unhandled-with p s s' v = refl

pub unhandled-same : (p : Program) (s s' : Store) (v : Value) → s.objects ≡ s'.objects → unhandled_text p s v ≡ unhandled_text p s' v
unhandled-same p s s' v same =
    sym (unhandled-with p s s' v) ∙ ap (λ os. unhandled_text p (record { objects = os; closures = s'.closures; scopes = s'.scopes }) v) same
