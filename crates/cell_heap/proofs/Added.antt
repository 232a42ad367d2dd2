-- What a new object, block or scope, at the end of the cells, leaves of the others.
use Rattle.std.proofs.Common.{◌≡◌, ℕ, List, [], ◌∷◌, ◌++◌, length, map, replicate, refl, sym, Bool, Option, arith}
use Rattle.std.proofs.lemmas.List.{map-append, length-replicate}
use Rattle.object_heap.specs.declared.value.Value.{Value}
use Rattle.object_heap.specs.declared.value.Value.TheVariants.{Nil}
use Rattle.cell_heap.specs.declared.place.Place.{Place}
use Rattle.cell_heap.specs.declared.place.ScopePlace.{ScopePlace}
use Rattle.cell_heap.specs.Flat.{object_of, scope_of, Laid, no_place, no_scope_place, place_at, scope_place_at}
use Rattle.cell_heap.proofs.Windows.{same_map, window-append, window-added}

-- more cells at the end leave each object
pub objects_kept : (values more : List Value) (bytes more' : List ℕ) (places : List Place) (scopes : List ScopePlace) → Laid (length values) (length bytes) places scopes → map (object_of (values ++ more) (bytes ++ more')) places ≡ map (object_of values bytes) places
objects_kept values more bytes more' places scopes h =
    same_map (object_of (values ++ more) (bytes ++ more')) (object_of values bytes) places no_place (λ j lj.
    rw (window-append values more (place_at places j).first_slot (place_at places j).slots (omega (arith, h.filled j lj, h.inside j lj)), window-append bytes more' (place_at places j).first_byte (place_at places j).bytes (h.bytes_inside j lj)) refl)

-- and each scope
pub scopes_kept : (values more : List Value) (bytes : ℕ) (places : List Place) (scopes : List ScopePlace) → Laid (length values) bytes places scopes → map (scope_of (values ++ more)) scopes ≡ map (scope_of values) scopes
scopes_kept values more bytes places scopes h =
    same_map (scope_of (values ++ more)) (scope_of values) scopes no_scope_place (λ j lj.
    rw (window-append values more (scope_place_at scopes j).first (scope_place_at scopes j).variables (h.scope_inside j lj)) refl)

-- a new object of nils and zeros
pub objects_added : (values values' : List Value) (bytes bytes' : List ℕ) (places places' : List Place) (scopes : List ScopePlace) (class first slots first' size : ℕ) (read_only : Bool) (closure : Option ℕ) → Laid (length values) (length bytes) places scopes → values' ≡ values ++ replicate slots Nil → bytes' ≡ bytes ++ replicate size 0 → first ≡ length values → first' ≡ length bytes → places' ≡ places ++ record { class = class; first_slot = first; slots = slots; room = slots; first_byte = first'; bytes = size; read_only = read_only; closure = closure } ∷ [] → map (object_of values' bytes') places' ≡ map (object_of values bytes) places ++ record { class = class; slots = replicate slots Nil; bytes = replicate size 0; capacity = slots; read_only = read_only; closure = closure } ∷ []
objects_added values values' bytes bytes' places places' scopes class first slots first' size read_only closure h ev eb ef ef' ep =
    rw (
      ep,
      ev,
      eb,
      map-append (object_of (values ++ replicate slots Nil) (bytes ++ replicate size 0)),
      objects_kept values (replicate slots Nil) bytes (replicate size 0) places scopes h,
      window-added values (replicate slots Nil) first slots ef (sym (length-replicate slots Nil)),
      window-added bytes (replicate size 0) first' size ef' (sym (length-replicate size 0)),
    ) refl

-- a new scope of nils
pub scopes_added : (values values' : List Value) (bytes : ℕ) (places : List Place) (scopes scopes' : List ScopePlace) (code first variables : ℕ) (outer : Option ℕ) → Laid (length values) bytes places scopes → values' ≡ values ++ replicate variables Nil → first ≡ length values → scopes' ≡ scopes ++ record { code = code; outer = outer; first = first; variables = variables } ∷ [] → map (scope_of values') scopes' ≡ map (scope_of values) scopes ++ record { code = code; outer = outer; variables = replicate variables Nil } ∷ []
scopes_added values values' bytes places scopes scopes' code first variables outer h ev ef ep =
    rw (
      ep,
      ev,
      map-append (scope_of (values ++ replicate variables Nil)),
      scopes_kept values (replicate variables Nil) bytes places scopes h,
      window-added values (replicate variables Nil) first variables ef (sym (length-replicate variables Nil)),
    ) refl
