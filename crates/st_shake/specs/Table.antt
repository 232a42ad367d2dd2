-- Methods by their selectors: the place of the last of each, and from each to the one before it.
use Rattle.std.specs.Prelude.{◌≡◌, Bool, ℕ, zero, suc, List, [], ◌∷◌, ◌++◌, map, length, get_or, slice_get, Option, Some, None, if◌then◌else◌}
use Rattle.std.specs.Borrow.{Bor}
use Rattle.std.specs.HashMap.{HashMap, get}
use Rattle.std.specs.Str.{bytes_eq}
use Rattle.st_code.specs.Texts.{Text}
use Rattle.st_code.specs.Written.{named_method}
use Rattle.st_shake.specs.Needed.{Method, method_of}
use Rattle.st_shake.specs.declared.methods.Entry.{Entry}

abbrev pub no_method : Method
no_method = record { selector = []; texts = [] }

abbrev pub method_at : List Method → ℕ → Method
method_at methods n = get_or methods n no_method

-- the place of the last of the first n methods that has this selector
abbrev pub last_of : List Method → Text → ℕ → Option ℕ
last_of methods selector zero = None
last_of methods selector (suc n) = if bytes_eq (method_at methods n).selector selector then Some n else last_of methods selector n

-- what those of the first n methods spell that have this selector, the last first
abbrev pub under : List Method → Text → ℕ → List Text
under methods selector zero = []
under methods selector (suc n) = if bytes_eq (method_at methods n).selector selector then (method_at methods n).texts ++ under methods selector n else under methods selector n

-- what the method at this place spells, and then those before it that have its selector
abbrev pub from_place : List Method → Option ℕ → List Text
from_place methods None = []
from_place methods (Some n) = (method_at methods n).texts ++ under methods (method_at methods n).selector n

-- ---- as the code has it

-- the bytes behind a reference, as a key
abbrev pub Bytes : Type 0
Bytes = Bor Text

abbrev pub same_bytes : Bytes → Bytes → Bool
same_bytes a b = bytes_eq a.now b.now

abbrev pub entry_method : Entry → Method
entry_method e = method_of (named_method e.method.now)

abbrev pub entry_methods : List Entry → List Method
entry_methods entries = map entry_method entries

-- the map has the last method of each selector, and each entry the one before it
pub record IsTable {S : Type 0} (entries : List Entry) (last : HashMap Bytes ℕ S) : Type 0 where
  pub newest : (selector : Bytes) → get same_bytes last selector ≡ last_of (entry_methods entries) selector.now (length entries)
  pub earlier : (n : ℕ) (e : Entry) → slice_get entries n ≡ Some e → e.earlier ≡ last_of (entry_methods entries) (entry_method e).selector n

-- a method is added behind the others
pub record GainsMethod {S : Type 0} (entries : List Entry) (last : HashMap Bytes ℕ S) (m : Method) (entries' : List Entry) (last' : HashMap Bytes ℕ S) : Type 0 where
  pub entry : Entry
  pub is : entry_method entry ≡ m
  pub added : entries' ≡ entries ++ entry ∷ []
  pub key : Bytes
  pub named : key.now ≡ m.selector
  pub earlier : entry.earlier ≡ get same_bytes last key
  pub newest : (selector : Bytes) → get same_bytes last' selector ≡ (if bytes_eq m.selector selector.now then Some (length entries) else get same_bytes last selector)

-- a method is added, or nothing
abbrev pub Gains : {S : Type 0} → List Entry → HashMap Bytes ℕ S → Option Method → List Entry → HashMap Bytes ℕ S → Type 0
Gains entries last None entries' last' = (entries' ≡ entries) × (last' ≡ last)
Gains entries last (Some m) entries' last' = GainsMethod entries last m entries' last'
