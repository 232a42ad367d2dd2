-- How cells, and the places in them, are a store.
use Rattle.std.specs.Prelude.{ℕ, ◌+◌, ◌*◌, ◌^◌, ◌≤◌, ◌<◌, ◌≢◌, ◌⊎◌, List, length, take, drop, map, get_or, false, None}
use Rattle.object_heap.specs.declared.value.Value.{Value}
use Rattle.object_heap.specs.declared.value.Closure.{Closure}
use Rattle.object_heap.specs.Store.{Object, Scope}
use Rattle.object_heap.specs.Charges.{Memory, new_memory}
use Rattle.cell_heap.specs.declared.place.Place.{Place}
use Rattle.cell_heap.specs.declared.place.ScopePlace.{ScopePlace}

-- the memory of a heap, and how many cells of literals still find room
pub record CellMemory : Type 0 where
  pub memory : Memory
  pub literal_room : ℕ

abbrev pub new_cells : ℕ → ℕ → CellMemory
new_cells cells literals = record { memory = new_memory cells; literal_room = literals }

-- the object whose slots and bytes stand at a place
abbrev pub object_of : List Value → List ℕ → Place → Object
object_of values bytes p = record { class = p.class; slots = take p.slots (drop p.first_slot values); bytes = take p.bytes (drop p.first_byte bytes); capacity = p.room; read_only = p.read_only; closure = p.closure }

-- the scope whose variables stand at a place
abbrev pub scope_of : List Value → ScopePlace → Scope
scope_of values p = record { code = p.code; outer = p.outer; variables = take p.variables (drop p.first values) }

abbrev pub memory_of : List Value → List ℕ → List Place → List Closure → List ScopePlace → ℕ → ℕ → Memory
memory_of values bytes places closures scopes used limit = record { store = record { objects = map (object_of values bytes) places; closures = closures; scopes = map (scope_of values) scopes }; used = used; limit = limit }

-- ---- what a heap keeps true

abbrev pub no_place : Place
no_place = record { class = 0; first_slot = 0; slots = 0; room = 0; first_byte = 0; bytes = 0; read_only = false; closure = None }

abbrev pub no_scope_place : ScopePlace
no_scope_place = record { code = 0; outer = None; first = 0; variables = 0 }

abbrev pub place_at : List Place → ℕ → Place
place_at places i = get_or places i no_place

abbrev pub scope_place_at : List ScopePlace → ℕ → ScopePlace
scope_place_at scopes i = get_or scopes i no_scope_place

-- two runs, each from a cell on and so many cells long, have no cell in common
abbrev pub Apart : ℕ → ℕ → ℕ → ℕ → Type 0
Apart first size other others = (first + size ≤ other) ⊎ (other + others ≤ first)

-- each place's runs lie in the cells and bytes, and no two have one in common
pub record Laid (values bytes : ℕ) (places : List Place) (scopes : List ScopePlace) : Type 0 where
  pub filled : (i : ℕ) → i < length places → (place_at places i).slots ≤ (place_at places i).room
  pub inside : (i : ℕ) → i < length places → (place_at places i).first_slot + (place_at places i).room ≤ values
  pub bytes_inside : (i : ℕ) → i < length places → (place_at places i).first_byte + (place_at places i).bytes ≤ bytes
  pub scope_inside : (i : ℕ) → i < length scopes → (scope_place_at scopes i).first + (scope_place_at scopes i).variables ≤ values
  pub apart : (i j : ℕ) → i < length places → j < length places → i ≢ j → Apart (place_at places i).first_slot (place_at places i).room (place_at places j).first_slot (place_at places j).room
  pub bytes_apart : (i j : ℕ) → i < length places → j < length places → i ≢ j → Apart (place_at places i).first_byte (place_at places i).bytes (place_at places j).first_byte (place_at places j).bytes
  pub scopes_apart : (i j : ℕ) → i < length scopes → j < length scopes → i ≢ j → Apart (scope_place_at scopes i).first (scope_place_at scopes i).variables (scope_place_at scopes j).first (scope_place_at scopes j).variables
  pub across : (i j : ℕ) → i < length places → j < length scopes → Apart (place_at places i).first_slot (place_at places i).room (scope_place_at scopes j).first (scope_place_at scopes j).variables

-- each list has room for what the cells that are left can still bring, and each number stays small
pub record HasRoom (values bytes places closures scopes value_room byte_room place_room closure_room scope_room used limit literals : ℕ) : Type 0 where
  pub for_values : values + limit + literals ≤ value_room + used
  pub for_bytes : bytes + 16 * (limit + literals) ≤ byte_room + 16 * used
  pub for_places : places + limit + literals ≤ place_room + used
  pub for_closures : 2 * closures + limit ≤ 2 * closure_room + used + 1
  pub for_scopes : scopes + limit ≤ scope_room + used
  pub few_places : places ≤ 2 ^ 31 + used
  pub few_closures : closures ≤ used
  pub few_scopes : scopes ≤ used
  pub within : used ≤ limit
  pub small : limit ≤ 67108864
