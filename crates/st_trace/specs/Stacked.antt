-- How the auditor's vector is a stack with environments. Lists of items are turned round, so that the innermost comes first.
use Rattle.std.specs.Prelude.{ℕ, zero, suc, ◌+◌, ◌≤◌, List, [], ◌∷◌, length, Option, Some, None, nat_eq, slice_get, if◌then◌else◌}
use Rattle.st_trace.specs.declared.stack.Item.{Item}
use Rattle.st_trace.specs.declared.stack.Search.{Search}
use Rattle.st_trace.specs.declared.stack.Kind.{Kind}
use Rattle.st_trace.specs.declared.stack.Kind.TheVariants as kinds
use Rattle.st_trace.specs.Automaton as audit

-- the item at which an environment begins
abbrev pub entry_at : List Item → ℕ → Option Item
entry_at items zero = None
entry_at items (suc place) = slice_get items place

-- the entries of an environment
abbrev pub chain : List Item → ℕ → List ℕ
chain [] env = []
chain (i ∷ below) env = if nat_eq env (length below + 1) then i.number ∷ chain below i.around else chain below env

abbrev pub search_view : List Item → Search → audit.Search
search_view below x = audit.looking x.of_turn (chain below x.whole) (chain below x.left)

abbrev pub kind_view : List Item → Kind → audit.Kind
kind_view below kinds.Protect = audit.ByProtect
kind_view below kinds.Signal = audit.BySignal
kind_view below kinds.Outer = audit.ByOuter
kind_view below kinds.Default = audit.ByDefault
kind_view below (kinds.Handle n) = audit.ByHandle n
kind_view below (kinds.Ensure a) = audit.ByEnsure a
kind_view below (kinds.Curtail a) = audit.ByCurtail a
kind_view below (kinds.Ask n x) = audit.ByAsk n (search_view below x)

abbrev pub inside_by : Kind → ℕ → List ℕ → List ℕ
inside_by kinds.Protect n env = n ∷ env
inside_by _ n env = env

abbrev pub items_view : List Item → List audit.Item
items_view [] = []
items_view (i ∷ below) = audit.item i.number (kind_view below i.kind) (inside_by i.kind i.number (chain below i.around)) ∷ items_view below

abbrev pub link_by : Kind → (place around : ℕ) → ℕ
link_by kinds.Protect place around = place
link_by _ place around = around

abbrev pub inside_link : List Item → ℕ
inside_link [] = 0
inside_link (i ∷ below) = link_by i.kind (length below + 1) i.around

abbrev pub IsLinkedKind : ℕ → Kind → Type 0
IsLinkedKind room (kinds.Ask n x) = (x.whole ≤ room) × (x.left ≤ room)
IsLinkedKind room _ = Unit {0}

-- each environment stands further out
abbrev pub IsLinked : List Item → Type 0
IsLinked [] = Unit {0}
IsLinked (i ∷ below) = (i.around ≤ length below) × IsLinkedKind (length below) i.kind × IsLinked below

abbrev pub handle_link : Kind → ℕ → Option ℕ
handle_link (kinds.Handle n) around = Some around
handle_link _ around = None

abbrev pub turn_link : ℕ → List Item → Option ℕ
turn_link n [] = None
turn_link n (i ∷ below) = if nat_eq n i.number then handle_link i.kind i.around else turn_link n below
