-- What the auditor's fields are.
use Rattle.std.specs.Prelude.{ℕ, ◌≤◌, ◌^◌, List, length, reverse, Option, Some, None, Bool, if◌then◌else◌}
use Rattle.st_trace.specs.declared.stack.Item.{Item}
use Rattle.st_trace.specs.declared.stack.Search.{Search}
use Rattle.st_trace.specs.declared.auditor.Mode.{Mode}
use Rattle.st_trace.specs.declared.auditor.Mode.TheVariants as modes
use Rattle.st_trace.specs.declared.auditor.Kept.{Kept}
pub use Rattle.st_trace.specs.Stacked.{search_view, items_view, IsLinked}
use Rattle.st_trace.specs.Automaton as audit

abbrev pub mode_view : List Item → Mode → audit.Mode
mode_view items modes.Calm = audit.Calm
mode_view items modes.MustSearch = audit.MustSearch
mode_view items modes.MustTurn = audit.MustTurn
mode_view items (modes.Looks x) = audit.Looks (search_view items x)
mode_view items (modes.Answered n x) = audit.Answered n (search_view items x)
mode_view items (modes.Fits n x) = audit.Fits n (search_view items x)

abbrev pub IsLinkedSearch : ℕ → Search → Type 0
IsLinkedSearch room x = (x.whole ≤ room) × (x.left ≤ room)

abbrev pub IsLinkedMode : ℕ → Mode → Type 0
IsLinkedMode room (modes.Looks x) = IsLinkedSearch room x
IsLinkedMode room (modes.Answered n x) = IsLinkedSearch room x
IsLinkedMode room (modes.Fits n x) = IsLinkedSearch room x
IsLinkedMode room _ = Unit {0}

abbrev pub auditor_of : Kept → audit.Auditor
auditor_of a = audit.auditor (items_view (reverse a.items.items)) (mode_view (reverse a.items.items) a.mode) a.next

pub record IsSound (a : Kept) : Type 0 where
  pub linked : IsLinked (reverse a.items.items)
  pub mode : IsLinkedMode (length a.items.items) a.mode
  pub next : a.next ≤ 2 ^ 64

-- a transition, or a refusal
abbrev pub answers : (taken : Bool) → Kept → Option audit.Auditor
answers taken a = if taken then Some (auditor_of a) else None

-- a mode without a search
abbrev pub IsPlain : Mode → Type 0
IsPlain modes.Calm = Unit {0}
IsPlain modes.MustSearch = Unit {0}
IsPlain modes.MustTurn = Unit {0}
IsPlain _ = ⊥
