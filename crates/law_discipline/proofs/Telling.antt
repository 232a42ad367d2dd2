-- What the auditor comes to behind one more event.
use Rattle.std.proofs.Common.{◌≡◌, ℕ, ◌+◌, ◌≤◌, List, [], ◌∷◌, ◌++◌, Option, Some, None, Bool, refl, ap, ◌∙◌, subst, arith, if◌then◌else◌, le-leb}
use Rattle.st_rules.specs.Events.{Event, End}
use Rattle.st_trace.specs.Automaton.{Kind, Item, Mode, Calm, Auditor, auditor, item, begun, ends, accepts, accepts_by, after, auditor_after}
use Rattle.st_trace.proofs.Ordering.{Ordered, ordered_later, here}

-- behind these events, with numbers below this one, so much is open and may come
pub record TellsOf (events : List Event) (next : ℕ) (is : List Item) (mode : Mode) : Type 0 where
  pub bound : ℕ
  pub runs : auditor_after events ≡ Some (auditor is mode bound)
  pub under : bound ≤ next
  pub ordered : Ordered bound is

-- the auditor hasn't refused
abbrev pub Accepted : List Event → Type 0
Accepted events = (a : Auditor) × (auditor_after events ≡ Some a)

pub accepted : (events : List Event) (next : ℕ) (is : List Item) (mode : Mode) → TellsOf events next is mode → Accepted events
accepted events next is mode h = (auditor is mode h.bound, h.runs)

pub tells_later : (events : List Event) (a b : ℕ) (is : List Item) (mode : Mode) → a ≤ b → TellsOf events a is mode → TellsOf events b is mode
tells_later events a b is mode le h = record { bound = h.bound; runs = h.runs; under = omega (arith, h.under, le); ordered = h.ordered }

pub tells_same : (events : List Event) (next : ℕ) (is js : List Item) (mode : Mode) → is ≡ js → TellsOf events next is mode → TellsOf events next js mode
tells_same events next is js mode e h = subst (λ x. TellsOf events next x mode) e h

after_more : (a : Option Auditor) (es : List Event) (e : Event) → after a (es ++ e ∷ []) ≡ accepts_by e (after a es)
after_more a [] e = refl
after_more a (d ∷ es) e = after_more (accepts_by d a) es e

tell : (events : List Event) (e : Event) (a : Auditor) (b : Option Auditor) → auditor_after events ≡ Some a → accepts e a ≡ b → auditor_after (events ++ e ∷ []) ≡ b
unfolding auditor_after
tell events e a b h same = after_more _ events e ∙ ap (accepts_by e) h ∙ same

-- an event that begins nothing
pub tells_on : (events : List Event) (e : Event) (next : ℕ) (is js : List Item) (mode mode' : Mode) → ((b : ℕ) → accepts e (auditor is mode b) ≡ Some (auditor js mode' b)) → ((b : ℕ) → Ordered b is → Ordered b js) → TellsOf events next is mode → TellsOf (events ++ e ∷ []) next js mode'
tells_on events e next is js mode mode' same kept h =
    record { bound = h.bound; runs = tell events e (auditor is mode h.bound) (Some (auditor js mode' h.bound)) h.runs (same h.bound); under = h.under; ordered = kept h.bound h.ordered }

begins : (n : ℕ) (kind : Kind) (inside : List ℕ) (mode : Mode) (is : List Item) (b : ℕ) → b ≤ n → begun n kind inside mode is b ≡ Some (auditor (item n kind inside ∷ is) mode (n + 1))
begins n kind inside mode is b le = ap (λ c. if c then Some (auditor (item n kind inside ∷ is) mode (n + 1)) else None) (le-leb b n le)

-- an event that begins the next number
pub tells_begin : (events : List Event) (e : Event) (n : ℕ) (kind : Kind) (inside : List ℕ) (is : List Item) (mode mode' : Mode) → ((b : ℕ) → accepts e (auditor is mode b) ≡ begun n kind inside mode' is b) → TellsOf events n is mode → TellsOf (events ++ e ∷ []) (n + 1) (item n kind inside ∷ is) mode'
tells_begin events e n kind inside is mode mode' same h =
    record {
      bound = n + 1;
      runs = tell events e (auditor is mode h.bound) (Some (auditor (item n kind inside ∷ is) mode' (n + 1))) h.runs (same h.bound ∙ begins n kind inside mode' is h.bound h.under);
      under = omega arith;
      ordered = (omega arith, ordered_later h.bound n is h.under h.ordered);
    }

-- the innermost ends, and this is what is left
pub tells_end : (events : List Event) (next n : ℕ) (cut : Bool) (kind : Kind) (inside : List ℕ) (is : List Item) (mode' : Mode) → ((b : ℕ) → ends kind cut is b ≡ Some (auditor is mode' b)) → TellsOf events next (item n kind inside ∷ is) Calm → TellsOf (events ++ End n cut ∷ []) next is mode'
tells_end events next n cut kind inside is mode' same h =
    tells_on events (End n cut) next (item n kind inside ∷ is) is Calm mode' (λ b. here n _ _ ∙ same b) (λ b o. ordered_later n b is (omega (arith, o.0)) o.1) h
