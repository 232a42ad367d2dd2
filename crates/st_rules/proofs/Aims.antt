-- What is asked of a use of a rule, and of the frame in which an expression stands.
use Rattle.std.proofs.Common.{◌≡◌, ℕ, ◌+◌, ◌<◌, inr, List, [], ◌∷◌, Option, Some, None, Bool, true, false, refl, sym, ap, arith}
use Rattle.object_heap.specs.declared.value.Value.{Value}
use Rattle.object_heap.specs.declared.value.Value.TheVariants.{Object}
use Rattle.object_heap.specs.declared.value.Closure.{Closure}
use Rattle.object_heap.specs.Store.{Store, Scope, with_variable}
use Rattle.st_code.specs.Program.{Program, Place, Scoped, Slot, ClassSlot, Shared}
use Rattle.st_collections.specs.Actions.{Visit, Applies, Compares, Finishes, Lacks, Charges}
use Rattle.st_rules.specs.State.{State, Entry, Env, Target, Outcome, Answer, Go, Mark, BodyMark, Frame, number_of_mark, scope_up, with_scoped_variable}
use Rattle.st_rules.specs.Ends.{write_place, with_self_slot, Search, Purpose, ForSignal, ForPass, ForOuter, ForNested, turn_for, asks_nested}
use Rattle.st_rules.specs.Rules.{Use, Apply, Activate, Enter, SendTo, SuperTo, Perform, Raise, RaiseNew, SignalPoint, Resignaled, SearchIn, TurnBy, Ask, Protect, Finish, VisitBy, RunBody}
use Rattle.st_rules.proofs.Flattening.{VisitHolds}
use Rattle.st_rules.specs.Unwindings.{In, IsBody, IsPoint, IsSource}
use Rattle.st_rules.proofs.Targets.{AimedAt, EnvOk, EntryOk, TurnOk, Under, HomeOk, NumberOk, turn_more}
use Rattle.st_rules.proofs.AimedActions.{ActionOk, There'}

-- ---- what is asked of a use

abbrev pub PurposeOk : Purpose → ℕ → List Mark → Type 0
PurposeOk ForSignal who s = In (IsPoint who) s × In (IsSource who) s
PurposeOk (ForPass t) who s = TurnOk t s
PurposeOk (ForOuter t point) who s = TurnOk t s × In (IsPoint point) s
PurposeOk ForNested who s = Unit {0}

pub record SearchOk (x : Search) (s : List Mark) : Type 0 where
  pub whole : EnvOk x.whole s
  pub purpose : PurposeOk x.purpose x.who s

abbrev pub VisitOk : List Closure → Visit → Type 0
VisitOk cs (Charges n t v) = (t.closures ≡ cs) × VisitOk cs v
VisitOk cs v = Unit {0}

pub visit_ok : (p : Program) (cs : List Closure) (ss : List Scope) (v : Visit) → VisitHolds p cs ss v → VisitOk cs v
visit_ok p cs ss (Applies l v args) h = tt
visit_ok p cs ss (Compares l r v) h = tt
visit_ok p cs ss (Finishes v) h = tt
visit_ok p cs ss (Lacks l) h = tt
visit_ok p cs ss (Charges n t v) h = (sym (ap (λ (x : Store). x.closures) h.0), visit_ok p cs ss v h.1)

pub record BodyOk (own home : ℕ) (env : Env) (s : List Mark) (next : ℕ) : Type 0 where
  pub env_ok : EnvOk env s
  pub above : Under own s
  pub own_taken : own < next
  pub home_ok : HomeOk home (BodyMark own ∷ s)
  pub home_taken : home < next

abbrev pub UseOk : List Mark → ℕ → List Closure → Use → Type 0
UseOk s next cs (Apply v args env) = EnvOk env s
UseOk s next cs (Activate c args env) = EnvOk env s × HomeOk c.home s × (c.home < next)
UseOk s next cs (Enter code r args env) = EnvOk env s
UseOk s next cs (SendTo selector r args env) = EnvOk env s
UseOk s next cs (SuperTo class selector r args env) = EnvOk env s
UseOk s next cs (Perform a env) = EnvOk env s × ActionOk s next cs a
UseOk s next cs (Raise e env) = EnvOk env s
UseOk s next cs (RaiseNew class slots env) = EnvOk env s
UseOk s next cs (SignalPoint n e env) = EnvOk env s × NumberOk n s next cs
UseOk s next cs (Resignaled n e f env) = EnvOk env s × NumberOk n s next cs
UseOk s next cs (SearchIn x rest) = EnvOk rest s × SearchOk x s
UseOk s next cs (TurnBy x entry outside) = EntryOk entry s × EnvOk outside s × SearchOk x s
UseOk s next cs (Ask w k t env) = EnvOk env s × TurnOk t s
UseOk s next cs (Protect receiver entry env) = EnvOk env s × NumberOk entry.number s next cs
UseOk s next cs (Finish n block held env) = EnvOk env s × NumberOk n s next cs × AimedAt held s
UseOk s next cs (VisitBy n v env) = EnvOk env s × NumberOk n s next cs × VisitOk cs v
UseOk s next cs (RunBody f env) = BodyOk f.own f.home env s next

pub record FrameOk (f : Frame) (s : List Mark) (next : ℕ) : Type 0 where
  pub home_ok : HomeOk f.home s
  pub home_taken : f.home < next
  pub own_stands : In (IsBody f.own) s

pub fresh_home : (n : ℕ) (s : List Mark) → Under n s → HomeOk n s
fresh_home n [] h = tt
fresh_home n (m ∷ s) h = (λ e. let none : ⊥ = omega (arith, e, h.0) in absurd none, fresh_home n s h.1)

-- a turn that a search begins
pub turn_begun : (exception who : ℕ) (whole : Env) (q : Purpose) (entry : Option Entry) (outside : Env) (s : List Mark) → PurposeOk q who s → EntryOk entry s → EnvOk outside s → asks_nested (record { exception = exception; who = who; whole = whole; purpose = q }) ≡ false → TurnOk (turn_for (record { exception = exception; who = who; whole = whole; purpose = q }) entry outside) s
turn_begun exception who whole ForSignal entry outside s q e o n = record { entry = e; outside = o; resume = q.0; signal = q.1 }
turn_begun exception who whole (ForPass t) entry outside s q e o n = record { entry = e; outside = o; resume = q.resume; signal = q.signal }
turn_begun exception who whole (ForOuter t point) entry outside s q e o n = record { entry = e; outside = o; resume = q.1; signal = q.0.signal }
turn_begun exception who whole ForNested entry outside s q e o n = let none : ⊥ = grind (arith, n) in absurd none

pub purpose_more : (q : Purpose) (who : ℕ) (m : Mark) (s : List Mark) → PurposeOk q who s → PurposeOk q who (m ∷ s)
purpose_more ForSignal who m s h = (inr h.0, inr h.1)
purpose_more (ForPass t) who m s h = turn_more t m s h
purpose_more (ForOuter t point) who m s h = (turn_more t m s h.0, inr h.1)
purpose_more ForNested who m s h = tt

-- behind one more that stands, whose number is newer
pub there_more : (o : Option Closure) (m : Mark) (s : List Mark) (next : ℕ) → number_of_mark m ≡ next → There' o s next → There' o (m ∷ s) (next + 1)
there_more None m s next e h = tt
there_more (Some c) m s next e h = ((λ x. let none : ⊥ = omega (arith, e, x, h.1) in absurd none, h.0), omega (arith, h.1))

-- what a default action's value is
abbrev pub if_default : Bool → ℕ → Value → Outcome
if_default true resume v = Answer v
if_default false resume v = Go (Target.Resume resume) v

-- a write leaves the closures and the next number as they are
abbrev set_at : Option ℕ → ℕ → Value → Store → Store
set_at None index v t = t
set_at (Some scope) index v t = with_variable scope index v t

scope_kept : (o : Option ℕ) (index : ℕ) (v : Value) (t : Store) → (set_at o index v t).closures ≡ t.closures
scope_kept None index v t = refl
scope_kept (Some m) index v t = refl

self_kept : (self : Value) (index : ℕ) (v : Value) (t : Store) → (with_self_slot self index v t).closures ≡ t.closures
self_kept (Object m) index v t = refl
self_kept w index v t = refl

pub place_kept : (p : Program) (f : Frame) (st : State) (place : Place) (v : Value) → ((write_place p f st place v).store.closures ≡ st.store.closures) × ((write_place p f st place v).next ≡ st.next)
unfolding write_place with_scoped_variable
place_kept p f st (Scoped up index) v = (scope_kept (scope_up st.store up f.scope) index v st.store, refl)
place_kept p f st (Slot index) v = (self_kept f.self index v st.store, refl)
place_kept p f st (ClassSlot index) v = (refl, refl)
place_kept p f st (Shared index) v = (refl, refl)
