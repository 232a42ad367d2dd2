-- Where unwindings go: what of all that stands takes each target, and what holds of turns, environments and homes.
use Rattle.std.proofs.Common.{◌≡◌, ℕ, ◌+◌, ◌<◌, ◌≤◌, inl, inr, List, [], ◌∷◌, ◌++◌, Option, Some, None, Bool, true, false, refl, sym, subst, arith, eq-eqb, eqb-true, true≢false, nat_eq, if◌then◌else◌}
use Rattle.object_heap.specs.declared.value.Value.{Value}
use Rattle.object_heap.specs.declared.value.Closure.{Closure}
use Rattle.st_rules.specs.State.{Entry, Env, Target, Home, Protected, Retry, RetryWith, Resume, Resignal, Terminate, Outcome, Answer, Go, Stop, Turn, Mark, BodyMark, ProtectMark, ActionMark, LoopMark, WaitMark, OuterMark, SignalMark, TurnMark, number_of_mark, Frame, stands, FoundTurn, NoTurn, TurnAt, turn_of}
use Rattle.st_rules.specs.Unwindings.{In, IsBody, IsProtect, IsPoint, IsSource, Stands}
use Rattle.st_rules.specs.Ends.{body_end, outer_end, SignalVerdict, Ends, Signals, signal_end, Verdict, Leaves, Again, protect_end}

abbrev pub AimedAt : Outcome → List Mark → Type 0
AimedAt (Answer v) s = Unit {0}
AimedAt (Go t v) s = Stands t s
AimedAt (Stop l) s = Unit {0}

abbrev pub EnvOk : Env → List Mark → Type 0
EnvOk [] s = Unit {0}
EnvOk (e ∷ env) s = In (IsProtect e.number) s × EnvOk env s

abbrev pub EntryOk : Option Entry → List Mark → Type 0
EntryOk None s = Unit {0}
EntryOk (Some e) s = In (IsProtect e.number) s

pub record TurnOk (t : Turn) (s : List Mark) : Type 0 where
  pub entry : EntryOk t.entry s
  pub outside : EnvOk t.outside s
  pub resume : In (IsPoint t.resume_point) s
  pub signal : In (IsSource t.signal) s

abbrev pub MarkOk : Mark → List Mark → Type 0
MarkOk (TurnMark n t) s = TurnOk t s
MarkOk (BodyMark n) s = Unit {0}
MarkOk (ProtectMark n) s = Unit {0}
MarkOk (ActionMark n) s = Unit {0}
MarkOk (LoopMark n) s = Unit {0}
MarkOk (WaitMark n) s = Unit {0}
MarkOk (OuterMark n) s = Unit {0}
MarkOk (SignalMark n e) s = Unit {0}

-- each turn's numbers stand further out
abbrev pub Sound : List Mark → Type 0
Sound [] = Unit {0}
Sound (m ∷ s) = MarkOk m s × Sound s

-- all numbers are below
abbrev pub Under : ℕ → List Mark → Type 0
Under b [] = Unit {0}
Under b (m ∷ s) = (number_of_mark m < b) × Under b s

-- what has this number is a body
abbrev pub HomeOk : ℕ → List Mark → Type 0
HomeOk h [] = Unit {0}
HomeOk h (m ∷ s) = (number_of_mark m ≡ h → IsBody h m) × HomeOk h s

abbrev pub HomesOk : List Mark → ℕ → List Closure → Type 0
HomesOk s b [] = Unit {0}
HomesOk s b (c ∷ cs) = (HomeOk c.home s × (c.home < b)) × HomesOk s b cs

-- what holds of all that stands, of the next number and of the closures that are there
pub record Ok (s : List Mark) (next : ℕ) (cs : List Closure) : Type 0 where
  pub sound : Sound s
  pub under : Under next s
  pub homes : HomesOk s next cs

-- no closure has this number for its home
abbrev pub Apart : ℕ → List Closure → Type 0
Apart n [] = Unit {0}
Apart n (c ∷ cs) = (n ≡ c.home → ⊥) × Apart n cs

-- a number that something above all that stands has, or had
pub record NumberOk (n : ℕ) (s : List Mark) (next : ℕ) (cs : List Closure) : Type 0 where
  pub above : Under n s
  pub taken : n < next
  pub apart : Apart n cs

-- ---- with one more that stands

pub env_more : (env : Env) (m : Mark) (s : List Mark) → EnvOk env s → EnvOk env (m ∷ s)
env_more [] m s h = tt
env_more (e ∷ env) m s h = (inr h.0, env_more env m s h.1)

pub entry_more : (o : Option Entry) (m : Mark) (s : List Mark) → EntryOk o s → EntryOk o (m ∷ s)
entry_more None m s h = tt
entry_more (Some e) m s h = inr h

pub turn_more : (t : Turn) (m : Mark) (s : List Mark) → TurnOk t s → TurnOk t (m ∷ s)
turn_more t m s h = record { entry = entry_more t.entry m s h.entry; outside = env_more t.outside m s h.outside; resume = inr h.resume; signal = inr h.signal }

pub under_more : (a b : ℕ) (s : List Mark) → a ≤ b → Under a s → Under b s
under_more a b [] le h = tt
under_more a b (m ∷ s) le h = (omega (arith, h.0, le), under_more a b s le h.1)

pub homes_later : (s : List Mark) (a b : ℕ) (cs : List Closure) → a ≤ b → HomesOk s a cs → HomesOk s b cs
homes_later s a b [] le h = tt
homes_later s a b (c ∷ cs) le h = ((h.0.0, omega (arith, h.0.1, le)), homes_later s a b cs le h.1)

homes_above : (m : Mark) (s : List Mark) (b : ℕ) (cs : List Closure) → Apart (number_of_mark m) cs → HomesOk s b cs → HomesOk (m ∷ s) b cs
homes_above m s b [] a h = tt
homes_above m s b (c ∷ cs) a h = (((λ e. absurd (a.0 e), h.0.0), h.0.1), homes_above m s b cs a.1 h.1)

pub apart_next : (s : List Mark) (b : ℕ) (cs : List Closure) → HomesOk s b cs → Apart b cs
apart_next s b [] h = tt
apart_next s b (c ∷ cs) h = (λ e. omega (arith, e, h.0.1), apart_next s b cs h.1)

homes_body : (n : ℕ) (s : List Mark) (b : ℕ) (cs : List Closure) → HomesOk s b cs → HomesOk (BodyMark n ∷ s) b cs
homes_body n s b [] h = tt
homes_body n s b (c ∷ cs) h = (((λ e. sym e, h.0.0), h.0.1), homes_body n s b cs h.1)

homes_drop : (m : Mark) (s : List Mark) (b : ℕ) (cs : List Closure) → HomesOk (m ∷ s) b cs → HomesOk s b cs
homes_drop m s b [] h = tt
homes_drop m s b (c ∷ cs) h = ((h.0.0.1, h.0.1), homes_drop m s b cs h.1)

pub homes_new : (s : List Mark) (b : ℕ) (cs : List Closure) (c : Closure) → HomesOk s b cs → HomeOk c.home s → c.home < b → HomesOk s b (cs ++ c ∷ [])
homes_new s b [] c h i l = ((i, l), tt)
homes_new s b (d ∷ cs) c h i l = (h.0, homes_new s b cs c h.1 i l)

pub ok_later : (s : List Mark) (a b : ℕ) (cs : List Closure) → a ≤ b → Ok s a cs → Ok s b cs
ok_later s a b cs le h = record { sound = h.sound; under = under_more a b s le h.under; homes = homes_later s a b cs le h.homes }

-- something with a number that is its own is pushed
pub ok_push : (m : Mark) (s : List Mark) (next : ℕ) (cs : List Closure) → Ok s next cs → NumberOk (number_of_mark m) s next cs → MarkOk m s → Ok (m ∷ s) next cs
ok_push m s next cs h n i = record { sound = (i, h.sound); under = (n.taken, h.under); homes = homes_above m s next cs n.apart h.homes }

pub ok_body : (n : ℕ) (s : List Mark) (next : ℕ) (cs : List Closure) → Ok s next cs → n < next → Ok (BodyMark n ∷ s) next cs
ok_body n s next cs h l = record { sound = (tt, h.sound); under = (l, h.under); homes = homes_body n s next cs h.homes }

pub ok_drop : (m : Mark) (s : List Mark) (next : ℕ) (cs : List Closure) → Ok (m ∷ s) next cs → Ok s next cs
ok_drop m s next cs h = record { sound = h.sound.1; under = h.under.1; homes = homes_drop m s next cs h.homes }

-- the next number
pub number_next : (s : List Mark) (next : ℕ) (cs : List Closure) → Ok s next cs → NumberOk next s (next + 1) cs
number_next s next cs h = record { above = h.under; taken = omega arith; apart = apart_next s next cs h.homes }

apart_of : (m : Mark) (s : List Mark) (b : ℕ) (cs : List Closure) → ((h : ℕ) → IsBody h m → ⊥) → HomesOk (m ∷ s) b cs → Apart (number_of_mark m) cs
apart_of m s b [] none h = tt
apart_of m s b (c ∷ cs) none h = (λ e. none c.home (h.0.0.0 e), apart_of m s b cs none h.1)

-- the number of what stood above, and isn't a body
pub number_again : (m : Mark) (s : List Mark) (next : ℕ) (cs : List Closure) → Ok (m ∷ s) next cs → Under (number_of_mark m) s → ((h : ℕ) → IsBody h m → ⊥) → NumberOk (number_of_mark m) s next cs
number_again m s next cs h above none = record { above = above; taken = h.under.0; apart = apart_of m s next cs none h.homes }

-- ---- the home of a block

other_way : {A : Type 0} → false ≡ true → A
other_way e = let none : ⊥ = true≢false (sym e) in absurd none

pub home_stands : (n : ℕ) (s : List Mark) → HomeOk n s → stands n s ≡ true → In (IsBody n) s
unfolding stands
home_stands n [] h e = other_way e
home_stands n (m ∷ s) h e = go (nat_eq n (number_of_mark m)) refl (home_stands n s h.1) e
  where
    go : (b : Bool) → nat_eq n (number_of_mark m) ≡ b → (stands n s ≡ true → In (IsBody n) s) → (if b then true else stands n s) ≡ true → In (IsBody n) (m ∷ s)
    go true x on y = inl (h.0 (sym (eqb-true n (number_of_mark m) x)))
    go false x on y = inr (on y)

-- ---- turns that stand

abbrev pub FoundOk : FoundTurn → List Mark → Type 0
FoundOk NoTurn s = Unit {0}
FoundOk (TurnAt n t) s = TurnOk t s

found_more : (f : FoundTurn) (m : Mark) (s : List Mark) → FoundOk f s → FoundOk f (m ∷ s)
found_more NoTurn m s h = tt
found_more (TurnAt n t) m s h = turn_more t m s h

pub turn_found : (e : ℕ) (s : List Mark) → Sound s → FoundOk (turn_of e s) s
unfolding turn_of
turn_found e [] h = tt
turn_found e (TurnMark n t ∷ s) h = go (nat_eq e t.exception) (turn_found e s h.1)
  where
    go : (b : Bool) → FoundOk (turn_of e s) s → FoundOk (if b then TurnAt n t else turn_of e s) (TurnMark n t ∷ s)
    go true f = turn_more t (TurnMark n t) s h.0
    go false f = found_more (turn_of e s) (TurnMark n t) s f
turn_found e (BodyMark n ∷ s) h = found_more (turn_of e s) (BodyMark n) s (turn_found e s h.1)
turn_found e (ProtectMark n ∷ s) h = found_more (turn_of e s) (ProtectMark n) s (turn_found e s h.1)
turn_found e (ActionMark n ∷ s) h = found_more (turn_of e s) (ActionMark n) s (turn_found e s h.1)
turn_found e (LoopMark n ∷ s) h = found_more (turn_of e s) (LoopMark n) s (turn_found e s h.1)
turn_found e (WaitMark n ∷ s) h = found_more (turn_of e s) (WaitMark n) s (turn_found e s h.1)
turn_found e (OuterMark n ∷ s) h = found_more (turn_of e s) (OuterMark n) s (turn_found e s h.1)
turn_found e (SignalMark n x ∷ s) h = found_more (turn_of e s) (SignalMark n x) s (turn_found e s h.1)

-- ---- outcomes at activations: what an activation doesn't take goes to what stands behind it

-- what takes nothing
abbrev pub Passes : Mark → Type 0
Passes m = (n : ℕ) → (IsBody n m → ⊥) × (IsProtect n m → ⊥) × (IsPoint n m → ⊥) × (IsSource n m → ⊥)

behind_it : (P : Mark → Type 0) (m : Mark) (s : List Mark) → (P m → ⊥) → In P (m ∷ s) → In P s
behind_it P m s none (inl x) = absurd (none x)
behind_it P m s none (inr y) = y

pub passed_on : (m : Mark) (t : Target) (s : List Mark) → Passes m → Stands t (m ∷ s) → Stands t s
passed_on m (Home n) s none h = behind_it (IsBody n) m s (none n).0 h
passed_on m (Protected n) s none h = behind_it (IsProtect n) m s (none n).1 h
passed_on m (Retry n) s none h = behind_it (IsProtect n) m s (none n).1 h
passed_on m (RetryWith n) s none h = behind_it (IsProtect n) m s (none n).1 h
passed_on m (Resume n) s none h = behind_it (IsPoint n) m s (none n).2 h
passed_on m (Resignal n f) s none h = behind_it (IsSource n) m s (none n).3 h
passed_on m Terminate s none h = tt

-- an outcome that is taken by this number, or goes on
taken_or : (P : ℕ → Mark → Type 0) (n m : ℕ) (s : List Mark) (mark : Mark) (a b : Outcome) → (P m mark → m ≡ n) → AimedAt a s → (In (P m) s → AimedAt b s) → In (P m) (mark ∷ s) → AimedAt (if nat_eq m n then a else b) s
taken_or P n m s mark a b one x on (inl e) = subst (λ c. AimedAt (if c then a else b) s) (sym (eq-eqb m n (one e))) x
taken_or P n m s mark a b one x on (inr y) = go (nat_eq m n)
  where
    go : (c : Bool) → AimedAt (if c then a else b) s
    go true = x
    go false = on y

pub body_ends : (f : Frame) (o : Outcome) (s : List Mark) → AimedAt o (BodyMark f.own ∷ s) → AimedAt (body_end f o) s
body_ends f (Answer v) s h = tt
body_ends f (Stop l) s h = tt
body_ends f (Go (Home m) v) s h = taken_or IsBody f.own m s (BodyMark f.own) (Answer v) (Go (Home m) v) (λ e. e) tt (λ y. y) h
body_ends f (Go (Protected m) v) s h = behind_it (IsProtect m) (BodyMark f.own) s (λ x. x) h
body_ends f (Go (Retry m) v) s h = behind_it (IsProtect m) (BodyMark f.own) s (λ x. x) h
body_ends f (Go (RetryWith m) v) s h = behind_it (IsProtect m) (BodyMark f.own) s (λ x. x) h
body_ends f (Go (Resume m) v) s h = behind_it (IsPoint m) (BodyMark f.own) s (λ x. x) h
body_ends f (Go (Resignal m e) v) s h = behind_it (IsSource m) (BodyMark f.own) s (λ x. x) h
body_ends f (Go Terminate v) s h = tt

pub outer_ends : (n : ℕ) (o : Outcome) (s : List Mark) → AimedAt o (OuterMark n ∷ s) → AimedAt (outer_end n o) s
outer_ends n (Answer v) s h = tt
outer_ends n (Stop l) s h = tt
outer_ends n (Go (Home m) v) s h = behind_it (IsBody m) (OuterMark n) s (λ x. x) h
outer_ends n (Go (Protected m) v) s h = behind_it (IsProtect m) (OuterMark n) s (λ x. x) h
outer_ends n (Go (Retry m) v) s h = behind_it (IsProtect m) (OuterMark n) s (λ x. x) h
outer_ends n (Go (RetryWith m) v) s h = behind_it (IsProtect m) (OuterMark n) s (λ x. x) h
outer_ends n (Go (Resume m) v) s h = taken_or IsPoint n m s (OuterMark n) (Answer v) (Go (Resume m) v) (λ e. e) tt (λ y. y) h
outer_ends n (Go (Resignal m e) v) s h = behind_it (IsSource m) (OuterMark n) s (λ x. x) h
outer_ends n (Go Terminate v) s h = tt

-- a verdict that ends in an outcome that is aimed
abbrev pub SignalAimed : SignalVerdict → List Mark → Type 0
SignalAimed (Ends o) s = AimedAt o s
SignalAimed (Signals f) s = Unit {0}

signal_taken : (P : ℕ → Mark → Type 0) (n m : ℕ) (s : List Mark) (mark : Mark) (a b : SignalVerdict) → (P m mark → m ≡ n) → SignalAimed a s → (In (P m) s → SignalAimed b s) → In (P m) (mark ∷ s) → SignalAimed (if nat_eq m n then a else b) s
signal_taken P n m s mark a b one x on (inl e) = subst (λ c. SignalAimed (if c then a else b) s) (sym (eq-eqb m n (one e))) x
signal_taken P n m s mark a b one x on (inr y) = go (nat_eq m n)
  where
    go : (c : Bool) → SignalAimed (if c then a else b) s
    go true = x
    go false = on y

pub signal_ends : (n e : ℕ) (o : Outcome) (s : List Mark) → AimedAt o (SignalMark n e ∷ s) → SignalAimed (signal_end n o) s
signal_ends n e (Answer v) s h = tt
signal_ends n e (Stop l) s h = tt
signal_ends n e (Go (Home m) v) s h = behind_it (IsBody m) (SignalMark n e) s (λ x. x) h
signal_ends n e (Go (Protected m) v) s h = behind_it (IsProtect m) (SignalMark n e) s (λ x. x) h
signal_ends n e (Go (Retry m) v) s h = behind_it (IsProtect m) (SignalMark n e) s (λ x. x) h
signal_ends n e (Go (RetryWith m) v) s h = behind_it (IsProtect m) (SignalMark n e) s (λ x. x) h
signal_ends n e (Go (Resume m) v) s h = signal_taken IsPoint n m s (SignalMark n e) (Ends (Answer v)) (Ends (Go (Resume m) v)) (λ x. x) tt (λ y. y) h
signal_ends n e (Go (Resignal m f) v) s h = signal_taken IsSource n m s (SignalMark n e) (Signals f) (Ends (Go (Resignal m f) v)) (λ x. x) tt (λ y. y) h
signal_ends n e (Go Terminate v) s h = tt

abbrev pub ProtectAimed : Verdict → List Mark → Type 0
ProtectAimed (Leaves o) s = AimedAt o s
ProtectAimed (Again receiver) s = Unit {0}

protect_taken : (n m : ℕ) (s : List Mark) (a b : Verdict) → ProtectAimed a s → (In (IsProtect m) s → ProtectAimed b s) → In (IsProtect m) (ProtectMark n ∷ s) → ProtectAimed (if nat_eq m n then a else b) s
protect_taken n m s a b x on (inl e) = subst (λ c. ProtectAimed (if c then a else b) s) (sym (eq-eqb m n e)) x
protect_taken n m s a b x on (inr y) = go (nat_eq m n)
  where
    go : (c : Bool) → ProtectAimed (if c then a else b) s
    go true = x
    go false = on y

pub protect_ends : (n : ℕ) (receiver : Value) (o : Outcome) (s : List Mark) → AimedAt o (ProtectMark n ∷ s) → ProtectAimed (protect_end n receiver o) s
protect_ends n receiver (Answer v) s h = tt
protect_ends n receiver (Stop l) s h = tt
protect_ends n receiver (Go (Home m) v) s h = behind_it (IsBody m) (ProtectMark n) s (λ x. x) h
protect_ends n receiver (Go (Protected m) v) s h = protect_taken n m s (Leaves (Answer v)) (Leaves (Go (Protected m) v)) tt (λ y. y) h
protect_ends n receiver (Go (Retry m) v) s h = protect_taken n m s (Again receiver) (Leaves (Go (Retry m) v)) tt (λ y. y) h
protect_ends n receiver (Go (RetryWith m) v) s h = protect_taken n m s (Again v) (Leaves (Go (RetryWith m) v)) tt (λ y. y) h
protect_ends n receiver (Go (Resume m) v) s h = behind_it (IsPoint m) (ProtectMark n) s (λ x. x) h
protect_ends n receiver (Go (Resignal m e) v) s h = behind_it (IsSource m) (ProtectMark n) s (λ x. x) h
protect_ends n receiver (Go Terminate v) s h = tt
