-- What is claimed of unwindings: at each moment the target of one that is in hand stands, or it is the end of the program.
use Rattle.std.specs.Prelude.{◌≡◌, ℕ, ◌⊎◌, List, [], ◌∷◌, Option}
use Rattle.object_heap.specs.declared.value.Value.{Value}
use Rattle.st_code.specs.Program.{Program, Initializer}
use Rattle.st_rules.specs.State.{State, Target, Home, Protected, Retry, RetryWith, Resume, Resignal, Terminate, Go, Mark, BodyMark, ProtectMark, SignalMark, OuterMark}
use Rattle.st_rules.specs.Machine.{Act, Settle, Bodies, marks}
use Rattle.st_rules.specs.Scoped.{scoped}
use Rattle.st_rules.specs.Turns.{On, opened_run, top_iter}
use Rattle.st_rules.specs.Compilable.{Compilable}
use Rattle.st_rules.specs.Flattened.{flat_of}

-- one of the marks is so
abbrev pub In : (Mark → Type 0) → List Mark → Type 0
In P [] = ⊥
In P (m ∷ s) = P m ⊎ In P s

-- what takes a return: the body of this number
abbrev pub IsBody : ℕ → Mark → Type 0
IsBody n (BodyMark m) = n ≡ m
IsBody n _ = ⊥

-- what takes a handler's value and a retry: the `on:do:` of this number
abbrev pub IsProtect : ℕ → Mark → Type 0
IsProtect n (ProtectMark m) = n ≡ m
IsProtect n _ = ⊥

-- what takes a resumption: the signal or outer point of this number
abbrev pub IsPoint : ℕ → Mark → Type 0
IsPoint n (SignalMark m e) = n ≡ m
IsPoint n (OuterMark m) = n ≡ m
IsPoint n _ = ⊥

-- what takes the signal of another exception in its place: the signal of this number
abbrev pub IsSource : ℕ → Mark → Type 0
IsSource n (SignalMark m e) = n ≡ m
IsSource n _ = ⊥

-- the target is among what stands, or it is the end of the program
abbrev pub Stands : Target → List Mark → Type 0
Stands (Home n) s = In (IsBody n) s
Stands (Protected n) s = In (IsProtect n) s
Stands (Retry n) s = In (IsProtect n) s
Stands (RetryWith n) s = In (IsProtect n) s
Stands (Resume n) s = In (IsPoint n) s
Stands (Resignal n f) s = In (IsSource n) s
Stands Terminate s = Unit {0}

-- after any number of small steps of a machine, each unwinding that is in hand has its target among what stands
abbrev pub TargetsStand : {B : Type 0} → Bodies B → Program → Type 0
TargetsStand {B} b p =
    (n : ℕ) (variable : Option ℕ) (xs : List Initializer) (t : Target) (v : Value) (acts : List (Act B)) (st : State) →
    top_iter b p n (opened_run b p) ≡ On variable xs (Settle (Go t v) acts st) → Stands t (marks b.number acts)

-- so it is on the scoped machine, whose small steps are the uses of the rules
abbrev pub ScopedTargetsStand : Type 0
ScopedTargetsStand = (p : Program) → TargetsStand (scoped p) p

-- and on the flat one, on a compilable program
abbrev pub FlatTargetsStand : Type 0
FlatTargetsStand = (p : Program) → Compilable p → TargetsStand (flat_of p) p
