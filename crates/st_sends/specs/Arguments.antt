-- How many arguments come with a send: as many as its selector takes.
use Rattle.std.specs.Prelude.{◌≡◌, ◌⊎◌, ℕ, ◌≤◌, max, [], length}
use Rattle.st_code.specs.Texts.{arity}
use Rattle.st_code.specs.Program.{Program, body_at, name_at}
use Rattle.st_code.specs.declared.instruction.Instruction.{Instruction}
use Rattle.st_code.specs.declared.instruction.Instruction.TheVariants.{Send, SuperSend}
use Rattle.st_code.specs.Compiled.{compile_of}
use Rattle.st_collections.specs.Actions.{Action, Begins, Activates, Sends, Enters, Iterates, RaisesNew, LoopState, Visit, Applies, Compares, Finishes, Lacks, Charges}
use Rattle.st_rules.specs.Flat.{code_at}
use Rattle.st_rules.specs.Objects.{AllIn}

-- so many arguments are as many as the selector takes, or the number names no selector
abbrev pub Takes : Program → (selector count : ℕ) → Type 0
Takes p selector count = (count ≡ arity (name_at p selector)) ⊎ (name_at p selector ≡ [])

-- a send that code makes
abbrev pub SendTakes : Program → Instruction → Type 0
SendTakes p (Send selector count) = Takes p selector count
SendTakes p (SuperSend selector count) = Takes p selector count
SendTakes p i = Unit {0}

-- each send of a program's code has as many arguments as its selector takes
pub record KnowsSelectors (p : Program) : Type 0 where
  pub sends : (code : ℕ) → AllIn (SendTakes p) (code_at (compile_of p) code).instructions

-- a loop has at most three arguments
abbrev pub IsShort : LoopState → Type 0
IsShort l = length l.arguments ≤ 3

-- what an action passes on, where so many arguments came with its message; to another send no more than its selector takes, also where the number names none
abbrev pub ActionPasses : Program → ℕ → Action → Type 0
ActionPasses p n (Begins v args) = length args ≤ 2
ActionPasses p n (Activates c args) = length args ≡ (body_at p c.code).parameters
ActionPasses p n (Sends selector r args) = Takes p selector (length args) × (length args ≤ arity (name_at p selector))
ActionPasses p n (Enters code r args) = length args ≤ n
ActionPasses p n (Iterates l) = IsShort l
ActionPasses p n (RaisesNew class slots) = length slots ≤ max 3 n
ActionPasses p n a = Unit {0}

-- what a visit passes on
abbrev pub VisitPasses : Visit → Type 0
VisitPasses (Applies l v args) = IsShort l × (length args ≤ 2)
VisitPasses (Compares l r v) = IsShort l
VisitPasses (Finishes v) = Unit {0}
VisitPasses (Lacks l) = IsShort l
VisitPasses (Charges cells s v) = VisitPasses v
