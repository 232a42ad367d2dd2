-- What is claimed of a run: at each small step a send in hand has as many arguments as its selector takes, and loops at most three.
use Rattle.std.specs.Prelude.{◌≡◌, ℕ, ◌≤◌, List, [], ◌∷◌, length}
use Rattle.object_heap.specs.declared.value.Value.{Value}
use Rattle.object_heap.specs.Store.{Store}
use Rattle.st_code.specs.Program.{Program, body_at}
use Rattle.st_rules.specs.Flat.{FlatBody}
use Rattle.st_rules.specs.Flattened.{flat_of}
use Rattle.st_rules.specs.Machine.{Act, LoopAct, Mach, Run, Settle, Begin, Over, Stuck}
use Rattle.st_rules.specs.Rules.{Use, Apply, Activate, SendTo, SuperTo, Perform, VisitBy}
use Rattle.st_rules.specs.Sends.{send_action, super_action}
use Rattle.st_rules.specs.Turns.{Top, On, Ended, opened_run, top_iter}
use Rattle.st_sends.specs.Arguments.{Takes, KnowsSelectors, IsShort, ActionPasses, VisitPasses}

module _ (p : Program) where
  abbrev pub UseFits : Use → Type 0
  UseFits (Apply v args env) = length args ≤ 2
  UseFits (Activate c args env) = length args ≡ (body_at p c.code).parameters
  UseFits (SendTo selector r args env) = Takes p selector (length args)
  UseFits (SuperTo class selector r args env) = Takes p selector (length args)
  UseFits (Perform a env) = (n : ℕ) × ActionPasses p n a
  UseFits (VisitBy n v env) = VisitPasses v
  UseFits u = Unit {0}

  abbrev pub ActFits : Act FlatBody → Type 0
  ActFits (LoopAct n l env) = IsShort l
  ActFits a = Unit {0}

  abbrev pub ActsFit : List (Act FlatBody) → Type 0
  ActsFit [] = Unit {0}
  ActsFit (a ∷ acts) = ActFits a × ActsFit acts

  abbrev pub MachFits : Mach FlatBody → Type 0
  MachFits (Run x acts st) = ActsFit acts
  MachFits (Settle o acts st) = ActsFit acts
  MachFits (Begin u acts st) = UseFits u × ActsFit acts
  MachFits (Over o st) = Unit {0}
  MachFits (Stuck st) = Unit {0}

  abbrev pub TopFits : Top FlatBody → Type 0
  TopFits (On target xs m) = MachFits m
  TopFits (Ended e st) = Unit {0}

-- at each small step
abbrev pub SendsFit : Type 0
SendsFit = (p : Program) → KnowsSelectors p → (n : ℕ) → TopFits p (top_iter (flat_of p) p n (opened_run (flat_of p) p))

-- ---- what a send passes on

abbrev pub SendsPass : Type 0
SendsPass = (p : Program) (s : Store) (selector : ℕ) (r : Value) (args : List Value) → Takes p selector (length args) → ActionPasses p (length args) (send_action p s selector r args)

abbrev pub SuperSendsPass : Type 0
SuperSendsPass = (p : Program) (s : Store) (class : Value) (selector : ℕ) (r : Value) (args : List Value) → Takes p selector (length args) → ActionPasses p (length args) (super_action p s class selector r args)
