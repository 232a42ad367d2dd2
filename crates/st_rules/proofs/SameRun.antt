-- The flat machine's run of a compiled program is the rules' run, by the laws of FlatTop.antt in both directions.
use Rattle.std.proofs.Common.{refl}
use Rattle.st_code.specs.Program.{Program}
use Rattle.st_code.specs.Definitions.{program_of}
use Rattle.st_rules.specs.Compilable.{Compilable}
use Rattle.st_rules.specs.Flattened.{flat_of}
use Rattle.st_rules.specs.Turns.{opened_run, instructions}
use Rattle.st_rules.specs.SameRun.{IsTheRun, FlatRunIsTheRulesRun}
use Rattle.st_rules.proofs.FlatTop.{flat_follows_the_rules, rules_follow_the_flat}
use Rattle.st_rules.proofs.SoundProgram.{programs_are_compilable}

is_the_run : (p : Program) → Compilable p → IsTheRun p
is_the_run p ok =
    record {
      of_the_rules = λ e st r.
          let f = flat_follows_the_rules p ok e st r in
          (f.1.state, instructions (flat_of p) p f.0 (opened_run (flat_of p) p), record { steps = f.0; leads = f.1.leads; counted = refl }, f.1.alike);
      of_the_machine = λ e st' count m. rules_follow_the_flat p ok m.steps e st' m.leads;
    }

pub flat_run_is_the_rules_run : FlatRunIsTheRulesRun
flat_run_is_the_rules_run names units limits = is_the_run (program_of names units limits) (programs_are_compilable names units limits)
