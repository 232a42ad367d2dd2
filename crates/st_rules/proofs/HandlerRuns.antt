-- Runs with handlers, resumption, retry, pass, outer and resignal. Each is computed by the rules and by both machines.
use Rattle.std.proofs.Common.{[], ◌∷◌, ◌++◌, refl, true, false, Some, None, pos}
use Rattle.std.specs.Prelude.{codes}
use Rattle.object_heap.specs.declared.value.Value.TheVariants.{Nil, Integer, Class, Transcript, Object}
use Rattle.st_code.specs.Program.{Program, Scoped, Constant, Variable, Assign, Block, Send, no_trees, more_trees, Plain, Return, InMethod, InBlock, InInitializer, OfInstance, NoIndexes}
use Rattle.st_rules.specs.Events.{Event}
use Rattle.st_rules.specs.State.{StepLimit, DepthLimit, CellLimit}
use Rattle.st_code.specs.BuiltIns.{built_in_class_rows}
use Rattle.st_code.specs.Literals.{literal_string, trouble_literals}
use Rattle.st_rules.proofs.Computing.{Reports, computing, WasDone, WasUnhandled, WasAtLimit}

-- Global initializer!Transcript show: ([Error signal. 1] on: Error do: [:e | 7]) printString!
abbrev pub handled : Program
handled =
    record {
      names = (codes "value") ∷ (codes "value:") ∷ (codes "value:value:") ∷ (61 ∷ []) ∷ (codes "defaultAction") ∷ (codes "isResumable") ∷ (codes "handles:") ∷ (codes "doesNotUnderstand:") ∷ (codes "printString") ∷ (codes "signal") ∷ (codes "on:do:") ∷ (codes "show:") ∷ [];
      classes = built_in_class_rows;
      methods = [];
      bodies =
          record { kind = InInitializer; class = Class 1; parameters = 0; captured = []; outer = None; statements = Plain (Send 11 (Constant Transcript) (more_trees (Send 8 (Send 10 (Block 1) (more_trees (Constant (Class 24)) (more_trees (Block 2) no_trees))) no_trees) no_trees)) ∷ [] } ∷
          record { kind = InBlock; class = Class 1; parameters = 0; captured = []; outer = (Some 0); statements = Plain (Send 9 (Constant (Class 24)) no_trees) ∷ Plain (Constant (Integer (pos 1))) ∷ [] } ∷
          record { kind = InBlock; class = Class 1; parameters = 1; captured = false ∷ []; outer = (Some 0); statements = Plain (Constant (Integer (pos 7))) ∷ [] } ∷ [];
      initializers = record { code = 0; self = Nil; target = None } ∷ [];
      literals = trouble_literals;
      trouble_place = 0;
      variables = 0;
      step_limit = 10000000;
      depth_limit = 10000;
      cell_limit = 4194304;
    }

handled_runs : Reports handled 12 (record { ending = WasDone; transcript = 55 ∷ []; steps = 6; depth = 6; cells = 8; events = (Event.Protect 2) ∷ (Event.Signal 4) ∷ (Event.Search 4) ∷ (Event.Tried 2 true) ∷ (Event.Handle 5 2) ∷ (Event.End 5 true) ∷ (Event.End 4 true) ∷ (Event.End 2 false) ∷ [] })
unfolding computing
handled_runs = (refl, refl, refl)

-- Global initializer!Transcript show: ([(Warning signal: 'w') + 1] on: Warning do: [:e | e resume: 5]) printString!
abbrev pub resumed : Program
resumed =
    record {
      names = (codes "value") ∷ (codes "value:") ∷ (codes "value:value:") ∷ (61 ∷ []) ∷ (codes "defaultAction") ∷ (codes "isResumable") ∷ (codes "handles:") ∷ (codes "doesNotUnderstand:") ∷ (codes "printString") ∷ (codes "signal:") ∷ (43 ∷ []) ∷ (codes "resume:") ∷ (codes "on:do:") ∷ (codes "show:") ∷ [];
      classes = built_in_class_rows;
      methods = [];
      bodies =
          record { kind = InInitializer; class = Class 1; parameters = 0; captured = []; outer = None; statements = Plain (Send 13 (Constant Transcript) (more_trees (Send 8 (Send 12 (Block 1) (more_trees (Constant (Class 28)) (more_trees (Block 2) no_trees))) no_trees) no_trees)) ∷ [] } ∷
          record { kind = InBlock; class = Class 1; parameters = 0; captured = []; outer = (Some 0); statements = Plain (Send 10 (Send 9 (Constant (Class 28)) (more_trees (Constant (Object 0)) no_trees)) (more_trees (Constant (Integer (pos 1))) no_trees)) ∷ [] } ∷
          record { kind = InBlock; class = Class 1; parameters = 1; captured = false ∷ []; outer = (Some 0); statements = Plain (Send 11 (Variable (Scoped 0 0)) (more_trees (Constant (Integer (pos 5))) no_trees)) ∷ [] } ∷ [];
      initializers = record { code = 0; self = Nil; target = None } ∷ [];
      literals = (literal_string (119 ∷ []) ∷ []) ++ trouble_literals;
      trouble_place = 1;
      variables = 0;
      step_limit = 10000000;
      depth_limit = 10000;
      cell_limit = 4194304;
    }

resumed_runs : Reports resumed 17 (record { ending = WasDone; transcript = 54 ∷ []; steps = 9; depth = 7; cells = 8; events = (Event.Protect 2) ∷ (Event.Signal 4) ∷ (Event.Search 4) ∷ (Event.Tried 2 true) ∷ (Event.Handle 5 2) ∷ (Event.End 5 true) ∷ (Event.End 4 false) ∷ (Event.End 2 false) ∷ [] })
unfolding computing
resumed_runs = (refl, refl, refl)

-- Global initializer![[Error signal] ensure: [Transcript show: 'u']] on: Error do: [:e | Transcript show: 'h']!
abbrev pub unwound : Program
unwound =
    record {
      names = (codes "value") ∷ (codes "value:") ∷ (codes "value:value:") ∷ (61 ∷ []) ∷ (codes "defaultAction") ∷ (codes "isResumable") ∷ (codes "handles:") ∷ (codes "doesNotUnderstand:") ∷ (codes "printString") ∷ (codes "signal") ∷ (codes "show:") ∷ (codes "ensure:") ∷ (codes "on:do:") ∷ [];
      classes = built_in_class_rows;
      methods = [];
      bodies =
          record { kind = InInitializer; class = Class 1; parameters = 0; captured = []; outer = None; statements = Plain (Send 12 (Block 1) (more_trees (Constant (Class 24)) (more_trees (Block 4) no_trees))) ∷ [] } ∷
          record { kind = InBlock; class = Class 1; parameters = 0; captured = []; outer = (Some 0); statements = Plain (Send 11 (Block 2) (more_trees (Block 3) no_trees)) ∷ [] } ∷
          record { kind = InBlock; class = Class 1; parameters = 0; captured = []; outer = (Some 1); statements = Plain (Send 9 (Constant (Class 24)) no_trees) ∷ [] } ∷
          record { kind = InBlock; class = Class 1; parameters = 0; captured = []; outer = (Some 1); statements = Plain (Send 10 (Constant Transcript) (more_trees (Constant (Object 0)) no_trees)) ∷ [] } ∷
          record { kind = InBlock; class = Class 1; parameters = 1; captured = false ∷ []; outer = (Some 0); statements = Plain (Send 10 (Constant Transcript) (more_trees (Constant (Object 1)) no_trees)) ∷ [] } ∷ [];
      initializers = record { code = 0; self = Nil; target = None } ∷ [];
      literals = (literal_string (117 ∷ []) ∷ literal_string (104 ∷ []) ∷ []) ++ trouble_literals;
      trouble_place = 2;
      variables = 0;
      step_limit = 10000000;
      depth_limit = 10000;
      cell_limit = 4194304;
    }

unwound_runs : Reports unwound 18 (record { ending = WasDone; transcript = codes "hu"; steps = 9; depth = 8; cells = 10; events = (Event.Protect 2) ∷ (Event.Ensure 4) ∷ (Event.Signal 6) ∷ (Event.Search 6) ∷ (Event.Tried 2 true) ∷ (Event.Handle 7 2) ∷ (Event.End 7 true) ∷ (Event.End 6 true) ∷ (Event.Action 4) ∷ (Event.End 4 true) ∷ (Event.End 2 false) ∷ [] })
unfolding computing
unwound_runs = (refl, refl, refl)

-- Global initializer![[Error signal] ensure: [Transcript show: 'a']] ensure: [Transcript show: 'b']!
abbrev pub unhandled : Program
unhandled =
    record {
      names = (codes "value") ∷ (codes "value:") ∷ (codes "value:value:") ∷ (61 ∷ []) ∷ (codes "defaultAction") ∷ (codes "isResumable") ∷ (codes "handles:") ∷ (codes "doesNotUnderstand:") ∷ (codes "printString") ∷ (codes "signal") ∷ (codes "show:") ∷ (codes "ensure:") ∷ [];
      classes = built_in_class_rows;
      methods = [];
      bodies =
          record { kind = InInitializer; class = Class 1; parameters = 0; captured = []; outer = None; statements = Plain (Send 11 (Block 1) (more_trees (Block 4) no_trees)) ∷ [] } ∷
          record { kind = InBlock; class = Class 1; parameters = 0; captured = []; outer = (Some 0); statements = Plain (Send 11 (Block 2) (more_trees (Block 3) no_trees)) ∷ [] } ∷
          record { kind = InBlock; class = Class 1; parameters = 0; captured = []; outer = (Some 1); statements = Plain (Send 9 (Constant (Class 24)) no_trees) ∷ [] } ∷
          record { kind = InBlock; class = Class 1; parameters = 0; captured = []; outer = (Some 1); statements = Plain (Send 10 (Constant Transcript) (more_trees (Constant (Object 0)) no_trees)) ∷ [] } ∷
          record { kind = InBlock; class = Class 1; parameters = 0; captured = []; outer = (Some 0); statements = Plain (Send 10 (Constant Transcript) (more_trees (Constant (Object 1)) no_trees)) ∷ [] } ∷ [];
      initializers = record { code = 0; self = Nil; target = None } ∷ [];
      literals = (literal_string (97 ∷ []) ∷ literal_string (98 ∷ []) ∷ []) ++ trouble_literals;
      trouble_place = 2;
      variables = 0;
      step_limit = 10000000;
      depth_limit = 10000;
      cell_limit = 4194304;
    }

unhandled_runs : Reports unhandled 16 (record { ending = WasUnhandled (codes "Error") (codes "Error"); transcript = codes "ab"; steps = 10; depth = 7; cells = 10; events = (Event.Ensure 2) ∷ (Event.Ensure 4) ∷ (Event.Signal 6) ∷ (Event.Search 6) ∷ (Event.Default 7) ∷ (Event.End 7 true) ∷ (Event.End 6 true) ∷ (Event.Action 4) ∷ (Event.End 4 true) ∷ (Event.Action 2) ∷ (Event.End 2 true) ∷ [] })
unfolding computing
unhandled_runs = (refl, refl, refl)

-- Global initializer!Transcript show: ([[Warning signal] on: Warning do: [:e | e return: e outer + 1]] on: Warning do: [:e | e resume: 4]) printString!
abbrev pub outer_returned : Program
outer_returned =
    record {
      names = (codes "value") ∷ (codes "value:") ∷ (codes "value:value:") ∷ (61 ∷ []) ∷ (codes "defaultAction") ∷ (codes "isResumable") ∷ (codes "handles:") ∷ (codes "doesNotUnderstand:") ∷ (codes "printString") ∷ (codes "signal") ∷ (codes "outer") ∷ (43 ∷ []) ∷ (codes "return:") ∷ (codes "on:do:") ∷ (codes "resume:") ∷ (codes "show:") ∷ [];
      classes = built_in_class_rows;
      methods = [];
      bodies =
          record { kind = InInitializer; class = Class 1; parameters = 0; captured = []; outer = None; statements = Plain (Send 15 (Constant Transcript) (more_trees (Send 8 (Send 13 (Block 1) (more_trees (Constant (Class 28)) (more_trees (Block 4) no_trees))) no_trees) no_trees)) ∷ [] } ∷
          record { kind = InBlock; class = Class 1; parameters = 0; captured = []; outer = (Some 0); statements = Plain (Send 13 (Block 2) (more_trees (Constant (Class 28)) (more_trees (Block 3) no_trees))) ∷ [] } ∷
          record { kind = InBlock; class = Class 1; parameters = 0; captured = []; outer = (Some 1); statements = Plain (Send 9 (Constant (Class 28)) no_trees) ∷ [] } ∷
          record { kind = InBlock; class = Class 1; parameters = 1; captured = false ∷ []; outer = (Some 1); statements = Plain (Send 12 (Variable (Scoped 0 0)) (more_trees (Send 11 (Send 10 (Variable (Scoped 0 0)) no_trees) (more_trees (Constant (Integer (pos 1))) no_trees)) no_trees)) ∷ [] } ∷
          record { kind = InBlock; class = Class 1; parameters = 1; captured = false ∷ []; outer = (Some 0); statements = Plain (Send 14 (Variable (Scoped 0 0)) (more_trees (Constant (Integer (pos 4))) no_trees)) ∷ [] } ∷ [];
      initializers = record { code = 0; self = Nil; target = None } ∷ [];
      literals = trouble_literals;
      trouble_place = 0;
      variables = 0;
      step_limit = 10000000;
      depth_limit = 10000;
      cell_limit = 4194304;
    }

outer_returned_runs : Reports outer_returned 24 (record { ending = WasDone; transcript = 53 ∷ []; steps = 15; depth = 12; cells = 12; events = (Event.Protect 2) ∷ (Event.Protect 4) ∷ (Event.Signal 6) ∷ (Event.Search 6) ∷ (Event.Tried 4 true) ∷ (Event.Handle 7 4) ∷ (Event.Outer 10) ∷ (Event.Search 7) ∷ (Event.Tried 2 true) ∷ (Event.Handle 11 2) ∷ (Event.End 11 true) ∷ (Event.End 10 false) ∷ (Event.End 7 true) ∷ (Event.End 6 true) ∷ (Event.End 4 false) ∷ (Event.End 2 false) ∷ [] })
unfolding computing
outer_returned_runs = (refl, refl, refl)

-- Global initializer!Transcript show: ([[Warning signal + 10] on: Warning do: [:e | e pass. 0]] on: Warning do: [:e | e resume: 4]) printString!
abbrev pub passed : Program
passed =
    record {
      names = (codes "value") ∷ (codes "value:") ∷ (codes "value:value:") ∷ (61 ∷ []) ∷ (codes "defaultAction") ∷ (codes "isResumable") ∷ (codes "handles:") ∷ (codes "doesNotUnderstand:") ∷ (codes "printString") ∷ (codes "signal") ∷ (43 ∷ []) ∷ (codes "pass") ∷ (codes "on:do:") ∷ (codes "resume:") ∷ (codes "show:") ∷ [];
      classes = built_in_class_rows;
      methods = [];
      bodies =
          record { kind = InInitializer; class = Class 1; parameters = 0; captured = []; outer = None; statements = Plain (Send 14 (Constant Transcript) (more_trees (Send 8 (Send 12 (Block 1) (more_trees (Constant (Class 28)) (more_trees (Block 4) no_trees))) no_trees) no_trees)) ∷ [] } ∷
          record { kind = InBlock; class = Class 1; parameters = 0; captured = []; outer = (Some 0); statements = Plain (Send 12 (Block 2) (more_trees (Constant (Class 28)) (more_trees (Block 3) no_trees))) ∷ [] } ∷
          record { kind = InBlock; class = Class 1; parameters = 0; captured = []; outer = (Some 1); statements = Plain (Send 10 (Send 9 (Constant (Class 28)) no_trees) (more_trees (Constant (Integer (pos 10))) no_trees)) ∷ [] } ∷
          record { kind = InBlock; class = Class 1; parameters = 1; captured = false ∷ []; outer = (Some 1); statements = Plain (Send 11 (Variable (Scoped 0 0)) no_trees) ∷ Plain (Constant (Integer (pos 0))) ∷ [] } ∷
          record { kind = InBlock; class = Class 1; parameters = 1; captured = false ∷ []; outer = (Some 0); statements = Plain (Send 13 (Variable (Scoped 0 0)) (more_trees (Constant (Integer (pos 4))) no_trees)) ∷ [] } ∷ [];
      initializers = record { code = 0; self = Nil; target = None } ∷ [];
      literals = trouble_literals;
      trouble_place = 0;
      variables = 0;
      step_limit = 10000000;
      depth_limit = 10000;
      cell_limit = 4194304;
    }

passed_runs : Reports passed 23 (record { ending = WasDone; transcript = codes "14"; steps = 13; depth = 11; cells = 12; events = (Event.Protect 2) ∷ (Event.Protect 4) ∷ (Event.Signal 6) ∷ (Event.Search 6) ∷ (Event.Tried 4 true) ∷ (Event.Handle 7 4) ∷ (Event.Search 7) ∷ (Event.Tried 2 true) ∷ (Event.Handle 9 2) ∷ (Event.End 9 true) ∷ (Event.End 7 true) ∷ (Event.End 6 false) ∷ (Event.End 4 false) ∷ (Event.End 2 false) ∷ [] })
unfolding computing
passed_runs = (refl, refl, refl)

-- Global initializer!Transcript show: ([[Error signal + 1] on: Error do: [:e | e resignalAs: Warning new]] on: Warning do: [:w | w resume: 3]) printString!
abbrev pub resignaled : Program
resignaled =
    record {
      names = (codes "value") ∷ (codes "value:") ∷ (codes "value:value:") ∷ (61 ∷ []) ∷ (codes "defaultAction") ∷ (codes "isResumable") ∷ (codes "handles:") ∷ (codes "doesNotUnderstand:") ∷ (codes "printString") ∷ (codes "signal") ∷ (43 ∷ []) ∷ (codes "new") ∷ (codes "resignalAs:") ∷ (codes "on:do:") ∷ (codes "resume:") ∷ (codes "show:") ∷ [];
      classes = built_in_class_rows;
      methods = [];
      bodies =
          record { kind = InInitializer; class = Class 1; parameters = 0; captured = []; outer = None; statements = Plain (Send 15 (Constant Transcript) (more_trees (Send 8 (Send 13 (Block 1) (more_trees (Constant (Class 28)) (more_trees (Block 4) no_trees))) no_trees) no_trees)) ∷ [] } ∷
          record { kind = InBlock; class = Class 1; parameters = 0; captured = []; outer = (Some 0); statements = Plain (Send 13 (Block 2) (more_trees (Constant (Class 24)) (more_trees (Block 3) no_trees))) ∷ [] } ∷
          record { kind = InBlock; class = Class 1; parameters = 0; captured = []; outer = (Some 1); statements = Plain (Send 10 (Send 9 (Constant (Class 24)) no_trees) (more_trees (Constant (Integer (pos 1))) no_trees)) ∷ [] } ∷
          record { kind = InBlock; class = Class 1; parameters = 1; captured = false ∷ []; outer = (Some 1); statements = Plain (Send 12 (Variable (Scoped 0 0)) (more_trees (Send 11 (Constant (Class 28)) no_trees) no_trees)) ∷ [] } ∷
          record { kind = InBlock; class = Class 1; parameters = 1; captured = false ∷ []; outer = (Some 0); statements = Plain (Send 14 (Variable (Scoped 0 0)) (more_trees (Constant (Integer (pos 3))) no_trees)) ∷ [] } ∷ [];
      initializers = record { code = 0; self = Nil; target = None } ∷ [];
      literals = trouble_literals;
      trouble_place = 0;
      variables = 0;
      step_limit = 10000000;
      depth_limit = 10000;
      cell_limit = 4194304;
    }

resignaled_runs : Reports resignaled 25 (record { ending = WasDone; transcript = 52 ∷ []; steps = 14; depth = 10; cells = 14; events = (Event.Protect 2) ∷ (Event.Protect 4) ∷ (Event.Signal 6) ∷ (Event.Search 6) ∷ (Event.Tried 4 true) ∷ (Event.Handle 7 4) ∷ (Event.End 7 true) ∷ (Event.Signal 9) ∷ (Event.Search 9) ∷ (Event.Tried 4 false) ∷ (Event.Tried 2 true) ∷ (Event.Handle 10 2) ∷ (Event.End 10 true) ∷ (Event.End 9 false) ∷ (Event.End 6 false) ∷ (Event.End 4 false) ∷ (Event.End 2 false) ∷ [] })
unfolding computing
resignaled_runs = (refl, refl, refl)

-- Global initializer!| n | n := 0. [[n := n + 1. n < 3 ifTrue: [Error signal]. n] ensure: [Transcript show: 'x']] on: Error do: [:e | e retry]. Transcript show: n printString!
abbrev pub retried : Program
retried =
    record {
      names = (codes "value") ∷ (codes "value:") ∷ (codes "value:value:") ∷ (61 ∷ []) ∷ (codes "defaultAction") ∷ (codes "isResumable") ∷ (codes "handles:") ∷ (codes "doesNotUnderstand:") ∷ (codes "printString") ∷ (43 ∷ []) ∷ (60 ∷ []) ∷ (codes "signal") ∷ (codes "ifTrue:") ∷ (codes "show:") ∷ (codes "ensure:") ∷ (codes "retry") ∷ (codes "on:do:") ∷ [];
      classes = built_in_class_rows;
      methods = [];
      bodies =
          record { kind = InInitializer; class = Class 1; parameters = 0; captured = true ∷ []; outer = None; statements = Plain (Assign (Scoped 0 0) (Constant (Integer (pos 0)))) ∷ Plain (Send 16 (Block 1) (more_trees (Constant (Class 24)) (more_trees (Block 5) no_trees))) ∷ Plain (Send 13 (Constant Transcript) (more_trees (Send 8 (Variable (Scoped 0 0)) no_trees) no_trees)) ∷ [] } ∷
          record { kind = InBlock; class = Class 1; parameters = 0; captured = []; outer = (Some 0); statements = Plain (Send 14 (Block 2) (more_trees (Block 4) no_trees)) ∷ [] } ∷
          record { kind = InBlock; class = Class 1; parameters = 0; captured = []; outer = (Some 1); statements = Plain (Assign (Scoped 2 0) (Send 9 (Variable (Scoped 2 0)) (more_trees (Constant (Integer (pos 1))) no_trees))) ∷ Plain (Send 12 (Send 10 (Variable (Scoped 2 0)) (more_trees (Constant (Integer (pos 3))) no_trees)) (more_trees (Block 3) no_trees)) ∷ Plain (Variable (Scoped 2 0)) ∷ [] } ∷
          record { kind = InBlock; class = Class 1; parameters = 0; captured = []; outer = (Some 2); statements = Plain (Send 11 (Constant (Class 24)) no_trees) ∷ [] } ∷
          record { kind = InBlock; class = Class 1; parameters = 0; captured = []; outer = (Some 1); statements = Plain (Send 13 (Constant Transcript) (more_trees (Constant (Object 0)) no_trees)) ∷ [] } ∷
          record { kind = InBlock; class = Class 1; parameters = 1; captured = false ∷ []; outer = (Some 0); statements = Plain (Send 15 (Variable (Scoped 0 0)) no_trees) ∷ [] } ∷ [];
      initializers = record { code = 0; self = Nil; target = None } ∷ [];
      literals = (literal_string (120 ∷ []) ∷ []) ++ trouble_literals;
      trouble_place = 1;
      variables = 0;
      step_limit = 10000000;
      depth_limit = 10000;
      cell_limit = 4194304;
    }

retried_runs : Reports retried 76 (record { ending = WasDone; transcript = codes "xxx3"; steps = 35; depth = 9; cells = 30; events = (Event.Protect 2) ∷ (Event.Ensure 4) ∷ (Event.Signal 7) ∷ (Event.Search 7) ∷ (Event.Tried 2 true) ∷ (Event.Handle 8 2) ∷ (Event.End 8 true) ∷ (Event.End 7 true) ∷ (Event.Action 4) ∷ (Event.End 4 true) ∷ (Event.Again 2) ∷ (Event.Ensure 12) ∷ (Event.Signal 15) ∷ (Event.Search 15) ∷ (Event.Tried 2 true) ∷ (Event.Handle 16 2) ∷ (Event.End 16 true) ∷ (Event.End 15 true) ∷ (Event.Action 12) ∷ (Event.End 12 true) ∷ (Event.Again 2) ∷ (Event.Ensure 20) ∷ (Event.Action 20) ∷ (Event.End 20 false) ∷ (Event.End 2 false) ∷ [] })
unfolding computing
retried_runs = (refl, refl, refl)

-- Global initializer!| n | n := 0. [[n := n + 1. n < 3 ifTrue: [Error signal]. n] ensure: [Transcript show: 'x']] on: Error do: [:e | e retry]. Transcript show: n printString!
-- under the limits of 35 steps, depth 10000 and 4194304 cells
abbrev pub retried_in_35_steps : Program
retried_in_35_steps =
    record {
      names = (codes "value") ∷ (codes "value:") ∷ (codes "value:value:") ∷ (61 ∷ []) ∷ (codes "defaultAction") ∷ (codes "isResumable") ∷ (codes "handles:") ∷ (codes "doesNotUnderstand:") ∷ (codes "printString") ∷ (43 ∷ []) ∷ (60 ∷ []) ∷ (codes "signal") ∷ (codes "ifTrue:") ∷ (codes "show:") ∷ (codes "ensure:") ∷ (codes "retry") ∷ (codes "on:do:") ∷ [];
      classes = built_in_class_rows;
      methods = [];
      bodies =
          record { kind = InInitializer; class = Class 1; parameters = 0; captured = true ∷ []; outer = None; statements = Plain (Assign (Scoped 0 0) (Constant (Integer (pos 0)))) ∷ Plain (Send 16 (Block 1) (more_trees (Constant (Class 24)) (more_trees (Block 5) no_trees))) ∷ Plain (Send 13 (Constant Transcript) (more_trees (Send 8 (Variable (Scoped 0 0)) no_trees) no_trees)) ∷ [] } ∷
          record { kind = InBlock; class = Class 1; parameters = 0; captured = []; outer = (Some 0); statements = Plain (Send 14 (Block 2) (more_trees (Block 4) no_trees)) ∷ [] } ∷
          record { kind = InBlock; class = Class 1; parameters = 0; captured = []; outer = (Some 1); statements = Plain (Assign (Scoped 2 0) (Send 9 (Variable (Scoped 2 0)) (more_trees (Constant (Integer (pos 1))) no_trees))) ∷ Plain (Send 12 (Send 10 (Variable (Scoped 2 0)) (more_trees (Constant (Integer (pos 3))) no_trees)) (more_trees (Block 3) no_trees)) ∷ Plain (Variable (Scoped 2 0)) ∷ [] } ∷
          record { kind = InBlock; class = Class 1; parameters = 0; captured = []; outer = (Some 2); statements = Plain (Send 11 (Constant (Class 24)) no_trees) ∷ [] } ∷
          record { kind = InBlock; class = Class 1; parameters = 0; captured = []; outer = (Some 1); statements = Plain (Send 13 (Constant Transcript) (more_trees (Constant (Object 0)) no_trees)) ∷ [] } ∷
          record { kind = InBlock; class = Class 1; parameters = 1; captured = false ∷ []; outer = (Some 0); statements = Plain (Send 15 (Variable (Scoped 0 0)) no_trees) ∷ [] } ∷ [];
      initializers = record { code = 0; self = Nil; target = None } ∷ [];
      literals = (literal_string (120 ∷ []) ∷ []) ++ trouble_literals;
      trouble_place = 1;
      variables = 0;
      step_limit = 35;
      depth_limit = 10000;
      cell_limit = 4194304;
    }

retried_in_35_steps_runs : Reports retried_in_35_steps 76 (record { ending = WasDone; transcript = codes "xxx3"; steps = 35; depth = 9; cells = 30; events = (Event.Protect 2) ∷ (Event.Ensure 4) ∷ (Event.Signal 7) ∷ (Event.Search 7) ∷ (Event.Tried 2 true) ∷ (Event.Handle 8 2) ∷ (Event.End 8 true) ∷ (Event.End 7 true) ∷ (Event.Action 4) ∷ (Event.End 4 true) ∷ (Event.Again 2) ∷ (Event.Ensure 12) ∷ (Event.Signal 15) ∷ (Event.Search 15) ∷ (Event.Tried 2 true) ∷ (Event.Handle 16 2) ∷ (Event.End 16 true) ∷ (Event.End 15 true) ∷ (Event.Action 12) ∷ (Event.End 12 true) ∷ (Event.Again 2) ∷ (Event.Ensure 20) ∷ (Event.Action 20) ∷ (Event.End 20 false) ∷ (Event.End 2 false) ∷ [] })
unfolding computing
retried_in_35_steps_runs = (refl, refl, refl)

-- Global initializer!| n | n := 0. [[n := n + 1. n < 3 ifTrue: [Error signal]. n] ensure: [Transcript show: 'x']] on: Error do: [:e | e retry]. Transcript show: n printString!
-- under the limits of 34 steps, depth 10000 and 4194304 cells
abbrev pub retried_in_34_steps : Program
retried_in_34_steps =
    record {
      names = (codes "value") ∷ (codes "value:") ∷ (codes "value:value:") ∷ (61 ∷ []) ∷ (codes "defaultAction") ∷ (codes "isResumable") ∷ (codes "handles:") ∷ (codes "doesNotUnderstand:") ∷ (codes "printString") ∷ (43 ∷ []) ∷ (60 ∷ []) ∷ (codes "signal") ∷ (codes "ifTrue:") ∷ (codes "show:") ∷ (codes "ensure:") ∷ (codes "retry") ∷ (codes "on:do:") ∷ [];
      classes = built_in_class_rows;
      methods = [];
      bodies =
          record { kind = InInitializer; class = Class 1; parameters = 0; captured = true ∷ []; outer = None; statements = Plain (Assign (Scoped 0 0) (Constant (Integer (pos 0)))) ∷ Plain (Send 16 (Block 1) (more_trees (Constant (Class 24)) (more_trees (Block 5) no_trees))) ∷ Plain (Send 13 (Constant Transcript) (more_trees (Send 8 (Variable (Scoped 0 0)) no_trees) no_trees)) ∷ [] } ∷
          record { kind = InBlock; class = Class 1; parameters = 0; captured = []; outer = (Some 0); statements = Plain (Send 14 (Block 2) (more_trees (Block 4) no_trees)) ∷ [] } ∷
          record { kind = InBlock; class = Class 1; parameters = 0; captured = []; outer = (Some 1); statements = Plain (Assign (Scoped 2 0) (Send 9 (Variable (Scoped 2 0)) (more_trees (Constant (Integer (pos 1))) no_trees))) ∷ Plain (Send 12 (Send 10 (Variable (Scoped 2 0)) (more_trees (Constant (Integer (pos 3))) no_trees)) (more_trees (Block 3) no_trees)) ∷ Plain (Variable (Scoped 2 0)) ∷ [] } ∷
          record { kind = InBlock; class = Class 1; parameters = 0; captured = []; outer = (Some 2); statements = Plain (Send 11 (Constant (Class 24)) no_trees) ∷ [] } ∷
          record { kind = InBlock; class = Class 1; parameters = 0; captured = []; outer = (Some 1); statements = Plain (Send 13 (Constant Transcript) (more_trees (Constant (Object 0)) no_trees)) ∷ [] } ∷
          record { kind = InBlock; class = Class 1; parameters = 1; captured = false ∷ []; outer = (Some 0); statements = Plain (Send 15 (Variable (Scoped 0 0)) no_trees) ∷ [] } ∷ [];
      initializers = record { code = 0; self = Nil; target = None } ∷ [];
      literals = (literal_string (120 ∷ []) ∷ []) ++ trouble_literals;
      trouble_place = 1;
      variables = 0;
      step_limit = 34;
      depth_limit = 10000;
      cell_limit = 4194304;
    }

retried_in_34_steps_runs : Reports retried_in_34_steps 75 (record { ending = WasAtLimit StepLimit; transcript = codes "xxx"; steps = 34; depth = 9; cells = 30; events = (Event.Protect 2) ∷ (Event.Ensure 4) ∷ (Event.Signal 7) ∷ (Event.Search 7) ∷ (Event.Tried 2 true) ∷ (Event.Handle 8 2) ∷ (Event.End 8 true) ∷ (Event.End 7 true) ∷ (Event.Action 4) ∷ (Event.End 4 true) ∷ (Event.Again 2) ∷ (Event.Ensure 12) ∷ (Event.Signal 15) ∷ (Event.Search 15) ∷ (Event.Tried 2 true) ∷ (Event.Handle 16 2) ∷ (Event.End 16 true) ∷ (Event.End 15 true) ∷ (Event.Action 12) ∷ (Event.End 12 true) ∷ (Event.Again 2) ∷ (Event.Ensure 20) ∷ (Event.Action 20) ∷ (Event.End 20 false) ∷ (Event.End 2 false) ∷ [] })
unfolding computing
retried_in_34_steps_runs = (refl, refl, refl)

-- Global initializer!Transcript show: ([Error signal. 1] on: Error do: [:e | 7]) printString!
-- under the limits of 10000000 steps, depth 5 and 4194304 cells
abbrev pub handled_at_depth_5 : Program
handled_at_depth_5 =
    record {
      names = (codes "value") ∷ (codes "value:") ∷ (codes "value:value:") ∷ (61 ∷ []) ∷ (codes "defaultAction") ∷ (codes "isResumable") ∷ (codes "handles:") ∷ (codes "doesNotUnderstand:") ∷ (codes "printString") ∷ (codes "signal") ∷ (codes "on:do:") ∷ (codes "show:") ∷ [];
      classes = built_in_class_rows;
      methods = [];
      bodies =
          record { kind = InInitializer; class = Class 1; parameters = 0; captured = []; outer = None; statements = Plain (Send 11 (Constant Transcript) (more_trees (Send 8 (Send 10 (Block 1) (more_trees (Constant (Class 24)) (more_trees (Block 2) no_trees))) no_trees) no_trees)) ∷ [] } ∷
          record { kind = InBlock; class = Class 1; parameters = 0; captured = []; outer = (Some 0); statements = Plain (Send 9 (Constant (Class 24)) no_trees) ∷ Plain (Constant (Integer (pos 1))) ∷ [] } ∷
          record { kind = InBlock; class = Class 1; parameters = 1; captured = false ∷ []; outer = (Some 0); statements = Plain (Constant (Integer (pos 7))) ∷ [] } ∷ [];
      initializers = record { code = 0; self = Nil; target = None } ∷ [];
      literals = trouble_literals;
      trouble_place = 0;
      variables = 0;
      step_limit = 10000000;
      depth_limit = 5;
      cell_limit = 4194304;
    }

handled_at_depth_5_runs : Reports handled_at_depth_5 7 (record { ending = WasAtLimit DepthLimit; transcript = []; steps = 4; depth = 5; cells = 6; events = (Event.Protect 2) ∷ (Event.Signal 4) ∷ (Event.Search 4) ∷ (Event.Tried 2 true) ∷ (Event.Handle 5 2) ∷ [] })
unfolding computing
handled_at_depth_5_runs = (refl, refl, refl)

-- Global initializer!Transcript show: ([Error signal. 1] on: Error do: [:e | 7]) printString!
-- under the limits of 10000000 steps, depth 6 and 4194304 cells
abbrev pub handled_at_depth_6 : Program
handled_at_depth_6 =
    record {
      names = (codes "value") ∷ (codes "value:") ∷ (codes "value:value:") ∷ (61 ∷ []) ∷ (codes "defaultAction") ∷ (codes "isResumable") ∷ (codes "handles:") ∷ (codes "doesNotUnderstand:") ∷ (codes "printString") ∷ (codes "signal") ∷ (codes "on:do:") ∷ (codes "show:") ∷ [];
      classes = built_in_class_rows;
      methods = [];
      bodies =
          record { kind = InInitializer; class = Class 1; parameters = 0; captured = []; outer = None; statements = Plain (Send 11 (Constant Transcript) (more_trees (Send 8 (Send 10 (Block 1) (more_trees (Constant (Class 24)) (more_trees (Block 2) no_trees))) no_trees) no_trees)) ∷ [] } ∷
          record { kind = InBlock; class = Class 1; parameters = 0; captured = []; outer = (Some 0); statements = Plain (Send 9 (Constant (Class 24)) no_trees) ∷ Plain (Constant (Integer (pos 1))) ∷ [] } ∷
          record { kind = InBlock; class = Class 1; parameters = 1; captured = false ∷ []; outer = (Some 0); statements = Plain (Constant (Integer (pos 7))) ∷ [] } ∷ [];
      initializers = record { code = 0; self = Nil; target = None } ∷ [];
      literals = trouble_literals;
      trouble_place = 0;
      variables = 0;
      step_limit = 10000000;
      depth_limit = 6;
      cell_limit = 4194304;
    }

handled_at_depth_6_runs : Reports handled_at_depth_6 12 (record { ending = WasDone; transcript = 55 ∷ []; steps = 6; depth = 6; cells = 8; events = (Event.Protect 2) ∷ (Event.Signal 4) ∷ (Event.Search 4) ∷ (Event.Tried 2 true) ∷ (Event.Handle 5 2) ∷ (Event.End 5 true) ∷ (Event.End 4 true) ∷ (Event.End 2 false) ∷ [] })
unfolding computing
handled_at_depth_6_runs = (refl, refl, refl)

-- Global initializer!Transcript show: ([Error signal. 1] on: Error do: [:e | 7]) printString!
-- under the limits of 10000000 steps, depth 10000 and 7 cells
abbrev pub handled_with_7_cells : Program
handled_with_7_cells =
    record {
      names = (codes "value") ∷ (codes "value:") ∷ (codes "value:value:") ∷ (61 ∷ []) ∷ (codes "defaultAction") ∷ (codes "isResumable") ∷ (codes "handles:") ∷ (codes "doesNotUnderstand:") ∷ (codes "printString") ∷ (codes "signal") ∷ (codes "on:do:") ∷ (codes "show:") ∷ [];
      classes = built_in_class_rows;
      methods = [];
      bodies =
          record { kind = InInitializer; class = Class 1; parameters = 0; captured = []; outer = None; statements = Plain (Send 11 (Constant Transcript) (more_trees (Send 8 (Send 10 (Block 1) (more_trees (Constant (Class 24)) (more_trees (Block 2) no_trees))) no_trees) no_trees)) ∷ [] } ∷
          record { kind = InBlock; class = Class 1; parameters = 0; captured = []; outer = (Some 0); statements = Plain (Send 9 (Constant (Class 24)) no_trees) ∷ Plain (Constant (Integer (pos 1))) ∷ [] } ∷
          record { kind = InBlock; class = Class 1; parameters = 1; captured = false ∷ []; outer = (Some 0); statements = Plain (Constant (Integer (pos 7))) ∷ [] } ∷ [];
      initializers = record { code = 0; self = Nil; target = None } ∷ [];
      literals = trouble_literals;
      trouble_place = 0;
      variables = 0;
      step_limit = 10000000;
      depth_limit = 10000;
      cell_limit = 7;
    }

handled_with_7_cells_runs : Reports handled_with_7_cells 10 (record { ending = WasAtLimit CellLimit; transcript = []; steps = 5; depth = 6; cells = 6; events = (Event.Protect 2) ∷ (Event.Signal 4) ∷ (Event.Search 4) ∷ (Event.Tried 2 true) ∷ (Event.Handle 5 2) ∷ (Event.End 5 true) ∷ (Event.End 4 true) ∷ (Event.End 2 false) ∷ [] })
unfolding computing
handled_with_7_cells_runs = (refl, refl, refl)

-- Global initializer!Transcript show: ([Error signal. 1] on: Error do: [:e | 7]) printString!
-- under the limits of 10000000 steps, depth 10000 and 8 cells
abbrev pub handled_with_8_cells : Program
handled_with_8_cells =
    record {
      names = (codes "value") ∷ (codes "value:") ∷ (codes "value:value:") ∷ (61 ∷ []) ∷ (codes "defaultAction") ∷ (codes "isResumable") ∷ (codes "handles:") ∷ (codes "doesNotUnderstand:") ∷ (codes "printString") ∷ (codes "signal") ∷ (codes "on:do:") ∷ (codes "show:") ∷ [];
      classes = built_in_class_rows;
      methods = [];
      bodies =
          record { kind = InInitializer; class = Class 1; parameters = 0; captured = []; outer = None; statements = Plain (Send 11 (Constant Transcript) (more_trees (Send 8 (Send 10 (Block 1) (more_trees (Constant (Class 24)) (more_trees (Block 2) no_trees))) no_trees) no_trees)) ∷ [] } ∷
          record { kind = InBlock; class = Class 1; parameters = 0; captured = []; outer = (Some 0); statements = Plain (Send 9 (Constant (Class 24)) no_trees) ∷ Plain (Constant (Integer (pos 1))) ∷ [] } ∷
          record { kind = InBlock; class = Class 1; parameters = 1; captured = false ∷ []; outer = (Some 0); statements = Plain (Constant (Integer (pos 7))) ∷ [] } ∷ [];
      initializers = record { code = 0; self = Nil; target = None } ∷ [];
      literals = trouble_literals;
      trouble_place = 0;
      variables = 0;
      step_limit = 10000000;
      depth_limit = 10000;
      cell_limit = 8;
    }

handled_with_8_cells_runs : Reports handled_with_8_cells 12 (record { ending = WasDone; transcript = 55 ∷ []; steps = 6; depth = 6; cells = 8; events = (Event.Protect 2) ∷ (Event.Signal 4) ∷ (Event.Search 4) ∷ (Event.Tried 2 true) ∷ (Event.Handle 5 2) ∷ (Event.End 5 true) ∷ (Event.End 4 true) ∷ (Event.End 2 false) ∷ [] })
unfolding computing
handled_with_8_cells_runs = (refl, refl, refl)

-- Global initializer!Transcript show: ([[Error signal] on: Error do: [:e | e resume: 1]] on: Error do: [:e | e messageText])!
abbrev pub not_resumable : Program
not_resumable =
    record {
      names = (codes "value") ∷ (codes "value:") ∷ (codes "value:value:") ∷ (61 ∷ []) ∷ (codes "defaultAction") ∷ (codes "isResumable") ∷ (codes "handles:") ∷ (codes "doesNotUnderstand:") ∷ (codes "printString") ∷ (codes "signal") ∷ (codes "resume:") ∷ (codes "on:do:") ∷ (codes "messageText") ∷ (codes "show:") ∷ [];
      classes = built_in_class_rows;
      methods = [];
      bodies =
          record { kind = InInitializer; class = Class 1; parameters = 0; captured = []; outer = None; statements = Plain (Send 13 (Constant Transcript) (more_trees (Send 11 (Block 1) (more_trees (Constant (Class 24)) (more_trees (Block 4) no_trees))) no_trees)) ∷ [] } ∷
          record { kind = InBlock; class = Class 1; parameters = 0; captured = []; outer = (Some 0); statements = Plain (Send 11 (Block 2) (more_trees (Constant (Class 24)) (more_trees (Block 3) no_trees))) ∷ [] } ∷
          record { kind = InBlock; class = Class 1; parameters = 0; captured = []; outer = (Some 1); statements = Plain (Send 9 (Constant (Class 24)) no_trees) ∷ [] } ∷
          record { kind = InBlock; class = Class 1; parameters = 1; captured = false ∷ []; outer = (Some 1); statements = Plain (Send 10 (Variable (Scoped 0 0)) (more_trees (Constant (Integer (pos 1))) no_trees)) ∷ [] } ∷
          record { kind = InBlock; class = Class 1; parameters = 1; captured = false ∷ []; outer = (Some 0); statements = Plain (Send 12 (Variable (Scoped 0 0)) no_trees) ∷ [] } ∷ [];
      initializers = record { code = 0; self = Nil; target = None } ∷ [];
      literals = trouble_literals;
      trouble_place = 0;
      variables = 0;
      step_limit = 10000000;
      depth_limit = 10000;
      cell_limit = 4194304;
    }

not_resumable_runs : Reports not_resumable 19 (record { ending = WasDone; transcript = codes "exception is not resumable"; steps = 11; depth = 11; cells = 12; events = (Event.Protect 2) ∷ (Event.Protect 4) ∷ (Event.Signal 6) ∷ (Event.Search 6) ∷ (Event.Tried 4 true) ∷ (Event.Handle 7 4) ∷ (Event.Signal 10) ∷ (Event.Search 10) ∷ (Event.Tried 2 true) ∷ (Event.Handle 11 2) ∷ (Event.End 11 true) ∷ (Event.End 10 true) ∷ (Event.End 7 true) ∷ (Event.End 6 true) ∷ (Event.End 4 true) ∷ (Event.End 2 false) ∷ [] })
unfolding computing
not_resumable_runs = (refl, refl, refl)

-- Global initializer!Transcript show: ([Error signal. 1] on: Error do: [:e | e retryUsing: [9]]) printString!
abbrev pub retry_using : Program
retry_using =
    record {
      names = (codes "value") ∷ (codes "value:") ∷ (codes "value:value:") ∷ (61 ∷ []) ∷ (codes "defaultAction") ∷ (codes "isResumable") ∷ (codes "handles:") ∷ (codes "doesNotUnderstand:") ∷ (codes "printString") ∷ (codes "signal") ∷ (codes "retryUsing:") ∷ (codes "on:do:") ∷ (codes "show:") ∷ [];
      classes = built_in_class_rows;
      methods = [];
      bodies =
          record { kind = InInitializer; class = Class 1; parameters = 0; captured = []; outer = None; statements = Plain (Send 12 (Constant Transcript) (more_trees (Send 8 (Send 11 (Block 1) (more_trees (Constant (Class 24)) (more_trees (Block 2) no_trees))) no_trees) no_trees)) ∷ [] } ∷
          record { kind = InBlock; class = Class 1; parameters = 0; captured = []; outer = (Some 0); statements = Plain (Send 9 (Constant (Class 24)) no_trees) ∷ Plain (Constant (Integer (pos 1))) ∷ [] } ∷
          record { kind = InBlock; class = Class 1; parameters = 1; captured = false ∷ []; outer = (Some 0); statements = Plain (Send 10 (Variable (Scoped 0 0)) (more_trees (Block 3) no_trees)) ∷ [] } ∷
          record { kind = InBlock; class = Class 1; parameters = 0; captured = []; outer = (Some 2); statements = Plain (Constant (Integer (pos 9))) ∷ [] } ∷ [];
      initializers = record { code = 0; self = Nil; target = None } ∷ [];
      literals = trouble_literals;
      trouble_place = 0;
      variables = 0;
      step_limit = 10000000;
      depth_limit = 10000;
      cell_limit = 4194304;
    }

retry_using_runs : Reports retry_using 15 (record { ending = WasDone; transcript = 57 ∷ []; steps = 8; depth = 6; cells = 10; events = (Event.Protect 2) ∷ (Event.Signal 4) ∷ (Event.Search 4) ∷ (Event.Tried 2 true) ∷ (Event.Handle 5 2) ∷ (Event.End 5 true) ∷ (Event.End 4 true) ∷ (Event.Again 2) ∷ (Event.End 2 false) ∷ [] })
unfolding computing
retry_using_runs = (refl, refl, refl)

-- Global initializer!Transcript show: ([[Error signal] on: Warning do: [:w | 1]] on: Error do: [:e | e resignalAs: Warning new]) printString!
abbrev pub resignal_searches_outside : Program
resignal_searches_outside =
    record {
      names = (codes "value") ∷ (codes "value:") ∷ (codes "value:value:") ∷ (61 ∷ []) ∷ (codes "defaultAction") ∷ (codes "isResumable") ∷ (codes "handles:") ∷ (codes "doesNotUnderstand:") ∷ (codes "printString") ∷ (codes "signal") ∷ (codes "on:do:") ∷ (codes "new") ∷ (codes "resignalAs:") ∷ (codes "show:") ∷ [];
      classes = built_in_class_rows;
      methods = [];
      bodies =
          record { kind = InInitializer; class = Class 1; parameters = 0; captured = []; outer = None; statements = Plain (Send 13 (Constant Transcript) (more_trees (Send 8 (Send 10 (Block 1) (more_trees (Constant (Class 24)) (more_trees (Block 4) no_trees))) no_trees) no_trees)) ∷ [] } ∷
          record { kind = InBlock; class = Class 1; parameters = 0; captured = []; outer = (Some 0); statements = Plain (Send 10 (Block 2) (more_trees (Constant (Class 28)) (more_trees (Block 3) no_trees))) ∷ [] } ∷
          record { kind = InBlock; class = Class 1; parameters = 0; captured = []; outer = (Some 1); statements = Plain (Send 9 (Constant (Class 24)) no_trees) ∷ [] } ∷
          record { kind = InBlock; class = Class 1; parameters = 1; captured = false ∷ []; outer = (Some 1); statements = Plain (Constant (Integer (pos 1))) ∷ [] } ∷
          record { kind = InBlock; class = Class 1; parameters = 1; captured = false ∷ []; outer = (Some 0); statements = Plain (Send 12 (Variable (Scoped 0 0)) (more_trees (Send 11 (Constant (Class 28)) no_trees) no_trees)) ∷ [] } ∷ [];
      initializers = record { code = 0; self = Nil; target = None } ∷ [];
      literals = trouble_literals;
      trouble_place = 0;
      variables = 0;
      step_limit = 10000000;
      depth_limit = 10000;
      cell_limit = 4194304;
    }

resignal_searches_outside_runs : Reports resignal_searches_outside 21 (record { ending = WasDone; transcript = 49 ∷ []; steps = 11; depth = 9; cells = 14; events = (Event.Protect 2) ∷ (Event.Protect 4) ∷ (Event.Signal 6) ∷ (Event.Search 6) ∷ (Event.Tried 4 false) ∷ (Event.Tried 2 true) ∷ (Event.Handle 7 2) ∷ (Event.End 7 true) ∷ (Event.Signal 9) ∷ (Event.Search 9) ∷ (Event.Tried 4 true) ∷ (Event.Handle 10 4) ∷ (Event.End 10 true) ∷ (Event.End 9 true) ∷ (Event.End 6 true) ∷ (Event.End 4 false) ∷ (Event.End 2 false) ∷ [] })
unfolding computing
resignal_searches_outside_runs = (refl, refl, refl)

-- Global initializer!Transcript show: ([Notification signal. 3] value) printString!
abbrev pub notification : Program
notification =
    record {
      names = (codes "value") ∷ (codes "value:") ∷ (codes "value:value:") ∷ (61 ∷ []) ∷ (codes "defaultAction") ∷ (codes "isResumable") ∷ (codes "handles:") ∷ (codes "doesNotUnderstand:") ∷ (codes "printString") ∷ (codes "signal") ∷ (codes "show:") ∷ [];
      classes = built_in_class_rows;
      methods = [];
      bodies =
          record { kind = InInitializer; class = Class 1; parameters = 0; captured = []; outer = None; statements = Plain (Send 10 (Constant Transcript) (more_trees (Send 8 (Send 0 (Block 1) no_trees) no_trees) no_trees)) ∷ [] } ∷
          record { kind = InBlock; class = Class 1; parameters = 0; captured = []; outer = (Some 0); statements = Plain (Send 9 (Constant (Class 27)) no_trees) ∷ Plain (Constant (Integer (pos 3))) ∷ [] } ∷ [];
      initializers = record { code = 0; self = Nil; target = None } ∷ [];
      literals = trouble_literals;
      trouble_place = 0;
      variables = 0;
      step_limit = 10000000;
      depth_limit = 10000;
      cell_limit = 4194304;
    }

notification_runs : Reports notification 11 (record { ending = WasDone; transcript = 51 ∷ []; steps = 6; depth = 4; cells = 6; events = (Event.Signal 3) ∷ (Event.Search 3) ∷ (Event.Default 4) ∷ (Event.End 4 false) ∷ (Event.End 3 false) ∷ [] })
unfolding computing
notification_runs = (refl, refl, refl)

-- Global initializer!Warning signal: 'w'!
abbrev pub warning : Program
warning =
    record {
      names = (codes "value") ∷ (codes "value:") ∷ (codes "value:value:") ∷ (61 ∷ []) ∷ (codes "defaultAction") ∷ (codes "isResumable") ∷ (codes "handles:") ∷ (codes "doesNotUnderstand:") ∷ (codes "printString") ∷ (codes "signal:") ∷ [];
      classes = built_in_class_rows;
      methods = [];
      bodies =
          record { kind = InInitializer; class = Class 1; parameters = 0; captured = []; outer = None; statements = Plain (Send 9 (Constant (Class 28)) (more_trees (Constant (Object 0)) no_trees)) ∷ [] } ∷ [];
      initializers = record { code = 0; self = Nil; target = None } ∷ [];
      literals = (literal_string (119 ∷ []) ∷ []) ++ trouble_literals;
      trouble_place = 1;
      variables = 0;
      step_limit = 10000000;
      depth_limit = 10000;
      cell_limit = 4194304;
    }

warning_runs : Reports warning 4 (record { ending = WasDone; transcript = codes "Warning: w\n"; steps = 2; depth = 3; cells = 2; events = (Event.Signal 2) ∷ (Event.Search 2) ∷ (Event.Default 3) ∷ (Event.End 3 false) ∷ (Event.End 2 false) ∷ [] })
unfolding computing
warning_runs = (refl, refl, refl)

-- Class named: 'Q' superclass: 'Object'!Q method!handles: e ^e messageText = 'x'!Global initializer!Transcript show: ([Error signal: 'x'. 1] on: Q new do: [:e | 7]) printString!
abbrev pub asked_selector : Program
asked_selector =
    record {
      names = (codes "value") ∷ (codes "value:") ∷ (codes "value:value:") ∷ (61 ∷ []) ∷ (codes "defaultAction") ∷ (codes "isResumable") ∷ (codes "handles:") ∷ (codes "doesNotUnderstand:") ∷ (codes "printString") ∷ (codes "messageText") ∷ (codes "signal:") ∷ (codes "new") ∷ (codes "on:do:") ∷ (codes "show:") ∷ [];
      classes = built_in_class_rows ++ record { name = 81 ∷ []; superclass = Some 0; in_file = true; indexed = NoIndexes; slots = 0; class_slots = 0 } ∷ [];
      methods = record { class = 30; side = OfInstance; selector = 6; code = 0 } ∷ [];
      bodies =
          record { kind = InMethod; class = Class 30; parameters = 1; captured = false ∷ []; outer = None; statements = Return (Send 3 (Send 9 (Variable (Scoped 0 0)) no_trees) (more_trees (Constant (Object 0)) no_trees)) ∷ [] } ∷
          record { kind = InInitializer; class = Class 1; parameters = 0; captured = []; outer = None; statements = Plain (Send 13 (Constant Transcript) (more_trees (Send 8 (Send 12 (Block 2) (more_trees (Send 11 (Constant (Class 30)) no_trees) (more_trees (Block 3) no_trees))) no_trees) no_trees)) ∷ [] } ∷
          record { kind = InBlock; class = Class 1; parameters = 0; captured = []; outer = (Some 1); statements = Plain (Send 10 (Constant (Class 24)) (more_trees (Constant (Object 1)) no_trees)) ∷ Plain (Constant (Integer (pos 1))) ∷ [] } ∷
          record { kind = InBlock; class = Class 1; parameters = 1; captured = false ∷ []; outer = (Some 1); statements = Plain (Constant (Integer (pos 7))) ∷ [] } ∷ [];
      initializers = record { code = 1; self = Nil; target = None } ∷ [];
      literals = (literal_string (120 ∷ []) ∷ literal_string (120 ∷ []) ∷ []) ++ trouble_literals;
      trouble_place = 2;
      variables = 0;
      step_limit = 10000000;
      depth_limit = 10000;
      cell_limit = 4194304;
    }

asked_selector_runs : Reports asked_selector 19 (record { ending = WasDone; transcript = 55 ∷ []; steps = 10; depth = 6; cells = 9; events = (Event.Protect 2) ∷ (Event.Signal 4) ∷ (Event.Search 4) ∷ (Event.Ask 5 2) ∷ (Event.End 5 false) ∷ (Event.Tried 2 true) ∷ (Event.Handle 7 2) ∷ (Event.End 7 true) ∷ (Event.End 4 true) ∷ (Event.End 2 false) ∷ [] })
unfolding computing
asked_selector_runs = (refl, refl, refl)

-- Class named: 'Q' superclass: 'Object'!Q method!handles: e ^e messageText = 'x'!Global initializer!Transcript show: ([[Error signal: 'y'. 1] on: Q new do: [:e | 7]] on: Error do: [:e | 8]) printString!
abbrev pub asked_selector_no : Program
asked_selector_no =
    record {
      names = (codes "value") ∷ (codes "value:") ∷ (codes "value:value:") ∷ (61 ∷ []) ∷ (codes "defaultAction") ∷ (codes "isResumable") ∷ (codes "handles:") ∷ (codes "doesNotUnderstand:") ∷ (codes "printString") ∷ (codes "messageText") ∷ (codes "signal:") ∷ (codes "new") ∷ (codes "on:do:") ∷ (codes "show:") ∷ [];
      classes = built_in_class_rows ++ record { name = 81 ∷ []; superclass = Some 0; in_file = true; indexed = NoIndexes; slots = 0; class_slots = 0 } ∷ [];
      methods = record { class = 30; side = OfInstance; selector = 6; code = 0 } ∷ [];
      bodies =
          record { kind = InMethod; class = Class 30; parameters = 1; captured = false ∷ []; outer = None; statements = Return (Send 3 (Send 9 (Variable (Scoped 0 0)) no_trees) (more_trees (Constant (Object 0)) no_trees)) ∷ [] } ∷
          record { kind = InInitializer; class = Class 1; parameters = 0; captured = []; outer = None; statements = Plain (Send 13 (Constant Transcript) (more_trees (Send 8 (Send 12 (Block 2) (more_trees (Constant (Class 24)) (more_trees (Block 5) no_trees))) no_trees) no_trees)) ∷ [] } ∷
          record { kind = InBlock; class = Class 1; parameters = 0; captured = []; outer = (Some 1); statements = Plain (Send 12 (Block 3) (more_trees (Send 11 (Constant (Class 30)) no_trees) (more_trees (Block 4) no_trees))) ∷ [] } ∷
          record { kind = InBlock; class = Class 1; parameters = 0; captured = []; outer = (Some 2); statements = Plain (Send 10 (Constant (Class 24)) (more_trees (Constant (Object 1)) no_trees)) ∷ Plain (Constant (Integer (pos 1))) ∷ [] } ∷
          record { kind = InBlock; class = Class 1; parameters = 1; captured = false ∷ []; outer = (Some 2); statements = Plain (Constant (Integer (pos 7))) ∷ [] } ∷
          record { kind = InBlock; class = Class 1; parameters = 1; captured = false ∷ []; outer = (Some 1); statements = Plain (Constant (Integer (pos 8))) ∷ [] } ∷ [];
      initializers = record { code = 1; self = Nil; target = None } ∷ [];
      literals = (literal_string (120 ∷ []) ∷ literal_string (121 ∷ []) ∷ []) ++ trouble_literals;
      trouble_place = 2;
      variables = 0;
      step_limit = 10000000;
      depth_limit = 10000;
      cell_limit = 4194304;
    }

asked_selector_no_runs : Reports asked_selector_no 23 (record { ending = WasDone; transcript = 56 ∷ []; steps = 12; depth = 8; cells = 13; events = (Event.Protect 2) ∷ (Event.Protect 4) ∷ (Event.Signal 6) ∷ (Event.Search 6) ∷ (Event.Ask 7 4) ∷ (Event.End 7 false) ∷ (Event.Tried 4 false) ∷ (Event.Tried 2 true) ∷ (Event.Handle 9 2) ∷ (Event.End 9 true) ∷ (Event.End 6 true) ∷ (Event.End 4 true) ∷ (Event.End 2 false) ∷ [] })
unfolding computing
asked_selector_no_runs = (refl, refl, refl)

-- Class named: 'Q' superclass: 'Object'!Q method!handles: e ^Error signal: 'z'!Global initializer!Transcript show: ([[Error signal: 'x'] on: Q new do: [:e | 'in']] on: Error do: [:e | e return: e messageText])!
abbrev pub question_outside : Program
question_outside =
    record {
      names = (codes "value") ∷ (codes "value:") ∷ (codes "value:value:") ∷ (61 ∷ []) ∷ (codes "defaultAction") ∷ (codes "isResumable") ∷ (codes "handles:") ∷ (codes "doesNotUnderstand:") ∷ (codes "printString") ∷ (codes "signal:") ∷ (codes "new") ∷ (codes "on:do:") ∷ (codes "messageText") ∷ (codes "return:") ∷ (codes "show:") ∷ [];
      classes = built_in_class_rows ++ record { name = 81 ∷ []; superclass = Some 0; in_file = true; indexed = NoIndexes; slots = 0; class_slots = 0 } ∷ [];
      methods = record { class = 30; side = OfInstance; selector = 6; code = 0 } ∷ [];
      bodies =
          record { kind = InMethod; class = Class 30; parameters = 1; captured = false ∷ []; outer = None; statements = Return (Send 9 (Constant (Class 24)) (more_trees (Constant (Object 0)) no_trees)) ∷ [] } ∷
          record { kind = InInitializer; class = Class 1; parameters = 0; captured = []; outer = None; statements = Plain (Send 14 (Constant Transcript) (more_trees (Send 11 (Block 2) (more_trees (Constant (Class 24)) (more_trees (Block 5) no_trees))) no_trees)) ∷ [] } ∷
          record { kind = InBlock; class = Class 1; parameters = 0; captured = []; outer = (Some 1); statements = Plain (Send 11 (Block 3) (more_trees (Send 10 (Constant (Class 30)) no_trees) (more_trees (Block 4) no_trees))) ∷ [] } ∷
          record { kind = InBlock; class = Class 1; parameters = 0; captured = []; outer = (Some 2); statements = Plain (Send 9 (Constant (Class 24)) (more_trees (Constant (Object 1)) no_trees)) ∷ [] } ∷
          record { kind = InBlock; class = Class 1; parameters = 1; captured = false ∷ []; outer = (Some 2); statements = Plain (Constant (Object 2)) ∷ [] } ∷
          record { kind = InBlock; class = Class 1; parameters = 1; captured = false ∷ []; outer = (Some 1); statements = Plain (Send 13 (Variable (Scoped 0 0)) (more_trees (Send 12 (Variable (Scoped 0 0)) no_trees) no_trees)) ∷ [] } ∷ [];
      initializers = record { code = 1; self = Nil; target = None } ∷ [];
      literals = (literal_string (122 ∷ []) ∷ literal_string (120 ∷ []) ∷ literal_string (codes "in") ∷ []) ++ trouble_literals;
      trouble_place = 3;
      variables = 0;
      step_limit = 10000000;
      depth_limit = 10000;
      cell_limit = 4194304;
    }

question_outside_runs : Reports question_outside 22 (record { ending = WasDone; transcript = 122 ∷ []; steps = 12; depth = 11; cells = 13; events = (Event.Protect 2) ∷ (Event.Protect 4) ∷ (Event.Signal 6) ∷ (Event.Search 6) ∷ (Event.Ask 7 4) ∷ (Event.Signal 9) ∷ (Event.Search 9) ∷ (Event.Tried 2 true) ∷ (Event.Handle 10 2) ∷ (Event.End 10 true) ∷ (Event.End 9 true) ∷ (Event.End 7 true) ∷ (Event.End 6 true) ∷ (Event.End 4 true) ∷ (Event.End 2 false) ∷ [] })
unfolding computing
question_outside_runs = (refl, refl, refl)
