-- Runs with turns, waits and searches at their corners. Each is computed by the rules and by both machines.
use Rattle.std.proofs.Common.{[], ◌∷◌, ◌++◌, refl, true, false, Some, None, pos}
use Rattle.std.specs.Prelude.{codes}
use Rattle.object_heap.specs.declared.value.Value.TheVariants.{Nil, True, False, Integer, Symbol, Class, Transcript, Object}
use Rattle.st_code.specs.Program.{Program, Scoped, Shared, Constant, Self, Variable, Assign, Block, Send, Cascade, no_trees, more_trees, no_messages, more_messages, Plain, Return, InMethod, InBlock, InInitializer, OfInstance, NoIndexes}
use Rattle.st_rules.specs.Events.{Event}
use Rattle.st_code.specs.BuiltIns.{built_in_class_rows}
use Rattle.st_code.specs.Literals.{literal_string, trouble_literals}
use Rattle.st_rules.proofs.Computing.{Reports, computing, WasDone}

-- Global initializer!Transcript show: ([[Error signal] on: Error do: [:e | e resume: 1]] on: Error do: [:e | e messageText])!
abbrev pub resume_not_resumable_depth : Program
resume_not_resumable_depth =
    record {
      names = (codes "value") ∷ (codes "value:") ∷ (codes "value:value:") ∷ (61 ∷ []) ∷ (codes "defaultAction") ∷ (codes "isResumable") ∷ (codes "handles:") ∷ (codes "doesNotUnderstand:") ∷ (codes "printString") ∷ (codes "signal") ∷ (codes "resume:") ∷ (codes "on:do:") ∷ (codes "messageText") ∷ (codes "show:") ∷ [];
      classes = built_in_class_rows;
      methods = [];
      bodies =
          record { kind = InInitializer; class = Class 1; parameters = 0; captured = []; outer = None; statements = Plain (Send 13 (Constant Transcript) (more_trees (Send 11 (Block 1) (more_trees (Constant (Class 24)) (more_trees (Block 4) no_trees))) no_trees)) ∷ [] } ∷
          record { kind = InBlock; class = Class 1; parameters = 0; captured = []; outer = (Some 0); statements = Plain (Send 11 (Block 2) (more_trees (Constant (Class 24)) (more_trees (Block 3) no_trees))) ∷ [] } ∷
          record { kind = InBlock; class = Class 1; parameters = 0; captured = []; outer = (Some 1); statements = Plain (Send 9 (Constant (Class 24)) no_trees) ∷ [] } ∷
          record { kind = InBlock; class = Class 1; parameters = 1; captured = false ∷ []; outer = (Some 1); statements = Plain (Send 10 (Variable (Scoped 0 0)) (more_trees (Constant (Integer (pos 1))) no_trees)) ∷ [] } ∷
          record { kind = InBlock; class = Class 1; parameters = 1; captured = false ∷ []; outer = (Some 0); statements = Plain (Send 12 (Variable (Scoped 0 0)) no_trees) ∷ [] } ∷ [];
      initializers = record { code = 0; self = Nil; target = None } ∷ [];
      literals = trouble_literals;
      trouble_place = 0;
      variables = 0;
      step_limit = 10000000;
      depth_limit = 10000;
      cell_limit = 4194304;
    }

resume_not_resumable_depth_runs : Reports resume_not_resumable_depth 19 (record { ending = WasDone; transcript = codes "exception is not resumable"; steps = 11; depth = 11; cells = 12; events = (Event.Protect 2) ∷ (Event.Protect 4) ∷ (Event.Signal 6) ∷ (Event.Search 6) ∷ (Event.Tried 4 true) ∷ (Event.Handle 7 4) ∷ (Event.Signal 10) ∷ (Event.Search 10) ∷ (Event.Tried 2 true) ∷ (Event.Handle 11 2) ∷ (Event.End 11 true) ∷ (Event.End 10 true) ∷ (Event.End 7 true) ∷ (Event.End 6 true) ∷ (Event.End 4 true) ∷ (Event.End 2 false) ∷ [] })
unfolding computing
resume_not_resumable_depth_runs = (refl, refl, refl)

-- Class named: 'F' superclass: 'Error'!Error method!isResumable ^true!F method!isResumable ^false!Global initializer!Transcript show: ([[F signal. 1] on: F do: [:e | (e resume: 1) == true]] on: Error do: [:e | e resume: true]) printString!
abbrev pub resume_error_answers : Program
resume_error_answers =
    record {
      names = (codes "value") ∷ (codes "value:") ∷ (codes "value:value:") ∷ (61 ∷ []) ∷ (codes "defaultAction") ∷ (codes "isResumable") ∷ (codes "handles:") ∷ (codes "doesNotUnderstand:") ∷ (codes "printString") ∷ (codes "signal") ∷ (codes "resume:") ∷ (codes "==") ∷ (codes "on:do:") ∷ (codes "show:") ∷ [];
      classes = built_in_class_rows ++ record { name = 70 ∷ []; superclass = Some 24; in_file = true; indexed = NoIndexes; slots = 1; class_slots = 0 } ∷ [];
      methods = record { class = 24; side = OfInstance; selector = 5; code = 0 } ∷ record { class = 30; side = OfInstance; selector = 5; code = 1 } ∷ [];
      bodies =
          record { kind = InMethod; class = Class 24; parameters = 0; captured = []; outer = None; statements = Return (Constant True) ∷ [] } ∷
          record { kind = InMethod; class = Class 30; parameters = 0; captured = []; outer = None; statements = Return (Constant False) ∷ [] } ∷
          record { kind = InInitializer; class = Class 1; parameters = 0; captured = []; outer = None; statements = Plain (Send 13 (Constant Transcript) (more_trees (Send 8 (Send 12 (Block 3) (more_trees (Constant (Class 24)) (more_trees (Block 6) no_trees))) no_trees) no_trees)) ∷ [] } ∷
          record { kind = InBlock; class = Class 1; parameters = 0; captured = []; outer = (Some 2); statements = Plain (Send 12 (Block 4) (more_trees (Constant (Class 30)) (more_trees (Block 5) no_trees))) ∷ [] } ∷
          record { kind = InBlock; class = Class 1; parameters = 0; captured = []; outer = (Some 3); statements = Plain (Send 9 (Constant (Class 30)) no_trees) ∷ Plain (Constant (Integer (pos 1))) ∷ [] } ∷
          record { kind = InBlock; class = Class 1; parameters = 1; captured = false ∷ []; outer = (Some 3); statements = Plain (Send 11 (Send 10 (Variable (Scoped 0 0)) (more_trees (Constant (Integer (pos 1))) no_trees)) (more_trees (Constant True) no_trees)) ∷ [] } ∷
          record { kind = InBlock; class = Class 1; parameters = 1; captured = false ∷ []; outer = (Some 2); statements = Plain (Send 10 (Variable (Scoped 0 0)) (more_trees (Constant True) no_trees)) ∷ [] } ∷ [];
      initializers = record { code = 2; self = Nil; target = None } ∷ [];
      literals = trouble_literals;
      trouble_place = 0;
      variables = 0;
      step_limit = 10000000;
      depth_limit = 10000;
      cell_limit = 4194304;
    }

resume_error_answers_runs : Reports resume_error_answers 28 (record { ending = WasDone; transcript = codes "true"; steps = 14; depth = 13; cells = 14; events = (Event.Protect 2) ∷ (Event.Protect 4) ∷ (Event.Signal 6) ∷ (Event.Search 6) ∷ (Event.Tried 4 true) ∷ (Event.Handle 7 4) ∷ (Event.Signal 11) ∷ (Event.Search 11) ∷ (Event.Tried 2 true) ∷ (Event.Handle 12 2) ∷ (Event.End 12 true) ∷ (Event.End 11 false) ∷ (Event.End 7 true) ∷ (Event.End 6 true) ∷ (Event.End 4 false) ∷ (Event.End 2 false) ∷ [] })
unfolding computing
resume_error_answers_runs = (refl, refl, refl)

-- Class named: 'E' superclass: 'Exception'!E method!defaultAction ^5!E method!isResumable ^true!Global initializer!Transcript show: ([E signal + 1] on: E do: [:e | e pass. Transcript show: 'no'. 3]) printString!
abbrev pub pass_default_unwinds : Program
pass_default_unwinds =
    record {
      names = (codes "value") ∷ (codes "value:") ∷ (codes "value:value:") ∷ (61 ∷ []) ∷ (codes "defaultAction") ∷ (codes "isResumable") ∷ (codes "handles:") ∷ (codes "doesNotUnderstand:") ∷ (codes "printString") ∷ (codes "signal") ∷ (43 ∷ []) ∷ (codes "pass") ∷ (codes "show:") ∷ (codes "on:do:") ∷ [];
      classes = built_in_class_rows ++ record { name = 69 ∷ []; superclass = Some 23; in_file = true; indexed = NoIndexes; slots = 1; class_slots = 0 } ∷ [];
      methods = record { class = 30; side = OfInstance; selector = 4; code = 0 } ∷ record { class = 30; side = OfInstance; selector = 5; code = 1 } ∷ [];
      bodies =
          record { kind = InMethod; class = Class 30; parameters = 0; captured = []; outer = None; statements = Return (Constant (Integer (pos 5))) ∷ [] } ∷
          record { kind = InMethod; class = Class 30; parameters = 0; captured = []; outer = None; statements = Return (Constant True) ∷ [] } ∷
          record { kind = InInitializer; class = Class 1; parameters = 0; captured = []; outer = None; statements = Plain (Send 12 (Constant Transcript) (more_trees (Send 8 (Send 13 (Block 3) (more_trees (Constant (Class 30)) (more_trees (Block 4) no_trees))) no_trees) no_trees)) ∷ [] } ∷
          record { kind = InBlock; class = Class 1; parameters = 0; captured = []; outer = (Some 2); statements = Plain (Send 10 (Send 9 (Constant (Class 30)) no_trees) (more_trees (Constant (Integer (pos 1))) no_trees)) ∷ [] } ∷
          record { kind = InBlock; class = Class 1; parameters = 1; captured = false ∷ []; outer = (Some 2); statements = Plain (Send 11 (Variable (Scoped 0 0)) no_trees) ∷ Plain (Send 12 (Constant Transcript) (more_trees (Constant (Object 0)) no_trees)) ∷ Plain (Constant (Integer (pos 3))) ∷ [] } ∷ [];
      initializers = record { code = 2; self = Nil; target = None } ∷ [];
      literals = (literal_string (codes "no") ∷ []) ++ trouble_literals;
      trouble_place = 1;
      variables = 0;
      step_limit = 10000000;
      depth_limit = 10000;
      cell_limit = 4194304;
    }

pass_default_unwinds_runs : Reports pass_default_unwinds 17 (record { ending = WasDone; transcript = 54 ∷ []; steps = 9; depth = 8; cells = 8; events = (Event.Protect 2) ∷ (Event.Signal 4) ∷ (Event.Search 4) ∷ (Event.Tried 2 true) ∷ (Event.Handle 5 2) ∷ (Event.Search 5) ∷ (Event.Default 7) ∷ (Event.End 7 true) ∷ (Event.End 5 true) ∷ (Event.End 4 false) ∷ (Event.End 2 false) ∷ [] })
unfolding computing
pass_default_unwinds_runs = (refl, refl, refl)

-- Class named: 'E' superclass: 'Exception'!E method!defaultAction ^5!E method!isResumable ^true!Global initializer!Transcript show: ([E signal + 1] on: E do: [:e | e return: e outer + 20]) printString!
abbrev pub outer_default_returns : Program
outer_default_returns =
    record {
      names = (codes "value") ∷ (codes "value:") ∷ (codes "value:value:") ∷ (61 ∷ []) ∷ (codes "defaultAction") ∷ (codes "isResumable") ∷ (codes "handles:") ∷ (codes "doesNotUnderstand:") ∷ (codes "printString") ∷ (codes "signal") ∷ (43 ∷ []) ∷ (codes "outer") ∷ (codes "return:") ∷ (codes "on:do:") ∷ (codes "show:") ∷ [];
      classes = built_in_class_rows ++ record { name = 69 ∷ []; superclass = Some 23; in_file = true; indexed = NoIndexes; slots = 1; class_slots = 0 } ∷ [];
      methods = record { class = 30; side = OfInstance; selector = 4; code = 0 } ∷ record { class = 30; side = OfInstance; selector = 5; code = 1 } ∷ [];
      bodies =
          record { kind = InMethod; class = Class 30; parameters = 0; captured = []; outer = None; statements = Return (Constant (Integer (pos 5))) ∷ [] } ∷
          record { kind = InMethod; class = Class 30; parameters = 0; captured = []; outer = None; statements = Return (Constant True) ∷ [] } ∷
          record { kind = InInitializer; class = Class 1; parameters = 0; captured = []; outer = None; statements = Plain (Send 14 (Constant Transcript) (more_trees (Send 8 (Send 13 (Block 3) (more_trees (Constant (Class 30)) (more_trees (Block 4) no_trees))) no_trees) no_trees)) ∷ [] } ∷
          record { kind = InBlock; class = Class 1; parameters = 0; captured = []; outer = (Some 2); statements = Plain (Send 10 (Send 9 (Constant (Class 30)) no_trees) (more_trees (Constant (Integer (pos 1))) no_trees)) ∷ [] } ∷
          record { kind = InBlock; class = Class 1; parameters = 1; captured = false ∷ []; outer = (Some 2); statements = Plain (Send 12 (Variable (Scoped 0 0)) (more_trees (Send 10 (Send 11 (Variable (Scoped 0 0)) no_trees) (more_trees (Constant (Integer (pos 20))) no_trees)) no_trees)) ∷ [] } ∷ [];
      initializers = record { code = 2; self = Nil; target = None } ∷ [];
      literals = trouble_literals;
      trouble_place = 0;
      variables = 0;
      step_limit = 10000000;
      depth_limit = 10000;
      cell_limit = 4194304;
    }

outer_default_returns_runs : Reports outer_default_returns 20 (record { ending = WasDone; transcript = codes "25"; steps = 11; depth = 9; cells = 8; events = (Event.Protect 2) ∷ (Event.Signal 4) ∷ (Event.Search 4) ∷ (Event.Tried 2 true) ∷ (Event.Handle 5 2) ∷ (Event.Outer 9) ∷ (Event.Search 5) ∷ (Event.Default 10) ∷ (Event.End 10 true) ∷ (Event.End 9 false) ∷ (Event.End 5 true) ∷ (Event.End 4 true) ∷ (Event.End 2 false) ∷ [] })
unfolding computing
outer_default_returns_runs = (refl, refl, refl)

-- Class named: 'E' superclass: 'Exception'!E method!defaultAction ^5!E method!isResumable ^true!Global initializer!Transcript show: ([[E signal + 100] on: E do: [:e | | v | v := e outer. e resume: v + 1]] on: E do: [:e | e resume: 10]) printString!
abbrev pub outer_then_resume : Program
outer_then_resume =
    record {
      names = (codes "value") ∷ (codes "value:") ∷ (codes "value:value:") ∷ (61 ∷ []) ∷ (codes "defaultAction") ∷ (codes "isResumable") ∷ (codes "handles:") ∷ (codes "doesNotUnderstand:") ∷ (codes "printString") ∷ (codes "signal") ∷ (43 ∷ []) ∷ (codes "outer") ∷ (codes "resume:") ∷ (codes "on:do:") ∷ (codes "show:") ∷ [];
      classes = built_in_class_rows ++ record { name = 69 ∷ []; superclass = Some 23; in_file = true; indexed = NoIndexes; slots = 1; class_slots = 0 } ∷ [];
      methods = record { class = 30; side = OfInstance; selector = 4; code = 0 } ∷ record { class = 30; side = OfInstance; selector = 5; code = 1 } ∷ [];
      bodies =
          record { kind = InMethod; class = Class 30; parameters = 0; captured = []; outer = None; statements = Return (Constant (Integer (pos 5))) ∷ [] } ∷
          record { kind = InMethod; class = Class 30; parameters = 0; captured = []; outer = None; statements = Return (Constant True) ∷ [] } ∷
          record { kind = InInitializer; class = Class 1; parameters = 0; captured = []; outer = None; statements = Plain (Send 14 (Constant Transcript) (more_trees (Send 8 (Send 13 (Block 3) (more_trees (Constant (Class 30)) (more_trees (Block 6) no_trees))) no_trees) no_trees)) ∷ [] } ∷
          record { kind = InBlock; class = Class 1; parameters = 0; captured = []; outer = (Some 2); statements = Plain (Send 13 (Block 4) (more_trees (Constant (Class 30)) (more_trees (Block 5) no_trees))) ∷ [] } ∷
          record { kind = InBlock; class = Class 1; parameters = 0; captured = []; outer = (Some 3); statements = Plain (Send 10 (Send 9 (Constant (Class 30)) no_trees) (more_trees (Constant (Integer (pos 100))) no_trees)) ∷ [] } ∷
          record { kind = InBlock; class = Class 1; parameters = 1; captured = false ∷ false ∷ []; outer = (Some 3); statements = Plain (Assign (Scoped 0 1) (Send 11 (Variable (Scoped 0 0)) no_trees)) ∷ Plain (Send 12 (Variable (Scoped 0 0)) (more_trees (Send 10 (Variable (Scoped 0 1)) (more_trees (Constant (Integer (pos 1))) no_trees)) no_trees)) ∷ [] } ∷
          record { kind = InBlock; class = Class 1; parameters = 1; captured = false ∷ []; outer = (Some 2); statements = Plain (Send 12 (Variable (Scoped 0 0)) (more_trees (Constant (Integer (pos 10))) no_trees)) ∷ [] } ∷ [];
      initializers = record { code = 2; self = Nil; target = None } ∷ [];
      literals = trouble_literals;
      trouble_place = 0;
      variables = 0;
      step_limit = 10000000;
      depth_limit = 10000;
      cell_limit = 4194304;
    }

outer_then_resume_runs : Reports outer_then_resume 36 (record { ending = WasDone; transcript = codes "111"; steps = 17; depth = 13; cells = 12; events = (Event.Protect 2) ∷ (Event.Protect 4) ∷ (Event.Signal 6) ∷ (Event.Search 6) ∷ (Event.Tried 4 true) ∷ (Event.Handle 7 4) ∷ (Event.Outer 11) ∷ (Event.Search 7) ∷ (Event.Tried 2 true) ∷ (Event.Handle 12 2) ∷ (Event.End 12 true) ∷ (Event.End 11 false) ∷ (Event.End 7 true) ∷ (Event.End 6 false) ∷ (Event.End 4 false) ∷ (Event.End 2 false) ∷ [] })
unfolding computing
outer_then_resume_runs = (refl, refl, refl)

-- Class named: 'E' superclass: 'Exception'!E method!defaultAction ^5!E method!isResumable ^true!Global initializer!Transcript show: ([[E signal] on: E do: [:e | [e outer] ensure: [Transcript show: 'x']. 1]] on: E do: [:e | e return: 3]) printString!
abbrev pub outer_return_past_point : Program
outer_return_past_point =
    record {
      names = (codes "value") ∷ (codes "value:") ∷ (codes "value:value:") ∷ (61 ∷ []) ∷ (codes "defaultAction") ∷ (codes "isResumable") ∷ (codes "handles:") ∷ (codes "doesNotUnderstand:") ∷ (codes "printString") ∷ (codes "signal") ∷ (codes "outer") ∷ (codes "show:") ∷ (codes "ensure:") ∷ (codes "on:do:") ∷ (codes "return:") ∷ [];
      classes = built_in_class_rows ++ record { name = 69 ∷ []; superclass = Some 23; in_file = true; indexed = NoIndexes; slots = 1; class_slots = 0 } ∷ [];
      methods = record { class = 30; side = OfInstance; selector = 4; code = 0 } ∷ record { class = 30; side = OfInstance; selector = 5; code = 1 } ∷ [];
      bodies =
          record { kind = InMethod; class = Class 30; parameters = 0; captured = []; outer = None; statements = Return (Constant (Integer (pos 5))) ∷ [] } ∷
          record { kind = InMethod; class = Class 30; parameters = 0; captured = []; outer = None; statements = Return (Constant True) ∷ [] } ∷
          record { kind = InInitializer; class = Class 1; parameters = 0; captured = []; outer = None; statements = Plain (Send 11 (Constant Transcript) (more_trees (Send 8 (Send 13 (Block 3) (more_trees (Constant (Class 30)) (more_trees (Block 8) no_trees))) no_trees) no_trees)) ∷ [] } ∷
          record { kind = InBlock; class = Class 1; parameters = 0; captured = []; outer = (Some 2); statements = Plain (Send 13 (Block 4) (more_trees (Constant (Class 30)) (more_trees (Block 5) no_trees))) ∷ [] } ∷
          record { kind = InBlock; class = Class 1; parameters = 0; captured = []; outer = (Some 3); statements = Plain (Send 9 (Constant (Class 30)) no_trees) ∷ [] } ∷
          record { kind = InBlock; class = Class 1; parameters = 1; captured = true ∷ []; outer = (Some 3); statements = Plain (Send 12 (Block 6) (more_trees (Block 7) no_trees)) ∷ Plain (Constant (Integer (pos 1))) ∷ [] } ∷
          record { kind = InBlock; class = Class 1; parameters = 0; captured = []; outer = (Some 5); statements = Plain (Send 10 (Variable (Scoped 1 0)) no_trees) ∷ [] } ∷
          record { kind = InBlock; class = Class 1; parameters = 0; captured = []; outer = (Some 5); statements = Plain (Send 11 (Constant Transcript) (more_trees (Constant (Object 0)) no_trees)) ∷ [] } ∷
          record { kind = InBlock; class = Class 1; parameters = 1; captured = false ∷ []; outer = (Some 2); statements = Plain (Send 14 (Variable (Scoped 0 0)) (more_trees (Constant (Integer (pos 3))) no_trees)) ∷ [] } ∷ [];
      initializers = record { code = 2; self = Nil; target = None } ∷ [];
      literals = (literal_string (120 ∷ []) ∷ []) ++ trouble_literals;
      trouble_place = 1;
      variables = 0;
      step_limit = 10000000;
      depth_limit = 10000;
      cell_limit = 4194304;
    }

outer_return_past_point_runs : Reports outer_return_past_point 28 (record { ending = WasDone; transcript = codes "x3"; steps = 16; depth = 13; cells = 18; events = (Event.Protect 2) ∷ (Event.Protect 4) ∷ (Event.Signal 6) ∷ (Event.Search 6) ∷ (Event.Tried 4 true) ∷ (Event.Handle 7 4) ∷ (Event.Ensure 9) ∷ (Event.Outer 13) ∷ (Event.Search 7) ∷ (Event.Tried 2 true) ∷ (Event.Handle 14 2) ∷ (Event.End 14 true) ∷ (Event.End 13 true) ∷ (Event.Action 9) ∷ (Event.End 9 true) ∷ (Event.End 7 true) ∷ (Event.End 6 true) ∷ (Event.End 4 true) ∷ (Event.End 2 false) ∷ [] })
unfolding computing
outer_return_past_point_runs = (refl, refl, refl)

-- Class named: 'F' superclass: 'Error'!F method!isResumable ^true!F method!defaultAction self resume: 6. Transcript show: 'no'!Global initializer!Transcript show: (F signal + 1) printString!
abbrev pub default_resume : Program
default_resume =
    record {
      names = (codes "value") ∷ (codes "value:") ∷ (codes "value:value:") ∷ (61 ∷ []) ∷ (codes "defaultAction") ∷ (codes "isResumable") ∷ (codes "handles:") ∷ (codes "doesNotUnderstand:") ∷ (codes "printString") ∷ (codes "resume:") ∷ (codes "show:") ∷ (codes "signal") ∷ (43 ∷ []) ∷ [];
      classes = built_in_class_rows ++ record { name = 70 ∷ []; superclass = Some 24; in_file = true; indexed = NoIndexes; slots = 1; class_slots = 0 } ∷ [];
      methods = record { class = 30; side = OfInstance; selector = 5; code = 0 } ∷ record { class = 30; side = OfInstance; selector = 4; code = 1 } ∷ [];
      bodies =
          record { kind = InMethod; class = Class 30; parameters = 0; captured = []; outer = None; statements = Return (Constant True) ∷ [] } ∷
          record { kind = InMethod; class = Class 30; parameters = 0; captured = []; outer = None; statements = Plain (Send 9 Self (more_trees (Constant (Integer (pos 6))) no_trees)) ∷ Plain (Send 10 (Constant Transcript) (more_trees (Constant (Object 0)) no_trees)) ∷ [] } ∷
          record { kind = InInitializer; class = Class 1; parameters = 0; captured = []; outer = None; statements = Plain (Send 10 (Constant Transcript) (more_trees (Send 8 (Send 12 (Send 11 (Constant (Class 30)) no_trees) (more_trees (Constant (Integer (pos 1))) no_trees)) no_trees) no_trees)) ∷ [] } ∷ [];
      initializers = record { code = 2; self = Nil; target = None } ∷ [];
      literals = (literal_string (codes "no") ∷ []) ++ trouble_literals;
      trouble_place = 1;
      variables = 0;
      step_limit = 10000000;
      depth_limit = 10000;
      cell_limit = 4194304;
    }

default_resume_runs : Reports default_resume 13 (record { ending = WasDone; transcript = 55 ∷ []; steps = 7; depth = 6; cells = 4; events = (Event.Signal 2) ∷ (Event.Search 2) ∷ (Event.Default 3) ∷ (Event.End 3 true) ∷ (Event.End 2 false) ∷ [] })
unfolding computing
default_resume_runs = (refl, refl, refl)

-- Class named: 'F' superclass: 'Error'!F method!defaultAction ^[self return: 6] on: Error do: [:x | x messageText]!Global initializer!Transcript show: F signal!
abbrev pub default_return : Program
default_return =
    record {
      names = (codes "value") ∷ (codes "value:") ∷ (codes "value:value:") ∷ (61 ∷ []) ∷ (codes "defaultAction") ∷ (codes "isResumable") ∷ (codes "handles:") ∷ (codes "doesNotUnderstand:") ∷ (codes "printString") ∷ (codes "return:") ∷ (codes "messageText") ∷ (codes "on:do:") ∷ (codes "signal") ∷ (codes "show:") ∷ [];
      classes = built_in_class_rows ++ record { name = 70 ∷ []; superclass = Some 24; in_file = true; indexed = NoIndexes; slots = 1; class_slots = 0 } ∷ [];
      methods = record { class = 30; side = OfInstance; selector = 4; code = 0 } ∷ [];
      bodies =
          record { kind = InMethod; class = Class 30; parameters = 0; captured = []; outer = None; statements = Return (Send 11 (Block 1) (more_trees (Constant (Class 24)) (more_trees (Block 2) no_trees))) ∷ [] } ∷
          record { kind = InBlock; class = Class 30; parameters = 0; captured = []; outer = (Some 0); statements = Plain (Send 9 Self (more_trees (Constant (Integer (pos 6))) no_trees)) ∷ [] } ∷
          record { kind = InBlock; class = Class 30; parameters = 1; captured = false ∷ []; outer = (Some 0); statements = Plain (Send 10 (Variable (Scoped 0 0)) no_trees) ∷ [] } ∷
          record { kind = InInitializer; class = Class 1; parameters = 0; captured = []; outer = None; statements = Plain (Send 13 (Constant Transcript) (more_trees (Send 12 (Constant (Class 30)) no_trees) no_trees)) ∷ [] } ∷ [];
      initializers = record { code = 3; self = Nil; target = None } ∷ [];
      literals = trouble_literals;
      trouble_place = 0;
      variables = 0;
      step_limit = 10000000;
      depth_limit = 10000;
      cell_limit = 4194304;
    }

default_return_runs : Reports default_return 16 (record { ending = WasDone; transcript = codes "exception is not active"; steps = 8; depth = 9; cells = 8; events = (Event.Signal 2) ∷ (Event.Search 2) ∷ (Event.Default 3) ∷ (Event.Protect 5) ∷ (Event.Signal 7) ∷ (Event.Search 7) ∷ (Event.Tried 5 true) ∷ (Event.Handle 8 5) ∷ (Event.End 8 true) ∷ (Event.End 7 true) ∷ (Event.End 5 false) ∷ (Event.End 3 false) ∷ (Event.End 2 false) ∷ [] })
unfolding computing
default_return_runs = (refl, refl, refl)

-- Global initializer!Transcript show: ([Warning signal + 1] on: Warning do: [:e | e resume: 5]) printString!
abbrev pub wait_counts : Program
wait_counts =
    record {
      names = (codes "value") ∷ (codes "value:") ∷ (codes "value:value:") ∷ (61 ∷ []) ∷ (codes "defaultAction") ∷ (codes "isResumable") ∷ (codes "handles:") ∷ (codes "doesNotUnderstand:") ∷ (codes "printString") ∷ (codes "signal") ∷ (43 ∷ []) ∷ (codes "resume:") ∷ (codes "on:do:") ∷ (codes "show:") ∷ [];
      classes = built_in_class_rows;
      methods = [];
      bodies =
          record { kind = InInitializer; class = Class 1; parameters = 0; captured = []; outer = None; statements = Plain (Send 13 (Constant Transcript) (more_trees (Send 8 (Send 12 (Block 1) (more_trees (Constant (Class 28)) (more_trees (Block 2) no_trees))) no_trees) no_trees)) ∷ [] } ∷
          record { kind = InBlock; class = Class 1; parameters = 0; captured = []; outer = (Some 0); statements = Plain (Send 10 (Send 9 (Constant (Class 28)) no_trees) (more_trees (Constant (Integer (pos 1))) no_trees)) ∷ [] } ∷
          record { kind = InBlock; class = Class 1; parameters = 1; captured = false ∷ []; outer = (Some 0); statements = Plain (Send 11 (Variable (Scoped 0 0)) (more_trees (Constant (Integer (pos 5))) no_trees)) ∷ [] } ∷ [];
      initializers = record { code = 0; self = Nil; target = None } ∷ [];
      literals = trouble_literals;
      trouble_place = 0;
      variables = 0;
      step_limit = 10000000;
      depth_limit = 10000;
      cell_limit = 4194304;
    }

wait_counts_runs : Reports wait_counts 16 (record { ending = WasDone; transcript = 54 ∷ []; steps = 9; depth = 7; cells = 8; events = (Event.Protect 2) ∷ (Event.Signal 4) ∷ (Event.Search 4) ∷ (Event.Tried 2 true) ∷ (Event.Handle 5 2) ∷ (Event.End 5 true) ∷ (Event.End 4 false) ∷ (Event.End 2 false) ∷ [] })
unfolding computing
wait_counts_runs = (refl, refl, refl)

-- Global initializer!Transcript show: ([Error signal. 1] on: Error do: [:e | [Warning signal] on: Warning do: [:w | e return: 4]. 5]) printString!
abbrev pub turn_of_outer_context : Program
turn_of_outer_context =
    record {
      names = (codes "value") ∷ (codes "value:") ∷ (codes "value:value:") ∷ (61 ∷ []) ∷ (codes "defaultAction") ∷ (codes "isResumable") ∷ (codes "handles:") ∷ (codes "doesNotUnderstand:") ∷ (codes "printString") ∷ (codes "signal") ∷ (codes "return:") ∷ (codes "on:do:") ∷ (codes "show:") ∷ [];
      classes = built_in_class_rows;
      methods = [];
      bodies =
          record { kind = InInitializer; class = Class 1; parameters = 0; captured = []; outer = None; statements = Plain (Send 12 (Constant Transcript) (more_trees (Send 8 (Send 11 (Block 1) (more_trees (Constant (Class 24)) (more_trees (Block 2) no_trees))) no_trees) no_trees)) ∷ [] } ∷
          record { kind = InBlock; class = Class 1; parameters = 0; captured = []; outer = (Some 0); statements = Plain (Send 9 (Constant (Class 24)) no_trees) ∷ Plain (Constant (Integer (pos 1))) ∷ [] } ∷
          record { kind = InBlock; class = Class 1; parameters = 1; captured = true ∷ []; outer = (Some 0); statements = Plain (Send 11 (Block 3) (more_trees (Constant (Class 28)) (more_trees (Block 4) no_trees))) ∷ Plain (Constant (Integer (pos 5))) ∷ [] } ∷
          record { kind = InBlock; class = Class 1; parameters = 0; captured = []; outer = (Some 2); statements = Plain (Send 9 (Constant (Class 28)) no_trees) ∷ [] } ∷
          record { kind = InBlock; class = Class 1; parameters = 1; captured = false ∷ []; outer = (Some 2); statements = Plain (Send 10 (Variable (Scoped 1 0)) (more_trees (Constant (Integer (pos 4))) no_trees)) ∷ [] } ∷ [];
      initializers = record { code = 0; self = Nil; target = None } ∷ [];
      literals = trouble_literals;
      trouble_place = 0;
      variables = 0;
      step_limit = 10000000;
      depth_limit = 10000;
      cell_limit = 4194304;
    }

turn_of_outer_context_runs : Reports turn_of_outer_context 19 (record { ending = WasDone; transcript = 52 ∷ []; steps = 11; depth = 11; cells = 16; events = (Event.Protect 2) ∷ (Event.Signal 4) ∷ (Event.Search 4) ∷ (Event.Tried 2 true) ∷ (Event.Handle 5 2) ∷ (Event.Protect 7) ∷ (Event.Signal 9) ∷ (Event.Search 9) ∷ (Event.Tried 7 true) ∷ (Event.Handle 10 7) ∷ (Event.End 10 true) ∷ (Event.End 9 true) ∷ (Event.End 7 true) ∷ (Event.End 5 true) ∷ (Event.End 4 true) ∷ (Event.End 2 false) ∷ [] })
unfolding computing
turn_of_outer_context_runs = (refl, refl, refl)

-- Global initializer!Transcript show: (([[Error signal. 1] on: Error do: [:e | e pass. 2]] on: Error do: [:e | 3]) + 10) printString!
abbrev pub handler_value_goes_to_own_entry : Program
handler_value_goes_to_own_entry =
    record {
      names = (codes "value") ∷ (codes "value:") ∷ (codes "value:value:") ∷ (61 ∷ []) ∷ (codes "defaultAction") ∷ (codes "isResumable") ∷ (codes "handles:") ∷ (codes "doesNotUnderstand:") ∷ (codes "printString") ∷ (codes "signal") ∷ (codes "pass") ∷ (codes "on:do:") ∷ (43 ∷ []) ∷ (codes "show:") ∷ [];
      classes = built_in_class_rows;
      methods = [];
      bodies =
          record { kind = InInitializer; class = Class 1; parameters = 0; captured = []; outer = None; statements = Plain (Send 13 (Constant Transcript) (more_trees (Send 8 (Send 12 (Send 11 (Block 1) (more_trees (Constant (Class 24)) (more_trees (Block 4) no_trees))) (more_trees (Constant (Integer (pos 10))) no_trees)) no_trees) no_trees)) ∷ [] } ∷
          record { kind = InBlock; class = Class 1; parameters = 0; captured = []; outer = (Some 0); statements = Plain (Send 11 (Block 2) (more_trees (Constant (Class 24)) (more_trees (Block 3) no_trees))) ∷ [] } ∷
          record { kind = InBlock; class = Class 1; parameters = 0; captured = []; outer = (Some 1); statements = Plain (Send 9 (Constant (Class 24)) no_trees) ∷ Plain (Constant (Integer (pos 1))) ∷ [] } ∷
          record { kind = InBlock; class = Class 1; parameters = 1; captured = false ∷ []; outer = (Some 1); statements = Plain (Send 10 (Variable (Scoped 0 0)) no_trees) ∷ Plain (Constant (Integer (pos 2))) ∷ [] } ∷
          record { kind = InBlock; class = Class 1; parameters = 1; captured = false ∷ []; outer = (Some 0); statements = Plain (Constant (Integer (pos 3))) ∷ [] } ∷ [];
      initializers = record { code = 0; self = Nil; target = None } ∷ [];
      literals = trouble_literals;
      trouble_place = 0;
      variables = 0;
      step_limit = 10000000;
      depth_limit = 10000;
      cell_limit = 4194304;
    }

handler_value_goes_to_own_entry_runs : Reports handler_value_goes_to_own_entry 20 (record { ending = WasDone; transcript = codes "13"; steps = 11; depth = 10; cells = 12; events = (Event.Protect 2) ∷ (Event.Protect 4) ∷ (Event.Signal 6) ∷ (Event.Search 6) ∷ (Event.Tried 4 true) ∷ (Event.Handle 7 4) ∷ (Event.Search 7) ∷ (Event.Tried 2 true) ∷ (Event.Handle 9 2) ∷ (Event.End 9 true) ∷ (Event.End 7 true) ∷ (Event.End 6 true) ∷ (Event.End 4 true) ∷ (Event.End 2 false) ∷ [] })
unfolding computing
handler_value_goes_to_own_entry_runs = (refl, refl, refl)

-- Global initializer!Transcript show: ([[Error signal: 'a'] on: Error do: [:e | e resignalAs: (Warning new messageText: 'w'; yourself)]] on: Warning do: [:w | w return: w messageText])!
abbrev pub resignal_above : Program
resignal_above =
    record {
      names = (codes "value") ∷ (codes "value:") ∷ (codes "value:value:") ∷ (61 ∷ []) ∷ (codes "defaultAction") ∷ (codes "isResumable") ∷ (codes "handles:") ∷ (codes "doesNotUnderstand:") ∷ (codes "printString") ∷ (codes "signal:") ∷ (codes "new") ∷ (codes "messageText:") ∷ (codes "yourself") ∷ (codes "resignalAs:") ∷ (codes "on:do:") ∷ (codes "messageText") ∷ (codes "return:") ∷ (codes "show:") ∷ [];
      classes = built_in_class_rows;
      methods = [];
      bodies =
          record { kind = InInitializer; class = Class 1; parameters = 0; captured = []; outer = None; statements = Plain (Send 17 (Constant Transcript) (more_trees (Send 14 (Block 1) (more_trees (Constant (Class 28)) (more_trees (Block 4) no_trees))) no_trees)) ∷ [] } ∷
          record { kind = InBlock; class = Class 1; parameters = 0; captured = []; outer = (Some 0); statements = Plain (Send 14 (Block 2) (more_trees (Constant (Class 24)) (more_trees (Block 3) no_trees))) ∷ [] } ∷
          record { kind = InBlock; class = Class 1; parameters = 0; captured = []; outer = (Some 1); statements = Plain (Send 9 (Constant (Class 24)) (more_trees (Constant (Object 0)) no_trees)) ∷ [] } ∷
          record { kind = InBlock; class = Class 1; parameters = 1; captured = false ∷ []; outer = (Some 1); statements = Plain (Send 13 (Variable (Scoped 0 0)) (more_trees (Cascade (Send 10 (Constant (Class 28)) no_trees) (more_messages 11 (more_trees (Constant (Object 1)) no_trees) (more_messages 12 no_trees no_messages))) no_trees)) ∷ [] } ∷
          record { kind = InBlock; class = Class 1; parameters = 1; captured = false ∷ []; outer = (Some 0); statements = Plain (Send 16 (Variable (Scoped 0 0)) (more_trees (Send 15 (Variable (Scoped 0 0)) no_trees) no_trees)) ∷ [] } ∷ [];
      initializers = record { code = 0; self = Nil; target = None } ∷ [];
      literals = (literal_string (97 ∷ []) ∷ literal_string (119 ∷ []) ∷ []) ++ trouble_literals;
      trouble_place = 2;
      variables = 0;
      step_limit = 10000000;
      depth_limit = 10000;
      cell_limit = 4194304;
    }

resignal_above_runs : Reports resignal_above 27 (record { ending = WasDone; transcript = 119 ∷ []; steps = 14; depth = 9; cells = 12; events = (Event.Protect 2) ∷ (Event.Protect 4) ∷ (Event.Signal 6) ∷ (Event.Search 6) ∷ (Event.Tried 4 true) ∷ (Event.Handle 7 4) ∷ (Event.End 7 true) ∷ (Event.Signal 9) ∷ (Event.Search 9) ∷ (Event.Tried 4 false) ∷ (Event.Tried 2 true) ∷ (Event.Handle 10 2) ∷ (Event.End 10 true) ∷ (Event.End 9 true) ∷ (Event.End 6 true) ∷ (Event.End 4 true) ∷ (Event.End 2 false) ∷ [] })
unfolding computing
resignal_above_runs = (refl, refl, refl)

-- Global variable: 'Gv'!Class named: 'F' superclass: 'Exception'!F method!defaultAction ^Gv signal!Global initializer!Transcript show: ([[Gv := ZeroDivide new. Gv signal] on: ZeroDivide do: [:e | e resignalAs: F new]] on: Error do: [:x | x messageText])!
abbrev pub resignal_old_live : Program
resignal_old_live =
    record {
      names = (codes "value") ∷ (codes "value:") ∷ (codes "value:value:") ∷ (61 ∷ []) ∷ (codes "defaultAction") ∷ (codes "isResumable") ∷ (codes "handles:") ∷ (codes "doesNotUnderstand:") ∷ (codes "printString") ∷ (codes "signal") ∷ (codes "new") ∷ (codes "resignalAs:") ∷ (codes "on:do:") ∷ (codes "messageText") ∷ (codes "show:") ∷ [];
      classes = built_in_class_rows ++ record { name = 70 ∷ []; superclass = Some 23; in_file = true; indexed = NoIndexes; slots = 1; class_slots = 1 } ∷ [];
      methods = record { class = 30; side = OfInstance; selector = 4; code = 0 } ∷ [];
      bodies =
          record { kind = InMethod; class = Class 30; parameters = 0; captured = []; outer = None; statements = Return (Send 9 (Variable (Shared 0)) no_trees) ∷ [] } ∷
          record { kind = InInitializer; class = Class 1; parameters = 0; captured = []; outer = None; statements = Plain (Send 14 (Constant Transcript) (more_trees (Send 12 (Block 2) (more_trees (Constant (Class 24)) (more_trees (Block 5) no_trees))) no_trees)) ∷ [] } ∷
          record { kind = InBlock; class = Class 1; parameters = 0; captured = []; outer = (Some 1); statements = Plain (Send 12 (Block 3) (more_trees (Constant (Class 25)) (more_trees (Block 4) no_trees))) ∷ [] } ∷
          record { kind = InBlock; class = Class 1; parameters = 0; captured = []; outer = (Some 2); statements = Plain (Assign (Shared 0) (Send 10 (Constant (Class 25)) no_trees)) ∷ Plain (Send 9 (Variable (Shared 0)) no_trees) ∷ [] } ∷
          record { kind = InBlock; class = Class 1; parameters = 1; captured = false ∷ []; outer = (Some 2); statements = Plain (Send 11 (Variable (Scoped 0 0)) (more_trees (Send 10 (Constant (Class 30)) no_trees) no_trees)) ∷ [] } ∷
          record { kind = InBlock; class = Class 1; parameters = 1; captured = false ∷ []; outer = (Some 1); statements = Plain (Send 13 (Variable (Scoped 0 0)) no_trees) ∷ [] } ∷ [];
      initializers = record { code = 1; self = Nil; target = None } ∷ [];
      literals = trouble_literals;
      trouble_place = 0;
      variables = 1;
      step_limit = 10000000;
      depth_limit = 10000;
      cell_limit = 4194304;
    }

resignal_old_live_runs : Reports resignal_old_live 26 (record { ending = WasDone; transcript = codes "exception is already signaled"; steps = 14; depth = 12; cells = 15; events = (Event.Protect 2) ∷ (Event.Protect 4) ∷ (Event.Signal 6) ∷ (Event.Search 6) ∷ (Event.Tried 4 true) ∷ (Event.Handle 7 4) ∷ (Event.End 7 true) ∷ (Event.Signal 9) ∷ (Event.Search 9) ∷ (Event.Tried 4 false) ∷ (Event.Tried 2 false) ∷ (Event.Default 10) ∷ (Event.Signal 12) ∷ (Event.Search 12) ∷ (Event.Tried 4 false) ∷ (Event.Tried 2 true) ∷ (Event.Handle 13 2) ∷ (Event.End 13 true) ∷ (Event.End 12 true) ∷ (Event.End 10 true) ∷ (Event.End 9 true) ∷ (Event.End 6 true) ∷ (Event.End 4 true) ∷ (Event.End 2 false) ∷ [] })
unfolding computing
resignal_old_live_runs = (refl, refl, refl)

-- Class named: 'Q' superclass: 'Object'!Q method!handles: e Transcript show: 'q'. ^false!Global initializer!Transcript show: ([[[Error signal: 'x'. 1] on: Q new do: [:e | 2]] on: Q new do: [:e | 3]] on: Error do: [:e | 4]) printString!
abbrev pub handles_two_asks : Program
handles_two_asks =
    record {
      names = (codes "value") ∷ (codes "value:") ∷ (codes "value:value:") ∷ (61 ∷ []) ∷ (codes "defaultAction") ∷ (codes "isResumable") ∷ (codes "handles:") ∷ (codes "doesNotUnderstand:") ∷ (codes "printString") ∷ (codes "show:") ∷ (codes "signal:") ∷ (codes "new") ∷ (codes "on:do:") ∷ [];
      classes = built_in_class_rows ++ record { name = 81 ∷ []; superclass = Some 0; in_file = true; indexed = NoIndexes; slots = 0; class_slots = 0 } ∷ [];
      methods = record { class = 30; side = OfInstance; selector = 6; code = 0 } ∷ [];
      bodies =
          record { kind = InMethod; class = Class 30; parameters = 1; captured = false ∷ []; outer = None; statements = Plain (Send 9 (Constant Transcript) (more_trees (Constant (Object 0)) no_trees)) ∷ Return (Constant False) ∷ [] } ∷
          record { kind = InInitializer; class = Class 1; parameters = 0; captured = []; outer = None; statements = Plain (Send 9 (Constant Transcript) (more_trees (Send 8 (Send 12 (Block 2) (more_trees (Constant (Class 24)) (more_trees (Block 7) no_trees))) no_trees) no_trees)) ∷ [] } ∷
          record { kind = InBlock; class = Class 1; parameters = 0; captured = []; outer = (Some 1); statements = Plain (Send 12 (Block 3) (more_trees (Send 11 (Constant (Class 30)) no_trees) (more_trees (Block 6) no_trees))) ∷ [] } ∷
          record { kind = InBlock; class = Class 1; parameters = 0; captured = []; outer = (Some 2); statements = Plain (Send 12 (Block 4) (more_trees (Send 11 (Constant (Class 30)) no_trees) (more_trees (Block 5) no_trees))) ∷ [] } ∷
          record { kind = InBlock; class = Class 1; parameters = 0; captured = []; outer = (Some 3); statements = Plain (Send 10 (Constant (Class 24)) (more_trees (Constant (Object 1)) no_trees)) ∷ Plain (Constant (Integer (pos 1))) ∷ [] } ∷
          record { kind = InBlock; class = Class 1; parameters = 1; captured = false ∷ []; outer = (Some 3); statements = Plain (Constant (Integer (pos 2))) ∷ [] } ∷
          record { kind = InBlock; class = Class 1; parameters = 1; captured = false ∷ []; outer = (Some 2); statements = Plain (Constant (Integer (pos 3))) ∷ [] } ∷
          record { kind = InBlock; class = Class 1; parameters = 1; captured = false ∷ []; outer = (Some 1); statements = Plain (Constant (Integer (pos 4))) ∷ [] } ∷ [];
      initializers = record { code = 1; self = Nil; target = None } ∷ [];
      literals = (literal_string (113 ∷ []) ∷ literal_string (120 ∷ []) ∷ []) ++ trouble_literals;
      trouble_place = 2;
      variables = 0;
      step_limit = 10000000;
      depth_limit = 10000;
      cell_limit = 4194304;
    }

handles_two_asks_runs : Reports handles_two_asks 35 (record { ending = WasDone; transcript = codes "qq4"; steps = 16; depth = 10; cells = 18; events = (Event.Protect 2) ∷ (Event.Protect 4) ∷ (Event.Protect 6) ∷ (Event.Signal 8) ∷ (Event.Search 8) ∷ (Event.Ask 9 6) ∷ (Event.End 9 false) ∷ (Event.Tried 6 false) ∷ (Event.Ask 11 4) ∷ (Event.End 11 false) ∷ (Event.Tried 4 false) ∷ (Event.Tried 2 true) ∷ (Event.Handle 13 2) ∷ (Event.End 13 true) ∷ (Event.End 8 true) ∷ (Event.End 6 true) ∷ (Event.End 4 true) ∷ (Event.End 2 false) ∷ [] })
unfolding computing
handles_two_asks_runs = (refl, refl, refl)

-- Class named: 'Q' superclass: 'Object'!Q method!handles: e Transcript show: 'q'. ^true!Global initializer![[Error signal] on: Error do: [:e | Transcript show: e isNested printString]] on: Q new do: [:e | 1]!
abbrev pub handles_nested : Program
handles_nested =
    record {
      names = (codes "value") ∷ (codes "value:") ∷ (codes "value:value:") ∷ (61 ∷ []) ∷ (codes "defaultAction") ∷ (codes "isResumable") ∷ (codes "handles:") ∷ (codes "doesNotUnderstand:") ∷ (codes "printString") ∷ (codes "show:") ∷ (codes "signal") ∷ (codes "isNested") ∷ (codes "on:do:") ∷ (codes "new") ∷ [];
      classes = built_in_class_rows ++ record { name = 81 ∷ []; superclass = Some 0; in_file = true; indexed = NoIndexes; slots = 0; class_slots = 0 } ∷ [];
      methods = record { class = 30; side = OfInstance; selector = 6; code = 0 } ∷ [];
      bodies =
          record { kind = InMethod; class = Class 30; parameters = 1; captured = false ∷ []; outer = None; statements = Plain (Send 9 (Constant Transcript) (more_trees (Constant (Object 0)) no_trees)) ∷ Return (Constant True) ∷ [] } ∷
          record { kind = InInitializer; class = Class 1; parameters = 0; captured = []; outer = None; statements = Plain (Send 12 (Block 2) (more_trees (Send 13 (Constant (Class 30)) no_trees) (more_trees (Block 5) no_trees))) ∷ [] } ∷
          record { kind = InBlock; class = Class 1; parameters = 0; captured = []; outer = (Some 1); statements = Plain (Send 12 (Block 3) (more_trees (Constant (Class 24)) (more_trees (Block 4) no_trees))) ∷ [] } ∷
          record { kind = InBlock; class = Class 1; parameters = 0; captured = []; outer = (Some 2); statements = Plain (Send 10 (Constant (Class 24)) no_trees) ∷ [] } ∷
          record { kind = InBlock; class = Class 1; parameters = 1; captured = false ∷ []; outer = (Some 2); statements = Plain (Send 9 (Constant Transcript) (more_trees (Send 8 (Send 11 (Variable (Scoped 0 0)) no_trees) no_trees) no_trees)) ∷ [] } ∷
          record { kind = InBlock; class = Class 1; parameters = 1; captured = false ∷ []; outer = (Some 1); statements = Plain (Constant (Integer (pos 1))) ∷ [] } ∷ [];
      initializers = record { code = 1; self = Nil; target = None } ∷ [];
      literals = (literal_string (113 ∷ []) ∷ []) ++ trouble_literals;
      trouble_place = 1;
      variables = 0;
      step_limit = 10000000;
      depth_limit = 10000;
      cell_limit = 4194304;
    }

handles_nested_runs : Reports handles_nested 25 (record { ending = WasDone; transcript = codes "qtrue"; steps = 12; depth = 10; cells = 13; events = (Event.Protect 2) ∷ (Event.Protect 4) ∷ (Event.Signal 6) ∷ (Event.Search 6) ∷ (Event.Tried 4 true) ∷ (Event.Handle 7 4) ∷ (Event.Search 7) ∷ (Event.Ask 9 2) ∷ (Event.End 9 false) ∷ (Event.Tried 2 true) ∷ (Event.Known) ∷ (Event.End 7 true) ∷ (Event.End 6 true) ∷ (Event.End 4 false) ∷ (Event.End 2 false) ∷ [] })
unfolding computing
handles_nested_runs = (refl, refl, refl)

-- Global initializer!Transcript show: ([[Error signal. 1] on: Error do: [:e | e perform: #pass. 2]] on: Error do: [:e | e perform: #return: with: 3]) printString!
abbrev pub perform_control : Program
perform_control =
    record {
      names = (codes "value") ∷ (codes "value:") ∷ (codes "value:value:") ∷ (61 ∷ []) ∷ (codes "defaultAction") ∷ (codes "isResumable") ∷ (codes "handles:") ∷ (codes "doesNotUnderstand:") ∷ (codes "printString") ∷ (codes "signal") ∷ (codes "pass") ∷ (codes "perform:") ∷ (codes "on:do:") ∷ (codes "return:") ∷ (codes "perform:with:") ∷ (codes "show:") ∷ [];
      classes = built_in_class_rows;
      methods = [];
      bodies =
          record { kind = InInitializer; class = Class 1; parameters = 0; captured = []; outer = None; statements = Plain (Send 15 (Constant Transcript) (more_trees (Send 8 (Send 12 (Block 1) (more_trees (Constant (Class 24)) (more_trees (Block 4) no_trees))) no_trees) no_trees)) ∷ [] } ∷
          record { kind = InBlock; class = Class 1; parameters = 0; captured = []; outer = (Some 0); statements = Plain (Send 12 (Block 2) (more_trees (Constant (Class 24)) (more_trees (Block 3) no_trees))) ∷ [] } ∷
          record { kind = InBlock; class = Class 1; parameters = 0; captured = []; outer = (Some 1); statements = Plain (Send 9 (Constant (Class 24)) no_trees) ∷ Plain (Constant (Integer (pos 1))) ∷ [] } ∷
          record { kind = InBlock; class = Class 1; parameters = 1; captured = false ∷ []; outer = (Some 1); statements = Plain (Send 11 (Variable (Scoped 0 0)) (more_trees (Constant (Symbol 10)) no_trees)) ∷ Plain (Constant (Integer (pos 2))) ∷ [] } ∷
          record { kind = InBlock; class = Class 1; parameters = 1; captured = false ∷ []; outer = (Some 0); statements = Plain (Send 14 (Variable (Scoped 0 0)) (more_trees (Constant (Symbol 13)) (more_trees (Constant (Integer (pos 3))) no_trees))) ∷ [] } ∷ [];
      initializers = record { code = 0; self = Nil; target = None } ∷ [];
      literals = trouble_literals;
      trouble_place = 0;
      variables = 0;
      step_limit = 10000000;
      depth_limit = 10000;
      cell_limit = 4194304;
    }

perform_control_runs : Reports perform_control 21 (record { ending = WasDone; transcript = 51 ∷ []; steps = 13; depth = 10; cells = 12; events = (Event.Protect 2) ∷ (Event.Protect 4) ∷ (Event.Signal 6) ∷ (Event.Search 6) ∷ (Event.Tried 4 true) ∷ (Event.Handle 7 4) ∷ (Event.Search 7) ∷ (Event.Tried 2 true) ∷ (Event.Handle 9 2) ∷ (Event.End 9 true) ∷ (Event.End 7 true) ∷ (Event.End 6 true) ∷ (Event.End 4 true) ∷ (Event.End 2 false) ∷ [] })
unfolding computing
perform_control_runs = (refl, refl, refl)

-- Global initializer!| a | a := 1. [a] value!Global initializer!| a b | a := 1. b := 2. [a + b] value!
abbrev pub second_initializer : Program
second_initializer =
    record {
      names = (codes "value") ∷ (codes "value:") ∷ (codes "value:value:") ∷ (61 ∷ []) ∷ (codes "defaultAction") ∷ (codes "isResumable") ∷ (codes "handles:") ∷ (codes "doesNotUnderstand:") ∷ (codes "printString") ∷ (43 ∷ []) ∷ [];
      classes = built_in_class_rows;
      methods = [];
      bodies =
          record { kind = InInitializer; class = Class 1; parameters = 0; captured = true ∷ []; outer = None; statements = Plain (Assign (Scoped 0 0) (Constant (Integer (pos 1)))) ∷ Plain (Send 0 (Block 1) no_trees) ∷ [] } ∷
          record { kind = InBlock; class = Class 1; parameters = 0; captured = []; outer = (Some 0); statements = Plain (Variable (Scoped 1 0)) ∷ [] } ∷
          record { kind = InInitializer; class = Class 1; parameters = 0; captured = true ∷ true ∷ []; outer = None; statements = Plain (Assign (Scoped 0 0) (Constant (Integer (pos 1)))) ∷ Plain (Assign (Scoped 0 1) (Constant (Integer (pos 2)))) ∷ Plain (Send 0 (Block 3) no_trees) ∷ [] } ∷
          record { kind = InBlock; class = Class 1; parameters = 0; captured = []; outer = (Some 2); statements = Plain (Send 9 (Variable (Scoped 1 0)) (more_trees (Variable (Scoped 1 1)) no_trees)) ∷ [] } ∷ [];
      initializers = record { code = 0; self = Nil; target = None } ∷ record { code = 2; self = Nil; target = None } ∷ [];
      literals = trouble_literals;
      trouble_place = 0;
      variables = 0;
      step_limit = 10000000;
      depth_limit = 10000;
      cell_limit = 4194304;
    }

second_initializer_runs : Reports second_initializer 21 (record { ending = WasDone; transcript = []; steps = 5; depth = 2; cells = 9; events = [] })
unfolding computing
second_initializer_runs = (refl, refl, refl)
