-- Runs with non-local returns and termination blocks. Each is computed by the rules and by both machines.
use Rattle.std.proofs.Common.{[], ◌∷◌, ◌++◌, refl, true, false, Some, None, pos}
use Rattle.std.specs.Prelude.{codes}
use Rattle.object_heap.specs.declared.value.Value.TheVariants.{Nil, True, Integer, Class, Transcript, Object}
use Rattle.st_code.specs.Program.{Program, Scoped, Shared, Constant, Variable, Assign, Block, Send, no_trees, more_trees, Plain, Return, InMethod, InBlock, InInitializer, OfInstance, NoIndexes}
use Rattle.st_rules.specs.Events.{Event}
use Rattle.st_code.specs.BuiltIns.{built_in_class_rows}
use Rattle.st_code.specs.Literals.{literal_string, trouble_literals}
use Rattle.st_rules.proofs.Computing.{Reports, computing, WasDone, WasUnhandled}

-- Class named: 'Q' superclass: 'Object'!Q method!blk ^[^1]!Global initializer!| b | b := Q new blk. Transcript show: ([b value] on: Error do: [:e | e messageText]). b value!
abbrev pub home_gone : Program
home_gone =
    record {
      names = (codes "value") ∷ (codes "value:") ∷ (codes "value:value:") ∷ (61 ∷ []) ∷ (codes "defaultAction") ∷ (codes "isResumable") ∷ (codes "handles:") ∷ (codes "doesNotUnderstand:") ∷ (codes "printString") ∷ (codes "blk") ∷ (codes "new") ∷ (codes "messageText") ∷ (codes "on:do:") ∷ (codes "show:") ∷ [];
      classes = built_in_class_rows ++ record { name = 81 ∷ []; superclass = Some 0; in_file = true; indexed = NoIndexes; slots = 0; class_slots = 0 } ∷ [];
      methods = record { class = 30; side = OfInstance; selector = 9; code = 0 } ∷ [];
      bodies =
          record { kind = InMethod; class = Class 30; parameters = 0; captured = []; outer = None; statements = Return (Block 1) ∷ [] } ∷
          record { kind = InBlock; class = Class 30; parameters = 0; captured = []; outer = (Some 0); statements = Return (Constant (Integer (pos 1))) ∷ [] } ∷
          record { kind = InInitializer; class = Class 1; parameters = 0; captured = true ∷ []; outer = None; statements = Plain (Assign (Scoped 0 0) (Send 9 (Send 10 (Constant (Class 30)) no_trees) no_trees)) ∷ Plain (Send 13 (Constant Transcript) (more_trees (Send 12 (Block 3) (more_trees (Constant (Class 24)) (more_trees (Block 4) no_trees))) no_trees)) ∷ Plain (Send 0 (Variable (Scoped 0 0)) no_trees) ∷ [] } ∷
          record { kind = InBlock; class = Class 1; parameters = 0; captured = []; outer = (Some 2); statements = Plain (Send 0 (Variable (Scoped 1 0)) no_trees) ∷ [] } ∷
          record { kind = InBlock; class = Class 1; parameters = 1; captured = false ∷ []; outer = (Some 2); statements = Plain (Send 11 (Variable (Scoped 0 0)) no_trees) ∷ [] } ∷ [];
      initializers = record { code = 2; self = Nil; target = None } ∷ [];
      literals = trouble_literals;
      trouble_place = 0;
      variables = 0;
      step_limit = 10000000;
      depth_limit = 10000;
      cell_limit = 4194304;
    }

home_gone_runs : Reports home_gone 25 (record { ending = WasUnhandled (codes "Error") (codes "home method has returned"); transcript = codes "home method has returned"; steps = 12; depth = 7; cells = 13; events = (Event.Protect 3) ∷ (Event.Signal 6) ∷ (Event.Search 6) ∷ (Event.Tried 3 true) ∷ (Event.Handle 7 3) ∷ (Event.End 7 true) ∷ (Event.End 6 true) ∷ (Event.End 3 false) ∷ (Event.Signal 10) ∷ (Event.Search 10) ∷ (Event.Default 11) ∷ (Event.End 11 true) ∷ (Event.End 10 true) ∷ [] })
unfolding computing
home_gone_runs = (refl, refl, refl)

-- Global initializer!Transcript show: ([[[Error signal: 'a'] ensure: [Error signal: 'b']] ensure: [Transcript show: 'c']] on: Error do: [:e | e return: e messageText])!
abbrev pub unwinding_replaced : Program
unwinding_replaced =
    record {
      names = (codes "value") ∷ (codes "value:") ∷ (codes "value:value:") ∷ (61 ∷ []) ∷ (codes "defaultAction") ∷ (codes "isResumable") ∷ (codes "handles:") ∷ (codes "doesNotUnderstand:") ∷ (codes "printString") ∷ (codes "signal:") ∷ (codes "ensure:") ∷ (codes "show:") ∷ (codes "messageText") ∷ (codes "return:") ∷ (codes "on:do:") ∷ [];
      classes = built_in_class_rows;
      methods = [];
      bodies =
          record { kind = InInitializer; class = Class 1; parameters = 0; captured = []; outer = None; statements = Plain (Send 11 (Constant Transcript) (more_trees (Send 14 (Block 1) (more_trees (Constant (Class 24)) (more_trees (Block 6) no_trees))) no_trees)) ∷ [] } ∷
          record { kind = InBlock; class = Class 1; parameters = 0; captured = []; outer = (Some 0); statements = Plain (Send 10 (Block 2) (more_trees (Block 5) no_trees)) ∷ [] } ∷
          record { kind = InBlock; class = Class 1; parameters = 0; captured = []; outer = (Some 1); statements = Plain (Send 10 (Block 3) (more_trees (Block 4) no_trees)) ∷ [] } ∷
          record { kind = InBlock; class = Class 1; parameters = 0; captured = []; outer = (Some 2); statements = Plain (Send 9 (Constant (Class 24)) (more_trees (Constant (Object 0)) no_trees)) ∷ [] } ∷
          record { kind = InBlock; class = Class 1; parameters = 0; captured = []; outer = (Some 2); statements = Plain (Send 9 (Constant (Class 24)) (more_trees (Constant (Object 1)) no_trees)) ∷ [] } ∷
          record { kind = InBlock; class = Class 1; parameters = 0; captured = []; outer = (Some 1); statements = Plain (Send 11 (Constant Transcript) (more_trees (Constant (Object 2)) no_trees)) ∷ [] } ∷
          record { kind = InBlock; class = Class 1; parameters = 1; captured = false ∷ []; outer = (Some 0); statements = Plain (Send 13 (Variable (Scoped 0 0)) (more_trees (Send 12 (Variable (Scoped 0 0)) no_trees) no_trees)) ∷ [] } ∷ [];
      initializers = record { code = 0; self = Nil; target = None } ∷ [];
      literals = (literal_string (97 ∷ []) ∷ literal_string (98 ∷ []) ∷ literal_string (99 ∷ []) ∷ []) ++ trouble_literals;
      trouble_place = 3;
      variables = 0;
      step_limit = 10000000;
      depth_limit = 10000;
      cell_limit = 4194304;
    }

unwinding_replaced_runs : Reports unwinding_replaced 31 (record { ending = WasDone; transcript = codes "cb"; steps = 18; depth = 10; cells = 16; events = (Event.Protect 2) ∷ (Event.Ensure 4) ∷ (Event.Ensure 6) ∷ (Event.Signal 8) ∷ (Event.Search 8) ∷ (Event.Tried 2 true) ∷ (Event.Handle 9 2) ∷ (Event.End 9 true) ∷ (Event.End 8 true) ∷ (Event.Action 6) ∷ (Event.Signal 12) ∷ (Event.Search 12) ∷ (Event.Tried 2 true) ∷ (Event.Handle 13 2) ∷ (Event.End 13 true) ∷ (Event.End 12 true) ∷ (Event.End 6 true) ∷ (Event.Action 4) ∷ (Event.End 4 true) ∷ (Event.End 2 false) ∷ [] })
unfolding computing
unwinding_replaced_runs = (refl, refl, refl)

-- Class named: 'Q' superclass: 'Object'!Q method!m [[^1] ensure: [^2]] ensure: [Transcript show: 'x']. ^3!Global initializer!Transcript show: Q new m printString!
abbrev pub return_replaced : Program
return_replaced =
    record {
      names = (codes "value") ∷ (codes "value:") ∷ (codes "value:value:") ∷ (61 ∷ []) ∷ (codes "defaultAction") ∷ (codes "isResumable") ∷ (codes "handles:") ∷ (codes "doesNotUnderstand:") ∷ (codes "printString") ∷ (codes "ensure:") ∷ (codes "show:") ∷ (109 ∷ []) ∷ (codes "new") ∷ [];
      classes = built_in_class_rows ++ record { name = 81 ∷ []; superclass = Some 0; in_file = true; indexed = NoIndexes; slots = 0; class_slots = 0 } ∷ [];
      methods = record { class = 30; side = OfInstance; selector = 11; code = 0 } ∷ [];
      bodies =
          record { kind = InMethod; class = Class 30; parameters = 0; captured = []; outer = None; statements = Plain (Send 9 (Block 1) (more_trees (Block 4) no_trees)) ∷ Return (Constant (Integer (pos 3))) ∷ [] } ∷
          record { kind = InBlock; class = Class 30; parameters = 0; captured = []; outer = (Some 0); statements = Plain (Send 9 (Block 2) (more_trees (Block 3) no_trees)) ∷ [] } ∷
          record { kind = InBlock; class = Class 30; parameters = 0; captured = []; outer = (Some 1); statements = Return (Constant (Integer (pos 1))) ∷ [] } ∷
          record { kind = InBlock; class = Class 30; parameters = 0; captured = []; outer = (Some 1); statements = Return (Constant (Integer (pos 2))) ∷ [] } ∷
          record { kind = InBlock; class = Class 30; parameters = 0; captured = []; outer = (Some 0); statements = Plain (Send 10 (Constant Transcript) (more_trees (Constant (Object 0)) no_trees)) ∷ [] } ∷
          record { kind = InInitializer; class = Class 1; parameters = 0; captured = []; outer = None; statements = Plain (Send 10 (Constant Transcript) (more_trees (Send 8 (Send 11 (Send 12 (Constant (Class 30)) no_trees) no_trees) no_trees) no_trees)) ∷ [] } ∷ [];
      initializers = record { code = 5; self = Nil; target = None } ∷ [];
      literals = (literal_string (120 ∷ []) ∷ []) ++ trouble_literals;
      trouble_place = 1;
      variables = 0;
      step_limit = 10000000;
      depth_limit = 10000;
      cell_limit = 4194304;
    }

return_replaced_runs : Reports return_replaced 21 (record { ending = WasDone; transcript = codes "x2"; steps = 11; depth = 6; cells = 11; events = (Event.Ensure 3) ∷ (Event.Ensure 5) ∷ (Event.Action 5) ∷ (Event.End 5 true) ∷ (Event.Action 3) ∷ (Event.End 3 true) ∷ [] })
unfolding computing
return_replaced_runs = (refl, refl, refl)

-- Global initializer!| n | n := 0. [[n := n + 1. Error signal] ensure: [n = 1 ifTrue: [Error signal: 'again']]] on: Error do: [:e | Transcript show: e messageText. n < 3 ifTrue: [e retry]]!
abbrev pub retry_in_unwinding : Program
retry_in_unwinding =
    record {
      names = (codes "value") ∷ (codes "value:") ∷ (codes "value:value:") ∷ (61 ∷ []) ∷ (codes "defaultAction") ∷ (codes "isResumable") ∷ (codes "handles:") ∷ (codes "doesNotUnderstand:") ∷ (codes "printString") ∷ (43 ∷ []) ∷ (codes "signal") ∷ (codes "signal:") ∷ (codes "ifTrue:") ∷ (codes "ensure:") ∷ (codes "messageText") ∷ (codes "show:") ∷ (60 ∷ []) ∷ (codes "retry") ∷ (codes "on:do:") ∷ [];
      classes = built_in_class_rows;
      methods = [];
      bodies =
          record { kind = InInitializer; class = Class 1; parameters = 0; captured = true ∷ []; outer = None; statements = Plain (Assign (Scoped 0 0) (Constant (Integer (pos 0)))) ∷ Plain (Send 18 (Block 1) (more_trees (Constant (Class 24)) (more_trees (Block 5) no_trees))) ∷ [] } ∷
          record { kind = InBlock; class = Class 1; parameters = 0; captured = []; outer = (Some 0); statements = Plain (Send 13 (Block 2) (more_trees (Block 3) no_trees)) ∷ [] } ∷
          record { kind = InBlock; class = Class 1; parameters = 0; captured = []; outer = (Some 1); statements = Plain (Assign (Scoped 2 0) (Send 9 (Variable (Scoped 2 0)) (more_trees (Constant (Integer (pos 1))) no_trees))) ∷ Plain (Send 10 (Constant (Class 24)) no_trees) ∷ [] } ∷
          record { kind = InBlock; class = Class 1; parameters = 0; captured = []; outer = (Some 1); statements = Plain (Send 12 (Send 3 (Variable (Scoped 2 0)) (more_trees (Constant (Integer (pos 1))) no_trees)) (more_trees (Block 4) no_trees)) ∷ [] } ∷
          record { kind = InBlock; class = Class 1; parameters = 0; captured = []; outer = (Some 3); statements = Plain (Send 11 (Constant (Class 24)) (more_trees (Constant (Object 0)) no_trees)) ∷ [] } ∷
          record { kind = InBlock; class = Class 1; parameters = 1; captured = true ∷ []; outer = (Some 0); statements = Plain (Send 15 (Constant Transcript) (more_trees (Send 14 (Variable (Scoped 0 0)) no_trees) no_trees)) ∷ Plain (Send 12 (Send 16 (Variable (Scoped 1 0)) (more_trees (Constant (Integer (pos 3))) no_trees)) (more_trees (Block 6) no_trees)) ∷ [] } ∷
          record { kind = InBlock; class = Class 1; parameters = 0; captured = []; outer = (Some 5); statements = Plain (Send 17 (Variable (Scoped 1 0)) no_trees) ∷ [] } ∷ [];
      initializers = record { code = 0; self = Nil; target = None } ∷ [];
      literals = (literal_string (codes "again") ∷ []) ++ trouble_literals;
      trouble_place = 1;
      variables = 0;
      step_limit = 10000000;
      depth_limit = 10000;
      cell_limit = 4194304;
    }

retry_in_unwinding_runs : Reports retry_in_unwinding 105 (record { ending = WasDone; transcript = codes "ErroragainErrorError"; steps = 53; depth = 10; cells = 54; events = (Event.Protect 2) ∷ (Event.Ensure 4) ∷ (Event.Signal 6) ∷ (Event.Search 6) ∷ (Event.Tried 2 true) ∷ (Event.Handle 7 2) ∷ (Event.End 7 true) ∷ (Event.End 6 true) ∷ (Event.Action 4) ∷ (Event.Signal 12) ∷ (Event.Search 12) ∷ (Event.Tried 2 true) ∷ (Event.Handle 13 2) ∷ (Event.End 13 true) ∷ (Event.End 12 true) ∷ (Event.End 4 true) ∷ (Event.Again 2) ∷ (Event.Ensure 17) ∷ (Event.Signal 19) ∷ (Event.Search 19) ∷ (Event.Tried 2 true) ∷ (Event.Handle 20 2) ∷ (Event.End 20 true) ∷ (Event.End 19 true) ∷ (Event.Action 17) ∷ (Event.End 17 true) ∷ (Event.Again 2) ∷ (Event.Ensure 25) ∷ (Event.Signal 27) ∷ (Event.Search 27) ∷ (Event.Tried 2 true) ∷ (Event.Handle 28 2) ∷ (Event.End 28 true) ∷ (Event.End 27 true) ∷ (Event.Action 25) ∷ (Event.End 25 true) ∷ (Event.End 2 false) ∷ [] })
unfolding computing
retry_in_unwinding_runs = (refl, refl, refl)

-- Class named: 'Q' superclass: 'Object'!Q method!m [Error signal: 'a'] ensure: [^7]!Global initializer!Transcript show: Q new m printString!
abbrev pub return_out_of_action : Program
return_out_of_action =
    record {
      names = (codes "value") ∷ (codes "value:") ∷ (codes "value:value:") ∷ (61 ∷ []) ∷ (codes "defaultAction") ∷ (codes "isResumable") ∷ (codes "handles:") ∷ (codes "doesNotUnderstand:") ∷ (codes "printString") ∷ (codes "signal:") ∷ (codes "ensure:") ∷ (109 ∷ []) ∷ (codes "new") ∷ (codes "show:") ∷ [];
      classes = built_in_class_rows ++ record { name = 81 ∷ []; superclass = Some 0; in_file = true; indexed = NoIndexes; slots = 0; class_slots = 0 } ∷ [];
      methods = record { class = 30; side = OfInstance; selector = 11; code = 0 } ∷ [];
      bodies =
          record { kind = InMethod; class = Class 30; parameters = 0; captured = []; outer = None; statements = Plain (Send 10 (Block 1) (more_trees (Block 2) no_trees)) ∷ [] } ∷
          record { kind = InBlock; class = Class 30; parameters = 0; captured = []; outer = (Some 0); statements = Plain (Send 9 (Constant (Class 24)) (more_trees (Constant (Object 0)) no_trees)) ∷ [] } ∷
          record { kind = InBlock; class = Class 30; parameters = 0; captured = []; outer = (Some 0); statements = Return (Constant (Integer (pos 7))) ∷ [] } ∷
          record { kind = InInitializer; class = Class 1; parameters = 0; captured = []; outer = None; statements = Plain (Send 13 (Constant Transcript) (more_trees (Send 8 (Send 11 (Send 12 (Constant (Class 30)) no_trees) no_trees) no_trees) no_trees)) ∷ [] } ∷ [];
      initializers = record { code = 3; self = Nil; target = None } ∷ [];
      literals = (literal_string (97 ∷ []) ∷ []) ++ trouble_literals;
      trouble_place = 1;
      variables = 0;
      step_limit = 10000000;
      depth_limit = 10000;
      cell_limit = 4194304;
    }

return_out_of_action_runs : Reports return_out_of_action 15 (record { ending = WasDone; transcript = 55 ∷ []; steps = 9; depth = 6; cells = 9; events = (Event.Ensure 3) ∷ (Event.Signal 5) ∷ (Event.Search 5) ∷ (Event.Default 6) ∷ (Event.End 6 true) ∷ (Event.End 5 true) ∷ (Event.Action 3) ∷ (Event.End 3 true) ∷ [] })
unfolding computing
return_out_of_action_runs = (refl, refl, refl)

-- Global initializer!Transcript show: ([Error signal] on: Error do: [:e | [e return: 4] ensure: [Transcript show: 'h']]) printString!
abbrev pub action_in_handler : Program
action_in_handler =
    record {
      names = (codes "value") ∷ (codes "value:") ∷ (codes "value:value:") ∷ (61 ∷ []) ∷ (codes "defaultAction") ∷ (codes "isResumable") ∷ (codes "handles:") ∷ (codes "doesNotUnderstand:") ∷ (codes "printString") ∷ (codes "signal") ∷ (codes "return:") ∷ (codes "show:") ∷ (codes "ensure:") ∷ (codes "on:do:") ∷ [];
      classes = built_in_class_rows;
      methods = [];
      bodies =
          record { kind = InInitializer; class = Class 1; parameters = 0; captured = []; outer = None; statements = Plain (Send 11 (Constant Transcript) (more_trees (Send 8 (Send 13 (Block 1) (more_trees (Constant (Class 24)) (more_trees (Block 2) no_trees))) no_trees) no_trees)) ∷ [] } ∷
          record { kind = InBlock; class = Class 1; parameters = 0; captured = []; outer = (Some 0); statements = Plain (Send 9 (Constant (Class 24)) no_trees) ∷ [] } ∷
          record { kind = InBlock; class = Class 1; parameters = 1; captured = true ∷ []; outer = (Some 0); statements = Plain (Send 12 (Block 3) (more_trees (Block 4) no_trees)) ∷ [] } ∷
          record { kind = InBlock; class = Class 1; parameters = 0; captured = []; outer = (Some 2); statements = Plain (Send 10 (Variable (Scoped 1 0)) (more_trees (Constant (Integer (pos 4))) no_trees)) ∷ [] } ∷
          record { kind = InBlock; class = Class 1; parameters = 0; captured = []; outer = (Some 2); statements = Plain (Send 11 (Constant Transcript) (more_trees (Constant (Object 0)) no_trees)) ∷ [] } ∷ [];
      initializers = record { code = 0; self = Nil; target = None } ∷ [];
      literals = (literal_string (104 ∷ []) ∷ []) ++ trouble_literals;
      trouble_place = 1;
      variables = 0;
      step_limit = 10000000;
      depth_limit = 10000;
      cell_limit = 4194304;
    }

action_in_handler_runs : Reports action_in_handler 20 (record { ending = WasDone; transcript = codes "h4"; steps = 11; depth = 8; cells = 14; events = (Event.Protect 2) ∷ (Event.Signal 4) ∷ (Event.Search 4) ∷ (Event.Tried 2 true) ∷ (Event.Handle 5 2) ∷ (Event.Ensure 7) ∷ (Event.Action 7) ∷ (Event.End 7 true) ∷ (Event.End 5 true) ∷ (Event.End 4 true) ∷ (Event.End 2 false) ∷ [] })
unfolding computing
action_in_handler_runs = (refl, refl, refl)

-- Global initializer!Transcript show: ([3] ifCurtailed: [Transcript show: 'x']) printString!
abbrev pub not_curtailed : Program
not_curtailed =
    record {
      names = (codes "value") ∷ (codes "value:") ∷ (codes "value:value:") ∷ (61 ∷ []) ∷ (codes "defaultAction") ∷ (codes "isResumable") ∷ (codes "handles:") ∷ (codes "doesNotUnderstand:") ∷ (codes "printString") ∷ (codes "show:") ∷ (codes "ifCurtailed:") ∷ [];
      classes = built_in_class_rows;
      methods = [];
      bodies =
          record { kind = InInitializer; class = Class 1; parameters = 0; captured = []; outer = None; statements = Plain (Send 9 (Constant Transcript) (more_trees (Send 8 (Send 10 (Block 1) (more_trees (Block 2) no_trees)) no_trees) no_trees)) ∷ [] } ∷
          record { kind = InBlock; class = Class 1; parameters = 0; captured = []; outer = (Some 0); statements = Plain (Constant (Integer (pos 3))) ∷ [] } ∷
          record { kind = InBlock; class = Class 1; parameters = 0; captured = []; outer = (Some 0); statements = Plain (Send 9 (Constant Transcript) (more_trees (Constant (Object 0)) no_trees)) ∷ [] } ∷ [];
      initializers = record { code = 0; self = Nil; target = None } ∷ [];
      literals = (literal_string (120 ∷ []) ∷ []) ++ trouble_literals;
      trouble_place = 1;
      variables = 0;
      step_limit = 10000000;
      depth_limit = 10000;
      cell_limit = 4194304;
    }

not_curtailed_runs : Reports not_curtailed 9 (record { ending = WasDone; transcript = 51 ∷ []; steps = 4; depth = 3; cells = 6; events = (Event.Curtail 2) ∷ (Event.End 2 false) ∷ [] })
unfolding computing
not_curtailed_runs = (refl, refl, refl)

-- Class named: 'Q' superclass: 'Object'!Q method!m [3] ensure: [^7]. ^1!Global initializer!Transcript show: Q new m printString!
abbrev pub ensure_value_then_go : Program
ensure_value_then_go =
    record {
      names = (codes "value") ∷ (codes "value:") ∷ (codes "value:value:") ∷ (61 ∷ []) ∷ (codes "defaultAction") ∷ (codes "isResumable") ∷ (codes "handles:") ∷ (codes "doesNotUnderstand:") ∷ (codes "printString") ∷ (codes "ensure:") ∷ (109 ∷ []) ∷ (codes "new") ∷ (codes "show:") ∷ [];
      classes = built_in_class_rows ++ record { name = 81 ∷ []; superclass = Some 0; in_file = true; indexed = NoIndexes; slots = 0; class_slots = 0 } ∷ [];
      methods = record { class = 30; side = OfInstance; selector = 10; code = 0 } ∷ [];
      bodies =
          record { kind = InMethod; class = Class 30; parameters = 0; captured = []; outer = None; statements = Plain (Send 9 (Block 1) (more_trees (Block 2) no_trees)) ∷ Return (Constant (Integer (pos 1))) ∷ [] } ∷
          record { kind = InBlock; class = Class 30; parameters = 0; captured = []; outer = (Some 0); statements = Plain (Constant (Integer (pos 3))) ∷ [] } ∷
          record { kind = InBlock; class = Class 30; parameters = 0; captured = []; outer = (Some 0); statements = Return (Constant (Integer (pos 7))) ∷ [] } ∷
          record { kind = InInitializer; class = Class 1; parameters = 0; captured = []; outer = None; statements = Plain (Send 12 (Constant Transcript) (more_trees (Send 8 (Send 10 (Send 11 (Constant (Class 30)) no_trees) no_trees) no_trees) no_trees)) ∷ [] } ∷ [];
      initializers = record { code = 3; self = Nil; target = None } ∷ [];
      literals = trouble_literals;
      trouble_place = 0;
      variables = 0;
      step_limit = 10000000;
      depth_limit = 10000;
      cell_limit = 4194304;
    }

ensure_value_then_go_runs : Reports ensure_value_then_go 14 (record { ending = WasDone; transcript = 55 ∷ []; steps = 7; depth = 4; cells = 7; events = (Event.Ensure 3) ∷ (Event.Action 3) ∷ (Event.End 3 true) ∷ [] })
unfolding computing
ensure_value_then_go_runs = (refl, refl, refl)

-- Class named: 'Q' superclass: 'Object'!Q method!m [^3] ensure: [9]. ^1!Global initializer!Transcript show: Q new m printString!
abbrev pub ensure_go_then_value : Program
ensure_go_then_value =
    record {
      names = (codes "value") ∷ (codes "value:") ∷ (codes "value:value:") ∷ (61 ∷ []) ∷ (codes "defaultAction") ∷ (codes "isResumable") ∷ (codes "handles:") ∷ (codes "doesNotUnderstand:") ∷ (codes "printString") ∷ (codes "ensure:") ∷ (109 ∷ []) ∷ (codes "new") ∷ (codes "show:") ∷ [];
      classes = built_in_class_rows ++ record { name = 81 ∷ []; superclass = Some 0; in_file = true; indexed = NoIndexes; slots = 0; class_slots = 0 } ∷ [];
      methods = record { class = 30; side = OfInstance; selector = 10; code = 0 } ∷ [];
      bodies =
          record { kind = InMethod; class = Class 30; parameters = 0; captured = []; outer = None; statements = Plain (Send 9 (Block 1) (more_trees (Block 2) no_trees)) ∷ Return (Constant (Integer (pos 1))) ∷ [] } ∷
          record { kind = InBlock; class = Class 30; parameters = 0; captured = []; outer = (Some 0); statements = Return (Constant (Integer (pos 3))) ∷ [] } ∷
          record { kind = InBlock; class = Class 30; parameters = 0; captured = []; outer = (Some 0); statements = Plain (Constant (Integer (pos 9))) ∷ [] } ∷
          record { kind = InInitializer; class = Class 1; parameters = 0; captured = []; outer = None; statements = Plain (Send 12 (Constant Transcript) (more_trees (Send 8 (Send 10 (Send 11 (Constant (Class 30)) no_trees) no_trees) no_trees) no_trees)) ∷ [] } ∷ [];
      initializers = record { code = 3; self = Nil; target = None } ∷ [];
      literals = trouble_literals;
      trouble_place = 0;
      variables = 0;
      step_limit = 10000000;
      depth_limit = 10000;
      cell_limit = 4194304;
    }

ensure_go_then_value_runs : Reports ensure_go_then_value 14 (record { ending = WasDone; transcript = 51 ∷ []; steps = 7; depth = 4; cells = 7; events = (Event.Ensure 3) ∷ (Event.Action 3) ∷ (Event.End 3 true) ∷ [] })
unfolding computing
ensure_go_then_value_runs = (refl, refl, refl)

-- Class named: 'Q' superclass: 'Object'!Q method!m [^3] ifCurtailed: [^4]. ^1!Global initializer!Transcript show: Q new m printString!
abbrev pub curtail_go_in_block : Program
curtail_go_in_block =
    record {
      names = (codes "value") ∷ (codes "value:") ∷ (codes "value:value:") ∷ (61 ∷ []) ∷ (codes "defaultAction") ∷ (codes "isResumable") ∷ (codes "handles:") ∷ (codes "doesNotUnderstand:") ∷ (codes "printString") ∷ (codes "ifCurtailed:") ∷ (109 ∷ []) ∷ (codes "new") ∷ (codes "show:") ∷ [];
      classes = built_in_class_rows ++ record { name = 81 ∷ []; superclass = Some 0; in_file = true; indexed = NoIndexes; slots = 0; class_slots = 0 } ∷ [];
      methods = record { class = 30; side = OfInstance; selector = 10; code = 0 } ∷ [];
      bodies =
          record { kind = InMethod; class = Class 30; parameters = 0; captured = []; outer = None; statements = Plain (Send 9 (Block 1) (more_trees (Block 2) no_trees)) ∷ Return (Constant (Integer (pos 1))) ∷ [] } ∷
          record { kind = InBlock; class = Class 30; parameters = 0; captured = []; outer = (Some 0); statements = Return (Constant (Integer (pos 3))) ∷ [] } ∷
          record { kind = InBlock; class = Class 30; parameters = 0; captured = []; outer = (Some 0); statements = Return (Constant (Integer (pos 4))) ∷ [] } ∷
          record { kind = InInitializer; class = Class 1; parameters = 0; captured = []; outer = None; statements = Plain (Send 12 (Constant Transcript) (more_trees (Send 8 (Send 10 (Send 11 (Constant (Class 30)) no_trees) no_trees) no_trees) no_trees)) ∷ [] } ∷ [];
      initializers = record { code = 3; self = Nil; target = None } ∷ [];
      literals = trouble_literals;
      trouble_place = 0;
      variables = 0;
      step_limit = 10000000;
      depth_limit = 10000;
      cell_limit = 4194304;
    }

curtail_go_in_block_runs : Reports curtail_go_in_block 14 (record { ending = WasDone; transcript = 52 ∷ []; steps = 7; depth = 4; cells = 7; events = (Event.Curtail 3) ∷ (Event.Action 3) ∷ (Event.End 3 true) ∷ [] })
unfolding computing
curtail_go_in_block_runs = (refl, refl, refl)

-- Global initializer!Transcript show: ([[[Error signal: 'a'] ensure: [Warning signal: 'w']] on: Warning do: [:w | Transcript show: 'W'. w resume: 1]] on: Error do: [:e | e messageText])!
abbrev pub ensure_signals_inside : Program
ensure_signals_inside =
    record {
      names = (codes "value") ∷ (codes "value:") ∷ (codes "value:value:") ∷ (61 ∷ []) ∷ (codes "defaultAction") ∷ (codes "isResumable") ∷ (codes "handles:") ∷ (codes "doesNotUnderstand:") ∷ (codes "printString") ∷ (codes "signal:") ∷ (codes "ensure:") ∷ (codes "show:") ∷ (codes "resume:") ∷ (codes "on:do:") ∷ (codes "messageText") ∷ [];
      classes = built_in_class_rows;
      methods = [];
      bodies =
          record { kind = InInitializer; class = Class 1; parameters = 0; captured = []; outer = None; statements = Plain (Send 11 (Constant Transcript) (more_trees (Send 13 (Block 1) (more_trees (Constant (Class 24)) (more_trees (Block 6) no_trees))) no_trees)) ∷ [] } ∷
          record { kind = InBlock; class = Class 1; parameters = 0; captured = []; outer = (Some 0); statements = Plain (Send 13 (Block 2) (more_trees (Constant (Class 28)) (more_trees (Block 5) no_trees))) ∷ [] } ∷
          record { kind = InBlock; class = Class 1; parameters = 0; captured = []; outer = (Some 1); statements = Plain (Send 10 (Block 3) (more_trees (Block 4) no_trees)) ∷ [] } ∷
          record { kind = InBlock; class = Class 1; parameters = 0; captured = []; outer = (Some 2); statements = Plain (Send 9 (Constant (Class 24)) (more_trees (Constant (Object 0)) no_trees)) ∷ [] } ∷
          record { kind = InBlock; class = Class 1; parameters = 0; captured = []; outer = (Some 2); statements = Plain (Send 9 (Constant (Class 28)) (more_trees (Constant (Object 1)) no_trees)) ∷ [] } ∷
          record { kind = InBlock; class = Class 1; parameters = 1; captured = false ∷ []; outer = (Some 1); statements = Plain (Send 11 (Constant Transcript) (more_trees (Constant (Object 2)) no_trees)) ∷ Plain (Send 12 (Variable (Scoped 0 0)) (more_trees (Constant (Integer (pos 1))) no_trees)) ∷ [] } ∷
          record { kind = InBlock; class = Class 1; parameters = 1; captured = false ∷ []; outer = (Some 0); statements = Plain (Send 14 (Variable (Scoped 0 0)) no_trees) ∷ [] } ∷ [];
      initializers = record { code = 0; self = Nil; target = None } ∷ [];
      literals = (literal_string (97 ∷ []) ∷ literal_string (119 ∷ []) ∷ literal_string (87 ∷ []) ∷ []) ++ trouble_literals;
      trouble_place = 3;
      variables = 0;
      step_limit = 10000000;
      depth_limit = 10000;
      cell_limit = 4194304;
    }

ensure_signals_inside_runs : Reports ensure_signals_inside 31 (record { ending = WasDone; transcript = codes "Wa"; steps = 16; depth = 11; cells = 16; events = (Event.Protect 2) ∷ (Event.Protect 4) ∷ (Event.Ensure 6) ∷ (Event.Signal 8) ∷ (Event.Search 8) ∷ (Event.Tried 4 false) ∷ (Event.Tried 2 true) ∷ (Event.Handle 9 2) ∷ (Event.End 9 true) ∷ (Event.End 8 true) ∷ (Event.Action 6) ∷ (Event.Signal 12) ∷ (Event.Search 12) ∷ (Event.Tried 4 true) ∷ (Event.Handle 13 4) ∷ (Event.End 13 true) ∷ (Event.End 12 false) ∷ (Event.End 6 true) ∷ (Event.End 4 true) ∷ (Event.End 2 false) ∷ [] })
unfolding computing
ensure_signals_inside_runs = (refl, refl, refl)

-- Global initializer![[Error signal: 'a'] ensure: [Transcript show: 'x'. Error signal: 'b']] ensure: [Transcript show: 'y']!
abbrev pub terminate_replaced : Program
terminate_replaced =
    record {
      names = (codes "value") ∷ (codes "value:") ∷ (codes "value:value:") ∷ (61 ∷ []) ∷ (codes "defaultAction") ∷ (codes "isResumable") ∷ (codes "handles:") ∷ (codes "doesNotUnderstand:") ∷ (codes "printString") ∷ (codes "signal:") ∷ (codes "show:") ∷ (codes "ensure:") ∷ [];
      classes = built_in_class_rows;
      methods = [];
      bodies =
          record { kind = InInitializer; class = Class 1; parameters = 0; captured = []; outer = None; statements = Plain (Send 11 (Block 1) (more_trees (Block 4) no_trees)) ∷ [] } ∷
          record { kind = InBlock; class = Class 1; parameters = 0; captured = []; outer = (Some 0); statements = Plain (Send 11 (Block 2) (more_trees (Block 3) no_trees)) ∷ [] } ∷
          record { kind = InBlock; class = Class 1; parameters = 0; captured = []; outer = (Some 1); statements = Plain (Send 9 (Constant (Class 24)) (more_trees (Constant (Object 0)) no_trees)) ∷ [] } ∷
          record { kind = InBlock; class = Class 1; parameters = 0; captured = []; outer = (Some 1); statements = Plain (Send 10 (Constant Transcript) (more_trees (Constant (Object 1)) no_trees)) ∷ Plain (Send 9 (Constant (Class 24)) (more_trees (Constant (Object 2)) no_trees)) ∷ [] } ∷
          record { kind = InBlock; class = Class 1; parameters = 0; captured = []; outer = (Some 0); statements = Plain (Send 10 (Constant Transcript) (more_trees (Constant (Object 3)) no_trees)) ∷ [] } ∷ [];
      initializers = record { code = 0; self = Nil; target = None } ∷ [];
      literals = (literal_string (97 ∷ []) ∷ literal_string (120 ∷ []) ∷ literal_string (98 ∷ []) ∷ literal_string (121 ∷ []) ∷ []) ++ trouble_literals;
      trouble_place = 4;
      variables = 0;
      step_limit = 10000000;
      depth_limit = 10000;
      cell_limit = 4194304;
    }

terminate_replaced_runs : Reports terminate_replaced 20 (record { ending = WasUnhandled (codes "Error") (98 ∷ []); transcript = codes "xy"; steps = 12; depth = 7; cells = 12; events = (Event.Ensure 2) ∷ (Event.Ensure 4) ∷ (Event.Signal 6) ∷ (Event.Search 6) ∷ (Event.Default 7) ∷ (Event.End 7 true) ∷ (Event.End 6 true) ∷ (Event.Action 4) ∷ (Event.Signal 9) ∷ (Event.Search 9) ∷ (Event.Default 10) ∷ (Event.End 10 true) ∷ (Event.End 9 true) ∷ (Event.End 4 true) ∷ (Event.Action 2) ∷ (Event.End 2 true) ∷ [] })
unfolding computing
terminate_replaced_runs = (refl, refl, refl)

-- Global initializer!| e | e := Error new. [e signal: 'a'] ensure: [e messageText: 'b']!
abbrev pub terminate_text_at_end : Program
terminate_text_at_end =
    record {
      names = (codes "value") ∷ (codes "value:") ∷ (codes "value:value:") ∷ (61 ∷ []) ∷ (codes "defaultAction") ∷ (codes "isResumable") ∷ (codes "handles:") ∷ (codes "doesNotUnderstand:") ∷ (codes "printString") ∷ (codes "new") ∷ (codes "signal:") ∷ (codes "messageText:") ∷ (codes "ensure:") ∷ [];
      classes = built_in_class_rows;
      methods = [];
      bodies =
          record { kind = InInitializer; class = Class 1; parameters = 0; captured = true ∷ []; outer = None; statements = Plain (Assign (Scoped 0 0) (Send 9 (Constant (Class 24)) no_trees)) ∷ Plain (Send 12 (Block 1) (more_trees (Block 2) no_trees)) ∷ [] } ∷
          record { kind = InBlock; class = Class 1; parameters = 0; captured = []; outer = (Some 0); statements = Plain (Send 10 (Variable (Scoped 1 0)) (more_trees (Constant (Object 0)) no_trees)) ∷ [] } ∷
          record { kind = InBlock; class = Class 1; parameters = 0; captured = []; outer = (Some 0); statements = Plain (Send 11 (Variable (Scoped 1 0)) (more_trees (Constant (Object 1)) no_trees)) ∷ [] } ∷ [];
      initializers = record { code = 0; self = Nil; target = None } ∷ [];
      literals = (literal_string (97 ∷ []) ∷ literal_string (98 ∷ []) ∷ []) ++ trouble_literals;
      trouble_place = 2;
      variables = 0;
      step_limit = 10000000;
      depth_limit = 10000;
      cell_limit = 4194304;
    }

terminate_text_at_end_runs : Reports terminate_text_at_end 14 (record { ending = WasUnhandled (codes "Error") (98 ∷ []); transcript = []; steps = 7; depth = 5; cells = 8; events = (Event.Ensure 2) ∷ (Event.Signal 4) ∷ (Event.Search 4) ∷ (Event.Default 5) ∷ (Event.End 5 true) ∷ (Event.End 4 true) ∷ (Event.Action 2) ∷ (Event.End 2 true) ∷ [] })
unfolding computing
terminate_text_at_end_runs = (refl, refl, refl)

-- Class named: 'Q' superclass: 'Object'!Q method!m [Error signal: 'a'] ensure: [^7]!Global initializer!Transcript show: Q new m printString. Transcript show: 'on'!
abbrev pub terminate_caught : Program
terminate_caught =
    record {
      names = (codes "value") ∷ (codes "value:") ∷ (codes "value:value:") ∷ (61 ∷ []) ∷ (codes "defaultAction") ∷ (codes "isResumable") ∷ (codes "handles:") ∷ (codes "doesNotUnderstand:") ∷ (codes "printString") ∷ (codes "signal:") ∷ (codes "ensure:") ∷ (109 ∷ []) ∷ (codes "new") ∷ (codes "show:") ∷ [];
      classes = built_in_class_rows ++ record { name = 81 ∷ []; superclass = Some 0; in_file = true; indexed = NoIndexes; slots = 0; class_slots = 0 } ∷ [];
      methods = record { class = 30; side = OfInstance; selector = 11; code = 0 } ∷ [];
      bodies =
          record { kind = InMethod; class = Class 30; parameters = 0; captured = []; outer = None; statements = Plain (Send 10 (Block 1) (more_trees (Block 2) no_trees)) ∷ [] } ∷
          record { kind = InBlock; class = Class 30; parameters = 0; captured = []; outer = (Some 0); statements = Plain (Send 9 (Constant (Class 24)) (more_trees (Constant (Object 0)) no_trees)) ∷ [] } ∷
          record { kind = InBlock; class = Class 30; parameters = 0; captured = []; outer = (Some 0); statements = Return (Constant (Integer (pos 7))) ∷ [] } ∷
          record { kind = InInitializer; class = Class 1; parameters = 0; captured = []; outer = None; statements = Plain (Send 13 (Constant Transcript) (more_trees (Send 8 (Send 11 (Send 12 (Constant (Class 30)) no_trees) no_trees) no_trees) no_trees)) ∷ Plain (Send 13 (Constant Transcript) (more_trees (Constant (Object 1)) no_trees)) ∷ [] } ∷ [];
      initializers = record { code = 3; self = Nil; target = None } ∷ [];
      literals = (literal_string (97 ∷ []) ∷ literal_string (codes "on") ∷ []) ++ trouble_literals;
      trouble_place = 2;
      variables = 0;
      step_limit = 10000000;
      depth_limit = 10000;
      cell_limit = 4194304;
    }

terminate_caught_runs : Reports terminate_caught 19 (record { ending = WasDone; transcript = codes "7on"; steps = 10; depth = 6; cells = 9; events = (Event.Ensure 3) ∷ (Event.Signal 5) ∷ (Event.Search 5) ∷ (Event.Default 6) ∷ (Event.End 6 true) ∷ (Event.End 5 true) ∷ (Event.Action 3) ∷ (Event.End 3 true) ∷ [] })
unfolding computing
terminate_caught_runs = (refl, refl, refl)

-- Global variable: 'X'!X initializer![[^4] ensure: [Transcript show: 'e']] value. 5!Global initializer!Transcript show: X printString!
abbrev pub initializer_home : Program
initializer_home =
    record {
      names = (codes "value") ∷ (codes "value:") ∷ (codes "value:value:") ∷ (61 ∷ []) ∷ (codes "defaultAction") ∷ (codes "isResumable") ∷ (codes "handles:") ∷ (codes "doesNotUnderstand:") ∷ (codes "printString") ∷ (codes "show:") ∷ (codes "ensure:") ∷ [];
      classes = built_in_class_rows;
      methods = [];
      bodies =
          record { kind = InInitializer; class = Class 1; parameters = 0; captured = []; outer = None; statements = Plain (Send 0 (Block 1) no_trees) ∷ Plain (Constant (Integer (pos 5))) ∷ [] } ∷
          record { kind = InBlock; class = Class 1; parameters = 0; captured = []; outer = (Some 0); statements = Plain (Send 10 (Block 2) (more_trees (Block 3) no_trees)) ∷ [] } ∷
          record { kind = InBlock; class = Class 1; parameters = 0; captured = []; outer = (Some 1); statements = Return (Constant (Integer (pos 4))) ∷ [] } ∷
          record { kind = InBlock; class = Class 1; parameters = 0; captured = []; outer = (Some 1); statements = Plain (Send 9 (Constant Transcript) (more_trees (Constant (Object 0)) no_trees)) ∷ [] } ∷
          record { kind = InInitializer; class = Class 1; parameters = 0; captured = []; outer = None; statements = Plain (Send 9 (Constant Transcript) (more_trees (Send 8 (Variable (Shared 0)) no_trees) no_trees)) ∷ [] } ∷ [];
      initializers = record { code = 0; self = Nil; target = (Some 0) } ∷ record { code = 4; self = Nil; target = None } ∷ [];
      literals = (literal_string (101 ∷ []) ∷ []) ++ trouble_literals;
      trouble_place = 1;
      variables = 1;
      step_limit = 10000000;
      depth_limit = 10000;
      cell_limit = 4194304;
    }

initializer_home_runs : Reports initializer_home 16 (record { ending = WasDone; transcript = codes "e4"; steps = 8; depth = 4; cells = 8; events = (Event.Ensure 3) ∷ (Event.Action 3) ∷ (Event.End 3 true) ∷ [] })
unfolding computing
initializer_home_runs = (refl, refl, refl)

-- Class named: 'Q' superclass: 'Object'!Error method!isResumable ^true!Q method!blk ^[^1]!Global initializer!| b | b := Q new blk. Transcript show: ([b value + 1] on: Error do: [:e | e resume: 5]) printString!
abbrev pub dead_home_resumed : Program
dead_home_resumed =
    record {
      names = (codes "value") ∷ (codes "value:") ∷ (codes "value:value:") ∷ (61 ∷ []) ∷ (codes "defaultAction") ∷ (codes "isResumable") ∷ (codes "handles:") ∷ (codes "doesNotUnderstand:") ∷ (codes "printString") ∷ (codes "blk") ∷ (codes "new") ∷ (43 ∷ []) ∷ (codes "resume:") ∷ (codes "on:do:") ∷ (codes "show:") ∷ [];
      classes = built_in_class_rows ++ record { name = 81 ∷ []; superclass = Some 0; in_file = true; indexed = NoIndexes; slots = 0; class_slots = 0 } ∷ [];
      methods = record { class = 24; side = OfInstance; selector = 5; code = 0 } ∷ record { class = 30; side = OfInstance; selector = 9; code = 1 } ∷ [];
      bodies =
          record { kind = InMethod; class = Class 24; parameters = 0; captured = []; outer = None; statements = Return (Constant True) ∷ [] } ∷
          record { kind = InMethod; class = Class 30; parameters = 0; captured = []; outer = None; statements = Return (Block 2) ∷ [] } ∷
          record { kind = InBlock; class = Class 30; parameters = 0; captured = []; outer = (Some 1); statements = Return (Constant (Integer (pos 1))) ∷ [] } ∷
          record { kind = InInitializer; class = Class 1; parameters = 0; captured = true ∷ []; outer = None; statements = Plain (Assign (Scoped 0 0) (Send 9 (Send 10 (Constant (Class 30)) no_trees) no_trees)) ∷ Plain (Send 14 (Constant Transcript) (more_trees (Send 8 (Send 13 (Block 4) (more_trees (Constant (Class 24)) (more_trees (Block 5) no_trees))) no_trees) no_trees)) ∷ [] } ∷
          record { kind = InBlock; class = Class 1; parameters = 0; captured = []; outer = (Some 3); statements = Plain (Send 11 (Send 0 (Variable (Scoped 1 0)) no_trees) (more_trees (Constant (Integer (pos 1))) no_trees)) ∷ [] } ∷
          record { kind = InBlock; class = Class 1; parameters = 1; captured = false ∷ []; outer = (Some 3); statements = Plain (Send 12 (Variable (Scoped 0 0)) (more_trees (Constant (Integer (pos 5))) no_trees)) ∷ [] } ∷ [];
      initializers = record { code = 3; self = Nil; target = None } ∷ [];
      literals = trouble_literals;
      trouble_place = 0;
      variables = 0;
      step_limit = 10000000;
      depth_limit = 10000;
      cell_limit = 4194304;
    }

dead_home_resumed_runs : Reports dead_home_resumed 27 (record { ending = WasDone; transcript = 54 ∷ []; steps = 12; depth = 9; cells = 13; events = (Event.Protect 3) ∷ (Event.Signal 6) ∷ (Event.Search 6) ∷ (Event.Tried 3 true) ∷ (Event.Handle 7 3) ∷ (Event.End 7 true) ∷ (Event.End 6 false) ∷ (Event.End 3 false) ∷ [] })
unfolding computing
dead_home_resumed_runs = (refl, refl, refl)

-- Class named: 'Q' superclass: 'Object'!Error method!isResumable ^true!Q method!m: b b isNil ifTrue: [^[^1]]. ^b value + 10!Global initializer!| b | b := Q new m: nil. Transcript show: ([Q new m: b] on: Error do: [:e | e resume: 5]) printString!
abbrev pub dead_home_recursion : Program
dead_home_recursion =
    record {
      names = (codes "value") ∷ (codes "value:") ∷ (codes "value:value:") ∷ (61 ∷ []) ∷ (codes "defaultAction") ∷ (codes "isResumable") ∷ (codes "handles:") ∷ (codes "doesNotUnderstand:") ∷ (codes "printString") ∷ (codes "isNil") ∷ (codes "ifTrue:") ∷ (43 ∷ []) ∷ (codes "m:") ∷ (codes "new") ∷ (codes "resume:") ∷ (codes "on:do:") ∷ (codes "show:") ∷ [];
      classes = built_in_class_rows ++ record { name = 81 ∷ []; superclass = Some 0; in_file = true; indexed = NoIndexes; slots = 0; class_slots = 0 } ∷ [];
      methods = record { class = 24; side = OfInstance; selector = 5; code = 0 } ∷ record { class = 30; side = OfInstance; selector = 12; code = 1 } ∷ [];
      bodies =
          record { kind = InMethod; class = Class 24; parameters = 0; captured = []; outer = None; statements = Return (Constant True) ∷ [] } ∷
          record { kind = InMethod; class = Class 30; parameters = 1; captured = false ∷ []; outer = None; statements = Plain (Send 10 (Send 9 (Variable (Scoped 0 0)) no_trees) (more_trees (Block 2) no_trees)) ∷ Return (Send 11 (Send 0 (Variable (Scoped 0 0)) no_trees) (more_trees (Constant (Integer (pos 10))) no_trees)) ∷ [] } ∷
          record { kind = InBlock; class = Class 30; parameters = 0; captured = []; outer = (Some 1); statements = Return (Block 3) ∷ [] } ∷
          record { kind = InBlock; class = Class 30; parameters = 0; captured = []; outer = (Some 2); statements = Return (Constant (Integer (pos 1))) ∷ [] } ∷
          record { kind = InInitializer; class = Class 1; parameters = 0; captured = true ∷ []; outer = None; statements = Plain (Assign (Scoped 0 0) (Send 12 (Send 13 (Constant (Class 30)) no_trees) (more_trees (Constant Nil) no_trees))) ∷ Plain (Send 16 (Constant Transcript) (more_trees (Send 8 (Send 15 (Block 5) (more_trees (Constant (Class 24)) (more_trees (Block 6) no_trees))) no_trees) no_trees)) ∷ [] } ∷
          record { kind = InBlock; class = Class 1; parameters = 0; captured = []; outer = (Some 4); statements = Plain (Send 12 (Send 13 (Constant (Class 30)) no_trees) (more_trees (Variable (Scoped 1 0)) no_trees)) ∷ [] } ∷
          record { kind = InBlock; class = Class 1; parameters = 1; captured = false ∷ []; outer = (Some 4); statements = Plain (Send 14 (Variable (Scoped 0 0)) (more_trees (Constant (Integer (pos 5))) no_trees)) ∷ [] } ∷ [];
      initializers = record { code = 4; self = Nil; target = None } ∷ [];
      literals = trouble_literals;
      trouble_place = 0;
      variables = 0;
      step_limit = 10000000;
      depth_limit = 10000;
      cell_limit = 4194304;
    }

dead_home_recursion_runs : Reports dead_home_recursion 42 (record { ending = WasDone; transcript = codes "15"; steps = 19; depth = 10; cells = 18; events = (Event.Protect 4) ∷ (Event.Signal 8) ∷ (Event.Search 8) ∷ (Event.Tried 4 true) ∷ (Event.Handle 9 4) ∷ (Event.End 9 true) ∷ (Event.End 8 false) ∷ (Event.End 4 false) ∷ [] })
unfolding computing
dead_home_recursion_runs = (refl, refl, refl)
