-- Runs of sends, numbers, blocks, loops and collections. Each is computed by the rules and by both machines.
use Rattle.std.proofs.Common.{[], ◌∷◌, ◌++◌, refl, true, false, Some, None, pos, negsuc}
use Rattle.std.specs.Prelude.{codes}
use Rattle.object_heap.specs.declared.value.Value.TheVariants.{Nil, True, Integer, Class, Transcript, Object}
use Rattle.st_code.specs.Program.{Program, Scoped, Shared, Constant, Variable, Assign, Block, Send, SuperSend, Cascade, SuperCascade, no_trees, more_trees, no_messages, more_messages, Plain, Return, InMethod, InBlock, InInitializer, OfInstance, NoIndexes}
use Rattle.st_rules.specs.Events.{Event}
use Rattle.st_rules.specs.State.{IntegerLimit}
use Rattle.st_code.specs.BuiltIns.{built_in_class_rows}
use Rattle.st_code.specs.Literals.{literal_string, literal_array, trouble_literals}
use Rattle.st_rules.proofs.Computing.{Reports, computing, WasDone, WasUnhandled, WasAtLimit}

-- Global initializer!Transcript show: 'hi'; cr!
abbrev pub first_line : Program
first_line =
    record {
      names = (codes "value") ∷ (codes "value:") ∷ (codes "value:value:") ∷ (61 ∷ []) ∷ (codes "defaultAction") ∷ (codes "isResumable") ∷ (codes "handles:") ∷ (codes "doesNotUnderstand:") ∷ (codes "printString") ∷ (codes "show:") ∷ (codes "cr") ∷ [];
      classes = built_in_class_rows;
      methods = [];
      bodies =
          record { kind = InInitializer; class = Class 1; parameters = 0; captured = []; outer = None; statements = Plain (Cascade (Constant Transcript) (more_messages 9 (more_trees (Constant (Object 0)) no_trees) (more_messages 10 no_trees no_messages))) ∷ [] } ∷ [];
      initializers = record { code = 0; self = Nil; target = None } ∷ [];
      literals = (literal_string (codes "hi") ∷ []) ++ trouble_literals;
      trouble_place = 1;
      variables = 0;
      step_limit = 10000000;
      depth_limit = 10000;
      cell_limit = 4194304;
    }

first_line_runs : Reports first_line 7 (record { ending = WasDone; transcript = codes "hi\n"; steps = 2; depth = 1; cells = 0; events = [] })
unfolding computing
first_line_runs = (refl, refl, refl)

-- Class named: 'Q' superclass: 'Object'!Q method!twice: n ^n + n!Global initializer!Transcript show: (Q new twice: 21) printString!
abbrev pub method_sent : Program
method_sent =
    record {
      names = (codes "value") ∷ (codes "value:") ∷ (codes "value:value:") ∷ (61 ∷ []) ∷ (codes "defaultAction") ∷ (codes "isResumable") ∷ (codes "handles:") ∷ (codes "doesNotUnderstand:") ∷ (codes "printString") ∷ (43 ∷ []) ∷ (codes "twice:") ∷ (codes "new") ∷ (codes "show:") ∷ [];
      classes = built_in_class_rows ++ record { name = 81 ∷ []; superclass = Some 0; in_file = true; indexed = NoIndexes; slots = 0; class_slots = 0 } ∷ [];
      methods = record { class = 30; side = OfInstance; selector = 10; code = 0 } ∷ [];
      bodies =
          record { kind = InMethod; class = Class 30; parameters = 1; captured = false ∷ []; outer = None; statements = Return (Send 9 (Variable (Scoped 0 0)) (more_trees (Variable (Scoped 0 0)) no_trees)) ∷ [] } ∷
          record { kind = InInitializer; class = Class 1; parameters = 0; captured = []; outer = None; statements = Plain (Send 12 (Constant Transcript) (more_trees (Send 8 (Send 10 (Send 11 (Constant (Class 30)) no_trees) (more_trees (Constant (Integer (pos 21))) no_trees)) no_trees) no_trees)) ∷ [] } ∷ [];
      initializers = record { code = 1; self = Nil; target = None } ∷ [];
      literals = trouble_literals;
      trouble_place = 0;
      variables = 0;
      step_limit = 10000000;
      depth_limit = 10000;
      cell_limit = 4194304;
    }

method_sent_runs : Reports method_sent 12 (record { ending = WasDone; transcript = codes "42"; steps = 5; depth = 2; cells = 3; events = [] })
unfolding computing
method_sent_runs = (refl, refl, refl)

-- Global initializer!| n | n := 0. [n < 3] whileTrue: [n := n + 1]. Transcript show: n printString!
abbrev pub while_loop : Program
while_loop =
    record {
      names = (codes "value") ∷ (codes "value:") ∷ (codes "value:value:") ∷ (61 ∷ []) ∷ (codes "defaultAction") ∷ (codes "isResumable") ∷ (codes "handles:") ∷ (codes "doesNotUnderstand:") ∷ (codes "printString") ∷ (60 ∷ []) ∷ (43 ∷ []) ∷ (codes "whileTrue:") ∷ (codes "show:") ∷ [];
      classes = built_in_class_rows;
      methods = [];
      bodies =
          record { kind = InInitializer; class = Class 1; parameters = 0; captured = true ∷ []; outer = None; statements = Plain (Assign (Scoped 0 0) (Constant (Integer (pos 0)))) ∷ Plain (Send 11 (Block 1) (more_trees (Block 2) no_trees)) ∷ Plain (Send 12 (Constant Transcript) (more_trees (Send 8 (Variable (Scoped 0 0)) no_trees) no_trees)) ∷ [] } ∷
          record { kind = InBlock; class = Class 1; parameters = 0; captured = []; outer = (Some 0); statements = Plain (Send 9 (Variable (Scoped 1 0)) (more_trees (Constant (Integer (pos 3))) no_trees)) ∷ [] } ∷
          record { kind = InBlock; class = Class 1; parameters = 0; captured = []; outer = (Some 0); statements = Plain (Assign (Scoped 1 0) (Send 10 (Variable (Scoped 1 0)) (more_trees (Constant (Integer (pos 1))) no_trees))) ∷ [] } ∷ [];
      initializers = record { code = 0; self = Nil; target = None } ∷ [];
      literals = trouble_literals;
      trouble_place = 0;
      variables = 0;
      step_limit = 10000000;
      depth_limit = 10000;
      cell_limit = 4194304;
    }

while_loop_runs : Reports while_loop 43 (record { ending = WasDone; transcript = 51 ∷ []; steps = 17; depth = 3; cells = 8; events = [] })
unfolding computing
while_loop_runs = (refl, refl, refl)

-- Global initializer!170141183460469231731687303715884105727 + 1!
abbrev pub integer_limit : Program
integer_limit =
    record {
      names = (codes "value") ∷ (codes "value:") ∷ (codes "value:value:") ∷ (61 ∷ []) ∷ (codes "defaultAction") ∷ (codes "isResumable") ∷ (codes "handles:") ∷ (codes "doesNotUnderstand:") ∷ (codes "printString") ∷ (43 ∷ []) ∷ [];
      classes = built_in_class_rows;
      methods = [];
      bodies =
          record { kind = InInitializer; class = Class 1; parameters = 0; captured = []; outer = None; statements = Plain (Send 9 (Constant (Integer (pos 170141183460469231731687303715884105727))) (more_trees (Constant (Integer (pos 1))) no_trees)) ∷ [] } ∷ [];
      initializers = record { code = 0; self = Nil; target = None } ∷ [];
      literals = trouble_literals;
      trouble_place = 0;
      variables = 0;
      step_limit = 10000000;
      depth_limit = 10000;
      cell_limit = 4194304;
    }

integer_limit_runs : Reports integer_limit 3 (record { ending = WasAtLimit IntegerLimit; transcript = []; steps = 1; depth = 1; cells = 0; events = [] })
unfolding computing
integer_limit_runs = (refl, refl, refl)

-- Global initializer!3 foo!
abbrev pub not_understood : Program
not_understood =
    record {
      names = (codes "value") ∷ (codes "value:") ∷ (codes "value:value:") ∷ (61 ∷ []) ∷ (codes "defaultAction") ∷ (codes "isResumable") ∷ (codes "handles:") ∷ (codes "doesNotUnderstand:") ∷ (codes "printString") ∷ (codes "foo") ∷ [];
      classes = built_in_class_rows;
      methods = [];
      bodies =
          record { kind = InInitializer; class = Class 1; parameters = 0; captured = []; outer = None; statements = Plain (Send 9 (Constant (Integer (pos 3))) no_trees) ∷ [] } ∷ [];
      initializers = record { code = 0; self = Nil; target = None } ∷ [];
      literals = trouble_literals;
      trouble_place = 0;
      variables = 0;
      step_limit = 10000000;
      depth_limit = 10000;
      cell_limit = 4194304;
    }

not_understood_runs : Reports not_understood 2 (record { ending = WasUnhandled (codes "MessageNotUnderstood") (codes "Integer does not understand #foo"); transcript = []; steps = 3; depth = 3; cells = 8; events = (Event.Signal 2) ∷ (Event.Search 2) ∷ (Event.Default 3) ∷ (Event.End 3 true) ∷ (Event.End 2 true) ∷ [] })
unfolding computing
not_understood_runs = (refl, refl, refl)

-- Global initializer!Transcript show: ([3 foo + 1] on: MessageNotUnderstood do: [:e | e resume: 41]) printString!
abbrev pub not_understood_resumed : Program
not_understood_resumed =
    record {
      names = (codes "value") ∷ (codes "value:") ∷ (codes "value:value:") ∷ (61 ∷ []) ∷ (codes "defaultAction") ∷ (codes "isResumable") ∷ (codes "handles:") ∷ (codes "doesNotUnderstand:") ∷ (codes "printString") ∷ (codes "foo") ∷ (43 ∷ []) ∷ (codes "resume:") ∷ (codes "on:do:") ∷ (codes "show:") ∷ [];
      classes = built_in_class_rows;
      methods = [];
      bodies =
          record { kind = InInitializer; class = Class 1; parameters = 0; captured = []; outer = None; statements = Plain (Send 13 (Constant Transcript) (more_trees (Send 8 (Send 12 (Block 1) (more_trees (Constant (Class 26)) (more_trees (Block 2) no_trees))) no_trees) no_trees)) ∷ [] } ∷
          record { kind = InBlock; class = Class 1; parameters = 0; captured = []; outer = (Some 0); statements = Plain (Send 10 (Send 9 (Constant (Integer (pos 3))) no_trees) (more_trees (Constant (Integer (pos 1))) no_trees)) ∷ [] } ∷
          record { kind = InBlock; class = Class 1; parameters = 1; captured = false ∷ []; outer = (Some 0); statements = Plain (Send 11 (Variable (Scoped 0 0)) (more_trees (Constant (Integer (pos 41))) no_trees)) ∷ [] } ∷ [];
      initializers = record { code = 0; self = Nil; target = None } ∷ [];
      literals = trouble_literals;
      trouble_place = 0;
      variables = 0;
      step_limit = 10000000;
      depth_limit = 10000;
      cell_limit = 4194304;
    }

not_understood_resumed_runs : Reports not_understood_resumed 16 (record { ending = WasDone; transcript = codes "42"; steps = 10; depth = 7; cells = 14; events = (Event.Protect 2) ∷ (Event.Signal 4) ∷ (Event.Search 4) ∷ (Event.Tried 2 true) ∷ (Event.Handle 5 2) ∷ (Event.End 5 true) ∷ (Event.End 4 false) ∷ (Event.End 2 false) ∷ [] })
unfolding computing
not_understood_resumed_runs = (refl, refl, refl)

-- Global initializer!Transcript show: ([7 // 0 + 1] on: ZeroDivide do: [:e | e resume: 5]) printString!
abbrev pub zero_divide_resumed : Program
zero_divide_resumed =
    record {
      names = (codes "value") ∷ (codes "value:") ∷ (codes "value:value:") ∷ (61 ∷ []) ∷ (codes "defaultAction") ∷ (codes "isResumable") ∷ (codes "handles:") ∷ (codes "doesNotUnderstand:") ∷ (codes "printString") ∷ (codes "//") ∷ (43 ∷ []) ∷ (codes "resume:") ∷ (codes "on:do:") ∷ (codes "show:") ∷ [];
      classes = built_in_class_rows;
      methods = [];
      bodies =
          record { kind = InInitializer; class = Class 1; parameters = 0; captured = []; outer = None; statements = Plain (Send 13 (Constant Transcript) (more_trees (Send 8 (Send 12 (Block 1) (more_trees (Constant (Class 25)) (more_trees (Block 2) no_trees))) no_trees) no_trees)) ∷ [] } ∷
          record { kind = InBlock; class = Class 1; parameters = 0; captured = []; outer = (Some 0); statements = Plain (Send 10 (Send 9 (Constant (Integer (pos 7))) (more_trees (Constant (Integer (pos 0))) no_trees)) (more_trees (Constant (Integer (pos 1))) no_trees)) ∷ [] } ∷
          record { kind = InBlock; class = Class 1; parameters = 1; captured = false ∷ []; outer = (Some 0); statements = Plain (Send 11 (Variable (Scoped 0 0)) (more_trees (Constant (Integer (pos 5))) no_trees)) ∷ [] } ∷ [];
      initializers = record { code = 0; self = Nil; target = None } ∷ [];
      literals = trouble_literals;
      trouble_place = 0;
      variables = 0;
      step_limit = 10000000;
      depth_limit = 10000;
      cell_limit = 4194304;
    }

zero_divide_resumed_runs : Reports zero_divide_resumed 17 (record { ending = WasDone; transcript = 54 ∷ []; steps = 9; depth = 7; cells = 9; events = (Event.Protect 2) ∷ (Event.Signal 4) ∷ (Event.Search 4) ∷ (Event.Tried 2 true) ∷ (Event.Handle 5 2) ∷ (Event.End 5 true) ∷ (Event.End 4 false) ∷ (Event.End 2 false) ∷ [] })
unfolding computing
zero_divide_resumed_runs = (refl, refl, refl)

-- Global initializer!Transcript show: ((1 / 3) + (1 / 6)) printString!
abbrev pub fractions_added : Program
fractions_added =
    record {
      names = (codes "value") ∷ (codes "value:") ∷ (codes "value:value:") ∷ (61 ∷ []) ∷ (codes "defaultAction") ∷ (codes "isResumable") ∷ (codes "handles:") ∷ (codes "doesNotUnderstand:") ∷ (codes "printString") ∷ (47 ∷ []) ∷ (43 ∷ []) ∷ (codes "show:") ∷ [];
      classes = built_in_class_rows;
      methods = [];
      bodies =
          record { kind = InInitializer; class = Class 1; parameters = 0; captured = []; outer = None; statements = Plain (Send 11 (Constant Transcript) (more_trees (Send 8 (Send 10 (Send 9 (Constant (Integer (pos 1))) (more_trees (Constant (Integer (pos 3))) no_trees)) (more_trees (Send 9 (Constant (Integer (pos 1))) (more_trees (Constant (Integer (pos 6))) no_trees)) no_trees)) no_trees) no_trees)) ∷ [] } ∷ [];
      initializers = record { code = 0; self = Nil; target = None } ∷ [];
      literals = trouble_literals;
      trouble_place = 0;
      variables = 0;
      step_limit = 10000000;
      depth_limit = 10000;
      cell_limit = 4194304;
    }

fractions_added_runs : Reports fractions_added 11 (record { ending = WasDone; transcript = codes "1/2"; steps = 5; depth = 1; cells = 11; events = [] })
unfolding computing
fractions_added_runs = (refl, refl, refl)

-- Global initializer!Transcript show: (6 / -4) printString!
abbrev pub negative_quotient : Program
negative_quotient =
    record {
      names = (codes "value") ∷ (codes "value:") ∷ (codes "value:value:") ∷ (61 ∷ []) ∷ (codes "defaultAction") ∷ (codes "isResumable") ∷ (codes "handles:") ∷ (codes "doesNotUnderstand:") ∷ (codes "printString") ∷ (47 ∷ []) ∷ (codes "show:") ∷ [];
      classes = built_in_class_rows;
      methods = [];
      bodies =
          record { kind = InInitializer; class = Class 1; parameters = 0; captured = []; outer = None; statements = Plain (Send 10 (Constant Transcript) (more_trees (Send 8 (Send 9 (Constant (Integer (pos 6))) (more_trees (Constant (Integer (negsuc 3))) no_trees)) no_trees) no_trees)) ∷ [] } ∷ [];
      initializers = record { code = 0; self = Nil; target = None } ∷ [];
      literals = trouble_literals;
      trouble_place = 0;
      variables = 0;
      step_limit = 10000000;
      depth_limit = 10000;
      cell_limit = 4194304;
    }

negative_quotient_runs : Reports negative_quotient 7 (record { ending = WasDone; transcript = codes "-3/2"; steps = 3; depth = 1; cells = 5; events = [] })
unfolding computing
negative_quotient_runs = (refl, refl, refl)

-- Global initializer!Transcript show: (6 / 3) printString!
abbrev pub whole_quotient : Program
whole_quotient =
    record {
      names = (codes "value") ∷ (codes "value:") ∷ (codes "value:value:") ∷ (61 ∷ []) ∷ (codes "defaultAction") ∷ (codes "isResumable") ∷ (codes "handles:") ∷ (codes "doesNotUnderstand:") ∷ (codes "printString") ∷ (47 ∷ []) ∷ (codes "show:") ∷ [];
      classes = built_in_class_rows;
      methods = [];
      bodies =
          record { kind = InInitializer; class = Class 1; parameters = 0; captured = []; outer = None; statements = Plain (Send 10 (Constant Transcript) (more_trees (Send 8 (Send 9 (Constant (Integer (pos 6))) (more_trees (Constant (Integer (pos 3))) no_trees)) no_trees) no_trees)) ∷ [] } ∷ [];
      initializers = record { code = 0; self = Nil; target = None } ∷ [];
      literals = trouble_literals;
      trouble_place = 0;
      variables = 0;
      step_limit = 10000000;
      depth_limit = 10000;
      cell_limit = 4194304;
    }

whole_quotient_runs : Reports whole_quotient 7 (record { ending = WasDone; transcript = 50 ∷ []; steps = 3; depth = 1; cells = 2; events = [] })
unfolding computing
whole_quotient_runs = (refl, refl, refl)

-- Global initializer!Transcript show: ((1 / 3) < (170141183460469231731687303715884105727 / 3)) printString!
abbrev pub fractions_compared : Program
fractions_compared =
    record {
      names = (codes "value") ∷ (codes "value:") ∷ (codes "value:value:") ∷ (61 ∷ []) ∷ (codes "defaultAction") ∷ (codes "isResumable") ∷ (codes "handles:") ∷ (codes "doesNotUnderstand:") ∷ (codes "printString") ∷ (47 ∷ []) ∷ (60 ∷ []) ∷ (codes "show:") ∷ [];
      classes = built_in_class_rows;
      methods = [];
      bodies =
          record { kind = InInitializer; class = Class 1; parameters = 0; captured = []; outer = None; statements = Plain (Send 11 (Constant Transcript) (more_trees (Send 8 (Send 10 (Send 9 (Constant (Integer (pos 1))) (more_trees (Constant (Integer (pos 3))) no_trees)) (more_trees (Send 9 (Constant (Integer (pos 170141183460469231731687303715884105727))) (more_trees (Constant (Integer (pos 3))) no_trees)) no_trees)) no_trees) no_trees)) ∷ [] } ∷ [];
      initializers = record { code = 0; self = Nil; target = None } ∷ [];
      literals = trouble_literals;
      trouble_place = 0;
      variables = 0;
      step_limit = 10000000;
      depth_limit = 10000;
      cell_limit = 4194304;
    }

fractions_compared_runs : Reports fractions_compared 11 (record { ending = WasDone; transcript = codes "true"; steps = 5; depth = 1; cells = 8; events = [] })
unfolding computing
fractions_compared_runs = (refl, refl, refl)

-- Global initializer!Transcript show: ((1 / 170141183460469231731687303715884105727) + (1 / 2)) printString!
abbrev pub fraction_limit : Program
fraction_limit =
    record {
      names = (codes "value") ∷ (codes "value:") ∷ (codes "value:value:") ∷ (61 ∷ []) ∷ (codes "defaultAction") ∷ (codes "isResumable") ∷ (codes "handles:") ∷ (codes "doesNotUnderstand:") ∷ (codes "printString") ∷ (47 ∷ []) ∷ (43 ∷ []) ∷ (codes "show:") ∷ [];
      classes = built_in_class_rows;
      methods = [];
      bodies =
          record { kind = InInitializer; class = Class 1; parameters = 0; captured = []; outer = None; statements = Plain (Send 11 (Constant Transcript) (more_trees (Send 8 (Send 10 (Send 9 (Constant (Integer (pos 1))) (more_trees (Constant (Integer (pos 170141183460469231731687303715884105727))) no_trees)) (more_trees (Send 9 (Constant (Integer (pos 1))) (more_trees (Constant (Integer (pos 2))) no_trees)) no_trees)) no_trees) no_trees)) ∷ [] } ∷ [];
      initializers = record { code = 0; self = Nil; target = None } ∷ [];
      literals = trouble_literals;
      trouble_place = 0;
      variables = 0;
      step_limit = 10000000;
      depth_limit = 10000;
      cell_limit = 4194304;
    }

fraction_limit_runs : Reports fraction_limit 8 (record { ending = WasAtLimit IntegerLimit; transcript = []; steps = 3; depth = 1; cells = 6; events = [] })
unfolding computing
fraction_limit_runs = (refl, refl, refl)

-- Global initializer!Transcript show: ([(1 / 3) / 0 + 1] on: ZeroDivide do: [:e | 0]) printString!
abbrev pub fraction_by_zero : Program
fraction_by_zero =
    record {
      names = (codes "value") ∷ (codes "value:") ∷ (codes "value:value:") ∷ (61 ∷ []) ∷ (codes "defaultAction") ∷ (codes "isResumable") ∷ (codes "handles:") ∷ (codes "doesNotUnderstand:") ∷ (codes "printString") ∷ (47 ∷ []) ∷ (43 ∷ []) ∷ (codes "on:do:") ∷ (codes "show:") ∷ [];
      classes = built_in_class_rows;
      methods = [];
      bodies =
          record { kind = InInitializer; class = Class 1; parameters = 0; captured = []; outer = None; statements = Plain (Send 12 (Constant Transcript) (more_trees (Send 8 (Send 11 (Block 1) (more_trees (Constant (Class 25)) (more_trees (Block 2) no_trees))) no_trees) no_trees)) ∷ [] } ∷
          record { kind = InBlock; class = Class 1; parameters = 0; captured = []; outer = (Some 0); statements = Plain (Send 10 (Send 9 (Send 9 (Constant (Integer (pos 1))) (more_trees (Constant (Integer (pos 3))) no_trees)) (more_trees (Constant (Integer (pos 0))) no_trees)) (more_trees (Constant (Integer (pos 1))) no_trees)) ∷ [] } ∷
          record { kind = InBlock; class = Class 1; parameters = 1; captured = false ∷ []; outer = (Some 0); statements = Plain (Constant (Integer (pos 0))) ∷ [] } ∷ [];
      initializers = record { code = 0; self = Nil; target = None } ∷ [];
      literals = trouble_literals;
      trouble_place = 0;
      variables = 0;
      step_limit = 10000000;
      depth_limit = 10000;
      cell_limit = 4194304;
    }

fraction_by_zero_runs : Reports fraction_by_zero 15 (record { ending = WasDone; transcript = 48 ∷ []; steps = 7; depth = 6; cells = 12; events = (Event.Protect 2) ∷ (Event.Signal 4) ∷ (Event.Search 4) ∷ (Event.Tried 2 true) ∷ (Event.Handle 5 2) ∷ (Event.End 5 true) ∷ (Event.End 4 true) ∷ (Event.End 2 false) ∷ [] })
unfolding computing
fraction_by_zero_runs = (refl, refl, refl)

-- Global initializer!Transcript show: (#(1 2 3) inject: 0 into: [:a :x | a + x]) printString!
abbrev pub injected : Program
injected =
    record {
      names = (codes "value") ∷ (codes "value:") ∷ (codes "value:value:") ∷ (61 ∷ []) ∷ (codes "defaultAction") ∷ (codes "isResumable") ∷ (codes "handles:") ∷ (codes "doesNotUnderstand:") ∷ (codes "printString") ∷ (43 ∷ []) ∷ (codes "inject:into:") ∷ (codes "show:") ∷ [];
      classes = built_in_class_rows;
      methods = [];
      bodies =
          record { kind = InInitializer; class = Class 1; parameters = 0; captured = []; outer = None; statements = Plain (Send 11 (Constant Transcript) (more_trees (Send 8 (Send 10 (Constant (Object 0)) (more_trees (Constant (Integer (pos 0))) (more_trees (Block 1) no_trees))) no_trees) no_trees)) ∷ [] } ∷
          record { kind = InBlock; class = Class 1; parameters = 2; captured = false ∷ false ∷ []; outer = (Some 0); statements = Plain (Send 9 (Variable (Scoped 0 0)) (more_trees (Variable (Scoped 0 1)) no_trees)) ∷ [] } ∷ [];
      initializers = record { code = 0; self = Nil; target = None } ∷ [];
      literals = (literal_array ((Integer (pos 1)) ∷ (Integer (pos 2)) ∷ (Integer (pos 3)) ∷ []) ∷ []) ++ trouble_literals;
      trouble_place = 1;
      variables = 0;
      step_limit = 10000000;
      depth_limit = 10000;
      cell_limit = 4194304;
    }

injected_runs : Reports injected 20 (record { ending = WasDone; transcript = 54 ∷ []; steps = 9; depth = 3; cells = 4; events = [] })
unfolding computing
injected_runs = (refl, refl, refl)

-- Global initializer!Transcript show: ('ab' , 'cd' reverse)!
abbrev pub joined : Program
joined =
    record {
      names = (codes "value") ∷ (codes "value:") ∷ (codes "value:value:") ∷ (61 ∷ []) ∷ (codes "defaultAction") ∷ (codes "isResumable") ∷ (codes "handles:") ∷ (codes "doesNotUnderstand:") ∷ (codes "printString") ∷ (codes "reverse") ∷ (44 ∷ []) ∷ (codes "show:") ∷ [];
      classes = built_in_class_rows;
      methods = [];
      bodies =
          record { kind = InInitializer; class = Class 1; parameters = 0; captured = []; outer = None; statements = Plain (Send 11 (Constant Transcript) (more_trees (Send 10 (Constant (Object 0)) (more_trees (Send 9 (Constant (Object 1)) no_trees) no_trees)) no_trees)) ∷ [] } ∷ [];
      initializers = record { code = 0; self = Nil; target = None } ∷ [];
      literals = (literal_string (codes "ab") ∷ literal_string (codes "cd") ∷ []) ++ trouble_literals;
      trouble_place = 2;
      variables = 0;
      step_limit = 10000000;
      depth_limit = 10000;
      cell_limit = 4194304;
    }

joined_runs : Reports joined 7 (record { ending = WasDone; transcript = codes "abdc"; steps = 3; depth = 1; cells = 4; events = [] })
unfolding computing
joined_runs = (refl, refl, refl)

-- Class named: 'Q' superclass: 'Object'!Q method!= o ^true!Global initializer!| s | s := Set new. s add: Q new; add: Q new. Transcript show: s size printString!
abbrev pub set_by_equality : Program
set_by_equality =
    record {
      names = (codes "value") ∷ (codes "value:") ∷ (codes "value:value:") ∷ (61 ∷ []) ∷ (codes "defaultAction") ∷ (codes "isResumable") ∷ (codes "handles:") ∷ (codes "doesNotUnderstand:") ∷ (codes "printString") ∷ (codes "new") ∷ (codes "add:") ∷ (codes "size") ∷ (codes "show:") ∷ [];
      classes = built_in_class_rows ++ record { name = 81 ∷ []; superclass = Some 0; in_file = true; indexed = NoIndexes; slots = 0; class_slots = 0 } ∷ [];
      methods = record { class = 30; side = OfInstance; selector = 3; code = 0 } ∷ [];
      bodies =
          record { kind = InMethod; class = Class 30; parameters = 1; captured = false ∷ []; outer = None; statements = Return (Constant True) ∷ [] } ∷
          record { kind = InInitializer; class = Class 1; parameters = 0; captured = false ∷ []; outer = None; statements = Plain (Assign (Scoped 0 0) (Send 9 (Constant (Class 14)) no_trees)) ∷ Plain (Cascade (Variable (Scoped 0 0)) (more_messages 10 (more_trees (Send 9 (Constant (Class 30)) no_trees) no_trees) (more_messages 10 (more_trees (Send 9 (Constant (Class 30)) no_trees) no_trees) no_messages))) ∷ Plain (Send 12 (Constant Transcript) (more_trees (Send 8 (Send 11 (Variable (Scoped 0 0)) no_trees) no_trees) no_trees)) ∷ [] } ∷ [];
      initializers = record { code = 1; self = Nil; target = None } ∷ [];
      literals = trouble_literals;
      trouble_place = 0;
      variables = 0;
      step_limit = 10000000;
      depth_limit = 10000;
      cell_limit = 4194304;
    }

set_by_equality_runs : Reports set_by_equality 22 (record { ending = WasDone; transcript = 49 ∷ []; steps = 9; depth = 3; cells = 9; events = [] })
unfolding computing
set_by_equality_runs = (refl, refl, refl)

-- Global initializer!#(1) at: 1 put: 2!
abbrev pub literal_read_only : Program
literal_read_only =
    record {
      names = (codes "value") ∷ (codes "value:") ∷ (codes "value:value:") ∷ (61 ∷ []) ∷ (codes "defaultAction") ∷ (codes "isResumable") ∷ (codes "handles:") ∷ (codes "doesNotUnderstand:") ∷ (codes "printString") ∷ (codes "at:put:") ∷ [];
      classes = built_in_class_rows;
      methods = [];
      bodies =
          record { kind = InInitializer; class = Class 1; parameters = 0; captured = []; outer = None; statements = Plain (Send 9 (Constant (Object 0)) (more_trees (Constant (Integer (pos 1))) (more_trees (Constant (Integer (pos 2))) no_trees))) ∷ [] } ∷ [];
      initializers = record { code = 0; self = Nil; target = None } ∷ [];
      literals = (literal_array ((Integer (pos 1)) ∷ []) ∷ []) ++ trouble_literals;
      trouble_place = 1;
      variables = 0;
      step_limit = 10000000;
      depth_limit = 10000;
      cell_limit = 4194304;
    }

literal_read_only_runs : Reports literal_read_only 4 (record { ending = WasUnhandled (codes "Error") (codes "literal is read-only"); transcript = []; steps = 2; depth = 3; cells = 2; events = (Event.Signal 2) ∷ (Event.Search 2) ∷ (Event.Default 3) ∷ (Event.End 3 true) ∷ (Event.End 2 true) ∷ [] })
unfolding computing
literal_read_only_runs = (refl, refl, refl)

-- Global initializer!| c | c := OrderedCollection new. c add: 1; add: 2; add: 3. c do: [:x | Transcript show: x printString] separatedBy: [c removeLast. c removeLast]!
abbrev pub separator_shrinks : Program
separator_shrinks =
    record {
      names = (codes "value") ∷ (codes "value:") ∷ (codes "value:value:") ∷ (61 ∷ []) ∷ (codes "defaultAction") ∷ (codes "isResumable") ∷ (codes "handles:") ∷ (codes "doesNotUnderstand:") ∷ (codes "printString") ∷ (codes "new") ∷ (codes "add:") ∷ (codes "show:") ∷ (codes "removeLast") ∷ (codes "do:separatedBy:") ∷ [];
      classes = built_in_class_rows;
      methods = [];
      bodies =
          record { kind = InInitializer; class = Class 1; parameters = 0; captured = true ∷ []; outer = None; statements = Plain (Assign (Scoped 0 0) (Send 9 (Constant (Class 13)) no_trees)) ∷ Plain (Cascade (Variable (Scoped 0 0)) (more_messages 10 (more_trees (Constant (Integer (pos 1))) no_trees) (more_messages 10 (more_trees (Constant (Integer (pos 2))) no_trees) (more_messages 10 (more_trees (Constant (Integer (pos 3))) no_trees) no_messages)))) ∷ Plain (Send 13 (Variable (Scoped 0 0)) (more_trees (Block 1) (more_trees (Block 2) no_trees))) ∷ [] } ∷
          record { kind = InBlock; class = Class 1; parameters = 1; captured = false ∷ []; outer = (Some 0); statements = Plain (Send 11 (Constant Transcript) (more_trees (Send 8 (Variable (Scoped 0 0)) no_trees) no_trees)) ∷ [] } ∷
          record { kind = InBlock; class = Class 1; parameters = 0; captured = []; outer = (Some 0); statements = Plain (Send 12 (Variable (Scoped 1 0)) no_trees) ∷ Plain (Send 12 (Variable (Scoped 1 0)) no_trees) ∷ [] } ∷ [];
      initializers = record { code = 0; self = Nil; target = None } ∷ [];
      literals = trouble_literals;
      trouble_place = 0;
      variables = 0;
      step_limit = 10000000;
      depth_limit = 10000;
      cell_limit = 4194304;
    }

separator_shrinks_runs : Reports separator_shrinks 32 (record { ending = WasDone; transcript = 49 ∷ []; steps = 11; depth = 3; cells = 13; events = [] })
unfolding computing
separator_shrinks_runs = (refl, refl, refl)

-- Global initializer!| c | c := OrderedCollection new. c add: 1; add: 2; add: 3; add: 4. c reverseDo: [:x | Transcript show: x printString. c removeLast. c removeLast]!
abbrev pub reverse_shrinks : Program
reverse_shrinks =
    record {
      names = (codes "value") ∷ (codes "value:") ∷ (codes "value:value:") ∷ (61 ∷ []) ∷ (codes "defaultAction") ∷ (codes "isResumable") ∷ (codes "handles:") ∷ (codes "doesNotUnderstand:") ∷ (codes "printString") ∷ (codes "new") ∷ (codes "add:") ∷ (codes "show:") ∷ (codes "removeLast") ∷ (codes "reverseDo:") ∷ [];
      classes = built_in_class_rows;
      methods = [];
      bodies =
          record { kind = InInitializer; class = Class 1; parameters = 0; captured = true ∷ []; outer = None; statements = Plain (Assign (Scoped 0 0) (Send 9 (Constant (Class 13)) no_trees)) ∷ Plain (Cascade (Variable (Scoped 0 0)) (more_messages 10 (more_trees (Constant (Integer (pos 1))) no_trees) (more_messages 10 (more_trees (Constant (Integer (pos 2))) no_trees) (more_messages 10 (more_trees (Constant (Integer (pos 3))) no_trees) (more_messages 10 (more_trees (Constant (Integer (pos 4))) no_trees) no_messages))))) ∷ Plain (Send 13 (Variable (Scoped 0 0)) (more_trees (Block 1) no_trees)) ∷ [] } ∷
          record { kind = InBlock; class = Class 1; parameters = 1; captured = false ∷ []; outer = (Some 0); statements = Plain (Send 11 (Constant Transcript) (more_trees (Send 8 (Variable (Scoped 0 0)) no_trees) no_trees)) ∷ Plain (Send 12 (Variable (Scoped 1 0)) no_trees) ∷ Plain (Send 12 (Variable (Scoped 1 0)) no_trees) ∷ [] } ∷ [];
      initializers = record { code = 0; self = Nil; target = None } ∷ [];
      literals = trouble_literals;
      trouble_place = 0;
      variables = 0;
      step_limit = 10000000;
      depth_limit = 10000;
      cell_limit = 4194304;
    }

reverse_shrinks_runs : Reports reverse_shrinks 46 (record { ending = WasDone; transcript = codes "42"; steps = 16; depth = 3; cells = 13; events = [] })
unfolding computing
reverse_shrinks_runs = (refl, refl, refl)

-- Global initializer!| c | c := OrderedCollection new. c add: 1; add: 2; add: 3. Transcript show: (c detect: [:x | c removeFirst. true]) printString!
abbrev pub detect_gone : Program
detect_gone =
    record {
      names = (codes "value") ∷ (codes "value:") ∷ (codes "value:value:") ∷ (61 ∷ []) ∷ (codes "defaultAction") ∷ (codes "isResumable") ∷ (codes "handles:") ∷ (codes "doesNotUnderstand:") ∷ (codes "printString") ∷ (codes "new") ∷ (codes "add:") ∷ (codes "removeFirst") ∷ (codes "detect:") ∷ (codes "show:") ∷ [];
      classes = built_in_class_rows;
      methods = [];
      bodies =
          record { kind = InInitializer; class = Class 1; parameters = 0; captured = true ∷ []; outer = None; statements = Plain (Assign (Scoped 0 0) (Send 9 (Constant (Class 13)) no_trees)) ∷ Plain (Cascade (Variable (Scoped 0 0)) (more_messages 10 (more_trees (Constant (Integer (pos 1))) no_trees) (more_messages 10 (more_trees (Constant (Integer (pos 2))) no_trees) (more_messages 10 (more_trees (Constant (Integer (pos 3))) no_trees) no_messages)))) ∷ Plain (Send 13 (Constant Transcript) (more_trees (Send 8 (Send 12 (Variable (Scoped 0 0)) (more_trees (Block 1) no_trees)) no_trees) no_trees)) ∷ [] } ∷
          record { kind = InBlock; class = Class 1; parameters = 1; captured = false ∷ []; outer = (Some 0); statements = Plain (Send 11 (Variable (Scoped 1 0)) no_trees) ∷ Plain (Constant True) ∷ [] } ∷ [];
      initializers = record { code = 0; self = Nil; target = None } ∷ [];
      literals = trouble_literals;
      trouble_place = 0;
      variables = 0;
      step_limit = 10000000;
      depth_limit = 10000;
      cell_limit = 4194304;
    }

detect_gone_runs : Reports detect_gone 28 (record { ending = WasDone; transcript = 49 ∷ []; steps = 9; depth = 3; cells = 11; events = [] })
unfolding computing
detect_gone_runs = (refl, refl, refl)

-- Global initializer!| c | c := OrderedCollection new. c add: 1; add: 2; add: 3. Transcript show: (c select: [:x | c removeFirst. true]) last printString!
abbrev pub select_gone : Program
select_gone =
    record {
      names = (codes "value") ∷ (codes "value:") ∷ (codes "value:value:") ∷ (61 ∷ []) ∷ (codes "defaultAction") ∷ (codes "isResumable") ∷ (codes "handles:") ∷ (codes "doesNotUnderstand:") ∷ (codes "printString") ∷ (codes "new") ∷ (codes "add:") ∷ (codes "removeFirst") ∷ (codes "select:") ∷ (codes "last") ∷ (codes "show:") ∷ [];
      classes = built_in_class_rows;
      methods = [];
      bodies =
          record { kind = InInitializer; class = Class 1; parameters = 0; captured = true ∷ []; outer = None; statements = Plain (Assign (Scoped 0 0) (Send 9 (Constant (Class 13)) no_trees)) ∷ Plain (Cascade (Variable (Scoped 0 0)) (more_messages 10 (more_trees (Constant (Integer (pos 1))) no_trees) (more_messages 10 (more_trees (Constant (Integer (pos 2))) no_trees) (more_messages 10 (more_trees (Constant (Integer (pos 3))) no_trees) no_messages)))) ∷ Plain (Send 14 (Constant Transcript) (more_trees (Send 8 (Send 13 (Send 12 (Variable (Scoped 0 0)) (more_trees (Block 1) no_trees)) no_trees) no_trees) no_trees)) ∷ [] } ∷
          record { kind = InBlock; class = Class 1; parameters = 1; captured = false ∷ []; outer = (Some 0); statements = Plain (Send 11 (Variable (Scoped 1 0)) no_trees) ∷ Plain (Constant True) ∷ [] } ∷ [];
      initializers = record { code = 0; self = Nil; target = None } ∷ [];
      literals = trouble_literals;
      trouble_place = 0;
      variables = 0;
      step_limit = 10000000;
      depth_limit = 10000;
      cell_limit = 4194304;
    }

select_gone_runs : Reports select_gone 34 (record { ending = WasDone; transcript = 51 ∷ []; steps = 12; depth = 3; cells = 16; events = [] })
unfolding computing
select_gone_runs = (refl, refl, refl)

-- Class named: 'Q' superclass: 'Object'!Global variable: 'C'!Q method!= o C removeFirst. ^true!Global initializer!C := OrderedCollection new. C add: 5; add: 6; add: 7. Transcript show: (C remove: Q new) printString; show: C size printString!
abbrev pub search_rereads : Program
search_rereads =
    record {
      names = (codes "value") ∷ (codes "value:") ∷ (codes "value:value:") ∷ (61 ∷ []) ∷ (codes "defaultAction") ∷ (codes "isResumable") ∷ (codes "handles:") ∷ (codes "doesNotUnderstand:") ∷ (codes "printString") ∷ (codes "removeFirst") ∷ (codes "new") ∷ (codes "add:") ∷ (codes "show:") ∷ (codes "remove:") ∷ (codes "size") ∷ [];
      classes = built_in_class_rows ++ record { name = 81 ∷ []; superclass = Some 0; in_file = true; indexed = NoIndexes; slots = 0; class_slots = 0 } ∷ [];
      methods = record { class = 30; side = OfInstance; selector = 3; code = 0 } ∷ [];
      bodies =
          record { kind = InMethod; class = Class 30; parameters = 1; captured = false ∷ []; outer = None; statements = Plain (Send 9 (Variable (Shared 0)) no_trees) ∷ Return (Constant True) ∷ [] } ∷
          record { kind = InInitializer; class = Class 1; parameters = 0; captured = []; outer = None; statements = Plain (Assign (Shared 0) (Send 10 (Constant (Class 13)) no_trees)) ∷ Plain (Cascade (Variable (Shared 0)) (more_messages 11 (more_trees (Constant (Integer (pos 5))) no_trees) (more_messages 11 (more_trees (Constant (Integer (pos 6))) no_trees) (more_messages 11 (more_trees (Constant (Integer (pos 7))) no_trees) no_messages)))) ∷ Plain (Cascade (Constant Transcript) (more_messages 12 (more_trees (Send 8 (Send 13 (Variable (Shared 0)) (more_trees (Send 10 (Constant (Class 30)) no_trees) no_trees)) no_trees) no_trees) (more_messages 12 (more_trees (Send 8 (Send 14 (Variable (Shared 0)) no_trees) no_trees) no_trees) no_messages))) ∷ [] } ∷ [];
      initializers = record { code = 1; self = Nil; target = None } ∷ [];
      literals = trouble_literals;
      trouble_place = 0;
      variables = 1;
      step_limit = 10000000;
      depth_limit = 10000;
      cell_limit = 4194304;
    }

search_rereads_runs : Reports search_rereads 35 (record { ending = WasDone; transcript = codes "61"; steps = 13; depth = 3; cells = 10; events = [] })
unfolding computing
search_rereads_runs = (refl, refl, refl)

-- Global initializer!| d | d := Dictionary new. d at: 1 ifAbsentPut: [d at: 1 put: 2. 3]. Transcript show: d size printString; show: (d at: 1) printString!
abbrev pub if_absent_put_twice : Program
if_absent_put_twice =
    record {
      names = (codes "value") ∷ (codes "value:") ∷ (codes "value:value:") ∷ (61 ∷ []) ∷ (codes "defaultAction") ∷ (codes "isResumable") ∷ (codes "handles:") ∷ (codes "doesNotUnderstand:") ∷ (codes "printString") ∷ (codes "new") ∷ (codes "at:put:") ∷ (codes "at:ifAbsentPut:") ∷ (codes "show:") ∷ (codes "size") ∷ (codes "at:") ∷ [];
      classes = built_in_class_rows;
      methods = [];
      bodies =
          record { kind = InInitializer; class = Class 1; parameters = 0; captured = true ∷ []; outer = None; statements = Plain (Assign (Scoped 0 0) (Send 9 (Constant (Class 15)) no_trees)) ∷ Plain (Send 11 (Variable (Scoped 0 0)) (more_trees (Constant (Integer (pos 1))) (more_trees (Block 1) no_trees))) ∷ Plain (Cascade (Constant Transcript) (more_messages 12 (more_trees (Send 8 (Send 13 (Variable (Scoped 0 0)) no_trees) no_trees) no_trees) (more_messages 12 (more_trees (Send 8 (Send 14 (Variable (Scoped 0 0)) (more_trees (Constant (Integer (pos 1))) no_trees)) no_trees) no_trees) no_messages))) ∷ [] } ∷
          record { kind = InBlock; class = Class 1; parameters = 0; captured = []; outer = (Some 0); statements = Plain (Send 10 (Variable (Scoped 1 0)) (more_trees (Constant (Integer (pos 1))) (more_trees (Constant (Integer (pos 2))) no_trees))) ∷ Plain (Constant (Integer (pos 3))) ∷ [] } ∷ [];
      initializers = record { code = 0; self = Nil; target = None } ∷ [];
      literals = trouble_literals;
      trouble_place = 0;
      variables = 0;
      step_limit = 10000000;
      depth_limit = 10000;
      cell_limit = 4194304;
    }

if_absent_put_twice_runs : Reports if_absent_put_twice 29 (record { ending = WasDone; transcript = codes "22"; steps = 11; depth = 4; cells = 17; events = [] })
unfolding computing
if_absent_put_twice_runs = (refl, refl, refl)

-- Class named: 'Q' superclass: 'Object'!Global variable: 'C'!Q method!= o C removeLast. ^true!Global initializer!| a | C := OrderedCollection new. C add: 1; add: 2. a := OrderedCollection new. a add: Q new; add: Q new. Transcript show: (a = C) printString!
abbrev pub equal_shorter : Program
equal_shorter =
    record {
      names = (codes "value") ∷ (codes "value:") ∷ (codes "value:value:") ∷ (61 ∷ []) ∷ (codes "defaultAction") ∷ (codes "isResumable") ∷ (codes "handles:") ∷ (codes "doesNotUnderstand:") ∷ (codes "printString") ∷ (codes "removeLast") ∷ (codes "new") ∷ (codes "add:") ∷ (codes "show:") ∷ [];
      classes = built_in_class_rows ++ record { name = 81 ∷ []; superclass = Some 0; in_file = true; indexed = NoIndexes; slots = 0; class_slots = 0 } ∷ [];
      methods = record { class = 30; side = OfInstance; selector = 3; code = 0 } ∷ [];
      bodies =
          record { kind = InMethod; class = Class 30; parameters = 1; captured = false ∷ []; outer = None; statements = Plain (Send 9 (Variable (Shared 0)) no_trees) ∷ Return (Constant True) ∷ [] } ∷
          record { kind = InInitializer; class = Class 1; parameters = 0; captured = false ∷ []; outer = None; statements = Plain (Assign (Shared 0) (Send 10 (Constant (Class 13)) no_trees)) ∷ Plain (Cascade (Variable (Shared 0)) (more_messages 11 (more_trees (Constant (Integer (pos 1))) no_trees) (more_messages 11 (more_trees (Constant (Integer (pos 2))) no_trees) no_messages))) ∷ Plain (Assign (Scoped 0 0) (Send 10 (Constant (Class 13)) no_trees)) ∷ Plain (Cascade (Variable (Scoped 0 0)) (more_messages 11 (more_trees (Send 10 (Constant (Class 30)) no_trees) no_trees) (more_messages 11 (more_trees (Send 10 (Constant (Class 30)) no_trees) no_trees) no_messages))) ∷ Plain (Send 12 (Constant Transcript) (more_trees (Send 8 (Send 3 (Variable (Scoped 0 0)) (more_trees (Variable (Shared 0)) no_trees)) no_trees) no_trees)) ∷ [] } ∷ [];
      initializers = record { code = 1; self = Nil; target = None } ∷ [];
      literals = trouble_literals;
      trouble_place = 0;
      variables = 1;
      step_limit = 10000000;
      depth_limit = 10000;
      cell_limit = 4194304;
    }

equal_shorter_runs : Reports equal_shorter 38 (record { ending = WasDone; transcript = codes "false"; steps = 13; depth = 3; cells = 14; events = [] })
unfolding computing
equal_shorter_runs = (refl, refl, refl)

-- Class named: 'A' superclass: 'Object'!A method!m Transcript show: 'A'!Class named: 'B' superclass: 'A'!B method!m Transcript show: 'B'!B method!n super m; m; yourself!Global initializer!B new n!
abbrev pub cascade_super : Program
cascade_super =
    record {
      names = (codes "value") ∷ (codes "value:") ∷ (codes "value:value:") ∷ (61 ∷ []) ∷ (codes "defaultAction") ∷ (codes "isResumable") ∷ (codes "handles:") ∷ (codes "doesNotUnderstand:") ∷ (codes "printString") ∷ (codes "show:") ∷ (109 ∷ []) ∷ (codes "yourself") ∷ (110 ∷ []) ∷ (codes "new") ∷ [];
      classes = built_in_class_rows ++ record { name = 65 ∷ []; superclass = Some 0; in_file = true; indexed = NoIndexes; slots = 0; class_slots = 0 } ∷ record { name = 66 ∷ []; superclass = Some 30; in_file = true; indexed = NoIndexes; slots = 0; class_slots = 0 } ∷ [];
      methods = record { class = 30; side = OfInstance; selector = 10; code = 0 } ∷ record { class = 31; side = OfInstance; selector = 10; code = 1 } ∷ record { class = 31; side = OfInstance; selector = 12; code = 2 } ∷ [];
      bodies =
          record { kind = InMethod; class = Class 30; parameters = 0; captured = []; outer = None; statements = Plain (Send 9 (Constant Transcript) (more_trees (Constant (Object 0)) no_trees)) ∷ [] } ∷
          record { kind = InMethod; class = Class 31; parameters = 0; captured = []; outer = None; statements = Plain (Send 9 (Constant Transcript) (more_trees (Constant (Object 1)) no_trees)) ∷ [] } ∷
          record { kind = InMethod; class = Class 31; parameters = 0; captured = []; outer = None; statements = Plain (SuperCascade (more_messages 10 no_trees (more_messages 10 no_trees (more_messages 11 no_trees no_messages)))) ∷ [] } ∷
          record { kind = InInitializer; class = Class 1; parameters = 0; captured = []; outer = None; statements = Plain (Send 12 (Send 13 (Constant (Class 31)) no_trees) no_trees) ∷ [] } ∷ [];
      initializers = record { code = 3; self = Nil; target = None } ∷ [];
      literals = (literal_string (65 ∷ []) ∷ literal_string (66 ∷ []) ∷ []) ++ trouble_literals;
      trouble_place = 2;
      variables = 0;
      step_limit = 10000000;
      depth_limit = 10000;
      cell_limit = 4194304;
    }

cascade_super_runs : Reports cascade_super 27 (record { ending = WasDone; transcript = codes "AA"; steps = 7; depth = 3; cells = 1; events = [] })
unfolding computing
cascade_super_runs = (refl, refl, refl)

-- Global initializer!Transcript show: ([:a :b | [:c | a + c] value: b] value: 1 value: 2) printString!
abbrev pub captured_parameter : Program
captured_parameter =
    record {
      names = (codes "value") ∷ (codes "value:") ∷ (codes "value:value:") ∷ (61 ∷ []) ∷ (codes "defaultAction") ∷ (codes "isResumable") ∷ (codes "handles:") ∷ (codes "doesNotUnderstand:") ∷ (codes "printString") ∷ (43 ∷ []) ∷ (codes "show:") ∷ [];
      classes = built_in_class_rows;
      methods = [];
      bodies =
          record { kind = InInitializer; class = Class 1; parameters = 0; captured = []; outer = None; statements = Plain (Send 10 (Constant Transcript) (more_trees (Send 8 (Send 2 (Block 1) (more_trees (Constant (Integer (pos 1))) (more_trees (Constant (Integer (pos 2))) no_trees))) no_trees) no_trees)) ∷ [] } ∷
          record { kind = InBlock; class = Class 1; parameters = 2; captured = true ∷ false ∷ []; outer = (Some 0); statements = Plain (Send 1 (Block 2) (more_trees (Variable (Scoped 0 1)) no_trees)) ∷ [] } ∷
          record { kind = InBlock; class = Class 1; parameters = 1; captured = false ∷ []; outer = (Some 1); statements = Plain (Send 9 (Variable (Scoped 1 0)) (more_trees (Variable (Scoped 0 0)) no_trees)) ∷ [] } ∷ [];
      initializers = record { code = 0; self = Nil; target = None } ∷ [];
      literals = trouble_literals;
      trouble_place = 0;
      variables = 0;
      step_limit = 10000000;
      depth_limit = 10000;
      cell_limit = 4194304;
    }

captured_parameter_runs : Reports captured_parameter 16 (record { ending = WasDone; transcript = 51 ∷ []; steps = 7; depth = 3; cells = 8; events = [] })
unfolding computing
captured_parameter_runs = (refl, refl, refl)

-- Global initializer!Transcript show: ([3 foo: 4. 1] on: MessageNotUnderstood do: [:e | e message arguments size]) printString!
abbrev pub charges_of_failed_send : Program
charges_of_failed_send =
    record {
      names = (codes "value") ∷ (codes "value:") ∷ (codes "value:value:") ∷ (61 ∷ []) ∷ (codes "defaultAction") ∷ (codes "isResumable") ∷ (codes "handles:") ∷ (codes "doesNotUnderstand:") ∷ (codes "printString") ∷ (codes "foo:") ∷ (codes "message") ∷ (codes "arguments") ∷ (codes "size") ∷ (codes "on:do:") ∷ (codes "show:") ∷ [];
      classes = built_in_class_rows;
      methods = [];
      bodies =
          record { kind = InInitializer; class = Class 1; parameters = 0; captured = []; outer = None; statements = Plain (Send 14 (Constant Transcript) (more_trees (Send 8 (Send 13 (Block 1) (more_trees (Constant (Class 26)) (more_trees (Block 2) no_trees))) no_trees) no_trees)) ∷ [] } ∷
          record { kind = InBlock; class = Class 1; parameters = 0; captured = []; outer = (Some 0); statements = Plain (Send 9 (Constant (Integer (pos 3))) (more_trees (Constant (Integer (pos 4))) no_trees)) ∷ Plain (Constant (Integer (pos 1))) ∷ [] } ∷
          record { kind = InBlock; class = Class 1; parameters = 1; captured = false ∷ []; outer = (Some 0); statements = Plain (Send 12 (Send 11 (Send 10 (Variable (Scoped 0 0)) no_trees) no_trees) no_trees) ∷ [] } ∷ [];
      initializers = record { code = 0; self = Nil; target = None } ∷ [];
      literals = trouble_literals;
      trouble_place = 0;
      variables = 0;
      step_limit = 10000000;
      depth_limit = 10000;
      cell_limit = 4194304;
    }

charges_of_failed_send_runs : Reports charges_of_failed_send 16 (record { ending = WasDone; transcript = 49 ∷ []; steps = 10; depth = 6; cells = 15; events = (Event.Protect 2) ∷ (Event.Signal 4) ∷ (Event.Search 4) ∷ (Event.Tried 2 true) ∷ (Event.Handle 5 2) ∷ (Event.End 5 true) ∷ (Event.End 4 true) ∷ (Event.End 2 false) ∷ [] })
unfolding computing
charges_of_failed_send_runs = (refl, refl, refl)

-- Class named: 'A' superclass: 'Object'!Class named: 'B' superclass: 'A'!Class named: 'C' superclass: 'B'!A method!m ^1!B method!m ^super m + 1!Global initializer!Transcript show: C new m printString!
abbrev pub super_sent : Program
super_sent =
    record {
      names = (codes "value") ∷ (codes "value:") ∷ (codes "value:value:") ∷ (61 ∷ []) ∷ (codes "defaultAction") ∷ (codes "isResumable") ∷ (codes "handles:") ∷ (codes "doesNotUnderstand:") ∷ (codes "printString") ∷ (codes "m") ∷ (43 ∷ []) ∷ (codes "new") ∷ (codes "show:") ∷ [];
      classes = built_in_class_rows ++ record { name = 65 ∷ []; superclass = Some 0; in_file = true; indexed = NoIndexes; slots = 0; class_slots = 0 } ∷ record { name = 66 ∷ []; superclass = Some 30; in_file = true; indexed = NoIndexes; slots = 0; class_slots = 0 } ∷ record { name = 67 ∷ []; superclass = Some 31; in_file = true; indexed = NoIndexes; slots = 0; class_slots = 0 } ∷ [];
      methods = record { class = 30; side = OfInstance; selector = 9; code = 0 } ∷ record { class = 31; side = OfInstance; selector = 9; code = 1 } ∷ [];
      bodies =
          record { kind = InMethod; class = Class 30; parameters = 0; captured = []; outer = None; statements = Return (Constant (Integer (pos 1))) ∷ [] } ∷
          record { kind = InMethod; class = Class 31; parameters = 0; captured = []; outer = None; statements = Return (Send 10 (SuperSend 9 no_trees) (more_trees (Constant (Integer (pos 1))) no_trees)) ∷ [] } ∷
          record { kind = InInitializer; class = Class 1; parameters = 0; captured = []; outer = None; statements = Plain (Send 12 (Constant Transcript) (more_trees (Send 8 (Send 9 (Send 11 (Constant (Class 32)) no_trees) no_trees) no_trees) no_trees)) ∷ [] } ∷ [];
      initializers = record { code = 2; self = Nil; target = None } ∷ [];
      literals = trouble_literals;
      trouble_place = 0;
      variables = 0;
      step_limit = 10000000;
      depth_limit = 10000;
      cell_limit = 4194304;
    }

super_sent_runs : Reports super_sent 14 (record { ending = WasDone; transcript = codes "2"; steps = 6; depth = 3; cells = 3; events = [] })
unfolding computing
super_sent_runs = (refl, refl, refl)
