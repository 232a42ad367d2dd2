-- The run of a whole file: a bank with its accounts, pools, class variables, an exception of its own and a termination block.
use Rattle.std.proofs.Common.{List, [], ◌∷◌, refl, true, false, pos}
use Rattle.std.specs.Prelude.{codes}
use Rattle.st_code.specs.Program.{Program, NoIndexes}
use Rattle.st_rules.specs.Events.{Event}
use Rattle.st_rules.proofs.Computing.{Reports, computing, WasDone}
use Rattle.st_code.specs.Named.{IntegerLiteral, StringLiteral, NameOf, SelfName, LiteralOf, BlockOf, OperandOf, no_operands, more_operands, none_sent, then_sent, ExprOf, no_statements, more_statements, NamedUnit, ClassUnit, PoolVariableUnit, PoolInitializerUnit, ProgramUnit, MethodUnit, ClassMethodUnit}
use Rattle.st_code.specs.Resolved.{captured_of, meant, meant_outside}
use Rattle.st_code.specs.Definitions.{program_of, names_of}

-- Smalltalk interchangeVersion: '1.0'!
-- Pool named: 'BankLimits'!
-- BankLimits constant: 'MaxTransfer'!
-- BankLimits initializerFor: 'MaxTransfer'!
-- 500! !
-- Class named: 'Overdrawn' superclass: 'Error' indexedInstanceVariables: #none
--     instanceVariableNames: '' classVariableNames: '' sharedPools: ''
--     classInstanceVariableNames: ''!
-- Annotation key: 'category' value: 'Bank-Errors'!
-- Class named: 'Account' superclass: 'Object' indexedInstanceVariables: #none
--     instanceVariableNames: 'owner balance' classVariableNames: 'Made'
--     sharedPools: 'BankLimits' classInstanceVariableNames: ''!
-- Annotation key: 'category' value: 'Bank-Core'!
-- Account classMethod!
-- owner: aName
--     "answer a new account"
--     Made isNil ifTrue: [Made := 0].
--     Made := Made + 1.
--     ^self new setOwner: aName! !
-- Annotation key: 'category' value: 'making'!
-- Account method!
-- setOwner: aName
--     owner := aName.
--     balance := 0! !
-- Account method!
-- balance
--     ^balance! !
-- Account method!
-- deposit: n
--     balance := balance + n! !
-- Account method!
-- withdraw: n
--     n > balance ifTrue: [^Overdrawn signal: owner , ' has only ' , balance printString].
--     balance := balance - n! !
-- Account method!
-- transfer: n to: other
--     | log |
--     log := OrderedCollection new.
--     [n > MaxTransfer ifTrue: [Warning signal: 'large transfer'].
--     self withdraw: n.
--     other deposit: n.
--     log add: 'done'] ensure: [Transcript show: 'transfer ', n printString; cr].
--     ^log size! !
-- Global initializer!
-- | a b |
-- a := Account owner: 'ann'.
-- b := Account owner: 'bob'.
-- a deposit: 1000.
-- a transfer: 200 to: b.
-- a transfer: 600 to: b.
-- [a transfer: 400 to: b] on: Overdrawn do: [:e | Transcript show: e messageText; cr].
-- Transcript show: a balance printString, ' ', b balance printString; cr! !
abbrev bank_units : List NamedUnit
bank_units =
    (PoolVariableUnit (codes "BankLimits") (codes "MaxTransfer")) ∷
    (PoolInitializerUnit (codes "BankLimits") (codes "MaxTransfer") (record { temporaries = []; statements = (more_statements false (ExprOf ([]) (OperandOf (LiteralOf (IntegerLiteral (pos 500))) none_sent) none_sent) no_statements) })) ∷
    (ClassUnit (record { name = (codes "Overdrawn"); superclass = (codes "Error"); indexed = NoIndexes; instance_names = []; class_names = []; pools = []; class_instance_names = [] })) ∷
    (ClassUnit (record { name = (codes "Account"); superclass = (codes "Object"); indexed = NoIndexes; instance_names = (codes "owner") ∷ (codes "balance") ∷ []; class_names = (codes "Made") ∷ []; pools = (codes "BankLimits") ∷ []; class_instance_names = [] })) ∷
    (ClassMethodUnit (codes "Account") (record { selector = (codes "owner:"); parameters = (codes "aName") ∷ []; body = (record { temporaries = []; statements = (more_statements false (ExprOf ([]) (OperandOf (NameOf (codes "Made")) (then_sent (codes "isNil") no_operands (then_sent (codes "ifTrue:") (more_operands (OperandOf (BlockOf ([]) ([]) ((more_statements false (ExprOf ((codes "Made") ∷ []) (OperandOf (LiteralOf (IntegerLiteral (pos 0))) none_sent) none_sent) no_statements))) none_sent) no_operands) none_sent))) none_sent) (more_statements false (ExprOf ((codes "Made") ∷ []) (OperandOf (NameOf (codes "Made")) (then_sent (43 ∷ []) (more_operands (OperandOf (LiteralOf (IntegerLiteral (pos 1))) none_sent) no_operands) none_sent)) none_sent) (more_statements true (ExprOf ([]) (OperandOf SelfName (then_sent (codes "new") no_operands (then_sent (codes "setOwner:") (more_operands (OperandOf (NameOf (codes "aName")) none_sent) no_operands) none_sent))) none_sent) no_statements))) }) })) ∷
    (MethodUnit (codes "Account") (record { selector = (codes "setOwner:"); parameters = (codes "aName") ∷ []; body = (record { temporaries = []; statements = (more_statements false (ExprOf ((codes "owner") ∷ []) (OperandOf (NameOf (codes "aName")) none_sent) none_sent) (more_statements false (ExprOf ((codes "balance") ∷ []) (OperandOf (LiteralOf (IntegerLiteral (pos 0))) none_sent) none_sent) no_statements)) }) })) ∷
    (MethodUnit (codes "Account") (record { selector = (codes "balance"); parameters = []; body = (record { temporaries = []; statements = (more_statements true (ExprOf ([]) (OperandOf (NameOf (codes "balance")) none_sent) none_sent) no_statements) }) })) ∷
    (MethodUnit (codes "Account") (record { selector = (codes "deposit:"); parameters = (110 ∷ []) ∷ []; body = (record { temporaries = []; statements = (more_statements false (ExprOf ((codes "balance") ∷ []) (OperandOf (NameOf (codes "balance")) (then_sent (43 ∷ []) (more_operands (OperandOf (NameOf (110 ∷ [])) none_sent) no_operands) none_sent)) none_sent) no_statements) }) })) ∷
    (MethodUnit (codes "Account") (record { selector = (codes "withdraw:"); parameters = (110 ∷ []) ∷ []; body = (record { temporaries = []; statements = (more_statements false (ExprOf ([]) (OperandOf (NameOf (110 ∷ [])) (then_sent (62 ∷ []) (more_operands (OperandOf (NameOf (codes "balance")) none_sent) no_operands) (then_sent (codes "ifTrue:") (more_operands (OperandOf (BlockOf ([]) ([]) ((more_statements true (ExprOf ([]) (OperandOf (NameOf (codes "Overdrawn")) (then_sent (codes "signal:") (more_operands (OperandOf (NameOf (codes "owner")) (then_sent (44 ∷ []) (more_operands (OperandOf (LiteralOf (StringLiteral (codes " has only "))) none_sent) no_operands) (then_sent (44 ∷ []) (more_operands (OperandOf (NameOf (codes "balance")) (then_sent (codes "printString") no_operands none_sent)) no_operands) none_sent))) no_operands) none_sent)) none_sent) no_statements))) none_sent) no_operands) none_sent))) none_sent) (more_statements false (ExprOf ((codes "balance") ∷ []) (OperandOf (NameOf (codes "balance")) (then_sent (45 ∷ []) (more_operands (OperandOf (NameOf (110 ∷ [])) none_sent) no_operands) none_sent)) none_sent) no_statements)) }) })) ∷
    (MethodUnit (codes "Account") (record { selector = (codes "transfer:to:"); parameters = (110 ∷ []) ∷ (codes "other") ∷ []; body = (record { temporaries = (codes "log") ∷ []; statements = (more_statements false (ExprOf ((codes "log") ∷ []) (OperandOf (NameOf (codes "OrderedCollection")) (then_sent (codes "new") no_operands none_sent)) none_sent) (more_statements false (ExprOf ([]) (OperandOf (BlockOf ([]) ([]) ((more_statements false (ExprOf ([]) (OperandOf (NameOf (110 ∷ [])) (then_sent (62 ∷ []) (more_operands (OperandOf (NameOf (codes "MaxTransfer")) none_sent) no_operands) (then_sent (codes "ifTrue:") (more_operands (OperandOf (BlockOf ([]) ([]) ((more_statements false (ExprOf ([]) (OperandOf (NameOf (codes "Warning")) (then_sent (codes "signal:") (more_operands (OperandOf (LiteralOf (StringLiteral (codes "large transfer"))) none_sent) no_operands) none_sent)) none_sent) no_statements))) none_sent) no_operands) none_sent))) none_sent) (more_statements false (ExprOf ([]) (OperandOf SelfName (then_sent (codes "withdraw:") (more_operands (OperandOf (NameOf (110 ∷ [])) none_sent) no_operands) none_sent)) none_sent) (more_statements false (ExprOf ([]) (OperandOf (NameOf (codes "other")) (then_sent (codes "deposit:") (more_operands (OperandOf (NameOf (110 ∷ [])) none_sent) no_operands) none_sent)) none_sent) (more_statements false (ExprOf ([]) (OperandOf (NameOf (codes "log")) (then_sent (codes "add:") (more_operands (OperandOf (LiteralOf (StringLiteral (codes "done"))) none_sent) no_operands) none_sent)) none_sent) no_statements)))))) (then_sent (codes "ensure:") (more_operands (OperandOf (BlockOf ([]) ([]) ((more_statements false (ExprOf ([]) (OperandOf (NameOf (codes "Transcript")) (then_sent (codes "show:") (more_operands (OperandOf (LiteralOf (StringLiteral (codes "transfer "))) (then_sent (44 ∷ []) (more_operands (OperandOf (NameOf (110 ∷ [])) (then_sent (codes "printString") no_operands none_sent)) no_operands) none_sent)) no_operands) none_sent)) (then_sent (codes "cr") no_operands none_sent)) no_statements))) none_sent) no_operands) none_sent)) none_sent) (more_statements true (ExprOf ([]) (OperandOf (NameOf (codes "log")) (then_sent (codes "size") no_operands none_sent)) none_sent) no_statements))) }) })) ∷
    (ProgramUnit (record { temporaries = (97 ∷ []) ∷ (98 ∷ []) ∷ []; statements = (more_statements false (ExprOf ((97 ∷ []) ∷ []) (OperandOf (NameOf (codes "Account")) (then_sent (codes "owner:") (more_operands (OperandOf (LiteralOf (StringLiteral (codes "ann"))) none_sent) no_operands) none_sent)) none_sent) (more_statements false (ExprOf ((98 ∷ []) ∷ []) (OperandOf (NameOf (codes "Account")) (then_sent (codes "owner:") (more_operands (OperandOf (LiteralOf (StringLiteral (codes "bob"))) none_sent) no_operands) none_sent)) none_sent) (more_statements false (ExprOf ([]) (OperandOf (NameOf (97 ∷ [])) (then_sent (codes "deposit:") (more_operands (OperandOf (LiteralOf (IntegerLiteral (pos 1000))) none_sent) no_operands) none_sent)) none_sent) (more_statements false (ExprOf ([]) (OperandOf (NameOf (97 ∷ [])) (then_sent (codes "transfer:to:") (more_operands (OperandOf (LiteralOf (IntegerLiteral (pos 200))) none_sent) (more_operands (OperandOf (NameOf (98 ∷ [])) none_sent) no_operands)) none_sent)) none_sent) (more_statements false (ExprOf ([]) (OperandOf (NameOf (97 ∷ [])) (then_sent (codes "transfer:to:") (more_operands (OperandOf (LiteralOf (IntegerLiteral (pos 600))) none_sent) (more_operands (OperandOf (NameOf (98 ∷ [])) none_sent) no_operands)) none_sent)) none_sent) (more_statements false (ExprOf ([]) (OperandOf (BlockOf ([]) ([]) ((more_statements false (ExprOf ([]) (OperandOf (NameOf (97 ∷ [])) (then_sent (codes "transfer:to:") (more_operands (OperandOf (LiteralOf (IntegerLiteral (pos 400))) none_sent) (more_operands (OperandOf (NameOf (98 ∷ [])) none_sent) no_operands)) none_sent)) none_sent) no_statements))) (then_sent (codes "on:do:") (more_operands (OperandOf (NameOf (codes "Overdrawn")) none_sent) (more_operands (OperandOf (BlockOf ((101 ∷ []) ∷ []) ([]) ((more_statements false (ExprOf ([]) (OperandOf (NameOf (codes "Transcript")) (then_sent (codes "show:") (more_operands (OperandOf (NameOf (101 ∷ [])) (then_sent (codes "messageText") no_operands none_sent)) no_operands) none_sent)) (then_sent (codes "cr") no_operands none_sent)) no_statements))) none_sent) no_operands)) none_sent)) none_sent) (more_statements false (ExprOf ([]) (OperandOf (NameOf (codes "Transcript")) (then_sent (codes "show:") (more_operands (OperandOf (NameOf (97 ∷ [])) (then_sent (codes "balance") no_operands (then_sent (codes "printString") no_operands (then_sent (44 ∷ []) (more_operands (OperandOf (LiteralOf (StringLiteral (32 ∷ []))) none_sent) no_operands) (then_sent (44 ∷ []) (more_operands (OperandOf (NameOf (98 ∷ [])) (then_sent (codes "balance") no_operands (then_sent (codes "printString") no_operands none_sent))) no_operands) none_sent))))) no_operands) none_sent)) (then_sent (codes "cr") no_operands none_sent)) no_statements))))))) })) ∷ []

abbrev pub bank : Program
bank = program_of ((codes "value") ∷ (codes "value:") ∷ (codes "value:value:") ∷ (61 ∷ []) ∷ (codes "defaultAction") ∷ (codes "isResumable") ∷ (codes "handles:") ∷ (codes "doesNotUnderstand:") ∷ (codes "printString") ∷ (codes "isNil") ∷ (codes "ifTrue:") ∷ (43 ∷ []) ∷ (codes "new") ∷ (codes "setOwner:") ∷ (codes "owner:") ∷ (codes "balance") ∷ (codes "deposit:") ∷ (62 ∷ []) ∷ (44 ∷ []) ∷ (codes "signal:") ∷ (45 ∷ []) ∷ (codes "withdraw:") ∷ (codes "add:") ∷ (codes "show:") ∷ (codes "cr") ∷ (codes "ensure:") ∷ (codes "size") ∷ (codes "transfer:to:") ∷ (codes "messageText") ∷ (codes "on:do:") ∷ []) bank_units (record { steps = 10000000; depth = 10000; cells = 4194304 })

bank_runs : Reports bank 279 (record { ending = WasDone; transcript = codes "transfer 200\nWarning: large transfer\ntransfer 600\nann has only 200\ntransfer 400\n200 800\n"; steps = 89; depth = 11; cells = 94; events = (Event.Ensure 10) ∷ (Event.Action 10) ∷ (Event.End 10 false) ∷ (Event.Ensure 16) ∷ (Event.Signal 19) ∷ (Event.Search 19) ∷ (Event.Default 20) ∷ (Event.End 20 false) ∷ (Event.End 19 false) ∷ (Event.Action 16) ∷ (Event.End 16 false) ∷ (Event.Protect 24) ∷ (Event.Ensure 27) ∷ (Event.Signal 31) ∷ (Event.Search 31) ∷ (Event.Tried 24 true) ∷ (Event.Handle 32 24) ∷ (Event.End 32 true) ∷ (Event.End 31 true) ∷ (Event.Action 27) ∷ (Event.End 27 true) ∷ (Event.End 24 false) ∷ [] })
unfolding computing program_of names_of captured_of meant meant_outside
bank_runs = (refl, refl, refl)
