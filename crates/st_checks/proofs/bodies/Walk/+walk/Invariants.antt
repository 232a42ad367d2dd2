use Rattle.std.proofs.Common.{◌≡◌, map, take}
use Rattle.st_checks.specs.Bodies.{all_within, names_in_message, names_in_operand, names_in_statement}
use Rattle.st_checks.specs.Walks.{noted}
use Rattle.st_checks.proofs.bodies.Walk.+walk.Given as goal

abbrev pub invariant-message-loop-argument : goal.invariant-message-loop-argument
invariant-message-loop-argument l = l.self ≡ noted l.initial.self (all_within (map names_in_operand (take l.argument-index l.argument-items)) l.initial.self.scopes)

abbrev pub invariant-messages-loop-message : goal.invariant-messages-loop-message
invariant-messages-loop-message l = l.self ≡ noted l.initial.self (all_within (map names_in_message (take l.message-index l.messages)) l.initial.self.scopes)

abbrev pub invariant-statements-loop-statement : goal.invariant-statements-loop-statement
invariant-statements-loop-statement l = l.self ≡ noted l.initial.self (all_within (map names_in_statement (take l.statement-index l.statements)) l.initial.self.scopes)
