use Rattle.std.proofs.Common.{sym, subst}
use Rattle.st_numbers.specs.declared.message.NumberArgument.{NumberArgument}
use Rattle.st_numbers.specs.Answers.{IsProperAnswer}
use Rattle.st_numbers.proofs.ProperAnswers.{answer-proper}
use Rattle.st_numbers.proofs.dispatch.number_message.Goals as goal

pub returns-in-Number-clause-proper : goal.returns-in-Number-clause-proper
returns-in-Number-clause-proper c =
    let h = rw c.in-Number.is at c.requires.argument in
    subst IsProperAnswer (sym c.with_number.ensures) (answer-proper c.args.message c.args.receiver (NumberArgument.Number c.in-Number.other) c.requires.receiver h)

pub returns-in-None-clause-proper : goal.returns-in-None-clause-proper
returns-in-None-clause-proper c = subst IsProperAnswer (sym c.alone.ensures.none) (answer-proper c.args.message c.args.receiver NumberArgument.None c.requires.receiver tt)

pub returns-in-Other-clause-proper : goal.returns-in-Other-clause-proper
returns-in-Other-clause-proper c = subst IsProperAnswer (sym c.alone-in-Other.ensures.none) (answer-proper c.args.message c.args.receiver NumberArgument.None c.requires.receiver tt)
