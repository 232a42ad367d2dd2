-- A line stands, or is the first that can't.
use Rattle.std.proofs.Common.{◌≡◌, Some, None, ap, ◌∙◌, if◌then◌else◌}
use Rattle.st_trace.specs.Events.{line_of}
use Rattle.st_trace.proofs.Opening.{line_on, line_refused}
use Rattle.st_trace.proofs.auditing.judge_line.Goals as goal

pub returns-in-Ok-true-clause-judges : goal.returns-in-Ok-true-clause-judges
returns-in-Ok-true-clause-judges c =
    let e = c.in-Ok-true.ensures.stands ∙ ap (λ b. if b then Some c.stands.new.self.standing else None) c.in-Ok-true.field-0-test in
    line_on c.args.audit.now c.stands.new.self c.go_on.new.self (line_of c.args.line) c.requires.room c.requires.line e c.in-Ok-true.ensures.others.0 c.in-Ok-true.ensures.others.1 c.go_on.ensures

pub returns-in-Ok-false-clause-judges : goal.returns-in-Ok-false-clause-judges
returns-in-Ok-false-clause-judges c =
    let e = c.in-Ok-false.ensures.stands ∙ ap (λ b. if b then Some c.stands.new.self.standing else None) c.in-Ok-false.field-0-test in
    line_refused c.args.audit.now c.stands.new.self c.stands.new.self (line_of c.args.line) c.requires.room c.requires.line c.line-number.result c.line-number.ensures e
