use Rattle.std.proofs.Common.{sym, ◌∙◌}
use Rattle.program_image.specs.Classes.{seen_variable}
use Rattle.st_compiler.specs.Around.{seen_key}
use Rattle.st_compiler.proofs.Shared.{keyed-is, gains-there, gains-new}
use Rattle.st_compiler.proofs.lookup.note.Goals as goal

pub returns-then-contains_key : goal.returns-then-contains_key
returns-then-contains_key c =
    gains-there c.args.places.now (seen_variable c.args.variable.now) c.args.place c.in-Some.key (keyed-is (seen_variable c.args.variable.now) (seen_key c.in-Some.key) c.in-Some.ensures) (sym c.contains_key.ensures ∙ c.if-contains_key.true)

pub returns : goal.returns
returns c =
    gains-new c.args.places.now c.insert.new.self (seen_variable c.args.variable.now) c.args.place c.in-Some.key (keyed-is (seen_variable c.args.variable.now) (seen_key c.in-Some.key) c.in-Some.ensures) (sym c.contains_key.ensures ∙ c.if-contains_key.false) c.in_ok-insert.ensures.entries
