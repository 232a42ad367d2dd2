use Rattle.std.proofs.Common.{◌∙◌, sym, ap, ℕ, Option}
use Rattle.std.specs.List.{list_any}
use Rattle.st_base.specs.BuiltIns.{message_row}
use Rattle.st_checks.specs.Declarations.{is_built_in_method, has_message, is_message}
use Rattle.st_checks.proofs.Places.{list_any-map}
use Rattle.st_checks.proofs.built_in.is_built_in_method.Goals as goal

pub returns-in-Some : goal.returns-in-Some
unfolding is_built_in_method
returns-in-Some c =
    c.has_row.ensures ∙ sym (list_any-map message_row (is_message c.in-Some.number c.args.side c.args.selector.now) c.built_in_messages.result.now)
    ∙ ap (list_any (is_message c.in-Some.number c.args.side c.args.selector.now)) c.built_in_messages.ensures
    ∙ ap (λ (o : Option ℕ). has_message o c.args.side c.args.selector.now) (sym c.in-Some.is ∙ c.built_in_number.ensures)

pub returns-in-None : goal.returns-in-None
unfolding is_built_in_method
returns-in-None c = ap (λ (o : Option ℕ). has_message o c.args.side c.args.selector.now) (sym c.in-None.is ∙ c.built_in_number.ensures)
