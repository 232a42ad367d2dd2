-- A program that meets the static rules, and one that breaks them.
use Rattle.std.proofs.Common.{refl, ap, subst, sym, ◌∙◌}
use Rattle.st_tree.specs.Units.{IsReadable}
use Rattle.st_tree.specs.declared.units.Definition.{Definition}
use Rattle.st_run.proofs.CallLemmas.{by_rules, by_break, want_by_rules}
use Rattle.st_run.proofs.finish.judge.Goals as goal

pub returns-in-Checked : goal.returns-in-Checked
returns-in-Checked g c = by_rules c.args.command c.args.definition.units c.args.bytes _ _ _ _ (ap (λ (d : Definition). d.units) (c.into_definition.ensures.same ∙ c.in-Checked.ensures.0)) c.in-Checked.ensures.1 c.perform.ensures

pub returns-in-Refused : goal.returns-in-Refused
returns-in-Refused g c = by_break c.args.command c.args.definition.units c.args.bytes _ _ _ c.in-Refused.place c.in-Refused.reason c.in-Refused.ensures (c.refuse.ensures _ refl)

pub returns-in-OutOfMemory : goal.returns-in-OutOfMemory
returns-in-OutOfMemory g c = want_by_rules c.args.command c.args.definition.units c.args.bytes _ _ _ (λ o. c.report_want_of_memory.ensures.finishes o _ refl)

pub perform-requires-clause-readable : goal.perform-requires-clause-readable
perform-requires-clause-readable g c = subst (λ (d : Definition). IsReadable d.units) (sym (c.into_definition.ensures.same ∙ c.in-Checked.ensures.0)) c.requires.readable
