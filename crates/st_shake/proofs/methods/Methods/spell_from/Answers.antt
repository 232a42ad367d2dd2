use Rattle.std.proofs.Common.{◌∙◌, ap, length, sym}
use Rattle.program_image.specs.Spelled.{spelled}
use Rattle.st_shake.specs.Table.{entry_method, from_place}
use Rattle.st_shake.proofs.Tables.{link-at, reach-smaller, spelled-entry, within-list}
use Rattle.st_shake.proofs.methods.Methods.spell_from.Goals as goal

pub loop-next-smaller : goal.loop-next-smaller
loop-next-smaller c =
    let link = link-at c.self.inside.entries.items c.self.inside.last c.args.self.now c.loop-next.next c.in-Some.place c.index-entry.result.now (sym c.self.view_is) c.self.invariant c.loop-next.invariant.within c.in-Some.is c.index-entry.ensures in
    reach-smaller c.index-entry.result.now.earlier c.loop-next.next c.in-Some.place c.in-Some.is link.smaller

pub loop-next-preserved : goal.loop-next-preserved
loop-next-preserved c =
    let link = link-at c.self.inside.entries.items c.self.inside.last c.args.self.now c.loop-next.next c.in-Some.place c.index-entry.result.now (sym c.self.view_is) c.self.invariant c.loop-next.invariant.within c.in-Some.is c.index-entry.ensures in
    record {
      within = within-list c.index-entry.result.now.earlier c.in-Some.place (length c.args.self.now) link.low link.smaller;
      so_far =
          spelled-entry c.args.self.now c.loop-next.names c.spell_body.new.names (spelled c.args.names.now (from_place c.args.self.now c.args.place)) c.in-Some.place (entry_method c.index-entry.result.now) c.index-entry.result.now.earlier link.is link.before c.in_ok-spell_body.ensures
          (ap (λ o. spelled c.loop-next.names (from_place c.args.self.now o)) (sym c.in-Some.is) ∙ c.loop-next.invariant.so_far);
    }
