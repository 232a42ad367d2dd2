-- Whether entries are left is seen by the link.
use Rattle.std.proofs.Common.{◌≡◌, reverse, Some, None, ◌∙◌}
use Rattle.st_trace.specs.Stacked.{entry_at, chain}
use Rattle.st_trace.proofs.Links.{left_none, left_some, known_at, known_none}
use Rattle.st_trace.proofs.auditor.known_by.Goals as goal

pub returns-in-None-clause-known : goal.returns-in-None-clause-known
returns-in-None-clause-known c =
    let a = c.deref.ensures.value in
    let b = c.first_entry.ensures in
    let d = c.in-None.is in
    let e : entry_at c.args.auditor.now.items.items c.args.search.left ≡ None = cc in
    known_at c.args.auditor.now.next c.args.search.of_turn (chain (reverse c.args.auditor.now.items.items) c.args.search.whole) _ _ (left_none c.args.auditor.now.items.items c.args.search.left c.requires.sound.linked e) ∙ c.known.ensures.known

pub returns-in-Some-clause-known : goal.returns-in-Some-clause-known
returns-in-Some-clause-known c =
    let a = c.deref.ensures.value in
    let b = c.first_entry.ensures in
    let d = c.in-Some.is in
    let e : entry_at c.args.auditor.now.items.items c.args.search.left ≡ Some c.in-Some.field-0 = cc in
    known_none _ c.args.auditor.now.next c.args.search.of_turn (chain (reverse c.args.auditor.now.items.items) c.args.search.whole) _ _ _ (left_some c.args.auditor.now.items.items c.args.search.left c.in-Some.field-0 c.requires.sound.linked e)
