-- Whether entries are left is seen by the link.
use Rattle.std.proofs.Common.{◌≡◌, Some, None, IfOk, subst, sym}
use Rattle.st_trace.specs.Stacked.{entry_at}
use Rattle.st_trace.specs.Audited.{answers}
use Rattle.st_trace.proofs.Links.{left_none, left_some, default_at, default_none}
use Rattle.st_trace.proofs.auditor.default_action.Goals as goal

pub returns-in-None-clause-begins : goal.returns-in-None-clause-begins
returns-in-None-clause-begins c =
    let a = c.deref.ensures.value in
    let b = c.first_entry.ensures in
    let d = c.in-None.is in
    let e : entry_at c.args.auditor.now.items.items c.args.search.left ≡ None = cc in
    let same = default_at c.args.number c.args.auditor.now.next c.args.search.of_turn _ _ _ (left_none c.args.auditor.now.items.items c.args.search.left c.requires.sound.linked e) in
    subst (λ x. IfOk c.begin.result (λ taken. x ≡ answers taken c.begin.new.auditor)) (sym same) c.begin.ensures.begun

pub returns-in-Some-clause-begins : goal.returns-in-Some-clause-begins
returns-in-Some-clause-begins c =
    let a = c.deref.ensures.value in
    let b = c.first_entry.ensures in
    let d = c.in-Some.is in
    let e : entry_at c.args.auditor.now.items.items c.args.search.left ≡ Some c.in-Some.field-0 = cc in
    default_none c.args.number _ c.args.auditor.now.next c.args.search.of_turn _ _ _ _ (left_some c.args.auditor.now.items.items c.args.search.left c.in-Some.field-0 c.requires.sound.linked e)
