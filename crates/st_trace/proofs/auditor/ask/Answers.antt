-- The first entry left is found by its link.
use Rattle.std.proofs.Common.{◌≡◌, Some, None, IfOk, subst, sym}
use Rattle.st_trace.specs.Stacked.{entry_at}
use Rattle.st_trace.specs.Audited.{answers}
use Rattle.st_trace.proofs.Links.{left_none, left_some, entry_within, asked_none, asked_other, asked_at}
use Rattle.st_trace.proofs.auditor.ask.Goals as goal

pub returns-then-first-entry-clause-asks : goal.returns-then-first-entry-clause-asks
returns-then-first-entry-clause-asks c =
    let a = c.deref.ensures.value in
    let b = c.first_entry.ensures in
    let d = c.in-Some.is in
    let e : entry_at c.args.auditor.now.items.items c.args.search.left ≡ Some c.in-Some.first = cc in
    asked_other c.args.wait c.args.entry c.in-Some.first.number c.args.auditor.now.next c.args.search.of_turn _ _ _ _ (left_some c.args.auditor.now.items.items c.args.search.left c.in-Some.first c.requires.sound.linked e) c.if-first-entry.true

pub begin-requires-clause-around : goal.begin-requires-clause-around
begin-requires-clause-around c =
    let a = c.deref.ensures.value in
    let b = c.first_entry.ensures in
    let d = c.in-Some.is in
    let e : entry_at c.args.auditor.now.items.items c.args.search.left ≡ Some c.in-Some.first = cc in
    entry_within c.args.auditor.now.items.items c.args.search.left c.in-Some.first c.requires.sound.linked e

pub begin-requires-clause-kind : goal.begin-requires-clause-kind
begin-requires-clause-kind c =
    let a = c.deref.ensures.value in
    let b = c.first_entry.ensures in
    let d = c.in-Some.is in
    let e : entry_at c.args.auditor.now.items.items c.args.search.left ≡ Some c.in-Some.first = cc in
    (c.requires.search.0, entry_within c.args.auditor.now.items.items c.args.search.left c.in-Some.first c.requires.sound.linked e)

pub returns-in-None-clause-asks : goal.returns-in-None-clause-asks
returns-in-None-clause-asks c =
    let a = c.deref.ensures.value in
    let b = c.first_entry.ensures in
    let d = c.in-None.is in
    let e : entry_at c.args.auditor.now.items.items c.args.search.left ≡ None = cc in
    asked_none c.args.wait c.args.entry c.args.auditor.now.next c.args.search.of_turn _ _ _ (left_none c.args.auditor.now.items.items c.args.search.left c.requires.sound.linked e)

pub returns-else-first-entry-clause-asks : goal.returns-else-first-entry-clause-asks
returns-else-first-entry-clause-asks c =
    let a = c.deref.ensures.value in
    let b = c.first_entry.ensures in
    let d = c.in-Some.is in
    let e : entry_at c.args.auditor.now.items.items c.args.search.left ≡ Some c.in-Some.first = cc in
    let same = asked_at c.args.wait c.args.entry c.in-Some.first.number c.args.auditor.now.next c.args.search.of_turn _ _ _ _ (left_some c.args.auditor.now.items.items c.args.search.left c.in-Some.first c.requires.sound.linked e) c.if-first-entry.false in
    subst (λ x. IfOk c.begin.result (λ taken. x ≡ answers taken c.begin.new.auditor)) (sym same) c.begin.ensures.begun
