-- The first entry left is found by its link.
use Rattle.std.proofs.Common.{◌≡◌, reverse, Some, None, ap, ◌∙◌}
use Rattle.st_trace.specs.Stacked.{entry_at, chain, items_view}
use Rattle.st_trace.specs.Automaton as audit
use Rattle.st_trace.proofs.Links.{left_none, left_some, entry_within, judged_none, judged_other, judged_fits, judged_on}
use Rattle.st_trace.proofs.auditor.tried.Goals as goal

pub returns-then-entry-number-clause-judged : goal.returns-then-entry-number-clause-judged
returns-then-entry-number-clause-judged c =
    let items = c.args.auditor.now.items.items in
    let a = c.deref.ensures.value in
    let b = c.first_entry.ensures in
    let d = c.in-Some.is in
    let e : entry_at c.args.auditor.now.items.items c.args.search.left ≡ Some c.in-Some.entry = cc in
    judged_other c.args.number c.in-Some.entry.number c.args.auditor.now.next c.args.fits c.args.search.of_turn _ _ _ _ (left_some items c.args.search.left c.in-Some.entry c.requires.sound.linked e) c.if-entry-number.true

pub returns-then-fits-clause-judged : goal.returns-then-fits-clause-judged
returns-then-fits-clause-judged c =
    let items = c.args.auditor.now.items.items in
    let a = c.deref.ensures.value in
    let b = c.first_entry.ensures in
    let d = c.in-Some.is in
    let e : entry_at c.args.auditor.now.items.items c.args.search.left ≡ Some c.in-Some.entry = cc in
    ap (λ f. audit.judged c.args.number f c.args.search.of_turn (chain (reverse c.args.auditor.now.items.items) c.args.search.whole) (chain (reverse c.args.auditor.now.items.items) c.args.search.left) (items_view (reverse c.args.auditor.now.items.items)) c.args.auditor.now.next) c.if-fits.true
    ∙ judged_fits c.args.number c.in-Some.entry.number c.args.auditor.now.next c.args.search.of_turn _ _ _ _ (left_some items c.args.search.left c.in-Some.entry c.requires.sound.linked e) c.if-entry-number.false

pub returns-then-fits-clause-sound : goal.returns-then-fits-clause-sound
returns-then-fits-clause-sound c =
    let a = c.deref.ensures.value in
    let b = c.first_entry.ensures in
    let d = c.in-Some.is in
    let e : entry_at c.args.auditor.now.items.items c.args.search.left ≡ Some c.in-Some.entry = cc in
    let l = entry_within c.args.auditor.now.items.items c.args.search.left c.in-Some.entry c.requires.sound.linked e in
    record { linked = c.requires.sound.linked; mode = (c.requires.search.0, l); next = c.requires.sound.next }

pub returns-in-None-clause-judged : goal.returns-in-None-clause-judged
returns-in-None-clause-judged c =
    let a = c.deref.ensures.value in
    let b = c.first_entry.ensures in
    let d = c.in-None.is in
    let e : entry_at c.args.auditor.now.items.items c.args.search.left ≡ None = cc in
    judged_none c.args.number c.args.auditor.now.next c.args.fits c.args.search.of_turn _ _ _ (left_none c.args.auditor.now.items.items c.args.search.left c.requires.sound.linked e)

pub returns-else-fits-clause-judged : goal.returns-else-fits-clause-judged
returns-else-fits-clause-judged c =
    let items = c.args.auditor.now.items.items in
    let a = c.deref.ensures.value in
    let b = c.first_entry.ensures in
    let d = c.in-Some.is in
    let e : entry_at c.args.auditor.now.items.items c.args.search.left ≡ Some c.in-Some.entry = cc in
    ap (λ f. audit.judged c.args.number f c.args.search.of_turn (chain (reverse c.args.auditor.now.items.items) c.args.search.whole) (chain (reverse c.args.auditor.now.items.items) c.args.search.left) (items_view (reverse c.args.auditor.now.items.items)) c.args.auditor.now.next) c.if-fits.false
    ∙ judged_on c.args.number c.in-Some.entry.number c.args.auditor.now.next c.args.search.of_turn _ _ _ _ (left_some items c.args.search.left c.in-Some.entry c.requires.sound.linked e) c.if-entry-number.false

pub returns-else-fits-clause-sound : goal.returns-else-fits-clause-sound
returns-else-fits-clause-sound c =
    let a = c.deref.ensures.value in
    let b = c.first_entry.ensures in
    let d = c.in-Some.is in
    let e : entry_at c.args.auditor.now.items.items c.args.search.left ≡ Some c.in-Some.entry = cc in
    let l = entry_within c.args.auditor.now.items.items c.args.search.left c.in-Some.entry c.requires.sound.linked e in
    record { linked = c.requires.sound.linked; mode = (c.requires.search.0, l); next = c.requires.sound.next }
