-- A turn's environment is found by its link.
use Rattle.std.proofs.Common.{◌≡◌, reverse, Some, None}
use Rattle.st_trace.specs.Stacked.{turn_link}
use Rattle.st_trace.proofs.Links.{search_none, search_some, turn_within}
use Rattle.st_trace.proofs.auditor.search_turn.Goals as goal

pub returns-in-None-clause-searches : goal.returns-in-None-clause-searches
returns-in-None-clause-searches c =
    let a = c.deref.ensures.value in
    let b = c.turn_inside.ensures in
    let d = c.in-None.is in
    let e : turn_link c.args.number (reverse c.args.auditor.now.items.items) ≡ None = cc in
    search_none c.args.auditor.now.items.items c.args.number c.args.auditor.now.next c.requires.sound.linked e

pub returns-in-Some-clause-searches : goal.returns-in-Some-clause-searches
returns-in-Some-clause-searches c =
    let a = c.deref.ensures.value in
    let b = c.turn_inside.ensures in
    let d = c.in-Some.is in
    let e : turn_link c.args.number (reverse c.args.auditor.now.items.items) ≡ Some c.in-Some.env = cc in
    search_some c.args.auditor.now.items.items c.args.number c.args.auditor.now.next c.in-Some.env c.requires.sound.linked e

pub returns-in-Some-clause-sound : goal.returns-in-Some-clause-sound
returns-in-Some-clause-sound c =
    let a = c.deref.ensures.value in
    let b = c.turn_inside.ensures in
    let d = c.in-Some.is in
    let e : turn_link c.args.number (reverse c.args.auditor.now.items.items) ≡ Some c.in-Some.env = cc in
    let l = turn_within c.args.auditor.now.items.items c.args.number c.in-Some.env c.requires.sound.linked e in
    record { linked = c.requires.sound.linked; mode = (l, l); next = c.requires.sound.next }
