use Rattle.std.proofs.Common.{◌≡◌, ◌∙◌, Option, sym, ap}
use Rattle.std.specs.Option.{option_map}
use Rattle.program_image.specs.Images.{as_row}
use Rattle.st_code.specs.Lookup.{Found, super_lookup}
use Rattle.st_rules.specs.Sends.{super_action}
use Rattle.st_messages.specs.Sent.{found_does, is_ready}
use Rattle.st_messages.proofs.SendLaws.{super-is}
use Rattle.st_messages.proofs.dispatch.super_message.Goals as goal

pub returns-clause-memory : goal.returns-clause-memory
returns-clause-memory g c =
    let p = g.P.ProgramFacts.meaning c.args.program.now in
    let s = (g.H.Heap.meaning c.args.heap.now).store in
    let looked : option_map as_row c.find_above-found.result ≡ super_lookup p c.args.class c.args.selector = c.find_above-found.ensures in
    let same : super_action p s c.args.class c.args.selector c.args.receiver c.args.arguments.now ≡ found_does p s (option_map as_row c.find_above-found.result) c.args.selector c.args.receiver c.args.arguments.now
    = super-is p s c.args.class c.args.selector c.args.receiver c.args.arguments.now ∙ ap (λ (o : Option Found). found_does p s o c.args.selector c.args.receiver c.args.arguments.now) (sym looked) in
    rw same c.found_message.ensures.memory

pub returns-clause-reply : goal.returns-clause-reply
returns-clause-reply g c =
    let p = g.P.ProgramFacts.meaning c.args.program.now in
    let s = (g.H.Heap.meaning c.args.heap.now).store in
    let looked : option_map as_row c.find_above-found.result ≡ super_lookup p c.args.class c.args.selector = c.find_above-found.ensures in
    let same : super_action p s c.args.class c.args.selector c.args.receiver c.args.arguments.now ≡ found_does p s (option_map as_row c.find_above-found.result) c.args.selector c.args.receiver c.args.arguments.now
    = super-is p s c.args.class c.args.selector c.args.receiver c.args.arguments.now ∙ ap (λ (o : Option Found). found_does p s o c.args.selector c.args.receiver c.args.arguments.now) (sym looked) in
    rw same c.found_message.ensures.reply

pub returns-clause-here : goal.returns-clause-here
returns-clause-here g c =
    let p = g.P.ProgramFacts.meaning c.args.program.now in
    let s = (g.H.Heap.meaning c.args.heap.now).store in
    let looked : option_map as_row c.find_above-found.result ≡ super_lookup p c.args.class c.args.selector = c.find_above-found.ensures in
    c.found_message.ensures.here ∙ ap (λ (o : Option Found). is_ready s o c.args.receiver c.args.arguments.now) looked
