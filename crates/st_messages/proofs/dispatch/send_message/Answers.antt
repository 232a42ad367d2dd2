use Rattle.std.proofs.Common.{◌≡◌, ◌∙◌, Option, sym, ap}
use Rattle.std.specs.Option.{option_map}
use Rattle.program_image.specs.Images.{as_row}
use Rattle.st_code.specs.Lookup.{Found, Level, level_of, lookup}
use Rattle.st_rules.specs.Sends.{send_action}
use Rattle.st_messages.specs.Sent.{found_does, is_ready}
use Rattle.st_messages.proofs.SendLaws.{send-is}
use Rattle.st_messages.proofs.dispatch.send_message.Goals as goal

pub returns-clause-memory : goal.returns-clause-memory
returns-clause-memory g c =
    let p = g.P.ProgramFacts.meaning c.args.program.now in
    let s = (g.H.Heap.meaning c.args.heap.now).store in
    let looked : option_map as_row c.find-found.result ≡ lookup p (level_of s c.args.receiver) c.args.selector = c.find-found.ensures ∙ ap (λ (l : Level). lookup p l c.args.selector) c.level_now-level.ensures in
    let same : send_action p s c.args.selector c.args.receiver c.args.arguments.now ≡ found_does p s (option_map as_row c.find-found.result) c.args.selector c.args.receiver c.args.arguments.now
    = send-is p s c.args.selector c.args.receiver c.args.arguments.now ∙ ap (λ (o : Option Found). found_does p s o c.args.selector c.args.receiver c.args.arguments.now) (sym looked) in
    rw same c.found_message.ensures.memory

pub returns-clause-reply : goal.returns-clause-reply
returns-clause-reply g c =
    let p = g.P.ProgramFacts.meaning c.args.program.now in
    let s = (g.H.Heap.meaning c.args.heap.now).store in
    let looked : option_map as_row c.find-found.result ≡ lookup p (level_of s c.args.receiver) c.args.selector = c.find-found.ensures ∙ ap (λ (l : Level). lookup p l c.args.selector) c.level_now-level.ensures in
    let same : send_action p s c.args.selector c.args.receiver c.args.arguments.now ≡ found_does p s (option_map as_row c.find-found.result) c.args.selector c.args.receiver c.args.arguments.now
    = send-is p s c.args.selector c.args.receiver c.args.arguments.now ∙ ap (λ (o : Option Found). found_does p s o c.args.selector c.args.receiver c.args.arguments.now) (sym looked) in
    rw same c.found_message.ensures.reply

pub returns-clause-here : goal.returns-clause-here
returns-clause-here g c =
    let p = g.P.ProgramFacts.meaning c.args.program.now in
    let s = (g.H.Heap.meaning c.args.heap.now).store in
    let looked : option_map as_row c.find-found.result ≡ lookup p (level_of s c.args.receiver) c.args.selector = c.find-found.ensures ∙ ap (λ (l : Level). lookup p l c.args.selector) c.level_now-level.ensures in
    c.found_message.ensures.here ∙ ap (λ (o : Option Found). is_ready s o c.args.receiver c.args.arguments.now) looked
