use Rattle.std.proofs.Common.{◌≡◌, List, Bool, true, sym, ◌∙◌}
use Rattle.object_heap.specs.declared.value.Value.{Value}
use Rattle.object_heap.specs.Store.{Store}
use Rattle.st_code.specs.Program.{Program}
use Rattle.st_code.specs.Lookup.{super_lookup}
use Rattle.st_collections.specs.Actions.{Action}
use Rattle.st_messages.specs.Sent.{is_ready}
use Rattle.st_rules.specs.Sends.{super_action}
use Rattle.st_machine.specs.Opening.{has_step}
use Rattle.st_machine.specs.Seen.{Seen}
use Rattle.st_machine.proofs.Replied.{does_so}
use Rattle.st_machine.proofs.machine.Machine.send_super_to.Goals as goal

pub returns-in-Some-clause-sent : goal.returns-in-Some-clause-sent
returns-in-Some-clause-sent g c =
    let does : Program → Store → List Value → Action = λ p s args. super_action p s c.args.class c.args.selector c.args.receiver args in
    let done : Program → Store → List Value → Bool = λ p s args. is_ready s (super_lookup p c.args.class c.args.selector) c.args.receiver args in
    let t : Seen = record { plan = c.self.inside.loaded; stack = c.self.inside.contexts; memory = g.H.Heap.meaning c.self.inside.heap; variables = c.self.inside.variables.items; passed = c.self.inside.passed; mode = c.self.inside.mode; steps = c.self.inside.steps; deepest = c.self.inside.deepest; initializers = c.self.inside.initializers; instructions = c.self.inside.instructions } in
    let step : has_step c.args.self.now ≡ true = sym c.step.ensures.answer ∙ c.if-not-step.false in
    let so = does_so c.args.self.now (g.H.Heap.meaning c.super_message.new.heap) c.in-Some.reply does done step t (c.self.view_is ∙ c.step.ensures.counted) c.values-arguments.result.now c.values-arguments.ensures c.in-Some.ensures.here (c.in-Some.ensures.reserved c.self.invariant) c.in-Some.ensures.memory c.in-Some.ensures.reply in
    c.say.ensures.said ∙ so.says c.args.env

pub returns-in-Some-clause-told : goal.returns-in-Some-clause-told
returns-in-Some-clause-told g c =
    let does : Program → Store → List Value → Action = λ p s args. super_action p s c.args.class c.args.selector c.args.receiver args in
    let done : Program → Store → List Value → Bool = λ p s args. is_ready s (super_lookup p c.args.class c.args.selector) c.args.receiver args in
    let t : Seen = record { plan = c.self.inside.loaded; stack = c.self.inside.contexts; memory = g.H.Heap.meaning c.self.inside.heap; variables = c.self.inside.variables.items; passed = c.self.inside.passed; mode = c.self.inside.mode; steps = c.self.inside.steps; deepest = c.self.inside.deepest; initializers = c.self.inside.initializers; instructions = c.self.inside.instructions } in
    let step : has_step c.args.self.now ≡ true = sym c.step.ensures.answer ∙ c.if-not-step.false in
    let so = does_so c.args.self.now (g.H.Heap.meaning c.super_message.new.heap) c.in-Some.reply does done step t (c.self.view_is ∙ c.step.ensures.counted) c.values-arguments.result.now c.values-arguments.ensures c.in-Some.ensures.here (c.in-Some.ensures.reserved c.self.invariant) c.in-Some.ensures.memory c.in-Some.ensures.reply in
    c.say.ensures.told ∙ so.tells

pub returns-in-Some-clause-written : goal.returns-in-Some-clause-written
returns-in-Some-clause-written g c =
    let does : Program → Store → List Value → Action = λ p s args. super_action p s c.args.class c.args.selector c.args.receiver args in
    let done : Program → Store → List Value → Bool = λ p s args. is_ready s (super_lookup p c.args.class c.args.selector) c.args.receiver args in
    let t : Seen = record { plan = c.self.inside.loaded; stack = c.self.inside.contexts; memory = g.H.Heap.meaning c.self.inside.heap; variables = c.self.inside.variables.items; passed = c.self.inside.passed; mode = c.self.inside.mode; steps = c.self.inside.steps; deepest = c.self.inside.deepest; initializers = c.self.inside.initializers; instructions = c.self.inside.instructions } in
    let step : has_step c.args.self.now ≡ true = sym c.step.ensures.answer ∙ c.if-not-step.false in
    let so = does_so c.args.self.now (g.H.Heap.meaning c.super_message.new.heap) c.in-Some.reply does done step t (c.self.view_is ∙ c.step.ensures.counted) c.values-arguments.result.now c.values-arguments.ensures c.in-Some.ensures.here (c.in-Some.ensures.reserved c.self.invariant) c.in-Some.ensures.memory c.in-Some.ensures.reply in
    c.say.ensures.written ∙ so.writes
