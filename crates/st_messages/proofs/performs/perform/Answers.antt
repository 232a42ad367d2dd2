use Rattle.std.proofs.Common.{◌≡◌, ◌-◌, ◌∙◌, ℕ, List, length, refl, sym, ap}
use Rattle.object_heap.specs.declared.value.Value.TheVariants.{Symbol}
use Rattle.st_code.specs.Program.{name_at}
use Rattle.st_code.specs.Texts.{arity}
use Rattle.st_collections.specs.Actions.{first}
use Rattle.st_messages.specs.Replies.{behind}
use Rattle.st_messages.proofs.PerformLaws.{behind-right, behind-wrong, perform-is, performs-right, performs-wrong}
use Rattle.st_messages.proofs.performs.perform.Goals as goal

pub returns-then-arity_of-saturating_sub-clause-reply : goal.returns-then-arity_of-saturating_sub-clause-reply
returns-then-arity_of-saturating_sub-clause-reply g c =
    let p = g.P.ProgramFacts.meaning c.args.program.now in
    let s = (g.H.Heap.meaning c.args.heap.now).store in
    let args = c.args.arguments.now in
    let name = c.in-Symbol.name in
    let is : first args ≡ Symbol name = sym c.first_of.ensures ∙ c.in-Symbol.is in
    let count : arity (name_at p name) ≡ length args - 1 = rw (← c.name_of.ensures, ← c.arity_of.ensures) (c.if-arity_of-saturating_sub.true ∙ c.saturating_sub.ensures) in
    rw (perform-is p s c.args.receiver args name is, performs-right p c.args.receiver name (behind args) (behind-right args (arity (name_at p name)) count)) refl

pub returns-clause-reply : goal.returns-clause-reply
returns-clause-reply g c =
    let p = g.P.ProgramFacts.meaning c.args.program.now in
    let s = (g.H.Heap.meaning c.args.heap.now).store in
    let args = c.args.arguments.now in
    let name = c.in-Symbol.name in
    let is : first args ≡ Symbol name = sym c.first_of.ensures ∙ c.in-Symbol.is in
    let other : arity (name_at p name) ≡ length args - 1 → ⊥ = λ e. c.if-arity_of-saturating_sub.false (c.arity_of.ensures ∙ (ap (λ (t : List ℕ). arity t) c.name_of.ensures ∙ (e ∙ sym c.saturating_sub.ensures))) in
    rw (c.answer_trouble-2.ensures, perform-is p s c.args.receiver args name is, performs-wrong p c.args.receiver name (behind args) (behind-wrong args (arity (name_at p name)) other)) refl
