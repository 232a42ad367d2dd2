use Rattle.std.proofs.Common.{◌≡◌, ◌∙◌, ℕ, List, true, length, refl, sym, ap}
use Rattle.object_heap.specs.declared.value.Value.{Value}
use Rattle.object_heap.specs.declared.value.Value.TheVariants.{Symbol}
use Rattle.st_code.specs.BuiltIns.{array_class}
use Rattle.st_code.specs.Program.{name_at}
use Rattle.st_code.specs.Texts.{arity}
use Rattle.st_collections.specs.Actions.{first, second}
use Rattle.st_collections.specs.Kinds.{is_a, slots_of}
use Rattle.st_messages.proofs.PerformLaws.{perform_with-is, performs-right, performs-wrong}
use Rattle.st_messages.proofs.performs.perform_with.Goals as goal

pub returns-then-arity_of-slots_now-clause-reply : goal.returns-then-arity_of-slots_now-clause-reply
returns-then-arity_of-slots_now-clause-reply g c =
    let p = g.P.ProgramFacts.meaning c.args.program.now in
    let s = (g.H.Heap.meaning c.args.heap.now).store in
    let args = c.args.arguments.now in
    let name = c.in-Symbol.name in
    let is : first args ≡ Symbol name = sym c.first_of.ensures ∙ c.in-Symbol.is in
    let there : is_a s array_class (second args) ≡ true = rw (← c.second_of-array.ensures) (sym c.is_array.ensures ∙ c.if-not-is_array.false) in
    let count : arity (name_at p name) ≡ length (slots_of s (second args)) = rw (← c.name_of.ensures, ← c.arity_of.ensures, ← c.second_of-array.ensures) (c.if-arity_of-slots_now.true ∙ c.slots_now.ensures) in
    rw (c.second_of-array.ensures, perform_with-is p s c.args.receiver args name is there, performs-right p c.args.receiver name (slots_of s (second args)) count) refl

pub returns-clause-reply : goal.returns-clause-reply
returns-clause-reply g c =
    let p = g.P.ProgramFacts.meaning c.args.program.now in
    let s = (g.H.Heap.meaning c.args.heap.now).store in
    let args = c.args.arguments.now in
    let name = c.in-Symbol.name in
    let is : first args ≡ Symbol name = sym c.first_of.ensures ∙ c.in-Symbol.is in
    let there : is_a s array_class (second args) ≡ true = rw (← c.second_of-array.ensures) (sym c.is_array.ensures ∙ c.if-not-is_array.false) in
    let size : c.slots_now.result ≡ length (slots_of s (second args)) = c.slots_now.ensures ∙ ap (λ (v : Value). length (slots_of s v)) c.second_of-array.ensures in
    let other : arity (name_at p name) ≡ length (slots_of s (second args)) → ⊥ = λ e. c.if-arity_of-slots_now.false (c.arity_of.ensures ∙ (ap (λ (t : List ℕ). arity t) c.name_of.ensures ∙ (e ∙ sym size))) in
    rw (c.answer_trouble-2.ensures, perform_with-is p s c.args.receiver args name is there, performs-wrong p c.args.receiver name (slots_of s (second args)) other) refl
