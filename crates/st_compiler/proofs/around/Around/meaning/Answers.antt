use Rattle.std.proofs.Common.{◌+◌, List, drop, ap, ◌∙◌}
use Rattle.std.proofs.lemmas.List.{drop_all}
use Rattle.st_code.specs.Texts.{Text}
use Rattle.st_code.specs.Program.{Scoped}
use Rattle.st_code.specs.Resolved.{Context, At}
use Rattle.st_compiler.specs.Steps.{seen_meaning}
use Rattle.st_compiler.proofs.Finding.{drop-here}
use Rattle.st_compiler.proofs.Classes.{scope-here, named-from, scopes-end}
use Rattle.st_compiler.proofs.around.Around.meaning.Goals as goal

pub returns-in-Some : goal.returns-in-Some
returns-in-Some c =
    let x : Context = c.args.self.now in
    let items : List (List Text) = c.as_slice-scope-items.result.now in
    named-from x c.args.text.now items (At (Scoped c.loop-scope.up c.in-Some.index))
    (c.as_slice-scope-items.ensures.value ∙ ap (λ (y : Context). y.scopes) c.self.view_is)
    (c.loop-scope.invariant.passed ∙ scope-here x.names x.class x.side c.loop-scope.up c.in-Some.index (drop c.loop-scope.scope-index items) (drop (c.loop-scope.scope-index + 1) items) c.scope-item.result c.args.text.now
    (drop-here items c.loop-scope.scope-index c.scope-item.result c.scope-item.is c.loop-scope-test.true) c.in-Some.ensures)

pub returns : goal.returns
returns c =
    let x : Context = c.args.self.now in
    let items : List (List Text) = c.as_slice-scope-items.result.now in
    named-from x c.args.text.now items (seen_meaning c.meaning_outside.result)
    (c.as_slice-scope-items.ensures.value ∙ ap (λ (y : Context). y.scopes) c.self.view_is)
    (c.loop-scope.invariant.passed ∙ scopes-end x c.args.text.now (drop c.loop-scope.scope-index items) c.loop-scope.up (seen_meaning c.meaning_outside.result)
    (drop_all c.loop-scope.scope-index items c.loop-scope-test.false) c.meaning_outside.ensures)
