-- To be the same is an equivalence.
use Rattle.std.proofs.Common.{◌≡◌, refl, sym, ◌∙◌, ap}
use Rattle.st_tree.specs.declared.tree.Body.{Body}
use Rattle.st_tree.specs.declared.tree.Method.{Method}
use Rattle.st_tree.specs.declared.units.Definition.{Definition}
use Rattle.st_tree.specs.Same.{bare, bare_method, bare_definition, IsSameness, SameBody, SameMethod, SameDefinition}

pub bodies : IsSameness SameBody
unfolding SameBody
bodies = record { of_equal = λ a b e. ap bare e; reflexive = λ a. refl; symmetric = λ a b h. sym h; transitive = λ a b c h k. h ∙ k }

pub methods : IsSameness SameMethod
unfolding SameMethod
methods = record { of_equal = λ a b e. ap bare_method e; reflexive = λ a. refl; symmetric = λ a b h. sym h; transitive = λ a b c h k. h ∙ k }

pub definitions : IsSameness SameDefinition
unfolding SameDefinition
definitions = record { of_equal = λ a b e. ap bare_definition e; reflexive = λ a. refl; symmetric = λ a b h. sym h; transitive = λ a b c h k. h ∙ k }

pub ruleset laws = (bodies, methods, definitions)
