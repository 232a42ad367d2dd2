use Rattle.std.proofs.Common.{◌≡◌, ◌∙◌, ◌-◌, ◌++◌, ◌∷◌, [], ℕ, length, refl, sym, ap}
use Rattle.std.specs.Prelude.{vec_len}
use Rattle.st_tree.proofs.Annotated.{annotated_last}
use Rattle.st_tree.proofs.units.UnitList.annotate.Goals as goal

pub returns-clause-ok : goal.returns-clause-ok
returns-clause-ok c =
    let h : vec_len c.self.inside.units - 1 ≡ length c.self.inside.units.items - 1 = ap (λ (n : ℕ). n - 1) (sym c.as_slice.ensures.len ∙ ap length c.as_slice.ensures.value) in
    let k = annotated_last c.self.inside.units.items (vec_len c.self.inside.units - 1) c.in-Some.last.now c.args.annotation h c.in-Some.ensures.value in
    let p : c.push.new.self ≡ c.in-Some.last.now.annotations ++ c.args.annotation ∷ [] = c.in_ok-push.ensures.ok in
    cc (k, p, c.self.view_is)
