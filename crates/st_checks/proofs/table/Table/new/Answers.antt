use Rattle.std.proofs.Common.{◌≡◌, ◌∙◌, ap, Option, ℕ, arith, get_or, refl}
use Rattle.std.specs.Map.{lookup}
use Rattle.st_tree.specs.declared.units.Unit.{Unit as FileUnit}
use Rattle.st_checks.specs.contracts.key.KeyPartialEq.TheImpl.{eq-value}
use Rattle.st_checks.specs.Keys.{first_unit, has_key, text_key, noted}
use Rattle.st_checks.proofs.Places.{first_place_more}
use Rattle.st_checks.proofs.table.Table.new.Goals as goal

pub loop-index-init : goal.loop-index-init
unfolding first_unit
loop-index-init c = record { first = λ k. ap (lookup (eq-value.it k)) c.new-first.ensures.empty }

pub loop-index-preserved : goal.loop-index-preserved
unfolding first_unit
loop-index-preserved c = record {
  first = λ k.
      let u : FileUnit = c.index-units-index.result in
      let is : u ≡ get_or c.args.units.now c.loop-index.index u = c.index-units-index.is in
      c.in_ok-note.ensures.first k
      ∙ ap (λ (o : Option ℕ). noted o (has_key (text_key k) u) c.loop-index.index) (c.loop-index.invariant.first k)
      ∙ rw (first_place_more (has_key (text_key k)) c.args.units.now c.loop-index.index u (omega arith), ← is) refl;
}
