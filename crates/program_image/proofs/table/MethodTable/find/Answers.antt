use Rattle.std.proofs.Common.{◌≡◌, ◌<◌, List, length, get_or, true, false, ap, sym, ◌∙◌, subst, arith}
use Rattle.std.proofs.lemmas.List.{get_or_default}
use Rattle.std.specs.List.Sorted.{IsSortedByKey}
use Rattle.program_image.specs.declared.table.Entry.{Entry}
use Rattle.program_image.specs.Tables.{same_key, key_of, key_cmp, first_found}
use Rattle.program_image.proofs.Order.{blank}
use Rattle.program_image.proofs.Firsts.{key-tells, first-past, first-at, first-off}
use Rattle.program_image.proofs.table.MethodTable.find.Goals as goal

pub returns-then-eq : goal.returns-then-eq
returns-then-eq c =
    let low : c.place_of-place.result < length c.as_slice-entries.result.now = omega (arith, c.if-place-entries.false, c.place_of-place.ensures.within) in
    let e : Entry = get_or c.as_slice-entries.result.now c.place_of-place.result blank in
    let is : same_key e.key c.args.key ≡ true = sym (key-tells e.key c.args.key) ∙ sym c.eq.ensures ∙ c.if-eq.true in
    sym (first-at c.as_slice-entries.result.now c.args.key c.place_of-place.result c.place_of-place.ensures e (get_or_default c.as_slice-entries.result.now c.place_of-place.result blank e low) low is)
    ∙ ap (λ (es : List Entry). first_found es c.args.key) (c.as_slice-entries.ensures.value ∙ c.self.view_is)

pub returns : goal.returns
returns c =
    let low : c.place_of-place.result < length c.as_slice-entries.result.now = omega (arith, c.if-place-entries.false, c.place_of-place.ensures.within) in
    let e : Entry = get_or c.as_slice-entries.result.now c.place_of-place.result blank in
    let is : same_key e.key c.args.key ≡ false = sym (key-tells e.key c.args.key) ∙ sym c.eq.ensures ∙ c.if-eq.false in
    let sorted : IsSortedByKey key_of key_cmp c.as_slice-entries.result.now = subst (λ (es : List Entry). IsSortedByKey key_of key_cmp es) (sym c.as_slice-entries.ensures.value) c.self.invariant.sorted in
    sym (first-off c.as_slice-entries.result.now c.args.key c.place_of-place.result c.place_of-place.ensures sorted e (λ d. get_or_default c.as_slice-entries.result.now c.place_of-place.result blank d low) low is)
    ∙ ap (λ (es : List Entry). first_found es c.args.key) (c.as_slice-entries.ensures.value ∙ c.self.view_is)

pub returns-then-place-entries : goal.returns-then-place-entries
returns-then-place-entries c =
    sym (first-past c.as_slice-entries.result.now c.args.key c.place_of-place.result c.place_of-place.ensures c.if-place-entries.true)
    ∙ ap (λ (es : List Entry). first_found es c.args.key) (c.as_slice-entries.ensures.value ∙ c.self.view_is)
