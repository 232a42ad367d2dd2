use Rattle.std.proofs.Common.{rules, ◌≡◌, ◌+◌, ◌-◌, ◌<◌, ◌≤◌, List, ◌∷◌, map, drop, length, refl, ap, sym, ◌∙◌, arith}
use Rattle.std.proofs.lemmas.List.{length-map}
use Rattle.st_tree.specs.declared.tree.Literal.{Literal}
use Rattle.st_code.specs.Named.{Literal as Named, ArrayLiteral}
use Rattle.st_literals.specs.Numbered.{objects_of, value_of, with_objects}
use Rattle.st_code.proofs.Written.{literal-nil, literal-true, literal-false, literal-integer, literal-character, literal-string, literal-symbol}
use Rattle.object_heap.specs.Charges.{object_charge}
use Rattle.object_heap.specs.declared.value.Value.TheVariants as value
use Rattle.st_code.specs.Resolved.{number_or_last}
use Rattle.st_code.specs.Written.{named_literal, literal_row}
use Rattle.st_literals.specs.Cells.{text_cells, literal_cells, row_cells}
use Rattle.st_literals.proofs.Filling.{no-objects, filling-first, filling-few, filling-room, filling-less, filling-next, filling-end, filling-left}
use Rattle.st_literals.proofs.Counted.{string-cells, array-is, array-named, mapped-next}
use Rattle.st_literals.proofs.make.+make.Goals as goal

pub returns-in-Nil : goal.returns-in-Nil
returns-in-Nil g t c = rw (c.in-Nil.is, literal-nil) (record { value = refl; made = no-objects (g.H.Heap.meaning c.args.heap.now); room = λ r. omega arith })

pub returns-in-True : goal.returns-in-True
returns-in-True g t c = rw (c.in-True.is, literal-true) (record { value = refl; made = no-objects (g.H.Heap.meaning c.args.heap.now); room = λ r. omega arith })

pub returns-in-False : goal.returns-in-False
returns-in-False g t c = rw (c.in-False.is, literal-false) (record { value = refl; made = no-objects (g.H.Heap.meaning c.args.heap.now); room = λ r. omega arith })

pub returns-in-Integer : goal.returns-in-Integer
returns-in-Integer g t c = rw (c.in-Integer.is, literal-integer c.in-Integer.number) (record { value = search rules; made = no-objects (g.H.Heap.meaning c.args.heap.now); room = λ r. omega arith })

pub returns-in-Character : goal.returns-in-Character
returns-in-Character g t c = rw (c.in-Character.is, literal-character c.in-Character.byte) (record { value = refl; made = no-objects (g.H.Heap.meaning c.args.heap.now); room = λ r. omega arith })

pub returns-in-Symbol : goal.returns-in-Symbol
returns-in-Symbol g t c =
    rw (c.in-Symbol.is, literal-symbol c.in-Symbol.text)
    (record { value = ap (λ k. value.Symbol k) (c.symbol_number.ensures ∙ ap (number_or_last c.args.names.now) c.as_bytes.ensures); made = no-objects (g.H.Heap.meaning c.args.heap.now); room = λ r. omega arith })

pub make_text-requires-clause-few : goal.make_text-requires-clause-few
make_text-requires-clause-few g t c =
    let is : literal_cells (named_literal c.args.literal.now) ≡ text_cells c.as_bytes-in-Str.result.now = string-cells c.args.literal.now c.in-Str.text c.as_bytes-in-Str.result.now c.in-Str.is c.as_bytes-in-Str.ensures in
    omega (arith, is, c.requires.few)

pub make_text-requires-clause-room : goal.make_text-requires-clause-room
make_text-requires-clause-room g t c =
    let is : literal_cells (named_literal c.args.literal.now) ≡ text_cells c.as_bytes-in-Str.result.now = string-cells c.args.literal.now c.in-Str.text c.as_bytes-in-Str.result.now c.in-Str.is c.as_bytes-in-Str.ensures in
    λ r. omega (arith, is, c.requires.room r)

pub returns-in_ok-make_text-in-Str-clause-value : goal.returns-in_ok-make_text-in-Str-clause-value
returns-in_ok-make_text-in-Str-clause-value g t c = rw (c.in-Str.is, literal-string c.in-Str.text) (ap (λ k. value.Object k) c.in_ok-make_text-in-Str.ensures.number)

pub returns-in_ok-make_text-in-Str-clause-made : goal.returns-in_ok-make_text-in-Str-clause-made
returns-in_ok-make_text-in-Str-clause-made g t c = rw (c.in-Str.is, literal-string c.in-Str.text, ← c.as_bytes-in-Str.ensures) c.in_ok-make_text-in-Str.ensures.made

pub returns-in_ok-make_text-in-Str-clause-room : goal.returns-in_ok-make_text-in-Str-clause-room
returns-in_ok-make_text-in-Str-clause-room g t c = rw (c.in-Str.is, literal-string c.in-Str.text, ← c.as_bytes-in-Str.ensures) c.in_ok-make_text-in-Str.ensures.room

pub make_literal-requires-clause-few : goal.make_literal-requires-clause-few
make_literal-requires-clause-few g t c =
    let is : literal_cells (named_literal c.args.literal.now) ≡ object_charge (length c.in-Array.items) 0 + row_cells (literal_row (map named_literal c.in-Array.items)) = array-is c.args.literal.now c.in-Array.items c.in-Array.is in
    omega (arith, is, c.requires.few)

pub make_literal-requires-clause-room : goal.make_literal-requires-clause-room
make_literal-requires-clause-room g t c =
    let is : literal_cells (named_literal c.args.literal.now) ≡ object_charge (length c.in-Array.items) 0 + row_cells (literal_row (map named_literal c.in-Array.items)) = array-is c.args.literal.now c.in-Array.items c.in-Array.is in
    λ r. omega (arith, is, c.requires.room r, c.len.ensures, c.in_ok-narrow-in-Array.ensures)

pub loop-item-init : goal.loop-item-init
loop-item-init g t c =
    let size : c.in_ok-narrow-in-Array.field-0 ≡ length (map named_literal c.as_slice-item-items.result.now) =
    c.in_ok-narrow-in-Array.ensures ∙ c.len.ensures ∙ ap (λ (xs : List Literal). length xs) (sym c.as_slice-item-items.ensures) ∙ sym (length-map c.as_slice-item-items.result.now named_literal) in
    record {
      filled =
          filling-first c.args.names.now (g.H.Heap.meaning c.args.heap.now) (g.H.Heap.meaning c.make_literal.new.self) (map named_literal c.as_slice-item-items.result.now) c.in_ok-narrow-in-Array.field-0 g.H.Heap.reserved (g.H.Heap.literal_room c.args.heap.now) (g.H.Heap.literal_room c.make_literal.new.self)
          size c.in_ok-number-in-Array.ensures.made c.in_ok-number-in-Array.ensures.literals;
      place = refl;
    }

pub make-requires : goal.make-requires
make-requires g t c κs within =
    let here : drop c.loop-item.item-index (map named_literal c.as_slice-item-items.result.now) ≡ named_literal c.item-item.result ∷ drop (c.loop-item.item-index + 1) (map named_literal c.as_slice-item-items.result.now) =
    mapped-next named_literal c.as_slice-item-items.result.now c.loop-item.item-index c.item-item.result c.item-item.is c.loop-item-test.true in
    let named : named_literal c.args.literal.now ≡ ArrayLiteral (literal_row (map named_literal c.as_slice-item-items.result.now)) = array-named c.args.literal.now c.in-Array.items c.as_slice-item-items.result.now c.in-Array.is c.as_slice-item-items.ensures in
    let whole : literal_cells (named_literal c.args.literal.now) ≡ literal_cells (ArrayLiteral (literal_row (map named_literal c.as_slice-item-items.result.now))) = ap literal_cells named in
    let less : literal_cells (named_literal c.item-item.result) < literal_cells (ArrayLiteral (literal_row (map named_literal c.as_slice-item-items.result.now))) = filling-less c.loop-item.invariant.filled here in (
      omega (arith, less, whole, c.decreases),
      (
        search rules,
        (filling-few c.loop-item.invariant.filled here (omega (arith, whole, c.requires.few)), λ r. filling-room c.loop-item.invariant.filled here r (omega (arith, whole, c.requires.room r))),
      ),
    )

pub loop-item-preserved : goal.loop-item-preserved
loop-item-preserved g t c =
    let here : drop c.loop-item.item-index (map named_literal c.as_slice-item-items.result.now) ≡ named_literal c.item-item.result ∷ drop (c.loop-item.item-index + 1) (map named_literal c.as_slice-item-items.result.now) =
    mapped-next named_literal c.as_slice-item-items.result.now c.loop-item.item-index c.item-item.result c.item-item.is c.loop-item-test.true in
    let low : c.loop-item.item-index < length (map named_literal c.as_slice-item-items.result.now) = omega (arith, c.loop-item-test.true, length-map c.as_slice-item-items.result.now named_literal) in
    record {
      filled =
          filling-next c.args.names.now (g.H.Heap.meaning c.args.heap.now) (g.H.Heap.meaning c.loop-item.heap) (g.H.Heap.meaning c.make.new.heap) (g.H.Heap.meaning c.put.new.self) (map named_literal c.as_slice-item-items.result.now) c.loop-item.item-index g.H.Heap.reserved
          (g.H.Heap.literal_room c.args.heap.now) (g.H.Heap.literal_room c.loop-item.heap) (g.H.Heap.literal_room c.put.new.self) (named_literal c.item-item.result) c.in_ok-value-in-Array.value c.in_ok-number-in-Array.number c.loop-item.slot
          here low c.loop-item.invariant.filled c.in_ok-value-in-Array.ensures.value c.in_ok-value-in-Array.ensures.made (λ r. c.put.ensures.literals ∙ c.in_ok-value-in-Array.ensures.room r) c.in_ok-number-in-Array.ensures.answer c.loop-item.invariant.place c.put.ensures.written;
      place = omega (arith, c.loop-item.invariant.place);
    }

pub returns-after-loop-item-clause-value : goal.returns-after-loop-item-clause-value
returns-after-loop-item-clause-value g t c =
    ap (λ k. value.Object k) c.in_ok-number-in-Array.ensures.answer
    ∙ ap (value_of c.args.names.now (length (g.H.Heap.meaning c.args.heap.now).store.objects)) (sym (array-named c.args.literal.now c.in-Array.items c.as_slice-item-items.result.now c.in-Array.is c.as_slice-item-items.ensures))

pub returns-after-loop-item-clause-made : goal.returns-after-loop-item-clause-made
returns-after-loop-item-clause-made g t c =
    let past : length (map named_literal c.as_slice-item-items.result.now) ≤ c.loop-item.item-index = omega (arith, c.loop-item-test.false, length-map c.as_slice-item-items.result.now named_literal) in
    filling-end c.args.names.now (g.H.Heap.meaning c.args.heap.now) (g.H.Heap.meaning c.loop-item.heap) (map named_literal c.as_slice-item-items.result.now) c.loop-item.item-index g.H.Heap.reserved (g.H.Heap.literal_room c.args.heap.now) (g.H.Heap.literal_room c.loop-item.heap) past c.loop-item.invariant.filled
    ∙ ap (λ (l : Named). with_objects (objects_of c.args.names.now (length (g.H.Heap.meaning c.args.heap.now).store.objects) l) (g.H.Heap.meaning c.args.heap.now)) (sym (array-named c.args.literal.now c.in-Array.items c.as_slice-item-items.result.now c.in-Array.is c.as_slice-item-items.ensures))

pub returns-after-loop-item-clause-room : goal.returns-after-loop-item-clause-room
returns-after-loop-item-clause-room g t c =
    let past : length (map named_literal c.as_slice-item-items.result.now) ≤ c.loop-item.item-index = omega (arith, c.loop-item-test.false, length-map c.as_slice-item-items.result.now named_literal) in
    λ r.
    filling-left c.args.names.now (g.H.Heap.meaning c.args.heap.now) (g.H.Heap.meaning c.loop-item.heap) (map named_literal c.as_slice-item-items.result.now) c.loop-item.item-index g.H.Heap.reserved (g.H.Heap.literal_room c.args.heap.now) (g.H.Heap.literal_room c.loop-item.heap) past c.loop-item.invariant.filled r
    ∙ ap (λ (l : Named). g.H.Heap.literal_room c.args.heap.now - literal_cells l) (sym (array-named c.args.literal.now c.in-Array.items c.as_slice-item-items.result.now c.in-Array.is c.as_slice-item-items.ensures))
