use Rattle.std.proofs.Common.{◌+◌, List, map, refl, ap, sym, ◌∙◌}
use Rattle.st_tree.specs.declared.tree.Literal.{Literal}
use Rattle.st_code.specs.Written.{named_literal, literal_row}
use Rattle.st_compiler.specs.Walked.{objects_in, objects_in_row}
use Rattle.st_compiler.proofs.Chains.{counted-all}
use Rattle.st_code.proofs.Written.{literal-nil, literal-true, literal-false, literal-integer, literal-character, literal-string, literal-symbol, literal-array}
use Rattle.st_compiler.proofs.walk.+objects_in.Goals as goal

pub returns-in-Nil : goal.returns-in-Nil
returns-in-Nil t c = rw (c.in-Nil.is, literal-nil) refl

pub returns-in-True : goal.returns-in-True
returns-in-True t c = rw (c.in-True.is, literal-true) refl

pub returns-in-False : goal.returns-in-False
returns-in-False t c = rw (c.in-False.is, literal-false) refl

pub returns-in-Integer : goal.returns-in-Integer
returns-in-Integer t c = rw (c.in-Integer.is, literal-integer c.in-Integer.field-0) refl

pub returns-in-Character : goal.returns-in-Character
returns-in-Character t c = rw (c.in-Character.is, literal-character c.in-Character.field-0) refl

pub returns-in-Str : goal.returns-in-Str
returns-in-Str t c = rw (c.in-Str.is, literal-string c.in-Str.field-0) refl

pub returns-in-Symbol : goal.returns-in-Symbol
returns-in-Symbol t c = rw (c.in-Symbol.is, literal-symbol c.in-Symbol.field-0) refl

pub returns-after-loop-item : goal.returns-after-loop-item
returns-after-loop-item t c =
    counted-all c.loop-item.count c.loop-item.item-index c.as_slice-item-items.result.now c.loop-item-test.false c.loop-item.invariant
    ∙ ap (λ (ls : List Literal). 1 + objects_in_row (literal_row (map named_literal ls))) c.as_slice-item-items.ensures
    ∙ ap objects_in (sym (literal-array c.in-Array.items) ∙ ap named_literal (sym c.in-Array.is))
