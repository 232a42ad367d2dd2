use Rattle.std.proofs.Common.{List, map, refl, ap, sym, ◌∙◌}
use Rattle.st_tree.specs.declared.tree.Literal.{Literal}
use Rattle.st_code.specs.Written.{named_literal, literal_row}
use Rattle.st_code.proofs.Written.{literal-nil, literal-true, literal-false, literal-integer, literal-character, literal-string, literal-symbol, literal-array}
use Rattle.program_image.specs.Spelled.{spelled, literal_texts, literals_texts}
use Rattle.program_image.proofs.Spelling.{spelled-next, spelled-end}
use Rattle.program_image.proofs.spelled.+spell_literal.Goals as goal

pub returns-in-Nil : goal.returns-in-Nil
returns-in-Nil t c = rw (c.in-Nil.is, literal-nil) refl

pub returns-in-True : goal.returns-in-True
returns-in-True t c = rw (c.in-True.is, literal-true) refl

pub returns-in-False : goal.returns-in-False
returns-in-False t c = rw (c.in-False.is, literal-false) refl

pub returns-in-Integer : goal.returns-in-Integer
returns-in-Integer t c = rw (c.in-Integer.is, literal-integer c.in-Integer.field-0) refl

pub returns-in-Character : goal.returns-in-Character
returns-in-Character t c = rw (c.in-Character.is, literal-character c.in-Character.field-0) refl

pub returns-in-Str : goal.returns-in-Str
returns-in-Str t c = rw (c.in-Str.is, literal-string c.in-Str.field-0) refl

pub returns-in-Symbol : goal.returns-in-Symbol
returns-in-Symbol t c = rw (c.in-Symbol.is, literal-symbol c.in-Symbol.text, ← c.as_bytes.ensures) c.spell.ensures

pub returns-after-loop-item : goal.returns-after-loop-item
returns-after-loop-item t c =
    spelled-end (λ (xs : List Literal). literals_texts (literal_row (map named_literal xs))) refl c.loop-item.names (spelled c.args.names.now (literals_texts (literal_row (map named_literal c.as_slice-item-items.result.now)))) c.as_slice-item-items.result.now c.loop-item.item-index c.loop-item-test.false c.loop-item.invariant
    ∙ ap (λ (xs : List Literal). spelled c.args.names.now (literals_texts (literal_row (map named_literal xs)))) c.as_slice-item-items.ensures
    ∙ ap (λ (l : _). spelled c.args.names.now (literal_texts l)) (sym (literal-array c.in-Array.items) ∙ ap named_literal (sym c.in-Array.is))

pub loop-item-preserved : goal.loop-item-preserved
loop-item-preserved t c =
    spelled-next (λ (xs : List Literal). literals_texts (literal_row (map named_literal xs))) (λ (x : Literal). literal_texts (named_literal x)) (λ x xs. refl) c.loop-item.names c.spell_literal.new.names (spelled c.args.names.now (literals_texts (literal_row (map named_literal c.as_slice-item-items.result.now)))) c.as_slice-item-items.result.now c.loop-item.item-index c.item-item.result c.item-item.is c.loop-item-test.true c.loop-item.invariant c.in_ok-spell_literal-in-Array.ensures
