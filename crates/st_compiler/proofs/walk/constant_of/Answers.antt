use Rattle.std.proofs.Common.{rules, refl, ap}
use Rattle.st_code.proofs.Written.{literal-nil, literal-true, literal-false, literal-integer, literal-character, literal-string, literal-symbol, literal-array}
use Rattle.object_heap.specs.declared.value.Value.TheVariants as value
use Rattle.st_compiler.proofs.walk.constant_of.Goals as goal

pub returns-in-Nil : goal.returns-in-Nil
returns-in-Nil c = rw (c.in-Nil.is, literal-nil) refl

pub returns-in-True : goal.returns-in-True
returns-in-True c = rw (c.in-True.is, literal-true) refl

pub returns-in-False : goal.returns-in-False
returns-in-False c = rw (c.in-False.is, literal-false) refl

pub returns-in-Integer : goal.returns-in-Integer
returns-in-Integer c = rw (c.in-Integer.is, literal-integer c.in-Integer.number) (search rules)

pub returns-in-Character : goal.returns-in-Character
returns-in-Character c = rw (c.in-Character.is, literal-character c.in-Character.byte) refl

pub returns-in-Str : goal.returns-in-Str
returns-in-Str c = rw (c.in-Str.is, literal-string c.in-Str.field-0) refl

pub returns-in-Symbol : goal.returns-in-Symbol
returns-in-Symbol c = rw (c.in-Symbol.is, literal-symbol c.in-Symbol.text, ← c.as_bytes.ensures) (ap value.Symbol c.number.ensures)

pub returns-in-Array : goal.returns-in-Array
returns-in-Array c = rw (c.in-Array.is, literal-array c.in-Array.field-0) refl
