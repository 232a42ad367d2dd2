-- Small elements, computed.
use Rattle.std.proofs.Common.{◌≡◌, ℕ, List, [], ◌∷◌, codes, refl, Option, None, Some}
use Rattle.st_base.specs.Lexed.{lexed_of, front_of, word_front, operator_len, number_front, radix_front, integer_at, value_of, selector_len, symbol_front, sign_front}
use Rattle.st_base.specs.declared.faults.Reason.TheVariants as reason
use Rattle.st_tree.specs.Symbols.{string_value}
use Rattle.st_tree.specs.declared.headers.Header.TheVariants.{Whole, Awaits}
use Rattle.st_tree.specs.declared.headers.Target.TheVariants as target
use Rattle.st_tree.specs.Headers.{Says, Faulty, words_of}
use Rattle.st_tree.specs.Units.{element, first_element}
use Rattle.st_tree.specs.declared.units.UnitKind.TheVariants as unit

pub class_name_with_a_blank : element (10 ∷ codes "Class named: 'A b'") ≡ Faulty 14 reason.Syntax
unfolding lexed_of front_of word_front operator_len number_front radix_front integer_at value_of selector_len symbol_front sign_front string_value
class_name_with_a_blank = refl

pub a_method : element (codes "Q method") ≡ Says (Awaits (target.Method (codes "Q")))
unfolding lexed_of front_of word_front operator_len number_front radix_front integer_at value_of selector_len symbol_front sign_front string_value
a_method = refl

pub a_version_behind : element (codes "Smalltalk interchangeVersion: '1.0'") ≡ Faulty 10 reason.Syntax
unfolding lexed_of front_of word_front operator_len number_front radix_front integer_at value_of selector_len symbol_front sign_front string_value
a_version_behind = refl

pub a_version : first_element (codes "Smalltalk interchangeVersion: '1''0'") ≡ Says (Whole (unit.Version (codes "1'0")))
unfolding lexed_of front_of word_front operator_len number_front radix_front integer_at value_of selector_len symbol_front sign_front string_value
a_version = refl

pub comments : element (codes " \"a\" \"\"") ≡ Says (Whole (unit.Comment (codes "a" ∷ [] ∷ [])))
unfolding lexed_of front_of word_front operator_len number_front radix_front integer_at value_of selector_len symbol_front sign_front string_value
comments = refl

pub an_annotation_short : element (codes "Annotation key: 'k'") ≡ Faulty 19 reason.Syntax
unfolding lexed_of front_of word_front operator_len number_front radix_front integer_at value_of selector_len symbol_front sign_front string_value
an_annotation_short = refl

pub names_apart : words_of (codes "a  b_1") ≡ codes "a" ∷ codes "b_1" ∷ []
names_apart = refl
