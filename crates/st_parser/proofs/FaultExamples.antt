-- What the machine says of some short texts that have a fault.
use Rattle.std.proofs.Common.{◌≡◌, ℕ, List, [], ◌∷◌, ◌++◌, false, refl, codes, replicate}
use Rattle.st_base.specs.declared.faults.Reason.TheVariants as reason
use Rattle.st_base.specs.Lexed.{lexed_of, word_front, operator_len, value_of, integer_at, radix_front, number_front, selector_len, symbol_front, sign_front, front_of}
use Rattle.st_tree.specs.Symbols.{role, word_item}
use Rattle.st_tree.specs.Trees.{negative, constant, operand, expr, body, stated}
use Rattle.st_tree.specs.Grammar.{Production, AMethod, ABody, BodyTree}
use Rattle.st_parser.specs.Verdict.{Verdict, Good, Bad, verdict_of}

unfoldable says : Production → List ℕ → Verdict
unfolding lexed_of word_front operator_len value_of integer_at radix_front number_front selector_len symbol_front sign_front front_of role word_item
says p text = verdict_of p text (lexed_of text).tokens (lexed_of text).fault

-- an operand is missing at the end
unfinished : says ABody (codes "3 +") ≡ Bad 3 reason.Syntax
unfolding says
unfinished = refl

-- all tokens before the spoiled one may stand
spoiled_byte : says ABody (codes "a := #( 1 $") ≡ Bad 10 reason.BadCharacter
unfolding says
spoiled_byte = refl

-- a token that cannot stand comes before a later fault
earlier_token : says ABody (codes "3 ) $") ≡ Bad 2 reason.Syntax
unfolding says
earlier_token = refl

-- 2^127 needs its sign, which is `-` directly before it where an operand is expected
too_large : says ABody (codes "3 -170141183460469231731687303715884105728") ≡ Bad 3 reason.IntegerTooLarge
unfolding says
too_large = refl

least : says ABody (codes "-170141183460469231731687303715884105728")
    ≡ Good (BodyTree (body [] (stated false (expr [] (operand (constant (negative 170141183460469231731687303715884105728)) []) []) ∷ [])))
unfolding says
least = refl

-- a token that cannot stand is so whatever its value
large_and_misplaced : says ABody (codes "x := 170141183460469231731687303715884105727 170141183460469231731687303715884105728") ≡ Bad 45 reason.Syntax
unfolding says
large_and_misplaced = refl

-- the 201st opening, and one that cannot stand
opened_201 : says ABody (replicate 201 40) ≡ Bad 200 reason.TooDeep
unfolding says
opened_201 = refl

misplaced_201 : says ABody (replicate 200 40 ++ codes "x (") ≡ Bad 202 reason.Syntax
unfolding says
misplaced_201 = refl

-- a method needs a pattern
no_pattern : says AMethod (codes "^1") ≡ Bad 0 reason.Syntax
unfolding says
no_pattern = refl

reserved_parameter : says AMethod (codes "at: self") ≡ Bad 4 reason.Syntax
unfolding says
reserved_parameter = refl
