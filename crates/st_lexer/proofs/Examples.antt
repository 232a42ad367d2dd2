-- Small texts and their tokens, computed.
use Rattle.std.proofs.Common.{◌≡◌, ℕ, ◌^◌, List, [], ◌∷◌, None, Some, refl, codes}
use Rattle.st_base.specs.declared.tokens.Token.{Token}
use Rattle.st_base.specs.declared.tokens.TokenKind.{TokenKind}
use Rattle.st_base.specs.declared.tokens.TokenKind.TheVariants.{Identifier, Keyword, Operator, Integer, Character, Str, Symbol, QuotedSymbol, ArrayOpen, ParenClose, BlockOpen, BlockClose, Colon, Assign, Caret, Period, Semicolon}
use Rattle.st_base.specs.declared.faults.Reason.{Reason}
use Rattle.st_base.specs.declared.faults.Reason.TheVariants.{BadCharacter, OpenString, OpenComment, BadRadix, IntegerTooLarge, FloatOutside}
use Rattle.st_base.specs.Lexed.{LexedText, lexed_of, front_of, word_front, operator_len, number_front, radix_front, integer_at, value_of, selector_len, symbol_front, sign_front}

abbrev token : TokenKind → ℕ → ℕ → Token
token k from to = record { kind = k; start = from; end = to }

abbrev whole : List Token → LexedText
whole tokens = record { tokens = tokens; fault = None }

abbrev spoiled : List Token → ℕ → Reason → LexedText
spoiled tokens at why = record { tokens = tokens; fault = Some (record { byte = at; reason = why }) }

minus_twice : lexed_of (codes "3--4") ≡ whole (token (Integer 3) 0 1 ∷ token Operator 1 2 ∷ token Operator 2 3 ∷ token (Integer 4) 3 4 ∷ [])
unfolding lexed_of front_of word_front operator_len number_front radix_front integer_at value_of selector_len symbol_front sign_front
minus_twice = refl

assigned : lexed_of (codes "x:=1") ≡ whole (token Identifier 0 1 ∷ token Assign 1 3 ∷ token (Integer 1) 3 4 ∷ [])
unfolding lexed_of front_of word_front operator_len number_front radix_front integer_at value_of selector_len symbol_front sign_front
assigned = refl

keyword : lexed_of (codes "a:b") ≡ whole (token Keyword 0 2 ∷ token Identifier 2 3 ∷ [])
unfolding lexed_of front_of word_front operator_len number_front radix_front integer_at value_of selector_len symbol_front sign_front
keyword = refl

symbol_cut : lexed_of (codes "#at:put #a:b: #a:b:=1") ≡ whole (token Symbol 0 4 ∷ token Identifier 4 7 ∷ token Symbol 8 13 ∷ token Symbol 14 17 ∷ token Identifier 17 18 ∷ token Assign 18 20 ∷ token (Integer 1) 20 21 ∷ [])
unfolding lexed_of front_of word_front operator_len number_front radix_front integer_at value_of selector_len symbol_front sign_front
symbol_cut = refl

radix : lexed_of (codes "16rFF 36rZ 2r1010") ≡ whole (token (Integer 255) 0 5 ∷ token (Integer 35) 6 10 ∷ token (Integer 10) 11 17 ∷ [])
unfolding lexed_of front_of word_front operator_len number_front radix_front integer_at value_of selector_len symbol_front sign_front
radix = refl

bad_radix : (lexed_of (codes "1r0") ≡ spoiled [] 0 BadRadix) × (lexed_of (codes "37r0") ≡ spoiled [] 0 BadRadix) × (lexed_of (codes " 2r2.5") ≡ spoiled [] 1 BadRadix) × (lexed_of (codes "16r") ≡ spoiled [] 0 BadRadix) × (lexed_of (codes "16rfe") ≡ spoiled [] 0 BadRadix)
unfolding lexed_of front_of word_front operator_len number_front radix_front integer_at value_of selector_len symbol_front sign_front
bad_radix = (refl, refl, refl, refl, refl)

floats : (lexed_of (codes "1.5") ≡ spoiled [] 0 FloatOutside) × (lexed_of (codes "2e") ≡ spoiled [] 0 FloatOutside) × (lexed_of (codes "1.") ≡ whole (token (Integer 1) 0 1 ∷ token Period 1 2 ∷ [])) × (lexed_of (codes "1a") ≡ whole (token (Integer 1) 0 1 ∷ token Identifier 1 2 ∷ []))
unfolding lexed_of front_of word_front operator_len number_front radix_front integer_at value_of selector_len symbol_front sign_front
floats = (refl, refl, refl, refl)

operators : (lexed_of (codes "#+-1") ≡ whole (token Symbol 0 3 ∷ token (Integer 1) 3 4 ∷ [])) × (lexed_of (codes "||") ≡ whole (token Operator 0 2 ∷ [])) × (lexed_of (codes "|||") ≡ whole (token Operator 0 3 ∷ [])) × (lexed_of (codes "-1") ≡ whole (token Operator 0 1 ∷ token (Integer 1) 1 2 ∷ []))
unfolding lexed_of front_of word_front operator_len number_front radix_front integer_at value_of selector_len symbol_front sign_front
operators = (refl, refl, refl, refl)

characters : (lexed_of (codes "$") ≡ spoiled [] 0 BadCharacter) × (lexed_of (codes "$$") ≡ whole (token Character 0 2 ∷ [])) × (lexed_of (codes "a #") ≡ spoiled (token Identifier 0 1 ∷ []) 2 BadCharacter) × (lexed_of (codes "{") ≡ spoiled [] 0 BadCharacter)
unfolding lexed_of front_of word_front operator_len number_front radix_front integer_at value_of selector_len symbol_front sign_front
characters = (refl, refl, refl, refl)

quotes : (lexed_of (codes "\"abc") ≡ spoiled [] 0 OpenComment) × (lexed_of (codes "a\"b\"") ≡ whole (token Identifier 0 1 ∷ [])) × (lexed_of (codes "'a''b'") ≡ whole (token Str 0 6 ∷ [])) × (lexed_of (codes "'a''b") ≡ spoiled [] 0 OpenString) × (lexed_of (codes "#'a'") ≡ whole (token QuotedSymbol 0 4 ∷ [])) × (lexed_of (codes "#'a") ≡ spoiled [] 1 OpenString)
unfolding lexed_of front_of word_front operator_len number_front radix_front integer_at value_of selector_len symbol_front sign_front
quotes = (refl, refl, refl, refl, refl, refl)

greatest : (lexed_of (codes "170141183460469231731687303715884105728") ≡ whole (token (Integer (2 ^ 127)) 0 39 ∷ [])) × (lexed_of (codes "170141183460469231731687303715884105729") ≡ spoiled [] 0 IntegerTooLarge) × (lexed_of (codes "170141183460469231731687303715884105729q") ≡ spoiled [] 0 FloatOutside)
unfolding lexed_of front_of word_front operator_len number_front radix_front integer_at value_of selector_len symbol_front sign_front
greatest = (refl, refl, refl)

signs : lexed_of (codes "#()[]:a^.;a:") ≡ whole (token ArrayOpen 0 2 ∷ token ParenClose 2 3 ∷ token BlockOpen 3 4 ∷ token BlockClose 4 5 ∷ token Colon 5 6 ∷ token Identifier 6 7 ∷ token Caret 7 8 ∷ token Period 8 9 ∷ token Semicolon 9 10 ∷ token Keyword 10 12 ∷ [])
unfolding lexed_of front_of word_front operator_len number_front radix_front integer_at value_of selector_len symbol_front sign_front
signs = refl
