-- What the machine makes of some short lists of tokens.
use Rattle.std.proofs.Common.{◌≡◌, ℕ, [], ◌∷◌, true, false, refl, Some, None, codes}
use Rattle.st_base.specs.declared.tokens.Token.{Token}
use Rattle.st_base.specs.declared.tokens.TokenKind.{TokenKind}
use Rattle.st_base.specs.declared.tokens.TokenKind.TheVariants as kind
use Rattle.st_tree.specs.declared.tree.Literal.TheVariants as literal
use Rattle.st_tree.specs.declared.tree.Primary.TheVariants as primary
use Rattle.st_tree.specs.Symbols.{syms, role, word_item, string_value}
use Rattle.st_tree.specs.Trees.{name, variable, integer, negative, array, constant, message, operand, expr, body, block, paren, stated}
use Rattle.st_tree.specs.Grammar.{AMethod, ABody, MethodTree, BodyTree}
use Rattle.st_parser.specs.Machine.{parse, run, start}

t : TokenKind → ℕ → ℕ → Token
t k a b = record { kind = k; start = a; end = b }

-- `x := a foo: 1 - -2 bar; + b. ^super baz`
assigns : parse (start ABody) (syms (codes "x := a foo: 1 - -2 bar; + b. ^super baz")
    (t kind.Identifier 0 1 ∷ t kind.Assign 2 4 ∷ t kind.Identifier 5 6 ∷ t kind.Keyword 7 11 ∷ t (kind.Integer 1) 12 13 ∷ t kind.Operator 14 15 ∷ t kind.Operator 16 17
    ∷ t (kind.Integer 2) 17 18 ∷ t kind.Identifier 19 22 ∷ t kind.Semicolon 22 23 ∷ t kind.Operator 24 25 ∷ t kind.Identifier 26 27 ∷ t kind.Period 27 28
    ∷ t kind.Caret 29 30 ∷ t kind.Identifier 30 35 ∷ t kind.Identifier 36 39 ∷ []))
    ≡ Some (BodyTree (body [] (
    stated false (expr (name (codes "x") 0 ∷ []) (operand (variable (name (codes "a") 5)) (message (codes "foo:") 7
    (operand (constant (integer 1)) (message (codes "-") 14 (operand (constant (negative 2)) (message (codes "bar") 19 [] ∷ []) ∷ []) ∷ []) ∷ []) ∷ []))
    (message (codes "+") 24 (operand (variable (name (codes "b") 26)) [] ∷ []) ∷ []))
    ∷ stated true (expr [] (operand primary.SuperValue (message (codes "baz") 36 [] ∷ [])) [])
    ∷ [])))
unfolding t role
assigns = refl

-- `#($a #b: 'c''d' - 5 -5 a: b: c: x nil (true) #[])` up to `#`
arrays : parse (start ABody) (syms (codes "#($a #b: 'c''d' - 5 -5 a:b: c: x nil (true #(|)) #'q q')")
    (t kind.ArrayOpen 0 2 ∷ t kind.Character 2 4 ∷ t kind.Symbol 5 8 ∷ t kind.Str 9 15 ∷ t kind.Operator 16 17 ∷ t (kind.Integer 5) 18 19 ∷ t kind.Operator 20 21 ∷ t (kind.Integer 5) 21 22
    ∷ t kind.Keyword 23 25 ∷ t kind.Keyword 25 27 ∷ t kind.Keyword 28 30 ∷ t kind.Identifier 31 32 ∷ t kind.Identifier 33 36 ∷ t kind.ParenOpen 37 38 ∷ t kind.Identifier 38 42
    ∷ t kind.ArrayOpen 43 45 ∷ t kind.Operator 45 46 ∷ t kind.ParenClose 46 47 ∷ t kind.ParenClose 47 48 ∷ t kind.QuotedSymbol 49 55 ∷ t kind.ParenClose 55 56 ∷ []))
    ≡ Some (BodyTree (body [] (stated false (expr [] (operand (constant (array (
    literal.Character 97 ∷ literal.Symbol (codes "b:") ∷ literal.Str (codes "c'd") ∷ literal.Symbol (codes "-") ∷ integer 5 ∷ negative 5 ∷ literal.Symbol (codes "a:b:") ∷ literal.Symbol (codes "c:")
    ∷ literal.Symbol (codes "x") ∷ literal.Nil ∷ array (literal.True ∷ array (literal.Symbol (codes "|") ∷ []) ∷ []) ∷ literal.Symbol (codes "q q") ∷ []))) []) []) ∷ [])))
unfolding t role word_item string_value
arrays = refl

-- `at: i put: v | u | [:p || q | ^p]. [:r]. u`
methods : parse (start AMethod) (syms (codes "at: i put: v | u | [:p || q | ^p]. [:r]. []")
    (t kind.Keyword 0 3 ∷ t kind.Identifier 4 5 ∷ t kind.Keyword 6 10 ∷ t kind.Identifier 11 12 ∷ t kind.Operator 13 14 ∷ t kind.Identifier 15 16 ∷ t kind.Operator 17 18
    ∷ t kind.BlockOpen 19 20 ∷ t kind.Colon 20 21 ∷ t kind.Identifier 21 22 ∷ t kind.Operator 23 25 ∷ t kind.Identifier 26 27 ∷ t kind.Operator 28 29 ∷ t kind.Caret 30 31 ∷ t kind.Identifier 31 32 ∷ t kind.BlockClose 32 33
    ∷ t kind.Period 33 34 ∷ t kind.BlockOpen 35 36 ∷ t kind.Colon 36 37 ∷ t kind.Identifier 37 38 ∷ t kind.BlockClose 38 39 ∷ t kind.Period 39 40 ∷ t kind.BlockOpen 41 42 ∷ t kind.BlockClose 42 43 ∷ []))
    ≡ Some (MethodTree (record {
      selector = codes "at:put:";
      parameters = name (codes "i") 4 ∷ name (codes "v") 11 ∷ [];
      body = body (name (codes "u") 15 ∷ []) (
          stated false (expr [] (operand (block 19 (name (codes "p") 21 ∷ []) (name (codes "q") 26 ∷ []) (stated true (expr [] (operand (variable (name (codes "p") 31)) []) []) ∷ [])) []) [])
          ∷ stated false (expr [] (operand (block 35 (name (codes "r") 37 ∷ []) [] []) []) [])
          ∷ stated false (expr [] (operand (block 41 [] [] []) []) [])
          ∷ []);
    }))
unfolding t role
methods = refl

-- `- x` as a method, and `(self - 3) foo: 1; bar`
operators : parse (start AMethod) (syms (codes "- x (self - 3) foo: 1; bar")
    (t kind.Operator 0 1 ∷ t kind.Identifier 2 3 ∷ t kind.ParenOpen 4 5 ∷ t kind.Identifier 5 9 ∷ t kind.Operator 10 11 ∷ t (kind.Integer 3) 12 13 ∷ t kind.ParenClose 13 14
    ∷ t kind.Keyword 15 19 ∷ t (kind.Integer 1) 20 21 ∷ t kind.Semicolon 21 22 ∷ t kind.Identifier 23 26 ∷ []))
    ≡ Some (MethodTree (record {
      selector = codes "-";
      parameters = name (codes "x") 2 ∷ [];
      body = body [] (stated false (expr []
          (operand (paren (expr [] (operand primary.SelfValue (message (codes "-") 10 (operand (constant (integer 3)) [] ∷ []) ∷ [])) [])) (message (codes "foo:") 15 (operand (constant (integer 1)) [] ∷ []) ∷ []))
          (message (codes "bar") 23 [] ∷ [])) ∷ []);
    }))
unfolding t role
operators = refl

-- `^1. 2`: nothing follows a return
behind_return : run (start ABody) (syms (codes "^1. 2") (t kind.Caret 0 1 ∷ t (kind.Integer 1) 1 2 ∷ t kind.Period 2 3 ∷ t (kind.Integer 2) 4 5 ∷ [])) ≡ None
unfolding t
behind_return = refl

-- `x super`, `super` alone, `3 + - 4`, `a; b`, `self := 1`, `[:x y]`, `x + 2^127`
reserved_message : parse (start ABody) (syms (codes "x super") (t kind.Identifier 0 1 ∷ t kind.Identifier 2 7 ∷ []))
    ≡ Some (BodyTree (body [] (stated false (expr [] (operand (variable (name (codes "x") 0)) (message (codes "super") 2 [] ∷ [])) []) ∷ [])))
unfolding t role
reserved_message = refl

lone_super : parse (start ABody) (syms (codes "super") (t kind.Identifier 0 5 ∷ [])) ≡ None
unfolding t role
lone_super = refl

gap_behind_minus : run (start ABody) (syms (codes "3 + - 4") (t (kind.Integer 3) 0 1 ∷ t kind.Operator 2 3 ∷ t kind.Operator 4 5 ∷ t (kind.Integer 4) 6 7 ∷ [])) ≡ None
unfolding t
gap_behind_minus = refl

no_message_before : run (start ABody) (syms (codes "a;") (t kind.Identifier 0 1 ∷ t kind.Semicolon 1 2 ∷ [])) ≡ None
unfolding t role
no_message_before = refl

reserved_target : run (start ABody) (syms (codes "self :=") (t kind.Identifier 0 4 ∷ t kind.Assign 5 7 ∷ [])) ≡ None
unfolding t role
reserved_target = refl

largest : run (start ABody) (syms (codes "170141183460469231731687303715884105728") (t (kind.Integer 170141183460469231731687303715884105728) 0 39 ∷ [])) ≡ None
unfolding t
largest = refl

smallest : parse (start ABody) (syms (codes "-170141183460469231731687303715884105728") (t kind.Operator 0 1 ∷ t (kind.Integer 170141183460469231731687303715884105728) 1 40 ∷ []))
    ≡ Some (BodyTree (body [] (stated false (expr [] (operand (constant (negative 170141183460469231731687303715884105728)) []) []) ∷ [])))
unfolding t
smallest = refl

empty_method : parse (start AMethod) [] ≡ None
empty_method = refl

empty_body : parse (start ABody) [] ≡ Some (BodyTree (body [] []))
empty_body = refl
