-- The grammar of methods and bodies (ANSI NCITS 319, 3.4). A relation on two lists says that the symbols of the first,
-- up to the second, derive a part of the tree.
use Rattle.std.specs.Prelude.{◌≡◌, ℕ, ◌+◌, ◌<◌, ◌≤◌, ◌^◌, List, [], ◌∷◌, ◌++◌, Bool, true, false, length}
use Rattle.st_tree.specs.declared.tree.Name.{Name}
use Rattle.st_tree.specs.declared.tree.Literal.{Literal}
use Rattle.st_tree.specs.declared.tree.Literal.TheVariants as literal
use Rattle.st_tree.specs.declared.tree.Primary.{Primary}
use Rattle.st_tree.specs.declared.tree.Primary.TheVariants as primary
use Rattle.st_tree.specs.declared.tree.Statement.{Statement}
use Rattle.st_tree.specs.declared.tree.Body.{Body}
use Rattle.st_tree.specs.declared.tree.Method.{Method}
use Rattle.st_tree.specs.declared.tree.Message.{Message}
use Rattle.st_tree.specs.declared.tree.Operand.{Operand}
use Rattle.st_tree.specs.Symbols.{Sym, Id, Key, Op, Minus, Bar, TwoBars, ThreeBars, Num, Lit, ArrayOpen, ParenOpen, ParenClose, BlockOpen, BlockClose, Colon, Assign, Caret, Period, Semicolon, IsOp, IsName, IsValue, IsSuper, role, word_item}
use Rattle.st_tree.specs.Trees.{name, variable, integer, negative, array, constant, message, operand, expr, body, paren, block, stated}

-- the next symbol is no keyword at this byte
abbrev pub NotKeyAt : ℕ → List Sym → Type 0
NotKeyAt end (Key t at ∷ a) = at ≡ end → ⊥
NotKeyAt end a = Unit {0}

-- the next symbol is no integer at this byte
abbrev pub NotNumberAt : ℕ → List Sym → Type 0
NotNumberAt end (Num n at ∷ a) = at ≡ end → ⊥
NotNumberAt end a = Unit {0}

-- Keyword*, as many as follow from this byte on without a gap
pub data Keys : ℕ → List Sym → List Sym → List ℕ → Type 0 where
  no_more : {end : ℕ} {a : List Sym} → NotKeyAt end a → Keys end a a []
  one_more : {t : List ℕ} {end at : ℕ} {a b : List Sym} {more : List ℕ}
      → at ≡ end → Keys (at + length t) a b more → Keys end (Key t at ∷ a) b (t ++ more)

mutual
  -- literal | Identifier | Keyword+ | Operator | "(" item* ")"
  pub data Item : List Sym → List Sym → Literal → Type 0 where
    number_item : {n at : ℕ} {a : List Sym} → n < 2 ^ 127 → Item (Num n at ∷ a) a (integer n)
    negative_item : {n at n_at : ℕ} {a : List Sym}
        → n_at ≡ at + 1 → n ≤ 2 ^ 127 → Item (Minus at ∷ Num n n_at ∷ a) a (negative n)
    literal_item : {l : Literal} {a : List Sym} → Item (Lit l ∷ a) a l
    word_of_item : {t : List ℕ} {at : ℕ} {a : List Sym} → Item (Id t at ∷ a) a (word_item t)
    keywords_item : {t : List ℕ} {at : ℕ} {a b : List Sym} {more : List ℕ}
        → Keys (at + length t) a b more → Item (Key t at ∷ a) b (literal.Symbol (t ++ more))
    operator_item : {t : List ℕ} {at : ℕ} {a : List Sym} → Item (Op t at ∷ a) a (literal.Symbol t)
    bar_item : {at : ℕ} {a : List Sym} → Item (Bar at ∷ a) a (literal.Symbol (124 ∷ []))
    two_bars_item : {at : ℕ} {a : List Sym} → Item (TwoBars at ∷ a) a (literal.Symbol (124 ∷ 124 ∷ []))
    three_bars_item : {at : ℕ} {a : List Sym} → Item (ThreeBars at ∷ a) a (literal.Symbol (124 ∷ 124 ∷ 124 ∷ []))
    -- `-` is a symbol where no integer follows directly
    minus_item : {at : ℕ} {a : List Sym} → NotNumberAt (at + 1) a → Item (Minus at ∷ a) a (literal.Symbol (45 ∷ []))
    array_item : {a b : List Sym} {ls : List Literal} → Items a (ParenClose ∷ b) ls → Item (ArrayOpen ∷ a) b (array ls)
    inner_item : {a b : List Sym} {ls : List Literal} → Items a (ParenClose ∷ b) ls → Item (ParenOpen ∷ a) b (array ls)

  -- item*
  pub data Items : List Sym → List Sym → List Literal → Type 0 where
    no_items : {a : List Sym} → Items a a []
    more_items : {a b c : List Sym} {l : Literal} {ls : List Literal} → Item a b l → Items b c ls → Items a c (l ∷ ls)

-- unary*
pub data Unaries : List Sym → List Sym → List Message → Type 0 where
  none : {a : List Sym} → Unaries a a []
  more : {t : List ℕ} {at : ℕ} {a b : List Sym} {ms : List Message}
      → Unaries a b ms → Unaries (Id t at ∷ a) b (message t at [] ∷ ms)

-- (":" Identifier)+
pub data Parameters : List Sym → List Sym → List Name → Type 0 where
  one : {t : List ℕ} {at : ℕ} {a : List Sym} → role t ≡ IsName → Parameters (Colon ∷ Id t at ∷ a) a (name t at ∷ [])
  more : {t : List ℕ} {at : ℕ} {a b : List Sym} {ns : List Name}
      → role t ≡ IsName → Parameters a b ns → Parameters (Colon ∷ Id t at ∷ a) b (name t at ∷ ns)

-- Identifier*
pub data Names : List Sym → List Sym → List Name → Type 0 where
  none : {a : List Sym} → Names a a []
  more : {t : List ℕ} {at : ℕ} {a b : List Sym} {ns : List Name}
      → role t ≡ IsName → Names a b ns → Names (Id t at ∷ a) b (name t at ∷ ns)

-- ["|" Identifier* "|"  |  "||"]
pub data Temps : List Sym → List Sym → List Name → Type 0 where
  none : {a : List Sym} → Temps a a []
  some : {at end : ℕ} {a b : List Sym} {ns : List Name} → Names a (Bar end ∷ b) ns → Temps (Bar at ∷ a) b ns
  empty : {at : ℕ} {a : List Sym} → Temps (TwoBars at ∷ a) a []

-- `super` (true) has a message
abbrev pub Fine : Bool → List Message → Type 0
Fine true [] = ⊥
Fine true (m ∷ ms) = Unit {0}
Fine false ms = Unit {0}

-- one message at least stands before `;`
abbrev pub Receives : List Message → List Message → Type 0
Receives [] [] = Unit {0}
Receives [] (c ∷ cs) = ⊥
Receives (m ∷ ms) cs = Unit {0}

mutual
  -- Identifier | literal | block | "(" expr ")", and whether it is `super`
  pub data IsPrimary : List Sym → List Sym → Primary → Bool → Type 0 where
    named : {t : List ℕ} {at : ℕ} {a : List Sym}
        → role t ≡ IsName → IsPrimary (Id t at ∷ a) a (variable (name t at)) false
    value : {t : List ℕ} {at : ℕ} {a : List Sym} {p : Primary} → role t ≡ IsValue p → IsPrimary (Id t at ∷ a) a p false
    super : {t : List ℕ} {at : ℕ} {a : List Sym} → role t ≡ IsSuper → IsPrimary (Id t at ∷ a) a primary.SuperValue true
    number : {n at : ℕ} {a : List Sym} → n < 2 ^ 127 → IsPrimary (Num n at ∷ a) a (constant (integer n)) false
    negative_number : {n at n_at : ℕ} {a : List Sym}
        → n_at ≡ at + 1 → n ≤ 2 ^ 127 → IsPrimary (Minus at ∷ Num n n_at ∷ a) a (constant (negative n)) false
    one_token : {l : Literal} {a : List Sym} → IsPrimary (Lit l ∷ a) a (constant l) false
    in_array : {a b : List Sym} {ls : List Literal}
        → Items a (ParenClose ∷ b) ls → IsPrimary (ArrayOpen ∷ a) b (constant (array ls)) false
    in_parens : {a b : List Sym} {targets : List Name} {o : Operand} {cs : List Message}
        → IsExpr a (ParenClose ∷ b) targets o cs → IsPrimary (ParenOpen ∷ a) b (paren (expr targets o cs)) false
    plain_block : {at : ℕ} {a b c : List Sym} {ts : List Name} {ss : List Statement}
        → Temps a b ts → Statements b (BlockClose ∷ c) ss → IsPrimary (BlockOpen at ∷ a) c (block at [] ts ss) false
    with_bar : {at bar_at : ℕ} {a b c d : List Sym} {ns ts : List Name} {ss : List Statement}
        → Parameters a (Bar bar_at ∷ b) ns → Temps b c ts → Statements c (BlockClose ∷ d) ss
        → IsPrimary (BlockOpen at ∷ a) d (block at ns ts ss) false
    -- `||` is the bar behind the parameters and the opening bar of temporaries
    with_two_bars : {at bar_at end : ℕ} {a b c d : List Sym} {ns ts : List Name} {ss : List Statement}
        → Parameters a (TwoBars bar_at ∷ b) ns → Names b (Bar end ∷ c) ts → Statements c (BlockClose ∷ d) ss
        → IsPrimary (BlockOpen at ∷ a) d (block at ns ts ss) false
    -- `|||` is the bar behind the parameters and empty temporaries
    with_three_bars : {at bar_at : ℕ} {a b c : List Sym} {ns : List Name} {ss : List Statement}
        → Parameters a (ThreeBars bar_at ∷ b) ns → Statements b (BlockClose ∷ c) ss
        → IsPrimary (BlockOpen at ∷ a) c (block at ns [] ss) false
    only_parameters : {at : ℕ} {a b : List Sym} {ns : List Name}
        → Parameters a (BlockClose ∷ b) ns → IsPrimary (BlockOpen at ∷ a) b (block at ns [] []) false

  -- (Operator primary unary*)*
  pub data Binaries : List Sym → List Sym → List Message → Type 0 where
    no_binaries : {a : List Sym} → Binaries a a []
    more_binaries : {s : Sym} {t : List ℕ} {at : ℕ} {v : Bool} {a b c d : List Sym} {p : Primary} {us ms : List Message}
        → IsOp s t at → IsPrimary a b p v → Unaries b c us → Fine v us → Binaries c d ms
        → Binaries (s ∷ a) d (message t at (operand p us ∷ []) ∷ ms)

  -- what follows a keyword: primary unary* binary*, and the further keywords with theirs
  pub data Arguments : List Sym → List Sym → List ℕ → List Operand → Type 0 where
    last_argument : {v : Bool} {a b c d : List Sym} {p : Primary} {us bs : List Message}
        → IsPrimary a b p v → Unaries b c us → Binaries c d bs → Fine v (us ++ bs)
        → Arguments a d [] (operand p (us ++ bs) ∷ [])
    more_arguments : {v : Bool} {t : List ℕ} {at : ℕ} {a b c d e : List Sym} {p : Primary} {us bs : List Message} {selector : List ℕ} {os : List Operand}
        → IsPrimary a b p v → Unaries b c us → Binaries c (Key t at ∷ d) bs → Fine v (us ++ bs)
        → Arguments d e selector os → Arguments a e (t ++ selector) (operand p (us ++ bs) ∷ os)

  -- unary* binary* [keywords]
  pub data Messages : List Sym → List Sym → List Message → Type 0 where
    short : {a b c : List Sym} {us bs : List Message} → Unaries a b us → Binaries b c bs → Messages a c (us ++ bs)
    long : {t : List ℕ} {at : ℕ} {a b c d : List Sym} {us bs : List Message} {selector : List ℕ} {os : List Operand}
        → Unaries a b us → Binaries b (Key t at ∷ c) bs → Arguments c d selector os
        → Messages a d ((us ++ bs) ++ message (t ++ selector) at os ∷ [])

  -- (";" message)*
  pub data Cascade : List Sym → List Sym → List Message → Type 0 where
    no_cascade : {a : List Sym} → Cascade a a []
    unary_again : {t : List ℕ} {at : ℕ} {a b : List Sym} {ms : List Message}
        → Cascade a b ms → Cascade (Semicolon ∷ Id t at ∷ a) b (message t at [] ∷ ms)
    binary_again : {s : Sym} {t : List ℕ} {at : ℕ} {v : Bool} {a b c d : List Sym} {p : Primary} {us ms : List Message}
        → IsOp s t at → IsPrimary a b p v → Unaries b c us → Fine v us → Cascade c d ms
        → Cascade (Semicolon ∷ s ∷ a) d (message t at (operand p us ∷ []) ∷ ms)
    keywords_again : {t : List ℕ} {at : ℕ} {a b c : List Sym} {selector : List ℕ} {os : List Operand} {ms : List Message}
        → Arguments a b selector os → Cascade b c ms
        → Cascade (Semicolon ∷ Key t at ∷ a) c (message (t ++ selector) at os ∷ ms)

  -- (Identifier ":=")* cascade
  pub data IsExpr : List Sym → List Sym → List Name → Operand → List Message → Type 0 where
    assigned : {t : List ℕ} {at : ℕ} {a b : List Sym} {ns : List Name} {o : Operand} {cs : List Message}
        → role t ≡ IsName → IsExpr a b ns o cs → IsExpr (Id t at ∷ Assign ∷ a) b (name t at ∷ ns) o cs
    sent : {v : Bool} {a b c d : List Sym} {p : Primary} {ms cs : List Message}
        → IsPrimary a b p v → Messages b c ms → Fine v ms → Cascade c d cs → Receives ms cs
        → IsExpr a d [] (operand p ms) cs

  -- ["^" expr ["."]  |  expr ["." [statements]]]
  pub data Statements : List Sym → List Sym → List Statement → Type 0 where
    no_statements : {a : List Sym} → Statements a a []
    returned : {a b : List Sym} {ns : List Name} {o : Operand} {cs : List Message}
        → IsExpr a b ns o cs → Statements (Caret ∷ a) b (stated true (expr ns o cs) ∷ [])
    returned_dot : {a b : List Sym} {ns : List Name} {o : Operand} {cs : List Message}
        → IsExpr a (Period ∷ b) ns o cs → Statements (Caret ∷ a) b (stated true (expr ns o cs) ∷ [])
    last_statement : {a b : List Sym} {ns : List Name} {o : Operand} {cs : List Message}
        → IsExpr a b ns o cs → Statements a b (stated false (expr ns o cs) ∷ [])
    more_statements : {a b c : List Sym} {ns : List Name} {o : Operand} {cs : List Message} {ss : List Statement}
        → IsExpr a (Period ∷ b) ns o cs → Statements b c ss → Statements a c (stated false (expr ns o cs) ∷ ss)

-- (Keyword Identifier)+
pub data KeywordPattern : List Sym → List Sym → List ℕ → List Name → Type 0 where
  last : {k t : List ℕ} {k_at at : ℕ} {a : List Sym}
      → role t ≡ IsName → KeywordPattern (Key k k_at ∷ Id t at ∷ a) a k (name t at ∷ [])
  more : {k t selector : List ℕ} {k_at at : ℕ} {a b : List Sym} {ns : List Name}
      → role t ≡ IsName → KeywordPattern a b selector ns
      → KeywordPattern (Key k k_at ∷ Id t at ∷ a) b (k ++ selector) (name t at ∷ ns)

-- Identifier | Operator Identifier | (Keyword Identifier)+
pub data Pattern : List Sym → List Sym → List ℕ → List Name → Type 0 where
  unary : {t : List ℕ} {at : ℕ} {a : List Sym} → Pattern (Id t at ∷ a) a t []
  binary : {s : Sym} {u t : List ℕ} {op_at at : ℕ} {a : List Sym}
      → IsOp s u op_at → role t ≡ IsName → Pattern (s ∷ Id t at ∷ a) a u (name t at ∷ [])
  keywords : {a b : List Sym} {selector : List ℕ} {ns : List Name}
      → KeywordPattern a b selector ns → Pattern a b selector ns

-- what a list of symbols is to be
pub data Production : Type 0 where
  AMethod : Production
  ABody : Production

pub data Tree : Type 0 where
  MethodTree : Method → Tree
  BodyTree : Body → Tree

-- The symbols derive the tree.
pub data Derives : Production → List Sym → Tree → Type 0 where
  is_body : {a b : List Sym} {ts : List Name} {ss : List Statement}
      → Temps a b ts → Statements b [] ss → Derives ABody a (BodyTree (body ts ss))
  is_method : {a b c : List Sym} {selector : List ℕ} {ns ts : List Name} {ss : List Statement}
      → Pattern a b selector ns → Temps b c ts → Statements c [] ss
      → Derives AMethod a (MethodTree (record { selector = selector; parameters = ns; body = body ts ss }))
