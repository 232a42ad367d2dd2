-- A walk adds the code of what is made of a tree.
use Rattle.std.proofs.Common.{◌≡◌, ℕ, suc, ◌+◌, Bool, true, false, not, ◌&&◌, List, [], ◌∷◌, ◌++◌, length, refl, ap, sym, ◌∙◌, append_assoc, append-nil, arith, length-append, if◌then◌else◌}
use Rattle.st_code.specs.Texts.{Text}
use Rattle.st_code.specs.Program.{Tree, Trees, Messages, more_messages, Statement, Kind}
use Rattle.st_code.specs.Code.{Instr, PushSelf, Pop, Dup, SendMessage, SendSuper, Store, end_code, code_on, code, code_args, code_messages, count_of, code_body}
use Rattle.st_code.specs.Named.{Literal, NilLiteral, TrueLiteral, FalseLiteral, IntegerLiteral, CharacterLiteral, StringLiteral, SymbolLiteral, ArrayLiteral, Literals, no_literals, more_literals, NamedPrimary, NameOf, SelfName, SuperName, LiteralOf, BlockOf, ParenOf, NamedOperands, no_operands, more_operands, NamedMessages, none_sent, then_sent}
use Rattle.st_code.specs.Resolved as made
use Rattle.st_code.specs.Resolved.{Context, Counts, Made, Receiver, ToTree, ToSuper, receiver_tree, Chain, no_chain, one_sent, with_cascade, cascaded, is_one_sent, behind, assigned, tree_of, Meant, At, Value', named, place_of, number_or_last, literal_made, literals_made, primary_made, chain_made, messages_made, args_made, operand_made, expr_made, statements_made, captured_of, class_of_context, inside, without, has_text}
use Rattle.st_compiler.specs.declared.draft.Status.{Status}
use Rattle.st_compiler.specs.declared.draft.Status.TheVariants as status
use Rattle.st_compiler.specs.Walked.{objects_in, objects_in_row, send_of, operand_count, is_super, is_short, stores}
use Rattle.st_compiler.proofs.Pieces.{code-append, args-append}

-- ---- literals

mutual
  pub literal-objects : (names : List Text) (n : ℕ) (l : Literal) → length (literal_made names n l).objects ≡ objects_in l
  literal-objects names n NilLiteral = refl
  literal-objects names n TrueLiteral = refl
  literal-objects names n FalseLiteral = refl
  literal-objects names n (IntegerLiteral i) = refl
  literal-objects names n (CharacterLiteral byte) = refl
  literal-objects names n (StringLiteral t) = refl
  literal-objects names n (SymbolLiteral t) = refl
  literal-objects names n (ArrayLiteral row) = omega (arith, literals-objects names (suc n) row)

  pub literals-objects : (names : List Text) (n : ℕ) (row : Literals) → length (literals_made names n row).objects ≡ objects_in_row row
  literals-objects names n no_literals = refl
  literals-objects names n (more_literals l row) =
      let a = (literal_made names n l).objects in
      let b = (literals_made names (n + length a) row).objects in
      omega (arith, length-append a b, literal-objects names n l, literals-objects names (n + length a) row)

pub literal-bodies : (names : List Text) (n : ℕ) (l : Literal) → (literal_made names n l).bodies ≡ []
literal-bodies names n NilLiteral = refl
literal-bodies names n TrueLiteral = refl
literal-bodies names n FalseLiteral = refl
literal-bodies names n (IntegerLiteral i) = refl
literal-bodies names n (CharacterLiteral byte) = refl
literal-bodies names n (StringLiteral t) = refl
literal-bodies names n (SymbolLiteral t) = refl
literal-bodies names n (ArrayLiteral row) = refl

-- ---- receivers

abbrev pub to_super : Receiver → Bool
to_super (ToTree t) = false
to_super ToSuper = true

pub code-sent : (r : Receiver) (selector : ℕ) (args : Trees) → code (made.sent r selector args) [] ≡ code (receiver_tree r) [] ++ (code_args args [] ++ send_of (to_super r) selector (count_of args) ∷ [])
code-sent (ToTree t) selector args =
    let send : Instr = SendMessage selector (count_of args) in
    code-append t (code_args args (send ∷ [])) ∙ ap (λ is. code t [] ++ is) (args-append args (send ∷ []))
code-sent ToSuper selector args = ap (λ is. PushSelf ∷ is) (args-append args (SendSuper selector (count_of args) ∷ []))

pub code-cascaded : (r : Receiver) (sent : Messages) → code (cascaded r sent) [] ≡ code (receiver_tree r) [] ++ code_messages (send_of (to_super r)) sent []
code-cascaded (ToTree t) sent = code-append t (code_messages SendMessage sent [])
code-cascaded ToSuper sent = refl

pub super-is : (x : Context) (n : Counts) (p : NamedPrimary) → is_super p ≡ to_super (primary_made x n p).item
super-is x n (NameOf t) = refl
super-is x n SelfName = refl
super-is x n SuperName = refl
super-is x n (LiteralOf l) = refl
super-is x n (BlockOf parameters temporaries row) = refl
super-is x n (ParenOf e) = refl

pub args-count : (x : Context) (n : Counts) (row : NamedOperands) → count_of (args_made x n row).item ≡ operand_count row
args-count x n no_operands = refl
args-count x n (more_operands o row) = ap suc (args-count x (behind n (operand_made x n o)) row)

-- ---- chains

abbrev pub dup_code : Bool → List Instr
dup_code true = Dup ∷ []
dup_code false = []

abbrev pub pop_code : Bool → List Instr
pop_code true = Pop ∷ []
pop_code false = []

-- a message behind its receiver
abbrev pub message_steps : Context → Counts → (super kept : Bool) → Text → NamedOperands → List Instr
message_steps x n super kept selector args =
    dup_code kept ++ (code_args (args_made x n args).item [] ++ (send_of super (number_or_last x.names.names selector) (operand_count args) ∷ pop_code kept))

-- the messages of a chain behind their first receiver
abbrev pub chain_steps : Context → Counts → (super kept : Bool) → NamedMessages → List Instr
chain_steps x n super kept none_sent = []
chain_steps x n super kept (then_sent selector args row) =
    message_steps x n super (kept && is_one_sent row) selector args ++ chain_steps x (behind n (args_made x n args)) false kept row

abbrev pub end_steps : (super kept : Bool) → NamedMessages → List Instr
end_steps super true none_sent = Dup ∷ send_of super 0 0 ∷ Pop ∷ []
end_steps super true (then_sent selector args row) = []
end_steps super false row = []

-- the last message, where its receiver is kept
abbrev pub kept_steps : Chain → List Instr
kept_steps c = Dup ∷ (code_args c.args [] ++ (send_of (to_super c.before) c.selector (count_of c.args) ∷ Pop ∷ []))

whole-is : (x : Context) (n : Counts) (one : Chain) (row : NamedMessages) → (if is_one_sent row then one else (chain_made x n one.whole row).item).whole ≡ (chain_made x n one.whole row).item.whole
whole-is x n one none_sent = refl
whole-is x n one (then_sent selector args row) = refl

pub chain-code : (x : Context) (n : Counts) (r : Receiver) (row : NamedMessages) → code (receiver_tree r) [] ++ chain_steps x n (to_super r) false row ≡ code (receiver_tree (chain_made x n r row).item.whole) []
chain-code x n r none_sent = append-nil (code (receiver_tree r) [])
chain-code x n r (then_sent selector args row) =
    let a = args_made x n args in
    let m : ℕ = number_or_last x.names.names selector in
    let one : Chain = one_sent r m a.item in
    let rest : List Instr = chain_steps x (behind n a) false false row in
    let send : Instr = send_of (to_super r) m (operand_count args) in
    let sending : code (receiver_tree r) [] ++ (code_args a.item [] ++ send ∷ []) ≡ code (receiver_tree one.whole) [] =
    ap (λ k. code (receiver_tree r) [] ++ (code_args a.item [] ++ send_of (to_super r) m k ∷ [])) (sym (args-count x n args)) ∙ sym (code-sent r m a.item) in
    sym (append_assoc (code (receiver_tree r) []) (code_args a.item [] ++ send ∷ []) rest)
    ∙ ap (λ is. is ++ rest) sending
    ∙ chain-code x (behind n a) one.whole row
    ∙ ap (λ w. code (receiver_tree w) []) (sym (whole-is x (behind n a) one row))

-- ---- chains whose last receiver is kept

abbrev Kept : Context → Counts → Receiver → NamedMessages → Type 0
Kept x n r row =
    code (receiver_tree r) [] ++ (chain_steps x n (to_super r) true row ++ end_steps (to_super r) true row)
    ≡ code (receiver_tree (chain_made x n r row).item.before) [] ++ kept_steps (chain_made x n r row).item

kept-more : (x : Context) (n : Counts) (r : Receiver) (selector : Text) (args : NamedOperands) (row : NamedMessages)
    → Kept x (behind n (args_made x n args)) (one_sent r (number_or_last x.names.names selector) (args_made x n args).item).whole row → Kept x n r (then_sent selector args row)
kept-more x n r selector args none_sent ih =
    let a = args_made x n args in
    let m : ℕ = number_or_last x.names.names selector in
    let last : ℕ → List Instr = λ k. Dup ∷ (code_args a.item [] ++ (send_of (to_super r) m k ∷ Pop ∷ [])) in
    ap (λ is. code (receiver_tree r) [] ++ is) (append-nil (last (operand_count args) ++ []) ∙ append-nil (last (operand_count args)) ∙ ap last (sym (args-count x n args)))
kept-more x n r selector args (then_sent next others row) ih =
    let a = args_made x n args in
    let m : ℕ = number_or_last x.names.names selector in
    let send : Instr = send_of (to_super r) m (operand_count args) in
    let one : Receiver = (one_sent r m a.item).whole in
    let rest : List Instr = chain_steps x (behind n a) false true (then_sent next others row) in
    let sending : code (receiver_tree r) [] ++ (code_args a.item [] ++ send ∷ []) ≡ code (receiver_tree one) [] =
    ap (λ k. code (receiver_tree r) [] ++ (code_args a.item [] ++ send_of (to_super r) m k ∷ [])) (sym (args-count x n args)) ∙ sym (code-sent r m a.item) in
    ap (λ is. code (receiver_tree r) [] ++ is) (append_assoc (code_args a.item [] ++ send ∷ []) rest [])
    ∙ sym (append_assoc (code (receiver_tree r) []) (code_args a.item [] ++ send ∷ []) (rest ++ []))
    ∙ ap (λ is. is ++ (rest ++ [])) sending
    ∙ ih

pub kept-code : (x : Context) (n : Counts) (r : Receiver) (row : NamedMessages) → Kept x n r row
kept-code x n r none_sent = refl
kept-code x n r (then_sent selector args row) =
    kept-more x n r selector args row (kept-code x (behind n (args_made x n args)) (one_sent r (number_or_last x.names.names selector) (args_made x n args).item).whole row)

pub code-kept : (c : Chain) (s : ℕ) (a : Trees) (row : Messages) → (code (receiver_tree c.before) [] ++ kept_steps c) ++ code_messages (send_of (to_super c.before)) (more_messages s a row) [] ≡ code (with_cascade c (more_messages s a row)) []
code-kept c s a row =
    let send : Instr = send_of (to_super c.before) c.selector (count_of c.args) in
    let more : List Instr = code_messages (send_of (to_super c.before)) (more_messages s a row) [] in
    append_assoc (code (receiver_tree c.before) []) (kept_steps c) more
    ∙ ap (λ is. code (receiver_tree c.before) [] ++ (Dup ∷ is)) (append_assoc (code_args c.args []) (send ∷ Pop ∷ []) more ∙ sym (args-append c.args (send ∷ Pop ∷ more)))
    ∙ sym (code-cascaded c.before (more_messages c.selector c.args (more_messages s a row)))

-- ---- whether a cascade goes to `super`

before-more : (x : Context) (n : Counts) (t : Tree) (selector : Text) (args : NamedOperands) (row : NamedMessages)
    → to_super (chain_made x (behind n (args_made x n args)) (ToTree (made.sent (ToTree t) (number_or_last x.names.names selector) (args_made x n args).item)) row).item.before ≡ false
    → to_super (chain_made x n (ToTree t) (then_sent selector args row)).item.before ≡ false
before-more x n t selector args none_sent ih = refl
before-more x n t selector args (then_sent next others row) ih = ih

before-plain : (x : Context) (n : Counts) (t : Tree) (row : NamedMessages) → to_super (chain_made x n (ToTree t) row).item.before ≡ false
before-plain x n t none_sent = refl
before-plain x n t (then_sent selector args row) =
    before-more x n t selector args row (before-plain x (behind n (args_made x n args)) (made.sent (ToTree t) (number_or_last x.names.names selector) (args_made x n args).item) row)

and-true : (b : Bool) → (b && true) ≡ b
and-true true = refl
and-true false = refl

and-false : (b : Bool) → (b && false) ≡ false
and-false true = refl
and-false false = refl

pub direct-is : (x : Context) (n : Counts) (b : Bool) (r : Receiver) (row : NamedMessages) → b ≡ to_super r → (b && is_short row) ≡ to_super (chain_made x n r row).item.before
direct-is x n b r none_sent is = and-true b ∙ is
direct-is x n b r (then_sent selector args none_sent) is = and-true b ∙ is
direct-is x n b r (then_sent selector args (then_sent next others row)) is =
    and-false b ∙ sym (before-plain x (behind n (args_made x n args)) (made.sent r (number_or_last x.names.names selector) (args_made x n args).item) (then_sent next others row))

-- ---- the messages of a cascade

pub cascade-code : (x : Context) (n : Counts) (super : Bool) (selector : Text) (args : NamedOperands) (row : NamedMessages)
    → message_steps x n super (not (is_one_sent row)) selector args ++ code_messages (send_of super) (messages_made x (behind n (args_made x n args)) row).item []
    ≡ code_messages (send_of super) (messages_made x n (then_sent selector args row)).item []
cascade-code x n super selector args none_sent =
    let a = args_made x n args in
    let m : ℕ = number_or_last x.names.names selector in
    append-nil (code_args a.item [] ++ send_of super m (operand_count args) ∷ [])
    ∙ ap (λ k. code_args a.item [] ++ send_of super m k ∷ []) (sym (args-count x n args)) ∙ sym (args-append a.item (send_of super m (count_of a.item) ∷ []))
cascade-code x n super selector args (then_sent next others row) =
    let a = args_made x n args in
    let m : ℕ = number_or_last x.names.names selector in
    let more : List Instr = code_messages (send_of super) (messages_made x (behind n a) (then_sent next others row)).item [] in
    ap (λ is. Dup ∷ is) (append_assoc (code_args a.item []) (send_of super m (operand_count args) ∷ Pop ∷ []) more
    ∙ ap (λ k. code_args a.item [] ++ (send_of super m k ∷ Pop ∷ more)) (sym (args-count x n args)) ∙ sym (args-append a.item (send_of super m (count_of a.item) ∷ Pop ∷ more)))

-- ---- assignments

pub code-assigned : (x : Context) (ts : List Text) (t : Tree) (rest : List Instr) → code (assigned x ts t) rest ≡ code t (stores x ts ++ rest)
code-assigned x [] t rest = refl
code-assigned x (n ∷ ts) t rest =
    let store : Instr = Store (place_of (named x n)) in
    code-assigned x ts t (store ∷ rest) ∙ ap (code t) (sym (append_assoc (stores x ts) (store ∷ []) rest))

-- ---- statements

abbrev pub rest_code : Status → Kind → List Statement → List Instr
rest_code status.Empty kind ss = code_body kind ss
rest_code status.Open kind [] = end_code kind
rest_code status.Open kind (s ∷ ss) = Pop ∷ code_on kind s ss
rest_code status.Closed kind ss = []
