-- What is made of a tree under other counts and names is what is made of it, renamed.
use Rattle.std.proofs.Common.{◌≡◌, ℕ, suc, ◌+◌, ◌<◌, List, [], ◌∷◌, ◌++◌, map, length, Some, None, Bool, true, false, refl, sym, ap, ◌∙◌, subst, arith, append_assoc, if◌then◌else◌}
use Rattle.std.proofs.lemmas.List.{map-append, length-map, length-append}
use Rattle.object_heap.specs.declared.value.Value.{Value}
use Rattle.object_heap.specs.declared.value.Value.TheVariants.{Symbol, Object}
use Rattle.object_heap.specs.Store.{Object as HeapObject}
use Rattle.st_code.specs.Texts.{Text}
use Rattle.st_code.specs.Program.{Tree, Constant, Block, Trees, no_trees, more_trees, Messages, no_messages, more_messages, Statement, Plain, Return, InBlock, Body}
use Rattle.st_code.specs.Named.{Literal, NilLiteral, TrueLiteral, FalseLiteral, IntegerLiteral, CharacterLiteral, StringLiteral, SymbolLiteral, ArrayLiteral, Literals, no_literals, more_literals, NamedPrimary, NameOf, SelfName, SuperName, LiteralOf, BlockOf, ParenOf, NamedOperand, OperandOf, NamedOperands, no_operands, more_operands, NamedMessages, none_sent, then_sent, NamedExpr, ExprOf, NamedStatements, no_statements, more_statements}
use Rattle.st_code.specs.Resolved.{Made, plain_made, both, mapped, behind, Counts, Context, Receiver, ToTree, ToSuper, Chain, one_sent, is_one_sent, receiver_tree, cascaded, with_cascade, inside, body_made, captured_of, assigned, literal_made, literals_made, primary_made, chain_made, messages_made, args_made, operand_made, expr_made, statements_made, number_or_last, array_made, read_only}
use Rattle.law_shake.specs.Renaming.{Renaming, object, ren, rens, ren_object, ren_code, ren_tree, ren_trees, ren_messages, ren_statement}
use Rattle.program_image.specs.Spelled.{literal_texts, literals_texts, primary_texts, operand_texts, operands_texts, messages_texts, expr_texts, statements_texts}
use Rattle.law_shake.specs.Making.{ren_made, ren_receiver, ren_chain, ren_context, Agrees, Named}
use Rattle.st_shake.proofs.Texts.{has_before, has_behind, has_itself}
use Rattle.law_shake.proofs.Meanings.{name_ren, assigned_ren, context_class}

module _ (x : Renaming) (names names' : List Text) (zero_same : x.symbol 0 ≡ 0) where
  abbrev N : List Text → Type 0
  N texts = Named x names names' texts

  named_before : (ts us : List Text) → N (ts ++ us) → N ts
  named_before ts us h = record { symbol = λ t g. h.symbol t (has_before ts us t g) }

  named_behind : (ts us : List Text) → N (ts ++ us) → N us
  named_behind ts us h = record { symbol = λ t g. h.symbol t (has_behind ts us t g) }

  named_rest : (t : Text) (ts : List Text) → N (t ∷ ts) → N ts
  named_rest t ts h = named_behind (t ∷ []) ts h

  named_first : (t : Text) (ts : List Text) → N (t ∷ ts) → x.symbol (number_or_last names t) ≡ number_or_last names' t
  named_first t ts h = h.symbol t (has_itself t ts)

  -- ---- one behind the other

  module _ {A B C A' B' C' : Type 0} (f : A → B → C) (f' : A' → B' → C') (R : A → A') (S : B → B') (U : C → C') (law : (a : A) (b : B) → f' (R a) (S b) ≡ U (f a b)) where
    both_ren : (a : Made A) (b : Made B) → both f' (ren_made x R a) (ren_made x S b) ≡ ren_made x U (both f a b)
    both_ren a b =
        ap (λ i. record { item = i; bodies = map (ren_code x) a.bodies ++ map (ren_code x) b.bodies; objects = map (ren_object x) a.objects ++ map (ren_object x) b.objects }) (law a.item b.item)
        ∙ ap (λ bs. record { item = U (f a.item b.item); bodies = bs; objects = map (ren_object x) a.objects ++ map (ren_object x) b.objects }) (sym (map-append (ren_code x) a.bodies b.bodies))
        ∙ ap (λ os. record { item = U (f a.item b.item); bodies = map (ren_code x) (a.bodies ++ b.bodies); objects = os }) (sym (map-append (ren_object x) a.objects b.objects))

  agrees_before : (n m : Counts) (bs cs : List Body) (os qs : List HeapObject) → Agrees x n m (length (bs ++ cs)) (length (os ++ qs)) → Agrees x n m (length bs) (length os)
  agrees_before n m bs cs os qs h =
      record {
        code = λ k l. h.code k (let e = length-append bs cs in omega arith);
        literal = λ k l. h.literal k (let e = length-append os qs in omega arith);
      }

  agrees_behind : {A A' : Type 0} (R : A → A') (n m : Counts) (a : Made A) (cs : List Body) (qs : List HeapObject) → Agrees x n m (length (a.bodies ++ cs)) (length (a.objects ++ qs)) → Agrees x (behind n a) (behind m (ren_made x R a)) (length cs) (length qs)
  agrees_behind R n m a cs qs h =
      record {
        code = λ k l.
            let e = length-append a.bodies cs in
            let d = length-map a.bodies (ren_code x) in
            let i : n.bodies + length a.bodies + k ≡ n.bodies + (length a.bodies + k) = omega arith in
            let j : m.bodies + (length a.bodies + k) ≡ m.bodies + length (map (ren_code x) a.bodies) + k = omega (arith, d) in
            ap x.code i ∙ h.code (length a.bodies + k) (omega (arith, e, l)) ∙ j;
        literal = λ k l.
            let e = length-append a.objects qs in
            let d = length-map a.objects (ren_object x) in
            let i : n.objects + length a.objects + k ≡ n.objects + (length a.objects + k) = omega arith in
            let j : m.objects + (length a.objects + k) ≡ m.objects + length (map (ren_object x) a.objects) + k = omega (arith, d) in
            ap (object x) i ∙ h.literal (length a.objects + k) (omega (arith, e, l)) ∙ j;
      }

  -- ---- literals

  -- objects alone: so many from here on
  abbrev Stand : ℕ → ℕ → ℕ → Type 0
  Stand n m count = (k : ℕ) → k < count → object x (n + k) ≡ m + k

  stand_first : (n m count : ℕ) → Stand n m (suc count) → object x n ≡ m
  stand_first n m count s = let i : n ≡ n + 0 = omega arith in let j : m + 0 ≡ m = omega arith in ap (object x) i ∙ s 0 (omega arith) ∙ j

  stand_rest : (n m count : ℕ) → Stand n m (suc count) → Stand (suc n) (suc m) count
  stand_rest n m count s = λ k l. let i : suc n + k ≡ n + suc k = omega arith in let j : m + suc k ≡ suc m + k = omega arith in ap (object x) i ∙ s (suc k) (omega (arith, l)) ∙ j

  stand_before : (n m : ℕ) (os qs : List HeapObject) → Stand n m (length (os ++ qs)) → Stand n m (length os)
  stand_before n m os qs s = λ k l. s k (let e = length-append os qs in omega arith)

  stand_behind : (n m : ℕ) (os qs : List HeapObject) → Stand n m (length (os ++ qs)) → Stand (n + length os) (m + length (map (ren_object x) os)) (length qs)
  stand_behind n m os qs s = λ k l.
      let e = length-append os qs in
      let d = length-map os (ren_object x) in
      let i : n + length os + k ≡ n + (length os + k) = omega arith in
      let j : m + (length os + k) ≡ m + length (map (ren_object x) os) + k = omega (arith, d) in
      ap (object x) i ∙ s (length os + k) (omega (arith, e, l)) ∙ j

  abbrev RL : Made Value → Made Value
  RL a = ren_made x (ren x) a

  abbrev RLs : Made (List Value) → Made (List Value)
  RLs a = ren_made x (rens x) a

  array_ren : (n m : ℕ) (a : Made (List Value)) → object x n ≡ m → array_made m (RLs a) ≡ RL (array_made n a)
  array_ren n m a e =
      ap (λ k. array_made k (RLs a)) (sym e)
      ∙ ap (λ k. record { item = Object (object x n); bodies = []; objects = record { class = 11; slots = rens x a.item; bytes = []; capacity = k; read_only = true; closure = None } ∷ map (ren_object x) a.objects }) (length-map a.item (ren x))

  mutual
    literal_ren : (n m : ℕ) (l : Literal) → Stand n m (length (literal_made names n l).objects) → N (literal_texts l) → literal_made names' m l ≡ RL (literal_made names n l)
    literal_ren n m NilLiteral s h = refl
    literal_ren n m TrueLiteral s h = refl
    literal_ren n m FalseLiteral s h = refl
    literal_ren n m (IntegerLiteral i) s h = refl
    literal_ren n m (CharacterLiteral b) s h = refl
    literal_ren n m (StringLiteral t) s h = ap (λ k. record { item = Object k; bodies = []; objects = read_only 9 [] t ∷ [] }) (sym (stand_first n m 0 s))
    literal_ren n m (SymbolLiteral t) s h = ap (λ k. plain_made (Symbol k)) (sym (named_first t [] h))
    literal_ren n m (ArrayLiteral row) s h =
        ap (array_made m) (literals_ren (suc n) (suc m) row (stand_rest n m _ s) h)
        ∙ array_ren n m (literals_made names (suc n) row) (stand_first n m _ s)

    literals_ren : (n m : ℕ) (row : Literals) → Stand n m (length (literals_made names n row).objects) → N (literals_texts row) → literals_made names' m row ≡ RLs (literals_made names n row)
    literals_ren n m no_literals s h = refl
    literals_ren n m (more_literals l row) s h =
        let a = literal_made names n l in
        let b = literals_made names (n + length a.objects) row in
        ap (λ u. both (λ v vs. v ∷ vs) u (literals_made names' (m + length u.objects) row)) (literal_ren n m l (stand_before n m a.objects b.objects s) (named_before (literal_texts l) (literals_texts row) h))
        ∙ ap (λ w. both (λ v vs. v ∷ vs) (RL a) w) (literals_ren (n + length a.objects) (m + length (map (ren_object x) a.objects)) row (stand_behind n m a.objects b.objects s) (named_behind (literal_texts l) (literals_texts row) h))
        ∙ both_ren (λ v vs. v ∷ vs) (λ v vs. v ∷ vs) (ren x) (rens x) (rens x) (λ v vs. refl) a b

  -- ---- expressions

  abbrev X : Context → Context
  X c = ren_context x names' c

  abbrev Rec : Made Receiver → Made Receiver
  Rec a = ren_made x (ren_receiver x) a

  abbrev Cha : Made Chain → Made Chain
  Cha a = ren_made x (ren_chain x) a

  abbrev Mes : Made Messages → Made Messages
  Mes a = ren_made x (ren_messages x) a

  abbrev Arg : Made Trees → Made Trees
  Arg a = ren_made x (ren_trees x) a

  abbrev Tre : Made Tree → Made Tree
  Tre a = ren_made x (ren_tree x) a

  abbrev Sta : Made (List Statement) → Made (List Statement)
  Sta a = ren_made x (λ ss. map (ren_statement x) ss) a

  one_ren : (r : Receiver) (selector selector' : ℕ) (args : Trees) → x.symbol selector ≡ selector' → one_sent (ren_receiver x r) selector' (ren_trees x args) ≡ ren_chain x (one_sent r selector args)
  one_ren (ToTree t) selector selector' args e = ap (λ k. one_sent (ToTree (ren_tree x t)) k (ren_trees x args)) (sym e)
  one_ren ToSuper selector selector' args e = ap (λ k. one_sent ToSuper k (ren_trees x args)) (sym e)

  whole_ren : (r : Receiver) → ren_tree x (receiver_tree r) ≡ receiver_tree (ren_receiver x r)
  whole_ren (ToTree t) = refl
  whole_ren ToSuper = refl

  cascade_ren : (c : Chain) (ms : Messages) → with_cascade (ren_chain x c) (ren_messages x ms) ≡ ren_tree x (with_cascade c ms)
  cascade_ren c no_messages = sym (whole_ren c.whole)
  cascade_ren c (more_messages selector args row) = by c.before
    where
      by : (r : Receiver) → cascaded (ren_receiver x r) (more_messages (x.symbol c.selector) (ren_trees x c.args) (more_messages (x.symbol selector) (ren_trees x args) (ren_messages x row))) ≡ ren_tree x (cascaded r (more_messages c.selector c.args (more_messages selector args row)))
      by (ToTree t) = refl
      by ToSuper = refl

  chain_if : (b : Bool) (c d : Chain) → (if b then ren_chain x c else ren_chain x d) ≡ ren_chain x (if b then c else d)
  chain_if true c d = refl
  chain_if false c d = refl

  -- a chain of a message and those behind it
  abbrev joined : Bool → Chain → Made Trees → Made Chain → Made Chain
  joined b o u w = record { item = if b then o else w.item; bodies = u.bodies ++ w.bodies; objects = u.objects ++ w.objects }

  abbrev whole_expr : (Tree → Tree) → Made Receiver → Made Chain → Made Messages → Made Tree
  whole_expr f u w z = both (λ i ms. f (with_cascade i ms)) (both (λ r i. i) u w) z

  agrees_as : (n m : Counts) (b b' o o' : ℕ) → b ≡ b' → o ≡ o' → Agrees x n m b o → Agrees x n m b' o'
  agrees_as n m b b' o o' e f h = record { code = λ k l. h.code k (omega (arith, e, l)); literal = λ k l. h.literal k (omega (arith, f, l)) }

  statement_if : (b : Bool) (t : Tree) (ss : List Statement) → (if b then Return (ren_tree x t) else Plain (ren_tree x t)) ∷ map (ren_statement x) ss ≡ map (ren_statement x) ((if b then Return t else Plain t) ∷ ss)
  statement_if true t ss = refl
  statement_if false t ss = refl

  stand_of : (n m : Counts) (b o : ℕ) → Agrees x n m b o → Stand n.objects m.objects o
  stand_of n m b o h = h.literal

  pub first_code : (n m : Counts) (b o : ℕ) → Agrees x n m (suc b) o → x.code n.bodies ≡ m.bodies
  first_code n m b o h = let i : n.bodies ≡ n.bodies + 0 = omega arith in let j : m.bodies + 0 ≡ m.bodies = omega arith in ap x.code i ∙ h.code 0 (omega arith) ∙ j

  pub next_codes : (n m : Counts) (b o : ℕ) → Agrees x n m (suc b) o → Agrees x (record { bodies = suc n.bodies; objects = n.objects }) (record { bodies = suc m.bodies; objects = m.objects }) b o
  next_codes n m b o h =
      record {
        code = λ k l. let i : suc n.bodies + k ≡ n.bodies + suc k = omega arith in let j : m.bodies + suc k ≡ suc m.bodies + k = omega arith in ap x.code i ∙ h.code (suc k) (omega (arith, l)) ∙ j;
        literal = h.literal;
      }

  block_ren : (c : Context) (n m : Counts) (parameters variables : List Text) (row : NamedStatements) (a : Made (List Statement)) → x.code n.bodies ≡ m.bodies →
      record { item = ToTree (Block m.bodies); bodies = body_made InBlock (X c) (Some (X c).code) parameters variables row (Sta a); objects = (Sta a).objects } ≡ Rec (record { item = ToTree (Block n.bodies); bodies = body_made InBlock c (Some c.code) parameters variables row a; objects = a.objects })
  block_ren c n m parameters variables row a e =
      ap (λ k. record { item = ToTree (Block k); bodies = body_made InBlock (X c) (Some (X c).code) parameters variables row (Sta a); objects = (Sta a).objects }) (sym e)
      ∙ ap (λ v. record { item = ToTree (Block (x.code n.bodies)); bodies = record { kind = InBlock; class = v; parameters = length parameters; captured = captured_of variables row; outer = Some (x.code c.code); statements = map (ren_statement x) a.item } ∷ map (ren_code x) a.bodies; objects = map (ren_object x) a.objects }) (sym (context_class x names' c))

  mutual
    primary_made_ren : (c : Context) (n m : Counts) (q : NamedPrimary) → Agrees x n m (length (primary_made c n q).bodies) (length (primary_made c n q).objects) → N (primary_texts q) → c.names.names ≡ names → primary_made (X c) m q ≡ Rec (primary_made c n q)
    primary_made_ren c n m (NameOf t) s h e = ap (λ u. plain_made (ToTree u)) (name_ren x names' c t)
    primary_made_ren c n m SelfName s h e = refl
    primary_made_ren c n m SuperName s h e = refl
    primary_made_ren c n m (LiteralOf l) s h e =
        ap (mapped (λ v. ToTree (Constant v))) (literal_ren n.objects m.objects l (λ k g. s.literal k (subst (λ ns. k < length (literal_made ns n.objects l).objects) (sym e) g)) h)
        ∙ ap (λ ns. mapped (λ v. ToTree (Constant v)) (RL (literal_made ns n.objects l))) (sym e)
    primary_made_ren c n m (BlockOf parameters temporaries row) s h e =
        let variables = parameters ++ temporaries in
        let d = inside c n.bodies variables in
        let a = statements_made d (record { bodies = suc n.bodies; objects = n.objects }) row in
        let f = first_code n m (length a.bodies) (length a.objects) s in
        ap (λ k. let a' = statements_made (record (X c) { code = k; scopes = variables ∷ c.scopes }) (record { bodies = suc m.bodies; objects = m.objects }) row in record { item = ToTree (Block m.bodies); bodies = body_made InBlock (X c) (Some (X c).code) parameters variables row a'; objects = a'.objects }) (sym f)
        ∙ ap (λ a'. record { item = ToTree (Block m.bodies); bodies = body_made InBlock (X c) (Some (X c).code) parameters variables row a'; objects = a'.objects }) (statements_made_ren d (record { bodies = suc n.bodies; objects = n.objects }) (record { bodies = suc m.bodies; objects = m.objects }) row (next_codes n m (length a.bodies) (length a.objects) s) h e)
        ∙ block_ren c n m parameters variables row a f
    primary_made_ren c n m (ParenOf y) s h e = ap (mapped ToTree) (expr_made_ren c n m y s h e)

    chain_made_ren : (c : Context) (n m : Counts) (r : Receiver) (ms : NamedMessages) → Agrees x n m (length (chain_made c n r ms).bodies) (length (chain_made c n r ms).objects) → N (messages_texts ms) → c.names.names ≡ names → chain_made (X c) m (ren_receiver x r) ms ≡ Cha (chain_made c n r ms)
    chain_made_ren c n m r none_sent s h e = ap (λ k. plain_made (record { whole = ren_receiver x r; before = ren_receiver x r; selector = k; args = no_trees })) (sym zero_same)
    chain_made_ren c n m r (then_sent selector args row) s h e =
        let a = args_made c n args in
        let k = number_or_last c.names.names selector in
        let one = one_sent r k a.item in
        let b = chain_made c (behind n a) one.whole row in
        let same : x.symbol k ≡ number_or_last names' selector = ap (λ ns. x.symbol (number_or_last ns selector)) e ∙ named_first selector (operands_texts args ++ messages_texts row) h in
        ap (λ u. let o = one_sent (ren_receiver x r) (number_or_last names' selector) u.item in joined (is_one_sent row) o u (chain_made (X c) (behind m u) o.whole row)) (args_made_ren c n m args (agrees_before n m a.bodies b.bodies a.objects b.objects s) (named_before (operands_texts args) (messages_texts row) (named_rest selector (operands_texts args ++ messages_texts row) h)) e)
        ∙ ap (λ o. joined (is_one_sent row) o (Arg a) (chain_made (X c) (behind m (Arg a)) o.whole row)) (one_ren r k (number_or_last names' selector) a.item same)
        ∙ ap (λ w. joined (is_one_sent row) (ren_chain x one) (Arg a) w) (chain_made_ren c (behind n a) (behind m (Arg a)) one.whole row (agrees_behind (ren_trees x) n m a b.bodies b.objects s) (named_behind (operands_texts args) (messages_texts row) (named_rest selector (operands_texts args ++ messages_texts row) h)) e)
        ∙ both_ren (λ ts w. if is_one_sent row then one else w) (λ ts w. if is_one_sent row then ren_chain x one else w) (ren_trees x) (ren_chain x) (ren_chain x) (λ ts w. chain_if (is_one_sent row) one w) a b

    messages_made_ren : (c : Context) (n m : Counts) (ms : NamedMessages) → Agrees x n m (length (messages_made c n ms).bodies) (length (messages_made c n ms).objects) → N (messages_texts ms) → c.names.names ≡ names → messages_made (X c) m ms ≡ Mes (messages_made c n ms)
    messages_made_ren c n m none_sent s h e = refl
    messages_made_ren c n m (then_sent selector args row) s h e =
        let a = args_made c n args in
        let k = number_or_last c.names.names selector in
        let k' = number_or_last names' selector in
        let b = messages_made c (behind n a) row in
        let same : x.symbol k ≡ k' = ap (λ ns. x.symbol (number_or_last ns selector)) e ∙ named_first selector (operands_texts args ++ messages_texts row) h in
        ap (λ u. both (λ ts ms. more_messages k' ts ms) u (messages_made (X c) (behind m u) row)) (args_made_ren c n m args (agrees_before n m a.bodies b.bodies a.objects b.objects s) (named_before (operands_texts args) (messages_texts row) (named_rest selector (operands_texts args ++ messages_texts row) h)) e)
        ∙ ap (λ w. both (λ ts ms. more_messages k' ts ms) (Arg a) w) (messages_made_ren c (behind n a) (behind m (Arg a)) row (agrees_behind (ren_trees x) n m a b.bodies b.objects s) (named_behind (operands_texts args) (messages_texts row) (named_rest selector (operands_texts args ++ messages_texts row) h)) e)
        ∙ both_ren (λ ts ms. more_messages k ts ms) (λ ts ms. more_messages k' ts ms) (ren_trees x) (ren_messages x) (ren_messages x) (λ ts ms. ap (λ i. more_messages i (ren_trees x ts) (ren_messages x ms)) (sym same)) a b

    args_made_ren : (c : Context) (n m : Counts) (row : NamedOperands) → Agrees x n m (length (args_made c n row).bodies) (length (args_made c n row).objects) → N (operands_texts row) → c.names.names ≡ names → args_made (X c) m row ≡ Arg (args_made c n row)
    args_made_ren c n m no_operands s h e = refl
    args_made_ren c n m (more_operands o row) s h e =
        let a = operand_made c n o in
        let b = args_made c (behind n a) row in
        ap (λ u. both (λ t ts. more_trees t ts) u (args_made (X c) (behind m u) row)) (operand_made_ren c n m o (agrees_before n m a.bodies b.bodies a.objects b.objects s) (named_before (operand_texts o) (operands_texts row) h) e)
        ∙ ap (λ w. both (λ t ts. more_trees t ts) (Tre a) w) (args_made_ren c (behind n a) (behind m (Tre a)) row (agrees_behind (ren_tree x) n m a b.bodies b.objects s) (named_behind (operand_texts o) (operands_texts row) h) e)
        ∙ both_ren (λ t ts. more_trees t ts) (λ t ts. more_trees t ts) (ren_tree x) (ren_trees x) (ren_trees x) (λ t ts. refl) a b

    operand_made_ren : (c : Context) (n m : Counts) (o : NamedOperand) → Agrees x n m (length (operand_made c n o).bodies) (length (operand_made c n o).objects) → N (operand_texts o) → c.names.names ≡ names → operand_made (X c) m o ≡ Tre (operand_made c n o)
    operand_made_ren c n m (OperandOf primary chain) s h e =
        let a = primary_made c n primary in
        let b = chain_made c (behind n a) a.item chain in
        ap (λ u. both (λ r k. receiver_tree k.whole) u (chain_made (X c) (behind m u) u.item chain)) (primary_made_ren c n m primary (agrees_before n m a.bodies b.bodies a.objects b.objects s) (named_before (primary_texts primary) (messages_texts chain) h) e)
        ∙ ap (λ w. both (λ r k. receiver_tree k.whole) (Rec a) w) (chain_made_ren c (behind n a) (behind m (Rec a)) a.item chain (agrees_behind (ren_receiver x) n m a b.bodies b.objects s) (named_behind (primary_texts primary) (messages_texts chain) h) e)
        ∙ both_ren (λ r k. receiver_tree k.whole) (λ r k. receiver_tree k.whole) (ren_receiver x) (ren_chain x) (ren_tree x) (λ r k. sym (whole_ren k.whole)) a b

    expr_made_ren : (c : Context) (n m : Counts) (y : NamedExpr) → Agrees x n m (length (expr_made c n y).bodies) (length (expr_made c n y).objects) → N (expr_texts y) → c.names.names ≡ names → expr_made (X c) m y ≡ Tre (expr_made c n y)
    expr_made_ren c n m (ExprOf targets (OperandOf primary chain) cascade) s h e =
        let a = primary_made c n primary in
        let k = chain_made c (behind n a) a.item chain in
        let j = messages_made c (behind (behind n a) k) cascade in
        let f : Tree → Tree = λ t. assigned c targets t in
        let f' : Tree → Tree = λ t. assigned (X c) targets t in
        let s' = agrees_as n m _ _ _ _ (ap length (append_assoc a.bodies k.bodies j.bodies)) (ap length (append_assoc a.objects k.objects j.objects)) s in
        let sk = agrees_behind (ren_receiver x) n m a (k.bodies ++ j.bodies) (k.objects ++ j.objects) s' in
        let hk = named_before (primary_texts primary ++ messages_texts chain) (messages_texts cascade) h in
        ap (λ u. let w = chain_made (X c) (behind m u) u.item chain in whole_expr f' u w (messages_made (X c) (behind (behind m u) w) cascade)) (primary_made_ren c n m primary (agrees_before n m a.bodies (k.bodies ++ j.bodies) a.objects (k.objects ++ j.objects) s') (named_before (primary_texts primary) (messages_texts chain) hk) e)
        ∙ ap (λ w. whole_expr f' (Rec a) w (messages_made (X c) (behind (behind m (Rec a)) w) cascade)) (chain_made_ren c (behind n a) (behind m (Rec a)) a.item chain (agrees_before (behind n a) (behind m (Rec a)) k.bodies j.bodies k.objects j.objects sk) (named_behind (primary_texts primary) (messages_texts chain) hk) e)
        ∙ ap (λ z. whole_expr f' (Rec a) (Cha k) z) (messages_made_ren c (behind (behind n a) k) (behind (behind m (Rec a)) (Cha k)) cascade (agrees_behind (ren_chain x) (behind n a) (behind m (Rec a)) k j.bodies j.objects sk) (named_behind (primary_texts primary ++ messages_texts chain) (messages_texts cascade) h) e)
        ∙ ap (λ w. both (λ i ms. f' (with_cascade i ms)) w (Mes j)) (both_ren (λ r i. i) (λ r i. i) (ren_receiver x) (ren_chain x) (ren_chain x) (λ r i. refl) a k)
        ∙ both_ren (λ i ms. f (with_cascade i ms)) (λ i ms. f' (with_cascade i ms)) (ren_chain x) (ren_messages x) (ren_tree x) (λ i ms. ap f' (cascade_ren i ms) ∙ assigned_ren x names' c targets (with_cascade i ms)) (both (λ r i. i) a k) j

    pub statements_made_ren : (c : Context) (n m : Counts) (row : NamedStatements) → Agrees x n m (length (statements_made c n row).bodies) (length (statements_made c n row).objects) → N (statements_texts row) → c.names.names ≡ names → statements_made (X c) m row ≡ Sta (statements_made c n row)
    statements_made_ren c n m no_statements s h e = refl
    statements_made_ren c n m (more_statements returns y row) s h e =
        let a = expr_made c n y in
        let b = statements_made c (behind n a) row in
        ap (λ u. both (λ t ss. (if returns then Return t else Plain t) ∷ ss) u (statements_made (X c) (behind m u) row)) (expr_made_ren c n m y (agrees_before n m a.bodies b.bodies a.objects b.objects s) (named_before (expr_texts y) (statements_texts row) h) e)
        ∙ ap (λ w. both (λ t ss. (if returns then Return t else Plain t) ∷ ss) (Tre a) w) (statements_made_ren c (behind n a) (behind m (Tre a)) row (agrees_behind (ren_tree x) n m a b.bodies b.objects s) (named_behind (expr_texts y) (statements_texts row) h) e)
        ∙ both_ren (λ t ss. (if returns then Return t else Plain t) ∷ ss) (λ t ss. (if returns then Return t else Plain t) ∷ ss) (ren_tree x) (λ ss. map (ren_statement x) ss) (λ ss. map (ren_statement x) ss) (λ t ss. statement_if returns t ss) a b
