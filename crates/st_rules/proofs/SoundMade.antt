-- What resolution makes of the trees of a file is as a compilable program's, a law for each form of tree.
use Rattle.std.proofs.Common.{◌≡◌, ℕ, suc, ◌+◌, List, [], ◌∷◌, ◌++◌, map, length, get_or, Option, Some, None, Bool, true, false, refl, sym, ap, ◌∙◌, subst, arith, true≢false, if◌then◌else◌}
use Rattle.std.proofs.lemmas.List.{length-map, length-append}
use Rattle.st_code.specs.Texts.{Text, same_text}
use Rattle.st_code.specs.Program.{Program, Place, Shared, Tree, Constant, Self, Variable, Assign, Send, SuperSend, Cascade, SuperCascade, Trees, Messages, no_messages, more_messages, Statement, Plain, Return, InBlock, Body as BodyRow, body_at}
use Rattle.st_code.specs.Named.{Literal, NilLiteral, TrueLiteral, FalseLiteral, IntegerLiteral, CharacterLiteral, StringLiteral, SymbolLiteral, ArrayLiteral, NamedPrimary, NameOf, SelfName, SuperName, LiteralOf, BlockOf, ParenOf, NamedOperand, OperandOf, NamedOperands, no_operands, more_operands, NamedMessages, none_sent, then_sent, NamedExpr, ExprOf, NamedStatements, no_statements, more_statements}
use Rattle.st_code.specs.Resolved.{number_or_last, has_text, named_primary, named_operand, named_operands, named_messages, named_expr, named_statements, captured_of, Meant, At, Value', Made, literal_made, Context, Counts, behind, body_made, inside, Receiver, ToTree, ToSuper, Chain as Sent, primary_made, chain_made, messages_made, args_made, operand_made, expr_made, statements_made, meant}
use Rattle.st_code.specs.Compiled.{constant_value, constant_of}
use Rattle.st_rules.specs.Compilable.{Named}
use Rattle.st_rules.proofs.SoundTrees.{TreeSound, TreesSound, MessagesSound, StatementsSound, body_sound, AllBodies, Sits, bodies_append, sits_left, sits_right}
use Rattle.st_rules.proofs.SoundNames.{Has, same_is, has_left, has_right, same_itself, found, not_found, MeantSound, Chain, Caught, Beyond, name_sound}

-- ---- names that stand in blocks stand in the whole

abbrev out_of : List Text → List Text → List Text
out_of [] out = []
out_of (t ∷ ts) out = elim (has_text out t) [ true ↦ out_of ts out | false ↦ t ∷ out_of ts out ]

abbrev Within : List Text → List Text → Type 0
Within xs ys = (t : Text) → Has xs t → Has ys t

has_split : (xs ys zs : List Text) → Within xs zs → Within ys zs → Within (xs ++ ys) zs
has_split [] ys zs h i t e = i t e
has_split (x ∷ xs) ys zs h i t e = go (same_text x t) refl e (has_split xs ys zs (λ u k. h u (has_right (x ∷ []) xs u k)) i t)
  where
    go : (b : Bool) → same_text x t ≡ b → elim b [ true ↦ true | false ↦ has_text (xs ++ ys) t ] ≡ true → (Has (xs ++ ys) t → Has zs t) → Has zs t
    go true s e on = h t (ap (λ b. elim b [ true ↦ true | false ↦ has_text xs t ]) s)
    go false s e on = on e

within_both : (xs xs' ys ys' : List Text) → Within xs ys → Within xs' ys' → Within (xs ++ xs') (ys ++ ys')
within_both xs xs' ys ys' h i = has_split xs xs' (ys ++ ys') (λ t e. has_left ys ys' t (h t e)) (λ t e. has_right ys ys' t (i t e))

none_within : (ys : List Text) → Within [] ys
none_within ys t e = let none : ⊥ = grind (arith, e) in absurd none

mutual
  primary_within : (q : NamedPrimary) → Within (named_primary false q) (named_primary true q)
  primary_within (NameOf t) = none_within (t ∷ [])
  primary_within SelfName = none_within []
  primary_within SuperName = none_within []
  primary_within (LiteralOf l) = none_within []
  primary_within (BlockOf parameters temporaries row) = λ t e. e
  primary_within (ParenOf e) = expr_within e

  operand_within : (o : NamedOperand) → Within (named_operand false o) (named_operand true o)
  operand_within (OperandOf primary chain) = within_both (named_primary false primary) (named_messages false chain) (named_primary true primary) (named_messages true chain) (primary_within primary) (messages_within chain)

  operands_within : (row : NamedOperands) → Within (named_operands false row) (named_operands true row)
  operands_within no_operands = none_within []
  operands_within (more_operands o row) = within_both (named_operand false o) (named_operands false row) (named_operand true o) (named_operands true row) (operand_within o) (operands_within row)

  messages_within : (row : NamedMessages) → Within (named_messages false row) (named_messages true row)
  messages_within none_sent = none_within []
  messages_within (then_sent selector args row) = within_both (named_operands false args) (named_messages false row) (named_operands true args) (named_messages true row) (operands_within args) (messages_within row)

  expr_within : (e : NamedExpr) → Within (named_expr false e) (named_expr true e)
  expr_within (ExprOf targets o cascade) =
      within_both (named_operand false o) (named_messages false cascade) (targets ++ named_operand true o) (named_messages true cascade)
      (λ t e. has_right targets (named_operand true o) t (operand_within o t e)) (messages_within cascade)

pub statements_within : (row : NamedStatements) → Within (named_statements false row) (named_statements true row)
statements_within no_statements = none_within []
statements_within (more_statements returns e row) = within_both (named_expr false e) (named_statements false row) (named_expr true e) (named_statements true row) (expr_within e) (statements_within row)

without_has : (ts out : List Text) (t : Text) → Has ts t → has_text out t ≡ false → Has (out_of ts out) t
without_has [] out t h e = h
without_has (u ∷ ts) out t h e = go (same_text u t) refl h (has_text out u) refl (without_has ts out t)
  where
    go : (b : Bool) → same_text u t ≡ b → elim b [ true ↦ true | false ↦ has_text ts t ] ≡ true → (c : Bool) → has_text out u ≡ c → (Has ts t → has_text out t ≡ false → Has (out_of ts out) t) → has_text (elim c [ true ↦ out_of ts out | false ↦ u ∷ out_of ts out ]) t ≡ true
    go true s h true d on = let none : ⊥ = true≢false (sym d ∙ ap (has_text out) (same_is u t s) ∙ e) in absurd none
    go true s h false d on = ap (λ b. elim b [ true ↦ true | false ↦ has_text (out_of ts out) t ]) s
    go false s h true d on = on h e
    go false s h false d on = ap (λ b. elim b [ true ↦ true | false ↦ has_text (out_of ts out) t ]) s ∙ on h e

-- ---- what is heard of the names of a tree: in blocks they are captured, and else beyond the body

module _ (p : Program) where
  abbrev pub Heard : Context → List Text → List Text → Type 0
  Heard x fs ts = ((t : Text) → Has fs t → Caught p x.code x.scopes t) × ((t : Text) → Has ts t → Beyond p x.code x.scopes t)

  heard_left : (x : Context) (fs fs' ts ts' : List Text) → Heard x (fs ++ fs') (ts ++ ts') → Heard x fs ts
  heard_left x fs fs' ts ts' h = (λ t e. h.0 t (has_left fs fs' t e), λ t e. h.1 t (has_left ts ts' t e))

  heard_right : (x : Context) (fs fs' ts ts' : List Text) → Heard x (fs ++ fs') (ts ++ ts') → Heard x fs' ts'
  heard_right x fs fs' ts ts' h = (λ t e. h.0 t (has_right fs fs' t e), λ t e. h.1 t (has_right ts ts' t e))

  abbrev Here : Context → Type 0
  Here x = Chain p x.code x.scopes

  -- ---- receivers and chains

  abbrev ReceiverSound : ℕ → Receiver → Type 0
  ReceiverSound c (ToTree t) = TreeSound p c t
  ReceiverSound c ToSuper = Unit {0}

  pub record SentSound (c : ℕ) (s : Sent) : Type 0 where
    pub whole : ReceiverSound c s.whole
    pub before : ReceiverSound c s.before
    pub args : TreesSound p c s.args

  abbrev sent_tree : Receiver → ℕ → Trees → Tree
  sent_tree (ToTree t) selector args = Send selector t args
  sent_tree ToSuper selector args = SuperSend selector args

  sent_sound : (c : ℕ) (r : Receiver) (selector : ℕ) (args : Trees) → ReceiverSound c r → TreesSound p c args → TreeSound p c (sent_tree r selector args)
  sent_sound c (ToTree t) selector args h i = (h, i)
  sent_sound c ToSuper selector args h i = i

  abbrev tree_of : Meant → Tree
  tree_of (At place) = Variable place
  tree_of (Value' v) = Constant v

  tree_sound : (c : ℕ) (m : Meant) → MeantSound p c m → TreeSound p c (tree_of m)
  tree_sound c (At place) h = h
  tree_sound c (Value' v) h = h

  abbrev place_of : Meant → Place
  place_of (At place) = place
  place_of (Value' v) = Shared 0

  place_sound : (c : ℕ) (m : Meant) → MeantSound p c m → Named p c (place_of m)
  place_sound c (At place) h = h
  place_sound c (Value' v) h = tt

  abbrev named : Context → Text → Meant
  named x t = meant x.names x.class x.side x.scopes t

  abbrev assigned : Context → List Text → Tree → Tree
  assigned x [] t = t
  assigned x (name ∷ names) t = Assign (place_of (named x name)) (assigned x names t)

  assigned_sound : (x : Context) (names : List Text) (t : Tree) → Here x → ((u : Text) → Has names u → Beyond p x.code x.scopes u) → TreeSound p x.code t → TreeSound p x.code (assigned x names t)
  assigned_sound x [] t here h i = i
  assigned_sound x (name ∷ names) t here h i = (
    place_sound x.code (named x name) (name_sound p x.names x.class x.side name x.code x.scopes here (h name (ap (λ b. elim b [ true ↦ true | false ↦ has_text names name ]) (same_itself name)))),
    assigned_sound x names t here (λ u e. h u (has_right (name ∷ []) names u e)) i,
  )

  abbrev receiver_tree : Receiver → Tree
  receiver_tree (ToTree t) = t
  receiver_tree ToSuper = Self

  receiver_sound : (c : ℕ) (r : Receiver) → ReceiverSound c r → TreeSound p c (receiver_tree r)
  receiver_sound c (ToTree t) h = h
  receiver_sound c ToSuper h = tt

  abbrev cascaded : Receiver → Messages → Tree
  cascaded (ToTree t) row = Cascade t row
  cascaded ToSuper row = SuperCascade row

  cascaded_sound : (c : ℕ) (r : Receiver) (messages : Messages) → ReceiverSound c r → MessagesSound p c messages → TreeSound p c (cascaded r messages)
  cascaded_sound c (ToTree t) messages h i = (h, i)
  cascaded_sound c ToSuper messages h i = i

  abbrev with_cascade : Sent → Messages → Tree
  with_cascade s no_messages = receiver_tree s.whole
  with_cascade s (more_messages selector args row) = cascaded s.before (more_messages s.selector s.args (more_messages selector args row))

  cascade_sound : (c : ℕ) (s : Sent) (messages : Messages) → SentSound c s → MessagesSound p c messages → TreeSound p c (with_cascade s messages)
  cascade_sound c s no_messages h i = receiver_sound c s.whole h.whole
  cascade_sound c s (more_messages selector args row) h i = cascaded_sound c s.before (more_messages s.selector s.args (more_messages selector args row)) h.before (h.args, i)

  literal_sound : (names : List Text) (n k : ℕ) (l : Literal) → (constant_value (constant_of (literal_made names n l).item) ≡ (literal_made names n l).item) × AllBodies p k (literal_made names n l).bodies
  literal_sound names n k NilLiteral = (refl, tt)
  literal_sound names n k TrueLiteral = (refl, tt)
  literal_sound names n k FalseLiteral = (refl, tt)
  literal_sound names n k (IntegerLiteral i) = (refl, tt)
  literal_sound names n k (CharacterLiteral b) = (refl, tt)
  literal_sound names n k (StringLiteral t) = (refl, tt)
  literal_sound names n k (SymbolLiteral t) = (refl, tt)
  literal_sound names n k (ArrayLiteral row) = (refl, tt)

  -- ---- a block in its body

  abbrev block_body : Context → List Text → List Text → NamedStatements → Made (List Statement) → List BodyRow
  block_body x parameters variables row statements = body_made InBlock x (Some x.code) parameters variables row statements

  abbrev OuterChain : Option ℕ → List (List Text) → Type 0
  OuterChain o scopes = elim o [ None ↦ scopes ≡ [] | Some m ↦ Chain p m scopes ]

  abbrev OuterCaught : Text → List (List Text) → Option ℕ → Type 0
  OuterCaught t scopes o = elim o [ None ↦ Unit {0} | Some m ↦ Caught p m scopes t ]

  -- the context of a body whose row is there
  inner_chain : (x : Context) (k : ℕ) (b : BodyRow) (variables : List Text) (row : NamedStatements) → body_at p k ≡ b → b.captured ≡ captured_of variables row → b.outer ≡ Some x.code → Here x → Here (inside x k variables)
  unfolding captured_of
  inner_chain x k b variables row e captured outer here =
      (ap (λ (y : BodyRow). length y.captured) e ∙ ap length captured ∙ length-map variables (has_text (named_statements false row)), subst (λ o. OuterChain o x.scopes) (sym (ap (λ (y : BodyRow). y.outer) e ∙ outer)) here)

  inner_heard : (x : Context) (k : ℕ) (b : BodyRow) (variables : List Text) (row : NamedStatements) → body_at p k ≡ b → b.captured ≡ captured_of variables row → b.outer ≡ Some x.code → ((t : Text) → Has (out_of (named_statements true row) variables) t → Caught p x.code x.scopes t) → Heard (inside x k variables) (named_statements false row) (named_statements true row)
  unfolding captured_of
  inner_heard x k b variables row e captured outer h =
      let beyond : (t : Text) → Has (named_statements true row) t → Beyond p k (variables ∷ x.scopes) t = λ t i s.
      subst (λ o. OuterCaught t x.scopes o) (sym (ap (λ (y : BodyRow). y.outer) e ∙ outer)) (h t (without_has (named_statements true row) variables t i (not_found 0 variables t s))) in
      (λ t i. (λ m s. let f = found 0 variables t m s in ap (λ (y : BodyRow). get_or y.captured m false) e ∙ ap (λ cs. get_or cs m false) captured ∙ ap (λ j. get_or (map (has_text (named_statements false row)) variables) j false) (omega arith) ∙ f.caught (named_statements false row) i, beyond t (statements_within row t i)), beyond)

  one_has : (t : Text) → Has (t ∷ []) t
  one_has t = ap (λ b. elim b [ true ↦ true | false ↦ false ]) (same_itself t)

  abbrev is_last : NamedMessages → Bool
  is_last none_sent = true
  is_last (then_sent selector args row) = false

  abbrev one_sent : Receiver → ℕ → Trees → Sent
  one_sent r selector args = record { whole = ToTree (sent_tree r selector args); before = r; selector = selector; args = args }

  pick_sound : (c : ℕ) (b : Bool) (s t : Sent) → SentSound c s → SentSound c t → SentSound c (if b then s else t)
  pick_sound c true s t h i = h
  pick_sound c false s t h i = i

  statement_sound : (c : ℕ) (b : Bool) (t : Tree) (row : List Statement) → TreeSound p c t → StatementsSound p c row → StatementsSound p c ((if b then Return t else Plain t) ∷ row)
  statement_sound c true t row h i = (h, i)
  statement_sound c false t row h i = (h, i)

  -- ---- what is made

  mutual
    primary_ok : (x : Context) (n : Counts) (q : NamedPrimary) → Here x → Heard x (named_primary false q) (named_primary true q) → Sits p n.bodies (primary_made x n q).bodies → ReceiverSound x.code (primary_made x n q).item × AllBodies p n.bodies (primary_made x n q).bodies
    primary_ok x n (NameOf t) here h s = (tree_sound x.code (named x t) (name_sound p x.names x.class x.side t x.code x.scopes here (h.1 t (one_has t))), tt)
    primary_ok x n SelfName here h s = (tt, tt)
    primary_ok x n SuperName here h s = (tt, tt)
    primary_ok x n (LiteralOf l) here h s = literal_sound x.names.names n.objects n.bodies l
    primary_ok x n (BlockOf parameters temporaries row) here h s =
        let variables = parameters ++ temporaries in
        let m : Counts = record { bodies = suc n.bodies; objects = n.objects } in
        let inner = statements_ok (inside x n.bodies variables) m row (inner_chain x n.bodies _ variables row s.0.1 refl refl here) (inner_heard x n.bodies _ variables row s.0.1 refl refl h.0) s.1 in
        (record { known = s.0.0; is_kind = ap (λ (y : BodyRow). y.kind) s.0.1; stands = ap (λ (y : BodyRow). y.outer) s.0.1 }, (body_sound p n.bodies InBlock (statements_made (inside x n.bodies variables) m row).item inner.0, inner.1))
    primary_ok x n (ParenOf e) here h s = expr_ok x n e here h s

    chain_ok : (x : Context) (n : Counts) (r : Receiver) (row : NamedMessages) → Here x → ReceiverSound x.code r → Heard x (named_messages false row) (named_messages true row) → Sits p n.bodies (chain_made x n r row).bodies → SentSound x.code (chain_made x n r row).item × AllBodies p n.bodies (chain_made x n r row).bodies
    chain_ok x n r none_sent here i h s = (record { whole = i; before = i; args = tt }, tt)
    chain_ok x n r (then_sent selector args row) here i h s =
        let a = args_made x n args in
        let fa = args_ok x n args here (heard_left x (named_operands false args) (named_messages false row) (named_operands true args) (named_messages true row) h) (sits_left p n.bodies a.bodies _ s) in
        let number = number_or_last x.names.names selector in
        let whole = sent_sound x.code r number a.item i fa.0 in
        let rest = chain_ok x (behind n a) (ToTree (sent_tree r number a.item)) row here whole (heard_right x (named_operands false args) (named_messages false row) (named_operands true args) (named_messages true row) h) (sits_right p n.bodies a.bodies _ s) in
        (pick_sound x.code (is_last row) (one_sent r number a.item) (chain_made x (behind n a) (ToTree (sent_tree r number a.item)) row).item (record { whole = whole; before = i; args = fa.0 }) rest.0, bodies_append p n.bodies a.bodies _ fa.1 rest.1)

    messages_ok : (x : Context) (n : Counts) (row : NamedMessages) → Here x → Heard x (named_messages false row) (named_messages true row) → Sits p n.bodies (messages_made x n row).bodies → MessagesSound p x.code (messages_made x n row).item × AllBodies p n.bodies (messages_made x n row).bodies
    messages_ok x n none_sent here h s = (tt, tt)
    messages_ok x n (then_sent selector args row) here h s =
        let a = args_made x n args in
        let fa = args_ok x n args here (heard_left x (named_operands false args) (named_messages false row) (named_operands true args) (named_messages true row) h) (sits_left p n.bodies a.bodies _ s) in
        let rest = messages_ok x (behind n a) row here (heard_right x (named_operands false args) (named_messages false row) (named_operands true args) (named_messages true row) h) (sits_right p n.bodies a.bodies _ s) in
        ((fa.0, rest.0), bodies_append p n.bodies a.bodies _ fa.1 rest.1)

    args_ok : (x : Context) (n : Counts) (row : NamedOperands) → Here x → Heard x (named_operands false row) (named_operands true row) → Sits p n.bodies (args_made x n row).bodies → TreesSound p x.code (args_made x n row).item × AllBodies p n.bodies (args_made x n row).bodies
    args_ok x n no_operands here h s = (tt, tt)
    args_ok x n (more_operands o row) here h s =
        let a = operand_made x n o in
        let fa = operand_ok x n o here (heard_left x (named_operand false o) (named_operands false row) (named_operand true o) (named_operands true row) h) (sits_left p n.bodies a.bodies _ s) in
        let rest = args_ok x (behind n a) row here (heard_right x (named_operand false o) (named_operands false row) (named_operand true o) (named_operands true row) h) (sits_right p n.bodies a.bodies _ s) in
        ((fa.0, rest.0), bodies_append p n.bodies a.bodies _ fa.1 rest.1)

    operand_ok : (x : Context) (n : Counts) (o : NamedOperand) → Here x → Heard x (named_operand false o) (named_operand true o) → Sits p n.bodies (operand_made x n o).bodies → TreeSound p x.code (operand_made x n o).item × AllBodies p n.bodies (operand_made x n o).bodies
    operand_ok x n (OperandOf primary chain) here h s =
        let a = primary_made x n primary in
        let fa = primary_ok x n primary here (heard_left x (named_primary false primary) (named_messages false chain) (named_primary true primary) (named_messages true chain) h) (sits_left p n.bodies a.bodies _ s) in
        let rest = chain_ok x (behind n a) a.item chain here fa.0 (heard_right x (named_primary false primary) (named_messages false chain) (named_primary true primary) (named_messages true chain) h) (sits_right p n.bodies a.bodies _ s) in
        (receiver_sound x.code _ rest.0.whole, bodies_append p n.bodies a.bodies _ fa.1 rest.1)

    expr_ok : (x : Context) (n : Counts) (e : NamedExpr) → Here x → Heard x (named_expr false e) (named_expr true e) → Sits p n.bodies (expr_made x n e).bodies → TreeSound p x.code (expr_made x n e).item × AllBodies p n.bodies (expr_made x n e).bodies
    expr_ok x n (ExprOf targets (OperandOf primary chain) cascade) here h s =
        let a = primary_made x n primary in
        let c = chain_made x (behind n a) a.item chain in
        let ms = messages_made x (behind (behind n a) c) cascade in
        let operand_false = named_primary false primary ++ named_messages false chain in
        let operand_true = named_primary true primary ++ named_messages true chain in
        let h_all = heard_left x operand_false (named_messages false cascade) (targets ++ operand_true) (named_messages true cascade) h in
        let h_cascade = heard_right x operand_false (named_messages false cascade) (targets ++ operand_true) (named_messages true cascade) h in
        let h_operand = heard_right x [] operand_false targets operand_true h_all in
        let two = sits_left p n.bodies (a.bodies ++ c.bodies) ms.bodies s in
        let fa = primary_ok x n primary here (heard_left x (named_primary false primary) (named_messages false chain) (named_primary true primary) (named_messages true chain) h_operand) (sits_left p n.bodies a.bodies c.bodies two) in
        let fc = chain_ok x (behind n a) a.item chain here fa.0 (heard_right x (named_primary false primary) (named_messages false chain) (named_primary true primary) (named_messages true chain) h_operand) (sits_right p n.bodies a.bodies c.bodies two) in
        let place : n.bodies + length (a.bodies ++ c.bodies) ≡ n.bodies + length a.bodies + length c.bodies = ap (λ k. n.bodies + k) (length-append a.bodies c.bodies) ∙ omega arith in
        let fm = messages_ok x (behind (behind n a) c) cascade here h_cascade (subst (λ k. Sits p k ms.bodies) place (sits_right p n.bodies (a.bodies ++ c.bodies) ms.bodies s)) in (
          assigned_sound x targets (with_cascade c.item ms.item) here (λ u k. h_all.1 u (has_left targets operand_true u k)) (cascade_sound x.code c.item ms.item fc.0 fm.0),
          bodies_append p n.bodies (a.bodies ++ c.bodies) ms.bodies (bodies_append p n.bodies a.bodies c.bodies fa.1 fc.1) (subst (λ k. AllBodies p k ms.bodies) (sym place) fm.1),
        )

    pub statements_ok : (x : Context) (n : Counts) (row : NamedStatements) → Here x → Heard x (named_statements false row) (named_statements true row) → Sits p n.bodies (statements_made x n row).bodies → StatementsSound p x.code (statements_made x n row).item × AllBodies p n.bodies (statements_made x n row).bodies
    statements_ok x n no_statements here h s = (tt, tt)
    statements_ok x n (more_statements returns e row) here h s =
        let a = expr_made x n e in
        let fa = expr_ok x n e here (heard_left x (named_expr false e) (named_statements false row) (named_expr true e) (named_statements true row) h) (sits_left p n.bodies a.bodies _ s) in
        let rest = statements_ok x (behind n a) row here (heard_right x (named_expr false e) (named_statements false row) (named_expr true e) (named_statements true row) h) (sits_right p n.bodies a.bodies _ s) in
        (statement_sound x.code returns a.item _ fa.0 rest.0, bodies_append p n.bodies a.bodies _ fa.1 rest.1)
