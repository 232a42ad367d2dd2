-- Each walk over a tree adds what the definition makes of the tree.
use Rattle.std.proofs.Common.{◌≡◌, ◌+◌, Bool, true, false, not, ◌&&◌, List, [], ◌∷◌, ◌++◌, map, length, Some, refl, ap, sym, ◌∙◌, append_assoc, append-nil, arith, length-append}
use Rattle.object_heap.specs.Store.{Object}
use Rattle.st_code.specs.Texts.{Text}
use Rattle.st_code.specs.Program.{Body, Tree}
use Rattle.st_code.specs.Code.{Instr, PushConstant, PushSelf, code, code_args, code_messages}
use Rattle.st_code.specs.declared.instruction.CodeKind.{CodeKind}
use Rattle.st_code.specs.declared.instruction.CodeKind.TheVariants as code_kind
use Rattle.st_code.specs.Named.{Literal, NamedPrimary, NameOf, SelfName, SuperName, LiteralOf, BlockOf, ParenOf, NamedOperand, OperandOf, NamedOperands, no_operands, more_operands, NamedMessages, none_sent, then_sent, NamedExpr, ExprOf, NamedStatements, no_statements, more_statements}
use Rattle.st_code.specs.Resolved as made
use Rattle.st_code.specs.Resolved.{Context, Counts, Receiver, receiver_tree, one_sent, with_cascade, is_one_sent, behind, assigned, named, tree_of, number_or_last, literal_made, primary_made, chain_made, messages_made, args_made, operand_made, expr_made, statements_made, inside, without}
use Rattle.st_compiler.specs.declared.draft.Draft.{Draft}
use Rattle.st_compiler.specs.Drafted.{drafted}
use Rattle.st_compiler.specs.declared.draft.Status.{Status}
use Rattle.st_compiler.specs.declared.draft.Status.TheVariants as status
use Rattle.st_compiler.specs.Walked.{with_steps, with_names, objects_in, send_of, dup_if, sent_behind, chain_ended, is_super, is_direct, stores, of_kind, aside_of, separated, status_after, statement_ended, header_of, body_begun, block_made, literal_walked, primary_walked, chain_walked, cascade_walked, operands_walked, operand_walked, expr_walked, statements_walked, body_made_of}
use Rattle.st_compiler.proofs.Pieces.{Piece, extended, counts, made_piece, counted, code-append}
use Rattle.st_compiler.proofs.Growth.{literal-objects, literal-bodies, super-is, message_steps, chain_steps, end_steps, kept_steps, chain-code, kept-code, code-kept, direct-is, cascade-code, code-assigned, rest_code}
use Rattle.st_compiler.proofs.Grown.{grown-both, grown-steps, grown-nothing, name-grown, args_piece, message-grown, counts-dup, statements_piece, names-grown, body-grown, expr_piece, statement_steps, statement-grown, statement-code, end-statements}

abbrev pub primary_piece : Context → Counts → NamedPrimary → Piece
primary_piece x n p = made_piece (primary_made x n p).bodies (primary_made x n p).objects (code (receiver_tree (primary_made x n p).item) []) (made.named_primary true p) (made.named_primary false p)

abbrev pub chain_piece : Context → Counts → Receiver → (super kept : Bool) → NamedMessages → Piece
chain_piece x n r super kept row = made_piece (chain_made x n r row).bodies (chain_made x n r row).objects (chain_steps x n super kept row) (made.named_messages true row) (made.named_messages false row)

abbrev pub messages_piece : Context → Counts → (super : Bool) → NamedMessages → Piece
messages_piece x n super row = made_piece (messages_made x n row).bodies (messages_made x n row).objects (code_messages (send_of super) (messages_made x n row).item []) (made.named_messages true row) (made.named_messages false row)

abbrev pub operand_piece : Context → Counts → NamedOperand → Piece
operand_piece x n o = made_piece (operand_made x n o).bodies (operand_made x n o).objects (code (operand_made x n o).item []) (made.named_operand true o) (made.named_operand false o)

-- ---- literals

literal-grown : (x : Context) (l : Literal) (d : Draft) → literal_walked x.names.names l d ≡ extended d (primary_piece x (counts d) (LiteralOf l))
literal-grown x l d =
    let m = literal_made x.names.names d.objects l in
    let b : d.bodies ≡ d.bodies ++ map drafted m.bodies = sym (append-nil d.bodies) ∙ ap (λ bs. d.bodies ++ map drafted bs) (sym (literal-bodies x.names.names d.objects l)) in
    let o : d.objects + objects_in l ≡ d.objects + length m.objects = ap (λ n. d.objects + n) (sym (literal-objects x.names.names d.objects l)) in
    let a : d.frame.all ≡ d.frame.all ++ [] = sym (append-nil d.frame.all) in
    let i : d.frame.inner ≡ d.frame.inner ++ [] = sym (append-nil d.frame.inner) in
    λ k. record d { bodies = b k; objects = o k; frame = record { steps = d.frame.steps ++ PushConstant m.item ∷ []; all = a k; inner = i k } }

-- ---- an operand, where a cascade follows or not

abbrev head_steps : Context → Counts → (kept : Bool) → NamedPrimary → NamedMessages → List Instr
head_steps x n kept p chain =
    code (receiver_tree (primary_made x n p).item) [] ++ (chain_steps x (behind n (primary_made x n p)) (is_super p) kept chain ++ end_steps (is_super p) kept chain)

abbrev head_piece : Context → Counts → (kept : Bool) → NamedPrimary → NamedMessages → Piece
head_piece x n kept p chain =
    let a = primary_made x n p in
    let c = chain_made x (behind n a) a.item chain in
    made_piece (a.bodies ++ c.bodies) (a.objects ++ c.objects) (head_steps x n kept p chain) (made.named_primary true p ++ made.named_messages true chain) (made.named_primary false p ++ made.named_messages false chain)

-- more steps behind a part
grown-last : (d d1 d2 : Draft) (bodies : List Body) (objects : List Object) (s t : List Instr) (all inner : List Text) → d1 ≡ extended d (made_piece bodies objects s all inner) → d2 ≡ with_steps d1 t → d2 ≡ extended d (made_piece bodies objects (s ++ t) all inner)
grown-last d d1 d2 bodies objects s t all inner first second =
    let p : Piece = made_piece bodies objects s all inner in
    let is : (d.frame.steps ++ s) ++ t ≡ d.frame.steps ++ (s ++ t) = append_assoc d.frame.steps s t in
    second ∙ ap (λ e. with_steps e t) first
    ∙ (λ k. record d { bodies = d.bodies ++ p.bodies; objects = d.objects + p.objects; frame = record { steps = is k; all = d.frame.all ++ all; inner = d.frame.inner ++ inner } })

ended-steps : (super kept : Bool) (row : NamedMessages) (d : Draft) → chain_ended super kept row d ≡ with_steps d (end_steps super kept row)
ended-steps super true none_sent d = refl
ended-steps super true (then_sent selector args row) d = let is : d.frame.steps ≡ d.frame.steps ++ [] = sym (append-nil d.frame.steps) in λ k. record d { frame = record d.frame { steps = is k } }
ended-steps super false row d = let is : d.frame.steps ≡ d.frame.steps ++ [] = sym (append-nil d.frame.steps) in λ k. record d { frame = record d.frame { steps = is k } }

head-grown : (x : Context) (kept : Bool) (p : NamedPrimary) (chain : NamedMessages) (d : Draft) → primary_walked x p d ≡ extended d (primary_piece x (counts d) p)
    → chain_walked x (is_super p) kept chain (primary_walked x p d) ≡ extended (primary_walked x p d) (chain_piece x (counts (primary_walked x p d)) (primary_made x (counts d) p).item (is_super p) kept chain)
    → operand_walked x kept (OperandOf p chain) d ≡ extended d (head_piece x (counts d) kept p chain)
head-grown x kept p chain d first second =
    let n : Counts = counts d in
    let a = primary_made x n p in
    let c = chain_made x (behind n a) a.item chain in
    let d1 : Draft = primary_walked x p d in
    let d2 : Draft = chain_walked x (is_super p) kept chain d1 in
    let s : List Instr = code (receiver_tree a.item) [] in
    let t : List Instr = chain_steps x (behind n a) (is_super p) kept chain in
    let e : List Instr = end_steps (is_super p) kept chain in
    let both : d2 ≡ extended d (made_piece (a.bodies ++ c.bodies) (a.objects ++ c.objects) (s ++ t) (made.named_primary true p ++ made.named_messages true chain) (made.named_primary false p ++ made.named_messages false chain)) =
    grown-both d d1 d2 a.bodies a.objects s (made.named_primary true p) (made.named_primary false p) (λ m. (chain_made x m a.item chain).bodies) (λ m. (chain_made x m a.item chain).objects) (λ m. chain_steps x m (is_super p) kept chain) (made.named_messages true chain) (made.named_messages false chain) (s ++ t) first second refl in
    grown-last d d2 (operand_walked x kept (OperandOf p chain) d) (a.bodies ++ c.bodies) (a.objects ++ c.objects) (s ++ t) e (made.named_primary true p ++ made.named_messages true chain) (made.named_primary false p ++ made.named_messages false chain) both (ended-steps (is_super p) kept chain d2)
    ∙ ap (λ is. extended d (made_piece (a.bodies ++ c.bodies) (a.objects ++ c.objects) is (made.named_primary true p ++ made.named_messages true chain) (made.named_primary false p ++ made.named_messages false chain))) (append_assoc s t e)

-- an operand alone
plain-head : (x : Context) (n : Counts) (p : NamedPrimary) (chain : NamedMessages) → head_steps x n false p chain ≡ code (operand_made x n (OperandOf p chain)).item []
plain-head x n p chain =
    let a = primary_made x n p in
    let s : List Instr = code (receiver_tree a.item) [] in
    ap (λ is. s ++ is) (append-nil (chain_steps x (behind n a) (is_super p) false chain)) ∙ ap (λ b. s ++ chain_steps x (behind n a) b false chain) (super-is x n p) ∙ chain-code x (behind n a) a.item chain

-- an operand with a cascade
kept-head : (x : Context) (n : Counts) (p : NamedPrimary) (chain : NamedMessages)
    → head_steps x n true p chain ≡ code (receiver_tree (chain_made x (behind n (primary_made x n p)) (primary_made x n p).item chain).item.before) [] ++ kept_steps (chain_made x (behind n (primary_made x n p)) (primary_made x n p).item chain).item
kept-head x n p chain =
    let a = primary_made x n p in
    ap (λ b. code (receiver_tree a.item) [] ++ (chain_steps x (behind n a) b true chain ++ end_steps b true chain)) (super-is x n p) ∙ kept-code x (behind n a) a.item chain

cascade-head : (x : Context) (n m : Counts) (p : NamedPrimary) (chain cascade : NamedMessages)
    → head_steps x n (not (is_one_sent cascade)) p chain ++ code_messages (send_of (is_direct (OperandOf p chain))) (messages_made x m cascade).item []
    ≡ code (with_cascade (chain_made x (behind n (primary_made x n p)) (primary_made x n p).item chain).item (messages_made x m cascade).item) []
cascade-head x n m p chain none_sent = append-nil (head_steps x n false p chain) ∙ plain-head x n p chain
cascade-head x n m p chain (then_sent selector args row) =
    let a = primary_made x n p in
    let c = chain_made x (behind n a) a.item chain in
    let ms = (messages_made x m (then_sent selector args row)).item in
    ap (λ is. is ++ code_messages (send_of (is_direct (OperandOf p chain))) ms []) (kept-head x n p chain)
    ∙ ap (λ b. (code (receiver_tree c.item.before) [] ++ kept_steps c.item) ++ code_messages (send_of b) ms []) (direct-is x (behind n a) (is_super p) a.item chain (super-is x n p))
    ∙ code-kept c.item (number_or_last x.names.names selector) (args_made x m args).item (messages_made x (behind m (args_made x m args)) row).item

counted-both : (n : Counts) (ba bb : List Body) (oa ob : List Object) → counted n (ba ++ bb) (oa ++ ob) ≡ counted (counted n ba oa) bb ob
counted-both n ba bb oa ob =
    let b : n.bodies + length (ba ++ bb) ≡ n.bodies + length ba + length bb = omega (arith, length-append ba bb) in
    let o : n.objects + length (oa ++ ob) ≡ n.objects + length oa + length ob = omega (arith, length-append oa ob) in
    λ k. record { bodies = b k; objects = o k }

-- names before a part
names-behind : (d : Draft) (ts : List Text) (bodies : List Body) (objects : List Object) (steps : List Instr) (all inner : List Text) → extended (with_names d ts) (made_piece bodies objects steps all inner) ≡ extended d (made_piece bodies objects steps (ts ++ all) inner)
names-behind d ts bodies objects steps all inner =
    let p : Piece = made_piece bodies objects steps all inner in
    let a : (d.frame.all ++ ts) ++ all ≡ d.frame.all ++ (ts ++ all) = append_assoc d.frame.all ts all in
    λ k. record d { bodies = d.bodies ++ p.bodies; objects = d.objects + p.objects; frame = record { steps = d.frame.steps ++ steps; all = a k; inner = d.frame.inner ++ inner } }

expr-parts : (x : Context) (targets : List Text) (p : NamedPrimary) (chain cascade : NamedMessages) (d d1 d2 : Draft)
    → d1 ≡ extended (with_names d targets) (head_piece x (counts d) (not (is_one_sent cascade)) p chain)
    → d2 ≡ extended d1 (messages_piece x (counts d1) (is_direct (OperandOf p chain)) cascade)
    → with_steps d2 (stores x targets) ≡ extended d (expr_piece x (counts d) (ExprOf targets (OperandOf p chain) cascade))
expr-parts x targets p chain cascade d d1 d2 first second =
    let n : Counts = counts d in
    let a = primary_made x n p in
    let c = chain_made x (behind n a) a.item chain in
    let k : Counts = behind (behind n a) c in
    let m = messages_made x k cascade in
    let kept : Bool = not (is_one_sent cascade) in
    let direct : Bool = is_direct (OperandOf p chain) in
    let h : List Instr = head_steps x n kept p chain in
    let s : List Instr = code_messages (send_of direct) m.item [] in
    let ts : List Text = made.named_primary true p ++ made.named_messages true chain in
    let us : List Text = made.named_primary false p ++ made.named_messages false chain in
    let vs : List Text = made.named_messages true cascade in
    let ws : List Text = made.named_messages false cascade in
    let part : Counts → Piece = λ j. made_piece ((a.bodies ++ c.bodies) ++ (messages_made x j cascade).bodies) ((a.objects ++ c.objects) ++ (messages_made x j cascade).objects) (h ++ code_messages (send_of direct) (messages_made x j cascade).item []) (ts ++ vs) (us ++ ws) in
    let both : d2 ≡ extended (with_names d targets) (part (counted n (a.bodies ++ c.bodies) (a.objects ++ c.objects))) =
    grown-both (with_names d targets) d1 d2 (a.bodies ++ c.bodies) (a.objects ++ c.objects) h ts us (λ j. (messages_made x j cascade).bodies) (λ j. (messages_made x j cascade).objects) (λ j. code_messages (send_of direct) (messages_made x j cascade).item []) vs ws
    (h ++ code_messages (send_of direct) (messages_made x (counted n (a.bodies ++ c.bodies) (a.objects ++ c.objects)) cascade).item []) first second refl in
    let all : d2 ≡ extended (with_names d targets) (part k) = both ∙ ap (λ j. extended (with_names d targets) (part j)) (counted-both n a.bodies c.bodies a.objects c.objects) in
    let t : Tree = with_cascade c.item m.item in
    let steps : (h ++ s) ++ stores x targets ≡ code (assigned x targets t) [] =
    ap (λ is. is ++ stores x targets) (cascade-head x n k p chain cascade) ∙ sym (code-append t (stores x targets)) ∙ ap (code t) (sym (append-nil (stores x targets))) ∙ sym (code-assigned x targets t []) in
    grown-last (with_names d targets) d2 (with_steps d2 (stores x targets)) ((a.bodies ++ c.bodies) ++ m.bodies) ((a.objects ++ c.objects) ++ m.objects) (h ++ s) (stores x targets) (ts ++ vs) (us ++ ws) all refl
    ∙ names-behind d targets ((a.bodies ++ c.bodies) ++ m.bodies) ((a.objects ++ c.objects) ++ m.objects) ((h ++ s) ++ stores x targets) (ts ++ vs) (us ++ ws)
    ∙ ap (λ is. extended d (made_piece ((a.bodies ++ c.bodies) ++ m.bodies) ((a.objects ++ c.objects) ++ m.objects) is (targets ++ (ts ++ vs)) (us ++ ws))) steps
    ∙ ap (λ all. extended d (made_piece ((a.bodies ++ c.bodies) ++ m.bodies) ((a.objects ++ c.objects) ++ m.objects) (code (assigned x targets t) []) all (us ++ ws))) (sym (append_assoc targets ts vs))

-- ---- all trees

mutual
  pub primary-grown : (x : Context) (p : NamedPrimary) (d : Draft) → primary_walked x p d ≡ extended d (primary_piece x (counts d) p)
  primary-grown x (NameOf t) d = name-grown x t d
  primary-grown x SelfName d = grown-steps d (PushSelf ∷ [])
  primary-grown x SuperName d = grown-steps d (PushSelf ∷ [])
  primary-grown x (LiteralOf l) d = literal-grown x l d
  primary-grown x (BlockOf ps ts row) d =
      let start : Draft = body_begun (header_of code_kind.Block x (Some x.code) (length ps)) d in
      let ih = statements-grown (inside x (length d.bodies) (ps ++ ts)) code_kind.Block status.Empty row start in
      ap (λ names. block_made (length d.bodies) names (body_made_of code_kind.Block x (Some x.code) ps ts row d)) (names-grown code_kind.Block x (Some x.code) ps ts row d ih)
      ∙ ap (block_made (length d.bodies) (without (made.named_statements true row) (ps ++ ts))) (body-grown code_kind.Block x (Some x.code) ps ts row d ih)
  primary-grown x (ParenOf e) d = expr-grown x e d

  pub chain-grown : (x : Context) (super kept : Bool) (r : Receiver) (row : NamedMessages) (d : Draft) → chain_walked x super kept row d ≡ extended d (chain_piece x (counts d) r super kept row)
  chain-grown x super kept r none_sent d = grown-nothing d
  chain-grown x super kept r (then_sent selector args row) d =
      let last : Bool = kept && is_one_sent row in
      let n : Counts = counts d in
      let a = args_made x n args in
      let w : Receiver = (one_sent r (number_or_last x.names.names selector) a.item).whole in
      let e : Draft = operands_walked x args (dup_if last d) in
      let d1 : Draft = sent_behind x super last selector args e in
      let walked : e ≡ extended (dup_if last d) (args_piece x n args) = args-grown x args (dup_if last d) ∙ ap (λ m. extended (dup_if last d) (args_piece x m args)) (counts-dup last d) in
      grown-both d d1 (chain_walked x false kept row d1) a.bodies a.objects (message_steps x n super last selector args) (made.named_operands true args) (made.named_operands false args)
      (λ m. (chain_made x m w row).bodies) (λ m. (chain_made x m w row).objects) (λ m. chain_steps x m false kept row) (made.named_messages true row) (made.named_messages false row)
      (chain_steps x n super kept (then_sent selector args row)) (message-grown x super last selector args d e walked) (chain-grown x false kept w row d1) refl

  pub cascade-grown : (x : Context) (super : Bool) (row : NamedMessages) (d : Draft) → cascade_walked x super row d ≡ extended d (messages_piece x (counts d) super row)
  cascade-grown x super none_sent d = grown-nothing d
  cascade-grown x super (then_sent selector args row) d =
      let more : Bool = not (is_one_sent row) in
      let n : Counts = counts d in
      let a = args_made x n args in
      let e : Draft = operands_walked x args (dup_if more d) in
      let d1 : Draft = sent_behind x super more selector args e in
      let walked : e ≡ extended (dup_if more d) (args_piece x n args) = args-grown x args (dup_if more d) ∙ ap (λ m. extended (dup_if more d) (args_piece x m args)) (counts-dup more d) in
      grown-both d d1 (cascade_walked x super row d1) a.bodies a.objects (message_steps x n super more selector args) (made.named_operands true args) (made.named_operands false args)
      (λ m. (messages_made x m row).bodies) (λ m. (messages_made x m row).objects) (λ m. code_messages (send_of super) (messages_made x m row).item []) (made.named_messages true row) (made.named_messages false row)
      (code_messages (send_of super) (messages_made x n (then_sent selector args row)).item []) (message-grown x super more selector args d e walked) (cascade-grown x super row d1) (cascade-code x n super selector args row)

  pub args-grown : (x : Context) (row : NamedOperands) (d : Draft) → operands_walked x row d ≡ extended d (args_piece x (counts d) row)
  args-grown x no_operands d = grown-nothing d
  args-grown x (more_operands o row) d =
      let n : Counts = counts d in
      let a = operand_made x n o in
      let d1 : Draft = operand_walked x false o d in
      grown-both d d1 (operands_walked x row d1) a.bodies a.objects (code a.item []) (made.named_operand true o) (made.named_operand false o)
      (λ m. (args_made x m row).bodies) (λ m. (args_made x m row).objects) (λ m. code_args (args_made x m row).item []) (made.named_operands true row) (made.named_operands false row)
      (code_args (args_made x n (more_operands o row)).item []) (operand-grown x o d) (args-grown x row d1) (sym (code-append a.item (code_args (args_made x (behind n a) row).item [])))

  pub operand-grown : (x : Context) (o : NamedOperand) (d : Draft) → operand_walked x false o d ≡ extended d (operand_piece x (counts d) o)
  operand-grown x (OperandOf p chain) d =
      let n : Counts = counts d in
      let a = primary_made x n p in
      let c = chain_made x (behind n a) a.item chain in
      head-grown x false p chain d (primary-grown x p d) (chain-grown x (is_super p) false a.item chain (primary_walked x p d))
      ∙ ap (λ is. extended d (made_piece (a.bodies ++ c.bodies) (a.objects ++ c.objects) is (made.named_primary true p ++ made.named_messages true chain) (made.named_primary false p ++ made.named_messages false chain))) (plain-head x n p chain)

  pub expr-grown : (x : Context) (e : NamedExpr) (d : Draft) → expr_walked x e d ≡ extended d (expr_piece x (counts d) e)
  expr-grown x (ExprOf targets (OperandOf p chain) cascade) d =
      let d0 : Draft = with_names d targets in
      let kept : Bool = not (is_one_sent cascade) in
      let d1 : Draft = operand_walked x kept (OperandOf p chain) d0 in
      expr-parts x targets p chain cascade d d1 (cascade_walked x (is_direct (OperandOf p chain)) cascade d1)
      (head-grown x kept p chain d0 (primary-grown x p d0) (chain-grown x (is_super p) kept (primary_made x (counts d0) p).item chain (primary_walked x p d0)))
      (cascade-grown x (is_direct (OperandOf p chain)) cascade d1)

  pub statements-grown : (x : Context) (k : CodeKind) (s : Status) (row : NamedStatements) (d : Draft) → statements_walked x k s row d ≡ extended d (statements_piece x (counts d) k s row)
  statements-grown x k s no_statements d = end-statements k s d
  statements-grown x k s (more_statements returns e row) d =
      let n : Counts = counts d in
      let a = expr_made x n e in
      let f : Draft = expr_walked x e (separated s d) in
      let d1 : Draft = statement_ended k s returns (aside_of s d) f in
      grown-both d d1 (statements_walked x k (status_after s returns) row d1) a.bodies a.objects (statement_steps s k returns (code a.item [])) (made.named_expr true e) (made.named_expr false e)
      (λ m. (statements_made x m row).bodies) (λ m. (statements_made x m row).objects) (λ m. rest_code (status_after s returns) (of_kind k) (statements_made x m row).item) (made.named_statements true row) (made.named_statements false row)
      (rest_code s (of_kind k) (statements_made x n (more_statements returns e row)).item) (statement-grown x k s returns e d f (expr-grown x e (separated s d))) (statements-grown x k (status_after s returns) row d1) (statement-code k s returns a.item (statements_made x (behind n a) row).item)
