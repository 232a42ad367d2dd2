-- A walk over a tree adds the bodies, objects and code that the definition makes of it.
use Rattle.std.proofs.Common.{◌≡◌, ℕ, suc, ◌+◌, Bool, true, false, List, [], ◌∷◌, ◌++◌, map, length, Option, refl, ap, sym, ◌∙◌, append_assoc, append-nil, arith, length-append, if◌then◌else◌}
use Rattle.std.specs.Prelude.{slice_set}
use Rattle.std.proofs.lemmas.List.{map-append}
use Rattle.object_heap.specs.Store.{Object}
use Rattle.st_code.specs.Texts.{Text}
use Rattle.st_code.specs.Program.{Body, Tree, Statement, Plain, Return}
use Rattle.st_code.specs.Code.{Instr, Pop, Dup, MakeBlock, return_of, end_code, code_on, code, code_args, code_body}
use Rattle.st_code.specs.Compiled.{kind_of}
use Rattle.st_code.specs.declared.instruction.CodeKind.{CodeKind}
use Rattle.st_code.specs.declared.instruction.CodeKind.TheVariants as code_kind
use Rattle.st_code.specs.Named.{NamedOperands, NamedMessages, none_sent, then_sent, NamedExpr, NamedStatements}
use Rattle.st_code.specs.Resolved as made
use Rattle.st_code.specs.Resolved.{Context, Counts, Made, Receiver, receiver_tree, with_cascade, is_one_sent, behind, assigned, Meant, At, Value', named, tree_of, number_or_last, literal_made, primary_made, chain_made, messages_made, args_made, operand_made, expr_made, statements_made, captured_of, inside, without, has_text}
use Rattle.st_compiler.specs.declared.draft.Draft.{Draft}
use Rattle.st_compiler.specs.Drafted.{drafted}
use Rattle.st_compiler.specs.declared.draft.DraftBody.{DraftBody}
use Rattle.st_compiler.specs.declared.draft.Status.{Status}
use Rattle.st_compiler.specs.declared.draft.Status.TheVariants as status
use Rattle.st_compiler.specs.Walked.{with_step, with_steps, with_names, push_of, send_of, operand_count, dup_if, sent_behind, chain_ended, of_kind, end_of, aside_of, separated, status_after, statement_ended, header_of, body_draft, body_begun, body_ended, block_made, statements_walked, body_made_of, body_names}
use Rattle.st_compiler.proofs.Pieces.{Piece, piece, same-piece, joined, extended, counts, made_piece, counted, grown-next, grown-is, code-append}
use Rattle.st_compiler.proofs.Growth.{message_steps, end_steps, rest_code}

-- ---- one part behind another

pub made-joined : (ba bb : List Body) (oa ob : List Object) (sa sb s : List Instr) (aa ab ia ib : List Text) → sa ++ sb ≡ s
    → joined (made_piece ba oa sa aa ia) (made_piece bb ob sb ab ib) ≡ made_piece (ba ++ bb) (oa ++ ob) s (aa ++ ab) (ia ++ ib)
made-joined ba bb oa ob sa sb s aa ab ia ib is =
    same-piece (map drafted ba ++ map drafted bb) (map drafted (ba ++ bb)) (length oa + length ob) (length (oa ++ ob)) (sa ++ sb) s (aa ++ ab) (aa ++ ab) (ia ++ ib) (ia ++ ib)
    (sym (map-append drafted ba bb)) (sym (length-append oa ob)) is refl refl

module _ (d d1 d2 : Draft) (ba : List Body) (oa : List Object) (sa : List Instr) (aa ia : List Text) (B : Counts → List Body) (O : Counts → List Object) (S : Counts → List Instr) (ab ib : List Text) (s : List Instr) where
  pub grown-both : d1 ≡ extended d (made_piece ba oa sa aa ia) → d2 ≡ extended d1 (made_piece (B (counts d1)) (O (counts d1)) (S (counts d1)) ab ib) → sa ++ S (counted (counts d) ba oa) ≡ s
      → d2 ≡ extended d (made_piece (ba ++ B (counted (counts d) ba oa)) (oa ++ O (counted (counts d) ba oa)) s (aa ++ ab) (ia ++ ib))
  grown-both first second is =
      let n : Counts = counted (counts d) ba oa in
      grown-is d d2 _ _ (grown-next d d1 d2 ba oa sa aa ia (λ m. made_piece (B m) (O m) (S m) ab ib) first second) (made-joined ba (B n) oa (O n) sa (S n) s aa ab ia ib is)

-- steps alone
pub grown-steps : (d : Draft) (is : List Instr) → with_steps d is ≡ extended d (made_piece [] [] is [] [])
grown-steps d is =
    let b : d.bodies ≡ d.bodies ++ [] = sym (append-nil d.bodies) in
    let o : d.objects ≡ d.objects + 0 = omega arith in
    let a : d.frame.all ≡ d.frame.all ++ [] = sym (append-nil d.frame.all) in
    let i : d.frame.inner ≡ d.frame.inner ++ [] = sym (append-nil d.frame.inner) in
    λ k. record d { bodies = b k; objects = o k; frame = record { steps = d.frame.steps ++ is; all = a k; inner = i k } }

pub grown-nothing : (d : Draft) → d ≡ extended d (made_piece [] [] [] [] [])
grown-nothing d =
    let b : d.bodies ≡ d.bodies ++ [] = sym (append-nil d.bodies) in
    let o : d.objects ≡ d.objects + 0 = omega arith in
    let s : d.frame.steps ≡ d.frame.steps ++ [] = sym (append-nil d.frame.steps) in
    let a : d.frame.all ≡ d.frame.all ++ [] = sym (append-nil d.frame.all) in
    let i : d.frame.inner ≡ d.frame.inner ++ [] = sym (append-nil d.frame.inner) in
    λ k. record d { bodies = b k; objects = o k; frame = record { steps = s k; all = a k; inner = i k } }

-- ---- names and literals

push-is : (m : Meant) → push_of m ∷ [] ≡ code (tree_of m) []
push-is (At place) = refl
push-is (Value' v) = refl

pub name-grown : (x : Context) (t : Text) (d : Draft) → with_step (with_names d (t ∷ [])) (push_of (named x t)) ≡ extended d (made_piece [] [] (code (tree_of (named x t)) []) (t ∷ []) [])
name-grown x t d =
    let b : d.bodies ≡ d.bodies ++ [] = sym (append-nil d.bodies) in
    let o : d.objects ≡ d.objects + 0 = omega arith in
    let s : d.frame.steps ++ push_of (named x t) ∷ [] ≡ d.frame.steps ++ code (tree_of (named x t)) [] = ap (λ is. d.frame.steps ++ is) (push-is (named x t)) in
    let i : d.frame.inner ≡ d.frame.inner ++ [] = sym (append-nil d.frame.inner) in
    λ k. record d { bodies = b k; objects = o k; frame = record { steps = s k; all = d.frame.all ++ t ∷ []; inner = i k } }

-- ---- a message behind its receiver

abbrev pub args_piece : Context → Counts → NamedOperands → Piece
args_piece x n row = made_piece (args_made x n row).bodies (args_made x n row).objects (code_args (args_made x n row).item []) (made.named_operands true row) (made.named_operands false row)

abbrev pub message_piece : Context → Counts → (super kept : Bool) → Text → NamedOperands → Piece
message_piece x n super kept selector args = made_piece (args_made x n args).bodies (args_made x n args).objects (message_steps x n super kept selector args) (made.named_operands true args) (made.named_operands false args)

pub message-grown : (x : Context) (super kept : Bool) (selector : Text) (args : NamedOperands) (d e : Draft) → e ≡ extended (dup_if kept d) (args_piece x (counts d) args)
    → sent_behind x super kept selector args e ≡ extended d (message_piece x (counts d) super kept selector args)
message-grown x super true selector args d e is =
    let p : Piece = args_piece x (counts d) args in
    let send : Instr = send_of super (number_or_last x.names.names selector) (operand_count args) in
    let s : ((d.frame.steps ++ Dup ∷ []) ++ p.steps ++ send ∷ []) ++ Pop ∷ [] ≡ d.frame.steps ++ (Dup ∷ (p.steps ++ (send ∷ Pop ∷ []))) =
    append_assoc ((d.frame.steps ++ Dup ∷ []) ++ p.steps) (send ∷ []) (Pop ∷ []) ∙ append_assoc (d.frame.steps ++ Dup ∷ []) p.steps (send ∷ Pop ∷ []) ∙ append_assoc d.frame.steps (Dup ∷ []) (p.steps ++ (send ∷ Pop ∷ [])) in
    ap (λ f. with_step (with_step f send) Pop) is
    ∙ (λ k. record d { bodies = d.bodies ++ p.bodies; objects = d.objects + p.objects; frame = record { steps = s k; all = d.frame.all ++ p.all; inner = d.frame.inner ++ p.inner } })
message-grown x super false selector args d e is =
    let p : Piece = args_piece x (counts d) args in
    let send : Instr = send_of super (number_or_last x.names.names selector) (operand_count args) in
    let s : (d.frame.steps ++ p.steps) ++ send ∷ [] ≡ d.frame.steps ++ (p.steps ++ (send ∷ [])) = append_assoc d.frame.steps p.steps (send ∷ []) in
    ap (λ f. with_step f send) is
    ∙ (λ k. record d { bodies = d.bodies ++ p.bodies; objects = d.objects + p.objects; frame = record { steps = s k; all = d.frame.all ++ p.all; inner = d.frame.inner ++ p.inner } })

pub counts-dup : (kept : Bool) (d : Draft) → counts (dup_if kept d) ≡ counts d
counts-dup true d = refl
counts-dup false d = refl

pub end-grown : (super kept : Bool) (row : NamedMessages) (d : Draft) → chain_ended super kept row d ≡ extended d (made_piece [] [] (end_steps super kept row) [] [])
end-grown super true none_sent d = grown-steps d (Dup ∷ send_of super 0 0 ∷ Pop ∷ [])
end-grown super true (then_sent selector args row) d = grown-nothing d
end-grown super false row d = grown-nothing d

-- ---- bodies

pub set-at : {A : Type 0} (xs ys : List A) (h b : A) → slice_set ((xs ++ h ∷ []) ++ ys) (length xs) b ≡ xs ++ (b ∷ ys)
set-at [] ys h b = refl
set-at (x ∷ xs) ys h b = ap (λ zs. x ∷ zs) (set-at xs ys h b)

kind-is : (k : CodeKind) → kind_of (of_kind k) ≡ k
kind-is code_kind.Method = refl
kind-is code_kind.Block = refl
kind-is code_kind.Initializer = refl

abbrev pub statements_piece : Context → Counts → CodeKind → Status → NamedStatements → Piece
statements_piece x n k s row = made_piece (statements_made x n row).bodies (statements_made x n row).objects (rest_code s (of_kind k) (statements_made x n row).item) (made.named_statements true row) (made.named_statements false row)

-- how many bodies and objects there are where a body's statements begin
abbrev pub begun_counts : Draft → Counts
begun_counts d = record { bodies = suc (length d.bodies); objects = d.objects }

-- what the definition makes of a body's statements
abbrev pub body_statements : Context → (variables : List Text) → NamedStatements → Draft → Made (List Statement)
body_statements x variables row d = statements_made (inside x (length d.bodies) variables) (begun_counts d) row

abbrev pub with_body : Draft → List Body → List Object → Draft
with_body d bodies objects = record d { bodies = d.bodies ++ map drafted bodies; objects = d.objects + length objects }

counts-begun : (k : CodeKind) (x : Context) (outer : Option ℕ) (n : ℕ) (d : Draft) → counts (body_begun (header_of k x outer n) d) ≡ begun_counts d
counts-begun k x outer n d =
    let b : length (d.bodies ++ body_draft (header_of k x outer n) [] [] ∷ []) ≡ suc (length d.bodies) = omega (arith, length-append d.bodies (body_draft (header_of k x outer n) [] [] ∷ [])) in
    λ i. record { bodies = b i; objects = d.objects }

module _ (k : CodeKind) (x : Context) (outer : Option ℕ) (ps ts : List Text) (row : NamedStatements) (d : Draft) where
  abbrev start : Draft
  start = body_begun (header_of k x outer (length ps)) d

  abbrev Starts : Type 0
  Starts = statements_walked (inside x (length d.bodies) (ps ++ ts)) k status.Empty row start ≡ extended start (statements_piece (inside x (length d.bodies) (ps ++ ts)) (counts start) k status.Empty row)

  walked-start : Starts → statements_walked (inside x (length d.bodies) (ps ++ ts)) k status.Empty row start ≡ extended start (statements_piece (inside x (length d.bodies) (ps ++ ts)) (begun_counts d) k status.Empty row)
  walked-start ih = ih ∙ ap (λ n. extended start (statements_piece (inside x (length d.bodies) (ps ++ ts)) n k status.Empty row)) (counts-begun k x outer (length ps) d)

  pub names-grown : Starts → body_names k x outer ps ts row d ≡ without (made.named_statements true row) (ps ++ ts)
  names-grown ih = ap (λ (e : Draft). without e.frame.all (ps ++ ts)) (walked-start ih)

  pub body-grown : Starts → body_made_of k x outer ps ts row d ≡ with_body d (made.body_made (of_kind k) x outer ps (ps ++ ts) row (body_statements x (ps ++ ts) row d)) (body_statements x (ps ++ ts) row d).objects
  unfolding captured_of
  body-grown ih =
      let s = body_statements x (ps ++ ts) row d in
      let one : CodeKind → DraftBody = λ c. body_draft (header_of c x outer (length ps)) (map (has_text (made.named_statements false row)) (ps ++ ts)) (code_body (of_kind k) s.item) in
      let b : slice_set ((d.bodies ++ body_draft (header_of k x outer (length ps)) [] [] ∷ []) ++ map drafted s.bodies) (length d.bodies) (one k) ≡ d.bodies ++ (one (kind_of (of_kind k)) ∷ map drafted s.bodies) =
      set-at d.bodies (map drafted s.bodies) (body_draft (header_of k x outer (length ps)) [] []) (one k) ∙ ap (λ c. d.bodies ++ (one c ∷ map drafted s.bodies)) (sym (kind-is k)) in
      ap (body_ended (length d.bodies) (header_of k x outer (length ps)) (ps ++ ts) d.frame) (walked-start ih)
      ∙ (λ i. record d { bodies = b i; objects = d.objects + length s.objects })

pub block-grown : (d : Draft) (bodies : List Body) (objects : List Object) (code : ℕ) (names : List Text) → block_made code names (with_body d bodies objects) ≡ extended d (made_piece bodies objects (MakeBlock code ∷ []) names names)
block-grown d bodies objects code names = refl

-- ---- statements

abbrev pub statement_steps : Status → CodeKind → Bool → List Instr → List Instr
statement_steps status.Empty k true is = is ++ return_of (of_kind k) ∷ []
statement_steps status.Empty k false is = is
statement_steps status.Open k true is = Pop ∷ (is ++ return_of (of_kind k) ∷ [])
statement_steps status.Open k false is = Pop ∷ is
statement_steps status.Closed k returns is = []

abbrev pub expr_piece : Context → Counts → NamedExpr → Piece
expr_piece x n e = made_piece (expr_made x n e).bodies (expr_made x n e).objects (code (expr_made x n e).item []) (made.named_expr true e) (made.named_expr false e)

abbrev pub statement_piece : Context → Counts → CodeKind → Status → Bool → NamedExpr → Piece
statement_piece x n k s returns e = made_piece (expr_made x n e).bodies (expr_made x n e).objects (statement_steps s k returns (code (expr_made x n e).item [])) (made.named_expr true e) (made.named_expr false e)

with-piece : (d : Draft) (p : Piece) (s t : List Instr) → s ≡ d.frame.steps ++ t
    → record d { bodies = d.bodies ++ p.bodies; objects = d.objects + p.objects; frame = record { steps = s; all = d.frame.all ++ p.all; inner = d.frame.inner ++ p.inner } } ≡ extended d (piece p.bodies p.objects t p.all p.inner)
with-piece d p s t is = λ k. record d { bodies = d.bodies ++ p.bodies; objects = d.objects + p.objects; frame = record { steps = is k; all = d.frame.all ++ p.all; inner = d.frame.inner ++ p.inner } }

pub statement-grown : (x : Context) (k : CodeKind) (s : Status) (returns : Bool) (e : NamedExpr) (d f : Draft) → f ≡ extended (separated s d) (expr_piece x (counts (separated s d)) e)
    → statement_ended k s returns (aside_of s d) f ≡ extended d (statement_piece x (counts d) k s returns e)
statement-grown x k status.Empty true e d f is =
    let p : Piece = expr_piece x (counts d) e in
    ap (λ g. with_step g (return_of (of_kind k))) is ∙ with-piece d p _ _ (append_assoc d.frame.steps p.steps (return_of (of_kind k) ∷ []))
statement-grown x k status.Empty false e d f is = is
statement-grown x k status.Open true e d f is =
    let p : Piece = expr_piece x (counts d) e in
    ap (λ g. with_step g (return_of (of_kind k))) is
    ∙ with-piece d p _ _ (append_assoc (d.frame.steps ++ Pop ∷ []) p.steps (return_of (of_kind k) ∷ []) ∙ append_assoc d.frame.steps (Pop ∷ []) (p.steps ++ return_of (of_kind k) ∷ []))
statement-grown x k status.Open false e d f is =
    let p : Piece = expr_piece x (counts d) e in
    is ∙ with-piece d p _ _ (append_assoc d.frame.steps (Pop ∷ []) p.steps)
statement-grown x k status.Closed returns e d f is =
    let p : Piece = expr_piece x (counts d) e in
    ap (λ (g : Draft). record g { frame = record g.frame { steps = d.frame.steps } }) is ∙ with-piece d p _ _ (sym (append-nil d.frame.steps))

abbrev stated : Bool → Tree → Statement
stated returns t = if returns then Return t else Plain t

pub statement-code : (k : CodeKind) (s : Status) (returns : Bool) (t : Tree) (ss : List Statement) → statement_steps s k returns (code t []) ++ rest_code (status_after s returns) (of_kind k) ss ≡ rest_code s (of_kind k) (stated returns t ∷ ss)
statement-code k status.Empty true t ss = append-nil (code t [] ++ return_of (of_kind k) ∷ []) ∙ sym (code-append t (return_of (of_kind k) ∷ []))
statement-code k status.Empty false t [] = sym (code-append t (end_code (of_kind k)))
statement-code k status.Empty false t (u ∷ ss) = sym (code-append t (Pop ∷ code_on (of_kind k) u ss))
statement-code k status.Open true t ss = ap (λ is. Pop ∷ is) (append-nil (code t [] ++ return_of (of_kind k) ∷ []) ∙ sym (code-append t (return_of (of_kind k) ∷ [])))
statement-code k status.Open false t [] = ap (λ is. Pop ∷ is) (sym (code-append t (end_code (of_kind k))))
statement-code k status.Open false t (u ∷ ss) = ap (λ is. Pop ∷ is) (sym (code-append t (Pop ∷ code_on (of_kind k) u ss)))
statement-code k status.Closed returns t ss = refl

end-code : (k : CodeKind) (s : Status) → end_of s k ≡ rest_code s (of_kind k) []
end-code k status.Empty = refl
end-code k status.Open = refl
end-code k status.Closed = refl

pub end-statements : (k : CodeKind) (s : Status) (d : Draft) → with_steps d (end_of s k) ≡ extended d (made_piece [] [] (rest_code s (of_kind k) []) [] [])
end-statements k s d = grown-steps d (end_of s k) ∙ ap (λ is. extended d (made_piece [] [] is [] [])) (end-code k s)
