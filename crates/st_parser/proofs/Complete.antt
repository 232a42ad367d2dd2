-- What the grammar derives, the machine reads.
use Rattle.std.proofs.Common.{◌≡◌, ℕ, List, [], ◌∷◌, ◌++◌, Bool, true, false, refl, ap, ap₂, sym, ◌∙◌, append-nil, append_assoc, Some}
use Rattle.std.specs.Prelude.{option_and_then}
use Rattle.st_tree.specs.declared.tree.Name.{Name}
use Rattle.st_tree.specs.declared.tree.Primary.{Primary}
use Rattle.st_tree.specs.declared.tree.Statement.{Statement}
use Rattle.st_tree.specs.declared.tree.Message.{Message}
use Rattle.st_tree.specs.declared.tree.Operand.{Operand}
use Rattle.st_tree.specs.Symbols.{Sym, Id, Key, Assign, IsName, role, IsOp, op, minus, bar, two_bars, three_bars}
use Rattle.st_tree.specs.Trees.{name, message, operand, expr, stated}
use Rattle.st_tree.specs.Grammar as g
use Rattle.st_tree.specs.Grammar.{Production, AMethod, ABody, Tree, MethodTree, BodyTree}
use Rattle.st_parser.specs.Machine.{Selector, Left, First, Further, Outer, Receiver, Argument, Inner, Plain, Right, FurtherRight, Start, Have, Want, Sent, Heading, NoPattern, Headed, Level, Top, Block, Home, Paren, Body, Pattern, KeywordRead, ParameterRead, Fresh, Statements, Ended, Within, Frame, Waits, finish_left, parse, start, selector, joined, tree_of, operator_word, keyword_word}
use Rattle.st_parser.proofs.Arrays.{items_read}
use Rattle.st_parser.proofs.Follow.{Ends, Closes, EndsBody, NotId, NotKey, EndsBody-ends, Closes-not_id, Closes-not_assign, binaries_not_id, messages_not_assign, cascade_closes, expr_begins, statements_not_colon, statements_not_key, temps_not_key, settle, at_close, at_close_binary, at_cascade, first_primary, role_first, role_wanted, value_wanted, super_wanted, number_wanted, negative_wanted, super_is, operator_read, operator_again, Follows, fine_unaries, fine_binaries, fine_messages, names_read, temps_read, temps_not_colon, statements_not_bars, parameters_two, parameters_three, parameters_gather, parameters_bar, parameters_close, no_parameters, begins_statement, at_body_end, last_ends}

pub unaries_read : {a b : List Sym} {ms : List Message} → g.Unaries a b ms → (home : Home) (fs : List Frame) (tg : List Name) (inner : Inner) (p : Primary) (ch : List Message)
    → parse (Within home (Have tg inner p ch), fs) a ≡ parse (Within home (Have tg inner p (ch ++ ms)), fs) b
unaries_read (g.none {a = a}) home fs tg inner p ch = ap (λ x. parse (Within home (Have tg inner p x), fs) a) (sym (append-nil ch))
unaries_read (g.more {t = t} {at = at} {b = b} {ms = ms} u) home fs tg inner p ch =
    unaries_read u home fs tg inner p (ch ++ message t at [] ∷ []) ∙ ap (λ x. parse (Within home (Have tg inner p x), fs) b) (append_assoc ch (message t at [] ∷ []) ms)

mutual
  pub primary_read : {a b : List Sym} {p : Primary} {v : Bool} → g.IsPrimary a b p v → (home : Home) (fs : List Frame) (tg : List Name) (inner : Inner) → Follows v inner b
      → parse (Within home (Want tg inner), fs) a ≡ parse (Within home (Have tg inner p []), fs) b
  primary_read (g.named {t = t} {at = at} {a = a} e) home fs tg inner f = role_wanted home fs tg inner t at a e
  primary_read (g.value {t = t} {at = at} {a = a} {p = p} e) home fs tg inner f = value_wanted home fs tg inner t at a p e
  primary_read (g.super {t = t} {at = at} {a = a} e) home fs tg inner f = super_wanted home fs tg inner t at a e ∙ super_is home fs tg inner a f
  primary_read (g.number {n = n} {at = at} {a = a} h) home fs tg inner f = number_wanted home fs tg inner n at a h
  primary_read (g.negative_number {n = n} {at = at} {n_at = n_at} {a = a} e h) home fs tg inner f = negative_wanted home fs tg inner n at n_at a e h
  primary_read g.one_token home fs tg inner f = refl
  primary_read (g.in_array x) home fs tg inner f = items_read x [] (Waits home tg inner ∷ fs)
  primary_read (g.in_parens e) home fs tg inner f = expr_read e Paren (Waits home tg inner ∷ fs) [] tt
  primary_read (g.plain_block {at = at} {a = a} {ts = ts} t s) home fs tg inner f =
      no_parameters (Waits home tg inner ∷ fs) at a (temps_not_colon t (statements_not_colon s tt))
      ∙ temps_read t (Block at [] []) (Waits home tg inner ∷ fs) (statements_not_bars s tt)
      ∙ statements_read s (Block at [] ts) [] (Waits home tg inner ∷ fs) tt
  primary_read (g.with_bar {at = at} {bar_at = bar_at} {b = b} {ns = ns} {ts = ts} n t s) home fs tg inner f =
      parameters_gather n at (Waits home tg inner ∷ fs) []
      ∙ parameters_bar n at (Waits home tg inner ∷ fs) bar_at b
      ∙ temps_read t (Block at ns []) (Waits home tg inner ∷ fs) (statements_not_bars s tt)
      ∙ statements_read s (Block at ns ts) [] (Waits home tg inner ∷ fs) tt
  primary_read (g.with_two_bars {at = at} {bar_at = bar_at} {b = b} {ns = ns} {ts = ts} n t s) home fs tg inner f =
      parameters_gather n at (Waits home tg inner ∷ fs) []
      ∙ parameters_two n at (Waits home tg inner ∷ fs) bar_at b
      ∙ names_read t (Block at ns []) (Waits home tg inner ∷ fs)
      ∙ statements_read s (Block at ns ts) [] (Waits home tg inner ∷ fs) tt
  primary_read (g.with_three_bars {at = at} {bar_at = bar_at} {b = b} {ns = ns} n s) home fs tg inner f =
      parameters_gather n at (Waits home tg inner ∷ fs) []
      ∙ parameters_three n at (Waits home tg inner ∷ fs) bar_at b
      ∙ statements_read s (Block at ns []) [] (Waits home tg inner ∷ fs) tt
  primary_read (g.only_parameters {at = at} {b = b} n) home fs tg inner f =
      parameters_gather n at (Waits home tg inner ∷ fs) []
      ∙ parameters_close n at home tg inner fs b

  pub binaries_read : {a b : List Sym} {ms : List Message} → g.Binaries a b ms → (home : Home) (fs : List Frame) (tg : List Name) (outer : Outer) (p : Primary) (ch : List Message) → NotId b
      → parse (Within home (Have tg (Plain outer) p ch), fs) a ≡ parse (Within home (Have tg (Plain outer) p (ch ++ ms)), fs) b
  binaries_read (g.no_binaries {a = a}) home fs tg outer p ch h = ap (λ x. parse (Within home (Have tg (Plain outer) p x), fs) a) (sym (append-nil ch))
  binaries_read (g.more_binaries {t = t} {at = at} {v = v} {a = a} {c = c} {d = d} {p = q} {us = us} {ms = ms} o x u f m) home fs tg outer p ch h =
      operator_read o home fs tg outer p ch a
      ∙ primary_read x home fs tg (Right outer p ch (selector t at)) (fine_unaries v (Right outer p ch (selector t at)) u f)
      ∙ unaries_read u home fs tg (Right outer p ch (selector t at)) q []
      ∙ settle home fs tg outer p ch (selector t at) q us c (binaries_not_id m h)
      ∙ binaries_read m home fs tg outer p (ch ++ message t at (operand q us ∷ []) ∷ []) h
      ∙ ap (λ x. parse (Within home (Have tg (Plain outer) p x), fs) d) (append_assoc ch (message t at (operand q us ∷ []) ∷ []) ms)

  pub arguments_read : {a b : List Sym} {sel : List ℕ} {os : List Operand} → g.Arguments a b sel os → (home : Home) (fs : List Frame) (tg : List Name) (left : Left) (s : Selector) (first : List Operand) → Closes b
      → let w = finish_left tg left (message (s.text ++ sel) s.at (first ++ os)) in
      parse (Within home (Want tg (Plain (Argument left s first))), fs) a ≡ parse (Within home (Sent w.targets w.receiver w.cascade), fs) b
  arguments_read (g.last_argument {v = v} {d = d} {p = p} {us = us} {bs = bs} x u m f) home fs tg left s first h =
      primary_read x home fs tg (Plain (Argument left s first)) (fine_binaries v (Argument left s first) u m f)
      ∙ unaries_read u home fs tg (Plain (Argument left s first)) p []
      ∙ binaries_read m home fs tg (Argument left s first) p us (Closes-not_id d h)
      ∙ at_close home fs tg left s first p (us ++ bs) d h
      ∙ ap (λ t. let w = finish_left tg left (message t s.at (first ++ operand p (us ++ bs) ∷ [])) in parse (Within home (Sent w.targets w.receiver w.cascade), fs) d) (sym (append-nil s.text))
  arguments_read (g.more_arguments {v = v} {t = t} {at = at} {e = e} {p = p} {us = us} {bs = bs} {selector = sel} {os = os} x u m f k) home fs tg left s first h =
      primary_read x home fs tg (Plain (Argument left s first)) (fine_binaries v (Argument left s first) u m f)
      ∙ unaries_read u home fs tg (Plain (Argument left s first)) p []
      ∙ binaries_read m home fs tg (Argument left s first) p us tt
      ∙ arguments_read k home fs tg left (joined s t) (first ++ operand p (us ++ bs) ∷ []) h
      ∙ ap (λ t. let w = finish_left tg left (message t s.at ((first ++ operand p (us ++ bs) ∷ []) ++ os)) in parse (Within home (Sent w.targets w.receiver w.cascade), fs) e) (append_assoc s.text t sel)
      ∙ ap (λ v. let w = finish_left tg left (message (s.text ++ (t ++ sel)) s.at v) in parse (Within home (Sent w.targets w.receiver w.cascade), fs) e) (append_assoc first (operand p (us ++ bs) ∷ []) os)

  pub messages_read : {a b : List Sym} {ms : List Message} → g.Messages a b ms → (home : Home) (fs : List Frame) (tg : List Name) (p : Primary) → Closes b
      → parse (Within home (Have tg (Plain Receiver) p ms), fs) b ≡ parse (Within home (Sent tg (operand p ms) []), fs) b
      → parse (Within home (Have tg (Plain Receiver) p []), fs) a ≡ parse (Within home (Sent tg (operand p ms) []), fs) b
  messages_read (g.short {c = c} {us = us} u m) home fs tg p h q =
      unaries_read u home fs tg (Plain Receiver) p [] ∙ binaries_read m home fs tg Receiver p us (Closes-not_id c h) ∙ q
  messages_read (g.long {t = t} {at = at} {us = us} {bs = bs} u m k) home fs tg p h q =
      unaries_read u home fs tg (Plain Receiver) p [] ∙ binaries_read m home fs tg Receiver p us tt
      ∙ arguments_read k home fs tg (First p (us ++ bs)) (selector t at) [] h

  pub cascade_read : {a b : List Sym} {cs : List Message} → g.Cascade a b cs → (home : Home) (fs : List Frame) (tg : List Name) (r : Operand) (first : List Message) → Ends b
      → parse (Within home (Sent tg r first), fs) a ≡ parse (Within home (Sent tg r (first ++ cs)), fs) b
  cascade_read (g.no_cascade {a = a}) home fs tg r first h = ap (λ x. parse (Within home (Sent tg r x), fs) a) (sym (append-nil first))
  cascade_read (g.unary_again {t = t} {at = at} {b = b} {ms = ms} c) home fs tg r first h =
      cascade_read c home fs tg r (first ++ message t at [] ∷ []) h ∙ ap (λ x. parse (Within home (Sent tg r x), fs) b) (append_assoc first (message t at [] ∷ []) ms)
  cascade_read (g.binary_again {t = t} {at = at} {v = v} {a = a} {c = c} {d = d} {p = p} {us = us} {ms = ms} o x u f k) home fs tg r first h =
      operator_again o home fs tg r first a
      ∙ primary_read x home fs tg (FurtherRight r first (selector t at)) (fine_unaries v (FurtherRight r first (selector t at)) u f)
      ∙ unaries_read u home fs tg (FurtherRight r first (selector t at)) p []
      ∙ at_close_binary home fs tg r first (selector t at) p us c (cascade_closes k h)
      ∙ cascade_read k home fs tg r (first ++ message t at (operand p us ∷ []) ∷ []) h
      ∙ ap (λ x. parse (Within home (Sent tg r x), fs) d) (append_assoc first (message t at (operand p us ∷ []) ∷ []) ms)
  cascade_read (g.keywords_again {t = t} {at = at} {c = c} {selector = sel} {os = os} {ms = ms} x k) home fs tg r first h =
      arguments_read x home fs tg (Further r first) (selector t at) [] (cascade_closes k h)
      ∙ cascade_read k home fs tg r (first ++ message (t ++ sel) at os ∷ []) h
      ∙ ap (λ x. parse (Within home (Sent tg r x), fs) c) (append_assoc first (message (t ++ sel) at os ∷ []) ms)

  pub expr_read : {a b : List Sym} {ns : List Name} {o : Operand} {cs : List Message} → g.IsExpr a b ns o cs → (home : Home) (fs : List Frame) (tg : List Name) → Ends b
      → parse (Within home (Start tg), fs) a ≡ parse (Within home (Sent (tg ++ ns) o cs), fs) b
  expr_read (g.assigned {t = t} {at = at} {a = a} {b = b} {ns = ns} {o = o} {cs = cs} e x) home fs tg h =
      role_first home fs tg t at (Assign ∷ a) e
      ∙ expr_read x home fs (tg ++ name t at ∷ []) h
      ∙ ap (λ x. parse (Within home (Sent x o cs), fs) b) (append_assoc tg (name t at ∷ []) ns)
  expr_read (g.sent {v = v} {b = b} {c = c} {d = d} {p = p} {ms = ms} {cs = cs} x m f k r) home fs tg h =
      first_primary home fs tg x (messages_not_assign m (Closes-not_assign c (cascade_closes k h))) (fine_messages v m f) (primary_read x home fs tg (Plain Receiver) (fine_messages v m f))
      ∙ messages_read m home fs tg p (cascade_closes k h) (at_cascade home fs tg p ms cs k r h)
      ∙ cascade_read k home fs tg (operand p ms) [] h
      ∙ ap (λ x. parse (Within home (Sent x (operand p ms) cs), fs) d) (sym (append-nil tg))

  pub statements_read : {a b : List Sym} {ss : List Statement} → g.Statements a b ss → (level : Level) (done : List Statement) (fs : List Frame) → EndsBody b
      → parse (Statements level done, fs) a ≡ parse (Ended level (done ++ ss), fs) b
  statements_read (g.no_statements {a = a}) level done fs h = at_body_end level done fs a h ∙ ap (λ x. parse (Ended level x, fs) a) (sym (append-nil done))
  statements_read (g.returned {b = b} {ns = ns} {o = o} {cs = cs} e) level done fs h =
      expr_read e (Body level done true) fs [] (EndsBody-ends b h) ∙ last_ends level done true fs ns o cs b h
  statements_read (g.returned_dot e) level done fs h = expr_read e (Body level done true) fs [] tt
  statements_read (g.last_statement {a = a} {b = b} {ns = ns} {o = o} {cs = cs} e) level done fs h =
      begins_statement level done fs a (expr_begins e) ∙ expr_read e (Body level done false) fs [] (EndsBody-ends b h) ∙ last_ends level done false fs ns o cs b h
  statements_read (g.more_statements {a = a} {c = c} {ns = ns} {o = o} {cs = cs} {ss = ss} e s) level done fs h =
      begins_statement level done fs a (expr_begins e) ∙ expr_read e (Body level done false) fs [] tt
      ∙ statements_read s level (done ++ stated false (expr ns o cs) ∷ []) fs h
      ∙ ap (λ x. parse (Ended level x, fs) c) (append_assoc done (stated false (expr ns o cs) ∷ []) ss)

-- a body behind its heading
pub body_read : {a b : List Sym} {ts : List Name} {ss : List Statement} → g.Temps a b ts → g.Statements b [] ss → (heading : Heading)
    → parse (Fresh (Top heading []), []) a ≡ Some (tree_of heading ts ss)
body_read {ts = ts} t s heading = temps_read t (Top heading []) [] (statements_not_bars s tt) ∙ statements_read s (Top heading ts) [] [] tt

operator_pattern : {s : Sym} {u : List ℕ} {op_at : ℕ} → IsOp s u op_at → (t : List ℕ) (at : ℕ) (a : List Sym) → role t ≡ IsName
    → parse (Pattern, []) (s ∷ Id t at ∷ a) ≡ parse (Fresh (Top (Headed u (name t at ∷ [])) []), []) a
operator_pattern (op {t = u}) t at a e = ap (λ r. option_and_then (λ next. parse next a) (operator_word u [] r t at)) e
operator_pattern minus t at a e = ap (λ r. option_and_then (λ next. parse next a) (operator_word (45 ∷ []) [] r t at)) e
operator_pattern bar t at a e = ap (λ r. option_and_then (λ next. parse next a) (operator_word (124 ∷ []) [] r t at)) e
operator_pattern two_bars t at a e = ap (λ r. option_and_then (λ next. parse next a) (operator_word (124 ∷ 124 ∷ []) [] r t at)) e
operator_pattern three_bars t at a e = ap (λ r. option_and_then (λ next. parse next a) (operator_word (124 ∷ 124 ∷ 124 ∷ []) [] r t at)) e

keyword_parameter : (k : List ℕ) (ns : List Name) (t : List ℕ) (at : ℕ) (a : List Sym) → role t ≡ IsName
    → parse (KeywordRead k ns, []) (Id t at ∷ a) ≡ parse (ParameterRead k (ns ++ name t at ∷ []), []) a
keyword_parameter k ns t at a e = ap (λ r. option_and_then (λ next. parse next a) (keyword_word k ns [] r t at)) e

-- behind a keyword's parameter a body begins where no keyword follows
pattern_ends : (k : List ℕ) (ns : List Name) (a : List Sym) → NotKey a → parse (ParameterRead k ns, []) a ≡ parse (Fresh (Top (Headed k ns) []), []) a
pattern_ends k ns [] h = refl
pattern_ends k ns (Key t at ∷ a) h = absurd h
pattern_ends k ns (s ∷ a) h = refl

further_keywords : {a b : List Sym} {k : List ℕ} {ns : List Name} → g.KeywordPattern a b k ns → NotKey b → (first : List ℕ) (before : List Name)
    → parse (ParameterRead first before, []) a ≡ parse (Fresh (Top (Headed (first ++ k) (before ++ ns)) []), []) b
further_keywords (g.last {k = k} {t = t} {at = at} {a = a} e) h first before = keyword_parameter (first ++ k) before t at a e ∙ pattern_ends (first ++ k) (before ++ name t at ∷ []) a h
further_keywords (g.more {k = k} {t = t} {selector = rest} {at = at} {a = a} {b = b} {ns = ns} e x) h first before =
    keyword_parameter (first ++ k) before t at a e
    ∙ further_keywords x h (first ++ k) (before ++ name t at ∷ [])
    ∙ ap₂ (λ v w. parse (Fresh (Top (Headed v w) []), []) b) (append_assoc first k rest) (append_assoc before (name t at ∷ []) ns)

keywords_read : {a b : List Sym} {k : List ℕ} {ns : List Name} → g.KeywordPattern a b k ns → NotKey b → parse (Pattern, []) a ≡ parse (Fresh (Top (Headed k ns) []), []) b
keywords_read (g.last {k = k} {t = t} {at = at} {a = a} e) h = keyword_parameter k [] t at a e ∙ pattern_ends k (name t at ∷ []) a h
keywords_read (g.more {k = k} {t = t} {at = at} {a = a} e x) h = keyword_parameter k [] t at a e ∙ further_keywords x h k (name t at ∷ [])

pattern_read : {a b : List Sym} {k : List ℕ} {ns : List Name} → g.Pattern a b k ns → NotKey b → parse (Pattern, []) a ≡ parse (Fresh (Top (Headed k ns) []), []) b
pattern_read g.unary h = refl
pattern_read (g.binary {t = t} {at = at} {a = a} o e) h = operator_pattern o t at a e
pattern_read (g.keywords x) h = keywords_read x h

-- so a list of tokens has at most one tree
pub complete : {p : Production} {a : List Sym} {tree : Tree} → g.Derives p a tree → parse (start p) a ≡ Some tree
complete (g.is_body t s) = body_read t s NoPattern
complete (g.is_method {selector = k} {ns = ns} x t s) = pattern_read x (temps_not_key t (statements_not_key s tt)) ∙ body_read t s (Headed k ns)
