-- The tree of a text is small where the text is.
use Rattle.std.proofs.Common.{ℕ, ◌+◌, ◌*◌, ◌≤◌, List, [], length, arith}
use Rattle.std.proofs.lemmas.List.Sums.{sum_by-cons}
use Rattle.st_base.specs.Lexed.{lexed_of}
use Rattle.st_lexer.proofs.Order.{lexed_of-order}
use Rattle.st_tree.specs.declared.tree.Name.{Name}
use Rattle.st_tree.specs.declared.tree.Statement.{Statement}
use Rattle.st_tree.specs.Symbols.{Sym}
use Rattle.st_tree.specs.Trees.{name, body}
use Rattle.st_tree.specs.Grammar as g
use Rattle.st_tree.specs.Grammar.{Production, Tree, MethodTree, BodyTree, Derives, is_body, is_method}
use Rattle.st_tree.specs.Units.{TextIs}
use Rattle.st_tree.specs.Small.{Weights, names_weight, body_weight, method_size, parts, moves}
use Rattle.sif_elements.proofs.Weighing.{body_weighs}
use Rattle.sif_elements.proofs.Weighed.{paid, Pays, temps, statements}
use Rattle.sif_elements.proofs.Paid.{one_each, with_bytes, moves_paid, parts_paid, one_each_token, with_bytes_each}

keyword_pattern : {w : Weights} {pay : Sym → ℕ} (pays : Pays w pay) {a b : List Sym} {selector : List ℕ} {ns : List Name} → g.KeywordPattern a b selector ns → w.message + w.text selector + names_weight w ns + paid pay b ≤ paid pay a
keyword_pattern {w = w} pays (g.last {k = k} {t = t} {k_at = k_at} {at = at} e) = omega (arith, pays.keywords k k_at, pays.names t at)
keyword_pattern {w = w} pays (g.more {k = k} {t = t} {selector = selector} {k_at = k_at} {at = at} {ns = ns} e p) = omega (arith, sum_by-cons (λ (n : Name). w.declared_name + w.text n.text) (name t at) ns, pays.keywords k k_at, pays.names t at, pays.joined k selector, keyword_pattern pays p)

pattern : {w : Weights} {pay : Sym → ℕ} (pays : Pays w pay) {a b : List Sym} {selector : List ℕ} {ns : List Name} → g.Pattern a b selector ns → w.message + w.text selector + names_weight w ns + paid pay b ≤ paid pay a
pattern pays (g.unary {t = t} {at = at}) = omega (arith, pays.unaries t at)
pattern pays (g.binary {t = t} {at = at} o e) = omega (arith, pays.operators o, pays.names t at)
pattern pays (g.keywords p) = keyword_pattern pays p

body_pays : {w : Weights} {pay : Sym → ℕ} (pays : Pays w pay) {a b : List Sym} {ts : List Name} {ss : List Statement} → g.Temps a b ts → g.Statements b [] ss → body_weight w (body ts ss) ≤ paid pay a + w.statement
body_pays {w = w} pays {ts = ts} {ss = ss} t s = omega (arith, body_weighs w ts ss, temps pays t, statements pays s)

-- how many parts a tree has, and how many moves
abbrev pub tree_size : Tree → ℕ
tree_size (BodyTree b) = body_weight parts b
tree_size (MethodTree m) = method_size m

abbrev pub tree_moves : Tree → ℕ
tree_moves (BodyTree b) = body_weight moves b
tree_moves (MethodTree m) = body_weight moves m.body

derived_size : {p : Production} {a : List Sym} {tree : Tree} → Derives p a tree → tree_size tree ≤ paid with_bytes a + 1
derived_size (is_body t s) = body_pays parts_paid t s
derived_size (is_method {selector = selector} {ns = ns} p t s) = omega (arith, pattern parts_paid p, body_pays parts_paid t s)

derived_moves : {p : Production} {a : List Sym} {tree : Tree} → Derives p a tree → tree_moves tree ≤ paid one_each a + 1
derived_moves (is_body t s) = body_pays moves_paid t s
derived_moves (is_method p t s) = omega (arith, pattern moves_paid p, body_pays moves_paid t s)

pub text_size_most : {p : Production} {text : List ℕ} {tree : Tree} → TextIs p text tree → tree_size tree ≤ 2 * length text + 1
text_size_most {text = text} is = omega (arith, derived_size is.derives, with_bytes_each 0 text (lexed_of text).tokens (lexed_of-order text))

pub text_moves_most : {p : Production} {text : List ℕ} {tree : Tree} → TextIs p text tree → tree_moves tree ≤ length text + 1
text_moves_most {text = text} is = omega (arith, derived_moves is.derives, one_each_token 0 text (lexed_of text).tokens (lexed_of-order text))
