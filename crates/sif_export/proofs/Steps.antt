-- Lists of words that grow at their end, and the words of one level of a tree.
use Rattle.std.proofs.Common.{◌≡◌, ◌≢◌, ◌+◌, ◌<◌, ◌≤◌, take, drop, length, map, ℕ, zero, suc, Bool, true, false, if◌then◌else◌, List, [], ◌∷◌, ◌++◌, get_or, eqb, subst, ℤ, refl, ap, sym, ◌∙◌, append_assoc, arith, codes}
use Rattle.std.proofs.lemmas.List.{append-nil, take_more, take-append-drop}
use Rattle.st_tree.specs.declared.tree.Primary.TheFolds.{fold_out-Block, fold_out-Body, fold_out-Expr, fold_out-Message, fold_out-Operand, fold-roll-Primary, fold-roll-Statement, fold-Primary, fold-Statement}
use Rattle.st_tree.specs.declared.tree.Name.{Name}
use Rattle.st_tree.specs.declared.tree.Literal.{Literal, fold-Literal, fold-roll-Literal}
use Rattle.st_tree.specs.declared.tree.Literal.TheOpen.{Literal-F}
use Rattle.st_tree.specs.declared.tree.Literal.TheVariants as literal
use Rattle.st_tree.specs.declared.tree.Literal.TheVariants.{rolls-Array, rolls-Nil, rolls-True, rolls-False, rolls-Integer, rolls-Character, rolls-Str, rolls-Symbol}
use Rattle.st_tree.specs.declared.tree.Primary.TheOpen.{Primary-F, Statement-F}
use Rattle.st_tree.specs.declared.tree.Primary.TheVariants as primary
use Rattle.st_tree.specs.declared.tree.Primary.TheVariants.{rolls-Block, rolls-Paren, rolls-Variable, rolls-Literal, rolls-SelfValue, rolls-SuperValue}
use Rattle.st_tree.specs.declared.tree.Primary.TheViews.{rolls-Value, rolls-Return}
use Rattle.st_tree.specs.declared.tree.Statement.TheVariants.{Value, Return}
use Rattle.st_tree.specs.declared.tree.Block.{Block, out-Block}
use Rattle.st_tree.specs.declared.tree.Body.{Body, out-Body}
use Rattle.st_tree.specs.declared.tree.Expr.{Expr, out-Expr}
use Rattle.st_tree.specs.declared.tree.Message.{Message, out-Message}
use Rattle.st_tree.specs.declared.tree.Operand.{Operand, out-Operand}
use Rattle.st_tree.specs.declared.tree.Method.{Method}
use Rattle.st_base.specs.TokenBytes.{is_letter}
use Rattle.sif_chunks.specs.Writing.{closed, all_closed}
use Rattle.st_tree.specs.declared.units.ClassUnit.{ClassUnit}
use Rattle.st_tree.specs.declared.units.Annotation.{Annotation}
use Rattle.st_tree.specs.declared.units.Unit.{Unit}
use Rattle.sif_export.specs.Words.{Word, Mark, Named, Key, Operator, Parameter, Number, Char, Str, Symbol, Sign, IsSpelled, Joined, laid, quotes_doubled}
use Rattle.sif_export.proofs.PieceLemmas.{quotes_doubled-append}
use Rattle.sif_export.specs.ExportText.{keyed, spaced, spaced_behind, way_name, list_words, class_words, annotation_words, annotation_text, body_text, is_empty_body, unit_texts, element_texts}
use Rattle.sif_export.specs.declared.sign.Sign.TheVariants as sign
use Rattle.sif_export.specs.TreeWords.{Words, joined, each_behind, parted, literal_step, literal_words, first_part, other_parts, part_word, sent_words, message_words, target_words, named_words, colon_words, temporary_words, parameter_words, body_parts, inner_words, at_primary, at_statement, at_block, at_body, at_expr, at_message, at_operand, primary_words, statement_words, block_words, expr_words, each_message, operand_words, name_words, pattern_words, top_words}

pub operand_out : (o : Operand) → operand_words o ≡ primary_words (out-Operand o).primary ++ joined (map each_message (out-Operand o).chain)
unfolding operand_words primary_words each_message
operand_out o = fold_out-Operand Words Words Words Words Words Words Words at_primary at_statement at_block at_body at_expr at_message at_operand o

pub expr_out : (e : Expr) → expr_words e ≡ target_words (out-Expr e).targets ++ operand_words (out-Expr e).operand ++ each_behind (Mark sign.Semicolon) (map each_message (out-Expr e).cascade)
unfolding expr_words operand_words each_message
expr_out e = fold_out-Expr Words Words Words Words Words Words Words at_primary at_statement at_block at_body at_expr at_message at_operand e

pub message_out : (m : Message) → each_message m ≡ message_words (out-Message m).selector (map operand_words (out-Message m).arguments)
unfolding operand_words each_message
message_out m = fold_out-Message Words Words Words Words Words Words Words at_primary at_statement at_block at_body at_expr at_message at_operand m

pub body_out : (b : Body) → inner_words b ≡ body_parts sign.Period sign.Bar b
unfolding inner_words body_parts statement_words
body_out b = fold_out-Body Words Words Words Words Words Words Words at_primary at_statement at_block at_body at_expr at_message at_operand b

pub block_out : (b : Block) → block_words b ≡ Mark sign.BlockOpen ∷ parameter_words (out-Block b).parameters ++ body_parts sign.Period sign.Bar (out-Block b).body ++ Mark sign.BlockClose ∷ []
unfolding inner_words block_words
block_out b = fold_out-Block Words Words Words Words Words Words Words at_primary at_statement at_block at_body at_expr at_message at_operand b
    ∙ ap (λ (ws : Words). Mark sign.BlockOpen ∷ parameter_words (out-Block b).parameters ++ ws ++ Mark sign.BlockClose ∷ []) (body_out (out-Block b).body)

pub block_in : (b : Block) → primary_words (primary.Block b) ≡ block_words b
unfolding primary_words block_words
block_in b = ap (fold-Primary Words Words Words Words Words Words Words at_primary at_statement at_block at_body at_expr at_message at_operand) (sym (rolls-Block b)) ∙ fold-roll-Primary Words Words Words Words Words Words Words at_primary at_statement at_block at_body at_expr at_message at_operand (Primary-F.Block b)

pub paren_in : (e : Expr) → primary_words (primary.Paren e) ≡ Mark sign.ParenOpen ∷ expr_words e ++ Mark sign.ParenClose ∷ []
unfolding primary_words expr_words
paren_in e = ap (fold-Primary Words Words Words Words Words Words Words at_primary at_statement at_block at_body at_expr at_message at_operand) (sym (rolls-Paren e)) ∙ fold-roll-Primary Words Words Words Words Words Words Words at_primary at_statement at_block at_body at_expr at_message at_operand (Primary-F.Paren e)

pub variable_in : (n : Name) → primary_words (primary.Variable n) ≡ Named n.text ∷ []
unfolding primary_words
variable_in n = ap (fold-Primary Words Words Words Words Words Words Words at_primary at_statement at_block at_body at_expr at_message at_operand) (sym (rolls-Variable n)) ∙ fold-roll-Primary Words Words Words Words Words Words Words at_primary at_statement at_block at_body at_expr at_message at_operand (Primary-F.Variable n)

pub literal_in : (l : Literal) → primary_words (primary.Literal l) ≡ literal_words l
unfolding primary_words
literal_in l = ap (fold-Primary Words Words Words Words Words Words Words at_primary at_statement at_block at_body at_expr at_message at_operand) (sym (rolls-Literal l)) ∙ fold-roll-Primary Words Words Words Words Words Words Words at_primary at_statement at_block at_body at_expr at_message at_operand (Primary-F.Literal l)

pub self_in : primary_words primary.SelfValue ≡ Named (115 ∷ 101 ∷ 108 ∷ 102 ∷ []) ∷ []
unfolding primary_words
self_in = ap (fold-Primary Words Words Words Words Words Words Words at_primary at_statement at_block at_body at_expr at_message at_operand) (sym rolls-SelfValue) ∙ fold-roll-Primary Words Words Words Words Words Words Words at_primary at_statement at_block at_body at_expr at_message at_operand Primary-F.SelfValue

pub super_in : primary_words primary.SuperValue ≡ Named (115 ∷ 117 ∷ 112 ∷ 101 ∷ 114 ∷ []) ∷ []
unfolding primary_words
super_in = ap (fold-Primary Words Words Words Words Words Words Words at_primary at_statement at_block at_body at_expr at_message at_operand) (sym rolls-SuperValue) ∙ fold-roll-Primary Words Words Words Words Words Words Words at_primary at_statement at_block at_body at_expr at_message at_operand Primary-F.SuperValue

pub value_in : (e : Expr) → statement_words (Value e) ≡ expr_words e
unfolding statement_words expr_words
value_in e = ap (fold-Statement Words Words Words Words Words Words Words at_primary at_statement at_block at_body at_expr at_message at_operand) (sym (rolls-Value e)) ∙ fold-roll-Statement Words Words Words Words Words Words Words at_primary at_statement at_block at_body at_expr at_message at_operand (Statement-F.Value e)

pub return_in : (e : Expr) → statement_words (Return e) ≡ Mark sign.Caret ∷ expr_words e
unfolding statement_words expr_words
return_in e = ap (fold-Statement Words Words Words Words Words Words Words at_primary at_statement at_block at_body at_expr at_message at_operand) (sym (rolls-Return e)) ∙ fold-roll-Statement Words Words Words Words Words Words Words at_primary at_statement at_block at_body at_expr at_message at_operand (Statement-F.Return e)

-- what is left of a selector behind these arguments
abbrev pub others : List Words → List ℕ → List ℕ
others [] s = s
others (a ∷ more) s = others more (other_parts s)

abbrev pub has : {A : Type 0} → List A → Bool
has [] = false
has (x ∷ xs) = true

pub joined-append : (xs ys : List Words) → joined (xs ++ ys) ≡ joined xs ++ joined ys
joined-append [] ys = refl
joined-append (x ∷ xs) ys = ap (λ (ws : Words). x ++ ws) (joined-append xs ys) ∙ sym (append_assoc x (joined xs) (joined ys))

pub each_behind-append : (w : Word) (xs ys : List Words) → each_behind w (xs ++ ys) ≡ each_behind w xs ++ each_behind w ys
each_behind-append w [] ys = refl
each_behind-append w (x ∷ xs) ys = ap (λ (ws : Words). w ∷ x ++ ws) (each_behind-append w xs ys) ∙ ap (λ (ws : Words). w ∷ ws) (sym (append_assoc x (each_behind w xs) (each_behind w ys)))

pub sent_words-append : (s : List ℕ) (xs ys : List Words) → sent_words s (xs ++ ys) ≡ sent_words s xs ++ sent_words (others xs s) ys
sent_words-append s [] ys = refl
sent_words-append s (x ∷ xs) ys = ap (λ (ws : Words). part_word (first_part s) ∷ x ++ ws) (sent_words-append (other_parts s) xs ys) ∙ ap (λ (ws : Words). part_word (first_part s) ∷ ws) (sym (append_assoc x (sent_words (other_parts s) xs) (sent_words (others xs (other_parts s)) ys)))

pub others-append : (s : List ℕ) (xs ys : List Words) → others (xs ++ ys) s ≡ others ys (others xs s)
others-append s [] ys = refl
others-append s (x ∷ xs) ys = others-append (other_parts s) xs ys

pub parted-more : (w : Word) (xs : List Words) (y : Words) (ys : List Words) → parted w (xs ++ y ∷ ys) ≡ parted w xs ++ (if has xs then w ∷ [] else []) ++ y ++ each_behind w ys
parted-more w [] y ys = refl
parted-more w (x ∷ xs) y ys = ap (λ (ws : Words). x ++ ws) (each_behind-append w xs (y ∷ ys)) ∙ assoc x (each_behind w xs) w y (each_behind w ys)
  where
    assoc : (a b : Words) (w : Word) (y c : Words) → a ++ (b ++ ((w ∷ y) ++ c)) ≡ a ++ b ++ (w ∷ []) ++ y ++ c
    assoc a b w y c = simp append_assoc

-- a list cut at one of its items
pub item_more : {A : Type 0} (items : List A) (i : ℕ) (x : A) → i < length items → x ≡ get_or items i x → take (i + 1) items ≡ take i items ++ x ∷ []
item_more items i x low is = take_more items i x low ∙ ap (λ y. take i items ++ y ∷ []) (sym is)

pub item_cut : {A : Type 0} (items : List A) (i : ℕ) (x : A) → i < length items → x ≡ get_or items i x → items ≡ take i items ++ x ∷ drop (i + 1) items
item_cut items i x low is = sym (take-append-drop (i + 1) items) ∙ ap (λ ys. ys ++ drop (i + 1) items) (item_more items i x low is) ∙ append_assoc (take i items) (x ∷ []) (drop (i + 1) items)

pub map-append : {A B : Type 0} (f : A → B) (xs ys : List A) → map f (xs ++ ys) ≡ map f xs ++ map f ys
map-append f [] ys = refl
map-append f (x ∷ xs) ys = ap (λ zs. f x ∷ zs) (map-append f xs ys)

pub named_words-append : (xs ys : List Name) → named_words (xs ++ ys) ≡ named_words xs ++ named_words ys
named_words-append [] ys = refl
named_words-append (x ∷ xs) ys = ap (λ (ws : Words). Named x.text ∷ ws) (named_words-append xs ys)

pub colon_words-append : (xs ys : List Name) → colon_words (xs ++ ys) ≡ colon_words xs ++ colon_words ys
colon_words-append [] ys = refl
colon_words-append (x ∷ xs) ys = ap (λ (ws : Words). Parameter x.text ∷ ws) (colon_words-append xs ys)

pub target_words-append : (xs ys : List Name) → target_words (xs ++ ys) ≡ target_words xs ++ target_words ys
target_words-append [] ys = refl
target_words-append (x ∷ xs) ys = ap (λ (ws : Words). Named x.text ∷ Mark sign.Assign ∷ ws) (target_words-append xs ys)

pub literal_array : (items : List Literal) → literal_words (literal.Array items) ≡ Mark sign.ArrayOpen ∷ joined (map literal_words items) ++ Mark sign.ParenClose ∷ []
unfolding literal_words
literal_array items = ap (fold-Literal Words literal_step) (sym (rolls-Array items)) ∙ fold-roll-Literal Words literal_step (Literal-F.Array items)

eqb-not : (b c : ℕ) → b ≢ c → eqb b c ≡ false
eqb-not b c differ = grind arith

pub first_part-take : (run : ℕ) (s : List ℕ) → ((k : ℕ) → k < run → get_or s k 0 ≢ 58) → run < length s → get_or s run 0 ≡ 58 → take (suc run) s ≡ first_part s
first_part-take run [] none low is = elim (let h : ⊥ = omega arith in h) [ ]
first_part-take zero (c ∷ cs) none low is = rw is refl
first_part-take (suc run) (c ∷ cs) none low is = rw (eqb-not c 58 (none 0 (omega arith))) (ap (λ (ys : List ℕ). c ∷ ys) (first_part-take run cs (λ k h. none (suc k) (omega arith)) (omega arith) is))

pub other_parts-drop : (run : ℕ) (s : List ℕ) → ((k : ℕ) → k < run → get_or s k 0 ≢ 58) → run < length s → get_or s run 0 ≡ 58 → drop (suc run) s ≡ other_parts s
other_parts-drop run [] none low is = elim (let h : ⊥ = omega arith in h) [ ]
other_parts-drop zero (c ∷ cs) none low is = rw is refl
other_parts-drop (suc run) (c ∷ cs) none low is = rw (eqb-not c 58 (none 0 (omega arith))) (other_parts-drop run cs (λ k h. none (suc k) (omega arith)) (omega arith) is)

pub first_part-none : (run : ℕ) (s : List ℕ) → ((k : ℕ) → k < run → get_or s k 0 ≢ 58) → length s ≤ run → take run s ≡ first_part s
first_part-none zero [] none low = refl
first_part-none (suc run) [] none low = refl
first_part-none zero (c ∷ cs) none low = elim (let h : ⊥ = omega arith in h) [ ]
first_part-none (suc run) (c ∷ cs) none low = rw (eqb-not c 58 (none 0 (omega arith))) (ap (λ (ys : List ℕ). c ∷ ys) (first_part-none run cs (λ k h. none (suc k) (omega arith)) (omega arith)))

pub other_parts-none : (run : ℕ) (s : List ℕ) → ((k : ℕ) → k < run → get_or s k 0 ≢ 58) → length s ≤ run → drop run s ≡ other_parts s
other_parts-none zero [] none low = refl
other_parts-none (suc run) [] none low = refl
other_parts-none zero (c ∷ cs) none low = elim (let h : ⊥ = omega arith in h) [ ]
other_parts-none (suc run) (c ∷ cs) none low = rw (eqb-not c 58 (none 0 (omega arith))) (other_parts-none run cs (λ k h. none (suc k) (omega arith)) (omega arith))

pub literal_nil : literal_words literal.Nil ≡ Named (110 ∷ 105 ∷ 108 ∷ []) ∷ []
unfolding literal_words
literal_nil = ap (fold-Literal Words literal_step) (sym rolls-Nil) ∙ fold-roll-Literal Words literal_step Literal-F.Nil

pub literal_true : literal_words literal.True ≡ Named (116 ∷ 114 ∷ 117 ∷ 101 ∷ []) ∷ []
unfolding literal_words
literal_true = ap (fold-Literal Words literal_step) (sym rolls-True) ∙ fold-roll-Literal Words literal_step Literal-F.True

pub literal_false : literal_words literal.False ≡ Named (102 ∷ 97 ∷ 108 ∷ 115 ∷ 101 ∷ []) ∷ []
unfolding literal_words
literal_false = ap (fold-Literal Words literal_step) (sym rolls-False) ∙ fold-roll-Literal Words literal_step Literal-F.False

pub literal_integer : (n : ℤ) → literal_words (literal.Integer n) ≡ Number n ∷ []
unfolding literal_words
literal_integer n = ap (fold-Literal Words literal_step) (sym (rolls-Integer n)) ∙ fold-roll-Literal Words literal_step (Literal-F.Integer n)

pub literal_character : (n : ℕ) → literal_words (literal.Character n) ≡ Char n ∷ []
unfolding literal_words
literal_character n = ap (fold-Literal Words literal_step) (sym (rolls-Character n)) ∙ fold-roll-Literal Words literal_step (Literal-F.Character n)

pub literal_str : (n : List ℕ) → literal_words (literal.Str n) ≡ Str n ∷ []
unfolding literal_words
literal_str n = ap (fold-Literal Words literal_step) (sym (rolls-Str n)) ∙ fold-roll-Literal Words literal_step (Literal-F.Str n)

pub literal_symbol : (n : List ℕ) → literal_words (literal.Symbol n) ≡ Symbol n ∷ []
unfolding literal_words
literal_symbol n = ap (fold-Literal Words literal_step) (sym (rolls-Symbol n)) ∙ fold-roll-Literal Words literal_step (Literal-F.Symbol n)

-- chains, cut at one of their items
pub joined_cut : {A : Type 0} (f : A → Words) (items : List A) (i : ℕ) (x : A) → i < length items → x ≡ get_or items i x → joined (map f items) ≡ joined (map f (take i items)) ++ (f x ++ joined (map f (drop (i + 1) items)))
joined_cut f items i x low is = ap (λ xs. joined (map f xs)) (item_cut items i x low is) ∙ ap joined (map-append f (take i items) (x ∷ drop (i + 1) items)) ∙ joined-append (map f (take i items)) (map f (x ∷ drop (i + 1) items))

pub joined_more : {A : Type 0} (f : A → Words) (items : List A) (i : ℕ) (x : A) → i < length items → x ≡ get_or items i x → joined (map f (take (i + 1) items)) ≡ joined (map f (take i items)) ++ f x
joined_more f items i x low is = ap (λ xs. joined (map f xs)) (item_more items i x low is) ∙ ap joined (map-append f (take i items) (x ∷ [])) ∙ joined-append (map f (take i items)) (f x ∷ []) ∙ ap (λ (ws : Words). joined (map f (take i items)) ++ ws) (append-nil (f x))

pub behind_cut : {A : Type 0} (w : Word) (f : A → Words) (items : List A) (i : ℕ) (x : A) → i < length items → x ≡ get_or items i x → each_behind w (map f items) ≡ each_behind w (map f (take i items)) ++ ((w ∷ []) ++ (f x ++ each_behind w (map f (drop (i + 1) items))))
behind_cut w f items i x low is = ap (λ xs. each_behind w (map f xs)) (item_cut items i x low is) ∙ ap (each_behind w) (map-append f (take i items) (x ∷ drop (i + 1) items)) ∙ each_behind-append w (map f (take i items)) (map f (x ∷ drop (i + 1) items))

pub behind_more : {A : Type 0} (w : Word) (f : A → Words) (items : List A) (i : ℕ) (x : A) → i < length items → x ≡ get_or items i x → each_behind w (map f (take (i + 1) items)) ≡ each_behind w (map f (take i items)) ++ ((w ∷ []) ++ f x)
behind_more w f items i x low is = ap (λ xs. each_behind w (map f xs)) (item_more items i x low is) ∙ ap (each_behind w) (map-append f (take i items) (x ∷ [])) ∙ each_behind-append w (map f (take i items)) (f x ∷ []) ∙ ap (λ (ws : Words). each_behind w (map f (take i items)) ++ w ∷ ws) (append-nil (f x))

pub sent_cut : {A : Type 0} (s : List ℕ) (f : A → Words) (items : List A) (i : ℕ) (x : A) → i < length items → x ≡ get_or items i x → sent_words s (map f items) ≡ sent_words s (map f (take i items)) ++ ((part_word (first_part (others (map f (take i items)) s)) ∷ []) ++ (f x ++ sent_words (other_parts (others (map f (take i items)) s)) (map f (drop (i + 1) items))))
sent_cut s f items i x low is = ap (λ xs. sent_words s (map f xs)) (item_cut items i x low is) ∙ ap (sent_words s) (map-append f (take i items) (x ∷ drop (i + 1) items)) ∙ sent_words-append s (map f (take i items)) (map f (x ∷ drop (i + 1) items))

pub sent_more : {A : Type 0} (s : List ℕ) (f : A → Words) (items : List A) (i : ℕ) (x : A) → i < length items → x ≡ get_or items i x → sent_words s (map f (take (i + 1) items)) ≡ sent_words s (map f (take i items)) ++ ((part_word (first_part (others (map f (take i items)) s)) ∷ []) ++ f x)
sent_more s f items i x low is = ap (λ xs. sent_words s (map f xs)) (item_more items i x low is) ∙ ap (sent_words s) (map-append f (take i items) (x ∷ [])) ∙ sent_words-append s (map f (take i items)) (f x ∷ []) ∙ ap (λ (ws : Words). sent_words s (map f (take i items)) ++ part_word (first_part (others (map f (take i items)) s)) ∷ ws) (append-nil (f x))

pub others_more : {A : Type 0} (s : List ℕ) (f : A → Words) (items : List A) (i : ℕ) (x : A) → i < length items → x ≡ get_or items i x → others (map f (take (i + 1) items)) s ≡ other_parts (others (map f (take i items)) s)
others_more s f items i x low is = ap (λ xs. others (map f xs) s) (item_more items i x low is) ∙ ap (λ xs. others xs s) (map-append f (take i items) (x ∷ [])) ∙ others-append s (map f (take i items)) (f x ∷ [])

-- a part that has been written, in its place
pub in_place : (pre whole done step rest : Words) → whole ≡ done ++ (step ++ rest) → pre ++ whole ≡ (pre ++ done) ++ (step ++ rest)
in_place pre whole done step rest is = ap (λ (ws : Words). pre ++ ws) is ∙ sym (append_assoc pre done (step ++ rest))

pub in_place_of : (pre whole done step rest post : Words) → whole ≡ done ++ (step ++ rest) → pre ++ whole ++ post ≡ (pre ++ done) ++ (step ++ (rest ++ post))
in_place_of pre whole done step rest post is = ap (λ (ws : Words). pre ++ ws ++ post) is ∙ simp append_assoc

pub part_spelled : (t : List ℕ) → IsSpelled (part_word t) t
part_spelled [] = (refl, refl, refl)
part_spelled (c ∷ cs) = either (is_letter c) (c ∷ cs)
  where
    either : (b : Bool) (t : List ℕ) → IsSpelled (if b then Key t else Operator t) t
    either true t = (refl, refl, refl)
    either false t = (refl, refl, refl)

pub spelled_as : (w : Word) (t u : List ℕ) → IsSpelled w t → t ≡ u → IsSpelled w u
spelled_as w t u is same = subst (IsSpelled w) same is

pub sent_message : {A : Type 0} (s : List ℕ) (f : A → Words) (xs : List A) → (xs ≡ [] → ⊥) → message_words s (map f xs) ≡ sent_words s (map f xs)
sent_message s f [] some = elim (some refl) [ ]
sent_message s f (x ∷ xs) some = refl

pub parts_out : (stop bar : Sign) (b : Body) → body_parts stop bar b ≡ temporary_words bar (out-Body b).temporaries ++ parted (Mark stop) (map statement_words (out-Body b).statements)
unfolding body_parts
parts_out stop bar b = refl

pub has-more : (xs : List Words) (y : Words) (ys : List Words) → true ≡ has (xs ++ y ∷ ys)
has-more [] y ys = refl
has-more (x ∷ xs) y ys = refl

pub has_more : {A : Type 0} (f : A → Words) (items : List A) (i : ℕ) (x : A) → i < length items → x ≡ get_or items i x → true ≡ has (map f (take (i + 1) items))
has_more f items i x low is = has-more (map f (take i items)) (f x) [] ∙ ap has (sym (ap (map f) (item_more items i x low is) ∙ map-append f (take i items) (x ∷ [])))

pub parted_cut : {A : Type 0} (w : Word) (f : A → Words) (items : List A) (i : ℕ) (x : A) (due : Bool) → i < length items → x ≡ get_or items i x → due ≡ has (map f (take i items)) → parted w (map f items) ≡ parted w (map f (take i items)) ++ ((if due then w ∷ [] else []) ++ (f x ++ each_behind w (map f (drop (i + 1) items))))
parted_cut w f items i x due low is same = ap (λ xs. parted w (map f xs)) (item_cut items i x low is) ∙ ap (parted w) (map-append f (take i items) (x ∷ drop (i + 1) items)) ∙ parted-more w (map f (take i items)) (f x) (map f (drop (i + 1) items))
    ∙ ap (λ (b : Bool). parted w (map f (take i items)) ++ (if b then w ∷ [] else []) ++ f x ++ each_behind w (map f (drop (i + 1) items))) (sym same) ∙ append_assoc3 (parted w (map f (take i items))) (if due then w ∷ [] else []) (f x) (each_behind w (map f (drop (i + 1) items)))
  where
    append_assoc3 : (a b c d : Words) → a ++ b ++ c ++ d ≡ a ++ (b ++ (c ++ d))
    append_assoc3 a b c d = simp append_assoc

pub parted_more : {A : Type 0} (w : Word) (f : A → Words) (items : List A) (i : ℕ) (x : A) (due : Bool) → i < length items → x ≡ get_or items i x → due ≡ has (map f (take i items)) → parted w (map f (take (i + 1) items)) ≡ parted w (map f (take i items)) ++ ((if due then w ∷ [] else []) ++ f x)
parted_more w f items i x due low is same = ap (λ xs. parted w (map f xs)) (item_more items i x low is) ∙ ap (parted w) (map-append f (take i items) (x ∷ [])) ∙ parted-more w (map f (take i items)) (f x) []
    ∙ ap (λ (b : Bool). parted w (map f (take i items)) ++ (if b then w ∷ [] else []) ++ f x ++ []) (sym same) ∙ ends (parted w (map f (take i items))) (if due then w ∷ [] else []) (f x)
  where
    ends : (a b c : Words) → a ++ b ++ c ++ [] ≡ a ++ (b ++ c)
    ends a b c = append-nil (a ++ b ++ c) ∙ append_assoc a b c

pub whole_list : {A : Type 0} (n : ℕ) (xs : List A) → length xs ≤ n → take n xs ≡ xs
whole_list zero [] h = refl
whole_list zero (x ∷ xs) h = elim (let low : ⊥ = omega arith in low) [ ]
whole_list (suc n) [] h = refl
whole_list (suc n) (x ∷ xs) h = ap (λ ys. x ∷ ys) (whole_list n xs (omega arith))

pub parameters_of : (ns : List Name) → (ns ≡ [] → ⊥) → parameter_words ns ≡ colon_words ns ++ Mark sign.Bar ∷ []
parameters_of [] some = elim (some refl) [ ]
parameters_of (n ∷ ns) some = refl

pub temporaries_of : (bar : Sign) (ns : List Name) → (ns ≡ [] → ⊥) → temporary_words bar ns ≡ Mark sign.Bar ∷ named_words ns ++ Mark bar ∷ []
temporaries_of bar [] some = elim (some refl) [ ]
temporaries_of bar (n ∷ ns) some = refl

pub whole_message : (m : Message) (s : List ℕ) (items : List Operand) → (out-Message m).selector ≡ s → (out-Message m).arguments ≡ items → ((out-Message m).arguments ≡ [] → ⊥) → each_message m ≡ sent_words s (map operand_words items)
whole_message m s items same all some = message_out m ∙ sent_message (out-Message m).selector operand_words (out-Message m).arguments some ∙ ap (λ u. sent_words u (map operand_words (out-Message m).arguments)) same ∙ ap (λ xs. sent_words s (map operand_words xs)) all

pub whole_pattern : (m : Method) (s : List ℕ) (items : List Name) → m.selector ≡ s → m.parameters ≡ items → (m.parameters ≡ [] → ⊥) → pattern_words m ≡ sent_words s (map name_words items)
unfolding pattern_words
whole_pattern m s items same all some = sent_message m.selector name_words m.parameters some ∙ ap (λ u. sent_words u (map name_words m.parameters)) same ∙ ap (λ xs. sent_words s (map name_words xs)) all

pub plain_pattern : (m : Method) → m.parameters ≡ [] → pattern_words m ≡ Named m.selector ∷ []
unfolding pattern_words
plain_pattern m none = ap (λ xs. message_words m.selector (map name_words xs)) none

-- the words of a class and of an annotation, with their texts under other names
pub class_words-of : (c : ClassUnit) (n s w : List ℕ) → n ≡ c.name → s ≡ c.superclass → w ≡ way_name c.indexed → class_words c ≡ Named (codes "Class") ∷ keyed (codes "named:") n ++ (keyed (codes "superclass:") s ++ (Key (codes "indexedInstanceVariables:") ∷ Symbol w ∷ list_words c))
class_words-of c n s w name superclass way =
    ap (λ (t : List ℕ). Named (codes "Class") ∷ keyed (codes "named:") t ++ (keyed (codes "superclass:") c.superclass ++ (Key (codes "indexedInstanceVariables:") ∷ Symbol (way_name c.indexed) ∷ list_words c))) (sym name)
    ∙ ap (λ (t : List ℕ). Named (codes "Class") ∷ keyed (codes "named:") n ++ (keyed (codes "superclass:") t ++ (Key (codes "indexedInstanceVariables:") ∷ Symbol (way_name c.indexed) ∷ list_words c))) (sym superclass)
    ∙ ap (λ (t : List ℕ). Named (codes "Class") ∷ keyed (codes "named:") n ++ (keyed (codes "superclass:") s ++ (Key (codes "indexedInstanceVariables:") ∷ Symbol t ∷ list_words c))) (sym way)

pub annotation_words-of : (a : Annotation) (k v : List ℕ) → k ≡ a.key → v ≡ a.value → annotation_words a ≡ Named (codes "Annotation") ∷ keyed (codes "key:") k ++ keyed (codes "value:") v
annotation_words-of a k v key value =
    ap (λ (t : List ℕ). Named (codes "Annotation") ∷ keyed (codes "key:") t ++ keyed (codes "value:") a.value) (sym key) ∙ ap (λ (t : List ℕ). Named (codes "Annotation") ∷ keyed (codes "key:") k ++ keyed (codes "value:") t) (sym value)

pub body_text-empty : (b : Body) → true ≡ is_empty_body b → body_text b ≡ codes "\"\" "
unfolding body_text
body_text-empty b is = ap (λ (x : Bool). if x then codes "\"\" " else laid Joined (top_words b)) (sym is)

pub body_text-some : (b : Body) → false ≡ is_empty_body b → body_text b ≡ laid Joined (top_words b)
unfolding body_text
body_text-some b is = ap (λ (x : Bool). if x then codes "\"\" " else laid Joined (top_words b)) (sym is)

-- elements one behind the other
pub all_closed-append : (a b : List (List ℕ)) → all_closed (a ++ b) ≡ all_closed a ++ all_closed b
all_closed-append [] b = refl
all_closed-append (t ∷ ts) b = ap (λ (ys : List ℕ). closed t ++ ys) (all_closed-append ts b) ∙ sym (append_assoc (closed t) (all_closed ts) (all_closed b))

pub annotations_cut : (items : List Annotation) (i : ℕ) (x : Annotation) → i < length items → x ≡ get_or items i x → all_closed (map annotation_text items) ≡ all_closed (map annotation_text (take i items)) ++ (closed (annotation_text x) ++ all_closed (map annotation_text (drop (i + 1) items)))
annotations_cut items i x low is =
    ap (λ (xs : List Annotation). all_closed (map annotation_text xs)) (item_cut items i x low is) ∙ ap all_closed (map-append annotation_text (take i items) (x ∷ drop (i + 1) items)) ∙ all_closed-append (map annotation_text (take i items)) (map annotation_text (x ∷ drop (i + 1) items))

pub annotations_more : (items : List Annotation) (i : ℕ) (x : Annotation) → i < length items → x ≡ get_or items i x → all_closed (map annotation_text (take (i + 1) items)) ≡ all_closed (map annotation_text (take i items)) ++ closed (annotation_text x)
annotations_more items i x low is =
    ap (λ (xs : List Annotation). all_closed (map annotation_text xs)) (item_more items i x low is) ∙ ap all_closed (map-append annotation_text (take i items) (x ∷ [])) ∙ all_closed-append (map annotation_text (take i items)) (annotation_text x ∷ [])
    ∙ ap (λ (ys : List ℕ). all_closed (map annotation_text (take i items)) ++ ys) (append-nil (closed (annotation_text x)))

element_texts-append : (a b : List Unit) → element_texts (a ++ b) ≡ element_texts a ++ element_texts b
element_texts-append [] b = refl
element_texts-append (u ∷ us) b = ap (λ (ys : List (List ℕ)). unit_texts u ++ ys) (element_texts-append us b) ∙ sym (append_assoc (unit_texts u) (element_texts us) (element_texts b))

pub units_cut : (items : List Unit) (i : ℕ) (x : Unit) → i < length items → x ≡ get_or items i x → all_closed (element_texts items) ≡ all_closed (element_texts (take i items)) ++ (all_closed (unit_texts x) ++ all_closed (element_texts (drop (i + 1) items)))
units_cut items i x low is =
    ap (λ (xs : List Unit). all_closed (element_texts xs)) (item_cut items i x low is) ∙ ap all_closed (element_texts-append (take i items) (x ∷ drop (i + 1) items)) ∙ all_closed-append (element_texts (take i items)) (unit_texts x ++ element_texts (drop (i + 1) items))
    ∙ ap (λ (ys : List ℕ). all_closed (element_texts (take i items)) ++ ys) (all_closed-append (unit_texts x) (element_texts (drop (i + 1) items)))

pub units_more : (items : List Unit) (i : ℕ) (x : Unit) → i < length items → x ≡ get_or items i x → all_closed (element_texts (take (i + 1) items)) ≡ all_closed (element_texts (take i items)) ++ all_closed (unit_texts x)
units_more items i x low is =
    ap (λ (xs : List Unit). all_closed (element_texts xs)) (item_more items i x low is) ∙ ap all_closed (element_texts-append (take i items) (x ∷ [])) ∙ all_closed-append (element_texts (take i items)) (unit_texts x ++ [])
    ∙ ap (λ (ts : List (List ℕ)). all_closed (element_texts (take i items)) ++ all_closed ts) (append-nil (unit_texts x))

spaced_behind-append : (a b : List (List ℕ)) → spaced_behind (a ++ b) ≡ spaced_behind a ++ spaced_behind b
spaced_behind-append [] b = refl
spaced_behind-append (n ∷ ns) b = ap (λ (ys : List ℕ). 32 ∷ n ++ ys) (spaced_behind-append ns b) ∙ ap (λ (ys : List ℕ). 32 ∷ ys) (sym (append_assoc n (spaced_behind ns) (spaced_behind b)))

pub names_cut : (items : List (List ℕ)) (i : ℕ) (x : List ℕ) → i < length items → x ≡ get_or items i x → quotes_doubled (spaced_behind items) ≡ quotes_doubled (spaced_behind (take i items)) ++ ((32 ∷ []) ++ (quotes_doubled x ++ quotes_doubled (spaced_behind (drop (i + 1) items))))
names_cut items i x low is =
    ap (λ (xs : List (List ℕ)). quotes_doubled (spaced_behind xs)) (item_cut items i x low is) ∙ ap quotes_doubled (spaced_behind-append (take i items) (x ∷ drop (i + 1) items)) ∙ quotes_doubled-append (spaced_behind (take i items)) (32 ∷ x ++ spaced_behind (drop (i + 1) items))
    ∙ ap (λ (ys : List ℕ). quotes_doubled (spaced_behind (take i items)) ++ 32 ∷ ys) (quotes_doubled-append x (spaced_behind (drop (i + 1) items)))

pub names_more : (items : List (List ℕ)) (i : ℕ) (x : List ℕ) → i < length items → x ≡ get_or items i x → quotes_doubled (spaced_behind (take (i + 1) items)) ≡ (quotes_doubled (spaced_behind (take i items)) ++ (32 ∷ [])) ++ quotes_doubled x
names_more items i x low is =
    ap (λ (xs : List (List ℕ)). quotes_doubled (spaced_behind xs)) (item_more items i x low is) ∙ ap quotes_doubled (spaced_behind-append (take i items) (x ∷ [])) ∙ quotes_doubled-append (spaced_behind (take i items)) (32 ∷ x ++ [])
    ∙ ap (λ (ys : List ℕ). quotes_doubled (spaced_behind (take i items)) ++ 32 ∷ quotes_doubled ys) (append-nil x) ∙ sym (append_assoc (quotes_doubled (spaced_behind (take i items))) (32 ∷ []) (quotes_doubled x))

pub spaced-front : (x : List ℕ) (xs : List (List ℕ)) → quotes_doubled (spaced (x ∷ xs)) ≡ quotes_doubled x ++ quotes_doubled (spaced_behind xs)
spaced-front x xs = quotes_doubled-append x (spaced_behind xs)
