-- The computed reading of a file is the one that the relation gives.
use Rattle.std.proofs.Common.{◌≡◌, ℕ, ◌+◌, Bool, true, false, not, List, [], ◌∷◌, length, Option, None, Some, refl, ap, sym, ◌∙◌, subst, if◌then◌else◌, ◌↔◌}
use Rattle.std.specs.Prelude.{nat_lt}
use Rattle.std.proofs.lemmas.Bool.{ltb-true, ltb-false, lt-ltb, le-ltb}
use Rattle.st_base.specs.declared.faults.Reason.{Reason}
use Rattle.st_base.specs.declared.faults.Reason.TheVariants as reason
use Rattle.st_base.specs.declared.tokens.LexFault.{LexFault}
use Rattle.st_base.specs.Lexed.{lexed_of}
use Rattle.sif_chunks.specs.Reading.{max_text, is_white}
use Rattle.st_tree.specs.declared.units.UnitKind.{UnitKind}
use Rattle.st_tree.specs.declared.units.UnitKind.TheVariants as kinds
use Rattle.st_tree.specs.declared.units.Unit.{Unit}
use Rattle.st_tree.specs.declared.tree.Body.{Body}
use Rattle.st_tree.specs.declared.tree.Method.{Method}
use Rattle.st_tree.specs.declared.headers.Header.{Header}
use Rattle.st_tree.specs.declared.headers.Header.TheVariants.{Whole, Awaits, Annotates}
use Rattle.st_tree.specs.declared.headers.Target.{Target}
use Rattle.st_tree.specs.declared.headers.Target.TheVariants as target
use Rattle.st_tree.specs.Symbols.{Sym}
use Rattle.st_tree.specs.Grammar.{Tree, MethodTree, BodyTree, Production, AMethod, ABody, Derives, is_body, is_method}
use Rattle.st_tree.specs.Headers.{production_of, Element, Says, Faulty, UnitOf, initializer, pool_initializer, program_initializer, method, class_method, Walk, Filled, Stuck, Short, judged, begins_version}
use Rattle.st_tree.specs.Units.{element, first_element, TextIs}
use Rattle.st_parser.specs.Verdict.{Verdict, Good, Bad, verdict_of}
use Rattle.st_parser.proofs.Verdicts.{Means, verdict_right, tree_found, fault_found}
use Rattle.sif_elements.specs.declared.progress.Progress.{Progress}
use Rattle.sif_elements.specs.declared.progress.Progress.TheVariants.{Start, Between, Awaiting}
use Rattle.sif_elements.specs.Reading.{Answer, Read, Refuse, Takes, version, whole, header, annotation, text_of_header, Spoils, no_version, no_element, no_text, Answers, long_text, white_text, spoiled, taken, long_rest, long_input, unfinished, nothing_read, no_text_behind, all_read, is_whole, parts, Refuses, Reads}
use Rattle.sif_elements.specs.Steps.{Step, Goes, Spoilt, kind_of, behind_element, behind_tree, behind_text, step_of, behind_step, at_end, answer_on, answer_of, reading}

-- ---- one element

pub kind_found : {t : Target} {tree : Tree} {kind : UnitKind} → UnitOf t tree kind → kind_of t tree ≡ Some kind
kind_found initializer = refl
kind_found pool_initializer = refl
kind_found program_initializer = refl
kind_found method = refl
kind_found class_method = refl

pub step_takes : {p q : Progress} {text : List ℕ} → Takes p text q → step_of p text ≡ Goes q
step_takes (version e) = ap (behind_element []) e
step_takes (whole e) = ap (behind_element _) e
step_takes (header e) = ap (behind_element _) e
step_takes (annotation e) = ap (behind_element _) e
step_takes (text_of_header t u) = ap (behind_text _ _) (tree_found t) ∙ ap (behind_tree _) (kind_found u)

pub step_spoils : {p : Progress} {text : List ℕ} {byte : ℕ} {why : Reason} → Spoils p text byte why → step_of p text ≡ Spoilt byte why
step_spoils (no_version e) = ap (behind_element []) e
step_spoils (no_element e) = ap (behind_element _) e
step_spoils (no_text f) = ap (behind_text _ _) (fault_found f)

some_same : {a b : UnitKind} → Some a ≡ Some b → a ≡ b
some_same e = cc

goes_same : {p q : Progress} → Goes p ≡ Goes q → p ≡ q
goes_same e = cc

spoilt_byte : {a b : ℕ} {v w : Reason} → Spoilt a v ≡ Spoilt b w → a ≡ b
spoilt_byte e = cc

spoilt_why : {a b : ℕ} {v w : Reason} → Spoilt a v ≡ Spoilt b w → v ≡ w
spoilt_why e = cc

goes_or_spoilt : {p : Progress} {b : ℕ} {w : Reason} → Goes p ≡ Spoilt b w → ⊥
goes_or_spoilt e = cc

kind_made : (t : Target) (tree : Tree) (kind : UnitKind) → kind_of t tree ≡ Some kind → UnitOf t tree kind
kind_made (target.Initializer n) (BodyTree b) kind e = subst (UnitOf (target.Initializer n) (BodyTree b)) (some_same e) initializer
kind_made (target.PoolInitializer p n) (BodyTree b) kind e = subst (UnitOf (target.PoolInitializer p n) (BodyTree b)) (some_same e) pool_initializer
kind_made target.ProgramInitializer (BodyTree b) kind e = subst (UnitOf target.ProgramInitializer (BodyTree b)) (some_same e) program_initializer
kind_made (target.Method c) (MethodTree m) kind e = subst (UnitOf (target.Method c) (MethodTree m)) (some_same e) method
kind_made (target.ClassMethod c) (MethodTree m) kind e = subst (UnitOf (target.ClassMethod c) (MethodTree m)) (some_same e) class_method
kind_made (target.Initializer n) (MethodTree m) kind e = absurd (let k : None ≡ Some kind = e in cc)
kind_made (target.PoolInitializer p n) (MethodTree m) kind e = absurd (let k : None ≡ Some kind = e in cc)
kind_made target.ProgramInitializer (MethodTree m) kind e = absurd (let k : None ≡ Some kind = e in cc)
kind_made (target.Method c) (BodyTree b) kind e = absurd (let k : None ≡ Some kind = e in cc)
kind_made (target.ClassMethod c) (BodyTree b) kind e = absurd (let k : None ≡ Some kind = e in cc)

of_body : {p : Production} {a : List Sym} {tree : Tree} → Derives p a tree → p ≡ ABody → (b : Body) × (tree ≡ BodyTree b)
of_body (is_body x y) e = (_, refl)
of_body (is_method x y z) e = absurd (let k : AMethod ≡ ABody = e in cc)

of_method : {p : Production} {a : List Sym} {tree : Tree} → Derives p a tree → p ≡ AMethod → (m : Method) × (tree ≡ MethodTree m)
of_method (is_body x y) e = absurd (let k : ABody ≡ AMethod = e in cc)
of_method (is_method x y z) e = (_, refl)

no_body : {a : List Sym} {m : Method} → Derives ABody a (MethodTree m) → ⊥
no_body d = let k = (of_body d refl).1 in cc

no_method : {a : List Sym} {b : Body} → Derives AMethod a (BodyTree b) → ⊥
no_method d = let k = (of_method d refl).1 in cc

tree_fits : (t : Target) (a : List Sym) (tree : Tree) → Derives (production_of t) a tree → kind_of t tree ≡ None → ⊥
tree_fits (target.Initializer n) a (BodyTree b) d e = let k : Some (kinds.Initializer n b) ≡ None = e in cc
tree_fits (target.PoolInitializer p n) a (BodyTree b) d e = let k : Some (kinds.PoolInitializer p n b) ≡ None = e in cc
tree_fits target.ProgramInitializer a (BodyTree b) d e = let k : Some (kinds.ProgramInitializer b) ≡ None = e in cc
tree_fits (target.Method c) a (MethodTree m) d e = let k : Some (kinds.Method c m) ≡ None = e in cc
tree_fits (target.ClassMethod c) a (MethodTree m) d e = let k : Some (kinds.ClassMethod c m) ≡ None = e in cc
tree_fits (target.Initializer n) a (MethodTree m) d e = no_body d
tree_fits (target.PoolInitializer p n) a (MethodTree m) d e = no_body d
tree_fits target.ProgramInitializer a (MethodTree m) d e = no_body d
tree_fits (target.Method c) a (BodyTree b) d e = no_method d
tree_fits (target.ClassMethod c) a (BodyTree b) d e = no_method d

-- the first element says nothing but a whole unit
judged_whole : (w : Walk) (kind : UnitKind) (lexical : Option LexFault) (len : ℕ) (h : Header) → judged w (Whole kind) lexical len ≡ Says h → Whole kind ≡ h
judged_whole (Stuck byte) kind lexical len h e = absurd (let k : Faulty byte reason.Syntax ≡ Says h = e in cc)
judged_whole Filled kind None len h e = let k : Says (Whole kind) ≡ Says h = e in cc
judged_whole Filled kind (Some f) len h e = absurd (let k : Faulty f.byte f.reason ≡ Says h = e in cc)
judged_whole Short kind None len h e = absurd (let k : Faulty len reason.Syntax ≡ Says h = e in cc)
judged_whole Short kind (Some f) len h e = absurd (let k : Faulty f.byte f.reason ≡ Says h = e in cc)

then_says : (b : Bool) (x : Element) (byte : ℕ) (why : Reason) (h : Header) → (if b then x else Faulty byte why) ≡ Says h → x ≡ Says h
then_says true x byte why h e = e
then_says false x byte why h e = absurd (let k : Faulty byte why ≡ Says h = e in cc)

first_is_whole : (text : List ℕ) (h : Header) → first_element text ≡ Says h → (kind : UnitKind) × (Whole kind ≡ h)
first_is_whole text h e = (_, judged_whole _ _ _ _ h (then_says (begins_version text (lexed_of text).tokens) _ 0 reason.MissingVersion h e))

takes_first : (text : List ℕ) (e : Element) (q : Progress) → first_element text ≡ e → behind_element [] e ≡ Goes q → Takes Start text q
takes_first text (Says (Whole kind)) q is h = subst (Takes Start text) (goes_same h) (version is)
takes_first text (Says (Awaits t)) q is h = absurd (let k = (first_is_whole text (Awaits t) is).1 in cc)
takes_first text (Says (Annotates a)) q is h = absurd (let k = (first_is_whole text (Annotates a) is).1 in cc)
takes_first text (Faulty byte why) q is h = absurd (goes_or_spoilt (sym h))

takes_element : (us : List Unit) (text : List ℕ) (e : Element) (q : Progress) → element text ≡ e → behind_element us e ≡ Goes q → Takes (Between us) text q
takes_element us text (Says (Whole kind)) q is h = subst (Takes (Between us) text) (goes_same h) (whole is)
takes_element us text (Says (Awaits t)) q is h = subst (Takes (Between us) text) (goes_same h) (header is)
takes_element us text (Says (Annotates a)) q is h = subst (Takes (Between us) text) (goes_same h) (annotation is)
takes_element us text (Faulty byte why) q is h = absurd (goes_or_spoilt (sym h))

takes_tree : (us : List Unit) (t : Target) (text : List ℕ) (tree : Tree) (k : Option UnitKind) (q : Progress) → TextIs (production_of t) text tree → kind_of t tree ≡ k → behind_tree us k ≡ Goes q → Takes (Awaiting us t) text q
takes_tree us t text tree None q m is h = absurd (goes_or_spoilt (sym h))
takes_tree us t text tree (Some kind) q m is h = subst (Takes (Awaiting us t) text) (goes_same h) (text_of_header m (kind_made t tree kind is))

takes_text : (us : List Unit) (t : Target) (text : List ℕ) (v : Verdict) (q : Progress) → Means (production_of t) text (lexed_of text).tokens (lexed_of text).fault v → behind_text us t v ≡ Goes q → Takes (Awaiting us t) text q
takes_text us t text (Good tree) q m h = takes_tree us t text tree (kind_of t tree) q m refl h
takes_text us t text (Bad byte why) q m h = absurd (goes_or_spoilt (sym h))

pub takes_of : (p : Progress) (text : List ℕ) (q : Progress) → step_of p text ≡ Goes q → Takes p text q
takes_of Start text q h = takes_first text (first_element text) q refl h
takes_of (Between us) text q h = takes_element us text (element text) q refl h
takes_of (Awaiting us t) text q h = takes_text us t text (verdict_of (production_of t) text (lexed_of text).tokens (lexed_of text).fault) q (verdict_right (production_of t) text (lexed_of text).fault (lexed_of text).tokens) h

spoils_same : (p : Progress) (text : List ℕ) (a b : ℕ) (v w : Reason) → Spoilt a v ≡ Spoilt b w → Spoils p text a v → Spoils p text b w
spoils_same p text a b v w e s = subst (λ x. Spoils p text x w) (spoilt_byte e) (subst (λ x. Spoils p text a x) (spoilt_why e) s)

spoils_first : (text : List ℕ) (e : Element) (b : ℕ) (w : Reason) → first_element text ≡ e → behind_element [] e ≡ Spoilt b w → Spoils Start text b w
spoils_first text (Says (Whole kind)) b w is h = absurd (goes_or_spoilt h)
spoils_first text (Says (Awaits t)) b w is h = absurd (goes_or_spoilt h)
spoils_first text (Says (Annotates a)) b w is h = absurd (goes_or_spoilt h)
spoils_first text (Faulty byte why) b w is h = spoils_same Start text byte b why w h (no_version is)

spoils_element : (us : List Unit) (text : List ℕ) (e : Element) (b : ℕ) (w : Reason) → element text ≡ e → behind_element us e ≡ Spoilt b w → Spoils (Between us) text b w
spoils_element us text (Says (Whole kind)) b w is h = absurd (goes_or_spoilt h)
spoils_element us text (Says (Awaits t)) b w is h = absurd (goes_or_spoilt h)
spoils_element us text (Says (Annotates a)) b w is h = absurd (goes_or_spoilt h)
spoils_element us text (Faulty byte why) b w is h = spoils_same (Between us) text byte b why w h (no_element is)

spoils_tree : (us : List Unit) (t : Target) (text : List ℕ) (tree : Tree) (k : Option UnitKind) (b : ℕ) (w : Reason) → TextIs (production_of t) text tree → kind_of t tree ≡ k → behind_tree us k ≡ Spoilt b w → Spoils (Awaiting us t) text b w
spoils_tree us t text tree None b w m is h = absurd (tree_fits t _ tree m.derives is)
spoils_tree us t text tree (Some kind) b w m is h = absurd (goes_or_spoilt h)

spoils_text : (us : List Unit) (t : Target) (text : List ℕ) (v : Verdict) (b : ℕ) (w : Reason) → Means (production_of t) text (lexed_of text).tokens (lexed_of text).fault v → behind_text us t v ≡ Spoilt b w → Spoils (Awaiting us t) text b w
spoils_text us t text (Good tree) b w m h = spoils_tree us t text tree (kind_of t tree) b w m refl h
spoils_text us t text (Bad byte why) b w m h = spoils_same (Awaiting us t) text byte b why w h (no_text m)

spoils_of : (p : Progress) (text : List ℕ) (b : ℕ) (w : Reason) → step_of p text ≡ Spoilt b w → Spoils p text b w
spoils_of Start text b w h = spoils_first text (first_element text) b w refl h
spoils_of (Between us) text b w h = spoils_element us text (element text) b w refl h
spoils_of (Awaiting us t) text b w h = spoils_text us t text (verdict_of (production_of t) text (lexed_of text).tokens (lexed_of text).fault) b w (verdict_right (production_of t) text (lexed_of text).fault (lexed_of text).tokens) h

-- ---- all elements

chosen : {b : Bool} (x y : Answer) → b ≡ true → (if b then x else y) ≡ x
chosen x y e = rw e refl

passed : {b : Bool} (x y : Answer) → b ≡ false → (if b then x else y) ≡ y
passed x y e = rw e refl

-- an element that ends the reading, and one that goes on
on_spoilt : (n byte : ℕ) (why : Reason) (step : Step) (later : Progress → Answer) → step ≡ Spoilt byte why → behind_step n step later ≡ Refuse n byte why
on_spoilt n byte why step later e = rw e refl

on_taken : (n : ℕ) (q : Progress) (step : Step) (later : Progress → Answer) → step ≡ Goes q → behind_step n step later ≡ later q
on_taken n q step later e = rw e refl

pub answers_made : {p : Progress} {ended : Bool} {n : ℕ} {texts : List (List ℕ)} {rest : List ℕ} {a : Answer} → Answers p ended n texts rest a → answer_on p ended n texts rest ≡ a
answers_made (long_text h) = chosen _ _ (lt-ltb _ _ h)
answers_made (white_text h w k) = passed _ _ (le-ltb _ _ h) ∙ chosen _ _ w ∙ answers_made k
answers_made (spoiled h w s) = passed _ _ (le-ltb _ _ h) ∙ passed _ _ w ∙ on_spoilt _ _ _ _ _ (step_spoils s)
answers_made (taken h w t k) = passed _ _ (le-ltb _ _ h) ∙ passed _ _ w ∙ on_taken _ _ _ _ (step_takes t) ∙ answers_made k
answers_made (long_rest h) = chosen _ _ (lt-ltb _ _ h)
answers_made (long_input h) = passed _ _ (le-ltb _ _ h)
answers_made (unfinished h w) = passed _ _ (le-ltb _ _ h) ∙ passed _ _ w
answers_made (nothing_read h w) = passed _ _ (le-ltb _ _ h) ∙ chosen _ _ w
answers_made (no_text_behind h w) = passed _ _ (le-ltb _ _ h) ∙ chosen _ _ w
answers_made (all_read h w) = passed _ _ (le-ltb _ _ h) ∙ chosen _ _ w

rest_by : (p : Progress) (ended : Bool) (n : ℕ) (rest : List ℕ) (long white : Bool) → nat_lt max_text (length rest) ≡ long → is_white rest ≡ white
    → Answers p ended n [] rest (if long then Refuse n max_text reason.ElementTooLong else (if not ended then Refuse n (length rest) reason.InputTooLong else (if white then at_end p n else Refuse n (length rest) reason.Unfinished)))
rest_by p ended n rest true white h w = long_rest (ltb-true _ _ h)
rest_by p false n rest false white h w = long_input (ltb-false _ _ h)
rest_by p true n rest false false h w = unfinished (ltb-false _ _ h) w
rest_by Start true n rest false true h w = nothing_read (ltb-false _ _ h) w
rest_by (Between us) true n rest false true h w = all_read (ltb-false _ _ h) w
rest_by (Awaiting us t) true n rest false true h w = no_text_behind (ltb-false _ _ h) w

text_by : (p : Progress) (ended : Bool) (n : ℕ) (text : List ℕ) (texts : List (List ℕ)) (rest : List ℕ) (long white : Bool) (step : Step)
    → nat_lt max_text (length text) ≡ long → is_white text ≡ white → step_of p text ≡ step
    → Answers p ended n texts rest (answer_on p ended n texts rest) → ((q : Progress) → Answers q ended (n + 1) texts rest (answer_on q ended (n + 1) texts rest))
    → Answers p ended n (text ∷ texts) rest (if long then Refuse n max_text reason.ElementTooLong else (if white then answer_on p ended n texts rest else behind_step n step (λ q. answer_on q ended (n + 1) texts rest)))
text_by p ended n text texts rest true white step h w s here later = long_text (ltb-true _ _ h)
text_by p ended n text texts rest false true step h w s here later = white_text (ltb-false _ _ h) w here
text_by p ended n text texts rest false false (Goes q) h w s here later = taken (ltb-false _ _ h) w (takes_of p text q s) (later q)
text_by p ended n text texts rest false false (Spoilt byte why) h w s here later = spoiled (ltb-false _ _ h) w (spoils_of p text byte why s)

pub answers_hold : (p : Progress) (ended : Bool) (n : ℕ) (texts : List (List ℕ)) (rest : List ℕ) → Answers p ended n texts rest (answer_on p ended n texts rest)
answers_hold p ended n [] rest = rest_by p ended n rest (nat_lt max_text (length rest)) (is_white rest) refl refl
answers_hold p ended n (text ∷ texts) rest =
    text_by p ended n text texts rest (nat_lt max_text (length text)) (is_white text) (step_of p text) refl refl refl
    (answers_hold p ended n texts rest) (λ q. answers_hold q ended (n + 1) texts rest)

-- ---- whole inputs

pub reads : (bytes : List ℕ) (us : List Unit) → Reads bytes us ↔ (reading bytes ≡ Read us)
unfolding answer_of
reads bytes us =
    (λ h. answers_made h, λ e. subst (Answers Start (is_whole true bytes) 1 (parts true bytes).texts (parts true bytes).rest) e (answers_hold Start (is_whole true bytes) 1 (parts true bytes).texts (parts true bytes).rest))

pub refuses : (bytes : List ℕ) (number byte : ℕ) (why : Reason) → Refuses bytes true number byte why ↔ (reading bytes ≡ Refuse number byte why)
unfolding answer_of
refuses bytes number byte why = (
  λ h. answers_made h.answers,
  λ e. record {
    answers = subst (Answers Start (is_whole true bytes) 1 (parts true bytes).texts (parts true bytes).rest) e (answers_hold Start (is_whole true bytes) 1 (parts true bytes).texts (parts true bytes).rest);
    longer = λ f. absurd (let k : true ≡ false = f in cc);
  },
)
