-- A walk over a body, a part at a time.
use Rattle.std.proofs.Common.{◌≡◌, ◌+◌, ◌<◌, ◌≤◌, ℕ, Bool, true, false, cond, ◌&&◌, List, [], ◌∷◌, ◌++◌, length, get_or, take, map, Option, None, Some, ◌⊎◌, inl, inr, refl, ap, sym, ◌∙◌, append_assoc, append-nil}
use Rattle.std.proofs.lemmas.List.{take_more, take_all, map_push}
use Rattle.st_tree.specs.declared.tree.Name.{Name}
use Rattle.st_tree.specs.declared.tree.Body.{Body}
use Rattle.st_tree.specs.declared.units.Unit.{Unit as FileUnit}
use Rattle.st_tree.specs.declared.tree.Expr.{Expr, out-Expr}
use Rattle.st_tree.specs.declared.tree.Operand.{Operand, out-Operand}
use Rattle.st_checks.specs.Bodies.{Scope, Mention, Naming, Within, mention, both, nothing_named, only_mentions, all_within, in_own_scope, names_in_primary, names_in_body, names_in_expr, names_in_message, names_in_operand}
use Rattle.st_checks.proofs.Naming.{expr_out, operand_out}
use Rattle.st_checks.specs.Faults.{IsBodyFaults}
use Rattle.st_checks.specs.Meanings.{Meaning, Undeclared, Fixed, Assignable, Written}
use Rattle.st_checks.specs.StaticRules.{repeated_from, repeated_in, places, is_undeclared, is_fixed, least, repeated_name, undeclared_name, fixed_name}
use Rattle.st_checks.specs.Views.{Viewpoint, meant, seen, lesser_of, joined, no_faults, faults_of}
use Rattle.st_checks.specs.Walks.{noted, entered, left}
use Rattle.st_checks.specs.declared.bodies.BodyFaults.{BodyFaults}
use Rattle.st_checks.specs.declared.meaning.Meaning.{Meaning as Meant}
use Rattle.st_checks.specs.declared.meaning.Meaning.TheVariants as meants
use Rattle.st_checks.specs.declared.bodies.Walk.{Walk}
use Rattle.st_checks.proofs.Repeats.{if-append}
use Rattle.st_checks.proofs.Leasts.{place_if, least-if, least-append, lesser_of-assoc, lesser_of-none}

-- ---- the faults of two parts

repeated_in-append : (a b : List Scope) → repeated_in (a ++ b) ≡ repeated_in a ++ repeated_in b
repeated_in-append [] b = refl
repeated_in-append (s ∷ a) b =
    ap (λ (l : List ℕ). repeated_from [] (s.parameters ++ s.temporaries) ++ l) (repeated_in-append a b)
    ∙ sym (append_assoc (repeated_from [] (s.parameters ++ s.temporaries)) (repeated_in a) (repeated_in b))

places-append : (test : Mention → Bool) (a b : List Mention) → places test (a ++ b) ≡ places test a ++ places test b
places-append test [] b = refl
places-append test (m ∷ a) b = if-append (test m) m.name.at (places test a) (places test b) (places test (a ++ b)) (places-append test a b)

repeated-both : (a b : List Scope) → least (repeated_in (a ++ b)) ≡ lesser_of (least (repeated_in a)) (least (repeated_in b))
repeated-both a b = ap least (repeated_in-append a b) ∙ least-append (repeated_in a) (repeated_in b)

places-both : (test : Mention → Bool) (a b : List Mention) → least (places test (a ++ b)) ≡ lesser_of (least (places test a)) (least (places test b))
places-both test a b = ap least (places-append test a b) ∙ least-append (places test a) (places test b)

faults_of-both : (v : Viewpoint) (a b : Naming) → faults_of v (both a b) ≡ joined (faults_of v a) (faults_of v b)
unfolding faults_of
faults_of-both v a b =
    let undeclared : Mention → Bool = λ m. is_undeclared (seen v m) in
    let fixed : Mention → Bool = λ m. m.assigned && is_fixed (seen v m) in
    let r : least (repeated_in (a.scopes ++ b.scopes)) ≡ lesser_of (least (repeated_in a.scopes)) (least (repeated_in b.scopes)) = repeated-both a.scopes b.scopes in
    let u : least (places undeclared (a.mentions ++ b.mentions)) ≡ lesser_of (least (places undeclared a.mentions)) (least (places undeclared b.mentions)) = places-both undeclared a.mentions b.mentions in
    let f : least (places fixed (a.mentions ++ b.mentions)) ≡ lesser_of (least (places fixed a.mentions)) (least (places fixed b.mentions)) = places-both fixed a.mentions b.mentions in
    λ i. record { repeated = r i; undeclared = u i; fixed = f i }

joined-assoc : (a b c : BodyFaults) → joined a (joined b c) ≡ joined (joined a b) c
joined-assoc a b c =
    let r : lesser_of a.repeated (lesser_of b.repeated c.repeated) ≡ lesser_of (lesser_of a.repeated b.repeated) c.repeated = lesser_of-assoc a.repeated b.repeated c.repeated in
    let u : lesser_of a.undeclared (lesser_of b.undeclared c.undeclared) ≡ lesser_of (lesser_of a.undeclared b.undeclared) c.undeclared = lesser_of-assoc a.undeclared b.undeclared c.undeclared in
    let f : lesser_of a.fixed (lesser_of b.fixed c.fixed) ≡ lesser_of (lesser_of a.fixed b.fixed) c.fixed = lesser_of-assoc a.fixed b.fixed c.fixed in
    λ i. record { repeated = r i; undeclared = u i; fixed = f i }

joined-nothing : (a : BodyFaults) (v : Viewpoint) → joined a (faults_of v nothing_named) ≡ a
unfolding faults_of
joined-nothing a v =
    let r : lesser_of a.repeated None ≡ a.repeated = lesser_of-none a.repeated in
    let u : lesser_of a.undeclared None ≡ a.undeclared = lesser_of-none a.undeclared in
    let f : lesser_of a.fixed None ≡ a.fixed = lesser_of-none a.fixed in
    λ i. record { repeated = r i; undeclared = u i; fixed = f i }

-- ---- one part after another

pub noted-both : (w : Walk) (a b : Naming) → noted (noted w a) b ≡ noted w (both a b)
unfolding noted
noted-both w a b = ap (λ (f : BodyFaults). record w { faults = f }) (sym (joined-assoc w.faults (faults_of w.view a) (faults_of w.view b)) ∙ ap (joined w.faults) (sym (faults_of-both w.view a b)))

pub noted-nothing : (w : Walk) → noted w nothing_named ≡ w
unfolding noted
noted-nothing w = ap (λ (f : BodyFaults). record w { faults = f }) (joined-nothing w.faults w.view)

pub noted-scopes : (w : Walk) (n : Naming) → (noted w n).scopes ≡ w.scopes
unfolding noted
noted-scopes w n = refl

pub noted-then : (a b : Within) (w0 w1 w2 : Walk) → w1 ≡ noted w0 (a w0.scopes) → w2 ≡ noted w1 (b w1.scopes) → w2 ≡ noted w0 (both (a w0.scopes) (b w0.scopes))
noted-then a b w0 w1 w2 e f =
    f
    ∙ ap (λ (w : Walk). noted w (b w.scopes)) e
    ∙ ap (λ (scopes : List Scope). noted (noted w0 (a w0.scopes)) (b scopes)) (noted-scopes w0 (a w0.scopes))
    ∙ noted-both w0 (a w0.scopes) (b w0.scopes)

-- ---- a list of parts

both-assoc : (a b c : Naming) → both (both a b) c ≡ both a (both b c)
both-assoc a b c =
    let s : (a.scopes ++ b.scopes) ++ c.scopes ≡ a.scopes ++ (b.scopes ++ c.scopes) = append_assoc a.scopes b.scopes c.scopes in
    let m : (a.mentions ++ b.mentions) ++ c.mentions ≡ a.mentions ++ (b.mentions ++ c.mentions) = append_assoc a.mentions b.mentions c.mentions in
    λ i. record { scopes = s i; mentions = m i }

both-nothing : (a : Naming) → both a nothing_named ≡ a
both-nothing a =
    let s : a.scopes ++ [] ≡ a.scopes = append-nil a.scopes in
    let m : a.mentions ++ [] ≡ a.mentions = append-nil a.mentions in
    λ i. record { scopes = s i; mentions = m i }

all_within-push : (ws : List Within) (w : Within) (scopes : List Scope) → all_within (ws ++ w ∷ []) scopes ≡ both (all_within ws scopes) (w scopes)
all_within-push [] w scopes = both-nothing (w scopes)
all_within-push (v ∷ ws) w scopes = ap (both (v scopes)) (all_within-push ws w scopes) ∙ sym (both-assoc (v scopes) (all_within ws scopes) (w scopes))

-- a loop over parts has walked these
pub so_far : {A : Type 0} → (A → Within) → Walk → List A → Walk
so_far f w xs = noted w (all_within (map f xs) w.scopes)

pub so_far-none : {A : Type 0} (f : A → Within) (w : Walk) → w ≡ noted w (all_within (map f []) w.scopes)
so_far-none f w = sym (noted-nothing w)

pub so_far-more : {A : Type 0} (f : A → Within) (w0 w1 w2 : Walk) (xs : List A) (i : ℕ) (x : A) → i < length xs → x ≡ get_or xs i x → w1 ≡ noted w0 (all_within (map f (take i xs)) w0.scopes) → w2 ≡ noted w1 (f x w1.scopes) → w2 ≡ noted w0 (all_within (map f (take (i + 1) xs)) w0.scopes)
so_far-more {A} f w0 w1 w2 xs i x low is e g =
    let whole : take i xs ++ x ∷ [] ≡ take (i + 1) xs = rw (take_more xs i x low, ← is) refl in
    noted-then (all_within (map f (take i xs))) (f x) w0 w1 w2 e g
    ∙ ap (noted w0) (sym (all_within-push (map f (take i xs)) (f x) w0.scopes))
    ∙ ap (λ (l : List Within). noted w0 (all_within l w0.scopes)) (sym (map_push f (take i xs) x))
    ∙ ap (λ (l : List A). noted w0 (all_within (map f l) w0.scopes)) whole

-- names that are assigned
abbrev pub target : Name → Within
target n scopes = only_mentions (mention true scopes n ∷ [])

pub targets-all : (names : List Name) (scopes : List Scope) → all_within (map target names) scopes ≡ only_mentions (map (mention true scopes) names)
targets-all [] scopes = refl
targets-all (n ∷ names) scopes = ap (λ (m : Naming). both (target n scopes) m) (targets-all names scopes)

pub so_far-all : {A : Type 0} (f : A → Within) (w0 w1 : Walk) (xs : List A) (i : ℕ) → length xs ≤ i → w1 ≡ noted w0 (all_within (map f (take i xs)) w0.scopes) → w1 ≡ noted w0 (all_within (map f xs) w0.scopes)
so_far-all {A} f w0 w1 xs i done e = e ∙ ap (λ (l : List A). noted w0 (all_within (map f l) w0.scopes)) (take_all i xs done)

-- ---- a mention

abbrev with_faults : Walk → (undeclared fixed : Option ℕ) → Walk
with_faults w undeclared fixed = record w { faults = record { repeated = w.faults.repeated; undeclared = undeclared; fixed = fixed } }

noted-mention : (w : Walk) (m : Mention) (u f : Bool) → is_undeclared (seen w.view m) ≡ u → (m.assigned && is_fixed (seen w.view m)) ≡ f → noted w (only_mentions (m ∷ [])) ≡ with_faults w (lesser_of w.faults.undeclared (place_if u m.name.at)) (lesser_of w.faults.fixed (place_if f m.name.at))
unfolding noted faults_of
noted-mention w m u f e g =
    let r : lesser_of w.faults.repeated None ≡ w.faults.repeated = lesser_of-none w.faults.repeated in
    let p : least (cond (is_undeclared (seen w.view m)) (m.name.at ∷ []) []) ≡ place_if u m.name.at = ap (λ (b : Bool). least (cond b (m.name.at ∷ []) [])) e ∙ least-if u m.name.at in
    let q : least (cond (m.assigned && is_fixed (seen w.view m)) (m.name.at ∷ []) []) ≡ place_if f m.name.at = ap (λ (b : Bool). least (cond b (m.name.at ∷ []) [])) g ∙ least-if f m.name.at in
    λ i. record w { faults = record { repeated = r i; undeclared = lesser_of w.faults.undeclared (p i); fixed = lesser_of w.faults.fixed (q i) } }

and-false : (b : Bool) → (b && false) ≡ false
and-false true = refl
and-false false = refl

pub saw-undeclared : (w : Walk) (n : Name) (assigned : Bool) (p : Option ℕ) → Undeclared ≡ seen w.view (mention assigned w.scopes n) → p ≡ lesser_of w.faults.undeclared (Some n.at) → with_faults w p w.faults.fixed ≡ noted w (only_mentions (mention assigned w.scopes n ∷ []))
saw-undeclared w n assigned p e is =
    ap (λ (o : Option ℕ). with_faults w o w.faults.fixed) is
    ∙ ap (with_faults w (lesser_of w.faults.undeclared (Some n.at))) (sym (lesser_of-none w.faults.fixed))
    ∙ sym (noted-mention w (mention assigned w.scopes n) true false (ap is_undeclared (sym e)) (ap (λ (m : Meaning). assigned && is_fixed m) (sym e) ∙ and-false assigned))

pub saw-assignable : (w : Walk) (n : Name) (assigned : Bool) → Assignable ≡ seen w.view (mention assigned w.scopes n) → w ≡ noted w (only_mentions (mention assigned w.scopes n ∷ []))
saw-assignable w n assigned e =
    ap (λ (o : Option ℕ). with_faults w o w.faults.fixed) (sym (lesser_of-none w.faults.undeclared))
    ∙ ap (with_faults w (lesser_of w.faults.undeclared None)) (sym (lesser_of-none w.faults.fixed))
    ∙ sym (noted-mention w (mention assigned w.scopes n) false false (ap is_undeclared (sym e)) (ap (λ (m : Meaning). assigned && is_fixed m) (sym e) ∙ and-false assigned))

saw-fixed : (w : Walk) (n : Name) → Fixed ≡ seen w.view (mention false w.scopes n) → w ≡ noted w (only_mentions (mention false w.scopes n ∷ []))
saw-fixed w n e =
    ap (λ (o : Option ℕ). with_faults w o w.faults.fixed) (sym (lesser_of-none w.faults.undeclared))
    ∙ ap (with_faults w (lesser_of w.faults.undeclared None)) (sym (lesser_of-none w.faults.fixed))
    ∙ sym (noted-mention w (mention false w.scopes n) false false (ap is_undeclared (sym e)) refl)

pub saw-known : (w : Walk) (n : Name) (r : Meant) → (r ≡ meants.Fixed) ⊎ (r ≡ meants.Assignable) → meant r ≡ seen w.view (mention false w.scopes n) → w ≡ noted w (only_mentions (mention false w.scopes n ∷ []))
saw-known w n r (inl e) is = saw-fixed w n (sym (ap meant e) ∙ is)
saw-known w n r (inr e) is = saw-assignable w n false (sym (ap meant e) ∙ is)

pub assigned-fixed : (w : Walk) (n : Name) (p : Option ℕ) → Fixed ≡ seen w.view (mention true w.scopes n) → p ≡ lesser_of w.faults.fixed (Some n.at) → with_faults w w.faults.undeclared p ≡ noted w (only_mentions (mention true w.scopes n ∷ []))
assigned-fixed w n p e is =
    ap (with_faults w w.faults.undeclared) is
    ∙ ap (λ (o : Option ℕ). with_faults w o (lesser_of w.faults.fixed (Some n.at))) (sym (lesser_of-none w.faults.undeclared))
    ∙ sym (noted-mention w (mention true w.scopes n) false true (ap is_undeclared (sym e)) (ap is_fixed (sym e)))

-- ---- a body in its own scope

pub entered-scope : (w : Walk) (s : Scope) (scopes : List Scope) (r : Option ℕ) → scopes ≡ s ∷ w.scopes → r ≡ lesser_of w.faults.repeated (least (repeated_from [] (s.parameters ++ s.temporaries))) → record w { scopes = scopes; faults = record w.faults { repeated = r } } ≡ entered w s
unfolding entered noted faults_of
entered-scope w s scopes r e is =
    let all : repeated_from [] (s.parameters ++ s.temporaries) ++ [] ≡ repeated_from [] (s.parameters ++ s.temporaries) = append-nil (repeated_from [] (s.parameters ++ s.temporaries)) in
    let p : r ≡ lesser_of w.faults.repeated (least (repeated_from [] (s.parameters ++ s.temporaries) ++ [])) = is ∙ ap (λ (l : List ℕ). lesser_of w.faults.repeated (least l)) (sym all) in
    let u : w.faults.undeclared ≡ lesser_of w.faults.undeclared None = sym (lesser_of-none w.faults.undeclared) in
    let f : w.faults.fixed ≡ lesser_of w.faults.fixed None = sym (lesser_of-none w.faults.fixed) in
    λ i. record w { scopes = e i; faults = record { repeated = p i; undeclared = u i; fixed = f i } }

left-noted : (w0 : Walk) (s : Scope) (n : Naming) → left (noted (entered w0 s) n) ≡ noted w0 (both (record { scopes = s ∷ []; mentions = [] }) n)
unfolding noted entered
left-noted w0 s n =
    ap (λ (f : BodyFaults). record w0 { faults = f })
    (sym (joined-assoc w0.faults (faults_of w0.view (record { scopes = s ∷ []; mentions = [] })) (faults_of w0.view n))
    ∙ ap (joined w0.faults) (sym (faults_of-both w0.view (record { scopes = s ∷ []; mentions = [] }) n)))

entered-scopes : (w0 : Walk) (s : Scope) → (entered w0 s).scopes ≡ s ∷ w0.scopes
unfolding entered
entered-scopes w0 s = refl

pub walked-body : (w0 w1 w2 w3 : Walk) (s : Scope) (ws : List Within) → w1 ≡ entered w0 s → w2 ≡ noted w1 (all_within ws w1.scopes) → w3 ≡ left w2 → w3 ≡ noted w0 (in_own_scope s ws w0.scopes)
walked-body w0 w1 w2 w3 s ws e f g =
    g
    ∙ ap left f
    ∙ ap (λ (w : Walk). left (noted w (all_within ws w.scopes))) e
    ∙ ap (λ (scopes : List Scope). left (noted (entered w0 s) (all_within ws scopes))) (entered-scopes w0 s)
    ∙ left-noted w0 s (all_within ws (s ∷ w0.scopes))

-- ---- an expression

pub walked-expr : (e : Expr) (w0 w1 w2 w3 : Walk) → w1 ≡ noted w0 (only_mentions (map (mention true w0.scopes) (out-Expr e).targets)) → w2 ≡ noted w1 (names_in_operand (out-Expr e).operand w1.scopes) → w3 ≡ noted w2 (all_within (map names_in_message (out-Expr e).cascade) w2.scopes) → w3 ≡ noted w0 (names_in_expr e w0.scopes)
walked-expr e w0 w1 w2 w3 a b c =
    let assigned : Within = λ scopes. only_mentions (map (mention true scopes) (out-Expr e).targets) in
    let operand : Within = names_in_operand (out-Expr e).operand in
    let cascade : Within = all_within (map names_in_message (out-Expr e).cascade) in
    noted-then assigned (λ scopes. both (operand scopes) (cascade scopes)) w0 w1 w3 a (noted-then operand cascade w1 w2 w3 b c)
    ∙ ap (noted w0) (sym (expr_out e w0.scopes))

pub walked-operand : (o : Operand) (w0 w1 w2 : Walk) → w1 ≡ noted w0 (names_in_primary (out-Operand o).primary w0.scopes) → w2 ≡ noted w1 (all_within (map names_in_message (out-Operand o).chain) w1.scopes) → w2 ≡ noted w0 (names_in_operand o w0.scopes)
walked-operand o w0 w1 w2 a b =
    noted-then (names_in_primary (out-Operand o).primary) (all_within (map names_in_message (out-Operand o).chain)) w0 w1 w2 a b
    ∙ ap (noted w0) (sym (operand_out o w0.scopes))

-- ---- a whole body

from-start : (v : Viewpoint) (b : Body) (parameters : List Name) (start end : Walk) → start.view ≡ v → start.scopes ≡ [] → start.faults ≡ no_faults → end ≡ noted start (names_in_body b parameters start.scopes) → end.faults ≡ faults_of v (names_in_body b parameters [])
unfolding noted
from-start v b parameters start end view scopes none walked = ap (λ (w : Walk). w.faults) walked ∙ rw (view, scopes, none) refl

pub walked-whole : (units : List FileUnit) (w : Written) (start end : Walk) → start.view ≡ record { units = units; class = w.class; side = w.side } → start.scopes ≡ [] → start.faults ≡ no_faults → end ≡ noted start (names_in_body w.body w.parameters start.scopes) → IsBodyFaults units w end.faults
unfolding faults_of repeated_name undeclared_name fixed_name
walked-whole units w start end view scopes none walked =
    let v : Viewpoint = record { units = units; class = w.class; side = w.side } in
    let found : end.faults ≡ faults_of v (names_in_body w.body w.parameters []) = from-start v w.body w.parameters start end view scopes none walked in
    record {
      repeated = ap (λ (f : BodyFaults). f.repeated) found;
      undeclared = ap (λ (f : BodyFaults). f.undeclared) found;
      fixed = ap (λ (f : BodyFaults). f.fixed) found;
    }
