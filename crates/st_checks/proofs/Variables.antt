-- Maps of the variables of a scope, as names are declared.
use Rattle.std.proofs.Common.{◌≡◌, ℕ, Bool, true, false, cond, ◌||◌, List, [], ◌∷◌, ◌++◌, Option, None, Some, is_some, reverse, refl, ap, sym, ◌∙◌}
use Rattle.std.proofs.lemmas.List.{reverse-append}
use Rattle.std.specs.HashMap.{HashMap, get, get_by}
use Rattle.std.specs.List.{list_any}
use Rattle.std.specs.Map.{lookup}
use Rattle.std.specs.Option.{option_or}
use Rattle.std.specs.Str.{bytes_eq}
use Rattle.st_tree.specs.declared.tree.Name.{Name}
use Rattle.st_checks.specs.Declarations.{Text}
use Rattle.st_checks.specs.Bodies.{Scope}
use Rattle.st_checks.specs.Meanings.{declares, in_scope, in_scopes, or_else, fixed_if, assignable_if}
use Rattle.st_checks.specs.NameSets.{Bytes, same_bytes, option_if, variable_in, of_variable, Gains, AreSeen}
use Rattle.st_checks.specs.StaticRules.{least, repeated_from}
use Rattle.st_checks.specs.Views.{lesser_of}
use Rattle.st_checks.specs.declared.scopes.Variable.{Variable}
use Rattle.st_checks.specs.declared.scopes.Variable.TheVariants as variables
use Rattle.st_checks.proofs.Leasts.{place_if, least-if, least-append, lesser_of-assoc, lesser_of-none}
use Rattle.st_checks.proofs.Repeats.{seen_after, seen_after-any, declares-push, repeated_from-append, bytes_eq-is}
use Rattle.st_checks.proofs.NameLists.{bytes_eq-sym}

some-or : (o : Option Variable) (b : Bool) (v : Variable) → is_some (option_or o (option_if b v)) ≡ (is_some o || b)
some-or None true v = refl
some-or None false v = refl
some-or (Some x) b v = refl

pub none-of : {A : Type 0} (o : Option A) → is_some o ≡ false → o ≡ None
none-of None h = refl
none-of (Some x) h = absurd (cc)

present-step : (o : Option Variable) (d b : Bool) (v : Variable) (g : Option Variable) → g ≡ option_or o (option_if d v) → (b ≡ true → is_some g ≡ true) → g ≡ option_or o (option_if (d || b) v)
present-step o true b v g e h = e
present-step o false false v g e h = e
present-step (Some x) false true v g e h = e
present-step None false true v g e h = absurd (let there : true ≡ is_some g = sym (h refl) in cc)

absent-step : (o : Option Variable) (d b : Bool) (v : Variable) (g h : Option Variable) → g ≡ option_or o (option_if d v) → h ≡ cond b (Some v) g → (b ≡ true → g ≡ None) → h ≡ option_or o (option_if (d || b) v)
absent-step o true false v g h e f n = f ∙ e
absent-step o false false v g h e f n = f ∙ e
absent-step (Some x) d true v g h e f n = absurd (let none : g ≡ None = n refl in cc)
absent-step None true true v g h e f n = absurd (let none : g ≡ None = n refl in cc)
absent-step None false true v g h e f n = f

module _ {S : Type 0} where
  get-same : (m : HashMap Bytes Variable S) (k q : Bytes) → k.now ≡ q.now → get same_bytes m q ≡ get same_bytes m k
  get-same m k q e = ap (λ (t : Text). get_by (λ (x : Bytes). bytes_eq t x.now) m) (sym e)

  -- a name that the map has changes nothing
  pub gains-present : (m0 m1 : HashMap Bytes Variable S) (names : List Name) (v : Variable) (n : Name) (k : Bytes) → Gains m0 names v m1 → k.now ≡ n.text → is_some (get same_bytes m1 k) ≡ true → Gains m0 (names ++ n ∷ []) v m1
  gains-present m0 m1 names v n k g is there = record {
    each = λ q.
        present-step (get same_bytes m0 q) (declares q.now names) (bytes_eq q.now n.text) v (get same_bytes m1 q) (g.each q) (λ same. ap is_some (get-same m1 k q (is ∙ sym (bytes_eq-is q.now n.text same))) ∙ there)
        ∙ ap (λ (b : Bool). option_or (get same_bytes m0 q) (option_if b v)) (sym (declares-push q.now names n));
  }

  -- a name that it lacks is inserted
  pub gains-absent : (m0 m1 m2 : HashMap Bytes Variable S) (names : List Name) (v : Variable) (n : Name) (k : Bytes) → Gains m0 names v m1 → k.now ≡ n.text → get same_bytes m1 k ≡ None → ((q : Bytes) → get same_bytes m2 q ≡ cond (same_bytes k q) (Some v) (get same_bytes m1 q)) → Gains m0 (names ++ n ∷ []) v m2
  gains-absent m0 m1 m2 names v n k g is none update = record {
    each = λ q.
        let test : same_bytes k q ≡ bytes_eq q.now n.text = bytes_eq-sym k.now q.now ∙ ap (bytes_eq q.now) is in
        absent-step (get same_bytes m0 q) (declares q.now names) (bytes_eq q.now n.text) v (get same_bytes m1 q) (get same_bytes m2 q) (g.each q) (update q ∙ ap (λ (b : Bool). cond b (Some v) (get same_bytes m1 q)) test) (λ same. get-same m1 k q (is ∙ sym (bytes_eq-is q.now n.text same)) ∙ none)
        ∙ ap (λ (b : Bool). option_or (get same_bytes m0 q) (option_if b v)) (sym (declares-push q.now names n));
  }

  pub empty-seen : (m : HashMap Bytes Variable S) → m.entries ≡ [] → AreSeen [] m
  empty-seen m e = record { each = λ q. sym (ap (λ (es : List (Bytes × Variable)). is_some (lookup (same_bytes q) es)) e) }

  -- what a list has seen behind the names is what the map has then
  pub seen-gains : (m0 m1 : HashMap Bytes Variable S) (seen : List Text) (names : List Name) (v : Variable) → AreSeen seen m0 → Gains m0 names v m1 → AreSeen (seen_after seen names) m1
  seen-gains m0 m1 seen names v s g = record {
    each = λ q.
        seen_after-any q.now seen names
        ∙ ap (λ (b : Bool). b || declares q.now names) (s.each q)
        ∙ sym (some-or (get same_bytes m0 q) (declares q.now names) v)
        ∙ ap is_some (sym (g.each q));
  }

-- ---- the places of repeated names

-- one name more
pub repeated-push : (start : Option ℕ) (seen : List Text) (names : List Name) (n : Name) (r : Option ℕ) → r ≡ lesser_of start (least (repeated_from seen names)) → lesser_of r (place_if (list_any (bytes_eq n.text) (seen_after seen names)) n.at) ≡ lesser_of start (least (repeated_from seen (names ++ n ∷ [])))
repeated-push start seen names n r e =
    let last : List ℕ = repeated_from (seen_after seen names) (n ∷ []) in
    ap (λ (o : Option ℕ). lesser_of o (place_if (list_any (bytes_eq n.text) (seen_after seen names)) n.at)) e
    ∙ sym (lesser_of-assoc start (least (repeated_from seen names)) (place_if (list_any (bytes_eq n.text) (seen_after seen names)) n.at))
    ∙ ap (λ (o : Option ℕ). lesser_of start (lesser_of (least (repeated_from seen names)) o)) (sym (least-if (list_any (bytes_eq n.text) (seen_after seen names)) n.at))
    ∙ ap (lesser_of start) (sym (least-append (repeated_from seen names) last))
    ∙ ap (λ (l : List ℕ). lesser_of start (least l)) (sym (repeated_from-append seen names (n ∷ [])))

-- parameters and then temporaries
pub repeated-both : (start middle : Option ℕ) (parameters temporaries : List Name) (end : Option ℕ) → middle ≡ lesser_of start (least (repeated_from [] parameters)) → end ≡ lesser_of middle (least (repeated_from (seen_after [] parameters) temporaries)) → end ≡ lesser_of start (least (repeated_from [] (parameters ++ temporaries)))
repeated-both start middle parameters temporaries end e f =
    f
    ∙ ap (λ (o : Option ℕ). lesser_of o (least (repeated_from (seen_after [] parameters) temporaries))) e
    ∙ sym (lesser_of-assoc start (least (repeated_from [] parameters)) (least (repeated_from (seen_after [] parameters) temporaries)))
    ∙ ap (lesser_of start) (sym (least-append (repeated_from [] parameters) (repeated_from (seen_after [] parameters) temporaries)))
    ∙ ap (λ (l : List ℕ). lesser_of start (least l)) (sym (repeated_from-append [] parameters temporaries))

-- ---- a loop that declares names

pub record SoFar {S : Type 0} (old new : HashMap Bytes Variable S) (names : List Name) (v : Variable) (start repeated : Option ℕ) : Type 0 where
  pub declared : Gains old names v new
  pub least_repeated : (seen : List Text) → AreSeen seen old → repeated ≡ lesser_of start (least (repeated_from seen names))

module _ {S : Type 0} where
  seen-here : (m0 m1 : HashMap Bytes Variable S) (seen : List Text) (names : List Name) (v : Variable) (n : Name) (k : Bytes) → AreSeen seen m0 → Gains m0 names v m1 → k.now ≡ n.text → list_any (bytes_eq n.text) (seen_after seen names) ≡ is_some (get same_bytes m1 k)
  seen-here m0 m1 seen names v n k s g is = ap (λ (t : Text). list_any (bytes_eq t) (seen_after seen names)) (sym is) ∙ (seen-gains m0 m1 seen names v s g).each k

  pub so_far-present : (m0 m1 : HashMap Bytes Variable S) (names : List Name) (v : Variable) (n : Name) (k : Bytes) (start r r2 : Option ℕ) → SoFar m0 m1 names v start r → k.now ≡ n.text → is_some (get same_bytes m1 k) ≡ true → r2 ≡ lesser_of r (Some n.at) → SoFar m0 m1 (names ++ n ∷ []) v start r2
  so_far-present m0 m1 names v n k start r r2 s is there e = record {
    declared = gains-present m0 m1 names v n k s.declared is there;
    least_repeated = λ seen a.
        e
        ∙ ap (λ (b : Bool). lesser_of r (place_if b n.at)) (sym (seen-here m0 m1 seen names v n k a s.declared is ∙ there))
        ∙ repeated-push start seen names n r (s.least_repeated seen a);
  }

  pub so_far-absent : (m0 m1 m2 : HashMap Bytes Variable S) (names : List Name) (v : Variable) (n : Name) (k : Bytes) (start r : Option ℕ) → SoFar m0 m1 names v start r → k.now ≡ n.text → get same_bytes m1 k ≡ None → ((q : Bytes) → get same_bytes m2 q ≡ cond (same_bytes k q) (Some v) (get same_bytes m1 q)) → SoFar m0 m2 (names ++ n ∷ []) v start r
  so_far-absent m0 m1 m2 names v n k start r s is none update = record {
    declared = gains-absent m0 m1 m2 names v n k s.declared is none update;
    least_repeated = λ seen a.
        sym (lesser_of-none r)
        ∙ ap (λ (b : Bool). lesser_of r (place_if b n.at)) (sym (seen-here m0 m1 seen names v n k a s.declared is ∙ ap is_some none))
        ∙ repeated-push start seen names n r (s.least_repeated seen a);
  }

-- ---- what a scope says of a name

by-tests : (a b : Bool) → of_variable (option_or (option_if a variables.Parameter) (option_if b variables.Temporary)) ≡ or_else (fixed_if a) (assignable_if b)
by-tests true b = refl
by-tests false true = refl
by-tests false false = refl

pub variable_in-means : (s : Scope) (name : Text) → of_variable (variable_in s name) ≡ in_scope s name
variable_in-means s name = by-tests (declares name s.parameters) (declares name s.temporaries)

-- the scopes as the code holds them, the innermost last
pub in_scopes-last : (outer : List Scope) (s : Scope) (name : Text) → in_scopes (reverse (outer ++ s ∷ [])) name ≡ or_else (in_scope s name) (in_scopes (reverse outer) name)
in_scopes-last outer s name = ap (λ (scopes : List Scope). in_scopes scopes name) (reverse-append outer (s ∷ []))
