-- What the units of a file declare is found by the names of its program: classes with what their superclasses have, globals and variables of pools.
use Rattle.std.proofs.Common.{◌≡◌, ℕ, ◌+◌, ◌<◌, ◌⊎◌, inl, inr, List, [], ◌∷◌, ◌++◌, map, length, append_assoc, append-nil, Option, Some, None, Bool, true, false, ◌&&◌, ◌||◌, nat_eq, refl, sym, ap, ◌∙◌, subst, arith, eq-eqb, if◌then◌else◌, true≢false}
use Rattle.std.proofs.lemmas.List.{length-append, get_or_append_left}
use Rattle.std.proofs.lemmas.List.Folds.{list_any-append}
use Rattle.std.specs.Str.{bytes_eq}
use Rattle.std.specs.List.{list_any, find}
use Rattle.st_base.specs.BuiltIns.{classes as built_in_table}
use Rattle.st_tree.specs.declared.units.ClassUnit.{ClassUnit as FileClass}
use Rattle.st_tree.specs.declared.units.UnitKind.{UnitKind}
use Rattle.st_tree.specs.declared.units.UnitKind.TheVariants as kinds
use Rattle.st_tree.specs.declared.units.Unit.{Unit as FileUnit}
use Rattle.st_code.specs.Texts.{Text, same_text}
use Rattle.st_code.specs.Named.{NamedUnit}
use Rattle.st_code.specs.Written.{named_class, named_kind, named_unit, with_named, named_units}
use Rattle.st_code.specs.Resolved.{SharedName, GlobalName, PoolName, ClassName, ClassInstanceName, same_shared, ClassNames, Names, no_names, class_names_at, class_in}
use Rattle.st_code.specs.Definitions.{class_over, class_variables, declared_unit, declared_units, names_of, or_zero}
use Rattle.st_code.specs.BuiltIns.{built_in_class_rows, built_in_classes}
use Rattle.st_checks.specs.Declarations.{is_built_in, declares_class, declares_global, declares_in_pool, is_class, class_of_unit, class_named}
use Rattle.st_variables.proofs.KnownClasses.{built, Between, found_between}
use Rattle.st_checked.proofs.Texts.{both_true, or_left, or_right, same_bytes, find_append, find_behind, any_left, any_right, Found, Held, named_in, class_found, class_kept, class_behind, found_one}

other_way : {A : Type 0} → false ≡ true → A
other_way e = let none : ⊥ = true≢false (sym e) in absurd none

-- a class of the file by its number: what it has beside its superclass
pub record Declared (x : Names) (k : ℕ) (c : FileClass) : Type 0 where
  pub s : ℕ
  pub below : s < k
  pub there : k < length x.classes
  pub super' : (class_names_at x.classes k).row.superclass ≡ Some s
  pub instances : (class_names_at x.classes k).instance_names ≡ (class_names_at x.classes s).instance_names ++ c.instance_names
  pub class_instances : (class_names_at x.classes k).class_instance_names ≡ (class_names_at x.classes s).class_instance_names ++ c.class_instance_names
  pub pools : (class_names_at x.classes k).pools ≡ c.pools
  pub shared : (t : Text) → list_any (bytes_eq t) c.class_names ≡ true → Held x.shared (ClassName k t)
  pub above : class_in 0 x.classes c.superclass ≡ Some s

-- what is declared so far
pub record Told (before : List FileUnit) (x : Names) : Type 0 where
  pub named : (t : Text) → named_in t x.classes ≡ is_class before t
  pub classes : (t : Text) (c : FileClass) → class_named before t ≡ Some c → (k : ℕ) × ((class_in 0 x.classes t ≡ Some k) × Declared x k c)
  pub globals : (t : Text) → list_any (declares_global t) before ≡ true → Held x.shared (GlobalName t)
  pub pools : (pool t : Text) → list_any (declares_in_pool pool t) before ≡ true → Held x.shared (PoolName pool t)

-- ---- more names

held_left : (ys zs : List SharedName) (x : SharedName) → Held ys x → Held (ys ++ zs) x
held_left ys zs x h = any_left (λ y. same_shared y x) ys zs h

held_right : (ys zs : List SharedName) (x : SharedName) → Held zs x → Held (ys ++ zs) x
held_right ys zs x h = any_right (λ y. same_shared y x) ys zs h

-- the same classes and no fewer variables
more_shared : (x : Names) (vs : List SharedName) → ((y : SharedName) → Held x.shared y → Held vs y) → (k : ℕ) (c : FileClass) → Declared x k c → Declared (record x { shared = vs }) k c
more_shared x vs keep k c d =
    record { s = d.s; below = d.below; there = d.there; super' = d.super'; instances = d.instances; class_instances = d.class_instances; pools = d.pools; shared = λ t e. keep (ClassName k t) (d.shared t e); above = d.above }

-- one more class
more_classes : (x : Names) (new : ClassNames) (vs : List SharedName) (k : ℕ) (c : FileClass) → Declared x k c → Declared (record x { classes = x.classes ++ new ∷ []; shared = x.shared ++ vs }) k c
more_classes x new vs k c d =
    let kept : (j : ℕ) → j < length x.classes → class_names_at (x.classes ++ new ∷ []) j ≡ class_names_at x.classes j = λ j l. get_or_append_left x.classes (new ∷ []) no_names j l in
    let at_k = kept k d.there in
    let below = d.below in
    let there = d.there in
    let at_s = kept d.s (omega (arith, below, there)) in
    let size = length-append x.classes (new ∷ []) in
    record {
      s = d.s;
      below = d.below;
      there = omega (arith, there, size);
      super' = ap (λ (y : ClassNames). y.row.superclass) at_k ∙ d.super';
      instances = ap (λ (y : ClassNames). y.instance_names) at_k ∙ d.instances ∙ ap (λ (y : ClassNames). y.instance_names ++ c.instance_names) (sym at_s);
      class_instances = ap (λ (y : ClassNames). y.class_instance_names) at_k ∙ d.class_instances ∙ ap (λ (y : ClassNames). y.class_instance_names ++ c.class_instance_names) (sym at_s);
      pools = ap (λ (y : ClassNames). y.pools) at_k ∙ d.pools;
      shared = λ t e. held_left x.shared vs (ClassName k t) (d.shared t e);
      above = class_kept 0 x.classes (new ∷ []) c.superclass d.s d.above;
    }

-- ---- the class of a name, with one more unit

if_free : (b : Bool) (o : Option FileClass) (c : FileClass) → (if b then None else o) ≡ Some c → (b ≡ false) × (o ≡ Some c)
if_free true o c e = let none : ⊥ = grind (arith, e) in absurd none
if_free false o c e = (refl, e)

-- a class unit of this name
abbrev IsNew : List FileUnit → FileUnit → Text → FileClass → Type 0
IsNew before u t c = (is_class before t ≡ false) × ((declares_class t u ≡ true) × (class_of_unit (Some u) ≡ Some c))

class_push : (before : List FileUnit) (u : FileUnit) (t : Text) (c : FileClass) → class_named (before ++ u ∷ []) t ≡ Some c → (class_named before t ≡ Some c) ⊎ IsNew before u t c
class_push before u t c e =
    let h = if_free (is_built_in t) (class_of_unit (find (declares_class t) (before ++ u ∷ []))) c e in
    go (list_any (declares_class t) before) refl (find (declares_class t) before) refl h.0 h.1
  where
    unit_there : (v : FileUnit) → find (declares_class t) before ≡ Some v → is_built_in t ≡ false → class_of_unit (find (declares_class t) (before ++ u ∷ [])) ≡ Some c → class_named before t ≡ Some c
    unit_there v f free e =
        let same : class_of_unit (find (declares_class t) before) ≡ Some c = ap class_of_unit f ∙ sym (ap class_of_unit (find_append (declares_class t) before (u ∷ []) v f)) ∙ e in
        let g : class_named before t ≡ class_of_unit (find (declares_class t) before) = rw free refl in
        g ∙ same

    only : (b : Bool) → declares_class t u ≡ b → class_of_unit (find (declares_class t) (u ∷ [])) ≡ Some c → (declares_class t u ≡ true) × (class_of_unit (Some u) ≡ Some c)
    only true q e = let f : find (declares_class t) (u ∷ []) ≡ Some u = rw q refl in (q, sym (ap class_of_unit f) ∙ e)
    only false q e = let f : find (declares_class t) (u ∷ []) ≡ None = rw q refl in let none : ◌≡◌ {A = Option FileClass} None (Some c) = sym (ap class_of_unit f) ∙ e in let no : ⊥ = grind (arith, none) in absurd no

    go : (b : Bool) → list_any (declares_class t) before ≡ b → (o : Option FileUnit) → find (declares_class t) before ≡ o → is_built_in t ≡ false → class_of_unit (find (declares_class t) (before ++ u ∷ [])) ≡ Some c → (class_named before t ≡ Some c) ⊎ IsNew before u t c
    go b q (Some v) f free e = inl (unit_there v f free e)
    go true q None f free e = let none : ⊥ = found_one (declares_class t) before q f in absurd none
    go false q None f free e =
        let behind = find_behind (declares_class t) before (u ∷ []) q in
        let g = only (declares_class t u) refl (sym (ap class_of_unit behind) ∙ e) in
        let i : is_class before t ≡ false = rw (free, q) refl in
        inr (i, g)

-- ---- one more unit

any_either : {A : Type 0} (p : A → Bool) (xs : List A) (y : A) → list_any p (xs ++ y ∷ []) ≡ true → (list_any p xs ≡ true) ⊎ (p y ≡ true)
any_either p xs y e = go (list_any p xs) (p y) (sym (list_any-append p xs (y ∷ [])) ∙ e)
  where
    go : (a b : Bool) → (a || (b || false)) ≡ true → (a ≡ true) ⊎ (b ≡ true)
    go true b e = inl refl
    go false true e = inr refl
    go false false e = other_way e

or_false : (a b : Bool) → (a || (b || (false || false))) ≡ (a || b)
or_false true b = refl
or_false false true = refl
or_false false false = refl

or_more : (a b c : Bool) → ((a || b) || (c || false)) ≡ (a || (b || (c || false)))
or_more true b c = refl
or_more false b c = refl

module _ (before : List FileUnit) (u : FileUnit) (x : Names) (h : Told before x) where
  abbrev after_it : List FileUnit
  after_it = before ++ u ∷ []

  -- it declares no class
  told_more : (vs : List SharedName) → ((y : SharedName) → Held x.shared y → Held vs y) → ((t : Text) → declares_class t u ≡ false) → ((t : Text) → declares_global t u ≡ true → Held vs (GlobalName t)) → ((pool t : Text) → declares_in_pool pool t u ≡ true → Held vs (PoolName pool t)) → Told after_it (record x { shared = vs })
  told_more vs keep quiet_of global pool =
      record {
        named = λ t. h.named t ∙ sym (same t);
        classes = λ t c e. pushed t c (class_push before u t c e);
        globals = λ t e. elim (any_either (declares_global t) before u e) [ inl f ↦ keep (GlobalName t) (h.globals t f) | inr f ↦ global t f ];
        pools = λ q t e. elim (any_either (declares_in_pool q t) before u e) [ inl f ↦ keep (PoolName q t) (h.pools q t f) | inr f ↦ pool q t f ];
      }
    where
      same : (t : Text) → is_class after_it t ≡ is_class before t
      same t =
          let e : list_any (declares_class t) after_it ≡ (list_any (declares_class t) before || (declares_class t u || false)) = list_any-append (declares_class t) before (u ∷ []) in
          let f : (is_built_in t || (list_any (declares_class t) before || (declares_class t u || false))) ≡ (is_built_in t || (list_any (declares_class t) before || (false || false))) = ap (λ (b : Bool). is_built_in t || (list_any (declares_class t) before || (b || false))) (quiet_of t) in
          ap (λ (b : Bool). is_built_in t || b) e ∙ f ∙ or_false (is_built_in t) (list_any (declares_class t) before)

      pushed : (t : Text) (c : FileClass) → (class_named before t ≡ Some c) ⊎ IsNew before u t c → (k : ℕ) × ((class_in 0 x.classes t ≡ Some k) × Declared (record x { shared = vs }) k c)
      pushed t c (inl f) = let y = h.classes t c f in (y.0, (y.1.0, more_shared x vs keep y.0 c y.1.1))
      pushed t c (inr n) = other_way (sym (quiet_of t) ∙ n.1.0)

  -- it declares a class over one that is there
  module _ (c : FileClass) (is : u.kind ≡ kinds.Class c) (over : is_class before c.superclass ≡ true) where
    declares_is : (t : Text) → declares_class t u ≡ bytes_eq t c.name
    declares_is t = rw is refl

    above_found : Found (class_in 0 x.classes c.superclass)
    above_found = class_found 0 x.classes c.superclass (h.named c.superclass ∙ over)

    abbrev s : ℕ
    s = or_zero (class_in 0 x.classes c.superclass)

    s_is : class_in 0 x.classes c.superclass ≡ Some s
    s_is = above_found.1 ∙ ap (λ (o : Option ℕ). Some (or_zero o)) (sym above_found.1)

    s_below : s < length x.classes
    s_below = go (class_in 0 x.classes c.superclass) (found_between 0 x.classes c.superclass) s_is
      where
        go : (o : Option ℕ) → Between 0 (0 + length x.classes) o → o ≡ Some s → s < length x.classes
        go None b e = let none : ⊥ = grind (arith, e) in absurd none
        go (Some n) b e = let m : n ≡ s = same_some n s e in omega (arith, b.1, m)
          where
            same_some : (a b : ℕ) → Some a ≡ Some b → a ≡ b
            same_some a b e = cc

    abbrev new : ClassNames
    new = class_over (named_class c) s (class_names_at x.classes s) (length x.shared)

    abbrev k : ℕ
    k = length x.classes

    abbrev vs : List SharedName
    vs = class_variables k new

    abbrev x' : Names
    x' = record x { classes = x.classes ++ new ∷ []; shared = x.shared ++ vs }

    at_end : (cs : List ClassNames) (y : ClassNames) → class_names_at (cs ++ y ∷ []) (length cs) ≡ y
    at_end [] y = refl
    at_end (d ∷ cs) y = at_end cs y

    names_held : (n : ℕ) (ts : List Text) (t : Text) → list_any (bytes_eq t) ts ≡ true → Held (map (ClassName n) ts) (ClassName n t)
    names_held n [] t e = other_way e
    names_held n (v ∷ ts) t e = go (bytes_eq t v) (same_bytes v t) e (names_held n ts t)
      where
        go : (b : Bool) → same_text v t ≡ b → (b || list_any (bytes_eq t) ts) ≡ true → (list_any (bytes_eq t) ts ≡ true → Held (map (ClassName n) ts) (ClassName n t)) → Held (map (ClassName n) (v ∷ ts)) (ClassName n t)
        go true q e on = let f : (nat_eq n n && same_text v t) ≡ true = ap (λ (b : Bool). b && same_text v t) (eq-eqb n n refl) ∙ q in or_left (nat_eq n n && same_text v t) _ f
        go false q e on = or_right (nat_eq n n && same_text v t) _ (on e)

    new_declared : Declared x' k c
    new_declared =
        let below = s_below in
        let size = length-append x.classes (new ∷ []) in
        let at_k = at_end x.classes new in
        let at_s : class_names_at (x.classes ++ new ∷ []) s ≡ class_names_at x.classes s = get_or_append_left x.classes (new ∷ []) no_names s below in
        record {
          s = s;
          below = below;
          there = omega (arith, size);
          super' = ap (λ (y : ClassNames). y.row.superclass) at_k;
          instances = ap (λ (y : ClassNames). y.instance_names) at_k ∙ ap (λ (y : ClassNames). y.instance_names ++ c.instance_names) (sym at_s);
          class_instances = ap (λ (y : ClassNames). y.class_instance_names) at_k ∙ ap (λ (y : ClassNames). y.class_instance_names ++ c.class_instance_names) (sym at_s);
          pools = ap (λ (y : ClassNames). y.pools) at_k;
          shared = λ t e. held_right x.shared vs (ClassName k t) (held_left (map (ClassName k) c.class_names) (map (ClassInstanceName k) new.class_instance_names) (ClassName k t) (names_held k c.class_names t e));
          above = class_kept 0 x.classes (new ∷ []) c.superclass s s_is;
        }

    file_class : (d : FileClass) → class_of_unit (Some u) ≡ Some d → c ≡ d
    file_class d e = let f : class_of_unit (Some u) ≡ Some c = rw is refl in same c d (sym f ∙ e)
      where
        same : (a b : FileClass) → Some a ≡ Some b → a ≡ b
        same a b e = cc

    told_class : Told after_it x'
    told_class =
        record {
          named = λ t. named_is t;
          classes = λ t d e. pushed t d (class_push before u t d e);
          globals = λ t e. elim (any_either (declares_global t) before u e) [ inl f ↦ held_left x.shared vs (GlobalName t) (h.globals t f) | inr f ↦ other_way (sym (no_global t) ∙ f) ];
          pools = λ q t e. elim (any_either (declares_in_pool q t) before u e) [ inl f ↦ held_left x.shared vs (PoolName q t) (h.pools q t f) | inr f ↦ other_way (sym (no_pool q t) ∙ f) ];
        }
      where
        no_global : (t : Text) → declares_global t u ≡ false
        no_global t = rw is refl

        no_pool : (q t : Text) → declares_in_pool q t u ≡ false
        no_pool q t = rw is refl

        named_is : (t : Text) → named_in t (x.classes ++ new ∷ []) ≡ is_class after_it t
        named_is t =
            let a : named_in t (x.classes ++ new ∷ []) ≡ (named_in t x.classes || (bytes_eq t c.name || false)) = list_any-append (λ (y : ClassNames). bytes_eq t y.row.name) x.classes (new ∷ []) in
            let b : (named_in t x.classes || (bytes_eq t c.name || false)) ≡ ((is_built_in t || list_any (declares_class t) before) || (bytes_eq t c.name || false)) = ap (λ (n : Bool). n || (bytes_eq t c.name || false)) (h.named t) in
            let d : list_any (declares_class t) after_it ≡ (list_any (declares_class t) before || (declares_class t u || false)) = list_any-append (declares_class t) before (u ∷ []) in
            let f : (is_built_in t || (list_any (declares_class t) before || (bytes_eq t c.name || false))) ≡ (is_built_in t || (list_any (declares_class t) before || (declares_class t u || false))) = ap (λ (n : Bool). is_built_in t || (list_any (declares_class t) before || (n || false))) (sym (declares_is t)) in
            a ∙ b ∙ or_more (is_built_in t) (list_any (declares_class t) before) (bytes_eq t c.name) ∙ f ∙ sym (ap (λ (n : Bool). is_built_in t || n) d)

        pushed : (t : Text) (d : FileClass) → (class_named before t ≡ Some d) ⊎ IsNew before u t d → (n : ℕ) × ((class_in 0 (x.classes ++ new ∷ []) t ≡ Some n) × Declared x' n d)
        pushed t d (inl f) = let y = h.classes t d f in (y.0, (class_kept 0 x.classes (new ∷ []) t y.0 y.1.0, more_classes x new vs y.0 d y.1.1))
        pushed t d (inr n) =
            let m : 0 + length x.classes ≡ k = omega arith in
            (k, (class_behind 0 x.classes new t (h.named t ∙ n.0) (sym (declares_is t) ∙ n.1.0) ∙ ap (λ (i : ℕ). Some i) m, subst (λ e. Declared x' k e) (file_class d n.1.1) new_declared))

-- ---- all units

abbrev step_names : Names → Option NamedUnit → Names
step_names x None = x
step_names x (Some n) = declared_unit x n

-- a class comes behind its superclass
abbrev pub Over : List FileUnit → UnitKind → Type 0
Over before kind = (c : FileClass) → kind ≡ kinds.Class c → is_class before c.superclass ≡ true

module _ (before : List FileUnit) (u : FileUnit) (x : Names) (h : Told before x) where
  quiet : ((t : Text) → declares_class t u ≡ false) → ((t : Text) → declares_global t u ≡ false) → ((q t : Text) → declares_in_pool q t u ≡ false) → Told (before ++ u ∷ []) x
  quiet a b c = told_more before u x h x.shared (λ y e. e) a (λ t e. other_way (sym (b t) ∙ e)) (λ q t e. other_way (sym (c q t) ∙ e))

  global_held : (name t : Text) → bytes_eq t name ≡ true → Held (x.shared ++ GlobalName name ∷ []) (GlobalName t)
  global_held name t e = held_right x.shared (GlobalName name ∷ []) (GlobalName t) (or_left (same_text name t) false (same_bytes name t ∙ e))

  pool_held : (pool name q t : Text) → (bytes_eq q pool && bytes_eq t name) ≡ true → Held (x.shared ++ PoolName pool name ∷ []) (PoolName q t)
  pool_held pool name q t e =
      let f = both_true (bytes_eq q pool) (bytes_eq t name) e in
      let g : (same_text pool q && same_text name t) ≡ true = ap (λ (b : Bool). b && same_text name t) (same_bytes pool q ∙ f.0) ∙ (same_bytes name t ∙ f.1) in
      held_right x.shared (PoolName pool name ∷ []) (PoolName q t) (or_left (same_text pool q && same_text name t) false g)

  told_step : (kind : UnitKind) → u.kind ≡ kind → Over before kind → Told (before ++ u ∷ []) (step_names x (named_kind kind))
  told_step (kinds.Version text) is over = quiet (λ t. rw is refl) (λ t. rw is refl) (λ q t. rw is refl)
  told_step (kinds.Class c) is over = told_class before u x h c is (over c refl)
  told_step (kinds.GlobalVariable name) is over =
      told_more before u x h (x.shared ++ GlobalName name ∷ []) (held_left x.shared (GlobalName name ∷ [])) (λ t. rw is refl) (λ t e. let f : declares_global t u ≡ bytes_eq t name = rw is refl in global_held name t (sym f ∙ e)) (λ q t e. let f : declares_in_pool q t u ≡ false = rw is refl in other_way (sym f ∙ e))
  told_step (kinds.GlobalConstant name) is over =
      told_more before u x h (x.shared ++ GlobalName name ∷ []) (held_left x.shared (GlobalName name ∷ [])) (λ t. rw is refl) (λ t e. let f : declares_global t u ≡ bytes_eq t name = rw is refl in global_held name t (sym f ∙ e)) (λ q t e. let f : declares_in_pool q t u ≡ false = rw is refl in other_way (sym f ∙ e))
  told_step (kinds.Pool name) is over = quiet (λ t. rw is refl) (λ t. rw is refl) (λ q t. rw is refl)
  told_step (kinds.PoolVariable pool name) is over =
      told_more before u x h (x.shared ++ PoolName pool name ∷ []) (held_left x.shared (PoolName pool name ∷ [])) (λ t. rw is refl) (λ t e. let f : declares_global t u ≡ false = rw is refl in other_way (sym f ∙ e)) (λ q t e. let f : declares_in_pool q t u ≡ (bytes_eq q pool && bytes_eq t name) = rw is refl in pool_held pool name q t (sym f ∙ e))
  told_step (kinds.PoolConstant pool name) is over =
      told_more before u x h (x.shared ++ PoolName pool name ∷ []) (held_left x.shared (PoolName pool name ∷ [])) (λ t. rw is refl) (λ t e. let f : declares_global t u ≡ false = rw is refl in other_way (sym f ∙ e)) (λ q t e. let f : declares_in_pool q t u ≡ (bytes_eq q pool && bytes_eq t name) = rw is refl in pool_held pool name q t (sym f ∙ e))
  told_step (kinds.Initializer target body) is over = quiet (λ t. rw is refl) (λ t. rw is refl) (λ q t. rw is refl)
  told_step (kinds.PoolInitializer pool name body) is over = quiet (λ t. rw is refl) (λ t. rw is refl) (λ q t. rw is refl)
  told_step (kinds.ProgramInitializer body) is over = quiet (λ t. rw is refl) (λ t. rw is refl) (λ q t. rw is refl)
  told_step (kinds.Method class m) is over = quiet (λ t. rw is refl) (λ t. rw is refl) (λ q t. rw is refl)
  told_step (kinds.ClassMethod class m) is over = quiet (λ t. rw is refl) (λ t. rw is refl) (λ q t. rw is refl)
  told_step (kinds.Comment text) is over = quiet (λ t. rw is refl) (λ t. rw is refl) (λ q t. rw is refl)

step_is : (x : Names) (o : Option NamedUnit) (us : List NamedUnit) → declared_units (step_names x o) us ≡ declared_units x (with_named o us)
step_is x None us = refl
step_is x (Some n) us = refl

pub built_named : (t : Text) → named_in t built ≡ is_built_in t
unfolding built_in_class_rows built_in_classes is_built_in built_in_table
built_named t = refl

module _ (units : List FileUnit) (over : (before : List FileUnit) (u : FileUnit) (rest : List FileUnit) → units ≡ before ++ u ∷ rest → Over before u.kind) where
  told_all : (before rest : List FileUnit) (x : Names) → units ≡ before ++ rest → Told before x → Told units (declared_units x (named_units rest))
  unfolding named_units
  told_all before [] x e h = subst (λ us. Told us x) (sym (e ∙ append-nil before)) h
  told_all before (u ∷ rest) x e h =
      let more : units ≡ (before ++ u ∷ []) ++ rest = e ∙ sym (append_assoc before (u ∷ []) rest) in
      subst (λ y. Told units y) (step_is x (named_unit u) (named_units rest)) (told_all (before ++ u ∷ []) rest (step_names x (named_unit u)) more (told_step before u x h u.kind refl (over before u rest e)))

  or_no : (b : Bool) → b ≡ (b || false)
  or_no true = refl
  or_no false = refl

  none_named : (t : Text) (c : FileClass) → class_named [] t ≡ Some c → ⊥
  none_named t c e = let h = if_free (is_built_in t) None c e in grind (arith, h.1)

  pub told : (names : List Text) → Told units (names_of names (named_units units))
  unfolding names_of
  told names =
      told_all [] units (record { names = names; classes = built; shared = [] }) refl
      (record { named = λ t. built_named t ∙ or_no (is_built_in t); classes = λ t c e. absurd (none_named t c e); globals = λ t e. other_way e; pools = λ q t e. other_way e })
