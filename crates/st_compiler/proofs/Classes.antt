-- What a name means outside of bodies, and in scopes.
use Rattle.std.proofs.Common.{◌≡◌, ℕ, suc, ◌+◌, List, [], ◌∷◌, Option, Some, None, ap, sym, ◌∙◌, arith}
use Rattle.st_code.specs.Texts.{Text}
use Rattle.st_code.specs.Program.{Side, Scoped}
use Rattle.st_code.specs.Resolved.{Names, Context, meant, named, Meant, At, or_meant, or_transcript, own_names, in_classes, class_names_at, meant_from, meant_outside, text_in}
use Rattle.st_compiler.specs.Around.{named_globally}

or-first : (a b : Option Meant) (m : Meant) → Some m ≡ a → m ≡ or_transcript (or_meant a b)
or-first a b m is = ap (λ o. or_transcript (or_meant o b)) is

or-next : (a b : Option Meant) (m : Meant) → a ≡ None → m ≡ or_transcript b → m ≡ or_transcript (or_meant a b)
or-next a b m none is = is ∙ ap (λ o. or_transcript (or_meant o b)) (sym none)

pub meant-own : (x : Names) (class : ℕ) (side : Side) (t : Text) (m : Meant) → Some m ≡ own_names (class_names_at x.classes class) side t → m ≡ meant_outside x class side t
unfolding meant_outside
meant-own x class side t m is = or-first (own_names (class_names_at x.classes class) side t) _ m is

pub meant-class : (x : Names) (class : ℕ) (side : Side) (t : Text) (m : Meant) → own_names (class_names_at x.classes class) side t ≡ None → Some m ≡ in_classes x (suc class) class t → m ≡ meant_outside x class side t
unfolding meant_outside
meant-class x class side t m none is = or-next (own_names (class_names_at x.classes class) side t) _ m none (or-first (in_classes x (suc class) class t) _ m is)

pub meant-global : (x : Names) (class : ℕ) (side : Side) (t : Text) (m : Meant) → own_names (class_names_at x.classes class) side t ≡ None → in_classes x (suc class) class t ≡ None → m ≡ or_transcript (named_globally x t) → m ≡ meant_outside x class side t
unfolding meant_outside
meant-global x class side t m none lone is = or-next (own_names (class_names_at x.classes class) side t) _ m none (or-next (in_classes x (suc class) class t) _ m lone is)

-- ---- scopes

pub scope-here : (x : Names) (class : ℕ) (side : Side) (up k : ℕ) (ys zs : List (List Text)) (s : List Text) (t : Text) → ys ≡ s ∷ zs → Some k ≡ text_in 0 s t → meant_from x class side up ys t ≡ At (Scoped up k)
scope-here x class side up k ys zs s t at is =
    ap (λ l. meant_from x class side up l t) at ∙ ap (λ o. elim o [ Some n ↦ At (Scoped up n) | None ↦ meant_from x class side (suc up) zs t ]) (sym is)

pub scope-next : (x : Names) (class : ℕ) (side : Side) (up : ℕ) (ys zs : List (List Text)) (s : List Text) (t : Text) → ys ≡ s ∷ zs → text_in 0 s t ≡ None → meant_from x class side up ys t ≡ meant_from x class side (up + 1) zs t
scope-next x class side up ys zs s t at is =
    let next : suc up ≡ up + 1 = omega arith in
    ap (λ l. meant_from x class side up l t) at ∙ ap (λ o. elim o [ Some n ↦ At (Scoped up n) | None ↦ meant_from x class side (suc up) zs t ]) is ∙ ap (λ u. meant_from x class side u zs t) next

-- what the scopes and then the names outside of them give
pub named-from : (x : Context) (t : Text) (scopes : List (List Text)) (m : Meant) → scopes ≡ x.scopes → meant_from x.names x.class x.side 0 scopes t ≡ m → m ≡ named x t
unfolding meant
named-from x t scopes m are is = sym is ∙ ap (λ l. meant_from x.names x.class x.side 0 l t) are

pub scopes-end : (x : Context) (t : Text) (items : List (List Text)) (up : ℕ) (m : Meant) → items ≡ [] → m ≡ meant_outside x.names x.class x.side t → meant_from x.names x.class x.side up items t ≡ m
scopes-end x t items up m none is = ap (λ l. meant_from x.names x.class x.side up l t) none ∙ sym is
