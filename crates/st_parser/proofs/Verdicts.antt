-- The machine's verdict on a text is its tree or its first fault, and the other way round.
use Rattle.std.proofs.Common.{◌≡◌, ℕ, suc, zero, ◌≤◌, List, [], ◌∷◌, ◌++◌, Bool, true, false, refl, ap, sym, ◌∙◌, subst, Option, Some, None, take, drop, length, arith, append-nil, append_assoc, ◌⊎◌, ◌↔◌, inl, inr}
use Rattle.std.specs.Prelude.{option_and_then, nat_lt, slice_get}
use Rattle.std.proofs.lemmas.Bool.{ltb-true, ltb-false, lt-ltb, le-ltb}
use Rattle.std.proofs.lemmas.List.{map-append, take-map}
use Rattle.std.proofs.Math.Seq.{take-append_seam}
use Rattle.st_base.specs.declared.tokens.Token.{Token}
use Rattle.st_base.specs.declared.tokens.LexFault.{LexFault}
use Rattle.st_base.specs.declared.faults.Reason.{Reason}
use Rattle.st_base.specs.declared.faults.Reason.TheVariants as reason
use Rattle.st_tree.specs.Symbols.{Sym, sym_of, syms}
use Rattle.st_tree.specs.Grammar.{Production, Tree, Derives}
use Rattle.st_tree.specs.Faults.{CanStand, CannotStand, deeper, depth, Shallow, aside, Stands, Spoils, out_of_place, out_of_range, too_deep, IsFault, at_token, lexical_fault, unfinished, IsTree}
use Rattle.st_parser.specs.Machine.{State, step, run, parse, accept, start}
use Rattle.st_parser.specs.Verdict.{Verdict, Good, Bad, verdict_end, verdict_at, verdict_from, verdict_of}
use Rattle.st_parser.proofs.Complete.{complete}
use Rattle.st_parser.proofs.Depth.{frames_depth}
use Rattle.st_parser.proofs.SoundLevels.{sound}
use Rattle.st_parser.proofs.Viable.{can_stand}
use Rattle.st_parser.proofs.Runs.{run_next, runs, parse_run, depth_next, shallow_nil, stays_shallow, aside_step, stands, is_out_of_place, is_out_of_range, is_too_deep, goes_on, derived, not_derived}

-- what a verdict says of a text
abbrev pub Means : Production → List ℕ → List Token → Option LexFault → Verdict → Type 0
Means p text tokens lexical (Good tree) = IsTree p text tokens lexical tree
Means p text tokens lexical (Bad byte why) = IsFault p text tokens lexical byte why

-- ---- lists

get_seam : (xs : List Token) (y : Token) (ys : List Token) → slice_get (xs ++ y ∷ ys) (length xs) ≡ Some y
get_seam [] y ys = refl
get_seam (x ∷ xs) y ys = get_seam xs y ys

syms_next : (text : List ℕ) (before : List Token) (t : Token) → syms text (before ++ t ∷ []) ≡ syms text before ++ sym_of text t ∷ []
syms_next text before t = map-append (sym_of text) before (t ∷ [])

take_before : (text : List ℕ) (before rest : List Token) → take (length before) (syms text (before ++ rest)) ≡ syms text before
take_before text before rest = take-map (sym_of text) (length before) (before ++ rest) ∙ ap (syms text) (take-append_seam before rest)

module _ (p : Production) (text : List ℕ) (lexical : Option LexFault) where
  faulty_here : (before rest : List Token) (t : Token) (why : Reason) → Stands p (syms text before) → Spoils p (syms text before) (sym_of text t) why → IsFault p text (before ++ t ∷ rest) lexical t.start why
  faulty_here before rest t why h k =
      at_token (length before) t (get_seam before t rest) (subst (Stands p) (sym (take_before text before (t ∷ rest))) h) (subst (λ a. Spoils p a (sym_of text t) why) (sym (take_before text before (t ∷ rest))) k)

  -- ---- the verdict is right

  at_end : (tokens : List Token) (s : State) → run (start p) (syms text tokens) ≡ Some s → Shallow (syms text tokens)
      → (l : Option LexFault) → (m : Option Tree) → accept s ≡ m → Means p text tokens l (verdict_end (length text) l m)
  at_end tokens s e h (Some fault) m k = lexical_fault (stands p (syms text tokens) s e h)
  at_end tokens s e h None (Some tree) k = record { whole = refl; derives = derived p (syms text tokens) s tree e k; shallow = h }
  at_end tokens s e h None None k = unfinished (stands p (syms text tokens) s e h) (not_derived p (syms text tokens) s e k)

  at_one : (before rest : List Token) (t : Token) (s : State) → run (start p) (syms text before) ≡ Some s → Shallow (syms text before)
      → (loose strict : Option State) (deep : Bool) → step s (aside (sym_of text t)) ≡ loose → step s (sym_of text t) ≡ strict → nat_lt 200 (deeper (depth 0 (syms text before)) (sym_of text t)) ≡ deep
      → (behind : State → Verdict)
      → ((next : State) → run (start p) (syms text (before ++ t ∷ [])) ≡ Some next → Shallow (syms text (before ++ t ∷ [])) → Means p text (before ++ t ∷ rest) lexical (behind next))
      → Means p text (before ++ t ∷ rest) lexical (verdict_at t.start loose strict deep behind)
  at_one before rest t s e h None strict deep k l d behind go = faulty_here before rest t reason.Syntax (stands p (syms text before) s e h) (is_out_of_place p (syms text before) s (sym_of text t) e k)
  at_one before rest t s e h (Some m) None deep k l d behind go =
      faulty_here before rest t reason.IntegerTooLarge (stands p (syms text before) s e h) (is_out_of_range p (syms text before) s m (sym_of text t) e k l)
  at_one before rest t s e h (Some m) (Some next) true k l d behind go =
      faulty_here before rest t reason.TooDeep (stands p (syms text before) s e h) (is_too_deep p (syms text before) s next (sym_of text t) e l h (ltb-true 200 (deeper (depth 0 (syms text before)) (sym_of text t)) d))
  at_one before rest t s e h (Some m) (Some next) false k l d behind go =
      go next (ap (run (start p)) (syms_next text before t) ∙ goes_on p (syms text before) s next (sym_of text t) e l)
      (subst Shallow (sym (syms_next text before t)) (stays_shallow (syms text before) (sym_of text t) h (ltb-false 200 (deeper (depth 0 (syms text before)) (sym_of text t)) d)))

  from_here : (rest before : List Token) (s : State) → run (start p) (syms text before) ≡ Some s → Shallow (syms text before)
      → Means p text (before ++ rest) lexical (verdict_from text lexical s (depth 0 (syms text before)) rest)
  from_here [] before s e h = subst (λ ts. Means p text ts lexical (verdict_end (length text) lexical (accept s))) (sym (append-nil before)) (at_end before s e h lexical (accept s) refl)
  from_here (t ∷ rest) before s e h =
      at_one before rest t s e h (step s (aside (sym_of text t))) (step s (sym_of text t)) (nat_lt 200 (deeper (depth 0 (syms text before)) (sym_of text t))) refl refl refl
      (λ next. verdict_from text lexical next (deeper (depth 0 (syms text before)) (sym_of text t)) rest)
      (λ next e' h'. further next (from_here rest (before ++ t ∷ []) next e' h'))
    where
      deep : depth 0 (syms text (before ++ t ∷ [])) ≡ deeper (depth 0 (syms text before)) (sym_of text t)
      deep = ap (depth 0) (syms_next text before t) ∙ depth_next (syms text before) (sym_of text t) 0

      further : (next : State) → Means p text ((before ++ t ∷ []) ++ rest) lexical (verdict_from text lexical next (depth 0 (syms text (before ++ t ∷ []))) rest)
          → Means p text (before ++ t ∷ rest) lexical (verdict_from text lexical next (deeper (depth 0 (syms text before)) (sym_of text t)) rest)
      further next m = subst (λ ts. Means p text ts lexical (verdict_from text lexical next (deeper (depth 0 (syms text before)) (sym_of text t)) rest)) (append_assoc before (t ∷ []) rest)
          (subst (λ d. Means p text ((before ++ t ∷ []) ++ rest) lexical (verdict_from text lexical next d rest)) deep m)

  -- the verdict on a text is its tree or its first fault
  pub verdict_right : (tokens : List Token) → Means p text tokens lexical (verdict_of p text tokens lexical)
  verdict_right tokens = from_here tokens [] (start p) refl shallow_nil

-- ---- and the other way round

-- nowhere are more than 200 open, with d open before
abbrev ShallowFrom : ℕ → List Sym → Type 0
ShallowFrom d a = (n : ℕ) → n ≤ length a → depth d (take n a) ≤ 200

step_free : (p : Production) (a : List Sym) (s : State) (x : Sym) → run (start p) a ≡ Some s → CanStand p (a ++ x ∷ []) → (next : State) × (step s x ≡ Some next)
step_free p a s x e c = let (next, k) = runs p (a ++ x ∷ []) c in (next, sym (run_next a x (start p) s e) ∙ k)

step_stuck : (p : Production) (a : List Sym) (s : State) (x : Sym) → run (start p) a ≡ Some s → CannotStand p (a ++ x ∷ []) → step s x ≡ None
step_stuck p a s x e c = look (step s x) refl
  where
    look : (m : Option State) → step s x ≡ m → step s x ≡ None
    look None k = k
    look (Some next) k = let (more, tree, d) = can_stand p (a ++ x ∷ []) next (run_next a x (start p) s e ∙ k) in absurd (c more tree d)

at_passes : (at : ℕ) (loose strict : Option State) (deep : Bool) (behind : State → Verdict) (m next : State) → loose ≡ Some m → strict ≡ Some next → deep ≡ false → verdict_at at loose strict deep behind ≡ behind next
at_passes at loose strict deep behind m next k l d =
    ap (λ v. verdict_at at v strict deep behind) k ∙ ap (λ v. verdict_at at (Some m) v deep behind) l ∙ ap (λ v. verdict_at at (Some m) (Some next) v behind) d

at_place : (at : ℕ) (loose strict : Option State) (deep : Bool) (behind : State → Verdict) → loose ≡ None → verdict_at at loose strict deep behind ≡ Bad at reason.Syntax
at_place at loose strict deep behind k = ap (λ v. verdict_at at v strict deep behind) k

at_range : (at : ℕ) (loose strict : Option State) (deep : Bool) (behind : State → Verdict) (m : State) → loose ≡ Some m → strict ≡ None → verdict_at at loose strict deep behind ≡ Bad at reason.IntegerTooLarge
at_range at loose strict deep behind m k l = ap (λ v. verdict_at at v strict deep behind) k ∙ ap (λ v. verdict_at at (Some m) v deep behind) l

at_depth : (at : ℕ) (loose strict : Option State) (deep : Bool) (behind : State → Verdict) (m next : State) → loose ≡ Some m → strict ≡ Some next → deep ≡ true → verdict_at at loose strict deep behind ≡ Bad at reason.TooDeep
at_depth at loose strict deep behind m next k l d =
    ap (λ v. verdict_at at v strict deep behind) k ∙ ap (λ v. verdict_at at (Some m) v deep behind) l ∙ ap (λ v. verdict_at at (Some m) (Some next) v behind) d

split_at : (tokens : List Token) (i : ℕ) (t : Token) → slice_get tokens i ≡ Some t → tokens ≡ take i tokens ++ t ∷ drop (suc i) tokens
split_at [] i t e = none_token e
  where
    none_token : None ≡ Some t → [] ≡ take i [] ++ t ∷ drop (suc i) []
    none_token e = cc
split_at (x ∷ xs) zero t e = ap (λ y. y ∷ xs) (same e)
  where
    same : Some x ≡ Some t → x ≡ t
    same e = cc
split_at (x ∷ xs) (suc i) t e = ap (λ ys. x ∷ ys) (split_at xs i t e)

module _ (text : List ℕ) (lexical : Option LexFault) where
  goes : (before rest : List Token) (state s : State) (d : ℕ) → run state (syms text before) ≡ Some s → ShallowFrom d (syms text before)
      → verdict_from text lexical state d (before ++ rest) ≡ verdict_from text lexical s (depth d (syms text before)) rest
  goes [] rest state s d e h = ap (λ v. verdict_from text lexical v d rest) (same e)
    where
      same : Some state ≡ Some s → state ≡ s
      same e = cc
  goes (t ∷ before) rest state s d e h =
      look (step state (sym_of text t)) refl e (λ next k. goes before rest next s (deeper d (sym_of text t)) k (λ n j. h (suc n) (omega (arith, j))))
    where
      look : (m : Option State) → step state (sym_of text t) ≡ m → option_and_then (λ next. run next (syms text before)) m ≡ Some s
          → ((next : State) → run next (syms text before) ≡ Some s
          → verdict_from text lexical next (deeper d (sym_of text t)) (before ++ rest) ≡ verdict_from text lexical s (depth (deeper d (sym_of text t)) (syms text before)) rest)
          → verdict_from text lexical state d (t ∷ before ++ rest) ≡ verdict_from text lexical s (depth d (syms text (t ∷ before))) rest
      look None k e go = none_run e
        where
          none_run : None ≡ Some s → verdict_from text lexical state d (t ∷ before ++ rest) ≡ verdict_from text lexical s (depth d (syms text (t ∷ before))) rest
          none_run e = cc
      look (Some next) k e go = let (m, l) = aside_step state (sym_of text t) next k in
          at_passes t.start (step state (aside (sym_of text t))) (step state (sym_of text t)) (nat_lt 200 (deeper d (sym_of text t))) (λ n. verdict_from text lexical n (deeper d (sym_of text t)) (before ++ rest)) m next l k
          (le-ltb 200 (deeper d (sym_of text t)) (h 1 (omega arith)))
          ∙ go next e

module _ (p : Production) (text : List ℕ) (lexical : Option LexFault) where
  spoiled : (before rest : List Token) (t : Token) (why : Reason) (s : State) → run (start p) (syms text before) ≡ Some s → Spoils p (syms text before) (sym_of text t) why
      → verdict_from text lexical s (depth 0 (syms text before)) (t ∷ rest) ≡ Bad t.start why
  spoiled before rest t why s e (out_of_place n) =
      at_place t.start (step s (aside (sym_of text t))) (step s (sym_of text t)) (nat_lt 200 (deeper (depth 0 (syms text before)) (sym_of text t)))
      (λ next. verdict_from text lexical next (deeper (depth 0 (syms text before)) (sym_of text t)) rest) (step_stuck p (syms text before) s (aside (sym_of text t)) e n)
  spoiled before rest t why s e (out_of_range c n) = let (m, k) = step_free p (syms text before) s (aside (sym_of text t)) e c in
      at_range t.start (step s (aside (sym_of text t))) (step s (sym_of text t)) (nat_lt 200 (deeper (depth 0 (syms text before)) (sym_of text t)))
      (λ next. verdict_from text lexical next (deeper (depth 0 (syms text before)) (sym_of text t)) rest) m k (step_stuck p (syms text before) s (sym_of text t) e n)
  spoiled before rest t why s e (too_deep c d) =
      let (next, l) = step_free p (syms text before) s (sym_of text t) e c in
      let (m, k) = aside_step s (sym_of text t) next l in
      let exact : deeper (depth 0 (syms text before)) (sym_of text t) ≡ 201 = sym (depth_next (syms text before) (sym_of text t) 0) ∙ d in
      at_depth t.start (step s (aside (sym_of text t))) (step s (sym_of text t)) (nat_lt 200 (deeper (depth 0 (syms text before)) (sym_of text t)))
      (λ next. verdict_from text lexical next (deeper (depth 0 (syms text before)) (sym_of text t)) rest) m next k l (lt-ltb 200 (deeper (depth 0 (syms text before)) (sym_of text t)) (omega (arith, exact)))

  bad_at : (before rest : List Token) (t : Token) (why : Reason) → Stands p (syms text before) → Spoils p (syms text before) (sym_of text t) why → verdict_of p text (before ++ t ∷ rest) lexical ≡ Bad t.start why
  bad_at before rest t why h k = let (s, e) = runs p (syms text before) h.fits in goes text lexical before (t ∷ rest) (start p) s 0 e h.shallow ∙ spoiled before rest t why s e k

  -- where all tokens may stand, the end decides
  to_the_end : (tokens : List Token) → Stands p (syms text tokens) → (s : State) × (run (start p) (syms text tokens) ≡ Some s) × (verdict_of p text tokens lexical ≡ verdict_end (length text) lexical (accept s))
  to_the_end tokens h = let (s, e) = runs p (syms text tokens) h.fits in (s, e, ap (verdict_from text lexical (start p) 0) (sym (append-nil tokens)) ∙ goes text lexical tokens [] (start p) s 0 e h.shallow)

pub fault_found : {p : Production} {text : List ℕ} {tokens : List Token} {lexical : Option LexFault} {byte : ℕ} {why : Reason} → IsFault p text tokens lexical byte why → verdict_of p text tokens lexical ≡ Bad byte why
fault_found (at_token {p = p} {text = text} {tokens = tokens} {lexical = lexical} {why = why} i t get h k) =
    ap (λ ts. verdict_of p text ts lexical) (split_at tokens i t get)
    ∙ bad_at p text lexical (take i tokens) (drop (suc i) tokens) t why (subst (Stands p) (take-map (sym_of text) i tokens) h) (subst (λ a. Spoils p a (sym_of text t) why) (take-map (sym_of text) i tokens) k)
fault_found (lexical_fault {p = p} {text = text} {tokens = tokens} {fault = fault} h) = let (s, e, k) = to_the_end p text (Some fault) tokens h in k
fault_found (unfinished {p = p} {text = text} {tokens = tokens} h n) = let (s, e, k) = to_the_end p text None tokens h in k ∙ ap (verdict_end (length text) None) (refuses s e (accept s) refl)
  where
    refuses : (s : State) → run (start p) (syms text tokens) ≡ Some s → (m : Option Tree) → accept s ≡ m → accept s ≡ None
    refuses s e None k = k
    refuses s e (Some tree) k = absurd (n tree (derived p (syms text tokens) s tree e k))

stands_whole : (p : Production) (a : List Sym) (tree : Tree) → Derives p a tree → Shallow a → Stands p a
stands_whole p a tree d h = record { fits = ([], tree, subst (λ b. Derives p b tree) (sym (append-nil a)) d); shallow = h }

pub tree_found : {p : Production} {text : List ℕ} {tokens : List Token} {lexical : Option LexFault} {tree : Tree} → IsTree p text tokens lexical tree → verdict_of p text tokens lexical ≡ Good tree
tree_found {p = p} {text = text} {tokens = tokens} {lexical = lexical} {tree = tree} t =
    ap (verdict_of p text tokens) t.whole
    ∙ (let (s, e, k) = to_the_end p text None tokens (stands_whole p (syms text tokens) tree t.derives t.shallow) in k ∙ ap (verdict_end (length text) None) (sym (parse_run p (syms text tokens) s e) ∙ complete t.derives))

-- ---- so a text has either one tree or one fault

good_same : (t u : Tree) → Good t ≡ Good u → t ≡ u
good_same t u e = cc

bad_same : (b c : ℕ) (r q : Reason) → Bad b r ≡ Bad c q → (b ≡ c) × (r ≡ q)
bad_same b c r q e = (cc, cc)

good_bad : (t : Tree) (b : ℕ) (r : Reason) → Good t ≡ Bad b r → ⊥
good_bad t b r e = cc

pub one_tree : (p : Production) (a : List Sym) (t u : Tree) → Derives p a t → Derives p a u → t ≡ u
one_tree p a t u x y = some_same (sym (complete x) ∙ complete y)
  where
    some_same : Some t ≡ Some u → t ≡ u
    some_same e = cc

pub one_fault : (p : Production) (text : List ℕ) (tokens : List Token) (lexical : Option LexFault) (b c : ℕ) (r q : Reason) → IsFault p text tokens lexical b r → IsFault p text tokens lexical c q → (b ≡ c) × (r ≡ q)
one_fault p text tokens lexical b c r q x y = bad_same b c r q (sym (fault_found x) ∙ fault_found y)

pub not_both : (p : Production) (text : List ℕ) (tokens : List Token) (lexical : Option LexFault) (tree : Tree) (b : ℕ) (r : Reason) → IsTree p text tokens lexical tree → IsFault p text tokens lexical b r → ⊥
not_both p text tokens lexical tree b r x y = good_bad tree b r (sym (tree_found x) ∙ fault_found y)

pub either : (p : Production) (text : List ℕ) (tokens : List Token) (lexical : Option LexFault) → ((tree : Tree) × IsTree p text tokens lexical tree) ⊎ ((byte : ℕ) × (why : Reason) × IsFault p text tokens lexical byte why)
either p text tokens lexical = look (verdict_of p text tokens lexical) (verdict_right p text lexical tokens)
  where
    look : (v : Verdict) → Means p text tokens lexical v → ((tree : Tree) × IsTree p text tokens lexical tree) ⊎ ((byte : ℕ) × (why : Reason) × IsFault p text tokens lexical byte why)
    look (Good tree) m = inl (tree, m)
    look (Bad byte why) m = inr (byte, why, m)

pub machine_trees : (p : Production) (a : List Sym) (tree : Tree) → Derives p a tree ↔ (parse (start p) a ≡ Some tree)
machine_trees p a tree = (complete, sound p a tree)

pub machine_fronts : (p : Production) (a : List Sym) → CanStand p a ↔ ((s : State) × (run (start p) a ≡ Some s))
machine_fronts p a = (runs p a, λ k. can_stand p a k.0 k.1)

pub ruleset laws = (either, not_both, one_fault)

pub ruleset machine_laws = (machine_trees, machine_fronts, frames_depth)
