-- What a scan finds is the machine's verdict, and so the text's first fault, or there is none.
use Rattle.std.proofs.Common.{◌≡◌, ℕ, List, [], ◌∷◌, Bool, true, false, refl, ap, sym, ◌∙◌, subst, Option, Some, None, if◌then◌else◌, length, map}
use Rattle.std.specs.Prelude.{nat_lt}
use Rattle.std.proofs.lemmas.List.{length-map}
use Rattle.st_base.specs.Lexed.{lexed_of}
use Rattle.st_base.specs.declared.tokens.Token.{Token}
use Rattle.st_base.specs.declared.tokens.LexFault.{LexFault}
use Rattle.st_base.specs.declared.faults.Reason.{Reason}
use Rattle.st_base.specs.declared.faults.Reason.TheVariants as reason
use Rattle.st_tree.specs.Symbols.{Sym, sym_of, syms}
use Rattle.st_tree.specs.Grammar.{Production, AMethod, ABody, Tree}
use Rattle.st_tree.specs.Faults.{IsTree, IsFault, aside, deeper}
use Rattle.st_parser.specs.States.{Here, Frame}
use Rattle.st_parser.specs.Machine.{State, start, step, step_at, accept}
use Rattle.st_parser.specs.Verdict.{Verdict, Good, Bad, verdict_end, verdict_at, verdict_from, verdict_of}
use Rattle.st_parser.specs.Made.{Makes}
use Rattle.st_parser.specs.Parsed.{Parses, StopsAt}
use Rattle.st_parser.specs.Scan.{turn_at, apply_turn, ends_at}
use Rattle.st_parser.specs.Finding.{fault_from, fault_at, fault_or, fault_end, Found, Stops, is_out_of_range, class_at, starts}
use Rattle.st_parser.specs.declared.scan_state.Now.{Now}
use Rattle.st_parser.specs.declared.scan_state.Held.{Held}
use Rattle.st_parser.specs.declared.stop.ParseStop.{ParseStop}
use Rattle.st_parser.specs.declared.stop.ParseStop.TheVariants.{Fault, OutOfMemory}
use Rattle.st_parser.proofs.Shape.{shape, shapes, now_of, held_of, steps, accepts, is_done}
use Rattle.st_parser.proofs.Larges.{large_stuck}
use Rattle.st_parser.proofs.Classes.{class_same, in_range, large_number, aside_class, aside_range}
use Rattle.st_parser.proofs.Complete.{complete}
use Rattle.st_parser.proofs.Depth.{KeepsDepth, step_depth}
use Rattle.st_parser.proofs.Verdicts.{Means, verdict_right}

-- what a verdict says of faults
abbrev pub found_in : Verdict → Found
found_in (Good tree) = None
found_in (Bad byte why) = Some (byte, why)

end_same : (len : ℕ) (spoiled : Option LexFault) (m : Option Tree) → fault_end len spoiled (is_done m) ≡ found_in (verdict_end len spoiled m)
end_same len (Some fault) m = refl
end_same len None (Some tree) = refl
end_same len None None = refl

module _ (text : List ℕ) (spoiled : Option LexFault) where
  -- a scan and the machine find the same in these tokens, from this state on
  abbrev Same : List Token → Here → List Frame → Type 0
  Same ts h fs = fault_from text spoiled (now_of h) (map held_of fs) ts ≡ found_in (verdict_from text spoiled (h, fs) (length fs) ts)

  -- a token that stands: it opens one too many, or what follows decides
  stands_same : (ts : List Token) (t : Token) (next : State) (d : ℕ) → length next.1 ≡ d → Same ts next.0 next.1 → (over : Bool) → nat_lt 200 d ≡ over
      → fault_or t.start (if over then Some reason.TooDeep else None) (fault_from text spoiled (now_of next.0) (map held_of next.1) ts)
      ≡ found_in (if over then Bad t.start reason.TooDeep else verdict_from text spoiled next d ts)
  stands_same ts t next d k same true o = refl
  stands_same ts t next d k same false o = same ∙ ap (λ d. found_in (verdict_from text spoiled next d ts)) k

  choice : (at : ℕ) (loose next : State) (over : Bool) (behind : State → Verdict) → (if over then Bad at reason.TooDeep else behind next) ≡ verdict_at at (Some loose) (Some next) over behind
  choice at loose next true behind = refl
  choice at loose next false behind = refl

  token_same : (ts : List Token) (t : Token) (d : ℕ) (large : Bool) (loose strict : Option State)
      → (large ≡ false → shapes strict ≡ shapes loose) → (large ≡ true → strict ≡ None)
      → ((next : State) → strict ≡ Some next → (length next.1 ≡ d) × Same ts next.0 next.1)
      → fault_at large t (shapes loose) (λ n hs. fault_from text spoiled n hs ts) ≡ found_in (verdict_at t.start loose strict (nat_lt 200 d) (λ next. verdict_from text spoiled next d ts))
  token_same ts t d large None strict fits stuck go = refl
  token_same ts t d true (Some loose) None fits stuck go = refl
  token_same ts t d true (Some loose) (Some next) fits stuck go = absurd (some_none next (stuck refl))
    where
      some_none : (next : State) → Some next ≡ None → ⊥
      some_none next e = cc
  token_same ts t d false (Some loose) None fits stuck go = absurd (none_some (shape loose) (fits refl))
    where
      none_some : (x : Now × List Held) → None ≡ Some x → ⊥
      none_some x e = cc
  token_same ts t d false (Some loose) (Some next) fits stuck go =
      ap (λ m. fault_at false t m (λ n hs. fault_from text spoiled n hs ts)) (sym (fits refl))
      ∙ ap (λ k. fault_or t.start (if nat_lt 200 k then Some reason.TooDeep else None) (fault_from text spoiled (now_of next.0) (map held_of next.1) ts)) (length-map next.1 held_of ∙ (go next refl).0)
      ∙ stands_same ts t next d (go next refl).0 (go next refl).1 (nat_lt 200 d) refl
      ∙ ap found_in (choice t.start loose next (nat_lt 200 d) (λ next. verdict_from text spoiled next d ts))

  -- a token that is in range does what its class does
  ranged : (h : Here) (fs : List Frame) (t : Token) → is_out_of_range (now_of h) t ≡ false → shapes (step_at h fs (sym_of text t)) ≡ apply_turn (turn_at (now_of h) (class_at text t)) (map held_of fs)
  ranged h fs t r = steps h fs (sym_of text t) (in_range text t (now_of h) r) ∙ ap (λ k. apply_turn (turn_at (now_of h) k) (map held_of fs)) (sym (class_same text t))

  -- and so does one with its value set aside
  set_aside : (h : Here) (fs : List Frame) (t : Token) → shapes (step_at h fs (aside (sym_of text t))) ≡ apply_turn (turn_at (now_of h) (class_at text t)) (map held_of fs)
  set_aside h fs t = steps h fs (aside (sym_of text t)) (aside_range (now_of h) (sym_of text t))
      ∙ ap (λ k. apply_turn (turn_at (now_of h) k) (map held_of fs)) (aside_class (sym_of text t) ∙ sym (class_same text t))

  -- one that is too large stands nowhere
  too_large : (h : Here) (fs : List Frame) (t : Token) → is_out_of_range (now_of h) t ≡ true → step_at h fs (sym_of text t) ≡ None
  too_large h fs t r = let f = large_number text t (now_of h) r in ap (step_at h fs) f.1 ∙ large_stuck h fs f.0 t.start f.2

  deep : (h : Here) (fs : List Frame) (x : Sym) (m : Option State) (next : State) → KeepsDepth fs x m → m ≡ Some next → length next.1 ≡ deeper (length fs) x
  deep h fs x None next k e = cc
  deep h fs x (Some s) next k e = let same : s ≡ next = cc in subst (λ (v : State). length v.1 ≡ deeper (length fs) x) same k

  scan_same : (ts : List Token) (h : Here) (fs : List Frame) → Same ts h fs
  scan_same [] h fs = ap (fault_end (length text) spoiled) (sym (accepts h fs)) ∙ end_same (length text) spoiled (accept (h, fs))
  scan_same (t ∷ ts) h fs =
      ap (λ m. fault_at (is_out_of_range (now_of h) t) t m (λ n hs. fault_from text spoiled n hs ts)) (sym (set_aside h fs t))
      ∙ token_same ts t (deeper (length fs) (sym_of text t)) (is_out_of_range (now_of h) t) (step_at h fs (aside (sym_of text t))) (step_at h fs (sym_of text t))
      (λ r. ranged h fs t r ∙ sym (set_aside h fs t)) (too_large h fs t)
      (λ next e. (deep h fs (sym_of text t) (step_at h fs (sym_of text t)) next (step_depth h fs (sym_of text t)) e, scan_same ts next.0 next.1))

-- what a scan finds is the machine's verdict
pub found_same : (p : Production) (text : List ℕ) (tokens : List Token) (spoiled : Option LexFault) → fault_from text spoiled (starts p) [] tokens ≡ found_in (verdict_of p text tokens spoiled)
found_same AMethod text tokens spoiled = scan_same text spoiled tokens (start AMethod).0 []
found_same ABody text tokens spoiled = scan_same text spoiled tokens (start ABody).0 []

-- ---- of a text, by its own tokens

faulty : (p : Production) (text : List ℕ) (tokens : List Token) (spoiled : Option LexFault) (v : Verdict) (byte : ℕ) (why : Reason) → Means p text tokens spoiled v → found_in v ≡ Some (byte, why) → IsFault p text tokens spoiled byte why
faulty p text tokens spoiled (Good tree) byte why m e = cc
faulty p text tokens spoiled (Bad b r) byte why m e =
    let x : ℕ × Reason = (b, r) in
    let y : ℕ × Reason = (byte, why) in
    let same : Some x ≡ Some y = e in
    let g : x ≡ y = cc in
    subst (λ (z : ℕ × Reason). IsFault p text tokens spoiled z.0 z.1) g m

good : (p : Production) (text : List ℕ) (tokens : List Token) (spoiled : Option LexFault) (v : Verdict) (made : Tree) → Means p text tokens spoiled v → found_in v ≡ None → Makes p (syms text tokens) made → IsTree p text tokens spoiled made
good p text tokens spoiled (Good tree) made m e k = subst (IsTree p text tokens spoiled) (k.gives tree (complete m.derives)) m
good p text tokens spoiled (Bad b r) made m e k = cc

-- what a scan finds is the text's first fault
pub refuses : (p : Production) (text : List ℕ) (tokens : List Token) (spoiled : Option LexFault) (stop : ParseStop) → Stops (fault_from text spoiled (starts p) [] tokens) stop
    → tokens ≡ (lexed_of text).tokens → spoiled ≡ (lexed_of text).fault → StopsAt p text stop
refuses p text tokens spoiled (Fault byte why) e t s =
    subst (λ x. IsFault p text x (lexed_of text).fault byte why) t (subst (λ y. IsFault p text tokens y byte why) s
    (faulty p text tokens spoiled (verdict_of p text tokens spoiled) byte why (verdict_right p text spoiled tokens) (sym (found_same p text tokens spoiled) ∙ e)))
refuses p text tokens spoiled OutOfMemory e t s = tt

-- where it finds none, the second pass makes the text's tree
pub parses : (p : Production) (text : List ℕ) (tokens : List Token) (spoiled : Option LexFault) (made : Tree) → fault_from text spoiled (starts p) [] tokens ≡ None → Makes p (syms text tokens) made
    → tokens ≡ (lexed_of text).tokens → spoiled ≡ (lexed_of text).fault → Parses p text made
parses p text tokens spoiled made e m t s =
    subst (λ x. IsTree p text x (lexed_of text).fault made) t (subst (λ y. IsTree p text tokens y made) s
    (good p text tokens spoiled (verdict_of p text tokens spoiled) made (verdict_right p text spoiled tokens) (sym (found_same p text tokens spoiled) ∙ e) m))
