-- Parts of a text that are written one after the other, and quotes that are written twice.
use Rattle.std.proofs.Common.{◌≡◌, ◌≢◌, inl, inr, ◌+◌, ◌<◌, ℕ, zero, suc, List, [], ◌∷◌, ◌++◌, take, drop, length, get_or, refl, ap, sym, ◌∙◌, arith, append-nil, subst, Option, Some, None, Result, Ok, Err}
use Rattle.std.specs.Result.{OnOk, OnErr}
use Rattle.std.specs.Io.KnownBytes.{append_known}
use Rattle.std.proofs.lemmas.List.{take-append-drop, take_more, drop_more, get_or-drop}
use Rattle.std.proofs.lemmas.Bool.Decides.{eqb_tells}
use Rattle.st_base.specs.Streams.{GainsPrefix}
use Rattle.st_base.proofs.Known.{take-add, append_known-append}
use Rattle.sif_chunks.specs.Split.{doubled}
use Rattle.sif_chunks.specs.Writing.{closed, all_closed}
use Rattle.sif_chunks.proofs.SplitLemmas.{eqb-not}
use Rattle.sif_chunks.proofs.WriterLemmas.{doubled-append, gains_behind}
use Rattle.sif_export.specs.Words.{quotes_doubled, Gains, Puts}

-- ---- what a call gained

pub gains_of : {A E : Type 0} (old new : Option (List ℕ)) (r : Result A E) (bytes : List ℕ) → OnOk r (new ≡ append_known old bytes) → OnErr r (GainsPrefix old new bytes) → Gains old new r bytes
gains_of old new (Ok x) bytes all part = all
gains_of old new (Err e) bytes all part = part

pub gains_all : {A E : Type 0} (old new : Option (List ℕ)) (r : Result A E) (bytes : List ℕ) → Gains old new r bytes → OnOk r (new ≡ append_known old bytes)
gains_all old new (Ok x) bytes h = h
gains_all old new (Err e) bytes h = tt

pub gains_part : {A E : Type 0} (old new : Option (List ℕ)) (r : Result A E) (bytes : List ℕ) → Gains old new r bytes → OnErr r (GainsPrefix old new bytes)
gains_part old new (Ok x) bytes h = tt
gains_part old new (Err e) bytes h = h

append_known-nil : (old : Option (List ℕ)) → old ≡ append_known old []
append_known-nil None = refl
append_known-nil (Some xs) = ap Some (sym (append-nil xs))

-- nothing is written yet
pub started : (old : Option (List ℕ)) → old ≡ append_known old []
started old = append_known-nil old

pub gained_then : (old mid new : Option (List ℕ)) (a b : List ℕ) → mid ≡ append_known old a → new ≡ append_known mid b → new ≡ append_known old (a ++ b)
gained_then old mid new a b first second = second ∙ ap (λ (k : Option (List ℕ)). append_known k b) first ∙ append_known-append old a b

-- the sink fails in the middle of the bytes
pub gains_stop : (old mid new : Option (List ℕ)) (a x rest whole : List ℕ) → mid ≡ append_known old a → GainsPrefix mid new x → whole ≡ a ++ (x ++ rest) → GainsPrefix old new whole
gains_stop old mid new a x rest whole first fails is = subst (GainsPrefix old new) (sym is) (gains_behind old mid new a x rest first fails)

-- the last part, whatever it gives
pub gains_then : {A E : Type 0} (old mid new : Option (List ℕ)) (r : Result A E) (a b : List ℕ) → mid ≡ append_known old a → Gains mid new r b → Gains old new r (a ++ b)
gains_then old mid new (Ok r) a b first second = gained_then old mid new a b first second
gains_then old mid new (Err e) a b first fails = gains_stop old mid new a b [] (a ++ b) first fails (ap (λ (ys : List ℕ). a ++ ys) (sym (append-nil b)))

pub gains_as : {A E : Type 0} (old new : Option (List ℕ)) (r : Result A E) (a b : List ℕ) → Gains old new r a → b ≡ a → Gains old new r b
gains_as old new r a b gains is = subst (λ (ys : List ℕ). Gains old new r ys) (sym is) gains

-- ---- texts, each bang twice

pub written_then : (old mid new : Option (List ℕ)) (a b : List ℕ) → mid ≡ append_known old (doubled a) → new ≡ append_known mid (doubled b) → new ≡ append_known old (doubled (a ++ b))
written_then old mid new a b first second = gained_then old mid new (doubled a) (doubled b) first second ∙ ap (append_known old) (sym (doubled-append a b))

pub fails_then : (old mid new : Option (List ℕ)) (a x rest whole : List ℕ) → mid ≡ append_known old (doubled a) → GainsPrefix mid new (doubled x) → whole ≡ a ++ (x ++ rest) → GainsPrefix old new (doubled whole)
fails_then old mid new a x rest whole first fails is =
    gains_stop old mid new (doubled a) (doubled x) (doubled rest) (doubled whole) first fails (ap doubled is ∙ doubled-append a (x ++ rest) ∙ ap (λ (ys : List ℕ). doubled a ++ ys) (doubled-append x rest))

pub puts_then : {A E : Type 0} (old mid new : Option (List ℕ)) (r : Result A E) (a b : List ℕ) → mid ≡ append_known old (doubled a) → Puts mid new r b → Puts old new r (a ++ b)
puts_then old mid new (Ok r) a b first second = written_then old mid new a b first second
puts_then old mid new (Err e) a b first fails = fails_then old mid new a b [] (a ++ b) first fails (ap (λ (ys : List ℕ). a ++ ys) (sym (append-nil b)))

-- ---- quotes twice

pub quotes_doubled-append : (a b : List ℕ) → quotes_doubled (a ++ b) ≡ quotes_doubled a ++ quotes_doubled b
quotes_doubled-append [] b = refl
quotes_doubled-append (c ∷ cs) b = elim (eqb_tells c 39) [
  | inl is ↦ rw (is.0) (ap (λ (xs : List ℕ). 39 ∷ 39 ∷ xs) (quotes_doubled-append cs b))
  | inr other ↦ rw (other.0) (ap (λ (xs : List ℕ). c ∷ xs) (quotes_doubled-append cs b))
]

quotes_doubled-plain : (xs : List ℕ) (run : ℕ) → ((k : ℕ) → k < run → get_or xs k 0 ≢ 39) → quotes_doubled (take run xs) ≡ take run xs
quotes_doubled-plain [] zero none = refl
quotes_doubled-plain [] (suc run) none = refl
quotes_doubled-plain (x ∷ xs) zero none = refl
quotes_doubled-plain (x ∷ xs) (suc run) none =
    rw (eqb-not x 39 (none 0 (omega arith))) (ap (λ (ys : List ℕ). x ∷ ys) (quotes_doubled-plain xs run (λ k low. none (suc k) (omega arith))))

abbrev HasRun : List ℕ → ℕ → Type 0
HasRun bytes run = (k : ℕ) → k < run → get_or bytes k 0 ≢ 39

-- the bytes so far and a run without quotes
quotes_run : (bytes : List ℕ) (at run : ℕ) → HasRun (drop at bytes) run → quotes_doubled (take (at + run) bytes) ≡ quotes_doubled (take at bytes) ++ take run (drop at bytes)
quotes_run bytes at run plain =
    ap quotes_doubled (take-add at run bytes) ∙ quotes_doubled-append (take at bytes) (take run (drop at bytes)) ∙ ap (λ (xs : List ℕ). quotes_doubled (take at bytes) ++ xs) (quotes_doubled-plain (drop at bytes) run plain)

quotes_whole : (bytes : List ℕ) (at : ℕ) → quotes_doubled bytes ≡ quotes_doubled (take at bytes) ++ quotes_doubled (drop at bytes)
quotes_whole bytes at = ap quotes_doubled (sym (take-append-drop at bytes)) ∙ quotes_doubled-append (take at bytes) (drop at bytes)

-- a run was written in part
pub part_of_run : (old now new : Option (List ℕ)) (bytes : List ℕ) (at run : ℕ) → now ≡ append_known old (doubled (quotes_doubled (take at bytes))) → HasRun (drop at bytes) run → GainsPrefix now new (doubled (take run (drop at bytes))) → GainsPrefix old new (doubled (quotes_doubled bytes))
part_of_run old now new bytes at run so_far plain part =
    fails_then old now new (quotes_doubled (take at bytes)) (take run (drop at bytes)) (quotes_doubled (drop run (drop at bytes))) (quotes_doubled bytes) so_far part
    (quotes_whole bytes at ∙ ap (λ (xs : List ℕ). quotes_doubled (take at bytes) ++ xs) (quotes_whole (drop at bytes) run ∙ ap (λ (xs : List ℕ). xs ++ quotes_doubled (drop run (drop at bytes))) (quotes_doubled-plain (drop at bytes) run plain)))

-- a run was written
pub after_run : (old now next : Option (List ℕ)) (bytes : List ℕ) (at run : ℕ) → now ≡ append_known old (doubled (quotes_doubled (take at bytes))) → HasRun (drop at bytes) run → next ≡ append_known now (doubled (take run (drop at bytes))) → next ≡ append_known old (doubled (quotes_doubled (take (at + run) bytes)))
after_run old now next bytes at run so_far plain step =
    written_then old now next (quotes_doubled (take at bytes)) (take run (drop at bytes)) so_far step ∙ ap (λ (xs : List ℕ). append_known old (doubled xs)) (sym (quotes_run bytes at run plain))

-- a quote was written twice
pub after_quote : (old now next : Option (List ℕ)) (bytes : List ℕ) (at : ℕ) → now ≡ append_known old (doubled (quotes_doubled (take at bytes))) → at < length bytes → get_or bytes at 0 ≡ 39 → next ≡ append_known now (doubled (39 ∷ 39 ∷ [])) → next ≡ append_known old (doubled (quotes_doubled (take (at + 1) bytes)))
after_quote old now next bytes at so_far low is step =
    let more : quotes_doubled (take (at + 1) bytes) ≡ quotes_doubled (take at bytes) ++ (39 ∷ 39 ∷ []) = ap quotes_doubled (take_more bytes at 0 low) ∙ quotes_doubled-append (take at bytes) (get_or bytes at 0 ∷ []) ∙ rw is refl in
    written_then old now next (quotes_doubled (take at bytes)) (39 ∷ 39 ∷ []) so_far step ∙ ap (λ (xs : List ℕ). append_known old (doubled xs)) (sym more)

-- two quotes were written in part
pub part_of_quote : (old now new : Option (List ℕ)) (bytes : List ℕ) (at : ℕ) → now ≡ append_known old (doubled (quotes_doubled (take at bytes))) → at < length bytes → get_or bytes at 0 ≡ 39 → GainsPrefix now new (doubled (39 ∷ 39 ∷ [])) → GainsPrefix old new (doubled (quotes_doubled bytes))
part_of_quote old now new bytes at so_far low is part =
    let rest : quotes_doubled (drop at bytes) ≡ (39 ∷ 39 ∷ []) ++ quotes_doubled (drop (at + 1) bytes) = ap quotes_doubled (drop_more bytes at 0 low) ∙ rw is refl in
    fails_then old now new (quotes_doubled (take at bytes)) (39 ∷ 39 ∷ []) (quotes_doubled (drop (at + 1) bytes)) (quotes_doubled bytes) so_far part (quotes_whole bytes at ∙ ap (λ (xs : List ℕ). quotes_doubled (take at bytes) ++ xs) rest)

pub quote_at : (bytes : List ℕ) (at run : ℕ) → run < length (drop at bytes) → (run < length (drop at bytes) → get_or (drop at bytes) run 0 ≡ 39) → get_or bytes (at + run) 0 ≡ 39
quote_at bytes at run low is = sym (get_or-drop at bytes run 0) ∙ is low

-- ---- elements

-- one element is all of them
pub gains_one : {A E : Type 0} (old new : Option (List ℕ)) (r : Result A E) (text : List ℕ) (texts : List (List ℕ)) → Gains old new r (closed text) → texts ≡ text ∷ [] → Gains old new r (all_closed texts)
gains_one old new r text texts gains is = gains_as old new r (closed text) (all_closed texts) gains (ap all_closed is ∙ append-nil (closed text))

-- the first of two elements fails, or is followed by the second
pub first_fails : (old new : Option (List ℕ)) (a b : List ℕ) (texts : List (List ℕ)) → GainsPrefix old new (closed a) → texts ≡ a ∷ b ∷ [] → GainsPrefix old new (all_closed texts)
first_fails old new a b texts fails is = gains_stop old old new [] (closed a) (closed b ++ []) (all_closed texts) (started old) fails (ap all_closed is)

pub gains_two : {A E : Type 0} (old mid new : Option (List ℕ)) (r : Result A E) (a b : List ℕ) (texts : List (List ℕ)) → mid ≡ append_known old (closed a) → Gains mid new r (closed b) → texts ≡ a ∷ b ∷ [] → Gains old new r (all_closed texts)
gains_two old mid new r a b texts first gains is = gains_as old new r (closed a ++ closed b) (all_closed texts) (gains_then old mid new r (closed a) (closed b) first gains) (ap all_closed is ∙ ap (λ (ys : List ℕ). closed a ++ ys) (append-nil (closed b)))
