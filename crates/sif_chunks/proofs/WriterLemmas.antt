-- What is written of bytes with each bang twice, run by run.
use Rattle.std.proofs.Common.{◌≡◌, ◌≢◌, ◌+◌, ◌<◌, ◌≤◌, ℕ, List, [], ◌∷◌, ◌++◌, take, drop, length, get_or, Option, Result, Ok, Err, refl, ap, sym, ◌∙◌, subst, arith, append_assoc, inl, inr}
use Rattle.std.specs.Result.{OnErr}
use Rattle.std.specs.Io.KnownBytes.{append_known}
use Rattle.std.proofs.lemmas.List.{take-append-drop, drop_more, take_more, length-drop, get_or-drop}
use Rattle.std.proofs.lemmas.Bool.Decides.{eqb_tells}
use Rattle.std.proofs.Math.Seq.{take-append_seam}
use Rattle.st_base.specs.Streams.{GainsPrefix}
use Rattle.st_base.proofs.Known.{take-add, append_known-append}
use Rattle.sif_chunks.specs.Split.{doubled}
use Rattle.sif_chunks.proofs.SplitLemmas.{IsPlain, IsPlain-take, eqb-not}

pub on_err : {T E : Type 0} (result : Result T E) (P : Type 0) → P → OnErr result P
on_err (Ok x) P holds = tt
on_err (Err e) P holds = holds

-- a prefix of some bytes behind others is a prefix of all of them
pub gains_behind : (old mid new : Option (List ℕ)) (a b c : List ℕ) → mid ≡ append_known old a → GainsPrefix mid new b → GainsPrefix old new (a ++ (b ++ c))
gains_behind old mid new a b c so_far part =
    let n = part.0 in
    let cut : take n b ++ drop n b ≡ b = take-append-drop n b in
    let whole : a ++ (b ++ c) ≡ (a ++ take n b) ++ (drop n b ++ c) =
    ap (λ (xs : List ℕ). a ++ (xs ++ c)) (sym cut) ∙ ap (λ (xs : List ℕ). a ++ xs) (append_assoc (take n b) (drop n b) c) ∙ sym (append_assoc a (take n b) (drop n b ++ c)) in
    let first : take (length (a ++ take n b)) (a ++ (b ++ c)) ≡ a ++ take n b =
    ap (take (length (a ++ take n b))) whole ∙ take-append_seam (a ++ take n b) (drop n b ++ c) in
    (length (a ++ take n b), part.1 ∙ ap (λ (k : Option (List ℕ)). append_known k (take n b)) so_far ∙ append_known-append old a (take n b) ∙ ap (append_known old) (sym first))

pub gains_front : (old new : Option (List ℕ)) (b c : List ℕ) → GainsPrefix old new b → GainsPrefix old new (b ++ c)
gains_front old new b c part =
    let n = part.0 in
    let cut : take n b ++ drop n b ≡ b = take-append-drop n b in
    let whole : b ++ c ≡ take n b ++ (drop n b ++ c) = ap (λ (xs : List ℕ). xs ++ c) (sym cut) ∙ append_assoc (take n b) (drop n b) c in
    (length (take n b), part.1 ∙ ap (append_known old) (sym (ap (take (length (take n b))) whole ∙ take-append_seam (take n b) (drop n b ++ c))))

pub doubled-append : (xs ys : List ℕ) → doubled (xs ++ ys) ≡ doubled xs ++ doubled ys
doubled-append [] ys = refl
doubled-append (x ∷ xs) ys = elim (eqb_tells x 33) [
  | inl is ↦ rw is.0 (ap (λ (zs : List ℕ). 33 ∷ 33 ∷ zs) (doubled-append xs ys))
  | inr other ↦ rw other.0 (ap (λ (zs : List ℕ). x ∷ zs) (doubled-append xs ys))
]

doubled-plain : (xs : List ℕ) → IsPlain xs → doubled xs ≡ xs
doubled-plain [] plain = refl
doubled-plain (x ∷ xs) plain = rw (eqb-not x 33 plain.0) (ap (λ (zs : List ℕ). x ∷ zs) (doubled-plain xs plain.1))

abbrev HasRun : List ℕ → ℕ → Type 0
HasRun bytes run = (k : ℕ) → k < run → get_or bytes k 0 ≢ 33

doubled-run : (bytes : List ℕ) (run : ℕ) → HasRun bytes run → doubled (take run bytes) ≡ take run bytes
doubled-run bytes run plain = doubled-plain (take run bytes) (IsPlain-take bytes run (λ k low within. plain k low))

-- the bytes so far and a run of plain bytes
pub doubled_run : (bytes : List ℕ) (at run : ℕ) → HasRun (drop at bytes) run → doubled (take (at + run) bytes) ≡ doubled (take at bytes) ++ take run (drop at bytes)
doubled_run bytes at run plain =
    ap doubled (take-add at run bytes)
    ∙ doubled-append (take at bytes) (take run (drop at bytes))
    ∙ ap (λ (xs : List ℕ). doubled (take at bytes) ++ xs) (doubled-run (drop at bytes) run plain)

-- and a bang behind them
pub doubled_bang : (bytes : List ℕ) (at : ℕ) → at < length bytes → get_or bytes at 0 ≡ 33 → doubled (take (at + 1) bytes) ≡ doubled (take at bytes) ++ 33 ∷ 33 ∷ []
doubled_bang bytes at low bang =
    ap doubled (take_more bytes at 0 low)
    ∙ doubled-append (take at bytes) (get_or bytes at 0 ∷ [])
    ∙ rw bang refl

doubled_whole : (bytes : List ℕ) (at : ℕ) → doubled bytes ≡ doubled (take at bytes) ++ doubled (drop at bytes)
doubled_whole bytes at = ap doubled (sym (take-append-drop at bytes)) ∙ doubled-append (take at bytes) (drop at bytes)

-- a run was written in part
pub part_of_run : (old now new : Option (List ℕ)) (bytes : List ℕ) (at run : ℕ) → now ≡ append_known old (doubled (take at bytes)) → HasRun (drop at bytes) run → GainsPrefix now new (take run (drop at bytes)) → GainsPrefix old new (doubled bytes)
part_of_run old now new bytes at run so_far plain part =
    let rest : doubled (drop at bytes) ≡ take run (drop at bytes) ++ doubled (drop run (drop at bytes)) =
    doubled_whole (drop at bytes) run ∙ ap (λ (xs : List ℕ). xs ++ doubled (drop run (drop at bytes))) (doubled-run (drop at bytes) run plain) in
    subst (GainsPrefix old new) (sym (doubled_whole bytes at ∙ ap (λ (xs : List ℕ). doubled (take at bytes) ++ xs) rest))
    (gains_behind old now new (doubled (take at bytes)) (take run (drop at bytes)) (doubled (drop run (drop at bytes))) so_far part)

-- a run was written
pub after_run : (old now next : Option (List ℕ)) (bytes : List ℕ) (at run : ℕ) → now ≡ append_known old (doubled (take at bytes)) → HasRun (drop at bytes) run → next ≡ append_known now (take run (drop at bytes)) → next ≡ append_known old (doubled (take (at + run) bytes))
after_run old now next bytes at run so_far plain step =
    step ∙ ap (λ (k : Option (List ℕ)). append_known k (take run (drop at bytes))) so_far
    ∙ append_known-append old (doubled (take at bytes)) (take run (drop at bytes))
    ∙ ap (append_known old) (sym (doubled_run bytes at run plain))

-- a bang was written twice
pub after_bang : (old now next : Option (List ℕ)) (bytes : List ℕ) (at : ℕ) → now ≡ append_known old (doubled (take at bytes)) → at < length bytes → get_or bytes at 0 ≡ 33 → next ≡ append_known now (33 ∷ 33 ∷ []) → next ≡ append_known old (doubled (take (at + 1) bytes))
after_bang old now next bytes at so_far low bang step =
    step ∙ ap (λ (k : Option (List ℕ)). append_known k (33 ∷ 33 ∷ [])) so_far
    ∙ append_known-append old (doubled (take at bytes)) (33 ∷ 33 ∷ [])
    ∙ ap (append_known old) (sym (doubled_bang bytes at low bang))

-- two bangs were written in part
pub part_of_bang : (old now new : Option (List ℕ)) (bytes : List ℕ) (at : ℕ) → now ≡ append_known old (doubled (take at bytes)) → at < length bytes → get_or bytes at 0 ≡ 33 → GainsPrefix now new (33 ∷ 33 ∷ []) → GainsPrefix old new (doubled bytes)
part_of_bang old now new bytes at so_far low bang part =
    let rest : doubled (drop at bytes) ≡ 33 ∷ 33 ∷ doubled (drop (at + 1) bytes) = ap doubled (drop_more bytes at 0 low) ∙ rw bang refl in
    subst (GainsPrefix old new) (sym (doubled_whole bytes at ∙ ap (λ (xs : List ℕ). doubled (take at bytes) ++ xs) rest))
    (gains_behind old now new (doubled (take at bytes)) (33 ∷ 33 ∷ []) (doubled (drop (at + 1) bytes)) so_far part)

pub bang_at : (bytes : List ℕ) (at run : ℕ) → run < length (drop at bytes) → (run < length (drop at bytes) → get_or (drop at bytes) run 0 ≡ 33) → get_or bytes (at + run) 0 ≡ 33
bang_at bytes at run low bang = sym (get_or-drop at bytes run 0) ∙ bang low

pub run_within : (bytes : List ℕ) (at run : ℕ) → at ≤ length bytes → run ≤ length (drop at bytes) → at + run ≤ length bytes
run_within bytes at run low fits = omega (arith, length-drop at bytes)

pub bang_within : (bytes : List ℕ) (at run : ℕ) → run < length (drop at bytes) → at + run < length bytes
bang_within bytes at run fits = omega (arith, length-drop at bytes)
