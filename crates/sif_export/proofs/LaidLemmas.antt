-- Words that are written one after the other.
use Rattle.std.proofs.Common.{◌≡◌, ℕ, Bool, if◌then◌else◌, List, [], ◌∷◌, ◌++◌, refl, ap, sym, ◌∙◌, append_assoc, subst, Option, Result, Ok, Err}
use Rattle.std.specs.Io.KnownBytes.{append_known}
use Rattle.std.proofs.lemmas.List.{append-nil}
use Rattle.st_base.specs.Streams.{GainsPrefix}
use Rattle.st_base.proofs.Known.{append_known-append}
use Rattle.sif_chunks.specs.Split.{doubled}
use Rattle.sif_chunks.specs.Writing.{closing, closed}
use Rattle.sif_chunks.proofs.WriterLemmas.{doubled-append, gains_behind}
use Rattle.sif_export.specs.Words.{Word, Gap, Blank, spell, behind, gap_bytes, led, laid, due, Done, Lays, IsSpelled, Gains}
use Rattle.sif_export.proofs.PieceLemmas.{started, gains_stop, gains_then, written_then, fails_then}

pub laid-append : (g : Gap) (a b : List Word) → laid g (a ++ b) ≡ laid g a ++ laid (due g a) b
laid-append g [] b = refl
laid-append g (w ∷ ws) b = ap (λ (ys : List ℕ). led g w ++ ys) (laid-append (behind w) ws b) ∙ sym (append_assoc (led g w) (laid (behind w) ws) (laid (due (behind w) ws) b))

pub due-append : (g : Gap) (a b : List Word) → due g (a ++ b) ≡ due (due g a) b
due-append g [] b = refl
due-append g (w ∷ ws) b = due-append (behind w) ws b

pub done_none : (g : Gap) (old : Option (List ℕ)) → Done g old g old []
done_none g old = record { written = started old; gap = refl }

-- these words are written, and then those
pub done_more : (g0 g g' : Gap) (old mid new : Option (List ℕ)) (a b : List Word) → Done g0 old g mid a → Done g mid g' new b → Done g0 old g' new (a ++ b)
done_more g0 g g' old mid new a b so_far step = record {
  written =
      let moved : laid g b ≡ laid (due g0 a) b = ap (λ (h : Gap). laid h b) so_far.gap in
      step.written ∙ ap (λ (k : Option (List ℕ)). append_known k (doubled (laid g b))) so_far.written ∙ append_known-append old (doubled (laid g0 a)) (doubled (laid g b))
      ∙ ap (append_known old) (sym (doubled-append (laid g0 a) (laid g b)) ∙ ap doubled (ap (λ (ys : List ℕ). laid g0 a ++ ys) moved ∙ sym (laid-append g0 a b)));
  gap = step.gap ∙ ap (λ (h : Gap). due h b) so_far.gap ∙ sym (due-append g0 a b);
}

-- these words are written, and the sink fails in the next
pub stopped : (g0 g : Gap) (old mid new : Option (List ℕ)) (a b rest words : List Word) → Done g0 old g mid a → GainsPrefix mid new (doubled (laid g b)) → words ≡ a ++ (b ++ rest) → GainsPrefix old new (doubled (laid g0 words))
stopped g0 g old mid new a b rest words so_far fails is =
    let text : doubled (laid g0 a) ++ (doubled (laid g b) ++ doubled (laid (due g b) rest)) ≡ doubled (laid g0 words) =
    ap (λ (ys : List ℕ). doubled (laid g0 a) ++ ys) (sym (doubled-append (laid g b) (laid (due g b) rest)) ∙ ap doubled (sym (laid-append g b rest)))
    ∙ sym (doubled-append (laid g0 a) (laid g (b ++ rest)))
    ∙ ap doubled (ap (λ (h : Gap). laid g0 a ++ laid h (b ++ rest)) so_far.gap ∙ sym (laid-append g0 a (b ++ rest)) ∙ ap (laid g0) (sym is)) in
    subst (GainsPrefix old new) text (gains_behind old mid new (doubled (laid g0 a)) (doubled (laid g b)) (doubled (laid (due g b) rest)) so_far.written fails)

-- the last part of the words, whatever it gives
pub lays_more : {E : Type 0} (g0 g : Gap) (old mid new : Option (List ℕ)) (r : Result Gap E) (a b : List Word) → Done g0 old g mid a → Lays g mid new r b → Lays g0 old new r (a ++ b)
lays_more g0 g old mid new (Ok g') a b so_far last = done_more g0 g g' old mid new a b so_far last
lays_more g0 g old mid new (Err e) a b so_far last = stopped g0 g old mid new a b [] (a ++ b) so_far last (ap (λ (ws : List Word). a ++ ws) (sym (append-nil b)))

pub laid-word : (g : Gap) (w : Word) (text : List ℕ) → IsSpelled w text → laid g (w ∷ []) ≡ gap_bytes g ++ text
laid-word g w text is = append-nil (led g w) ∙ ap (λ (b : Bool). (if b then [] else gap_bytes g) ++ spell w) is.1 ∙ ap (λ (ys : List ℕ). gap_bytes g ++ ys) is.0

-- a spelled word
pub done_word : (g : Gap) (old new : Option (List ℕ)) (w : Word) (text : List ℕ) → IsSpelled w text → new ≡ append_known old (doubled (gap_bytes g ++ text)) → Done g old Blank new (w ∷ [])
done_word g old new w text is wrote = record { written = wrote ∙ ap (λ (ys : List ℕ). append_known old (doubled ys)) (sym (laid-word g w text is)); gap = sym is.2 }

pub fails_word : (g : Gap) (old new : Option (List ℕ)) (w : Word) (text : List ℕ) → IsSpelled w text → GainsPrefix old new (doubled (gap_bytes g ++ text)) → GainsPrefix old new (doubled (laid g (w ∷ [])))
fails_word g old new w text is fails = subst (λ (ys : List ℕ). GainsPrefix old new (doubled ys)) (sym (laid-word g w text is)) fails

-- a word of a front and a text behind it
pub word_first_fails : (g : Gap) (old new : Option (List ℕ)) (w : Word) (front text x rest : List ℕ) → IsSpelled w (front ++ text) → GainsPrefix old new (doubled x) → gap_bytes g ++ (front ++ text) ≡ x ++ rest → GainsPrefix old new (doubled (laid g (w ∷ [])))
word_first_fails g old new w front text x rest is fails cut = fails_word g old new w (front ++ text) is (fails_then old old new [] x rest (gap_bytes g ++ (front ++ text)) (started old) fails cut)

pub word_last_fails : (g : Gap) (old mid new : Option (List ℕ)) (w : Word) (front text : List ℕ) → IsSpelled w (front ++ text) → mid ≡ append_known old (doubled (gap_bytes g ++ front)) → GainsPrefix mid new (doubled text) → GainsPrefix old new (doubled (laid g (w ∷ [])))
word_last_fails g old mid new w front text is first fails =
    fails_word g old new w (front ++ text) is (fails_then old mid new (gap_bytes g ++ front) text [] (gap_bytes g ++ (front ++ text)) first fails (sym (append_assoc (gap_bytes g) front text) ∙ ap (λ (ys : List ℕ). (gap_bytes g ++ front) ++ ys) (sym (append-nil text))))

pub word_written : (g : Gap) (old mid new : Option (List ℕ)) (w : Word) (front text : List ℕ) → IsSpelled w (front ++ text) → mid ≡ append_known old (doubled (gap_bytes g ++ front)) → new ≡ append_known mid (doubled text) → Done g old Blank new (w ∷ [])
word_written g old mid new w front text is first second =
    done_word g old new w (front ++ text) is (written_then old mid new (gap_bytes g ++ front) text first second ∙ ap (λ (ys : List ℕ). append_known old (doubled ys)) (append_assoc (gap_bytes g) front text))

pub done_as : (g g' : Gap) (old new : Option (List ℕ)) (a b : List Word) → Done g old g' new a → b ≡ a → Done g old g' new b
done_as g g' old new a b so_far is = subst (λ (ws : List Word). Done g old g' new ws) (sym is) so_far

pub lays_as : {E : Type 0} (g : Gap) (old new : Option (List ℕ)) (r : Result Gap E) (a b : List Word) → Lays g old new r a → b ≡ a → Lays g old new r b
lays_as g old new r a b lays is = subst (λ (ws : List Word). Lays g old new r ws) (sym is) lays

-- two steps behind what is written
pub done_then : (g0 g g' g'' : Gap) (old mid mid' new : Option (List ℕ)) (a b d : List Word) → Done g0 old g mid a → Done g mid g' mid' b → Done g' mid' g'' new d → Done g0 old g'' new (a ++ (b ++ d))
done_then g0 g g' g'' old mid mid' new a b d so_far first second = done_more g0 g g'' old mid new a (b ++ d) so_far (done_more g g' g'' mid mid' new b d first second)

pub stopped_then : (g0 g g' : Gap) (old mid mid' new : Option (List ℕ)) (a b d rest words : List Word) → Done g0 old g mid a → Done g mid g' mid' b → GainsPrefix mid' new (doubled (laid g' d)) → words ≡ a ++ (b ++ (d ++ rest)) → GainsPrefix old new (doubled (laid g0 words))
stopped_then g0 g g' old mid mid' new a b d rest words so_far first fails is =
    stopped g0 g' old mid' new (a ++ b) d rest words (done_more g0 g g' old mid mid' a b so_far first) fails (is ∙ sym (append_assoc a b (d ++ rest)))

-- the words of an element were written, and its end, whatever that gives
pub lays_closed : {A E : Type 0} (g : Gap) (old mid new : Option (List ℕ)) (to : Gap) (r : Result A E) (ws : List Word) → Done g old to mid ws → Gains mid new r closing → Gains old new r (closed (laid g ws))
lays_closed g old mid new to r ws done close = gains_then old mid new r (doubled (laid g ws)) closing done.written close

-- the sink fails in the words of an element
pub fails_open : (old new : Option (List ℕ)) (text : List ℕ) → GainsPrefix old new (doubled text) → GainsPrefix old new (closed text)
fails_open old new text fails = gains_stop old old new [] (doubled text) closing (closed text) (started old) fails refl

-- a word of three parts
pub word_middle_fails : (g : Gap) (old mid new : Option (List ℕ)) (w : Word) (a b d : List ℕ) → IsSpelled w (a ++ (b ++ d)) → mid ≡ append_known old (doubled (gap_bytes g ++ a)) → GainsPrefix mid new (doubled b) → GainsPrefix old new (doubled (laid g (w ∷ [])))
word_middle_fails g old mid new w a b d is first fails =
    fails_word g old new w (a ++ (b ++ d)) is (fails_then old mid new (gap_bytes g ++ a) b d (gap_bytes g ++ (a ++ (b ++ d))) first fails (sym (append_assoc (gap_bytes g) a (b ++ d))))

front_written : (g : Gap) (old mid mid' : Option (List ℕ)) (a b : List ℕ) → mid ≡ append_known old (doubled (gap_bytes g ++ a)) → mid' ≡ append_known mid (doubled b) → mid' ≡ append_known old (doubled (gap_bytes g ++ (a ++ b)))
front_written g old mid mid' a b first second = written_then old mid mid' (gap_bytes g ++ a) b first second ∙ ap (λ (ys : List ℕ). append_known old (doubled ys)) (append_assoc (gap_bytes g) a b)

spelled_apart : (w : Word) (a b d : List ℕ) → IsSpelled w (a ++ (b ++ d)) → IsSpelled w ((a ++ b) ++ d)
spelled_apart w a b d is = subst (IsSpelled w) (sym (append_assoc a b d)) is

pub word_third_fails : (g : Gap) (old mid mid' new : Option (List ℕ)) (w : Word) (a b d : List ℕ) → IsSpelled w (a ++ (b ++ d)) → mid ≡ append_known old (doubled (gap_bytes g ++ a)) → mid' ≡ append_known mid (doubled b) → GainsPrefix mid' new (doubled d) → GainsPrefix old new (doubled (laid g (w ∷ [])))
word_third_fails g old mid mid' new w a b d is first second fails = word_last_fails g old mid' new w (a ++ b) d (spelled_apart w a b d is) (front_written g old mid mid' a b first second) fails

pub word_of_three : (g : Gap) (old mid mid' new : Option (List ℕ)) (w : Word) (a b d : List ℕ) → IsSpelled w (a ++ (b ++ d)) → mid ≡ append_known old (doubled (gap_bytes g ++ a)) → mid' ≡ append_known mid (doubled b) → new ≡ append_known mid' (doubled d) → Done g old Blank new (w ∷ [])
word_of_three g old mid mid' new w a b d is first second third = word_written g old mid' new w (a ++ b) d (spelled_apart w a b d is) (front_written g old mid mid' a b first second) third
