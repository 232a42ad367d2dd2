-- What was written so far, and what a sink has when more is written or a call fails.
use Rattle.std.proofs.Common.{◌≡◌, ℕ, ◌+◌, ◌<◌, List, [], ◌∷◌, ◌++◌, length, get_or, take, drop, Option, Some, None, Result, Ok, Err, OnOk, OnErr, refl, ap, sym, ◌∙◌, arith}
use Rattle.std.specs.Io.KnownBytes.{append_known}
use Rattle.std.proofs.lemmas.List.{append-nil, append_assoc, take-append-drop, drop_more}
use Rattle.std.proofs.Math.Seq.{take-append_seam}
use Rattle.object_heap.specs.Store.{Store}
use Rattle.st_base.specs.Streams.{GainsPrefix}
use Rattle.st_base.proofs.Known.{append_known-append}
use Rattle.st_code.specs.Texts.{Text, quotes_doubled}
use Rattle.st_code.specs.Program.{Program}
use Rattle.st_messages.specs.declared.pieces.Piece.{Piece}
use Rattle.st_messages.specs.Pieces.{piece_text, pieces_text}
use Rattle.st_messages.proofs.NewTexts.{text_front}
use Rattle.st_messages.proofs.Puts.{doubled_more}
use Rattle.st_transcript.specs.Gained.{Gains}

-- of all this text what stands before the rest was written
pub record Wrote (total rest : Text) (before now : Option Text) : Type 0 where
  pub prior : Text
  pub split : total ≡ prior ++ rest
  pub wrote : now ≡ append_known before prior

wrote_none : (o : Option Text) → o ≡ append_known o []
wrote_none None = refl
wrote_none (Some t) = ap (λ (u : Text). Some u) (sym (append-nil t))

pub wrote_first : (total rest : Text) (o : Option Text) → total ≡ rest → Wrote total rest o o
wrote_first total rest o e = record { prior = []; split = e; wrote = wrote_none o }

pub wrote_more : (total more rest : Text) (before now after : Option Text) → Wrote total (more ++ rest) before now → after ≡ append_known now more → Wrote total rest before after
wrote_more total more rest before now after w e =
    record {
      prior = w.prior ++ more;
      split = w.split ∙ sym (append_assoc w.prior more rest);
      wrote = e ∙ ap (λ (o : Option Text). append_known o more) w.wrote ∙ append_known-append before w.prior more;
    }

pub wrote_last : (total : Text) (before now : Option Text) → Wrote total [] before now → now ≡ append_known before total
wrote_last total before now w = w.wrote ∙ ap (append_known before) (sym (w.split ∙ append-nil w.prior))

pub wrote_part : (total more rest : Text) (before now after : Option Text) → Wrote total (more ++ rest) before now → GainsPrefix now after more → GainsPrefix before after total
wrote_part total more rest before now after w part =
    let n = part.0 in
    let cut : take n more ++ drop n more ≡ more = take-append-drop n more in
    let whole : total ≡ (w.prior ++ take n more) ++ (drop n more ++ rest) =
    w.split
    ∙ ap (λ (t : Text). w.prior ++ (t ++ rest)) (sym cut)
    ∙ ap (λ (t : Text). w.prior ++ t) (append_assoc (take n more) (drop n more) rest)
    ∙ sym (append_assoc w.prior (take n more) (drop n more ++ rest)) in
    let first : take (length (w.prior ++ take n more)) total ≡ w.prior ++ take n more =
    ap (take (length (w.prior ++ take n more))) whole ∙ take-append_seam (w.prior ++ take n more) (drop n more ++ rest) in
    (length (w.prior ++ take n more), part.1 ∙ ap (λ (o : Option Text). append_known o (take n more)) w.wrote ∙ append_known-append before w.prior (take n more) ∙ ap (append_known before) (sym first))

-- the same where nothing comes behind
pub wrote_end : {A E : Type 0} (total rest : Text) (before now after : Option Text) (r : Result A E) → Wrote total rest before now → Gains now after r rest → Gains before after r total
wrote_end total rest before now after (Ok x) w g =
    wrote_last total before after (wrote_more total rest [] before now after (record { prior = w.prior; split = w.split ∙ ap (λ (t : Text). w.prior ++ t) (sym (append-nil rest)); wrote = w.wrote }) g)
wrote_end total rest before now after (Err e) w g =
    wrote_part total rest [] before now after (record { prior = w.prior; split = w.split ∙ ap (λ (t : Text). w.prior ++ t) (sym (append-nil rest)); wrote = w.wrote }) g

pub gains_of : {A E : Type 0} (old new : Option Text) (r : Result A E) (bytes : Text) → OnOk r (new ≡ append_known old bytes) → OnErr r (GainsPrefix old new bytes) → Gains old new r bytes
gains_of old new (Ok x) bytes all part = all
gains_of old new (Err e) bytes all part = part

pub gains_as : {A E : Type 0} (old new : Option Text) (r : Result A E) (a b : Text) → a ≡ b → Gains old new r a → Gains old new r b
gains_as old new (Ok x) a b e g = g ∙ ap (append_known old) e
gains_as old new (Err x) a b e g = (g.0, g.1 ∙ ap (λ (t : Text). append_known old (take g.0 t)) e)

-- ---- the next byte or piece, and the rest

pub next_byte : (bytes : Text) (i : ℕ) → i < length bytes → drop i bytes ≡ (get_or bytes i 0 ∷ []) ++ drop (i + 1) bytes
next_byte bytes i h = drop_more bytes i 0 h

pub next_doubled : (bytes : Text) (i : ℕ) → i < length bytes → quotes_doubled (drop i bytes) ≡ quotes_doubled (get_or bytes i 0 ∷ []) ++ quotes_doubled (drop (i + 1) bytes)
next_doubled bytes i h = ap (λ (t : Text). quotes_doubled t) (drop_more bytes i 0 h) ∙ doubled_more (get_or bytes i 0) (drop (i + 1) bytes)

pub next_piece : (p : Program) (s : Store) (pieces : List Piece) (i : ℕ) → i < length pieces → pieces_text p s (drop i pieces) ≡ piece_text p s (get_or pieces i Piece.Nothing) ++ pieces_text p s (drop (i + 1) pieces)
next_piece p s pieces i h = ap (λ (xs : List Piece). pieces_text p s xs) (drop_more pieces i Piece.Nothing h) ∙ text_front p s (get_or pieces i Piece.Nothing) (drop (i + 1) pieces)
