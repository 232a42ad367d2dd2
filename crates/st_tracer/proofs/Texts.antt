-- Texts that are written in parts.
use Rattle.std.proofs.Common.{◌≡◌, List, [], ◌∷◌, ◌++◌, append_assoc, Option, Result, refl, sym, ap, ◌∙◌, subst}
use Rattle.std.proofs.lemmas.List.{append-nil}
use Rattle.st_base.specs.Streams.{GainsPrefix}
use Rattle.st_code.specs.Texts.{Text}
use Rattle.st_rules.specs.Events.{Event}
use Rattle.st_trace.specs.declared.line.StopWord.{StopWord}
use Rattle.st_trace.specs.Bytes.{line_text, text_of}
use Rattle.st_trace.specs.Lines.{Tells, Stops}
use Rattle.st_trace.specs.Told.{trace_of}
use Rattle.st_transcript.specs.Gained.{Gains}
use Rattle.st_transcript.proofs.Gaining.{wrote_first, wrote_more, wrote_part, wrote_end}
use Rattle.std.specs.Io.KnownBytes.{append_known}
use Rattle.st_tracer.specs.Traced.{events_text}

-- a text of two parts: the first failed, or it was written and this came of the second
pub first_fails : (old new : Option Text) (a b : Text) → GainsPrefix old new a → GainsPrefix old new (a ++ b)
first_fails old new a b part = wrote_part (a ++ b) a b old old new (wrote_first (a ++ b) (a ++ b) old refl) part

pub second_follows : {A E : Type 0} (old mid new : Option Text) (r : Result A E) (a b : Text) → mid ≡ append_known old a → Gains mid new r b → Gains old new r (a ++ b)
second_follows old mid new r a b first second = wrote_end (a ++ b) b old mid new r (wrote_more (a ++ b) a b old old mid (wrote_first (a ++ b) (a ++ b) old refl) first) second

pub part_as : (old new : Option Text) (a b : Text) → a ≡ b → GainsPrefix old new a → GainsPrefix old new b
part_as old new a b e part = subst (λ t. GainsPrefix old new t) e part

pub events_more : (a b : List Event) → events_text (a ++ b) ≡ events_text a ++ events_text b
events_more [] b = refl
events_more (e ∷ a) b = ap (λ t. line_text (Tells e) ++ t) (events_more a b) ∙ sym (append_assoc (line_text (Tells e)) (events_text a) (events_text b))

pub trace_is : (es : List Event) (w : StopWord) → text_of (trace_of es w) ≡ events_text es ++ line_text (Stops w)
trace_is [] w = append-nil (line_text (Stops w))
trace_is (e ∷ es) w = ap (λ t. line_text (Tells e) ++ t) (trace_is es w) ∙ sym (append_assoc (line_text (Tells e)) (events_text es) (line_text (Stops w)))

pub twice_is : (w a b : Text) → (w ++ a) ++ (((32 ∷ []) ++ b) ++ 10 ∷ []) ≡ (w ++ (a ++ (32 ∷ b))) ++ 10 ∷ []
twice_is w a b =
    append_assoc w a (32 ∷ (b ++ 10 ∷ [])) ∙ sym (append_assoc w (a ++ (32 ∷ b)) (10 ∷ []) ∙ ap (λ t. w ++ t) (append_assoc a (32 ∷ b) (10 ∷ [])))

pub tried_is : (w a b : Text) → (w ++ a) ++ (32 ∷ (b ++ 10 ∷ [])) ≡ (w ++ (a ++ (32 ∷ b))) ++ 10 ∷ []
tried_is w a b = twice_is w a b
