-- The units so far are those of some texts.
use Rattle.std.proofs.Common.{◌≡◌, ℕ, List, [], ◌∷◌, ◌++◌, refl}
use Rattle.st_tree.specs.declared.units.Annotation.{Annotation}
use Rattle.st_tree.specs.declared.units.Unit as unit
use Rattle.st_tree.specs.declared.headers.Header.TheVariants.{Awaits, Annotates}
use Rattle.st_tree.specs.Headers.{Says}
use Rattle.st_tree.specs.Numbers.{annotated}
use Rattle.st_tree.specs.Units as u
use Rattle.st_tree.specs.Units.{element, TextIs, Annotated, Further, Units, IsReadable, file}
use Rattle.sif_elements.specs.declared.progress.Progress.{Progress}
use Rattle.sif_elements.specs.declared.progress.Progress.TheVariants.{Start, Between, Awaiting}
use Rattle.sif_elements.specs.Reading as r
use Rattle.sif_elements.specs.Reading.{Takes}

-- texts behind annotations
behind : {texts rest : List (List ℕ)} {notes : List Annotation} (more : List (List ℕ)) → Annotated texts rest notes → Annotated (texts ++ more) (rest ++ more) notes
behind more u.no_more = u.no_more
behind more (u.one_more e k) = u.one_more e (behind more k)

-- an annotation more
noted : {texts rest : List (List ℕ)} {notes : List Annotation} {a : Annotation} (text : List ℕ) → element text ≡ Says (Annotates a) → Annotated texts rest notes → rest ≡ [] → Annotated (texts ++ text ∷ []) [] (notes ++ a ∷ [])
noted text e u.no_more none = rw none (u.one_more e u.no_more)
noted text e (u.one_more h k) none = u.one_more h (noted text e k none)

-- units behind units
joined : {texts more : List (List ℕ)} {us vs : List unit.Unit} → Further texts us → Further more vs → Further (texts ++ more) (us ++ vs)
joined u.no_units k = k
joined {more = more} (u.whole e n f) k = u.whole e (behind more n) (joined f k)
joined {more = more} (u.with_text e t o n f) k = u.with_text e t o (behind more n) (joined f k)

units_joined : {texts more : List (List ℕ)} {us vs : List unit.Unit} → Units texts us → Further more vs → Units (texts ++ more) (us ++ vs)
units_joined {more = more} (u.file e n f) k = u.file e (behind more n) (joined f k)

no_units_left : {texts : List (List ℕ)} → Further texts [] → texts ≡ []
no_units_left u.no_units = refl

-- the last unit gains an annotation
further_noted : {texts : List (List ℕ)} {v : unit.Unit} {us : List unit.Unit} {a : Annotation} (text : List ℕ) → element text ≡ Says (Annotates a) → Further texts (v ∷ us) → Further (texts ++ text ∷ []) (annotated (v ∷ us) a)
further_noted {us = []} text e (u.whole h n f) = u.whole h (noted text e n (no_units_left f)) u.no_units
further_noted {us = w ∷ us} text e (u.whole h n f) = u.whole h (behind (text ∷ []) n) (further_noted text e f)
further_noted {us = []} text e (u.with_text h t o n f) = u.with_text h t o (noted text e n (no_units_left f)) u.no_units
further_noted {us = w ∷ us} text e (u.with_text h t o n f) = u.with_text h t o (behind (text ∷ []) n) (further_noted text e f)

units_noted : {texts : List (List ℕ)} {us : List unit.Unit} {a : Annotation} (text : List ℕ) → element text ≡ Says (Annotates a) → Units texts us → Units (texts ++ text ∷ []) (annotated us a)
units_noted text e (u.file {units = []} h n f) = u.file h (noted text e n (no_units_left f)) u.no_units
units_noted text e (u.file {units = w ∷ us} h n f) = u.file h (behind (text ∷ []) n) (further_noted text e f)

-- the units so far are readable, and a header that awaits its text is one
abbrev pub IsReadableSoFar : Progress → Type 0
IsReadableSoFar Start = Prim.Unit {0}
IsReadableSoFar (Between us) = IsReadable us
IsReadableSoFar (Awaiting us t) = IsReadable us × ((text : List ℕ) × (element text ≡ Says (Awaits t)))

pub readable_more : {p q : Progress} {text : List ℕ} → Takes p text q → IsReadableSoFar p → IsReadableSoFar q
readable_more {text = text} (r.version e) so_far = (text ∷ [], u.file e u.no_more u.no_units)
readable_more {text = text} (r.whole e) so_far = (so_far.0 ++ text ∷ [], units_joined so_far.1 (u.whole e u.no_more u.no_units))
readable_more {text = text} (r.header e) so_far = (so_far, (text, e))
readable_more {text = text} (r.annotation e) so_far = (so_far.0 ++ text ∷ [], units_noted text e so_far.1)
readable_more {text = text} (r.text_of_header is made) so_far = (so_far.0.0 ++ so_far.1.0 ∷ text ∷ [], units_joined so_far.0.1 (u.with_text so_far.1.1 is made u.no_more u.no_units))
