-- What lookup finds on its walk.
use Rattle.std.proofs.Common.{◌≡◌, ℕ, List, [], ◌∷◌, ◌++◌, map, Option, Some, None, refl, ap, sym, ◌∙◌}
use Rattle.std.specs.Option.{option_map}
use Rattle.st_tree.specs.declared.units.Unit.{Unit}
use Rattle.st_code.specs.Program.{class_at, Side as OnSide, name_at}
use Rattle.st_code.specs.Lookup.{Level, level, superclasses, walk, lookup, found_at, found_in, method_at, Found as RowFound, UserMethod, BuiltIn as BuiltInRow}
use Rattle.st_code.specs.BuiltIns.{row_at, message_number, numbered_row}
use Rattle.st_code.proofs.Tables.{row_at-number}
use Rattle.program_image.specs.declared.table.Side.{Side}
use Rattle.program_image.specs.declared.table.Found.{Found}
use Rattle.program_image.specs.declared.table.Found.TheVariants as found
use Rattle.program_image.specs.Images.{image_program, image_methods, found_here, image_found_at, image_found_in, image_lookup, on_side, as_row}
use Rattle.program_image.proofs.Walks.{superclasses-step, image-lower}

found-some : (o : Option Found) (rest : Option Found) (f : Found) → o ≡ Some f → elim o [ Some g ↦ Some g | None ↦ rest ] ≡ Some f
found-some o rest f is = rw is refl

found-none : (o : Option Found) (rest : Option Found) → o ≡ None → elim o [ Some g ↦ Some g | None ↦ rest ] ≡ rest
found-none o rest is = rw is refl

module _ (units : List Unit) (selector : ℕ) where
  -- ---- one list of levels behind the other

  abbrev found_or : Option Found → Option Found → Option Found
  found_or (Some f) rest = Some f
  found_or None rest = rest

  or-same : (o rest : Option Found) → elim o [ Some g ↦ Some g | None ↦ rest ] ≡ found_or o rest
  or-same None rest = refl
  or-same (Some f) rest = refl

  or-group : (a b c : Option Found) → found_or a (found_or b c) ≡ found_or (found_or a b) c
  or-group None b c = refl
  or-group (Some f) b c = refl

  pub found-append : (ls ms : List Level) → image_found_in units (ls ++ ms) selector ≡ found_or (image_found_in units ls selector) (image_found_in units ms selector)
  found-append [] ms = refl
  found-append (l ∷ ls) ms =
      or-same (image_found_at units l selector) (image_found_in units (ls ++ ms) selector) ∙ ap (found_or (image_found_at units l selector)) (found-append ls ms)
      ∙ or-group (image_found_at units l selector) (image_found_in units ls selector) (image_found_in units ms selector)
      ∙ ap (λ o. found_or o (image_found_in units ms selector)) (sym (or-same (image_found_at units l selector) (image_found_in units ls selector)))

  pub found-first : (ls ms : List Level) (f : Found) → image_found_in units ls selector ≡ Some f → image_found_in units (ls ++ ms) selector ≡ Some f
  found-first ls ms f is = found-append ls ms ∙ ap (λ o. found_or o (image_found_in units ms selector)) is

  pub found-behind : (ls ms : List Level) → image_found_in units ls selector ≡ None → image_found_in units (ls ++ ms) selector ≡ image_found_in units ms selector
  found-behind ls ms is = found-append ls ms ∙ ap (λ o. found_or o (image_found_in units ms selector)) is

  -- ---- up the superclasses

  pub up-here : (on : OnSide) (class : ℕ) (f : Found) → image_found_at units (level on class) selector ≡ Some f → image_found_in units (map (level on) (superclasses (image_program units) class)) selector ≡ Some f
  up-here on class f is =
      ap (λ cs. image_found_in units (map (level on) cs) selector) (superclasses-step (image_program units) (image-lower units) class (class_at (image_program units) class).superclass refl)
      ∙ found-some (image_found_at units (level on class) selector) _ f is

  pub up-none : (on : OnSide) (class : ℕ) → image_found_at units (level on class) selector ≡ None → (class_at (image_program units) class).superclass ≡ None
      → image_found_in units (map (level on) (superclasses (image_program units) class)) selector ≡ None
  up-none on class is none =
      ap (λ cs. image_found_in units (map (level on) cs) selector) (superclasses-step (image_program units) (image-lower units) class None none)
      ∙ found-none (image_found_at units (level on class) selector) None is

  pub up-above : (on : OnSide) (class above : ℕ) → image_found_at units (level on class) selector ≡ None → (class_at (image_program units) class).superclass ≡ Some above
      → image_found_in units (map (level on) (superclasses (image_program units) class)) selector ≡ image_found_in units (map (level on) (superclasses (image_program units) above)) selector
  up-above on class above is super =
      ap (λ cs. image_found_in units (map (level on) cs) selector) (superclasses-step (image_program units) (image-lower units) class (Some above) super)
      ∙ found-none (image_found_at units (level on class) selector) (image_found_in units (map (level on) (superclasses (image_program units) above)) selector) is

-- ---- what is found is what lookup finds by texts

as-found : (o : Option Found) (rest : Option Found) (p q : Option RowFound) → option_map as_row o ≡ p → option_map as_row rest ≡ q
    → option_map as_row (elim o [ Some f ↦ Some f | None ↦ rest ]) ≡ elim p [ Some f ↦ Some f | None ↦ q ]
as-found None rest p q is same = same ∙ ap (λ r. elim r [ Some f ↦ Some f | None ↦ q ]) is
as-found (Some f) rest p q is same = ap (λ r. elim r [ Some f ↦ Some f | None ↦ q ]) is

as-numbers : (o : Option ℕ) → option_map as_row (option_map found.BuiltIn o) ≡ option_map BuiltInRow (option_map numbered_row o)
as-numbers None = refl
as-numbers (Some n) = refl

as-here : (units : List Unit) (l : Level) (selector : ℕ) (o : Option ℕ) (r : Option RowFound)
    → r ≡ option_map BuiltInRow (row_at l.class l.side (name_at (image_program units) selector)) → option_map as_row (found_here units l selector o) ≡ elim o [ Some code ↦ Some (UserMethod code) | None ↦ r ]
as-here units l selector None r is =
    as-numbers (message_number l.class l.side (name_at (image_program units) selector)) ∙ sym (is ∙ ap (option_map BuiltInRow) (row_at-number l.class l.side (name_at (image_program units) selector)))
as-here units l selector (Some place) r is = refl

at-level : (units : List Unit) (l : Level) (selector : ℕ) → option_map as_row (image_found_at units l selector) ≡ found_at (image_program units) l selector
unfolding found_at image_program
at-level units l selector = as-here units l selector (method_at (image_methods units) l selector) (option_map BuiltInRow (row_at l.class l.side (name_at (image_program units) selector))) refl

on-levels : (units : List Unit) (ls : List Level) (selector : ℕ) → option_map as_row (image_found_in units ls selector) ≡ found_in (image_program units) ls selector
unfolding found_in
on-levels units [] selector = refl
on-levels units (l ∷ ls) selector =
    as-found (image_found_at units l selector) (image_found_in units ls selector) (found_at (image_program units) l selector) (found_in (image_program units) ls selector) (at-level units l selector) (on-levels units ls selector)

-- an image's lookup is the program's: a user method by the place of its unit, a built-in message by what its number does
pub lookup-same : (units : List Unit) (on : Side) (class selector : ℕ) → option_map as_row (image_lookup units on class selector) ≡ lookup (image_program units) (level (on_side on) class) selector
unfolding image_lookup lookup
lookup-same units on class selector = on-levels units (walk (image_program units) (level (on_side on) class)) selector
