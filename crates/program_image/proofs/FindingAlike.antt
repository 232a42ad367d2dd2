-- A program finds what its image finds.
use Rattle.std.proofs.Common.{◌≡◌, ℕ, zero, suc, ◌+◌, Bool, true, false, List, [], ◌∷◌, ◌++◌, map, length, get_or, Option, Some, None, refl, ap, sym, ◌∙◌, arith}
use Rattle.std.specs.Option.{option_map}
use Rattle.std.proofs.lemmas.List.{append_assoc, append-nil, map-append}
use Rattle.st_tree.specs.declared.units.Unit.{Unit}
use Rattle.st_code.specs.Texts.{Text}
use Rattle.st_code.specs.Program.{Program, NoIndexes, ClassRow, MethodRow, OfInstance, OfClass, OfMeta, class_at, name_at}
use Rattle.st_code.specs.Messages.{Row}
use Rattle.st_code.specs.BuiltIns.{row_at, class_class, metaclass_class, object_class}
use Rattle.st_code.specs.Named.{NamedBody, NamedUnit, ClassUnit, GlobalUnit, PoolVariableUnit, InitializerUnit, PoolInitializerUnit, ProgramUnit, MethodUnit, ClassMethodUnit}
use Rattle.st_code.specs.Written.{named_unit, named_units, with_named}
use Rattle.st_code.specs.Resolved.{Names, class_in, number_or_last}
use Rattle.st_code.specs.Definitions.{Defined, nothing_defined, initialized, defined_units, RunLimits, program_of, or_zero}
use Rattle.st_code.specs.Lookup.{Level, level, some_superclasses, superclasses, walk, is_method, method_at, found_at, found_in, lookup, Found, UserMethod, BuiltIn}
use Rattle.program_image.specs.Images.{image_names, image_methods, image_program, method_here, methods_from, with_method}
use Rattle.program_image.specs.Finding.{defined_kind, codes_from, unit_codes, coded, program_of_image, FindsAlike}

-- a method with the number of its body in place of its unit's
abbrev recoded : List ℕ → MethodRow → MethodRow
recoded codes m = record { class = m.class; side = m.side; selector = m.selector; code = get_or codes m.code 0 }

abbrev method_list : Option MethodRow → List MethodRow
method_list None = []
method_list (Some m) = m ∷ []

-- ---- the methods of the program are those of the image

initialized-methods : (x : Names) (o : Option ℕ) (target : Text) (b : NamedBody) (d : Defined) → (initialized x o target b d).methods ≡ d.methods ++ []
initialized-methods x None target b d = refl
initialized-methods x (Some class) target b d = refl

kind-methods : (x : Names) (codes : List ℕ) (n : ℕ) (o : Option NamedUnit) (d : Defined) → get_or codes n 0 ≡ length d.bodies
    → (defined_kind x o d).methods ≡ d.methods ++ map (recoded codes) (method_list (method_here x n o))
kind-methods x codes n None d is = sym (append-nil d.methods)
kind-methods x codes n (Some (ClassUnit c)) d is = sym (append-nil d.methods)
kind-methods x codes n (Some (GlobalUnit name)) d is = sym (append-nil d.methods)
kind-methods x codes n (Some (PoolVariableUnit pool name)) d is = sym (append-nil d.methods)
kind-methods x codes n (Some (InitializerUnit target b)) d is = initialized-methods x (class_in 0 x.classes target) target b d
kind-methods x codes n (Some (PoolInitializerUnit pool name b)) d is = refl
kind-methods x codes n (Some (ProgramUnit b)) d is = refl
kind-methods x codes n (Some (MethodUnit class m)) d is =
    ap (λ (k : ℕ). d.methods ++ record { class = or_zero (class_in 0 x.classes class); side = OfInstance; selector = number_or_last x.names m.selector; code = k } ∷ []) (sym is)
kind-methods x codes n (Some (ClassMethodUnit class m)) d is =
    ap (λ (k : ℕ). d.methods ++ record { class = or_zero (class_in 0 x.classes class); side = OfClass; selector = number_or_last x.names m.selector; code = k } ∷ []) (sym is)

kind-first : (x : Names) (o : Option NamedUnit) (units : List NamedUnit) (d : Defined) → defined_units x (with_named o units) d ≡ defined_units x units (defined_kind x o d)
kind-first x None units d = refl
kind-first x (Some u) units d = refl

with-list : (o : Option MethodRow) (rows : List MethodRow) → with_method o rows ≡ method_list o ++ rows
with-list None rows = refl
with-list (Some m) rows = refl

-- where codes has, from place n on, the numbers of the bodies of these units
defined-methods : (x : Names) (codes : List ℕ) (n : ℕ) (units : List Unit) (d : Defined) → ((i : ℕ) → get_or codes (n + i) 0 ≡ get_or (codes_from x units d) i 0)
    → (defined_units x (named_units units) d).methods ≡ d.methods ++ map (recoded codes) (methods_from x n units)
unfolding named_units
defined-methods x codes n [] d same = sym (append-nil d.methods)
defined-methods x codes n (u ∷ units) d same =
    let here : get_or codes n 0 ≡ length d.bodies = ap (λ m. get_or codes m 0) (omega arith) ∙ same 0 in
    let o : Option NamedUnit = named_unit u in
    let rest : List MethodRow = methods_from x (suc n) units in
    ap (λ (e : Defined). e.methods) (kind-first x o (named_units units) d)
    ∙ defined-methods x codes (suc n) units (defined_kind x o d) (λ i. ap (λ m. get_or codes m 0) (omega arith) ∙ same (suc i))
    ∙ ap (λ (ms : List MethodRow). ms ++ map (recoded codes) rest) (kind-methods x codes n o d here)
    ∙ append_assoc d.methods (map (recoded codes) (method_list (method_here x n o))) (map (recoded codes) rest)
    ∙ ap (λ (ms : List MethodRow). d.methods ++ ms) (sym (map-append (recoded codes) (method_list (method_here x n o)) rest) ∙ ap (map (recoded codes)) (sym (with-list (method_here x n o) rest)))

-- ---- so is what they find

recoded-step : (b : Bool) (codes : List ℕ) (code : ℕ) (p q : Option ℕ) → p ≡ option_map (λ k. get_or codes k 0) q
    → elim b [ true ↦ Some (get_or codes code 0) | false ↦ p ] ≡ option_map (λ k. get_or codes k 0) (elim b [ true ↦ Some code | false ↦ q ])
recoded-step true codes code p q is = refl
recoded-step false codes code p q is = is

recoded-at : (codes : List ℕ) (rows : List MethodRow) (l : Level) (selector : ℕ) → method_at (map (recoded codes) rows) l selector ≡ option_map (λ k. get_or codes k 0) (method_at rows l selector)
unfolding method_at
recoded-at codes [] l selector = refl
recoded-at codes (m ∷ rows) l selector =
    recoded-step (is_method l selector m) codes m.code (method_at (map (recoded codes) rows) l selector) (method_at rows l selector) (recoded-at codes rows l selector)

coded-rows : (codes : List ℕ) (r : Option Row) → option_map BuiltIn r ≡ option_map (coded codes) (option_map BuiltIn r)
coded-rows codes None = refl
coded-rows codes (Some r) = refl

coded-here : (codes : List ℕ) (o : Option ℕ) (r : Option Row)
    → elim (option_map (λ k. get_or codes k 0) o) [ Some code ↦ Some (UserMethod code) | None ↦ option_map BuiltIn r ] ≡ option_map (coded codes) (elim o [ Some code ↦ Some (UserMethod code) | None ↦ option_map BuiltIn r ])
coded-here codes None r = coded-rows codes r
coded-here codes (Some code) r = refl

coded-or : (codes : List ℕ) (o p q r : Option Found) → o ≡ option_map (coded codes) p → q ≡ option_map (coded codes) r
    → elim o [ Some f ↦ Some f | None ↦ q ] ≡ option_map (coded codes) (elim p [ Some f ↦ Some f | None ↦ r ])
coded-or codes o None q r is same = ap (λ a. elim a [ Some f ↦ Some f | None ↦ q ]) is ∙ same
coded-or codes o (Some f) q r is same = ap (λ a. elim a [ Some f ↦ Some f | None ↦ q ]) is

module _ (units : List Unit) (limits : RunLimits) where
  coded-methods : (program_of_image units limits).methods ≡ map (recoded (unit_codes units)) (image_methods units)
  unfolding program_of_image program_of image_names image_methods unit_codes
  coded-methods = defined-methods (image_names units) (unit_codes units) 0 units nothing_defined (λ i. ap (λ m. get_or (unit_codes units) m 0) (omega arith))

  same-names : (program_of_image units limits).names ≡ (image_program units).names
  unfolding program_of_image program_of image_program image_names
  same-names = refl

  same-classes : (program_of_image units limits).classes ≡ (image_program units).classes
  unfolding program_of_image program_of image_program image_names
  same-classes = refl

  found-at-alike : (l : Level) (selector : ℕ) → found_at (program_of_image units limits) l selector ≡ option_map (coded (unit_codes units)) (found_at (image_program units) l selector)
  unfolding found_at name_at image_program
  found-at-alike l selector =
      ap (λ (ms : List MethodRow). elim (method_at ms l selector) [ Some code ↦ Some (UserMethod code) | None ↦ option_map BuiltIn (row_at l.class l.side (get_or (program_of_image units limits).names selector [])) ]) coded-methods
      ∙ ap (λ (o : Option ℕ). elim o [ Some code ↦ Some (UserMethod code) | None ↦ option_map BuiltIn (row_at l.class l.side (get_or (program_of_image units limits).names selector [])) ]) (recoded-at (unit_codes units) (image_methods units) l selector)
      ∙ ap (λ (names : List Text). elim (option_map (λ k. get_or (unit_codes units) k 0) (method_at (image_methods units) l selector)) [ Some code ↦ Some (UserMethod code) | None ↦ option_map BuiltIn (row_at l.class l.side (get_or names selector [])) ]) same-names
      ∙ coded-here (unit_codes units) (method_at (image_methods units) l selector) (row_at l.class l.side (name_at (image_program units) selector))

  found-in-alike : (ls : List Level) (selector : ℕ) → found_in (program_of_image units limits) ls selector ≡ option_map (coded (unit_codes units)) (found_in (image_program units) ls selector)
  unfolding found_in
  found-in-alike [] selector = refl
  found-in-alike (l ∷ ls) selector =
      coded-or (unit_codes units) (found_at (program_of_image units limits) l selector) (found_at (image_program units) l selector) (found_in (program_of_image units limits) ls selector) (found_in (image_program units) ls selector)
      (found-at-alike l selector) (found-in-alike ls selector)

abbrev above_in : Program → ℕ → Option ℕ → List ℕ
above_in p n None = []
above_in p n (Some above) = some_superclasses p n above

above-same : (p : Program) (n : ℕ) (o : Option ℕ) → elim o [ None ↦ [] | Some above ↦ some_superclasses p n above ] ≡ above_in p n o
above-same p n None = refl
above-same p n (Some above) = refl

above-alike : (p q : Program) (n : ℕ) (o : Option ℕ) → ((class : ℕ) → some_superclasses p n class ≡ some_superclasses q n class) → above_in p n o ≡ above_in q n o
above-alike p q n None same = refl
above-alike p q n (Some above) same = same above

class-alike : (p q : Program) → p.classes ≡ q.classes → (class : ℕ) → class_at p class ≡ class_at q class
unfolding class_at
class-alike p q same class = ap (λ (cs : List ClassRow). get_or cs class (record { name = []; superclass = None; in_file = false; indexed = NoIndexes; slots = 0; class_slots = 0 })) same

some-alike : (p q : Program) → p.classes ≡ q.classes → (n class : ℕ) → some_superclasses p n class ≡ some_superclasses q n class
some-alike p q same zero class = refl
some-alike p q same (suc n) class =
    ap (λ cs. class ∷ cs)
    (above-same p n (class_at p class).superclass ∙ ap (λ (r : ClassRow). above_in p n r.superclass) (class-alike p q same class)
    ∙ above-alike p q n (class_at q class).superclass (some-alike p q same n) ∙ sym (above-same q n (class_at q class).superclass))

walk-alike : (p q : Program) → p.classes ≡ q.classes → (l : Level) → walk p l ≡ walk q l
unfolding walk superclasses
walk-alike p q same l =
    ap (λ (cs : List ℕ). elim l.side [
      | OfInstance ↦ map (level OfInstance) cs
      | OfClass ↦ map (level OfClass) cs ++ level OfInstance class_class ∷ level OfInstance object_class ∷ []
      | OfMeta ↦ level OfInstance metaclass_class ∷ level OfInstance object_class ∷ []
    ]) (some-alike p q same (suc l.class) l.class)

pub finds_alike : (units : List Unit) (limits : RunLimits) → FindsAlike units limits
unfolding lookup
finds_alike units limits =
    record {
      alike = λ l selector.
          ap (λ (ls : List Level). found_in (program_of_image units limits) ls selector) (walk-alike (program_of_image units limits) (image_program units) (same-classes units limits) l) ∙ found-in-alike units limits (walk (image_program units) l) selector;
    }
