-- The first break is the first of all breaks.
use Rattle.std.proofs.Common.{◌≡◌, ◌<◌, ◌≤◌, ℕ, zero, suc, Bool, true, false, ◌&&◌, ◌⊎◌, inl, inr, List, [], ◌∷◌, take, drop, slice_get, Option, Some, None, IsTrue, refl, sym, ap, ◌∙◌, subst, arith}
use Rattle.std.specs.Option.{option_map, option_or, option_and_then}
use Rattle.st_base.specs.declared.faults.Place.{Place}
use Rattle.st_base.specs.declared.faults.Reason.{Reason}
use Rattle.st_base.specs.declared.faults.Reason.TheVariants as reasons
use Rattle.st_tree.specs.Numbers.{element_of}
use Rattle.st_tree.specs.declared.units.UnitKind.{UnitKind}
use Rattle.st_tree.specs.declared.units.Unit.{Unit as FileUnit}
use Rattle.st_checks.specs.Bodies.{Mention}
use Rattle.st_checks.specs.Meanings.{Meaning, Undeclared, Fixed, Assignable, Written, written, meaning}
use Rattle.st_checks.specs.StaticRules.{Fault, Break, as_whole, in_body, variable_fault, faults, first_some, unit_fault, break_of, first_break_from, first_break, naming, least, repeated_in, is_undeclared, is_fixed, undeclared_in, fixed_in, repeated_name, undeclared_name, fixed_name, duplicates_class, duplicates_name, lacks_superclass, clashes, duplicates_variable, lacks_pool, lacks_class, replaces_built_in, duplicates_method, lacks_target, initializes_again}
use Rattle.st_checks.specs.Breaks.{IsKind, start, body_byte, Breaks, duplicate_class, duplicate_name, unknown_superclass, indexed_clash, duplicate_variable, repeated_name as repeated_name_breaks, unknown_pool, unknown_class, replaced_built_in, duplicate_method, unknown_target, second_initializer, undeclared_name as undeclared_name_breaks, not_assignable, rank, Precedes, IsFirst, no_break, first}
use Rattle.st_checks.proofs.Members.{FromMention, FromScope, least-in, least-low, places-in, places-from, repeated-in, repeated-from}

-- ---- entries whose faults have rising ranks

abbrev AllRanked : ℕ → List (Option Fault) → Type 0
AllRanked k [] = Unit {0}
AllRanked k (o ∷ os) = ((f : Fault) → o ≡ Some f → rank f.reason ≡ k) × AllRanked (suc k) os

-- f comes at a lower rank, or is the fault itself
abbrev NoLater : Fault → Fault → Type 0
NoLater f g = (f ≡ g) ⊎ (rank f.reason < rank g.reason)

-- there is a first fault, no later than this one
record Comes (os : List (Option Fault)) (g : Fault) : Type 0 where
  fault : Fault
  is : first_some os ≡ Some fault
  no_later : NoLater fault g

ranked-low : (k i : ℕ) (os : List (Option Fault)) (g : Fault) → AllRanked k os → slice_get os i ≡ Some (Some g) → k ≤ rank g.reason
ranked-low k i [] g ranked is = absurd (cc)
ranked-low k zero (o ∷ os) g ranked is =
    let here : o ≡ Some g = cc in
    let same : rank g.reason ≡ k = ranked.0 g here in
    omega arith
ranked-low k (suc i) (o ∷ os) g ranked is =
    let more : suc k ≤ rank g.reason = ranked-low (suc k) i os g ranked.1 is in
    omega arith

comes-step : (k : ℕ) (o : Option Fault) (os : List (Option Fault)) (g : Fault) → ((f : Fault) → o ≡ Some f → rank f.reason ≡ k) → suc k ≤ rank g.reason → Comes os g → Comes (o ∷ os) g
comes-step k None os g here low more = record { fault = more.fault; is = more.is; no_later = more.no_later }
comes-step k (Some f) os g here low more =
    let same : rank f.reason ≡ k = here f refl in
    record { fault = f; is = refl; no_later = inr (omega arith) }

comes : (k i : ℕ) (os : List (Option Fault)) (g : Fault) → AllRanked k os → slice_get os i ≡ Some (Some g) → Comes os g
comes k i [] g ranked is = absurd (cc)
comes k zero (o ∷ os) g ranked is =
    let here : o ≡ Some g = cc in
    record { fault = g; is = ap (λ (x : Option Fault). option_or x (first_some os)) here; no_later = inl refl }
comes k (suc i) (o ∷ os) g ranked is = comes-step k o os g ranked.0 (ranked-low (suc k) i os g ranked.1 is) (comes (suc k) i os g ranked.1 is)

-- ---- one entry

whole-reason : (r : Reason) (b : Bool) (f : Fault) → as_whole r b ≡ Some f → f.reason ≡ r
whole-reason r true f is = cc
whole-reason r false f is = absurd (cc)

body-reason : (r : Reason) (o : Option ℕ) (f : Fault) → in_body r o ≡ Some f → f.reason ≡ r
body-reason r None f is = absurd (cc)
body-reason r (Some byte) f is = cc

either-reason : (r : Reason) (b : Bool) (o : Option ℕ) (f : Fault) → option_or (as_whole r b) (in_body r o) ≡ Some f → f.reason ≡ r
either-reason r true o f is = cc
either-reason r false o f is = body-reason r o f is

ranked : (before units : List FileUnit) (kind : UnitKind) → AllRanked 1 (faults before units kind)
ranked before units kind = (
  λ f h. ap rank (whole-reason reasons.DuplicateClass (duplicates_class before kind) f h),
  (
    λ f h. ap rank (whole-reason reasons.DuplicateName (duplicates_name before kind) f h),
    (
      λ f h. ap rank (whole-reason reasons.UnknownSuperclass (lacks_superclass before kind) f h),
      (
        λ f h. ap rank (whole-reason reasons.IndexedClash (clashes units kind) f h),
        (
          λ f h. ap rank (either-reason reasons.DuplicateVariable (duplicates_variable units kind) (option_and_then repeated_name (written units kind)) f h),
          (
            λ f h. ap rank (whole-reason reasons.UnknownPool (lacks_pool units kind) f h),
            (
              λ f h. ap rank (whole-reason reasons.UnknownClass (lacks_class units kind) f h),
              (
                λ f h. ap rank (whole-reason reasons.ReplacesBuiltin (replaces_built_in kind) f h),
                (
                  λ f h. ap rank (whole-reason reasons.DuplicateMethod (duplicates_method before kind) f h),
                  (
                    λ f h. ap rank (whole-reason reasons.UnknownTarget (lacks_target units kind) f h),
                    (
                      λ f h. ap rank (whole-reason reasons.SecondInitializer (initializes_again before kind) f h),
                      (
                        λ f h. ap rank (body-reason reasons.UndeclaredName (option_and_then (undeclared_name units) (written units kind)) f h),
                        (λ f h. ap rank (body-reason reasons.NotAssignable (option_and_then (fixed_name units) (written units kind)) f h), tt),
                      ),
                    ),
                  ),
                ),
              ),
            ),
          ),
        ),
      ),
    ),
  ),
)

-- ---- a fault is a break

abbrev Sound : List FileUnit → ℕ → Fault → Type 0
Sound units n f = Breaks units n f.reason (break_of (element_of units n) f).place

abbrev AllSound : List FileUnit → ℕ → List (Option Fault) → Type 0
AllSound units n [] = Unit {0}
AllSound units n (o ∷ os) = ((f : Fault) → o ≡ Some f → Sound units n f) × AllSound units n os

sound-step : (units : List FileUnit) (n : ℕ) (o : Option Fault) (os : List (Option Fault)) (f : Fault) → ((g : Fault) → o ≡ Some g → Sound units n g) → (first_some os ≡ Some f → Sound units n f) → option_or o (first_some os) ≡ Some f → Sound units n f
sound-step units n None os f here more is = more is
sound-step units n (Some g) os f here more is = here f is

first-sound : (units : List FileUnit) (n : ℕ) (os : List (Option Fault)) (f : Fault) → AllSound units n os → first_some os ≡ Some f → Sound units n f
first-sound units n [] f sound is = absurd (cc)
first-sound units n (o ∷ os) f sound is = sound-step units n o os f sound.0 (first-sound units n os f sound.1) is

whole-sound : (units : List FileUnit) (n : ℕ) (r : Reason) (b : Bool) → (IsTrue b → Breaks units n r (start units n)) → (f : Fault) → as_whole r b ≡ Some f → Sound units n f
whole-sound units n r true breaks f is =
    let g : Fault = record { reason = r; body_byte = None } in
    let same : g ≡ f = cc in
    subst (λ (x : Fault). Sound units n x) same (breaks refl)
whole-sound units n r false breaks f is = absurd (cc)

body-sound : (units : List FileUnit) (n : ℕ) (r : Reason) (o : Option ℕ) → ((byte : ℕ) → o ≡ Some byte → Breaks units n r (body_byte units n byte)) → (f : Fault) → in_body r o ≡ Some f → Sound units n f
body-sound units n r None breaks f is = absurd (cc)
body-sound units n r (Some byte) breaks f is =
    let g : Fault = record { reason = r; body_byte = Some byte } in
    let same : g ≡ f = cc in
    subst (λ (x : Fault). Sound units n x) same (breaks byte refl)

either-sound : (units : List FileUnit) (n : ℕ) (r : Reason) (b : Bool) (o : Option ℕ) → (IsTrue b → Breaks units n r (start units n)) → ((byte : ℕ) → o ≡ Some byte → Breaks units n r (body_byte units n byte)) → (f : Fault)
    → option_or (as_whole r b) (in_body r o) ≡ Some f → Sound units n f
either-sound units n r true o whole body f is = whole-sound units n r true whole f is
either-sound units n r false o whole body f is = body-sound units n r o body f is

-- a body that gives a place
record Gives (units : List FileUnit) (kind : UnitKind) (g : Written → Option ℕ) (byte : ℕ) : Type 0 where
  body : Written
  is : written units kind ≡ Some body
  at : g body ≡ Some byte

gives-some : (units : List FileUnit) (kind : UnitKind) (g : Written → Option ℕ) (o : Option Written) (byte : ℕ) → written units kind ≡ o → option_and_then g o ≡ Some byte → Gives units kind g byte
gives-some units kind g None byte is at = absurd (cc)
gives-some units kind g (Some w) byte is at = record { body = w; is = is; at = at }

gives : (units : List FileUnit) (kind : UnitKind) (g : Written → Option ℕ) (byte : ℕ) → option_and_then g (written units kind) ≡ Some byte → Gives units kind g byte
gives units kind g byte at = gives-some units kind g (written units kind) byte refl at

repeated-sound : (units : List FileUnit) (n : ℕ) (kind : UnitKind) → IsKind units n kind → (byte : ℕ) → option_and_then repeated_name (written units kind) ≡ Some byte → Breaks units n reasons.DuplicateVariable (body_byte units n byte)
unfolding repeated_name
repeated-sound units n kind is byte at =
    let w = gives units kind repeated_name byte at in
    let s : FromScope (naming w.body).scopes byte = repeated-in (naming w.body).scopes byte (least-in (repeated_in (naming w.body).scopes) byte w.at) in
    repeated_name_breaks {w = w.body} {scope = s.scope} (kind, is, w.is) s.among s.there

undeclared-is : (m : Meaning) → is_undeclared m ≡ true → m ≡ Undeclared
undeclared-is Undeclared h = refl
undeclared-is Fixed h = absurd (cc)
undeclared-is Assignable h = absurd (cc)

fixed-is : (m : Meaning) → is_fixed m ≡ true → m ≡ Fixed
fixed-is Undeclared h = absurd (cc)
fixed-is Fixed h = refl
fixed-is Assignable h = absurd (cc)

and-left : (a b : Bool) → (a && b) ≡ true → a ≡ true
and-left true b h = refl
and-left false b h = h

and-right : (a b : Bool) → (a && b) ≡ true → b ≡ true
and-right true b h = h
and-right false b h = absurd (cc)

undeclared-sound : (units : List FileUnit) (n : ℕ) (kind : UnitKind) → IsKind units n kind → (byte : ℕ) → option_and_then (undeclared_name units) (written units kind) ≡ Some byte → Breaks units n reasons.UndeclaredName (body_byte units n byte)
unfolding undeclared_name
undeclared-sound units n kind is byte at =
    let w = gives units kind (undeclared_name units) byte at in
    let test : Mention → Bool = λ m. is_undeclared (meaning units w.body m) in
    let f : FromMention test (naming w.body).mentions byte = places-in test (naming w.body).mentions byte (least-in (undeclared_in units w.body (naming w.body).mentions) byte w.at) in
    subst (λ (x : ℕ). Breaks units n reasons.UndeclaredName (body_byte units n x)) f.at
    (undeclared_name_breaks {w = w.body} {m = f.mention} (kind, is, w.is) f.among (undeclared-is (meaning units w.body f.mention) f.holds))

fixed-sound : (units : List FileUnit) (n : ℕ) (kind : UnitKind) → IsKind units n kind → (byte : ℕ) → option_and_then (fixed_name units) (written units kind) ≡ Some byte → Breaks units n reasons.NotAssignable (body_byte units n byte)
unfolding fixed_name
fixed-sound units n kind is byte at =
    let w = gives units kind (fixed_name units) byte at in
    let test : Mention → Bool = λ m. m.assigned && is_fixed (meaning units w.body m) in
    let f : FromMention test (naming w.body).mentions byte = places-in test (naming w.body).mentions byte (least-in (fixed_in units w.body (naming w.body).mentions) byte w.at) in
    subst (λ (x : ℕ). Breaks units n reasons.NotAssignable (body_byte units n x)) f.at
    (not_assignable {w = w.body} {m = f.mention} (kind, is, w.is) f.among (and-left f.mention.assigned (is_fixed (meaning units w.body f.mention)) f.holds)
    (fixed-is (meaning units w.body f.mention) (and-right f.mention.assigned (is_fixed (meaning units w.body f.mention)) f.holds)))

all-sound : (units : List FileUnit) (n : ℕ) (kind : UnitKind) → IsKind units n kind → AllSound units n (faults (take n units) units kind)
all-sound units n kind is = (
  whole-sound units n reasons.DuplicateClass (duplicates_class (take n units) kind) (λ h. duplicate_class is h),
  (
    whole-sound units n reasons.DuplicateName (duplicates_name (take n units) kind) (λ h. duplicate_name is h),
    (
      whole-sound units n reasons.UnknownSuperclass (lacks_superclass (take n units) kind) (λ h. unknown_superclass is h),
      (
        whole-sound units n reasons.IndexedClash (clashes units kind) (λ h. indexed_clash is h),
        (
          either-sound units n reasons.DuplicateVariable (duplicates_variable units kind) (option_and_then repeated_name (written units kind)) (λ h. duplicate_variable is h) (repeated-sound units n kind is),
          (
            whole-sound units n reasons.UnknownPool (lacks_pool units kind) (λ h. unknown_pool is h),
            (
              whole-sound units n reasons.UnknownClass (lacks_class units kind) (λ h. unknown_class is h),
              (
                whole-sound units n reasons.ReplacesBuiltin (replaces_built_in kind) (λ h. replaced_built_in is h),
                (
                  whole-sound units n reasons.DuplicateMethod (duplicates_method (take n units) kind) (λ h. duplicate_method is h),
                  (
                    whole-sound units n reasons.UnknownTarget (lacks_target units kind) (λ h. unknown_target is h),
                    (
                      whole-sound units n reasons.SecondInitializer (initializes_again (take n units) kind) (λ h. second_initializer is h),
                      (
                        body-sound units n reasons.UndeclaredName (option_and_then (undeclared_name units) (written units kind)) (undeclared-sound units n kind is),
                        (body-sound units n reasons.NotAssignable (option_and_then (fixed_name units) (written units kind)) (fixed-sound units n kind is), tt),
                      ),
                    ),
                  ),
                ),
              ),
            ),
          ),
        ),
      ),
    ),
  ),
)

fault-sound : (units : List FileUnit) (n : ℕ) (kind : UnitKind) → IsKind units n kind → (f : Fault) → unit_fault units n kind ≡ Some f → Sound units n f
unfolding unit_fault
fault-sound units n kind is f found = first-sound units n (faults (take n units) units kind) f (all-sound units n kind is) found

-- ---- a break has an entry

record Entry (units : List FileUnit) (n : ℕ) (kind : UnitKind) (r : Reason) (p : Place) : Type 0 where
  index : ℕ
  fault : Fault
  is : slice_get (faults (take n units) units kind) index ≡ Some (Some fault)
  same_rank : rank fault.reason ≡ rank r
  low : (break_of (element_of units n) fault).place.byte ≤ p.byte

abbrev whole_fault : Reason → Fault
whole_fault r = record { reason = r; body_byte = None }

abbrev byte_fault : Reason → ℕ → Fault
byte_fault r byte = record { reason = r; body_byte = Some byte }

-- a body's own place comes no earlier than a fault of the unit as a whole
record Either (r : Reason) (o : Option Fault) (byte : ℕ) : Type 0 where
  fault : Fault
  is : o ≡ Some fault
  same : fault.reason ≡ r
  low : (element : ℕ) → (break_of element fault).place.byte ≤ byte

either-low : (r : Reason) (b : Bool) (o : Option ℕ) (m byte : ℕ) → o ≡ Some m → m ≤ byte → Either r (option_or (as_whole r b) (in_body r o)) byte
either-low r true o m byte is low = record { fault = whole_fault r; is = refl; same = refl; low = λ element. omega arith }
either-low r false o m byte is low = record { fault = byte_fault r m; is = ap (in_body r) is; same = refl; low = λ element. low }

some-kind : (units : List FileUnit) (n : ℕ) (k : UnitKind) (u : FileUnit) → slice_get units n ≡ Some u → IsKind units n k → k ≡ u.kind
some-kind units n k u is kind =
    let h : Some u.kind ≡ Some k = ap (option_map (λ (x : FileUnit). x.kind)) (sym is) ∙ kind in
    cc

entry-of-kind : (units : List FileUnit) (n : ℕ) (r : Reason) (p : Place) → Breaks units n r p → (u : FileUnit) → slice_get units n ≡ Some u → Entry units n u.kind r p
unfolding repeated_name undeclared_name fixed_name
entry-of-kind units n r p (duplicate_class {kind = k} is h) u there = subst (λ (x : UnitKind). Entry units n x reasons.DuplicateClass (start units n)) (some-kind units n k u there is)
    (record { index = 0; fault = whole_fault reasons.DuplicateClass; is = ap (λ (b : Bool). Some (as_whole reasons.DuplicateClass b)) h; same_rank = refl; low = omega arith })
entry-of-kind units n r p (duplicate_name {kind = k} is h) u there = subst (λ (x : UnitKind). Entry units n x reasons.DuplicateName (start units n)) (some-kind units n k u there is)
    (record { index = 1; fault = whole_fault reasons.DuplicateName; is = ap (λ (b : Bool). Some (as_whole reasons.DuplicateName b)) h; same_rank = refl; low = omega arith })
entry-of-kind units n r p (unknown_superclass {kind = k} is h) u there = subst (λ (x : UnitKind). Entry units n x reasons.UnknownSuperclass (start units n)) (some-kind units n k u there is)
    (record { index = 2; fault = whole_fault reasons.UnknownSuperclass; is = ap (λ (b : Bool). Some (as_whole reasons.UnknownSuperclass b)) h; same_rank = refl; low = omega arith })
entry-of-kind units n r p (indexed_clash {kind = k} is h) u there = subst (λ (x : UnitKind). Entry units n x reasons.IndexedClash (start units n)) (some-kind units n k u there is)
    (record { index = 3; fault = whole_fault reasons.IndexedClash; is = ap (λ (b : Bool). Some (as_whole reasons.IndexedClash b)) h; same_rank = refl; low = omega arith })
entry-of-kind units n r p (duplicate_variable {kind = k} is h) u there = subst (λ (x : UnitKind). Entry units n x reasons.DuplicateVariable (start units n)) (some-kind units n k u there is)
    (record { index = 4; fault = whole_fault reasons.DuplicateVariable; is = ap (λ (b : Bool). Some (option_or (as_whole reasons.DuplicateVariable b) (in_body reasons.DuplicateVariable (option_and_then repeated_name (written units k))))) h; same_rank = refl; low = omega arith })
entry-of-kind units n r p (unknown_pool {kind = k} is h) u there = subst (λ (x : UnitKind). Entry units n x reasons.UnknownPool (start units n)) (some-kind units n k u there is)
    (record { index = 5; fault = whole_fault reasons.UnknownPool; is = ap (λ (b : Bool). Some (as_whole reasons.UnknownPool b)) h; same_rank = refl; low = omega arith })
entry-of-kind units n r p (unknown_class {kind = k} is h) u there = subst (λ (x : UnitKind). Entry units n x reasons.UnknownClass (start units n)) (some-kind units n k u there is)
    (record { index = 6; fault = whole_fault reasons.UnknownClass; is = ap (λ (b : Bool). Some (as_whole reasons.UnknownClass b)) h; same_rank = refl; low = omega arith })
entry-of-kind units n r p (replaced_built_in {kind = k} is h) u there = subst (λ (x : UnitKind). Entry units n x reasons.ReplacesBuiltin (start units n)) (some-kind units n k u there is)
    (record { index = 7; fault = whole_fault reasons.ReplacesBuiltin; is = ap (λ (b : Bool). Some (as_whole reasons.ReplacesBuiltin b)) h; same_rank = refl; low = omega arith })
entry-of-kind units n r p (duplicate_method {kind = k} is h) u there = subst (λ (x : UnitKind). Entry units n x reasons.DuplicateMethod (start units n)) (some-kind units n k u there is)
    (record { index = 8; fault = whole_fault reasons.DuplicateMethod; is = ap (λ (b : Bool). Some (as_whole reasons.DuplicateMethod b)) h; same_rank = refl; low = omega arith })
entry-of-kind units n r p (unknown_target {kind = k} is h) u there = subst (λ (x : UnitKind). Entry units n x reasons.UnknownTarget (start units n)) (some-kind units n k u there is)
    (record { index = 9; fault = whole_fault reasons.UnknownTarget; is = ap (λ (b : Bool). Some (as_whole reasons.UnknownTarget b)) h; same_rank = refl; low = omega arith })
entry-of-kind units n r p (second_initializer {kind = k} is h) u there = subst (λ (x : UnitKind). Entry units n x reasons.SecondInitializer (start units n)) (some-kind units n k u there is)
    (record { index = 10; fault = whole_fault reasons.SecondInitializer; is = ap (λ (b : Bool). Some (as_whole reasons.SecondInitializer b)) h; same_rank = refl; low = omega arith })
entry-of-kind units n r p (repeated_name_breaks {byte = byte} {w = w} {scope = scope} body among h) u there =
    let low : (m : ℕ) × (least (repeated_in (naming w).scopes) ≡ Some m) × (m ≤ byte) = least-low (repeated_in (naming w).scopes) byte (repeated-from (naming w).scopes scope byte among h) in
    let at : option_and_then repeated_name (written units body.0) ≡ Some low.0 = ap (option_and_then repeated_name) body.2 ∙ low.1 in
    let e : Either reasons.DuplicateVariable (variable_fault units body.0) byte = either-low reasons.DuplicateVariable (duplicates_variable units body.0) (option_and_then repeated_name (written units body.0)) low.0 byte at low.2 in
    subst (λ (x : UnitKind). Entry units n x reasons.DuplicateVariable (body_byte units n byte)) (some-kind units n body.0 u there body.1)
    (record { index = 4; fault = e.fault; is = ap (λ (o : Option Fault). Some o) e.is; same_rank = ap rank e.same; low = e.low (element_of units n) })
entry-of-kind units n r p (undeclared_name_breaks {w = w} {m = m} body among h) u there =
    let test : Mention → Bool = λ x. is_undeclared (meaning units w x) in
    let low : (k : ℕ) × (least (undeclared_in units w (naming w).mentions) ≡ Some k) × (k ≤ m.name.at) = least-low (undeclared_in units w (naming w).mentions) m.name.at (places-from test (naming w).mentions m among (ap is_undeclared h)) in
    let at : option_and_then (undeclared_name units) (written units body.0) ≡ Some low.0 = ap (option_and_then (undeclared_name units)) body.2 ∙ low.1 in
    subst (λ (x : UnitKind). Entry units n x reasons.UndeclaredName (body_byte units n m.name.at)) (some-kind units n body.0 u there body.1)
    (record { index = 11; fault = byte_fault reasons.UndeclaredName low.0; is = ap (λ (o : Option ℕ). Some (in_body reasons.UndeclaredName o)) at; same_rank = refl; low = low.2 })
entry-of-kind units n r p (not_assignable {w = w} {m = m} body among assigned h) u there =
    let test : Mention → Bool = λ x. x.assigned && is_fixed (meaning units w x) in
    let holds : (m.assigned && is_fixed (meaning units w m)) ≡ true = rw (assigned, h) refl in
    let low : (k : ℕ) × (least (fixed_in units w (naming w).mentions) ≡ Some k) × (k ≤ m.name.at) = least-low (fixed_in units w (naming w).mentions) m.name.at (places-from test (naming w).mentions m among holds) in
    let at : option_and_then (fixed_name units) (written units body.0) ≡ Some low.0 = ap (option_and_then (fixed_name units)) body.2 ∙ low.1 in
    subst (λ (x : UnitKind). Entry units n x reasons.NotAssignable (body_byte units n m.name.at)) (some-kind units n body.0 u there body.1)
    (record { index = 12; fault = byte_fault reasons.NotAssignable low.0; is = ap (λ (o : Option ℕ). Some (in_body reasons.NotAssignable o)) at; same_rank = refl; low = low.2 })

-- ---- the first fault of a unit comes no later than any break of it

record Covers (units : List FileUnit) (n : ℕ) (u : FileUnit) (b : Break) : Type 0 where
  fault : Fault
  is : unit_fault units n u.kind ≡ Some fault
  no_later : (rank fault.reason < rank b.reason) ⊎ ((rank fault.reason ≡ rank b.reason) × ((break_of (element_of units n) fault).place.byte ≤ b.place.byte))

cover-order : (element : ℕ) (f g : Fault) (r : Reason) (byte : ℕ) → rank g.reason ≡ rank r → (break_of element g).place.byte ≤ byte → NoLater f g
    → (rank f.reason < rank r) ⊎ ((rank f.reason ≡ rank r) × ((break_of element f).place.byte ≤ byte))
cover-order element f g r byte same low (inl is) = inr (ap (λ (x : Fault). rank x.reason) is ∙ same, subst (λ (x : Fault). (break_of element x).place.byte ≤ byte) (sym is) low)
cover-order element f g r byte same low (inr less) = inl (omega arith)

covers : (units : List FileUnit) (n : ℕ) (b : Break) → Breaks units n b.reason b.place → (u : FileUnit) → slice_get units n ≡ Some u → Covers units n u b
unfolding unit_fault
covers units n b breaks u there =
    let e : Entry units n u.kind b.reason b.place = entry-of-kind units n b.reason b.place breaks u there in
    let c : Comes (faults (take n units) units u.kind) e.fault = comes 1 e.index (faults (take n units) units u.kind) e.fault (ranked (take n units) units u.kind) e.is in
    record { fault = c.fault; is = c.is; no_later = cover-order (element_of units n) c.fault e.fault b.reason b.place.byte e.same_rank e.low c.no_later }

-- ---- units in turn

kind-there : (o : Option FileUnit) (k : UnitKind) → option_map (λ (x : FileUnit). x.kind) o ≡ Some k → (u : FileUnit) × (o ≡ Some u)
kind-there None k is = absurd (cc)
kind-there (Some u) k is = (u, refl)

break-there : (units : List FileUnit) (n : ℕ) (r : Reason) (p : Place) → Breaks units n r p → (u : FileUnit) × (slice_get units n ≡ Some u)
break-there units n r p (duplicate_class {kind = k} is h) = kind-there (slice_get units n) k is
break-there units n r p (duplicate_name {kind = k} is h) = kind-there (slice_get units n) k is
break-there units n r p (unknown_superclass {kind = k} is h) = kind-there (slice_get units n) k is
break-there units n r p (indexed_clash {kind = k} is h) = kind-there (slice_get units n) k is
break-there units n r p (duplicate_variable {kind = k} is h) = kind-there (slice_get units n) k is
break-there units n r p (repeated_name_breaks body among h) = kind-there (slice_get units n) body.0 body.1
break-there units n r p (unknown_pool {kind = k} is h) = kind-there (slice_get units n) k is
break-there units n r p (unknown_class {kind = k} is h) = kind-there (slice_get units n) k is
break-there units n r p (replaced_built_in {kind = k} is h) = kind-there (slice_get units n) k is
break-there units n r p (duplicate_method {kind = k} is h) = kind-there (slice_get units n) k is
break-there units n r p (unknown_target {kind = k} is h) = kind-there (slice_get units n) k is
break-there units n r p (second_initializer {kind = k} is h) = kind-there (slice_get units n) k is
break-there units n r p (undeclared_name_breaks body among h) = kind-there (slice_get units n) body.0 body.1
break-there units n r p (not_assignable body among assigned h) = kind-there (slice_get units n) body.0 body.1

-- the first break of the n-th unit and those behind it
data FirstFrom : List FileUnit → ℕ → Option Break → Type 0 where
  none_from : {units : List FileUnit} {n : ℕ} → ((m : ℕ) (b : Break) → n ≤ m → Breaks units m b.reason b.place → ⊥) → FirstFrom units n None
  some_from : {units : List FileUnit} {n : ℕ} {first : Break} → (m : ℕ) → n ≤ m → Breaks units m first.reason first.place → ((k : ℕ) (b : Break) → n ≤ k → Breaks units k b.reason b.place → Precedes m first k b) → FirstFrom units n (Some first)

here-or-later : (n m : ℕ) → n ≤ m → (n < m) ⊎ (n ≡ m)
here-or-later zero zero low = inr refl
here-or-later zero (suc m) low = inl (omega arith)
here-or-later (suc n) zero low = absurd (omega arith)
here-or-later (suc n) (suc m) low = elim (here-or-later n m (omega arith)) [ inl less ↦ inl (omega arith) | inr same ↦ inr (ap suc same) ]

drop-head : (n : ℕ) (xs : List FileUnit) (u : FileUnit) (more : List FileUnit) → u ∷ more ≡ drop n xs → (slice_get xs n ≡ Some u) × (more ≡ drop (suc n) xs)
drop-head zero [] u more is = absurd (cc)
drop-head zero (x ∷ xs) u more is = (cc, cc)
drop-head (suc n) [] u more is = absurd (cc)
drop-head (suc n) (x ∷ xs) u more is = drop-head n xs u more is

drop-none : (n : ℕ) (xs : List FileUnit) (m : ℕ) (u : FileUnit) → [] ≡ drop n xs → n ≤ m → slice_get xs m ≡ Some u → ⊥
drop-none n [] m u none low is = cc
drop-none zero (x ∷ xs) m u none low is = cc
drop-none (suc n) (x ∷ xs) zero u none low is = omega arith
drop-none (suc n) (x ∷ xs) (suc m) u none low is = drop-none n xs m u none (omega arith) is

break-reason : (element : ℕ) (r : Reason) (o : Option ℕ) → r ≡ (break_of element (record { reason = r; body_byte = o })).reason
break-reason element r None = refl
break-reason element r (Some byte) = refl

break-of-fault : (units : List FileUnit) (n : ℕ) (f : Fault) (kind : UnitKind) → IsKind units n kind → unit_fault units n kind ≡ Some f → Breaks units n (break_of (element_of units n) f).reason (break_of (element_of units n) f).place
break-of-fault units n f kind is found =
    subst (λ (r : Reason). Breaks units n r (break_of (element_of units n) f).place) (break-reason (element_of units n) f.reason f.body_byte) (fault-sound units n kind is f found)

-- a break of a unit that has a fault
precedes-here : (units : List FileUnit) (n : ℕ) (u : FileUnit) (f : Fault) (b : Break) → unit_fault units n u.kind ≡ Some f → Covers units n u b → Precedes n (break_of (element_of units n) f) n b
precedes-here units n u f b found c =
    let e : ℕ = element_of units n in
    let same : c.fault ≡ f =
    (let both : Some c.fault ≡ Some f = sym c.is ∙ found in cc) in
    inr (refl, rw (← break-reason e f.reason f.body_byte) (subst (λ (x : Fault). (rank x.reason < rank b.reason) ⊎ ((rank x.reason ≡ rank b.reason) × ((break_of e x).place.byte ≤ b.place.byte))) same c.no_later))

precedes-from : (units : List FileUnit) (n : ℕ) (u : FileUnit) (f : Fault) (k : ℕ) (b : Break) → slice_get units n ≡ Some u → unit_fault units n u.kind ≡ Some f → Breaks units k b.reason b.place → (n < k) ⊎ (n ≡ k) → Precedes n (break_of (element_of units n) f) k b
precedes-from units n u f k b there found breaks (inl less) = inl less
precedes-from units n u f k b there found breaks (inr same) =
    let here : Breaks units n b.reason b.place = subst (λ (m : ℕ). Breaks units m b.reason b.place) (sym same) breaks in
    subst (λ (m : ℕ). Precedes n (break_of (element_of units n) f) m b) same (precedes-here units n u f b found (covers units n b here u there))

-- a unit that has no fault has no break
no-break-here : (units : List FileUnit) (n : ℕ) (u : FileUnit) (m : ℕ) (b : Break) → slice_get units n ≡ Some u → unit_fault units n u.kind ≡ None → Breaks units m b.reason b.place → n ≡ m → ⊥
no-break-here units n u m b there none breaks same =
    let here : Breaks units n b.reason b.place = subst (λ (k : ℕ). Breaks units k b.reason b.place) (sym same) breaks in
    let c : Covers units n u b = covers units n b here u there in
    let clash : Some c.fault ≡ None = sym c.is ∙ none in
    cc

later-only : (units : List FileUnit) (n : ℕ) (u : FileUnit) (m : ℕ) (b : Break) → slice_get units n ≡ Some u → unit_fault units n u.kind ≡ None → Breaks units m b.reason b.place → (n < m) ⊎ (n ≡ m) → suc n ≤ m
later-only units n u m b there none breaks (inl less) = omega arith
later-only units n u m b there none breaks (inr same) = absurd (no-break-here units n u m b there none breaks same)

from-later : (units : List FileUnit) (n : ℕ) (u : FileUnit) (o : Option Break) → slice_get units n ≡ Some u → unit_fault units n u.kind ≡ None → FirstFrom units (suc n) o → FirstFrom units n o
from-later units n u o there none (none_from never) =
    none_from (λ m b low breaks. never m b (later-only units n u m b there none breaks (here-or-later n m low)) breaks)
from-later units n u o there none (some_from m low breaks all) =
    some_from m (omega arith) breaks (λ k b near other. all k b (later-only units n u k b there none other (here-or-later n k near)) other)

from-step : (units : List FileUnit) (n : ℕ) (u : FileUnit) (o : Option Fault) (rest : Option Break) → slice_get units n ≡ Some u → unit_fault units n u.kind ≡ o → FirstFrom units (suc n) rest
    → FirstFrom units n (option_or (option_map (break_of (element_of units n)) o) rest)
from-step units n u None rest there found more = from-later units n u rest there found more
from-step units n u (Some f) rest there found more =
    let is : IsKind units n u.kind = ap (option_map (λ (x : FileUnit). x.kind)) there in
    some_from n (omega arith) (break-of-fault units n f u.kind is found) (λ k b low breaks. precedes-from units n u f k b there found breaks (here-or-later n k low))

from-law : (units : List FileUnit) (n : ℕ) (us : List FileUnit) → us ≡ drop n units → FirstFrom units n (first_break_from units n us)
from-law units n [] is = none_from (λ m b low breaks. let t : (u : FileUnit) × (slice_get units m ≡ Some u) = break-there units m b.reason b.place breaks in drop-none n units m t.0 is low t.1)
from-law units n (u ∷ more) is =
    let h : (slice_get units n ≡ Some u) × (more ≡ drop (suc n) units) = drop-head n units u more is in
    from-step units n u (unit_fault units n u.kind) (first_break_from units (suc n) more) h.0 refl (from-law units (suc n) more h.1)

is-first : (units : List FileUnit) (o : Option Break) → FirstFrom units 0 o → IsFirst units o
is-first units o (none_from never) = no_break (λ n b breaks. never n b (omega arith) breaks)
is-first units o (some_from n low breaks all) = first n breaks (λ m b other. all m b (omega arith) other)

pub first_break_is_first : (units : List FileUnit) → IsFirst units (first_break units)
unfolding first_break
first_break_is_first units = is-first units (first_break_from units 0 units) (from-law units 0 units refl)
