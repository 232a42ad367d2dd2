-- Values that are no objects or one of the first so many: in lists, objects and stores.
use Rattle.std.proofs.Common.{◌≡◌, ℕ, zero, suc, ◌+◌, ◌<◌, ◌≤◌, inl, inr, length, get_or, take, drop, reverse, replicate, slice_get, slice_set, List, [], ◌∷◌, ◌++◌, Option, Some, None, Bool, true, false, refl, sym, ap, ◌∙◌, subst, arith}
use Rattle.std.proofs.lemmas.List.{length-append, reverse-append, get_or_append_left}
use Rattle.object_heap.specs.declared.value.Value.{Value}
use Rattle.object_heap.specs.declared.value.Value.TheVariants.{Nil, True, False, Integer, Character, Symbol, Class, Meta, Transcript, Object}
use Rattle.object_heap.specs.declared.value.Closure.{Closure}
use Rattle.std.specs.Option.{option_and_then}
use Rattle.object_heap.specs.Store.{Store, Scope, Object as HeapObject, closure_at, no_object, object_at, object_set, with_slot, with_byte}
use Rattle.st_collections.specs.Actions.{LoopState, next_object, with_new, first, second, third, boolean}
use Rattle.st_rules.specs.State.{Entry, Env, Home, Protected, Retry, RetryWith, Resume, Resignal, Terminate, Outcome, Answer, Go, Stop, Turn}
use Rattle.st_rules.specs.Ends.{Search, Purpose, ForSignal, ForPass, ForOuter, ForNested, Wait, ToResume, ToOuter}
use Rattle.st_rules.specs.Machine.{Act, BodyAct, Leaving, ProtectAct, EnsureOn, CurtailOn, ActionOff, SignalAct, HandlerRun, OuterAct, ResumeWait, HandlesWait, LoopAct}
use Rattle.st_rules.specs.Flat.{FlatBody}
use Rattle.law_values.specs.KnownNumbers.{Has, AllHave, ObjectsHave, ScopesHave, ClosureHas, ClosuresHave, EntryHas, EnvHas, EntryOrNone, TurnHas, OutcomeHas, PurposeHas, SearchHas, WaitHas, LoopHas, BodyHas, ActHas, ActsHave, Grown, Made, OneAgain, SameOrOneAgain}

module _ (C : ℕ) (low : 29 < C) where
  -- ---- with more objects

  module _ (a b : ℕ) (le : a ≤ b) where
    pub has_later : (v : Value) → Has C a v → Has C b v
    has_later (Object n) h = omega (arith, h, le)
    has_later Nil h = tt
    has_later True h = tt
    has_later False h = tt
    has_later (Integer n) h = tt
    has_later (Character c) h = tt
    has_later (Symbol n) h = tt
    has_later (Class c) h = h
    has_later (Meta c) h = h
    has_later Transcript h = tt

    pub all_later : (vs : List Value) → AllHave C a vs → AllHave C b vs
    all_later [] h = tt
    all_later (v ∷ vs) h = (has_later v h.0, all_later vs h.1)

    pub objects_later : (os : List HeapObject) → ObjectsHave C a os → ObjectsHave C b os
    objects_later [] h = tt
    objects_later (o ∷ os) h = (all_later o.slots h.0, objects_later os h.1)

    pub scopes_later : (ss : List Scope) → ScopesHave C a ss → ScopesHave C b ss
    scopes_later [] h = tt
    scopes_later (s ∷ ss) h = (all_later s.variables h.0, scopes_later ss h.1)

    pub closure_later : (c : Closure) → ClosureHas C a c → ClosureHas C b c
    closure_later c h = (has_later c.receiver h.0, has_later c.class h.1)

    pub closures_later : (cs : List Closure) → ClosuresHave C a cs → ClosuresHave C b cs
    closures_later [] h = tt
    closures_later (c ∷ cs) h = (closure_later c h.0, closures_later cs h.1)

    pub entry_later : (e : Entry) → EntryHas C a e → EntryHas C b e
    entry_later e h = (has_later e.selector h.0, has_later e.handler h.1)

    pub env_later : (env : Env) → EnvHas C a env → EnvHas C b env
    env_later [] h = tt
    env_later (e ∷ env) h = (entry_later e h.0, env_later env h.1)

    pub or_none_later : (o : Option Entry) → EntryOrNone C a o → EntryOrNone C b o
    or_none_later None h = tt
    or_none_later (Some e) h = entry_later e h

    pub turn_later : (t : Turn) → TurnHas C a t → TurnHas C b t
    turn_later t h = (omega (arith, h.0, le), or_none_later t.entry h.1, env_later t.outside h.2)

    pub outcome_later : (o : Outcome) → OutcomeHas C a o → OutcomeHas C b o
    outcome_later (Answer v) h = has_later v h
    outcome_later (Go (Home n) v) h = (tt, has_later v h.1)
    outcome_later (Go (Protected n) v) h = (tt, has_later v h.1)
    outcome_later (Go (Retry n) v) h = (tt, has_later v h.1)
    outcome_later (Go (RetryWith n) v) h = (tt, has_later v h.1)
    outcome_later (Go (Resume n) v) h = (tt, has_later v h.1)
    outcome_later (Go (Resignal n f) v) h = (omega (arith, h.0, le), has_later v h.1)
    outcome_later (Go Terminate v) h = (tt, has_later v h.1)
    outcome_later (Stop l) h = tt

    pub purpose_later : (q : Purpose) → PurposeHas C a q → PurposeHas C b q
    purpose_later ForSignal h = tt
    purpose_later (ForPass t) h = turn_later t h
    purpose_later (ForOuter t point) h = turn_later t h
    purpose_later ForNested h = tt

    pub search_later : (x : Search) → SearchHas C a x → SearchHas C b x
    search_later x h = (omega (arith, h.0, le), env_later x.whole h.1, purpose_later x.purpose h.2)

    pub wait_later : (w : Wait) → WaitHas C a w → WaitHas C b w
    wait_later (ToResume v) h = has_later v h
    wait_later ToOuter h = tt

    pub loop_later : (l : LoopState) → LoopHas C a l → LoopHas C b l
    loop_later l h = (has_later l.receiver h.0, all_later l.arguments h.1, has_later l.made h.2, has_later l.visited h.3)

    pub body_later : (x : FlatBody) → BodyHas C a x → BodyHas C b x
    body_later x h = (has_later x.self h.0, has_later x.class h.1, all_later x.operands h.2, env_later x.env h.3)

    pub act_later : (x : Act FlatBody) → ActHas C a x → ActHas C b x
    act_later (BodyAct x) h = body_later x h
    act_later (Leaving x) h = body_later x h
    act_later (ProtectAct receiver entry env) h = (has_later receiver h.0, entry_later entry h.1, env_later env h.2)
    act_later (EnsureOn n block env) h = (has_later block h.0, env_later env h.1)
    act_later (CurtailOn n block env) h = (has_later block h.0, env_later env h.1)
    act_later (ActionOff n held) h = outcome_later held h
    act_later (SignalAct n e env) h = (omega (arith, h.0, le), env_later env h.1)
    act_later (HandlerRun n t) h = turn_later t h
    act_later (OuterAct n) h = tt
    act_later (ResumeWait n w k t env) h = (wait_later w h.0, turn_later t h.1, env_later env h.2)
    act_later (HandlesWait n x entry rest) h = (search_later x h.0, entry_later entry h.1, env_later rest h.2)
    act_later (LoopAct n l env) h = (loop_later l h.0, env_later env h.1)

    pub acts_later : (acts : List (Act FlatBody)) → ActsHave C a acts → ActsHave C b acts
    acts_later [] h = tt
    acts_later (x ∷ acts) h = (act_later x h.0, acts_later acts h.1)

  -- ---- lists

  module _ (k : ℕ) where
    pub boolean_has : (b : Bool) → Has C k (boolean b)
    boolean_has true = tt
    boolean_has false = tt

    pub first_has : (vs : List Value) → AllHave C k vs → Has C k (first vs)
    first_has [] h = tt
    first_has (v ∷ vs) h = h.0

    pub second_has : (vs : List Value) → AllHave C k vs → Has C k (second vs)
    second_has [] h = tt
    second_has (v ∷ vs) h = first_has vs h.1

    pub third_has : (vs : List Value) → AllHave C k vs → Has C k (third vs)
    third_has [] h = tt
    third_has (v ∷ vs) h = second_has vs h.1

    pub get_has : (vs : List Value) (i : ℕ) → AllHave C k vs → Has C k (get_or vs i Nil)
    get_has [] i h = tt
    get_has (v ∷ vs) zero h = h.0
    get_has (v ∷ vs) (suc i) h = get_has vs i h.1

    pub append_has : (vs ws : List Value) → AllHave C k vs → AllHave C k ws → AllHave C k (vs ++ ws)
    append_has [] ws h i = i
    append_has (v ∷ vs) ws h i = (h.0, append_has vs ws h.1 i)

    pub take_has : (n : ℕ) (vs : List Value) → AllHave C k vs → AllHave C k (take n vs)
    take_has zero vs h = tt
    take_has (suc n) [] h = tt
    take_has (suc n) (v ∷ vs) h = (h.0, take_has n vs h.1)

    pub drop_has : (n : ℕ) (vs : List Value) → AllHave C k vs → AllHave C k (drop n vs)
    drop_has zero vs h = h
    drop_has (suc n) [] h = tt
    drop_has (suc n) (v ∷ vs) h = drop_has n vs h.1

    pub set_has : (vs : List Value) (i : ℕ) (v : Value) → AllHave C k vs → Has C k v → AllHave C k (slice_set vs i v)
    set_has [] i v h g = tt
    set_has (u ∷ vs) zero v h g = (g, h.1)
    set_has (u ∷ vs) (suc i) v h g = (h.0, set_has vs i v h.1 g)

    pub nils_have : (n : ℕ) → AllHave C k (replicate n Nil)
    nils_have zero = tt
    nils_have (suc n) = (tt, nils_have n)

    pub reverse_has : (vs : List Value) → AllHave C k vs → AllHave C k (reverse vs)
    reverse_has [] h = tt
    reverse_has (v ∷ vs) h = subst (λ ws. AllHave C k ws) (sym (reverse-append (v ∷ []) vs)) (append_has (reverse vs) (v ∷ []) (reverse_has vs h.1) (h.0, tt))

    pub slots_at : (os : List HeapObject) (n : ℕ) → ObjectsHave C k os → AllHave C k (get_or os n no_object).slots
    slots_at [] n h = tt
    slots_at (o ∷ os) zero h = h.0
    slots_at (o ∷ os) (suc n) h = slots_at os n h.1

    pub objects_append : (os qs : List HeapObject) → ObjectsHave C k os → ObjectsHave C k qs → ObjectsHave C k (os ++ qs)
    objects_append [] qs h i = i
    objects_append (o ∷ os) qs h i = (h.0, objects_append os qs h.1 i)

    pub objects_set : (os : List HeapObject) (n : ℕ) (o : HeapObject) → ObjectsHave C k os → AllHave C k o.slots → ObjectsHave C k (slice_set os n o)
    objects_set [] n o h g = tt
    objects_set (q ∷ os) zero o h g = (g, h.1)
    objects_set (q ∷ os) (suc n) o h g = (h.0, objects_set os n o h.1 g)

  pub set_size : {A : Type 0} (os : List A) (n : ℕ) (o : A) → length (slice_set os n o) ≡ length os
  set_size [] n o = refl
  set_size (q ∷ os) zero o = refl
  set_size (q ∷ os) (suc n) o = ap suc (set_size os n o)

  -- the class of each object, where one is set of the class that was there
  pub set_class : (os : List HeapObject) (n m : ℕ) (o : HeapObject) → o.class ≡ (get_or os n no_object).class → (get_or (slice_set os n o) m no_object).class ≡ (get_or os m no_object).class
  set_class [] n m o c = refl
  set_class (q ∷ os) zero zero o c = c
  set_class (q ∷ os) zero (suc m) o c = refl
  set_class (q ∷ os) (suc n) zero o c = refl
  set_class (q ∷ os) (suc n) (suc m) o c = set_class os n m o c

  -- ---- stores

  pub one_more : (s : Store) (o : HeapObject) → length (s.objects ++ o ∷ []) ≡ length s.objects + 1
  one_more s o = length-append s.objects (o ∷ [])

  pub grown_itself : (s : Store) → ObjectsHave C (length s.objects) s.objects → Grown C s s
  grown_itself s h = record { closures = refl; scopes = refl; more = omega arith; classes = λ n l. refl; objects = h }

  pub grown_on : (s t u : Store) → Grown C s t → Grown C t u → Grown C s u
  grown_on s t u a b = record { closures = b.closures ∙ a.closures; scopes = b.scopes ∙ a.scopes; more = omega (arith, a.more, b.more); classes = λ n l. b.classes n (omega (arith, l, a.more)) ∙ a.classes n l; objects = b.objects }

  pub made_plain : (s t : Store) → Grown C s t → Made C s t
  made_plain s t g = record { grown = record { closures = refl; scopes = g.scopes; more = g.more; classes = g.classes; objects = g.objects }; closures = inl g.closures }

  -- a closure that was copied
  again_at : (cs : List Closure) (o : Option ℕ) (c : Closure) → option_and_then (λ k. slice_get cs k) o ≡ Some c → OneAgain C cs (cs ++ c ∷ [])
  again_at cs None c e = cc
  again_at cs (Some k) c e = record { place = k; closure = c; is = e; added = refl }

  pub one_again : (s : Store) (n : ℕ) (c : Closure) → closure_at n s ≡ Some c → OneAgain C s.closures (s.closures ++ c ∷ [])
  one_again s n c e = again_at s.closures (object_at n s).closure c e

  closure_there : (k : ℕ) (cs : List Closure) (n : ℕ) (c : Closure) → slice_get cs n ≡ Some c → ClosuresHave C k cs → ClosureHas C k c
  closure_there k [] n c e h = cc
  closure_there k (d ∷ cs) zero c e h = let same : d ≡ c = cc in subst (λ x. ClosureHas C k x) same h.0
  closure_there k (d ∷ cs) (suc n) c e h = closure_there k cs n c e h.1

  closure_added : (k : ℕ) (cs : List Closure) (c : Closure) → ClosuresHave C k cs → ClosureHas C k c → ClosuresHave C k (cs ++ c ∷ [])
  closure_added k [] c h g = (g, tt)
  closure_added k (d ∷ cs) c h g = (h.0, closure_added k cs c h.1 g)

  pub closures_made : (k : ℕ) (cs cs' : List Closure) → SameOrOneAgain C cs cs' → ClosuresHave C k cs → ClosuresHave C k cs'
  closures_made k cs cs' (inl e) h = subst (λ xs. ClosuresHave C k xs) (sym e) h
  closures_made k cs cs' (inr a) h = subst (λ xs. ClosuresHave C k xs) (sym a.added) (closure_added k cs a.closure h (closure_there k cs a.place a.closure a.is h))

  module _ (s : Store) (h : ObjectsHave C (length s.objects) s.objects) where
    -- one more object, of these slots
    pub grown_added : (o : HeapObject) → AllHave C (length s.objects) o.slots → Grown C s (record { objects = s.objects ++ o ∷ []; closures = s.closures; scopes = s.scopes })
    grown_added o g =
        let e = one_more s o in
        let le : length s.objects ≤ length (s.objects ++ o ∷ []) = omega (arith, e) in
        record { closures = refl; scopes = refl; more = le; classes = λ n l. ap (λ (q : HeapObject). q.class) (get_or_append_left s.objects (o ∷ []) no_object n l); objects = objects_append _ s.objects (o ∷ []) (objects_later _ _ le s.objects h) (all_later _ _ le o.slots g, tt) }

    pub next_has : (o : HeapObject) → length s.objects < length (s.objects ++ o ∷ [])
    next_has o = let e = one_more s o in omega (arith, e)

    pub grown_new : (class : ℕ) (slots : List Value) (bytes : List ℕ) → AllHave C (length s.objects) slots → Grown C s (with_new class slots bytes s)
    unfolding with_new
    grown_new class slots bytes g = grown_added _ g

    pub next_new : (class : ℕ) (slots : List Value) (bytes : List ℕ) → Has C (length (with_new class slots bytes s).objects) (next_object s)
    unfolding with_new
    next_new class slots bytes = next_has _

    -- an object with other slots
    pub grown_set : (n : ℕ) (o : HeapObject) → o.class ≡ (object_at n s).class → AllHave C (length s.objects) o.slots → Grown C s (object_set n o s)
    grown_set n o c g =
        let e = set_size s.objects n o in
        record { closures = refl; scopes = refl; more = omega (arith, e); classes = λ m l. set_class s.objects n m o c; objects = subst (λ k. ObjectsHave C k (slice_set s.objects n o)) (sym e) (objects_set (length s.objects) s.objects n o h g) }

    pub set_keeps : (n : ℕ) (o : HeapObject) (v : Value) → Has C (length s.objects) v → Has C (length (object_set n o s).objects) v
    set_keeps n o v g = subst (λ k. Has C k v) (sym (set_size s.objects n o)) g

    pub object_slots : (n : ℕ) → AllHave C (length s.objects) (object_at n s).slots
    object_slots n = slots_at (length s.objects) s.objects n h

    pub grown_slot : (n i : ℕ) (v : Value) → Has C (length s.objects) v → Grown C s (with_slot n i v s)
    grown_slot n i v g = grown_set n _ refl (set_has (length s.objects) (object_at n s).slots i v (object_slots n) g)

    pub grown_byte : (n i byte : ℕ) → Grown C s (with_byte n i byte s)
    grown_byte n i byte = grown_set n _ refl (object_slots n)
