-- A body that is opened on both machines: its captured variables go to a new scope of the flat one, the others are its first operands.
use Rattle.std.proofs.Common.{◌≡◌, ℕ, ◌+◌, ◌-◌, ◌<◌, max, List, [], ◌∷◌, ◌++◌, length, reverse, Option, Some, None, Bool, true, false, refl, sym, ap, ◌∙◌, subst, arith, nat_lt, nat_le, if◌then◌else◌}
use Rattle.object_heap.specs.Store.{Scope, scope_added}
use Rattle.st_code.specs.Program.{Program, body_at}
use Rattle.st_code.specs.Compiled.{Compiled, any_captured, compiled_body, compile_of}
use Rattle.st_rules.specs.State.{State, StepLimit, DepthLimit, CellLimit, step_made, stood, used, scope_cells, first_variables, with_scope}
use Rattle.st_rules.specs.Ends.{charged, Opening, with_opened}
use Rattle.st_rules.specs.Machine.{Act, Mach, Run, marks, stopped, open_act}
use Rattle.st_rules.specs.Scoped.{ScopedBody, scoped_number, scoped, scoped_opened}
use Rattle.st_rules.specs.Flat.{FlatBody, flat_number, own_variables, captured_variables, greatest_width, flat_opened, flat_opened_store}
use Rattle.st_rules.specs.Flattened.{flat_of}
use Rattle.st_rules.specs.Compilable.{Compilable}
use Rattle.st_rules.proofs.Variables.{first_size}
use Rattle.st_rules.proofs.SameRows.{with_rest}
use Rattle.st_rules.proofs.Flattening.{Places, scope_of, place_of, captured, whole, own_of, flat_closures, flat_store, flat_state, flat_acts, running_body, Chained, flat_scope_of, ScopesHold, StoreHolds, BodyHolds, Goes, marks_same}
use Rattle.st_rules.proofs.FlatControl.{Holds}
use Rattle.st_rules.proofs.FlatScopes.{Agree, acts_agree, closures_agree, more_old, more_last, place_old, place_last, more_size, new_captured, new_uncaptured}
use Rattle.st_rules.proofs.FlatCode.{code_is, room_for}

module _ (p : Program) (g : Places) where
  abbrev codes : List Compiled
  codes = compile_of p

  abbrev room : ℕ
  room = greatest_width (compile_of p)

  abbrev Fs : State → State
  Fs st = flat_state g st

  abbrev Fa : State → List (Act ScopedBody) → List (Act FlatBody)
  Fa st acts = flat_acts p st.store.scopes g.places acts

  -- ---- charges

  pub step_goes : (acts : List (Act ScopedBody)) (st : State) (k' : State → Mach FlatBody) (k : State → Mach ScopedBody) → ((n : ℕ) → Goes p (k' (record (Fs st) { steps = n })) (k (record st { steps = n }))) → Goes p (charged (step_made p (Fs st)) (stopped StepLimit (Fa st acts) (Fs st)) k') (charged (step_made p st) (stopped StepLimit acts st) k)
  unfolding step_made
  step_goes acts st k' k h = go (nat_lt st.steps p.step_limit)
    where
      go : (c : Bool) → Goes p (charged (if c then Some (record (Fs st) { steps = st.steps + 1 }) else None) (stopped StepLimit (Fa st acts) (Fs st)) k') (charged (if c then Some (record st { steps = st.steps + 1 }) else None) (stopped StepLimit acts st) k)
      go true = h _
      go false = (g, (refl, tt))

  stood_goes : (acts : List (Act ScopedBody)) (st : State) (k' : State → Mach FlatBody) (k : State → Mach ScopedBody) → ((d n : ℕ) → Goes p (k' (record (Fs st) { depth = d; next = n })) (k (record st { depth = d; next = n }))) → Goes p (charged (stood p (marks flat_number (Fa st acts)) (Fs st)) (stopped DepthLimit (Fa st acts) (Fs st)) k') (charged (stood p (marks scoped_number acts) st) (stopped DepthLimit acts st) k)
  unfolding stood
  stood_goes acts st k' k h =
      subst (λ ms. Goes p (charged (stood p ms (Fs st)) (stopped DepthLimit (Fa st acts) (Fs st)) k') (charged (stood p (marks scoped_number acts) st) (stopped DepthLimit acts st) k))
      (sym (marks_same p st.store.scopes g.places acts))
      (go (nat_le (length (marks scoped_number acts) + 1) p.depth_limit))
    where
      go : (c : Bool) → Goes p (charged (if c then Some (record (Fs st) { depth = max st.depth (length (marks scoped_number acts) + 1); next = st.next + 1 }) else None) (stopped DepthLimit (Fa st acts) (Fs st)) k') (charged (if c then Some (record st { depth = max st.depth (length (marks scoped_number acts) + 1); next = st.next + 1 }) else None) (stopped DepthLimit acts st) k)
      go true = h _ _
      go false = (g, (refl, tt))

  used_goes : (cells : ℕ) (acts : List (Act ScopedBody)) (st : State) (k' : State → Mach FlatBody) (k : State → Mach ScopedBody) → ((c : ℕ) → Goes p (k' (record (Fs st) { cells = c })) (k (record st { cells = c }))) → Goes p (charged (used p cells (Fs st)) (stopped CellLimit (Fa st acts) (Fs st)) k') (charged (used p cells st) (stopped CellLimit acts st) k)
  unfolding used
  used_goes cells acts st k' k h = go (nat_le (st.cells + cells) p.cell_limit)
    where
      go : (c : Bool) → Goes p (charged (if c then Some (record (Fs st) { cells = st.cells + cells }) else None) (stopped CellLimit (Fa st acts) (Fs st)) k') (charged (if c then Some (record st { cells = st.cells + cells }) else None) (stopped CellLimit acts st) k)
      go true = h _
      go false = (g, (refl, tt))

  -- ---- a body that is opened

  pub record OpeningHolds (ss : List Scope) (x : Opening) : Type 0 where
    pub known : x.code < length p.bodies
    pub is_kind : (body_at p x.code).kind ≡ x.kind
    pub chained : Chained p ss (length ss) (body_at p x.code).outer x.outer

  abbrev pub placed_opening : Opening → Opening
  placed_opening x = record x { outer = place_of g.places x.outer }

  module _ (ok : Compilable p) (x : Opening) (acts : List (Act ScopedBody)) (st : State) (h : Holds p g st acts) (known : x.code < length p.bodies) (chained : Chained p st.store.scopes (length st.store.scopes) (body_at p x.code).outer x.outer) where
    abbrev ss : List Scope
    ss = st.store.scopes

    abbrev pl : List (Option ℕ)
    pl = g.places

    -- as its body says
    abbrev kind_right : Opening
    kind_right = record x { kind = (body_at p x.code).kind }

    abbrev scope : Scope
    scope = record { code = x.code; outer = x.outer; variables = first_variables (captured p x.code) x.arguments }

    abbrev more : List Scope
    more = ss ++ scope ∷ []

    old_size : length more ≡ length ss + 1
    old_size = more_size p ss pl g.scopes g.owners h.0.scopes scope

    last : scope_of more (length ss) ≡ scope
    last = more_last p ss pl g.scopes g.owners h.0.scopes scope

    agrees : (place : Option ℕ) → Agree p ss more pl (pl ++ place ∷ []) (length ss)
    agrees place m l =
        let same = more_old p ss pl g.scopes g.owners h.0.scopes scope m l in
        (ap (λ (y : Scope). own_variables (captured p y.code) y.variables) same, ap (λ (y : Scope). y.code) same, place_old p ss pl g.scopes g.owners h.0.scopes scope place m l)

    -- the flat body with its scope there, by the captured variables that its code has
    abbrev opened_at : List Bool → Option ℕ → FlatBody
    opened_at c place = record { code = x.code; position = 0; operands = reverse (own_variables c (first_variables c x.arguments)); self = x.self; class = x.class; own = x.own; home = x.home; scope = place; env = x.env }

    opened_is : (place : Option ℕ) → opened_at (captured p x.code) place ≡ running_body p more (pl ++ place ∷ []) (scoped_opened p kind_right st.store)
    opened_is place =
        let L = length (whole p x.code) in
        let position : 0 ≡ L - L = omega arith in
        ap (λ n. record (opened_at (captured p x.code) place) { position = n }) position
        ∙ ap (λ (y : Scope). record (opened_at (captured p x.code) place) { position = L - L; operands = reverse (own_variables (captured p y.code) y.variables) }) (sym last)
        ∙ ap (λ o. record (opened_at (captured p x.code) o) { position = L - L; operands = reverse (own_of p more (length ss)) }) (sym (place_last p ss pl g.scopes g.owners h.0.scopes scope place))

    opened_holds : BodyHolds p more 0 0 (scoped_opened p kind_right st.store)
    opened_holds =
        record {
          scope = length ss;
          is_scope = refl;
          there = omega (arith, old_size);
          here = ap (λ (y : Scope). y.code) last;
          known = known;
          before = 0;
          left = refl;
          fits = omega arith;
          sound = ok.bodies x.code;
          room = room_for p x.code known;
        }

    -- with these places, where the flat machine has this store
    opened_with : (place : Option ℕ) (fs' : List Scope) (owners' : List ℕ) → StoreHolds p (record { places = pl ++ place ∷ []; scopes = fs'; owners = owners' }) more st.store.closures → Goes p (Run (opened_at (captured p x.code) place) (Fa st acts) (record (Fs st) { store = with_rest (flat_closures g st.store.closures) fs' st.store })) (Run (scoped_opened p kind_right st.store) acts (record st { store = record { objects = st.store.objects; closures = st.store.closures; scopes = more } }))
    opened_with place fs' owners' held' =
        let pl' = pl ++ place ∷ [] in
        let kept = acts_agree p ss more pl pl' (length ss) acts (agrees place) (omega (arith, old_size)) h.1 in
        let cs = closures_agree p ss more pl pl' st.store.closures (omega (arith, old_size)) (λ m l. ((agrees place m l).1, (agrees place m l).2)) h.0.closures in (
          record { places = pl'; scopes = fs'; owners = owners' },
          (
            ap (λ y. Run y (Fa st acts) (record (Fs st) { store = with_rest (flat_closures g st.store.closures) fs' st.store })) (opened_is place)
                ∙ ap (λ rest. Run (running_body p more pl' (scoped_opened p kind_right st.store)) rest (record (Fs st) { store = with_rest (flat_closures g st.store.closures) fs' st.store })) (sym kept.0)
                ∙ ap (λ ds. Run (running_body p more pl' (scoped_opened p kind_right st.store)) (flat_acts p more pl' acts) (record (Fs st) { store = with_rest ds fs' st.store })) (sym cs.0),
            held',
            opened_holds,
            kept.1,
          ),
        )

    store_more : (place : Option ℕ) (fs' : List Scope) (owners' : List ℕ) → ScopesHold p more (pl ++ place ∷ []) fs' owners' → StoreHolds p (record { places = pl ++ place ∷ []; scopes = fs'; owners = owners' }) more st.store.closures
    store_more place fs' owners' scopes =
        let cs = closures_agree p ss more pl (pl ++ place ∷ []) st.store.closures (omega (arith, old_size)) (λ m l. ((agrees place m l).1, (agrees place m l).2)) h.0.closures in
        record { scopes = scopes; closures = cs.1 }

    -- what the flat machine opens, by what its code captures
    abbrev flat_open : Compiled → Bool → State → Mach FlatBody
    flat_open c some s =
        Run (opened_at c.captured (if some then Some (length s.store.scopes) else place_of pl x.outer)) (Fa st acts)
        (record s { store = if some then scope_added (record { code = x.code; outer = place_of pl x.outer; variables = captured_variables c.captured (first_variables c.captured x.arguments) }) s.store else s.store })

    opened_by : (some : Bool) → any_captured (captured p x.code) ≡ some → Goes p (flat_open (compiled_body p x.code (body_at p x.code)) some (Fs st)) (Run (scoped_opened p kind_right st.store) acts (record st { store = record { objects = st.store.objects; closures = st.store.closures; scopes = more } }))
    unfolding compiled_body
    opened_by true e =
        let fs' = g.scopes ++ flat_scope_of p pl scope ∷ [] in
        let owners' = g.owners ++ length ss ∷ [] in
        opened_with (Some (length g.scopes)) fs' owners' (store_more (Some (length g.scopes)) fs' owners' (new_captured p ss pl g.scopes g.owners h.0.scopes scope e (first_size (captured p x.code) x.arguments) chained))
    opened_by false e =
        opened_with (place_of pl x.outer) g.scopes g.owners (store_more (place_of pl x.outer) g.scopes g.owners (new_uncaptured p ss pl g.scopes g.owners h.0.scopes scope e (first_size (captured p x.code) x.arguments) chained))

    opened_law : Goes p (Run (flat_opened p codes room (placed_opening kind_right) (flat_store g st.store)) (Fa st acts) (record (Fs st) { store = flat_opened_store p codes room (placed_opening kind_right) (flat_store g st.store) })) (Run (scoped_opened p kind_right st.store) acts (record st { store = with_opened p kind_right st.store }))
    unfolding with_opened with_scope compiled_body
    opened_law =
        subst (λ c. Goes p (flat_open c (any_captured c.captured) (Fs st)) (Run (scoped_opened p kind_right st.store) acts (record st { store = record { objects = st.store.objects; closures = st.store.closures; scopes = more } }))) (sym (code_is p x.code known))
        (opened_by (any_captured (captured p x.code)) refl)

  pub open_goes : Compilable p → (x : Opening) (acts : List (Act ScopedBody)) (st : State) → Holds p g st acts → OpeningHolds st.store.scopes x → Goes p (open_act (flat_of p) p (placed_opening x) (Fa st acts) (Fs st)) (open_act (scoped p) p x acts st)
  open_goes ok x acts st h o =
      subst (λ k. Goes p (open_act (flat_of p) p (placed_opening (record x { kind = k })) (Fa st acts) (Fs st)) (open_act (scoped p) p (record x { kind = k }) acts st)) o.is_kind
      (stood_goes acts st _ _ (λ d n. used_goes (scope_cells (body_at p x.code)) acts _ _ _ (λ c. opened_law ok x acts (record st { depth = d; next = n; cells = c }) h o.known o.chained)))
