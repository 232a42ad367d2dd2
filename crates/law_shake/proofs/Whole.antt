-- Two programs that are renamed into one run alike.
use Rattle.std.proofs.Common.{◌≡◌, ℕ, zero, suc, ◌+◌, refl, sym, ap, ◌∙◌, subst, arith}
use Rattle.object_heap.specs.declared.value.Value.{Value}
use Rattle.object_heap.specs.declared.value.Value.TheVariants.{Object}
use Rattle.object_heap.specs.Store.{Store, Object as HeapObject, object_at}
use Rattle.st_collections.specs.Kinds.{exception_text}
use Rattle.st_code.specs.Program.{Program, ClassRow, class_at}
use Rattle.st_rules.specs.State.{State}
use Rattle.st_rules.specs.Runs.{Ending, Runs, Done, Unhandled, AtLimit, Stuck as Stranded}
use Rattle.st_rules.specs.Machine.{Run, Settle, Begin, Over, Stuck, Bodies}
use Rattle.st_rules.specs.Scoped.{ScopedBody, scoped}
use Rattle.st_rules.specs.Flat.{FlatBody}
use Rattle.st_rules.specs.Flattened.{flat_of}
use Rattle.st_rules.specs.Objects.{TopHas, KnowsLiterals}
use Rattle.st_rules.specs.Compilable.{Compilable}
use Rattle.st_rules.specs.Turns.{Top, On, Ended, top_step, top_iter, opened_run, instructions, MachineRuns}
use Rattle.st_rules.proofs.FlatTop.{TopFollows, top_law, opened_law, flat_follows}
use Rattle.st_rules.proofs.ObjectsRun.{objects_stand}
use Rattle.st_rules.proofs.FollowedRun.{follows_the_rules}
use Rattle.law_shake.specs.Renaming.{Renaming, object, ren, ren_store, ren_top, IsRenamed}
use Rattle.law_shake.specs.Told.{Told, ToldDone, ToldUnhandled, told}
use Rattle.law_shake.proofs.Lookups.{object_read, class_same, exception_text_ren}
use Rattle.law_shake.proofs.Steps.{RowsAlike, TopRoom, run_same, instructions_same}

-- ---- the literals stand in each state

module _ (q : Program) (ok : Compilable q) (known : KnowsLiterals q) where
  follows_at : (n : ℕ) (t' : Top FlatBody) (t : Top ScopedBody) → TopFollows q ok t' t → TopFollows q ok (top_iter (flat_of q) q n t') (top_iter (scoped q) q n t)
  follows_at zero t' t h = h
  follows_at (suc n) t' t h = follows_at n (top_step (flat_of q) q t') (top_step (scoped q) q t) (top_law q ok t' t h)

  module _ (x : Renaming) (p : Program) (is : IsRenamed x q p) (alike : RowsAlike x q p) where
    room_at : (t' : Top FlatBody) (t : Top ScopedBody) → TopFollows q ok t' t → TopHas q t' → TopRoom x q p is alike t
    room_at t' (Ended e st) f h = tt
    room_at t' (On target xs (Over o st)) f h = tt
    room_at t' (On target xs (Stuck st)) f h = tt
    room_at t' (On target xs (Run b acts st)) f h = let h' = subst (λ t. TopHas q t) (f.1 ∙ ap (λ m. On target xs m) f.2.1.0) h in omega (arith, is.fits, h'.0.0)
    room_at t' (On target xs (Settle o acts st)) f h = let h' = subst (λ t. TopHas q t) (f.1 ∙ ap (λ m. On target xs m) f.2.1.0) h in omega (arith, is.fits, h'.0.0)
    room_at t' (On target xs (Begin u acts st)) f h = let h' = subst (λ t. TopHas q t) (f.1 ∙ ap (λ m. On target xs m) f.2.1.0) h in omega (arith, is.fits, h'.0.0)

    pub rooms : (k : ℕ) → TopRoom x q p is alike (top_iter (scoped q) q k (opened_run (scoped q) q))
    rooms k = room_at _ _ (follows_at k (opened_run (flat_of q) q) (opened_run (scoped q) q) (opened_law q ok)) (objects_stand q known k)

-- ---- two runs in one program

module _ {B : Type 0} (S : Bodies B) (m : Program) where
  steps_add : (j k : ℕ) (t : Top B) → top_iter S m (j + k) t ≡ top_iter S m k (top_iter S m j t)
  steps_add zero k t = let e : 0 + k ≡ k = omega arith in ap (λ n. top_iter S m n t) e
  steps_add (suc j) k t = let e : suc j + k ≡ suc (j + k) = omega arith in ap (λ n. top_iter S m n t) e ∙ steps_add j k (top_step S m t)

  stays : (n : ℕ) (e : Ending) (st : State) → top_iter S m n (Ended e st) ≡ Ended e st
  stays zero e st = refl
  stays (suc n) e st = stays n e st

  abbrev pub over : Ending → State → Top B
  over e st = Ended e st

  pub one_end : (t : Top B) (i j : ℕ) (e e' : Ending) (st st' : State) → top_iter S m i t ≡ Ended e st → top_iter S m j t ≡ Ended e' st' → over e st ≡ over e' st'
  one_end t i j e e' st st' x y =
      let swap : i + j ≡ j + i = omega arith in
      sym (stays j e st) ∙ sym (ap (top_iter S m j) x) ∙ sym (steps_add i j t) ∙ ap (λ n. top_iter S m n t) swap ∙ steps_add j i t ∙ ap (top_iter S m i) y ∙ stays i e' st'

  none_after : (n : ℕ) (e : Ending) (st : State) → instructions S m n (Ended e st) ≡ 0
  none_after zero e st = refl
  none_after (suc n) e st = let h = none_after n e st in omega arith

  counts_add : (j k : ℕ) (t : Top B) → instructions S m (j + k) t ≡ instructions S m j t + instructions S m k (top_iter S m j t)
  counts_add zero k t = let e : 0 + k ≡ k = omega arith in ap (λ n. instructions S m n t) e ∙ omega arith
  counts_add (suc j) k t =
      let e : suc j + k ≡ suc (j + k) = omega arith in
      let h = counts_add j k (top_step S m t) in
      ap (λ n. instructions S m n t) e ∙ omega (arith, h)

  pub one_count : (t : Top B) (i j : ℕ) (e e' : Ending) (st st' : State) → top_iter S m i t ≡ Ended e st → top_iter S m j t ≡ Ended e' st' → instructions S m i t ≡ instructions S m j t
  one_count t i j e e' st st' x y =
      let swap : i + j ≡ j + i = omega arith in
      let a = counts_add i j t ∙ ap (λ u. instructions S m i t + instructions S m j u) x ∙ ap (λ k. instructions S m i t + k) (none_after j e st) in
      let b = counts_add j i t ∙ ap (λ u. instructions S m j t + instructions S m i u) y ∙ ap (λ k. instructions S m j t + k) (none_after i e' st') in
      let c = ap (λ n. instructions S m n t) swap in
      omega (arith, a, b, c)

-- the first program and the second are renamed into a third one
pub record Joined (q p : Program) : Type 0 where
  pub whole : Program
  pub one : Renaming
  pub other : Renaming
  pub one_is : IsRenamed one q whole
  pub other_is : IsRenamed other p whole
  pub one_alike : RowsAlike one q whole
  pub other_alike : RowsAlike other p whole

-- what is the same of two runs by the rules
pub record SameRun (q p : Program) (j : Joined q p) (e e' : Ending) (st st' : State) : Type 0 where
  pub top : ren_top j.one (Ended e st) ≡ ren_top j.other (Ended e' st')

module _ (q p : Program) (ok : Compilable q) (known : KnowsLiterals q) (ok' : Compilable p) (known' : KnowsLiterals p) (j : Joined q p) where
  pub runs_alike : (e e' : Ending) (st st' : State) → Runs q e st → Runs p e' st' → SameRun q p j e e' st st'
  runs_alike e e' st st' r r' =
      let a = follows_the_rules q e st r in
      let b = follows_the_rules p e' st' r' in
      let x = run_same j.one q j.whole j.one_is j.one_alike (rooms q ok known j.one j.whole j.one_is j.one_alike) a.0 ∙ ap (ren_top j.one) a.1 in
      let y = run_same j.other p j.whole j.other_is j.other_alike (rooms p ok' known' j.other j.whole j.other_is j.other_alike) b.0 ∙ ap (ren_top j.other) b.1 in
      record { top = one_end (scoped j.whole) j.whole (opened_run (scoped j.whole) j.whole) a.0 b.0 _ _ _ _ x y }

  abbrev pub state_of : Top ScopedBody → State
  state_of (Ended e st) = st
  state_of (On target xs (Run b acts st)) = st
  state_of (On target xs (Settle o acts st)) = st
  state_of (On target xs (Begin u acts st)) = st
  state_of (On target xs (Over o st)) = st
  state_of (On target xs (Stuck st)) = st

  -- the Transcript, the events and the counts
  pub same_transcript : (e e' : Ending) (st st' : State) → SameRun q p j e e' st st' → st.transcript ≡ st'.transcript
  same_transcript e e' st st' s = ap (λ t. (state_of t).transcript) s.top

  pub same_steps : (e e' : Ending) (st st' : State) → SameRun q p j e e' st st' → st.steps ≡ st'.steps
  same_steps e e' st st' s = ap (λ t. (state_of t).steps) s.top

  pub same_depth : (e e' : Ending) (st st' : State) → SameRun q p j e e' st st' → st.depth ≡ st'.depth
  same_depth e e' st st' s = ap (λ t. (state_of t).depth) s.top

  pub same_cells : (e e' : Ending) (st st' : State) → SameRun q p j e e' st st' → st.cells ≡ st'.cells
  same_cells e e' st st' s = ap (λ t. (state_of t).cells) s.top

  -- ---- the ending: an exception's class and text are told alike

  abbrev told_of : Program → Top ScopedBody → Told
  told_of w (Ended e st) = told w st.store e
  told_of w t = ToldDone

  unhandled_ren : (x : Renaming) (w : Program) (r : Program) → IsRenamed x r w → (s : Store) (v : Value) → told w (ren_store x s) (Unhandled (ren x v)) ≡ told r s (Unhandled v)
  unhandled_ren x w r is s (Object n) =
      ap (λ (o : HeapObject). ToldUnhandled (class_at w o.class).name (exception_text w (ren_store x s) (object x n))) (object_read x s n)
      ∙ ap (λ (c : ClassRow). ToldUnhandled c.name (exception_text w (ren_store x s) (object x n))) (class_same x r w is (object_at n s).class)
      ∙ ap (ToldUnhandled (class_at r (object_at n s).class).name) (exception_text_ren x r w is s n)
  unhandled_ren x w r is s v = refl

  told_ren : (x : Renaming) (w : Program) (r : Program) → IsRenamed x r w → (e : Ending) (st : State) → told_of w (ren_top x (Ended e st)) ≡ told r st.store e
  told_ren x w r is Done st = refl
  told_ren x w r is (Unhandled v) st = unhandled_ren x w r is st.store v
  told_ren x w r is (AtLimit l) st = refl
  told_ren x w r is Stranded st = refl

  pub same_told : (e e' : Ending) (st st' : State) → SameRun q p j e e' st st' → told q st.store e ≡ told p st'.store e'
  same_told e e' st st' s = sym (told_ren j.one j.whole q j.one_is e st) ∙ ap (told_of j.whole) s.top ∙ told_ren j.other j.whole p j.other_is e' st'

  -- ---- the instructions

  flat_count : (r : Program) (fine : Compilable r) (n : ℕ) (e e' : Ending) (st st' : State) (count : ℕ) → top_iter (scoped r) r n (opened_run (scoped r) r) ≡ Ended e st → MachineRuns (flat_of r) r e' st' count → count ≡ instructions (scoped r) r n (opened_run (scoped r) r)
  flat_count r fine n e e' st st' count h m =
      let f = flat_follows r fine n e st h in
      sym m.counted ∙ one_count (flat_of r) r (opened_run (flat_of r) r) m.steps n e' e st' f.state m.leads f.leads ∙ f.counted

  pub same_count : (e e' d d' : Ending) (st st' u u' : State) (n n' : ℕ) → Runs q e st → Runs p e' st' → MachineRuns (flat_of q) q d u n → MachineRuns (flat_of p) p d' u' n' → n ≡ n'
  same_count e e' d d' st st' u u' n n' r r' m m' =
      let a = follows_the_rules q e st r in
      let b = follows_the_rules p e' st' r' in
      let ra = rooms q ok known j.one j.whole j.one_is j.one_alike in
      let rb = rooms p ok' known' j.other j.whole j.other_is j.other_alike in
      let x = run_same j.one q j.whole j.one_is j.one_alike ra a.0 ∙ ap (ren_top j.one) a.1 in
      let y = run_same j.other p j.whole j.other_is j.other_alike rb b.0 ∙ ap (ren_top j.other) b.1 in
      flat_count q ok a.0 e d st u n a.1 m
      ∙ sym (instructions_same j.one q j.whole j.one_is j.one_alike ra a.0)
      ∙ one_count (scoped j.whole) j.whole (opened_run (scoped j.whole) j.whole) a.0 b.0 _ _ _ _ x y
      ∙ instructions_same j.other p j.whole j.other_is j.other_alike rb b.0
      ∙ sym (flat_count p ok' b.0 e' d' st' u' n' b.1 m')
