-- The same as the code has it: a length by its own name, and what calls did as equations.
use Rattle.std.proofs.Common.{◌≡◌, ℕ, suc, ◌+◌, ◌-◌, ◌<◌, ◌≤◌, List, [], ◌∷◌, ◌++◌, length, get_or, take, drop, set, reverse, refl, ◌∙◌, arith}
use Rattle.std.proofs.lemmas.List.{length-reverse}
use Rattle.object_heap.specs.declared.value.Value.{Value}
use Rattle.object_heap.specs.declared.value.Value.TheVariants.{Nil}
use Rattle.st_contexts.specs.declared.contexts.Slot.{Slot}
use Rattle.st_contexts.specs.declared.activation.Activation.{Activation}
use Rattle.st_contexts.specs.declared.activation.Env.{Env}
use Rattle.st_contexts.specs.Moving.{next_in, moved_here, kept_changed}
use Rattle.st_contexts.specs.Stack.{with_kept, with_env, popped, value_pushed, value_popped, top_value, variable_of, with_variable}
use Rattle.st_contexts.specs.Flat.{Windows, Flat, stack_of}
use Rattle.st_contexts.proofs.Lists.{reverse_last}
use Rattle.st_contexts.proofs.Flatten.{counted, starts, flat_pop, view_pop, front_kept, ends_with, flat_at, windows_at, view_kept, view_moved, view_changed, view_env, room_left, windows_value_push, view_value_push, full_value_push, windows_value_pop, view_value_pop, top_value_pop, none_value_pop, none_top_value, view_variable, no_variable, flat_with_variable, view_with_variable, no_with_variable}

module _ (d w n r rv : ℕ) (ss : List Slot) (vs : List Value) (h : Flat d w n ss vs r rv) where
  pub code_flat_pop : (r' rv' : ℕ) (ss' : List Slot) (s : Slot) (vs' : List Value) → ss ≡ ss' ++ s ∷ [] → vs' ≡ take s.start vs → r ≤ r' → rv ≤ rv' → Flat d w n ss' vs' r' rv'
  code_flat_pop r' rv' ss' s vs' e ev lr lv =
      let h' : Flat d w n (ss' ++ s ∷ []) vs r rv = rw e at h in
      rw ev (flat_pop d w n r rv r' rv' ss' s vs h' lr lv)

  pub code_view_pop : (ss' : List Slot) (s : Slot) (vs' : List Value) → ss ≡ ss' ++ s ∷ [] → vs' ≡ take s.start vs → stack_of ss' vs' n d w ≡ popped (stack_of ss vs n d w)
  code_view_pop ss' s vs' e ev =
      let h' : Flat d w n (ss' ++ s ∷ []) vs r rv = rw e at h in
      let front : vs' ≡ take (length vs - s.count) vs = ev ∙ front_kept d w n r rv ss' s vs h' in
      rw (front, e) (view_pop d w n r rv ss' s vs h')

  module _ (l : ℕ) (el : l ≡ length ss) (some : 0 < l) (s : Slot) (is : s ≡ get_or ss (l - 1) s) where
    some' : 0 < length ss
    some' = omega (arith, el, some)

    is' : s ≡ get_or ss (length ss - 1) s
    is' = rw el at is

    pub code_flat_same : (t : Slot) → t.number ≡ s.number → t.start ≡ s.start → t.count ≡ s.count → Flat d w n (set ss (l - 1) t) vs r rv
    code_flat_same t same start count =
        let windows : Windows w (s ∷ drop 1 (reverse ss)) (reverse vs) = windows_at d w n r rv ss s vs h some' is' in
        rw el (flat_at d w n r rv rv ss s t vs vs h some' is' same (rw (count, start) windows) h.has_value_room)

    pub code_view_kept : (kept : Activation) → stack_of (set ss (l - 1) (record { number = s.number; env = s.env; kept = kept; start = s.start; count = s.count })) vs n d w ≡ with_kept kept (stack_of ss vs n d w)
    code_view_kept kept = rw el (view_kept d w n ss s vs kept some' is')

    pub code_view_moved : stack_of (set ss (l - 1) (record { number = s.number; env = s.env; kept = next_in s.kept; start = s.start; count = s.count })) vs n d w ≡ moved_here (stack_of ss vs n d w)
    code_view_moved = rw el (view_moved d w n ss s vs some' is')

    pub code_view_changed : (f : Activation → Activation) → stack_of (set ss (l - 1) (record { number = s.number; env = s.env; kept = f s.kept; start = s.start; count = s.count })) vs n d w ≡ kept_changed f (stack_of ss vs n d w)
    code_view_changed f = rw el (view_changed d w n ss s vs f some' is')

    pub code_view_env : (env : Env) → stack_of (set ss (l - 1) (record { number = s.number; env = env; kept = s.kept; start = s.start; count = s.count })) vs n d w ≡ with_env env (stack_of ss vs n d w)
    code_view_env env = rw el (view_env d w n ss s vs env some' is')

    pub code_room : s.count < w → length vs < rv
    code_room less = room_left d w n r rv ss s vs h some' is' less

    pub code_flat_value_push : (rv' : ℕ) (vs' : List Value) (v : Value) → s.count < w → vs' ≡ vs ++ v ∷ [] → rv ≤ rv' → Flat d w n (set ss (l - 1) (counted (s.count + 1) s)) vs' r rv'
    code_flat_value_push rv' vs' v less ev lv =
        rw (el, ev) (flat_at d w n r rv rv' ss s (counted (s.count + 1) s) vs (vs ++ v ∷ []) h some' is' refl (windows_value_push w s (drop 1 (reverse ss)) v vs (windows_at d w n r rv ss s vs h some' is') less) (omega (arith, h.has_value_room, lv)))

    pub code_view_value_push : (vs' : List Value) (v : Value) → s.count < w → vs' ≡ vs ++ v ∷ [] → stack_of (set ss (l - 1) (counted (s.count + 1) s)) vs' n d w ≡ value_pushed v (stack_of ss vs n d w)
    code_view_value_push vs' v less ev = rw (el, ev) (view_value_push d w n r rv ss s vs v h some' is' less)

    pub code_full_value_push : (v : Value) → w ≤ s.count → stack_of ss vs n d w ≡ value_pushed v (stack_of ss vs n d w)
    code_full_value_push v more = full_value_push d w n r rv ss s vs v h some' is' more

    pub code_flat_value_pop : (rv' : ℕ) (vs' : List Value) (v : Value) → 0 < s.count → vs ≡ vs' ++ v ∷ [] → rv ≤ rv' → Flat d w n (set ss (l - 1) (counted (s.count - 1) s)) vs' r rv'
    code_flat_value_pop rv' vs' v more ev lv =
        let e : s.count ≡ suc (s.count - 1) = omega (arith, more) in
        let whole : Windows w (s ∷ drop 1 (reverse ss)) (reverse vs) = windows_at d w n r rv ss s vs h some' is' in
        let windows : Windows w (s ∷ drop 1 (reverse ss)) (reverse (vs' ++ v ∷ [])) = rw ev at whole in
        rw el (flat_at d w n r rv rv' ss s (counted (s.count - 1) s) vs vs' h some' is' refl (windows_value_pop w (s.count - 1) s (drop 1 (reverse ss)) v vs' windows e) (omega (arith, h.has_value_room, lv)))

    pub code_view_value_pop : (vs' : List Value) (v : Value) → 0 < s.count → vs ≡ vs' ++ v ∷ [] → stack_of (set ss (l - 1) (counted (s.count - 1) s)) vs' n d w ≡ value_popped (stack_of ss vs n d w)
    code_view_value_pop vs' v more ev =
        let e : s.count ≡ suc (s.count - 1) = omega (arith, more) in
        rw (el, ev) (view_value_pop d w n (s.count - 1) ss s vs' v some' is' e)

    pub code_top_value_pop : (vs' : List Value) (v : Value) → 0 < s.count → vs ≡ vs' ++ v ∷ [] → v ≡ top_value (stack_of ss vs n d w)
    code_top_value_pop vs' v more ev =
        let e : s.count ≡ suc (s.count - 1) = omega (arith, more) in
        rw ev (top_value_pop d w n (s.count - 1) ss s vs' v some' is' e)

    pub code_top_value : (lv : ℕ) → 0 < s.count → lv ≡ length vs → (lv - 1 < length vs) × (get_or vs (lv - 1) Nil ≡ top_value (stack_of ss vs n d w))
    code_top_value lv more elv =
        let e : s.count ≡ suc (s.count - 1) = omega (arith, more) in
        let windows : Windows w (s ∷ drop 1 (reverse ss)) (reverse vs) = windows_at d w n r rv ss s vs h some' is' in
        let filled : 0 < length vs = omega (arith, more, windows.1, length-reverse vs) in
        (omega (arith, filled, elv), rw (elv, ends_with ss s some' is', reverse_last vs Nil filled, e) refl)

    pub code_none_value_pop : s.count ≤ 0 → stack_of ss vs n d w ≡ value_popped (stack_of ss vs n d w)
    code_none_value_pop less = none_value_pop d w n ss s vs some' is' (omega (arith, less))

    pub code_none_top_value : s.count ≤ 0 → Nil ≡ top_value (stack_of ss vs n d w)
    code_none_top_value less = none_top_value d w n ss s vs some' is' (omega (arith, less))

    pub code_view_variable : (k : ℕ) → get_or vs (s.start + k) Nil ≡ variable_of k (stack_of ss vs n d w)
    code_view_variable k = view_variable d w n r rv k ss s vs h some' is'

    pub code_variable_in : (k : ℕ) → k < s.count → s.start + k < length vs
    code_variable_in k less =
        let windows : Windows w (s ∷ drop 1 (reverse ss)) (reverse vs) = windows_at d w n r rv ss s vs h some' is' in
        omega (arith, starts w s (drop 1 (reverse ss)) vs windows, windows.1, less, length-reverse vs)

    pub code_no_variable : (k : ℕ) → s.count ≤ k → Nil ≡ variable_of k (stack_of ss vs n d w)
    code_no_variable k more = no_variable d w n r rv k ss s vs h some' is' more

    pub code_flat_with_variable : (k : ℕ) (v : Value) → k < s.count → Flat d w n ss (set vs (s.start + k) v) r rv
    code_flat_with_variable k v less = flat_with_variable d w n r rv k ss s vs v h some' is' less

    pub code_view_with_variable : (k : ℕ) (v : Value) → k < s.count → stack_of ss (set vs (s.start + k) v) n d w ≡ with_variable k v (stack_of ss vs n d w)
    code_view_with_variable k v less = view_with_variable d w n r rv k ss s vs v h some' is' less

    pub code_no_with_variable : (k : ℕ) (v : Value) → s.count ≤ k → stack_of ss vs n d w ≡ with_variable k v (stack_of ss vs n d w)
    code_no_with_variable k v more = no_with_variable d w n r rv k ss s vs v h some' is' more
