-- What a change at the end of the flat stack does to the activations.
use Rattle.std.proofs.Common.{◌≡◌, ℕ, suc, ◌+◌, ◌-◌, ◌*◌, ◌<◌, ◌≤◌, List, [], ◌∷◌, ◌++◌, length, get_or, take, drop, set, reverse, nat_lt, nat_le, true, false, Ok, Err, refl, ap, sym, ◌∙◌, arith, length-append, add-one}
use Rattle.std.proofs.lemmas.List.{reverse-reverse, length-reverse, length-drop, length-take-le, length-set, get_or-drop, get_or_past, set_past, drop-set-add, drop-set-lt}
use Rattle.std.proofs.Math.Nat.{mul-le-mul_left, mul-suc, mul_comm}
use Rattle.std.proofs.lemmas.Bool.{lt-ltb, le-ltb, lt-leb, le-leb}
use Rattle.object_heap.specs.declared.value.Value.{Value}
use Rattle.object_heap.specs.declared.value.Value.TheVariants.{Nil}
use Rattle.st_contexts.specs.declared.contexts.Slot.{Slot}
use Rattle.st_contexts.specs.declared.activation.Activation.{Activation}
use Rattle.st_contexts.specs.declared.activation.Env.{Env}
use Rattle.st_contexts.specs.Moving.{next_in, moved_here, kept_changed}
use Rattle.st_contexts.specs.Stack.{push_answer, with_kept, with_env, pushed, popped, value_pushed, value_popped, top_value, variable_of, with_variable, operand_at, with_operand}
use Rattle.st_contexts.specs.Flat.{standings, Windows, Falls, Flat, stack_of}
use Rattle.st_contexts.proofs.Lists.{reverse_push, reverse_take, reverse_last, reverse_set, reverse_set_last, reverse_front}

-- windows

abbrev pub counted : ℕ → Slot → Slot
counted n s = record { number = s.number; env = s.env; kept = s.kept; start = s.start; count = n }

pub windows_hold : (w : ℕ) (ss : List Slot) (vs : List Value) → Windows w ss vs → length vs ≤ w * length ss
windows_hold w [] vs h = rw h (omega arith)
windows_hold w (s ∷ ss) vs h =
    let rest : length (drop s.count vs) ≤ w * length ss = windows_hold w ss (drop s.count vs) h.3 in
    let more : w * suc (length ss) ≡ w * length ss + w = mul-suc w (length ss) in
    omega (arith, rest, more, h.0, h.1, length-drop s.count vs)

pub starts : (w : ℕ) (s : Slot) (ss : List Slot) (vs : List Value) → Windows w (s ∷ ss) (reverse vs) → s.start ≡ length vs - s.count
starts w s ss vs h = omega (arith, h.2, length-drop s.count (reverse vs), length-reverse vs)

pub length_standings : (ss : List Slot) (vs : List Value) → length (standings ss vs) ≡ length ss
length_standings [] vs = refl
length_standings (s ∷ ss) vs = ap suc (length_standings ss (drop s.count vs))

pub falls_more : (m n : ℕ) (ss : List Slot) → Falls m ss → m ≤ n → Falls n ss
falls_more m n [] h l = h
falls_more m n (s ∷ ss) h l = (omega (arith, h.0, l), h.1)

-- a new activation

pub view_push : (kept : Activation) (env : Env) (n d w : ℕ) (ss : List Slot) (vs : List Value) (start : ℕ) → length ss < d → stack_of (ss ++ record { number = n; env = env; kept = kept; start = start; count = 0 } ∷ []) vs (n + 1) d w ≡ pushed kept env (stack_of ss vs n d w)
view_push kept env n d w ss vs start h =
    let s : Slot = record { number = n; env = env; kept = kept; start = start; count = 0 } in
    let size : length (standings (reverse ss) (reverse vs)) ≡ length ss = rw (length_standings (reverse ss) (reverse vs)) (length-reverse ss) in
    let yes : nat_le (length ss + 1) d ≡ true = le-leb (length ss + 1) d (omega arith) in
    rw (reverse_push ss s, size, yes) refl

pub answer_push : (n d w : ℕ) (ss : List Slot) (vs : List Value) → length ss < d → push_answer (stack_of ss vs n d w) ≡ Ok n
answer_push n d w ss vs h =
    let size : length (standings (reverse ss) (reverse vs)) ≡ length ss = rw (length_standings (reverse ss) (reverse vs)) (length-reverse ss) in
    let yes : nat_le (length ss + 1) d ≡ true = le-leb (length ss + 1) d (omega arith) in
    rw (size, yes) refl

pub full_push : (kept : Activation) (env : Env) (n d w : ℕ) (ss : List Slot) (vs : List Value) → d ≤ length ss → pushed kept env (stack_of ss vs n d w) ≡ stack_of ss vs n d w
full_push kept env n d w ss vs h =
    let size : length (standings (reverse ss) (reverse vs)) ≡ length ss = rw (length_standings (reverse ss) (reverse vs)) (length-reverse ss) in
    let no' : nat_le (length ss + 1) d ≡ false = lt-leb (length ss + 1) d (omega arith) in
    rw (size, no') refl

pub full_answer : (n d w : ℕ) (ss : List Slot) (vs : List Value) → d ≤ length ss → push_answer (stack_of ss vs n d w) ≡ Err (record { depth = d })
full_answer n d w ss vs h =
    let size : length (standings (reverse ss) (reverse vs)) ≡ length ss = rw (length_standings (reverse ss) (reverse vs)) (length-reverse ss) in
    let no' : nat_le (length ss + 1) d ≡ false = lt-leb (length ss + 1) d (omega arith) in
    rw (size, no') refl

pub flat_push : (d w n r rv r' : ℕ) (ss : List Slot) (vs : List Value) (s : Slot) → Flat d w n ss vs r rv → length ss < d → s.number ≡ n → s.start ≡ length vs → s.count ≡ 0 → r ≤ r' → Flat d w (n + 1) (ss ++ s ∷ []) vs r' rv
flat_push d w n r rv r' ss vs s h l number start count lr =
    record {
      windows = rw (reverse_push ss s, count) (omega arith, omega arith, rw (length-reverse vs) start, h.windows);
      falls = rw (reverse_push ss s) (omega (arith, number), rw number h.falls);
      fits = omega (arith, l, length-append ss (s ∷ []));
      has_room = omega (arith, h.has_room, lr);
      has_value_room = h.has_value_room;
    }

-- the innermost one gone

pub flat_pop : (d w n r rv r' rv' : ℕ) (ss : List Slot) (s : Slot) (vs : List Value) → Flat d w n (ss ++ s ∷ []) vs r rv → r ≤ r' → rv ≤ rv' → Flat d w n ss (take s.start vs) r' rv'
flat_pop d w n r rv r' rv' ss s vs h lr lv =
    let windows : Windows w (s ∷ reverse ss) (reverse vs) = rw reverse_push at h.windows in
    let falls : Falls n (s ∷ reverse ss) = rw reverse_push at h.falls in
    let within : s.count ≤ length vs = omega (arith, windows.1, length-reverse vs) in
    record {
      windows = rw (starts w s (reverse ss) vs windows, reverse_take s.count vs within) windows.3;
      falls = falls_more s.number n (reverse ss) falls.1 (omega (arith, falls.0));
      fits = omega (arith, h.fits, length-append ss (s ∷ []));
      has_room = omega (arith, h.has_room, lr);
      has_value_room = omega (arith, h.has_value_room, lv);
    }

pub view_pop : (d w n r rv : ℕ) (ss : List Slot) (s : Slot) (vs : List Value) → Flat d w n (ss ++ s ∷ []) vs r rv → stack_of ss (take (length vs - s.count) vs) n d w ≡ popped (stack_of (ss ++ s ∷ []) vs n d w)
view_pop d w n r rv ss s vs h =
    let windows : Windows w (s ∷ reverse ss) (reverse vs) = rw reverse_push at h.windows in
    let within : s.count ≤ length vs = omega (arith, windows.1, length-reverse vs) in
    rw (reverse_take s.count vs within, reverse_push ss s) refl

pub front_kept : (d w n r rv : ℕ) (ss : List Slot) (s : Slot) (vs : List Value) → Flat d w n (ss ++ s ∷ []) vs r rv → take s.start vs ≡ take (length vs - s.count) vs
front_kept d w n r rv ss s vs h =
    let windows : Windows w (s ∷ reverse ss) (reverse vs) = rw reverse_push at h.windows in
    ap (λ k. take k vs) (starts w s (reverse ss) vs windows)

-- the innermost one changed

pub ends_with : (ss : List Slot) (s : Slot) → 0 < length ss → s ≡ get_or ss (length ss - 1) s → reverse ss ≡ s ∷ drop 1 (reverse ss)
ends_with ss s h is =
    let last : reverse ss ≡ get_or ss (length ss - 1) s ∷ drop 1 (reverse ss) = reverse_last ss s h in
    rw (← is) at last

pub flat_at : (d w n r rv rv' : ℕ) (ss : List Slot) (s t : Slot) (vs vs' : List Value) → Flat d w n ss vs r rv → 0 < length ss → s ≡ get_or ss (length ss - 1) s → t.number ≡ s.number → Windows w (t ∷ drop 1 (reverse ss)) (reverse vs') → d * w ≤ rv' → Flat d w n (set ss (length ss - 1) t) vs' r rv'
flat_at d w n r rv rv' ss s t vs vs' h some is same windows room =
    let falls : Falls n (s ∷ drop 1 (reverse ss)) = rw (ends_with ss s some is) at h.falls in
    record {
      windows = rw (reverse_set_last ss t some) windows;
      falls = rw (reverse_set_last ss t some, same) falls;
      fits = omega (arith, h.fits, length-set ss (length ss - 1) t);
      has_room = h.has_room;
      has_value_room = room;
    }

pub windows_at : (d w n r rv : ℕ) (ss : List Slot) (s : Slot) (vs : List Value) → Flat d w n ss vs r rv → 0 < length ss → s ≡ get_or ss (length ss - 1) s → Windows w (s ∷ drop 1 (reverse ss)) (reverse vs)
windows_at d w n r rv ss s vs h some is = rw (ends_with ss s some is) at h.windows

pub view_kept : (d w n : ℕ) (ss : List Slot) (s : Slot) (vs : List Value) (kept : Activation) → 0 < length ss → s ≡ get_or ss (length ss - 1) s → stack_of (set ss (length ss - 1) (record { number = s.number; env = s.env; kept = kept; start = s.start; count = s.count })) vs n d w ≡ with_kept kept (stack_of ss vs n d w)
view_kept d w n ss s vs kept some is =
    rw (reverse_set_last ss (record { number = s.number; env = s.env; kept = kept; start = s.start; count = s.count }) some, ends_with ss s some is) refl

pub view_moved : (d w n : ℕ) (ss : List Slot) (s : Slot) (vs : List Value) → 0 < length ss → s ≡ get_or ss (length ss - 1) s → stack_of (set ss (length ss - 1) (record { number = s.number; env = s.env; kept = next_in s.kept; start = s.start; count = s.count })) vs n d w ≡ moved_here (stack_of ss vs n d w)
view_moved d w n ss s vs some is =
    rw (reverse_set_last ss (record { number = s.number; env = s.env; kept = next_in s.kept; start = s.start; count = s.count }) some, ends_with ss s some is) refl

pub view_changed : (d w n : ℕ) (ss : List Slot) (s : Slot) (vs : List Value) (f : Activation → Activation) → 0 < length ss → s ≡ get_or ss (length ss - 1) s → stack_of (set ss (length ss - 1) (record { number = s.number; env = s.env; kept = f s.kept; start = s.start; count = s.count })) vs n d w ≡ kept_changed f (stack_of ss vs n d w)
view_changed d w n ss s vs f some is =
    rw (reverse_set_last ss (record { number = s.number; env = s.env; kept = f s.kept; start = s.start; count = s.count }) some, ends_with ss s some is) refl

pub view_env : (d w n : ℕ) (ss : List Slot) (s : Slot) (vs : List Value) (env : Env) → 0 < length ss → s ≡ get_or ss (length ss - 1) s → stack_of (set ss (length ss - 1) (record { number = s.number; env = env; kept = s.kept; start = s.start; count = s.count })) vs n d w ≡ with_env env (stack_of ss vs n d w)
view_env d w n ss s vs env some is =
    rw (reverse_set_last ss (record { number = s.number; env = env; kept = s.kept; start = s.start; count = s.count }) some, ends_with ss s some is) refl

-- an operand more

pub room_left : (d w n r rv : ℕ) (ss : List Slot) (s : Slot) (vs : List Value) → Flat d w n ss vs r rv → 0 < length ss → s ≡ get_or ss (length ss - 1) s → s.count < w → length vs < rv
room_left d w n r rv ss s vs h some is l =
    let windows : Windows w (s ∷ drop 1 (reverse ss)) (reverse vs) = windows_at d w n r rv ss s vs h some is in
    let rest : length (drop s.count (reverse vs)) ≤ w * length (drop 1 (reverse ss)) = windows_hold w (drop 1 (reverse ss)) (drop s.count (reverse vs)) windows.3 in
    let more : w * suc (length (drop 1 (reverse ss))) ≡ w * length (drop 1 (reverse ss)) + w = mul-suc w (length (drop 1 (reverse ss))) in
    let few : suc (length (drop 1 (reverse ss))) ≤ d = omega (arith, some, h.fits, length-drop 1 (reverse ss), length-reverse ss) in
    let most : w * suc (length (drop 1 (reverse ss))) ≤ w * d = mul-le-mul_left w few in
    let turned : w * d ≡ d * w = mul_comm w d in
    omega (arith, rest, more, most, turned, l, h.has_value_room, windows.1, length-drop s.count (reverse vs), length-reverse vs)

pub windows_value_push : (w : ℕ) (s : Slot) (rs : List Slot) (v : Value) (vs : List Value) → Windows w (s ∷ rs) (reverse vs) → s.count < w → Windows w (counted (s.count + 1) s ∷ rs) (reverse (vs ++ v ∷ []))
windows_value_push w s rs v vs h l = rw (reverse_push vs v, add-one) (omega (arith, l), omega (arith, h.1), h.2, h.3)

pub view_value_push : (d w n r rv : ℕ) (ss : List Slot) (s : Slot) (vs : List Value) (v : Value) → Flat d w n ss vs r rv → 0 < length ss → s ≡ get_or ss (length ss - 1) s → s.count < w → stack_of (set ss (length ss - 1) (counted (s.count + 1) s)) (vs ++ v ∷ []) n d w ≡ value_pushed v (stack_of ss vs n d w)
view_value_push d w n r rv ss s vs v h some is l =
    let windows : Windows w (s ∷ drop 1 (reverse ss)) (reverse vs) = windows_at d w n r rv ss s vs h some is in
    let size : length (take s.count (reverse vs)) ≡ s.count = length-take-le s.count (reverse vs) windows.1 in
    let yes : nat_lt s.count w ≡ true = lt-ltb s.count w l in
    rw (reverse_set_last ss (counted (s.count + 1) s) some, ends_with ss s some is, reverse_push vs v, size, yes, add-one) refl

pub full_value_push : (d w n r rv : ℕ) (ss : List Slot) (s : Slot) (vs : List Value) (v : Value) → Flat d w n ss vs r rv → 0 < length ss → s ≡ get_or ss (length ss - 1) s → w ≤ s.count → stack_of ss vs n d w ≡ value_pushed v (stack_of ss vs n d w)
full_value_push d w n r rv ss s vs v h some is l =
    let windows : Windows w (s ∷ drop 1 (reverse ss)) (reverse vs) = windows_at d w n r rv ss s vs h some is in
    let size : length (take s.count (reverse vs)) ≡ s.count = length-take-le s.count (reverse vs) windows.1 in
    let no' : nat_lt s.count w ≡ false = le-ltb s.count w l in
    rw (ends_with ss s some is, size, no') refl

-- an operand less

pub windows_value_pop : (w c : ℕ) (s : Slot) (rs : List Slot) (v : Value) (vs : List Value) → Windows w (s ∷ rs) (reverse (vs ++ v ∷ [])) → s.count ≡ suc c → Windows w (counted c s ∷ rs) (reverse vs)
windows_value_pop w c s rs v vs h e =
    let k : (suc c ≤ w) × (suc c ≤ length (v ∷ reverse vs)) × (s.start ≡ length (drop (suc c) (v ∷ reverse vs))) × Windows w rs (drop (suc c) (v ∷ reverse vs)) = rw (reverse_push vs v, e) at h in
    (omega (arith, k.0), omega (arith, k.1), k.2, k.3)

pub view_value_pop : (d w n c : ℕ) (ss : List Slot) (s : Slot) (vs : List Value) (v : Value) → 0 < length ss → s ≡ get_or ss (length ss - 1) s → s.count ≡ suc c → stack_of (set ss (length ss - 1) (counted c s)) vs n d w ≡ value_popped (stack_of (ss) (vs ++ v ∷ []) n d w)
view_value_pop d w n c ss s vs v some is e =
    rw (reverse_set_last ss (counted c s) some, ends_with ss s some is, reverse_push vs v, e) refl

pub top_value_pop : (d w n c : ℕ) (ss : List Slot) (s : Slot) (vs : List Value) (v : Value) → 0 < length ss → s ≡ get_or ss (length ss - 1) s → s.count ≡ suc c → v ≡ top_value (stack_of ss (vs ++ v ∷ []) n d w)
top_value_pop d w n c ss s vs v some is e = rw (ends_with ss s some is, reverse_push vs v, e) refl

pub none_value_pop : (d w n : ℕ) (ss : List Slot) (s : Slot) (vs : List Value) → 0 < length ss → s ≡ get_or ss (length ss - 1) s → s.count ≡ 0 → stack_of ss vs n d w ≡ value_popped (stack_of ss vs n d w)
none_value_pop d w n ss s vs some is e = rw (ends_with ss s some is, e) refl

pub none_top_value : (d w n : ℕ) (ss : List Slot) (s : Slot) (vs : List Value) → 0 < length ss → s ≡ get_or ss (length ss - 1) s → s.count ≡ 0 → Nil ≡ top_value (stack_of ss vs n d w)
none_top_value d w n ss s vs some is e = rw (ends_with ss s some is, e) refl

-- operands by their place

-- the operands of the innermost activation, the first that was pushed first
pub front_operands : (w : ℕ) (s : Slot) (rs : List Slot) (vs : List Value) → Windows w (s ∷ rs) (reverse vs) → reverse (take s.count (reverse vs)) ≡ drop s.start vs
front_operands w s rs vs h =
    let within : s.count ≤ length vs = omega (arith, h.1, length-reverse vs) in
    rw (starts w s rs vs h) (reverse_front s.count vs within)

pub operand_in_window : (w k : ℕ) (s : Slot) (rs : List Slot) (vs : List Value) → Windows w (s ∷ rs) (reverse vs) → get_or vs (s.start + k) Nil ≡ operand_at k (take s.count (reverse vs))
operand_in_window w k s rs vs h = rw (front_operands w s rs vs h, get_or-drop s.start vs k Nil) refl

pub no_operand_in_window : (w k : ℕ) (s : Slot) (rs : List Slot) (vs : List Value) → Windows w (s ∷ rs) (reverse vs) → s.count ≤ k → Nil ≡ operand_at k (take s.count (reverse vs))
no_operand_in_window w k s rs vs h l =
    let size : length (take s.count (reverse vs)) ≡ s.count = length-take-le s.count (reverse vs) h.1 in
    let past : length (reverse (take s.count (reverse vs))) ≤ k = omega (arith, l, size, length-reverse (take s.count (reverse vs))) in
    sym (get_or_past (reverse (take s.count (reverse vs))) k Nil past)

pub set_in_window : (w k : ℕ) (v : Value) (s : Slot) (rs : List Slot) (vs : List Value) → Windows w (s ∷ rs) (reverse vs) → k < s.count → with_operand k v (take s.count (reverse vs)) ≡ take s.count (reverse (set vs (s.start + k) v))
set_in_window w k v s rs vs h l =
    let vs' : List Value = set vs (s.start + k) v in
    let within : s.count ≤ length vs = omega (arith, h.1, length-reverse vs) in
    let same : length vs' ≡ length vs = length-set vs (s.start + k) v in
    let front : reverse (take s.count (reverse vs')) ≡ drop (length vs' - s.count) vs' = reverse_front s.count vs' (omega (arith, within, same)) in
    let at : length vs' - s.count ≡ s.start = omega (arith, same, starts w s rs vs h) in
    let turned : reverse (take s.count (reverse vs')) ≡ set (drop s.start vs) k v = front ∙ rw at (drop-set-add s.start vs k v) in
    let twice : reverse (reverse (take s.count (reverse vs'))) ≡ take s.count (reverse vs') = reverse-reverse (take s.count (reverse vs')) in
    rw (front_operands w s rs vs h, ← turned) twice

pub set_no_operand : (w k : ℕ) (v : Value) (s : Slot) (rs : List Slot) (vs : List Value) → Windows w (s ∷ rs) (reverse vs) → s.count ≤ k → with_operand k v (take s.count (reverse vs)) ≡ take s.count (reverse vs)
set_no_operand w k v s rs vs h l =
    let size : length (take s.count (reverse vs)) ≡ s.count = length-take-le s.count (reverse vs) h.1 in
    let past : length (reverse (take s.count (reverse vs))) ≤ k = omega (arith, l, size, length-reverse (take s.count (reverse vs))) in
    rw (set_past (reverse (take s.count (reverse vs))) k v past) (reverse-reverse (take s.count (reverse vs)))

-- below the window a write changes nothing
pub below_window : (w k : ℕ) (v : Value) (s : Slot) (rs : List Slot) (vs : List Value) → Windows w (s ∷ rs) (reverse vs) → k < s.count → drop s.count (reverse (set vs (s.start + k) v)) ≡ drop s.count (reverse vs)
below_window w k v s rs vs h l =
    let place : length vs - 1 - (s.start + k) < s.count = omega (arith, starts w s rs vs h, h.1, length-reverse vs, l) in
    rw (reverse_set vs (s.start + k) v (omega (arith, starts w s rs vs h, h.1, length-reverse vs, l))) (drop-set-lt s.count (reverse vs) (length vs - 1 - (s.start + k)) v place)

pub view_variable : (d w n r rv k : ℕ) (ss : List Slot) (s : Slot) (vs : List Value) → Flat d w n ss vs r rv → 0 < length ss → s ≡ get_or ss (length ss - 1) s → get_or vs (s.start + k) Nil ≡ variable_of k (stack_of ss vs n d w)
view_variable d w n r rv k ss s vs h some is =
    let windows : Windows w (s ∷ drop 1 (reverse ss)) (reverse vs) = windows_at d w n r rv ss s vs h some is in
    rw (ends_with ss s some is) (operand_in_window w k s (drop 1 (reverse ss)) vs windows)

pub no_variable : (d w n r rv k : ℕ) (ss : List Slot) (s : Slot) (vs : List Value) → Flat d w n ss vs r rv → 0 < length ss → s ≡ get_or ss (length ss - 1) s → s.count ≤ k → Nil ≡ variable_of k (stack_of ss vs n d w)
no_variable d w n r rv k ss s vs h some is l =
    let windows : Windows w (s ∷ drop 1 (reverse ss)) (reverse vs) = windows_at d w n r rv ss s vs h some is in
    rw (ends_with ss s some is) (no_operand_in_window w k s (drop 1 (reverse ss)) vs windows l)

pub flat_with_variable : (d w n r rv k : ℕ) (ss : List Slot) (s : Slot) (vs : List Value) (v : Value) → Flat d w n ss vs r rv → 0 < length ss → s ≡ get_or ss (length ss - 1) s → k < s.count → Flat d w n ss (set vs (s.start + k) v) r rv
flat_with_variable d w n r rv k ss s vs v h some is l =
    let windows : Windows w (s ∷ drop 1 (reverse ss)) (reverse vs) = windows_at d w n r rv ss s vs h some is in
    let vs' : List Value = set vs (s.start + k) v in
    let size : length (reverse vs') ≡ length (reverse vs) = omega (arith, length-reverse vs', length-reverse vs, length-set vs (s.start + k) v) in
    let new : Windows w (s ∷ drop 1 (reverse ss)) (reverse vs') = rw (below_window w k v s (drop 1 (reverse ss)) vs windows l) (windows.0, omega (arith, windows.1, size), windows.2, windows.3) in
    record {
      windows = rw (ends_with ss s some is) new;
      falls = h.falls;
      fits = h.fits;
      has_room = h.has_room;
      has_value_room = h.has_value_room;
    }

pub view_with_variable : (d w n r rv k : ℕ) (ss : List Slot) (s : Slot) (vs : List Value) (v : Value) → Flat d w n ss vs r rv → 0 < length ss → s ≡ get_or ss (length ss - 1) s → k < s.count → stack_of ss (set vs (s.start + k) v) n d w ≡ with_variable k v (stack_of ss vs n d w)
view_with_variable d w n r rv k ss s vs v h some is l =
    let windows : Windows w (s ∷ drop 1 (reverse ss)) (reverse vs) = windows_at d w n r rv ss s vs h some is in
    let inside : with_operand k v (take s.count (reverse vs)) ≡ take s.count (reverse (set vs (s.start + k) v)) = set_in_window w k v s (drop 1 (reverse ss)) vs windows l in
    let below : drop s.count (reverse (set vs (s.start + k) v)) ≡ drop s.count (reverse vs) = below_window w k v s (drop 1 (reverse ss)) vs windows l in
    rw (ends_with ss s some is, inside, below) refl

pub no_with_variable : (d w n r rv k : ℕ) (ss : List Slot) (s : Slot) (vs : List Value) (v : Value) → Flat d w n ss vs r rv → 0 < length ss → s ≡ get_or ss (length ss - 1) s → s.count ≤ k → stack_of ss vs n d w ≡ with_variable k v (stack_of ss vs n d w)
no_with_variable d w n r rv k ss s vs v h some is l =
    let windows : Windows w (s ∷ drop 1 (reverse ss)) (reverse vs) = windows_at d w n r rv ss s vs h some is in
    rw (ends_with ss s some is, set_no_operand w k v s (drop 1 (reverse ss)) vs windows l) refl
