-- A new String whose pieces are written one behind the other.
use Rattle.std.proofs.Common.{◌≡◌, ℕ, zero, suc, ◌+◌, ◌-◌, ◌<◌, ◌≤◌, Ok, Err, List, [], ◌∷◌, ◌++◌, length, get_or, take, replicate, refl, ap, sym, ◌∙◌, arith}
use borrow.Author.Tests.{le-leb}
use Rattle.std.proofs.lemmas.List.{append_assoc, append-nil, length-append, take_all, take_more}
use Rattle.object_heap.specs.declared.value.Value.{Value}
use Rattle.object_heap.specs.Store.{Store, Object, object_added, blank_object}
use Rattle.object_heap.specs.Charges.{Memory, charged, if_out, object_charge}
use Rattle.st_code.specs.BuiltIns.{string_class}
use Rattle.st_code.specs.Program.{Program}
use Rattle.st_code.specs.Texts.{Text, quotes_doubled}
use Rattle.st_collections.specs.Actions.{Makes, makes_string, makes_bytes, new_object, next_object, with_new}
use Rattle.object_heap.specs.declared.heap.HeapStop.{HeapStop}
use Rattle.st_collections.specs.Answers.{allot_answer, answer_of, memory_of, stop_answer, unless_out}
use Rattle.st_collections.proofs.Objects.{paid_of, stop_memory, stop_answer-is}
use Rattle.st_collections.specs.declared.answer.Built.{Built}
use Rattle.st_collections.proofs.Steady.{object_steady}
use Rattle.st_messages.specs.declared.pieces.Piece.{Piece}
use Rattle.st_messages.specs.Pieces.{AreKnown, IsElsewhere, IsKnown, piece_text, pieces_text}
use Rattle.st_messages.proofs.Puts.{put, put_last}

-- ---- pieces

pub text_front : (p : Program) (s : Store) (x : Piece) (xs : List Piece) → pieces_text p s (x ∷ xs) ≡ piece_text p s x ++ pieces_text p s xs
text_front p s x [] = sym (append-nil (piece_text p s x))
text_front p s x (y ∷ xs) = refl

pub text_behind : (p : Program) (s : Store) (xs : List Piece) (x : Piece) → pieces_text p s (xs ++ x ∷ []) ≡ pieces_text p s xs ++ piece_text p s x
text_behind p s [] x = refl
text_behind p s (y ∷ xs) x =
    text_front p s y (xs ++ x ∷ [])
    ∙ (ap (λ (t : Text). piece_text p s y ++ t) (text_behind p s xs x)
    ∙ (sym (append_assoc (piece_text p s y) (pieces_text p s xs) (piece_text p s x))
    ∙ ap (λ (t : Text). t ++ piece_text p s x) (sym (text_front p s y xs))))

pub text_more : (p : Program) (s : Store) (xs : List Piece) (i : ℕ) (d : Piece) → i < length xs → pieces_text p s (take (i + 1) xs) ≡ pieces_text p s (take i xs) ++ piece_text p s (get_or xs i d)
text_more p s xs i d h = rw (take_more xs i d h) (text_behind p s (take i xs) (get_or xs i d))

pub length-text_more : (p : Program) (s : Store) (xs : List Piece) (i : ℕ) (d : Piece) → i < length xs → length (pieces_text p s (take (i + 1) xs)) ≡ length (pieces_text p s (take i xs)) + length (piece_text p s (get_or xs i d))
length-text_more p s xs i d h = ap (λ (t : Text). length t) (text_more p s xs i d h) ∙ length-append (pieces_text p s (take i xs)) (piece_text p s (get_or xs i d))

-- so many pieces are no longer than all of them
pub length-text_front : (p : Program) (s : Store) (x : Piece) (xs : List Piece) → length (pieces_text p s (x ∷ xs)) ≡ length (piece_text p s x) + length (pieces_text p s xs)
length-text_front p s x xs = ap (λ (t : Text). length t) (text_front p s x xs) ∙ length-append (piece_text p s x) (pieces_text p s xs)

pub shorter : (p : Program) (s : Store) (xs : List Piece) (i : ℕ) → length (pieces_text p s (take i xs)) ≤ length (pieces_text p s xs)
shorter p s xs zero = omega arith
shorter p s [] (suc i) = omega arith
shorter p s (x ∷ xs) (suc i) = omega (arith, length-text_front p s x (take i xs), length-text_front p s x xs, shorter p s xs i)

pub known_at : (s : Store) (xs : List Piece) (i : ℕ) (d : Piece) → i < length xs → AreKnown s xs → IsKnown s (get_or xs i d)
known_at s [] i d h k = absurd (omega arith)
known_at s (x ∷ xs) zero d h k = k.0
known_at s (x ∷ xs) (suc i) d h k = known_at s xs i d (omega arith) k.1

pub piece_steady : (p : Program) (x : Piece) (o : Object) (s : Store) → IsKnown s x → piece_text p (object_added o s) x ≡ piece_text p s x
piece_steady p Piece.Nothing o s h = refl
piece_steady p (Piece.Byte b) o s h = refl
piece_steady p (Piece.Words w) o s h = refl
piece_steady p (Piece.Decimal n) o s h = refl
piece_steady p (Piece.ClassName c) o s h = refl
piece_steady p (Piece.Name n) o s h = refl
piece_steady p (Piece.DoubledName n) o s h = refl
piece_steady p (Piece.Bytes n) o s h = ap (λ (x : Object). x.bytes) (object_steady n o s h)
piece_steady p (Piece.DoubledBytes n) o s h = ap (λ (x : Object). quotes_doubled x.bytes) (object_steady n o s h)

pub elsewhere : (x : Piece) (s : Store) → IsKnown s x → IsElsewhere (length s.objects) x
elsewhere Piece.Nothing s h = tt
elsewhere (Piece.Byte b) s h = tt
elsewhere (Piece.Words w) s h = tt
elsewhere (Piece.Decimal n) s h = tt
elsewhere (Piece.ClassName c) s h = tt
elsewhere (Piece.Name n) s h = tt
elsewhere (Piece.DoubledName n) s h = tt
elsewhere (Piece.Bytes n) s h = λ e. absurd (omega (arith, h, e))
elsewhere (Piece.DoubledBytes n) s h = λ e. absurd (omega (arith, h, e))

-- ---- the String so far

-- the memory where these bytes were written and so many are still 0
abbrev pub text_so_far : Memory → (charge : ℕ) → Text → (left : ℕ) → Memory
text_so_far m charge done left = record {
  store = object_added (new_object string_class [] (done ++ replicate left 0)) m.store;
  used = m.used + charge;
  limit = m.limit;
}

pub so_far_begins : (m m' : Memory) (charge count : ℕ) → m.used + charge ≤ m.limit → m' ≡ charged charge (object_added (blank_object string_class 0 count) m.store) m → m' ≡ text_so_far m charge [] count
so_far_begins m m' charge count h e = rw (e, le-leb (m.used + charge) m.limit h) refl

pub so_far_more : (m m' : Memory) (charge number at : ℕ) (done t : Text) (left : ℕ) → number ≡ length m.store.objects → at ≡ length done → m' ≡ put number at t (text_so_far m charge done (length t + left)) → m' ≡ text_so_far m charge (done ++ t) left
so_far_more m m' charge number at done t left e e' h =
    h ∙ rw (e, e') (ap (λ (s : Store). record { store = s; used = m.used + charge; limit = m.limit }) (put_last t done left string_class m.store))

pub makes_text-is : (t : Text) (count : ℕ) (s : Store) → count ≡ length t → makes_string t s ≡ Makes (object_charge 0 count) (object_added (new_object string_class [] t) s) (next_object s)
unfolding makes_string makes_bytes with_new
makes_text-is t count s e = rw e refl

pub so_far_ends : (m : Memory) (count : ℕ) (t : Text) → count ≡ length t → m.used + object_charge 0 count ≤ m.limit → text_so_far m (object_charge 0 count) t 0 ≡ memory_of (makes_string t m.store) m
so_far_ends m count t e h = rw (makes_text-is t count m.store e, le-leb (m.used + object_charge 0 count) m.limit h, append-nil t) refl

pub text_told : (m : Memory) (count n : ℕ) (t : Text) → count ≡ length t → n ≡ length m.store.objects → m.used + object_charge 0 count ≤ m.limit → Built.Value (Value.Object n) ≡ answer_of (makes_string t m.store) m
text_told m count n t e e' h = rw (makes_text-is t count m.store e, e', le-leb (m.used + object_charge 0 count) m.limit h) refl

-- ---- the same, as the code has it

pub no_text : (stop : HeapStop) (m m' : Memory) (t : Text) (count : ℕ) → count ≡ length t → m' ≡ if_out {A = ℕ} (Err stop) m (charged (object_charge 0 count) (object_added (blank_object string_class 0 count) m.store) m)
    → Err stop ≡ if_out {A = ℕ} (Err stop) (Err stop) (allot_answer (object_charge 0 count) m)
    → m' ≡ unless_out (stop_answer stop) m (memory_of (makes_string t m.store) m)
no_text stop m m' t count n e a =
    rw (makes_text-is t count m.store n) (stop_memory stop m m' (object_charge 0 count) (object_added (blank_object string_class 0 count) m.store) (object_added (new_object string_class [] t) m.store) (next_object m.store) e a)

pub no_text-told : (stop : HeapStop) (m : Memory) (t : Text) (count : ℕ) → count ≡ length t → Err stop ≡ if_out {A = ℕ} (Err stop) (Err stop) (allot_answer (object_charge 0 count) m)
    → stop_answer stop ≡ unless_out (stop_answer stop) (stop_answer stop) (answer_of (makes_string t m.store) m)
no_text-told stop m t count n a =
    rw (makes_text-is t count m.store n) (stop_answer-is stop m (object_charge 0 count) (object_added (new_object string_class [] t) m.store) (next_object m.store) a)

pub piece_at : (p : Program) (m m1 : Memory) (charge : ℕ) (done : Text) (left : ℕ) (x : Piece) → IsKnown m.store x → m1 ≡ text_so_far m charge done left → piece_text p m1.store x ≡ piece_text p m.store x
piece_at p m m1 charge done left x h e =
    ap (λ (n : Memory). piece_text p n.store x) e ∙ piece_steady p x (new_object string_class [] (done ++ replicate left 0)) m.store h

pub text_fits : (p : Program) (m m1 : Memory) (xs : List Piece) (i count at charge : ℕ) → AreKnown m.store xs → i < length xs → at ≡ length (pieces_text p m.store (take i xs)) → count ≡ length (pieces_text p m.store xs)
    → m1 ≡ text_so_far m charge (pieces_text p m.store (take i xs)) (count - at) → at + length (piece_text p m1.store (get_or xs i Piece.Nothing)) ≤ count
text_fits p m m1 xs i count at charge k h a n e =
    let x = get_or xs i Piece.Nothing in
    let same : piece_text p m1.store x ≡ piece_text p m.store x = piece_at p m m1 charge (pieces_text p m.store (take i xs)) (count - at) x (known_at m.store xs i Piece.Nothing h k) e in
    rw same (omega (arith, a, n, length-text_more p m.store xs i Piece.Nothing h, shorter p m.store xs (i + 1)))

pub text_step : (p : Program) (m m1 m2 : Memory) (xs : List Piece) (i count number at at' charge : ℕ) → AreKnown m.store xs → i < length xs → number ≡ length m.store.objects → at ≡ length (pieces_text p m.store (take i xs)) → count ≡ length (pieces_text p m.store xs)
    → m1 ≡ text_so_far m charge (pieces_text p m.store (take i xs)) (count - at)
    → m2 ≡ put number at (piece_text p m1.store (get_or xs i Piece.Nothing)) m1 → at' ≡ at + length (piece_text p m1.store (get_or xs i Piece.Nothing))
    → (at' ≡ length (pieces_text p m.store (take (i + 1) xs))) × (m2 ≡ text_so_far m charge (pieces_text p m.store (take (i + 1) xs)) (count - at'))
text_step p m m1 m2 xs i count number at at' charge k h o a n e1 e2 a' =
    let x : Piece = get_or xs i Piece.Nothing in
    let done : Text = pieces_text p m.store (take i xs) in
    let t : Text = piece_text p m.store x in
    let same : piece_text p m1.store x ≡ t = piece_at p m m1 charge done (count - at) x (known_at m.store xs i Piece.Nothing h k) e1 in
    let further : at' ≡ at + length t = a' ∙ ap (λ (u : Text). at + length u) same in
    let more : length (pieces_text p m.store (take (i + 1) xs)) ≡ length done + length t = length-text_more p m.store xs i Piece.Nothing h in
    let split : count - at ≡ length t + (count - at') = omega (arith, further, a, n, more, shorter p m.store xs (i + 1)) in
    let wrote : m2 ≡ put number at t (text_so_far m charge done (length t + (count - at'))) = e2 ∙ (ap (λ (u : Text). put number at u m1) same ∙ ap (λ (w : Memory). put number at t w) (e1 ∙ ap (λ (left : ℕ). text_so_far m charge done left) split)) in
    (omega (arith, further, a, more), rw (text_more p m.store xs i Piece.Nothing h) (so_far_more m m2 charge number at done t (count - at') o a wrote))

pub text_end : (p : Program) (m m1 : Memory) (xs : List Piece) (i count at : ℕ) → length xs ≤ i → at ≡ length (pieces_text p m.store (take i xs)) → count ≡ length (pieces_text p m.store xs) → m.used + object_charge 0 count ≤ m.limit
    → m1 ≡ text_so_far m (object_charge 0 count) (pieces_text p m.store (take i xs)) (count - at) → m1 ≡ memory_of (makes_string (pieces_text p m.store xs) m.store) m
text_end p m m1 xs i count at h a n paid e =
    let all : take i xs ≡ xs = take_all i xs h in
    let none : count - at ≡ 0 = omega (arith, rw all at a, n) in
    (rw (all, none) at e) ∙ so_far_ends m count (pieces_text p m.store xs) n paid

-- ---- a String of bytes that are written at once

pub paid_text : (n count : ℕ) (m : Memory) → Ok n ≡ if_out (Ok n) (Ok n) (allot_answer (object_charge 0 count) m) → (m.used + object_charge 0 count ≤ m.limit) × (n ≡ length m.store.objects)
paid_text n count m e = paid_of n (object_charge 0 count) m e

pub bytes_end : (m m1 m2 : Memory) (number : ℕ) (t : Text) → number ≡ length m.store.objects → m.used + object_charge 0 (length t) ≤ m.limit → m1 ≡ charged (object_charge 0 (length t)) (object_added (blank_object string_class 0 (length t)) m.store) m
    → m2 ≡ put number 0 t m1 → m2 ≡ memory_of (makes_string t m.store) m
bytes_end m m1 m2 number t o paid made wrote =
    let room : length t + 0 ≡ length t = omega arith in
    let begun : m1 ≡ text_so_far m (object_charge 0 (length t)) [] (length t) = so_far_begins m m1 (object_charge 0 (length t)) (length t) paid made in
    let put_in : m2 ≡ put number 0 t (text_so_far m (object_charge 0 (length t)) [] (length t + 0)) = rw room (wrote ∙ ap (λ (w : Memory). put number 0 t w) begun) in
    so_far_more m m2 (object_charge 0 (length t)) number 0 [] t 0 o refl put_in ∙ so_far_ends m (length t) t refl paid
