-- What `at:` answers, as the place that it reads.
use Rattle.std.proofs.Common.{◌≡◌, ℕ, ◌+◌, ◌-◌, ◌≤◌, ℤ, pos, negsuc, Bool, true, false, ◌&&◌, nat_le, if◌then◌else◌, [], ◌∷◌, Some, None, IfSome, IsSome, refl, ap, ◌∙◌, arith}
use Rattle.std.proofs.lemmas.Bool.{leb-true}
use Rattle.object_heap.specs.declared.value.Value.{Value}
use Rattle.object_heap.specs.declared.value.Value.TheVariants.{Integer}
use Rattle.object_heap.specs.declared.trouble.Trouble.TheVariants.{IndexOutOfRange}
use Rattle.object_heap.specs.Charges.{Memory}
use Rattle.st_collections.specs.declared.answer.Built.{Built}
use Rattle.st_collections.specs.Actions.{Action, Gives, Fails}
use Rattle.st_collections.specs.Answers.{answer_of, is_out, memory_of, unless_out}
use Rattle.st_collections.specs.Kinds.{element, natural_of, size_of}
use Rattle.st_collections.specs.ObjectRows.{indexed}
use Rattle.object_heap.specs.Store.{Store}
use Rattle.st_code.specs.Program.{Program}
use Rattle.st_collections.specs.AtOnce.{action_of}
use Rattle.st_collections.specs.SequenceRows.{sequence_action}
use Rattle.st_collections.specs.declared.message.CollectionMessage.{CollectionMessage}
use Rattle.st_collections.specs.declared.message.OfSequence.{OfSequence}
use Rattle.st_loops.specs.Visits.{is_place}
use Rattle.st_loops.specs.declared.places.Place.{Place}
use Rattle.st_loops.specs.Places.{is_lost, number_told, place_told, unless_lost}

-- a value where something stands, else the trouble
abbrev pub given : Bool → Value → Action
given b v = if b then Gives v else Fails IndexOutOfRange

index_case : (b : Bool) (n : ℕ) (e : ℕ → Value) → (b ≡ true → n - 1 + 1 ≡ n) → elim (if b then Some (n - 1) else None) [ Some k ↦ Gives (e (k + 1)) | None ↦ Fails IndexOutOfRange ] ≡ given b (e n)
index_case true n e h = ap (λ (k : ℕ). Gives (e k)) (h refl)
index_case false n e h = refl

both_first : (a b : Bool) → (a && b) ≡ true → a ≡ true
both_first true b e = refl
both_first false b e = cc

pub at_index-is : (size : ℕ) (i : ℤ) (e : ℕ → Value) → indexed (Integer i) size (λ k. Gives (e (k + 1))) ≡ given (nat_le 1 (natural_of i) && nat_le (natural_of i) size) (e (natural_of i))
at_index-is size (pos n) e =
    index_case (nat_le 1 n && nat_le n size) n e (λ h. let low : 1 ≤ n = leb-true 1 n (both_first (nat_le 1 n) (nat_le n size) h) in omega arith)
at_index-is size (negsuc n) e = refl

-- what `at:` does
pub at_message-is : (p : Program) (s : Store) (r : Value) (i : ℤ) → action_of p s (CollectionMessage.Sequence OfSequence.At) r (Integer i ∷ []) ≡ given (is_place p s r i) (element p s r (natural_of i))
unfolding sequence_action
at_message-is p s r i = at_index-is (size_of p s r) i (element p s r)

given_memory : (b : Bool) (v : Value) (m : Memory) → memory_of (given b v) m ≡ m
given_memory true v m = refl
given_memory false v m = refl

same_unless : (r : Built) (m : Memory) → unless_out r m m ≡ m
same_unless (Built.Value v) m = refl
same_unless (Built.Trouble t) m = refl
same_unless Built.IntegerLimit m = refl
same_unless (Built.Cells u c) m = refl
same_unless Built.OutOfMemory m = refl

pub read_memory : (r : Built) (b : Bool) (v : Value) (m m' : Memory) → m' ≡ unless_out r m (memory_of (given b v) m) → m' ≡ m
read_memory r b v m m' h = h ∙ ap (λ (n : Memory). unless_out r m n) (given_memory b v m) ∙ same_unless r m

pub read_place : (r : Built) (b : Bool) (v : Value) (m : Memory) → r ≡ unless_out r r (answer_of (given b v) m) → place_told r ≡ unless_lost (place_told r) (place_told r) (if b then Place.Element v else Place.Past)
read_place (Built.Value x) true v m h = cc
read_place (Built.Value x) false v m h = cc
read_place (Built.Trouble t) true v m h = cc
read_place (Built.Trouble t) false v m h = refl
read_place Built.IntegerLimit b v m h = refl
read_place (Built.Cells u c) b v m h = refl
read_place Built.OutOfMemory b v m h = refl

pub read_reserved : (r : Built) (b : Bool) (v : Value) (m : Memory) → r ≡ unless_out r r (answer_of (given b v) m) → is_out r ≡ false → is_lost (place_told r) ≡ false
read_reserved (Built.Value x) b v m h e = refl
read_reserved (Built.Trouble t) b v m h e = refl
read_reserved Built.IntegerLimit true v m h e = cc
read_reserved Built.IntegerLimit false v m h e = cc
read_reserved (Built.Cells u c) true v m h e = cc
read_reserved (Built.Cells u c) false v m h e = cc
read_reserved Built.OutOfMemory b v m h e = cc

-- ---- what `size` answers

abbrev sized : ℕ → Action
sized size = Gives (Integer (pos size))

pub size_message-is : (p : Program) (s : Store) (r : Value) → action_of p s (CollectionMessage.Sequence OfSequence.Size) r [] ≡ sized (size_of p s r)
unfolding sequence_action
size_message-is p s r = refl

pub read_size_memory : (r : Built) (size : ℕ) (m m' : Memory) → m' ≡ unless_out r m (memory_of (sized size) m) → m' ≡ m
read_size_memory r size m m' h = h ∙ same_unless r m

pub read_size : (r : Built) (size : ℕ) (m : Memory) → r ≡ unless_out r r (answer_of (sized size) m) → IfSome (number_told r) (λ n. n ≡ pos size)
read_size (Built.Value v) size m h = let e : v ≡ Integer (pos size) = cc in rw e refl
read_size (Built.Trouble t) size m h = cc
read_size Built.IntegerLimit size m h = cc
read_size (Built.Cells u c) size m h = cc
read_size Built.OutOfMemory size m h = tt

pub read_size_reserved : (r : Built) (size : ℕ) (m : Memory) → r ≡ unless_out r r (answer_of (sized size) m) → is_out r ≡ false → IsSome (number_told r)
read_size_reserved (Built.Value v) size m h e = let is : v ≡ Integer (pos size) = cc in rw is refl
read_size_reserved (Built.Trouble t) size m h e = cc
read_size_reserved Built.IntegerLimit size m h e = cc
read_size_reserved (Built.Cells u c) size m h e = cc
read_size_reserved Built.OutOfMemory size m h e = cc
