-- Messages that make Intervals (ANSI 5.6.2), and what Associations hold.
use Rattle.std.specs.Prelude.{◌^◌, ℤ, pos, [], ◌∷◌, nat_abs, nat_eq, nat_lt, if◌then◌else◌}
use Rattle.object_heap.specs.declared.value.Value.{Value}
use Rattle.object_heap.specs.declared.value.Value.TheVariants.{Integer}
use Rattle.object_heap.specs.declared.trouble.Trouble.TheVariants.{NumberExpected, StepIsZero}
use Rattle.object_heap.specs.Store.{Store}
use Rattle.st_code.specs.BuiltIns.{interval_class}
use Rattle.st_collections.specs.Actions.{Action, Fails, PassesIntegers, makes_slots}
use Rattle.st_collections.specs.Kinds.{integer_of, interval_size}

abbrev pub with_integer : Value → (ℤ → Action) → Action
with_integer (Integer n) act = act n
with_integer v act = Fails NumberExpected

-- an Interval; the integer limit where it would have too many elements
abbrev pub interval : Store → ℤ → ℤ → ℤ → Action
interval s start stop by =
    if nat_lt (interval_size start stop by) (2 ^ 127) then makes_slots interval_class (Integer start ∷ Integer stop ∷ Integer by ∷ []) s else PassesIntegers

abbrev pub interval_by : Store → ℤ → ℤ → ℤ → Action
interval_by s start stop by = if nat_eq (nat_abs by) 0 then Fails StepIsZero else interval s start stop by

-- `to:` and `to:by:`
abbrev pub to_action : Store → Value → Value → Action
to_action s r stop = with_integer stop (λ n. interval s (integer_of r) n (pos 1))

abbrev pub to_by_action : Store → Value → Value → Value → Action
to_by_action s r stop step = with_integer stop (λ n. with_integer step (λ by. interval_by s (integer_of r) n by))
