-- The activations that stand as a list, the innermost first.
use Rattle.std.specs.Prelude.{ℕ, zero, suc, ◌+◌, Bool, true, false, List, [], ◌∷◌, length, reverse, get_or, set, slice_get, Option, Some, None, Result, Ok, Err, nat_lt, nat_le, nat_eq, if◌then◌else◌}
use Rattle.std.specs.Option.{option_map}
use Rattle.object_heap.specs.declared.value.Value.{Value}
use Rattle.object_heap.specs.declared.value.Value.TheVariants.{Nil}
use Rattle.st_contexts.specs.declared.activation.Activation.{Activation}
use Rattle.st_contexts.specs.declared.activation.Mark.{Mark}
use Rattle.st_contexts.specs.declared.activation.Frame.{Frame}
use Rattle.st_contexts.specs.declared.activation.Env.{Env}
use Rattle.st_contexts.specs.declared.activation.Entry.{Entry}
use Rattle.st_contexts.specs.declared.activation.Numbered.{Numbered}
use Rattle.st_contexts.specs.declared.contexts.DepthLimit.{DepthLimit}
use Rattle.st_contexts.specs.Marks.{mark_in, frame_in, entry_of}

-- an activation: its number, what it is for, the link to its environment, and its operands, the topmost first; a body's variables are the last of them
pub record Standing : Type 0 where
  pub number : ℕ
  pub kept : Activation
  pub env : Env
  pub operands : List Value

-- the activations that stand, the next number, how many may stand, and how many operands each may have
pub record Stack : Type 0 where
  pub acts : List Standing
  pub next : ℕ
  pub depth : ℕ
  pub width : ℕ

abbrev pub new_stack : (depth width : ℕ) → Stack
new_stack depth width = record { acts = []; next = 1; depth = depth; width = width }

abbrev pub with_acts : Stack → List Standing → Stack
with_acts s acts = record s { acts = acts }

-- ---- activations

abbrev pub new_standing : Activation → Env → ℕ → Standing
new_standing kept env n = record { number = n; kept = kept; env = env; operands = [] }

-- a new innermost activation, where one more may stand
abbrev pub pushed : Activation → Env → Stack → Stack
pushed kept env s = if nat_le (length s.acts + 1) s.depth then record { acts = new_standing kept env s.next ∷ s.acts; next = s.next + 1; depth = s.depth; width = s.width } else s

abbrev pub push_answer : Stack → Result ℕ DepthLimit
push_answer s = if nat_le (length s.acts + 1) s.depth then Ok s.next else Err (record { depth = s.depth })

abbrev pub outer_acts : List Standing → List Standing
outer_acts [] = []
outer_acts (a ∷ acts) = acts

abbrev pub popped : Stack → Stack
popped s = with_acts s (outer_acts s.acts)

-- ---- the innermost activation

-- the innermost activation, changed
abbrev pub at_top : (Standing → Standing) → List Standing → List Standing
at_top f [] = []
at_top f (a ∷ acts) = f a ∷ acts

-- what the innermost activation has, or a default
abbrev pub of_top : {A : Type 0} → A → (Standing → A) → List Standing → A
of_top d f [] = d
of_top d f (a ∷ acts) = f a

abbrev pub innermost_of : List Standing → Option ℕ
innermost_of acts = of_top None (λ a. Some a.number) acts

abbrev pub top_kept : Stack → Option Activation
top_kept s = of_top None (λ a. Some a.kept) s.acts

-- what the innermost activation runs, if it is a body
abbrev pub frame_of : Stack → Option Frame
frame_of s = of_top None (λ a. frame_in a.kept) s.acts

abbrev pub no_env : Env
no_env = record { 0 = 0 }

abbrev pub top_env : Stack → Env
top_env s = of_top no_env (λ a. a.env) s.acts

abbrev pub with_kept : Activation → Stack → Stack
with_kept kept s = with_acts s (at_top (λ a. record { number = a.number; kept = kept; env = a.env; operands = a.operands }) s.acts)

abbrev pub with_env : Env → Stack → Stack
with_env env s = with_acts s (at_top (λ a. record { number = a.number; kept = a.kept; env = env; operands = a.operands }) s.acts)

-- ---- its operands

abbrev pub with_operands : List Value → Standing → Standing
with_operands ops a = record { number = a.number; kept = a.kept; env = a.env; operands = ops }

-- one more operand, where there is room
abbrev pub operand_pushed : (room : ℕ) → Value → List Value → List Value
operand_pushed room v ops = if nat_lt (length ops) room then v ∷ ops else ops

abbrev pub value_pushed : Value → Stack → Stack
value_pushed v s = with_acts s (at_top (λ a. with_operands (operand_pushed s.width v a.operands) a) s.acts)

abbrev pub but_last : List Value → List Value
but_last [] = []
but_last (v ∷ ops) = ops

abbrev pub value_popped : Stack → Stack
value_popped s = with_acts s (at_top (λ a. with_operands (but_last a.operands) a) s.acts)

abbrev pub last_operand : List Value → Value
last_operand [] = Nil
last_operand (v ∷ ops) = v

abbrev pub top_value : Stack → Value
top_value s = of_top Nil (λ a. last_operand a.operands) s.acts

-- an operand by its place, the first that was pushed being 0; nil where it isn't there
abbrev pub operand_at : ℕ → List Value → Value
operand_at k ops = get_or (reverse ops) k Nil

abbrev pub with_operand : ℕ → Value → List Value → List Value
with_operand k v ops = reverse (set (reverse ops) k v)

abbrev pub variable_of : ℕ → Stack → Value
variable_of k s = of_top Nil (λ a. operand_at k a.operands) s.acts

abbrev pub with_variable : ℕ → Value → Stack → Stack
with_variable k v s = with_acts s (at_top (λ a. with_operands (with_operand k v a.operands) a) s.acts)

-- ---- activations by their number

unfoldable pub standing_in : ℕ → List Standing → Option Standing
standing_in n [] = None
standing_in n (a ∷ acts) = if nat_eq n a.number then Some a else standing_in n acts

unfoldable pub stands_in : ℕ → List Standing → Bool
stands_in n [] = false
stands_in n (a ∷ acts) = if nat_eq n a.number then true else stands_in n acts

-- the number of the activation directly outside this one
unfoldable pub outer_in : ℕ → List Standing → Option ℕ
outer_in n [] = None
outer_in n (a ∷ acts) = if nat_eq n a.number then innermost_of acts else outer_in n acts

abbrev pub kept_of : ℕ → List Standing → Option Activation
kept_of n acts = option_map (λ a. a.kept) (standing_in n acts)

abbrev pub mark_of : ℕ → List Standing → Option Mark
mark_of n acts = option_map mark_in (kept_of n acts)

abbrev pub env_of : ℕ → List Standing → Option Env
env_of n acts = option_map (λ a. a.env) (standing_in n acts)

abbrev pub operands_in : Option Standing → List Value
operands_in None = []
operands_in (Some a) = a.operands

abbrev pub operands_of : ℕ → List Standing → List Value
operands_of n acts = operands_in (standing_in n acts)

-- ---- activations by their place, the innermost being 0

abbrev pub numbered : Standing → Numbered
numbered a = record { number = a.number; env = a.env; kept = a.kept }

abbrev pub numbered_at : ℕ → List Standing → Option Numbered
numbered_at place acts = option_map numbered (slice_get acts place)

-- ---- environments

abbrev pub entry_at : Option Standing → Option Entry
entry_at None = None
entry_at (Some a) = entry_of a.number a.kept a.env

-- the innermost entry of the environment that a link names
abbrev pub entry_in : (link : ℕ) → List Standing → Option Entry
entry_in link acts = if nat_eq link 0 then None else entry_at (standing_in link acts)

-- an entry before others; nothing without it
abbrev pub before : Option Entry → List Entry → List Entry
before None entries = []
before (Some entry) entries = entry ∷ entries

-- the environment that a link names among these activations: its entry and, among those outside it, the environment of the entry's own link
unfoldable pub env_in : List Standing → (link : ℕ) → List Entry
env_in [] link = []
env_in (a ∷ acts) zero = []
env_in (a ∷ acts) (suc link) =
    if nat_eq (suc link) a.number then before (entry_of a.number a.kept a.env) (env_in acts a.env.0) else env_in acts (suc link)

-- an entry that stands with the environment behind it, which its link names if it names an activation further out
abbrev pub with_outside : List Standing → Option Entry → List Entry
with_outside acts None = []
with_outside acts (Some entry) = entry ∷ (if nat_lt entry.outside.0 entry.protect then env_in acts entry.outside.0 else [])
