-- The flat machine: a body keeps a code number, a position and operands, of which the variables that no block names are the first; the others stand in a scope that only a body with such variables has. This form is the profile's own.
use Rattle.std.specs.Prelude.{ℕ, zero, suc, ◌+◌, Bool, true, false, List, [], ◌∷◌, reverse, length, get_or, slice_set, slice_get, Option, Some, None, nat_lt, if◌then◌else◌}
use Rattle.object_heap.specs.declared.value.Value.{Value}
use Rattle.object_heap.specs.declared.value.Value.TheVariants.{Nil}
use Rattle.object_heap.specs.declared.trouble.Trouble.TheVariants.{HomeHasReturned}
use Rattle.object_heap.specs.Store.{Store, scope_added, block_added}
use Rattle.st_code.specs.declared.instruction.Variable.{Variable}
use Rattle.st_code.specs.declared.instruction.Variable.TheVariants.{Own, Scope, Instance, ClassInstance, Shared}
use Rattle.st_code.specs.declared.instruction.Instruction.{Instruction}
use Rattle.st_code.specs.declared.instruction.Instruction.TheVariants.{PushConstant, PushSelf, PushVariable, Store as StoreVariable, Pop, Dup, Send, SuperSend, MakeBlock, MethodReturn, HomeReturn, BlockEnd}
use Rattle.st_code.specs.declared.instruction.CodeKind.TheVariants.{Block as BlockCode}
use Rattle.st_code.specs.Compiled.{Compiled, constant_value, any_captured}
use Rattle.st_code.specs.Program.{Program}
use Rattle.st_rules.specs.State.{State, Env, Home, CellLimit, Answer, Go, BodyMark, with_store, used, first_variables, scoped_variable, with_scoped_variable, stands}
use Rattle.st_code.specs.BuiltIns.{block_class}
use Rattle.st_collections.specs.Actions.{next_object}
use Rattle.st_collections.specs.Kinds.{slot_of}
use Rattle.st_rules.specs.Ends.{charged, Opening, shared, first_class_slot, with_self_slot}
use Rattle.st_rules.specs.Rules.{SendTo, SuperTo, fail}
use Rattle.st_rules.specs.Machine.{Act, BodyAct, Leaving, Mach, Run, Settle, Begin, Bodies, marks, stopped}

-- a body: its code, the position of its next instruction or of the one that it waits at, its operands from the last on, self, the class that it is written in, its number, that of its home, the innermost scope around it, and its environment
pub record FlatBody : Type 0 where
  pub code : ℕ
  pub position : ℕ
  pub operands : List Value
  pub self : Value
  pub class : Value
  pub own : ℕ
  pub home : ℕ
  pub scope : Option ℕ
  pub env : Env

abbrev pub flat_number : FlatBody → ℕ
flat_number x = x.own

abbrev pub no_code : Compiled
no_code = record { kind = BlockCode; class = Nil; parameters = 0; captured = []; instructions = []; width = 0 }

unfoldable pub code_at : List Compiled → ℕ → Compiled
code_at codes code = get_or codes code no_code

-- the variables that no block names, and those that one does
unfoldable pub own_variables : List Bool → List Value → List Value
own_variables [] vs = []
own_variables (c ∷ captured) [] = []
own_variables (true ∷ captured) (v ∷ vs) = own_variables captured vs
own_variables (false ∷ captured) (v ∷ vs) = v ∷ own_variables captured vs

unfoldable pub captured_variables : List Bool → List Value → List Value
captured_variables [] vs = []
captured_variables (c ∷ captured) [] = []
captured_variables (true ∷ captured) (v ∷ vs) = v ∷ captured_variables captured vs
captured_variables (false ∷ captured) (v ∷ vs) = captured_variables captured vs

-- an operand by its place, the first being 0; nil where it isn't there
unfoldable pub operand_at : ℕ → List Value → Value
operand_at index operands = get_or (reverse operands) index Nil

unfoldable pub with_operand : ℕ → Value → List Value → List Value
with_operand index v operands = reverse (slice_set (reverse operands) index v)

abbrev pub last_operand : List Value → Value
last_operand [] = Nil
last_operand (v ∷ operands) = v

abbrev pub but_last : List Value → List Value
but_last [] = []
but_last (v ∷ operands) = operands

-- so many operands in their order with those below, each nil that isn't there
pub record Operands : Type 0 where
  pub args : List Value
  pub below : List Value

abbrev pub operands_taken : ℕ → List Value → List Value → Operands
operands_taken zero operands args = record { args = args; below = operands }
operands_taken (suc n) operands args = operands_taken n (but_last operands) (last_operand operands ∷ args)

abbrev pub with_operands : List Value → FlatBody → FlatBody
with_operands operands x = record x { operands = operands }

-- the body at its next instruction
abbrev pub advanced : FlatBody → FlatBody
advanced x = record x { position = x.position + 1 }

-- one more operand, where there is room
abbrev pub operand_pushed : ℕ → Value → List Value → List Value
operand_pushed room v operands = if nat_lt (length operands) room then v ∷ operands else operands

-- the instruction at the body's position
unfoldable pub instruction_at : List Compiled → FlatBody → Option Instruction
instruction_at codes x = slice_get (code_at codes x.code).instructions x.position

module _ (p : Program) (codes : List Compiled) (room : ℕ) where
  abbrev pub flat_given : Value → FlatBody → FlatBody
  flat_given v x = advanced (with_operands (operand_pushed room v x.operands) x)

  abbrev pub flat_pushed : Value → FlatBody → List (Act FlatBody) → State → Mach FlatBody
  flat_pushed v x acts st = Run (flat_given v x) acts st

  abbrev pub flat_read : Variable → FlatBody → State → Value
  flat_read (Own index) x st = operand_at index x.operands
  flat_read (Scope up index) x st = scoped_variable st.store x.scope up index
  flat_read (Instance index) x st = slot_of st.store x.self index
  flat_read (ClassInstance index) x st = shared st.variables (first_class_slot p x.self + index)
  flat_read (Shared index) x st = shared st.variables index

  -- a Store keeps the operand that it writes
  abbrev pub flat_store : Variable → Value → FlatBody → List (Act FlatBody) → State → Mach FlatBody
  flat_store (Own index) v x acts st = Run (advanced (with_operands (with_operand index v x.operands) x)) acts st
  flat_store (Scope up index) v x acts st = Run (advanced x) acts (with_store st (with_scoped_variable st.store x.scope up index v))
  flat_store (Instance index) v x acts st = Run (advanced x) acts (with_store st (with_self_slot x.self index v st.store))
  flat_store (ClassInstance index) v x acts st = Run (advanced x) acts (record st { variables = slice_set st.variables (first_class_slot p x.self + index) v })
  flat_store (Shared index) v x acts st = Run (advanced x) acts (record st { variables = slice_set st.variables index v })

  unfoldable pub with_flat_block : FlatBody → (code : ℕ) → Store → Store
  with_flat_block x code s = block_added block_class (record { code = code; class = x.class; receiver = x.self; scope = x.scope; home = x.home }) s

  -- a body that sends stands at its send until the answer comes
  abbrev pub flat_sent : ℕ → Operands → FlatBody → List (Act FlatBody) → State → Mach FlatBody
  flat_sent selector o x acts st = Begin (SendTo selector (last_operand o.below) o.args x.env) (BodyAct (with_operands (but_last o.below) x) ∷ acts) st

  abbrev pub flat_super_sent : ℕ → Operands → FlatBody → List (Act FlatBody) → State → Mach FlatBody
  flat_super_sent selector o x acts st = Begin (SuperTo x.class selector (last_operand o.below) o.args x.env) (BodyAct (with_operands (but_last o.below) x) ∷ acts) st

  abbrev pub flat_leaves : Bool → Value → FlatBody → List (Act FlatBody) → State → Mach FlatBody
  flat_leaves true v x acts st = Settle (Go (Home x.home) v) (BodyAct x ∷ acts) st
  flat_leaves false v x acts st = Begin (fail p HomeHasReturned x.env) (Leaving x ∷ acts) st

  abbrev pub flat_instruction : Instruction → FlatBody → List (Act FlatBody) → State → Mach FlatBody
  flat_instruction (PushConstant c) x acts st = flat_pushed (constant_value c) x acts st
  flat_instruction PushSelf x acts st = flat_pushed x.self x acts st
  flat_instruction (PushVariable v) x acts st = flat_pushed (flat_read v x st) x acts st
  flat_instruction (StoreVariable v) x acts st = flat_store v (last_operand x.operands) x acts st
  flat_instruction Pop x acts st = Run (advanced (with_operands (but_last x.operands) x)) acts st
  flat_instruction Dup x acts st = flat_pushed (last_operand x.operands) x acts st
  flat_instruction (Send selector count) x acts st = flat_sent selector (operands_taken count x.operands []) x acts st
  flat_instruction (SuperSend selector count) x acts st = flat_super_sent selector (operands_taken count x.operands []) x acts st
  flat_instruction (MakeBlock code) x acts st =
      charged (used p 2 st) (stopped CellLimit (BodyAct x ∷ acts) st) (λ st1. flat_pushed (next_object st1.store) x acts (with_store st1 (with_flat_block x code st1.store)))
  flat_instruction MethodReturn x acts st = Settle (Answer (last_operand x.operands)) acts st
  flat_instruction HomeReturn x acts st =
      flat_leaves (stands x.home (BodyMark x.own ∷ marks flat_number acts)) (last_operand x.operands) (with_operands (but_last x.operands) x) acts st
  flat_instruction BlockEnd x acts st = Settle (Answer (last_operand x.operands)) acts st

  -- behind the last instruction a body answers nil
  abbrev pub flat_next : Option Instruction → FlatBody → List (Act FlatBody) → State → Mach FlatBody
  flat_next (Some i) x acts st = flat_instruction i x acts st
  flat_next None x acts st = Settle (Answer Nil) acts st

  abbrev pub flat_instruct : FlatBody → List (Act FlatBody) → State → Mach FlatBody
  flat_instruct x acts st = flat_next (instruction_at codes x) x acts st

  -- ---- a body that is opened: its captured variables go to a new scope, the others are its first operands

  abbrev pub opened_variables : Opening → List Value
  opened_variables x = first_variables (code_at codes x.code).captured x.arguments

  abbrev pub flat_opened_store : Opening → Store → Store
  flat_opened_store x s =
      if any_captured (code_at codes x.code).captured
      then scope_added (record { code = x.code; outer = x.outer; variables = captured_variables (code_at codes x.code).captured (opened_variables x) }) s else s

  abbrev pub flat_scope : Opening → Store → Option ℕ
  flat_scope x s = if any_captured (code_at codes x.code).captured then Some (length s.scopes) else x.outer

  abbrev pub flat_opened : Opening → Store → FlatBody
  flat_opened x s =
      record {
        code = x.code;
        position = 0;
        operands = reverse (own_variables (code_at codes x.code).captured (opened_variables x));
        self = x.self;
        class = x.class;
        own = x.own;
        home = x.home;
        scope = flat_scope x s;
        env = x.env;
      }

  abbrev pub flat : Bodies FlatBody
  flat = record { number = flat_number; opened_store = flat_opened_store; opened_body = flat_opened; given = flat_given; instruct = flat_instruct }

-- the room for operands that the codes of a program ask for
abbrev pub greatest_width : List Compiled → ℕ
greatest_width [] = 8
greatest_width (c ∷ codes) = if nat_lt (greatest_width codes) c.width then c.width else greatest_width codes
