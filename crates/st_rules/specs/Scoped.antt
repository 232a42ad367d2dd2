-- The scoped machine: a body keeps its frame, its operands and the rest of its code, and all its variables stand in its scope. This form is the profile's own.
use Rattle.std.specs.Prelude.{ℕ, zero, suc, Bool, true, false, List, [], ◌∷◌}
use Rattle.object_heap.specs.declared.value.Value.{Value}
use Rattle.object_heap.specs.declared.trouble.Trouble.TheVariants.{HomeHasReturned}
use Rattle.object_heap.specs.Store.{Store}
use Rattle.st_code.specs.Program.{Program, body_at}
use Rattle.st_rules.specs.State.{State, Env, Home, CellLimit, Answer, Go, BodyMark, Frame, with_store, used, stands}
use Rattle.st_collections.specs.Actions.{next_object}
use Rattle.st_rules.specs.Ends.{charged, read_place, write_place, with_block, Opening, frame_of, with_opened}
use Rattle.st_rules.specs.Rules.{SendTo, SuperTo, fail}
use Rattle.st_code.specs.Code.{Instr, PushConstant, PushSelf, Pop, Dup, PushVariable, Store as StoreVariable, SendMessage, SendSuper, MakeBlock, MethodReturn, HomeReturn, BlockEnd, code_body}
use Rattle.st_rules.specs.Machine.{Act, BodyAct, Leaving, Mach, Run, Settle, Begin, Stuck, marks, Bodies, stopped}

-- a body: its frame, its environment, its operands from the last on, and the code that is left
pub record ScopedBody : Type 0 where
  pub frame : Frame
  pub env : Env
  pub operands : List Value
  pub rest : List Instr

abbrev pub scoped_body : Frame → Env → List Value → List Instr → ScopedBody
scoped_body f env operands rest = record { frame = f; env = env; operands = operands; rest = rest }

-- so many operands in their order, with those below
pub data Taken : Type 0 where
  TooFew : Taken
  Takes : (args operands : List Value) → Taken

abbrev pub taken : ℕ → List Value → List Value → Taken
taken zero operands args = Takes args operands
taken (suc n) [] args = TooFew
taken (suc n) (v ∷ operands) args = taken n operands (v ∷ args)

abbrev pub scoped_number : ScopedBody → ℕ
scoped_number x = x.frame.own

-- what no code that is compiled comes to
abbrev pub no_instruction : List (Act ScopedBody) → State → Mach ScopedBody
no_instruction acts st = Stuck st

module _ (p : Program) where
  abbrev pub pushed : Value → Frame → Env → List Value → List Instr → List (Act ScopedBody) → State → Mach ScopedBody
  pushed v f env operands rest acts st = Run (scoped_body f env (v ∷ operands) rest) acts st

  abbrev pub sent : ℕ → Taken → Frame → Env → List Instr → List (Act ScopedBody) → State → Mach ScopedBody
  sent selector (Takes args (r ∷ operands)) f env rest acts st = Begin (SendTo selector r args env) (BodyAct (scoped_body f env operands rest) ∷ acts) st
  sent selector _ f env rest acts st = no_instruction acts st

  abbrev pub super_sent : ℕ → Taken → Frame → Env → List Instr → List (Act ScopedBody) → State → Mach ScopedBody
  super_sent selector (Takes args (r ∷ operands)) f env rest acts st = Begin (SuperTo f.class selector r args env) (BodyAct (scoped_body f env operands rest) ∷ acts) st
  super_sent selector _ f env rest acts st = no_instruction acts st

  -- `^` of a block, by whether its home stands
  abbrev pub leaves : Bool → Value → Frame → Env → List Value → List Instr → List (Act ScopedBody) → State → Mach ScopedBody
  leaves true v f env operands rest acts st = Settle (Go (Home f.home) v) (BodyAct (scoped_body f env operands rest) ∷ acts) st
  leaves false v f env operands rest acts st = Begin (fail p HomeHasReturned env) (Leaving (scoped_body f env operands rest) ∷ acts) st

  abbrev pub instr : Instr → Frame → Env → List Value → List Instr → List (Act ScopedBody) → State → Mach ScopedBody
  instr (PushConstant v) f env operands rest acts st = pushed v f env operands rest acts st
  instr PushSelf f env operands rest acts st = pushed f.self f env operands rest acts st
  instr (PushVariable place) f env operands rest acts st = pushed (read_place p f st place) f env operands rest acts st
  instr (StoreVariable place) f env (v ∷ operands) rest acts st = pushed v f env operands rest acts (write_place p f st place v)
  instr Pop f env (v ∷ operands) rest acts st = Run (scoped_body f env operands rest) acts st
  instr Dup f env (v ∷ operands) rest acts st = pushed v f env (v ∷ operands) rest acts st
  instr (MakeBlock code) f env operands rest acts st =
      charged (used p 2 st) (stopped CellLimit (BodyAct (scoped_body f env operands rest) ∷ acts) st) (λ st1.
      pushed (next_object st1.store) f env operands rest acts (with_store st1 (with_block f code st1.store)))
  instr (SendMessage selector count) f env operands rest acts st = sent selector (taken count operands []) f env rest acts st
  instr (SendSuper selector count) f env operands rest acts st = super_sent selector (taken count operands []) f env rest acts st
  instr MethodReturn f env (v ∷ operands) rest acts st = Settle (Answer v) acts st
  instr HomeReturn f env (v ∷ operands) rest acts st = leaves (stands f.home (BodyMark f.own ∷ marks scoped_number acts)) v f env operands rest acts st
  instr BlockEnd f env (v ∷ operands) rest acts st = Settle (Answer v) acts st
  instr _ f env operands rest acts st = no_instruction acts st

  abbrev pub next_instr : Frame → Env → List Value → List Instr → List (Act ScopedBody) → State → Mach ScopedBody
  next_instr f env operands [] acts st = no_instruction acts st
  next_instr f env operands (i ∷ rest) acts st = instr i f env operands rest acts st

  abbrev pub scoped_instruct : ScopedBody → List (Act ScopedBody) → State → Mach ScopedBody
  scoped_instruct x acts st = next_instr x.frame x.env x.operands x.rest acts st

abbrev pub scoped_opened : Program → Opening → Store → ScopedBody
scoped_opened p x s = scoped_body (frame_of x s) x.env [] (code_body x.kind (body_at p x.code).statements)

abbrev pub scoped_given : Value → ScopedBody → ScopedBody
scoped_given v x = scoped_body x.frame x.env (v ∷ x.operands) x.rest

abbrev pub scoped : Program → Bodies ScopedBody
scoped p = record { number = scoped_number; opened_store = with_opened p; opened_body = scoped_opened p; given = scoped_given; instruct = scoped_instruct p }
