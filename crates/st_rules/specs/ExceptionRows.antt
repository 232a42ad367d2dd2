-- Messages of Blocks, of exceptions, their classes and ExceptionSets (ANSI 5.4.3, 5.5).
use Rattle.std.specs.Prelude.{ℕ, pos, ◌&&◌, List, [], ◌∷◌, ◌++◌, length, Option, Some, None, nat_eq, if◌then◌else◌, codes}
use Rattle.object_heap.specs.declared.value.Value.{Value}
use Rattle.object_heap.specs.declared.value.Value.TheVariants.{Nil, Integer, Class, Object}
use Rattle.object_heap.specs.declared.value.Closure.{Closure}
use Rattle.object_heap.specs.declared.trouble.Trouble.TheVariants.{WrongNumberOfArguments, CollectionExpected, ExceptionSelectorExpected, ExceptionExpected}
use Rattle.object_heap.specs.Store.{Store, object_at, closure_at, with_slot}
use Rattle.st_code.specs.Program.{Program, body_at, class_at}
use Rattle.st_code.specs.BuiltIns.{array_class, exception_set_class}
use Rattle.st_code.specs.Messages.{BlockMessage, ExceptionMessage}
use Rattle.st_code.specs.Lookup.{is_plain, fits, is_exception}
use Rattle.st_collections.specs.Actions.{Action, Gives, Changes, Writes, Fails, Activates, Guards, Ensures, Curtails, Raises, RaisesNew, Controls, Terminates, boolean, first, second, makes_slots, makes_string, makes_blank}
use Rattle.st_collections.specs.Kinds.{is_a, slots_of, slot_of, exception_text}

-- ---- Blocks

-- the closure of a block
unfoldable pub closure_of : Store → Value → Option Closure
closure_of s (Object number) = closure_at number s
closure_of s v = None

abbrev pub parameters_of : Program → Closure → ℕ
parameters_of p c = (body_at p c.code).parameters

abbrev pub value_with : Program → Closure → List Value → Action
value_with p c args = if nat_eq (parameters_of p c) (length args) then Activates c args else Fails WrongNumberOfArguments

abbrev pub block_at : Program → Store → BlockMessage → Value → Closure → List Value → Action
block_at p s BlockMessage.Value r c args = value_with p c args
block_at p s BlockMessage.ValueWithArguments r c args = if is_a s array_class (first args) then value_with p c (slots_of s (first args)) else Fails CollectionExpected
block_at p s BlockMessage.NumArgs r c args = Gives (Integer (pos (parameters_of p c)))
block_at p s BlockMessage.OnDo r c args = Guards r (first args) (second args)
block_at p s BlockMessage.Ensure r c args = Ensures r (first args)
block_at p s BlockMessage.IfCurtailed r c args = Curtails r (first args)

unfoldable pub block_action : Program → Store → BlockMessage → Value → List Value → Action
block_action p s m r args = elim (closure_of s r) [ Some c ↦ block_at p s m r c args | None ↦ Gives Nil ]

-- ---- exceptions

-- the classes of a plain selector
abbrev pub selectors_of : Store → Value → List Value
selectors_of s (Object number) = (object_at number s).slots
selectors_of s v = v ∷ []

abbrev pub join_selectors : Program → Store → Value → Value → Action
join_selectors p s r v =
    if is_plain p s r && is_plain p s v then makes_slots exception_set_class (selectors_of s r ++ selectors_of s v) s else Fails ExceptionSelectorExpected

abbrev pub handles : Program → Store → Value → Value → Action
handles p s r (Object number) = if is_exception p s (Object number) then Gives (boolean (fits p s r (object_at number s).class)) else Fails ExceptionExpected
handles p s r v = Fails ExceptionExpected

abbrev pub new_exception : Program → Store → Value → Action
new_exception p s (Class class) = makes_blank class (class_at p class).slots 0 s
new_exception p s r = Gives Nil

abbrev pub signal_new : Value → List Value → Action
signal_new (Class class) args = RaisesNew class args
signal_new r args = Gives Nil

abbrev pub kept_or_text : Program → Store → ℕ → Value → Action
kept_or_text p s number Nil = makes_string (exception_text p s number) s
kept_or_text p s number v = Gives v

abbrev pub exception_at : Program → Store → ExceptionMessage → ℕ → List Value → Action
exception_at p s ExceptionMessage.Signal n args = Raises s n
exception_at p s ExceptionMessage.SignalText n args = Raises (with_slot n 0 (first args) s) n
exception_at p s ExceptionMessage.MessageText n args = kept_or_text p s n (slot_of s (Object n) 0)
exception_at p s ExceptionMessage.SetMessageText n args = Changes (with_slot n 0 (first args) s) (Object n)
exception_at p s ExceptionMessage.Description n args = makes_string (class_at p (object_at n s).class).name s
exception_at p s (ExceptionMessage.Controls control) n args = Controls control n (first args)
exception_at p s (ExceptionMessage.IsResumable answer) n args = Gives (boolean answer)
exception_at p s ExceptionMessage.TerminatesProgram n args = Terminates (Object n)
exception_at p s ExceptionMessage.AnswersNil n args = Gives Nil
exception_at p s ExceptionMessage.Warns n args = Writes (codes "Warning: " ++ exception_text p s n ++ 10 ∷ []) Nil
exception_at p s m n args = Gives Nil

abbrev pub to_exception : Program → Store → ExceptionMessage → Value → List Value → Action
to_exception p s m (Object n) args = exception_at p s m n args
to_exception p s m r args = Gives Nil

unfoldable pub exception_action : Program → Store → ExceptionMessage → Value → List Value → Action
exception_action p s ExceptionMessage.New r args = new_exception p s r
exception_action p s ExceptionMessage.SignalNew r args = signal_new r args
exception_action p s ExceptionMessage.Join r args = join_selectors p s r (first args)
exception_action p s ExceptionMessage.Handles r args = handles p s r (first args)
exception_action p s m r args = to_exception p s m r args
