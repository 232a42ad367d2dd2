-- A loop that an activation keeps is the state of the rules that it stands for.
use Rattle.std.proofs.Common.{◌≡◌, ◌≤◌, ◌&&◌, List, [], ◌∷◌, length, nat_le, Bool, true, false, refl, arith}
use Rattle.std.proofs.lemmas.Bool.Decides.{nat_tests}
use Rattle.object_heap.specs.declared.value.Value.{Value}
use Rattle.object_heap.specs.Store.{Store}
use Rattle.st_code.specs.Messages.{LoopMessage}
use Rattle.st_code.specs.Program.{Program}
use Rattle.st_collections.specs.Actions.{LoopState as State}
use Rattle.st_loops.specs.declared.kind.LoopKind.{LoopKind}
use Rattle.st_loops.specs.declared.state.Arguments.{Arguments}
use Rattle.st_loops.specs.declared.state.LoopState.{LoopState}
use Rattle.st_loops.specs.Kinds.{message_of}
use Rattle.st_loops.specs.States.{state_of, values_of}
use Rattle.st_loops.specs.Starts.{started}
use Rattle.st_loops.specs.Tests.{may_begin}
use Rattle.st_machine.specs.Loops.{kind_of, arguments_kept, loop_kept, loop_begins}
use Rattle.st_machine.specs.Meaning.{loop_of}
use Rattle.st_machine.proofs.SmallVisits.{is_short}

pub both : (a b : Bool) → (a && b) ≡ true → (a ≡ true) × (b ≡ true)
both true b e = (refl, e)
both false b e = absurd (let none : ⊥ = cc in none)

-- ---- kinds and messages

kind_back : (k : LoopKind) → kind_of (message_of k) ≡ k
kind_back LoopKind.WhileTrue = refl
kind_back LoopKind.WhileFalse = refl
kind_back LoopKind.TimesRepeat = refl
kind_back LoopKind.ToDo = refl
kind_back LoopKind.ToByDo = refl
kind_back LoopKind.Do = refl
kind_back LoopKind.DoSeparatedBy = refl
kind_back LoopKind.ReverseDo = refl
kind_back LoopKind.KeysAndValuesDo = refl
kind_back LoopKind.KeysDo = refl
kind_back LoopKind.InjectInto = refl
kind_back LoopKind.Detect = refl
kind_back LoopKind.DetectIfNone = refl
kind_back LoopKind.AnySatisfy = refl
kind_back LoopKind.AllSatisfy = refl
kind_back LoopKind.Collect = refl
kind_back LoopKind.Select = refl
kind_back LoopKind.Reject = refl
kind_back LoopKind.Includes = refl
kind_back LoopKind.OccurrencesOf = refl
kind_back LoopKind.IndexOf = refl
kind_back LoopKind.AddToSet = refl
kind_back LoopKind.Remove = refl
kind_back LoopKind.RemoveIfAbsent = refl
kind_back LoopKind.At = refl
kind_back LoopKind.AtIfAbsent = refl
kind_back LoopKind.AtPut = refl
kind_back LoopKind.AtIfAbsentPut = refl
kind_back LoopKind.IncludesKey = refl
kind_back LoopKind.RemoveKey = refl
kind_back LoopKind.RemoveKeyIfAbsent = refl
kind_back LoopKind.EqualElements = refl
kind_back LoopKind.NotEqual = refl

message_back : (m : LoopMessage) → message_of (kind_of m) ≡ m
message_back LoopMessage.WhileTrue = refl
message_back LoopMessage.WhileFalse = refl
message_back LoopMessage.TimesRepeat = refl
message_back LoopMessage.ToDo = refl
message_back LoopMessage.ToByDo = refl
message_back LoopMessage.Do = refl
message_back LoopMessage.DoSeparatedBy = refl
message_back LoopMessage.ReverseDo = refl
message_back LoopMessage.KeysAndValuesDo = refl
message_back LoopMessage.KeysDo = refl
message_back LoopMessage.InjectInto = refl
message_back LoopMessage.Detect = refl
message_back LoopMessage.DetectIfNone = refl
message_back LoopMessage.AnySatisfy = refl
message_back LoopMessage.AllSatisfy = refl
message_back LoopMessage.Collect = refl
message_back LoopMessage.Select = refl
message_back LoopMessage.Reject = refl
message_back LoopMessage.Includes = refl
message_back LoopMessage.OccurrencesOf = refl
message_back LoopMessage.IndexOf = refl
message_back LoopMessage.AddToSet = refl
message_back LoopMessage.Remove = refl
message_back LoopMessage.RemoveIfAbsent = refl
message_back LoopMessage.At = refl
message_back LoopMessage.AtIfAbsent = refl
message_back LoopMessage.AtPut = refl
message_back LoopMessage.AtIfAbsentPut = refl
message_back LoopMessage.IncludesKey = refl
message_back LoopMessage.RemoveKey = refl
message_back LoopMessage.RemoveKeyIfAbsent = refl
message_back LoopMessage.EqualElements = refl
message_back LoopMessage.NotEqual = refl

-- ---- arguments

arguments_back : (a : Arguments) → arguments_kept (values_of a) ≡ a
arguments_back Arguments.None = refl
arguments_back (Arguments.One u) = refl
arguments_back (Arguments.Two u v) = refl
arguments_back (Arguments.Three u v w) = refl

values_back : (vs : List Value) → nat_le (length vs) 3 ≡ true → values_of (arguments_kept vs) ≡ vs
values_back [] e = refl
values_back (u ∷ []) e = refl
values_back (u ∷ v ∷ []) e = refl
values_back (u ∷ v ∷ w ∷ []) e = refl
values_back (u ∷ v ∷ w ∷ x ∷ vs) e = absurd (grind (arith, nat_tests))

-- ---- states

pub kept_same : (l : LoopState) → loop_kept (state_of l) ≡ l
unfolding loop_kept
kept_same l = rw (kind_back l.kind, arguments_back l.arguments) refl

pub loop_back : (l : State) → is_short l ≡ true → loop_of (loop_kept l) ≡ l
unfolding loop_kept loop_of
loop_back l e = rw (message_back l.message, values_back l.arguments e) refl

pub values_few : (a : Arguments) → length (values_of a) ≤ 3
values_few Arguments.None = omega arith
values_few (Arguments.One u) = omega arith
values_few (Arguments.Two u v) = omega arith
values_few (Arguments.Three u v w) = omega arith

-- ---- a loop that begins

pub begins_same : (p : Program) (s : Store) (k : LoopKind) (r : Value) (args : List Value) → loop_begins s (started p s (message_of k) r args) ≡ (nat_le (length args) 3 && may_begin s (message_of k) r)
begins_same p s LoopKind.WhileTrue r args = refl
begins_same p s LoopKind.WhileFalse r args = refl
begins_same p s LoopKind.TimesRepeat r args = refl
begins_same p s LoopKind.ToDo r args = refl
begins_same p s LoopKind.ToByDo r args = refl
begins_same p s LoopKind.Do r args = refl
begins_same p s LoopKind.DoSeparatedBy r args = refl
begins_same p s LoopKind.ReverseDo r args = refl
begins_same p s LoopKind.KeysAndValuesDo r args = refl
begins_same p s LoopKind.KeysDo r args = refl
begins_same p s LoopKind.InjectInto r args = refl
begins_same p s LoopKind.Detect r args = refl
begins_same p s LoopKind.DetectIfNone r args = refl
begins_same p s LoopKind.AnySatisfy r args = refl
begins_same p s LoopKind.AllSatisfy r args = refl
begins_same p s LoopKind.Collect r args = refl
begins_same p s LoopKind.Select r args = refl
begins_same p s LoopKind.Reject r args = refl
begins_same p s LoopKind.Includes r args = refl
begins_same p s LoopKind.OccurrencesOf r args = refl
begins_same p s LoopKind.IndexOf r args = refl
begins_same p s LoopKind.AddToSet r args = refl
begins_same p s LoopKind.Remove r args = refl
begins_same p s LoopKind.RemoveIfAbsent r args = refl
begins_same p s LoopKind.At r args = refl
begins_same p s LoopKind.AtIfAbsent r args = refl
begins_same p s LoopKind.AtPut r args = refl
begins_same p s LoopKind.AtIfAbsentPut r args = refl
begins_same p s LoopKind.IncludesKey r args = refl
begins_same p s LoopKind.RemoveKey r args = refl
begins_same p s LoopKind.RemoveKeyIfAbsent r args = refl
begins_same p s LoopKind.EqualElements r args = refl
begins_same p s LoopKind.NotEqual r args = refl
