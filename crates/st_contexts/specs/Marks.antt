-- What an activation is for, as its mark, and what it has of a body or of an `on:do:`.
use Rattle.std.specs.Prelude.{ℕ, Option, Some, None}
use Rattle.st_contexts.specs.declared.activation.Activation.{Activation}
use Rattle.st_contexts.specs.declared.activation.Activation.TheVariants.{Body, Leaving, Protect, EnsureOn, CurtailOn, ActionOff, Signal, HandlerRun, Outer, ResumeWait, HandlesWait, Loop}
use Rattle.st_contexts.specs.declared.activation.Mark.{Mark}
use Rattle.st_contexts.specs.declared.activation.Frame.{Frame}
use Rattle.st_contexts.specs.declared.activation.Env.{Env}
use Rattle.st_contexts.specs.declared.activation.Entry.{Entry}

abbrev pub mark_in : Activation → Mark
mark_in (Body f) = Mark.Plain
mark_in (Leaving f) = Mark.Plain
mark_in (Protect r s h) = Mark.Protect
mark_in (EnsureOn b) = Mark.Ensure
mark_in (CurtailOn b) = Mark.Curtail
mark_in (ActionOff o) = Mark.Action
mark_in (Signal e) = Mark.SignalPoint
mark_in (HandlerRun t) = Mark.HandlerRun
mark_in Outer = Mark.OuterPoint
mark_in (ResumeWait w n t) = Mark.Wait
mark_in (HandlesWait s e) = Mark.Wait
mark_in (Loop l) = Mark.Loop

-- what a body runs
abbrev pub frame_in : Activation → Option Frame
frame_in (Body f) = Some f
frame_in (Leaving f) = Some f
frame_in _ = None

-- the entry that an `on:do:` of this number and with this outside stands for
abbrev pub entry_of : ℕ → Activation → Env → Option Entry
entry_of n (Protect r s h) env = Some (record { protect = n; selector = s; handler = h; outside = env })
entry_of n _ env = None
