-- What is told of an ending: the class and the text of an exception that nothing handled.
use Rattle.std.specs.Prelude.{[]}
use Rattle.object_heap.specs.declared.value.Value.TheVariants.{Object}
use Rattle.object_heap.specs.Store.{Store, object_at}
use Rattle.st_code.specs.Texts.{Text}
use Rattle.st_code.specs.Program.{Program, class_at}
use Rattle.st_collections.specs.Kinds.{exception_text}
use Rattle.st_rules.specs.State.{Limit}
use Rattle.st_rules.specs.Runs.{Ending, Done, Unhandled, AtLimit, Stuck}

pub data Told : Type 0 where
  ToldDone ToldStuck : Told
  ToldUnhandled : (class text : Text) → Told
  ToldLimit : Limit → Told

abbrev pub told : Program → Store → Ending → Told
told p s Done = ToldDone
told p s (Unhandled (Object number)) = ToldUnhandled (class_at p (object_at number s).class).name (exception_text p s number)
told p s (Unhandled v) = ToldUnhandled [] []
told p s (AtLimit l) = ToldLimit l
told p s Stuck = ToldStuck
