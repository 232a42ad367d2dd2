-- What a report says of an exception that nothing handled.
use Rattle.std.specs.Prelude.{List, [], ◌++◌, codes}
use Rattle.object_heap.specs.declared.value.Value.{Value}
use Rattle.object_heap.specs.declared.value.Value.TheVariants.{Object}
use Rattle.object_heap.specs.Store.{Store, object_at}
use Rattle.st_code.specs.Texts.{Text}
use Rattle.st_code.specs.Program.{Program, class_at}
use Rattle.st_collections.specs.Kinds.{exception_text}

-- the name of its class, and its text
abbrev pub unhandled_text : Program → Store → Value → Text
unhandled_text p s (Object number) = (class_at p (object_at number s).class).name ++ (codes ": " ++ exception_text p s number)
unhandled_text p s v = []
