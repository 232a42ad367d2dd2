use Rattle.std.proofs.Common.{map}
use Rattle.st_code.specs.Written.{name_text}
use Rattle.st_compiler.proofs.Mentioned.{marked}
use Rattle.st_compiler.proofs.names.NameSet.marks.Goals as goal

pub returns : goal.returns
returns c =
    marked c.args.self.now (map name_text c.args.parameters.now) (map name_text c.args.temporaries.now) c.new-marks.result c.mark_all.new.marks c.mark_all-2.new.marks c.new-marks.ensures c.in_ok-mark_all.ensures c.in_ok-mark_all-2.ensures
