use Rattle.std.proofs.Common.{refl, map, ap, sym}
use Rattle.st_tree.specs.declared.tree.Name.{Name}
use Rattle.st_code.specs.Written.{name_text, named_body, named_method}
use Rattle.program_image.specs.Images.{image_names}
use Rattle.st_compiler.specs.Around.{side_of}
use Rattle.std.proofs.Common.{List}
use Rattle.st_compiler.proofs.Defined.{method-made}
use Rattle.st_compiler.proofs.units.Defining.method.Goals as goal

pub returns-clause-holds : goal.returns-clause-holds
returns-clause-holds c d holds =
    method-made (image_names c.args.self.now.lookups.now) c.args.class (side_of c.args.side) (named_method c.args.method.now) (map name_text c.as_slice-parameters.result.now) (named_body c.args.method.now.body) d c.args.self.now c.top.new.self
    (ap (λ (ns : List Name). map name_text ns) (sym c.as_slice-parameters.ensures)) refl holds c.in_ok-top.ensures.made
