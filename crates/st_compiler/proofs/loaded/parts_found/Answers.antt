use Rattle.st_compiler.proofs.Loading.{parts-loaded}
use Rattle.st_compiler.proofs.loaded.parts_found.Goals as goal

pub returns : goal.returns
returns c = parts-loaded c.args.lookups.now c.in_ok-definitions.definitions c.parts_from.result c.in_ok-definitions.ensures c.parts_from.ensures
