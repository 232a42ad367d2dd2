use Rattle.std.proofs.Common.{◌∙◌, sym, vec_items}
use Rattle.std.specs.Str.{bytes_eq}
use Rattle.st_names.proofs.Places.{position-map}
use Rattle.st_names.proofs.names.Names.find.Goals as goal

pub returns-in-Some : goal.returns-in-Some
returns-in-Some c = rw (← c.self.view_is) (c.in-Some.ensures.index ∙ sym (position-map vec_items (bytes_eq c.args.text.now) c.self.inside.set.keys))

pub returns-in-None : goal.returns-in-None
returns-in-None c = rw (← c.self.view_is) (c.in-None.ensures.index ∙ sym (position-map vec_items (bytes_eq c.args.text.now) c.self.inside.set.keys))
