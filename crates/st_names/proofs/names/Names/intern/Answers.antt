use Rattle.std.proofs.Common.{◌∙◌, sym, vec_items}
use Rattle.std.specs.Str.{bytes_eq}
use Rattle.st_names.proofs.Places.{position_or_len-map, insert_key-map, insert_key-there}
use Rattle.st_names.proofs.names.Names.intern.Goals as goal

pub returns-in-Some-clause-names : goal.returns-in-Some-clause-names
returns-in-Some-clause-names c = insert_key-there bytes_eq c.args.self.now c.args.text.now c.in-Some.number c.in-Some.ensures

pub returns-clause-number : goal.returns-clause-number
returns-clause-number c = rw (← c.self.view_is, ← c.in_ok-name.ensures.items) (c.in_ok-index.ensures.index ∙ sym (position_or_len-map vec_items (bytes_eq c.in_ok-name.name.items) c.self.inside.set.keys))

pub returns-clause-names : goal.returns-clause-names
returns-clause-names c = rw (← c.self.view_is, ← c.in_ok-name.ensures.items) (rw c.in_ok-index.ensures.keys (insert_key-map vec_items bytes_eq c.self.inside.set.keys c.in_ok-name.name))
