use Rattle.std.proofs.Common.{◌∙◌, ap, sym, Bor, List, ℕ}
use Rattle.std.specs.List.{list_any}
use Rattle.std.specs.Str.{bytes_eq}
use Rattle.st_compiler.proofs.Mentioned.{list_any-map}
use Rattle.st_compiler.proofs.names.NameSet.contains.Goals as goal

pub returns : goal.returns
returns c = c.contains.ensures ∙ sym (list_any-map (λ (k : Bor (List ℕ)). k.now) (bytes_eq c.args.name.now) c.self.inside.names.keys) ∙ ap (list_any (bytes_eq c.args.name.now)) c.self.view_is
