use Rattle.std.proofs.Common.{◌∙◌, ap, Bor, List, ℕ, map, cond, ◌++◌, ◌∷◌, []}
use Rattle.std.specs.List.{list_any}
use Rattle.std.specs.Str.{bytes_eq}
use Rattle.st_compiler.proofs.Mentioned.{insert_key-texts}
use Rattle.st_compiler.proofs.names.NameSet.add.Goals as goal

pub returns : goal.returns
returns c =
    ap (map (λ (k : Bor (List ℕ)). k.now)) c.in_ok-insert.ensures.keys
    ∙ insert_key-texts (λ (k : Bor (List ℕ)). k.now) c.self.inside.names.keys c.args.name
    ∙ ap (λ (names : List (List ℕ)). cond (list_any (bytes_eq c.args.name.now) names) names (names ++ c.args.name.now ∷ [])) c.self.view_is
