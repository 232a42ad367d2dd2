use Rattle.std.proofs.Common.{◌∙◌, ap, sym, Bor, not, List, ℕ, map, cond, ◌++◌, ◌∷◌, []}
use Rattle.std.specs.List.{list_any}
use Rattle.std.specs.Str.{bytes_eq}
use Rattle.st_checks.proofs.Places.{list_any-map}
use Rattle.st_checks.proofs.NameLists.{insert_key-texts}
use Rattle.st_checks.proofs.lists.NameSet.add.Goals as goal

pub returns-clause-added : goal.returns-clause-added
returns-clause-added c = c.in_ok-insert.ensures.added ∙ ap not (sym (list_any-map (λ (k : Bor (List ℕ)). k.now) (bytes_eq c.args.name.now) c.self.inside.names.keys) ∙ ap (list_any (bytes_eq c.args.name.now)) c.self.view_is)

pub returns-clause-names : goal.returns-clause-names
returns-clause-names c =
    ap (map (λ (k : Bor (List ℕ)). k.now)) c.in_ok-insert.ensures.keys
    ∙ insert_key-texts (λ (k : Bor (List ℕ)). k.now) c.self.inside.names.keys c.args.name
    ∙ ap (λ (names : List (List ℕ)). cond (list_any (bytes_eq c.args.name.now) names) names (names ++ c.args.name.now ∷ [])) c.self.view_is
