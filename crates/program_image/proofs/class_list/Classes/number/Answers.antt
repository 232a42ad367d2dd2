use Rattle.std.proofs.Common.{rules, ◌≡◌, ◌<◌, map, length, arith, sym, ◌∙◌}
use Rattle.std.proofs.lemmas.List.{length-map}
use Rattle.st_code.specs.Resolved.{class_in}
use Rattle.program_image.specs.Classes.{seen_class}
use Rattle.program_image.proofs.Places.{class_in-below}
use Rattle.program_image.proofs.Walks.{if-some}
use Rattle.program_image.proofs.class_list.Classes.number.Goals as goal

pub returns-clause-there : goal.returns-clause-there
returns-clause-there c =
    let place : c.copied.result ≡ class_in 0 (map seen_class c.args.self.now) c.args.name.now = search rules in
    let count = length-map c.args.self.now seen_class in
    if-some c.copied.result (λ n. n < length c.args.self.now) (λ k is. let low = class_in-below (map seen_class c.args.self.now) c.args.name.now 0 k (sym place ∙ is) in omega (arith, low, count))
