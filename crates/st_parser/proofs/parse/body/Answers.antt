use Rattle.std.proofs.Common.{◌≡◌, ◌∙◌, sym, ap, subst}
use Rattle.st_tree.specs.Symbols.{syms}
use Rattle.st_tree.specs.Grammar.{ABody, BodyTree}
use Rattle.st_parser.specs.Made.{Makes}
use Rattle.st_parser.proofs.Found.{parses, refuses}
use Rattle.st_parser.proofs.parse.body.Goals as goal

pub returns-in-Err-clause-fault : goal.returns-in-Err-clause-fault
returns-in-Err-clause-fault c = refuses ABody c.args.text.now c.as_slice-tokens.result.now c.args.lexed.now.fault c.in-Err.stop c.in-Err.ensures.fault (c.as_slice-tokens.ensures.value ∙ c.requires.tokens) c.requires.spoiled

pub returns-in_ok-body_tree-in-Ok-clause-tree : goal.returns-in_ok-body_tree-in-Ok-clause-tree
returns-in_ok-body_tree-in-Ok-clause-tree c =
    let made : Makes ABody (syms c.args.text.now c.as_slice-tokens.result.now) (BodyTree c.in_ok-body_tree-in-Ok.field-0) = c.in_ok-body_tree-in-Ok.ensures in
    parses ABody c.args.text.now c.as_slice-tokens.result.now c.args.lexed.now.fault (BodyTree c.in_ok-body_tree-in-Ok.field-0) c.in-Ok.ensures.clean made (c.as_slice-tokens.ensures.value ∙ c.requires.tokens) c.requires.spoiled
