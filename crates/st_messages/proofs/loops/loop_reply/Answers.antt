use Rattle.std.proofs.Common.{◌∙◌, refl, sym}
use Rattle.st_collections.specs.Loops.{loop_action}
use Rattle.st_loops.specs.Kinds.{message_of}
use Rattle.st_loops.proofs.Begun.{troubled, untroubled}
use Rattle.st_messages.proofs.loops.loop_reply.Goals as goal

pub returns-in-Some : goal.returns-in-Some
returns-in-Some c = record {
  reply = λ p s m. rw (c.answer_trouble.ensures, troubled (loop_action p s (message_of c.args.kind) c.args.receiver c.args.arguments.now) c.in-Some.trouble (sym (c.first_trouble.ensures p s c.args.receiver) ∙ c.in-Some.is)) refl;
  kept = λ p s m. rw (troubled (loop_action p s (message_of c.args.kind) c.args.receiver c.args.arguments.now) c.in-Some.trouble (sym (c.first_trouble.ensures p s c.args.receiver) ∙ c.in-Some.is)) refl;
  settled = rw c.answer_trouble.ensures refl;
}

pub returns-in-None : goal.returns-in-None
returns-in-None c = record {
  reply = λ p s m. rw (untroubled p s (message_of c.args.kind) c.args.receiver c.args.arguments.now (sym (c.first_trouble.ensures p s c.args.receiver) ∙ c.in-None.is)) refl;
  kept = λ p s m. rw (untroubled p s (message_of c.args.kind) c.args.receiver c.args.arguments.now (sym (c.first_trouble.ensures p s c.args.receiver) ∙ c.in-None.is)) refl;
  settled = refl;
}
