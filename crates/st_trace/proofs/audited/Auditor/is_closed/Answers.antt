-- An empty vector is an empty stack.
use Rattle.std.proofs.Common.{◌≡◌, ◌∙◌, ap, sym, length, nat_eq, vec_len, arith}
use Rattle.st_trace.specs.Automaton as automaton
use Rattle.st_trace.proofs.Links.{closed_is}
use Rattle.st_trace.proofs.audited.Auditor.is_closed.Goals as goal

-- src/audited.rt:52:5
pub returns : goal.returns
returns c =
    let size : vec_len c.self.inside.kept.items ≡ length c.self.inside.kept.items.items = omega (arith, c.self.inside.kept.items.ok.0) in
    c.is_empty.ensures ∙ ap (λ n. nat_eq n 0) size ∙ sym (closed_is c.self.inside.kept.items.items) ∙ ap (λ (a : automaton.Auditor). automaton.is_closed a.open') c.self.view_is
