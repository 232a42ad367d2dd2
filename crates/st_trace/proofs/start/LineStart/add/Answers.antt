-- As many bytes are added as there is room for.
use Rattle.std.proofs.Common.{◌≡◌, ◌≤◌, ◌-◌, ◌++◌, length, take, vec_len, arith, subst}
use Rattle.st_trace.proofs.Opening.{kept_added}
use Rattle.st_trace.proofs.start.LineStart.add.Goals as goal

pub returns : goal.returns
returns c =
    let size : vec_len c.self.inside.bytes ≡ length c.self.inside.bytes.items = omega (arith, c.self.inside.bytes.ok.0) in
    let short : length c.self.inside.bytes.items ≤ 49 = omega (arith, size, c.self.invariant.0) in
    let room : 49 - c.len.result ≡ 49 - length c.self.inside.bytes.items = omega (arith, size, c.len.ensures) in
    subst (λ old. c.extend_from_slice.new.self.items ≡ take 49 (old ++ c.args.run.now)) c.self.view_is
    (kept_added c.self.inside.bytes.items c.args.run.now c.extend_from_slice.new.self.items (49 - c.len.result) c.min-count.result short room c.min-count.ensures c.in-Ok.ensures.items)
