use Rattle.std.proofs.Common.{◌≡◌, ◌∙◌, refl, take, ◌-◌, ◌+◌, ℕ, length, arith, ◌≤◌}
use Rattle.std.proofs.lemmas.List.{length-take-le}
use Rattle.sif_chunks.proofs.WindowLemmas.{slice_filled, piece_fits}
use Rattle.sif_chunks.proofs.window.Window.refill.Goals as goal

pub returns-else-self-gt-MAX_INPUT-clause-bytes : goal.returns-else-self-gt-MAX_INPUT-clause-bytes
returns-else-self-gt-MAX_INPUT-clause-bytes g c =
    let count : ℕ = c.in-Ok.count in
    let size : length (take count c.take_with.new.into) ≡ count = length-take-le count c.take_with.new.into c.in-Ok.ensures.bytes.fits in
    let fits : c.self.inside.end - c.self.inside.start + count ≤ c.copy_within.new.self.len =
    piece_fits c.deref_mut.result.now c.take_with.new.into (c.self.inside.end - c.self.inside.start) _ count c.copy_within.new.self.len c.in-Ok.ensures.bytes.fits c.take_with.auto.into c.deref_mut.ensures.len (omega (arith, c.copy_within.ensures.len, c.self.inside.bytes.ok.0, c.self.invariant.within)) in
    rw (← c.self.view_is) (
      (
        take count c.take_with.new.into,
        record {
          some = omega arith;
          pending = slice_filled c.self.inside.bytes.items c.deref_mut.result.now c.take_with.new.into _ c.self.inside.start c.self.inside.end (c.self.inside.end - c.self.inside.start + c.max-room.result - (c.self.inside.end - c.self.inside.start)) count c.copy_within.new.self.len c.self.invariant.order c.self.invariant.within (c.deref_mut.ensures.value ∙ c.copy_within.ensures.items) c.in-Ok.ensures.bytes.fits fits;
          taken = rw size refl;
          bytes = c.in-Ok.ensures.bytes.bytes;
        },
      ),
      c.if-self-gt-MAX_INPUT.false,
    )
