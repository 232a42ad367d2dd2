use Rattle.std.proofs.Common.{◌≡◌, ◌<◌, ◌∷◌, ◌∙◌, ◌+◌, [], ℕ, List, drop, get_or, length, refl, ap, arith}
use Rattle.std.proofs.lemmas.List.{drop_all}
use Rattle.std.proofs.lemmas.Result.{err_from_is_err_and}
use Rattle.object_heap.specs.Store.{object_at}
use Rattle.st_code.specs.Texts.{quotes_doubled}
use Rattle.st_transcript.proofs.Gaining.{Wrote, wrote_first, wrote_more, wrote_last, wrote_part, next_doubled}
use Rattle.st_transcript.proofs.bytes.put_doubled_of.Goals as goal

pub loop-place-init : goal.loop-place-init
loop-place-init g c = record { wrote = wrote_first _ _ _ refl; faults = refl }

pub returns-in_err-put_doubled_byte-clause-text : goal.returns-in_err-put_doubled_byte-clause-text
returns-in_err-put_doubled_byte-clause-text g c =
    let p = err_from_is_err_and c.from_residual.result c.from_residual.ensures.1 in
    let i = c.loop-place.place in
    let bytes = (object_at c.args.object (g.H.Heap.meaning c.args.heap.now).store).bytes in
    let here : i < length bytes = omega arith in
    rw p.1 (wrote_part (quotes_doubled bytes) (quotes_doubled (get_or bytes i 0 ∷ [])) (quotes_doubled (drop (i + 1) bytes)) _ _ _ (rw (next_doubled bytes i here) at c.loop-place.invariant.wrote) (rw c.get_byte.ensures at c.in_err-put_doubled_byte.ensures.text))

pub loop-place-preserved : goal.loop-place-preserved
loop-place-preserved g c =
    let i = c.loop-place.place in
    let bytes = (object_at c.args.object (g.H.Heap.meaning c.args.heap.now).store).bytes in
    let here : i < length bytes = omega arith in
    record {
      wrote = wrote_more (quotes_doubled bytes) (quotes_doubled (get_or bytes i 0 ∷ [])) (quotes_doubled (drop (i + 1) bytes)) _ _ _ (rw (next_doubled bytes i here) at c.loop-place.invariant.wrote) (rw c.get_byte.ensures at c.in_ok-put_doubled_byte.ensures.text);
      faults = c.in_ok-put_doubled_byte.ensures.cause.kept ∙ c.loop-place.invariant.faults;
    }

pub returns-clause-text : goal.returns-clause-text
unfolding quotes_doubled
returns-clause-text g c =
    let bytes = (object_at c.args.object (g.H.Heap.meaning c.args.heap.now).store).bytes in
    let none : drop c.loop-place.place bytes ≡ [] = drop_all c.loop-place.place bytes (omega arith) in
    wrote_last (quotes_doubled bytes) _ _ (rw none at c.loop-place.invariant.wrote)
