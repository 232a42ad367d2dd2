use Rattle.std.proofs.Common.{◌≡◌, ◌∷◌, ◌∙◌, ◌+◌, [], ℕ, List, drop, get_or, length, refl, ap, arith}
use Rattle.std.proofs.lemmas.List.{drop_all}
use Rattle.std.proofs.lemmas.Result.{err_from_is_err_and}
use Rattle.st_code.specs.Texts.{quotes_doubled}
use Rattle.st_transcript.proofs.Gaining.{Wrote, wrote_first, wrote_more, wrote_last, wrote_part, next_doubled}
use Rattle.st_transcript.proofs.bytes.put_doubled.Goals as goal

pub loop-byte-init : goal.loop-byte-init
loop-byte-init g c = record { wrote = wrote_first _ _ _ refl; faults = refl }

pub returns-in_err-put_doubled_byte-clause-text : goal.returns-in_err-put_doubled_byte-clause-text
returns-in_err-put_doubled_byte-clause-text g c =
    let p = err_from_is_err_and c.from_residual.result c.from_residual.ensures.1 in
    let i = c.loop-byte.byte-index in
    let bytes = c.args.bytes.now in
    rw p.1 (wrote_part (quotes_doubled bytes) (quotes_doubled (get_or bytes i 0 ∷ [])) (quotes_doubled (drop (i + 1) bytes)) _ _ _ (rw (next_doubled bytes i c.loop-byte-test.true) at c.loop-byte.invariant.wrote) c.in_err-put_doubled_byte.ensures.text)

pub loop-byte-preserved : goal.loop-byte-preserved
loop-byte-preserved g c =
    let i = c.loop-byte.byte-index in
    let bytes = c.args.bytes.now in
    record {
      wrote = wrote_more (quotes_doubled bytes) (quotes_doubled (get_or bytes i 0 ∷ [])) (quotes_doubled (drop (i + 1) bytes)) _ _ _ (rw (next_doubled bytes i c.loop-byte-test.true) at c.loop-byte.invariant.wrote) c.in_ok-put_doubled_byte.ensures.text;
      faults = c.in_ok-put_doubled_byte.ensures.cause.kept ∙ c.loop-byte.invariant.faults;
    }

pub returns-clause-text : goal.returns-clause-text
unfolding quotes_doubled
returns-clause-text g c =
    let bytes = c.args.bytes.now in
    let none : drop c.loop-byte.byte-index bytes ≡ [] = drop_all c.loop-byte.byte-index bytes (omega arith) in
    wrote_last (quotes_doubled bytes) _ _ (rw none at c.loop-byte.invariant.wrote)
