use Rattle.std.proofs.Common.{◌++◌, codes, refl, ap}
use Rattle.std.proofs.lemmas.Result.{err_from_is_err_and}
use Rattle.object_heap.specs.Store.{object_at}
use Rattle.st_code.specs.Program.{class_at}
use Rattle.st_collections.specs.Kinds.{exception_text}
use Rattle.st_transcript.proofs.Gaining.{Wrote, wrote_first, wrote_more, wrote_part, wrote_end}
use Rattle.st_transcript.proofs.written.put_class_and_text.Goals as goal

pub returns-in_err-put-clause-text : goal.returns-in_err-put-clause-text
returns-in_err-put-clause-text g c =
    let p = err_from_is_err_and c.from_residual.result c.from_residual.ensures.1 in
    let program = g.P.ProgramFacts.meaning c.args.program.now in
    let store = (g.H.Heap.meaning c.args.heap.now).store in
    let text = exception_text program store c.args.exception in
    let name = (class_at program (object_at c.args.exception store).class).name in
    let wrote = rw (c.class_name.ensures, c.class_of.ensures) at c.in_err-put.ensures.text in
    rw p.1 (wrote_part (name ++ (codes ": " ++ text)) name (codes ": " ++ text) _ _ _ (wrote_first _ _ _ refl) wrote)

pub returns-in_err-put-2-clause-text : goal.returns-in_err-put-2-clause-text
returns-in_err-put-2-clause-text g c =
    let p = err_from_is_err_and c.from_residual-in_err-put-2.result c.from_residual-in_err-put-2.ensures.1 in
    let program = g.P.ProgramFacts.meaning c.args.program.now in
    let store = (g.H.Heap.meaning c.args.heap.now).store in
    let text = exception_text program store c.args.exception in
    let name = (class_at program (object_at c.args.exception store).class).name in
    let wrote = rw (c.class_name.ensures, c.class_of.ensures) at c.in_ok-put.ensures.text in
    let first = wrote_more (name ++ (codes ": " ++ text)) name (codes ": " ++ text) _ _ _ (wrote_first _ _ _ refl) wrote in
    rw p.1 (wrote_part (name ++ (codes ": " ++ text)) (codes ": ") text _ _ _ first c.in_err-put-2.ensures.text)

pub returns-clause-text : goal.returns-clause-text
returns-clause-text g c =
    let program = g.P.ProgramFacts.meaning c.args.program.now in
    let store = (g.H.Heap.meaning c.args.heap.now).store in
    let text = exception_text program store c.args.exception in
    let name = (class_at program (object_at c.args.exception store).class).name in
    let wrote = rw (c.class_name.ensures, c.class_of.ensures) at c.in_ok-put.ensures.text in
    let first = wrote_more (name ++ (codes ": " ++ text)) name (codes ": " ++ text) _ _ _ (wrote_first _ _ _ refl) wrote in
    wrote_end (name ++ (codes ": " ++ text)) text _ _ _ c.put_exception.result (wrote_more (name ++ (codes ": " ++ text)) (codes ": ") text _ _ _ first c.in_ok-put-2.ensures.text) c.put_exception.ensures.text
