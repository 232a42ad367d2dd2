-- The pieces, one after another.
use Rattle.std.proofs.Common.{◌≡◌, ◌++◌, ℕ, List, append_assoc, decimal, codes}
use Rattle.st_gen.specs.Generated.{class_begins, class_ends, method_text, lines_of}
use Rattle.st_gen.proofs.lines.add_lines.Goals as goal

pieces : (old a n b c d v e : List ℕ) → ((((old ++ (a ++ n)) ++ (b ++ n)) ++ (c ++ n)) ++ (d ++ v)) ++ e ≡ old ++ (a ++ n ++ b ++ n ++ c ++ n ++ d ++ v ++ e)
pieces old a n b c d v e = simp append_assoc

pub returns : goal.returns
unfolding lines_of
returns c = rw (c.in_ok-extend_from_slice.ensures.items, c.in_ok-add-4.ensures, c.in_ok-add-3.ensures, c.in_ok-add-2.ensures, c.in_ok-add.ensures) (pieces c.args.text.now.items class_begins (decimal c.args.number) class_ends method_text (codes " new run: ") (decimal c.args.value) (codes ") printString; cr!\n"))
