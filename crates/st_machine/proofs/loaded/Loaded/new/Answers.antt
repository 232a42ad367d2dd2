use Rattle.std.proofs.Common.{◌≡◌, List, map, ap, sym, ◌∙◌, arith}
use Rattle.st_code.specs.Compiled.{Compiled, seen_code, compile_of}
use Rattle.program_image.specs.Finding.{program_of_image}
use Rattle.st_machine.specs.Plans.{limits_of, program_from, are_short}
use Rattle.st_machine.proofs.loaded.Loaded.new.Goals as goal

pub with_no_sends-requires : goal.with_no_sends-requires
unfolding program_of_image
with_no_sends-requires c =
    let codes : map seen_code c.codes.result.now ≡ compile_of (program_from c.args.program c.args.limits) = c.codes.ensures (limits_of c.args.limits) in
    let count : c.literals.result ≡ (program_from c.args.program c.args.limits).trouble_place = c.literals.ensures (limits_of c.args.limits) in
    record {
      short = sym (ap (λ (cs : List Compiled). are_short cs) codes) ∙ sym c.are_short.ensures ∙ c.if-not-are_short.false;
      numbered = omega (arith, count);
    }
