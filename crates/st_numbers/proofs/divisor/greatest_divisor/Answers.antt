use Rattle.std.proofs.Common.{◌≡◌, ◌<◌, ◌/◌, subst, sym, arith}
use Rattle.std.proofs.lemmas.Nat.Gcd.{IsGcd-from_zero, IsGcd-from_mod, same_from_IsGcd}
use Rattle.st_numbers.specs.Gcd.{gcd}
use Rattle.st_numbers.proofs.GcdLaws.{gcd-is, gcd-positive, gcd-divides_right, part-positive}
use Rattle.st_numbers.proofs.divisor.greatest_divisor.Goals as goal

pub loop-low-preserved : goal.loop-low-preserved
loop-low-preserved c g h = c.loop-low.invariant g (IsGcd-from_mod _ _ g h)

pub returns : goal.returns
returns c =
    let same : c.loop-low.high ≡ gcd c.args.a c.args.b = same_from_IsGcd c.args.a c.args.b _ _ (c.loop-low.invariant _ (IsGcd-from_zero _ _ (omega arith))) (gcd-is c.args.a c.args.b) in
    record {
      divisor = same;
      greatest = c.loop-low.invariant _ (IsGcd-from_zero _ _ (omega arith));
      positive = λ l. subst (λ n. 0 < n) (sym same) (gcd-positive c.args.a c.args.b l);
      part = λ l. subst (λ n. 0 < c.args.b / n) (sym same) (part-positive (gcd c.args.a c.args.b) c.args.b l (gcd-divides_right c.args.a c.args.b));
    }
