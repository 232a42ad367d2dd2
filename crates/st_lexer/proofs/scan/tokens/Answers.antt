-- One step over the text, by what stands there.
use Rattle.std.proofs.Common.{◌+◌, ◌≤◌, length, refl, arith}
use Rattle.std.proofs.lemmas.List.Elements.{All-push}
use Rattle.st_base.specs.Lexed.{lexed_of, Fits, Lexeme, Gap, Spoiled}
use Rattle.st_lexer.proofs.Scanning.{lexeme_step, gap_step, fits_there, none_yet}
use Rattle.st_lexer.proofs.scan.tokens.Goals as goal

pub loop-at-init : goal.loop-at-init
unfolding lexed_of
loop-at-init c = rw c.new-tokens.ensures.items record { within = omega arith; same = refl; spans = none_yet _ }

pub overflow_add-at : goal.overflow_add-at
overflow_add-at c =
    let fits = fits_there c.args.text.now _ c.loop-at.at (Lexeme c.in-Lexeme.kind c.in-Lexeme.n) refl c.loop-at-test.true c.in-Lexeme.ensures in
    omega (arith, fits.1)

pub overflow_cast-at-in-Lexeme : goal.overflow_cast-at-in-Lexeme
overflow_cast-at-in-Lexeme c =
    let fits = fits_there c.args.text.now _ c.loop-at.at (Lexeme c.in-Lexeme.kind c.in-Lexeme.n) refl c.loop-at-test.true c.in-Lexeme.ensures in
    omega (arith, fits.1)

pub overflow_add-at-in-Lexeme : goal.overflow_add-at-in-Lexeme
overflow_add-at-in-Lexeme c =
    let fits = fits_there c.args.text.now _ c.loop-at.at (Lexeme c.in-Lexeme.kind c.in-Lexeme.n) refl c.loop-at-test.true c.in-Lexeme.ensures in
    omega (arith, fits.1)

pub loop-at-smaller-in-Lexeme : goal.loop-at-smaller-in-Lexeme
loop-at-smaller-in-Lexeme c =
    let fits = fits_there c.args.text.now _ c.loop-at.at (Lexeme c.in-Lexeme.kind c.in-Lexeme.n) refl c.loop-at-test.true c.in-Lexeme.ensures in
    omega (arith, fits.0, fits.1)

pub loop-at-preserved-in-Lexeme : goal.loop-at-preserved-in-Lexeme
loop-at-preserved-in-Lexeme c =
    let fits = fits_there c.args.text.now _ c.loop-at.at (Lexeme c.in-Lexeme.kind c.in-Lexeme.n) refl c.loop-at-test.true c.in-Lexeme.ensures in
    let low : c.loop-at.at + c.in-Lexeme.n ≤ length c.args.text.now = omega (arith, fits.1) in
    rw c.in_ok-push-in-Lexeme.ensures.items record {
      within = low;
      same = lexeme_step c.args.text.now _ c.loop-at.at c.in-Lexeme.n c.in-Lexeme.kind c.loop-at.tokens.items refl c.loop-at-test.true c.loop-at.invariant.same c.in-Lexeme.ensures;
      spans = All-push (Fits c.args.text.now) c.loop-at.tokens.items _ c.loop-at.invariant.spans record { some = omega (arith, fits.0); within = low };
    }

pub overflow_add-at-in-Gap : goal.overflow_add-at-in-Gap
overflow_add-at-in-Gap c =
    let fits = fits_there c.args.text.now _ c.loop-at.at (Gap c.in-Gap.n) refl c.loop-at-test.true c.in-Gap.ensures in
    omega (arith, fits.1)

pub loop-at-smaller : goal.loop-at-smaller
loop-at-smaller c =
    let fits = fits_there c.args.text.now _ c.loop-at.at (Gap c.in-Gap.n) refl c.loop-at-test.true c.in-Gap.ensures in
    omega (arith, fits.0, fits.1)

pub loop-at-preserved : goal.loop-at-preserved
loop-at-preserved c =
    let fits = fits_there c.args.text.now _ c.loop-at.at (Gap c.in-Gap.n) refl c.loop-at-test.true c.in-Gap.ensures in
    record {
      within = omega (arith, fits.1);
      same = gap_step c.args.text.now _ c.loop-at.at c.in-Gap.n c.loop-at.tokens.items refl c.loop-at-test.true c.loop-at.invariant.same c.in-Gap.ensures;
      spans = c.loop-at.invariant.spans;
    }

pub overflow_add-byte : goal.overflow_add-byte
overflow_add-byte c =
    let fits = fits_there c.args.text.now _ c.loop-at.at (Spoiled c.in-Spoiled.reason c.in-Spoiled.n) refl c.loop-at-test.true c.in-Spoiled.ensures in
    omega (arith, fits)

pub overflow_cast-byte : goal.overflow_cast-byte
overflow_cast-byte c =
    let fits = fits_there c.args.text.now _ c.loop-at.at (Spoiled c.in-Spoiled.reason c.in-Spoiled.n) refl c.loop-at-test.true c.in-Spoiled.ensures in
    omega (arith, fits)
