use Rattle.std.proofs.Common.{◌≡◌, ℕ, Option, Some, None, Err, refl, ap, sym, subst, ◌∙◌, reverse, drop, length, get_or, IfErr, OnOk}
use Rattle.st_base.specs.declared.tokens.Token.{Token}
use Rattle.st_base.specs.declared.tokens.TokenKind.TheVariants as kind
use Rattle.st_parser.specs.Scan.{apply_turn, turn_at, ends_at}
use Rattle.st_parser.specs.Finding.{fault_from, fault_here, fault_end, is_out_of_range, class_at, Stops, Passes}
use Rattle.st_parser.proofs.Ahead.{passed, stopped, at_end}
use Rattle.st_parser.proofs.check.check.Goals as goal

abbrev none : Token
none = record { kind = kind.Identifier; start = 0; end = 0 }

pub tokens-preserved : goal.tokens-preserved
tokens-preserved c =
    let t : Token = get_or c.args.tokens.now c.tokens.token-index none in
    let e : apply_turn (turn_at c.tokens.now c.class_at.result) (reverse c.tokens.levels) ≡ Some (c.in-Ok.next, reverse c.pass.new.levels) = c.in-Ok.ensures.0 in
    let f : fault_here (is_out_of_range c.tokens.now t) (length (reverse c.pass.new.levels)) ≡ None = c.in-Ok.ensures.1 in
    c.tokens.invariant ∙ passed c.args.text.now c.args.spoiled c.args.tokens.now c.tokens.now c.in-Ok.next (reverse c.tokens.levels) (reverse c.pass.new.levels) c.tokens.token-index t none c.tokens-test.true refl
    (ap (λ k. apply_turn (turn_at c.tokens.now k) (reverse c.tokens.levels)) (sym c.class_at.ensures) ∙ e) f

pub returns-in-Err-clause-fault : goal.returns-in-Err-clause-fault
returns-in-Err-clause-fault c =
    let t : Token = get_or c.args.tokens.now c.tokens.token-index none in
    let k : c.class_at.result ≡ class_at c.args.text.now t = c.class_at.ensures in
    let p : Passes (is_out_of_range c.tokens.now t) t (apply_turn (turn_at c.tokens.now (class_at c.args.text.now t)) (reverse c.tokens.levels)) (Err c.in-Err.stop) (reverse c.pass.new.levels)
    = subst (λ k. Passes (is_out_of_range c.tokens.now t) t (apply_turn (turn_at c.tokens.now k) (reverse c.tokens.levels)) (Err c.in-Err.stop) (reverse c.pass.new.levels)) k c.in-Err.ensures in
    subst (λ f. Stops f c.in-Err.stop) (sym c.tokens.invariant)
    (stopped c.args.text.now c.args.spoiled c.args.tokens.now c.tokens.now (reverse c.tokens.levels) (reverse c.pass.new.levels) c.tokens.token-index t none c.in-Err.stop c.tokens-test.true refl p)

pub tokens-init : goal.tokens-init
tokens-init c = ap (λ hs. fault_from c.args.text.now c.args.spoiled c.args.start (reverse hs) c.args.tokens.now) (sym c.new-levels.ensures)

pub returns : goal.returns
returns c =
    let e = c.tokens.invariant ∙ at_end c.args.text.now c.args.spoiled c.args.tokens.now c.tokens.now (reverse c.tokens.levels) c.tokens.token-index c.tokens-test.false
    ∙ ap (fault_end (length c.args.text.now) c.args.spoiled) (sym c.ends.ensures) in
    record {
      clean = subst (λ f. OnOk c.fault_end.result (f ≡ None)) (sym e) c.fault_end.ensures.clean;
      fault = subst (λ f. IfErr c.fault_end.result (λ x. Stops f x)) (sym e) c.fault_end.ensures.fault;
    }
