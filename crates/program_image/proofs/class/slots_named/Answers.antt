use Rattle.std.proofs.Common.{refl, codes}
use Rattle.program_image.specs.Classes as seen
use Rattle.program_image.proofs.Places.{bytes_eq-false}
use Rattle.program_image.proofs.class.slots_named.Goals as goal

pub returns-in_default : goal.returns-in_default
unfolding seen.slots_named
returns-in_default c = rw (bytes_eq-false c.args.name.now (codes "Exception") c.in_default.not-Exception, bytes_eq-false c.args.name.now (codes "Error") c.in_default.not-Error, bytes_eq-false c.args.name.now (codes "Notification") c.in_default.not-Notification, bytes_eq-false c.args.name.now (codes "Warning") c.in_default.not-Warning, bytes_eq-false c.args.name.now (codes "Fraction") c.in_default.not-Fraction, bytes_eq-false c.args.name.now (codes "Association") c.in_default.not-Association, bytes_eq-false c.args.name.now (codes "Message") c.in_default.not-Message, bytes_eq-false c.args.name.now (codes "ZeroDivide") c.in_default.not-ZeroDivide, bytes_eq-false c.args.name.now (codes "Interval") c.in_default.not-Interval, bytes_eq-false c.args.name.now (codes "MessageNotUnderstood") c.in_default.not-MessageNotUnderstood) refl

pub returns-in-Exception : goal.returns-in-Exception
unfolding seen.slots_named
returns-in-Exception c = rw c.in-Exception.is-Exception refl

pub returns-in-Exception-2 : goal.returns-in-Exception-2
unfolding seen.slots_named
returns-in-Exception-2 c = rw c.in-Exception.is-Error refl

pub returns-in-Exception-3 : goal.returns-in-Exception-3
unfolding seen.slots_named
returns-in-Exception-3 c = rw c.in-Exception.is-Notification refl

pub returns-in-Exception-4 : goal.returns-in-Exception-4
unfolding seen.slots_named
returns-in-Exception-4 c = rw c.in-Exception.is-Warning refl

pub returns-in-Fraction : goal.returns-in-Fraction
unfolding seen.slots_named
returns-in-Fraction c = rw c.in-Fraction.is-Fraction refl

pub returns-in-Fraction-2 : goal.returns-in-Fraction-2
unfolding seen.slots_named
returns-in-Fraction-2 c = rw c.in-Fraction.is-Association refl

pub returns-in-Fraction-3 : goal.returns-in-Fraction-3
unfolding seen.slots_named
returns-in-Fraction-3 c = rw c.in-Fraction.is-Message refl

pub returns-in-Fraction-4 : goal.returns-in-Fraction-4
unfolding seen.slots_named
returns-in-Fraction-4 c = rw c.in-Fraction.is-ZeroDivide refl

pub returns-in-Interval : goal.returns-in-Interval
unfolding seen.slots_named
returns-in-Interval c = rw c.in-Interval.is-Interval refl

pub returns-in-Interval-2 : goal.returns-in-Interval-2
unfolding seen.slots_named
returns-in-Interval-2 c = rw c.in-Interval.is-MessageNotUnderstood refl
