use Rattle.std.proofs.Common.{refl}
use Rattle.st_code.proofs.Written.{statement-value, statement-return}
use Rattle.st_compiler.proofs.walk.is_return.Goals as goal

pub returns-in-Value : goal.returns-in-Value
returns-in-Value c = rw (c.in-Value.is, statement-value c.in-Value.field-0) refl

pub returns-in-Return : goal.returns-in-Return
returns-in-Return c = rw (c.in-Return.is, statement-return c.in-Return.field-0) refl
