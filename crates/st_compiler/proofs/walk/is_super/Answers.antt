use Rattle.std.proofs.Common.{refl}
use Rattle.st_code.proofs.Written.{primary-variable, primary-self, primary-super, primary-literal, primary-block, primary-paren}
use Rattle.st_compiler.proofs.walk.is_super.Goals as goal

pub returns-in-SuperValue : goal.returns-in-SuperValue
returns-in-SuperValue c = rw (c.in-SuperValue.is, primary-super) refl

pub returns-in-Variable : goal.returns-in-Variable
returns-in-Variable c = rw (c.in-Variable.is, primary-variable c.in-Variable.field-0) refl

pub returns-in-SelfValue : goal.returns-in-SelfValue
returns-in-SelfValue c = rw (c.in-SelfValue.is, primary-self) refl

pub returns-in-Literal : goal.returns-in-Literal
returns-in-Literal c = rw (c.in-Literal.is, primary-literal c.in-Literal.field-0) refl

pub returns-in-Block : goal.returns-in-Block
returns-in-Block c = rw (c.in-Block.is, primary-block c.in-Block.field-0) refl

pub returns-in-Paren : goal.returns-in-Paren
returns-in-Paren c = rw (c.in-Paren.is, primary-paren c.in-Paren.field-0) refl
