use Rattle.st_tree.specs.Headers.{initializer, pool_initializer, program_initializer, method, class_method}
use Rattle.sif_elements.specs.Told.{makes}
use Rattle.sif_elements.proofs.progress.unit_of.Goals as goal

pub returns-in_ok-body-in-Initializer-clause-unit : goal.returns-in_ok-body-in-Initializer-clause-unit
returns-in_ok-body-in-Initializer-clause-unit c = rw c.in-Initializer.is (makes c.in_ok-body-in-Initializer.ensures.tree initializer)

pub returns-in_ok-body-in-PoolInitializer-clause-unit : goal.returns-in_ok-body-in-PoolInitializer-clause-unit
returns-in_ok-body-in-PoolInitializer-clause-unit c = rw c.in-PoolInitializer.is (makes c.in_ok-body-in-PoolInitializer.ensures.tree pool_initializer)

pub returns-in_ok-body-in-ProgramInitializer-clause-unit : goal.returns-in_ok-body-in-ProgramInitializer-clause-unit
returns-in_ok-body-in-ProgramInitializer-clause-unit c = rw c.in-ProgramInitializer.is (makes c.in_ok-body-in-ProgramInitializer.ensures.tree program_initializer)

pub returns-in_ok-method-in-Method-clause-unit : goal.returns-in_ok-method-in-Method-clause-unit
returns-in_ok-method-in-Method-clause-unit c = rw c.in-Method.is (makes c.in_ok-method-in-Method.ensures.tree method)

pub returns-in_ok-method-in-ClassMethod-clause-unit : goal.returns-in_ok-method-in-ClassMethod-clause-unit
returns-in_ok-method-in-ClassMethod-clause-unit c = rw c.in-ClassMethod.is (makes c.in_ok-method-in-ClassMethod.ensures.tree class_method)
