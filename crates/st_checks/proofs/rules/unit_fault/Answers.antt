use Rattle.std.proofs.Common.{◌≡◌, ◌∙◌, sym, ap, subst, IfOk, Option}
use Rattle.st_checks.specs.Faults.{fault_in}
use Rattle.st_checks.specs.StaticRules.{Fault, unit_fault}
use Rattle.st_checks.proofs.UnitFaults.{unit_fault-version, unit_fault-comment, unit_fault-class, unit_fault-global_variable, unit_fault-global_constant, unit_fault-pool, unit_fault-pool_variable, unit_fault-pool_constant, unit_fault-method, unit_fault-class_method, unit_fault-initializer, unit_fault-pool_initializer, unit_fault-program}
use Rattle.st_checks.proofs.rules.unit_fault.Goals as goal

pub returns-in-Class : goal.returns-in-Class
returns-in-Class c = subst (λ (x : Option Fault). IfOk c.class_fault.result (λ b. fault_in b ≡ x)) (sym (unit_fault-class c.args.table.now c.args.n c.in-Class.class) ∙ ap (unit_fault c.args.table.now c.args.n) (sym c.in-Class.is)) c.class_fault.ensures

pub returns-in-GlobalVariable : goal.returns-in-GlobalVariable
returns-in-GlobalVariable c = c.name_fault.ensures ∙ sym (unit_fault-global_variable c.args.table.now c.args.n c.in-GlobalVariable.name) ∙ ap (unit_fault c.args.table.now c.args.n) (sym c.in-GlobalVariable.is)

pub returns-in-GlobalConstant : goal.returns-in-GlobalConstant
returns-in-GlobalConstant c = c.name_fault-in-GlobalConstant.ensures ∙ sym (unit_fault-global_constant c.args.table.now c.args.n c.in-GlobalConstant.name) ∙ ap (unit_fault c.args.table.now c.args.n) (sym c.in-GlobalConstant.is)

pub returns-in-Pool : goal.returns-in-Pool
returns-in-Pool c = c.name_fault-in-Pool.ensures ∙ sym (unit_fault-pool c.args.table.now c.args.n c.in-Pool.name) ∙ ap (unit_fault c.args.table.now c.args.n) (sym c.in-Pool.is)

pub returns-in-PoolVariable : goal.returns-in-PoolVariable
returns-in-PoolVariable c = c.pool_name_fault.ensures ∙ sym (unit_fault-pool_variable c.args.table.now c.args.n c.in-PoolVariable.pool c.in-PoolVariable.name) ∙ ap (unit_fault c.args.table.now c.args.n) (sym c.in-PoolVariable.is)

pub returns-in-PoolConstant : goal.returns-in-PoolConstant
returns-in-PoolConstant c = c.pool_name_fault-in-PoolConstant.ensures ∙ sym (unit_fault-pool_constant c.args.table.now c.args.n c.in-PoolConstant.pool c.in-PoolConstant.name) ∙ ap (unit_fault c.args.table.now c.args.n) (sym c.in-PoolConstant.is)

pub returns-in-Initializer : goal.returns-in-Initializer
returns-in-Initializer c = subst (λ (x : Option Fault). IfOk c.initializer_fault.result (λ b. fault_in b ≡ x)) (sym (unit_fault-initializer c.args.table.now c.args.n c.in-Initializer.target c.in-Initializer.body) ∙ ap (unit_fault c.args.table.now c.args.n) (sym c.in-Initializer.is)) c.initializer_fault.ensures

pub returns-in-PoolInitializer : goal.returns-in-PoolInitializer
returns-in-PoolInitializer c = subst (λ (x : Option Fault). IfOk c.pool_initializer_fault.result (λ b. fault_in b ≡ x)) (sym (unit_fault-pool_initializer c.args.table.now c.args.n c.in-PoolInitializer.pool c.in-PoolInitializer.name c.in-PoolInitializer.body) ∙ ap (unit_fault c.args.table.now c.args.n) (sym c.in-PoolInitializer.is)) c.pool_initializer_fault.ensures

pub returns-in-ProgramInitializer : goal.returns-in-ProgramInitializer
returns-in-ProgramInitializer c = subst (λ (x : Option Fault). IfOk c.program_fault.result (λ b. fault_in b ≡ x)) (sym (unit_fault-program c.args.table.now c.args.n c.in-ProgramInitializer.body) ∙ ap (unit_fault c.args.table.now c.args.n) (sym c.in-ProgramInitializer.is)) c.program_fault.ensures

pub returns-in-Method : goal.returns-in-Method
returns-in-Method c = subst (λ (x : Option Fault). IfOk c.method_fault.result (λ b. fault_in b ≡ x)) (sym (unit_fault-method c.args.table.now c.args.n c.in-Method.class c.in-Method.method) ∙ ap (unit_fault c.args.table.now c.args.n) (sym c.in-Method.is)) c.method_fault.ensures

pub returns-in-ClassMethod : goal.returns-in-ClassMethod
returns-in-ClassMethod c = subst (λ (x : Option Fault). IfOk c.method_fault-in-ClassMethod.result (λ b. fault_in b ≡ x)) (sym (unit_fault-class_method c.args.table.now c.args.n c.in-ClassMethod.class c.in-ClassMethod.method) ∙ ap (unit_fault c.args.table.now c.args.n) (sym c.in-ClassMethod.is)) c.method_fault-in-ClassMethod.ensures

pub returns-in-Version : goal.returns-in-Version
returns-in-Version c = sym (unit_fault-version c.args.table.now c.args.n c.in-Version.field-0) ∙ ap (unit_fault c.args.table.now c.args.n) (sym c.in-Version.is)

pub returns-in-Comment : goal.returns-in-Comment
returns-in-Comment c = sym (unit_fault-comment c.args.table.now c.args.n c.in-Comment.field-0) ∙ ap (unit_fault c.args.table.now c.args.n) (sym c.in-Comment.is)
