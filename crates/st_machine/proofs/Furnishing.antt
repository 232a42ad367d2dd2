-- The variables of a body that is opened: captured ones in its scope, the others as operands.
use Rattle.std.proofs.Common.{◌≡◌, ℕ, suc, zero, ◌+◌, ◌<◌, ◌≤◌, List, [], ◌∷◌, ◌++◌, length, reverse, replicate, get_or, slice_set, Bool, true, false, nat_lt, Option, None, refl, ap, ◌∙◌, arith}
use Rattle.std.proofs.lemmas.List.{reverse-append, append_assoc, length-append}
use Rattle.std.proofs.lemmas.Bool.Decides.{nat_tests}
use Rattle.object_heap.specs.declared.value.Value.{Value}
use Rattle.object_heap.specs.declared.value.Value.TheVariants.{Nil}
use Rattle.object_heap.specs.declared.value.Closure.{Closure}
use Rattle.object_heap.specs.Store.{Store, Scope, Object, no_scope, with_variable}
use Rattle.st_code.specs.Program.{Program, Body, InBlock, body_at}
use Rattle.st_code.specs.Compiled.{Compiled, any_captured, count_uncaptured, compiled_from, compiled_body, compile_of}
use Rattle.st_contexts.specs.Stack.{Standing}
use Rattle.st_rules.specs.State.{first_variables, count_true}
use Rattle.st_rules.specs.Flat.{own_variables, captured_variables, code_at, no_code}
use Rattle.st_machine.specs.Operands.{own_pushed}
use Rattle.st_machine.specs.Scopes.{captured_put}

-- ---- the code of a body has what the body has

abbrev no_body : Body
no_body = record { kind = InBlock; class = Nil; parameters = 0; captured = []; outer = None; statements = [] }

captured_in : (p : Program) (base n : ℕ) (bodies : List Body) → (get_or (compiled_from p base bodies) n no_code).captured ≡ (get_or bodies n no_body).captured
unfolding compiled_body
captured_in p base n [] = refl
captured_in p base zero (b ∷ bs) = refl
captured_in p base (suc n) (b ∷ bs) = captured_in p (suc base) n bs

class_in : (p : Program) (base n : ℕ) (bodies : List Body) → (get_or (compiled_from p base bodies) n no_code).class ≡ (get_or bodies n no_body).class
unfolding compiled_body
class_in p base n [] = refl
class_in p base zero (b ∷ bs) = refl
class_in p base (suc n) (b ∷ bs) = class_in p (suc base) n bs

parameters_in : (p : Program) (base n : ℕ) (bodies : List Body) → (get_or (compiled_from p base bodies) n no_code).parameters ≡ (get_or bodies n no_body).parameters
unfolding compiled_body
parameters_in p base n [] = refl
parameters_in p base zero (b ∷ bs) = refl
parameters_in p base (suc n) (b ∷ bs) = parameters_in p (suc base) n bs

pub same_captured : (p : Program) (codes : List Compiled) (n : ℕ) → codes ≡ compile_of p → (code_at codes n).captured ≡ (body_at p n).captured
unfolding code_at compile_of body_at
same_captured p codes n is = rw is (captured_in p 0 n p.bodies)

pub same_class : (p : Program) (codes : List Compiled) (n : ℕ) → codes ≡ compile_of p → (code_at codes n).class ≡ (body_at p n).class
unfolding code_at compile_of body_at
same_class p codes n is = rw is (class_in p 0 n p.bodies)

pub same_parameters : (p : Program) (codes : List Compiled) (n : ℕ) → codes ≡ compile_of p → (code_at codes n).parameters ≡ (body_at p n).parameters
unfolding code_at compile_of body_at
same_parameters p codes n is = rw is (parameters_in p 0 n p.bodies)

-- ---- whether a variable is captured

pub none_captured : (cs : List Bool) → count_true cs ≡ 0 → any_captured cs ≡ false
unfolding count_true
none_captured [] e = refl
none_captured (true ∷ cs) e = let none : ⊥ = omega (arith, e) in absurd none
none_captured (false ∷ cs) e = none_captured cs e

pub some_captured : (cs : List Bool) (k : ℕ) → count_true cs ≡ suc k → any_captured cs ≡ true
unfolding count_true
some_captured [] k e = let none : ⊥ = omega (arith, e) in absurd none
some_captured (true ∷ cs) k e = refl
some_captured (false ∷ cs) k e = some_captured cs k e

-- ---- the first operands

below_room : (n m : ℕ) → n < m → nat_lt n m ≡ true
below_room n m l = grind (arith, nat_tests)

turned : (v : Value) (vs ops : List Value) → reverse (v ∷ vs) ++ ops ≡ reverse vs ++ v ∷ ops
turned v vs ops = ap (λ xs. xs ++ ops) (reverse-append (v ∷ []) vs) ∙ append_assoc (reverse vs) (v ∷ []) ops

pub own_operands : (cs : List Bool) (vs : List Value) (a : Standing) (acts : List Standing) (next depth width : ℕ) (ops : List Value) → length ops + count_uncaptured cs ≤ width
    → own_pushed cs vs (record { acts = record { number = a.number; kept = a.kept; env = a.env; operands = ops } ∷ acts; next = next; depth = depth; width = width })
    ≡ record { acts = record { number = a.number; kept = a.kept; env = a.env; operands = reverse (own_variables cs (first_variables cs vs)) ++ ops } ∷ acts; next = next; depth = depth; width = width }
unfolding own_pushed own_variables first_variables
own_operands [] vs a acts next depth width ops l = refl
own_operands (true ∷ cs) [] a acts next depth width ops l = own_operands cs [] a acts next depth width ops l
own_operands (true ∷ cs) (v ∷ vs) a acts next depth width ops l = own_operands cs vs a acts next depth width ops l
own_operands (false ∷ cs) [] a acts next depth width ops l = rw (below_room (length ops) width (omega (arith, l)), turned Nil (own_variables cs (first_variables cs [])) ops) (own_operands cs [] a acts next depth width (Nil ∷ ops) (omega (arith, l)))
own_operands (false ∷ cs) (v ∷ vs) a acts next depth width ops l = rw (below_room (length ops) width (omega (arith, l)), turned v (own_variables cs (first_variables cs vs)) ops) (own_operands cs vs a acts next depth width (v ∷ ops) (omega (arith, l)))

-- ---- the variables of the scope

last_scope : (ss : List Scope) (x : Scope) → get_or (ss ++ x ∷ []) (length ss) no_scope ≡ x
last_scope [] x = refl
last_scope (s ∷ ss) x = last_scope ss x

last_set : {A : Type 0} (xs : List A) (x y : A) (zs : List A) → slice_set (xs ++ x ∷ zs) (length xs) y ≡ xs ++ y ∷ zs
last_set [] x y zs = refl
last_set (z ∷ xs) x y zs = ap (λ r. z ∷ r) (last_set xs x y zs)

abbrev scope_of : ℕ → Option ℕ → List Value → Scope
scope_of code outer vs = record { code = code; outer = outer; variables = vs }

abbrev with_last : List Object → List Closure → List Scope → Scope → Store
with_last os cs ss x = record { objects = os; closures = cs; scopes = ss ++ x ∷ [] }

written : (code : ℕ) (outer : Option ℕ) (os : List Object) (closures : List Closure) (ss : List Scope) (pre : List Value) (old new : Value) (rest : List Value)
    → with_variable (length ss) (length pre) new (with_last os closures ss (scope_of code outer (pre ++ old ∷ rest))) ≡ with_last os closures ss (scope_of code outer (pre ++ new ∷ rest))
written code outer os closures ss pre old new rest = rw (last_scope ss (scope_of code outer (pre ++ old ∷ rest)), last_set pre old new rest, last_set ss (scope_of code outer (pre ++ old ∷ rest)) (scope_of code outer (pre ++ new ∷ rest)) []) refl

more_length : (pre : List Value) (v : Value) → suc (length pre) ≡ length (pre ++ v ∷ [])
more_length pre v = omega (arith, length-append pre (v ∷ []))

pub captured_values : (cs : List Bool) (vs : List Value) (code : ℕ) (outer : Option ℕ) (os : List Object) (closures : List Closure) (ss : List Scope) (pre : List Value)
    → captured_put cs vs (length ss) (length pre) (with_last os closures ss (scope_of code outer (pre ++ replicate (count_true cs) Nil)))
    ≡ with_last os closures ss (scope_of code outer (pre ++ captured_variables cs (first_variables cs vs)))
unfolding captured_put captured_variables first_variables count_true
captured_values [] vs code outer os closures ss pre = refl
captured_values (false ∷ cs) [] code outer os closures ss pre = captured_values cs [] code outer os closures ss pre
captured_values (false ∷ cs) (v ∷ vs) code outer os closures ss pre = captured_values cs vs code outer os closures ss pre
captured_values (true ∷ cs) [] code outer os closures ss pre =
    rw (written code outer os closures ss pre Nil Nil (replicate (count_true cs) Nil), more_length pre Nil, ← append_assoc pre (Nil ∷ []) (replicate (count_true cs) Nil), ← append_assoc pre (Nil ∷ []) (captured_variables cs (first_variables cs [])))
    (captured_values cs [] code outer os closures ss (pre ++ Nil ∷ []))
captured_values (true ∷ cs) (v ∷ vs) code outer os closures ss pre =
    rw (written code outer os closures ss pre Nil v (replicate (count_true cs) Nil), more_length pre v, ← append_assoc pre (v ∷ []) (replicate (count_true cs) Nil), ← append_assoc pre (v ∷ []) (captured_variables cs (first_variables cs vs)))
    (captured_values cs vs code outer os closures ss (pre ++ v ∷ []))
