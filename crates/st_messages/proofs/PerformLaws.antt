-- What `perform:` and its kin do.
use Rattle.std.proofs.Common.{◌≡◌, ℕ, ◌-◌, Bool, true, false, List, [], ◌∷◌, length, nat_eq, refl, ap, sym, ◌∙◌, arith, if◌then◌else◌}
use Rattle.std.proofs.lemmas.Bool.{eq-eqb, ne_eqb}
use Rattle.object_heap.specs.declared.trouble.Trouble.TheVariants.{WrongNumberOfArguments, SymbolExpected, CollectionExpected}
use Rattle.object_heap.specs.declared.value.Value.{Value}
use Rattle.object_heap.specs.declared.value.Value.TheVariants.{Symbol}
use Rattle.object_heap.specs.Store.{Store}
use Rattle.st_code.specs.BuiltIns.{array_class}
use Rattle.st_code.specs.Messages.{ObjectMessage}
use Rattle.st_code.specs.Program.{Program, name_at}
use Rattle.st_code.specs.Texts.{arity}
use Rattle.st_collections.specs.Actions.{Action, Fails, Sends, first, second}
use Rattle.st_collections.specs.Kinds.{is_a, slots_of}
use Rattle.st_collections.specs.ObjectRows.{object_action}
use Rattle.st_messages.specs.Replies.{behind}

length-behind : (vs : List Value) → length (behind vs) ≡ length vs - 1
length-behind [] = refl
length-behind (v ∷ vs) = omega arith

-- what is performed with so many values
abbrev pub performs : Program → Value → ℕ → List Value → Action
performs p r name values = if nat_eq (arity (name_at p name)) (length values) then Sends name r values else Fails WrongNumberOfArguments

abbrev performed : Program → Value → Value → List Value → Action
performed p r (Symbol name) values = performs p r name values
performed p r v values = Fails SymbolExpected

abbrev performed_with : Program → Store → Value → Value → Value → Action
performed_with p s r (Symbol name) array = if is_a s array_class array then performs p r name (slots_of s array) else Fails CollectionExpected
performed_with p s r v array = Fails SymbolExpected

pub perform-is : (p : Program) (s : Store) (r : Value) (args : List Value) (name : ℕ) → first args ≡ Symbol name → object_action p s ObjectMessage.Perform r args ≡ performs p r name (behind args)
unfolding object_action
perform-is p s r args name e = ap (λ (v : Value). performed p r v (behind args)) e

pub perform_with-is : (p : Program) (s : Store) (r : Value) (args : List Value) (name : ℕ) → first args ≡ Symbol name → is_a s array_class (second args) ≡ true → object_action p s ObjectMessage.PerformWithArguments r args ≡ performs p r name (slots_of s (second args))
unfolding object_action
perform_with-is p s r args name e h =
    ap (λ (v : Value). performed_with p s r v (second args)) e ∙ ap (λ (b : Bool). if b then performs p r name (slots_of s (second args)) else Fails CollectionExpected) h

by_test : (b : Bool) (x y : Action) → b ≡ true → (if b then x else y) ≡ x
by_test true x y h = refl
by_test false x y h = cc

by_other : (b : Bool) (x y : Action) → b ≡ false → (if b then x else y) ≡ y
by_other true x y h = cc
by_other false x y h = refl

pub performs-right : (p : Program) (r : Value) (name : ℕ) (values : List Value) → arity (name_at p name) ≡ length values → performs p r name values ≡ Sends name r values
performs-right p r name values e = by_test (nat_eq (arity (name_at p name)) (length values)) (Sends name r values) (Fails WrongNumberOfArguments) (eq-eqb (arity (name_at p name)) (length values) e)

pub performs-wrong : (p : Program) (r : Value) (name : ℕ) (values : List Value) → (arity (name_at p name) ≡ length values → ⊥) → performs p r name values ≡ Fails WrongNumberOfArguments
performs-wrong p r name values h = by_other (nat_eq (arity (name_at p name)) (length values)) (Sends name r values) (Fails WrongNumberOfArguments) (ne_eqb (arity (name_at p name)) (length values) h)

-- the same, by the count of the arguments
pub behind-right : (vs : List Value) (n : ℕ) → n ≡ length vs - 1 → n ≡ length (behind vs)
behind-right vs n e = e ∙ sym (length-behind vs)

pub behind-wrong : (vs : List Value) (n : ℕ) → (n ≡ length vs - 1 → ⊥) → n ≡ length (behind vs) → ⊥
behind-wrong vs n h e = h (e ∙ length-behind vs)
