-- What the tests of collections tell.
use Rattle.std.proofs.Common.{◌≡◌, true, refl, arith}
use Rattle.std.proofs.lemmas.Bool.Decides.{nat_tests}
use Rattle.object_heap.specs.declared.value.Value.{Value}
use Rattle.object_heap.specs.declared.value.Value.TheVariants.{Nil, True, False, Integer, Character, Symbol, Class, Meta, Transcript, Object}
use Rattle.object_heap.specs.Store.{Store}
use Rattle.st_collections.specs.Items.{IsMeasured, is_measured}
use Rattle.st_collections.specs.Ordered.{IsOrdered, is_ordered}

pub measured_so : (s : Store) (v : Value) → is_measured s v ≡ true → IsMeasured s v
unfolding is_measured
measured_so s (Object n) e = grind (arith, nat_tests)
measured_so s Nil e = tt
measured_so s True e = tt
measured_so s False e = tt
measured_so s (Integer n) e = tt
measured_so s (Character n) e = tt
measured_so s (Symbol n) e = tt
measured_so s (Class n) e = tt
measured_so s (Meta n) e = tt
measured_so s Transcript e = tt

pub so_measured : (s : Store) (v : Value) → IsMeasured s v → is_measured s v ≡ true
unfolding is_measured
so_measured s (Object n) h = grind (arith, nat_tests)
so_measured s Nil h = refl
so_measured s True h = refl
so_measured s False h = refl
so_measured s (Integer n) h = refl
so_measured s (Character n) h = refl
so_measured s (Symbol n) h = refl
so_measured s (Class n) h = refl
so_measured s (Meta n) h = refl
so_measured s Transcript h = refl

pub ordered_so : (s : Store) (v : Value) → is_ordered s v ≡ true → IsOrdered s v
unfolding is_ordered
ordered_so s (Object n) e = grind (arith, nat_tests)
ordered_so s Nil e = tt
ordered_so s True e = tt
ordered_so s False e = tt
ordered_so s (Integer n) e = tt
ordered_so s (Character n) e = tt
ordered_so s (Symbol n) e = tt
ordered_so s (Class n) e = tt
ordered_so s (Meta n) e = tt
ordered_so s Transcript e = tt

pub so_ordered : (s : Store) (v : Value) → IsOrdered s v → is_ordered s v ≡ true
unfolding is_ordered
so_ordered s (Object n) h = grind (arith, nat_tests)
so_ordered s Nil h = refl
so_ordered s True h = refl
so_ordered s False h = refl
so_ordered s (Integer n) h = refl
so_ordered s (Character n) h = refl
so_ordered s (Symbol n) h = refl
so_ordered s (Class n) h = refl
so_ordered s (Meta n) h = refl
so_ordered s Transcript h = refl
