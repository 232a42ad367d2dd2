-- Keys are equal where their texts are, and ask what the definitions ask.
use Rattle.std.proofs.Common.{◌≡◌, List, [], refl}
use Rattle.st_base.specs.declared.builtins.MethodSide.{MethodSide}
use Rattle.st_base.specs.declared.builtins.MethodSide.TheVariants as sides
use Rattle.std.specs.List.{list_any, find}
use Rattle.st_checks.proofs.Places.{list_any-same, find-same}
use Rattle.st_tree.specs.declared.units.UnitKind.TheVariants as kinds
use Rattle.st_tree.specs.declared.units.Unit.{Unit}
use Rattle.st_checks.specs.Declarations.{Text, declares_class, declares_global, declares_pool, declares_in_pool, defines_method, initializes, initializes_in_pool}
use Rattle.st_checks.specs.contracts.key.KeyPartialEq.TheImpl.{eq-value}
use Rattle.st_checks.specs.contracts.key.SortPartialEq.TheImpl as sort_eq
use Rattle.st_checks.specs.declared.key.Sort.{Sort}
use Rattle.st_checks.specs.declared.key.Sort.TheVariants as sorts
use Rattle.st_checks.specs.declared.key.Key.{Key}
use Rattle.st_checks.specs.Keys.{text_key, key, same_sort, same_key, method_sort, has_key}

pub eq-sorts : (a b : Sort) → sort_eq.eq-value.it a b ≡ same_sort a b
eq-sorts sorts.Class b = elim b as (λ b. sort_eq.eq-value.it sorts.Class b ≡ same_sort sorts.Class b) [ sorts.Class ↦ refl | _ ↦ refl ]
eq-sorts sorts.Global b = elim b as (λ b. sort_eq.eq-value.it sorts.Global b ≡ same_sort sorts.Global b) [ sorts.Class ↦ refl | _ ↦ refl ]
eq-sorts sorts.Pool b = elim b as (λ b. sort_eq.eq-value.it sorts.Pool b ≡ same_sort sorts.Pool b) [ sorts.Class ↦ refl | _ ↦ refl ]
eq-sorts sorts.PoolName b = elim b as (λ b. sort_eq.eq-value.it sorts.PoolName b ≡ same_sort sorts.PoolName b) [ sorts.Class ↦ refl | _ ↦ refl ]
eq-sorts sorts.Method b = elim b as (λ b. sort_eq.eq-value.it sorts.Method b ≡ same_sort sorts.Method b) [ sorts.Class ↦ refl | _ ↦ refl ]
eq-sorts sorts.ClassMethod b = elim b as (λ b. sort_eq.eq-value.it sorts.ClassMethod b ≡ same_sort sorts.ClassMethod b) [ sorts.Class ↦ refl | _ ↦ refl ]
eq-sorts sorts.Initializer b = elim b as (λ b. sort_eq.eq-value.it sorts.Initializer b ≡ same_sort sorts.Initializer b) [ sorts.Class ↦ refl | _ ↦ refl ]
eq-sorts sorts.PoolInitializer b = elim b as (λ b. sort_eq.eq-value.it sorts.PoolInitializer b ≡ same_sort sorts.PoolInitializer b) [ sorts.Class ↦ refl | _ ↦ refl ]

pub eq-keys : (a b : Key) → eq-value.it a b ≡ same_key (text_key a) (text_key b)
eq-keys a b = rw (← eq-sorts a.sort b.sort) refl

pub has_key-class : (name : Text) (u : Unit) → has_key (key sorts.Class [] name) u ≡ declares_class name u
has_key-class name u = elim u.kind as (λ k. has_key (key sorts.Class [] name) (record u { kind = k }) ≡ declares_class name (record u { kind = k })) [ kinds.Class c ↦ refl | _ ↦ refl ]

pub has_key-global : (name : Text) (u : Unit) → has_key (key sorts.Global [] name) u ≡ declares_global name u
has_key-global name u = elim u.kind as (λ k. has_key (key sorts.Global [] name) (record u { kind = k }) ≡ declares_global name (record u { kind = k })) [ kinds.GlobalVariable t ↦ refl | _ ↦ refl ]

pub has_key-pool : (name : Text) (u : Unit) → has_key (key sorts.Pool [] name) u ≡ declares_pool name u
has_key-pool name u = elim u.kind as (λ k. has_key (key sorts.Pool [] name) (record u { kind = k }) ≡ declares_pool name (record u { kind = k })) [ kinds.Pool t ↦ refl | _ ↦ refl ]

pub has_key-in_pool : (pool name : Text) (u : Unit) → has_key (key sorts.PoolName pool name) u ≡ declares_in_pool pool name u
has_key-in_pool pool name u = elim u.kind as (λ k. has_key (key sorts.PoolName pool name) (record u { kind = k }) ≡ declares_in_pool pool name (record u { kind = k })) [ kinds.PoolVariable p t ↦ refl | _ ↦ refl ]

pub has_key-initializer : (name : Text) (u : Unit) → has_key (key sorts.Initializer [] name) u ≡ initializes name u
has_key-initializer name u = elim u.kind as (λ k. has_key (key sorts.Initializer [] name) (record u { kind = k }) ≡ initializes name (record u { kind = k })) [ kinds.Initializer t b ↦ refl | _ ↦ refl ]

pub has_key-pool_initializer : (pool name : Text) (u : Unit) → has_key (key sorts.PoolInitializer pool name) u ≡ initializes_in_pool pool name u
has_key-pool_initializer pool name u = elim u.kind as (λ k. has_key (key sorts.PoolInitializer pool name) (record u { kind = k }) ≡ initializes_in_pool pool name (record u { kind = k })) [ kinds.PoolInitializer p t b ↦ refl | _ ↦ refl ]

pub has_key-method : (class : Text) (side : MethodSide) (selector : Text) (u : Unit) → has_key (key (method_sort side) class selector) u ≡ defines_method class side selector u
has_key-method class sides.Instance selector u = elim u.kind as (λ k. has_key (key sorts.Method class selector) (record u { kind = k }) ≡ defines_method class sides.Instance selector (record u { kind = k })) [ kinds.Method c m ↦ refl | _ ↦ refl ]
has_key-method class sides.Class selector u = elim u.kind as (λ k. has_key (key sorts.ClassMethod class selector) (record u { kind = k }) ≡ defines_method class sides.Class selector (record u { kind = k })) [ kinds.Method c m ↦ refl | _ ↦ refl ]

pub any-class : (name : Text) (units : List Unit) → list_any (has_key (key sorts.Class [] name)) units ≡ list_any (declares_class name) units
any-class name units = list_any-same (has_key (key sorts.Class [] name)) (declares_class name) (has_key-class name) units

pub any-global : (name : Text) (units : List Unit) → list_any (has_key (key sorts.Global [] name)) units ≡ list_any (declares_global name) units
any-global name units = list_any-same (has_key (key sorts.Global [] name)) (declares_global name) (has_key-global name) units

pub any-pool : (name : Text) (units : List Unit) → list_any (has_key (key sorts.Pool [] name)) units ≡ list_any (declares_pool name) units
any-pool name units = list_any-same (has_key (key sorts.Pool [] name)) (declares_pool name) (has_key-pool name) units

pub any-in_pool : (pool name : Text) (units : List Unit) → list_any (has_key (key sorts.PoolName pool name)) units ≡ list_any (declares_in_pool pool name) units
any-in_pool pool name units = list_any-same (has_key (key sorts.PoolName pool name)) (declares_in_pool pool name) (has_key-in_pool pool name) units

pub any-initializer : (name : Text) (units : List Unit) → list_any (has_key (key sorts.Initializer [] name)) units ≡ list_any (initializes name) units
any-initializer name units = list_any-same (has_key (key sorts.Initializer [] name)) (initializes name) (has_key-initializer name) units

pub any-pool_initializer : (pool name : Text) (units : List Unit) → list_any (has_key (key sorts.PoolInitializer pool name)) units ≡ list_any (initializes_in_pool pool name) units
any-pool_initializer pool name units = list_any-same (has_key (key sorts.PoolInitializer pool name)) (initializes_in_pool pool name) (has_key-pool_initializer pool name) units

pub any-method : (class : Text) (side : MethodSide) (selector : Text) (units : List Unit) → list_any (has_key (key (method_sort side) class selector)) units ≡ list_any (defines_method class side selector) units
any-method class side selector units = list_any-same (has_key (key (method_sort side) class selector)) (defines_method class side selector) (has_key-method class side selector) units

pub find-class : (name : Text) (units : List Unit) → find (has_key (key sorts.Class [] name)) units ≡ find (declares_class name) units
find-class name units = find-same (has_key (key sorts.Class [] name)) (declares_class name) (has_key-class name) units

pub find-global : (name : Text) (units : List Unit) → find (has_key (key sorts.Global [] name)) units ≡ find (declares_global name) units
find-global name units = find-same (has_key (key sorts.Global [] name)) (declares_global name) (has_key-global name) units

pub find-in_pool : (pool name : Text) (units : List Unit) → find (has_key (key sorts.PoolName pool name)) units ≡ find (declares_in_pool pool name) units
find-in_pool pool name units = find-same (has_key (key sorts.PoolName pool name)) (declares_in_pool pool name) (has_key-in_pool pool name) units
