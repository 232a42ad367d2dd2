-- Each variable of the program that an instruction names is there: a run keeps how many there are.
use Rattle.std.proofs.Common.{◌≡◌, ℕ, zero, suc, List, [], ◌∷◌, length, get_or, slice_get, slice_set, Some, refl, sym, ap, ◌∙◌, subst, arith}
use Rattle.std.proofs.lemmas.List.{length-replicate}
use Rattle.object_heap.specs.declared.value.Value.{Value}
use Rattle.st_code.specs.Texts.{Text}
use Rattle.st_code.specs.declared.instruction.Instruction.{Instruction}
use Rattle.st_code.specs.Program.{Program}
use Rattle.st_code.specs.Compiled.{Compiled, compile_of}
use Rattle.st_rules.specs.Runs.{first_state}
use Rattle.st_rules.specs.Machine.{Run, Settle, Begin, Over, Stuck}
use Rattle.st_rules.specs.Flat.{FlatBody, no_code, code_at, instruction_at}
use Rattle.st_rules.specs.Turns.{Top, On, Ended, top_iter, opened_run}
use Rattle.st_rules.specs.Flattened.{flat_of}
use Rattle.st_rules.specs.Objects.{AllIn, AllCodes, NamesShared, KnowsShared, SharedHas, SharedStands}
use Rattle.st_rules.proofs.Writing.{TopTold, iter_told, opened_told}
use Rattle.st_rules.proofs.SoFar.{flat_told}

-- ---- an instruction of a code

pub in_list : (P : Instruction → Type 0) (is : List Instruction) (n : ℕ) (i : Instruction) → AllIn P is → slice_get is n ≡ Some i → P i
in_list P [] n i h e = let none : ⊥ = grind (arith, e) in absurd none
in_list P (j ∷ is) zero i h e = subst P (same j i e) h.0
  where
    same : (a b : Instruction) → Some a ≡ Some b → a ≡ b
    same a b e = cc
in_list P (j ∷ is) (suc n) i h e = in_list P is n i h.1 e

in_codes : (P : Instruction → Type 0) (cs : List Compiled) (code : ℕ) → AllCodes P cs → AllIn P (get_or cs code no_code).instructions
in_codes P [] code h = tt
in_codes P (c ∷ cs) zero h = h.0
in_codes P (c ∷ cs) (suc code) h = in_codes P cs code h.1

pub fetched_is : (P : Instruction → Type 0) (cs : List Compiled) (x : FlatBody) (i : Instruction) → AllCodes P cs → instruction_at cs x ≡ Some i → P i
unfolding instruction_at code_at
fetched_is P cs x i h e = in_list P (get_or cs x.code no_code).instructions x.position i (in_codes P cs x.code h) e

-- ---- the variables of a run

module _ (p : Program) (known : KnowsShared p) where
  -- there are as many
  abbrev pub AsMany : Text → List Value → Type 0
  AsMany t vs = length vs ≡ p.variables

  set_size : (vs : List Value) (i : ℕ) (v : Value) → length (slice_set vs i v) ≡ length vs
  set_size [] i v = refl
  set_size (u ∷ vs) zero v = refl
  set_size (u ∷ vs) (suc i) v = ap suc (set_size vs i v)

  other : (t : Text) (vs : List Value) (i : ℕ) (v : Value) → AsMany t vs → AsMany t (slice_set vs i v)
  other t vs i v h = set_size vs i v ∙ h

  first_many : AsMany (first_state p).transcript (first_state p).variables
  unfolding first_state
  first_many = length-replicate p.variables _

  pub many : (n : ℕ) → TopTold AsMany (top_iter (flat_of p) p n (opened_run (flat_of p) p))
  many n =
      iter_told (flat_of p) p AsMany (λ t u vs h. h) other (flat_told p AsMany other) n (opened_run (flat_of p) p)
      (opened_told (flat_of p) p AsMany (λ t u vs h. h) other (flat_told p AsMany other) p.initializers (first_state p) first_many)

  shared_has : (t : Top FlatBody) → TopTold AsMany t → SharedHas p t
  shared_has (On target xs (Run x acts st)) h = λ i e. subst (λ n. NamesShared n i) (sym h) (fetched_is (NamesShared p.variables) (compile_of p) x i known e)
  shared_has (On target xs (Settle o acts st)) h = tt
  shared_has (On target xs (Begin u acts st)) h = tt
  shared_has (On target xs (Over o st)) h = tt
  shared_has (On target xs (Stuck st)) h = tt
  shared_has (Ended e st) h = tt

pub shared_stands : SharedStands
shared_stands p known n = shared_has p known (top_iter (flat_of p) p n (opened_run (flat_of p) p)) (many p known n)
