-- So the symbols in objects and in the program's variables are named, in each state of the flat machine's run.
use Rattle.std.proofs.Common.{◌≡◌, ℕ, ◌<◌, length, map, get_or, List, refl, sym, ap, ◌∙◌, subst}
use Rattle.object_heap.specs.declared.value.Value.{Value}
use Rattle.object_heap.specs.declared.value.Value.TheVariants.{Nil, Symbol}
use Rattle.object_heap.specs.Store.{Object as HeapObject, no_object, object_at}
use Rattle.st_code.specs.Definitions.{program_of}
use Rattle.st_code.specs.Program.{Program}
use Rattle.st_code.specs.Texts.{Text}
use Rattle.st_code.specs.Written.{named_units}
use Rattle.program_image.specs.Spelled.{names_in}
use Rattle.st_rules.specs.Compilable.{Compilable}
use Rattle.st_rules.specs.Flat.{FlatBody}
use Rattle.st_rules.specs.Flattened.{flat_of}
use Rattle.st_rules.specs.Machine.{Mach, Run, Settle, Begin, Over, Stuck}
use Rattle.st_rules.specs.Scoped.{ScopedBody, scoped}
use Rattle.st_rules.specs.State.{State}
use Rattle.st_rules.specs.Turns.{Top, On, Ended, opened_run, top_iter}
use Rattle.st_rules.proofs.AimedRun.{NotStuck, run_follows, run_never}
use Rattle.st_rules.proofs.FlatTop.{TopFollows}
use Rattle.st_rules.proofs.SoundProgram.{programs_are_compilable}
use Rattle.law_shake.specs.Renaming.{Renaming, object, placed, ren, ren_state, ren_top}
use Rattle.law_shake.proofs.Lookups.{object_read}
use Rattle.law_shake.proofs.Spreading.{map_read}
use Rattle.law_values.specs.BuiltRun.{top_state}
use Rattle.law_values.specs.NamedSymbols.{HasNamed, NamesSymbols, HeldSymbolsAreNamed}
use Rattle.law_values.proofs.NamedSymbols.{symbols_are_named}

-- ---- a scoped state

abbrev scoped_state : Mach ScopedBody → State
scoped_state (Run x acts st) = st
scoped_state (Settle o acts st) = st
scoped_state (Begin u acts st) = st
scoped_state (Over o st) = st
scoped_state (Stuck st) = st

abbrev top_scoped : Top ScopedBody → State
top_scoped (On target xs m) = scoped_state m
top_scoped (Ended e st) = st

state_ren : (x : Renaming) (t : Top ScopedBody) → top_scoped (ren_top x t) ≡ ren_state x (top_scoped t)
state_ren x (On target xs (Run b acts st)) = refl
state_ren x (On target xs (Settle o acts st)) = refl
state_ren x (On target xs (Begin u acts st)) = refl
state_ren x (On target xs (Over o st)) = refl
state_ren x (On target xs (Stuck st)) = refl
state_ren x (Ended e st) = refl

module _ (names : List Text) (t : Top ScopedBody) (h : HasNamed names t) where
  states_alike : ren_state h.one (top_scoped t) ≡ ren_state h.other (top_scoped t)
  states_alike = sym (state_ren h.one t) ∙ ap top_scoped h.alike ∙ state_ren h.other t

  symbol_named : (k : ℕ) → ren h.one (Symbol k) ≡ ren h.other (Symbol k) → k < length names
  symbol_named k e = h.told_apart k (number (h.one.symbol k) (h.other.symbol k) e)
    where
      number : (a b : ℕ) → ◌≡◌ {A = Value} (Symbol a) (Symbol b) → a ≡ b
      number a b e = cc

  value_named : (v : Value) (k : ℕ) → ren h.one v ≡ ren h.other v → v ≡ Symbol k → k < length names
  value_named v k e f = symbol_named k (ap (ren h.one) (sym f) ∙ e ∙ ap (ren h.other) f)

  list_alike : (vs : List Value) (i : ℕ) → map (ren h.one) vs ≡ map (ren h.other) vs → ren h.one (get_or vs i Nil) ≡ ren h.other (get_or vs i Nil)
  list_alike vs i e = sym (map_read (ren h.one) vs i Nil) ∙ ap (λ ws. get_or ws i Nil) e ∙ map_read (ren h.other) vs i Nil

  slots_alike : (n : ℕ) → map (ren h.one) (object_at n (top_scoped t).store).slots ≡ map (ren h.other) (object_at n (top_scoped t).store).slots
  slots_alike n =
      let s = (top_scoped t).store in
      ap (λ o. o.slots) (sym (object_read h.one s n))
      ∙ ap (λ st. (object_at (object h.one n) st.store).slots) states_alike
      ∙ ap (λ pattern. (object_at (placed pattern n) (ren_state h.other (top_scoped t)).store).slots) h.same_objects
      ∙ ap (λ o. o.slots) (object_read h.other s n)

  -- a state with the objects and variables of this one
  names_held : (p : Program) (st : State) → p.names ≡ names → st.store.objects ≡ (top_scoped t).store.objects → st.variables ≡ (top_scoped t).variables → NamesSymbols p st
  names_held p st e f g =
      record {
        slots = λ n i k same. subst (λ ns. k < length ns) (sym e) (value_named (get_or (object_at n (top_scoped t).store).slots i Nil) k (list_alike (object_at n (top_scoped t).store).slots i (slots_alike n)) (ap (λ os. get_or (get_or os n no_object).slots i Nil) (sym f) ∙ same));
        variables = λ i k same. subst (λ ns. k < length ns) (sym e) (value_named (get_or (top_scoped t).variables i Nil) k (list_alike (top_scoped t).variables i (ap (λ (st : State). st.variables) states_alike)) (ap (λ vs. get_or vs i Nil) (sym g) ∙ same));
      }

-- ---- the flat machine's state has the objects and variables of the scoped one's

module _ (p : Program) (ok : Compilable p) where
  pub record SameHeld (t' : Top FlatBody) (t : Top ScopedBody) : Type 0 where
    pub objects : (top_state t').store.objects ≡ (top_scoped t).store.objects
    pub variables : (top_state t').variables ≡ (top_scoped t).variables

  abbrev objects_of : Top FlatBody → List HeapObject
  objects_of t = (top_state t).store.objects

  abbrev variables_of : Top FlatBody → List Value
  variables_of t = (top_state t).variables

  same_held : (t' : Top FlatBody) (t : Top ScopedBody) → TopFollows p ok t' t → NotStuck p ok t → SameHeld t' t
  same_held t' (On target xs (Stuck st)) h s = absurd s
  same_held t' (On target xs (Run x acts st)) h s = let e = h.1 ∙ ap (λ m. On target xs m) h.2.1.0 in record { objects = ap objects_of e; variables = ap variables_of e }
  same_held t' (On target xs (Settle o acts st)) h s = let e = h.1 ∙ ap (λ m. On target xs m) h.2.1.0 in record { objects = ap objects_of e; variables = ap variables_of e }
  same_held t' (On target xs (Begin u acts st)) h s = let e = h.1 ∙ ap (λ m. On target xs m) h.2.1.0 in record { objects = ap objects_of e; variables = ap variables_of e }
  same_held t' (On target xs (Over o st)) h s = let e = h.1 ∙ ap (λ m. On target xs m) h.2.1.0 in record { objects = ap objects_of e; variables = ap variables_of e }
  same_held t' (Ended d st) h s = let e = (h s).1 in record { objects = ap objects_of e; variables = ap variables_of e }

  pub same_at : (n : ℕ) → SameHeld (top_iter (flat_of p) p n (opened_run (flat_of p) p)) (top_iter (scoped p) p n (opened_run (scoped p) p))
  same_at n = same_held _ _ (run_follows p ok n) (run_never p ok n)

pub held_symbols_are_named : HeldSymbolsAreNamed
held_symbols_are_named units limits steps =
    let p = program_of (names_in (named_units units)) (named_units units) limits in
    let same = same_at p (programs_are_compilable (names_in (named_units units)) (named_units units) limits) steps in
    names_held p.names (top_iter (scoped p) p steps (opened_run (scoped p) p)) (symbols_are_named units limits steps) p (top_state (top_iter (flat_of p) p steps (opened_run (flat_of p) p))) refl same.objects same.variables
