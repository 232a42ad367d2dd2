-- Names of selectors by number: a number that stands for a name has that name, or none.
use Rattle.std.proofs.Common.{◌≡◌, ℕ, zero, suc, ◌+◌, ◌-◌, ◌≤◌, ◌⊎◌, inl, inr, codes, length, get_or, List, [], ◌∷◌, Bool, true, false, refl, sym, ap, ◌∙◌, arith}
use Rattle.st_code.specs.Program.{Program, name_at, number_of, number_from}
use Rattle.st_code.specs.Texts.{Text, arity, same_text, is_keywords, are_keywords, is_operators, all_bytes, holds_byte, count_byte, is_letter, is_upper, is_lower, is_digit}
use Rattle.st_rules.specs.Rules.{value_selector, sends_equal, sends_default_action, sends_is_resumable, sends_handles, sends_not_understood}
use Rattle.st_rules.proofs.SoundNames.{same_is}
use Rattle.st_sends.specs.Arguments.{Takes}

abbrev NamesIt : List Text → Text → ℕ → ℕ → Type 0
NamesIt names text n k = (k ≡ n + length names) ⊎ ((n ≤ k) × (get_or names (k - n) [] ≡ text))

named_from : (names : List Text) (text : Text) (n : ℕ) → NamesIt names text n (number_from names text n)
named_from [] text n = inl (omega arith)
named_from (t ∷ names) text n = go (same_text t text) refl (named_from names text (n + 1))
  where
    go : (b : Bool) → same_text t text ≡ b → NamesIt names text (n + 1) (number_from names text (n + 1)) → NamesIt (t ∷ names) text n (elim b [ true ↦ n | false ↦ number_from names text (n + 1) ])
    go true e h = inr (omega arith, let z : n - n ≡ 0 = omega arith in ap (λ k. get_or (t ∷ names) k []) z ∙ same_is t text e)
    go false e (inl h) = inl (omega (arith, h))
    go false e (inr h) =
        let k = number_from names text (n + 1) in
        let l : n + 1 ≤ k = h.0 in
        let z : k - n ≡ suc (k - (n + 1)) = omega (arith, l) in
        inr (omega (arith, l), ap (λ i. get_or (t ∷ names) i []) z ∙ h.1)

past_names : (names : List Text) (k : ℕ) → length names ≤ k → get_or names k [] ≡ []
past_names [] k l = refl
past_names (t ∷ names) zero l = let none : ⊥ = omega (arith, l) in absurd none
past_names (t ∷ names) (suc k) l = past_names names k (omega (arith, l))

-- the selector that the rules and the machine send by themselves
pub takes_named : (p : Program) (text : Text) (count : ℕ) → arity text ≡ count → Takes p (number_of p text) count
unfolding name_at number_of
takes_named p text count e = go (named_from p.names text 0)
  where
    go : NamesIt p.names text 0 (number_from p.names text 0) → (count ≡ arity (get_or p.names (number_from p.names text 0) [])) ⊎ (get_or p.names (number_from p.names text 0) [] ≡ [])
    go (inl h) = inr (past_names p.names (number_from p.names text 0) (omega (arith, h)))
    go (inr h) =
        let z : number_from p.names text 0 - 0 ≡ number_from p.names text 0 = omega arith in
        inl (sym e ∙ ap arity (sym (ap (λ k. get_or p.names k []) (sym z) ∙ h.1)))

-- ---- selectors that the rules and the machine send

print_arity : arity (codes "printString") ≡ 0
unfolding arity is_keywords are_keywords is_operators all_bytes holds_byte count_byte is_letter is_upper is_lower is_digit
print_arity = refl

equal_arity : arity (codes "=") ≡ 1
unfolding arity is_keywords are_keywords is_operators all_bytes holds_byte count_byte is_letter is_upper is_lower is_digit
equal_arity = refl

default_arity : arity (codes "defaultAction") ≡ 0
unfolding arity is_keywords are_keywords is_operators all_bytes holds_byte count_byte is_letter is_upper is_lower is_digit
default_arity = refl

resumable_arity : arity (codes "isResumable") ≡ 0
unfolding arity is_keywords are_keywords is_operators all_bytes holds_byte count_byte is_letter is_upper is_lower is_digit
resumable_arity = refl

handles_arity : arity (codes "handles:") ≡ 1
unfolding arity is_keywords are_keywords is_operators all_bytes holds_byte count_byte is_letter is_upper is_lower is_digit
handles_arity = refl

not_understood_arity : arity (codes "doesNotUnderstand:") ≡ 1
unfolding arity is_keywords are_keywords is_operators all_bytes holds_byte count_byte is_letter is_upper is_lower is_digit
not_understood_arity = refl

value_arity : arity (codes "value") ≡ 0
unfolding arity is_keywords are_keywords is_operators all_bytes holds_byte count_byte is_letter is_upper is_lower is_digit
value_arity = refl

value_one_arity : arity (codes "value:") ≡ 1
unfolding arity is_keywords are_keywords is_operators all_bytes holds_byte count_byte is_letter is_upper is_lower is_digit
value_one_arity = refl

value_two_arity : arity (codes "value:value:") ≡ 2
unfolding arity is_keywords are_keywords is_operators all_bytes holds_byte count_byte is_letter is_upper is_lower is_digit
value_two_arity = refl

module _ (p : Program) where
  pub print_takes : Takes p (number_of p (codes "printString")) 0
  print_takes = takes_named p (codes "printString") 0 print_arity

  pub equal_takes : Takes p (sends_equal p) 1
  equal_takes = takes_named p (codes "=") 1 equal_arity

  pub default_takes : Takes p (sends_default_action p) 0
  default_takes = takes_named p (codes "defaultAction") 0 default_arity

  pub resumable_takes : Takes p (sends_is_resumable p) 0
  resumable_takes = takes_named p (codes "isResumable") 0 resumable_arity

  pub handles_takes : Takes p (sends_handles p) 1
  handles_takes = takes_named p (codes "handles:") 1 handles_arity

  pub not_understood_takes : Takes p (sends_not_understood p) 1
  not_understood_takes = takes_named p (codes "doesNotUnderstand:") 1 not_understood_arity

  pub value_takes : (count : ℕ) → count ≤ 2 → Takes p (value_selector p count) count
  value_takes zero l = takes_named p (codes "value") 0 value_arity
  value_takes (suc zero) l = takes_named p (codes "value:") 1 value_one_arity
  value_takes (suc (suc zero)) l = takes_named p (codes "value:value:") 2 value_two_arity
  value_takes (suc (suc (suc n))) l = let none : ⊥ = omega (arith, l) in absurd none
