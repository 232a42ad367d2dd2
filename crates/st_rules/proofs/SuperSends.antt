-- Which operands are self, as the code pushes them, and what is asked of sends to super.
use Rattle.std.proofs.Common.{◌≡◌, ℕ, zero, suc, Bool, true, false, List, [], ◌∷◌}
use Rattle.st_code.specs.declared.instruction.Instruction.{Instruction}
use Rattle.st_code.specs.declared.instruction.Instruction.TheVariants.{PushConstant, PushSelf, PushVariable, Store as StoreVariable, Pop, Dup, Send, SuperSend, MakeBlock, MethodReturn, HomeReturn, BlockEnd}

-- which of the operands that a code's instructions have pushed are self, from the last on
abbrev pub flag_at : ℕ → List Bool → Bool
flag_at n [] = false
flag_at zero (b ∷ flags) = b
flag_at (suc n) (b ∷ flags) = flag_at n flags

abbrev pub rest_of : List Bool → List Bool
rest_of [] = []
rest_of (b ∷ flags) = flags

abbrev pub behind_so_many : ℕ → List Bool → List Bool
behind_so_many zero flags = flags
behind_so_many (suc n) flags = behind_so_many n (rest_of flags)

-- each send to super has self as its receiver
abbrev pub SendsToSelf : List Instruction → List Bool → Type 0
SendsToSelf [] flags = Unit {0}
SendsToSelf (PushConstant c ∷ is) flags = SendsToSelf is (false ∷ flags)
SendsToSelf (PushSelf ∷ is) flags = SendsToSelf is (true ∷ flags)
SendsToSelf (PushVariable v ∷ is) flags = SendsToSelf is (false ∷ flags)
SendsToSelf (StoreVariable v ∷ is) flags = SendsToSelf is flags
SendsToSelf (Pop ∷ is) flags = SendsToSelf is (rest_of flags)
SendsToSelf (Dup ∷ is) flags = SendsToSelf is (flag_at 0 flags ∷ flags)
SendsToSelf (Send selector count ∷ is) flags = SendsToSelf is (false ∷ behind_so_many (suc count) flags)
SendsToSelf (SuperSend selector count ∷ is) flags = (flag_at count flags ≡ true) × SendsToSelf is (false ∷ behind_so_many (suc count) flags)
SendsToSelf (MakeBlock code ∷ is) flags = SendsToSelf is (false ∷ flags)
SendsToSelf (MethodReturn ∷ is) flags = SendsToSelf is (false ∷ rest_of flags)
SendsToSelf (HomeReturn ∷ is) flags = SendsToSelf is (false ∷ rest_of flags)
SendsToSelf (BlockEnd ∷ is) flags = SendsToSelf is (false ∷ rest_of flags)
