-- Codes that end in a return.
use Rattle.std.specs.Prelude.{Bool, true, false, ◌&&◌, List, [], ◌∷◌}
use Rattle.st_code.specs.declared.instruction.Instruction.{Instruction}
use Rattle.st_code.specs.declared.instruction.Instruction.TheVariants as instruction
use Rattle.st_code.specs.Compiled.{Compiled}

-- the answer of a method, of a block's home, or of a block or initializer
abbrev pub is_return : Instruction → Bool
is_return instruction.MethodReturn = true
is_return instruction.HomeReturn = true
is_return instruction.BlockEnd = true
is_return i = false

abbrev pub ends : List Instruction → Bool
ends [] = false
ends (i ∷ []) = is_return i
ends (i ∷ j ∷ is) = ends (j ∷ is)

abbrev pub all_end : List Compiled → Bool
all_end [] = true
all_end (c ∷ codes) = ends c.instructions && all_end codes
