-- Messages, by how many there are.
use Rattle.std.proofs.Common.{◌≡◌, ℕ, suc, ◌+◌, ◌≤◌, Bool, true, false, not, ◌&&◌, List, [], ◌∷◌, map, drop, length, refl, ap, sym, ◌∙◌, arith}
use Rattle.std.proofs.lemmas.Bool.Decides.{nat_tests}
use Rattle.std.proofs.Common.{leb}
use Rattle.std.specs.Prelude.{◌==◌}
use Rattle.st_tree.specs.declared.tree.Message.{Message}
use Rattle.st_tree.specs.declared.tree.Operand.{Operand, out-Operand}
use Rattle.st_tree.specs.declared.tree.Literal.{Literal}
use Rattle.std.proofs.lemmas.List.{drop_all}
use Rattle.st_code.specs.Written.{named_literal, literal_row, named_primary, named_operand, named_messages, named_operands}
use Rattle.st_code.proofs.Written.{operand-out}
use Rattle.st_compiler.specs.declared.draft.Draft.{Draft}
use Rattle.st_compiler.specs.Walked.{is_super, is_short, is_direct, chain_ended, operand_count, objects_in_row}

pub short-length : (chain : List Message) → leb (length chain) 1 ≡ is_short (named_messages chain)
short-length [] = refl
short-length (m ∷ []) = refl
short-length (m ∷ n ∷ chain) = grind (arith, nat_tests)

pub direct-then : (o : Operand) (n : ℕ) → n ≡ length (out-Operand o).chain → true ≡ is_super (named_primary (out-Operand o).primary) → leb n 1 ≡ is_direct (named_operand o)
direct-then o n count is = ap (λ k. leb k 1) count ∙ short-length (out-Operand o).chain ∙ ap (λ b. b && is_short (named_messages (out-Operand o).chain)) is ∙ ap is_direct (sym (operand-out o))

pub direct-else : (o : Operand) (b : Bool) → b ≡ is_super (named_primary (out-Operand o).primary) → b ≡ false → b ≡ is_direct (named_operand o)
direct-else o b is not =
    not ∙ ap (λ c. c && is_short (named_messages (out-Operand o).chain)) (sym not ∙ is) ∙ ap is_direct (sym (operand-out o))

pub operands-count : (os : List Operand) → operand_count (named_operands os) ≡ length os
operands-count [] = refl
operands-count (o ∷ os) = ap suc (operands-count os)

pub ended-not-empty : (to_super kept : Bool) (chain : List Message) (d : Draft) (b : Bool) → b ≡ (length chain == 0) → b ≡ false → d ≡ chain_ended to_super kept (named_messages chain) d
ended-not-empty to_super false chain d b is not = refl
ended-not-empty to_super true [] d b is not = absurd (grind (arith, is, not))
ended-not-empty to_super true (m ∷ chain) d b is not = refl

-- objects that are counted one literal behind the other
pub counted-all : (count i : ℕ) (items : List Literal) → length items ≤ i → count + objects_in_row (literal_row (map named_literal (drop i items))) ≡ 1 + objects_in_row (literal_row (map named_literal items)) → count ≡ 1 + objects_in_row (literal_row (map named_literal items))
counted-all count i items past is =
    let none : objects_in_row (literal_row (map named_literal (drop i items))) ≡ 0 = ap (λ ls. objects_in_row (literal_row (map named_literal ls))) (drop_all i items past) in
    omega (arith, none, is)
