-- A small program's text, computed.
use Rattle.std.proofs.Common.{◌≡◌, ℕ, pos, List, [], ◌∷◌, codes, ap, sym, ◌∙◌, false}
use Rattle.std.specs.Fmt.{digits}
use Rattle.sif_chunks.specs.Writing.{all_closed}
use Rattle.st_tree.specs.declared.tree.Literal.TheVariants as literal
use Rattle.st_tree.specs.declared.tree.Body.{Body}
use Rattle.st_tree.specs.declared.tree.Expr.{Expr}
use Rattle.st_tree.specs.declared.tree.Operand.{Operand}
use Rattle.st_tree.specs.declared.units.UnitKind.TheVariants as kinds
use Rattle.st_tree.specs.Numbers.{unit}
use Rattle.st_tree.specs.Trees.{name, variable, integer, constant, message, operand, expr, body, paren, stated}
use Rattle.sif_export.specs.Words.{Mark, Named, Key, Operator, Number, Str, Joined, laid}
use Rattle.sif_export.specs.declared.sign.Sign.TheVariants as sign
use Rattle.sif_export.specs.TreeWords.{top_words, expr_words}
use Rattle.sif_export.specs.ExportText.{string_text, pair_text, body_text, export_text}
use Rattle.sif_export.proofs.Steps.{literal_in, literal_integer, literal_str, variable_in, body_text-some}
use Rattle.sif_export.proofs.Built.{words-message, words-operand, words-expr, words-paren, words-value}
use Rattle.sif_export.proofs.TextExports.{words-top, empty-body}

abbrev a : List ℕ
a = codes "a"

abbrev three_and_four : Expr
three_and_four = expr [] (operand (constant (integer 3)) (message (codes "+") 0 (operand (constant (integer 4)) [] ∷ []) ∷ [])) []

abbrev first : Expr
first = expr (name a 0 ∷ []) (operand (paren three_and_four) (message (codes "negated") 0 [] ∷ [])) []

abbrev shown : Operand
shown = operand (constant (literal.Str (codes "x!"))) []

abbrev second : Expr
second = expr [] (operand (variable (name (codes "Transcript") 0)) (message (codes "show:") 0 (shown ∷ []) ∷ [])) (message (codes "cr") 0 [] ∷ [])

-- `|a|a:=(3+4)negated. Transcript show:'x!';cr`
abbrev program : Body
program = body (name a 0 ∷ []) (stated false first ∷ stated false second ∷ [])

first_words : expr_words first ≡ Named a ∷ Mark sign.Assign ∷ Mark sign.ParenOpen ∷ Number (pos 3) ∷ Operator (codes "+") ∷ Number (pos 4) ∷ Mark sign.ParenClose ∷ Named (codes "negated") ∷ []
first_words = simp (words-expr, words-operand, words-message, words-paren, literal_in, literal_integer)

second_words : expr_words second ≡ Named (codes "Transcript") ∷ Key (codes "show:") ∷ Str (codes "x!") ∷ Mark sign.Semicolon ∷ Named (codes "cr") ∷ []
second_words = simp (words-expr, words-operand, words-message, variable_in, literal_in, literal_str)

program_words : top_words program ≡ Mark sign.Bar ∷ Named a ∷ Mark sign.BarLine ∷ Named a ∷ Mark sign.Assign ∷ Mark sign.ParenOpen ∷ Number (pos 3) ∷ Operator (codes "+") ∷ Number (pos 4) ∷ Mark sign.ParenClose ∷ Named (codes "negated")
    ∷ Mark sign.PeriodLine ∷ Named (codes "Transcript") ∷ Key (codes "show:") ∷ Str (codes "x!") ∷ Mark sign.Semicolon ∷ Named (codes "cr") ∷ []
program_words = words-top (name a 0 ∷ []) (stated false first ∷ stated false second ∷ []) ∙ simp (words-value, first_words, second_words)

program_text : body_text program ≡ codes "| a |\n\ta := (3 + 4) negated.\n\tTranscript show: 'x!'; cr"
unfolding digits
program_text = body_text-some program (sym (empty-body (name a 0 ∷ []) (stated false first ∷ stated false second ∷ []))) ∙ ap (laid Joined) program_words

pub a_program : export_text (unit (kinds.Version (codes "1.0")) [] ∷ unit (kinds.ProgramInitializer program) [] ∷ []) ≡ codes "Smalltalk interchangeVersion: '1.0'!\nGlobal initializer!\n| a |\n\ta := (3 + 4) negated.\n\tTranscript show: 'x!!'; cr!\n"
unfolding export_text string_text pair_text
a_program = ap (λ t. all_closed (codes "Smalltalk interchangeVersion: '1.0'" ∷ codes "Global initializer" ∷ t ∷ [])) program_text
