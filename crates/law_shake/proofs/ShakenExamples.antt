-- What is kept of two programs: by what is sent, and by a symbol that is performed.
use Rattle.std.proofs.Common.{◌≡◌, pos, [], ◌∷◌, refl, true, codes}
use Rattle.st_code.specs.Texts.{Text, same_text}
use Rattle.st_code.specs.Program.{NoIndexes}
use Rattle.st_code.specs.Named.{IntegerLiteral, SymbolLiteral, NameOf, SelfName, LiteralOf, OperandOf, no_operands, more_operands, NamedMessages, none_sent, then_sent, ExprOf, no_statements, more_statements, NamedPrimary, NamedBody, NamedUnit, ClassUnit, ProgramUnit, MethodUnit}
use Rattle.st_shake.specs.Needed.{always_needed, closure}
use Rattle.law_shake.specs.Kept.{shaken_units}

abbrev says : Text → NamedMessages → NamedMessages
says selector row = then_sent selector no_operands row

abbrev returned : NamedPrimary → NamedMessages → NamedBody
returned primary row = record { temporaries = []; statements = more_statements true (ExprOf [] (OperandOf primary row) none_sent) no_statements }

abbrev method : Text → NamedBody → NamedUnit
method selector body = MethodUnit (codes "Q") (record { selector = selector; parameters = []; body = body })

abbrev class : NamedUnit
class = ClassUnit (record { name = codes "Q"; superclass = codes "Object"; indexed = NoIndexes; instance_names = []; class_names = []; pools = []; class_instance_names = [] })

abbrev a : NamedUnit
a = method (codes "a") (returned (LiteralOf (IntegerLiteral (pos 1))) none_sent)

abbrev b : NamedUnit
b = method (codes "b") (returned SelfName (says (codes "c") none_sent))

abbrev c : NamedUnit
c = method (codes "c") (returned (LiteralOf (IntegerLiteral (pos 2))) none_sent)

-- Transcript show: Q new a printString
abbrev shows : NamedUnit
shows =
    ProgramUnit (returned (NameOf (codes "Transcript")) (then_sent (codes "show:") (more_operands (OperandOf (NameOf (codes "Q")) (says (codes "new") (says (codes "a") (says (codes "printString") none_sent)))) no_operands) none_sent))

-- Q new perform: #b
abbrev performs : NamedUnit
performs =
    ProgramUnit (returned (NameOf (codes "Q")) (says (codes "new") (then_sent (codes "perform:") (more_operands (OperandOf (LiteralOf (SymbolLiteral (codes "b"))) none_sent) no_operands) none_sent)))

shown : shaken_units (class ∷ a ∷ b ∷ c ∷ shows ∷ []) ≡ class ∷ a ∷ shows ∷ []
unfolding always_needed closure same_text
shown = refl

performed : shaken_units (class ∷ a ∷ b ∷ c ∷ performs ∷ []) ≡ class ∷ b ∷ c ∷ performs ∷ []
unfolding always_needed closure same_text
performed = refl
