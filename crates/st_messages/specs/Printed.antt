-- The pieces of symbols and of the texts of exceptions.
use Rattle.std.specs.Prelude.{ℕ, Bool, ◌||◌, List, [], ◌∷◌, if◌then◌else◌}
use Rattle.object_heap.specs.declared.value.Value.{Value}
use Rattle.object_heap.specs.declared.value.Value.TheVariants.{Symbol, Class, Meta}
use Rattle.st_code.specs.Program.{Program, name_at}
use Rattle.st_code.specs.Texts.{Text, is_identifier, is_keywords, is_operators}
use Rattle.st_messages.specs.declared.pieces.Piece.{Piece}
use Rattle.st_messages.specs.declared.pieces.Words.{Words}

-- a symbol of this text needs no quotes
abbrev pub is_bare : Text → Bool
is_bare t = is_identifier t || is_keywords t || is_operators t

abbrev pub symbol_pieces : Bool → (name : ℕ) → List Piece
symbol_pieces bare name =
    if bare then Piece.Nothing ∷ Piece.Nothing ∷ Piece.Byte 35 ∷ Piece.Name name ∷ []
    else Piece.Byte 35 ∷ Piece.Byte 39 ∷ Piece.DoubledName name ∷ Piece.Byte 39 ∷ []

-- the name of a class or metaclass, and what stands behind it
abbrev pub class_piece : Value → Piece
class_piece (Class class) = Piece.ClassName class
class_piece (Meta class) = Piece.ClassName class
class_piece v = Piece.Nothing

abbrev pub class_suffix : Value → Piece
class_suffix (Meta class) = Piece.Words Words.Class
class_suffix v = Piece.Nothing

-- what a class doesn't understand
abbrev pub missed_symbol : Bool → (class : Value) → (name : ℕ) → List Piece
missed_symbol bare class name =
    if bare then class_piece class ∷ class_suffix class ∷ Piece.Words Words.NotUnderstood ∷ Piece.Nothing ∷ Piece.Nothing ∷ Piece.Byte 35 ∷ Piece.Name name ∷ []
    else class_piece class ∷ class_suffix class ∷ Piece.Words Words.NotUnderstood ∷ Piece.Byte 35 ∷ Piece.Byte 39 ∷ Piece.DoubledName name ∷ Piece.Byte 39 ∷ []

abbrev pub missed_pieces : Program → (class selector : Value) → List Piece
missed_pieces p class (Symbol name) = missed_symbol (is_bare (name_at p name)) class name
missed_pieces p class v = Piece.Nothing ∷ Piece.Nothing ∷ Piece.Nothing ∷ Piece.Nothing ∷ class_piece class ∷ class_suffix class ∷ Piece.Words Words.NotUnderstood ∷ []

abbrev pub alone : Piece → List Piece
alone piece = Piece.Nothing ∷ Piece.Nothing ∷ Piece.Nothing ∷ Piece.Nothing ∷ Piece.Nothing ∷ Piece.Nothing ∷ piece ∷ []
