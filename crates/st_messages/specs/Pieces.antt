-- Texts by their pieces, and how they are written into an object.
use Rattle.std.specs.Prelude.{◌≢◌, ◌<◌, ℕ, suc, List, [], ◌∷◌, ◌++◌, length, codes}
use Rattle.std.specs.Fmt.{signed_decimal}
use Rattle.object_heap.specs.Store.{Store, object_at, with_byte, with_slot}
use Rattle.object_heap.specs.declared.value.Value.{Value}
use Rattle.st_code.specs.Texts.{Text, quotes_doubled}
use Rattle.st_code.specs.Program.{Program, class_at, name_at}
use Rattle.st_messages.specs.declared.pieces.Piece.{Piece}
use Rattle.st_messages.specs.declared.pieces.Words.{Words}

abbrev pub words_text : Words → Text
words_text Words.Nil = codes "nil"
words_text Words.True = codes "true"
words_text Words.False = codes "false"
words_text Words.Transcript = codes "a TranscriptWriter"
words_text Words.Class = codes " class"
words_text Words.NotUnderstood = codes " does not understand "
words_text Words.Warning = codes "Warning: "
words_text Words.A = codes "a "
words_text Words.An = codes "an "

-- a piece of a text
abbrev pub piece_text : Program → Store → Piece → Text
piece_text p s Piece.Nothing = []
piece_text p s (Piece.Byte byte) = byte ∷ []
piece_text p s (Piece.Words words) = words_text words
piece_text p s (Piece.Decimal n) = signed_decimal n
piece_text p s (Piece.ClassName class) = (class_at p class).name
piece_text p s (Piece.Name name) = name_at p name
piece_text p s (Piece.DoubledName name) = quotes_doubled (name_at p name)
piece_text p s (Piece.Bytes object) = (object_at object s).bytes
piece_text p s (Piece.DoubledBytes object) = quotes_doubled (object_at object s).bytes

-- the pieces one behind the other
abbrev pub pieces_text : Program → Store → List Piece → Text
pieces_text p s [] = []
pieces_text p s (x ∷ []) = piece_text p s x
pieces_text p s (x ∷ y ∷ pieces) = piece_text p s x ++ pieces_text p s (y ∷ pieces)

-- the store after these bytes were written into an object from a place on
unfoldable pub bytes_put : (number at : ℕ) → Text → Store → Store
bytes_put number at [] s = s
bytes_put number at (b ∷ t) s = bytes_put number (suc at) t (with_byte number at b s)

-- the store after these values were written into its slots
unfoldable pub slots_put : (number at : ℕ) → List Value → Store → Store
slots_put number at [] s = s
slots_put number at (v ∷ vs) s = slots_put number (suc at) vs (with_slot number at v s)

-- the object that a piece is read from stands
abbrev pub IsKnown : Store → Piece → Type 0
IsKnown s (Piece.Bytes object) = object < length s.objects
IsKnown s (Piece.DoubledBytes object) = object < length s.objects
IsKnown s piece = Unit {0}

abbrev pub AreKnown : Store → List Piece → Type 0
AreKnown s [] = Unit {0}
AreKnown s (x ∷ pieces) = IsKnown s x × AreKnown s pieces

-- a piece isn't read from this object
abbrev pub IsElsewhere : ℕ → Piece → Type 0
IsElsewhere number (Piece.Bytes object) = object ≢ number
IsElsewhere number (Piece.DoubledBytes object) = object ≢ number
IsElsewhere number piece = Unit {0}
