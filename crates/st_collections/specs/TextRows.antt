-- Messages of Characters, Strings, Symbols and the Transcript (ANSI 5.4, 5.7.10, 5.10).
use Rattle.std.specs.Prelude.{ℕ, pos, negsuc, Bool, false, not, ◌||◌, List, [], ◌∷◌, map, replicate, Option, Some, None, nat_eq, nat_le, nat_lt, if◌then◌else◌}
use Rattle.object_heap.specs.declared.value.Value.{Value}
use Rattle.object_heap.specs.declared.value.Value.TheVariants.{Integer, Character, Class}
use Rattle.object_heap.specs.declared.trouble.Trouble.TheVariants.{IndexOutOfRange, NumberExpected, StringExpected, CharacterExpected, CannotBeInstantiated}
use Rattle.object_heap.specs.Store.{Store}
use Rattle.st_code.specs.Texts.{Text, same_text, text_less, is_upper, is_lower, is_digit, is_letter, to_upper, to_lower}
use Rattle.st_code.specs.Program.{Program}
use Rattle.st_code.specs.BuiltIns.{symbol_class}
use Rattle.st_code.specs.Messages.{CharacterMessage, TranscriptMessage, StringMessage}
use Rattle.st_collections.specs.Actions.{Action, Gives, Writes, Fails, boolean, first, makes_string}
use Rattle.st_collections.specs.Kinds.{bytes_of}

-- ---- Characters

abbrev pub with_character : Value → (ℕ → Action) → Action
with_character (Character byte) act = act byte
with_character v act = Fails CharacterExpected

abbrev pub from_code_point : Value → Action
from_code_point (Integer (pos n)) = if nat_le n 255 then Gives (Character n) else Fails IndexOutOfRange
from_code_point (Integer (negsuc n)) = Fails IndexOutOfRange
from_code_point v = Fails NumberExpected

abbrev pub byte_of : Value → ℕ
byte_of (Character byte) = byte
byte_of v = 0

unfoldable pub character_action : Store → CharacterMessage → Value → List Value → Action
character_action s CharacterMessage.FromCodePoint r args = from_code_point (first args)
character_action s (CharacterMessage.Fixed byte) r args = Gives (Character byte)
character_action s CharacterMessage.CodePoint r args = Gives (Integer (pos (byte_of r)))
character_action s CharacterMessage.AsLowercase r args = Gives (Character (to_lower (byte_of r)))
character_action s CharacterMessage.AsUppercase r args = Gives (Character (to_upper (byte_of r)))
character_action s CharacterMessage.AsString r args = makes_string (byte_of r ∷ []) s
character_action s CharacterMessage.IsLetter r args = Gives (boolean (is_letter (byte_of r)))
character_action s CharacterMessage.IsDigit r args = Gives (boolean (is_digit (byte_of r)))
character_action s CharacterMessage.IsAlphaNumeric r args = Gives (boolean (is_letter (byte_of r) || is_digit (byte_of r)))
character_action s CharacterMessage.IsLowercase r args = Gives (boolean (is_lower (byte_of r)))
character_action s CharacterMessage.IsUppercase r args = Gives (boolean (is_upper (byte_of r)))
character_action s CharacterMessage.Less r args = with_character (first args) (λ b. Gives (boolean (nat_lt (byte_of r) b)))
character_action s CharacterMessage.Greater r args = with_character (first args) (λ b. Gives (boolean (nat_lt b (byte_of r))))
character_action s CharacterMessage.LessOrEqual r args = with_character (first args) (λ b. Gives (boolean (nat_le (byte_of r) b)))
character_action s CharacterMessage.GreaterOrEqual r args = with_character (first args) (λ b. Gives (boolean (nat_le b (byte_of r))))

-- ---- Strings and Symbols

abbrev pub with_text : Program → Store → Value → (Text → Action) → Action
with_text p s v act = elim (bytes_of p s v) [ Some t ↦ act t | None ↦ Fails StringExpected ]

abbrev pub or_empty : Option Text → Text
or_empty (Some t) = t
or_empty None = []

abbrev pub equal_text : Text → Option Text → Bool
equal_text t (Some u) = same_text t u
equal_text t None = false

-- `new:` of String: spaces
abbrev pub new_string : Store → Value → Value → Action
new_string s (Class class) (Integer (pos n)) = if nat_eq class symbol_class then Fails CannotBeInstantiated else makes_string (replicate n 32) s
new_string s (Class class) (Integer (negsuc n)) = if nat_eq class symbol_class then Fails CannotBeInstantiated else Fails IndexOutOfRange
new_string s (Class class) v = if nat_eq class symbol_class then Fails CannotBeInstantiated else Fails NumberExpected
new_string s r v = Fails NumberExpected

abbrev pub string_at : Program → Store → StringMessage → Value → Text → List Value → Action
string_at p s StringMessage.Equal r t args = Gives (boolean (equal_text t (bytes_of p s (first args))))
string_at p s StringMessage.Less r t args = with_text p s (first args) (λ u. Gives (boolean (text_less t u)))
string_at p s StringMessage.Greater r t args = with_text p s (first args) (λ u. Gives (boolean (text_less u t)))
string_at p s StringMessage.LessOrEqual r t args = with_text p s (first args) (λ u. Gives (boolean (not (text_less u t))))
string_at p s StringMessage.GreaterOrEqual r t args = with_text p s (first args) (λ u. Gives (boolean (not (text_less t u))))
string_at p s StringMessage.AsUppercase r t args = makes_string (map to_upper t) s
string_at p s StringMessage.AsLowercase r t args = makes_string (map to_lower t) s
string_at p s StringMessage.AsString r t args = makes_string t s
string_at p s StringMessage.SameAs r t args = with_text p s (first args) (λ u. Gives (boolean (same_text (map to_lower t) (map to_lower u))))
string_at p s StringMessage.NewSize r t args = new_string s r (first args)

unfoldable pub string_action : Program → Store → StringMessage → Value → List Value → Action
string_action p s m r args = string_at p s m r (or_empty (bytes_of p s r)) args

-- ---- the Transcript

unfoldable pub transcript_action : Program → Store → TranscriptMessage → Value → List Value → Action
transcript_action p s TranscriptMessage.Show r args = with_text p s (first args) (λ t. Writes t r)
transcript_action p s TranscriptMessage.NextPut r args = with_character (first args) (λ b. Writes (b ∷ []) r)
transcript_action p s TranscriptMessage.Flush r args = Writes [] r
transcript_action p s (TranscriptMessage.WriteByte byte) r args = Writes (byte ∷ []) r
