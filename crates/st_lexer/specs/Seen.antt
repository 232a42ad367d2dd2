-- What the code finds at the front of bytes, as the definitions say it.
use Rattle.std.specs.Prelude.{ℕ, ◌^◌, nat_le, Option, Some, None, if◌then◌else◌}
use Rattle.st_base.specs.Lexed.{Lexeme, Gap, Spoiled}
use Rattle.st_base.specs.Lexed as lexed
use Rattle.st_lexer.specs.declared.front.Front.{Front}
use Rattle.st_lexer.specs.declared.front.Front.TheVariants as front

abbrev pub seen : Front → lexed.Front
seen (front.Lexeme kind n) = Lexeme kind n
seen (front.Gap n) = Gap n
seen (front.Spoiled reason n) = Spoiled reason n

-- a value, if it is at most 2^127
abbrev pub held : ℕ → Option ℕ
held value = if nat_le value (2 ^ 127) then Some value else None
