-- A fault is no command.
use Rattle.std.proofs.Common.{◌≡◌, ◌≢◌, List, [], ◌∷◌, Option, None, refl, inl, inr}
use Rattle.clap.specs.Words.{Kinds, Row, HasKind, kind_of}
use Rattle.clap.specs.declared.error.Error.{Error}
use Rattle.clap.specs.declared.error.kind.ErrorKind.TheVariants as kind
use Rattle.st_words.specs.declared.command.Command.{Command}
use Rattle.st_words.specs.CommandLine.{command_of_rows, without_fault}

pub refused-none : (kinds : Kinds) (rows : List Row) (e : Error) → HasKind kinds e → kind_of e ≢ kind.OutOfMemory → None ≡ without_fault kinds rows
refused-none [] rows e (inl memory) other = absurd (other memory)
refused-none [] rows e (inr among) other = absurd among
refused-none (k ∷ ks) rows e has other = refl

pub taken-rows : (kinds : Kinds) (rows found : List Row) (c : Option Command) → kinds ≡ [] → rows ≡ found → c ≡ command_of_rows rows → c ≡ without_fault kinds found
taken-rows kinds rows found c none same is = rw (none, ← same) is
