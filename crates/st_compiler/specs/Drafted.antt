-- Bodies of a program as drafts: their instructions in place of their statements.
use Rattle.std.specs.Prelude.{◌≡◌, map, length}
use Rattle.st_code.specs.Program.{Body, Initializer as Starter}
use Rattle.st_code.specs.Code.{code_body}
use Rattle.st_code.specs.Compiled.{kind_of}
use Rattle.st_code.specs.Definitions.{Defined}
use Rattle.st_compiler.specs.Befores.{befores, count_captured}
use Rattle.st_compiler.specs.declared.draft.DraftBody.{DraftBody}
use Rattle.st_compiler.specs.declared.units.Initializer.{Initializer}
use Rattle.st_compiler.specs.declared.units.Defining.{Defining}

-- a body as a draft of it
abbrev pub drafted : Body → DraftBody
drafted b = record { header = record { kind = kind_of b.kind; class = b.class; parameters = b.parameters; outer = b.outer }; captured = b.captured; before = befores 0 b.captured; captures = count_captured b.captured; steps = code_body b.kind b.statements }

abbrev pub seen_initializer : Initializer → Starter
seen_initializer i = record { code = i.code; self = i.receiver; target = i.target }

-- what is made of units so far is what they define
pub record Holds (now : Defining) (d : Defined) : Type 0 where
  pub bodies : now.draft.bodies ≡ map drafted d.bodies
  pub objects : now.draft.objects ≡ length d.objects
  pub initializers : map seen_initializer now.initializers ≡ d.initializers
