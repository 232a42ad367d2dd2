-- Reading a file, computed: what each element leads to, and what a file's texts come to.
use Rattle.std.specs.Prelude.{ℕ, ◌+◌, Bool, true, not, nat_lt, List, [], ◌∷◌, ◌++◌, length, Option, None, Some, if◌then◌else◌}
use Rattle.st_base.specs.declared.faults.Reason.{Reason}
use Rattle.st_base.specs.declared.faults.Reason.TheVariants as reason
use Rattle.st_base.specs.Lexed.{lexed_of}
use Rattle.sif_chunks.specs.Reading.{max_text, is_white}
use Rattle.st_tree.specs.declared.units.UnitKind.{UnitKind}
use Rattle.st_tree.specs.declared.units.UnitKind.TheVariants as kinds
use Rattle.st_tree.specs.declared.units.Unit.{Unit}
use Rattle.st_tree.specs.declared.headers.Header.TheVariants.{Whole, Awaits, Annotates}
use Rattle.st_tree.specs.declared.headers.Target.{Target}
use Rattle.st_tree.specs.declared.headers.Target.TheVariants as target
use Rattle.st_tree.specs.Grammar.{Tree, MethodTree, BodyTree}
use Rattle.st_tree.specs.Headers.{production_of, Element, Says, Faulty}
use Rattle.st_tree.specs.Numbers.{unit, annotated}
use Rattle.st_tree.specs.Units.{element, first_element}
use Rattle.st_parser.specs.Verdict.{Verdict, Good, Bad, verdict_of}
use Rattle.sif_elements.specs.declared.progress.Progress.{Progress}
use Rattle.sif_elements.specs.declared.progress.Progress.TheVariants.{Start, Between, Awaiting}
use Rattle.sif_elements.specs.Reading.{Answer, Read, Refuse, parts, is_whole}

-- an element leads further, or has its first fault at this byte
pub data Step : Type 0 where
  Goes : Progress → Step
  Spoilt : ℕ → Reason → Step

-- the unit of a header with its text
abbrev pub kind_of : Target → Tree → Option UnitKind
kind_of (target.Initializer name) (BodyTree b) = Some (kinds.Initializer name b)
kind_of (target.PoolInitializer pool name) (BodyTree b) = Some (kinds.PoolInitializer pool name b)
kind_of target.ProgramInitializer (BodyTree b) = Some (kinds.ProgramInitializer b)
kind_of (target.Method class) (MethodTree m) = Some (kinds.Method class m)
kind_of (target.ClassMethod class) (MethodTree m) = Some (kinds.ClassMethod class m)
kind_of t tree = None

-- one unit more
abbrev pub with_unit : List Unit → UnitKind → Progress
with_unit us kind = Between (us ++ unit kind [] ∷ [])

-- behind an element that says this
abbrev pub behind_element : List Unit → Element → Step
behind_element us (Says (Whole kind)) = Goes (with_unit us kind)
behind_element us (Says (Awaits t)) = Goes (Awaiting us t)
behind_element us (Says (Annotates a)) = Goes (Between (annotated us a))
behind_element us (Faulty byte why) = Spoilt byte why

-- the text of a header has a tree of the header's kind
abbrev pub behind_tree : List Unit → Option UnitKind → Step
behind_tree us (Some kind) = Goes (with_unit us kind)
behind_tree us None = Spoilt 0 reason.Syntax

abbrev pub behind_text : List Unit → Target → Verdict → Step
behind_text us t (Good tree) = behind_tree us (kind_of t tree)
behind_text us t (Bad byte why) = Spoilt byte why

-- what an element leads to
abbrev pub step_of : Progress → List ℕ → Step
step_of Start text = behind_element [] (first_element text)
step_of (Between us) text = behind_element us (element text)
step_of (Awaiting us t) text = behind_text us t (verdict_of (production_of t) text (lexed_of text).tokens (lexed_of text).fault)

-- the input ends
abbrev pub at_end : Progress → ℕ → Answer
at_end Start n = Refuse n 0 reason.MissingVersion
at_end (Awaiting us t) n = Refuse n 0 reason.MissingText
at_end (Between us) n = Read us

abbrev pub at_rest : Progress → Bool → ℕ → List ℕ → Answer
at_rest p ended n rest =
    if nat_lt max_text (length rest) then Refuse n max_text reason.ElementTooLong
    else (if not ended then Refuse n (length rest) reason.InputTooLong
    else (if is_white rest then at_end p n
    else Refuse n (length rest) reason.Unfinished))

abbrev pub behind_step : ℕ → Step → (Progress → Answer) → Answer
behind_step n (Goes q) later = later q
behind_step n (Spoilt byte why) later = Refuse n byte why

-- the texts in file order, and then the rest
abbrev pub answer_on : Progress → Bool → ℕ → List (List ℕ) → List ℕ → Answer
answer_on p ended n [] rest = at_rest p ended n rest
answer_on p ended n (text ∷ texts) rest =
    if nat_lt max_text (length text) then Refuse n max_text reason.ElementTooLong
    else (if is_white text then answer_on p ended n texts rest
    else behind_step n (step_of p text) (λ q. answer_on q ended (n + 1) texts rest))

-- What is answered of bytes, behind which the input ends where the flag says so. `InputTooLong` of bytes behind
-- which it doesn't end, and that are no more than the longest input, stands for what they leave open.
unfoldable pub answer_of : Bool → List ℕ → Answer
answer_of ended bytes = answer_on Start (is_whole ended bytes) 1 (parts ended bytes).texts (parts ended bytes).rest

-- the reading of a whole input
abbrev pub reading : List ℕ → Answer
reading bytes = answer_of true bytes
