-- The elements of an interchange file that aren't texts of methods or bodies (ANSI NCITS 319, 4.1).
use Rattle.std.specs.Prelude.{◌≡◌, ℕ, ◌+◌, ◌-◌, Bool, true, false, not, ◌&&◌, ◌||◌, ◌==◌, if◌then◌else◌, List, [], ◌∷◌, length, take, drop, slice_get, Option, None, Some, codes}
use Rattle.std.specs.List.{list_all}
use Rattle.std.specs.Str.{bytes_eq}
use Rattle.st_base.specs.TokenBytes.{is_white_byte}
use Rattle.st_base.specs.Lexes.{is_identifier}
use Rattle.st_base.specs.declared.tokens.Token.{Token}
use Rattle.st_base.specs.declared.tokens.TokenKind.{TokenKind}
use Rattle.st_base.specs.declared.tokens.TokenKind.TheVariants as kind
use Rattle.st_base.specs.declared.tokens.LexFault.{LexFault}
use Rattle.st_base.specs.declared.faults.Reason.{Reason}
use Rattle.st_base.specs.declared.faults.Reason.TheVariants as reason
use Rattle.st_tree.specs.Symbols.{text_of, string_value}
use Rattle.st_tree.specs.Grammar.{Production, AMethod, ABody, Tree, MethodTree, BodyTree}
use Rattle.st_tree.specs.declared.headers.Row.{Row}
use Rattle.st_tree.specs.declared.headers.Row.TheVariants as row
use Rattle.st_tree.specs.declared.headers.Target.{Target}
use Rattle.st_tree.specs.declared.headers.Target.TheVariants as target
use Rattle.st_tree.specs.declared.headers.Header.{Header}
use Rattle.st_tree.specs.declared.headers.Header.TheVariants.{Whole, Awaits, Annotates}
use Rattle.st_tree.specs.declared.units.Indexed.{Indexed}
use Rattle.st_tree.specs.declared.units.Indexed.TheVariants as indexed
use Rattle.st_tree.specs.declared.units.ClassUnit.{ClassUnit}
use Rattle.st_tree.specs.declared.units.UnitKind.{UnitKind}
use Rattle.st_tree.specs.declared.units.UnitKind.TheVariants as unit
use Rattle.st_tree.specs.declared.units.Annotation.{Annotation}
use Rattle.st_tree.specs.declared.tree.Body.{Body}
use Rattle.st_tree.specs.declared.tree.Method.{Method}

-- `nil true false self super`
abbrev pub is_reserved : List ℕ → Bool
is_reserved t = bytes_eq t (codes "nil") || bytes_eq t (codes "true") || bytes_eq t (codes "false") || bytes_eq t (codes "self") || bytes_eq t (codes "super")

-- an identifier that isn't reserved
abbrev pub is_name : List ℕ → Bool
is_name t = is_identifier t && not (is_reserved t)

-- a byte in front of the first word
abbrev pub onto_word : ℕ → List (List ℕ) → List (List ℕ)
onto_word b [] = (b ∷ []) ∷ []
onto_word b (word ∷ words) = (b ∷ word) ∷ words

-- The words between runs of white space. The flag says that white space stands before. Where white space stands at
-- an end, an empty word does.
abbrev pub words_behind : Bool → List ℕ → List (List ℕ)
words_behind white [] = [] ∷ []
words_behind false (b ∷ bs) = if is_white_byte b then [] ∷ words_behind true bs else onto_word b (words_behind false bs)
words_behind true (b ∷ bs) = if is_white_byte b then words_behind true bs else onto_word b (words_behind false bs)

-- the words of a text, none of an empty one
abbrev pub words_of : List ℕ → List (List ℕ)
words_of [] = []
words_of (b ∷ bs) = words_behind false (b ∷ bs)

-- names, separated by white space, or nothing
abbrev pub are_names : List ℕ → Bool
are_names t = list_all is_name (words_of t)

-- what may stand at a place of an element: this keyword, any string, a string that holds a name or names, or `#none`, `#object` or `#byte`
pub data Slot : Type 0 where
  Word : List ℕ → Slot
  AnyString : Slot
  NameString : Slot
  NamesString : Slot
  Way : Slot

abbrev pub way_of : List ℕ → Option Indexed
way_of t =
    if bytes_eq t (codes "#none") then Some indexed.None
    else (if bytes_eq t (codes "#object") then Some indexed.Object
    else (if bytes_eq t (codes "#byte") then Some indexed.Byte else None))

abbrev pub is_some_way : Option Indexed → Bool
is_some_way None = false
is_some_way (Some way) = true

abbrev pub is_identifier_kind : TokenKind → Bool
is_identifier_kind kind.Identifier = true
is_identifier_kind k = false

abbrev pub is_keyword_kind : TokenKind → Bool
is_keyword_kind kind.Keyword = true
is_keyword_kind k = false

abbrev pub is_string_kind : TokenKind → Bool
is_string_kind kind.Str = true
is_string_kind k = false

abbrev pub is_symbol_kind : TokenKind → Bool
is_symbol_kind kind.Symbol = true
is_symbol_kind k = false

-- a string with its quotes holds a name, or names
abbrev pub holds_name : List ℕ → Bool
holds_name t = is_name (string_value t)

abbrev pub holds_names : List ℕ → Bool
holds_names t = are_names (string_value t)

-- whether a token of this kind with this text fits a place
abbrev pub fits : Slot → TokenKind → List ℕ → Bool
fits (Word w) k t = is_keyword_kind k && bytes_eq t w
fits AnyString k t = is_string_kind k
fits NameString k t = is_string_kind k && holds_name t
fits NamesString k t = is_string_kind k && holds_names t
fits Way k t = is_symbol_kind k && is_some_way (way_of t)

-- what stands behind the first two tokens
abbrev pub slots_of : Row → List Slot
slots_of row.Version = AnyString ∷ []
slots_of row.Class = NameString ∷ Word (codes "superclass:") ∷ NameString ∷ Word (codes "indexedInstanceVariables:") ∷ Way
    ∷ Word (codes "instanceVariableNames:") ∷ NamesString ∷ Word (codes "classVariableNames:") ∷ NamesString
    ∷ Word (codes "sharedPools:") ∷ NamesString ∷ Word (codes "classInstanceVariableNames:") ∷ NamesString ∷ []
slots_of row.GlobalVariable = NameString ∷ []
slots_of row.GlobalConstant = NameString ∷ []
slots_of row.Pool = NameString ∷ []
slots_of row.PoolVariable = NameString ∷ []
slots_of row.PoolConstant = NameString ∷ []
slots_of row.PoolInitializer = NameString ∷ []
slots_of row.ProgramInitializer = []
slots_of row.Initializer = []
slots_of row.Method = []
slots_of row.ClassMethod = []
slots_of row.Annotation = AnyString ∷ Word (codes "value:") ∷ AnyString ∷ []

-- the row of an element that begins with an identifier and a keyword
abbrev pub keyword_row : List ℕ → List ℕ → Option Row
keyword_row first t =
    if bytes_eq t (codes "variable:") then (if bytes_eq first (codes "Global") then Some row.GlobalVariable else Some row.PoolVariable)
    else (if bytes_eq t (codes "constant:") then (if bytes_eq first (codes "Global") then Some row.GlobalConstant else Some row.PoolConstant)
    else (if bytes_eq t (codes "initializerFor:") then Some row.PoolInitializer
    else (if bytes_eq t (codes "named:") then (if bytes_eq first (codes "Class") then Some row.Class else (if bytes_eq first (codes "Pool") then Some row.Pool else None))
    else (if bytes_eq t (codes "key:") then (if bytes_eq first (codes "Annotation") then Some row.Annotation else None)
    else None))))

-- the row of an element that begins with two identifiers
abbrev pub word_row : List ℕ → List ℕ → Option Row
word_row first t =
    if bytes_eq t (codes "initializer") then (if bytes_eq first (codes "Global") then Some row.ProgramInitializer else Some row.Initializer)
    else (if bytes_eq t (codes "method") then Some row.Method
    else (if bytes_eq t (codes "classMethod") then Some row.ClassMethod else None))

-- the row of an element behind the version element
abbrev pub row_of : List ℕ → TokenKind → List ℕ → Option Row
row_of first k t = if is_keyword_kind k then keyword_row first t else (if is_identifier_kind k then word_row first t else None)

-- how far tokens fill the places: all of them, up to a token that can't stand, or less than all
pub data Walk : Type 0 where
  Filled : Walk
  Stuck : ℕ → Walk
  Short : Walk

abbrev pub walk : List Slot → List ℕ → List Token → Walk
walk [] text [] = Filled
walk [] text (t ∷ ts) = Stuck t.start
walk (slot ∷ slots) text [] = Short
walk (slot ∷ slots) text (t ∷ ts) = if fits slot t.kind (text_of text t) then walk slots text ts else Stuck t.start

abbrev pub way_or_none : Option Indexed → Indexed
way_or_none None = indexed.None
way_or_none (Some way) = way

abbrev pub string_in : List ℕ → Option Token → List ℕ
string_in text None = []
string_in text (Some t) = string_value (text_of text t)

-- the content of the string at a place, counted from 0
abbrev pub string_at : List ℕ → List Token → ℕ → List ℕ
string_at text ts n = string_in text (slice_get ts n)

abbrev pub way_in : List ℕ → Option Token → Indexed
way_in text None = indexed.None
way_in text (Some t) = way_or_none (way_of (text_of text t))

-- the way of indexing at a place
abbrev pub way_at : List ℕ → List Token → ℕ → Indexed
way_at text ts n = way_in text (slice_get ts n)

-- the class that a class element declares, by the tokens behind its first two
abbrev pub class_of : List ℕ → List Token → ClassUnit
class_of text ts = record {
  name = string_at text ts 0;
  superclass = string_at text ts 2;
  indexed = way_at text ts 4;
  instance_names = words_of (string_at text ts 6);
  class_names = words_of (string_at text ts 8);
  pools = words_of (string_at text ts 10);
  class_instance_names = words_of (string_at text ts 12);
}

-- what an element of this row says, by its first identifier and the tokens behind the first two
abbrev pub header_of : Row → List ℕ → List ℕ → List Token → Header
header_of row.Version first text ts = Whole (unit.Version (string_at text ts 0))
header_of row.Class first text ts = Whole (unit.Class (class_of text ts))
header_of row.GlobalVariable first text ts = Whole (unit.GlobalVariable (string_at text ts 0))
header_of row.GlobalConstant first text ts = Whole (unit.GlobalConstant (string_at text ts 0))
header_of row.Pool first text ts = Whole (unit.Pool (string_at text ts 0))
header_of row.PoolVariable first text ts = Whole (unit.PoolVariable first (string_at text ts 0))
header_of row.PoolConstant first text ts = Whole (unit.PoolConstant first (string_at text ts 0))
header_of row.PoolInitializer first text ts = Awaits (target.PoolInitializer first (string_at text ts 0))
header_of row.ProgramInitializer first text ts = Awaits target.ProgramInitializer
header_of row.Initializer first text ts = Awaits (target.Initializer first)
header_of row.Method first text ts = Awaits (target.Method first)
header_of row.ClassMethod first text ts = Awaits (target.ClassMethod first)
header_of row.Annotation first text ts = Annotates (record { key = string_at text ts 0; value = string_at text ts 2 })

-- what the text behind a header is
abbrev pub production_of : Target → Production
production_of (target.Initializer name) = ABody
production_of (target.PoolInitializer pool name) = ABody
production_of target.ProgramInitializer = ABody
production_of (target.Method class) = AMethod
production_of (target.ClassMethod class) = AMethod

-- the unit of a header with its text
pub data UnitOf : Target → Tree → UnitKind → Type 0 where
  initializer : {name : List ℕ} {b : Body} → UnitOf (target.Initializer name) (BodyTree b) (unit.Initializer name b)
  pool_initializer : {pool name : List ℕ} {b : Body} → UnitOf (target.PoolInitializer pool name) (BodyTree b) (unit.PoolInitializer pool name b)
  program_initializer : {b : Body} → UnitOf target.ProgramInitializer (BodyTree b) (unit.ProgramInitializer b)
  method : {class : List ℕ} {m : Method} → UnitOf (target.Method class) (MethodTree m) (unit.Method class m)
  class_method : {class : List ℕ} {m : Method} → UnitOf (target.ClassMethod class) (MethodTree m) (unit.ClassMethod class m)

-- The contents of the comments of a text that has nothing else but white space. The flag says that one is open.
abbrev pub comments_in : Bool → List ℕ → List (List ℕ)
comments_in false [] = []
comments_in true [] = [] ∷ []
comments_in false (b ∷ bs) = if b == 34 then comments_in true bs else comments_in false bs
comments_in true (b ∷ bs) = if b == 34 then [] ∷ comments_in false bs else onto_word b (comments_in true bs)

abbrev pub comments_of : List ℕ → List (List ℕ)
comments_of text = comments_in false text

-- an element's text says something, or has its first fault at this byte
pub data Element : Type 0 where
  Says : Header → Element
  Faulty : ℕ → Reason → Element

-- what an element says whose places are filled so far; a token that can't stand comes before a lexical fault
abbrev pub judged : Walk → Header → Option LexFault → ℕ → Element
judged (Stuck byte) header lexical len = Faulty byte reason.Syntax
judged Filled header None len = Says header
judged Filled header (Some fault) len = Faulty fault.byte fault.reason
judged Short header None len = Faulty len reason.Syntax
judged Short header (Some fault) len = Faulty fault.byte fault.reason

-- what an element says by its row and the tokens behind the first two, the second of which begins at this byte
abbrev pub by_row : Option Row → ℕ → List ℕ → List ℕ → List Token → Option LexFault → Element
by_row None second first text ts lexical = Faulty second reason.Syntax
by_row (Some r) second first text ts lexical = judged (walk (slots_of r) text ts) (header_of r first text ts) lexical (length text)

abbrev pub comment_element : List ℕ → Option LexFault → Element
comment_element text lexical = judged Filled (Whole (unit.Comment (comments_of text))) lexical (length text)

-- what an element behind the first says, by its tokens and its lexical fault
abbrev pub says : List ℕ → List Token → Option LexFault → Element
says text [] lexical = comment_element text lexical
says text (a ∷ []) lexical =
    if is_identifier_kind a.kind then judged Short (Awaits target.ProgramInitializer) lexical (length text) else Faulty a.start reason.Syntax
says text (a ∷ b ∷ ts) lexical =
    if is_identifier_kind a.kind then by_row (row_of (text_of text a) b.kind (text_of text b)) b.start (text_of text a) text ts lexical
    else Faulty a.start reason.Syntax

-- whether the first tokens are `Smalltalk` and `interchangeVersion:`
abbrev pub begins_version : List ℕ → List Token → Bool
begins_version text (a ∷ b ∷ ts) =
    is_identifier_kind a.kind && bytes_eq (text_of text a) (codes "Smalltalk") && is_keyword_kind b.kind && bytes_eq (text_of text b) (codes "interchangeVersion:")
begins_version text ts = false

-- what the first element says
abbrev pub says_first : List ℕ → List Token → Option LexFault → Element
says_first text ts lexical =
    if begins_version text ts then by_row (Some row.Version) 0 [] text (drop 2 ts) lexical
    else Faulty 0 reason.MissingVersion
