-- What is made of a unit is what the unit defines.
use Rattle.std.proofs.Common.{◌≡◌, ℕ, suc, ◌+◌, List, [], ◌∷◌, ◌++◌, map, length, Option, None, ap, sym, ◌∙◌, append-nil, length-append}
use Rattle.std.proofs.lemmas.List.{map-append, length-map}
use Rattle.object_heap.specs.declared.value.Value.{Value}
use Rattle.st_code.specs.Texts.{Text}
use Rattle.st_code.specs.Program.{Body, Statement, Side}
use Rattle.st_code.specs.declared.instruction.CodeKind.{CodeKind}
use Rattle.st_code.specs.declared.instruction.CodeKind.TheVariants as code_kind
use Rattle.st_code.specs.Named.{NamedBody, NamedMethod}
use Rattle.st_code.specs.Resolved as made
use Rattle.st_code.specs.Resolved.{Context, Counts, Names, statements_made, inside}
use Rattle.st_code.specs.Definitions.{Defined, context, with_method, with_initializer}
use Rattle.st_compiler.specs.declared.draft.Draft.{Draft}
use Rattle.st_compiler.specs.declared.draft.Status.TheVariants as status
use Rattle.st_compiler.specs.declared.units.Defining.{Defining}
use Rattle.st_compiler.specs.declared.units.Initializer.{Initializer}
use Rattle.st_compiler.specs.Drafted.{drafted, seen_initializer, Holds}
use Rattle.st_compiler.specs.Walked.{of_kind, header_of, body_begun, body_made_of}
use Rattle.st_compiler.proofs.Grown.{body-grown}
use Rattle.st_compiler.proofs.Walked.{statements-grown}

module _ (x : Names) (class : ℕ) (side : Side) (k : CodeKind) (ps : List Text) (b : NamedBody) where
  -- what the definition makes of the body, where there are so many bodies and objects
  abbrev statements_at : (bodies objects : ℕ) → made.Made (List Statement)
  statements_at n o = statements_made (inside (context x class side n) n (ps ++ b.temporaries)) (record { bodies = suc n; objects = o }) b.statements

  abbrev bodies_at : (bodies objects : ℕ) → List Body
  bodies_at n o = made.body_made (of_kind k) (context x class side n) None ps (ps ++ b.temporaries) b.statements (statements_at n o)

  module _ (d : Defined) (e f : Draft) (bodies : e.bodies ≡ map drafted d.bodies) (objects : e.objects ≡ length d.objects)
      (is : f ≡ body_made_of k (context x class side (length e.bodies)) None ps b.temporaries b.statements e) where
    count : length e.bodies ≡ length d.bodies
    count = ap length bodies ∙ length-map d.bodies drafted

    grown : f ≡ record e { bodies = e.bodies ++ map drafted (bodies_at (length e.bodies) e.objects); objects = e.objects + length (statements_at (length e.bodies) e.objects).objects }
    grown =
        let x' : Context = context x class side (length e.bodies) in
        is ∙ body-grown k x' None ps b.temporaries b.statements e
        (statements-grown (inside x' (length e.bodies) (ps ++ b.temporaries)) k status.Empty b.statements (body_begun (header_of k x' None (length ps)) e))

    pub bodies-made : f.bodies ≡ map drafted (d.bodies ++ bodies_at (length d.bodies) (length d.objects))
    bodies-made =
        ap (λ (g : Draft). g.bodies) grown
        ∙ ap (λ n. e.bodies ++ map drafted (bodies_at n e.objects)) count
        ∙ ap (λ o. e.bodies ++ map drafted (bodies_at (length d.bodies) o)) objects
        ∙ ap (λ bs. bs ++ map drafted (bodies_at (length d.bodies) (length d.objects))) bodies
        ∙ sym (map-append drafted d.bodies (bodies_at (length d.bodies) (length d.objects)))

    pub objects-made : f.objects ≡ length (d.objects ++ (statements_at (length d.bodies) (length d.objects)).objects)
    objects-made =
        ap (λ (g : Draft). g.objects) grown
        ∙ ap (λ n. e.objects + length (statements_at n e.objects).objects) count
        ∙ ap (λ o. o + length (statements_at (length d.bodies) o).objects) objects
        ∙ sym (length-append d.objects (statements_at (length d.bodies) (length d.objects)).objects)

    pub code-made : (code : ℕ) → code ≡ length e.bodies → code ≡ length d.bodies
    code-made code at = at ∙ count

pub method-made : (x : Names) (class : ℕ) (side : Side) (m : NamedMethod) (ps : List Text) (b : NamedBody) (d : Defined) (now : Defining) (f : Draft) → m.parameters ≡ ps → m.body ≡ b → Holds now d
    → f ≡ body_made_of code_kind.Method (context x class side (length now.draft.bodies)) None ps b.temporaries b.statements now.draft
    → Holds (record now { draft = f }) (with_method x class side m d)
method-made x class side m ps b d now f parameters body holds is =
    let is' : f ≡ body_made_of code_kind.Method (context x class side (length now.draft.bodies)) None m.parameters m.body.temporaries m.body.statements now.draft =
    is ∙ ap (λ qs. body_made_of code_kind.Method (context x class side (length now.draft.bodies)) None qs b.temporaries b.statements now.draft) (sym parameters)
    ∙ ap (λ (c : NamedBody). body_made_of code_kind.Method (context x class side (length now.draft.bodies)) None m.parameters c.temporaries c.statements now.draft) (sym body) in
    record {
      bodies = bodies-made x class side code_kind.Method m.parameters m.body d now.draft f holds.bodies holds.objects is';
      objects = objects-made x class side code_kind.Method m.parameters m.body d now.draft f holds.bodies holds.objects is';
      initializers = holds.initializers ∙ sym (append-nil d.initializers);
    }

pub initializer-made : (x : Names) (class : ℕ) (side : Side) (self : Value) (target : Option ℕ) (b : NamedBody) (d : Defined) (now : Defining) (f : Draft) (code : ℕ) (all : List Initializer) → Holds now d
    → f ≡ body_made_of code_kind.Initializer (context x class side (length now.draft.bodies)) None [] b.temporaries b.statements now.draft
    → code ≡ length now.draft.bodies → all ≡ now.initializers ++ record { code = code; receiver = self; target = target } ∷ []
    → Holds (record now { draft = f; initializers = all }) (with_initializer x class side self target b d)
initializer-made x class side self target b d now f code all holds is number added =
    record {
      bodies = bodies-made x class side code_kind.Initializer [] b d now.draft f holds.bodies holds.objects is;
      objects = objects-made x class side code_kind.Initializer [] b d now.draft f holds.bodies holds.objects is;
      initializers =
          ap (map seen_initializer) added ∙ map-append seen_initializer now.initializers (record { code = code; receiver = self; target = target } ∷ [])
          ∙ ap (λ is. is ++ record { code = code; self = self; target = target } ∷ []) holds.initializers
          ∙ ap (λ n. d.initializers ++ record { code = n; self = self; target = target } ∷ []) (code-made x class side code_kind.Initializer [] b d now.draft f holds.bodies holds.objects is code number);
    }
