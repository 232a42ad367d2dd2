-- What a part of a walk adds: pieces of code, one behind the other.
use Rattle.std.proofs.Common.{◌≡◌, ℕ, ◌+◌, List, [], ◌∷◌, ◌++◌, map, length, refl, ap, sym, ◌∙◌, append_assoc, arith, length-append}
use Rattle.std.proofs.lemmas.List.{length-map}
use Rattle.object_heap.specs.Store.{Object}
use Rattle.st_code.specs.Texts.{Text}
use Rattle.st_code.specs.Program.{Tree, Constant, Self, Variable, Assign, Block, Send, SuperSend, Cascade, SuperCascade, Trees, no_trees, more_trees, Messages, no_messages, more_messages, Body}
use Rattle.st_code.specs.Code.{Instr, PushSelf, Pop, Dup, Store, SendMessage, SendSuper, code, code_args, code_messages, count_of}
use Rattle.st_code.specs.Resolved.{Counts}
use Rattle.st_compiler.specs.declared.draft.DraftBody.{DraftBody}
use Rattle.st_compiler.specs.declared.draft.Draft.{Draft}
use Rattle.st_compiler.specs.Drafted.{drafted}

-- ---- code before more code

mutual
  pub code-append : (t : Tree) (rest : List Instr) → code t rest ≡ code t [] ++ rest
  code-append (Constant v) rest = refl
  code-append Self rest = refl
  code-append (Variable place) rest = refl
  code-append (Assign place t) rest = code-append t (Store place ∷ rest) ∙ sym (ap (λ is. is ++ rest) (code-append t (Store place ∷ [])) ∙ append_assoc (code t []) (Store place ∷ []) rest)
  code-append (Block n) rest = refl
  code-append (Send selector t args) rest =
      let send : Instr = SendMessage selector (count_of args) in
      code-append t (code_args args (send ∷ rest)) ∙ ap (λ is. code t [] ++ is) (args-append args (send ∷ rest))
      ∙ sym (ap (λ is. is ++ rest) (code-append t (code_args args (send ∷ [])) ∙ ap (λ is. code t [] ++ is) (args-append args (send ∷ [])))
      ∙ append_assoc (code t []) (code_args args [] ++ send ∷ []) rest ∙ ap (λ is. code t [] ++ is) (append_assoc (code_args args []) (send ∷ []) rest))
  code-append (SuperSend selector args) rest =
      let send : Instr = SendSuper selector (count_of args) in
      ap (λ is. PushSelf ∷ is) (args-append args (send ∷ rest) ∙ sym (ap (λ is. is ++ rest) (args-append args (send ∷ [])) ∙ append_assoc (code_args args []) (send ∷ []) rest))
  code-append (Cascade t messages) rest =
      code-append t (code_messages SendMessage messages rest) ∙ ap (λ is. code t [] ++ is) (messages-append SendMessage messages rest)
      ∙ sym (ap (λ is. is ++ rest) (code-append t (code_messages SendMessage messages [])) ∙ append_assoc (code t []) (code_messages SendMessage messages []) rest)
  code-append (SuperCascade messages) rest = ap (λ is. PushSelf ∷ is) (messages-append SendSuper messages rest)

  pub args-append : (args : Trees) (rest : List Instr) → code_args args rest ≡ code_args args [] ++ rest
  args-append no_trees rest = refl
  args-append (more_trees t row) rest =
      code-append t (code_args row rest) ∙ ap (λ is. code t [] ++ is) (args-append row rest)
      ∙ sym (ap (λ is. is ++ rest) (code-append t (code_args row [])) ∙ append_assoc (code t []) (code_args row []) rest)

  pub messages-append : (send : ℕ → ℕ → Instr) (messages : Messages) (rest : List Instr) → code_messages send messages rest ≡ code_messages send messages [] ++ rest
  messages-append send no_messages rest = refl
  messages-append send (more_messages selector args no_messages) rest =
      let one : Instr = send selector (count_of args) in
      args-append args (one ∷ rest) ∙ sym (ap (λ is. is ++ rest) (args-append args (one ∷ [])) ∙ append_assoc (code_args args []) (one ∷ []) rest)
  messages-append send (more_messages selector args (more_messages s others row)) rest =
      let one : Instr = send selector (count_of args) in
      let more : List Instr = code_messages send (more_messages s others row) [] in
      ap (λ is. Dup ∷ is) (args-append args (one ∷ Pop ∷ code_messages send (more_messages s others row) rest) ∙ ap (λ is. code_args args [] ++ one ∷ Pop ∷ is) (messages-append send (more_messages s others row) rest)
      ∙ sym (ap (λ is. is ++ rest) (args-append args (one ∷ Pop ∷ more)) ∙ append_assoc (code_args args []) (one ∷ Pop ∷ more) rest))

-- ---- pieces

pub record Piece : Type 0 where
  pub bodies : List DraftBody
  pub objects : ℕ
  pub steps : List Instr
  pub all : List Text
  pub inner : List Text

abbrev pub piece : List DraftBody → ℕ → List Instr → List Text → List Text → Piece
piece bodies objects steps all inner = record { bodies = bodies; objects = objects; steps = steps; all = all; inner = inner }

pub same-piece : (b : List DraftBody) (c : List DraftBody) (m n : ℕ) (s t : List Instr) (a e i j : List Text) → b ≡ c → m ≡ n → s ≡ t → a ≡ e → i ≡ j → piece b m s a i ≡ piece c n t e j
same-piece b c m n s t a e i j bodies objects steps all inner = λ k. record { bodies = bodies k; objects = objects k; steps = steps k; all = all k; inner = inner k }

abbrev pub joined : Piece → Piece → Piece
joined p q = piece (p.bodies ++ q.bodies) (p.objects + q.objects) (p.steps ++ q.steps) (p.all ++ q.all) (p.inner ++ q.inner)

abbrev pub extended : Draft → Piece → Draft
extended d p = record d { bodies = d.bodies ++ p.bodies; objects = d.objects + p.objects; frame = record { steps = d.frame.steps ++ p.steps; all = d.frame.all ++ p.all; inner = d.frame.inner ++ p.inner } }

pub extended-both : (d : Draft) (p q : Piece) → extended (extended d p) q ≡ extended d (joined p q)
extended-both d p q =
    let b : (d.bodies ++ p.bodies) ++ q.bodies ≡ d.bodies ++ (p.bodies ++ q.bodies) = append_assoc d.bodies p.bodies q.bodies in
    let o : (d.objects + p.objects) + q.objects ≡ d.objects + (p.objects + q.objects) = omega arith in
    let s : (d.frame.steps ++ p.steps) ++ q.steps ≡ d.frame.steps ++ (p.steps ++ q.steps) = append_assoc d.frame.steps p.steps q.steps in
    let a : (d.frame.all ++ p.all) ++ q.all ≡ d.frame.all ++ (p.all ++ q.all) = append_assoc d.frame.all p.all q.all in
    let i : (d.frame.inner ++ p.inner) ++ q.inner ≡ d.frame.inner ++ (p.inner ++ q.inner) = append_assoc d.frame.inner p.inner q.inner in
    λ k. record d { bodies = b k; objects = o k; frame = record { steps = s k; all = a k; inner = i k } }

abbrev pub counts : Draft → Counts
counts d = record { bodies = length d.bodies; objects = d.objects }

abbrev pub made_piece : List Body → List Object → List Instr → List Text → List Text → Piece
made_piece bodies objects steps all inner = piece (map drafted bodies) (length objects) steps all inner

abbrev pub counted : Counts → List Body → List Object → Counts
counted n bodies objects = record { bodies = n.bodies + length bodies; objects = n.objects + length objects }

pub counts-extended : (d : Draft) (bodies : List Body) (objects : List Object) (steps : List Instr) (all inner : List Text) → counts (extended d (made_piece bodies objects steps all inner)) ≡ counted (counts d) bodies objects
counts-extended d bodies objects steps all inner =
    let b : length (d.bodies ++ map drafted bodies) ≡ length d.bodies + length bodies = length-append d.bodies (map drafted bodies) ∙ ap (λ n. length d.bodies + n) (length-map bodies drafted) in
    λ k. record { bodies = b k; objects = d.objects + length objects }

-- a part, and the one behind it, which depends on how many bodies and objects there are
pub grown-next : (d d1 d2 : Draft) (bodies : List Body) (objects : List Object) (steps : List Instr) (all inner : List Text) (f : Counts → Piece)
    → d1 ≡ extended d (made_piece bodies objects steps all inner) → d2 ≡ extended d1 (f (counts d1)) → d2 ≡ extended d (joined (made_piece bodies objects steps all inner) (f (counted (counts d) bodies objects)))
grown-next d d1 d2 bodies objects steps all inner f first second =
    let p : Piece = made_piece bodies objects steps all inner in
    second ∙ ap (λ e. extended e (f (counts e))) first
    ∙ ap (λ n. extended (extended d p) (f n)) (counts-extended d bodies objects steps all inner)
    ∙ extended-both d p (f (counted (counts d) bodies objects))

pub grown-is : (d e : Draft) (p q : Piece) → e ≡ extended d p → p ≡ q → e ≡ extended d q
grown-is d e p q is same = is ∙ ap (extended d) same
