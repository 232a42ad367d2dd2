-- Trees whose names, constants and blocks are as a compilable program's, and their code.
use Rattle.std.proofs.Common.{◌≡◌, ℕ, zero, suc, ◌+◌, ◌<◌, List, [], ◌∷◌, ◌++◌, length, get_or, append_assoc, Some, refl, sym, ap, ◌∙◌, subst, arith}
use Rattle.std.proofs.lemmas.List.{length-append}
use Rattle.std.proofs.Math.Seq.{get_or-append_seam}
use Rattle.st_code.specs.Program.{Program, Tree, Constant, Self, Variable, Assign, Block, Send, SuperSend, Cascade, SuperCascade, Trees, no_trees, more_trees, Messages, no_messages, more_messages, Statement, Plain, Return, Kind, InMethod, InBlock, InInitializer, Body as BodyRow, body_at}
use Rattle.st_code.specs.Code.{Instr, Store, SendMessage, SendSuper, return_of, count_of, dup_for, pop_for, code, code_args, code_messages, end_code, empty_code, code_on, code_body}
use Rattle.st_code.specs.Compiled.{constant_value, constant_of}
use Rattle.st_rules.specs.Compilable.{Named, Body, Sound, AllSound}

module _ (p : Program) (c : ℕ) where
  abbrev mutual
    pub TreeSound : Tree → Type 0
    TreeSound (Constant v) = constant_value (constant_of v) ≡ v
    TreeSound Self = Unit {0}
    TreeSound (Variable place) = Named p c place
    TreeSound (Assign place t) = Named p c place × TreeSound t
    TreeSound (Block n) = Body p n InBlock (Some c)
    TreeSound (Send selector t args) = TreeSound t × TreesSound args
    TreeSound (SuperSend selector args) = TreesSound args
    TreeSound (Cascade t messages) = TreeSound t × MessagesSound messages
    TreeSound (SuperCascade messages) = MessagesSound messages

    pub TreesSound : Trees → Type 0
    TreesSound no_trees = Unit {0}
    TreesSound (more_trees t row) = TreeSound t × TreesSound row

    pub MessagesSound : Messages → Type 0
    MessagesSound no_messages = Unit {0}
    MessagesSound (more_messages selector args row) = TreesSound args × MessagesSound row

  abbrev pub StatementsSound : List Statement → Type 0
  StatementsSound [] = Unit {0}
  StatementsSound (Plain t ∷ row) = TreeSound t × StatementsSound row
  StatementsSound (Return t ∷ row) = TreeSound t × StatementsSound row

  dup_sound : (messages : Messages) (rest : List Instr) → AllSound p c rest → AllSound p c (dup_for messages rest)
  dup_sound no_messages rest h = h
  dup_sound (more_messages selector args row) rest h = (tt, h)

  pop_sound : (messages : Messages) (rest : List Instr) → AllSound p c rest → AllSound p c (pop_for messages rest)
  pop_sound no_messages rest h = h
  pop_sound (more_messages selector args row) rest h = (tt, h)

  mutual
    code_sound : (t : Tree) (rest : List Instr) → TreeSound t → AllSound p c rest → AllSound p c (code t rest)
    code_sound (Constant v) rest s h = (s, h)
    code_sound Self rest s h = (tt, h)
    code_sound (Variable place) rest s h = (s, h)
    code_sound (Assign place t) rest s h = code_sound t (Store place ∷ rest) s.1 (s.0, h)
    code_sound (Block n) rest s h = (s, h)
    code_sound (Send selector t args) rest s h = code_sound t _ s.0 (args_sound args _ s.1 (tt, h))
    code_sound (SuperSend selector args) rest s h = (tt, args_sound args _ s (tt, h))
    code_sound (Cascade t messages) rest s h = code_sound t _ s.0 (messages_sound SendMessage (λ selector count. tt) messages rest s.1 h)
    code_sound (SuperCascade messages) rest s h = (tt, messages_sound SendSuper (λ selector count. tt) messages rest s h)

    args_sound : (row : Trees) (rest : List Instr) → TreesSound row → AllSound p c rest → AllSound p c (code_args row rest)
    args_sound no_trees rest s h = h
    args_sound (more_trees t row) rest s h = code_sound t _ s.0 (args_sound row rest s.1 h)

    messages_sound : (send : ℕ → ℕ → Instr) → ((selector count : ℕ) → Sound p c (send selector count)) → (row : Messages) (rest : List Instr) → MessagesSound row → AllSound p c rest → AllSound p c (code_messages send row rest)
    messages_sound send sound no_messages rest s h = h
    messages_sound send sound (more_messages selector args row) rest s h =
        dup_sound row _ (args_sound args _ s.0 (sound selector (count_of args), pop_sound row _ (messages_sound send sound row rest s.1 h)))

  end_sound : (kind : Kind) → AllSound p c (end_code kind)
  end_sound InMethod = (tt, (tt, (tt, tt)))
  end_sound InBlock = (tt, tt)
  end_sound InInitializer = (tt, tt)

  empty_sound : (kind : Kind) → AllSound p c (empty_code kind)
  empty_sound InMethod = (tt, (tt, tt))
  empty_sound InBlock = (refl, (tt, tt))
  empty_sound InInitializer = (refl, (tt, tt))

  return_sound : (kind : Kind) → Sound p c (return_of kind)
  return_sound InMethod = tt
  return_sound InBlock = tt
  return_sound InInitializer = tt

  on_sound : (kind : Kind) (s : Statement) (row : List Statement) → StatementsSound (s ∷ row) → AllSound p c (code_on kind s row)
  on_sound kind (Return t) row h = code_sound t _ h.0 (return_sound kind, tt)
  on_sound kind (Plain t) [] h = code_sound t _ h.0 (end_sound kind)
  on_sound kind (Plain t) (u ∷ row) h = code_sound t _ h.0 (tt, on_sound kind u row h.1)

  pub body_sound : (kind : Kind) (row : List Statement) → StatementsSound row → AllSound p c (code_body kind row)
  body_sound kind [] h = empty_sound kind
  body_sound kind (s ∷ row) h = on_sound kind s row h

-- ---- bodies by number, from this one on

module _ (p : Program) where
  abbrev pub AllBodies : ℕ → List BodyRow → Type 0
  AllBodies k [] = Unit {0}
  AllBodies k (b ∷ bodies) = AllSound p k (code_body b.kind b.statements) × AllBodies (suc k) bodies

  -- the program has these bodies there
  abbrev pub Sits : ℕ → List BodyRow → Type 0
  Sits k [] = Unit {0}
  Sits k (b ∷ bodies) = ((k < length p.bodies) × (body_at p k ≡ b)) × Sits (suc k) bodies

  pub bodies_append : (k : ℕ) (xs ys : List BodyRow) → AllBodies k xs → AllBodies (k + length xs) ys → AllBodies k (xs ++ ys)
  bodies_append k [] ys h i = let e : k + 0 ≡ k = omega arith in subst (λ n. AllBodies n ys) e i
  bodies_append k (a ∷ xs) ys h i = let e : k + length (a ∷ xs) ≡ suc k + length xs = omega arith in (h.0, bodies_append (suc k) xs ys h.1 (subst (λ n. AllBodies n ys) e i))

  pub sits_left : (k : ℕ) (xs ys : List BodyRow) → Sits k (xs ++ ys) → Sits k xs
  sits_left k [] ys h = tt
  sits_left k (a ∷ xs) ys h = (h.0, sits_left (suc k) xs ys h.1)

  pub sits_right : (k : ℕ) (xs ys : List BodyRow) → Sits k (xs ++ ys) → Sits (k + length xs) ys
  sits_right k [] ys h = let e : k ≡ k + 0 = omega arith in subst (λ n. Sits n ys) e h
  sits_right k (a ∷ xs) ys h = let e : suc k + length xs ≡ k + length (a ∷ xs) = omega arith in subst (λ n. Sits n ys) e (sits_right (suc k) xs ys h.1)

  -- all bodies of the program are where they are
  at_seam : (before : List BodyRow) (b : BodyRow) (bodies : List BodyRow) → p.bodies ≡ before ++ b ∷ bodies → (d : BodyRow) → get_or p.bodies (length before) d ≡ b
  at_seam before b bodies e d = ap (λ ys. get_or ys (length before) d) e ∙ get_or-append_seam before b bodies d

  pub sits_from : (before bodies : List BodyRow) → p.bodies ≡ before ++ bodies → Sits (length before) bodies
  unfolding body_at
  sits_from before [] e = tt
  sits_from before (b ∷ bodies) e =
      let size : length p.bodies ≡ length before + length (b ∷ bodies) = ap length e ∙ length-append before (b ∷ bodies) in
      let more : p.bodies ≡ (before ++ b ∷ []) ++ bodies = e ∙ sym (append_assoc before (b ∷ []) bodies) in
      let next : length (before ++ b ∷ []) ≡ suc (length before) = length-append before (b ∷ []) ∙ omega arith in
      ((omega (arith, size), at_seam before b bodies e _), subst (λ n. Sits n bodies) next (sits_from (before ++ b ∷ []) bodies more))

  pub sits : Sits 0 p.bodies
  sits = sits_from [] p.bodies refl

  get_sound : (k i : ℕ) (bodies : List BodyRow) (d : BodyRow) → AllBodies k bodies → AllSound p (k + i) (code_body d.kind d.statements) → AllSound p (k + i) (code_body (get_or bodies i d).kind (get_or bodies i d).statements)
  get_sound k i [] d h s = s
  get_sound k zero (b ∷ bodies) d h s = let e : k ≡ k + 0 = omega arith in subst (λ n. AllSound p n (code_body b.kind b.statements)) e h.0
  get_sound k (suc i) (b ∷ bodies) d h s =
      let e : suc k + i ≡ k + suc i = omega arith in
      subst (λ n. AllSound p n (code_body (get_or bodies i d).kind (get_or bodies i d).statements)) e (get_sound (suc k) i bodies d h.1 (subst (λ n. AllSound p n (code_body d.kind d.statements)) (sym e) s))

  pub every_body : AllBodies 0 p.bodies → (code : ℕ) → AllSound p code (code_body (body_at p code).kind (body_at p code).statements)
  unfolding body_at
  every_body h code = let e : 0 + code ≡ code = omega arith in subst (λ n. AllSound p n (code_body (body_at p code).kind (body_at p code).statements)) e (get_sound 0 code p.bodies _ h (refl, (tt, tt)))
