-- What is made of a tree under a renaming.
use Rattle.std.specs.Prelude.{◌≡◌, ℕ, ◌+◌, ◌<◌, true, List, map}
use Rattle.st_code.specs.Texts.{Text}
use Rattle.st_code.specs.Resolved.{Made, Context, Counts, Receiver, ToTree, ToSuper, Chain, number_or_last, has_text}
use Rattle.law_shake.specs.Renaming.{Renaming, object, ren_object, ren_code, ren_tree, ren_trees}

module _ (x : Renaming) where
  abbrev pub ren_made : {A B : Type 0} → (A → B) → Made A → Made B
  ren_made f a = record { item = f a.item; bodies = map (ren_code x) a.bodies; objects = map (ren_object x) a.objects }

  abbrev pub ren_receiver : Receiver → Receiver
  ren_receiver (ToTree t) = ToTree (ren_tree x t)
  ren_receiver ToSuper = ToSuper

  abbrev pub ren_chain : Chain → Chain
  ren_chain c = record { whole = ren_receiver c.whole; before = ren_receiver c.before; selector = x.symbol c.selector; args = ren_trees x c.args }

  -- with other numbers of names
  abbrev pub ren_context : List Text → Context → Context
  ren_context names c = record c { names = record c.names { names = names }; code = x.code c.code }

  -- so many bodies and objects from here on have their numbers from there on
  pub record Agrees (n m : Counts) (bodies objects : ℕ) : Type 0 where
    pub code : (k : ℕ) → k < bodies → x.code (n.bodies + k) ≡ m.bodies + k
    pub literal : (k : ℕ) → k < objects → object x (n.objects + k) ≡ m.objects + k

  -- these texts have their numbers in the other names
  pub record Named (names names' : List Text) (texts : List Text) : Type 0 where
    pub symbol : (t : Text) → has_text texts t ≡ true → x.symbol (number_or_last names t) ≡ number_or_last names' t
