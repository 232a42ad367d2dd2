-- The actions that begin nothing, and the messages to characters, strings and collections, which all are such.
use Rattle.std.proofs.Common.{◌≡◌, Bool, true, false, refl, ap, if◌then◌else◌}
use Rattle.object_heap.specs.Charges.{Memory}
use Rattle.st_collections.specs.Actions.{Action, Gives, Changes, Makes, Fails, PassesIntegers, DividesByZero, Writes, Begins, Activates, Sends, Misses, Enters, Guards, Ensures, Curtails, Iterates, Raises, RaisesNew, Controls, Terminates}
use Rattle.st_collections.specs.Answers.{answer_of, is_out, memory_of, unless_out}
use Rattle.st_collections.specs.declared.answer.Built.{Built}
use Rattle.st_messages.specs.declared.reply.Reply.{Reply}
use Rattle.st_messages.specs.Replies.{Answered, memory_after, told_by, unless_lost}

abbrev pub is_at_once : Action → Bool
is_at_once (Gives v) = true
is_at_once (Changes s v) = true
is_at_once (Makes cells s v) = true
is_at_once (Fails t) = true
is_at_once PassesIntegers = true
is_at_once a = false

pub told_at_once : (a : Action) (m : Memory) → is_at_once a ≡ true → told_by a m ≡ Answered (answer_of a m)
told_at_once (Gives v) m h = refl
told_at_once (Changes s v) m h = refl
told_at_once (Makes cells s v) m h = refl
told_at_once (Fails t) m h = refl
told_at_once PassesIntegers m h = refl
told_at_once (DividesByZero v) m h = cc
told_at_once (Writes t v) m h = cc
told_at_once (Begins v vs) m h = cc
told_at_once (Activates c vs) m h = cc
told_at_once (Sends n v vs) m h = cc
told_at_once (Misses n v vs) m h = cc
told_at_once (Enters n v vs) m h = cc
told_at_once (Guards u v w) m h = cc
told_at_once (Ensures u v) m h = cc
told_at_once (Curtails u v) m h = cc
told_at_once (Iterates l) m h = cc
told_at_once (Raises s n) m h = cc
told_at_once (RaisesNew n vs) m h = cc
told_at_once (Controls c n v) m h = cc
told_at_once (Terminates v) m h = cc

pub after_at_once : (a : Action) (m : Memory) → is_at_once a ≡ true → memory_after a m ≡ memory_of a m
after_at_once (Gives v) m h = refl
after_at_once (Changes s v) m h = refl
after_at_once (Makes cells s v) m h = refl
after_at_once (Fails t) m h = refl
after_at_once PassesIntegers m h = refl
after_at_once (DividesByZero v) m h = refl
after_at_once (Writes t v) m h = refl
after_at_once (Begins v vs) m h = refl
after_at_once (Activates c vs) m h = refl
after_at_once (Sends n v vs) m h = refl
after_at_once (Misses n v vs) m h = refl
after_at_once (Enters n v vs) m h = refl
after_at_once (Guards u v w) m h = refl
after_at_once (Ensures u v) m h = refl
after_at_once (Curtails u v) m h = refl
after_at_once (Iterates l) m h = refl
after_at_once (Raises s n) m h = cc
after_at_once (RaisesNew n vs) m h = refl
after_at_once (Controls c n v) m h = refl
after_at_once (Terminates v) m h = refl

-- ---- an answer as a reply

pub reply_memory : (b : Built) (a : Action) (m m' : Memory) → is_at_once a ≡ true → m' ≡ unless_out b m (memory_of a m) → m' ≡ unless_lost (Reply.Answer b) m (memory_after a m)
reply_memory b a m m' h e = rw (after_at_once a m h) e

told_either : (t : Bool) (b c : Built) → b ≡ (if t then b else c) → Answered b ≡ (if t then Answered b else Answered c)
told_either true b c e = refl
told_either false b c e = ap (λ (x : Built). Answered x) e

pub reply_told : (b : Built) (a : Action) (m : Memory) → is_at_once a ≡ true → b ≡ unless_out b b (answer_of a m) → Answered b ≡ unless_lost (Reply.Answer b) (Answered b) (told_by a m)
reply_told b a m h e = rw (told_at_once a m h) (told_either (is_out b) b (answer_of a m) e)
