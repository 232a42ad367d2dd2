-- What links name stays the same where activations come to stand further in.
use Rattle.std.proofs.Common.{◌≡◌, ℕ, suc, zero, ◌<◌, List, [], ◌∷◌, map, true, false, nat_eq, Option, Some, None, refl, ap, sym, ◌∙◌, arith}
use Rattle.std.specs.Option.{option_map}
use Rattle.std.proofs.lemmas.Bool.Decides.{nat_tests}
use Rattle.object_heap.specs.declared.value.Value.{Value}
use Rattle.st_contexts.specs.declared.activation.Activation.{Activation}
use Rattle.st_contexts.specs.declared.activation.Activation.TheVariants as act
use Rattle.st_contexts.specs.declared.activation.Env.{Env}
use Rattle.st_contexts.specs.declared.activation.Turn as linked
use Rattle.st_contexts.specs.Stack.{Standing, env_in, entry_in, standing_in, stands_in}
use Rattle.st_rules.specs.State.{number_of_mark, stands, is_at_signal}
use Rattle.st_rules.specs.Machine.{mark_of, marks}
use Rattle.st_rules.specs.Flat.{flat_number}
use Rattle.st_machine.specs.Settling.{at_signal}
use Rattle.st_machine.specs.Followed.{EntryBelow, TurnBelow}
use Rattle.st_machine.specs.Meaning.{env_of, entry_named, entry_seen, act_by, acts_of, turn_of}

pub other_number : (n m : ℕ) → n < m → nat_eq n m ≡ false
other_number n m l = grind (arith, nat_tests)

same_number : (n : ℕ) → nat_eq n n ≡ true
same_number n = grind (arith, nat_tests)

pub same_eq : (n m : ℕ) → nat_eq n m ≡ nat_eq m n
same_eq n m = grind (arith, nat_tests)

none_named : (acts : List Standing) → env_in acts zero ≡ []
unfolding env_in
none_named [] = refl
none_named (a ∷ acts) = refl

pub env_in_skip : (a : Standing) (acts : List Standing) (n : ℕ) → n < a.number → env_in (a ∷ acts) n ≡ env_in acts n
unfolding env_in
env_in_skip a acts zero l = sym (none_named acts)
env_in_skip a acts (suc n) l = rw (other_number (suc n) a.number l) refl

pub env_skip : (a : Standing) (acts : List Standing) (env : Env) → env.0 < a.number → env_of (a ∷ acts) env ≡ env_of acts env
unfolding env_of
env_skip a acts env l = ap (λ es. map entry_seen es) (env_in_skip a acts env.0 l)

standing_skip : (a : Standing) (acts : List Standing) (n : ℕ) → n < a.number → standing_in n (a ∷ acts) ≡ standing_in n acts
unfolding standing_in
standing_skip a acts n l = rw (other_number n a.number l) refl

entry_in_skip : (a : Standing) (acts : List Standing) (n : ℕ) → n < a.number → entry_in n (a ∷ acts) ≡ entry_in n acts
entry_in_skip a acts n l = rw (standing_skip a acts n l) refl

pub entry_skip : (a : Standing) (acts : List Standing) (n : ℕ) → n < a.number → entry_named (a ∷ acts) n ≡ entry_named acts n
unfolding entry_named
entry_skip a acts n l = rw (entry_in_skip a acts n l) refl

-- ---- marks

pub mark_number : (k : Activation) (n : ℕ) (env : Env) (ops : List Value) (acts : List Standing) → number_of_mark (mark_of flat_number (act_by k n env ops acts)) ≡ n
mark_number (act.Body f) n env ops acts = refl
mark_number (act.Leaving f) n env ops acts = refl
mark_number (act.Protect r s h) n env ops acts = refl
mark_number (act.EnsureOn b) n env ops acts = refl
mark_number (act.CurtailOn b) n env ops acts = refl
mark_number (act.ActionOff o) n env ops acts = refl
mark_number (act.Signal e) n env ops acts = refl
mark_number (act.HandlerRun t) n env ops acts = refl
mark_number act.Outer n env ops acts = refl
mark_number (act.ResumeWait w k t) n env ops acts = refl
mark_number (act.HandlesWait x e) n env ops acts = refl
mark_number (act.Loop l) n env ops acts = refl

pub stands_same : (n : ℕ) (acts : List Standing) → stands n (marks flat_number (acts_of acts)) ≡ stands_in n acts
unfolding stands stands_in
stands_same n [] = refl
stands_same n (a ∷ acts) = rw (mark_number a.kept a.number a.env a.operands acts, stands_same n acts) refl

-- ---- turns

option_skip : (a : Standing) (acts : List Standing) (entry : Option ℕ) → EntryBelow a.number entry → option_map (entry_named (a ∷ acts)) entry ≡ option_map (entry_named acts) entry
option_skip a acts None l = refl
option_skip a acts (Some n) l = ap (λ e. Some e) (entry_skip a acts n l)

pub turn_skip : (a : Standing) (acts : List Standing) (t : linked.Turn) → TurnBelow a.number t → turn_of (a ∷ acts) t ≡ turn_of acts t
turn_skip a acts t l =
    ap (λ e. record { exception = t.exception; entry = e; outside = env_of (a ∷ acts) t.outside; resume_point = t.resume_point; signal = t.signal }) (option_skip a acts t.entry l.1)
    ∙ ap (λ o. record { exception = t.exception; entry = option_map (entry_named acts) t.entry; outside = o; resume_point = t.resume_point; signal = t.signal }) (env_skip a acts t.outside l.0)

-- ---- signals

signal_here : (k : Activation) (n : ℕ) (env : Env) (ops : List Value) (acts : List Standing) (signal depth next width : ℕ)
    → is_at_signal signal (mark_of flat_number (act_by k n env ops acts) ∷ marks flat_number (acts_of acts)) ≡ at_signal signal (record { acts = record { number = n; kept = k; env = env; operands = ops } ∷ acts; next = next; depth = depth; width = width })
signal_here (act.Body f) n env ops acts signal depth next width = refl
signal_here (act.Leaving f) n env ops acts signal depth next width = refl
signal_here (act.Protect r s h) n env ops acts signal depth next width = refl
signal_here (act.EnsureOn b) n env ops acts signal depth next width = refl
signal_here (act.CurtailOn b) n env ops acts signal depth next width = refl
signal_here (act.ActionOff o) n env ops acts signal depth next width = refl
signal_here (act.Signal e) n env ops acts signal depth next width = same_eq signal n
signal_here (act.HandlerRun t) n env ops acts signal depth next width = refl
signal_here act.Outer n env ops acts signal depth next width = refl
signal_here (act.ResumeWait w k t) n env ops acts signal depth next width = refl
signal_here (act.HandlesWait x e) n env ops acts signal depth next width = refl
signal_here (act.Loop l) n env ops acts signal depth next width = refl

pub signal_same : (acts : List Standing) (signal depth next width : ℕ) → is_at_signal signal (marks flat_number (acts_of acts)) ≡ at_signal signal (record { acts = acts; next = next; depth = depth; width = width })
signal_same [] signal depth next width = refl
signal_same (a ∷ acts) signal depth next width = signal_here a.kept a.number a.env a.operands acts signal depth next width

-- ---- the environment that an `on:do:` makes

pub env_here : (n : ℕ) (r sel h : Value) (env : Env) (ops : List Value) (acts : List Standing) → env.0 < n
    → env_of (record { number = n; kept = act.Protect r sel h; env = env; operands = ops } ∷ acts) (record { 0 = n }) ≡ record { number = n; selector = sel; handler = h } ∷ env_of acts env
unfolding env_of env_in
env_here zero r sel h env ops acts l = let none : ⊥ = omega (arith, l) in absurd none
env_here (suc n) r sel h env ops acts l = rw (same_number (suc n)) refl
