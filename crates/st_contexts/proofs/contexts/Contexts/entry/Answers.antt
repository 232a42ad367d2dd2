use Rattle.std.proofs.Common.{◌≡◌, Some, None, reverse, nat_eq, false, sym, ◌∙◌, arith}
use Rattle.std.proofs.lemmas.Bool.{ne_eqb}
use Rattle.st_contexts.specs.Stack.{entry_in}
use Rattle.st_contexts.specs.Flat.{place_in, standings}
use Rattle.st_contexts.proofs.Standing.{found_place, code_entry, code_no_entry}
use Rattle.st_contexts.proofs.Links.{no_env_in, code_environment}
use Rattle.st_contexts.proofs.contexts.Contexts.entry.Goals as goal

pub returns-then-env-eq0-clause-environment : goal.returns-then-env-eq0-clause-environment
returns-then-env-eq0-clause-environment c = rw c.if-env-eq0.true (no_env_in c.args.self.now.acts)

pub index-requires : goal.index-requires
index-requires c =
    let e : Some c.in-Some.place ≡ place_in c.args.env.0 (reverse c.self.inside.slots.items) = rw c.deref.ensures.value at (sym c.in-Some.is ∙ c.place_of.ensures) in
    omega (arith, found_place c.args.env.0 c.self.inside.slots.items c.in-Some.place e, c.self.inside.slots.ok.0)

pub returns-in-Some-clause-entry : goal.returns-in-Some-clause-entry
returns-in-Some-clause-entry c =
    let e : Some c.in-Some.place ≡ place_in c.args.env.0 (reverse c.self.inside.slots.items) = rw c.deref.ensures.value at (sym c.in-Some.is ∙ c.place_of.ensures) in
    let some : nat_eq c.args.env.0 0 ≡ false = ne_eqb c.args.env.0 0 c.if-env-eq0.false in
    rw (← c.self.view_is) (c.entry_of.ensures ∙ code_entry c.self.inside.width c.args.env.0 c.self.inside.slots.items c.self.inside.values.items c.in-Some.place c.index.result.now c.self.invariant.windows e c.index.ensures some)

pub returns-in-Some-clause-environment : goal.returns-in-Some-clause-environment
returns-in-Some-clause-environment c =
    let e : Some c.in-Some.place ≡ place_in c.args.env.0 (reverse c.self.inside.slots.items) = rw c.deref.ensures.value at (sym c.in-Some.is ∙ c.place_of.ensures) in
    let some : nat_eq c.args.env.0 0 ≡ false = ne_eqb c.args.env.0 0 c.if-env-eq0.false in
    let entry : c.entry_of.result ≡ entry_in c.args.env.0 (standings (reverse c.self.inside.slots.items) (reverse c.self.inside.values.items)) = c.entry_of.ensures ∙ code_entry c.self.inside.width c.args.env.0 c.self.inside.slots.items c.self.inside.values.items c.in-Some.place c.index.result.now c.self.invariant.windows e c.index.ensures some in
    rw (← c.self.view_is) (code_environment c.self.inside.next c.args.env.0 (reverse c.self.inside.slots.items) (reverse c.self.inside.values.items) c.entry_of.result c.self.invariant.falls some entry)

pub returns-in-None-clause-entry : goal.returns-in-None-clause-entry
returns-in-None-clause-entry c =
    let e : None ≡ place_in c.args.env.0 (reverse c.self.inside.slots.items) = rw c.deref.ensures.value at (sym c.in-None.is ∙ c.place_of.ensures) in
    let some : nat_eq c.args.env.0 0 ≡ false = ne_eqb c.args.env.0 0 c.if-env-eq0.false in
    rw (← c.self.view_is) (code_no_entry c.args.env.0 c.self.inside.slots.items c.self.inside.values.items e some)

pub returns-in-None-clause-environment : goal.returns-in-None-clause-environment
returns-in-None-clause-environment c =
    let e : None ≡ place_in c.args.env.0 (reverse c.self.inside.slots.items) = rw c.deref.ensures.value at (sym c.in-None.is ∙ c.place_of.ensures) in
    let some : nat_eq c.args.env.0 0 ≡ false = ne_eqb c.args.env.0 0 c.if-env-eq0.false in
    rw (← c.self.view_is) (code_environment c.self.inside.next c.args.env.0 (reverse c.self.inside.slots.items) (reverse c.self.inside.values.items) None c.self.invariant.falls some (code_no_entry c.args.env.0 c.self.inside.slots.items c.self.inside.values.items e some))
