use Rattle.std.proofs.Common.{◌≡◌, sym, ◌∙◌, ap, arith}
use Rattle.program_image.specs.Images.{image_program}
use Rattle.st_contexts.specs.Stack.{with_outside}
use Rattle.signal_env.proofs.Own.{handles-selector}
use Rattle.signal_env.proofs.Searches.{entry_number, search_ended, search_asks, search_finds, search_past, search_next}
use Rattle.signal_env.proofs.handlers.find_handler.Goals as goal

pub selector_number-handles-requires : goal.selector_number-handles-requires
selector_number-handles-requires g c = handles-selector

pub returns-then-not-is_plain : goal.returns-then-not-is_plain
returns-then-not-is_plain g c = search_asks (image_program c.args.image.now) (g.H.Heap.meaning c.args.heap.now).store c.args.class c.args.contexts.now.acts c.args.env.0 c.loop-entry.link.0 c.loop-entry.invariant c.in-Some.entry (c.entry.ensures.environment ∙ ap (with_outside c.args.contexts.now.acts) c.in-Some.is) (sym c.if-not-is_plain.true ∙ c.is_plain.ensures)

pub returns-then-fits : goal.returns-then-fits
returns-then-fits g c = search_finds (image_program c.args.image.now) (g.H.Heap.meaning c.args.heap.now).store c.args.class c.args.contexts.now.acts c.args.env.0 c.loop-entry.link.0 c.loop-entry.invariant c.in-Some.entry (c.entry.ensures.environment ∙ ap (with_outside c.args.contexts.now.acts) c.in-Some.is) (sym c.if-not-is_plain.false ∙ c.is_plain.ensures) (sym c.if-fits.true ∙ c.fits.ensures)

pub returns-then-entry : goal.returns-then-entry
returns-then-entry g c = search_past (image_program c.args.image.now) (g.H.Heap.meaning c.args.heap.now).store c.args.class c.args.contexts.now.acts c.args.env.0 c.loop-entry.link.0 c.loop-entry.invariant c.in-Some.entry (c.entry.ensures.environment ∙ ap (with_outside c.args.contexts.now.acts) c.in-Some.is) (sym c.if-not-is_plain.false ∙ c.is_plain.ensures) (sym c.if-fits.false ∙ c.fits.ensures) c.if-entry.true

pub loop-entry-smaller : goal.loop-entry-smaller
loop-entry-smaller g c =
    let number : c.in-Some.entry.protect ≡ c.loop-entry.link.0 = entry_number c.loop-entry.link.0 c.args.contexts.now.acts c.in-Some.entry (sym c.in-Some.is ∙ c.entry.ensures.entry) in
    omega (arith, number, c.if-entry.false)

pub loop-entry-preserved : goal.loop-entry-preserved
loop-entry-preserved g c = search_next (image_program c.args.image.now) (g.H.Heap.meaning c.args.heap.now).store c.args.class c.args.contexts.now.acts c.args.env.0 c.loop-entry.link.0 c.loop-entry.invariant c.in-Some.entry (c.entry.ensures.environment ∙ ap (with_outside c.args.contexts.now.acts) c.in-Some.is) (sym c.if-not-is_plain.false ∙ c.is_plain.ensures) (sym c.if-fits.false ∙ c.fits.ensures) c.if-entry.false

pub returns : goal.returns
returns g c = search_ended (image_program c.args.image.now) (g.H.Heap.meaning c.args.heap.now).store c.args.class c.args.contexts.now.acts c.args.env.0 c.loop-entry.link.0 c.loop-entry.invariant (c.entry.ensures.environment ∙ ap (with_outside c.args.contexts.now.acts) c.in_default.is)
