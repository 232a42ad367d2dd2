use Rattle.std.proofs.Common.{◌≡◌, ◌<◌, ◌≤◌, length, get_or, sym, ◌∙◌, ap, arith}
use Rattle.object_heap.specs.declared.value.Value.TheVariants.{Nil}
use Rattle.object_heap.specs.Store.{object_at}
use Rattle.program_image.specs.Images.{image_program}
use Rattle.signal_env.specs.Searches.{class_fits}
use Rattle.signal_env.proofs.Plain.{fit-found, fit-passed, fit-none}
use Rattle.signal_env.proofs.handlers.fits_some.Goals as goal

pub returns-then-fits_class : goal.returns-then-fits_class
returns-then-fits_class g c =
    let within : c.loop-slot.slot < length (object_at c.args.set (g.H.Heap.meaning c.args.heap.now).store).slots = omega (arith, c.length-slot-end.ensures, c.loop-slot-test.true) in
    let here : c.fits_class.result ≡ class_fits (image_program c.args.image.now) c.args.class (get_or (object_at c.args.set (g.H.Heap.meaning c.args.heap.now).store).slots c.loop-slot.slot Nil) = c.fits_class.ensures ∙ ap (class_fits (image_program c.args.image.now) c.args.class) c.get.ensures in
    fit-found (image_program c.args.image.now) c.args.class c.loop-slot.slot (object_at c.args.set (g.H.Heap.meaning c.args.heap.now).store).slots within c.loop-slot.invariant (sym c.if-fits_class.true ∙ here)

pub loop-slot-preserved : goal.loop-slot-preserved
loop-slot-preserved g c =
    let within : c.loop-slot.slot < length (object_at c.args.set (g.H.Heap.meaning c.args.heap.now).store).slots = omega (arith, c.length-slot-end.ensures, c.loop-slot-test.true) in
    let here : c.fits_class.result ≡ class_fits (image_program c.args.image.now) c.args.class (get_or (object_at c.args.set (g.H.Heap.meaning c.args.heap.now).store).slots c.loop-slot.slot Nil) = c.fits_class.ensures ∙ ap (class_fits (image_program c.args.image.now) c.args.class) c.get.ensures in
    fit-passed (image_program c.args.image.now) c.args.class c.loop-slot.slot (object_at c.args.set (g.H.Heap.meaning c.args.heap.now).store).slots within c.loop-slot.invariant (sym c.if-fits_class.false ∙ here)

pub returns : goal.returns
returns g c =
    let past : length (object_at c.args.set (g.H.Heap.meaning c.args.heap.now).store).slots ≤ c.loop-slot.slot = omega (arith, c.length-slot-end.ensures, c.loop-slot-test.false) in
    fit-none (image_program c.args.image.now) c.args.class c.loop-slot.slot (object_at c.args.set (g.H.Heap.meaning c.args.heap.now).store).slots past c.loop-slot.invariant
