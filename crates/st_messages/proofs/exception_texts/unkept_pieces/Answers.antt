use Rattle.std.proofs.Common.{◌≡◌, ◌∙◌, true, sym, ap}
use Rattle.object_heap.specs.declared.value.Value.{Value}
use Rattle.object_heap.specs.declared.value.Value.TheVariants.{Object}
use Rattle.object_heap.specs.Store.{object_at}
use Rattle.st_code.specs.BuiltIns.{message_class, message_not_understood_class}
use Rattle.st_code.specs.Lookup.{class_of, inherits}
use Rattle.st_collections.specs.Kinds.{is_a, slot_of}
use Rattle.st_messages.proofs.MissedTexts.{slot_object, unkept-is}
use Rattle.st_messages.proofs.exception_texts.unkept_pieces.Goals as goal

pub returns-then-is_message-clause-text : goal.returns-then-is_message-clause-text
returns-then-is_message-clause-text g c =
    let p = g.P.ProgramFacts.meaning c.args.program.now in
    let s = (g.H.Heap.meaning c.args.heap.now).store in
    let n = c.args.exception in
    let kept : c.get-message.result ≡ slot_of s (Object n) 1 = c.get-message.ensures ∙ sym (slot_object n 1 s) in
    let receiver : c.get.result ≡ slot_of s (Object n) 2 = c.get.ensures ∙ sym (slot_object n 2 s) in
    let class : c.class_now-receiver.result ≡ class_of s (slot_of s (Object n) 2) = c.class_now-receiver.ensures ∙ ap (λ (v : Value). class_of s v) receiver in
    let selector : c.slot_now.result ≡ slot_of s (slot_of s (Object n) 1) 0 = c.slot_now.ensures ∙ ap (λ (v : Value). slot_of s v 0) kept in
    let under : inherits p (object_at n s).class message_not_understood_class ≡ true = rw (← c.class_of-class.ensures) (sym c.is_under.ensures ∙ c.if-is_under.true) in
    let message : is_a s message_class (slot_of s (Object n) 1) ≡ true = rw (← kept) (sym c.is_message.ensures ∙ c.if-is_message.true) in
    rw (c.missed_pieces.ensures, class, selector) (sym (unkept-is p s n (object_at n s).class under message))
