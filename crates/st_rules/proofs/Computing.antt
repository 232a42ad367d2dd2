-- What a run is seen as, by the rules, the scoped machine and the flat one, and all that a run computes with.
use Rattle.std.proofs.Common.{◌≡◌, ℕ, List, [], ◌∷◌}
use Rattle.object_heap.specs.declared.value.Value.TheVariants.{Object}
use Rattle.object_heap.specs.Store.{object_at}
use Rattle.st_code.specs.Texts.{Text}
use Rattle.st_code.specs.Program.{Program}
use Rattle.st_rules.specs.Events.{Event}
use Rattle.st_rules.specs.State.{State, Limit}
use Rattle.st_rules.specs.Ends.{Result, Yields, NoIndex}
use Rattle.st_rules.specs.Runs.{Ending, Done, Unhandled, AtLimit, Stuck, run_from, end_of}
use Rattle.st_rules.specs.Machine.{Bodies}
use Rattle.st_rules.specs.Scoped.{scoped}
use Rattle.st_rules.specs.Turns.{Top, On, Ended, opened_run, top_iter, instructions}
use Rattle.st_rules.specs.Flat.{flat, greatest_width}
use Rattle.st_code.specs.Compiled.{variable_at, compiled_body, compile_of}
use Rattle.st_code.specs.Program.{body_at, class_at, name_at, number_of}
use Rattle.st_code.specs.Texts.{same_text, text_less, is_upper, is_lower, is_digit, is_letter, to_upper, to_lower, all_bytes, is_identifier, are_keywords, is_keywords, holds_byte, is_operators, count_byte, arity, quotes_doubled, quoted, symbol_text, with_article}
use Rattle.st_collections.specs.Actions.{with_new, makes_slots, makes_bytes, makes_string, makes_blank}
use Rattle.st_code.specs.BuiltIns.{row_at, built_in_class_rows}
use Rattle.st_rules.specs.Ends.{read_place, write_place, with_opened, with_block, with_arguments, with_message}
use Rattle.st_rules.specs.ExceptionRows.{closure_of, block_action, exception_action}
use Rattle.st_rules.specs.Flat.{code_at, own_variables, captured_variables, operand_at, with_operand, instruction_at, with_flat_block}
use Rattle.st_collections.specs.Kinds.{same_value, is_a, bytes_of, slots_of, slot_of, interval_size, size_of, element, some_elements, elements, key, is_sequence, is_collection, species, print_text, exception_text}
use Rattle.st_code.specs.Literals.{trouble_literals}
use Rattle.st_code.specs.Lookup.{level_of, superclasses, inherits, walk, method_at, found_at, found_in, lookup, super_lookup, class_of, class_text, is_exception, is_plain, fits}
use Rattle.st_collections.specs.Loops.{is_within, visit_at, given_at, next_visit, first_of_message, first_visit, loop_action}
use Rattle.st_numbers.specs.Answers.{shifted}
use Rattle.st_numbers.specs.Gcd.{gcd_within, gcd}
use Rattle.st_rules.specs.NumberRows.{as_number, argument_of, arithmetic_action, last_digits, number_action}
use Rattle.st_collections.specs.ObjectRows.{object_action, class_action, boolean_action}
use Rattle.st_rules.specs.Rules.{at_index, exception_slots, with_exception, closure_for}
use Rattle.st_rules.specs.Runs.{first_state}
use Rattle.st_rules.specs.Sends.{row_action, send_action, super_action}
use Rattle.st_collections.specs.SequenceRows.{makes_sequence, sequence_action, grown_to, with_elements, without_element, collection_action}
use Rattle.st_rules.specs.State.{step_made, stood, used, scope_up, scoped_variable, with_scoped_variable, first_variables, count_true, scope_cells, with_scope, stands, is_live, turn_of}
use Rattle.st_collections.specs.TextRows.{character_action, string_action, transcript_action}

-- an ending: done, the class and text of an exception that nothing handled, or a limit
pub data Seen : Type 0 where
  WasDone : Seen
  WasUnhandled : (class text : Text) → Seen
  WasAtLimit : Limit → Seen
  WasStuck : Seen

abbrev seen_ending : Program → State → Ending → Seen
seen_ending p st Done = WasDone
seen_ending p st (Unhandled (Object n)) = WasUnhandled (class_at p (object_at n st.store).class).name (exception_text p st.store n)
seen_ending p st (Unhandled v) = WasStuck
seen_ending p st (AtLimit l) = WasAtLimit l
seen_ending p st Stuck = WasStuck

-- a run: its ending, its Transcript, the steps, the greatest depth, the cells and the events
pub record Report : Type 0 where
  pub ending : Seen
  pub transcript : Text
  pub steps : ℕ
  pub depth : ℕ
  pub cells : ℕ
  pub events : List Event

abbrev report : Program → Ending → State → Report
report p e st = record { ending = seen_ending p st e; transcript = st.transcript; steps = st.steps; depth = st.depth; cells = st.cells; events = st.events }

abbrev ruled : Program → Result → List Report
ruled p (Yields o st) = report p (end_of o) st ∷ []
ruled p NoIndex = []

abbrev pub by_rules : Program → List Report
by_rules p = ruled p (run_from p (at_index p 1000) p.initializers (first_state p))

-- with the instructions
abbrev ran : {B : Type 0} → Program → ℕ → Top B → List (Report × ℕ)
ran p n (On target xs m) = []
ran p n (Ended e st) = (report p e st, n) ∷ []

abbrev run_by : {B : Type 0} → Bodies B → Program → List (Report × ℕ)
run_by b p = ran p (instructions b p 3000 (opened_run b p)) (top_iter b p 3000 (opened_run b p))

abbrev pub by_scoped : Program → List (Report × ℕ)
by_scoped p = run_by (scoped p) p

abbrev pub by_flat : Program → List (Report × ℕ)
by_flat p = run_by (flat p (compile_of p) (greatest_width (compile_of p))) p

-- the rules and both machines give this report, the machines with so many instructions
abbrev pub Reports : Program → (instructions : ℕ) → Report → Type 0
Reports p instructions r = (by_rules p ≡ r ∷ []) × (by_scoped p ≡ (r, instructions) ∷ []) × (by_flat p ≡ (r, instructions) ∷ [])

unfoldable pub computing : Unit {0}
unfolding at_index first_state step_made stood used scope_up scoped_variable with_scoped_variable first_variables count_true scope_cells with_scope stands is_live turn_of same_text text_less is_upper is_lower is_digit is_letter to_upper to_lower all_bytes is_identifier are_keywords is_keywords holds_byte is_operators count_byte arity quotes_doubled quoted symbol_text with_article body_at class_at name_at number_of row_at built_in_class_rows level_of superclasses inherits walk method_at found_at found_in lookup super_lookup class_of class_text is_exception is_plain fits with_new makes_slots makes_bytes makes_string makes_blank same_value is_a bytes_of slots_of slot_of interval_size size_of element some_elements elements key is_sequence is_collection species print_text exception_text object_action class_action boolean_action gcd_within gcd shifted as_number argument_of arithmetic_action last_digits number_action character_action string_action transcript_action makes_sequence sequence_action grown_to with_elements without_element collection_action closure_of block_action exception_action is_within visit_at given_at next_visit first_of_message first_visit loop_action row_action send_action super_action read_place write_place with_opened with_block with_arguments with_message exception_slots with_exception closure_for trouble_literals code_at own_variables captured_variables operand_at with_operand instruction_at with_flat_block variable_at compiled_body compile_of
computing = tt
