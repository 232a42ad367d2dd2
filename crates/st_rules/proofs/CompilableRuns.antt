-- The programs that are computed by the rules and by both machines are compilable.
use Rattle.std.proofs.Common.{◌≡◌, [], ◌∷◌, map, true, refl}
use Rattle.st_code.specs.Program.{body_at}
use Rattle.st_code.specs.Resolved.{captured_of, meant, meant_outside}
use Rattle.st_code.specs.Definitions.{program_of, names_of}
use Rattle.st_rules.specs.Compilable.{is_compilable}
use Rattle.st_rules.proofs.Computing.{computing}
use Rattle.st_rules.proofs.PlainRuns.{first_line, method_sent, while_loop, integer_limit, not_understood, not_understood_resumed, zero_divide_resumed, fractions_added, negative_quotient, whole_quotient, fractions_compared, fraction_limit, fraction_by_zero, injected, joined, set_by_equality, literal_read_only, separator_shrinks, reverse_shrinks, detect_gone, select_gone, search_rereads, if_absent_put_twice, equal_shorter, cascade_super, captured_parameter, charges_of_failed_send, super_sent}
use Rattle.st_rules.proofs.HandlerRuns.{handled, resumed, unwound, unhandled, outer_returned, passed, resignaled, retried, retried_in_35_steps, retried_in_34_steps, handled_at_depth_5, handled_at_depth_6, handled_with_7_cells, handled_with_8_cells, not_resumable, retry_using, resignal_searches_outside, notification, warning, asked_selector, asked_selector_no, question_outside}
use Rattle.st_rules.proofs.SignalRuns.{resume_not_resumable_depth, resume_error_answers, pass_default_unwinds, outer_default_returns, outer_then_resume, outer_return_past_point, default_resume, default_return, wait_counts, turn_of_outer_context, handler_value_goes_to_own_entry, resignal_above, resignal_old_live, handles_two_asks, handles_nested, perform_control, second_initializer}
use Rattle.st_rules.proofs.UnwindingRuns.{home_gone, unwinding_replaced, return_replaced, retry_in_unwinding, return_out_of_action, action_in_handler, not_curtailed, ensure_value_then_go, ensure_go_then_value, curtail_go_in_block, ensure_signals_inside, terminate_replaced, terminate_text_at_end, terminate_caught, initializer_home, dead_home_resumed, dead_home_recursion}
use Rattle.st_rules.proofs.BankRun.{bank}

plain_runs_compilable : map is_compilable (first_line ∷ method_sent ∷ while_loop ∷ integer_limit ∷ not_understood ∷ not_understood_resumed ∷ zero_divide_resumed ∷ fractions_added ∷ negative_quotient ∷ whole_quotient ∷ fractions_compared ∷ fraction_limit ∷ fraction_by_zero ∷ injected ∷ joined ∷ set_by_equality ∷ literal_read_only ∷ separator_shrinks ∷ reverse_shrinks ∷ detect_gone ∷ select_gone ∷ search_rereads ∷ if_absent_put_twice ∷ equal_shorter ∷ cascade_super ∷ captured_parameter ∷ charges_of_failed_send ∷ super_sent ∷ []) ≡ map (λ p. true) (first_line ∷ method_sent ∷ while_loop ∷ integer_limit ∷ not_understood ∷ not_understood_resumed ∷ zero_divide_resumed ∷ fractions_added ∷ negative_quotient ∷ whole_quotient ∷ fractions_compared ∷ fraction_limit ∷ fraction_by_zero ∷ injected ∷ joined ∷ set_by_equality ∷ literal_read_only ∷ separator_shrinks ∷ reverse_shrinks ∷ detect_gone ∷ select_gone ∷ search_rereads ∷ if_absent_put_twice ∷ equal_shorter ∷ cascade_super ∷ captured_parameter ∷ charges_of_failed_send ∷ super_sent ∷ [])
unfolding is_compilable body_at
plain_runs_compilable = refl

handler_runs_compilable : map is_compilable (handled ∷ resumed ∷ unwound ∷ unhandled ∷ outer_returned ∷ passed ∷ resignaled ∷ retried ∷ retried_in_35_steps ∷ retried_in_34_steps ∷ handled_at_depth_5 ∷ handled_at_depth_6 ∷ handled_with_7_cells ∷ handled_with_8_cells ∷ not_resumable ∷ retry_using ∷ resignal_searches_outside ∷ notification ∷ warning ∷ asked_selector ∷ asked_selector_no ∷ question_outside ∷ []) ≡ map (λ p. true) (handled ∷ resumed ∷ unwound ∷ unhandled ∷ outer_returned ∷ passed ∷ resignaled ∷ retried ∷ retried_in_35_steps ∷ retried_in_34_steps ∷ handled_at_depth_5 ∷ handled_at_depth_6 ∷ handled_with_7_cells ∷ handled_with_8_cells ∷ not_resumable ∷ retry_using ∷ resignal_searches_outside ∷ notification ∷ warning ∷ asked_selector ∷ asked_selector_no ∷ question_outside ∷ [])
unfolding is_compilable body_at
handler_runs_compilable = refl

signal_runs_compilable : map is_compilable (resume_not_resumable_depth ∷ resume_error_answers ∷ pass_default_unwinds ∷ outer_default_returns ∷ outer_then_resume ∷ outer_return_past_point ∷ default_resume ∷ default_return ∷ wait_counts ∷ turn_of_outer_context ∷ handler_value_goes_to_own_entry ∷ resignal_above ∷ resignal_old_live ∷ handles_two_asks ∷ handles_nested ∷ perform_control ∷ second_initializer ∷ []) ≡ map (λ p. true) (resume_not_resumable_depth ∷ resume_error_answers ∷ pass_default_unwinds ∷ outer_default_returns ∷ outer_then_resume ∷ outer_return_past_point ∷ default_resume ∷ default_return ∷ wait_counts ∷ turn_of_outer_context ∷ handler_value_goes_to_own_entry ∷ resignal_above ∷ resignal_old_live ∷ handles_two_asks ∷ handles_nested ∷ perform_control ∷ second_initializer ∷ [])
unfolding is_compilable body_at
signal_runs_compilable = refl

unwinding_runs_compilable : map is_compilable (home_gone ∷ unwinding_replaced ∷ return_replaced ∷ retry_in_unwinding ∷ return_out_of_action ∷ action_in_handler ∷ not_curtailed ∷ ensure_value_then_go ∷ ensure_go_then_value ∷ curtail_go_in_block ∷ ensure_signals_inside ∷ terminate_replaced ∷ terminate_text_at_end ∷ terminate_caught ∷ initializer_home ∷ dead_home_resumed ∷ dead_home_recursion ∷ []) ≡ map (λ p. true) (home_gone ∷ unwinding_replaced ∷ return_replaced ∷ retry_in_unwinding ∷ return_out_of_action ∷ action_in_handler ∷ not_curtailed ∷ ensure_value_then_go ∷ ensure_go_then_value ∷ curtail_go_in_block ∷ ensure_signals_inside ∷ terminate_replaced ∷ terminate_text_at_end ∷ terminate_caught ∷ initializer_home ∷ dead_home_resumed ∷ dead_home_recursion ∷ [])
unfolding is_compilable body_at
unwinding_runs_compilable = refl

bank_run_compilable : map is_compilable (bank ∷ []) ≡ map (λ p. true) (bank ∷ [])
unfolding is_compilable computing program_of names_of captured_of meant meant_outside
bank_run_compilable = refl
