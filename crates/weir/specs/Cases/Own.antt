-- Our own cases of authorization and flow, and of paths: what W1 to W12 leave open. Each is told where it is proved:
-- access/proofs/Cases (authorization and flow), paths/proofs/Cases (drawn goals), goal_model/proofs/Cases (images).
use Rattle.std.specs.Prelude.{true, false, [], ◌≡◌}
use Rattle.base.specs.Questions.{AllYes}
use Rattle.policy_image.specs.Policy.{policy_of}
use Rattle.policy_image.specs.Cases.Weir.{weir, weir_allow31}
use Rattle.policy_check.specs.Questions.{policy_questions}
use Rattle.context.specs.Codes.{context_at as at, event_at as event}
use Rattle.access.specs.Authorization.{χ, authorized, flow}
use Rattle.access.specs.Cases.Gate.{gate}
use Rattle.access.specs.Cases.Readers.{readers}
use Rattle.goal_image.specs.Cases.WeirGoal.{goal_g}
use Rattle.paths.specs.Paths.{Holds, OrderAt, EventsAt}
use Rattle.paths.specs.Cases.Drawn.{drawn_model, except, failing, only}
use Rattle.paths.specs.Cases.Drawings.{self_release, start_in_first, one_leg, start_too_early, mid_too_early, highest_alone, lowest_alone, one_step_stays, repeated_stays, no_step, middle_event, wrong_place, bad, end_goes_on, out_of_range, met_twice, tie, fewest}
use Rattle.goal_model.specs.Images.{model}
use Rattle.goal_model.specs.Cases.OwnGoals.{write_only, any_class, role_two, role_one, users, user_two, user_one}

pub record OwnCases : Type 0 where
  -- ---- the policies of our own are accepted
  pub gate_accepted : AllYes (policy_questions gate)
  pub readers_accepted : AllYes (policy_questions readers)
  pub users_accepted : AllYes (policy_questions users)
  -- ---- authorization and flow, of the weir policy and of two policies of our own
  pub weir_2_reads_1 : authorized (policy_of weir) (event 2 0) (at 2 2 1) (at 1 1 1) ≡ true
  pub weir_2_writes_3 : authorized (policy_of weir) (event 2 1) (at 2 2 1) (at 3 1 1) ≡ true
  pub weir_4_reads_3 : authorized (policy_of weir) (event 2 0) (at 4 2 1) (at 3 1 1) ≡ true
  pub weir_2_writes_no_1 : authorized (policy_of weir) (event 2 1) (at 2 2 1) (at 1 1 1) ≡ false
  pub weir_4_reads_no_1 : authorized (policy_of weir) (event 2 0) (at 4 2 1) (at 1 1 1) ≡ false
  pub weir_read_flows_in : flow (policy_of weir) (event 2 0) (at 1 1 1) (at 2 2 1) ≡ true
  pub weir_read_no_flow_out : flow (policy_of weir) (event 2 0) (at 2 2 1) (at 1 1 1) ≡ false
  pub weir_write_flows_out : flow (policy_of weir) (event 2 1) (at 2 2 1) (at 3 1 1) ≡ true
  pub weir_write_no_flow_in : flow (policy_of weir) (event 2 1) (at 3 1 1) (at 2 2 1) ≡ false
  pub write_by_domain : authorized (policy_of gate) (event 2 1) (at 2 2 1) (at 1 1 1) ≡ true
  pub source_no_domain : authorized (policy_of weir_allow31) (event 2 0) (at 3 1 1) (at 1 1 1) ≡ false
  pub append_not_in_gamma : authorized (policy_of gate) (event 2 2) (at 2 2 1) (at 1 1 1) ≡ false
  pub append_no_flow_out : flow (policy_of gate) (event 2 2) (at 2 2 1) (at 1 1 1) ≡ false
  pub append_no_flow_in : flow (policy_of gate) (event 2 2) (at 1 1 1) (at 2 2 1) ≡ false
  pub signal_self : authorized (policy_of gate) (event 1 1) (at 2 2 1) (at 2 2 1) ≡ true
  pub signal_other : authorized (policy_of gate) (event 1 1) (at 2 2 1) (at 3 2 1) ≡ false
  pub read_not_allowed : authorized (policy_of gate) (event 2 0) (at 3 2 1) (at 1 1 1) ≡ false
  pub signal_self_class : authorized (policy_of gate) (event 2 1) (at 2 2 1) (at 2 2 1) ≡ false
  pub signal_self_flows : flow (policy_of gate) (event 1 1) (at 2 2 1) (at 2 2 1) ≡ true
  pub gate_read_no_flow_out : flow (policy_of gate) (event 2 0) (at 2 2 1) (at 1 1 1) ≡ false
  pub source_role_2 : authorized (policy_of gate) (event 2 0) (at 2 2 1) (at 1 1 1) ≡ true
  pub source_role_3 : authorized (policy_of gate) (event 2 0) (at 2 3 1) (at 1 1 1) ≡ false
  pub target_role_3 : authorized (policy_of gate) (event 2 0) (at 2 2 1) (at 1 3 1) ≡ false
  pub role_1_domain_held : authorized (policy_of gate) (event 2 0) (at 5 1 1) (at 1 1 1) ≡ true
  pub role_1_domain_not_held : authorized (policy_of gate) (event 1 1) (at 2 1 1) (at 2 1 1) ≡ false
  pub source_user_1 : authorized (policy_of gate) (event 2 0) (at 3 3 1) (at 4 1 1) ≡ true
  pub source_user_2 : authorized (policy_of gate) (event 2 0) (at 3 3 2) (at 4 1 1) ≡ false
  pub target_user_1 : authorized (policy_of gate) (event 1 0) (at 2 2 1) (at 3 3 1) ≡ true
  pub target_user_2 : authorized (policy_of gate) (event 1 0) (at 2 2 1) (at 3 3 2) ≡ false
  pub role_1_any_user : authorized (policy_of gate) (event 2 0) (at 2 2 1) (at 1 1 2) ≡ true
  pub both_constraints : authorized (policy_of gate) (event 2 1) (at 2 2 1) (at 1 1 1) ≡ true
  pub second_constraint_fails : authorized (policy_of gate) (event 2 1) (at 2 2 2) (at 1 1 2) ≡ false
  pub first_constraint_fails : authorized (policy_of gate) (event 2 1) (at 2 2 1) (at 1 1 2) ≡ false
  pub nested_operators : authorized (policy_of gate) (event 2 1) (at 3 2 1) (at 4 1 2) ≡ true
  pub constraint_of_write_alone : authorized (policy_of gate) (event 2 0) (at 2 2 2) (at 1 1 2) ≡ true
  pub constraint_of_class_alone : authorized (policy_of gate) (event 1 1) (at 2 2 2) (at 2 2 2) ≡ true
  pub chi_outside_gamma : χ (policy_of gate) (event 2 2) (at 2 2 1) (at 1 1 1) ≡ false
  pub transition_2_to_3 : authorized (policy_of gate) (event 1 0) (at 2 2 1) (at 3 3 1) ≡ true
  pub transition_2_to_2 : authorized (policy_of gate) (event 1 0) (at 2 2 1) (at 3 2 1) ≡ true
  pub signal_without_rule : authorized (policy_of gate) (event 1 1) (at 2 2 1) (at 2 2 1) ≡ true
  pub transition_flows : flow (policy_of gate) (event 1 0) (at 2 2 1) (at 3 3 1) ≡ true
  pub read_flow_suffix_1 : flow (policy_of readers) (event 1 1) (at 2 3 1) (at 1 2 1) ≡ true
  pub read_flow_no_back : flow (policy_of readers) (event 1 1) (at 1 2 1) (at 2 3 1) ≡ false
  pub read_like_transition : flow (policy_of readers) (event 1 0) (at 2 3 1) (at 1 2 1) ≡ true
  -- ---- paths over drawn goals
  pub self_release_lem : OrderAt (drawn_model self_release) 3
  pub start_in_first_lem : Holds (drawn_model start_in_first)
  pub one_leg_lem : EventsAt (drawn_model one_leg) 0
  pub start_too_early_lem : OrderAt (drawn_model start_too_early) 3
  pub mid_too_early_lem : OrderAt (drawn_model mid_too_early) 4
  pub highest_alone_lem : Holds (drawn_model highest_alone)
  pub lowest_alone_lem : Holds (drawn_model lowest_alone)
  pub one_step_stays_lem : EventsAt (drawn_model one_step_stays) 2
  pub repeated_stays_lem : Holds (drawn_model repeated_stays)
  pub no_step_lem : EventsAt (drawn_model no_step) 1
  pub middle_event_lem : EventsAt (drawn_model middle_event) 3
  pub wrong_place_lem : EventsAt (drawn_model wrong_place) 2
  pub bad_step : EventsAt (drawn_model bad) 1
  pub exception_at_end : EventsAt (drawn_model (except (only 1) [] bad)) 1
  pub exception_at_start : Holds (drawn_model (except (only 0) [] bad))
  pub exception_at_both : EventsAt (drawn_model (except (only 0) [] one_leg)) 0
  pub last_event : Holds (drawn_model (except [] (only 7) bad))
  pub end_goes_on_lem : Holds (drawn_model end_goes_on)
  pub start_unheld : Holds (drawn_model (failing (only 0) bad))
  pub later_unheld : EventsAt (drawn_model (failing (only 1) bad)) 1
  pub out_of_range_lem : Holds (drawn_model out_of_range)
  pub met_twice_lem : EventsAt (drawn_model met_twice) 2
  pub order_on_a_tie : OrderAt (drawn_model tie) 1
  pub fewest_steps : EventsAt (drawn_model fewest) 1
  -- ---- paths over images
  pub goal_g_lem : Holds (model weir goal_g)
  pub zero_is_any : EventsAt (model weir write_only) 3
  pub any_class_lem : Holds (model weir any_class)
  pub start_fails_rho : Holds (model weir role_two)
  pub start_meets_rho : EventsAt (model weir role_one) 0
  pub start_fails_mu : Holds (model users user_two)
  pub start_meets_mu : EventsAt (model users user_one) 0
