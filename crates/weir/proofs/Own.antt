-- Our own cases, conjoined.
use Rattle.access.proofs.Cases as access
use Rattle.paths.proofs.Cases as paths
use Rattle.goal_model.proofs.Cases as images
use Rattle.weir.specs.Cases.Own.{OwnCases}

-- THE THIRD THEOREM
pub own_cases : OwnCases
own_cases =
    record {
      gate_accepted = (access.gate_accepted).it;
      readers_accepted = (access.readers_accepted).it;
      users_accepted = (images.users_accepted).it;
      weir_2_reads_1 = access.weir_2_reads_1;
      weir_2_writes_3 = access.weir_2_writes_3;
      weir_4_reads_3 = access.weir_4_reads_3;
      weir_2_writes_no_1 = access.weir_2_writes_no_1;
      weir_4_reads_no_1 = access.weir_4_reads_no_1;
      weir_read_flows_in = access.weir_read_flows_in;
      weir_read_no_flow_out = access.weir_read_no_flow_out;
      weir_write_flows_out = access.weir_write_flows_out;
      weir_write_no_flow_in = access.weir_write_no_flow_in;
      write_by_domain = access.write_by_domain;
      source_no_domain = access.source_no_domain;
      append_not_in_gamma = access.append_not_in_gamma;
      append_no_flow_out = access.append_no_flow_out;
      append_no_flow_in = access.append_no_flow_in;
      signal_self = access.signal_self;
      signal_other = access.signal_other;
      read_not_allowed = access.read_not_allowed;
      signal_self_class = access.signal_self_class;
      signal_self_flows = access.signal_self_flows;
      gate_read_no_flow_out = access.gate_read_no_flow_out;
      source_role_2 = access.source_role_2;
      source_role_3 = access.source_role_3;
      target_role_3 = access.target_role_3;
      role_1_domain_held = access.role_1_domain_held;
      role_1_domain_not_held = access.role_1_domain_not_held;
      source_user_1 = access.source_user_1;
      source_user_2 = access.source_user_2;
      target_user_1 = access.target_user_1;
      target_user_2 = access.target_user_2;
      role_1_any_user = access.role_1_any_user;
      both_constraints = access.both_constraints;
      second_constraint_fails = access.second_constraint_fails;
      first_constraint_fails = access.first_constraint_fails;
      nested_operators = access.nested_operators;
      constraint_of_write_alone = access.constraint_of_write_alone;
      constraint_of_class_alone = access.constraint_of_class_alone;
      chi_outside_gamma = access.chi_outside_gamma;
      transition_2_to_3 = access.transition_2_to_3;
      transition_2_to_2 = access.transition_2_to_2;
      signal_without_rule = access.signal_without_rule;
      transition_flows = access.transition_flows;
      read_flow_suffix_1 = access.read_flow_suffix_1;
      read_flow_no_back = access.read_flow_no_back;
      read_like_transition = access.read_like_transition;
      self_release_lem = paths.self_release_lem;
      start_in_first_lem = paths.start_in_first_lem;
      one_leg_lem = paths.one_leg_lem;
      start_too_early_lem = paths.start_too_early_lem;
      mid_too_early_lem = paths.mid_too_early_lem;
      highest_alone_lem = paths.highest_alone_lem;
      lowest_alone_lem = paths.lowest_alone_lem;
      one_step_stays_lem = paths.one_step_stays_lem;
      repeated_stays_lem = paths.repeated_stays_lem;
      no_step_lem = paths.no_step_lem;
      middle_event_lem = paths.middle_event_lem;
      wrong_place_lem = paths.wrong_place_lem;
      bad_step = paths.bad_step;
      exception_at_end = paths.exception_at_end;
      exception_at_start = paths.exception_at_start;
      exception_at_both = paths.exception_at_both;
      last_event = paths.last_event;
      end_goes_on_lem = paths.end_goes_on_lem;
      start_unheld = paths.start_unheld;
      later_unheld = paths.later_unheld;
      out_of_range_lem = paths.out_of_range_lem;
      met_twice_lem = paths.met_twice_lem;
      order_on_a_tie = paths.order_on_a_tie;
      fewest_steps = paths.fewest_steps;
      goal_g_lem = images.goal_g_lem;
      zero_is_any = images.zero_is_any;
      any_class_lem = images.any_class_lem;
      start_fails_rho = images.start_fails_rho;
      start_meets_rho = images.start_meets_rho;
      start_fails_mu = images.start_fails_mu;
      start_meets_mu = images.start_meets_mu;
    }
