-- The images of the cases are accepted, and 32 entries in each work slice suffice.
use Prim.Native.Nat.{ℕ, ◌≤◌}
use mathlib.Core.List.{List, [], ◌∷◌, ◌++◌}
use mathlib.Core.Logic.{inl}
use mathlib.Core.Path.{◌≡◌, refl}
use native.Mathlib.Omega.{arith}
use Rattle.base.specs.Bits.{bit}
use Rattle.base.specs.Questions.{Question, ask, AllYes, RefusedWith}
use Rattle.base.proofs.QuestionLaws.{refused_then, passed_both}
use Rattle.policy_image.specs.Layout.{counts_of, record_count, record_of, policy_head, payload_of, decoded}
use Rattle.policy_image.specs.Cases.Weir.{weir}
use Rattle.policy_expressions.specs.Nodes.{use_of}
use Rattle.policy_check.specs.Questions.{policy_questions}
use Rattle.policy_check.proofs.Tests.{Accepted, accepted}
use Rattle.policy_check.proofs.Cases.{weir_accepted}
use Rattle.goal_image.specs.Layout.{legs_of, flags_of, goal_count, goal_head, next_of, context_record_of, event_record_of}
use Rattle.goal_image.specs.Questions.{goal_questions}
use Rattle.goal_image.specs.Cases.WeirGoal.{goal_g}
use Rattle.goal_image.proofs.Tests.{Accepted as GoalAccepted, accepted as goal_accepted}
use Rattle.goal_model.specs.Cases.OwnGoals.{write_only}
use Rattle.goal_question.specs.GoalQuestion.{work_length, WorkFits, all_questions}
use Rattle.weir.specs.Cases.Goals.{weir_allow41, except_type, end_type_one, one_leg, no_start}
use Rattle.weir.specs.Cases.Wrong.{no_middle, no_events, two_starts, either_end}

module _ (s g : List ℕ) (work1 work2 : ℕ) (a : Accepted s) (b : GoalAccepted (counts_of s) g) where
  abbrev eleven : List Question
  eleven = ask 11 (WorkFits s g work1 work2) ∷ []

  -- where both images are accepted, question 11 decides
  passed : WorkFits s g work1 work2 → AllYes (all_questions s g work1 work2)
  passed f =
      passed_both (policy_questions s) (goal_questions (counts_of s) g ++ eleven) a.it
      (passed_both (goal_questions (counts_of s) g) eleven b.it (f, tt))

  pub refused_11 : (WorkFits s g work1 work2 → ⊥) → RefusedWith (all_questions s g work1 work2) 11
  refused_11 h =
      refused_then (policy_questions s) (goal_questions (counts_of s) g ++ eleven) 11 a.it
      (refused_then (goal_questions (counts_of s) g) eleven 11 b.it (inl (h, refl)))

pub enough : (s g : List ℕ) → Accepted s → GoalAccepted (counts_of s) g → work_length s g ≤ 32 → AllYes (all_questions s g 32 32)
enough s g a b e = passed s g 32 32 a b (record { first = e; second = e })

-- ---- W5's policy; the weir policy is accepted in policy_check/proofs/Cases
pub weir41_accepted : Accepted weir_allow41
unfolding counts_of record_count record_of policy_head payload_of decoded use_of
weir41_accepted = accepted refl refl refl refl refl refl refl

-- ---- the goals
pub g_accepted : GoalAccepted (counts_of weir) goal_g
unfolding counts_of record_count legs_of flags_of goal_count goal_head next_of context_record_of event_record_of bit
g_accepted = goal_accepted refl refl refl refl

pub g41_accepted : GoalAccepted (counts_of weir_allow41) goal_g
unfolding counts_of record_count legs_of flags_of goal_count goal_head next_of context_record_of event_record_of bit
g41_accepted = goal_accepted refl refl refl refl

pub write_only_accepted : GoalAccepted (counts_of weir) write_only
unfolding counts_of record_count legs_of flags_of goal_count goal_head next_of context_record_of event_record_of bit
write_only_accepted = goal_accepted refl refl refl refl

except_3_accepted : GoalAccepted (counts_of weir) (except_type 3)
unfolding counts_of record_count legs_of flags_of goal_count goal_head next_of context_record_of event_record_of bit
except_3_accepted = goal_accepted refl refl refl refl

except_4_accepted : GoalAccepted (counts_of weir) (except_type 4)
unfolding counts_of record_count legs_of flags_of goal_count goal_head next_of context_record_of event_record_of bit
except_4_accepted = goal_accepted refl refl refl refl

end_accepted : GoalAccepted (counts_of weir) end_type_one
unfolding counts_of record_count legs_of flags_of goal_count goal_head next_of context_record_of event_record_of bit
end_accepted = goal_accepted refl refl refl refl

one_leg_accepted : GoalAccepted (counts_of weir) one_leg
unfolding counts_of record_count legs_of flags_of goal_count goal_head next_of context_record_of event_record_of bit
one_leg_accepted = goal_accepted refl refl refl refl

no_start_accepted : GoalAccepted (counts_of weir) no_start
unfolding counts_of record_count legs_of flags_of goal_count goal_head next_of context_record_of event_record_of bit
no_start_accepted = goal_accepted refl refl refl refl

no_middle_accepted : GoalAccepted (counts_of weir_allow41) no_middle
unfolding counts_of record_count legs_of flags_of goal_count goal_head next_of context_record_of event_record_of bit
no_middle_accepted = goal_accepted refl refl refl refl

no_events_accepted : GoalAccepted (counts_of weir_allow41) no_events
unfolding counts_of record_count legs_of flags_of goal_count goal_head next_of context_record_of event_record_of bit
no_events_accepted = goal_accepted refl refl refl refl

two_starts_accepted : GoalAccepted (counts_of weir_allow41) two_starts
unfolding counts_of record_count legs_of flags_of goal_count goal_head next_of context_record_of event_record_of bit
two_starts_accepted = goal_accepted refl refl refl refl

either_end_accepted : GoalAccepted (counts_of weir_allow41) either_end
unfolding counts_of record_count legs_of flags_of goal_count goal_head next_of context_record_of event_record_of bit
either_end_accepted = goal_accepted refl refl refl refl

-- ---- with 32 entries: T × R × U is 8, and 2^n is 4, or 2 where there is one leg
pub work_length_lem : work_length weir goal_g ≡ 32
unfolding counts_of record_count legs_of
work_length_lem = refl

pub work41_length : work_length weir_allow41 goal_g ≡ 32
unfolding counts_of record_count legs_of
work41_length = refl

pub write_only_length : work_length weir write_only ≡ 32
unfolding counts_of record_count legs_of
write_only_length = refl

pub w1_enough : AllYes (all_questions weir goal_g 32 32)
unfolding counts_of record_count legs_of
w1_enough = enough weir goal_g weir_accepted g_accepted (omega arith)

pub w2_enough : AllYes (all_questions weir write_only 32 32)
unfolding counts_of record_count legs_of
w2_enough = enough weir write_only weir_accepted write_only_accepted (omega arith)

pub w3_enough : AllYes (all_questions weir (except_type 3) 32 32)
unfolding counts_of record_count legs_of
w3_enough = enough weir (except_type 3) weir_accepted except_3_accepted (omega arith)

pub w4_enough : AllYes (all_questions weir (except_type 4) 32 32)
unfolding counts_of record_count legs_of
w4_enough = enough weir (except_type 4) weir_accepted except_4_accepted (omega arith)

pub w5_enough : AllYes (all_questions weir_allow41 goal_g 32 32)
unfolding counts_of record_count legs_of
w5_enough = enough weir_allow41 goal_g weir41_accepted g41_accepted (omega arith)

pub w6_enough : AllYes (all_questions weir end_type_one 32 32)
unfolding counts_of record_count legs_of
w6_enough = enough weir end_type_one weir_accepted end_accepted (omega arith)

pub w7_enough : AllYes (all_questions weir one_leg 32 32)
unfolding counts_of record_count legs_of
w7_enough = enough weir one_leg weir_accepted one_leg_accepted (omega arith)

pub w8_enough : AllYes (all_questions weir no_start 32 32)
unfolding counts_of record_count legs_of
w8_enough = enough weir no_start weir_accepted no_start_accepted (omega arith)

pub no_middle_enough : AllYes (all_questions weir_allow41 no_middle 32 32)
unfolding counts_of record_count legs_of
no_middle_enough = enough weir_allow41 no_middle weir41_accepted no_middle_accepted (omega arith)

pub no_events_enough : AllYes (all_questions weir_allow41 no_events 32 32)
unfolding counts_of record_count legs_of
no_events_enough = enough weir_allow41 no_events weir41_accepted no_events_accepted (omega arith)

pub two_starts_enough : AllYes (all_questions weir_allow41 two_starts 32 32)
unfolding counts_of record_count legs_of
two_starts_enough = enough weir_allow41 two_starts weir41_accepted two_starts_accepted (omega arith)

pub either_end_enough : AllYes (all_questions weir_allow41 either_end 32 32)
unfolding counts_of record_count legs_of
either_end_enough = enough weir_allow41 either_end weir41_accepted either_end_accepted (omega arith)
