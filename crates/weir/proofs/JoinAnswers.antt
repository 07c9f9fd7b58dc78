-- What the joined policies authorize, and what G is in one of them, by computing: of the joined images as they are written out.
use mathlib.Core.Bool.{Bool, true, false, not}
use mathlib.Core.List.{List}
use mathlib.Core.Path.{◌≡◌, refl}
use Prim.Native.Nat.{ℕ}
use native.Mathlib.Omega.{arith}
use lib.Dec.{T}
use Rattle.base.specs.Bits.{bit}
use Rattle.base.specs.Questions.{AllYes}
use Rattle.policy_image.specs.Layout.{counts_of, record_count}
use Rattle.policy_image.specs.Policy.{policy_of}
use Rattle.policy_sources.specs.Sources.{domain}
use Rattle.relations.specs.Relations.{ρ}
use Rattle.policy_image.specs.Cases.Weir.{weir}
use Rattle.context.specs.Codes.{context_at as at, event_at as event}
use Rattle.access.specs.Authorization.{authorized}
use Rattle.goal_image.specs.Layout.{legs_of, flags_of, goal_count, goal_head, next_of, context_record_of, event_record_of}
use Rattle.goal_image.specs.Goal.{goal_of}
use Rattle.goal_image.specs.Sets.{context_in, event_in}
use Rattle.goal_image.specs.Cases.WeirGoal.{goal_g}
use Rattle.goal_image.proofs.Tests.{Accepted as GoalAccepted, accepted as goal_accepted}
use Rattle.paths.specs.Paths.{OrderAt}
use Rattle.paths.proofs.Decide.{order_by}
use Rattle.goal_model.specs.Images.{model}
use Rattle.goal_model.proofs.Cover.{uncovered, finite}
use Rattle.goal_question.specs.GoalQuestion.{all_questions}
use Rattle.weir.specs.Cases.JoinPolicies.{weir_read, weir_guarded, weir_taken, guarded_twice, guarded_read, weir_domains}
use Rattle.weir.proofs.Accepted.{enough}
use Rattle.weir.proofs.Answers.{steps41}
use Rattle.weir.proofs.StepsPaths.{computed}
use Rattle.weir.proofs.JoinImages.{weir_read_lem}

-- ---- "4 on 1 read" of a board: W5's steps, and W5's answer
pub read_covers : T (not (uncovered (policy_of weir_read) steps41))
unfolding computed
read_covers = tt

pub read_order : OrderAt (model weir_read goal_g) 1
unfolding computed legs_of flags_of goal_count goal_head next_of context_record_of event_record_of context_in event_in
read_order = order_by (model weir_read goal_g) (finite (policy_of weir_read) steps41 read_covers (goal_of goal_g)) 1 tt

g_accepted : GoalAccepted (counts_of weir_read) goal_g
unfolding counts_of record_count legs_of flags_of goal_count goal_head next_of context_record_of event_record_of bit
g_accepted = goal_accepted refl refl refl refl

pub read_enough : AllYes (all_questions weir_read goal_g 32 32)
unfolding counts_of record_count legs_of
read_enough = enough weir_read goal_g weir_read_lem g_accepted (omega arith)

-- ---- who may read and write: 2 reads 1, 4 reads 3, 4 reads 1, 2 writes 3
abbrev pub two_reads_one : List ℕ → Bool
two_reads_one s = authorized (policy_of s) (event 2 0) (at 2 2 1) (at 1 1 1)

abbrev pub four_reads_three : List ℕ → Bool
four_reads_three s = authorized (policy_of s) (event 2 0) (at 4 2 1) (at 3 1 1)

abbrev pub four_reads_one : List ℕ → Bool
four_reads_one s = authorized (policy_of s) (event 2 0) (at 4 2 1) (at 1 1 1)

abbrev pub two_writes_three : List ℕ → Bool
two_writes_three s = authorized (policy_of s) (event 2 1) (at 2 2 1) (at 3 1 1)

pub taken_before : two_reads_one weir ≡ true
unfolding computed
taken_before = refl

pub taken_after : two_reads_one weir_taken ≡ false
unfolding computed
taken_after = refl

pub taken_other : four_reads_three weir_taken ≡ true
unfolding computed
taken_other = refl

pub twice_makers : two_reads_one weir_guarded ≡ true
unfolding computed
twice_makers = refl

pub twice_first : two_reads_one guarded_twice ≡ false
unfolding computed
twice_first = refl

pub twice_second : four_reads_three guarded_twice ≡ false
unfolding computed
twice_second = refl

pub guarded_read_lem : four_reads_one guarded_read ≡ false
unfolding computed
guarded_read_lem = refl

pub unguarded_read : four_reads_one weir_read ≡ true
unfolding computed
unguarded_read = refl

pub write_before : two_writes_three weir ≡ true
unfolding computed
write_before = refl

pub write_after : two_writes_three weir_domains ≡ false
unfolding computed
write_after = refl

-- ---- domains, and what role 1 holds
pub domain_maker : domain (policy_of weir) 3 ≡ false
unfolding computed
domain_maker = refl

pub domain_board : domain (policy_of weir_domains) 3 ≡ true
unfolding computed
domain_board = refl

pub domain_kept : domain (policy_of weir_domains) 2 ≡ true
unfolding computed
domain_kept = refl

pub rho_before : ρ (policy_of weir) 1 3 ≡ true
unfolding computed
rho_before = refl

pub rho_after : ρ (policy_of weir_domains) 1 3 ≡ false
unfolding computed
rho_after = refl
