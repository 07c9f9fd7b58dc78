-- Two accepted images give the searches all that they are given.
use Prim.Native.Nat.{ℕ, ◌*◌, ◌^◌, ◌≤◌, ◌<◌}
use mathlib.Core.List.{List, [], ◌∷◌, ◌++◌}
use mathlib.Core.Path.{◌≡◌, ap, ◌∙◌}
use native.Mathlib.Omega.{arith}
use Rattle.base.specs.Questions.{Question, ask, AllYes}
use Rattle.base.proofs.QuestionLaws.{passed_first, passed_then}
use Rattle.policy_image.specs.declared.counts.Counts.{Counts}
use Rattle.policy_image.specs.Layout.{counts_of}
use Rattle.policy_check.specs.Questions.{policy_questions}
use Rattle.policy_check.specs.Inner.Sound.{Sound}
use Rattle.policy_check.proofs.AnswerLaws.{sound}
use Rattle.context.specs.Inner.Places.{context_count}
use Rattle.goal_image.specs.declared.check.Legs.{Legs}
use Rattle.goal_image.specs.Goal.{goal_of}
use Rattle.goal_image.specs.Questions.{goal_questions}
use Rattle.goal_image.specs.Inner.Answer.{legs_in}
use Rattle.goal_image.specs.Inner.Sound.{SoundGoal}
use Rattle.goal_image.proofs.AnswerLaws.{sound as goal_sound}
use Rattle.plan.specs.Inner.Plan.{Ready, Planned}
use Rattle.search_graph.specs.Inner.Tasks.{state_count}
use Rattle.search_graph.proofs.GivenLaws.{ready_of, given}
use Rattle.goal_question.specs.GoalQuestion.{work_length, WorkFits}
use Rattle.goal_answer.specs.Inner.Finding.{Searchable}
use Rattle.goal_question.specs.Inner.Parts.{Passed}

-- what is known of the policy's counts and the goal's legs
pub record Sized (s g : List ℕ) (n : Counts) (l : Legs) : Type 0 where
  pub ready : Ready s n
  pub goal : SoundGoal g
  pub some_leg : 0 < l.count
  pub few_legs : l.count ≤ 6

pub sized : {s g : List ℕ} {n : Counts} {l : Legs} → Sound s → n ≡ counts_of s → SoundGoal g → l ≡ legs_in (goal_of g) → Sized s g n l
sized S q G p = record { ready = ready_of S q; goal = G; some_leg = rw p G.legs.legs.low; few_legs = rw p G.legs.legs.high }

-- T × R × U × 2^n
pub work_length_lem : (s g : List ℕ) {n : Counts} {l : Legs} → n ≡ counts_of s → l ≡ legs_in (goal_of g) → context_count n * state_count l.count ≡ work_length s g
unfolding state_count
work_length_lem s g {l = l} q p = ap (λ (k : Counts). context_count k * 2 ^ l.count) q ∙ ap (λ (k : Legs). context_count (counts_of s) * 2 ^ k.count) p

-- ---- the questions that were passed
module _ {s g : List ℕ} {n : Counts} {l : Legs} {work1 work2 : ℕ} (P : Passed s g n l work1 work2) where
  abbrev eleven : List Question
  eleven = ask 11 (WorkFits s g work1 work2) ∷ []

  goal_part : AllYes (goal_questions (counts_of s) g ++ eleven)
  goal_part = passed_then (policy_questions s) (goal_questions (counts_of s) g ++ eleven) P.questions

  pub passed_sizes : Sized s g n l
  passed_sizes =
      sized (sound s (passed_first (policy_questions s) (goal_questions (counts_of s) g ++ eleven) P.questions)) P.counts
      (goal_sound (counts_of s) g (passed_first (goal_questions (counts_of s) g) eleven goal_part)) P.legs

  work_fits : WorkFits s g work1 work2
  work_fits = (passed_then (goal_questions (counts_of s) g) eleven goal_part).0

  -- the second work slice has an entry for each node
  pub work_room : context_count n * state_count l.count ≤ work2
  work_room = omega (arith, work_length_lem s g P.counts P.legs, work_fits.second)

  -- .. and those entries are enough
  pub searchable : {plan : List ℕ} {k : ℕ} → Planned s n plan → context_count n * state_count l.count ≤ k → Searchable s plan n l work1 k
  searchable L h =
      let Z = passed_sizes in
      record {
        given = given Z.ready L Z.some_leg Z.few_legs;
        first = omega (arith, work_length_lem s g P.counts P.legs, work_fits.first);
        second = h;
      }
