-- "A canonical policy image" (paper 02, e): its claims, of all policies whose canonical image is written. What stands in quotes is the paper's.
-- proofs/Theorems.antt proves them.
use Rattle.std.specs.Prelude.{ℕ, ◌≤◌, ◌<◌, ◌≡◌, Bool, List, ◌↔◌, length, Option, Result}
use Rattle.base.specs.declared.refusals.Refusal.{Refusal}
use Rattle.base.specs.Bytes.{byte_at}
use Rattle.base.specs.Questions.{AllYes}
use Rattle.policy_image.specs.Policy.{Policy, policy_of}
use Rattle.policy_sources.specs.Sources.{domain}
use Rattle.policy_check.specs.Questions.{policy_questions}
use Rattle.policy_facts.specs.Cases.Same.{Same}
use Rattle.canonical.specs.Canonical.{canonical_image, canonical_questions}
use Rattle.context.specs.declared.Context.{Context}
use Rattle.context.specs.declared.Event.{Event}
use Rattle.relations.specs.Relations.{Γ, write_like, read_like, allowed, α, ρ, μ, role_change}
use Rattle.constraints.specs.Constraints.{constraints_hold}
use Rattle.access.specs.Authorization.{χ, role_rule, authorized, flow}
use Rattle.bare_questions.specs.Bare.{AuthorizationAnswer, FlowAnswer}
use Rattle.witness.specs.declared.unanswered.Unanswered.{Unanswered}
use Rattle.goal_question.specs.declared.goal.Outcome.{Outcome}
use Rattle.least_steps.specs.LeastSteps.{StepsPromise}
use Rattle.goal_question.specs.GoalQuestion.{GoalPromise}

-- "These claims are for images that are written": s are bytes, and for some length of the output each question of the call is answered yes, 15
-- among them
pub record ImageWritten (s : List ℕ) : Type 0 where
  pub bytes : (i : ℕ) → byte_at s i < 256
  pub output : ℕ
  pub asked : AllYes (canonical_questions s output)

-- ---- "Writing twice changes nothing."
-- the canonical image is that of an accepted policy; of this one, too, the canonical image is written wherever there is room for it, and it is
-- the same
pub record WritingTwice (s : List ℕ) : Type 0 where
  pub accepted : AllYes (policy_questions (canonical_image s))
  pub asked : (output : ℕ) → length (canonical_image s) ≤ output → AllYes (canonical_questions (canonical_image s) output)
  pub same : canonical_image (canonical_image s) ≡ canonical_image s

-- ---- "Every authorization answer survives the writing."
-- the relations of two policies are the same, and so are authorization and flow, which are judged by them
pub record SameRelations (p q : Policy) : Type 0 where
  pub domains : (t : ℕ) → domain p t ≡ domain q t
  pub gamma : (e : Event) → Γ p e ≡ Γ q e
  pub writes : (e : Event) → write_like p e ≡ write_like q e
  pub reads : (e : Event) → read_like p e ≡ read_like q e
  pub allows : (t1 t2 : ℕ) (e : Event) → allowed p t1 t2 e ≡ allowed q t1 t2 e
  pub alpha : (t1 t2 : ℕ) (e : Event) → α p t1 t2 e ≡ α q t1 t2 e
  pub rho : (role t : ℕ) → ρ p role t ≡ ρ q role t
  pub mu : (u role : ℕ) → μ p u role ≡ μ q u role
  pub changes : (r1 r2 : ℕ) → role_change p r1 r2 ≡ role_change q r1 r2
  pub constraints : (e : Event) (x y : Context) → constraints_hold p e x y ≡ constraints_hold q e x y
  pub chi : (e : Event) (x y : Context) → χ p e x y ≡ χ q e x y
  pub rule : (e : Event) (x y : Context) → role_rule p e x y ≡ role_rule q e x y
  pub authorizes : (e : Event) (x y : Context) → authorized p e x y ≡ authorized q e x y
  pub flows : (e : Event) (x y : Context) → flow p e x y ≡ flow q e x y

-- the answers that are promised of one image are those of the other, whatever else is asked with or lent: of both bare questions, of least steps
-- and of the goal question, refusals among them
pub record SameAnswers (s t : List ℕ) : Type 0 where
  pub authorization : (x y : Context) (e : Event) (r : Result Bool Refusal) → AuthorizationAnswer s x y e r ↔ AuthorizationAnswer t x y e r
  pub flows : (x y : Context) (e : Event) (r : Result Bool Refusal) → FlowAnswer s x y e r ↔ FlowAnswer t x y e r
  pub steps : (x y : Context) (work1 work2 : ℕ) (before after : List ℕ) (r : Result (Option ℕ) Unanswered)
      → StepsPromise s x y work1 work2 before after r ↔ StepsPromise t x y work1 work2 before after r
  pub goal : (g : List ℕ) (work1 work2 : ℕ) (before after : List ℕ) (r : Result Outcome Unanswered)
      → GoalPromise s g work1 work2 before after r ↔ GoalPromise t g work1 work2 before after r

pub record CanonicalClaims : Type 0 where
  -- "Two policies give equal bytes exactly when their counts, their facts of kinds 1 to 7 as written .., and their lists of kinds 8 and 9
  -- agree"
  pub equal_bytes : (s t : List ℕ) → ImageWritten s → ImageWritten t → (canonical_image s ≡ canonical_image t) ↔ Same (policy_of s) (policy_of t)
  -- "Writing twice changes nothing."
  pub twice : (s : List ℕ) → ImageWritten s → WritingTwice s
  -- "Every authorization answer survives the writing."
  pub relations : (s : List ℕ) → ImageWritten s → SameRelations (policy_of s) (policy_of (canonical_image s))
  pub answers : (s : List ℕ) → ImageWritten s → SameAnswers s (canonical_image s)
