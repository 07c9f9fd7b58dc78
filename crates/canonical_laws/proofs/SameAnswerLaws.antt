-- Two accepted images with the same counts, authorization and flow have the same answers: what is promised of one is promised of the other.
use Prim.Native.Nat.{ℕ, suc, ◌*◌, ◌^◌, ◌≤◌}
use mathlib.Core.Path.{◌≡◌, refl, sym, subst, ◌∙◌}
use mathlib.Core.Bool.{Bool, ◌&&◌}
use mathlib.Core.List.{List, [], ◌∷◌, ◌++◌}
use mathlib.Core.Logic.Iff
use mathlib.Core.Logic.{inl, inr, ⊎_elim, ◌↔◌}
use lib.Dec.{T}
use Rattle.std.proofs.Common.{Result, Ok, Err}
use Rattle.base.specs.declared.refusals.Refusal.{Refusal}
use Rattle.base.specs.Refusals.{question_number}
use Rattle.base.specs.Bits.{bit}
use Rattle.base.specs.Questions.{Question, ask, AllYes}
use Rattle.policy_image.specs.Layout.{counts_of}
use Rattle.policy_image.specs.Policy.{policy_of}
use Rattle.policy_check.specs.Questions.{policy_questions}
use Rattle.context.specs.declared.Context.{Context}
use Rattle.context.specs.declared.Event.{Event}
use Rattle.context.specs.Codes.{context_of, event_of}
use Rattle.relations.specs.Relations.{ρ, μ}
use Rattle.access.specs.Authorization.{authorized, flow}
use Rattle.bare_questions.specs.Bare.{AskedInRange, bare_questions, BareAnswer}
use Rattle.paths.specs.Model.{Model}
use Rattle.paths.specs.Paths.{IsPath, BreaksOrder, BreaksEvents, Holds, OrderAt, EventsAt}
use Rattle.paths.specs.Slice.{contexts_in, events_in, Shows}
use Rattle.goal_image.specs.Layout.{legs_of}
use Rattle.goal_image.specs.Goal.{goal_of, σChain, γChain, σeChain, γeChain}
use Rattle.goal_image.specs.Sets.{context_in, event_in}
use Rattle.goal_image.specs.Questions.{FieldsFit, goal_questions}
use Rattle.goal_model.specs.Images.{meetsρμ, model}
use Rattle.std.specs.Prelude.{Option, Some, None}
use Rattle.witness.specs.declared.unanswered.Unanswered.{Unanswered}
use Rattle.witness.specs.declared.unanswered.Unanswered.TheVariants as unanswered
use Rattle.goal_question.specs.declared.goal.Outcome.{Outcome}
use Rattle.goal_question.specs.declared.goal.Outcome.TheVariants as outcome
use Rattle.goal_question.specs.GoalQuestion.{WorkFits, all_questions, GoalSort, GoalPromise}
use Rattle.least_steps.specs.LeastSteps.{FlowPath, SomeFlowPath, BothInRange, steps_length, StepsFit, steps_questions, StepsPromise}
use Rattle.canonical_laws.specs.Cases.Theorems.{SameAnswers}
use Rattle.canonical_laws.proofs.AlikeLaws.{Alike, AnsweredAlike, behind_passed}
use Rattle.canonical_laws.proofs.SameCountLaws.{SameCounts, counts_back, asked_range, both_range, fields_fit, same_range}

-- what the answers go by
pub record AnswersBy (s t : List ℕ) : Type 0 where
  pub first : AllYes (policy_questions s)
  pub second : AllYes (policy_questions t)
  pub counts : SameCounts (counts_of s) (counts_of t)
  pub rho : (role type : ℕ) → ρ (policy_of s) role type ≡ ρ (policy_of t) role type
  pub mu : (u role : ℕ) → μ (policy_of s) u role ≡ μ (policy_of t) u role
  pub authorizes : (e : Event) (x y : Context) → authorized (policy_of s) e x y ≡ authorized (policy_of t) e x y
  pub flows : (e : Event) (x y : Context) → flow (policy_of s) e x y ≡ flow (policy_of t) e x y

answers_back : {s t : List ℕ} → AnswersBy s t → AnswersBy t s
answers_back A =
    record {
      first = A.second;
      second = A.first;
      counts = counts_back A.counts;
      rho = λ role type. sym (A.rho role type);
      mu = λ u role. sym (A.mu u role);
      authorizes = λ e x y. sym (A.authorizes e x y);
      flows = λ e x y. sym (A.flows e x y);
    }

-- ---- the questions behind those of the policy
module _ {s t : List ℕ} (A : AnswersBy s t) where
  steps_length_lem : steps_length s ≡ steps_length t
  steps_length_lem = λ j. A.counts.types j * A.counts.roles j * A.counts.users j

  steps_fit : (work1 work2 : ℕ) → StepsFit s work1 work2 → StepsFit t work1 work2
  steps_fit work1 work2 F =
      record { first = subst (λ (n : ℕ). n ≤ work1) steps_length_lem F.first; second = subst (λ (n : ℕ). n ≤ work2) steps_length_lem F.second }

  work_fits : (g : List ℕ) (work1 work2 : ℕ) → WorkFits s g work1 work2 → WorkFits t g work1 work2
  work_fits g work1 work2 F =
      record {
        first = subst (λ (n : ℕ). n * 2 ^ legs_of g ≤ work1) steps_length_lem F.first;
        second = subst (λ (n : ℕ). n * 2 ^ legs_of g ≤ work2) steps_length_lem F.second;
      }

module _ {s t : List ℕ} (A : AnswersBy s t) where
  abbrev B : AnswersBy t s
  B = answers_back A

  behind_policy : (qs rs : List Question) → Alike qs rs → AnsweredAlike (policy_questions s ++ qs) (policy_questions t ++ rs)
  behind_policy qs rs = behind_passed (policy_questions s) (policy_questions t) qs rs A.first A.second

  bare_asked : (x y : Context) (e : Event) → AnsweredAlike (bare_questions s x y e) (bare_questions t x y e)
  bare_asked x y e =
      behind_policy (ask 13 (AskedInRange (counts_of s) x y e) ∷ []) (ask 13 (AskedInRange (counts_of t) x y e) ∷ [])
      (refl, (asked_range A.counts x y e, asked_range B.counts x y e), tt)

  steps_asked : (x y : Context) (work1 work2 : ℕ) → AnsweredAlike (steps_questions s x y work1 work2) (steps_questions t x y work1 work2)
  steps_asked x y work1 work2 =
      behind_policy (ask 13 (BothInRange (counts_of s) x y) ∷ ask 11 (StepsFit s work1 work2) ∷ [])
      (ask 13 (BothInRange (counts_of t) x y) ∷ ask 11 (StepsFit t work1 work2) ∷ [])
      (refl, (both_range A.counts x y, both_range B.counts x y), (refl, (steps_fit A work1 work2, steps_fit B work1 work2), tt))

  -- questions 7 to 9 are of the goal alone
  goal_asked : (g : List ℕ) (work1 work2 : ℕ) → AnsweredAlike (all_questions s g work1 work2) (all_questions t g work1 work2)
  goal_asked g work1 work2 =
      behind_policy (goal_questions (counts_of s) g ++ (ask 11 (WorkFits s g work1 work2) ∷ []))
      (goal_questions (counts_of t) g ++ (ask 11 (WorkFits t g work1 work2) ∷ []))
      (refl, Iff.rfl, (refl, Iff.rfl, (refl, Iff.rfl, (refl, fields, (refl, work, tt)))))
    where
      fields : FieldsFit (counts_of s) (goal_of g) ↔ FieldsFit (counts_of t) (goal_of g)
      fields = (fields_fit A.counts (goal_of g), fields_fit B.counts (goal_of g))

      work : WorkFits s g work1 work2 ↔ WorkFits t g work1 work2
      work = (work_fits A g work1 work2, work_fits B g work1 work2)

  -- ---- what is asked, where all questions are passed
  same_held : (x : Context) → meetsρμ (policy_of s) x ≡ meetsρμ (policy_of t) x
  unfolding meetsρμ
  same_held x = λ j. A.rho x.role x.ty j && A.mu x.user x.role j

  path_same : (x y : Context) (m : ℕ) (c e : ℕ → ℕ) → FlowPath (policy_of s) x y m c e → FlowPath (policy_of t) x y m c e
  path_same x y m c e P =
      record {
        contexts = λ j h. subst T (same_range A.counts (context_of (c j))) (P.contexts j h);
        flows = λ j h. subst T (A.flows (event_of (e j)) (context_of (c j)) (context_of (c (suc j)))) (P.flows j h);
        from = P.from;
        to = P.to;
        meets = subst T (same_held x) P.meets;
      }

  some_same : (x y : Context) (m : ℕ) → SomeFlowPath (policy_of s) x y m → SomeFlowPath (policy_of t) x y m
  some_same x y m P = record { c = P.c; e = P.e; path = path_same x y m P.c P.e P.path }

  -- the model that goals are judged by is one and the same
  model_same : (g : List ℕ) → model s g ≡ model t g
  model_same g =
      λ j.
      record {
        flow_by = λ x e y. A.flows (event_of e) (context_of x) (context_of y) j;
        context = λ x. same_range A.counts (context_of x) j;
        held = λ x. same_held (context_of x) j;
        legs = (goal_of g).legs;
        σ = λ i x. context_in (goal_of g) (σChain i) (context_of x);
        γ = λ i e. event_in (goal_of g) (γChain i) (event_of e);
        repeated = λ i. bit (goal_of g).flags i;
        σe = λ x. context_in (goal_of g) σeChain (context_of x);
        γe = λ e. event_in (goal_of g) γeChain (event_of e);
      }

-- ---- the answers
module _ {s t : List ℕ} (A : AnswersBy s t) where
  bare_same : (x y : Context) (e : Event) (b c : Bool) → b ≡ c → (r : Result Bool Refusal) → BareAnswer s x y e b r → BareAnswer t x y e c r
  bare_same x y e b c q (Ok z) h = ((bare_asked A x y e).yes h.0, sym q ∙ h.1)
  bare_same x y e b c q (Err r) h = (bare_asked A x y e).no (question_number r) h

  steps_same : (x y : Context) (work1 work2 : ℕ) (before after : List ℕ) (r : Result (Option ℕ) Unanswered)
      → StepsPromise s x y work1 work2 before after r → StepsPromise t x y work1 work2 before after r
  steps_same x y work1 work2 before after (Ok None) h =
      ((steps_asked A x y work1 work2).yes h.0, λ m P. h.1 m (some_same (answers_back A) x y m P), h.2)
  steps_same x y work1 work2 before after (Ok (Some m)) h = (
    (steps_asked A x y work1 work2).yes h.0,
    λ k l P. h.1 k l (some_same (answers_back A) x y k P),
    record {
      room = h.2.room;
      whole = h.2.whole;
      rest = h.2.rest;
      path = path_same A x y m (contexts_in after) (events_in after) h.2.path;
    },
  )
  steps_same x y work1 work2 before after (Err (unanswered.Refused r)) h = ((steps_asked A x y work1 work2).no (question_number r) h.0, h.1)
  steps_same x y work1 work2 before after (Err (unanswered.NoRoom m)) h = (
    (steps_asked A x y work1 work2).yes h.0,
    some_same A x y m h.1,
    λ k l P. h.2 k l (some_same (answers_back A) x y k P),
    h.3,
    h.4,
  )

  sort_same : (g : List ℕ) (work1 work2 : ℕ) (r : Result Outcome Unanswered) → GoalSort s g work1 work2 r → GoalSort t g work1 work2 r
  sort_same g work1 work2 (Ok outcome.Holds) h = ((goal_asked A g work1 work2).yes h.0, subst Holds (model_same A g) h.1)
  sort_same g work1 work2 (Ok (outcome.Order m)) h = ((goal_asked A g work1 work2).yes h.0, subst (λ (M : Model). OrderAt M m) (model_same A g) h.1)
  sort_same g work1 work2 (Ok (outcome.Events m)) h = ((goal_asked A g work1 work2).yes h.0, subst (λ (M : Model). EventsAt M m) (model_same A g) h.1)
  sort_same g work1 work2 (Err (unanswered.Refused r)) h = (goal_asked A g work1 work2).no (question_number r) h
  sort_same g work1 work2 (Err (unanswered.NoRoom m)) h = absurd h

  goal_same : (g : List ℕ) (work1 work2 : ℕ) (before after : List ℕ) (r : Result Outcome Unanswered)
      → GoalPromise s g work1 work2 before after r → GoalPromise t g work1 work2 before after r
  goal_same g work1 work2 before after (Ok outcome.Holds) h = (sort_same g work1 work2 (Ok outcome.Holds) h.0, h.1)
  goal_same g work1 work2 before after (Ok (outcome.Order m)) h = (
    sort_same g work1 work2 (Ok (outcome.Order m)) h.0,
    subst (λ (M : Model). Shows (IsPath M) m before after) (model_same A g) h.1,
    subst (λ (M : Model). BreaksOrder M m (contexts_in after)) (model_same A g) h.2,
  )
  goal_same g work1 work2 before after (Ok (outcome.Events m)) h = (
    sort_same g work1 work2 (Ok (outcome.Events m)) h.0,
    subst (λ (M : Model). Shows (IsPath M) m before after) (model_same A g) h.1,
    subst (λ (M : Model). BreaksEvents M m (contexts_in after) (events_in after)) (model_same A g) h.2,
  )
  goal_same g work1 work2 before after (Err (unanswered.Refused k)) h = (sort_same g work1 work2 (Err (unanswered.Refused k)) h.0, h.1)
  goal_same g work1 work2 before after (Err (unanswered.NoRoom m)) h = (
    ⊎_elim (λ o. inl (sort_same g work1 work2 (Ok (outcome.Order m)) o)) (λ e. inr (sort_same g work1 work2 (Ok (outcome.Events m)) e)) h.0,
    h.1,
    h.2,
  )

pub same_answers : (s t : List ℕ) → AnswersBy s t → SameAnswers s t
same_answers s t A =
    let B = answers_back A in
    record {
      authorization = λ x y e r.
          let p : Bool = authorized (policy_of s) e x y in
          let q : Bool = authorized (policy_of t) e x y in
          (bare_same A x y e p q (A.authorizes e x y) r, bare_same B x y e q p (B.authorizes e x y) r);
      flows = λ x y e r.
          let p : Bool = flow (policy_of s) e x y in
          let q : Bool = flow (policy_of t) e x y in
          (bare_same A x y e p q (A.flows e x y) r, bare_same B x y e q p (B.flows e x y) r);
      steps = λ x y work1 work2 before after r. (steps_same A x y work1 work2 before after r, steps_same B x y work1 work2 before after r);
      goal = λ g work1 work2 before after r. (goal_same A g work1 work2 before after r, goal_same B g work1 work2 before after r);
    }
