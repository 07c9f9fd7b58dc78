-- The promise of least steps fixes the answer and the count: any two results that it allows for one input have the same.
use Prim.Native.Nat.{ℕ, ◌+◌, ◌*◌, ◌≤◌, ◌<◌}
use mathlib.Core.List.{List}
use mathlib.Core.Path.{◌≡◌, refl, ap, subst}
use native.Mathlib.Decide.{dec_lt}
use native.Mathlib.Omega.{arith}
use lib.ListN.{length}
use Rattle.std.specs.Prelude.{Option, Some, None, Result, Ok, Err}
use Rattle.base.specs.declared.refusals.Refusal.{Refusal}
use Rattle.base.specs.Questions.{AllYes, RefusedWith}
use Rattle.base.specs.Refusals.{question_number, RefusedFor}
use Rattle.base.proofs.QuestionLaws.{passed_not_refused, one_number}
use Rattle.base.proofs.RefusalLaws.{one_refusal}
use Rattle.policy_image.specs.Policy.{Policy, policy_of}
use Rattle.context.specs.declared.Context.{Context}
use Rattle.paths.specs.Slice.{contexts_in, events_in, Shows}
use Rattle.witness.specs.declared.unanswered.Unanswered.{Unanswered}
use Rattle.witness.specs.declared.unanswered.Unanswered.TheVariants as unanswered
use Rattle.least_steps.specs.LeastSteps.{FlowPath, SomeFlowPath, NoFlowPath, NoneShorter, steps_questions, StepsPromise, steps_number}

module _ (p : Policy) (x y : Context) where
  -- the least number of steps is one
  pub least_steps_one : (m k : ℕ) → SomeFlowPath p x y m → NoneShorter p x y m → SomeFlowPath p x y k → NoneShorter p x y k → m ≡ k
  least_steps_one m k a f b g = go (dec_lt m k) (dec_lt k m)
    where
      go : Dec (m < k) → Dec (k < m) → m ≡ k
      go (yes h) d = absurd (g m h a)
      go (no h) (yes l) = absurd (f k l b)
      go (no h) (no l) = omega arith

  -- a path that is shown is one
  pub shown_some : {m : ℕ} {before after : List ℕ} → Shows (FlowPath p x y) m before after → SomeFlowPath p x y m
  shown_some {m} {before} {after} s = record { c = contexts_in after; e = events_in after; path = s.path }

module _ (s : List ℕ) (x y : Context) (work1 work2 : ℕ) (before : List ℕ) where
  -- what is promised of an answer, whatever the path slice is after the call
  abbrev pub Determined : Result (Option ℕ) Unanswered → Type 0
  Determined (Ok None) = AllYes (steps_questions s x y work1 work2) × NoFlowPath (policy_of s) x y
  Determined (Ok (Some m)) =
      AllYes (steps_questions s x y work1 work2) × SomeFlowPath (policy_of s) x y m × NoneShorter (policy_of s) x y m × (2 * m + 1 ≤ length before)
  Determined (Err (unanswered.Refused r)) = RefusedFor (steps_questions s x y work1 work2) r
  Determined (Err (unanswered.NoRoom m)) =
      AllYes (steps_questions s x y work1 work2) × SomeFlowPath (policy_of s) x y m × NoneShorter (policy_of s) x y m × (length before < 2 * m + 1)

  pub determined : (after : List ℕ) (r : Result (Option ℕ) Unanswered) → StepsPromise s x y work1 work2 before after r → Determined r
  determined a (Ok None) p = (p.0, p.1)
  determined a (Ok (Some m)) p = (p.0, shown_some (policy_of s) x y p.2, p.1, p.2.room)
  determined a (Err (unanswered.Refused k)) p = p.0
  determined a (Err (unanswered.NoRoom m)) p = (p.0, p.1, p.2, p.3)

  refuted : {A : Type 0} (r : Refusal) → AllYes (steps_questions s x y work1 work2) → RefusedFor (steps_questions s x y work1 work2) r → A
  refuted r a h = absurd (passed_not_refused (steps_questions s x y work1 work2) (question_number r) a h)

  pub one_determined : (q r : Result (Option ℕ) Unanswered) → Determined q → Determined r → q ≡ r
  one_determined (Ok None) (Ok None) p q = refl
  one_determined (Ok None) (Ok (Some k)) p q = absurd (p.1 k q.1)
  one_determined (Ok None) (Err (unanswered.Refused k)) p q = refuted k p.0 q
  one_determined (Ok None) (Err (unanswered.NoRoom k)) p q = absurd (p.1 k q.1)
  one_determined (Ok (Some m)) (Ok None) p q = absurd (q.1 m p.1)
  one_determined (Ok (Some m)) (Ok (Some k)) p q = ap (λ m. Ok (Some m)) (least_steps_one (policy_of s) x y m k p.1 p.2 q.1 q.2)
  one_determined (Ok (Some m)) (Err (unanswered.Refused k)) p q = refuted k p.0 q
  one_determined (Ok (Some m)) (Err (unanswered.NoRoom k)) p q =
      let e = least_steps_one (policy_of s) x y m k p.1 p.2 q.1 q.2 in
      absurd (omega (arith, p.3, q.3))
  one_determined (Err (unanswered.Refused m)) (Ok None) p q = refuted m q.0 p
  one_determined (Err (unanswered.Refused m)) (Ok (Some k)) p q = refuted m q.0 p
  one_determined (Err (unanswered.Refused m)) (Err (unanswered.Refused k)) p q = ap (λ m. Err (unanswered.Refused m)) (one_refusal (steps_questions s x y work1 work2) m k p q)
  one_determined (Err (unanswered.Refused m)) (Err (unanswered.NoRoom k)) p q = refuted m q.0 p
  one_determined (Err (unanswered.NoRoom m)) (Ok None) p q = absurd (q.1 m p.1)
  one_determined (Err (unanswered.NoRoom m)) (Ok (Some k)) p q =
      let e = least_steps_one (policy_of s) x y m k p.1 p.2 q.1 q.2 in
      absurd (omega (arith, p.3, q.3))
  one_determined (Err (unanswered.NoRoom m)) (Err (unanswered.Refused k)) p q = refuted k p.0 q
  one_determined (Err (unanswered.NoRoom m)) (Err (unanswered.NoRoom k)) p q = ap (λ m. Err (unanswered.NoRoom m)) (least_steps_one (policy_of s) x y m k p.1 p.2 q.1 q.2)

  pub one_steps : (after last : List ℕ) (q r : Result (Option ℕ) Unanswered) → StepsPromise s x y work1 work2 before after q → StepsPromise s x y work1 work2 before last r → q ≡ r
  one_steps a b q r p o = one_determined q r (determined a q p) (determined b r o)

  -- .. so an answer of which that is known is the one that is given, with all that is promised of it
  pub given : (after : List ℕ) (q r : Result (Option ℕ) Unanswered) → Determined q → StepsPromise s x y work1 work2 before after r
      → (r ≡ q) × StepsPromise s x y work1 work2 before after q
  given a q r h p =
      let e : r ≡ q = one_determined r q (determined a r p) h in
      (e, subst (λ (o : Result (Option ℕ) Unanswered). StepsPromise s x y work1 work2 before a o) e p)

  -- what C gets where a question's answer is no
  pub refused_steps : (after : List ℕ) (k : ℕ) (r : Result (Option ℕ) Unanswered) → RefusedWith (steps_questions s x y work1 work2) k → StepsPromise s x y work1 work2 before after r
      → (steps_number r ≡ 4 * k + 3) × (after ≡ before)
  refused_steps a k (Ok None) h p = absurd (passed_not_refused (steps_questions s x y work1 work2) k p.0 h)
  refused_steps a k (Ok (Some m)) h p = absurd (passed_not_refused (steps_questions s x y work1 work2) k p.0 h)
  refused_steps a k (Err (unanswered.Refused r)) h p = (ap (λ i. 4 * i + 3) (one_number (steps_questions s x y work1 work2) (question_number r) k p.0 h), p.1)
  refused_steps a k (Err (unanswered.NoRoom m)) h p = absurd (passed_not_refused (steps_questions s x y work1 work2) k p.0 h)

  -- where no path is shown, the path slice is as it was
  pub left_alone : (after : List ℕ) (r : Result (Option ℕ) Unanswered) → StepsPromise s x y work1 work2 before after r → ((m : ℕ) → r ≡ Ok (Some m) → ⊥) → after ≡ before
  left_alone a (Ok None) p h = p.2
  left_alone a (Ok (Some m)) p h = absurd (h m refl)
  left_alone a (Err (unanswered.Refused k)) p h = p.1
  left_alone a (Err (unanswered.NoRoom m)) p h = p.4
