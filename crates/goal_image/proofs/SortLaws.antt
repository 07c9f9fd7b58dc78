-- The two sorts of chains: each of the fifteen is a σ chain or a γ chain, and none is both.
use Prim.Native.Nat.{ℕ, ◌+◌, ◌≤◌, ◌<◌}
use mathlib.Core.Bool.{Bool, true, false, ◌&&◌}
use mathlib.Core.Logic.{◌⊎◌, inl, inr, ⊎_elim}
use mathlib.Core.Path.{◌≡◌}
use native.Mathlib.Omega.{arith}
use lib.Dec.{leb, ltb, eqb}
use borrow.Author.Tests.{le-leb, lt-ltb, eq-eqb, leb-true, ltb-true, eqb-true}
use Rattle.base.specs.Inner.Decides.{Decides}
use Rattle.base.proofs.Decide.{decides_iff}
use Rattle.base.proofs.Numbers.{split_le, split_eq}
use Rattle.base.proofs.BoolLaws.{or_true, or_left, or_cases, and_true, and_first, and_second, true_or_false, clash}
use Rattle.policy_image.specs.declared.counts.Counts.{Counts}
use Rattle.goal_image.specs.Goal.{Goal, is_context_chain, is_event_chain}
use Rattle.goal_image.specs.Questions.{ContextFits, EventFits}
use Rattle.goal_image.specs.Inner.Reading.{RecordFits}

pub context_chain : (h : ℕ) → is_context_chain h ≡ true → (h < 7) ⊎ (h ≡ 13)
context_chain h e = ⊎_elim (λ a. inl (ltb-true h 7 a)) (λ a. inr (eqb-true h 13 a)) (or_cases (ltb h 7) (eqb h 13) e)

pub event_chain : (h : ℕ) → is_event_chain h ≡ true → ((7 ≤ h) × (h < 13)) ⊎ (h ≡ 14)
event_chain h e =
    ⊎_elim
    (λ a. inl (leb-true 7 h (and_first (leb 7 h) (ltb h 13) a), ltb-true h 13 (and_second (leb 7 h) (ltb h 13) a)))
    (λ a. inr (eqb-true h 14 a))
    (or_cases (leb 7 h && ltb h 13) (eqb h 14) e)

pub context_below : (h : ℕ) → is_context_chain h ≡ true → h < 15
context_below h e = ⊎_elim (λ a. omega arith) (λ a. omega arith) (context_chain h e)

pub event_below : (h : ℕ) → is_event_chain h ≡ true → h < 15
event_below h e = ⊎_elim (λ a. omega arith) (λ a. omega arith) (event_chain h e)

-- the first chains are σ chains
pub event_from : (h : ℕ) → h < 7 → is_event_chain h ≡ false
event_from h l =
    ⊎_elim (λ e. ⊎_elim (λ a. absurd (omega arith)) (λ a. absurd (omega arith)) (event_chain h e)) (λ e. e) (true_or_false (is_event_chain h))

pub one_sort : (h : ℕ) → is_context_chain h ≡ true → is_event_chain h ≡ true → ⊥
one_sort h e f =
    ⊎_elim (λ a. ⊎_elim (λ b. omega arith) (λ b. omega arith) (event_chain h f))
    (λ a. ⊎_elim (λ b. omega arith) (λ b. omega arith) (event_chain h f))
    (context_chain h e)

pub is_context : (h : ℕ) → (h < 7) ⊎ (h ≡ 13) → is_context_chain h ≡ true
is_context h c =
    ⊎_elim (λ a. or_left (ltb h 7) (eqb h 13) (lt-ltb h 7 a)) (λ a. or_true (ltb h 7) (eqb h 13) (eq-eqb h 13 a)) c

pub is_event : (h : ℕ) → ((7 ≤ h) × (h < 13)) ⊎ (h ≡ 14) → is_event_chain h ≡ true
is_event h c =
    ⊎_elim (λ a. or_left (leb 7 h && ltb h 13) (eqb h 14) (and_true (leb 7 h) (ltb h 13) (le-leb 7 h a.0) (lt-ltb h 13 a.1)))
    (λ a. or_true (leb 7 h && ltb h 13) (eqb h 14) (eq-eqb h 14 a)) c

pub some_sort : (h : ℕ) → h < 15 → is_context_chain h ≡ false → is_event_chain h ≡ true
some_sort h b e =
    ⊎_elim (λ a. wrong (inl (omega arith)))
    (λ a. ⊎_elim (λ x. wrong (inr x)) (λ x. is_event h (⊎_elim (λ y. inl (omega arith, omega arith)) (λ y. inr (omega arith)) (split_le (h + 1) 13))) (split_eq h 13))
    (split_le (h + 1) 7)
  where
    wrong : (h < 7) ⊎ (h ≡ 13) → is_event_chain h ≡ true
    wrong c = absurd (clash (is_context h c) e)

-- a record's rules, by the sort of its chain
module _ (n : Counts) (g : Goal) (h i : ℕ) (b : Bool) where
  pub fits_context : is_context_chain h ≡ true → Decides b (ContextFits n (g.context i)) → Decides b (RecordFits n g h i)
  fits_context t d = decides_iff b (λ f. record { context = λ e. f; event = λ e. absurd (one_sort h t e) }) (λ r. r.context t) d

  pub fits_event : is_event_chain h ≡ true → Decides b (EventFits n (g.event i)) → Decides b (RecordFits n g h i)
  fits_event t d = decides_iff b (λ f. record { context = λ e. absurd (one_sort h e t); event = λ e. f }) (λ r. r.event t) d
