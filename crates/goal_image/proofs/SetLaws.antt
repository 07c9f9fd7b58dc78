-- The sets of a goal: "A set is the union of its chain; an empty chain is the empty set." (paper 01)
use Prim.Native.Nat.{ℕ, zero, suc, ◌+◌, ◌≤◌, ◌<◌}
use mathlib.Core.Bool.{Bool, true, false, ◌&&◌}
use mathlib.Core.Logic.{⊎_elim}
use mathlib.Core.Path.{◌≡◌, refl, sym, ap, ◌∙◌}
use native.Mathlib.Omega.{arith}
use lib.Dec.{eqb}
use borrow.Author.Tests.{eq-eqb}
use Rattle.base.specs.Bits.{bit}
use Rattle.base.specs.Chain.{Linked, Rises, Meets, OnChain}
use Rattle.base.specs.Chain.Meets.{here, later}
use Rattle.base.proofs.ChainLaws.{meets_zero, meets_step, meets_low, meets_range}
use Rattle.base.proofs.BoolLaws.{or_true, or_left, or_cases, and_true, true_or_false, clash}
use Rattle.context.specs.declared.Context.{Context}
use Rattle.context.specs.declared.Event.{Event}
use Rattle.goal_image.specs.Goal.{Goal, goal_links}
use Rattle.goal_image.specs.Questions.{OneChainEach}
use Rattle.goal_image.specs.Sets.{fits, matches_context, matches_event, along, context_in, event_in}
use Rattle.goal_image.specs.Inner.Memberships.{some_on, on_chain, Tests}

-- ---- following the links from record k on
module _ (l : Linked) (f : ℕ → Bool) where
  -- what is found is met ..
  pub along_found : (steps k : ℕ) → along l f steps k ≡ true → (i : ℕ) × Meets l k i × (f i ≡ true)
  along_found zero k e = absurd (clash e refl)
  along_found (suc steps) zero e = absurd (clash e refl)
  along_found (suc steps) (suc k) e =
      ⊎_elim (λ a. (suc k, here (λ z. let o : ⊥ = omega arith in o), a))
      (λ a. let r = along_found steps (l.next (suc k)) a in (r.0, later (λ z. let o : ⊥ = omega arith in o) r.1, r.2))
      (or_cases (f (suc k)) (along l f steps (l.next (suc k))) e)

  -- .. and what is met is found, where links rise and there are steps enough for the records from k to the last
  pub along_meets : ((i : ℕ) → 1 ≤ i → i ≤ l.size → Rises l i) → (steps k : ℕ) → k ≤ l.size → l.size < steps + k → (i : ℕ) → Meets l k i → f i ≡ true
      → along l f steps k ≡ true
  along_meets up zero k h s i r e = let z : ⊥ = omega arith in absurd z
  along_meets up (suc steps) zero h s i r e = absurd (meets_zero l r refl)
  along_meets up (suc steps) (suc k) h s i r e =
      ⊎_elim (λ q. or_left (f (suc k)) (along l f steps (l.next (suc k))) (ap f (sym q) ∙ e))
      (λ m. or_true (f (suc k)) (along l f steps (l.next (suc k)))
      (⊎_elim (λ z. absurd (meets_zero l m z)) (λ g. along_meets up steps (l.next (suc k)) g.1 (omega (arith, g.0)) i m e)
      (up (suc k) (omega arith) h)))
      (meets_step l r)

-- some record of chain h passes the test
abbrev pub Some : Goal → (ℕ → Bool) → ℕ → Type 0
Some g f h = (i : ℕ) × OnChain (goal_links g) h i × (f i ≡ true)

abbrev pub Iff : Type 0 → Type 0 → Type 0
Iff P Q = (P → Q) × (Q → P)

-- "0 in a field means any"
pub any_field : (a v : ℕ) → a ≡ 0 → fits a v ≡ true
any_field a v e = or_left (eqb a 0) (eqb a v) (eq-eqb a 0 e)

-- ---- the set of chain h of a goal that passes question 9
module _ (g : Goal) (O : OneChainEach g) (h : ℕ) (low : h < 15) where
  -- M steps are enough
  pub chain_iff : (f : ℕ → Bool) → Iff (along (goal_links g) f g.size (g.head h) ≡ true) (Some g f h)
  chain_iff f = (along_found (goal_links g) f g.size (g.head h), λ r. back r)
    where
      back : Some g f h → along (goal_links g) f g.size (g.head h) ≡ true
      back r =
          let n : g.head h ≡ 0 → ⊥ = meets_zero (goal_links g) r.1 in
          along_meets (goal_links g) f O.nexts g.size (g.head h) (O.heads h low) (omega arith) r.0 r.1 r.2

  pub chain_none : (f : ℕ → Bool) → ((i : ℕ) → OnChain (goal_links g) h i → f i ≡ false) → along (goal_links g) f g.size (g.head h) ≡ false
  chain_none f n =
      ⊎_elim (λ t. let r = (chain_iff f).0 t in absurd (clash r.2 (n r.0 r.1))) (λ e. e) (true_or_false (along (goal_links g) f g.size (g.head h)))

  -- "an empty chain is the empty set", whatever the test
  pub empty_chain : g.head h ≡ 0 → (f : ℕ → Bool) → along (goal_links g) f g.size (g.head h) ≡ false
  empty_chain z f = chain_none f (λ i r. absurd (meets_zero (goal_links g) r z))

  -- a context is in the set exactly when some record of the chain matches it, and record k is on the chain when it is met
  pub context_iff : (x : Context) → Iff (context_in g h x ≡ true) (Some g (λ i. matches_context (g.context i) x) h)
  unfolding context_in
  context_iff x = chain_iff (λ i. matches_context (g.context i) x)

  pub record_iff : (k : ℕ) → Iff (on_chain g k h ≡ true) (Some g (λ i. eqb i k) h)
  unfolding on_chain
  record_iff k = chain_iff (λ i. eqb i k)

  -- and is not, where none does
  pub context_none : (x : Context) → ((i : ℕ) → OnChain (goal_links g) h i → matches_context (g.context i) x ≡ false) → context_in g h x ≡ false
  unfolding context_in
  context_none x = chain_none (λ i. matches_context (g.context i) x)

  pub record_none : (k : ℕ) → ((i : ℕ) → OnChain (goal_links g) h i → eqb i k ≡ false) → on_chain g k h ≡ false
  unfolding on_chain
  record_none k = chain_none (λ i. eqb i k)

  -- so for an event
  pub event_iff : (e : Event) → Iff (event_in g h e ≡ true) (Some g (λ i. matches_event (g.event i) e) h)
  unfolding event_in
  event_iff e = chain_iff (λ i. matches_event (g.event i) e)

  -- a record of zeros makes the set everything
  pub any_context_lem : (i : ℕ) → OnChain (goal_links g) h i → (g.context i).ty ≡ 0 → (g.context i).role ≡ 0 → (g.context i).user ≡ 0 → (x : Context)
      → context_in g h x ≡ true
  any_context_lem i r a b c x =
      (context_iff x).1 (
        i,
        r,
        and_true (fits (g.context i).ty x.ty) (fits (g.context i).role x.role && fits (g.context i).user x.user) (any_field _ _ a)
            (and_true (fits (g.context i).role x.role) (fits (g.context i).user x.user) (any_field _ _ b) (any_field _ _ c)),
      )

  -- a record of class 0 holds the permissions of its mask in every class
  pub any_class_lem : (i : ℕ) → OnChain (goal_links g) h i → (g.event i).class ≡ 0 → (e : Event) → bit (g.event i).mask e.perm ≡ true → event_in g h e ≡ true
  any_class_lem i r a e b =
      (event_iff e).1 (i, r, and_true (fits (g.event i).class e.class) (bit (g.event i).mask e.perm) (any_field _ _ a) b)

-- ---- the set of chain h, where the answers of a closure are those of the test t
module _ {g : Goal} (O : OneChainEach g) {h : ℕ} (low : h < 15) {says : ℕ → Bool → Type 0} {t : ℕ → Bool} (T : Tests g says t) where
  told : {i : ℕ} {b : Bool} → OnChain (goal_links g) h i → says i b → t i ≡ b
  told {i} {b} on s = sym (T i (meets_low (goal_links g) on) (meets_range (goal_links g) O.nexts (O.heads h low) on).1 b s)

  pub one_passes : {i : ℕ} → OnChain (goal_links g) h i → says i true → some_on g t h ≡ true
  one_passes {i} on s = (chain_iff g O h low t).1 (i, on, told on s)

  pub none_passes : ((i : ℕ) → OnChain (goal_links g) h i → says i false) → some_on g t h ≡ false
  none_passes n = chain_none g O h low t (λ i on. told on (n i on))
