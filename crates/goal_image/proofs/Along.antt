-- A loop along chain h of a goal that passes question 9: it is `Along` the chain, and holds a record's number at each turn.
use Prim.Native.Nat.{ℕ, ◌≤◌, ◌<◌}
use mathlib.Core.List.{List}
use mathlib.Core.Path.{◌≡◌, sym, ap, subst, ◌∙◌}
use native.Mathlib.Omega.{arith}
use Rattle.base.specs.Chain.{OnChain}
use Rattle.base.proofs.ChainLaws.{Visit, visit_map, visit_start, visit_step, visit_end}
use Rattle.goal_image.specs.declared.chain.Chain.{Chain}
use Rattle.goal_image.specs.Layout.{goal_count, goal_head, next_of}
use Rattle.goal_image.specs.Goal.{goal_of, goal_links}
use Rattle.goal_image.specs.Questions.{OneChainEach}
use Rattle.goal_image.specs.Inner.Walking.{GivesNextNumber}

-- the iterator goes along chain h of the goal image s, and Q holds of every record that it has given
pub record Along (s : List ℕ) (h : ℕ) (Q : ℕ → Type 0) (it : Chain) : Type 0 where
  pub goal : it.goal.now ≡ s
  pub visit : Visit (goal_links (goal_of s)) h Q it.next

-- what holds of the records that it has given may be weakened
pub along_map : (s : List ℕ) (h : ℕ) (Q R : ℕ → Type 0) → ((j : ℕ) → Q j → R j) → {it : Chain} → Along s h Q it → Along s h R it
along_map s h Q R f {it} a = record { goal = a.goal; visit = visit_map (goal_links (goal_of s)) h it.next Q R f a.visit }

-- the number that is given is that of a record
pub along_most : (s : List ℕ) {it it' : Chain} {i : ℕ} → it.goal.now ≡ s → GivesNextNumber it i it' → i ≤ goal_count s
along_most s {i = i} e g = subst (λ (t : List ℕ). i ≤ goal_count t) e g.high

-- and the iterator then stands at that record's next
pub along_next : (s : List ℕ) {it it' : Chain} {i : ℕ} → it.goal.now ≡ s → GivesNextNumber it i it' → it'.next ≡ next_of s it.next
along_next s {i = i} e g = g.next ∙ ap (λ (t : List ℕ). next_of t i) e ∙ ap (next_of s) g.at

module _ (s : List ℕ) (O : OneChainEach (goal_of s)) (h : ℕ) (low : h < 15) (Q : ℕ → Type 0) where
  pub along_start : {it : Chain} → (it.goal.now ≡ s) × (it.next ≡ goal_head s h) → Along s h Q it
  along_start {it} e =
      record { goal = e.0; visit = visit_start (goal_links (goal_of s)) h (O.heads h low) O.nexts Q it.next e.1 }

  module _ {it it' : Chain} {i : ℕ} (a : Along s h Q it) (g : GivesNextNumber it i it') where
    there : it.next ≡ 0 → ⊥
    there z = omega (arith, g.low, g.at)

    -- the record is on the chain
    pub along_on : OnChain (goal_links (goal_of s)) h i
    along_on = subst (OnChain (goal_links (goal_of s)) h) (sym g.at) (a.visit.on there)

    pub along_step : Q i → Along s h Q it'
    along_step q =
        record {
          goal = g.goal ∙ a.goal;
          visit = visit_step (goal_links (goal_of s)) h (O.heads h low) O.nexts Q it.next there a.visit it'.next
              (along_next s a.goal g) (subst Q g.at q);
        }

  -- at the end Q holds of every record of the chain
  pub along_end : {it : Chain} → Along s h Q it → it.next ≡ 0 → (j : ℕ) → OnChain (goal_links (goal_of s)) h j → Q j
  along_end a z =
      visit_end (goal_links (goal_of s)) h (O.heads h low) O.nexts Q (subst (Visit (goal_links (goal_of s)) h Q) z a.visit)
