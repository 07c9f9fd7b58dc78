-- The loop along chain h of a goal that unites the permissions of class c that each record has.
use Prim.Native.Nat.{ℕ, ◌<◌}
use mathlib.Core.Bool.{true}
use mathlib.Core.Logic.{⊎_elim}
use mathlib.Core.Path.{◌≡◌, sym, subst, ◌∙◌}
use lib.Bits.{bit_or}
use Rattle.base.specs.Bits.{bit}
use Rattle.base.proofs.BitLaws.{bit_or_lem, bit_zero}
use Rattle.base.proofs.BoolLaws.{or_true, or_left, or_cases, same_truth, clash}
use Rattle.base.proofs.ChainLaws.{Visit, visit_map, visit_start, visit_step, visit_end}
use Rattle.context.specs.Codes.{event_at}
use Rattle.goal_image.specs.Goal.{Goal, goal_links}
use Rattle.goal_image.specs.Questions.{OneChainEach}
use Rattle.goal_image.specs.Sets.{matches_event, event_in}
use Rattle.goal_image.proofs.SetLaws.{event_iff}

-- the mask has what record j has
abbrev Has : Goal → ℕ → ℕ → ℕ → Type 0
Has g c m j = (q : ℕ) → matches_event (g.event j) (event_at c q) ≡ true → bit m q ≡ true

-- where the loop stands at record i, the mask has what the records behind it have, and nothing that is not in the set
pub record Uniting (g : Goal) (h c m i : ℕ) : Type 0 where
  pub visit : Visit (goal_links g) h (Has g c m) i
  pub from : (q : ℕ) → bit m q ≡ true → event_in g h (event_at c q) ≡ true

module _ {g : Goal} (O : OneChainEach g) {h : ℕ} (low : h < 15) {c : ℕ} where
  pub uniting_start : {i : ℕ} → i ≡ g.head h → Uniting g h c 0 i
  uniting_start {i} e =
      record {
        visit = visit_start (goal_links g) h (O.heads h low) O.nexts (Has g c 0) i e;
        from = λ q b. absurd (clash b (bit_zero q));
      }

  module _ {m i : ℕ} (U : Uniting g h c m i) (n : i ≡ 0 → ⊥) (x : ℕ) {i' : ℕ} (same : (q : ℕ) → bit x q ≡ matches_event (g.event i) (event_at c q)) (e : i' ≡ g.next i) where
    pub uniting_step : Uniting g h c (bit_or m x) i'
    uniting_step =
        record {
          visit = visit_step (goal_links g) h (O.heads h low) O.nexts (Has g c (bit_or m x)) i n
              (visit_map (goal_links g) h i (Has g c m) (Has g c (bit_or m x)) (λ j f q b. bit_or_lem m x q ∙ or_left (bit m q) (bit x q) (f q b)) U.visit) i' e
              (λ q b. bit_or_lem m x q ∙ or_true (bit m q) (bit x q) (same q ∙ b));
          from = λ q b. ⊎_elim (U.from q) (λ t. (event_iff g O h low (event_at c q)).1 (i, U.visit.on n, sym (same q) ∙ t)) (or_cases (bit m q) (bit x q) (sym (bit_or_lem m x q) ∙ b));
        }

  pub uniting_end : {m i : ℕ} → Uniting g h c m i → i ≡ 0 → (q : ℕ) → bit m q ≡ event_in g h (event_at c q)
  uniting_end {m} {i} U z q =
      same_truth (bit m q) (event_in g h (event_at c q)) (U.from q)
      (λ t.
      let r = (event_iff g O h low (event_at c q)).0 t in
      visit_end (goal_links g) h (O.heads h low) O.nexts (Has g c m) (subst (Visit (goal_links g) h (Has g c m)) z U.visit) r.0 r.1 q r.2)
