-- The pass over the records that answers question 9, with a cursor on each of the fifteen chains: record i is met by exactly one cursor,
-- which then goes on.
use Prim.Native.Nat.{ℕ, ◌+◌, ◌≤◌, ◌<◌}
use mathlib.Core.Path.{◌≡◌, refl, sym}
use mathlib.Core.Logic.{⊎_elim}
use mathlib.Core.Bool.{true, false}
use Rattle.std.specs.Prelude.{Option, None, Some}
use Rattle.std.specs.Option.{is_some}
use native.Mathlib.Nat.{eq-or-lt_of_le}
use native.Mathlib.Omega.{arith}
use Rattle.base.specs.Chain.{OnChain}
use Rattle.base.proofs.Numbers.{split_le}
use Rattle.base.proofs.BoolLaws.{clash}
use Rattle.chains.specs.Inner.Links.{LinksRising}
use Rattle.chains.proofs.Pass as pass
use Rattle.goal_image.specs.Goal.{Goal, goal_links}
use Rattle.goal_image.specs.Questions.{OneChainEach}
use Rattle.goal_image.specs.Inner.Reading.{IsFirst, First}

-- chain h alone holds record j
abbrev Alone : Goal → ℕ → ℕ → Type 0
Alone g h j = (k : ℕ) → k < 15 → OnChain (goal_links g) k j → k ≡ h

-- the records below i have been passed, and cur h is where chain h goes on
abbrev pub Pass : Goal → ℕ → (ℕ → ℕ) → Type 0
Pass g = pass.Pass (goal_links g) 0 15 (Alone g) Unit

module _ (g : Goal) (L : LinksRising (goal_links g) 0 15) where
  pub pass_start : (cur : ℕ → ℕ) → ((h : ℕ) → h < 15 → cur h ≡ g.head h) → Pass g 1 cur
  pass_start cur e = pass.pass_start L cur (λ h a b. e h b)

  module _ (i : ℕ) (cur : ℕ → ℕ) (w : Pass g i cur) (low : 1 ≤ i) (high : i ≤ g.size) where
    stands : (h : ℕ) → h < 15 → OnChain (goal_links g) h i → cur h ≡ i
    stands h b r = pass.stands L w low high tt h (omega arith) b r

    holds : (h : ℕ) → h < 15 → cur h ≡ i → OnChain (goal_links g) h i
    holds h b e = pass.holds L w low high h (omega arith) b e

    -- no cursor stands at i
    pub pass_none : ((h : ℕ) → h < 15 → cur h ≡ i → ⊥) → OneChainEach g → ⊥
    pass_none n O = let h = O.on i low high in n h.0 h.1 (stands h.0 h.1 h.2)

    -- two cursors stand at i
    pub pass_two : (h k : ℕ) → h < 15 → k < 15 → (h ≡ k → ⊥) → cur h ≡ i → cur k ≡ i → OneChainEach g → ⊥
    pass_two h k a b n e f O = n (O.once h k i a b (holds h a e) (holds k b f))

    -- one cursor stands at i, and goes on to the next of record i
    pub pass_step : (κ : ℕ) → κ < 15 → cur κ ≡ i → ((h : ℕ) → h < 15 → cur h ≡ i → h ≡ κ) → (cur' : ℕ → ℕ)
        → cur' κ ≡ g.next i → ((h : ℕ) → (h ≡ κ → ⊥) → cur' h ≡ cur h) → Pass g (i + 1) cur'
    pass_step κ b at only cur' new old =
        pass.pass_step L w low high κ (omega arith) b at (λ h c r. only h c (stands h c r)) (λ u h a c. only h c) cur' new old

  -- every record passed: nothing is left to test
  pub pass_end : (cur : ℕ → ℕ) → Pass g (g.size + 1) cur → OneChainEach g
  pass_end cur w =
      record {
        heads = λ h b. L.heads h (omega arith) b;
        nexts = L.nexts;
        on = λ i a b. let h = w.done i a (omega arith) in (h.chain, h.high, h.on);
        once = λ h k i a b r s.
            let z = pass.pass_zero L w tt h (omega arith) a in
            sym (pass.pass_end L w h i (omega arith) a z r k b s);
      }

-- where the first cursor at i is that of κ, and no later one stands there, κ alone stands there
pub only_one : (cur : ℕ → ℕ) (i κ : ℕ) → IsFirst cur 0 i κ → First cur (κ + 1) i None → (h : ℕ) → h < 15 → cur h ≡ i → h ≡ κ
only_one cur i κ f none h b e =
    ⊎_elim
    (λ a. ⊎_elim (λ q. q) (λ q. absurd (f.none h (omega arith) q e)) (eq-or-lt_of_le a))
    (λ a. absurd (none h (omega arith) b e))
    (split_le h κ)

-- what is sought is none, or is there
pub none_there : (cur : ℕ → ℕ) (h i : ℕ) (r : Option ℕ) → First cur h i r → false ≡ is_some r → First cur h i None
none_there cur h i None f e = f
none_there cur h i (Some k) f e = absurd (clash e refl)

pub one_there : (cur : ℕ → ℕ) (h i : ℕ) (r : Option ℕ) → First cur h i r → true ≡ is_some r → (k : ℕ) × IsFirst cur h i k
one_there cur h i None f e = absurd (clash refl e)
one_there cur h i (Some k) f e = (k, f)

pub links_part : (g : Goal) → OneChainEach g → LinksRising (goal_links g) 0 15
links_part g o = record { heads = λ h a b. o.heads h b; nexts = o.nexts }
