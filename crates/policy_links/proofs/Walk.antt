-- The pass over the records that answers question 4, as one with a cursor on each of the chains 1 to 9. That no cursor lags behind rests on
-- the very statement to be decided: a record that lies on a second chain, of another kind, stops that chain's cursor and shows only at the end.
use Prim.Native.Nat.{ℕ, ◌+◌, ◌≤◌, ◌<◌}
use mathlib.Core.Path.{◌≡◌, refl, sym, subst}
use native.Mathlib.Omega.{arith}
use Rattle.base.specs.Chain.{OnChain}
use Rattle.chains.specs.Inner.Links.{LinksRising}
use Rattle.chains.proofs.Pass.{Pass, pass_start, stands, holds, pass_step, pass_zero, pass_end}
use Rattle.policy_image.specs.Policy.{Policy, policy_links}
use Rattle.policy_links.specs.Chains.{LinksRise, ChainsByKind}

-- question 3, of the links alone
pub rising : (p : Policy) → LinksRise p → LinksRising (policy_links p) 1 10
rising p L = record { heads = λ k a b. L.heads k a (omega arith); nexts = L.nexts }

pub rising_links : (p : Policy) → LinksRising (policy_links p) 1 10 → LinksRise p
rising_links p R = record { heads = λ k a b. R.heads k a (omega arith); nexts = R.nexts }

-- record i is of kind k
abbrev IsKind : Policy → ℕ → ℕ → Type 0
IsKind p k i = (p.rec i).kind ≡ k

-- the records below i have been passed, and cur k is where the chain of kind k goes on
abbrev pub Walk : Policy → ℕ → (ℕ → ℕ) → Type 0
Walk p = Pass (policy_links p) 1 10 (IsKind p) (ChainsByKind p)

module _ (p : Policy) (L : LinksRise p) where
  pub walk_start : (cur : ℕ → ℕ) → ((k : ℕ) → 1 ≤ k → k < 10 → cur k ≡ p.head k) → Walk p 1 cur
  walk_start cur e = pass_start (rising p L) cur e

  module _ (i : ℕ) (cur : ℕ → ℕ) (w : Walk p i cur) (low : 1 ≤ i) (high : i ≤ p.size) where
    -- where the cursor of its kind does not stand at i, the chains are not right
    pub walk_wrong : 1 ≤ (p.rec i).kind → (p.rec i).kind ≤ 9 → (cur (p.rec i).kind ≡ i → ⊥) → ChainsByKind p → ⊥
    walk_wrong a b n C = n (stands (rising p L) w low high C (p.rec i).kind a (omega arith) (C.all i low high).on)

    -- the cursor of its kind stands at i and goes on to its next
    pub walk_step : (cur' : ℕ → ℕ) → 1 ≤ (p.rec i).kind → (p.rec i).kind ≤ 9 → cur (p.rec i).kind ≡ i
        → cur' (p.rec i).kind ≡ (p.rec i).next → ((k : ℕ) → (k ≡ (p.rec i).kind → ⊥) → cur' k ≡ cur k) → Walk p (i + 1) cur'
    walk_step cur' a b at new old =
        pass_step (rising p L) w low high (p.rec i).kind a (omega arith) at refl
        (λ C k x y e. sym (C.kinds k i x (omega arith) (holds (rising p L) w low high k x y e))) cur' new old

  -- every record passed
  module _ (cur : ℕ → ℕ) (w : Walk p (p.size + 1) cur) where
    pub walk_end : ((k : ℕ) → 1 ≤ k → k ≤ 9 → cur k ≡ 0) → ChainsByKind p
    walk_end z =
        record {
          kinds = λ k i a b r. pass_end (rising p L) w k i a (omega arith) (z k a b) r;
          all = λ i a b.
              let h = w.done i a (omega arith) in
              let e = h.is in
              record {
                kind = record { low = omega arith; high = omega arith };
                on = subst (λ (k : ℕ). OnChain (policy_links p) k i) (sym e) h.on;
              };
        }

    pub walk_zero : ChainsByKind p → (k : ℕ) → 1 ≤ k → k ≤ 9 → cur k ≡ 0
    walk_zero C k a b = pass_zero (rising p L) w C k a (omega arith)
