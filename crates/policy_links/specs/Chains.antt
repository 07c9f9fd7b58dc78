-- Questions 3 and 4 of a policy (paper 01): its links, and its chains.
use Rattle.std.specs.Prelude.{ℕ, ◌≤◌, ◌≡◌}
use Rattle.base.specs.Ranges.{Within}
use Rattle.base.specs.Chain.{Rises, OnChain}
use Rattle.policy_image.specs.Policy.{Policy, policy_links}

-- "Is every head at most N, .."
abbrev pub HeadsInRange : Policy → Type 0
HeadsInRange p = (k : ℕ) → 1 ≤ k → k ≤ 9 → p.head k ≤ p.size

-- ".. every next 0 or above its record and at most N?": of every record, on a chain or not
abbrev pub NextsRise : Policy → Type 0
NextsRise p = (i : ℕ) → 1 ≤ i → i ≤ p.size → Rises (policy_links p) i

-- Question 3
pub record LinksRise (p : Policy) : Type 0 where
  pub heads : HeadsInRange p
  pub nexts : NextsRise p

-- record i has a kind from 1 to 9 and lies on the chain of its kind
pub record OnItsChain (p : Policy) (i : ℕ) : Type 0 where
  pub kind : Within 1 9 (p.rec i).kind
  pub on : OnChain (policy_links p) (p.rec i).kind i

-- Question 4: "Does each chain hold exactly the records of its kind, all N on some chain?"
pub record ChainsByKind (p : Policy) : Type 0 where
  pub kinds : (k i : ℕ) → 1 ≤ k → k ≤ 9 → OnChain (policy_links p) k i → (p.rec i).kind ≡ k
  pub all : (i : ℕ) → 1 ≤ i → i ≤ p.size → OnItsChain p i
