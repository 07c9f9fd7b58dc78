-- Records that are linked into chains, as in a policy image and in a goal image.
use Rattle.std.specs.Prelude.{ℕ, ◌≤◌, ◌<◌, ◌≡◌, ◌⊎◌}

-- records 1 to size, the chains' heads, and each record's next
pub record Linked : Type 0 where
  pub size : ℕ
  pub head : ℕ → ℕ
  pub next : ℕ → ℕ

-- "A next that is not 0 is greater than its own record's number"; here also that it is the number of a record
abbrev pub Rises : Linked → ℕ → Type 0
Rises l i = (l.next i ≡ 0) ⊎ ((i < l.next i) × (l.next i ≤ l.size))

-- following the links from c meets record i: "A head or next of 0 ends the chain"
pub data Meets (l : Linked) : ℕ → ℕ → Type 0 where
  here : {i : ℕ} → (i ≡ 0 → ⊥) → Meets l i i
  later : {c i : ℕ} → (c ≡ 0 → ⊥) → Meets l (l.next c) i → Meets l c i

-- record i lies on chain k
abbrev pub OnChain : Linked → ℕ → ℕ → Type 0
OnChain l k i = Meets l (l.head k) i
