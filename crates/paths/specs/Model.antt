-- What the path definitions (Paths.antt) need of a policy and a goal. Contexts and events are their codes, as in the path
-- slice: "entry 2j is xj as 256t + 16r + u, entry 2j + 1 is ej as 32c + p" (paper 01). A set is its test: 'x is in σi' is T (σ i x).
use Rattle.std.specs.Prelude.{Bool, ℕ}

pub record Model : Type 0 where
  -- flow_by x e y: "flow from x to y by e"
  pub flow_by : ℕ → ℕ → ℕ → Bool
  -- context x: its type, role and user are "each from 1 to the policy's count"
  pub context : ℕ → Bool
  -- held x: it "meets ρ and μ"
  pub held : ℕ → Bool
  -- legs is n; leg i, from 0 to n − 1, goes from σi to σ(i + 1) by events of γi
  pub legs : ℕ
  pub σ : ℕ → ℕ → Bool
  pub γ : ℕ → ℕ → Bool
  -- leg i is repeated; a leg that is not is a one-step leg
  pub repeated : ℕ → Bool
  -- "σe and γe are the exceptions"
  pub σe : ℕ → Bool
  pub γe : ℕ → Bool
