-- Models that say the same of all that a path can meet: of contexts in range, and of events that flow.
use Rattle.std.specs.Prelude.{◌≡◌, ℕ, ◌≤◌, ◌<◌, T}
use Rattle.paths.specs.Model.{Model}

pub record Agree (M N : Model) : Type 0 where
  pub legs : M.legs ≡ N.legs
  pub flows : (x e y : ℕ) → M.flow_by x e y ≡ N.flow_by x e y
  pub contexts : (x : ℕ) → M.context x ≡ N.context x
  pub held : (x : ℕ) → M.held x ≡ N.held x
  pub repeated : (i : ℕ) → i < M.legs → M.repeated i ≡ N.repeated i
  pub σ : (i x : ℕ) → i ≤ M.legs → T (M.context x) → M.σ i x ≡ N.σ i x
  pub σe : (x : ℕ) → T (M.context x) → M.σe x ≡ N.σe x
  pub γ : (i x e y : ℕ) → i < M.legs → T (M.flow_by x e y) → M.γ i e ≡ N.γ i e
  pub γe : (x e y : ℕ) → T (M.flow_by x e y) → M.γe e ≡ N.γe e
