-- A node that is no end has a state below 2 ^ n, so 2 ^ n states for each context are enough (decision D38).
use mathlib.Core.Path.{◌≡◌, refl}
use mathlib.Core.Bool.{◌&&◌}
use mathlib.Core.Logic.{◌⊎◌, inl, inr}
use Prim.Native.Nat.{ℕ, zero, suc, ◌^◌, ◌<◌}
use native.Mathlib.Nat.{not-suc-le-zero, pow-suc}
use native.Mathlib.Omega.{arith}
use lib.Dec.{T, ltb→lt}
use lib.Pow.{pow_pos}
use Rattle.base.specs.Bits.{bit}
use Rattle.paths.specs.Model.{Model}
use Rattle.paths.proofs.Any.{or_cases, and_T, not_true}
use Rattle.paths.proofs.Numbers.{pack_lt, pack_top}
use Rattle.paths.specs.Inner.Monitor.{Reach, begin, more}
use Rattle.paths.specs.Inner.Monitors.{goes, enters, opens, tracker_n, stager_n}

module _ (M : Model) where
  open M use {legs, σ, repeated}

  pub order_small : {d x N : ℕ} → Reach M (tracker_n M) d x N → N < 2 ^ legs
  order_small (begin p) = pack_lt legs _
  order_small (more e y r g) = pack_lt legs _

  -- stage n is entered in σn alone
  pub top : (N e y i : ℕ) → i ≡ legs → T (opens M (bit N) e y i) → T (σ i y)
  top N e y i q t = go i q (or_cases (goes M (bit N) e i && repeated i) (enters M (bit N) e y i) t)
    where
      go : (i : ℕ) → i ≡ legs → T (goes M (bit N) e i && repeated i) ⊎ T (enters M (bit N) e y i) → T (σ i y)
      go i q (inl u) = let ((h, w), r) = simp and_T at u in absurd (omega (arith, ltb→lt i legs h))
      go zero q (inr u) = absurd u
      go (suc i) q (inr u) = let (w, s) = simp and_T at u in s

  pub one_lt : (n : ℕ) → 0 < n → 1 < 2 ^ n
  one_lt zero h = absurd (not-suc-le-zero h)
  one_lt (suc n) h = omega (arith, pow-suc 2 n, pow_pos n)

  pub events_small : 0 < legs → {d x N : ℕ} → Reach M (stager_n M) d x N → ¬ T (σ legs x) → N < 2 ^ legs
  events_small h (begin p) k = one_lt legs h
  events_small h (more {s = N} e y r g) k =
      pack_top legs (opens M (bit N) e y) (not_true (opens M (bit N) e y legs) (λ t. k (top N e y legs refl t)))
