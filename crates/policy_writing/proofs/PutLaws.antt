-- What a few bytes written one behind the other make of a slice.
use Prim.Native.Nat.{ℕ, zero, suc, ◌+◌, ◌≤◌, ◌<◌}
use mathlib.Core.Path.{◌≡◌, refl, subst}
use mathlib.Core.List.{List}
use native.Mathlib.Omega.{arith}
use lib.ListN.{length, set, length-set}
use Rattle.base.specs.Bytes.{byte_at}
use Rattle.base.specs.Inner.Fill.{Filled}
use Rattle.base.specs.Writing.{low16, low32}
use Rattle.base.proofs.FillLaws.{fill_first, fill_more, fill_map, fill_then}
use Rattle.policy_image.specs.declared.counts.Counts.{Counts}
use Rattle.policy_image.specs.declared.records.Record.{Record}
use Rattle.policy_image.specs.Encoding.{count_bytes, record_bytes}
use Rattle.policy_image.specs.Inner.Sizes.{stride}

module _ (P : ℕ → ℕ → Type 0) {old : List ℕ} {at a b : ℕ} where
  pub put_two : at + 2 ≤ length old → P 0 a → P 1 b → Filled P old (set (set old at a) (at + 1) b) at 0 2
  put_two h x y = fill_more P (fill_first P (omega arith) x) (omega arith) (simp length-set (omega arith)) y

  pub put_four : {c d : ℕ} → at + 4 ≤ length old → P 0 a → P 1 b → P 2 c → P 3 d
      → Filled P old (set (set (set (set old at a) (at + 1) b) (at + 2) c) (at + 3) d) at 0 4
  put_four h x y z w =
      fill_more P (fill_more P (put_two (omega arith) x y) (omega arith) (simp length-set (omega arith)) z) (omega arith) (simp length-set (omega arith)) w

  pub put_six : {c d e f : ℕ} → at + 6 ≤ length old → P 0 a → P 1 b → P 2 c → P 3 d → P 4 e → P 5 f
      → Filled P old (set (set (set (set (set (set old at a) (at + 1) b) (at + 2) c) (at + 3) d) (at + 4) e) (at + 5) f) at 0 6
  put_six h x y z w u v =
      fill_more P (fill_more P (put_four (omega arith) x y z w) (omega arith) (simp length-set (omega arith)) u) (omega arith) (simp length-set (omega arith)) v

-- the number of records behind the four counts
pub counts_put : (c : Counts) {old mid new : List ℕ} → Filled (λ j v. v ≡ byte_at (count_bytes c) j) old mid 0 0 4
    → Filled (λ j v. v ≡ byte_at (low16 c.records) j) mid new 4 0 2 → Filled (λ j v. v ≡ byte_at (count_bytes c) j) old new 0 0 6
unfolding count_bytes
counts_put c F G = fill_then (λ j v. v ≡ byte_at (count_bytes c) j) F G refl (omega arith) means
  where
    means : (j v : ℕ) → j < 2 → v ≡ byte_at (low16 c.records) j → v ≡ byte_at (count_bytes c) (4 + j)
    means zero v h e = e
    means (suc zero) v h e = e
    means (suc (suc j)) v h e = absurd (omega arith)

-- a record's next, its bytes, its mask
pub record_put : (r : Record) {old mid late new : List ℕ} {at place : ℕ} → at ≡ place → Filled (λ j v. v ≡ byte_at (low16 r.next) j) old mid at 0 2
    → Filled (λ j v. v ≡ byte_at (record_bytes r) (2 + j)) mid late (at + 2) 0 6 → Filled (λ j v. v ≡ byte_at (low32 r.mask) j) late new (at + 8) 0 4
    → Filled (λ j v. v ≡ byte_at (record_bytes r) j) old new place 0 stride
unfolding record_bytes stride
record_put r {old} {new} e F G H =
    subst (λ (x : ℕ). Filled (λ j v. v ≡ byte_at (record_bytes r) j) old new x 0 stride) e
    (fill_then _ (fill_then _ (fill_map next F) G refl (omega arith) (λ j v h q. q)) H refl (omega arith) mask)
  where
    next : (j v : ℕ) → j < 2 → v ≡ byte_at (low16 r.next) j → v ≡ byte_at (record_bytes r) j
    next zero v h e = e
    next (suc zero) v h e = e
    next (suc (suc j)) v h e = absurd (omega arith)

    mask : (j v : ℕ) → j < 4 → v ≡ byte_at (low32 r.mask) j → v ≡ byte_at (record_bytes r) (8 + j)
    mask zero v h e = e
    mask (suc zero) v h e = e
    mask (suc (suc zero)) v h e = e
    mask (suc (suc (suc zero))) v h e = e
    mask (suc (suc (suc (suc j)))) v h e = absurd (omega arith)
