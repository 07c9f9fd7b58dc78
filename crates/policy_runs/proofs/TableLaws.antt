-- The tables by kinds, filled kind by kind.
use Prim.Native.Nat.{ℕ, zero, suc, ◌+◌, ◌*◌, ◌-◌, ◌≤◌, ◌<◌}
use mathlib.Core.Path.{◌≡◌, sym, ap, ◌∙◌}
use mathlib.Core.List.{List}
use mathlib.Core.Logic.{⊎_elim}
use native.Mathlib.Omega.{arith}
use lib.ListN.{length, get_or, set, replicate}
use lib.Seq.{get_or-set_same, get_or-set_other}
use Rattle.base.proofs.Numbers.{split_eq, zeros}
use Rattle.policy_lists.specs.Inner.Places.{next_upto}
use Rattle.policy_runs.specs.Inner.Tables.{sum_upto, Summed, FewOfEach}

-- an entry that is set, and the others
module _ (t : List ℕ) (k v : ℕ) (room : k < length t) where
  set_here : {j : ℕ} → j ≡ k → get_or (set t k v) j 0 ≡ v
  set_here q = ap (λ (i : ℕ). get_or (set t k v) i 0) q ∙ get_or-set_same t k v 0 room

  set_there : {j : ℕ} → (j ≡ k → ⊥) → get_or (set t k v) j 0 ≡ get_or t j 0
  set_there {j} d = get_or-set_other t k j v 0 d

-- ---- sums
module _ (f : ℕ → ℕ) where
  pub summed_start : Summed f (replicate 10 0) 0
  summed_start k h = zeros 10 k ∙ ap (sum_upto f) (let e : 0 ≡ k = omega arith in e)

  pub summed_more : (t : List ℕ) (k v : ℕ) → 1 ≤ k → k < length t → Summed f t (k - 1) → v ≡ get_or t (k - 1) 0 + f k → Summed f (set t k v) (k + 1 - 1)
  summed_more t k v low room S e j h =
      ⊎_elim
      (λ (q : j ≡ k). set_here t k v room q ∙ e ∙ ap (λ (x : ℕ). x + f k) (S (k - 1) (omega arith))
      ∙ ap (λ (i : ℕ). sum_upto f (k - 1) + f i) (let n : k ≡ suc (k - 1) = omega arith in n) ∙ ap (sum_upto f) (let n : suc (k - 1) ≡ j = omega arith in n))
      (λ (d : j ≡ k → ⊥). set_there t k v room d ∙ S j (omega (arith, h, d, low)))
      (split_eq j k)

  pub sums_few : ((k : ℕ) → 1 ≤ k → k ≤ 9 → f k ≤ 8190) → (n : ℕ) → n ≤ 9 → sum_upto f n ≤ 8190 * n
  sums_few few zero h = omega arith
  sums_few few (suc n) h = let a = sums_few few n (omega arith) in let b = few (suc n) (omega arith) (omega arith) in omega arith

-- two tables added
abbrev pub added_up : List ℕ → List ℕ → ℕ → ℕ
added_up a b k = get_or a k 0 + get_or b k 0

pub added_few : {a b : List ℕ} → FewOfEach a b → (k : ℕ) → 1 ≤ k → k ≤ 9 → added_up a b k ≤ 8190
added_few F k l h = let x = F.first k l h in let y = F.second k l h in omega arith

-- ---- heads
-- the heads of kinds below k are there
abbrev pub HeadsTo : List ℕ → List ℕ → ℕ → Type 0
HeadsTo t h k = (j : ℕ) → 1 ≤ j → j < k → get_or h j 0 ≡ next_upto (get_or t j 0) (get_or t (j - 1) 0)

pub heads_more : (t h : List ℕ) (k v : ℕ) → k < length h → HeadsTo t h k → v ≡ next_upto (get_or t k 0) (get_or t (k - 1) 0) → HeadsTo t (set h k v) (k + 1)
heads_more t h k v room H e j low high =
    ⊎_elim
    (λ (q : j ≡ k). set_here h k v room q ∙ e ∙ ap (λ (i : ℕ). next_upto (get_or t i 0) (get_or t (i - 1) 0)) (sym q))
    (λ (d : j ≡ k → ⊥). set_there h k v room d ∙ H j low (omega (arith, high, d)))
    (split_eq j k)
