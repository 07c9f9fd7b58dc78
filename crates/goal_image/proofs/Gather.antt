-- The loop that gathers the answers of the fifteen chains as bits: bit h for chain h.
use Prim.Native.Nat.{ℕ, ◌+◌, ◌*◌, ◌^◌, ◌%◌, ◌≤◌, ◌<◌}
use mathlib.Core.Bool.{Bool, true, false, ◌&&◌, ◌||◌, and_comm}
use mathlib.Core.Logic.{⊎_elim}
use mathlib.Core.Path.{◌≡◌, refl, sym, ap, ap₂, subst, ◌∙◌}
use native.Mathlib.Omega.{arith}
use lib.Dec.{eqb, ltb}
use lib.Bits.{bit_or}
use borrow.Author.Tests.{lt-ltb, le-ltb, eq-eqb, ne_eqb}
use Rattle.base.specs.Bits.{bit}
use Rattle.base.proofs.BitLaws.{bit_zero, with_law}
use Rattle.base.proofs.Numbers.{split_eq, split_le}
use Rattle.base.proofs.BoolLaws.{true_or_false, or_none, and_no}

-- the mask has the answers of the chains below h
abbrev pub Gathered : (ℕ → Bool) → ℕ → ℕ → Type 0
Gathered f h m = (j : ℕ) → bit m j ≡ (ltb j h && f j)

module _ (f : ℕ → Bool) where
  -- none of the first chains
  pub gathered_start : (h : ℕ) → ((j : ℕ) → j < h → f j ≡ false) → Gathered f h 0
  gathered_start h none j =
      bit_zero j
      ∙ sym (⊎_elim (λ a. rw (le-ltb j h a)) (λ a. and_no (ltb j h) (f j) (none j a)) (split_le h j))

  module _ (h m : ℕ) (w : Gathered f h m) (m' : ℕ) where
    -- below h + 1 is below h or h itself
    more : (j : ℕ) → (ltb j (h + 1) && f j) ≡ ((ltb j h && f j) || (eqb h j && f h))
    more j =
        ⊎_elim
        (λ e. subst (λ (k : ℕ). (ltb k (h + 1) && f k) ≡ ((ltb k h && f k) || (eqb h k && f h))) e
        (rw (lt-ltb h (h + 1) (omega arith), le-ltb h h (omega arith), eq-eqb h h refl)))
        (λ n. rw (ne_eqb h j n)
        (⊎_elim
        (λ a. rw (le-ltb j h (omega arith), le-ltb j (h + 1) (omega arith)))
        (λ a. rw (lt-ltb j h (omega arith), lt-ltb j (h + 1) (omega arith)) (sym (or_none (f j) false refl)))
        (split_le h j)))
        (split_eq h j)

    -- with the bit of chain h where its answer is yes
    pub gathered_more : {yes : Bool} → yes ≡ f h → ((j : ℕ) → bit m' j ≡ (bit m j || (yes && eqb h j))) → Gathered f (h + 1) m'
    gathered_more {yes} e q j = q j ∙ ap₂ ◌||◌ (w j) (and_comm yes (eqb h j) ∙ ap (λ (t : Bool). eqb h j && t) e) ∙ sym (more j)

    -- as the code writes it, `1 << h`
    pub gathered_join : h < 32 → {yes : Bool} → yes ≡ f h → yes ≡ true → m' ≡ bit_or m (1 * 2 ^ h % 2 ^ 32) → Gathered f (h + 1) m'
    gathered_join b e y q = gathered_more {yes = true} (sym y ∙ e) (λ j. ap (λ (x : ℕ). bit x j) q ∙ (with_law m h b).at j)

    pub gathered_pass : {yes : Bool} → yes ≡ f h → yes ≡ false → m' ≡ m → Gathered f (h + 1) m'
    gathered_pass e y q = gathered_more {yes = false} (sym y ∙ e) (λ j. ap (λ (x : ℕ). bit x j) q ∙ sym (or_none (bit m j) false refl))

  -- all chains asked
  pub gathered_end : (h m : ℕ) → 15 ≤ h → Gathered f h m → ((j : ℕ) → f j ≡ true → j < 15) → (j : ℕ) → bit m j ≡ f j
  gathered_end h m l w below j =
      ⊎_elim (λ e. let b = below j e in w j ∙ ap (λ (t : Bool). t && f j) (lt-ltb j h (omega arith)))
      (λ e. w j ∙ and_no (ltb j h) (f j) e ∙ sym e)
      (true_or_false (f j))
