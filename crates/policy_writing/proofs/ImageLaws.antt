-- An image is written part by part from its first byte on: the counts, the heads, and behind them the records.
use Prim.Native.Nat.{ℕ, suc, ◌+◌, ◌*◌, ◌-◌, ◌≤◌, ◌<◌}
use mathlib.Core.Path.{◌≡◌, refl, sym, subst, ap, ◌∙◌}
use mathlib.Core.List.{List, ◌++◌}
use native.Mathlib.Omega.{arith}
use lib.ListN.{length, drop, length-append, length-drop, get_or-append}
use lib.Seq.{ext_get_or, get_or-append-add, get_or-drop}
use mathlib.Core.Logic.{⊎_elim}
use Rattle.base.specs.Bytes.{byte_at}
use Rattle.base.specs.Ranges.{Within}
use Rattle.base.specs.Inner.Fill.{Filled}
use Rattle.base.specs.Writing.{low16, list_upto}
use Rattle.base.proofs.Numbers.{split_le}
use Rattle.base.proofs.WritingLaws.{list_at}
use Rattle.base.proofs.FillLaws.{fill_map, fill_then, fill_end}
use Rattle.policy_image.specs.declared.counts.Counts.{Counts}
use Rattle.policy_image.specs.Policy.{Policy}
use Rattle.policy_image.specs.Encoding.{count_bytes, header_bytes, image_of}
use Rattle.policy_image.specs.Inner.Sizes.{header_size, image_size}
use Rattle.policy_image.specs.Inner.Writable.{head_start}
use Rattle.policy_image.proofs.EncodingLaws.{header_at, image_length}

-- nine heads, one behind the other
abbrev pub head_list : (ℕ → ℕ) → List ℕ
head_list h = list_upto (λ k. low16 (h k)) 9

-- the head of kind k comes next
pub heads_more : (h : ℕ → ℕ) (k : ℕ) {old mid new : List ℕ} → Within 1 9 k → Filled (λ j v. v ≡ byte_at (head_list h) j) old mid 6 0 (2 * (k - 1))
    → Filled (λ j v. v ≡ byte_at (low16 (h k)) j) mid new (head_start k) 0 2 → Filled (λ j v. v ≡ byte_at (head_list h) j) old new 6 0 (2 * (k + 1 - 1))
heads_more h k w F G = fill_end (fill_then _ F G (omega (arith, w.low)) (omega arith) means) (omega (arith, w.low))
  where
    means : (j v : ℕ) → j < 2 → v ≡ byte_at (low16 (h k)) j → v ≡ byte_at (head_list h) (2 * (k - 1) + j)
    means j v b e =
        e ∙ ap (λ (i : ℕ). byte_at (low16 (h i)) j) (let q : k ≡ suc (k - 1) = omega (arith, w.low) in q)
        ∙ sym (list_at (λ i. low16 (h i)) 2 (λ i. refl) 9 (k - 1) j (omega (arith, w.high)) b)

-- the heads behind the counts
pub header_done : (c : Counts) (h : ℕ → ℕ) {old mid new : List ℕ} → Filled (λ j v. v ≡ byte_at (count_bytes c) j) old mid 0 0 6
    → Filled (λ j v. v ≡ byte_at (head_list h) j) mid new 6 0 18 → Filled (λ j v. v ≡ byte_at (header_bytes c h) j) old new 0 0 header_size
unfolding header_bytes count_bytes header_size
header_done c h F G =
    fill_then _ (fill_map (λ j v b e. e ∙ sym (get_or-append (count_bytes c) (head_list h) 0 j b)) F) G refl (omega arith)
    (λ j v b e. e ∙ sym (get_or-append-add (count_bytes c) (head_list h) j 0))

module _ (p : Policy) where
  -- the header begins an image
  pub image_begun : {old new : List ℕ} → Filled (λ j v. v ≡ byte_at (header_bytes p.counts p.head) j) old new 0 0 header_size
      → Filled (λ j v. v ≡ byte_at (image_of p) j) old new 0 0 header_size
  image_begun F = fill_map (λ j v b e. e ∙ sym (header_at p j b)) F

  -- behind the last record nothing has changed
  pub image_done : {old new : List ℕ} → length new ≡ length old → image_size p.size ≤ length old → Filled (λ j v. v ≡ byte_at (image_of p) j) old new 0 0 (image_size p.size)
      → new ≡ image_of p ++ drop (image_size p.size) old
  image_done {old} {new} same room F =
      ext_get_or 0 new (image_of p ++ drop n old)
      (same ∙ sym (length-append (image_of p) (drop n old) ∙ simp (image_length p, length-drop) (omega arith)))
      (λ i h. ⊎_elim
      (λ (l : n ≤ i). F.above i (omega arith) ∙ behind i l)
      (λ (l : i < n). subst (λ (k : ℕ). byte_at new k ≡ byte_at (image_of p) i) (let q : 0 + i ≡ i = omega arith in q) (F.here i (omega arith) l)
      ∙ sym (get_or-append (image_of p) (drop n old) 0 i (omega (arith, image_length p))))
      (split_le n i))
    where
      n : ℕ
      n = image_size p.size

      behind : (i : ℕ) → n ≤ i → byte_at old i ≡ byte_at (image_of p ++ drop n old) i
      behind i l =
          sym (ap (byte_at (image_of p ++ drop n old)) (let q : i ≡ length (image_of p) + (i - n) = omega (arith, image_length p) in q)
          ∙ get_or-append-add (image_of p) (drop n old) (i - n) 0 ∙ get_or-drop n old (i - n) 0 ∙ ap (byte_at old) (let q : n + (i - n) ≡ i = omega arith in q))
