-- Laws of numbers as bytes, and of lists of one length that stand one after the other.
use Prim.Native.Nat.{ℕ, zero, suc, ◌+◌, ◌*◌, ◌≤◌, ◌<◌}
use mathlib.Core.Path.{◌≡◌, refl, sym, subst, ap, ap₂, ◌∙◌}
use mathlib.Core.List.{List, [], ◌∷◌, ◌++◌}
use mathlib.Core.Logic.{⊎_elim}
use native.Mathlib.Nat.{add-suc, mul-suc, mul-le-mul_left}
use native.Mathlib.Omega.{arith}
use lib.ListN.{length, take, drop, length-append, get_or-append}
use lib.Seq.{drop-cons, take-add, get_or-append-add}
use Rattle.base.specs.Bytes.{byte_at}
use Rattle.base.specs.Writing.{low16, low32, list_upto}
use Rattle.base.proofs.Numbers.{below_or}

-- the bytes of a number that is made of bytes
pub low16_back : (a b : ℕ) → a < 256 → b < 256 → low16 (a + 256 * b) ≡ a ∷ b ∷ []
low16_back a b x y = ap₂ (λ (m n : ℕ). m ∷ n ∷ []) (omega arith) (omega arith)

pub low32_back : (a b c d : ℕ) → a < 256 → b < 256 → c < 256 → d < 256 → low32 (a + 256 * b + 65536 * (c + 256 * d)) ≡ a ∷ b ∷ c ∷ d ∷ []
low32_back a b c d x y z w =
    ap₂ ◌++◌ (ap₂ (λ (m n : ℕ). m ∷ n ∷ []) (omega arith) (omega arith)) (ap₂ (λ (m n : ℕ). m ∷ n ∷ []) (omega arith) (omega arith))

-- n entries of s, from entry i + j on
abbrev pub entries_from : List ℕ → ℕ → ℕ → ℕ → List ℕ
entries_from s i j zero = []
entries_from s i j (suc n) = byte_at s (i + j) ∷ entries_from s i (suc j) n

pub take_entries : (s : List ℕ) (i j n : ℕ) → i + j + n ≤ length s → take n (drop (i + j) s) ≡ entries_from s i j n
take_entries s i j zero h = refl
take_entries s i j (suc n) h =
    ap (take (suc n)) (drop-cons s (i + j) 0 (omega arith))
    ∙ ap (λ (k : ℕ). byte_at s (i + j) ∷ take n (drop k s)) (sym (add-suc i j))
    ∙ ap (λ (l : List ℕ). byte_at s (i + j) ∷ l) (take_entries s i (suc j) n (omega arith))

module _ (f : ℕ → List ℕ) (w : ℕ) (each : (k : ℕ) → length (f k) ≡ w) where
  pub list_length : (n : ℕ) → length (list_upto f n) ≡ w * n
  list_length zero = omega arith
  list_length (suc n) = length-append (list_upto f n) (f (suc n)) ∙ omega (arith, list_length n, each (suc n), mul-suc w n)

  -- entry j of the list k + 1
  pub list_at : (n k j : ℕ) → k < n → j < w → byte_at (list_upto f n) (w * k + j) ≡ byte_at (f (suc k)) j
  list_at zero k j h l = absurd (omega arith)
  list_at (suc n) k j h l =
      ⊎_elim
      (λ (e : k ≡ n). subst (λ (i : ℕ). byte_at (list_upto f (suc n)) (w * i + j) ≡ byte_at (f (suc i)) j) (sym e) last)
      (λ (m : k < n). get_or-append (list_upto f n) (f (suc n)) 0 (w * k + j) (omega (arith, list_length n, mul-suc w k, mul-le-mul_left w m)) ∙ list_at n k j m l)
      (below_or (omega arith))
    where
      last : byte_at (list_upto f (suc n)) (w * n + j) ≡ byte_at (f (suc n)) j
      last =
          subst (λ (z : ℕ). byte_at (list_upto f n ++ f (suc n)) (z + j) ≡ byte_at (f (suc n)) j) (list_length n)
          (get_or-append-add (list_upto f n) (f (suc n)) j 0)

-- a list that has each of them in its place begins with them
pub list_take : (f : ℕ → List ℕ) (w : ℕ) (s : List ℕ) (n : ℕ) → ((k : ℕ) → k < n → f (suc k) ≡ take w (drop (w * k) s)) → list_upto f n ≡ take (w * n) s
list_take f w s zero h = ap (λ (k : ℕ). take k s) (let e : 0 ≡ w * 0 = omega arith in e)
list_take f w s (suc n) h =
    ap (λ (l : List ℕ). l ++ f (suc n)) (list_take f w s n (λ k l. h k (omega arith)))
    ∙ ap (λ (l : List ℕ). take (w * n) s ++ l) (h n (omega arith))
    ∙ sym (take-add (w * n) w s)
    ∙ ap (λ (k : ℕ). take k s) (sym (mul-suc w n))

-- lists that agree from 1 to n
pub list_same : (f g : ℕ → List ℕ) (n : ℕ) → ((k : ℕ) → 1 ≤ k → k ≤ n → f k ≡ g k) → list_upto f n ≡ list_upto g n
list_same f g zero h = refl
list_same f g (suc n) h = ap₂ ◌++◌ (list_same f g n (λ k a b. h k a (omega arith))) (h (suc n) (omega arith) (omega arith))
