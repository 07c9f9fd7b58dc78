-- Laws of the sizes of an image. No proof above this layer says how many bytes a header or a record has.
use Prim.Native.Nat.{ℕ, suc, ◌+◌, ◌*◌, ◌/◌, ◌%◌, ◌≤◌, ◌<◌}
use mathlib.Core.Path.{◌≡◌, refl}
use native.Mathlib.Omega.{arith}
use Rattle.policy_image.specs.Inner.Sizes.{header_size, stride, size_of, start_of, image_size}

-- ---- n records
pub size_none : size_of 0 ≡ 0
unfolding size_of
size_none = refl

pub size_more : (n : ℕ) → size_of (suc n) ≡ size_of n + stride
unfolding size_of stride
size_more n = omega arith

pub size_add : (m n : ℕ) → size_of (m + n) ≡ size_of m + size_of n
unfolding size_of
size_add m n = omega arith

pub size_le : {m n : ℕ} → m ≤ n → size_of m ≤ size_of n
unfolding size_of
size_le h = omega arith

pub size_times : (n : ℕ) → size_of n ≡ stride * n
unfolding size_of stride
size_times n = refl

-- byte x of n records is a byte of one of them
pub record InRecord (n x : ℕ) : Type 0 where
  pub before : ℕ
  pub byte : ℕ
  pub low : before < n
  pub within : byte < stride
  pub same : x ≡ size_of before + byte

pub size_split : (n x : ℕ) → x < size_of n → InRecord n x
unfolding size_of stride
size_split n x h = record { before = x / 12; byte = x % 12; low = omega arith; within = omega arith; same = omega arith }

-- ---- where a record starts, and ends
pub start_size : (n : ℕ) → start_of (suc n) ≡ image_size n
unfolding start_of header_size size_of
start_size n = omega arith

pub start_add : (b n : ℕ) → start_of (suc (b + n)) ≡ start_of (suc b) + size_of n
start_add b n = omega (arith, start_size b, start_size (b + n), size_add b n)

-- record k ends within an image of n records
pub start_room : {k n l : ℕ} → 1 ≤ k → k ≤ n → image_size n ≤ l → start_of k + stride ≤ l
unfolding start_of header_size stride size_of
start_room a b h = omega arith

-- what is written of a record fits its bytes
pub stride_fits : 12 ≤ stride
unfolding stride
stride_fits = omega arith
