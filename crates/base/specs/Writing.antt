-- Numbers as the bytes that are written for them: "multi-byte numbers are little-endian, unsigned" (paper 01). `u16_at` and `u32_at`
-- of Bytes.antt read them back.
use Rattle.std.specs.Prelude.{ℕ, zero, suc, ◌/◌, ◌%◌, List, [], ◌∷◌, ◌++◌}

-- the two low bytes of n, the low one first
abbrev pub low16 : ℕ → List ℕ
low16 n = n % 256 ∷ n / 256 % 256 ∷ []

-- the four low bytes of n
abbrev pub low32 : ℕ → List ℕ
low32 n = low16 n ++ low16 (n / 65536)

-- f 1 to f n, one after the other
abbrev pub list_upto : (ℕ → List ℕ) → ℕ → List ℕ
list_upto f zero = []
list_upto f (suc n) = list_upto f n ++ f (suc n)
