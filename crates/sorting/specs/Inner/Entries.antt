-- Items with the same code become one entry: the entries' codes, which are keys that rise, and their masks.
use Rattle.std.specs.Prelude.{◌≡◌, true, List, ℕ, ◌+◌, ◌≤◌, ◌<◌, get_or}
use Rattle.base.specs.Bits.{bit}

-- the code of each item
abbrev pub code_in : List ℕ → ℕ → ℕ
code_in codes x = get_or codes x 0

-- one of the first n items has the code k
pub record HasCode (code : ℕ → ℕ) (n k : ℕ) : Type 0 where
  pub at : ℕ
  pub below : at < n
  pub same : code at ≡ k

-- one of the first n items has the code k and gives the bit q
pub record Gives (code give : ℕ → ℕ) (n k q : ℕ) : Type 0 where
  pub at : ℕ
  pub below : at < n
  pub same : code at ≡ k
  pub bears : bit (give at) q ≡ true

-- an entry of the block lo .. hi has the key k, and its mask the bit q
pub record Bears (keys masks : List ℕ) (lo hi k q : ℕ) : Type 0 where
  pub place : ℕ
  pub low : lo ≤ place
  pub high : place < hi
  pub key : get_or keys place 0 ≡ k
  pub bears : bit (get_or masks place 0) q ≡ true

-- the keys of the block rise, so that each stands there once
pub record RisingKeys (keys : List ℕ) (lo hi : ℕ) : Type 0 where
  pub rising : (i j : ℕ) → lo ≤ i → i < j → j < hi → get_or keys i 0 < get_or keys j 0

-- the m keys rise, and none is above the code
pub record CodesRise (keys : List ℕ) (m code : ℕ) : Type 0 where
  pub sorted : RisingKeys keys 0 m
  pub most : (j : ℕ) → j < m → get_or keys j 0 ≤ code

-- r is the place of the last of m entries, which has the code, or the next, and all before it have a smaller one
pub record Placed (keys : List ℕ) (m code r : ℕ) : Type 0 where
  pub low : m ≤ r + 1
  pub high : r ≤ m
  pub same : r < m → get_or keys r 0 ≡ code
  pub below : (j : ℕ) → j < r → get_or keys j 0 < code

-- the m entries have the codes of the first n items, each once and rising
pub record EntryKeys (code : ℕ → ℕ) (n : ℕ) (keys : List ℕ) (m : ℕ) : Type 0 where
  pub few : m ≤ n
  pub sorted : RisingKeys keys 0 m
  pub coded : (j : ℕ) → j < m → HasCode code n (get_or keys j 0)
  pub every : (x : ℕ) → x < n → HasCode (code_in keys) m (code x)

-- their masks have just what the first n items give, each at its code
pub record Unites (code give : ℕ → ℕ) (n : ℕ) (keys masks : List ℕ) (m : ℕ) : Type 0 where
  pub sound : (k q : ℕ) → Bears keys masks 0 m k q → Gives code give n k q
  pub whole : (k q : ℕ) → Gives code give n k q → Bears keys masks 0 m k q
