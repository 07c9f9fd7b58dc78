-- Laws of the layout that proofs cite, so that no proof above this layer speaks of offsets.
use Prim.Native.Nat.{ℕ, ◌+◌, ◌≤◌, ◌<◌}
use mathlib.Core.Path.{◌≡◌, refl}
use mathlib.Core.List.{List, []}
use native.Mathlib.Omega.{arith}
use lib.ListN.{length, take, drop, length-take, length-drop}
use borrow.Author.Tests.{le-leb, lt-leb}
use Rattle.base.specs.Bytes.{byte_at, u16_at}
use Rattle.chains.specs.declared.Shape.{Shape}
use Rattle.chains.specs.Inner.Links.{head_in, next_in, ShapeOf}
use Rattle.policy_image.specs.Layout.{PolicyExact, record_count, policy_head, record_start, record_of, payload_of, decoded, left_of, right_of}
use Rattle.policy_image.specs.Policy.{policy_of, policy_links}

-- where the heads and the links of n records stand
abbrev policy_shape : ℕ → Shape
policy_shape n = record { heads = 4; first = 1; end = 10; records = 24; stride = 12; count = n }

pub policy_shape_lem : (s : List ℕ) (n : ℕ) → PolicyExact s → n ≡ record_count s → ShapeOf s (policy_links (policy_of s)) 1 10 (policy_shape n)
unfolding head_in next_in policy_head record_of decoded
policy_shape_lem s n e q =
    record {
      fits = record { few = omega arith; heads = omega arith; linked = omega arith; records = omega arith };
      links = rw q;
      first = refl;
      end = refl;
    }

-- the ten bytes, where record k is there
pub payload_there : (s : List ℕ) (k : ℕ) → 1 ≤ k → k ≤ 4095 → record_start k + 12 ≤ length s → payload_of s k ≡ take 10 (drop (record_start k + 2) s)
unfolding payload_of
payload_there s k a b e = simp (le-leb 1 k a, le-leb k 4095 b, le-leb (record_start k + 12) (length s) e)

-- none, where it is not
pub payload_low : (s : List ℕ) (k : ℕ) → k < 1 → payload_of s k ≡ []
unfolding payload_of
payload_low s k a = simp (lt-leb 1 k a)

pub payload_high : (s : List ℕ) (k : ℕ) → 1 ≤ k → 4095 < k → payload_of s k ≡ []
unfolding payload_of
payload_high s k a b = simp (le-leb 1 k a, lt-leb k 4095 b)

pub payload_short : (s : List ℕ) (k : ℕ) → 1 ≤ k → k ≤ 4095 → length s < record_start k + 12 → payload_of s k ≡ []
unfolding payload_of
payload_short s k a b e = simp (le-leb 1 k a, le-leb k 4095 b, lt-leb (record_start k + 12) (length s) e)

pub payload_length : (s : List ℕ) (k : ℕ) → PolicyExact s → 1 ≤ k → k ≤ record_count s → length (payload_of s k) ≡ 10
payload_length s k e l h =
    let f = e.few in
    let x = e.exact in
    rw (payload_there s k l (omega arith) (omega arith)) (simp (length-take, length-drop) (omega arith))

-- record k, by its link and the rest
pub record_whole : (s : List ℕ) (k n : ℕ) (p : List ℕ) → n ≡ (record_of s k).next → p ≡ payload_of s k → decoded n p ≡ record_of s k
unfolding record_of decoded
record_whole s k n p e q = cc

-- left is the number in bytes 8–9 of a record and right that in bytes 10–11: bytes 6 and 8 of what follows the link
pub left_bytes : (n : ℕ) (p : List ℕ) → byte_at p 6 < 256 → byte_at p 7 < 256 → left_of (decoded n p) ≡ u16_at p 6
unfolding decoded
left_bytes n p a b = omega arith

pub right_bytes : (n : ℕ) (p : List ℕ) → byte_at p 6 < 256 → byte_at p 7 < 256 → right_of (decoded n p) ≡ u16_at p 8
unfolding decoded
right_bytes n p a b = omega arith
