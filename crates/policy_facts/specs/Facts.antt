-- The facts of a policy: what its records of kinds 1 to 7 say, as written (paper 02, e). A fact of kind 1, 5, 6 or 7 is a key (a, b, c)
-- that some record has; a fact of kind 2, 3 or 4 is such a key with one permission. Fields that a kind does not use are 0.
use Rattle.std.specs.Prelude.{ℕ, zero, suc, ◌+◌, ◌^◌, Bool, not, ◌&&◌, ◌||◌, cond, eqb, leb}
use Rattle.base.specs.Bits.{bit}
use Rattle.policy_image.specs.declared.records.Record.{Record}
use Rattle.policy_image.specs.Policy.{Policy}
use Rattle.policy_image.specs.OfKind.{some}

-- whether a record says b: "as written", 0 of an allow record being "a key of its own", and "flow's 3 being 1 and 2"
abbrev pub says_b : Record → ℕ → Bool
says_b r b = cond (eqb r.kind 3 && eqb r.b 3) (eqb b 1 || eqb b 2) (eqb r.b b)

abbrev pub has_key : ℕ → ℕ → ℕ → Record → Bool
has_key a b c r = eqb r.a a && (says_b r b && eqb r.c c)

-- whether some record of kind k has the key
unfoldable pub is_stated : Policy → ℕ → ℕ → ℕ → ℕ → Bool
is_stated p k a b c = some p k (has_key a b c)

-- "masks bit by bit": whether one has it with permission i
unfoldable pub permits : Policy → ℕ → ℕ → ℕ → ℕ → ℕ → Bool
permits p k a b c i = some p k (λ r. has_key a b c r && bit r.mask i)

-- ---- what is written for a key
-- the number whose bits below n are those that f says
unfoldable pub mask_of : (ℕ → Bool) → ℕ → ℕ
mask_of f zero = 0
mask_of f (suc n) = mask_of f n + cond (f n) (2 ^ n) 0

-- "Masks of equal keys are united"
abbrev pub united_mask : Policy → ℕ → ℕ → ℕ → ℕ → ℕ
united_mask p k a b c = mask_of (permits p k a b c) 32

-- "records that carry an empty mask dropped (kinds 2, 3, 4)"
abbrev pub carries_mask : ℕ → Bool
carries_mask k = leb 2 k && leb k 4

abbrev pub is_written : Policy → ℕ → ℕ → ℕ → ℕ → Bool
is_written p k a b c = cond (carries_mask k) (not (eqb (united_mask p k a b c) 0)) (is_stated p k a b c)
