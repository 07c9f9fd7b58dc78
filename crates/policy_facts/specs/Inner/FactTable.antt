-- The facts of a policy as a table of keys and masks: a key has the kind above a, b and c.
use Rattle.std.specs.Prelude.{ℕ, ◌+◌, ◌*◌, ◌/◌, ◌%◌, ◌<◌, ◌≡◌, true, List, get_or}
use Rattle.base.specs.Ranges.{Within}
use Rattle.policy_image.specs.declared.records.Record.{Record}
use Rattle.policy_image.specs.Policy.{Policy}
use Rattle.policy_facts.specs.Facts.{united_mask, is_written}
use Rattle.policy_facts.specs.Canonical.{key_a, key_b, key_c, key_numbers}

-- the key of a, b and c of kind k, and what a key is made of
abbrev pub fact_key : ℕ → ℕ → ℕ → ℕ → ℕ
fact_key k a b c = 16777216 * k + (65536 * a + (256 * b + c))

abbrev pub kind_in : ℕ → ℕ
kind_in key = key / 16777216

abbrev pub number_in : ℕ → ℕ
number_in key = key % 16777216

-- the record of a key and a mask
abbrev pub table_record : ℕ → ℕ → Record
table_record key mask =
    record {
      next = 0;
      kind = kind_in key;
      a = key_a (number_in key);
      b = key_b (number_in key);
      c = key_c (number_in key);
      d = 0;
      e = 0;
      mask = mask;
    }

-- whether key number x of kind k is written
abbrev pub Written : Policy → ℕ → ℕ → Type 0
Written p k x = is_written p k (key_a x) (key_b x) (key_c x) ≡ true

-- a key and its mask are what is written for it
pub record Entry (p : Policy) (key mask : ℕ) : Type 0 where
  pub kind : Within 1 7 (kind_in key)
  pub written : Written p (kind_in key) (number_in key)
  pub united : mask ≡ united_mask p (kind_in key) (key_a (number_in key)) (key_b (number_in key)) (key_c (number_in key))

-- key number x of kind k stands among the first m keys
pub record KeyStands (keys : List ℕ) (m k x : ℕ) : Type 0 where
  pub at : ℕ
  pub low : at < m
  pub same : get_or keys at 0 ≡ 16777216 * k + x

-- the first m keys, and the masks at the same places, are all that is written of kinds 1 to 7, in turn
pub record FactTable (p : Policy) (keys masks : List ℕ) (m : ℕ) : Type 0 where
  pub rising : (i j : ℕ) → i < j → j < m → get_or keys i 0 < get_or keys j 0
  pub entry : (i : ℕ) → i < m → Entry p (get_or keys i 0) (get_or masks i 0)
  pub every : (k x : ℕ) → Within 1 7 k → x < key_numbers → Written p k x → KeyStands keys m k x
