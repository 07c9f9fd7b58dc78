-- "A canonical policy image" (paper 02, e): the canonical policy of p, by what its records are.
use Rattle.std.specs.Prelude.{ℕ, zero, suc, ◌+◌, ◌*◌, ◌/◌, ◌%◌, cond, List, [], ◌∷◌, ◌++◌, map, leb, length}
use Rattle.policy_image.specs.declared.records.Record.{Record}
use Rattle.policy_image.specs.Policy.{Policy}
use Rattle.policy_lists.specs.Lists.{kind_list, policy_from}
use Rattle.policy_lists.specs.Joined.{nodes_upto, kinds_upto, renumbered}
use Rattle.policy_facts.specs.Facts.{united_mask, is_written}

-- ---- "Kinds 1 to 7 are sorted by a, b, c": a key is one number, in which a counts before b, and b before c
abbrev pub key_a : ℕ → ℕ
key_a x = x / 65536

abbrev pub key_b : ℕ → ℕ
key_b x = x / 256 % 256

abbrev pub key_c : ℕ → ℕ
key_c x = x % 256

-- the numbers below it are the keys whose a, b and c are bytes
abbrev pub key_numbers : ℕ
key_numbers = 256 * 256 * 256

-- the record of a key
abbrev pub fact_record : Policy → ℕ → ℕ → Record
fact_record p k x =
    record {
      next = 0;
      kind = k;
      a = key_a x;
      b = key_b x;
      c = key_c x;
      d = 0;
      e = 0;
      mask = united_mask p k (key_a x) (key_b x) (key_c x);
    }

-- it, where it is written, else nothing
abbrev pub fact_at : Policy → ℕ → ℕ → List Record
fact_at p k x = cond (is_written p k (key_a x) (key_b x) (key_c x)) (fact_record p k x ∷ []) []

-- those of the keys below n, each "once", in turn
unfoldable pub facts_below : Policy → ℕ → ℕ → List Record
facts_below p k zero = []
facts_below p k (suc n) = facts_below p k n ++ fact_at p k n

abbrev pub fact_kind : Policy → ℕ → List Record
fact_kind p k = facts_below p k key_numbers

-- ---- "Kinds 8 and 9 keep their order, with root, left and right renumbered"
-- the nodes stand behind the records of all other kinds
abbrev pub canonical_node : Policy → ℕ → ℕ
canonical_node p n = length (kinds_upto (fact_kind p) 7) + length (kind_list p 8) + nodes_upto p n

-- ---- "records by kind from 1 to 9, each kind consecutive and linked in turn"
abbrev pub canonical_kind : Policy → ℕ → List Record
canonical_kind p k = cond (leb k 7) (fact_kind p k) (map (renumbered (canonical_node p)) (kind_list p k))

abbrev pub canonical_list : Policy → List Record
canonical_list p = kinds_upto (canonical_kind p) 9

abbrev pub canonical_of : Policy → Policy
canonical_of p = policy_from p.counts (canonical_list p)
