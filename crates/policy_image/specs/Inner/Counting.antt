-- A policy in which fewer allow records count.
use Rattle.std.specs.Prelude.{ℕ, Bool, ◌&&◌}
use Rattle.policy_image.specs.Policy.{Policy}

-- the policy p in which an allow record counts where it did and f is true of its number; all else is as it was
abbrev pub counting : (ℕ → Bool) → Policy → Policy
counting f p =
    record {
      counts = p.counts;
      size = p.size;
      head = p.head;
      rec = p.rec;
      counted = λ i. p.counted i && f i;
    }
