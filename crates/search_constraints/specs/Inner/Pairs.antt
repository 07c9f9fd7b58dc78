-- The pairs of a role and a user as words, and what the nodes of a policy tell apart.
use Rattle.std.specs.Prelude.{ℕ, ◌+◌, ◌*◌, ◌/◌, ◌%◌, ◌≤◌, ◌<◌, ◌≡◌, Bool, not, ◌&&◌, ◌||◌, cond, List, [], ◌∷◌, eqb, length, get_or}
use Rattle.base.specs.Bits.{bit}
use Rattle.policy_image.specs.declared.counts.Counts.{Counts}
use Rattle.policy_image.specs.Policy.{Policy}
use Rattle.context.specs.Inner.Places.{pair_count, role_at, user_at}

abbrev pub row_entries : ℕ
row_entries = 128

-- bit k of the word at a place is added, and nothing else
pub record BitPut (old new : List ℕ) (at k : ℕ) : Type 0 where
  pub size : length new ≡ length old
  pub bits : (i j : ℕ) → bit (get_or new i 0) j ≡ (bit (get_or old i 0) j || (eqb at i && eqb k j))

-- the words of role and user: pair i has bit i % 64 of the words of its 64 pairs, those of roles and then those of users
pub record RowsOf (n : Counts) (rows : List ℕ) : Type 0 where
  pub role : (i b : ℕ) → i < pair_count n → b < 16 → bit (get_or rows (32 * (i / 64) + b) 0) (i % 64) ≡ eqb (role_at n i) b
  pub user : (i b : ℕ) → i < pair_count n → b < 16 → bit (get_or rows (32 * (i / 64) + 16 + b) 0) (i % 64) ≡ eqb (user_at n i) b

-- ---- marks: of types, of roles and of users, by number, and one for nodes that compare nothing
abbrev pub mark_entries : ℕ
mark_entries = 769

abbrev pub mark_of : ℕ → ℕ → ℕ
mark_of op b = get_or (768 ∷ 768 ∷ 768 ∷ 768 ∷ 0 ∷ 256 ∷ 512 ∷ b ∷ b ∷ (256 + b) ∷ (256 + b) ∷ (512 + b) ∷ (512 + b) ∷ []) op 768

-- each node has its mark
pub record Marked (p : Policy) (marks : List ℕ) : Type 0 where
  pub each : (i : ℕ) → 1 ≤ i → i ≤ p.size → (p.rec i).kind ≡ 9 → get_or marks (mark_of (p.rec i).a (p.rec i).b) 0 ≡ 1

-- a number of a sort has a mark, or all have; what it is told by
abbrev pub is_told : List ℕ → ℕ → ℕ → Bool
is_told marks sort v = not (eqb (get_or marks sort 0) 0) || not (eqb (get_or marks (sort + v) 0) 0)

abbrev pub told_of : List ℕ → ℕ → ℕ → ℕ
told_of marks sort v = cond (is_told marks sort v) (v + 1) 0
