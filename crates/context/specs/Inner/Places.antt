-- The places of the contexts in range, from 0: by type, then role, then user.
use Rattle.std.specs.Prelude.{ℕ, ◌+◌, ◌-◌, ◌*◌, ◌/◌, ◌%◌, ◌^◌, ◌≤◌, ◌<◌}
use Rattle.base.specs.Ranges.{Within}
use Rattle.policy_image.specs.declared.counts.Counts.{Counts}
use Rattle.context.specs.declared.Context.{Context}

-- how many contexts are in range
abbrev pub context_count : Counts → ℕ
context_count n = n.types * n.roles * n.users

abbrev pub context_index : Counts → Context → ℕ
context_index n x = ((x.ty - 1) * n.roles + (x.role - 1)) * n.users + (x.user - 1)

abbrev pub context_at_index : Counts → ℕ → Context
context_at_index n i = record { ty = i / n.users / n.roles + 1; role = i / n.users % n.roles + 1; user = i % n.users + 1 }

-- counts whose contexts can be numbered: some role, some user, and no more contexts than nodes of a search
pub record Countable (n : Counts) : Type 0 where
  pub roles : 0 < n.roles
  pub users : 0 < n.users
  pub few : context_count n < 2 ^ 26

-- the places of the contexts of a type are one block, and within it go by the pair of a role and a user: the place of the first context of
-- the type o
abbrev pub first_place : Counts → ℕ → ℕ
first_place n o = (o - 1) * n.roles * n.users

-- how many pairs of a role and a user there are, and role and user of the pair i
abbrev pub pair_count : Counts → ℕ
pair_count n = n.roles * n.users

abbrev pub role_at : Counts → ℕ → ℕ
role_at n i = i / n.users + 1

abbrev pub user_at : Counts → ℕ → ℕ
user_at n i = i % n.users + 1

-- y is the place of a context of the type o
pub record OfType (n : Counts) (o y : ℕ) : Type 0 where
  pub type : Within 1 n.types o
  pub low : first_place n o ≤ y
  pub high : y < first_place n (o + 1)
