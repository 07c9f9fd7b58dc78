-- The σ sets of a context, as the goal's part of a plan has them: bit h says whether it is in the set of σ chain h.
use Rattle.std.specs.Prelude.{ℕ, zero, suc, ◌+◌, ◌-◌, ◌*◌, ◌≤◌, ◌<◌, Bool, cond, ◌&&◌, List}
use Rattle.std.specs.Int.Bits.{bit_or}
use Rattle.policy_image.specs.declared.counts.Counts.{Counts}
use Rattle.context.specs.declared.Context.{Context}
use Rattle.goal_image.specs.Sets.{fits}
use Rattle.plan_tables.specs.Inner.Tables.{type_entries}
use Rattle.plan.specs.Inner.Regions.{record_entries}
use Rattle.plan.specs.Inner.Entries.{type_sets_at, pair_sets_at, named_at, link_at, marks_at, record_role_at, record_user_at}

-- the lists of records lead down: from a type to a record, and from a record to one before it, or to none
pub record Falls (plan : List ℕ) : Type 0 where
  pub heads : (t : ℕ) → t < type_entries → named_at plan t < record_entries
  pub links : (k : ℕ) → 1 ≤ k → k < record_entries → link_at plan k < k

-- record k of a list fits the role and the user of x
abbrev pub record_fits : List ℕ → Context → ℕ → Bool
record_fits plan x k = fits (record_role_at plan k) x.role && fits (record_user_at plan k) x.user

-- the sets, and those of the records of a list that fit x, from record k on, by at most so many steps
unfoldable pub listed : List ℕ → Context → ℕ → ℕ → ℕ → ℕ
listed plan x zero k sets = sets
listed plan x (suc steps) zero sets = sets
listed plan x (suc steps) (suc k) sets = listed plan x steps (link_at plan (suc k)) (cond (record_fits plan x (suc k)) (bit_or sets (marks_at plan (suc k))) sets)

-- the sets of those records of the list of x's type that fit x
abbrev pub listed_for : List ℕ → Context → ℕ
listed_for plan x = listed plan x (named_at plan x.ty) (named_at plan x.ty) 0

-- the place of a context's pair of a role and a user
abbrev pub pair_of : Counts → Context → ℕ
pair_of n x = (x.role - 1) * n.users + (x.user - 1)

-- the sets of its type, of its pair, and of the records that name its type together with a role or a user
unfoldable pub sets_of : Counts → List ℕ → Context → ℕ
sets_of n plan x =
    bit_or (bit_or (type_sets_at plan x.ty) (pair_sets_at plan (pair_of n x))) (listed_for plan x)
