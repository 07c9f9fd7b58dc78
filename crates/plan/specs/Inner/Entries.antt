-- The entries of the regions of a plan.
use Rattle.std.specs.Prelude.{ℕ, ◌+◌, ◌/◌, ◌%◌, Bool, not, ◌||◌, List, ltb, get_or}
use Rattle.base.specs.Bits.{bit}
use Rattle.plan_index.specs.Inner.Codes.{record_numbers}
use Rattle.plan.specs.Inner.Regions.{changes_start, groups_start, roles_start, holders_start, event_sets_start, type_sets_start, pair_sets_start, named_start, links_start, marks_start, record_roles_start, record_users_start, alike_start, counted_start, first_start, keys_start, writes_start, reads_start, type_special_start, leads_start}

-- ---- the part of the policy
abbrev pub special_at : List ℕ → ℕ → ℕ
special_at plan class = get_or plan class 0

abbrev pub changes_at : List ℕ → ℕ → ℕ
changes_at plan role = get_or plan (changes_start + role) 0

abbrev pub groups_at : List ℕ → ℕ → ℕ
groups_at plan e = get_or plan (groups_start + e) 0

abbrev pub roles_at : List ℕ → ℕ → ℕ
roles_at plan type = get_or plan (roles_start + type) 0

abbrev pub holders_at : List ℕ → ℕ → ℕ
holders_at plan i = get_or plan (holders_start + i) 0

-- ---- the part of the goal
abbrev pub event_sets_at : List ℕ → ℕ → ℕ
event_sets_at plan e = get_or plan (event_sets_start + e) 0

abbrev pub type_sets_at : List ℕ → ℕ → ℕ
type_sets_at plan type = get_or plan (type_sets_start + type) 0

abbrev pub pair_sets_at : List ℕ → ℕ → ℕ
pair_sets_at plan i = get_or plan (pair_sets_start + i) 0

abbrev pub named_at : List ℕ → ℕ → ℕ
named_at plan type = get_or plan (named_start + type) 0

abbrev pub link_at : List ℕ → ℕ → ℕ
link_at plan k = get_or plan (links_start + k) 0

abbrev pub marks_at : List ℕ → ℕ → ℕ
marks_at plan k = get_or plan (marks_start + k) 0

abbrev pub record_role_at : List ℕ → ℕ → ℕ
record_role_at plan k = get_or plan (record_roles_start + k) 0

abbrev pub record_user_at : List ℕ → ℕ → ℕ
record_user_at plan k = get_or plan (record_users_start + k) 0

abbrev pub alike_at : List ℕ → ℕ → ℕ
alike_at plan e = get_or plan (alike_start + e) 0

-- ---- the part of the rules: whether a record number is in the set, as is_counted says of a list of its own
abbrev pub counted_at : List ℕ → ℕ → Bool
counted_at plan k = not (ltb k record_numbers) || bit (get_or plan (counted_start + k / 32) 0) (k % 32)

abbrev pub first_at : List ℕ → ℕ → ℕ
first_at plan type = get_or plan (first_start + type) 0

abbrev pub key_at : List ℕ → ℕ → ℕ
key_at plan j = get_or plan (keys_start + j) 0

abbrev pub writes_at : List ℕ → ℕ → ℕ
writes_at plan j = get_or plan (writes_start + j) 0

abbrev pub reads_at : List ℕ → ℕ → ℕ
reads_at plan j = get_or plan (reads_start + j) 0

abbrev pub type_special_at : List ℕ → ℕ → ℕ
type_special_at plan type = get_or plan (type_special_start + type) 0

abbrev pub leads_at : List ℕ → ℕ → ℕ
leads_at plan j = get_or plan (leads_start + j) 0
