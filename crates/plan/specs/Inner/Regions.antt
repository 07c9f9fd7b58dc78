-- Where the regions of a plan start: the twins of the constants of src/regions.rt. Each start is the sum of the start and the size of the
-- region before it.
use Rattle.std.specs.Prelude.{ℕ, ◌+◌}
use Rattle.plan_tables.specs.Inner.Tables.{type_entries}
pub use Rattle.plan_tables.specs.Inner.Tables.{role_entries}
use Rattle.plan_index.specs.Inner.Codes.{items}
pub use Rattle.plan_index.specs.Inner.Codes.{record_words}
-- a step is an event and a type, as a key is a class and a type: type_codes times the first and the second
pub use Rattle.plan_index.specs.Inner.Codes.{type_codes}

-- ---- sizes: by class, by role, by type with one more for the end of the last block, by entry of a block, by event, by pair of a role
-- and a user, by record of a goal; record_words for a set of record numbers
abbrev pub class_entries : ℕ
class_entries = 32

abbrev pub first_entries : ℕ
first_entries = type_entries + 1

abbrev pub block_entries : ℕ
block_entries = items

abbrev pub event_entries : ℕ
event_entries = 1024

abbrev pub pair_entries : ℕ
pair_entries = 225

abbrev pub record_entries : ℕ
record_entries = 256

-- ---- the part of the policy
abbrev pub special_start : ℕ
special_start = 0

abbrev pub changes_start : ℕ
changes_start = special_start + class_entries

abbrev pub groups_start : ℕ
groups_start = changes_start + role_entries

abbrev pub roles_start : ℕ
roles_start = groups_start + event_entries

abbrev pub holders_start : ℕ
holders_start = roles_start + type_entries

-- ---- the part of the goal
abbrev pub event_sets_start : ℕ
event_sets_start = holders_start + pair_entries

abbrev pub type_sets_start : ℕ
type_sets_start = event_sets_start + event_entries

abbrev pub pair_sets_start : ℕ
pair_sets_start = type_sets_start + type_entries

abbrev pub named_start : ℕ
named_start = pair_sets_start + pair_entries

abbrev pub links_start : ℕ
links_start = named_start + type_entries

abbrev pub marks_start : ℕ
marks_start = links_start + record_entries

abbrev pub record_roles_start : ℕ
record_roles_start = marks_start + record_entries

abbrev pub record_users_start : ℕ
record_users_start = record_roles_start + record_entries

abbrev pub alike_start : ℕ
alike_start = record_users_start + record_entries

-- ---- the part of the rules
abbrev pub counted_start : ℕ
counted_start = alike_start + event_entries

abbrev pub first_start : ℕ
first_start = counted_start + record_words

abbrev pub keys_start : ℕ
keys_start = first_start + first_entries

abbrev pub writes_start : ℕ
writes_start = keys_start + block_entries

abbrev pub reads_start : ℕ
reads_start = writes_start + block_entries

abbrev pub type_special_start : ℕ
type_special_start = reads_start + block_entries

abbrev pub leads_start : ℕ
leads_start = type_special_start + type_entries

-- how many entries a plan has
abbrev pub plan_entries : ℕ
plan_entries = leads_start + block_entries
