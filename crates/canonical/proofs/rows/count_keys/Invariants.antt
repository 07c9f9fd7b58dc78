use Prim.Native.Nat.{ℕ, ◌-◌}
use mathlib.Core.List.{List}
use lib.ListN.{get_or}
use Rattle.policy_image.specs.declared.records.Record.{Record}
use Rattle.policy_facts.specs.Inner.FactTable.{table_record}
use Rattle.policy_runs.proofs.CountingLaws.{CountedTo}
use Rattle.canonical.proofs.rows.count_keys.Given as goal

abbrev pub rows : List ℕ → ℕ → Record
rows keys i = table_record (get_or keys (i - 1) 0) 0

abbrev pub invariant-loop-key : goal.invariant-loop-key
invariant-loop-key l = CountedTo (rows l.fn.keys) l.key-index l.table
