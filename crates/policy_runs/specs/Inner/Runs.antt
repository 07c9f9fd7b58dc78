-- A run: the records of one kind of one policy, where they stand in the result, one behind the other.
use Rattle.std.specs.Prelude.{ℕ, zero, suc, ◌+◌, ◌≤◌, ◌<◌, ◌≡◌, true, cond, List, [], ◌++◌, eqb, length, get_or}
use Rattle.policy_image.specs.Inner.Kinds.{kind_number}
use Rattle.policy_image.specs.declared.records.Record.{Record}
use Rattle.policy_image.specs.Layout.{PolicyExact, root_of, left_of, right_of}
use Rattle.policy_image.specs.Policy.{Policy, policy_of}
use Rattle.policy_image.specs.Encoding.{record_bytes}
use Rattle.policy_image.specs.Inner.Reading.{Bytes}
use Rattle.policy_image.specs.Inner.Sizes.{image_size, most_records}
use Rattle.policy_image.specs.Inner.Writable.{WritableRecord}
use Rattle.policy_links.specs.Chains.{LinksRise, ChainsByKind}
use Rattle.policy_expressions.specs.Nodes.{has_root, has_left, has_right, NodesInOrder}
use Rattle.policy_lists.specs.Lists.{records_upto, of_kind_in, kind_list, with_next}
use Rattle.policy_lists.specs.Joined.{nodes_upto, renumbered}
use Rattle.policy_lists.specs.Inner.Places.{next_upto}
use Rattle.policy_runs.specs.declared.Run.{Run}

-- how many records of kind k there are up to record n
abbrev pub many_upto : Policy → ℕ → ℕ → ℕ
many_upto o k n = length (of_kind_in k (records_upto o.rec n))

-- ---- tables of a policy
-- how many records of each kind it has
abbrev pub KindTable : Policy → List ℕ → Type 0
KindTable o t = (k : ℕ) → 1 ≤ k → k ≤ 9 → get_or t k 0 ≡ length (kind_list o k)

-- how many nodes have a number up to n
abbrev pub NodeTable : Policy → List ℕ → Type 0
NodeTable o t = (n : ℕ) → n ≤ o.size → get_or t n 0 ≡ nodes_upto o n

-- ---- the records of a run
-- the place in the result of record n + 1 of the policy, where it is of the run's kind
abbrev pub run_place : Policy → Run → ℕ → ℕ
run_place o run n = suc (run.before + many_upto o (kind_number run.kind) n)

-- .. and what it is there
abbrev pub run_record : Policy → Run → ℕ → Record
run_record o run n = with_next (next_upto run.last (run_place o run n)) (renumbered (λ m. run.shift + nodes_upto o m) (o.rec (suc n)))

-- the bytes of those of the first n records that are of the run's kind
abbrev pub run_bytes : Policy → Run → ℕ → List ℕ
run_bytes o run zero = []
run_bytes o run (suc n) = run_bytes o run n ++ cond (eqb (o.rec (suc n)).kind (kind_number run.kind)) (record_bytes (run_record o run n)) []

-- the run of the image s can be written into so many bytes, by its table of nodes t
pub record RunFits (s t : List ℕ) (run : Run) (output : ℕ) : Type 0 where
  pub exact : PolicyExact s
  pub links : LinksRise (policy_of s)
  pub chains : ChainsByKind (policy_of s)
  pub nodes : NodesInOrder (policy_of s)
  pub table : NodeTable (policy_of s) t
  pub most : run.before + length (kind_list (policy_of s) (kind_number run.kind)) ≤ most_records
  pub room : image_size (run.before + length (kind_list (policy_of s) (kind_number run.kind))) ≤ output
  pub shifted : (n : ℕ) → n ≤ (policy_of s).size → run.shift + nodes_upto (policy_of s) n < 65536
  pub writable : (n : ℕ) → suc n ≤ (policy_of s).size → ((policy_of s).rec (suc n)).kind ≡ kind_number run.kind → WritableRecord (run_record (policy_of s) run n)

-- node n has an entry in the table t, which with the shift fits two bytes
pub record MovableNode (t : List ℕ) (shift n : ℕ) : Type 0 where
  pub entry : n ≤ most_records
  pub fits : shift + get_or t n 0 < 65536

-- so has each node that a record uses
pub record Movable (r : Record) (t : List ℕ) (shift : ℕ) : Type 0 where
  pub bytes : Bytes r
  pub root : has_root r ≡ true → MovableNode t shift (root_of r)
  pub left : has_left r ≡ true → MovableNode t shift (left_of r)
  pub right : has_right r ≡ true → MovableNode t shift (right_of r)
