-- "One policy from maker and board" (paper 02, c): the policy p of the maker and the policy q of the board, joined.
use Rattle.std.specs.Prelude.{ℕ, zero, suc, ◌+◌, ◌*◌, ◌/◌, ◌%◌, cond, List, [], ◌++◌, map, leb, length}
use Rattle.policy_image.specs.declared.counts.Counts.{Counts}
use Rattle.policy_image.specs.declared.records.Record.{Record}
use Rattle.policy_image.specs.Layout.{root_of, left_of, right_of}
use Rattle.policy_image.specs.Policy.{Policy}
use Rattle.policy_expressions.specs.Nodes.{has_root, has_left, has_right}
use Rattle.policy_lists.specs.Lists.{records_upto, of_kind_in, kind_list, policy_from}

-- ---- counts: "The result's counts are the larger of each pair"
abbrev pub larger : ℕ → ℕ → ℕ
larger a b = cond (leb a b) b a

-- the number of records is that of both together
abbrev pub larger_counts : Counts → Counts → Counts
larger_counts c d =
    record {
      types = larger c.types d.types;
      roles = larger c.roles d.roles;
      users = larger c.users d.users;
      classes = larger c.classes d.classes;
      records = c.records + d.records;
    }

-- ---- where the nodes of each stand in the result: "node numbers adjusted"
-- how many records of kinds 1 to n a policy has
abbrev pub of_kinds_upto : Policy → ℕ → ℕ
of_kinds_upto p zero = 0
of_kinds_upto p (suc n) = of_kinds_upto p n + length (kind_list p (suc n))

-- how many nodes have a number up to n
abbrev pub nodes_upto : Policy → ℕ → ℕ
nodes_upto p n = length (of_kind_in 9 (records_upto p.rec n))

-- the nodes stand behind all records of kinds 1 to 8, the maker's before the board's
abbrev pub makers_node : Policy → Policy → ℕ → ℕ
makers_node p q n = of_kinds_upto p 8 + of_kinds_upto q 8 + nodes_upto p n

abbrev pub boards_node : Policy → Policy → ℕ → ℕ
boards_node p q n = of_kinds_upto p 8 + of_kinds_upto q 8 + length (kind_list p 9) + nodes_upto q n

-- ---- a record whose root, left and right, where used, become what `to` gives for them
-- "d (low) and e together are the number of its root node"
abbrev pub with_root : ℕ → Record → Record
with_root n r =
    record { next = r.next; kind = r.kind; a = r.a; b = r.b; c = r.c; d = n % 256; e = n / 256; mask = r.mask }

-- "Bytes 8–9 are left, 10–11 right"
abbrev pub with_children : ℕ → ℕ → Record → Record
with_children x y r =
    record { next = r.next; kind = r.kind; a = r.a; b = r.b; c = r.c; d = r.d; e = r.e; mask = x + 65536 * y }

abbrev pub root_moved : (ℕ → ℕ) → Record → Record
root_moved to r = cond (has_root r) (with_root (to (root_of r)) r) r

abbrev pub left_moved : (ℕ → ℕ) → Record → Record
left_moved to r = cond (has_left r) (with_children (to (left_of r)) (right_of r) r) r

abbrev pub right_moved : (ℕ → ℕ) → Record → Record
right_moved to r = cond (has_right r) (with_children (left_of r) (to (right_of r)) r) r

abbrev pub renumbered : (ℕ → ℕ) → Record → Record
renumbered to r = root_moved to (left_moved to (right_moved to r))

-- ---- the records: "kinds 1 to 9 in turn", "the maker's first within a kind"
abbrev pub joined_kind : Policy → Policy → ℕ → List Record
joined_kind p q k = map (renumbered (makers_node p q)) (kind_list p k) ++ map (renumbered (boards_node p q)) (kind_list q k)

-- the lists of kinds 1 to n, one behind the other
abbrev pub kinds_upto : (ℕ → List Record) → ℕ → List Record
kinds_upto lists zero = []
kinds_upto lists (suc n) = kinds_upto lists n ++ lists (suc n)

abbrev pub joined_list : Policy → Policy → List Record
joined_list p q = kinds_upto (joined_kind p q) 9

abbrev pub joined : Policy → Policy → Policy
joined p q = policy_from (larger_counts p.counts q.counts) (joined_list p q)
