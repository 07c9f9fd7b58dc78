-- Policies for the canonical image: each is such that a misreading of paper 02 (e) would write other bytes, and what is to be written stands
-- beside it.
use Rattle.std.specs.Prelude.{ℕ, zero, suc, ◌+◌, ◌*◌, List, [], ◌∷◌, ◌++◌, length}
use Rattle.policy_image.specs.declared.records.Record.{Record}
use Rattle.policy_image.specs.Policy.{Policy}
use Rattle.policy_image.specs.Encoding.{image_of}
use Rattle.policy_image.specs.Cases.Written.{line, domain, permissions, flow, allow, role_type, user_role, role_change, constraint, node, image, no_chain, chain_of}
use Rattle.policy_lists.specs.Lists.{policy_from}

-- ---- the weir policy, whose flow records stand read-like first; and W5's, which has "4 on 1 read" besides
abbrev pub weir_written : List ℕ
weir_written =
    image 4 2 1 2 (1 ∷ 3 ∷ 4 ∷ 6 ∷ 9 ∷ 11 ∷ 0 ∷ 0 ∷ 0 ∷ [])
    (domain 2 2
    ∷ domain 0 4
    ∷ permissions 0 2 3
    ∷ flow 5 2 1 2
    ∷ flow 0 2 2 1
    ∷ allow 7 2 1 2 1
    ∷ allow 8 2 3 2 2
    ∷ allow 0 4 3 2 1
    ∷ role_type 10 2 2
    ∷ role_type 0 2 4
    ∷ user_role 0 1 2
    ∷ [])

abbrev pub weir_read_written : List ℕ
weir_read_written =
    image 4 2 1 2 (1 ∷ 3 ∷ 4 ∷ 6 ∷ 10 ∷ 12 ∷ 0 ∷ 0 ∷ 0 ∷ [])
    (domain 2 2
    ∷ domain 0 4
    ∷ permissions 0 2 3
    ∷ flow 5 2 1 2
    ∷ flow 0 2 2 1
    ∷ allow 7 2 1 2 1
    ∷ allow 8 2 3 2 2
    ∷ allow 9 4 1 2 1
    ∷ allow 0 4 3 2 1
    ∷ role_type 11 2 2
    ∷ role_type 0 2 4
    ∷ user_role 0 1 2
    ∷ [])

-- ---- "sorted by a, b, c": allows in no order, two of which differ in the class alone
abbrev pub allows : List ℕ
allows =
    image 3 1 1 2 (1 ∷ 0 ∷ 0 ∷ 2 ∷ 0 ∷ 0 ∷ 0 ∷ 0 ∷ 0 ∷ [])
    (domain 4 3
    ∷ allow 3 3 1 1 1
    ∷ allow 5 2 3 1 1
    ∷ domain 0 2
    ∷ allow 6 2 1 2 2
    ∷ allow 0 2 1 1 1
    ∷ [])

abbrev pub allows_written : List ℕ
allows_written =
    image 3 1 1 2 (1 ∷ 0 ∷ 0 ∷ 3 ∷ 0 ∷ 0 ∷ 0 ∷ 0 ∷ 0 ∷ [])
    (domain 2 2
    ∷ domain 0 3
    ∷ allow 4 2 1 1 1
    ∷ allow 5 2 1 2 2
    ∷ allow 6 2 3 1 1
    ∷ allow 0 3 1 1 1
    ∷ [])

-- ---- "Masks of equal keys are united": bits 0, 9 and 31 of a class, of which bit 0 stands twice; bits 0, 1 and 2 of an allow, with bit 1 twice and
-- a record that adds none
abbrev pub overlapping : List ℕ
overlapping =
    image 2 1 1 1 (1 ∷ 2 ∷ 0 ∷ 4 ∷ 0 ∷ 0 ∷ 0 ∷ 0 ∷ 0 ∷ [])
    (domain 0 2
    ∷ line 3 2 1 0 0 0 0 1 0 0 128
    ∷ line 0 2 1 0 0 0 0 1 2 0 0
    ∷ allow 5 2 1 1 3
    ∷ allow 6 2 1 1 0
    ∷ allow 0 2 1 1 6
    ∷ [])

abbrev pub overlapping_written : List ℕ
overlapping_written =
    image 2 1 1 1 (1 ∷ 2 ∷ 0 ∷ 3 ∷ 0 ∷ 0 ∷ 0 ∷ 0 ∷ 0 ∷ [])
    (domain 0 2
    ∷ line 0 2 1 0 0 0 0 1 2 0 128
    ∷ allow 0 2 1 1 7
    ∷ [])

-- ---- "records that carry an empty mask dropped (kinds 2, 3, 4)"
abbrev pub emptied : List ℕ
emptied =
    image 2 1 1 1 (1 ∷ 2 ∷ 3 ∷ 4 ∷ 0 ∷ 0 ∷ 0 ∷ 0 ∷ 0 ∷ [])
    (domain 0 2
    ∷ permissions 0 1 0
    ∷ flow 0 1 3 0
    ∷ allow 0 2 1 1 0
    ∷ [])

abbrev pub emptied_written : List ℕ
emptied_written = image 2 1 1 1 (chain_of 1) (domain 0 2 ∷ [])

-- ---- "repeated records of kinds 1, 5, 6 and 7 are written once"
abbrev pub repeated : List ℕ
repeated =
    image 2 1 1 1 (1 ∷ 0 ∷ 0 ∷ 0 ∷ 3 ∷ 5 ∷ 7 ∷ 0 ∷ 0 ∷ [])
    (domain 2 2
    ∷ domain 0 2
    ∷ role_type 4 1 2
    ∷ role_type 0 1 2
    ∷ user_role 6 1 1
    ∷ user_role 0 1 1
    ∷ role_change 8 1 1
    ∷ role_change 0 1 1
    ∷ [])

abbrev pub repeated_written : List ℕ
repeated_written =
    image 2 1 1 1 (1 ∷ 0 ∷ 0 ∷ 0 ∷ 2 ∷ 3 ∷ 4 ∷ 0 ∷ 0 ∷ [])
    (domain 0 2
    ∷ role_type 0 1 2
    ∷ user_role 0 1 1
    ∷ role_change 0 1 1
    ∷ [])

-- ---- "Flow becomes b = 1 and b = 2 records only.": of class 2 both ways, of class 1 both ways and one of them besides
abbrev pub both_ways : List ℕ
both_ways = image 1 1 1 2 (chain_of 3) (flow 2 2 3 1 ∷ flow 3 1 1 6 ∷ flow 0 1 3 5 ∷ [])

abbrev pub both_ways_written : List ℕ
both_ways_written = image 1 1 1 2 (chain_of 3) (flow 2 1 1 7 ∷ flow 3 1 2 5 ∷ flow 4 2 1 1 ∷ flow 0 2 2 1 ∷ [])

-- ---- "Self is a key of its own.": domain 2 on itself, by self and by its type; and by both, with another target
abbrev pub by_self : List ℕ
by_self = image 2 1 1 1 (1 ∷ 0 ∷ 0 ∷ 2 ∷ 0 ∷ 0 ∷ 0 ∷ 0 ∷ 0 ∷ []) (domain 0 2 ∷ allow 0 2 0 1 1 ∷ [])

abbrev pub by_type : List ℕ
by_type = image 2 1 1 1 (1 ∷ 0 ∷ 0 ∷ 2 ∷ 0 ∷ 0 ∷ 0 ∷ 0 ∷ 0 ∷ []) (domain 0 2 ∷ allow 0 2 2 1 1 ∷ [])

abbrev pub self_and_type : List ℕ
self_and_type =
    image 2 1 1 1 (1 ∷ 0 ∷ 0 ∷ 2 ∷ 0 ∷ 0 ∷ 0 ∷ 0 ∷ 0 ∷ []) (domain 0 2 ∷ allow 3 2 2 1 1 ∷ allow 4 2 1 1 1 ∷ allow 0 2 0 1 2 ∷ [])

abbrev pub self_and_type_written : List ℕ
self_and_type_written =
    image 2 1 1 1 (1 ∷ 0 ∷ 0 ∷ 2 ∷ 0 ∷ 0 ∷ 0 ∷ 0 ∷ 0 ∷ []) (domain 0 2 ∷ allow 3 2 0 1 2 ∷ allow 4 2 1 1 1 ∷ allow 0 2 2 1 1 ∷ [])

-- ---- "Kinds 8 and 9 keep their order, with root, left and right renumbered.": constraints on classes 3, 1 and 1, the second with an empty mask, the
-- third with the bits 0 and 16, which are no left and right; nodes before and among the other records, one of which no record uses; a domain that
-- stands twice
abbrev pub constrained : List ℕ
constrained =
    image 3 1 1 3 (5 ∷ 13 ∷ 0 ∷ 0 ∷ 0 ∷ 0 ∷ 0 ∷ 4 ∷ 1 ∷ [])
    (node 2 7 2 0 0
    ∷ node 3 4 0 0 0
    ∷ node 7 1 0 2 0
    ∷ constraint 9 3 1 3
    ∷ domain 6 2
    ∷ domain 0 2
    ∷ node 8 8 3 0 0
    ∷ node 10 2 0 1 7
    ∷ constraint 12 1 0 8
    ∷ node 11 4 0 0 0
    ∷ node 0 5 0 0 0
    ∷ line 0 8 1 0 0 11 0 1 0 1 0
    ∷ permissions 0 1 1
    ∷ [])

-- byte by byte, sixteen a line: a domain, a class, three constraints with the roots 8, 10 and 12, nodes 6 to 12
abbrev pub constrained_written : List ℕ
constrained_written =
    3 ∷ 1 ∷ 1 ∷ 3 ∷ 12 ∷ 0 ∷ 1 ∷ 0 ∷ 2 ∷ 0 ∷ 0 ∷ 0 ∷ 0 ∷ 0 ∷ 0 ∷ 0
    ∷ 0 ∷ 0 ∷ 0 ∷ 0 ∷ 3 ∷ 0 ∷ 6 ∷ 0 ∷ 0 ∷ 0 ∷ 1 ∷ 2 ∷ 0 ∷ 0 ∷ 0 ∷ 0
    ∷ 0 ∷ 0 ∷ 0 ∷ 0 ∷ 0 ∷ 0 ∷ 2 ∷ 1 ∷ 0 ∷ 0 ∷ 0 ∷ 0 ∷ 1 ∷ 0 ∷ 0 ∷ 0
    ∷ 4 ∷ 0 ∷ 8 ∷ 3 ∷ 0 ∷ 0 ∷ 8 ∷ 0 ∷ 1 ∷ 0 ∷ 0 ∷ 0 ∷ 5 ∷ 0 ∷ 8 ∷ 1
    ∷ 0 ∷ 0 ∷ 10 ∷ 0 ∷ 0 ∷ 0 ∷ 0 ∷ 0 ∷ 0 ∷ 0 ∷ 8 ∷ 1 ∷ 0 ∷ 0 ∷ 12 ∷ 0
    ∷ 1 ∷ 0 ∷ 1 ∷ 0 ∷ 7 ∷ 0 ∷ 9 ∷ 7 ∷ 2 ∷ 0 ∷ 0 ∷ 0 ∷ 0 ∷ 0 ∷ 0 ∷ 0
    ∷ 8 ∷ 0 ∷ 9 ∷ 4 ∷ 0 ∷ 0 ∷ 0 ∷ 0 ∷ 0 ∷ 0 ∷ 0 ∷ 0 ∷ 9 ∷ 0 ∷ 9 ∷ 1
    ∷ 0 ∷ 0 ∷ 0 ∷ 0 ∷ 7 ∷ 0 ∷ 0 ∷ 0 ∷ 10 ∷ 0 ∷ 9 ∷ 8 ∷ 3 ∷ 0 ∷ 0 ∷ 0
    ∷ 0 ∷ 0 ∷ 0 ∷ 0 ∷ 11 ∷ 0 ∷ 9 ∷ 2 ∷ 0 ∷ 0 ∷ 0 ∷ 0 ∷ 6 ∷ 0 ∷ 9 ∷ 0
    ∷ 12 ∷ 0 ∷ 9 ∷ 4 ∷ 0 ∷ 0 ∷ 0 ∷ 0 ∷ 0 ∷ 0 ∷ 0 ∷ 0 ∷ 0 ∷ 0 ∷ 9 ∷ 5
    ∷ 0 ∷ 0 ∷ 0 ∷ 0 ∷ 0 ∷ 0 ∷ 0 ∷ 0
    ∷ []

-- ---- two engineers who say the same: the second in another order, with masks in parts, empty masks, repeated records, flow's ways apart and the
-- nodes among other records
abbrev pub first_engineer : List ℕ
first_engineer =
    image 4 2 1 2 (1 ∷ 3 ∷ 4 ∷ 6 ∷ 10 ∷ 12 ∷ 13 ∷ 14 ∷ 15 ∷ [])
    (domain 2 2
    ∷ domain 0 4
    ∷ permissions 0 2 3
    ∷ flow 5 2 2 1
    ∷ flow 0 2 3 2
    ∷ allow 7 2 1 2 1
    ∷ allow 8 2 0 2 2
    ∷ allow 9 4 3 2 3
    ∷ allow 0 4 1 2 1
    ∷ role_type 11 2 2
    ∷ role_type 0 2 4
    ∷ user_role 0 1 2
    ∷ role_change 0 2 2
    ∷ constraint 0 2 1 17
    ∷ node 16 7 2 0 0
    ∷ node 17 8 3 0 0
    ∷ node 0 3 0 15 16
    ∷ [])

abbrev pub second_engineer : List ℕ
second_engineer =
    image 4 2 1 2 (9 ∷ 15 ∷ 12 ∷ 4 ∷ 20 ∷ 23 ∷ 2 ∷ 8 ∷ 1 ∷ [])
    (node 3 7 2 0 0
    ∷ role_change 0 2 2
    ∷ node 7 8 3 0 0
    ∷ allow 5 4 3 2 1
    ∷ allow 6 4 1 2 1
    ∷ allow 18 4 3 2 2
    ∷ node 0 3 0 1 3
    ∷ constraint 0 2 1 7
    ∷ domain 10 4
    ∷ domain 11 2
    ∷ domain 0 4
    ∷ flow 13 2 2 3
    ∷ flow 14 2 1 2
    ∷ flow 0 2 1 0
    ∷ permissions 16 2 1
    ∷ permissions 17 2 2
    ∷ permissions 0 1 0
    ∷ allow 19 2 0 2 2
    ∷ allow 0 2 1 2 1
    ∷ role_type 21 2 4
    ∷ role_type 22 2 2
    ∷ role_type 0 2 4
    ∷ user_role 0 1 2
    ∷ [])

-- what is written of both; and the same but for the mask of the self record, the class of the constraint and the three nodes
abbrev pub engineers : ℕ → ℕ → List ℕ → List ℕ → List ℕ → List ℕ
engineers mask class one two three =
    image 4 2 1 2 (1 ∷ 3 ∷ 4 ∷ 6 ∷ 10 ∷ 12 ∷ 13 ∷ 14 ∷ 15 ∷ [])
    (domain 2 2
    ∷ domain 0 4
    ∷ permissions 0 2 3
    ∷ flow 5 2 1 2
    ∷ flow 0 2 2 3
    ∷ allow 7 2 0 2 mask
    ∷ allow 8 2 1 2 1
    ∷ allow 9 4 1 2 1
    ∷ allow 0 4 3 2 3
    ∷ role_type 11 2 2
    ∷ role_type 0 2 4
    ∷ user_role 0 1 2
    ∷ role_change 0 2 2
    ∷ constraint 0 class 1 17
    ∷ one
    ∷ two
    ∷ three
    ∷ [])

abbrev pub engineers_written : List ℕ
engineers_written = engineers 2 2 (node 16 7 2 0 0) (node 17 8 3 0 0) (node 0 3 0 15 16)

-- one permission more; the constraint on another class; two nodes in each other's place, each named by its place; "or" of the same two nodes the other
-- way round
abbrev pub one_permission_more : List ℕ
one_permission_more = engineers 3 2 (node 16 7 2 0 0) (node 17 8 3 0 0) (node 0 3 0 15 16)

abbrev pub other_class : List ℕ
other_class = engineers 2 1 (node 16 7 2 0 0) (node 17 8 3 0 0) (node 0 3 0 15 16)

abbrev pub nodes_swapped : List ℕ
nodes_swapped = engineers 2 2 (node 16 8 3 0 0) (node 17 7 2 0 0) (node 0 3 0 16 15)

abbrev pub children_swapped : List ℕ
children_swapped = engineers 2 2 (node 16 7 2 0 0) (node 17 8 3 0 0) (node 0 3 0 16 15)

-- ---- counts that no record needs
abbrev pub roomy : List ℕ
roomy = image 9 3 2 4 no_chain []

-- ---- node numbers that come to stand above 255: 254 nodes, "and" of the last two, a domain, a class, and a constraint with the "and" as its root
abbrev pub node_one : Record
node_one = record { next = 0; kind = 9; a = 4; b = 0; c = 0; d = 0; e = 0; mask = 0 }

abbrev pub nodes : ℕ → List Record
nodes zero = []
nodes (suc n) = node_one ∷ nodes n

abbrev pub wide_policy : Policy
wide_policy =
    policy_from (record { types = 1; roles = 1; users = 1; classes = 1; records = 258 })
    (nodes 254
    ++ (record { next = 0; kind = 9; a = 2; b = 0; c = 0; d = 0; e = 0; mask = 253 + 65536 * 254 }
    ∷ record { next = 0; kind = 1; a = 1; b = 0; c = 0; d = 0; e = 0; mask = 0 }
    ∷ record { next = 0; kind = 2; a = 1; b = 0; c = 0; d = 0; e = 0; mask = 1 }
    ∷ record { next = 0; kind = 8; a = 1; b = 0; c = 0; d = 255; e = 0; mask = 1 }
    ∷ []))

-- ---- 15: some flow records of class 1, then n nodes that no record uses
abbrev pub flow_one : ℕ → ℕ → Record
flow_one way mask = record { next = 0; kind = 3; a = 1; b = way; c = 0; d = 0; e = 0; mask = mask }

abbrev pub crowded_policy : ℕ → List Record → ℕ → Policy
crowded_policy types flows n =
    policy_from (record { types = types; roles = 1; users = 1; classes = 1; records = length flows + n }) (flows ++ nodes n)

unfoldable pub crowded : ℕ → List Record → ℕ → List ℕ
crowded types flows n = image_of (crowded_policy types flows n)

-- flow's 3; it and one of its ways; it with an empty mask
abbrev pub one_flow : List Record
one_flow = flow_one 3 1 ∷ []

abbrev pub one_flow_again : List Record
one_flow_again = flow_one 3 1 ∷ flow_one 1 3 ∷ []

abbrev pub no_flow : List Record
no_flow = flow_one 3 0 ∷ []
