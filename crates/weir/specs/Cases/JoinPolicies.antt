-- Policies of makers and boards beside the weir policy, for the join: each pair is such that a misreading of paper 02 (c) would write other bytes,
-- and what is to be written stands beside it.
use Rattle.std.specs.Prelude.{ℕ, zero, suc, List, [], ◌∷◌, ◌++◌}
use Rattle.policy_image.specs.declared.records.Record.{Record}
use Rattle.policy_image.specs.Policy.{Policy}
use Rattle.policy_image.specs.Encoding.{image_of}
use Rattle.policy_image.specs.Cases.Written.{line, domain, permissions, flow, allow, role_type, user_role, role_change, constraint, node, heads, image, no_chain, chain_of}
use Rattle.policy_lists.specs.Lists.{policy_from}

-- ---- a board that adds "4 on 1 read" to the weir policy, as W5 has it: "a board repeats the domain records that it uses"
abbrev pub board_read : List ℕ
board_read = image 4 1 1 2 (1 ∷ 0 ∷ 0 ∷ 2 ∷ 0 ∷ 0 ∷ 0 ∷ 0 ∷ 0 ∷ []) (domain 0 4 ∷ allow 0 4 1 2 1 ∷ [])

-- the weir policy and it: the record of domain 4 stands twice
abbrev pub weir_read : List ℕ
weir_read =
    image 4 2 1 2 (1 ∷ 4 ∷ 5 ∷ 7 ∷ 11 ∷ 13 ∷ 0 ∷ 0 ∷ 0 ∷ [])
    (domain 2 2
    ∷ domain 3 4
    ∷ domain 0 4
    ∷ permissions 0 2 3
    ∷ flow 6 2 2 1
    ∷ flow 0 2 1 2
    ∷ allow 8 2 1 2 1
    ∷ allow 9 2 3 2 2
    ∷ allow 10 4 3 2 1
    ∷ allow 0 4 1 2 1
    ∷ role_type 12 2 2
    ∷ role_type 0 2 4
    ∷ user_role 0 1 2
    ∷ [])

-- ---- the weir policy in two parts, which joined are its bytes: what process 2 needs, and what process 4 needs besides, kind after kind from 6 down
abbrev pub weir_of_two : List ℕ
weir_of_two =
    image 3 2 1 2 (1 ∷ 2 ∷ 3 ∷ 4 ∷ 6 ∷ 0 ∷ 0 ∷ 0 ∷ 0 ∷ [])
    (domain 0 2
    ∷ permissions 0 2 3
    ∷ flow 0 2 2 1
    ∷ allow 5 2 1 2 1
    ∷ allow 0 2 3 2 2
    ∷ role_type 0 2 2
    ∷ [])

abbrev pub weir_of_four : List ℕ
weir_of_four =
    image 4 2 1 2 (5 ∷ 0 ∷ 4 ∷ 3 ∷ 2 ∷ 1 ∷ 0 ∷ 0 ∷ 0 ∷ [])
    (user_role 0 1 2
    ∷ role_type 0 2 4
    ∷ allow 0 4 3 2 1
    ∷ flow 0 2 1 2
    ∷ domain 0 4
    ∷ [])

-- ---- constraints on read: a maker's, t1 = 2, in the weir policy; a board's, t2 = 3
abbrev pub weir_guarded : List ℕ
weir_guarded =
    image 4 2 1 2 (1 ∷ 3 ∷ 4 ∷ 6 ∷ 9 ∷ 11 ∷ 0 ∷ 12 ∷ 13 ∷ [])
    (domain 2 2
    ∷ domain 0 4
    ∷ permissions 0 2 3
    ∷ flow 5 2 2 1
    ∷ flow 0 2 1 2
    ∷ allow 7 2 1 2 1
    ∷ allow 8 2 3 2 2
    ∷ allow 0 4 3 2 1
    ∷ role_type 10 2 2
    ∷ role_type 0 2 4
    ∷ user_role 0 1 2
    ∷ constraint 0 2 1 13
    ∷ node 0 7 2 0 0
    ∷ [])

abbrev pub board_guard : List ℕ
board_guard = image 3 1 1 2 (0 ∷ 0 ∷ 0 ∷ 0 ∷ 0 ∷ 0 ∷ 0 ∷ 1 ∷ 2 ∷ []) (constraint 0 2 1 2 ∷ node 0 8 3 0 0 ∷ [])

-- the weir policy with the board's
abbrev pub weir_taken : List ℕ
weir_taken =
    image 4 2 1 2 (1 ∷ 3 ∷ 4 ∷ 6 ∷ 9 ∷ 11 ∷ 0 ∷ 12 ∷ 13 ∷ [])
    (domain 2 2
    ∷ domain 0 4
    ∷ permissions 0 2 3
    ∷ flow 5 2 2 1
    ∷ flow 0 2 1 2
    ∷ allow 7 2 1 2 1
    ∷ allow 8 2 3 2 2
    ∷ allow 0 4 3 2 1
    ∷ role_type 10 2 2
    ∷ role_type 0 2 4
    ∷ user_role 0 1 2
    ∷ constraint 0 2 1 13
    ∷ node 0 8 3 0 0
    ∷ [])

-- the guarded weir policy with the board's constraint, and with the board's "4 on 1 read"
abbrev pub guarded_twice : List ℕ
guarded_twice =
    image 4 2 1 2 (1 ∷ 3 ∷ 4 ∷ 6 ∷ 9 ∷ 11 ∷ 0 ∷ 12 ∷ 14 ∷ [])
    (domain 2 2
    ∷ domain 0 4
    ∷ permissions 0 2 3
    ∷ flow 5 2 2 1
    ∷ flow 0 2 1 2
    ∷ allow 7 2 1 2 1
    ∷ allow 8 2 3 2 2
    ∷ allow 0 4 3 2 1
    ∷ role_type 10 2 2
    ∷ role_type 0 2 4
    ∷ user_role 0 1 2
    ∷ constraint 13 2 1 14
    ∷ constraint 0 2 1 15
    ∷ node 15 7 2 0 0
    ∷ node 0 8 3 0 0
    ∷ [])

abbrev pub guarded_read : List ℕ
guarded_read =
    image 4 2 1 2 (1 ∷ 4 ∷ 5 ∷ 7 ∷ 11 ∷ 13 ∷ 0 ∷ 14 ∷ 15 ∷ [])
    (domain 2 2
    ∷ domain 3 4
    ∷ domain 0 4
    ∷ permissions 0 2 3
    ∷ flow 6 2 2 1
    ∷ flow 0 2 1 2
    ∷ allow 8 2 1 2 1
    ∷ allow 9 2 3 2 2
    ∷ allow 10 4 3 2 1
    ∷ allow 0 4 1 2 1
    ∷ role_type 12 2 2
    ∷ role_type 0 2 4
    ∷ user_role 0 1 2
    ∷ constraint 0 2 1 15
    ∷ node 0 7 2 0 0
    ∷ [])

-- ---- a board that calls type 3 a domain, alone and joined to the weir policy
abbrev pub board_domain : List ℕ
board_domain = image 3 1 1 1 (chain_of 1) (domain 0 3 ∷ [])

abbrev pub weir_domains : List ℕ
weir_domains =
    image 4 2 1 2 (1 ∷ 4 ∷ 5 ∷ 7 ∷ 10 ∷ 12 ∷ 0 ∷ 0 ∷ 0 ∷ [])
    (domain 2 2
    ∷ domain 3 4
    ∷ domain 0 3
    ∷ permissions 0 2 3
    ∷ flow 6 2 2 1
    ∷ flow 0 2 1 2
    ∷ allow 8 2 1 2 1
    ∷ allow 9 2 3 2 2
    ∷ allow 0 4 3 2 1
    ∷ role_type 11 2 2
    ∷ role_type 0 2 4
    ∷ user_role 0 1 2
    ∷ [])

-- ---- nodes that stand before and among the other records
-- maker: node 1 is "same type", node 3 "not" of it, and the root of the constraint
abbrev pub nodes_maker : List ℕ
nodes_maker =
    image 9 1 2 3 (4 ∷ 0 ∷ 0 ∷ 0 ∷ 0 ∷ 0 ∷ 5 ∷ 2 ∷ 1 ∷ [])
    (node 3 4 0 0 0
    ∷ constraint 0 1 1 3
    ∷ node 0 1 0 1 0
    ∷ domain 0 7
    ∷ role_change 0 1 1
    ∷ [])

-- board: node 4 is "and" of nodes 2 and 3, and the root of the constraint, whose mask, bits 0 and 16, is no left and right
abbrev pub nodes_board : List ℕ
nodes_board =
    image 4 5 2 1 (1 ∷ 0 ∷ 0 ∷ 0 ∷ 0 ∷ 0 ∷ 7 ∷ 5 ∷ 2 ∷ [])
    (domain 6 2
    ∷ node 3 5 0 0 0
    ∷ node 4 7 2 0 0
    ∷ node 0 2 0 2 3
    ∷ line 0 8 1 0 0 4 0 1 0 1 0
    ∷ domain 0 3
    ∷ role_change 0 5 1
    ∷ [])

-- both, byte by byte, sixteen a line: three domains, two role changes, two constraints with the roots 9 and 12, nodes 8 and 9 of the maker, 10 to 12
-- of the board
abbrev pub nodes_joined : List ℕ
nodes_joined =
    9 ∷ 5 ∷ 2 ∷ 3 ∷ 12 ∷ 0 ∷ 1 ∷ 0 ∷ 0 ∷ 0 ∷ 0 ∷ 0 ∷ 0 ∷ 0 ∷ 0 ∷ 0
    ∷ 0 ∷ 0 ∷ 4 ∷ 0 ∷ 6 ∷ 0 ∷ 8 ∷ 0 ∷ 2 ∷ 0 ∷ 1 ∷ 7 ∷ 0 ∷ 0 ∷ 0 ∷ 0
    ∷ 0 ∷ 0 ∷ 0 ∷ 0 ∷ 3 ∷ 0 ∷ 1 ∷ 2 ∷ 0 ∷ 0 ∷ 0 ∷ 0 ∷ 0 ∷ 0 ∷ 0 ∷ 0
    ∷ 0 ∷ 0 ∷ 1 ∷ 3 ∷ 0 ∷ 0 ∷ 0 ∷ 0 ∷ 0 ∷ 0 ∷ 0 ∷ 0 ∷ 5 ∷ 0 ∷ 7 ∷ 1
    ∷ 1 ∷ 0 ∷ 0 ∷ 0 ∷ 0 ∷ 0 ∷ 0 ∷ 0 ∷ 0 ∷ 0 ∷ 7 ∷ 5 ∷ 1 ∷ 0 ∷ 0 ∷ 0
    ∷ 0 ∷ 0 ∷ 0 ∷ 0 ∷ 7 ∷ 0 ∷ 8 ∷ 1 ∷ 0 ∷ 0 ∷ 9 ∷ 0 ∷ 1 ∷ 0 ∷ 0 ∷ 0
    ∷ 0 ∷ 0 ∷ 8 ∷ 1 ∷ 0 ∷ 0 ∷ 12 ∷ 0 ∷ 1 ∷ 0 ∷ 1 ∷ 0 ∷ 9 ∷ 0 ∷ 9 ∷ 4
    ∷ 0 ∷ 0 ∷ 0 ∷ 0 ∷ 0 ∷ 0 ∷ 0 ∷ 0 ∷ 10 ∷ 0 ∷ 9 ∷ 1 ∷ 0 ∷ 0 ∷ 0 ∷ 0
    ∷ 8 ∷ 0 ∷ 0 ∷ 0 ∷ 11 ∷ 0 ∷ 9 ∷ 5 ∷ 0 ∷ 0 ∷ 0 ∷ 0 ∷ 0 ∷ 0 ∷ 0 ∷ 0
    ∷ 12 ∷ 0 ∷ 9 ∷ 7 ∷ 2 ∷ 0 ∷ 0 ∷ 0 ∷ 0 ∷ 0 ∷ 0 ∷ 0 ∷ 0 ∷ 0 ∷ 9 ∷ 2
    ∷ 0 ∷ 0 ∷ 0 ∷ 0 ∷ 10 ∷ 0 ∷ 11 ∷ 0
    ∷ []

-- ---- counts alone: of each pair of counts one is larger
abbrev pub counts_maker : List ℕ
counts_maker = image 3 1 5 2 no_chain []

abbrev pub counts_board : List ℕ
counts_board = image 1 4 2 6 no_chain []

abbrev pub counts_joined : List ℕ
counts_joined = image 3 4 5 6 no_chain []

-- ---- policies that do not pass alone
-- no type: question 2 refuses it
abbrev pub no_type : List ℕ
no_type = image 0 1 1 1 no_chain []

-- "4 on 1 read" without the record of domain 4, which the weir policy has: question 14 refuses it
abbrev pub leaning : List ℕ
leaning = image 4 1 1 2 (chain_of 4) (allow 0 4 1 2 1 ∷ [])

-- type 4 of three types, of which the weir policy has four: question 5 refuses it
abbrev pub beyond : List ℕ
beyond = image 3 1 1 1 (chain_of 1) (domain 0 4 ∷ [])

-- 4,095 records stated, and none there: question 1 refuses it
abbrev pub states_many : List ℕ
states_many = 1 ∷ 1 ∷ 1 ∷ 1 ∷ 255 ∷ 15 ∷ heads no_chain

-- ---- n records that all call the one type a domain, linked in order
abbrev pub domain_one : Record
domain_one = record { next = 0; kind = 1; a = 1; b = 0; c = 0; d = 0; e = 0; mask = 0 }

abbrev pub times : ℕ → List Record
times zero = []
times (suc n) = domain_one ∷ times n

abbrev pub many_policy : ℕ → Policy
many_policy n = policy_from (record { types = 1; roles = 1; users = 1; classes = 1; records = n }) (times n)

unfoldable pub many_domains : ℕ → List ℕ
many_domains n = image_of (many_policy n)

-- ---- outputs: so many bytes of 170, and the same with two more behind them
abbrev pub blank : ℕ → List ℕ
blank zero = []
blank (suc n) = 170 ∷ blank n

abbrev pub blank_then : ℕ → ℕ → List ℕ
blank_then a b = blank 24 ++ (a ∷ b ∷ [])
