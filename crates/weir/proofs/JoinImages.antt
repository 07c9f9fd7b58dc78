-- The joined images of the named policies, by computing: each byte, and that each image passes the checks.
use mathlib.Core.List.{List, []}
use mathlib.Core.Path.{◌≡◌, refl}
use Prim.Native.Nat.{ℕ, ◌+◌, ◌≤◌}
use native.Mathlib.Omega.{arith}
use Rattle.policy_image.specs.Layout.{counts_of, record_count, record_of, policy_head, payload_of, decoded, root_of, left_of, right_of}
use Rattle.policy_image.specs.Policy.{policy_of}
use Rattle.policy_image.specs.Encoding.{count_bytes, header_bytes, record_bytes, image_of}
use Rattle.policy_image.specs.Cases.Weir.{weir}
use Rattle.policy_expressions.specs.Nodes.{use_of}
use Rattle.policy_check.proofs.Tests.{Accepted, Refused, accepted, refused_1, refused_2, refused_5, refused_14}
use Rattle.policy_check.proofs.Cases.{weir_accepted, w10_empty}
use Rattle.policy_lists.specs.Joined.{joined}
use Rattle.join.specs.Join.{joined_image}
use Rattle.weir.specs.Cases.Goals.{empty}
use Rattle.weir.specs.Cases.Join.{JoinIs}
use Rattle.weir.specs.Cases.JoinPolicies.{board_read, weir_read, weir_of_two, weir_of_four, weir_guarded, board_guard, weir_taken, guarded_twice, guarded_read, board_domain, weir_domains, nodes_maker, nodes_board, nodes_joined, counts_maker, counts_board, counts_joined, no_type, leaning, beyond, states_many, many_policy}

-- all that a joined image is computed with: what unfolds this unfolds them
unfoldable pub written : Unit {0}
unfolding image_of header_bytes count_bytes record_bytes counts_of record_count record_of policy_head payload_of decoded
written = tt

-- .. and all that the questions of a policy are
unfoldable asked : Unit {0}
unfolding counts_of record_count record_of policy_head payload_of decoded use_of
asked = tt

join_is : {s t image : List ℕ} → Accepted s → Accepted t → record_count s + record_count t ≤ 4095 → joined_image s t ≡ image → Accepted image → JoinIs s t image
join_is a b f e c = record { maker = a.it; board = b.it; few = f; joined = e; passes = c.it }

-- ---- the images pass the checks
board_read_lem : Accepted board_read
unfolding asked
board_read_lem = accepted refl refl refl refl refl refl refl

pub weir_read_lem : Accepted weir_read
unfolding asked
weir_read_lem = accepted refl refl refl refl refl refl refl

of_two : Accepted weir_of_two
unfolding asked
of_two = accepted refl refl refl refl refl refl refl

of_four : Accepted weir_of_four
unfolding asked
of_four = accepted refl refl refl refl refl refl refl

weir_guarded_lem : Accepted weir_guarded
unfolding asked
weir_guarded_lem = accepted refl refl refl refl refl refl refl

board_guard_lem : Accepted board_guard
unfolding asked
board_guard_lem = accepted refl refl refl refl refl refl refl

weir_taken_lem : Accepted weir_taken
unfolding asked
weir_taken_lem = accepted refl refl refl refl refl refl refl

guarded_twice_lem : Accepted guarded_twice
unfolding asked
guarded_twice_lem = accepted refl refl refl refl refl refl refl

guarded_read_lem : Accepted guarded_read
unfolding asked
guarded_read_lem = accepted refl refl refl refl refl refl refl

board_domain_lem : Accepted board_domain
unfolding asked
board_domain_lem = accepted refl refl refl refl refl refl refl

weir_domains_lem : Accepted weir_domains
unfolding asked
weir_domains_lem = accepted refl refl refl refl refl refl refl

nodes_maker_lem : Accepted nodes_maker
unfolding asked
nodes_maker_lem = accepted refl refl refl refl refl refl refl

nodes_board_lem : Accepted nodes_board
unfolding asked
nodes_board_lem = accepted refl refl refl refl refl refl refl

nodes_joined_lem : Accepted nodes_joined
unfolding asked
nodes_joined_lem = accepted refl refl refl refl refl refl refl

counts_maker_lem : Accepted counts_maker
unfolding asked
counts_maker_lem = accepted refl refl refl refl refl refl refl

counts_board_lem : Accepted counts_board
unfolding asked
counts_board_lem = accepted refl refl refl refl refl refl refl

counts_joined_lem : Accepted counts_joined
unfolding asked
counts_joined_lem = accepted refl refl refl refl refl refl refl

-- ---- .. or not
pub no_type_lem : Refused no_type 2
unfolding asked
no_type_lem = refused_2 refl refl

pub leaning_14 : Refused leaning 14
unfolding asked
leaning_14 = refused_14 refl refl refl refl refl refl refl

pub beyond_5 : Refused beyond 5
unfolding asked
beyond_5 = refused_5 refl refl refl refl refl

pub none_1 : Refused [] 1
unfolding asked
none_1 = refused_1 refl

pub many_1 : Refused states_many 1
unfolding asked
many_1 = refused_1 refl

-- ---- the joined images
pub parts : JoinIs weir_of_two weir_of_four weir
unfolding written
parts = join_is of_two of_four (omega arith) refl weir_accepted

pub read : JoinIs weir board_read weir_read
unfolding written
read = join_is weir_accepted board_read_lem (omega arith) refl weir_read_lem

pub taken : JoinIs weir board_guard weir_taken
unfolding written
taken = join_is weir_accepted board_guard_lem (omega arith) refl weir_taken_lem

pub twice : JoinIs weir_guarded board_guard guarded_twice
unfolding written
twice = join_is weir_guarded_lem board_guard_lem (omega arith) refl guarded_twice_lem

pub guarded : JoinIs weir_guarded board_read guarded_read
unfolding written
guarded = join_is weir_guarded_lem board_read_lem (omega arith) refl guarded_read_lem

pub domains : JoinIs weir board_domain weir_domains
unfolding written
domains = join_is weir_accepted board_domain_lem (omega arith) refl weir_domains_lem

pub nodes : JoinIs nodes_maker nodes_board nodes_joined
unfolding written
nodes = join_is nodes_maker_lem nodes_board_lem (omega arith) refl nodes_joined_lem

pub counts : JoinIs counts_maker counts_board counts_joined
unfolding written
counts = join_is counts_maker_lem counts_board_lem (omega arith) refl counts_joined_lem

pub counts_turned : JoinIs counts_board counts_maker counts_joined
unfolding written
counts_turned = join_is counts_board_lem counts_maker_lem (omega arith) refl counts_joined_lem

pub nothing : JoinIs empty empty empty
unfolding written
nothing = join_is w10_empty w10_empty (omega arith) refl w10_empty

-- ---- node numbers above 255
pub wide_root : root_of ((joined (many_policy 251) (policy_of nodes_board)).rec 255) ≡ 258
unfolding written
wide_root = refl

pub wide_left : left_of ((joined (many_policy 251) (policy_of nodes_board)).rec 258) ≡ 256
unfolding written
wide_left = refl

pub wide_right : right_of ((joined (many_policy 251) (policy_of nodes_board)).rec 258) ≡ 257
unfolding written
wide_right = refl
