-- A maker's policy and a board's, joined. Both have nodes that stand before and among their other records, and each has a larger count, so
-- that the smaller count, the board's records first, nodes not renumbered, or renumbered in roots alone, would each show.
use Prim.Native.Nat.{ℕ, ◌+◌, ◌*◌}
use mathlib.Core.Path.{◌≡◌, refl}
use mathlib.Core.List.{[], ◌∷◌}
use Rattle.policy_image.specs.declared.records.Record.{Record}
use Rattle.policy_image.specs.Policy.{Policy}
use Rattle.policy_lists.specs.Lists.{record_list, policy_from}
use Rattle.policy_lists.specs.Joined.{joined}

abbrev row : (next kind a b d mask : ℕ) → Record
row n k a b d m = record { next = n; kind = k; a = a; b = b; c = 0; d = d; e = 0; mask = m }

-- maker: node 1 is "same type", node 3 "not" of it, and the root of the constraint
abbrev makers : Policy
makers =
    policy_from (record { types = 9; roles = 1; users = 2; classes = 3; records = 0 })
    (row 0 9 4 0 0 0 ∷ row 0 8 1 0 3 1 ∷ row 0 9 1 0 0 1 ∷ row 0 1 7 0 0 0 ∷ [])

-- board: node 4 is "and" of nodes 2 and 3, and the root of the constraint, whose mask is no left and right
abbrev boards : Policy
boards =
    policy_from (record { types = 4; roles = 5; users = 2; classes = 1; records = 0 })
    (row 0 1 2 0 0 0 ∷ row 0 9 5 0 0 0 ∷ row 0 9 7 2 0 0 ∷ row 0 9 2 0 0 (2 + 65536 * 3) ∷ row 0 8 1 0 4 (1 + 65536) ∷ row 0 1 3 0 0 0 ∷ [])

pub joined_records : record_list (joined makers boards)
    ≡ row 2 1 7 0 0 0 ∷ row 3 1 2 0 0 0 ∷ row 0 1 3 0 0 0
    ∷ row 5 8 1 0 7 1 ∷ row 0 8 1 0 10 (1 + 65536)
    ∷ row 7 9 4 0 0 0 ∷ row 8 9 1 0 0 6 ∷ row 9 9 5 0 0 0 ∷ row 10 9 7 2 0 0 ∷ row 0 9 2 0 0 (8 + 65536 * 9)
    ∷ []
joined_records = refl

pub joined_counts : (joined makers boards).counts ≡ record { types = 9; roles = 5; users = 2; classes = 3; records = 10 }
joined_counts = refl

pub joined_heads : ((joined makers boards).head 1 ≡ 1) × ((joined makers boards).head 2 ≡ 0) × ((joined makers boards).head 8 ≡ 4) × ((joined makers boards).head 9 ≡ 6)
joined_heads = (refl, refl, refl, refl)
