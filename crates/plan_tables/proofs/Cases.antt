-- What the promises say of every table l that meets them, on the weir policy and on an image of a few records: for each a yes,
-- and a near no.
use Prim.Native.Nat.{ℕ}
use mathlib.Core.Bool.{true, false}
use mathlib.Core.List.{List, [], ◌∷◌}
use mathlib.Core.Path.{◌≡◌, ◌∙◌}
use native.Mathlib.Omega.{arith}
use lib.ListN.{get_or, replicate}
use Rattle.base.specs.Bits.{bit}
use Rattle.base.proofs.BitLaws.{bit_zero}
use Rattle.policy_image.specs.Layout.{record_count, record_of, payload_of, decoded}
use Rattle.policy_image.specs.Policy.{policy_of}
use Rattle.policy_image.specs.OfKind.{some}
use Rattle.policy_image.specs.Cases.Written.{image, permissions, flow, user_role, constraint, node, role_change as role_change_record}
use Rattle.policy_image.specs.Cases.Weir.{weir}
use Rattle.context.specs.Codes.{event_at}
use Rattle.context.specs.declared.Context.{Context}
use Rattle.relations.specs.Relations.{Γ, role_change, μ}
use Rattle.relations.proofs.Cases.{rho_record, rho_object_role, rho_domain}
use Rattle.constraints.specs.Constraints.{constraints_hold}
use Rattle.plan_tables.specs.Inner.Tables.{type_entries, GammaMasks, FlowMasks, ConstraintMasks, RoleTable, UserTable, RoleChanges}
use Rattle.plan_tables.proofs.MeaningLaws.{unconstrained}

-- class 1 has permissions 0 and 1 by two records: 0 flows both ways and has a constraint, 1 is write-like
abbrev few : List ℕ
few =
    image 1 2 1 1 (0 ∷ 1 ∷ 3 ∷ 0 ∷ 0 ∷ 5 ∷ 6 ∷ 7 ∷ 8 ∷ [])
    (permissions 2 1 1
    ∷ permissions 0 1 2
    ∷ flow 4 1 3 1
    ∷ flow 0 1 1 2
    ∷ user_role 0 1 2
    ∷ role_change_record 0 1 2
    ∷ constraint 0 1 1 8
    ∷ node 0 4 0 0 0
    ∷ [])

module _ (l : List ℕ) where
  -- "Records of one kind add up"
  pub masks_add_up : GammaMasks (policy_of few) l → (bit (get_or l 1 0) 0 ≡ true) × (bit (get_or l 1 0) 1 ≡ true) × (bit (get_or l 1 0) 2 ≡ false)
  unfolding Γ some bit record_count record_of payload_of decoded
  masks_add_up M = (M.at 1 0, M.at 1 1, M.at 1 2)

  -- b = 3 is both ways, b = 1 is one
  pub write_like_lem : FlowMasks (policy_of few) 1 l → (bit (get_or l 1 0) 0 ≡ true) × (bit (get_or l 1 0) 1 ≡ true)
  unfolding some bit record_count record_of payload_of decoded
  write_like_lem M = (M.at 1 0, M.at 1 1)

  pub read_like_lem : FlowMasks (policy_of few) 2 l → (bit (get_or l 1 0) 0 ≡ true) × (bit (get_or l 1 0) 1 ≡ false)
  unfolding some bit record_count record_of payload_of decoded
  read_like_lem M = (M.at 1 0, M.at 1 1)

  -- the search evaluates the constraints on permission 0 and not those on permission 1
  pub constrained : ConstraintMasks (policy_of few) l → bit (get_or l 1 0) 0 ≡ true
  unfolding some bit record_count record_of payload_of decoded
  constrained M = M.at 1 0

  free_bit : ConstraintMasks (policy_of few) l → bit (get_or l 1 0) 1 ≡ false
  unfolding some bit record_count record_of payload_of decoded
  free_bit M = M.at 1 1

  pub free : ConstraintMasks (policy_of few) l → (x y : Context) → constraints_hold (policy_of few) (event_at 1 1) x y ≡ true
  free M x y = unconstrained (policy_of few) l M 1 1 (free_bit M) x y

  -- the entry is the type and the bit the role: role 2 holds type 4
  pub role_of_type : RoleTable (policy_of weir) l → bit (get_or l 4 0) 2 ≡ true
  role_of_type M = M.at 4 2 (omega arith) ∙ rho_record

  -- role 1 holds what is no domain, and no domain
  pub object_role : RoleTable (policy_of weir) l → (bit (get_or l 3 0) 1 ≡ true) × (bit (get_or l 2 0) 1 ≡ false)
  object_role M = (M.at 3 1 (omega arith) ∙ rho_object_role, M.at 2 1 (omega arith) ∙ rho_domain)

  -- every user holds role 1, and no other without a record
  pub user_roles : UserTable (policy_of few) l → (bit (get_or l 1 0) 1 ≡ true) × (bit (get_or l 1 0) 2 ≡ true) × (bit (get_or l 1 0) 3 ≡ false)
  unfolding μ some bit record_count record_of payload_of decoded
  user_roles M = (M.at 1 1 (omega arith), M.at 1 2 (omega arith), M.at 1 3 (omega arith))

  -- a change has a direction, and a role may stay without one
  pub changes : RoleChanges (policy_of few) l → (bit (get_or l 1 0) 2 ≡ true) × (bit (get_or l 2 0) 1 ≡ false) × (bit (get_or l 2 0) 2 ≡ true)
  unfolding role_change some bit record_count record_of payload_of decoded
  changes M = (M.at 1 2 (omega arith), M.at 2 1 (omega arith), M.at 2 2 (omega arith))

-- the empty table, without the object role, is no table of roles
pub empty_refused : RoleTable (policy_of weir) (replicate type_entries 0) → ⊥
empty_refused M =
    let t : bit 0 1 ≡ true = (object_role (replicate type_entries 0) M).0 in
    let f = bit_zero 1 in
    let z : ◌≡◌ {A = ℕ} 0 1 = cc in
    omega arith
