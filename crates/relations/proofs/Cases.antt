-- The relations on the weir policy, and on images of a few records, from the definitions alone: for each a yes and a near no.
use Prim.Native.Nat.{ℕ}
use mathlib.Core.Bool.{true, false}
use mathlib.Core.List.{List, [], ◌∷◌}
use mathlib.Core.Path.{◌≡◌, refl}
use Rattle.base.specs.Bits.{bit}
use Rattle.policy_image.specs.Layout.{record_count, record_of, payload_of, decoded}
use Rattle.policy_image.specs.Policy.{policy_of}
use Rattle.policy_image.specs.OfKind.{some}
use Rattle.policy_image.specs.Cases.Written.{image, line, domain as domain_record, permissions, flow, allow, role_type, user_role, role_change as role_change_record}
use Rattle.policy_image.specs.Cases.Weir.{weir, weir_allow31, weir_domain3}
use Rattle.context.specs.Codes.{event_at as event}
use Rattle.policy_sources.specs.Sources.{domain}
use Rattle.relations.specs.Relations.{Γ, write_like, read_like, allowed, α, ρ, μ, role_change}

-- an image with self and both ways of flow: type 1 is a domain, role 1 holds it, and masks of one key add up
abbrev small : List ℕ
small =
    image 2 2 1 1 (1 ∷ 2 ∷ 4 ∷ 5 ∷ 7 ∷ 8 ∷ 9 ∷ 0 ∷ 0 ∷ [])
    (domain_record 0 1
    ∷ permissions 3 1 1
    ∷ permissions 0 1 2
    ∷ flow 0 1 3 1
    ∷ allow 6 1 0 1 1
    ∷ allow 0 1 0 1 6
    ∷ role_type 0 1 1
    ∷ user_role 0 1 2
    ∷ role_change_record 0 1 2
    ∷ [])

pub domain_2 : domain (policy_of weir) 2 ≡ true
unfolding domain Γ write_like read_like allowed α ρ μ role_change some bit record_count record_of payload_of decoded
domain_2 = refl

pub domain_3 : domain (policy_of weir) 3 ≡ false
unfolding domain Γ write_like read_like allowed α ρ μ role_change some bit record_count record_of payload_of decoded
domain_3 = refl

pub gamma_read : Γ (policy_of weir) (event 2 0) ≡ true
unfolding domain Γ write_like read_like allowed α ρ μ role_change some bit record_count record_of payload_of decoded
gamma_read = refl

pub gamma_append : Γ (policy_of weir) (event 2 2) ≡ false
unfolding domain Γ write_like read_like allowed α ρ μ role_change some bit record_count record_of payload_of decoded
gamma_append = refl

pub gamma_class_1 : Γ (policy_of weir) (event 1 0) ≡ false
unfolding domain Γ write_like read_like allowed α ρ μ role_change some bit record_count record_of payload_of decoded
gamma_class_1 = refl

-- "Records of one kind add up": the second record of the class gives permission 1
pub masks_add_up : Γ (policy_of small) (event 1 1) ≡ true
unfolding domain Γ write_like read_like allowed α ρ μ role_change some bit record_count record_of payload_of decoded
masks_add_up = refl

pub write_is_write_like : write_like (policy_of weir) (event 2 1) ≡ true
unfolding domain Γ write_like read_like allowed α ρ μ role_change some bit record_count record_of payload_of decoded
write_is_write_like = refl

pub write_is_not_read_like : read_like (policy_of weir) (event 2 1) ≡ false
unfolding domain Γ write_like read_like allowed α ρ μ role_change some bit record_count record_of payload_of decoded
write_is_not_read_like = refl

-- b = 3 is both ways
pub both_write_like : write_like (policy_of small) (event 1 0) ≡ true
unfolding domain Γ write_like read_like allowed α ρ μ role_change some bit record_count record_of payload_of decoded
both_write_like = refl

pub both_read_like : read_like (policy_of small) (event 1 0) ≡ true
unfolding domain Γ write_like read_like allowed α ρ μ role_change some bit record_count record_of payload_of decoded
both_read_like = refl

pub neither_way : write_like (policy_of small) (event 1 1) ≡ false
unfolding domain Γ write_like read_like allowed α ρ μ role_change some bit record_count record_of payload_of decoded
neither_way = refl

pub alpha_2_reads_1 : α (policy_of weir) 2 1 (event 2 0) ≡ true
unfolding domain Γ write_like read_like allowed α ρ μ role_change some bit record_count record_of payload_of decoded
alpha_2_reads_1 = refl

pub alpha_2_writes_no_1 : α (policy_of weir) 2 1 (event 2 1) ≡ false
unfolding domain Γ write_like read_like allowed α ρ μ role_change some bit record_count record_of payload_of decoded
alpha_2_writes_no_1 = refl

pub alpha_1_reads_no_2 : α (policy_of weir) 1 2 (event 2 0) ≡ false
unfolding domain Γ write_like read_like allowed α ρ μ role_change some bit record_count record_of payload_of decoded
alpha_1_reads_no_2 = refl

-- an allow whose source is no domain: of the formula alone, since question 14 refuses such a policy ..
pub alpha_from_file : α (policy_of weir_allow31) 3 1 (event 2 0) ≡ false
unfolding domain Γ write_like read_like allowed α ρ μ role_change some bit record_count record_of payload_of decoded
alpha_from_file = refl

pub allowed_from_file : allowed (policy_of weir_allow31) 3 1 (event 2 0) ≡ true
unfolding domain Γ write_like read_like allowed α ρ μ role_change some bit record_count record_of payload_of decoded
allowed_from_file = refl

-- .. and the same with its source a domain
pub alpha_from_domain : α (policy_of weir_domain3) 3 1 (event 2 0) ≡ true
unfolding domain Γ write_like read_like allowed α ρ μ role_change some bit record_count record_of payload_of decoded
alpha_from_domain = refl

-- self
pub alpha_self : α (policy_of small) 1 1 (event 1 0) ≡ true
unfolding domain Γ write_like read_like allowed α ρ μ role_change some bit record_count record_of payload_of decoded
alpha_self = refl

pub alpha_self_alone : α (policy_of small) 1 2 (event 1 0) ≡ false
unfolding domain Γ write_like read_like allowed α ρ μ role_change some bit record_count record_of payload_of decoded
alpha_self_alone = refl

-- the allow records give permission 2, which is not in Γ
pub alpha_outside_gamma : α (policy_of small) 1 1 (event 1 2) ≡ false
unfolding domain Γ write_like read_like allowed α ρ μ role_change some bit record_count record_of payload_of decoded
alpha_outside_gamma = refl

pub allowed_outside_gamma : allowed (policy_of small) 1 1 (event 1 2) ≡ true
unfolding domain Γ write_like read_like allowed α ρ μ role_change some bit record_count record_of payload_of decoded
allowed_outside_gamma = refl

pub rho_record : ρ (policy_of weir) 2 4 ≡ true
unfolding domain Γ write_like read_like allowed α ρ μ role_change some bit record_count record_of payload_of decoded
rho_record = refl

-- role 1 holds what is no domain ..
pub rho_object_role : ρ (policy_of weir) 1 3 ≡ true
unfolding domain Γ write_like read_like allowed α ρ μ role_change some bit record_count record_of payload_of decoded
rho_object_role = refl

-- .. and no domain
pub rho_domain : ρ (policy_of weir) 1 2 ≡ false
unfolding domain Γ write_like read_like allowed α ρ μ role_change some bit record_count record_of payload_of decoded
rho_domain = refl

-- no other role holds it
pub rho_other_role : ρ (policy_of weir) 2 3 ≡ false
unfolding domain Γ write_like read_like allowed α ρ μ role_change some bit record_count record_of payload_of decoded
rho_other_role = refl

-- but where a record says so
pub rho_domain_by_record : ρ (policy_of small) 1 1 ≡ true
unfolding domain Γ write_like read_like allowed α ρ μ role_change some bit record_count record_of payload_of decoded
rho_domain_by_record = refl

pub mu_record : μ (policy_of weir) 1 2 ≡ true
unfolding domain Γ write_like read_like allowed α ρ μ role_change some bit record_count record_of payload_of decoded
mu_record = refl

-- role 1 wants no record
pub mu_object_role : μ (policy_of weir) 1 1 ≡ true
unfolding domain Γ write_like read_like allowed α ρ μ role_change some bit record_count record_of payload_of decoded
mu_object_role = refl

pub mu_none : μ (policy_of small) 1 3 ≡ false
unfolding domain Γ write_like read_like allowed α ρ μ role_change some bit record_count record_of payload_of decoded
mu_none = refl

pub change_1_2 : role_change (policy_of small) 1 2 ≡ true
unfolding domain Γ write_like read_like allowed α ρ μ role_change some bit record_count record_of payload_of decoded
change_1_2 = refl

pub change_2_1 : role_change (policy_of small) 2 1 ≡ false
unfolding domain Γ write_like read_like allowed α ρ μ role_change some bit record_count record_of payload_of decoded
change_2_1 = refl

-- permissions 8, 16 and 31: each byte of a mask counts. Type 1 is a domain; class 1 has them, 8 and 31 write-like; 1 may 31 itself
abbrev wide : List ℕ
wide =
    image 1 1 1 1 (1 ∷ 2 ∷ 3 ∷ 4 ∷ 0 ∷ 0 ∷ 0 ∷ 0 ∷ 0 ∷ [])
    (domain_record 0 1
    ∷ line 0 2 1 0 0 0 0 0 1 1 128
    ∷ line 0 3 1 1 0 0 0 0 1 0 128
    ∷ line 0 4 1 1 1 0 0 0 0 0 128
    ∷ [])

pub gamma_8 : Γ (policy_of wide) (event 1 8) ≡ true
unfolding domain Γ write_like read_like allowed α ρ μ role_change some bit record_count record_of payload_of decoded
gamma_8 = refl

pub gamma_9 : Γ (policy_of wide) (event 1 9) ≡ false
unfolding domain Γ write_like read_like allowed α ρ μ role_change some bit record_count record_of payload_of decoded
gamma_9 = refl

pub gamma_16 : Γ (policy_of wide) (event 1 16) ≡ true
unfolding domain Γ write_like read_like allowed α ρ μ role_change some bit record_count record_of payload_of decoded
gamma_16 = refl

pub write_like_8 : write_like (policy_of wide) (event 1 8) ≡ true
unfolding domain Γ write_like read_like allowed α ρ μ role_change some bit record_count record_of payload_of decoded
write_like_8 = refl

pub write_like_16 : write_like (policy_of wide) (event 1 16) ≡ false
unfolding domain Γ write_like read_like allowed α ρ μ role_change some bit record_count record_of payload_of decoded
write_like_16 = refl

pub alpha_31 : α (policy_of wide) 1 1 (event 1 31) ≡ true
unfolding domain Γ write_like read_like allowed α ρ μ role_change some bit record_count record_of payload_of decoded
alpha_31 = refl

pub alpha_8 : α (policy_of wide) 1 1 (event 1 8) ≡ false
unfolding domain Γ write_like read_like allowed α ρ μ role_change some bit record_count record_of payload_of decoded
alpha_8 = refl
