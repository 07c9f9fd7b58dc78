-- From what a table gathered to what it means, and what follows from a bit that is not set.
use Prim.Native.Nat.{ℕ}
use mathlib.Core.Bool.{Bool, true, false, not, cond, ◌&&◌, ◌||◌, and_comm, or_comm}
use mathlib.Core.List.{List}
use mathlib.Core.Logic.{⊎_elim}
use mathlib.Core.Path.{◌≡◌, refl, sym, ap, ap₂, ◌∙◌}
use native.Mathlib.Omega.{arith}
use borrow.Author.Tests.{eq-eqb, eqb-true}
use lib.Dec.{eqb}
use lib.ListN.{get_or, replicate, get_or-replicate}
use Rattle.base.specs.Bits.{bit}
use Rattle.base.proofs.BitLaws.{bit_zero, bit_pow}
use Rattle.base.proofs.Numbers.{zeros}
use Rattle.base.proofs.BoolLaws.{or_left, or_none, same_truth, true_or_false}
use Rattle.policy_image.specs.declared.kinds.Kind.{Kind}
use Rattle.policy_image.specs.declared.kinds.Kind.TheVariants.{Permissions, Flow, RoleType, UserRole, RoleChange, Constraint}
use Rattle.policy_image.specs.declared.records.Record.{Record}
use Rattle.policy_image.specs.Layout.{root_of}
use Rattle.policy_image.specs.Policy.{Policy}
use Rattle.policy_image.specs.OfKind.{some}
use Rattle.policy_links.proofs.KindLaws.{some_yes, some_record, every_yes}
use Rattle.context.specs.Codes.{event_at}
use Rattle.context.specs.declared.Context.{Context}
use Rattle.policy_sources.specs.Sources.{domain}
use Rattle.policy_sources.specs.Inner.Domains.{DomainTable}
use Rattle.relations.specs.Relations.{Γ, ρ, μ, role_change}
use Rattle.constraints.specs.Constraints.{constrains, constraints_hold}
use Rattle.constraints.specs.Eval.{eval_node}
use Rattle.plan_tables.specs.Inner.Gather.{added, Gathered}
use Rattle.plan_tables.specs.Inner.Tables.{user_entries, GammaMasks, FlowMasks, ConstraintMasks, ObjectRoles, RoleTable, UserTable, OwnRoles, RoleChanges}

-- ---- truth values
eqb_sym : (a b : ℕ) → eqb a b ≡ eqb b a
eqb_sym a b = same_truth (eqb a b) (eqb b a) (λ e. eq-eqb b a (sym (eqb-true a b e))) (λ e. eq-eqb a b (sym (eqb-true b a e)))

-- the bits of a mask that counts only where w holds
bit_where : (x w : Bool) (m q : ℕ) → (x && bit (cond w m 0) q) ≡ ((x && w) && bit m q)
bit_where true true m q = refl
bit_where true false m q = bit_zero q
bit_where false w m q = refl

-- the set of role 1 alone
pub bit_object : (role : ℕ) → bit 2 role ≡ eqb role 1
bit_object role = bit_pow 1 role ∙ eqb_sym 1 role

-- tests that agree on every record
some_same : (p : Policy) (k : ℕ) (f g : Record → Bool) → ((r : Record) → f r ≡ g r) → some p k f ≡ some p k g
some_same p k f g e =
    same_truth (some p k f) (some p k g) (go f g e) (go g f (λ r. sym (e r)))
  where
    go : (a b : Record → Bool) → ((r : Record) → a r ≡ b r) → some p k a ≡ true → some p k b ≡ true
    go a b d h = let r = some_record p k a h in some_yes p k b r.0 r.1 (sym (d (p.rec r.0)) ∙ r.2)

-- ---- a table that was empty has what was added
module _ (p : Policy) (k : Kind) (way n : ℕ) (l : List ℕ) (G : Gathered p k way (replicate n 0) l) where
  only_added : (t q : ℕ) → bit (get_or l t 0) q ≡ added p k way t q
  only_added t q =
      G.at t q ∙ or_none (added p k way t q) (bit (get_or (replicate n 0) t 0) q) (ap (λ (v : ℕ). bit v q) (zeros n t) ∙ bit_zero q)

module _ (p : Policy) (way n : ℕ) (l : List ℕ) where
  pub gamma_means : Gathered p Permissions way (replicate n 0) l → GammaMasks p l
  unfolding Γ
  gamma_means G = record { at = only_added p Permissions way n l G }

  pub flow_means : Gathered p Flow way (replicate n 0) l → FlowMasks p way l
  flow_means G =
      record {
        at = λ c q. only_added p Flow way n l G c q
            ∙ some_same p 3 _ _ (λ r. bit_where (eqb r.a c) (eqb r.b way || eqb r.b 3) r.mask q);
      }

  pub constraint_means : Gathered p Constraint way (replicate n 0) l → ConstraintMasks p l
  constraint_means G = record { at = only_added p Constraint way n l G }

-- ---- a table that had role 1
module _ (p : Policy) (way : ℕ) (l : List ℕ) where
  -- every user holds role 1
  pub users_mean : Gathered p UserRole way (replicate user_entries 2) l → UserTable p l
  unfolding μ
  users_mean G =
      record {
        at = λ u role h.
            G.at u role
            ∙ ap (λ (b : Bool). added p UserRole way u role || b) (ap (λ (v : ℕ). bit v role) (get_or-replicate user_entries u 2 0 h) ∙ bit_object role)
            ∙ ap (λ (b : Bool). b || eqb role 1)
            (some_same p 6 _ _ (λ r. ap (λ (b : Bool). eqb r.a u && b) (bit_pow r.b role)));
      }

  -- role 1 holds what is no domain
  pub roles_mean : (d o : List ℕ) → DomainTable p d → ObjectRoles d o → Gathered p RoleType way o l → RoleTable p l
  unfolding ρ
  roles_mean d o D O G =
      record {
        at = λ t role h.
            G.at t role
            ∙ ap (λ (b : Bool). added p RoleType way t role || b)
            (O.at t role h ∙ ap (λ (b : Bool). eqb role 1 && not b) (D.at t))
            ∙ ap (λ (b : Bool). b || (eqb role 1 && not (domain p t)))
            (some_same p 5 _ _
            (λ r. ap (λ (b : Bool). eqb r.b t && b) (bit_pow r.a role) ∙ and_comm (eqb r.b t) (eqb r.a role)));
      }

-- ---- a table that had each role's own bit
pub changes_mean : (p : Policy) (way : ℕ) (o l : List ℕ) → OwnRoles o → Gathered p RoleChange way o l → RoleChanges p l
unfolding role_change
changes_mean p way o l O G =
    record {
      at = λ r1 r2 h.
          G.at r1 r2
          ∙ ap₂ ◌||◌ (some_same p 7 _ _ (λ r. ap (λ (b : Bool). eqb r.a r1 && b) (bit_pow r.b r2))) (O.at r1 r2 h)
          ∙ or_comm _ (eqb r1 r2);
    }

-- ---- where the bit of a permission is not set, no constraint is on it, and they all hold
pub unconstrained : (p : Policy) (l : List ℕ) → ConstraintMasks p l → (c q : ℕ) → bit (get_or l c 0) q ≡ false
    → (x y : Context) → constraints_hold p (event_at c q) x y ≡ true
unfolding constraints_hold
unconstrained p l M c q e x y =
    every_yes p 8 (λ r. not (constrains r (event_at c q)) || eval_node p x y (root_of r))
    (λ i o.
    ⊎_elim
    (λ h.
    let t = some_yes p 8 (λ r. constrains r (event_at c q)) i o h in
    let u = M.at c q in
    let z : ◌≡◌ {A = ℕ} 0 1 = cc in
    absurd (omega arith))
    (λ h. or_left (not (constrains (p.rec i) (event_at c q))) (eval_node p x y (root_of (p.rec i))) (ap not h))
    (true_or_false (constrains (p.rec i) (event_at c q))))
