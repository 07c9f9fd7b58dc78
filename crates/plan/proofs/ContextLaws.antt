-- What a plan says of contexts: from its regions by type and by pair to ρ and μ.
use Prim.Native.Nat.{ℕ, ◌+◌, ◌-◌, ◌*◌, ◌^◌, ◌%◌, ◌≤◌, ◌<◌}
use mathlib.Core.Path.{◌≡◌, refl, sym, subst, ap, ap₂, ◌∙◌}
use mathlib.Core.Bool.{Bool, true, false, not, ◌&&◌}
use mathlib.Core.List.{List}
use mathlib.Core.Logic.{◌⊎◌, inl, inr, ⊎_elim}
use native.Mathlib.Nat.{one-mul, mod-eq_of_lt, mul-le-mul}
use native.Mathlib.Omega.{arith}
use borrow.Author.Tests.{eq-eqb, ne_eqb}
use lib.Bits.{bit_and}
use lib.Dec.{eqb}
use lib.ListN.{get_or}
use lib.Pow.{pow-lt}
use Rattle.base.specs.Bits.{bit}
use Rattle.base.specs.Inner.Fill.{Filled}
use Rattle.base.proofs.BitLaws.{bit_and_lem, bit_pow, bit_zero}
use Rattle.base.proofs.Numbers.{split_eq}
use Rattle.base.proofs.BoolLaws.{clash, and_yes, and_no, true_or_false}
use Rattle.policy_image.specs.declared.counts.Counts.{Counts}
use Rattle.policy_image.specs.Policy.{Policy}
use Rattle.context.specs.declared.Context.{Context}
use Rattle.context.specs.Inner.Places.{context_at_index, first_place, pair_count, role_at, user_at, OfType}
use Rattle.relations.specs.Relations.{ρ, μ}
use Rattle.goal_model.specs.Images.{meetsρμ}
use Rattle.plan_tables.specs.Inner.Tables.{type_entries, RoleTable, UserTable}
use Rattle.plan.specs.Inner.Regions.{pair_entries, roles_start, holders_start, event_sets_start}
use Rattle.plan.specs.Inner.Entries.{roles_at, holders_at}
use Rattle.plan.specs.Inner.Plan.{Ready, PlanCounts, HolderOf, Holding, PolicyPlan}
use Rattle.plan.specs.Inner.Put.{Kept, HeldPut}
use Rattle.context.proofs.TypeLaws.{role_high, user_high, of_pair, of_same}
use Rattle.plan.proofs.NamedLaws.{no_bits}

pub plan_counts : {s : List ℕ} {n : Counts} → Ready s n → PlanCounts n
plan_counts R =
    record {
      countable = R.countable;
      some_type = subst (λ (k : Counts). 1 ≤ k.types) (sym R.same) R.sound.range.types.low;
      types = let h = subst (λ (k : Counts). k.types ≤ 255) (sym R.same) R.sound.range.types.high in omega arith;
      roles = omega (arith, subst (λ (k : Counts). k.roles ≤ 15) (sym R.same) R.sound.range.roles.high);
      users = omega (arith, subst (λ (k : Counts). k.users ≤ 15) (sym R.same) R.sound.range.users.high);
      classes = omega (arith, subst (λ (k : Counts). k.classes ≤ 31) (sym R.same) R.sound.range.classes.high);
    }

-- pairs of a role and a user are few, and role and user of one are small
pub pairs_few : {n : Counts} → PlanCounts n → pair_count n ≤ pair_entries
pairs_few C = mul-le-mul {n₂ = 15} {m₂ = 15} (omega (arith, C.roles)) (omega (arith, C.users))

pub pair_high : {n : Counts} → PlanCounts n → (i : ℕ) → i < pair_count n → (role_at n i ≤ 15) × (user_at n i ≤ 15)
pair_high C i h = let a = C.roles in let b = C.users in (omega (arith, role_high C.countable h), omega (arith, user_high C.countable i))

-- ---- ρ and μ
pub holder_law : {p : Policy} {n : Counts} {users : List ℕ} {i role user : ℕ} → UserTable p users → role ≡ role_at n i → user ≡ user_at n i → user < 16 → role < 32
    → HolderOf p n i (bit_and (get_or users user 0) (1 * 2 ^ role % 2 ^ 32))
holder_law {p} {n} {users} {i} {role} {user} U e f lu lr =
    let q : 1 * 2 ^ role % 2 ^ 32 ≡ 2 ^ role = ap (λ (k : ℕ). k % 2 ^ 32) (one-mul (2 ^ role)) ∙ mod-eq_of_lt (pow-lt lr) in
    record {
      at = λ r. bit_and_lem (get_or users user 0) (1 * 2 ^ role % 2 ^ 32) r
          ∙ ap₂ ◌&&◌ (U.at user r lu ∙ ap (λ (k : ℕ). μ p k r) f) (ap (λ (k : ℕ). bit k r) q ∙ bit_pow role r ∙ ap (λ (k : ℕ). eqb k r) e);
    }

-- two masks meet, of which one has at most the bit k
meet_law : (a b k : ℕ) (m : ℕ → Bool) → ((r : ℕ) → bit b r ≡ (m r && eqb k r)) → not (eqb (bit_and a b) 0) ≡ (bit a k && m k)
meet_law a b k m at = ⊎_elim met none (true_or_false (bit a k && m k))
  where
    each : (r : ℕ) → bit (bit_and a b) r ≡ (bit a r && (m r && eqb k r))
    each r = bit_and_lem a b r ∙ ap (λ (t : Bool). bit a r && t) (at r)

    own : bit (bit_and a b) k ≡ (bit a k && m k)
    own = each k ∙ ap (λ (t : Bool). bit a k && t) (and_yes (m k) (eqb k k) (eq-eqb k k refl))

    met : (bit a k && m k) ≡ true → not (eqb (bit_and a b) 0) ≡ (bit a k && m k)
    met e = ap not (ne_eqb (bit_and a b) 0 (λ z. clash (own ∙ e) (ap (λ (v : ℕ). bit v k) z ∙ bit_zero k))) ∙ sym e

    clear : (bit a k && m k) ≡ false → (r : ℕ) → (k ≡ r) ⊎ (k ≡ r → ⊥) → bit (bit_and a b) r ≡ false
    clear e r (inl q) = subst (λ (i : ℕ). bit (bit_and a b) i ≡ false) q (own ∙ e)
    clear e r (inr d) = each r ∙ and_no (bit a r) (m r && eqb k r) (and_no (m r) (eqb k r) (ne_eqb k r d))

    none : (bit a k && m k) ≡ false → not (eqb (bit_and a b) 0) ≡ (bit a k && m k)
    none e = ap not (eq-eqb (bit_and a b) 0 (no_bits (λ r. clear e r (split_eq k r)))) ∙ sym e

-- the context at a place of a type meets ρ and μ where the roles of the type and the mask of the pair meet; f is the type's first place
pub meets_at : {p : Policy} {n : Counts} {plan : List ℕ} {o y f : ℕ} → PolicyPlan p n plan → OfType n o y → f ≡ first_place n o
    → not (eqb (bit_and (roles_at plan o) (holders_at plan (y - f))) 0) ≡ meetsρμ p (context_at_index n y)
unfolding meetsρμ
meets_at {p} {n} {plan} {o} {y} {f} P H first =
    let i : ℕ = y - f in
    let h : i < pair_count n = of_pair P.counts.countable H first in
    let t : o < type_entries = let a = P.counts.types in let b = H.type.high in omega arith in
    meet_law (roles_at plan o) (holders_at plan i) (role_at n i) (μ p (user_at n i)) (P.held.holders i h).at
    ∙ ap (λ (b : Bool). b && μ p (user_at n i) (role_at n i)) (P.held.roles o (role_at n i) t)
    ∙ ap (λ (x : Context). ρ p x.role x.ty && μ p x.user x.role) (of_same P.counts.countable H first)

-- ---- making
pub held_put : {p : Policy} {n : Counts} {roles old p1 plan : List ℕ} → RoleTable p roles
    → Filled (λ i v. v ≡ get_or roles i 0) old p1 roles_start 0 type_entries
    → Filled (λ i v. HolderOf p n i v) p1 plan holders_start 0 (pair_count n) → HeldPut p n old plan
held_put R A B =
    record {
      held = record {
        roles = λ t r h. ap (λ (v : ℕ). bit v r) (B.below (roles_start + t) (omega arith) ∙ A.here t (omega arith) h) ∙ R.at t r h;
        holders = λ i h. B.here i (omega arith) h;
      };
      below = λ i h. B.below i (omega arith) ∙ A.below i (omega arith);
    }

pub held_kept : {p : Policy} {n : Counts} {old new : List ℕ} → PlanCounts n → Kept event_sets_start old new → Holding p n old → Holding p n new
held_kept {p} {n} C same H =
    let k = pairs_few C in
    record {
      roles = λ t r h. ap (λ (v : ℕ). bit v r) (same (roles_start + t) (omega arith)) ∙ H.roles t r h;
      holders = λ i h. subst (HolderOf p n i) (sym (same (holders_start + i) (omega arith))) (H.holders i h);
    }
