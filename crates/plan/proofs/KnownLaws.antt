-- What a plan knows of events and of roles, from the tables that it is made of.
use Prim.Native.Nat.{ℕ, ◌+◌}
use mathlib.Core.Path.{◌≡◌, sym, subst, ap, ap₂, ◌∙◌}
use mathlib.Core.Bool.{Bool, ◌&&◌, ◌||◌, or-false}
use mathlib.Core.List.{List}
use mathlib.Core.Logic.{⊎_elim}
use native.Mathlib.Omega.{arith}
use borrow.Author.Tests.{ne_eqb, eq-eqb}
use lib.Dec.{eqb}
use lib.ListN.{length, get_or, set}
use lib.Seq.{get_or-set_same, get_or-set_other}
use Rattle.base.specs.Bits.{bit}
use Rattle.base.specs.Inner.Masks.{With}
use Rattle.base.proofs.Numbers.{split_eq}
use Rattle.policy_image.specs.Policy.{Policy}
use Rattle.policy_image.specs.OfKind.{some}
use Rattle.context.specs.declared.Context.{Context}
use Rattle.context.specs.declared.Event.{Event}
use Rattle.context.specs.Codes.{event_at, is_transition}
use Rattle.context.specs.Inner.Coding.{transition}
use Rattle.constraints.specs.Constraints.{constrains}
use Rattle.goal_image.specs.Goal.{Goal}
use Rattle.goal_image.specs.Inner.Memberships.{ContextSets, EventSets}
use Rattle.plan_tables.specs.Inner.Tables.{ConstraintMasks, RoleChanges}
use Rattle.base.specs.Inner.Fill.{Filled}
use Rattle.plan.specs.Inner.Regions.{class_entries, role_entries, special_start, changes_start}
use Rattle.plan.specs.Inner.Plan.{special, Tabled}

pub zero_plus : (c : ℕ) → 0 + c ≡ c
zero_plus c = omega arith

-- ---- contexts and events
pub sets_same : {g : Goal} {x x' : Context} {v : ℕ} → x ≡ x' → ContextSets g x v → ContextSets g x' v
sets_same {g} {v = v} q S = subst (λ (k : Context). ContextSets g k v) q S

pub event_same : {g : Goal} {e e' : Event} {v : ℕ} → e ≡ e' → EventSets g e v → EventSets g e' v
event_same {g} {v = v} q S = subst (λ (k : Event). EventSets g k v) q S

-- ---- special events, and roles
module _ {p : Policy} {masks : List ℕ} (C : ConstraintMasks p masks) (size : length masks ≡ 32) {w : ℕ} (W : With (get_or masks transition.class 0) transition.perm w) where
  marked : (c q : ℕ) → bit (get_or (set masks transition.class w) c 0) q ≡ special p (event_at c q)
  unfolding special
  marked c q =
      ⊎_elim
      (λ (e : c ≡ transition.class).
      subst (λ (k : ℕ). bit (get_or (set masks transition.class w) k 0) q ≡ (some p 8 (λ r. constrains r (event_at k q)) || is_transition (event_at k q))) (sym e)
      (ap (λ (k : ℕ). bit k q) (get_or-set_same masks transition.class w 0 (omega arith)) ∙ W.at q ∙ ap₂ ◌||◌ (C.at transition.class q) (zero_is q)))
      (λ (d : c ≡ transition.class → ⊥).
      ap (λ (k : ℕ). bit k q) (get_or-set_other masks transition.class c w 0 d) ∙ C.at c q
      ∙ sym (ap (λ (b : Bool). some p 8 (λ r. constrains r (event_at c q)) || (b && eqb q 0)) (ne_eqb c transition.class d) ∙ or-false _))
      (split_eq c transition.class)
    where
      zero_is : (i : ℕ) → eqb 0 i ≡ eqb i 0
      zero_is i = ⊎_elim (λ (e : i ≡ 0). eq-eqb 0 i (sym e) ∙ sym (eq-eqb i 0 e)) (λ (d : i ≡ 0 → ⊥). ne_eqb 0 i (λ e. d (sym e)) ∙ sym (ne_eqb i 0 d)) (split_eq i 0)

  pub tabled : {changes old mid new : List ℕ} → RoleChanges p changes
      → Filled (λ i v. v ≡ get_or (set masks transition.class w) i 0) old mid special_start 0 class_entries
      → Filled (λ i v. v ≡ get_or changes i 0) mid new changes_start 0 role_entries
      → Tabled p new
  tabled {changes} {old} {mid} {new} R A B =
      record {
        special_at_lem = λ c q h. ap (λ (k : ℕ). bit k q) (B.below c (omega arith) ∙ ap (λ (k : ℕ). get_or mid k 0) (sym (zero_plus c)) ∙ A.here c (omega arith) h) ∙ marked c q;
        change = λ r1 r2 h. ap (λ (k : ℕ). bit k r2) (B.here r1 (omega arith) h) ∙ R.at r1 r2 h;
      }
