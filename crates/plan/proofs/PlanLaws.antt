-- The three parts of a plan, from what was put into it.
use Prim.Native.Nat.{ℕ, ◌+◌, ◌*◌, ◌/◌, ◌%◌, ◌≤◌, ◌<◌}
use mathlib.Core.Path.{◌≡◌, sym, subst, ap, ◌∙◌}
use mathlib.Core.Bool.{Bool, true, not, ◌||◌}
use mathlib.Core.List.{List}
use mathlib.Core.Logic.{⊎_elim}
use native.Mathlib.Omega.{arith}
use borrow.Author.Tests.{le-ltb}
use lib.Dec.{ltb}
use lib.ListN.{length, get_or, replicate}
use Rattle.base.specs.Bits.{bit}
use Rattle.base.specs.Inner.Fill.{Filled}
use Rattle.base.proofs.Numbers.{split_le}
use Rattle.policy_image.specs.declared.counts.Counts.{Counts}
use Rattle.policy_image.specs.Policy.{Policy, policy_of}
use Rattle.policy_image.specs.Inner.Counting.{counting}
use Rattle.policy_image.specs.OfKind.{some}
use Rattle.policy_sources.specs.Sources.{domain}
use Rattle.relations.specs.Relations.{ρ, μ, role_change}
use Rattle.plan_index.specs.Inner.Codes.{record_numbers, record_words}
use Rattle.plan_index.specs.Inner.Counting.{is_counted, all_bits}
use Rattle.plan_index.proofs.CountingLaws.{every_counted}
use Rattle.plan_tables.specs.Inner.Groups.{ConstraintGroups}
use Rattle.plan.specs.Inner.Regions.{event_entries, changes_start, groups_start, event_sets_start, counted_start, first_start, keys_start, type_special_start, plan_entries}
use Rattle.plan.specs.Inner.Entries.{counted_at, first_at, key_at, type_special_at}
use Rattle.plan.specs.Inner.Sets.{Falls}
use Rattle.plan.specs.Inner.Plan.{Ready, special, Tabled, Grouped, Holding, PolicyPlan, AlikePlan, Prepared, ruled, OfferBlocks, SpecialOf}
use Rattle.plan.specs.Inner.Put.{Kept, GroupsPut, HeldPut, BlocksPut, TypeSpecialPut, LeadsPut, RulesPut}
use Rattle.plan.proofs.ContextLaws.{plan_counts, held_kept}
use Rattle.plan.proofs.NamedLaws.{falls_kept}
use Rattle.plan.proofs.BlockLaws.{types_same, all_few, kept_blocks, kept_special}
use Rattle.plan.proofs.LeadLaws.{grouped_kept, alikes_kept, last_first}

-- ---- the part of the policy
tabled_kept : {p : Policy} {old new : List ℕ} → Kept groups_start old new → Tabled p old → Tabled p new
tabled_kept K T =
    record {
      special_at_lem = λ c q h. ap (λ (k : ℕ). bit k q) (K c (omega arith)) ∙ T.special_at_lem c q h;
      change = λ r1 r2 h. ap (λ (k : ℕ). bit k r2) (K (changes_start + r1) (omega arith)) ∙ T.change r1 r2 h;
    }

pub groups_put : {p : Policy} {groups old plan : List ℕ} → ConstraintGroups p groups → Filled (λ i v. v ≡ get_or groups i 0) old plan groups_start 0 event_entries → GroupsPut p old plan
groups_put G F =
    record {
      groups = record { sound = λ c q i lc lq li b. G.sound c q i lc lq li (subst (λ (v : ℕ). bit v i ≡ true) (F.here (32 * c + q) (omega arith) (omega arith)) b) };
      below = λ i h. F.below i (omega arith);
    }

pub policy_plan : {s p1 p2 plan : List ℕ} {n : Counts} → Ready s n → Tabled (policy_of s) p1 → GroupsPut (policy_of s) p1 p2 → HeldPut (policy_of s) n p2 plan → PolicyPlan (policy_of s) n plan
policy_plan R T G H =
    record {
      counts = plan_counts R;
      tables = tabled_kept (λ i h. H.below i (omega arith) ∙ G.below i h) T;
      groups = grouped_kept H.below G.groups;
      held = H.held;
    }

-- what is put above it leaves it
policy_kept : {p : Policy} {old new : List ℕ} {n : Counts} → Kept event_sets_start old new → PolicyPlan p n old → PolicyPlan p n new
policy_kept K P =
    record {
      counts = P.counts;
      tables = tabled_kept (λ i h. K i (omega arith)) P.tables;
      groups = grouped_kept (λ i h. K i (omega arith)) P.groups;
      held = held_kept P.counts K P.held;
    }

-- it speaks of no allow record
grouped_counted : (f : ℕ → Bool) {p : Policy} {plan : List ℕ} → Grouped p plan → Grouped (counting f p) plan
grouped_counted f G = record { sound = λ c q i lc lq li b. record { same = (G.sound c q i lc lq li b).same } }

tabled_counted : (f : ℕ → Bool) {p : Policy} {plan : List ℕ} → Tabled p plan → Tabled (counting f p) plan
unfolding special role_change some
tabled_counted f T = record { special_at_lem = T.special_at_lem; change = T.change }

held_counted : (f : ℕ → Bool) {p : Policy} {n : Counts} {plan : List ℕ} → Holding p n plan → Holding (counting f p) n plan
unfolding ρ μ domain some
held_counted f H = record { roles = H.roles; holders = λ i h. record { at = (H.holders i h).at } }

policy_counted : (f : ℕ → Bool) {p : Policy} {n : Counts} {plan : List ℕ} → PolicyPlan p n plan → PolicyPlan (counting f p) n plan
policy_counted f P =
    record { counts = P.counts; tables = tabled_counted f P.tables; groups = grouped_counted f P.groups; held = held_counted f P.held }

-- ---- what is put over it, of a goal or of two contexts
pub prepared : {s old plan : List ℕ} {n : Counts} → PolicyPlan (policy_of s) n old → Kept event_sets_start old plan → AlikePlan plan → Falls plan → Prepared s n plan
prepared P K A F = record { policy = policy_kept K P; alike = A; falls = F }

-- what is put above both leaves them
pub prepared_kept : {s old new : List ℕ} {n : Counts} → Kept counted_start old new → Prepared s n old → Prepared s n new
prepared_kept K P =
    record {
      policy = policy_kept (λ i h. K i (omega arith)) P.policy;
      alike = alikes_kept K P.alike;
      falls = falls_kept (λ i h. K i (omega arith)) P.falls;
    }

-- ---- the part of the rules
-- the policy of which a plan speaks is that in which the records of its set count
counted_at_lem : (counted plan : List ℕ) → ((i : ℕ) → i < record_words → get_or plan (counted_start + i) 0 ≡ get_or counted i 0) → (k : ℕ) → counted_at plan k ≡ is_counted counted k
counted_at_lem counted plan S k =
    ⊎_elim
    (λ (h : record_numbers ≤ k).
    ap (λ (b : Bool). not b || bit (get_or plan (counted_start + k / 32) 0) (k % 32)) (le-ltb k record_numbers h)
    ∙ sym (ap (λ (b : Bool). not b || bit (get_or counted (k / 32) 0) (k % 32)) (le-ltb k record_numbers h)))
    (λ (h : k < record_numbers). ap (λ (w : ℕ). not (ltb k record_numbers) || bit w (k % 32)) (S (k / 32) (omega arith)))
    (split_le record_numbers k)

ruled_by : (s counted plan : List ℕ) → ((i : ℕ) → i < record_words → get_or plan (counted_start + i) 0 ≡ get_or counted i 0) → ruled s plan ≡ counting (is_counted counted) (policy_of s)
ruled_by s counted plan S = λ j. counting (λ k. counted_at_lem counted plan S k j) (policy_of s)

module _ (s counted old p1 p2 p3 plan : List ℕ) {n : Counts} {types : ℕ} (R : Ready s n) (size : plan_entries ≤ length plan) (same : types ≡ n.types) (P : Prepared s n old)
    (F : Filled (λ i v. v ≡ get_or counted i 0) old p1 counted_start 0 record_words) (B : BlocksPut (counting (is_counted counted) (policy_of s)) p1 p2) (D : TypeSpecialPut types p2 p3)
    (L : LeadsPut types p3 plan) where
  abbrev q : Policy
  q = counting (is_counted counted) (policy_of s)

  to_two : Kept type_special_start p2 plan
  to_two i h = L.below i (omega arith) ∙ D.below i h

  below : Kept counted_start old plan
  below i h = to_two i (omega arith) ∙ B.below i (omega arith) ∙ F.below i (omega arith)

  is_ruled : ruled s plan ≡ q
  is_ruled = ruled_by s counted plan (λ i h. to_two (counted_start + i) (omega arith) ∙ B.below (counted_start + i) (omega arith) ∙ F.here i (omega arith) h)

  types_all : types ≡ q.counts.types
  types_all = same ∙ types_same R

  index : OfferBlocks q plan
  index = kept_blocks q p2 plan (all_few R) to_two B.blocks

  all : Prepared s n plan
  all = prepared_kept below P

  grouped : Grouped (ruled s plan) p3
  grouped = grouped_counted (counted_at plan) (grouped_kept (λ i h. sym (L.below i (omega arith))) all.policy.groups)

  pub rules_put : RulesPut s counted n old plan
  rules_put =
      record {
        planned = record {
          size = size;
          policy = policy_counted (counted_at plan) all.policy;
          index = subst (λ (x : Policy). OfferBlocks x plan) (sym is_ruled) index;
          type_special = λ t w.
              let h = w.high in
              let k = all_few R in
              kept_special q p2 plan (all_few R) to_two B.blocks t (type_special_at plan t) w
              (subst (SpecialOf p2 (first_at p2 t) (first_at p2 (t + 1))) (sym (L.below (type_special_start + t) (omega arith))) (D.type_special t (record { low = w.low; high = omega (arith, types_all) })));
          leads = λ t j w lo hi.
              let k = last_first index t w in
              let few = all_few R in
              let top = index.tops t w in
              let f : first_at plan (types + 1) ≡ first_at p3 (types + 1) = L.below (first_start + (types + 1)) (omega (arith, types_all)) in
              let a : first_at plan (types + 1) ≡ first_at plan ((policy_of s).counts.types + 1) = ap (λ (i : ℕ). first_at plan (i + 1)) types_all in
              let key : key_at plan j ≡ key_at p3 j = L.below (keys_start + j) (omega arith) in
              L.leads (ruled s plan) grouped j (omega arith) (let z = ((index.blocks t w).ranged j lo hi).class.high in omega arith);
          falls = all.falls;
        };
        same = is_ruled;
        below = below;
      }

-- where all of them count it is that of the image
pub all_ruled : {s old plan : List ℕ} {n : Counts} → RulesPut s (replicate record_words all_bits) n old plan → ruled s plan ≡ policy_of s
all_ruled {s} P = P.same ∙ (λ j. counting (λ i. every_counted i j) (policy_of s))
