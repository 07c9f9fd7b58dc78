-- The canonical images of the named policies, by computing: each byte, and that each image passes the checks.
use Prim.Native.Nat.{ℕ, ◌≤◌}
use mathlib.Core.Bool.{Bool, true, ◌&&◌}
use mathlib.Core.List.{List}
use mathlib.Core.Path.{◌≡◌, refl, sym, ap, subst, ◌∙◌}
use native.Mathlib.Omega.{arith}
use lib.ListN.{length}
use Rattle.base.specs.Bits.{bit}
use Rattle.base.specs.Questions.{AllYes}
use Rattle.base.proofs.BoolLaws.{and_first, and_second}
use Rattle.policy_image.specs.declared.records.Record.{Record}
use Rattle.policy_image.specs.Layout.{counts_of, record_count, record_of, policy_head, payload_of, decoded, root_of, left_of, right_of}
use Rattle.policy_image.specs.Policy.{Policy, policy_of}
use Rattle.policy_image.specs.Encoding.{count_bytes, header_bytes, record_bytes, image_of}
use Rattle.policy_image.specs.OfKind.{some}
use Rattle.policy_image.specs.Cases.Weir.{weir}
use Rattle.policy_expressions.specs.Nodes.{use_of}
use Rattle.policy_check.specs.Questions.{policy_questions}
use Rattle.policy_check.proofs.Tests.{exact_b, range_b, links_b, chains_b, fields_b, nodes_b, sources_b, Accepted, Refused, accepted, refused_2, refused_14}
use Rattle.policy_lists.specs.Lists.{record_in, policy_from}
use Rattle.policy_facts.specs.Facts.{is_stated, permits, mask_of}
use Rattle.policy_facts.specs.Canonical.{canonical_list, canonical_of}
use Rattle.policy_facts.proofs.ComputedLaws.{facts_b, computed_facts, computed_list, list_computed}
use Rattle.canonical.specs.Canonical.{canonical_image}
use Rattle.weir.specs.Cases.Goals.{weir_allow41, empty}
use Rattle.weir.specs.Cases.JoinPolicies.{weir_read, no_type, leaning}
use Rattle.weir_canonical.specs.Cases.CanonicalPolicies.{weir_written, weir_read_written, allows, allows_written, overlapping, overlapping_written, emptied, emptied_written, repeated, repeated_written, both_ways, both_ways_written, by_self, by_type, self_and_type, self_and_type_written, constrained, constrained_written, first_engineer, second_engineer, engineers_written, one_permission_more, other_class, nodes_swapped, children_swapped, roomy, wide_policy}
use Rattle.weir_canonical.specs.Cases.Canonical.{CanonicalIs}

-- all that a canonical image is computed with, but for the keys of all numbers, and all that the questions of a policy are: what unfolds this
-- unfolds them
unfoldable pub written : Unit {0}
unfolding image_of header_bytes count_bytes record_bytes counts_of record_count record_of policy_head payload_of decoded use_of some is_stated permits mask_of bit
written = tt

-- ---- that a policy passes the checks, by one test
module _ (s : List ℕ) where
  abbrev last : Bool
  last = nodes_b (policy_of s) && sources_b (policy_of s)

  abbrev from_5 : Bool
  from_5 = fields_b (policy_of s) && last

  abbrev from_4 : Bool
  from_4 = chains_b (policy_of s) && from_5

  abbrev from_3 : Bool
  from_3 = links_b (policy_of s) && from_4

  abbrev from_2 : Bool
  from_2 = range_b (counts_of s) && from_3

  abbrev pub accepted_b : Bool
  accepted_b = exact_b s && from_2

  pub passing : accepted_b ≡ true → AllYes (policy_questions s)
  passing e =
      let p : Policy = policy_of s in
      let e2 = and_second (exact_b s) from_2 e in
      let e3 = and_second (range_b (counts_of s)) from_3 e2 in
      let e4 = and_second (links_b p) from_4 e3 in
      let e5 = and_second (chains_b p) from_5 e4 in
      let e6 = and_second (fields_b p) last e5 in
      let A : Accepted s =
      accepted (and_first (exact_b s) from_2 e) (and_first (range_b (counts_of s)) from_3 e2) (and_first (links_b p) from_4 e3)
      (and_first (chains_b p) from_5 e4) (and_first (fields_b p) last e5) (and_first (nodes_b p) (sources_b p) e6) (and_second (nodes_b p) (sources_b p) e6) in
      A.it

-- ---- that an image is the canonical one: its records of kinds 1 to 7 are those of the facts, and it is what is written with them
module _ (s image : List ℕ) where
  abbrev list_by : List Record
  list_by = computed_list (policy_of s) (computed_facts (policy_of s) (policy_of image))

  abbrev pub facts_by : Bool
  facts_by = facts_b (policy_of s) (policy_of image)

  abbrev pub image_by : List ℕ
  image_by = image_of (policy_from (counts_of s) list_by)

  pub writes : facts_by ≡ true → image_by ≡ image → canonical_image s ≡ image
  writes e h = ap (λ (l : List Record). image_of (policy_from (counts_of s) l)) (list_computed (policy_of s) (policy_of image) e) ∙ h

  few : facts_by ≡ true → length list_by ≤ 4095 → (canonical_of (policy_of s)).size ≤ 4095
  few e h = subst (λ (l : List Record). length l ≤ 4095) (sym (list_computed (policy_of s) (policy_of image) e)) h

-- .. and of the image itself
canonical_is : {s image : List ℕ} → accepted_b s ≡ true → accepted_b image ≡ true → length (list_by s image) ≤ 4095 → facts_by s image ≡ true
    → image_by s image ≡ image → facts_by image image ≡ true → image_by image image ≡ image → CanonicalIs s image
canonical_is {s} {image} a b h e i f j =
    record {
      accepted = passing s a;
      few = few s image e h;
      written = writes s image e i;
      passes = passing image b;
      again = writes image image f j;
    }

-- ---- policies that do not pass the checks
pub no_type_lem : Refused no_type 2
unfolding written
no_type_lem = refused_2 refl refl

pub leaning_14 : Refused leaning 14
unfolding written
leaning_14 = refused_14 refl refl refl refl refl refl refl

-- ---- the canonical images
pub weir_sorted : CanonicalIs weir weir_written
unfolding written
weir_sorted = canonical_is refl refl (omega arith) refl refl refl refl

pub allow_41 : CanonicalIs weir_allow41 weir_read_written
unfolding written
allow_41 = canonical_is refl refl (omega arith) refl refl refl refl

pub joined_read : CanonicalIs weir_read weir_read_written
unfolding written
joined_read = canonical_is refl refl (omega arith) refl refl refl refl

pub allows_sorted : CanonicalIs allows allows_written
unfolding written
allows_sorted = canonical_is refl refl (omega arith) refl refl refl refl

pub united : CanonicalIs overlapping overlapping_written
unfolding written
united = canonical_is refl refl (omega arith) refl refl refl refl

pub dropped : CanonicalIs emptied emptied_written
unfolding written
dropped = canonical_is refl refl (omega arith) refl refl refl refl

pub once : CanonicalIs repeated repeated_written
unfolding written
once = canonical_is refl refl (omega arith) refl refl refl refl

pub split : CanonicalIs both_ways both_ways_written
unfolding written
split = canonical_is refl refl (omega arith) refl refl refl refl

pub by_self_lem : CanonicalIs by_self by_self
unfolding written
by_self_lem = canonical_is refl refl (omega arith) refl refl refl refl

pub by_type_lem : CanonicalIs by_type by_type
unfolding written
by_type_lem = canonical_is refl refl (omega arith) refl refl refl refl

pub self_and_type_lem : CanonicalIs self_and_type self_and_type_written
unfolding written
self_and_type_lem = canonical_is refl refl (omega arith) refl refl refl refl

pub kept : CanonicalIs constrained constrained_written
unfolding written
kept = canonical_is refl refl (omega arith) refl refl refl refl

pub first : CanonicalIs first_engineer engineers_written
unfolding written
first = canonical_is refl refl (omega arith) refl refl refl refl

pub second : CanonicalIs second_engineer engineers_written
unfolding written
second = canonical_is refl refl (omega arith) refl refl refl refl

pub one_more : CanonicalIs one_permission_more one_permission_more
unfolding written
one_more = canonical_is refl refl (omega arith) refl refl refl refl

pub other_class_lem : CanonicalIs other_class other_class
unfolding written
other_class_lem = canonical_is refl refl (omega arith) refl refl refl refl

pub nodes_swapped_lem : CanonicalIs nodes_swapped nodes_swapped
unfolding written
nodes_swapped_lem = canonical_is refl refl (omega arith) refl refl refl refl

pub children_swapped_lem : CanonicalIs children_swapped children_swapped
unfolding written
children_swapped_lem = canonical_is refl refl (omega arith) refl refl refl refl

pub counts_kept : CanonicalIs roomy roomy
unfolding written
counts_kept = canonical_is refl refl (omega arith) refl refl refl refl

pub nothing : CanonicalIs empty empty
unfolding written
nothing = canonical_is refl refl (omega arith) refl refl refl refl

-- the one that is not accepted for its counts alone is written all the same, where no question is asked
pub no_type_written : canonical_image no_type ≡ no_type
unfolding written
no_type_written = writes no_type no_type refl refl

pub no_type_few : (canonical_of (policy_of no_type)).size ≤ 4095
unfolding written
no_type_few = few no_type no_type refl (omega arith)

-- ---- node numbers above 255: the records of kinds 1 to 7 of the wide policy stand behind its nodes
wide_list : canonical_list wide_policy ≡ computed_list wide_policy (computed_facts wide_policy wide_policy)
unfolding written
wide_list = list_computed wide_policy wide_policy refl

pub wide_root : root_of ((canonical_of wide_policy).rec 3) ≡ 258
unfolding written
wide_root = ap (λ (l : List Record). root_of (record_in l 3)) wide_list

pub wide_left : left_of ((canonical_of wide_policy).rec 258) ≡ 256
unfolding written
wide_left = ap (λ (l : List Record). left_of (record_in l 258)) wide_list

pub wide_right : right_of ((canonical_of wide_policy).rec 258) ≡ 257
unfolding written
wide_right = ap (λ (l : List Record). right_of (record_in l 258)) wide_list
