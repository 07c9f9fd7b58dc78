-- The questions in order, then the writing.
use Prim.Native.Nat.{ℕ, ◌+◌, ◌≤◌}
use mathlib.Core.List.{List}
use mathlib.Core.Path.{refl, sym, ◌∙◌}
use native.Mathlib.Omega.{arith}
use lib.ListN.{length, get_or}
use Rattle.std.proofs.Common.{Ok}
use Rattle.policy_image.specs.declared.counts.Counts.{Counts}
use Rattle.policy_image.specs.Policy.{policy_of}
use Rattle.policy_image.specs.Inner.Sizes.{image_size, most_records}
use Rattle.policy_check.specs.Inner.Answer.{PolicyAnswer}
use Rattle.policy_check.specs.Inner.Sound.{Sound}
use Rattle.policy_check.proofs.AnswerLaws.{sound}
use Rattle.policy_lists.proofs.NodeLaws.{most_length}
use Rattle.policy_runs.proofs.ImageWriteLaws.{records_of}
use Rattle.canonical.proofs.AskedLaws.{too_many, too_short, result_length, all_passed, can_be_written, past_result}
use Rattle.canonical.proofs.canonical.Goals.{After-count_kinds-of, Else-output-bytes, In_ok-counts}
use Rattle.canonical.proofs.canonical.Goals as goal

-- what is known where the policy is accepted
module _ (A : In_ok-counts) where
  abbrev s : List ℕ
  s = A.args.policy.now

  abbrev room : ℕ
  room = length A.args.output.now

  abbrev counts : Counts
  counts = A.in_ok-counts.counts

  passed : PolicyAnswer s (Ok counts)
  passed = A.in_ok-counts.ensures

  image : Sound s
  image = sound s passed.1

-- .. and where its facts are a table, and its records counted
module _ (K : After-count_kinds-of) where
  few_of : (k : ℕ) → 1 ≤ k → k ≤ 9 → get_or K.count_kinds-of.result k 0 ≤ most_records
  few_of k l h =
      let p = K.args.policy.now in
      let n = most_length (policy_of p).rec k (policy_of p).size in
      let S = sound p K.in_ok-counts.ensures.1 in
      omega (arith, K.count_kinds-of.ensures k l h, n, S.exact.few)

-- the policy is accepted, the result has few enough records, and there is room
module _ (F : Else-output-bytes) where
  abbrev records : ℕ
  records = F.make_table-facts.result + (get_or F.count_kinds-of.result 8 0 + get_or F.count_kinds-of.result 9 0)

  few : records ≤ most_records
  few = omega arith

  fits : image_size records ≤ length F.args.output.now
  fits = omega (arith, F.image_size-bytes.ensures.0)

pub make_table-facts-requires : goal.make_table-facts-requires
make_table-facts-requires c =
    let K = (goal.at.make_table-facts-requires c).In_ok-counts in
    (image K, records_of (s K) (passed K).0, omega arith, omega arith)

pub count_kinds-of-requires : goal.count_kinds-of-requires
count_kinds-of-requires c =
    let K = (goal.at.count_kinds-of-requires c).In_ok-counts in
    ((image K).exact, (image K).chains, records_of (s K) (passed K).0)

pub overflow_add-records : goal.overflow_add-records
overflow_add-records c =
    let K = (goal.at.overflow_add-records c).After-count_kinds-of in
    omega (arith, few_of K 8 (omega arith) (omega arith), few_of K 9 (omega arith) (omega arith))

pub overflow_add-records-2 : goal.overflow_add-records-2
overflow_add-records-2 c =
    let K = (goal.at.overflow_add-records-2 c).After-count_kinds-of in
    omega (arith, few_of K 8 (omega arith) (omega arith), few_of K 9 (omega arith) (omega arith), c.make_table-facts.ensures.0)

pub returns-then-records-gt-MOST_RECORDS : goal.returns-then-records-gt-MOST_RECORDS
returns-then-records-gt-MOST_RECORDS c =
    let K = (goal.at.returns-then-records-gt-MOST_RECORDS c).In_ok-counts in
    (too_many (s K) (room K) (passed K) c.make_table-facts.ensures.1 c.count_kinds-of.result c.count_kinds-of.ensures (omega arith), refl)

pub returns-then-output-bytes : goal.returns-then-output-bytes
returns-then-output-bytes c =
    let K = (goal.at.returns-then-output-bytes c).In_ok-counts in
    (too_short (s K) (room K) (passed K) c.make_table-facts.ensures.1 c.count_kinds-of.result c.count_kinds-of.ensures (omega arith) (omega (arith, c.image_size-bytes.ensures.0)), refl)

pub write-requires : goal.write-requires
write-requires c =
    let K = (goal.at.write-requires c).In_ok-counts in
    let F = (goal.at.write-requires c).Else-output-bytes in
    can_be_written (s K) (room K) (passed K) c.make_table-facts.ensures.1 c.count_kinds-of.result c.count_kinds-of.ensures (few F) (fits F)
    (λ i. omega (arith, c.type_inv.policy i)) (omega (arith, few F, c.make_table-facts.auto.keys)) (omega (arith, few F, c.make_table-facts.auto.masks))

pub returns : goal.returns
returns c =
    let K = (goal.at.returns c).In_ok-counts in
    let F = (goal.at.returns c).Else-output-bytes in
    let T = c.make_table-facts.ensures.1 in
    let O = c.count_kinds-of.ensures in (
      all_passed (s K) (room K) (passed K) T c.count_kinds-of.result O (few F) (fits F),
      c.image_size-bytes.ensures.0 ∙ sym (result_length (s K) (room K) (passed K) T c.count_kinds-of.result O (few F)),
      past_result (s K) (room K) (passed K) T c.count_kinds-of.result O (few F) (fits F) _ c.image_size-bytes.ensures.0 _ _ c.write.ensures,
    )
