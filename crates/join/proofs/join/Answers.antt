-- The questions in order, then the writing.
use Prim.Native.Nat.{ℕ, ◌+◌, ◌≤◌}
use mathlib.Core.List.{List}
use mathlib.Core.Path.{refl, sym, ◌∙◌}
use native.Mathlib.Omega.{arith}
use lib.ListN.{length}
use Rattle.std.proofs.Common.{Ok}
use Rattle.policy_image.specs.declared.counts.Counts.{Counts}
use Rattle.policy_image.specs.Inner.Sizes.{image_size, most_records}
use Rattle.policy_check.specs.Inner.Answer.{PolicyAnswer}
use Rattle.join.proofs.AskedLaws.{few_records, too_many, too_short, result_length, all_passed, can_be_joined, past_result}
use Rattle.join.proofs.join.Goals.{In_ok-makers, In_ok-boards, Else-output-bytes}
use Rattle.join.proofs.join.Goals as goal

-- what is known where the maker's policy is accepted
module _ (A : In_ok-makers) where
  abbrev s : List ℕ
  s = A.args.maker.now

  abbrev t : List ℕ
  t = A.args.board.now

  abbrev room : ℕ
  room = length A.args.output.now

  abbrev makers : Counts
  makers = A.in_ok-makers.makers

  maker_passed : PolicyAnswer s (Ok makers)
  maker_passed = A.in_ok-makers.ensures

-- .. and the board's
module _ (B : In_ok-boards) where
  abbrev boards : Counts
  boards = B.in_ok-boards.boards

  board_passed : PolicyAnswer B.args.board.now (Ok boards)
  board_passed = B.in_ok-boards.ensures

-- neither is refused, there are few enough records, and there is room
module _ (F : Else-output-bytes) where
  few : F.in_ok-makers.makers.records + F.in_ok-boards.boards.records ≤ most_records
  few = omega arith

  fits : image_size (F.in_ok-makers.makers.records + F.in_ok-boards.boards.records) ≤ length F.args.output.now
  fits = omega (arith, F.image_size-bytes.ensures.0)

pub overflow_add-records : goal.overflow_add-records
overflow_add-records c =
    let A = (goal.at.overflow_add-records c).In_ok-makers in
    let B = (goal.at.overflow_add-records c).In_ok-boards in
    omega (arith, few_records (s A) (maker_passed A), few_records (t A) (board_passed B))

pub returns-then-records-gt-MOST_RECORDS : goal.returns-then-records-gt-MOST_RECORDS
returns-then-records-gt-MOST_RECORDS c =
    let A = (goal.at.returns-then-records-gt-MOST_RECORDS c).In_ok-makers in
    let B = (goal.at.returns-then-records-gt-MOST_RECORDS c).In_ok-boards in
    (too_many (s A) (t A) (room A) (maker_passed A) (board_passed B) (omega arith), refl)

pub returns-then-output-bytes : goal.returns-then-output-bytes
returns-then-output-bytes c =
    let A = (goal.at.returns-then-output-bytes c).In_ok-makers in
    let B = (goal.at.returns-then-output-bytes c).In_ok-boards in
    (too_short (s A) (t A) (room A) (maker_passed A) (board_passed B) (omega arith) (omega (arith, c.image_size-bytes.ensures.0)), refl)

pub write-requires : goal.write-requires
write-requires c =
    let A = (goal.at.write-requires c).In_ok-makers in
    let B = (goal.at.write-requires c).In_ok-boards in
    let F = (goal.at.write-requires c).Else-output-bytes in
    can_be_joined (s A) (t A) (room A) (maker_passed A) (board_passed B) (few F) (fits F)
    (λ i. omega (arith, c.type_inv.maker i)) (λ i. omega (arith, c.type_inv.board i))

pub returns : goal.returns
returns c =
    let A = (goal.at.returns c).In_ok-makers in
    let B = (goal.at.returns c).In_ok-boards in
    let F = (goal.at.returns c).Else-output-bytes in
    let l = result_length (s A) (t A) (room A) (maker_passed A) (board_passed B) (few F) in (
      all_passed (s A) (t A) (room A) (maker_passed A) (board_passed B) (few F) (fits F),
      c.image_size-bytes.ensures.0 ∙ sym l,
      past_result (s A) (t A) (room A) (maker_passed A) (board_passed B) (few F) (fits F) _ c.image_size-bytes.ensures.0 _ _ c.write.ensures,
    )
