use Rattle.policy_image.proofs.LayoutLaws.{payload_there, payload_low, payload_high, payload_short}
use mathlib.Core.Path.{sym}
use native.Mathlib.Nat.{add-sub_cancel_left}
use native.Mathlib.Omega.{arith}
use Rattle.policy_image.proofs.records.payload.Goals as goal

pub returns-then-k-lt1 : goal.returns-then-k-lt1
returns-then-k-lt1 c = sym (payload_low _ _ (omega arith))

pub returns-then-k-gt-MOST_RECORDS : goal.returns-then-k-gt-MOST_RECORDS
returns-then-k-gt-MOST_RECORDS c = sym (payload_high _ _ (omega arith) (omega arith))

pub returns-then-image-end : goal.returns-then-image-end
returns-then-image-end c = sym (payload_short _ _ (omega arith) (omega arith) (omega arith))

pub returns : goal.returns
returns c = rw add-sub_cancel_left (sym (payload_there _ _ (omega arith) (omega arith) (omega arith)))
