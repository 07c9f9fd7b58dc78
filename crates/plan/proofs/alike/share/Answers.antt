use mathlib.Core.Path.{sym, ap, ◌≡◌, ◌∙◌}
use Rattle.base.specs.Bits.{bit}
use Prim.Native.Nat.{ℕ}
use Rattle.base.proofs.BoolLaws.{and_first}
use Rattle.plan.proofs.LeadLaws.{shared_more}
use Rattle.plan.proofs.alike.share.Goals as goal

pub loop-q-init : goal.loop-q-init
loop-q-init c =
    let e : c.into_iter-q-iterator.result.left ≡ c.args.mask = cc in
    (λ q b. ap (λ (m : ℕ). bit m q) (sym e) ∙ b, record { table = λ plan M A. A })

pub loop-q-preserved : goal.loop-q-preserved
loop-q-preserved c =
    let T = c.in-Some.ensures.steps in (
      λ q b. c.loop-q.invariant.0 q (and_first _ _ (sym (T.at q) ∙ b)),
      shared_more c.requires T.least.small (c.loop-q.invariant.0 _ T.least.has) c.loop-q.invariant.1,
    )

pub returns : goal.returns
returns c = c.loop-q.invariant.1
