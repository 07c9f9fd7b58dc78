use Prim.Native.Nat.{ℕ}
use mathlib.Core.Path.{◌≡◌, refl, sym, ap, ap₂, ◌∙◌}
use mathlib.Core.Bool.{Bool, cond, ◌&&◌}
use mathlib.Core.List.{List}
use lib.Bits.{bit_or}
use Rattle.context.specs.declared.Context.{Context}
use Rattle.plan.specs.Inner.Entries.{link_at, marks_at}
use Rattle.plan.specs.Inner.Sets.{record_fits, listed, listed_for}
use Rattle.plan.proofs.SetLaws.{listed_step, listed_end}
use native.Mathlib.Omega.{arith}
use Rattle.plan.proofs.sets.named_sets.Goals as goal
use Rattle.plan.proofs.sets.named_sets.Goals.{then-role-user, else-role-user}

pub overflow_cast-k-2 : goal.overflow_cast-k-2
overflow_cast-k-2 c = omega (arith, c.requires.0.heads c.args.x.ty c.requires.2)

pub loop-k-init : goal.loop-k-init
loop-k-init c = (c.requires.0, c.requires.1, c.requires.0.heads c.args.x.ty c.requires.2, refl)

pub overflow_cast-k-in-loop-k : goal.overflow_cast-k-in-loop-k
overflow_cast-k-in-loop-k c =
    let v = c.loop-k.invariant in omega (arith, v.0.links c.loop-k.k (omega (arith, c.loop-k-test.true)) v.2)

pub loop-k-smaller : goal.loop-k-smaller
loop-k-smaller c =
    let v = c.loop-k.invariant in v.0.links c.loop-k.k (omega (arith, c.loop-k-test.true)) v.2

pub returns : goal.returns
returns c = sym (listed_end c.loop-k.invariant.0 c.args.x c.loop-k-test.false) ∙ c.loop-k.invariant.3

pub loop-k-preserved : goal.loop-k-preserved
loop-k-preserved c =
    let v = c.loop-k.invariant in
    let n = c.loop-k-test.true in
    let plan : List ℕ = c.args.plan.now in
    let x : Context = c.args.x in
    let k : ℕ = c.loop-k.k in
    let l = v.0.links k (omega arith) v.2 in
    let fit = ap₂ ◌&&◌ c.fits_field-role.ensures c.fits_field-user.ensures in
    let at : ℕ → ℕ = listed plan x (link_at plan k) (link_at plan k) in
    let by : Bool → ℕ = λ b. at (cond b (bit_or c.loop-k.sets (marks_at plan k)) c.loop-k.sets) in
    let step : by (record_fits plan x k) ≡ listed_for plan x = sym (listed_step v.0 x k c.loop-k.sets v.2 n) ∙ v.3 in (
      v.0,
      v.1,
      omega arith,
      elim c.if-role-user.branch [
        | then-role-user w ↦ ap at w.sets-is ∙ ap by (sym (sym fit ∙ w.if-role-user.true)) ∙ step
        | else-role-user w ↦ ap at w.sets-is ∙ ap by (sym (sym fit ∙ w.if-role-user.false)) ∙ step
      ],
    )
