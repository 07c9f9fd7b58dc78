use Prim.Native.Nat.{ℕ, ◌+◌, ◌-◌, ◌/◌, ◌^◌}
use mathlib.Core.Path.{◌≡◌, sym, ap, subst, ◌∙◌}
use native.Mathlib.Omega.{arith}
use borrow.Author.Tests.{eqb-true, eqb-false}
use Rattle.base.proofs.BoolLaws.{clash}
use Rattle.base.proofs.Decide.{decides_iff, decides_no, yes_of, no_of}
use Rattle.base.specs.Bits.{bit}
use Rattle.goal_image.specs.Layout.{goal_head}
use Rattle.goal_image.proofs.LegLaws.{flags_yes, flags_no}
use Rattle.goal_image.proofs.check.legs_in_range.Goals as goal
use Rattle.goal_image.proofs.check.legs_in_range.Goals.{then-within, else-within, then-legs-n-eq0, else-legs-n-eq0}

-- the answer is that of the last test, where those before it are passed
pub returns-then-heads_are_zero : goal.returns-then-heads_are_zero
returns-then-heads_are_zero c =
    let g = c.args.goal.now in
    let m = c.args.legs.repeated in
    let n = c.args.legs.count in
    let last = c.heads_are_zero-then-heads_are_zero in
    elim c.if-legs-n-eq0.branch [
      | then-legs-n-eq0 w ↦ elim c.if-within.branch [
        | then-within u ↦
            let legs = u.if-within.ensures in
            let none = eqb-true (m / 2 ^ n) 0 (sym u.value-is ∙ w.if-legs-n-eq0.true) in
            let first = yes_of w.heads_are_zero.result w.heads_are_zero.ensures (sym w.value-is ∙ c.if-heads_are_zero.true) in
            decides_iff last.result
            (λ e. record {
              legs = record { low = omega arith; high = omega arith };
              flags = λ i h. sym (ap (λ (x : ℕ). bit x i) c.requires.repeated) ∙ flags_yes m n none i (omega arith);
              contexts = λ i a b. first i (omega arith) (omega arith);
              events = λ i a b. e (7 + i) (omega arith) (omega arith);
            })
            (λ r h a b.
            let q : 7 + (h - 7) ≡ h = omega arith in
            subst (λ (x : ℕ). goal_head g x ≡ 0) q (r.events (h - 7) (omega arith) (omega arith)))
            last.ensures
        | else-within u ↦ absurd (clash w.if-legs-n-eq0.true (u.value-is ∙ u.if-within.false))
      ]
      | else-legs-n-eq0 w ↦ absurd (clash c.if-heads_are_zero.true (w.value-is ∙ w.if-legs-n-eq0.false))
    ]

-- .. and no, where one of them is not
pub returns-else-heads_are_zero : goal.returns-else-heads_are_zero
returns-else-heads_are_zero c =
    let m = c.args.legs.repeated in
    let n = c.args.legs.count in
    decides_no c.if-legs-n-eq0.value c.if-heads_are_zero.false (λ r.
    elim c.if-legs-n-eq0.branch [
      | then-legs-n-eq0 w ↦
          no_of w.heads_are_zero.result w.heads_are_zero.ensures (sym w.value-is ∙ c.if-heads_are_zero.false)
          (λ h a b. r.contexts h (omega arith) (omega arith))
      | else-legs-n-eq0 w ↦ elim c.if-within.branch [
        | then-within u ↦
            eqb-false (m / 2 ^ n) 0 (sym u.value-is ∙ w.if-legs-n-eq0.false)
            (flags_no m n (λ i h. ap (λ (x : ℕ). bit x i) c.requires.repeated ∙ r.flags i (omega arith)))
        | else-within u ↦ let l = r.legs in u.if-within.ensures (record { low = omega arith; high = omega arith })
      ]
    ])
