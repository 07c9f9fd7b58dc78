-- Each way out knows the answers to the two tests of `constrains`, and the last one the value of the root.
use mathlib.Core.Path.{ap, sym, ◌∙◌}
use mathlib.Core.Bool.{Bool, ◌&&◌}
use native.Mathlib.Omega.{arith}
use borrow.Author.Tests.{eq-eqb, ne_eqb}
use lib.Dec.{eqb}
use Rattle.base.specs.Bits.{bit}
use Rattle.base.proofs.BoolLaws.{and_no, and_true}
use Rattle.constraints.proofs.NodeWordLaws.{constraint_off, constraint_on}
use Rattle.constraints.proofs.constraint_word.Goals as goal

-- another class
pub returns-then-r-e : goal.returns-then-r-e
returns-then-r-e c =
    let a = c.args in
    constraint_off (ap (λ (b : Bool). b && bit a.r.mask a.e.perm) (ne_eqb a.r.a a.e.class (omega arith)))

-- another permission
pub returns-then-not-has_bit : goal.returns-then-not-has_bit
returns-then-not-has_bit c =
    let a = c.args in
    let h = c.has_bit in
    constraint_off (and_no (eqb a.r.a a.e.class) (bit a.r.mask a.e.perm) (sym h.ensures ∙ c.if-not-has_bit.true))

-- on the event
pub returns : goal.returns
returns c =
    let a = c.args in
    let h = c.has_bit in
    constraint_on
    (and_true (eqb a.r.a a.e.class) (bit a.r.mask a.e.perm) (eq-eqb a.r.a a.e.class (omega arith)) (sym h.ensures ∙ c.if-not-has_bit.false))
    c.eval.ensures
