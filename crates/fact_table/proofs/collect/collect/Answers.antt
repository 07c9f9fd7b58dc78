use Prim.Native.Nat.{ℕ, ◌+◌, ◌-◌, ◌≤◌}
use mathlib.Core.Path.{◌≡◌, refl, subst, ◌∙◌}
use native.Mathlib.Omega.{arith}
use Rattle.policy_image.specs.Policy.{Policy, policy_of}
use Rattle.sorting.specs.Inner.Order.{items}
use Rattle.fact_table.specs.Inner.Collect.{Collected}
use Rattle.fact_table.proofs.CollectLaws.{collected_start, collected_more}
use Rattle.fact_table.proofs.collect.collect.Goals.{After-record_at, After-enter-n}
use Rattle.fact_table.proofs.collect.collect.Goals as goal

-- what is known where record k has been read
module _ (R : After-record_at) where
  -- there is room for what one more record says
  room : R.loop-k.n + 2 ≤ items
  room = omega (arith, R.loop-k.invariant.3.few, R.requires.1, R.requires.0.exact.few)

-- what is known where it is entered
module _ (K : After-enter-n) where
  abbrev p : Policy
  p = policy_of K.args.policy.now

  entered : Collected p K.loop-k.k K.enter-n.new.codes K.enter-n.new.given K.enter-n.result
  entered = collected_more p (K.loop-k.k - 1) K.loop-k.k (omega arith) K.loop-k.invariant.3 K.record_at.ensures.same K.enter-n.ensures

pub loop-k-init : goal.loop-k-init
loop-k-init c = (refl, refl, omega arith, collected_start _ _ _)

pub record_at-requires : goal.record_at-requires
record_at-requires c = (c.requires.0.exact, omega arith, omega (arith, c.requires.1))

pub enter-n-requires : goal.enter-n-requires
enter-n-requires c =
    let K = (goal.at.enter-n-requires c).After-record_at in
    let v = c.loop-k.invariant in
    let p = c.requires in
    (c.record_at.ensures.bytes, omega (arith, room K, v.0, p.2), omega (arith, room K, v.1, p.3))

pub loop-k-preserved : goal.loop-k-preserved
loop-k-preserved c =
    let v = c.loop-k.invariant in
    let e : c.loop-k.k + 1 - 1 ≡ c.loop-k.k = omega arith in (
      c.enter-n.auto.codes ∙ v.0,
      c.enter-n.auto.given ∙ v.1,
      omega arith,
      rw e (entered (goal.at.loop-k-preserved c).After-enter-n),
    )

pub returns : goal.returns
returns c =
    let L = c.loop-k in
    subst (λ (n : ℕ). Collected (policy_of c.args.policy.now) n L.codes L.given L.n) (omega (arith, c.requires.1)) L.invariant.3

pub shape_of-codes : goal.shape_of-codes
shape_of-codes c = c.loop-k.invariant.0

pub shape_of-given : goal.shape_of-given
shape_of-given c = c.loop-k.invariant.1

pub returns-2 : goal.returns-2
returns-2 c =
    let K = (goal.at.returns-2 c).After-enter-n in
    subst (λ (n : ℕ). Collected (p K) n c.enter-n.new.codes c.enter-n.new.given c.enter-n.result) (omega (arith, c.requires.1)) (entered K)
