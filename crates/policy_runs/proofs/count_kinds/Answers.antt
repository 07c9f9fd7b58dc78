use Prim.Native.Nat.{ℕ, ◌+◌, ◌-◌}
use mathlib.Core.Path.{◌≡◌, refl, sym, subst}
use mathlib.Core.List.{List}
use native.Mathlib.Omega.{arith}
use lib.ListN.{get_or, set}
use Rattle.base.specs.Ranges.{Within}
use Rattle.policy_image.specs.Policy.{Policy, policy_of}
use Rattle.policy_image.proofs.FieldLaws.{SameFields, same_fields}
use Rattle.policy_runs.specs.Inner.Runs.{KindTable}
use Rattle.policy_runs.proofs.CountingLaws.{CountedTo, counted_start_lem, counted_fits, counted_more}
use Rattle.policy_runs.proofs.count_kinds.Goals.{After-record_at}
use Rattle.policy_runs.proofs.count_kinds.Goals as goal

-- what is known where record k has been read
module _ (K : After-record_at) where
  abbrev p : Policy
  p = policy_of K.args.policy.now

  abbrev k : ℕ
  k = K.loop-k.k

  abbrev kind : ℕ
  kind = K.record_at.result.kind

  same : SameFields K.record_at.result (p.rec k)
  same = same_fields K.record_at.ensures.same

  kinds : Within 1 9 kind
  kinds =
      let w = (K.requires.1.all k (omega arith) (omega (arith, K.requires.2))).kind in
      subst (Within 1 9) (sym same.kind) w

  counted : CountedTo p.rec k (set K.loop-k.table kind (get_or K.loop-k.table kind 0 + 1))
  counted = counted_more p.rec K.loop-k.invariant.1 k kind _ (omega arith) same.kind kinds refl

all_counted : (p : Policy) (n : ℕ) (t : List ℕ) → CountedTo p.rec n t → n ≡ p.size → KindTable p t
all_counted p n t C e = subst (λ (m : ℕ). CountedTo p.rec m t → KindTable p t) (sym e) (λ D. D.counts) C

pub loop-k-init : goal.loop-k-init
loop-k-init c = (omega arith, counted_start_lem (policy_of c.args.policy.now).rec)

pub bounds-table-record_at : goal.bounds-table-record_at
bounds-table-record_at c = let w = kinds (goal.at.bounds-table-record_at c).After-record_at in omega (arith, w.high)

pub overflow_add-table : goal.overflow_add-table
overflow_add-table c =
    let K = (goal.at.overflow_add-table c).After-record_at in
    let w = kinds K in
    omega (arith, counted_fits (p K).rec c.loop-k.invariant.1 _ w.low w.high)

pub loop-k-preserved : goal.loop-k-preserved
loop-k-preserved c =
    let K = (goal.at.loop-k-preserved c).After-record_at in
    let e : k K + 1 - 1 ≡ k K = omega arith in
    (omega arith, rw e (counted K))

pub returns : goal.returns
returns c = all_counted (policy_of c.args.policy.now) _ _ c.loop-k.invariant.1 (omega (arith, c.requires.2))

pub returns-2 : goal.returns-2
returns-2 c =
    let K = (goal.at.returns-2 c).After-record_at in
    all_counted (p K) _ _ (counted K) (omega (arith, c.requires.2))
