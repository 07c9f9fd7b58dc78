use Prim.Native.Nat.{ℕ, ◌+◌, ◌-◌, ◌≤◌}
use mathlib.Core.Path.{◌≡◌, sym, subst, ◌∙◌}
use native.Mathlib.Omega.{arith}
use lib.ListN.{set}
use Rattle.policy_image.specs.Policy.{Policy, policy_of}
use Rattle.policy_image.specs.Inner.Sizes.{most_records}
use Rattle.policy_image.proofs.FieldLaws.{same_fields}
use Rattle.policy_runs.proofs.CountingLaws.{NumberedTo, numbered_start, numbered_fits, numbered_node, numbered_other}
use Rattle.policy_runs.proofs.count_nodes.Goals.{Joined-is, then-is, else-is}
use Rattle.policy_runs.proofs.count_nodes.Goals as goal

pub loop-k-init : goal.loop-k-init
loop-k-init c = (omega arith, numbered_start (policy_of c.args.policy.now))

pub overflow_add-nodes : goal.overflow_add-nodes
overflow_add-nodes c =
    let f = numbered_fits (policy_of c.args.policy.now) c.loop-k.invariant.1 in
    omega (arith, f, c.requires.1, c.requires.0.few)

-- the count after record k, which is a node or is not
module _ (K : Joined-is) where
  abbrev here : Policy
  here = policy_of K.args.policy.now

  abbrev k : ℕ
  k = K.loop-k.k

  most : k ≤ most_records
  most = omega (arith, K.requires.1, K.requires.0.few)

  entered : NumberedTo here k K.if-is.nodes (set K.loop-k.table k K.if-is.nodes)
  entered =
      let N = K.loop-k.invariant.1 in
      let read = same_fields K.record_at.ensures.same in
      let then : ℕ → Type 0 = λ n. NumberedTo here k n (set K.loop-k.table k n) in
      elim K.if-is.branch [
        | then-is w ↦ subst then (sym w.nodes-is) (numbered_node here N k (omega arith) most (sym read.kind ∙ w.if-is.ensures))
        | else-is w ↦ subst then (sym w.nodes-is) (numbered_other here N k (omega arith) most (λ e. w.if-is.ensures (read.kind ∙ e)))
      ]

pub loop-k-preserved : goal.loop-k-preserved
loop-k-preserved c =
    let K = (goal.at.loop-k-preserved c).Joined-is in
    let e : k K + 1 - 1 ≡ k K = omega arith in
    (omega arith, rw e (entered K))

pub returns : goal.returns
returns c = λ n h. c.loop-k.invariant.1.upto n (omega (arith, c.requires.1))

pub returns-after-is : goal.returns-after-is
returns-after-is c =
    let K = (goal.at.returns-after-is c).Joined-is in
    λ n h. (entered K).upto n (omega (arith, c.requires.1))
