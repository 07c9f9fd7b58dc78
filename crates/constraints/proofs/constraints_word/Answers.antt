use Prim.Native.Nat.{ℕ}
use mathlib.Core.Path.{◌≡◌, sym, subst}
use lib.Bits.{bit_and}
use Rattle.policy_image.specs.declared.kinds.Kind.TheVariants.{Constraint}
use Rattle.policy_image.specs.declared.records.Record.{Record}
use Rattle.policy_image.specs.Layout.{root_of, record_of}
use Rattle.policy_image.specs.Policy.{policy_of}
use Rattle.policy_links.proofs.KindLaws.{OfKind}
use Rattle.policy_links.proofs.Walking.{given_is, along_map, along_start, along_step, along_kind, along_end}
use Rattle.policy_expressions.specs.Nodes.{Uses, IsNode}
use Rattle.policy_expressions.proofs.UseLaws.{use_root}
use Rattle.constraints.proofs.NodeWordLaws.{Upheld, lost_begin, upheld_less, upheld_here, lost_more, all_hold_lem}
use Rattle.constraints.proofs.constraints_word.Goals.{In-Some}
use Rattle.constraints.proofs.constraints_word.Goals as goal

-- what is known where a constraint has been read
module _ (K : In-Some) where
  abbrev i : ℕ
  i = K.loop-r.r-iterator.next

  same : K.in-Some.r ≡ record_of K.args.policy.now i
  same = given_is K.args.policy.now K.loop-r.invariant.0.image K.in-Some.ensures.steps

  of : OfKind (policy_of K.args.policy.now) 8 i
  of = along_kind K.args.policy.now K.requires.0.links Constraint _ K.loop-r.invariant.0 K.in-Some.ensures.steps K.requires.0.chains

  root : IsNode (policy_of K.args.policy.now) (root_of K.in-Some.r)
  root =
      let n = root_of (record_of K.args.policy.now i) in
      let u : Uses (policy_of K.args.policy.now) i 0 n = record { low = of.low; high = of.high; at = use_root (record_of K.args.policy.now i) of.kind } in
      subst (λ (z : Record). IsNode (policy_of K.args.policy.now) (root_of z)) (sym same) (K.requires.0.nodes.well i 0 n u).node

pub loop-r-init : goal.loop-r-init
loop-r-init c = (
  along_start c.args.policy.now c.requires.0.links Constraint _
      (rw c.into_iter-r-iterator.ensures.into_iter_gives c.records_of-r-items.ensures),
  lost_begin _ _ _,
)

pub constraint_word-all-requires : goal.constraint_word-all-requires
constraint_word-all-requires c =
    record { sound = (c.requires.0, root (goal.at.constraint_word-all-requires c).In-Some); bytes = (c.in-Some.ensures.steps.read.bytes, c.requires.1) }

pub loop-r-preserved : goal.loop-r-preserved
loop-r-preserved c =
    let K = (goal.at.loop-r-preserved c).In-Some in
    let all = c.loop-r.all in
    let w = c.constraint_word-all.result in
    let said = c.constraint_word-all.ensures in (
      along_step c.args.policy.now c.requires.0.links Constraint (Upheld _ c.args.e c.args.leaves.now (bit_and all w))
          (along_map c.args.policy.now Constraint _ _ (upheld_less all w) c.loop-r.invariant.0) c.in-Some.ensures.steps (upheld_here all w (same K) said),
      lost_more all w (same K) said (of K) c.loop-r.invariant.1,
    )

pub returns : goal.returns
returns c =
    all_hold_lem (along_end c.args.policy.now c.requires.0.links Constraint _ c.requires.0.chains c.loop-r.invariant.0 c.in-None.ensures.steps)
    c.loop-r.invariant.1
