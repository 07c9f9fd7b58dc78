use Prim.Native.Nat.{ℕ, ◌<◌}
use mathlib.Core.Path.{◌≡◌, sym, subst}
use native.Mathlib.Omega.{arith}
use lib.ListN.{length, get_or}
use mathlib.Core.Bool.{◌||◌}
use Rattle.base.specs.Bits.{bit}
use Rattle.policy_image.specs.declared.records.Record.{Record}
use Rattle.policy_image.specs.Layout.{record_of}
use Rattle.policy_image.specs.Inner.Kinds.{kind_number}
use Rattle.policy_image.specs.Policy.{policy_of}
use Rattle.policy_links.proofs.KindLaws.{OfKind}
use Rattle.policy_links.proofs.Walking.{given_is, along_kind}
use Rattle.plan_tables.specs.Inner.Gather.{entry_of, adds_of, Shifts}
use Rattle.plan_tables.proofs.Gathering.{gathering_start, gathering_step, gathering_end}
use Rattle.plan_tables.proofs.SoundLaws.{shifts}
use Rattle.plan_tables.proofs.gather.gather.Goals.{In-Some}
use Rattle.plan_tables.proofs.gather.gather.Goals as goal

-- what is known where a record has been read
module _ (K : In-Some) where
  is : K.in-Some.r ≡ record_of K.args.policy.now K.loop-r.r-iterator.next
  is = given_is K.args.policy.now K.loop-r.invariant.along.image K.in-Some.ensures.steps

  of : OfKind (policy_of K.args.policy.now) (kind_number K.args.kind) K.loop-r.r-iterator.next
  of = along_kind K.args.policy.now K.requires.0.links K.args.kind _ K.loop-r.invariant.along K.in-Some.ensures.steps K.requires.0.chains

  room : entry_of K.args.kind K.in-Some.r < length K.loop-r.table
  room =
      let h = K.requires.1.at K.loop-r.r-iterator.next of.low of.high of.kind in
      subst (λ (x : Record). entry_of K.args.kind x < length K.loop-r.table) (sym is) (omega (arith, K.loop-r.invariant.size))

  small : Shifts K.args.kind K.in-Some.r
  small = subst (Shifts K.args.kind) (sym is) (shifts K.args.policy.now K.requires.0 K.args.kind K.loop-r.r-iterator.next of)

pub loop-r-init : goal.loop-r-init
loop-r-init c =
    gathering_start c.args.policy.now c.requires.0 c.args.kind _ _ _
    (rw c.into_iter-r-iterator.ensures.into_iter_gives c.records_of-r-items.ensures)

pub loop-r-preserved : goal.loop-r-preserved
loop-r-preserved c =
    let K = (goal.at.loop-r-preserved c).In-Some in
    let k = c.args.kind in
    let r = c.in-Some.r in
    let both : (q : ℕ) → bit c.join.result q ≡ (bit (get_or c.loop-r.table (entry_of k r) 0) q || bit (adds_of c.args.way k r) q) =
    λ q. rw (← c.entry-t.ensures, ← c.adds.ensures) (c.join.ensures q) in
    rw c.entry-t.ensures
    (gathering_step c.args.policy.now c.requires.0 k _ _ _ c.loop-r.table c.loop-r.invariant c.in-Some.ensures.steps c.join.result both (room K))

pub returns : goal.returns
returns c =
    record {
      at = gathering_end c.args.policy.now c.requires.0 c.args.kind _ _ _ c.loop-r.table c.loop-r.invariant c.in-None.ensures.steps;
    }
