use Prim.Native.Nat.{ℕ, ◌<◌}
use mathlib.Core.Path.{refl, sym, ap, subst, ◌∙◌}
use mathlib.Core.List.{List}
use lib.ListN.{length, get_or, set, length-set}
use lib.Seq.{get_or-set_same}
use Rattle.policy_image.specs.declared.kinds.Kind.TheVariants.{Node}
use Rattle.policy_image.specs.declared.records.Record.{Record}
use Rattle.policy_image.specs.Policy.{policy_of}
use Rattle.policy_links.proofs.Walking.{given_is, along_map, along_start, along_step, along_end}
use Rattle.search_constraints.specs.Inner.Pairs.{mark_entries, mark_of}
use Rattle.search_constraints.proofs.MarkLaws.{HasMark, mark_few, mark_stays}
use Rattle.search_constraints.proofs.marks.marks_of.Goals.{After-mark_of}
use Rattle.search_constraints.proofs.marks.marks_of.Goals as goal

-- what is known where the entry of a node has been found
module _ (K : After-mark_of) where
  abbrev s : List ℕ
  s = K.args.policy.now

  abbrev marks : List ℕ
  marks = K.loop-r.marks

  abbrev at : ℕ
  at = K.mark_of.result

  few : at < mark_entries
  few = subst (λ (k : ℕ). k < mark_entries) (sym K.mark_of.ensures) (mark_few K.in-Some.r.a K.in-Some.r.b K.in-Some.ensures.steps.read.bytes.b)

  room : at < length marks
  room = subst (λ (k : ℕ). at < k) (sym K.loop-r.invariant.0) few

  own : HasMark (policy_of s) (set marks at 1) K.loop-r.r-iterator.next
  own =
      let is = given_is s K.loop-r.invariant.1.image K.in-Some.ensures.steps in
      ap (λ (k : ℕ). get_or (set marks at 1) k 0) (sym (K.mark_of.ensures ∙ ap (λ (r : Record). mark_of r.a r.b) is)) ∙ get_or-set_same marks at 1 0 room

pub loop-r-init : goal.loop-r-init
loop-r-init c =
    (refl, along_start c.args.policy.now c.requires.links Node _ (rw c.into_iter-r-iterator.ensures.into_iter_gives c.records_of-r-items.ensures))

pub mark_of-requires : goal.mark_of-requires
mark_of-requires c = c.in-Some.ensures.steps.read.bytes.b

pub loop-r-preserved : goal.loop-r-preserved
loop-r-preserved c =
    let K = (goal.at.loop-r-preserved c).After-mark_of in (
      length-set (marks K) (at K) 1 ∙ c.loop-r.invariant.0,
      along_step (s K) c.requires.links Node _
          (along_map (s K) Node (HasMark (policy_of (s K)) (marks K)) (HasMark (policy_of (s K)) (set (marks K) (at K) 1))
          (λ j h. mark_stays (marks K) (at K) _ (room K) h) c.loop-r.invariant.1)
          c.in-Some.ensures.steps (own K),
    )

pub returns : goal.returns
returns c =
    record {
      each = λ i low high k.
          along_end c.args.policy.now c.requires.links Node _ c.requires.chains c.loop-r.invariant.1 c.in-None.ensures.steps i
          (record { low = low; high = high; kind = k });
    }
