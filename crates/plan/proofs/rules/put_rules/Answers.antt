use mathlib.Core.Path.{refl, ◌∙◌}
use native.Mathlib.Omega.{arith}
use Rattle.plan.proofs.BlockLaws.{types_few, types_same, tops_of, tops_after}
use Rattle.plan.proofs.ContextLaws.{plan_counts}
use Rattle.plan.proofs.LeadLaws.{alikes_kept}
use Rattle.plan.proofs.PlanLaws.{rules_put}
use Rattle.plan.proofs.rules.put_rules.Goals as goal

pub put_index-requires : goal.put_index-requires
put_index-requires c = (c.requires.0, omega (arith, c.requires.2))

pub put_type_special-requires : goal.put_type_special-requires
put_type_special-requires c =
    (omega (arith, types_few c.requires.0), tops_of c.put_index.ensures (types_same c.requires.0), omega (arith, c.requires.2))

pub put_leads-requires : goal.put_leads-requires
put_leads-requires c =
    let R = c.requires.0 in (
      plan_counts R,
      tops_after (types_few R) c.put_type_special.ensures.below (tops_of c.put_index.ensures (types_same R)),
      alikes_kept (λ i h. c.put_type_special.ensures.below i (omega arith) ∙ c.put_index.ensures.below i (omega arith) ∙ c.put.ensures.below i (omega arith)) c.requires.1.alike,
      omega (arith, c.requires.2),
    )

pub returns : goal.returns
returns c =
    rules_put _ _ _ _ _ _ _ c.requires.0 (omega (arith, c.requires.2)) refl c.requires.1 c.put.ensures c.put_index.ensures c.put_type_special.ensures c.put_leads.ensures
