use Rattle.plan.proofs.LeadLaws.{sets_begin}
use Rattle.plan.proofs.alike.same_sets.Goals as goal

pub loop-q-init : goal.loop-q-init
loop-q-init c = sets_begin _ _ _
