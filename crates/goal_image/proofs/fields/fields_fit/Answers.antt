use Rattle.std.proofs.Common.{rules}
use Prim.Native.Nat.{ℕ}
use mathlib.Core.Path.{refl}
use native.Mathlib.Omega.{arith}
use Rattle.std.proofs.lemmas.Iterator.{YieldsList-from_range}
use Rattle.base.proofs.Decide.{decides_iff}
use Rattle.base.specs.Chain.{OnChain}
use Rattle.goal_image.specs.Goal.{goal_of, goal_links}
use Rattle.goal_image.specs.Inner.Reading.{RecordFits}
use Rattle.goal_image.proofs.Searches.{all_decides}
use Rattle.goal_image.proofs.SortLaws.{context_below, event_below}
use Rattle.goal_image.proofs.fields.fields_fit.Goals as goal

pub returns : goal.returns
returns c =
    let g = goal_of c.args.goal.now in
    let all = all_decides {P = λ h. (i : ℕ) → OnChain (goal_links g) h i → RecordFits c.args.counts g h i} (λ x b q k. search rules) 0 15 (YieldsList-from_range _ _ _ refl refl) _ _ c.all.ensures.ran in
    decides_iff c.all.result
    (λ e. record {
      contexts = λ h i s on. (e h (omega arith) (context_below h s) i on).context s;
      events = λ h i s on. (e h (omega arith) (event_below h s) i on).event s;
    })
    (λ F h a b i on. record { context = λ s. F.contexts h i s on; event = λ s. F.events h i s on })
    all
