-- Where a search stands among events and types.
use Rattle.std.specs.Prelude.{◌≡◌, Bool, true, false, List, ℕ, ◌+◌, ◌*◌, ◌/◌, ◌%◌, ◌≤◌, ◌<◌, get_or}
use Rattle.policy_image.specs.declared.counts.Counts.{Counts}
use Rattle.policy_image.specs.Policy.{Policy}
use Rattle.context.specs.declared.Context.{Context}
use Rattle.context.specs.Codes.{event_of}
use Rattle.context.specs.Ranges.{ContextInRange}
use Rattle.access.specs.Authorization.{flow}
use Rattle.goal_model.specs.Images.{meetsρμ}
use Rattle.plan.specs.Inner.Entries.{event_sets_at}
use Rattle.search_steps.specs.declared.nearest.Asker.{Asker}
use Rattle.search_steps.specs.declared.nearest.Offer.{Offer}
use Rattle.search_steps.specs.Inner.Nearest.{closed, PassedOver, steps_end}
use Rattle.search_steps.specs.Inner.Steps.{Offering, ResumesFrom}
use Rattle.search_graph.specs.Inner.Model.{excepted}
use Rattle.plan.specs.Inner.Regions.{type_codes}

-- whether steps from x are asked: it is not in σe, and meets ρ and μ
pub record Asks (p : Policy) (n : Counts) (plan : List ℕ) (x : Context) (b : Bool) : Type 0 where
  pub free : b ≡ true → excepted n plan x ≡ false
  pub meets : b ≡ true → meetsρμ p x ≡ true
  pub never : b ≡ false → excepted n plan x ≡ false → meetsρμ p x ≡ true → ⊥

-- a step from x is ahead: x is not in σe and meets ρ and μ, and an entry offers the step, which is not closed
pub record Ahead (p : Policy) (n : Counts) (plan swept : List ℕ) (a : Asker) (x : Context) (r : Offer) : Type 0 where
  pub free : excepted n plan x ≡ false
  pub meets : meetsρμ p x ≡ true
  pub offering : Offering p plan x.ty (r.step / type_codes) (r.step % type_codes) r.entry
  pub unclosed : closed a (event_sets_at plan (r.step / type_codes)) (get_or swept (r.step % type_codes) 0) ≡ false
  pub resumes : ResumesFrom plan x r

-- r is a step ahead of x, or none, and a path that goes by a step before it need not be asked
pub record FirstStep (p : Policy) (n : Counts) (plan swept : List ℕ) (a : Asker) (x : Context) (r : Offer) : Type 0 where
  pub high : r.step ≤ steps_end
  pub ahead : r.step < steps_end → Ahead p n plan swept a x r
  pub none : (i : ℕ) (y : Context) → ContextInRange p.counts y → type_codes * i + y.ty < r.step → excepted n plan x ≡ false → flow p (event_of i) x y ≡ true
      → PassedOver plan swept a i y.ty
