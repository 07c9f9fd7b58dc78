-- The model that a search goes by: flow, ρ and μ of the policy, and the sets of the plan, whatever they were made of. Where they were made of a
-- goal, it has the paths of the policy and the goal (`same_model` in goal_question/proofs/ModelLaws.antt). Where they were made of two contexts, its
-- paths are the flow paths from the first that meet the second at their end alone (`flow_path`, `cut_path` in least_steps/proofs/PathLaws.antt).
use Rattle.std.specs.Prelude.{Bool, not, ◌&&◌, List, ℕ}
use Rattle.base.specs.Bits.{bit}
use Rattle.policy_image.specs.declared.counts.Counts.{Counts}
use Rattle.policy_image.specs.Policy.{policy_of}
use Rattle.context.specs.declared.Context.{Context}
use Rattle.context.specs.Codes.{context_of, event_of}
use Rattle.context.specs.Inner.Places.{context_at_index}
use Rattle.access.specs.Authorization.{flow}
use Rattle.goal_image.specs.declared.check.Legs.{Legs}
use Rattle.goal_image.specs.Goal.{σChain, γChain, σeChain, γeChain}
use Rattle.paths.specs.Model.{Model}
use Rattle.goal_model.specs.Images.{in_range, meetsρμ}
use Rattle.plan.specs.Inner.Entries.{event_sets_at}
use Rattle.plan.specs.Inner.Sets.{sets_of}
use Rattle.plan.specs.Inner.Meets.{held_by}
use Rattle.plan.specs.Inner.Plan.{ruled}

-- x is in σe, and the event e in γe, by the plan
abbrev pub excepted : Counts → List ℕ → Context → Bool
excepted n plan x = bit (sets_of n plan x) σeChain

abbrev pub barred : List ℕ → ℕ → Bool
barred plan e = bit (event_sets_at plan e) γeChain

-- whether steps from the context at place y, of the type o, are asked, by the plan
abbrev pub asks_by : Counts → List ℕ → ℕ → ℕ → Bool
asks_by n plan o y = not (excepted n plan (context_at_index n y)) && held_by n plan o y

abbrev pub plan_model : List ℕ → List ℕ → Counts → Legs → Model
plan_model s plan n l =
    record {
      flow_by = λ x e y. flow (ruled s plan) (event_of e) (context_of x) (context_of y);
      context = λ x. in_range (policy_of s).counts (context_of x);
      held = λ x. meetsρμ (ruled s plan) (context_of x);
      legs = l.count;
      σ = λ i x. bit (sets_of n plan (context_of x)) (σChain i);
      γ = λ i e. bit (event_sets_at plan e) (γChain i);
      repeated = λ i. bit l.repeated i;
      σe = λ x. excepted n plan (context_of x);
      γe = λ e. barred plan e;
    }
