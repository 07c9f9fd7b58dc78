-- The model that a policy image and a goal image give the path definitions (paper 01, "Paths that break a goal"). There is no
-- other: the promises, the monitors and the cases all speak of `model`.
use Rattle.std.specs.Prelude.{ℕ, Bool, ◌&&◌, List, leb}
use Rattle.base.specs.Bits.{bit}
use Rattle.policy_image.specs.declared.counts.Counts.{Counts}
use Rattle.policy_image.specs.Policy.{Policy, policy_of}
use Rattle.context.specs.declared.Context.{Context}
use Rattle.context.specs.Codes.{context_of, event_of}
use Rattle.relations.specs.Relations.{ρ, μ}
use Rattle.access.specs.Authorization.{flow}
use Rattle.goal_image.specs.Goal.{Goal, goal_of, σChain, γChain, σeChain, γeChain}
use Rattle.goal_image.specs.Sets.{context_in, event_in}
use Rattle.paths.specs.Model.{Model}

-- "their types, roles and users each from 1 to the policy's count"
unfoldable pub in_range : Counts → Context → Bool
in_range n x =
    (leb 1 x.ty && leb x.ty n.types)
    && ((leb 1 x.role && leb x.role n.roles) && (leb 1 x.user && leb x.user n.users))

-- "meets ρ and μ"
unfoldable pub meetsρμ : Policy → Context → Bool
meetsρμ p x = ρ p x.role x.ty && μ p x.user x.role

-- contexts and events are their codes
abbrev pub model_of : Policy → Goal → Model
model_of p g =
    record {
      flow_by = λ x e y. flow p (event_of e) (context_of x) (context_of y);
      context = λ x. in_range p.counts (context_of x);
      held = λ x. meetsρμ p (context_of x);
      legs = g.legs;
      σ = λ i x. context_in g (σChain i) (context_of x);
      γ = λ i e. event_in g (γChain i) (event_of e);
      repeated = λ i. bit g.flags i;
      σe = λ x. context_in g σeChain (context_of x);
      γe = λ e. event_in g γeChain (event_of e);
    }

-- from the bytes of the two images
abbrev pub model : List ℕ → List ℕ → Model
model s g = model_of (policy_of s) (goal_of g)
