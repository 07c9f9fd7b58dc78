use mathlib.Core.Path.{◌≡◌, sym, ◌∙◌}
use mathlib.Core.Bool.{true}
use Rattle.policy_image.specs.Policy.{policy_of}
use Rattle.policy_sources.specs.Sources.{domain}
use Rattle.relations.specs.Relations.{Γ, α}
use Rattle.relations.proofs.alpha.Goals.{Else-not-gamma, Else-not-is_domain}
use Rattle.relations.proofs.alpha.Goals as goal

-- where the source is a domain, and where the event is in Γ
source : (E : Else-not-is_domain) → domain (policy_of E.args.policy.now) E.args.source ≡ true
source E = sym E.is_domain.ensures ∙ E.if-not-is_domain.false

event : (E : Else-not-gamma) → Γ (policy_of E.args.policy.now) E.args.e ≡ true
event E = sym E.gamma.ensures ∙ E.if-not-gamma.false

pub returns-then-not-is_domain : goal.returns-then-not-is_domain
unfolding α
returns-then-not-is_domain c = rw (← c.is_domain.ensures, c.if-not-is_domain.true)

pub returns-then-not-gamma : goal.returns-then-not-gamma
unfolding α
returns-then-not-gamma c = rw (source (goal.at.returns-then-not-gamma c).Else-not-is_domain, ← c.gamma.ensures, c.if-not-gamma.true)

pub returns : goal.returns
unfolding α
returns c =
    rw (source (goal.at.returns c).Else-not-is_domain, event (goal.at.returns c).Else-not-gamma) (c.has_bit.ensures ∙ c.allow_mask.ensures.at c.args.e.perm)
