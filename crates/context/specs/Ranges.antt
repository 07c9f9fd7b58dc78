-- Contexts and events in range, for a policy with the counts n.
use Rattle.base.specs.Ranges.{Within}
use Rattle.policy_image.specs.declared.counts.Counts.{Counts}
use Rattle.context.specs.declared.Context.{Context}
use Rattle.context.specs.declared.Event.{Event}

-- "types, roles and users each from 1 to the policy's count"
pub record ContextInRange (n : Counts) (x : Context) : Type 0 where
  pub ty : Within 1 n.types x.ty
  pub role : Within 1 n.roles x.role
  pub user : Within 1 n.users x.user

-- "class (1 to C) and permission (0 to 31)"
pub record EventInRange (n : Counts) (e : Event) : Type 0 where
  pub class : Within 1 n.classes e.class
  pub perm : Within 0 31 e.perm
