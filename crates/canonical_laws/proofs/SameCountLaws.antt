-- Ranges go by the counts T, R, U and C: where two images have these in common, what is in range for one is so for the other.
use Prim.Native.Nat.{ℕ, ◌≤◌}
use mathlib.Core.Path.{◌≡◌, sym, subst}
use mathlib.Core.Bool.{◌&&◌}
use lib.Dec.{leb}
use Rattle.base.specs.Ranges.{Within}
use Rattle.policy_image.specs.declared.counts.Counts.{Counts}
use Rattle.context.specs.declared.Context.{Context}
use Rattle.context.specs.declared.Event.{Event}
use Rattle.context.specs.Ranges.{ContextInRange, EventInRange}
use Rattle.bare_questions.specs.Bare.{AskedInRange}
use Rattle.least_steps.specs.LeastSteps.{BothInRange}
use Rattle.goal_image.specs.declared.records.ContextRecord.{ContextRecord}
use Rattle.goal_image.specs.declared.records.EventRecord.{EventRecord}
use Rattle.goal_image.specs.Goal.{Goal}
use Rattle.goal_image.specs.Questions.{ContextFits, EventFits, FieldsFit}
use Rattle.goal_model.specs.Images.{in_range}

-- the number of records may differ
pub record SameCounts (c d : Counts) : Type 0 where
  pub types : c.types ≡ d.types
  pub roles : c.roles ≡ d.roles
  pub users : c.users ≡ d.users
  pub classes : c.classes ≡ d.classes

pub counts_back : {c d : Counts} → SameCounts c d → SameCounts d c
counts_back S = record { types = sym S.types; roles = sym S.roles; users = sym S.users; classes = sym S.classes }

module _ {c d : Counts} (S : SameCounts c d) where
  -- ---- question 13
  context_range : (x : Context) → ContextInRange c x → ContextInRange d x
  context_range x R =
      record {
        ty = subst (λ (n : ℕ). Within 1 n x.ty) S.types R.ty;
        role = subst (λ (n : ℕ). Within 1 n x.role) S.roles R.role;
        user = subst (λ (n : ℕ). Within 1 n x.user) S.users R.user;
      }

  event_range : (e : Event) → EventInRange c e → EventInRange d e
  event_range e R = record { class = subst (λ (n : ℕ). Within 1 n e.class) S.classes R.class; perm = R.perm }

  pub asked_range : (x y : Context) (e : Event) → AskedInRange c x y e → AskedInRange d x y e
  asked_range x y e R = record { first = context_range x R.first; second = context_range y R.second; event = event_range e R.event }

  pub both_range : (x y : Context) → BothInRange c x y → BothInRange d x y
  both_range x y R = record { first = context_range x R.first; second = context_range y R.second }

  -- ---- question 10
  context_fits : (r : ContextRecord) → ContextFits c r → ContextFits d r
  context_fits r F =
      record {
        ty = subst (λ (n : ℕ). r.ty ≤ n) S.types F.ty;
        role = subst (λ (n : ℕ). r.role ≤ n) S.roles F.role;
        user = subst (λ (n : ℕ). r.user ≤ n) S.users F.user;
        spare = F.spare;
      }

  event_fits : (r : EventRecord) → EventFits c r → EventFits d r
  event_fits r F = record { class = subst (λ (n : ℕ). r.class ≤ n) S.classes F.class; spare = F.spare }

  pub fields_fit : (g : Goal) → FieldsFit c g → FieldsFit d g
  fields_fit g F =
      record { contexts = λ h i t o. context_fits (g.context i) (F.contexts h i t o); events = λ h i t o. event_fits (g.event i) (F.events h i t o) }

  -- ---- contexts of a path
  pub same_range : (x : Context) → in_range c x ≡ in_range d x
  unfolding in_range
  same_range x =
      λ j.
      (leb 1 x.ty && leb x.ty (S.types j))
      && ((leb 1 x.role && leb x.role (S.roles j)) && (leb 1 x.user && leb x.user (S.users j)))
