-- The layout's law: where the heads and the links stand is the goal's shape.
use Prim.Native.Nat.{ℕ}
use mathlib.Core.List.{List}
use mathlib.Core.Path.{◌≡◌, refl}
use native.Mathlib.Omega.{arith}
use Rattle.chains.specs.declared.Shape.{Shape}
use Rattle.chains.specs.Inner.Links.{head_in, next_in, ShapeOf}
use Rattle.goal_image.specs.Goal.{goal_of, goal_links}
use Rattle.goal_image.specs.Layout.{GoalExact, goal_count, goal_head, next_of}

abbrev goal_shape : ℕ → Shape
goal_shape m = record { heads = 4; first = 0; end = 15; records = 34; stride = 8; count = m }

pub goal_shape_lem : (g : List ℕ) (m : ℕ) → GoalExact g → m ≡ goal_count g → ShapeOf g (goal_links (goal_of g)) 0 15 (goal_shape m)
unfolding head_in next_in goal_head next_of
goal_shape_lem g m e q =
    record {
      fits = record { few = omega arith; heads = omega arith; linked = omega arith; records = omega arith };
      links = rw q;
      first = refl;
      end = refl;
    }
