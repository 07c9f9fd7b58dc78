-- Types that have no context to start from.
use mathlib.Core.Path.{◌≡◌, refl, sym, ◌∙◌, ap}
use mathlib.Core.Bool.{Bool, false}
use mathlib.Core.List.{List}
use mathlib.Core.Logic.{inl}
use Prim.Native.Nat.{ℕ, ◌-◌}
use Rattle.base.specs.Bits.{bit}
use Rattle.base.proofs.BitLaws.{bit_or_lem}
use Rattle.base.proofs.BoolLaws.{or_false}
use Rattle.policy_image.specs.declared.counts.Counts.{Counts}
use Rattle.context.specs.Inner.Places.{first_place}
use Rattle.context.proofs.TypeLaws.{of_pair}
use Rattle.plan.specs.Inner.Entries.{named_at, type_sets_at, pair_sets_at}
use Rattle.plan.specs.Inner.Plan.{PlanCounts}
use Rattle.plan.specs.Inner.Sets.{Falls}
use Rattle.plan.proofs.SetLaws.{sets_few}
use Rattle.search_graph.specs.Inner.Starts.{PairsStart, NoStart}

module _ {n : Counts} {plan : List ℕ} {o : ℕ} where
  -- neither the type nor a pair is in σ0, and no record names the type with more
  pub outside : PlanCounts n → Falls plan → {b : Bool} → PairsStart n plan b → b ≡ false → named_at plan o ≡ 0 → bit (type_sets_at plan o) 0 ≡ false → NoStart n plan o
  outside C F P p e q =
      record {
        at = λ y H.
            inl (ap (λ (k : ℕ). bit k 0) (sym (sets_few C H refl F e)) ∙ bit_or_lem (type_sets_at plan o) (pair_sets_at plan (y - first_place n o)) 0
            ∙ or_false _ _ q (P.none p (y - first_place n o) (of_pair C.countable H refl)));
      }
