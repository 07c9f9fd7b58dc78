-- W1 to W8 by computing: the weir policy's steps are listed, and the list is shown to leave none out.
use mathlib.Core.Bool.{Bool, not, ◌&&◌, ◌||◌}
use mathlib.Core.List.{List, [], ◌∷◌}
use mathlib.Core.Logic.{◌⊎◌, inl, inr}
use mathlib.Core.Path.{◌≡◌}
use Prim.Native.Nat.{ℕ, suc, ◌≤◌, ◌<◌}
use native.Mathlib.Omega.{arith}
use lib.Dec.{T, eqb, eqb→eq, T_not}
use Rattle.base.specs.Bits.{bit}
use Rattle.policy_image.specs.Layout.{counts_of, record_count, record_of, payload_of, decoded}
use Rattle.policy_image.specs.Policy.{policy_of}
use Rattle.policy_image.specs.OfKind.{some, every}
use Rattle.policy_image.specs.Cases.Weir.{weir}
use Rattle.context.specs.Codes.{context_of}
use Rattle.policy_sources.specs.Sources.{domain}
use Rattle.relations.specs.Relations.{Γ, write_like, read_like, allowed, α, ρ, μ, role_change}
use Rattle.constraints.specs.Constraints.{constraints_hold}
use Rattle.access.specs.Authorization.{χ, role_rule, authorized, flow}
use Rattle.goal_image.specs.Layout.{legs_of, flags_of, goal_count, goal_head, next_of, context_record_of, event_record_of}
use Rattle.goal_image.specs.Goal.{goal_of}
use Rattle.goal_image.specs.Sets.{context_in, event_in}
use Rattle.goal_image.specs.Cases.WeirGoal.{goal_g}
use Rattle.paths.specs.Paths.{IsPath, Holds, OrderAt, EventsAt}
use Rattle.paths.proofs.Any.{or_cases, and_T}
use Rattle.paths.proofs.Decide.{holds_by, order_by, events_by}
use Rattle.goal_model.specs.Images.{in_range, meetsρμ, model}
use Rattle.goal_model.proofs.Cover.{Step, context, step as flows_by, uncovered, finite, every_step, all_in}
use Rattle.goal_model.proofs.Cases.{step, steps, covers}
use Rattle.goal_model.specs.Cases.OwnGoals.{write_only}
use Rattle.weir.specs.Cases.Goals.{weir_allow41, except_type, end_type_one, one_leg, no_start}

-- with 4 on 1 read added: 1 to 4 by read too
abbrev pub steps41 : List Step
steps41 = step 273 64 545 ∷ step 273 64 1057 ∷ step 545 65 785 ∷ step 785 64 1057 ∷ []

pub covers41 : T (not (uncovered (policy_of weir_allow41) steps41))
unfolding uncovered in_range flow authorized χ role_rule constraints_hold domain Γ write_like read_like allowed α ρ μ role_change some every bit counts_of record_count record_of payload_of decoded
covers41 = tt

pub w1 : Holds (model weir goal_g)
unfolding in_range meetsρμ flow authorized χ role_rule constraints_hold domain Γ write_like read_like allowed α ρ μ role_change some every bit counts_of record_count record_of payload_of decoded legs_of flags_of goal_count goal_head next_of context_record_of event_record_of context_in event_in
w1 = holds_by (model weir goal_g) (finite (policy_of weir) steps covers (goal_of goal_g)) 4 tt

pub w2 : EventsAt (model weir write_only) 3
unfolding in_range meetsρμ flow authorized χ role_rule constraints_hold domain Γ write_like read_like allowed α ρ μ role_change some every bit counts_of record_count record_of payload_of decoded legs_of flags_of goal_count goal_head next_of context_record_of event_record_of context_in event_in
w2 = events_by (model weir write_only) (finite (policy_of weir) steps covers (goal_of write_only)) 3 tt

pub w3 : Holds (model weir (except_type 3))
unfolding in_range meetsρμ flow authorized χ role_rule constraints_hold domain Γ write_like read_like allowed α ρ μ role_change some every bit counts_of record_count record_of payload_of decoded legs_of flags_of goal_count goal_head next_of context_record_of event_record_of context_in event_in
w3 = holds_by (model weir (except_type 3)) (finite (policy_of weir) steps covers (goal_of (except_type 3))) 3 tt

pub w4 : EventsAt (model weir (except_type 4)) 3
unfolding in_range meetsρμ flow authorized χ role_rule constraints_hold domain Γ write_like read_like allowed α ρ μ role_change some every bit counts_of record_count record_of payload_of decoded legs_of flags_of goal_count goal_head next_of context_record_of event_record_of context_in event_in
w4 = events_by (model weir (except_type 4)) (finite (policy_of weir) steps covers (goal_of (except_type 4))) 3 tt

pub w5 : OrderAt (model weir_allow41 goal_g) 1
unfolding in_range meetsρμ flow authorized χ role_rule constraints_hold domain Γ write_like read_like allowed α ρ μ role_change some every bit counts_of record_count record_of payload_of decoded legs_of flags_of goal_count goal_head next_of context_record_of event_record_of context_in event_in
w5 = order_by (model weir_allow41 goal_g) (finite (policy_of weir_allow41) steps41 covers41 (goal_of goal_g)) 1 tt

pub w6 : OrderAt (model weir end_type_one) 0
unfolding in_range meetsρμ flow authorized χ role_rule constraints_hold domain Γ write_like read_like allowed α ρ μ role_change some every bit counts_of record_count record_of payload_of decoded legs_of flags_of goal_count goal_head next_of context_record_of event_record_of context_in event_in
w6 = order_by (model weir end_type_one) (finite (policy_of weir) steps covers (goal_of end_type_one)) 0 tt

pub w7 : EventsAt (model weir one_leg) 0
unfolding in_range meetsρμ flow authorized χ role_rule constraints_hold domain Γ write_like read_like allowed α ρ μ role_change some every bit counts_of record_count record_of payload_of decoded legs_of flags_of goal_count goal_head next_of context_record_of event_record_of context_in event_in
w7 = events_by (model weir one_leg) (finite (policy_of weir) steps covers (goal_of one_leg)) 0 tt

pub w8 : Holds (model weir no_start)
unfolding in_range meetsρμ flow authorized χ role_rule constraints_hold domain Γ write_like read_like allowed α ρ μ role_change some every bit counts_of record_count record_of payload_of decoded legs_of flags_of goal_count goal_head next_of context_record_of event_record_of context_in event_in
w8 = holds_by (model weir no_start) (finite (policy_of weir) steps covers (goal_of no_start)) 0 tt

-- ---- W5's path: a step from σ0 to σ2 is the one that paper 01 prints
starts : ℕ → Bool
starts x = context_in (goal_of goal_g) 0 (context_of x)

ends : ℕ → Bool
ends y = context_in (goal_of goal_g) 2 (context_of y)

abbrev only : ℕ → ℕ → ℕ → Bool
only x e y = not (starts x && ends y) || (eqb x 273 && (eqb e 64 && eqb y 1057))

only_steps : T (all_in steps41 (λ s. only s.x s.e s.y))
unfolding starts ends bit goal_count goal_head next_of context_record_of context_in
only_steps = tt

-- whatever path of 1 step these steps make, it is this one
pub w5_path : (s : List ℕ) → T (not (uncovered (policy_of s) steps41)) → (x e : ℕ → ℕ) → IsPath (model s goal_g) 1 x e → (x 0 ≡ 273) × (e 0 ≡ 64) × (x 1 ≡ 1057)
unfolding starts ends legs_of
w5_path s covered x e P =
    go (or_cases (not (starts (x 0) && ends (x 1))) (eqb (x 0) 273 && (eqb (e 0) 64 && eqb (x 1) 1057))
    (every_step (policy_of s) steps41 covered only only_steps (x 0) (e 0) (x 1) (P.contexts 0 (omega arith)) (P.contexts 1 (omega arith)) (P.flows 0 (omega arith))))
  where
    go : T (not (starts (x 0) && ends (x 1))) ⊎ T (eqb (x 0) 273 && (eqb (e 0) 64 && eqb (x 1) 1057)) → (x 0 ≡ 273) × (e 0 ≡ 64) × (x 1 ≡ 1057)
    go (inl t) = absurd (T_not (starts (x 0) && ends (x 1)) t ((and_T (starts (x 0)) (ends (x 1))).1 (P.starts, P.arrives)))
    go (inr t) = let (a, (b, c)) = simp and_T at t in (eqb→eq (x 0) 273 a, eqb→eq (e 0) 64 b, eqb→eq (x 1) 1057 c)

-- ---- W2's path: the weir policy's steps are three, and there is one way through them
abbrev is : ℕ → ℕ → ℕ → ℕ → ℕ → ℕ → Bool
is a b c x e y = eqb x a && (eqb e b && eqb y c)

abbrev listed : ℕ → ℕ → ℕ → Bool
listed x e y = is 273 64 545 x e y || (is 545 65 785 x e y || is 785 64 1057 x e y)

listed_steps : T (all_in steps (λ s. listed s.x s.e s.y))
listed_steps = tt

is_eq : {a b c x e y : ℕ} → T (is a b c x e y) → (x ≡ a) × (e ≡ b) × (y ≡ c)
is_eq {a} {b} {c} {x} {e} {y} t = let (p, (q, r)) = simp and_T at t in (eqb→eq x a p, eqb→eq e b q, eqb→eq y c r)

pub weir_step : (x e y : ℕ) → T (listed x e y) → ((x ≡ 273) × (e ≡ 64) × (y ≡ 545)) ⊎ (((x ≡ 545) × (e ≡ 65) × (y ≡ 785)) ⊎ ((x ≡ 785) × (e ≡ 64) × (y ≡ 1057)))
weir_step x e y t = go (or_cases (is 273 64 545 x e y) (is 545 65 785 x e y || is 785 64 1057 x e y) t)
  where
    last : T (is 545 65 785 x e y) ⊎ T (is 785 64 1057 x e y) → ((x ≡ 273) × (e ≡ 64) × (y ≡ 545)) ⊎ (((x ≡ 545) × (e ≡ 65) × (y ≡ 785)) ⊎ ((x ≡ 785) × (e ≡ 64) × (y ≡ 1057)))
    last (inl k) = inr (inl (is_eq k))
    last (inr k) = inr (inr (is_eq k))

    go : T (is 273 64 545 x e y) ⊎ T (is 545 65 785 x e y || is 785 64 1057 x e y) → ((x ≡ 273) × (e ≡ 64) × (y ≡ 545)) ⊎ (((x ≡ 545) × (e ≡ 65) × (y ≡ 785)) ⊎ ((x ≡ 785) × (e ≡ 64) × (y ≡ 1057)))
    go (inl k) = inl (is_eq k)
    go (inr k) = last (or_cases (is 545 65 785 x e y) (is 785 64 1057 x e y) k)

-- three steps one after the other are these, wherever they start
pub weir_walk : (x e : ℕ → ℕ) → ((j : ℕ) → j ≤ 3 → T (context (policy_of weir) (x j))) → ((j : ℕ) → j < 3 → T (flows_by (policy_of weir) (x j) (e j) (x (suc j))))
    → (x 0 ≡ 273) × (e 0 ≡ 64) × (x 1 ≡ 545) × (e 1 ≡ 65) × (x 2 ≡ 785) × (e 2 ≡ 64) × (x 3 ≡ 1057)
weir_walk x e C W = go (at 0 (omega arith)) (at 1 (omega arith)) (at 2 (omega arith))
  where
    at : (j : ℕ) → j < 3 → ((x j ≡ 273) × (e j ≡ 64) × (x (suc j) ≡ 545)) ⊎ (((x j ≡ 545) × (e j ≡ 65) × (x (suc j) ≡ 785)) ⊎ ((x j ≡ 785) × (e j ≡ 64) × (x (suc j) ≡ 1057)))
    at j h =
        weir_step (x j) (e j) (x (suc j))
        (every_step (policy_of weir) steps covers listed listed_steps (x j) (e j) (x (suc j)) (C j (omega arith)) (C (suc j) (omega arith)) (W j h))

    go : ((x 0 ≡ 273) × (e 0 ≡ 64) × (x 1 ≡ 545)) ⊎ (((x 0 ≡ 545) × (e 0 ≡ 65) × (x 1 ≡ 785)) ⊎ ((x 0 ≡ 785) × (e 0 ≡ 64) × (x 1 ≡ 1057)))
        → ((x 1 ≡ 273) × (e 1 ≡ 64) × (x 2 ≡ 545)) ⊎ (((x 1 ≡ 545) × (e 1 ≡ 65) × (x 2 ≡ 785)) ⊎ ((x 1 ≡ 785) × (e 1 ≡ 64) × (x 2 ≡ 1057)))
        → ((x 2 ≡ 273) × (e 2 ≡ 64) × (x 3 ≡ 545)) ⊎ (((x 2 ≡ 545) × (e 2 ≡ 65) × (x 3 ≡ 785)) ⊎ ((x 2 ≡ 785) × (e 2 ≡ 64) × (x 3 ≡ 1057)))
        → (x 0 ≡ 273) × (e 0 ≡ 64) × (x 1 ≡ 545) × (e 1 ≡ 65) × (x 2 ≡ 785) × (e 2 ≡ 64) × (x 3 ≡ 1057)
    go (inl a) (inr (inl b)) (inr (inr c)) = (a.0, a.1, a.2, b.1, b.2, c.1, c.2)
    go (inl a) (inl b) c = absurd (omega (arith, a.2, b.0))
    go (inl a) (inr (inr b)) c = absurd (omega (arith, a.2, b.0))
    go (inl a) (inr (inl b)) (inl c) = absurd (omega (arith, b.2, c.0))
    go (inl a) (inr (inl b)) (inr (inl c)) = absurd (omega (arith, b.2, c.0))
    go (inr (inl a)) (inl b) c = absurd (omega (arith, a.2, b.0))
    go (inr (inl a)) (inr (inl b)) c = absurd (omega (arith, a.2, b.0))
    go (inr (inl a)) (inr (inr b)) (inl c) = absurd (omega (arith, b.2, c.0))
    go (inr (inl a)) (inr (inr b)) (inr (inl c)) = absurd (omega (arith, b.2, c.0))
    go (inr (inl a)) (inr (inr b)) (inr (inr c)) = absurd (omega (arith, b.2, c.0))
    go (inr (inr a)) (inl b) c = absurd (omega (arith, a.2, b.0))
    go (inr (inr a)) (inr (inl b)) c = absurd (omega (arith, a.2, b.0))
    go (inr (inr a)) (inr (inr b)) c = absurd (omega (arith, a.2, b.0))

pub w2_path : (x e : ℕ → ℕ) → IsPath (model weir write_only) 3 x e
    → (x 0 ≡ 273) × (e 0 ≡ 64) × (x 1 ≡ 545) × (e 1 ≡ 65) × (x 2 ≡ 785) × (e 2 ≡ 64) × (x 3 ≡ 1057)
w2_path x e P = weir_walk x e P.contexts P.flows
