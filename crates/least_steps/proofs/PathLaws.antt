-- A plan whose σ0 has x alone, and whose σ1 has y alone, has for its paths the flow paths from x to y that meet y at their end alone; so the
-- least number of steps of the ones is that of the others.
use Prim.Native.Nat.{ℕ, zero, suc, ◌≤◌, ◌<◌}
use mathlib.Core.Bool.{Bool, true, false}
use mathlib.Core.List.{List}
use mathlib.Core.Logic.{◌⊎◌, inl, inr}
use mathlib.Core.Path.{◌≡◌, sym, ap, subst, ◌∙◌}
use native.Mathlib.Nat.{le_refl}
use native.Mathlib.Omega.{arith}
use lib.Dec.{T}
use Rattle.base.specs.Bits.{bit}
use Rattle.base.proofs.BitLaws.{bit_zero}
use Rattle.base.proofs.BoolLaws.{to_true, of_true, clash, true_or_false}
use Rattle.policy_image.specs.declared.counts.Counts.{Counts}
use Rattle.policy_image.specs.Policy.{Policy}
use Rattle.context.specs.declared.Context.{Context}
use Rattle.context.specs.Codes.{context_of}
use Rattle.goal_image.specs.Goal.{γeChain}
use Rattle.goal_model.specs.Images.{meetsρμ}
use Rattle.paths.specs.Model.{Model}
use Rattle.paths.specs.Paths.{IsPath}
use Rattle.paths.specs.Slice.{Shows}
use Rattle.paths.specs.Inner.Monitor.{plain, BadNode}
use Rattle.paths.specs.Inner.Least.{Least, nowhere}
use Rattle.paths.proofs.Any.{next}
use Rattle.paths.proofs.Monitor.{plain_iff}
use Rattle.plan.specs.Inner.Ends.{OnlyIn, EndsPlan}
use Rattle.plan.specs.Inner.Plan.{Ready, ruled}
use Rattle.plan.specs.Inner.Entries.{counted_at}
use Rattle.plan.specs.Inner.Sets.{sets_of}
use Rattle.search_steps.proofs.FlowLaws.{flow_code}
use Rattle.search_graph.specs.Inner.Model.{barred, plan_model}
use Rattle.search_graph.proofs.ModelLaws.{range_of}
use Rattle.witness.specs.Inner.Links.{LeastBelow}
use Rattle.least_steps.specs.LeastSteps.{FlowPath, SomeFlowPath, NoFlowPath, NoneShorter}
use Rattle.least_steps.specs.Inner.Parts.{ends_legs}

-- of the numbers below n, none passes a test, or one is the least that does
none_or_least : (f : ℕ → Bool) (n : ℕ) → ((j : ℕ) → j < n → f j ≡ false) ⊎ ((k : ℕ) × LeastBelow (λ j. f j ≡ true) n k)
none_or_least f zero = inl (λ j h. absurd (omega arith))
none_or_least f (suc n) = go (none_or_least f n) (true_or_false (f n))
  where
    go : ((j : ℕ) → j < n → f j ≡ false) ⊎ ((k : ℕ) × LeastBelow (λ j. f j ≡ true) n k) → (f n ≡ true) ⊎ (f n ≡ false)
        → ((j : ℕ) → j < suc n → f j ≡ false) ⊎ ((k : ℕ) × LeastBelow (λ j. f j ≡ true) (suc n) k)
    go (inr (k, L)) d = let h = L.within in inr (k, record { within = omega arith; holds = L.holds; before = L.before })
    go (inl none) (inl t) = inr (n, record { within = omega arith; holds = t; before = λ j h u. clash u (none j h) })
    go (inl none) (inr z) = inl (next (λ (j : ℕ). f j ≡ false) n none z)

module _ {s plan : List ℕ} {n : Counts} {x y : Context} (R : Ready s n) (E : EndsPlan x y n plan) where
  abbrev p : Policy
  p = ruled s plan

  abbrev M : Model
  M = plan_model s plan n ends_legs

  -- a path of the plan is a flow path
  pub flow_path : {m : ℕ} {c e : ℕ → ℕ} → IsPath M m c e → FlowPath p x y m c e
  flow_path {m} {c} P =
      let a = E.from.only (context_of (c 0)) (range_of R (c 0) (P.contexts 0 (omega arith))) (to_true _ P.starts) in
      record {
        contexts = P.contexts;
        flows = P.flows;
        from = a;
        to = E.to.only (context_of (c m)) (range_of R (c m) (P.contexts m (le_refl m))) (to_true _ P.arrives);
        meets = subst (λ (z : Context). T (meetsρμ p z)) a P.meets;
      }

  -- a flow path, cut where it first meets y, is a path of the plan
  pub cut_path : {m : ℕ} {c e : ℕ → ℕ} → FlowPath p x y m c e → (k : ℕ) × (k ≤ m) × IsPath M k c e
  cut_path {m} {c} {e} P = go (none_or_least ends (suc m))
    where
      ends : ℕ → Bool
      ends j = bit (sets_of n plan (context_of (c j))) 1

      in_σ : {z : Context} (h : ℕ) (j : ℕ) → context_of (c j) ≡ z → OnlyIn n plan h z → bit (sets_of n plan (context_of (c j))) h ≡ true
      in_σ h j q O = ap (λ (z : Context). bit (sets_of n plan z) h) q ∙ O.has

      flow_event : (j : ℕ) → j < m → barred plan (e j) ≡ false
      flow_event j h =
          let w = flow_code {s = s} (counted_at plan) (e j) (context_of (c j)) (context_of (c (suc j))) R.sound (to_true _ (P.flows j h)) in
          ap (λ (v : ℕ). bit v γeChain) (E.events (e j) w) ∙ bit_zero γeChain

      go : ((j : ℕ) → j < suc m → ends j ≡ false) ⊎ ((k : ℕ) × LeastBelow (λ j. ends j ≡ true) (suc m) k) → (k : ℕ) × (k ≤ m) × IsPath M k c e
      go (inl none) = absurd (clash (in_σ 1 m P.to E.to) (none m (omega arith)))
      go (inr (k, L)) =
          let u = L.within in (
            k,
            omega arith,
            record {
              contexts = λ j h. P.contexts j (omega arith);
              flows = λ j h. P.flows j (omega arith);
              starts = of_true _ (in_σ 0 0 P.from E.from);
              meets = subst (λ (z : Context). T (meetsρμ p z)) (sym P.from) P.meets;
              arrives = of_true _ L.holds;
              first = λ j h t. L.before j h (to_true _ t);
              free = λ j h t. clash (to_true _ t) (E.free (context_of (c j)) (range_of R (c j) (P.contexts j (omega arith))));
              free_e = λ j h t. clash (to_true _ t) (flow_event j (omega arith));
            },
          )

  -- ---- so a search of the plan answers for the flow paths
  pub some_path : {m : ℕ} → BadNode M plain m → SomeFlowPath p x y m
  some_path {m} b = let w = (plain_iff M m).1 b in record { c = w.x; e = w.e; path = flow_path w.path }

  pub none_shorter : {m : ℕ} → ((k : ℕ) → k < m → ¬ BadNode M plain k) → NoneShorter p x y m
  none_shorter h k u S = let (i, l, P) = cut_path S.path in h i (omega arith) ((plain_iff M i).0 (record { x = S.c; e = S.e; path = P }))

  pub no_path : Least M plain nowhere → NoFlowPath p x y
  no_path h m = none_shorter {m = suc m} (λ k _. h k) m (omega arith)

  -- a path that is shown is a flow path
  pub shown_path : {m : ℕ} {before after : List ℕ} → Shows (IsPath M) m before after → Shows (FlowPath p x y) m before after
  shown_path S = record { room = S.room; whole = S.whole; rest = S.rest; path = flow_path S.path }
