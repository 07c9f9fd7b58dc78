-- Least flow steps by computing, for a policy whose steps are listed with none left out: whether no path has fewer than m steps, whether no
-- path leads there at all, and whether a slice is a path.
use mathlib.Core.Bool.{Bool, not, ◌&&◌, ◌||◌}
use mathlib.Core.List.{List}
use mathlib.Core.Logic.{◌⊎◌, inl, inr}
use mathlib.Core.Path.{◌≡◌, sym, ap, subst, ◌∙◌}
use Prim.Native.Nat.{ℕ, zero, suc, ◌+◌, ◌*◌, ◌≤◌, ◌<◌}
use native.Mathlib.Omega.{arith}
use lib.Dec.{T, eqb, eqb_refl, T_not}
use lib.ListN.{length}
use Rattle.policy_image.specs.Policy.{Policy}
use Rattle.context.specs.declared.Context.{Context}
use Rattle.context.specs.Codes.{context_of}
use Rattle.context.specs.Inner.Coding.{context_code}
use Rattle.context.proofs.CodeLaws.{context_code_of}
use Rattle.paths.specs.Slice.{contexts_in, events_in, Shows}
use Rattle.paths.specs.Inner.Below.{any_below}
use Rattle.paths.proofs.Any.{any_of, and_T, or_cases}
use Rattle.goal_model.specs.Images.{meetsρμ}
use Rattle.goal_model.proofs.Cover.{Step, context, step, uncovered, every_step, steps_from, steps_back, all_in}
use Rattle.least_steps.specs.LeastSteps.{FlowPath, NoFlowPath, NoneShorter}
use Rattle.weir.proofs.Shown.{every_below, every_at, shows_same}

module _ (p : Policy) (x y : Context) where
  -- a context that fails ρ or μ has no path
  pub none_unheld : T (not (meetsρμ p x)) → NoFlowPath p x y
  none_unheld t m S = T_not (meetsρμ p x) t S.path.meets

  -- where it starts and where it ends, by their codes
  pub starts_at : {m : ℕ} {c e : ℕ → ℕ} → FlowPath p x y m c e → c 0 ≡ context_code x
  starts_at {m} {c} {e} P = sym (context_code_of (c 0)) ∙ ap context_code P.from

  pub ends_at : {m : ℕ} {c e : ℕ → ℕ} → FlowPath p x y m c e → c m ≡ context_code y
  ends_at {m} {c} {e} P = sym (context_code_of (c m)) ∙ ap context_code P.to

  -- a path of m steps, by its contexts and events
  abbrev pub flow_path_b : ℕ → (ℕ → ℕ) → (ℕ → ℕ) → Bool
  flow_path_b m c e = every_below (suc m) (λ j. context p (c j)) && (every_below m (λ j. step p (c j) (e j) (c (suc j))) && meetsρμ p x)

  pub flow_path_by : (m : ℕ) (c e : ℕ → ℕ) → context_of (c 0) ≡ x → context_of (c m) ≡ y → T (flow_path_b m c e) → FlowPath p x y m c e
  flow_path_by m c e from to t =
      let (a, (b, h)) = simp and_T at t in
      record {
        contexts = λ j l. every_at (suc m) (λ j. context p (c j)) a j (omega arith);
        flows = every_at m (λ j. step p (c j) (e j) (c (suc j))) b;
        from = from;
        to = to;
        meets = h;
      }

  -- a slice that held the path before the call
  pub shows_flow_by : (m : ℕ) (s : List ℕ) → 2 * m + 1 ≤ length s → context_of (contexts_in s 0) ≡ x → context_of (contexts_in s m) ≡ y
      → T (flow_path_b m (contexts_in s) (events_in s)) → Shows (FlowPath p x y) m s s
  shows_flow_by m s room from to t = shows_same (FlowPath p x y) m s room (flow_path_by m (contexts_in s) (events_in s) from to t)

module _ (p : Policy) (steps : List Step) (covers : T (not (uncovered p steps))) where
  -- some walk of k steps from the context a ends where the test holds
  abbrev pub any_end : ℕ → ℕ → (ℕ → Bool) → Bool
  any_end zero a f = f a
  any_end (suc k) a f = any_end k a (λ z. steps_from p steps covers z (λ e y. f y))

  walked : (k : ℕ) (c e : ℕ → ℕ) → ((j : ℕ) → j ≤ k → T (context p (c j))) → ((j : ℕ) → j < k → T (step p (c j) (e j) (c (suc j))))
      → (f : ℕ → Bool) → T (f (c k)) → T (any_end k (c 0) f)
  walked zero c e C W f t = t
  walked (suc k) c e C W f t =
      walked k c e (λ j h. C j (omega arith)) (λ j h. W j (omega arith)) (λ z. steps_from p steps covers z (λ e y. f y))
      (steps_back p steps covers (c k) (λ e y. f y) (C k (omega arith)) (e k) (c (suc k)) (C (suc k) (omega arith)) (W k (omega arith)) t)

  module _ (x y : Context) where
    -- a walk of k steps leads from x to y
    abbrev pub leads : ℕ → Bool
    leads k = any_end k (context_code x) (λ z. eqb z (context_code y))

    path_leads : {k : ℕ} {c e : ℕ → ℕ} → FlowPath p x y k c e → T (leads k)
    path_leads {k} {c} {e} P =
        subst (λ (a : ℕ). T (any_end k a (λ z. eqb z (context_code y)))) (starts_at p x y P)
        (walked k c e P.contexts P.flows (λ z. eqb z (context_code y)) (subst (λ (b : ℕ). T (eqb b (context_code y))) (sym (ends_at p x y P)) (eqb_refl (context_code y))))

    pub none_shorter_by : (m : ℕ) → T (not (any_below m leads)) → NoneShorter p x y m
    none_shorter_by m t k h S = T_not (any_below m leads) t (any_of m leads k h (path_leads S.path))

    -- what at most k steps lead to: no step leads out of it, and y is not in it
    abbrev pub near : ℕ → ℕ → Bool
    near k z = any_below (suc k) (λ d. any_end d (context_code x) (λ a. eqb a z))

    abbrev pub stays : ℕ → ℕ → ℕ → ℕ → Bool
    stays k a e b = not (near k a) || near k b

    abbrev pub none_b : ℕ → Bool
    none_b k = all_in steps (λ s. stays k s.x s.e s.y) && not (near k (context_code y))

    module _ (k : ℕ) {m : ℕ} {c e : ℕ → ℕ} (P : FlowPath p x y m c e) (t : T (all_in steps (λ s. stays k s.x s.e s.y))) where
      all_near : (j : ℕ) → j ≤ m → T (near k (c j))
      all_near zero h =
          any_of (suc k) (λ d. any_end d (context_code x) (λ a. eqb a (c 0))) 0 (omega arith)
          (subst (λ (b : ℕ). T (eqb (context_code x) b)) (sym (starts_at p x y P)) (eqb_refl (context_code x)))
      all_near (suc j) h =
          go (all_near j (omega arith))
          (or_cases (not (near k (c j))) (near k (c (suc j)))
          (every_step p steps covers (stays k) t (c j) (e j) (c (suc j)) (P.contexts j (omega arith)) (P.contexts (suc j) h) (P.flows j (omega arith))))
        where
          go : T (near k (c j)) → T (not (near k (c j))) ⊎ T (near k (c (suc j))) → T (near k (c (suc j)))
          go u (inl v) = absurd (T_not (near k (c j)) v u)
          go u (inr v) = v

    pub none_by : (k : ℕ) → T (none_b k) → NoFlowPath p x y
    none_by k t m S =
        let q = (and_T (all_in steps (λ s. stays k s.x s.e s.y)) (not (near k (context_code y)))).0 t in
        T_not (near k (context_code y)) q.1 (subst (λ (b : ℕ). T (near k b)) (ends_at p x y S.path) (all_near k S.path q.0 m (omega arith)))
