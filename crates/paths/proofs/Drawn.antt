-- The answers of models drawn by hand, by computing.
use mathlib.Core.Path.{◌≡◌}
use mathlib.Core.Bool.{Bool, ◌&&◌}
use mathlib.Core.List.{List, [], ◌∷◌}
use mathlib.Core.Logic.{◌⊎◌, inl, inr, ◌↔◌}
use Prim.Native.Nat.{ℕ}
use lib.Dec.{T, eqb, ltb, eqb→eq, eqb_refl, ltb→lt, lt→ltb}
use Rattle.paths.specs.Inner.Below.{any_below}
use Rattle.paths.specs.Inner.Verdict.{Verdict, holds, order, events, Right}
use Rattle.paths.specs.Cases.Drawn.{Step, Drawn, any_in, is_step, drawn_model}
use Rattle.paths.proofs.Any.{or_cases, or_left, or_right, and_T, any_witness, any_of}
use Rattle.paths.proofs.Finite.{Finite}
use Rattle.paths.proofs.Decide.{holds_b, order_at_b, events_at_b, holds_by, order_by, events_by}

-- ---- the steps of the list, gone through
record Member {A : Type 0} (l : List A) (f : A → Bool) : Type 0 where
  it : A
  passes : T (f it)
  among : (g : A → Bool) → T (g it) → T (any_in l g)

member : {A : Type 0} (l : List A) (f : A → Bool) → T (any_in l f) → Member l f
member [] f t = absurd t
member {A} (a ∷ l) f t = go (or_cases (f a) (any_in l f) t) (λ u. member l f u)
  where
    go : T (f a) ⊎ T (any_in l f) → (T (any_in l f) → Member l f) → Member (a ∷ l) f
    go (inl u) ih = record { it = a; passes = u; among = λ g v. or_left (g a) (any_in l g) v }
    go (inr u) ih =
        let m = ih u in
        record { it = m.it; passes = m.passes; among = λ g v. or_right (g a) (any_in l g) (m.among g v) }

module _ (d : Drawn) where
  abbrev any_context : (ℕ → Bool) → Bool
  any_context f = any_below d.contexts f

  pub context_iff : (f : ℕ → Bool) → T (any_context f) ↔ ((x : ℕ) × T (ltb x d.contexts) × T (f x))
  context_iff f = (
    λ t. let (x, h, u) = any_witness d.contexts f t in (x, lt→ltb x d.contexts h, u),
    λ r. any_of d.contexts f r.0 (ltb→lt r.0 d.contexts r.1) r.2,
  )

  abbrev leads : ℕ → (ℕ → ℕ → Bool) → Step → Bool
  leads x f s = eqb s.from x && (ltb s.into d.contexts && f s.event s.into)

  pub there : (x : ℕ) (f : ℕ → ℕ → Bool) → T (any_in d.steps (leads x f))
      → (e : ℕ) × (y : ℕ) × T (ltb y d.contexts) × T (any_in d.steps (is_step x e y)) × T (f e y)
  there x f t =
      let m = member d.steps (leads x f) t in
      let s = m.it in
      let q = (and_T (eqb s.from x) (ltb s.into d.contexts && f s.event s.into)).0 m.passes in
      let r = (and_T (ltb s.into d.contexts) (f s.event s.into)).0 q.1 in
      (s.event, s.into, r.0, m.among (is_step x s.event s.into) (simp and_T (q.0, (eqb_refl s.event, eqb_refl s.into))), r.1)

  pub back : (x : ℕ) (f : ℕ → ℕ → Bool) (e y : ℕ) → T (ltb y d.contexts) → T (any_in d.steps (is_step x e y)) → T (f e y)
      → T (any_in d.steps (leads x f))
  back x f e y c w u =
      let m = member d.steps (is_step x e y) w in
      let (p, (q, r)) = simp and_T at m.passes in
      m.among (leads x f) (passes m.it p (eqb→eq m.it.event e q) (eqb→eq m.it.into y r))
    where
      passes : (s : Step) → T (eqb s.from x) → s.event ≡ e → s.into ≡ y → T (leads x f s)
      passes s p q r =
          (and_T (eqb s.from x) (ltb s.into d.contexts && f s.event s.into)).1
          (p, rw (q, r) ((and_T (ltb y d.contexts) (f e y)).1 (c, u)))

  abbrev pub finite : Finite (drawn_model d)
  finite = record {
    any_c = any_context;
    any_c_iff = context_iff;
    any_step = λ x f. any_in d.steps (leads x f);
    step_there = there;
    step_back = λ x f c e y. back x f e y;
  }

  -- 'holds' is tried as far as there are contexts: enough where no context is met twice
  abbrev pub answers_b : Verdict → Bool
  answers_b holds = holds_b (drawn_model d) finite d.contexts
  answers_b (order m) = order_at_b (drawn_model d) finite m
  answers_b (events m) = events_at_b (drawn_model d) finite m

  pub answer_by : (a : Verdict) → T (answers_b a) → Right (drawn_model d) a
  answer_by holds t = holds_by (drawn_model d) finite d.contexts t
  answer_by (order m) t = order_by (drawn_model d) finite m t
  answer_by (events m) t = events_by (drawn_model d) finite m t
