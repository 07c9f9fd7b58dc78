-- The contexts and the steps of a policy, gone through by computing: for theorems on images that are written out.
use mathlib.Core.Path.{◌≡◌, sym, subst, subst₃}
use mathlib.Core.Bool.{Bool, true, false, not, ◌&&◌, ◌||◌}
use mathlib.Core.List.{List, [], ◌∷◌}
use mathlib.Core.Logic.{◌⊎◌, inl, inr}
use Prim.Native.Nat.{ℕ, suc, ◌+◌, ◌-◌, ◌*◌, ◌/◌, ◌%◌, ◌≤◌}
use native.Mathlib.Omega.{arith}
use borrow.Author.Tests.{eq-eqb, eqb-true}
use lib.Dec.{T, eqb, leb→le, eqb→eq, eqb_refl, T_not, not_T}
use Rattle.base.specs.Bits.{bit}
use Rattle.base.specs.Upto.{any_upto}
use Rattle.base.proofs.BoolLaws.{and_true, and_first, to_true, of_true}
use Rattle.base.proofs.UptoLaws.{any_yes}
use Rattle.policy_image.specs.Policy.{Policy}
use Rattle.policy_links.proofs.KindLaws.{some_record}
use Rattle.context.specs.declared.Context.{Context}
use Rattle.context.specs.declared.Event.{Event}
use Rattle.context.specs.Codes.{context_of, event_of}
use Rattle.relations.specs.Relations.{Γ, α, write_like, read_like}
use Rattle.access.specs.Authorization.{authorized, flow}
use Rattle.goal_image.specs.Goal.{Goal}
use Rattle.paths.specs.Inner.Below.{any_below}
use Rattle.paths.proofs.Any.{any_witness, any_of, and_T, or_cases, or_left, or_right, T-dec}
use Rattle.paths.proofs.Finite.{Finite}
use Rattle.goal_model.specs.Images.{in_range, model_of}

pub record Step : Type 0 where
  pub x : ℕ
  pub e : ℕ
  pub y : ℕ

-- ---- lists of steps
abbrev pub any_in : {A : Type 0} → List A → (A → Bool) → Bool
any_in [] f = false
any_in (a ∷ l) f = f a || any_in l f

in_witness : {A : Type 0} (l : List A) (f : A → Bool) → T (any_in l f) → (a : A) × T (f a)
in_witness [] f t = absurd t
in_witness {A} (a ∷ l) f t = go (or_cases (f a) (any_in l f) t) (λ u. in_witness l f u)
  where
    go : T (f a) ⊎ T (any_in l f) → (T (any_in l f) → (a : A) × T (f a)) → (a : A) × T (f a)
    go (inl u) ih = (a, u)
    go (inr u) ih = ih u

abbrev pub all_in : {A : Type 0} → List A → (A → Bool) → Bool
all_in [] f = true
all_in (a ∷ l) f = f a && all_in l f

-- one that passes both, where all pass the first and some passes the second
all_some : {A : Type 0} (l : List A) (f g : A → Bool) → T (all_in l f) → T (any_in l g) → (a : A) × T (f a) × T (g a)
all_some [] f g s t = absurd t
all_some {A} (a ∷ l) f g s t = let q = (and_T (f a) (all_in l f)).0 s in go q.0 (or_cases (g a) (any_in l g) t) (λ u. all_some l f g q.1 u)
  where
    go : T (f a) → T (g a) ⊎ T (any_in l g) → (T (any_in l g) → (a : A) × T (f a) × T (g a)) → (a : A) × T (f a) × T (g a)
    go v (inl u) ih = (a, v, u)
    go v (inr u) ih = ih u

in_map : {A : Type 0} (l : List A) (f g : A → Bool) → ((a : A) → T (f a) → T (g a)) → T (any_in l f) → T (any_in l g)
in_map [] f g h t = absurd t
in_map (a ∷ l) f g h t = go (or_cases (f a) (any_in l f) t) (λ u. in_map l f g h u)
  where
    go : T (f a) ⊎ T (any_in l f) → (T (any_in l f) → T (any_in l g)) → T (g a || any_in l g)
    go (inl u) ih = or_left (g a) (any_in l g) (h a u)
    go (inr u) ih = or_right (g a) (any_in l g) (ih u)

authorized_defined : (p : Policy) (e : Event) (x y : Context) → T (authorized p e x y) → T (Γ p e)
unfolding authorized α
authorized_defined p e x y t = let v = simp and_T at t in v.0.1.0

module _ (p : Policy) where
  abbrev pub context : ℕ → Bool
  context x = in_range p.counts (context_of x)

  abbrev pub step : ℕ → ℕ → ℕ → Bool
  step x e y = flow p (event_of e) (context_of x) (context_of y)

  -- ---- every context
  abbrev pub code : ℕ → ℕ → ℕ → ℕ
  code t r u = 256 * suc t + 16 * suc r + suc u

  abbrev pub any_context : (ℕ → Bool) → Bool
  any_context f =
      any_below p.counts.types (λ t. any_below p.counts.roles (λ r. any_below p.counts.users (λ u. context (code t r u) && f (code t r u))))

  pub context_there : (f : ℕ → Bool) → T (any_context f) → (x : ℕ) × T (context x) × T (f x)
  context_there f a =
      let (t, ht, b) = any_witness p.counts.types _ a in
      let (r, hr, c) = any_witness p.counts.roles _ b in
      let (u, hu, d) = any_witness p.counts.users _ c in
      let q = (and_T (context (code t r u)) (f (code t r u))).0 d in
      (code t r u, q.0, q.1)

  code_of : (x : ℕ) → 1 ≤ x / 256 → 1 ≤ x / 16 % 16 → 1 ≤ x % 16 → code (x / 256 - 1) (x / 16 % 16 - 1) (x % 16 - 1) ≡ x
  code_of x a b c = omega arith

  pub context_back : (f : ℕ → Bool) (x : ℕ) → T (context x) → T (f x) → T (any_context f)
  unfolding in_range
  context_back f x c a =
      let ((t1, t2), ((r1, r2), (u1, u2))) = simp and_T at c in
      let ht = leb→le 1 (x / 256) t1 in
      let hr = leb→le 1 (x / 16 % 16) r1 in
      let hu = leb→le 1 (x % 16) u1 in
      let ht2 = leb→le (x / 256) p.counts.types t2 in
      let hr2 = leb→le (x / 16 % 16) p.counts.roles r2 in
      let hu2 = leb→le (x % 16) p.counts.users u2 in
      any_of p.counts.types _ (x / 256 - 1) (omega arith)
      (any_of p.counts.roles _ (x / 16 % 16 - 1) (omega arith)
      (any_of p.counts.users _ (x % 16 - 1) (omega arith)
      (subst (λ (y : ℕ). T (context y && f y)) (sym (code_of x ht hr hu)) ((and_T (context x) (f x)).1 (c, a)))))

  -- ---- every event that some record of kind 2 gives
  abbrev pub any_defined : (ℕ → Bool) → Bool
  any_defined f = any_upto (λ i. eqb (p.rec i).kind 2 && any_below 32 (λ q. f (32 * (p.rec i).a + q))) p.size

  defined_back : (f : ℕ → Bool) (e : ℕ) → T (Γ p (event_of e)) → T (f e) → T (any_defined f)
  unfolding Γ
  defined_back f e d a =
      let r = some_record p 2 (λ r. eqb r.a (e / 32) && bit r.mask (e % 32)) (to_true _ d) in
      let i : ℕ = r.0 in
      let c : (p.rec i).a ≡ e / 32 = eqb-true (p.rec i).a (e / 32) (and_first (eqb (p.rec i).a (e / 32)) (bit (p.rec i).mask (e % 32)) r.2) in
      let q : e ≡ 32 * (p.rec i).a + e % 32 = omega arith in
      of_true _
      (any_yes (λ i. eqb (p.rec i).kind 2 && any_below 32 (λ q. f (32 * (p.rec i).a + q))) p.size i r.1.low r.1.high
      (and_true (eqb (p.rec i).kind 2) (any_below 32 (λ q. f (32 * (p.rec i).a + q))) (eq-eqb (p.rec i).kind 2 r.1.kind)
      (to_true _ (any_of 32 (λ q. f (32 * (p.rec i).a + q)) (e % 32) (omega arith) (subst (λ (n : ℕ). T (f n)) q a)))))

  flow_defined : (x e y : ℕ) → T (step x e y) → T (Γ p (event_of e))
  unfolding flow
  flow_defined x e y t = go (or_cases (write_like p (event_of e) && authorized p (event_of e) (context_of x) (context_of y)) (read_like p (event_of e) && authorized p (event_of e) (context_of y) (context_of x)) t)
    where
      go : T (write_like p (event_of e) && authorized p (event_of e) (context_of x) (context_of y)) ⊎ T (read_like p (event_of e) && authorized p (event_of e) (context_of y) (context_of x)) → T (Γ p (event_of e))
      go (inl a) = authorized_defined p (event_of e) (context_of x) (context_of y) ((and_T (write_like p (event_of e)) (authorized p (event_of e) (context_of x) (context_of y))).0 a).1
      go (inr a) = authorized_defined p (event_of e) (context_of y) (context_of x) ((and_T (read_like p (event_of e)) (authorized p (event_of e) (context_of y) (context_of x))).0 a).1

  -- ---- steps against a list of them
  abbrev pub is_listed : List Step → ℕ → ℕ → ℕ → Bool
  is_listed steps x e y = any_in steps (λ s. eqb s.x x && (eqb s.e e && eqb s.y y))

  -- some step that flow allows is not among those of the list
  abbrev pub missed : List Step → ℕ → ℕ → ℕ → Bool
  missed steps x e y = step x e y && not (is_listed steps x e y)

  unfoldable pub uncovered : List Step → Bool
  uncovered steps = any_context (λ x. any_defined (λ e. any_context (λ y. missed steps x e y)))

  module _ (steps : List Step) (covers : T (not (uncovered steps))) where
    miss : (x e y : ℕ) → T (context x) → T (context y) → T (step x e y) → T (not (is_listed steps x e y)) → T (uncovered steps)
    unfolding uncovered
    miss x e y cx cy w k =
        context_back (λ x. any_defined (λ e. any_context (λ y. missed steps x e y))) x cx
        (defined_back (λ e. any_context (λ y. missed steps x e y)) e (flow_defined x e y w)
        (context_back (λ y. missed steps x e y) y cy ((and_T (step x e y) (not (is_listed steps x e y))).1 (w, k))))

    listed : (x e y : ℕ) → T (context x) → T (context y) → T (step x e y) → T (is_listed steps x e y)
    listed x e y cx cy w = go (T-dec (is_listed steps x e y))
      where
        go : Dec (T (is_listed steps x e y)) → T (is_listed steps x e y)
        go (yes t) = t
        go (no k) = absurd (T_not (uncovered steps) covers (miss x e y cx cy w (not_T (is_listed steps x e y) k)))

    -- what all the listed steps are, every step is
    pub every_step : (f : ℕ → ℕ → ℕ → Bool) → T (all_in steps (λ s. f s.x s.e s.y)) →
        (x e y : ℕ) → T (context x) → T (context y) → T (step x e y) → T (f x e y)
    every_step f a x e y cx cy w =
        let (s, u, v) = all_some steps _ _ a (listed x e y cx cy w) in
        let (p, (q, r)) = simp and_T at v in
        subst₃ (λ (x e y : ℕ). T (f x e y)) (eqb→eq s.x x p) (eqb→eq s.e e q) (eqb→eq s.y y r) u

    abbrev pub steps_from : ℕ → (ℕ → ℕ → Bool) → Bool
    steps_from x f = any_in steps (λ s. eqb s.x x && ((context s.y && step s.x s.e s.y) && f s.e s.y))

    pub steps_there : (x : ℕ) (f : ℕ → ℕ → Bool) → T (steps_from x f) → (e : ℕ) × (y : ℕ) × T (context y) × T (step x e y) × T (f e y)
    steps_there x f t =
        let (s, u) = in_witness steps _ t in
        let (q, ((c, w), h)) = simp and_T at u in
        (s.e, s.y, c, subst (λ (z : ℕ). T (step z s.e s.y)) (eqb→eq s.x x q) w, h)

    pub steps_back : (x : ℕ) (f : ℕ → ℕ → Bool) → T (context x) → (e y : ℕ) → T (context y) → T (step x e y) → T (f e y) → T (steps_from x f)
    steps_back x f cx e y cy w h = in_map steps _ _ at (listed x e y cx cy w)
      where
        at : (s : Step) → T (eqb s.x x && (eqb s.e e && eqb s.y y)) → T (eqb s.x x && ((context s.y && step s.x s.e s.y) && f s.e s.y))
        at s t =
            let (a, (b, c)) = simp and_T at t in
            let qx : s.x ≡ x = eqb→eq s.x x a in
            let qe : s.e ≡ e = eqb→eq s.e e b in
            let qy : s.y ≡ y = eqb→eq s.y y c in
            rw (qx, qe, qy) (simp and_T (eqb_refl x, ((cy, w), h)))

    -- the model of any goal over the policy, gone through
    abbrev pub finite : (g : Goal) → Finite (model_of p g)
    finite g =
        record {
          any_c = any_context;
          any_c_iff = λ f. (context_there f, λ r. context_back f r.0 r.1 r.2);
          any_step = steps_from;
          step_there = steps_there;
          step_back = steps_back;
        }
