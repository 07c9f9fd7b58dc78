-- The stages that are still possible, as a set: n is among them at the end exactly where the path follows events.
use mathlib.Core.Path.{◌≡◌, refl, sym, ap, subst, ◌∙◌}
use mathlib.Core.Bool.{Bool, not, ◌&&◌}
use mathlib.Core.Logic.{◌⊎◌, inl, inr, ◌↔◌}
use Prim.Native.Nat.{ℕ, zero, suc, ◌≤◌, ◌<◌}
use native.Mathlib.Nat.{not-suc-le-zero, le_refl}
use native.Mathlib.Omega.{arith}
use native.Mathlib.Decide.{dec_le}
use lib.Dec.{T, eqb, eqb→eq, eqb_refl, ltb→lt, lt→ltb}
use Rattle.paths.specs.Model.{Model}
use Rattle.paths.specs.Paths.{FollowsEvents}
use Rattle.paths.specs.Inner.Monitors.{goes, enters, opens}
use Rattle.paths.proofs.Any.{or_cases, or_left, or_right, T-dec, and_T, next, till, till_below, till_at}
use Rattle.paths.specs.Inner.Monitor.{Monitor, run}

module _ (M : Model) where
  open M use {legs, σ, γ, repeated}

  abbrev pub stager : Monitor
  stager = record {
    State = ℕ → Bool;
    start = λ x i. eqb i 0;
    step = opens M;
    bad = λ S. not (S legs);
  }

  module _ (x e : ℕ → ℕ) where
    -- stage i is possible after j events
    data Stage : ℕ → ℕ → Type 0 where
      first : Stage 0 0
      stay : {i j : ℕ} → i < legs → Stage i j → T (γ i (e j)) → T (repeated i) → Stage i (suc j)
      move : {i j : ℕ} → i < legs → Stage i j → T (γ i (e j)) → T (σ (suc i) (x (suc j))) → Stage (suc i) (suc j)

    -- the set holds just these
    stage_of : (j i : ℕ) → T (run stager x e j i) → Stage i j
    stage_of zero i t = subst (λ (k : ℕ). Stage k 0) (sym (eqb→eq i 0 t)) first
    stage_of (suc j) i t = go i (or_cases (goes M S (e j) i && repeated i) (enters M S (e j) (x (suc j)) i) t) (λ k s. stage_of j k s)
      where
        S : ℕ → Bool
        S = run stager x e j

        go : (i : ℕ) → T (goes M S (e j) i && repeated i) ⊎ T (enters M S (e j) (x (suc j)) i) → ((k : ℕ) → T (S k) → Stage k j) → Stage i (suc j)
        go i (inl t) ih = let ((h, (s, g)), r) = simp and_T at t in stay (ltb→lt i legs h) (ih i s) g r
        go zero (inr t) ih = absurd t
        go (suc i) (inr t) ih = let ((h, (s, g)), r) = simp and_T at t in move (ltb→lt i legs h) (ih i s) g r

    stages_of : {j i : ℕ} → Stage i j → T (run stager x e j i)
    stages_of first = eqb_refl 0
    stages_of (stay {i = i} {j = j} h s g r) =
        or_left (goes M (run stager x e j) (e j) i && repeated i) (enters M (run stager x e j) (e j) (x (suc j)) i)
        (simp and_T ((lt→ltb i legs h, (stages_of s, g)), r))
    stages_of (move {i = i} {j = j} h s g r) =
        or_right (goes M (run stager x e j) (e j) (suc i) && repeated (suc i)) (enters M (run stager x e j) (e j) (x (suc j)) (suc i))
        (simp and_T ((lt→ltb i legs h, (stages_of s, g)), r))

    -- leg i goes from place a to place b
    record Leg (i a b : ℕ) : Type 0 where
      below : i < legs
      rises : a < b
      stands : T (σ (suc i) (x b))
      steps : (l : ℕ) → a ≤ l → l < b → T (γ i (e l))
      single : ¬ T (repeated i) → b ≡ suc a

    -- the first i legs end at place b
    data Legs : ℕ → ℕ → Type 0 where
      none : Legs 0 0
      leg : {i a b : ℕ} → Legs i a → Leg i a b → Legs (suc i) b

    -- stage i is possible after j events: the first i legs end at place a, and the events from there on are of leg i
    record Partly (i a j : ℕ) : Type 0 where
      sofar : a ≤ j
      events : (l : ℕ) → a ≤ l → l < j → T (γ i (e l))
      single : ¬ T (repeated i) → j ≡ a
      closed : legs ≤ i → j ≡ a

    partly : {i j : ℕ} → Stage i j → (a : ℕ) × Legs i a × Partly i a j
    partly first = (0, none, record { sofar = omega arith; events = λ l h k. absurd (not-suc-le-zero k); single = λ r. refl; closed = λ r. refl })
    partly (stay {i = i} {j = j} h s g r) = let (a, ls, q) = partly s in (
      a,
      ls,
      record {
        sofar = omega (arith, q.sofar);
        events = λ l b c. next (λ (k : ℕ). a ≤ k → T (γ i (e k))) j (λ k u v. q.events k v u) (λ v. g) l c b;
        single = λ k. absurd (k r);
        closed = λ k. omega arith;
      },
    )
    partly (move {i = i} {j = j} h s g t) = let (a, ls, q) = partly s in (
      suc j,
      leg {b = suc j} ls (record {
        below = h;
        rises = omega (arith, q.sofar);
        stands = t;
        steps = λ l b c. next (λ (k : ℕ). a ≤ k → T (γ i (e k))) j (λ k u v. q.events k v u) (λ v. g) l c b;
        single = λ k. ap suc (q.single k);
      }),
      record { sofar = omega arith; events = λ l b c. absurd (omega arith); single = λ k. refl; closed = λ k. refl },
    )

    -- and back: a leg that is run through
    through : {i a b : ℕ} → Leg i a b → (l : ℕ) → a ≤ l → l < b → Stage i a → Stage i l
    through {i} {a} {b} g l h k s = go l h k
      where
        again : suc a < b → Dec (T (repeated i)) → T (repeated i)
        again w (yes r) = r
        again w (no r) = absurd (omega (arith, g.single r))

        at : (l : ℕ) → a ≤ suc l → suc l < b → (a ≤ l → l < b → Stage i l) → Dec (a ≤ l) → Stage i (suc l)
        at l h k ih (yes q) = stay g.below (ih q (omega arith)) (g.steps l q (omega arith)) (again (omega arith) (T-dec (repeated i)))
        at l h k ih (no q) = let w : suc l ≡ a = omega arith in rw w s

        go : (l : ℕ) → a ≤ l → l < b → Stage i l
        go zero h k = let w : 0 ≡ a = omega arith in rw w s
        go (suc l) h k = at l h k (λ u v. go l u v) (dec_le a l)

    stage_legs : {i b : ℕ} → Legs i b → Stage i b
    stage_legs none = first
    stage_legs (leg {i = i} {a = a} {b = zero} ls g) = absurd (not-suc-le-zero g.rises)
    stage_legs (leg {i = i} {a = a} {b = suc b} ls g) =
        move g.below
        (through g b (omega (arith, g.rises)) (le_refl (suc b)) (stage_legs ls))
        (g.steps b (omega (arith, g.rises)) (le_refl (suc b)))
        g.stands

    -- the definition's legs are these
    leg_of : {m : ℕ} (f : FollowsEvents M m x e) (i : ℕ) → i < legs → Leg i (f.p i) (f.p (suc i))
    leg_of f i h =
        record {
          below = h;
          rises = omega (arith, f.rises i h);
          stands = f.stands (suc i) (omega arith);
          steps = λ l a b. f.steps i h l (omega arith) (omega arith);
          single = λ r. omega (arith, f.rises i h, f.single i h r);
        }

    legs_of_lem : {m : ℕ} (f : FollowsEvents M m x e) (i : ℕ) → i ≤ legs → Legs i (f.p i)
    legs_of_lem f zero h = rw f.from none
    legs_of_lem f (suc i) h = leg (legs_of_lem f i (omega arith)) (leg_of f i h)

    record Places (i b : ℕ) : Type 0 where
      p : ℕ → ℕ
      from : p 0 ≡ 0
      upto : p i ≡ b
      legs_at : (k : ℕ) → k < i → Leg k (p k) (p (suc k))

    leg_cast : {k a a' b b' : ℕ} → a' ≡ a → b' ≡ b → Leg k a b → Leg k a' b'
    leg_cast p q g = rw (p, q) g

    places : {i b : ℕ} → Legs i b → Places i b
    places none = record { p = λ k. 0; from = refl; upto = refl; legs_at = λ k h. absurd (not-suc-le-zero h) }
    places (leg {i = i} {a = a} {b = b} ls g) = more (places ls)
      where
        more : Places i a → Places (suc i) b
        more q = record {
          p = till (suc i) q.p b;
          from = q.from;
          upto = till_at i (λ k. q.p (suc k)) b;
          legs_at = next (λ (k : ℕ). Leg k (till (suc i) q.p b k) (till i (λ k. q.p (suc k)) b k)) i
              (λ k h. leg_cast (till_below (suc i) q.p b k (omega arith)) (till_below i (λ k. q.p (suc k)) b k h) (q.legs_at k h))
              (leg_cast (till_below (suc i) q.p b i (omega arith) ∙ q.upto) (till_at i (λ k. q.p (suc k)) b) g);
        }

    -- x 0 is in σ0 on a path; then it follows events exactly when n is among the stages at its end
    pub follows_iff : (m : ℕ) → T (σ 0 (x 0)) → FollowsEvents M m x e ↔ T (run stager x e m legs)
    follows_iff m t₀ = (there, λ t. back (partly (stage_of m legs t)))
      where
        there : FollowsEvents M m x e → T (run stager x e m legs)
        there f = stages_of (rw f.upto at (stage_legs (legs_of_lem f legs (le_refl legs))))

        stands_at : {a : ℕ} (q : Places legs a) (i : ℕ) → i ≤ legs → T (σ i (x (q.p i)))
        stands_at q zero h = rw q.from t₀
        stands_at q (suc i) h = (q.legs_at i h).stands

        back : (a : ℕ) × Legs legs a × Partly legs a m → FollowsEvents M m x e
        back s = let q = places s.1 in record {
          p = q.p;
          from = q.from;
          upto = q.upto ∙ sym (s.2.closed (le_refl legs));
          rises = λ i h. omega (arith, (q.legs_at i h).rises);
          stands = λ i h. stands_at q i (omega arith);
          steps = λ i h l a b. (q.legs_at i h).steps l (omega arith) (omega arith);
          single = λ i h r. omega (arith, (q.legs_at i h).single r);
        }
