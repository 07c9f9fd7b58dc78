-- Models that agree have the same paths, which break the same.
use mathlib.Core.Path.{◌≡◌, sym, ap, subst, ◌∙◌}
use mathlib.Core.List.{List}
use Prim.Native.Nat.{ℕ, zero, suc, ◌+◌, ◌-◌, ◌≤◌, ◌<◌}
use native.Mathlib.Nat.{le_refl}
use native.Mathlib.Omega.{arith}
use lib.Dec.{T}
use Rattle.paths.specs.Model.{Model}
use Rattle.paths.specs.Paths.{IsPath, BreaksOrder, FollowsEvents, BreaksEvents, SomeOrder, SomeEvents, NoneBelow, Holds, OrderAt, EventsAt}
use Rattle.paths.specs.Slice.{Shows}
use Rattle.paths.specs.Inner.Agree.{Agree}

pub agree_back : {M N : Model} → Agree M N → Agree N M
agree_back {M} {N} A =
    record {
      legs = sym A.legs;
      flows = λ x e y. sym (A.flows x e y);
      contexts = λ x. sym (A.contexts x);
      held = λ x. sym (A.held x);
      repeated = λ i h. sym (A.repeated i (omega (arith, A.legs)));
      σ = λ i x h c. sym (A.σ i x (omega (arith, A.legs)) (subst T (sym (A.contexts x)) c));
      σe = λ x c. sym (A.σe x (subst T (sym (A.contexts x)) c));
      γ = λ i x e y h f. sym (A.γ i x e y (omega (arith, A.legs)) (subst T (sym (A.flows x e y)) f));
      γe = λ x e y f. sym (A.γe x e y (subst T (sym (A.flows x e y)) f));
    }

module _ {M N : Model} (A : Agree M N) {m : ℕ} {x e : ℕ → ℕ} (P : IsPath M m x e) where
  -- the sets of a context of the path, and those of its events
  in_set : (i j : ℕ) → i ≤ M.legs → j ≤ m → M.σ i (x j) ≡ N.σ i (x j)
  in_set i j h k = A.σ i (x j) h (P.contexts j k)

  at_end : (j : ℕ) → j ≤ m → M.σ M.legs (x j) ≡ N.σ N.legs (x j)
  at_end j k = in_set M.legs j (le_refl M.legs) k ∙ ap (λ (i : ℕ). N.σ i (x j)) A.legs

  pub path_agrees : IsPath N m x e
  path_agrees =
      record {
        contexts = λ j h. subst T (A.contexts (x j)) (P.contexts j h);
        flows = λ j h. subst T (A.flows (x j) (e j) (x (suc j))) (P.flows j h);
        starts = subst T (in_set 0 0 (omega arith) (omega arith)) P.starts;
        meets = subst T (A.held (x 0)) P.meets;
        arrives = subst T (at_end m (le_refl m)) P.arrives;
        first = λ j h t. P.first j h (subst T (sym (at_end j (omega arith))) t);
        free = λ j h t. P.free j h (subst T (sym (A.σe (x j) (P.contexts j (omega arith)))) t);
        free_e = λ j h t. P.free_e j h (subst T (sym (A.γe (x j) (e j) (x (suc j)) (P.flows j h))) t);
      }

  pub order_agrees : BreaksOrder M m x → BreaksOrder N m x
  order_agrees b =
      record {
        i = b.i;
        j = b.j;
        above = b.above;
        below = omega (arith, b.below, A.legs);
        within = b.within;
        reached = subst T (in_set (suc b.i) b.j b.below b.within) b.reached;
        unreleased = λ l h t. b.unreleased l h (subst T (sym (in_set b.i l (let z = b.below in omega arith) (let z = b.within in omega arith))) t);
      }

  follows_agrees : FollowsEvents M m x e → FollowsEvents N m x e
  follows_agrees f =
      record {
        p = f.p;
        from = f.from;
        rises = λ i h. f.rises i (omega (arith, A.legs));
        upto = ap f.p (sym A.legs) ∙ f.upto;
        stands = λ i h. subst T (in_set i (f.p i) (omega (arith, A.legs)) (before i (omega (arith, A.legs)))) (f.stands i (omega (arith, A.legs)));
        steps = λ i h j lo hi.
            let l : i < M.legs = omega (arith, A.legs) in
            let k : j < m = (let z = before (suc i) l in omega arith) in
            subst T (A.γ i (x j) (e j) (x (suc j)) l (P.flows j k)) (f.steps i l j lo hi);
        single = λ i h s. f.single i (omega (arith, A.legs)) (λ t. s (subst T (A.repeated i (omega (arith, A.legs))) t));
      }
    where
      -- the places rise to m
      rest : (d i : ℕ) → i + d ≡ M.legs → f.p i ≤ m
      rest zero i q = let z : i ≡ M.legs = omega arith in let k : f.p i ≡ m = ap f.p z ∙ f.upto in omega arith
      rest (suc d) i q = let z = rest d (suc i) (omega arith) in let k = f.rises i (omega arith) in omega arith

      before : (i : ℕ) → i ≤ M.legs → f.p i ≤ m
      before i h = rest (M.legs - i) i (omega arith)

pub events_agree : {M N : Model} → Agree M N → {m : ℕ} {x e : ℕ → ℕ} → IsPath M m x e → BreaksEvents M m x e → BreaksEvents N m x e
events_agree A P b f = b (follows_agrees (agree_back A) (path_agrees A P) f)

module _ {M N : Model} (A : Agree M N) where
  some_order : {m : ℕ} → SomeOrder M m → SomeOrder N m
  some_order s = record { x = s.x; e = s.e; path = path_agrees A s.path; breaks = order_agrees A s.path s.breaks }

  some_events : {m : ℕ} → SomeEvents M m → SomeEvents N m
  some_events s = record { x = s.x; e = s.e; path = path_agrees A s.path; breaks = events_agree A s.path s.breaks }

  pub shows_agrees : {m : ℕ} {before after : List ℕ} → Shows (IsPath M) m before after → Shows (IsPath N) m before after
  shows_agrees s = record { room = s.room; whole = s.whole; rest = s.rest; path = path_agrees A s.path }

module _ {M N : Model} (A : Agree M N) where
  B : Agree N M
  B = agree_back A

  pub holds_agrees : Holds M → Holds N
  holds_agrees h m = (λ s. (h m).0 (some_order B s), λ s. (h m).1 (some_events B s))

  none_below : {m : ℕ} → NoneBelow M m → NoneBelow N m
  none_below h k l = (λ s. (h k l).0 (some_order B s), λ s. (h k l).1 (some_events B s))

  pub order_at_agrees : {m : ℕ} → OrderAt M m → OrderAt N m
  order_at_agrees h = (none_below h.0, some_order A h.1)

  pub events_at_agrees : {m : ℕ} → EventsAt M m → EventsAt N m
  events_at_agrees h = (none_below h.0, some_events A h.1, λ s. h.2 (some_order B s))
