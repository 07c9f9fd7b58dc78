-- Clearing what was visited.
use mathlib.Core.Path.{◌≡◌, sym, ◌∙◌, ap}
use mathlib.Core.List.{List}
use Prim.Native.Nat.{ℕ, ◌+◌, ◌≤◌, ◌<◌}
use native.Mathlib.Decide.{ℕ_discrete}
use native.Mathlib.Omega.{arith}
use lib.ListN.{length, get_or, set, length-set}
use lib.Seq.{get_or-set_same, get_or-set_other}
use Rattle.search_graph.specs.Inner.State.{InQueue}
use Rattle.search_graph.specs.Inner.Visits.{Cleared, Visited}

-- of the places of the queue below n, those below i are undone
pub record Undoing (queue back : List ℕ) (i n : ℕ) : Type 0 where
  pub below : i ≤ n
  pub room : n ≤ length queue
  pub inside : (j : ℕ) → j < n → get_or queue j 0 < length back
  pub left : (v : ℕ) → (get_or back v 0 ≡ 0 → ⊥) → (q : InQueue queue n v) × (i ≤ q.place)

pub undo_begin : {queue back : List ℕ} {n : ℕ} → Visited queue back n → Undoing queue back 0 n
undo_begin S = record { below = omega arith; room = S.room; inside = S.inside; left = λ v z. (S.listed v z, omega arith) }

pub undo_more : {queue back : List ℕ} {i n : ℕ} → Undoing queue back i n → i < n → Undoing queue (set back (get_or queue i 0) 0) (i + 1) n
undo_more {queue} {back} {i} {n} U h =
    record {
      below = omega arith;
      room = U.room;
      inside = λ j l. simp length-set (U.inside j l);
      left = λ v z. go v z (ℕ_discrete v (get_or queue i 0));
    }
  where
    go : (v : ℕ) → (get_or (set back (get_or queue i 0) 0) v 0 ≡ 0 → ⊥) → Dec (v ≡ get_or queue i 0) → (q : InQueue queue n v) × (i + 1 ≤ q.place)
    go v z (yes e) = absurd (z (rw e (get_or-set_same back (get_or queue i 0) 0 0 (U.inside i h))))
    go v z (no e) =
        let (q, l) = U.left v (λ k. z (get_or-set_other back (get_or queue i 0) v 0 0 e ∙ k)) in
        (q, later q l (ℕ_discrete q.place i))
      where
        later : (q : InQueue queue n v) → i ≤ q.place → Dec (q.place ≡ i) → i + 1 ≤ q.place
        later q l (yes k) = absurd (e (sym q.holds ∙ ap (λ (j : ℕ). get_or queue j 0) k))
        later q l (no k) = omega arith

pub undo_end : {queue back : List ℕ} {i n : ℕ} → Undoing queue back i n → n ≤ i → Cleared back 0
undo_end {queue} {back} {i} {n} U h = record { at = λ v _. go v (ℕ_discrete (get_or back v 0) 0) }
  where
    go : (v : ℕ) → Dec (get_or back v 0 ≡ 0) → get_or back v 0 ≡ 0
    go v (yes q) = q
    go v (no k) = let (q, l) = U.left v k in absurd (omega (arith, q.below))
