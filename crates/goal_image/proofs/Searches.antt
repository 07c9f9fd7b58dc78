-- `any` and `all` over the records of chain h of a goal that passes question 9, and `all` over the numbers of a range.
use Prim.Native.Nat.{ℕ, ◌+◌, ◌-◌, ◌≤◌, ◌<◌}
use mathlib.Core.Bool.{Bool, true, false}
use mathlib.Core.List.{List, [], ◌∷◌}
use mathlib.Core.Path.{◌≡◌, refl, sym, subst, ◌∙◌}
use native.Mathlib.Omega.{arith}
use lib.ListN.{length}
use denote.Param.Members.{Mut}
use Rattle.std.specs.Prelude.{Option, None, Some}
use Rattle.std.specs.Fn.{Called, Takes}
use Rattle.std.specs.Iterator.{Yields, CallableWhile, ChecksAll, ChecksAny}
use Rattle.std.specs.List.{FoldsTo, AllWithin, HoldsAt, range_with_len}
use Rattle.std.proofs.Common.{MatchBool}
use Rattle.std.proofs.lemmas.Iterator.{YieldsList, cases_from_all}
use Rattle.std.proofs.lemmas.List.FromFn.{length-range_with_len, get_or-range_with_len}
use Rattle.base.specs.Chain.{OnChain}
use Rattle.base.proofs.Decide.{decides_no}
use Rattle.base.specs.Inner.Decides.{Decides}
use Rattle.goal_image.specs.declared.chain.Chain.{Chain}
use Rattle.goal_image.specs.Layout.{goal_count, goal_head}
use Rattle.goal_image.specs.Goal.{goal_of, goal_links}
use Rattle.goal_image.specs.Questions.{OneChainEach}
use Rattle.goal_image.specs.Inner.Memberships.{some_on, Tests}
use Rattle.goal_image.specs.Inner.Walking.{GivesNumber}
use Rattle.goal_image.proofs.Along.{Along, along_start, along_on, along_step, along_end, along_most}
use Rattle.goal_image.proofs.SetLaws.{one_passes, none_passes}

module _ {s : List ℕ} (O : OneChainEach (goal_of s)) {h : ℕ} (low : h < 15) {F : Type 0} {g : Mut F (ℕ × Unit {0}) Bool} {f : F} {says : ℕ → Bool → Type 0}
    (acts : (x : ℕ) (b : Bool) (q : F) → Called g f (x, tt) b q → (q ≡ f) × says x b) where
  -- the records that have been given are answered with b
  answered : (b : Bool) (xs : List ℕ) (v v' : Chain) (p q : F) → Along s h (λ j. says j b) v → Yields GivesNumber v xs v' → p ≡ f
      → FoldsTo (λ p x q. Called g p (x, tt) b q) p xs q → Along s h (λ j. says j b) v' × (q ≡ f)
  answered b [] v v' p q a y i z = (subst (Along s h (λ j. says j b)) y a, sym z ∙ i)
  answered b (x ∷ xs) v v' p q a y i z =
      let w = acts x b z.0 (subst (λ (k : F). Called g k (x, tt) b z.0) i z.1) in
      answered b xs y.0 v' z.0 q (along_step s O h low _ a y.1 w.1) y.2 w.0 z.2

  module _ {it : Chain} (e : (it.goal.now ≡ s) × (it.next ≡ goal_head s h)) where
    start : (b : Bool) → Along s h (λ j. says j b) it
    start b = along_start s O h low _ e

    -- the closure may be called along the chain
    pub callable : (b : Bool) → ((i : ℕ) → 1 ≤ i → i ≤ goal_count s → Takes g f (i, tt)) → CallableWhile GivesNumber g b it f
    callable b may =
        record {
          at = λ xs v q x u y z n.
              let a = answered b xs it v f q (start b) y refl z in
              subst (λ (k : F). Takes g k (x, tt)) (sym a.1) (may x n.low (along_most s a.0.goal n));
        }

    -- .. and `any` answers as the test t that it computes
    pub any_some : (r : Bool) (u : Chain) → ChecksAny GivesNumber g it f r u → (t : ℕ → Bool) → Tests (goal_of s) says t → r ≡ some_on (goal_of s) t h
    any_some r u (xs, None, q, (v, y, n), z, i) t T =
        let a = answered false xs it v f q (start false) y refl z in
        i ∙ sym (none_passes O low T (along_end s O h low _ a.0 n))
    any_some r u (xs, Some x, q, (v, y, n), z, i) t T =
        let a = answered false xs it v f q (start false) y refl z in
        let c = i.1 in
        i.0 ∙ sym (one_passes O low T (along_on s O h low _ a.0 n) (acts x true c.0 (subst (λ (k : F). Called g k (x, tt) true c.0) a.1 c.1)).1)

    -- .. and `all` decides that P holds of each record of the chain, where the closure decides P
    pub all_hold : {P : ℕ → Type 0} → ((i : ℕ) (b : Bool) → says i b → Decides b (P i)) → (r : Bool) (u : Chain) → ChecksAll GivesNumber g it f r u
        → Decides r ((i : ℕ) → OnChain (goal_links (goal_of s)) h i → P i)
    all_hold {P} d r u (xs, None, q, (v, y, n), z, i) =
        let a = answered true xs it v f q (start true) y refl z in
        subst (λ (t : Bool). Decides t ((j : ℕ) → OnChain (goal_links (goal_of s)) h j → P j)) (sym i)
        (λ j on. d j true (along_end s O h low _ a.0 n j on))
    all_hold d r u (xs, Some x, q, (v, y, n), z, i) =
        let a = answered true xs it v f q (start true) y refl z in
        let c = i.1 in
        decides_no r i.0
        (λ all. d x false (acts x false c.0 (subst (λ (k : F). Called g k (x, tt) false c.0) a.1 c.1)).1 (all x (along_on s O h low _ a.0 n)))

-- `all` over the numbers from a to below b, where the closure decides P of each
module _ {S F : Type 0} {steps : S → Option ℕ → S → Type 0} {s : S} {g : Mut F (ℕ × Unit {0}) Bool} {f : F} {P : ℕ → Type 0}
    (acts : (x : ℕ) (b : Bool) (q : F) → Called g f (x, tt) b q → (q ≡ f) × Decides b (P x)) (a b : ℕ) (y : YieldsList steps (λ x. x) s (range_with_len a (b - a))) where
  every_number : (r : Bool) → MatchBool r (AllWithin P (range_with_len a (b - a)) 0 (length (range_with_len a (b - a)))) ((k : ℕ) × (k < length (range_with_len a (b - a))) × HoldsAt (λ x. P x → ⊥) (range_with_len a (b - a)) k)
      → Decides r ((h : ℕ) → a ≤ h → h < b → P h)
  every_number true e =
      λ h low high.
      let n = length-range_with_len a (b - a) in
      let k : h - a < b - a = omega arith in
      let z : a + (h - a) ≡ h = omega arith in
      subst P (get_or-range_with_len a (b - a) (h - a) 0 k ∙ z) (e (h - a) 0 (omega arith) (omega arith))
  every_number false e =
      λ z.
      let n = length-range_with_len a (b - a) in
      let k : e.0 < b - a = let l = e.1 in omega arith in
      e.2 0 (subst P (sym (get_or-range_with_len a (b - a) e.0 0 k)) (z (a + e.0) (omega arith) (omega arith)))

  pub all_decides : (r : Bool) (u : S) → ChecksAll steps g s f r u → Decides r ((h : ℕ) → a ≤ h → h < b → P h)
  all_decides r u ran =
      every_number r (cases_from_all u f r P (λ x. P x → ⊥) ran y (λ x q k. acts x true q k) (λ x q k. (acts x false q k).1))
