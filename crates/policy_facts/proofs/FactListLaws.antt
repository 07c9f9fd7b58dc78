-- The records that are written for the facts of kind k: which they are, and that they go by what is written for each key alone.
use Prim.Native.Nat.{ℕ, zero, suc, ◌<◌}
use mathlib.Core.Path.{◌≡◌, refl, sym, ap, subst, ◌∙◌}
use mathlib.Core.Bool.{Bool, true, false, cond}
use mathlib.Core.List.{List, [], ◌∷◌, ◌++◌}
use native.Mathlib.Omega.{arith}
use lib.ListN.{length, get_or}
use Rattle.base.proofs.BoolLaws.{clash, or_none}
use Rattle.policy_image.specs.declared.records.Record.{Record}
use Rattle.policy_image.specs.Policy.{Policy}
use Rattle.policy_lists.specs.Lists.{no_record}
use Rattle.policy_lists.specs.Inner.Tests.{some_in}
use Rattle.policy_lists.proofs.JoinTurnLaws.{Each}
use Rattle.policy_facts.specs.Facts.{is_written}
use Rattle.policy_facts.specs.Canonical.{key_a, key_b, key_c, fact_record, fact_at, facts_below}
use Rattle.policy_facts.specs.Inner.FactTable.{Written}
use Rattle.policy_facts.proofs.GatherLaws.{gather, gather_same, gather_each, gather_part, gather_yes, gather_some}

-- ---- a record that is there where a test says so
module _ (r : Record) where
  either_own : (P : Record → Type 0) (t : Bool) → P r → Each P (cond t (r ∷ []) [])
  either_own P true h = (h, tt)
  either_own P false h = tt

  either_at : (t : Bool) (i : ℕ) → i < length (cond t (r ∷ []) []) → (t ≡ true) × (get_or (cond t (r ∷ []) []) i no_record ≡ r)
  either_at true zero h = (refl, refl)
  either_at true (suc i) h = let z : ⊥ = omega arith in absurd z
  either_at false i h = let z : ⊥ = omega arith in absurd z

  either_some : (t : Bool) (f : Record → Bool) → some_in (cond t (r ∷ []) []) f ≡ true → (t ≡ true) × (f r ≡ true)
  either_some true f e = (refl, sym (or_none (f r) false refl) ∙ e)
  either_some false f e = absurd (clash e refl)

-- ---- the records of kind k
module _ (p : Policy) (k : ℕ) where
  -- those of the keys below n, list behind list
  pub facts_gather : (n : ℕ) → facts_below p k n ≡ gather (fact_at p k) n
  unfolding facts_below gather
  facts_gather zero = refl
  facts_gather (suc n) = ap (λ (l : List Record). l ++ fact_at p k n) (facts_gather n)

  -- each is of the kind
  pub fact_own : (n : ℕ) → Each (λ r. r.kind ≡ k) (facts_below p k n)
  fact_own n =
      subst (Each (λ r. r.kind ≡ k)) (sym (facts_gather n))
      (gather_each (fact_at p k) (λ r. r.kind ≡ k) n (λ x h. either_own (fact_record p k x) (λ r. r.kind ≡ k) (is_written p k (key_a x) (key_b x) (key_c x)) refl))

  -- each is the record of a key that is written
  pub fact_in : (n j : ℕ) → j < length (facts_below p k n)
      → (x : ℕ) × (x < n) × Written p k x × (get_or (facts_below p k n) j no_record ≡ fact_record p k x)
  fact_in n j h =
      let g = gather_part (fact_at p k) n j (subst (λ (l : List Record). j < length l) (facts_gather n) h) in
      let x : ℕ = g.of in
      let w = either_at (fact_record p k x) (is_written p k (key_a x) (key_b x) (key_c x)) g.at g.room in
      (x, g.low, w.0, ap (λ (l : List Record). get_or l j no_record) (facts_gather n) ∙ g.same ∙ w.1)

  -- ---- tests of them
  module _ (f : Record → Bool) where
    pub fact_yes : (n x : ℕ) → x < n → Written p k x → f (fact_record p k x) ≡ true → some_in (facts_below p k n) f ≡ true
    fact_yes n x h w e =
        ap (λ (l : List Record). some_in l f) (facts_gather n)
        ∙ gather_yes (fact_at p k) f n x h
        (ap (λ (t : Bool). some_in (cond t (fact_record p k x ∷ []) []) f) w ∙ or_none (f (fact_record p k x)) false refl ∙ e)

    pub fact_some : (n : ℕ) → some_in (facts_below p k n) f ≡ true → (x : ℕ) × (x < n) × Written p k x × (f (fact_record p k x) ≡ true)
    fact_some n e =
        let g = gather_some (fact_at p k) f n (ap (λ (l : List Record). some_in l f) (sym (facts_gather n)) ∙ e) in
        let x : ℕ = g.0 in
        let w = either_some (fact_record p k x) (is_written p k (key_a x) (key_b x) (key_c x)) f g.2 in
        (x, g.1, w.0, w.1)

-- what is written for each key decides
pub facts_same : (p q : Policy) (k n : ℕ) → ((x : ℕ) → x < n → fact_at p k x ≡ fact_at q k x) → facts_below p k n ≡ facts_below q k n
facts_same p q k n h = facts_gather p k n ∙ gather_same (fact_at p k) (fact_at q k) n h ∙ sym (facts_gather q k n)
