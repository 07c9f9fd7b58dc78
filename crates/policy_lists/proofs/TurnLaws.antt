-- In the policy of a list whose kinds come in turn the links rise, and each chain holds exactly the records of its kind.
use Prim.Native.Nat.{ℕ, zero, suc, ◌≤◌, ◌<◌}
use mathlib.Core.Path.{◌≡◌, refl, sym, ap, ap₂, subst, ◌∙◌}
use mathlib.Core.Bool.{Bool, true, false, ◌&&◌, cond}
use mathlib.Core.List.{List, [], ◌∷◌}
use mathlib.Core.Logic.{◌⊎◌, inl, inr, ⊎_elim}
use native.Mathlib.Nat.{eq-or-lt_of_le}
use native.Mathlib.Omega.{arith}
use borrow.Author.Tests.{eq-eqb, eqb-true, eqb-false, leb-true, le-leb}
use lib.Dec.{eqb, leb}
use lib.ListN.{length}
use Rattle.base.specs.Chain.{Meets, OnChain}
use Rattle.base.specs.Chain.Meets.{here, later}
use Rattle.base.proofs.BoolLaws.{and_true}
use Rattle.base.proofs.ChainLaws.{meets_zero, meets_next}
use Rattle.policy_image.specs.declared.counts.Counts.{Counts}
use Rattle.policy_image.specs.declared.records.Record.{Record}
use Rattle.policy_image.specs.Policy.{Policy, policy_links}
use Rattle.policy_links.specs.Chains.{LinksRise, ChainsByKind}
use Rattle.policy_lists.specs.Lists.{record_in, link_in, one_behind, first_in, policy_from}
use Rattle.policy_lists.specs.Inner.Tests.{InTurnFrom, KindsInTurn}

abbrev kind_at : List Record → ℕ → ℕ
kind_at l i = (record_in l i).kind

-- ---- kinds in turn, by numbers
pub turn_kind : (a : ℕ) (l : List Record) → InTurnFrom a l → (i : ℕ) → 1 ≤ i → i ≤ length l → (a ≤ kind_at l i) × (kind_at l i ≤ 9)
turn_kind a [] t i low high = let z : ⊥ = omega arith in absurd z
turn_kind a (r ∷ l) t zero low high = let z : ⊥ = omega arith in absurd z
turn_kind a (r ∷ l) t (suc zero) low high = (t.0, t.1)
turn_kind a (r ∷ l) t (suc (suc i)) low high =
    let h = turn_kind r.kind l t.2 (suc i) (omega arith) (omega arith) in (omega (arith, t.0, h.0), h.1)

pub turn_rise : (a : ℕ) (l : List Record) → InTurnFrom a l → (i j : ℕ) → 1 ≤ i → i ≤ j → j ≤ length l → kind_at l i ≤ kind_at l j
turn_rise a [] t i j low up high = let z : ⊥ = omega arith in absurd z
turn_rise a (r ∷ l) t zero j low up high = let z : ⊥ = omega arith in absurd z
turn_rise a (r ∷ l) t (suc i) zero low up high = let z : ⊥ = omega arith in absurd z
turn_rise a (r ∷ l) t (suc zero) (suc zero) low up high = omega arith
turn_rise a (r ∷ l) t (suc zero) (suc (suc j)) low up high = (turn_kind r.kind l t.2 (suc j) (omega arith) (omega arith)).0
turn_rise a (r ∷ l) t (suc (suc i)) (suc zero) low up high = let z : ⊥ = omega arith in absurd z
turn_rise a (r ∷ l) t (suc (suc i)) (suc (suc j)) low up high = turn_rise r.kind l t.2 (suc i) (suc j) (omega arith) (omega arith) (omega arith)

-- ---- the head of a kind
-- h is the number of the first record of kind k
pub record FirstOf (l : List Record) (k h : ℕ) : Type 0 where
  pub low : 1 ≤ h
  pub high : h ≤ length l
  pub kind : kind_at l h ≡ k
  pub least : (i : ℕ) → 1 ≤ i → i ≤ length l → kind_at l i ≡ k → h ≤ i

abbrev NoneOf : List Record → ℕ → Type 0
NoneOf l k = (i : ℕ) → 1 ≤ i → i ≤ length l → kind_at l i ≡ k → ⊥

abbrev Headed : List Record → ℕ → ℕ → Type 0
Headed l k h = ((h ≡ 0) × NoneOf l k) ⊎ FirstOf l k h

module _ (r : Record) (l : List Record) (k : ℕ) (other : r.kind ≡ k → ⊥) where
  none_behind : NoneOf l k → NoneOf (r ∷ l) k
  none_behind n zero a b e = let z : ⊥ = omega arith in z
  none_behind n (suc zero) a b e = other e
  none_behind n (suc (suc i)) a b e = n (suc i) (omega arith) (omega arith) e

  least_behind : (h : ℕ) → ((i : ℕ) → 1 ≤ i → i ≤ length l → kind_at l i ≡ k → h ≤ i) → (i : ℕ) → 1 ≤ i → i ≤ suc (length l) → kind_at (r ∷ l) i ≡ k → suc h ≤ i
  least_behind h f zero a b e = let z : ⊥ = omega arith in absurd z
  least_behind h f (suc zero) a b e = absurd (other e)
  least_behind h f (suc (suc i)) a b e = let g = f (suc i) (omega arith) (omega arith) e in omega arith

  first_behind : (h : ℕ) → Headed l k h → Headed (r ∷ l) k (one_behind h)
  first_behind zero (inl n) = inl (refl, none_behind n.1)
  first_behind zero (inr f) = let z : ⊥ = omega (arith, f.low) in absurd z
  first_behind (suc h) (inl n) = let z : ⊥ = omega (arith, n.0) in absurd z
  first_behind (suc h) (inr f) =
      inr (record { low = omega arith; high = omega (arith, f.high); kind = f.kind; least = least_behind (suc h) f.least })

pub head_first : (l : List Record) (k : ℕ) → Headed l k (first_in l k)
head_first [] k = inl (refl, λ i a b e. let z : ⊥ = omega arith in z)
head_first (r ∷ l) k = go (eqb r.kind k) refl (head_first l k)
  where
    go : (t : Bool) → eqb r.kind k ≡ t → Headed l k (first_in l k) → Headed (r ∷ l) k (cond t 1 (one_behind (first_in l k)))
    go true e h = inr (record { low = omega arith; high = omega arith; kind = eqb-true r.kind k e; least = λ i a b q. a })
    go false e h = first_behind r l k (eqb-false r.kind k e) (first_in l k) h

-- ---- the next of a record
pub next_there : (l : List Record) (i : ℕ) → i < length l → kind_at l (suc i) ≡ kind_at l i → link_in l i ≡ suc i
next_there l i h e =
    ap (λ (t : Bool). cond t (suc i) 0)
    (and_true (leb (suc i) (length l)) (eqb (kind_at l (suc i)) (kind_at l i)) (le-leb (suc i) (length l) h) (eq-eqb (kind_at l (suc i)) (kind_at l i) e))

-- a next that is not 0
pub record NextOf (l : List Record) (i : ℕ) : Type 0 where
  pub next : link_in l i ≡ suc i
  pub high : suc i ≤ length l
  pub kind : kind_at l (suc i) ≡ kind_at l i

pub next_cases : (l : List Record) (i : ℕ) → (link_in l i ≡ 0) ⊎ NextOf l i
next_cases l i = go (leb (suc i) (length l)) (eqb (kind_at l (suc i)) (kind_at l i)) refl refl
  where
    go : (s t : Bool) → leb (suc i) (length l) ≡ s → eqb (kind_at l (suc i)) (kind_at l i) ≡ t → (link_in l i ≡ 0) ⊎ NextOf l i
    go true true p q =
        inr
        (record {
          next = ap₂ (λ (s t : Bool). cond (s && t) (suc i) 0) p q;
          high = leb-true (suc i) (length l) p;
          kind = eqb-true (kind_at l (suc i)) (kind_at l i) q;
        })
    go true false p q = inl (ap₂ (λ (s t : Bool). cond (s && t) (suc i) 0) p q)
    go false t p q = inl (ap₂ (λ (s t : Bool). cond (s && t) (suc i) 0) p q)

-- ---- the chains of the policy
module _ (c : Counts) (l : List Record) where
  abbrev made : Policy
  made = policy_from c l

  -- question 3, of any list
  pub from_rises : LinksRise made
  from_rises =
      record {
        heads = λ k a b. ⊎_elim (λ n. let z = n.0 in omega arith) (λ f. f.high) (head_first l k);
        nexts = λ i a b. ⊎_elim (λ z. inl z) (λ n. let e = n.next in let h = n.high in inr (omega arith, omega arith)) (next_cases l i);
      }

  -- a chain stays in a kind
  same_kind : (k : ℕ) {i j : ℕ} → kind_at l i ≡ k → Meets (policy_links made) i j → kind_at l j ≡ k
  same_kind k e (here n) = e
  same_kind k {i} {j} e (later n r) =
      ⊎_elim (λ z. absurd (meets_zero (policy_links made) r z))
      (λ m. same_kind k (ap (kind_at l) m.next ∙ m.kind ∙ e) r) (next_cases l i)

  chain_kind : (k i : ℕ) → OnChain (policy_links made) k i → kind_at l i ≡ k
  chain_kind k i r = ⊎_elim (λ n. absurd (meets_zero (policy_links made) r n.0)) (λ f. same_kind k f.kind r) (head_first l k)

  module _ (K : KindsInTurn l) where
    -- from the first record of its kind on, each record of the kind is on the chain
    on_from : (k h j : ℕ) → first_in l k ≡ h → FirstOf l k h → h ≤ j → j ≤ length l → kind_at l j ≡ k → OnChain (policy_links made) k j
    on_from k h zero q f up high e = let z : ⊥ = omega (arith, f.low) in absurd z
    on_from k h (suc j) q f up high e =
        ⊎_elim
        (λ s. subst (λ (x : ℕ). Meets (policy_links made) x (suc j)) (sym (q ∙ s)) (here (λ z. let o : ⊥ = omega arith in o)))
        (λ s.
        let a = turn_rise 1 l K h j f.low (omega (arith, s)) (omega arith) in
        let b = turn_rise 1 l K j (suc j) (omega (arith, f.low, s)) (omega arith) high in
        let t : kind_at l j ≡ k = omega (arith, a, b, e, f.kind) in
        let n = next_there l j high (e ∙ sym t) in
        subst (λ (x : ℕ). OnChain (policy_links made) k x) n
        (meets_next (policy_links made) (on_from k h j q f (omega (arith, s)) (omega arith) t) (λ z. let o : ⊥ = omega (arith, n, z) in o)))
        (eq-or-lt_of_le up)

    -- question 4
    pub from_chains : ChainsByKind made
    from_chains =
        record {
          kinds = λ k i a b r. chain_kind k i r;
          all = λ i a b.
              let w = turn_kind 1 l K i a b in
              record {
                kind = record { low = w.0; high = w.1 };
                on = ⊎_elim (λ n. absurd (n.1 i a b refl)) (λ f. on_from (kind_at l i) (first_in l (kind_at l i)) i refl f (f.least i a b refl) b refl)
                    (head_first l (kind_at l i));
              };
        }
