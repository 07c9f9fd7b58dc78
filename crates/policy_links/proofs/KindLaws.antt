-- Going along the chain of kind k visits exactly the records of kind k: what every loop over the records of a kind cites.
use Prim.Native.Nat.{ℕ, ◌≤◌}
use mathlib.Core.Bool.{Bool, true, false, not, ◌&&◌, ◌||◌}
use mathlib.Core.Logic.{⊎_elim}
use mathlib.Core.Path.{◌≡◌, ap, subst}
use borrow.Author.Tests.{eq-eqb, eqb-true}
use lib.Dec.{eqb}
use Rattle.base.specs.Chain.{OnChain}
use Rattle.base.proofs.ChainLaws.{Visit, meets_low, meets_range, visit_end}
use Rattle.base.proofs.BoolLaws.{or_true, or_left, or_false, and_true, and_first, and_second, true_or_false, same_truth, clash}
use Rattle.base.proofs.UptoLaws.{any_yes, any_found, all_yes, all_no}
use Rattle.policy_image.specs.declared.records.Record.{Record}
use Rattle.policy_image.specs.Policy.{Policy, policy_links}
use Rattle.policy_image.specs.Inner.Counting.{counting}
use Rattle.policy_image.specs.OfKind.{some, some_counted, every}
use Rattle.policy_links.specs.Chains.{LinksRise, ChainsByKind}

-- record i of the policy, of kind k
pub record OfKind (p : Policy) (k i : ℕ) : Type 0 where
  pub low : 1 ≤ i
  pub high : i ≤ p.size
  pub kind : (p.rec i).kind ≡ k

-- which records count is nothing to that
pub kind_counted : (f : ℕ → Bool) (p : Policy) {k i : ℕ} → OfKind p k i → OfKind (counting f p) k i
kind_counted f p o = record { low = o.low; high = o.high; kind = o.kind }

pub counted_kind : (f : ℕ → Bool) (p : Policy) {k i : ℕ} → OfKind (counting f p) k i → OfKind p k i
counted_kind f p o = record { low = o.low; high = o.high; kind = o.kind }

module _ (p : Policy) (L : LinksRise p) (C : ChainsByKind p) (k : ℕ) (low : 1 ≤ k) (high : k ≤ 9) where
  -- a record on the chain is of the kind ..
  pub chain_kind : (i : ℕ) → OnChain (policy_links p) k i → OfKind p k i
  chain_kind i r =
      let m = meets_range (policy_links p) L.nexts (L.heads k low high) r in
      record { low = meets_low (policy_links p) r; high = m.1; kind = C.kinds k i low high r }

  -- .. and a record of the kind is on the chain
  pub kind_chain : (i : ℕ) → OfKind p k i → OnChain (policy_links p) k i
  kind_chain i o = subst (λ (x : ℕ). OnChain (policy_links p) x i) o.kind (C.all i o.low o.high).on

  -- the record where a loop along the chain stands is of the kind
  pub visit_kind : (Q : ℕ → Type 0) (i : ℕ) → (i ≡ 0 → ⊥) → Visit (policy_links p) k Q i → OfKind p k i
  visit_kind Q i n v = chain_kind i (v.on n)

  -- at the end of the loop Q holds of every record of the kind
  pub visit_all : (Q : ℕ → Type 0) → Visit (policy_links p) k Q 0 → (i : ℕ) → OfKind p k i → Q i
  visit_all Q v i o = visit_end (policy_links p) k (L.heads k low high) L.nexts Q v i (kind_chain i o)

-- ---- what the records of a kind state, by the records
module _ (p : Policy) (k : ℕ) (f : Record → Bool) where
  abbrev stated : ℕ → Bool
  stated i = eqb (p.rec i).kind k && f (p.rec i)

  pub some_yes : (i : ℕ) → OfKind p k i → f (p.rec i) ≡ true → some p k f ≡ true
  unfolding some
  some_yes i o e =
      any_yes stated p.size i o.low o.high
      (and_true (eqb (p.rec i).kind k) (f (p.rec i)) (eq-eqb (p.rec i).kind k o.kind) e)

  -- a record of the kind that passes the test
  pub some_record : some p k f ≡ true → (i : ℕ) × OfKind p k i × (f (p.rec i) ≡ true)
  unfolding some
  some_record e =
      let r = any_found stated p.size e in
      let i : ℕ = r.at in
      let t = and_first (eqb (p.rec i).kind k) (f (p.rec i)) r.holds in
      (i, record { low = r.low; high = r.high; kind = eqb-true (p.rec i).kind k t }, and_second (eqb (p.rec i).kind k) (f (p.rec i)) r.holds)

  pub some_no : ((i : ℕ) → OfKind p k i → f (p.rec i) ≡ false) → some p k f ≡ false
  some_no h =
      ⊎_elim (λ e. let r = some_record e in absurd (clash r.2 (h r.0 r.1))) (λ e. e) (true_or_false (some p k f))

  -- ---- .. and those of them that count
  abbrev asserted : ℕ → Bool
  asserted i = eqb (p.rec i).kind k && (p.counted i && f (p.rec i))

  pub counted_yes : (i : ℕ) → OfKind p k i → p.counted i ≡ true → f (p.rec i) ≡ true → some_counted p k f ≡ true
  counted_yes i o c e =
      any_yes asserted p.size i o.low o.high
      (and_true (eqb (p.rec i).kind k) (p.counted i && f (p.rec i)) (eq-eqb (p.rec i).kind k o.kind) (and_true (p.counted i) (f (p.rec i)) c e))

  -- a record of the kind that counts and passes the test
  pub counted_record : some_counted p k f ≡ true → (i : ℕ) × OfKind p k i × (p.counted i ≡ true) × (f (p.rec i) ≡ true)
  counted_record e =
      let r = any_found asserted p.size e in
      let i : ℕ = r.at in
      let t = and_second (eqb (p.rec i).kind k) (p.counted i && f (p.rec i)) r.holds in (
        i,
        record { low = r.low; high = r.high; kind = eqb-true (p.rec i).kind k (and_first (eqb (p.rec i).kind k) (p.counted i && f (p.rec i)) r.holds) },
        and_first (p.counted i) (f (p.rec i)) t,
        and_second (p.counted i) (f (p.rec i)) t,
      )

  -- where all of them count
  pub counted_all : ((i : ℕ) → p.counted i ≡ true) → some_counted p k f ≡ some p k f
  counted_all all =
      same_truth (some_counted p k f) (some p k f) (λ e. let r = counted_record e in some_yes r.0 r.1 r.3)
      (λ e. let r = some_record e in counted_yes r.0 r.1 (all r.0) r.2)

  abbrev passes : ℕ → Bool
  passes i = not (eqb (p.rec i).kind k) || f (p.rec i)

  pub every_yes : ((i : ℕ) → OfKind p k i → f (p.rec i) ≡ true) → every p k f ≡ true
  unfolding every
  every_yes h =
      all_yes passes p.size
      (λ i a b.
      ⊎_elim
      (λ e. or_true (not (eqb (p.rec i).kind k)) (f (p.rec i)) (h i (record { low = a; high = b; kind = eqb-true (p.rec i).kind k e })))
      (λ e. or_left (not (eqb (p.rec i).kind k)) (f (p.rec i)) (ap not e))
      (true_or_false (eqb (p.rec i).kind k)))

  pub every_no : (i : ℕ) → OfKind p k i → f (p.rec i) ≡ false → every p k f ≡ false
  unfolding every
  every_no i o e =
      all_no passes p.size i o.low o.high
      (or_false (not (eqb (p.rec i).kind k)) (f (p.rec i)) (ap not (eq-eqb (p.rec i).kind k o.kind)) e)

  pub every_record : every p k f ≡ true → (i : ℕ) → OfKind p k i → f (p.rec i) ≡ true
  every_record e i o =
      ⊎_elim (λ t. t) (λ t. absurd (clash e (every_no i o t))) (true_or_false (f (p.rec i)))
