-- Policies with the same facts have the same relations: each test that a relation makes of the records of a kind from 1 to 7 goes by their keys
-- and permissions alone. So the relations of the canonical policy are those of the policy itself.
use Prim.Native.Nat.{ℕ}
use mathlib.Core.Path.{◌≡◌, refl, sym, ap, ◌∙◌}
use mathlib.Core.Bool.{Bool, true, false, ◌&&◌, ◌||◌, cond}
use mathlib.Core.Logic.{◌⊎◌, ⊎_elim}
use native.Mathlib.Omega.{arith}
use borrow.Author.Tests.{eq-eqb, eqb-true, lt-leb}
use lib.Dec.{eqb, leb}
use Rattle.base.specs.Bits.{bit}
use Rattle.base.specs.Ranges.{Within}
use Rattle.base.proofs.BoolLaws.{clash, same_truth, and_no, and_true, and_first, and_second, or_left, or_true, or_cases}
use Rattle.policy_image.specs.declared.records.Record.{Record}
use Rattle.policy_image.specs.Counts.{CountsInRange}
use Rattle.policy_image.specs.Policy.{Policy}
use Rattle.policy_image.specs.OfKind.{some}
use Rattle.policy_links.proofs.KindLaws.{some_yes, some_record}
use Rattle.policy_fields.specs.Fields.{FieldsInRange}
use Rattle.policy_sources.specs.Sources.{domain}
use Rattle.policy_facts.specs.Facts.{says_b, has_key, is_stated, permits, carries_mask}
use Rattle.policy_facts.specs.Canonical.{canonical_of}
use Rattle.policy_facts.specs.Cases.Same.{Same}
use Rattle.policy_facts.proofs.KeyLaws.{says_cases, says_one, says_both_lem, has_key_lem, key_has, states_yes, states_record, permits_yes, permits_record}
use Rattle.policy_facts.proofs.StatedLaws.{states_canonical, permits_canonical}

-- the facts of p are those of q
pub record SameFacts (p q : Policy) : Type 0 where
  pub keys : (k a b c : ℕ) → Within 1 7 k → carries_mask k ≡ false → is_stated p k a b c ≡ is_stated q k a b c
  pub permissions : (k a b c i : ℕ) → carries_mask k ≡ true → permits p k a b c i ≡ permits q k a b c i

pub same_facts : {p q : Policy} → Same p q → SameFacts p q
same_facts S = record { keys = S.keys; permissions = S.permissions }

pub canonical_facts : (p : Policy) → CountsInRange p.counts → FieldsInRange p → SameFacts (canonical_of p) p
canonical_facts p C E = record { keys = states_canonical p C E; permissions = permits_canonical p C E }

-- ---- tests that go by a key
-- a record that passes has a key, of which every record passes
abbrev ByKey : ℕ → (Record → Bool) → Type 0
ByKey k f =
    (r : Record) → r.kind ≡ k → f r ≡ true → (b : ℕ) × (says_b r b ≡ true) × ((s : Record) → s.kind ≡ k → has_key r.a b r.c s ≡ true → f s ≡ true)

module _ (k : ℕ) (f : Record → Bool) (B : ByKey k f) where
  -- what p states, q states
  key_passes : (p q : Policy) → ((a b c : ℕ) → is_stated p k a b c ≡ is_stated q k a b c) → some p k f ≡ true → some q k f ≡ true
  key_passes p q same e =
      let s = some_record p k f e in
      let r = p.rec s.0 in
      let h = B r s.1.kind s.2 in
      let t = states_yes p k r.a h.0 r.c s.0 s.1 (has_key_lem r.a h.0 r.c r refl h.1 refl) in
      let u = states_record q k r.a h.0 r.c (sym (same r.a h.0 r.c) ∙ t) in
      some_yes q k f u.0 u.1 (h.2 (q.rec u.0) u.1.kind u.2)

  key_same : (p q : Policy) → ((a b c : ℕ) → is_stated p k a b c ≡ is_stated q k a b c) → some p k f ≡ some q k f
  key_same p q same = same_truth (some p k f) (some q k f) (key_passes p q same) (key_passes q p (λ a b c. sym (same a b c)))

  -- .. and with permission i
  module _ (i : ℕ) where
    abbrev with_bit : Record → Bool
    with_bit r = f r && bit r.mask i

    bit_passes : (p q : Policy) → ((a b c : ℕ) → permits p k a b c i ≡ permits q k a b c i) → some p k with_bit ≡ true → some q k with_bit ≡ true
    bit_passes p q same e =
        let s = some_record p k with_bit e in
        let r = p.rec s.0 in
        let h = B r s.1.kind (and_first (f r) (bit r.mask i) s.2) in
        let t = permits_yes p k r.a h.0 r.c i s.0 s.1 (has_key_lem r.a h.0 r.c r refl h.1 refl) (and_second (f r) (bit r.mask i) s.2) in
        let u = permits_record q k r.a h.0 r.c i (sym (same r.a h.0 r.c) ∙ t) in
        let x = q.rec u.0 in
        some_yes q k with_bit u.0 u.1 (and_true (f x) (bit x.mask i) (h.2 x u.1.kind u.2) u.3)

    bit_same : (p q : Policy) → ((a b c : ℕ) → permits p k a b c i ≡ permits q k a b c i) → some p k with_bit ≡ some q k with_bit
    bit_same p q same = same_truth (some p k with_bit) (some q k with_bit) (bit_passes p q same) (bit_passes q p (λ a b c. sym (same a b c)))

-- a test of a, b and c, of any kind but flow
fields_key : (k : ℕ) → (k ≡ 3 → ⊥) → (g : ℕ → ℕ → ℕ → Bool) → ByKey k (λ r. g r.a r.b r.c)
fields_key k d g r e h = (
  r.b,
  says_one r r.b (λ s. d (sym e ∙ s.0)) refl,
  λ s κ t.
      let K = key_has r.a r.b r.c s t in
      let b : s.b ≡ r.b = ⊎_elim (λ x. absurd (d (sym κ ∙ x.0.0))) (λ x. x.1) (says_cases s r.b K.1) in
      (λ j. g (K.0 j) (b j) (K.2 j)) ∙ h,
)

-- the test of a flow record's class and way
abbrev flow_test : ℕ → ℕ → Record → Bool
flow_test c way r = eqb r.a c && (eqb r.b way || eqb r.b 3)

module _ (way : ℕ) (w : (way ≡ 1) ⊎ (way ≡ 2)) (r : Record) where
  flow_says : r.kind ≡ 3 → (eqb r.b way || eqb r.b 3) ≡ true → says_b r way ≡ true
  flow_says k h =
      ⊎_elim
      (λ x.
      let b = eqb-true r.b way x in
      says_one r way (λ s. ⊎_elim (λ y. let z : ⊥ = omega (arith, s.1) in z) (λ y. let z : ⊥ = omega (arith, s.1) in z) w) b)
      (λ x. says_both_lem r way (k, eqb-true r.b 3 x) w)
      (or_cases (eqb r.b way) (eqb r.b 3) h)

  says_flow : says_b r way ≡ true → (eqb r.b way || eqb r.b 3) ≡ true
  says_flow h =
      ⊎_elim
      (λ x. or_true (eqb r.b way) (eqb r.b 3) (eq-eqb r.b 3 x.0.1))
      (λ x. or_left (eqb r.b way) (eqb r.b 3) (eq-eqb r.b way x.1))
      (says_cases r way h)

flow_key : (c way : ℕ) → (way ≡ 1) ⊎ (way ≡ 2) → ByKey 3 (flow_test c way)
flow_key c way w r e h = (
  way,
  flow_says way w r e (and_second (eqb r.a c) (eqb r.b way || eqb r.b 3) h),
  λ s κ t.
      let K = key_has r.a way r.c s t in
      and_true (eqb s.a c) (eqb s.b way || eqb s.b 3)
      (ap (λ (n : ℕ). eqb n c) K.0 ∙ and_first (eqb r.a c) (eqb r.b way || eqb r.b 3) h) (says_flow way w s K.1),
)

-- ---- the tests of the relations
module _ {p q : Policy} (S : SameFacts p q) where
  -- by a, b and c, of a kind without permissions
  pub some_key_same : (k : ℕ) → Within 1 7 k → carries_mask k ≡ false → (g : ℕ → ℕ → ℕ → Bool)
      → some p k (λ r. g r.a r.b r.c) ≡ some q k (λ r. g r.a r.b r.c)
  some_key_same k w m g =
      key_same k (λ r. g r.a r.b r.c) (fields_key k (λ e. clash (ap carries_mask e) m) g) p q (λ a b c. S.keys k a b c w m)

  -- .. and of a kind with them, flow apart
  pub some_bit_same : (k : ℕ) → carries_mask k ≡ true → (k ≡ 3 → ⊥) → (g : ℕ → ℕ → ℕ → Bool) (i : ℕ)
      → some p k (λ r. g r.a r.b r.c && bit r.mask i) ≡ some q k (λ r. g r.a r.b r.c && bit r.mask i)
  some_bit_same k m d g i = bit_same k (λ r. g r.a r.b r.c) (fields_key k d g) i p q (λ a b c. S.permissions k a b c i m)

  -- "1: type a is a domain"
  pub domain_same : (t : ℕ) → domain p t ≡ domain q t
  unfolding domain
  domain_same t = some_key_same 1 (record { low = omega arith; high = omega arith }) refl (λ a b c. eqb a t)

  -- "2: class a has the permissions in mask"
  pub class_same : (c i : ℕ) → some p 2 (λ r. eqb r.a c && bit r.mask i) ≡ some q 2 (λ r. eqb r.a c && bit r.mask i)
  class_same c i = some_bit_same 2 refl (λ e. let z : ⊥ = omega arith in z) (λ x y z. eqb x c) i

  -- "3: class a, permissions in mask: b = 1 write-like, 2 read-like, 3 both"
  pub flow_same : (c way i : ℕ) → (way ≡ 1) ⊎ (way ≡ 2)
      → some p 3 (λ r. (eqb r.a c && (eqb r.b way || eqb r.b 3)) && bit r.mask i)
      ≡ some q 3 (λ r. (eqb r.a c && (eqb r.b way || eqb r.b 3)) && bit r.mask i)
  flow_same c way i w = bit_same 3 (flow_test c way) (flow_key c way w) i p q (λ a b z. S.permissions 3 a b z i refl)

  -- "4: source type a may act on target type b in class c with mask; b = 0 means the source type itself"
  pub allow_same : (t1 t2 c i : ℕ)
      → some p 4 (λ r. (eqb r.a t1 && (eqb (cond (eqb r.b 0) r.a r.b) t2 && eqb r.c c)) && bit r.mask i)
      ≡ some q 4 (λ r. (eqb r.a t1 && (eqb (cond (eqb r.b 0) r.a r.b) t2 && eqb r.c c)) && bit r.mask i)
  allow_same t1 t2 c i =
      some_bit_same 4 refl (λ e. let z : ⊥ = omega arith in z) (λ x y z. eqb x t1 && (eqb (cond (eqb y 0) x y) t2 && eqb z c)) i

  -- "5: role a may hold type b", "6: user a may hold role b", "7: role a may change to role b"
  pub pair_same : (k : ℕ) → Within 5 7 k → (x y : ℕ) → some p k (λ r. eqb r.a x && eqb r.b y) ≡ some q k (λ r. eqb r.a x && eqb r.b y)
  pair_same k w x y =
      let l = w.low in
      some_key_same k (record { low = omega arith; high = w.high }) (and_no (leb 2 k) (leb k 4) (lt-leb k 4 (omega arith))) (λ a b c. eqb a x && eqb b y)
