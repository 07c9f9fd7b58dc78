-- Which keys a record has, which records of a policy have a key, and the number of a key.
use Prim.Native.Nat.{ℕ, ◌+◌, ◌*◌, ◌<◌}
use mathlib.Core.Path.{◌≡◌, refl, sym, ap, ap₂, ◌∙◌}
use mathlib.Core.Bool.{Bool, true, false, ◌&&◌, ◌||◌, cond}
use mathlib.Core.Logic.{◌⊎◌, inl, inr, ⊎_elim}
use native.Mathlib.Omega.{arith}
use borrow.Author.Tests.{eq-eqb, eqb-true, eqb-false}
use lib.Dec.{eqb}
use Rattle.base.specs.Bits.{bit}
use Rattle.base.proofs.BoolLaws.{and_true, and_first, and_second, or_cases, or_left, or_true}
use Rattle.policy_image.specs.declared.records.Record.{Record}
use Rattle.policy_image.specs.Policy.{Policy}
use Rattle.policy_links.proofs.KindLaws.{OfKind, some_yes, some_record}
use Rattle.policy_facts.specs.Facts.{says_b, has_key, is_stated, permits}
use Rattle.policy_facts.specs.Canonical.{key_a, key_b, key_c, key_numbers}

-- ---- what a record says for b
-- a flow record that says 1 and 2
abbrev pub SaysBoth : Record → Type 0
SaysBoth r = (r.kind ≡ 3) × (r.b ≡ 3)

module _ (r : Record) where
  abbrev both_test : Bool
  both_test = eqb r.kind 3 && eqb r.b 3

  both_or : (SaysBoth r × (both_test ≡ true)) ⊎ ((SaysBoth r → ⊥) × (both_test ≡ false))
  both_or = go (eqb r.kind 3) (eqb r.b 3) refl refl
    where
      go : (s t : Bool) → eqb r.kind 3 ≡ s → eqb r.b 3 ≡ t → (SaysBoth r × (both_test ≡ true)) ⊎ ((SaysBoth r → ⊥) × (both_test ≡ false))
      go true true x y = inl ((eqb-true r.kind 3 x, eqb-true r.b 3 y), ap₂ ◌&&◌ x y)
      go true false x y = inr (λ h. eqb-false r.b 3 y h.1, ap₂ ◌&&◌ x y)
      go false t x y = inr (λ h. eqb-false r.kind 3 x h.0, ap₂ ◌&&◌ x y)

  module _ (b : ℕ) where
    says_by : (t : Bool) → both_test ≡ t → says_b r b ≡ cond t (eqb b 1 || eqb b 2) (eqb r.b b)
    says_by t e = ap (λ (t : Bool). cond t (eqb b 1 || eqb b 2) (eqb r.b b)) e

    pub says_cases : says_b r b ≡ true → (SaysBoth r × ((b ≡ 1) ⊎ (b ≡ 2))) ⊎ ((SaysBoth r → ⊥) × (r.b ≡ b))
    says_cases e =
        ⊎_elim
        (λ h.
        inl
        (h.0, ⊎_elim (λ x. inl (eqb-true b 1 x)) (λ x. inr (eqb-true b 2 x)) (or_cases (eqb b 1) (eqb b 2) (sym (says_by true h.1) ∙ e))))
        (λ h. inr (h.0, eqb-true r.b b (sym (says_by false h.1) ∙ e)))
        both_or

    pub says_one : (SaysBoth r → ⊥) → r.b ≡ b → says_b r b ≡ true
    says_one d e = ⊎_elim (λ h. absurd (d h.0)) (λ h. says_by false h.1 ∙ eq-eqb r.b b e) both_or

    pub says_both_lem : SaysBoth r → (b ≡ 1) ⊎ (b ≡ 2) → says_b r b ≡ true
    says_both_lem s w =
        says_by true (and_true (eqb r.kind 3) (eqb r.b 3) (eq-eqb r.kind 3 s.0) (eq-eqb r.b 3 s.1))
        ∙ ⊎_elim (λ h. or_left (eqb b 1) (eqb b 2) (eq-eqb b 1 h)) (λ h. or_true (eqb b 1) (eqb b 2) (eq-eqb b 2 h)) w

    -- no flow record says 3
    pub says_no_three : says_b r b ≡ true → r.kind ≡ 3 → b ≡ 3 → ⊥
    says_no_three e k h =
        ⊎_elim (λ x. ⊎_elim (λ y. let z : ⊥ = omega arith in z) (λ y. let z : ⊥ = omega arith in z) x.1)
        (λ x. x.0 (k, x.1 ∙ h)) (says_cases e)

    -- a byte says bytes
    pub says_low : says_b r b ≡ true → r.b < 256 → b < 256
    says_low e h =
        ⊎_elim (λ x. ⊎_elim (λ y. omega (arith, y)) (λ y. omega (arith, y)) x.1) (λ x. omega (arith, x.1)) (says_cases e)

-- ---- the keys that it has
module _ (a b c : ℕ) (r : Record) where
  pub has_key_lem : r.a ≡ a → says_b r b ≡ true → r.c ≡ c → has_key a b c r ≡ true
  has_key_lem x y z =
      and_true (eqb r.a a) (says_b r b && eqb r.c c) (eq-eqb r.a a x) (and_true (says_b r b) (eqb r.c c) y (eq-eqb r.c c z))

  pub key_has : has_key a b c r ≡ true → (r.a ≡ a) × (says_b r b ≡ true) × (r.c ≡ c)
  key_has e =
      let h = and_second (eqb r.a a) (says_b r b && eqb r.c c) e in (
        eqb-true r.a a (and_first (eqb r.a a) (says_b r b && eqb r.c c) e),
        and_first (says_b r b) (eqb r.c c) h,
        eqb-true r.c c (and_second (says_b r b) (eqb r.c c) h),
      )

-- ---- the facts of a policy, by its records
module _ (p : Policy) (k a b c : ℕ) where
  pub states_yes : (i : ℕ) → OfKind p k i → has_key a b c (p.rec i) ≡ true → is_stated p k a b c ≡ true
  unfolding is_stated
  states_yes i o e = some_yes p k (has_key a b c) i o e

  pub states_record : is_stated p k a b c ≡ true → (i : ℕ) × OfKind p k i × (has_key a b c (p.rec i) ≡ true)
  unfolding is_stated
  states_record e = some_record p k (has_key a b c) e

  module _ (n : ℕ) where
    pub permits_yes : (i : ℕ) → OfKind p k i → has_key a b c (p.rec i) ≡ true → bit (p.rec i).mask n ≡ true → permits p k a b c n ≡ true
    unfolding permits
    permits_yes i o e h =
        some_yes p k (λ r. has_key a b c r && bit r.mask n) i o (and_true (has_key a b c (p.rec i)) (bit (p.rec i).mask n) e h)

    pub permits_record : permits p k a b c n ≡ true
        → (i : ℕ) × OfKind p k i × (has_key a b c (p.rec i) ≡ true) × (bit (p.rec i).mask n ≡ true)
    unfolding permits
    permits_record e =
        let s = some_record p k (λ r. has_key a b c r && bit r.mask n) e in
        let r = p.rec s.0 in
        (s.0, s.1, and_first (has_key a b c r) (bit r.mask n) s.2, and_second (has_key a b c r) (bit r.mask n) s.2)

-- ---- the number of a key
pub record KeyOf (a b c x : ℕ) : Type 0 where
  pub is_a : key_a x ≡ a
  pub is_b : key_b x ≡ b
  pub is_c : key_c x ≡ c

pub key_number : (a b c : ℕ) → a < 256 → b < 256 → c < 256 → (x : ℕ) × (x < key_numbers) × KeyOf a b c x
key_number a b c h k l =
    (65536 * a + (256 * b + c), omega arith, record { is_a = omega arith; is_b = omega arith; is_c = omega arith })
