-- What an allow record gives: its two items, the parts of their codes, and α by the records that count.
use mathlib.Core.Path.{◌≡◌, refl, sym, ◌∙◌, ap}
use mathlib.Core.Bool.{Bool, true, false, ◌&&◌, cond}
use mathlib.Core.Logic.{◌⊎◌, inl, inr, ⊎_elim}
use mathlib.Core.List.{List}
use Prim.Native.Nat.{ℕ, ◌+◌, ◌*◌, ◌/◌, ◌%◌, ◌<◌}
use native.Mathlib.Omega.{arith}
use lib.Bits.{bit_and}
use lib.Dec.{eqb}
use lib.ListN.{length, get_or, set, length-set}
use lib.Seq.{get_or-set_same, get_or-set_other}
use borrow.Author.Tests.{eq-eqb, ne_eqb, eqb-true}
use Rattle.base.specs.Bits.{bit}
use Rattle.base.specs.Ranges.{Within}
use Rattle.base.proofs.Numbers.{split_eq}
use Rattle.base.proofs.BoolLaws.{and_true, and_first, and_second}
use Rattle.policy_image.specs.declared.records.Record.{Record}
use Rattle.policy_image.specs.Inner.Reading.{Bytes}
use Rattle.policy_image.specs.Policy.{Policy}
use Rattle.policy_links.proofs.KindLaws.{OfKind, counted_yes, counted_record, every_record}
use Rattle.context.specs.declared.Event.{Event}
use Rattle.context.specs.Codes.{event_at}
use Rattle.policy_sources.specs.Sources.{domain, AllowsFromDomains}
use Rattle.relations.specs.Relations.{Γ, target_of, allowed, α}
use Rattle.plan_tables.specs.Inner.Tables.{GammaMasks}
use Rattle.plan_index.specs.Inner.Codes.{type_codes, key_codes, key_code, item_code}
use Rattle.plan_index.specs.Inner.Items.{ItemsPut}
use Rattle.sorting.proofs.MaskLaws.{bit_and_first, bit_and_second, bit_and_join}

-- ---- the parts of a code
module _ (k own c o : ℕ) (e : k ≡ item_code own (key_code c o)) (lc : c < 32) (lo : o < type_codes) where
  pub own_part : k / key_codes ≡ own
  own_part = omega arith

  pub class_part : k % key_codes / type_codes ≡ c
  class_part = omega arith

  pub other_part : k % key_codes % type_codes ≡ o
  other_part = omega arith

-- ---- the fields of an allow record
pub target_cases : (r : Record) → ((r.b ≡ 0) × (target_of r ≡ r.a)) ⊎ ((r.b ≡ 0 → ⊥) × (target_of r ≡ r.b))
target_cases r =
    ⊎_elim (λ e. inl (e, ap (λ (t : Bool). cond t r.a r.b) (eq-eqb r.b 0 e)))
    (λ n. inr (n, ap (λ (t : Bool). cond t r.a r.b) (ne_eqb r.b 0 n))) (split_eq r.b 0)

pub target_few : (r : Record) → Bytes r → target_of r < 256
target_few r B = ⊎_elim (λ h. omega (arith, h.1, B.a)) (λ h. omega (arith, h.1, B.b)) (target_cases r)

-- its two items
module _ (perms codes masks : List ℕ) (r : Record) (n x y w : ℕ) (ex : x ≡ item_code r.a (key_code r.c (target_of r))) (ey : y ≡ item_code (target_of r) (key_code r.c r.a))
    (ew : w ≡ bit_and r.mask (get_or perms r.c 0)) (lc : 2 * n + 1 < length codes) (lm : n < length masks) where
  mask_at : (k : ℕ) → k ≡ n → get_or (set masks n w) k 0 ≡ bit_and r.mask (get_or perms r.c 0)
  mask_at k e = ap (λ (j : ℕ). get_or (set masks n w) j 0) e ∙ get_or-set_same masks n w 0 lm ∙ ew

  pub items_put : ItemsPut perms r n codes masks (set (set codes (2 * n) x) (2 * n + 1) y) (set masks n w)
  items_put =
      record {
        source = record {
          code = get_or-set_other (set codes (2 * n) x) (2 * n + 1) (2 * n) y 0 (λ e. omega arith) ∙ get_or-set_same codes (2 * n) x 0 (omega arith) ∙ ex;
          mask = mask_at (2 * n / 2) (omega arith);
        };
        target = record { code = get_or-set_same (set codes (2 * n) x) (2 * n + 1) y 0 (rw length-set lc) ∙ ey; mask = mask_at ((2 * n + 1) / 2) (omega arith) };
        code = λ k h. get_or-set_other (set codes (2 * n) x) (2 * n + 1) k y 0 (λ e. omega arith) ∙ get_or-set_other codes (2 * n) k x 0 (λ e. omega arith);
        mask = λ k h. get_or-set_other masks n k w 0 (λ e. omega arith);
      }

-- its types by a side, the source's being the first: that in whose block the item of this side goes, and the other
abbrev pub own_by : Bool → Record → ℕ
own_by first r = cond first r.a (target_of r)

abbrev pub other_by : Bool → Record → ℕ
other_by first r = cond first (target_of r) r.a

pub record Allowing (p : Policy) (r : Record) : Type 0 where
  pub own : (first : Bool) → Within 1 p.counts.types (own_by first r)
  pub other : (first : Bool) → Within 1 p.counts.types (other_by first r)
  pub class : Within 1 31 r.c
  pub types : p.counts.types < 256

pub within_by : (first : Bool) {n x y : ℕ} → Within 1 n x → Within 1 n y → Within 1 n (cond first x y)
within_by true a b = a
within_by false a b = b

-- a relation by a side
abbrev pub seen : (ℕ → ℕ → Event → Bool) → Bool → ℕ → ℕ → Event → Bool
seen A first t o e = cond first (A t o e) (A o t e)

module _ (A : ℕ → ℕ → Event → Bool) (e : Event) where
  pub seen_of : (first : Bool) (r : Record) → A r.a (target_of r) e ≡ true → seen A first (own_by first r) (other_by first r) e ≡ true
  seen_of true r h = h
  seen_of false r h = h

  pub seen_back : (first : Bool) (t o : ℕ) → seen A first t o e ≡ true → A (cond first t o) (cond first o t) e ≡ true
  seen_back true t o h = h
  seen_back false t o h = h

pub own_back : (first : Bool) (t o : ℕ) (r : Record) → r.a ≡ cond first t o → target_of r ≡ cond first o t → own_by first r ≡ t
own_back true t o r a b = a
own_back false t o r a b = b

pub other_back : (first : Bool) (t o : ℕ) (r : Record) → r.a ≡ cond first t o → target_of r ≡ cond first o t → other_by first r ≡ o
other_back true t o r a b = b
other_back false t o r a b = a

-- ---- α by the records
-- what an allow record has to say for `allowed`
abbrev says : ℕ → ℕ → Event → Record → Bool
says t1 t2 e r = (eqb r.a t1 && (eqb (target_of r) t2 && eqb r.c e.class)) && bit r.mask e.perm

module _ (p : Policy) (perms : List ℕ) (G : GammaMasks p perms) where
  -- a record that counts lets a act on b with permission q of class c, which the class has
  pub record Stated (a b c q : ℕ) : Type 0 where
    pub number : ℕ
    pub kind : OfKind p 4 number
    pub counted : p.counted number ≡ true
    pub source : (p.rec number).a ≡ a
    pub target : target_of (p.rec number) ≡ b
    pub class : (p.rec number).c ≡ c
    pub bears : bit (bit_and (p.rec number).mask (get_or perms c 0)) q ≡ true

  -- by question 14 the source of a record is a domain
  pub alpha_of : AllowsFromDomains p → (j q : ℕ) → OfKind p 4 j → p.counted j ≡ true → bit (bit_and (p.rec j).mask (get_or perms (p.rec j).c 0)) q ≡ true
      → α p (p.rec j).a (target_of (p.rec j)) (event_at (p.rec j).c q) ≡ true
  unfolding α allowed
  alpha_of F j q o c h =
      let r = p.rec j in
      let e = event_at r.c q in
      let given = counted_yes p 4 (says r.a (target_of r) e) j o c
      (and_true (eqb r.a r.a && (eqb (target_of r) (target_of r) && eqb r.c r.c)) (bit r.mask q)
      (and_true (eqb r.a r.a) (eqb (target_of r) (target_of r) && eqb r.c r.c) (eq-eqb r.a r.a refl)
      (and_true (eqb (target_of r) (target_of r)) (eqb r.c r.c) (eq-eqb (target_of r) (target_of r) refl) (eq-eqb r.c r.c refl)))
      (bit_and_first r.mask (get_or perms r.c 0) q h)) in
      and_true (domain p r.a) (Γ p e && allowed p r.a (target_of r) e) (every_record p 4 (λ r. domain p r.a) F j o)
      (and_true (Γ p e) (allowed p r.a (target_of r) e) (sym (G.at r.c q) ∙ bit_and_second r.mask (get_or perms r.c 0) q h) given)

  pub of_alpha : (a b c q : ℕ) → α p a b (event_at c q) ≡ true → Stated a b c q
  unfolding α allowed
  of_alpha a b c q h =
      let e = event_at c q in
      let rest = and_second (domain p a) (Γ p e && allowed p a b e) h in
      let f = counted_record p 4 (says a b e) (and_second (Γ p e) (allowed p a b e) rest) in
      let r = p.rec f.0 in
      let key = and_first (eqb r.a a && (eqb (target_of r) b && eqb r.c c)) (bit r.mask q) f.3 in
      let is_a = eqb-true r.a a (and_first (eqb r.a a) (eqb (target_of r) b && eqb r.c c) key) in
      let others = and_second (eqb r.a a) (eqb (target_of r) b && eqb r.c c) key in
      record {
        number = f.0;
        kind = f.1;
        counted = f.2;
        source = is_a;
        target = eqb-true (target_of r) b (and_first (eqb (target_of r) b) (eqb r.c c) others);
        class = eqb-true r.c c (and_second (eqb (target_of r) b) (eqb r.c c) others);
        bears = bit_and_join r.mask (get_or perms c 0) q (and_second (eqb r.a a && (eqb (target_of r) b && eqb r.c c)) (bit r.mask q) f.3)
            (G.at c q ∙ and_first (Γ p e) (allowed p a b e) rest);
      }
