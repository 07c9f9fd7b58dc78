-- The pass that collects facts: what stands there after one more record.
use Prim.Native.Nat.{ℕ, ◌+◌, ◌≤◌, ◌<◌}
use mathlib.Core.Path.{◌≡◌, refl, sym, ap, subst, ◌∙◌}
use mathlib.Core.Bool.{Bool, true, false, ◌||◌, cond}
use mathlib.Core.List.{List}
use mathlib.Core.Logic.{◌⊎◌, inl, inr, ⊎_elim}
use native.Mathlib.Omega.{arith}
use borrow.Author.Tests.{eqb-true, eq-eqb}
use lib.Dec.{eqb}
use lib.ListN.{length, set, length-set}
use lib.Seq.{get_or-set_same, get_or-set_other}
use Rattle.base.proofs.BoolLaws.{clash, or_cases}
use Rattle.base.proofs.Numbers.{split_eq, split_le}
use Rattle.policy_image.specs.declared.records.Record.{Record}
use Rattle.policy_image.specs.Policy.{Policy}
use Rattle.policy_facts.specs.Facts.{says_b}
use Rattle.policy_facts.specs.Inner.FactTable.{fact_key}
use Rattle.sorting.specs.Inner.Entries.{code_in}
use Rattle.fact_table.specs.Inner.Collect.{is_fact, says_both, SaysFact, StandsAmong, FactsEntered, Collected}

-- ---- what a record says
module _ (r : Record) (fact : is_fact r ≡ true) where
  -- b of a record that says one thing
  one_b : says_both r ≡ false → (b : ℕ) → says_b r b ≡ true → b ≡ r.b
  one_b f b e = sym (eqb-true r.b b (sym (ap (λ (t : Bool). cond t (eqb b 1 || eqb b 2) (eqb r.b b)) f) ∙ e))

  one_says : says_both r ≡ false → says_b r r.b ≡ true
  one_says f = ap (λ (t : Bool). cond t (eqb r.b 1 || eqb r.b 2) (eqb r.b r.b)) f ∙ eq-eqb r.b r.b refl

  both_b : says_both r ≡ true → (b : ℕ) → says_b r b ≡ true → (b ≡ 1) ⊎ (b ≡ 2)
  both_b y b e =
      ⊎_elim (λ h. inl (eqb-true b 1 h)) (λ h. inr (eqb-true b 2 h))
      (or_cases (eqb b 1) (eqb b 2) (sym (ap (λ (t : Bool). cond t (eqb b 1 || eqb b 2) (eqb r.b b)) y) ∙ e))

  both_says : says_both r ≡ true → (b : ℕ) → (eqb b 1 || eqb b 2) ≡ true → says_b r b ≡ true
  both_says y b e = ap (λ (t : Bool). cond t (eqb b 1 || eqb b 2) (eqb r.b b)) y ∙ e

  says_with : (b code mask : ℕ) → says_b r b ≡ true → code ≡ fact_key r.kind r.a b r.c → mask ≡ r.mask → SaysFact r code mask
  says_with b code mask s c m = record { fact = fact; b = b; says = s; code_is = c; mask_is = m }

-- ---- what it says is written
pub entered_none : (r : Record) (n : ℕ) (codes given : List ℕ) → is_fact r ≡ false → FactsEntered r n codes given codes given n
entered_none r n codes given f =
    record {
      low = omega arith;
      high = omega arith;
      code_stays = λ x l. refl;
      mask_stays = λ x l. refl;
      sound = λ x a b. let z : ⊥ = omega arith in absurd z;
      every = λ c g s. absurd (clash s.fact f);
    }

module _ (r : Record) (n : ℕ) (codes given : List ℕ) (fact : is_fact r ≡ true) where
  pub entered_one : says_both r ≡ false → n < length codes → n < length given → (v : ℕ) → v ≡ fact_key r.kind r.a r.b r.c
      → FactsEntered r n codes given (set codes n v) (set given n r.mask) (n + 1)
  entered_one f rc rg v e =
      record {
        low = omega arith;
        high = omega arith;
        code_stays = λ x l. get_or-set_other codes n x v 0 (λ q. omega arith);
        mask_stays = λ x l. get_or-set_other given n x r.mask 0 (λ q. omega arith);
        sound = λ x a b.
            subst (λ (x : ℕ). SaysFact r (code_in (set codes n v) x) (code_in (set given n r.mask) x)) (let q : n ≡ x = omega arith in q)
            (says_with r fact r.b _ _ (one_says r fact f) (get_or-set_same codes n v 0 rc ∙ e) (get_or-set_same given n r.mask 0 rg));
        every = λ c g s.
            record {
              at = n;
              below = omega arith;
              code_is = get_or-set_same codes n v 0 rc ∙ e ∙ ap (λ (b : ℕ). fact_key r.kind r.a b r.c) (sym (one_b r fact f s.b s.says)) ∙ sym s.code_is;
              mask_is = get_or-set_same given n r.mask 0 rg ∙ sym s.mask_is;
            };
      }

  module _ (t : says_both r ≡ true) (rc : n + 1 < length codes) (rg : n + 1 < length given) (v w : ℕ) (e : v ≡ fact_key r.kind r.a 1 r.c)
      (f : w ≡ fact_key r.kind r.a 2 r.c) where
    abbrev codes' : List ℕ
    codes' = set (set codes n v) (n + 1) w

    abbrev given' : List ℕ
    given' = set (set given n r.mask) (n + 1) r.mask

    first_code : code_in codes' n ≡ v
    first_code = get_or-set_other (set codes n v) (n + 1) n w 0 (λ q. omega arith) ∙ get_or-set_same codes n v 0 (omega arith)

    first_mask : code_in given' n ≡ r.mask
    first_mask = get_or-set_other (set given n r.mask) (n + 1) n r.mask 0 (λ q. omega arith) ∙ get_or-set_same given n r.mask 0 (omega arith)

    second_code : code_in codes' (n + 1) ≡ w
    second_code = get_or-set_same (set codes n v) (n + 1) w 0 (omega (arith, length-set codes n v))

    second_mask : code_in given' (n + 1) ≡ r.mask
    second_mask = get_or-set_same (set given n r.mask) (n + 1) r.mask 0 (omega (arith, length-set given n r.mask))

    pub entered_two : FactsEntered r n codes given codes' given' (n + 2)
    entered_two =
        record {
          low = omega arith;
          high = omega arith;
          code_stays = λ x l. get_or-set_other (set codes n v) (n + 1) x w 0 (λ q. omega arith) ∙ get_or-set_other codes n x v 0 (λ q. omega arith);
          mask_stays = λ x l.
              get_or-set_other (set given n r.mask) (n + 1) x r.mask 0 (λ q. omega arith) ∙ get_or-set_other given n x r.mask 0 (λ q. omega arith);
          sound = λ x a b.
              ⊎_elim
              (λ (q : x ≡ n).
              subst (λ (x : ℕ). SaysFact r (code_in codes' x) (code_in given' x)) (sym q)
              (says_with r fact 1 _ _ (both_says r fact t 1 refl) (first_code ∙ e) first_mask))
              (λ (d : x ≡ n → ⊥).
              subst (λ (x : ℕ). SaysFact r (code_in codes' x) (code_in given' x)) (let q : n + 1 ≡ x = omega (arith, d, a, b) in q)
              (says_with r fact 2 _ _ (both_says r fact t 2 refl) (second_code ∙ f) second_mask))
              (split_eq x n);
          every = λ c g s.
              ⊎_elim
              (λ q. record {
                at = n;
                below = omega arith;
                code_is = first_code ∙ e ∙ ap (λ (b : ℕ). fact_key r.kind r.a b r.c) (sym q) ∙ sym s.code_is;
                mask_is = first_mask ∙ sym s.mask_is;
              })
              (λ q. record {
                at = n + 1;
                below = omega arith;
                code_is = second_code ∙ f ∙ ap (λ (b : ℕ). fact_key r.kind r.a b r.c) (sym q) ∙ sym s.code_is;
                mask_is = second_mask ∙ sym s.mask_is;
              })
              (both_b r fact t s.b s.says);
        }

-- ---- one more record
pub collected_start : (p : Policy) (codes given : List ℕ) → Collected p 0 codes given 0
collected_start p codes given =
    record {
      few = omega arith;
      sound = λ x l. let z : ⊥ = omega arith in absurd z;
      every = λ c g s. let z : ⊥ = omega (arith, s.low, s.high) in absurd z;
    }

module _ (p : Policy) (n i : ℕ) (next : i ≡ n + 1) {codes given codes' given' : List ℕ} {m m' : ℕ} (C : Collected p n codes given m)
    {r : Record} (same : r ≡ p.rec i) (E : FactsEntered r m codes given codes' given' m') where
  stays : (c g : ℕ) → StandsAmong codes given m c g → StandsAmong codes' given' m' c g
  stays c g s =
      record {
        at = s.at;
        below = omega (arith, s.below, E.low);
        code_is = E.code_stays s.at s.below ∙ s.code_is;
        mask_is = E.mask_stays s.at s.below ∙ s.mask_is;
      }

  pub collected_more : Collected p i codes' given' m'
  collected_more =
      record {
        few = omega (arith, C.few, E.high);
        sound = λ x l.
            ⊎_elim
            (λ (a : m ≤ x). record { of = i; low = omega arith; high = omega arith; says = subst (λ (r : Record). SaysFact r (code_in codes' x) (code_in given' x)) same (E.sound x a l) })
            (λ (b : x < m).
            let s = C.sound x b in
            record {
              of = s.of;
              low = s.low;
              high = omega (arith, s.high);
              says = subst (SaysFact (p.rec s.of) (code_in codes' x)) (sym (E.mask_stays x b))
                  (subst (λ (c : ℕ). SaysFact (p.rec s.of) c (code_in given x)) (sym (E.code_stays x b)) s.says);
            })
            (split_le m x);
        every = λ c g s.
            ⊎_elim
            (λ (e : s.of ≡ i). E.every c g (subst (λ (r : Record). SaysFact r c g) (ap p.rec e ∙ sym same) s.says))
            (λ (d : s.of ≡ i → ⊥). stays c g (C.every c g (record { of = s.of; low = s.low; high = omega (arith, d, s.high); says = s.says })))
            (split_eq s.of i);
      }
