-- The nearest step of a block: entry by entry, up to the first of a class whose steps are all farther.
use mathlib.Core.Path.{◌≡◌, refl, sym, ◌∙◌, ap, subst}
use mathlib.Core.Bool.{Bool, true, false, not, ◌&&◌, ◌||◌}
use mathlib.Core.List.{List}
use mathlib.Core.Logic.{◌⊎◌, inl, inr, ⊎_elim}
use Prim.Native.Nat.{ℕ, zero, suc, ◌+◌, ◌*◌, ◌/◌, ◌%◌, ◌^◌, ◌≤◌, ◌<◌}
use native.Mathlib.Nat.{eq-or-lt_of_le}
use native.Mathlib.Omega.{arith}
use borrow.Author.Tests.{ne_eqb}
use lib.Dec.{eqb}
use lib.Bits.{bit_and, bit_or, and_le_l}
use lib.ListN.{get_or}
use Rattle.base.specs.Bits.{bit}
use Rattle.base.specs.Inner.Masks.{Taken}
use Rattle.base.proofs.BitLaws.{bit_and_lem, bit_or_lem, bit_ext, bit_zero}
use Rattle.base.proofs.BoolLaws.{and_true, and_first, or_true, true_or_false, clash}
use Rattle.base.proofs.Numbers.{split_le, split_eq}
use Rattle.plan.specs.Inner.Entries.{special_at, key_at, event_sets_at, leads_at}
use Rattle.search_steps.specs.declared.nearest.Asker.{Asker}
use Rattle.search_steps.specs.declared.nearest.Offer.{Offer}
use Rattle.search_steps.specs.Inner.Nearest.{first_step, step_of, kept_of, closed, OpenStep, AskedMask, PassedAt, AllPassedOver, Skipped, StepBlock, Cursor, OfferedAt, Resumes, SameEvent, Nearest}

-- a cursor is one for later steps too
later : {plan : List ℕ} {lo stop a from to : ℕ} → Cursor plan lo stop a from → from ≤ to → Cursor plan lo stop a to
later C l = record { low = C.low; high = C.high; passed = λ j a b. omega (arith, C.passed j a b) }

pub skip_begin : (plan : List ℕ) (stop a class : ℕ) → a ≤ stop → Skipped plan stop a class a
skip_begin plan stop a class h = record { low = omega arith; high = h; passed = λ j l k. absurd (omega arith) }

pub skip_more : {plan : List ℕ} {stop a class j : ℕ} → Skipped plan stop a class j → j < stop → key_at plan j / 4096 < class → Skipped plan stop a class (j + 1)
skip_more {plan} {stop} {a} {class} {j} S h c =
    record {
      low = omega (arith, S.low);
      high = omega arith;
      passed = λ i l k. ⊎_elim (λ (q : i ≡ j). subst (λ (z : ℕ). key_at plan z / 4096 < class) (sym q) c)
          (λ (d : i ≡ j → ⊥). S.passed i l (omega (arith, d))) (split_eq i j);
    }

-- ---- closed steps
pub kept_few : (a : Asker) (by : ℕ) → a.state < 64 → kept_of a by < 64
kept_few a by h = omega (arith, and_le_l a.state (bit_or a.keeps (by / 2 ^ 7)))

pub closed_first : (a : Asker) (by swept : ℕ) {b : Bool} → b ≡ bit by 14 → b ≡ true → true ≡ closed a by swept
closed_first a by swept p t = sym (ap (λ (z : Bool). z || bit swept (kept_of a by)) (sym p ∙ t))

pub closed_second : (a : Asker) (by swept : ℕ) {b k : Bool} {kept : ℕ} → b ≡ bit by 14 → b ≡ false → kept ≡ kept_of a by → k ≡ bit swept kept → k ≡ closed a by swept
closed_second a by swept p f e q = q ∙ ap (bit swept) e ∙ ap (λ (z : Bool). z || bit swept (kept_of a by)) (sym f ∙ p)

-- ---- where every event keeps the whole state
all_ones : (p : ℕ) → p < 6 → bit 63 p ≡ true
unfolding bit
all_ones zero h = refl
all_ones (suc zero) h = refl
all_ones (suc (suc zero)) h = refl
all_ones (suc (suc (suc zero))) h = refl
all_ones (suc (suc (suc (suc zero)))) h = refl
all_ones (suc (suc (suc (suc (suc zero))))) h = refl
all_ones (suc (suc (suc (suc (suc (suc p)))))) h = absurd (omega arith)

and_all : (a b : Bool) → (a && (true || b)) ≡ a
and_all true b = refl
and_all false b = refl

pub keeps_all : (state z : ℕ) → state < 64 → bit_and state (bit_or 63 z) ≡ state
keeps_all state z h =
    bit_ext 6 (bit_and state (bit_or 63 z)) state (omega (arith, and_le_l state (bit_or 63 z))) h
    (λ p l. bit_and_lem state (bit_or 63 z) p ∙ ap (λ (b : Bool). bit state p && b) (bit_or_lem 63 z p ∙ ap (λ (b : Bool). b || bit z p) (all_ones p l)) ∙ and_all (bit state p) (bit z p))

pub all_closed : (plan : List ℕ) (a : Asker) (swept k mask from : ℕ) {below : ℕ} {b : Bool} → a.state < 64 → from ≤ 4194304 → below ≤ 4194304 → a.keeps ≡ 63 → b ≡ bit swept a.state
    → b ≡ true → OpenStep plan a swept k mask from below 4194304
all_closed plan a swept k mask from few h hb w p t =
    record {
      high = omega arith;
      by = λ l. absurd (omega arith);
      low = h;
      unclosed = λ l. absurd (omega arith);
      least = λ q _ _ _. inr (or_true (bit (event_sets_at plan (32 * (k / 4096) + q)) 14) (bit swept (kept_of a (event_sets_at plan (32 * (k / 4096) + q))))
          (ap (bit swept) (ap (λ (i : ℕ). bit_and a.state (bit_or i (event_sets_at plan (32 * (k / 4096) + q) / 2 ^ 7))) w ∙ keeps_all a.state (event_sets_at plan (32 * (k / 4096) + q) / 2 ^ 7) few) ∙ sym p ∙ t));
    }

-- the event of a step
event_of_lem : (k q : ℕ) → (first_step k + 4096 * q) / 4096 ≡ 32 * (k / 4096) + q
event_of_lem k q = omega arith

-- the permissions that are left are of the mask, and the steps from `from` on by the others are closed
pub record Opening (plan : List ℕ) (a : Asker) (swept k mask from left : ℕ) : Type 0 where
  pub among : (q : ℕ) → bit left q ≡ true → bit mask q ≡ true
  pub rest : (q : ℕ) → q < 32 → bit mask q ≡ true → from ≤ first_step k + 4096 * q
      → (bit left q ≡ true) ⊎ (closed a (event_sets_at plan (32 * (k / 4096) + q)) swept ≡ true)

module _ {plan : List ℕ} {a : Asker} {swept k mask from : ℕ} where
  pub open_begin : {left : ℕ} → left ≡ mask → Opening plan a swept k mask from left
  open_begin e = subst (Opening plan a swept k mask from) (sym e) record { among = λ q b. b; rest = λ q l b f. inl b }

  module _ {left p left' : ℕ} (O : Opening plan a swept k mask from left) (T : Taken left p left') where
    pub open_more : (from ≤ first_step k + 4096 * p → closed a (event_sets_at plan ((first_step k + 4096 * p) / 4096)) swept ≡ true)
        → Opening plan a swept k mask from left'
    open_more c =
        record {
          among = λ q b. O.among q (and_first (bit left q) (not (eqb p q)) (sym (T.at q) ∙ b));
          rest = λ q l b f. ⊎_elim
              (λ (z : bit left q ≡ true). ⊎_elim
              (λ (e : p ≡ q). inr (subst (λ (i : ℕ). closed a (event_sets_at plan (32 * (k / 4096) + i)) swept ≡ true) e
              (subst (λ (i : ℕ). closed a (event_sets_at plan i) swept ≡ true) (event_of_lem k p) (c (subst (λ (i : ℕ). from ≤ first_step k + 4096 * i) (sym e) f)))))
              (λ (d : p ≡ q → ⊥). inl (T.at q ∙ and_true (bit left q) (not (eqb p q)) z (ap not (ne_eqb p q d))))
              (split_eq p q))
              inr
              (O.rest q l b f);
        }

    -- the step by the lowest that is left: where it is not below, or not closed, it is the nearest
    pub open_stop : {below : ℕ} → k < 131072 → from ≤ first_step k + 4096 * p
        → (first_step k + 4096 * p < below → closed a (event_sets_at plan ((first_step k + 4096 * p) / 4096)) swept ≡ false) → OpenStep plan a swept k mask from below (first_step k + 4096 * p)
    open_stop lk f c =
        record {
          high = omega (arith, T.least.small);
          by = λ _. record { perm = p; small = T.least.small; bears = O.among p T.least.has; is = refl };
          low = f;
          unclosed = c;
          least = λ q l b g. ⊎_elim
              (λ (z : bit left q ≡ true). inl (⊎_elim (λ (h : p ≤ q). let w : first_step k + 4096 * p ≤ first_step k + 4096 * q = omega arith in w) (λ (h : q < p). absurd (T.least.before q h z)) (split_le p q)))
              inr
              (O.rest q l b g);
        }

  pub open_end : {left below : ℕ} → left ≡ 0 → from ≤ 4194304 → below ≤ 4194304 → Opening plan a swept k mask from left → OpenStep plan a swept k mask from below 4194304
  open_end z f g O =
      record {
        high = omega arith;
        by = λ l. absurd (omega arith);
        low = f;
        unclosed = λ l. absurd (omega arith);
        least = λ q l b h. ⊎_elim (λ c. absurd (clash c (ap (λ (v : ℕ). bit v q) z ∙ bit_zero q))) inr (O.rest q l b h);
      }

pub asked_all : (plan : List ℕ) (a : Asker) (k mask : ℕ) → AskedMask plan a k mask mask
asked_all plan a k mask = record { among = λ q b. b; all = λ q b. inl b }

pub asked_special : (plan : List ℕ) (a : Asker) (k mask : ℕ) {m : ℕ} → a.spent ≡ true → m ≡ special_at plan (k / 4096) → AskedMask plan a k mask (bit_and mask m)
asked_special plan a k mask {m} s e =
    record {
      among = λ q b. and_first (bit mask q) (bit m q) (sym (bit_and_lem mask m q) ∙ b);
      all = λ q b. ⊎_elim (λ (t : bit m q ≡ true). inl (bit_and_lem mask m q ∙ and_true (bit mask q) (bit m q) b t))
          (λ (f : bit m q ≡ false). inr (s, ap (λ (z : ℕ). bit z q) (sym e) ∙ f)) (true_or_false (bit m q));
    }

-- the entries below j are looked at, from first on, and `step` is the nearest step of them that is not closed, that of `entry`
pub record Looking (plan swept : List ℕ) (a : Asker) (lo stop from first step entry j : ℕ) : Type 0 where
  pub few : a.state < 64
  pub block : StepBlock plan lo stop
  pub cursor : Cursor plan lo stop first from
  pub begun : first ≤ j
  pub within : j ≤ stop
  pub high : step ≤ 4194304
  pub low : from ≤ step
  pub asked : from ≤ 4194304
  pub offers : step < 4194304 → OfferedAt plan lo stop entry step
  pub unclosed : step < 4194304 → closed a (event_sets_at plan (step / 4096)) (get_or swept (step % 4096) 0) ≡ false
  pub least : (i q : ℕ) → lo ≤ i → i < j → q < 32 → bit (leads_at plan i) q ≡ true → from ≤ step_of plan i q
      → (step ≤ step_of plan i q) ⊎ PassedAt plan swept a i q

-- every step of a class below comes before
earlier : (k q from : ℕ) → k / 4096 < from / 131072 → q < 32 → first_step k + 4096 * q < from
earlier k q from h l = omega arith

pub look_begin : {plan : List ℕ} {lo stop start first from : ℕ} (swept : List ℕ) (a : Asker) → a.state < 64 → StepBlock plan lo stop → Cursor plan lo stop start from → from ≤ 4194304
    → Skipped plan stop start (from / 131072) first → Looking plan swept a lo stop from first 4194304 first first
look_begin {plan} {lo} {stop} {start} {first} {from} swept a few B C h S =
    record {
      few = few;
      block = B;
      cursor = record { low = omega (arith, C.low, S.low); high = S.high; passed = passed };
      begun = omega arith;
      within = S.high;
      high = omega arith;
      low = h;
      asked = h;
      offers = λ l. absurd (omega arith);
      unclosed = λ l. absurd (omega arith);
      least = λ i q l k lq b f. absurd (let z = earlier (key_at plan i) q from (passed i l k) lq in omega arith);
    }
  where
    passed : (j : ℕ) → lo ≤ j → j < first → key_at plan j / 4096 < from / 131072
    passed j l k = ⊎_elim (λ (a : start ≤ j). S.passed j a k) (λ (a : j < start). C.passed j l a) (split_le start j)

-- the class and the permission of an event
class_of : (c q : ℕ) → q < 32 → c ≡ (32 * c + q) / 32
class_of c q h = omega arith

pub perm_of : (c q : ℕ) → q < 32 → q ≡ (32 * c + q) % 32
perm_of c q h = omega arith

module _ {plan swept : List ℕ} {a : Asker} {lo stop from first step entry j : ℕ} (L : Looking plan swept a lo stop from first step entry j) where
  from_lo : lo ≤ j
  from_lo = omega (arith, L.begun, L.cursor.low)

  pub look_small : j < stop → key_at plan j < 131072
  look_small h = L.block.small j from_lo h

  pub look_other : j < stop → key_at plan j % 4096 < 256
  look_other h = L.block.others j from_lo h

  module _ {s m : ℕ} (h : j < stop) (A : AskedMask plan a (key_at plan j) (leads_at plan j) m) (E : OpenStep plan a (get_or swept (key_at plan j % 4096) 0) (key_at plan j) m from step s) where
    abbrev k : ℕ
    k = key_at plan j

    -- what the entry itself passes over
    own : (q : ℕ) → q < 32 → bit (leads_at plan j) q ≡ true → from ≤ step_of plan j q → (s ≤ step_of plan j q) ⊎ PassedAt plan swept a j q
    own q lq x f =
        ⊎_elim (λ b. ⊎_elim (λ n. inl n) (λ c. inr (inl c)) (E.least q lq b f))
        (λ w. inr (inr (
          w.0,
          subst (λ (z : ℕ). bit (special_at plan ((32 * (k / 4096) + q) / 32)) z ≡ false) (perm_of (k / 4096) q lq)
              (subst (λ (z : ℕ). bit (special_at plan z) q ≡ false) (class_of (k / 4096) q lq) w.1),
        )))
        (A.all q x)

    both : {to : ℕ} → to ≤ step → to ≤ s → (i q : ℕ) → lo ≤ i → i < j + 1 → q < 32 → bit (leads_at plan i) q ≡ true
        → from ≤ step_of plan i q
        → (to ≤ step_of plan i q) ⊎ PassedAt plan swept a i q
    both {to} n1 n2 i q l g lq x f =
        ⊎_elim
        (λ (e : i ≡ j).
        subst (λ (z : ℕ). (to ≤ step_of plan z q) ⊎ PassedAt plan swept a z q) (sym e)
        (nearer n2 (own q lq (subst (λ (z : ℕ). bit (leads_at plan z) q ≡ true) e x) (subst (λ (z : ℕ). from ≤ step_of plan z q) e f))))
        (λ (d : i ≡ j → ⊥). nearer n1 (L.least i q l (omega (arith, d)) lq x f))
        (split_eq i j)
      where
        nearer : {t v : ℕ} {X : Type 0} → to ≤ t → (t ≤ v) ⊎ X → (to ≤ v) ⊎ X
        nearer n w = ⊎_elim (λ r. inl (omega (arith, r))) (λ r. inr r) w

    pub look_nearer : s < step → Looking plan swept a lo stop from first s j (j + 1)
    look_nearer n =
        record {
          few = L.few;
          block = L.block;
          cursor = L.cursor;
          begun = omega (arith, L.begun);
          within = omega arith;
          high = E.high;
          low = E.low;
          asked = L.asked;
          offers = λ l. let b = E.by l in record { low = from_lo; high = h; by = record { perm = b.perm; small = b.small; bears = A.among b.perm b.bears; is = b.is } };
          unclosed = λ l.
              let b = E.by l in
              let i = b.is in
              subst (λ (z : ℕ). closed a (event_sets_at plan (s / 4096)) (get_or swept z 0) ≡ false) (let q : key_at plan j % 4096 ≡ s % 4096 = omega arith in q) (E.unclosed n);
          least = both (omega arith) (omega arith);
        }

    pub look_on : step ≤ s → Looking plan swept a lo stop from first step entry (j + 1)
    look_on n =
        record {
          few = L.few;
          block = L.block;
          cursor = L.cursor;
          begun = omega (arith, L.begun);
          within = omega arith;
          high = L.high;
          low = L.low;
          asked = L.asked;
          offers = L.offers;
          unclosed = L.unclosed;
          least = both (omega arith) n;
        }

  found : ((i q : ℕ) → lo ≤ i → i < stop → q < 32 → bit (leads_at plan i) q ≡ true → from ≤ step_of plan i q
      → (step ≤ step_of plan i q) ⊎ PassedAt plan swept a i q)
      → Nearest plan swept a lo stop from (record { start = first; entry = entry; step = step })
  found all =
      record {
        high = L.high;
        low = L.low;
        resumes = λ l. record { within = l; offered = L.offers l; cursor = later L.cursor L.low };
        unclosed = L.unclosed;
        least = all;
      }

  pub look_end : stop ≤ j → Nearest plan swept a lo stop from (record { start = first; entry = entry; step = step })
  look_end h = found (λ i q l k. L.least i q l (omega arith))

  -- the classes from here on are farther
  pub look_stop : j < stop → step < 131072 * (key_at plan j / 4096) → Nearest plan swept a lo stop from (record { start = first; entry = entry; step = step })
  look_stop h n =
      found (λ i q l k lq x f.
      ⊎_elim
      (λ (b : j ≤ i). inl (farther i b k q))
      (λ (b : i < j). L.least i q l b lq x f)
      (split_le j i))
    where
      farther : (i : ℕ) → j ≤ i → i < stop → (q : ℕ) → step ≤ step_of plan i q
      farther i b k q =
          let ordered : key_at plan j ≤ key_at plan i =
          ⊎_elim (λ (e : j ≡ i). subst (λ (z : ℕ). key_at plan j ≤ key_at plan z) e (omega arith))
          (λ (m : j < i). let w = L.block.rising j i from_lo m k in omega arith) (eq-or-lt_of_le b) in
          omega arith

-- ---- no step of a block need be asked
module _ {plan swept : List ℕ} {a : Asker} {lo stop : ℕ} where
  pub all_passed : {r : Offer} → StepBlock plan lo stop → Nearest plan swept a lo stop 0 r → 4194304 ≤ r.step → AllPassedOver plan swept a lo stop
  all_passed {r} B N h =
      record {
        each = λ j q l k lq x.
            ⊎_elim (λ (n : r.step ≤ step_of plan j q). absurd (let s = B.small j l k in omega arith)) (λ p. p) (N.least j q l k lq x (omega arith));
      }

  pub none_open : (start entry : ℕ) → AllPassedOver plan swept a lo stop → Nearest plan swept a lo stop 0 (record { start = start; entry = entry; step = 4194304 })
  none_open start entry S =
      record {
        high = omega arith;
        low = omega arith;
        resumes = λ l. absurd (omega arith);
        unclosed = λ l. absurd (omega arith);
        least = λ j q l k lq x _. inr (S.each j q l k lq x);
      }

-- ---- the steps by the event of an offer, after it
-- the entries after the one that offers `step` and below j that offer its event are closed
pub record Passing (plan swept : List ℕ) (a : Asker) (lo stop entry step j : ℕ) : Type 0 where
  pub few : a.state < 64
  pub block : StepBlock plan lo stop
  pub offered : OfferedAt plan lo stop entry step
  pub begun : entry < j
  pub within : j ≤ stop
  pub passed : (i : ℕ) → entry < i → i < j → key_at plan i / 4096 ≡ step / 131072 → bit (leads_at plan i) (step / 4096 % 32) ≡ true
      → closed a (event_sets_at plan (step / 4096)) (get_or swept (key_at plan i % 4096) 0) ≡ true

pub pass_begin : {plan : List ℕ} {lo stop entry step : ℕ} (swept : List ℕ) (a : Asker) → a.state < 64 → StepBlock plan lo stop → OfferedAt plan lo stop entry step
    → Passing plan swept a lo stop entry step (entry + 1)
pass_begin swept a few B R =
    record { few = few; block = B; offered = R; begun = omega arith; within = omega (arith, R.high); passed = λ i l k. absurd (omega arith) }

module _ {plan swept : List ℕ} {a : Asker} {lo stop entry step j : ℕ} (I : Passing plan swept a lo stop entry step j) where
  from_low : lo ≤ j
  from_low = omega (arith, I.begun, I.offered.low)

  pub pass_other : j < stop → key_at plan j % 4096 < 256
  pass_other h = I.block.others j from_low h

  -- the entry itself is of another event, or closed
  pub pass_on : j < stop
      → (key_at plan j / 4096 ≡ step / 131072 → bit (leads_at plan j) (step / 4096 % 32) ≡ true → closed a (event_sets_at plan (step / 4096)) (get_or swept (key_at plan j % 4096) 0) ≡ true)
      → Passing plan swept a lo stop entry step (j + 1)
  pass_on h own =
      record {
        few = I.few;
        block = I.block;
        offered = I.offered;
        begun = omega (arith, I.begun);
        within = omega arith;
        passed = λ i l k.
            ⊎_elim
            (λ (e : i ≡ j).
            subst (λ (z : ℕ). key_at plan z / 4096 ≡ step / 131072 → bit (leads_at plan z) (step / 4096 % 32) ≡ true → closed a (event_sets_at plan (step / 4096)) (get_or swept (key_at plan z % 4096) 0) ≡ true)
            (sym e) own)
            (λ (d : i ≡ j → ⊥). I.passed i l (omega (arith, d)))
            (split_eq i j);
      }

  pub pass_stop : j < stop → key_at plan j / 4096 ≡ step / 131072 → bit (leads_at plan j) (step / 4096 % 32) ≡ true
      → closed a (event_sets_at plan (step / 4096)) (get_or swept (key_at plan j % 4096) 0) ≡ false → SameEvent plan swept a stop entry step j
  pass_stop h c b f =
      record { low = I.begun; high = I.within; class = λ _. c; bears = λ _. b; unclosed = λ _. f; passed = I.passed }

  none_after : ((i : ℕ) → j ≤ i → i < stop → key_at plan i / 4096 ≡ step / 131072 → ⊥) → SameEvent plan swept a stop entry step stop
  none_after n =
      record {
        low = omega (arith, I.begun, I.within);
        high = omega arith;
        class = λ l. absurd (omega arith);
        bears = λ l. absurd (omega arith);
        unclosed = λ l. absurd (omega arith);
        passed = λ i l k c. ⊎_elim (λ (b : j ≤ i). absurd (n i b k c)) (λ (b : i < j). I.passed i l b c) (split_le j i);
      }

  pub pass_end : stop ≤ j → SameEvent plan swept a stop entry step stop
  pass_end h = none_after (λ i l k _. omega arith)

  -- the entries from here on are of later classes
  pub pass_class : j < stop → (key_at plan j / 4096 ≡ step / 131072 → ⊥) → SameEvent plan swept a stop entry step stop
  pass_class h n =
      none_after (λ i l k c.
      let b = I.offered.by in
      let s = b.small in
      let e = b.is in
      let first = I.block.rising (entry) j I.offered.low I.begun h in
      ⊎_elim (λ (q : j ≡ i). n (subst (λ (z : ℕ). key_at plan z / 4096 ≡ step / 131072) (sym q) c))
      (λ (m : j < i). let w = I.block.rising j i from_low m k in n (omega arith)) (eq-or-lt_of_le l))

lower_key : (k k' : ℕ) → k / 4096 ≡ k' / 4096 → k % 4096 < k' % 4096 → k < k'
lower_key k k' c o = omega arith

-- of two steps by one event that of the lower key is the earlier
key_order : (k k' p q step : ℕ) → p < 32 → q < 32 → step ≡ first_step k + 4096 * p → step < first_step k' + 4096 * q → first_step k' + 4096 * q < 4096 * (step / 4096 + 1) → k < k'
key_order k k' p q step lp lq e f t =
    let class : k / 4096 ≡ step / 131072 = omega arith in
    let class' : k' / 4096 ≡ step / 131072 = omega arith in
    let other : k % 4096 ≡ step % 4096 = omega arith in
    let other' : step % 4096 < k' % 4096 = omega arith in
    lower_key k k' (class ∙ sym class') (omega arith)

module _ {plan swept : List ℕ} {a : Asker} {lo stop : ℕ} {o : Offer} {r : ℕ} (B : StepBlock plan lo stop) (R : Resumes plan lo stop o) (S : SameEvent plan swept a stop o.entry o.step r) where
  -- a step after that of o by its event is one of an entry from r on, or it is closed
  still : (j q : ℕ) → lo ≤ j → j < stop → q < 32 → bit (leads_at plan j) q ≡ true → o.step < step_of plan j q
      → step_of plan j q < 4096 * (o.step / 4096 + 1) → (r ≤ j) ⊎ PassedAt plan swept a j q
  still j q l k lq x f t =
      let class : key_at plan j / 4096 ≡ o.step / 131072 = omega arith in
      let perm : q ≡ o.step / 4096 % 32 = omega arith in
      let event : o.step / 4096 ≡ 32 * (key_at plan j / 4096) + q = omega arith in
      ⊎_elim (λ (b : r ≤ j). inl b)
      (λ (b : j < r).
      inr (inl (subst (λ (z : ℕ). closed a (event_sets_at plan z) (get_or swept (key_at plan j % 4096) 0) ≡ true) event
      (S.passed j (after j l k (key_order (key_at plan o.entry) (key_at plan j) R.offered.by.perm q o.step R.offered.by.small lq R.offered.by.is f t)) b class (subst (λ (z : ℕ). bit (leads_at plan j) z ≡ true) perm x)))))
      (split_le r j)
    where
      after : (j : ℕ) → lo ≤ j → j < stop → key_at plan o.entry < key_at plan j → o.entry < j
      after j l k h =
          ⊎_elim (λ (b : j ≤ o.entry). absurd (⊎_elim (λ (e : j ≡ o.entry). let z : key_at plan j ≡ key_at plan o.entry = ap (key_at plan) e in omega arith)
          (λ (m : j < o.entry). let w = B.rising j o.entry l m R.offered.high in omega arith) (eq-or-lt_of_le b)))
          (λ b. b) (split_le j o.entry)

  -- the step of the entry r
  pub same_nearest : r < stop → Nearest plan swept a lo stop (o.step + 1) (record { start = o.start; entry = r; step = 4096 * (o.step / 4096) + key_at plan r % 4096 })
  same_nearest h =
      record {
        high = omega (arith, R.within);
        low = up;
        resumes = λ l.
            record {
              within = l;
              offered = record { low = from_first; high = h; by = record { perm = o.step / 4096 % 32; small = omega arith; bears = S.bears h; is = omega (arith, S.class h) } };
              cursor = later R.cursor (omega (arith, up));
            };
        unclosed = λ _.
            subst (λ (z : ℕ). closed a (event_sets_at plan z) (get_or swept ((4096 * (o.step / 4096) + key_at plan r % 4096) % 4096) 0) ≡ false)
            (let e : o.step / 4096 ≡ (4096 * (o.step / 4096) + key_at plan r % 4096) / 4096 = omega arith in e)
            (subst (λ (z : ℕ). closed a (event_sets_at plan (o.step / 4096)) (get_or swept z 0) ≡ false)
            (let e : key_at plan r % 4096 ≡ (4096 * (o.step / 4096) + key_at plan r % 4096) % 4096 = omega arith in e) (S.unclosed h));
        least = λ j q l k lq x f.
            ⊎_elim (λ (t : 4096 * (o.step / 4096 + 1) ≤ step_of plan j q). inl (omega arith))
            (λ (t : step_of plan j q < 4096 * (o.step / 4096 + 1)).
            ⊎_elim (λ (b : r ≤ j). inl (farther j q b k f t)) (λ c. inr c) (still j q l k lq x (omega arith) t))
            (split_le (4096 * (o.step / 4096 + 1)) (step_of plan j q));
      }
    where
      from_first : lo ≤ r
      from_first = omega (arith, S.low, R.offered.low)

      up : o.step + 1 ≤ 4096 * (o.step / 4096) + key_at plan r % 4096
      up =
          let b = R.offered.by in
          let s = b.small in
          let e = b.is in
          let w = B.rising o.entry r R.offered.low S.low h in
          let c = S.class h in
          omega arith

      farther : (j q : ℕ) → r ≤ j → j < stop → o.step + 1 ≤ step_of plan j q → step_of plan j q < 4096 * (o.step / 4096 + 1)
          → 4096 * (o.step / 4096) + key_at plan r % 4096 ≤ step_of plan j q
      farther j q b k f t =
          let c = S.class h in
          ⊎_elim (λ (e : r ≡ j). let z : key_at plan r ≡ key_at plan j = ap (key_at plan) e in omega arith)
          (λ (m : r < j). let w = B.rising r j from_first m k in omega arith) (eq-or-lt_of_le b)

  pub next_cursor : Cursor plan lo stop o.start (4096 * (o.step / 4096 + 1))
  next_cursor = later R.cursor (omega arith)

  -- no entry has one: the nearest by a later event
  pub later_nearest : {n : Offer} → stop ≤ r → Nearest plan swept a lo stop (4096 * (o.step / 4096 + 1)) n → Nearest plan swept a lo stop (o.step + 1) n
  later_nearest {n} h N =
      record {
        high = N.high;
        low = omega (arith, N.low);
        resumes = N.resumes;
        unclosed = N.unclosed;
        least = λ j q l k lq x f.
            ⊎_elim (λ (t : 4096 * (o.step / 4096 + 1) ≤ step_of plan j q). N.least j q l k lq x t)
            (λ (t : step_of plan j q < 4096 * (o.step / 4096 + 1)).
            ⊎_elim (λ (b : r ≤ j). absurd (omega arith)) (λ c. inr c) (still j q l k lq x (omega arith) t))
            (split_le (4096 * (o.step / 4096 + 1)) (step_of plan j q));
      }
