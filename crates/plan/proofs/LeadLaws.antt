-- The leading permissions of an entry, and what they stand for.
use Prim.Native.Nat.{ℕ, zero, suc, ◌+◌, ◌-◌, ◌*◌, ◌/◌, ◌%◌, ◌≤◌, ◌<◌}
use mathlib.Core.Path.{◌≡◌, refl, sym, ap, ap₂, subst, ◌∙◌}
use mathlib.Core.Bool.{true, false, not, ◌||◌}
use mathlib.Core.List.{List}
use mathlib.Core.Logic.{◌⊎◌, inl, inr, ⊎_elim}
use native.Mathlib.Omega.{arith}
use borrow.Author.Tests.{not-true, eqb-true, eq-eqb}
use lib.Bits.{bit_and, bit_or}
use lib.Dec.{eqb}
use lib.ListN.{get_or, set, replicate, length-set, length-replicate}
use lib.Seq.{get_or-set_same, get_or-set_other}
use Rattle.base.specs.Bits.{bit}
use Rattle.base.specs.Inner.Masks.{Lowest, With, Without}
use Rattle.base.specs.Inner.Fill.{Filled}
use Rattle.base.specs.Ranges.{Within}
use Rattle.base.proofs.BitLaws.{bit_and_lem, bit_or_lem, bit_zero}
use Rattle.base.proofs.Numbers.{split_eq, split_le, zeros}
use Rattle.base.proofs.BoolLaws.{clash, or_true, or_left, or_cases, and_true, and_first, and_second, true_or_false}
use Rattle.policy_image.specs.Policy.{Policy}
use Rattle.context.specs.Codes.{event_at, event_of, is_transition}
use Rattle.context.specs.Inner.Coding.{transition_code}
use Rattle.constraints.specs.Constraints.{constrains}
use Rattle.plan.specs.Inner.Entries.{first_at, key_at, writes_at, reads_at, groups_at, event_sets_at, leads_at}
use Rattle.plan.specs.Inner.Regions.{event_entries, block_entries, groups_start, roles_start, event_sets_start, alike_start, counted_start, keys_start, writes_start, reads_start, leads_start}
use Rattle.plan.specs.Inner.Plan.{Grouped, OfferBlocks, Alike, AlikePlan, Leader, Leads}
use Rattle.plan.specs.Inner.Put.{Kept, AlikePut, LeadsPut}
use Rattle.plan.specs.Inner.Leads.{NotTransition, SameSets, AllAlike, AlikeCopy, AlikeTable, Shared, Led, Leading, EntryLeads}

-- ---- the permissions of a class, but process transition
pub transition_out : {c one r : ℕ} → c ≡ 1 → With 0 0 one → Without 4294967295 one r → NotTransition c r
transition_out {c} {one} {r} k O W =
    record {
      out = λ q h b e.
          let z : q ≡ 0 = omega arith in
          clash (subst (λ (i : ℕ). bit one i ≡ true) (sym z) (O.at 0 ∙ or_true (bit 0 0) (eqb 0 0) (eq-eqb 0 0 refl)))
          (not-true (bit one q) (and_second (bit 4294967295 q) (not (bit one q)) (sym (W.at q) ∙ b)));
    }

pub transition_still : {c left m left' : ℕ} → NotTransition c left → Without left m left' → NotTransition c left'
transition_still {left = left} {m} N W = record { out = λ q h b. N.out q h (and_first (bit left q) (not (bit m q)) (sym (W.at q) ∙ b)) }

-- ---- permissions in the same sets
pub sets_begin : (plan : List ℕ) (c sets : ℕ) → SameSets plan c sets 0
sets_begin plan c sets = record { at = λ q b. absurd (clash b (bit_zero q)) }

pub sets_next : {plan : List ℕ} {c sets q r r' : ℕ} → SameSets plan c sets r → event_sets_at plan (32 * c + q) ≡ sets → With r q r' → SameSets plan c sets r'
sets_next {plan} {c} {sets} {q} {r} S e W =
    record {
      at = λ i b. ⊎_elim (S.at i) (λ k. subst (λ (j : ℕ). event_sets_at plan (32 * c + j) ≡ sets) (eqb-true q i k) e) (or_cases (bit r i) (eqb q i) (sym (W.at i) ∙ b));
    }

-- ---- events that are alike
no_transition : (f : ℕ) → (f ≡ transition_code → ⊥) → is_transition (event_of f) ≡ false
no_transition f d =
    ⊎_elim
    (λ t.
    let c : f / 32 ≡ 1 = eqb-true (f / 32) 1 (and_first (eqb (f / 32) 1) (eqb (f % 32) 0) t) in
    let q : f % 32 ≡ 0 = eqb-true (f % 32) 0 (and_second (eqb (f / 32) 1) (eqb (f % 32) 0) t) in
    absurd (d (omega arith)))
    (λ t. t)
    (true_or_false (is_transition (event_of f)))

pub event_code_lem : (c q : ℕ) → q < 32 → event_at c q ≡ event_of (32 * c + q)
event_code_lem c q h =
    let a : c ≡ (32 * c + q) / 32 = omega arith in
    let b : q ≡ (32 * c + q) % 32 = omega arith in
    ap₂ event_at a b

-- those of a group that are in the same sets, without process transition
module _ {plan : List ℕ} {c q₀ left sets same : ℕ} (lc : c < 32) (l₀ : q₀ < 32) (N : NotTransition c left) (S : SameSets plan c sets same) where
  abbrev group : ℕ
  group = groups_at plan (32 * c + q₀)

  abbrev members : ℕ
  members = bit_and (bit_and left group) same

  member : (q : ℕ) → bit members q ≡ true → (bit left q ≡ true) × (bit group q ≡ true) × (bit same q ≡ true)
  member q b =
      let w = sym (bit_and_lem (bit_and left group) same q) ∙ b in
      let v = sym (bit_and_lem left group q) ∙ and_first (bit (bit_and left group) q) (bit same q) w in
      (and_first (bit left q) (bit group q) v, and_second (bit left q) (bit group q) v, and_second (bit (bit_and left group) q) (bit same q) w)

  pub all_alike : AllAlike plan c members
  all_alike =
      record {
        at = λ p G q i lq li b d.
            let x = member q b in
            let y = member i d in
            record {
              sets = S.at q x.2 ∙ sym (S.at i y.2);
              constrained = λ j lo hi kind. ap (constrains (p.rec j)) (sym (event_code_lem c q lq))
                  ∙ sym ((G.sound c q₀ q lc l₀ lq x.1).same j lo hi kind)
                  ∙ (G.sound c q₀ i lc l₀ li y.1).same j lo hi kind
                  ∙ ap (constrains (p.rec j)) (event_code_lem c i li);
              transition = no_transition (32 * c + q) (N.out q lq x.0) ∙ sym (no_transition (32 * c + i) (N.out i li y.0));
            };
      }

-- ---- the table of those that are alike
pub table_begin : (plan : List ℕ) → AlikeTable plan (replicate 1024 0)
table_begin plan =
    record {
      size = length-replicate {A = ℕ} 1024 0;
      at = λ p G c q i lc lq li b. absurd (clash b (ap (λ (v : ℕ). bit v i) (zeros 1024 (32 * c + q)) ∙ bit_zero i));
    }

pub shared_more : {c mask q : ℕ} {l l' : List ℕ} → c < 32 → q < 32 → bit mask q ≡ true → Shared c mask l l' → Shared c mask l (set l' (32 * c + q) mask)
shared_more {c} {mask} {q} {l} {l'} lc lq has S =
    record {
      table = λ plan M B. let A = S.table plan M B in record {
        size = simp length-set A.size;
        at = λ p G c' q' i lc' lq' li b. ⊎_elim
            (λ (e : 32 * c' + q' ≡ 32 * c + q).
            let v : get_or (set l' (32 * c + q) mask) (32 * c + q) 0 ≡ mask = get_or-set_same l' (32 * c + q) mask 0 (omega (arith, A.size)) in
            let z : c ≡ c' = omega arith in
            subst (λ (f : ℕ). Alike p plan f (32 * c' + i)) (sym e)
            (subst (λ (d : ℕ). Alike p plan (32 * c + q) (32 * d + i)) z
            (M.at p G q i lq li has (sym (ap (λ (m : ℕ). bit m i) (ap (λ (f : ℕ). get_or (set l' (32 * c + q) mask) f 0) e ∙ v)) ∙ b))))
            (λ (d : 32 * c' + q' ≡ 32 * c + q → ⊥). A.at p G c' q' i lc' lq' li (sym (ap (λ (m : ℕ). bit m i) (get_or-set_other l' (32 * c + q) (32 * c' + q') mask 0 d)) ∙ b))
            (split_eq (32 * c' + q') (32 * c + q));
      };
    }

-- what is put above the sets leaves who is alike by them
pub alike_kept : {p : Policy} {old new : List ℕ} {e f : ℕ} → Kept alike_start old new → e < event_entries → f < event_entries → Alike p old e f → Alike p new e f
alike_kept {e = e} {f} K he hf B =
    record { sets = K (event_sets_start + e) (omega arith) ∙ B.sets ∙ sym (K (event_sets_start + f) (omega arith)); constrained = B.constrained; transition = B.transition }

-- what is put above the groups leaves them
pub grouped_kept : {p : Policy} {old new : List ℕ} → Kept roles_start old new → Grouped p old → Grouped p new
grouped_kept K G = record { sound = λ c q i lc lq li b. G.sound c q i lc lq li (subst (λ (v : ℕ). bit v i ≡ true) (K (groups_start + (32 * c + q)) (omega arith)) b) }

-- the table is put into the plan, and read there
pub alike_put : {old plan alike : List ℕ} → AlikeTable old alike → Filled (λ i v. v ≡ get_or alike i 0) old plan alike_start 0 event_entries → AlikePut old plan
alike_put {old} {plan} {alike} A F =
    record {
      alike = record {
        at = λ p G c q i lc lq li b. alike_kept (λ k h. F.below k (omega arith)) (omega arith) (omega arith)
            (A.at p (grouped_kept (λ k h. sym (F.below k (omega arith))) G) c q i lc lq li (subst (λ (v : ℕ). bit v i ≡ true) (F.here (32 * c + q) (omega arith) (omega arith)) b));
      };
      below = λ i h. F.below i (omega arith);
    }

pub table_copy : {plan l : List ℕ} → AlikePlan plan → AlikeCopy plan l → AlikeTable plan l
table_copy A C =
    record { size = C.size; at = λ p G c q i lc lq li b. A.at p G c q i lc lq li (subst (λ (v : ℕ). bit v i ≡ true) (C.same (32 * c + q) (omega arith)) b) }

-- the same where what is put is above the table too
pub alikes_kept : {old new : List ℕ} → Kept counted_start old new → AlikePlan old → AlikePlan new
alikes_kept K A =
    record {
      at = λ p G c q i lc lq li b. alike_kept (λ k h. K k (omega arith)) (omega arith) (omega arith)
          (A.at p (grouped_kept (λ k h. sym (K k (omega arith))) G) c q i lc lq li (subst (λ (v : ℕ). bit v i ≡ true) (K (alike_start + (32 * c + q)) (omega arith)) b));
    }

-- ---- the lowest of those that are alike
pub record Sorting (alike : List ℕ) (class mask left r : ℕ) : Type 0 where
  pub among : (q : ℕ) → bit r q ≡ true → bit mask q ≡ true
  pub rest : (q : ℕ) → bit left q ≡ true → bit mask q ≡ true
  pub each : (q : ℕ) → bit mask q ≡ true → (bit left q ≡ true) ⊎ Led alike class r q

pub sorting_begin : (alike : List ℕ) (class mask : ℕ) → Sorting alike class mask mask 0
sorting_begin alike class mask = record { among = λ q h. absurd (clash h (bit_zero q)); rest = λ q h. h; each = λ q h. inl h }

pub sorting_end : {alike : List ℕ} {class mask left r : ℕ} → left ≡ 0 → Sorting alike class mask left r → Leading alike class mask r
sorting_end {left = left} z S =
    record { among = S.among; each = λ q h. ⊎_elim (λ b. absurd (clash b (ap (λ (v : ℕ). bit v q) z ∙ bit_zero q))) (λ l. l) (S.each q h) }

module _ {alike : List ℕ} {class mask left r : ℕ} (S : Sorting alike class mask left r) {q₀ r' m left' : ℕ} (L : Lowest left q₀) (R : With r q₀ r') (M : With (get_or alike (32 * class + q₀) 0) q₀ m)
    (W : Without left m left') where
  own : bit r' q₀ ≡ true
  own = R.at q₀ ∙ or_true (bit r q₀) (eqb q₀ q₀) (eq-eqb q₀ q₀ refl)

  taken : (q : ℕ) → bit left q ≡ true → bit m q ≡ true → Led alike class r' q
  taken q b h =
      record {
        perm = q₀;
        low = ⊎_elim (λ k. k) (λ (k : q < q₀). absurd (L.before q k b)) (split_le q₀ q);
        leading = own;
        like = ⊎_elim inr (λ e. inl (eqb-true q₀ q e)) (or_cases (bit (get_or alike (32 * class + q₀) 0) q) (eqb q₀ q) (sym (M.at q) ∙ h));
      }

  kept : (q : ℕ) → Led alike class r q → Led alike class r' q
  kept q D = record { perm = D.perm; low = D.low; leading = R.at D.perm ∙ or_left (bit r D.perm) (eqb q₀ D.perm) D.leading; like = D.like }

  pub sorting_more : Sorting alike class mask left' r'
  sorting_more =
      record {
        among = λ q h. ⊎_elim (S.among q) (λ e. S.rest q (subst (λ (i : ℕ). bit left i ≡ true) (eqb-true q₀ q e) L.has)) (or_cases (bit r q) (eqb q₀ q) (sym (R.at q) ∙ h));
        rest = λ q h. S.rest q (and_first (bit left q) (not (bit m q)) (sym (W.at q) ∙ h));
        each = λ q h. ⊎_elim
            (λ b. ⊎_elim (λ (k : bit m q ≡ true). inr (taken q b k)) (λ (k : bit m q ≡ false). inl (W.at q ∙ and_true (bit left q) (not (bit m q)) b (ap not k))) (true_or_false (bit m q)))
            (λ D. inr (kept q D)) (S.each q h);
      }

-- ---- the leads of an entry
module _ (p : Policy) (old plan alike : List ℕ) (G : Grouped p old) (A : AlikeTable old alike) (below : Kept leads_start old plan) where
  same_event : (e f : ℕ) → e ≡ f → Alike p plan e f
  same_event e f q = record { sets = ap (event_sets_at plan) q; constrained = λ j a b k. ap (λ (i : ℕ). constrains (p.rec j) (event_of i)) q; transition = ap (λ (i : ℕ). is_transition (event_of i)) q }

  -- one way's leads are among those of both
  led_by : (c mask some leads q : ℕ) → c < 32 → q < 32 → ((i : ℕ) → bit some i ≡ true → bit leads i ≡ true) → Leading alike c mask some → bit mask q ≡ true → Leader p plan c mask leads q
  led_by c mask some leads q lc lq into L b =
      let D = L.each q b in
      let l = D.low in
      record {
        perm = D.perm;
        low = D.low;
        bears = L.among D.perm D.leading;
        leading = into D.perm D.leading;
        alike = ⊎_elim (λ e. same_event (32 * c + D.perm) (32 * c + q) (ap (λ (i : ℕ). 32 * c + i) e))
            (λ k. alike_kept (λ i h. below i (omega arith)) (omega arith) (omega arith) (A.at p G c D.perm q lc (omega arith) lq k)) D.like;
      }

  pub leads_of : (j : ℕ) → j < block_entries → key_at old j / 4096 < 32 → EntryLeads alike old j (leads_at plan j) → Leads p plan j
  leads_of j h small E =
      let key : key_at plan j ≡ key_at old j = below (keys_start + j) (omega arith) in
      let writes : writes_at plan j ≡ writes_at old j = below (writes_start + j) (omega arith) in
      let reads : reads_at plan j ≡ reads_at old j = below (reads_start + j) (omega arith) in
      let class : key_at old j / 4096 % 32 ≡ key_at plan j / 4096 = omega arith in
      let O : Leading alike (key_at plan j / 4096) (writes_at plan j) E.writes = subst (λ (c : ℕ). Leading alike c (writes_at plan j) E.writes) class (subst (λ (m : ℕ). Leading alike (key_at old j / 4096 % 32) m E.writes) (sym writes) E.writes_lead) in
      let I : Leading alike (key_at plan j / 4096) (reads_at plan j) E.reads = subst (λ (c : ℕ). Leading alike c (reads_at plan j) E.reads) class (subst (λ (m : ℕ). Leading alike (key_at old j / 4096 % 32) m E.reads) (sym reads) E.reads_lead) in
      let bits : (i : ℕ) → bit (leads_at plan j) i ≡ (bit E.writes i || bit E.reads i) = λ i. ap (λ (v : ℕ). bit v i) E.both ∙ bit_or_lem E.writes E.reads i in
      let lc : key_at plan j / 4096 < 32 = omega arith in
      record {
        among = λ q b. bit_or_lem (writes_at plan j) (reads_at plan j) q
            ∙ ⊎_elim (λ d. or_left (bit (writes_at plan j) q) (bit (reads_at plan j) q) (O.among q d)) (λ d. or_true (bit (writes_at plan j) q) (bit (reads_at plan j) q) (I.among q d))
            (or_cases (bit E.writes q) (bit E.reads q) (sym (bits q) ∙ b));
        writes = λ q lq b. led_by (key_at plan j / 4096) (writes_at plan j) E.writes (leads_at plan j) q lc lq (λ i d. bits i ∙ or_left (bit E.writes i) (bit E.reads i) d) O b;
        reads = λ q lq b. led_by (key_at plan j / 4096) (reads_at plan j) E.reads (leads_at plan j) q lc lq (λ i d. bits i ∙ or_true (bit E.writes i) (bit E.reads i) d) I b;
      }

-- the next entry, whose key and masks are those of the list before
pub entry_more : {alike old new : List ℕ} {j writes reads : ℕ} → Filled (λ i v. EntryLeads alike old i v) old new leads_start 0 j → j < block_entries
    → Leading alike (key_at new j / 4096 % 32) (writes_at new j) writes → Leading alike (key_at new j / 4096 % 32) (reads_at new j) reads → EntryLeads alike old j (bit_or writes reads)
entry_more {alike} {old} {new} {j} {writes} {reads} F h O I =
    let key : key_at new j ≡ key_at old j = F.below (keys_start + j) (omega arith) in
    record {
      writes = writes;
      reads = reads;
      writes_lead = subst (λ (k : ℕ). Leading alike (k / 4096 % 32) (writes_at old j) writes) key (subst (λ (m : ℕ). Leading alike (key_at new j / 4096 % 32) m writes) (F.below (writes_start + j) (omega arith)) O);
      reads_lead = subst (λ (k : ℕ). Leading alike (k / 4096 % 32) (reads_at old j) reads) key (subst (λ (m : ℕ). Leading alike (key_at new j / 4096 % 32) m reads) (F.below (reads_start + j) (omega arith)) I);
      both = refl;
    }

pub leads_put : {old plan alike : List ℕ} {types n : ℕ} → AlikeTable old alike → n ≤ block_entries → n ≡ first_at old (types + 1)
    → Filled (λ j v. EntryLeads alike old j v) old plan leads_start 0 n → LeadsPut types old plan
leads_put {old} {plan} {alike} A top e F =
    record {
      leads = λ p G j h small. leads_of p old plan alike G A (λ i k. F.below i (omega arith)) j (omega arith) small (F.here j (omega arith) (omega arith));
      below = λ i h. F.below i (omega arith);
    }

-- ---- the block of each type is among the entries
pub first_rising : {p : Policy} {plan : List ℕ} → OfferBlocks p plan → (d t : ℕ) → 1 ≤ t → t + d ≤ p.counts.types → first_at plan (t + 1) ≤ first_at plan (t + d + 1)
first_rising {p} {plan} B zero t lo hi = let e : first_at plan (t + 0 + 1) ≡ first_at plan (t + 1) = ap (λ (i : ℕ). first_at plan (i + 1)) (let z : t + 0 ≡ t = omega arith in z) in omega arith
first_rising {p} {plan} B (suc d) t lo hi =
    let a : first_at plan (t + 1) ≤ first_at plan (t + d + 1) = first_rising B d t lo (omega arith) in
    let b : first_at plan (t + d + 1) ≤ first_at plan (t + d + 1 + 1) = (B.blocks (t + d + 1) (record { low = omega arith; high = omega arith })).order in
    let e : first_at plan (t + suc d + 1) ≡ first_at plan (t + d + 1 + 1) = ap (first_at plan) (let z : t + suc d + 1 ≡ t + d + 1 + 1 = omega arith in z) in
    omega arith

pub last_first : {p : Policy} {plan : List ℕ} → OfferBlocks p plan → (t : ℕ) → Within 1 p.counts.types t → first_at plan (t + 1) ≤ first_at plan (p.counts.types + 1)
last_first {p} {plan} B t w =
    let d : ℕ = p.counts.types - t in
    let e : t + d ≡ p.counts.types = (let h = w.high in omega arith) in
    subst (λ (i : ℕ). first_at plan (t + 1) ≤ first_at plan (i + 1)) e (first_rising B d t w.low (omega arith))
