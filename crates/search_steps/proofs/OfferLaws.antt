-- From the nearest step of a block to the next step that flows, and from an entry to whether it flows.
use Prim.Native.Nat.{ℕ, ◌+◌, ◌*◌, ◌/◌, ◌%◌, ◌≤◌, ◌<◌}
use mathlib.Core.Bool.{Bool, true, false, ◌&&◌, ◌||◌}
use mathlib.Core.List.{List}
use mathlib.Core.Logic.{◌⊎◌, inl, inr, ⊎_elim}
use mathlib.Core.Path.{◌≡◌, sym, ap, ap₂, subst, ◌∙◌}
use native.Mathlib.Omega.{arith}
use lib.Bits.{bit_or}
use lib.ListN.{get_or}
use Rattle.base.specs.Bits.{bit}
use Rattle.base.specs.Ranges.{Within}
use Rattle.base.proofs.Numbers.{split_le}
use Rattle.base.proofs.BitLaws.{bit_and_lem, bit_or_lem, bit_zero}
use Rattle.base.proofs.BoolLaws.{or_cases, or_left, or_true, and_true, and_first, and_second, true_or_false, clash}
use Rattle.policy_image.specs.declared.counts.Counts.{Counts}
use Rattle.policy_image.specs.Policy.{Policy, policy_of}
use Rattle.policy_check.specs.Inner.Sound.{Sound}
use Rattle.context.specs.declared.Context.{Context}
use Rattle.context.specs.declared.Event.{Event}
use Rattle.context.specs.Codes.{event_at, event_of, is_transition}
use Rattle.context.specs.Ranges.{ContextInRange}
use Rattle.relations.specs.Relations.{α, write_like, read_like}
use Rattle.constraints.specs.Constraints.{constraints_hold}
use Rattle.access.specs.Authorization.{flow}
use Rattle.access.proofs.RoleLaws.{may_become, rule_free, rule_asked}
use Rattle.goal_model.specs.Images.{meetsρμ}
use Rattle.plan.specs.Inner.Plan.{Ready, special, EntryOf, OfferBlock, Alike, ruled, Leader, Leads, PolicyPlan, Planned}
use Rattle.plan.specs.Inner.Regions.{block_entries, event_entries}
use Rattle.plan.specs.Inner.Entries.{counted_at, special_at, first_at, key_at, writes_at, reads_at, type_special_at, leads_at}
use Rattle.search_steps.specs.declared.nearest.Asker.{Asker}
use Rattle.search_steps.specs.declared.nearest.Offer.{Offer}
use Rattle.search_steps.specs.Inner.Nearest.{step_of, closed, PassedOver, PassedAt, StepBlock, Nearest, NearestOf, StepBlockOf}
use Rattle.search_steps.specs.Inner.Steps.{special_by, Offering, NextOffer, FirstOffer}
use Rattle.relations.proofs.CountedLaws.{gamma_counted}
use Rattle.search_steps.proofs.FlowLaws.{alpha_defined, defined_class, flow_class, flow_held, flow_by_lem, plain_conditions, conditions}
use Rattle.search_steps.proofs.NearestLaws.{perm_of, all_passed, none_open}
use Rattle.search_steps.proofs.AlikeLaws.{special_same, conditions_same}

module _ {s : List ℕ} {n : Counts} {plan : List ℕ} (R : Ready s n) (P : Planned s n plan) where
  abbrev p : Policy
  p = ruled s plan

  pub type_in : {x : Context} → ContextInRange n x → Within 1 p.counts.types x.ty
  type_in {x} h = subst (λ (k : Counts). Within 1 k.types x.ty) R.same h.ty

  pub type_few : {x : Context} → ContextInRange n x → x.ty ≤ 255
  type_few h = let w = (type_in h).high in omega (arith, R.sound.range.types.high)

  block_of : {x : Context} → ContextInRange n x → OfferBlock p x.ty plan (first_at plan x.ty) (first_at plan (x.ty + 1))
  block_of {x} h = P.index.blocks x.ty (type_in h)

  pub block_top : {x : Context} → ContextInRange n x → first_at plan (x.ty + 1) ≤ block_entries
  block_top {x} h = P.index.tops x.ty (type_in h)

  pub block_order : {x : Context} → ContextInRange n x → first_at plan x.ty ≤ first_at plan (x.ty + 1)
  block_order h = (block_of h).order

  pub block_law : {x : Context} → ContextInRange n x → StepBlock plan (first_at plan x.ty) (first_at plan (x.ty + 1))
  block_law {x} h =
      record {
        size = omega (arith, P.size);
        high = block_top h;
        rising = (block_of h).rising;
        small = λ j l k. omega (arith, ((block_of h).ranged j l k).class.high);
        others = λ j l k. omega (arith, ((block_of h).ranged j l k).other.high, R.sound.range.types.high);
      }

  pub block_of_type : {x : Context} → ContextInRange n x → StepBlockOf plan x.ty
  block_of_type {x} h =
      record {
        type = let z = type_few h in omega arith;
        order = block_order h;
        block = block_law h;
        type_special = P.type_special x.ty (type_in h);
        among = λ j q l k b. (P.leads x.ty j (type_in h) l k).among q b;
      }

  module _ {x : Context} (h : ContextInRange n x) where
    h₀ : ContextInRange n x
    h₀ = h

    abbrev lo : ℕ
    lo = first_at plan x.ty

    abbrev hi : ℕ
    hi = first_at plan (x.ty + 1)

    -- an entry of x's block, and a permission that it bears
    module _ (j q : ℕ) (l : lo ≤ j) (k : j < hi) (lq : q < 32) (b : bit (leads_at plan j) q ≡ true) where
      abbrev c : ℕ
      c = key_at plan j / 4096

      abbrev o : ℕ
      o = key_at plan j % 4096

      bears : bit (bit_or (writes_at plan j) (reads_at plan j)) q ≡ true
      bears = (P.leads x.ty j (type_in h) l k).among q b

      defined : Within 1 p.counts.classes c
      defined =
          ⊎_elim
          (λ a. defined_class (policy_of s) (event_at c q) R.sound.fields (sym (gamma_counted (counted_at plan) (policy_of s) (event_at c q)) ∙ alpha_defined p (event_at c q) x.ty o (and_first (α p x.ty o (event_at c q)) (write_like p (event_at c q)) (sym ((block_of h).writes j q l k lq) ∙ a))))
          (λ a. defined_class (policy_of s) (event_at c q) R.sound.fields (sym (gamma_counted (counted_at plan) (policy_of s) (event_at c q)) ∙ alpha_defined p (event_at c q) o x.ty (and_first (α p o x.ty (event_at c q)) (read_like p (event_at c q)) (sym ((block_of h).reads j q l k lq) ∙ a))))
          (or_cases (bit (writes_at plan j) q) (bit (reads_at plan j) q) (sym (bit_or_lem (writes_at plan j) (reads_at plan j) q) ∙ bears))

      offering_at : (e o' : ℕ) → c ≡ e / 32 → q ≡ e % 32 → o ≡ o' → Offering p plan x.ty e o' j
      offering_at e o' qc qq qo =
          let w = defined in
          let wl = w.low in
          let wh = w.high in
          record {
            within = omega (arith, block_top h);
            event = record { low = omega arith; high = omega arith };
            other = subst (Within 1 p.counts.types) qo ((block_of h).ranged j l k).other;
            writes = subst (λ (i : ℕ). bit (writes_at plan j) i ≡ (α p x.ty o' (event_of e) && write_like p (event_of e))) qq ((block_of h).writes j q l k lq ∙ same);
            reads = subst (λ (i : ℕ). bit (reads_at plan j) i ≡ (α p o' x.ty (event_of e) && read_like p (event_of e))) qq ((block_of h).reads j q l k lq ∙ same');
            some = subst (λ (i : ℕ). bit (bit_or (writes_at plan j) (reads_at plan j)) i ≡ true) qq bears;
          }
        where
          same : (α p x.ty o (event_at c q) && write_like p (event_at c q)) ≡ (α p x.ty o' (event_of e) && write_like p (event_of e))
          same = λ i. α p x.ty (qo i) (event_at (qc i) (qq i)) && write_like p (event_at (qc i) (qq i))

          same' : (α p o x.ty (event_at c q) && read_like p (event_at c q)) ≡ (α p o' x.ty (event_of e) && read_like p (event_of e))
          same' = λ i. α p (qo i) x.ty (event_at (qc i) (qq i)) && read_like p (event_at (qc i) (qq i))

    -- a flow, and the leading permission of its entry that stands for it
    record LedFlow (i : ℕ) (y : Context) : Type 0 where
      entry : ℕ
      low : lo ≤ entry
      high : entry < hi
      key : key_at plan entry ≡ 4096 * (i / 32) + y.ty
      perm : ℕ
      under : perm ≤ i % 32
      leading : bit (leads_at plan entry) perm ≡ true
      alike : Alike p plan (32 * (i / 32) + perm) i
      flows : flow p (event_of (32 * (i / 32) + perm)) x y ≡ true

    module _ (i : ℕ) (y : Context) (r : ContextInRange p.counts y) (t : flow p (event_of i) x y ≡ true) where
      small : i / 32 < 32
      small = let w = (flow_class {s = s} (counted_at plan) (event_of i) x y R.sound t).high in omega (arith, R.sound.range.classes.high)

      few : y.ty < 4096
      few = let w = r.ty.high in omega (arith, R.sound.range.types.high)

      hx : meetsρμ p x ≡ true
      hx = (flow_held p (event_of i) x y t).0

      hy : meetsρμ p y ≡ true
      hy = (flow_held p (event_of i) x y t).1

      -- what types allow by an event, each way
      abbrev out_way : ℕ → Bool
      out_way e = α p x.ty y.ty (event_of e) && write_like p (event_of e)

      abbrev in_way : ℕ → Bool
      in_way e = α p y.ty x.ty (event_of e) && read_like p (event_of e)

      -- the permission q of the entry's class, as an event
      module _ (E : EntryOf plan lo hi (4096 * (i / 32) + y.ty)) where
        class_is : key_at plan E.place / 4096 ≡ i / 32
        class_is = let f = few in omega (arith, E.key)

        other_is : key_at plan E.place % 4096 ≡ y.ty
        other_is = let f = few in omega (arith, E.key)

        event_is : (q : ℕ) → q < 32 → event_at (key_at plan E.place / 4096) q ≡ event_of (32 * (i / 32) + q)
        event_is q lq =
            let a : key_at plan E.place / 4096 ≡ (32 * (i / 32) + q) / 32 = (let c = class_is in omega arith) in
            let b : q ≡ (32 * (i / 32) + q) % 32 = omega arith in
            ap₂ event_at a b

        writes_is : (q : ℕ) → q < 32 → bit (writes_at plan E.place) q ≡ out_way (32 * (i / 32) + q)
        writes_is q lq = (block_of h).writes E.place q E.low E.high lq ∙ (λ z. α p x.ty (other_is z) (event_is q lq z) && write_like p (event_is q lq z))

        reads_is : (q : ℕ) → q < 32 → bit (reads_at plan E.place) q ≡ in_way (32 * (i / 32) + q)
        reads_is q lq = (block_of h).reads E.place q E.low E.high lq ∙ (λ z. α p (other_is z) x.ty (event_is q lq z) && read_like p (event_is q lq z))

        own_code : 32 * (i / 32) + i % 32 ≡ i
        own_code = omega arith

        code_at : (q : ℕ) → 32 * (key_at plan E.place / 4096) + q ≡ 32 * (i / 32) + q
        code_at q = ap (λ (k : ℕ). 32 * k + q) class_is

        like : {mask : ℕ} → (L : Leader p plan (key_at plan E.place / 4096) mask (leads_at plan E.place) (i % 32)) → Alike p plan (32 * (i / 32) + L.perm) i
        like L = subst (Alike p plan (32 * (i / 32) + L.perm)) (code_at (i % 32) ∙ own_code) (subst (λ (k : ℕ). Alike p plan k (32 * (key_at plan E.place / 4096) + i % 32)) (code_at L.perm) L.alike)

        -- by one way: w says what types allow by an event, k what its conditions are, and the mask has w for the class
        by_way : (w k : ℕ → Bool) {mask : ℕ} → ((q : ℕ) → q < 32 → bit mask q ≡ w (32 * (i / 32) + q))
            → ((q : ℕ) → q < 32 → bit mask q ≡ true → Leader p plan (key_at plan E.place / 4096) mask (leads_at plan E.place) q)
            → ((e : ℕ) → Alike p plan e i → k e ≡ k i) → ((e : ℕ) → (w e && k e) ≡ true → flow p (event_of e) x y ≡ true) → (w i && k i) ≡ true → LedFlow i y
        by_way w k is lead same flows h =
            let L = lead (i % 32) (omega arith) (is (i % 32) (omega arith) ∙ ap w own_code ∙ and_first (w i) (k i) h) in
            let lq : L.perm < 32 = (let z = L.low in omega arith) in
            let e : ℕ = 32 * (i / 32) + L.perm in
            record {
              entry = E.place;
              low = E.low;
              high = E.high;
              key = E.key;
              perm = L.perm;
              under = L.low;
              leading = L.leading;
              alike = like L;
              flows = flows e (and_true (w e) (k e) (sym (is L.perm lq) ∙ L.bears) (same e (like L) ∙ and_second (w i) (k i) h));
            }

      flow_led : LedFlow i y
      flow_led =
          ⊎_elim
          (λ a.
          let E = entry (inl (and_first (α p x.ty y.ty (event_of i)) (write_like p (event_of i)) (and_first (out_way i) (out i) a))) in
          by_way E out_way out (writes_is E) (leads E).writes (λ _ A. conditions_same A x y) (λ e k. by e ∙ or_left (out_way e && out e) (in_way e && back e) k) a)
          (λ a.
          let E = entry (inr (and_first (α p y.ty x.ty (event_of i)) (read_like p (event_of i)) (and_first (in_way i) (back i) a))) in
          by_way E in_way back (reads_is E) (leads E).reads (λ _ A. conditions_same A y x) (λ e k. by e ∙ or_true (out_way e && out e) (in_way e && back e) k) a)
          (or_cases (out_way i && out i) (in_way i && back i) (sym (by i) ∙ t))
        where
          out : ℕ → Bool
          out e = conditions p (event_of e) x y

          back : ℕ → Bool
          back e = conditions p (event_of e) y x

          by : (e : ℕ) → flow p (event_of e) x y ≡ ((out_way e && out e) || (in_way e && back e))
          by e = flow_by_lem p (event_of e) x y hx hy

          entry : (α p x.ty y.ty (event_of i) ≡ true) ⊎ (α p y.ty x.ty (event_of i) ≡ true) → EntryOf plan lo hi (4096 * (i / 32) + y.ty)
          entry = (block_of h).whole (i / 32) y.ty (i % 32) small few (omega arith)

          leads : (E : EntryOf plan lo hi (4096 * (i / 32) + y.ty)) → Leads p plan E.place
          leads E = P.leads x.ty E.place (type_in h) E.low E.high

      -- what need not be asked of the one need not be asked of the other
      passed_like : (swept : List ℕ) (a : Asker) (e o : ℕ) → e < 1024 → Alike p plan e i → PassedOver plan swept a e o → PassedOver plan swept a i o
      passed_like swept a e o le A (inl c) = inl (subst (λ (k : ℕ). closed a k (get_or swept o 0) ≡ true) A.sets c)
      passed_like swept a e o le A (inr c) =
          inr (c.0, P.policy.tables.special_at_lem (i / 32) (i % 32) small ∙ sym (special_same A) ∙ sym (P.policy.tables.special_at_lem (e / 32) (e % 32) (omega arith)) ∙ c.1)

    pub next_law : {swept : List ℕ} {a : Asker} {from : ℕ} {r : Offer} → Nearest plan swept a lo hi from r → NextOffer p plan swept a x from r
    next_law {swept} {a} {from} {r} N =
        record {
          low = N.low;
          high = N.high;
          none = λ i y w b d t.
              let z : y.ty < 4096 = few i y w t in
              let c : i / 32 < 32 = small i y w t in
              let F = flow_led i y w t in
              let u = F.under in
              let key = F.key in
              let e : ℕ = 32 * (i / 32) + F.perm in
              let is : step_of plan F.entry F.perm ≡ 4096 * (32 * (i / 32) + F.perm) + y.ty = omega arith in
              let code : 32 * (key_at plan F.entry / 4096) + F.perm ≡ 32 * (i / 32) + F.perm = omega arith in
              let o : key_at plan F.entry % 4096 ≡ y.ty = omega arith in
              ⊎_elim
              (λ (k : from ≤ 4096 * (32 * (i / 32) + F.perm) + y.ty).
              ⊎_elim (λ (g : r.step ≤ step_of plan F.entry F.perm). absurd (omega arith))
              (λ g. inl (passed_like i y w t swept a e y.ty (omega arith) F.alike (subst (λ (v : ℕ). PassedOver plan swept a e v) o (subst (λ (v : ℕ). PassedOver plan swept a v (key_at plan F.entry % 4096)) code g))))
              (N.least F.entry F.perm F.low F.high (omega arith) F.leading (omega arith)))
              (λ (k : 4096 * (32 * (i / 32) + F.perm) + y.ty < from). inr (record { event = e; before = k; sets = F.alike.sets; flows = F.flows }))
              (split_le from (4096 * (32 * (i / 32) + F.perm) + y.ty));
          unclosed = N.unclosed;
          offers = λ g.
              let O = (N.resumes g).offered in
              let q = O.by.small in
              let e = O.by.is in
              offering_at r.entry O.by.perm O.low O.high O.by.small O.by.bears (r.step / 4096) (r.step % 4096) (omega arith) (omega arith) (omega arith);
          resumes = N.resumes;
        }

    pub first_law : {swept : List ℕ} {a : Asker} {r : Offer} → Nearest plan swept a lo hi 0 r → FirstOffer p plan swept a x r
    first_law N = record { next = next_law N; shut = all_passed (block_law h₀) N }

-- only special steps are left to ask, and no entry has one
pub none_special : {plan swept : List ℕ} {t : ℕ} {a : Asker} {start entry : ℕ} → StepBlockOf plan t → a.spent ≡ true → type_special_at plan t ≡ 0
    → NearestOf plan swept a t 0 (record { start = start; entry = entry; step = 4194304 })
none_special {plan} {swept} {t} {a} {start} {entry} B spent z₀ = none_open start entry (record { each = each })
  where
    unasked : (j q : ℕ) → q < 32 → key_at plan j / 4096 % 32 ≡ (32 * (key_at plan j / 4096) + q) / 32 → bit (special_at plan (key_at plan j / 4096 % 32)) q ≡ false
        → (a.spent ≡ true) × (bit (special_at plan ((32 * (key_at plan j / 4096) + q) / 32)) ((32 * (key_at plan j / 4096) + q) % 32) ≡ false)
    unasked j q lq c f = (spent, ap₂ (λ (u v : ℕ). bit (special_at plan u) v) (sym c) (sym (perm_of (key_at plan j / 4096) q lq)) ∙ f)

    each : (j q : ℕ) → first_at plan t ≤ j → j < first_at plan (t + 1) → q < 32 → bit (leads_at plan j) q ≡ true → PassedAt plan swept a j q
    each j q l k lq b =
        let small = B.block.small j l k in
        let class : key_at plan j / 4096 % 32 ≡ (32 * (key_at plan j / 4096) + q) / 32 = omega arith in
        ⊎_elim
        (λ (t : bit (special_at plan (key_at plan j / 4096 % 32)) q ≡ true).
        absurd (clash (B.type_special.at j q l k
        (bit_and_lem (bit_or (writes_at plan j) (reads_at plan j)) (special_at plan (key_at plan j / 4096 % 32)) q
        ∙ and_true (bit (bit_or (writes_at plan j) (reads_at plan j)) q) (bit (special_at plan (key_at plan j / 4096 % 32)) q) (B.among j q l k b) t))
        (ap (λ (v : ℕ). bit v q) z₀ ∙ bit_zero q)))
        (λ (f : bit (special_at plan (key_at plan j / 4096 % 32)) q ≡ false). inr (unasked j q lq class f))
        (true_or_false (bit (special_at plan (key_at plan j / 4096 % 32)) q))

-- what the plan says of special events the policy says
pub special_is : {p : Policy} {n : Counts} {plan : List ℕ} {e : ℕ} → PolicyPlan p n plan → e < event_entries → special_by plan e ≡ special p (event_of e)
special_is {e = e} P h = P.tables.special_at_lem (e / 32) (e % 32) (omega arith)

-- ---- whether a step that an entry offers flows
yes_then : (a b c d : Bool) → c ≡ true → d ≡ true → (a || b) ≡ true → ((a && c) || (b && d)) ≡ true
yes_then true b c d hc hd h = rw hc
yes_then false true c d hc hd h = hd
yes_then false false c d hc hd h = h

module _ {p : Policy} {plan : List ℕ} {e entry : ℕ} (x y : Context) (hx : meetsρμ p x ≡ true) (hy : meetsρμ p y ≡ true) (O : Offering p plan x.ty e y.ty entry) where
  pub flow_of : flow p (event_of e) x y
      ≡ ((bit (writes_at plan entry) (e % 32) && conditions p (event_of e) x y) || (bit (reads_at plan entry) (e % 32) && conditions p (event_of e) y x))
  flow_of =
      flow_by_lem p (event_of e) x y hx hy
      ∙ ap₂ (λ (a b : Bool). (a && conditions p (event_of e) x y) || (b && conditions p (event_of e) y x)) (sym O.writes) (sym O.reads)

  -- a step that is not special flows
  pub plain_flow : special p (event_of e) ≡ false → flow p (event_of e) x y ≡ true
  plain_flow n =
      flow_of
      ∙ yes_then (bit (writes_at plan entry) (e % 32)) (bit (reads_at plan entry) (e % 32)) (conditions p (event_of e) x y) (conditions p (event_of e) y x) (plain_conditions p (event_of e) n x y) (plain_conditions p (event_of e) n y x)
      (sym (bit_or_lem (writes_at plan entry) (reads_at plan entry) (e % 32)) ∙ O.some)

-- ---- the conditions, one by one
module _ (p : Policy) (x y : Context) (e : ℕ) (m : Bool) {d : Event} (q : d ≡ event_of e) (hm : m ≡ true) (k : Bool) (hk : k ≡ constraints_hold p d x y) where
  pub not_held : k ≡ false → false ≡ (m && conditions p (event_of e) x y)
  not_held h =
      let z : constraints_hold p (event_of e) x y ≡ false = ap (λ (i : Event). constraints_hold p i x y) (sym q) ∙ sym hk ∙ h in
      rw (hm, z)

  module _ (h : k ≡ true) (t : Bool) (ht : t ≡ is_transition d) where
    holds : constraints_hold p (event_of e) x y ≡ true
    holds = ap (λ (i : Event). constraints_hold p i x y) (sym q) ∙ sym hk ∙ h

    is : is_transition (event_of e) ≡ t
    is = ap is_transition (sym q) ∙ sym ht

    pub no_rule : t ≡ false → true ≡ (m && conditions p (event_of e) x y)
    no_rule n = sym (ap₂ ◌&&◌ hm (ap₂ ◌&&◌ holds (rule_free p (event_of e) x y (is ∙ n))))

    pub by_rule : {r : Bool} → t ≡ true → r ≡ may_become p x y → r ≡ (m && conditions p (event_of e) x y)
    by_rule n hr = hr ∙ sym (ap₂ ◌&&◌ hm (ap₂ ◌&&◌ holds (rule_asked p (event_of e) x y (is ∙ n))))

pub event_few : {s : List ℕ} {plan : List ℕ} {t e o entry : ℕ} → Sound s → Offering (ruled s plan) plan t e o entry → e < event_entries
event_few S O = omega (arith, O.event.high, S.range.classes.high)

module _ {p : Policy} {plan : List ℕ} {e entry : ℕ} (x y : Context) (hx : meetsρμ p x ≡ true) (hy : meetsρμ p y ≡ true) (O : Offering p plan x.ty e y.ty entry) where
  module _ {m r : Bool} (hm : m ≡ bit (writes_at plan entry) (e % 32)) (h : r ≡ (m && conditions p (event_of e) x y)) where
    one_way : r ≡ (bit (writes_at plan entry) (e % 32) && conditions p (event_of e) x y)
    one_way = h ∙ ap (λ (b : Bool). b && conditions p (event_of e) x y) hm

    pub ways_yes : r ≡ true → true ≡ flow p (event_of e) x y
    ways_yes t = sym (flow_of x y hx hy O ∙ or_left (bit (writes_at plan entry) (e % 32) && conditions p (event_of e) x y) (bit (reads_at plan entry) (e % 32) && conditions p (event_of e) y x) (sym one_way ∙ t))

    pub ways_rest : r ≡ false → {m' r' : Bool} → m' ≡ bit (reads_at plan entry) (e % 32) → r' ≡ (m' && conditions p (event_of e) y x) → r' ≡ flow p (event_of e) x y
    ways_rest f hm' h' =
        h' ∙ ap (λ (b : Bool). b && conditions p (event_of e) y x) hm'
        ∙ sym (flow_of x y hx hy O ∙ ap (λ (z : Bool). z || (bit (reads_at plan entry) (e % 32) && conditions p (event_of e) y x)) (sym one_way ∙ f))
