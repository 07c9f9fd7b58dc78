-- The part of a plan that is made of two contexts: what a record that is put adds to the sets, and that the two records give each context its
-- set, and no other.
use Prim.Native.Nat.{ℕ, ◌+◌, ◌-◌, ◌≤◌, ◌<◌}
use mathlib.Core.Path.{◌≡◌, refl, sym, subst, ap, ap₂, ◌∙◌}
use mathlib.Core.Bool.{Bool, true, false, cond, ◌&&◌, ◌||◌, and-true, and-false, or-false}
use mathlib.Core.List.{List}
use mathlib.Core.Logic.{⊎_elim}
use native.Mathlib.Omega.{arith}
use borrow.Author.Tests.{eq-eqb, ne_eqb, eqb-true}
use lib.Bits.{bit_or}
use lib.Dec.{eqb}
use lib.ListN.{get_or}
use Rattle.base.specs.Bits.{bit}
use Rattle.base.specs.Inner.Fill.{Filled}
use Rattle.base.proofs.BitLaws.{bit_or_lem, bit_zero}
use Rattle.base.proofs.Numbers.{split_eq}
use Rattle.base.proofs.BoolLaws.{or_true, or_cases, and_first, and_second}
use Rattle.policy_image.specs.declared.counts.Counts.{Counts}
use Rattle.context.specs.declared.Context.{Context}
use Rattle.context.specs.Codes.{context_at}
use Rattle.context.specs.Ranges.{ContextInRange}
use Rattle.goal_image.specs.Sets.{fits}
use Rattle.plan_tables.specs.Inner.Tables.{type_entries}
use Rattle.plan.specs.Inner.Regions.{record_entries, event_sets_start, type_sets_start, pair_sets_start, named_start, marks_start, alike_start}
use Rattle.plan.specs.Inner.Entries.{named_at, marks_at, type_sets_at, pair_sets_at}
use Rattle.plan.specs.Inner.Sets.{Falls, record_fits, listed, listed_for, pair_of, sets_of}
use Rattle.plan.specs.Inner.Named.{RecordPut}
use Rattle.plan.specs.Inner.Plan.{PlanCounts}
use Rattle.plan.specs.Inner.Put.{Kept, AlikePut}
use Rattle.plan.specs.Inner.Ends.{OnlyIn, EndsPlan, EndsPut}
use Rattle.plan.proofs.ContextLaws.{pairs_few}
use Rattle.plan.proofs.NamedLaws.{falls_none, heads_put, falls_put, falls_kept}
use Rattle.plan.proofs.SetLaws.{fit_bits, listed_bits, listed_same, listed_step, listed_end, type_lt, pair_lt, sets_kept}

-- ---- one record more: its marks are those of the contexts that it fits, and no other context's sets change
abbrev fits_pair : Context → Context → Bool
fits_pair x z = fits x.role z.role && fits x.user z.user

abbrev fits_all : Context → Context → Bool
fits_all x z = eqb x.ty z.ty && fits_pair x z

module _ {k m : ℕ} {x : Context} {old plan : List ℕ} (P : RecordPut k x m old plan) (low : (t : ℕ) → t < type_entries → named_at old t < k) (few : k < record_entries) (F : Falls old) (G : Falls plan) (z : Context)
    (h : z.ty < type_entries) (i : ℕ) where
  as_before : (sets : ℕ) → listed plan z (named_at old z.ty) (named_at old z.ty) sets ≡ listed old z (named_at old z.ty) (named_at old z.ty) sets
  as_before sets = listed_same F (omega arith) (λ j l. P.others j (omega arith) (λ e. omega arith)) z (named_at old z.ty) (named_at old z.ty) sets (low z.ty h)

  -- what record k gives z
  abbrev own_sets : ℕ
  own_sets = cond (record_fits plan z k) (bit_or 0 (marks_at plan k)) 0

  own_bits : bit own_sets i ≡ (fits_pair x z && bit m i)
  own_bits =
      fit_bits (record_fits plan z k) 0 (marks_at plan k) i ∙ ap (λ (b : Bool). b || (record_fits plan z k && bit (marks_at plan k) i)) (bit_zero i)
      ∙ ap₂ (λ (b : Bool) (v : ℕ). b && bit v i) (ap₂ (λ (r u : ℕ). fits r z.role && fits u z.user) P.role P.user) P.marks

  listed_own : x.ty ≡ z.ty → listed_for plan z ≡ listed old z (named_at old z.ty) (named_at old z.ty) own_sets
  listed_own e =
      let some : k ≡ 0 → ⊥ = λ q. omega (arith, low z.ty h) in
      ap (λ (j : ℕ). listed plan z j j 0) (ap (named_at plan) (sym e) ∙ P.head) ∙ listed_step G z k 0 few some
      ∙ ap (λ (j : ℕ). listed plan z j j own_sets) (P.link ∙ ap (named_at old) e) ∙ as_before own_sets

  record_bits : bit (listed_for plan z) i ≡ ((fits_all x z && bit m i) || bit (listed_for old z) i)
  record_bits =
      ⊎_elim
      (λ (e : x.ty ≡ z.ty). ap (λ (v : ℕ). bit v i) (listed_own e) ∙ listed_bits old z (named_at old z.ty) (named_at old z.ty) own_sets i
      ∙ ap (λ (b : Bool). b || bit (listed_for old z) i) (own_bits ∙ ap (λ (b : Bool). (b && fits_pair x z) && bit m i) (sym (eq-eqb x.ty z.ty e))))
      (λ (d : x.ty ≡ z.ty → ⊥). ap (λ (v : ℕ). bit v i) (ap (λ (j : ℕ). listed plan z j j 0) (P.heads z.ty h (λ q. d (sym q))) ∙ as_before 0)
      ∙ ap (λ (b : Bool). ((b && fits_pair x z) && bit m i) || bit (listed_for old z) i) (sym (ne_eqb x.ty z.ty d)))
      (split_eq x.ty z.ty)

-- ---- a record that names a context whole fits it alone
fits_self : (v : ℕ) → fits v v ≡ true
fits_self v = or_true (eqb v 0) (eqb v v) (eq-eqb v v refl)

fits_one : {a v : ℕ} → 1 ≤ a → fits a v ≡ true → v ≡ a
fits_one {a} {v} l t = ⊎_elim (λ q. let z = eqb-true a 0 q in absurd (omega arith)) (λ q. sym (eqb-true a v q)) (or_cases (eqb a 0) (eqb a v) t)

only_in : {n : Counts} {plan : List ℕ} {h : ℕ} {x : Context} → ContextInRange n x → ((z : Context) → ContextInRange n z → bit (sets_of n plan z) h ≡ fits_all x z) → OnlyIn n plan h x
only_in {x = x} X at =
    record {
      has = at x X ∙ ap₂ ◌&&◌ (eq-eqb x.ty x.ty refl) (ap₂ ◌&&◌ (fits_self x.role) (fits_self x.user));
      only = λ z R b. same z (sym (at z R) ∙ b);
    }
  where
    same : (z : Context) → fits_all x z ≡ true → z ≡ x
    same z t =
        let p : fits_pair x z ≡ true = and_second (eqb x.ty z.ty) (fits_pair x z) t in
        let role = fits_one X.role.low (and_first (fits x.role z.role) (fits x.user z.user) p) in
        let user = fits_one X.user.low (and_second (fits x.role z.role) (fits x.user z.user) p) in
        let ty = sym (eqb-true x.ty z.ty (and_first (eqb x.ty z.ty) (fits_pair x z) t)) in
        ap₂ (λ (t : ℕ) (w : Context). context_at t w.role w.user) ty (ap₂ (context_at 0) role user)

-- ---- the marks of the two records, in σ0, in σ1 and in σe
first_only : (a b : Bool) → ((a && bit 2 0) || ((b && bit 1 0) || bit 0 0)) ≡ b
unfolding bit
first_only a b = simp (and-false, and-true, or-false)

second_only : (a b : Bool) → ((a && bit 2 1) || ((b && bit 1 1) || bit 0 1)) ≡ a
unfolding bit
second_only a b = simp (and-false, and-true, or-false)

neither : (a b : Bool) → ((a && bit 2 13) || ((b && bit 1 13) || bit 0 13)) ≡ false
unfolding bit
neither a b = simp (and-false, or-false)

-- ---- what is put above the sets leaves them
only_kept : {n : Counts} (old new : List ℕ) {h : ℕ} {x : Context} → ContextInRange n x → PlanCounts n → Kept alike_start old new → Falls old → OnlyIn n old h x → OnlyIn n new h x
only_kept old new {h} {x} X C K F O =
    record {
      has = ap (λ (v : ℕ). bit v h) (sets_kept old new C K F x X) ∙ O.has;
      only = λ z R b. O.only z R (sym (ap (λ (v : ℕ). bit v h) (sets_kept old new C K F z R)) ∙ b);
    }

pub ends_kept : {n : Counts} {x y : Context} (old new : List ℕ) → ContextInRange n x → ContextInRange n y → PlanCounts n → Kept alike_start old new → EndsPlan x y n old → EndsPlan x y n new
ends_kept old new X Y C K E =
    record {
      from = only_kept old new X C K E.falls E.from;
      to = only_kept old new Y C K E.falls E.to;
      free = λ z R. ap (λ (v : ℕ). bit v 13) (sets_kept old new C K E.falls z R) ∙ E.free z R;
      events = λ e h. K (event_sets_start + e) (omega arith) ∙ E.events e h;
      falls = falls_kept K E.falls;
    }

-- ---- making
module _ {n : Counts} {x y : Context} {old p1 p2 p3 : List ℕ} (X : ContextInRange n x) (Y : ContextInRange n y) (C : PlanCounts n)
    (E : Filled (λ _ v. v ≡ 0) old p1 event_sets_start 0 (marks_start - event_sets_start)) (A : RecordPut 1 x 1 p1 p2) (B : RecordPut 2 y 2 p2 p3) where
  cleared : (i : ℕ) → event_sets_start ≤ i → i < marks_start → get_or p1 i 0 ≡ 0
  cleared i l h =
      let e : event_sets_start + (i - event_sets_start) ≡ i = omega arith in
      subst (λ (j : ℕ). get_or p1 j 0 ≡ 0) e (E.here (i - event_sets_start) (omega arith) (omega arith))

  -- the sets of events, of types and of pairs are empty
  still : (i : ℕ) → event_sets_start ≤ i → i < named_start → get_or p3 i 0 ≡ 0
  still i l h = B.below i h ∙ A.below i h ∙ cleared i l (omega arith)

  falls_1 : Falls p1
  falls_1 = falls_none (λ i h. cleared (named_start + i) (omega arith) (omega arith))

  heads_1 : (t : ℕ) → t < type_entries → named_at p1 t < 1
  heads_1 t h = omega (arith, cleared (named_start + t) (omega arith) (omega arith))

  falls_2 : Falls p2
  falls_2 = falls_put A heads_1 (omega arith) (type_lt C X) falls_1

  heads_2 : (t : ℕ) → t < type_entries → named_at p2 t < 2
  heads_2 t h = omega (arith, heads_put A heads_1 t h)

  falls_3 : Falls p3
  falls_3 = falls_put B heads_2 (omega arith) (type_lt C Y) falls_2

  module _ (z : Context) (R : ContextInRange n z) (i : ℕ) where
    lists_bits : bit (listed_for p3 z) i ≡ ((fits_all y z && bit 2 i) || ((fits_all x z && bit 1 i) || bit 0 i))
    lists_bits =
        record_bits B heads_2 (omega arith) falls_2 falls_3 z (type_lt C R) i
        ∙ ap (λ (b : Bool). (fits_all y z && bit 2 i) || b)
        (record_bits A heads_1 (omega arith) falls_1 falls_2 z (type_lt C R) i
        ∙ ap (λ (v : ℕ). (fits_all x z && bit 1 i) || bit v i) (listed_end falls_1 z (let f = type_lt C R in cleared (named_start + z.ty) (omega arith) (omega arith))))

    sets_bits : bit (sets_of n p3 z) i ≡ ((fits_all y z && bit 2 i) || ((fits_all x z && bit 1 i) || bit 0 i))
    unfolding sets_of
    sets_bits =
        let type : type_sets_at p3 z.ty ≡ 0 = let f = type_lt C R in still (type_sets_start + z.ty) (omega arith) (omega arith) in
        let pair : pair_sets_at p3 (pair_of n z) ≡ 0 = let f = pair_lt R in let g = pairs_few C in still (pair_sets_start + pair_of n z) (omega arith) (omega arith) in
        ap₂ (λ (v w : ℕ). bit (bit_or (bit_or v w) (listed_for p3 z)) i) type pair ∙ bit_or_lem (bit_or 0 0) (listed_for p3 z) i ∙ ap (λ (b : Bool). b || bit (listed_for p3 z) i) (bit_zero i) ∙ lists_bits

  ends : EndsPlan x y n p3
  ends =
      record {
        from = only_in X (λ z R. sets_bits z R 0 ∙ first_only (fits_all y z) (fits_all x z));
        to = only_in Y (λ z R. sets_bits z R 1 ∙ second_only (fits_all y z) (fits_all x z));
        free = λ z R. sets_bits z R 13 ∙ neither (fits_all y z) (fits_all x z);
        events = λ e h. still (event_sets_start + e) (omega arith) (omega arith);
        falls = falls_3;
      }

  pub ends_put : {plan : List ℕ} → AlikePut p3 plan → EndsPut x y n old plan
  ends_put {plan} L =
      record {
        ends = ends_kept p3 plan X Y C L.below ends;
        alike = L.alike;
        below = λ i h. L.below i (omega arith) ∙ B.below i (omega arith) ∙ A.below i (omega arith) ∙ E.below i (omega arith);
      }
