-- The γ sets of the events of a class, in their 32 entries of a plan, chain by chain.
use Prim.Native.Nat.{ℕ, ◌+◌, ◌*◌, ◌≤◌}
use mathlib.Core.Bool.{Bool, true, false, not, ◌&&◌, ◌||◌}
use mathlib.Core.List.{List}
use mathlib.Core.Logic.{⊎_elim}
use mathlib.Core.Path.{◌≡◌, refl, sym, ap, subst, ◌∙◌}
use native.Mathlib.Omega.{arith}
use borrow.Author.Tests.{eq-eqb, ne_eqb}
use lib.Dec.{eqb}
use lib.ListN.{length, get_or, set, length-set}
use lib.Seq.{get_or-set_same, get_or-set_other}
use Rattle.base.specs.Bits.{bit}
use Rattle.base.specs.Inner.Fill.{Filled}
use Rattle.base.specs.Inner.Masks.{Taken, With}
use Rattle.base.proofs.BitLaws.{bit_zero}
use Rattle.base.proofs.BoolLaws.{or_none, and_no, and_yes, and_true, and_first}
use Rattle.base.proofs.FillLaws.{fill_map, fill_then, fill_end}
use Rattle.base.proofs.Numbers.{split_eq}
use Rattle.context.specs.Codes.{event_at, event_of}
use Rattle.goal_image.specs.Goal.{Goal, is_event_chain}
use Rattle.goal_image.specs.Sets.{event_in}
use Rattle.goal_image.specs.Inner.Memberships.{EventSets, ChainMask}
use Rattle.goal_image.proofs.Gather.{Gathered, gathered_start, gathered_more, gathered_end}
use Rattle.goal_image.proofs.SortLaws.{event_from, event_below}
use Rattle.plan.specs.Inner.Put.{WithIf}
use Rattle.plan.proofs.KnownLaws.{event_same}
use Rattle.plan.proofs.LeadLaws.{event_code_lem}

-- ---- one chain: the events whose permissions are taken out of the mask have it
pub record Marking (old : List ℕ) (at h mask : ℕ) (plan : List ℕ) (left : ℕ) : Type 0 where
  pub size : length plan ≡ length old
  pub rest : (q : ℕ) → bit left q ≡ true → bit mask q ≡ true
  pub done : Filled (λ q v. WithIf (get_or old (at + q) 0) h (bit mask q && not (bit left q)) v) old plan at 0 32

-- a bit that is in no mask, or in none but one
neither : (b : Bool) → (b && not b) ≡ false
neither true = refl
neither false = refl

pub marking_start : {old : List ℕ} {at h mask left : ℕ} → left ≡ mask → Marking old at h mask old left
marking_start {old} {at} {h} {mask} e =
    subst (Marking old at h mask old) (sym e) record {
      size = refl;
      rest = λ q b. b;
      done = record {
        here = λ q lo hi. record { at = λ j. sym (or_none (bit (get_or old (at + q) 0) j) _ (ap (λ (b : Bool). b && eqb h j) (neither (bit mask q)))) };
        below = λ i l. refl;
        above = λ i l. refl;
      };
    }

pub marking_end : {old : List ℕ} {at h mask : ℕ} {plan : List ℕ} {left : ℕ} → left ≡ 0 → Marking old at h mask plan left
    → Filled (λ q v. WithIf (get_or old (at + q) 0) h (bit mask q) v) old plan at 0 32
marking_end {old} {at} {h} {mask} {left = left} z M =
    fill_map
    (λ q v l w. record { at = λ j. w.at j ∙ ap (λ (b : Bool). bit (get_or old (at + q) 0) j || (b && eqb h j)) (all q) })
    M.done
  where
    all : (q : ℕ) → (bit mask q && not (bit left q)) ≡ bit mask q
    all q = and_yes (bit mask q) (not (bit left q)) (ap not (ap (λ (m : ℕ). bit m q) z ∙ bit_zero q))

module _ {old : List ℕ} {at h mask : ℕ} {plan : List ℕ} {left : ℕ} (M : Marking old at h mask plan left) (room : at + 32 ≤ length old) {q₀ v left' : ℕ} (T : Taken left q₀ left')
    (W : With (get_or plan (at + q₀) 0) h v) where
  abbrev new : List ℕ
  new = set plan (at + q₀) v

  out_own : bit left' q₀ ≡ false
  out_own = T.at q₀ ∙ and_no (bit left q₀) (not (eqb q₀ q₀)) (ap not (eq-eqb q₀ q₀ refl))

  out_other : (q : ℕ) → (q ≡ q₀ → ⊥) → bit left' q ≡ bit left q
  out_other q d = T.at q ∙ and_yes (bit left q) (not (eqb q₀ q)) (ap not (ne_eqb q₀ q (λ e. d (sym e))))

  -- the event that is taken out did not have the chain before, and has it now
  before : (j : ℕ) → bit (get_or plan (at + q₀) 0) j ≡ bit (get_or old (at + q₀) 0) j
  before j =
      (M.done.here q₀ (omega arith) T.least.small).at j
      ∙ or_none (bit (get_or old (at + q₀) 0) j) _ (ap (λ (b : Bool). b && eqb h j) (and_no (bit mask q₀) (not (bit left q₀)) (ap not T.least.has)))

  taken : (bit mask q₀ && not (bit left' q₀)) ≡ true
  taken = and_true (bit mask q₀) (not (bit left' q₀)) (M.rest q₀ T.least.has) (ap not out_own)

  own : WithIf (get_or old (at + q₀) 0) h (bit mask q₀ && not (bit left' q₀)) v
  own =
      record {
        at = λ j. W.at j ∙ ap (λ (b : Bool). b || eqb h j) (before j) ∙ ap (λ (b : Bool). bit (get_or old (at + q₀) 0) j || (b && eqb h j)) (sym taken);
      }

  pub marking_step : Marking old at h mask new left'
  marking_step =
      record {
        size = length-set plan (at + q₀) v ∙ M.size;
        rest = λ q b. M.rest q (and_first (bit left q) _ (sym (T.at q) ∙ b));
        done = record {
          here = λ q lo hi. ⊎_elim
              (λ (e : q ≡ q₀). subst (λ (k : ℕ). Entry k (get_or new (at + k) 0)) (sym e)
              (subst (Entry q₀) (sym (get_or-set_same plan (at + q₀) v 0 (let s = M.size in let k = T.least.small in omega arith))) own))
              (λ (d : q ≡ q₀ → ⊥). subst (Entry q) (sym (get_or-set_other plan (at + q₀) (at + q) v 0 (λ e. d (omega arith))))
              (subst (λ (b : Bool). WithIf (get_or old (at + q) 0) h (bit mask q && not b) (get_or plan (at + q) 0)) (sym (out_other q d)) (M.done.here q lo hi)))
              (split_eq q q₀);
          below = λ i l. other i (λ e. let z : ⊥ = omega arith in z) ∙ M.done.below i l;
          above = λ i l. other i (λ e. let k = T.least.small in let z : ⊥ = omega arith in z) ∙ M.done.above i l;
        };
      }
    where
      Entry : ℕ → ℕ → Type 0
      Entry q u = WithIf (get_or old (at + q) 0) h (bit mask q && not (bit left' q)) u

      other : (i : ℕ) → (i ≡ at + q₀ → ⊥) → get_or new i 0 ≡ get_or plan i 0
      other i d = get_or-set_other plan (at + q₀) i v 0 d

-- ---- all chains: the sets v of the permission q of class c have those below h
pub record Chained (g : Goal) (c h q v : ℕ) : Type 0 where
  pub gathered : Gathered (λ j. is_event_chain j && event_in g j (event_at c q)) h v

module _ {g : Goal} {c : ℕ} {at : ℕ} where
  -- entries that were cleared
  pub chained_start : {old plan : List ℕ} → Filled (λ q v. v ≡ 0) old plan at 0 32 → Filled (λ q v. Chained g c 7 q v) plan plan at 0 32
  chained_start {plan = plan} F =
      record {
        here = λ q lo hi. subst (Chained g c 7 q) (sym (F.here q lo hi))
            (record { gathered = gathered_start _ 7 (λ j b. ap (λ (t : Bool). t && event_in g j (event_at c q)) (event_from j b)) });
        below = λ i l. refl;
        above = λ i l. refl;
      }

  pub chained_more : {h mask : ℕ} {plan mid new : List ℕ} → Filled (λ q v. Chained g c h q v) plan mid at 0 32 → ChainMask g h c mask
      → Filled (λ q v. WithIf (get_or mid (at + q) 0) h (bit mask q) v) mid new at 0 32 → Filled (λ q v. Chained g c (h + 1) q v) plan new at 0 32
  chained_more {h} F C G =
      record {
        here = λ q lo hi. record { gathered = gathered_more _ h _ (F.here q lo hi).gathered _ (C.at q) (G.here q lo hi).at };
        below = λ i l. G.below i l ∙ F.below i l;
        above = λ i l. G.above i l ∙ F.above i l;
      }

  pub chained_end : {h : ℕ} {old plan new : List ℕ} → 15 ≤ h → Filled (λ q v. v ≡ 0) old plan at 0 32 → Filled (λ q v. Chained g c h q v) plan new at 0 32
      → Filled (λ q v. EventSets g (event_at c q) v) old new at 0 32
  chained_end {h} l F G =
      record {
        here = λ q lo hi. record { at = gathered_end _ h _ l (G.here q lo hi).gathered (λ j t. event_below j (and_first (is_event_chain j) _ t)) };
        below = λ i b. G.below i b ∙ F.below i b;
        above = λ i b. G.above i b ∙ F.above i b;
      }

-- ---- all classes: those of class c behind those of the classes before
pub class_more : {g : Goal} {c : ℕ} {old mid new : List ℕ} {at : ℕ} → Filled (λ e v. EventSets g (event_of e) v) old mid at 32 (32 * c) → 1 ≤ c
    → Filled (λ q v. EventSets g (event_at c q) v) mid new (at + 32 * c) 0 32 → Filled (λ e v. EventSets g (event_of e) v) old new at 32 (32 * (c + 1))
class_more {c = c} F l G = fill_end (fill_then _ F G refl (omega arith) (λ q v b S. event_same (event_code_lem c q b) S)) (omega arith)
