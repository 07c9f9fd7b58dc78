-- The state after a step depends on what the event keeps of the state, and on the target alone.
use mathlib.Core.Path.{◌≡◌, refl, sym, ◌∙◌, ap, ap₂}
use mathlib.Core.Bool.{Bool, true, ◌&&◌, ◌||◌}
use Prim.Native.Nat.{ℕ, zero, suc, ◌+◌, ◌*◌, ◌/◌, ◌%◌, ◌^◌, ◌≤◌, ◌<◌}
use native.Mathlib.Decide.{dec_lt}
use native.Mathlib.Nat.{one-mul, mod-eq_of_lt}
use lib.Pow.{pow-lt}
use native.Mathlib.Omega.{arith}
use borrow.Author.Tests.{le-ltb, eqb-true}
use lib.Bits.{bit_and, bit_or}
use lib.Dec.{ltb}
use Rattle.base.specs.Bits.{bit}
use Rattle.base.proofs.BitLaws.{bit_and_lem, bit_or_lem, bit_shr, bit_zero, bit_pow}
use Rattle.base.proofs.BoolLaws.{clash}
use Rattle.search_steps.proofs.NearestLaws.{keeps_all}
use Rattle.paths.specs.Model.{Model}
use Rattle.paths.specs.Inner.Pack.{pack, digit}
use Rattle.paths.specs.Inner.Monitors.{goes, enters, opens}
use Rattle.search_graph.specs.declared.monitor.Mode.{Mode}
use Rattle.search_graph.specs.declared.monitor.Mode.TheVariants.{Order, Events, Any}
use Rattle.search_graph.specs.Inner.Nodes.{watch_of}
use Rattle.search_graph.specs.Inner.Watching.{By}
use Rattle.search_memory.specs.Inner.Memory.{keeps_of, Marks}

-- what an event in the sets by keeps of a state
abbrev pub kept : Mode → ℕ → ℕ → ℕ
kept m state by = bit_and state (bit_or (keeps_of m) (by / 2 ^ 7))

-- ---- events keep the stages of their legs
pack_same : (k : ℕ) (f g : ℕ → Bool) → ((i : ℕ) → f i ≡ g i) → pack k f ≡ pack k g
pack_same zero f g h = refl
pack_same (suc k) f g h = ap₂ (λ (b : Bool) (r : ℕ). digit b + 2 * r) (h 0) (pack_same k (λ i. f (suc i)) (λ i. g (suc i)) (λ i. h (suc i)))

module _ {M : Model} where
  live : {e by : ℕ} (state i : ℕ) → By M e by → i < M.legs → bit (kept Events state by) i ≡ (bit state i && M.γ i e)
  live {e} {by} state i B l =
      bit_and_lem state (bit_or 0 (by / 2 ^ 7)) i
      ∙ ap (λ (b : Bool). bit state i && b) (bit_or_lem 0 (by / 2 ^ 7) i ∙ ap₂ ◌||◌ (bit_zero i) (bit_shr by 7 i ∙ B.at i l))

  module _ {e f by bf : ℕ} (s t : ℕ) (B : By M e by) (C : By M f bf) (q : kept Events s by ≡ kept Events t bf) where
    goes_same : (i : ℕ) → Dec (i < M.legs) → goes M (bit s) e i ≡ goes M (bit t) f i
    goes_same i (yes l) = ap (λ (b : Bool). ltb i M.legs && b) (sym (live s i B l) ∙ ap (λ (k : ℕ). bit k i) q ∙ live t i C l)
    goes_same i (no n) =
        let h : M.legs ≤ i = omega arith in
        ap (λ (b : Bool). b && (bit s i && M.γ i e)) (le-ltb i M.legs h) ∙ sym (ap (λ (b : Bool). b && (bit t i && M.γ i f)) (le-ltb i M.legs h))

    enters_same : (y i : ℕ) → enters M (bit s) e y i ≡ enters M (bit t) f y i
    enters_same y zero = refl
    enters_same y (suc i) = ap (λ (b : Bool). b && M.σ (suc i) y) (goes_same i (dec_lt i M.legs))

    opens_same : (y i : ℕ) → opens M (bit s) e y i ≡ opens M (bit t) f y i
    opens_same y i = ap₂ (λ (a b : Bool). (a && M.repeated i) || b) (goes_same i (dec_lt i M.legs)) (enters_same y i)

-- where two events keep the same of two states, they lead to the same state at the same target
pub step_by_kept : (m : Mode) {M : Model} {e f by bf : ℕ} (s t y : ℕ) → s < 64 → t < 64 → By M e by → By M f bf → kept m s by ≡ kept m t bf
    → (watch_of m M).step s e y ≡ (watch_of m M).step t f y
step_by_kept Order {M} {e} {f} {by} {bf} s t y ls lt B C q =
    ap (λ (k : ℕ). (watch_of Order M).step k e y) (sym (keeps_all s (by / 2 ^ 7) ls) ∙ q ∙ keeps_all t (bf / 2 ^ 7) lt)
step_by_kept Events {M} s t y ls lt B C q = pack_same (suc M.legs) _ _ (opens_same s t B C q y)
step_by_kept Any s t y ls lt B C q = refl

-- ---- a set of one number
pub mark_one : (k r : ℕ) → r ≡ 2 ^ k → (b : Bool) → b ≡ true → Marks k b r
mark_one k r q b t = record { only = λ i h. (t, eqb-true k i (sym (bit_pow k i) ∙ ap (λ (z : ℕ). bit z i) (sym q) ∙ h)) }

pub mark_none : (k : ℕ) (b : Bool) → Marks k b 0
mark_none k b = record { only = λ i h. absurd (clash h (bit_zero i)) }

-- `1 << k` in 64 bits
pub shl_64 : (k : ℕ) → k < 64 → (1 * 2 ^ k) % 2 ^ 64 ≡ 2 ^ k
shl_64 k h = ap (λ (z : ℕ). z % 2 ^ 64) (one-mul (2 ^ k)) ∙ mod-eq_of_lt (pow-lt h)
