-- The words of a slot: those of the pairs that meet ρ and μ, bit by bit, and that a slot is filled or emptied while the others stay.
use mathlib.Core.Path.{◌≡◌, refl, sym, ◌∙◌, ap, subst}
use mathlib.Core.Bool.{Bool, true, false, not, ◌&&◌, ◌||◌}
use mathlib.Core.List.{List, ◌∷◌, []}
use mathlib.Core.Logic.{inl, inr, ⊎_elim}
use Prim.Native.Nat.{ℕ, zero, suc, ◌+◌, ◌*◌, ◌%◌, ◌^◌, ◌≤◌, ◌<◌}
use native.Mathlib.Nat.{add-zero}
use native.Mathlib.Omega.{arith}
use borrow.Author.Tests.{eq-eqb, ne_eqb, lt-ltb, le-ltb}
use lib.Bits.{bit_and, bit_or, bit_xor}
use lib.Dec.{eqb, ltb}
use lib.ListN.{length, get_or, set, length-set}
use lib.Seq.{get_or-set_same, get_or-set_other}
use Rattle.base.specs.Bits.{bit}
use Rattle.base.specs.Inner.Masks.{Without}
use Rattle.base.specs.Inner.Fill.{Filled}
use Rattle.base.proofs.BitLaws.{bit_or_lem, bit_pow, bit_zero, without_law}
use Rattle.base.proofs.FillLaws.{fill_begin, fill_more}
use Rattle.base.proofs.BoolLaws.{or_true, or_none, and_true, and_no}
use Rattle.base.proofs.Numbers.{split_eq, split_le}
use Rattle.policy_image.specs.declared.counts.Counts.{Counts}
use Rattle.context.specs.Inner.Places.{pair_count}
use Rattle.plan.specs.Inner.Entries.{roles_at, holders_at}
use Rattle.search_memory.specs.Inner.Opens.{open_slots, open_entries, slot_of, open_key, open_word, pair_held, HeldWord, SameSlot, SlotOpened, PairsTaken}
use Rattle.search_memory.proofs.KeptLaws.{shl_64}

-- ---- a word of the pairs that meet ρ and μ
-- whether i is one of so many pairs, and meets ρ and μ with the type o
abbrev pub held_pair : ℕ → List ℕ → ℕ → ℕ → Bool
held_pair n plan o i = ltb i n && pair_held plan o i

-- the bits below j are as they shall be, and the others are not set
pub record HeldTo (n : ℕ) (plan : List ℕ) (o w j r : ℕ) : Type 0 where
  pub at : (i : ℕ) → i < 64 → bit r i ≡ (ltb i j && held_pair n plan o (64 * w + i))

pub held_begin : (n : ℕ) (plan : List ℕ) (o w : ℕ) → HeldTo n plan o w 0 0
held_begin n plan o w = record { at = λ i h. bit_zero i ∙ sym (ap (λ (b : Bool). b && held_pair n plan o (64 * w + i)) (le-ltb i 0 (omega arith))) }

-- below one more, but for the number itself
one_more : (i j : ℕ) → (i ≡ j → ⊥) → ltb i j ≡ ltb i (j + 1)
one_more i j d =
    ⊎_elim (λ (h : j ≤ i). le-ltb i j h ∙ sym (le-ltb i (j + 1) (omega (arith, d)))) (λ (h : i < j). lt-ltb i j h ∙ sym (lt-ltb i (j + 1) (omega arith))) (split_le j i)

module _ {n : ℕ} {plan : List ℕ} {o w j r : ℕ} (H : HeldTo n plan o w j r) where
  abbrev wanted : ℕ → Bool
  wanted i = held_pair n plan o (64 * w + i)

  before : (i : ℕ) → i < 64 → (i ≡ j → ⊥) → bit r i ≡ (ltb i (j + 1) && wanted i)
  before i h d = H.at i h ∙ ap (λ (b : Bool). b && wanted i) (one_more i j d)

  -- pair j does not meet them
  pub held_no : bit_and (roles_at plan o) (holders_at plan (64 * w + j)) ≡ 0 → HeldTo n plan o w (j + 1) r
  held_no q = record { at = λ i h. ⊎_elim (here i h) (before i h) (split_eq i j) }
    where
      unwanted : wanted j ≡ false
      unwanted = and_no (ltb (64 * w + j) n) (pair_held plan o (64 * w + j)) (ap not (eq-eqb (bit_and (roles_at plan o) (holders_at plan (64 * w + j))) 0 q))

      here : (i : ℕ) → i < 64 → i ≡ j → bit r i ≡ (ltb i (j + 1) && wanted i)
      here i h q =
          H.at i h ∙ ap (λ (b : Bool). b && wanted i) (le-ltb i j (omega arith)) ∙ sym (and_no (ltb i (j + 1)) (wanted i) (ap wanted q ∙ unwanted))

  -- pair j meets them
  pub held_yes : j < 64 → 64 * w + j < n → (bit_and (roles_at plan o) (holders_at plan (64 * w + j)) ≡ 0 → ⊥) → HeldTo n plan o w (j + 1) (bit_or r (1 * 2 ^ j % 2 ^ 64))
  held_yes l few d₀ = record { at = λ i h. bit_or_lem r (1 * 2 ^ j % 2 ^ 64) i ∙ ap (λ (b : Bool). bit r i || b) (one i) ∙ ⊎_elim (here i) (there i h) (split_eq i j) }
    where
      is_wanted : wanted j ≡ true
      is_wanted =
          and_true (ltb (64 * w + j) n) (pair_held plan o (64 * w + j)) (lt-ltb (64 * w + j) n few) (ap not (ne_eqb (bit_and (roles_at plan o) (holders_at plan (64 * w + j))) 0 d₀))

      one : (i : ℕ) → bit (1 * 2 ^ j % 2 ^ 64) i ≡ eqb j i
      one i = ap (λ (z : ℕ). bit z i) (shl_64 j l) ∙ bit_pow j i

      here : (i : ℕ) → i ≡ j → (bit r i || eqb j i) ≡ (ltb i (j + 1) && wanted i)
      here i q = or_true (bit r i) (eqb j i) (eq-eqb j i (sym q)) ∙ sym (and_true (ltb i (j + 1)) (wanted i) (lt-ltb i (j + 1) (omega arith)) (ap wanted q ∙ is_wanted))

      there : (i : ℕ) → i < 64 → (i ≡ j → ⊥) → (bit r i || eqb j i) ≡ (ltb i (j + 1) && wanted i)
      there i h d = or_none (bit r i) (eqb j i) (ne_eqb j i (λ e. d (sym e))) ∙ before i h d

  -- after all pairs, or all bits
  pub held_stop : {c : Counts} → pair_count c ≡ n → n ≤ 64 * w + j → HeldWord c plan o w r
  held_stop {c} q l =
      record {
        at = λ i h.
            ⊎_elim
            (λ (k : j ≤ i). H.at i h ∙ ap (λ (b : Bool). b && wanted i) (le-ltb i j k) ∙ sym (ap (λ (b : Bool). b && pair_held plan o (64 * w + i)) (le-ltb (64 * w + i) (pair_count c) (omega arith))))
            (λ (k : i < j). H.at i h ∙ ap (λ (b : Bool). b && wanted i) (lt-ltb i j k) ∙ ap (λ (m : ℕ). held_pair m plan o (64 * w + i)) (sym q))
            (split_le j i);
      }

  pub held_all : {c : Counts} → pair_count c ≡ n → 64 ≤ j → HeldWord c plan o w r
  held_all q l = record { at = λ i h. H.at i h ∙ ap (λ (b : Bool). b && wanted i) (lt-ltb i j (omega arith)) ∙ ap (λ (m : ℕ). held_pair m plan o (64 * w + i)) (sym q) }

-- ---- one slot is changed
pub slot_same : (l : List ℕ) (i : ℕ) → SameSlot l l i
slot_same l i = record { key = refl; words = λ w h. refl }

module _ {P : ℕ → ℕ → Type 0} {old new : List ℕ} (slot : ℕ) (F : Filled P old new (open_slots + 4 * slot) 0 4) where
  pub key_stays : {i : ℕ} → i < open_slots → get_or new i 0 ≡ get_or old i 0
  key_stays {i} h = F.below i (omega arith)

  pub others_stay : (i : ℕ) → i < open_slots → (i ≡ slot → ⊥) → SameSlot old new i
  others_stay i h d =
      record {
        key = key_stays h;
        words = λ w lw. ⊎_elim (λ (k : slot ≤ i). F.above (open_word i w) (omega (arith, d))) (λ (k : i < slot). F.below (open_word i w) (omega arith)) (split_le slot i);
      }

  pub word_at : (w : ℕ) → w < 4 → P w (get_or new (open_word slot w) 0)
  word_at w h = F.here w (omega arith) h

-- the four words of slot i, as a list
abbrev pub four_words : List ℕ → ℕ → List ℕ
four_words l i = get_or l (open_slots + 4 * i) 0 ∷ get_or l (open_slots + 4 * i + 1) 0 ∷ get_or l (open_slots + 4 * i + 2) 0 ∷ get_or l (open_slots + 4 * i + 3) 0 ∷ []

four_words_lem : (l : List ℕ) (i w : ℕ) → w < 4 → get_or (four_words l i) w 0 ≡ get_or l (open_word i w) 0
four_words_lem l i zero h = ap (λ (j : ℕ). get_or l j 0) (sym (add-zero (open_slots + 4 * i)))
four_words_lem l i (suc zero) h = refl
four_words_lem l i (suc (suc zero)) h = refl
four_words_lem l i (suc (suc (suc zero))) h = refl
four_words_lem l i (suc (suc (suc (suc w)))) h = absurd (omega arith)

module _ (n : Counts) (plan : List ℕ) (o k : ℕ) (old : List ℕ) (size : length old ≡ open_entries) where
  abbrev slot : ℕ
  slot = slot_of n.types o k

  few : slot < open_slots
  few = omega arith

  words_at : (l : List ℕ) {i : ℕ} → i ≡ slot → (w : ℕ) → w < 4 → get_or (four_words l i) w 0 ≡ get_or l (open_word slot w) 0
  words_at l {i} q w h = four_words_lem l i w h ∙ ap (λ (j : ℕ). get_or l (open_word j w) 0) q

  pub opened_same : {i : ℕ} → i ≡ slot → get_or old i 0 ≡ open_key o k → SlotOpened n plan old old o k (four_words old i)
  opened_same q e =
      record {
        size = size;
        key = ap (λ (j : ℕ). get_or old j 0) (sym q) ∙ e;
        words = words_at old q;
        others = λ i h d. slot_same old i;
        here = inl (slot_same old slot);
      }

  pub opened_new : {i : ℕ} {new : List ℕ} → i ≡ slot → length new ≡ open_entries → Filled (λ w v. HeldWord n plan o w v) (set old slot (open_key o k)) new (open_slots + 4 * slot) 0 4
      → SlotOpened n plan old new o k (four_words new i)
  opened_new {new = new} q size' F =
      record {
        size = size';
        key = key_stays slot F few ∙ get_or-set_same old slot (open_key o k) 0 (let f = few in omega (arith, size));
        words = words_at new q;
        others = λ i h d.
            let S = others_stay slot F i h d in
            record {
              key = S.key ∙ get_or-set_other old slot i (open_key o k) 0 d;
              words = λ w lw. S.words w lw ∙ get_or-set_other old slot (open_word i w) (open_key o k) 0 (λ e. let f = few in let z : ⊥ = omega arith in z);
            };
        here = inr (word_at slot F);
      }

-- ---- pairs are taken out
-- the words below w are without the pairs, and where none is left they are 0
pub record TakenTo (old pairs new : List ℕ) (first w : ℕ) (none : Bool) : Type 0 where
  pub size : length new ≡ open_entries
  pub words : Filled (λ i v. Without (get_or old (first + i) 0) (get_or pairs i 0) v) old new first 0 w
  pub empty : none ≡ true → (i : ℕ) → i < w → get_or new (first + i) 0 ≡ 0

pub take_begin : (old pairs : List ℕ) (first : ℕ) → length old ≡ open_entries → TakenTo old pairs old first 0 true
take_begin old pairs first h = record { size = h; words = fill_begin _ old first 0; empty = λ _ i l. absurd (omega arith) }

pub take_more : {old pairs new : List ℕ} {first w : ℕ} {none none' : Bool} (left : ℕ) → TakenTo old pairs new first w none → first + w < open_entries
    → left ≡ bit_and (get_or new (first + w) 0) (bit_xor (get_or new (first + w) 0) (get_or pairs w 0)) → (none' ≡ true → (none ≡ true) × (left ≡ 0))
    → TakenTo old pairs (set new (first + w) left) first (w + 1) none'
take_more {old} {pairs} {new} {first} {w} left T h q none' =
    record {
      size = simp length-set T.size;
      words = fill_more _ T.words (omega arith) room taken;
      empty = λ y i l.
          ⊎_elim
          (λ (e : i ≡ w). ap (λ (j : ℕ). get_or (set new (first + w) left) (first + j) 0) e ∙ get_or-set_same new (first + w) left 0 room ∙ (none' y).1)
          (λ (d : i ≡ w → ⊥). get_or-set_other new (first + w) (first + i) left 0 (λ e. d (omega arith)) ∙ T.empty (none' y).0 i (omega (arith, d)))
          (split_eq i w);
    }
  where
    room : first + w < length new
    room = omega (arith, T.size)

    taken : Without (get_or old (first + w) 0) (get_or pairs w 0) left
    taken =
        subst (λ (v : ℕ). Without v (get_or pairs w 0) left) (T.words.above (first + w) (omega arith))
        (subst (Without (get_or new (first + w) 0) (get_or pairs w 0)) (sym q) (without_law (get_or new (first + w) 0) (get_or pairs w 0)))

pub pairs_taken : (n : Counts) {old new pairs : List ℕ} (o k : ℕ) {none : Bool} → TakenTo old pairs new (open_slots + 4 * slot_of n.types o k) 4 none → PairsTaken n old new o k pairs none
pairs_taken n o k T =
    let slot = slot_of n.types o k in
    record { size = T.size; key = key_stays slot T.words (omega arith); words = word_at slot T.words; others = others_stay slot T.words; none = T.empty }
