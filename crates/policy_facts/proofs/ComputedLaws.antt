-- The canonical policy of a policy that is written out, by computing. The keys of all numbers are too many to go over: the records that are
-- written for its facts are given, and tested against what its own records say.
use Prim.Native.Nat.{ℕ, zero, suc, ◌+◌, ◌-◌, ◌*◌, ◌≤◌, ◌<◌}
use mathlib.Core.Path.{◌≡◌, refl, sym, ap, subst, ◌∙◌}
use mathlib.Core.Bool.{Bool, true, false, not, ◌&&◌, ◌||◌, cond}
use mathlib.Core.List.{List, [], ◌∷◌, ◌++◌, map}
use mathlib.Core.Logic.{⊎_elim}
use native.Mathlib.Omega.{arith}
use borrow.Author.Tests.{eqb-true, eqb-false, leb-true, not-true}
use lib.Dec.{eqb, leb}
use lib.ListN.{length, get_or}
use Rattle.base.specs.Bits.{bit}
use Rattle.base.specs.Ranges.{Within}
use Rattle.base.specs.Upto.{all_upto}
use Rattle.base.proofs.BoolLaws.{clash, and_first, and_second, or_cases}
use Rattle.base.proofs.BitLaws.{bit_zero}
use Rattle.base.proofs.Decide.{within_b, dec_within, says_yes, says_no}
use Rattle.base.proofs.UptoLaws.{all_at}
use Rattle.policy_image.specs.declared.records.Record.{Record}
use Rattle.policy_image.specs.Policy.{Policy}
use Rattle.policy_links.proofs.KindLaws.{OfKind}
use Rattle.policy_lists.specs.Lists.{records_upto, kind_list}
use Rattle.policy_lists.specs.Joined.{nodes_upto, kinds_upto, renumbered}
use Rattle.policy_facts.specs.Facts.{says_b, has_key, is_stated, permits, united_mask, carries_mask}
use Rattle.policy_facts.specs.Canonical.{key_a, key_b, key_c, key_numbers, fact_kind, canonical_list}
use Rattle.policy_facts.specs.Inner.FactTable.{fact_key, kind_in, number_in, table_record, Written, Entry, KeyStands, FactTable}
use Rattle.policy_facts.proofs.KeyLaws.{SaysBoth, says_cases, key_has, states_record, permits_record}
use Rattle.policy_facts.proofs.MaskLaws.{mask_found}
use Rattle.policy_facts.proofs.FactTableLaws.{table_list}

-- ---- the test of a table
-- the keys rise, from the number low on
abbrev rises_b : ℕ → List ℕ → Bool
rises_b low [] = true
rises_b low (key ∷ keys) = leb low key && rises_b (suc key) keys

-- each key is written, with its mask
module _ (p : Policy) where
  abbrev united_in : ℕ → ℕ
  united_in key = united_mask p (kind_in key) (key_a (number_in key)) (key_b (number_in key)) (key_c (number_in key))

  abbrev stated_in : ℕ → Bool
  stated_in key = is_stated p (kind_in key) (key_a (number_in key)) (key_b (number_in key)) (key_c (number_in key))

  abbrev entry_b : ℕ → ℕ → Bool
  entry_b key mask =
      within_b 1 7 (kind_in key) && (eqb mask (united_in key) && cond (carries_mask (kind_in key)) (not (eqb mask 0)) (stated_in key))

  abbrev entries_b : List ℕ → List ℕ → Bool
  entries_b [] masks = true
  entries_b (key ∷ keys) [] = false
  entries_b (key ∷ keys) (mask ∷ masks) = entry_b key mask && entries_b keys masks

-- what each record says has its key: nothing, where it is of no fact or carries an empty mask; both ways, where it is flow's 3
abbrev stands_b : List ℕ → ℕ → Bool
stands_b [] key = false
stands_b (first ∷ keys) key = eqb first key || stands_b keys key

abbrev with_b : List ℕ → Record → ℕ → Bool
with_b keys r b = stands_b keys (fact_key r.kind r.a b r.c)

abbrev silent_b : Record → Bool
silent_b r = not (within_b 1 7 r.kind) || (carries_mask r.kind && eqb r.mask 0)

abbrev held_b : List ℕ → Record → Bool
held_b keys r = cond (eqb r.kind 3 && eqb r.b 3) (with_b keys r 1 && with_b keys r 2) (with_b keys r r.b)

abbrev covered_b : List ℕ → Record → Bool
covered_b keys r = silent_b r || held_b keys r

abbrev pub table_b : Policy → List ℕ → List ℕ → Bool
table_b p keys masks = rises_b 0 keys && (entries_b p keys masks && all_upto (λ i. covered_b keys (p.rec i)) p.size)

-- ---- the keys rise
rises_low : (low : ℕ) (keys : List ℕ) → rises_b low keys ≡ true → (i : ℕ) → i < length keys → low ≤ get_or keys i 0
rises_low low [] e i h = let z : ⊥ = omega arith in absurd z
rises_low low (key ∷ keys) e zero h = leb-true low key (and_first (leb low key) (rises_b (suc key) keys) e)
rises_low low (key ∷ keys) e (suc i) h =
    let l = leb-true low key (and_first (leb low key) (rises_b (suc key) keys) e) in
    let n = rises_low (suc key) keys (and_second (leb low key) (rises_b (suc key) keys) e) i (omega arith) in
    omega arith

rises : (low : ℕ) (keys : List ℕ) → rises_b low keys ≡ true → (i j : ℕ) → i < j → j < length keys → get_or keys i 0 < get_or keys j 0
rises low [] e i j l h = let z : ⊥ = omega arith in absurd z
rises low (key ∷ keys) e i zero l h = let z : ⊥ = omega arith in absurd z
rises low (key ∷ keys) e zero (suc j) l h = rises_low (suc key) keys (and_second (leb low key) (rises_b (suc key) keys) e) j (omega arith)
rises low (key ∷ keys) e (suc i) (suc j) l h =
    rises (suc key) keys (and_second (leb low key) (rises_b (suc key) keys) e) i j (omega arith) (omega arith)

-- ---- each is written
module _ (p : Policy) where
  entry : (key mask : ℕ) → entry_b p key mask ≡ true → Entry p key mask
  entry key mask e =
      let w = within_b 1 7 (kind_in key) in
      let u = eqb mask (united_in p key) in
      let s = cond (carries_mask (kind_in key)) (not (eqb mask 0)) (stated_in p key) in
      let same : mask ≡ united_in p key = eqb-true mask (united_in p key) (and_first u s (and_second w (u && s) e)) in
      record {
        kind = says_yes (dec_within 1 7 (kind_in key)) (and_first w (u && s) e);
        written =
            subst (λ (n : ℕ). cond (carries_mask (kind_in key)) (not (eqb n 0)) (stated_in p key) ≡ true) same (and_second u s (and_second w (u && s) e));
        united = same;
      }

  entries : (keys masks : List ℕ) → entries_b p keys masks ≡ true → (i : ℕ) → i < length keys → Entry p (get_or keys i 0) (get_or masks i 0)
  entries [] masks e i h = let z : ⊥ = omega arith in absurd z
  entries (key ∷ keys) [] e i h = absurd (clash e refl)
  entries (key ∷ keys) (mask ∷ masks) e zero h = entry key mask (and_first (entry_b p key mask) (entries_b p keys masks) e)
  entries (key ∷ keys) (mask ∷ masks) e (suc i) h =
      entries keys masks (and_second (entry_b p key mask) (entries_b p keys masks) e) i (omega arith)

-- ---- and no other is
stands : (keys : List ℕ) (k x key : ℕ) → key ≡ 16777216 * k + x → stands_b keys key ≡ true → KeyStands keys (length keys) k x
stands [] k x key s e = absurd (clash e refl)
stands (first ∷ keys) k x key s e =
    ⊎_elim
    (λ h. record { at = 0; low = omega arith; same = eqb-true first key h ∙ s })
    (λ h. let r = stands keys k x key s h in let l = r.low in record { at = suc r.at; low = omega arith; same = r.same })
    (or_cases (eqb first key) (stands_b keys key) e)

-- a record of kind k that says something is not silent
says_something : (r : Record) (k : ℕ) → r.kind ≡ k → Within 1 7 k → (carries_mask k ≡ true → r.mask ≡ 0 → ⊥) → silent_b r ≡ true → ⊥
says_something r k isK w d e =
    ⊎_elim
    (λ h. says_no (dec_within 1 7 r.kind) (not-true (within_b 1 7 r.kind) h) (subst (Within 1 7) (sym isK) w))
    (λ h.
    d (ap carries_mask (sym isK) ∙ and_first (carries_mask r.kind) (eqb r.mask 0) h)
    (eqb-true r.mask 0 (and_second (carries_mask r.kind) (eqb r.mask 0) h)))
    (or_cases (not (within_b 1 7 r.kind)) (carries_mask r.kind && eqb r.mask 0) e)

-- a key that it has is one of those that are asked for
module _ (keys : List ℕ) (r : Record) (k x : ℕ) (isK : r.kind ≡ k) (low : x < key_numbers) where
  stands_with : (b : ℕ) → r.a ≡ key_a x → b ≡ key_b x → r.c ≡ key_c x → with_b keys r b ≡ true → KeyStands keys (length keys) k x
  stands_with b is_a is_b is_c e = stands keys k x (fact_key r.kind r.a b r.c) (omega arith) e

  held : has_key (key_a x) (key_b x) (key_c x) r ≡ true → held_b keys r ≡ true → KeyStands keys (length keys) k x
  held h e = go (eqb r.kind 3) (eqb r.b 3) refl refl e
    where
      K : (r.a ≡ key_a x) × (says_b r (key_b x) ≡ true) × (r.c ≡ key_c x)
      K = key_has (key_a x) (key_b x) (key_c x) r h

      one : (SaysBoth r → ⊥) → with_b keys r r.b ≡ true → KeyStands keys (length keys) k x
      one d t =
          ⊎_elim (λ s. absurd (d s.0)) (λ s. stands_with r.b K.0 s.1 K.2 t) (says_cases r (key_b x) K.1)

      both : SaysBoth r → (with_b keys r 1 && with_b keys r 2) ≡ true → KeyStands keys (length keys) k x
      both s t =
          ⊎_elim
          (λ c.
          ⊎_elim (λ b. stands_with 1 K.0 (sym b) K.2 (and_first (with_b keys r 1) (with_b keys r 2) t))
          (λ b. stands_with 2 K.0 (sym b) K.2 (and_second (with_b keys r 1) (with_b keys r 2) t))
          c.1)
          (λ c. absurd (c.0 s))
          (says_cases r (key_b x) K.1)

      go : (m n : Bool) → eqb r.kind 3 ≡ m → eqb r.b 3 ≡ n → cond (m && n) (with_b keys r 1 && with_b keys r 2) (with_b keys r r.b) ≡ true
          → KeyStands keys (length keys) k x
      go true true a b t = both (eqb-true r.kind 3 a, eqb-true r.b 3 b) t
      go true false a b t = one (λ s. eqb-false r.b 3 b s.1) t
      go false n a b t = one (λ s. eqb-false r.kind 3 a s.0) t

module _ (p : Policy) (keys masks : List ℕ) (e : table_b p keys masks ≡ true) where
  abbrev all_covered : Bool
  all_covered = all_upto (λ i. covered_b keys (p.rec i)) p.size

  entered : (entries_b p keys masks && all_covered) ≡ true
  entered = and_second (rises_b 0 keys) (entries_b p keys masks && all_covered) e

  covered : (k x i : ℕ) → Within 1 7 k → x < key_numbers → OfKind p k i → has_key (key_a x) (key_b x) (key_c x) (p.rec i) ≡ true
      → (carries_mask k ≡ true → (p.rec i).mask ≡ 0 → ⊥) → KeyStands keys (length keys) k x
  covered k x i w low o h d =
      let r = p.rec i in
      ⊎_elim
      (λ s. absurd (says_something r k o.kind w d s))
      (held keys r k x o.kind low h)
      (or_cases (silent_b r) (held_b keys r)
      (all_at (λ i. covered_b keys (p.rec i)) p.size i (and_second (entries_b p keys masks) all_covered entered) o.low o.high))

  every_written : (k x : ℕ) → Within 1 7 k → x < key_numbers → Written p k x → KeyStands keys (length keys) k x
  every_written k x w low t = go (carries_mask k) refl t
    where
      united : ℕ
      united = united_mask p k (key_a x) (key_b x) (key_c x)

      go : (m : Bool) → carries_mask k ≡ m → cond m (not (eqb united 0)) (is_stated p k (key_a x) (key_b x) (key_c x)) ≡ true → KeyStands keys (length keys) k x
      go true m t =
          let f = mask_found (permits p k (key_a x) (key_b x) (key_c x)) 32 (eqb-false united 0 (not-true (eqb united 0) t)) in
          let s = permits_record p k (key_a x) (key_b x) (key_c x) f.0 f.2 in
          covered k x s.0 w low s.1 s.2 (λ _ z. clash s.3 (ap (λ (n : ℕ). bit n f.0) z ∙ bit_zero f.0))
      go false m t =
          let s = states_record p k (key_a x) (key_b x) (key_c x) t in
          covered k x s.0 w low s.1 s.2 (λ n _. clash n m)

  pub table_computed : FactTable p keys masks (length keys)
  table_computed =
      record {
        rising = rises 0 keys (and_first (rises_b 0 keys) (entries_b p keys masks && all_covered) e);
        entry = entries p keys masks (and_first (entries_b p keys masks) all_covered entered);
        every = every_written;
      }

-- ---- the canonical list of p, by the records of its facts
abbrev pub computed_list : Policy → List Record → List Record
computed_list p facts = facts ++ map (renumbered to) (kind_list p 8) ++ map (renumbered to) (kind_list p 9)
  where
    to : ℕ → ℕ
    to n = length facts + length (kind_list p 8) + nodes_upto p n

-- .. where these are given: they are the records of kinds 1 to 7 of q
module _ (p q : Policy) where
  abbrev keys_of : List ℕ
  keys_of = map (λ r. fact_key r.kind r.a r.b r.c) (kinds_upto (kind_list q) 7)

  abbrev masks_of : List ℕ
  masks_of = map (λ r. r.mask) (kinds_upto (kind_list q) 7)

  abbrev pub facts_b : Bool
  facts_b = table_b p keys_of masks_of

  abbrev row_of : ℕ → Record
  row_of i = table_record (get_or keys_of (i - 1) 0) (get_or masks_of (i - 1) 0)

  abbrev pub computed_facts : List Record
  computed_facts = records_upto row_of (length keys_of)

  pub facts_computed : facts_b ≡ true → kinds_upto (fact_kind p) 7 ≡ computed_facts
  facts_computed e =
      table_list (table_computed p keys_of masks_of e) row_of
      (λ i h. ap (λ (j : ℕ). table_record (get_or keys_of j 0) (get_or masks_of j 0)) (let z : suc i - 1 ≡ i = omega arith in z))

  pub list_computed : facts_b ≡ true → canonical_list p ≡ computed_list p computed_facts
  list_computed e = ap (computed_list p) (facts_computed e)
