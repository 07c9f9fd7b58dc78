-- The loop over the records of a kind that adds the bits `mk r` of each record r to the entry `ix r` of a table, whatever ix
-- and mk are: what the table l' says where the iterator stands at `it`, l being the table at its start.
use Prim.Native.Nat.{ℕ, ◌<◌}
use mathlib.Core.Bool.{Bool, true, ◌&&◌, ◌||◌}
use mathlib.Core.List.{List}
use mathlib.Core.Logic.{◌⊎◌, inl, inr, ⊎_elim}
use mathlib.Core.Path.{◌≡◌, refl, sym, ap, subst, ◌∙◌}
use borrow.Author.Tests.{eq-eqb, eqb-true}
use lib.Dec.{eqb}
use lib.ListN.{length, get_or, set, length-set}
use lib.Seq.{get_or-set_same, get_or-set_other}
use Rattle.base.specs.Bits.{bit}
use Rattle.base.proofs.Numbers.{split_eq}
use Rattle.base.proofs.BoolLaws.{or_true, or_left, or_cases, and_true, and_first, and_second, same_truth}
use Rattle.policy_image.specs.declared.records.Record.{Record}
use Rattle.policy_image.specs.declared.kinds.Kind.{Kind}
use Rattle.policy_image.specs.Inner.Kinds.{kind_number}
use Rattle.policy_image.specs.Layout.{policy_head, record_of}
use Rattle.policy_image.specs.Policy.{policy_of}
use Rattle.policy_image.specs.OfKind.{some}
use Rattle.policy_links.specs.declared.records.Records.{Records}
use Rattle.policy_links.specs.Inner.Walking.{GivesNext}
use Rattle.policy_links.proofs.KindLaws.{some_yes, some_record}
use Rattle.policy_links.proofs.Walking.{Along, given_is, along_map, along_start, along_step, along_kind, along_end}
use Rattle.policy_check.specs.Inner.Sound.{Sound}

-- the table has what record j adds
abbrev Has : List ℕ → (Record → ℕ) → (Record → ℕ) → List ℕ → ℕ → Type 0
Has s ix mk l' j = (q : ℕ) → bit (mk (record_of s j)) q ≡ true → bit (get_or l' (ix (record_of s j)) 0) q ≡ true

-- whether a record adds bit q to entry t
abbrev pub gives : (Record → ℕ) → (Record → ℕ) → ℕ → ℕ → Record → Bool
gives ix mk t q r = eqb (ix r) t && bit (mk r) q

pub record Gathering (s : List ℕ) (k : Kind) (ix mk : Record → ℕ) (l l' : List ℕ) (it : Records) : Type 0 where
  pub size : length l' ≡ length l
  pub along : Along s k (Has s ix mk l') it
  pub keeps : (t q : ℕ) → bit (get_or l t 0) q ≡ true → bit (get_or l' t 0) q ≡ true
  pub from : (t q : ℕ) → bit (get_or l' t 0) q ≡ true → (some (policy_of s) (kind_number k) (gives ix mk t q) || bit (get_or l t 0) q) ≡ true

-- an entry to which the bits m are added, so that its value is v: it has them and what it had, and the others are as they were
module _ (l : List ℕ) (x m v : ℕ) (both : (q : ℕ) → bit v q ≡ (bit (get_or l x 0) q || bit m q)) (room : x < length l) where
  abbrev joined : List ℕ
  joined = set l x v

  joined_at : (q : ℕ) → bit (get_or joined x 0) q ≡ (bit (get_or l x 0) q || bit m q)
  joined_at q = ap (λ (n : ℕ). bit n q) (get_or-set_same l x v 0 room) ∙ both q

  joined_off : (t q : ℕ) → (t ≡ x → ⊥) → bit (get_or joined t 0) q ≡ bit (get_or l t 0) q
  joined_off t q n = ap (λ (n : ℕ). bit n q) (get_or-set_other l x t v 0 n)

  joined_keeps : (t q : ℕ) → bit (get_or l t 0) q ≡ true → bit (get_or joined t 0) q ≡ true
  joined_keeps t q h =
      ⊎_elim
      (λ e. subst (λ (y : ℕ). bit (get_or joined y 0) q ≡ true) (sym e)
      (joined_at q ∙ or_left (bit (get_or l x 0) q) (bit m q) (subst (λ (y : ℕ). bit (get_or l y 0) q ≡ true) e h)))
      (λ n. joined_off t q n ∙ h)
      (split_eq t x)

  joined_from : (t q : ℕ) → bit (get_or joined t 0) q ≡ true → (bit (get_or l t 0) q ≡ true) ⊎ ((x ≡ t) × (bit m q ≡ true))
  joined_from t q h =
      ⊎_elim
      (λ e. ⊎_elim (λ a. inl (subst (λ (y : ℕ). bit (get_or l y 0) q ≡ true) (sym e) a)) (λ a. inr (sym e, a))
      (or_cases (bit (get_or l x 0) q) (bit m q) (sym (joined_at q) ∙ subst (λ (y : ℕ). bit (get_or joined y 0) q ≡ true) e h)))
      (λ n. inl (sym (joined_off t q n) ∙ h))
      (split_eq t x)

module _ (s : List ℕ) (S : Sound s) (k : Kind) (ix mk : Record → ℕ) (l : List ℕ) where
  -- whether some record of the kind adds bit q to entry t
  abbrev given : ℕ → ℕ → Bool
  given t q = some (policy_of s) (kind_number k) (gives ix mk t q)

  pub gathering_start : {it : Records} → (it.image.now ≡ s) × (it.next ≡ policy_head s (kind_number k)) → Gathering s k ix mk l l it
  gathering_start e =
      record {
        size = refl;
        along = along_start s S.links k _ e;
        keeps = λ t q h. h;
        from = λ t q h. or_true (given t q) (bit (get_or l t 0) q) h;
      }

  -- the record r adds its bits to its entry, whose value is then v
  pub gathering_step : (l' : List ℕ) {it it' : Records} {r : Record} → Gathering s k ix mk l l' it → GivesNext it r it'
      → (v : ℕ) → ((q : ℕ) → bit v q ≡ (bit (get_or l' (ix r) 0) q || bit (mk r) q)) → ix r < length l'
      → Gathering s k ix mk l (set l' (ix r) v) it'
  gathering_step l' {it} {it'} {r} g n v both room =
      record {
        size = length-set l' (ix r) v ∙ g.size;
        along = along_step s S.links k _
            (along_map s k (Has s ix mk l') (Has s ix mk (set l' (ix r) v))
            (λ j h q b. joined_keeps l' (ix r) (mk r) v both room (ix (record_of s j)) q (h q b)) g.along)
            n
            (λ q b. subst (λ (x : Record). bit (get_or (set l' (ix r) v) (ix x) 0) q ≡ true) is
            (joined_at l' (ix r) (mk r) v both room q
            ∙ or_true (bit (get_or l' (ix r) 0) q) (bit (mk r) q) (ap (λ (x : Record). bit (mk x) q) is ∙ b)));
        keeps = λ t q h. joined_keeps l' (ix r) (mk r) v both room t q (g.keeps t q h);
        from = λ t q h.
            ⊎_elim (g.from t q)
            (λ b. or_left (given t q) (bit (get_or l t 0) q)
            (some_yes (policy_of s) (kind_number k) (gives ix mk t q) it.next (along_kind s S.links k _ g.along n S.chains)
            (subst (λ (x : Record). gives ix mk t q x ≡ true) is (and_true (eqb (ix r) t) (bit (mk r) q) (eq-eqb (ix r) t b.0) b.1))))
            (joined_from l' (ix r) (mk r) v both room t q h);
      }
    where
      is : r ≡ record_of s it.next
      is = given_is s g.along.image n

  -- at the end each entry has what it had and what the records of the kind add
  pub gathering_end : (l' : List ℕ) {it : Records} → Gathering s k ix mk l l' it → it.next ≡ 0 → (t q : ℕ)
      → bit (get_or l' t 0) q ≡ (given t q || bit (get_or l t 0) q)
  gathering_end l' g z t q =
      same_truth (bit (get_or l' t 0) q) (given t q || bit (get_or l t 0) q) (g.from t q)
      (λ h. ⊎_elim found (g.keeps t q) (or_cases (given t q) (bit (get_or l t 0) q) h))
    where
      found : given t q ≡ true → bit (get_or l' t 0) q ≡ true
      found h =
          let r = some_record (policy_of s) (kind_number k) (gives ix mk t q) h in
          let x : Record = record_of s r.0 in
          subst (λ (y : ℕ). bit (get_or l' y 0) q ≡ true) (eqb-true (ix x) t (and_first (eqb (ix x) t) (bit (mk x) q) r.2))
          (along_end s S.links k _ S.chains g.along z r.0 r.1 q (and_second (eqb (ix x) t) (bit (mk x) q) r.2))
