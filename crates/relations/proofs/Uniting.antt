-- The loop that unites the masks of the records that state a fact: what its mask m says where the iterator stands at `it`.
use Prim.Native.Nat.{ℕ}
use mathlib.Core.Bool.{Bool, true, false, ◌&&◌}
use mathlib.Core.List.{List}
use mathlib.Core.Logic.{⊎_elim}
use mathlib.Core.Path.{◌≡◌, sym, ap, ◌∙◌}
use lib.Bits.{bit_or}
use Rattle.base.specs.Bits.{bit}
use Rattle.base.proofs.BitLaws.{bit_or_lem, bit_zero}
use Rattle.base.proofs.BoolLaws.{or_true, or_left, or_cases, and_true, and_first, and_second, same_truth, clash}
use Rattle.policy_image.specs.declared.records.Record.{Record}
use Rattle.policy_image.specs.Inner.Kinds.{kind_number}
use Rattle.policy_image.specs.Layout.{policy_head, record_of}
use Rattle.policy_image.specs.Policy.{policy_of}
use Rattle.policy_image.specs.OfKind.{some}
use Rattle.policy_links.specs.declared.records.Records.{Records}
use Rattle.policy_links.specs.Inner.Walking.{GivesNext}
use Rattle.policy_links.proofs.KindLaws.{some_yes, some_record}
use Rattle.policy_links.proofs.Walking.{Along, given_is, along_map, along_start, along_step, along_kind, along_end}
use Rattle.policy_check.specs.Inner.Sound.{Sound}
use Rattle.relations.specs.declared.facts.Fact.{Fact}
use Rattle.relations.specs.Inner.Facts.{states, United}

-- the mask has what record j gives
abbrev Has : List ℕ → Fact → ℕ → ℕ → Type 0
Has s f m j = states f (record_of s j) ≡ true → (q : ℕ) → bit (record_of s j).mask q ≡ true → bit m q ≡ true

pub record Uniting (s : List ℕ) (f : Fact) (m : ℕ) (it : Records) : Type 0 where
  pub along : Along s f.kind (Has s f m) it
  pub from : (q : ℕ) → bit m q ≡ true → some (policy_of s) (kind_number f.kind) (λ r. states f r && bit r.mask q) ≡ true

module _ (s : List ℕ) (S : Sound s) (f : Fact) where
  pub uniting_start : {it : Records} → (it.image.now ≡ s) × (it.next ≡ policy_head s (kind_number f.kind)) → Uniting s f 0 it
  uniting_start e = record { along = along_start s S.links f.kind _ e; from = λ q h. absurd (clash h (bit_zero q)) }

  module _ (m : ℕ) {it it' : Records} {r : Record} (u : Uniting s f m it) (g : GivesNext it r it') where
    -- what is found of the record as read holds of the policy's record
    stated : {b : Bool} → states f r ≡ b → states f (record_of s it.next) ≡ b
    stated e = ap (states f) (sym (given_is s u.along.image g)) ∙ e

    -- the record does not state the fact
    pub uniting_pass : states f r ≡ false → Uniting s f m it'
    uniting_pass e =
        record {
          along = along_step s S.links f.kind _ u.along g (λ h. absurd (clash h (stated e)));
          from = u.from;
        }

    -- the record states the fact, and its mask joins
    pub uniting_join : states f r ≡ true → Uniting s f (bit_or m r.mask) it'
    uniting_join e =
        let k = ap (λ (x : Record). x.mask) (given_is s u.along.image g) in
        record {
          along = along_step s S.links f.kind _
              (along_map s f.kind (Has s f m) (Has s f (bit_or m r.mask))
              (λ j h a q b. bit_or_lem m r.mask q ∙ or_left (bit m q) (bit r.mask q) (h a q b)) u.along)
              g (λ a q b. bit_or_lem m r.mask q ∙ or_true (bit m q) (bit r.mask q) (ap (λ (x : ℕ). bit x q) k ∙ b));
          from = λ q h.
              ⊎_elim (u.from q)
              (λ b. some_yes (policy_of s) (kind_number f.kind) (λ r. states f r && bit r.mask q) it.next (along_kind s S.links f.kind _ u.along g S.chains)
              (and_true (states f (record_of s it.next)) (bit (record_of s it.next).mask q) (stated e) (ap (λ (x : ℕ). bit x q) (sym k) ∙ b)))
              (or_cases (bit m q) (bit r.mask q) (sym (bit_or_lem m r.mask q) ∙ h));
        }

  pub uniting_end : (m : ℕ) {it : Records} → Uniting s f m it → it.next ≡ 0 → United (policy_of s) f m
  uniting_end m u z =
      record {
        at = λ q.
            same_truth (bit m q) (some (policy_of s) (kind_number f.kind) (λ r. states f r && bit r.mask q)) (u.from q)
            (λ h.
            let r = some_record (policy_of s) (kind_number f.kind) (λ r. states f r && bit r.mask q) h in
            let i : ℕ = r.0 in
            along_end s S.links f.kind _ S.chains u.along z i r.1
            (and_first (states f (record_of s i)) (bit (record_of s i).mask q) r.2) q
            (and_second (states f (record_of s i)) (bit (record_of s i).mask q) r.2));
      }
