-- The loop along the records of kind 1 that marks in a table the types that they name: what the table l says where it stands at record i.
use Prim.Native.Nat.{ℕ, ◌<◌}
use mathlib.Core.Bool.{true}
use mathlib.Core.List.{List}
use mathlib.Core.Logic.{⊎_elim}
use mathlib.Core.Path.{◌≡◌, refl, sym, ap, subst, ◌∙◌}
use native.Mathlib.Omega.{arith}
use borrow.Author.Tests.{eq-eqb, eqb-true}
use lib.Dec.{eqb}
use lib.ListN.{length, get_or, set, replicate, length-set}
use lib.Seq.{get_or-set_same, get_or-set_other}
use Rattle.base.specs.Bits.{bit}
use Rattle.base.proofs.BitLaws.{bit_zero}
use Rattle.base.proofs.BoolLaws.{same_truth, clash}
use Rattle.base.proofs.Numbers.{split_eq, zeros}
use Rattle.policy_image.specs.declared.records.Record.{Record}
use Rattle.policy_image.specs.declared.kinds.Kind.TheVariants.{Domain}
use Rattle.policy_image.specs.Layout.{policy_head, record_of}
use Rattle.policy_image.specs.Policy.{policy_of}
use Rattle.policy_links.specs.declared.records.Records.{Records}
use Rattle.policy_links.specs.Inner.Walking.{GivesNext}
use Rattle.policy_links.specs.Chains.{LinksRise, ChainsByKind}
use Rattle.policy_links.proofs.KindLaws.{some_yes, some_record}
use Rattle.policy_links.proofs.Walking.{Along, given_same, along_map, along_start, along_step, along_kind, along_end}
use Rattle.policy_sources.specs.Sources.{domain}
use Rattle.policy_sources.specs.Inner.Domains.{DomainTable}

-- entry t of the table is marked
abbrev Marked : List ℕ → ℕ → Type 0
Marked l t = bit (get_or l t 0) 0 ≡ true

pub record Marking (s : List ℕ) (l : List ℕ) (it : Records) : Type 0 where
  pub size : length l ≡ 256
  pub along : Along s Domain (λ j. Marked l (record_of s j).a) it
  pub from : (t : ℕ) → Marked l t → domain (policy_of s) t ≡ true

-- the entry x is marked, and the others are as they were
module _ (l : List ℕ) (x : ℕ) (room : x < length l) where
  marked_at : Marked (set l x 1) x
  unfolding bit
  marked_at = ap (λ (v : ℕ). bit v 0) (get_or-set_same l x 1 0 room)

  marked_keeps : (t : ℕ) → Marked l t → Marked (set l x 1) t
  marked_keeps t h =
      ⊎_elim (λ e. subst (Marked (set l x 1)) (sym e) marked_at) (λ n. ap (λ (v : ℕ). bit v 0) (get_or-set_other l x t 1 0 n) ∙ h) (split_eq t x)

module _ (s : List ℕ) (L : LinksRise (policy_of s)) (C : ChainsByKind (policy_of s)) where
  pub marking_start : {it : Records} → (it.image.now ≡ s) × (it.next ≡ policy_head s 1) → Marking s (replicate 256 0) it
  marking_start e =
      record {
        size = refl;
        along = along_start s L Domain _ e;
        from = λ t h. absurd (clash h (ap (λ (v : ℕ). bit v 0) (zeros 256 t) ∙ bit_zero 0));
      }

  -- record r marks its type
  pub marking_step : (l : List ℕ) {it it' : Records} {r : Record} → Marking s l it → GivesNext it r it' → Marking s (set l r.a 1) it'
  unfolding domain
  marking_step l {it} {it'} {r} m g =
      let of = (given_same s m.along.image g).a in
      let room : r.a < length l = omega (arith, m.size, g.read.bytes.a) in
      let a = along_map s Domain _ (λ j. Marked (set l r.a 1) (record_of s j).a) (λ j h. marked_keeps l r.a room (record_of s j).a h) m.along in
      let kind = along_kind s L Domain _ a g C in
      record {
        size = length-set l r.a 1 ∙ m.size;
        along = along_step s L Domain _ a g (subst (Marked (set l r.a 1)) of (marked_at l r.a room));
        from = λ t h.
            ⊎_elim
            (λ e. some_yes (policy_of s) 1 (λ r. eqb r.a t) it.next kind (eq-eqb (record_of s it.next).a t (sym of ∙ sym e)))
            (λ d. m.from t (ap (λ (v : ℕ). bit v 0) (sym (get_or-set_other l r.a t 1 0 d)) ∙ h))
            (split_eq t r.a);
      }

  -- at the end the types that are marked are the domains
  pub marking_end : (l : List ℕ) {it : Records} → Marking s l it → it.next ≡ 0 → DomainTable (policy_of s) l
  unfolding domain
  marking_end l m z =
      record {
        at = λ t.
            same_truth (bit (get_or l t 0) 0) (domain (policy_of s) t) (m.from t)
            (λ h.
            let r = some_record (policy_of s) 1 (λ r. eqb r.a t) h in
            subst (Marked l) (eqb-true (record_of s r.0).a t r.2) (along_end s L Domain _ C m.along z r.0 r.1));
      }
