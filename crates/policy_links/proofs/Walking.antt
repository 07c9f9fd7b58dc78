-- A loop over the records of a kind: at each turn it is `Along` the chain, and holds a record of the kind.
use Prim.Native.Nat.{ℕ, ◌≤◌}
use mathlib.Core.List.{List}
use mathlib.Core.Path.{◌≡◌, ap, subst, ◌∙◌}
use native.Mathlib.Omega.{arith}
use Rattle.base.proofs.ChainLaws.{Visit, visit_map, visit_start, visit_step}
use Rattle.policy_image.specs.declared.records.Record.{Record}
use Rattle.policy_image.specs.declared.kinds.Kind.{Kind}
use Rattle.policy_image.specs.Inner.Kinds.{kind_number}
use Rattle.policy_image.specs.Layout.{policy_head, record_of}
use Rattle.policy_image.specs.Policy.{policy_of, policy_links}
use Rattle.policy_image.proofs.KindRange.{kind_within}
use Rattle.policy_image.proofs.FieldLaws.{SameFields, same_fields}
use Rattle.policy_links.specs.Chains.{LinksRise, ChainsByKind}
use Rattle.policy_links.specs.declared.records.Records.{Records}
use Rattle.policy_links.specs.Inner.Walking.{GivesNext}
use Rattle.policy_links.proofs.KindLaws.{OfKind, visit_kind, visit_all}

-- the iterator goes along the chain of kind k of the image s, and Q holds of every record that it has given
pub record Along (s : List ℕ) (k : Kind) (Q : ℕ → Type 0) (it : Records) : Type 0 where
  pub image : it.image.now ≡ s
  pub visit : Visit (policy_links (policy_of s)) (kind_number k) Q it.next

-- what holds of the records that it has given may be weakened
pub along_map : (s : List ℕ) (k : Kind) (Q R : ℕ → Type 0) → ((j : ℕ) → Q j → R j) → {it : Records} → Along s k Q it → Along s k R it
along_map s k Q R f {it} a = record { image = a.image; visit = visit_map (policy_links (policy_of s)) (kind_number k) it.next Q R f a.visit }

-- the record that is given is the one where the iterator stood
module _ (s : List ℕ) {it it' : Records} {r : Record} (e : it.image.now ≡ s) (g : GivesNext it r it') where
  pub given_is : r ≡ record_of s it.next
  given_is = g.read.same ∙ ap (λ (t : List ℕ). record_of t it.next) e

  pub given_same : SameFields r (record_of s it.next)
  given_same = same_fields given_is

module _ (s : List ℕ) (L : LinksRise (policy_of s)) (k : Kind) (Q : ℕ → Type 0) where
  in_range : policy_head s (kind_number k) ≤ (policy_of s).size
  in_range = L.heads (kind_number k) (kind_within k).low (kind_within k).high

  pub along_start : {it : Records} → (it.image.now ≡ s) × (it.next ≡ policy_head s (kind_number k)) → Along s k Q it
  along_start {it} e =
      record { image = e.0; visit = visit_start (policy_links (policy_of s)) (kind_number k) in_range L.nexts Q it.next e.1 }

  module _ {it it' : Records} {r : Record} (a : Along s k Q it) (g : GivesNext it r it') where
    pub along_step : Q it.next → Along s k Q it'
    along_step q =
        record {
          image = g.image ∙ a.image;
          visit = visit_step (policy_links (policy_of s)) (kind_number k) in_range L.nexts Q it.next (let l = g.low in omega arith) a.visit it'.next
              (g.next ∙ (given_same s a.image g).next) q;
        }

    -- the record is of the kind
    pub along_kind : ChainsByKind (policy_of s) → OfKind (policy_of s) (kind_number k) it.next
    along_kind C =
        visit_kind (policy_of s) L C (kind_number k) (kind_within k).low (kind_within k).high Q it.next (let l = g.low in omega arith) a.visit

  -- at the end Q holds of every record of the kind
  pub along_end : ChainsByKind (policy_of s) → {it : Records} → Along s k Q it → it.next ≡ 0 → (i : ℕ) → OfKind (policy_of s) (kind_number k) i → Q i
  along_end C a z =
      visit_all (policy_of s) L C (kind_number k) (kind_within k).low (kind_within k).high Q (subst (Visit (policy_links (policy_of s)) (kind_number k) Q) z a.visit)
