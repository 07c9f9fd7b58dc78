-- Two policies that agree on all that an image holds: the counts, the heads of kinds 1 to 9 and records 1 to N. What the records of a kind
-- state is the same for both.
use Prim.Native.Nat.{ℕ, ◌≤◌}
use mathlib.Core.Path.{◌≡◌, refl, sym, ap, subst, ◌∙◌}
use mathlib.Core.Bool.{Bool, true, not}
use Rattle.base.specs.Ranges.{Within}
use Rattle.base.proofs.BoolLaws.{same_truth}
use Rattle.policy_image.specs.declared.records.Record.{Record}
use Rattle.policy_image.specs.Policy.{Policy}
use Rattle.policy_image.specs.OfKind.{some, every}
use Rattle.policy_links.proofs.KindLaws.{OfKind, some_yes, some_record}
use Rattle.policy_lists.proofs.ListLaws.{every_not}

pub record Agrees (p q : Policy) : Type 0 where
  pub counts : p.counts ≡ q.counts
  pub size : p.size ≡ q.size
  pub heads : (k : ℕ) → Within 1 9 k → p.head k ≡ q.head k
  pub records : (i : ℕ) → Within 1 p.size i → p.rec i ≡ q.rec i

pub agrees_itself : (p : Policy) → Agrees p p
agrees_itself p = record { counts = refl; size = refl; heads = λ k w. refl; records = λ i w. refl }

pub agrees_back : {p q : Policy} → Agrees p q → Agrees q p
agrees_back A =
    record {
      counts = sym A.counts;
      size = sym A.size;
      heads = λ k w. sym (A.heads k w);
      records = λ i w. sym (A.records i (subst (λ (n : ℕ). Within 1 n i) (sym A.size) w));
    }

-- ---- what the records of a kind state
module _ (p q : Policy) (A : Agrees p q) (k : ℕ) where
  pub agrees_record : (i : ℕ) → OfKind p k i → p.rec i ≡ q.rec i
  agrees_record i o = A.records i (record { low = o.low; high = o.high })

  pub agrees_kind : (i : ℕ) → OfKind p k i → OfKind q k i
  agrees_kind i o =
      record {
        low = o.low;
        high = subst (λ (n : ℕ). i ≤ n) A.size o.high;
        kind = ap (λ (r : Record). r.kind) (sym (agrees_record i o)) ∙ o.kind;
      }

  some_carried : (f g : Record → Bool) → ((i : ℕ) → OfKind p k i → f (p.rec i) ≡ g (q.rec i)) → some p k f ≡ true → some q k g ≡ true
  some_carried f g h e = let r = some_record p k f e in some_yes q k g r.0 (agrees_kind r.0 r.1) (sym (h r.0 r.1) ∙ r.2)

-- tests that agree on the records of the kind
module _ (p q : Policy) (A : Agrees p q) (k : ℕ) where
  pub some_agrees : (f g : Record → Bool) → ((i : ℕ) → OfKind p k i → f (p.rec i) ≡ g (q.rec i)) → some p k f ≡ some q k g
  some_agrees f g h =
      same_truth (some p k f) (some q k g) (some_carried p q A k f g h)
      (some_carried q p (agrees_back A) k g f (λ i o. sym (h i (agrees_kind q p (agrees_back A) k i o))))

  pub every_agrees : (f g : Record → Bool) → ((i : ℕ) → OfKind p k i → f (p.rec i) ≡ g (q.rec i)) → every p k f ≡ every q k g
  every_agrees f g h =
      every_not p k f ∙ ap not (some_agrees (λ r. not (f r)) (λ r. not (g r)) (λ i o. ap not (h i o))) ∙ sym (every_not q k g)
