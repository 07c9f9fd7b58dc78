-- Question 14 of the canonical policy: its domains are those of the policy, and each of its allow records has the source of one of the policy's.
use Prim.Native.Nat.{ℕ}
use mathlib.Core.Path.{◌≡◌, refl, sym, ap, ◌∙◌}
use mathlib.Core.Bool.{Bool, true, not}
use mathlib.Core.Logic.{⊎_elim}
use native.Mathlib.Omega.{arith}
use Rattle.base.specs.Ranges.{Within}
use Rattle.base.proofs.BoolLaws.{clash, true_or_false}
use Rattle.policy_image.specs.declared.records.Record.{Record}
use Rattle.policy_image.specs.Counts.{CountsInRange}
use Rattle.policy_image.specs.Policy.{Policy}
use Rattle.policy_image.specs.OfKind.{every}
use Rattle.policy_links.proofs.KindLaws.{every_record}
use Rattle.policy_fields.specs.Fields.{FieldsInRange}
use Rattle.policy_sources.specs.Sources.{domain, AllowsFromDomains}
use Rattle.policy_lists.specs.Inner.Tests.{IgnoresNext}
use Rattle.policy_lists.proofs.ListLaws.{every_not}
use Rattle.policy_facts.specs.Canonical.{key_a, key_b, key_c, key_numbers, fact_record, canonical_of}
use Rattle.policy_facts.specs.Inner.FactTable.{Written}
use Rattle.policy_facts.proofs.FactListLaws.{fact_some}
use Rattle.policy_facts.proofs.KeyLaws.{key_has}
use Rattle.policy_facts.proofs.StatedLaws.{some_fact, written_key}
use Rattle.policy_facts.proofs.RelationLaws.{canonical_facts, domain_same}

-- every record of kind k passes where that of each key that is written does
every_fact : (p : Policy) (k : ℕ) (f : Record → Bool) → IgnoresNext f → Within 1 7 k → ((x : ℕ) → Written p k x → f (fact_record p k x) ≡ true)
    → every (canonical_of p) k f ≡ true
every_fact p k f I w h =
    every_not (canonical_of p) k f ∙ ap not (some_fact p k (λ r. not (f r)) (λ n r. ap not (I n r)) w)
    ∙ ⊎_elim
    (λ e. let s = fact_some p k (λ r. not (f r)) key_numbers e in absurd (clash s.3 (ap not (h s.0 s.2))))
    (λ e. ap not e)
    (true_or_false _)

pub canonical_sources : (p : Policy) → CountsInRange p.counts → FieldsInRange p → AllowsFromDomains p → AllowsFromDomains (canonical_of p)
canonical_sources p C E A =
    every_fact p 4 (λ r. domain (canonical_of p) r.a) (λ n r. refl) (record { low = omega arith; high = omega arith })
    (λ x W.
    let s = written_key p 4 (key_a x) (key_b x) (key_c x) W in
    let h = key_has (key_a x) (key_b x) (key_c x) (p.rec s.0) s.2 in
    domain_same (canonical_facts p C E) (key_a x) ∙ ap (domain p) (sym h.0) ∙ every_record p 4 (λ r. domain p r.a) A s.0 s.1)
