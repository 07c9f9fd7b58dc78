-- Question 14 of the joined policy: what is a domain in one of the two is one in the result, so each allow record keeps a source that is one.
use Prim.Native.Nat.{ℕ, ◌≤◌}
use mathlib.Core.Path.{◌≡◌, refl, ap, ◌∙◌}
use mathlib.Core.Bool.{Bool, true, ◌||◌}
use native.Mathlib.Omega.{arith}
use lib.Dec.{eqb}
use Rattle.base.proofs.BoolLaws.{or_true, or_left, and_true}
use Rattle.policy_image.specs.declared.records.Record.{Record}
use Rattle.policy_image.specs.Policy.{Policy}
use Rattle.policy_image.specs.OfKind.{every}
use Rattle.policy_links.proofs.KindLaws.{every_yes, every_record}
use Rattle.policy_sources.specs.Sources.{domain, AllowsFromDomains}
use Rattle.policy_lists.specs.Joined.{makers_node, boards_node, renumbered, joined}
use Rattle.policy_lists.proofs.JoinLaws.{some_of_both, every_joined}
use Rattle.policy_lists.proofs.RenumberLaws.{renumbered_same}

module _ (p q : Policy) where
  -- the domains of the result are those of both
  pub joined_domain : (t : ℕ) → domain (joined p q) t ≡ (domain p t || domain q t)
  unfolding domain
  joined_domain t = some_of_both p q 1 (λ r. eqb r.a t) (λ n r. refl) (record { low = omega arith; high = omega arith })

  -- the allow records of one of the two, whose domains are domains of the result
  sources_stay : (o : Policy) (to : ℕ → ℕ) → ((t : ℕ) → domain o t ≡ true → domain (joined p q) t ≡ true) → AllowsFromDomains o
      → every o 4 (λ r. domain (joined p q) (renumbered to r).a) ≡ true
  sources_stay o to h A =
      every_yes o 4 (λ r. domain (joined p q) (renumbered to r).a)
      (λ i O.
      let k = O.kind in
      ap (λ (r : Record). domain (joined p q) r.a) (renumbered_same to (o.rec i) (let b : (o.rec i).kind ≤ 7 = omega arith in b))
      ∙ h (o.rec i).a (every_record o 4 (λ r. domain o r.a) A i O))

  pub joined_sources : AllowsFromDomains p → AllowsFromDomains q → AllowsFromDomains (joined p q)
  joined_sources A B =
      let makers : Record → Bool = λ r. domain (joined p q) (renumbered (makers_node p q) r).a in
      let boards : Record → Bool = λ r. domain (joined p q) (renumbered (boards_node p q) r).a in
      every_joined p q 4 (λ r. domain (joined p q) r.a) (λ n r. refl) (record { low = omega arith; high = omega arith })
      ∙ and_true (every p 4 makers) (every q 4 boards)
      (sources_stay p (makers_node p q) (λ t h. joined_domain t ∙ or_left (domain p t) (domain q t) h) A)
      (sources_stay q (boards_node p q) (λ t h. joined_domain t ∙ or_true (domain p t) (domain q t) h) B)
