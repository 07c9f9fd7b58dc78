-- The canonical list has the kinds in turn, so the canonical policy passes questions 3 and 4; and where its kinds end.
use Prim.Native.Nat.{ℕ, ◌+◌, ◌<◌}
use mathlib.Core.Path.{◌≡◌, ap, ◌∙◌}
use mathlib.Core.Bool.{Bool, cond}
use mathlib.Core.List.{map}
use native.Mathlib.Omega.{arith}
use borrow.Author.Tests.{lt-leb}
use lib.ListN.{length, length-map}
use Rattle.policy_image.specs.Policy.{Policy}
use Rattle.policy_links.specs.Chains.{LinksRise, ChainsByKind}
use Rattle.policy_lists.specs.Lists.{kind_list}
use Rattle.policy_lists.specs.Joined.{kinds_upto, renumbered}
use Rattle.policy_lists.specs.Inner.Tests.{KindsInTurn}
use Rattle.policy_lists.proofs.TurnLaws.{from_rises, from_chains}
use Rattle.policy_lists.proofs.JoinTurnLaws.{kinds_turn}
use Rattle.policy_lists.proofs.PlaceLaws.{ending_next}
use Rattle.policy_facts.specs.Canonical.{fact_kind, canonical_node, canonical_kind, canonical_list, canonical_of}
use Rattle.policy_facts.proofs.StatedLaws.{canonical_own}

module _ (p : Policy) where
  -- the records of kinds 8 and 9
  pub canonical_kept : (k : ℕ) → 7 < k → canonical_kind p k ≡ map (renumbered (canonical_node p)) (kind_list p k)
  canonical_kept k h = ap (λ (t : Bool). cond t (fact_kind p k) (map (renumbered (canonical_node p)) (kind_list p k))) (lt-leb k 7 h)

  -- "records by kind from 1 to 9"
  pub canonical_turn : KindsInTurn (canonical_list p)
  canonical_turn = kinds_turn (canonical_kind p) (canonical_own p) 9 (omega arith)

  -- questions 3 and 4 of the canonical policy
  pub canonical_rises : LinksRise (canonical_of p)
  canonical_rises = from_rises p.counts (canonical_list p)

  pub canonical_chains : ChainsByKind (canonical_of p)
  canonical_chains = from_chains p.counts (canonical_list p) canonical_turn

  -- ---- where kinds 8 and 9 end
  pub constraints_end : length (kinds_upto (canonical_kind p) 8) ≡ length (kinds_upto (fact_kind p) 7) + length (kind_list p 8)
  constraints_end =
      let e = length-map (kind_list p 8) (renumbered (canonical_node p)) in
      ending_next (canonical_kind p) 7 ∙ ap (λ (n : ℕ). length (kinds_upto (fact_kind p) 7) + n) e

  pub canonical_size : (canonical_of p).size ≡ length (kinds_upto (fact_kind p) 7) + length (kind_list p 8) + length (kind_list p 9)
  canonical_size =
      let e = length-map (kind_list p 9) (renumbered (canonical_node p)) in
      let a = constraints_end in
      let b = ending_next (canonical_kind p) 8 in
      omega arith
