-- What the joined policy of two that pass question 6 authorizes: what both lists taken together do, and with a list of no records nothing else
-- than the other list alone.
use Prim.Native.Nat.{ℕ, ◌<◌}
use mathlib.Core.Path.{◌≡◌, refl, sym, ap, ◌∙◌}
use mathlib.Core.Bool.{Bool, true, false, ◌&&◌, ◌||◌}
use native.Mathlib.Omega.{arith}
use Rattle.base.proofs.BoolLaws.{or_none, and_yes}
use Rattle.policy_image.specs.declared.records.Record.{Record}
use Rattle.policy_image.specs.Policy.{Policy}
use Rattle.policy_image.specs.OfKind.{some}
use Rattle.policy_links.proofs.KindLaws.{some_no, every_yes}
use Rattle.policy_expressions.specs.Nodes.{NodesInOrder}
use Rattle.policy_lists.specs.Joined.{joined}
use Rattle.policy_lists.proofs.JoinLaws.{some_of_both}
use Rattle.context.specs.declared.Context.{Context}
use Rattle.context.specs.declared.Event.{Event}
use Rattle.constraints.specs.Constraints.{constraints_hold}
use Rattle.access.specs.Authorization.{authorized, flow}
use Rattle.image_laws.proofs.CarryLaws.{says}
use Rattle.relations.proofs.CountedLaws.{AllCount}
use Rattle.join_laws.specs.Cases.Both.{TakenTogether, authorized_both, flow_both}
use Rattle.join_laws.proofs.JoinEvalLaws.{joined_constraints}
use Rattle.join_laws.proofs.BothLaws.{Adds, together, together_authorized, together_flow}

-- ---- both lists taken together
pub joined_adds : (p q : Policy) → Adds (joined p q) p q
joined_adds p q k f a b I = some_of_both p q k f I (record { low = a; high = b })

module _ (p q : Policy) (cp : AllCount p) (cq : AllCount q) (small : (joined p q).size < 65536) (N : NodesInOrder p) (M : NodesInOrder q) where
  -- "Its relations are those of both record lists taken together"
  pub joined_together : TakenTogether (joined p q) p q
  joined_together = together (joined p q) p q (joined_adds p q) (λ i. refl) cp cq (joined_constraints p q small N M)

  pub joined_authorized : (e : Event) (x y : Context) → authorized (joined p q) e x y ≡ authorized_both p q e x y
  joined_authorized = together_authorized (joined p q) p q joined_together

  pub joined_flow : (e : Event) (x y : Context) → flow (joined p q) e x y ≡ flow_both p q e x y
  joined_flow = together_flow (joined p q) p q joined_together

-- ---- a list of no records adds nothing
module _ (o : Policy) (z : o.size ≡ 0) where
  nothing_some : (k : ℕ) (f : Record → Bool) → some o k f ≡ false
  nothing_some k f = some_no o k f (λ i K. let n : ⊥ = omega (arith, K.low, K.high) in absurd n)

  nothing_forbids : (e : Event) (x y : Context) → constraints_hold o e x y ≡ true
  unfolding constraints_hold
  nothing_forbids e x y = every_yes o 8 (says e x y o) (λ i K. let n : ⊥ = omega (arith, K.low, K.high) in absurd n)

pub empty_board : (p q : Policy) → AllCount p → AllCount q → q.size ≡ 0 → TakenTogether p p q
empty_board p q cp cq z =
    together p p q (λ k f a b I. sym (or_none (some p k f) (some q k f) (nothing_some q z k f))) cp cp cq
    (λ e x y. sym (and_yes (constraints_hold p e x y) (constraints_hold q e x y) (nothing_forbids q z e x y)))

pub empty_maker : (p q : Policy) → AllCount p → AllCount q → p.size ≡ 0 → TakenTogether q p q
empty_maker p q cp cq z =
    together q p q (λ k f a b I. ap (λ (t : Bool). t || some q k f) (sym (nothing_some p z k f))) cq cp cq
    (λ e x y. ap (λ (t : Bool). t && constraints_hold q e x y) (sym (nothing_forbids p z e x y)))

-- so joining with it changes no authorization and no flow
module _ (p q : Policy) (cp : AllCount p) (cq : AllCount q) (small : (joined p q).size < 65536) (N : NodesInOrder p) (M : NodesInOrder q) (e : Event) (x y : Context) where
  pub empty_board_authorized : q.size ≡ 0 → authorized (joined p q) e x y ≡ authorized p e x y
  empty_board_authorized z = joined_authorized p q cp cq small N M e x y ∙ sym (together_authorized p p q (empty_board p q cp cq z) e x y)

  pub empty_board_flow : q.size ≡ 0 → flow (joined p q) e x y ≡ flow p e x y
  empty_board_flow z = joined_flow p q cp cq small N M e x y ∙ sym (together_flow p p q (empty_board p q cp cq z) e x y)

  pub empty_maker_authorized : p.size ≡ 0 → authorized (joined p q) e x y ≡ authorized q e x y
  empty_maker_authorized z = joined_authorized p q cp cq small N M e x y ∙ sym (together_authorized q p q (empty_maker p q cp cq z) e x y)

  pub empty_maker_flow : p.size ≡ 0 → flow (joined p q) e x y ≡ flow q e x y
  empty_maker_flow z = joined_flow p q cp cq small N M e x y ∙ sym (together_flow q p q (empty_maker p q cp cq z) e x y)
