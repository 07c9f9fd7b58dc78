-- The written image of the joined policy, of two images that pass the policy questions and have few enough records together: it passes them
-- too, and authorizes what both lists taken together do.
use Prim.Native.Nat.{ℕ, ◌+◌, ◌≤◌, ◌<◌}
use mathlib.Core.Path.{◌≡◌, refl, sym, ap, ◌∙◌}
use mathlib.Core.List.{List}
use native.Mathlib.Omega.{arith}
use Rattle.base.specs.Questions.{AllYes}
use Rattle.base.specs.Inner.AllBytes.{AllBytes}
use Rattle.policy_image.specs.Layout.{record_count}
use Rattle.policy_image.specs.Policy.{Policy, policy_of}
use Rattle.policy_image.specs.Inner.Writable.{Writable}
use Rattle.policy_image.proofs.EncodingLaws.{image_writable}
use Rattle.policy_expressions.specs.Nodes.{NodesInOrder}
use Rattle.policy_check.specs.Questions.{policy_questions}
use Rattle.policy_check.specs.Inner.Sound.{Sound}
use Rattle.policy_check.proofs.AnswerLaws.{sound}
use Rattle.policy_lists.specs.Joined.{joined}
use Rattle.policy_lists.proofs.CountLaws.{joined_counts_range}
use Rattle.policy_lists.proofs.JoinTurnLaws.{joined_rises, joined_chains}
use Rattle.policy_lists.proofs.JoinFieldLaws.{joined_fields}
use Rattle.policy_lists.proofs.JoinNodeLaws.{joined_nodes}
use Rattle.policy_lists.proofs.JoinSourceLaws.{joined_sources}
use Rattle.policy_lists.proofs.JoinWritableLaws.{joined_few, joined_writable}
use Rattle.join.specs.Join.{joined_image}
use Rattle.context.specs.declared.Context.{Context}
use Rattle.context.specs.declared.Event.{Event}
use Rattle.access.specs.Authorization.{authorized, flow}
use Rattle.image_laws.proofs.AgreeLaws.{Agrees, agrees_record, some_agrees}
use Rattle.image_laws.proofs.AgreeQuestionLaws.{agrees_constraints}
use Rattle.image_laws.proofs.WrittenLaws.{written_agrees, written_passes}
use Rattle.join_laws.specs.Cases.Both.{TakenTogether, authorized_both, flow_both}
use Rattle.join_laws.proofs.JoinEvalLaws.{joined_constraints}
use Rattle.join_laws.proofs.BothLaws.{together, together_authorized, together_flow}
use Rattle.join_laws.proofs.JoinedLaws.{joined_adds, empty_board, empty_maker}

module _ (s t : List ℕ) (B : AllBytes s) (D : AllBytes t) (a : AllYes (policy_questions s)) (b : AllYes (policy_questions t))
    (few : record_count s + record_count t ≤ 4095) where
  abbrev p : Policy
  p = policy_of s

  abbrev q : Policy
  q = policy_of t

  abbrev S : Sound s
  S = sound s a

  abbrev T : Sound t
  T = sound t b

  size_few : (joined p q).size ≤ 4095
  size_few = joined_few p q S.chains T.chains few

  small : (joined p q).size < 65536
  small = let h = size_few in omega arith

  can_be_written : Writable (joined p q)
  can_be_written = joined_writable p q size_few S.nodes T.nodes (image_writable s B S.exact) (image_writable t D T.exact)

  -- what is read of the written image
  abbrev result : Policy
  result = policy_of (joined_image s t)

  agrees : Agrees (joined p q) result
  agrees = written_agrees (joined p q) can_be_written

  nodes : NodesInOrder (joined p q)
  nodes = joined_nodes p q small S.nodes T.nodes

  -- the written image passes every policy question
  pub joined_passes : AllYes (policy_questions (joined_image s t))
  joined_passes =
      written_passes (joined p q) can_be_written (joined_counts_range p q S.range T.range) (joined_rises p q) (joined_chains p q)
      (joined_fields p q small S.nodes T.nodes S.fields T.fields) nodes (joined_sources p q S.sources T.sources)

  -- "The result's counts are the larger of each pair."
  pub written_counts : (joined (policy_of s) (policy_of t)).counts ≡ (policy_of (joined_image s t)).counts
  written_counts = agrees.counts

  -- "Its relations are those of both record lists taken together"
  pub written_together : TakenTogether (policy_of (joined_image s t)) (policy_of s) (policy_of t)
  written_together =
      together result p q
      (λ k f l h I.
      sym (some_agrees (joined p q) result agrees k f f (λ i K. ap f (agrees_record (joined p q) result agrees k i K)))
      ∙ joined_adds p q k f l h I)
      (λ i. refl) (λ i. refl) (λ i. refl)
      (λ e x y.
      sym (agrees_constraints (joined p q) result agrees nodes e x y)
      ∙ joined_constraints p q small S.nodes T.nodes e x y)

  module _ (e : Event) (x y : Context) where
    pub written_authorized : authorized (policy_of (joined_image s t)) e x y ≡ authorized_both (policy_of s) (policy_of t) e x y
    written_authorized = together_authorized result p q written_together e x y

    pub written_flow : flow (policy_of (joined_image s t)) e x y ≡ flow_both (policy_of s) (policy_of t) e x y
    written_flow = together_flow result p q written_together e x y

    -- a board's image of no records changes no authorization and no flow of the maker's, and the other way round
    pub no_board_authorized : record_count t ≡ 0 → authorized (policy_of (joined_image s t)) e x y ≡ authorized (policy_of s) e x y
    no_board_authorized z = written_authorized ∙ sym (together_authorized p p q (empty_board p q (λ i. refl) (λ i. refl) z) e x y)

    pub no_board_flow : record_count t ≡ 0 → flow (policy_of (joined_image s t)) e x y ≡ flow (policy_of s) e x y
    no_board_flow z = written_flow ∙ sym (together_flow p p q (empty_board p q (λ i. refl) (λ i. refl) z) e x y)

    pub no_maker_authorized : record_count s ≡ 0 → authorized (policy_of (joined_image s t)) e x y ≡ authorized (policy_of t) e x y
    no_maker_authorized z = written_authorized ∙ sym (together_authorized q p q (empty_maker p q (λ i. refl) (λ i. refl) z) e x y)

    pub no_maker_flow : record_count s ≡ 0 → flow (policy_of (joined_image s t)) e x y ≡ flow (policy_of t) e x y
    no_maker_flow z = written_flow ∙ sym (together_flow q p q (empty_maker p q (λ i. refl) (λ i. refl) z) e x y)
