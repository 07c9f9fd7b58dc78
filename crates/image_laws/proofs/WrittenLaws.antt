-- The written image of a policy: what is read of it agrees with the policy, and it passes the policy questions where the policy does.
use mathlib.Core.Path.{sym, subst}
use Rattle.base.specs.Questions.{AllYes}
use Rattle.policy_image.specs.Counts.{CountsInRange}
use Rattle.policy_image.specs.Policy.{Policy, policy_of}
use Rattle.policy_image.specs.Encoding.{image_of}
use Rattle.policy_image.specs.Inner.Writable.{Writable}
use Rattle.policy_image.proofs.EncodingLaws.{count_written, counts_written, written_exact, head_written, record_written}
use Rattle.policy_links.specs.Chains.{LinksRise, ChainsByKind}
use Rattle.policy_fields.specs.Fields.{FieldsInRange}
use Rattle.policy_expressions.specs.Nodes.{NodesInOrder}
use Rattle.policy_sources.specs.Sources.{AllowsFromDomains}
use Rattle.policy_check.specs.Questions.{policy_questions}
use Rattle.image_laws.proofs.AgreeLaws.{Agrees}
use Rattle.image_laws.proofs.AgreeQuestionLaws.{agrees_rises, agrees_chains, agrees_fields, agrees_nodes, agrees_sources}

-- a policy that can be written, and what is read of its image
pub written_agrees : (p : Policy) → Writable p → Agrees p (policy_of (image_of p))
written_agrees p W =
    record {
      counts = sym (counts_written p W);
      size = sym (count_written p W);
      heads = λ k w. sym (head_written p W k w);
      records = λ i w. sym (record_written p W i w);
    }

-- .. which passes every policy question where the policy passes 2 to 6 and 14
pub written_passes : (p : Policy) → Writable p → CountsInRange p.counts → LinksRise p → ChainsByKind p → FieldsInRange p → NodesInOrder p → AllowsFromDomains p
    → AllYes (policy_questions (image_of p))
written_passes p W R L C F N A =
    let q : Policy = policy_of (image_of p) in
    let S = written_agrees p W in (
      written_exact p W,
      (
        subst CountsInRange (sym (counts_written p W)) R,
        (agrees_rises p q S L, (agrees_chains p q S L C, (agrees_fields p q S F, (agrees_nodes p q S N, (agrees_sources p q S A, tt))))),
      ),
    )
