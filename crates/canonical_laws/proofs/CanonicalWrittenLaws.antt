-- The written image of the canonical policy of an image that passes the policy questions, where its records are few enough: it passes them too,
-- and what is read of it says what the policy says.
use Prim.Native.Nat.{ℕ, ◌≤◌, ◌<◌}
use mathlib.Core.Path.{◌≡◌, sym, ◌∙◌}
use mathlib.Core.List.{List}
use native.Mathlib.Omega.{arith}
use Rattle.base.specs.Questions.{AllYes}
use Rattle.base.specs.Inner.AllBytes.{AllBytes}
use Rattle.policy_image.specs.Counts.{CountsInRange}
use Rattle.policy_image.specs.Policy.{Policy, policy_of}
use Rattle.policy_image.specs.Encoding.{image_of}
use Rattle.policy_image.specs.Inner.Writable.{Writable}
use Rattle.policy_image.proofs.EncodingLaws.{image_writable}
use Rattle.policy_expressions.specs.Nodes.{NodesInOrder}
use Rattle.policy_check.specs.Questions.{policy_questions}
use Rattle.policy_check.specs.Inner.Sound.{Sound}
use Rattle.policy_check.proofs.AnswerLaws.{sound}
use Rattle.policy_facts.specs.Canonical.{canonical_of}
use Rattle.policy_facts.specs.Cases.Same.{Same}
use Rattle.policy_facts.proofs.CanonicalTurnLaws.{canonical_rises, canonical_chains}
use Rattle.policy_facts.proofs.CanonicalNodeLaws.{canonical_nodes}
use Rattle.policy_facts.proofs.CanonicalFieldLaws.{canonical_fields}
use Rattle.policy_facts.proofs.CanonicalWritableLaws.{canonical_writable}
use Rattle.policy_facts.proofs.CanonicalSourceLaws.{canonical_sources}
use Rattle.policy_facts.proofs.SameLaws.{same_sym, same_trans, same_canonical}
use Rattle.policy_facts.proofs.CanonicalSameLaws.{same_as_canonical}
use Rattle.context.specs.declared.Context.{Context}
use Rattle.context.specs.declared.Event.{Event}
use Rattle.constraints.specs.Constraints.{constraints_hold}
use Rattle.image_laws.proofs.AgreeLaws.{Agrees}
use Rattle.image_laws.proofs.AgreeQuestionLaws.{agrees_constraints}
use Rattle.image_laws.proofs.WrittenLaws.{written_agrees, written_passes}
use Rattle.canonical_laws.proofs.AgreeSameLaws.{agrees_same}
use Rattle.canonical_laws.proofs.CanonicalEvalLaws.{canonical_constraints}

-- question 2: the counts are those of the policy
canonical_range : (p : Policy) → CountsInRange p.counts → CountsInRange (canonical_of p).counts
canonical_range p C = record { types = C.types; roles = C.roles; users = C.users; classes = C.classes }

module _ (s : List ℕ) (B : AllBytes s) (a : AllYes (policy_questions s)) (few : (canonical_of (policy_of s)).size ≤ 4095) where
  abbrev p : Policy
  p = policy_of s

  abbrev S : Sound s
  S = sound s a

  small : (canonical_of p).size < 65536
  small = omega arith

  pub canonical_written : Writable (canonical_of (policy_of s))
  canonical_written = canonical_writable p few S.nodes (image_writable s B S.exact)

  nodes : NodesInOrder (canonical_of p)
  nodes = canonical_nodes p small S.nodes

  pub canonical_passes : AllYes (policy_questions (image_of (canonical_of (policy_of s))))
  canonical_passes =
      written_passes (canonical_of p) canonical_written (canonical_range p S.range) (canonical_rises p) (canonical_chains p)
      (canonical_fields p small S.range S.nodes S.fields) nodes (canonical_sources p S.range S.fields S.sources)

  -- ---- what is read of the written image
  abbrev result : Policy
  result = policy_of (image_of (canonical_of p))

  agrees : Agrees (canonical_of p) result
  agrees = written_agrees (canonical_of p) canonical_written

  pub read_same : Same (policy_of s) (policy_of (image_of (canonical_of (policy_of s))))
  read_same = same_trans (same_as_canonical p S.nodes small S.range S.fields) (agrees_same (canonical_of p) result agrees nodes)

  pub read_constraints : (e : Event) (x y : Context)
      → constraints_hold (policy_of s) e x y ≡ constraints_hold (policy_of (image_of (canonical_of (policy_of s)))) e x y
  read_constraints e x y =
      sym (canonical_constraints p small S.nodes e x y) ∙ agrees_constraints (canonical_of p) result agrees nodes e x y

  -- so its canonical policy is that of the policy
  pub read_canonical : canonical_of (policy_of (image_of (canonical_of (policy_of s)))) ≡ canonical_of (policy_of s)
  read_canonical =
      let R = sound (image_of (canonical_of p)) canonical_passes in
      same_canonical result p R.range S.range R.fields S.fields (same_sym read_same)
