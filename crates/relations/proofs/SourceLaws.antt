-- What question 14 leaves of α: of an accepted policy, an allow record gives a type something only where it is a domain, so that this clause of α is
-- implied by its last.
use Prim.Native.Nat.{ℕ}
use mathlib.Core.Bool.{true, ◌&&◌}
use mathlib.Core.List.{List}
use mathlib.Core.Path.{◌≡◌, subst}
use lib.Dec.{eqb}
use borrow.Author.Tests.{eqb-true}
use Rattle.base.specs.Bits.{bit}
use Rattle.base.specs.Questions.{AllYes}
use Rattle.base.proofs.BoolLaws.{and_first, and_second, and_true, same_truth}
use Rattle.policy_image.specs.Policy.{Policy, policy_of}
use Rattle.policy_links.proofs.KindLaws.{counted_record, every_record}
use Rattle.policy_sources.specs.Sources.{domain, AllowsFromDomains}
use Rattle.policy_check.specs.Questions.{policy_questions}
use Rattle.policy_check.proofs.AnswerLaws.{sound}
use Rattle.context.specs.declared.Event.{Event}
use Rattle.relations.specs.Relations.{Γ, target_of, allowed, α}

module _ (p : Policy) (F : AllowsFromDomains p) (t1 t2 : ℕ) (e : Event) where
  pub allowed_domain : allowed p t1 t2 e ≡ true → domain p t1 ≡ true
  unfolding allowed
  allowed_domain h =
      let r = counted_record p 4 (λ r. (eqb r.a t1 && (eqb (target_of r) t2 && eqb r.c e.class)) && bit r.mask e.perm) h in
      let s = p.rec r.0 in
      let fits = and_first (eqb s.a t1 && (eqb (target_of s) t2 && eqb s.c e.class)) (bit s.mask e.perm) r.3 in
      let source = eqb-true s.a t1 (and_first (eqb s.a t1) (eqb (target_of s) t2 && eqb s.c e.class) fits) in
      subst (λ (t : ℕ). domain p t ≡ true) source (every_record p 4 (λ r. domain p r.a) F r.0 r.1)

  pub alpha_allowed : α p t1 t2 e ≡ (Γ p e && allowed p t1 t2 e)
  unfolding α
  alpha_allowed =
      same_truth (domain p t1 && (Γ p e && allowed p t1 t2 e)) (Γ p e && allowed p t1 t2 e) (and_second (domain p t1) (Γ p e && allowed p t1 t2 e))
      (λ h. and_true (domain p t1) (Γ p e && allowed p t1 t2 e) (allowed_domain (and_second (Γ p e) (allowed p t1 t2 e) h)) h)

-- the same of every policy image that passes the questions
pub accepted_domain : (s : List ℕ) → AllYes (policy_questions s) → (t1 t2 : ℕ) (e : Event) → allowed (policy_of s) t1 t2 e ≡ true → domain (policy_of s) t1 ≡ true
accepted_domain s a = allowed_domain (policy_of s) (sound s a).sources

pub accepted_alpha : (s : List ℕ) → AllYes (policy_questions s) → (t1 t2 : ℕ) (e : Event) → α (policy_of s) t1 t2 e ≡ (Γ (policy_of s) e && allowed (policy_of s) t1 t2 e)
accepted_alpha s a = alpha_allowed (policy_of s) (sound s a).sources
