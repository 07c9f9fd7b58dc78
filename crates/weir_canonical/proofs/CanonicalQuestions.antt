-- The questions of the canonical image: those of the policy decide, then 15, then 16.
use Prim.Native.Nat.{ℕ, ◌≤◌, ◌<◌}
use mathlib.Core.List.{List, [], ◌∷◌}
use mathlib.Core.Logic.{inl, inr}
use mathlib.Core.Path.{refl}
use native.Mathlib.Omega.{arith}
use lib.ListN.{length}
use Rattle.base.specs.Questions.{Question, ask, AllYes, RefusedWith}
use Rattle.base.proofs.QuestionLaws.{passed_both, refused_first, refused_then}
use Rattle.policy_image.specs.Policy.{policy_of}
use Rattle.policy_check.specs.Questions.{policy_questions}
use Rattle.policy_facts.specs.Canonical.{canonical_of}
use Rattle.canonical.specs.Canonical.{canonical_image, canonical_questions}
use Rattle.weir_canonical.specs.Cases.Canonical.{CanonicalIs}

module _ (s : List ℕ) (output : ℕ) where
  abbrev last : List Question
  last = ask 15 ((canonical_of (policy_of s)).size ≤ 4095) ∷ ask 16 (length (canonical_image s) ≤ output) ∷ []

  pub policys : (k : ℕ) → RefusedWith (policy_questions s) k → RefusedWith (canonical_questions s output) k
  policys k r = refused_first (policy_questions s) last k r

  module _ (a : AllYes (policy_questions s)) where
    pub refused_15 : 4095 < (canonical_of (policy_of s)).size → RefusedWith (canonical_questions s output) 15
    refused_15 h = refused_then (policy_questions s) last 15 a (inl ((λ f. omega arith), refl))

    pub refused_16 : (canonical_of (policy_of s)).size ≤ 4095 → output < length (canonical_image s) → RefusedWith (canonical_questions s output) 16
    refused_16 f h = refused_then (policy_questions s) last 16 a (inr (f, inl ((λ r. omega arith), refl)))

    pub passed : (canonical_of (policy_of s)).size ≤ 4095 → length (canonical_image s) ≤ output → AllYes (canonical_questions s output)
    passed f h = passed_both (policy_questions s) last a (f, (h, tt))

module _ {s image : List ℕ} (c : CanonicalIs s image) where
  pub short : (output : ℕ) → output < length image → RefusedWith (canonical_questions s output) 16
  short output h = refused_16 s output c.accepted c.few (rw c.written h)

  pub enough : (output : ℕ) → length image ≤ output → AllYes (canonical_questions s output)
  enough output h = passed s output c.accepted c.few (rw c.written h)
