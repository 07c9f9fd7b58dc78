use Prim.Native.Nat.{ℕ, ◌+◌, ◌≤◌, ◌<◌}
use mathlib.Core.Path.{◌≡◌, sym, ap, ◌∙◌, transport}
use mathlib.Core.Bool.{true}
use native.Mathlib.Omega.{arith}
use Rattle.base.proofs.Decide.{yes_of, no_of}
use Rattle.base.proofs.Numbers.{upto_more}
use Rattle.policy_image.specs.declared.counts.Counts.{Counts}
use Rattle.policy_image.specs.declared.records.Record.{Record}
use Rattle.policy_image.specs.Policy.{Policy, policy_of}
use Rattle.policy_fields.specs.declared.Limits.{Limits}
use Rattle.policy_fields.specs.Fields.{limits_of, WithinLimits, Fits}
use Rattle.policy_fields.proofs.fields_in_range.Goals.{After-record_in_range}
use Rattle.policy_fields.proofs.fields_in_range.Goals as goal

-- the limits as computed for the record as read are those of the policy's record
fits_of : (p : Policy) (n : Counts) (l : Limits) (r s : Record) → n ≡ p.counts → l ≡ limits_of n r.kind r.a → r ≡ s → WithinLimits l r ≡ Fits p.counts s
fits_of p n l r s e f g =
    ap (λ (x : Limits). WithinLimits x r) f ∙ ap (λ (m : Counts). Fits m r) e ∙ ap (λ (q : Record). Fits p.counts q) g

-- what is known where record i has been held to its limits
module _ (K : After-record_in_range) where
  abbrev p : Policy
  p = policy_of K.args.image.now

  said : WithinLimits K.kind_limits.result K.record_at-r.result ≡ Fits p.counts (p.rec K.loop-i.i)
  said =
      fits_of p K.args.counts _ _ _
      K.requires.same K.kind_limits.ensures K.record_at-r.ensures.same

  more : K.record_in_range.result ≡ true → (j : ℕ) → 1 ≤ j → j < K.loop-i.i + 1 → Fits p.counts (p.rec j)
  more e = upto_more (λ j. Fits p.counts (p.rec j)) _ K.loop-i.invariant (transport said (yes_of _ K.record_in_range.ensures e))

pub returns-then-not-record_in_range : goal.returns-then-not-record_in_range
returns-then-not-record_in_range c =
    let k = c.record_in_range in
    λ h. no_of k.result k.ensures c.if-not-record_in_range.true
    (transport (sym (said (goal.at.returns-then-not-record_in_range c).After-record_in_range)) (h.each c.loop-i.i (omega arith) (omega arith)))

pub loop-i-preserved : goal.loop-i-preserved
loop-i-preserved c = more (goal.at.loop-i-preserved c).After-record_in_range c.if-not-record_in_range.false

pub returns-else-not-record_in_range : goal.returns-else-not-record_in_range
returns-else-not-record_in_range c =
    let all = more (goal.at.returns-else-not-record_in_range c).After-record_in_range c.if-not-record_in_range.false in
    record { each = λ i a b. all i a (omega arith) }
