-- The items give what α says by the records that count, the entries what the items give, and the blocks what the entries have.
use mathlib.Core.Path.{◌≡◌, ap}
use native.Mathlib.Omega.{arith}
use Rattle.policy_image.specs.declared.counts.Counts.{Counts}
use Rattle.policy_image.specs.Policy.{policy_of}
use Rattle.plan_index.proofs.MeaningLaws.{splittable, allow_index}
use Rattle.plan_index.proofs.index.Goals.{Start}
use Rattle.plan_index.proofs.index.Goals as goal

types_of : (a : Start) → a.args.counts.types ≡ (policy_of a.args.policy.now).counts.types
types_of a = ap (λ (x : Counts). x.types) a.requires.1.same

pub split-requires : goal.split-requires
split-requires c =
    let K = (goal.at.split-requires c).Start in
    let keys = c.keys-1.given in
    splittable c.extract-n.ensures c.unite-m.ensures (types_of K) (omega (arith, types_of K, c.requires.0.range.types.high)) c.requires.2 (omega (arith, keys, c.requires.3.keys_size))

pub returns : goal.returns
returns c =
    let keys = c.keys-1.given in
    allow_index c.extract-n.ensures c.unite-m.ensures (types_of (goal.at.returns c).Start) c.split.ensures (omega (arith, keys, c.keys-2-1.given, c.requires.3.keys_size))
