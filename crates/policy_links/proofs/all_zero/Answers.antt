use Prim.Native.Nat.{ℕ, ◌≤◌, ◌<◌, ◌+◌, ◌-◌}
use mathlib.Core.Path.{◌≡◌}
use mathlib.Core.Bool.{Bool, true, false}
use mathlib.Core.List.{List}
use native.Mathlib.Omega.{arith}
use borrow.Author.Rules.{rules}
use lib.ListN.{length, get_or, drop, take}
use Rattle.std.proofs.Common.{tests, MatchBool}
use Rattle.std.proofs.lemmas.Grind.{common_steps}
use Rattle.std.specs.List.{AllWithin, HoldsAt}
use Rattle.std.proofs.lemmas.Iterator.{cases_from_all, YieldsList-from_slice}
use Rattle.base.specs.Inner.Decides.{Decides}
use Rattle.policy_links.proofs.all_zero.Goals as goal

heads_zero : (r : Bool) (l : List ℕ) → length l ≡ 16 → MatchBool r (AllWithin (λ x. x ≡ 0) (take 9 (drop 1 l)) 0 (length (take 9 (drop 1 l)))) ((k : ℕ) × (k < length (take 9 (drop 1 l))) × HoldsAt (λ x. 0 < x) (take 9 (drop 1 l)) k) → Decides r ((k : ℕ) → 1 ≤ k → k ≤ 9 → get_or l k 0 ≡ 0)
heads_zero true l e h = λ k a b. grind (arith, common_steps, h (k - 1) 0)
heads_zero false l e h = λ z. grind (arith, common_steps, h.2 0, z (h.0 + 1))

pub returns : goal.returns
returns c =
    heads_zero _ c.args.c (omega arith) (cases_from_all _ _ _ (λ x. x ≡ 0) (λ x. 0 < x) c.all.ensures.ran (YieldsList-from_slice (take 9 (drop 1 c.args.c)) cc) (λ x q k. search (rules, tests)) (λ x q k. search (rules, tests)))
