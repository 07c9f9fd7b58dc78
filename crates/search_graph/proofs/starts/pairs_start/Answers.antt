use Rattle.std.proofs.Common.{◌≡◌, ℕ, List, Bool, false, sym, ap, ◌∙◌, take, drop, length, get_or, rules, arith, tests, ◌+◌, ◌-◌, ◌<◌, ◌≤◌}
use Rattle.std.specs.List.{list_any}
use Rattle.std.proofs.lemmas.Iterator.{YieldsList-from_slice}
use Rattle.std.proofs.lemmas.Iterator.Search.{any_from_yields_List}
use Rattle.std.proofs.lemmas.List.{get_or-take, get_or-drop, length-take-le, length-drop}
use Rattle.std.proofs.lemmas.List.Folds.{list_any_at}
use mathlib.Core.Logic.{⊎_elim}
use Rattle.base.specs.Bits.{bit}
use Rattle.base.proofs.BoolLaws.{clash, true_or_false}
use Rattle.context.specs.Inner.Places.{pair_count}
use Rattle.plan.proofs.ContextLaws.{pairs_few}
use Rattle.plan.specs.Inner.Regions.{pair_sets_start}
use Rattle.search_graph.proofs.starts.pairs_start.Goals as goal

abbrev in_σ0 : ℕ → Bool
in_σ0 m = bit m 0

-- where no number of a part of a list has bit 0, none from its start on has
none_in : (n a : ℕ) (l : List ℕ) → a + n ≤ length l → list_any in_σ0 (take n (drop a l)) ≡ false → (i : ℕ) → i < n → bit (get_or l (a + i) 0) 0 ≡ false
none_in n a l h e i k =
    let xs : List ℕ = take n (drop a l) in
    let v : get_or xs i 0 ≡ get_or l (a + i) 0 = get_or-take n (drop a l) i 0 k ∙ get_or-drop a l i 0 in
    let s : length xs ≡ n = length-take-le n (drop a l) (omega (arith, length-drop a l)) in
    ap in_σ0 (sym v)
    ∙ ⊎_elim (λ t. absurd (clash (list_any_at in_σ0 xs i 0 (omega arith) t) e)) (λ f. f) (true_or_false (in_σ0 (get_or xs i 0)))

pub returns : goal.returns
returns c =
    let n = pair_count c.args.counts in
    let plan = c.args.plan.now in
    let q : pair_sets_start + n - pair_sets_start ≡ n = omega arith in
    let r = c.iter.ensures.rest ∙ ap (λ (k : ℕ). take k (drop pair_sets_start plan)) q in
    let e = any_from_yields_List in_σ0 _ _ c.any.result c.any.ensures.ran (YieldsList-from_slice _ r) (λ x b q k. search (rules, tests)) in
    record { none = λ f. none_in n pair_sets_start plan (omega (arith, pairs_few c.requires.counts, c.requires.size)) (sym e ∙ f) }
