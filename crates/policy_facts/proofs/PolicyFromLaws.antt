-- The policy of a list does not look at the nexts of the list, and its records of a kind are those of the list but for their nexts.
use Prim.Native.Nat.{ℕ, zero, suc}
use mathlib.Core.Path.{◌≡◌, refl, sym, ap, ap₂, ◌∙◌}
use mathlib.Core.Bool.{Bool, true, false, ◌&&◌, cond}
use mathlib.Core.List.{List, [], ◌∷◌, ◌++◌, map}
use lib.Dec.{eqb, leb}
use lib.ListN.{length, length-map, get_or-map}
use Rattle.policy_image.specs.declared.counts.Counts.{Counts}
use Rattle.policy_image.specs.declared.records.Record.{Record}
use Rattle.policy_lists.specs.Lists.{records_upto, of_kind_in, kind_list, no_record, record_in, link_in, one_behind, first_in, with_next, with_records, policy_from}
use Rattle.policy_lists.proofs.ListLaws.{records_back}
use Rattle.policy_lists.proofs.NodeLaws.{kind_append}
use Rattle.policy_facts.proofs.KindsLaws.{map_append}

-- ---- the list with no nexts
abbrev bare_list : List Record → List Record
bare_list l = map (with_next 0) l

bare_record : (l : List Record) (i : ℕ) → record_in (bare_list l) i ≡ with_next 0 (record_in l i)
bare_record l zero = refl
bare_record l (suc i) = get_or-map (with_next 0) l i no_record

bare_first : (l : List Record) (k : ℕ) → first_in (bare_list l) k ≡ first_in l k
bare_first [] k = refl
bare_first (r ∷ l) k = ap (λ (n : ℕ). cond (eqb r.kind k) 1 (one_behind n)) (bare_first l k)

bare_link : (l : List Record) (i : ℕ) → link_in (bare_list l) i ≡ link_in l i
bare_link l i =
    λ j.
    cond
    (leb (suc i) (length-map l (with_next 0) j) && eqb (bare_record l (suc i) j).kind (bare_record l i j).kind)
    (suc i) 0

pub from_bare : (c : Counts) (l : List Record) → policy_from c l ≡ policy_from c (map (with_next 0) l)
from_bare c l =
    sym
    (λ j.
    record {
      counts = with_records (length-map l (with_next 0) j) c;
      size = length-map l (with_next 0) j;
      head = λ k. bare_first l k j;
      rec = λ i. with_next (bare_link l i j) (bare_record l i j);
      counted = λ i. true;
    })

-- ---- the records of kind k
module _ (k : ℕ) (g : Record → Record) (ignores : (n : ℕ) (r : Record) → g (with_next n r) ≡ g r) where
  next_one : (n : ℕ) (r : Record) → map g (of_kind_in k (with_next n r ∷ [])) ≡ map g (of_kind_in k (r ∷ []))
  next_one n r = go (eqb r.kind k)
    where
      go : (t : Bool) → map g (cond t (with_next n r ∷ []) []) ≡ map g (cond t (r ∷ []) [])
      go true = ap (λ (x : Record). x ∷ []) (ignores n r)
      go false = refl

  split_last : (rec : ℕ → Record) (n : ℕ)
      → map g (of_kind_in k (records_upto rec (suc n))) ≡ map g (of_kind_in k (records_upto rec n)) ++ map g (of_kind_in k (rec (suc n) ∷ []))
  split_last rec n =
      ap (map g) (kind_append k (records_upto rec n) (rec (suc n) ∷ [])) ∙ map_append g (of_kind_in k (records_upto rec n)) (of_kind_in k (rec (suc n) ∷ []))

  next_upto_lem : (next : ℕ → ℕ) (rec : ℕ → Record) (n : ℕ)
      → map g (of_kind_in k (records_upto (λ i. with_next (next i) (rec i)) n)) ≡ map g (of_kind_in k (records_upto rec n))
  next_upto_lem next rec zero = refl
  next_upto_lem next rec (suc n) =
      split_last (λ i. with_next (next i) (rec i)) n
      ∙ ap₂ ◌++◌ (next_upto_lem next rec n) (next_one (next (suc n)) (rec (suc n))) ∙ sym (split_last rec n)

  pub kind_from : (c : Counts) (l : List Record) → map g (kind_list (policy_from c l) k) ≡ map g (of_kind_in k l)
  kind_from c l = next_upto_lem (link_in l) (record_in l) (length l) ∙ ap (λ (m : List Record). map g (of_kind_in k m)) (records_back l)
