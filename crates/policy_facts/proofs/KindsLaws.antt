-- Lists of records, list behind list: what holds of each record, and the records of one kind among kinds in turn.
use Prim.Native.Nat.{ℕ, zero, suc, ◌+◌, ◌≤◌, ◌<◌}
use mathlib.Core.Path.{◌≡◌, refl, sym, ap, ap₂, subst, ◌∙◌}
use mathlib.Core.Bool.{Bool, true, false, cond}
use mathlib.Core.List.{List, [], ◌∷◌, ◌++◌, append-nil, map}
use mathlib.Core.Logic.{⊎_elim}
use native.Mathlib.Nat.{eq-or-lt_of_le}
use native.Mathlib.Omega.{arith}
use borrow.Author.Tests.{eq-eqb, ne_eqb, eqb-true}
use lib.Dec.{eqb}
use lib.ListN.{length, get_or, get_or-append}
use lib.Seq.{get_or-append-add}
use Rattle.base.proofs.Numbers.{split_eq}
use Rattle.policy_image.specs.declared.records.Record.{Record}
use Rattle.policy_lists.specs.Lists.{records_upto, of_kind_in, no_record}
use Rattle.policy_lists.specs.Joined.{kinds_upto}
use Rattle.policy_lists.proofs.ListLaws.{upto_length}
use Rattle.policy_lists.proofs.JoinTurnLaws.{Each, each_append}
use Rattle.policy_lists.proofs.NodeLaws.{kind_append}

-- ---- records 1 to m as a list
pub upto_at : (rec : ℕ → Record) (m i : ℕ) → i < m → get_or (records_upto rec m) i no_record ≡ rec (suc i)
upto_at rec zero i h = let z : ⊥ = omega arith in absurd z
upto_at rec (suc m) i h =
    let n = upto_length rec m in
    ⊎_elim
    (λ (e : i ≡ m).
    ap (λ (j : ℕ). get_or (records_upto rec m ++ (rec (suc m) ∷ [])) j no_record) (let q : i ≡ length (records_upto rec m) + 0 = omega arith in q)
    ∙ get_or-append-add (records_upto rec m) (rec (suc m) ∷ []) 0 no_record ∙ ap (λ (j : ℕ). rec (suc j)) (sym e))
    (λ (l : i < m). get_or-append (records_upto rec m) (rec (suc m) ∷ []) no_record i (omega arith) ∙ upto_at rec m i l)
    (eq-or-lt_of_le (let b : i ≤ m = omega arith in b))

-- ---- lists with each record changed
pub map_append : (g : Record → Record) (l m : List Record) → map g (l ++ m) ≡ map g l ++ map g m
map_append g [] m = refl
map_append g (r ∷ l) m = ap (λ (x : List Record). g r ∷ x) (map_append g l m)

-- changes that agree on each record
pub map_each : (f g : Record → Record) (l : List Record) → Each (λ r. f r ≡ g r) l → map f l ≡ map g l
map_each f g [] h = refl
map_each f g (r ∷ l) h = ap₂ (λ (x : Record) (m : List Record). x ∷ m) h.0 (map_each f g l h.1)

-- ---- the records of kind k of a list
-- what holds of each record of the kind
pub each_kind : (P : Record → Type 0) (rec : ℕ → Record) (k n : ℕ) → ((i : ℕ) → 1 ≤ i → i ≤ n → (rec i).kind ≡ k → P (rec i))
    → Each P (of_kind_in k (records_upto rec n))
each_kind P rec k zero h = tt
each_kind P rec k (suc n) h =
    subst (Each P) (sym (kind_append k (records_upto rec n) (rec (suc n) ∷ [])))
    (each_append P (of_kind_in k (records_upto rec n)) (of_kind_in k (rec (suc n) ∷ [])) (each_kind P rec k n (λ i a b. h i a (omega arith)))
    (go (eqb (rec (suc n)).kind k) refl))
  where
    go : (t : Bool) → eqb (rec (suc n)).kind k ≡ t → Each P (cond t (rec (suc n) ∷ []) [])
    go true e = (h (suc n) (omega arith) (omega arith) (eqb-true (rec (suc n)).kind k e), tt)
    go false e = tt

-- all of them, where each is of the kind
pub kind_all : (k : ℕ) (l : List Record) → Each (λ r. r.kind ≡ k) l → of_kind_in k l ≡ l
kind_all k [] h = refl
kind_all k (r ∷ l) h = ap₂ (λ (t : Bool) (m : List Record). cond t (r ∷ m) m) (eq-eqb r.kind k h.0) (kind_all k l h.1)

-- none, where each is of another
pub kind_none : (j k : ℕ) (l : List Record) → (j ≡ k → ⊥) → Each (λ r. r.kind ≡ j) l → of_kind_in k l ≡ []
kind_none j k [] d h = refl
kind_none j k (r ∷ l) d h =
    let e = h.0 in
    ap₂ (λ (t : Bool) (m : List Record). cond t (r ∷ m) m) (ne_eqb r.kind k (λ q. let z : j ≡ k = omega arith in d z)) (kind_none j k l d h.1)

-- ---- lists of kinds in turn, each with records of its own kind
module _ (lists : ℕ → List Record) (own : (k : ℕ) → Each (λ r. r.kind ≡ k) (lists k)) (k : ℕ) where
  kinds_before : (n : ℕ) → n < k → of_kind_in k (kinds_upto lists n) ≡ []
  kinds_before zero h = refl
  kinds_before (suc n) h =
      kind_append k (kinds_upto lists n) (lists (suc n))
      ∙ ap₂ ◌++◌ (kinds_before n (omega arith)) (kind_none (suc n) k (lists (suc n)) (λ e. let z : ⊥ = omega arith in z) (own (suc n)))

  -- those of kind k are its list
  pub kinds_of : (n : ℕ) → 1 ≤ k → k ≤ n → of_kind_in k (kinds_upto lists n) ≡ lists k
  kinds_of zero a b = let z : ⊥ = omega arith in absurd z
  kinds_of (suc n) a b =
      kind_append k (kinds_upto lists n) (lists (suc n))
      ∙ ⊎_elim
      (λ e.
      ap₂ ◌++◌ (kinds_before n (omega arith)) (subst (λ (j : ℕ). of_kind_in k (lists j) ≡ lists j) e (kind_all k (lists k) (own k)))
      ∙ ap lists (sym e))
      (λ d.
      ap₂ ◌++◌ (kinds_of n a (omega (arith, d))) (kind_none (suc n) k (lists (suc n)) (λ e. d (sym e)) (own (suc n)))
      ∙ append-nil (lists k))
      (split_eq k (suc n))

-- ---- kinds in turn, list by list
pub kinds_map : (g : Record → Record) (lists : ℕ → List Record) (n : ℕ) → map g (kinds_upto lists n) ≡ kinds_upto (λ k. map g (lists k)) n
kinds_map g lists zero = refl
kinds_map g lists (suc n) =
    map_append g (kinds_upto lists n) (lists (suc n)) ∙ ap (λ (l : List Record). l ++ map g (lists (suc n))) (kinds_map g lists n)

pub kinds_same : (lists others : ℕ → List Record) (n : ℕ) → ((k : ℕ) → 1 ≤ k → k ≤ n → lists k ≡ others k) → kinds_upto lists n ≡ kinds_upto others n
kinds_same lists others zero h = refl
kinds_same lists others (suc n) h =
    ap₂ ◌++◌ (kinds_same lists others n (λ k a b. h k a (omega arith))) (h (suc n) (omega arith) (omega arith))
