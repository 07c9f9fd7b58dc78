-- The joined list has the kinds in turn, so the joined policy passes questions 3 and 4; and it has the records of both.
use Prim.Native.Nat.{ℕ, zero, suc, ◌+◌, ◌≤◌, ◌<◌}
use mathlib.Core.Path.{◌≡◌, refl, ap, ap₂, ◌∙◌}
use mathlib.Core.Bool.{Bool, true, false, cond}
use mathlib.Core.List.{List, [], ◌∷◌, ◌++◌, map}
use mathlib.Core.Logic.{⊎_elim}
use native.Mathlib.Omega.{arith}
use borrow.Author.Tests.{eqb-true, eq-eqb, ne_eqb}
use lib.Dec.{eqb}
use lib.ListN.{length, get_or, length-append, length-map}
use Rattle.base.specs.Ranges.{Within}
use Rattle.base.proofs.Numbers.{split_eq}
use Rattle.policy_image.specs.declared.records.Record.{Record}
use Rattle.policy_image.specs.Policy.{Policy}
use Rattle.policy_links.specs.Chains.{LinksRise, ChainsByKind}
use Rattle.policy_lists.specs.Lists.{records_upto, record_list, of_kind_in, kind_list, no_record}
use Rattle.policy_lists.specs.Inner.Tests.{InTurnFrom, KindsInTurn}
use Rattle.policy_lists.specs.Joined.{larger_counts, of_kinds_upto, makers_node, boards_node, renumbered, joined_kind, kinds_upto, joined_list, joined}
use Rattle.policy_lists.proofs.ListLaws.{upto_length}
use Rattle.policy_lists.proofs.TurnLaws.{from_rises, from_chains}
use Rattle.policy_lists.proofs.RenumberLaws.{renumbered_kind}

-- ---- what holds of each record of a list
abbrev pub Each : (Record → Type 0) → List Record → Type 0
Each P [] = Unit
Each P (r ∷ l) = P r × Each P l

pub each_append : (P : Record → Type 0) (l m : List Record) → Each P l → Each P m → Each P (l ++ m)
each_append P [] m h k = k
each_append P (r ∷ l) m h k = (h.0, each_append P l m h.1 k)

each_then : (P Q : Record → Type 0) → ((r : Record) → P r → Q r) → (l : List Record) → Each P l → Each Q l
each_then P Q f [] h = tt
each_then P Q f (r ∷ l) h = (f r h.0, each_then P Q f l h.1)

each_upto : (P : Record → Type 0) (rec : ℕ → Record) (n : ℕ) → ((i : ℕ) → 1 ≤ i → i ≤ n → P (rec i)) → Each P (records_upto rec n)
each_upto P rec zero h = tt
each_upto P rec (suc n) h =
    each_append P (records_upto rec n) (rec (suc n) ∷ []) (each_upto P rec n (λ i a b. h i a (omega arith))) (h (suc n) (omega arith) (omega arith), tt)

pub each_at : (P : Record → Type 0) (l : List Record) → Each P l → (j : ℕ) → j < length l → P (get_or l j no_record)
each_at P [] h j b = let z : ⊥ = omega arith in absurd z
each_at P (r ∷ l) h zero b = h.0
each_at P (r ∷ l) h (suc j) b = each_at P l h.1 j (omega arith)

-- ---- kinds in turn, list behind list
turn_lower : (a b : ℕ) (l : List Record) → a ≤ b → InTurnFrom b l → InTurnFrom a l
turn_lower a b [] h t = tt
turn_lower a b (r ∷ l) h t = (omega (arith, t.0), t.1, t.2)

turn_append : (a b : ℕ) (l m : List Record) → a ≤ b → InTurnFrom a l → Each (λ r. r.kind ≤ b) l → InTurnFrom b m → InTurnFrom a (l ++ m)
turn_append a b [] m h t e u = turn_lower a b m h u
turn_append a b (r ∷ l) m h t e u = (t.0, t.1, turn_append r.kind b l m e.0 t.2 e.1 u)

turn_one : (a k : ℕ) (l : List Record) → a ≤ k → k ≤ 9 → Each (λ r. r.kind ≡ k) l → InTurnFrom a l
turn_one a k [] h n e = tt
turn_one a k (r ∷ l) h n e = let q = e.0 in (omega arith, omega arith, turn_one r.kind k l (omega arith) n e.1)

module _ (lists : ℕ → List Record) (own : (k : ℕ) → Each (λ r. r.kind ≡ k) (lists k)) where
  kinds_most : (n : ℕ) → Each (λ r. r.kind ≤ n) (kinds_upto lists n)
  kinds_most zero = tt
  kinds_most (suc n) =
      each_append (λ r. r.kind ≤ suc n) (kinds_upto lists n) (lists (suc n))
      (each_then (λ r. r.kind ≤ n) (λ r. r.kind ≤ suc n) (λ r h. omega arith) (kinds_upto lists n) (kinds_most n))
      (each_then (λ r. r.kind ≡ suc n) (λ r. r.kind ≤ suc n) (λ r h. omega arith) (lists (suc n)) (own (suc n)))

  pub kinds_turn : (n : ℕ) → n ≤ 9 → InTurnFrom 1 (kinds_upto lists n)
  kinds_turn zero h = tt
  kinds_turn (suc n) h =
      turn_append 1 (suc n) (kinds_upto lists n) (lists (suc n)) (omega arith) (kinds_turn n (omega arith))
      (each_then (λ r. r.kind ≤ n) (λ r. r.kind ≤ suc n) (λ r l. omega arith) (kinds_upto lists n) (kinds_most n))
      (turn_one (suc n) (suc n) (lists (suc n)) (omega arith) h (own (suc n)))

-- records of kind k, changed, that keep their kind
pub kind_own : (g : Record → Record) → ((r : Record) → (g r).kind ≡ r.kind) → (k : ℕ) (l : List Record) → Each (λ r. r.kind ≡ k) (map g (of_kind_in k l))
kind_own g keeps k [] = tt
kind_own g keeps k (r ∷ l) = go (eqb r.kind k) refl (kind_own g keeps k l)
  where
    go : (t : Bool) → eqb r.kind k ≡ t → Each (λ r. r.kind ≡ k) (map g (of_kind_in k l)) → Each (λ r. r.kind ≡ k) (map g (cond t (r ∷ of_kind_in k l) (of_kind_in k l)))
    go true e h = (keeps r ∙ eqb-true r.kind k e, h)
    go false e h = h

-- ---- the joined list
module _ (p q : Policy) where
  pub joined_own : (k : ℕ) → Each (λ r. r.kind ≡ k) (joined_kind p q k)
  joined_own k =
      each_append (λ r. r.kind ≡ k) (map (renumbered (makers_node p q)) (kind_list p k)) (map (renumbered (boards_node p q)) (kind_list q k))
      (kind_own (renumbered (makers_node p q)) (renumbered_kind (makers_node p q)) k (record_list p))
      (kind_own (renumbered (boards_node p q)) (renumbered_kind (boards_node p q)) k (record_list q))

  -- "The result lists kinds 1 to 9 in turn"
  pub joined_turn : KindsInTurn (joined_list p q)
  joined_turn = kinds_turn (joined_kind p q) joined_own 9 (omega arith)

  -- questions 3 and 4 of the joined policy
  pub joined_rises : LinksRise (joined p q)
  joined_rises = from_rises (larger_counts p.counts q.counts) (joined_list p q)

  pub joined_chains : ChainsByKind (joined p q)
  joined_chains = from_chains (larger_counts p.counts q.counts) (joined_list p q) joined_turn

  -- ---- how many records it has
  pub joined_count : (n : ℕ) → length (kinds_upto (joined_kind p q) n) ≡ of_kinds_upto p n + of_kinds_upto q n
  joined_count zero = refl
  joined_count (suc n) =
      let h = joined_count n in
      let a = length-append (kinds_upto (joined_kind p q) n) (joined_kind p q (suc n)) in
      let b = length-append (map (renumbered (makers_node p q)) (kind_list p (suc n))) (map (renumbered (boards_node p q)) (kind_list q (suc n))) in
      let x = length-map (kind_list p (suc n)) (renumbered (makers_node p q)) in
      let y = length-map (kind_list q (suc n)) (renumbered (boards_node p q)) in
      a ∙ ap₂ ◌+◌ h (b ∙ ap₂ ◌+◌ x y) ∙ omega arith

-- the records of kinds 1 to n of a list, counted kind by kind
abbrev count_kinds : List Record → ℕ → ℕ
count_kinds l zero = 0
count_kinds l (suc n) = count_kinds l n + length (of_kind_in (suc n) l)

count_same : (p : Policy) (n : ℕ) → of_kinds_upto p n ≡ count_kinds (record_list p) n
count_same p zero = refl
count_same p (suc n) = ap (λ (x : ℕ). x + length (kind_list p (suc n))) (count_same p n)

count_none : (n : ℕ) → count_kinds [] n ≡ 0
count_none zero = refl
count_none (suc n) = let h = count_none n in omega arith

module _ (r : Record) (l : List Record) where
  one_more : (k : ℕ) → r.kind ≡ k → length (of_kind_in k (r ∷ l)) ≡ suc (length (of_kind_in k l))
  one_more k e = ap (λ (t : Bool). length (cond t (r ∷ of_kind_in k l) (of_kind_in k l))) (eq-eqb r.kind k e)

  no_more : (k : ℕ) → (r.kind ≡ k → ⊥) → length (of_kind_in k (r ∷ l)) ≡ length (of_kind_in k l)
  no_more k d = ap (λ (t : Bool). length (cond t (r ∷ of_kind_in k l) (of_kind_in k l))) (ne_eqb r.kind k d)

  count_before : (n : ℕ) → n + 1 ≤ r.kind → count_kinds (r ∷ l) n ≡ count_kinds l n
  count_before zero h = refl
  count_before (suc n) h = ap₂ ◌+◌ (count_before n (omega arith)) (no_more (suc n) (λ e. let z : ⊥ = omega arith in z))

  count_more : (n : ℕ) → 1 ≤ r.kind → r.kind ≤ n → count_kinds (r ∷ l) n ≡ suc (count_kinds l n)
  count_more zero a b = let z : ⊥ = omega arith in absurd z
  count_more (suc n) a b =
      ⊎_elim
      (λ e. let x = count_before n (omega arith) in let y = one_more (suc n) e in omega arith)
      (λ d. let x = count_more n a (omega (arith, d, b)) in let y = no_more (suc n) d in omega arith)
      (split_eq r.kind (suc n))

count_all : (n : ℕ) (l : List Record) → Each (λ r. Within 1 n r.kind) l → count_kinds l n ≡ length l
count_all n [] h = count_none n
count_all n (r ∷ l) h = count_more r l n h.0.low h.0.high ∙ ap suc (count_all n l h.1)

-- a policy that passes question 4 has records of kinds 1 to 9 alone
pub count_size : (p : Policy) → ChainsByKind p → of_kinds_upto p 9 ≡ p.size
count_size p C =
    count_same p 9
    ∙ count_all 9 (record_list p) (each_upto (λ r. Within 1 9 r.kind) p.rec p.size (λ i a b. (C.all i a b).kind))
    ∙ upto_length p.rec p.size

-- so the joined policy has as many records as both together
pub joined_size : (p q : Policy) → ChainsByKind p → ChainsByKind q → (joined p q).size ≡ p.size + q.size
joined_size p q C D = joined_count p q 9 ∙ ap₂ ◌+◌ (count_size p C) (count_size q D)
