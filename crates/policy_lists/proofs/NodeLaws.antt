-- Where the nodes of each policy stand in the joined list: the numbers that renumbering gives are the right ones.
use Prim.Native.Nat.{ℕ, zero, suc, ◌+◌, ◌≤◌, ◌<◌}
use mathlib.Core.Path.{◌≡◌, refl, sym, ap, subst, ◌∙◌}
use mathlib.Core.Bool.{Bool, true, false, cond}
use mathlib.Core.List.{List, [], ◌∷◌, ◌++◌, map}
use mathlib.Core.Logic.{⊎_elim}
use native.Mathlib.Nat.{eq-or-lt_of_le, add-zero}
use native.Mathlib.Omega.{arith}
use borrow.Author.Tests.{eq-eqb, ne_eqb}
use lib.Dec.{eqb}
use lib.ListN.{length, get_or, length-append, length-map, get_or-append, get_or-map}
use lib.Seq.{get_or-append-add}
use Rattle.base.proofs.Numbers.{split_eq}
use Rattle.policy_image.specs.declared.records.Record.{Record}
use Rattle.policy_image.specs.Policy.{Policy}
use Rattle.policy_expressions.specs.Nodes.{IsNode}
use Rattle.policy_lists.specs.Lists.{records_upto, of_kind_in, kind_list, no_record, record_in}
use Rattle.policy_lists.specs.Joined.{nodes_upto, makers_node, boards_node, renumbered, joined_kind, kinds_upto, joined_list}
use Rattle.policy_lists.proofs.JoinTurnLaws.{joined_count}

pub kind_append : (k : ℕ) (l m : List Record) → of_kind_in k (l ++ m) ≡ of_kind_in k l ++ of_kind_in k m
kind_append k [] m = refl
kind_append k (r ∷ l) m = go (eqb r.kind k) (kind_append k l m)
  where
    go : (t : Bool) → of_kind_in k (l ++ m) ≡ of_kind_in k l ++ of_kind_in k m
        → cond t (r ∷ of_kind_in k (l ++ m)) (of_kind_in k (l ++ m)) ≡ cond t (r ∷ of_kind_in k l) (of_kind_in k l) ++ of_kind_in k m
    go true h = ap (λ (x : List Record). r ∷ x) h
    go false h = h

-- ---- the place of record n among the records of its kind
module _ (rec : ℕ → Record) (k : ℕ) where
  abbrev up_to : ℕ → List Record
  up_to n = of_kind_in k (records_upto rec n)

  -- record n + 1 is of the kind, and comes last
  last_here : (n : ℕ) → (rec (suc n)).kind ≡ k → up_to (suc n) ≡ up_to n ++ (rec (suc n) ∷ [])
  last_here n e =
      kind_append k (records_upto rec n) (rec (suc n) ∷ [])
      ∙ ap (λ (t : Bool). up_to n ++ cond t (rec (suc n) ∷ []) []) (eq-eqb (rec (suc n)).kind k e)

  pub place_length : (n : ℕ) → (rec (suc n)).kind ≡ k → length (up_to (suc n)) ≡ suc (length (up_to n))
  place_length n e = ap length (last_here n e) ∙ length-append (up_to n) (rec (suc n) ∷ []) ∙ omega arith

  place_last : (n : ℕ) → (rec (suc n)).kind ≡ k → get_or (up_to (suc n)) (length (up_to n)) no_record ≡ rec (suc n)
  place_last n e =
      ap (λ (l : List Record). get_or l (length (up_to n)) no_record) (last_here n e)
      ∙ ap (λ (i : ℕ). get_or (up_to n ++ (rec (suc n) ∷ [])) i no_record) (sym (add-zero (length (up_to n))))
      ∙ get_or-append-add (up_to n) (rec (suc n) ∷ []) 0 no_record

  -- record n + 1 is of another kind
  pub other_here : (n : ℕ) → ((rec (suc n)).kind ≡ k → ⊥) → up_to (suc n) ≡ up_to n ++ []
  other_here n d =
      kind_append k (records_upto rec n) (rec (suc n) ∷ [])
      ∙ ap (λ (t : Bool). up_to n ++ cond t (rec (suc n) ∷ []) []) (ne_eqb (rec (suc n)).kind k d)

  pub other_length : (n : ℕ) → ((rec (suc n)).kind ≡ k → ⊥) → length (up_to (suc n)) ≡ length (up_to n)
  other_length n d = ap length (other_here n d) ∙ length-append (up_to n) [] ∙ omega arith

  -- there are no more of a kind than there are records
  pub most_length : (n : ℕ) → length (up_to n) ≤ n
  most_length zero = omega arith
  most_length (suc n) =
      let h = most_length n in
      ⊎_elim (λ e. let a = place_length n e in omega arith) (λ d. let a = other_length n d in omega arith) (split_eq (rec (suc n)).kind k)

  -- later records change no place
  pub upto_more_length : (n m : ℕ) → n ≤ m → length (up_to n) ≤ length (up_to m)
  upto_more_length n zero h = subst (λ (x : ℕ). length (up_to x) ≤ 0) (let e : 0 ≡ n = omega arith in e) (omega arith)
  upto_more_length n (suc m) h =
      ⊎_elim
      (λ e. subst (λ (x : ℕ). length (up_to x) ≤ length (up_to (suc m))) (sym e) (omega arith))
      (λ l.
      let g = upto_more_length n m (omega (arith, l)) in
      let a : length (up_to (suc m)) ≡ length (up_to m) + length (of_kind_in k (rec (suc m) ∷ [])) =
      ap length (kind_append k (records_upto rec m) (rec (suc m) ∷ [])) ∙ length-append (up_to m) (of_kind_in k (rec (suc m) ∷ [])) in
      omega (arith, g, a))
      (eq-or-lt_of_le h)

  place_stays : (n m i : ℕ) → n ≤ m → i < length (up_to n) → get_or (up_to m) i no_record ≡ get_or (up_to n) i no_record
  place_stays n zero i h b = ap (λ (x : ℕ). get_or (up_to x) i no_record) (let e : 0 ≡ n = omega arith in e)
  place_stays n (suc m) i h b =
      ⊎_elim
      (λ e. ap (λ (x : ℕ). get_or (up_to x) i no_record) (sym e))
      (λ l.
      let g = upto_more_length n m (omega (arith, l)) in
      ap (λ (x : List Record). get_or x i no_record) (kind_append k (records_upto rec m) (rec (suc m) ∷ []))
      ∙ get_or-append (up_to m) (of_kind_in k (rec (suc m) ∷ [])) no_record i (omega (arith, b, g))
      ∙ place_stays n m i (omega (arith, l)) b)
      (eq-or-lt_of_le h)

  pub place_at : (n m : ℕ) → suc n ≤ m → (rec (suc n)).kind ≡ k → get_or (up_to m) (length (up_to n)) no_record ≡ rec (suc n)
  place_at n m h e = place_stays (suc n) m (length (up_to n)) h (omega (arith, place_length n e)) ∙ place_last n e

-- ---- nodes of the joined list
module _ (p q : Policy) where
  -- the lists of kinds 1 to 8 end where the nodes begin
  behind : (i : ℕ) → get_or (joined_list p q) (length (kinds_upto (joined_kind p q) 8) + i) no_record ≡ get_or (joined_kind p q 9) i no_record
  behind i = get_or-append-add (kinds_upto (joined_kind p q) 8) (joined_kind p q 9) i no_record

  mapped : (to : ℕ → ℕ) (l : List Record) (i : ℕ) → get_or (map (renumbered to) l) i no_record ≡ renumbered to (get_or l i no_record)
  mapped to l i = get_or-map (renumbered to) l i no_record

  -- node n of the maker's policy is record makers_node p q n of the result, renumbered
  pub makers_node_lem : (n : ℕ) → IsNode p n → record_in (joined_list p q) (makers_node p q n) ≡ renumbered (makers_node p q) (p.rec n)
  makers_node_lem zero N = let z : ⊥ = omega (arith, N.low) in absurd z
  makers_node_lem (suc n) N =
      let c = joined_count p q 8 in
      let a = place_length p.rec 9 n N.nine in
      let m = upto_more_length p.rec 9 (suc n) p.size N.high in
      let x = length-map (kind_list p 9) (renumbered (makers_node p q)) in
      ap (record_in (joined_list p q))
      (let e : makers_node p q (suc n) ≡ suc (length (kinds_upto (joined_kind p q) 8) + nodes_upto p n) = omega (arith, c, a) in e)
      ∙ behind (nodes_upto p n)
      ∙ get_or-append (map (renumbered (makers_node p q)) (kind_list p 9)) (map (renumbered (boards_node p q)) (kind_list q 9)) no_record (nodes_upto p n)
      (omega (arith, a, m, x))
      ∙ mapped (makers_node p q) (kind_list p 9) (nodes_upto p n)
      ∙ ap (renumbered (makers_node p q)) (place_at p.rec 9 n p.size N.high N.nine)

  -- and node n of the board's is record boards_node p q n
  pub boards_node_lem : (n : ℕ) → IsNode q n → record_in (joined_list p q) (boards_node p q n) ≡ renumbered (boards_node p q) (q.rec n)
  boards_node_lem zero N = let z : ⊥ = omega (arith, N.low) in absurd z
  boards_node_lem (suc n) N =
      let c = joined_count p q 8 in
      let a = place_length q.rec 9 n N.nine in
      let x = length-map (kind_list p 9) (renumbered (makers_node p q)) in
      ap (record_in (joined_list p q))
      (let e : boards_node p q (suc n) ≡ suc (length (kinds_upto (joined_kind p q) 8) + (length (map (renumbered (makers_node p q)) (kind_list p 9)) + nodes_upto q n)) = omega (arith, c, a, x) in e)
      ∙ behind (length (map (renumbered (makers_node p q)) (kind_list p 9)) + nodes_upto q n)
      ∙ get_or-append-add (map (renumbered (makers_node p q)) (kind_list p 9)) (map (renumbered (boards_node p q)) (kind_list q 9)) (nodes_upto q n) no_record
      ∙ mapped (boards_node p q) (kind_list q 9) (nodes_upto q n)
      ∙ ap (renumbered (boards_node p q)) (place_at q.rec 9 n q.size N.high N.nine)
