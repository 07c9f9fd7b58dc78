-- The passes that make the tables of a policy: what a table has after n records.
use Prim.Native.Nat.{ℕ, suc, ◌+◌, ◌≤◌}
use mathlib.Core.Path.{◌≡◌, refl, sym, ap, subst, ◌∙◌}
use mathlib.Core.List.{List}
use mathlib.Core.Logic.{⊎_elim}
use native.Mathlib.Omega.{arith}
use lib.ListN.{length, get_or, set, replicate, length-set, length-replicate}
use lib.Seq.{get_or-set_same, get_or-set_other}
use Rattle.base.specs.Ranges.{Within}
use Rattle.base.proofs.Numbers.{split_eq, zeros}
use Rattle.policy_image.specs.declared.records.Record.{Record}
use Rattle.policy_image.specs.Policy.{Policy}
use Rattle.policy_image.specs.Inner.Sizes.{most_records}
use Rattle.policy_lists.specs.Lists.{records_upto, of_kind_in}
use Rattle.policy_lists.specs.Joined.{nodes_upto}
use Rattle.policy_lists.proofs.NodeLaws.{place_length, other_length, most_length}

module _ (rec : ℕ → Record) where
  -- ---- how many there are of each kind
  abbrev many : ℕ → ℕ → ℕ
  many k n = length (of_kind_in k (records_upto rec n))

  pub record CountedTo (n : ℕ) (t : List ℕ) : Type 0 where
    pub size : length t ≡ 10
    pub counts : (k : ℕ) → 1 ≤ k → k ≤ 9 → get_or t k 0 ≡ many k n

  pub counted_start_lem : CountedTo 0 (replicate 10 0)
  counted_start_lem = record { size = refl; counts = λ k a b. zeros 10 k }

  pub counted_fits : {n : ℕ} {t : List ℕ} → CountedTo n t → (k : ℕ) → 1 ≤ k → k ≤ 9 → get_or t k 0 ≤ n
  counted_fits {n} C k a b = let m = most_length rec k n in let e = C.counts k a b in omega arith

  -- the next record is counted for its kind
  pub counted_more : {n : ℕ} {t : List ℕ} → CountedTo n t → (i k v : ℕ) → i ≡ suc n → k ≡ (rec i).kind → Within 1 9 k → v ≡ get_or t k 0 + 1 → CountedTo i (set t k v)
  counted_more {n} {t} C i k v next e w s =
      let its = ap (λ (x : ℕ). (rec x).kind) (sym next) ∙ sym e in
      subst (λ (x : ℕ). CountedTo x (set t k v)) (sym next) (record {
        size = length-set t k v ∙ C.size;
        counts = λ j a b. ⊎_elim
            (λ (q : j ≡ k). ap (λ (x : ℕ). get_or (set t k v) x 0) q ∙ get_or-set_same t k v 0 (omega (arith, C.size, w.high)) ∙ s
            ∙ (let h = C.counts k w.low w.high in
            let l = place_length rec k n its in
            subst (λ (x : ℕ). get_or t k 0 + 1 ≡ many x (suc n)) (sym q) (omega arith)))
            (λ (d : j ≡ k → ⊥). get_or-set_other t k j v 0 d ∙ C.counts j a b ∙ sym (other_length rec j n (λ f. d (sym f ∙ its))))
            (split_eq j k);
      })

module _ (o : Policy) where
  -- ---- how many nodes there are up to each number
  pub record NumberedTo (n nodes : ℕ) (t : List ℕ) : Type 0 where
    pub size : length t ≡ suc most_records
    pub many : nodes ≡ nodes_upto o n
    pub upto : (i : ℕ) → i ≤ n → get_or t i 0 ≡ nodes_upto o i

  pub numbered_start : NumberedTo 0 0 (replicate (suc most_records) 0)
  numbered_start =
      record {
        size = length-replicate {A = ℕ} (suc most_records) 0;
        many = refl;
        upto = λ i h. zeros (suc most_records) i ∙ ap (nodes_upto o) (let e : 0 ≡ i = omega arith in e);
      }

  pub numbered_fits : {n nodes : ℕ} {t : List ℕ} → NumberedTo n nodes t → nodes ≤ n
  numbered_fits {n} N = let m = most_length o.rec 9 n in let e = N.many in omega arith

  module _ {n nodes : ℕ} {t : List ℕ} (N : NumberedTo n nodes t) (i : ℕ) (next : i ≡ suc n) (room : i ≤ most_records) where
    entered : (m : ℕ) → m ≡ nodes_upto o i → NumberedTo i m (set t i m)
    entered m e =
        record {
          size = length-set t i m ∙ N.size;
          many = e;
          upto = λ j h. ⊎_elim
              (λ (q : j ≡ i). ap (λ (x : ℕ). get_or (set t i m) x 0) q ∙ get_or-set_same t i m 0 (omega (arith, N.size, room)) ∙ e ∙ ap (nodes_upto o) (sym q))
              (λ (d : j ≡ i → ⊥). get_or-set_other t i j m 0 d ∙ N.upto j (omega (arith, h, d)))
              (split_eq j i);
        }

    pub numbered_node : (o.rec i).kind ≡ 9 → NumberedTo i (nodes + 1) (set t i (nodes + 1))
    numbered_node e =
        entered (nodes + 1)
        (let l = place_length o.rec 9 n (ap (λ (x : ℕ). (o.rec x).kind) (sym next) ∙ e) in
        let m = N.many in
        subst (λ (x : ℕ). nodes + 1 ≡ nodes_upto o x) (sym next) (omega arith))

    pub numbered_other : ((o.rec i).kind ≡ 9 → ⊥) → NumberedTo i nodes (set t i nodes)
    numbered_other d =
        entered nodes
        (subst (λ (x : ℕ). nodes ≡ nodes_upto o x) (sym next) (N.many ∙ sym (other_length o.rec 9 n (λ e. d (ap (λ (x : ℕ). (o.rec x).kind) next ∙ e)))))
