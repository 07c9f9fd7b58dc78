-- What the joined policy states: each test of a kind, by the records of the maker and by those of the board.
use Prim.Native.Nat.{ℕ, zero, suc}
use mathlib.Core.Path.{◌≡◌, refl, sym, ap, ap₂, subst, ◌∙◌}
use mathlib.Core.Bool.{Bool, true, false, not, ◌&&◌, ◌||◌, cond}
use mathlib.Core.List.{List, [], ◌∷◌, map}
use mathlib.Core.Logic.{⊎_elim}
use native.Mathlib.Omega.{arith}
use borrow.Author.Tests.{eqb-true, eq-eqb, ne_eqb}
use lib.Dec.{eqb}
use Rattle.base.specs.Upto.{any_upto}
use Rattle.base.specs.Ranges.{Within}
use Rattle.base.proofs.BoolLaws.{clash, same_truth}
use Rattle.base.proofs.Numbers.{split_eq}
use Rattle.base.proofs.UptoLaws.{any_yes, any_found}
use Rattle.policy_image.specs.declared.records.Record.{Record}
use Rattle.policy_image.specs.Policy.{Policy}
use Rattle.policy_image.specs.OfKind.{some, every}
use Rattle.policy_lists.specs.Inner.Tests.{some_in, IgnoresNext}
use Rattle.policy_lists.specs.Lists.{record_list, of_kind_in, kind_list}
use Rattle.policy_lists.specs.Joined.{larger_counts, makers_node, boards_node, renumbered, joined_kind, kinds_upto, joined_list, joined}
use Rattle.policy_lists.proofs.ListLaws.{some_append, some_map, of_kind, some_list, some_from, not_or, every_not}
use Rattle.policy_lists.proofs.RenumberLaws.{renumbered_kind, renumbered_same}

-- ---- tests of the records of a kind
-- tests that agree on the records of a kind
some_same : (l : List Record) (k : ℕ) (f g : Record → Bool) → ((r : Record) → r.kind ≡ k → f r ≡ g r) → some_in (of_kind_in k l) f ≡ some_in (of_kind_in k l) g
some_same [] k f g h = refl
some_same (r ∷ l) k f g h = go (eqb r.kind k) refl (some_same l k f g h)
  where
    go : (t : Bool) → eqb r.kind k ≡ t → some_in (of_kind_in k l) f ≡ some_in (of_kind_in k l) g
        → some_in (cond t (r ∷ of_kind_in k l) (of_kind_in k l)) f ≡ some_in (cond t (r ∷ of_kind_in k l) (of_kind_in k l)) g
    go true e s = ap₂ ◌||◌ (h r (eqb-true r.kind k e)) s
    go false e s = s

never_some : (l : List Record) → some_in l (λ r. false) ≡ false
never_some [] = refl
never_some (r ∷ l) = never_some l

-- records of kind j that are changed and keep their kind: those of kind k among them
module _ (g : Record → Record) (keeps : (r : Record) → (g r).kind ≡ r.kind) (l : List Record) (k : ℕ) (f : Record → Bool) where
  some_its_kind : some_in (map g (of_kind_in k l)) (of_kind k f) ≡ some_in (of_kind_in k l) (λ r. f (g r))
  some_its_kind =
      some_map g (of_kind_in k l) (of_kind k f)
      ∙ some_same l k (λ r. of_kind k f (g r)) (λ r. f (g r)) (λ r e. ap (λ (t : Bool). t && f (g r)) (eq-eqb (g r).kind k (keeps r ∙ e)))

  some_other_kind : (j : ℕ) → (j ≡ k → ⊥) → some_in (map g (of_kind_in j l)) (of_kind k f) ≡ false
  some_other_kind j n =
      some_map g (of_kind_in j l) (of_kind k f)
      ∙ some_same l j (λ r. of_kind k f (g r)) (λ r. false) (λ r e. ap (λ (t : Bool). t && f (g r)) (ne_eqb (g r).kind k (λ q. n (sym (keeps r ∙ e) ∙ q))))
      ∙ never_some (of_kind_in j l)

-- ---- tests of the kinds in turn
some_kinds : (lists : ℕ → List Record) (f : Record → Bool) (n : ℕ) → some_in (kinds_upto lists n) f ≡ any_upto (λ k. some_in (lists k) f) n
some_kinds lists f zero = refl
some_kinds lists f (suc n) =
    some_append (kinds_upto lists n) (lists (suc n)) f ∙ ap (λ (t : Bool). t || some_in (lists (suc n)) f) (some_kinds lists f n)

-- a test that holds at k alone, if at all
any_only : (f : ℕ → Bool) (n k : ℕ) → Within 1 n k → ((j : ℕ) → (j ≡ k → ⊥) → f j ≡ false) → any_upto f n ≡ f k
any_only f n k w other =
    same_truth (any_upto f n) (f k)
    (λ e. let r = any_found f n e in
    ⊎_elim (λ q. subst (λ (j : ℕ). f j ≡ true) q r.holds) (λ d. absurd (clash r.holds (other r.at d))) (split_eq r.at k))
    (λ e. any_yes f n k w.low w.high e)

-- ---- the joined policy
module _ (p q : Policy) (k : ℕ) (f : Record → Bool) (I : IgnoresNext f) where
  abbrev maker : Record → Record
  maker = renumbered (makers_node p q)

  abbrev board : Record → Record
  board = renumbered (boards_node p q)

  -- some record of kind k passes: one of the maker's or one of the board's, with its nodes renumbered
  pub some_joined : Within 1 9 k
      → some (joined p q) k f ≡ (some p k (λ r. f (renumbered (makers_node p q) r)) || some q k (λ r. f (renumbered (boards_node p q) r)))
  some_joined w =
      some_from (larger_counts p.counts q.counts) (joined_list p q) k f I
      ∙ some_kinds (joined_kind p q) (of_kind k f) 9
      ∙ any_only (λ j. some_in (joined_kind p q j) (of_kind k f)) 9 k w other
      ∙ some_append (map maker (kind_list p k)) (map board (kind_list q k)) (of_kind k f)
      ∙ ap₂ ◌||◌
      (some_its_kind maker (renumbered_kind (makers_node p q)) (record_list p) k f ∙ sym (some_list p k (λ r. f (maker r))))
      (some_its_kind board (renumbered_kind (boards_node p q)) (record_list q) k f ∙ sym (some_list q k (λ r. f (board r))))
    where
      other : (j : ℕ) → (j ≡ k → ⊥) → some_in (joined_kind p q j) (of_kind k f) ≡ false
      other j n =
          some_append (map maker (kind_list p j)) (map board (kind_list q j)) (of_kind k f)
          ∙ ap₂ ◌||◌ (some_other_kind maker (renumbered_kind (makers_node p q)) (record_list p) k f j n)
          (some_other_kind board (renumbered_kind (boards_node p q)) (record_list q) k f j n)

  -- "Its relations are those of both record lists taken together": of kinds 1 to 7 nothing is renumbered
  pub some_of_both : Within 1 7 k → some (joined p q) k f ≡ (some p k f || some q k f)
  some_of_both w =
      some_joined (record { low = w.low; high = omega (arith, w.high) })
      ∙ ap₂ ◌||◌ (as_is p (makers_node p q)) (as_is q (boards_node p q))
    where
      as_is : (o : Policy) (to : ℕ → ℕ) → some o k (λ r. f (renumbered to r)) ≡ some o k f
      as_is o to =
          some_list o k (λ r. f (renumbered to r))
          ∙ some_same (record_list o) k (λ r. f (renumbered to r)) f (λ r e. ap f (renumbered_same to r (omega (arith, e, w.high))))
          ∙ sym (some_list o k f)

-- every record of kind k passes: the maker's and the board's, with their nodes renumbered; "constraints all apply"
pub every_joined : (p q : Policy) (k : ℕ) (f : Record → Bool) → IgnoresNext f → Within 1 9 k
    → every (joined p q) k f ≡ (every p k (λ r. f (renumbered (makers_node p q) r)) && every q k (λ r. f (renumbered (boards_node p q) r)))
every_joined p q k f I w =
    let makers : Record → Bool = λ r. f (renumbered (makers_node p q) r) in
    let boards : Record → Bool = λ r. f (renumbered (boards_node p q) r) in
    every_not (joined p q) k f
    ∙ ap not (some_joined p q k (λ r. not (f r)) (λ n r. ap not (I n r)) w)
    ∙ not_or (some p k (λ r. not (makers r))) (some q k (λ r. not (boards r)))
    ∙ ap₂ ◌&&◌ (sym (every_not p k makers)) (sym (every_not q k boards))
