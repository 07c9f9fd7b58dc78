-- Two policies that agree on all that an image holds say the same.
use Prim.Native.Nat.{ℕ, zero, suc, ◌≤◌}
use mathlib.Core.Path.{◌≡◌, refl, ap, ap₂, ◌∙◌}
use mathlib.Core.Bool.{Bool, ◌&&◌}
use mathlib.Core.List.{List, [], ◌∷◌, ◌++◌, map}
use native.Mathlib.Nat.{le_refl}
use native.Mathlib.Omega.{arith}
use lib.ListN.{length}
use Rattle.base.specs.Bits.{bit}
use Rattle.policy_image.specs.declared.counts.Counts.{Counts}
use Rattle.policy_image.specs.declared.records.Record.{Record}
use Rattle.policy_image.specs.Policy.{Policy}
use Rattle.policy_image.specs.OfKind.{some}
use Rattle.policy_expressions.specs.Nodes.{NodesInOrder}
use Rattle.policy_lists.specs.Lists.{records_upto, of_kind_in, kind_list, with_next}
use Rattle.policy_lists.specs.Joined.{nodes_upto, renumbered}
use Rattle.policy_facts.specs.Facts.{has_key, is_stated, permits}
use Rattle.policy_facts.specs.Cases.Same.{by_place, Same}
use Rattle.policy_facts.proofs.KindsLaws.{map_each, each_kind}
use Rattle.policy_facts.proofs.UsedNodeLaws.{renumbered_used}
use Rattle.image_laws.proofs.AgreeLaws.{Agrees, agrees_record, some_agrees}

module _ (p q : Policy) (A : Agrees p q) where
  -- ---- the facts
  agrees_some : (k : ℕ) (f : Record → Bool) → some p k f ≡ some q k f
  agrees_some k f = some_agrees p q A k f f (λ i K. ap f (agrees_record p q A k i K))

  agrees_states : (k a b c : ℕ) → is_stated p k a b c ≡ is_stated q k a b c
  unfolding is_stated
  agrees_states k a b c = agrees_some k (has_key a b c)

  agrees_permits : (k a b c i : ℕ) → permits p k a b c i ≡ permits q k a b c i
  unfolding permits
  agrees_permits k a b c i = agrees_some k (λ r. has_key a b c r && bit r.mask i)

  -- ---- the lists of constraints and nodes
  agrees_upto : (n : ℕ) → n ≤ p.size → records_upto p.rec n ≡ records_upto q.rec n
  agrees_upto zero h = refl
  agrees_upto (suc n) h =
      ap₂ (λ (l : List Record) (r : Record). l ++ (r ∷ [])) (agrees_upto n (omega arith)) (A.records (suc n) (record { low = omega arith; high = h }))

  agrees_list : (k : ℕ) → kind_list p k ≡ kind_list q k
  agrees_list k = ap (of_kind_in k) (agrees_upto p.size (le_refl p.size) ∙ ap (records_upto q.rec) A.size)

  -- the nodes that the records use stand at the same places
  agrees_place : NodesInOrder p → (k : ℕ) → by_place p k ≡ by_place q k
  agrees_place N k = map_each placed other (kind_list p k) (each_kind (λ r. placed r ≡ other r) p.rec k p.size each) ∙ ap (map other) (agrees_list k)
    where
      placed : Record → Record
      placed r = with_next 0 (renumbered (nodes_upto p) r)

      other : Record → Record
      other r = with_next 0 (renumbered (nodes_upto q) r)

      each : (i : ℕ) → 1 ≤ i → i ≤ p.size → (p.rec i).kind ≡ k → placed (p.rec i) ≡ other (p.rec i)
      each i a b e =
          ap (with_next 0)
          (renumbered_used p N i a b (nodes_upto p) (nodes_upto q) (λ n I. ap (λ (l : List Record). length (of_kind_in 9 l)) (agrees_upto n I.high)))

  pub agrees_same : NodesInOrder p → Same p q
  agrees_same N =
      record {
        types = ap (λ (c : Counts). c.types) A.counts;
        roles = ap (λ (c : Counts). c.roles) A.counts;
        users = ap (λ (c : Counts). c.users) A.counts;
        classes = ap (λ (c : Counts). c.classes) A.counts;
        keys = λ k a b c w m. agrees_states k a b c;
        permissions = λ k a b c i m. agrees_permits k a b c i;
        constraints = agrees_place N 8;
        nodes = agrees_place N 9;
      }
