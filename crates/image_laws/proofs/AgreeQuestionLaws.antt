-- Two policies that agree on all that an image holds pass the same questions, 3 to 6 and 14, and their constraints say the same.
use Prim.Native.Nat.{ℕ, ◌≤◌}
use mathlib.Core.Path.{◌≡◌, sym, ap, subst, ◌∙◌}
use mathlib.Core.Bool.{Bool, not, ◌||◌}
use mathlib.Core.Logic.{inl, inr, ⊎_elim}
use native.Mathlib.Omega.{arith}
use lib.Dec.{eqb}
use Rattle.base.specs.Ranges.{Within}
use Rattle.base.specs.Chain.{Meets, OnChain}
use Rattle.base.specs.Chain.Meets.{here, later}
use Rattle.policy_image.specs.declared.counts.Counts.{Counts}
use Rattle.policy_image.specs.declared.records.Record.{Record}
use Rattle.policy_image.specs.Layout.{left_of, right_of}
use Rattle.policy_image.specs.Policy.{Policy, policy_links}
use Rattle.policy_links.specs.Chains.{LinksRise, ChainsByKind}
use Rattle.policy_links.proofs.KindLaws.{chain_kind}
use Rattle.policy_fields.specs.Fields.{Fits, FieldsInRange}
use Rattle.policy_expressions.specs.Nodes.{use_of, Uses, IsNode, NodesInOrder}
use Rattle.policy_sources.specs.Sources.{domain, AllowsFromDomains}
use Rattle.context.specs.declared.Context.{Context}
use Rattle.context.specs.declared.Event.{Event}
use Rattle.constraints.specs.Constraints.{constrains, constraints_hold}
use Rattle.image_laws.proofs.AgreeLaws.{Agrees, agrees_back, agrees_record, agrees_kind, some_agrees, every_agrees}
use Rattle.image_laws.proofs.CarryLaws.{Carried, carried_root, says}

module _ (p q : Policy) (A : Agrees p q) where
  -- a record of q is the same record of p
  back : (i : ℕ) → 1 ≤ i → i ≤ q.size → Within 1 p.size i
  back i a b = let n = A.size in record { low = a; high = omega arith }

  -- ---- questions 3 and 4
  pub agrees_rises : LinksRise p → LinksRise q
  agrees_rises L =
      let n = A.size in
      record {
        heads = λ k a b. omega (arith, A.heads k (record { low = a; high = b }), L.heads k a b);
        nexts = λ i a b.
            let w = back i a b in
            let e = ap (λ (r : Record). r.next) (A.records i w) in
            ⊎_elim (λ z. inl (sym e ∙ z)) (λ g. inr (omega (arith, e, g.0), omega (arith, e, g.1))) (L.nexts i a w.high);
      }

  -- links lead from records to records
  meets_agrees : LinksRise p → {c j : ℕ} → c ≤ p.size → Meets (policy_links p) c j → Meets (policy_links q) c j
  meets_agrees L h (here n) = here n
  meets_agrees L {c} {j} h (later n m) =
      let a : 1 ≤ c = omega arith in
      later n
      (subst (λ (d : ℕ). Meets (policy_links q) d j) (ap (λ (r : Record). r.next) (A.records c (record { low = a; high = h })))
      (meets_agrees L (⊎_elim (λ z. omega (arith, z)) (λ g. g.1) (L.nexts c a h)) m))

  chain_agrees : LinksRise p → (k i : ℕ) → Within 1 9 k → OnChain (policy_links p) k i → OnChain (policy_links q) k i
  chain_agrees L k i w m =
      subst (λ (c : ℕ). Meets (policy_links q) c i) (A.heads k w) (meets_agrees L (L.heads k w.low w.high) m)

  -- ---- question 5
  pub agrees_fields : FieldsInRange p → FieldsInRange q
  agrees_fields F =
      record {
        each = λ i a b.
            let w = back i a b in
            subst (λ (c : Counts). Fits c (q.rec i)) A.counts (subst (Fits p.counts) (A.records i w) (F.each i a w.high));
      }

  -- ---- question 6
  agrees_node : (n : ℕ) → IsNode p n → IsNode q n
  agrees_node n I =
      let K = agrees_kind p q A 9 n (record { low = I.low; high = I.high; kind = I.nine }) in
      record { low = K.low; high = K.high; nine = K.kind }

  uses_back : (i s n : ℕ) → Uses q i s n → Uses p i s n
  uses_back i s n U =
      let w = back i U.low U.high in
      record { low = U.low; high = w.high; at = ap (λ (r : Record). use_of r s) (A.records i w) ∙ U.at }

  pub agrees_nodes : NodesInOrder p → NodesInOrder q
  agrees_nodes N =
      record {
        well = λ i s n U.
            let W = N.well i s n (uses_back i s n U) in
            let e = ap (λ (r : Record). r.kind) (A.records i (back i U.low U.high)) in
            record { node = agrees_node n W.node; lower = λ k. W.lower (e ∙ k) };
        once = λ i s j t n U W. N.once i s j t n (uses_back i s n U) (uses_back j t n W);
      }

  -- ---- question 14
  agrees_domain : (t : ℕ) → domain p t ≡ domain q t
  unfolding domain
  agrees_domain t = some_agrees p q A 1 (λ r. eqb r.a t) (λ r. eqb r.a t) (λ i K. ap (λ (r : Record). eqb r.a t) (agrees_record p q A 1 i K))

  pub agrees_sources : AllowsFromDomains p → AllowsFromDomains q
  agrees_sources S =
      sym
      (every_agrees p q A 4 (λ r. domain p r.a) (λ r. domain q r.a)
      (λ i K. agrees_domain (p.rec i).a ∙ ap (λ (r : Record). domain q r.a) (agrees_record p q A 4 i K)))
      ∙ S

  -- ---- the constraints
  pub agrees_constraints : NodesInOrder p → (e : Event) (x y : Context) → constraints_hold p e x y ≡ constraints_hold q e x y
  unfolding constraints_hold
  agrees_constraints N e x y =
      every_agrees p q A 8 (says e x y p) (says e x y q)
      (λ i K.
      ap (λ (b : Bool). not (constrains (p.rec i) e) || b) (sym (carried_root p q (λ n. n) carried N (agrees_nodes N) x y i K))
      ∙ ap (says e x y q) (agrees_record p q A 8 i K))
    where
      same : (n : ℕ) → IsNode p n → q.rec n ≡ p.rec n
      same n I = sym (A.records n (record { low = I.low; high = I.high }))

      carried : Carried p q (λ n. n)
      carried =
          record {
            node = agrees_node;
            operator = λ n I. ap (λ (r : Record). r.a) (same n I);
            compared = λ n I. ap (λ (r : Record). r.b) (same n I);
            left = λ n I a b. ap left_of (same n I);
            right = λ n I a b. ap right_of (same n I);
          }

-- question 4, from both sides: each chain meets the same records
pub agrees_chains : (p q : Policy) → Agrees p q → LinksRise p → ChainsByKind p → ChainsByKind q
agrees_chains p q A L C =
    record {
      kinds = λ k i a b m.
          let w : Within 1 9 k = record { low = a; high = b } in
          (agrees_kind p q A k i (chain_kind p L C k a b i (chain_agrees q p (agrees_back A) (agrees_rises p q A L) k i w m))).kind;
      all = λ i a b.
          let w = back p q A i a b in
          let O = C.all i a w.high in
          let e = ap (λ (r : Record). r.kind) (A.records i w) in
          record {
            kind = subst (Within 1 9) e O.kind;
            on = subst (λ (k : ℕ). OnChain (policy_links q) k i) e (chain_agrees p q A L (p.rec i).kind i O.kind O.on);
          };
    }
