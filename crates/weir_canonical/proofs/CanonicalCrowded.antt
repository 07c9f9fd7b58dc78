-- Policies of some flow records and n nodes that no record uses: with at most 4,095 records they pass the checks, and their canonical policies have what
-- the flow records alone come to, and the n nodes. These are the two sides of question 15.
use Prim.Native.Nat.{ℕ, zero, suc, ◌+◌, ◌≤◌, ◌<◌}
use mathlib.Core.Bool.{Bool, true, false, not, ◌&&◌, ◌||◌, cond}
use mathlib.Core.List.{List, [], ◌∷◌, ◌++◌}
use mathlib.Core.Logic.{inl, inr, ⊎_elim}
use mathlib.Core.Path.{◌≡◌, refl, sym, ap, ap₂, subst, ◌∙◌}
use native.Mathlib.Omega.{arith}
use borrow.Author.Tests.{ne_eqb}
use lib.Dec.{eqb}
use lib.ListN.{length, length-append, length-map}
use Rattle.base.specs.Bits.{bit}
use Rattle.base.specs.Questions.{AllYes, RefusedWith}
use Rattle.base.specs.Ranges.{Within}
use Rattle.base.proofs.BoolLaws.{or_none}
use Rattle.policy_image.specs.declared.counts.Counts.{Counts}
use Rattle.policy_image.specs.declared.records.Record.{Record}
use Rattle.policy_image.specs.Counts.{CountsInRange}
use Rattle.policy_image.specs.Layout.{record_count, counts_of, root_of, left_of, right_of}
use Rattle.policy_image.specs.Policy.{Policy, policy_of}
use Rattle.policy_image.specs.Encoding.{image_of}
use Rattle.policy_image.specs.OfKind.{some}
use Rattle.policy_image.specs.Inner.Writable.{WritableRecord, Writable}
use Rattle.policy_image.proofs.EncodingLaws.{count_written, counts_written, written_exact}
use Rattle.policy_links.proofs.KindLaws.{every_yes}
use Rattle.policy_fields.specs.Fields.{Fits, FieldsInRange}
use Rattle.std.specs.Prelude.{None, Some}
use Rattle.policy_expressions.specs.Nodes.{pick, has_root, has_left, has_right, use_of, Uses, NodesInOrder}
use Rattle.policy_sources.specs.Sources.{domain, AllowsFromDomains}
use Rattle.policy_check.specs.Questions.{policy_questions}
use Rattle.policy_lists.specs.Lists.{records_upto, record_list, of_kind_in, kind_list, record_in, link_in, with_next, policy_from}
use Rattle.policy_lists.specs.Joined.{kinds_upto}
use Rattle.policy_lists.specs.Inner.Tests.{some_in, IgnoresNext, InTurnFrom}
use Rattle.policy_lists.proofs.ListLaws.{of_kind, some_append, some_from}
use Rattle.policy_lists.proofs.NodeLaws.{kind_append}
use Rattle.policy_lists.proofs.TurnLaws.{from_rises, from_chains}
use Rattle.policy_lists.proofs.JoinTurnLaws.{Each, each_append, each_at}
use Rattle.policy_facts.specs.Facts.{has_key, is_stated, permits, mask_of, united_mask, carries_mask}
use Rattle.policy_facts.specs.Canonical.{key_a, key_b, key_c, key_numbers, fact_at, fact_kind, canonical_of}
use Rattle.policy_facts.proofs.KindsLaws.{kind_all, kind_none, kinds_same}
use Rattle.policy_facts.proofs.FactListLaws.{facts_same}
use Rattle.policy_facts.proofs.MaskLaws.{mask_same}
use Rattle.policy_facts.proofs.PolicyFromLaws.{kind_from}
use Rattle.policy_facts.proofs.CanonicalTurnLaws.{canonical_size}
use Rattle.policy_facts.proofs.ComputedLaws.{facts_b, computed_facts, facts_computed}
use Rattle.image_laws.proofs.AgreeLaws.{Agrees, agrees_record, some_agrees}
use Rattle.image_laws.proofs.WrittenLaws.{written_agrees, written_passes}
use Rattle.weir_canonical.specs.Cases.CanonicalPolicies.{node_one, nodes, flow_one, crowded_policy, crowded, one_flow, one_flow_again, no_flow}
use Rattle.weir_canonical.specs.Cases.Canonical.{Crowded}

-- all that the facts of a few records are computed with
unfoldable computing : Unit {0}
unfolding some is_stated permits mask_of bit
computing = tt

-- ---- a record of the crowd: its fields fit, it uses no node, and it is no allow
abbrev counts_for : ℕ → ℕ → Counts
counts_for types n = record { types = types; roles = 1; users = 1; classes = 1; records = n }

record Crowding (r : Record) : Type 0 where
  fits : (types n next : ℕ) → Fits (counts_for types n) (with_next next r)
  writable : (next : ℕ) → next < 65536 → WritableRecord (with_next next r)
  root : has_root r ≡ false
  left : has_left r ≡ false
  right : has_right r ≡ false
  allow : r.kind ≡ 4 → ⊥

node_crowding : Crowding node_one
node_crowding =
    record {
      fits = λ types n next. omega arith;
      writable = λ next h. omega arith;
      root = refl;
      left = refl;
      right = refl;
      allow = λ e. omega arith;
    }

apart : {m : ℕ} → None ≡ Some m → ⊥
apart {m} e = let z : ◌≡◌ {A = ℕ} 0 1 = cc in omega arith

-- a record that uses no node, whatever its next
no_use : (r : Record) → Crowding r → (next s m : ℕ) → use_of (with_next next r) s ≡ Some m → ⊥
unfolding use_of
no_use r C next zero m e =
    apart
    (sym (ap (λ (t : Bool). pick t (Some (root_of r)) (pick (has_left r) (Some (left_of r)) None)) C.root
    ∙ ap (λ (t : Bool). pick t (Some (left_of r)) None) C.left) ∙ e)
no_use r C next (suc zero) m e = apart (sym (ap (λ (t : Bool). pick t (Some (right_of r)) None) C.right) ∙ e)
no_use r C next (suc (suc s)) m e = apart e

-- records that are the same, as lists
upto_same : (rec other : ℕ → Record) (m n : ℕ) → m ≡ n → ((i : ℕ) → 1 ≤ i → i ≤ n → rec i ≡ other i) → records_upto rec m ≡ records_upto other n
upto_same rec other m zero e h = ap (records_upto rec) e
upto_same rec other m (suc n) e h =
    ap (records_upto rec) e
    ∙ ap₂ (λ (l : List Record) (r : Record). l ++ (r ∷ [])) (upto_same rec other n n refl (λ i a b. h i a (omega arith))) (h (suc n) (omega arith) (omega arith))

-- ---- the nodes
nodes_length : (n : ℕ) → length (nodes n) ≡ n
nodes_length zero = refl
nodes_length (suc n) = ap suc (nodes_length n)

nodes_each : (P : Record → Type 0) → P node_one → (n : ℕ) → Each P (nodes n)
nodes_each P h zero = tt
nodes_each P h (suc n) = (h, nodes_each P h n)

-- none of them is of another kind
nodes_some : (k : ℕ) (f : Record → Bool) → (9 ≡ k → ⊥) → (n : ℕ) → some_in (nodes n) (of_kind k f) ≡ false
nodes_some k f d zero = refl
nodes_some k f d (suc n) = ap₂ (λ (a b : Bool). a && f node_one || b) (ne_eqb 9 k d) (nodes_some k f d n)

-- ---- flow records, then nodes
module _ (types : ℕ) (flows : List Record) (crowd : Each Crowding flows) (own : Each (λ r. r.kind ≡ 3) flows) (n : ℕ) where
  abbrev p : Policy
  p = crowded_policy types flows n

  abbrev l : List Record
  l = flows ++ nodes n

  list_length : length (flows ++ nodes n) ≡ length flows + n
  list_length = length-append flows (nodes n) ∙ ap (λ (m : ℕ). length flows + m) (nodes_length n)

  each : (i : ℕ) → 1 ≤ i → i ≤ p.size → Crowding (record_in l i)
  each zero a b = let z : ⊥ = omega arith in absurd z
  each (suc i) a b = each_at Crowding l (each_append Crowding flows (nodes n) crowd (nodes_each Crowding node_crowding n)) i (omega arith)

  in_turn : (a : ℕ) (m : List Record) → a ≤ 3 → Each (λ r. r.kind ≡ 3) m → InTurnFrom a (m ++ nodes n)
  in_turn a [] h o = go a (omega arith) n
    where
      go : (a : ℕ) → a ≤ 9 → (n : ℕ) → InTurnFrom a (nodes n)
      go a h zero = tt
      go a h (suc n) = (h, omega arith, go 9 (omega arith) n)
  in_turn a (r ∷ m) h o = let e = o.0 in (omega arith, omega arith, in_turn r.kind m (omega arith) o.1)

  -- ---- the questions
  fields : FieldsInRange p
  fields = record { each = λ i a b. (each i a b).fits types (length l) (link_in l i) }

  no_uses : (i s m : ℕ) → Uses p i s m → ⊥
  no_uses i s m U = no_use (record_in l i) (each i U.low U.high) (link_in l i) s m U.at

  in_order_lem : NodesInOrder p
  in_order_lem = record { well = λ i s m U. absurd (no_uses i s m U); once = λ i s j t m U T. absurd (no_uses i s m U) }

  sources : AllowsFromDomains p
  sources = every_yes p 4 (λ r. domain p r.a) (λ i O. absurd ((each i O.low O.high).allow O.kind))

  module _ (small : types < 256) (few : length flows + n ≤ 4095) where
    writable : Writable p
    writable =
        let e = list_length in
        let L = from_rises p.counts l in
        record {
          counts = record { types = small; roles = omega arith; users = omega arith; classes = omega arith; records = omega arith };
          size = refl;
          heads = λ k w. let h = L.heads k w.low w.high in omega arith;
          fields = λ i w.
              let h : link_in l i < 65536 = ⊎_elim (λ z. omega (arith, z)) (λ g. let b = g.1 in omega arith) (L.nexts i w.low w.high) in
              (each i w.low w.high).writable (link_in l i) h;
        }

    passes : CountsInRange p.counts → AllYes (policy_questions (image_of p))
    passes C = written_passes p writable C (from_rises p.counts l) (from_chains p.counts l (in_turn 1 flows (omega arith) own)) fields in_order_lem sources

    counted : record_count (image_of p) ≡ length flows + n
    counted = count_written p writable ∙ list_length

    -- ---- the canonical policy of what is read of it: of kinds 1 to 7, the flow records alone say something
    abbrev q : Policy
    q = policy_of (image_of p)

    abbrev alone : Policy
    alone = policy_from p.counts flows

    agrees : Agrees p q
    agrees = written_agrees p writable

    module _ (k : ℕ) (h : k ≤ 7) where
      some_alone : (f : Record → Bool) → IgnoresNext f → some q k f ≡ some alone k f
      some_alone f I =
          sym (some_agrees p q agrees k f f (λ i o. ap f (agrees_record p q agrees k i o)))
          ∙ some_from p.counts l k f I
          ∙ some_append flows (nodes n) (of_kind k f)
          ∙ or_none (some_in flows (of_kind k f)) (some_in (nodes n) (of_kind k f)) (nodes_some k f (λ e. omega arith) n)
          ∙ sym (some_from p.counts flows k f I)

      stated_alone : (a b c : ℕ) → is_stated q k a b c ≡ is_stated alone k a b c
      unfolding is_stated
      stated_alone a b c = some_alone (has_key a b c) (λ next r. refl)

      united_alone : (a b c : ℕ) → united_mask q k a b c ≡ united_mask alone k a b c
      unfolding permits
      united_alone a b c =
          mask_same (permits q k a b c) (permits alone k a b c) 32 (λ i m. some_alone (λ r. has_key a b c r && bit r.mask i) (λ next r. refl))

      fact_alone : (x : ℕ) → fact_at q k x ≡ fact_at alone k x
      fact_alone x =
          let a : ℕ = key_a x in
          let b : ℕ = key_b x in
          let c : ℕ = key_c x in
          λ j.
          cond (cond (carries_mask k) (not (eqb (united_alone a b c j) 0)) (stated_alone a b c j))
          (record { next = 0; kind = k; a = a; b = b; c = c; d = 0; e = 0; mask = united_alone a b c j } ∷ []) []

    facts_alone : kinds_upto (fact_kind q) 7 ≡ kinds_upto (fact_kind alone) 7
    facts_alone = kinds_same (fact_kind q) (fact_kind alone) 7 (λ k a b. facts_same q alone k key_numbers (λ x h. fact_alone k b x))

    -- .. and its lists of kinds 8 and 9 are the nodes
    read_list : record_list q ≡ record_list p
    read_list = upto_same q.rec p.rec q.size p.size (sym agrees.size) (λ i a b. sym (agrees.records i (record { low = a; high = b })))

    kind_length : (k : ℕ) → length (kind_list q k) ≡ length (of_kind_in k flows) + length (of_kind_in k (nodes n))
    kind_length k =
        let x = length-map (kind_list p k) (with_next 0) in
        let y = length-map (of_kind_in k l) (with_next 0) in
        let e = ap length (kind_from k (with_next 0) (λ next r. refl) p.counts l) in
        let a = length-append (of_kind_in k flows) (of_kind_in k (nodes n)) in
        ap (λ (m : List Record). length (of_kind_in k m)) read_list ∙ sym x ∙ e ∙ y ∙ ap length (kind_append k flows (nodes n)) ∙ a

    nines : Each (λ r. r.kind ≡ 9) (nodes n)
    nines = nodes_each (λ r. r.kind ≡ 9) refl n

    no_constraint : length (kind_list q 8) ≡ 0
    no_constraint =
        kind_length 8
        ∙ ap₂ ◌+◌ (ap length (kind_none 3 8 flows (λ e. omega arith) own)) (ap length (kind_none 9 8 (nodes n) (λ e. omega arith) nines))

    all_nodes : length (kind_list q 9) ≡ n
    all_nodes =
        kind_length 9 ∙ ap₂ ◌+◌ (ap length (kind_none 3 9 flows (λ e. omega arith) own)) (ap length (kind_all 9 (nodes n) nines) ∙ nodes_length n) ∙ omega arith

    comes_to : (canonical_of q).size ≡ length (kinds_upto (fact_kind alone) 7) + n
    comes_to =
        let f = ap length facts_alone in
        let c = no_constraint in
        let m = all_nodes in
        canonical_size q ∙ omega arith

    -- with no type, question 2 refuses it
    no_type_lem : types ≡ 0 → RefusedWith (policy_questions (image_of p)) 2
    no_type_lem z =
        inr (written_exact p writable, inl (not_in_range, refl))
      where
        not_in_range : CountsInRange (counts_of (image_of p)) → ⊥
        not_in_range C = let R = subst CountsInRange (counts_written p writable) C in let r = R.types.low in omega arith

-- ---- the flow records, and what they come to
flow_crowding : (way mask : ℕ) → Within 1 3 way → mask < 4 → Crowding (flow_one way mask)
flow_crowding way mask w h =
    record {
      fits = λ types n next. omega arith;
      writable = λ next k. omega arith;
      root = refl;
      left = refl;
      right = refl;
      allow = λ e. omega arith;
    }

module _ (c : Counts) where
  flows_come_to : (flows written : List Record) → facts_b (policy_from c flows) (policy_from c written) ≡ true
      → length (kinds_upto (fact_kind (policy_from c flows)) 7) ≡ length (computed_facts (policy_from c flows) (policy_from c written))
  flows_come_to flows written e = ap length (facts_computed (policy_from c flows) (policy_from c written) e)

  one_flow_lem : length (kinds_upto (fact_kind (policy_from c one_flow)) 7) ≡ 2
  unfolding computing
  one_flow_lem = flows_come_to one_flow (flow_one 1 1 ∷ flow_one 2 1 ∷ []) refl

  one_flow_again_lem : length (kinds_upto (fact_kind (policy_from c one_flow_again)) 7) ≡ 2
  unfolding computing
  one_flow_again_lem = flows_come_to one_flow_again (flow_one 1 3 ∷ flow_one 2 1 ∷ []) refl

  no_flow_lem : length (kinds_upto (fact_kind (policy_from c no_flow)) 7) ≡ 0
  unfolding computing
  no_flow_lem = flows_come_to no_flow [] refl

module _ (flows : List Record) (crowd : Each Crowding flows) (own : Each (λ r. r.kind ≡ 3) flows) (m : ℕ)
    (facts : (c : Counts) → length (kinds_upto (fact_kind (policy_from c flows)) 7) ≡ m) (n : ℕ) (few : length flows + n ≤ 4095) where
  is_crowded : Crowded (crowded 1 flows n) (length flows + n) (m + n)
  unfolding crowded
  is_crowded =
      record {
        accepted = passes 1 flows crowd own n (omega arith) few (omega arith);
        has = counted 1 flows crowd own n (omega arith) few;
        comes_to = comes_to 1 flows crowd own n (omega arith) few ∙ ap (λ (x : ℕ). x + n) (facts (crowded_policy 1 flows n).counts);
      }

  no_type_comes_to : (canonical_of (policy_of (crowded 0 flows n))).size ≡ m + n
  unfolding crowded
  no_type_comes_to = comes_to 0 flows crowd own n (omega arith) few ∙ ap (λ (x : ℕ). x + n) (facts (crowded_policy 0 flows n).counts)

  no_type_2 : RefusedWith (policy_questions (crowded 0 flows n)) 2
  unfolding crowded
  no_type_2 = no_type_lem 0 flows crowd own n (omega arith) few refl

one_crowding : Each Crowding one_flow
one_crowding = (flow_crowding 3 1 (omega arith) (omega arith), tt)

pub one_crowded : (n : ℕ) → n ≤ 4094 → Crowded (crowded 1 one_flow n) (1 + n) (2 + n)
one_crowded n h = is_crowded one_flow one_crowding (refl, tt) 2 one_flow_lem n (omega arith)

pub again_crowded : (n : ℕ) → n ≤ 4093 → Crowded (crowded 1 one_flow_again n) (2 + n) (2 + n)
again_crowded n h =
    is_crowded one_flow_again (flow_crowding 3 1 (omega arith) (omega arith), (flow_crowding 1 3 (omega arith) (omega arith), tt)) (refl, (refl, tt)) 2
    one_flow_again_lem n (omega arith)

pub none_crowded : (n : ℕ) → n ≤ 4094 → Crowded (crowded 1 no_flow n) (1 + n) (0 + n)
none_crowded n h = is_crowded no_flow (flow_crowding 3 0 (omega arith) (omega arith), tt) (refl, tt) 0 no_flow_lem n (omega arith)

pub typeless : (n : ℕ) → n ≤ 4094 → ((canonical_of (policy_of (crowded 0 one_flow n))).size ≡ 2 + n) × RefusedWith (policy_questions (crowded 0 one_flow n)) 2
typeless n h =
    (no_type_comes_to one_flow one_crowding (refl, tt) 2 one_flow_lem n (omega arith), no_type_2 one_flow one_crowding (refl, tt) 2 one_flow_lem n (omega arith))
