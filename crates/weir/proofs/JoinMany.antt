-- Policies of n records that call the one type a domain pass the checks, for every n up to 4,095: the two sides of question 15.
use Prim.Native.Nat.{ℕ, zero, suc, ◌+◌, ◌*◌, ◌≤◌, ◌<◌}
use mathlib.Core.Logic.{⊎_elim}
use mathlib.Core.Path.{◌≡◌, refl, sym, ap, subst, ◌∙◌}
use native.Mathlib.Omega.{arith}
use lib.ListN.{length}
use Rattle.base.specs.Questions.{AllYes}
use Rattle.policy_image.specs.declared.records.Record.{Record}
use Rattle.policy_image.specs.Layout.{record_count}
use Rattle.policy_image.specs.Policy.{Policy, policy_of}
use Rattle.policy_image.specs.Inner.Sizes.{header_size, size_of}
use Rattle.policy_image.specs.Inner.Writable.{WritableRecord, Writable}
use Rattle.policy_image.proofs.EncodingLaws.{count_written, image_length}
use Rattle.policy_links.proofs.KindLaws.{every_yes}
use Rattle.policy_fields.specs.Fields.{Fits, FieldsInRange}
use Rattle.std.specs.Prelude.{None, Some}
use Rattle.policy_expressions.specs.Nodes.{use_of, Uses, NodesInOrder}
use Rattle.policy_sources.specs.Sources.{domain, AllowsFromDomains}
use Rattle.policy_check.specs.Questions.{policy_questions}
use Rattle.policy_lists.specs.Lists.{record_in, link_in, with_next}
use Rattle.policy_lists.specs.Joined.{joined}
use Rattle.policy_lists.specs.Inner.Tests.{InTurnFrom}
use Rattle.policy_lists.proofs.TurnLaws.{from_rises, from_chains}
use Rattle.policy_lists.proofs.JoinTurnLaws.{joined_size}
use Rattle.join.specs.Join.{joined_image}
use Rattle.weir.specs.Cases.JoinPolicies.{domain_one, times, many_policy, many_domains}
use Rattle.image_laws.proofs.WrittenLaws.{written_passes}

-- ---- the list of records
times_length : (n : ℕ) → length (times n) ≡ n
times_length zero = refl
times_length (suc n) = ap suc (times_length n)

times_at : (n i : ℕ) → i < n → record_in (times n) (suc i) ≡ domain_one
times_at zero i h = absurd (omega arith)
times_at (suc n) zero h = refl
times_at (suc n) (suc i) h = times_at n i (omega arith)

times_turn : (n : ℕ) → InTurnFrom 1 (times n)
times_turn zero = tt
times_turn (suc n) = (omega arith, omega arith, times_turn n)

-- ---- the policy
apart : {m : ℕ} → None ≡ Some m → ⊥
apart {m} e = let z : ◌≡◌ {A = ℕ} 0 1 = cc in omega arith

module _ (n : ℕ) where
  abbrev p : Policy
  p = many_policy n

  record_is : (i : ℕ) → 1 ≤ i → i ≤ p.size → p.rec i ≡ with_next (link_in (times n) i) domain_one
  record_is zero a b = absurd (omega arith)
  record_is (suc i) a b =
      let l = times_length n in
      ap (with_next (link_in (times n) (suc i))) (times_at n i (omega arith))

  fields : FieldsInRange p
  fields =
      record {
        each = λ i a b. subst (Fits p.counts) (sym (record_is i a b)) (omega arith);
      }

  -- a domain record uses no node
  no_use : (k s m : ℕ) → use_of (with_next k domain_one) s ≡ Some m → ⊥
  unfolding use_of
  no_use k zero m e = apart e
  no_use k (suc zero) m e = apart e
  no_use k (suc (suc s)) m e = apart e

  no_uses : (i s m : ℕ) → Uses p i s m → ⊥
  no_uses i s m U = no_use (link_in (times n) i) s m (ap (λ (r : Record). use_of r s) (sym (record_is i U.low U.high)) ∙ U.at)

  nodes : NodesInOrder p
  nodes = record { well = λ i s m U. absurd (no_uses i s m U); once = λ i s j t m U T. absurd (no_uses i s m U) }

  sources : AllowsFromDomains p
  sources =
      every_yes p 4 (λ r. domain p r.a)
      (λ i O. let z : ◌≡◌ {A = ℕ} 4 1 = sym O.kind ∙ ap (λ (r : Record). r.kind) (record_is i O.low O.high) in absurd (omega arith))

  module _ (few : n ≤ 4095) where
    writable : Writable p
    writable =
        let l = times_length n in
        let L = from_rises p.counts (times n) in
        record {
          counts = record { types = omega arith; roles = omega arith; users = omega arith; classes = omega arith; records = omega arith };
          size = refl;
          heads = λ k w. let h = L.heads k w.low w.high in omega arith;
          fields = λ i w.
              let h : link_in (times n) i < 65536 = ⊎_elim (λ z. omega (arith, z)) (λ g. let b = g.1 in omega arith) (L.nexts i w.low w.high) in
              subst WritableRecord (sym (record_is i w.low w.high)) (omega arith);
        }

    pub many_passes : AllYes (policy_questions (many_domains n))
    unfolding many_domains
    many_passes =
        written_passes p writable (omega arith) (from_rises p.counts (times n)) (from_chains p.counts (times n) (times_turn n)) fields nodes sources

    pub many_count : record_count (many_domains n) ≡ n
    unfolding many_domains
    many_count = count_written p writable ∙ times_length n

-- ---- two of them joined
pub many_length : (n m : ℕ) → n ≤ 4095 → m ≤ 4095 → length (joined_image (many_domains n) (many_domains m)) ≡ 24 + 12 * (n + m)
unfolding header_size size_of
many_length n m a b =
    let C = (many_passes n a).1.1.1.0 in
    let D = (many_passes m b).1.1.1.0 in
    let e = joined_size (policy_of (many_domains n)) (policy_of (many_domains m)) C D in
    let x = many_count n a in
    let y = many_count m b in
    image_length (joined (policy_of (many_domains n)) (policy_of (many_domains m))) ∙ omega arith
