-- The questions as tests that antt computes, with what each decides: for theorems on images that are written out.
-- The tests of questions 4 and 6 go as the code goes, over the same invariants.
use Prim.Native.Nat.{ℕ, zero, suc, ◌+◌, ◌*◌, ◌/◌, ◌%◌, ◌≤◌, ◌<◌}
use mathlib.Core.Path.{◌≡◌, refl, sym, subst, ◌∙◌}
use mathlib.Core.List.{List}
use mathlib.Core.Bool.{Bool, true, false, not, ◌&&◌, ◌||◌, cond}
use mathlib.Core.Logic.{inl, inr, ⊎_elim}
use native.Mathlib.Omega.{arith}
use borrow.Author.Tests.{eqb-true, eqb-false}
use lib.Dec.{leb, eqb}
use lib.ListN.{length, drop}
use Rattle.base.specs.Inner.Decides.{Decides}
use Rattle.base.specs.Ranges.{Within}
use Rattle.base.specs.Upto.{any_upto, all_upto}
use Rattle.base.specs.Questions.{AllYes, RefusedWith}
use Rattle.base.proofs.Numbers.{split_eq, moved, moved_at, moved_off}
use Rattle.base.proofs.BoolLaws.{clash}
use Rattle.base.proofs.Decide.{Says, says_yes, says_no, says_iff, dec_le, dec_eq, ◌both◌, ◌or◌, within_b, dec_within, dec_all}
use Rattle.policy_image.specs.declared.records.Record.{Record}
use Rattle.policy_image.specs.declared.counts.Counts.{Counts}
use Rattle.policy_image.specs.Layout.{PolicyExact, record_count, counts_of}
use Rattle.policy_image.specs.Counts.{CountsInRange}
use Rattle.policy_image.specs.Policy.{Policy, policy_of}
use Rattle.policy_image.specs.OfKind.{some, every}
use Rattle.policy_links.specs.Chains.{LinksRise, ChainsByKind}
use Rattle.policy_links.proofs.Walk.{Walk, walk_start, walk_step, walk_wrong, walk_end, walk_zero}
use Rattle.policy_fields.specs.declared.Limits.{Limits}
use Rattle.policy_fields.specs.Fields.{limits_of, WithinLimits, FieldsInRange}
use Rattle.std.specs.Prelude.{Option, None, Some}
use Rattle.policy_expressions.specs.Nodes.{UsedWell, NodesInOrder}
use Rattle.policy_expressions.proofs.Marks.{used_at, uses_at, Marks, marks_start_lem, marks_nothing, marks_node, marks_twice, marks_end}
use Rattle.policy_sources.specs.Sources.{domain, AllowsFromDomains}
use Rattle.policy_check.specs.Questions.{policy_questions}

-- ---- question 1
abbrev pub exact_b : List ℕ → Bool
exact_b s = leb 24 (length s) && (leb (record_count s) 4095 && eqb (length s) (24 + 12 * record_count s))

pub dec_exact : (s : List ℕ) → Says (exact_b s) (PolicyExact s)
dec_exact s =
    says_iff (λ h. record { whole = h.0; few = h.1.0; exact = h.1.1 }) (λ h. (h.whole, (h.few, h.exact)))
    (dec_le 24 (length s) both dec_le (record_count s) 4095 both dec_eq (length s) (24 + 12 * record_count s))

-- ---- question 2
abbrev pub range_b : Counts → Bool
range_b c = within_b 1 255 c.types && (within_b 1 15 c.roles && (within_b 1 15 c.users && within_b 1 31 c.classes))

pub dec_range : (c : Counts) → Says (range_b c) (CountsInRange c)
dec_range c =
    says_iff (λ h. record { types = h.0; roles = h.1.0; users = h.1.1.0; classes = h.1.1.1 }) (λ h. (h.types, (h.roles, (h.users, h.classes))))
    (dec_within 1 255 c.types both dec_within 1 15 c.roles both dec_within 1 15 c.users both dec_within 1 31 c.classes)

-- ---- question 3
abbrev pub rises_b : Policy → ℕ → Bool
rises_b p i = eqb (p.rec i).next 0 || (leb (suc i) (p.rec i).next && leb (p.rec i).next p.size)

abbrev pub links_b : Policy → Bool
links_b p = all_upto (λ k. leb (p.head k) p.size) 9 && all_upto (λ i. rises_b p i) p.size

pub dec_links : (p : Policy) → Says (links_b p) (LinksRise p)
dec_links p =
    says_iff (λ h. record { heads = h.0; nexts = h.1 }) (λ h. (h.heads, h.nexts))
    (dec_all (λ k. dec_le (p.head k) p.size) 9
    both dec_all (λ i. dec_eq (p.rec i).next 0 or (dec_le (suc i) (p.rec i).next both dec_le (p.rec i).next p.size)) p.size)

-- ---- question 4
abbrev pub here_b : Policy → ℕ → (ℕ → ℕ) → Bool
here_b p i cur = within_b 1 9 (p.rec i).kind && eqb (cur (p.rec i).kind) i

abbrev pub pass_b : Policy → ℕ → ℕ → (ℕ → ℕ) → Bool
pass_b p zero i cur = all_upto (λ k. eqb (cur k) 0) 9
pass_b p (suc m) i cur = here_b p i cur && pass_b p m (i + 1) (moved cur (p.rec i).kind (p.rec i).next)

dec_step : (p : Policy) (i : ℕ) (cur : ℕ → ℕ) (rest : Bool) → (((Within 1 9 (p.rec i).kind × (cur (p.rec i).kind ≡ i)) → ⊥) → ChainsByKind p → ⊥)
    → ((Within 1 9 (p.rec i).kind × (cur (p.rec i).kind ≡ i)) → Says rest (ChainsByKind p)) → Says (here_b p i cur && rest) (ChainsByKind p)
dec_step p i cur rest wrong right = record { it = go (here_b p i cur) refl }
  where
    test : Says (here_b p i cur) (Within 1 9 (p.rec i).kind × (cur (p.rec i).kind ≡ i))
    test = dec_within 1 9 (p.rec i).kind both dec_eq (cur (p.rec i).kind) i

    go : (t : Bool) → here_b p i cur ≡ t → Decides (t && rest) (ChainsByKind p)
    go false q = wrong (says_no test q)
    go true q = (right (says_yes test q)).it

pub dec_pass : (p : Policy) → LinksRise p → (m i : ℕ) (cur : ℕ → ℕ) → 1 ≤ i → i + m ≡ p.size + 1 → Walk p i cur → Says (pass_b p m i cur) (ChainsByKind p)
dec_pass p L zero i cur low e w =
    let z : i ≡ p.size + 1 = omega arith in
    let w' : Walk p (p.size + 1) cur = subst (λ (j : ℕ). Walk p j cur) z w in
    says_iff (walk_end p L cur w') (walk_zero p L cur w') (dec_all (λ k. dec_eq (cur k) 0) 9)
dec_pass p L (suc m) i cur low e w =
    let h : i ≤ p.size = omega arith in
    let κ : ℕ = (p.rec i).kind in
    dec_step p i cur (pass_b p m (i + 1) (moved cur κ (p.rec i).next))
    (λ bad C. ⊎_elim
    (λ q. bad ((C.all i low h).kind, q))
    (λ n. walk_wrong p L i cur w low h (C.all i low h).kind.low (C.all i low h).kind.high n C)
    (split_eq (cur κ) i))
    (λ g. dec_pass p L m (i + 1) (moved cur κ (p.rec i).next) (omega arith) (omega arith)
    (walk_step p L i cur w low h (moved cur κ (p.rec i).next) g.0.low g.0.high g.1 (moved_at cur κ (p.rec i).next) (λ k n. moved_off cur κ (p.rec i).next k n)))

abbrev pub chains_b : Policy → Bool
chains_b p = pass_b p p.size 1 p.head

pub dec_chains : (p : Policy) → LinksRise p → Says (chains_b p) (ChainsByKind p)
dec_chains p L = dec_pass p L p.size 1 p.head (omega arith) (omega arith) (walk_start p L p.head (λ k a b. refl))

-- ---- question 5
abbrev pub meets_b : Limits → Record → Bool
meets_b l r =
    within_b l.a.low l.a.high r.a
    && (within_b l.b.low l.b.high r.b
    && (within_b l.c.low l.c.high r.c
    && (within_b l.d.low l.d.high r.d
    && (within_b l.e.low l.e.high r.e
    && within_b l.mask.low l.mask.high r.mask))))

dec_meets : (l : Limits) (r : Record) → Says (meets_b l r) (WithinLimits l r)
dec_meets l r =
    says_iff (λ h. record { a = h.0; b = h.1.0; c = h.1.1.0; d = h.1.1.1.0; e = h.1.1.1.1.0; mask = h.1.1.1.1.1 })
    (λ h. (h.a, (h.b, (h.c, (h.d, (h.e, h.mask))))))
    (dec_within l.a.low l.a.high r.a both dec_within l.b.low l.b.high r.b
    both dec_within l.c.low l.c.high r.c both dec_within l.d.low l.d.high r.d
    both dec_within l.e.low l.e.high r.e both dec_within l.mask.low l.mask.high r.mask)

abbrev pub fields_b : Policy → Bool
fields_b p = all_upto (λ i. meets_b (limits_of p.counts (p.rec i).kind (p.rec i).a) (p.rec i)) p.size

pub dec_fields : (p : Policy) → Says (fields_b p) (FieldsInRange p)
dec_fields p =
    says_iff (λ h. record { each = h }) (λ h. h.each)
    (dec_all (λ i. dec_meets (limits_of p.counts (p.rec i).kind (p.rec i).a) (p.rec i)) p.size)

-- ---- question 6

abbrev pub well_b : Policy → ℕ → ℕ → ℕ → Bool
well_b p i κ m = (leb 1 m && (leb m p.size && eqb (p.rec m).kind 9)) && (cond (eqb κ 9) (leb (suc m) i) true)

if_nine : (κ i m : ℕ) → Says (cond (eqb κ 9) (leb (suc m) i) true) (κ ≡ 9 → m < i)
if_nine κ i m = record { it = go (eqb κ 9) refl }
  where
    go : (t : Bool) → eqb κ 9 ≡ t → Decides (cond t (leb (suc m) i) true) (κ ≡ 9 → m < i)
    go true e =
        let r : Says (leb (suc m) i) (κ ≡ 9 → m < i) = says_iff (λ h x. h) (λ h. h (eqb-true κ 9 e)) (dec_le (suc m) i) in
        r.it
    go false e = λ x. absurd (eqb-false κ 9 e x)

dec_well : (p : Policy) (i κ m : ℕ) → Says (well_b p i κ m) (UsedWell p i κ m)
dec_well p i κ m =
    says_iff (λ h. record { node = record { low = h.0.0; high = h.0.1.0; nine = h.0.1.1 }; lower = h.1 })
    (λ h. ((h.node.low, (h.node.high, h.node.nine)), h.lower))
    ((dec_le 1 m both dec_le m p.size both dec_eq (p.rec m).kind 9) both if_nine κ i m)

-- the slot at q against the marks: no node; or a good one that is free, which is then marked
abbrev pub used_b : Policy → ℕ → (ℕ → ℕ) → Option ℕ → Bool
used_b p q used None = true
used_b p q used (Some n) = well_b p (q / 2) (p.rec (q / 2)).kind n && eqb (used n) 0

abbrev pub marked : (ℕ → ℕ) → Option ℕ → ℕ → ℕ
marked used None = used
marked used (Some n) = moved used n 1

abbrev pub marks_b : Policy → ℕ → ℕ → (ℕ → ℕ) → Bool
marks_b p zero q used = true
marks_b p (suc m) q used = used_b p q used (used_at p q) && marks_b p m (q + 1) (marked used (used_at p q))

mark_step : (p : Policy) (q : ℕ) (used : ℕ → ℕ) → 2 ≤ q → q < 2 * p.size + 2 → Marks p q used → (rest : Bool) (t : Option ℕ) → used_at p q ≡ t
    → (Marks p (q + 1) (marked used t) → Says rest (NodesInOrder p)) → Says (used_b p q used t && rest) (NodesInOrder p)
mark_step p q used two high w rest None e k = record { it = (k (marks_nothing p q used w two e)).it }
mark_step p q used two high w rest (Some n) e k = record { it = go (used_b p q used (Some n)) refl }
  where
    test : Says (used_b p q used (Some n)) (UsedWell p (q / 2) (p.rec (q / 2)).kind n × (used n ≡ 0))
    test = dec_well p (q / 2) (p.rec (q / 2)).kind n both dec_eq (used n) 0

    go : (t : Bool) → used_b p q used (Some n) ≡ t → Decides (t && rest) (NodesInOrder p)
    go true d =
        let h = says_yes test d in
        (k (marks_node p q used w two (marked used (Some n)) n e h.0 h.1
        (λ z. let o : moved used n 1 n ≡ 1 = moved_at used n 1 in let y : ◌≡◌ {A = ℕ} 1 0 = sym o ∙ z in omega (arith, y))
        (λ m x. moved_off used n 1 m x))).it
    go false d = λ N. ⊎_elim
        (λ z. says_no test d (bad N, z))
        (λ z. marks_twice p q used w two high n e z N)
        (split_eq (used n) 0)
      where
        bad : NodesInOrder p → UsedWell p (q / 2) (p.rec (q / 2)).kind n
        bad N = N.well (q / 2) (q % 2) n (uses_at p q n two high e)

dec_marks : (p : Policy) (m q : ℕ) (used : ℕ → ℕ) → 2 ≤ q → q + m ≡ 2 * p.size + 2 → Marks p q used → Says (marks_b p m q used) (NodesInOrder p)
dec_marks p zero q used two e w =
    let z : q ≡ 2 * p.size + 2 = omega arith in
    record { it = marks_end p used (subst (λ (j : ℕ). Marks p j used) z w) }
dec_marks p (suc m) q used two e w =
    mark_step p q used two (omega arith) w (marks_b p m (q + 1) (marked used (used_at p q))) (used_at p q) refl
    (λ w'. dec_marks p m (q + 1) (marked used (used_at p q)) (omega arith) (omega arith) w')

abbrev pub nodes_b : Policy → Bool
nodes_b p = marks_b p (2 * p.size) 2 (λ m. 0)

pub dec_nodes : (p : Policy) → Says (nodes_b p) (NodesInOrder p)
dec_nodes p = dec_marks p (2 * p.size) 2 (λ m. 0) (omega arith) (omega arith) (marks_start_lem p (λ m. 0) (λ m. refl))

-- ---- question 14
abbrev pub domain_b : Policy → ℕ → Bool
domain_b p t = any_upto (λ i. eqb (p.rec i).kind 1 && eqb (p.rec i).a t) p.size

abbrev pub sources_b : Policy → Bool
sources_b p = all_upto (λ i. not (eqb (p.rec i).kind 4) || domain_b p (p.rec i).a) p.size

-- a truth value says whether it is true
dec_true : (b : Bool) → Says b (b ≡ true)
dec_true true = record { it = refl }
dec_true false = record { it = λ e. clash e refl }

pub dec_sources : (p : Policy) → Says (sources_b p) (AllowsFromDomains p)
unfolding domain some every
dec_sources p = dec_true (sources_b p)

-- ---- the answer, by the tests: those before the number pass, and the number's own does not. Records, so that antt reads
-- the image off the type.
pub record Refused (s : List ℕ) (n : ℕ) : Type 0 where
  pub it : RefusedWith (policy_questions s) n

pub record Accepted (s : List ℕ) : Type 0 where
  pub it : AllYes (policy_questions s)

module _ {s : List ℕ} where
  pub refused_1 : exact_b s ≡ false → Refused s 1
  refused_1 e = record { it = inl (says_no (dec_exact s) e, refl) }

  module _ (e1 : exact_b s ≡ true) where
    pub refused_2 : range_b (counts_of s) ≡ false → Refused s 2
    refused_2 e = record { it = inr (says_yes (dec_exact s) e1, inl (says_no (dec_range (counts_of s)) e, refl)) }

    module _ (e2 : range_b (counts_of s) ≡ true) where
      -- what is refused after question 2
      after_2 : {n : ℕ} → RefusedWith (drop 2 (policy_questions s)) n → Refused s n
      after_2 r = record { it = inr (says_yes (dec_exact s) e1, inr (says_yes (dec_range (counts_of s)) e2, r)) }

      pub refused_3 : links_b (policy_of s) ≡ false → Refused s 3
      refused_3 e = after_2 {n = 3} (inl (says_no (dec_links (policy_of s)) e, refl))

      module _ (e3 : links_b (policy_of s) ≡ true) where
        pub refused_4 : chains_b (policy_of s) ≡ false → Refused s 4
        refused_4 e =
            let L = says_yes (dec_links (policy_of s)) e3 in
            after_2 {n = 4} (inr (L, inl (says_no (dec_chains (policy_of s) L) e, refl)))

        module _ (e4 : chains_b (policy_of s) ≡ true) where
          -- what is refused after question 4
          after_4 : {n : ℕ} → RefusedWith (drop 4 (policy_questions s)) n → Refused s n
          after_4 {n} r =
              let L = says_yes (dec_links (policy_of s)) e3 in
              after_2 {n = n} (inr (L, inr (says_yes (dec_chains (policy_of s) L) e4, r)))

          pub refused_5 : fields_b (policy_of s) ≡ false → Refused s 5
          refused_5 e = after_4 {n = 5} (inl (says_no (dec_fields (policy_of s)) e, refl))

          module _ (e5 : fields_b (policy_of s) ≡ true) where
            pub refused_6 : nodes_b (policy_of s) ≡ false → Refused s 6
            refused_6 e = after_4 {n = 6} (inr (says_yes (dec_fields (policy_of s)) e5, inl (says_no (dec_nodes (policy_of s)) e, refl)))

            module _ (e6 : nodes_b (policy_of s) ≡ true) where
              pub refused_14 : sources_b (policy_of s) ≡ false → Refused s 14
              refused_14 e =
                  after_4 {n = 14}
                  (inr (says_yes (dec_fields (policy_of s)) e5, inr (says_yes (dec_nodes (policy_of s)) e6, inl (says_no (dec_sources (policy_of s)) e, refl))))

              pub accepted : sources_b (policy_of s) ≡ true → Accepted s
              accepted e14 =
                  let L = says_yes (dec_links (policy_of s)) e3 in
                  record {
                    it = (
                      says_yes (dec_exact s) e1,
                      (
                        says_yes (dec_range (counts_of s)) e2,
                        (
                          L,
                          (
                            says_yes (dec_chains (policy_of s) L) e4,
                            (says_yes (dec_fields (policy_of s)) e5, (says_yes (dec_nodes (policy_of s)) e6, (says_yes (dec_sources (policy_of s)) e14, tt))),
                          ),
                        ),
                      ),
                    );
                  }
