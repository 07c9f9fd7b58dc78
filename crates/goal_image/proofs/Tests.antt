-- Questions 7 to 10 as tests that antt computes, with what each decides: for theorems on goals that are written out.
-- The test of question 9 goes as the code goes, over the same invariant.
use Prim.Native.Nat.{ℕ, zero, suc, ◌+◌, ◌*◌, ◌-◌, ◌/◌, ◌^◌, ◌≤◌, ◌<◌}
use mathlib.Core.Path.{◌≡◌, refl, sym, ap, subst}
use mathlib.Core.List.{List}
use mathlib.Core.Bool.{Bool, true, false, not, ◌&&◌, ◌||◌, cond}
use mathlib.Core.Logic.{inl, inr, ⊎_elim}
use Rattle.std.specs.Prelude.{Option, None, Some}
use native.Mathlib.Nat.{eq-or-lt_of_le}
use native.Mathlib.Omega.{arith}
use borrow.Author.Tests.{eqb-true, eqb-false, not-true}
use lib.Dec.{leb, eqb}
use lib.ListN.{length}
use Rattle.base.specs.Inner.Decides.{Decides}
use Rattle.base.specs.Chain.{Linked, OnChain}
use Rattle.base.specs.Upto.{all_upto}
use Rattle.base.specs.Questions.{AllYes, RefusedWith}
use Rattle.base.proofs.Numbers.{split_le, moved, moved_at, moved_off}
use Rattle.base.proofs.BoolLaws.{true_or_false, clash}
use Rattle.base.proofs.Decide.{Says, says_yes, says_no, says_iff, dec_le, dec_eq, ◌both◌, ◌or◌, within_b, dec_within, dec_all}
use Rattle.chains.specs.Inner.Links.{LinksRising}
use Rattle.policy_image.specs.declared.counts.Counts.{Counts}
use Rattle.goal_image.specs.declared.records.ContextRecord.{ContextRecord}
use Rattle.goal_image.specs.declared.records.EventRecord.{EventRecord}
use Rattle.goal_image.specs.Layout.{GoalExact, goal_count}
use Rattle.goal_image.specs.Goal.{Goal, goal_of, goal_links, σChain, γChain, is_context_chain}
use Rattle.goal_image.specs.Questions.{LegsInRange, OneChainEach, ContextFits, EventFits, FieldsFit, goal_questions}
use Rattle.goal_image.specs.Inner.Reading.{IsFirst, First, RecordFits}
use Rattle.goal_image.specs.Sets.{along}
use Rattle.goal_image.proofs.LegLaws.{flags_yes, flags_no}
use Rattle.goal_image.proofs.Pass.{Pass, pass_start, pass_none, pass_two, pass_step, pass_end, only_one, links_part}
use Rattle.goal_image.proofs.SortLaws.{context_below, event_below, some_sort, fits_context, fits_event}
use Rattle.goal_image.proofs.SetLaws.{chain_iff}

-- ---- tests in general
-- a second test that has a meaning where the first says yes
pub next_says : {P Q : Type 0} {a b : Bool} → Says a P → (P → Says b Q) → Says (a && b) (P × Q)
next_says {P} {Q} {a} {b} h k = record { it = go a h.it }
  where
    go : (t : Bool) → Decides t P → Decides (t && b) (P × Q)
    go false n = λ x. n x.0
    go true p =
        let r : Says b (P × Q) = says_iff (λ q. (p, q)) (λ x. x.1) (k p) in
        r.it

-- every number below n
abbrev pub all_below : (ℕ → Bool) → ℕ → Bool
all_below f zero = true
all_below f (suc n) = all_below f n && f n

pub dec_below : {P : ℕ → Type 0} {f : ℕ → Bool} (n : ℕ) → ((h : ℕ) → h < n → Says (f h) (P h)) → Says (all_below f n) ((h : ℕ) → h < n → P h)
dec_below {P} {f} zero d = record { it = λ h b. let z : ⊥ = omega arith in absurd z }
dec_below {P} {f} (suc n) d =
    says_iff
    (λ x h b. let l : h ≤ n = omega arith in ⊎_elim (λ e. subst P (sym e) x.1) (λ c. x.0 h c) (eq-or-lt_of_le l))
    (λ x. (λ h b. x h (omega arith), x n (omega arith)))
    (dec_below n (λ h b. d h (omega arith)) both d n (omega arith))

-- ---- question 7
abbrev pub exact_b : List ℕ → Bool
exact_b g = leb 34 (length g) && (leb (goal_count g) 255 && eqb (length g) (34 + 8 * goal_count g))

pub dec_exact : (g : List ℕ) → Says (exact_b g) (GoalExact g)
dec_exact g =
    says_iff (λ h. record { whole = omega arith; few = omega arith; exact = omega arith }) (λ h. (omega arith, (omega arith, omega arith)))
    (dec_le 34 (length g) both dec_le (goal_count g) 255 both dec_eq (length g) (34 + 8 * goal_count g))

-- ---- question 8
abbrev pub legs_b : Goal → Bool
legs_b g =
    within_b 1 6 g.legs
    && (eqb (g.flags / 2 ^ g.legs) 0
    && (all_upto (λ i. leb i g.legs || eqb (g.head (σChain i)) 0) 6 && all_upto (λ i. leb (suc i) g.legs || eqb (g.head (γChain i)) 0) 5))

pub dec_legs : (g : Goal) → Says (legs_b g) (LegsInRange g)
dec_legs g =
    says_iff
    (λ h.
    let w = h.0 in
    record {
      legs = h.0;
      flags = λ i a. flags_yes g.flags g.legs h.1.0 i (omega arith);
      contexts = λ i a b. ⊎_elim (λ l. let z : ⊥ = omega arith in absurd z) (λ e. e) (h.1.1.0 i (omega arith) (omega arith));
      events = λ i a b. ⊎_elim (λ l. let z : ⊥ = omega arith in absurd z) (λ e. e) (h.1.1.1 i (omega arith) (omega arith));
    })
    (λ r. (
      r.legs,
      (
        flags_no g.flags g.legs (λ i a. r.flags i (omega arith)),
        (
          λ i a b. ⊎_elim (λ l. inl l) (λ l. inr (r.contexts i (omega arith) (omega arith))) (split_le i g.legs),
          λ i a b. ⊎_elim (λ l. inr (r.events i (omega arith) (omega arith))) (λ l. inl l) (split_le g.legs i),
        ),
      ),
    ))
    (dec_within 1 6 g.legs
    both dec_eq (g.flags / 2 ^ g.legs) 0
    both dec_all (λ i. dec_le i g.legs or dec_eq (g.head (σChain i)) 0) 6
    both dec_all (λ i. dec_le (suc i) g.legs or dec_eq (g.head (γChain i)) 0) 5)

-- ---- question 9
abbrev pub rises_b : Linked → ℕ → Bool
rises_b l i = eqb (l.next i) 0 || (leb (suc i) (l.next i) && leb (l.next i) l.size)

abbrev pub links_b : Linked → Bool
links_b l = all_below (λ h. leb (l.head h) l.size) 15 && all_upto (λ i. rises_b l i) l.size

dec_links : (l : Linked) → Says (links_b l) (LinksRising l 0 15)
dec_links l =
    says_iff (λ x. record { heads = λ h a b. x.0 h b; nexts = x.1 }) (λ x. (λ h b. x.heads h (omega arith) b, x.nexts))
    (dec_below 15 (λ h b. dec_le (l.head h) l.size)
    both dec_all (λ i. dec_eq (l.next i) 0 or (dec_le (suc i) (l.next i) both dec_le (l.next i) l.size)) l.size)

-- the first of n chains from k on whose cursor stands at i
abbrev pub seek : (ℕ → ℕ) → ℕ → ℕ → ℕ → Option ℕ
seek cur i zero k = None
seek cur i (suc n) k = cond (eqb (cur k) i) (Some k) (seek cur i n (k + 1))

seek_first : (cur : ℕ → ℕ) (i n k : ℕ) → k + n ≡ 15 → First cur k i (seek cur i n k)
seek_first cur i zero k e = λ j a b. let z : ⊥ = omega arith in absurd z
seek_first cur i (suc n) k e = go (eqb (cur k) i) refl (seek cur i n (k + 1)) (seek_first cur i n (k + 1) (omega arith))
  where
    later : (P : ℕ → Type 0) → eqb (cur k) i ≡ false → ((j : ℕ) → k + 1 ≤ j → P j → cur j ≡ i → ⊥) → (j : ℕ) → k ≤ j → P j → cur j ≡ i → ⊥
    later P q f j a b = ⊎_elim (λ x. subst (λ (y : ℕ). cur y ≡ i → ⊥) x (eqb-false (cur k) i q)) (λ x. f j (omega arith) b) (eq-or-lt_of_le a)

    go : (t : Bool) → eqb (cur k) i ≡ t → (r : Option ℕ) → First cur (k + 1) i r → First cur k i (cond t (Some k) r)
    go true q r f =
        record { low = omega arith; high = omega arith; at = eqb-true (cur k) i q; none = λ j a b. let z : ⊥ = omega arith in absurd z }
    go false q None f = later (λ j. j < 15) q f
    go false q (Some h) f =
        record { low = let l = f.low in omega arith; high = f.high; at = f.at; none = later (λ j. j < h) q f.none }

-- one cursor stands at record i, that of chain h, and moves on
abbrev pub none_b : Option ℕ → Bool
none_b None = true
none_b (Some h) = false

abbrev pub some_b : Option ℕ → (ℕ → Bool) → Bool
some_b None f = false
some_b (Some h) f = f h

abbrev pub pass_b : Linked → ℕ → ℕ → (ℕ → ℕ) → Bool
pass_b l zero i cur = true
pass_b l (suc m) i cur = some_b (seek cur i 15 0) (λ h. none_b (seek cur i (14 - h) (h + 1)) && pass_b l m (i + 1) (moved cur h (l.next i)))

dec_pass : (g : Goal) → LinksRising (goal_links g) 0 15 → (m i : ℕ) (cur : ℕ → ℕ) → 1 ≤ i → i + m ≡ g.size + 1 → Pass g i cur → Says (pass_b (goal_links g) m i cur) (OneChainEach g)
dec_pass g L zero i cur low e w =
    let z : i ≡ g.size + 1 = omega arith in
    record { it = pass_end g L cur (subst (λ (j : ℕ). Pass g j cur) z w) }
dec_pass g L (suc m) i cur low e w =
    one (λ h. dec_pass g L m (i + 1) (moved cur h (g.next i)) (omega arith) (omega arith)) (seek cur i 15 0) (seek_first cur i 15 0 refl)
  where
    high : i ≤ g.size
    high = omega arith

    rest : ℕ → Bool
    rest h = pass_b (goal_links g) m (i + 1) (moved cur h (g.next i))

    Rest : Type 0
    Rest = (h : ℕ) → Pass g (i + 1) (moved cur h (g.next i)) → Says (rest h) (OneChainEach g)

    alone : Rest → (h : ℕ) → IsFirst cur 0 i h → (r : Option ℕ) → First cur (h + 1) i r → Says (none_b r && rest h) (OneChainEach g)
    alone go h f None s =
        go h (pass_step g L i cur w low high h f.high f.at (only_one cur i h f s) (moved cur h (g.next i)) (moved_at cur h (g.next i))
        (λ k n. moved_off cur h (g.next i) k n))
    alone go h f (Some k) s = record { it = pass_two g L i cur w low high h k f.high s.high (let a = s.low in λ q. omega arith) f.at s.at }

    one : Rest → (r : Option ℕ) → First cur 0 i r → Says (some_b r (λ h. none_b (seek cur i (14 - h) (h + 1)) && rest h)) (OneChainEach g)
    one go None f = record { it = pass_none g L i cur w low high (λ h b. f h (omega arith) b) }
    one go (Some h) f = alone go h f (seek cur i (14 - h) (h + 1)) (seek_first cur i (14 - h) (h + 1) (let b = f.high in omega arith))

abbrev pub ones_b : Goal → Bool
ones_b g = links_b (goal_links g) && pass_b (goal_links g) g.size 1 g.head

pub dec_ones : (g : Goal) → Says (ones_b g) (OneChainEach g)
dec_ones g =
    says_iff (λ x. x.1) (λ o. (links_part g o, o))
    (next_says (dec_links (goal_links g))
    (λ L. dec_pass g L g.size 1 g.head (omega arith) (omega arith) (pass_start g L g.head (λ h b. refl))))

-- ---- question 10
abbrev pub context_fits_b : Counts → ContextRecord → Bool
context_fits_b n r = leb r.ty n.types && (leb r.role n.roles && (leb r.user n.users && eqb r.spare 0))

abbrev pub event_fits_b : Counts → EventRecord → Bool
event_fits_b n r = leb r.class n.classes && eqb r.spare 0

dec_context : (n : Counts) (r : ContextRecord) → Says (context_fits_b n r) (ContextFits n r)
dec_context n r =
    says_iff (λ h. record { ty = omega arith; role = omega arith; user = omega arith; spare = omega arith })
    (λ h. (omega arith, (omega arith, (omega arith, omega arith))))
    (dec_le r.ty n.types both dec_le r.role n.roles both dec_le r.user n.users both dec_eq r.spare 0)

dec_event : (n : Counts) (r : EventRecord) → Says (event_fits_b n r) (EventFits n r)
dec_event n r =
    says_iff (λ h. record { class = omega arith; spare = omega arith }) (λ h. (omega arith, omega arith)) (dec_le r.class n.classes both dec_eq r.spare 0)

abbrev pub record_b : Counts → Goal → ℕ → ℕ → Bool
record_b n g h i = cond (is_context_chain h) (context_fits_b n (g.context i)) (event_fits_b n (g.event i))

dec_record : (n : Counts) (g : Goal) (h i : ℕ) → h < 15 → Says (record_b n g h i) (RecordFits n g h i)
dec_record n g h i b = record { it = go (is_context_chain h) refl }
  where
    go : (t : Bool) → is_context_chain h ≡ t → Decides (cond t (context_fits_b n (g.context i)) (event_fits_b n (g.event i))) (RecordFits n g h i)
    go true e = fits_context n g h i (context_fits_b n (g.context i)) e (dec_context n (g.context i)).it
    go false e = fits_event n g h i (event_fits_b n (g.event i)) (some_sort h b e) (dec_event n (g.event i)).it

-- no record of chain h is wrong
abbrev pub chain_b : Counts → Goal → ℕ → Bool
chain_b n g h = not (along (goal_links g) (λ i. not (record_b n g h i)) g.size (g.head h))

dec_chain : (n : Counts) (g : Goal) → OneChainEach g → (h : ℕ) → h < 15 → Says (chain_b n g h) ((i : ℕ) → OnChain (goal_links g) h i → RecordFits n g h i)
dec_chain n g O h b = record { it = go (along (goal_links g) wrong g.size (g.head h)) refl }
  where
    wrong : ℕ → Bool
    wrong i = not (record_b n g h i)

    go : (t : Bool) → along (goal_links g) wrong g.size (g.head h) ≡ t → Decides (not t) ((i : ℕ) → OnChain (goal_links g) h i → RecordFits n g h i)
    go true e = λ f. let r = (chain_iff g O h b wrong).0 e in says_no (dec_record n g h r.0 b) (not-true (record_b n g h r.0) r.2) (f r.0 r.1)
    go false e = λ i r.
        ⊎_elim (λ t. says_yes (dec_record n g h i b) t)
        (λ t. absurd (clash ((chain_iff g O h b wrong).1 (i, r, ap not t)) e))
        (true_or_false (record_b n g h i))

abbrev pub fields_b : Counts → Goal → Bool
fields_b n g = all_below (λ h. chain_b n g h) 15

pub dec_fields : (n : Counts) (g : Goal) → OneChainEach g → Says (fields_b n g) (FieldsFit n g)
dec_fields n g O =
    says_iff
    (λ f. record { contexts = λ h i e r. (f h (context_below h e) i r).context e; events = λ h i e r. (f h (event_below h e) i r).event e })
    (λ f h b i r. record { context = λ e. f.contexts h i e r; event = λ e. f.events h i e r })
    (dec_below 15 (λ h b. dec_chain n g O h b))

-- ---- the answer, by the tests: those before the number pass, and the number's own does not. Records, so that antt reads
-- the counts and the goal off the type.
pub record Refused (n : Counts) (g : List ℕ) (k : ℕ) : Type 0 where
  pub it : RefusedWith (goal_questions n g) k

pub record Accepted (n : Counts) (g : List ℕ) : Type 0 where
  pub it : AllYes (goal_questions n g)

module _ {n : Counts} {g : List ℕ} where
  pub refused_7 : exact_b g ≡ false → Refused n g 7
  refused_7 e = record { it = inl (says_no (dec_exact g) e, refl) }

  module _ (e7 : exact_b g ≡ true) where
    pub refused_8 : legs_b (goal_of g) ≡ false → Refused n g 8
    refused_8 e = record { it = inr (says_yes (dec_exact g) e7, inl (says_no (dec_legs (goal_of g)) e, refl)) }

    module _ (e8 : legs_b (goal_of g) ≡ true) where
      pub refused_9 : ones_b (goal_of g) ≡ false → Refused n g 9
      refused_9 e =
          record { it = inr (says_yes (dec_exact g) e7, inr (says_yes (dec_legs (goal_of g)) e8, inl (says_no (dec_ones (goal_of g)) e, refl))) }

      module _ (e9 : ones_b (goal_of g) ≡ true) where
        pub refused_10 : fields_b n (goal_of g) ≡ false → Refused n g 10
        refused_10 e =
            let O = says_yes (dec_ones (goal_of g)) e9 in
            record {
              it = inr (says_yes (dec_exact g) e7, inr (says_yes (dec_legs (goal_of g)) e8, inr (O, inl (says_no (dec_fields n (goal_of g) O) e, refl))));
            }

        pub accepted : fields_b n (goal_of g) ≡ true → Accepted n g
        accepted e =
            let O = says_yes (dec_ones (goal_of g)) e9 in
            record {
              it = (says_yes (dec_exact g) e7, (says_yes (dec_legs (goal_of g)) e8, (O, (says_yes (dec_fields n (goal_of g) O) e, tt))));
            }
