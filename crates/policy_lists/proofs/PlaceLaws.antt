-- Where the records of each kind stand in a list of kinds in turn, and so what heads and nexts are; and where those of the maker and of the
-- board stand in the joined list.
use Prim.Native.Nat.{ℕ, zero, suc, ◌+◌, ◌-◌, ◌≤◌, ◌<◌}
use mathlib.Core.Path.{◌≡◌, sym, ap, subst, ◌∙◌}
use mathlib.Core.Bool.{Bool, cond}
use mathlib.Core.List.{List, map}
use mathlib.Core.Logic.{⊎_elim}
use native.Mathlib.Nat.{eq-or-lt_of_le}
use native.Mathlib.Omega.{arith}
use borrow.Author.Tests.{le-leb, lt-leb}
use lib.ListN.{length, get_or, length-append, length-map, get_or-append, get_or-map}
use lib.Seq.{get_or-append-add}
use Rattle.base.proofs.Numbers.{split_le}
use Rattle.policy_image.specs.declared.records.Record.{Record}
use Rattle.policy_image.specs.Policy.{Policy}
use Rattle.policy_lists.specs.Lists.{records_upto, of_kind_in, kind_list, no_record, record_in, link_in, first_in}
use Rattle.policy_lists.specs.Joined.{makers_node, boards_node, renumbered, joined_kind, kinds_upto, joined_list}
use Rattle.policy_lists.specs.Inner.Places.{next_upto}
use Rattle.policy_lists.proofs.TurnLaws.{head_first, next_there, next_cases}
use Rattle.policy_lists.proofs.JoinTurnLaws.{Each, each_at, joined_own}
use Rattle.policy_lists.proofs.NodeLaws.{place_length, place_at, upto_more_length}
use Rattle.policy_lists.proofs.StemLaws.{find_kind}

pub next_within : {last i : ℕ} → suc i ≤ last → next_upto last i ≡ suc i
next_within {last} {i} h = ap (λ (t : Bool). cond t (suc i) 0) (le-leb (suc i) last h)

pub next_past : {last i : ℕ} → last < suc i → next_upto last i ≡ 0
next_past {last} {i} h = ap (λ (t : Bool). cond t (suc i) 0) (lt-leb (suc i) last h)

module _ (lists : ℕ → List Record) where
  -- how many records of kinds up to k there are
  abbrev pub ending : ℕ → ℕ
  ending k = length (kinds_upto lists k)

  pub ending_next : (k : ℕ) → ending (suc k) ≡ ending k + length (lists (suc k))
  ending_next k = length-append (kinds_upto lists k) (lists (suc k))

  pub endings_rise : (a b : ℕ) → a ≤ b → ending a ≤ ending b
  endings_rise a zero h = subst (λ (x : ℕ). ending x ≤ 0) (let e : 0 ≡ a = omega arith in e) (omega arith)
  endings_rise a (suc b) h =
      ⊎_elim
      (λ e. subst (λ (x : ℕ). ending x ≤ ending (suc b)) (sym e) (omega arith))
      (λ l. let g = endings_rise a b (omega (arith, l)) in let n = ending_next b in omega (arith, g, n))
      (eq-or-lt_of_le h)

  -- the records of kind k + 1 stand behind those of kinds up to k
  pub kinds_at : (n k j : ℕ) → suc k ≤ n → j < length (lists (suc k)) → get_or (kinds_upto lists n) (ending k + j) no_record ≡ get_or (lists (suc k)) j no_record
  kinds_at zero k j h b = let z : ⊥ = omega arith in absurd z
  kinds_at (suc n) k j h b =
      ⊎_elim
      (λ (e : k ≡ n). subst (λ (m : ℕ). get_or (kinds_upto lists (suc m)) (ending k + j) no_record ≡ get_or (lists (suc k)) j no_record) e
      (get_or-append-add (kinds_upto lists k) (lists (suc k)) j no_record))
      (λ (l : k < n).
      let r = endings_rise (suc k) n l in
      let m = ending_next k in
      get_or-append (kinds_upto lists n) (lists (suc n)) no_record (ending k + j) (omega (arith, r, m, b)) ∙ kinds_at n k j l b)
      (eq-or-lt_of_le (let q : k ≤ n = omega arith in q))

  module _ (own : (k : ℕ) → Each (λ r. r.kind ≡ k) (lists k)) where
    abbrev all : List Record
    all = kinds_upto lists 9

    -- ---- the kind of record i
    pub kind_at : (k i : ℕ) → suc k ≤ 9 → ending k < i → i ≤ ending (suc k) → (record_in all i).kind ≡ suc k
    kind_at k zero h a b = let z : ⊥ = omega arith in absurd z
    kind_at k (suc i) h a b =
        let j : ℕ = i - ending k in
        let n = ending_next k in
        let room : j < length (lists (suc k)) = omega arith in
        ap (λ (x : ℕ). (get_or all x no_record).kind) (let e : i ≡ ending k + j = omega arith in e)
        ∙ ap (λ (r : Record). r.kind) (kinds_at 9 k j h room)
        ∙ each_at (λ r. r.kind ≡ suc k) (lists (suc k)) (own (suc k)) j room

    -- .. and where a record of kind k + 1 stands
    pub record StandsIn (k i : ℕ) : Type 0 where
      pub low : ending k < i
      pub high : i ≤ ending (suc k)

    pub kind_stands : (k i : ℕ) → 1 ≤ i → i ≤ length all → (record_in all i).kind ≡ suc k → StandsIn k i
    kind_stands k zero a b e = let z : ⊥ = omega arith in absurd z
    kind_stands k (suc i) a b e =
        let f = find_kind lists 9 i (omega arith) in
        let n = ending_next f.below in
        let own_kind = ap (λ (r : Record). r.kind) f.same ∙ each_at (λ r. r.kind ≡ suc f.below) (lists (suc f.below)) (own (suc f.below)) f.at f.room in
        let q : f.below ≡ k = omega (arith, own_kind, e) in
        subst (λ (m : ℕ). StandsIn m (suc i)) q (record { low = omega (arith, f.place); high = omega (arith, f.place, f.room, n) })

    -- ---- heads and nexts
    pub head_at : (k : ℕ) → suc k ≤ 9 → first_in all (suc k) ≡ next_upto (ending (suc k)) (ending k)
    head_at k h =
        ⊎_elim
        (λ (some : suc (ending k) ≤ ending (suc k)).
        let r = endings_rise (suc k) 9 h in
        let here = kind_at k (suc (ending k)) h (omega arith) some in
        ⊎_elim (λ n. absurd (n.1 (suc (ending k)) (omega arith) (omega arith) here))
        (λ f.
        let s = kind_stands k (first_in all (suc k)) f.low f.high f.kind in
        let l = f.least (suc (ending k)) (omega arith) (omega arith) here in
        omega (arith, s.low, l))
        (head_first all (suc k)) ∙ sym (next_within some))
        (λ (none : ending (suc k) < suc (ending k)).
        ⊎_elim (λ n. n.0) (λ f. let s = kind_stands k (first_in all (suc k)) f.low f.high f.kind in absurd (omega (arith, s.low, s.high, none)))
        (head_first all (suc k)) ∙ sym (next_past none))
        (split_le (suc (ending k)) (ending (suc k)))

    pub link_at : (k i : ℕ) → suc k ≤ 9 → StandsIn k i → link_in all i ≡ next_upto (ending (suc k)) i
    link_at k i h s =
        let r = endings_rise (suc k) 9 h in
        let here = kind_at k i h s.low s.high in
        ⊎_elim
        (λ (more : suc i ≤ ending (suc k)).
        next_there all i (omega arith) (kind_at k (suc i) h (omega (arith, s.low)) more ∙ sym here) ∙ sym (next_within more))
        (λ (last : ending (suc k) < suc i).
        ⊎_elim (λ z. z) (λ n. let t = kind_stands k (suc i) (omega arith) n.high (n.kind ∙ here) in absurd (omega (arith, t.high, last))) (next_cases all i)
        ∙ sym (next_past last))
        (split_le (suc i) (ending (suc k)))

-- ---- the joined list
module _ (p q : Policy) (k n : ℕ) (h : suc k ≤ 9) where
  abbrev front : ℕ
  front = ending (joined_kind p q) k

  -- record n + 1 of the maker's policy, where it is of kind k + 1
  module _ (kind : (p.rec (suc n)).kind ≡ suc k) (there : suc n ≤ p.size) where
    before : length (of_kind_in (suc k) (records_upto p.rec n)) < length (kind_list p (suc k))
    before =
        let a = place_length p.rec (suc k) n kind in
        let b = upto_more_length p.rec (suc k) (suc n) p.size there in
        omega arith

    pub maker_stands : StandsIn (joined_kind p q) (joined_own p q) k (suc (front + length (of_kind_in (suc k) (records_upto p.rec n))))
    maker_stands =
        let b = before in
        let x = length-map (kind_list p (suc k)) (renumbered (makers_node p q)) in
        let y = length-append (map (renumbered (makers_node p q)) (kind_list p (suc k))) (map (renumbered (boards_node p q)) (kind_list q (suc k))) in
        let z = length-append (kinds_upto (joined_kind p q) k) (joined_kind p q (suc k)) in
        record { low = omega arith; high = omega arith }

    pub maker_at : record_in (joined_list p q) (suc (front + length (of_kind_in (suc k) (records_upto p.rec n)))) ≡ renumbered (makers_node p q) (p.rec (suc n))
    maker_at =
        let j : ℕ = length (of_kind_in (suc k) (records_upto p.rec n)) in
        let b = before in
        let x = length-map (kind_list p (suc k)) (renumbered (makers_node p q)) in
        let y = length-append (map (renumbered (makers_node p q)) (kind_list p (suc k))) (map (renumbered (boards_node p q)) (kind_list q (suc k))) in
        kinds_at (joined_kind p q) 9 k j h (omega arith)
        ∙ get_or-append (map (renumbered (makers_node p q)) (kind_list p (suc k))) (map (renumbered (boards_node p q)) (kind_list q (suc k))) no_record j (omega arith)
        ∙ get_or-map (renumbered (makers_node p q)) (kind_list p (suc k)) j no_record
        ∙ ap (renumbered (makers_node p q)) (place_at p.rec (suc k) n p.size there kind)

  -- .. and of the board's
  module _ (kind : (q.rec (suc n)).kind ≡ suc k) (there : suc n ≤ q.size) where
    behind : length (of_kind_in (suc k) (records_upto q.rec n)) < length (kind_list q (suc k))
    behind =
        let a = place_length q.rec (suc k) n kind in
        let b = upto_more_length q.rec (suc k) (suc n) q.size there in
        omega arith

    abbrev place : ℕ
    place = front + length (kind_list p (suc k)) + length (of_kind_in (suc k) (records_upto q.rec n))

    pub board_stands : StandsIn (joined_kind p q) (joined_own p q) k (suc place)
    board_stands =
        let b = behind in
        let x = length-map (kind_list p (suc k)) (renumbered (makers_node p q)) in
        let u = length-map (kind_list q (suc k)) (renumbered (boards_node p q)) in
        let y = length-append (map (renumbered (makers_node p q)) (kind_list p (suc k))) (map (renumbered (boards_node p q)) (kind_list q (suc k))) in
        let z = length-append (kinds_upto (joined_kind p q) k) (joined_kind p q (suc k)) in
        record { low = omega arith; high = omega arith }

    pub board_at : record_in (joined_list p q) (suc place) ≡ renumbered (boards_node p q) (q.rec (suc n))
    board_at =
        let j : ℕ = length (of_kind_in (suc k) (records_upto q.rec n)) in
        let b = behind in
        let x = length-map (kind_list p (suc k)) (renumbered (makers_node p q)) in
        let u = length-map (kind_list q (suc k)) (renumbered (boards_node p q)) in
        let y = length-append (map (renumbered (makers_node p q)) (kind_list p (suc k))) (map (renumbered (boards_node p q)) (kind_list q (suc k))) in
        ap (λ (i : ℕ). get_or (joined_list p q) i no_record)
        (let e : place ≡ front + (length (map (renumbered (makers_node p q)) (kind_list p (suc k))) + j) = omega arith in e)
        ∙ kinds_at (joined_kind p q) 9 k (length (map (renumbered (makers_node p q)) (kind_list p (suc k))) + j) h (omega arith)
        ∙ get_or-append-add (map (renumbered (makers_node p q)) (kind_list p (suc k))) (map (renumbered (boards_node p q)) (kind_list q (suc k))) j no_record
        ∙ get_or-map (renumbered (boards_node p q)) (kind_list q (suc k)) j no_record
        ∙ ap (renumbered (boards_node p q)) (place_at q.rec (suc k) n q.size there kind)
