-- Each record of the joined list stems from one record of the maker's policy or of the board's, renumbered, and stands where that one's
-- place says.
use Prim.Native.Nat.{ℕ, zero, suc, ◌+◌, ◌-◌, ◌≤◌, ◌<◌}
use mathlib.Core.Path.{◌≡◌, sym, ap, subst, ◌∙◌}
use mathlib.Core.List.{List, ◌++◌, map}
use mathlib.Core.Logic.{◌⊎◌, inl, inr, ⊎_elim}
use native.Mathlib.Omega.{arith}
use lib.ListN.{length, get_or, length-append, length-map, get_or-append, get_or-map}
use lib.Seq.{get_or-append-add}
use Rattle.base.proofs.Numbers.{split_eq, split_le}
use Rattle.policy_image.specs.declared.records.Record.{Record}
use Rattle.policy_image.specs.Policy.{Policy}
use Rattle.policy_lists.specs.Lists.{records_upto, of_kind_in, kind_list, no_record, record_in}
use Rattle.policy_lists.specs.Joined.{makers_node, boards_node, renumbered, joined_kind, kinds_upto, joined_list}
use Rattle.policy_lists.proofs.NodeLaws.{other_length, place_length, place_at}

-- ---- place j of two lists, one behind the other
-- the place is in the first, or in the second
two_lists : (l m : List Record) (j : ℕ) → j < length (l ++ m)
    → ((j < length l) × (get_or (l ++ m) j no_record ≡ get_or l j no_record))
    ⊎ ((i : ℕ) × (j ≡ length l + i) × (i < length m) × (get_or (l ++ m) j no_record ≡ get_or m i no_record))
two_lists l m j h =
    ⊎_elim
    (λ a.
    let n = length-append l m in
    let i : ℕ = j - length l in
    let e : j ≡ length l + i = omega arith in
    inr (i, e, omega arith, ap (λ (x : ℕ). get_or (l ++ m) x no_record) e ∙ get_or-append-add l m i no_record))
    (λ b. inl (b, get_or-append l m no_record j b))
    (split_le (length l) j)

-- ---- place j of the records of a kind: which record stands there
module _ (rec : ℕ → Record) (k : ℕ) where
  abbrev up_to : ℕ → List Record
  up_to n = of_kind_in k (records_upto rec n)

  -- record n + 1 is the one
  pub record StandsAt (m j n : ℕ) : Type 0 where
    pub high : suc n ≤ m
    pub kind : (rec (suc n)).kind ≡ k
    pub place : j ≡ length (up_to n)

  pub find_place : (m j : ℕ) → j < length (up_to m) → (n : ℕ) × StandsAt m j n
  find_place zero j h = let z : ⊥ = omega arith in absurd z
  find_place (suc m) j h =
      ⊎_elim
      (λ a.
      ⊎_elim
      (λ e. let l = place_length rec k m e in (m, record { high = omega arith; kind = e; place = omega arith }))
      (λ d. let l = other_length rec k m d in let z : ⊥ = omega arith in absurd z)
      (split_eq (rec (suc m)).kind k))
      (λ b. let f = find_place m j b in (f.0, record { high = omega (arith, f.1.high); kind = f.1.kind; place = f.1.place }))
      (split_le (length (up_to m)) j)

-- ---- place i of the lists of kinds 1 to n: which list, and which place of it
pub record InKind (lists : ℕ → List Record) (n i : ℕ) : Type 0 where
  pub below : ℕ
  pub high : suc below ≤ n
  pub at : ℕ
  pub room : at < length (lists (suc below))
  pub place : i ≡ length (kinds_upto lists below) + at
  pub same : get_or (kinds_upto lists n) i no_record ≡ get_or (lists (suc below)) at no_record

pub find_kind : (lists : ℕ → List Record) (n i : ℕ) → i < length (kinds_upto lists n) → InKind lists n i
find_kind lists zero i h = let z : ⊥ = omega arith in absurd z
find_kind lists (suc n) i h =
    ⊎_elim
    (λ a.
    let f = find_kind lists n i a.0 in
    record { below = f.below; high = omega (arith, f.high); at = f.at; room = f.room; place = f.place; same = a.1 ∙ f.same })
    (λ b. record { below = n; high = omega arith; at = b.0; room = b.2; place = b.1; same = b.3 })
    (two_lists (kinds_upto lists n) (lists (suc n)) i h)

-- ---- renumbered records of a policy in a list
-- record `of` of the policy o is record i of the list l, and its place is counted from where the records of its kind begin
pub record Stems (o : Policy) (to : ℕ → ℕ) (begin : ℕ → ℕ) (l : List Record) (i : ℕ) : Type 0 where
  pub of : ℕ
  pub low : 1 ≤ of
  pub high : of ≤ o.size
  pub same : record_in l i ≡ renumbered to (o.rec of)
  pub place : i ≡ begin (o.rec of).kind + length (of_kind_in (o.rec of).kind (records_upto o.rec of))

-- place j of the renumbered records of a kind
pub stems_at : (l : List Record) (o : Policy) (to begin : ℕ → ℕ) (k i j : ℕ) → j < length (map (renumbered to) (kind_list o k)) → suc i ≡ begin k + suc j
    → record_in l (suc i) ≡ get_or (map (renumbered to) (kind_list o k)) j no_record → Stems o to begin l (suc i)
stems_at l o to begin k i j h place same =
    let x = length-map (kind_list o k) (renumbered to) in
    let f = find_place o.rec k o.size j (omega arith) in
    let n : ℕ = f.0 in
    let next = place_length o.rec k n f.1.kind in
    record {
      of = suc n;
      low = omega arith;
      high = f.1.high;
      same = same ∙ get_or-map (renumbered to) (kind_list o k) j no_record
          ∙ ap (λ (y : ℕ). renumbered to (get_or (kind_list o k) y no_record)) f.1.place
          ∙ ap (renumbered to) (place_at o.rec k n o.size f.1.high f.1.kind);
      place = subst (λ (y : ℕ). suc i ≡ begin y + length (of_kind_in y (records_upto o.rec (suc n)))) (sym f.1.kind) (omega (arith, place, next, f.1.place));
    }

-- ---- the joined list
module _ (p q : Policy) where
  -- where the maker's records of a kind begin, and where the board's
  abbrev pub makers_begin : ℕ → ℕ
  makers_begin zero = 0
  makers_begin (suc k) = length (kinds_upto (joined_kind p q) k)

  abbrev pub boards_begin : ℕ → ℕ
  boards_begin k = makers_begin k + length (kind_list p k)

  abbrev pub MakersRecord : ℕ → Type 0
  MakersRecord i = Stems p (makers_node p q) makers_begin (joined_list p q) i

  abbrev pub BoardsRecord : ℕ → Type 0
  BoardsRecord i = Stems q (boards_node p q) boards_begin (joined_list p q) i

  pub joined_stems : (i : ℕ) → 1 ≤ i → i ≤ length (joined_list p q) → MakersRecord i ⊎ BoardsRecord i
  joined_stems zero a b = let z : ⊥ = omega arith in absurd z
  joined_stems (suc i) a b =
      let f = find_kind (joined_kind p q) 9 i (omega arith) in
      let k : ℕ = suc f.below in
      let x = length-map (kind_list p k) (renumbered (makers_node p q)) in
      ⊎_elim
      (λ m. inl (stems_at (joined_list p q) p (makers_node p q) makers_begin k i f.at m.0 (omega (arith, f.place)) (f.same ∙ m.1)))
      (λ m. inr (stems_at (joined_list p q) q (boards_node p q) boards_begin k i m.0 m.2 (omega (arith, f.place, m.1, x)) (f.same ∙ m.3)))
      (two_lists (map (renumbered (makers_node p q)) (kind_list p k)) (map (renumbered (boards_node p q)) (kind_list q k)) f.at f.room)
