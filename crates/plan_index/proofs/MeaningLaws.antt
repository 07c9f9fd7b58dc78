-- From items to the index: entries that unite the items, split into blocks, say what α says by the records that count. And what an
-- entry's masks say, bit for bit.
use mathlib.Core.Path.{◌≡◌, refl, sym, ◌∙◌, subst}
use mathlib.Core.Bool.{Bool, true}
use mathlib.Core.List.{List}
use mathlib.Core.Logic.{⊎_elim}
use Prim.Native.Nat.{ℕ, ◌+◌, ◌/◌, ◌%◌, ◌≤◌, ◌<◌}
use native.Mathlib.Omega.{arith}
use lib.ListN.{length, get_or}
use Rattle.base.specs.Bits.{bit}
use Rattle.base.specs.Ranges.{Within}
use Rattle.base.proofs.BoolLaws.{same_truth}
use Rattle.base.proofs.Numbers.{split_eq, split_le}
use Rattle.policy_image.specs.Policy.{Policy}
use Rattle.context.specs.declared.Event.{Event}
use Rattle.context.specs.Codes.{event_at}
use Rattle.plan_tables.specs.Inner.Tables.{type_entries}
use Rattle.plan_index.specs.Inner.Codes.{type_codes, key_codes, items, key_code, item_code}
use Rattle.plan_index.specs.Inner.Index.{Has, Ranged, RisingKeys, MasksShow}
use Rattle.plan_index.specs.Inner.Items.{code_in, side_mask, Gives, Says, Owned, Extracted}
use Rattle.sorting.specs.Inner.Entries.{Unites}
use Rattle.plan_index.specs.Inner.Unite.{UnitedItems}
use Rattle.plan_index.specs.Inner.Split.{own_of, Splittable, Starts, Split}
use Rattle.plan_index.specs.Inner.Meaning.{BlockOf, AllowBlock, AllowIndex}

module _ {p : Policy} {codes masks : List ℕ} {n : ℕ} (E : Extracted p codes masks n)
    {entries writes reads : List ℕ} {m : ℕ} (U : UnitedItems (code_in codes) (side_mask masks 0) (side_mask masks 1) n entries writes reads m) where
  owned_at : (j : ℕ) → j < m → Owned p.counts.types (get_or entries j 0)
  owned_at j l = let c = U.entries.coded j l in subst (Owned p.counts.types) c.same (E.owned c.at c.below)

  pub splittable : {types : ℕ} {first : List ℕ} → types ≡ p.counts.types → types < type_entries → types + 1 < length first → items ≤ length entries
      → Splittable types m first entries
  splittable e few room size =
      record {
        starts = room;
        few_types = few;
        few = omega (arith, U.entries.few, E.few);
        small = omega (arith, U.entries.few, E.few);
        sorted = U.entries.sorted;
        own = λ j l. let w = (owned_at j l).own in record { low = w.low; high = omega (arith, w.high) };
      }

  module _ {types : ℕ} {first keys : List ℕ} (same : types ≡ p.counts.types) (S : Split types m entries first keys) where
    module _ (t : ℕ) (within : Within 1 p.counts.types t) where
      abbrev lo : ℕ
      lo = get_or first t 0

      abbrev hi : ℕ
      hi = get_or first (t + 1) 0

      start : Starts entries m t lo
      start = S.starts t (record { low = within.low; high = omega (arith, within.high) })

      stop : Starts entries m (t + 1) hi
      stop = S.starts (t + 1) (record { low = omega arith; high = omega (arith, within.high) })

      -- an entry of the block has the type's code, and the entries with the type's code are in the block
      code_at : (j : ℕ) → lo ≤ j → j < hi → get_or entries j 0 ≡ item_code t (get_or keys j 0)
      code_at j l h =
          let few : j < m = omega (arith, stop.few) in
          omega (arith, start.above j l few, stop.below j h, S.key j few)

      from_low : (j : ℕ) → j < m → own_of entries j ≡ t → lo ≤ j
      from_low j l e = ⊎_elim (λ h. h) (λ (h : j < lo). absurd (omega (arith, start.below j h))) (split_le lo j)

      to_high : (j : ℕ) → j < m → own_of entries j ≡ t → j < hi
      to_high j l e = ⊎_elim (λ (h : hi ≤ j). absurd (omega (arith, stop.above j h l))) (λ h. h) (split_le hi j)

      order : lo ≤ hi
      order = ⊎_elim (λ h. h) (λ (h : hi < lo). absurd (omega (arith, start.below hi h, stop.above hi (omega arith) (omega (arith, start.few))))) (split_le lo hi)

      shows : {R : ℕ → ℕ → ℕ → ℕ → Type 0} {give : ℕ → ℕ} {side : List ℕ} → Says R (code_in codes) give n → Unites (code_in codes) give n entries side m → MasksShow (λ c o q. R t c o q) keys side lo hi
      shows {give = give} H W =
          record {
            sound = λ k q lq b.
                let j : ℕ = b.place in
                let h = b.high in
                let few : j < m = omega (arith, stop.few) in
                let key = S.key j few in
                let is = b.key in
                let e : get_or entries j 0 ≡ item_code t (key_code (k / type_codes) (k % type_codes)) = omega (arith, code_at j b.low h) in
                H.sound t (k / type_codes) (k % type_codes) q (omega arith) (omega arith)
                (subst (λ (x : ℕ). Gives (code_in codes) give n x q) e (W.sound (get_or entries j 0) q (record { place = j; low = omega arith; high = few; key = refl; bears = b.bears })));
            whole = λ c o q lc lo' lq x.
                let b = W.whole (item_code t (key_code c o)) q (H.whole t c o q x) in
                let e = b.key in
                let own : own_of entries b.place ≡ t = omega arith in
                record {
                  place = b.place;
                  low = from_low b.place b.high own;
                  high = to_high b.place b.high own;
                  key = S.key b.place b.high ∙ (let z : get_or entries b.place 0 % key_codes ≡ key_code c o = omega arith in z);
                  bears = b.bears;
                };
          }

      block : AllowBlock p t keys writes reads lo hi
      block =
          record {
            order = order;
            sorted = record {
              rising = λ i j l k h. omega (arith, code_at i l (omega arith), code_at j (omega arith) h, U.entries.sorted.rising i j (omega arith) k (omega (arith, stop.few)));
            };
            ranged = λ k h.
                let few : h.place < m = omega (arith, h.high, stop.few) in
                subst (Ranged p.counts.types) (sym (S.key h.place few) ∙ h.key) (owned_at h.place few).key;
            writes = shows E.writes U.writes;
            reads = shows E.reads U.reads;
          }

    pub allow_index : items ≤ length keys → AllowIndex p first keys writes reads
    allow_index size = record { blocks = block; tops = λ t w. omega (arith, (stop t w).few, U.entries.few, E.few) }

-- ---- for those who read the index: an entry's masks, bit for bit
-- keys rise, so one place has the key
one_place : (keys : List ℕ) (lo hi i j : ℕ) → RisingKeys keys lo hi → lo ≤ i → i < hi → lo ≤ j → j < hi → get_or keys i 0 ≡ get_or keys j 0 → i ≡ j
one_place keys lo hi i j S li hi' lj hj e =
    ⊎_elim (λ q. q)
    (λ n. ⊎_elim (λ (l : i ≤ j). absurd (omega (arith, S.rising i j li (omega (arith, n)) hj))) (λ (l : j < i). absurd (omega (arith, S.rising j i lj l hi'))) (split_le i j))
    (split_eq i j)

-- the mask at an entry has bit q exactly when R holds
entry : (f : ℕ → ℕ → ℕ → Bool) (types : ℕ) (keys masks : List ℕ) (lo hi : ℕ) → RisingKeys keys lo hi → ((k : ℕ) → Has keys lo hi k → Ranged types k)
    → MasksShow (λ c o q. f c o q ≡ true) keys masks lo hi → (j q : ℕ) → lo ≤ j → j < hi → q < 32
    → bit (get_or masks j 0) q ≡ f (get_or keys j 0 / type_codes) (get_or keys j 0 % type_codes) q
entry f types keys masks lo hi S N H j q lj hj lq =
    same_truth (bit (get_or masks j 0) q) (f (k / type_codes) (k % type_codes) q)
    (λ b. H.sound k q lq (record { place = j; low = lj; high = hj; key = refl; bears = b }))
    (λ e.
    let b = H.whole (k / type_codes) (k % type_codes) q (omega (arith, range.class.high)) (omega arith) lq e in
    let at : b.place ≡ j = one_place keys lo hi b.place j S b.low b.high lj hj (b.key ∙ (let z : key_code (k / type_codes) (k % type_codes) ≡ k = omega arith in z)) in
    subst (λ (x : ℕ). bit (get_or masks x 0) q ≡ true) at b.bears)
  where
    k : ℕ
    k = get_or keys j 0

    range : Ranged types k
    range = N k (record { place = j; low = lj; high = hj; key = refl })

module _ {A : ℕ → ℕ → Event → Bool} (p : Policy) (t : ℕ) (keys writes reads : List ℕ) (lo hi : ℕ) (B : BlockOf A p t keys writes reads lo hi) (j q : ℕ) (lj : lo ≤ j) (hj : j < hi) (lq : q < 32) where
  pub entry_writes : bit (get_or writes j 0) q ≡ A t (get_or keys j 0 % type_codes) (event_at (get_or keys j 0 / type_codes) q)
  entry_writes = entry (λ c o x. A t o (event_at c x)) p.counts.types keys writes lo hi B.sorted B.ranged B.writes j q lj hj lq

  pub entry_reads : bit (get_or reads j 0) q ≡ A (get_or keys j 0 % type_codes) t (event_at (get_or keys j 0 / type_codes) q)
  entry_reads = entry (λ c o x. A o t (event_at c x)) p.counts.types keys reads lo hi B.sorted B.ranged B.reads j q lj hj lq
