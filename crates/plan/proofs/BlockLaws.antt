-- From the index of a policy to the blocks of a plan: the regions are the index's lists, cut to what is write-like or read-like.
use Prim.Native.Nat.{ℕ, zero, suc, ◌+◌, ◌-◌, ◌/◌, ◌%◌, ◌≤◌, ◌<◌}
use mathlib.Core.Path.{◌≡◌, refl, sym, subst, ap, ap₂, ◌∙◌}
use mathlib.Core.Bool.{Bool, true, ◌&&◌}
use mathlib.Core.List.{List}
use mathlib.Core.Logic.{⊎_elim}
use native.Mathlib.Omega.{arith}
use lib.Bits.{bit_and, bit_or}
use lib.ListN.{length, get_or, set}
use Rattle.base.specs.Bits.{bit}
use Rattle.base.specs.Ranges.{Within}
use Rattle.base.proofs.BitLaws.{bit_and_lem, bit_or_lem}
use Rattle.base.proofs.Numbers.{split_eq}
use Rattle.base.proofs.BoolLaws.{or_left, or_true}
use Rattle.policy_image.specs.declared.counts.Counts.{Counts}
use Rattle.policy_image.specs.Policy.{Policy, policy_of}
use Rattle.policy_image.specs.Inner.Counting.{counting}
use Rattle.policy_image.specs.OfKind.{some}
use Rattle.policy_image.specs.Layout.{counts_of}
use Rattle.policy_image.specs.Inner.Reading.{Counted}
use Rattle.context.specs.Codes.{event_at}
use Rattle.relations.specs.Relations.{α, flows_as, write_like, read_like}
use Rattle.plan_tables.specs.Inner.Tables.{FlowMasks}
use Rattle.plan_index.specs.Inner.Index.{Bears, Ranged}
use Rattle.plan_index.specs.Inner.Meaning.{AllowBlock, AllowIndex}
use Rattle.plan_index.proofs.MeaningLaws.{entry_writes, entry_reads}
use Rattle.base.specs.Inner.Fill.{Filled}
use Rattle.base.proofs.FillLaws.{fill_begin, fill_more}
use Rattle.plan.specs.Inner.Regions.{first_entries, block_entries, first_start, keys_start, writes_start, reads_start, type_special_start, plan_entries}
use Rattle.plan.specs.Inner.Plan.{Ready, PlanCounts, specials_at, EntryOf, OfferBlock, OfferBlocks, SpecialOf}
use Rattle.plan.specs.Inner.Entries.{first_at, key_at, writes_at, reads_at}
use Rattle.plan.specs.Inner.Put.{Tops, Kept, BlocksOf, BlocksPut, TypeSpecialPut}

-- ---- bounds
module _ {s : List ℕ} {n : Counts} (R : Ready s n) where
  pub types_same : n.types ≡ (policy_of s).counts.types
  types_same = ap (λ (k : Counts). k.types) R.same

  pub all_few : (policy_of s).counts.types ≤ 255
  all_few = R.sound.range.types.high

  pub all_some : 1 ≤ (policy_of s).counts.types
  all_some = R.sound.range.types.low

  pub types_few : n.types ≤ 255
  types_few = omega (arith, types_same, all_few)

  pub classes_few : n.classes ≤ 31
  classes_few = subst (λ (k : Counts). k.classes ≤ 31) (sym R.same) R.sound.range.classes.high

  pub counted : Counted s n
  unfolding counts_of
  counted = record { exact = R.sound.exact; same = R.same; size = ap (λ (k : Counts). k.records) R.same }

  -- the last block's end
  pub last_few : (f : ℕ → Bool) {first keys writes reads : List ℕ} → AllowIndex (counting f (policy_of s)) first keys writes reads → get_or first (n.types + 1) 0 ≤ length keys
  last_few f {first} {keys} I =
      let t = I.tops (policy_of s).counts.types (record { low = all_some; high = omega arith }) in
      let q : get_or first (n.types + 1) 0 ≡ get_or first ((policy_of s).counts.types + 1) 0 = ap (λ (i : ℕ). get_or first (i + 1) 0) types_same in
      omega arith

-- an entry's mask, cut to what its class has
abbrev pub cut_to : (keys masks cut : List ℕ) → ℕ → ℕ
cut_to keys masks cut i = bit_and (get_or masks i 0) (get_or cut (get_or keys i 0 / 4096 % 32) 0)

-- the blocks stand one behind the other, so none ends behind the last
module _ (p : Policy) (first keys writes reads : List ℕ) (I : AllowIndex p first keys writes reads) where
  ends : (d t : ℕ) → 1 ≤ t → t + d ≡ p.counts.types → get_or first (t + 1) 0 ≤ get_or first (p.counts.types + 1) 0
  ends zero t l e = let q : t ≡ p.counts.types = omega arith in subst (λ (k : ℕ). get_or first (t + 1) 0 ≤ get_or first (k + 1) 0) q (omega arith)
  ends (suc d) t l e =
      let step = (I.blocks (t + 1) (record { low = omega arith; high = omega arith })).order in
      omega (arith, ends d (t + 1) (omega arith) (omega arith))

  pub before_end : (t : ℕ) → Within 1 p.counts.types t → get_or first (t + 1) 0 ≤ get_or first (p.counts.types + 1) 0
  before_end t w = let h = w.high in let e : t + (p.counts.types - t) ≡ p.counts.types = omega arith in ends (p.counts.types - t) t w.low e

module _ {p : Policy} {first keys writes reads write read old p1 p2 p3 plan : List ℕ} {n types : ℕ} (I : AllowIndex p first keys writes reads) (W : FlowMasks p 1 write) (R : FlowMasks p 2 read)
    (few : p.counts.types ≤ 255) (same : types ≡ p.counts.types) (size : length keys ≡ block_entries) (top : n ≡ get_or first (types + 1) 0)
    (F1 : Filled (λ i v. v ≡ get_or first i 0) old p1 first_start 0 first_entries) (F2 : Filled (λ i v. v ≡ get_or keys i 0) p1 p2 keys_start 0 n)
    (F3 : Filled (λ i v. v ≡ cut_to keys writes write i) p2 p3 writes_start 0 n) (F4 : Filled (λ i v. v ≡ cut_to keys reads read i) p3 plan reads_start 0 n) (some : 1 ≤ p.counts.types) where
  last : n ≡ get_or first (p.counts.types + 1) 0
  last = top ∙ ap (λ (k : ℕ). get_or first (k + 1) 0) same

  room : n ≤ block_entries
  room = omega (arith, last, I.tops p.counts.types (record { low = some; high = omega arith }))

  first_same : (t : ℕ) → t < first_entries → first_at plan t ≡ get_or first t 0
  first_same t h = F4.below (first_start + t) (omega arith) ∙ F3.below (first_start + t) (omega arith) ∙ F2.below (first_start + t) (omega arith) ∙ F1.here t (omega arith) h

  key_same : (j : ℕ) → j < n → key_at plan j ≡ get_or keys j 0
  key_same j h = let r = room in F4.below (keys_start + j) (omega arith) ∙ F3.below (keys_start + j) (omega arith) ∙ F2.here j (omega arith) h

  writes_same : (j : ℕ) → j < n → writes_at plan j ≡ cut_to keys writes write j
  writes_same j h = let r = room in F4.below (writes_start + j) (omega arith) ∙ F3.here j (omega arith) h

  reads_same : (j : ℕ) → j < n → reads_at plan j ≡ cut_to keys reads read j
  reads_same j h = F4.here j (omega arith) h

  module _ (t lo hi : ℕ) (B : AllowBlock p t keys writes reads lo hi) (within : hi ≤ n) where
    range_at : (j : ℕ) → lo ≤ j → j < hi → Ranged p.counts.types (get_or keys j 0)
    range_at j l h = B.ranged (get_or keys j 0) (record { place = j; low = l; high = h; key = refl })

    class_at : (j : ℕ) → lo ≤ j → j < hi → get_or keys j 0 / 4096 % 32 ≡ get_or keys j 0 / 4096
    class_at j l h = omega (arith, (range_at j l h).class.high)

    entry_of : {masks : List ℕ} {k q : ℕ} → Bears keys masks lo hi k q → EntryOf plan lo hi k
    entry_of b = record { place = b.place; low = b.low; high = b.high; key = key_same b.place (omega (arith, b.high)) ∙ b.key }

    offer_block : OfferBlock p t plan lo hi
    unfolding write_like read_like
    offer_block =
        record {
          order = B.order;
          rising = λ i j l k h. omega (arith, key_same i (omega arith), key_same j (omega arith), B.sorted.rising i j l k h);
          ranged = λ j l h. subst (Ranged p.counts.types) (sym (key_same j (omega arith))) (range_at j l h);
          writes = λ j q l h lq. subst (λ (k : ℕ). bit (writes_at plan j) q ≡ (α p t (k % 4096) (event_at (k / 4096) q) && flows_as p 1 (event_at (k / 4096) q))) (sym (key_same j (omega arith)))
              (ap (λ (m : ℕ). bit m q) (writes_same j (omega arith)) ∙ bit_and_lem (get_or writes j 0) (get_or write (get_or keys j 0 / 4096 % 32) 0) q
              ∙ ap₂ ◌&&◌ (entry_writes p t keys writes reads lo hi B j q l h lq)
              (ap (λ (c : ℕ). bit (get_or write c 0) q) (class_at j l h) ∙ W.at (get_or keys j 0 / 4096) q));
          reads = λ j q l h lq. subst (λ (k : ℕ). bit (reads_at plan j) q ≡ (α p (k % 4096) t (event_at (k / 4096) q) && flows_as p 2 (event_at (k / 4096) q))) (sym (key_same j (omega arith)))
              (ap (λ (m : ℕ). bit m q) (reads_same j (omega arith)) ∙ bit_and_lem (get_or reads j 0) (get_or read (get_or keys j 0 / 4096 % 32) 0) q
              ∙ ap₂ ◌&&◌ (entry_reads p t keys writes reads lo hi B j q l h lq)
              (ap (λ (c : ℕ). bit (get_or read c 0) q) (class_at j l h) ∙ R.at (get_or keys j 0 / 4096) q));
          whole = λ c o q lc lo' lq w. ⊎_elim (λ a. entry_of (B.writes.whole c o q lc lo' lq a)) (λ a. entry_of (B.reads.whole c o q lc lo' lq a)) w;
        }

  block_at : (t : ℕ) → Within 1 p.counts.types t → OfferBlock p t plan (first_at plan t) (first_at plan (t + 1))
  block_at t w =
      let h = w.high in
      let end : get_or first (t + 1) 0 ≤ n = omega (arith, last, before_end p first keys writes reads I t w) in
      let B = offer_block t (get_or first t 0) (get_or first (t + 1) 0) (I.blocks t w) end in
      subst (λ (k : ℕ). OfferBlock p t plan k (first_at plan (t + 1))) (sym (first_same t (omega arith)))
      (subst (λ (k : ℕ). OfferBlock p t plan (get_or first t 0) k) (sym (first_same (t + 1) (omega arith))) B)

  blocks_put : BlocksPut p old plan
  blocks_put =
      let r = room in
      record {
        blocks = record {
          blocks = block_at;
          tops = λ t w. let h = w.high in omega (arith, first_same (t + 1) (omega arith), I.tops t w);
        };
        below = λ i h. F4.below i (omega arith) ∙ F3.below i (omega arith) ∙ F2.below i (omega arith) ∙ F1.below i (omega arith);
      }

-- the masks of what flows are the same whichever allow records count
flows_counted : (f : ℕ → Bool) {p : Policy} {way : ℕ} {masks : List ℕ} → FlowMasks p way masks → FlowMasks (counting f p) way masks
unfolding some
flows_counted f W = record { at = W.at }

pub blocks_of : {s : List ℕ} {n : Counts} {first keys writes reads write read old p1 p2 p3 plan : List ℕ} → Ready s n → FlowMasks (policy_of s) 1 write → FlowMasks (policy_of s) 2 read → length keys ≡ block_entries
    → Filled (λ i v. v ≡ get_or first i 0) old p1 first_start 0 first_entries → Filled (λ i v. v ≡ get_or keys i 0) p1 p2 keys_start 0 (get_or first (n.types + 1) 0)
    → Filled (λ i v. v ≡ cut_to keys writes write i) p2 p3 writes_start 0 (get_or first (n.types + 1) 0)
    → Filled (λ i v. v ≡ cut_to keys reads read i) p3 plan reads_start 0 (get_or first (n.types + 1) 0)
    → BlocksOf (policy_of s) first keys writes reads old plan
blocks_of R W D size F1 F2 F3 F4 =
    record { at = λ f I. blocks_put I (flows_counted f W) (flows_counted f D) (all_few R) (types_same R) size refl F1 F2 F3 F4 (all_some R) }

-- ---- a list that is the same below the special permissions has the same blocks
module _ (p : Policy) (old new : List ℕ) (few : p.counts.types ≤ 255) (same : Kept type_special_start old new) where
  module _ (t lo hi : ℕ) (top : hi ≤ block_entries) (B : OfferBlock p t old lo hi) where
    key_kept : (j : ℕ) → j < hi → key_at new j ≡ key_at old j
    key_kept j h = same (keys_start + j) (omega arith)

    kept_block : OfferBlock p t new lo hi
    kept_block =
        record {
          order = B.order;
          rising = λ i j l k h. omega (arith, key_kept i (omega arith), key_kept j h, B.rising i j l k h);
          ranged = λ j l h. subst (Ranged p.counts.types) (sym (key_kept j h)) (B.ranged j l h);
          writes = λ j q l h lq. subst (λ (k : ℕ). bit (writes_at new j) q ≡ (α p t (k % 4096) (event_at (k / 4096) q) && write_like p (event_at (k / 4096) q))) (sym (key_kept j h))
              (ap (λ (m : ℕ). bit m q) (same (writes_start + j) (omega arith)) ∙ B.writes j q l h lq);
          reads = λ j q l h lq. subst (λ (k : ℕ). bit (reads_at new j) q ≡ (α p (k % 4096) t (event_at (k / 4096) q) && read_like p (event_at (k / 4096) q))) (sym (key_kept j h))
              (ap (λ (m : ℕ). bit m q) (same (reads_start + j) (omega arith)) ∙ B.reads j q l h lq);
          whole = λ c o q lc lo' lq w.
              let E = B.whole c o q lc lo' lq w in
              record { place = E.place; low = E.low; high = E.high; key = key_kept E.place E.high ∙ E.key };
        }

  first_kept : (t : ℕ) → t ≤ 256 → first_at new t ≡ first_at old t
  first_kept t h = same (first_start + t) (omega arith)

  pub kept_blocks : OfferBlocks p old → OfferBlocks p new
  kept_blocks D =
      record {
        blocks = λ t w.
            let h = w.high in
            subst (λ (k : ℕ). OfferBlock p t new k (first_at new (t + 1))) (sym (first_kept t (omega arith)))
            (subst (λ (k : ℕ). OfferBlock p t new (first_at old t) k) (sym (first_kept (t + 1) (omega arith))) (kept_block t (first_at old t) (first_at old (t + 1)) (D.tops t w) (D.blocks t w)));
        tops = λ t w. let h = w.high in omega (arith, first_kept (t + 1) (omega arith), D.tops t w);
      }

  pub kept_special : OfferBlocks p old → (t r : ℕ) → Within 1 p.counts.types t → SpecialOf old (first_at old t) (first_at old (t + 1)) r → SpecialOf new (first_at new t) (first_at new (t + 1)) r
  kept_special D t r w G =
      let h = w.high in
      let e : first_at new t ≡ first_at old t = first_kept t (omega arith) in
      let e' : first_at new (t + 1) ≡ first_at old (t + 1) = first_kept (t + 1) (omega arith) in
      let top = D.tops t w in
      record { at = λ j q l k b. G.at j q (omega arith) (omega arith) (subst (λ (m : ℕ). bit m q ≡ true) (specials_kept j (omega arith)) b) }
    where
      specials_kept : (j : ℕ) → j < block_entries → specials_at new j ≡ specials_at old j
      specials_kept j h =
          ap₂ bit_and (ap₂ bit_or (same (writes_start + j) (omega arith)) (same (reads_start + j) (omega arith)))
          (same (key_at new j / 4096 % 32) (omega arith) ∙ ap (λ (k : ℕ). get_or old (k / 4096 % 32) 0) (same (keys_start + j) (omega arith)))

-- ---- special permissions, entry by entry
pub special_begin : (plan : List ℕ) (lo : ℕ) → SpecialOf plan lo lo 0
special_begin plan lo = record { at = λ j q l h b. absurd (omega arith) }

pub special_more : {plan : List ℕ} {lo j r v : ℕ} → SpecialOf plan lo j r → v ≡ specials_at plan j → SpecialOf plan lo (j + 1) (bit_or r v)
special_more {plan} {lo} {j} {r} {v} G e =
    record {
      at = λ i q l h b. bit_or_lem r v q
          ∙ ⊎_elim (λ (d : i ≡ j). or_true (bit r q) (bit v q) (ap (λ (m : ℕ). bit m q) (e ∙ ap (specials_at plan) (sym d)) ∙ b))
          (λ (d : i ≡ j → ⊥). or_left (bit r q) (bit v q) (G.at i q l (omega (arith, d)) b)) (split_eq i j);
    }

pub special_end : {plan : List ℕ} {lo hi j r : ℕ} → SpecialOf plan lo j r → hi ≤ j → SpecialOf plan lo hi r
special_end G h = record { at = λ i q l k b. G.at i q l (omega arith) b }

-- the special permissions of the types below t are put
pub record SpecialBelow (types : ℕ) (old new : List ℕ) (t : ℕ) : Type 0 where
  pub low : 1 ≤ t
  pub high : t ≤ types + 1
  pub few : types ≤ 255
  pub tops : Tops types old
  pub put : Filled (λ i v. SpecialOf old (first_at old i) (first_at old (i + 1)) v) old new type_special_start 1 t

pub special_below_begin : {types : ℕ} {plan : List ℕ} → types ≤ 255 → Tops types plan → SpecialBelow types plan plan 1
special_below_begin few T = record { low = omega arith; high = omega arith; few = few; tops = T; put = fill_begin _ _ _ _ }

-- the end of the block of t stands behind its start
pub place_next : (l : List ℕ) (t : ℕ) → get_or l (first_start + t + 1) 0 ≡ first_at l (t + 1)
place_next l t = ap (λ (i : ℕ). get_or l i 0) (let e : first_start + t + 1 ≡ first_start + (t + 1) = omega arith in e)

pub special_to : {plan : List ℕ} {lo hi hi' r : ℕ} → SpecialOf plan lo hi r → hi ≡ hi' → SpecialOf plan lo hi' r
special_to {plan} {lo} {r = r} G e = subst (λ (k : ℕ). SpecialOf plan lo k r) e G

module _ {types : ℕ} {old new : List ℕ} {t : ℕ} (G : SpecialBelow types old new t) (h : t ≤ types) where
  same_below : Kept type_special_start old new
  same_below i l = G.put.below i (omega arith)

  pub special_below_top : first_at new (t + 1) ≤ block_entries
  special_below_top = omega (arith, same_below (first_start + (t + 1)) (omega (arith, G.few)), G.tops.at t (record { low = G.low; high = h }))

  pub special_below_more : {v : ℕ} → plan_entries ≤ length new → SpecialOf new (first_at new t) (first_at new (t + 1)) v → SpecialBelow types old (set new (type_special_start + t) v) (t + 1)
  special_below_more {v} size H =
      record {
        low = omega arith;
        high = omega arith;
        few = G.few;
        tops = G.tops;
        put = fill_more (λ i v. SpecialOf old (first_at old i) (first_at old (i + 1)) v) G.put G.low (omega (arith, G.few)) here;
      }
    where
      top : first_at old (t + 1) ≤ block_entries
      top = G.tops.at t (record { low = G.low; high = h })

      specials : (j : ℕ) → j < block_entries → specials_at new j ≡ specials_at old j
      specials j l =
          ap₂ bit_and (ap₂ bit_or (same_below (writes_start + j) (omega arith)) (same_below (reads_start + j) (omega arith)))
          (same_below (key_at new j / 4096 % 32) (omega arith) ∙ ap (λ (k : ℕ). get_or old (k / 4096 % 32) 0) (same_below (keys_start + j) (omega arith)))

      here : SpecialOf old (first_at old t) (first_at old (t + 1)) v
      here =
          let e = same_below (first_start + t) (omega (arith, G.few)) in
          let e' = same_below (first_start + (t + 1)) (omega (arith, G.few)) in
          record { at = λ j q l k b. H.at j q (omega arith) (omega arith) (subst (λ (m : ℕ). bit m q ≡ true) (sym (specials j (omega (arith, top)))) b) }

pub special_below_end : {types : ℕ} {old new : List ℕ} {t : ℕ} → SpecialBelow types old new t → types < t → TypeSpecialPut types old new
special_below_end G h =
    record {
      type_special = λ i w. G.put.here i w.low (let z = w.high in omega arith);
      below = λ i l. G.put.below i (omega arith);
    }

-- the last block's end
pub last_top : {n : Counts} {plan : List ℕ} → PlanCounts n → Tops n.types plan → first_at plan (n.types + 1) ≤ block_entries
last_top {n = n} C T = T.at n.types (record { low = C.some_type; high = omega arith })

-- what is put above them leaves the blocks' ends
pub tops_after : {types : ℕ} {old plan : List ℕ} → types ≤ 255 → Kept type_special_start old plan → Tops types old → Tops types plan
tops_after few K T = record { at = λ t w. let h = w.high in omega (arith, T.at t w, K (first_start + (t + 1)) (omega arith)) }

pub tops_of : {p : Policy} {old plan : List ℕ} {types : ℕ} → BlocksPut p old plan → types ≡ p.counts.types → Tops types plan
tops_of B e = record { at = λ t w. B.blocks.tops t (record { low = w.low; high = omega (arith, w.high) }) }
