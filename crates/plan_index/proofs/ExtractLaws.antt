-- The loop that writes the items: what the lists hold where the iterator stands at `it` with the items of n records written; and that what the items give
-- at its end is α by the records that count.
use mathlib.Core.Path.{◌≡◌, sym, ◌∙◌, ap, subst}
use mathlib.Core.Bool.{Bool, true, false, cond}
use mathlib.Core.Logic.{⊎_elim}
use mathlib.Core.List.{List}
use Prim.Native.Nat.{ℕ, ◌+◌, ◌*◌, ◌/◌, ◌%◌, ◌≤◌, ◌<◌}
use native.Mathlib.Omega.{arith}
use lib.Bits.{bit_and}
use lib.Dec.{eqb}
use lib.ListN.{get_or}
use borrow.Author.Tests.{eq-eqb, eqb-true}
use Rattle.base.specs.Bits.{bit}
use Rattle.base.specs.Ranges.{Within}
use Rattle.base.proofs.Numbers.{split_le, two_of}
use Rattle.base.proofs.BoolLaws.{clash}
use Rattle.policy_image.specs.declared.records.Record.{Record}
use Rattle.policy_image.specs.declared.kinds.Kind.TheVariants.{Allow}
use Rattle.policy_image.specs.Layout.{policy_head, record_of}
use Rattle.policy_image.specs.Policy.{Policy, policy_of}
use Rattle.policy_image.specs.Inner.Counting.{counting}
use Rattle.policy_links.specs.declared.records.Records.{Records}
use Rattle.policy_links.specs.Inner.Walking.{GivesNext}
use Rattle.policy_links.proofs.Walking.{Along, given_is, given_same, along_map, along_start, along_step, along_kind, along_end}
use Rattle.policy_links.proofs.KindLaws.{OfKind, kind_counted, counted_kind}
use Rattle.policy_check.specs.Inner.Sound.{Sound}
use Rattle.context.specs.Codes.{event_at}
use Rattle.relations.specs.Relations.{target_of, α}
use Rattle.relations.proofs.CountedLaws.{gamma_counted, sources_counted}
use Rattle.plan_tables.specs.Inner.Tables.{GammaMasks}
use Rattle.plan_tables.proofs.SoundLaws.{meets}
use Rattle.plan_index.specs.Inner.Codes.{type_codes, record_numbers}
use Rattle.plan_index.specs.Inner.Items.{ItemOf, ItemsPut, code_in, side_mask, Says, Owned, Extracted}
use Rattle.sorting.proofs.MaskLaws.{bit_where, bit_there}
use Rattle.plan_index.proofs.RecordLaws.{own_part, class_part, other_part, target_cases, own_by, other_by, within_by, seen, seen_of, seen_back, own_back, other_back, alpha_of, of_alpha, Allowing}

-- item x is that of a record that counts, on the side that its number says
pub record Taken (p : Policy) (perms codes masks : List ℕ) (x : ℕ) : Type 0 where
  pub number : ℕ
  pub kind : OfKind p 4 number
  pub counted : p.counted number ≡ true
  pub side : ℕ
  pub same : x % 2 ≡ side
  pub item : ItemOf codes masks perms x (own_by (eqb side 0) (p.rec number)) (other_by (eqb side 0) (p.rec number)) (p.rec number)

-- one of the items of n records is that of the record on the side
pub record Written (perms codes masks : List ℕ) (n side : ℕ) (r : Record) : Type 0 where
  pub at : ℕ
  pub below : at < 2 * n
  pub same : at % 2 ≡ side
  pub item : ItemOf codes masks perms at (own_by (eqb side 0) r) (other_by (eqb side 0) r) r

abbrev Left : Policy → (perms codes masks : List ℕ) → ℕ → ℕ → Type 0
Left p perms codes masks n j = p.counted j ≡ true → (side : ℕ) → side ≤ 1 → Written perms codes masks n side (p.rec j)

pub record Extracting (s : List ℕ) (keep : ℕ → Bool) (perms codes masks : List ℕ) (n : ℕ) (it : Records) : Type 0 where
  pub along : Along s Allow (Left (counting keep (policy_of s)) perms codes masks n) it
  pub taken : (x : ℕ) → x < 2 * n → Taken (counting keep (policy_of s)) perms codes masks x
  pub few : n ≤ (policy_of s).size
  -- links rise, so fewer records have their items written than the number of the record at hand
  pub below : (it.next ≡ 0 → ⊥) → n < it.next

module _ (s : List ℕ) (S : Sound s) (keep : ℕ → Bool) (perms : List ℕ) where
  abbrev p : Policy
  p = counting keep (policy_of s)

  pub allowing : (j : ℕ) → OfKind p 4 j → Allowing p (p.rec j)
  allowing j o =
      let m = meets s S 4 j (counted_kind keep (policy_of s) o) in
      let source : Within 1 p.counts.types (p.rec j).a = m.a in
      let target : Within 1 p.counts.types (target_of (p.rec j)) =
      ⊎_elim (λ h. rw h.1 source) (λ h. rw h.1 (record { low = omega (arith, h.0); high = m.b.high })) (target_cases (p.rec j)) in
      record {
        own = λ first. within_by first source target;
        other = λ first. within_by first target source;
        class = record { low = m.c.low; high = omega (arith, m.c.high, S.range.classes.high) };
        types = omega (arith, S.range.types.high);
      }

  pub extract_start : (codes masks : List ℕ) {it : Records} → (it.image.now ≡ s) × (it.next ≡ policy_head s 4) → Extracting s keep perms codes masks 0 it
  extract_start codes masks e =
      record {
        along = along_start s S.links Allow _ e;
        taken = λ x l. absurd (omega arith);
        few = omega arith;
        below = λ n. omega (arith, n);
      }

  module _ (codes masks : List ℕ) (n : ℕ) {it it' : Records} {r : Record} (x : Extracting s keep perms codes masks n it) (g : GivesNext it r it') where
    pub extract_kind : OfKind p 4 it.next
    extract_kind = kind_counted keep (policy_of s) (along_kind s S.links Allow _ x.along g S.chains)

    below : n < it.next
    below = x.below (λ z. omega (arith, g.low))

    -- there is room for the items of one more record
    pub extract_room : n + 1 < record_numbers
    extract_room = omega (arith, below, extract_kind.high, S.exact.few)

    -- the record's class has a number below 32
    pub few_classes : r.c < 32
    few_classes = omega (arith, (given_same s x.along.image g).c, (allowing it.next extract_kind).class.high)

    rises : (it'.next ≡ 0 → ⊥) → it.next < it'.next
    rises z =
        let o = extract_kind in
        let next = g.next ∙ (given_same s x.along.image g).next in
        ⊎_elim (λ e. absurd (z (next ∙ e))) (λ h. omega (arith, h.0)) (S.links.nexts it.next o.low o.high)

    -- the record is left out: it does not count
    pub extract_pass : keep it.next ≡ false → Extracting s keep perms codes masks n it'
    extract_pass e =
        record {
          along = along_step s S.links Allow _ x.along g (λ h. absurd (clash h e));
          taken = x.taken;
          few = x.few;
          below = λ z. omega (arith, below, rises z);
        }

    -- the items of the record are written
    module _ (d : keep it.next ≡ true) (codes' masks' : List ℕ) (put : ItemsPut perms r n codes masks codes' masks') where
      P : ItemsPut perms (record_of s it.next) n codes masks codes' masks'
      P = subst (λ (y : Record). ItemsPut perms y n codes masks codes' masks') (given_is s x.along.image g) put

      item_kept : {a b : ℕ} {r : Record} (at : ℕ) → at < 2 * n → ItemOf codes masks perms at a b r → ItemOf codes' masks' perms at a b r
      item_kept at l h = record { code = P.code at l ∙ h.code; mask = P.mask (at / 2) (omega arith) ∙ h.mask }

      kept : (j : ℕ) → Left p perms codes masks n j → Left p perms codes' masks' (n + 1) j
      kept j h e side l =
          let w = h e side l in
          record { at = w.at; below = omega (arith, w.below); same = w.same; item = item_kept w.at w.below w.item }

      written : (side : ℕ) → side ≤ 1 → Written perms codes' masks' (n + 1) side (record_of s it.next)
      written side l =
          two_of (λ y. Written perms codes' masks' (n + 1) y (record_of s it.next)) 0 side (omega arith) l
          (record { at = 2 * n; below = omega arith; same = omega arith; item = P.source })
          (record { at = 2 * n + 1; below = omega arith; same = omega arith; item = P.target })

      taken : (y : ℕ) → y < 2 * (n + 1) → Taken p perms codes' masks' y
      taken y l =
          ⊎_elim
          (λ (h : 2 * n ≤ y).
          two_of (Taken p perms codes' masks') (2 * n) y h (omega arith)
          (record { number = it.next; kind = extract_kind; counted = d; side = 0; same = omega arith; item = P.source })
          (record { number = it.next; kind = extract_kind; counted = d; side = 1; same = omega arith; item = P.target }))
          (λ (h : y < 2 * n).
          let t = x.taken y h in
          record { number = t.number; kind = t.kind; counted = t.counted; side = t.side; same = t.same; item = item_kept y h t.item }) (split_le (2 * n) y)

      pub extract_write : Extracting s keep perms codes' masks' (n + 1) it'
      extract_write =
          record {
            along = along_step s S.links Allow _ (along_map s Allow _ (Left p perms codes' masks' (n + 1)) kept x.along) g (λ e. written);
            taken = taken;
            few = omega (arith, below, extract_kind.high);
            below = λ z. omega (arith, below, rises z);
          }

  -- ---- at the chain's end
  module _ (G : GammaMasks (policy_of s) perms) (codes masks : List ℕ) (n : ℕ) {it : Records} (x : Extracting s keep perms codes masks n it) (z : it.next ≡ 0) where
    H : GammaMasks p perms
    H = record { at = λ c q. G.at c q ∙ sym (gamma_counted keep (policy_of s) (event_at c q)) }

    fields : (y : ℕ) (l : y < 2 * n) → Allowing p (p.rec (x.taken y l).number)
    fields y l = allowing (x.taken y l).number (x.taken y l).kind

    says_side : (side : ℕ) → side ≤ 1 → Says (λ t c o q. seen (α p) (eqb side 0) t o (event_at c q) ≡ true) (code_in codes) (side_mask masks side) (2 * n)
    says_side side few =
        record {
          sound = λ t c o q lc lo g.
              let T = x.taken g.at g.below in
              let w = bit_where (eqb (g.at % 2) side) (get_or masks (g.at / 2) 0) q g.bears in
              let first : Bool = eqb T.side 0 in
              let is : T.side ≡ side = sym T.same ∙ eqb-true (g.at % 2) side w.0 in
              let r = p.rec T.number in
              let F = fields g.at g.below in
              let code = T.item.code in
              let of_class : r.c < 32 = omega (arith, F.class.high) in
              let of_other : other_by first r < type_codes = omega (arith, (F.other first).high, F.types) in
              let own : own_by first r ≡ t = sym (own_part _ (own_by first r) r.c (other_by first r) code of_class of_other) ∙ own_part _ t c o g.same lc lo in
              let class : r.c ≡ c = sym (class_part _ (own_by first r) r.c (other_by first r) code of_class of_other) ∙ class_part _ t c o g.same lc lo in
              let other : other_by first r ≡ o = sym (other_part _ (own_by first r) r.c (other_by first r) code of_class of_other) ∙ other_part _ t c o g.same lc lo in
              let h = seen_of (α p) (event_at r.c q) first r
              (alpha_of p perms H (sources_counted keep (policy_of s) S.sources) T.number q T.kind T.counted (subst (λ (y : ℕ). bit y q ≡ true) T.item.mask w.1)) in
              subst (λ (y : ℕ). seen (α p) (eqb y 0) t o (event_at c q) ≡ true) is
              (rw (← own, ← other, ← class) h);
          whole = λ t c o q h.
              let first : Bool = eqb side 0 in
              let f = of_alpha p perms H (cond first t o) (cond first o t) c q (seen_back (α p) (event_at c q) first t o h) in
              let r = p.rec f.number in
              let W = along_end s S.links Allow _ S.chains x.along z f.number (counted_kind keep (policy_of s) f.kind) f.counted side few in
              let own = own_back first t o r f.source f.target in
              let other = other_back first t o r f.source f.target in
              let class = f.class in
              record {
                at = W.at;
                below = W.below;
                same = omega (arith, W.item.code, own, other, class);
                bears = bit_there (get_or masks (W.at / 2) 0) q (eq-eqb (W.at % 2) side W.same)
                    (subst (λ (y : ℕ). bit y q ≡ true) (ap (λ (y : ℕ). bit_and r.mask (get_or perms y 0)) (sym class) ∙ sym W.item.mask) f.bears);
              };
        }

    owned : (y : ℕ) → y < 2 * n → Owned p.counts.types (get_or codes y 0)
    owned y l =
        let T = x.taken y l in
        let first : Bool = eqb T.side 0 in
        let F = fields y l in
        let code = T.item.code in
        let r = p.rec T.number in
        let of_class : r.c < 32 = omega (arith, F.class.high) in
        let of_other : other_by first r < type_codes = omega (arith, (F.other first).high, F.types) in
        record {
          own = rw (own_part _ (own_by first r) r.c (other_by first r) code of_class of_other) (F.own first);
          key = record { class = rw (class_part _ (own_by first r) r.c (other_by first r) code of_class of_other) F.class; other = rw (other_part _ (own_by first r) r.c (other_by first r) code of_class of_other) (F.other first) };
        }

    pub extract_end : Extracted p codes masks (2 * n)
    extract_end =
        record {
          few = omega (arith, x.few, S.exact.few);
          owned = owned;
          writes = says_side 0 (omega arith);
          reads = says_side 1 (omega arith);
        }
