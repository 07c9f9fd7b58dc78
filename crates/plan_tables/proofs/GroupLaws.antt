-- The loop along the constraints that tells permissions apart: what the table says where the iterator stands at `it`.
use Prim.Native.Nat.{ℕ, ◌+◌, ◌-◌, ◌*◌, ◌≤◌, ◌<◌}
use mathlib.Core.Bool.{Bool, true, false, ◌&&◌}
use mathlib.Core.List.{List}
use mathlib.Core.Logic.{⊎_elim}
use mathlib.Core.Path.{◌≡◌, refl, sym, ap, subst, ◌∙◌}
use native.Mathlib.Omega.{arith}
use borrow.Author.Tests.{eq-eqb, ne_eqb}
use lib.Bits.{bit_and}
use lib.Dec.{eqb}
use lib.ListN.{length, get_or, replicate, length-replicate, get_or-replicate}
use Rattle.base.specs.Bits.{bit}
use Rattle.base.specs.Inner.Masks.{Without}
use Rattle.base.specs.Inner.Fill.{Filled}
use Rattle.base.proofs.BitLaws.{bit_and_lem}
use Rattle.base.proofs.Numbers.{split_eq, split_le}
use Rattle.base.proofs.BoolLaws.{and_true, and_first, and_second}
use Rattle.base.proofs.UptoLaws.{all_at}
use Rattle.policy_image.specs.declared.kinds.Kind.TheVariants.{Constraint}
use Rattle.policy_image.specs.declared.records.Record.{Record}
use Rattle.policy_image.specs.Layout.{policy_head, record_of}
use Rattle.policy_image.specs.Policy.{policy_of}
use Rattle.policy_links.specs.declared.records.Records.{Records}
use Rattle.policy_links.specs.Inner.Walking.{GivesNext}
use Rattle.policy_links.proofs.Walking.{Along, given_same, along_map, along_start, along_step, along_kind, along_end}
use Rattle.policy_check.specs.Inner.Sound.{Sound}
use Rattle.context.specs.Codes.{event_at}
use Rattle.constraints.specs.Constraints.{constrains}
use Rattle.plan_tables.proofs.SoundLaws.{meets}
use Rattle.plan_tables.specs.Inner.Groups.{equal, OnSide, Together, ConstraintGroups}

-- ---- truth values
equal_same : (a b : Bool) → equal a b ≡ true → a ≡ b
equal_same true b e = sym e
equal_same false true e = e
equal_same false false e = refl

same_equal : (a b : Bool) → a ≡ b → equal a b ≡ true
same_equal true b e = sym e
same_equal false true e = e
same_equal false false e = refl

-- ---- one side of a mask
pub in_mask : {group mask q : ℕ} → bit mask q ≡ true → OnSide group mask q (bit_and group mask)
in_mask {group} {mask} e = record { at = λ i. bit_and_lem group mask i ∙ ap (λ (b : Bool). bit group i && equal b (bit mask i)) (sym e) }

pub off_mask : {group mask q r : ℕ} → bit mask q ≡ false → Without group mask r → OnSide group mask q r
off_mask {group} {mask} e W = record { at = λ i. W.at i ∙ ap (λ (b : Bool). bit group i && equal b (bit mask i)) (sym e) }

pub side_same : {group group' mask q r : ℕ} → group' ≡ group → OnSide group mask q r → OnSide group' mask q r
side_same {mask = mask} {q} {r} e O = subst (λ (g : ℕ). OnSide g mask q r) (sym e) O

-- the entries of a class, wherever it starts
pub sides_at : {l l' : List ℕ} {mask first at : ℕ} → first ≡ at → Filled (λ q v. OnSide (get_or l (first + q) 0) mask q v) l l' first 0 32
    → Filled (λ q v. OnSide (get_or l (at + q) 0) mask q v) l l' at 0 32
sides_at {l} {l'} {mask} e F = subst (λ (k : ℕ). Filled (λ q v. OnSide (get_or l (k + q) 0) mask q v) l l' k 0 32) e F

-- every permission is in the mask of all
pub all_in_lem : (i : ℕ) → i < 32 → bit 4294967295 i ≡ true
unfolding bit
all_in_lem i h =
    subst (λ (k : ℕ). bit 4294967295 k ≡ true) (let e : i + 1 - 1 ≡ i = omega arith in e) (all_at (λ k. bit 4294967295 (k - 1)) 32 (i + 1) refl (omega arith) (omega arith))

-- ---- the table
abbrev Told : List ℕ → List ℕ → ℕ → Type 0
Told s l j =
    (c q i : ℕ) → c < 32 → q < 32 → i < 32 → bit (get_or l (32 * c + q) 0) i ≡ true
    → constrains (record_of s j) (event_at c q) ≡ constrains (record_of s j) (event_at c i)

pub record Grouping (s : List ℕ) (l : List ℕ) (it : Records) : Type 0 where
  pub size : length l ≡ 1024
  pub along : Along s Constraint (Told s l) it
  pub whole : (c q i : ℕ) → c < 32 → q < 32 → i < 32 → Together (policy_of s) c q i → bit (get_or l (32 * c + q) 0) i ≡ true

-- a mask tells the permissions of a class apart, and leaves the other classes
module _ (l l' : List ℕ) (class mask : ℕ) (F : Filled (λ q v. OnSide (get_or l (32 * class + q) 0) mask q v) l l' (32 * class) 0 32) where
  own : (q i : ℕ) → q < 32 → bit (get_or l' (32 * class + q) 0) i ≡ (bit (get_or l (32 * class + q) 0) i && equal (bit mask q) (bit mask i))
  own q i h = (F.here q (omega arith) h).at i

  others : (c q : ℕ) → q < 32 → (c ≡ class → ⊥) → get_or l' (32 * c + q) 0 ≡ get_or l (32 * c + q) 0
  others c q h d =
      ⊎_elim (λ (k : 32 * class ≤ 32 * c + q). F.above (32 * c + q) (omega (arith, d))) (λ (k : 32 * c + q < 32 * class). F.below (32 * c + q) (omega arith))
      (split_le (32 * class) (32 * c + q))

  fewer : (c q i : ℕ) → q < 32 → bit (get_or l' (32 * c + q) 0) i ≡ true → bit (get_or l (32 * c + q) 0) i ≡ true
  fewer c q i h b =
      ⊎_elim
      (λ (e : c ≡ class).
      subst (λ (k : ℕ). bit (get_or l (32 * k + q) 0) i ≡ true) (sym e)
      (and_first (bit (get_or l (32 * class + q) 0) i) (equal (bit mask q) (bit mask i)) (sym (own q i h) ∙ subst (λ (k : ℕ). bit (get_or l' (32 * k + q) 0) i ≡ true) e b)))
      (λ (d : c ≡ class → ⊥). ap (λ (v : ℕ). bit v i) (sym (others c q h d)) ∙ b)
      (split_eq c class)

  -- a constraint on the class with the mask
  told : (a m c q i : ℕ) → a ≡ class → m ≡ mask → q < 32 → bit (get_or l' (32 * c + q) 0) i ≡ true → (eqb a c && bit m q) ≡ (eqb a c && bit m i)
  told a m c q i ea em h b =
      ⊎_elim
      (λ (e : c ≡ class).
      let s : bit mask q ≡ bit mask i
      = equal_same (bit mask q) (bit mask i) (and_second (bit (get_or l (32 * class + q) 0) i) (equal (bit mask q) (bit mask i)) (sym (own q i h) ∙ subst (λ (k : ℕ). bit (get_or l' (32 * k + q) 0) i ≡ true) e b)) in
      ap (λ (z : Bool). eqb a c && z) (ap (λ (k : ℕ). bit k q) em ∙ s ∙ ap (λ (k : ℕ). bit k i) (sym em)))
      (λ (d : c ≡ class → ⊥).
      let n : eqb a c ≡ false = ne_eqb a c (λ z. d (sym z ∙ ea)) in
      ap (λ (z : Bool). z && bit m q) n ∙ sym (ap (λ (z : Bool). z && bit m i) n))
      (split_eq c class)

  -- what no constraint tells apart stays
  stays : (a m c q i : ℕ) → a ≡ class → m ≡ mask → q < 32 → (eqb a c && bit m q) ≡ (eqb a c && bit m i) → bit (get_or l (32 * c + q) 0) i ≡ true → bit (get_or l' (32 * c + q) 0) i ≡ true
  stays a m c q i ea em h s b =
      ⊎_elim
      (λ (e : c ≡ class).
      let y : eqb a c ≡ true = eq-eqb a c (ea ∙ sym e) in
      let t : bit m q ≡ bit m i = sym (ap (λ (z : Bool). z && bit m q) y) ∙ s ∙ ap (λ (z : Bool). z && bit m i) y in
      subst (λ (k : ℕ). bit (get_or l' (32 * k + q) 0) i ≡ true) (sym e)
      (own q i h ∙ and_true (bit (get_or l (32 * class + q) 0) i) (equal (bit mask q) (bit mask i)) (subst (λ (k : ℕ). bit (get_or l (32 * k + q) 0) i ≡ true) e b)
      (same_equal (bit mask q) (bit mask i) (ap (λ (k : ℕ). bit k q) (sym em) ∙ t ∙ ap (λ (k : ℕ). bit k i) em))))
      (λ (d : c ≡ class → ⊥). ap (λ (v : ℕ). bit v i) (others c q h d) ∙ b)
      (split_eq c class)

module _ (s : List ℕ) (S : Sound s) where
  pub grouping_start : {it : Records} → (it.image.now ≡ s) × (it.next ≡ policy_head s 8) → Grouping s (replicate 1024 4294967295) it
  grouping_start e =
      record {
        size = length-replicate {A = ℕ} 1024 4294967295;
        along = along_start s S.links Constraint _ e;
        whole = λ c q k lc lq lk _. ap (λ (v : ℕ). bit v k) (get_or-replicate {A = ℕ} 1024 (32 * c + q) 4294967295 0 (omega arith)) ∙ all_in_lem k lk;
      }

  module _ {l : List ℕ} {it it' : Records} {r : Record} (G : Grouping s l it) (g : GivesNext it r it') where
    -- the constraint's class has a number below 32
    pub few : r.a < 32
    few =
        let m = (meets s S 8 it.next (along_kind s S.links Constraint _ G.along g S.chains)).a.high in
        omega (arith, (given_same s G.along.image g).a, S.range.classes.high)

    pub grouping_step : (l' : List ℕ) → length l' ≡ length l → Filled (λ q v. OnSide (get_or l (32 * r.a + q) 0) r.mask q v) l l' (32 * r.a) 0 32
        → Grouping s l' it'
    grouping_step l' size F =
        let same = given_same s G.along.image g in
        let x = record_of s it.next in
        record {
          size = size ∙ G.size;
          along = along_step s S.links Constraint _
              (along_map s Constraint (Told s l) (Told s l') (λ j h c q k lc lq lk b. h c q k lc lq lk (fewer l l' r.a r.mask F c q k lq b)) G.along)
              g (λ c q k lc lq lk b. told l l' r.a r.mask F x.a x.mask c q k (sym same.a) (sym same.mask) lq b);
          whole = λ c q k lc lq lk T.
              let o = along_kind s S.links Constraint _ G.along g S.chains in
              stays l l' r.a r.mask F x.a x.mask c q k (sym same.a) (sym same.mask) lq (T.same it.next o.low o.high o.kind) (G.whole c q k lc lq lk T);
        }

  pub grouping_end : {l : List ℕ} {it : Records} → Grouping s l it → it.next ≡ 0 → ConstraintGroups (policy_of s) l
  grouping_end G z =
      record {
        sound = λ c q k lc lq lk b. record {
          same = λ j lo hi kind. along_end s S.links Constraint _ S.chains G.along z j (record { low = lo; high = hi; kind = kind }) c q k lc lq lk b;
        };
        whole = G.whole;
      }
