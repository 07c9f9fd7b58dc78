-- Items that become entries one after the other, in the order of their codes: what the entries have of the first i of them.
use mathlib.Core.Path.{◌≡◌, sym, ◌∙◌, ap, subst}
use mathlib.Core.Bool.{true, cond}
use mathlib.Core.Logic.{⊎_elim}
use mathlib.Core.List.{List}
use Prim.Native.Nat.{ℕ, ◌+◌, ◌-◌, ◌≤◌, ◌<◌}
use native.Mathlib.Omega.{arith}
use borrow.Author.Tests.{ltb-true, lt-ltb, le-ltb}
use lib.Bits.{bit_or}
use lib.Dec.{ltb}
use lib.ListN.{length, get_or, set, take, get_or-eq_default}
use Rattle.std.proofs.lemmas.List.{get_or-take, length-take}
use lib.Seq.{get_or-set_same, get_or-set_other}
use Rattle.base.specs.Bits.{bit}
use Rattle.base.proofs.Numbers.{split_eq, split_le, below_or}
use Rattle.sorting.specs.Inner.Order.{Ordered}
use Rattle.sorting.specs.Inner.Entries.{code_in, HasCode, Gives, Bears, RisingKeys, CodesRise, Placed, EntryKeys, Unites}
use Rattle.sorting.proofs.MaskLaws.{bit_or_cases, bit_or_left, bit_or_right, bit_where, bit_there}

-- ---- where the entry of a code belongs
module _ {keys : List ℕ} {m code : ℕ} (R : CodesRise keys m code) (some : m ≡ 0 → ⊥) where
  pub placed_last : get_or keys (m - 1) 0 ≡ code → Placed keys m code (m - 1)
  placed_last e =
      record {
        low = omega (arith, some);
        high = omega arith;
        same = λ l. e;
        below = λ j l. omega (arith, R.sorted.rising j (m - 1) (omega arith) l (omega (arith, some)));
      }

  pub placed_next : (get_or keys (m - 1) 0 ≡ code → ⊥) → Placed keys m code m
  placed_next n =
      record {
        low = omega arith;
        high = omega arith;
        same = λ l. absurd (omega arith);
        below = λ j l.
            let most = R.most (m - 1) (omega (arith, some)) in
            ⊎_elim (λ (e : j ≡ m - 1). omega (arith, n, ap (λ (x : ℕ). get_or keys x 0) e))
            (λ (d : j ≡ m - 1 → ⊥). omega (arith, n, R.sorted.rising j (m - 1) (omega arith) (omega (arith, d)) (omega (arith, some)))) (split_eq j (m - 1));
      }

-- ---- the entries so far are the first m of a list
taken_length : (keys : List ℕ) (m : ℕ) → m ≤ length keys → length (take m keys) ≡ m
taken_length keys m room = omega (arith, length-take m keys)

pub codes_taken : {keys : List ℕ} {m code : ℕ} → m ≤ length keys → CodesRise keys m code → CodesRise (take m keys) (length (take m keys)) code
codes_taken {keys} {m} room R =
    rw (taken_length keys m room)
    (record {
      sorted = record { rising = λ i j a l h. rw (get_or-take m keys i 0 (omega arith), get_or-take m keys j 0 h) (R.sorted.rising i j a l h) };
      most = λ j l. rw (get_or-take m keys j 0 l) (R.most j l);
    })

pub placed_taken : {keys : List ℕ} {m code r : ℕ} → m ≤ length keys → Placed (take m keys) (length (take m keys)) code r → Placed keys m code r
placed_taken {keys} {m} {r = r} room P =
    let e = taken_length keys m room in
    record {
      low = omega (arith, P.low);
      high = omega (arith, P.high);
      same = λ l. omega (arith, get_or-take m keys r 0 l, P.same (omega arith));
      below = λ j l. omega (arith, get_or-take m keys j 0 (omega (arith, P.high)), P.below j l);
    }

pub mask_taken : (masks : List ℕ) (m at : ℕ) → get_or (take m masks) at 0 ≡ cond (ltb at m) (get_or masks at 0) 0
mask_taken masks m at =
    ⊎_elim (λ (h : m ≤ at). rw (le-ltb at m h) (get_or-eq_default (take m masks) 0 (omega (arith, length-take m masks))))
    (λ (l : at < m). rw (lt-ltb at m l, get_or-take m masks at 0 l)) (split_le m at)

-- what an entry's mask becomes
abbrev pub joined : List ℕ → ℕ → ℕ → ℕ → ℕ
joined masks m r w = bit_or (cond (ltb r m) (get_or masks r 0) 0) w

gives_more : {code give : ℕ → ℕ} {i k q : ℕ} → Gives code give i k q → Gives code give (i + 1) k q
gives_more g = record { at = g.at; below = omega (arith, g.below); same = g.same; bears = g.bears }

-- item i goes to the entry at r
module _ (code : ℕ → ℕ) (i : ℕ) {keys : List ℕ} {m r : ℕ} (P : Placed keys m (code i) r) (room : r < length keys) where
  abbrev keys' : List ℕ
  keys' = set keys r (code i)

  key_at_lem : get_or keys' r 0 ≡ code i
  key_at_lem = get_or-set_same keys r (code i) 0 room

  key_off : (j : ℕ) → j < r → get_or keys' j 0 ≡ get_or keys j 0
  key_off j l = get_or-set_other keys r j (code i) 0 (λ e. omega arith)

  sorted_more : RisingKeys keys 0 m → RisingKeys keys' 0 (r + 1)
  sorted_more S =
      record {
        rising = λ a b low l h.
            ⊎_elim (λ (e : b ≡ r). rw (e, key_at_lem, key_off a (omega arith)) (P.below a (omega arith)))
            (λ (l' : b < r). rw (key_off a (omega arith), key_off b l') (S.rising a b low l (omega (arith, P.high)))) (below_or h);
      }

  coded_more : ((j : ℕ) → j < m → HasCode code i (get_or keys j 0)) → (j : ℕ) → j < r + 1 → HasCode code (i + 1) (get_or keys' j 0)
  coded_more C j l =
      ⊎_elim (λ (e : j ≡ r). record { at = i; below = omega arith; same = sym (ap (λ (x : ℕ). get_or keys' x 0) e ∙ key_at_lem) })
      (λ (l' : j < r).
      let c = C j (omega (arith, P.high)) in
      record { at = c.at; below = omega (arith, c.below); same = c.same ∙ sym (key_off j l') }) (below_or l)

  every_more : ((x : ℕ) → x < i → HasCode (code_in keys) m (code x)) → (x : ℕ) → x < i + 1 → HasCode (code_in keys') (r + 1) (code x)
  every_more E x l =
      ⊎_elim (λ (e : x ≡ i). record { at = r; below = omega arith; same = key_at_lem ∙ ap code (sym e) })
      (λ (l' : x < i).
      let c = E x l' in
      ⊎_elim
      (λ (e : c.at ≡ r).
      let f = P.same (omega (arith, e, c.below)) in
      record { at = r; below = omega arith; same = key_at_lem ∙ sym f ∙ ap (code_in keys) (sym e) ∙ c.same })
      (λ (d : c.at ≡ r → ⊥).
      record { at = c.at; below = omega (arith, d, c.below, P.low); same = key_off c.at (omega (arith, d, c.below, P.low)) ∙ c.same })
      (split_eq c.at r)) (below_or l)

  pub keys_more : EntryKeys code i keys m → EntryKeys code (i + 1) keys' (r + 1)
  keys_more K =
      record {
        few = omega (arith, P.high, K.few);
        sorted = sorted_more K.sorted;
        coded = coded_more K.coded;
        every = every_more K.every;
      }

  module _ (give : ℕ → ℕ) (masks : List ℕ) (room' : r < length masks) (U : Unites code give i keys masks m) where
    abbrev masks' : List ℕ
    masks' = set masks r (joined masks m r (give i))

    mask_at : get_or masks' r 0 ≡ joined masks m r (give i)
    mask_at = get_or-set_same masks r (joined masks m r (give i)) 0 room'

    mask_off : (j : ℕ) → (j ≡ r → ⊥) → get_or masks' j 0 ≡ get_or masks j 0
    mask_off j n = get_or-set_other masks r j (joined masks m r (give i)) 0 n

    -- what stands at r is of item i, or stood there
    here : (k q : ℕ) → k ≡ code i → bit (joined masks m r (give i)) q ≡ true → Gives code give (i + 1) k q
    here k q e h =
        ⊎_elim
        (λ o.
        let w = bit_where (ltb r m) (get_or masks r 0) q o in
        let l = ltb-true r m w.0 in
        gives_more (U.sound k q (record { place = r; low = omega arith; high = l; key = P.same l ∙ sym e; bears = w.1 })))
        (λ b. record { at = i; below = omega arith; same = sym e; bears = b }) (bit_or_cases (cond (ltb r m) (get_or masks r 0) 0) (give i) q h)

    -- an entry stays
    stays : (k q : ℕ) → Bears keys masks 0 m k q → Bears keys' masks' 0 (r + 1) k q
    stays k q b =
        let j : ℕ = b.place in
        let l = b.high in
        ⊎_elim
        (λ (e : j ≡ r).
        let l' : r < m = omega arith in
        record {
          place = r;
          low = omega arith;
          high = omega arith;
          key = key_at_lem ∙ sym (P.same l') ∙ ap (λ (x : ℕ). get_or keys x 0) (sym e) ∙ b.key;
          bears = rw mask_at (bit_or_left (cond (ltb r m) (get_or masks r 0) 0) (give i) q
              (bit_there (get_or masks r 0) q (lt-ltb r m l') (subst (λ (x : ℕ). bit (get_or masks x 0) q ≡ true) e b.bears)));
        })
        (λ n. record {
          place = j;
          low = omega arith;
          high = omega (arith, P.low);
          key = key_off j (omega (arith, P.low, n)) ∙ b.key;
          bears = rw (mask_off j n) b.bears;
        }) (split_eq j r)

    pub unites_more : Unites code give (i + 1) keys' masks' (r + 1)
    unites_more =
        record {
          sound = λ k q b.
              ⊎_elim
              (λ (e : b.place ≡ r).
              here k q (sym b.key ∙ ap (λ (x : ℕ). get_or keys' x 0) e ∙ key_at_lem)
              (subst (λ (x : ℕ). bit x q ≡ true) (ap (λ (x : ℕ). get_or masks' x 0) e ∙ mask_at) b.bears))
              (λ (l : b.place < r).
              gives_more (U.sound k q (record {
                place = b.place;
                low = omega arith;
                high = omega (arith, P.high);
                key = sym (key_off b.place l) ∙ b.key;
                bears = subst (λ (x : ℕ). bit x q ≡ true) (mask_off b.place (λ e. omega arith)) b.bears;
              }))) (below_or b.high);
          whole = λ k q g.
              ⊎_elim
              (λ (e : g.at ≡ i). record {
                place = r;
                low = omega arith;
                high = omega arith;
                key = key_at_lem ∙ ap code (sym e) ∙ g.same;
                bears = rw mask_at (bit_or_right (cond (ltb r m) (get_or masks r 0) 0) (give i) q (subst (λ (x : ℕ). bit (give x) q ≡ true) e g.bears));
              })
              (λ (l : g.at < i). stays k q (U.whole k q (record { at = g.at; below = l; same = g.same; bears = g.bears }))) (below_or g.below);
        }

pub keys_none : (code : ℕ → ℕ) (keys : List ℕ) → EntryKeys code 0 keys 0
keys_none code keys =
    record {
      few = omega arith;
      sorted = record { rising = λ a b low l h. absurd (omega arith) };
      coded = λ j l. absurd (omega arith);
      every = λ x l. absurd (omega arith);
    }

pub unites_none : (code give : ℕ → ℕ) (keys masks : List ℕ) → Unites code give 0 keys masks 0
unites_none code give keys masks = record { sound = λ k q b. absurd (omega (arith, b.high)); whole = λ k q g. absurd (omega (arith, g.below)) }

-- ---- the items in the order of their codes
module _ {codes : List ℕ} {n : ℕ} {order : List ℕ} (O : Ordered codes n order) where
  abbrev in_order : ℕ → ℕ
  in_order x = code_in codes (get_or order x 0)

  -- the codes of the entries are none above that of the next item
  pub rising_at : {i : ℕ} {keys : List ℕ} {m : ℕ} → EntryKeys in_order i keys m → i < n → CodesRise keys m (code_in codes (get_or order i 0))
  rising_at {i = i} K l =
      record {
        sorted = K.sorted;
        most = λ j h.
            let c = K.coded j h in
            ⊎_elim (λ b. omega (arith, b, c.same)) (λ b. omega (arith, b.0, c.same)) (O.rising c.at i c.below l);
      }

  pub keys_all : {keys : List ℕ} {m : ℕ} → EntryKeys in_order n keys m → EntryKeys (code_in codes) n keys m
  keys_all {keys} {m} K =
      record {
        few = K.few;
        sorted = K.sorted;
        coded = λ j l. let c = K.coded j l in record { at = get_or order c.at 0; below = O.below c.at c.below; same = c.same };
        every = λ x l. let s = O.every x l in subst (λ (y : ℕ). HasCode (code_in keys) m (code_in codes y)) s.same (K.every s.at s.low);
      }

  module _ {give : ℕ → ℕ} {k q : ℕ} where
    gives_all : Gives in_order (λ x. give (get_or order x 0)) n k q → Gives (code_in codes) give n k q
    gives_all g = record { at = get_or order g.at 0; below = O.below g.at g.below; same = g.same; bears = g.bears }

    gives_along : Gives (code_in codes) give n k q → Gives in_order (λ x. give (get_or order x 0)) n k q
    gives_along g =
        let s = O.every g.at g.below in
        record {
          at = s.at;
          below = s.low;
          same = ap (code_in codes) s.same ∙ g.same;
          bears = subst (λ (x : ℕ). bit (give x) q ≡ true) (sym s.same) g.bears;
        }

  pub unites_all : {give : ℕ → ℕ} {keys masks : List ℕ} {m : ℕ} → Unites in_order (λ x. give (get_or order x 0)) n keys masks m → Unites (code_in codes) give n keys masks m
  unites_all U = record { sound = λ k q b. gives_all (U.sound k q b); whole = λ k q g. U.whole k q (gives_along g) }
