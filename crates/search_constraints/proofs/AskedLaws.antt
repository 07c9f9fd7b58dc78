-- What was asked of the constraints: the leaves that it is asked by, and that what has the same key has the same answer.
use Prim.Native.Nat.{ℕ, ◌+◌, ◌-◌, ◌*◌, ◌/◌, ◌%◌, ◌≤◌, ◌<◌}
use mathlib.Core.Path.{◌≡◌, refl, sym, ap, ap₂, subst, ◌∙◌}
use mathlib.Core.Bool.{Bool, true, false, cond}
use mathlib.Core.List.{List}
use mathlib.Core.Logic.{inl, ⊎_elim}
use native.Mathlib.Omega.{arith}
use borrow.Author.Tests.{eq-eqb, ne_eqb}
use lib.Arith.{digits_div, digits_mod}
use lib.Dec.{eqb}
use lib.ListN.{length, get_or, set, length-set, replicate, length-replicate}
use lib.Seq.{get_or-set_same, get_or-set_other}
use Rattle.base.specs.Bits.{bit}
use Rattle.base.specs.Inner.Fill.{Filled}
use Rattle.base.proofs.Numbers.{split_eq, zeros}
use Rattle.policy_image.specs.declared.counts.Counts.{Counts}
use Rattle.policy_image.specs.Policy.{Policy}
use Rattle.policy_expressions.specs.Nodes.{NodesInOrder}
use Rattle.context.specs.declared.Event.{Event}
use Rattle.context.specs.Codes.{event_of}
use Rattle.context.specs.Inner.Places.{pair_count, role_at, user_at}
use Rattle.constraints.specs.Constraints.{constraints_hold}
use Rattle.constraints.specs.Inner.Words.{Word, leaf_entries, role_words_at, user_words_at, SideOf, LeavesOf, SidePut, EventWord}
use Rattle.constraints.proofs.LeafLaws.{side_keep, side_less}
use Rattle.search_constraints.specs.declared.asked.Ask.{Ask}
use Rattle.search_constraints.specs.Inner.Pairs.{RowsOf, told_of, Marked}
use Rattle.search_constraints.specs.Inner.Asked.{side_of, way_of, Askable, pair_at, target_at, acting_at, acted_at, AskLeaves, AskedWord, ask_key, AskedBefore}
use Rattle.search_constraints.proofs.MarkLaws.{told_high, Like, constraints_like}

-- ---- the words of 64 pairs
module _ {n : Counts} {rows : List ℕ} (R : RowsOf n rows) (w : ℕ) {m : ℕ} (few : m ≤ 64) (have : 64 * w + m ≤ pair_count n) where
  pub row_role : (b : ℕ) → b < 16 → Word m (λ j. eqb (role_at n (64 * w + j)) b) (get_or rows (32 * w + b) 0)
  row_role b h =
      record {
        at = λ j l.
            ap₂ (λ (i k : ℕ). bit (get_or rows (32 * i + b) 0) k) (let e : w ≡ (64 * w + j) / 64 = omega arith in e) (let e : j ≡ (64 * w + j) % 64 = omega arith in e)
            ∙ R.role (64 * w + j) b (omega arith) h;
      }

  row_user : (b : ℕ) → b < 16 → Word m (λ j. eqb (user_at n (64 * w + j)) b) (get_or rows (32 * w + 16 + b) 0)
  row_user b h =
      record {
        at = λ j l.
            ap₂ (λ (i k : ℕ). bit (get_or rows (32 * i + 16 + b) 0) k) (let e : w ≡ (64 * w + j) / 64 = omega arith in e) (let e : j ≡ (64 * w + j) % 64 = omega arith in e)
            ∙ R.user (64 * w + j) b (omega arith) h;
      }

  -- on a side of the leaves
  pairs_put : {old new : List ℕ} {s ty : ℕ} → length old ≡ leaf_entries → s < 2 → Filled (λ i v. v ≡ get_or rows (32 * w + i) 0) (set old s ty) new (role_words_at s) 0 32
      → SidePut old new s m (λ j. pair_at n ty (64 * w + j))
  pairs_put {old} {new} {s} {ty} size ls F =
      record {
        side = record {
          type = λ j h. sym (F.below s (omega arith) ∙ get_or-set_same old s ty 0 (omega arith));
          role = λ b h. subst (Word m (λ j. eqb (role_at n (64 * w + j)) b)) (sym (F.here b (omega arith) (omega arith))) (row_role b h);
          user = λ b h.
              subst (Word m (λ j. eqb (user_at n (64 * w + j)) b))
              (ap (λ (i : ℕ). get_or rows i 0) (let e : 32 * w + 16 + b ≡ 32 * w + (16 + b) = omega arith in e) ∙ sym (F.here (16 + b) (omega arith) (omega arith))
              ∙ ap (λ (i : ℕ). get_or new i 0) (let e : role_words_at s + (16 + b) ≡ user_words_at s + b = omega arith in e)) (row_user b h);
        };
        kept = λ i d o. ⊎_elim
            (λ (a : i < role_words_at s). F.below i (omega arith) ∙ get_or-set_other old s i ty 0 d)
            (λ (a : role_words_at s + 32 ≤ i). F.above i (omega arith) ∙ get_or-set_other old s i ty 0 d) o;
      }

eqb_turn : (a b : ℕ) → eqb a b ≡ eqb b a
eqb_turn a b = ⊎_elim (λ (q : a ≡ b). eq-eqb a b q ∙ sym (eq-eqb b a (sym q))) (λ (d : a ≡ b → ⊥). ne_eqb a b d ∙ sym (ne_eqb b a (λ e. d (sym e)))) (split_eq a b)

word_turn : {m r : ℕ} (f g : ℕ → ℕ) → Word m (λ j. eqb (f j) (g j)) r → Word m (λ j. eqb (g j) (f j)) r
word_turn f g W = record { at = λ j h. W.at j h ∙ eqb_turn (f j) (g j) }

side_few : (b : Bool) → side_of b < 2
side_few true = omega arith
side_few false = omega arith

-- the leaves, after the two words that compare, x's side and the other are written
module _ {rows l1 l2 : List ℕ} {a : Ask} (A : Askable a) (l : List ℕ) (size : length l ≡ leaf_entries) {own other : ℕ}
    (X : SidePut (set (set l 2 (get_or rows (32 * a.word + a.x.role) 0)) 3 (get_or rows (32 * a.word + 16 + a.x.user) 0)) l1 own 64 (λ _. a.x)) (full : length l1 ≡ leaf_entries)
    (mine : own ≡ side_of a.acts) (theirs : other ≡ 1 - own) (Y : Filled (λ i v. v ≡ get_or rows (32 * a.word + i) 0) (set l1 other a.ty) l2 (role_words_at other) 0 32) where
  pub ask_leaves : AskLeaves rows a l2
  ask_leaves = record { of = λ n R m few have. go n R m few have a.acts refl }
    where
      role_word : ℕ
      role_word = get_or rows (32 * a.word + a.x.role) 0

      user_word : ℕ
      user_word = get_or rows (32 * a.word + 16 + a.x.user) 0

      l0 : List ℕ
      l0 = set (set l 2 role_word) 3 user_word

      role : get_or l0 2 0 ≡ role_word
      role = get_or-set_other (set l 2 role_word) 3 2 user_word 0 (λ e. let z : ⊥ = omega arith in z) ∙ get_or-set_same l 2 role_word 0 (omega arith)

      user : get_or l0 3 0 ≡ user_word
      user = get_or-set_same (set l 2 role_word) 3 user_word 0 (simp length-set (omega arith))

      own_few : own < 2
      own_few = let h = side_few a.acts in omega arith

      -- by whether x acts
      go : (n : Counts) → RowsOf n rows → (m : ℕ) → m ≤ 64 → 64 * a.word + m ≤ pair_count n → (b : Bool) → a.acts ≡ b → LeavesOf l2 m (acting_at n a) (acted_at n a)
      go n R m few have b e = subst (λ (c : Bool). LeavesOf l2 m (λ j. cond c a.x (target_at n a j)) (λ j. cond c (target_at n a j) a.x)) (sym e) (by b e)
        where
          put : SidePut l1 l2 other m (λ j. target_at n a j)
          put = pairs_put R a.word few have full (let h = own_few in omega arith) Y

          apart : own ≡ other → ⊥
          apart q = let h = own_few in let z : ⊥ = omega arith in z

          kept : SideOf l2 own m (λ _. a.x)
          kept = side_less few (side_keep own_few (let h = own_few in omega arith) apart put X.side)

          word : (i : ℕ) → 2 ≤ i → i < 4 → get_or l2 i 0 ≡ get_or l0 i 0
          word i lo hi = let h = own_few in put.kept i (λ q. let z : ⊥ = omega arith in z) (inl (omega arith)) ∙ X.kept i (λ q. let z : ⊥ = omega arith in z) (inl (omega arith))

          roles : Word m (λ j. eqb (role_at n (64 * a.word + j)) a.x.role) (get_or l2 2 0)
          roles = subst (Word m (λ j. eqb (role_at n (64 * a.word + j)) a.x.role)) (sym (word 2 (omega arith) (omega arith) ∙ role)) (row_role R a.word few have a.x.role A.role)

          users : Word m (λ j. eqb (user_at n (64 * a.word + j)) a.x.user) (get_or l2 3 0)
          users = subst (Word m (λ j. eqb (user_at n (64 * a.word + j)) a.x.user)) (sym (word 3 (omega arith) (omega arith) ∙ user)) (row_user R a.word few have a.x.user A.user)

          by : (b : Bool) → a.acts ≡ b → LeavesOf l2 m (λ j. cond b a.x (target_at n a j)) (λ j. cond b (target_at n a j) a.x)
          by true e =
              record {
                few = few;
                acting = subst (λ (s : ℕ). SideOf l2 s m (λ _. a.x)) (mine ∙ ap side_of e) kept;
                acted = subst (λ (s : ℕ). SideOf l2 s m (λ j. target_at n a j)) (theirs ∙ ap (λ (k : ℕ). 1 - k) (mine ∙ ap side_of e)) put.side;
                same_role = word_turn (λ j. role_at n (64 * a.word + j)) (λ _. a.x.role) roles;
                same_user = word_turn (λ j. user_at n (64 * a.word + j)) (λ _. a.x.user) users;
              }
          by false e =
              record {
                few = few;
                acting = subst (λ (s : ℕ). SideOf l2 s m (λ j. target_at n a j)) (theirs ∙ ap (λ (k : ℕ). 1 - k) (mine ∙ ap side_of e)) put.side;
                acted = subst (λ (s : ℕ). SideOf l2 s m (λ _. a.x)) (mine ∙ ap side_of e) kept;
                same_role = roles;
                same_user = users;
              }

-- the word of all constraints, as what was asked
pub asked_fresh : {p : Policy} {a : Ask} {rows l : List ℕ} {e : Event} {r : ℕ} → RowsOf p.counts rows → AskLeaves rows a l → e ≡ event_of a.event → EventWord p e l r → AskedWord p a r
asked_fresh {p} {a} {l = l} {r = r} R L q W =
    record {
      at = λ j h k.
          subst (λ (i : Event). bit r j ≡ constraints_hold p i (acting_at p.counts a j) (acted_at p.counts a j)) q
          ((W.of (j + 1) (acting_at p.counts a) (acted_at p.counts a) (L.of p.counts R (j + 1) (omega arith) (omega arith))).at j (omega arith));
    }

-- ---- what has the same key
way_same : (a b : Bool) → way_of a ≡ way_of b → a ≡ b
way_same true true e = refl
way_same true false e = absurd (omega arith)
way_same false true e = absurd (omega arith)
way_same false false e = refl

way_few : (b : Bool) → way_of b < 2
way_few true = omega arith
way_few false = omega arith

record SameKey (marks : List ℕ) (a b : Ask) : Type 0 where
  event : a.event ≡ b.event
  word : a.word ≡ b.word
  acts : a.acts ≡ b.acts
  own : Like marks a.x b.x
  type : told_of marks 0 a.ty ≡ told_of marks 0 b.ty

-- two numbers by a last digit
digit_same : (k a u b v : ℕ) → u < k → v < k → a * k + u ≡ b * k + v → (a ≡ b) × (u ≡ v)
digit_same k a u b v lu lv e = (sym (digits_div a lu) ∙ ap (λ (i : ℕ). i / k) e ∙ digits_div b lv, sym (digits_mod a lu) ∙ ap (λ (i : ℕ). i % k) e ∙ digits_mod b lv)

-- what is told is small
told_few : (marks : List ℕ) (sort v n : ℕ) → v < n → told_of marks sort v < n + 1
told_few marks sort v n h = let t = told_high marks sort v in omega arith

module _ {marks : List ℕ} {a b : Ask} (A : Askable a) (B : Askable b) (e : ask_key marks a ≡ ask_key marks b) where
  same_key : SameKey marks a b
  same_key =
      let ta = told_few marks 0 a.x.ty 256 A.type in
      let tb = told_few marks 0 b.x.ty 256 B.type in
      let oa = told_few marks 0 a.ty 256 A.other in
      let ob = told_few marks 0 b.ty 256 B.other in
      let ra = told_few marks 256 a.x.role 16 A.role in
      let rb = told_few marks 256 b.x.role 16 B.role in
      let ua = told_few marks 512 a.x.user 16 A.user in
      let ub = told_few marks 512 b.x.user 16 B.user in
      let wa = way_few a.acts in
      let wb = way_few b.acts in
      let what : Ask → ℕ = λ z. 8 * z.event + 4 * way_of z.acts + z.word in
      let types : Ask → ℕ = λ z. 512 * told_of marks 0 z.x.ty + told_of marks 0 z.ty in
      let pair : Ask → ℕ = λ z. 32 * told_of marks 256 z.x.role + told_of marks 512 z.x.user in
      let D = digit_same 1024 (262144 * what a + types a) (pair a) (262144 * what b + types b) (pair b) (omega arith) (omega arith) (omega arith) in
      let E = digit_same 262144 (what a) (types a) (what b) (types b) (omega arith) (omega arith) (omega (arith, D.0)) in
      let F = digit_same 4 (2 * a.event + way_of a.acts) a.word (2 * b.event + way_of b.acts) b.word A.word B.word (omega (arith, E.0)) in
      let G = digit_same 2 a.event (way_of a.acts) b.event (way_of b.acts) wa wb (omega (arith, F.0)) in
      let T = digit_same 512 (told_of marks 0 a.x.ty) (told_of marks 0 a.ty) (told_of marks 0 b.x.ty) (told_of marks 0 b.ty) (omega arith) (omega arith) (omega (arith, E.1)) in
      let U = digit_same 32 (told_of marks 256 a.x.role) (told_of marks 512 a.x.user) (told_of marks 256 b.x.role) (told_of marks 512 b.x.user) (omega arith) (omega arith) (omega (arith, D.1)) in
      record { event = G.0; word = F.1; acts = way_same a.acts b.acts G.1; own = record { type = T.0; role = U.0; user = U.1 }; type = T.1 }

  -- the answers are the same
  same_answer : {p : Policy} {r : ℕ} → NodesInOrder p → Marked p marks → AskedWord p a r → AskedWord p b r
  same_answer {p} {r} N M W =
      record {
        at = λ j h k.
            W.at j h (subst (λ (w : ℕ). 64 * w + j < pair_count p.counts) (sym same_key.word) k)
            ∙ ap (λ (i : ℕ). constraints_hold p (event_of i) (acting_at p.counts a j) (acted_at p.counts a j)) same_key.event
            ∙ by j a.acts b.acts same_key.acts;
      }
    where
      target : (j : ℕ) → Like marks (target_at p.counts a j) (target_at p.counts b j)
      target j =
          record {
            type = same_key.type;
            role = ap (λ (w : ℕ). told_of marks 256 (role_at p.counts (64 * w + j))) same_key.word;
            user = ap (λ (w : ℕ). told_of marks 512 (user_at p.counts (64 * w + j))) same_key.word;
          }

      by : (j : ℕ) (c d : Bool) → c ≡ d
          → constraints_hold p (event_of b.event) (cond c a.x (target_at p.counts a j)) (cond c (target_at p.counts a j) a.x)
          ≡ constraints_hold p (event_of b.event) (cond d b.x (target_at p.counts b j)) (cond d (target_at p.counts b j) b.x)
      by j true true e' = constraints_like same_key.own (target j) N M (event_of b.event)
      by j false false e' = constraints_like (target j) same_key.own N M (event_of b.event)
      by j true false e' = let z : ◌≡◌ {A = ℕ} 0 1 = cc in absurd (omega arith)
      by j false true e' = let z : ◌≡◌ {A = ℕ} 0 1 = cc in absurd (omega arith)

-- ---- what is remembered
pub before_begin : (p : Policy) (marks : List ℕ) → AskedBefore p marks (replicate 2048 0)
before_begin p marks =
    record {
      size = length-replicate {A = ℕ} 2048 0;
      at = λ i a h A e. absurd (let z = zeros 2048 i in omega arith);
    }

pub before_more : {p : Policy} {marks memo : List ℕ} {a : Ask} {key slot r : ℕ} → NodesInOrder p → Marked p marks → Askable a → AskedBefore p marks memo → AskedWord p a r → key ≡ ask_key marks a
    → slot < 1024 → AskedBefore p marks (set (set memo slot key) (1024 + slot) r)
before_more {p} {marks} {memo} {a} {key} {slot} {r} N M A R W q h =
    record {
      size = simp length-set R.size;
      at = λ i b l B e. ⊎_elim (here i b l B e) (there i b l B e) (split_eq i slot);
    }
  where
    new : List ℕ
    new = set (set memo slot key) (1024 + slot) r

    long : length (set memo slot key) ≡ 2048
    long = simp length-set R.size

    key_at_lem : (i : ℕ) → i < 1024 → get_or new i 0 ≡ get_or (set memo slot key) i 0
    key_at_lem i l = get_or-set_other (set memo slot key) (1024 + slot) i r 0 (λ e. let z : ⊥ = omega arith in z)

    here : (i : ℕ) (b : Ask) → i < 1024 → Askable b → get_or new i 0 ≡ ask_key marks b → i ≡ slot → AskedWord p b (get_or new (1024 + i) 0)
    here i b l B e s =
        subst (AskedWord p b) (sym (ap (λ (k : ℕ). get_or new (1024 + k) 0) s ∙ get_or-set_same (set memo slot key) (1024 + slot) r 0 (omega (arith, long))))
        (same_answer A B (sym q ∙ sym (get_or-set_same memo slot key 0 (omega (arith, R.size))) ∙ ap (λ (k : ℕ). get_or (set memo slot key) k 0) (sym s) ∙ sym (key_at_lem i l) ∙ e) N M W)

    there : (i : ℕ) (b : Ask) → i < 1024 → Askable b → get_or new i 0 ≡ ask_key marks b → (i ≡ slot → ⊥) → AskedWord p b (get_or new (1024 + i) 0)
    there i b l B e d =
        subst (AskedWord p b)
        (sym (get_or-set_other (set memo slot key) (1024 + slot) (1024 + i) r 0 (λ z. d (omega arith)) ∙ get_or-set_other memo slot (1024 + i) key 0 (λ z. let y : ⊥ = omega arith in y)))
        (R.at i b l B (sym (get_or-set_other memo slot i key 0 d) ∙ sym (key_at_lem i l) ∙ e))
