-- Words of pairs of a role and a user: of which the constraints and the role rule hold, to which a step leads, and the first pair of a set.
use Prim.Native.Nat.{ℕ, ◌+◌, ◌-◌, ◌*◌, ◌/◌, ◌%◌, ◌^◌, ◌≤◌, ◌<◌}
use mathlib.Core.Bool.{Bool, true, false, ◌&&◌, ◌||◌, cond}
use mathlib.Core.List.{List}
use mathlib.Core.Logic.{◌⊎◌, inl, inr, ⊎_elim}
use mathlib.Core.Path.{◌≡◌, refl, sym, ap, ap₂, subst, ◌∙◌}
use native.Mathlib.Nat.{div-lt_iff_lt-mul, div-le_self}
use native.Mathlib.Omega.{arith}
use borrow.Author.Tests.{eq-eqb, ne_eqb, lt-ltb, le-ltb}
use lib.Bits.{bit_and, bit_or}
use lib.Count.{count_trailing_zeros}
use lib.Dec.{eqb, ltb}
use lib.ListN.{get_or, set, length-set, replicate, length-replicate}
use lib.Seq.{get_or-set_same, get_or-set_other}
use Rattle.base.specs.Bits.{bit}
use Rattle.base.specs.Inner.Masks.{Lowest}
use Rattle.base.proofs.BitLaws.{bit_and_lem, bit_or_lem, bit_shr, bit_above, bit_zero}
use Rattle.base.proofs.BoolLaws.{or_true, or_none, and_no, and_first, clash}
use Rattle.base.proofs.LowestLaws.{lowest_has, lowest_first}
use Rattle.base.proofs.Numbers.{split_eq, split_le, zeros}
use Rattle.policy_image.specs.declared.counts.Counts.{Counts}
use Rattle.policy_image.specs.Policy.{Policy, policy_of}
use Rattle.policy_image.specs.Inner.Counting.{counting}
use Rattle.constraints.proofs.CountedLaws.{constraints_counted}
use Rattle.policy_check.specs.Inner.Sound.{Sound}
use Rattle.context.specs.declared.Context.{Context}
use Rattle.context.specs.Codes.{event_at, event_of, is_transition}
use Rattle.context.specs.Ranges.{ContextInRange}
use Rattle.context.specs.Inner.Places.{pair_count, role_at}
use Rattle.context.proofs.CodeLaws.{event_code_of, transition_code_lem}
use Rattle.constraints.specs.Constraints.{constraints_hold}
use Rattle.constraints.proofs.WordLaws.{all_bits_lem}
use Rattle.access.specs.Authorization.{flow}
use Rattle.access.proofs.RoleLaws.{may_become, rule_free, rule_asked}
use Rattle.goal_model.specs.Images.{meetsρμ}
use Rattle.plan.specs.Inner.Entries.{groups_at, writes_at, reads_at}
use Rattle.plan.specs.Inner.Plan.{Tabled, Grouped, ruled}
use Rattle.search_constraints.specs.declared.asked.Ask.{Ask}
use Rattle.search_constraints.specs.Inner.Pairs.{RowsOf}
use Rattle.search_constraints.specs.Inner.Asked.{Askable, AskedWord, AskedBefore, pair_at, acting_at, acted_at}
use Rattle.search_constraints.proofs.AskedLaws.{row_role}
use Rattle.search_steps.specs.Inner.Pairs.{in_pairs, InGroup, LikeEvent, changes_to, RuleWord, WayWord, StepWord, StepPairs, NextPair, Asking}
use Rattle.search_steps.specs.Inner.Steps.{Facing}
use Rattle.search_steps.proofs.FlowLaws.{conditions}
use Rattle.search_steps.proofs.AlikeLaws.{constraints_alike}
use Rattle.search_steps.proofs.OfferLaws.{flow_of, plain_flow, event_few}

-- ---- an event with the same constraints
pub like_own : {plan : List ℕ} {e : ℕ} → e < 1024 → LikeEvent plan e e
like_own h = record { few = h; like = inl refl }

pub like_lowest : {plan : List ℕ} {e r : ℕ} → e < 1024 → Lowest (groups_at plan e) r → LikeEvent plan e (32 * (e / 32) + r)
like_lowest h L = let s = L.small in record { few = omega arith; like = inr (record { perm = _; small = s; has = L.has; is = refl }) }

module _ {p : Policy} {plan : List ℕ} (G : Grouped p plan) {e r : ℕ} (h : e < 1024) (L : LikeEvent plan e r) (x y : Context) where
  in_group : InGroup plan e r → constraints_hold p (event_of r) x y ≡ constraints_hold p (event_of e) x y
  in_group I =
      let s = I.small in
      let i = I.is in
      let own : 32 * (e / 32) + e % 32 ≡ e = omega arith in
      let class : r / 32 ≡ e / 32 = omega arith in
      let perm : r % 32 ≡ I.perm = omega arith in
      let T = G.sound (e / 32) (e % 32) I.perm (omega arith) (omega arith) s (ap (λ (k : ℕ). bit (groups_at plan k) I.perm) own ∙ I.has) in
      ap₂ (λ (c q : ℕ). constraints_hold p (event_at c q) x y) class perm
      ∙ sym (constraints_alike p (event_at (e / 32) (e % 32)) (event_at (e / 32) I.perm) (λ j o. T.same j o.low o.high o.kind) x y)

  like_same : constraints_hold p (event_of r) x y ≡ constraints_hold p (event_of e) x y
  like_same = ⊎_elim (λ q. ap (λ (k : ℕ). constraints_hold p (event_of k) x y) q) in_group L.like

-- ---- the role rule
is_transition_lem : (e : ℕ) → e ≡ 32 → is_transition (event_of e) ≡ true
is_transition_lem e q = ap (λ (k : ℕ). is_transition (event_of k)) q

no_transition : (e : ℕ) → (e ≡ 32 → ⊥) → is_transition (event_of e) ≡ false
no_transition e d = sym (transition_code_lem (event_of e) (omega arith)) ∙ ap (λ (k : ℕ). eqb k 32) (event_code_of e) ∙ ne_eqb e 32 d

role_few : (n : Counts) → n.roles ≤ 15 → {i : ℕ} → i < pair_count n → role_at n i < 16
role_few n few {i} h = let a = (div-lt_iff_lt-mul users).1 h in omega arith
  where
    users : 0 < n.users
    users =
        ⊎_elim (λ (q : n.users ≡ 0). absurd (let z : i < n.roles * 0 = subst (λ (k : ℕ). i < n.roles * k) q h in omega arith)) (λ (d : n.users ≡ 0 → ⊥). omega (arith, d))
        (split_eq n.users 0)

-- what the rule asks of a pair, by its role
abbrev may : List ℕ → Ask → ℕ → Bool
may plan a k = changes_to plan a.acts a.x.role k

-- of the pairs with a role below b
pub record RuleTo (plan rows : List ℕ) (a : Ask) (r b : ℕ) : Type 0 where
  pub at : (n : Counts) → RowsOf n rows → (j : ℕ) → j < 64 → 64 * a.word + j < pair_count n
      → bit r j ≡ (ltb (role_at n (64 * a.word + j)) b && may plan a (role_at n (64 * a.word + j)))

pub rule_begin : {plan rows : List ℕ} {a : Ask} → RuleTo plan rows a 0 0
rule_begin {plan} {a = a} =
    record { at = λ n R j lj h. let k = role_at n (64 * a.word + j) in bit_zero j ∙ sym (ap (λ (c : Bool). c && may plan a k) (le-ltb k 0 (omega arith))) }

ltb_more : (k b : ℕ) → (k ≡ b → ⊥) → ltb k b ≡ ltb k (b + 1)
ltb_more k b d = ⊎_elim (λ (h : b ≤ k). le-ltb k b h ∙ sym (le-ltb k (b + 1) (omega (arith, d)))) (λ (h : k < b). lt-ltb k b h ∙ sym (lt-ltb k (b + 1) (omega arith))) (split_le b k)

module _ {plan rows : List ℕ} {a : Ask} {r b : ℕ} (T : RuleTo plan rows a r b) (few : b < 16) where
  pub rule_with : may plan a b ≡ true → RuleTo plan rows a (bit_or r (get_or rows (32 * a.word + b) 0)) (b + 1)
  rule_with m =
      record {
        at = λ n R j lj h.
            let row = (row_role R a.word {m = j + 1} (omega arith) (omega arith) b few).at j (omega arith) in
            bit_or_lem r (get_or rows (32 * a.word + b) 0) j ∙ ap₂ ◌||◌ (T.at n R j lj h) row ∙ step (role_at n (64 * a.word + j)) (split_eq (role_at n (64 * a.word + j)) b);
      }
    where
      step : (k : ℕ) → (k ≡ b) ⊎ (k ≡ b → ⊥) → ((ltb k b && may plan a k) || eqb k b) ≡ (ltb k (b + 1) && may plan a k)
      step k (inl q) =
          or_true (ltb k b && may plan a k) (eqb k b) (eq-eqb k b q) ∙ sym (ap₂ ◌&&◌ (lt-ltb k (b + 1) (omega arith)) (ap (may plan a) q ∙ m))
      step k (inr d) = or_none (ltb k b && may plan a k) (eqb k b) (ne_eqb k b d) ∙ ap (λ (c : Bool). c && may plan a k) (ltb_more k b d)

  pub rule_without : may plan a b ≡ false → RuleTo plan rows a r (b + 1)
  rule_without m = record { at = λ n R j lj h. T.at n R j lj h ∙ step (role_at n (64 * a.word + j)) (split_eq (role_at n (64 * a.word + j)) b) }
    where
      step : (k : ℕ) → (k ≡ b) ⊎ (k ≡ b → ⊥) → (ltb k b && may plan a k) ≡ (ltb k (b + 1) && may plan a k)
      step k (inl q) = let n = ap (may plan a) q ∙ m in and_no (ltb k b) (may plan a k) n ∙ sym (and_no (ltb k (b + 1)) (may plan a k) n)
      step k (inr d) = ap (λ (c : Bool). c && may plan a k) (ltb_more k b d)

may_become_lem : {p : Policy} {plan : List ℕ} → Tabled p plan → (acts : Bool) (x y : Context) → x.role < 16 → y.role < 16
    → changes_to plan acts x.role y.role ≡ may_become p (cond acts x y) (cond acts y x)
may_become_lem T true x y hx hy = T.change x.role y.role hx
may_become_lem T false x y hx hy = T.change y.role x.role hy

pub rule_end : {plan rows : List ℕ} {a : Ask} {r b : ℕ} → Askable a → a.event ≡ 32 → b ≡ 16 → RuleTo plan rows a r b → RuleWord plan rows a r
rule_end {plan} {rows} {a} {r} {b} A e q T =
    record {
      at = λ p P R few j lj h.
          let n = p.counts in
          let k = role_at n (64 * a.word + j) in
          let hk = role_few n few h in
          T.at n R j lj h
          ∙ ap (λ (c : Bool). c && may plan a k) (lt-ltb k b (omega arith))
          ∙ may_become_lem P a.acts a.x (pair_at n a.ty (64 * a.word + j)) A.role hk
          ∙ sym (rule_asked p (event_of a.event) (acting_at n a j) (acted_at n a j) (is_transition_lem a.event e));
    }

pub rule_none : {plan rows : List ℕ} {a : Ask} → (a.event ≡ 32 → ⊥) → RuleWord plan rows a 18446744073709551615
rule_none {a = a} d =
    record { at = λ p P R few j lj h. all_bits_lem j lj ∙ sym (rule_free p (event_of a.event) (acting_at p.counts a j) (acted_at p.counts a j) (no_transition a.event d)) }

-- ---- one way
pub way_none : {p : Policy} {m : Bool} {a : Ask} → m ≡ false → WayWord p m a 0
way_none {p} {m} {a} f = record { at = λ j lj h. bit_zero j ∙ sym (ap (λ (c : Bool). c && conditions p (event_of a.event) (acting_at p.counts a j) (acted_at p.counts a j)) f) }

-- which allow records count is nothing to what constraints say
pub asked_counted : (f : ℕ → Bool) {p : Policy} {a : Ask} {v : ℕ} → AskedWord p a v → AskedWord (counting f p) a v
asked_counted f {p} {a} W =
    record { at = λ j lj h. W.at j lj h ∙ sym (constraints_counted f p (acting_at p.counts a j) (acted_at p.counts a j) (event_of a.event)) }

-- what is asked of another event
abbrev pub ask_like : Ask → ℕ → Ask
ask_like a e = record { event = e; x = a.x; ty = a.ty; word = a.word; acts = a.acts }

pub like_askable : {plan : List ℕ} {a : Ask} {l : ℕ} → Askable a → LikeEvent plan a.event l → Askable (ask_like a l)
like_askable A L = record { event = L.few; type = A.type; role = A.role; user = A.user; other = A.other; word = A.word }

pub way_some : {p : Policy} {plan rows : List ℕ} {m : Bool} {a : Ask} {l v w : ℕ} → m ≡ true → Grouped p plan → Tabled p plan → RowsOf p.counts rows → p.counts.roles ≤ 15 → Askable a
    → LikeEvent plan a.event l → AskedWord p (ask_like a l) v → RuleWord plan rows a w → WayWord p m a (bit_and v w)
way_some {p} {m = m} {a} {l} {v} {w} t G T R few A L C W =
    record {
      at = λ j lj h.
          let x = acting_at p.counts a j in
          let y = acted_at p.counts a j in
          bit_and_lem v w j ∙ ap₂ ◌&&◌ (C.at j lj h ∙ like_same G A.event L x y) (W.at p T R few j lj h) ∙ sym (ap (λ (c : Bool). c && conditions p (event_of a.event) x y) t);
    }

-- .. and more was asked
pub asking_on : {s plan rows marks memo memo' : List ℕ} → Asking s plan rows marks memo → AskedBefore (policy_of s) marks memo' → Asking s plan rows marks memo'
asking_on A B = record { sound = A.sound; size = A.size; tables = A.tables; groups = A.groups; words = A.words; marked = A.marked; before = B }

-- ---- a step
abbrev pub step_ask : Context → ℕ → ℕ → ℕ → Bool → Ask
step_ask x e o w acts = record { event = e; x = x; ty = o; word = w; acts = acts }

pub step_askable : {s plan : List ℕ} {x : Context} {e o entry w : ℕ} {c : Bool} (acts : Bool) → Sound s → ContextInRange (policy_of s).counts x
    → Facing (ruled s plan) plan x e o entry c → w < 4 → Askable (step_ask x e o w acts)
step_askable acts S H F hw =
    record {
      event = event_few S F.offering;
      type = omega (arith, H.ty.high, S.range.types.high);
      role = omega (arith, H.role.high, S.range.roles.high);
      user = omega (arith, H.user.high, S.range.users.high);
      other = omega (arith, F.offering.other.high, S.range.types.high);
      word = hw;
    }

module _ {p : Policy} {plan : List ℕ} {x : Context} {e o entry : ℕ} {c : Bool} (F : Facing p plan x e o entry c) (w : ℕ) where
  pub step_plain : c ≡ false → StepWord p x e o w 18446744073709551615
  step_plain f = record { at = λ j lj h hy. all_bits_lem j lj ∙ sym (plain_flow x (pair_at p.counts o (64 * w + j)) F.meets hy F.offering (sym F.conditions ∙ f)) }

  pub step_ways : {out back : Bool} {v u : ℕ} → out ≡ bit (writes_at plan entry) (e % 32) → back ≡ bit (reads_at plan entry) (e % 32)
      → WayWord p out (step_ask x e o w true) v → WayWord p back (step_ask x e o w false) u → StepWord p x e o w (bit_or v u)
  step_ways {v = v} {u} ho hb Out Back =
      record {
        at = λ j lj h hy.
            let y = pair_at p.counts o (64 * w + j) in
            bit_or_lem v u j
            ∙ ap₂ ◌||◌ (Out.at j lj h ∙ ap (λ (b : Bool). b && conditions p (event_of e) x y) ho) (Back.at j lj h ∙ ap (λ (b : Bool). b && conditions p (event_of e) y x) hb)
            ∙ sym (flow_of x y F.meets hy F.offering);
      }

-- ---- the words of a set, one after the other: those from w on are empty
pub record PairsTo (p : Policy) (x : Context) (e o : ℕ) (among r : List ℕ) (w : ℕ) : Type 0 where
  pub done : StepPairs p p.counts x e o among r w
  pub rest : (i : ℕ) → w ≤ i → get_or r i 0 ≡ 0

pub pairs_begin : {p : Policy} {x : Context} {e o : ℕ} {among : List ℕ} → PairsTo p x e o among (replicate 4 0) 0
pairs_begin =
    record {
      done = record {
        size = length-replicate {A = ℕ} 4 0;
        among = λ k h b. absurd (clash b (ap (λ (v : ℕ). bit v (k % 64)) (zeros 4 (k / 64)) ∙ bit_zero (k % 64)));
        at = λ k h. absurd (omega arith);
      };
      rest = λ i h. zeros 4 i;
    }

module _ {p : Policy} {x : Context} {e o : ℕ} {among r : List ℕ} {w : ℕ} (T : PairsTo p x e o among r w) where
  pub pairs_skip : get_or among w 0 ≡ 0 → PairsTo p x e o among r (w + 1)
  pairs_skip z =
      record {
        done = record { size = T.done.size; among = T.done.among; at = λ k h hk hy. ⊎_elim (here k hk hy) (λ (l : k / 64 < w). T.done.at k (omega arith) hk hy) (word k h) };
        rest = λ i h. T.rest i (omega arith);
      }
    where
      word : (k : ℕ) → k < 64 * (w + 1) → (k / 64 ≡ w) ⊎ (k / 64 < w)
      word k h = ⊎_elim (λ (l : w ≤ k / 64). inl (omega arith)) inr (split_le w (k / 64))

      empty : (l : List ℕ) → get_or l w 0 ≡ 0 → (k : ℕ) → k / 64 ≡ w → in_pairs l k ≡ false
      empty l q k i = ap (λ (v : ℕ). bit v (k % 64)) (ap (λ (d : ℕ). get_or l d 0) i ∙ q) ∙ bit_zero (k % 64)

      here : (k : ℕ) → k < pair_count p.counts → meetsρμ p (pair_at p.counts o k) ≡ true → k / 64 ≡ w → in_pairs r k ≡ (in_pairs among k && flow p (event_of e) x (pair_at p.counts o k))
      here k hk hy i = empty r (T.rest w (omega arith)) k i ∙ sym (ap (λ (b : Bool). b && flow p (event_of e) x (pair_at p.counts o k)) (empty among z k i))

  pub pairs_more : {to : ℕ} → w < 4 → StepWord p x e o w to → PairsTo p x e o among (set r w (bit_and (get_or among w 0) to)) (w + 1)
  pairs_more {to} hw W =
      record {
        done = record {
          size = length-set r w v ∙ T.done.size;
          among = λ k h b.
              ⊎_elim
              (λ (i : k / 64 ≡ w). and_first (in_pairs among k) (bit to (k % 64)) (sym (new k i) ∙ b))
              (λ (d : k / 64 ≡ w → ⊥). T.done.among k h (sym (old k d) ∙ b)) (split_eq (k / 64) w);
          at = λ k h hk hy.
              ⊎_elim
              (λ (i : k / 64 ≡ w).
              let q : 64 * w + k % 64 ≡ k = omega arith in
              new k i
              ∙ ap (λ (b : Bool). in_pairs among k && b)
              (W.at (k % 64) (omega arith) (omega arith) (subst (λ (z : ℕ). meetsρμ p (pair_at p.counts o z) ≡ true) (sym q) hy)
              ∙ ap (λ (z : ℕ). flow p (event_of e) x (pair_at p.counts o z)) q))
              (λ (d : k / 64 ≡ w → ⊥). old k d ∙ T.done.at k (omega (arith, d)) hk hy) (split_eq (k / 64) w);
        };
        rest = λ i h. get_or-set_other r w i v 0 (λ q. let z : ⊥ = omega arith in z) ∙ T.rest i (omega arith);
      }
    where
      v : ℕ
      v = bit_and (get_or among w 0) to

      new : (k : ℕ) → k / 64 ≡ w → in_pairs (set r w v) k ≡ (in_pairs among k && bit to (k % 64))
      new k i =
          ap (λ (z : ℕ). bit z (k % 64)) (ap (λ (d : ℕ). get_or (set r w v) d 0) i ∙ get_or-set_same r w v 0 (omega (arith, T.done.size)))
          ∙ bit_and_lem (get_or among w 0) to (k % 64)
          ∙ ap (λ (d : ℕ). bit (get_or among d 0) (k % 64) && bit to (k % 64)) (sym i)

      old : (k : ℕ) → (k / 64 ≡ w → ⊥) → in_pairs (set r w v) k ≡ in_pairs r k
      old k d = ap (λ (z : ℕ). bit z (k % 64)) (get_or-set_other r w (k / 64) v 0 d)

-- ---- the first pair of a set
-- none from a pair on to below at
pub record NoneTo (l : List ℕ) (from at : ℕ) : Type 0 where
  pub low : from ≤ at
  pub high : at ≤ 256
  pub none : (k : ℕ) → from ≤ k → k < at → in_pairs l k ≡ false

pub none_begin : {l : List ℕ} {from : ℕ} → from ≤ 256 → NoneTo l from from
none_begin h = record { low = omega arith; high = h; none = λ k a b. absurd (omega arith) }

pub none_end : {l : List ℕ} {from at end : ℕ} → end ≤ at → NoneTo l from at → NextPair l from end 256
none_end h N = record { low = omega (arith, N.low, N.high); high = omega arith; has = λ z. absurd (omega arith); none = λ k a b d. N.none k a (omega arith) }

-- v is at's word
module _ {l : List ℕ} {from at v : ℕ} (N : NoneTo l from at) (below : at < 256) (word : v ≡ get_or l (at / 64) 0) where
  abbrev left : ℕ
  left = v / 2 ^ (at % 64)

  -- a pair of it, from at on
  shifted : (t : ℕ) → at % 64 + t < 64 → in_pairs l (at + t) ≡ bit left t
  shifted t h =
      ap₂ (λ (i k : ℕ). bit (get_or l i 0) k) (let e : (at + t) / 64 ≡ at / 64 = omega arith in e) (let e : (at + t) % 64 ≡ at % 64 + t = omega arith in e)
      ∙ ap (λ (w : ℕ). bit w (at % 64 + t)) (sym word)
      ∙ sym (bit_shr v (at % 64) t)

  -- where none of the first t is in the set
  further : (t : ℕ) → at % 64 + t ≤ 64 → ((q : ℕ) → q < t → bit left q ≡ false) → (k : ℕ) → from ≤ k → k < at + t → in_pairs l k ≡ false
  further t h f k a b =
      ⊎_elim
      (λ (c : at ≤ k).
      let e : at + (k - at) ≡ k = omega arith in
      ap (in_pairs l) (sym e) ∙ shifted (k - at) (omega arith) ∙ f (k - at) (omega arith))
      (λ (c : k < at). N.none k a c) (split_le at k)

  pub none_more : left ≡ 0 → NoneTo l from (64 * (at / 64 + 1))
  none_more z =
      record {
        low = omega (arith, N.low);
        high = omega arith;
        none = λ k a b. further (64 - at % 64) (omega arith) (λ q _. ap (λ (w : ℕ). bit w q) z ∙ bit_zero q) k a (omega arith);
      }

  pub next_found : {end : ℕ} → v < 2 ^ 64 → (left ≡ 0 → ⊥) → NextPair l from end (at + count_trailing_zeros 64 left)
  next_found few d =
      record {
        low = omega (arith, N.low);
        high = let s = small in omega arith;
        has = λ _. shifted t small ∙ lowest_has 64 left some fits;
        none = λ k a _ b. further t (let s = small in omega arith) (lowest_first 64 left some fits) k a b;
      }
    where
      t : ℕ
      t = count_trailing_zeros 64 left

      some : 0 < left
      some = omega (arith, d)

      fits : left < 2 ^ 64
      fits = let h = div-le_self v (2 ^ (at % 64)) in omega arith

      small : at % 64 + t < 64
      small =
          ⊎_elim
          (λ (h : 64 ≤ at % 64 + t). absurd (clash (lowest_has 64 left some fits) (bit_shr v (at % 64) t ∙ bit_above {m = v} {k = 64} (at % 64 + t) few h)))
          (λ (h : at % 64 + t < 64). h) (split_le 64 (at % 64 + t))
