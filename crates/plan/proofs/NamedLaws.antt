-- The lists of the records that name a type together with a role or a user: how they are made, and how they are read.
use Prim.Native.Nat.{ℕ, suc, ◌+◌, ◌≤◌, ◌<◌}
use mathlib.Core.Path.{◌≡◌, refl, sym, subst, ap, ◌∙◌}
use mathlib.Core.Bool.{Bool, true, false, not, ◌&&◌, ◌||◌}
use mathlib.Core.List.{List}
use mathlib.Core.Logic.{◌⊎◌, inl, inr, ⊎_elim}
use native.Mathlib.Omega.{arith}
use borrow.Author.Tests.{eq-eqb, ne_eqb, eqb-true}
use lib.Bits.{bit_or}
use lib.Dec.{eqb}
use lib.ListN.{length, get_or, set, length-set}
use lib.Seq.{get_or-set_same, get_or-set_other}
use Rattle.base.specs.Bits.{bit}
use Rattle.base.specs.Chain.{OnChain}
use Rattle.base.specs.Inner.Decides.{Decides}
use Rattle.base.specs.Inner.Fill.{Filled}
use Rattle.base.proofs.BitLaws.{bit_or_lem, bit_zero, bits_all}
use Rattle.base.proofs.ChainLaws.{meets_low, meets_range}
use Rattle.base.proofs.Numbers.{split_eq, split_le}
use Rattle.base.proofs.BoolLaws.{clash, or_true, or_left, or_cases, and_true, and_first, and_second, same_truth}
use Rattle.context.specs.declared.Context.{Context}
use Rattle.context.specs.Codes.{context_at}
use Rattle.goal_image.specs.declared.records.ContextRecord.{ContextRecord}
use Rattle.goal_image.specs.Goal.{Goal, goal_links, is_context_chain}
use Rattle.goal_image.specs.Questions.{OneChainEach}
use Rattle.goal_image.specs.Sets.{fits, matches_context, context_in}
use Rattle.goal_image.specs.Inner.Memberships.{on_chain, ContextSets, RecordSets}
use Rattle.goal_image.proofs.SetLaws.{Iff, any_field, context_iff, record_iff}
use Rattle.goal_image.proofs.SortLaws.{context_below}
use Rattle.plan_tables.specs.Inner.Tables.{type_entries}
use Rattle.plan.specs.Inner.Regions.{record_entries, named_start, links_start, marks_start, record_roles_start, record_users_start, alike_start, plan_entries}
use Rattle.plan.specs.Inner.Entries.{named_at, link_at, marks_at}
use Rattle.plan.specs.Inner.Sets.{Falls}
use Rattle.plan.specs.Inner.Put.{Kept}
use Rattle.plan.specs.Inner.Named.{NamesBoth, Named, Last, Noted, SameRecord, RecordPut, Links, AllLinked, Linking, LinksPut, NamedIn, NamedSets}

-- ---- one record
pub names_user : (r : ContextRecord) → 1 ≤ r.ty → r.ty < type_entries → r.role ≡ 0 → Decides (not (eqb r.user 0)) (NamesBoth r)
names_user r l h e =
    ⊎_elim (λ z. rw (eq-eqb r.user 0 z) (λ N. N.more e z)) (λ d. rw (ne_eqb r.user 0 d) (record { some_type = l; few = h; more = λ _ z. d z }))
    (split_eq r.user 0)

module _ {g : Goal} (O : OneChainEach g) {k h : ℕ} (low : h < 15) where
  pub on_iff : Iff (on_chain g k h ≡ true) (OnChain (goal_links g) h k)
  on_iff = (
    λ t. let r = (record_iff g O h low k).0 t in subst (λ (i : ℕ). OnChain (goal_links g) h i) (eqb-true r.0 k r.2) r.1,
    λ m. (record_iff g O h low k).1 (k, m, eq-eqb k k refl),
  )

  pub is_on : is_context_chain h ≡ true → OnChain (goal_links g) h k → true ≡ (is_context_chain h && on_chain g k h)
  is_on s m = sym (and_true (is_context_chain h) (on_chain g k h) s (on_iff.1 m))

-- a number whose bits are all clear is 0
pub no_bits : {m : ℕ} → ((p : ℕ) → bit m p ≡ false) → m ≡ 0
no_bits {m} f = bits_all m 0 (λ p. f p ∙ sym (bit_zero p))

module _ {g : Goal} {k m : ℕ} (M : RecordSets g k m) where
  pub marks_none : m ≡ 0 → RecordSets g k 0
  marks_none e = subst (RecordSets g k) e M

  pub marks_some : (m ≡ 0 → ⊥) → RecordSets g k 0 → ⊥
  marks_some n Z = n (no_bits (λ p. M.at p ∙ sym (Z.at p) ∙ bit_zero p))

-- ---- making the lists
module _ {K : ℕ → Type 0} {k : ℕ} where
  last_skip : {b : ℕ} → (K k → ⊥) → Last K k b → Last K (k + 1) b
  last_skip n L =
      let h = L.low in
      record {
        low = omega arith;
        is = L.is;
        none = λ j l u x. ⊎_elim (λ (e : j ≡ k). n (subst K e x)) (λ (d : j ≡ k → ⊥). L.none j l (omega (arith, d)) x) (split_eq j k);
      }

  last_here : K k → Last K (k + 1) k
  last_here x = record { low = omega arith; is = λ _. x; none = λ j l u _. absurd (omega arith) }

-- no list has a record
module _ {plan : List ℕ} (none : (i : ℕ) → i < type_entries + record_entries → get_or plan (named_start + i) 0 ≡ 0) where
  pub falls_none : Falls plan
  falls_none =
      record {
        heads = λ t h. omega (arith, none t (omega arith));
        links = λ k l h. let q : link_at plan k ≡ get_or plan (named_start + (type_entries + k)) 0 = ap (λ (i : ℕ). get_or plan i 0) (let e : links_start + k ≡ named_start + (type_entries + k) = omega arith in e) in omega (arith, none (type_entries + k) (omega arith));
      }

  pub links_begin : {g : Goal} → Links g plan 1
  links_begin {g} =
      record {
        heads = λ t h. subst (Last (Named g t) 1) (sym (none t (omega arith))) (record { low = omega arith; is = λ n. absurd (n refl); none = λ j l u _. absurd (omega arith) });
        links = λ t k h N. absurd (let l = N.low in omega arith);
        noted = λ t k h N. absurd (let l = N.low in omega arith);
        falls = falls_none;
      }

pub links_skip : {g : Goal} {plan : List ℕ} {k : ℕ} → Links g plan k → ((t : ℕ) → Named g t k → ⊥) → Linking g plan plan (k + 1)
links_skip {g} {plan} {k} L n =
    record {
      lists = record {
        heads = λ t h. last_skip (n t) (L.heads t h);
        links = λ t j h N. L.links t j (before t j h N) N;
        noted = λ t j h N. L.noted t j (before t j h N) N;
        falls = L.falls;
      };
      below = λ i h. refl;
    }
  where
    before : (t j : ℕ) → j < k + 1 → Named g t j → j < k
    before t j h N = ⊎_elim (λ (e : j ≡ k). absurd (n t (subst (Named g t) e N))) (λ (d : j ≡ k → ⊥). let z : j < k = omega (arith, d) in z) (split_eq j k)

-- the record is not such a one
pub names_yes : {r : ContextRecord} (b : Bool) → Decides b (NamesBoth r) → not b ≡ false → NamesBoth r
names_yes true d e = d
names_yes false d e = absurd (clash refl e)

module _ {g : Goal} {plan : List ℕ} {k : ℕ} (L : Links g plan k) where
  pub links_other : {r : ContextRecord} (b : Bool) → r ≡ g.context k → Decides b (NamesBoth r) → not b ≡ true → Linking g plan plan (k + 1)
  links_other true q d e = absurd (clash e refl)
  links_other false q d e = links_skip L (λ t N. d (subst NamesBoth (sym q) N.both))

  pub links_event : {m : ℕ} → RecordSets g k m → m ≡ 0 → Linking g plan plan (k + 1)
  links_event M e = links_skip L (λ t N. N.marked (marks_none M e))

pub named_of : {g : Goal} {k m : ℕ} {r : ContextRecord} → r ≡ g.context k → NamesBoth r → 1 ≤ k → k ≤ g.size → RecordSets g k m → (m ≡ 0 → ⊥) → Named g r.ty k
named_of q B l h M n =
    record {
      low = l;
      high = h;
      type = ap (λ (z : ContextRecord). z.ty) (sym q);
      both = subst NamesBoth q B;
      marked = marks_some M n;
    }

noted_kept : {g : Goal} {old new : List ℕ} {k : ℕ} → SameRecord old new k → Noted g old k → Noted g new k
noted_kept {g} {k = k} S w = record { marks = subst (RecordSets g k) (sym S.marks) w.marks; role = S.role ∙ w.role; user = S.user ∙ w.user }

-- a record is put before the list of its type
module _ (plan : List ℕ) (k m : ℕ) (x : Context) (few : k < record_entries) (small : x.ty < type_entries) (size : plan_entries ≤ length plan) where
  abbrev p1 : List ℕ
  p1 = set plan (marks_start + k) m

  abbrev p2 : List ℕ
  p2 = set p1 (record_roles_start + k) x.role

  abbrev p3 : List ℕ
  p3 = set p2 (record_users_start + k) x.user

  abbrev p4 : List ℕ
  p4 = set p3 (links_start + k) (get_or p3 (named_start + x.ty) 0)

  abbrev p5 : List ℕ
  p5 = set p4 (named_start + x.ty) k

  -- what is none of the record's entries is as it was
  noted_other : (i : ℕ) → (i ≡ marks_start + k → ⊥) → (i ≡ record_roles_start + k → ⊥) → (i ≡ record_users_start + k → ⊥) → get_or p3 i 0 ≡ get_or plan i 0
  noted_other i a b d = get_or-set_other p2 (record_users_start + k) i x.user 0 d ∙ get_or-set_other p1 (record_roles_start + k) i x.role 0 b ∙ get_or-set_other plan (marks_start + k) i m 0 a

  linked_other : (i : ℕ) → (i ≡ links_start + k → ⊥) → (i ≡ named_start + x.ty → ⊥) → get_or p5 i 0 ≡ get_or p3 i 0
  linked_other i a b = get_or-set_other p4 (named_start + x.ty) i k 0 b ∙ get_or-set_other p3 (links_start + k) i (get_or p3 (named_start + x.ty) 0) 0 a

  pub record_put : RecordPut k x m plan p5
  record_put =
      record {
        head = get_or-set_same p4 (named_start + x.ty) k 0 (simp length-set (omega arith));
        link = get_or-set_other p4 (named_start + x.ty) (links_start + k) k 0 (λ q. omega arith) ∙ get_or-set_same p3 (links_start + k) (get_or p3 (named_start + x.ty) 0) 0 (simp length-set (omega arith))
            ∙ noted_other (named_start + x.ty) (λ q. omega arith) (λ q. omega arith) (λ q. omega arith);
        marks = linked_other (marks_start + k) (λ q. omega arith) (λ q. omega arith) ∙ get_or-set_other p2 (record_users_start + k) (marks_start + k) x.user 0 (λ q. omega arith)
            ∙ get_or-set_other p1 (record_roles_start + k) (marks_start + k) x.role 0 (λ q. omega arith) ∙ get_or-set_same plan (marks_start + k) m 0 (omega arith);
        role = linked_other (record_roles_start + k) (λ q. omega arith) (λ q. omega arith) ∙ get_or-set_other p2 (record_users_start + k) (record_roles_start + k) x.user 0 (λ q. omega arith)
            ∙ get_or-set_same p1 (record_roles_start + k) x.role 0 (simp length-set (omega arith));
        user = linked_other (record_users_start + k) (λ q. omega arith) (λ q. omega arith) ∙ get_or-set_same p2 (record_users_start + k) x.user 0 (simp length-set (omega arith));
        heads = λ t h d. linked_other (named_start + t) (λ q. omega arith) (λ q. d (omega arith)) ∙ noted_other (named_start + t) (λ q. omega arith) (λ q. omega arith) (λ q. omega arith);
        others = λ j h d. record {
          link = linked_other (links_start + j) (λ q. d (omega arith)) (λ q. omega arith) ∙ noted_other (links_start + j) (λ q. omega arith) (λ q. omega arith) (λ q. omega arith);
          marks = linked_other (marks_start + j) (λ q. omega arith) (λ q. omega arith) ∙ noted_other (marks_start + j) (λ q. d (omega arith)) (λ q. omega arith) (λ q. omega arith);
          role = linked_other (record_roles_start + j) (λ q. omega arith) (λ q. omega arith) ∙ noted_other (record_roles_start + j) (λ q. omega arith) (λ q. d (omega arith)) (λ q. omega arith);
          user = linked_other (record_users_start + j) (λ q. omega arith) (λ q. omega arith) ∙ noted_other (record_users_start + j) (λ q. omega arith) (λ q. omega arith) (λ q. d (omega arith));
        };
        below = λ i h. linked_other i (λ q. omega arith) (λ q. omega arith) ∙ noted_other i (λ q. omega arith) (λ q. omega arith) (λ q. omega arith);
      }

-- .. whose number is above those of the lists
module _ {k m : ℕ} {x : Context} {old plan : List ℕ} (P : RecordPut k x m old plan) (low : (t : ℕ) → t < type_entries → named_at old t < k) where
  pub heads_put : (t : ℕ) → t < type_entries → named_at plan t < k + 1
  heads_put t h =
      ⊎_elim (λ (e : t ≡ x.ty). let z : named_at plan t ≡ k = ap (named_at plan) e ∙ P.head in omega arith) (λ (d : t ≡ x.ty → ⊥). omega (arith, P.heads t h d, low t h)) (split_eq t x.ty)

  pub falls_put : k < record_entries → x.ty < type_entries → Falls old → Falls plan
  falls_put few small F =
      record {
        heads = λ t h. omega (arith, heads_put t h);
        links = λ j l h. ⊎_elim (λ (e : j ≡ k). let z : link_at plan j ≡ named_at old x.ty = ap (link_at plan) e ∙ P.link in omega (arith, low x.ty small))
            (λ (d : j ≡ k → ⊥). omega (arith, (P.others j h d).link, F.links j l h)) (split_eq j k);
      }

-- record k of the goal
module _ {g : Goal} {plan new : List ℕ} {k m : ℕ} {r : ContextRecord} {x : Context} (L : Links g plan k) (N : Named g r.ty k) (M : RecordSets g k m) (R : r ≡ g.context k) (few : k < record_entries)
    (names : x ≡ context_at r.ty r.role r.user) (put : RecordPut k x m plan new) where
  abbrev t : ℕ
  t = r.ty

  P : RecordPut k (context_at t r.role r.user) m plan new
  P = subst (λ (z : Context). RecordPut k z m plan new) names put

  small : t < type_entries
  small = omega (arith, N.type, N.both.few)

  heads_on : (u : ℕ) → u < type_entries → (u ≡ t) ⊎ (u ≡ t → ⊥) → Last (Named g u) (k + 1) (named_at new u)
  heads_on u h (inl e) = subst (λ (i : ℕ). Last (Named g i) (k + 1) (named_at new i)) (sym e) (subst (Last (Named g t) (k + 1)) (sym P.head) (last_here N))
  heads_on u h (inr d) = subst (Last (Named g u) (k + 1)) (sym (P.heads u h d)) (last_skip (λ x. d (sym x.type ∙ N.type)) (L.heads u h))

  links_on : (u j : ℕ) → j < k + 1 → Named g u j → (j ≡ k) ⊎ (j ≡ k → ⊥) → Last (Named g u) j (link_at new j)
  links_on u j h x (inl e) =
      let q : u ≡ t = sym x.type ∙ ap (λ (i : ℕ). (g.context i).ty) e ∙ N.type in
      subst (λ (i : ℕ). Last (Named g u) i (link_at new i)) (sym e)
      (subst (Last (Named g u) k) (sym P.link) (subst (λ (i : ℕ). Last (Named g i) k (named_at plan t)) (sym q) (L.heads t small)))
  links_on u j h x (inr d) = subst (Last (Named g u) j) (sym (P.others j (omega arith) d).link) (L.links u j (omega (arith, d)) x)

  noted_on : (u j : ℕ) → j < k + 1 → Named g u j → (j ≡ k) ⊎ (j ≡ k → ⊥) → Noted g new j
  noted_on u j h x (inl e) = subst (Noted g new) (sym e) (record { marks = subst (RecordSets g k) (sym P.marks) M; role = P.role ∙ ap (λ (z : ContextRecord). z.role) R; user = P.user ∙ ap (λ (z : ContextRecord). z.user) R })
  noted_on u j h x (inr d) = noted_kept (P.others j (omega arith) d) (L.noted u j (omega (arith, d)) x)

  pub links_more : Linking g plan new (k + 1)
  links_more =
      record {
        lists = record {
          heads = λ u h. heads_on u h (split_eq u t);
          links = λ u j h x. links_on u j h x (split_eq j k);
          noted = λ u j h x. noted_on u j h x (split_eq j k);
          falls = falls_put P (λ u h. (L.heads u h).low) few small L.falls;
        };
        below = P.below;
      }

pub links_end : {P : ℕ → ℕ → Type 0} {g : Goal} {old mid plan : List ℕ} {a b : ℕ} → Filled P old mid named_start 0 b → Linking g mid plan a → a ≡ suc g.size → LinksPut g old plan
links_end {g = g} {plan = plan} F L e = record { lists = subst (Links g plan) e L.lists; below = λ i h. L.below i h ∙ F.below i (omega arith) }

pub links_join : {g : Goal} {old mid plan : List ℕ} {a b : ℕ} → Linking g old mid a → Linking g mid plan b → Linking g old plan b
links_join A B = record { lists = B.lists; below = λ i h. B.below i h ∙ A.below i h }

-- what is put above the lists leaves them
module _ {old new : List ℕ} (same : Kept alike_start old new) where
  pub record_kept : (k : ℕ) → k < record_entries → SameRecord old new k
  record_kept k h =
      record {
        link = same (links_start + k) (omega arith);
        marks = same (marks_start + k) (omega arith);
        role = same (record_roles_start + k) (omega arith);
        user = same (record_users_start + k) (omega arith);
      }

  pub falls_kept : Falls old → Falls new
  falls_kept F =
      record {
        heads = λ t h. omega (arith, same (named_start + t) (omega arith), F.heads t h);
        links = λ k l h. omega (arith, same (links_start + k) (omega arith), F.links k l h);
      }

  pub links_kept : {g : Goal} → g.size < record_entries → AllLinked g old → AllLinked g new
  links_kept {g} few L =
      record {
        heads = λ t h. subst (Last (Named g t) (suc g.size)) (sym (same (named_start + t) (omega arith))) (L.heads t h);
        links = λ t k h N. subst (Last (Named g t) k) (sym (same (links_start + k) (omega arith))) (L.links t k h N);
        noted = λ t k h N. noted_kept (record_kept k (omega arith)) (L.noted t k h N);
        falls = falls_kept L.falls;
      }

-- ---- reading them: the records of the type of x above k are asked, and k is the next
pub record Walking (g : Goal) (x : Context) (sets k : ℕ) : Type 0 where
  pub high : k ≤ g.size
  pub is : (k ≡ 0 → ⊥) → Named g x.ty k
  pub only : (h : ℕ) → bit sets h ≡ true → NamedIn g x h × (is_context_chain h ≡ true)
  pub all : (h : ℕ) → is_context_chain h ≡ true → (I : NamedIn g x h) → (bit sets h ≡ true) ⊎ (I.record_at ≤ k)

module _ {g : Goal} {plan : List ℕ} (L : AllLinked g plan) {x : Context} where
  pub walk_begin : x.ty < type_entries → Walking g x 0 (named_at plan x.ty)
  walk_begin h =
      let H = L.heads x.ty h in
      let low = H.low in
      record {
        high = omega arith;
        is = H.is;
        only = λ i t. absurd (clash t (bit_zero i));
        all = λ i s I. ⊎_elim (λ a. inr a) (λ a. absurd (H.none I.record_at a (let z = I.named.high in omega arith) I.named)) (split_le I.record_at (named_at plan x.ty));
      }

  module _ (O : OneChainEach g) {sets k : ℕ} (W : Walking g x sets k) (n : k ≡ 0 → ⊥) where
    here : Named g x.ty k
    here = W.is n

    H : Last (Named g x.ty) k (link_at plan k)
    H = L.links x.ty k (let z = W.high in omega arith) here

    M : RecordSets g k (marks_at plan k)
    M = (L.noted x.ty k (let z = W.high in omega arith) here).marks

    -- of the records up to k, k is asked now, and the others are up to the next
    rest : {next : ℕ} → next ≡ link_at plan k → {h : ℕ} (I : NamedIn g x h) → I.record_at ≤ k → (I.record_at ≡ k → ⊥) → I.record_at ≤ next
    rest {next} e I a d = ⊎_elim (λ z. z) (λ z. absurd (H.none I.record_at (omega arith) (omega (arith, d)) I.named)) (split_le I.record_at next)

    pub walk_pass : matches_context (g.context k) x ≡ false → {next : ℕ} → next ≡ link_at plan k → Walking g x sets next
    walk_pass f e =
        let z = H.low in
        let z' = W.high in
        record {
          high = omega arith;
          is = λ m. subst (Named g x.ty) (sym e) (H.is (λ q. m (e ∙ q)));
          only = W.only;
          all = λ h s I. ⊎_elim (λ t. inl t) (λ a. inr (rest e I a (λ q. clash (ap (λ (i : ℕ). matches_context (g.context i) x) (sym q) ∙ I.matches) f))) (W.all h s I);
        }

    pub walk_take : matches_context (g.context k) x ≡ true → {next : ℕ} → next ≡ link_at plan k → Walking g x (bit_or sets (marks_at plan k)) next
    walk_take t {next} e =
        let z = H.low in
        let z' = W.high in
        record {
          high = omega arith;
          is = λ m. subst (Named g x.ty) (sym e) (H.is (λ q. m (e ∙ q)));
          only = λ h b. ⊎_elim (W.only h) (λ c. marked h c) (or_cases (bit sets h) (bit (marks_at plan k) h) (sym (bit_or_lem sets (marks_at plan k) h) ∙ b));
          all = λ h s I. ⊎_elim (λ b. inl (bit_or_lem sets (marks_at plan k) h ∙ or_left (bit sets h) (bit (marks_at plan k) h) b)) (λ a. up h s I a (split_eq I.record_at k)) (W.all h s I);
        }
      where
        marked : (h : ℕ) → bit (marks_at plan k) h ≡ true → NamedIn g x h × (is_context_chain h ≡ true)
        marked h c =
            let b : (is_context_chain h && on_chain g k h) ≡ true = sym (M.at h) ∙ c in
            let s = and_first (is_context_chain h) (on_chain g k h) b in
            (record { record_at = k; named = here; on = (on_iff O (context_below h s)).0 (and_second (is_context_chain h) (on_chain g k h) b); matches = t }, s)

        up : (h : ℕ) → is_context_chain h ≡ true → (I : NamedIn g x h) → I.record_at ≤ k → (I.record_at ≡ k) ⊎ (I.record_at ≡ k → ⊥)
            → (bit (bit_or sets (marks_at plan k)) h ≡ true) ⊎ (I.record_at ≤ next)
        up h s I a (inl q) = inl (bit_or_lem sets (marks_at plan k) h ∙ or_true (bit sets h) (bit (marks_at plan k) h) (M.at h ∙ sym (is_on O (context_below h s) s (subst (λ (i : ℕ). OnChain (goal_links g) h i) q I.on))))
        up h s I a (inr d) = inr (rest e I a d)

pub walk_end : {g : Goal} {x : Context} {sets k : ℕ} → Walking g x sets k → k ≡ 0 → NamedSets g x sets
walk_end W e =
    record {
      only = W.only;
      all = λ h s I. ⊎_elim (λ t. t) (λ a. absurd (let z = I.named.low in omega arith)) (W.all h s I);
    }

-- ---- the sets of a context: what records say of its type alone, of its role and user alone, and of both
is_any : (a : ℕ) → fits a 0 ≡ true → a ≡ 0
is_any a t = ⊎_elim (eqb-true a 0) (eqb-true a 0) (or_cases (eqb a 0) (eqb a 0) t)

module _ {g : Goal} (O : OneChainEach g) {x : Context} (role : 1 ≤ x.role) (user : 1 ≤ x.user) (ty : 1 ≤ x.ty) (few : x.ty < type_entries) {a b c : ℕ}
    (A : ContextSets g (context_at x.ty 0 0) a) (B : ContextSets g (context_at 0 x.role x.user) b) (C : NamedSets g x c) where
  by_type_lem : (r : ContextRecord) → matches_context r (context_at x.ty 0 0) ≡ true → matches_context r x ≡ true
  by_type_lem r t =
      let p = and_second (fits r.ty x.ty) (fits r.role 0 && fits r.user 0) t in
      and_true (fits r.ty x.ty) (fits r.role x.role && fits r.user x.user) (and_first (fits r.ty x.ty) (fits r.role 0 && fits r.user 0) t)
      (and_true (fits r.role x.role) (fits r.user x.user) (any_field r.role x.role (is_any r.role (and_first (fits r.role 0) (fits r.user 0) p)))
      (any_field r.user x.user (is_any r.user (and_second (fits r.role 0) (fits r.user 0) p))))

  by_pair : (r : ContextRecord) → matches_context r (context_at 0 x.role x.user) ≡ true → matches_context r x ≡ true
  by_pair r t =
      and_true (fits r.ty x.ty) (fits r.role x.role && fits r.user x.user)
      (any_field r.ty x.ty (is_any r.ty (and_first (fits r.ty 0) (fits r.role x.role && fits r.user x.user) t)))
      (and_second (fits r.ty 0) (fits r.role x.role && fits r.user x.user) t)

  module _ (h : ℕ) where
    -- a set of the part is a set of x
    over : {y : Context} {m : ℕ} → ContextSets g y m → ((r : ContextRecord) → matches_context r y ≡ true → matches_context r x ≡ true) → bit m h ≡ true
        → (is_context_chain h && context_in g h x) ≡ true
    over {y} S f t =
        let k : (is_context_chain h && context_in g h y) ≡ true = sym (S.at h) ∙ t in
        let s = and_first (is_context_chain h) (context_in g h y) k in
        let r = (context_iff g O h (context_below h s) y).0 (and_second (is_context_chain h) (context_in g h y) k) in
        and_true (is_context_chain h) (context_in g h x) s ((context_iff g O h (context_below h s) x).1 (r.0, r.1, f (g.context r.0) r.2))

    by_name : bit c h ≡ true → (is_context_chain h && context_in g h x) ≡ true
    by_name t =
        let r = C.only h t in
        and_true (is_context_chain h) (context_in g h x) r.1 ((context_iff g O h (context_below h r.1) x).1 (r.0.record_at, r.0.on, r.0.matches))

    -- .. and back, by what the record names
    module _ (s : is_context_chain h ≡ true) (i : ℕ) (on : OnChain (goal_links g) h i) (m : matches_context (g.context i) x ≡ true) where
      abbrev r : ContextRecord
      r = g.context i

      pair_fits : (fits r.role x.role && fits r.user x.user) ≡ true
      pair_fits = and_second (fits r.ty x.ty) (fits r.role x.role && fits r.user x.user) m

      in_part : {y : Context} {v : ℕ} → ContextSets g y v → matches_context r y ≡ true → bit v h ≡ true
      in_part {y} S t = S.at h ∙ and_true (is_context_chain h) (context_in g h y) s ((context_iff g O h (context_below h s) y).1 (i, on, t))

      no_type_lem : r.ty ≡ 0 → bit b h ≡ true
      no_type_lem e = in_part B (and_true (fits r.ty 0) (fits r.role x.role && fits r.user x.user) (any_field r.ty 0 e) pair_fits)

      module _ (e : r.ty ≡ x.ty) where
        no_pair : r.role ≡ 0 → r.user ≡ 0 → bit a h ≡ true
        no_pair p q =
            in_part A (and_true (fits r.ty x.ty) (fits r.role 0 && fits r.user 0) (or_true (eqb r.ty 0) (eqb r.ty x.ty) (eq-eqb r.ty x.ty e))
            (and_true (fits r.role 0) (fits r.user 0) (any_field r.role 0 p) (any_field r.user 0 q)))

        more : (r.role ≡ 0 → r.user ≡ 0 → ⊥) → bit c h ≡ true
        more d =
            let z = meets_range (goal_links g) O.nexts (O.heads h (context_below h s)) on in
            C.all h s (
            record {
              record_at = i;
              named = record {
                low = meets_low (goal_links g) on;
                high = z.1;
                type = e;
                both = record { some_type = omega arith; few = omega arith; more = d };
                marked = λ Z. clash (and_true (is_context_chain h) (on_chain g i h) s ((on_iff O (context_below h s)).1 on)) (sym (Z.at h) ∙ bit_zero h);
              };
              on = on;
              matches = m;
            }
            )

        of_type : ((bit a h || bit b h) || bit c h) ≡ true
        of_type =
            ⊎_elim
            (λ p. ⊎_elim (λ q. or_left (bit a h || bit b h) (bit c h) (or_left (bit a h) (bit b h) (no_pair p q)))
            (λ n. or_true (bit a h || bit b h) (bit c h) (more (λ _ q. n q))) (split_eq r.user 0))
            (λ n. or_true (bit a h || bit b h) (bit c h) (more (λ p _. n p)))
            (split_eq r.role 0)

      back : ((bit a h || bit b h) || bit c h) ≡ true
      back =
          ⊎_elim (λ t. or_left (bit a h || bit b h) (bit c h) (or_true (bit a h) (bit b h) (no_type_lem (eqb-true r.ty 0 t)))) (λ t. of_type (eqb-true r.ty x.ty t))
          (or_cases (eqb r.ty 0) (eqb r.ty x.ty) (and_first (fits r.ty x.ty) (fits r.role x.role && fits r.user x.user) m))

    parts : ((bit a h || bit b h) || bit c h) ≡ (is_context_chain h && context_in g h x)
    parts =
        same_truth ((bit a h || bit b h) || bit c h) (is_context_chain h && context_in g h x)
        (λ t. ⊎_elim (λ u. ⊎_elim (over A by_type_lem) (over B by_pair) (or_cases (bit a h) (bit b h) u)) by_name (or_cases (bit a h || bit b h) (bit c h) t))
        (λ t.
        let s = and_first (is_context_chain h) (context_in g h x) t in
        let k = (context_iff g O h (context_below h s) x).0 (and_second (is_context_chain h) (context_in g h x) t) in
        back s k.0 k.1 k.2)

  pub sets_joined : ContextSets g x (bit_or (bit_or a b) c)
  sets_joined = record { at = λ h. bit_or_lem (bit_or a b) c h ∙ ap (λ (t : Bool). t || bit c h) (bit_or_lem a b h) ∙ parts h }
