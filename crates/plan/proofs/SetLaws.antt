-- The σ sets of a context: how they are read from the goal's part of a plan, and that they are those of the goal.
use Prim.Native.Nat.{ℕ, zero, suc, ◌+◌, ◌-◌, ◌*◌, ◌/◌, ◌%◌, ◌≤◌, ◌<◌}
use mathlib.Core.Path.{◌≡◌, refl, sym, subst, ap, ap₂, ◌∙◌}
use mathlib.Core.Bool.{Bool, true, false, cond, ◌&&◌, ◌||◌, or-false, or_assoc}
use mathlib.Core.List.{List}
use mathlib.Core.Logic.{⊎_elim}
use native.Mathlib.Nat.{div-add-mod'}
use native.Mathlib.Omega.{arith}
use borrow.Author.Tests.{eq-eqb}
use lib.Bits.{bit_or, or_zero_r}
use lib.Arith.{digits_lt, digits_div, digits_mod}
use lib.Dec.{eqb}
use Rattle.base.specs.Bits.{bit}
use Rattle.base.specs.Inner.Fill.{Filled}
use Rattle.base.proofs.BitLaws.{bit_or_lem, bit_zero}
use Rattle.base.proofs.BoolLaws.{or_true, or_none, true_or_false}
use Rattle.policy_image.specs.declared.counts.Counts.{Counts}
use Rattle.context.specs.declared.Context.{Context}
use Rattle.context.specs.Codes.{context_at, event_of}
use Rattle.context.specs.Ranges.{ContextInRange}
use Rattle.context.specs.Inner.Places.{context_at_index, first_place, pair_count, role_at, user_at, OfType}
use Rattle.goal_image.specs.Goal.{Goal, goal_of}
use Rattle.goal_image.specs.Questions.{OneChainEach}
use Rattle.goal_image.specs.Sets.{fits, matches_context}
use Rattle.goal_image.specs.Inner.Memberships.{ContextSets, EventSets}
use Rattle.goal_image.specs.Inner.Sound.{SoundGoal}
use Rattle.plan_tables.specs.Inner.Tables.{type_entries}
use Rattle.plan.specs.Inner.Regions.{record_entries, pair_entries, event_sets_start, type_sets_start, pair_sets_start, named_start, alike_start}
use Rattle.plan.specs.Inner.Entries.{type_sets_at, pair_sets_at, named_at, link_at, marks_at}
use Rattle.plan.specs.Inner.Sets.{Falls, record_fits, listed, listed_for, pair_of, sets_of}
use Rattle.plan.specs.Inner.Named.{SameRecord, AllLinked, LinksPut, Named, NamedSets}
use Rattle.plan.specs.Inner.Plan.{PlanCounts, PairSets, GoalPlan}
use Rattle.plan.specs.Inner.Put.{Kept, AlikePut, GoalPut}
use Rattle.context.proofs.TypeLaws.{of_pair, of_same}
use Rattle.plan.proofs.ContextLaws.{pairs_few, pair_high}
use Rattle.plan.proofs.NamedLaws.{Walking, walk_begin, walk_pass, walk_take, walk_end, record_kept, links_kept, sets_joined}

-- ---- lists: one step, and steps enough are enough
listed_more : (plan : List ℕ) (x : Context) (steps k sets : ℕ)
    → listed plan x (suc steps) (suc k) sets ≡ listed plan x steps (link_at plan (suc k)) (cond (record_fits plan x (suc k)) (bit_or sets (marks_at plan (suc k))) sets)
unfolding listed
listed_more plan x steps k sets = refl

-- what is listed has the bits of the sets that it is added to, and of what is listed without them
pub fit_bits : (fit : Bool) (sets marks h : ℕ) → bit (cond fit (bit_or sets marks) sets) h ≡ (bit sets h || (fit && bit marks h))
fit_bits true sets marks h = bit_or_lem sets marks h
fit_bits false sets marks h = sym (or-false (bit sets h))

pub listed_bits : (plan : List ℕ) (x : Context) (steps k sets h : ℕ) → bit (listed plan x steps k sets) h ≡ (bit sets h || bit (listed plan x steps k 0) h)
unfolding listed
listed_bits plan x zero k sets h = sym (or_none (bit sets h) (bit 0 h) (bit_zero h))
listed_bits plan x (suc steps) zero sets h = sym (or_none (bit sets h) (bit 0 h) (bit_zero h))
listed_bits plan x (suc steps) (suc k) sets h =
    let fit : Bool = record_fits plan x (suc k) in
    let own : Bool = fit && bit (marks_at plan (suc k)) h in
    let rest : Bool = bit (listed plan x steps (link_at plan (suc k)) 0) h in
    listed_bits plan x steps (link_at plan (suc k)) (cond fit (bit_or sets (marks_at plan (suc k))) sets) h
    ∙ ap (λ (b : Bool). b || rest) (fit_bits fit sets (marks_at plan (suc k)) h)
    ∙ or_assoc (bit sets h) own rest
    ∙ ap (λ (b : Bool). bit sets h || b) (sym (listed_bits plan x steps (link_at plan (suc k)) (cond fit (bit_or 0 (marks_at plan (suc k))) 0) h
    ∙ ap (λ (b : Bool). b || rest) (fit_bits fit 0 (marks_at plan (suc k)) h ∙ ap (λ (b : Bool). b || own) (bit_zero h))))

-- records that are as they were are listed as they were
pub listed_same : {old plan : List ℕ} {a : ℕ} → Falls old → a ≤ record_entries → ((k : ℕ) → k < a → SameRecord old plan k) → (x : Context) (steps k sets : ℕ) → k < a → listed plan x steps k sets ≡ listed old x steps k sets
unfolding listed
listed_same F few S x zero k sets h = refl
listed_same F few S x (suc steps) zero sets h = refl
listed_same {old} {plan} F few S x (suc steps) (suc k) sets h =
    let s = S (suc k) h in
    let l = F.links (suc k) (omega arith) (omega arith) in
    rw (s.link, s.marks, s.role, s.user) (listed_same F few S x steps (link_at old (suc k)) _ (omega arith))

module _ {plan : List ℕ} (F : Falls plan) (x : Context) where
  none_left : (a sets : ℕ) → listed plan x a 0 sets ≡ sets
  unfolding listed
  none_left zero sets = refl
  none_left (suc a) sets = refl

  enough : (a b k sets : ℕ) → k ≤ a → k ≤ b → k < record_entries → listed plan x a k sets ≡ listed plan x b k sets
  enough zero b zero sets la lb h = none_left zero sets ∙ sym (none_left b sets)
  enough zero b (suc k) sets la lb h = absurd (omega arith)
  enough (suc a) b zero sets la lb h = none_left (suc a) sets ∙ sym (none_left b sets)
  enough (suc a) zero (suc k) sets la lb h = absurd (omega arith)
  enough (suc a) (suc b) (suc k) sets la lb h =
      let l = F.links (suc k) (omega arith) h in
      listed_more plan x a k sets ∙ enough a b (link_at plan (suc k)) _ (omega arith) (omega arith) (omega arith) ∙ sym (listed_more plan x b k sets)

  pub listed_step : (k sets : ℕ) → k < record_entries → (k ≡ 0 → ⊥)
      → listed plan x k k sets ≡ listed plan x (link_at plan k) (link_at plan k) (cond (record_fits plan x k) (bit_or sets (marks_at plan k)) sets)
  listed_step zero sets h n = absurd (n refl)
  listed_step (suc k) sets h n =
      let l = F.links (suc k) (omega arith) h in
      listed_more plan x k k sets ∙ enough k (link_at plan (suc k)) (link_at plan (suc k)) _ (omega arith) (omega arith) (omega arith)

  pub listed_end : {k sets : ℕ} → k ≡ 0 → listed plan x k k sets ≡ sets
  listed_end {sets = sets} e = ap (λ (i : ℕ). listed plan x i i sets) e ∙ none_left 0 sets

-- ---- the sets of the context at a place of a type; f is the type's first place
pair_is : (n : Counts) (o i : ℕ) → pair_of n (context_at o (role_at n i) (user_at n i)) ≡ i
pair_is n o i =
    let a : role_at n i - 1 ≡ i / n.users = omega arith in
    let b : user_at n i - 1 ≡ i % n.users = omega arith in
    ap₂ (λ (d m : ℕ). d * n.users + m) a b ∙ div-add-mod' i n.users

module _ {n : Counts} {o y f : ℕ} (C : PlanCounts n) (H : OfType n o y) (first : f ≡ first_place n o) where
  abbrev i : ℕ
  i = y - f

  abbrev x : Context
  x = context_at o (role_at n i) (user_at n i)

  -- entries of the type and of the pair
  pub own_few : o < type_entries
  own_few = let a = C.types in let b = H.type.high in omega arith

  pub pair_few : i < pair_entries
  pair_few = omega (arith, of_pair C.countable H first, pairs_few C)

  pub pair_names : (role_at n i ≤ 15) × (user_at n i ≤ 15)
  pair_names = pair_high C i (of_pair C.countable H first)

  at_place : (plan : List ℕ) → sets_of n plan x ≡ sets_of n plan (context_at_index n y)
  at_place plan = ap (sets_of n plan) (of_same C.countable H first)

  pub sets_all : (plan : List ℕ) {x' : Context} {c : ℕ} → x' ≡ x → c ≡ listed_for plan x'
      → bit_or (bit_or (type_sets_at plan o) (pair_sets_at plan i)) c ≡ sets_of n plan (context_at_index n y)
  unfolding sets_of
  sets_all plan {x'} {c} e q =
      ap₂ (λ (k v : ℕ). bit_or (bit_or (type_sets_at plan o) (pair_sets_at plan k)) v) (sym (pair_is n o i)) (q ∙ ap (listed_for plan) e)
      ∙ at_place plan

  pub sets_few : {plan : List ℕ} → Falls plan → named_at plan o ≡ 0 → bit_or (type_sets_at plan o) (pair_sets_at plan i) ≡ sets_of n plan (context_at_index n y)
  sets_few {plan} F e = sym (or_zero_r (bit_or (type_sets_at plan o) (pair_sets_at plan i))) ∙ sets_all plan refl (sym (listed_end F x e))

-- ---- they are the goal's
module _ {g : Goal} {plan : List ℕ} (L : AllLinked g plan) (O : OneChainEach g) (few : g.size < record_entries) (x : Context) where
  -- a record of the list of x's type matches x where its role and its user fit
  matches : {k : ℕ} → k ≤ g.size → Named g x.ty k → matches_context (g.context k) x ≡ record_fits plan x k
  matches {k} h N =
      let d = L.noted x.ty k (omega arith) N in
      ap₂ ◌&&◌ (or_true (eqb (g.context k).ty 0) (eqb (g.context k).ty x.ty) (eq-eqb (g.context k).ty x.ty N.type))
      (ap₂ (λ (r u : ℕ). fits r x.role && fits u x.user) (sym d.role) (sym d.user))

  ended : (steps sets : ℕ) → Walking g x sets 0 → NamedSets g x (listed plan x steps 0 sets)
  ended steps sets W = subst (NamedSets g x) (sym (none_left L.falls x steps sets)) (walk_end W refl)

  walked : (steps k sets : ℕ) → k ≤ steps → Walking g x sets k → NamedSets g x (listed plan x steps k sets)
  walked zero zero sets h W = ended 0 sets W
  walked zero (suc k) sets h W = absurd (omega arith)
  walked (suc steps) zero sets h W = ended (suc steps) sets W
  walked (suc steps) (suc k) sets h W =
      let z = W.high in
      let l : link_at plan (suc k) < suc k = L.falls.links (suc k) (omega arith) (omega arith) in
      let n : suc k ≡ 0 → ⊥ = λ e. omega arith in
      let m = matches z (W.is n) in
      let v : ℕ = bit_or sets (marks_at plan (suc k)) in
      subst (NamedSets g x) (sym (listed_more plan x steps k sets))
      (⊎_elim
      (λ (t : record_fits plan x (suc k) ≡ true). subst (λ (b : Bool). NamedSets g x (listed plan x steps (link_at plan (suc k)) (cond b v sets))) (sym t) (walked steps (link_at plan (suc k)) v (omega arith) (walk_take L O W n (m ∙ t) refl)))
      (λ (t : record_fits plan x (suc k) ≡ false). subst (λ (b : Bool). NamedSets g x (listed plan x steps (link_at plan (suc k)) (cond b v sets))) (sym t) (walked steps (link_at plan (suc k)) sets (omega arith) (walk_pass L O W n (m ∙ t) refl)))
      (true_or_false (record_fits plan x (suc k))))

  pub named_are : x.ty < type_entries → NamedSets g x (listed_for plan x)
  named_are h = let a : named_at plan x.ty ≤ named_at plan x.ty = omega arith in walked (named_at plan x.ty) (named_at plan x.ty) 0 a (walk_begin L h)

-- the type of a context in range, and the place of its pair
pub type_lt : {n : Counts} {x : Context} → PlanCounts n → ContextInRange n x → x.ty < type_entries
type_lt C R = let a = C.types in let b = R.ty.high in omega arith

module _ {n : Counts} {x : Context} (R : ContextInRange n x) where
  user_lt : x.user - 1 < n.users
  user_lt = let l = R.user.low in let h = R.user.high in omega arith

  pub pair_lt : pair_of n x < pair_count n
  pair_lt = digits_lt (let l = R.role.low in let h = R.role.high in let z : x.role - 1 < n.roles = omega arith in z) user_lt

pub goal_sets : {g : List ℕ} {n : Counts} {plan : List ℕ} {x : Context} → PlanCounts n → GoalPlan g n plan → ContextInRange n x → ContextSets (goal_of g) x (sets_of n plan x)
unfolding sets_of
goal_sets {g} {n} {plan} {x} C P R =
    let i : ℕ = pair_of n x in
    let l = R.role.low in
    let l' = R.user.low in
    let h : i < pair_count n = pair_lt R in
    let t : x.ty < type_entries = type_lt C R in
    sets_joined P.sound.chains l l' R.ty.low t (P.sets.types x.ty R.ty)
    (subst (λ (z : Context). ContextSets (goal_of g) z (pair_sets_at plan i)) same (P.sets.pairs i h))
    (named_are P.sets.lists P.sound.chains (let z = P.sound.exact.few in omega arith) x t)
  where
    own_role : x.role - 1 + 1 ≡ x.role
    own_role = let l = R.role.low in omega arith

    own_user : x.user - 1 + 1 ≡ x.user
    own_user = let l = R.user.low in omega arith

    same : context_at 0 (role_at n (pair_of n x)) (user_at n (pair_of n x)) ≡ context_at 0 x.role x.user
    same =
        ap₂ (context_at 0) (ap (λ (k : ℕ). k + 1) (digits_div (x.role - 1) (user_lt R)) ∙ own_role) (ap (λ (k : ℕ). k + 1) (digits_mod (x.role - 1) (user_lt R)) ∙ own_user)

-- ---- what is put above the sets leaves them
pub goal_kept : {g old new : List ℕ} {n : Counts} → PlanCounts n → Kept alike_start old new → GoalPlan g n old → GoalPlan g n new
goal_kept {g} {old} {new} {n} C K G =
    let k = pairs_few C in
    let few = C.classes in
    let tf = C.types in
    record {
      sound = G.sound;
      events = λ e l h. subst (EventSets (goal_of g) (event_of e)) (sym (K (event_sets_start + e) (omega arith))) (G.events e l h);
      sets = record {
        types = λ t w. let h = w.high in subst (ContextSets (goal_of g) (context_at t 0 0)) (sym (K (type_sets_start + t) (omega arith))) (G.sets.types t w);
        pairs = λ i h. subst (PairSets (goal_of g) n i) (sym (K (pair_sets_start + i) (omega arith))) (G.sets.pairs i h);
        lists = links_kept K (let z = G.sound.exact.few in omega arith) G.sets.lists;
      };
    }

-- the same of the sets of a context
pub sets_kept : {n : Counts} (old new : List ℕ) → PlanCounts n → Kept alike_start old new → Falls old → (x : Context) → ContextInRange n x → sets_of n new x ≡ sets_of n old x
unfolding sets_of
sets_kept {n} old new C K F x R =
    let t = type_lt C R in
    let p = pair_lt R in
    let k = pairs_few C in
    let h : named_at old x.ty < record_entries = F.heads x.ty t in
    ap₂ bit_or (ap₂ bit_or (K (type_sets_start + x.ty) (omega arith)) (K (pair_sets_start + pair_of n x) (omega arith)))
    (ap (λ (j : ℕ). listed new x j j 0) (K (named_start + x.ty) (omega arith)) ∙ listed_same F (omega arith) (record_kept K) x (named_at old x.ty) (named_at old x.ty) 0 h)

-- ---- making
module _ {g old p1 p2 p3 p4 plan : List ℕ} {n : Counts} {classes types : ℕ} (S : SoundGoal g) (C : PlanCounts n) (ec : classes ≡ n.classes) (et : types ≡ n.types)
    (E : Filled (λ e v. EventSets (goal_of g) (event_of e) v) old p1 event_sets_start 32 (32 * (classes + 1)))
    (A : Filled (λ t v. ContextSets (goal_of g) (context_at t 0 0) v) p1 p2 type_sets_start 1 (types + 1))
    (B : Filled (λ i v. PairSets (goal_of g) n i v) p2 p3 pair_sets_start 0 (pair_count n)) (K : LinksPut (goal_of g) p3 p4) (L : AlikePut p4 plan) where
  pub goal_put : GoalPut g n old plan
  goal_put =
      let k = pairs_few C in
      let few = C.classes in
      let tf = C.types in
      record {
        goal = goal_kept C L.below (record {
          sound = S;
          events = λ e l h. subst (EventSets (goal_of g) (event_of e)) (sym (K.below (event_sets_start + e) (omega arith) ∙ B.below (event_sets_start + e) (omega arith) ∙ A.below (event_sets_start + e) (omega arith))) (E.here e l (omega arith));
          sets = record {
            types = λ t w. let h = w.high in subst (ContextSets (goal_of g) (context_at t 0 0)) (sym (K.below (type_sets_start + t) (omega arith) ∙ B.below (type_sets_start + t) (omega arith))) (A.here t w.low (omega arith));
            pairs = λ i h. subst (PairSets (goal_of g) n i) (sym (K.below (pair_sets_start + i) (omega arith))) (B.here i (omega arith) h);
            lists = K.lists;
          };
        });
        alike = L.alike;
        below = λ i h. L.below i (omega arith) ∙ K.below i (omega arith) ∙ B.below i (omega arith) ∙ A.below i (omega arith) ∙ E.below i (omega arith);
      }
