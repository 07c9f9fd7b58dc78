-- Questions 7 to 10 on named goals, and the sets of named goals, from the definitions alone: a goal for each number, and for
-- each way to misread a question a goal on which the misreading would answer otherwise. An answer is one (`one_answer`), so
-- each theorem here rules out every other answer to its goal. The goals are put to a policy with T 4, R 2, U 1, C 2.
use Prim.Native.Nat.{ℕ, ◌+◌, ◌*◌, ◌≤◌, ◌<◌}
use mathlib.Core.Bool.{Bool, true, false, ◌&&◌, ◌||◌, or-false}
use mathlib.Core.Path.{◌≡◌, refl, ap, ap₂, ◌∙◌}
use mathlib.Core.List.{List, [], ◌∷◌, ◌++◌}
use mathlib.Core.Logic.{inl, inr, ⊎_elim}
use native.Mathlib.Omega.{arith}
use lib.Dec.{eqb}
use lib.ListN.{length}
use Rattle.base.specs.Bits.{bit}
use Rattle.base.proofs.BitLaws.{bit_or_lem, bit_pow}
use Rattle.policy_image.specs.declared.counts.Counts.{Counts}
use Rattle.policy_image.specs.Layout.{counts_of, record_count}
use Rattle.policy_image.specs.Cases.Weir.{weir}
use Rattle.context.specs.declared.Context.{Context}
use Rattle.context.specs.declared.Event.{Event}
use Rattle.goal_image.specs.Layout.{GoalExact, legs_of, flags_of, goal_count, goal_head, next_of, context_record_of, event_record_of}
use Rattle.goal_image.specs.Goal.{goal_of, σChain, γChain, σeChain, γeChain}
use Rattle.goal_image.specs.Questions.{LegsInRange, OneChainEach}
use Rattle.goal_image.specs.Sets.{context_in, event_in}
use Rattle.goal_image.specs.Cases.Written.{line, context, event, chains, goal}
use Rattle.goal_image.specs.Cases.WeirGoal.{weir_counts, goal_g}
use Rattle.goal_image.proofs.Tests.{Refused, Accepted, refused_7, refused_8, refused_9, refused_10, accepted}

-- ---- whole goals
-- the counts are those of the weir policy
pub weir_counts_lem : counts_of weir ≡ weir_counts
unfolding counts_of record_count
weir_counts_lem = refl

-- goal G
pub g_accepted : Accepted weir_counts (goal_g)
unfolding legs_of flags_of goal_count goal_head next_of context_record_of event_record_of
g_accepted = accepted refl refl refl refl

-- the smallest goal: every set is empty
pub empty_goal : Accepted weir_counts (goal 1 0 (chains [] [] 0 0) [])
unfolding legs_of flags_of goal_count goal_head next_of context_record_of event_record_of
empty_goal = accepted refl refl refl refl

-- the most legs, all of them repeated, with the last heads
pub six_legs : Accepted weir_counts (goal 6 63 (chains (1 ∷ 0 ∷ 0 ∷ 0 ∷ 0 ∷ 0 ∷ 2 ∷ []) (0 ∷ 0 ∷ 0 ∷ 0 ∷ 0 ∷ 3 ∷ []) 0 0) (context 0 1 0 0 ∷ context 0 2 0 0 ∷ event 0 2 1 ∷ []))
unfolding legs_of flags_of goal_count goal_head next_of context_record_of event_record_of
six_legs = accepted refl refl refl refl

-- ---- question 7
-- 33 bytes, whatever they are
pub short : (n : Counts) (g : List ℕ) → length g ≡ 33 → Refused n g 7
short n g h = record { it = inl ((λ e. let w = e.whole in omega arith), refl) }

-- M above 255, whatever the length
pub too_many : (n : Counts) (g : List ℕ) → 255 < goal_count g → Refused n g 7
too_many n g h = record { it = inl ((λ e. let f = e.few in omega arith), refl) }

-- a length that does not fit M: a byte too many, a byte too few
pub not_exact : (n : Counts) (g : List ℕ) → (length g ≡ 34 + 8 * goal_count g → ⊥) → Refused n g 7
not_exact n g h = record { it = inl ((λ e. h e.exact), refl) }

pub byte_too_many : Refused weir_counts (goal 1 0 (chains [] [] 0 0) [] ++ (0 ∷ [])) 7
unfolding legs_of flags_of goal_count goal_head next_of context_record_of event_record_of
byte_too_many = refused_7 refl

pub byte_too_few : Refused weir_counts (goal 1 0 (chains [] [] 0 0) ((0 ∷ 0 ∷ 1 ∷ 0 ∷ 0 ∷ 0 ∷ 0 ∷ []) ∷ [])) 7
unfolding legs_of flags_of goal_count goal_head next_of context_record_of event_record_of
byte_too_few = refused_7 refl

-- ---- question 8
pub no_leg : Refused weir_counts (goal 0 0 (chains [] [] 0 0) []) 8
unfolding legs_of flags_of goal_count goal_head next_of context_record_of event_record_of
no_leg = refused_8 refl refl

pub seven_legs : Refused weir_counts (goal 7 0 (chains [] [] 0 0) []) 8
unfolding legs_of flags_of goal_count goal_head next_of context_record_of event_record_of
seven_legs = refused_8 refl refl

-- "flag bits from n up": the bit of a leg that is not there; the last leg's is free
pub flag_at_n : Refused weir_counts (goal 1 2 (chains [] [] 0 0) []) 8
unfolding legs_of flags_of goal_count goal_head next_of context_record_of event_record_of
flag_at_n = refused_8 refl refl

pub flag_of_last_leg : Accepted weir_counts (goal 2 2 (chains [] [] 0 0) [])
unfolding legs_of flags_of goal_count goal_head next_of context_record_of event_record_of
flag_of_last_leg = accepted refl refl refl refl

-- .. up to the byte's last bit
pub flag_seven : Refused weir_counts (goal 6 128 (chains [] [] 0 0) []) 8
unfolding legs_of flags_of goal_count goal_head next_of context_record_of event_record_of
flag_seven = refused_8 refl refl

-- "heads σ(n+1).., γn..": the first spare head, and the last; σn and γ(n−1) are not spare
pub spare_context_head : Refused weir_counts (goal 1 0 (chains (0 ∷ 0 ∷ 1 ∷ []) [] 0 0) (context 0 1 0 0 ∷ [])) 8
unfolding legs_of flags_of goal_count goal_head next_of context_record_of event_record_of
spare_context_head = refused_8 refl refl

pub last_spare_context_head : Refused weir_counts (goal 1 0 (chains (0 ∷ 0 ∷ 0 ∷ 0 ∷ 0 ∷ 0 ∷ 1 ∷ []) [] 0 0) (context 0 1 0 0 ∷ [])) 8
unfolding legs_of flags_of goal_count goal_head next_of context_record_of event_record_of
last_spare_context_head = refused_8 refl refl

pub last_context_head : Accepted weir_counts (goal 1 0 (chains (0 ∷ 1 ∷ []) [] 0 0) (context 0 1 0 0 ∷ []))
unfolding legs_of flags_of goal_count goal_head next_of context_record_of event_record_of
last_context_head = accepted refl refl refl refl

pub spare_event_head : Refused weir_counts (goal 1 0 (chains [] (0 ∷ 1 ∷ []) 0 0) (event 0 1 1 ∷ [])) 8
unfolding legs_of flags_of goal_count goal_head next_of context_record_of event_record_of
spare_event_head = refused_8 refl refl

pub last_spare_event_head : Refused weir_counts (goal 1 0 (chains [] (0 ∷ 0 ∷ 0 ∷ 0 ∷ 0 ∷ 1 ∷ []) 0 0) (event 0 1 1 ∷ [])) 8
unfolding legs_of flags_of goal_count goal_head next_of context_record_of event_record_of
last_spare_event_head = refused_8 refl refl

pub last_event_head : Accepted weir_counts (goal 2 0 (chains [] (0 ∷ 1 ∷ []) 0 0) (event 0 1 1 ∷ []))
unfolding legs_of flags_of goal_count goal_head next_of context_record_of event_record_of
last_event_head = accepted refl refl refl refl

-- σe and γe are no spare heads
pub exceptions : Accepted weir_counts (goal 1 0 (chains [] [] 1 2) (context 0 1 0 0 ∷ event 0 1 1 ∷ []))
unfolding legs_of flags_of goal_count goal_head next_of context_record_of event_record_of
exceptions = accepted refl refl refl refl

-- ---- question 9
-- a head above M
pub head_above_m : Refused weir_counts (goal 1 0 (chains (1 ∷ []) [] 0 0) []) 9
unfolding legs_of flags_of goal_count goal_head next_of context_record_of event_record_of
head_above_m = refused_9 refl refl refl

pub exception_above_m : Refused weir_counts (goal 1 0 (chains [] [] 0 1) []) 9
unfolding legs_of flags_of goal_count goal_head next_of context_record_of event_record_of
exception_above_m = refused_9 refl refl refl

-- a next equal to its own number, in every goal that passes 7 and 8, whichever record it is
pub next_is_own : (n : Counts) (g : List ℕ) → GoalExact g → LegsInRange (goal_of g) → (i : ℕ) → 1 ≤ i → i ≤ goal_count g → next_of g i ≡ i → Refused n g 9
next_is_own n g e r i a b h =
    let wrong : OneChainEach (goal_of g) → ⊥ = λ o. ⊎_elim (λ z. omega arith) (λ l. omega arith) (o.nexts i a b) in
    record { it = inr (e, inr (r, inl (wrong, refl))) }

-- a next above M, and one below its record
pub next_above_m : Refused weir_counts (goal 1 0 (chains (1 ∷ []) [] 0 0) (context 2 1 0 0 ∷ [])) 9
unfolding legs_of flags_of goal_count goal_head next_of context_record_of event_record_of
next_above_m = refused_9 refl refl refl

pub next_falls : Refused weir_counts (goal 1 0 (chains (2 ∷ []) [] 0 0) (context 0 1 0 0 ∷ context 1 2 0 0 ∷ [])) 9
unfolding legs_of flags_of goal_count goal_head next_of context_record_of event_record_of
next_falls = refused_9 refl refl refl

-- a record on no chain; a chain that begins after its first record
pub record_on_no_chain : Refused weir_counts (goal 1 0 (chains [] [] 0 0) (context 0 1 0 0 ∷ [])) 9
unfolding legs_of flags_of goal_count goal_head next_of context_record_of event_record_of
record_on_no_chain = refused_9 refl refl refl

pub record_passed_over : Refused weir_counts (goal 1 0 (chains (2 ∷ []) [] 0 0) (context 0 1 0 0 ∷ context 0 2 0 0 ∷ [])) 9
unfolding legs_of flags_of goal_count goal_head next_of context_record_of event_record_of
record_passed_over = refused_9 refl refl refl

-- a record on two chains: two heads, a head and a next, two nexts
pub two_heads : Refused weir_counts (goal 1 0 (chains (1 ∷ 1 ∷ []) [] 0 0) (context 0 1 0 0 ∷ [])) 9
unfolding legs_of flags_of goal_count goal_head next_of context_record_of event_record_of
two_heads = refused_9 refl refl refl

pub head_and_next : Refused weir_counts (goal 1 0 (chains (1 ∷ 2 ∷ []) [] 0 0) (context 2 1 0 0 ∷ context 0 2 0 0 ∷ [])) 9
unfolding legs_of flags_of goal_count goal_head next_of context_record_of event_record_of
head_and_next = refused_9 refl refl refl

pub two_nexts : Refused weir_counts (goal 1 0 (chains (1 ∷ 2 ∷ []) [] 0 0) (context 3 1 0 0 ∷ context 3 2 0 0 ∷ context 0 3 0 0 ∷ [])) 9
unfolding legs_of flags_of goal_count goal_head next_of context_record_of event_record_of
two_nexts = refused_9 refl refl refl

-- .. also of two sorts, and with the last chain
pub two_sorts : Refused weir_counts (goal 1 0 (chains (1 ∷ []) (1 ∷ []) 0 0) (context 0 1 0 0 ∷ [])) 9
unfolding legs_of flags_of goal_count goal_head next_of context_record_of event_record_of
two_sorts = refused_9 refl refl refl

pub two_exceptions : Refused weir_counts (goal 1 0 (chains (1 ∷ []) [] 0 1) (context 0 1 0 0 ∷ [])) 9
unfolding legs_of flags_of goal_count goal_head next_of context_record_of event_record_of
two_exceptions = refused_9 refl refl refl

-- chains may lie across each other
pub chain_of_three : Accepted weir_counts (goal 1 0 (chains (1 ∷ 2 ∷ []) [] 0 0) (context 3 1 0 0 ∷ context 0 2 0 0 ∷ context 0 3 0 0 ∷ []))
unfolding legs_of flags_of goal_count goal_head next_of context_record_of event_record_of
chain_of_three = accepted refl refl refl refl

-- ---- question 10
-- each field by its own count: at it, and above it
pub largest_fields : Accepted weir_counts (goal 1 0 (chains (1 ∷ []) (2 ∷ []) 0 0) (context 0 4 2 1 ∷ event 0 2 255 ∷ []))
unfolding legs_of flags_of goal_count goal_head next_of context_record_of event_record_of
largest_fields = accepted refl refl refl refl

pub type_above : Refused weir_counts (goal 1 0 (chains (1 ∷ []) [] 0 0) (context 0 5 0 0 ∷ [])) 10
unfolding legs_of flags_of goal_count goal_head next_of context_record_of event_record_of
type_above = refused_10 refl refl refl refl

pub role_above : Refused weir_counts (goal 1 0 (chains (1 ∷ []) [] 0 0) (context 0 0 3 0 ∷ [])) 10
unfolding legs_of flags_of goal_count goal_head next_of context_record_of event_record_of
role_above = refused_10 refl refl refl refl

pub user_above : Refused weir_counts (goal 1 0 (chains (1 ∷ []) [] 0 0) (context 0 0 0 2 ∷ [])) 10
unfolding legs_of flags_of goal_count goal_head next_of context_record_of event_record_of
user_above = refused_10 refl refl refl refl

pub class_above : Refused weir_counts (goal 1 0 (chains [] (1 ∷ []) 0 0) (event 0 3 1 ∷ [])) 10
unfolding legs_of flags_of goal_count goal_head next_of context_record_of event_record_of
class_above = refused_10 refl refl refl refl

-- every record is asked, and those of the exceptions too
pub type_above_later : Refused weir_counts (goal 1 0 (chains (1 ∷ []) [] 0 0) (context 2 1 0 0 ∷ context 0 5 0 0 ∷ [])) 10
unfolding legs_of flags_of goal_count goal_head next_of context_record_of event_record_of
type_above_later = refused_10 refl refl refl refl

pub type_above_in_exception : Refused weir_counts (goal 1 0 (chains [] [] 1 0) (context 0 5 0 0 ∷ [])) 10
unfolding legs_of flags_of goal_count goal_head next_of context_record_of event_record_of
type_above_in_exception = refused_10 refl refl refl refl

pub class_above_in_exception : Refused weir_counts (goal 1 0 (chains [] [] 0 1) (event 0 3 1 ∷ [])) 10
unfolding legs_of flags_of goal_count goal_head next_of context_record_of event_record_of
class_above_in_exception = refused_10 refl refl refl refl

-- "5–7 zero" on a σ chain
pub spare_byte_5 : Refused weir_counts (goal 1 0 (chains (1 ∷ []) [] 0 0) (line 0 1 0 0 1 0 0 ∷ [])) 10
unfolding legs_of flags_of goal_count goal_head next_of context_record_of event_record_of
spare_byte_5 = refused_10 refl refl refl refl

pub spare_byte_6 : Refused weir_counts (goal 1 0 (chains (1 ∷ []) [] 0 0) (line 0 1 0 0 0 1 0 ∷ [])) 10
unfolding legs_of flags_of goal_count goal_head next_of context_record_of event_record_of
spare_byte_6 = refused_10 refl refl refl refl

pub spare_byte_7 : Refused weir_counts (goal 1 0 (chains (1 ∷ []) [] 0 0) (line 0 1 0 0 0 0 1 ∷ [])) 10
unfolding legs_of flags_of goal_count goal_head next_of context_record_of event_record_of
spare_byte_7 = refused_10 refl refl refl refl

-- "3 zero" on a γ chain; its bytes 4 to 7 are the mask, which may be anything
pub spare_byte_3 : Refused weir_counts (goal 1 0 (chains [] (1 ∷ []) 0 0) (line 0 1 1 1 0 0 0 ∷ [])) 10
unfolding legs_of flags_of goal_count goal_head next_of context_record_of event_record_of
spare_byte_3 = refused_10 refl refl refl refl

pub any_mask_lem : Accepted weir_counts (goal 1 0 (chains [] (1 ∷ 0 ∷ []) 0 0) (line 0 1 0 255 255 255 255 ∷ []))
unfolding legs_of flags_of goal_count goal_head next_of context_record_of event_record_of
any_mask_lem = accepted refl refl refl refl

pub empty_mask : Accepted weir_counts (goal 1 0 (chains [] (1 ∷ 0 ∷ []) 0 0) (event 0 1 0 ∷ []))
unfolding legs_of flags_of goal_count goal_head next_of context_record_of event_record_of
empty_mask = accepted refl refl refl refl

-- "0 in a field means any"
pub any_fields : Accepted weir_counts (goal 1 0 (chains (1 ∷ []) (2 ∷ []) 0 0) (context 0 0 0 0 ∷ event 0 0 1 ∷ []))
unfolding legs_of flags_of goal_count goal_head next_of context_record_of event_record_of
any_fields = accepted refl refl refl refl

-- ---- the order of the questions: of two faults the earlier number
pub short_and_no_leg : Refused weir_counts (goal 0 0 (chains [] [] 0 0) [] ++ (0 ∷ [])) 7
unfolding legs_of flags_of goal_count goal_head next_of context_record_of event_record_of
short_and_no_leg = refused_7 refl

pub spare_head_above_m : Refused weir_counts (goal 1 0 (chains (0 ∷ 0 ∷ 9 ∷ []) [] 0 0) []) 8
unfolding legs_of flags_of goal_count goal_head next_of context_record_of event_record_of
spare_head_above_m = refused_8 refl refl

pub flag_and_loose_record : Refused weir_counts (goal 1 2 (chains [] [] 0 0) (context 0 1 0 0 ∷ [])) 8
unfolding legs_of flags_of goal_count goal_head next_of context_record_of event_record_of
flag_and_loose_record = refused_8 refl refl

pub loose_record_and_type_above : Refused weir_counts (goal 1 0 (chains (1 ∷ []) [] 0 0) (context 0 5 0 0 ∷ context 0 1 0 0 ∷ [])) 9
unfolding legs_of flags_of goal_count goal_head next_of context_record_of event_record_of
loose_record_and_type_above = refused_9 refl refl refl

-- ---- the sets of goal G, for every context and every event
-- what is left when a test of a chain of one record has been computed
one_of : (a : Bool) → ((a && true) || false) ≡ a
one_of true = refl
one_of false = refl

-- bit 0 is read, bit 1 write
read_bit : (p : ℕ) → bit 1 p ≡ eqb 0 p
read_bit p = bit_pow 0 p

both_bits : (p : ℕ) → bit 3 p ≡ (eqb 0 p || eqb 1 p)
both_bits p = bit_or_lem 1 2 p ∙ ap₂ ◌||◌ (bit_pow 0 p) (bit_pow 1 p)

-- "σ0 type 1, σ1 type 2, σ2 type 4", with any role and any user
pub g_σ0 : (x : Context) → context_in (goal_of goal_g) (σChain 0) x ≡ eqb 1 x.ty
unfolding legs_of flags_of goal_count goal_head next_of context_record_of event_record_of context_in
g_σ0 x = one_of (eqb 1 x.ty)

pub g_σ1 : (x : Context) → context_in (goal_of goal_g) (σChain 1) x ≡ eqb 2 x.ty
unfolding legs_of flags_of goal_count goal_head next_of context_record_of event_record_of context_in
g_σ1 x = one_of (eqb 2 x.ty)

pub g_σ2 : (x : Context) → context_in (goal_of goal_g) (σChain 2) x ≡ eqb 4 x.ty
unfolding legs_of flags_of goal_count goal_head next_of context_record_of event_record_of context_in
g_σ2 x = one_of (eqb 4 x.ty)

-- "leg 0 one step, read; leg 1 repeated, read or write", in class 2
pub g_γ0 : (e : Event) → event_in (goal_of goal_g) (γChain 0) e ≡ (eqb 2 e.class && eqb 0 e.perm)
unfolding legs_of flags_of goal_count goal_head next_of context_record_of event_record_of event_in
g_γ0 e = or-false (eqb 2 e.class && bit 1 e.perm) ∙ ap (λ (b : Bool). eqb 2 e.class && b) (read_bit e.perm)

pub g_γ1 : (e : Event) → event_in (goal_of goal_g) (γChain 1) e ≡ (eqb 2 e.class && (eqb 0 e.perm || eqb 1 e.perm))
unfolding legs_of flags_of goal_count goal_head next_of context_record_of event_record_of event_in
g_γ1 e = or-false (eqb 2 e.class && bit 3 e.perm) ∙ ap (λ (b : Bool). eqb 2 e.class && b) (both_bits e.perm)

pub g_repeated : (flags_of goal_g ≡ 2) × (legs_of goal_g ≡ 2)
unfolding legs_of flags_of goal_count goal_head next_of context_record_of event_record_of
g_repeated = (refl, refl)

-- no exceptions
pub g_σe : (x : Context) → context_in (goal_of goal_g) σeChain x ≡ false
unfolding legs_of flags_of goal_count goal_head next_of context_record_of event_record_of context_in
g_σe x = refl

pub g_γe : (e : Event) → event_in (goal_of goal_g) γeChain e ≡ false
unfolding legs_of flags_of goal_count goal_head next_of context_record_of event_record_of event_in
g_γe e = refl

-- ---- sets of other goals
abbrev any_goal : List ℕ
any_goal = goal 1 0 (chains (1 ∷ []) (2 ∷ []) 0 0) (context 0 0 0 0 ∷ event 0 0 1 ∷ [])

-- "0 in a field means any"
pub any_context_in : (x : Context) → context_in (goal_of any_goal) (σChain 0) x ≡ true
unfolding legs_of flags_of goal_count goal_head next_of context_record_of event_record_of context_in
any_context_in x = refl

-- any class, and the permissions of the mask alone
pub any_class_in : (e : Event) → event_in (goal_of any_goal) (γChain 0) e ≡ eqb 0 e.perm
unfolding legs_of flags_of goal_count goal_head next_of context_record_of event_record_of event_in
any_class_in e = or-false (bit 1 e.perm) ∙ read_bit e.perm

-- "an empty chain is the empty set"
pub empty_context_set : (x : Context) → context_in (goal_of any_goal) (σChain 1) x ≡ false
unfolding legs_of flags_of goal_count goal_head next_of context_record_of event_record_of context_in
empty_context_set x = refl

-- "A set is the union of its chain": types 1 and 3
pub union_in : (x : Context)
    → context_in (goal_of (goal 1 0 (chains (1 ∷ []) [] 0 0) (context 2 1 0 0 ∷ context 0 3 0 0 ∷ []))) (σChain 0) x ≡ (eqb 1 x.ty || eqb 3 x.ty)
unfolding legs_of flags_of goal_count goal_head next_of context_record_of event_record_of context_in
union_in x = join (eqb 1 x.ty) (eqb 3 x.ty)
  where
    join : (a b : Bool) → ((a && true) || ((b && true) || false)) ≡ (a || b)
    join true b = refl
    join false b = one_of b

-- a record matches where all its fields do
pub all_fields_in : (x : Context)
    → context_in (goal_of (goal 1 0 (chains (1 ∷ []) [] 0 0) (context 0 1 2 1 ∷ []))) (σChain 0) x ≡ (eqb 1 x.ty && (eqb 2 x.role && eqb 1 x.user))
unfolding legs_of flags_of goal_count goal_head next_of context_record_of event_record_of context_in
all_fields_in x = or-false (eqb 1 x.ty && (eqb 2 x.role && eqb 1 x.user))
