-- The bare questions on named inputs: what the promise allows, and what it rejects. An answer is one (`one_answer`), so a
-- case rules out every other answer to its question.
use Prim.Native.Nat.{ℕ}
use mathlib.Core.Bool.{Bool, true, false, ◌&&◌}
use mathlib.Core.List.{List, [], ◌∷◌}
use mathlib.Core.Logic.{inl}
use mathlib.Core.Path.{◌≡◌, refl}
use Rattle.base.specs.Questions.{AllYes, RefusedWith}
use Rattle.base.proofs.Decide.{Says, says_yes, says_no, says_iff, ◌both◌, within_b, dec_within}
use Rattle.base.proofs.QuestionLaws.{refused_first, refused_then, passed_both}
use Rattle.policy_image.specs.declared.counts.Counts.{Counts}
use Rattle.policy_image.specs.Layout.{counts_of, record_count}
use Rattle.policy_image.specs.Cases.Written.{image, chain_of, constraint}
use Rattle.policy_image.specs.Cases.Weir.{weir}
use Rattle.policy_check.specs.Questions.{policy_questions}
use Rattle.policy_check.proofs.Cases.{weir_accepted, root_zero}
use Rattle.context.specs.declared.Context.{Context}
use Rattle.context.specs.declared.Event.{Event}
use Rattle.context.specs.Codes.{context_at as at, event_at as event}
use Rattle.context.specs.Ranges.{ContextInRange, EventInRange}
use Rattle.access.proofs.Cases.{weir_2_reads_1, weir_4_reads_no_1, weir_read_flows_in, weir_read_no_flow_out}
use Rattle.std.proofs.Common.{Ok, Err}
use Rattle.base.specs.declared.refusals.Refusal.{Refusal}
use Rattle.bare_questions.specs.Bare.{AskedInRange, bare_questions, AuthorizationAnswer, FlowAnswer}
use Rattle.bare_questions.proofs.BareLaws.{last, one_answer}

-- ---- question 13 as a test that computes
abbrev context_b : Counts → Context → Bool
context_b n x = within_b 1 n.types x.ty && (within_b 1 n.roles x.role && within_b 1 n.users x.user)

dec_context : (n : Counts) (x : Context) → Says (context_b n x) (ContextInRange n x)
dec_context n x =
    says_iff (λ h. record { ty = h.0; role = h.1.0; user = h.1.1 }) (λ h. (h.ty, (h.role, h.user)))
    (dec_within 1 n.types x.ty both dec_within 1 n.roles x.role both dec_within 1 n.users x.user)

abbrev event_b : Counts → Event → Bool
event_b n e = within_b 1 n.classes e.class && within_b 0 31 e.perm

dec_event : (n : Counts) (e : Event) → Says (event_b n e) (EventInRange n e)
dec_event n e =
    says_iff (λ h. record { class = h.0; perm = h.1 }) (λ h. (h.class, h.perm)) (dec_within 1 n.classes e.class both dec_within 0 31 e.perm)

abbrev asked_b : Counts → Context → Context → Event → Bool
asked_b n x y e = context_b n x && (context_b n y && event_b n e)

dec_asked : (n : Counts) (x y : Context) (e : Event) → Says (asked_b n x y e) (AskedInRange n x y e)
dec_asked n x y e =
    says_iff (λ h. record { first = h.0; second = h.1.0; event = h.1.1 }) (λ h. (h.first, (h.second, h.event)))
    (dec_context n x both dec_context n y both dec_event n e)

-- a question put to the weir policy
module _ (x y : Context) (e : Event) where
  passes : asked_b (counts_of weir) x y e ≡ true → AllYes (bare_questions weir x y e)
  passes h = passed_both (policy_questions weir) (last weir x y e) weir_accepted.it (says_yes (dec_asked (counts_of weir) x y e) h, tt)

  refused_13 : asked_b (counts_of weir) x y e ≡ false → RefusedWith (bare_questions weir x y e) 13
  refused_13 h = refused_then (policy_questions weir) (last weir x y e) 13 weir_accepted.it (inl (says_no (dec_asked (counts_of weir) x y e) h, refl))

-- ---- yes and no
pub reads : AuthorizationAnswer weir (at 2 2 1) (at 1 1 1) (event 2 0) (Ok true)
unfolding counts_of record_count
reads = (passes (at 2 2 1) (at 1 1 1) (event 2 0) refl, weir_2_reads_1)

pub reads_not : AuthorizationAnswer weir (at 4 2 1) (at 1 1 1) (event 2 0) (Ok false)
unfolding counts_of record_count
reads_not = (passes (at 4 2 1) (at 1 1 1) (event 2 0) refl, weir_4_reads_no_1)

pub flows_in : FlowAnswer weir (at 1 1 1) (at 2 2 1) (event 2 0) (Ok true)
unfolding counts_of record_count
flows_in = (passes (at 1 1 1) (at 2 2 1) (event 2 0) refl, weir_read_flows_in)

pub flows_not_out : FlowAnswer weir (at 2 2 1) (at 1 1 1) (event 2 0) (Ok false)
unfolding counts_of record_count
flows_not_out = (passes (at 2 2 1) (at 1 1 1) (event 2 0) refl, weir_read_no_flow_out)

-- ---- a program that always says yes, always no, or refuses all does not keep the promise
pub not_always_yes : AuthorizationAnswer weir (at 4 2 1) (at 1 1 1) (event 2 0) (Ok true) → ⊥
not_always_yes h =
    let q = one_answer weir (at 4 2 1) (at 1 1 1) (event 2 0) _ (Ok true) (Ok false) h reads_not in
    cc

pub not_always_no : AuthorizationAnswer weir (at 2 2 1) (at 1 1 1) (event 2 0) (Ok false) → ⊥
not_always_no h =
    let q = one_answer weir (at 2 2 1) (at 1 1 1) (event 2 0) _ (Ok false) (Ok true) h reads in
    cc

pub not_refusing : (r : Refusal) → AuthorizationAnswer weir (at 2 2 1) (at 1 1 1) (event 2 0) (Err r) → ⊥
not_refusing r h =
    let q = one_answer weir (at 2 2 1) (at 1 1 1) (event 2 0) _ (Err r) (Ok true) h reads in
    cc

-- ---- question 13
-- type 257 is not type 1
pub type_257 : RefusedWith (bare_questions weir (at 257 1 1) (at 2 2 1) (event 2 0)) 13
unfolding counts_of record_count
type_257 = refused_13 (at 257 1 1) (at 2 2 1) (event 2 0) refl

pub type_0 : RefusedWith (bare_questions weir (at 0 1 1) (at 2 2 1) (event 2 0)) 13
unfolding counts_of record_count
type_0 = refused_13 (at 0 1 1) (at 2 2 1) (event 2 0) refl

-- the second context is asked too
pub second_type_5 : RefusedWith (bare_questions weir (at 2 2 1) (at 5 1 1) (event 2 0)) 13
unfolding counts_of record_count
second_type_5 = refused_13 (at 2 2 1) (at 5 1 1) (event 2 0) refl

pub second_user_2 : (p : ℕ) → RefusedWith (bare_questions weir (at 2 2 1) (at 1 1 2) (event 2 p)) 13
unfolding counts_of record_count
second_user_2 p = refused_13 (at 2 2 1) (at 1 1 2) (event 2 p) refl

pub role_3 : RefusedWith (bare_questions weir (at 2 3 1) (at 1 1 1) (event 2 0)) 13
unfolding counts_of record_count
role_3 = refused_13 (at 2 3 1) (at 1 1 1) (event 2 0) refl

pub user_2 : RefusedWith (bare_questions weir (at 2 2 2) (at 1 1 1) (event 2 0)) 13
unfolding counts_of record_count
user_2 = refused_13 (at 2 2 2) (at 1 1 1) (event 2 0) refl

pub class_0 : RefusedWith (bare_questions weir (at 2 2 1) (at 1 1 1) (event 0 0)) 13
unfolding counts_of record_count
class_0 = refused_13 (at 2 2 1) (at 1 1 1) (event 0 0) refl

pub class_3 : RefusedWith (bare_questions weir (at 2 2 1) (at 1 1 1) (event 3 0)) 13
unfolding counts_of record_count
class_3 = refused_13 (at 2 2 1) (at 1 1 1) (event 3 0) refl

-- permission 31 is asked of the policy, permission 32 is refused
pub permission_31 : AllYes (bare_questions weir (at 2 2 1) (at 1 1 1) (event 2 31))
unfolding counts_of record_count
permission_31 = passes (at 2 2 1) (at 1 1 1) (event 2 31) refl

pub permission_32 : RefusedWith (bare_questions weir (at 2 2 1) (at 1 1 1) (event 2 32)) 13
unfolding counts_of record_count
permission_32 = refused_13 (at 2 2 1) (at 1 1 1) (event 2 32) refl

-- ---- the order: a refused policy stops the question with its own number, whatever the contexts and the event
pub policy_first : (s : List ℕ) (x y : Context) (e : Event) (n : ℕ) → RefusedWith (policy_questions s) n → RefusedWith (bare_questions s x y e) n
policy_first s x y e n r = refused_first (policy_questions s) (last s x y e) n r

-- an image that fails question 6, asked about contexts and an event out of range: 6, not 13
abbrev no_root : List ℕ
no_root = image 1 1 1 1 (chain_of 8) (constraint 0 1 1 0 ∷ [])

pub six_before_thirteen : RefusedWith (bare_questions no_root (at 0 0 0) (at 0 0 0) (event 0 32)) 6
six_before_thirteen = policy_first no_root (at 0 0 0) (at 0 0 0) (event 0 32) 6 root_zero.it
