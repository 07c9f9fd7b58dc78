-- Laws of the codes: each stands for one context or event.
use Prim.Native.Nat.{ℕ, ◌/◌, ◌%◌, ◌<◌}
use mathlib.Core.Path.{◌≡◌, sym, ◌∙◌}
use mathlib.Core.Logic.{⊎_elim}
use native.Mathlib.Omega.{arith}
use lib.Dec.{eqb}
use borrow.Author.Tests.{eq-eqb, ne_eqb}
use Rattle.base.proofs.Numbers.{split_eq}
use Rattle.context.specs.declared.Context.{Context}
use Rattle.context.specs.declared.Event.{Event}
use Rattle.context.specs.Inner.Coding.{Coded, context_code, event_code, transition_code}
use Rattle.context.specs.Codes.{context_of, event_of, is_transition}

pub context_code_of : (n : ℕ) → context_code (context_of n) ≡ n
context_code_of n = omega arith

pub context_of_code : (x : Context) → x.role < 16 → x.user < 16 → context_of (context_code x) ≡ x
context_of_code x a b =
    let p : context_code x / 256 ≡ x.ty = omega arith in
    let q : context_code x / 16 % 16 ≡ x.role = omega arith in
    let r : context_code x % 16 ≡ x.user = omega arith in
    λ i. record { ty = p i; role = q i; user = r i }

pub event_code_of : (n : ℕ) → event_code (event_of n) ≡ n
event_code_of n = omega arith

pub event_of_code : (e : Event) → e.perm < 32 → event_of (event_code e) ≡ e
event_of_code e a =
    let p : event_code e / 32 ≡ e.class = omega arith in
    let q : event_code e % 32 ≡ e.perm = omega arith in
    λ i. record { class = p i; perm = q i }

-- an event is process transition exactly when its code is that of process transition
pub transition_code_lem : (e : Event) → e.perm < 32 → eqb (event_code e) transition_code ≡ is_transition e
transition_code_lem e h =
    ⊎_elim
    (λ a.
    ⊎_elim (λ b. eq-eqb (event_code e) transition_code (omega arith) ∙ sym (simp (eq-eqb e.class 1 a, eq-eqb e.perm 0 b)))
    (λ b. ne_eqb (event_code e) transition_code (omega arith) ∙ sym (simp (eq-eqb e.class 1 a, ne_eqb e.perm 0 b))) (split_eq e.perm 0))
    (λ a. ne_eqb (event_code e) transition_code (omega arith) ∙ sym (simp (ne_eqb e.class 1 a)))
    (split_eq e.class 1)

pub coded_of : (n : ℕ) → n < 2097152 → Coded (event_of n)
coded_of n h = record { class = omega arith; perm = omega arith }

-- an event in range of counts that question 2 passes has a code, and its code stands for it
pub code_below : (e : Event) → Coded e → event_code e < 2097152
code_below e h = let a = h.class in let b = h.perm in omega arith
