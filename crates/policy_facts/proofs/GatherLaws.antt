-- The lists f 0, f 1 and so on, below n, one behind the other.
use Prim.Native.Nat.{ℕ, zero, suc, ◌+◌, ◌-◌, ◌≤◌, ◌<◌}
use mathlib.Core.Path.{◌≡◌, refl, sym, ap, ap₂, ◌∙◌}
use mathlib.Core.Bool.{Bool, true}
use mathlib.Core.List.{List, [], ◌++◌, append-nil, append_assoc}
use mathlib.Core.Logic.{⊎_elim}
use native.Mathlib.Nat.{eq-or-lt_of_le}
use native.Mathlib.Omega.{arith}
use lib.ListN.{length, get_or, length-append, get_or-append}
use lib.Seq.{get_or-append-add}
use Rattle.base.proofs.Numbers.{split_le}
use Rattle.base.proofs.BoolLaws.{or_true, or_left, or_cases, clash}
use Rattle.policy_image.specs.declared.records.Record.{Record}
use Rattle.policy_lists.specs.Lists.{no_record}
use Rattle.policy_lists.specs.Inner.Tests.{some_in}
use Rattle.policy_lists.proofs.ListLaws.{some_append}
use Rattle.policy_lists.proofs.JoinTurnLaws.{Each, each_append}

unfoldable pub gather : (ℕ → List Record) → ℕ → List Record
gather f zero = []
gather f (suc n) = gather f n ++ f n

-- it goes by the lists alone
pub gather_same : (f g : ℕ → List Record) (n : ℕ) → ((x : ℕ) → x < n → f x ≡ g x) → gather f n ≡ gather g n
unfolding gather
gather_same f g zero h = refl
gather_same f g (suc n) h = ap₂ ◌++◌ (gather_same f g n (λ x l. h x (omega arith))) (h n (omega arith))

module _ (f : ℕ → List Record) where
  pub gather_next : (n : ℕ) → gather f (suc n) ≡ gather f n ++ f n
  unfolding gather
  gather_next n = refl

  pub gather_none : (n : ℕ) → ((x : ℕ) → x < n → f x ≡ []) → gather f n ≡ []
  unfolding gather
  gather_none zero h = refl
  gather_none (suc n) h = ap₂ ◌++◌ (gather_none n (λ x l. h x (omega arith))) (h n (omega arith))

  -- the first m, and the n behind them
  pub gather_more : (m n : ℕ) → gather f (m + n) ≡ gather f m ++ gather (λ i. f (m + i)) n
  unfolding gather
  gather_more m zero = ap (gather f) (let e : m + 0 ≡ m = omega arith in e) ∙ sym (append-nil (gather f m))
  gather_more m (suc n) =
      ap (gather f) (let e : m + suc n ≡ suc (m + n) = omega arith in e)
      ∙ ap (λ (l : List Record). l ++ f (m + n)) (gather_more m n)
      ∙ append_assoc (gather f m) (gather (λ i. f (m + i)) n) (f (m + n))

  -- ---- the records of the lists
  pub gather_each : (P : Record → Type 0) (n : ℕ) → ((x : ℕ) → x < n → Each P (f x)) → Each P (gather f n)
  unfolding gather
  gather_each P zero h = tt
  gather_each P (suc n) h = each_append P (gather f n) (f n) (gather_each P n (λ x l. h x (omega arith))) (h n (omega arith))

  -- record j stands in list number `of`, at place `at`
  pub record Part (n j : ℕ) : Type 0 where
    pub of : ℕ
    pub low : of < n
    pub at : ℕ
    pub room : at < length (f of)
    pub same : get_or (gather f n) j no_record ≡ get_or (f of) at no_record

  pub gather_part : (n j : ℕ) → j < length (gather f n) → Part n j
  unfolding gather
  gather_part zero j h = let z : ⊥ = omega arith in absurd z
  gather_part (suc n) j h =
      ⊎_elim
      (λ a.
      let i : ℕ = j - length (gather f n) in
      let e : j ≡ length (gather f n) + i = omega arith in
      record {
        of = n;
        low = omega arith;
        at = i;
        room = omega (arith, length-append (gather f n) (f n));
        same = ap (λ (y : ℕ). get_or (gather f n ++ f n) y no_record) e ∙ get_or-append-add (gather f n) (f n) i no_record;
      })
      (λ b.
      let r = gather_part n j b in
      record { of = r.of; low = omega (arith, r.low); at = r.at; room = r.room; same = get_or-append (gather f n) (f n) no_record j b ∙ r.same })
      (split_le (length (gather f n)) j)

  -- ---- tests of them
  module _ (t : Record → Bool) where
    pub gather_yes : (n x : ℕ) → x < n → some_in (f x) t ≡ true → some_in (gather f n) t ≡ true
    unfolding gather
    gather_yes zero x h e = let z : ⊥ = omega arith in absurd z
    gather_yes (suc n) x h e =
        some_append (gather f n) (f n) t
        ∙ ⊎_elim
        (λ q. or_true (some_in (gather f n) t) (some_in (f n) t) (ap (λ (y : ℕ). some_in (f y) t) (sym q) ∙ e))
        (λ l. or_left (some_in (gather f n) t) (some_in (f n) t) (gather_yes n x l e))
        (eq-or-lt_of_le (let b : x ≤ n = omega arith in b))

    pub gather_some : (n : ℕ) → some_in (gather f n) t ≡ true → (x : ℕ) × (x < n) × (some_in (f x) t ≡ true)
    unfolding gather
    gather_some zero e = absurd (clash e refl)
    gather_some (suc n) e =
        ⊎_elim
        (λ a. let r = gather_some n a in (r.0, omega (arith, r.1), r.2))
        (λ a. (n, omega arith, a))
        (or_cases (some_in (gather f n) t) (some_in (f n) t) (sym (some_append (gather f n) (f n) t) ∙ e))
