-- Laws of the places of contexts: each way back, and bounds.
use Prim.Native.Nat.{ℕ, zero, suc, ◌+◌, ◌-◌, ◌*◌, ◌/◌, ◌%◌, ◌≤◌, ◌<◌, ◌^◌}
use mathlib.Core.Path.{◌≡◌}
use native.Mathlib.Nat.{mod-lt, div-add-mod', div-lt_iff_lt-mul, mul-suc}
use native.Mathlib.Omega.{arith}
use lib.Arith.{digits_div, digits_mod, digits_lt}
use Rattle.policy_image.specs.declared.counts.Counts.{Counts}
use Rattle.context.specs.declared.Context.{Context}
use Rattle.context.specs.Ranges.{ContextInRange}
use Rattle.context.specs.Inner.Places.{Countable, context_count, context_index, context_at_index}

module _ (n : Counts) where
  pub at_index : (x : Context) → ContextInRange n x → context_at_index n (context_index n x) ≡ x
  at_index x h =
      let a = h.ty.low in
      let b = h.role.low in
      let b' = h.role.high in
      let d = h.user.low in
      let d' = h.user.high in
      let i : ℕ = context_index n x in
      let rest : i / n.users ≡ (x.ty - 1) * n.roles + (x.role - 1) = digits_div _ (omega arith) in
      let u' : i % n.users ≡ x.user - 1 = digits_mod ((x.ty - 1) * n.roles + (x.role - 1)) (omega arith) in
      let t' : i / n.users / n.roles ≡ x.ty - 1 = rw rest (digits_div (x.ty - 1) (omega arith)) in
      let r' : i / n.users % n.roles ≡ x.role - 1 = rw rest (digits_mod (x.ty - 1) (omega arith)) in
      let t'' : i / n.users / n.roles + 1 ≡ x.ty = omega arith in
      let r'' : i / n.users % n.roles + 1 ≡ x.role = omega arith in
      let u'' : i % n.users + 1 ≡ x.user = omega arith in
      λ j. record { ty = t'' j; role = r'' j; user = u'' j }

  pub index_at : (i : ℕ) → context_index n (context_at_index n i) ≡ i
  index_at i =
      let a : (m : ℕ) → m + 1 - 1 ≡ m = λ m. omega arith in
      simp (a, div-add-mod')

  pub index_lt : (x : Context) → ContextInRange n x → context_index n x < context_count n
  index_lt x h =
      let a = h.ty.low in
      let a' = h.ty.high in
      let b = h.role.low in
      let b' = h.role.high in
      let d = h.user.low in
      let d' = h.user.high in
      digits_lt (digits_lt (omega arith) (omega arith)) (omega arith)

  pub at_in_range : (i : ℕ) → 0 < n.roles → 0 < n.users → i < context_count n → ContextInRange n (context_at_index n i)
  at_in_range i hR hU h =
      let t : i / n.users / n.roles < n.types = (div-lt_iff_lt-mul hR).1 ((div-lt_iff_lt-mul hU).1 h) in
      let r : i / n.users % n.roles < n.roles = mod-lt (i / n.users) hR in
      let u : i % n.users < n.users = mod-lt i hU in
      record {
        ty = record { low = omega arith; high = omega arith };
        role = record { low = omega arith; high = omega arith };
        user = record { low = omega arith; high = omega arith };
      }

  -- bounds on the way to an index
  part_le : (a m : ℕ) → 0 < m → a ≤ a * m
  part_le a zero h = absurd (omega arith)
  part_le a (suc m) h = omega (arith, mul-suc a m)

  pub types_part : Countable n → n.types * n.roles < 2 ^ 26
  types_part k = omega (arith, k.few, part_le (n.types * n.roles) n.users k.users)

  pub users_part : (x : Context) → ContextInRange n x → Countable n → ((x.ty - 1) * n.roles + (x.role - 1)) * n.users < 2 ^ 26
  users_part x h k = omega (arith, index_lt x h, k.few)

  pub roles_part : (x : Context) → ContextInRange n x → Countable n → (x.ty - 1) * n.roles + (x.role - 1) < 2 ^ 26
  roles_part x h k = omega (arith, users_part x h k, part_le ((x.ty - 1) * n.roles + (x.role - 1)) n.users k.users)
