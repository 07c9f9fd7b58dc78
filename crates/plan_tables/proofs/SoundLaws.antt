-- What question 5 says of the fields that the tables go by: each record has its entry, and each role its bit.
use Prim.Native.Nat.{ℕ, ◌≤◌, ◌<◌}
use mathlib.Core.List.{List}
use mathlib.Core.Path.{subst}
use native.Mathlib.Omega.{arith}
use Rattle.policy_image.specs.declared.kinds.Kind.{Kind}
use Rattle.policy_image.specs.declared.kinds.Kind.TheVariants.{RoleType, UserRole, RoleChange}
use Rattle.policy_image.specs.declared.records.Record.{Record}
use Rattle.policy_image.specs.Inner.Kinds.{kind_number}
use Rattle.policy_image.specs.Layout.{counts_of}
use Rattle.policy_image.specs.Policy.{policy_of}
use Rattle.policy_fields.specs.declared.Limits.{Limits}
use Rattle.policy_fields.specs.Fields.{limits_of, WithinLimits}
use Rattle.policy_check.specs.Inner.Sound.{Sound}
use Rattle.policy_links.proofs.KindLaws.{OfKind}
use Rattle.plan_tables.specs.Inner.Gather.{entry_of, Shifts, Room}

-- the highest number that the field by which a record of the kind has its entry may hold
abbrev highest : Kind → Limits → ℕ
highest RoleType l = l.b.high
highest _ l = l.a.high

within : (k : Kind) {l : Limits} {r : Record} → WithinLimits l r → entry_of k r ≤ highest k l
within RoleType m = m.b.high
within _ m = m.a.high

module _ (s : List ℕ) (S : Sound s) where
  -- a record of kind k is within the ranges of kind k
  pub meets : (k i : ℕ) → OfKind (policy_of s) k i → WithinLimits (limits_of (counts_of s) k ((policy_of s).rec i).a) ((policy_of s).rec i)
  meets k i o =
      subst (λ (j : ℕ). WithinLimits (limits_of (counts_of s) j ((policy_of s).rec i).a) ((policy_of s).rec i)) o.kind
      (S.fields.each i o.low o.high)

  pub shifts : (k : Kind) (i : ℕ) → OfKind (policy_of s) (kind_number k) i → Shifts k ((policy_of s).rec i)
  shifts RoleType i o = omega (arith, (meets 5 i o).a.high, S.range.roles.high)
  shifts UserRole i o = omega (arith, (meets 6 i o).b.high, S.range.roles.high)
  shifts RoleChange i o = omega (arith, (meets 7 i o).b.high, S.range.roles.high)
  shifts _ i o = tt

  -- what the pass over the records of the kind asks for, where its table has n entries: question 5 lets no record name a number above m,
  -- and m is below n
  pub gathers : (k : Kind) (m n : ℕ) → m < n → ((op : ℕ) → highest k (limits_of (counts_of s) (kind_number k) op) ≤ m)
      → Sound s × Room (policy_of s) k n
  gathers k m n few h = (
    S,
    record {
      at = λ i a b e.
          let l = within k (meets (kind_number k) i (record { low = a; high = b; kind = e })) in
          omega (arith, h ((policy_of s).rec i).a);
    },
  )
