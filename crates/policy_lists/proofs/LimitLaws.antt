-- The ranges of question 5 grow with the counts.
use Prim.Native.Nat.{ℕ, zero, suc, ◌≤◌}
use mathlib.Core.List.{List, [], ◌∷◌}
use native.Mathlib.Omega.{arith}
use lib.ListN.{get_or}
use Rattle.base.specs.Ranges.{Within}
use Rattle.policy_image.specs.declared.counts.Counts.{Counts}
use Rattle.policy_image.specs.declared.records.Record.{Record}
use Rattle.policy_fields.specs.declared.Range.{Range}
use Rattle.policy_fields.specs.declared.Limits.{Limits}
use Rattle.policy_fields.specs.Fields.{range, none, node_limits, kind_limits, limits_of, WithinLimits, Fits}

-- ---- wider ranges
abbrev Wider : Range → Range → Type 0
Wider r s = (s.low ≤ r.low) × (r.high ≤ s.high)

abbrev WiderLimits : Limits → Limits → Type 0
WiderLimits l m =
    Wider l.a m.a × Wider l.b m.b × Wider l.c m.c × Wider l.d m.d × Wider l.e m.e × Wider l.mask m.mask

kept : (r : Range) → Wider r r
kept r = (omega arith, omega arith)

more : (lo n m : ℕ) → n ≤ m → Wider (range lo n) (range lo m)
more lo n m h = (omega arith, h)

all_kept : (l : Limits) → WiderLimits l l
all_kept l = (kept l.a, kept l.b, kept l.c, kept l.d, kept l.e, kept l.mask)

abbrev WiderTable : List Limits → List Limits → Type 0
WiderTable [] [] = Unit
WiderTable [] (y ∷ m) = ⊥
WiderTable (x ∷ l) [] = ⊥
WiderTable (x ∷ l) (y ∷ m) = WiderLimits x y × WiderTable l m

wider_at : (l m : List Limits) → WiderTable l m → (k : ℕ) → WiderLimits (get_or l k none) (get_or m k none)
wider_at [] [] h k = all_kept none
wider_at [] (y ∷ m) h k = absurd h
wider_at (x ∷ l) [] h k = absurd h
wider_at (x ∷ l) (y ∷ m) h zero = h.0
wider_at (x ∷ l) (y ∷ m) h (suc k) = wider_at l m h.1 k

within_wider : (r s : Range) (n : ℕ) → Wider r s → Within r.low r.high n → Within s.low s.high n
within_wider r s n w h = record { low = omega (arith, w.0, h.low); high = omega (arith, w.1, h.high) }

wider_fits : (l m : Limits) (r : Record) → WiderLimits l m → WithinLimits l r → WithinLimits m r
wider_fits l m r w h =
    record {
      a = within_wider l.a m.a r.a w.0 h.a;
      b = within_wider l.b m.b r.b w.1 h.b;
      c = within_wider l.c m.c r.c w.2 h.c;
      d = within_wider l.d m.d r.d w.3 h.d;
      e = within_wider l.e m.e r.e w.4 h.e;
      mask = within_wider l.mask m.mask r.mask w.5 h.mask;
    }

-- ---- larger counts
pub record AtLeast (c d : Counts) : Type 0 where
  pub types : c.types ≤ d.types
  pub roles : c.roles ≤ d.roles
  pub users : c.users ≤ d.users
  pub classes : c.classes ≤ d.classes

module _ (c d : Counts) (G : AtLeast c d) where
  -- the ranges up to a count
  types : {lo : ℕ} → Wider (range lo c.types) (range lo d.types)
  types {lo} = more lo c.types d.types G.types

  roles : {lo : ℕ} → Wider (range lo c.roles) (range lo d.roles)
  roles {lo} = more lo c.roles d.roles G.roles

  users : {lo : ℕ} → Wider (range lo c.users) (range lo d.users)
  users {lo} = more lo c.users d.users G.users

  classes : {lo : ℕ} → Wider (range lo c.classes) (range lo d.classes)
  classes {lo} = more lo c.classes d.classes G.classes

  nodes_wider : WiderTable (node_limits c) (node_limits d)
  nodes_wider = (
    all_kept _,
    (
      all_kept _,
      (
        all_kept _,
        (
          all_kept _,
          (
            all_kept _,
            (
              all_kept _,
              (
                all_kept _,
                (
                  (kept _, types, kept _, kept _, kept _, kept _),
                  (
                    (kept _, types, kept _, kept _, kept _, kept _),
                    (
                      (kept _, roles, kept _, kept _, kept _, kept _),
                      (
                        (kept _, roles, kept _, kept _, kept _, kept _),
                        (
                          (kept _, users, kept _, kept _, kept _, kept _),
                          (
                            (kept _, users, kept _, kept _, kept _, kept _),
                            tt,
                          ),
                        ),
                      ),
                    ),
                  ),
                ),
              ),
            ),
          ),
        ),
      ),
    ),
  )

  kinds_wider : (op : ℕ) → WiderTable (kind_limits c op) (kind_limits d op)
  kinds_wider op = (
    all_kept _,
    (
      (types, kept _, kept _, kept _, kept _, kept _),
      (
        (classes, kept _, kept _, kept _, kept _, kept _),
        (
          (classes, kept _, kept _, kept _, kept _, kept _),
          (
            (types, types, classes, kept _, kept _, kept _),
            (
              (roles, types, kept _, kept _, kept _, kept _),
              (
                (users, roles, kept _, kept _, kept _, kept _),
                (
                  (roles, roles, kept _, kept _, kept _, kept _),
                  (
                    (classes, kept _, kept _, kept _, kept _, kept _),
                    (
                      wider_at (node_limits c) (node_limits d) nodes_wider op,
                      tt,
                    ),
                  ),
                ),
              ),
            ),
          ),
        ),
      ),
    ),
  )

  pub fits_more : (r : Record) → Fits c r → Fits d r
  fits_more r h =
      wider_fits (limits_of c r.kind r.a) (limits_of d r.kind r.a) r
      (wider_at (kind_limits c r.a) (kind_limits d r.a) (kinds_wider r.a) r.kind) h
