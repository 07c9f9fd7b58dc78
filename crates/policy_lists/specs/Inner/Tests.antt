-- Tests of the records of a list, and lists whose kinds come in turn.
use Rattle.std.specs.Prelude.{ℕ, ◌≤◌, ◌≡◌, Bool, true, false, ◌&&◌, ◌||◌, List, [], ◌∷◌}
use Rattle.policy_image.specs.declared.records.Record.{Record}
use Rattle.policy_lists.specs.Lists.{with_next}

-- whether some record passes the test
abbrev pub some_in : List Record → (Record → Bool) → Bool
some_in [] f = false
some_in (r ∷ l) f = f r || some_in l f

-- whether every record passes the test
abbrev pub every_in : List Record → (Record → Bool) → Bool
every_in [] f = true
every_in (r ∷ l) f = f r && every_in l f

-- kinds from a to 9, each record's at least that of the one before
abbrev pub InTurnFrom : ℕ → List Record → Type 0
InTurnFrom a [] = Unit
InTurnFrom a (r ∷ l) = (a ≤ r.kind) × (r.kind ≤ 9) × InTurnFrom r.kind l

-- "kinds 1 to 9 in turn"
abbrev pub KindsInTurn : List Record → Type 0
KindsInTurn l = InTurnFrom 1 l

-- a test that does not look at the next
abbrev pub IgnoresNext : (Record → Bool) → Type 0
IgnoresNext f = (n : ℕ) (r : Record) → f (with_next n r) ≡ f r
