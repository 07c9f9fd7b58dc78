-- A truth value that says whether a statement holds, both ways: the promise of every function that answers yes or no.
use Rattle.std.specs.Prelude.{Bool, true, false}

abbrev pub Decides : Bool → Type 0 → Type 0
Decides true P = P
Decides false P = P → ⊥
