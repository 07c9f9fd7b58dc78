-- The bytes of a slice.
use Rattle.std.specs.Prelude.{ℕ, ◌<◌, List}
use Rattle.base.specs.Bytes.{byte_at}

-- every entry is a byte
abbrev pub AllBytes : List ℕ → Type 0
AllBytes s = (i : ℕ) → byte_at s i < 256
