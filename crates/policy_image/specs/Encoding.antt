-- What it is to write a policy (paper 01, "The policy image"): the bytes of a decoded policy, the other way round from Layout.antt.
use Rattle.std.specs.Prelude.{ℕ, List, ◌∷◌, ◌++◌}
use Rattle.base.specs.Writing.{low16, low32, list_upto}
use Rattle.policy_image.specs.declared.counts.Counts.{Counts}
use Rattle.policy_image.specs.declared.records.Record.{Record}
use Rattle.policy_image.specs.Policy.{Policy}

-- "Bytes 0 to 3: T types, R roles, U users, C classes. Bytes 4–5: N records."
unfoldable pub count_bytes : Counts → List ℕ
count_bytes c = c.types ∷ c.roles ∷ c.users ∷ c.classes ∷ low16 c.records

-- "Header of 24 bytes. .. Bytes 6–23: nine chain heads of two bytes, for kinds 1 to 9."
unfoldable pub header_bytes : Counts → (ℕ → ℕ) → List ℕ
header_bytes c head = count_bytes c ++ list_upto (λ k. low16 (head k)) 9

-- "A record: bytes 0–1 next, 2 kind, 3 a, 4 b, 5 c, 6 d, 7 e, 8–11 mask."
unfoldable pub record_bytes : Record → List ℕ
record_bytes r = low16 r.next ++ (r.kind ∷ r.a ∷ r.b ∷ r.c ∷ r.d ∷ r.e ∷ low32 r.mask)

-- the header, then "Records are numbered 1 to N"
unfoldable pub image_of : Policy → List ℕ
image_of p = header_bytes p.counts p.head ++ list_upto (λ k. record_bytes (p.rec k)) p.size
