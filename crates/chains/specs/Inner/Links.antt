-- The links that an image has by its shape.
use Rattle.std.specs.Prelude.{ℕ, ◌+◌, ◌*◌, ◌-◌, ◌≤◌, ◌<◌, List, ◌≡◌, length}
use Rattle.base.specs.Bytes.{u16_at}
use Rattle.base.specs.Chain.{Linked, Rises}
use Rattle.chains.specs.declared.Shape.{Shape}

-- the twin of MOST_CHAINS
abbrev pub most_chains : ℕ
most_chains = 16

unfoldable pub head_in : List ℕ → Shape → ℕ → ℕ
head_in s f h = u16_at s (f.heads + 2 * h)

unfoldable pub next_in : List ℕ → Shape → ℕ → ℕ
next_in s f k = u16_at s (f.records + f.stride * (k - 1))

abbrev pub links_in : List ℕ → Shape → Linked
links_in s f = record { size = f.count; head = head_in s f; next = next_in s f }

-- the image is long enough for its shape
pub record HasShape (s : List ℕ) (f : Shape) : Type 0 where
  pub few : f.end ≤ most_chains
  pub heads : f.heads + 2 * f.end ≤ length s
  pub linked : 2 ≤ f.stride
  pub records : f.records + f.stride * f.count ≤ length s

-- the chains are those from a to below b: each head is 0 or the number of a record ..
abbrev pub HeadsAreRecords : Linked → ℕ → ℕ → Type 0
HeadsAreRecords l a b = (h : ℕ) → a ≤ h → h < b → l.head h ≤ l.size

-- .. and each next is 0, or above its record and the number of a record
abbrev pub NextsRising : Linked → Type 0
NextsRising l = (i : ℕ) → 1 ≤ i → i ≤ l.size → Rises l i

pub record LinksRising (l : Linked) (a b : ℕ) : Type 0 where
  pub heads : HeadsAreRecords l a b
  pub nexts : NextsRising l

-- f is the shape of an image whose links are l, with chains from a to below b
pub record ShapeOf (s : List ℕ) (l : Linked) (a b : ℕ) (f : Shape) : Type 0 where
  pub fits : HasShape s f
  pub links : links_in s f ≡ l
  pub first : f.first ≡ a
  pub end : f.end ≡ b
