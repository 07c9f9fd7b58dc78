-- Laws of shapes: where a record's link stands, and what is known of an image's links by its shape.
use Prim.Native.Nat.{ℕ, ◌+◌, ◌*◌, ◌-◌, ◌≤◌}
use mathlib.Core.Bool.{Bool}
use mathlib.Core.List.{List}
use mathlib.Core.Path.{◌≡◌, ap}
use native.Mathlib.Nat.{mul-add, mul-le-mul_left, mul-le-mul_right}
use native.Mathlib.Omega.{arith}
use lib.ListN.{length}
use Rattle.base.specs.Chain.{Linked}
use Rattle.base.specs.Inner.Decides.{Decides}
use Rattle.chains.specs.declared.Shape.{Shape}
use Rattle.chains.specs.Inner.Links.{links_in, HasShape, LinksRising, ShapeOf}

module _ (s : List ℕ) (f : Shape) (F : HasShape s f) where
  -- the link of record k lies within the image, and there are no more records than bytes
  pub link_within : (k : ℕ) → 1 ≤ k → k ≤ f.count → f.records + f.stride * (k - 1) + 2 ≤ length s
  link_within k low high =
      let h : k - 1 + 1 ≤ f.count = omega arith in
      omega (arith, mul-le-mul_left f.stride h, mul-add f.stride (k - 1) 1)

  pub count_within : f.count ≤ length s
  count_within = omega (arith, mul-le-mul_right f.count F.linked)

module _ {s : List ℕ} {l : Linked} {a b : ℕ} {f : Shape} (S : ShapeOf s l a b f) where
  pub head_of : (h : ℕ) → (links_in s f).head h ≡ l.head h
  head_of h = ap (λ (x : Linked). x.head h) S.links

  pub next_of : (k : ℕ) → (links_in s f).next k ≡ l.next k
  next_of k = ap (λ (x : Linked). x.next k) S.links

  pub count_of : f.count ≡ l.size
  count_of = ap (λ (x : Linked). x.size) S.links

  pub rising_of : (r : Bool) → Decides r (LinksRising (links_in s f) f.first f.end) → Decides r (LinksRising l a b)
  rising_of r h = rw (← S.links, ← S.first, ← S.end) h
