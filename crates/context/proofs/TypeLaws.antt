-- The places of the contexts of a type.
use mathlib.Core.Path.{◌≡◌, sym, subst, ap, ◌∙◌}
use Prim.Native.Nat.{ℕ, ◌+◌, ◌-◌, ◌*◌, ◌/◌, ◌%◌, ◌^◌, ◌≤◌, ◌<◌}
use native.Mathlib.Nat.{mod-lt, div-add-mod', div-lt_iff_lt-mul, le-div_iff_mul-le, mul-le-mul_left, mul-le-mul_right, mul-one}
use native.Mathlib.Omega.{arith}
use Rattle.policy_image.specs.declared.counts.Counts.{Counts}
use Rattle.context.specs.declared.Context.{Context}
use Rattle.context.specs.Codes.{context_at}
use Rattle.context.specs.Ranges.{ContextInRange}
use Rattle.context.specs.Inner.Places.{Countable, context_count, context_index, context_at_index, first_place, pair_count, role_at, user_at, OfType}
use Rattle.context.proofs.PlaceLaws.{at_index, at_in_range, types_part}

-- sums of products, for `omega`
within_block : (q r u y : ℕ) → q * r * u ≤ y → y < (q + 1) * r * u → y - q * r * u < r * u
within_block q r u y l h = omega arith

pair_place : (q r u d m i y : ℕ) → d * u + m ≡ i → q * r * u + i ≡ y → (q * r + d) * u + m ≡ y
pair_place q r u d m i y e f = omega arith

module _ {n : Counts} (C : Countable n) where
  pub type_lt : (o y : ℕ) → y < first_place n o → (context_at_index n y).ty < o
  type_lt o y h =
      let a : y / n.users < (o - 1) * n.roles = (div-lt_iff_lt-mul C.users).1 h in
      let b : y / n.users / n.roles < o - 1 = (div-lt_iff_lt-mul C.roles).1 a in
      omega arith

  pub type_le : (o y : ℕ) → first_place n o ≤ y → o ≤ (context_at_index n y).ty
  type_le o y h =
      let a : (o - 1) * n.roles ≤ y / n.users = (le-div_iff_mul-le C.users).1 h in
      let b : o - 1 ≤ y / n.users / n.roles = (le-div_iff_mul-le C.roles).1 a in
      omega arith

  -- the contexts between the start of a type and that of the next are of the type
  pub type_is : (o y : ℕ) → first_place n o ≤ y → y < first_place n (o + 1) → (context_at_index n y).ty ≡ o
  type_is o y l h = let a = type_le o y l in let b = type_lt (o + 1) y h in omega arith

  pub roles_le : (o : ℕ) → o ≤ n.types + 1 → (o - 1) * n.roles ≤ n.types * n.roles
  roles_le o h = let a : o - 1 ≤ n.types = omega arith in mul-le-mul_right n.roles a

  pub start_le : (o : ℕ) → o ≤ n.types + 1 → first_place n o ≤ context_count n
  start_le o h = mul-le-mul_right n.users (roles_le o h)

  pub roles_few : (o : ℕ) → o ≤ n.types + 1 → (o - 1) * n.roles < 2 ^ 26
  roles_few o h = omega (arith, roles_le o h, types_part n C)

  pub start_few : (o : ℕ) → o ≤ n.types + 1 → first_place n o < 2 ^ 26
  start_few o h = omega (arith, start_le o h, C.few)

  pub type_few : (o : ℕ) → o ≤ n.types → o < 2 ^ 26
  type_few o h =
      let a : 1 ≤ n.roles = C.roles in
      let b : o * 1 ≤ o * n.roles = mul-le-mul_left o a in
      let k : o + 1 - 1 ≡ o = omega arith in
      let d : o * n.roles < 2 ^ 26 = subst (λ (i : ℕ). i * n.roles < 2 ^ 26) k (roles_few (o + 1) (omega arith)) in
      omega (arith, mul-one o)

  pub start_next : (o : ℕ) → first_place n o ≤ first_place n (o + 1)
  start_next o = let a : o - 1 ≤ o + 1 - 1 = omega arith in mul-le-mul_right n.users (mul-le-mul_right n.roles a)

  -- role and user of a pair, in range
  pub role_high : {i : ℕ} → i < pair_count n → role_at n i ≤ n.roles
  role_high h = let a = (div-lt_iff_lt-mul C.users).1 h in omega arith

  pub user_high : (i : ℕ) → user_at n i ≤ n.users
  user_high i = let a = mod-lt i C.users in omega arith

  -- every place is one of its context's type
  pub own_type : {y : ℕ} → y < context_count n → OfType n (context_at_index n y).ty y
  own_type {y} h =
      let q : ℕ = y / n.users / n.roles in
      let e : q + 1 - 1 ≡ q = omega arith in
      let e' : q + 1 + 1 - 1 ≡ q + 1 = omega arith in
      let l : q * n.roles * n.users ≤ y = (le-div_iff_mul-le C.users).0 ((le-div_iff_mul-le C.roles).0 (let z : q ≤ q = omega arith in z)) in
      let k : y < (q + 1) * n.roles * n.users = (div-lt_iff_lt-mul C.users).0 ((div-lt_iff_lt-mul C.roles).0 (let z : q < q + 1 = omega arith in z)) in
      record {
        type = (at_in_range n y C.roles C.users h).ty;
        low = subst (λ (k : ℕ). k * n.roles * n.users ≤ y) (sym e) l;
        high = subst (λ (k : ℕ). y < k * n.roles * n.users) (sym e') k;
      }

  pub own_place : {y : ℕ} {x : Context} → y < context_count n → x ≡ context_at_index n y → OfType n x.ty y
  own_place {y} h e = subst (λ (z : Context). OfType n z.ty y) (sym e) (own_type h)

  pub of_below : {o y : ℕ} → OfType n o y → y < context_count n
  of_below {o} H = let a = start_le (o + 1) (let h = H.type.high in omega arith) in let b = H.high in omega arith

  -- f is the first place of the type
  module _ {o y f : ℕ} (H : OfType n o y) (first : f ≡ first_place n o) where
    -- the place of the pair
    pub of_pair : y - f < pair_count n
    of_pair =
        let l = H.type.low in
        let e : o + 1 - 1 ≡ o - 1 + 1 = omega arith in
        rw first (within_block (o - 1) n.roles n.users y H.low (subst (λ (k : ℕ). y < k * n.roles * n.users) e H.high))

    -- the context at the place is the type with the pair
    pub of_same : context_at o (role_at n (y - f)) (user_at n (y - f)) ≡ context_at_index n y
    of_same =
        let i : ℕ = y - f in
        let x : Context = context_at o (role_at n i) (user_at n i) in
        let a : (m : ℕ) → m + 1 - 1 ≡ m = λ m. omega arith in
        let low = H.low in
        let s : first_place n o + i ≡ y = omega arith in
        let p : ((o - 1) * n.roles + i / n.users) * n.users + i % n.users ≡ y = pair_place (o - 1) n.roles n.users (i / n.users) (i % n.users) i y (div-add-mod' i n.users) s in
        let e : context_index n x ≡ y = simp a p in
        let range : ContextInRange n x = record {
          ty = H.type;
          role = record { low = omega arith; high = role_high of_pair };
          user = record { low = omega arith; high = user_high i };
        } in
        sym (at_index n x range) ∙ ap (context_at_index n) e
