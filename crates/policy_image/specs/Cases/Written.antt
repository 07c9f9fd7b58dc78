-- Policy images written out, for theorems about named images: every number below 256, so that each fits its low byte.
use Rattle.std.specs.Prelude.{ℕ, List, [], ◌∷◌, ◌++◌, cond, eqb, length}

-- a record, by its bytes
abbrev pub line : ℕ → ℕ → ℕ → ℕ → ℕ → ℕ → ℕ → ℕ → ℕ → ℕ → ℕ → List ℕ
line next kind a b c d e m0 m1 m2 m3 = next ∷ 0 ∷ kind ∷ a ∷ b ∷ c ∷ d ∷ e ∷ m0 ∷ m1 ∷ m2 ∷ m3 ∷ []

-- a record of each kind; the first argument is its next
abbrev pub domain : ℕ → ℕ → List ℕ
domain next t = line next 1 t 0 0 0 0 0 0 0 0

abbrev pub permissions : ℕ → ℕ → ℕ → List ℕ
permissions next class m = line next 2 class 0 0 0 0 m 0 0 0

abbrev pub flow : ℕ → ℕ → ℕ → ℕ → List ℕ
flow next class way m = line next 3 class way 0 0 0 m 0 0 0

abbrev pub allow : ℕ → ℕ → ℕ → ℕ → ℕ → List ℕ
allow next source target class m = line next 4 source target class 0 0 m 0 0 0

abbrev pub role_type : ℕ → ℕ → ℕ → List ℕ
role_type next r t = line next 5 r t 0 0 0 0 0 0 0

abbrev pub user_role : ℕ → ℕ → ℕ → List ℕ
user_role next u r = line next 6 u r 0 0 0 0 0 0 0

abbrev pub role_change : ℕ → ℕ → ℕ → List ℕ
role_change next r1 r2 = line next 7 r1 r2 0 0 0 0 0 0 0

abbrev pub constraint : ℕ → ℕ → ℕ → ℕ → List ℕ
constraint next class m root = line next 8 class 0 0 root 0 m 0 0 0

abbrev pub node : ℕ → ℕ → ℕ → ℕ → ℕ → List ℕ
node next op b left right = line next 9 op b 0 0 0 left 0 right 0

-- the nine heads, then the records one after the other
abbrev pub heads : List ℕ → List ℕ
heads [] = []
heads (h ∷ hs) = h ∷ 0 ∷ heads hs

abbrev pub lines : List (List ℕ) → List ℕ
lines [] = []
lines (r ∷ rs) = r ++ lines rs

-- nine heads: none has a chain; that of kind k alone has one, which begins at record 1
abbrev pub no_chain : List ℕ
no_chain = 0 ∷ 0 ∷ 0 ∷ 0 ∷ 0 ∷ 0 ∷ 0 ∷ 0 ∷ 0 ∷ []

abbrev pub chain_of : ℕ → List ℕ
chain_of k = h 1 ∷ h 2 ∷ h 3 ∷ h 4 ∷ h 5 ∷ h 6 ∷ h 7 ∷ h 8 ∷ h 9 ∷ []
  where
    h : ℕ → ℕ
    h j = cond (eqb j k) 1 0

-- the image with T types, R roles, U users and C classes
abbrev pub image : ℕ → ℕ → ℕ → ℕ → List ℕ → List (List ℕ) → List ℕ
image t r u c hs rs = t ∷ r ∷ u ∷ c ∷ length rs ∷ 0 ∷ (heads hs ++ lines rs)
