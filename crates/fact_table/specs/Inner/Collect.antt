-- The facts of the records of a policy, as they stand there: a fact has a code, the kind and the key, and a mask.
use Rattle.std.specs.Prelude.{ℕ, ◌+◌, ◌*◌, ◌≤◌, ◌<◌, ◌≡◌, Bool, true, not, ◌&&◌, ◌||◌, List, eqb, leb, ltb}
use Rattle.policy_image.specs.declared.records.Record.{Record}
use Rattle.policy_image.specs.Policy.{Policy}
use Rattle.policy_facts.specs.Facts.{says_b}
use Rattle.policy_facts.specs.Inner.FactTable.{fact_key}
use Rattle.sorting.specs.Inner.Entries.{code_in}

-- whether a record says something: it is of kinds 1 to 7, and where it carries a mask, that is not empty
abbrev pub is_fact : Record → Bool
is_fact r = leb r.kind 7 && (not (eqb r.mask 0) || ltb r.kind 2 || ltb 4 r.kind)

-- whether it says two things: "flow's 3 being 1 and 2"
abbrev pub says_both : Record → Bool
says_both r = eqb r.kind 3 && eqb r.b 3

-- the record says the code, with the mask
pub record SaysFact (r : Record) (code mask : ℕ) : Type 0 where
  pub fact : is_fact r ≡ true
  pub b : ℕ
  pub says : says_b r b ≡ true
  pub code_is : code ≡ fact_key r.kind r.a b r.c
  pub mask_is : mask ≡ r.mask

-- one of records 1 to n says it
pub record Stated (p : Policy) (n code mask : ℕ) : Type 0 where
  pub of : ℕ
  pub low : 1 ≤ of
  pub high : of ≤ n
  pub says : SaysFact (p.rec of) code mask

-- it stands among the first m
pub record StandsAmong (codes given : List ℕ) (m code mask : ℕ) : Type 0 where
  pub at : ℕ
  pub below : at < m
  pub code_is : code_in codes at ≡ code
  pub mask_is : code_in given at ≡ mask

-- what the record r says is written behind the first n, which stay, and makes m of them
pub record FactsEntered (r : Record) (n : ℕ) (codes given codes' given' : List ℕ) (m : ℕ) : Type 0 where
  pub low : n ≤ m
  pub high : m ≤ n + 2
  pub code_stays : (x : ℕ) → x < n → code_in codes' x ≡ code_in codes x
  pub mask_stays : (x : ℕ) → x < n → code_in given' x ≡ code_in given x
  pub sound : (x : ℕ) → n ≤ x → x < m → SaysFact r (code_in codes' x) (code_in given' x)
  pub every : (code mask : ℕ) → SaysFact r code mask → StandsAmong codes' given' m code mask

-- the first m codes and masks are just what records 1 to n say
pub record Collected (p : Policy) (n : ℕ) (codes given : List ℕ) (m : ℕ) : Type 0 where
  pub few : m ≤ 2 * n
  pub sound : (x : ℕ) → x < m → Stated p n (code_in codes x) (code_in given x)
  pub every : (code mask : ℕ) → Stated p n code mask → StandsAmong codes given m code mask
