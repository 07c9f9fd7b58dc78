-- The items of allow records: two for each record that counts. That of its source is even, goes in the source's block and names the
-- target; that of its target is odd, and the other way round. An item has a code, by which it is sorted; the two have one mask.
use Rattle.std.specs.Prelude.{◌≡◌, true, cond, List, ℕ, ◌+◌, ◌*◌, ◌/◌, ◌%◌, ◌≤◌, ◌<◌, eqb, get_or}
use Rattle.std.specs.Int.Bits.{bit_and}
use Rattle.base.specs.Ranges.{Within}
use Rattle.policy_image.specs.declared.records.Record.{Record}
use Rattle.policy_image.specs.Policy.{Policy}
use Rattle.context.specs.Codes.{event_at}
use Rattle.relations.specs.Relations.{target_of, α}
-- what is said of items in general
pub use Rattle.sorting.specs.Inner.Entries.{code_in, Gives}
use Rattle.plan_index.specs.Inner.Codes.{type_codes, key_codes, items, key_code, item_code}
use Rattle.plan_index.specs.Inner.Index.{Ranged}

-- item x is that of the record r in the block of `own`, naming `other`: its mask is cut to the permissions that the class has
pub record ItemOf (codes masks perms : List ℕ) (x own other : ℕ) (r : Record) : Type 0 where
  pub code : get_or codes x 0 ≡ item_code own (key_code r.c other)
  pub mask : get_or masks (x / 2) 0 ≡ bit_and r.mask (get_or perms r.c 0)

-- the two items of a record are written, the nth that has some, and what stood before them stays
pub record ItemsPut (perms : List ℕ) (r : Record) (n : ℕ) (codes masks codes' masks' : List ℕ) : Type 0 where
  pub source : ItemOf codes' masks' perms (2 * n) r.a (target_of r) r
  pub target : ItemOf codes' masks' perms (2 * n + 1) (target_of r) r.a r
  pub code : (x : ℕ) → x < 2 * n → get_or codes' x 0 ≡ get_or codes x 0
  pub mask : (x : ℕ) → x < n → get_or masks' x 0 ≡ get_or masks x 0

-- what an item gives to a side: its mask where it is of that side, 0 the source's and 1 the target's
abbrev pub side_mask : List ℕ → ℕ → ℕ → ℕ
side_mask masks side x = cond (eqb (x % 2) side) (get_or masks (x / 2) 0) 0

-- the items give in the block of type t, for class c, other type o and permission q, just what R says
pub record Says (R : ℕ → ℕ → ℕ → ℕ → Type 0) (code give : ℕ → ℕ) (n : ℕ) : Type 0 where
  pub sound : (t c o q : ℕ) → c < 32 → o < type_codes → Gives code give n (item_code t (key_code c o)) q → R t c o q
  pub whole : (t c o q : ℕ) → R t c o q → Gives code give n (item_code t (key_code c o)) q

-- the code k names one of the types, a class, and one of the types
pub record Owned (types k : ℕ) : Type 0 where
  pub own : Within 1 types (k / key_codes)
  pub key : Ranged types (k % key_codes)

-- the n items give just what α says by the allow records that count
pub record Extracted (p : Policy) (codes masks : List ℕ) (n : ℕ) : Type 0 where
  pub few : n ≤ items
  pub owned : (x : ℕ) → x < n → Owned p.counts.types (get_or codes x 0)
  pub writes : Says (λ t c o q. α p t o (event_at c q) ≡ true) (code_in codes) (side_mask masks 0) n
  pub reads : Says (λ t c o q. α p o t (event_at c q) ≡ true) (code_in codes) (side_mask masks 1) n
