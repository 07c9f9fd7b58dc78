-- The records of a policy as lists, and the policy made of a list: "The result lists kinds 1 to 9 in turn, each linked in order"
-- (paper 02, c; "records by kind from 1 to 9, each kind consecutive and linked in turn", e). Records are numbered from 1 on, as in an image.
use Rattle.std.specs.Prelude.{ℕ, zero, suc, true, ◌&&◌, cond, List, [], ◌∷◌, ◌++◌, eqb, leb, length, get_or}
use Rattle.policy_image.specs.declared.counts.Counts.{Counts}
use Rattle.policy_image.specs.declared.records.Record.{Record}
use Rattle.policy_image.specs.Policy.{Policy}

-- ---- the records of a policy
-- records 1 to n, one after the other
abbrev pub records_upto : (ℕ → Record) → ℕ → List Record
records_upto rec zero = []
records_upto rec (suc n) = records_upto rec n ++ (rec (suc n) ∷ [])

abbrev pub record_list : Policy → List Record
record_list p = records_upto p.rec p.size

-- the records of kind k of a list, in their order
abbrev pub of_kind_in : ℕ → List Record → List Record
of_kind_in k [] = []
of_kind_in k (r ∷ l) = cond (eqb r.kind k) (r ∷ of_kind_in k l) (of_kind_in k l)

-- the records of kind k of a policy, in their order
abbrev pub kind_list : Policy → ℕ → List Record
kind_list p k = of_kind_in k (record_list p)

-- ---- the policy of a list
-- what stands where a list has no record: its kind, 0, is no kind
abbrev pub no_record : Record
no_record = record { next = 0; kind = 0; a = 0; b = 0; c = 0; d = 0; e = 0; mask = 0 }

-- record i of the list
abbrev pub record_in : List Record → ℕ → Record
record_in l zero = no_record
record_in l (suc i) = get_or l i no_record

-- "each linked in order": i + 1, where record i + 1 is there and of the same kind, else 0
abbrev pub link_in : List Record → ℕ → ℕ
link_in l i = cond (leb (suc i) (length l) && eqb (record_in l (suc i)).kind (record_in l i).kind) (suc i) 0

-- a record's number where one more record stands before it; 0 is no record's
abbrev pub one_behind : ℕ → ℕ
one_behind zero = 0
one_behind (suc n) = suc (suc n)

-- the number of the first record of kind k, or 0
abbrev pub first_in : List Record → ℕ → ℕ
first_in [] k = 0
first_in (r ∷ l) k = cond (eqb r.kind k) 1 (one_behind (first_in l k))

-- a record with its next replaced, and counts with the number of records replaced
abbrev pub with_next : ℕ → Record → Record
with_next n r =
    record { next = n; kind = r.kind; a = r.a; b = r.b; c = r.c; d = r.d; e = r.e; mask = r.mask }

abbrev pub with_records : ℕ → Counts → Counts
with_records n c = record { types = c.types; roles = c.roles; users = c.users; classes = c.classes; records = n }

-- the policy whose records are those of the list, all of which count
abbrev pub policy_from : Counts → List Record → Policy
policy_from c l =
    record {
      counts = with_records (length l) c;
      size = length l;
      head = first_in l;
      rec = λ i. with_next (link_in l i) (record_in l i);
      counted = λ i. true;
    }
