-- The fields of equal records and of equal counts, one by one, so that omega can use them; and the other way round.
use mathlib.Core.Path.{◌≡◌, ap}
use Rattle.policy_image.specs.declared.counts.Counts.{Counts}
use Rattle.policy_image.specs.declared.records.Record.{Record}

pub record SameFields (r s : Record) : Type 0 where
  pub next : r.next ≡ s.next
  pub kind : r.kind ≡ s.kind
  pub a : r.a ≡ s.a
  pub b : r.b ≡ s.b
  pub c : r.c ≡ s.c
  pub d : r.d ≡ s.d
  pub e : r.e ≡ s.e
  pub mask : r.mask ≡ s.mask

pub same_fields : {r s : Record} → r ≡ s → SameFields r s
same_fields q =
    record {
      next = ap (λ (x : Record). x.next) q;
      kind = ap (λ (x : Record). x.kind) q;
      a = ap (λ (x : Record). x.a) q;
      b = ap (λ (x : Record). x.b) q;
      c = ap (λ (x : Record). x.c) q;
      d = ap (λ (x : Record). x.d) q;
      e = ap (λ (x : Record). x.e) q;
      mask = ap (λ (x : Record). x.mask) q;
    }

pub record_same : {r s : Record} → SameFields r s → r ≡ s
record_same q = λ i. record { next = q.next i; kind = q.kind i; a = q.a i; b = q.b i; c = q.c i; d = q.d i; e = q.e i; mask = q.mask i }

pub record SameCounts (c d : Counts) : Type 0 where
  pub types : c.types ≡ d.types
  pub roles : c.roles ≡ d.roles
  pub users : c.users ≡ d.users
  pub classes : c.classes ≡ d.classes
  pub records : c.records ≡ d.records

pub same_counts : {c d : Counts} → c ≡ d → SameCounts c d
same_counts q =
    record {
      types = ap (λ (x : Counts). x.types) q;
      roles = ap (λ (x : Counts). x.roles) q;
      users = ap (λ (x : Counts). x.users) q;
      classes = ap (λ (x : Counts). x.classes) q;
      records = ap (λ (x : Counts). x.records) q;
    }

pub counts_same : {c d : Counts} → SameCounts c d → c ≡ d
counts_same q = λ i. record { types = q.types i; roles = q.roles i; users = q.users i; classes = q.classes i; records = q.records i }
