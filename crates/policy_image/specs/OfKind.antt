-- What the records of one kind state: "Records of one kind add up" (paper 01).
use Rattle.std.specs.Prelude.{ℕ, Bool, not, ◌&&◌, ◌||◌, eqb}
use Rattle.base.specs.Upto.{any_upto, all_upto}
use Rattle.policy_image.specs.declared.records.Record.{Record}
use Rattle.policy_image.specs.Policy.{Policy}

-- whether some record of kind k passes the test
unfoldable pub some : Policy → ℕ → (Record → Bool) → Bool
some p k f = any_upto (λ i. eqb (p.rec i).kind k && f (p.rec i)) p.size

-- whether some record of kind k that counts passes the test
abbrev pub some_counted : Policy → ℕ → (Record → Bool) → Bool
some_counted p k f = any_upto (λ i. eqb (p.rec i).kind k && (p.counted i && f (p.rec i))) p.size

-- whether every record of kind k passes the test
unfoldable pub every : Policy → ℕ → (Record → Bool) → Bool
every p k f = all_upto (λ i. not (eqb (p.rec i).kind k) || f (p.rec i)) p.size
