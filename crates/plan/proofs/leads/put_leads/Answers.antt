use mathlib.Core.Path.{refl}
use Rattle.plan.proofs.BlockLaws.{last_top}
use Rattle.plan.proofs.LeadLaws.{leads_put, table_copy}
use native.Mathlib.Omega.{arith}
use Rattle.plan.proofs.leads.put_leads.Goals as goal

pub overflow_add-last : goal.overflow_add-last
overflow_add-last c = let h = c.requires.0.types in omega arith

pub bounds-plan-last : goal.bounds-plan-last
bounds-plan-last c =
    let h = c.requires.0.types in omega (arith, c.requires.3)

pub overflow_cast-n : goal.overflow_cast-n
overflow_cast-n c =
    let h = last_top c.requires.0 c.requires.1 in omega arith

pub lead_entries-requires : goal.lead_entries-requires
lead_entries-requires c =
    (last_top c.requires.0 c.requires.1, omega (arith, c.requires.3))

pub returns : goal.returns
returns c =
    leads_put (table_copy c.requires.2 c.alike_in-alike.ensures) (last_top c.requires.0 c.requires.1) refl c.lead_entries.ensures
