use Rattle.plan.specs.Inner.Regions.{leads_start}
use Rattle.base.specs.Inner.Fill.{Filled}
use Rattle.plan.specs.Inner.Leads.{EntryLeads}
use Rattle.plan.proofs.leads.lead_entries.Given as goal

abbrev pub invariant-loop-j : goal.invariant-loop-j
invariant-loop-j l = Filled (λ i v. EntryLeads l.alike l.initial.plan i v) l.initial.plan l.plan leads_start 0 l.j
